-- What is known at a place as the code has it, and the context of the rules that it is in a table of terms.
use Rattle.std.specs.Prelude.{List, map, option_map}
use Rattle.type_terms.specs.declared.form.Form.{Form}
use Rattle.typing_rules.specs.AsyncPlaces.{Body, Update, Query, Local, Around, Awaited, Named, Labelled, Other}
use Rattle.typing_rules.specs.Contexts.{Context, Label}
use Rattle.type_definitions.specs.Meanings.{term}
use Rattle.type_scopes.specs.Scopes.{seen}
use Rattle.value_scopes.specs.declared.place.Body as value_body
use Rattle.value_scopes.specs.declared.place.Body.TheVariants as b
use Rattle.value_scopes.specs.declared.place.Around as value_around
use Rattle.value_scopes.specs.declared.place.Around.TheVariants as a
use Rattle.value_scopes.specs.declared.place.Place.{Place}
use Rattle.value_scopes.specs.declared.scopes.Label as value_label
use Rattle.value_scopes.specs.declared.scopes.Scopes.{Scopes}
use Rattle.value_scopes.specs.Values.{scope_in}

abbrev pub body_in : value_body.Body → Body
body_in b.Update = Update
body_in b.Query = Query
body_in b.Local = Local

abbrev pub around_in : value_around.Around → Around
around_in a.Awaited = Awaited
around_in a.Named = Named
around_in a.Labelled = Labelled
around_in a.Other = Other

abbrev pub label_in : List Form → value_label.Label → Label
label_in later l = record { type = term later l.kind; loop = l.is_loop }

abbrev pub context_in : List Form → Scopes → Place → Context
context_in later s p = record {
  values = scope_in later s.values;
  imports = s.imports;
  types = seen s.types;
  labels = map (λ q. (q.0, label_in later q.1)) s.labels;
  returns = option_map (term later) p.returns;
  ends = p.ends;
  body = body_in p.body;
  around = around_in p.around;
}
