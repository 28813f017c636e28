-- What is judged for each item that `for` goes over.
use Rattle.std.specs.Prelude.{ℕ, List}
use Rattle.type_terms.specs.declared.form.Form.{Form}
use Rattle.type_terms.specs.declared.form.TermId.{TermId}
use Rattle.typing_rules.specs.AbstractSyntax.{Expression, Pattern}
use Rattle.typing_rules.specs.AbstractSyntax as p
use Rattle.typing_rules.specs.Ends.{Has}
use Rattle.typing_rules.specs.Judgements.{Gives, Judgement, Meets, Part}
use Rattle.typing_rules.specs.Patterns.{Stands}
use Rattle.typing_rules.specs.Terms.{Term, unit}
use Rattle.typing_rules.specs.TypedTrees.{Note, Typed}
use Rattle.met_types.specs.States.{State}
use Rattle.type_scopes.specs.Scopes.{seen}
use Rattle.typed_patterns.specs.Making.{pattern_in}
use Rattle.judging.specs.declared.site.Site.{Site}
use Rattle.judging.specs.Views.{View, definitions, kind_reached, typed_in, wanted_in}
use Rattle.scope_judging.specs.Rules.{loop_under, stands}
use Rattle.iteration_rules.specs.declared.turns.Turn.{Turn}

-- a pattern, and the body of a loop with its names
abbrev pub turn : Site → Pattern ℕ → TermId → Expression ℕ → View → Judgement (Pattern Note × Typed)
turn x q id b v = Part (stands q id v) (λ r. Part (loop_under x b r.0 v) (λ y. Gives (r.1, y)))

-- `for` over such items
abbrev pub passes : Site → Pattern ℕ → Expression ℕ → Typed → Term → View → Judgement Typed
passes x q b y u v = Meets u (Part (Stands (definitions v) (seen v.scopes.types) q u) (λ r. Part (loop_under x b r.0 v) (λ z. Has x.at (wanted_in v x.wanted) unit (p.For r.1 y z))))

-- ---- what is given, as it is seen in a table

abbrev pub turn_in : Turn → List Form → Pattern Note × Typed
turn_in made later = (pattern_in made.pattern later, typed_in made.body later)

abbrev pub turn_reached : State → Turn → Type 0
turn_reached s made = kind_reached s made.body
