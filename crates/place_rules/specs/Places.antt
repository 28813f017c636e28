-- What may be assigned to, as the rules judge it.
use Rattle.std.specs.Prelude.{ℕ, None}
use Rattle.typing_rules.specs.AbstractSyntax as p
use Rattle.typing_rules.specs.Expressions.{PlaceRule}
use Rattle.typing_rules.specs.Judgements.{Judgement}
use Rattle.typing_rules.specs.TypedTrees.{Typed}
use Rattle.value_scopes.specs.declared.place.Around.TheVariants as around
use Rattle.value_scopes.specs.declared.place.Place.{Place}
use Rattle.judging.specs.declared.site.Site.{Site}
use Rattle.judging.specs.Views.{View, context, definitions}

abbrev pub place_rule : Site → p.Form ℕ → View → Judgement Typed
place_rule x f v = PlaceRule (definitions v) (context v x.place) x.at f

-- where it stands: at this token, in the same body
abbrev pub site_in : Place → ℕ → Site
site_in e at = record { at = at; place = record e { around = around.Other }; around = around.Other; wanted = None }
