-- An expression, before its rule is applied.
use Rattle.std.specs.Prelude.{ℕ, Option, Some, None}
use Rattle.type_terms.specs.declared.form.TermId.{TermId}
use Rattle.typing_rules.specs.Terms.{Term}
use Rattle.typing_rules.specs.Judgements.{Judgement, Meets, Fine}
use Rattle.value_scopes.specs.declared.place.Place.{Place}
use Rattle.value_scopes.specs.declared.place.Around.TheVariants as around
use Rattle.judging.specs.declared.site.Site.{Site}

-- the type that is wanted is met
abbrev pub wanted_met : Option Term → Judgement (Unit {0})
wanted_met None = Fine
wanted_met (Some u) = Meets u Fine

-- where the rule of the expression at this token is applied
abbrev pub site_of : Place → ℕ → Option TermId → Site
site_of y at w = record { at = at; place = record y { around = around.Other }; around = y.around; wanted = w }
