-- The first of the rules that are broken.
use Rattle.std.specs.Prelude.{◌≡◌, ◌⊎◌, List, Option, Some}
use Rattle.mo_syntax.specs.declared.place.Place.{Place}
use Rattle.mo_scopes.specs.declared.finding.Finding.{Finding}
use Rattle.mo_scopes.specs.declared.rule.Rule.TheVariants as rule
use Rattle.mo_scopes.specs.declared.rule.Breach.{Breach}
use Rattle.mo_names.specs.ProgramNames.{breaches}
use Rattle.mo_names.specs.Order.{Among}
use Rattle.mo_names.specs.Bound.{Comes}
use Rattle.mo_order.specs.Least.{Least}

-- of those breaches the first; none only where there are none
abbrev pub FirstOf : (Breach → Type 0) → Option Breach → Type 0
FirstOf = Least Comes

-- It is one of what was found, or a value is used before it is defined at this place.
abbrev pub FoundOrEarly : List Finding → Option Place → Breach → Type 0
FoundOrEarly found early b = Among b (breaches found) ⊎ ((b.rule ≡ rule.UsedBeforeDefined) × (early ≡ Some b.place))
