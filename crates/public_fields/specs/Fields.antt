-- One field of a list.
use Rattle.std.specs.Prelude.{ℕ, Bool, true, false}
use Rattle.typing_rules.specs.AbstractSyntax.{Declaration}
use Rattle.typing_rules.specs.Judgements.{Judgement, Fine}
use Rattle.typing_rules.specs.PublicFields.{PublicField}

-- a declaration that is public, or not
abbrev pub field_if : Bool → Declaration ℕ → Judgement (Unit {0})
field_if true d = PublicField d
field_if false d = Fine
