-- What a rule that asks nothing comes to.
use Rattle.std.specs.Prelude.{◌≡◌, ℕ, Bool, true, false, Result, Ok, Err}
use Rattle.typing_rules.specs.AbstractSyntax.{Pattern}
use Rattle.typing_rules.specs.AbstractSyntax as p
use Rattle.typing_rules.specs.Judgements.{Judgement, Fails, Fine}
use Rattle.type_judgements.specs.declared.refusal.Refusal.{Refusal}
use Rattle.type_judgements.specs.declared.refusal.Refusal.TheVariants as refusal

-- the judgement is this, whatever types were met
abbrev pub IsVerdict : Judgement (Unit {0}) → Result (Unit {0}) Refusal → Type 0
IsVerdict j (Ok u) = j ≡ Fine
IsVerdict j (Err (refusal.False place c)) = j ≡ Fails c place
IsVerdict j (Err refusal.Memory) = Unit {0}

abbrev pub is_variable : Pattern ℕ → Bool
is_variable (p.pattern at (p.Variable x)) = true
is_variable (p.pattern at _) = false
