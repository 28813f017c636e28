-- Judgements that give nothing, by the condition that is false.
use Rattle.std.specs.Prelude.{ℕ, Bool, true, false, Option, Some, None}
use Rattle.typing_rules.specs.declared.condition.Condition.{Condition}
use Rattle.typing_rules.specs.declared.condition.Condition.TheVariants as condition
use Rattle.typing_rules.specs.Judgements.{Judgement, Fails, Fine}

abbrev pub by_fault : ℕ → Option Condition → Judgement (Unit {0})
by_fault at None = Fine
by_fault at (Some c) = Fails c at

-- of a literal without a sign, whose type has it or not
abbrev pub fault_of : Bool → Bool → Option Condition
fault_of false true = None
fault_of minus holds = Some condition.PatternType
