-- What a refusal leaves.
use Rattle.met_types.specs.States.{State, Left}
use Rattle.type_judgements.specs.declared.refusal.Refusal.{Refusal}
use Rattle.type_judgements.specs.declared.refusal.Refusal.TheVariants as refusal

-- where a condition is false, the table of terms may have grown
abbrev pub LeavesOn : State → State → Refusal → Type 0
LeavesOn old new (refusal.False place c) = Left old new
LeavesOn old new refusal.Memory = Unit {0}
