-- Why a program is not typed.
use Rattle.typing_rules.specs.declared.condition.Condition.TheVariants as condition
use Rattle.met_types.specs.declared.fault.MeetFault.{MeetFault}
use Rattle.met_types.specs.declared.fault.MeetFault.TheVariants as meet
use Rattle.type_judgements.specs.declared.refusal.Refusal.{Refusal}
use Rattle.type_judgements.specs.declared.refusal.Refusal.TheVariants as refusal

abbrev pub memory : Refusal
memory = refusal.Memory

abbrev pub refused_by : MeetFault → Refusal
refused_by meet.TooManyTypes = refusal.False 0 condition.TooManyTypes
refused_by meet.Memory = refusal.Memory
