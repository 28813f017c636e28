-- What checking comes to, as the rules see it.
use Rattle.std.specs.Prelude.{Option, Some, None, Result, Ok, Err}
use Rattle.typing_rules.specs.Answers.{Fault, fault}
use Rattle.type_judgements.specs.declared.refusal.Refusal.{Refusal}
use Rattle.type_judgements.specs.declared.refusal.Refusal.TheVariants as refusal
use Rattle.mo_check.specs.declared.fault.TypeFault.{TypeFault}
use Rattle.mo_check.specs.declared.fault.TypeFault.TheVariants as type_fault

-- want of memory is no fault
abbrev pub fault_in : TypeFault → Option Fault
fault_in (type_fault.False place c) = Some (fault c place)
fault_in type_fault.Memory = None

abbrev pub seen : {Made : Type 0} → Result Made TypeFault → Result Made (Option Fault)
seen (Ok made) = Ok made
seen (Err f) = Err (fault_in f)

abbrev pub memory_fault : TypeFault
memory_fault = type_fault.Memory

-- the fault that a refusal is
abbrev pub fault_by : Refusal → TypeFault
fault_by (refusal.False place c) = type_fault.False place c
fault_by refusal.Memory = memory_fault
