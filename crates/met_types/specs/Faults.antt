-- Why a type cannot be met.
use Rattle.mo_types.specs.declared.fault.TypesFault.{TypesFault}
use Rattle.mo_types.specs.declared.fault.TypesFault.TheVariants as graph
use Rattle.met_types.specs.declared.fault.MeetFault.{MeetFault}
use Rattle.met_types.specs.declared.fault.MeetFault.TheVariants as meet

abbrev pub memory_fault : MeetFault
memory_fault = meet.Memory

abbrev pub from_graph : TypesFault → MeetFault
from_graph graph.TooManyTypes = meet.TooManyTypes
from_graph graph.Memory = meet.Memory

-- where the fault is TooManyTypes, p holds
abbrev pub IfTooMany : MeetFault → Type 0 → Type 0
IfTooMany meet.TooManyTypes p = p
IfTooMany meet.Memory p = Unit {0}
