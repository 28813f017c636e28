-- The exit status of the program.
use Rattle.std.specs.Prelude.{ℕ}
use Rattle.mo_command.specs.declared.status.Status.{Status}
use Rattle.mo_command.specs.declared.status.Status.TheVariants.{Done, Refused, Usage, ReadFault, WriteFault, NoMemory, BadScript, NotYet, BadModule, NoFile, NotAccepted}

abbrev pub code_of : Status → ℕ
code_of Done = 0
code_of (Refused source) = 1
code_of Usage = 2
code_of ReadFault = 3
code_of WriteFault = 4
code_of NoMemory = 5
code_of (BadScript fault) = 6
code_of (NotYet line) = 6
code_of (BadModule number fault) = 7
code_of (NoFile place) = 8
code_of (NotAccepted fault line column) = 1
