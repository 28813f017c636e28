-- The line that each status puts on the error stream.
use Rattle.std.specs.Prelude.{◌≡◌, ◌⊎◌, ℕ, List, ◌++◌, Option, codes}
use Rattle.std.specs.Io.KnownBytes.{Appends}
use Rattle.outer.specs.Causes.{Rose}
use Rattle.outer.specs.Sinks.{AppendsPrefix}
use Rattle.play_script.specs.declared.script.ScriptFault.{ScriptFault}
use Rattle.play_script.specs.declared.script.ScriptFault.TheVariants as script
use Rattle.play_script.specs.Numbers.{IsDecimal}
use Rattle.mo_front.specs.declared.fault.FrontFault.{FrontFault}
use Rattle.mo_front.specs.FaultNames.{group_of, name_of}
use Rattle.wasm_read.specs.declared.fault.ReadFault.TheVariants as read
use Rattle.wasm_tree.specs.declared.rule.Rule.TheVariants as rule
use Rattle.mo_play.specs.declared.judging.ModuleFault.{ModuleFault}
use Rattle.mo_play.specs.declared.judging.ModuleFault.TheVariants.{Read, Valid}
use Rattle.mo_command.specs.declared.status.Status.{Status}
use Rattle.mo_command.specs.declared.status.Status.TheVariants.{Done, Refused, Usage, ReadFault as read_fault, WriteFault, NoMemory, BadScript, NotYet, BadModule, NoFile, NotAccepted}

abbrev pub script_name : ScriptFault → List ℕ
script_name (script.BadLine line) = codes "BadLine"
script_name (script.NotInstalled line) = codes "NotInstalled"
script_name (script.ModuleNumber line) = codes "ModuleNumber"
script_name (script.MessageTooLong line) = codes "MessageTooLong"
script_name script.ScriptTooLong = codes "ScriptTooLong"
script_name script.Memory = codes "Memory"

-- The number of the line, or 0 for the whole.
abbrev pub script_line : ScriptFault → ℕ
script_line (script.BadLine line) = line
script_line (script.NotInstalled line) = line
script_line (script.ModuleNumber line) = line
script_line (script.MessageTooLong line) = line
script_line script.ScriptTooLong = 0
script_line script.Memory = 0

abbrev pub module_name : ModuleFault → List ℕ
module_name (Read read.TooLarge) = codes "Read.TooLarge"
module_name (Read read.NotWasm) = codes "Read.NotWasm"
module_name (Read read.Malformed) = codes "Read.Malformed"
module_name (Read read.Floats) = codes "Read.Floats"
module_name (Read read.Memory) = codes "Read.Memory"
module_name (Valid rule.Index) = codes "Valid.Index"
module_name (Valid rule.Operand) = codes "Valid.Operand"
module_name (Valid rule.Result) = codes "Valid.Result"
module_name (Valid rule.Label) = codes "Valid.Label"
module_name (Valid rule.Align) = codes "Valid.Align"
module_name (Valid rule.Constant) = codes "Valid.Constant"
module_name (Valid rule.Mutable) = codes "Valid.Mutable"
module_name (Valid rule.Import) = codes "Valid.Import"
module_name (Valid rule.Export) = codes "Valid.Export"
module_name (Valid rule.Start) = codes "Valid.Start"
module_name (Valid rule.Memory) = codes "Valid.Memory"
module_name (Valid rule.Table) = codes "Valid.Table"
module_name (Valid rule.Size) = codes "Valid.Size"

-- The line of this text, a number in decimal digits, and this text behind it.
abbrev pub Numbered : List ℕ → ℕ → List ℕ → List ℕ → Type 0
Numbered front number back line = (digits : List ℕ) × IsDecimal digits number × (line ≡ front ++ (digits ++ back))

-- The name of a fault by its layer.
abbrev pub fault_name : FrontFault → List ℕ
fault_name fault = group_of fault ++ (codes "." ++ name_of fault)

-- The line of a fault of the source 0, on this line and in this column of it.
abbrev pub IsFaultLine : FrontFault → ℕ → ℕ → List ℕ → Type 0
IsFaultLine fault row column line =
    (back : List ℕ) × Numbered (codes ":") column (codes "\n") back × Numbered ((codes "refused 0 " ++ fault_name fault) ++ codes " ") row back line

abbrev pub IsLine : Status → List ℕ → Type 0
IsLine Done line = ⊥
IsLine (Refused source) line = Numbered (codes "refused ") source (codes " Build.NotYet 1:1\n") line
IsLine Usage line = line ≡ codes "usage\n"
IsLine read_fault line = line ≡ codes "read fault\n"
IsLine WriteFault line = line ≡ codes "write fault\n"
IsLine NoMemory line = line ≡ codes "no memory\n"
IsLine (BadScript fault) line = Numbered (codes "bad script " ++ script_name fault ++ codes " ") (script_line fault) (codes "\n") line
IsLine (NotYet number) line = Numbered (codes "bad script NotYet ") number (codes "\n") line
IsLine (BadModule number fault) line = Numbered (codes "bad module ") number (codes " " ++ module_name fault ++ codes "\n") line
IsLine (NoFile place) line = Numbered (codes "no file ") place (codes "\n") line
IsLine (NotAccepted fault row column) line = IsFaultLine fault row column line

-- The status's line was put; or a part of it, where the count of faults rose; or nothing, for want of memory or because
-- all is done.
abbrev pub Tells : Option (List ℕ) → Option (List ℕ) → ℕ → ℕ → Status → Type 0
Tells old new before now status =
    ((line : List ℕ) × IsLine status line × Appends old new line)
    ⊎ ((line : List ℕ) × IsLine status line × AppendsPrefix old new line × Rose before now)
    ⊎ ((status ≡ NoMemory) × (new ≡ old))
    ⊎ ((status ≡ Done) × (new ≡ old))
