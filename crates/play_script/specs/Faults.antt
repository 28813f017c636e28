-- Why a text is no script.
use Rattle.std.specs.Prelude.{◌≡◌, ⊤, ◌<◌, ◌≤◌, ◌⊎◌, ℕ, List, [], length}
use Rattle.play_script.specs.Words.{lines_of}
use Rattle.play_script.specs.Scripts.{script_limit, AreGood, IsBad, IsTooLong, NamesNoModule, IsBeforeInstall, OffendsAt}
use Rattle.play_script.specs.declared.line.LineFault.{LineFault}
use Rattle.play_script.specs.declared.line.LineFault.TheVariants as line
use Rattle.play_script.specs.declared.script.ScriptFault.{ScriptFault}
use Rattle.play_script.specs.declared.script.ScriptFault.TheVariants.{BadLine, NotInstalled, ModuleNumber, MessageTooLong, ScriptTooLong, Memory}

-- no event at all
pub record IsWithoutEvents (modules : ℕ) (text : List ℕ) (number : ℕ) : Type 0 where
  pub short : length text ≤ script_limit
  pub line : number ≡ 0
  pub good : AreGood modules (lines_of text) []

-- the fault of the text. Lines count from 1; want of memory needs no cause.
abbrev pub FaultOf : List ℕ → ℕ → ScriptFault → Type 0
FaultOf text modules (BadLine number) = OffendsAt IsBad modules text number
FaultOf text modules (NotInstalled number) = OffendsAt (IsBeforeInstall modules) modules text number ⊎ IsWithoutEvents modules text number
FaultOf text modules (ModuleNumber number) = OffendsAt (NamesNoModule modules) modules text number
FaultOf text modules (MessageTooLong number) = OffendsAt IsTooLong modules text number
FaultOf text modules ScriptTooLong = script_limit < length text
FaultOf text modules Memory = ⊤

-- the fault of a line with this number
abbrev pub fault_at : LineFault → ℕ → ScriptFault
fault_at line.Bad number = BadLine number
fault_at line.TooLong number = MessageTooLong number
fault_at line.NoModule number = ModuleNumber number
fault_at line.NotInstalled number = NotInstalled number
fault_at line.Memory number = Memory
