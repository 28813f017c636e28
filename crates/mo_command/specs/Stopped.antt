-- Why reading the script or the files of a replay stopped.
use Rattle.std.specs.Prelude.{◌≡◌, ⊤, ◌≤◌, ◌^◌, ℕ, ◌+◌, List, All, length, take, slice_get, Option, Some, None, IfSome, Result, Ok, Err}
use Rattle.std.specs.List.{AllByRecursion, AllZip}
use Rattle.outer.specs.declared.outside.OutsideFault.{OutsideFault}
use Rattle.outer.specs.declared.outside.OutsideFault.TheVariants as outside
use Rattle.wasm_tree.specs.declared.module_parts.Module.{Module}
use Rattle.outer.specs.Causes.{Rose}
use Rattle.outer.specs.Names.{NameMap}
use Rattle.play_script.specs.declared.event.Event.{Event}
use Rattle.play_script.specs.declared.script.ScriptFault.{ScriptFault}
use Rattle.play_script.specs.declared.script.ScriptFault.TheVariants as script
use Rattle.wasm_read.specs.declared.fault.ReadFault.TheVariants as read
use Rattle.mo_play.specs.declared.judging.ModuleFault.TheVariants.{Read}
use Rattle.play_script.specs.Events.{IsFit, Suits}
use Rattle.mo_words.specs.declared.options.Options.{Options}
use Rattle.actor_refinement.specs.Limits.{IsWithin}
use Rattle.mo_play.specs.Modules.{file_limit, IsBadModule}
use Rattle.mo_command.specs.declared.status.Status.{Status}
use Rattle.mo_command.specs.declared.status.Status.TheVariants.{Done, Refused, Usage, ReadFault, WriteFault, NoMemory, BadScript, NotYet, BadModule, NoFile, NotAccepted}
use Rattle.mo_command.specs.declared.status.Input.{Input}
use Rattle.mo_command.specs.declared.status.Input.TheVariants.{Modules, Sources}
use Rattle.mo_command.specs.Built.{IsAccepted}
use Rattle.mo_command.specs.Held.{HasBytes, Holds, FirstFile}
use Rattle.mo_command.specs.Replays.{limits_of, Gives, IsGood, IsTaken, IsBadScript, IsNotYet}

-- Events that may be played over so many modules.
pub record ArePlayable (count : ℕ) (events : List Event) : Type 0 where
  pub fit : All IsFit events
  pub suits : Suits count events
  pub few : length events ≤ 2 ^ 53

-- A replay as the words ask for one.
pub record IsOrdered (o : Options) (files : ℕ) : Type 0 where
  pub within : IsWithin (limits_of o)
  pub few : files ≤ 16

-- The event with this index is not taken, and those before it are.
pub record IsFirstUntaken (events : List Event) (index : ℕ) : Type 0 where
  pub event : Event
  pub there : slice_get events index ≡ Some event
  pub untaken : IsTaken event → ⊥
  pub before : AllByRecursion IsTaken (take index events)

-- Each file gives its module.
abbrev pub AreGiven : Input → NameMap → List (List ℕ) → List Module → Type 0
AreGiven input held files modules = AllZip (λ file m. HasBytes held file (λ bytes. Gives input bytes m)) files modules

-- How a replay ends whose transcript was put so.
abbrev pub put_status : Result (Unit {0}) OutsideFault → Status
put_status (Ok done) = Done
put_status (Err outside.Failed) = WriteFault
put_status (Err outside.Memory) = NoMemory

-- What a fault of the text comes to.
abbrev pub script_status : ScriptFault → Status
script_status (script.BadLine line) = BadScript (script.BadLine line)
script_status (script.NotInstalled line) = BadScript (script.NotInstalled line)
script_status (script.ModuleNumber line) = BadScript (script.ModuleNumber line)
script_status (script.MessageTooLong line) = BadScript (script.MessageTooLong line)
script_status script.ScriptTooLong = BadScript script.ScriptTooLong
script_status script.Memory = NoMemory

-- What a file of too many bytes comes to.
abbrev pub long_status : Input → ℕ → Status
long_status Modules number = BadModule number (Read read.TooLarge)
long_status Sources number = Refused number

-- The text is no script.
abbrev pub TextStops : Input → ℕ → List ℕ → Status → Type 0
TextStops input count text Done = ⊥
TextStops input count text (Refused source) = ⊥
TextStops input count text Usage = ⊥
TextStops input count text ReadFault = ⊥
TextStops input count text WriteFault = ⊥
TextStops input count text NoMemory = ⊤
TextStops input count text (BadScript fault) = IsBadScript count fault text
TextStops input count text (NotYet line) = (input ≡ Sources) × IsNotYet count line text
TextStops input count text (BadModule number fault) = ⊥
TextStops input count text (NoFile place) = ⊥
TextStops input count text (NotAccepted fault line column) = ⊥

-- The script's file holds none.
abbrev pub ScriptStops : Input → ℕ → Option NameMap → List ℕ → ℕ → ℕ → Status → Type 0
ScriptStops input count names script before now Done = ⊥
ScriptStops input count names script before now (Refused source) = ⊥
ScriptStops input count names script before now Usage = ⊥
ScriptStops input count names script before now ReadFault = Rose before now
ScriptStops input count names script before now WriteFault = ⊥
ScriptStops input count names script before now NoMemory = ⊤
ScriptStops input count names script before now (BadScript fault) = Holds names script (IsBadScript count fault)
ScriptStops input count names script before now (NotYet line) = (input ≡ Sources) × Holds names script (IsNotYet count line)
ScriptStops input count names script before now (BadModule number fault) = ⊥
ScriptStops input count names script before now (NoFile place) = (place ≡ 0) × IfSome names (λ held. held script ≡ None)
ScriptStops input count names script before now (NotAccepted fault line column) = ⊥

-- The most bytes that are read of a file.
abbrev pub limit_of : Input → ℕ
limit_of Modules = file_limit
limit_of Sources = 4096

-- The bytes are not what the file with this number has to hold.
abbrev pub BytesStop : Input → ℕ → List ℕ → Status → Type 0
BytesStop input number bytes Done = ⊥
BytesStop input number bytes (Refused source) = (input ≡ Sources) × (source ≡ number) × (IsAccepted bytes → ⊥)
BytesStop input number bytes Usage = ⊥
BytesStop input number bytes ReadFault = ⊥
BytesStop input number bytes WriteFault = ⊥
BytesStop input number bytes NoMemory = ⊤
BytesStop input number bytes (BadScript fault) = ⊥
BytesStop input number bytes (NotYet line) = ⊥
BytesStop input number bytes (BadModule place fault) = (input ≡ Modules) × (place ≡ number) × IsBadModule bytes fault
BytesStop input number bytes (NoFile place) = ⊥
BytesStop input number bytes (NotAccepted fault line column) = ⊥

-- The file with this number is not as it has to be.
abbrev pub FileStops : Input → ℕ → Option NameMap → List ℕ → ℕ → ℕ → Status → Type 0
FileStops input number names file before now Done = ⊥
FileStops input number names file before now (Refused source) = (input ≡ Sources) × (source ≡ number) × Holds names file (λ text. IsAccepted text → ⊥)
FileStops input number names file before now Usage = ⊥
FileStops input number names file before now ReadFault = Rose before now
FileStops input number names file before now WriteFault = ⊥
FileStops input number names file before now NoMemory = ⊤
FileStops input number names file before now (BadScript fault) = ⊥
FileStops input number names file before now (NotYet line) = ⊥
FileStops input number names file before now (BadModule place fault) = (input ≡ Modules) × (place ≡ number) × Holds names file (λ bytes. IsBadModule bytes fault)
FileStops input number names file before now (NoFile place) = (place ≡ number + 1) × IfSome names (λ held. held file ≡ None)
FileStops input number names file before now (NotAccepted fault line column) = ⊥

-- Some file is the first that is not as it has to be.
abbrev pub FilesStop : Input → List (List ℕ) → Option NameMap → ℕ → ℕ → Status → Type 0
FilesStop input files names before now Done = ⊥
FilesStop input files names before now (Refused source) = (input ≡ Sources) × IfSome names (λ held. FirstFile held (IsGood input) files source (λ file. HasBytes held file (λ text. IsAccepted text → ⊥)))
FilesStop input files names before now Usage = ⊥
FilesStop input files names before now ReadFault = Rose before now
FilesStop input files names before now WriteFault = ⊥
FilesStop input files names before now NoMemory = ⊤
FilesStop input files names before now (BadScript fault) = ⊥
FilesStop input files names before now (NotYet line) = ⊥
FilesStop input files names before now (BadModule number fault) =
    (input ≡ Modules) × IfSome names (λ held. FirstFile held (IsGood input) files number (λ file. HasBytes held file (λ bytes. IsBadModule bytes fault)))
FilesStop input files names before now (NoFile place) =
    (number : ℕ) × (place ≡ number + 1) × IfSome names (λ held. FirstFile held (IsGood input) files number (λ file. held file ≡ None))
FilesStop input files names before now (NotAccepted fault line column) = ⊥
