-- How a run ends, and why.
use Rattle.std.specs.Prelude.{◌≡◌, ◌⊎◌, ℕ, zero, suc, List, length, None, IfSome}
use Rattle.std.specs.Io.KnownBytes.{Appends}
use Rattle.std.specs.List.{AllByRecursion}
use Rattle.outer.specs.Causes.{Rose}
use Rattle.outer.specs.Names.{NameMap, KeepsOthers}
use Rattle.outer.specs.Sinks.{AppendsPrefix}
use Rattle.mo_words.specs.declared.options.Options.{Options}
use Rattle.mo_words.specs.Commands.{IsBuild, IsCheck, IsPlay, IsRun, IsNoForm}
use Rattle.mo_play.specs.Modules.{IsBadModule}
use Rattle.mo_command.specs.declared.status.Status.{Status}
use Rattle.mo_command.specs.declared.status.Status.TheVariants.{Done, Refused, Usage, ReadFault, WriteFault, NoMemory, BadScript, NotYet, BadModule, NoFile, NotAccepted}
use Rattle.mo_command.specs.declared.status.Input.{Input}
use Rattle.mo_command.specs.declared.status.Input.TheVariants.{Modules, Sources}
use Rattle.mo_command.specs.Built.{IsAccepted, Built}
use Rattle.mo_command.specs.Checked.{IsFaultAt, IsTyped}
use Rattle.mo_command.specs.Uncovered.{IsChecked}
use Rattle.mo_command.specs.Held.{Outside, HasBytes, Holds, FirstFile}
use Rattle.mo_command.specs.Replays.{IsGood, IsBadScript, IsNotYet, Allows, HasScript}

-- What makes a build of SRC to OUT end so. The cases exclude each other, so that each status comes exactly where its
-- case holds; ReadFault and WriteFault come only where a read or a write failed in this call, and want of memory alone
-- needs no cause.
abbrev pub BuildEnds : List ℕ → List ℕ → Outside → Outside → Status → Type 0
BuildEnds src out old new Done = Built old.names new.names src out × KeepsOthers old.names new.names out
BuildEnds src out old new (Refused source) = (source ≡ 0) × (new.names ≡ old.names) × Holds old.names src (λ text. IsAccepted text → ⊥)
BuildEnds src out old new Usage = ⊥
BuildEnds src out old new ReadFault = (new.names ≡ old.names) × Rose old.reads new.reads
BuildEnds src out old new WriteFault = KeepsOthers old.names new.names out × Holds old.names src IsAccepted × Rose old.writes new.writes
BuildEnds src out old new NoMemory = (new.names ≡ old.names) ⊎ (KeepsOthers old.names new.names out × Rose old.writes new.writes)
BuildEnds src out old new (BadScript fault) = ⊥
BuildEnds src out old new (NotYet line) = ⊥
BuildEnds src out old new (BadModule number fault) = ⊥
BuildEnds src out old new (NoFile place) = (place ≡ 0) × (new.names ≡ old.names) × IfSome old.names (λ held. held src ≡ None)
BuildEnds src out old new (NotAccepted fault line column) = ⊥

-- A prefix of the lines of SRC was put.
abbrev pub CheckBegins : List ℕ → Outside → Outside → Type 0
CheckBegins src old new = IfSome old.names (λ held. (text : List ℕ) × HasBytes held src (λ source. IsChecked source text) × AppendsPrefix old.out new.out text)

-- What makes a check of SRC end so. Where all is done, the source is accepted, and its lines were put.
abbrev pub CheckEnds : List ℕ → Outside → Outside → Status → Type 0
CheckEnds src old new Done = IfSome old.names (λ held. (text : List ℕ) × HasBytes held src (λ source. IsChecked source text) × Appends old.out new.out text)
CheckEnds src old new (Refused source) = ⊥
CheckEnds src old new Usage = ⊥
CheckEnds src old new ReadFault = (new.out ≡ old.out) × Rose old.reads new.reads
CheckEnds src old new WriteFault = CheckBegins src old new × Rose old.puts new.puts
CheckEnds src old new NoMemory = (new.out ≡ old.out) ⊎ CheckBegins src old new
CheckEnds src old new (BadScript fault) = ⊥
CheckEnds src old new (NotYet line) = ⊥
CheckEnds src old new (BadModule number fault) = ⊥
CheckEnds src old new (NoFile place) = (new.out ≡ old.out) × (place ≡ 0) × IfSome old.names (λ held. held src ≡ None)
CheckEnds src old new (NotAccepted fault line column) = (new.out ≡ old.out) × Holds old.names src (IsFaultAt fault line column)

-- The script was read, and this file is the first that is not good, and is so.
abbrev pub Stops : Input → NameMap → List ℕ → List (List ℕ) → ℕ → (List ℕ → Type 0) → Type 0
Stops input held script files place P = HasScript input held script (length files) × FirstFile held (IsGood input) files place P

-- The file with this place, in the order in which they are read, is missing.
abbrev pub IsMissing : Input → NameMap → List ℕ → List (List ℕ) → ℕ → Type 0
IsMissing input held script files zero = held script ≡ None
IsMissing input held script files (suc place) = Stops input held script files place (λ file. held file ≡ None)

-- What was put is a prefix of a text that is allowed where all is done.
abbrev pub Begins : Input → Options → List ℕ → List (List ℕ) → Outside → Outside → Type 0
Begins input o script files old new = IfSome old.names (λ held. (text : List ℕ) × Allows input held o script files text × AppendsPrefix old.out new.out text)

-- What makes a replay of the script over files end so. The cases exclude each other, and each status but Done,
-- WriteFault and NoMemory leaves the output as it was.
abbrev pub ReplayEnds : Input → Options → List ℕ → List (List ℕ) → Outside → Outside → Status → Type 0
ReplayEnds input o script files old new Done = IfSome old.names (λ held. (text : List ℕ) × Allows input held o script files text × Appends old.out new.out text)
ReplayEnds input o script files old new (Refused source) =
    (input ≡ Sources) × (new.out ≡ old.out) × IfSome old.names (λ held. Stops input held script files source (λ file. HasBytes held file (λ text. IsAccepted text → ⊥)))
ReplayEnds input o script files old new Usage = ⊥
ReplayEnds input o script files old new ReadFault = (new.out ≡ old.out) × Rose old.reads new.reads
ReplayEnds input o script files old new WriteFault = Begins input o script files old new × Rose old.puts new.puts
ReplayEnds input o script files old new NoMemory = (new.out ≡ old.out) ⊎ Begins input o script files old new
ReplayEnds input o script files old new (BadScript fault) = (new.out ≡ old.out) × Holds old.names script (IsBadScript (length files) fault)
ReplayEnds input o script files old new (NotYet line) = (input ≡ Sources) × (new.out ≡ old.out) × Holds old.names script (IsNotYet (length files) line)
ReplayEnds input o script files old new (BadModule number fault) =
    (input ≡ Modules) × (new.out ≡ old.out) × IfSome old.names (λ held. Stops input held script files number (λ file. HasBytes held file (λ bytes. IsBadModule bytes fault)))
ReplayEnds input o script files old new (NoFile place) = (new.out ≡ old.out) × IfSome old.names (λ held. IsMissing input held script files place)
ReplayEnds input o script files old new (NotAccepted fault line column) = ⊥

-- What each form of the command line does.
pub record BuildCase (words : List (List ℕ)) (old new : Outside) (status : Status) : Type 0 where
  pub src : List ℕ
  pub out : List ℕ
  pub is : IsBuild words src out
  pub ends : BuildEnds src out old new status
  pub no_text : new.out ≡ old.out

pub record CheckCase (words : List (List ℕ)) (old new : Outside) (status : Status) : Type 0 where
  pub src : List ℕ
  pub is : IsCheck words src
  pub ends : CheckEnds src old new status
  pub no_name : new.names ≡ old.names

pub record PlayCase (words : List (List ℕ)) (old new : Outside) (status : Status) : Type 0 where
  pub options : Options
  pub script : List ℕ
  pub files : List (List ℕ)
  pub is : IsPlay words options script files
  pub ends : ReplayEnds Modules options script files old new status
  pub no_name : new.names ≡ old.names

pub record RunCase (words : List (List ℕ)) (old new : Outside) (status : Status) : Type 0 where
  pub options : Options
  pub script : List ℕ
  pub files : List (List ℕ)
  pub is : IsRun words options script files
  pub ends : ReplayEnds Sources options script files old new status
  pub no_name : new.names ≡ old.names

-- Words of no form change nothing.
pub record NoCase (words : List (List ℕ)) (old new : Outside) (status : Status) : Type 0 where
  pub is : IsNoForm words
  pub same : new ≡ old
  pub status_is : (status ≡ Usage) ⊎ (status ≡ NoMemory)

-- What makes the words end so. The cases exclude each other: the law is stated in OneStatus.
abbrev pub Ends : List (List ℕ) → Outside → Outside → Status → Type 0
Ends words old new status = BuildCase words old new status ⊎ PlayCase words old new status ⊎ RunCase words old new status ⊎ CheckCase words old new status ⊎ NoCase words old new status

-- All files are there, and the script and each file are as they have to be.
pub record AreGood (input : Input) (held : NameMap) (script : List ℕ) (files : List (List ℕ)) : Type 0 where
  pub script_is : HasScript input held script (length files)
  pub files_are : AllByRecursion (λ file. HasBytes held file (IsGood input)) files

-- The words are a form, and what they name is as it has to be.
abbrev pub AsksAll : List (List ℕ) → NameMap → Type 0
AsksAll words held =
    ((src out : List ℕ) × IsBuild words src out × HasBytes held src IsAccepted)
    ⊎ ((o : Options) × (script : List ℕ) × (files : List (List ℕ)) × IsPlay words o script files × AreGood Modules held script files)
    ⊎ ((o : Options) × (script : List ℕ) × (files : List (List ℕ)) × IsRun words o script files × AreGood Sources held script files)
    ⊎ ((src : List ℕ) × IsCheck words src × HasBytes held src IsTyped)

-- The status that the words and the names call for, where nothing fails and memory is there.
abbrev pub Asks : List (List ℕ) → NameMap → Status → Type 0
Asks words held Done = AsksAll words held
Asks words held (Refused source) = (source ≡ 0) × (src : List ℕ) × (out : List ℕ) × IsBuild words src out × HasBytes held src (λ text. IsAccepted text → ⊥)
Asks words held Usage = IsNoForm words
Asks words held ReadFault = ⊥
Asks words held WriteFault = ⊥
Asks words held NoMemory = ⊥
Asks words held (BadScript fault) = ⊥
Asks words held (NotYet line) = ⊥
Asks words held (BadModule number fault) = ⊥
Asks words held (NoFile place) =
    (place ≡ 0) × (((src : List ℕ) × (out : List ℕ) × IsBuild words src out × (held src ≡ None)) ⊎ ((src : List ℕ) × IsCheck words src × (held src ≡ None)))
Asks words held (NotAccepted fault line column) = ⊥

-- Where it is told what names hold and no count of faults rose, the status is the one that was asked for, or there was
-- no memory.
abbrev pub EndsAsAsked : List (List ℕ) → Outside → Outside → Status → Type 0
EndsAsAsked words old new status =
    IfSome old.names (λ held. (asked : Status) → Asks words held asked → (Rose old.reads new.reads → ⊥) → (Rose old.writes new.writes → ⊥) → (Rose old.puts new.puts → ⊥)
    → (status ≡ asked) ⊎ (status ≡ NoMemory))
