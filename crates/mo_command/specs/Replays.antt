-- What `play` and `run` make of a script and files.
use Rattle.std.specs.Prelude.{◌≡◌, ◌≢◌, ⊤, ℕ, ◌+◌, ◌<◌, List, length, drop, Some, slice_get}
use Rattle.std.specs.List.{AllByRecursion, AllZip}
use Rattle.outer.specs.Names.{NameMap}
use Rattle.play_script.specs.declared.event.Event.{Event}
use Rattle.play_script.specs.declared.event.Event.TheVariants as event
use Rattle.play_script.specs.declared.item.Item.{Item}
use Rattle.play_script.specs.declared.script.ScriptFault.{ScriptFault}
use Rattle.play_script.specs.declared.script.ScriptFault.TheVariants as script
use Rattle.play_script.specs.Words.{lines_of}
use Rattle.play_script.specs.Scripts.{ScriptOf, Spells}
use Rattle.play_script.specs.Faults.{FaultOf}
use Rattle.play_script.specs.Items.{ItemsText}
use Rattle.query_module.specs.Message.{empty_message}
use Rattle.query_module.specs.ActorRun.{IsGiven}
use Rattle.query_module.specs.Program.{queries, QueryRefines}
use Rattle.mo_actor.specs.Programs.{Program}
use Rattle.mo_actor.specs.Steps.{ActorRun}
use Rattle.actor_refinement.specs.Laws.{no_exhaustion}
use Rattle.wasm_tree.specs.declared.module_parts.Module.{Module}
use Rattle.wasm_tree.specs.Exec.{ExecutionLimits}
use Rattle.mo_words.specs.declared.options.Options.{Options}
use Rattle.mo_play.specs.Modules.{IsModule}
use Rattle.mo_play.specs.Transcripts.{own_principal, IsTranscript}
use Rattle.mo_command.specs.declared.status.Input.{Input}
use Rattle.mo_command.specs.declared.status.Input.TheVariants.{Modules, Sources}
use Rattle.mo_command.specs.Built.{IsAccepted, Accepts}
use Rattle.mo_command.specs.Held.{HasBytes}

abbrev pub limits_of : Options → ExecutionLimits
limits_of o = record { steps = o.steps; pages = o.pages; stack = o.stack }

-- What is read from a file: the module that its bytes are, or a module that refines the program of the source that it is.
abbrev pub Gives : Input → List ℕ → Module → Type 0
Gives Modules bytes m = IsModule bytes m
Gives Sources source m = (p : Program queries) × Accepts source p × QueryRefines p m

-- The bytes are what such files have to hold.
abbrev pub IsGood : Input → List ℕ → Type 0
IsGood Modules bytes = (m : Module) × IsModule bytes m
IsGood Sources source = IsAccepted source

-- Events that `run` speaks of: after the first one calls without arguments, and answers to calls. `play` takes all.
abbrev pub Admits : Input → List Event → Type 0
Admits Modules events = ⊤
Admits Sources events = AllByRecursion IsGiven (drop 1 events)

-- The text is a script of these events for so many files.
pub record IsScript (input : Input) (count : ℕ) (events : List Event) (text : List ℕ) : Type 0 where
  pub script : ScriptOf text count events
  pub admitted : Admits input events

-- Why the text is no script: there are no events, and this is the first line that offends.
pub record IsBadScript (count : ℕ) (fault : ScriptFault) (text : List ℕ) : Type 0 where
  pub none : (events : List Event) → ScriptOf text count events → ⊥
  pub named : FaultOf text count fault
  pub cause : fault ≢ script.Memory

-- Events that `run` takes: no upgrade, and no call or query with arguments.
abbrev pub IsTaken : Event → Type 0
IsTaken (event.Install number) = ⊤
IsTaken (event.Call query method caller bytes) = bytes ≡ empty_message
IsTaken (event.Reply number bytes) = ⊤
IsTaken (event.Reject number code text) = ⊤
IsTaken (event.Upgrade number) = ⊥

-- The text is a script, and this is the first line that spells an event which `run` does not take. Lines count from 1.
pub record IsNotYet (count : ℕ) (number : ℕ) (text : List ℕ) : Type 0 where
  pub events : List Event
  pub script : ScriptOf text count events
  pub place : ℕ
  pub counted : number ≡ place + 1
  pub line : List ℕ
  pub there : slice_get (lines_of text) place ≡ Some line
  pub event : Event
  pub spelled : Spells event line
  pub later : IsTaken event → ⊥
  pub first : (earlier : ℕ) (other : List ℕ) (e : Event) → earlier < place → slice_get (lines_of text) earlier ≡ Some other → Spells e other → IsTaken e

-- `play`: the files hold valid modules, the script's file a script of events, and the text is the transcript of the
-- host's run over them, under the limits of the options.
pub record IsPlayed (held : NameMap) (o : Options) (script : List ℕ) (files : List (List ℕ)) (text : List ℕ) : Type 0 where
  pub events : List Event
  pub script_is : HasBytes held script (λ bytes. ScriptOf bytes (length files) events)
  pub modules : List Module
  pub modules_are : AllZip (λ file m. HasBytes held file (λ bytes. IsModule bytes m)) files modules
  pub lines : IsTranscript modules (limits_of o) events text

-- `run`: the files hold sources that are accepted, the script's file a script of events that this version takes, and the
-- text is the lines of the items of a run of the actors of their programs, in which nothing is exhausted under the limits of
-- the options.
pub record IsRunText (held : NameMap) (o : Options) (script : List ℕ) (files : List (List ℕ)) (text : List ℕ) : Type 0 where
  pub events : List Event
  pub script_is : HasBytes held script (IsScript Sources (length files) events)
  pub programs : List (Program queries)
  pub programs_are : AllZip (λ file p. HasBytes held file (λ source. Accepts source p)) files programs
  pub items : List Item
  pub run : ActorRun (no_exhaustion (limits_of o)) programs own_principal events items
  pub lines : ItemsText items text

-- The texts that may be put where all is done.
abbrev pub Allows : Input → NameMap → Options → List ℕ → List (List ℕ) → List ℕ → Type 0
Allows Modules held o script files text = IsPlayed held o script files text
Allows Sources held o script files text = IsRunText held o script files text

-- The script's file holds a script for so many files.
abbrev pub HasScript : Input → NameMap → List ℕ → ℕ → Type 0
HasScript input held script count = HasBytes held script (λ text. (events : List Event) × IsScript input count events text)
