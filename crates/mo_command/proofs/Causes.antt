-- Why a run ended so, where nothing failed.
use Rattle.std.proofs.Common.{◌≡◌, ℕ, zero, suc, List, [], ◌∷◌, length, Some, None, IfSome, refl, ap, subst}
use Rattle.std.specs.List.{AllByRecursion, AllZip}
use Rattle.std.specs.Io.KnownBytes.{Appends}
use Rattle.outer.specs.Causes.{Rose}
use Rattle.outer.specs.Names.{NameMap}
use Rattle.play_script.specs.declared.script.ScriptFault.{ScriptFault}
use Rattle.mo_actor.specs.Programs.{Program}
use Rattle.query_module.specs.Program.{queries}
use Rattle.wasm_tree.specs.declared.module_parts.Module.{Module}
use Rattle.mo_words.specs.declared.options.Options.{Options}
use Rattle.mo_play.specs.declared.judging.ModuleFault.{ModuleFault}
use Rattle.mo_play.specs.Modules.{IsModule, IsBadModule}
use Rattle.mo_front.specs.declared.fault.FrontFault.{FrontFault}
use Rattle.mo_command.specs.declared.status.Status.{Status}
use Rattle.mo_command.specs.declared.status.Status.TheVariants.{Done, Refused, Usage, ReadFault, WriteFault, NoMemory, BadScript, NotYet, BadModule, NoFile, NotAccepted}
use Rattle.mo_command.specs.declared.status.Input.{Input}
use Rattle.mo_command.specs.declared.status.Input.TheVariants.{Modules, Sources}
use Rattle.mo_command.specs.Built.{IsAccepted, Accepts, Built}
use Rattle.mo_command.specs.Held.{Outside, HasBytes, Holds, FirstFile}
use Rattle.mo_command.specs.Replays.{IsGood, IsBadScript, IsNotYet, Allows, HasScript}
use Rattle.mo_command.specs.Checked.{IsFaultAt, IsTyped}
use Rattle.mo_command.specs.Ends.{BuildEnds, CheckEnds, Stops, IsMissing, ReplayEnds}
use Rattle.mo_command.proofs.Asked.{built_accepted, shown_typed}

-- Of the files that are read in turn.
pub data FilesCause (input : Input) (held : NameMap) (files : List (List ℕ)) (status : Status) : Type 0 where
  Fine : AllByRecursion (λ file. HasBytes held file (IsGood input)) files → status ≡ Done → FilesCause input held files status
  Gone : (place : ℕ) → FirstFile held (IsGood input) files place (λ file. held file ≡ None) → status ≡ NoFile (suc place) → FilesCause input held files status
  NoSource : (place : ℕ) → input ≡ Sources → FirstFile held (IsGood input) files place (λ file. HasBytes held file (λ text. IsAccepted text → ⊥)) → status ≡ Refused place → FilesCause input held files status
  NoModule : (place : ℕ) (fault : ModuleFault) → input ≡ Modules → FirstFile held (IsGood input) files place (λ file. HasBytes held file (λ bytes. IsBadModule bytes fault)) → status ≡ BadModule place fault
      → FilesCause input held files status

-- Of a script that is replayed over files.
pub data ReplayCause (input : Input) (held : NameMap) (script : List ℕ) (files : List (List ℕ)) (status : Status) : Type 0 where
  Unplayed : status ≡ NoMemory → ReplayCause input held script files status
  Absent : held script ≡ None → status ≡ NoFile zero → ReplayCause input held script files status
  Broken : (fault : ScriptFault) → HasBytes held script (IsBadScript (length files) fault) → status ≡ BadScript fault → ReplayCause input held script files status
  Later : (line : ℕ) → input ≡ Sources → HasBytes held script (IsNotYet (length files) line) → status ≡ NotYet line → ReplayCause input held script files status
  Follows : HasScript input held script (length files) → FilesCause input held files status → ReplayCause input held script files status

-- Of a build.
pub data SourceCause (held : NameMap) (src : List ℕ) (status : Status) : Type 0 where
  Unbuilt : status ≡ NoMemory → SourceCause held src status
  Lost : held src ≡ None → status ≡ NoFile zero → SourceCause held src status
  Other : HasBytes held src (λ text. IsAccepted text → ⊥) → status ≡ Refused zero → SourceCause held src status
  Accepted : HasBytes held src IsAccepted → status ≡ Done → SourceCause held src status

-- Of a check.
pub data CheckCause (held : NameMap) (src : List ℕ) (status : Status) : Type 0 where
  Unchecked : status ≡ NoMemory → CheckCause held src status
  NoText : held src ≡ None → status ≡ NoFile zero → CheckCause held src status
  Faulty : (fault : FrontFault) (line column : ℕ) → HasBytes held src (IsFaultAt fault line column) → status ≡ NotAccepted fault line column → CheckCause held src status
  Typed : HasBytes held src IsTyped → status ≡ Done → CheckCause held src status

each_zipped : {X : Type 0} (R : List ℕ → X → Type 0) (P : List ℕ → Type 0) (files : List (List ℕ)) (xs : List X) → ((file : List ℕ) (x : X) → R file x → P file) → AllZip R files xs → AllByRecursion P files
each_zipped R P [] xs one h = tt
each_zipped R P (f ∷ fs) [] one h = absurd h
each_zipped R P (f ∷ fs) (x ∷ xs) one h = (one f x h.0, each_zipped R P fs xs one h.1)

module _ (held : NameMap) (o : Options) (script : List ℕ) (files : List (List ℕ)) where
  all_good : (input : Input) (text : List ℕ) → Allows input held o script files text → ReplayCause input held script files Done
  all_good Modules text a =
      let s = a.script_is in
      Follows (s.0, s.1, (a.events, record { script = s.2; admitted = tt }))
      (Fine
      (each_zipped (λ file m. HasBytes held file (λ bytes. IsModule bytes m)) (λ file. HasBytes held file (IsGood Modules)) files a.modules (λ file (m : Module) h. (h.0, h.1, (m, h.2))) a.modules_are) refl)
  all_good Sources text a =
      let s = a.script_is in
      Follows (s.0, s.1, (a.events, s.2))
      (Fine
      (each_zipped (λ file p. HasBytes held file (λ source. Accepts source p)) (λ file. HasBytes held file IsAccepted) files a.programs (λ file (p : Program queries) h. (h.0, h.1, ((h.2).0, (h.2).1))) a.programs_are) refl)

  missing : (input : Input) (place : ℕ) → IsMissing input held script files place → ReplayCause input held script files (NoFile place)
  missing input zero m = Absent m refl
  missing input (suc place) m = Follows m.0 (Gone place m.1 refl)

  pub replay_cause : (input : Input) (old new : Outside) (status : Status) → old.names ≡ Some held → (Rose old.reads new.reads → ⊥) → (Rose old.puts new.puts → ⊥) → ReplayEnds input o script files old new status
      → ReplayCause input held script files status
  replay_cause input old new Done told r p e = let a = subst (λ n. IfSome n (λ held. (text : List ℕ) × Allows input held o script files text × Appends old.out new.out text)) told e in all_good input a.0 a.1
  replay_cause input old new (Refused source) told r p e =
      let s = subst (λ n. IfSome n (λ held. Stops input held script files source (λ file. HasBytes held file (λ text. IsAccepted text → ⊥)))) told e.2 in Follows s.0 (NoSource source e.0 s.1 refl)
  replay_cause input old new Usage told r p e = absurd e
  replay_cause input old new ReadFault told r p e = absurd (r e.1)
  replay_cause input old new WriteFault told r p e = absurd (p e.1)
  replay_cause input old new NoMemory told r p e = Unplayed refl
  replay_cause input old new (BadScript fault) told r p e = Broken fault (subst (λ n. Holds n script (IsBadScript (length files) fault)) told e.1) refl
  replay_cause input old new (NotYet line) told r p e = Later line e.0 (subst (λ n. Holds n script (IsNotYet (length files) line)) told e.2) refl
  replay_cause input old new (BadModule number fault) told r p e =
      let s = subst (λ n. IfSome n (λ held. Stops input held script files number (λ file. HasBytes held file (λ bytes. IsBadModule bytes fault)))) told e.2 in Follows s.0 (NoModule number fault e.0 s.1 refl)
  replay_cause input old new (NoFile place) told r p e = missing input place (subst (λ n. IfSome n (λ held. IsMissing input held script files place)) told e.1)
  replay_cause input old new (NotAccepted fault line column) told r p e = absurd e

pub source_cause : (held : NameMap) (src out : List ℕ) (old new : Outside) (status : Status) → old.names ≡ Some held → (Rose old.reads new.reads → ⊥) → (Rose old.writes new.writes → ⊥) → BuildEnds src out old new status
    → SourceCause held src status
source_cause held src out old new Done told r w e = Accepted (built_accepted held new.names src out (subst (λ n. Built n new.names src out) told e.0)) refl
source_cause held src out old new (Refused source) told r w e = Other (subst (λ n. Holds n src (λ text. IsAccepted text → ⊥)) told e.2) (ap Refused e.0)
source_cause held src out old new Usage told r w e = absurd e
source_cause held src out old new ReadFault told r w e = absurd (r e.1)
source_cause held src out old new WriteFault told r w e = absurd (w e.2)
source_cause held src out old new NoMemory told r w e = Unbuilt refl
source_cause held src out old new (BadScript fault) told r w e = absurd e
source_cause held src out old new (NotYet line) told r w e = absurd e
source_cause held src out old new (BadModule number fault) told r w e = absurd e
source_cause held src out old new (NoFile place) told r w e = Lost (subst (λ n. IfSome n (λ held. held src ≡ None)) told e.2) (ap NoFile e.0)
source_cause held src out old new (NotAccepted fault line column) told r w e = absurd e

pub check_cause : (held : NameMap) (src : List ℕ) (old new : Outside) (status : Status) → old.names ≡ Some held → (Rose old.reads new.reads → ⊥) → (Rose old.puts new.puts → ⊥) → CheckEnds src old new status → CheckCause held src status
check_cause held src old new Done told r p e = Typed (shown_typed src old new held told e) refl
check_cause held src old new (Refused source) told r p e = absurd e
check_cause held src old new Usage told r p e = absurd e
check_cause held src old new ReadFault told r p e = absurd (r e.1)
check_cause held src old new WriteFault told r p e = absurd (p e.1)
check_cause held src old new NoMemory told r p e = Unchecked refl
check_cause held src old new (BadScript fault) told r p e = absurd e
check_cause held src old new (NotYet line) told r p e = absurd e
check_cause held src old new (BadModule number fault) told r p e = absurd e
check_cause held src old new (NoFile place) told r p e = NoText (subst (λ n. IfSome n (λ held. held src ≡ None)) told e.2) (ap NoFile e.1)
check_cause held src old new (NotAccepted fault line column) told r p e = Faulty fault line column (subst (λ n. Holds n src (IsFaultAt fault line column)) told e.1) refl
