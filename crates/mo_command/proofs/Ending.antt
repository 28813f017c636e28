-- How a replay ends.
use Rattle.std.proofs.Common.{◌≡◌, ℕ, suc, ◌≤◌, List, [], ◌∷◌, length, drop, map, Option, Some, None, IfSome, Result, Ok, Err, refl, sym, subst, arith, inl, inr}
use Rattle.std.proofs.lemmas.List.{length-map}
use Rattle.std.specs.List.{AllZip, AllByRecursion}
use Rattle.std.specs.Io.KnownBytes.{Appends}
use Rattle.outer.specs.Causes.{HasCause}
use Rattle.outer.specs.Sinks.{AppendsPrefix}
use Rattle.outer.specs.Names.{NameMap}
use Rattle.outer.specs.declared.outside.OutsideFault.{OutsideFault}
use Rattle.outer.specs.declared.outside.OutsideFault.TheVariants as outside_fault
use Rattle.play_script.specs.declared.event.Event.{Event}
use Rattle.play_script.specs.declared.event.Event.TheVariants.{Install, Call, Reply, Reject, Upgrade}
use Rattle.play_script.specs.Scripts.{BeginsWell}
use Rattle.query_module.specs.ActorRun.{IsGiven}
use Rattle.query_module.specs.Program.{queries, IsAsked, AnyMemory}
use Rattle.query_module.proofs.Told.{asked_all}
use Rattle.mo_num.specs.PrincipalText.{IsPrincipal}
use Rattle.mo_actor.specs.Programs.{Program}
use Rattle.actor_refinement.specs.Limits.{IsWithin}
use Rattle.actor_refinement.specs.Laws.{no_exhaustion}
use Rattle.actor_refinement.specs.Refines.{AllRefine}
use Rattle.actor_refinement.proofs.Scripts.{script_once}
use Rattle.actor_refinement.proofs.Composition.{host_runs}
use Rattle.canister_host.specs.HostRun.{host_run}
use Rattle.wasm_tree.specs.declared.module_parts.Module.{Module}
use Rattle.mo_words.specs.declared.options.Options.{Options}
use Rattle.mo_words.specs.Commands.{IsReplay}
use Rattle.mo_words.proofs.Unique.{steps_within, pages_within, stack_within}
use Rattle.mo_play.specs.Modules.{IsBadModule}
use Rattle.mo_play.specs.Transcripts.{own_principal, IsTranscript, IsPut}
use Rattle.mo_command.specs.declared.status.Status.{Status}
use Rattle.mo_command.specs.declared.status.Status.TheVariants.{Done, Refused, Usage, ReadFault, WriteFault, NoMemory, BadScript, NotYet, BadModule, NoFile, NotAccepted}
use Rattle.mo_command.specs.declared.status.Input.{Input}
use Rattle.mo_command.specs.declared.status.Input.TheVariants.{Modules, Sources}
use Rattle.mo_command.specs.Built.{IsAccepted, Accepts}
use Rattle.mo_command.specs.Held.{Outside, outside, HasBytes, Holds, FirstFile}
use Rattle.mo_command.specs.Replays.{limits_of, IsGood, IsScript, Allows}
use Rattle.mo_command.specs.Ends.{Stops, IsMissing, ReplayEnds}
use Rattle.mo_command.specs.Stopped.{put_status, IsOrdered, AreGiven, FilesStop}

-- A replay that the words ask for has limits within their ranges.
pub ordered : {X : Type 0} (g : X → List ℕ) (words : List (List ℕ)) (o : Options) (script : List ℕ) (xs : List X) → IsReplay words o script (map g xs) → IsOrdered o (length xs)
ordered g words o script xs r =
    let few = r.files_are.few in
    record {
      within = subst (λ (p : Options). IsWithin (limits_of p)) (sym r.options_are) (record {
        least_steps = (steps_within r.settings r.front r.are_settings).0;
        most_steps = (steps_within r.settings r.front r.are_settings).1;
        least_pages = (pages_within r.settings r.front r.are_settings).0;
        most_pages = (pages_within r.settings r.front r.are_settings).1;
        least_stack = (stack_within r.settings r.front r.are_settings).0;
        most_stack = (stack_within r.settings r.front r.are_settings).1;
      });
      few = omega (arith, few, length-map xs g);
    }

-- Reading the files stopped.
stops : (input : Input) (names : Option NameMap) (script : List ℕ) (files : List (List ℕ)) (events : List Event) (place : ℕ) (P : NameMap → List ℕ → Type 0) → Holds names script (IsScript input (length files) events)
    → IfSome names (λ held. FirstFile held (IsGood input) files place (P held)) → IfSome names (λ held. Stops input held script files place (P held))
stops input None script files events place P s f = tt
stops input (Some held) script files events place P s f = ((s.0, s.1, (events, s.2)), f)

missing : (input : Input) (names : Option NameMap) (script : List ℕ) (files : List (List ℕ)) (events : List Event) (number place : ℕ) → place ≡ suc number → Holds names script (IsScript input (length files) events)
    → IfSome names (λ held. FirstFile held (IsGood input) files number (λ file. held file ≡ None)) → IfSome names (λ held. IsMissing input held script files place)
missing input names script files events number place e s f =
    subst (λ k. IfSome names (λ held. IsMissing input held script files k)) (sym e) (stops input names script files events number (λ held file. held file ≡ None) s f)

pub files_end : (input : Input) (o : Options) (script : List ℕ) (files : List (List ℕ)) (events : List Event) (count : ℕ) (names seen later : Option NameMap) (first before now writes written : ℕ) (out : Option (List ℕ)) (puts : ℕ)
    (status : Status) → count ≡ length files → seen ≡ names → first ≤ before → Holds names script (IsScript input count events) → FilesStop input files seen before now status
    → ReplayEnds input o script files (outside names first writes out puts) (outside later now written out puts) status
files_end input o script files events count names seen later first before now writes written out puts status same_count same le h s =
    by_status status (subst (λ (n : Option NameMap). FilesStop input files n before now status) same s)
  where
    script_is : Holds names script (IsScript input (length files) events)
    script_is = subst (λ k. Holds names script (IsScript input k events)) same_count h

    by_status : (st : Status) → FilesStop input files names before now st → ReplayEnds input o script files (outside names first writes out puts) (outside later now written out puts) st
    by_status Done t = absurd t
    by_status (Refused source) t = (t.0, refl, stops input names script files events source (λ held file. HasBytes held file (λ text. IsAccepted text → ⊥)) script_is t.1)
    by_status Usage t = t
    by_status ReadFault t = (refl, omega (arith, t))
    by_status WriteFault t = absurd t
    by_status NoMemory t = inl refl
    by_status (BadScript fault) t = absurd t
    by_status (NotYet line) t = absurd t
    by_status (BadModule number fault) t = (t.0, refl, stops input names script files events number (λ held file. HasBytes held file (λ bytes. IsBadModule bytes fault)) script_is t.1)
    by_status (NoFile place) t = (refl, missing input names script files events t.0 place (let e = t.1 in omega arith) script_is t.2)
    by_status (NotAccepted fault line column) t = absurd t

-- The programs of sources, each refined by its module.
record ProgramsOf (held : NameMap) (files : List (List ℕ)) (modules : List Module) : Type 0 where
  programs : List (Program queries)
  are : AllZip (λ file p. HasBytes held file (λ source. Accepts source p)) files programs
  refined : AllRefine {L = queries} AnyMemory IsAsked no_exhaustion programs modules

programs_of : (held : NameMap) (files : List (List ℕ)) (modules : List Module) → AreGiven Sources held files modules → ProgramsOf held files modules
programs_of held [] [] g = record { programs = []; are = tt; refined = tt }
programs_of held [] (m ∷ ms) g = absurd g
programs_of held (f ∷ fs) [] g = absurd g
programs_of held (f ∷ fs) (m ∷ ms) g =
    let rest = programs_of held fs ms g.1 in
    let one = (g.0).2 in
    record { programs = one.0 ∷ rest.programs; are = (((g.0).0, (g.0).1, one.1), rest.are); refined = (one.2, rest.refined) }

-- What this version takes, the programs are asked.
asked : (events : List Event) → BeginsWell events → AllByRecursion IsGiven (drop 1 events) → AllByRecursion IsAsked events
asked [] begun given = tt
asked (Install number ∷ es) begun given = (tt, asked_all es given)
asked (Call q m c b ∷ es) begun given = absurd begun
asked (Reply n b ∷ es) begun given = absurd begun
asked (Reject n c t ∷ es) begun given = absurd begun
asked (Upgrade number ∷ es) begun given = absurd begun

own_is : IsPrincipal own_principal
own_is = (omega arith, (omega arith, (omega arith, (omega arith, (omega arith, (omega arith, (omega arith, (omega arith, (omega arith, (omega arith, (omega arith, tt)))))))))))

allowed : (input : Input) (held : NameMap) (o : Options) (script : List ℕ) (files : List (List ℕ)) (events : List Event) (modules : List Module) (text : List ℕ) → HasBytes held script (IsScript input (length files) events)
    → AreGiven input held files modules → length modules ≡ length files → IsWithin (limits_of o) → IsTranscript modules (limits_of o) events text → Allows input held o script files text
allowed Modules held o script files events modules text s g long within t = record { events = events; script_is = (s.0, s.1, s.2.script); modules = modules; modules_are = g; lines = t }
allowed Sources held o script files events modules text s g long within t =
    let p = programs_of held files modules g in
    let is = s.2.script in
    record {
      events = events;
      script_is = s;
      programs = p.programs;
      programs_are = p.are;
      items = host_run modules (limits_of o) own_principal events;
      run = host_runs {L = queries} AnyMemory IsAsked no_exhaustion (limits_of o) within own_principal own_is p.programs modules p.refined events
          (asked events is.good.begun s.2.admitted) (script_once s.0 (length files) events is);
      lines = t;
    }

-- What was put is allowed, or the begin of what is.
pub put_end : (input : Input) (o : Options) (script : List ℕ) (files : List (List ℕ)) (events : List Event) (modules : List Module) (names later : Option NameMap) (reads read writes written puts put : ℕ) (out new : Option (List ℕ))
    (result : Result (Unit {0}) OutsideFault) → Holds names script (IsScript input (length files) events) → IfSome names (λ held. AreGiven input held files modules) → length modules ≡ length files → IsWithin (limits_of o)
    → IsPut (IsTranscript modules (limits_of o) events) out new result → HasCause puts put result → ReplayEnds input o script files (outside names reads writes out puts) (outside later read written new put) (put_status result)
put_end input o script files events modules names later reads read writes written puts put out new (Ok done) s g long enough p cause = told names s g
  where
    told : (n : Option NameMap) → Holds n script (IsScript input (length files) events) → IfSome n (λ held. AreGiven input held files modules) → IfSome n (λ held. (text : List ℕ) × Allows input held o script files text × Appends out new text)
    told None h k = tt
    told (Some held) h k = (p.0, allowed input held o script files events modules p.0 h k long enough p.1, p.2)
put_end input o script files events modules names later reads read writes written puts put out new (Err fault) s g long enough p cause = by_fault fault cause
  where
    told : (n : Option NameMap) → Holds n script (IsScript input (length files) events) → IfSome n (λ held. AreGiven input held files modules) → IfSome n (λ held. (text : List ℕ) × Allows input held o script files text × AppendsPrefix out new text)
    told None h k = tt
    told (Some held) h k = (p.0, allowed input held o script files events modules p.0 h k long enough p.1, p.2)

    by_fault : (f : OutsideFault) → HasCause {T = Unit {0}} puts put (Err f) → ReplayEnds input o script files (outside names reads writes out puts) (outside later read written new put) (put_status (Err f))
    by_fault outside_fault.Failed c = (told names s g, c.failed refl)
    by_fault outside_fault.Memory c = inr (told names s g)

-- Want of memory may come in place of any other status that is not Done.
pub replay_memory : (input : Input) (o : Options) (script : List ℕ) (files : List (List ℕ)) (old new : Outside) (status : Status) → ReplayEnds input o script files old new status → (status ≡ Done → ⊥)
    → ReplayEnds input o script files old new NoMemory
replay_memory input o script files old new Done e n = absurd (n refl)
replay_memory input o script files old new (Refused source) e n = inl e.1
replay_memory input o script files old new Usage e n = absurd e
replay_memory input o script files old new ReadFault e n = inl e.0
replay_memory input o script files old new WriteFault e n = inr e.0
replay_memory input o script files old new NoMemory e n = e
replay_memory input o script files old new (BadScript fault) e n = inl e.0
replay_memory input o script files old new (NotYet line) e n = inl e.1
replay_memory input o script files old new (BadModule number fault) e n = inl e.1
replay_memory input o script files old new (NoFile place) e n = inl e.0
replay_memory input o script files old new (NotAccepted fault line column) e n = absurd e
