-- Executions of the actor of an elaborated program end where those of the typed program do.
use Rattle.std.proofs.Common.{◌≡◌, ℕ, ◌*◌, ◌≤◌, sym, subst, List, Option, Some, None, Bool, false}
use Rattle.play_script.specs.declared.event.Event.{Event}
use Rattle.play_script.specs.declared.event.Event.TheVariants as event
use Rattle.mo_types.specs.Graph.{head_at}
use Rattle.mo_values.specs.Shapes.{Bytes}
use Rattle.mo_actor.specs.CallAnswers.{answering}
use Rattle.mo_actor.specs.Executions.{Execution}
use Rattle.mo_actor.specs.IncomingCalls.{entered}
use Rattle.mo_actor.specs.Languages.{Language}
use Rattle.mo_actor.specs.Measures.{Never}
use Rattle.mo_actor.specs.Passes.{CommittedState, AlikeMethods}
use Rattle.mo_actor.specs.Programs as actor
use Rattle.mo_actor.specs.Results.{Result, HasResult}
use Rattle.mo_actor.specs.Upgrades.{saving}
use Rattle.core_ir.specs.Actor.{MethodEntry, core_language}
use Rattle.core_ir.specs.Actor as core_actor
use Rattle.core_ir.specs.CoreMachine as core_machine
use Rattle.core_ir.specs.Expressions.{Core}
use Rattle.core_ir.specs.Messages.{Messages}
use Rattle.core_laws.proofs.ComesOut.{Covers}
use Rattle.typed_tree.specs.Programs.{Program}
use Rattle.mo_meaning.specs.Coding.{Types, Coding}
use Rattle.mo_meaning.specs.Kernel.{Entry, Kept}
use Rattle.mo_machine.specs.ActorLanguage.{machine}
use Rattle.mo_machine.specs.States as states
use Rattle.elaboration_actors.specs.Actors.{SameMessages, Related, Weighs, SameKept, SoundActor, StartsAndSaves}
use Rattle.elaboration_actors.specs.Back.{StartsAndSavesEnd}
use Rattle.elaboration_actors.specs.Ends.{EndsToo}
use Rattle.elaboration_actors.proofs.Actors.{updates_end, queries_end, answers_end, saving_ends, starts_end}
use Rattle.elaboration_back.proofs.Turned.{AllEnd, result_of, end_of}

-- each result under no exhaustion of the first has one of the second
abbrev Brings : {A B : Type 0} → (first charged memory other : ℕ) → Execution A → Execution B → Type 0
Brings {A} {B} first charged memory other x y = (o : Result A) → HasResult Never first charged x o → (r : Result B) × HasResult Never memory other y r

brings : {A B : Type 0} (first charged memory other : ℕ) (x : Execution A) (y : Execution B) → EndsToo x y → Brings first charged memory other x y
brings first charged memory other x y f o h = result_of memory other y (f (end_of first charged x o h))

methods_as : {A B : Type 0} (Does Other : A → B → Type 0) (m : Option A) (n : Option B) → AlikeMethods Does m n → ((a : A) (b : B) → Does a b → Other a b) → AlikeMethods Other m n
methods_as Does Other None None h f = tt
methods_as Does Other None (Some b) h f = absurd h
methods_as Does Other (Some a) None h f = absurd h
methods_as Does Other (Some a) (Some b) h f = f a b h

module _ (times : ℕ) (one : 1 ≤ times) (coding : Coding) (types : Types) (p : Program) (first : ℕ) (own : Bytes) (Allowed : Event → Type 0) (Safe : CommittedState machine → Type 0) (Fits : Kept → Type 0) (sound : SoundActor times coding types p first own Allowed Safe Fits)
    (core : Core) (messages : Messages Kept) (memory : ℕ) (same : SameMessages coding types p messages) (head_is : core.head ≡ head_at types) (starting : StartsAndSaves times coding types p first own Allowed Safe Fits core messages memory)
    (covers : (c d : ℕ) → d ≤ times * c → Covers times Never Never first c memory d) (ending : StartsAndSavesEnd times coding types p first own Allowed Safe Fits core messages memory) where
  abbrev L : Language
  L = core_language core_machine.Waiting Kept

  abbrev P : actor.Program machine
  P = states.with_states coding first types p

  abbrev Q : actor.Program L
  Q = core_actor.actor_program (core_machine.core_machine core) messages core memory

  abbrev R : CommittedState machine → CommittedState L → Type 0
  R s t = Related coding types p core messages own Safe s t

  abbrev K : Kept → Kept → Type 0
  K k l = SameKept coding types p core messages own Fits k l

  pub all_end : AllEnd {S = machine} {T = L} R K (Weighs times) Allowed own P Q
  all_end = record {
    installs = brings first 0 memory 0 (P.start own None) (Q.start own None) ending.installs;
    starts = λ kept there alike. brings first 0 memory 0 (P.start own (Some kept)) (Q.start own (Some there))
        (subst (λ (k : Kept). EndsToo (P.start own (Some kept)) (Q.start own (Some k))) (sym (alike.0))
        (starts_end times one coding types p first own Allowed Safe Fits sound core messages memory same head_is starting Never Never covers ending kept (alike.1)));
    saves = λ number given a b al. brings first a.charged memory b.charged (saving P own a) (saving Q own b)
        (saving_ends times one coding types p first own Allowed Safe Fits sound core messages memory same head_is starting Never Never covers ending number given a b al);
    updates = λ a b al name.
        methods_as (λ (e : Entry) (m : MethodEntry). (caller argument : List ℕ) → Allowed (event.Call false name caller argument) → EndsToo (entered P own a e caller argument) (entered Q own b m caller argument))
        (λ e m. (caller argument : List ℕ) → Allowed (event.Call false name caller argument) → Brings first a.charged memory b.charged (entered P own a e caller argument) (entered Q own b m caller argument))
        (P.update name) (Q.update name) (updates_end times one coding types p first own Allowed Safe Fits sound core messages memory same head_is starting Never Never covers a b al name)
        (λ e m f caller argument given. brings first a.charged memory b.charged (entered P own a e caller argument) (entered Q own b m caller argument) (f caller argument given));
    queries = λ a b al name.
        methods_as (λ (e : Entry) (m : MethodEntry). (query : Bool) (caller argument : List ℕ) → Allowed (event.Call query name caller argument) → EndsToo (entered P own a e caller argument) (entered Q own b m caller argument))
        (λ e m. (query : Bool) (caller argument : List ℕ) → Allowed (event.Call query name caller argument) → Brings first a.charged memory b.charged (entered P own a e caller argument) (entered Q own b m caller argument))
        (P.query name) (Q.query name) (queries_end times one coding types p first own Allowed Safe Fits sound core messages memory same head_is starting Never Never covers a b al name)
        (λ e m f query caller argument given. brings first a.charged memory b.charged (entered P own a e caller argument) (entered Q own b m caller argument) (f query caller argument given));
    answers = λ a b al number c d there here is_open opened received given. brings first a.charged memory b.charged (answering P own a number c received) (answering Q own b number d received)
        (answers_end times one coding types p first own Allowed Safe Fits sound core messages memory same head_is starting Never Never covers a b al number c d there here is_open received given);
  }
