-- Each execution of an actor is light, and each event keeps what that rests on.
use Rattle.std.proofs.Common.{◌≡◌, ◌≤◌, ℕ, List, [], ◌∷◌, length, Option, Some, None, true, refl, ap, subst, arith}
use Rattle.std.specs.Prelude.{codes}
use Rattle.mo_types.specs.declared.node.TypeId.{TypeId}
use Rattle.mo_types.specs.Calls.{Answered, Lost, call_at, is_open_state, set_state}
use Rattle.mo_values.specs.Shapes.{Bytes}
use Rattle.mo_actor.specs.CallAnswers.{Received, Reply, Reject, received_value, reply_value, filled, broken_by, no_effects, resumed, answering}
use Rattle.mo_actor.specs.Completions.{committed}
use Rattle.mo_actor.specs.Executions.{Execution, Completes}
use Rattle.mo_actor.specs.IncomingCalls.{arrived, entered_body, entered}
use Rattle.mo_actor.specs.Measures.{Unmeasured}
use Rattle.mo_actor.specs.Passes.{committed_state}
use Rattle.mo_actor.specs.Programs as actor
use Rattle.mo_actor.specs.Programs.{Effects}
use Rattle.mo_actor.specs.Results.{Completed, HasResult}
use Rattle.mo_actor.specs.States.{IsDead, Actor, activation_at, waiting_on}
use Rattle.mo_actor.proofs.Trapping.{never_completes}
use Rattle.typed_tree.specs.declared.action.Action.TheVariants as action
use Rattle.typed_tree.specs.Language as language
use Rattle.typed_tree.specs.Programs.{Program}
use Rattle.mo_meaning.specs.Acts.{Given, Gets, Fails}
use Rattle.mo_meaning.specs.Actor.{surroundings, results_given}
use Rattle.mo_meaning.specs.Coding.{Types, Coding}
use Rattle.mo_meaning.specs.Kernel.{Entry}
use Rattle.mo_meaning.specs.Messages.{read_values}
use Rattle.mo_meaning.specs.Saving.{alone}
use Rattle.mo_machine.specs.ActorLanguage.{machine, Waiting, Enters, Resumes}
use Rattle.mo_machine.specs.Acts.{Store}
use Rattle.mo_machine.specs.Bodies.{entering}
use Rattle.mo_machine.specs.Frames.{Ready}
use Rattle.mo_machine.specs.Starting.{saving_from}
use Rattle.mo_machine.specs.States as states
use Rattle.mo_machine.specs.Values.{load}
use Rattle.machine_nesting.specs.Actors.{GoodGiven, GoodWaiting, MaybeWaiting, GoodState, continued, running, LightActor}
use Rattle.machine_nesting.specs.Laws.{ActorsAreLight}
use Rattle.machine_nesting.specs.Sizes.{SizedProgram, GoodEach}
use Rattle.machine_nesting.specs.Stacks.{ends_on, nodes_on, Light}
use Rattle.machine_nesting.proofs.Acting.{MaybeGiven}
use Rattle.machine_nesting.proofs.Bodies.{read_sized, packed_sized, enters_light, waits_light, saving_light, starts_light, started, GoodEffects, body_leaves}
use Rattle.machine_nesting.proofs.Calls.{Called, arrived_held, owner_held, set_held, left_held, waits_at, future_good}
use Rattle.machine_nesting.proofs.Counting.{few_ends}
use Rattle.machine_nesting.proofs.Sizes.{load_good}
use Rattle.machine_nesting.proofs.Standing.{busy_value, busy_ready}
use Rattle.machine_nesting.proofs.Turning.{is_light}

-- what waited goes on
continues : (g : Given) → GoodGiven g → (cells : Store) → GoodEach cells → (w : Waiting) → GoodWaiting w → Light 1 (continued g cells w)
continues (Gets v) g cells h w i =
    record { store = h; standing = busy_value 1 w.stack i.busy.piled (load v) (load_good v g); paid = let x : nodes_on w.stack ≤ w.nodes = i.paid in omega (arith, x) }
continues (Fails e) g cells h w i = waits_light cells h w i (Ready action.Throw (load e ∷ [])) (busy_ready 1 w.stack i.busy.piled action.Throw (load e ∷ []) (load_good e g, tt))

completion_of : {A : Type 0} (first charged : ℕ) (x : Execution A) (prints : List Bytes) (weight : ℕ) (a : A) → HasResult Unmeasured first charged x (Completed prints weight a) → (n : ℕ) × ((x n).completion ≡ Some (Completes a))
completion_of first charged x prints weight a h = (h.0, ap (λ p. p.completion) h.2)

module _ (coding : Coding) (types : Types) (p : Program) (sized : SizedProgram p) (first : ℕ) (own : Bytes) where
  abbrev P : actor.Program machine
  P = running coding types p first own

  abbrev IsGood : Actor machine → Type 0
  IsGood a = GoodState (committed_state a)

  -- what an execution leaves is taken over
  committed_good : (a : Actor machine) → IsGood a → (owner weight : ℕ) (e : Effects machine) → GoodEffects e → IsGood (committed owner weight e a)
  committed_good a h owner weight e g = record { fields = g.fields; calls = left_held a.table.first a.table.calls a.activations owner e.calls h.calls e.ending g.ending g.quiet }

  arrived_good : (a : Actor machine) → IsGood a → IsGood (arrived a)
  arrived_good a h = record { fields = h.fields; calls = arrived_held a.table.first a.table.calls a.activations h.calls }

  -- ---- calls

  called : (a : Actor machine) → IsGood a → (entry : Entry) (caller argument : Bytes) (n : ℕ) (e : Effects machine) → (entered P own a entry caller argument n).completion ≡ Some (Completes e) → GoodEffects e
  called a h entry caller argument n e q = by (read_values coding types entry.parameters argument) refl q
    where
      by : (o : Option (List language.Value)) → read_values coding types entry.parameters argument ≡ o → (entered_body P own a (states.entered entry caller o) n).completion ≡ Some (Completes e) → GoodEffects e
      by None i k = absurd (never_completes (codes "bad argument") n e k)
      by (Some vs) i k = body_leaves (surroundings coding types own a.table) a.store h.fields (Enters entry caller vs) (read_sized coding types entry.parameters argument vs i) n e k

  -- ---- answers

  results_good : (ts : List TypeId) (bytes : Bytes) → MaybeGiven (results_given (read_values coding types ts bytes))
  results_good ts bytes = by (read_values coding types ts bytes) refl
    where
      by : (o : Option (List language.Value)) → read_values coding types ts bytes ≡ o → MaybeGiven (results_given o)
      by None i = tt
      by (Some vs) i = packed_sized vs (read_sized coding types ts bytes vs i)

  reply_good : (a : Actor machine) → IsGood a → (c : Called) (o : Option ℕ) (bytes : Bytes) → MaybeGiven (reply_value P own a c o bytes)
  reply_good a h c None bytes = results_good c.results bytes
  reply_good a h c (Some future) bytes = future_good a.table.first future a.table.calls a.activations h.calls

  received_good : (a : Actor machine) → IsGood a → (c : Called) (received : Received) → MaybeGiven (received_value P own a c received)
  received_good a h c (Reply bytes) = reply_good a h c c.resumes bytes
  received_good a h c (Reject code text) = tt

  filled_good : (a : Actor machine) → IsGood a → (number : ℕ) (o : Option Given) → MaybeGiven o → IsGood (filled number o a)
  filled_good a h number None g = record { fields = h.fields; calls = set_held a.table.first number (Answered None) a.table.calls a.activations refl tt h.calls }
  filled_good a h number (Some v) g = record { fields = h.fields; calls = set_held a.table.first number (Answered (Some v)) a.table.calls a.activations refl g h.calls }

  maybe_is : (o : Option Waiting) (w : Waiting) → MaybeWaiting o → o ≡ Some w → GoodWaiting w
  maybe_is None w h q = absurd (let z : None ≡ Some w = q in cc)
  maybe_is (Some v) w h q = subst GoodWaiting (let same : v ≡ w = cc in same) h

  given_is : (o : Option Given) (g : Given) → MaybeGiven o → o ≡ Some g → GoodGiven g
  given_is None g h q = absurd (let z : None ≡ Some g = q in cc)
  given_is (Some v) g h q = subst GoodGiven (let same : v ≡ g = cc in same) h

  module _ (a : Actor machine) (h : IsGood a) (number : ℕ) (c : Called) (at : call_at a.table number ≡ Some c) (opened : is_open_state c.state ≡ true) (received : Received) where
    waits : MaybeWaiting (waiting_on number (activation_at a.activations c.owner))
    waits = waits_at a.table.first number a.table.calls a.activations c h.calls at opened

    nothing_done : GoodEffects (no_effects a)
    nothing_done = record { fields = h.fields; ending = tt; quiet = λ u. refl }

    answered : (n : ℕ) (e : Effects machine) → (answering P own a number c received n).completion ≡ Some (Completes e) → GoodEffects e
    answered n e q = by (received_value P own a c received) (received_good a h c received) (waiting_on number (activation_at a.activations c.owner)) waits q
      where
        by : (o : Option Given) → MaybeGiven o → (w : Option Waiting) → MaybeWaiting w → (resumed P own a number o w n).completion ≡ Some (Completes e) → GoodEffects e
        by None g w i k = absurd (never_completes (codes "bad reply") n e k)
        by (Some v) g None i k = subst GoodEffects (let z : Some (Completes (no_effects a)) ≡ Some (Completes e) = k in let same : no_effects a ≡ e = cc in same) nothing_done
        by (Some v) g (Some w) i k = body_leaves (surroundings coding types own (set_state a.table number (Answered (Some v)))) a.store h.fields (Resumes w v) (i, g) n e k

  broken_good : (a : Actor machine) → IsGood a → (number owner : ℕ) (o : Option Waiting) → IsGood (broken_by number owner a o)
  broken_good a h number owner None = record { fields = h.fields; calls = set_held a.table.first number Lost a.table.calls a.activations refl tt h.calls }
  broken_good a h number owner (Some w) = record {
    fields = h.fields;
    calls = owner_held a.table.first _ a.activations owner IsDead (λ m. tt) (set_held a.table.first number (Answered None) a.table.calls a.activations refl tt h.calls);
  }

  -- ---- all of it

  light_actor : LightActor coding types p first own
  light_actor = record {
    starts = λ kept. starts_light coding types p sized own kept;
    saves = λ fields h. is_light 1 (omega arith) (alone coding types own) (saving_from p fields) (saving_light p fields h);
    enters = λ a h entry caller argument vs q.
        is_light 1 (omega arith) (surroundings coding types own a.table) (entering a.store entry caller vs) (enters_light a.store h.fields entry caller vs (read_sized coding types entry.parameters argument vs q));
    resumes = λ a h number c at opened received v q w i.
        let g = given_is (received_value P own a c received) v (received_good a h c received) q in
        let k = maybe_is (waiting_on number (activation_at a.activations c.owner)) w (waits_at a.table.first number a.table.calls a.activations c h.calls at opened) i in
        let x : ends_on w.stack ≤ nodes_on w.stack = few_ends w.stack k.busy.piled in
        let y : nodes_on w.stack ≤ w.nodes = k.paid in
        (is_light 1 (omega arith) (surroundings coding types own (set_state a.table number (Answered (Some v)))) (continued v a.store.cells w) (continues v g a.store.cells h.fields.cells w k), omega (arith, x, y));
    begun = λ kept prints weight store r made. let c = completion_of first 0 (P.start own kept) prints weight store r in record { fields = started coding types p sized own kept c.0 store c.1; calls = tt };
    called = λ a h entry caller argument prints weight e r.
        let c = completion_of first a.charged (entered P own a entry caller argument) prints weight e r in
        committed_good (arrived a) (arrived_good a h) (length a.activations) weight e (called a h entry caller argument c.0 e c.1);
    answered = λ a h number c at opened received prints weight e r.
        let d = completion_of first a.charged (answering P own a number c received) prints weight e r in
        committed_good (filled number (received_value P own a c received) a) (filled_good a h number (received_value P own a c received) (received_good a h c received)) c.owner weight e
        (answered a h number c at opened received d.0 e d.1);
    trapped = λ a h number owner. broken_good a h number owner (waiting_on number (activation_at a.activations owner));
  }

pub actors_are_light : ActorsAreLight
actors_are_light coding types p sized first own = light_actor coding types p sized first own
