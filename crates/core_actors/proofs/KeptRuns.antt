-- The actor of a new program keeps to that of an old one under an invariant in which no execution of the old one breaks.
use Rattle.std.proofs.Common.{◌≡◌, ℕ, suc, ◌+◌, ◌*◌, ◌≤◌, refl, sym, ap, ◌∙◌, subst, List, [], ◌∷◌, ◌++◌, length, map, Option, Some, None, Bool, true, false, arith as arithmetic}
use Rattle.std.specs.Prelude.{cond, codes, nat_eq, slice_set}
use Rattle.std.proofs.Math.Nat.{mul-add}
use Rattle.play_script.specs.declared.event.Event.{Event}
use Rattle.play_script.specs.declared.event.Event.TheVariants as event
use Rattle.mo_types.specs.declared.node.TypeId.{TypeId}
use Rattle.mo_types.specs.Calls.{Answered, Lost, Call, CallTable, call_at, is_open_state, open_count, set_from, set_state}
use Rattle.mo_values.specs.Shapes.{Bytes}
use Rattle.mo_actor.specs.Completions.{activation_after, committed, open_call}
use Rattle.mo_actor.specs.CallAnswers.{Received, Reply, Reject, reply_value, received_value, reply_reading, received_reading, filled, broken_by, broken, resumed, answering, future_value}
use Rattle.mo_actor.specs.Executions.{Progress, Execution, ReadingCost, after_reading, trapping}
use Rattle.mo_actor.specs.IncomingCalls.{arrived, entered_body, entered}
use Rattle.mo_actor.specs.Measures.{Measure}
use Rattle.mo_actor.specs.Passes.{CommittedState, held_calls, committed_state, fresh_state, AlikeResults, AlikeMethods, AlikeCalls, AlikeEndings, AlikeActors, AlikeEffects, Keeps, answer_event}
use Rattle.mo_actor.specs.Programs as actor
use Rattle.mo_actor.specs.Programs.{Ending, Answers, Awaits, AwaitsNothing, Unchanged, Effects}
use Rattle.mo_actor.specs.Results.{Result, Completed, Trapped, Exhausted, HasResult}
use Rattle.mo_actor.specs.States.{Activation, IsDead, Actor, activation_at, waiting_on}
use Rattle.mo_actor.specs.Upgrades.{saving}
use Rattle.core_ir.specs.Values.{Value}
use Rattle.core_ir.specs.Programs.{Program}
use Rattle.core_ir.specs.Worlds.{Given, World}
use Rattle.core_ir.specs.Executions.{Begins, Resumes, Machine}
use Rattle.core_ir.specs.Formed.{IsSafe}
use Rattle.core_ir.specs.Messages.{Messages}
use Rattle.core_ir.specs.Actor as actor_of
use Rattle.core_ir.specs.Actor.{Fields, Pending, Body, Enters, GoesOn, MethodEntry, core_language, actor_program, method_from, context_of, world_of, run_body, alone}
use Rattle.core_laws.specs.Followed.{FieldsAlike, EffectsAlike, Followed}
use Rattle.core_laws.specs.Following.{Follows}
use Rattle.core_laws.proofs.ActorsFollow.{trapping_follows, reading_follows}
use Rattle.core_laws.proofs.ComesOut.{Covers, comes_out}
use Rattle.core_actors.specs.KeptActors.{WaitingAlike, HeldAll, Related, SameKept, Weighs}
use Rattle.core_actors.specs.Unbroken.{Unbroken}
use Rattle.core_actors.proofs.KeptCalls.{lengths, calls_same, Each, each_of, held_of, each_at, each_set, each_arrived, each_owner, each_left, opened_same, calls_alike, endings_alike}
use Rattle.core_actors.proofs.KeptNames.{entered_leaves, answering_leaves}

-- ---- results

module _ {A B : Type 0} (R Q : ℕ → ℕ → A → B → Type 0) (pays : Measure) (first charged : ℕ) (x : Execution A) where
  pub out_as : (o : Result A) (r : Result B) → HasResult pays first charged x o → AlikeResults R o r
      → ((prints : List Bytes) (weight : ℕ) (a : A) (other : ℕ) (b : B) → HasResult pays first charged x (Completed prints weight a) → R weight other a b → Q weight other a b) → AlikeResults Q o r
  out_as (Completed prints weight a) (Completed shown other b) h al f = (al.0, f prints weight a other b h (al.1))
  out_as (Completed prints weight a) (Trapped shown said) h al f = absurd al
  out_as (Completed prints weight a) (Exhausted shown word) h al f = absurd al
  out_as (Trapped prints text) (Completed shown other b) h al f = absurd al
  out_as (Trapped prints text) (Trapped shown said) h al f = al
  out_as (Trapped prints text) (Exhausted shown word) h al f = absurd al
  out_as (Exhausted prints cause) (Completed shown other b) h al f = absurd al
  out_as (Exhausted prints cause) (Trapped shown said) h al f = absurd al
  out_as (Exhausted prints cause) (Exhausted shown word) h al f = al

adds_up : (y w a b c : ℕ) → y ≤ a → w ≤ b → c ≡ a + b → y + w ≤ c
adds_up y w a b c h i e = omega (arithmetic, h, i, e)

abbrev table_of : ℕ → List (Call (List TypeId) Given) → CallTable (List TypeId) Given
table_of n cs = record { first = n; calls = cs }

table_is : (s t : CallTable (List TypeId) Given) → s.first ≡ t.first → t.calls ≡ s.calls → t ≡ s
table_is s t e f = ap (λ n. table_of n t.calls) (sym e) ∙ ap (table_of s.first) f

module _ {S T V W K B C : Type 0} (times : ℕ) (one : 1 ≤ times) (moved : World → World) (old : Machine S V) (new : Machine T W) (messages : Messages K) (p : Program B) (q : Program C) (own : Bytes)
    (followed : Followed times moved old new messages p q own) (first memory : ℕ) (pays_old pays_new : Measure) (covers : (c d : ℕ) → d ≤ times * c → Covers times pays_old pays_new first c memory d)
    (Allowed : Event → Type 0) (Safe : CommittedState (core_language V K) → Type 0) (Fits : K → Type 0) (unbroken : Unbroken old messages p first own Allowed Safe Fits) where
  abbrev P : actor.Program (core_language V K)
  P = actor_program old messages p first

  abbrev Q : actor.Program (core_language W K)
  Q = actor_program new messages q memory

  abbrev R : CommittedState (core_language V K) → CommittedState (core_language W K) → Type 0
  R s t = Related times moved old new messages p q own Safe Fits s t

  abbrev Weighed : ℕ → ℕ → Type 0
  Weighed x y = Weighs times moved old new messages p q own Safe Fits x y

  abbrev Alike : Actor (core_language V K) → Actor (core_language W K) → Type 0
  Alike a b = AlikeActors {S = core_language V K} {T = core_language W K} R Weighed a b

  abbrev Stores : Fields → Fields → Type 0
  Stores f g = FieldsAlike times moved old new messages p q f g

  abbrev Left : List Value → Effects (core_language V K) → Effects (core_language W K) → Type 0
  Left names x y = EffectsAlike times moved old new messages p q (alone old messages p own names) x y

  abbrev EachWaits : List Value → ℕ → List (Call (List TypeId) Given) → List (Activation (core_language V K)) → List (Activation (core_language W K)) → Type 0
  EachWaits names n cs xs ys = Each times moved old new messages p q own Safe Fits names n cs xs ys

  tables : (a : Actor (core_language V K)) (b : Actor (core_language W K)) → Alike a b → b.table ≡ a.table
  tables a b al = table_is a.table b.table al.first (calls_same times moved old new messages p q own Safe Fits a.store.names a.table.first b.table.first a.table.calls b.table.calls a.activations b.activations al.related.calls)

  eachs : (a : Actor (core_language V K)) (b : Actor (core_language W K)) → Alike a b → EachWaits a.store.names a.table.first a.table.calls a.activations b.activations
  eachs a b al =
      each_of times moved old new messages p q own Safe Fits a.store.names a.table.first a.table.calls a.activations b.activations
      (subst (λ (t : CallTable (List TypeId) Given). HeldAll times moved old new messages p q own Safe Fits a.store.names (held_calls a.table.first a.table.calls a.activations) (held_calls t.first t.calls b.activations)) (tables a b al) al.related.calls)

  -- what an execution leaves, over actors whose calls are these
  related_left : (table : CallTable (List TypeId) Given) (a : Actor (core_language V K)) (b : Actor (core_language W K)) (owner weight other : ℕ) (x : Effects (core_language V K)) (y : Effects (core_language W K)) (names : List Value)
      → a.table ≡ table → b.table ≡ table → length b.activations ≡ length a.activations → EachWaits names table.first table.calls a.activations b.activations → Left names x y
      → x.store.names ≡ names → (x.ending ≡ Unchanged → x.calls ≡ []) → Safe (committed_state (committed owner weight x a)) → R (committed_state (committed owner weight x a)) (committed_state (committed owner other y b))
  related_left table a b owner weight other x y names ea eb l each left n quiet safe =
      let calls = table.calls ++ map (open_call owner) x.calls in
      let xs = slice_set a.activations owner (activation_after x.ending (activation_at a.activations owner)) in
      let ys = slice_set b.activations owner (activation_after y.ending (activation_at b.activations owner)) in
      let held : HeldAll times moved old new messages p q own Safe Fits names (held_calls table.first calls xs) (held_calls table.first calls ys) =
      held_of times moved old new messages p q own Safe Fits names table.first calls xs ys
      (each_left times moved old new messages p q own Safe Fits names owner x.calls table.first table.calls a.activations b.activations x.ending y.ending l left.ending quiet each) in
      let news : map (open_call owner) y.calls ≡ map (open_call owner) x.calls =
      ap (map (open_call owner)) left.calls ∙ opened_same times moved old new messages p q own Safe Fits names owner x.calls in
      record {
        safe = safe;
        store = left.store;
        calls =
            subst (λ (ns : List Value). HeldAll times moved old new messages p q own Safe Fits ns (held_calls a.table.first (a.table.calls ++ map (open_call owner) x.calls) xs) (held_calls b.table.first (b.table.calls ++ map (open_call owner) y.calls) ys)) (sym n)
            (subst (λ (t : CallTable (List TypeId) Given). HeldAll times moved old new messages p q own Safe Fits names (held_calls t.first (t.calls ++ map (open_call owner) x.calls) xs) (held_calls b.table.first (b.table.calls ++ map (open_call owner) y.calls) ys)) (sym ea)
            (subst (λ (t : CallTable (List TypeId) Given). HeldAll times moved old new messages p q own Safe Fits names (held_calls table.first (table.calls ++ map (open_call owner) x.calls) xs) (held_calls t.first (t.calls ++ map (open_call owner) y.calls) ys)) (sym eb)
            (subst (λ (cs : List (Call (List TypeId) Given)). HeldAll times moved old new messages p q own Safe Fits names (held_calls table.first (table.calls ++ map (open_call owner) x.calls) xs) (held_calls table.first (table.calls ++ cs) ys)) (sym news) held)));
      }

  effects_alike : (a : Actor (core_language V K)) (b : Actor (core_language W K)) (owner weight other : ℕ) (x : Effects (core_language V K)) (y : Effects (core_language W K)) (names : List Value) → other ≤ times * weight → Left names x y
      → R (committed_state (committed owner weight x a)) (committed_state (committed owner other y b)) → AlikeEffects {S = core_language V K} {T = core_language W K} R Weighed a b owner weight other x y
  effects_alike a b owner weight other x y names w left r = record {
    weighs = w;
    calls = subst (λ (cs : List (actor.OutgoingCall (core_language W K))). AlikeCalls {S = core_language V K} {T = core_language W K} x.calls cs) (sym left.calls) (calls_alike times moved old new messages p q own Safe Fits names x.calls);
    ending = endings_alike times moved old new messages p q own Safe Fits names x.ending y.ending left.ending;
    related = r;
  }

  -- ---- installations, upgrades and saves

  begins : (kept : Option K) → Follows times Stores (P.start own kept) (Q.start own kept) → (r : Result Fields) → HasResult pays_new memory 0 (Q.start own kept) r
      → (o : Result Fields) × HasResult pays_old first 0 (P.start own kept) o
      × AlikeResults (λ x y (s : Fields) (t : Fields). Weighed x y × ((made : ℕ) → R (fresh_state {L = core_language V K} s made) (fresh_state {L = core_language W K} t made))) o r
  begins kept f r h =
      let c = comes_out times Stores pays_old pays_new first 0 memory 0 (covers 0 0 (omega arithmetic)) (P.start own kept) (Q.start own kept) f r h in (
        c.0,
        c.1,
        out_as (λ x y s t. (y ≤ times * x) × Stores s t) (λ x y s t. Weighed x y × ((made : ℕ) → R (fresh_state {L = core_language V K} s made) (fresh_state {L = core_language W K} t made))) pays_old first 0 (P.start own kept) c.0 r c.1 c.2
            (λ prints weight s other t i z. (z.0, λ made. record { safe = unbroken.begun kept prints weight s i made; store = z.1; calls = tt })),
      )

  saving_follows : (a : Actor (core_language V K)) (b : Actor (core_language W K)) → Alike a b → Follows times (λ (x : K) (y : K). y ≡ x) (saving P own a) (saving Q own b)
  saving_follows a b al =
      subst (λ (t : CallTable (List TypeId) Given). Follows times (λ (x : K) (y : K). y ≡ x) (saving P own a) (cond (nat_eq (open_count t) 0) (Q.save own b.store) (trapping (codes "outstanding calls")))) (sym (tables a b al))
      (by (nat_eq (open_count a.table) 0))
    where
      by : (o : Bool) → Follows times (λ (x : K) (y : K). y ≡ x) (cond o (P.save own a.store) (trapping (codes "outstanding calls"))) (cond o (Q.save own b.store) (trapping (codes "outstanding calls")))
      by true = followed.saves a.store b.store al.related.store (unbroken.saves a al.related.safe)
      by false = trapping_follows times one (λ (x : K) (y : K). y ≡ x) (codes "outstanding calls")

  -- ---- calls

  enters_follow : (a : Actor (core_language V K)) (b : Actor (core_language W K)) → Alike a b → (entry : MethodEntry) (caller argument : Bytes)
      → ((vs : List Value) → messages.read entry.parameters argument ≡ Some vs → IsSafe old (context_of old messages p own a.table a.store.names) (world_of old messages p a.store) (Begins entry.place caller vs))
      → Follows times (Left a.store.names) (entered P own a entry caller argument) (entered Q own b entry caller argument)
  enters_follow a b al entry caller argument safe =
      reading_follows times one (Left a.store.names) (messages.reading_cost entry.parameters argument) (entered_body P own a (P.enter entry caller argument)) (entered_body Q own b (Q.enter entry caller argument))
      (by (messages.read entry.parameters argument) refl)
    where
      by : (o : Option (List Value)) → messages.read entry.parameters argument ≡ o → Follows times (Left a.store.names) (entered_body P own a (actor_of.entered old messages p entry caller o)) (entered_body Q own b (actor_of.entered new messages q entry caller o))
      by None e = trapping_follows times one (Left a.store.names) (codes "bad argument")
      by (Some vs) e =
          subst (λ (t : CallTable (List TypeId) Given). Follows times (Left a.store.names) (run_body old messages p own a.table a.store (Enters entry caller vs)) (run_body new messages q own t b.store (Enters entry caller vs))) (sym (tables a b al))
          (followed.runs a.table a.store b.store al.related.store (Enters entry caller vs) (Enters entry caller vs) refl (safe vs e))

  arrived_left : (a : Actor (core_language V K)) (b : Actor (core_language W K)) → Alike a b → (weight other : ℕ) (x : Effects (core_language V K)) (y : Effects (core_language W K)) → other ≤ times * weight → Left a.store.names x y
      → (x.store.names ≡ a.store.names) × (x.ending ≡ Unchanged → x.calls ≡ []) → Safe (committed_state (committed (length a.activations) weight x (arrived a)))
      → AlikeEffects {S = core_language V K} {T = core_language W K} R Weighed (arrived a) (arrived b) (length a.activations) weight other x y
  arrived_left a b al weight other x y w left n safe =
      let l = lengths a.activations b.activations al.activations in
      effects_alike (arrived a) (arrived b) (length a.activations) weight other x y a.store.names w left
      (related_left a.table (arrived a) (arrived b) (length a.activations) weight other x y a.store.names refl (tables a b al) (dead_length a.activations b.activations l)
      (each_arrived times moved old new messages p q own Safe Fits a.store.names a.table.first a.table.calls a.activations b.activations (eachs a b al)) left (n.0) (n.1) safe)
    where
      one_more : {A : Type 0} (xs : List A) (x : A) → length (xs ++ x ∷ []) ≡ suc (length xs)
      one_more [] x = refl
      one_more (y ∷ xs) x = ap suc (one_more xs x)

      dead_length : (xs : List (Activation (core_language V K))) (ys : List (Activation (core_language W K))) → length ys ≡ length xs → length (ys ++ IsDead ∷ []) ≡ length (xs ++ IsDead ∷ [])
      dead_length xs ys l = one_more ys IsDead ∙ ap suc l ∙ sym (one_more xs IsDead)

  module _ (a : Actor (core_language V K)) (b : Actor (core_language W K)) (al : Alike a b) where
    abbrev Names : List Value
    Names = a.store.names

    abbrev Arrives : ℕ → ℕ → Effects (core_language V K) → Effects (core_language W K) → Type 0
    Arrives x y s t = AlikeEffects {S = core_language V K} {T = core_language W K} R Weighed (arrived a) (arrived b) (length a.activations) x y s t

    abbrev Asks : ℕ → ℕ → Effects (core_language V K) → Effects (core_language W K) → Type 0
    Asks x y s t = AlikeEndings {S = core_language V K} {T = core_language W K} s.ending t.ending

    abbrev Comes : (ℕ → ℕ → Effects (core_language V K) → Effects (core_language W K) → Type 0) → Execution (Effects (core_language V K)) → Result (Effects (core_language W K)) → Type 0
    Comes Both x r = (o : Result (Effects (core_language V K))) × HasResult pays_old first a.charged x o × AlikeResults Both o r

    comes_as : (Both : ℕ → ℕ → Effects (core_language V K) → Effects (core_language W K) → Type 0) (x : Execution (Effects (core_language V K))) (y : Execution (Effects (core_language W K))) → Follows times (Left Names) x y
        → (r : Result (Effects (core_language W K))) → HasResult pays_new memory b.charged y r
        → ((prints : List Bytes) (weight : ℕ) (s : Effects (core_language V K)) (other : ℕ) (t : Effects (core_language W K)) → HasResult pays_old first a.charged x (Completed prints weight s) → (other ≤ times * weight) × Left Names s t → Both weight other s t)
        → Comes Both x r
    comes_as Both x y f r h g =
        let c = comes_out times (Left Names) pays_old pays_new first a.charged memory b.charged (covers a.charged b.charged al.charged) x y f r h in
        (c.0, c.1, out_as (λ x y s t. (y ≤ times * x) × Left Names s t) Both pays_old first a.charged x c.0 r c.1 c.2 g)

    -- ---- methods

    methods_by : (Does : MethodEntry → MethodEntry → Type 0) (o : Option MethodEntry) → ((m : MethodEntry) → o ≡ Some m → Does m m) → AlikeMethods Does o o
    methods_by Does None f = tt
    methods_by Does (Some m) f = f m refl

    module _ (name : List ℕ) where
      abbrev Updates : MethodEntry → MethodEntry → Type 0
      Updates m n =
          (caller argument : List ℕ) → Allowed (event.Call false name caller argument)
          → (r : Result (Effects (core_language W K))) → HasResult pays_new memory b.charged (entered Q own b n caller argument) r → Comes Arrives (entered P own a m caller argument) r

      abbrev Queries : MethodEntry → MethodEntry → Type 0
      Queries m n =
          (query : Bool) (caller argument : List ℕ) → Allowed (event.Call query name caller argument)
          → (r : Result (Effects (core_language W K))) → HasResult pays_new memory b.charged (entered Q own b n caller argument) r → Comes Asks (entered P own a m caller argument) r

      update : (m : MethodEntry) → method_from 0 false name p.methods ≡ Some m → Updates m m
      update m e caller argument allowed r h =
          comes_as Arrives (entered P own a m caller argument) (entered Q own b m caller argument) (enters_follow a b al m caller argument (λ vs i. unbroken.enters a al.related.safe false false name caller argument m e allowed vs i)) r h
          (λ prints weight s other t i z. arrived_left a b al weight other s t z.0 z.1 (entered_leaves old messages p first own a m caller argument i.0 s (ap (λ (p : Progress (Effects (core_language V K))). p.completion) i.2))
          (unbroken.called a al.related.safe name caller argument m e allowed prints weight s i))

      query : (m : MethodEntry) → method_from 0 true name p.methods ≡ Some m → Queries m m
      query m e called caller argument allowed r h =
          comes_as Asks (entered P own a m caller argument) (entered Q own b m caller argument) (enters_follow a b al m caller argument (λ vs i. unbroken.enters a al.related.safe true called name caller argument m e allowed vs i)) r h
          (λ prints weight s other t i z. endings_alike times moved old new messages p q own Safe Fits Names s.ending t.ending (z.1).ending)

      updates : AlikeMethods Updates (P.update name) (Q.update name)
      updates = subst (λ (o : Option MethodEntry). AlikeMethods Updates (P.update name) o) (sym (followed.outside.methods false name)) (methods_by Updates (method_from 0 false name p.methods) update)

      queries : AlikeMethods Queries (P.query name) (Q.query name)
      queries = subst (λ (o : Option MethodEntry). AlikeMethods Queries (P.query name) o) (sym (followed.outside.methods true name)) (methods_by Queries (method_from 0 true name p.methods) query)

    -- ---- answers

    module _ (number : ℕ) (c : Call (List TypeId) Given) (there : call_at a.table number ≡ Some c) (is_open : is_open_state c.state ≡ true) where
      value_same : (received : Received) → received_value Q own b c received ≡ received_value P own a c received
      value_same (Reply bytes) = by c.resumes
        where
          by : (o : Option ℕ) → reply_value Q own b c o bytes ≡ reply_value P own a c o bytes
          by None = refl
          by (Some future) = ap (λ (t : CallTable (List TypeId) Given). future_value t future) (tables a b al)
      value_same (Reject code text) = refl

      reading_same : (received : Received) → received_reading Q own b c received ≡ received_reading P own a c received
      reading_same (Reply bytes) = by c.resumes
        where
          by : (o : Option ℕ) → reply_reading Q own b c o bytes ≡ reply_reading P own a c o bytes
          by None = refl
          by (Some future) = refl
      reading_same (Reject code text) = refl

      abbrev Old : Option (Pending V)
      Old = waiting_on number (activation_at a.activations c.owner)

      abbrev New : Option (Pending W)
      New = waiting_on number (activation_at b.activations c.owner)

      waits : WaitingAlike times moved old new messages p q own Safe Fits Names Old New
      waits = each_at times moved old new messages p q own Safe Fits Names a.table.first number a.table.calls c a.activations b.activations (eachs a b al) there is_open

      resumes_follow : (v : Option Given) (x : Option (Pending V)) (y : Option (Pending W)) → WaitingAlike times moved old new messages p q own Safe Fits Names x y
          → ((value : Given) → v ≡ Some value → (w : Pending V) → x ≡ Some w → IsSafe old (context_of old messages p own (set_state a.table number (Answered (Some value))) a.store.names) (world_of old messages p a.store) (Resumes w.waiting value))
          → Follows times (Left Names) (resumed P own a number v x) (resumed Q own b number v y)
      resumes_follow None x y w safe = trapping_follows times one (Left Names) (codes "bad reply")
      resumes_follow (Some value) None None w safe = λ k. (k, record { prints_are = refl; weight = omega arithmetic; depth = omega arithmetic; completion = record { store = al.related.store; calls = refl; ending = refl } })
      resumes_follow (Some value) (Some x) (Some y) w safe =
          subst (λ (t : CallTable (List TypeId) Given). Follows times (Left Names) (run_body old messages p own (set_state a.table number (Answered (Some value))) a.store (GoesOn x value)) (run_body new messages q own (set_state t number (Answered (Some value))) b.store (GoesOn y value))) (sym (tables a b al))
          (followed.runs (set_state a.table number (Answered (Some value))) a.store b.store al.related.store (GoesOn x value) (GoesOn y value) (y, refl, w) (safe value refl x refl))
      resumes_follow (Some value) None (Some y) w safe = absurd w
      resumes_follow (Some value) (Some x) None w safe = absurd w

      module _ (received : Received) (allowed : Allowed (answer_event number received)) where
        abbrev value : Option Given
        value = received_value P own a c received

        answer_follows : Follows times (Left Names) (answering P own a number c received) (answering Q own b number c received)
        answer_follows =
            subst (λ (cost : ReadingCost). Follows times (Left Names) (answering P own a number c received) (after_reading cost (resumed Q own b number (received_value Q own b c received) New))) (sym (reading_same received))
            (reading_follows times one (Left Names) (received_reading P own a c received) (resumed P own a number value Old) (resumed Q own b number (received_value Q own b c received) New)
            (subst (λ (v : Option Given). Follows times (Left Names) (resumed P own a number value Old) (resumed Q own b number v New)) (sym (value_same received))
            (resumes_follow value Old New waits (λ v e w i. unbroken.resumes a al.related.safe number c (there, is_open) received allowed v e w i))))

        abbrev Answers_alike : ℕ → ℕ → Effects (core_language V K) → Effects (core_language W K) → Type 0
        Answers_alike x y s t = AlikeEffects {S = core_language V K} {T = core_language W K} R Weighed (filled number (received_value P own a c received) a) (filled number (received_value Q own b c received) b) c.owner x y s t

        tables_filled : set_state b.table number (Answered (received_value Q own b c received)) ≡ set_state a.table number (Answered value)
        tables_filled = ap (λ (t : CallTable (List TypeId) Given). set_state t number (Answered (received_value Q own b c received))) (tables a b al) ∙ ap (λ (v : Option Given). set_state a.table number (Answered v)) (value_same received)

        filled_left : (weight other : ℕ) (x : Effects (core_language V K)) (y : Effects (core_language W K)) → other ≤ times * weight → Left Names x y → (x.store.names ≡ Names) × (x.ending ≡ Unchanged → x.calls ≡ [])
            → Safe (committed_state (committed c.owner weight x (filled number value a))) → Answers_alike weight other x y
        filled_left weight other x y w left n safe =
            effects_alike (filled number value a) (filled number (received_value Q own b c received) b) c.owner weight other x y Names w left
            (related_left (set_state a.table number (Answered value)) (filled number value a) (filled number (received_value Q own b c received) b) c.owner weight other x y Names refl tables_filled (lengths a.activations b.activations al.activations)
            (each_set times moved old new messages p q own Safe Fits Names a.table.first number (Answered value) a.table.calls a.activations b.activations refl (eachs a b al)) left (n.0) (n.1) safe)

        answer : (r : Result (Effects (core_language W K))) → HasResult pays_new memory b.charged (answering Q own b number c received) r → Comes Answers_alike (answering P own a number c received) r
        answer r h =
            comes_as Answers_alike (answering P own a number c received) (answering Q own b number c received) answer_follows r h
            (λ prints weight s other t i z. filled_left weight other s t z.0 z.1 (answering_leaves old messages p first own a number c received i.0 s (ap (λ (p : Progress (Effects (core_language V K))). p.completion) i.2))
            (unbroken.answered a al.related.safe number c (there, is_open) received allowed prints weight s i))

      -- ---- traps on answers

      broken_related : R (committed_state (broken number c.owner a)) (committed_state (broken number c.owner b))
      broken_related = by Old New waits (unbroken.trapped a al.related.safe number c (there, is_open))
        where
          by : (x : Option (Pending V)) (y : Option (Pending W)) → WaitingAlike times moved old new messages p q own Safe Fits Names x y → Safe (committed_state (broken_by number c.owner a x)) → R (committed_state (broken_by number c.owner a x)) (committed_state (broken_by number c.owner b y))
          by None None w safe = record {
            safe = safe;
            store = al.related.store;
            calls = subst (λ (t : CallTable (List TypeId) Given). HeldAll times moved old new messages p q own Safe Fits Names (held_calls a.table.first (set_from a.table.first a.table.calls number Lost) a.activations) (held_calls t.first (set_from t.first t.calls number Lost) b.activations)) (sym (tables a b al))
                (held_of times moved old new messages p q own Safe Fits Names a.table.first (set_from a.table.first a.table.calls number Lost) a.activations b.activations
                (each_set times moved old new messages p q own Safe Fits Names a.table.first number Lost a.table.calls a.activations b.activations refl (eachs a b al)));
          }
          by (Some x) (Some y) w safe = record {
            safe = safe;
            store = al.related.store;
            calls =
                let dead = each_owner times moved old new messages p q own Safe Fits Names a.table.first (set_from a.table.first a.table.calls number (Answered None)) a.activations b.activations c.owner IsDead IsDead (lengths a.activations b.activations al.activations) (λ m. tt)
                (each_set times moved old new messages p q own Safe Fits Names a.table.first number (Answered None) a.table.calls a.activations b.activations refl (eachs a b al)) in
                subst (λ (t : CallTable (List TypeId) Given). HeldAll times moved old new messages p q own Safe Fits Names (held_calls a.table.first (set_from a.table.first a.table.calls number (Answered None)) (slice_set a.activations c.owner IsDead)) (held_calls t.first (set_from t.first t.calls number (Answered None)) (slice_set b.activations c.owner IsDead))) (sym (tables a b al))
                (held_of times moved old new messages p q own Safe Fits Names a.table.first (set_from a.table.first a.table.calls number (Answered None)) (slice_set a.activations c.owner IsDead) (slice_set b.activations c.owner IsDead) dead);
          }
          by None (Some y) w safe = absurd w
          by (Some x) None w safe = absurd w

  pub keeps : Keeps {S = core_language V K} {T = core_language W K} R (SameKept times moved old new messages p q own Safe Fits) Weighed Allowed pays_old pays_new own P Q
  keeps = record {
    adds = λ x y z w h i. adds_up y w (times * x) (times * z) (times * (x + z)) h i (mul-add times x z);
    installs = begins None (followed.starts None unbroken.installs);
    starts = λ kept there same. subst (λ (k : K). (r : Result Fields) → HasResult pays_new memory 0 (Q.start own (Some k)) r
        → (o : Result Fields) × HasResult pays_old first 0 (P.start own (Some kept)) o
        × AlikeResults (λ x y (s : Fields) (t : Fields). Weighed x y × ((made : ℕ) → R (fresh_state {L = core_language V K} s made) (fresh_state {L = core_language W K} t made))) o r) (sym (same.0))
        (begins (Some kept) (followed.starts (Some kept) (unbroken.starts kept (same.1))));
    saves = λ number allowed a b al r h.
        let c = comes_out times (λ (x : K) (y : K). y ≡ x) pays_old pays_new first a.charged memory b.charged (covers a.charged b.charged al.charged) (saving P own a) (saving Q own b) (saving_follows a b al) r h in
        (c.0, c.1, out_as (λ x y (s : K) (t : K). (y ≤ times * x) × (t ≡ s)) (λ x y (s : K) (t : K). (t ≡ s) × Fits s) pays_old first a.charged (saving P own a) c.0 r c.1 c.2 (λ prints weight s other t i z. (z.1, unbroken.saved a al.related.safe prints weight s i)));
    updates = λ a b al name. updates a b al name;
    queries = λ a b al name. queries a b al name;
    answers = λ a b al number c d there here is_open opened received allowed.
        let same : d ≡ c = let z : Some d ≡ Some c = sym here ∙ ap (λ (t : CallTable (List TypeId) Given). call_at t number) (tables a b al) ∙ there in cc in
        subst (λ (d : Call (List TypeId) Given). (r : Result (Effects (core_language W K))) → HasResult pays_new memory b.charged (answering Q own b number d received) r
        → (o : Result (Effects (core_language V K))) × HasResult pays_old first a.charged (answering P own a number c received) o
        × AlikeResults (AlikeEffects {S = core_language V K} {T = core_language W K} R Weighed (filled number (received_value P own a c received) a) (filled number (received_value Q own b d received) b) c.owner) o r
        × R (committed_state (broken number c.owner a)) (committed_state (broken number d.owner b))) (sym same)
        (λ r h. let z = answer a b al number c there is_open received allowed r h in (z.0, z.1, z.2, broken_related a b al number c there is_open));
  }
