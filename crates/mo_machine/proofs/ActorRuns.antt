-- The run of an actor that keeps the machine's states is a run of the meaning.
use Rattle.std.proofs.Common.{◌≡◌, ℕ, zero, suc, List, [], ◌∷◌, ◌++◌, length, Option, Some, None, Bool, true, false, refl, sym, ap, ap₂, ◌∙◌, subst, slice_get}
use Rattle.std.specs.Prelude.{cond, map, nat_eq, codes}
use Rattle.mo_types.specs.declared.node.TypeId.{TypeId}
use Rattle.mo_types.specs.Calls.{Call, Answered, is_open_state, set_state, call_at, open_count, next_number}
use Rattle.mo_types.specs.Heads.{map_option}
use Rattle.play_script.specs.declared.event.Event.{Event}
use Rattle.play_script.specs.declared.event.Event.TheVariants as event
use Rattle.play_script.specs.declared.item.Item.{Item}
use Rattle.play_script.specs.declared.item.Item.TheVariants as item
use Rattle.mo_actor.specs.CallAnswers.{Received, Reply, Reject, reply_value, received_value, reply_reading, received_reading, resumed, answering, open_course, answer_course, answer_outcome}
use Rattle.mo_actor.specs.Completions.{update_outcome, query_outcome}
use Rattle.mo_actor.specs.Courses.{Course}
use Rattle.mo_actor.specs.Executions.{trapping, and_reading}
use Rattle.mo_actor.specs.IncomingCalls.{arrived, entered_body, entered, query_course, update_course, call_course}
use Rattle.mo_actor.specs.Measures.{Measure}
use Rattle.mo_actor.specs.Outcomes.{Outcome, rejected}
use Rattle.mo_actor.specs.Programs as actor
use Rattle.mo_actor.specs.Programs.{Effects}
use Rattle.mo_actor.specs.Results.{Result, Completed, Trapped, Exhausted}
use Rattle.mo_actor.specs.States.{Activation, IsAnswered, Actor, ActorState, NoActor, Running, activation_at, waiting_on}
use Rattle.mo_actor.specs.Steps.{life_course, in_life, event_course, RunsFrom, ActorRun}
use Rattle.mo_actor.specs.Upgrades.{started, installed, install_course, upgraded, saved, upgrade_course}
use Rattle.mo_meaning.specs.Acts.{Given}
use Rattle.mo_meaning.specs.Coding.{Coding}
use Rattle.mo_meaning.specs.Kernel.{kernel, Entry, Kept}
use Rattle.mo_machine.specs.ActorLanguage.{machine, Fields, Waiting, Body, unload_fields, unload_waiting, unload_body, unload_effects, on_progress}
use Rattle.mo_machine.specs.States.{TypedActor, by_states, by_meaning, unload_activation, unload_actor, UnloadsTo, WithoutActor, WithActor}
use Rattle.mo_machine.proofs.ActorsAlike.{get_map, length_map, append_map, waiting_same, arrived_same, AlikeOutcomes, rejected_alike, update_alike, query_alike, answer_alike}
use Rattle.mo_machine.proofs.CoursesAlike.{on_result, progress_id, AlikeCourses, comes, alike_over}
use Rattle.mo_machine.proofs.States.{enters_alike, runs_alike, starts_alike, saves_alike}

abbrev AlikeActors : Actor machine → Actor kernel → Type 0
AlikeActors a b = b ≡ unload_actor a

module _ (coding : Coding) (own : List ℕ) (x : TypedActor) where
  abbrev old : actor.Program machine
  old = by_states coding x

  abbrev new : actor.Program kernel
  new = by_meaning coding x

  -- ---- calls

  body_alike : (a : Actor machine) (o : Option Body) (n : ℕ) → on_progress unload_effects (entered_body old own a o n) ≡ entered_body new own (unload_actor a) (map_option unload_body o) n
  body_alike a None zero = refl
  body_alike a None (suc n) = refl
  body_alike a (Some body) n = runs_alike coding x.first x.types x.program own a.table a.store body n

  entered_alike : (a : Actor machine) (entry : Entry) (caller argument : List ℕ) (n : ℕ)
      → on_progress unload_effects (entered old own a entry caller argument n) ≡ entered new own (unload_actor a) entry caller argument n
  entered_alike a entry caller argument n =
      ap (and_reading (new.argument_cost entry argument))
      (body_alike a (old.enter entry caller argument) n ∙ ap (λ o. entered_body new own (unload_actor a) o n) (enters_alike coding x.first x.types x.program entry caller argument))

  -- the incoming call's number and the actor in which it has arrived
  arrives : (a : Actor machine) (F : ℕ → Actor kernel → Outcome (Actor kernel)) (o : Outcome (Actor machine)) → AlikeOutcomes o (F (length a.activations) (unload_actor (arrived a)))
      → AlikeOutcomes o (F (length (map unload_activation a.activations)) (arrived (unload_actor a)))
  arrives a F o h =
      subst (λ n. AlikeOutcomes o (F n (arrived (unload_actor a)))) (sym (length_map unload_activation a.activations))
      (subst (λ b. AlikeOutcomes o (F (length a.activations) b)) (sym (arrived_same a)) h)

  query_course_alike : (a : Actor machine) (m : Option Entry) (caller argument : List ℕ) → AlikeCourses AlikeActors (query_course old own a m caller argument) (query_course new own (unload_actor a) m caller argument)
  query_course_alike a None caller argument =
      arrives a (λ n b. rejected n 5 (codes "no method") [] b) (rejected (length a.activations) 5 (codes "no method") [] (arrived a))
      (rejected_alike (length a.activations) 5 (codes "no method") [] [] (arrived a) refl)
  query_course_alike a (Some m) caller argument = (
    unload_effects,
    refl,
    refl,
    λ n. entered_alike a m caller argument n,
    λ r. arrives a (λ n b. query_outcome n b (on_result unload_effects r)) (query_outcome (length a.activations) (arrived a) r) (query_alike (length a.activations) (arrived a) r),
  )

  update_course_alike : (a : Actor machine) (m q : Option Entry) (caller argument : List ℕ) → AlikeCourses AlikeActors (update_course old own a m q caller argument) (update_course new own (unload_actor a) m q caller argument)
  update_course_alike a None q caller argument = query_course_alike a q caller argument
  update_course_alike a (Some m) q caller argument = (
    unload_effects,
    refl,
    refl,
    λ n. entered_alike a m caller argument n,
    λ r. arrives a (λ n b. update_outcome n b (on_result unload_effects r)) (update_outcome (length a.activations) (arrived a) r) (update_alike (length a.activations) (arrived a) r),
  )

  call_course_alike : (a : Actor machine) (query : Bool) (name caller argument : List ℕ) → AlikeCourses AlikeActors (call_course old own a query name caller argument) (call_course new own (unload_actor a) query name caller argument)
  call_course_alike a true name caller argument = query_course_alike a (old.query name) caller argument
  call_course_alike a false name caller argument = update_course_alike a (old.update name) (old.query name) caller argument

  -- ---- answers

  reply_value_same : (a : Actor machine) (c : Call (List TypeId) Given) (o : Option ℕ) (bytes : List ℕ) → reply_value new own (unload_actor a) c o bytes ≡ reply_value old own a c o bytes
  reply_value_same a c None bytes = refl
  reply_value_same a c (Some future) bytes = refl

  value_same : (a : Actor machine) (c : Call (List TypeId) Given) (received : Received) → received_value new own (unload_actor a) c received ≡ received_value old own a c received
  value_same a c (Reply bytes) = reply_value_same a c c.resumes bytes
  value_same a c (Reject code text) = refl

  reply_reading_same : (a : Actor machine) (c : Call (List TypeId) Given) (o : Option ℕ) (bytes : List ℕ) → reply_reading old own a c o bytes ≡ reply_reading new own (unload_actor a) c o bytes
  reply_reading_same a c None bytes = refl
  reply_reading_same a c (Some future) bytes = refl

  reading_same : (a : Actor machine) (c : Call (List TypeId) Given) (received : Received) → received_reading old own a c received ≡ received_reading new own (unload_actor a) c received
  reading_same a c (Reply bytes) = reply_reading_same a c c.resumes bytes
  reading_same a c (Reject code text) = refl

  resumed_alike : (a : Actor machine) (number : ℕ) (value : Option Given) (w : Option Waiting) (n : ℕ)
      → on_progress unload_effects (resumed old own a number value w n) ≡ resumed new own (unload_actor a) number value (map_option unload_waiting w) n
  resumed_alike a number None w zero = refl
  resumed_alike a number None w (suc n) = refl
  resumed_alike a number (Some value) None n = refl
  resumed_alike a number (Some value) (Some w) n =
      runs_alike coding x.first x.types x.program own (set_state a.table number (Answered (Some value))) a.store (old.resume w value) n

  answering_alike : (a : Actor machine) (number : ℕ) (c : Call (List TypeId) Given) (received : Received) (n : ℕ)
      → on_progress unload_effects (answering old own a number c received n) ≡ answering new own (unload_actor a) number c received n
  answering_alike a number c received n =
      let w = waiting_on number (activation_at a.activations c.owner) in
      ap₂ and_reading (reading_same a c received)
      (resumed_alike a number (received_value old own a c received) w n
      ∙ ap₂ (λ value o. resumed new own (unload_actor a) number value o n) (sym (value_same a c received)) (sym (waiting_same number c.owner a)))

  open_course_alike : (a : Actor machine) (is_open : Bool) (number : ℕ) (c : Call (List TypeId) Given) (received : Received)
      → AlikeCourses AlikeActors (open_course old own a is_open number c received) (open_course new own (unload_actor a) is_open number c received)
  open_course_alike a false number c received = (refl, refl)
  open_course_alike a true number c received = (
    unload_effects,
    refl,
    refl,
    λ n. answering_alike a number c received n,
    λ r. subst (λ value. AlikeOutcomes (answer_outcome number c.owner (received_value old own a c received) a r) (answer_outcome number c.owner value (unload_actor a) (on_result unload_effects r)))
        (sym (value_same a c received)) (answer_alike number c.owner (received_value old own a c received) a r),
  )

  answer_course_alike : (a : Actor machine) (number : ℕ) (received : Received) (o : Option (Call (List TypeId) Given))
      → AlikeCourses AlikeActors (answer_course old own a number received o) (answer_course new own (unload_actor a) number received o)
  answer_course_alike a number received None = (refl, refl)
  answer_course_alike a number received (Some c) = open_course_alike a (is_open_state c.state) number c received

  life_alike : (e : Event) (a : Actor machine) → AlikeCourses AlikeActors (life_course old own e a) (life_course new own e (unload_actor a))
  life_alike (event.Install number) a = tt
  life_alike (event.Call query name caller bytes) a = call_course_alike a query name caller bytes
  life_alike (event.Reply number bytes) a = answer_course_alike a number (Reply bytes) (call_at a.table number)
  life_alike (event.Reject number code text) a = answer_course_alike a number (Reject code text) (call_at a.table number)
  life_alike (event.Upgrade number) a = tt

-- ---- states of actors

module _ (coding : Coding) (own : List ℕ) where
  abbrev Alike : Course (ActorState machine) → Course (ActorState kernel) → Type 0
  Alike c d = AlikeCourses (UnloadsTo coding) c d

  runs_at : (x : TypedActor) (a : Actor machine) (b : Actor kernel) → b ≡ unload_actor a → UnloadsTo coding (Running (by_states coding x) a) (Running (by_meaning coding x) b)
  runs_at x a b e = subst (λ c. UnloadsTo coding (Running (by_states coding x) a) (Running (by_meaning coding x) c)) (sym e) (WithActor x a)

  in_life_alike : (x : TypedActor) (e : Event) (a : Actor machine) → Alike (in_life (by_states coding x) own e a) (in_life (by_meaning coding x) own e (unload_actor a))
  in_life_alike x e a =
      alike_over AlikeActors (UnloadsTo coding) (Running (by_states coding x)) (Running (by_meaning coding x)) (runs_at x)
      (life_course (by_states coding x) own e a) (life_course (by_meaning coding x) own e (unload_actor a)) (life_alike coding own x e a)

  -- ---- installations and upgrades

  installed_alike : (x : TypedActor) (made : ℕ) (xs : List (Activation machine)) (r : Result Fields)
      → ((installed (by_meaning coding x) made (map unload_activation xs) (on_result unload_fields r)).items ≡ (installed (by_states coding x) made xs r).items)
      × UnloadsTo coding (installed (by_states coding x) made xs r).next (installed (by_meaning coding x) made (map unload_activation xs) (on_result unload_fields r)).next
  installed_alike x made xs (Completed prints weight store) = (refl, WithActor x (started made xs store weight))
  installed_alike x made xs (Trapped prints text) = (refl, WithoutActor made xs)
  installed_alike x made xs (Exhausted prints cause) = (refl, WithoutActor made xs)

  install_alike : (made : ℕ) (xs : List (Activation machine)) (o : Option TypedActor)
      → Alike (install_course own made xs (map_option (by_states coding) o)) (install_course own made (map unload_activation xs) (map_option (by_meaning coding) o))
  install_alike made xs None = (refl, WithoutActor made xs)
  install_alike made xs (Some x) = (unload_fields, refl, refl, λ n. starts_alike coding x.first x.types x.program own None n, λ r. installed_alike x made xs r)

  saving_if : (x : TypedActor) (a : Actor machine) (none_open : Bool) (n : ℕ)
      → on_progress (λ k. k) (cond none_open ((by_states coding x).save own a.store) (trapping (codes "outstanding calls")) n)
      ≡ cond none_open ((by_meaning coding x).save own (unload_fields a.store)) (trapping (codes "outstanding calls")) n
  saving_if x a true n = progress_id ((by_states coding x).save own a.store n) ∙ saves_alike coding x.first x.types x.program own a.store n
  saving_if x a false zero = refl
  saving_if x a false (suc n) = refl

  upgraded_alike : (x y : TypedActor) (a : Actor machine) (before : List (List ℕ)) (r : Result Fields)
      → ((upgraded (by_meaning coding x) (unload_actor a) (by_meaning coding y) before (on_result unload_fields r)).items ≡ (upgraded (by_states coding x) a (by_states coding y) before r).items)
      × UnloadsTo coding (upgraded (by_states coding x) a (by_states coding y) before r).next (upgraded (by_meaning coding x) (unload_actor a) (by_meaning coding y) before (on_result unload_fields r)).next
  upgraded_alike x y a before (Completed prints weight store) = (refl, WithActor y (started (next_number a.table) a.activations store weight))
  upgraded_alike x y a before (Trapped prints text) = (refl, WithActor x a)
  upgraded_alike x y a before (Exhausted prints cause) = (refl, WithActor x a)

  saved_alike : (x y : TypedActor) (a : Actor machine) (r : Result Kept)
      → Alike (saved own (by_states coding x) a (by_states coding y) r) (saved own (by_meaning coding x) (unload_actor a) (by_meaning coding y) (on_result (λ k. k) r))
  saved_alike x y a (Completed prints weight kept) =
      (unload_fields, refl, refl, λ n. starts_alike coding y.first y.types y.program own (Some kept) n, λ r. upgraded_alike x y a prints r)
  saved_alike x y a (Trapped prints text) = (refl, WithActor x a)
  saved_alike x y a (Exhausted prints cause) = (refl, WithActor x a)

  upgrade_alike : (x : TypedActor) (a : Actor machine) (o : Option TypedActor)
      → Alike (upgrade_course own (by_states coding x) a (map_option (by_states coding) o)) (upgrade_course own (by_meaning coding x) (unload_actor a) (map_option (by_meaning coding) o))
  upgrade_alike x a None = (refl, WithActor x a)
  upgrade_alike x a (Some y) = (λ k. k, refl, refl, λ n. saving_if x a (nat_eq (open_count a.table) 0) n, λ r. saved_alike x y a r)

  -- ---- events and runs

  module _ (actors : List TypedActor) where
    abbrev olds : List (actor.Program machine)
    olds = map (by_states coding) actors

    abbrev news : List (actor.Program kernel)
    news = map (by_meaning coding) actors

    no_canister : (made : ℕ) (xs : List (Activation machine)) → UnloadsTo coding (NoActor made (xs ++ IsAnswered ∷ [])) (NoActor made (map unload_activation xs ++ IsAnswered ∷ []))
    no_canister made xs =
        subst (λ ys. UnloadsTo coding (NoActor made (xs ++ IsAnswered ∷ [])) (NoActor made ys)) (append_map unload_activation xs (IsAnswered ∷ [])) (WithoutActor made (xs ++ IsAnswered ∷ []))

    pub event_alike : (e : Event) (s : ActorState machine) (t : ActorState kernel) → UnloadsTo coding s t → Alike (event_course olds own e s) (event_course news own e t)
    event_alike (event.Install number) _ _ (WithoutActor made xs) =
        subst (λ o. Alike (install_course own made xs o) (install_course own made (map unload_activation xs) (slice_get news number))) (sym (get_map (by_states coding) actors number))
        (subst (λ o. Alike (install_course own made xs (map_option (by_states coding) (slice_get actors number))) (install_course own made (map unload_activation xs) o)) (sym (get_map (by_meaning coding) actors number))
        (install_alike made xs (slice_get actors number)))
    event_alike (event.Call query name caller bytes) _ _ (WithoutActor made xs) =
        (ap (λ n. item.Rejected n 3 (codes "no canister") ∷ []) (length_map unload_activation xs), no_canister made xs)
    event_alike (event.Reply number bytes) _ _ (WithoutActor made xs) = (refl, WithoutActor made xs)
    event_alike (event.Reject number code text) _ _ (WithoutActor made xs) = (refl, WithoutActor made xs)
    event_alike (event.Upgrade number) _ _ (WithoutActor made xs) = (refl, WithoutActor made xs)
    event_alike (event.Install number) _ _ (WithActor x a) = tt
    event_alike (event.Call query name caller bytes) _ _ (WithActor x a) = in_life_alike x (event.Call query name caller bytes) a
    event_alike (event.Reply number bytes) _ _ (WithActor x a) = in_life_alike x (event.Reply number bytes) a
    event_alike (event.Reject number code text) _ _ (WithActor x a) = in_life_alike x (event.Reject number code text) a
    event_alike (event.Upgrade number) _ _ (WithActor x a) =
        subst (λ o. Alike (upgrade_course own (by_states coding x) a o) (upgrade_course own (by_meaning coding x) (unload_actor a) (slice_get news number))) (sym (get_map (by_states coding) actors number))
        (subst (λ o. Alike (upgrade_course own (by_states coding x) a (map_option (by_states coding) (slice_get actors number))) (upgrade_course own (by_meaning coding x) (unload_actor a) o)) (sym (get_map (by_meaning coding) actors number))
        (upgrade_alike x a (slice_get actors number)))

    module _ (pays : Measure) where
      from_states : (events : List Event) (s : ActorState machine) (t : ActorState kernel) → UnloadsTo coding s t → (items : List Item) → RunsFrom pays olds own s events items → RunsFrom pays news own t events items
      from_states [] s t a items h = h
      from_states (e ∷ events) s t a items h =
          let r = comes (UnloadsTo coding) pays (event_course olds own e s) (event_course news own e t) (event_alike e s t a) h.0 h.1 in
          (r.0, r.1, h.2, h.3 ∙ ap (λ is. is ++ h.2) (sym r.2), from_states events (h.0).next (r.0).next r.3 h.2 h.4)

      pub run_alike : (events : List Event) (items : List Item) → ActorRun pays olds own events items → ActorRun pays news own events items
      run_alike events items h = from_states events (NoActor 0 []) (NoActor 0 []) (WithoutActor 0 []) items h
