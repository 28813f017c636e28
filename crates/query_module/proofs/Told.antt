-- A run of the program of constant queries, told by the methods alone.
use Rattle.std.proofs.Common.{◌≡◌, ℕ, zero, suc, ◌+◌, Bool, true, false, cond, List, [], ◌∷◌, ◌++◌, length, length-append, Option, Some, None, refl, sym, ap, ap₂, ◌∙◌, subst, inl, inr, slice_get, slice_set, arith, codes}
use Rattle.std.specs.List.{AllByRecursion}
use Rattle.std.specs.Str.{bytes_eq}
use Rattle.std.proofs.lemmas.Slice.Eq.{bytes_eq-Decides}
use Rattle.mo_types.specs.Calls.{call_from, call_at}
use Rattle.play_script.specs.Events.{IsNoInstall}
use Rattle.play_script.specs.declared.event.Event.{Event}
use Rattle.play_script.specs.declared.event.Event.TheVariants as event
use Rattle.play_script.specs.declared.item.Item.{Item}
use Rattle.play_script.specs.declared.item.Item.TheVariants as item
use Rattle.wasm_tree.specs.declared.module_parts.Module.{Module}
use Rattle.wasm_tree.specs.Exec.{ExecutionLimits}
use Rattle.canister_host.specs.State.{HostState, first_state}
use Rattle.canister_host.specs.HostRun.{install, step, items_from}
use Rattle.query_source.specs.declared.query.Method.{Method}
use Rattle.mo_actor.specs.Executions.{Completion, Completes, Traps, Settles}
use Rattle.mo_actor.specs.Programs.{Replies, Answers, Effects, Program, IsSettled}
use Rattle.mo_actor.specs.Measures.{Measure}
use Rattle.mo_actor.specs.Results.{Result, Completed, Trapped, Exhausted, HasResult}
use Rattle.mo_actor.specs.States.{Activation, IsAnswered, IsDead, Actor, ActorState, NoActor, Running, or_answered, activation_at, with_activation}
use Rattle.mo_actor.specs.Outcomes.{Outcome, outcome, close}
use Rattle.mo_actor.specs.Courses.{ComesTo}
use Rattle.mo_actor.specs.Completions.{committed, update_outcome, query_outcome}
use Rattle.mo_actor.specs.IncomingCalls.{arrived, entered, query_course, update_course}
use Rattle.mo_actor.specs.CallAnswers.{Received, Reply, Reject, answer_course}
use Rattle.mo_actor.specs.Upgrades.{started, installed, install_course}
use Rattle.mo_actor.specs.Steps.{life_course, in_life, LifeStep, RunsFrom}
use Rattle.mo_actor.proofs.Lists.{set_last}
use Rattle.mo_actor.proofs.CarriedLife.{from_states}
use Rattle.actor_refinement.specs.Laws.{no_exhaustion}
use Rattle.actor_refinement.proofs.Incoming.{get_last}
use Rattle.actor_refinement.proofs.Composition.{host_runs}
use Rattle.query_module.specs.Message.{empty_message, IsNatMessage}
use Rattle.query_module.specs.ActorRun.{IsMethodOf, IsResume, IsItemOf, number_after, AreAnswers, IsRunOf, IsGiven}
use Rattle.query_module.specs.Tree.{AreNumbers}
use Rattle.query_module.specs.Program.{Nothing, queries, query_program, reply_at, IsAsked, AnyMemory}
use Rattle.query_module.specs.Laws.{RunsAreAnswers, RefinedModulesAnswer, QueriesSettle}

same_name : (a b : List ℕ) → bytes_eq a b ≡ true → a ≡ b
same_name a b e = (bytes_eq-Decides a b).0 e

-- ---- replies and methods

-- A reply is that of a method.
record Known (methods : List Method) (name reply : List ℕ) : Type 0 where
  pub method : Method
  pub is : IsMethodOf methods name method
  pub message : IsNatMessage method.number reply

later_known : (m : Method) (methods : List Method) (name reply : List ℕ) → Known methods name reply → Known (m ∷ methods) name reply
later_known m methods name reply k = record { method = k.method; is = ((suc k.is.0.0, omega (arith, k.is.0.1), k.is.0.2), k.is.1); message = k.message }

known : (methods : List Method) (numbers : List (List ℕ)) (name reply : List ℕ) → AreNumbers methods numbers → reply_at methods numbers name ≡ Some reply → Known methods name reply
known [] numbers name reply all e = absurd (cc)
known (m ∷ methods) [] name reply all e = absurd (cc)
known (m ∷ methods) (r ∷ numbers) name reply all e = by (bytes_eq m.name name) refl (λ q. known methods numbers name reply all.1 q) e
  where
    by : (t : Bool) → bytes_eq m.name name ≡ t → (reply_at methods numbers name ≡ Some reply → Known methods name reply) → cond t (Some r) (reply_at methods numbers name) ≡ Some reply → Known (m ∷ methods) name reply
    by true t next e =
        let same : r ≡ reply = cc in
        record { method = m; is = ((0, omega arith, refl), same_name m.name name t); message = subst (IsNatMessage m.number) same all.0 }
    by false t next e = later_known m methods name reply (next e)

unknown : (methods : List Method) (numbers : List (List ℕ)) (name : List ℕ) → AreNumbers methods numbers → reply_at methods numbers name ≡ None → (x : Method) → IsMethodOf methods name x → ⊥
unknown [] [] name all e x is = absurd (omega (arith, is.0.1))
unknown [] (r ∷ numbers) name all e x is = absurd all
unknown (m ∷ methods) [] name all e x is = absurd all
unknown (m ∷ methods) (r ∷ numbers) name all e x is = by (bytes_eq m.name name) refl (λ q y h. unknown methods numbers name all.1 q y h) e is
  where
    by : (t : Bool) → bytes_eq m.name name ≡ t → (reply_at methods numbers name ≡ None → (y : Method) → IsMethodOf methods name y → ⊥) → cond t (Some r) (reply_at methods numbers name) ≡ None → IsMethodOf (m ∷ methods) name x → ⊥
    by true t next e is = absurd (cc)
    by false t next e ((zero, low, at), same) = let yes : bytes_eq m.name name ≡ true = (bytes_eq-Decides m.name name).1 (ap (λ y. y.name) at ∙ same) in absurd (cc)
    by false t next e ((suc k, low, at), same) = next e x ((k, omega arith, at), same)

module _ (methods : List Method) (numbers : List (List ℕ)) (all : AreNumbers methods numbers) (limits : ExecutionLimits) (own : List ℕ) where
  abbrev program : Program queries
  program = query_program methods numbers

  abbrev pays : Measure
  pays e = no_exhaustion limits e

  -- So many calls came, and none was made.
  pub record Quiet (a : Actor queries) (number : ℕ) : Type 0 where
    pub calls : a.table.calls ≡ []
    pub activations : length a.activations ≡ number

  -- An event gives one item, and it is the actor's.
  pub record Gave (number : ℕ) (e : Event) (o : Outcome (Actor queries)) : Type 0 where
    pub answer : Item
    pub items : o.items ≡ answer ∷ []
    pub is : IsItemOf methods number e answer
    pub quiet : Quiet o.next (number_after number e)

  abbrev effects_of : List ℕ → Effects queries
  effects_of reply = record { store = tt; calls = []; ending = Answers (Replies reply) }

  -- It is answered, so that nothing is rejected.
  replied_close : (activations : List (Activation queries)) (items : List Item) (b : Actor queries) → b.activations ≡ slice_set (activations ++ IsDead ∷ []) (length activations) IsAnswered
      → close (length activations) items b ≡ outcome items b
  replied_close activations items b e =
      let at : activation_at b.activations (length activations) ≡ IsAnswered = ap (λ xs. activation_at xs (length activations)) (e ∙ set_last activations IsDead IsAnswered) ∙ ap or_answered (get_last activations IsAnswered) in
      rw at refl

  entered_is : (a : Actor queries) (reply caller argument : List ℕ) → argument ≡ empty_message → (n : ℕ) → (entered program own a reply caller argument n).completion ≡ Some (Completes (effects_of reply))
  entered_is a reply caller argument e n = subst (λ arg. (entered program own a reply caller arg n).completion ≡ Some (Completes (effects_of reply))) (sym e) refl

  entered_quiet : (a : Actor queries) (reply caller argument : List ℕ) → argument ≡ empty_message → (n : ℕ) → (entered program own a reply caller argument n).prints ≡ []
  entered_quiet a reply caller argument e n = subst (λ arg. (entered program own a reply caller arg n).prints ≡ []) (sym e) refl

  pub record Replied (reply : List ℕ) (r : Result (Effects queries)) : Type 0 where
    pub weight : ℕ
    pub is : r ≡ Completed [] weight (effects_of reply)

  came : (a : Actor queries) (reply caller argument : List ℕ) → argument ≡ empty_message → (r : Result (Effects queries)) → HasResult pays 0 a.charged (entered program own a reply caller argument) r → Replied reply r
  came a reply caller argument e (Completed prints weight effects) has =
      let shown : prints ≡ [] = sym (ap (λ x. x.prints) has.2) ∙ entered_quiet a reply caller argument e has.0 in
      let ends : Some (Completes effects) ≡ Some (Completes (effects_of reply)) = sym (ap (λ x. x.completion) has.2) ∙ entered_is a reply caller argument e has.0 in
      let same : effects ≡ effects_of reply = cc in
      record { weight = weight; is = ap₂ (λ ps l. Completed ps weight l) shown same }
  came a reply caller argument e (Trapped prints text) has =
      let ends : Some (Traps text) ≡ Some (Completes (effects_of reply)) = sym has.2 ∙ entered_is a reply caller argument e has.0 in
      absurd (cc)
  came a reply caller argument e (Exhausted prints cause) has = absurd has.3

  one_more : (a : Actor queries) (number : ℕ) (x : Activation queries) → length a.activations ≡ number → length (slice_set (a.activations ++ IsDead ∷ []) (length a.activations) x) ≡ number + 1
  one_more a number x e = ap length (set_last a.activations IsDead x) ∙ length-append a.activations (x ∷ []) ∙ ap (λ n. n + 1) e

  -- ---- events

  query_gave : (query : Bool) (a : Actor queries) (number : ℕ) → Quiet a number → (name caller argument : List ℕ) → argument ≡ empty_message → (IsResume query name → ⊥) → (reply : Option (List ℕ)) → reply_at methods numbers name ≡ reply
      → (o : Outcome (Actor queries)) → ComesTo pays (query_course program own a reply caller argument) o → Gave number (event.Call query name caller argument) o
  query_gave query a number q name caller argument empty other None found o is = subst (Gave number (event.Call query name caller argument)) (sym is) (record {
    answer = item.Rejected (length a.activations) 5 (codes "no method");
    items = refl;
    is = inr (inr (unknown methods numbers name all found, other, ap (λ n. item.Rejected n 5 (codes "no method")) q.activations));
    quiet = record { calls = q.calls; activations = one_more a number IsAnswered q.activations };
  })
  query_gave query a number q name caller argument empty other (Some reply) found o is =
      let c = came a reply caller argument empty is.0 is.1 in
      let k = known methods numbers name reply all found in
      let b : Actor queries = with_activation (length a.activations) IsAnswered (arrived a) in
      let end : query_outcome (length a.activations) (arrived a) (Completed [] c.weight (effects_of reply)) ≡ outcome (item.Replied (length a.activations) reply ∷ []) b =
      replied_close a.activations (item.Replied (length a.activations) reply ∷ []) b refl in
      let whole : o ≡ outcome (item.Replied (length a.activations) reply ∷ []) b = is.2 ∙ ap (λ r. query_outcome (length a.activations) (arrived a) r) c.is ∙ end in
      subst (Gave number (event.Call query name caller argument)) (sym whole) (record {
        answer = item.Replied (length a.activations) reply;
        items = refl;
        is = inl (k.method, k.is, reply, k.message, ap (λ n. item.Replied n reply) q.activations);
        quiet = record { calls = q.calls; activations = one_more a number IsAnswered q.activations };
      })

  update_gave : (a : Actor queries) (number : ℕ) → Quiet a number → (name caller argument : List ℕ) → argument ≡ empty_message → (t : Bool) → bytes_eq (codes "__resume") name ≡ t
      → (o : Outcome (Actor queries)) → ComesTo pays (update_course program own a (cond t (Some empty_message) None) (reply_at methods numbers name) caller argument) o → Gave number (event.Call false name caller argument) o
  update_gave a number q name caller argument empty false e o is =
      query_gave false a number q name caller argument empty (λ r. let yes : bytes_eq (codes "__resume") name ≡ true = (bytes_eq-Decides (codes "__resume") name).1 (sym r.1) in absurd (cc)) (reply_at methods numbers name) refl o is
  update_gave a number q name caller argument empty true e o is =
      let c = came a empty_message caller argument empty is.0 is.1 in
      let b : Actor queries = committed (length a.activations) c.weight (effects_of empty_message) (arrived a) in
      let end : update_outcome (length a.activations) (arrived a) (Completed [] c.weight (effects_of empty_message)) ≡ outcome (item.Replied (length a.activations) empty_message ∷ []) b =
      replied_close a.activations (item.Replied (length a.activations) empty_message ∷ []) b refl in
      let whole : o ≡ outcome (item.Replied (length a.activations) empty_message ∷ []) b = is.2 ∙ ap (λ r. update_outcome (length a.activations) (arrived a) r) c.is ∙ end in
      subst (Gave number (event.Call false name caller argument)) (sym whole) (record {
        answer = item.Replied (length a.activations) empty_message;
        items = refl;
        is = inr (inl ((refl, sym (same_name (codes "__resume") name e)), ap (λ n. item.Replied n empty_message) q.activations));
        quiet = record { calls = ap (λ cs. cs ++ []) q.calls; activations = one_more a number IsAnswered q.activations };
      })

  answer_gave : (a : Actor queries) (number : ℕ) → Quiet a number → (e : Event) (call : ℕ) (received : Received) → IsItemOf methods number e item.Ignored → number_after number e ≡ number
      → (o : Outcome (Actor queries)) → ComesTo pays (answer_course program own a call received (call_at a.table call)) o → Gave number e o
  answer_gave a number q e call received ignored same o is =
      let now : o ≡ outcome (item.Ignored ∷ []) a = subst (λ cs. ComesTo pays (answer_course program own a call received (call_from a.table.first cs call)) o) q.calls is in
      subst (Gave number e) (sym now) (record { answer = item.Ignored; items = refl; is = ignored; quiet = record { calls = q.calls; activations = q.activations ∙ sym same } })

  gave : (e : Event) → IsGiven e → (a : Actor queries) (number : ℕ) → Quiet a number → (o : Outcome (Actor queries)) → LifeStep pays program own e a o → Gave number e o
  gave (event.Install place) given a number q o is = absurd given
  gave (event.Call true name caller bytes) given a number q o is = query_gave true a number q name caller bytes given (λ r. absurd (cc r.0)) (reply_at methods numbers name) refl o is
  gave (event.Call false name caller bytes) given a number q o is = update_gave a number q name caller bytes given (bytes_eq (codes "__resume") name) refl o is
  gave (event.Reply call bytes) given a number q o is = answer_gave a number q (event.Reply call bytes) call (Reply bytes) refl refl o is
  gave (event.Reject call code text) given a number q o is = answer_gave a number q (event.Reject call code text) call (Reject code text) refl refl o is
  gave (event.Upgrade place) given a number q o is = absurd given

  -- ---- runs

  module _ (programs : List (Program queries)) where
    abbrev FromHere : ActorState queries → List Event → List Item → Type 0
    FromHere state events items = RunsFrom pays programs own state events items

    one : (e : Event) (events : List Event) (a : Actor queries) (number : ℕ) (items : List Item) → IsGiven e → Quiet a number
        → ((b : Actor queries) (rest : List Item) → Quiet b (number_after number e) → FromHere (Running program b) events rest → AreAnswers methods (number_after number e) events rest)
        → (o : Outcome (ActorState queries)) → ComesTo pays (in_life program own e a) o → (rest : List Item) → items ≡ o.items ++ rest → FromHere o.next events rest → AreAnswers methods number (e ∷ events) items
    one e events a number items given q next o is rest shown runs =
        let i = from_states pays (Running program) (life_course program own e a) o is in
        let g = gave e given a number q i.0 i.1 in
        let next_is : o.next ≡ Running program i.0.next = ap (λ x. x.next) i.2 in
        let items_are : o.items ≡ g.answer ∷ [] = ap (λ x. x.items) i.2 ∙ g.items in
        (g.answer, rest, shown ∙ ap (λ i. i ++ rest) items_are, g.is, next i.0.next rest g.quiet (subst (λ w. FromHere w events rest) next_is runs))

    answers : (events : List Event) → AllByRecursion IsGiven events → (a : Actor queries) (number : ℕ) → Quiet a number → (items : List Item) → FromHere (Running program a) events items → AreAnswers methods number events items
    answers [] given a number q items runs = runs
    answers (event.Install place ∷ events) given a number q items runs = absurd given.0
    answers (event.Call query name caller bytes ∷ events) given a number q items runs =
        one (event.Call query name caller bytes) events a number items given.0 q (λ b rest quiet more. answers events given.1 b (number + 1) quiet rest more) runs.0 runs.1 runs.2 runs.3 runs.4
    answers (event.Reply call bytes ∷ events) given a number q items runs =
        one (event.Reply call bytes) events a number items given.0 q (λ b rest quiet more. answers events given.1 b number quiet rest more) runs.0 runs.1 runs.2 runs.3 runs.4
    answers (event.Reject call code text ∷ events) given a number q items runs =
        one (event.Reject call code text) events a number items given.0 q (λ b rest quiet more. answers events given.1 b number quiet rest more) runs.0 runs.1 runs.2 runs.3 runs.4
    answers (event.Upgrade place ∷ events) given a number q items runs = absurd given.0

    begins : (r : Result Nothing) → HasResult pays 0 0 (program.start own None) r → (weight : ℕ) × (r ≡ Completed [] weight tt)
    begins (Completed prints weight store) has = (weight, ap (λ ps. Completed ps weight store) (sym (ap (λ x. x.prints) has.2)))
    begins (Trapped prints text) has = let ends : Some (Completes tt) ≡ Some (Traps text) = has.2 in absurd (cc)
    begins (Exhausted prints cause) has = absurd has.3

    runs_answer : (number : ℕ) → slice_get programs number ≡ Some program → (events : List Event) → AllByRecursion IsGiven events → (items : List Item) → FromHere (NoActor 0 []) (event.Install number ∷ events) items → IsRunOf methods events items
    runs_answer number there events given items runs =
        let course : ComesTo pays (install_course own 0 [] (Some program)) runs.0 = subst (λ p. ComesTo pays (install_course own 0 [] p) runs.0) there runs.1 in
        let x = begins course.0 course.1 in
        let o : Outcome (ActorState queries) = outcome (item.Installed ∷ []) (Running program (started 0 [] tt x.0)) in
        let is : runs.0 ≡ o = course.2 ∙ ap (λ r. installed program 0 [] r) x.1 in
        let more : FromHere (Running program (started 0 [] tt x.0)) events runs.2 = subst (λ w. FromHere w events runs.2) (ap (λ y. y.next) is) runs.4 in
        (runs.2, runs.3 ∙ ap (λ y. y.items ++ runs.2) is, answers events given (started 0 [] tt x.0) 0 (record { calls = refl; activations = refl }) runs.2 more)

pub runs_are_answers : RunsAreAnswers
runs_are_answers programs number p there methods is limits own events given items runs =
    runs_answer methods is.numbers is.are_numbers limits own programs number (there ∙ ap Some is.program_is) events given items runs

-- ---- the host's runs

asked_one : (e : Event) → IsGiven e → IsAsked e
asked_one (event.Install place) given = tt
asked_one (event.Call query name caller bytes) given = given
asked_one (event.Reply call bytes) given = tt
asked_one (event.Reject call code text) given = tt
asked_one (event.Upgrade place) given = tt

pub asked_all : (events : List Event) → AllByRecursion IsGiven events → AllByRecursion IsAsked events
asked_all [] given = tt
asked_all (e ∷ events) given = (asked_one e given.0, asked_all events given.1)

later_one : (e : Event) → IsGiven e → IsNoInstall e
later_one (event.Install place) given = given
later_one (event.Call query name caller bytes) given = tt
later_one (event.Reply call bytes) given = tt
later_one (event.Reject call code text) given = tt
later_one (event.Upgrade place) given = absurd given

later_all : (events : List Event) → AllByRecursion IsGiven events → AllByRecursion IsNoInstall events
later_all [] given = tt
later_all (e ∷ events) given = (later_one e given.0, later_all events given.1)

-- These events name no module.
same_step : (modules others : List Module) (limits : ExecutionLimits) (own : List ℕ) (e : Event) (s : HostState) → IsGiven e → step modules limits own e s ≡ step others limits own e s
same_step modules others limits own (event.Install place) s given = absurd given
same_step modules others limits own (event.Call query name caller bytes) s given = refl
same_step modules others limits own (event.Reply call bytes) s given = refl
same_step modules others limits own (event.Reject call code text) s given = refl
same_step modules others limits own (event.Upgrade place) s given = absurd given

same_items : (modules others : List Module) (limits : ExecutionLimits) (own : List ℕ) (events : List Event) (s : HostState) → AllByRecursion IsGiven events → items_from modules limits own events s ≡ items_from others limits own events s
same_items modules others limits own [] s given = refl
same_items modules others limits own (e ∷ events) s given =
    ap (λ o. o.items ++ items_from modules limits own events o.next) (same_step modules others limits own e s given.0)
    ∙ ap (λ is. (step others limits own e s).items ++ is) (same_items modules others limits own events (step others limits own e s).next given.1)

pub refined_modules_answer : RefinedModulesAnswer
refined_modules_answer methods p is tree refines modules number there limits within own self events given =
    let run = host_runs {L = queries} AnyMemory IsAsked no_exhaustion limits within own self (p ∷ []) (tree ∷ []) (refines, tt) (event.Install 0 ∷ events) (tt, asked_all events given) (later_all events given) in
    let same = ap (λ m. (install limits own m first_state).items ++ items_from modules limits own events (install limits own m first_state).next) there
    ∙ ap (λ is. (install limits own (Some tree) first_state).items ++ is) (same_items modules (tree ∷ []) limits own events (install limits own (Some tree) first_state).next given) in
    subst (IsRunOf methods events) (sym same) (runs_are_answers (p ∷ []) 0 p refl methods is limits own events given _ run)

-- ---- executions that have ended

stays : {A : Type 0} (end : Completion A) → Settles (λ turns. record { prints = []; weight = 0; depth = 0; completion = Some end })
stays end n other e = refl

pub queries_settle : QueriesSettle
queries_settle methods p is = subst (λ p. IsSettled p) (sym is.program_is) (record {
  run = λ own table store reply. stays (Completes (record { store = tt; calls = []; ending = Answers (Replies reply) }));
  start = λ own kept. stays (Completes tt);
  save = λ own store. stays (Completes tt);
})
