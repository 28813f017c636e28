-- A pass by which each execution of the new program is one of the old one is one the other way round, where executions of the old program have one end, and those
-- of the new one end where they do.
use Rattle.std.proofs.Common.{◌≡◌, ℕ, List, [], ◌∷◌, length, Option, Some, None, Bool, true, false, refl, sym, ap, ◌∙◌, subst, cond, codes, nat_eq}
use Rattle.play_script.specs.declared.event.Event.{Event}
use Rattle.play_script.specs.declared.event.Event.TheVariants as event
use Rattle.mo_types.specs.Calls.{Answered, Call, call_at, is_open_state, open_count, set_state}
use Rattle.mo_actor.specs.CallAnswers.{Received, received_value, received_reading, filled, resumed, answering}
use Rattle.mo_actor.specs.Completions.{committed}
use Rattle.mo_actor.specs.IncomingCalls.{arrived, entered_body, entered}
use Rattle.mo_actor.specs.Executions.{Completion, Completes, Traps, Execution, Settles, ReadingCost, and_reading, after_reading, trapping}
use Rattle.mo_actor.specs.Languages.{Language}
use Rattle.mo_actor.specs.Measures.{Never}
use Rattle.mo_actor.specs.Passes.{CallShape, CommittedState, committed_state, fresh_state, answer_event, call_shapes, AlikeResults, AlikeMethods, AlikeActivations, AlikeCalls, AlikeEndings, AlikeActors, AlikeEffects, Keeps}
use Rattle.mo_actor.specs.Programs.{OutgoingCall, Ending, Answers, Awaits, AwaitsNothing, Unchanged, Effects, Program, IsSettled}
use Rattle.mo_actor.specs.Results.{Result, Completed, Trapped, Exhausted, HasResult}
use Rattle.mo_actor.specs.States.{Activation, Actor, activation_at, waiting_on}
use Rattle.mo_actor.specs.Upgrades.{saving}
use Rattle.mo_actor.proofs.Books.{shape_of, shape_from, at_by, alike_length}
use Rattle.mo_actor.proofs.Settled.{one_result}
use Rattle.mo_actor.proofs.Trapping as by_trap
use Rattle.elaboration_actors.specs.Ends.{HasEnd}

-- ---- results and methods

turn_results : {A B : Type 0} (Both : ℕ → ℕ → A → B → Type 0) (Other : ℕ → ℕ → B → A → Type 0) (o : Result A) (r : Result B) → ((x y : ℕ) (a : A) (b : B) → Both x y a b → Other y x b a) → AlikeResults Both o r → AlikeResults Other r o
turn_results Both Other (Completed prints weight a) (Completed shown other b) f h = (sym h.0, f weight other a b h.1)
turn_results Both Other (Trapped prints text) (Trapped shown said) f h = (sym h.0, sym h.1)
turn_results Both Other (Exhausted prints cause) (Exhausted shown word) f h = (sym h.0, sym h.1)
turn_results Both Other (Completed prints weight a) (Trapped shown said) f h = absurd h
turn_results Both Other (Completed prints weight a) (Exhausted shown word) f h = absurd h
turn_results Both Other (Trapped prints text) (Completed shown other b) f h = absurd h
turn_results Both Other (Trapped prints text) (Exhausted shown word) f h = absurd h
turn_results Both Other (Exhausted prints cause) (Completed shown other b) f h = absurd h
turn_results Both Other (Exhausted prints cause) (Trapped shown said) f h = absurd h

turn_methods : {A B : Type 0} (Does Ends : A → B → Type 0) (Other : B → A → Type 0) (m : Option A) (n : Option B) → ((a : A) (b : B) → Does a b → Ends a b → Other b a) → AlikeMethods Does m n → AlikeMethods Ends m n → AlikeMethods Other n m
turn_methods Does Ends Other None None f h i = tt
turn_methods Does Ends Other (Some a) (Some b) f h i = f a b h i
turn_methods Does Ends Other None (Some b) f h i = absurd h
turn_methods Does Ends Other (Some a) None f h i = absurd h

-- the result of the new execution, which is that of the old one
turned : {A B : Type 0} (Both : ℕ → ℕ → A → B → Type 0) (Other : ℕ → ℕ → B → A → Type 0) → ((x y : ℕ) (a : A) (b : B) → Both x y a b → Other y x b a)
    → (first charged other more : ℕ) (x : Execution A) → Settles x → (y : Execution B) (o : Result A) → HasResult Never first charged x o → (r : Result B) → HasResult Never other more y r
    → (o' : Result A) × HasResult Never first charged x o' × AlikeResults Both o' r → (r' : Result B) × HasResult Never other more y r' × AlikeResults Other r' o
turned Both Other f first charged other more x settles y o h r k z = (r, k, turn_results Both Other o r f (subst (λ s. AlikeResults Both s r) (one_result x settles first charged z.0 o z.1 h) z.2))

reading_settles : {A : Type 0} (cost : ReadingCost) (x : Execution A) → Settles x → Settles (after_reading cost x)
reading_settles cost x settles n end e = ap (λ p. and_reading cost p) (settles n end e)

-- ---- actors

module _ {S T : Language} where
  turn_activations : (xs : List (Activation S)) (ys : List (Activation T)) → AlikeActivations ys xs → AlikeActivations xs ys
  turn_activations [] [] h = tt
  turn_activations (x ∷ xs) (y ∷ ys) h = (sym h.0, turn_activations xs ys h.1)
  turn_activations [] (y ∷ ys) h = absurd h
  turn_activations (x ∷ xs) [] h = absurd h

  turn_calls : (cs : List (OutgoingCall S)) (ds : List (OutgoingCall T)) → AlikeCalls cs ds → AlikeCalls ds cs
  turn_calls [] [] h = tt
  turn_calls (c ∷ cs) (d ∷ ds) h = (sym h.0, sym h.1, sym h.2, turn_calls cs ds h.3)
  turn_calls [] (d ∷ ds) h = absurd h
  turn_calls (c ∷ cs) [] h = absurd h

  turn_endings : (x : Ending S) (y : Ending T) → AlikeEndings x y → AlikeEndings y x
  turn_endings (Answers a) (Answers b) h = sym h
  turn_endings (Awaits m v) (Awaits n w) h = tt
  turn_endings AwaitsNothing AwaitsNothing h = tt
  turn_endings Unchanged Unchanged h = tt
  turn_endings (Answers a) (Awaits n w) h = absurd h
  turn_endings (Answers a) AwaitsNothing h = absurd h
  turn_endings (Answers a) Unchanged h = absurd h
  turn_endings (Awaits m v) (Answers b) h = absurd h
  turn_endings (Awaits m v) AwaitsNothing h = absurd h
  turn_endings (Awaits m v) Unchanged h = absurd h
  turn_endings AwaitsNothing (Answers b) h = absurd h
  turn_endings AwaitsNothing (Awaits n w) h = absurd h
  turn_endings AwaitsNothing Unchanged h = absurd h
  turn_endings Unchanged (Answers b) h = absurd h
  turn_endings Unchanged (Awaits n w) h = absurd h
  turn_endings Unchanged AwaitsNothing h = absurd h

module _ {S T : Language} (Related : CommittedState S → CommittedState T → Type 0) (AlikeKept : S.kept → T.kept → Type 0) (Weighs : ℕ → ℕ → Type 0) (Given : Event → Type 0) (own : List ℕ) (p : Program S) (q : Program T) where
  abbrev Both : Actor S → Actor T → Type 0
  Both a b = AlikeActors Related Weighs a b

  -- executions of the new program end where those of the old one do
  pub record AllEnd : Type 0 where
    pub installs : (o : Result S.store) → HasResult Never p.first_memory 0 (p.start own None) o → (r : Result T.store) × HasResult Never q.first_memory 0 (q.start own None) r
    pub starts : (kept : S.kept) (there : T.kept) → AlikeKept kept there → (o : Result S.store) → HasResult Never p.first_memory 0 (p.start own (Some kept)) o → (r : Result T.store) × HasResult Never q.first_memory 0 (q.start own (Some there)) r
    pub saves : (number : ℕ) → Given (event.Upgrade number) → (a : Actor S) (b : Actor T) → Both a b → (o : Result S.kept) → HasResult Never p.first_memory a.charged (saving p own a) o → (r : Result T.kept) × HasResult Never q.first_memory b.charged (saving q own b) r
    pub updates : (a : Actor S) (b : Actor T) → Both a b → (name : List ℕ)
        → AlikeMethods (λ m n. (caller argument : List ℕ) → Given (event.Call false name caller argument) → (o : Result (Effects S)) → HasResult Never p.first_memory a.charged (entered p own a m caller argument) o
        → (r : Result (Effects T)) × HasResult Never q.first_memory b.charged (entered q own b n caller argument) r) (p.update name) (q.update name)
    pub queries : (a : Actor S) (b : Actor T) → Both a b → (name : List ℕ)
        → AlikeMethods (λ m n. (query : Bool) (caller argument : List ℕ) → Given (event.Call query name caller argument) → (o : Result (Effects S)) → HasResult Never p.first_memory a.charged (entered p own a m caller argument) o
        → (r : Result (Effects T)) × HasResult Never q.first_memory b.charged (entered q own b n caller argument) r) (p.query name) (q.query name)
    pub answers : (a : Actor S) (b : Actor T) → Both a b → (number : ℕ) (c : Call S.results S.value) (d : Call T.results T.value) → call_at a.table number ≡ Some c → call_at b.table number ≡ Some d → is_open_state c.state ≡ true → is_open_state d.state ≡ true
        → (received : Received) → Given (answer_event number received) → (o : Result (Effects S)) → HasResult Never p.first_memory a.charged (answering p own a number c received) o
        → (r : Result (Effects T)) × HasResult Never q.first_memory b.charged (answering q own b number d received) r

  -- ---- the other way round

  abbrev Back : CommittedState T → CommittedState S → Type 0
  Back t s = Related s t

  abbrev BackKept : T.kept → S.kept → Type 0
  BackKept l k = AlikeKept k l

  abbrev BackWeighs : ℕ → ℕ → Type 0
  BackWeighs y x = Weighs x y

  abbrev BackBoth : Actor T → Actor S → Type 0
  BackBoth b a = AlikeActors Back BackWeighs b a

  turn_actors : (a : Actor S) (b : Actor T) → BackBoth b a → Both a b
  turn_actors a b h = record { first = sym h.first; calls = sym h.calls; activations = turn_activations a.activations b.activations h.activations; charged = h.charged; related = h.related }

  turn_effects : (a : Actor S) (b : Actor T) (owner other x y : ℕ) (e : Effects S) (d : Effects T) → owner ≡ other → AlikeEffects Related Weighs a b owner x y e d → AlikeEffects Back BackWeighs b a other y x d e
  turn_effects a b owner other x y e d same h = record {
    weighs = h.weighs;
    calls = turn_calls e.calls d.calls h.calls;
    ending = turn_endings e.ending d.ending h.ending;
    related = subst (λ n. Related (committed_state (committed n x e a)) (committed_state (committed n y d b))) same h.related;
  }

  -- the owner of a call of both
  owner_of : Option CallShape → ℕ
  owner_of None = 0
  owner_of (Some h) = h.owner

  same_owner : (a : Actor S) (b : Actor T) → Both a b → (number : ℕ) (c : Call S.results S.value) (d : Call T.results T.value) → call_at a.table number ≡ Some c → call_at b.table number ≡ Some d → c.owner ≡ d.owner
  unfolding owner_of
  same_owner a b al number c d f g =
      ap owner_of
      (ap shape_of (sym f) ∙ at_by a.table.first number a.table.calls ∙ ap (λ n. shape_from n (call_shapes a.table.calls) number) al.first ∙ ap (λ hs. shape_from b.table.first hs number) al.calls ∙ sym (at_by b.table.first number b.table.calls) ∙ ap shape_of g)

  module _ (keeps : Keeps Related AlikeKept Weighs Given Never Never own p q) (settled : IsSettled p) (ends : AllEnd) where
    entered_settles : (a : Actor S) (method : S.method) (caller argument : List ℕ) → Settles (entered p own a method caller argument)
    entered_settles a method caller argument = reading_settles (p.argument_cost method argument) (entered_body p own a (p.enter method caller argument)) (by (p.enter method caller argument))
      where
        by : (body : Option S.body) → Settles (entered_body p own a body)
        by None = by_trap.settles (codes "bad argument")
        by (Some body) = settled.run own a.table a.store body

    answering_settles : (a : Actor S) (number : ℕ) (c : Call S.results S.value) (received : Received) → Settles (answering p own a number c received)
    answering_settles a number c received =
        reading_settles (received_reading p own a c received) (resumed p own a number (received_value p own a c received) (waiting_on number (activation_at a.activations c.owner)))
        (by (received_value p own a c received) (waiting_on number (activation_at a.activations c.owner)))
      where
        by : (value : Option S.value) (waiting : Option S.waiting) → Settles (resumed p own a number value waiting)
        by None waiting = by_trap.settles (codes "bad reply")
        by (Some value) None = λ n end e. refl
        by (Some value) (Some waiting) = settled.run own (set_state a.table number (Answered (Some value))) a.store (p.resume waiting value)

    saving_settles : (a : Actor S) → Settles (saving p own a)
    saving_settles a = by (nat_eq (open_count a.table) 0)
      where
        by : (b : Bool) → Settles (cond b (p.save own a.store) (trapping (codes "outstanding calls")))
        by true = settled.save own a.store
        by false = by_trap.settles (codes "outstanding calls")

    pub keeps_back : Keeps Back BackKept BackWeighs Given Never Never own q p
    keeps_back = record {
      adds = λ x y z w h i. keeps.adds y x w z h i;
      installs = λ o h.
          let e = ends.installs o h in
          turned (λ x y s t. Weighs x y × ((made : ℕ) → Related (fresh_state s made) (fresh_state t made))) (λ y x t s. Weighs x y × ((made : ℕ) → Related (fresh_state s made) (fresh_state t made))) (λ x y s t g. g)
          p.first_memory 0 q.first_memory 0 (p.start own None) (settled.start own None) (q.start own None) o h e.0 e.1 (keeps.installs e.0 e.1);
      starts = λ there kept alike o h.
          let e = ends.starts kept there alike o h in
          turned (λ x y s t. Weighs x y × ((made : ℕ) → Related (fresh_state s made) (fresh_state t made))) (λ y x t s. Weighs x y × ((made : ℕ) → Related (fresh_state s made) (fresh_state t made))) (λ x y s t g. g)
          p.first_memory 0 q.first_memory 0 (p.start own (Some kept)) (settled.start own (Some kept)) (q.start own (Some there)) o h e.0 e.1 (keeps.starts kept there alike e.0 e.1);
      saves = λ number given b a al o h.
          let both = turn_actors a b al in
          let e = ends.saves number given a b both o h in
          turned (λ x y s t. AlikeKept s t) (λ y x t s. AlikeKept s t) (λ x y s t g. g)
          p.first_memory a.charged q.first_memory b.charged (saving p own a) (saving_settles a) (saving q own b) o h e.0 e.1 (keeps.saves number given a b both e.0 e.1);
      updates = λ b a al name.
          let both = turn_actors a b al in
          turn_methods
          (λ m n. (caller argument : List ℕ) → Given (event.Call false name caller argument) → (r : Result (Effects T)) → HasResult Never q.first_memory b.charged (entered q own b n caller argument) r
          → (o : Result (Effects S)) × HasResult Never p.first_memory a.charged (entered p own a m caller argument) o × AlikeResults (AlikeEffects Related Weighs (arrived a) (arrived b) (length a.activations)) o r)
          (λ m n. (caller argument : List ℕ) → Given (event.Call false name caller argument) → (o : Result (Effects S)) → HasResult Never p.first_memory a.charged (entered p own a m caller argument) o
          → (r : Result (Effects T)) × HasResult Never q.first_memory b.charged (entered q own b n caller argument) r)
          (λ n m. (caller argument : List ℕ) → Given (event.Call false name caller argument) → (o : Result (Effects S)) → HasResult Never p.first_memory a.charged (entered p own a m caller argument) o
          → (r : Result (Effects T)) × HasResult Never q.first_memory b.charged (entered q own b n caller argument) r × AlikeResults (AlikeEffects Back BackWeighs (arrived b) (arrived a) (length b.activations)) r o)
          (p.update name) (q.update name)
          (λ m n does end caller argument given o h.
          let e = end caller argument given o h in
          turned (AlikeEffects Related Weighs (arrived a) (arrived b) (length a.activations)) (AlikeEffects Back BackWeighs (arrived b) (arrived a) (length b.activations))
          (λ x y s t g. turn_effects (arrived a) (arrived b) (length a.activations) (length b.activations) x y s t (alike_length a.activations b.activations both.activations) g)
          p.first_memory a.charged q.first_memory b.charged (entered p own a m caller argument) (entered_settles a m caller argument) (entered q own b n caller argument) o h e.0 e.1 (does caller argument given e.0 e.1))
          (keeps.updates a b both name) (ends.updates a b both name);
      queries = λ b a al name.
          let both = turn_actors a b al in
          turn_methods
          (λ m n. (query : Bool) (caller argument : List ℕ) → Given (event.Call query name caller argument) → (r : Result (Effects T)) → HasResult Never q.first_memory b.charged (entered q own b n caller argument) r
          → (o : Result (Effects S)) × HasResult Never p.first_memory a.charged (entered p own a m caller argument) o × AlikeResults (λ x y s t. AlikeEndings s.ending t.ending) o r)
          (λ m n. (query : Bool) (caller argument : List ℕ) → Given (event.Call query name caller argument) → (o : Result (Effects S)) → HasResult Never p.first_memory a.charged (entered p own a m caller argument) o
          → (r : Result (Effects T)) × HasResult Never q.first_memory b.charged (entered q own b n caller argument) r)
          (λ n m. (query : Bool) (caller argument : List ℕ) → Given (event.Call query name caller argument) → (o : Result (Effects S)) → HasResult Never p.first_memory a.charged (entered p own a m caller argument) o
          → (r : Result (Effects T)) × HasResult Never q.first_memory b.charged (entered q own b n caller argument) r × AlikeResults (λ x y t s. AlikeEndings t.ending s.ending) r o)
          (p.query name) (q.query name)
          (λ m n does end query caller argument given o h.
          let e = end query caller argument given o h in
          turned (λ x y s t. AlikeEndings s.ending t.ending) (λ y x t s. AlikeEndings t.ending s.ending) (λ x y s t g. turn_endings s.ending t.ending g)
          p.first_memory a.charged q.first_memory b.charged (entered p own a m caller argument) (entered_settles a m caller argument) (entered q own b n caller argument) o h e.0 e.1 (does query caller argument given e.0 e.1))
          (keeps.queries a b both name) (ends.queries a b both name);
      answers = λ b a al number d c there here opened pending received given o h.
          let both = turn_actors a b al in
          let e = ends.answers a b both number c d here there pending opened received given o h in
          let k = keeps.answers a b both number c d here there pending opened received given e.0 e.1 in
          let same = same_owner a b both number c d here there in
          let z = turned (AlikeEffects Related Weighs (filled number (received_value p own a c received) a) (filled number (received_value q own b d received) b) c.owner)
          (AlikeEffects Back BackWeighs (filled number (received_value q own b d received) b) (filled number (received_value p own a c received) a) d.owner)
          (λ x y s t g. turn_effects (filled number (received_value p own a c received) a) (filled number (received_value q own b d received) b) c.owner d.owner x y s t same g)
          p.first_memory a.charged q.first_memory b.charged (answering p own a number c received) (answering_settles a number c received) (answering q own b number d received) o h e.0 e.1 (k.0, k.1, k.2) in
          (z.0, z.1, z.2, k.3);
    }

-- ---- ends and results

pub result_of : {B : Type 0} (memory charged : ℕ) (y : Execution B) → HasEnd y → (r : Result B) × HasResult Never memory charged y r
result_of {B} memory charged y (n, end, e) = by end e
  where
    by : (c : Completion B) → (y n).completion ≡ Some c → (r : Result B) × HasResult Never memory charged y r
    by (Completes b) e = (Completed (y n).prints (y n).weight b, (n, (y n).depth, ap (λ c. record { prints = (y n).prints; weight = (y n).weight; depth = (y n).depth; completion = c }) e))
    by (Traps text) e = (Trapped (y n).prints text, (n, refl, e))

pub end_of : {A : Type 0} (first charged : ℕ) (x : Execution A) (o : Result A) → HasResult Never first charged x o → HasEnd x
end_of first charged x (Completed prints weight a) h = (h.0, Completes a, ap (λ p. p.completion) h.2)
end_of first charged x (Trapped prints text) h = (h.0, Traps text, h.2)
end_of first charged x (Exhausted prints cause) h = absurd h.3
