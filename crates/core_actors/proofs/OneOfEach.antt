-- What holds of each of several programs holds of upgrades from one to another.
use Rattle.std.proofs.Common.{◌≡◌, ℕ, ◌+◌, refl, sym, subst, List, [], ◌∷◌, length, map, Option, Some, None, Bool, true, false}
use Rattle.std.specs.List.{AllByRecursion}
use Rattle.play_script.specs.declared.event.Event.{Event}
use Rattle.play_script.specs.declared.event.Event.TheVariants as event
use Rattle.play_script.specs.declared.item.Item.{Item}
use Rattle.mo_types.specs.Calls.{Call, is_open_state, call_at}
use Rattle.mo_actor.specs.Languages.{Language}
use Rattle.mo_actor.specs.Programs.{Effects, Program}
use Rattle.mo_actor.specs.Measures.{Measure}
use Rattle.mo_actor.specs.Results.{Result, Completed, Trapped, Exhausted, HasResult}
use Rattle.mo_actor.specs.States.{Actor}
use Rattle.mo_actor.specs.IncomingCalls.{arrived, entered}
use Rattle.mo_actor.specs.CallAnswers.{Received, received_value, filled, broken, answering}
use Rattle.mo_actor.specs.Upgrades.{saving}
use Rattle.mo_actor.specs.Steps.{ActorRun}
use Rattle.mo_actor.specs.Passes.{CommittedState, committed_state, fresh_state, answer_event, AlikeResults, AlikeMethods, AlikeEndings, AlikeActors, AlikeEffects, Keeps, AllKeep}
use Rattle.mo_actor.proofs.Carried.{carry}

results_as : {A B : Type 0} (Both Other : ℕ → ℕ → A → B → Type 0) (o : Result A) (r : Result B) → AlikeResults Both o r → ((x y : ℕ) (a : A) (b : B) → Both x y a b → Other x y a b) → AlikeResults Other o r
results_as Both Other (Completed prints weight a) (Completed shown other b) h f = (h.0, f weight other a b (h.1))
results_as Both Other (Completed prints weight a) (Trapped shown said) h f = absurd h
results_as Both Other (Completed prints weight a) (Exhausted shown word) h f = absurd h
results_as Both Other (Trapped prints text) (Completed shown other b) h f = absurd h
results_as Both Other (Trapped prints text) (Trapped shown said) h f = h
results_as Both Other (Trapped prints text) (Exhausted shown word) h f = absurd h
results_as Both Other (Exhausted prints cause) (Completed shown other b) h f = absurd h
results_as Both Other (Exhausted prints cause) (Trapped shown said) h f = absurd h
results_as Both Other (Exhausted prints cause) (Exhausted shown word) h f = h

methods_as : {A B : Type 0} (Does Other : A → B → Type 0) (m : Option A) (n : Option B) → AlikeMethods Does m n → ((a : A) (b : B) → Does a b → Other a b) → AlikeMethods Other m n
methods_as Does Other None None h f = tt
methods_as Does Other None (Some b) h f = absurd h
methods_as Does Other (Some a) None h f = absurd h
methods_as Does Other (Some a) (Some b) h f = f a b h

-- programs with numbers, and for each how the states of the new one belong to those of the old one
module _ {S T : Language} (I : Type 0) (P : I → Program S) (Q : I → Program T) (R : I → CommittedState S → CommittedState T → Type 0) (Holds : I → Type 0) (AlikeKept : S.kept → T.kept → Type 0)
    (Weighs : ℕ → ℕ → Type 0) (Given : Event → Type 0) (pays_old pays_new : Measure) (own : List ℕ) (each : (i : I) → Holds i → Keeps (R i) AlikeKept Weighs Given pays_old pays_new own (P i) (Q i)) where
  -- the states of the one of the programs that these are
  record OneOf (p : Program S) (q : Program T) (s : CommittedState S) (t : CommittedState T) : Type 0 where
    which : I
    holds : Holds which
    old : P which ≡ p
    new : Q which ≡ q
    related : R which s t

  -- what `Keeps` says of two actors
  record Lives (p : Program S) (q : Program T) (a : Actor S) (b : Actor T) : Type 0 where
    saves : (number : ℕ) → Given (event.Upgrade number) → (r : Result T.kept) → HasResult pays_new q.first_memory b.charged (saving q own b) r
        → (o : Result S.kept) × HasResult pays_old p.first_memory a.charged (saving p own a) o × AlikeResults (λ x y s t. AlikeKept s t) o r
    updates : (name : List ℕ)
        → AlikeMethods (λ m n. (caller argument : List ℕ) → Given (event.Call false name caller argument)
        → (r : Result (Effects T)) → HasResult pays_new q.first_memory b.charged (entered q own b n caller argument) r
        → (o : Result (Effects S)) × HasResult pays_old p.first_memory a.charged (entered p own a m caller argument) o
        × AlikeResults (AlikeEffects (OneOf p q) Weighs (arrived a) (arrived b) (length a.activations)) o r)
        (p.update name) (q.update name)
    queries : (name : List ℕ)
        → AlikeMethods (λ m n. (query : Bool) (caller argument : List ℕ) → Given (event.Call query name caller argument)
        → (r : Result (Effects T)) → HasResult pays_new q.first_memory b.charged (entered q own b n caller argument) r
        → (o : Result (Effects S)) × HasResult pays_old p.first_memory a.charged (entered p own a m caller argument) o
        × AlikeResults (λ x y s t. AlikeEndings s.ending t.ending) o r)
        (p.query name) (q.query name)
    answers : (number : ℕ) (c : Call S.results S.value) (d : Call T.results T.value)
        → call_at a.table number ≡ Some c → call_at b.table number ≡ Some d → is_open_state c.state ≡ true → is_open_state d.state ≡ true
        → (received : Received) → Given (answer_event number received)
        → ((r : Result (Effects T)) → HasResult pays_new q.first_memory b.charged (answering q own b number d received) r
        → (o : Result (Effects S)) × HasResult pays_old p.first_memory a.charged (answering p own a number c received) o
        × AlikeResults (AlikeEffects (OneOf p q) Weighs (filled number (received_value p own a c received) a) (filled number (received_value q own b d received) b) c.owner) o r
        × OneOf p q (committed_state (broken number c.owner a)) (committed_state (broken number d.owner b)))

  one : (i : I) → Holds i → (s : CommittedState S) (t : CommittedState T) → R i s t → OneOf (P i) (Q i) s t
  one i holds s t r = record { which = i; holds = holds; old = refl; new = refl; related = r }

  effects_of : (i : I) → Holds i → (a : Actor S) (b : Actor T) (owner weight other : ℕ) (x : Effects S) (y : Effects T) → AlikeEffects (R i) Weighs a b owner weight other x y → AlikeEffects (OneOf (P i) (Q i)) Weighs a b owner weight other x y
  effects_of i holds a b owner weight other x y h = record {
    weighs = h.weighs;
    calls = h.calls;
    ending = h.ending;
    related = record { which = i; holds = holds; old = refl; new = refl; related = h.related };
  }

  lives_of : (i : I) → Holds i → (a : Actor S) (b : Actor T) → AlikeActors (R i) Weighs a b → Lives (P i) (Q i) a b
  lives_of i holds a b al = record {
    saves = λ number given r h. (each i holds).saves number given a b al r h;
    updates = λ name.
        methods_as
        (λ m n. (caller argument : List ℕ) → Given (event.Call false name caller argument)
        → (r : Result (Effects T)) → HasResult pays_new (Q i).first_memory b.charged (entered (Q i) own b n caller argument) r
        → (o : Result (Effects S)) × HasResult pays_old (P i).first_memory a.charged (entered (P i) own a m caller argument) o
        × AlikeResults (AlikeEffects (R i) Weighs (arrived a) (arrived b) (length a.activations)) o r)
        (λ m n. (caller argument : List ℕ) → Given (event.Call false name caller argument)
        → (r : Result (Effects T)) → HasResult pays_new (Q i).first_memory b.charged (entered (Q i) own b n caller argument) r
        → (o : Result (Effects S)) × HasResult pays_old (P i).first_memory a.charged (entered (P i) own a m caller argument) o
        × AlikeResults (AlikeEffects (OneOf (P i) (Q i)) Weighs (arrived a) (arrived b) (length a.activations)) o r)
        ((P i).update name) ((Q i).update name) ((each i holds).updates a b al name)
        (λ m n does caller argument given r h.
        let x = does caller argument given r h in (
          x.0,
          x.1,
          results_as (AlikeEffects (R i) Weighs (arrived a) (arrived b) (length a.activations)) (AlikeEffects (OneOf (P i) (Q i)) Weighs (arrived a) (arrived b) (length a.activations)) x.0 r x.2
              (λ w v e f g. effects_of i holds (arrived a) (arrived b) (length a.activations) w v e f g),
        ));
    queries = λ name. (each i holds).queries a b al name;
    answers = λ number c d at_old at_new open_old open_new received given r h.
        let x = (each i holds).answers a b al number c d at_old at_new open_old open_new received given r h in
        let old = filled number (received_value (P i) own a c received) a in
        let new = filled number (received_value (Q i) own b d received) b in (
          x.0,
          x.1,
          results_as (AlikeEffects (R i) Weighs old new c.owner) (AlikeEffects (OneOf (P i) (Q i)) Weighs old new c.owner) x.0 r x.2 (λ w v e f g. effects_of i holds old new c.owner w v e f g),
          one i holds (committed_state (broken number c.owner a)) (committed_state (broken number d.owner b)) x.3,
        );
  }

  lives : (p : Program S) (q : Program T) (a : Actor S) (b : Actor T) → AlikeActors (OneOf p q) Weighs a b → Lives p q a b
  lives p q a b al =
      let x = al.related in
      subst (λ (n : Program T). Lives p n a b) x.new
      (subst (λ (o : Program S). Lives o (Q x.which) a b) x.old
      (lives_of x.which x.holds a b (record { first = al.first; calls = al.calls; activations = al.activations; charged = al.charged; related = x.related })))

  begun : (i : I) → Holds i → (o : Result S.store) (r : Result T.store) → AlikeResults (λ x y s t. Weighs x y × ((made : ℕ) → R i (fresh_state s made) (fresh_state t made))) o r
      → AlikeResults (λ x y s t. Weighs x y × ((made : ℕ) → OneOf (P i) (Q i) (fresh_state s made) (fresh_state t made))) o r
  begun i holds o r h =
      results_as (λ x y s t. Weighs x y × ((made : ℕ) → R i (fresh_state s made) (fresh_state t made))) (λ x y s t. Weighs x y × ((made : ℕ) → OneOf (P i) (Q i) (fresh_state s made) (fresh_state t made))) o r h
      (λ x y s t g. (g.0, λ made. one i holds (fresh_state s made) (fresh_state t made) (g.1 made)))

  all_keep : (i : I) → Holds i → Keeps (OneOf (P i) (Q i)) AlikeKept Weighs Given pays_old pays_new own (P i) (Q i)
  all_keep i holds = record {
    adds = (each i holds).adds;
    installs = λ r h. let x = (each i holds).installs r h in (x.0, x.1, begun i holds x.0 r x.2);
    starts = λ kept there alike r h. let x = (each i holds).starts kept there alike r h in (x.0, x.1, begun i holds x.0 r x.2);
    saves = λ number given a b al r h. (lives (P i) (Q i) a b al).saves number given r h;
    updates = λ a b al name. (lives (P i) (Q i) a b al).updates name;
    queries = λ a b al name. (lives (P i) (Q i) a b al).queries name;
    answers = λ a b al number c d at_old at_new open_old open_new received given. (lives (P i) (Q i) a b al).answers number c d at_old at_new open_old open_new received given;
  }

  all : (is : List I) → AllByRecursion Holds is → AllKeep (λ p q s t. OneOf p q s t) AlikeKept Weighs Given pays_old pays_new own (map P is) (map Q is)
  all [] hold = tt
  all (i ∷ is) hold = (all_keep i hold.0, all is hold.1)

  pub carry_each : (is : List I) → AllByRecursion Holds is → (events : List Event) → AllByRecursion Given events → (items : List Item) → ActorRun pays_new (map Q is) own events items → ActorRun pays_old (map P is) own events items
  carry_each is hold events given items run = carry (λ p q s t. OneOf p q s t) AlikeKept Weighs Given pays_old pays_new own (map P is) (map Q is) (all is hold) events given items run
