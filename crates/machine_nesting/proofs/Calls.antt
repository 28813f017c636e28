-- Calls of an actor, and what waits for them.
use Rattle.std.proofs.Common.{◌≡◌, ℕ, zero, suc, List, [], ◌∷◌, ◌++◌, map, Bool, true, false, Option, Some, None, refl, subst, eqb-true}
use Rattle.std.specs.Prelude.{cond, nat_eq, slice_set, if◌then◌else◌}
use Rattle.mo_types.specs.declared.node.TypeId.{TypeId}
use Rattle.mo_types.specs.Calls.{State, Open, Answered, Lost, Call, is_open_state, call_from, set_from, state_of}
use Rattle.mo_actor.specs.CallAnswers.{value_in_state}
use Rattle.mo_actor.specs.Completions.{activation_after, open_call}
use Rattle.mo_actor.specs.Passes.{held_calls}
use Rattle.mo_actor.specs.Programs.{OutgoingCall, Ending, Answers, Awaits, AwaitsNothing, Unchanged}
use Rattle.mo_actor.specs.States.{Activation, IsAnswered, IsDead, WaitsFor, WaitsForNothing, activation_at, waiting_on}
use Rattle.mo_meaning.specs.Acts.{Given}
use Rattle.mo_machine.specs.ActorLanguage.{machine, Waiting}
use Rattle.machine_nesting.specs.Actors.{GoodWaiting, MaybeWaiting, GoodAnswer, GoodCalls}
use Rattle.machine_nesting.proofs.Acting.{MaybeGiven}
use Rattle.machine_nesting.proofs.Bodies.{GoodEnding}

abbrev pub Called : Type 0
Called = Call (List TypeId) Given

abbrev pub Activations : Type 0
Activations = List (Activation machine)

-- ---- what waits, where activations change

only_where : (b : Bool) (w x : Option Waiting) → (MaybeWaiting w → MaybeWaiting x) → MaybeWaiting (cond b w None) → MaybeWaiting (cond b x None)
only_where true w x f h = f h
only_where false w x f h = tt

-- nothing waits on a call that is not open
shut : (b : Bool) (w : Option Waiting) → b ≡ false → MaybeWaiting (cond b w None)
shut true w q = absurd (let z : true ≡ false = q in cc)
shut false w q = tt

abbrev pub Waits : ℕ → Activation machine → Type 0
Waits number x = MaybeWaiting (waiting_on number x)

dead_waits : (xs : Activations) (k number : ℕ) → Waits number (activation_at xs k) → Waits number (activation_at (xs ++ IsDead ∷ []) k)
dead_waits [] zero number h = tt
dead_waits [] (suc k) number h = tt
dead_waits (x ∷ xs) zero number h = h
dead_waits (x ∷ xs) (suc k) number h = dead_waits xs k number h

set_waits : (xs : Activations) (owner k : ℕ) (x : Activation machine) (number : ℕ) → Waits number x → Waits number (activation_at xs k) → Waits number (activation_at (slice_set xs owner x) k)
set_waits [] owner k x number r h = h
set_waits (y ∷ xs) zero zero x number r h = r
set_waits (y ∷ xs) zero (suc k) x number r h = h
set_waits (y ∷ xs) (suc owner) zero x number r h = h
set_waits (y ∷ xs) (suc owner) (suc k) x number r h = set_waits xs owner k x number r h

itself_waits : (xs : Activations) (owner : ℕ) (x : Activation machine) (number : ℕ) → Waits number x → Waits number (activation_at (slice_set xs owner x) owner)
itself_waits [] owner x number r = tt
itself_waits (y ∷ xs) zero x number r = r
itself_waits (y ∷ xs) (suc owner) x number r = itself_waits xs owner x number r

same_waits : (xs : Activations) (owner k number : ℕ) → Waits number (activation_at xs k) → Waits number (activation_at (slice_set xs owner (activation_at xs owner)) k)
same_waits [] owner k number h = h
same_waits (y ∷ xs) zero zero number h = h
same_waits (y ∷ xs) zero (suc k) number h = h
same_waits (y ∷ xs) (suc owner) zero number h = h
same_waits (y ∷ xs) (suc owner) (suc k) number h = same_waits xs owner k number h

-- ---- calls

abbrev pub Held : ℕ → List Called → Activations → Type 0
Held n cs xs = GoodCalls (held_calls {L = machine} n cs xs)

changed_held : (xs ys : Activations) → ((k number : ℕ) → Waits number (activation_at xs k) → Waits number (activation_at ys k)) → (n : ℕ) (cs : List Called) → Held n cs xs → Held n cs ys
changed_held xs ys f n [] h = tt
changed_held xs ys f n (c ∷ cs) h = (h.0, only_where (is_open_state c.state) (waiting_on n (activation_at xs c.owner)) (waiting_on n (activation_at ys c.owner)) (f c.owner n) h.1, changed_held xs ys f (suc n) cs h.2)

pub arrived_held : (n : ℕ) (cs : List Called) (xs : Activations) → Held n cs xs → Held n cs (xs ++ IsDead ∷ [])
arrived_held n cs xs h = changed_held xs (xs ++ IsDead ∷ []) (λ k number. dead_waits xs k number) n cs h

-- one owner's activation becomes another
pub owner_held : (n : ℕ) (cs : List Called) (xs : Activations) (owner : ℕ) (x : Activation machine) → ((number : ℕ) → Waits number x) → Held n cs xs → Held n cs (slice_set xs owner x)
owner_held n cs xs owner x r h = changed_held xs (slice_set xs owner x) (λ k number. set_waits xs owner k x number (r number)) n cs h

same_held : (n : ℕ) (cs : List Called) (xs : Activations) (owner : ℕ) → Held n cs xs → Held n cs (slice_set xs owner (activation_at xs owner))
same_held n cs xs owner h = changed_held xs (slice_set xs owner (activation_at xs owner)) (λ k number. same_waits xs owner k number) n cs h

pub set_held : (n number : ℕ) (s : State Given) (cs : List Called) (xs : Activations) → is_open_state s ≡ false → GoodAnswer s → Held n cs xs → Held n (set_from n cs number s) xs
set_held n number s [] xs q g h = tt
set_held n number s (c ∷ cs) xs q g h = by (nat_eq n number) (set_held (suc n) number s cs xs q g h.2)
  where
    by : (b : Bool) → Held (suc n) (set_from (suc n) cs number s) xs → Held n (if b then record c { state = s } ∷ cs else c ∷ set_from (suc n) cs number s) xs
    by true r = (g, shut (is_open_state s) (waiting_on n (activation_at xs c.owner)) q, h.2)
    by false r = (h.0, h.1, r)

more_held : (n : ℕ) (cs ds : List Called) (xs : Activations) → Held n cs xs → ((m : ℕ) → Held m ds xs) → Held n (cs ++ ds) xs
more_held n [] ds xs h f = f n
more_held n (c ∷ cs) ds xs h f = (h.0, h.1, more_held (suc n) cs ds xs h.2 f)

new_held : (n : ℕ) (calls : List (OutgoingCall machine)) (xs : Activations) (owner : ℕ) (x : Activation machine) → ((number : ℕ) → Waits number x) → Held n (map (open_call owner) calls) (slice_set xs owner x)
new_held n [] xs owner x r = tt
new_held n (c ∷ calls) xs owner x r = (tt, itself_waits xs owner x n (r n), new_held (suc n) calls xs owner x r)

-- what an execution leaves
module _ (n : ℕ) (cs : List Called) (xs : Activations) (owner : ℕ) (calls : List (OutgoingCall machine)) (h : Held n cs xs) where
  abbrev Left : Ending machine → Type 0
  Left ending = Held n (cs ++ map (open_call owner) calls) (slice_set xs owner (activation_after ending (activation_at xs owner)))

  changed : (x : Activation machine) → ((number : ℕ) → Waits number x) → Held n (cs ++ map (open_call owner) calls) (slice_set xs owner x)
  changed x r = more_held n cs (map (open_call owner) calls) (slice_set xs owner x) (owner_held n cs xs owner x r h) (λ m. new_held m calls xs owner x r)

  no_calls : (ds : List (OutgoingCall machine)) → ds ≡ [] → Held n (cs ++ map (open_call owner) ds) (slice_set xs owner (activation_at xs owner))
  no_calls [] q = more_held n cs [] (slice_set xs owner (activation_at xs owner)) (same_held n cs xs owner h) (λ m. tt)
  no_calls (d ∷ ds) q = absurd (let z : d ∷ ds ≡ [] = q in cc)

  waits_for : (number : ℕ) (w : Waiting) → GoodWaiting w → (m : ℕ) → Waits m (WaitsFor number w)
  waits_for number w g m = by (nat_eq number m)
    where
      by : (b : Bool) → MaybeWaiting (cond b (Some w) None)
      by true = g
      by false = tt

  pub left_held : (ending : Ending machine) → GoodEnding ending → (ending ≡ Unchanged → calls ≡ []) → Left ending
  left_held (Answers answer) g q = changed IsAnswered (λ m. tt)
  left_held (Awaits number w) g q = changed (WaitsFor number w) (waits_for number w g)
  left_held AwaitsNothing g q = changed WaitsForNothing (λ m. tt)
  left_held Unchanged g q = no_calls calls (q refl)

-- ---- the call of a number

pub waits_at : (n number : ℕ) (cs : List Called) (xs : Activations) (c : Called) → Held n cs xs → call_from n cs number ≡ Some c → is_open_state c.state ≡ true → Waits number (activation_at xs c.owner)
waits_at n number [] xs c h q o = absurd (let z : None ≡ Some c = q in cc)
waits_at n number (d ∷ cs) xs c h q o = by (nat_eq n number) refl q (waits_at (suc n) number cs xs c h.2)
  where
    open_waits : (b : Bool) (w : Option Waiting) → b ≡ true → MaybeWaiting (cond b w None) → MaybeWaiting w
    open_waits true w i k = k
    open_waits false w i k = absurd (let z : false ≡ true = i in cc)

    by : (b : Bool) → nat_eq n number ≡ b → (if b then Some d else call_from (suc n) cs number) ≡ Some c → (call_from (suc n) cs number ≡ Some c → is_open_state c.state ≡ true → Waits number (activation_at xs c.owner)) → Waits number (activation_at xs c.owner)
    by true i k later =
        let same : d ≡ c = cc in
        subst (λ m. Waits m (activation_at xs c.owner)) (eqb-true n number i)
        (open_waits (is_open_state c.state) (waiting_on n (activation_at xs c.owner)) o (subst (λ (x : Called). MaybeWaiting (cond (is_open_state x.state) (waiting_on n (activation_at xs x.owner)) None)) same h.1))
    by false i k later = later k o

-- what a future was filled with
value_good : (s : State Given) → GoodAnswer s → MaybeGiven (value_in_state (Some s))
value_good Open h = tt
value_good (Answered None) h = tt
value_good (Answered (Some g)) h = h
value_good Lost h = tt

pub future_good : (n number : ℕ) (cs : List Called) (xs : Activations) → Held n cs xs → MaybeGiven (value_in_state (state_of (call_from n cs number)))
future_good n number [] xs h = tt
future_good n number (c ∷ cs) xs h = by (nat_eq n number) (future_good (suc n) number cs xs h.2)
  where
    by : (b : Bool) → MaybeGiven (value_in_state (state_of (call_from (suc n) cs number))) → MaybeGiven (value_in_state (state_of (if b then Some c else call_from (suc n) cs number)))
    by true r = value_good c.state h.0
    by false r = r
