-- The calls of actors that belong together, with what waits for them.
use Rattle.std.proofs.Common.{◌≡◌, ℕ, zero, suc, refl, sym, ap, ◌∙◌, subst, List, [], ◌∷◌, ◌++◌, length, map, Option, Some, None, Bool, true, false, arith as arithmetic}
use Rattle.std.specs.Prelude.{⊤, cond, nat_eq, slice_set, if◌then◌else◌}
use Rattle.std.proofs.lemmas.Bool.{eqb-true, eq-eqb}
use Rattle.mo_types.specs.declared.node.TypeId.{TypeId}
use Rattle.mo_types.specs.Calls.{State, Call, is_open_state, call_from, set_from}
use Rattle.mo_values.specs.Shapes.{Bytes}
use Rattle.mo_actor.specs.Languages.{Language}
use Rattle.mo_actor.specs.Programs.{OutgoingCall, Ending, Answers, Awaits, AwaitsNothing, Unchanged}
use Rattle.mo_actor.specs.States.{Activation, IsAnswered, IsDead, WaitsFor, WaitsForNothing, activation_at, waiting_on}
use Rattle.mo_actor.specs.Completions.{activation_after, open_call}
use Rattle.mo_actor.specs.Passes.{CommittedState, held_calls, AlikeActivations, AlikeCalls, AlikeEndings}
use Rattle.core_ir.specs.Values.{Value}
use Rattle.core_ir.specs.Programs.{Program}
use Rattle.core_ir.specs.Worlds.{Given, World}
use Rattle.core_ir.specs.Executions.{Machine}
use Rattle.core_ir.specs.Messages.{Messages}
use Rattle.core_ir.specs.Actor.{Pending, core_language, alone}
use Rattle.core_laws.specs.Followed.{PendingAlike, EndingsAlike, call_alike}
use Rattle.core_actors.specs.KeptActors.{WaitingAlike, HeldAll}

-- ---- activations by number

module _ {L : Language} where
  pub at_set : (xs : List (Activation L)) (n k : ℕ) (x : Activation L) → (n ≡ k → ⊥) → activation_at (slice_set xs n x) k ≡ activation_at xs k
  at_set [] n k x e = refl
  at_set (y ∷ xs) zero zero x e = absurd (e refl)
  at_set (y ∷ xs) zero (suc k) x e = refl
  at_set (y ∷ xs) (suc n) zero x e = refl
  at_set (y ∷ xs) (suc n) (suc k) x e = at_set xs n k x (λ i. e (ap suc i))

  pub at_same : (xs : List (Activation L)) (n k : ℕ) → activation_at (slice_set xs n (activation_at xs n)) k ≡ activation_at xs k
  at_same [] n k = refl
  at_same (y ∷ xs) zero zero = refl
  at_same (y ∷ xs) zero (suc k) = refl
  at_same (y ∷ xs) (suc n) zero = refl
  at_same (y ∷ xs) (suc n) (suc k) = at_same xs n k

  -- one more that is dead
  pub dead_waits : (xs : List (Activation L)) (k number : ℕ) → waiting_on number (activation_at (xs ++ IsDead ∷ []) k) ≡ waiting_on number (activation_at xs k)
  dead_waits [] zero number = refl
  dead_waits [] (suc k) number = refl
  dead_waits (x ∷ xs) zero number = refl
  dead_waits (x ∷ xs) (suc k) number = dead_waits xs k number

pub lengths : {S T : Language} (xs : List (Activation S)) (ys : List (Activation T)) → AlikeActivations {S = S} {T = T} xs ys → length ys ≡ length xs
lengths [] [] h = refl
lengths (x ∷ xs) (y ∷ ys) h = ap suc (lengths xs ys (h.1))
lengths [] (y ∷ ys) h = absurd h
lengths (x ∷ xs) [] h = absurd h

-- ---- held calls

module _ {S T V W K B C : Type 0} (times : ℕ) (moved : World → World) (old : Machine S V) (new : Machine T W) (messages : Messages K) (p : Program B) (q : Program C) (own : Bytes)
    (Safe : CommittedState (core_language V K) → Type 0) (Fits : K → Type 0) (names : List Value) where
  abbrev Calls : Type 0
  Calls = List (Call (List TypeId) Given)

  abbrev Olds : Type 0
  Olds = List (Activation (core_language V K))

  abbrev News : Type 0
  News = List (Activation (core_language W K))

  abbrev Waits : Option (Pending V) → Option (Pending W) → Type 0
  Waits = WaitingAlike times moved old new messages p q own Safe Fits names

  abbrev Held : ℕ → Calls → Calls → Olds → News → Type 0
  Held n cs ds xs ys = HeldAll times moved old new messages p q own Safe Fits names (held_calls n cs xs) (held_calls n ds ys)

  -- the calls are the same
  pub calls_same : (n m : ℕ) (cs ds : Calls) (xs : Olds) (ys : News) → HeldAll times moved old new messages p q own Safe Fits names (held_calls n cs xs) (held_calls m ds ys) → ds ≡ cs
  calls_same n m [] [] xs ys h = refl
  calls_same n m (c ∷ cs) (d ∷ ds) xs ys h = let r = calls_same (suc n) (suc m) cs ds xs ys (h.1) in let e = h.0.0 in cc
  calls_same n m [] (d ∷ ds) xs ys h = absurd h
  calls_same n m (c ∷ cs) [] xs ys h = absurd h

  -- what waits for an open call
  abbrev pub Each : ℕ → Calls → Olds → News → Type 0
  Each n [] xs ys = ⊤
  Each n (c ∷ cs) xs ys = (is_open_state c.state ≡ true → Waits (waiting_on n (activation_at xs c.owner)) (waiting_on n (activation_at ys c.owner))) × Each (suc n) cs xs ys

  pub each_of : (n : ℕ) (cs : Calls) (xs : Olds) (ys : News) → Held n cs cs xs ys → Each n cs xs ys
  each_of n [] xs ys h = tt
  each_of n (c ∷ cs) xs ys h = (λ o. by (is_open_state c.state) o (h.0.1), each_of (suc n) cs xs ys (h.1))
    where
      by : (b : Bool) → b ≡ true → Waits (cond b (waiting_on n (activation_at xs c.owner)) None) (cond b (waiting_on n (activation_at ys c.owner)) None) → Waits (waiting_on n (activation_at xs c.owner)) (waiting_on n (activation_at ys c.owner))
      by true o w = w
      by false o w = absurd (let z : false ≡ true = o in cc)

  pub held_of : (n : ℕ) (cs : Calls) (xs : Olds) (ys : News) → Each n cs xs ys → Held n cs cs xs ys
  held_of n [] xs ys h = tt
  held_of n (c ∷ cs) xs ys h = ((refl, by (is_open_state c.state) (h.0)), held_of (suc n) cs xs ys (h.1))
    where
      by : (b : Bool) → (b ≡ true → Waits (waiting_on n (activation_at xs c.owner)) (waiting_on n (activation_at ys c.owner))) → Waits (cond b (waiting_on n (activation_at xs c.owner)) None) (cond b (waiting_on n (activation_at ys c.owner)) None)
      by true w = w refl
      by false w = tt

  -- of the call of a number
  pub each_at : (first number : ℕ) (cs : Calls) (c : Call (List TypeId) Given) (xs : Olds) (ys : News) → Each first cs xs ys → call_from first cs number ≡ Some c → is_open_state c.state ≡ true
      → Waits (waiting_on number (activation_at xs c.owner)) (waiting_on number (activation_at ys c.owner))
  each_at first number [] c xs ys h e o = absurd (let z : None ≡ Some c = e in cc)
  each_at first number (d ∷ cs) c xs ys h e o = by (nat_eq first number) refl e (each_at (suc first) number cs c xs ys (h.1))
    where
      here : first ≡ number → d ≡ c → Waits (waiting_on number (activation_at xs c.owner)) (waiting_on number (activation_at ys c.owner))
      here i k =
          subst (λ n. Waits (waiting_on n (activation_at xs c.owner)) (waiting_on n (activation_at ys c.owner))) i
          (subst (λ (c : Call (List TypeId) Given). Waits (waiting_on first (activation_at xs c.owner)) (waiting_on first (activation_at ys c.owner))) k (h.0 (ap (λ (c : Call (List TypeId) Given). is_open_state c.state) k ∙ o)))

      by : (b : Bool) → nat_eq first number ≡ b → (if b then Some d else call_from (suc first) cs number) ≡ Some c
          → (call_from (suc first) cs number ≡ Some c → is_open_state c.state ≡ true → Waits (waiting_on number (activation_at xs c.owner)) (waiting_on number (activation_at ys c.owner)))
          → Waits (waiting_on number (activation_at xs c.owner)) (waiting_on number (activation_at ys c.owner))
      by true i k f = here (eqb-true first number i) (let z : d ≡ c = cc in z)
      by false i k f = f k o

  -- a call that gets another state than an open one
  pub each_set : (first number : ℕ) (s : State Given) (cs : Calls) (xs : Olds) (ys : News) → is_open_state s ≡ false → Each first cs xs ys → Each first (set_from first cs number s) xs ys
  each_set first number s [] xs ys o h = tt
  each_set first number s (c ∷ cs) xs ys o h = by (nat_eq first number) (each_set (suc first) number s cs xs ys o (h.1))
    where
      by : (b : Bool) → Each (suc first) (set_from (suc first) cs number s) xs ys → Each first (if b then record c { state = s } ∷ cs else c ∷ set_from (suc first) cs number s) xs ys
      by true r = ((λ i. absurd (let z : false ≡ true = sym o ∙ i in let w : false ≡ true = z in cc)), h.1)
      by false r = (h.0, r)

  -- another activation of one owner; what is said of it, is said of each number
  abbrev Ready : Activation (core_language V K) → Activation (core_language W K) → Type 0
  Ready x y = (number : ℕ) → Waits (waiting_on number x) (waiting_on number y)

  -- with one more incoming call
  pub each_arrived : (n : ℕ) (cs : Calls) (xs : Olds) (ys : News) → Each n cs xs ys → Each n cs (xs ++ IsDead ∷ []) (ys ++ IsDead ∷ [])
  each_arrived n [] xs ys h = tt
  each_arrived n (c ∷ cs) xs ys h =
      ((λ o. subst (λ w. Waits w (waiting_on n (activation_at (ys ++ IsDead ∷ []) c.owner))) (sym (dead_waits xs c.owner n)) (subst (λ w. Waits (waiting_on n (activation_at xs c.owner)) w) (sym (dead_waits ys c.owner n)) (h.0 o))), each_arrived (suc n) cs xs ys (h.1))

  itself_waits : (xs : Olds) (ys : News) (owner : ℕ) (x : Activation (core_language V K)) (y : Activation (core_language W K)) (number : ℕ) → length ys ≡ length xs → Ready x y
      → Waits (waiting_on number (activation_at (slice_set xs owner x) owner)) (waiting_on number (activation_at (slice_set ys owner y) owner))
  itself_waits [] [] owner x y number e r = tt
  itself_waits (u ∷ xs) (v ∷ ys) zero x y number e r = r number
  itself_waits (u ∷ xs) (v ∷ ys) (suc owner) x y number e r = itself_waits xs ys owner x y number (omega (arithmetic, e)) r
  itself_waits [] (v ∷ ys) owner x y number e r = absurd (omega (arithmetic, e))
  itself_waits (u ∷ xs) [] owner x y number e r = absurd (omega (arithmetic, e))

  set_waits : (xs : Olds) (ys : News) (owner k : ℕ) (x : Activation (core_language V K)) (y : Activation (core_language W K)) (number : ℕ) → length ys ≡ length xs → Ready x y
      → Waits (waiting_on number (activation_at xs k)) (waiting_on number (activation_at ys k))
      → Waits (waiting_on number (activation_at (slice_set xs owner x) k)) (waiting_on number (activation_at (slice_set ys owner y) k))
  set_waits xs ys owner k x y number e r h = by (nat_eq owner k) refl
    where
      other : nat_eq owner k ≡ false → owner ≡ k → ⊥
      other i j = let z : true ≡ false = sym (eq-eqb owner k j) ∙ i in let w : true ≡ false = z in cc

      by : (b : Bool) → nat_eq owner k ≡ b → Waits (waiting_on number (activation_at (slice_set xs owner x) k)) (waiting_on number (activation_at (slice_set ys owner y) k))
      by false i =
          subst (λ u. Waits (waiting_on number u) (waiting_on number (activation_at (slice_set ys owner y) k))) (sym (at_set xs owner k x (other i)))
          (subst (λ v. Waits (waiting_on number (activation_at xs k)) (waiting_on number v)) (sym (at_set ys owner k y (other i))) h)
      by true i = subst (λ k. Waits (waiting_on number (activation_at (slice_set xs owner x) k)) (waiting_on number (activation_at (slice_set ys owner y) k))) (eqb-true owner k i) (itself_waits xs ys owner x y number e r)

  pub each_owner : (n : ℕ) (cs : Calls) (xs : Olds) (ys : News) (owner : ℕ) (x : Activation (core_language V K)) (y : Activation (core_language W K)) → length ys ≡ length xs → Ready x y → Each n cs xs ys
      → Each n cs (slice_set xs owner x) (slice_set ys owner y)
  each_owner n [] xs ys owner x y e r h = tt
  each_owner n (c ∷ cs) xs ys owner x y e r h = ((λ o. set_waits xs ys owner c.owner x y n e r (h.0 o)), each_owner (suc n) cs xs ys owner x y e r (h.1))

  each_new : (n : ℕ) (calls : List (OutgoingCall (core_language V K))) (xs : Olds) (ys : News) (owner : ℕ) (x : Activation (core_language V K)) (y : Activation (core_language W K)) → length ys ≡ length xs → Ready x y
      → Each n (map (open_call owner) calls) (slice_set xs owner x) (slice_set ys owner y)
  each_new n [] xs ys owner x y e r = tt
  each_new n (c ∷ calls) xs ys owner x y e r = ((λ o. itself_waits xs ys owner x y n e r), each_new (suc n) calls xs ys owner x y e r)

  each_append : (n : ℕ) (cs ds : Calls) (xs : Olds) (ys : News) → Each n cs xs ys → ((m : ℕ) → Each m ds xs ys) → Each n (cs ++ ds) xs ys
  each_append n [] ds xs ys h f = f n
  each_append n (c ∷ cs) ds xs ys h f = (h.0, each_append (suc n) cs ds xs ys (h.1) f)

  -- an activation that stays
  each_same : (n : ℕ) (cs : Calls) (xs : Olds) (ys : News) (owner : ℕ) → Each n cs xs ys → Each n cs (slice_set xs owner (activation_at xs owner)) (slice_set ys owner (activation_at ys owner))
  each_same n [] xs ys owner h = tt
  each_same n (c ∷ cs) xs ys owner h = (
    (λ o. subst (λ u. Waits (waiting_on n u) (waiting_on n (activation_at (slice_set ys owner (activation_at ys owner)) c.owner))) (sym (at_same xs owner c.owner))
        (subst (λ v. Waits (waiting_on n (activation_at xs c.owner)) (waiting_on n v)) (sym (at_same ys owner c.owner)) (h.0 o))),
    each_same (suc n) cs xs ys owner (h.1),
  )

  -- what an execution leaves: its calls, and the activation of its owner
  module _ (owner : ℕ) (calls : List (OutgoingCall (core_language V K))) where
    abbrev Left : ℕ → Calls → Olds → News → Ending (core_language V K) → Ending (core_language W K) → Type 0
    Left n cs xs ys ending e = Each n (cs ++ map (open_call owner) calls) (slice_set xs owner (activation_after ending (activation_at xs owner))) (slice_set ys owner (activation_after e (activation_at ys owner)))

    changed : (n : ℕ) (cs : Calls) (xs : Olds) (ys : News) (x : Activation (core_language V K)) (y : Activation (core_language W K)) → length ys ≡ length xs → Ready x y → Each n cs xs ys
        → Each n (cs ++ map (open_call owner) calls) (slice_set xs owner x) (slice_set ys owner y)
    changed n cs xs ys x y e r h = each_append n cs (map (open_call owner) calls) (slice_set xs owner x) (slice_set ys owner y) (each_owner n cs xs ys owner x y e r h) (λ m. each_new m calls xs ys owner x y e r)

    pub each_left : (n : ℕ) (cs : Calls) (xs : Olds) (ys : News) (ending : Ending (core_language V K)) (e : Ending (core_language W K)) → length ys ≡ length xs
        → EndingsAlike times moved old new messages p q (alone old messages p own names) ending e → (ending ≡ Unchanged → calls ≡ []) → Each n cs xs ys → Left n cs xs ys ending e
    each_left n cs xs ys (Answers answer) e l a z h = subst (λ e. Left n cs xs ys (Answers answer) e) (sym a) (changed n cs xs ys IsAnswered IsAnswered l (λ m. tt) h)
    each_left n cs xs ys (Awaits number x) e l a z h =
        let y = a.0 in
        let like = a.2 in
        subst (λ e. Left n cs xs ys (Awaits number x) e) (sym (a.1)) (changed n cs xs ys (WaitsFor number x) (WaitsFor number y) l (λ m. by y like (nat_eq number m)) h)
      where
        by : (y : Pending W) → PendingAlike times moved old new messages p q (alone old messages p own names) x y → (b : Bool) → Waits (cond b (Some x) None) (cond b (Some y) None)
        by y k true = k
        by y k false = tt
    each_left n cs xs ys AwaitsNothing e l a z h = subst (λ e. Left n cs xs ys AwaitsNothing e) (sym a) (changed n cs xs ys WaitsForNothing WaitsForNothing l (λ m. tt) h)
    each_left n cs xs ys Unchanged e l a z h =
        subst (λ e. Left n cs xs ys Unchanged e) (sym a)
        (subst (λ (cals : List (OutgoingCall (core_language V K))). Each n (cs ++ map (open_call owner) cals) (slice_set xs owner (activation_at xs owner)) (slice_set ys owner (activation_at ys owner))) (sym (z refl))
        (each_append n cs [] (slice_set xs owner (activation_at xs owner)) (slice_set ys owner (activation_at ys owner)) (each_same n cs xs ys owner h) (λ m. tt)))

    pub opened_same : map (open_call owner) (map (call_alike times moved old new messages p q) calls) ≡ map (open_call owner) calls
    opened_same = each_opened calls
      where
        each_opened : (cs : List (OutgoingCall (core_language V K))) → map (open_call owner) (map (call_alike times moved old new messages p q) cs) ≡ map (open_call owner) cs
        each_opened [] = refl
        each_opened (c ∷ cs) = let r = each_opened cs in cc

  -- ---- what is seen of what an execution leaves

  pub calls_alike : (calls : List (OutgoingCall (core_language V K))) → AlikeCalls {S = core_language V K} {T = core_language W K} calls (map (call_alike times moved old new messages p q) calls)
  calls_alike [] = tt
  calls_alike (c ∷ calls) = (refl, refl, refl, calls_alike calls)

  pub endings_alike : (ending : Ending (core_language V K)) (e : Ending (core_language W K)) → EndingsAlike times moved old new messages p q (alone old messages p own names) ending e → AlikeEndings {S = core_language V K} {T = core_language W K} ending e
  endings_alike (Answers answer) e a = subst (λ (e : Ending (core_language W K)). AlikeEndings {S = core_language V K} {T = core_language W K} (Answers answer) e) (sym a) refl
  endings_alike (Awaits number x) e a = subst (λ (e : Ending (core_language W K)). AlikeEndings {S = core_language V K} {T = core_language W K} (Awaits number x) e) (sym (a.1)) tt
  endings_alike AwaitsNothing e a = subst (λ (e : Ending (core_language W K)). AlikeEndings {S = core_language V K} {T = core_language W K} AwaitsNothing e) (sym a) tt
  endings_alike Unchanged e a = subst (λ (e : Ending (core_language W K)). AlikeEndings {S = core_language V K} {T = core_language W K} Unchanged e) (sym a) tt
