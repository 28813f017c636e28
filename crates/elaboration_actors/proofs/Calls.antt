-- The calls of actors that belong together, with what waits for them.
use Rattle.std.proofs.Common.{◌≡◌, ℕ, zero, suc, refl, sym, ap, ap₂, ◌∙◌, subst, List, [], ◌∷◌, ◌++◌, length, map, Option, Some, None, Bool, true, false, arith}
use Rattle.std.specs.Prelude.{⊤, if◌then◌else◌, cond, nat_eq, slice_set}
use Rattle.std.proofs.lemmas.Bool.{eqb-true, eq-eqb}
use Rattle.mo_types.specs.declared.node.TypeId.{TypeId}
use Rattle.mo_types.specs.Calls.{State, Open, Answered, Lost, Call, is_open_state, call_from, set_from, count_open, state_of}
use Rattle.mo_values.specs.Shapes.{Bytes}
use Rattle.mo_actor.specs.Languages.{Language}
use Rattle.mo_actor.specs.Programs.{OutgoingCall, Ending, Answers, Awaits, AwaitsNothing, Unchanged}
use Rattle.mo_actor.specs.States.{Activation, IsAnswered, IsDead, WaitsFor, WaitsForNothing, activation_at, waiting_on}
use Rattle.mo_actor.specs.CallAnswers.{value_in_state}
use Rattle.mo_actor.specs.Completions.{activation_after, open_call}
use Rattle.mo_actor.specs.Passes.{held_calls, AlikeCalls, AlikeEndings}
use Rattle.core_ir.specs.Actor.{Pending, core_language}
use Rattle.core_ir.specs.CoreMachine as core_machine
use Rattle.core_ir.specs.Expressions.{Core}
use Rattle.core_ir.specs.Values as core_value
use Rattle.core_ir.specs.Worlds as worlds
use Rattle.core_actors.proofs.KeptCalls.{at_set, at_same, dead_waits}
use Rattle.mo_meaning.specs.Acts.{Given, Gets, Fails}
use Rattle.mo_meaning.specs.Kernel.{Kept}
use Rattle.mo_machine.specs.ActorLanguage.{machine, Waiting}
use Rattle.mo_machine.specs.Values.{load, shape_of}
use Rattle.elaboration_values.specs.Belonging.{Known}
use Rattle.elaboration_values.proofs.Belong.{stay}
use Rattle.elaboration_steps.proofs.Growth.{stack_stays}
use Rattle.elaboration_runs.specs.Waiting.{SameState}
use Rattle.elaboration_actors.specs.Bodies.{GivenBelongs, CallsBelong, EndingsBelong}
use Rattle.elaboration_actors.specs.Actors.{StatesBelong, CallsBelongTogether, WaitsBelong, HeldBelong, globals}

module _ (core : Core) (own : Bytes) (names : List core_value.Value) where
  abbrev L : Language
  L = core_language core_machine.Waiting Kept

  abbrev Olds : Type 0
  Olds = List (Call (List TypeId) Given)

  abbrev News : Type 0
  News = List (Call (List TypeId) worlds.Given)

  abbrev Xs : Type 0
  Xs = List (Activation machine)

  abbrev Ys : Type 0
  Ys = List (Activation L)

  -- ---- more groups

  given_stays : (known more : List Known) (g : Given) (h : worlds.Given) → GivenBelongs known g h → GivenBelongs (known ++ more) g h
  given_stays known more (Gets v) (worlds.Gets w) a = stay known more (shape_of (load v)) w a
  given_stays known more (Fails e) (worlds.Throws w) a = stay known more (shape_of (load e)) w a
  given_stays known more (Gets v) (worlds.Throws w) a = absurd a
  given_stays known more (Fails e) (worlds.Gets w) a = absurd a

  state_stays : (known more : List Known) (s : State Given) (t : State worlds.Given) → StatesBelong core own names known s t → StatesBelong core own names (known ++ more) s t
  state_stays known more Open Open a = tt
  state_stays known more (Answered None) (Answered None) a = tt
  state_stays known more (Answered (Some g)) (Answered (Some h)) a = given_stays known more g h a
  state_stays known more Lost Lost a = tt
  state_stays known more Open (Answered h) a = absurd a
  state_stays known more Open Lost a = absurd a
  state_stays known more (Answered None) Open a = absurd a
  state_stays known more (Answered None) (Answered (Some h)) a = absurd a
  state_stays known more (Answered None) Lost a = absurd a
  state_stays known more (Answered (Some g)) Open a = absurd a
  state_stays known more (Answered (Some g)) (Answered None) a = absurd a
  state_stays known more (Answered (Some g)) Lost a = absurd a
  state_stays known more Lost Open a = absurd a
  state_stays known more Lost (Answered h) a = absurd a

  waits_stay : (known more : List Known) (w : Option Waiting) (p : Option (Pending core_machine.Waiting)) → WaitsBelong core own names known w p → WaitsBelong core own names (known ++ more) w p
  waits_stay known more None None a = tt
  waits_stay known more (Some w) (Some p) a = record {
    results = a.results;
    nodes = a.nodes;
    labels = a.labels;
    held = a.held;
    around = stack_stays core.groups known more (globals core own names) w.nodes true a.labels a.held w.stack p.waiting.stack a.around;
    future = a.future;
    focus = a.focus;
  }
  waits_stay known more None (Some p) a = absurd a
  waits_stay known more (Some w) None a = absurd a

  -- ---- states

  open_same : (known : List Known) (s : State Given) (t : State worlds.Given) → StatesBelong core own names known s t → is_open_state t ≡ is_open_state s
  open_same known Open Open a = refl
  open_same known (Answered None) (Answered None) a = refl
  open_same known (Answered (Some g)) (Answered (Some h)) a = refl
  open_same known Lost Lost a = refl
  open_same known Open (Answered h) a = absurd a
  open_same known Open Lost a = absurd a
  open_same known (Answered None) Open a = absurd a
  open_same known (Answered None) (Answered (Some h)) a = absurd a
  open_same known (Answered None) Lost a = absurd a
  open_same known (Answered (Some g)) Open a = absurd a
  open_same known (Answered (Some g)) (Answered None) a = absurd a
  open_same known (Answered (Some g)) Lost a = absurd a
  open_same known Lost Open a = absurd a
  open_same known Lost (Answered h) a = absurd a

  same_state : (known : List Known) (s : State Given) (t : State worlds.Given) → StatesBelong core own names known s t → SameState (Some s) (Some t)
  same_state known Open Open a = tt
  same_state known (Answered None) (Answered None) a = tt
  same_state known (Answered (Some g)) (Answered (Some h)) a = tt
  same_state known Lost Lost a = tt
  same_state known Open (Answered h) a = absurd a
  same_state known Open Lost a = absurd a
  same_state known (Answered None) Open a = absurd a
  same_state known (Answered None) (Answered (Some h)) a = absurd a
  same_state known (Answered None) Lost a = absurd a
  same_state known (Answered (Some g)) Open a = absurd a
  same_state known (Answered (Some g)) (Answered None) a = absurd a
  same_state known (Answered (Some g)) Lost a = absurd a
  same_state known Lost Open a = absurd a
  same_state known Lost (Answered h) a = absurd a

  -- ---- held calls

  abbrev pub Waits : List Known → Option Waiting → Option (Pending core_machine.Waiting) → Type 0
  Waits = WaitsBelong core own names

  abbrev pub Calls-alike : List Known → Call (List TypeId) Given → Call (List TypeId) worlds.Given → Type 0
  Calls-alike = CallsBelongTogether core own names

  module _ (known : List Known) where
    -- the calls, and what waits for an open one
    abbrev pub Each : ℕ → Olds → News → Xs → Ys → Type 0
    Each n [] [] xs ys = ⊤
    Each n (c ∷ cs) (d ∷ ds) xs ys = Calls-alike known c d × (is_open_state c.state ≡ true → Waits known (waiting_on n (activation_at xs c.owner)) (waiting_on n (activation_at ys c.owner))) × Each (suc n) cs ds xs ys
    Each n _ _ xs ys = ⊥

    pub each_of : (n : ℕ) (cs : Olds) (ds : News) (xs : Xs) (ys : Ys) → HeldBelong core own names known (held_calls n cs xs) (held_calls n ds ys) → Each n cs ds xs ys
    each_of n [] [] xs ys h = tt
    each_of n [] (d ∷ ds) xs ys h = absurd h
    each_of n (c ∷ cs) [] xs ys h = absurd h
    each_of n (c ∷ cs) (d ∷ ds) xs ys h = (h.0.0, (λ o. by (is_open_state c.state) (is_open_state d.state) o (open_same known c.state d.state h.0.0.state) d.owner h.0.0.owner (h.0.1)), each_of (suc n) cs ds xs ys (h.1))
      where
        by : (b b' : Bool) → b ≡ true → b' ≡ b → (owner : ℕ) → owner ≡ c.owner → Waits known (cond b (waiting_on n (activation_at xs c.owner)) None) (cond b' (waiting_on n (activation_at ys owner)) None) → Waits known (waiting_on n (activation_at xs c.owner)) (waiting_on n (activation_at ys c.owner))
        by true true o e owner i w = subst (λ k. Waits known (waiting_on n (activation_at xs c.owner)) (waiting_on n (activation_at ys k))) i w
        by true false o e owner i w = absurd (let z : false ≡ true = e in cc)
        by false b' o e owner i w = absurd (let z : false ≡ true = o in cc)

    pub held_of : (n : ℕ) (cs : Olds) (ds : News) (xs : Xs) (ys : Ys) → Each n cs ds xs ys → HeldBelong core own names known (held_calls n cs xs) (held_calls n ds ys)
    held_of n [] [] xs ys h = tt
    held_of n [] (d ∷ ds) xs ys h = absurd h
    held_of n (c ∷ cs) [] xs ys h = absurd h
    held_of n (c ∷ cs) (d ∷ ds) xs ys h = ((h.0, by (is_open_state c.state) (is_open_state d.state) (open_same known c.state d.state h.0.state) d.owner h.0.owner (h.1)), held_of (suc n) cs ds xs ys (h.2))
      where
        by : (b b' : Bool) → b' ≡ b → (owner : ℕ) → owner ≡ c.owner → (b ≡ true → Waits known (waiting_on n (activation_at xs c.owner)) (waiting_on n (activation_at ys c.owner))) → Waits known (cond b (waiting_on n (activation_at xs c.owner)) None) (cond b' (waiting_on n (activation_at ys owner)) None)
        by true true e owner i w = subst (λ k. Waits known (waiting_on n (activation_at xs c.owner)) (waiting_on n (activation_at ys k))) (sym i) (w refl)
        by true false e owner i w = absurd (let z : false ≡ true = e in cc)
        by false true e owner i w = absurd (let z : true ≡ false = e in cc)
        by false false e owner i w = tt

    -- as many, and as many that are open
    pub as_many : (n : ℕ) (cs : Olds) (ds : News) (xs : Xs) (ys : Ys) → Each n cs ds xs ys → (length ds ≡ length cs) × (count_open ds ≡ count_open cs)
    as_many n [] [] xs ys h = (refl, refl)
    as_many n [] (d ∷ ds) xs ys h = absurd h
    as_many n (c ∷ cs) [] xs ys h = absurd h
    as_many n (c ∷ cs) (d ∷ ds) xs ys h =
        let r = as_many (suc n) cs ds xs ys (h.2) in
        (ap suc (r.0), ap₂ (λ b m. if b then suc m else m) (open_same known c.state d.state h.0.state) (r.1))

    -- each stands so in both
    pub states_same : (n number : ℕ) (cs : Olds) (ds : News) (xs : Xs) (ys : Ys) → Each n cs ds xs ys → SameState (state_of (call_from n cs number)) (state_of (call_from n ds number))
    states_same n number [] [] xs ys h = tt
    states_same n number [] (d ∷ ds) xs ys h = absurd h
    states_same n number (c ∷ cs) [] xs ys h = absurd h
    states_same n number (c ∷ cs) (d ∷ ds) xs ys h = by (nat_eq n number) (states_same (suc n) number cs ds xs ys (h.2))
      where
        by : (b : Bool) → SameState (state_of (call_from (suc n) cs number)) (state_of (call_from (suc n) ds number)) → SameState (state_of (if b then Some c else call_from (suc n) cs number)) (state_of (if b then Some d else call_from (suc n) ds number))
        by true r = same_state known c.state d.state h.0.state
        by false r = r

    -- what a future was filled with
    abbrev pub MaybeGiven : Option Given → Option worlds.Given → Type 0
    MaybeGiven None None = Unit {0}
    MaybeGiven (Some v) (Some w) = GivenBelongs known v w
    MaybeGiven _ _ = ⊥

    filled_same : (s : State Given) (t : State worlds.Given) → StatesBelong core own names known s t → MaybeGiven (value_in_state (Some s)) (value_in_state (Some t))
    filled_same Open Open a = tt
    filled_same (Answered None) (Answered None) a = tt
    filled_same (Answered (Some g)) (Answered (Some h)) a = a
    filled_same Lost Lost a = tt
    filled_same Open (Answered h) a = absurd a
    filled_same Open Lost a = absurd a
    filled_same (Answered None) Open a = absurd a
    filled_same (Answered None) (Answered (Some h)) a = absurd a
    filled_same (Answered None) Lost a = absurd a
    filled_same (Answered (Some g)) Open a = absurd a
    filled_same (Answered (Some g)) (Answered None) a = absurd a
    filled_same (Answered (Some g)) Lost a = absurd a
    filled_same Lost Open a = absurd a
    filled_same Lost (Answered h) a = absurd a

    pub values_same : (n number : ℕ) (cs : Olds) (ds : News) (xs : Xs) (ys : Ys) → Each n cs ds xs ys → MaybeGiven (value_in_state (state_of (call_from n cs number))) (value_in_state (state_of (call_from n ds number)))
    values_same n number [] [] xs ys h = tt
    values_same n number [] (d ∷ ds) xs ys h = absurd h
    values_same n number (c ∷ cs) [] xs ys h = absurd h
    values_same n number (c ∷ cs) (d ∷ ds) xs ys h = by (nat_eq n number) (values_same (suc n) number cs ds xs ys (h.2))
      where
        by : (b : Bool) → MaybeGiven (value_in_state (state_of (call_from (suc n) cs number))) (value_in_state (state_of (call_from (suc n) ds number)))
            → MaybeGiven (value_in_state (state_of (if b then Some c else call_from (suc n) cs number))) (value_in_state (state_of (if b then Some d else call_from (suc n) ds number)))
        by true r = filled_same c.state d.state h.0.state
        by false r = r

    -- of the call of a number
    pub each_at : (n number : ℕ) (cs : Olds) (ds : News) (c : Call (List TypeId) Given) (d : Call (List TypeId) worlds.Given) (xs : Xs) (ys : Ys) → Each n cs ds xs ys → call_from n cs number ≡ Some c → call_from n ds number ≡ Some d
        → Calls-alike known c d × (is_open_state c.state ≡ true → Waits known (waiting_on number (activation_at xs c.owner)) (waiting_on number (activation_at ys c.owner)))
    each_at n number [] [] c d xs ys h e i = absurd (let z : None ≡ Some c = e in cc)
    each_at n number [] (v ∷ ds) c d xs ys h e i = absurd h
    each_at n number (u ∷ cs) [] c d xs ys h e i = absurd h
    each_at n number (u ∷ cs) (v ∷ ds) c d xs ys h e i = by (nat_eq n number) refl e i (each_at (suc n) number cs ds c d xs ys (h.2))
      where
        At-number : ℕ → Call (List TypeId) Given → Call (List TypeId) worlds.Given → Type 0
        At-number m c d = Calls-alike known c d × (is_open_state c.state ≡ true → Waits known (waiting_on m (activation_at xs c.owner)) (waiting_on m (activation_at ys c.owner)))

        by : (b : Bool) → nat_eq n number ≡ b → (if b then Some u else call_from (suc n) cs number) ≡ Some c → (if b then Some v else call_from (suc n) ds number) ≡ Some d
            → (call_from (suc n) cs number ≡ Some c → call_from (suc n) ds number ≡ Some d → At-number number c d) → At-number number c d
        by true same k j f =
            let a : u ≡ c = cc in let b : v ≡ d = cc in
            subst (λ m. At-number m c d) (eqb-true n number same) (subst (λ x. At-number n x d) a (subst (λ y. At-number n u y) b (h.0, h.1)))
        by false same k j f = f k j

    -- a call that gets another state than an open one
    pub each_set : (n number : ℕ) (s : State Given) (t : State worlds.Given) (cs : Olds) (ds : News) (xs : Xs) (ys : Ys) → is_open_state s ≡ false → StatesBelong core own names known s t → Each n cs ds xs ys → Each n (set_from n cs number s) (set_from n ds number t) xs ys
    each_set n number s t [] [] xs ys o a h = tt
    each_set n number s t [] (d ∷ ds) xs ys o a h = absurd h
    each_set n number s t (c ∷ cs) [] xs ys o a h = absurd h
    each_set n number s t (c ∷ cs) (d ∷ ds) xs ys o a h = by (nat_eq n number) (each_set (suc n) number s t cs ds xs ys o a (h.2))
      where
        by : (b : Bool) → Each (suc n) (set_from (suc n) cs number s) (set_from (suc n) ds number t) xs ys
            → Each n (if b then record c { state = s } ∷ cs else c ∷ set_from (suc n) cs number s) (if b then record d { state = t } ∷ ds else d ∷ set_from (suc n) ds number t) xs ys
        by true r = (record { owner = h.0.owner; results = h.0.results; resumes = h.0.resumes; state = a }, (λ i. absurd (let z : false ≡ true = sym o ∙ i in let w : false ≡ true = z in cc)), h.2)
        by false r = (h.0, h.1, r)

    -- with one more incoming call
    pub each_arrived : (n : ℕ) (cs : Olds) (ds : News) (xs : Xs) (ys : Ys) → Each n cs ds xs ys → Each n cs ds (xs ++ IsDead ∷ []) (ys ++ IsDead ∷ [])
    each_arrived n [] [] xs ys h = tt
    each_arrived n [] (d ∷ ds) xs ys h = absurd h
    each_arrived n (c ∷ cs) [] xs ys h = absurd h
    each_arrived n (c ∷ cs) (d ∷ ds) xs ys h =
        (h.0, (λ o. subst (λ w. Waits known w (waiting_on n (activation_at (ys ++ IsDead ∷ []) c.owner))) (sym (dead_waits xs c.owner n)) (subst (λ w. Waits known (waiting_on n (activation_at xs c.owner)) w) (sym (dead_waits ys c.owner n)) (h.1 o))), each_arrived (suc n) cs ds xs ys (h.2))

    -- another activation of one owner; what is said of it, is said of each number
    abbrev pub Ready : Activation machine → Activation L → Type 0
    Ready x y = (number : ℕ) → Waits known (waiting_on number x) (waiting_on number y)

    itself_waits : (xs : Xs) (ys : Ys) (owner : ℕ) (x : Activation machine) (y : Activation L) (number : ℕ) → length ys ≡ length xs → Ready x y
        → Waits known (waiting_on number (activation_at (slice_set xs owner x) owner)) (waiting_on number (activation_at (slice_set ys owner y) owner))
    itself_waits [] [] owner x y number e r = tt
    itself_waits (u ∷ xs) (v ∷ ys) zero x y number e r = r number
    itself_waits (u ∷ xs) (v ∷ ys) (suc owner) x y number e r = itself_waits xs ys owner x y number (omega (arith, e)) r
    itself_waits [] (v ∷ ys) owner x y number e r = absurd (omega (arith, e))
    itself_waits (u ∷ xs) [] owner x y number e r = absurd (omega (arith, e))

    set_waits : (xs : Xs) (ys : Ys) (owner k : ℕ) (x : Activation machine) (y : Activation L) (number : ℕ) → length ys ≡ length xs → Ready x y
        → Waits known (waiting_on number (activation_at xs k)) (waiting_on number (activation_at ys k))
        → Waits known (waiting_on number (activation_at (slice_set xs owner x) k)) (waiting_on number (activation_at (slice_set ys owner y) k))
    set_waits xs ys owner k x y number e r h = by (nat_eq owner k) refl
      where
        other : nat_eq owner k ≡ false → owner ≡ k → ⊥
        other i j = let z : true ≡ false = sym (eq-eqb owner k j) ∙ i in let w : true ≡ false = z in cc

        by : (b : Bool) → nat_eq owner k ≡ b → Waits known (waiting_on number (activation_at (slice_set xs owner x) k)) (waiting_on number (activation_at (slice_set ys owner y) k))
        by false i =
            subst (λ u. Waits known (waiting_on number u) (waiting_on number (activation_at (slice_set ys owner y) k))) (sym (at_set xs owner k x (other i)))
            (subst (λ v. Waits known (waiting_on number (activation_at xs k)) (waiting_on number v)) (sym (at_set ys owner k y (other i))) h)
        by true i = subst (λ k. Waits known (waiting_on number (activation_at (slice_set xs owner x) k)) (waiting_on number (activation_at (slice_set ys owner y) k))) (eqb-true owner k i) (itself_waits xs ys owner x y number e r)

    pub each_owner : (n : ℕ) (cs : Olds) (ds : News) (xs : Xs) (ys : Ys) (owner : ℕ) (x : Activation machine) (y : Activation L) → length ys ≡ length xs → Ready x y → Each n cs ds xs ys → Each n cs ds (slice_set xs owner x) (slice_set ys owner y)
    each_owner n [] [] xs ys owner x y e r h = tt
    each_owner n [] (d ∷ ds) xs ys owner x y e r h = absurd h
    each_owner n (c ∷ cs) [] xs ys owner x y e r h = absurd h
    each_owner n (c ∷ cs) (d ∷ ds) xs ys owner x y e r h = (h.0, (λ o. set_waits xs ys owner c.owner x y n e r (h.1 o)), each_owner (suc n) cs ds xs ys owner x y e r (h.2))

    each_new : (n : ℕ) (calls : List (OutgoingCall machine)) (news : List (OutgoingCall L)) (xs : Xs) (ys : Ys) (owner : ℕ) (x : Activation machine) (y : Activation L) → length ys ≡ length xs → Ready x y → CallsBelong core names (globals core own names) calls news
        → Each n (map (open_call owner) calls) (map (open_call owner) news) (slice_set xs owner x) (slice_set ys owner y)
    each_new n [] [] xs ys owner x y e r a = tt
    each_new n [] (d ∷ news) xs ys owner x y e r a = absurd a
    each_new n (c ∷ calls) [] xs ys owner x y e r a = absurd a
    each_new n (c ∷ calls) (d ∷ news) xs ys owner x y e r a =
        (record { owner = refl; results = a.0.3; resumes = a.0.4; state = tt }, (λ o. itself_waits xs ys owner x y n e r), each_new (suc n) calls news xs ys owner x y e r (a.1))

    each_append : (n : ℕ) (cs es : Olds) (ds gs : News) (xs : Xs) (ys : Ys) → Each n cs ds xs ys → ((m : ℕ) → Each m es gs xs ys) → Each n (cs ++ es) (ds ++ gs) xs ys
    each_append n [] es [] gs xs ys h f = f n
    each_append n [] es (d ∷ ds) gs xs ys h f = absurd h
    each_append n (c ∷ cs) es [] gs xs ys h f = absurd h
    each_append n (c ∷ cs) es (d ∷ ds) gs xs ys h f = (h.0, h.1, each_append (suc n) cs es ds gs xs ys (h.2) f)

    -- an activation that stays
    each_same : (n : ℕ) (cs : Olds) (ds : News) (xs : Xs) (ys : Ys) (owner : ℕ) → Each n cs ds xs ys → Each n cs ds (slice_set xs owner (activation_at xs owner)) (slice_set ys owner (activation_at ys owner))
    each_same n [] [] xs ys owner h = tt
    each_same n [] (d ∷ ds) xs ys owner h = absurd h
    each_same n (c ∷ cs) [] xs ys owner h = absurd h
    each_same n (c ∷ cs) (d ∷ ds) xs ys owner h = (
      h.0,
      (λ o. subst (λ u. Waits known (waiting_on n u) (waiting_on n (activation_at (slice_set ys owner (activation_at ys owner)) c.owner))) (sym (at_same xs owner c.owner))
          (subst (λ v. Waits known (waiting_on n (activation_at xs c.owner)) (waiting_on n v)) (sym (at_same ys owner c.owner)) (h.1 o))),
      each_same (suc n) cs ds xs ys owner (h.2),
    )

    -- what an execution leaves: its calls, and the activation of its owner
    module _ (owner : ℕ) (calls : List (OutgoingCall machine)) (news : List (OutgoingCall L)) (same : CallsBelong core names (globals core own names) calls news) where
      abbrev Left : ℕ → Olds → News → Xs → Ys → Ending machine → Ending L → Type 0
      Left n cs ds xs ys ending e =
          Each n (cs ++ map (open_call owner) calls) (ds ++ map (open_call owner) news) (slice_set xs owner (activation_after ending (activation_at xs owner))) (slice_set ys owner (activation_after e (activation_at ys owner)))

      changed : (n : ℕ) (cs : Olds) (ds : News) (xs : Xs) (ys : Ys) (x : Activation machine) (y : Activation L) → length ys ≡ length xs → Ready x y → Each n cs ds xs ys
          → Each n (cs ++ map (open_call owner) calls) (ds ++ map (open_call owner) news) (slice_set xs owner x) (slice_set ys owner y)
      changed n cs ds xs ys x y e r h =
          each_append n cs (map (open_call owner) calls) ds (map (open_call owner) news) (slice_set xs owner x) (slice_set ys owner y) (each_owner n cs ds xs ys owner x y e r h) (λ m. each_new m calls news xs ys owner x y e r same)

      no_news : (cs : List (OutgoingCall machine)) (ds : List (OutgoingCall L)) → cs ≡ [] → CallsBelong core names (globals core own names) cs ds → ds ≡ []
      no_news [] [] e a = refl
      no_news [] (d ∷ ds) e a = absurd a
      no_news (c ∷ cs) ds e a = absurd (let z : c ∷ cs ≡ [] = e in cc)

      pub each_left : (n : ℕ) (cs : Olds) (ds : News) (xs : Xs) (ys : Ys) (ending : Ending machine) (e : Ending L) → length ys ≡ length xs → EndingsBelong core names (globals core own names) known ending e → (ending ≡ Unchanged → calls ≡ [])
          → Each n cs ds xs ys → Left n cs ds xs ys ending e
      each_left n cs ds xs ys (Answers answer) (Answers other) l a z h = changed n cs ds xs ys IsAnswered IsAnswered l (λ m. tt) h
      each_left n cs ds xs ys (Awaits number w) (Awaits other p) l a z h =
          subst (λ k. Left n cs ds xs ys (Awaits number w) (Awaits k p)) (sym (a.0)) (changed n cs ds xs ys (WaitsFor number w) (WaitsFor number p) l (λ m. by (nat_eq number m)) h)
        where
          by : (b : Bool) → Waits known (cond b (Some w) None) (cond b (Some p) None)
          by true = a.1
          by false = tt
      each_left n cs ds xs ys AwaitsNothing AwaitsNothing l a z h = changed n cs ds xs ys WaitsForNothing WaitsForNothing l (λ m. tt) h
      each_left n cs ds xs ys Unchanged Unchanged l a z h =
          subst (λ (cals : List (OutgoingCall machine)). Each n (cs ++ map (open_call owner) cals) (ds ++ map (open_call owner) news) (slice_set xs owner (activation_at xs owner)) (slice_set ys owner (activation_at ys owner))) (sym (z refl))
          (subst (λ (cals : List (OutgoingCall L)). Each n (cs ++ []) (ds ++ map (open_call owner) cals) (slice_set xs owner (activation_at xs owner)) (slice_set ys owner (activation_at ys owner))) (sym (no_news calls news (z refl) same))
          (each_append n cs [] ds [] (slice_set xs owner (activation_at xs owner)) (slice_set ys owner (activation_at ys owner)) (each_same n cs ds xs ys owner h) (λ m. tt)))
      each_left n cs ds xs ys (Answers x) (Awaits j y) l a z h = absurd a
      each_left n cs ds xs ys (Answers x) AwaitsNothing l a z h = absurd a
      each_left n cs ds xs ys (Answers x) Unchanged l a z h = absurd a
      each_left n cs ds xs ys (Awaits i x) (Answers y) l a z h = absurd a
      each_left n cs ds xs ys (Awaits i x) AwaitsNothing l a z h = absurd a
      each_left n cs ds xs ys (Awaits i x) Unchanged l a z h = absurd a
      each_left n cs ds xs ys AwaitsNothing (Answers y) l a z h = absurd a
      each_left n cs ds xs ys AwaitsNothing (Awaits j y) l a z h = absurd a
      each_left n cs ds xs ys AwaitsNothing Unchanged l a z h = absurd a
      each_left n cs ds xs ys Unchanged (Answers y) l a z h = absurd a
      each_left n cs ds xs ys Unchanged (Awaits j y) l a z h = absurd a
      each_left n cs ds xs ys Unchanged AwaitsNothing l a z h = absurd a

  -- where further groups are made
  pub each_grows : (known more : List Known) (n : ℕ) (cs : Olds) (ds : News) (xs : Xs) (ys : Ys) → Each known n cs ds xs ys → Each (known ++ more) n cs ds xs ys
  each_grows known more n [] [] xs ys h = tt
  each_grows known more n [] (d ∷ ds) xs ys h = absurd h
  each_grows known more n (c ∷ cs) [] xs ys h = absurd h
  each_grows known more n (c ∷ cs) (d ∷ ds) xs ys h = (
    record { owner = h.0.owner; results = h.0.results; resumes = h.0.resumes; state = state_stays known more c.state d.state h.0.state },
    (λ o. waits_stay known more (waiting_on n (activation_at xs c.owner)) (waiting_on n (activation_at ys c.owner)) (h.1 o)),
    each_grows known more (suc n) cs ds xs ys (h.2),
  )

  -- ---- what is seen of what an execution leaves

  pub calls_alike : (calls : List (OutgoingCall machine)) (news : List (OutgoingCall L)) → CallsBelong core names (globals core own names) calls news → AlikeCalls {S = machine} {T = L} calls news
  calls_alike [] [] a = tt
  calls_alike [] (d ∷ ds) a = absurd a
  calls_alike (c ∷ cs) [] a = absurd a
  calls_alike (c ∷ cs) (d ∷ ds) a = (sym (a.0.0), sym (a.0.1), sym (a.0.2), calls_alike cs ds (a.1))

  pub endings_alike : (known : List Known) (ending : Ending machine) (e : Ending L) → EndingsBelong core names (globals core own names) known ending e → AlikeEndings {S = machine} {T = L} ending e
  endings_alike known (Answers x) (Answers y) a = sym a
  endings_alike known (Answers x) (Awaits j y) a = absurd a
  endings_alike known (Answers x) AwaitsNothing a = absurd a
  endings_alike known (Answers x) Unchanged a = absurd a
  endings_alike known (Awaits i x) (Answers y) a = absurd a
  endings_alike known (Awaits i x) (Awaits j y) a = tt
  endings_alike known (Awaits i x) AwaitsNothing a = absurd a
  endings_alike known (Awaits i x) Unchanged a = absurd a
  endings_alike known AwaitsNothing (Answers y) a = absurd a
  endings_alike known AwaitsNothing (Awaits j y) a = absurd a
  endings_alike known AwaitsNothing AwaitsNothing a = tt
  endings_alike known AwaitsNothing Unchanged a = absurd a
  endings_alike known Unchanged (Answers y) a = absurd a
  endings_alike known Unchanged (Awaits j y) a = absurd a
  endings_alike known Unchanged AwaitsNothing a = absurd a
  endings_alike known Unchanged Unchanged a = tt
