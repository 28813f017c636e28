-- The declarations of an actor and the same with a tuple of all their names at the end do the same until the end.
use Rattle.std.proofs.Common.{◌≡◌, ◌⊎◌, inl, inr, Bool, true, false, ℕ, zero, suc, ◌+◌, ◌*◌, ◌≤◌, List, [], ◌∷◌, ◌++◌, length, Option, Some, None, refl, sym, ap, ap₂, ◌∙◌, subst, arith}
use Rattle.std.specs.Prelude.{max}
use Rattle.mo_types.specs.declared.datum.Datum.TheVariants as part
use Rattle.mo_types.specs.Graph.{head_at}
use Rattle.mo_values.specs.declared.operation.Operation.TheVariants as op
use Rattle.mo_values.specs.Costs.{weighing}
use Rattle.mo_values.specs.Shapes.{Bytes, Shape}
use Rattle.typed_tree.specs.declared.action.Action.TheVariants as action
use Rattle.typed_tree.specs.Patterns.{Pat, Constant, Present?, Bind, matches}
use Rattle.typed_tree.specs.Language.{Exp, Cases, Functions, NoFunction, AFunction, Name, Do, Switch, Group, NoExp, AnExp, NoCase, ACase, then}
use Rattle.typed_tree.specs.Substitution.{count, group_nodes}
use Rattle.mo_meaning.specs.Configurations.{Surroundings}
use Rattle.mo_meaning.specs.Kernel.{Outgoing}
use Rattle.mo_meaning.specs.Matching.{pattern_failed}
use Rattle.mo_meaning.specs.Depth.{live, live_all}
use Rattle.mo_machine.specs.Values.{Value, Code, Closure, shape_of, values_list}
use Rattle.mo_machine.specs.Acts.{Store, Act, Goes}
use Rattle.mo_machine.specs.Environments.{Environment, extended, closures, with_group}
use Rattle.mo_machine.specs.Configurations.{Configuration, Run, Still, Ended, End, live_in, live_on, live_at, live_state}
use Rattle.mo_machine.specs.Configurations as configuration
use Rattle.mo_machine.specs.Frames as machine
use Rattle.mo_machine.specs.Frames.{Switching, Returning, Joining, Stack, Focus, Eval, Ready, Give}
use Rattle.mo_machine.specs.Jumps.{leave, on_stack}
use Rattle.mo_machine.specs.Matching.{on_match, trying, fails_to_match}
use Rattle.mo_machine.specs.Moves.{Move}
use Rattle.mo_machine.specs.Reductions.{reduces}
use Rattle.mo_machine.specs.Turns.{turn, after, step, steps, then_steps}
use Rattle.elaboration_steps.specs.Stacks.{owed}
use Rattle.elaboration_starts.specs.Declarations as declarations
use Rattle.elaboration_starts.specs.Declarations.{bound_in, names_from, finish, Declares, Opens, Groups, Ends}
use Rattle.elaboration_starts.specs.Staying.{Inward, StaysAt}
use Rattle.elaboration_starts.proofs.Closing.{IsPlain}
use Rattle.elaboration_starts.proofs.Counts.{as_many_as_bound, bound_weighs}
use Rattle.elaboration_starts.proofs.Twins.{TwinMove, TwinAct, BothMove, BothReduce, BothGo, BothPrint, BothTrap, BothStuck, Outward, move_twins, reduce_twins}

-- ---- the bottom of a stack

-- the look for a hook behind an upgrade
abbrev pub look_cases : Cases
look_cases = ACase (Constant part.Null) (Name 0) (ACase (Present? Bind) (then (Do action.Call (AnExp (Name 0) NoExp)) (Name 1)) NoCase)

abbrev pub look_for_hook : Exp
look_for_hook = Switch (Do (action.Operate (op.Project 2)) (AnExp (Name 0) NoExp)) look_cases

-- of an upgrade, or not
pub data Bases : Bool → Stack → Stack → Type 0 where
  Alone : (n : ℕ) → Bases false (Returning n ∷ []) (Returning n ∷ [])
  Hooked : (n : ℕ) (env : Environment) → Bases true (Switching (ACase Bind look_for_hook NoCase) env ∷ Returning n ∷ []) (Returning n ∷ [])
  Joined : {t : Bool} → (k l : Stack) → Bases t k l → Bases t (Joining ∷ k) (Joining ∷ l)

-- the second of them is as those without an upgrade are
pub bottom : {t : Bool} → (k l : Stack) → Bases t k l → Bases false l l
bottom k l (Alone n) = Alone n
bottom k l (Hooked n env) = Alone n
bottom k l (Joined k' l' b) = Joined l' l' (bottom k' l' b)

pub base_out : {t : Bool} → (k l : Stack) → Bases t k l → Inward k → ⊥
base_out k l (Alone n) h = h
base_out k l (Hooked n env) h = h
base_out k l (Joined k' l' b) h = base_out k' l' b h

pub base_live : {t : Bool} → (k l : Stack) → Bases t k l → live_on k ≡ live_on l
base_live k l (Alone n) = refl
base_live k l (Hooked n env) = omega arith
base_live k l (Joined k' l' b) = let z : live_on k' ≡ live_on l' = base_live k' l' b in omega (arith, z)

above_live : (s k l : Stack) → live_on k ≡ live_on l → live_on (s ++ k) ≡ live_on (s ++ l)
above_live [] k l e = e
above_live (f ∷ s) k l e = ap (λ n. live_in f + n) (above_live s k l e)

pub base_owed : {t : Bool} → (k l : Stack) → Bases t k l → owed k ≡ owed l
base_owed k l (Alone n) = refl
base_owed k l (Hooked n env) = refl
base_owed k l (Joined k' l' b) = base_owed k' l' b

pub above_owed : (s k l : Stack) → owed k ≡ owed l → owed (s ++ k) ≡ owed (s ++ l)
above_owed [] k l e = e
above_owed (machine.Labelled ∷ s) k l e = ap (λ n. suc n) (above_owed s k l e)
above_owed (machine.Trying p b env ∷ s) k l e = ap (λ n. suc n) (above_owed s k l e)
above_owed (_ ∷ s) k l e = above_owed s k l e

abbrev pub conf : ℕ → ℕ → List Bytes → List Outgoing → Store → Focus → Stack → Configuration
conf w d prints calls store f k = record { weight = w; depth = d; prints = prints; calls = calls; store = store; focus = f; stack = k }

-- names that were declared, before those around the declarations
pub record Under (outer : Environment) (m : ℕ) (env : Environment) : Type 0 where
  pub values : List Value
  pub many : length values ≡ m
  pub is : env ≡ extended values outer

extended_and : (us vs : List Value) (env : Environment) → extended us (extended vs env) ≡ extended (us ++ vs) env
extended_and [] vs env = refl
extended_and (u ∷ us) vs env = ap (λ e. extended (u ∷ []) e) (extended_and us vs env)

length_and : {A : Type 0} (xs ys : List A) → length (xs ++ ys) ≡ length xs + length ys
length_and [] ys = omega arith
length_and (x ∷ xs) ys = let z : length (xs ++ ys) ≡ length xs + length ys = length_and xs ys in omega (arith, z)

pub under_more : (outer : Environment) (m n : ℕ) (env : Environment) (us : List Value) → length us ≡ n → Under outer m env → Under outer (n + m) (extended us env)
under_more outer m n env us e u = record {
  values = us ++ u.values;
  many = length_and us u.values ∙ ap₂ (λ x y. x + y) e u.many;
  is = ap (extended us) u.is ∙ extended_and us u.values outer;
}

values_many : (us : List (Shape Code)) → length (values_list us) ≡ length us
values_many [] = refl
values_many (u ∷ us) = ap (λ n. suc n) (values_many us)

-- the functions of a group
abbrev pub closure_list : Functions → Environment → Functions → ℕ → List Value
closure_list group env NoFunction n = []
closure_list group env (AFunction how nodes ps body fns) n = Closure group n env ∷ closure_list group env fns (suc n)

closures_are : (group : Functions) (env : Environment) (fns : Functions) (n : ℕ) (others : Environment) → closures env group fns n others ≡ extended (closure_list group env fns n) others
closures_are group env NoFunction n others = refl
closures_are group env (AFunction how nodes ps body fns) n others = ap (λ e. extended (Closure group n env ∷ []) e) (closures_are group env fns (suc n) others)

closures_many : (group : Functions) (env : Environment) (fns : Functions) (n : ℕ) → length (closure_list group env fns n) ≡ count fns
closures_many group env NoFunction n = refl
closures_many group env (AFunction how nodes ps body fns) n = ap (λ n. suc n) (closures_many group env fns (suc n))

pub under_group : (outer : Environment) (m : ℕ) (env : Environment) (fns : Functions) → Under outer m env → Under outer (count fns + m) (with_group fns env)
under_group outer m env fns u =
    subst (λ e. Under outer (count fns + m) e) (sym (closures_are fns env fns 0 env)) (under_more outer m (count fns) env (closure_list fns env fns 0) (closures_many fns env fns 0) u)

-- names are no bodies
pub live_names : (i n : ℕ) → live_all (names_from i n) ≡ 0
live_names i zero = refl
live_names i (suc n) = let z : live_all (names_from (suc i) n) ≡ 0 = live_names (suc i) n in omega (arith, z)

-- an end without a value
abbrev pub Halts : End → Type 0
Halts (configuration.Traps text) = Unit {0}
Halts configuration.Breaks = Unit {0}
Halts _ = ⊥

-- ---- both executions

module _ (s : Surroundings) (outer : Environment) (methods : ℕ) (last : Functions) (before behind : Option ℕ) (labels : List Bytes) (cells : List ℕ) (total : ℕ) (upgraded : Bool) (extra floor : ℕ) where
  abbrev D : ℕ → Exp → Exp → Type 0
  D = Declares methods last before behind labels cells total upgraded

  abbrev the_parts : Exp
  the_parts = declarations.parts methods last before behind labels cells

  -- a declaration is evaluated, or the next one begins
  pub data Lies (w : ℕ) : Focus → Stack → Focus → Stack → Type 0 where
    Within : (m : ℕ) (p : Pat) (b c : Exp) (env : Environment) (f : Focus) (s k l : Stack) → Bases upgraded k l → D (bound_in p + m) b c → Under outer m env → total + m ≤ w
        → Lies w f (s ++ (Switching (ACase p b NoCase) env ∷ k)) f (s ++ (Switching (ACase p c NoCase) env ∷ l))
    Between : (m : ℕ) (b c : Exp) (env : Environment) (k l : Stack) → Bases upgraded k l → D m b c → Under outer m env → total + m ≤ w → Lies w (Eval b env) k (Eval c env) l

  -- the first pays so much more
  pub data Pair : Run → Run → Type 0 where
    Both : (x w d d' : ℕ) (prints : List Bytes) (calls : List Outgoing) (store : Store) (f : Focus) (k : Stack) (g : Focus) (l : Stack) → x ≡ extra + w → max floor d' ≤ d → live_state f k ≡ live_state g l → Lies w f k g l → Pair (Still (conf x d prints calls store f k)) (Still (conf w d' prints calls store g l))
    Over : (x w d d' : ℕ) (prints : List Bytes) (calls : List Outgoing) (store : Store) (f : Focus) (k : Stack) (g : Focus) (l : Stack) (end : End) → Halts end → x ≡ extra + w → max floor d' ≤ d → owed k ≡ owed l → Pair (Ended (conf x d prints calls store f k) end) (Ended (conf w d' prints calls store g l) end)

  -- the last group begins in one, and the tuple in the other
  pub data Past : Run → Run → Type 0 where
    AtEnd : (x w d d' : ℕ) (prints : List Bytes) (calls : List Outgoing) (store : Store) (env : Environment) (k l : Stack) → x ≡ extra + w → max floor d' ≤ d → total + total ≤ w → Bases upgraded k l → Under outer total env
        → Past (Still (conf x d prints calls store (Eval (Group last the_parts) env) k)) (Still (conf w d' prints calls store (Eval (finish last upgraded behind total) env) l))

  live_finish : (o : Option ℕ) (n : ℕ) → live (finish last upgraded o n) ≡ 0
  live_finish None n = live_names 0 n
  live_finish (Some h) n = refl

  pub live_both : (n : ℕ) (b c : Exp) → D n b c → live b ≡ live c
  live_both n b c (Opens k p e b' c' d) = refl
  live_both n b c (Groups k fns b' c' few d) = refl
  live_both n b c (Ends k is) = sym (live_finish behind k)

  -- ---- a step

  module _ (m : ℕ) (p : Pat) (b c : Exp) (env : Environment) (k l : Stack) (base : Bases upgraded k l) (d : D (bound_in p + m) b c) (u : Under outer m env) where
    abbrev one : Stack
    one = Switching (ACase p b NoCase) env ∷ k

    abbrev two : Stack
    two = Switching (ACase p c NoCase) env ∷ l

    abbrev None-beyond : Act → Act → Type 0
    None-beyond x y = ⊥

    out : (store : Store) (n : ℕ) (v : Value) → Inward one → None-beyond (leave store n v one) (leave store n v two)
    out store n v h = absurd (base_out k l base h)

    same_live : live_on one ≡ live_on two
    same_live = ap (λ n. 0 + n) (base_live k l base)

    lives : (f : Focus) (s0 : Stack) → live_state f (s0 ++ one) ≡ live_state f (s0 ++ two)
    lives f s0 = ap (λ n. live_at f + n) (above_live s0 one two same_live)

    owes : (s0 : Stack) → owed (s0 ++ one) ≡ owed (s0 ++ two)
    owes s0 = above_owed s0 one two (base_owed k l base)

    within : (x w d0 d1 : ℕ) (prints : List Bytes) (calls : List Outgoing) (store : Store) (f : Focus) (s0 : Stack) → x ≡ extra + w → total + m ≤ w → max floor d1 ≤ d0 → Pair (Still (conf x d0 prints calls store f (s0 ++ one))) (Still (conf w d1 prints calls store f (s0 ++ two)))
    within x w d0 d1 prints calls store f s0 pays few le = Both x w d0 d1 prints calls store f (s0 ++ one) f (s0 ++ two) pays le (lives f s0) (Within m p b c env f s0 k l base d u few)

    acts_both : (o w d0 d1 : ℕ) (prints : List Bytes) (calls : List Outgoing) (store : Store) (f : Focus) (s0 : Stack) → o ≡ extra + w → total + m ≤ w → max floor d1 ≤ d0 → (a a' : Act) → TwinAct one two None-beyond out a a'
        → Pair (turn s (conf o d0 prints calls store f (s0 ++ one)) a) (turn s (conf w d1 prints calls store f (s0 ++ two)) a')
    acts_both o w d0 d1 prints calls store f s0 pays few le a a' (BothGo cost later g s1) =
        let x : live_state f (s0 ++ one) ≡ live_state f (s0 ++ two) = lives f s0 in
        let y : live_state g (s1 ++ one) ≡ live_state g (s1 ++ two) = lives g s1 in
        within (o + cost.weight) (w + cost.weight) (max (max d0 (live_state f (s0 ++ one) + 16 * cost.levels)) (live_state g (s1 ++ one))) (max (max d1 (live_state f (s0 ++ two) + 16 * cost.levels)) (live_state g (s1 ++ two))) prints calls later g s1 (omega (arith, pays)) (omega (arith, few)) (omega (arith, x, y, le))
    acts_both o w d0 d1 prints calls store f s0 pays few le a a' (BothPrint cost text g s1) =
        let x : live_state f (s0 ++ one) ≡ live_state f (s0 ++ two) = lives f s0 in
        let y : live_state g (s1 ++ one) ≡ live_state g (s1 ++ two) = lives g s1 in
        within (o + cost.weight) (w + cost.weight) (max (max d0 (live_state f (s0 ++ one) + 16 * cost.levels)) (live_state g (s1 ++ one))) (max (max d1 (live_state f (s0 ++ two) + 16 * cost.levels)) (live_state g (s1 ++ two))) (prints ++ text ∷ []) calls store g s1 (omega (arith, pays)) (omega (arith, few)) (omega (arith, x, y, le))
    acts_both o w d0 d1 prints calls store f s0 pays few le a a' (BothTrap cost text) =
        let x : live_state f (s0 ++ one) ≡ live_state f (s0 ++ two) = lives f s0 in
        Over (o + cost.weight) (w + cost.weight) (max d0 (live_state f (s0 ++ one) + 16 * cost.levels)) (max d1 (live_state f (s0 ++ two) + 16 * cost.levels)) prints calls store f (s0 ++ one) f (s0 ++ two) (configuration.Traps text) tt (omega (arith, pays)) (omega (arith, x, le)) (owes s0)
    acts_both o w d0 d1 prints calls store f s0 pays few le a a' BothStuck = Over o w d0 d1 prints calls store f (s0 ++ one) f (s0 ++ two) configuration.Breaks tt pays le (owes s0)
    acts_both o w d0 d1 prints calls store f s0 pays few le a a' (Outward x y b) = absurd b

    moves_both : (o w d0 d1 : ℕ) (prints : List Bytes) (calls : List Outgoing) (store : Store) (f : Focus) (s0 : Stack) → o ≡ extra + w → total + m ≤ w → max floor d1 ≤ d0 → (x y : Move) → TwinMove one two None-beyond out x y → (a a' : Act) → TwinAct one two None-beyond out a a'
        → Pair (after s (conf o d0 prints calls store f (s0 ++ one)) (turn s (conf o d0 prints calls store f (s0 ++ one)) a) x) (after s (conf w d1 prints calls store f (s0 ++ two)) (turn s (conf w d1 prints calls store f (s0 ++ two)) a') y)
    moves_both o w d0 d1 prints calls store f s0 pays few le x y (BothMove g s1) a a' t = within o w d0 d1 prints calls store g s1 pays few le
    moves_both o w d0 d1 prints calls store f s0 pays few le x y BothReduce a a' t = acts_both o w d0 d1 prints calls store f s0 pays few le a a' t

    -- the value is met by the pattern
    met_both : (o w d0 d1 : ℕ) (prints : List Bytes) (calls : List Outgoing) (store : Store) (v : Value) → o ≡ extra + w → total + m ≤ w → max floor d1 ≤ d0 → (q : Option (List (Shape Code))) → matches p (shape_of v) ≡ q
        → Pair (turn s (conf o d0 prints calls store (Give v) one) (on_stack store (on_match q (λ vs. Goes (weighing (1 + trying p v)) store (Eval b (extended vs env)) (Joining ∷ [])) (fails_to_match (1 + trying p v))) k))
        (turn s (conf w d1 prints calls store (Give v) two) (on_stack store (on_match q (λ vs. Goes (weighing (1 + trying p v)) store (Eval c (extended vs env)) (Joining ∷ [])) (fails_to_match (1 + trying p v))) l))
    met_both o w d0 d1 prints calls store v pays few le None e =
        let x : live_on one ≡ live_on two = same_live in
        Over (o + (1 + trying p v + length pattern_failed)) (w + (1 + trying p v + length pattern_failed)) (max d0 (live_state (Give v) one + 16 * 0)) (max d1 (live_state (Give v) two + 16 * 0)) prints calls store (Give v) one (Give v) two (configuration.Traps pattern_failed) tt (omega (arith, pays)) (omega (arith, x, le)) (owes [])
    met_both o w d0 d1 prints calls store v pays few le (Some us) e =
        let x : live_on one ≡ live_on two = same_live in
        let y : live_on k ≡ live_on l = base_live k l base in
        let z : bound_in p ≤ trying p v = bound_weighs p (shape_of v) in
        let i : live b ≡ live c = live_both (bound_in p + m) b c d in
        Both (o + (1 + trying p v)) (w + (1 + trying p v)) (max (max d0 (live_state (Give v) one + 16 * 0)) (live_state (Eval b (extended (values_list us) env)) (Joining ∷ k))) (max (max d1 (live_state (Give v) two + 16 * 0)) (live_state (Eval c (extended (values_list us) env)) (Joining ∷ l))) prints calls store
        (Eval b (extended (values_list us) env)) (Joining ∷ k) (Eval c (extended (values_list us) env)) (Joining ∷ l) (omega (arith, pays)) (omega (arith, x, y, i, le)) (omega (arith, y, i))
        (Between (bound_in p + m) b c (extended (values_list us) env) (Joining ∷ k) (Joining ∷ l) (Joined k l base) d (under_more outer m (bound_in p) env (values_list us) (values_many us ∙ as_many_as_bound p (shape_of v) us e) u) (omega (arith, few, z)))

    within_step : (o w d0 d1 : ℕ) (prints : List Bytes) (calls : List Outgoing) (store : Store) (f : Focus) (s0 : Stack) → o ≡ extra + w → total + m ≤ w → max floor d1 ≤ d0 → StaysAt (head_at s.types) store f (s0 ++ one)
        → Pair (step s (conf o d0 prints calls store f (s0 ++ one))) (step s (conf w d1 prints calls store f (s0 ++ two)))
    within_step o w d0 d1 prints calls store (Give v) [] pays few le stays = met_both o w d0 d1 prints calls store v pays few le (matches p (shape_of v)) refl
    within_step o w d0 d1 prints calls store (Give v) (fr ∷ s0) pays few le stays =
        moves_both o w d0 d1 prints calls store (Give v) (fr ∷ s0) pays few le _ _ (move_twins one two None-beyond out (Give v) (fr ∷ s0) tt) _ _ (reduce_twins one two None-beyond out (head_at s.types) store (Give v) (fr ∷ s0) tt stays)
    within_step o w d0 d1 prints calls store (Eval e env') s0 pays few le stays =
        moves_both o w d0 d1 prints calls store (Eval e env') s0 pays few le _ _ (move_twins one two None-beyond out (Eval e env') s0 tt) _ _ (reduce_twins one two None-beyond out (head_at s.types) store (Eval e env') s0 tt stays)
    within_step o w d0 d1 prints calls store (Ready a vs) s0 pays few le stays =
        moves_both o w d0 d1 prints calls store (Ready a vs) s0 pays few le _ _ (move_twins one two None-beyond out (Ready a vs) s0 tt) _ _ (reduce_twins one two None-beyond out (head_at s.types) store (Ready a vs) s0 tt stays)

  -- ---- any number of steps

  pub record PastAt (j : ℕ) (c c' : Configuration) : Type 0 where
    pub so_far : ℕ
    pub rest : ℕ
    pub is : j ≡ so_far + rest
    pub past : Past (steps s so_far c) (steps s so_far c')

  abbrev Stays : Configuration → Type 0
  Stays c = (i : ℕ) (c1 : Configuration) → steps s i c ≡ Still c1 → StaysAt (head_at s.types) c1.store c1.focus c1.stack

  abbrev Locked : ℕ → Configuration → Configuration → Type 0
  Locked j c c' = Pair (steps s j c) (steps s j c') ⊎ PastAt j c c'

  abbrev For : ℕ → Type 0
  For j = (x w d d' : ℕ) (prints : List Bytes) (calls : List Outgoing) (store : Store) (f : Focus) (k : Stack) (g : Focus) (l : Stack) → x ≡ extra + w → max floor d' ≤ d → live_state f k ≡ live_state g l → Lies w f k g l → Stays (conf x d prints calls store f k) → Locked j (conf x d prints calls store f k) (conf w d' prints calls store g l)

  further : (j : ℕ) → For j → (c c' : Configuration) → Stays c → (r r' : Run) → step s c ≡ r → step s c' ≡ r' → Pair r r' → Locked (suc j) c c'
  further j go c c' stays r r' e e' (Both o w d0 d1 prints calls store f k g l pays le same lies) =
      by (go o w d0 d1 prints calls store f k g l pays le same lies (λ i c1 q. stays (suc i) c1 (ap (then_steps s (steps s i)) e ∙ q)))
    where
      by : Locked j (conf o d0 prints calls store f k) (conf w d1 prints calls store g l) → Locked (suc j) c c'
      by (inl p) = inl (subst (λ x. Pair (then_steps s (steps s j) x) (then_steps s (steps s j) (step s c'))) (sym e) (subst (λ x. Pair (steps s j (conf o d0 prints calls store f k)) (then_steps s (steps s j) x)) (sym e') p))
      by (inr p) = inr (record {
        so_far = suc p.so_far;
        rest = p.rest;
        is = let z : j ≡ p.so_far + p.rest = p.is in omega (arith, z);
        past = subst (λ x. Past (then_steps s (steps s p.so_far) x) (then_steps s (steps s p.so_far) (step s c'))) (sym e) (subst (λ x. Past (steps s p.so_far (conf o d0 prints calls store f k)) (then_steps s (steps s p.so_far) x)) (sym e') p.past);
      })
  further j go c c' stays r r' e e' (Over o w d0 d1 prints calls store f k g l end halts pays le same) =
      inl (subst (λ x. Pair (then_steps s (steps s j) x) (then_steps s (steps s j) (step s c'))) (sym e)
      (subst (λ x. Pair (Ended (conf o d0 prints calls store f k) end) (then_steps s (steps s j) x)) (sym e') (Over o w d0 d1 prints calls store f k g l end halts pays le same)))

  -- where a declaration begins
  between : (j : ℕ) → For j → (o w d0 d1 : ℕ) (prints : List Bytes) (calls : List Outgoing) (store : Store) (m : ℕ) (b c : Exp) (env : Environment) (k l : Stack) → o ≡ extra + w → max floor d1 ≤ d0 → live_state (Eval b env) k ≡ live_state (Eval c env) l → Bases upgraded k l → D m b c → Under outer m env
      → total + m ≤ w → Stays (conf o d0 prints calls store (Eval b env) k) → Locked (suc j) (conf o d0 prints calls store (Eval b env) k) (conf w d1 prints calls store (Eval c env) l)
  between j go o w d0 d1 prints calls store m b c env k l pays le same base (Opens n p e b' c' d) u few stays =
      let x : live_on k ≡ live_on l = base_live k l base in
      further j go (conf o d0 prints calls store (Eval b env) k) (conf w d1 prints calls store (Eval c env) l) stays _ _ refl refl
      (Both o w d0 d1 prints calls store (Eval e env) (Switching (ACase p b' NoCase) env ∷ k) (Eval e env) (Switching (ACase p c' NoCase) env ∷ l) pays le (omega (arith, x)) (Within m p b' c' env (Eval e env) [] k l base d u few))
  between j go o w d0 d1 prints calls store m b c env k l pays le same base (Groups n fns b' c' some d) u few stays =
      let x : live_on k ≡ live_on l = base_live k l base in
      let y : live b' ≡ live c' = live_both (count fns + m) b' c' d in
      further j go (conf o d0 prints calls store (Eval b env) k) (conf w d1 prints calls store (Eval c env) l) stays _ _ refl refl
      (Both (o + (1 + group_nodes fns)) (w + (1 + group_nodes fns)) (max (max d0 (live_state (Eval b env) k + 16 * 0)) (live_state (Eval b' (with_group fns env)) k)) (max (max d1 (live_state (Eval c env) l + 16 * 0)) (live_state (Eval c' (with_group fns env)) l)) prints calls store
      (Eval b' (with_group fns env)) k (Eval c' (with_group fns env)) l (omega (arith, pays)) (omega (arith, x, y, same, le)) (omega (arith, x, y)) (Between (count fns + m) b' c' (with_group fns env) k l base d (under_group outer m env fns u) (omega (arith, few, some))))
  between j go o w d0 d1 prints calls store m b c env k l pays le same base (Ends n is) u few stays = inr (record {
    so_far = 0;
    rest = suc j;
    is = omega arith;
    past = subst (λ n. Past (Still (conf o d0 prints calls store (Eval (Group last the_parts) env) k)) (Still (conf w d1 prints calls store (Eval (finish last upgraded behind n) env) l))) (sym is)
        (AtEnd o w d0 d1 prints calls store env k l pays le (omega (arith, few, is)) base (subst (λ n. Under outer n env) is u));
  })

  from : (j : ℕ) → For j → For (suc j)
  from j go o w d0 d1 prints calls store f k g l pays le same (Within m p b c env f0 s0 k0 l0 base d u few) stays =
      further j go (conf o d0 prints calls store f k) (conf w d1 prints calls store g l) stays _ _ refl refl (within_step m p b c env k0 l0 base d u o w d0 d1 prints calls store f s0 pays few le (stays 0 (conf o d0 prints calls store f k) refl))
  from j go o w d0 d1 prints calls store f k g l pays le same (Between m b c env k0 l0 base d u few) stays = between j go o w d0 d1 prints calls store m b c env k l pays le same base d u few stays

  pub locked : (j : ℕ) → For j
  locked zero o w d0 d1 prints calls store f k g l pays le same lies stays = inl (Both o w d0 d1 prints calls store f k g l pays le same lies)
  locked (suc j) o w d0 d1 prints calls store f k g l pays le same lies stays = from j (locked j) o w d0 d1 prints calls store f k g l pays le same lies stays

  -- ---- nothing is thrown, called or awaited beside

  met_plain : (store : Store) (n : ℕ) (q : Option (List (Shape Code))) (on : List Value → Act) (k : Stack) → ((vs : List Value) → IsPlain (on_stack store (on vs) k)) → IsPlain (on_stack store (on_match q on (fails_to_match n)) k)
  met_plain store n None on k h = tt
  met_plain store n (Some us) on k h = h _

  twin_plain : (one two : Stack) (Beyond : Act → Act → Type 0) (out : (store : Store) (l : ℕ) (v : Value) → Inward one → Beyond (leave store l v one) (leave store l v two)) (a a' : Act) → ((b b' : Act) → Beyond b b' → ⊥) → TwinAct one two Beyond out a a' → IsPlain a'
  twin_plain one two Beyond out a a' none (BothGo cost store f k) = tt
  twin_plain one two Beyond out a a' none (BothPrint cost text f k) = tt
  twin_plain one two Beyond out a a' none (BothTrap cost text) = tt
  twin_plain one two Beyond out a a' none BothStuck = tt
  twin_plain one two Beyond out a a' none (Outward b b' h) = absurd (none b b' h)

  within_plain : (m : ℕ) (p : Pat) (b c : Exp) (env : Environment) (k l : Stack) (base : Bases upgraded k l) (d : D (bound_in p + m) b c) (u : Under outer m env) (store : Store) (f : Focus) (s0 : Stack) → StaysAt (head_at s.types) store f (s0 ++ (Switching (ACase p b NoCase) env ∷ k))
      → IsPlain (reduces (head_at s.types) None store f (s0 ++ (Switching (ACase p c NoCase) env ∷ l)))
  within_plain m p b c env k l base d u store (Give v) [] stays = met_plain store (1 + trying p v) (matches p (shape_of v)) _ l (λ vs. tt)
  within_plain m p b c env k l base d u store (Give v) (fr ∷ s0) stays =
      twin_plain (one m p b c env k l base d u) (two m p b c env k l base d u) (None-beyond m p b c env k l base d u) (out m p b c env k l base d u) _ _ (λ b b' h. h)
      (reduce_twins (one m p b c env k l base d u) (two m p b c env k l base d u) (None-beyond m p b c env k l base d u) (out m p b c env k l base d u) (head_at s.types) store (Give v) (fr ∷ s0) tt stays)
  within_plain m p b c env k l base d u store (Eval e env') s0 stays =
      twin_plain (one m p b c env k l base d u) (two m p b c env k l base d u) (None-beyond m p b c env k l base d u) (out m p b c env k l base d u) _ _ (λ b b' h. h)
      (reduce_twins (one m p b c env k l base d u) (two m p b c env k l base d u) (None-beyond m p b c env k l base d u) (out m p b c env k l base d u) (head_at s.types) store (Eval e env') s0 tt stays)
  within_plain m p b c env k l base d u store (Ready a vs) s0 stays =
      twin_plain (one m p b c env k l base d u) (two m p b c env k l base d u) (None-beyond m p b c env k l base d u) (out m p b c env k l base d u) _ _ (λ b b' h. h)
      (reduce_twins (one m p b c env k l base d u) (two m p b c env k l base d u) (None-beyond m p b c env k l base d u) (out m p b c env k l base d u) (head_at s.types) store (Ready a vs) s0 tt stays)

  between_plain : (n : ℕ) (b c : Exp) → D n b c → (store : Store) (env : Environment) (l : Stack) → IsPlain (reduces (head_at s.types) None store (Eval c env) l)
  between_plain n b c (Opens k p e b' c' d) store env l = tt
  between_plain n b c (Groups k fns b' c' few d) store env l = tt
  between_plain n b c (Ends k is) store env l = by behind
    where
      by : (o : Option ℕ) → IsPlain (reduces (head_at s.types) None store (Eval (finish last upgraded o n) env) l)
      by None = tt
      by (Some h) = tt

  pub plain_beside : (w : ℕ) (store : Store) (f : Focus) (k : Stack) (g : Focus) (l : Stack) → Lies w f k g l → StaysAt (head_at s.types) store f k → IsPlain (reduces (head_at s.types) None store g l)
  plain_beside w store f k g l (Within m p b c env f0 s0 k0 l0 base d u few) stays = within_plain m p b c env k0 l0 base d u store f0 s0 stays
  plain_beside w store f k g l (Between m b c env k0 l0 base d u few) stays = between_plain m b c d store env l
