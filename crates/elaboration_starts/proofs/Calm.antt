-- Where only operations on names and literals are evaluated, nothing is asked of values; and how such an evaluation ends is told by its end.
use Rattle.std.proofs.Common.{◌≡◌, Bool, ◌⊎◌, inl, inr, ℕ, zero, suc, ◌+◌, ◌≤◌, List, [], ◌∷◌, ◌++◌, Option, Some, None, refl, sym, ap, ◌∙◌, subst, arith}
use Rattle.mo_types.specs.Graph.{head_at}
use Rattle.mo_values.specs.declared.operation.Operation.{Operation}
use Rattle.mo_values.specs.Costs.{Cost, weighing, operation_cost}
use Rattle.mo_values.specs.Operations.{operate}
use Rattle.mo_values.specs.Shapes.{Bytes}
use Rattle.mo_values.specs.Views as answer
use Rattle.core_ir.specs.Values as core_value
use Rattle.typed_tree.specs.declared.action.Action.{Action}
use Rattle.typed_tree.specs.declared.action.Action.TheVariants as action
use Rattle.typed_tree.specs.Language.{Exp, Exps, Val, Name, Do, NoExp, AnExp}
use Rattle.mo_meaning.specs.Configurations.{Surroundings}
use Rattle.mo_meaning.specs.Kernel.{Outgoing}
use Rattle.mo_machine.specs.Values.{Value, Code, load, shapes_list, value_of}
use Rattle.mo_machine.specs.Acts.{Store}
use Rattle.mo_machine.specs.Actions.{answered}
use Rattle.mo_machine.specs.Cells.{goes_to, cell_of, held}
use Rattle.mo_machine.specs.Environments.{Environment, at}
use Rattle.mo_machine.specs.Configurations.{Configuration, Run, Still, Ended, End, moved}
use Rattle.mo_machine.specs.Frames.{Operands, Returning, Joining, Stack, Focus, Eval, Ready, Give}
use Rattle.mo_machine.specs.Jumps.{on_stack}
use Rattle.mo_machine.specs.Moves.{found}
use Rattle.mo_machine.specs.Reductions.{reduces}
use Rattle.mo_machine.specs.Turns.{turn, after, step, steps, then_steps}
use Rattle.elaboration_values.specs.Belonging.{Known}
use Rattle.elaboration_steps.specs.Stacks.{owed}
use Rattle.elaboration_steps.specs.Follows.{HandlerMeets, Suits}
use Rattle.elaboration_runs.specs.Whole.{Serves}
use Rattle.elaboration_starts.specs.Declarations.{names_from}
use Rattle.elaboration_starts.proofs.Alongside.{Bases, Alone, Hooked, Joined, conf}
use Rattle.elaboration_starts.proofs.Evaluating.{steps_and, ended_stays}

-- operations, and reading of cells
abbrev pub IsCalm : Action → Type 0
IsCalm (action.Operate o) = Unit {0}
IsCalm action.Read = Unit {0}
IsCalm _ = ⊥

abbrev mutual
  pub IsPlain : Exp → Type 0
  IsPlain (Val v) = Unit {0}
  IsPlain (Name x) = Unit {0}
  IsPlain (Do a es) = IsCalm a × ArePlain es
  IsPlain _ = ⊥

  pub ArePlain : Exps → Type 0
  ArePlain NoExp = Unit {0}
  ArePlain (AnExp e es) = IsPlain e × ArePlain es

abbrev pub CalmFocus : Focus → Type 0
CalmFocus (Eval e env) = IsPlain e
CalmFocus (Ready a vs) = IsCalm a
CalmFocus (Give v) = Unit {0}

abbrev pub CalmStack : Stack → Type 0
CalmStack [] = Unit {0}
CalmStack (Operands a done rest env ∷ k) = IsCalm a × ArePlain rest × CalmStack k
CalmStack (Returning n ∷ k) = CalmStack k
CalmStack (Joining ∷ k) = CalmStack k
CalmStack _ = ⊥

-- it only grows, with the same prints and store
pub record Grows (c c1 : Configuration) : Type 0 where
  pub heavier : c.weight ≤ c1.weight
  pub deeper : c.depth ≤ c1.depth
  pub same_prints : c1.prints ≡ c.prints
  pub same_store : c1.store ≡ c.store
  pub calm : CalmStack c1.stack

abbrev pub CalmRun : Configuration → Run → Type 0
CalmRun c (Still c1) = CalmFocus c1.focus × Grows c c1
CalmRun c (Ended c1 end) = Grows c c1

pub owes_nothing : (k : Stack) → CalmStack k → owed k ≡ 0
owes_nothing [] h = refl
owes_nothing (Operands a done rest env ∷ k) h = owes_nothing k (h.2)
owes_nothing (Returning n ∷ k) h = owes_nothing k h
owes_nothing (Joining ∷ k) h = owes_nothing k h
owes_nothing (_ ∷ k) h = absurd h

pub names_plain : (i n : ℕ) → ArePlain (names_from i n)
names_plain i zero = tt
names_plain i (suc n) = (tt, names_plain (suc i) n)

pub base_calm : {t : Bool} → (k l : Stack) → Bases t k l → CalmStack l
base_calm k l (Alone n) = tt
base_calm k l (Hooked n env) = tt
base_calm k l (Joined k' l' b) = base_calm k' l' b

module _ (s : Surroundings) where
  module _ (w d : ℕ) (prints : List Bytes) (calls : List Outgoing) (store : Store) where
    abbrev C : Focus → Stack → Configuration
    C f k = conf w d prints calls store f k

    same : (f g : Focus) (k l : Stack) → CalmStack l → Grows (C f k) (C g l)
    same f g k l h = record { heavier = omega arith; deeper = omega arith; same_prints = refl; same_store = refl; calm = h }

    -- after a reduction
    more : (f g : Focus) (k l : Stack) (cost : Cost) → CalmStack l → Grows (C f k) (moved cost store g l (C f k))
    more f g k l cost h = record { heavier = omega arith; deeper = omega arith; same_prints = refl; same_store = refl; calm = h }

    found_calm : (x : ℕ) (env : Environment) (k : Stack) (o : Option Value) → CalmStack k → CalmRun (C (Eval (Name x) env) k) (after s (C (Eval (Name x) env) k) (turn s (C (Eval (Name x) env) k) (reduces (head_at s.types) None store (Eval (Name x) env) k)) (found o k))
    found_calm x env k None h = same (Eval (Name x) env) (Eval (Name x) env) k k h
    found_calm x env k (Some v) h = (tt, same (Eval (Name x) env) (Give v) k k h)

    answer_calm : (o : Operation) (vs : List Value) (k : Stack) (a : answer.Answer Code) → CalmStack k → CalmRun (C (Ready (action.Operate o) vs) k) (turn s (C (Ready (action.Operate o) vs) k) (on_stack store (answered store (operation_cost o (shapes_list vs) a) a) k))
    answer_calm o vs k (answer.Gives r) h = (tt, more (Ready (action.Operate o) vs) (Give (value_of r)) k k (operation_cost o (shapes_list vs) (answer.Gives r)) h)
    answer_calm o vs k (answer.Traps text) h = record { heavier = omega arith; deeper = omega arith; same_prints = refl; same_store = refl; calm = h }
    answer_calm o vs k answer.Stuck h = same (Ready (action.Operate o) vs) (Ready (action.Operate o) vs) k k h

    eval_calm : (e : Exp) (env : Environment) (k : Stack) → IsPlain e → CalmStack k → CalmRun (C (Eval e env) k) (step s (C (Eval e env) k))
    eval_calm (Val v) env k h i = (tt, same (Eval (Val v) env) (Give (load v)) k k i)
    eval_calm (Name x) env k h i = found_calm x env k (at env x) i
    eval_calm (Do a NoExp) env k h i = (h.0, same (Eval (Do a NoExp) env) (Ready a []) k k i)
    eval_calm (Do a (AnExp e es)) env k h i = (h.1.0, same (Eval (Do a (AnExp e es)) env) (Eval e env) k (Operands a [] es env ∷ k) (h.0, h.1.1, i))
    eval_calm _ env k h i = absurd h

    give_calm : (v : Value) (k : Stack) → CalmStack k → CalmRun (C (Give v) k) (step s (C (Give v) k))
    give_calm v [] h = same (Give v) (Give v) [] [] tt
    give_calm v (Operands a done NoExp env ∷ k) h = (h.0, same (Give v) (Ready a (done ++ v ∷ [])) (Operands a done NoExp env ∷ k) k (h.2))
    give_calm v (Operands a done (AnExp e es) env ∷ k) h = (h.1.0, same (Give v) (Eval e env) (Operands a done (AnExp e es) env ∷ k) (Operands a (done ++ v ∷ []) es env ∷ k) (h.0, h.1.1, h.2))
    give_calm v (Returning n ∷ k) h = (tt, more (Give v) (Give v) (Returning n ∷ k) k (weighing 1) h)
    give_calm v (Joining ∷ k) h = (tt, same (Give v) (Give v) (Joining ∷ k) k h)
    give_calm v (_ ∷ k) h = absurd h

    read_calm : (c : Value) (k : Stack) (o : Option Value) → CalmStack k → CalmRun (C (Ready action.Read (c ∷ [])) k) (turn s (C (Ready action.Read (c ∷ [])) k) (on_stack store (goes_to store o) k))
    read_calm c k None h = same (Ready action.Read (c ∷ [])) (Ready action.Read (c ∷ [])) k k h
    read_calm c k (Some v) h = (tt, more (Ready action.Read (c ∷ [])) (Give v) k k (weighing 1) h)

    step_calm : (f : Focus) (k : Stack) → CalmFocus f → CalmStack k → CalmRun (C f k) (step s (C f k))
    step_calm (Eval e env) k h i = eval_calm e env k h i
    step_calm (Ready (action.Operate o) vs) k h i = answer_calm o vs k (operate (head_at s.types) o (shapes_list vs)) i
    step_calm (Ready action.Read []) k h i = same (Ready action.Read []) (Ready action.Read []) k k i
    step_calm (Ready action.Read (c ∷ [])) k h i = read_calm c k (held store (cell_of c)) i
    step_calm (Ready action.Read (c ∷ d ∷ vs)) k h i = same (Ready action.Read (c ∷ d ∷ vs)) (Ready action.Read (c ∷ d ∷ vs)) k k i
    step_calm (Ready _ vs) k h i = absurd h
    step_calm (Give v) k h i = give_calm v k i

  grows_on : (c c1 c2 : Configuration) → Grows c c1 → Grows c1 c2 → Grows c c2
  grows_on c c1 c2 a b = record {
    heavier = let x : c.weight ≤ c1.weight = a.heavier in let y : c1.weight ≤ c2.weight = b.heavier in omega (arith, x, y);
    deeper = let x : c.depth ≤ c1.depth = a.deeper in let y : c1.depth ≤ c2.depth = b.deeper in omega (arith, x, y);
    same_prints = b.same_prints ∙ a.same_prints;
    same_store = b.same_store ∙ a.same_store;
    calm = b.calm;
  }

  run_on : (c c1 : Configuration) (r : Run) → Grows c c1 → CalmRun c1 r → CalmRun c r
  run_on c c1 (Still c2) a b = (b.0, grows_on c c1 c2 a (b.1))
  run_on c c1 (Ended c2 end) a b = grows_on c c1 c2 a b

  pub stays_calm : (n : ℕ) (c : Configuration) → CalmFocus c.focus → CalmStack c.stack → CalmRun c (steps s n c)
  stays_calm zero c h i = (h, record { heavier = omega arith; deeper = omega arith; same_prints = refl; same_store = refl; calm = i })
  stays_calm (suc n) c h i = by (λ c1 a b. stays_calm n c1 a b) (step s c) (step_calm c.weight c.depth c.prints c.calls c.store c.focus c.stack h i)
    where
      by : ((c1 : Configuration) → CalmFocus c1.focus → CalmStack c1.stack → CalmRun c1 (steps s n c1)) → (r : Run) → CalmRun c r → CalmRun c (then_steps s (steps s n) r)
      by go (Still c1) q = run_on c c1 (steps s n c1) (q.1) (go c1 (q.0) q.1.calm)
      by go (Ended c1 end) q = q

  -- nothing is asked there
  handlers : (k : Stack) (u : core_value.Value) → CalmStack k → HandlerMeets k u
  handlers [] u h = tt
  handlers (Operands a done rest env ∷ k) u h = handlers k u (h.2)
  handlers (Returning n ∷ k) u h = handlers k u h
  handlers (Joining ∷ k) u h = handlers k u h
  handlers (_ ∷ k) u h = absurd h

  suits : (known : List Known) (f : Focus) (k : Stack) → CalmFocus f → CalmStack k → Suits known f k
  suits known (Eval e env) k h i = tt
  suits known (Ready (action.Operate o) vs) k h i = tt
  suits known (Ready action.Read vs) k h i = tt
  suits known (Ready _ vs) k h i = absurd h
  suits known (Give v) [] h i = tt
  suits known (Give v) (Operands a done rest env ∷ k) h i = tt
  suits known (Give v) (Returning n ∷ k) h i = tt
  suits known (Give v) (Joining ∷ k) h i = tt
  suits known (Give v) (_ ∷ k) h i = absurd i

  pub calm_serves : (c : Configuration) → CalmFocus c.focus → CalmStack c.stack → Serves c
  calm_serves c h i = record { suits = λ known. suits known c.focus c.stack h i; handles = λ known u b. handlers c.stack u i }

  -- ---- an execution ends once

  two_ways : (m n : ℕ) → ((more : ℕ) × (m ≡ n + more)) ⊎ ((more : ℕ) × (n ≡ m + more))
  two_ways m zero = inl (m, let z : m ≡ 0 + m = omega arith in z)
  two_ways zero (suc n) = inr (suc n, let z : suc n ≡ 0 + suc n = omega arith in z)
  two_ways (suc m) (suc n) = by (two_ways m n)
    where
      by : ((more : ℕ) × (m ≡ n + more)) ⊎ ((more : ℕ) × (n ≡ m + more)) → ((more : ℕ) × (suc m ≡ suc n + more)) ⊎ ((more : ℕ) × (suc n ≡ suc m + more))
      by (inl r) = inl (r.0, let e : m ≡ n + (r.0) = r.1 in omega (arith, e))
      by (inr r) = inr (r.0, let e : n ≡ m + (r.0) = r.1 in omega (arith, e))

  pub ends_once : (m n : ℕ) (c c1 c2 : Configuration) (x y : End) → steps s m c ≡ Ended c1 x → steps s n c ≡ Ended c2 y → Ended c1 x ≡ Ended c2 y
  ends_once m n c c1 c2 x y e q = by (two_ways m n)
    where
      by : ((more : ℕ) × (m ≡ n + more)) ⊎ ((more : ℕ) × (n ≡ m + more)) → Ended c1 x ≡ Ended c2 y
      by (inl r) = sym e ∙ (ap (λ k. steps s k c) (r.1) ∙ ended_stays s n (r.0) c c2 y q)
      by (inr r) = sym (ended_stays s m (r.0) c c1 x e) ∙ (ap (λ k. steps s k c) (sym (r.1)) ∙ q)

  -- on the way to its end it is no more than there
  abbrev pub Under : Configuration → Run → Type 0
  Under last (Still c) = (c.weight ≤ last.weight) × (c.depth ≤ last.depth)
  Under last (Ended c end) = (c.weight ≤ last.weight) × (c.depth ≤ last.depth)

  later : (last c : Configuration) (r : Run) (end : End) → CalmRun c r → r ≡ Ended last end → (c.weight ≤ last.weight) × (c.depth ≤ last.depth)
  later last c (Still c1) end q e = absurd (let z : Still c1 ≡ Ended last end = e in cc)
  later last c (Ended c1 end1) end q e = subst (λ (x : Configuration). (c.weight ≤ x.weight) × (c.depth ≤ x.depth)) (ap (configuration_of c1) e) (q.heavier, q.deeper)
    where
      configuration_of : Configuration → Run → Configuration
      configuration_of d (Still c) = c
      configuration_of d (Ended c end) = c

  pub under_end : (m n : ℕ) (c last : Configuration) (end : End) → CalmFocus c.focus → CalmStack c.stack → steps s n c ≡ Ended last end → Under last (steps s m c)
  under_end m n c last end h i e = by (steps s m c) refl (stays_calm m c h i)
    where
      by : (r : Run) → steps s m c ≡ r → CalmRun c r → Under last r
      by (Ended c1 end1) q calm = subst (λ r. Under last r) (sym (ends_once m n c c1 last end1 end q e)) (omega arith, omega arith)
      by (Still c1) q calm = ways (two_ways m n)
        where
          ways : ((more : ℕ) × (m ≡ n + more)) ⊎ ((more : ℕ) × (n ≡ m + more)) → Under last (Still c1)
          ways (inl r) = absurd (let z : Still c1 ≡ Ended last end = sym q ∙ (ap (λ k. steps s k c) (r.1) ∙ ended_stays s n (r.0) c last end e) in cc)
          ways (inr r) = later last c1 (steps s (r.0) c1) end (stays_calm (r.0) c1 (calm.0) calm.1.calm) (sym (steps_and s m (r.0) c c1 q) ∙ (ap (λ k. steps s k c) (sym (r.1)) ∙ e))
