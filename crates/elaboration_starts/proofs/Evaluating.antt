-- What the declarations of an actor end in is evaluated: operations on names and literals.
use Rattle.std.proofs.Common.{◌≡◌, ℕ, zero, suc, ◌+◌, ◌*◌, ◌≤◌, List, [], ◌∷◌, ◌++◌, length, Some, None, slice_get, refl, ap, ap₂, ◌∙◌, subst, arith}
use Rattle.std.specs.Prelude.{max}
use Rattle.mo_types.specs.Graph.{head_at}
use Rattle.mo_values.specs.declared.operation.Operation.{Operation}
use Rattle.mo_values.specs.declared.operation.Operation.TheVariants as op
use Rattle.mo_values.specs.Operations.{operate}
use Rattle.mo_values.specs.Costs.{operation_cost}
use Rattle.mo_values.specs.Shapes as shape
use Rattle.mo_values.specs.Shapes.{Bytes, Shape, shapes}
use Rattle.mo_values.specs.Views as answer
use Rattle.typed_tree.specs.declared.action.Action.TheVariants as action
use Rattle.typed_tree.specs.Language as source
use Rattle.typed_tree.specs.Language.{Exp, Exps, Val, Name, NoExp, AnExp}
use Rattle.mo_meaning.specs.Configurations.{Surroundings}
use Rattle.mo_meaning.specs.Kernel.{Outgoing}
use Rattle.mo_machine.specs.Values.{Value, Values, Code, Made, Closure, BuiltIn, NoValue, AValue, load, gathered, listed, shape_of, shapes_of, shapes_list, value_of, values_of}
use Rattle.mo_machine.specs.Acts.{Store}
use Rattle.mo_machine.specs.Actions.{answered}
use Rattle.mo_machine.specs.Environments.{Environment, at, extended}
use Rattle.mo_machine.specs.Configurations.{Configuration, Run, Still, Ended, End, live_state}
use Rattle.mo_machine.specs.Frames.{Operands, Stack, Focus, Eval, Ready, Give}
use Rattle.mo_machine.specs.Jumps.{on_stack}
use Rattle.mo_machine.specs.Moves.{found}
use Rattle.mo_machine.specs.Reductions.{reduces}
use Rattle.mo_machine.specs.Turns.{turn, after, step, steps, then_steps}
use Rattle.elaboration_starts.specs.Declarations.{made}
use Rattle.elaboration_starts.proofs.Alongside.{conf}

-- ---- values

mutual
  pub value_back : (v : Value) → value_of (shape_of v) ≡ v
  value_back (Made head inside) = ap (λ vs. Made head vs) (values_back inside)
  value_back (Closure group which env) = refl
  value_back (BuiltIn m holds) = refl

  values_back : (vs : Values) → values_of (shapes_of vs) ≡ vs
  values_back NoValue = refl
  values_back (AValue v vs) = ap₂ (λ x xs. AValue x xs) (value_back v) (values_back vs)

pub list_back : (vs : List Value) → values_of (shapes (shapes_list vs)) ≡ gathered vs
list_back [] = refl
list_back (v ∷ vs) = ap₂ (λ x xs. AValue x xs) (value_back v) (list_back vs)

pub listed_gathered : (vs : List Value) → listed (gathered vs) ≡ vs
listed_gathered [] = refl
listed_gathered (v ∷ vs) = ap (λ r. v ∷ r) (listed_gathered vs)

pub at_front : (vs : List Value) (outer : Environment) (x : ℕ) (v : Value) → slice_get vs x ≡ Some v → at (extended vs outer) x ≡ Some v
at_front [] outer x v e = absurd (let z : None ≡ Some v = e in cc)
at_front (u ∷ vs) outer zero v e = e
at_front (u ∷ vs) outer (suc x) v e = at_front vs outer x v e

pub is_there : {A : Type 0} (xs : List A) (i : ℕ) → suc i ≤ length xs → (x : A) × (slice_get xs i ≡ Some x)
is_there [] i h = absurd (let y : ⊥ = omega (arith, h) in y)
is_there (x ∷ xs) zero h = (x, refl)
is_there (x ∷ xs) (suc i) h = is_there xs i (omega (arith, h))

module _ (s : Surroundings) where
  -- ---- steps

  pub steps_and : (m n : ℕ) (c c1 : Configuration) → steps s m c ≡ Still c1 → steps s (m + n) c ≡ steps s n c1
  steps_and zero n c c1 e = ap (λ k. steps s k c) (let z : 0 + n ≡ n = omega arith in z) ∙ ap (then_steps s (steps s n)) e
  steps_and (suc m) n c c1 e = ap (λ k. steps s k c) (let z : suc m + n ≡ suc (m + n) = omega arith in z) ∙ by (λ c2 q. steps_and m n c2 c1 q) (step s c) e
    where
      by : ((c2 : Configuration) → steps s m c2 ≡ Still c1 → steps s (m + n) c2 ≡ steps s n c1) → (r : Run) → then_steps s (steps s m) r ≡ Still c1 → then_steps s (steps s (m + n)) r ≡ steps s n c1
      by go (Still c2) e = go c2 e
      by go (Ended c2 end) e = absurd (let z : Ended c2 end ≡ Still c1 = e in cc)

  pub ended_stays : (m n : ℕ) (c c1 : Configuration) (end : End) → steps s m c ≡ Ended c1 end → steps s (m + n) c ≡ Ended c1 end
  ended_stays zero n c c1 end e = absurd (let z : Still c ≡ Ended c1 end = e in cc)
  ended_stays (suc m) n c c1 end e = ap (λ k. steps s k c) (let z : suc m + n ≡ suc (m + n) = omega arith in z) ∙ by (λ c2 q. ended_stays m n c2 c1 end q) (step s c) e
    where
      by : ((c2 : Configuration) → steps s m c2 ≡ Ended c1 end → steps s (m + n) c2 ≡ Ended c1 end) → (r : Run) → then_steps s (steps s m) r ≡ Ended c1 end → then_steps s (steps s (m + n)) r ≡ Ended c1 end
      by go (Still c2) e = go c2 e
      by go (Ended c2 end2) e = e

  -- it comes there, with the same prints, calls and store
  pub record Way (c : Configuration) (f : Focus) (k : Stack) : Type 0 where
    pub steps_to : ℕ
    pub weight : ℕ
    pub depth : ℕ
    pub by : steps s steps_to c ≡ Still (conf weight depth c.prints c.calls c.store f k)
    pub heavier : c.weight ≤ weight
    pub deeper : c.depth ≤ depth

  unfoldable pub onward : (c : Configuration) (f : Focus) (k : Stack) (g : Focus) (l : Stack) (r : Way c f k) → Way (conf r.weight r.depth c.prints c.calls c.store f k) g l → Way c g l
  onward c f k g l r q = record {
    steps_to = r.steps_to + q.steps_to;
    weight = q.weight;
    depth = q.depth;
    by = steps_and r.steps_to q.steps_to c (conf r.weight r.depth c.prints c.calls c.store f k) r.by ∙ q.by;
    heavier = let a : c.weight ≤ r.weight = r.heavier in let b : r.weight ≤ q.weight = q.heavier in omega (arith, a, b);
    deeper = let a : c.depth ≤ r.depth = r.deeper in let b : r.depth ≤ q.depth = q.deeper in omega (arith, a, b);
  }

  -- one step
  unfoldable pub one_way : (c : Configuration) (w d : ℕ) (f : Focus) (k : Stack) → step s c ≡ Still (conf w d c.prints c.calls c.store f k) → c.weight ≤ w → c.depth ≤ d → Way c f k
  one_way c w d f k e h i = record { steps_to = 1; weight = w; depth = d; by = ap (then_steps s (steps s 0)) e; heavier = h; deeper = i }

  -- a step before
  unfoldable pub step_way : (c : Configuration) (w d : ℕ) (f : Focus) (k : Stack) (g : Focus) (l : Stack) → step s c ≡ Still (conf w d c.prints c.calls c.store f k) → c.weight ≤ w → c.depth ≤ d → Way (conf w d c.prints c.calls c.store f k) g l → Way c g l
  step_way c w d f k g l e h i q = record {
    steps_to = suc q.steps_to;
    weight = q.weight;
    depth = q.depth;
    by = ap (then_steps s (steps s q.steps_to)) e ∙ q.by;
    heavier = let b : w ≤ q.weight = q.heavier in omega (arith, h, b);
    deeper = let b : d ≤ q.depth = q.deeper in omega (arith, i, b);
  }

  -- ---- expressions

  abbrev pub Evaluates : Environment → Exp → Value → Type 0
  Evaluates env e v = (w d : ℕ) (prints : List Bytes) (calls : List Outgoing) (store : Store) (k : Stack) → Way (conf w d prints calls store (Eval e env) k) (Give v) k

  pub name_there : (env : Environment) (x : ℕ) (v : Value) → at env x ≡ Some v → (w d : ℕ) (prints : List Bytes) (calls : List Outgoing) (store : Store) (k : Stack) → step s (conf w d prints calls store (Eval (Name x) env) k) ≡ Still (conf w d prints calls store (Give v) k)
  name_there env x v e w d prints calls store k =
      let c : Configuration = conf w d prints calls store (Eval (Name x) env) k in
      ap (λ o. after s c (turn s c (reduces (head_at s.types) None store (Eval (Name x) env) k)) (found o k)) e

  pub name_evaluates : (env : Environment) (x : ℕ) (v : Value) → at env x ≡ Some v → Evaluates env (Name x) v
  name_evaluates env x v e w d prints calls store k =
      let c : Configuration = conf w d prints calls store (Eval (Name x) env) k in
      one_way c w d (Give v) k (ap (λ o. after s c (turn s c (reduces (head_at s.types) None store (Eval (Name x) env) k)) (found o k)) e) (omega arith) (omega arith)

  pub literal_evaluates : (env : Environment) (v : source.Value) → Evaluates env (Val v) (load v)
  literal_evaluates env v w d prints calls store k = one_way (conf w d prints calls store (Eval (Val v) env) k) w d (Give (load v)) k refl (omega arith) (omega arith)

  abbrev pub EvaluateAll : Environment → Exps → List Value → Type 0
  EvaluateAll env NoExp [] = Unit {0}
  EvaluateAll env (AnExp e es) (v ∷ vs) = Evaluates env e v × EvaluateAll env es vs
  EvaluateAll env _ _ = ⊥

  assoc : {A : Type 0} (xs : List A) (x : A) (ys : List A) → (xs ++ x ∷ []) ++ ys ≡ xs ++ x ∷ ys
  assoc [] x ys = refl
  assoc (z ∷ xs) x ys = ap (λ r. z ∷ r) (assoc xs x ys)

  -- operands, where some have their values
  operands_evaluate : (o : Operation) (env : Environment) (e : Exp) (es : Exps) (v : Value) (vs done : List Value) → Evaluates env e v → EvaluateAll env es vs → (w d : ℕ) (prints : List Bytes) (calls : List Outgoing) (store : Store) (k : Stack)
      → Way (conf w d prints calls store (Eval e env) (Operands (action.Operate o) done es env ∷ k)) (Ready (action.Operate o) (done ++ v ∷ vs)) k
  operands_evaluate o env e NoExp v [] done h hs w d prints calls store k =
      let c : Configuration = conf w d prints calls store (Eval e env) (Operands (action.Operate o) done NoExp env ∷ k) in
      let r : Way c (Give v) (Operands (action.Operate o) done NoExp env ∷ k) = h w d prints calls store (Operands (action.Operate o) done NoExp env ∷ k) in
      onward c (Give v) (Operands (action.Operate o) done NoExp env ∷ k) (Ready (action.Operate o) (done ++ v ∷ [])) k r
      (one_way (conf r.weight r.depth prints calls store (Give v) (Operands (action.Operate o) done NoExp env ∷ k)) r.weight r.depth (Ready (action.Operate o) (done ++ v ∷ [])) k refl (omega arith) (omega arith))
  operands_evaluate o env e NoExp v (u ∷ vs) done h hs w d prints calls store k = absurd hs
  operands_evaluate o env e (AnExp e2 es) v [] done h hs w d prints calls store k = absurd hs
  operands_evaluate o env e (AnExp e2 es) v (u ∷ vs) done h hs w d prints calls store k =
      let c : Configuration = conf w d prints calls store (Eval e env) (Operands (action.Operate o) done (AnExp e2 es) env ∷ k) in
      let r : Way c (Give v) (Operands (action.Operate o) done (AnExp e2 es) env ∷ k) = h w d prints calls store (Operands (action.Operate o) done (AnExp e2 es) env ∷ k) in
      let c1 : Configuration = conf r.weight r.depth prints calls store (Give v) (Operands (action.Operate o) done (AnExp e2 es) env ∷ k) in
      onward c (Give v) (Operands (action.Operate o) done (AnExp e2 es) env ∷ k) (Ready (action.Operate o) (done ++ v ∷ u ∷ vs)) k r
      (step_way c1 r.weight r.depth (Eval e2 env) (Operands (action.Operate o) (done ++ v ∷ []) es env ∷ k) (Ready (action.Operate o) (done ++ v ∷ u ∷ vs)) k refl (omega arith) (omega arith)
      (subst (λ xs. Way (conf r.weight r.depth prints calls store (Eval e2 env) (Operands (action.Operate o) (done ++ v ∷ []) es env ∷ k)) (Ready (action.Operate o) xs) k) (assoc done v (u ∷ vs))
      (operands_evaluate o env e2 es u vs (done ++ v ∷ []) (hs.0) (hs.1) r.weight r.depth prints calls store k)))

  -- what is done with the values
  done_evaluates : (o : Operation) (vs : List Value) (r : Shape Code) → operate (head_at s.types) o (shapes_list vs) ≡ answer.Gives r → (w d : ℕ) (prints : List Bytes) (calls : List Outgoing) (store : Store) (k : Stack)
      → Way (conf w d prints calls store (Ready (action.Operate o) vs) k) (Give (value_of r)) k
  done_evaluates o vs r e w d prints calls store k =
      let c : Configuration = conf w d prints calls store (Ready (action.Operate o) vs) k in
      let x = operation_cost o (shapes_list vs) (answer.Gives r) in
      one_way c (w + x.weight) (max (max d (live_state (Ready (action.Operate o) vs) k + 16 * x.levels)) (live_state (Give (value_of r)) k)) (Give (value_of r)) k
      (ap (λ i. turn s c (on_stack store (answered store (operation_cost o (shapes_list vs) i) i) k)) e) (omega arith) (omega arith)

  pub operation_evaluates : (o : Operation) (env : Environment) (es : Exps) (vs : List Value) (r : Shape Code) → EvaluateAll env es vs → operate (head_at s.types) o (shapes_list vs) ≡ answer.Gives r → Evaluates env (made o es) (value_of r)
  operation_evaluates o env NoExp [] r hs e w d prints calls store k =
      let c : Configuration = conf w d prints calls store (Eval (made o NoExp) env) k in
      step_way c w d (Ready (action.Operate o) []) k (Give (value_of r)) k refl (omega arith) (omega arith) (done_evaluates o [] r e w d prints calls store k)
  operation_evaluates o env NoExp (v ∷ vs) r hs e w d prints calls store k = absurd hs
  operation_evaluates o env (AnExp e1 es) [] r hs e w d prints calls store k = absurd hs
  operation_evaluates o env (AnExp e1 es) (v ∷ vs) r hs e w d prints calls store k =
      let c : Configuration = conf w d prints calls store (Eval (made o (AnExp e1 es)) env) k in
      let q : Way c (Ready (action.Operate o) (v ∷ vs)) k =
      step_way c w d (Eval e1 env) (Operands (action.Operate o) [] es env ∷ k) (Ready (action.Operate o) (v ∷ vs)) k refl (omega arith) (omega arith)
      (operands_evaluate o env e1 es v vs [] (hs.0) (hs.1) w d prints calls store k) in
      onward c (Ready (action.Operate o) (v ∷ vs)) k (Give (value_of r)) k q (done_evaluates o (v ∷ vs) r e q.weight q.depth prints calls store k)

  -- what is done pays for itself
  operation_pays : (o : Operation) (env : Environment) (es : Exps) (vs : List Value) (r : Shape Code) (hs : EvaluateAll env es vs) (e : operate (head_at s.types) o (shapes_list vs) ≡ answer.Gives r) (w d : ℕ) (prints : List Bytes) (calls : List Outgoing) (store : Store) (k : Stack)
      → w + (operation_cost o (shapes_list vs) (answer.Gives r)).weight ≤ (operation_evaluates o env es vs r hs e w d prints calls store k).weight
  unfolding operation_evaluates done_evaluates step_way onward one_way
  operation_pays o env NoExp [] r hs e w d prints calls store k =
      let q : (operation_evaluates o env NoExp [] r hs e w d prints calls store k).weight ≡ w + (operation_cost o [] (answer.Gives r)).weight = refl in
      omega (arith, q)
  operation_pays o env NoExp (v ∷ vs) r hs e w d prints calls store k = absurd hs
  operation_pays o env (AnExp e1 es) [] r hs e w d prints calls store k = absurd hs
  operation_pays o env (AnExp e1 es) (v ∷ vs) r hs e w d prints calls store k =
      let z : w ≤ (operands_evaluate o env e1 es v vs [] (hs.0) (hs.1) w d prints calls store k).weight = (operands_evaluate o env e1 es v vs [] (hs.0) (hs.1) w d prints calls store k).heavier in
      let q : (operation_evaluates o env (AnExp e1 es) (v ∷ vs) r hs e w d prints calls store k).weight ≡ (operands_evaluate o env e1 es v vs [] (hs.0) (hs.1) w d prints calls store k).weight + (operation_cost o (shapes_list (v ∷ vs)) (answer.Gives r)).weight = refl in
      omega (arith, z, q)

  pub tuple_comes : (env : Environment) (es : Exps) (vs : List Value) → EvaluateAll env es vs → (w d : ℕ) (prints : List Bytes) (calls : List Outgoing) (store : Store) (k : Stack)
      → (r : Way (conf w d prints calls store (Eval (made op.MakeTuple es) env) k) (Give (Made shape.Tuple (gathered vs))) k) × (w + (2 + length (shapes_list vs)) ≤ r.weight)
  tuple_comes env es vs hs w d prints calls store k =
      subst (λ x. (r : Way (conf w d prints calls store (Eval (made op.MakeTuple es) env) k) (Give (Made shape.Tuple x)) k) × (w + (2 + length (shapes_list vs)) ≤ r.weight)) (list_back vs)
      (operation_evaluates op.MakeTuple env es vs (shape.Made shape.Tuple (shapes (shapes_list vs))) hs refl w d prints calls store k, operation_pays op.MakeTuple env es vs (shape.Made shape.Tuple (shapes (shapes_list vs))) hs refl w d prints calls store k)

  pub tuple_evaluates : (env : Environment) (es : Exps) (vs : List Value) → EvaluateAll env es vs → Evaluates env (made op.MakeTuple es) (Made shape.Tuple (gathered vs))
  tuple_evaluates env es vs hs = subst (λ x. Evaluates env (made op.MakeTuple es) (Made shape.Tuple x)) (list_back vs) (operation_evaluates op.MakeTuple env es vs (shape.Made shape.Tuple (shapes (shapes_list vs))) hs refl)
