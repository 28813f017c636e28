-- A tuple of names that were declared, exactly.
use Rattle.std.proofs.Common.{◌≡◌, Bool, ℕ, suc, ◌+◌, ◌*◌, ◌≤◌, List, [], ◌∷◌, ◌++◌, length, Some, None, slice_get, refl, ap, ◌∙◌, subst, arith}
use Rattle.std.specs.Prelude.{max}
use Rattle.mo_types.specs.Graph.{head_at}
use Rattle.mo_values.specs.declared.operation.Operation.TheVariants as op
use Rattle.mo_values.specs.Shapes.{Bytes, Tuple}
use Rattle.typed_tree.specs.declared.action.Action.TheVariants as action
use Rattle.typed_tree.specs.Language.{Name}
use Rattle.mo_meaning.specs.Configurations.{Surroundings}
use Rattle.mo_meaning.specs.Kernel.{Outgoing}
use Rattle.mo_machine.specs.Values.{Value, Made, gathered, shapes_list}
use Rattle.mo_machine.specs.Acts.{Store}
use Rattle.mo_machine.specs.Environments.{Environment, at}
use Rattle.mo_machine.specs.Configurations.{Configuration, Returns, Still, Ended, live_on, live_state}
use Rattle.mo_machine.specs.Frames.{Operands, Returning, Joining, Stack, Focus, Eval, Ready, Give}
use Rattle.mo_machine.specs.Moves.{found}
use Rattle.mo_machine.specs.Reductions.{reduces}
use Rattle.mo_machine.specs.Turns.{turn, after, step, steps, then_steps}
use Rattle.elaboration_starts.specs.Declarations.{names_from, made}
use Rattle.elaboration_starts.proofs.Alongside.{Bases, Alone, Hooked, Joined, conf}
use Rattle.elaboration_starts.proofs.Evaluating.{list_back, steps_and}

module _ (s : Surroundings) (prints : List Bytes) (calls : List Outgoing) (store : Store) where
  abbrev C : ℕ → ℕ → Focus → Stack → Configuration
  C w d f k = conf w d prints calls store f k

  pub record Comes (w d : ℕ) (f : Focus) (k : Stack) (w' d' : ℕ) (g : Focus) (l : Stack) : Type 0 where
    pub steps_to : ℕ
    pub by : steps s steps_to (C w d f k) ≡ Still (C w' d' g l)

  then_comes : (w d w1 d1 w2 d2 : ℕ) (f f1 f2 : Focus) (k k1 k2 : Stack) → step s (C w d f k) ≡ Still (C w1 d1 f1 k1) → Comes w1 d1 f1 k1 w2 d2 f2 k2 → Comes w d f k w2 d2 f2 k2
  then_comes w d w1 d1 w2 d2 f f1 f2 k k1 k2 e q = record { steps_to = suc q.steps_to; by = ap (then_steps s (steps s q.steps_to)) e ∙ q.by }

  assoc : {A : Type 0} (xs : List A) (x : A) (ys : List A) → (xs ++ x ∷ []) ++ ys ≡ xs ++ x ∷ ys
  assoc [] x ys = refl
  assoc (z ∷ xs) x ys = ap (λ r. z ∷ r) (assoc xs x ys)

  module _ (env : Environment) (w d : ℕ) (k : Stack) where
    abbrev ready : List Value → Focus
    ready vs = Ready (action.Operate op.MakeTuple) vs

    -- names one after another
    names_come : (i : ℕ) (done : List Value) (v : Value) (vs : List Value) → ((j : ℕ) (u : Value) → slice_get (v ∷ vs) j ≡ Some u → at env (i + j) ≡ Some u)
        → Comes w d (Eval (Name i) env) (Operands (action.Operate op.MakeTuple) done (names_from (suc i) (length vs)) env ∷ k) w d (ready (done ++ v ∷ vs)) k
    names_come i done v [] h =
        then_comes w d w d w d (Eval (Name i) env) (Give v) (ready (done ++ v ∷ [])) (here []) (here []) k (named v (h 0 v refl) (here []))
        (record { steps_to = 1; by = refl })
      where
        here : List Value → Stack
        here vs = Operands (action.Operate op.MakeTuple) done (names_from (suc i) (length vs)) env ∷ k

        named : (v : Value) → at env (i + 0) ≡ Some v → (k : Stack) → step s (C w d (Eval (Name i) env) k) ≡ Still (C w d (Give v) k)
        named v e k = ap (λ o. after s (C w d (Eval (Name i) env) k) (turn s (C w d (Eval (Name i) env) k) (reduces (head_at s.types) None store (Eval (Name i) env) k)) (found o k)) (ap (at env) (let z : i ≡ i + 0 = omega arith in z) ∙ e)
    names_come i done v (u ∷ vs) h =
        then_comes w d w d w d (Eval (Name i) env) (Give v) (ready (done ++ v ∷ u ∷ vs)) (here (u ∷ vs)) (here (u ∷ vs)) k (named v (h 0 v refl) (here (u ∷ vs)))
        (then_comes w d w d w d (Give v) (Eval (Name (suc i)) env) (ready (done ++ v ∷ u ∷ vs)) (here (u ∷ vs)) (Operands (action.Operate op.MakeTuple) (done ++ v ∷ []) (names_from (suc (suc i)) (length vs)) env ∷ k) k refl
        (subst (λ xs. Comes w d (Eval (Name (suc i)) env) (Operands (action.Operate op.MakeTuple) (done ++ v ∷ []) (names_from (suc (suc i)) (length vs)) env ∷ k) w d (ready xs) k) (assoc done v (u ∷ vs))
        (names_come (suc i) (done ++ v ∷ []) u vs (λ j x e. subst (λ n. at env n ≡ Some x) (let z : i + suc j ≡ suc i + j = omega arith in z) (h (suc j) x e)))))
      where
        here : List Value → Stack
        here vs = Operands (action.Operate op.MakeTuple) done (names_from (suc i) (length vs)) env ∷ k

        named : (v : Value) → at env (i + 0) ≡ Some v → (k : Stack) → step s (C w d (Eval (Name i) env) k) ≡ Still (C w d (Give v) k)
        named v e k = ap (λ o. after s (C w d (Eval (Name i) env) k) (turn s (C w d (Eval (Name i) env) k) (reduces (head_at s.types) None store (Eval (Name i) env) k)) (found o k)) (ap (at env) (let z : i ≡ i + 0 = omega arith in z) ∙ e)

    all_come : (i : ℕ) (vs : List Value) → ((j : ℕ) (u : Value) → slice_get vs j ≡ Some u → at env (i + j) ≡ Some u) → Comes w d (Eval (made op.MakeTuple (names_from i (length vs))) env) k w d (ready vs) k
    all_come i [] h = record { steps_to = 1; by = refl }
    all_come i (v ∷ vs) h =
        then_comes w d w d w d (Eval (made op.MakeTuple (names_from i (suc (length vs)))) env) (Eval (Name i) env) (ready (v ∷ vs)) k (Operands (action.Operate op.MakeTuple) [] (names_from (suc i) (length vs)) env ∷ k) k refl (names_come i [] v vs h)

  -- the end of the declarations
  pub record Last (w d : ℕ) (f : Focus) (k : Stack) (v : Value) (most deep : ℕ) : Type 0 where
    pub steps_to : ℕ
    pub weight : ℕ
    pub depth : ℕ
    pub by : steps s steps_to (C w d f k) ≡ Ended (C weight depth (Give v) []) (Returns v)
    pub light : weight ≤ most
    pub shallow : depth ≤ deep

  step_last : (w d w1 d1 most deep : ℕ) (f f1 : Focus) (k k1 : Stack) (v : Value) → step s (C w d f k) ≡ Still (C w1 d1 f1 k1) → Last w1 d1 f1 k1 v most deep → Last w d f k v most deep
  step_last w d w1 d1 most deep f f1 k k1 v e q = record { steps_to = suc q.steps_to; weight = q.weight; depth = q.depth; by = ap (then_steps s (steps s q.steps_to)) e ∙ q.by; light = q.light; shallow = q.shallow }

  pub comes_last : (w d w1 d1 most deep : ℕ) (f f1 : Focus) (k k1 : Stack) (v : Value) → Comes w d f k w1 d1 f1 k1 → Last w1 d1 f1 k1 v most deep → Last w d f k v most deep
  comes_last w d w1 d1 most deep f f1 k k1 v r q = record {
    steps_to = r.steps_to + q.steps_to;
    weight = q.weight;
    depth = q.depth;
    by = steps_and s r.steps_to q.steps_to (C w d f k) (C w1 d1 f1 k1) r.by ∙ q.by;
    light = q.light;
    shallow = q.shallow;
  }

  pub based : {t : Bool} → (v : Value) (k l : Stack) → Bases t k l → (w d : ℕ) → Last w d (Give v) l v (w + 1) (max d (live_on l))
  based v k l (Alone n) w d = ended v n w d
    where
      ended : (v : Value) (n w d : ℕ) → Last w d (Give v) (Returning n ∷ []) v (w + 1) (max d (16 + n + 0))
      ended v n w d = record { steps_to = 2; weight = w + 1; depth = max (max d (live_state (Give v) (Returning n ∷ []) + 16 * 0)) (live_state (Give v) []); by = refl; light = omega arith; shallow = omega arith }
  based v k l (Hooked n env) w d = record { steps_to = 2; weight = w + 1; depth = max (max d (live_state (Give v) (Returning n ∷ []) + 16 * 0)) (live_state (Give v) []); by = refl; light = omega arith; shallow = omega arith }
  based v k l (Joined k' l' b) w d = step_last w d w d (w + 1) (max d (0 + live_on l')) (Give v) (Give v) (Joining ∷ l') l' v refl (subst (λ n. Last w d (Give v) l' v (w + 1) (max d n)) (let z : live_on l' ≡ 0 + live_on l' = omega arith in z) (based v k' l' b w d))

  pub tuple_last : {t : Bool} → (i : ℕ) (vs : List Value) (env : Environment) → ((j : ℕ) (u : Value) → slice_get vs j ≡ Some u → at env (i + j) ≡ Some u) → (k l : Stack) → Bases t k l → (w d : ℕ)
      → Last w d (Eval (made op.MakeTuple (names_from i (length vs))) env) l (Made Tuple (gathered vs)) (w + (2 + length vs) + 1) (max d (live_on l))
  tuple_last i vs env there k l b w d =
      comes_last w d w d (w + (2 + length vs) + 1) (max d (live_on l)) (Eval (made op.MakeTuple (names_from i (length vs))) env) (Ready (action.Operate op.MakeTuple) vs) l l (Made Tuple (gathered vs))
      (all_come env w d l i vs there)
      (step_last w d w1 d1 (w + (2 + length vs) + 1) (max d (live_on l)) (Ready (action.Operate op.MakeTuple) vs) (Give (Made Tuple (gathered vs))) l l (Made Tuple (gathered vs)) (ap (λ x. Still (C w1 d1 (Give (Made Tuple x)) l)) (list_back vs)) rest)
    where
      w1 : ℕ
      w1 = w + (2 + length (shapes_list vs))

      d1 : ℕ
      d1 = max (max d (0 + live_on l + 16 * 0)) (0 + live_on l)

      many : (vs : List Value) → length (shapes_list vs) ≡ length vs
      many [] = refl
      many (v ∷ vs) = ap (λ n. suc n) (many vs)

      rest : Last w1 d1 (Give (Made Tuple (gathered vs))) l (Made Tuple (gathered vs)) (w + (2 + length vs) + 1) (max d (live_on l))
      rest = let q : Last w1 d1 (Give (Made Tuple (gathered vs))) l (Made Tuple (gathered vs)) (w1 + 1) (max d1 (live_on l)) = based (Made Tuple (gathered vs)) k l b w1 d1 in
          record {
            steps_to = q.steps_to;
            weight = q.weight;
            depth = q.depth;
            by = q.by;
            light = let z : q.weight ≤ w1 + 1 = q.light in let y : length (shapes_list vs) ≡ length vs = many vs in omega (arith, z, y);
            shallow = let z : q.depth ≤ max d1 (live_on l) = q.shallow in omega (arith, z);
          }
