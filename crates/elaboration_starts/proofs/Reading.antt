-- Cells are read one after another, at no more than so much.
use Rattle.std.proofs.Common.{◌≡◌, ℕ, suc, ◌+◌, ◌*◌, ◌≤◌, List, [], ◌∷◌, ◌++◌, length, Some, None, refl, ap, ◌∙◌, subst, arith}
use Rattle.std.specs.Prelude.{max}
use Rattle.mo_types.specs.Graph.{head_at}
use Rattle.mo_values.specs.declared.operation.Operation.TheVariants as op
use Rattle.mo_values.specs.Shapes.{Bytes, Tuple}
use Rattle.typed_tree.specs.declared.action.Action.TheVariants as action
use Rattle.typed_tree.specs.Language.{Name, Do, NoExp, AnExp}
use Rattle.mo_meaning.specs.Configurations.{Surroundings}
use Rattle.mo_meaning.specs.Depth.{live_all}
use Rattle.mo_meaning.specs.Kernel.{Outgoing}
use Rattle.mo_machine.specs.Values.{Value, Made, gathered, shapes_list}
use Rattle.mo_machine.specs.Acts.{Store}
use Rattle.mo_machine.specs.Cells.{goes_to, cell_of, held}
use Rattle.mo_machine.specs.Environments.{Environment, at}
use Rattle.mo_machine.specs.Configurations.{Configuration, Still, live_on, live_state}
use Rattle.mo_machine.specs.Frames.{Operands, Stack, Focus, Eval, Ready, Give}
use Rattle.mo_machine.specs.Jumps.{on_stack}
use Rattle.mo_machine.specs.Moves.{found}
use Rattle.mo_machine.specs.Reductions.{reduces}
use Rattle.mo_machine.specs.Turns.{turn, after, step, steps, then_steps}
use Rattle.elaboration_actors.specs.Saving.{reads_of, reading}
use Rattle.elaboration_starts.proofs.Alongside.{conf}
use Rattle.elaboration_starts.proofs.Evaluating.{list_back, steps_and}

-- these names are of cells that hold these values
abbrev pub Hold : Environment → Store → List ℕ → List Value → Type 0
Hold env store [] [] = Unit {0}
Hold env store (x ∷ xs) (v ∷ vs) = ((c : Value) × (at env x ≡ Some c) × (held store (cell_of c) ≡ Some v)) × Hold env store xs vs
Hold env store _ _ = ⊥

pub reads_live : (xs : List ℕ) → live_all (reads_of xs) ≡ 0
reads_live [] = refl
reads_live (x ∷ xs) = let z : live_all (reads_of xs) ≡ 0 = reads_live xs in omega (arith, z)

module _ (s : Surroundings) (prints : List Bytes) (calls : List Outgoing) (store : Store) where
  abbrev C : ℕ → ℕ → Focus → Stack → Configuration
  C w d f k = conf w d prints calls store f k

  -- it comes there at no more than this
  pub record Cheaply (w d : ℕ) (f : Focus) (k : Stack) (g : Focus) (l : Stack) (most deep : ℕ) : Type 0 where
    pub steps_to : ℕ
    pub weight : ℕ
    pub depth : ℕ
    pub by : steps s steps_to (C w d f k) ≡ Still (C weight depth g l)
    pub light : weight ≤ most
    pub shallow : depth ≤ deep

  pub step_cheaply : (w d w1 d1 : ℕ) (f f1 g : Focus) (k k1 l : Stack) (most deep : ℕ) → step s (C w d f k) ≡ Still (C w1 d1 f1 k1) → Cheaply w1 d1 f1 k1 g l most deep → Cheaply w d f k g l most deep
  step_cheaply w d w1 d1 f f1 g k k1 l most deep e q = record { steps_to = suc q.steps_to; weight = q.weight; depth = q.depth; by = ap (then_steps s (steps s q.steps_to)) e ∙ q.by; light = q.light; shallow = q.shallow }

  pub here_cheaply : (w d : ℕ) (f : Focus) (k : Stack) (most deep : ℕ) → w ≤ most → d ≤ deep → Cheaply w d f k f k most deep
  here_cheaply w d f k most deep h i = record { steps_to = 0; weight = w; depth = d; by = refl; light = h; shallow = i }

  module _ (env : Environment) (k : Stack) where
    abbrev tuple : List Value → List ℕ → Stack
    tuple done xs = Operands (action.Operate op.MakeTuple) done (reads_of xs) env ∷ k

    -- one cell behind others
    read_one : (x : ℕ) (c v : Value) (done : List Value) (xs : List ℕ) (w d : ℕ) (g : Focus) (l : Stack) (most deep : ℕ) → at env x ≡ Some c → held store (cell_of c) ≡ Some v
        → ((d1 : ℕ) → d1 ≤ max d (live_on k) → Cheaply (w + 1) d1 (Give v) (tuple done xs) g l most deep) → Cheaply w d (Eval (Do action.Read (AnExp (Name x) NoExp)) env) (tuple done xs) g l most deep
    read_one x c v done xs w d g l most deep e h go =
        step_cheaply w d w d (Eval (Do action.Read (AnExp (Name x) NoExp)) env) (Eval (Name x) env) g (tuple done xs) inner l most deep refl
        (step_cheaply w d w d (Eval (Name x) env) (Give c) g inner inner l most deep (ap (λ o. after s (C w d (Eval (Name x) env) inner) (turn s (C w d (Eval (Name x) env) inner) (reduces (head_at s.types) None store (Eval (Name x) env) inner)) (found o inner)) e)
        (step_cheaply w d w d (Give c) (Ready action.Read (c ∷ [])) g inner (tuple done xs) l most deep refl
        (step_cheaply w d (w + 1) d1 (Ready action.Read (c ∷ [])) (Give v) g (tuple done xs) (tuple done xs) l most deep (ap (λ o. turn s (C w d (Ready action.Read (c ∷ [])) (tuple done xs)) (on_stack store (goes_to store o) (tuple done xs))) h)
        (go d1 (let z : live_all (reads_of xs) ≡ 0 = reads_live xs in omega (arith, z))))))
      where
        inner : Stack
        inner = Operands action.Read [] NoExp env ∷ tuple done xs

        d1 : ℕ
        d1 = max (max d (live_state (Ready action.Read (c ∷ [])) (tuple done xs) + 16 * 0)) (live_state (Give v) (tuple done xs))

    assoc : {A : Type 0} (xs : List A) (x : A) (ys : List A) → (xs ++ x ∷ []) ++ ys ≡ xs ++ x ∷ ys
    assoc [] x ys = refl
    assoc (z ∷ xs) x ys = ap (λ r. z ∷ r) (assoc xs x ys)

    read_all : (x : ℕ) (xs : List ℕ) (v : Value) (vs done : List Value) (w d most deep : ℕ) → Hold env store (x ∷ xs) (v ∷ vs) → w + suc (length vs) ≤ most → max d (live_on k) ≤ deep
        → Cheaply w d (Eval (Do action.Read (AnExp (Name x) NoExp)) env) (tuple done xs) (Ready (action.Operate op.MakeTuple) (done ++ v ∷ vs)) k most deep
    read_all x [] v [] done w d most deep h le low =
        read_one x (h.0.0) v done [] w d (Ready (action.Operate op.MakeTuple) (done ++ v ∷ [])) k most deep (h.0.1) (h.0.2)
        (λ d1 i. step_cheaply (w + 1) d1 (w + 1) d1 (Give v) (Ready (action.Operate op.MakeTuple) (done ++ v ∷ [])) (Ready (action.Operate op.MakeTuple) (done ++ v ∷ [])) (tuple done []) k k most deep refl
        (here_cheaply (w + 1) d1 (Ready (action.Operate op.MakeTuple) (done ++ v ∷ [])) k most deep (omega (arith, le)) (omega (arith, i, low))))
    read_all x [] v (u ∷ vs) done w d most deep h le low = absurd (h.1)
    read_all x (y ∷ xs) v [] done w d most deep h le low = absurd (h.1)
    read_all x (y ∷ xs) v (u ∷ vs) done w d most deep h le low =
        read_one x (h.0.0) v done (y ∷ xs) w d (Ready (action.Operate op.MakeTuple) (done ++ v ∷ u ∷ vs)) k most deep (h.0.1) (h.0.2)
        (λ d1 i. step_cheaply (w + 1) d1 (w + 1) d1 (Give v) (Eval (Do action.Read (AnExp (Name y) NoExp)) env) (Ready (action.Operate op.MakeTuple) (done ++ v ∷ u ∷ vs)) (tuple done (y ∷ xs)) (tuple (done ++ v ∷ []) xs) k most deep refl
        (subst (λ ys. Cheaply (w + 1) d1 (Eval (Do action.Read (AnExp (Name y) NoExp)) env) (tuple (done ++ v ∷ []) xs) (Ready (action.Operate op.MakeTuple) ys) k most deep) (assoc done v (u ∷ vs))
        (read_all y xs u vs (done ++ v ∷ []) (w + 1) d1 most deep (h.1) (omega (arith, le)) (omega (arith, i, low)))))

    pub reading_cheap : (xs : List ℕ) (vs : List Value) (w d : ℕ) → Hold env store xs vs → Cheaply w d (Eval (reading xs) env) k (Give (Made Tuple (gathered vs))) k (w + length vs + (2 + length vs)) (max d (live_on k))
    reading_cheap [] [] w d h =
        step_cheaply w d w d (Eval (reading []) env) (Ready (action.Operate op.MakeTuple) []) (Give (Made Tuple (gathered []))) k k k (w + 0 + (2 + 0)) (max d (live_on k)) refl
        (step_cheaply w d (w + 2) (max (max d (live_state (Ready (action.Operate op.MakeTuple) []) k + 16 * 0)) (live_state (Give (Made Tuple (gathered []))) k)) (Ready (action.Operate op.MakeTuple) []) (Give (Made Tuple (gathered []))) (Give (Made Tuple (gathered []))) k k k (w + 0 + (2 + 0)) (max d (live_on k)) refl
        (here_cheaply (w + 2) (max (max d (live_state (Ready (action.Operate op.MakeTuple) []) k + 16 * 0)) (live_state (Give (Made Tuple (gathered []))) k)) (Give (Made Tuple (gathered []))) k (w + 0 + (2 + 0)) (max d (live_on k)) (omega arith) (omega arith)))
    reading_cheap [] (v ∷ vs) w d h = absurd h
    reading_cheap (x ∷ xs) [] w d h = absurd h
    reading_cheap (x ∷ xs) (v ∷ vs) w d h =
        step_cheaply w d w d (Eval (reading (x ∷ xs)) env) (Eval (Do action.Read (AnExp (Name x) NoExp)) env) (Give (Made Tuple (gathered (v ∷ vs)))) k (tuple [] xs) k (w + suc (length vs) + (2 + suc (length vs))) (max d (live_on k)) refl
        (join (read_all x xs v vs [] w d (w + suc (length vs)) (max d (live_on k)) h (omega arith) (omega arith)))
      where
        many : (vs : List Value) → length (shapes_list vs) ≡ length vs
        many [] = refl
        many (v ∷ vs) = ap (λ n. suc n) (many vs)

        join : Cheaply w d (Eval (Do action.Read (AnExp (Name x) NoExp)) env) (tuple [] xs) (Ready (action.Operate op.MakeTuple) (v ∷ vs)) k (w + suc (length vs)) (max d (live_on k))
            → Cheaply w d (Eval (Do action.Read (AnExp (Name x) NoExp)) env) (tuple [] xs) (Give (Made Tuple (gathered (v ∷ vs)))) k (w + suc (length vs) + (2 + suc (length vs))) (max d (live_on k))
        join r = record {
          steps_to = r.steps_to + 1;
          weight = r.weight + (2 + length (shapes_list (v ∷ vs)));
          depth = max (max r.depth (live_state (Ready (action.Operate op.MakeTuple) (v ∷ vs)) k + 16 * 0)) (live_state (Give (Made Tuple (gathered (v ∷ vs)))) k);
          by = steps_and s r.steps_to 1 (C w d (Eval (Do action.Read (AnExp (Name x) NoExp)) env) (tuple [] xs)) (C r.weight r.depth (Ready (action.Operate op.MakeTuple) (v ∷ vs)) k) r.by
              ∙ ap (λ x. Still (C (r.weight + (2 + length (shapes_list (v ∷ vs)))) (max (max r.depth (live_state (Ready (action.Operate op.MakeTuple) (v ∷ vs)) k + 16 * 0)) (live_state (Give (Made Tuple (gathered (v ∷ vs)))) k)) (Give (Made Tuple x)) k)) (list_back (v ∷ vs));
          light = let z : r.weight ≤ w + suc (length vs) = r.light in let y : length (shapes_list vs) ≡ length vs = many vs in omega (arith, z, y);
          shallow = let z : r.depth ≤ max d (live_on k) = r.shallow in omega (arith, z);
        }
