-- Declarations nest no more than so much around what stands behind them, in whatever order they stand.
use Rattle.std.proofs.Common.{◌≡◌, ◌≤◌, ◌<◌, ℕ, suc, ◌+◌, Bool, true, false, List, [], ◌∷◌, ◌++◌, map, Option, Some, None, refl, sym, ap, subst, arith}
use Rattle.std.specs.Prelude.{cond, nat_eq, filter, flat_map}
use Rattle.typed_tree.specs.declared.expression.Form.TheOpen as F
use Rattle.typed_tree.specs.declared.expression.Function.{Function}
use Rattle.typed_tree.specs.declared.expression.Step.{Step, roll-Step}
use Rattle.typed_tree.specs.declared.expression.TypedExpression.{TypedExpression}
use Rattle.typed_tree.specs.declared.pattern.TypedPattern.{TypedPattern}
use Rattle.typed_tree.specs.Language.{Exp}
use Rattle.typed_tree.specs.PatternView.{pattern}
use Rattle.typed_tree.specs.Placing.{Declared, place}
use Rattle.typed_tree.specs.View.{StepView, FunctionView, block, declaration, expression, function, group}
use Rattle.desugaring.specs.Frames.{Frame, with_entries}
use Rattle.desugaring.specs.Pieces.{Becomes, AStep, AFunction, AnExpression, Nothing, Piece, Arranged, Named, before, function_of, group_at, names_of, group_steps, ended, placed_piece, is_end, arranged_from, arranged}
use Rattle.nesting.specs.Shapes.{tests, tests_all, nest, pile, Shaped, ShapedFunctions, Fine}
use Rattle.tree_shapes.proofs.Single.{let_is, var_is, stable_is, evaluated_is, functions_is}

-- ---- functions

pub record FunctionFine (v : FunctionView) : Type 0 where
  pub few : tests_all v.parameters + nest v.body < v.nodes
  pub light : pile 1 1 v.body < v.nodes
  pub shaped : Shaped v.body

abbrev pub FunctionsFine : List Function → Type 0
FunctionsFine [] = Unit {0}
FunctionsFine (f ∷ fs) = FunctionFine (function f) × FunctionsFine fs

group_shaped : (fs : List Function) → FunctionsFine fs → ShapedFunctions (group (map function fs))
group_shaped [] h = tt
group_shaped (f ∷ fs) h = (h.0.few, h.0.light, h.0.shaped, group_shaped fs h.1)

-- ---- one declaration

-- around what stands behind it
pub record StepFine (k : ℕ) (d : StepView) : Type 0 where
  pub few : (r : Exp) → nest (d r) ≤ k + nest r
  pub light : (r : Exp) → pile 1 1 (d r) ≤ k + pile 1 1 r
  pub shaped : (r : Exp) → Shaped r → Shaped (d r)

pub let_fine : (q : TypedPattern) (a : TypedExpression) (m k : ℕ) → tests (pattern q) ≤ m → Fine k (expression a) → StepFine (m + k) (declaration (roll-Step (F.Let q a)))
let_fine q a m k t h = record {
  few = λ r. let x : nest (expression a) < k = h.few in omega (arith, ap nest (let_is q a r), t, x);
  light = λ r. let x : pile 1 1 (expression a) < k = h.light in omega (arith, ap (λ e. pile 1 1 e) (let_is q a r), t, x);
  shaped = λ r s. subst Shaped (sym (let_is q a r)) (h.shaped, (s, tt));
}

pub var_fine : (a : TypedExpression) (k : ℕ) → Fine k (expression a) → StepFine k (declaration (roll-Step (F.Var a)))
var_fine a k h = record {
  few = λ r. let x : nest (expression a) < k = h.few in omega (arith, ap nest (var_is a r), x);
  light = λ r. let x : pile 1 1 (expression a) < k = h.light in omega (arith, ap (λ e. pile 1 1 e) (var_is a r), x);
  shaped = λ r s. subst Shaped (sym (var_is a r)) ((tt, (h.shaped, tt)), (s, tt));
}

pub stable_fine : (x : ℕ) (a : TypedExpression) (k : ℕ) → Fine k (expression a) → StepFine (suc k) (declaration (roll-Step (F.Stable x a)))
stable_fine x a k h = record {
  few = λ r. let y : nest (expression a) < k = h.few in omega (arith, ap nest (stable_is x a r), y);
  light = λ r. let y : pile 1 1 (expression a) < k = h.light in omega (arith, ap (λ e. pile 1 1 e) (stable_is x a r), y);
  shaped = λ r s. subst Shaped (sym (stable_is x a r)) ((tt, ((tt, (h.shaped, (tt, tt))), tt)), (s, tt));
}

pub evaluated_fine : (a : TypedExpression) (k : ℕ) → Fine k (expression a) → StepFine k (declaration (roll-Step (F.Evaluate a)))
evaluated_fine a k h = record {
  few = λ r. let x : nest (expression a) < k = h.few in omega (arith, ap nest (evaluated_is a r), x);
  light = λ r. let x : pile 1 1 (expression a) < k = h.light in omega (arith, ap (λ e. pile 1 1 e) (evaluated_is a r), x);
  shaped = λ r s. subst Shaped (sym (evaluated_is a r)) (h.shaped, (s, tt));
}

pub functions_fine : (fs : List Function) → FunctionsFine fs → StepFine 0 (declaration (roll-Step (F.Functions fs)))
functions_fine fs h = record {
  few = λ r. omega (arith, ap nest (functions_is fs r));
  light = λ r. omega (arith, ap (λ e. pile 1 1 e) (functions_is fs r));
  shaped = λ r s. subst Shaped (sym (functions_is fs r)) (group_shaped fs h, s);
}

pub step_more : (k l : ℕ) (d : StepView) → k ≤ l → StepFine k d → StepFine l d
step_more k l d m h = record { few = λ r. omega (arith, m, h.few r); light = λ r. omega (arith, m, h.light r); shaped = λ r s. h.shaped r s }

-- ---- several

abbrev pub all_of : List Step → StepView
all_of steps r = block (map declaration steps) r

pub none_fine : StepFine 0 (all_of [])
none_fine = record { few = λ r. omega arith; light = λ r. omega arith; shaped = λ r s. s }

pub more_fine : (d : Step) (steps : List Step) (k l : ℕ) → StepFine k (declaration d) → StepFine l (all_of steps) → StepFine (k + l) (all_of (d ∷ steps))
more_fine d steps k l h i = record {
  few = λ r. omega (arith, h.few (all_of steps r), i.few r);
  light = λ r. omega (arith, h.light (all_of steps r), i.light r);
  shaped = λ r s. h.shaped (all_of steps r) (i.shaped r s);
}

both : (xs ys : List Step) (r : Exp) → all_of (xs ++ ys) r ≡ all_of xs (all_of ys r)
both [] ys r = refl
both (x ∷ xs) ys r = ap (declaration x) (both xs ys r)

both_fine : (xs ys : List Step) (k l : ℕ) → StepFine k (all_of xs) → StepFine l (all_of ys) → StepFine (k + l) (all_of (xs ++ ys))
both_fine xs ys k l h i = record {
  few = λ r. omega (arith, ap nest (both xs ys r), h.few (all_of ys r), i.few r);
  light = λ r. omega (arith, ap (λ e. pile 1 1 e) (both xs ys r), h.light (all_of ys r), i.light r);
  shaped = λ r s. subst Shaped (sym (both xs ys r)) (h.shaped (all_of ys r) (i.shaped r s));
}

-- ---- what a list becomes

abbrev pub LastFine : ℕ → Option TypedExpression → Type 0
LastFine l None = Unit {0}
LastFine l (Some e) = Fine l (expression e)

pub record ArrangedFine (k : ℕ) (a : Arranged) : Type 0 where
  pub around : ℕ
  pub last : ℕ
  pub sum : around + last ≤ k
  pub steps : StepFine around (all_of a.steps)
  pub ends : LastFine last a.last

before_fine : (steps : List Step) (a : Arranged) (k l : ℕ) → StepFine k (all_of steps) → ArrangedFine l a → ArrangedFine (k + l) (before steps a)
before_fine steps a k l h i = record {
  around = k + i.around;
  last = i.last;
  sum = let z : i.around + i.last ≤ l = i.sum in omega (arith, z);
  steps = both_fine steps a.steps k i.around h i.steps;
  ends = i.ends;
}

-- more may be allowed
more : (k l : ℕ) (a : Arranged) → k ≤ l → ArrangedFine k a → ArrangedFine l a
more k l a m h = record { around = h.around; last = h.last; sum = let z : h.around + h.last ≤ k = h.sum in omega (arith, m, z); steps = h.steps; ends = h.ends }

one_step : (d : Step) (k : ℕ) → StepFine k (declaration d) → StepFine k (all_of (d ∷ []))
one_step d k h = record { few = λ r. h.few r; light = λ r. h.light r; shaped = λ r s. h.shaped r s }

-- a piece comes to no more than this, whatever stands around it; functions come to nothing
abbrev pub PieceFine : Becomes → ℕ → Type 0
PieceFine (AStep binds step) m = (f : Frame) → StepFine m (declaration (step f))
PieceFine (AFunction x g) m = (f : Frame) → FunctionFine (function (g f))
PieceFine (AnExpression e) m = (f : Frame) → Fine m (expression (e f))
PieceFine Nothing m = Unit {0}

abbrev pub PiecesFine : List Piece → List ℕ → Type 0
PiecesFine [] [] = Unit {0}
PiecesFine (b ∷ bs) (m ∷ ms) = PieceFine b.becomes m × PiecesFine bs ms
PiecesFine _ _ = ⊥

abbrev pub sum_of : List ℕ → ℕ
sum_of [] = 0
sum_of (m ∷ ms) = m + sum_of ms

abbrev NamedFine : List Named → Type 0
NamedFine [] = Unit {0}
NamedFine (g ∷ gs) = ((f : Frame) → FunctionFine (function (g.1 f))) × NamedFine gs

named_made : (frame : Frame) (gs : List Named) → NamedFine gs → FunctionsFine (map (λ g. g.1 frame) gs)
named_made frame [] h = tt
named_made frame (g ∷ gs) h = (h.0 frame, named_made frame gs h.1)

group_fine : (gs : List Named) (frame : Frame) → NamedFine gs → StepFine 0 (all_of (group_steps gs frame))
group_fine [] frame h = none_fine
group_fine (g ∷ gs) frame h =
    let inner = with_entries (names_of (g ∷ gs)) frame in
    one_step (roll-Step (F.Functions (map (λ f. f.1 inner) (g ∷ gs)))) 0 (functions_fine (map (λ f. f.1 inner) (g ∷ gs)) (named_made inner (g ∷ gs) h))

module _ (all : List Declared) where
  group_of : (n : ℕ) (bs : List Piece) (ms : List ℕ) → PiecesFine bs ms → NamedFine (group_at all n bs)
  group_of n [] [] c = tt
  group_of n [] (m ∷ ms) c = absurd c
  group_of n (b ∷ bs) [] c = absurd c
  group_of n (b ∷ bs) (m ∷ ms) c = by (nat_eq (place all b.declared) n) (group_of n bs ms c.1)
    where
      one : (d : Becomes) → PieceFine d m → (gs : List Named) → NamedFine gs → NamedFine (function_of d ++ gs)
      one (AStep binds step) h gs i = i
      one (AFunction x g) h gs i = (h, i)
      one (AnExpression e) h gs i = i
      one Nothing h gs i = i

      by : (t : Bool) → NamedFine (group_at all n bs)
          → NamedFine (flat_map (λ d. function_of d.becomes) (cond t (b ∷ filter (λ d. nat_eq (place all d.declared) n) bs) (filter (λ d. nat_eq (place all d.declared) n) bs)))
      by true h = one b.becomes c.0 (group_at all n bs) h
      by false h = h

  module _ (pieces : List Piece) (ms : List ℕ) (c : PiecesFine pieces ms) (has_value : Bool) where
    one_piece : (b : Becomes) (m : ℕ) → PieceFine b m → (is_last : Bool) (next : Frame → Arranged) (rest : ℕ) → ((frame : Frame) → ArrangedFine rest (next frame)) → (frame : Frame)
        → ArrangedFine (m + rest) (placed_piece b is_last next frame)
    one_piece (AStep binds step) m h is_last next rest r frame = before_fine (step frame ∷ []) (next (with_entries binds frame)) m rest (one_step (step frame) m (h frame)) (r (with_entries binds frame))
    one_piece (AFunction x g) m h is_last next rest r frame = more rest (m + rest) (next frame) (omega arith) (r frame)
    one_piece (AnExpression e) m h true next rest r frame = record { around = 0; last = m; sum = omega arith; steps = none_fine; ends = h frame }
    one_piece (AnExpression e) m h false next rest r frame =
        before_fine (roll-Step (F.Evaluate (e frame)) ∷ []) (next frame) m rest (one_step (roll-Step (F.Evaluate (e frame))) m (evaluated_fine (e frame) m (h frame))) (r frame)
    one_piece Nothing m h is_last next rest r frame = more rest (m + rest) (next frame) (omega arith) (r frame)

    arranged_fine : (n : ℕ) (bs : List Piece) (ns : List ℕ) → PiecesFine bs ns → (frame : Frame) → ArrangedFine (sum_of ns) (arranged_from all pieces has_value n bs frame)
    arranged_fine n [] [] h frame =
        let gs = group_at all n pieces in
        before_fine (group_steps gs frame) (ended (with_entries (names_of gs) frame)) 0 0 (group_fine gs frame (group_of n pieces ms c)) (record { around = 0; last = 0; sum = omega arith; steps = none_fine; ends = tt })
    arranged_fine n [] (m ∷ ns) h frame = absurd h
    arranged_fine n (b ∷ bs) [] h frame = absurd h
    arranged_fine n (b ∷ bs) (m ∷ ns) h frame =
        let gs = group_at all n pieces in
        let inner = with_entries (names_of gs) frame in
        more (0 + (m + sum_of ns)) (m + sum_of ns) _ (omega arith)
        (before_fine (group_steps gs frame) (placed_piece b.becomes (is_end all pieces has_value bs) (arranged_from all pieces has_value (suc n) bs) inner) 0 (m + sum_of ns) (group_fine gs frame (group_of n pieces ms c))
        (one_piece b.becomes m h.0 (is_end all pieces has_value bs) (arranged_from all pieces has_value (suc n) bs) (sum_of ns) (λ f. arranged_fine (suc n) bs ns h.1 f) inner))

-- the steps and the value of a list
pub list_fine : (has_value : Bool) (pieces : List Piece) (ms : List ℕ) → PiecesFine pieces ms → (frame : Frame) → ArrangedFine (sum_of ms) (arranged has_value pieces frame)
list_fine has_value pieces ms c frame = arranged_fine (map (λ b. b.declared) pieces) pieces ms c has_value 0 pieces ms c frame
