-- What the steps of a list come to: each function is placed once.
use Rattle.std.proofs.Common.{◌≡◌, ◌≤◌, ℕ, zero, suc, ◌+◌, Bool, true, false, List, [], ◌∷◌, ◌++◌, map, Option, Some, None, refl, sym, ap, subst, arith}
use Rattle.std.proofs.Math.Dec.{eqb-suc-zero, eqb-zero-suc, eqb-suc-suc}
use Rattle.std.specs.Prelude.{cond, nat_eq, filter, flat_map}
use Rattle.typed_tree.specs.declared.expression.Form.TheOpen as F
use Rattle.typed_tree.specs.declared.expression.Function.{Function}
use Rattle.typed_tree.specs.declared.expression.Step.{Step, roll-Step}
use Rattle.typed_tree.specs.declared.expression.TypedExpression.{TypedExpression}
use Rattle.typed_tree.specs.Nodes.{StepNodes, total, in_expression, in_step}
use Rattle.typed_tree.specs.Placing.{Declared, place}
use Rattle.desugaring.specs.Frames.{Frame, with_entries}
use Rattle.desugaring.specs.Pieces.{Becomes, AStep, AFunction, AnExpression, Nothing, Piece, Arranged, Named, before, function_of, group_at, names_of, group_steps, ended, placed_piece, is_end, arranged_from, arranged}

-- functions of this number of nodes, each with its own
abbrev pub each : (Function → ℕ) → List Function → ℕ
each weigh [] = 0
each weigh (f ∷ fs) = 1 + weigh f + each weigh fs

abbrev pub sum : List ℕ → ℕ
sum [] = 0
sum (m ∷ ms) = m + sum ms

-- what is counted of steps and functions
module _ (pick : StepNodes → ℕ) (weigh : Function → ℕ)
    (evaluated : (a : TypedExpression) → pick (in_step (roll-Step (F.Evaluate a))) ≡ in_expression a)
    (functions : (fs : List Function) → pick (in_step (roll-Step (F.Functions fs))) ≡ each weigh fs) where
  abbrev pub cost : List Step → ℕ
  cost steps = total (map pick (map in_step steps))

  abbrev pub last_cost : Option TypedExpression → ℕ
  last_cost None = 0
  last_cost (Some e) = in_expression e

  -- a piece comes to at most this, whatever stands around it
  abbrev pub Costs : Becomes → ℕ → Type 0
  Costs (AStep binds step) m = (f : Frame) → pick (in_step (step f)) ≤ m
  Costs (AFunction x g) m = (f : Frame) → 1 + weigh (g f) ≤ m
  Costs (AnExpression e) m = (f : Frame) → in_expression (e f) ≤ m
  Costs Nothing m = Unit {0}

  abbrev pub AllCost : List Piece → List ℕ → Type 0
  AllCost [] [] = Unit {0}
  AllCost (b ∷ bs) (m ∷ ms) = Costs b.becomes m × AllCost bs ms
  AllCost _ _ = ⊥

  cost_append : (xs ys : List Step) → cost (xs ++ ys) ≡ cost xs + cost ys
  cost_append [] ys = omega arith
  cost_append (x ∷ xs) ys = omega (arith, cost_append xs ys)

  -- m where the place is the n-th, and where it is not before the n-th
  abbrev at : ℕ → ℕ → ℕ → ℕ
  at n k m = cond (nat_eq k n) m 0

  abbrev from : ℕ → ℕ → ℕ → ℕ
  from zero k m = m
  from (suc n) zero m = 0
  from (suc n) (suc k) m = from n k m

  at_or_behind : (n k m : ℕ) → at n k m + from (suc n) k m ≤ from n k m
  at_or_behind zero zero m =
      let a : at zero zero m ≡ m = refl in
      let f : from (suc zero) zero m ≡ 0 = refl in
      let g : from zero zero m ≡ m = refl in
      omega (arith, a, f, g)
  at_or_behind zero (suc k) m =
      let a : at zero (suc k) m ≡ 0 = ap (λ b. cond b m 0) (eqb-suc-zero k) in
      let f : from (suc zero) (suc k) m ≡ m = refl in
      let g : from zero (suc k) m ≡ m = refl in
      omega (arith, a, f, g)
  at_or_behind (suc n) zero m =
      let a : at (suc n) zero m ≡ 0 = ap (λ b. cond b m 0) (eqb-zero-suc n) in
      let f : from (suc (suc n)) zero m ≡ 0 = refl in
      let g : from (suc n) zero m ≡ 0 = refl in
      omega (arith, a, f, g)
  at_or_behind (suc n) (suc k) m =
      let a : at (suc n) (suc k) m ≡ at n k m = ap (λ b. cond b m 0) (eqb-suc-suc k n) in
      let f : from (suc (suc n)) (suc k) m ≡ from (suc n) k m = refl in
      let g : from (suc n) (suc k) m ≡ from n k m = refl in
      omega (arith, a, f, g, at_or_behind n k m)

  -- of what is a function, and of what is none
  abbrev of_function : Becomes → ℕ → ℕ
  of_function (AFunction x g) m = m
  of_function _ m = 0

  abbrev of_other : Becomes → ℕ → ℕ
  of_other (AFunction x g) m = 0
  of_other _ m = m

  abbrev others : List Piece → List ℕ → ℕ
  others [] ms = 0
  others (b ∷ bs) [] = 0
  others (b ∷ bs) (m ∷ ms) = of_other b.becomes m + others bs ms

  both_parts : (b : Becomes) (m : ℕ) → of_other b m + of_function b m ≡ m
  both_parts (AStep binds step) m = omega arith
  both_parts (AFunction x g) m = omega arith
  both_parts (AnExpression e) m = omega arith
  both_parts Nothing m = omega arith

  module _ (all : List Declared) where
    abbrev functions_at : ℕ → List Piece → List ℕ → ℕ
    functions_at n [] ms = 0
    functions_at n (b ∷ bs) [] = 0
    functions_at n (b ∷ bs) (m ∷ ms) = at n (place all b.declared) (of_function b.becomes m) + functions_at n bs ms

    abbrev functions_from : ℕ → List Piece → List ℕ → ℕ
    functions_from n [] ms = 0
    functions_from n (b ∷ bs) [] = 0
    functions_from n (b ∷ bs) (m ∷ ms) = from n (place all b.declared) (of_function b.becomes m) + functions_from n bs ms

    split : (n : ℕ) (bs : List Piece) (ms : List ℕ) → functions_at n bs ms + functions_from (suc n) bs ms ≤ functions_from n bs ms
    split n [] ms = omega arith
    split n (b ∷ bs) [] = omega arith
    split n (b ∷ bs) (m ∷ ms) = omega (arith, at_or_behind n (place all b.declared) (of_function b.becomes m), split n bs ms)

    whole : (bs : List Piece) (ms : List ℕ) → others bs ms + functions_from zero bs ms ≤ sum ms
    whole [] ms = omega arith
    whole (b ∷ bs) [] = omega arith
    whole (b ∷ bs) (m ∷ ms) = omega (arith, both_parts b.becomes m, whole bs ms)

    -- ---- one group

    abbrev named : Frame → List Named → ℕ
    named frame [] = 0
    named frame (g ∷ gs) = 1 + weigh (g.1 frame) + named frame gs

    named_each : (frame : Frame) (gs : List Named) → each weigh (map (λ g. g.1 frame) gs) ≡ named frame gs
    named_each frame [] = refl
    named_each frame (g ∷ gs) = omega (arith, named_each frame gs)

    group_cost : (frame : Frame) (gs : List Named) → cost (group_steps gs frame) ≡ named (with_entries (names_of gs) frame) gs
    group_cost frame [] = refl
    group_cost frame (g ∷ gs) =
        let inner = with_entries (names_of (g ∷ gs)) frame in
        let e = functions (map (λ h. h.1 inner) (g ∷ gs)) in
        omega (arith, e, named_each inner (g ∷ gs))

    group_of : (n : ℕ) (frame : Frame) (bs : List Piece) (ms : List ℕ) → AllCost bs ms → named frame (group_at all n bs) ≤ functions_at n bs ms
    group_of n frame [] [] c = omega arith
    group_of n frame [] (m ∷ ms) c = absurd c
    group_of n frame (b ∷ bs) [] c = absurd c
    group_of n frame (b ∷ bs) (m ∷ ms) c = by (nat_eq (place all b.declared) n) refl (group_of n frame bs ms c.1) where
      one : (d : Becomes) → Costs d m → (gs : List Named) → named frame (function_of d ++ gs) ≤ of_function d m + named frame gs
      one (AStep binds step) h gs = omega arith
      one (AFunction x g) h gs = omega (arith, h frame)
      one (AnExpression e) h gs = omega arith
      one Nothing h gs = omega arith

      by : (t : Bool) → nat_eq (place all b.declared) n ≡ t → named frame (group_at all n bs) ≤ functions_at n bs ms
          → named frame (flat_map (λ d. function_of d.becomes) (cond (nat_eq (place all b.declared) n) (b ∷ filter (λ d. nat_eq (place all d.declared) n) bs) (filter (λ d. nat_eq (place all d.declared) n) bs)))
          ≤ cond (nat_eq (place all b.declared) n) (of_function b.becomes m) 0 + functions_at n bs ms
      by true e h =
          subst (λ t. named frame (flat_map (λ d. function_of d.becomes) (cond t (b ∷ filter (λ d. nat_eq (place all d.declared) n) bs) (filter (λ d. nat_eq (place all d.declared) n) bs)))
          ≤ cond t (of_function b.becomes m) 0 + functions_at n bs ms) (sym e)
          (let i = one b.becomes c.0 (group_at all n bs) in omega (arith, i, h))
      by false e h =
          subst (λ t. named frame (flat_map (λ d. function_of d.becomes) (cond t (b ∷ filter (λ d. nat_eq (place all d.declared) n) bs) (filter (λ d. nat_eq (place all d.declared) n) bs)))
          ≤ cond t (of_function b.becomes m) 0 + functions_at n bs ms) (sym e)
          (let i : named frame (flat_map (λ d. function_of d.becomes) (filter (λ d. nat_eq (place all d.declared) n) bs)) ≤ functions_at n bs ms = h in omega (arith, i))

    -- ---- the whole list

    abbrev result : Arranged → ℕ
    result a = cost a.steps + last_cost a.last

    before_cost : (steps : List Step) (a : Arranged) → result (before steps a) ≡ cost steps + result a
    before_cost steps a = omega (arith, cost_append steps a.steps)

    module _ (pieces : List Piece) (ms : List ℕ) (c : AllCost pieces ms) (has_value : Bool) where
      one_piece : (b : Becomes) (m : ℕ) → Costs b m → (is_last : Bool) (next : Frame → Arranged) (rest : ℕ) → ((frame : Frame) → result (next frame) ≤ rest) → (frame : Frame)
          → result (placed_piece b is_last next frame) ≤ of_other b m + rest
      one_piece (AStep binds step) m h is_last next rest r frame = omega (arith, before_cost (step frame ∷ []) (next (with_entries binds frame)), h frame, r (with_entries binds frame))
      one_piece (AFunction x g) m h is_last next rest r frame = omega (arith, r frame)
      one_piece (AnExpression e) m h true next rest r frame = omega (arith, h frame)
      one_piece (AnExpression e) m h false next rest r frame = omega (arith, before_cost (roll-Step (F.Evaluate (e frame)) ∷ []) (next frame), evaluated (e frame), h frame, r frame)
      one_piece Nothing m h is_last next rest r frame = omega (arith, r frame)

      arranged_cost : (n : ℕ) (bs : List Piece) (ns : List ℕ) → AllCost bs ns → (frame : Frame) → result (arranged_from all pieces has_value n bs frame) ≤ others bs ns + functions_from n pieces ms
      arranged_cost n [] [] h frame =
          let gs = group_at all n pieces in
          omega (arith, before_cost (group_steps gs frame) (ended (with_entries (names_of gs) frame)), group_cost frame gs, group_of n (with_entries (names_of gs) frame) pieces ms c, split n pieces ms)
      arranged_cost n [] (m ∷ ns) h frame = absurd h
      arranged_cost n (b ∷ bs) [] h frame = absurd h
      arranged_cost n (b ∷ bs) (m ∷ ns) h frame =
          let gs = group_at all n pieces in
          let inner = with_entries (names_of gs) frame in
          let next = placed_piece b.becomes (is_end all pieces has_value bs) (arranged_from all pieces has_value (suc n) bs) in
          omega (
            arith,
            before_cost (group_steps gs frame) (next inner),
            group_cost frame gs,
            group_of n inner pieces ms c,
            one_piece b.becomes m h.0 (is_end all pieces has_value bs) (arranged_from all pieces has_value (suc n) bs) (others bs ns + functions_from (suc n) pieces ms) (arranged_cost (suc n) bs ns h.1) inner,
            split n pieces ms,
          )

  -- the steps and the value of a list
  pub list_cost : (has_value : Bool) (pieces : List Piece) (ms : List ℕ) → AllCost pieces ms → (frame : Frame)
      → cost (arranged has_value pieces frame).steps + last_cost (arranged has_value pieces frame).last ≤ sum ms
  list_cost has_value pieces ms c frame =
      let all = map (λ b. b.declared) pieces in
      omega (arith, arranged_cost all pieces ms c has_value zero pieces ms c frame, whole all pieces ms)
