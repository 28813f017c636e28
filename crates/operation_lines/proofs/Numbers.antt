-- Arithmetic: the codes of routines inline, and calls of them.
use Rattle.std.proofs.Common.{◌≡◌, ◌⊎◌, inl, inr, ℕ, zero, suc, ◌+◌, ◌<◌, ◌≤◌, List, [], ◌∷◌, Bool, true, false, ◌&&◌, ◌||◌, not, cond, nat_eq, nat_le, nat_lt, pos, refl, sym, arith}
use Rattle.std.proofs.lemmas.Bool.Decides.{nat_tests}
use Rattle.mo_num.specs.declared.kind.Kind.{Kind}
use Rattle.mo_num.specs.declared.kind.Kind.TheVariants.{Nat, Int, Nat8, Nat16, Nat32, Nat64, Int8, Int16, Int32, Int64}
use Rattle.mo_num.specs.declared.operator.Operator.{Operator}
use Rattle.mo_num.specs.declared.operator.Operator.TheVariants as operator
use Rattle.mo_values.specs.declared.operation.Wrapping.{Wrapping}
use Rattle.mo_values.specs.Numbers.{has_width}
use Rattle.low_ir.specs.declared.op.Operand.{Operand}
use Rattle.low_ir.specs.declared.op.Operand.TheVariants.{Local, Word, Long}
use Rattle.low_ir.specs.Tree.{Code}
use Rattle.inlined_code.specs.Inlining.{arguments, IsApart, IsOwn}
use Rattle.number_routines.specs.declared.places.TrapPlaces.{TrapPlaces}
use Rattle.number_routines.specs.Codes.{calculate, negate, wrap}
use Rattle.emitted_steps.specs.Operations.{Clear}
use Rattle.operation_codes.specs.Codes.{is_apart, at_once, made_in, returns, one_place, two_places, spare_places, Way, Inline, Spare, Calls, way}
use Rattle.operation_lines.proofs.Placed.{goes_inline, begins_so}
use Rattle.operation_lines.proofs.Work.{clear_first, clear_rest}

-- ---- the locals that codes set

abbrev pub mine_one : ℕ → Bool
mine_one x = nat_eq x 1 || (nat_eq x 4 || nat_eq x 5)

abbrev pub mine_two : ℕ → Bool
mine_two x = nat_eq x 2 || (nat_eq x 5 || nat_eq x 6)

abbrev pub mine_spare : ℕ → Bool
mine_spare x = nat_eq x 3 || mine_two x

-- Codes that go inline, beginning with a local that is set.
abbrev pub Straight : (mine : ℕ → Bool) (count first : ℕ) → Code → Type 0
Straight mine count first c = (begins_so c ≡ true) × (goes_inline mine count c (arguments first) ≡ true)

abbrev pub GoesSo : Way → TrapPlaces → Operator → Kind → Type 0
GoesSo Inline at o k = Straight mine_two 7 2 (calculate at 2 3 4 5 6 o k (Local 0) (Local 1) (returns 2))
GoesSo Spare at o k = Straight mine_spare 7 2 (calculate at 2 3 4 5 6 o k (Local 0) (Local 1) (returns 2))
GoesSo Calls at o k = Unit {0}

pub calculated_goes : (at : TrapPlaces) (o : Operator) (k : Kind) → GoesSo (way o k) at o k
calculated_goes at operator.Add Nat = (refl, refl)
calculated_goes at operator.Add Int = (refl, refl)
calculated_goes at operator.Add Nat8 = (refl, refl)
calculated_goes at operator.Add Nat16 = (refl, refl)
calculated_goes at operator.Add Nat32 = (refl, refl)
calculated_goes at operator.Add Nat64 = (refl, refl)
calculated_goes at operator.Add Int8 = (refl, refl)
calculated_goes at operator.Add Int16 = (refl, refl)
calculated_goes at operator.Add Int32 = (refl, refl)
calculated_goes at operator.Add Int64 = (refl, refl)
calculated_goes at operator.Sub Nat = (refl, refl)
calculated_goes at operator.Sub Int = (refl, refl)
calculated_goes at operator.Sub Nat8 = (refl, refl)
calculated_goes at operator.Sub Nat16 = (refl, refl)
calculated_goes at operator.Sub Nat32 = (refl, refl)
calculated_goes at operator.Sub Nat64 = (refl, refl)
calculated_goes at operator.Sub Int8 = (refl, refl)
calculated_goes at operator.Sub Int16 = (refl, refl)
calculated_goes at operator.Sub Int32 = (refl, refl)
calculated_goes at operator.Sub Int64 = (refl, refl)
calculated_goes at operator.Mul Nat = (refl, refl)
calculated_goes at operator.Mul Int = tt
calculated_goes at operator.Mul Nat8 = (refl, refl)
calculated_goes at operator.Mul Nat16 = (refl, refl)
calculated_goes at operator.Mul Nat32 = (refl, refl)
calculated_goes at operator.Mul Nat64 = (refl, refl)
calculated_goes at operator.Mul Int8 = (refl, refl)
calculated_goes at operator.Mul Int16 = (refl, refl)
calculated_goes at operator.Mul Int32 = (refl, refl)
calculated_goes at operator.Mul Int64 = tt
calculated_goes at operator.Div Nat = (refl, refl)
calculated_goes at operator.Div Int = (refl, refl)
calculated_goes at operator.Div Nat8 = (refl, refl)
calculated_goes at operator.Div Nat16 = (refl, refl)
calculated_goes at operator.Div Nat32 = (refl, refl)
calculated_goes at operator.Div Nat64 = (refl, refl)
calculated_goes at operator.Div Int8 = (refl, refl)
calculated_goes at operator.Div Int16 = (refl, refl)
calculated_goes at operator.Div Int32 = (refl, refl)
calculated_goes at operator.Div Int64 = (refl, refl)
calculated_goes at operator.Rem Nat = (refl, refl)
calculated_goes at operator.Rem Int = (refl, refl)
calculated_goes at operator.Rem Nat8 = (refl, refl)
calculated_goes at operator.Rem Nat16 = (refl, refl)
calculated_goes at operator.Rem Nat32 = (refl, refl)
calculated_goes at operator.Rem Nat64 = (refl, refl)
calculated_goes at operator.Rem Int8 = (refl, refl)
calculated_goes at operator.Rem Int16 = (refl, refl)
calculated_goes at operator.Rem Int32 = (refl, refl)
calculated_goes at operator.Rem Int64 = (refl, refl)
calculated_goes at operator.Pow k = tt

pub negated_goes : (at : TrapPlaces) (k : Kind) → Straight mine_one 6 1 (negate at 1 2 3 4 5 k (Local 0) (returns 1))
negated_goes at Nat = (refl, refl)
negated_goes at Int = (refl, refl)
negated_goes at Nat8 = (refl, refl)
negated_goes at Nat16 = (refl, refl)
negated_goes at Nat32 = (refl, refl)
negated_goes at Nat64 = (refl, refl)
negated_goes at Int8 = (refl, refl)
negated_goes at Int16 = (refl, refl)
negated_goes at Int32 = (refl, refl)
negated_goes at Int64 = (refl, refl)

pub wrapped_goes : (w : Wrapping) (k : Kind) → has_width k ≡ true → Straight mine_two 7 2 (wrap 2 w k (Local 0) (Local 1) (returns 2))
wrapped_goes w Nat wide = absurd (cc wide)
wrapped_goes w Int wide = absurd (cc wide)
wrapped_goes w Nat8 wide = (refl, refl)
wrapped_goes w Nat16 wide = (refl, refl)
wrapped_goes w Nat32 wide = (refl, refl)
wrapped_goes w Nat64 wide = (refl, refl)
wrapped_goes w Int8 wide = (refl, refl)
wrapped_goes w Int16 wide = (refl, refl)
wrapped_goes w Int32 wide = (refl, refl)
wrapped_goes w Int64 wide = (refl, refl)

-- ---- the locals of the function

same_number : (i j : ℕ) → nat_eq i j ≡ true → i ≡ j
same_number i j e = grind (arith, nat_tests, e)

other_number : (i j : ℕ) → nat_eq i j ≡ false → i ≡ j → ⊥
other_number i j e k = grind (arith, nat_tests, e, k)

-- an operand is none of the three free locals
pub clear_apart : (free w : ℕ) (a : Operand) → Clear free (a ∷ []) → free ≤ w → w < 3 + free → IsApart a w
clear_apart free w (Local z) c le lt = apart c.0
  where
    apart : (z < free) ⊎ (3 + free ≤ z) → z ≡ w → ⊥
    apart (inl a) e = omega (arith, a, e, le)
    apart (inr a) e = omega (arith, a, e, lt)
clear_apart free w (Word z) c le lt = tt
clear_apart free w (Long z) c le lt = tt

-- Where the result is made: no operand stands there, and it is none of the two tests.
pub record IsFree (free size r : ℕ) (a b : Operand) : Type 0 where
  pub first : IsApart a r
  pub second : IsApart b r
  pub one : free ≡ r → ⊥
  pub two : 1 + free ≡ r → ⊥
  pub there : r < size
  pub tests : 2 + free < size
  pub clear_one : Clear free (a ∷ [])
  pub clear_two : Clear free (b ∷ [])

apart_true : (to : ℕ) (a : Operand) (xs : List Operand) → is_apart to (a ∷ xs) ≡ true → IsApart a to × (is_apart to xs ≡ true)
apart_true to (Local x) xs e = by (nat_eq x to) refl e
  where
    by : (t : Bool) → nat_eq x to ≡ t → (not t && is_apart to xs) ≡ true → (x ≡ to → ⊥) × (is_apart to xs ≡ true)
    by true k e = absurd (cc e)
    by false k e = (other_number x to k, e)
apart_true to (Word z) xs e = (tt, e)
apart_true to (Long z) xs e = (tt, e)

both : (a b : Bool) → (a && b) ≡ true → (a ≡ true) × (b ≡ true)
both true b e = (refl, e)
both false b e = absurd (cc e)

outside : (free to : ℕ) → not (nat_le free to && nat_lt to (3 + free)) ≡ true → (to < free) ⊎ (3 + free ≤ to)
outside free to e = by (nat_le free to) refl (nat_lt to (3 + free)) refl e
  where
    by : (s : Bool) → nat_le free to ≡ s → (t : Bool) → nat_lt to (3 + free) ≡ t → not (s && t) ≡ true → (to < free) ⊎ (3 + free ≤ to)
    by true p true q e = absurd (cc e)
    by true p false q e = inr (grind (arith, nat_tests, q))
    by false p t q e = inl (grind (arith, nat_tests, p))

out_of : (free to y : ℕ) → (to < free) ⊎ (3 + free ≤ to) → free ≤ y → y < 3 + free → y ≡ to → ⊥
out_of free to y (inl a) le lt e = omega (arith, a, e, le)
out_of free to y (inr a) le lt e = omega (arith, a, e, lt)

module _ (to free size : ℕ) (to_fits : to < size) (free_fits : 3 + free ≤ size) where
  pub at_once_free : (a b : Operand) → Clear free (a ∷ []) → Clear free (b ∷ []) → at_once to free (a ∷ b ∷ []) ≡ true → IsFree free size to a b
  at_once_free a b c d e =
      let p = both (not (nat_le free to && nat_lt to (3 + free))) (is_apart to (a ∷ b ∷ [])) e in
      let q = apart_true to a (b ∷ []) p.1 in
      let r = apart_true to b [] q.1 in
      let o = outside free to p.0 in
      record { first = q.0; second = r.0; one = out_of free to free o (omega arith) (omega arith); two = out_of free to (1 + free) o (omega arith) (omega arith); there = to_fits; tests = omega (arith, free_fits); clear_one = c; clear_two = d }

  -- and not the further word
  pub at_once_last : (a b : Operand) → at_once to free (a ∷ b ∷ []) ≡ true → 2 + free ≡ to → ⊥
  at_once_last a b e = out_of free to (2 + free) (outside free to (both (not (nat_le free to && nat_lt to (3 + free))) (is_apart to (a ∷ b ∷ [])) e).0) (omega arith) (omega arith)

  last_free : (a b : Operand) → Clear free (a ∷ []) → Clear free (b ∷ []) → IsFree free size (2 + free) a b
  last_free a b c d = record { first = clear_apart free (2 + free) a c (omega arith) (omega arith); second = clear_apart free (2 + free) b d (omega arith) (omega arith); one = λ e. omega (arith, e); two = λ e. omega (arith, e); there = omega (arith, free_fits); tests = omega (arith, free_fits); clear_one = c; clear_two = d }

  pub made_free_one : (a : Operand) → Clear free (a ∷ []) → IsFree free size (made_in to free (a ∷ [])) a (Word (pos 0))
  made_free_one a c = by (at_once to free (a ∷ [])) refl
    where
      by : (t : Bool) → at_once to free (a ∷ []) ≡ t → IsFree free size (cond t to (2 + free)) a (Word (pos 0))
      by true e =
          let p = both (not (nat_le free to && nat_lt to (3 + free))) (is_apart to (a ∷ [])) e in
          let q = apart_true to a [] p.1 in
          let o = outside free to p.0 in
          record { first = q.0; second = tt; one = out_of free to free o (omega arith) (omega arith); two = out_of free to (1 + free) o (omega arith) (omega arith); there = to_fits; tests = omega (arith, free_fits); clear_one = c; clear_two = tt }
      by false e = last_free a (Word (pos 0)) c tt

  pub made_free : (a b : Operand) → Clear free (a ∷ b ∷ []) → IsFree free size (made_in to free (a ∷ b ∷ [])) a b
  made_free a b c = by (at_once to free (a ∷ b ∷ [])) refl
    where
      by : (t : Bool) → at_once to free (a ∷ b ∷ []) ≡ t → IsFree free size (cond t to (2 + free)) a b
      by true e = at_once_free a b (clear_first free a (b ∷ []) c) (clear_rest free a (b ∷ []) c) e
      by false e = last_free a b (clear_first free a (b ∷ []) c) (clear_rest free a (b ∷ []) c)

-- no further local is set
none_two : (x : ℕ) → 6 < x → mine_two x ≡ true → ⊥
none_two x lt e = by (nat_eq x 2) refl (nat_eq x 5) refl (nat_eq x 6) refl e
  where
    by : (s : Bool) → nat_eq x 2 ≡ s → (t : Bool) → nat_eq x 5 ≡ t → (u : Bool) → nat_eq x 6 ≡ u → (s || (t || u)) ≡ true → ⊥
    by true p t q u k e = let same : x ≡ 2 = same_number x 2 p in omega (arith, lt, same)
    by false p true q u k e = let same : x ≡ 5 = same_number x 5 q in omega (arith, lt, same)
    by false p false q true k e = let same : x ≡ 6 = same_number x 6 k in omega (arith, lt, same)
    by false p false q false k e = absurd (cc e)

none_one : (x : ℕ) → 5 < x → mine_one x ≡ true → ⊥
none_one x lt e = by (nat_eq x 1) refl (nat_eq x 4) refl (nat_eq x 5) refl e
  where
    by : (s : Bool) → nat_eq x 1 ≡ s → (t : Bool) → nat_eq x 4 ≡ t → (u : Bool) → nat_eq x 5 ≡ u → (s || (t || u)) ≡ true → ⊥
    by true p t q u k e = let same : x ≡ 1 = same_number x 1 p in omega (arith, lt, same)
    by false p true q u k e = let same : x ≡ 4 = same_number x 4 q in omega (arith, lt, same)
    by false p false q true k e = let same : x ≡ 5 = same_number x 5 k in omega (arith, lt, same)
    by false p false q false k e = absurd (cc e)

none_spare : (x : ℕ) → 6 < x → mine_spare x ≡ true → ⊥
none_spare x lt e = by (nat_eq x 3) refl e
  where
    by : (s : Bool) → nat_eq x 3 ≡ s → (s || mine_two x) ≡ true → ⊥
    by true p e = let same : x ≡ 3 = same_number x 3 p in omega (arith, lt, same)
    by false p e = none_two x lt e

module _ (free size r : ℕ) (a b : Operand) (f : IsFree free size r a b) where
  result_two : (y : ℕ) → y < 7 → (y ≡ 2 → ⊥) → IsApart ((two_places free r a b).read y) r
  result_two zero lt ne = f.first
  result_two (suc zero) lt ne = f.second
  result_two (suc (suc zero)) lt ne = absurd (ne refl)
  result_two (suc (suc (suc zero))) lt ne = tt
  result_two (suc (suc (suc (suc zero)))) lt ne = tt
  result_two (suc (suc (suc (suc (suc zero))))) lt ne = f.one
  result_two (suc (suc (suc (suc (suc (suc zero)))))) lt ne = f.two
  result_two (suc (suc (suc (suc (suc (suc (suc y))))))) lt ne = tt

  test_two : (w : ℕ) → free ≤ w → w < 2 + free → (y : ℕ) → ((y ≡ 5) → free ≡ w → ⊥) → ((y ≡ 6) → 1 + free ≡ w → ⊥) → (r ≡ w → ⊥) → IsApart ((two_places free r a b).read y) w
  test_two w le lt zero five six ne = clear_apart free w a f.clear_one le (omega (arith, lt))
  test_two w le lt (suc zero) five six ne = clear_apart free w b f.clear_two le (omega (arith, lt))
  test_two w le lt (suc (suc zero)) five six ne = ne
  test_two w le lt (suc (suc (suc zero))) five six ne = tt
  test_two w le lt (suc (suc (suc (suc zero)))) five six ne = tt
  test_two w le lt (suc (suc (suc (suc (suc zero))))) five six ne = five refl
  test_two w le lt (suc (suc (suc (suc (suc (suc zero)))))) five six ne = six refl
  test_two w le lt (suc (suc (suc (suc (suc (suc (suc y))))))) five six ne = tt

  pub own_two : (x : ℕ) → mine_two x ≡ true → IsOwn (two_places free r a b) 7 size x
  own_two zero e = absurd (cc e)
  own_two (suc zero) e = absurd (cc e)
  own_two (suc (suc zero)) e = record { read = refl; there = f.there; apart = λ y lt ne. result_two y lt ne }
  own_two (suc (suc (suc zero))) e = absurd (cc e)
  own_two (suc (suc (suc (suc zero)))) e = absurd (cc e)
  own_two (suc (suc (suc (suc (suc zero))))) e = record { read = refl; there = let t = f.tests in omega (arith, t); apart = λ y lt ne. test_two free (omega arith) (omega arith) y (λ k. absurd (ne k)) (λ k e. omega (arith, e)) (λ e. f.one (sym e)) }
  own_two (suc (suc (suc (suc (suc (suc zero)))))) e = record { read = refl; there = let t = f.tests in omega (arith, t); apart = λ y lt ne. test_two (1 + free) (omega arith) (omega arith) y (λ k e. omega (arith, e)) (λ k. absurd (ne k)) (λ e. f.two (sym e)) }
  own_two (suc (suc (suc (suc (suc (suc (suc x))))))) e = absurd (none_two (suc (suc (suc (suc (suc (suc (suc x))))))) (omega arith) e)

  result_one : (y : ℕ) → y < 6 → (y ≡ 1 → ⊥) → IsApart ((one_place free r a).read y) r
  result_one zero lt ne = f.first
  result_one (suc zero) lt ne = absurd (ne refl)
  result_one (suc (suc zero)) lt ne = tt
  result_one (suc (suc (suc zero))) lt ne = tt
  result_one (suc (suc (suc (suc zero)))) lt ne = f.one
  result_one (suc (suc (suc (suc (suc zero))))) lt ne = f.two
  result_one (suc (suc (suc (suc (suc (suc y)))))) lt ne = tt

  test_one : (w : ℕ) → free ≤ w → w < 2 + free → (y : ℕ) → ((y ≡ 4) → free ≡ w → ⊥) → ((y ≡ 5) → 1 + free ≡ w → ⊥) → (r ≡ w → ⊥) → IsApart ((one_place free r a).read y) w
  test_one w le lt zero four five ne = clear_apart free w a f.clear_one le (omega (arith, lt))
  test_one w le lt (suc zero) four five ne = ne
  test_one w le lt (suc (suc zero)) four five ne = tt
  test_one w le lt (suc (suc (suc zero))) four five ne = tt
  test_one w le lt (suc (suc (suc (suc zero)))) four five ne = four refl
  test_one w le lt (suc (suc (suc (suc (suc zero))))) four five ne = five refl
  test_one w le lt (suc (suc (suc (suc (suc (suc y)))))) four five ne = tt

  pub own_one : (x : ℕ) → mine_one x ≡ true → IsOwn (one_place free r a) 6 size x
  own_one zero e = absurd (cc e)
  own_one (suc zero) e = record { read = refl; there = f.there; apart = λ y lt ne. result_one y lt ne }
  own_one (suc (suc zero)) e = absurd (cc e)
  own_one (suc (suc (suc zero))) e = absurd (cc e)
  own_one (suc (suc (suc (suc zero)))) e = record { read = refl; there = let t = f.tests in omega (arith, t); apart = λ y lt ne. test_one free (omega arith) (omega arith) y (λ k. absurd (ne k)) (λ k e. omega (arith, e)) (λ e. f.one (sym e)) }
  own_one (suc (suc (suc (suc (suc zero))))) e = record { read = refl; there = let t = f.tests in omega (arith, t); apart = λ y lt ne. test_one (1 + free) (omega arith) (omega arith) y (λ k e. omega (arith, e)) (λ k. absurd (ne k)) (λ e. f.two (sym e)) }
  own_one (suc (suc (suc (suc (suc (suc x)))))) e = absurd (none_one (suc (suc (suc (suc (suc (suc x)))))) (omega arith) e)

  -- with one more word
  module _ (last : 2 + free ≡ r → ⊥) where
    result_spare : (y : ℕ) → y < 7 → (y ≡ 2 → ⊥) → IsApart ((spare_places free r a b).read y) r
    result_spare zero lt ne = f.first
    result_spare (suc zero) lt ne = f.second
    result_spare (suc (suc zero)) lt ne = absurd (ne refl)
    result_spare (suc (suc (suc zero))) lt ne = last
    result_spare (suc (suc (suc (suc zero)))) lt ne = tt
    result_spare (suc (suc (suc (suc (suc zero))))) lt ne = f.one
    result_spare (suc (suc (suc (suc (suc (suc zero)))))) lt ne = f.two
    result_spare (suc (suc (suc (suc (suc (suc (suc y))))))) lt ne = tt

    test_spare : (w : ℕ) → free ≤ w → w < 3 + free → (y : ℕ) → ((y ≡ 3) → 2 + free ≡ w → ⊥) → ((y ≡ 5) → free ≡ w → ⊥) → ((y ≡ 6) → 1 + free ≡ w → ⊥) → (r ≡ w → ⊥) → IsApart ((spare_places free r a b).read y) w
    test_spare w le lt zero three five six ne = clear_apart free w a f.clear_one le lt
    test_spare w le lt (suc zero) three five six ne = clear_apart free w b f.clear_two le lt
    test_spare w le lt (suc (suc zero)) three five six ne = ne
    test_spare w le lt (suc (suc (suc zero))) three five six ne = three refl
    test_spare w le lt (suc (suc (suc (suc zero)))) three five six ne = tt
    test_spare w le lt (suc (suc (suc (suc (suc zero))))) three five six ne = five refl
    test_spare w le lt (suc (suc (suc (suc (suc (suc zero)))))) three five six ne = six refl
    test_spare w le lt (suc (suc (suc (suc (suc (suc (suc y))))))) three five six ne = tt

    pub own_spare : (x : ℕ) → mine_spare x ≡ true → IsOwn (spare_places free r a b) 7 size x
    own_spare zero e = absurd (cc e)
    own_spare (suc zero) e = absurd (cc e)
    own_spare (suc (suc zero)) e = record { read = refl; there = f.there; apart = λ y lt ne. result_spare y lt ne }
    own_spare (suc (suc (suc zero))) e = record { read = refl; there = f.tests; apart = λ y lt ne. test_spare (2 + free) (omega arith) (omega arith) y (λ k. absurd (ne k)) (λ k e. omega (arith, e)) (λ k e. omega (arith, e)) (λ e. last (sym e)) }
    own_spare (suc (suc (suc (suc zero)))) e = absurd (cc e)
    own_spare (suc (suc (suc (suc (suc zero))))) e = record { read = refl; there = let t = f.tests in omega (arith, t); apart = λ y lt ne. test_spare free (omega arith) (omega arith) y (λ k e. omega (arith, e)) (λ k. absurd (ne k)) (λ k e. omega (arith, e)) (λ e. f.one (sym e)) }
    own_spare (suc (suc (suc (suc (suc (suc zero)))))) e = record { read = refl; there = let t = f.tests in omega (arith, t); apart = λ y lt ne. test_spare (1 + free) (omega arith) (omega arith) y (λ k e. omega (arith, e)) (λ k e. omega (arith, e)) (λ k. absurd (ne k)) (λ e. f.two (sym e)) }
    own_spare (suc (suc (suc (suc (suc (suc (suc x))))))) e = absurd (none_spare (suc (suc (suc (suc (suc (suc (suc x))))))) (omega arith) e)

-- ---- what is written

either_written : (to free : ℕ) (t : Bool) → (cond t to (2 + free) ≡ to) ⊎ (free ≤ cond t to (2 + free))
either_written to free true = inl refl
either_written to free false = inr (omega arith)

pub two_written : (to free : ℕ) (a b : Operand) (x : ℕ) → mine_two x ≡ true → ((two_places free (made_in to free (a ∷ b ∷ [])) a b).write x ≡ to) ⊎ (free ≤ (two_places free (made_in to free (a ∷ b ∷ [])) a b).write x)
two_written to free a b zero e = absurd (cc e)
two_written to free a b (suc zero) e = absurd (cc e)
two_written to free a b (suc (suc zero)) e = either_written to free (at_once to free (a ∷ b ∷ []))
two_written to free a b (suc (suc (suc zero))) e = absurd (cc e)
two_written to free a b (suc (suc (suc (suc zero)))) e = absurd (cc e)
two_written to free a b (suc (suc (suc (suc (suc zero))))) e = inr (omega arith)
two_written to free a b (suc (suc (suc (suc (suc (suc zero)))))) e = inr (omega arith)
two_written to free a b (suc (suc (suc (suc (suc (suc (suc x))))))) e = absurd (none_two (suc (suc (suc (suc (suc (suc (suc x))))))) (omega arith) e)

pub one_written : (to free : ℕ) (a : Operand) (x : ℕ) → mine_one x ≡ true → ((one_place free (made_in to free (a ∷ [])) a).write x ≡ to) ⊎ (free ≤ (one_place free (made_in to free (a ∷ [])) a).write x)
one_written to free a zero e = absurd (cc e)
one_written to free a (suc zero) e = either_written to free (at_once to free (a ∷ []))
one_written to free a (suc (suc zero)) e = absurd (cc e)
one_written to free a (suc (suc (suc zero))) e = absurd (cc e)
one_written to free a (suc (suc (suc (suc zero)))) e = inr (omega arith)
one_written to free a (suc (suc (suc (suc (suc zero))))) e = inr (omega arith)
one_written to free a (suc (suc (suc (suc (suc (suc x)))))) e = absurd (none_one (suc (suc (suc (suc (suc (suc x)))))) (omega arith) e)

pub spare_written : (to free : ℕ) (a b : Operand) (x : ℕ) → mine_spare x ≡ true → ((spare_places free to a b).write x ≡ to) ⊎ (free ≤ (spare_places free to a b).write x)
spare_written to free a b zero e = absurd (cc e)
spare_written to free a b (suc zero) e = absurd (cc e)
spare_written to free a b (suc (suc zero)) e = inl refl
spare_written to free a b (suc (suc (suc zero))) e = inr (omega arith)
spare_written to free a b (suc (suc (suc (suc zero)))) e = absurd (cc e)
spare_written to free a b (suc (suc (suc (suc (suc zero))))) e = inr (omega arith)
spare_written to free a b (suc (suc (suc (suc (suc (suc zero)))))) e = inr (omega arith)
spare_written to free a b (suc (suc (suc (suc (suc (suc (suc x))))))) e = absurd (none_spare (suc (suc (suc (suc (suc (suc (suc x))))))) (omega arith) e)
