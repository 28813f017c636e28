-- Bytes are compared as lists are.
use Rattle.std.proofs.Common.{◌≡◌, ℕ, suc, ◌+◌, ◌-◌, Bool, true, false, cond, List, [], ◌∷◌, ◌++◌, length, Option, Some, refl, ap, ◌∙◌, arith}
use Rattle.std.specs.Prelude.{nat_lt, nat_eq, slice_get}
use Rattle.std.proofs.lemmas.List.{length-append}
use Rattle.mo_types.specs.declared.wire.Method.{Method}
use Rattle.mo_types.specs.declared.wire.TableRef.{TableRef}
use Rattle.mo_types.specs.Heads.{map_option}
use Rattle.candid_header.specs.Table.{last_name}
use Rattle.std.specs.declared.cmp.Ordering.{Ordering}
use Rattle.std.specs.declared.cmp.Ordering.TheVariants.{Less, Equal, Greater}
use Rattle.std.specs.Ordering.{is_some_and, is_lt, nat_cmp, partial_ordering_then}
use Rattle.std.specs.Cmp.Lexicographic.{slice_partial_cmp}
use Rattle.mo_types.specs.Wire.{name_before}

abbrev compared : List ℕ → List ℕ → Option Ordering
compared = slice_partial_cmp (λ x y. Some (nat_cmp x y))

pub before_is : (xs ys : List ℕ) → is_some_and is_lt (slice_partial_cmp (λ x y. Some (nat_cmp x y)) xs ys) ≡ name_before xs ys
before_is [] [] = refl
before_is [] (y ∷ ys) = refl
before_is (x ∷ xs) [] = refl
before_is (x ∷ xs) (y ∷ ys) = by (nat_lt x y) (nat_eq x y) (before_is xs ys)
  where
    by : (a b : Bool) → is_some_and is_lt (compared xs ys) ≡ name_before xs ys → is_some_and is_lt (partial_ordering_then (Some (cond a Less (cond b Equal Greater))) (compared xs ys)) ≡ cond a true (cond b (name_before xs ys) false)
    by true b e = refl
    by false true e = e
    by false false e = refl

-- The last one.
last_after : {A : Type 0} (xs : List A) (x : A) → slice_get (xs ++ x ∷ []) (length (xs ++ x ∷ []) - 1) ≡ Some x
last_after [] x = refl
last_after (y ∷ ys) x =
    let n : length (ys ++ x ∷ []) ≡ length ys + 1 = length-append ys (x ∷ []) in
    let e : length ((y ∷ ys) ++ x ∷ []) - 1 ≡ suc (length (ys ++ x ∷ []) - 1) = omega (arith, n) in
    ap (λ k. slice_get ((y ∷ ys) ++ x ∷ []) k) e ∙ last_after ys x

pub last_name_after : (ms more : List (Method TableRef)) (m : Method TableRef) → more ≡ ms ++ m ∷ [] → last_name more ≡ Some m.name
last_name_after ms more m e = ap last_name e ∙ ap (λ o. map_option (λ m. m.name) o) (last_after ms m)
