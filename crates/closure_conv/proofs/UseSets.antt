-- Sets of uses, and lists of operands by place.
use Rattle.std.proofs.Common.{◌≡◌, ℕ, zero, suc, ◌+◌, ◌<◌, ◌≤◌, refl, sym, ap, ◌∙◌, ◌⊎◌, inl, inr, ◌||◌, Bool, true, false, cond, not, List, [], ◌∷◌, ◌++◌, length, take, get_or, map, Some, None, arith}
use Rattle.std.specs.Prelude.{nat_eq, nat_lt}
use Rattle.std.proofs.lemmas.Bool.{cases_eq, eq-eqb, ne_eqb, ltb-false}
use Rattle.std.proofs.lemmas.List.Sums.{prefix_len-le-length}
use Rattle.std.proofs.lemmas.Option.{cond_some, slice_get_read}
use Rattle.std.specs.List.{list_any, position, position_or_len}
use Rattle.core_ir.specs.declared.constant.Constant.TheVariants as constant
use Rattle.core_ir.specs.declared.code.Operand.{Operand}
use Rattle.core_ir.specs.declared.code.Operand.TheVariants.{Constant}
use Rattle.core_ir.specs.Choices.{nth}
use Rattle.core_ir.specs.ScopeNames.{name_at}
use Rattle.core_ir.proofs.Scoping.{nth_got}
use Rattle.indexmap.specs.IndexSet.{insert_key}
use Rattle.core_laws.specs.Conversion.{index, seen_as}
use Rattle.core_laws.specs.Uses.{holds, picked, with_use}

eq_swap : (a b : ℕ) → nat_eq a b ≡ nat_eq b a
eq_swap a b = by (cases_eq a b)
  where
    by : (a ≡ b) ⊎ (a ≡ b → ⊥) → nat_eq a b ≡ nat_eq b a
    by (inl e) = eq-eqb a b e ∙ sym (eq-eqb b a (sym e))
    by (inr other) = ne_eqb a b other ∙ sym (ne_eqb b a (λ e. other (sym e)))

holds_is : (x : ℕ) (used : List ℕ) → list_any (nat_eq x) used ≡ holds x used
holds_is x [] = refl
holds_is x (y ∷ used) = or_is (nat_eq x y) (list_any (nat_eq x) used) ∙ ap (λ b. cond b true (list_any (nat_eq x) used)) (eq_swap x y) ∙ ap (cond (nat_eq y x) true) (holds_is x used)
  where
    or_is : (a b : Bool) → (a || b) ≡ cond a true b
    or_is true b = refl
    or_is false b = refl

pub inserted : (x : ℕ) (used : List ℕ) → insert_key nat_eq used x ≡ with_use x used
inserted x used = ap (λ b. cond b used (used ++ x ∷ [])) (holds_is x used)

index_is : (x : ℕ) (used : List ℕ) → position_or_len (nat_eq x) used ≡ index x used
index_is x [] = refl
index_is x (y ∷ used) = ap (λ b. cond (not b) (1 + position_or_len (nat_eq x) used) 0) (eq_swap x y) ∙ turned (nat_eq y x) (index_is x used)
  where
    turned : (b : Bool) → position_or_len (nat_eq x) used ≡ index x used → cond (not b) (1 + position_or_len (nat_eq x) used) 0 ≡ cond b 0 (suc (index x used))
    turned true e = refl
    turned false e = (let z : 1 + position_or_len (nat_eq x) used ≡ suc (position_or_len (nat_eq x) used) = omega arith in z) ∙ ap suc e

pub index_found : (x i : ℕ) (used : List ℕ) → position (nat_eq x) used ≡ Some i → i ≡ index x used
index_found x i used e = sym (cond_some (nat_lt (position_or_len (nat_eq x) used) (length used)) (position_or_len (nat_eq x) used) i e).1 ∙ index_is x used

pub index_missing : (x : ℕ) (used : List ℕ) → position (nat_eq x) used ≡ None → length used ≡ index x used
index_missing x used e = by (nat_lt (position_or_len (nat_eq x) used) (length used)) refl e ∙ index_is x used
  where
    by : (b : Bool) → nat_lt (position_or_len (nat_eq x) used) (length used) ≡ b → cond b (Some (position_or_len (nat_eq x) used)) None ≡ None → length used ≡ position_or_len (nat_eq x) used
    by true z i = absurd (let w : Some (position_or_len (nat_eq x) used) ≡ None = i in cc)
    by false z i = let l = prefix_len-le-length (λ y. not (nat_eq x y)) used in let k = ltb-false (position_or_len (nat_eq x) used) (length used) z in omega (arith, l, k)

-- ---- an operand of a list that was read, and one that is not there

pub listed : (xs : List Operand) (n : ℕ) (x : Operand) → n < length xs → x ≡ get_or xs n x → x ≡ name_at xs n
listed xs n x l read = sym (nth_got (Constant constant.Unit) xs n x (slice_get_read xs (length xs) n x refl l read))

pub not_listed : (xs : List Operand) (n : ℕ) → length xs ≤ n → Constant constant.Unit ≡ name_at xs n
not_listed [] n l = refl
not_listed (x ∷ xs) zero l = absurd (omega (arith, l))
not_listed (x ∷ xs) (suc n) l = not_listed xs n (omega (arith, l))

-- ---- one more value that a group needs

pub picked_more : (used : List ℕ) (seen : List Operand) (xs : List ℕ) (i : ℕ) (d : ℕ) → i < length xs
    → map (seen_as used) (picked seen (take (i + 1) xs)) ≡ map (seen_as used) (picked seen (take i xs)) ++ seen_as used (name_at seen (get_or xs i d)) ∷ []
picked_more used seen [] i d l = absurd (omega (arith, l))
picked_more used seen (x ∷ xs) zero d l = refl
picked_more used seen (x ∷ xs) (suc i) d l =
    ap (λ n. map (seen_as used) (picked seen (take n (x ∷ xs)))) (let e : suc i + 1 ≡ suc (i + 1) = omega arith in e) ∙ ap (λ ys. seen_as used (name_at seen x) ∷ ys) (picked_more used seen xs i d (omega (arith, l)))

-- ---- what a group needs

pub kept_at : (needs : List (List ℕ)) (n : ℕ) (x : List ℕ) → n < length needs → x ≡ get_or needs n x → x ≡ nth [] needs n
kept_at needs n x l read = sym (nth_got [] needs n x (slice_get_read needs (length needs) n x refl l read))

pub none_at : (needs : List (List ℕ)) (n : ℕ) → length needs ≤ n → nth [] needs n ≡ []
none_at [] n l = refl
none_at (x ∷ needs) zero l = absurd (omega (arith, l))
none_at (x ∷ needs) (suc n) l = none_at needs n (omega (arith, l))
