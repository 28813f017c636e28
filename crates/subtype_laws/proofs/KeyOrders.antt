-- Numbers, and names by their bytes, stand in a strict order; fields by number and methods by name are put in it.
use Rattle.std.proofs.Common.{◌≡◌, ◌≢◌, ◌<◌, inl, inr, ◌⊎◌, ℕ, Bool, true, false, true≢false, List, [], ◌∷◌, map, nat_eq, nat_lt, refl, sym, ap, ◌∙◌, if◌then◌else◌, arith}
use Rattle.std.specs.Cmp.{unsigned_Decides}
use Rattle.std.proofs.lemmas.Bool.Decides.{Decides-ltb}
use Rattle.mo_types.specs.declared.node.Field.{Field}
use Rattle.mo_types.specs.Label.{label_id}
use Rattle.mo_types.specs.Values.{insert_field, by_label}
use Rattle.mo_types.specs.Wire.{name_before, insert_method, by_name, method_of}
use Rattle.subtype_laws.proofs.Sorting.{IsOrder, insert, sort}

lt_of : (j k : ℕ) → nat_lt j k ≡ true → j < k
lt_of j k e = (Decides-ltb j k).0 e

of_lt : (j k : ℕ) → j < k → nat_lt j k ≡ true
of_lt j k h = (Decides-ltb j k).1 h

-- where the one is not before, the other is, or both are the same
third : (j k : ℕ) → nat_lt j k ≡ false → (j ≡ k) ⊎ (k < j)
third j k e = by (nat_lt k j) refl where
  by : (b : Bool) → nat_lt k j ≡ b → (j ≡ k) ⊎ (k < j)
  by true f = inr (lt_of k j f)
  by false f = inl (let g : (j < k → ⊥) = (λ h. true≢false (sym (of_lt j k h) ∙ e)) in let i : (k < j → ⊥) = (λ h. true≢false (sym (of_lt k j h) ∙ f)) in omega arith)

pub numbers : IsOrder nat_lt
numbers = record {
  apart = λ k e. let l : k < k = lt_of k k e in omega arith;
  trans = λ i j k p q. let l : i < j = lt_of i j p in let m : j < k = lt_of j k q in of_lt i k (omega arith);
  total = total;
} where
  other : (j k : ℕ) → j ≢ k → (j ≡ k) ⊎ (k < j) → nat_lt k j ≡ true
  other j k d (inl e) = absurd (d e)
  other j k d (inr l) = of_lt k j l

  total : (j k : ℕ) → j ≢ k → nat_lt j k ≡ false → nat_lt k j ≡ true
  total j k d e = other j k d (third j k e)

-- ---- names

step : (b c : ℕ) (bs cs : List ℕ) → name_before (b ∷ bs) (c ∷ cs) ≡ true → (b < c) ⊎ ((b ≡ c) × (name_before bs cs ≡ true))
step b c bs cs h = by (nat_lt b c) refl (nat_eq b c) refl h where
  by : (x : Bool) → nat_lt b c ≡ x → (y : Bool) → nat_eq b c ≡ y → (if x then true else (if y then name_before bs cs else false)) ≡ true → (b < c) ⊎ ((b ≡ c) × (name_before bs cs ≡ true))
  by true e y f h = inl (lt_of b c e)
  by false e true f h = inr ((unsigned_Decides b c).0 f, h)
  by false e false f h = cc

from : (b c : ℕ) (bs cs : List ℕ) → (b < c) ⊎ ((b ≡ c) × (name_before bs cs ≡ true)) → name_before (b ∷ bs) (c ∷ cs) ≡ true
from b c bs cs h = by (nat_lt b c) refl (nat_eq b c) refl h where
  by : (x : Bool) → nat_lt b c ≡ x → (y : Bool) → nat_eq b c ≡ y → (b < c) ⊎ ((b ≡ c) × (name_before bs cs ≡ true)) → (if x then true else (if y then name_before bs cs else false)) ≡ true
  by true e y f h = refl
  by false e y f (inl l) = absurd (true≢false (sym (of_lt b c l) ∙ e))
  by false e true f (inr h) = h.1
  by false e false f (inr h) = absurd (true≢false (sym ((unsigned_Decides b c).1 h.0) ∙ f))

apart : (m : List ℕ) → name_before m m ≡ true → ⊥
apart [] h = cc
apart (b ∷ bs) h = by (step b b bs bs h) (apart bs) where
  by : (b < b) ⊎ ((b ≡ b) × (name_before bs bs ≡ true)) → (name_before bs bs ≡ true → ⊥) → ⊥
  by (inl l) i = omega arith
  by (inr h) i = i h.1

trans : (l m n : List ℕ) → name_before l m ≡ true → name_before m n ≡ true → name_before l n ≡ true
trans [] [] n p q = cc
trans [] (b ∷ bs) [] p q = cc
trans [] (b ∷ bs) (c ∷ cs) p q = refl
trans (a ∷ as_) [] n p q = cc
trans (a ∷ as_) (b ∷ bs) [] p q = cc
trans (a ∷ as_) (b ∷ bs) (c ∷ cs) p q = from a c as_ cs (by (step a b as_ bs p) (step b c bs cs q) (trans as_ bs cs)) where
  by : (a < b) ⊎ ((a ≡ b) × (name_before as_ bs ≡ true)) → (b < c) ⊎ ((b ≡ c) × (name_before bs cs ≡ true)) → (name_before as_ bs ≡ true → name_before bs cs ≡ true → name_before as_ cs ≡ true) → (a < c) ⊎ ((a ≡ c) × (name_before as_ cs ≡ true))
  by (inl l) (inl m) i = inl (omega arith)
  by (inl l) (inr h) i = inl (let e : b ≡ c = h.0 in omega arith)
  by (inr h) (inl m) i = inl (let e : a ≡ b = h.0 in omega arith)
  by (inr h) (inr k) i = inr (h.0 ∙ k.0, i h.1 k.1)

total : (m n : List ℕ) → m ≢ n → name_before m n ≡ false → name_before n m ≡ true
total [] [] d h = absurd (d refl)
total [] (c ∷ cs) d h = cc
total (b ∷ bs) [] d h = refl
total (b ∷ bs) (c ∷ cs) d h = by (nat_lt b c) refl (total bs cs) where
  same : (b ≡ c) → (bs ≢ cs → name_before bs cs ≡ false → name_before cs bs ≡ true) → name_before (c ∷ cs) (b ∷ bs) ≡ true
  same e i = from c b cs bs (inr (sym e, i (λ f. d (ap (λ x. x ∷ bs) e ∙ ap (λ xs. c ∷ xs) f)) (rest (name_before bs cs) refl))) where
    rest : (x : Bool) → name_before bs cs ≡ x → name_before bs cs ≡ false
    rest false f = f
    rest true f = absurd (true≢false (sym (from b c bs cs (inr (e, f))) ∙ h))

  by : (x : Bool) → nat_lt b c ≡ x → (bs ≢ cs → name_before bs cs ≡ false → name_before cs bs ≡ true) → name_before (c ∷ cs) (b ∷ bs) ≡ true
  by true e i = absurd (true≢false (sym (from b c bs cs (inl (lt_of b c e))) ∙ h))
  by false e i = or (third b c e) where
    or : (b ≡ c) ⊎ (c < b) → name_before (c ∷ cs) (b ∷ bs) ≡ true
    or (inl f) = same f i
    or (inr l) = from c b cs bs (inl l)

pub names : IsOrder name_before
names = record { apart = apart; trans = trans; total = total }

-- ---- fields and methods

module _ {A : Type 0} where
  abbrev pub id_of : Field A → ℕ
  id_of f = label_id f.label

  abbrev pub name_of : Field A → List ℕ
  name_of f = f.label

  insert_same : (f : Field A) (gs : List (Field A)) → insert_field f gs ≡ insert id_of nat_lt f gs
  insert_same f [] = refl
  insert_same f (g ∷ gs) = ap (λ l. if nat_lt (label_id f.label) (label_id g.label) then f ∷ g ∷ gs else g ∷ l) (insert_same f gs)

  pub by_label_is : (fs : List (Field A)) → by_label fs ≡ sort id_of nat_lt fs
  by_label_is [] = refl
  by_label_is (f ∷ fs) = insert_same f (by_label fs) ∙ ap (insert id_of nat_lt f) (by_label_is fs)

  insert_named : (f : Field A) (gs : List (Field A)) → insert_method (method_of f) (map method_of gs) ≡ map method_of (insert name_of name_before f gs)
  insert_named f [] = refl
  insert_named f (g ∷ gs) = by (name_before f.label g.label) (insert_named f gs) where
    by : (b : Bool) → insert_method (method_of f) (map method_of gs) ≡ map method_of (insert name_of name_before f gs)
        → (if b then method_of f ∷ method_of g ∷ map method_of gs else method_of g ∷ insert_method (method_of f) (map method_of gs)) ≡ map method_of (if b then f ∷ g ∷ gs else g ∷ insert name_of name_before f gs)
    by true i = refl
    by false i = ap (λ l. method_of g ∷ l) i

  pub by_name_is : (fs : List (Field A)) → by_name (map method_of fs) ≡ map method_of (sort name_of name_before fs)
  by_name_is [] = refl
  by_name_is (f ∷ fs) = ap (insert_method (method_of f)) (by_name_is fs) ∙ insert_named f (sort name_of name_before fs)
