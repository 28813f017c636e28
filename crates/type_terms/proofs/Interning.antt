-- What a set of forms says of a table, and what putting a form into it does.
use Rattle.std.proofs.Common.{◌≡◌, ◌⊎◌, inl, inr, ℕ, zero, suc, Bool, true, false, ◌||◌, List, [], ◌∷◌, ◌++◌, length, slice_get, Some, get_or, position, if◌then◌else◌, refl, sym, ap, ◌∙◌, subst}
use Rattle.std.specs.List.{list_any, IsDistinct, AllByRecursion}
use Rattle.std.proofs.lemmas.List.Quantifiers.{position-Some}
use Rattle.std.proofs.lemmas.Option.{slice_get-get_or}
use Rattle.indexmap.specs.IndexSet.{insert_key}
use Rattle.type_terms.specs.declared.form.Form.{Form}
use Rattle.type_terms.specs.declared.form.TermId.{TermId}
use Rattle.type_terms.specs.Layouts.{same_form}
use Rattle.type_terms.specs.Same.{form_decides}
use Rattle.type_terms.specs.Tables.{Distinct, IsNew, Interns}

itself : (f : Form) → same_form f f ≡ true
itself f = (form_decides f f).1 refl

all_at : (P : Form → Type 0) (xs : List Form) (i : ℕ) (f : Form) → AllByRecursion P xs → slice_get xs i ≡ Some f → P f
all_at P [] i f h e = cc
all_at P (x ∷ xs) zero f h e = let g : Some x ≡ Some f = e in let k : x ≡ f = cc in subst P k h.0
all_at P (x ∷ xs) (suc i) f h e = all_at P xs i f h.1 e

clash : (x f : Form) → x ≡ f → same_form x f ≡ false → ⊥
clash x f e h = let g : same_form x f ≡ true = (form_decides x f).1 e in let k : true ≡ false = sym g ∙ h in cc

pub distinct : (xs : List Form) → IsDistinct same_form xs → Distinct xs
unfolding IsDistinct
distinct [] d i j f a b = cc
distinct (x ∷ xs) d zero zero f a b = refl
distinct (x ∷ xs) d zero (suc j) f a b =
    let g : Some x ≡ Some f = a in let k : x ≡ f = cc in
    absurd (clash x f k (all_at (λ y. same_form x y ≡ false) xs j f d.0 b))
distinct (x ∷ xs) d (suc i) zero f a b =
    let g : Some x ≡ Some f = b in let k : x ≡ f = cc in
    absurd (clash x f k (all_at (λ y. same_form x y ≡ false) xs i f d.0 a))
distinct (x ∷ xs) d (suc i) (suc j) f a b = ap suc (distinct xs d.1 i j f a b)

either_true : (b c : Bool) → b || c ≡ true → (b ≡ true) ⊎ (c ≡ true)
either_true true c h = inl refl
either_true false c h = inr h

or_first : (b c : Bool) → b || c ≡ false → b ≡ false
or_first true c h = cc
or_first false c h = refl

or_second : (b c : Bool) → b || c ≡ false → c ≡ false
or_second true c h = cc
or_second false c h = h

pub new_form : (xs : List Form) (f : Form) → list_any (same_form f) xs ≡ false → IsNew xs f
new_form [] f h i e = cc
new_form (x ∷ xs) f h zero e =
    let g : Some x ≡ Some f = e in let k : f ≡ x = cc in clash f x k (or_first (same_form f x) (list_any (same_form f) xs) h)
new_form (x ∷ xs) f h (suc i) e = new_form xs f (or_second (same_form f x) (list_any (same_form f) xs) h) i e

last_at : (xs : List Form) (f g : Form) (i : ℕ) → slice_get (xs ++ f ∷ []) i ≡ Some g → (slice_get xs i ≡ Some g) ⊎ (i ≡ length xs)
last_at [] f g zero e = inr refl
last_at [] f g (suc i) e = cc
last_at (x ∷ xs) f g zero e = inl e
last_at (x ∷ xs) f g (suc i) e = later (last_at xs f g i e) where
  later : (slice_get xs i ≡ Some g) ⊎ (i ≡ length xs) → (slice_get (x ∷ xs) (suc i) ≡ Some g) ⊎ (suc i ≡ length (x ∷ xs))
  later (inl h) = inl h
  later (inr h) = inr (ap suc h)

pub interns : (old new : List Form) (f k : Form) (id : TermId) → new ≡ insert_key same_form old f → slice_get new id.index ≡ Some k → same_form f k ≡ true → Interns old f id new
interns old new f k id e there s = by (list_any (same_form f) old) refl where
  is : slice_get new id.index ≡ Some f
  is = there ∙ ap (λ (x : Form). Some x) (sym ((form_decides f k).0 s))

  last : IsNew old f → (slice_get old id.index ≡ Some f) ⊎ (id.index ≡ length old) → id.index ≡ length old
  last n (inl h) = absurd (n id.index h)
  last n (inr h) = h

  by : (b : Bool) → list_any (same_form f) old ≡ b → Interns old f id new
  by true t =
      let n : new ≡ old = e ∙ ap (λ (b : Bool). if b then old else old ++ f ∷ []) t in
      inl (subst (λ (xs : List Form). slice_get xs id.index ≡ Some f) n is, n)
  by false t =
      let n : new ≡ old ++ f ∷ [] = e ∙ ap (λ (b : Bool). if b then old else old ++ f ∷ []) t in
      let w : IsNew old f = new_form old f t in
      inr (w, last w (last_at old f f id.index (subst (λ (xs : List Form). slice_get xs id.index ≡ Some f) n is)), n)

-- the place of a form that was found
pub found_at : (xs : List Form) (f : Form) (i : ℕ) → position (same_form f) xs ≡ Some i → slice_get xs i ≡ Some f
found_at xs f i e =
    let p = position-Some (same_form f) xs i f e in
    slice_get-get_or xs i f p.0 ∙ ap (λ (x : Form). Some x) (sym ((form_decides f (get_or xs i f)).0 p.1))
