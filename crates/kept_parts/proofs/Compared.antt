-- Parts that are compared one by one.
use Rattle.std.proofs.Common.{◌≡◌, ℕ, suc, ◌<◌, ◌≤◌, List, ◌∷◌, length, get_or, drop, Bool, true, false, ◌&&◌, Decides, refl, sym, ap, ap₂, ◌∙◌, subst}
use Rattle.std.proofs.Math.ListN.{drop_of_length-le}
use Rattle.std.proofs.Math.Seq.{drop-cons}
use Rattle.mo_types.specs.declared.datum.Datum.{Datum}
use Rattle.mo_types.specs.Values.{Nil, Value}
use Rattle.mo_values.specs.Parts.{same_part}
use Rattle.mo_coding.proofs.Same.{values_decide}

with_nothing : (b : Bool) → (b && (true && true)) ≡ true → b ≡ true
with_nothing true e = refl
with_nothing false e = e

parts_decide : (p q : Datum) → Decides (same_part p q) (p ≡ q)
parts_decide p q = (
  λ e. let whole : Value p Nil Nil ≡ Value q Nil Nil = (values_decide (Value p Nil Nil) (Value q Nil Nil)).0 (ap (λ b. b && (true && true)) e) in cc,
  λ e. with_nothing (same_part p q) ((values_decide (Value p Nil Nil) (Value q Nil Nil)).1 (ap (λ x. Value x Nil Nil) e)),
)

pub other_lengths : (xs ys : List Datum) → (length xs ≡ length ys → ⊥) → Decides false (xs ≡ ys)
other_lengths xs ys other = (λ e. absurd (let g : false ≡ true = e in cc), λ e. absurd (other (ap length e)))

module _ (xs ys : List Datum) (i : ℕ) (d e : Datum) (h : i < length xs) (k : i < length ys) where
  pub part_other : same_part (get_or xs i d) (get_or ys i e) ≡ false → Decides false (xs ≡ ys)
  part_other other = (
    λ f. absurd (let g : false ≡ true = f in cc),
    λ same.
        let both : get_or xs i d ∷ drop (suc i) xs ≡ get_or ys i e ∷ drop (suc i) ys = sym (drop-cons xs i d h) ∙ ap (λ (l : List Datum). drop i l) same ∙ drop-cons ys i e k in
        let first : get_or xs i d ≡ get_or ys i e = cc in
        sym other ∙ (parts_decide (get_or xs i d) (get_or ys i e)).1 first,
  )

  pub part_same : same_part (get_or xs i d) (get_or ys i e) ≡ true → (drop i xs ≡ drop i ys → xs ≡ ys) → drop (suc i) xs ≡ drop (suc i) ys → xs ≡ ys
  part_same same before rest =
      before (drop-cons xs i d h ∙ ap₂ (λ (x : Datum) (l : List Datum). x ∷ l) ((parts_decide (get_or xs i d) (get_or ys i e)).0 same) rest ∙ sym (drop-cons ys i e k))

pub all_same : (xs ys : List Datum) (i : ℕ) → length xs ≤ i → length xs ≡ length ys → (drop i xs ≡ drop i ys → xs ≡ ys) → Decides true (xs ≡ ys)
all_same xs ys i h long before =
    let Of : ℕ → Type 0 = λ n. n ≤ i in
    (λ e. before (drop_of_length-le xs h ∙ sym (drop_of_length-le ys (subst Of long h))), λ e. refl)
