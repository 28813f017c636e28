-- The labels of open blocks.
use Rattle.std.proofs.Common.{◌≡◌, ℕ, zero, suc, ◌-◌, ◌<◌, List, [], ◌∷◌, length, get_or, Option, Some, None, refl, sym, ap, ◌∙◌, arith}
use Rattle.std.proofs.Common.{subst}
use Rattle.std.specs.Prelude.{reverse, slice_get}
use Rattle.std.proofs.lemmas.List.{get_or-reverse, length-reverse}
use Rattle.wasm_tree.specs.declared.types.ValueType.{ValueType}
use Rattle.wasm_valid.specs.declared.blocks.Opened.{Opened}
use Rattle.wasm_valid.specs.Blocks.{label_by, labels}

pub labels_in : (os : List Opened) (result : Option ValueType) (l : ℕ) (d : Opened) → l < length os → slice_get (labels result os) l ≡ Some (label_by (get_or os l d).opener (get_or os l d).result)
labels_in [] result l d h = absurd (omega arith)
labels_in (o ∷ os) result zero d h = refl
labels_in (o ∷ os) result (suc l) d h = labels_in os result l d (omega arith)

pub labels_end : (os : List Opened) (result : Option ValueType) (l : ℕ) → l ≡ length os → slice_get (labels result os) l ≡ Some result
labels_end [] result zero h = refl
labels_end [] result (suc l) h = absurd (omega arith)
labels_end (o ∷ os) result zero h = absurd (omega arith)
labels_end (o ∷ os) result (suc l) h = labels_end os result l (omega arith)

pub labels_past : (os : List Opened) (result : Option ValueType) (l : ℕ) → length os < l → slice_get (labels result os) l ≡ None
labels_past [] result zero h = absurd (omega arith)
labels_past [] result (suc l) h = refl
labels_past (o ∷ os) result zero h = absurd (omega arith)
labels_past (o ∷ os) result (suc l) h = labels_past os result l (omega arith)

module _ (items os : List Opened) (view : reverse items ≡ os) (result : Option ValueType) (l : ℕ) where
  length_is : length os ≡ length items
  length_is = sym (ap length view) ∙ length-reverse items

  pub label_at : (d : Opened) → l < length items → slice_get (labels result os) l ≡ Some (label_by (get_or items (length items - 1 - l) d).opener (get_or items (length items - 1 - l) d).result)
  label_at d h =
      let e : get_or os l d ≡ get_or items (length items - 1 - l) d = subst (λ xs. get_or xs l d ≡ get_or items (length items - 1 - l) d) view (get_or-reverse items l d h) in
      labels_in os result l d (omega (arith, length_is)) ∙ ap (λ (o : Opened). Some (label_by o.opener o.result)) e

  pub label_end : l ≡ length items → slice_get (labels result os) l ≡ Some result
  label_end h = labels_end os result l (h ∙ sym length_is)

  pub label_past : length items < l → slice_get (labels result os) l ≡ None
  label_past h = labels_past os result l (omega (arith, length_is))
