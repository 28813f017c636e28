-- Names that stand further out, behind those of a declaration or of a group of functions.
use Rattle.std.proofs.Common.{◌≡◌, ℕ, zero, suc, Bool, true, false, List, [], ◌∷◌, ◌++◌, length, refl, inl, inr, sym, ap, ◌∙◌, subst}
use Rattle.std.proofs.lemmas.Slice.Eq.{bytes_eq-Decides}
use Rattle.std.specs.Prelude.{cond, slice_get}
use Rattle.std.specs.Str.{bytes_eq}
use Rattle.mo_types.specs.declared.node.TypeId.{TypeId}
use Rattle.mo_types.specs.Graph.{Slot}
use Rattle.subtype_laws.specs.Reached.{Among}
use Rattle.typed_tree.specs.Wants.{Want}
use Rattle.typing_rules.specs.AbstractSyntax.{Bytes}
use Rattle.typing_rules.specs.AsyncPlaces.{Body}
use Rattle.typing_rules.specs.Contexts.{Bound}
use Rattle.typing_rules.specs.Definitions.{Definitions}
use Rattle.typing_rules.specs.Terms.{Term}
use Rattle.desugaring.specs.Frames.{Entry, Named, Kept, Unnamed, Use, found_from, kept_from}
use Rattle.expression_laws.specs.Fitting.{StandsFor}
use Rattle.expression_laws.proofs.Naming.{next, found_next}
use Rattle.list_laws.specs.Standing.{entry_names, NoneKept, StandsAt, StandsIn}

-- behind these entries
abbrev pub shifted : List Entry → Use → Use
shifted [] u = u
shifted (e ∷ es) u = next (shifted es u)

pub unequal : (x y : Bytes) → (y ≡ x → ⊥) → bytes_eq x y ≡ false
unequal x y n = by (bytes_eq x y) refl where
  by : (b : Bool) → bytes_eq x y ≡ b → bytes_eq x y ≡ false
  by true e = absurd (n (sym ((bytes_eq-Decides x y).0 e)))
  by false e = e

found_beyond : (es rest : List Entry) (y : Bytes) → (Among y (entry_names es) → ⊥) → found_from zero (es ++ rest) y ≡ shifted es (found_from zero rest y)
found_beyond [] rest y n = refl
found_beyond (Named x is_cell ∷ es) rest y n =
    ap (λ b. cond b (record { index = zero; cell = is_cell }) (found_from 1 (es ++ rest) y)) (unequal x y (λ e. n (inl (sym e))))
    ∙ (found_next zero (es ++ rest) y ∙ ap next (found_beyond es rest y (λ m. n (inr m))))
found_beyond (Kept x ∷ es) rest y n = found_next zero (es ++ rest) y ∙ ap next (found_beyond es rest y n)
found_beyond (Unnamed ∷ es) rest y n = found_next zero (es ++ rest) y ∙ ap next (found_beyond es rest y n)

cell_beyond : (es : List Entry) (u : Use) → (shifted es u).cell ≡ u.cell
cell_beyond [] u = refl
cell_beyond (e ∷ es) u = cell_beyond es u

slot_beyond : {A : Type 0} (es : List Entry) (ws ns : List A) (u : Use) → length ws ≡ length es → slice_get (ws ++ ns) (shifted es u).index ≡ slice_get ns u.index
slot_beyond [] [] ns u h = refl
slot_beyond [] (w ∷ ws) ns u h = cc
slot_beyond (e ∷ es) [] ns u h = cc
slot_beyond (e ∷ es) (w ∷ ws) ns u h = slot_beyond es ws ns u (suc_same (length ws) (length es) h) where
  suc_same : (m n : ℕ) → suc m ≡ suc n → m ≡ n
  suc_same m n e = cc

module _ (defs : Definitions) (slots : List Slot) (terms : List Term) (number : Term → TypeId) (vs : List ℕ) (body : Body) where
  -- a name that none of these entries has stands where it stood
  pub stands_beyond : (es rest : List Entry) (ws ns : List (Want TypeId)) (y : Bytes) (b : Bound) → (Among y (entry_names es) → ⊥) → length ws ≡ length es → StandsIn defs slots terms number vs body rest ns y b → StandsIn defs slots terms number vs body (es ++ rest) (ws ++ ns) y b
  stands_beyond es rest ws ns y b n h i =
      let u = found_from zero rest y in
      subst (λ x. StandsAt defs slots terms number vs body x (ws ++ ns) b) (sym (found_beyond es rest y n))
      (i.0, slot_beyond es ws ns u h ∙ i.1, subst (λ c. StandsFor defs slots terms number vs body b c i.0) (sym (cell_beyond es u)) i.2)

-- ---- what was kept of stable variables

kept_next : (n : ℕ) (es : List Entry) (x : Bytes) → kept_from (suc n) es x ≡ suc (kept_from n es x)
kept_next n [] x = refl
kept_next n (Named y is_cell ∷ es) x = kept_next (suc n) es x
kept_next n (Kept y ∷ es) x = by (bytes_eq y x) (kept_next (suc n) es x) where
  by : (b : Bool) → kept_from (suc (suc n)) es x ≡ suc (kept_from (suc n) es x) → cond b (suc n) (kept_from (suc (suc n)) es x) ≡ suc (cond b n (kept_from (suc n) es x))
  by true h = refl
  by false h = h
kept_next n (Unnamed ∷ es) x = kept_next (suc n) es x

pub kept_beyond : {A : Type 0} (es rest : List Entry) (ws ns : List A) (x : Bytes) → NoneKept es → length ws ≡ length es → slice_get (ws ++ ns) (kept_from zero (es ++ rest) x) ≡ slice_get ns (kept_from zero rest x)
kept_beyond [] rest [] ns x n h = refl
kept_beyond [] rest (w ∷ ws) ns x n h = cc
kept_beyond (e ∷ es) rest [] ns x n h = cc
kept_beyond (Named y is_cell ∷ es) rest (w ∷ ws) ns x n h =
    ap (λ i. slice_get (w ∷ (ws ++ ns)) i) (kept_next zero (es ++ rest) x) ∙ kept_beyond es rest ws ns x n (less (length ws) (length es) h)
  where
    less : (m k : ℕ) → suc m ≡ suc k → m ≡ k
    less m k e = cc
kept_beyond (Kept y ∷ es) rest (w ∷ ws) ns x n h = absurd n
kept_beyond (Unnamed ∷ es) rest (w ∷ ws) ns x n h =
    ap (λ i. slice_get (w ∷ (ws ++ ns)) i) (kept_next zero (es ++ rest) x) ∙ kept_beyond es rest ws ns x n (less (length ws) (length es) h)
  where
    less : (m k : ℕ) → suc m ≡ suc k → m ≡ k
    less m k e = cc
