-- Values from their Candid parts, one after the other.
use Rattle.std.proofs.Common.{◌≡◌, ℕ, zero, suc, ◌+◌, ◌<◌, ◌≤◌, ◌-◌, Bool, true, false, List, [], ◌∷◌, ◌++◌, length, drop, get_or, reverse, Option, Some, None, refl, sym, ap, ap₂, ◌∙◌, append_assoc, add-one, arith}
use Rattle.std.specs.Prelude.{pos}
use Rattle.std.proofs.Math.ListN.{drop_of_length-le}
use Rattle.std.proofs.Math.Seq.{drop-cons}
use Rattle.std.proofs.lemmas.List.{append-nil}
use Rattle.mo_types.specs.declared.datum.Datum.{Datum}
use Rattle.mo_types.specs.declared.datum.Datum.TheVariants as part
use Rattle.mo_types.specs.declared.node.Node.{Node}
use Rattle.mo_types.specs.declared.node.Node.TheVariants as node
use Rattle.mo_types.specs.declared.node.TypeId.{TypeId}
use Rattle.kept_forms.specs.Parts.{asked, begins, bytes_behind, unform_at, unformed, Gathers, Mode, Next}
use Rattle.kept_parts.specs.declared.unforming.Unforming.{Unforming}
use Rattle.kept_parts.specs.Steps.{mode_of, opened, rest_of, IsGathered, IsOpened, IsPassed, IsPassedAt}

module _ (s t : Unforming) where
  -- no bytes are to come
  between : (head : TypeId → Node TypeId) (ps : List Datum) → t.left ≡ 0 → rest_of head t ps ≡ t.found.items ++ unformed head Next (reverse t.waiting.items) ps
  between head ps none = ap (λ (m : ℕ). t.found.items ++ unformed head (mode_of m t.bytes.items) (reverse t.waiting.items) ps) none

  module _ (n : Node TypeId) (under : Bool) (p : Datum) where
    pub value_opened : (made : Datum) → bytes_behind n p ≡ None → made ≡ unform_at n under p → t.left ≡ 0 → t.found.items ≡ s.found.items ++ made ∷ [] → reverse t.waiting.items ≡ asked n made ++ reverse s.waiting.items → IsOpened n under p s t
    value_opened made none is left found waits = λ head ps.
        let ws : List (TypeId × Bool) = reverse s.waiting.items in
        between head ps left
        ∙ ap₂ (λ (l : List Datum) (us : List (TypeId × Bool)). l ++ unformed head Next us ps) found waits
        ∙ append_assoc s.found.items (made ∷ []) (unformed head Next (asked n made ++ ws) ps)
        ∙ ap (λ (q : Datum). s.found.items ++ q ∷ unformed head Next (asked n q ++ ws) ps) is
        ∙ ap (λ (o : Option ℕ). s.found.items ++ begins o (unform_at n under p ∷ unformed head Next (asked n (unform_at n under p) ++ ws) ps) (part.Blob [] ∷ unformed head Next ws ps) (λ k. unformed head (Gathers k []) ws ps)) (sym none)

    pub empty_opened : (count : ℕ) → bytes_behind n p ≡ Some count → count ≡ 0 → t.left ≡ 0 → t.found.items ≡ s.found.items ++ part.Blob [] ∷ [] → t.waiting.items ≡ s.waiting.items → IsOpened n under p s t
    empty_opened count some zero_it left found waits = λ head ps.
        let ws : List (TypeId × Bool) = reverse s.waiting.items in
        between head ps left
        ∙ ap₂ (λ (l : List Datum) (us : List (TypeId × Bool)). l ++ unformed head Next (reverse us) ps) found waits
        ∙ append_assoc s.found.items (part.Blob [] ∷ []) (unformed head Next ws ps)
        ∙ ap (λ (o : Option ℕ). s.found.items ++ begins o (unform_at n under p ∷ unformed head Next (asked n (unform_at n under p) ++ ws) ps) (part.Blob [] ∷ unformed head Next ws ps) (λ k. unformed head (Gathers k []) ws ps))
        (sym (some ∙ ap (λ (k : ℕ). Some k) zero_it))

    gathers_so : (head : TypeId → Node TypeId) (ps : List Datum) (count : ℕ) (ws : List (TypeId × Bool)) → (count ≡ 0 → ⊥)
        → unformed head (mode_of count []) ws ps ≡ begins (Some count) (unform_at n under p ∷ unformed head Next (asked n (unform_at n under p) ++ ws) ps) (part.Blob [] ∷ unformed head Next ws ps) (λ k. unformed head (Gathers k []) ws ps)
    gathers_so head ps zero ws some = absurd (some refl)
    gathers_so head ps (suc k) ws some = refl

    pub blob_opened : (count : ℕ) → bytes_behind n p ≡ Some count → (count ≡ 0 → ⊥) → t.left ≡ count → t.bytes.items ≡ [] → t.found.items ≡ s.found.items → t.waiting.items ≡ s.waiting.items → IsOpened n under p s t
    blob_opened count some not_zero left bytes found waits = λ head ps.
        let ws : List (TypeId × Bool) = reverse s.waiting.items in
        ap₂ (λ (m : ℕ) (bs : List ℕ). t.found.items ++ unformed head (mode_of m bs) (reverse t.waiting.items) ps) left bytes
        ∙ ap₂ (λ (l : List Datum) (us : List (TypeId × Bool)). l ++ unformed head (mode_of count []) (reverse us) ps) found waits
        ∙ ap (λ (l : List Datum). s.found.items ++ l) (gathers_so head ps count ws not_zero)
        ∙ ap (λ (o : Option ℕ). s.found.items ++ begins o (unform_at n under p ∷ unformed head Next (asked n (unform_at n under p) ++ ws) ps) (part.Blob [] ∷ unformed head Next ws ps) (λ k. unformed head (Gathers k []) ws ps)) (sym some)

  bottom_unformed : (under : Bool) (p : Datum) → unform_at {A = TypeId} node.Bottom under p ≡ p
  bottom_unformed true p = refl
  bottom_unformed false p = refl

  pub bottom_opened : (under : Bool) (p : Datum) → t.left ≡ 0 → t.found.items ≡ s.found.items ++ p ∷ [] → t.waiting.items ≡ s.waiting.items → IsOpened node.Bottom under p s t
  bottom_opened under p left found waits = value_opened node.Bottom under p p refl (sym (bottom_unformed under p)) left found (ap reverse waits)

  -- ---- bytes

  pub gathered_so : t.left ≡ 0 → t.found.items ≡ s.found.items ++ part.Blob s.bytes.items ∷ [] → t.waiting.items ≡ s.waiting.items → IsGathered s t
  gathered_so left found waits = λ head ps.
      between head ps left
      ∙ ap₂ (λ (l : List Datum) (us : List (TypeId × Bool)). l ++ unformed head Next (reverse us) ps) found waits
      ∙ append_assoc s.found.items (part.Blob s.bytes.items ∷ []) (unformed head Next (reverse s.waiting.items) ps)

  more_so : (head : TypeId → Node TypeId) (ps : List Datum) (left m : ℕ) (b : ℕ) (ws : List (TypeId × Bool)) (bytes : List ℕ) → left ≡ suc m → 0 < m
      → unformed head (mode_of m (bytes ++ b ∷ [])) ws ps ≡ unformed head (mode_of left bytes) ws (part.Number (pos b) ∷ ps)
  more_so head ps left zero b ws bytes is some = absurd (omega (arith, some))
  more_so head ps left (suc k) b ws bytes is some = sym (ap (λ (n : ℕ). unformed head (mode_of n bytes) ws (part.Number (pos b) ∷ ps)) is)

  last_so : (head : TypeId → Node TypeId) (ps : List Datum) (left : ℕ) (b : ℕ) (ws : List (TypeId × Bool)) (bytes : List ℕ) → left ≡ 1
      → part.Blob (bytes ++ b ∷ []) ∷ unformed head Next ws ps ≡ unformed head (mode_of left bytes) ws (part.Number (pos b) ∷ ps)
  last_so head ps left b ws bytes one = sym (ap (λ (m : ℕ). unformed head (mode_of m bytes) ws (part.Number (pos b) ∷ ps)) one)

  -- a further byte
  pub byte_passed : (p : Datum) (b : ℕ) → p ≡ part.Number (pos b) → 1 < s.left → t.left ≡ s.left - 1 → t.bytes.items ≡ s.bytes.items ++ b ∷ [] → t.found.items ≡ s.found.items → t.waiting.items ≡ s.waiting.items → IsPassed p s t
  byte_passed p b is some left bytes found waits = λ head ps.
      ap₂ (λ (m : ℕ) (bs : List ℕ). t.found.items ++ unformed head (mode_of m bs) (reverse t.waiting.items) ps) left bytes
      ∙ ap₂ (λ (l : List Datum) (us : List (TypeId × Bool)). l ++ unformed head (mode_of (s.left - 1) (s.bytes.items ++ b ∷ [])) (reverse us) ps) found waits
      ∙ ap (λ (l : List Datum). s.found.items ++ l) (let one : s.left ≡ suc (s.left - 1) = omega (arith, some) in let most : 0 < s.left - 1 = omega (arith, some) in more_so head ps s.left (s.left - 1) b (reverse s.waiting.items) s.bytes.items one most)
      ∙ ap (λ (q : Datum). rest_of head s (q ∷ ps)) (sym is)

  -- the last one
  pub last_passed : (u : Unforming) (p : Datum) (b : ℕ) → p ≡ part.Number (pos b) → s.left ≡ 1 → t.bytes.items ≡ s.bytes.items ++ b ∷ [] → t.found.items ≡ s.found.items → t.waiting.items ≡ s.waiting.items → IsGathered t u → IsPassed p s u
  last_passed u p b is one bytes found waits h = λ head ps.
      h head ps
      ∙ ap₂ (λ (l : List Datum) (us : List (TypeId × Bool)). l ++ part.Blob t.bytes.items ∷ unformed head Next (reverse us) ps) found waits
      ∙ ap (λ (bs : List ℕ). s.found.items ++ part.Blob bs ∷ unformed head Next (reverse s.waiting.items) ps) bytes
      ∙ ap (λ (l : List Datum). s.found.items ++ l) (last_so head ps s.left b (reverse s.waiting.items) s.bytes.items one)
      ∙ ap (λ (q : Datum). rest_of head s (q ∷ ps)) (sym is)

-- ---- the type at the top

module _ (head : TypeId → Node TypeId) (p : Datum) where
  pub top_passed : (s r t : Unforming) (w : TypeId × Bool) → s.left ≡ 0 → reverse s.waiting.items ≡ w ∷ reverse r.waiting.items → r.found.items ≡ s.found.items → IsOpened (head w.0) w.1 p r t → IsPassedAt head p s t
  top_passed s r t w left top found h = λ ps.
      h head ps
      ∙ ap (λ (l : List Datum). l ++ opened head (head w.0) w.1 p (reverse r.waiting.items) ps) found
      ∙ ap (λ (ws : List (TypeId × Bool)). s.found.items ++ unformed head Next ws (p ∷ ps)) (sym top)
      ∙ sym (between s s head (p ∷ ps) left)

  no_types : (ps : List Datum) → unformed head Next [] ps ≡ []
  no_types [] = refl
  no_types (q ∷ ps) = refl

  pub top_over : (s t : Unforming) → s.left ≡ 0 → t.left ≡ 0 → t.found.items ≡ s.found.items → s.waiting.items ≡ [] → t.waiting.items ≡ [] → IsPassedAt head p s t
  top_over s t left same found none waits = λ ps.
      between s t head ps same
      ∙ ap₂ (λ (l : List Datum) (ws : List (TypeId × Bool)). l ++ unformed head Next (reverse ws) ps) found waits
      ∙ ap (λ (l : List Datum). s.found.items ++ l) (no_types ps)
      ∙ sym (between s s head (p ∷ ps) left ∙ ap (λ (ws : List (TypeId × Bool)). s.found.items ++ unformed head Next (reverse ws) (p ∷ ps)) none)

no_parts : (head : TypeId → Node TypeId) (m : Mode) (ws : List (TypeId × Bool)) → unformed head m ws [] ≡ []
no_parts head (Gathers zero bytes) ws = refl
no_parts head (Gathers (suc k) bytes) ws = refl
no_parts head Next [] = refl
no_parts head Next (w ∷ ws) = refl

-- ---- all parts

module _ (head : TypeId → Node TypeId) (parts all : List Datum) (i : ℕ) (s : Unforming) (so : rest_of head s (drop i parts) ≡ all) where
  pub unform_on : (p : Datum) (t : Unforming) → i < length parts → p ≡ get_or parts i p → IsPassedAt head p s t → rest_of head t (drop (i + 1) parts) ≡ all
  unform_on p t below read passed =
      ap (λ (n : ℕ). rest_of head t (drop n parts)) (add-one i)
      ∙ passed (drop (suc i) parts)
      ∙ ap (λ (l : List Datum). rest_of head s l) (sym (drop-cons parts i p below ∙ ap (λ (q : Datum). q ∷ drop (suc i) parts) (sym read)))
      ∙ so

  pub unform_whole : length parts ≤ i → s.found.items ≡ all
  unform_whole done =
      sym (append-nil s.found.items)
      ∙ ap (λ (l : List Datum). s.found.items ++ l) (sym (no_parts head (mode_of s.left s.bytes.items) (reverse s.waiting.items)))
      ∙ ap (λ (l : List Datum). rest_of head s l) (sym (drop_of_length-le parts done))
      ∙ so

-- nothing is passed yet
pub begun_so : (head : TypeId → Node TypeId) (t : TypeId) (s : Unforming) (ps : List Datum) → s.left ≡ 0 → s.found.items ≡ [] → s.waiting.items ≡ (t, false) ∷ [] → rest_of head s ps ≡ unformed head Next ((t, false) ∷ []) ps
begun_so head t s ps left found waits =
    between s s head ps left ∙ ap₂ (λ (l : List Datum) (ws : List (TypeId × Bool)). l ++ unformed head Next (reverse ws) ps) found waits
