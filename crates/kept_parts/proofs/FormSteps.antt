-- The Candid parts of values, one after the other.
use Rattle.std.proofs.Common.{◌≡◌, ℕ, suc, ◌+◌, ◌<◌, ◌≤◌, Bool, true, false, List, [], ◌∷◌, ◌++◌, length, map, reverse, drop, get_or, refl, sym, ap, ap₂, ◌∙◌, append_assoc, add-one, arith}
use Rattle.std.specs.Cmp.{unsigned_Decides}
use Rattle.std.specs.Prelude.{◌==◌, pos}
use Rattle.std.proofs.Math.ListN.{drop_of_length-le}
use Rattle.std.proofs.Math.Seq.{drop-cons}
use Rattle.std.proofs.lemmas.List.{append-nil, map-append, reverse-append}
use Rattle.mo_types.specs.declared.datum.Datum.{Datum}
use Rattle.mo_types.specs.declared.datum.Datum.TheVariants as part
use Rattle.mo_types.specs.declared.node.Node.{Node}
use Rattle.mo_types.specs.declared.node.Node.TheVariants as node
use Rattle.mo_types.specs.declared.node.TypeId.{TypeId}
use Rattle.mo_types.specs.Form.{form_part}
use Rattle.kept_forms.specs.Parts.{asked, form_at, form_one, formed, is_unit, numbers}
use Rattle.kept_parts.specs.Steps.{behind, IsFormStep}

-- ---- what waits

pub unit_so : (ts : List TypeId) → (length ts == 0) ≡ is_unit (node.Tuple ts)
unit_so [] = refl
unit_so (t ∷ ts) = by (length (t ∷ ts) == 0) refl
  where
    by : (b : Bool) → (length (t ∷ ts) == 0) ≡ b → (length (t ∷ ts) == 0) ≡ false
    by false e = e
    by true e = absurd (let none : suc (length ts) ≡ 0 = (unsigned_Decides (length (t ∷ ts)) 0).0 e in omega (arith, none))

-- nothing was taken off
pub none_left : (before left : List (TypeId × Bool)) → length before ≡ 0 → before ≡ left ++ [] → (before ≡ []) × (left ≡ [])
none_left [] left none is = (refl, sym (append-nil left) ∙ sym is)
none_left (w ∷ ws) left none is = absurd (let e : suc (length ws) ≡ 0 = none in omega (arith, e))

-- the last type is put first
pub last_first : (under : Bool) (inside left : List TypeId) (t : TypeId) (before after : List (TypeId × Bool)) → inside ≡ left ++ t ∷ [] → after ≡ before ++ (t, under) ∷ []
    → map (λ u. (u, under)) left ++ reverse after ≡ map (λ u. (u, under)) inside ++ reverse before
last_first under inside left t before after is put =
    let one : TypeId → TypeId × Bool = λ u. (u, under) in
    ap (λ (l : List (TypeId × Bool)). map one left ++ l) (ap reverse put ∙ reverse-append before ((t, under) ∷ []))
    ∙ sym (append_assoc (map one left) ((t, under) ∷ []) (reverse before))
    ∙ ap (λ (l : List (TypeId × Bool)). l ++ reverse before) (sym (map-append one left (t ∷ [])))
    ∙ ap (λ (l : List TypeId). map one l ++ reverse before) (sym is)

-- ---- one part

pub form_split : (n : Node TypeId) (p : Datum) → form_one n p ≡ form_part n p ∷ behind n p
form_split node.Blob (part.Blob bytes) = refl
form_split n p = refl

pub put_split : (n : Node TypeId) (p made : Datum) (found more after : List Datum) → made ≡ form_part n p → more ≡ found ++ made ∷ [] → after ≡ more ++ behind n p → after ≡ found ++ form_one n p
put_split n p made found more after is put behind_it =
    behind_it
    ∙ ap (λ (l : List Datum). l ++ behind n p) put
    ∙ append_assoc found (made ∷ []) (behind n p)
    ∙ ap (λ (q : Datum). found ++ q ∷ behind n p) is
    ∙ ap (λ (l : List Datum). found ++ l) (sym (form_split n p))

pub bottom_formed : (under : Bool) (p : Datum) → form_at {A = TypeId} node.Bottom under p ≡ p ∷ []
bottom_formed true p = refl
bottom_formed false p = refl

-- a part of a type that has no values
pub bottom_step : (under : Bool) (p : Datum) (waits : List (TypeId × Bool)) (found made : List Datum) → made ≡ found ++ p ∷ [] → IsFormStep node.Bottom under p waits waits found made
bottom_step under p waits found made is = record { adds = is ∙ ap (λ (l : List Datum). found ++ l) (sym (bottom_formed under p)); waits = refl }

pub numbers_on : (bytes : List ℕ) (i : ℕ) (before after all : List Datum) → i < length bytes → after ≡ before ++ part.Number (pos (get_or bytes i 0)) ∷ [] → before ++ numbers (drop i bytes) ≡ all → after ++ numbers (drop (i + 1) bytes) ≡ all
numbers_on bytes i before after all below put so =
    ap₂ (λ (l : List Datum) (n : ℕ). l ++ numbers (drop n bytes)) put (add-one i)
    ∙ append_assoc before (part.Number (pos (get_or bytes i 0)) ∷ []) (numbers (drop (suc i) bytes))
    ∙ ap (λ (l : List ℕ). before ++ numbers l) (sym (drop-cons bytes i 0 below))
    ∙ so

pub numbers_whole : (bytes : List ℕ) (i : ℕ) (found all : List Datum) → length bytes ≤ i → found ++ numbers (drop i bytes) ≡ all → found ≡ all
numbers_whole bytes i found all done so = sym (append-nil found) ∙ ap (λ (l : List ℕ). found ++ numbers l) (sym (drop_of_length-le bytes done)) ∙ so

-- ---- all parts

module _ (head : TypeId → Node TypeId) where
  opens : (parts : List Datum) (i : ℕ) (p : Datum) → i < length parts → p ≡ get_or parts i p → drop i parts ≡ p ∷ drop (suc i) parts
  opens parts i p below read = drop-cons parts i p below ∙ ap (λ (q : Datum). q ∷ drop (suc i) parts) (sym read)

  -- a part of the type at the top is passed
  pub form_passed : (w : TypeId × Bool) (p : Datum) (before left after : List (TypeId × Bool)) (found made ps : List Datum) → reverse before ≡ w ∷ reverse left → IsFormStep (head w.0) w.1 p left after found made
      → made ++ formed head (reverse after) ps ≡ found ++ formed head (reverse before) (p ∷ ps)
  form_passed w p before left after found made ps top h =
      ap₂ (λ (l : List Datum) (ws : List (TypeId × Bool)). l ++ formed head ws ps) h.adds h.waits
      ∙ append_assoc found (form_at (head w.0) w.1 p) (formed head (asked (head w.0) p ++ reverse left) ps)
      ∙ ap (λ (ws : List (TypeId × Bool)). found ++ formed head ws (p ∷ ps)) (sym top)

  no_types : (ps : List Datum) → formed head [] ps ≡ []
  no_types [] = refl
  no_types (p ∷ ps) = refl

  -- there is none
  pub form_over : (p : Datum) (before left : List (TypeId × Bool)) (found ps : List Datum) → before ≡ [] → left ≡ [] → found ++ formed head (reverse left) ps ≡ found ++ formed head (reverse before) (p ∷ ps)
  form_over p before left found ps none same =
      ap (λ (ws : List (TypeId × Bool)). found ++ formed head (reverse ws) ps) same
      ∙ ap (λ (l : List Datum). found ++ l) (no_types ps)
      ∙ sym (ap (λ (ws : List (TypeId × Bool)). found ++ formed head (reverse ws) (p ∷ ps)) none)

  no_parts : (ws : List (TypeId × Bool)) → formed head ws [] ≡ []
  no_parts [] = refl
  no_parts (w ∷ ws) = refl

  module _ (parts all : List Datum) (i : ℕ) (before : List (TypeId × Bool)) (found : List Datum) (so : found ++ formed head (reverse before) (drop i parts) ≡ all) where
    pub form_on : (p : Datum) (after : List (TypeId × Bool)) (made : List Datum) → i < length parts → p ≡ get_or parts i p
        → ((ps : List Datum) → made ++ formed head (reverse after) ps ≡ found ++ formed head (reverse before) (p ∷ ps)) → made ++ formed head (reverse after) (drop (i + 1) parts) ≡ all
    form_on p after made below read passed =
        ap (λ (n : ℕ). made ++ formed head (reverse after) (drop n parts)) (add-one i)
        ∙ passed (drop (suc i) parts)
        ∙ ap (λ (l : List Datum). found ++ formed head (reverse before) l) (sym (opens parts i p below read))
        ∙ so

    pub form_whole : length parts ≤ i → found ≡ all
    form_whole done =
        sym (append-nil found)
        ∙ ap (λ (l : List Datum). found ++ l) (sym (no_parts (reverse before)))
        ∙ ap (λ (l : List Datum). found ++ formed head (reverse before) l) (sym (drop_of_length-le parts done))
        ∙ so
