-- One part after the other.
use Rattle.std.specs.Prelude.{◌≡◌, ℕ, zero, suc, Bool, List, [], ◌∷◌, ◌++◌, reverse}
use Rattle.mo_types.specs.declared.datum.Datum.{Datum}
use Rattle.mo_types.specs.declared.datum.Datum.TheVariants as part
use Rattle.mo_types.specs.declared.node.Node.{Node}
use Rattle.mo_types.specs.declared.node.Node.TheVariants as node
use Rattle.mo_types.specs.declared.node.TypeId.{TypeId}
use Rattle.kept_forms.specs.Parts.{asked, begins, bytes_behind, form_at, numbers, unform_at, unformed, Gathers, Mode, Next}
use Rattle.kept_parts.specs.declared.unforming.Unforming.{Unforming}

-- the bytes of a Blob, which stand behind their count
abbrev pub behind : {A : Type 0} → Node A → Datum → List Datum
behind node.Blob (part.Blob bytes) = numbers bytes
behind _ _ = []

-- a part comes to these, and what is inside it comes next
pub record IsFormStep (n : Node TypeId) (under : Bool) (p : Datum) (before after : List (TypeId × Bool)) (found made : List Datum) : Type 0 where
  pub adds : made ≡ found ++ form_at n under p
  pub waits : reverse after ≡ asked n p ++ reverse before

-- ---- and back

-- so many bytes are still to come, behind these
abbrev pub mode_of : ℕ → List ℕ → Mode
mode_of zero bytes = Next
mode_of (suc left) bytes = Gathers left bytes

module _ (head : TypeId → Node TypeId) where
  -- what these parts come to behind those that were found
  abbrev pub rest_of : Unforming → List Datum → List Datum
  rest_of s ps = s.found.items ++ unformed head (mode_of s.left s.bytes.items) (reverse s.waiting.items) ps

  -- what a part of a type with this head comes to, with those behind it
  abbrev pub opened : Node TypeId → Bool → Datum → List (TypeId × Bool) → List Datum → List Datum
  opened n under p ws ps =
      begins (bytes_behind n p) (unform_at n under p ∷ unformed head Next (asked n (unform_at n under p) ++ ws) ps) (part.Blob [] ∷ unformed head Next ws ps) (λ k. unformed head (Gathers k []) ws ps)

-- a part of a type with this head is passed
abbrev pub IsOpened : Node TypeId → Bool → Datum → Unforming → Unforming → Type 0
IsOpened n under p s t = (head : TypeId → Node TypeId) (ps : List Datum) → rest_of head t ps ≡ s.found.items ++ opened head n under p (reverse s.waiting.items) ps

-- a part is passed
abbrev pub IsPassedAt : (TypeId → Node TypeId) → Datum → Unforming → Unforming → Type 0
IsPassedAt head p s t = (ps : List Datum) → rest_of head t ps ≡ rest_of head s (p ∷ ps)

abbrev pub IsPassed : Datum → Unforming → Unforming → Type 0
IsPassed p s t = (head : TypeId → Node TypeId) → IsPassedAt head p s t

-- the bytes that were gathered are a Blob
abbrev pub IsGathered : Unforming → Unforming → Type 0
IsGathered s t = (head : TypeId → Node TypeId) (ps : List Datum) → rest_of head t ps ≡ s.found.items ++ part.Blob s.bytes.items ∷ unformed head Next (reverse s.waiting.items) ps
