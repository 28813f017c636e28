-- Motoko values with their Candid bytes (Candid specification, section "Memory"; Motoko language manual, section "Candid
-- serialization"), part by part, with no Candid value between: a Blob is spelled as one string of bytes, a character as
-- its number, what stands at Any and () under a tag as nothing.
use Rattle.std.specs.Prelude.{◌≡◌, ℕ, ◌<◌, List, [], ◌∷◌}
use Rattle.mo_types.specs.declared.datum.Datum.{Datum}
use Rattle.mo_types.specs.declared.datum.Datum.TheVariants as part
use Rattle.mo_types.specs.declared.node.Node.{Node}
use Rattle.mo_types.specs.declared.node.Node.TheVariants as node
use Rattle.mo_types.specs.declared.wire.Plain.TheVariants as plain
use Rattle.mo_types.specs.declared.wire.Ref.{Ref}
use Rattle.mo_types.specs.declared.wire.Ref.TheVariants.{Of, Just}
use Rattle.mo_types.specs.Sub.{Each}
use Rattle.mo_types.specs.Wire.{wire_of_node, wire}
use Rattle.mo_types.specs.Form.{form_part}
use Rattle.mo_types.specs.Values.{Values, Nil, Value, IsPartOf}
use Rattle.mo_types.specs.Spelling.{Numbers, Then, IsString, IsWirePart, wire_inside}

-- values of types of any kind, in order: each outermost part, then the values inside it
abbrev pub FormsBy : {T : Type 0} → (T → Datum → List ℕ → Type 0) → (T → Datum → List T) → List T → Values → List ℕ → Type 0
FormsBy IsPart within [] Nil bytes = bytes ≡ []
FormsBy IsPart within (t ∷ ts) (Value p inner others) bytes = Then (IsPart t p) (Then (FormsBy IsPart within (within t p) inner) (FormsBy IsPart within ts others)) bytes
FormsBy IsPart within _ _ bytes = ⊥

module _ {A : Type 0} (N : Numbers) (Allowed : ℕ → Ref A → Type 0) (head : A → Node A) where
  -- the bytes of an outermost part of a type with this head
  abbrev pub IsSpelledBy : Node A → Datum → List ℕ → Type 0
  IsSpelledBy node.Blob (part.Blob b) bytes = Each (λ c. c < 256) b × IsString N b bytes
  IsSpelledBy n p bytes = IsWirePart N Allowed (wire_of_node head n) (form_part n p) bytes

  -- the outermost part of a Motoko value and its bytes; where null stands for () under a tag, the part is that of ()
  abbrev pub IsPartAt : Ref A → Datum → List ℕ → Type 0
  IsPartAt (Of t) p bytes = IsPartOf (head t) p × IsSpelledBy (head t) p bytes
  IsPartAt (Just plain.Null) p bytes = (p ≡ part.Record 0) × (bytes ≡ [])
  IsPartAt (Just _) p bytes = ⊥

-- the types of the values inside a Motoko part; a Blob has none
abbrev pub inside_ref : {A : Type 0} → (A → Node A) → Ref A → Datum → List (Ref A)
inside_ref head r p = wire_inside (wire head r) p

-- Motoko values of these types with their bytes
abbrev pub Forms : {A : Type 0} → (N : Numbers) → (ℕ → Ref A → Type 0) → (A → Node A) → List (Ref A) → Values → List ℕ → Type 0
Forms N Allowed head rs values bytes = FormsBy (IsPartAt N Allowed head) (inside_ref head) rs values bytes
