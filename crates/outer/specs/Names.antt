-- Names with the bytes that they hold.
use Rattle.std.specs.Prelude.{◌≡◌, ◌≢◌, ⊤, ℕ, ◌<◌, ◌≤◌, List, length, Option, Some, None}
use Rattle.outer.specs.declared.outside.Content.{Content}
use Rattle.outer.specs.declared.outside.Content.TheVariants.{Whole, TooLong, Missing}

-- what each name holds, or that there is no such name
abbrev pub NameMap : Type 0
NameMap = List ℕ → Option (List ℕ)

-- what a read answers of a name that holds this: by cases on the answer, and no two cases hold of one name
abbrev pub IsContent : ℕ → Option (List ℕ) → Content → Type 0
IsContent limit held Missing = held ≡ None
IsContent limit held TooLong = (bytes : List ℕ) × (held ≡ Some bytes) × (limit < length bytes)
IsContent limit held (Whole bytes) = (held ≡ Some bytes) × (length bytes ≤ limit)

-- the name holds these bytes, where it is told what names hold
abbrev pub HoldsNow : Option NameMap → List ℕ → List ℕ → Type 0
HoldsNow None name bytes = ⊤
HoldsNow (Some new) name bytes = new name ≡ Some bytes

-- no other name changed, where it is told what names hold
abbrev pub KeepsOthers : Option NameMap → Option NameMap → List ℕ → Type 0
KeepsOthers None None name = ⊤
KeepsOthers (Some old) (Some new) name = (other : List ℕ) → other ≢ name → new other ≡ old other
KeepsOthers None (Some new) name = ⊥
KeepsOthers (Some old) None name = ⊥
