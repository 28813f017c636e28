-- Motoko values written one part after the other (Candid specification, section "Memory").
use Rattle.std.specs.Prelude.{◌≡◌, ℕ, List, [], ◌∷◌, ◌++◌}
use Rattle.mo_types.specs.declared.datum.Datum.{Datum}
use Rattle.mo_types.specs.declared.node.Node.{Node}
use Rattle.mo_types.specs.declared.node.TypeId.{TypeId}
use Rattle.mo_types.specs.declared.wire.Ref.{Ref}
use Rattle.mo_types.specs.Spelling.{Then, shortest, AnyCount}
use Rattle.candid_forms.specs.Forms.{IsPartAt, inside_ref}
use Rattle.candid_encode.specs.Puts.{Fits}

-- Each part has a type, at the front of those that wait, and puts the types of the values inside it there.
module _ {T : Type 0} (within : T → Datum → List T) where
  -- the bytes of the parts in order
  abbrev pub WritesBy : (T → Datum → List ℕ → Type 0) → List T → List Datum → List ℕ → Type 0
  WritesBy IsPart [] [] bytes = bytes ≡ []
  WritesBy IsPart (t ∷ ts) (p ∷ ps) bytes = Then (IsPart t p) (WritesBy IsPart (within t p ++ ts) ps) bytes
  WritesBy IsPart _ _ bytes = ⊥

  -- each part is one of its type, and no type is left
  abbrev pub HoldsBy : (T → Datum → Type 0) → List T → List Datum → Type 0
  HoldsBy IsPart [] [] = Unit {0}
  HoldsBy IsPart (t ∷ ts) (p ∷ ps) = IsPart t p × HoldsBy IsPart (within t p ++ ts) ps
  HoldsBy IsPart _ _ = ⊥

module _ (head : TypeId → Node TypeId) where
  abbrev pub Writes : List (Ref TypeId) → List Datum → List ℕ → Type 0
  Writes types parts bytes = WritesBy (inside_ref head) (IsPartAt shortest AnyCount head) types parts bytes

  abbrev pub Holds : List (Ref TypeId) → List Datum → Type 0
  Holds types parts = HoldsBy (inside_ref head) (Fits head) types parts

  -- Some parts are written, and from here on the rest and the types that wait are what counts.
  pub record Goes (types : List (Ref TypeId)) (parts : List Datum) (todo : List (Ref TypeId)) (rest : List Datum) (old new : List ℕ) : Type 0 where
    pub written : List ℕ
    pub whole : new ≡ old ++ written
    pub writes : (bytes : List ℕ) → Writes todo rest bytes → Writes types parts (written ++ bytes)
    pub holds : Holds types parts → Holds todo rest
