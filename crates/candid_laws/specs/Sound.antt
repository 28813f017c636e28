-- What may be sent: types that Candid can tell, and values that a reader takes (Candid specification, sections "Types",
-- "Type definition table" and "Memory").
use Rattle.std.specs.Prelude.{◌≡◌, ◌≢◌, ℕ, ◌≤◌, List, [], ◌∷◌, length, map, Some, slice_get}
use Rattle.mo_types.specs.declared.datum.Datum.{Datum}
use Rattle.mo_types.specs.declared.datum.Datum.TheVariants as part
use Rattle.mo_types.specs.declared.node.Node.{Node}
use Rattle.mo_types.specs.declared.node.Node.TheVariants as node
use Rattle.mo_types.specs.declared.node.Sort.TheVariants as sort
use Rattle.mo_types.specs.declared.wire.Wire.{Wire}
use Rattle.mo_types.specs.declared.wire.Wire.TheVariants.{Vec}
use Rattle.mo_types.specs.declared.wire.Ref.{Ref}
use Rattle.mo_types.specs.declared.wire.Ref.TheVariants.{Of}
use Rattle.mo_types.specs.Sub.{Each}
use Rattle.mo_types.specs.Label.{label_id}
use Rattle.mo_types.specs.Wire.{refs, wire}
use Rattle.mo_types.specs.Values.{Values, Value}
use Rattle.mo_types.specs.Spelling.{FewEmpty}
use Rattle.mo_types.specs.Header.{parts_of, Visits}
use Rattle.candid_forms.specs.Forms.{inside_ref}

-- one of these types, or a part of one that is reached
pub data Reached {B : Type 0} (head : B → Wire B) (roots : List B) : B → Type 0 where
  Root : {b : B} (i : ℕ) → slice_get roots i ≡ Some b → Reached head roots b
  Part : {b c : B} (i : ℕ) → Reached head roots b → slice_get (parts_of (head b)) i ≡ Some c → Reached head roots c

-- each once
abbrev pub Distinct : {X : Type 0} → List X → Type 0
Distinct [] = Unit {0}
Distinct (x ∷ xs) = Each (λ y. x ≢ y) xs × Distinct xs

abbrev pub IsShared : {A : Type 0} → Node A → Type 0
IsShared (node.Func sort.Shared ps rs) = Unit {0}
IsShared (node.Func sort.Query ps rs) = Unit {0}
IsShared _ = ⊥

module _ {A : Type 0} (head : A → Node A) where
  -- no two fields or tags with labels of one number, no two methods of one name, and methods are shared functions
  abbrev pub IsWellLabelled : Node A → Type 0
  IsWellLabelled (node.Object fs) = Distinct (map (λ f. label_id f.label) fs)
  IsWellLabelled (node.Variant fs) = Distinct (map (λ f. label_id f.label) fs)
  IsWellLabelled (node.Actor fs) = Distinct (map (λ f. f.label) fs) × Each (λ f. IsShared (head f.part)) fs
  IsWellLabelled _ = Unit {0}

  -- types that are sound, with at most 4,096 entries in their header
  pub record AreSound (types : List A) : Type 0 where
    pub sound : (t : A) → Reached (wire head) (refs types) (Of t) → IsWellLabelled (head t)
    pub few : (order : List (Ref A)) → Visits (wire head) [] (refs types) order → length order ≤ 4096

  -- at most 10,000 items without bytes in a vector
  abbrev pub IsFew : Wire (Ref A) → Datum → Type 0
  IsFew (Vec r) (part.Many n) = FewEmpty (wire head) n r
  IsFew _ _ = Unit {0}

  -- in each vector of these values
  abbrev pub AreFew : List (Ref A) → Values → Type 0
  AreFew (r ∷ rs) (Value p inner others) = IsFew (wire head r) p × AreFew (inside_ref head r p) inner × AreFew rs others
  AreFew _ _ = Unit {0}
