-- Types of two graphs that are the same under other names (Motoko language manual, section "Type declaration": a name
-- stands for its type).
use Rattle.std.specs.Prelude.{◌≡◌, List, [], ◌∷◌}
use Rattle.mo_types.specs.declared.node.Node.{Node}
use Rattle.mo_types.specs.declared.node.Node.TheVariants as node
use Rattle.mo_types.specs.declared.node.Field.{Field}
use Rattle.mo_types.specs.Wire.{SameParts}

module _ {A B : Type 0} (R : A → B → Type 0) where
  -- fields of the same labels, with related types
  abbrev pub SameFields : List (Field A) → List (Field B) → Type 0
  SameFields [] [] = Unit {0}
  SameFields (f ∷ fs) (g ∷ gs) = (f.label ≡ g.label) × (f.mutable ≡ g.mutable) × R f.part g.part × SameFields fs gs
  SameFields _ _ = ⊥

  -- heads of one form, with related types in the same places
  abbrev pub Corresponds : Node A → Node B → Type 0
  Corresponds (node.Number k) y = y ≡ node.Number k
  Corresponds node.Bool y = y ≡ node.Bool
  Corresponds node.Char y = y ≡ node.Char
  Corresponds node.Text y = y ≡ node.Text
  Corresponds node.Blob y = y ≡ node.Blob
  Corresponds node.Principal y = y ≡ node.Principal
  Corresponds node.Error y = y ≡ node.Error
  Corresponds node.Null y = y ≡ node.Null
  Corresponds node.Any y = y ≡ node.Any
  Corresponds node.Bottom y = y ≡ node.Bottom
  Corresponds (node.Opt a) y = (b : B) × (y ≡ node.Opt b) × R a b
  Corresponds (node.Array a) y = (b : B) × (y ≡ node.Array b) × R a b
  Corresponds (node.MutArray a) y = (b : B) × (y ≡ node.MutArray b) × R a b
  Corresponds (node.Tuple ts) y = (us : List B) × (y ≡ node.Tuple us) × SameParts R ts us
  Corresponds (node.Object fs) y = (gs : List (Field B)) × (y ≡ node.Object gs) × SameFields fs gs
  Corresponds (node.Actor fs) y = (gs : List (Field B)) × (y ≡ node.Actor gs) × SameFields fs gs
  Corresponds (node.Variant fs) y = (gs : List (Field B)) × (y ≡ node.Variant gs) × SameFields fs gs
  Corresponds (node.Func s ps rs) y = (qs : List B) × (ss : List B) × (y ≡ node.Func s qs ss) × SameParts R ps qs × SameParts R rs ss
  Corresponds (node.Async a) y = (b : B) × (y ≡ node.Async b) × R a b
  Corresponds (node.Variable v a) y = (b : B) × (y ≡ node.Variable v b) × R a b

module _ {A B I : Type 0} (old : I → A) (new : I → B) where
  -- these two have one name
  abbrev pub Named : A → B → Type 0
  Named a b = (i : I) × (old i ≡ a) × (new i ≡ b)

  -- under each name both graphs have the same head, with parts of one name each
  abbrev pub AreRenamed : (A → Node A) → (B → Node B) → Type 0
  AreRenamed head other = (i : I) → Corresponds Named (head (old i)) (other (new i))
