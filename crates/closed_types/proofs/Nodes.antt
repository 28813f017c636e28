-- Heads whose parts are mapped.
use Rattle.std.proofs.Common.{◌≡◌, ◌⊎◌, inl, inr, ℕ, List, [], ◌∷◌, map, Some, None, refl}
use Rattle.mo_types.specs.declared.node.Node.{Node}
use Rattle.mo_types.specs.declared.node.Node.TheVariants as node
use Rattle.mo_types.specs.declared.node.Field.{Field}
use Rattle.mo_types.specs.Wire.{SameParts}
use Rattle.mo_subtype.specs.Renamed.{on_field, on_node}
use Rattle.subtype_laws.specs.Renamed.{SameFields, Corresponds}
use Rattle.closed_types.specs.Closings.{IsNoVariable}

pub is_variable : {A : Type 0} (x : Node A) → ((v : ℕ) × (b : A) × (x ≡ node.Variable v b)) ⊎ IsNoVariable x
is_variable (node.Variable v b) = inl (v, b, refl)
is_variable x = inr refl

module _ {A B : Type 0} (f : A → B) where
  abbrev Is : A → B → Type 0
  Is a b = f a ≡ b

  parts_map : (ts : List A) → SameParts Is ts (map f ts)
  parts_map [] = tt
  parts_map (t ∷ ts) = (refl, parts_map ts)

  fields_map : (fs : List (Field A)) → SameFields Is fs (map (on_field f) fs)
  fields_map [] = tt
  fields_map (x ∷ fs) = (refl, refl, refl, fields_map fs)

  pub corresponds : (x : Node A) → Corresponds Is x (on_node f x)
  corresponds (node.Number k) = refl
  corresponds node.Bool = refl
  corresponds node.Char = refl
  corresponds node.Text = refl
  corresponds node.Blob = refl
  corresponds node.Principal = refl
  corresponds node.Error = refl
  corresponds node.Null = refl
  corresponds node.Any = refl
  corresponds node.Bottom = refl
  corresponds (node.Opt a) = (f a, refl, refl)
  corresponds (node.Array a) = (f a, refl, refl)
  corresponds (node.MutArray a) = (f a, refl, refl)
  corresponds (node.Tuple ts) = (map f ts, refl, parts_map ts)
  corresponds (node.Object fs) = (map (on_field f) fs, refl, fields_map fs)
  corresponds (node.Actor fs) = (map (on_field f) fs, refl, fields_map fs)
  corresponds (node.Variant fs) = (map (on_field f) fs, refl, fields_map fs)
  corresponds (node.Func s ps rs) = (map f ps, map f rs, refl, parts_map ps, parts_map rs)
  corresponds (node.Async a) = (f a, refl, refl)
  corresponds (node.Variable v b) = (f b, refl, refl)

  pub no_variable_on : (x : Node A) → IsNoVariable x → IsNoVariable (on_node f x)
  no_variable_on (node.Variable v b) e = absurd (let z : Some v ≡ None = e in cc)
  no_variable_on x e = refl
