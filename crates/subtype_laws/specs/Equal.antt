-- Equal types (Motoko language manual, section "Subtyping": types that are subtypes of each other are equal), and labels
-- that messages tell apart (Candid specification, sections "Records", "Variants" and "Service References": the ids, or
-- names, of one type are distinct).
use Rattle.std.specs.Prelude.{◌≢◌, List, [], ◌∷◌, map}
use Rattle.mo_types.specs.declared.node.Node.{Node}
use Rattle.mo_types.specs.declared.node.Node.TheVariants as node
use Rattle.mo_types.specs.Label.{label_id}
use Rattle.mo_types.specs.Sub.{Each, IsSubtype}
use Rattle.subtype_laws.specs.Reached.{Reached}

-- each once
abbrev pub Distinct : {X : Type 0} → List X → Type 0
Distinct [] = Unit {0}
Distinct (x ∷ xs) = Each (λ y. x ≢ y) xs × Distinct xs

module _ {A : Type 0} where
  -- no two fields or tags with labels of one number, and no two methods of one name
  abbrev pub AreTold : Node A → Type 0
  AreTold (node.Object fs) = Distinct (map (λ f. label_id f.label) fs)
  AreTold (node.Variant fs) = Distinct (map (λ f. label_id f.label) fs)
  AreTold (node.Actor fs) = Distinct (map (λ f. f.label) fs)
  AreTold _ = Unit {0}

  -- so in each type that stands in this one, at any depth
  abbrev pub IsTold : (A → Node A) → A → Type 0
  IsTold head t = (u : A) → Reached head t u → AreTold (head u)

  -- each is below the other
  abbrev pub AreEqual : (A → Node A) → A → A → Type 0
  AreEqual head t u = IsSubtype head t u × IsSubtype head u t
