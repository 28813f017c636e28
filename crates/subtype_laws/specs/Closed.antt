-- Relations between types that the rules of subtyping keep (Motoko language manual, section "Subtyping": the rules are
-- read coinductively, since types may contain themselves).
use Rattle.std.specs.Prelude.{◌≡◌, ◌⊎◌, List}
use Rattle.mo_types.specs.declared.node.Node.{Node}
use Rattle.mo_types.specs.Sub.{Each, NodeBelow, IsSubtype}
use Rattle.subtype_laws.specs.Reached.{Among}

module _ {A I : Type 0} (low high : I → A) where
  -- these two stand beside each other at some place
  abbrev pub Paired : A → A → Type 0
  Paired t u = (i : I) × (low i ≡ t) × (high i ≡ u)

  -- of each pair the rule of its heads asks nothing but pairs and subtypes
  abbrev pub IsClosed : (A → Node A) → Type 0
  IsClosed head = (i : I) → NodeBelow (λ t u. Paired t u ⊎ IsSubtype head t u) (high i) (head (low i)) (head (high i))

module _ {A : Type 0} (head : A → Node A) where
  -- of each pair of the list the rule of its heads asks nothing but pairs of the list and subtypes
  abbrev pub IsClosedList : List (A × A) → Type 0
  IsClosedList pairs = Each (λ p. NodeBelow (λ t u. Among (t, u) pairs ⊎ IsSubtype head t u) p.1 (head p.0) (head p.1)) pairs
