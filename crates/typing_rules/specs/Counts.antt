-- How many types are met: the different types that are reached from those that are met, and their fields and parts.
use Rattle.std.specs.Prelude.{◌≡◌, ℕ, ◌+◌, ◌≤◌, List, [], ◌∷◌, length}
use Rattle.mo_types.specs.Sub.{Each}
use Rattle.mo_types.specs.Layout.{entries}
use Rattle.subtype_laws.specs.Reached.{Among}
use Rattle.typed_tree.specs.Instances.{types_in}
use Rattle.typed_tree.specs.OperationTypes.{Distinct}
use Rattle.typing_rules.specs.Terms.{Term}
use Rattle.typing_rules.specs.Definitions.{Definitions}
use Rattle.typing_rules.specs.Heads.{head}

module _ (defs : Definitions) where
  -- A use of a name is one type, whose parts are those of the head that it reaches.
  pub data Reached (met : List Term) : Term → Type 0 where
    Met : (t : Term) → Among t met → Reached met t
    Part : (t u : Term) → Reached met t → Among u (types_in (head defs t)) → Reached met u

  -- the fields and parts of these types
  abbrev pub sizes : List Term → ℕ
  sizes [] = 0
  sizes (t ∷ ts) = entries (head defs t) + sizes ts

  -- The types that are reached are these, each once: so many types, with so many fields and parts.
  pub record Counted (met : List Term) (types parts : ℕ) : Type 0 where
    pub list : List Term
    pub distinct : Distinct list
    pub each : (t : Term) → Among t list → Reached met t
    pub all : (t : Term) → Reached met t → Among t list
    pub types_is : types ≡ length list
    pub parts_is : parts ≡ sizes list

  -- No list of different types that are reached passes a limit.
  abbrev pub FewTypes : List Term → Type 0
  FewTypes met = (list : List Term) → Distinct list → Each (Reached met) list → (length list ≤ 4096) × (sizes list ≤ 65536)
