-- Heads of types, in a table.
use Rattle.std.specs.Prelude.{◌≡◌, ℕ, List, [], ◌∷◌, map}
use Rattle.mo_types.specs.declared.node.Node.{Node}
use Rattle.mo_types.specs.declared.node.Node.TheVariants as node
use Rattle.mo_types.specs.declared.node.Sort.TheVariants as sort
use Rattle.mo_types.specs.Sub.{Each}
use Rattle.mo_subtype.specs.Renamed.{on_node}
use Rattle.typed_tree.specs.Instances.{types_in}
use Rattle.type_terms.specs.declared.form.Form.{Form}
use Rattle.type_terms.specs.declared.form.Form.TheVariants as form
use Rattle.type_terms.specs.declared.form.TermId.{TermId}
use Rattle.typing_rules.specs.Definitions.{bound_at, unfolded}
use Rattle.typing_rules.specs.Heads as rule
use Rattle.type_definitions.specs.Meanings.{term}
use Rattle.type_definitions.specs.Tables.{Grows, Within, Later}
use Rattle.type_definitions.specs.Definitions.{Listed, rules_in}

-- the head of a form that is neither a shared function nor a parameter
abbrev pub plain_node : Form → Node TermId
plain_node (form.Number k) = node.Number k
plain_node form.Boolean = node.Bool
plain_node form.Character = node.Char
plain_node form.Text = node.Text
plain_node form.Blob = node.Blob
plain_node form.Principal = node.Principal
plain_node form.Error = node.Error
plain_node form.Null = node.Null
plain_node form.Any = node.Any
plain_node (form.Optional a) = node.Opt a
plain_node (form.Array a) = node.Array a
plain_node (form.MutableArray a) = node.MutArray a
plain_node (form.Tuple ts) = node.Tuple ts
plain_node (form.Object fs) = node.Object fs
plain_node (form.Actor fs) = node.Actor fs
plain_node (form.Variant fs) = node.Variant fs
plain_node (form.Function ps r) = node.Func sort.Local ps (r ∷ [])
plain_node (form.Async a) = node.Async a
plain_node _ = node.Bottom

abbrev pub parts_or_itself : Form → TermId → List TermId
parts_or_itself (form.Tuple ts) id = ts
parts_or_itself _ id = id ∷ []

-- a node is made, with terms of the table as parts, and in each later table this holds
pub record MakesNode (old : List Form) (P : List Form → Type 0) (n : Node TermId) (new : List Form) : Type 0 where
  pub grows : Grows old new
  pub within : Each (Within new) (types_in n)
  pub is : (later : List Form) → Later new later → P later

module _ (l : Listed) where
  -- the results of a shared function whose result is this
  abbrev pub AreResults : TermId → List TermId → List Form → Type 0
  AreResults r ids later = map (term later) ids ≡ rule.results (term later r) (unfolded (rules_in later l).types (term later r))

  abbrev pub IsBoundOf : ℕ → TermId → List Form → Type 0
  IsBoundOf at b later = term later b ≡ bound_at (rules_in later l).parameters at

  -- the node of a type that is no use of a name
  abbrev pub IsShapeOf : TermId → Node TermId → List Form → Type 0
  IsShapeOf id n later = on_node (term later) n ≡ rule.shape (rules_in later l) (term later id)

  -- the node of a type
  abbrev pub IsHeadOf : TermId → Node TermId → List Form → Type 0
  IsHeadOf id n later = on_node (term later) n ≡ rule.head (rules_in later l) (term later id)
