-- The two questions as one: which values may be sent to other actors, and which of those, as those of Any may not, may be compared.
use Rattle.std.specs.Prelude.{Bool, true, false}
use Rattle.mo_types.specs.declared.node.Node.{Node}
use Rattle.typed_tree.specs.Shareable.{IsShareable, IsComparable}

-- where values of Any are among them, or not
abbrev pub IsAs : {A : Type 0} → Bool → (A → Node A) → A → Type 0
IsAs true head t = IsShareable head t
IsAs false head t = IsComparable head t
