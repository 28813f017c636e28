-- Functions that are not shared, by the heads of their types.
use Rattle.std.specs.Prelude.{List, [], ◌∷◌, Option, Some, None, map}
use Rattle.std.specs.declared.vec.Vec.{Vec}
use Rattle.mo_types.specs.declared.node.Node.{Node}
use Rattle.mo_types.specs.declared.node.Node.TheVariants as node
use Rattle.mo_types.specs.declared.node.Sort.TheVariants as sort
use Rattle.type_terms.specs.declared.form.Form.{Form}
use Rattle.type_terms.specs.declared.form.TermId.{TermId}
use Rattle.typing_rules.specs.Terms.{Term}
use Rattle.type_definitions.specs.Meanings.{term}

-- parameters and results
abbrev pub local_at : {A : Type 0} → Node A → Option (List A × List A)
local_at (node.Func sort.Local parameters results) = Some (parameters, results)
local_at _ = None

-- the one of several, where there is only one
abbrev pub only : {A : Type 0} → List A → Option A
only (a ∷ []) = Some a
only _ = None

-- the types of parameters and the result, as they are in a table
abbrev pub shown : {Z : Type 0} → List Form → Vec TermId Z × TermId → List Term × Term
shown later q = (map (term later) q.0.items, term later q.1)
