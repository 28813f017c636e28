-- What is asked of the values inside a value, by its head and its type (Motoko language manual, section "Types").
use Rattle.std.specs.Prelude.{ℕ, List, [], ◌∷◌, true, false, pos, codes}
use Rattle.mo_num.specs.declared.kind.Kind.TheVariants as kind
use Rattle.mo_types.specs.declared.datum.Datum.TheVariants as part
use Rattle.mo_types.specs.declared.node.Field.{Field}
use Rattle.mo_types.specs.declared.node.Node.{Node}
use Rattle.mo_types.specs.declared.node.Node.TheVariants as node
use Rattle.mo_values.specs.Shapes.{Bytes, Leaf, Present, Tuple, Array, Object, Tag, Cell}
use Rattle.typed_tree.specs.Has.{wants}
use Rattle.typed_tree.specs.Wants.{Want, Anything, Of, CellOf}

-- types are numbers here
abbrev pub field : Bytes → ℕ → Field ℕ
field l t = record { label = l; mutable = false; part = t }

abbrev pub var_field : Bytes → ℕ → Field ℕ
var_field l t = record { label = l; mutable = true; part = t }

-- `{x : A; var y : B}`
abbrev pub object : Node ℕ
object = node.Object (field (codes "x") 1 ∷ var_field (codes "y") 2 ∷ [])

-- `{#a : A; #b : B}`
abbrev pub variant : Node ℕ
variant = node.Variant (field (codes "a") 1 ∷ field (codes "b") 2 ∷ [])

abbrev pub asked : List (List (Want ℕ))
asked =
    wants Present (node.Opt 1) 1
    ∷ wants Tuple (node.Tuple (1 ∷ 2 ∷ [])) 2
    -- an array holds values, and a mutable one cells
    ∷ wants Array (node.Array 1) 3
    ∷ wants Array (node.MutArray 1) 2
    -- fields in the order of the value, a `var` field as a cell, and one more that the type lacks
    ∷ wants (Object (codes "y" ∷ codes "z" ∷ codes "x" ∷ [])) object 3
    ∷ wants (Tag (codes "b")) variant 1
    -- nothing is inside a number, a null of an option, and a cell
    ∷ wants (Leaf (part.Number (pos 5))) (node.Number kind.Nat) 0
    ∷ wants (Leaf part.Null) (node.Opt 1) 0
    ∷ wants (Cell 7) node.Any 0
    -- at Any, as many values as there are
    ∷ wants Tuple node.Any 2
    ∷ []

abbrev pub wanted_inside : List (List (Want ℕ))
wanted_inside =
    (Of 1 ∷ [])
    ∷ (Of 1 ∷ Of 2 ∷ [])
    ∷ (Of 1 ∷ Of 1 ∷ Of 1 ∷ [])
    ∷ (CellOf 1 ∷ CellOf 1 ∷ [])
    ∷ (CellOf 2 ∷ Anything ∷ Of 1 ∷ [])
    ∷ (Of 2 ∷ [])
    ∷ []
    ∷ []
    ∷ []
    ∷ (Anything ∷ Anything ∷ [])
    ∷ []
