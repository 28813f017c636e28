-- The tree of a flat list, which `flat` takes back. Read from the right: the sequences that begin at a place, the
-- innermost first, each with what ends it.
use Rattle.std.specs.Prelude.{ℕ, List, [], ◌∷◌, ◌++◌, Bool, true, false}
use Rattle.wasm_tree.specs.declared.types.ValueType.{ValueType}
use Rattle.wasm_tree.specs.declared.op.Op.{Op}
use Rattle.wasm_tree.specs.declared.op.Op.TheVariants as op
use Rattle.wasm_tree.specs.Code.{Code, Stop, Then, Unreachable, Block, Loop, If, IfElse, Br, BrIf, BrTable, Return, Call, CallIndirect}
use Rattle.std.specs.declared.option.Option.{Option}

-- A sequence, whether an `else` ends it, and the labels that stand before it.
pub record Part : Type 0 where
  pub code : Code
  pub to_else : Bool
  pub labels : List ℕ

abbrev pub ended : Bool → List Part → List Part
ended to_else parts = record { code = Stop; to_else = to_else; labels = [] } ∷ parts

abbrev pub onto : (Code → Code) → List Part → List Part
onto f [] = []
onto f (p ∷ parts) = record { code = f p.code; to_else = p.to_else; labels = [] } ∷ parts

abbrev pub with_body : (Code → Code → Code) → List Part → List Part
with_body f [] = []
with_body f (b ∷ []) = []
with_body f (b ∷ r ∷ parts) = record { code = f b.code r.code; to_else = r.to_else; labels = [] } ∷ parts

-- An `if` whose first side an `else` ends has a second one.
abbrev pub with_sides : Option ValueType → List Part → List Part
with_sides kind [] = []
with_sides kind (b ∷ parts) = sides b.to_else parts
  where
    sides : Bool → List Part → List Part
    sides false [] = []
    sides false (r ∷ parts) = record { code = If kind b.code r.code; to_else = r.to_else; labels = [] } ∷ parts
    sides true [] = []
    sides true (e ∷ []) = []
    sides true (e ∷ r ∷ parts) = record { code = IfElse kind b.code e.code r.code; to_else = r.to_else; labels = [] } ∷ parts

abbrev pub with_label : ℕ → List Part → List Part
with_label l [] = []
with_label l (p ∷ parts) = record { code = p.code; to_else = p.to_else; labels = l ∷ p.labels } ∷ parts

-- The labels of a `br_table`, of which the last one is apart.
abbrev pub table_of : List ℕ → Code → Code
table_of [] rest = rest
table_of (l ∷ labels) rest = split [] l labels
  where
    split : List ℕ → ℕ → List ℕ → Code
    split before last [] = BrTable before last rest
    split before last (next ∷ more) = split (before ++ last ∷ []) next more

abbrev pub with_table : List Part → List Part
with_table [] = []
with_table (p ∷ parts) = record { code = table_of p.labels p.code; to_else = p.to_else; labels = [] } ∷ parts

abbrev pub parts_of : List Op → List Part
parts_of [] = ended false []
parts_of (op.Plain p ∷ ops) = onto (Then p) (parts_of ops)
parts_of (op.Unreachable ∷ ops) = onto Unreachable (parts_of ops)
parts_of (op.Block kind ∷ ops) = with_body (Block kind) (parts_of ops)
parts_of (op.Loop kind ∷ ops) = with_body (Loop kind) (parts_of ops)
parts_of (op.If kind ∷ ops) = with_sides kind (parts_of ops)
parts_of (op.Else ∷ ops) = ended true (parts_of ops)
parts_of (op.End ∷ ops) = ended false (parts_of ops)
parts_of (op.Br l ∷ ops) = onto (Br l) (parts_of ops)
parts_of (op.BrIf l ∷ ops) = onto (BrIf l) (parts_of ops)
parts_of (op.BrTable count ∷ ops) = with_table (parts_of ops)
parts_of (op.Target l ∷ ops) = with_label l (parts_of ops)
parts_of (op.Return ∷ ops) = onto Return (parts_of ops)
parts_of (op.Call f ∷ ops) = onto (Call f) (parts_of ops)
parts_of (op.CallIndirect t ∷ ops) = onto (CallIndirect t) (parts_of ops)

abbrev pub first_code : List Part → Code
first_code [] = Stop
first_code (p ∷ parts) = p.code

abbrev pub tree_of : List Op → Code
tree_of ops = first_code (parts_of ops)
