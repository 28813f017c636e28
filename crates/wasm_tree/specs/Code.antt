-- Instructions as a tree: WebAssembly Core 1.0 section 2.4. The code holds them as a flat list, so that no
-- nesting is too deep for it.
use Rattle.std.specs.Prelude.{◌≡◌, ℕ, List, [], ◌∷◌, ◌++◌, length, map, Option}
use Rattle.wasm_tree.specs.declared.types.ValueType.{ValueType}
use Rattle.wasm_tree.specs.declared.op.Plain.{Plain}
use Rattle.wasm_tree.specs.declared.op.Op.{Op}
use Rattle.wasm_tree.specs.declared.op.Op.TheVariants as op

-- A sequence of instructions: each one comes with those after it. A block has its result, its body and what comes
-- after its end; an `if` without an `else` is told from one with an empty `else`.
pub data Code : Type 0 where
  Stop : Code
  Then : Plain → Code → Code
  Unreachable : Code → Code
  Block : Option ValueType → Code → Code → Code
  Loop : Option ValueType → Code → Code → Code
  If : Option ValueType → Code → Code → Code
  IfElse : Option ValueType → Code → Code → Code → Code
  Br : ℕ → Code → Code
  BrIf : ℕ → Code → Code
  BrTable : List ℕ → ℕ → Code → Code
  Return : Code → Code
  Call : ℕ → Code → Code
  CallIndirect : ℕ → Code → Code

-- The flat list of the sequence.
abbrev pub flat : Code → List Op
flat Stop = []
flat (Then p rest) = op.Plain p ∷ flat rest
flat (Unreachable rest) = op.Unreachable ∷ flat rest
flat (Block kind body rest) = op.Block kind ∷ (flat body ++ op.End ∷ flat rest)
flat (Loop kind body rest) = op.Loop kind ∷ (flat body ++ op.End ∷ flat rest)
flat (If kind first rest) = op.If kind ∷ (flat first ++ op.End ∷ flat rest)
flat (IfElse kind first second rest) = op.If kind ∷ (flat first ++ op.Else ∷ (flat second ++ op.End ∷ flat rest))
flat (Br label rest) = op.Br label ∷ flat rest
flat (BrIf label rest) = op.BrIf label ∷ flat rest
flat (BrTable labels last rest) = op.BrTable (length labels) ∷ (map op.Target labels ++ op.Target last ∷ flat rest)
flat (Return rest) = op.Return ∷ flat rest
flat (Call f rest) = op.Call f ∷ flat rest
flat (CallIndirect t rest) = op.CallIndirect t ∷ flat rest

-- The list is the writing of this tree.
abbrev pub IsFlat : List Op → Code → Type 0
IsFlat ops code = ops ≡ flat code
