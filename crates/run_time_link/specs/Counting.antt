-- What is counted over the flat list of a body, from its first instruction on. `words` of `Frames` is the same, told of the tree.
use Rattle.std.specs.Prelude.{◌≡◌, ◌+◌, ◌-◌, ℕ, List, [], ◌∷◌, max, Some, None}
use Rattle.low_ir.specs.declared.op.LowOp.{LowOp}
use Rattle.low_ir.specs.declared.op.LowOp.TheVariants as op
use Rattle.low_ir.specs.Tree.{Code}
use Rattle.low_ir.specs.Flat.{flat}
use Rattle.low_ir.specs.Frames.{operands_of, value_count, height, depth}
use Rattle.run_time_link.specs.declared.frames.Count.{Count}

abbrev pub wider : ℕ → Count → Count
wider n c = record { arguments = c.arguments; height = max c.height n; inside = c.inside; depth = c.depth }

abbrev pub deeper : Count → Count
deeper c = record { arguments = c.arguments; height = c.height; inside = c.inside; depth = max c.depth (c.inside + 1) }

abbrev pub opened : Count → Count
opened c = record { arguments = c.arguments; height = c.height; inside = c.inside + 1; depth = max c.depth (c.inside + 1) }

abbrev pub closed : Count → Count
closed c = record { arguments = c.arguments; height = c.height; inside = c.inside - 1; depth = c.depth }

abbrev pub called : Count → Count
called c = record { arguments = 0; height = c.height; inside = c.inside; depth = c.depth }

abbrev pub counted : LowOp → Count → Count
counted (op.Set x o) c = wider (operands_of o) c
counted (op.SetGlobal x a) c = wider 1 c
counted (op.Store kind a offset b) c = wider 2 c
counted (op.Grow a) c = wider 2 (deeper c)
counted (op.GrowStable a) c = wider 2 (deeper c)
counted (op.Trap a b) c = wider 2 c
counted op.Block c = opened c
counted op.Loop c = opened c
counted (op.If a) c = wider 1 (opened c)
counted op.Else c = c
counted op.End c = closed c
counted (op.Branch label) c = c
counted (op.BranchIf a label) c = wider 1 c
counted (op.Argument a) c = record { arguments = c.arguments + 1; height = c.height; inside = c.inside; depth = c.depth }
counted (op.Call result f) c = called (wider (max c.arguments (value_count result)) c)
counted (op.CallIndirect result x a) c = called (wider (max (c.arguments + 1) (value_count result)) c)
counted (op.Return None) c = c
counted (op.Return (Some a)) c = wider 1 c

abbrev pub counted_all : List LowOp → Count → Count
counted_all [] c = c
counted_all (o ∷ os) c = counted_all os (counted o c)

abbrev pub no_count : Count
no_count = record { arguments = 0; height = 0; inside = 0; depth = 0 }

-- The stack words of a frame with so many parameters and locals, of whichever tree the list is.
abbrev pub AreWords : ℕ → ℕ → List LowOp → ℕ → Type 0
AreWords params locals ops words = (code : Code) → ops ≡ flat code → words ≡ 8 + params + locals + height code + depth code
