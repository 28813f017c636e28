-- The routine that all allocation goes through.
use Rattle.std.specs.Prelude.{◌≡◌, ◌⊎◌, ◌<◌, ◌≤◌, ℕ, ◌+◌, max, List, [], ◌∷◌, Some, pos, negsuc}
use Rattle.wasm_tree.specs.declared.trap.Trap.TheVariants as trap
use Rattle.wasm_tree.specs.declared.types.ValueType.TheVariants.{I32}
use Rattle.wasm_tree.specs.declared.op.Comparison.TheVariants.{GtU}
use Rattle.wasm_tree.specs.declared.op.BinaryOperator.TheVariants.{Add, Sub, ShrU}
use Rattle.wasm_tree.specs.Exec.{Store}
use Rattle.low_ir.specs.declared.op.Operand.TheVariants.{Local, Word}
use Rattle.low_ir.specs.declared.op.Operation.TheVariants.{Compare, Binary, Global, Size}
use Rattle.low_ir.specs.Tree.{Code, Stop, Return, Set, SetGlobal, Grow, If, Function}
use Rattle.low_rules.specs.Rule.{CallEnd, Comes, Dies, refused}
use Rattle.memory_routines.specs.Heaps.{pages_for, heap, heap_end, enlarged}

-- Locals: the size, the new end, the pages that it needs, the pages that are there, and a test. Where the new end would be too far for
-- an address, the memory grows by more pages than any has, so that none overflows.
abbrev pub allocate : Code
allocate =
    Set 4 (Global 0)
    (Set 4 (Binary I32 Sub (Word (negsuc 65535)) (Local 4))
    (Set 4 (Compare I32 GtU (Local 0) (Local 4))
    (If (Local 4) (Grow (Word (pos 65537)) Stop) Stop
    (Set 1 (Global 0)
    (Set 1 (Binary I32 Add (Local 1) (Local 0))
    (Set 2 (Binary I32 Add (Local 1) (Word (pos 65535)))
    (Set 2 (Binary I32 ShrU (Local 2) (Word (pos 16)))
    (Set 3 Size
    (Set 4 (Compare I32 GtU (Local 2) (Local 3))
    (If (Local 4) (Set 2 (Binary I32 Sub (Local 2) (Local 3)) (Grow (Local 2) Stop)) Stop
    (Set 3 (Global 0)
    (SetGlobal 0 (Local 1)
    (Return (Some (Local 3)))))))))))))))

abbrev pub allocation : ℕ → Function
allocation signature = record { signature = signature; locals = I32 ∷ I32 ∷ I32 ∷ I32 ∷ []; body = allocate }

-- It gives the old end of the heap, whose end is that much further, in a memory of exactly as many pages as that takes, and within
-- the limit; or it ends the execution for want of memory where the limit has no room for that.
abbrev pub Allocates : {World : Type 0} → (pages : ℕ) → Store World → List ℕ → (count top : ℕ) → List ℕ → (size : ℕ) → CallEnd World → Type 0
Allocates {World = World} pages s memory count top others size end =
    ((cost : ℕ) × (cost ≤ 49) × (top + size ≤ heap_end) × (pages_for (top + size) ≤ max pages count) × (end ≡ Comes cost (heap s (enlarged memory count (top + size)) (top + size) others) (Some top)))
    ⊎ ((cost : ℕ) × (cost ≤ 44) × ((heap_end < top + size) ⊎ (pages < pages_for (top + size))) × (end ≡ Dies trap.Unreachable cost (refused (heap s memory top others))))
