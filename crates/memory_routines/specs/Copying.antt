-- A routine that copies bytes to new memory at the end of the heap.
use Rattle.std.specs.Prelude.{◌≡◌, ◌⊎◌, ◌<◌, ◌≤◌, ℕ, ◌+◌, ◌*◌, max, List, [], ◌∷◌, ◌++◌, take, drop, Some, pos}
use Rattle.wasm_tree.specs.declared.trap.Trap.TheVariants as trap
use Rattle.wasm_tree.specs.declared.types.ValueType.TheVariants.{I32}
use Rattle.wasm_tree.specs.declared.op.BinaryOperator.TheVariants.{Add, Sub}
use Rattle.wasm_tree.specs.declared.op.LoadKind.TheVariants.{I32From8U}
use Rattle.wasm_tree.specs.declared.op.StoreKind.TheVariants.{I32To8}
use Rattle.wasm_tree.specs.Exec.{Store}
use Rattle.low_ir.specs.declared.op.Operand.TheVariants.{Local, Word}
use Rattle.low_ir.specs.declared.op.Operation.TheVariants.{Copy, IsZero, Binary, Load}
use Rattle.low_ir.specs.Tree.{Code, Stop, Return, Branch, Set, Store as Stores, Block, Loop, BranchIf, Call, Function}
use Rattle.low_rules.specs.Rule.{CallEnd, Comes, Dies, refused}
use Rattle.memory_routines.specs.Heaps.{pages_for, heap, heap_end, enlarged}

-- Locals: the place of the bytes, how many are left, the new place, the place of the next byte there, and a test or a byte.
abbrev pub one_byte : Code
one_byte =
    Set 4 (IsZero I32 (Local 1))
    (BranchIf (Local 4) 1
    (Set 4 (Load I32From8U (Local 0) 0)
    (Stores I32To8 (Local 3) 0 (Local 4)
    (Set 0 (Binary I32 Add (Local 0) (Word (pos 1)))
    (Set 3 (Binary I32 Add (Local 3) (Word (pos 1)))
    (Set 1 (Binary I32 Sub (Local 1) (Word (pos 1)))
    (Branch 0)))))))

abbrev pub copy_bytes : ℕ → Code
copy_bytes allocates = Call (Some 2) allocates (Local 1 ∷ []) (Set 3 (Copy (Local 2)) (Block (Loop one_byte Stop) (Return (Some (Local 2)))))

abbrev pub copying : ℕ → ℕ → Function
copying signature allocates = record { signature = signature; locals = I32 ∷ I32 ∷ I32 ∷ []; body = copy_bytes allocates }

-- The memory with so many bytes from one place at another.
abbrev pub placed : List ℕ → ℕ → ℕ → ℕ → List ℕ
placed memory from to count = (take to memory ++ take count (drop from memory)) ++ drop (to + count) memory

-- As allocation of so many bytes, which are those that were asked for; with 25 steps for each.
abbrev pub Copies : {World : Type 0} → (pages : ℕ) → Store World → List ℕ → (count top : ℕ) → List ℕ → (from size : ℕ) → CallEnd World → Type 0
Copies {World = World} pages s memory count top others from size end =
    ((cost : ℕ) × (cost ≤ 25 * size + 63) × (top + size ≤ heap_end) × (pages_for (top + size) ≤ max pages count)
    × (end ≡ Comes cost (heap s (placed (enlarged memory count (top + size)) from top size) (top + size) others) (Some top)))
    ⊎ ((cost : ℕ) × (cost ≤ 46) × ((heap_end < top + size) ⊎ (pages < pages_for (top + size))) × (end ≡ Dies trap.Unreachable cost (refused (heap s memory top others))))
