-- A routine that says which of two texts comes first, by their bytes.
use Rattle.std.specs.Prelude.{◌≡◌, ◌<◌, ◌≤◌, ◌^◌, ℕ, ◌+◌, ◌*◌, List, [], ◌∷◌, length, take, drop, nat_lt, cond, Some, pos}
use Rattle.wasm_tree.specs.declared.types.ValueType.TheVariants.{I32}
use Rattle.wasm_tree.specs.declared.op.Comparison.TheVariants.{LtU}
use Rattle.wasm_tree.specs.declared.op.BinaryOperator.TheVariants.{Add, Sub}
use Rattle.wasm_tree.specs.declared.op.LoadKind.TheVariants.{I32From8U}
use Rattle.wasm_tree.specs.Exec.{Store}
use Rattle.low_ir.specs.declared.op.Operand.TheVariants.{Local, Word}
use Rattle.low_ir.specs.declared.op.Operation.TheVariants.{IsZero, Compare, Binary, Load}
use Rattle.low_ir.specs.Tree.{Code, Stop, Return, Branch, Set, Loop, If, Function}
use Rattle.low_rules.specs.Rule.{CallEnd, Comes}
use Rattle.memory_routines.specs.Heaps.{HoldsBytes}

-- Locals: the place of the first and how many bytes of it are left, those of the second, a byte of each, and a test.
abbrev pub one_order : Code
one_order =
    Set 4 (IsZero I32 (Local 1))
    (If (Local 4) (Set 4 (IsZero I32 (Local 3)) (Return (Some (Local 4)))) Stop
    (Set 4 (IsZero I32 (Local 3))
    (If (Local 4) (Return (Some (Word (pos 2)))) Stop
    (Set 4 (Load I32From8U (Local 0) 0)
    (Set 5 (Load I32From8U (Local 2) 0)
    (Set 6 (Compare I32 LtU (Local 4) (Local 5))
    (If (Local 6) (Return (Some (Word (pos 0)))) Stop
    (Set 6 (Compare I32 LtU (Local 5) (Local 4))
    (If (Local 6) (Return (Some (Word (pos 2)))) Stop
    (Set 0 (Binary I32 Add (Local 0) (Word (pos 1)))
    (Set 1 (Binary I32 Sub (Local 1) (Word (pos 1)))
    (Set 2 (Binary I32 Add (Local 2) (Word (pos 1)))
    (Set 3 (Binary I32 Sub (Local 3) (Word (pos 1)))
    (Branch 0))))))))))))))

abbrev pub order_texts : Code
order_texts = Loop one_order (Return (Some (Word (pos 1))))

abbrev pub ordering : ℕ → Function
ordering signature = record { signature = signature; locals = I32 ∷ I32 ∷ I32 ∷ []; body = order_texts }

-- 0 where the first comes first, 1 where they are the same, and 2 where the second comes first.
abbrev pub text_order : List ℕ → List ℕ → ℕ
text_order [] [] = 1
text_order [] (y ∷ ys) = 0
text_order (x ∷ xs) [] = 2
text_order (x ∷ xs) (y ∷ ys) = cond (nat_lt x y) 0 (cond (nat_lt y x) 2 (text_order xs ys))

-- Of the texts in a memory.
abbrev pub order_of : List ℕ → ℕ → ℕ → ℕ → ℕ → ℕ
order_of memory a size b other = text_order (take size (drop a memory)) (take other (drop b memory))

-- What is asked: both texts lie in the memory, and the memory holds bytes.
pub record AreBoth (memory : List ℕ) (a size b other : ℕ) : Type 0 where
  pub first : a + size ≤ length memory
  pub second : b + other ≤ length memory
  pub small : length memory < 2 ^ 32
  pub bytes : HoldsBytes memory

-- It gives their order in at most 46 steps for each byte of the first, and leaves the store as it was.
abbrev pub Orders : {World : Type 0} → Store World → (a size b other : ℕ) → CallEnd World → Type 0
Orders {World = World} store a size b other end = (cost : ℕ) × (cost ≤ 46 * size + 12) × (end ≡ Comes cost store (Some (order_of store.memory a size b other)))
