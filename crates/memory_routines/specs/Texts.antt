-- A routine that compares two texts of one length, byte by byte.
use Rattle.std.specs.Prelude.{◌≡◌, ◌<◌, ◌≤◌, ◌^◌, ℕ, ◌+◌, ◌*◌, List, [], ◌∷◌, length, take, drop, Bool, true, false, ◌&&◌, nat_eq, Some, pos}
use Rattle.wasm_tree.specs.declared.types.ValueType.TheVariants.{I32}
use Rattle.wasm_tree.specs.declared.op.Comparison.TheVariants.{Ne}
use Rattle.wasm_tree.specs.declared.op.BinaryOperator.TheVariants.{Add, Sub}
use Rattle.wasm_tree.specs.declared.op.LoadKind.TheVariants.{I32From8U}
use Rattle.wasm_tree.specs.Numeric.{flag}
use Rattle.wasm_tree.specs.Exec.{Store}
use Rattle.low_ir.specs.declared.op.Operand.TheVariants.{Local, Word}
use Rattle.low_ir.specs.declared.op.Operation.TheVariants.{IsZero, Compare, Binary, Load}
use Rattle.low_ir.specs.Tree.{Code, Stop, Return, Branch, Set, Block, Loop, If, BranchIf, Function}
use Rattle.low_rules.specs.Rule.{CallEnd, Comes}
use Rattle.memory_routines.specs.Heaps.{HoldsBytes}

-- Locals: the places of both, how many bytes are left, and two bytes.
abbrev pub one_pair : Code
one_pair =
    Set 3 (IsZero I32 (Local 2))
    (BranchIf (Local 3) 1
    (Set 3 (Load I32From8U (Local 0) 0)
    (Set 4 (Load I32From8U (Local 1) 0)
    (Set 3 (Compare I32 Ne (Local 3) (Local 4))
    (If (Local 3) (Return (Some (Word (pos 0)))) Stop
    (Set 0 (Binary I32 Add (Local 0) (Word (pos 1)))
    (Set 1 (Binary I32 Add (Local 1) (Word (pos 1)))
    (Set 2 (Binary I32 Sub (Local 2) (Word (pos 1)))
    (Branch 0)))))))))

abbrev pub compare_texts : Code
compare_texts = Block (Loop one_pair Stop) (Return (Some (Word (pos 1))))

abbrev pub comparison : ℕ → Function
comparison signature = record { signature = signature; locals = I32 ∷ I32 ∷ []; body = compare_texts }

abbrev pub text_eq : List ℕ → List ℕ → Bool
text_eq [] [] = true
text_eq [] (y ∷ ys) = false
text_eq (x ∷ xs) [] = false
text_eq (x ∷ xs) (y ∷ ys) = nat_eq x y && text_eq xs ys

abbrev pub same_texts : List ℕ → ℕ → ℕ → ℕ → Bool
same_texts memory a b size = text_eq (take size (drop a memory)) (take size (drop b memory))

-- What is asked: both texts lie in the memory, and the memory holds bytes.
pub record AreTexts (memory : List ℕ) (a b size : ℕ) : Type 0 where
  pub first : a + size ≤ length memory
  pub second : b + size ≤ length memory
  pub small : length memory < 2 ^ 32
  pub bytes : HoldsBytes memory

-- It gives 1 where they are the same, and 0 else, in at most 31 steps for each byte, and leaves the store as it was.
abbrev pub Compares : {World : Type 0} → Store World → (a b size : ℕ) → CallEnd World → Type 0
Compares {World = World} store a b size end = (cost : ℕ) × (cost ≤ 31 * size + 9) × (end ≡ Comes cost store (Some (flag (same_texts store.memory a b size))))
