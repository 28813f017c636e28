-- What the codes of primitives know of their module.
use Rattle.std.specs.Prelude.{ℕ, ◌+◌, ◌*◌, [], ◌∷◌, length, take, drop, Bool, ◌&&◌, nat_eq, nat_lt, nat_le, pos}
use Rattle.std.specs.Str.{bytes_eq}
use Rattle.mo_num.specs.declared.kind.Kind.{Kind}
use Rattle.mo_num.specs.declared.operator.Operator.{Operator}
use Rattle.mo_values.specs.Shapes.{Bytes}
use Rattle.wasm_tree.specs.declared.types.ValueType.TheVariants.{I32, I64}
use Rattle.wasm_tree.specs.declared.op.BinaryOperator.TheVariants.{Add}
use Rattle.wasm_tree.specs.declared.op.Conversion.TheVariants.{Wrap}
use Rattle.wasm_tree.specs.declared.op.LoadKind.TheVariants as load
use Rattle.low_ir.specs.declared.op.Operand.TheVariants.{Local, Word}
use Rattle.low_ir.specs.declared.op.Operation.TheVariants.{Binary, Convert, Load}
use Rattle.low_ir.specs.Tree.{Code, Trap, Set, Function}
use Rattle.heap_layout.specs.Words.{word_at}
use Rattle.heap_layout.specs.Blocks.{text_words}
use Rattle.heap_layout.specs.Heaps.{Plan}
use Rattle.number_routines.specs.declared.places.TrapPlaces.{TrapPlaces}

-- Where the texts of arithmetic's traps stand; the numbers of the routines: of an operator at a kind whose code does not go inline, of
-- allocation, and of the one that ends the execution with a text's block; and in which word the block of a text begins.
pub record Links : Type 0 where
  pub traps : TrapPlaces
  pub calculation : Operator → Kind → ℕ
  pub allocation : ℕ
  pub failing : ℕ
  pub bytes_at : Bytes → ℕ

-- The execution ends with the text whose block stands at this address.
abbrev pub fail : Code
fail = Set 1 (Load load.I64 (Local 0) 0) (Set 2 (Convert Wrap (Local 1)) (Set 0 (Binary I32 Add (Local 0) (Word (pos 8))) (Trap (Local 0) (Local 2))))

abbrev pub failing_routine : ℕ → Function
failing_routine signature = record { signature = signature; locals = I64 ∷ I32 ∷ []; body = fail }

-- The block of a text stands ready at the beginning of the memory.
abbrev pub stands_ready : Plan → ℕ → Bytes → Bool
stands_ready plan i t =
    nat_lt 0 i
    && (nat_le (i + text_words t) plan.base
    && (nat_eq (word_at plan.texts i) (length t)
    && (nat_le (8 * i + 8 + length t) (length plan.texts) && bytes_eq (take (length t) (drop (8 * i + 8) plan.texts)) t)))
