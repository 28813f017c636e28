-- The low code of plain functions. Local 0 has the address of the block of the function's group; then come the slots, two words for
-- addresses and tests, one for a value, and places for operands that do not stand in a local.
use Rattle.std.specs.Prelude.{ℕ, zero, suc, ◌+◌, ◌-◌, ◌*◌, ℤ, pos, Bool, List, [], ◌∷◌, ◌++◌, length, replicate, Some, ◌-ℤ◌, ◌^◌, cond, int_le}
use Rattle.mo_types.specs.declared.datum.Datum.{Datum}
use Rattle.mo_types.specs.declared.datum.Datum.TheVariants as part
use Rattle.mo_types.specs.Label.{label_id}
use Rattle.mo_values.specs.Shapes.{Bytes}
use Rattle.wasm_tree.specs.declared.types.ValueType.TheVariants.{I32, I64}
use Rattle.wasm_tree.specs.declared.op.Comparison.TheVariants.{Eq}
use Rattle.wasm_tree.specs.declared.op.BinaryOperator.TheVariants.{Add}
use Rattle.wasm_tree.specs.declared.op.Conversion.TheVariants.{Wrap, ExtendU}
use Rattle.wasm_tree.specs.declared.op.LoadKind.TheVariants as load
use Rattle.wasm_tree.specs.declared.op.StoreKind.TheVariants as store
use Rattle.wasm_tree.specs.Numeric.{flag}
use Rattle.core_ir.specs.declared.primitive.Primitive.{Primitive}
use Rattle.core_ir.specs.declared.primitive.Constructor.{Constructor}
use Rattle.core_ir.specs.declared.primitive.Constructor.TheVariants.{Present, Tagged}
use Rattle.core_ir.specs.declared.constant.Constant.{Constant}
use Rattle.core_ir.specs.declared.constant.Constant.TheVariants as constant
use Rattle.core_ir.specs.declared.code.Operand.{Operand}
use Rattle.core_ir.specs.declared.code.Operand.TheVariants.{Slot, Captured, Member, Global}
use Rattle.core_ir.specs.declared.code.Operand.TheVariants as operand
use Rattle.core_ir.specs.Code as flat
use Rattle.core_ir.specs.Code.{Body}
use Rattle.core_ir.specs.CodeMachine.{first_of}
use Rattle.core_ir.specs.FormedCode.{most_of, most_operands}
use Rattle.low_ir.specs.declared.op.Operand as low
use Rattle.low_ir.specs.declared.op.Operand.TheVariants.{Local, Word, Long}
use Rattle.low_ir.specs.declared.op.Operation.TheVariants.{IsZero, Compare, Binary, Convert, Load}
use Rattle.low_ir.specs.Tree.{Code, Stop, Return, Branch, Set, Store, Block, Loop, If, Call, CallIndirect, Function}
use Rattle.code_sequences.specs.Sequences.{seq}
use Rattle.heap_layout.specs.Heaps.{Plan}

-- What emission knows of its module beside the plan of the memory: from which word on the values of the actor's names stand, and how many
-- of the first names have none; the routine for allocation, the type of functions of so many parameters, in which word the block of a literal's bytes begins, and the code of
-- each primitive, which puts its value into a local, from operands, and for which three locals from a further one on are free. Of a
-- primitive that is not treated nothing is asked, and code that holds one is left out.
pub record Linkage : Type 0 where
  pub names : ℕ
  pub hidden : ℕ
  pub allocation : ℕ
  pub type_of : ℕ → ℕ
  pub bytes_at : Bytes → ℕ
  pub treated : Primitive → Bool
  pub operation : Primitive → (to free : ℕ) → List low.Operand → Code

-- A body: so many slots, in a group of so many functions, and places for so many operands.
pub record Here : Type 0 where
  pub slots : ℕ
  pub members : ℕ
  pub most : ℕ

-- The literal of a number's word: numbers from 2 ^ 63 on have a sign there.
abbrev pub signed_long : ℤ → ℤ
signed_long n = cond (int_le n (pos (2 ^ 63 - 1))) n (n -ℤ pos (2 ^ 64))

-- The word of a value that stands in the code. Texts and what else is in bytes stand ready; shared functions are not treated.
abbrev pub leaf_word : (Bytes → ℕ) → Datum → ℤ
leaf_word bytes_at (part.Number n) = signed_long n
leaf_word bytes_at (part.Flag b) = pos (flag b)
leaf_word bytes_at (part.Char c) = pos c
leaf_word bytes_at (part.Text t) = pos (8 * bytes_at t)
leaf_word bytes_at (part.Blob t) = pos (8 * bytes_at t)
leaf_word bytes_at (part.Principal p) = pos (8 * bytes_at p)
leaf_word bytes_at (part.Actor p) = pos (8 * bytes_at p)
leaf_word bytes_at p = pos 0

abbrev pub constant_word : (Bytes → ℕ) → Constant → ℤ
constant_word bytes_at constant.Unit = pos 0
constant_word bytes_at (constant.Leaf p) = leaf_word bytes_at p

-- In the place of forms that are not treated here.
abbrev pub nowhere : Code
nowhere = Return (Some (Long (pos 0)))

-- ---- locals

abbrev pub slot : ℕ → ℕ
slot x = suc x

module _ (here : Here) where
  abbrev pub first_word : ℕ
  first_word = suc here.slots

  abbrev pub second_word : ℕ
  second_word = suc (suc here.slots)

  abbrev pub value_word : ℕ
  value_word = suc (suc (suc here.slots))

  abbrev pub place_local : ℕ → ℕ
  place_local i = suc (suc (suc (suc (here.slots + i))))

  abbrev pub local_count : ℕ
  local_count = suc (suc (suc (suc (here.slots + here.most))))

module _ (plan : Plan) (link : Linkage) (here : Here) where
  -- ---- operands

  -- where the i-th operand of an instruction is read
  abbrev pub place : ℕ → Operand → low.Operand
  place i (Slot x) = Local (slot x)
  place i (Captured x) = Local (place_local here i)
  place i (Member k) = Local (place_local here i)
  place i (Global x) = Local (place_local here i)
  place i (operand.Constant c) = Long (constant_word link.bytes_at c)

  abbrev pub places : ℕ → List Operand → List low.Operand
  places i [] = []
  places i (x ∷ xs) = place i x ∷ places (suc i) xs

  -- what does not stand in a local comes into its place
  abbrev pub fetch : ℕ → Operand → Code → Code
  fetch i (Slot x) rest = rest
  fetch i (Captured x) rest = Set (place_local here i) (Load load.I64 (Local 0) (8 * (2 * here.members + x))) rest
  fetch i (Member k) rest =
      Set (place_local here i) (Convert ExtendU (Local 0)) (Set (place_local here i) (Binary I64 Add (Local (place_local here i)) (Long (pos (8 * (2 * k))))) rest)
  fetch i (Global x) rest = Set (place_local here i) (Load load.I64 (Word (pos 0)) (8 * (link.names + x))) rest
  fetch i (operand.Constant c) rest = rest

  abbrev pub fetches : ℕ → List Operand → Code → Code
  fetches i [] rest = rest
  fetches i (x ∷ xs) rest = fetch i x (fetches (suc i) xs rest)

  -- operands come to their places, and then so on
  abbrev pub readied : List Operand → Code → Code
  readied xs more = seq (fetches 0 xs Stop) more

  -- a primitive on operands, into a local
  abbrev pub operated : ℕ → Primitive → List Operand → Code → Code
  operated t p xs more = readied xs (seq (link.operation p t (first_word here) (places 0 xs)) more)

  -- ---- forms of values

  -- An option that is there is the address of its value; a variant's first word tells its tag.
  abbrev pub opens : ℕ → Constructor → low.Operand → (y n c : Code) → Code
  opens t Present a y n c =
      Set (first_word here) (IsZero I64 a) (If (Local (first_word here)) n (Set (first_word here) (Convert Wrap a) (Set (slot t) (Load load.I64 (Local (first_word here)) 0) y)) c)
  opens t (Tagged l) a y n c =
      Set (first_word here) (Convert Wrap a)
      (Set (value_word here) (Load load.I64 (Local (first_word here)) 0)
      (Set (second_word here) (Compare I64 Eq (Local (value_word here)) (Long (pos (label_id l))))
      (If (Local (second_word here)) (Set (slot t) (Load load.I64 (Local (first_word here)) 8) y) n c)))

  -- ---- groups of functions

  -- for each function its place in the table and the block, from the k-th on
  abbrev pub entries : (code k count : ℕ) → Code → Code
  entries code k zero rest = rest
  entries code k (suc count) rest =
      Store store.I64 (Local (first_word here)) (8 * (2 * k)) (Long (pos (plan.entry_of code k)))
      (Store store.I64 (Local (first_word here)) (8 * (2 * k + 1)) (Local (value_word here)) (entries code (suc k) count rest))

  -- what they see, one after the other, from word i of the block on
  abbrev pub captures : ℕ → List Operand → Code → Code
  captures i [] rest = rest
  captures i (x ∷ xs) rest = fetch 0 x (Store store.I64 (Local (first_word here)) (8 * i) (place 0 x) (captures (suc i) xs rest))

  -- the functions themselves into slots from t on
  abbrev pub handles : (t k count : ℕ) → Code
  handles t k zero = Stop
  handles t k (suc count) = Set (slot t) (Binary I64 Add (Local (value_word here)) (Long (pos (8 * (2 * k))))) (handles (suc t) (suc k) count)

  abbrev pub makes : ℕ → List Operand → ℕ → Code
  makes t seen code =
      Call (Some (first_word here)) link.allocation (Word (pos (8 * (2 * plan.sizes code + length seen))) ∷ [])
      (Set (value_word here) (Convert ExtendU (Local (first_word here)))
      (entries code 0 (plan.sizes code) (captures (2 * plan.sizes code) seen (handles t 0 (plan.sizes code)))))

  -- the block of a function and its place in the table
  abbrev pub finds : Operand → Code → Code
  finds f more =
      Set (second_word here) (Convert Wrap (place 0 f))
      (Set (first_word here) (Load load.I32 (Local (second_word here)) 8) (Set (second_word here) (Load load.I32 (Local (second_word here)) 0) more))

  -- ---- code

  abbrev pub emit : flat.Code → Code
  emit flat.Stop = Stop
  emit (flat.Let t p xs c) = operated (slot t) p xs (emit c)
  emit (flat.If p xs y n c) =
      operated (value_word here) p xs (Set (first_word here) (Convert Wrap (Local (value_word here))) (If (Local (first_word here)) (emit y) (emit n) (emit c)))
  emit (flat.Match t k x y n c) = readied (x ∷ []) (opens t k (place 0 x) (emit y) (emit n) (emit c))
  emit (flat.Loop b c) = Loop (emit b) (emit c)
  emit (flat.Label b c) = Block (emit b) (emit c)
  emit (flat.Branch l) = Branch l
  emit (flat.Make t seen code c) = seq (makes t seen code) (emit c)
  emit (flat.Call t f xs c) =
      readied (f ∷ xs) (finds f (CallIndirect (Some (slot t)) (link.type_of (length xs)) (Local (first_word here) ∷ places 1 xs) (Local (second_word here)) (emit c)))
  emit (flat.Return x) = readied (x ∷ []) (Return (Some (place 0 x)))
  emit (flat.Leave j) = nowhere
  emit (flat.Pass t x j) = nowhere
  emit (flat.Tabulate t n f c) = nowhere
  emit (flat.Send t s f xs h c) = nowhere
  emit (flat.Wait t x h j) = nowhere
  emit (flat.Raise x h) = nowhere

-- ---- functions

abbrev pub here_of : ℕ → Body → Here
here_of members b = record { slots = b.slots; members = members; most = most_of most_operands b.segments }

-- Of a group of so many functions.
abbrev pub function_of : Plan → Linkage → ℕ → Body → Function
function_of plan link members b = record {
  signature = link.type_of b.parameters;
  locals = replicate (b.slots - b.parameters) I64 ++ I32 ∷ I32 ∷ I64 ∷ replicate (most_of most_operands b.segments) I64;
  body = emit plan link (here_of members b) (first_of b.segments);
}
