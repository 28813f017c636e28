-- The laws, as statements: calls of the routines in a module that has them, with a depth and stack words for their frames.
use Rattle.std.specs.Prelude.{◌≡◌, ◌<◌, ◌≤◌, ◌^◌, ℕ, ◌+◌, max, List, [], ◌∷◌, length, take, drop, Some, slice_get}
use Rattle.wasm_tree.specs.declared.types.FunctionType.{FunctionType}
use Rattle.wasm_tree.specs.declared.types.ValueType.{ValueType}
use Rattle.wasm_tree.specs.declared.types.ValueType.TheVariants.{I32, I64}
use Rattle.wasm_tree.specs.Exec.{Store, Host}
use Rattle.low_ir.specs.Tree.{Function, Module}
use Rattle.low_ir.specs.Numbering.{all_types, type_of, defined}
use Rattle.low_ir.specs.Formed.{global_kind, FunctionIsFormed}
use Rattle.low_ir.specs.Frames.{enter}
use Rattle.low_rules.specs.Rule.{ComesTo}
use Rattle.memory_routines.specs.Heaps.{pages_for, heap, heap_end, enlarged, IsHeap, HoldsBytes}
use Rattle.memory_routines.specs.Allocation.{allocation, Allocates}
use Rattle.memory_routines.specs.Copying.{copying, placed, Copies}
use Rattle.memory_routines.specs.Numerals.{numeral, WritesDigits}
use Rattle.memory_routines.specs.Order.{ordering, AreBoth, Orders}
use Rattle.memory_routines.specs.Texts.{comparison, AreTexts, Compares}

abbrev pub word_of : List ValueType → FunctionType
word_of params = record { params = params; results = I32 ∷ [] }

-- The module has the function there, and it gives a word.
pub record IsThere (m : Module) (f : ℕ) (params : List ValueType) (fn : Function) : Type 0 where
  pub typed : type_of m f ≡ Some (word_of params)
  pub there : defined m f ≡ Some fn

abbrev pub AllocationKeepsItsLine : Type 0 → Type 0
AllocationKeepsItsLine World =
    (pages : ℕ) (m : Module) (host : Host World) (f signature : ℕ) → IsThere m f (I32 ∷ []) (allocation signature)
    → (deep room : ℕ) → 1 ≤ deep → 17 ≤ room
    → (s : Store World) (memory : List ℕ) (count top : ℕ) (others : List ℕ) → IsHeap memory count top → (size : ℕ) → size < 2 ^ 32
    → ComesTo (enter deep pages m host room) f (heap s memory top others) (size ∷ []) (Allocates pages s memory count top others size)

abbrev pub CopyingKeepsItsLine : Type 0 → Type 0
CopyingKeepsItsLine World =
    (pages : ℕ) (m : Module) (host : Host World) (f g signature other : ℕ) → IsThere m f (I32 ∷ []) (allocation signature) → IsThere m g (I32 ∷ I32 ∷ []) (copying other f)
    → (deep room : ℕ) → 2 ≤ deep → 34 ≤ room
    → (s : Store World) (memory : List ℕ) (count top : ℕ) (others : List ℕ) → IsHeap memory count top → HoldsBytes memory → (from size : ℕ) → from + size ≤ top
    → ComesTo (enter deep pages m host room) g (heap s memory top others) (from ∷ size ∷ []) (Copies pages s memory count top others from size)

abbrev pub ComparisonKeepsItsLine : Type 0 → Type 0
ComparisonKeepsItsLine World =
    (pages : ℕ) (m : Module) (host : Host World) (f signature : ℕ) → IsThere m f (I32 ∷ I32 ∷ I32 ∷ []) (comparison signature)
    → (deep room : ℕ) → 1 ≤ deep → 18 ≤ room
    → (store : Store World) (a b size : ℕ) → AreTexts store.memory a b size
    → ComesTo (enter deep pages m host room) f store (a ∷ b ∷ size ∷ []) (Compares store a b size)

abbrev pub OrderingKeepsItsLine : Type 0 → Type 0
OrderingKeepsItsLine World =
    (pages : ℕ) (m : Module) (host : Host World) (f signature : ℕ) → IsThere m f (I32 ∷ I32 ∷ I32 ∷ I32 ∷ []) (ordering signature)
    → (deep room : ℕ) → 1 ≤ deep → 19 ≤ room
    → (store : Store World) (a size b other : ℕ) → AreBoth store.memory a size b other
    → ComesTo (enter deep pages m host room) f store (a ∷ size ∷ b ∷ other ∷ []) (Orders store a size b other)

abbrev pub NumeralKeepsItsLine : Type 0 → Type 0
NumeralKeepsItsLine World =
    (pages : ℕ) (m : Module) (host : Host World) (f signature : ℕ) → IsThere m f (I32 ∷ I64 ∷ []) (numeral signature)
    → (deep room : ℕ) → 1 ≤ deep → 16 ≤ room
    → (store : Store World) (to n : ℕ) → 20 ≤ to → to ≤ length store.memory → length store.memory < 2 ^ 32 → n < 2 ^ 64
    → ComesTo (enter deep pages m host room) f store (to ∷ n ∷ []) (WritesDigits store to n)

-- The memory after so many bytes were allocated: it is a heap again, and its bytes up to the old end are as they were.
pub record IsHeapStill (memory grown : List ℕ) (count top size : ℕ) : Type 0 where
  pub is : IsHeap grown (max count (pages_for (top + size))) (top + size)
  pub bytes : HoldsBytes memory → HoldsBytes grown
  pub old : take top grown ≡ take top memory

-- After bytes were copied, those from the old end on are theirs.
abbrev pub HeapsStayHeaps : Type 0
HeapsStayHeaps =
    (memory : List ℕ) (count top size : ℕ) → IsHeap memory count top → top + size ≤ heap_end
    → IsHeapStill memory (enlarged memory count (top + size)) count top size
    × ((from : ℕ) → from + size ≤ top → IsHeapStill memory (placed (enlarged memory count (top + size)) from top size) count top size × (take size (drop top (placed (enlarged memory count (top + size)) from top size)) ≡ take size (drop from memory)))

-- In a module that has their types, and a first global that is a word for the one that allocates.
abbrev pub RoutinesAreFormed : Type 0
RoutinesAreFormed =
    (m : Module) (signature : ℕ)
    → (slice_get (all_types m) signature ≡ Some (word_of (I32 ∷ [])) → global_kind m 0 ≡ Some I32 → FunctionIsFormed m (allocation signature))
    × ((f : ℕ) → slice_get (all_types m) signature ≡ Some (word_of (I32 ∷ I32 ∷ [])) → type_of m f ≡ Some (word_of (I32 ∷ [])) → FunctionIsFormed m (copying signature f))
    × (slice_get (all_types m) signature ≡ Some (word_of (I32 ∷ I32 ∷ I32 ∷ [])) → FunctionIsFormed m (comparison signature))
    × (slice_get (all_types m) signature ≡ Some (word_of (I32 ∷ I32 ∷ I32 ∷ I32 ∷ [])) → FunctionIsFormed m (ordering signature))
    × (slice_get (all_types m) signature ≡ Some (word_of (I32 ∷ I64 ∷ [])) → FunctionIsFormed m (numeral signature))
