-- The laws, as statements.
use Rattle.std.specs.Prelude.{◌≡◌, ◌<◌, ◌≤◌, ◌⊎◌, ◌+◌, ◌*◌, ◌/◌, ℕ, List, [], ◌∷◌, length, take, drop, slice_get, Bool, decimal, Some, None, false}
use Rattle.play_script.specs.declared.item.Word.TheVariants as word
use Rattle.wasm_tree.specs.Exec.{ExecutionLimits, Store, number_of}
use Rattle.wasm_tree.specs.Load.{Instance, Loaded, load}
use Rattle.low_execution.specs.Loading.{first_instance}
use Rattle.ic0_world.specs.declared.world.World.{World}
use Rattle.ic0_world.specs.declared.world.Answer.TheVariants.{Replied}
use Rattle.ic0_world.specs.declared.kind.ExecutionKind.TheVariants.{Query}
use Rattle.ic0_world.specs.Act.{longest_message}
use Rattle.canister_host.specs.Execution.{Entry, End, Finishes, Breaks, execution, store_of}
use Rattle.low_ir.specs.Flat.{flat_module}
use Rattle.low_ir.specs.Formed.{ModuleIsFormed}
use Rattle.wasm_emit.specs.Emit.{emitted}
use Rattle.wasm_tree.specs.Numeric.{flag}
use Rattle.memory_routines.specs.Texts.{text_eq}
use Rattle.memory_routines.specs.Order.{text_order}
use Rattle.memory_routines.specs.Heaps.{pages_for, heap_end, HoldsBytes}
use Rattle.routine_lines.specs.Roles.{AreThere, HasHeap, top_in}
use Rattle.first_run_time.specs.RunTime.{run_time, signature_of, short_text}

abbrev pub RunTimeIsFormed : Type 0
RunTimeIsFormed = ModuleIsFormed run_time

abbrev pub RunTimeHasItsRoutines : Type 0
RunTimeHasItsRoutines = AreThere run_time signature_of

-- What is asked below of the contents of the module holds of those that it begins with.
pub record IsBegun (i : Instance) : Type 0 where
  pub heap : (w : World) → HasHeap (store_of i w)
  pub bytes : HoldsBytes i.memory
  pub table : slice_get i.table 2 ≡ Some (Some 24)
  pub text : take 18 i.memory ≡ short_text
  pub far : (w : World) → 18 ≤ top_in (store_of i w)
  pub loads : (limits : ExecutionLimits) → 1 ≤ limits.pages → load limits (emitted (flat_module run_time)) ≡ Loaded i

abbrev pub RunTimeBeginsWithAHeap : Type 0
RunTimeBeginsWithAHeap = IsBegun (first_instance run_time)

-- A query that has not been answered.
pub record IsAsked (w : World) : Type 0 where
  pub short : length w.argument ≤ longest_message
  pub bytes : HoldsBytes w.argument
  pub before : w.answered ≡ false
  pub answer : w.answer ≡ None
  pub reply : w.reply_data ≡ []

-- The number in the first 8 bytes of the argument, the lowest byte first.
abbrev pub asked_number : World → ℕ
asked_number w = number_of (take 8 w.argument)

-- A query of an entry.
abbrev pub query_of : ℕ → Entry
query_of f = record { kind = Query; function = f; operands = [] }

-- An execution of the WebAssembly module.
abbrev pub executed : ExecutionLimits → ℕ → Instance → World → End
executed limits f i w = execution limits (emitted (flat_module run_time)) i (query_of f ∷ []) w

-- The world after the reply.
abbrev pub replied : List ℕ → World → World
replied text w = record w { kind = Query; reply_data = text; answer = Some (Replied text) }

-- The reply, or want of so many bytes of memory.
abbrev pub RepliesWith : List ℕ → (needs pages top : ℕ) → World → End → Type 0
RepliesWith text needs pages top w end =
    ((store : Store World) × (end ≡ Finishes store) × (store.world ≡ replied text w))
    ⊎ ((end ≡ Breaks word.Heap w.prints) × ((heap_end < top + needs) ⊎ (pages < pages_for (top + needs))))

-- With enough steps and stack words, on any contents that have a heap.
abbrev pub DigitsAreReplied : Type 0
DigitsAreReplied =
    (limits : ExecutionLimits) → 600 ≤ limits.steps → 64 ≤ limits.stack → (i : Instance) (w : World) → HasHeap (store_of i w) → IsAsked w → 8 ≤ length w.argument
    → RepliesWith (decimal (asked_number w)) 28 limits.pages (top_in (store_of i w)) w (executed limits 27 i w)

-- Whether the first half of bytes is the second.
abbrev pub halves_are_same : List ℕ → Bool
halves_are_same bytes = text_eq (take (length bytes / 2) bytes) (take (length bytes / 2) (drop (length bytes / 2) bytes))

-- The size of a text in the first 4 bytes, the lowest first, and which comes first of that text and what is behind it.
abbrev pub first_size : List ℕ → ℕ
first_size bytes = number_of (take 4 bytes)

abbrev pub asked_order : List ℕ → ℕ
asked_order bytes = text_order (take (first_size bytes) (drop 4 bytes)) (drop (4 + first_size bytes) bytes)

abbrev pub OrdersAreReplied : Type 0
OrdersAreReplied =
    (limits : ExecutionLimits) (i : Instance) (w : World) → 46 * first_size w.argument + 120 ≤ limits.steps → 64 ≤ limits.stack → HasHeap (store_of i w) → HoldsBytes i.memory → IsAsked w → 4 + first_size w.argument ≤ length w.argument
    → RepliesWith (asked_order w.argument ∷ []) (length w.argument) limits.pages (top_in (store_of i w)) w (executed limits 30 i w)

-- The trap with the text, or want of so many bytes of memory.
abbrev pub EndsShort : (needs pages top : ℕ) → World → End → Type 0
EndsShort needs pages top w end =
    (end ≡ Breaks (word.Text short_text) w.prints)
    ⊎ ((end ≡ Breaks word.Heap w.prints) × ((heap_end < top + needs) ⊎ (pages < pages_for (top + needs))))

-- The text is at the begin of the memory, below the heap.
abbrev pub ShortArgumentsTrap : Type 0
ShortArgumentsTrap =
    (limits : ExecutionLimits) (i : Instance) (w : World) → 120 ≤ limits.steps → 64 ≤ limits.stack → HasHeap (store_of i w) → HoldsBytes i.memory → 18 ≤ top_in (store_of i w) → take 18 i.memory ≡ short_text → IsAsked w
    → length w.argument < 4 + first_size w.argument → EndsShort (length w.argument) limits.pages (top_in (store_of i w)) w (executed limits 30 i w)

-- The comparison is at its place in the table.
abbrev pub SameAreReplied : Type 0
SameAreReplied =
    (limits : ExecutionLimits) (i : Instance) (w : World) → 31 * (length w.argument / 2) + 140 ≤ limits.steps → 64 ≤ limits.stack → HasHeap (store_of i w) → HoldsBytes i.memory → slice_get i.table 2 ≡ Some (Some 24) → IsAsked w
    → RepliesWith (flag (halves_are_same w.argument) ∷ []) (length w.argument + 1) limits.pages (top_in (store_of i w)) w (executed limits 29 i w)

abbrev pub CopiesAreReplied : Type 0
CopiesAreReplied =
    (limits : ExecutionLimits) (i : Instance) (w : World) → 25 * length w.argument + 130 ≤ limits.steps → 64 ≤ limits.stack → HasHeap (store_of i w) → HoldsBytes i.memory → IsAsked w
    → RepliesWith w.argument (2 * length w.argument) limits.pages (top_in (store_of i w)) w (executed limits 28 i w)
