-- What is asked of the code of a primitive: it does what the primitive does, to words that stand for the operands.
use Rattle.std.specs.Prelude.{⊤, ◌≡◌, ◌⊎◌, ◌≤◌, ◌<◌, ◌^◌, ℕ, ◌+◌, ◌*◌, true, List, [], ◌∷◌, length, None, slice_index}
use Rattle.mo_types.specs.declared.node.Node.{Node}
use Rattle.mo_types.specs.declared.node.TypeId.{TypeId}
use Rattle.mo_values.specs.Shapes.{Bytes, unit}
use Rattle.wasm_tree.specs.declared.trap.Trap.{Trap}
use Rattle.wasm_tree.specs.declared.trap.Trap.TheVariants as trap
use Rattle.wasm_tree.specs.Exec.{Store, Host, Answers, Refuses}
use Rattle.core_ir.specs.declared.primitive.Primitive.{Primitive}
use Rattle.core_ir.specs.Primitives.{Done, Gives, Prints, Fails, Stuck, perform}
use Rattle.core_ir.specs.Values.{Value}
use Rattle.core_ir.specs.Worlds.{World, with_store}
use Rattle.low_ir.specs.declared.op.Operand as low
use Rattle.low_ir.specs.declared.op.Operand.TheVariants.{Local, Word, Long}
use Rattle.low_ir.specs.Tree.{Code, Module}
use Rattle.low_ir.specs.Numbering.{host_trap}
use Rattle.low_ir.specs.Frames.{enter}
use Rattle.low_rules.specs.Rule.{At, ComesTo, value_of}
use Rattle.code_sequences.specs.Laws.{Goes, Falls}
use Rattle.memory_routines.specs.Heaps.{heap, IsHeap}
use Rattle.memory_routines.specs.Allocation.{Allocates}
use Rattle.heap_layout.specs.Ghosts.{Ghost}
use Rattle.heap_layout.specs.Means.{Rep, Reps}
use Rattle.heap_layout.specs.Heaps.{Plan, Holds}
use Rattle.heap_layout.specs.Later.{Later}
use Rattle.heap_layout.specs.Table.{StandsAt, bytes_for, cost_of, words_for_levels, words_beside, host_print}
use Rattle.flat_emission.specs.Emission.{Linkage}

-- the words of operands
abbrev pub given : List low.Operand → List ℕ → List ℕ
given [] locals = []
given (a ∷ args) locals = value_of a locals ∷ given args locals

-- Operands that do not stand in the three locals from a free one on.
abbrev pub Clear : ℕ → List low.Operand → Type 0
Clear free [] = ⊤
Clear free (Local x ∷ xs) = ((x < free) ⊎ (3 + free ≤ x)) × Clear free xs
Clear free (Word z ∷ xs) = Clear free xs
Clear free (Long z ∷ xs) = Clear free xs

-- Few operands for its weight.
abbrev pub Light : ℕ → Done → Type 0
Light n (Gives cost v after) = (1 ≤ cost.weight) × (n ≤ 4 * cost.weight)
Light n (Prints cost text) = (1 ≤ cost.weight) × (n ≤ 4 * cost.weight)
Light n (Fails cost text) = (1 ≤ cost.weight) × (n ≤ 4 * cost.weight)
Light n Stuck = ⊤

-- What a call of a routine of the table takes, in steps for each unit of weight.
abbrev pub routine_steps : ℕ
routine_steps = 4102

-- How the host shows texts that stand in a memory whose addresses are words: it prints them, and it ends an execution with them.
pub record HostShows {W : Type 0} (host : Host W) (told fell : W → Bytes → W) : Type 0 where
  pub prints : (memory : List ℕ) (world : W) (address : ℕ) (text : Bytes) → length memory < 2 ^ 32 → StandsAt memory address text → host host_print (address ∷ length text ∷ []) memory world ≡ Answers None memory (told world text)
  pub traps : (memory : List ℕ) (world : W) (address : ℕ) (text : Bytes) → length memory < 2 ^ 32 → StandsAt memory address text → host host_trap (address ∷ length text ∷ []) memory world ≡ Refuses (fell world text)

-- The routine for allocation does what it is for, within the stack words that all routines share.
abbrev pub AllocationKeeps : {W : Type 0} → (pages : ℕ) → Module → Host W → Linkage → Type 0
AllocationKeeps {W = W} pages m host link =
    (deep room : ℕ) → words_beside ≤ deep → words_beside ≤ room → (s : Store W) (memory : List ℕ) (count top : ℕ) (others : List ℕ) → IsHeap memory count top → (size : ℕ) → size < 2 ^ 32
    → ComesTo (enter deep pages m host room) link.allocation (heap s memory top others) (size ∷ []) (Allocates pages s memory count top others size)

abbrev pub told_all : {W : Type 0} → (W → Bytes → W) → W → List Bytes → W
told_all told w [] = w
told_all told w (t ∷ ts) = told_all told (told w t) ts

-- A store whose heap ends at this word and holds the world.
pub record HeapHeld {W : Type 0} (plan : Plan) (g : Ghost) (world : World) (store : Store W) (top : ℕ) : Type 0 where
  pub count : ℕ
  pub others : List ℕ
  pub is : store ≡ heap store store.memory (8 * top) others
  pub holds : Holds plan g world store.memory count top

-- A local has taken the word, and the others below the free ones are as they were.
pub record IsPut (to free word : ℕ) (locals locals' : List ℕ) : Type 0 where
  pub long : length locals' ≡ length locals
  pub word_is : slice_index locals' to ≡ word
  pub others : (x : ℕ) → x < free → (x ≡ to → ⊥) → slice_index locals' x ≡ slice_index locals x

module _ {W : Type 0} (plan : Plan) (told fell : W → Bytes → W) (unit_steps : ℕ) where
  -- The value has come into the local, in a heap that holds the world after, and these texts were shown.
  pub record Worked (g : Ghost) (world : World) (store : Store W) (locals : List ℕ) (top to free weight : ℕ) (prints : List Bytes) (v : Value) (after : List Value) (h : At W) : Type 0 where
    pub word : ℕ
    pub ghost : Ghost
    pub end : ℕ
    pub heap : HeapHeld plan ghost (with_store world after) h.store end
    pub later : Later g ghost store.memory h.store.memory
    pub rep : Rep ghost h.store.memory word v
    pub put : IsPut to free word locals h.locals
    pub table : h.store.table ≡ store.table
    pub some : 1 ≤ h.spent
    pub few : h.spent ≤ unit_steps * weight
    pub bytes : 8 * end ≤ 8 * top + bytes_for weight
    pub shown : h.store.world ≡ told_all told store.world prints

  -- The execution has ended with the text.
  pub record Fallen (store : Store W) (weight : ℕ) (text : Bytes) (cause : Trap) (spent : ℕ) (end : Store W) : Type 0 where
    pub cause_is : cause ≡ trap.Host
    pub few : spent ≤ unit_steps * weight
    pub world : end.world ≡ fell store.world text

  -- The execution has ended for want of memory, where the heap would be beyond this address with what the weight pays for.
  pub record Wanting (store : Store W) (roof top weight : ℕ) (cause : Trap) (spent : ℕ) (end : Store W) : Type 0 where
    pub cause_is : cause ≡ trap.Unreachable
    pub refused : end.refused ≡ true
    pub few : spent ≤ unit_steps * weight
    pub world : end.world ≡ store.world
    pub lacks : roof < 8 * top + bytes_for weight

  module _ (g : Ghost) (world : World) (store : Store W) (locals : List ℕ) (top to free : ℕ) where
    abbrev pub ComesAs : Done → At W → Type 0
    ComesAs (Gives cost v after) h = Worked g world store locals top to free cost.weight [] v after h
    ComesAs (Prints cost text) h = Worked g world store locals top to free cost.weight (text ∷ []) unit world.store h
    ComesAs (Fails cost text) h = ⊥
    ComesAs Stuck h = ⊥

    abbrev pub FallsAs : (roof : ℕ) → Done → Trap → ℕ → Store W → Type 0
    FallsAs roof (Gives cost v after) cause spent end = Wanting store roof top cost.weight cause spent end
    FallsAs roof (Prints cost text) cause spent end = Wanting store roof top cost.weight cause spent end
    FallsAs roof (Fails cost text) cause spent end = Fallen store cost.weight text cause spent end ⊎ Wanting store roof top cost.weight cause spent end
    FallsAs roof Stuck cause spent end = ⊥

  -- Where the primitive has an answer, and the stack has room for its levels, the code does what it does, or ends for want of memory.
  abbrev pub CodeKeeps : (head : TypeId → Node TypeId) (pages roof : ℕ) → Module → Host W → (deep room : ℕ) → Primitive → (to free : ℕ) → List low.Operand → Code → Type 0
  CodeKeeps head pages roof m host deep room p to free xs code =
      (g : Ghost) (world : World) (store : Store W) (top : ℕ) → HeapHeld plan g world store top → (locals : List ℕ) (vs : List Value) → to < length locals → 3 + free ≤ length locals → Clear free xs → Reps g store.memory (given xs locals) vs
      → (perform head world.store p vs ≡ Stuck → ⊥) → Light (length vs) (perform head world.store p vs)
      → words_for_levels (cost_of head plan host (perform head world.store p vs)).levels + words_beside ≤ deep → words_for_levels (cost_of head plan host (perform head world.store p vs)).levels + words_beside ≤ room
      → Goes pages m (enter deep pages m host room) code (ComesAs g world store locals top to free (perform head world.store p vs)) (record { spent = 0; store = store; locals = locals })
      ⊎ Falls pages m (enter deep pages m host room) code (FallsAs g world store locals top to free roof (perform head world.store p vs)) (record { spent = 0; store = store; locals = locals })

  -- The codes of all primitives that are treated do.
  abbrev pub AllKeep : (head : TypeId → Node TypeId) (pages roof : ℕ) → Module → Host W → Linkage → Type 0
  AllKeep head pages roof m host link =
      (deep room : ℕ) (p : Primitive) → link.treated p ≡ true → (to free : ℕ) (xs : List low.Operand) → CodeKeeps head pages roof m host deep room p to free xs (link.operation p to free xs)
