-- The laws, as statements.
use Rattle.std.specs.Prelude.{⊤, ◌≡◌, ℕ, ◌+◌, ◌*◌, ◌<◌, ◌≤◌, ◌^◌, max, List, [], ◌∷◌, ◌++◌, length, take, get_or, true, Ok, slice_set}
use Rattle.wasm_tree.specs.declared.types.ValueType.TheVariants.{I32}
use Rattle.wasm_tree.specs.declared.op.LoadKind.TheVariants as load
use Rattle.wasm_tree.specs.Numeric.{low}
use Rattle.mo_values.specs.Shapes.{Bytes, Head, Present, Tuple, Array, Object, Tag, Made, Function, Shapes, NoShape, AShape, listed}
use Rattle.core_ir.specs.Values.{Value, Handle, cell}
use Rattle.core_ir.specs.Worlds.{World, MadeGroup, with_store, with_group}
use Rattle.low_rules.specs.Rule.{is_inside, loads}
use Rattle.module_laws.specs.Stored.{written}
use Rattle.memory_routines.specs.Heaps.{heap_end, pages_for, IsHeap, HoldsBytes}
use Rattle.heap_layout.specs.Words.{word_at}
use Rattle.heap_layout.specs.Ghosts.{Ghost, Owner, Free, Fixed, first_ghost, with_block, with_group_at, with_cell_at}
use Rattle.heap_layout.specs.Blocks.{constants, places, block_words, text_words, cell_words, group_words, shape_count}
use Rattle.heap_layout.specs.Fills.{with_words, group_block, ConstantsIn, PartsIn}
use Rattle.heap_layout.specs.Means.{Rep, Reps}
use Rattle.heap_layout.specs.Heaps.{Plan, GroupAt, Holds}
use Rattle.heap_layout.specs.Later.{Later}
use Rattle.heap_layout.specs.Table.{bytes_for, StandsAt}

-- What words stand for they stand for later, and a group stands where it stood.
abbrev pub MeaningsStay : Type 0
MeaningsStay =
    (g g' : Ghost) (memory memory' : List ℕ) → Later g g' memory memory'
    → ((w : ℕ) (v : Value) → Rep g memory w v → Rep g' memory' w v)
    × ((plan : Plan) (k : ℕ) (made : MadeGroup) → k < g.made → GroupAt plan g memory (g.groups k) made → GroupAt plan g' memory' (g'.groups k) made)

-- A word of the heap that has an owner is read at its address, which is a word of 32 bits.
pub record IsRead (memory : List ℕ) (i : ℕ) : Type 0 where
  pub address : low I32 (8 * i) ≡ 8 * i
  pub inside : is_inside memory (8 * i) 8 ≡ true
  pub load : loads memory load.I64 (8 * i) ≡ Ok (word_at memory i)

abbrev pub WordsAreRead : Type 0
WordsAreRead = (plan : Plan) (g : Ghost) (world : World) (memory : List ℕ) (count top : ℕ) → Holds plan g world memory count top → (i : ℕ) → (g.own i ≡ Free → ⊥) → (i < top) × IsRead memory i

-- After a cell was written it holds what was written, and all else is as it was.
pub record CellIsWritten (plan : Plan) (g : Ghost) (world : World) (memory : List ℕ) (count top n w : ℕ) (v : Value) : Type 0 where
  pub holds : Holds plan g (with_store world (slice_set world.store n v)) (written memory (8 * g.cells n) 8 w) count top
  pub later : Later g g memory (written memory (8 * g.cells n) 8 w)

abbrev pub CellsAreWritten : Type 0
CellsAreWritten =
    (plan : Plan) (g : Ghost) (world : World) (memory : List ℕ) (count top : ℕ) → Holds plan g world memory count top → (n w : ℕ) (v : Value) → n < length world.store → Rep g memory w v → CellIsWritten plan g world memory count top n w v

-- A block that is made at the end of the heap: a cell, of what it holds and 0.
pub record CellIsMade (plan : Plan) (g : Ghost) (world : World) (memory : List ℕ) (count top w : ℕ) (v : Value) : Type 0 where
  pub holds : Holds plan (with_cell_at g top) (with_store world (world.store ++ v ∷ [])) (with_words memory count top (w ∷ 0 ∷ [])) (max count (pages_for (8 * top + 8 * cell_words))) (top + cell_words)
  pub later : Later g (with_cell_at g top) memory (with_words memory count top (w ∷ 0 ∷ []))
  pub rep : Rep (with_cell_at g top) (with_words memory count top (w ∷ 0 ∷ [])) (8 * top) (cell (length world.store))

abbrev pub CellsAreMade : Type 0
CellsAreMade =
    (plan : Plan) (g : Ghost) (world : World) (memory : List ℕ) (count top : ℕ) → Holds plan g world memory count top → (w : ℕ) (v : Value) → Rep g memory w v → 8 * top + 8 * cell_words ≤ heap_end → CellIsMade plan g world memory count top w v

-- The block of a group of functions, from the words of what they see.
pub record GroupIsMade (plan : Plan) (g : Ghost) (world : World) (memory : List ℕ) (count top code : ℕ) (ws : List ℕ) (vs : List Value) : Type 0 where
  pub holds : Holds plan (with_group_at g top (length (group_block plan code top ws))) (with_group world code vs) (with_words memory count top (group_block plan code top ws))
      (max count (pages_for (8 * top + 8 * length (group_block plan code top ws)))) (top + length (group_block plan code top ws))
  pub later : Later g (with_group_at g top (length (group_block plan code top ws))) memory (with_words memory count top (group_block plan code top ws))
  pub member : (k : ℕ) → k < plan.sizes code
      → Rep (with_group_at g top (length (group_block plan code top ws))) (with_words memory count top (group_block plan code top ws)) (8 * (top + 2 * k)) (Function (record { group = length world.groups; member = k }))

abbrev pub GroupsAreMade : Type 0
GroupsAreMade =
    (plan : Plan) (g : Ghost) (world : World) (memory : List ℕ) (count top : ℕ) → Holds plan g world memory count top → (code : ℕ) → ((k : ℕ) → plan.entry_of code k < 2 ^ 64)
    → (ws : List ℕ) (vs : List Value) → Reps g memory ws vs → 8 * top + 8 * length (group_block plan code top ws) ≤ heap_end → GroupIsMade plan g world memory count top code ws vs

-- A value that is a block of words with parts.
abbrev pub IsBlock : Head → Shapes Handle → Type 0
IsBlock Present inside = ⊤
IsBlock Tuple NoShape = ⊥
IsBlock Tuple (AShape v vs) = ⊤
IsBlock Array inside = ⊤
IsBlock (Object ls) inside = ⊤
IsBlock (Tag l) inside = ⊤
IsBlock head inside = ⊥

pub record BlockIsMade (plan : Plan) (g : Ghost) (world : World) (memory : List ℕ) (count top : ℕ) (head : Head) (inside : Shapes Handle) (block : List ℕ) : Type 0 where
  pub holds : Holds plan (with_block g top (length block)) world (with_words memory count top block) (max count (pages_for (8 * top + 8 * length block))) (top + length block)
  pub later : Later g (with_block g top (length block)) memory (with_words memory count top block)
  pub rep : Rep (with_block g top (length block)) (with_words memory count top block) (8 * top) (Made head inside)

abbrev pub BlocksAreMade : Type 0
BlocksAreMade =
    (plan : Plan) (g : Ghost) (world : World) (memory : List ℕ) (count top : ℕ) → Holds plan g world memory count top → (head : Head) (inside : Shapes Handle) → IsBlock head inside
    → (ws : List ℕ) → Reps g memory ws (listed inside) → (block : List ℕ) → ((k : ℕ) → get_or block k 0 < 2 ^ 64) → ConstantsIn block (constants head (shape_count inside)) → PartsIn block (places head (shape_count inside)) ws
    → 8 * top + 8 * length block ≤ heap_end → BlockIsMade plan g world memory count top head inside block

-- A memory that begins with the texts, and whose words from the heap's end on are free, holds a world without cells and groups.
abbrev pub HeapsBegin : Type 0
HeapsBegin =
    (plan : Plan) (own : ℕ → Owner) (memory : List ℕ) (count top : ℕ) → 0 < top → IsHeap memory count (8 * top) → HoldsBytes memory → plan.base ≤ top → take (8 * plan.base) memory ≡ plan.texts → ((i : ℕ) → i < plan.base → own i ≡ Fixed) → ((i : ℕ) → top ≤ i → own i ≡ Free)
    → Holds plan (first_ghost own) (record { store = []; groups = []; requests = [] }) memory count top

-- The bytes of a block are within what its weight pays for, 40 for each: a value with so many parts, made by an operation that counts
-- its parts and 2, or of a text that counts its bytes and 1; a cell, which counts 1; and a group, which counts its nodes, where its
-- functions and what they see are at most 4 for each of these and one more.
abbrev pub BlocksArePaid : Type 0
BlocksArePaid =
    ((head : Head) (inside : Shapes Handle) → IsBlock head inside → 8 * block_words head (shape_count inside) ≤ bytes_for (2 + shape_count inside))
    × ((t : Bytes) → 8 * text_words t ≤ bytes_for (1 + length t))
    × (8 * cell_words ≤ bytes_for 1)
    × ((functions seen nodes : ℕ) → 2 * functions + seen ≤ 4 * (1 + nodes) → 8 * group_words functions seen ≤ bytes_for (1 + nodes))

-- A text of the module stands in each memory that holds a world.
abbrev pub TextsStand : Type 0
TextsStand = (plan : Plan) (g : Ghost) (world : World) (memory : List ℕ) (count top : ℕ) → Holds plan g world memory count top → (address : ℕ) (t : Bytes) → StandsAt plan.texts address t → StandsAt memory address t
