-- The table of routines: one line for each primitive, by what the table of operations says that it does and costs. A line speaks of
-- words that stand for the operands, in a heap that holds the world, and has the routine's result, its trap, and its steps and bytes in
-- units of the weight.
use Rattle.std.specs.Prelude.{⊤, ◌≡◌, ◌⊎◌, ◌<◌, ◌≤◌, ℕ, ◌+◌, ◌*◌, List, [], ◌∷◌, length, take, drop, max, Some, None, true}
use Rattle.mo_types.specs.declared.node.Node.{Node}
use Rattle.mo_types.specs.declared.node.TypeId.{TypeId}
use Rattle.mo_values.specs.Costs.{Cost}
use Rattle.mo_values.specs.Shapes.{Bytes}
use Rattle.core_ir.specs.declared.primitive.Primitive.{Primitive}
use Rattle.core_ir.specs.Primitives.{Done, Gives, Prints, Fails, Stuck, perform}
use Rattle.core_ir.specs.Primitives as cells
use Rattle.core_ir.specs.Values.{Value}
use Rattle.core_ir.specs.Worlds.{World, with_store}
use Rattle.wasm_tree.specs.declared.trap.Trap.TheVariants as trap
use Rattle.wasm_tree.specs.Exec.{Store, Host}
use Rattle.low_ir.specs.Meaning.{Calls}
use Rattle.low_ir.specs.Numbering.{host_trap}
use Rattle.low_rules.specs.Rule.{CallEnd, Comes, Dies, ComesTo}
use Rattle.low_rules.specs.Lines.{host_end}
use Rattle.memory_routines.specs.Heaps.{heap, heap_end, pages_for}
use Rattle.heap_layout.specs.Ghosts.{Ghost}
use Rattle.heap_layout.specs.Means.{Rep, Reps}
use Rattle.heap_layout.specs.Heaps.{Plan, Holds}
use Rattle.heap_layout.specs.Later.{Later}
use Rattle.heap_layout.specs.Endings.{trap_end}

-- Steps of low code and bytes of the heap for so much weight, stack words for so many levels of a value, and those of all routines
-- beside.
abbrev pub steps_for : ℕ → ℕ
steps_for weight = 4096 * weight

abbrev pub bytes_for : ℕ → ℕ
bytes_for weight = 40 * weight

abbrev pub words_for_levels : ℕ → ℕ
words_for_levels levels = 64 * levels

abbrev pub words_beside : ℕ
words_beside = 4096

-- The number of the host's function that prints.
abbrev pub host_print : ℕ
host_print = 20

-- The bytes of a text in a memory.
pub record StandsAt (memory : List ℕ) (address : ℕ) (text : Bytes) : Type 0 where
  pub inside : address + length text ≤ length memory
  pub bytes : take (length text) (drop address memory) ≡ text

module _ {W : Type 0} (head : TypeId → Node TypeId) (plan : Plan) (host : Host W) where
  -- where a line is asked for
  pub record Here (g : Ghost) (world : World) (store : Store W) (memory : List ℕ) (count top : ℕ) (others : List ℕ) : Type 0 where
    pub is : store ≡ heap store memory (8 * top) others
    pub holds : Holds plan g world memory count top

  -- the word of a value, in a heap that has grown by what the weight pays for
  pub record Gave (g : Ghost) (world : World) (store : Store W) (memory : List ℕ) (top : ℕ) (others : List ℕ) (weight : ℕ) (v : Value) (after : cells.Store) (end : CallEnd W) : Type 0 where
    pub ghost : Ghost
    pub grown : List ℕ
    pub count : ℕ
    pub end_of_heap : ℕ
    pub word : ℕ
    pub steps : ℕ
    pub is : end ≡ Comes steps (heap store grown (8 * end_of_heap) others) (Some word)
    pub few : steps ≤ steps_for weight
    pub bytes : 8 * end_of_heap ≤ 8 * top + bytes_for weight
    pub holds : Holds plan ghost (with_store world after) grown count end_of_heap
    pub later : Later g ghost memory grown
    pub rep : Rep ghost grown word v

  -- the host's trap with the text
  pub record Trapped (store : Store W) (weight : ℕ) (text : Bytes) (end : CallEnd W) : Type 0 where
    pub address : ℕ
    pub steps : ℕ
    pub stands : StandsAt store.memory address text
    pub few : steps ≤ steps_for weight
    pub is : end ≡ trap_end store steps (host host_trap (address ∷ length text ∷ []) store.memory store.world)

  -- what the host's print of the text leaves, and the word of ()
  pub record Printed (store : Store W) (weight : ℕ) (text : Bytes) (end : CallEnd W) : Type 0 where
    pub address : ℕ
    pub steps : ℕ
    pub stands : StandsAt store.memory address text
    pub few : steps ≤ steps_for weight
    pub told : (after : Store W) → host_end store (host host_print (address ∷ length text ∷ []) store.memory store.world) ≡ Comes 0 after None → end ≡ Comes steps after (Some 0)

  abbrev pub EndsAs : Ghost → World → Store W → List ℕ → ℕ → List ℕ → Done → CallEnd W → Type 0
  EndsAs g world store memory top others (Gives cost v after) end = Gave g world store memory top others cost.weight v after end
  EndsAs g world store memory top others (Prints cost text) end = Printed store cost.weight text end
  EndsAs g world store memory top others (Fails cost text) end = Trapped store cost.weight text end
  EndsAs g world store memory top others Stuck end = ⊤

  abbrev pub cost_of : Done → Cost
  cost_of (Gives cost v after) = cost
  cost_of (Prints cost text) = cost
  cost_of (Fails cost text) = cost
  cost_of Stuck = record { weight = 0; levels = 0 }

  -- the end for want of memory, where the heap has no room for what the weight pays for
  pub record Wanted (pages : ℕ) (store : Store W) (count top weight : ℕ) (end : CallEnd W) : Type 0 where
    pub after : Store W
    pub steps : ℕ
    pub is : end ≡ Dies trap.Unreachable steps after
    pub few : steps ≤ steps_for weight
    pub refused : after.refused ≡ true
    pub world : after.world ≡ store.world
    pub lack : (heap_end < 8 * top + bytes_for weight) ⊎ (max pages count < pages_for (8 * top + bytes_for weight))

  abbrev pub LineEnds : (pages : ℕ) → Ghost → World → Store W → List ℕ → (count top : ℕ) → List ℕ → Done → CallEnd W → Type 0
  LineEnds pages g world store memory count top others d end = EndsAs g world store memory top others d end ⊎ Wanted pages store count top (cost_of d).weight end

  -- The line of a primitive, kept by the calls of a function for values of at most so many levels, within this limit of pages: where the
  -- primitive is not stuck, a call on words of operands ends as the primitive does, or for want of memory.
  abbrev pub KeepsLine : (most pages : ℕ) → Calls W → (function : ℕ) → Primitive → Type 0
  KeepsLine most pages calls f p =
      (g : Ghost) (world : World) (store : Store W) (memory : List ℕ) (count top : ℕ) (others : List ℕ) → Here g world store memory count top others → (ws : List ℕ) (vs : List Value) → Reps g memory ws vs
      → (perform head world.store p vs ≡ Stuck → ⊥) → (cost_of (perform head world.store p vs)).levels ≤ most → ComesTo calls f store ws (LineEnds pages g world store memory count top others (perform head world.store p vs))
