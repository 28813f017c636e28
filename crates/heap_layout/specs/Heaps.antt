-- The heap of an execution: it holds the cells and the groups of functions that a world has.
use Rattle.std.specs.Prelude.{◌≡◌, ℕ, ◌+◌, ◌*◌, ◌<◌, ◌≤◌, List, length, take, Some, slice_get}
use Rattle.mo_values.specs.Shapes.{unit}
use Rattle.core_ir.specs.Choices.{nth}
use Rattle.core_ir.specs.Values.{Value}
use Rattle.core_ir.specs.Worlds.{World, MadeGroup}
use Rattle.memory_routines.specs.Heaps.{IsHeap, HoldsBytes}
use Rattle.heap_layout.specs.Words.{word_at}
use Rattle.heap_layout.specs.Ghosts.{Ghost, Free, Fixed, CellOf, MarkOf}
use Rattle.heap_layout.specs.Means.{Rep, ValueAt}

-- What code knows of its module: how many functions a group of the program has, and where in the module's table a function stands; how
-- many words the texts of literals and traps take at the beginning of the memory, and their bytes.
pub record Plan : Type 0 where
  pub sizes : ℕ → ℕ
  pub entry_of : ℕ → ℕ → ℕ
  pub base : ℕ
  pub texts : List ℕ

-- The two words of a function, in the block of its group from word b on.
pub record MemberAt (plan : Plan) (g : Ghost) (memory : List ℕ) (b code k : ℕ) : Type 0 where
  pub entry_fixed : g.own (b + 2 * k) ≡ Fixed
  pub block_fixed : g.own (b + (2 * k + 1)) ≡ Fixed
  pub entry : word_at memory (b + 2 * k) ≡ plan.entry_of code k
  pub block : word_at memory (b + (2 * k + 1)) ≡ 8 * b

pub record GroupAt (plan : Plan) (g : Ghost) (memory : List ℕ) (b : ℕ) (made : MadeGroup) : Type 0 where
  pub members : (k : ℕ) → k < plan.sizes made.code → MemberAt plan g memory b made.code k
  pub seen : (x : ℕ) → x < length made.seen → ValueAt g memory (b + (2 * plan.sizes made.code + x)) (nth unit made.seen x)

pub record CellAt (g : Ghost) (memory : List ℕ) (n : ℕ) (v : Value) : Type 0 where
  pub owner : g.own (g.cells n) ≡ CellOf n
  pub mark : g.own (g.cells n + 1) ≡ MarkOf n
  pub clear : word_at memory (g.cells n + 1) ≡ 0
  pub rep : Rep g memory (word_at memory (g.cells n)) v

-- The texts stand at the beginning, and words from the heap's end on are free. No block is at address 0, which is null and ().
pub record Holds (plan : Plan) (g : Ghost) (world : World) (memory : List ℕ) (count top : ℕ) : Type 0 where
  pub some : 0 < top
  pub heap : IsHeap memory count (8 * top)
  pub bytes : HoldsBytes memory
  pub based : plan.base ≤ top
  pub texts : take (8 * plan.base) memory ≡ plan.texts
  pub fixed : (i : ℕ) → i < plan.base → g.own i ≡ Fixed
  pub free : (i : ℕ) → top ≤ i → g.own i ≡ Free
  pub held : g.held ≡ length world.store
  pub made : g.made ≡ length world.groups
  pub cell : (n : ℕ) (v : Value) → slice_get world.store n ≡ Some v → CellAt g memory n v
  pub group : (k : ℕ) (made : MadeGroup) → slice_get world.groups k ≡ Some made → GroupAt plan g memory (g.groups k) made
