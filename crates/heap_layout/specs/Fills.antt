-- A block that is made at the end of the heap: the memory grows by the pages that are wanting, and the words are stored one by one.
use Rattle.std.specs.Prelude.{◌≡◌, ℕ, zero, suc, ◌+◌, ◌*◌, ◌<◌, List, [], ◌∷◌, ◌++◌, length, get_or}
use Rattle.module_laws.specs.Stored.{written}
use Rattle.memory_routines.specs.Heaps.{enlarged}
use Rattle.heap_layout.specs.Blocks.{Constant}
use Rattle.heap_layout.specs.Heaps.{Plan}

-- With these words from word i on.
abbrev pub filled : List ℕ → ℕ → List ℕ → List ℕ
filled memory i [] = memory
filled memory i (w ∷ ws) = filled (written memory (8 * i) 8 w) (suc i) ws

-- With a block of these words at the end of a heap of so many pages.
abbrev pub with_words : List ℕ → (count top : ℕ) → List ℕ → List ℕ
with_words memory count top ws = filled (enlarged memory count (8 * top + 8 * length ws)) top ws

-- The words of functions of a group, from the k-th one on, so many, whose block begins at word b.
abbrev pub entry_words : Plan → (code b k count : ℕ) → List ℕ
entry_words plan code b k zero = []
entry_words plan code b k (suc count) = plan.entry_of code k ∷ 8 * b ∷ entry_words plan code b (suc k) count

-- Of a group that sees these words.
abbrev pub group_block : Plan → (code b : ℕ) → List ℕ → List ℕ
group_block plan code b seen = entry_words plan code b 0 (plan.sizes code) ++ seen

-- A block has the numbers that a head tells at their places,
abbrev pub ConstantsIn : List ℕ → List Constant → Type 0
ConstantsIn block [] = Unit {0}
ConstantsIn block (c ∷ cs) = (c.place < length block) × (get_or block c.place 0 ≡ c.number) × ConstantsIn block cs

-- and the words of parts at theirs.
abbrev pub PartsIn : List ℕ → (places words : List ℕ) → Type 0
PartsIn block places [] = Unit {0}
PartsIn block [] (w ∷ ws) = ⊥
PartsIn block (o ∷ os) (w ∷ ws) = (o < length block) × (get_or block o 0 ≡ w) × PartsIn block os ws
