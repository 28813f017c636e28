-- A heap that only grows: global 0 is its end.
use Rattle.std.specs.Prelude.{◌≡◌, ◌<◌, ◌≤◌, ℕ, ◌+◌, ◌*◌, ◌-◌, ◌/◌, List, ◌∷◌, ◌++◌, length, replicate, get_or}
use Rattle.wasm_tree.specs.Exec.{Store}

-- Pages for so many bytes.
abbrev pub pages_for : ℕ → ℕ
pages_for bytes = (bytes + 65535) / 65536

-- The store whose heap ends there.
abbrev pub heap : {World : Type 0} → Store World → List ℕ → ℕ → List ℕ → Store World
heap s memory top others = record { memory = memory; globals = top ∷ others; table = s.table; refused = s.refused; world = s.world }

-- The memory with exactly as many pages as bytes up to there take, if it has fewer.
abbrev pub enlarged : List ℕ → ℕ → ℕ → List ℕ
enlarged memory count bytes = memory ++ replicate (65536 * (pages_for bytes - count)) 0

-- The last place at which a heap may end: an address for all bytes up to there, and for a page's less one more, is a word.
abbrev pub heap_end : ℕ
heap_end = 4294901760

-- The memory has so many whole pages, all but one of the most that a memory may have, and the heap's end lies in it.
pub record IsHeap (memory : List ℕ) (count top : ℕ) : Type 0 where
  pub whole : length memory ≡ 65536 * count
  pub few : count ≤ 65535
  pub inside : top ≤ length memory

abbrev pub HoldsBytes : List ℕ → Type 0
HoldsBytes memory = (k : ℕ) → get_or memory k 0 < 256
