-- When an exhaustion is deserved: how much of a limit an execution must have used when it is cut off there.
use Rattle.std.specs.Prelude.{ℕ, ◌+◌, ◌*◌, ◌/◌, ◌≤◌, ⊤, Bool, true, false}
use Rattle.play_script.specs.declared.item.Word.{Word}
use Rattle.play_script.specs.declared.item.Word.TheVariants as word

-- A moment at which an execution was exhausted.
pub record Exhaustion : Type 0 where
  -- the limit that was passed
  pub cause : Word
  -- the weight and the depth of the execution so far
  pub weight : ℕ
  pub depth : ℕ
  -- the weight that was charged to the heap of its actor before
  pub charged : ℕ
  -- the bytes of its program's first memory
  pub first_memory : ℕ

-- The words that name a limit: WebAssembly core 1.0, appendix "Implementation Limitations", section "Execution".
abbrev pub is_limit : Word → Bool
is_limit word.Steps = true
is_limit word.Stack = true
is_limit word.Heap = true
is_limit _ = false

-- What is asked of an exhaustion.
abbrev pub Measure : Type 1
Measure = Exhaustion → Type 0

-- Nothing is asked.
abbrev pub Unmeasured : Measure
Unmeasured e = ⊤

-- Nothing may be exhausted.
abbrev pub Never : Measure
Never e = ⊥

-- The share of each limit that must have been used: 32,768 steps for a unit of weight, 8 stack words for a unit of depth,
-- 256 bytes for a unit of weight.
abbrev pub HasReached : (steps stack pages : ℕ) → Word → Exhaustion → Type 0
HasReached steps stack pages word.Steps e = steps ≤ 32768 * (e.weight + 1)
HasReached steps stack pages word.Stack e = stack ≤ 8 * e.depth + 4096
HasReached steps stack pages word.Heap e = 65536 * pages ≤ e.first_memory + 256 * (e.weight + e.charged + 1)
HasReached steps stack pages _ e = ⊥

-- Under these limits the exhaustion is deserved.
abbrev pub Spent : (steps stack pages : ℕ) → Measure
Spent steps stack pages e = HasReached steps stack pages e.cause e

-- The first memory of a program of so many source bytes and so many nodes and entries of types, in bytes: whole pages.
abbrev pub first_memory : (source types : ℕ) → ℕ
first_memory source types = (65536 + 64 * (source + types) + 65535) / 65536 * 65536
