-- A function value that writes parts of at most so many levels.
use Rattle.std.specs.Prelude.{◌≡◌, ℕ, ◌++◌, Result, OnOk}
use Rattle.std.specs.declared.alloc.Global.{Global}
use denote.Ref.{MutBor}
use Rattle.mo_num.specs.declared.memory.Memory.{Memory}
use Rattle.mo_syntax.specs.Writing.{Writing}
use Rattle.mo_tokens.specs.declared.part.Part.{Part}
use Rattle.mo_tokens.specs.PartWriting.{part_tokens}

pub record Writes (depth : ℕ) (pre : Global → ℕ → Part → MutBor Writing → Type 0)
    (post : Global → ℕ → Part → MutBor Writing → Result (Unit {0}) Memory → MutBor Writing → Type 0) : Type 0 where
  pub callable : (alloc : Global) (x : Part) (old : MutBor Writing) → pre alloc depth x old
  pub writes : (alloc : Global) (x : Part) (old new : MutBor Writing) (r : Result (Unit {0}) Memory) → post alloc depth x old r new
      → OnOk r (new.now ≡ old.now ++ part_tokens x)
