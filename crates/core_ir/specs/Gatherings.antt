-- An array whose elements are computed by calls of a function: Motoko base library, `Array.tabulate`.
use Rattle.std.specs.Prelude.{ℕ, List}
use Rattle.core_ir.specs.Values.{Value}

pub record Gathering : Type 0 where
  pub function : Value
  -- the index of the next call
  pub next : ℕ
  -- the calls that are left behind the one that is under way
  pub remaining : ℕ
  -- the elements so far
  pub done : List Value
