-- What contracts see of an instance.
use Rattle.std.specs.Prelude.{ℕ, Bool}
use Rattle.wasm_tree.specs.Load.{Instance}
use Rattle.wasm_instance.specs.declared.instance.Limits.{Limits}

pub record View : Type 0 where
  pub limits : Limits
  -- memory, globals and table as they stand
  pub standing : Instance
  -- as the last commit kept them, or nothing before the first one
  pub kept : Instance
  -- the steps that are left since the last beginning
  pub left : ℕ
  -- whether memory was refused to grow since then
  pub was_refused : Bool
