use Rattle.std.proofs.Common.{◌≡◌, take}
use Rattle.std.specs.List.{AllByRecursion}
use Rattle.wasm_tree.specs.Rules.{every}
use Rattle.wasm_tree.specs.Valid.{IsValidFunction}
use Rattle.wasm_valid.proofs.validation.check_functions.Given as goal

abbrev pub invariant-loop-place : goal.invariant-loop-place
invariant-loop-place l = record {
  same : l.functions ≡ l.tree.functions;
  valid : AllByRecursion (IsValidFunction every l.tree) (take l.place l.tree.functions);
}
