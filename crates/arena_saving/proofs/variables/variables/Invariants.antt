use Rattle.std.proofs.Common.{◌≡◌, ℕ, map, take, Some, vec_len}
use Rattle.typed_tree.specs.Language.{Functions}
use Rattle.typed_tree.specs.ProgramView.{stable_variable}
use Rattle.arena_states.specs.Standing.{list_of}
use Rattle.arena_saving.specs.Saving.{parts_in}
use Rattle.arena_saving.proofs.variables.variables.Given as goal

abbrev pub invariant-loop-variable : goal.invariant-loop-variable
invariant-loop-variable l = record {
  count : vec_len l.found ≡ l.variable-index;
  means : (groups : ℕ → Functions) → Some (map (λ p. p.items) l.found.items) ≡ parts_in l.types (map stable_variable (take l.variable-index l.stable)) (list_of groups l.arena l.values);
}
