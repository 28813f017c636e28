use Rattle.std.proofs.Common.{◌≡◌, ℕ, ◌<◌, Some, true}
use Rattle.std.specs.Prelude.{slice_get}
use Rattle.mo_types.specs.declared.node.Field.{Field}
use Rattle.mo_types.specs.declared.node.TypeId.{TypeId}
use Rattle.pattern_coverage.specs.Inhabited.{in_table}
use Rattle.mo_coverage.proofs.marks.are_marked.Given as goal

abbrev pub invariant-loop-place : goal.invariant-loop-place
invariant-loop-place l = (i : ℕ) (f : Field TypeId) → i < l.place → slice_get l.tags i ≡ Some f → in_table l.table f.part ≡ true → slice_get l.marks i ≡ Some true
