use Rattle.std.proofs.Common.{◌≡◌, ◌≤◌, length, Some}
use Rattle.std.specs.Prelude.{slice_get}
use Rattle.mo_types.specs.Graph.{head_at}
use Rattle.mo_subtype.specs.Certificate.{Led}
use Rattle.mo_subtype.specs.Questions.{pair}
use Rattle.mo_subtype.proofs.Rounds.{Round}
use Rattle.mo_subtype.proofs.search.subtype.Given as goal

abbrev pub invariant-loop-depth : goal.invariant-loop-depth
invariant-loop-depth l = record {
  round : Round (head_at l.types) l.depth l.fn.low l.fn.high l.pairs.keys;
  first : slice_get l.pairs.keys 0 ≡ Some (pair l.fn.low l.fn.high);
  led : Led (head_at l.types) l.pairs.keys l.start;
  within : l.start ≤ length l.pairs.keys;
}
