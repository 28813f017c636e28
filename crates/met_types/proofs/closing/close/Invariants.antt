use Rattle.std.proofs.Common.{◌≤◌, List, length}
use Rattle.typing_rules.specs.Terms.{Term}
use Rattle.type_definitions.specs.Tables.{Grows}
use Rattle.met_types.specs.Closing.{Covers, Formed, Keeps}
use Rattle.met_types.proofs.closing.close.Given as goal

abbrev pub invariant-loop-turn : goal.invariant-loop-turn
invariant-loop-turn l = record {
  within : l.place ≤ length l.reached;
  grows : Grows l.initial.terms l.terms;
  keeps : Keeps l.initial.reached l.reached;
  formed : Formed l.definitions l.terms l.graph l.reached l.place;
  covers : (met : List Term) → Covers l.definitions met l.initial.terms l.initial.reached → Covers l.definitions met l.terms l.reached;
}
