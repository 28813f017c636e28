use Rattle.std.proofs.Common.{take}
use Rattle.met_types.specs.Closing.{AreNumbers, Extends}
use Rattle.met_types.proofs.numbering.number_parts.Given as goal

abbrev pub invariant-loop-part : goal.invariant-loop-part
invariant-loop-part l = record {
  numbers : AreNumbers l.reached (take l.part-index l.parts) l.made.items;
  extends : Extends (take l.part-index l.parts) l.initial.reached l.reached l.initial.graph l.graph;
}
