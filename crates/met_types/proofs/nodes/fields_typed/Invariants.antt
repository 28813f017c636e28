use Rattle.std.proofs.Common.{◌≡◌, ◌++◌, drop}
use Rattle.met_types.specs.Nodes.{fields_typed}
use Rattle.met_types.proofs.nodes.fields_typed.Given as goal

abbrev pub invariant-loop-i : goal.invariant-loop-i
invariant-loop-i l = l.made.items ++ fields_typed (drop l.i l.fields) (drop l.i l.ids) ≡ fields_typed l.fields l.ids
