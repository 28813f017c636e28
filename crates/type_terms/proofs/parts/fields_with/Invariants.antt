use Rattle.std.proofs.Common.{◌≡◌, ◌++◌, drop}
use Rattle.type_terms.specs.Parted.{fields_with}
use Rattle.type_terms.proofs.parts.fields_with.Given as goal

abbrev pub invariant-loop-i : goal.invariant-loop-i
invariant-loop-i l = l.made.items ++ fields_with (drop l.i l.fields) (drop l.i l.parts) ≡ fields_with l.fields l.parts
