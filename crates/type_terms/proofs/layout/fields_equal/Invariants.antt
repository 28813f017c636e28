use Rattle.std.proofs.Common.{◌≡◌, drop}
use Rattle.type_terms.specs.Layouts.{same_fields}
use Rattle.type_terms.proofs.layout.fields_equal.Given as goal

abbrev pub invariant-loop-i : goal.invariant-loop-i
invariant-loop-i l = same_fields (drop l.i l.a) (drop l.i l.b) ≡ same_fields l.a l.b
