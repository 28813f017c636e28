use Rattle.std.proofs.Common.{◌≡◌, drop, fold}
use Rattle.type_terms.specs.Layouts.{mix_part}
use Rattle.type_terms.proofs.layout.mix_parts.Given as goal

abbrev pub invariant-loop-part : goal.invariant-loop-part
invariant-loop-part l = fold mix_part l.mixed (drop l.part-index l.parts) ≡ fold mix_part l.fn.digest l.parts
