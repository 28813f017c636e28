use Rattle.std.proofs.Common.{◌≡◌, ℕ, ◌+◌, arith}
use Rattle.abstract_pattern_walk.proofs.pattern_making.abstract_signature.Goals as goal

plus_zero : (n : ℕ) → n + 0 ≡ n
plus_zero n = omega arith

pub returns : goal.returns
returns c = record {
  part = simp (c.in_ok-generics.ensures.parts, c.in_ok-parameters.ensures.parts, c.in_ok-annotation.ensures.part, c.in_ok-parameters.ensures.next, c.in_ok-generics.ensures.next, plus_zero);
  next = omega (arith, c.in_ok-generics.ensures.next, c.in_ok-parameters.ensures.next, c.in_ok-annotation.ensures.next, c.in_ok-number_behind.ensures, c.count_if.ensures.count);
}
