use Rattle.std.proofs.Common.{◌≡◌, ℕ, ◌+◌, arith}
use Rattle.abstract_pattern_walk.proofs.pattern_making.abstract_public_signature.Goals as goal

plus_zero : (n : ℕ) → n + 0 ≡ n
plus_zero n = omega arith

pub returns : goal.returns
returns c = record {
  part = simp (c.new.ensures, c.in_ok-parameters.ensures.parts, c.in_ok-made.ensures.part, c.get.ensures, c.in_ok-parameters.ensures.next, plus_zero);
  next = omega (arith, c.in_ok-parameters.ensures.next, (rw c.get.ensures at c.in_ok-made.ensures.next), c.in_ok-number_behind.ensures, c.count_if.ensures.count);
}
