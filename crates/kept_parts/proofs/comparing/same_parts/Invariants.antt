use Rattle.std.proofs.Common.{◌≡◌, drop}
use Rattle.kept_parts.proofs.comparing.same_parts.Given as goal

abbrev pub invariant-loop-place : goal.invariant-loop-place
invariant-loop-place l = drop l.place l.left ≡ drop l.place l.right → l.left ≡ l.right
