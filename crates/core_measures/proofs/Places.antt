-- Places, each counted once.
use Rattle.std.proofs.Common.{◌≤◌, ℕ, suc, List, [], ◌∷◌, length, Bool, true, false, cond, arith}
use Rattle.core_ir.specs.Outward.{distinct, holds}

pub no_more : (ns : List ℕ) → length (distinct ns) ≤ length ns
no_more [] = omega arith
no_more (x ∷ ns) = by (holds x ns) (no_more ns)
  where
    by : (b : Bool) → length (distinct ns) ≤ length ns → length (cond b (distinct ns) (x ∷ distinct ns)) ≤ suc (length ns)
    by true h = omega (arith, h)
    by false h = omega (arith, h)
