use Rattle.std.proofs.Common.{◌≡◌, ℕ, ◌<◌, Bool, true, Some, slice_get}
use Rattle.shareable_types.specs.declared.needs.Needs.{Needs}
use Rattle.shareable_types.specs.Sharing.{allowed}
use Rattle.shareable_types.proofs.rounds.all_cover.Given as goal

abbrev pub invariant-loop-i : goal.invariant-loop-i
invariant-loop-i l = (j : ℕ) (n m : Needs) → j < l.i → slice_get l.needed j ≡ Some n → slice_get l.made j ≡ Some m → (x : ℕ → Bool) → allowed x n ≡ true → allowed x m ≡ true
