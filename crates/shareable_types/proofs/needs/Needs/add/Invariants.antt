use Rattle.std.proofs.Common.{◌≡◌, ◌&&◌, ℕ, Bool, take}
use Rattle.shareable_types.specs.Sharing.{all, allowed}
use Rattle.shareable_types.proofs.needs.Needs.add.Given as goal

abbrev pub invariant-loop-number : goal.invariant-loop-number
invariant-loop-number l = (x : ℕ → Bool) → allowed x l.self ≡ (allowed x l.fn.self && all x (take l.number-index l.number-items))
