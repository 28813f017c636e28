use Rattle.std.proofs.Common.{◌≡◌, false, take}
use Rattle.std.specs.List.{list_any}
use Rattle.arena_outcomes.specs.Books.{is_owned}
use Rattle.arena_outcomes.proofs.closing.owns_open.Given as goal

abbrev pub invariant-loop-call : goal.invariant-loop-call
invariant-loop-call l = list_any (λ m. is_owned l.owner m) (take l.call-index l.made) ≡ false
