use Rattle.std.proofs.Common.{◌≡◌, drop}
use Rattle.public_fields.proofs.Listing.{all_of}
use Rattle.public_fields.proofs.fields.public_fields.Given as goal

abbrev pub invariant-loop-one : goal.invariant-loop-one
invariant-loop-one l = all_of l.list ≡ all_of (drop l.one-index l.list)
