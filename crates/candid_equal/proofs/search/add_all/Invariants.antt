use Rattle.std.proofs.Common.{◌≡◌, drop}
use Rattle.indexmap.specs.IndexSet.{insert_all}
use Rattle.candid_equal.specs.Pairs.{same_pair}
use Rattle.candid_equal.proofs.search.add_all.Given as goal

abbrev pub invariant-loop-pair : goal.invariant-loop-pair
invariant-loop-pair l = insert_all same_pair l.fn.pairs.keys l.more ≡ insert_all same_pair l.pairs.keys (drop l.pair-index l.more)
