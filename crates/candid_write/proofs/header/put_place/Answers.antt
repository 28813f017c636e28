use Rattle.std.proofs.Common.{arith}
use Rattle.std.proofs.lemmas.Int.{ints}
use Rattle.candid_write.proofs.Adds.{place_is, ok_then}
use Rattle.candid_write.proofs.header.put_place.Goals as goal

pub returns : goal.returns
returns c = ok_then c.sleb_write.result c.sleb_write.ensures.ok (λ e. place_is c.args.place _ _ _ (omega arith) e (omega (arith, ints)))
