use Rattle.std.proofs.Common.{rules, ◌≡◌, ◌<◌, ◌∷◌, ap, ◌∙◌}
use Rattle.candid_read.specs.Parts.{low_at}
use Rattle.candid_read.proofs.Low.{grows, low_err}
use Rattle.candid_read.proofs.number.+read_low.Goals as goal

pub returns-in-Ok-clause-small : goal.returns-in-Ok-clause-small
returns-in-Ok-clause-small t c =
    let some : 0 < c.args.width = search rules in
    let byte : c.in-Some.first.now < 256 = search rules in
    grows c.args.width c.in-Ok.high c.in-Some.first.now some c.in-Ok.ensures.small byte

pub returns-in-Err-clause-told : goal.returns-in-Err-clause-told
returns-in-Err-clause-told t c =
    let some : 0 < c.args.width = search rules in
    let byte : c.in-Some.first.now < 256 = search rules in
    let whole : c.args.bytes.now ≡ c.in-Some.first.now ∷ c.in-Some.rest.now = search rules in
    ap (low_at c.args.width) whole ∙ low_err c.args.width c.in-Some.first.now c.in-Some.rest.now c.in-Err.fault some byte c.in-Err.ensures.told
