use Rattle.std.proofs.Common.{arith}
use Rattle.candid_encode.proofs.Heads.{tag_is}
use Rattle.candid_encode.proofs.part.put_tag.Goals as goal

pub returns-in_ok-put_count-in-Tag : goal.returns-in_ok-put_count-in-Tag
returns-in_ok-put_count-in-Tag c head = tag_is head c.args.tags.now c.args.part.now c.in-Tag.tag c.args.out.now c.put_count.new.out c.in-Tag.is (omega arith) c.in_ok-put_count-in-Tag.ensures
