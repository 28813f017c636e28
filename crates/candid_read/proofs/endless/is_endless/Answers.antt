use Rattle.std.proofs.Common.{sym, ◌∙◌}
use Rattle.candid_read.proofs.Endings.{begins, goes_on, says_yes, says_no}
use Rattle.candid_read.proofs.endless.is_endless.Goals as goal

pub loop-next-init : goal.loop-next-init
loop-next-init c = begins c.args.shapes.now c.args.of c.new-seen.result.keys c.add_fields.new.seen.keys c.new-seen.ensures.empty c.in_ok-add_fields.ensures

pub returns-in-None-clause-yes : goal.returns-in-None-clause-yes
returns-in-None-clause-yes c e = says_yes c.args.shapes.now c.args.of c.loop-next.seen.keys c.loop-next.next c.loop-next.invariant (sym c.is_there.ensures ∙ e)

pub returns-in-None-clause-no : goal.returns-in-None-clause-no
returns-in-None-clause-no c e = says_no c.args.shapes.now c.args.of c.loop-next.seen.keys c.loop-next.next c.type_at.result c.loop-next.invariant c.type_at.ensures c.in-None.is (sym c.is_there.ensures ∙ e)

pub loop-next-preserved : goal.loop-next-preserved
loop-next-preserved c =
    goes_on c.args.shapes.now c.args.of c.loop-next.seen.keys c.add_fields-in-Some.new.seen.keys c.loop-next.next c.in-Some.inner c.type_at.result c.loop-next.invariant c.type_at.ensures c.in-Some.is c.in_ok-add_fields-in-Some.ensures
