use Rattle.std.proofs.Common.{sym, ◌∙◌}
use Rattle.candid_equal.proofs.Closed.{begins, says_yes, ends_no, one_more}
use Rattle.candid_equal.proofs.search.are_equal.Goals as goal

pub loop-next-init : goal.loop-next-init
loop-next-init c = begins c.args.table.now c.args.shapes.now c.new-seen.result.keys c.args.pairs.now c.add_all.new.pairs.keys c.new-seen.ensures.empty c.in_ok-add_all.ensures

pub returns-in-None-clause-yes : goal.returns-in-None-clause-yes
returns-in-None-clause-yes c u = says_yes c.args.table.now c.args.shapes.now c.args.pairs.now c.loop-next.seen.keys c.loop-next.next c.loop-next.invariant (sym c.pair_at.ensures ∙ c.in-None.is)

pub returns-then-not-branch-clause-no : goal.returns-then-not-branch-clause-no
returns-then-not-branch-clause-no c u all =
    ends_no c.args.table.now c.args.shapes.now c.args.pairs.now c.loop-next.seen.keys c.loop-next.next c.loop-next.invariant c.in-Some.pair c.pair_at.result c.pair_at.ensures c.in-Some.is
    c.in_ok-ask_pair-in-Some.field-0 c.new-more.result.items c.ask_pair.new.out.items c.in_ok-ask_pair-in-Some.ensures c.if-not-branch.true all

pub loop-next-preserved : goal.loop-next-preserved
loop-next-preserved c =
    one_more c.args.table.now c.args.shapes.now c.args.pairs.now c.loop-next.seen.keys c.loop-next.next c.loop-next.invariant c.in-Some.pair c.pair_at.result c.pair_at.ensures c.in-Some.is
    c.in_ok-ask_pair-in-Some.field-0 c.new-more.result.items c.ask_pair.new.out.items c.in_ok-ask_pair-in-Some.ensures c.add_all-in-Some.new.pairs.keys c.as_slice.result.now c.if-not-branch.false c.new-more.ensures.items c.as_slice.ensures.value c.in_ok-add_all-in-Some.ensures
