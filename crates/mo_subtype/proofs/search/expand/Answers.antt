use Rattle.mo_subtype.proofs.Turns.{expanded}
use Rattle.mo_subtype.proofs.search.expand.Goals as goal

pub returns : goal.returns
returns c = expanded c.args.types.now c.args.pair c.head-low.result.now c.head-high.result.now c.new-more.result.items c.ask.new.out.items c.as_slice.result.now c.args.pairs.now.keys c.add_all.new.pairs.keys c.in_ok-ask.field-0
    c.head-low.ensures c.head-high.ensures c.in_ok-ask.ensures c.new-more.ensures.items c.if-not-branch.false c.as_slice.ensures.value c.in_ok-add_all.ensures
