use Rattle.mo_subtype.proofs.Asks.{fields_more}
use Rattle.mo_subtype.proofs.ask.ask_each_field.Goals as goal

pub loop-field-preserved : goal.loop-field-preserved
loop-field-preserved c = fields_more c.args.low.now c.args.high.now c.loop-field.field-index c.field-item.result c.args.out.now.items c.loop-field.out.items c.ask_found.new.out.items c.in_ok-ask_found.field-0
    c.loop-field-test.true c.field-item.is c.loop-field.invariant c.in_ok-ask_found.ensures c.if-not-branch.false
