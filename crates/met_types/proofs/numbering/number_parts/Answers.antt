use Rattle.std.proofs.lemmas.List.{take_more}
use Rattle.met_types.proofs.Failing.{same_err}
use Rattle.met_types.proofs.Extending.{parts_err, parts_next}
use Rattle.met_types.proofs.numbering.number_parts.Goals as goal

pub returns-in_err-number_of-clause-full : goal.returns-in_err-number_of-clause-full
returns-in_err-number_of-clause-full c =
    same_err c.from_residual-in_err-number_of.result c.in_err-number_of.field-0.0 _ c.from_residual-in_err-number_of.ensures
    (parts_err c.in_err-number_of.field-0.0 c.args.parts.now c.loop-part.part-index _ c.args.reached.now c.loop-part.reached c.number_of.new.reached c.args.graph.now c.loop-part.graph c.number_of.new.graph
    (take_more c.args.parts.now c.loop-part.part-index _ c.loop-part-test.true) c.loop-part.invariant.extends c.in_err-number_of.ensures.full)

pub loop-part-preserved : goal.loop-part-preserved
loop-part-preserved c =
    let h = parts_next c.args.parts.now c.loop-part.part-index _ c.args.reached.now c.loop-part.reached c.number_of.new.reached c.args.graph.now c.loop-part.graph c.number_of.new.graph c.loop-part.made.items c.push.new.self.items
    c.in_ok-number_of.field-0 (take_more c.args.parts.now c.loop-part.part-index _ c.loop-part-test.true) c.in_ok-push.ensures.items c.loop-part.invariant.numbers c.loop-part.invariant.extends
    c.in_ok-number_of.ensures.there c.in_ok-number_of.ensures.ok in
    record { numbers = h.0; extends = h.1 }
