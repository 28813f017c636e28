use Rattle.std.proofs.lemmas.List.{take_more}
use Rattle.std.proofs.Common.{◌∙◌}
use Rattle.definition_rules.proofs.Adding.{take_all}
use Rattle.written_types.proofs.Making.{next_outer, outer_done}
use Rattle.written_types.proofs.names.with_outer.Goals as goal

pub loop-at-preserved : goal.loop-at-preserved
loop-at-preserved c = next_outer c.args.types.now c.loop-at.types c.parameter.new.types c.args.outer.now c.loop-at.at-index _ c.loop-at.made.items c.push.new.self.items c.in_ok-parameter.field-0
    (take_more c.args.outer.now c.loop-at.at-index _ c.loop-at-test.true) c.in_ok-push.ensures.items c.loop-at.invariant c.in_ok-parameter.ensures

pub returns : goal.returns
returns c = outer_done c.args.types.now c.loop-at.types c.args.outer.now c.loop-at.at-index c.args.arguments.now c.loop-at.made.items c.from_vec.result (take_all c.args.outer.now c.loop-at.at-index c.loop-at-test.false) c.requires.within
    (c.from_vec.ensures ∙ c.in_ok-extend_from_slice.ensures.items) c.loop-at.invariant
