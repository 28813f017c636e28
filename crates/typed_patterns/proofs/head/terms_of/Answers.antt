use Rattle.std.proofs.lemmas.List.{take_more}
use Rattle.std.proofs.Common.{◌+◌, List, subst, take}
use Rattle.mo_types.specs.declared.node.TypeId.{TypeId}
use Rattle.definition_rules.proofs.Adding.{take_all}
use Rattle.typed_patterns.specs.Heads.{AreIn}
use Rattle.typed_patterns.proofs.Parts.{next_in}
use Rattle.typed_patterns.proofs.head.terms_of.Goals as goal

pub loop-id-preserved : goal.loop-id-preserved
loop-id-preserved c =
    next_in c.args.types.now (take c.loop-id.id-index c.args.ids.now) (take (c.loop-id.id-index + 1) c.args.ids.now) c.loop-id.made.items c.push.new.self.items _ c.in_ok-term_of.field-0
    (take_more c.args.ids.now c.loop-id.id-index _ c.loop-id-test.true) c.in_ok-push.ensures.items c.loop-id.invariant c.in_ok-term_of.ensures

pub returns : goal.returns
returns c = subst (λ (ts : List TypeId). AreIn c.args.types.now ts c.loop-id.made.items) (take_all c.args.ids.now c.loop-id.id-index c.loop-id-test.false) c.loop-id.invariant
