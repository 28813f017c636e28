use Rattle.std.proofs.Common.{◌∷◌, [], ap, ◌∙◌}
use Rattle.mo_types.specs.Graph.{head_at}
use Rattle.kept_forms.specs.Parts.{unformed, waiting, Next}
use Rattle.kept_parts.proofs.UnformSteps.{unform_on, unform_whole}
use Rattle.kept_parts.proofs.unforming.unform_parts.Goals as goal

pub loop-part-init : goal.loop-part-init
loop-part-init c = c.in_ok-state.ensures (head_at c.args.types.now) c.args.parts.now

pub loop-part-preserved : goal.loop-part-preserved
loop-part-preserved c =
    unform_on (head_at c.args.types.now) c.args.parts.now (unformed (head_at c.args.types.now) Next (waiting (c.args.of_type ∷ [])) c.args.parts.now) c.loop-part.part-index c.loop-part.state c.loop-part.invariant c.part-item.result
    c.unform_next.new.state c.loop-part-test.true c.part-item.is c.in_ok-unform_next.ensures

pub returns : goal.returns
returns c =
    ap (λ v. v.items) c.found_in.ensures
    ∙ unform_whole (head_at c.args.types.now) c.args.parts.now (unformed (head_at c.args.types.now) Next (waiting (c.args.of_type ∷ [])) c.args.parts.now) c.loop-part.part-index c.loop-part.state c.loop-part.invariant
    c.loop-part-test.false
