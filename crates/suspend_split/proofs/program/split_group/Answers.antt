use Rattle.std.proofs.Common.{◌∙◌, ap, map, length}
use Rattle.std.proofs.lemmas.List.{take_all}
use Rattle.core_ir.specs.View.{core_body}
use Rattle.core_laws.specs.Split.{split_body}
use Rattle.suspend_split.specs.Makes.{size_of}
use Rattle.suspend_split.proofs.Programs.{group_is}
use Rattle.suspend_split.proofs.program.split_group.Goals as goal

pub returns : goal.returns
returns c =
    let sizes = size_of c.args.sizes.now in
    let g = c.args.group.now in
    let s = c.as_slice-sources.ensures in
    group_is sizes g c.loop-body.bodies c.in-Ok.functions (c.in-Ok.ensures.1 ∙ ap length s)
    (c.loop-body.invariant ∙ ap (map (λ b. split_body sizes c.in-Ok.functions g.sees (core_body b))) (take_all c.loop-body.body-index c.as_slice-sources.result.now c.loop-body-test.false ∙ s))
