use Rattle.std.proofs.Common.{◌∙◌, ◌+◌, ap, drop, map, ◌++◌, []}
use Rattle.core_ir.specs.Choices.{nth}
use Rattle.core_laws.specs.Conversion.{convert_group, convert_groups}
use Rattle.closure_conv.specs.Parts.{group_view}
use Rattle.closure_conv.proofs.Programs.{groups_more}
use Rattle.closure_conv.proofs.program.convert_groups.Goals as goal

pub loop-number-preserved : goal.loop-number-preserved
loop-number-preserved c =
    let needs = c.args.needs.now in
    let gs = c.args.groups.now in
    let i = c.loop-number.number in
    let x = c.in_ok-convert_group.field-0 in
    ap (λ made. map group_view made ++ convert_groups needs (drop (i + 1) needs) (map group_view (drop (i + 1) gs))) c.in_ok-push.ensures.ok
    ∙ groups_more needs needs c.loop-number.made gs i _ x c.loop-number-test.true
    (c.in_ok-convert_group.ensures ∙ ap (λ used. convert_group needs used (group_view c.index-groups-number.result)) c.used_at-used.ensures ∙ ap (λ g. convert_group needs (nth [] needs i) (group_view g)) c.index-groups-number.is)
    ∙ c.loop-number.invariant
