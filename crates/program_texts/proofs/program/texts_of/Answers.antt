use Rattle.std.proofs.Common.{◌∙◌, map, ap}
use Rattle.core_ir.specs.CodeView.{code_body}
use Rattle.core_ir.specs.ProgramView.{flat, group, method}
use Rattle.low_emit.specs.Texts.{groups_texts, methods_texts, segments_texts}
use Rattle.program_texts.proofs.program.texts_of.Goals as goal

pub returns : goal.returns
returns c =
    let p = flat c.args.program.now in
    c.in_ok-add_body.ensures 0 0
    ∙ ap (segments_texts p.start.segments)
    (c.in_ok-add_methods.ensures ∙ ap (λ ms. methods_texts (map (method code_body) ms) c.add_groups.new.table) c.as_slice-2.ensures
    ∙ ap (methods_texts p.methods)
    (c.in_ok-add_groups.ensures ∙ ap (λ gs. groups_texts (map (group code_body) gs) c.add_common.new.table) c.as_slice.ensures ∙ ap (groups_texts p.groups) (c.in_ok-add_common.ensures c.new-table.ensures)))
