use Rattle.std.proofs.Common.{◌∙◌, ap, map}
use Rattle.core_ir.specs.CodeView.{code_body}
use Rattle.core_laws.specs.Conversion.{convert_groups, convert_method, convert_body}
use Rattle.closure_conv.specs.Parts.{group_view, method_view}
use Rattle.closure_conv.proofs.Programs.{program_is}
use Rattle.closure_conv.proofs.program.convert_by.Goals as goal

pub returns : goal.returns
returns c =
    let p = c.args.program.now in
    let needs = c.args.needs.now in
    program_is p _ needs c.in_ok-share.ensures
    (c.in_ok-convert_groups.ensures ∙ ap (λ gs. convert_groups needs needs (map group_view gs)) c.as_slice.ensures)
    (c.in_ok-convert_methods.ensures ∙ ap (λ ms. map (convert_method needs) (map method_view ms)) c.as_slice-2.ensures)
    c.in_ok-share-2.ensures
    (c.in_ok-convert_body.ensures 0 0 ∙ ap (λ used. convert_body needs used (code_body 0 0 p.save)) c.new-none.ensures)
    (c.in_ok-convert_body-2.ensures 0 0 ∙ ap (λ used. convert_body needs used (code_body 0 0 p.start)) c.new-none.ensures)
