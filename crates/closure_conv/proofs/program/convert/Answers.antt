use Rattle.std.proofs.Common.{◌≡◌, ◌∙◌, [], ap, map, sym, subst}
use Rattle.core_ir.specs.Code.{CodeProgram}
use Rattle.core_ir.specs.ProgramView.{flat, split_core}
use Rattle.core_laws.proofs.ConversionLaw.{conversion_carries}
use Rattle.core_laws.proofs.FormedConversion.{conversion_forms, formed_order}
use Rattle.core_laws.specs.Conversion.{convert_program, converted}
use Rattle.core_laws.specs.Uses.{needs_of}
use Rattle.closure_conv.specs.Parts.{group_view}
use Rattle.closure_conv.specs.Runs.{DoesTheSame, KeepsFormed}
use Rattle.closure_conv.proofs.program.convert.Goals as goal

pub returns-clause-same : goal.returns-clause-same
returns-clause-same c =
    let p : CodeProgram = split_core c.args.split.now in
    let is : flat c.in_ok-convert_by.field-0 ≡ convert_program p =
    c.in_ok-convert_by.ensures ∙ ap (λ needs. converted needs p) (c.deref.ensures.value ∙ c.in_ok-needs.ensures ∙ ap (λ gs. needs_of [] (map group_view gs)) c.as_slice.ensures) in
    subst (DoesTheSame p) (sym is) (conversion_carries p)

pub returns-clause-formed : goal.returns-clause-formed
returns-clause-formed c =
    let p : CodeProgram = split_core c.args.split.now in
    let is : flat c.in_ok-convert_by.field-0 ≡ convert_program p =
    c.in_ok-convert_by.ensures ∙ ap (λ needs. converted needs p) (c.deref.ensures.value ∙ c.in_ok-needs.ensures ∙ ap (λ gs. needs_of [] (map group_view gs)) c.as_slice.ensures) in
    subst (KeepsFormed p) (sym is) (λ own h. (conversion_forms own p h, λ n k e e' i. conversion_carries p (formed_order own p h) n k e e' i))
