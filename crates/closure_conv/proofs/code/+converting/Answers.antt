use Rattle.std.proofs.Common.{◌≡◌, ◌∙◌, ◌+◌, ap, sym, drop}
use Rattle.std.proofs.lemmas.List.{drop_all}
use Rattle.core_ir.specs.declared.code.Instruction.{Instruction}
use Rattle.core_ir.specs.Code.{Code}
use Rattle.core_ir.specs.CodeView.{Names, exit_code, instruction}
use Rattle.core_ir.specs.ScopeNames.{scope_names}
use Rattle.core_laws.specs.Conversion.{convert}
use Rattle.core_ir.proofs.CodeViews.{begun, begun_push, begun_more, code_is}
use Rattle.closure_conv.proofs.code.+converting.Goals as goal

pub convert_code-loop-instruction-preserved : goal.convert_code-loop-instruction-preserved
convert_code-loop-instruction-preserved t c names =
    let outer : Names = scope_names c.args.scopes.now c.args.outermost.now in
    let needs = c.args.needs.now in
    let used = c.args.used.now in
    let last : Code = exit_code c.args.code.now.exit in
    let is = c.as_slice-instruction-items.result.now in
    let n = c.loop-instruction.instruction-index in
    let rest : Code = begun (drop (n + 1) is) outer last in
    let made : Instruction = c.in_ok-convert_instruction.field-0 in
    let a : begun c.push.new.self names (convert needs used rest) ≡ begun c.loop-instruction.instructions names (instruction made names (convert needs used rest)) =
    ap (λ is. begun is names (convert needs used rest)) c.in_ok-push.ensures.ok ∙ begun_push c.loop-instruction.instructions made names (convert needs used rest) in
    let b = c.in_ok-convert_instruction.ensures names rest in
    let e = begun_more is n _ outer last c.loop-instruction-test.true in
    a ∙ ap (begun c.loop-instruction.instructions names) (b ∙ ap (convert needs used) (ap (λ (i : Instruction). instruction i outer rest) c.instruction-item.is ∙ sym e)) ∙ c.loop-instruction.invariant names

pub convert_code-returns : goal.convert_code-returns
convert_code-returns t c names =
    let outer : Names = scope_names c.args.scopes.now c.args.outermost.now in
    let needs = c.args.needs.now in
    let used = c.args.used.now in
    let last : Code = exit_code c.args.code.now.exit in
    let is = c.loop-instruction.instructions in
    let d = drop_all c.loop-instruction.instruction-index c.as_slice-instruction-items.result.now c.loop-instruction-test.false in
    code_is _ names
    ∙ ap (begun is names) (c.in_ok-convert_exit.ensures needs ∙ sym (ap (λ is. convert needs used (begun is outer last)) d))
    ∙ c.loop-instruction.invariant names
    ∙ ap (λ is. convert needs used (begun is outer last)) c.as_slice-instruction-items.ensures
    ∙ ap (convert needs used) (sym (code_is c.args.code.now outer))
