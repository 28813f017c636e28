use Rattle.std.proofs.Common.{◌≡◌, ◌∙◌, ◌+◌, ap, sym, drop, max, arith}
use Rattle.std.proofs.lemmas.List.{drop_all}
use Rattle.core_ir.specs.declared.code.Instruction.{Instruction}
use Rattle.core_ir.specs.Code.{Code}
use Rattle.core_ir.specs.CodeView.{exit_code, instruction}
use Rattle.core_ir.specs.FormedCode.{most_operands}
use Rattle.core_ir.proofs.CodeViews.{begun, begun_more, code_is}
use Rattle.body_lists.proofs.Sizes.{max_more}
use Rattle.body_lists.proofs.width.+measuring.Goals as goal

pub code_width-loop-instruction-preserved : goal.code_width-loop-instruction-preserved
code_width-loop-instruction-preserved t c = λ names.
    let last : Code = exit_code c.args.code.now.exit in
    let is = c.as_slice-instruction-items.result.now in
    let n = c.loop-instruction.instruction-index in
    let most = c.loop-instruction.most in
    let rest : Code = begun (drop (n + 1) is) names last in
    ap (λ m. max m (most_operands rest)) c.larger-most.ensures
    ∙ max_more most c.instruction_width.result (most_operands rest)
    ∙ ap (max most) (c.instruction_width.ensures names rest)
    ∙ ap (λ (i : Instruction). max most (most_operands (instruction i names rest))) c.instruction-item.is
    ∙ sym (ap (λ k. max most (most_operands k)) (begun_more is n _ names last c.loop-instruction-test.true))
    ∙ c.loop-instruction.invariant names

pub code_width-returns : goal.code_width-returns
code_width-returns t c = λ names.
    let last : Code = exit_code c.args.code.now.exit in
    let most = c.loop-instruction.most in
    let d = drop_all c.loop-instruction.instruction-index c.as_slice-instruction-items.result.now c.loop-instruction-test.false in
    c.larger.ensures ∙ ap (max most) c.exit_width.ensures
    ∙ sym (ap (λ is. max most (most_operands (begun is names last))) d)
    ∙ c.loop-instruction.invariant names
    ∙ ap (λ is. most_operands (begun is names last)) c.as_slice-instruction-items.ensures
    ∙ ap most_operands (sym (code_is c.args.code.now names))
