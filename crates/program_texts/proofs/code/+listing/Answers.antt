use Rattle.std.proofs.Common.{◌∙◌, ◌+◌, ap, sym, drop}
use Rattle.std.proofs.lemmas.List.{drop_all}
use Rattle.core_ir.specs.declared.code.Instruction.{Instruction}
use Rattle.core_ir.specs.Code.{Code}
use Rattle.core_ir.specs.CodeView.{exit_code, instruction}
use Rattle.core_ir.proofs.CodeViews.{begun, begun_more, code_is}
use Rattle.core_ir.specs.CodeView.{code_of}
use Rattle.low_emit.specs.Texts.{code_texts, operand_texts, operands_texts, primitive_texts}
use Rattle.program_texts.proofs.Views.{if_is, match_is}
use Rattle.program_texts.proofs.code.+listing.Goals as goal

pub add_code-loop-instruction-preserved : goal.add_code-loop-instruction-preserved
add_code-loop-instruction-preserved t c = λ names.
    let last : Code = exit_code c.args.code.now.exit in
    let is = c.as_slice-instruction-items.result.now in
    let n = c.loop-instruction.instruction-index in
    let rest : Code = begun (drop (n + 1) is) names last in
    c.in_ok-add_instruction.ensures names rest
    ∙ ap (λ (i : Instruction). code_texts (instruction i names rest) c.loop-instruction.table) c.instruction-item.is
    ∙ sym (ap (λ k. code_texts k c.loop-instruction.table) (begun_more is n _ names last c.loop-instruction-test.true))
    ∙ c.loop-instruction.invariant names

pub add_code-returns : goal.add_code-returns
add_code-returns t c = λ names.
    let last : Code = exit_code c.args.code.now.exit in
    let d = drop_all c.loop-instruction.instruction-index c.as_slice-instruction-items.result.now c.loop-instruction-test.false in
    c.in_ok-add_exit.ensures
    ∙ sym (ap (λ is. code_texts (begun is names last) c.loop-instruction.table) d)
    ∙ c.loop-instruction.invariant names
    ∙ ap (λ is. code_texts (begun is names last) c.args.table.now) c.as_slice-instruction-items.ensures
    ∙ ap (λ k. code_texts k c.args.table.now) (sym (code_is c.args.code.now names))

pub add_instruction-returns-in_ok-add_code-in-If-2 : goal.add_instruction-returns-in_ok-add_code-in-If-2
add_instruction-returns-in_ok-add_code-in-If-2 t c = λ names k.
    let y : Code = code_of c.in-If.yes names in
    let n : Code = code_of c.in-If.no names in
    let first = c.args.table.now in
    ap (code_texts k) (c.in_ok-add_code-in-If-2.ensures names ∙ ap (code_texts n) (c.in_ok-add_code-in-If.ensures names ∙ ap (code_texts y) (c.in_ok-add_operands-in-If.ensures ∙ ap (operands_texts c.as_slice-in-If.result.now) c.in_ok-add_primitive-in-If.ensures)))
    ∙ ap (λ p. code_texts k (code_texts n (code_texts y (operands_texts c.as_slice-in-If.result.now (primitive_texts p first))))) c.get-in-If.ensures
    ∙ ap (λ xs. code_texts k (code_texts n (code_texts y (operands_texts xs (primitive_texts c.in-If.primitive first))))) c.as_slice-in-If.ensures
    ∙ ap (λ i. code_texts i first) (sym (ap (λ i. instruction i names k) c.in-If.is ∙ if_is c.in-If.primitive c.in-If.operands c.in-If.yes c.in-If.no names k))

pub add_instruction-returns-in_ok-add_code-in-Match-2 : goal.add_instruction-returns-in_ok-add_code-in-Match-2
add_instruction-returns-in_ok-add_code-in-Match-2 t c = λ names k.
    let y : Code = code_of c.in-Match.yes names in
    let n : Code = code_of c.in-Match.no names in
    ap (code_texts k) (c.in_ok-add_code-in-Match-2.ensures names ∙ ap (code_texts n) (c.in_ok-add_code-in-Match.ensures names ∙ ap (code_texts y) c.in_ok-add_operand-in-Match.ensures))
    ∙ ap (λ i. code_texts i c.args.table.now) (sym (ap (λ i. instruction i names k) c.in-Match.is ∙ match_is c.in-Match.field-0 c.in-Match.field-1 c.in-Match.operand c.in-Match.yes c.in-Match.no names k))
