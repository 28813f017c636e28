use Rattle.std.proofs.Common.{◌≡◌, ◌∙◌, ◌∷◌, ◌+◌, ℕ, List, length, map, drop, ap, sym}
use Rattle.std.proofs.lemmas.List.{drop_all, drop_more}
use Rattle.core_ir.specs.declared.code.CodeBody.{CodeBody}
use Rattle.core_ir.specs.declared.program.Method.{Method}
use Rattle.core_ir.specs.CodeView.{code_body}
use Rattle.core_ir.specs.ProgramView.{method}
use Rattle.low_emit.specs.Texts.{methods_texts}
use Rattle.program_texts.proofs.program.add_methods.Goals as goal

pub loop-method-preserved : goal.loop-method-preserved
loop-method-preserved c =
    let xs = c.args.methods.now in
    let n = c.loop-method.method-index in
    let rest = map (method code_body) (drop (n + 1) xs) in
    ap (methods_texts rest) (c.in_ok-add_body.ensures 0 0)
    ∙ ap (λ (q : Method CodeBody). methods_texts (method code_body q ∷ rest) c.loop-method.table) c.method-item.is
    ∙ sym (ap (λ ys. methods_texts (map (method code_body) ys) c.loop-method.table) (drop_more xs n _ c.loop-method-test.true))
    ∙ c.loop-method.invariant
