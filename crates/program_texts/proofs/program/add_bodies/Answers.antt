use Rattle.std.proofs.Common.{◌≡◌, ◌∙◌, ◌∷◌, ◌+◌, ℕ, List, length, map, drop, ap, sym}
use Rattle.std.proofs.lemmas.List.{drop_all, drop_more}
use Rattle.core_ir.specs.declared.code.CodeBody.{CodeBody}
use Rattle.core_ir.specs.CodeView.{code_body}
use Rattle.low_emit.specs.Texts.{bodies_texts}
use Rattle.program_texts.proofs.program.add_bodies.Goals as goal

pub loop-body-preserved : goal.loop-body-preserved
loop-body-preserved c = λ functions sees.
    let xs = c.args.bodies.now in
    let n = c.loop-body.body-index in
    let rest = map (code_body functions sees) (drop (n + 1) xs) in
    ap (bodies_texts rest) (c.in_ok-add_body.ensures functions sees)
    ∙ ap (λ (q : CodeBody). bodies_texts (code_body functions sees q ∷ rest) c.loop-body.table) c.body-item.is
    ∙ sym (ap (λ ys. bodies_texts (map (code_body functions sees) ys) c.loop-body.table) (drop_more xs n _ c.loop-body-test.true))
    ∙ c.loop-body.invariant functions sees

pub returns : goal.returns
returns c = λ functions sees.
    sym (ap (λ ys. bodies_texts (map (code_body functions sees) ys) c.loop-body.table) (drop_all c.loop-body.body-index c.args.bodies.now c.loop-body-test.false)) ∙ c.loop-body.invariant functions sees
