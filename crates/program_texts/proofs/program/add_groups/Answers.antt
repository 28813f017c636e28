use Rattle.std.proofs.Common.{◌≡◌, ◌∙◌, ◌∷◌, ◌+◌, ℕ, List, length, map, drop, ap, sym}
use Rattle.std.proofs.lemmas.List.{drop_all, drop_more}
use Rattle.core_ir.specs.declared.code.CodeBody.{CodeBody}
use Rattle.core_ir.specs.declared.program.Group.{Group}
use Rattle.core_ir.specs.CodeView.{code_body}
use Rattle.core_ir.specs.ProgramView.{group}
use Rattle.low_emit.specs.Texts.{bodies_texts, groups_texts}
use Rattle.program_texts.proofs.program.add_groups.Goals as goal

pub loop-group-preserved : goal.loop-group-preserved
loop-group-preserved c =
    let xs = c.args.groups.now in
    let n = c.loop-group.group-index in
    let rest = map (group code_body) (drop (n + 1) xs) in
    let g = c.group-item.result in
    ap (groups_texts rest) (c.in_ok-add_bodies.ensures (length g.bodies) g.sees ∙ ap (λ bs. bodies_texts (map (code_body (length g.bodies) g.sees) bs) c.loop-group.table) c.as_slice.ensures)
    ∙ ap (λ (q : Group CodeBody). groups_texts (group code_body q ∷ rest) c.loop-group.table) c.group-item.is
    ∙ sym (ap (λ ys. groups_texts (map (group code_body) ys) c.loop-group.table) (drop_more xs n _ c.loop-group-test.true))
    ∙ c.loop-group.invariant
