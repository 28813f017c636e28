use Rattle.std.proofs.Common.{◌≡◌, ◌∙◌, ◌∷◌, ◌+◌, ℕ, List, length, map, drop, ap, sym}
use Rattle.std.proofs.lemmas.List.{drop_all, drop_more}
use Rattle.core_ir.specs.declared.code.Code.{Code}
use Rattle.core_ir.specs.CodeView.{code_of, names_of}
use Rattle.low_emit.specs.Texts.{segments_texts}
use Rattle.program_texts.proofs.program.add_body.Goals as goal

pub loop-segment-preserved : goal.loop-segment-preserved
loop-segment-preserved c = λ functions sees.
    let names = names_of functions sees c.args.body.now in
    let xs = c.as_slice-segment-items.result.now in
    let n = c.loop-segment.segment-index in
    let rest = map (λ q. code_of q names) (drop (n + 1) xs) in
    ap (segments_texts rest) (c.in_ok-add_code.ensures names)
    ∙ ap (λ (q : Code). segments_texts (code_of q names ∷ rest) c.loop-segment.table) c.segment-item.is
    ∙ sym (ap (λ ys. segments_texts (map (λ q. code_of q names) ys) c.loop-segment.table) (drop_more xs n _ c.loop-segment-test.true))
    ∙ c.loop-segment.invariant functions sees

pub returns : goal.returns
returns c = λ functions sees.
    let names = names_of functions sees c.args.body.now in
    sym (ap (λ ys. segments_texts (map (λ q. code_of q names) ys) c.loop-segment.table) (drop_all c.loop-segment.segment-index c.as_slice-segment-items.result.now c.loop-segment-test.false))
    ∙ c.loop-segment.invariant functions sees
    ∙ ap (λ ys. segments_texts (map (λ q. code_of q names) ys) c.args.table.now) c.as_slice-segment-items.ensures
