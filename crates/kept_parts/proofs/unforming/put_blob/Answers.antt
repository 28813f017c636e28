use Rattle.std.proofs.Common.{List, ◌++◌, ◌∷◌, [], refl, ap, ◌∙◌}
use Rattle.mo_types.specs.declared.datum.Datum.TheVariants as part
use Rattle.kept_parts.proofs.UnformSteps.{blob_opened, empty_opened}
use Rattle.kept_parts.proofs.unforming.put_blob.Goals as goal

pub returns-then-count-eq0 : goal.returns-then-count-eq0
returns-then-count-eq0 c =
    let s = c.args.state.now in
    empty_opened s (record s { found = c.push.new.self }) c.args.node.now c.args.under c.args.part.now c.args.count c.requires.blob c.if-count-eq0.true c.requires.none
    (c.in_ok-push.ensures.items ∙ ap (λ (l : List _). c.args.state.now.found.items ++ part.Blob l ∷ []) c.new.ensures) refl

pub returns : goal.returns
returns c =
    let s = c.args.state.now in
    blob_opened s (record s { left = c.args.count; bytes = c.clear.new.self }) c.args.node.now c.args.under c.args.part.now c.args.count c.requires.blob c.if-count-eq0.false refl c.clear.ensures.items refl refl
