use Rattle.std.proofs.Common.{List, ◌++◌, ◌∷◌, [], refl, ap, ◌∙◌}
use Rattle.mo_types.specs.declared.datum.Datum.TheVariants as part
use Rattle.kept_parts.proofs.UnformSteps.{gathered_so}
use Rattle.kept_parts.proofs.unforming.put_gathered.Goals as goal

pub returns : goal.returns
returns c =
    let s = c.args.state.now in
    gathered_so s (record s { found = c.push.new.self }) c.requires
    (c.in_ok-push.ensures.items ∙ ap (λ (l : List _). s.found.items ++ part.Blob l ∷ []) (c.in_ok-blob.ensures ∙ c.as_slice.ensures.value)) refl
