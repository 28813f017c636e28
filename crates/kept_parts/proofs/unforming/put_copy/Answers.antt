use Rattle.std.proofs.Common.{◌++◌, ◌∷◌, [], refl, ap, ◌∙◌}
use Rattle.mo_types.specs.declared.datum.Datum.{Datum}
use Rattle.kept_parts.proofs.UnformSteps.{bottom_opened}
use Rattle.kept_parts.proofs.unforming.put_copy.Goals as goal

pub returns : goal.returns
returns c =
    let s = c.args.state.now in
    bottom_opened s (record s { found = c.push.new.self }) c.args.under c.args.part.now c.requires (c.in_ok-push.ensures.items ∙ ap (λ (q : Datum). c.args.state.now.found.items ++ q ∷ []) c.in_ok-copy.ensures) refl
