use Rattle.std.proofs.Common.{◌++◌, ap, ◌∙◌, codes}
use Rattle.source_explanation.specs.Misses.{IsMissedText}
use Rattle.source_explanation.specs.Shown.{IsShown}
use Rattle.source_explanation.proofs.Missed.{is_missed_text, ok_then}
use Rattle.source_explanation.proofs.accepted.missed_text.Goals as goal

pub returns : goal.returns
returns c =
    ok_then c.shown.result (IsShown c.args.source.now c.token_start-place.result (codes "The switch misses values.") c.as_slice-2.result.now) (IsMissedText c.args.source.now c.args.tokens.now c.args.types.now c.args.table.now c.args.one.now) c.shown.ensures
    (λ text said. is_missed_text c.args.source.now c.args.tokens.now c.args.types.now c.args.table.now c.args.one.now c.in_ok-case.case c.as_slice-2.result.now c.token_start-place.result text c.in_ok-case.ensures c.token_start-place.ensures
    (c.as_slice-2.ensures ∙ (c.in_ok-extend.ensures.ok ∙ (ap (λ l. l ++ c.as_slice.result.now) c.in_ok-lacks.ensures ∙ ap (λ l. codes "A case that it lacks:" ++ l) c.as_slice.ensures))) said)
