use Rattle.source_explanation.specs.Misses.{AreMissed, AreMissedTexts}
use Rattle.source_explanation.proofs.Missed.{are_missed, ok_then}
use Rattle.source_explanation.proofs.accepted.missed.Goals as goal

pub returns-in-Ok : goal.returns-in-Ok
returns-in-Ok c =
    ok_then c.missed_texts.result (AreMissedTexts c.args.source.now c.as_slice.result.now c.args.made.now.types c.as_slice-in-Ok.result.now c.as_slice-in-Ok-2.result.now) (AreMissed c.args.source.now c.args.made.now) c.missed_texts.ensures
    (λ text h. are_missed c.args.source.now c.args.made.now c.in-Ok.tokens c.as_slice.result.now c.in_ok-table.table c.as_slice-in-Ok.result.now c.in_ok-found.found.items c.as_slice-in-Ok-2.result.now text c.in-Ok.ensures.found.0 c.in-Ok.ensures.found.1
    c.in_ok-found.ensures c.in_ok-table.ensures c.as_slice.ensures c.as_slice-in-Ok.ensures c.as_slice-in-Ok-2.ensures.value h)
