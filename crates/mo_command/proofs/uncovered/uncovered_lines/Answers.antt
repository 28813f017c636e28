use Rattle.std.proofs.Common.{subst}
use Rattle.mo_command.specs.Uncovered.{AreLines, AreShown}
use Rattle.mo_command.proofs.Shown.{are_shown, ok_then}
use Rattle.mo_command.proofs.uncovered.uncovered_lines.Goals as goal

pub returns-in-Ok : goal.returns-in-Ok
returns-in-Ok c =
    ok_then c.lines_of.result (λ made. AreLines c.args.source.now c.as_slice.result.now c.as_slice-in-Ok.result.now made.items) (λ made. AreShown c.args.source.now made.items) c.lines_of.ensures
    (λ made h. are_shown c.args.source.now c.args.made.now c.in-Ok.tokens c.in_ok-found.found.items made.items c.requires.accepted c.requires.typed c.in-Ok.ensures.found.0 c.in-Ok.ensures.found.1 c.in_ok-found.ensures
    (subst (λ us. AreLines c.args.source.now c.in-Ok.tokens us made.items) c.as_slice-in-Ok.ensures.value (subst (λ ts. AreLines c.args.source.now ts c.as_slice-in-Ok.result.now made.items) c.as_slice.ensures h)))
