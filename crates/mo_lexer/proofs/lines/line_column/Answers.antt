use Rattle.std.proofs.Common.{◌≤◌, ◌-◌, get_or, arith, subst, sym}
use Rattle.std.specs.List.Sorted.{IsStrictlyIncreasing}
use Rattle.mo_lexer.proofs.FrontLemmas.{rises}
use Rattle.mo_lexer.proofs.lines.line_column.Goals as goal

pub overflow_cast-result : goal.overflow_cast-result
overflow_cast-result c =
    let starts = c.as_slice-starts.result.now in
    let up = subst IsStrictlyIncreasing (sym c.as_slice-starts.ensures) c.requires.rises in
    let low : c.loop-line.line - 1 ≤ get_or starts (c.loop-line.line - 1) 0 = rises starts up (c.loop-line.line - 1) (omega arith) in
    omega (arith, c.requires.within)
