use Rattle.std.proofs.Common.{◌≤◌, length, arith, ap, sym, ◌∙◌}
use Rattle.std.specs.Prelude.{slice_set}
use Rattle.mo_coverage.specs.Shapes.{all_known, known}
use Rattle.mo_coverage.proofs.Lists.{known_set, known_get_past}
use Rattle.mo_coverage.proofs.ShapeViews.{unknown_view}
use Rattle.mo_coverage.proofs.columns.take_part.Goals as goal

pub returns-then-place-len-clause-left : goal.returns-then-place-len-clause-left
returns-then-place-len-clause-left c =
    known_set c.args.parts.now.items c.args.place c.replace.new.dest ∙ ap (λ k. slice_set (all_known c.args.parts.now.items) c.args.place k) (ap known c.replace.ensures.after ∙ unknown_view)

pub returns-else-place-len-clause-taken : goal.returns-else-place-len-clause-taken
returns-else-place-len-clause-taken c = let l : length c.args.parts.now.items ≤ c.args.place = omega arith in sym (known_get_past c.args.parts.now.items c.args.place l)
