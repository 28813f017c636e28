use Rattle.std.proofs.Common.{sym, ap, ◌∙◌}
use Rattle.mo_coverage.specs.Columns.{Took, take_tuple}
use Rattle.mo_coverage.specs.Shapes.{all_known, known}
use Rattle.mo_coverage.proofs.Lists.{list_back}
use Rattle.mo_coverage.proofs.ShapeViews.{parts_view}
use Rattle.mo_coverage.proofs.columns.take_tuple.Goals as goal

pub returns-in-Parts : goal.returns-in-Parts
returns-in-Parts c = ap Took (sym (list_back (all_known c.in-Parts.parts.items))) ∙ sym (ap (take_tuple c.args.count) (ap known c.in-Parts.is ∙ parts_view c.in-Parts.parts))
