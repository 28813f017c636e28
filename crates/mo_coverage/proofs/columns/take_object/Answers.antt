use Rattle.std.proofs.Common.{sym, ap, ◌∙◌}
use Rattle.mo_coverage.specs.Columns.{Took, take_object}
use Rattle.mo_coverage.specs.Shapes.{all_known, known}
use Rattle.mo_coverage.proofs.Lists.{list_back}
use Rattle.mo_coverage.proofs.ShapeViews.{fields_view}
use Rattle.mo_coverage.proofs.columns.take_object.Goals as goal

pub returns-in-Fields : goal.returns-in-Fields
returns-in-Fields c = ap Took (sym (list_back (all_known c.in-Fields.parts.items))) ∙ sym (ap (take_object c.args.count) (ap known c.in-Fields.is ∙ fields_view c.in-Fields.field-0 c.in-Fields.parts))
