use Rattle.std.proofs.Common.{◌≡◌, IfOk, [], ◌∷◌, true, length, ap, ◌∙◌, subst, rules}
use Rattle.mo_types.specs.declared.node.Node.TheVariants as node
use Rattle.typed_tree.specs.Patterns.{NoPat}
use Rattle.pattern_coverage.specs.Cutting.{piece, cut_tuple, cut_parts}
use Rattle.pattern_coverage.specs.Followed.{value_head}
use Rattle.pattern_coverage.specs.Inhabited.{in_table}
use Rattle.mo_coverage.specs.Columns.{Took, take_tuple}
use Rattle.mo_coverage.specs.Pieces.{pieces_in}
use Rattle.mo_coverage.specs.Shapes.{all_known, known}
use Rattle.mo_coverage.proofs.ShapeViews.{parts_view}
use Rattle.mo_coverage.proofs.Tuples.{tuple_took}
use Rattle.mo_coverage.proofs.cutting.cut_unit.Goals as goal

pub returns-in-Parts : goal.returns-in-Parts
returns-in-Parts c =
    let h : node.Tuple c.in-Some-Tuple.ids ≡ value_head c.args.types.now c.args.id = search rules in
    let t : Took (all_known c.in-Parts.parts.items) ≡ take_tuple (length c.in-Some-Tuple.ids) (known c.args.shape) = search rules in
    subst (λ z. IfOk c.one.result (λ made. pieces_in made.items ≡ z))
    (ap (λ k. piece true k ∷ []) (parts_view c.in-Parts.parts) ∙ tuple_took (value_head c.args.types.now) (in_table c.args.table.now) NoPat c.in-Some-Tuple.ids (known c.args.shape) (all_known c.in-Parts.parts.items) t
    ∙ ap (λ x. cut_tuple (λ ts ks. cut_parts (value_head c.args.types.now) (in_table c.args.table.now) NoPat ts ks) x (known c.args.shape)) h)
    c.one.ensures
