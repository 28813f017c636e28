use Rattle.std.proofs.Common.{◌≡◌, length, sym, ap, ◌∙◌, rules}
use Rattle.std.specs.Prelude.{◌==◌}
use Rattle.mo_types.specs.declared.node.Node.TheVariants as node
use Rattle.pattern_coverage.specs.Known as K
use Rattle.mo_coverage.specs.Shapes.{all_known, known, knowns}
use Rattle.shape_patterns.specs.Stands.{at_node}
use Rattle.shape_patterns.specs.Writes.{is_unit}
use Rattle.shape_patterns.proofs.Views.{bare_parts, parts_view}
use Rattle.shape_patterns.proofs.written.is_bare.Goals as goal

pub returns-in-Parts : goal.returns-in-Parts
returns-in-Parts c = λ head has.
    let r : c.is_empty-in-Parts.result ≡ (length c.in-Parts.parts.items == 0) = search rules in
    let n : node.Tuple c.in-Tuple.ids ≡ c.args.node.now = search rules in
    let k : K.Parts (knowns (all_known c.in-Parts.parts.items)) ≡ known c.args.shape.now = sym (parts_view c.in-Parts.parts) ∙ ap known (sym c.in-Parts.is) in
    r ∙ bare_parts head has c.in-Parts.parts.items c.in-Tuple.ids ∙ ap (λ j. is_unit (at_node head has j (node.Tuple c.in-Tuple.ids))) k ∙ ap (λ x. is_unit (at_node head has (known c.args.shape.now) x)) n
