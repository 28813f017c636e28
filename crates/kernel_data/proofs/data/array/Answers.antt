use Rattle.std.proofs.Common.{Bool, true, false, map, sym, ap}
use Rattle.typing_rules.specs.AbstractSyntax as p
use Rattle.abstract_tree.specs.TreeView.{listed}
use Rattle.kernel_nodes.proofs.Rolling.{if_same}
use Rattle.kernel_parts.specs.Views.{expression_in, form_of}
use Rattle.kernel_data.proofs.data.array.Goals as goal

pub returns-then-mutable-clause-made : goal.returns-then-mutable-clause-made
returns-then-mutable-clause-made g c =
    if_same c.mutable_array.result (form_of c.args.layer.now.types.now c.args.frames.now c.args.note (p.Array true (listed (map (expression_in c.args.layer.now.types.now) c.args.items.now)))) (form_of c.args.layer.now.types.now c.args.frames.now c.args.note (p.Array c.args.mutable (listed (map (expression_in c.args.layer.now.types.now) c.args.items.now))))
    (ap (λ (m : Bool). form_of c.args.layer.now.types.now c.args.frames.now c.args.note (p.Array m (listed (map (expression_in c.args.layer.now.types.now) c.args.items.now)))) (sym c.if-mutable.true)) c.mutable_array.ensures.made

pub returns-else-mutable-clause-made : goal.returns-else-mutable-clause-made
returns-else-mutable-clause-made g c =
    if_same c.constant_array.result (form_of c.args.layer.now.types.now c.args.frames.now c.args.note (p.Array false (listed (map (expression_in c.args.layer.now.types.now) c.args.items.now)))) (form_of c.args.layer.now.types.now c.args.frames.now c.args.note (p.Array c.args.mutable (listed (map (expression_in c.args.layer.now.types.now) c.args.items.now))))
    (ap (λ (m : Bool). form_of c.args.layer.now.types.now c.args.frames.now c.args.note (p.Array m (listed (map (expression_in c.args.layer.now.types.now) c.args.items.now)))) (sym c.if-mutable.false)) c.constant_array.ensures.made
