use Rattle.std.proofs.Common.{◌∙◌, length}
use Rattle.core_ir.specs.Expressions.{Label}
use Rattle.typed_tree.specs.View.{expression}
use Rattle.elaboration.specs.Elaboration.{elaborate}
use Rattle.elaboration.specs.Scopes.{Scope, labelled}
use Rattle.core_parts.proofs.Going.{in_any_case, made_in, on_ok, one_made}
use Rattle.core_loops.proofs.loops.label.Goals as goal

pub returns-clause-made : goal.returns-clause-made
returns-clause-made g c =
    let t : Scope = labelled c.args.scope.now in
    on_ok c.labelled.result c.labelled.ensures (λ made is.
    one_made Label (elaborate t (length c.args.groups.now) (expression c.args.body.now)) c.args.groups.now c.part.new.groups c.in_ok-body.body made
    (made_in c.add_label.new.self t (length c.args.groups.now) (expression c.args.body.now) c.args.groups.now c.part.new.groups c.in_ok-body.body c.in_ok-add_label.ensures c.in_ok-body.ensures.made) is)

pub returns-clause-scope : goal.returns-clause-scope
returns-clause-scope g c = in_any_case c.labelled.result (c.back.ensures.labelled c.args.scope.now c.mark-mark.ensures (c.in_ok-body.ensures.scope ∙ c.in_ok-add_label.ensures))
