use Rattle.std.proofs.Common.{◌∙◌, length}
use Rattle.core_ir.specs.Expressions.{Loop}
use Rattle.typed_tree.specs.View.{expression}
use Rattle.elaboration.specs.Elaboration.{elaborate}
use Rattle.elaboration.specs.Members.{let_in}
use Rattle.elaboration.specs.Scopes.{Scope, beside, nothing}
use Rattle.core_parts.proofs.Going.{in_any_case, made_in, on_ok, one_made}
use Rattle.core_loops.proofs.loops.turns.Goals as goal

pub returns-clause-made : goal.returns-clause-made
returns-clause-made g c =
    let t : Scope = beside 1 c.args.scope.now in
    on_ok c.without_end.result c.without_end.ensures (λ made is.
    one_made (λ y. Loop (let_in nothing y)) (elaborate t (length c.args.groups.now) (expression c.args.body.now)) c.args.groups.now c.part.new.groups c.in_ok-body.body made
    (made_in c.go_beside.new.self t (length c.args.groups.now) (expression c.args.body.now) c.args.groups.now c.part.new.groups c.in_ok-body.body c.in_ok-go_beside.ensures c.in_ok-body.ensures.made) is)

pub returns-clause-scope : goal.returns-clause-scope
returns-clause-scope g c = in_any_case c.without_end.result (c.back.ensures.beside c.args.scope.now 1 c.mark-mark.ensures (c.in_ok-body.ensures.scope ∙ c.in_ok-go_beside.ensures))
