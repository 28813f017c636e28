use Rattle.std.proofs.Common.{◌<◌, ◌≤◌, length, map, ap, sym, take, subst, ℕ, List, ◌∙◌, arith}
use Rattle.std.proofs.lemmas.List.{take_all}
use Rattle.core_ir.specs.Expressions as core
use Rattle.core_ir.specs.View.{exps, expression}
use Rattle.elaboration.specs.Checks.{locals}
use Rattle.elaboration.specs.Programs.{tuple, values_of}
use Rattle.core_parts.proofs.Going.{on_ok}
use Rattle.core_places.proofs.Naming.{more_values}
use Rattle.core_places.proofs.given.values.Goals as goal

pub loop-index-preserved : goal.loop-index-preserved
loop-index-preserved c = λ levels others places count.
    let below : c.loop-index.index < length levels = omega (arith, count) in
    ap (λ es. exps (map expression es)) c.in_ok-push.ensures.ok
    ∙ more_values levels others c.args.scope.now.places c.args.scope.now.names c.loop-index.index c.loop-index.made c.in_ok-value.value places below c.in_ok-value.ensures (c.loop-index.invariant levels others places count)

pub returns : goal.returns
returns c =
    on_ok c.operation.result c.operation.ensures (λ made is. λ levels others places count.
    let past : length levels ≤ c.loop-index.index = omega (arith, count) in
    is ∙ ap (λ (es : core.Exps). tuple es) (c.loop-index.invariant levels others places count ∙ ap (λ (ls : List ℕ). values_of c.args.scope.now.names (locals ls)) (take_all c.loop-index.index levels past)))
