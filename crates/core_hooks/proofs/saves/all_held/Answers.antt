use Rattle.std.proofs.Common.{◌≤◌, List, length, map, ap, ◌∙◌, arith}
use Rattle.std.proofs.lemmas.List.{take_all}
use Rattle.core_ir.specs.Expressions as core
use Rattle.core_ir.specs.View.{exps, expression}
use Rattle.typed_tree.specs.declared.program.StableVariable.{StableVariable}
use Rattle.elaboration.specs.Programs.{held_in, tuple}
use Rattle.core_parts.proofs.Going.{on_ok}
use Rattle.core_hooks.specs.Hooks.{cells_behind}
use Rattle.core_hooks.proofs.Ends.{more_cells}
use Rattle.core_hooks.proofs.saves.all_held.Goals as goal

pub loop-variable-preserved : goal.loop-variable-preserved
loop-variable-preserved c = λ places at.
    ap (λ es. exps (map expression es)) c.in_ok-push.ensures.ok
    ∙ more_cells c.args.stable.now c.args.functions c.loop-variable.variable-index c.variable-item.result places c.loop-variable.made c.in_ok-value.value c.loop-variable-test.true c.variable-item.is (c.in_ok-value.ensures places at)
    (c.loop-variable.invariant places at)

pub returns : goal.returns
returns c =
    let past : length c.args.stable.now ≤ c.loop-variable.variable-index = omega arith in
    on_ok c.operation.result c.operation.ensures (λ made is. λ places at.
    is ∙ ap (λ (es : core.Exps). tuple es) (c.loop-variable.invariant places at ∙ ap (λ (vs : List StableVariable). held_in places (cells_behind c.args.functions vs)) (take_all c.loop-variable.variable-index c.args.stable.now past)))
