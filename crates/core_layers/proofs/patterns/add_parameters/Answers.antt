use Rattle.std.proofs.Common.{ℕ, ◌+◌, drop, sym, subst, arith}
use Rattle.typed_tree.specs.PatternView.{patterns}
use Rattle.elaboration.specs.Checks.{check_all}
use Rattle.core_layers.specs.Layers.{Adds}
use Rattle.core_layers.proofs.Rests.{all_done, all_next}
use Rattle.core_layers.proofs.patterns.add_parameters.Goals as goal

pub loop-parameter-preserved : goal.loop-parameter-preserved
loop-parameter-preserved c = λ last others.
    let Of : ℕ → Type 0 = λ n. Adds (check_all (patterns (drop (c.loop-parameter.parameter-index + 1) c.args.parameters.now)) n c.add_pattern.new.checked.names) c.add_pattern.new.checked last in
    c.loop-parameter.invariant last
    (all_next c.args.parameters.now c.loop-parameter.parameter-index c.loop-parameter.level c.parameter-item.result c.loop-parameter.checked c.add_pattern.new.checked last c.loop-parameter-test.true c.parameter-item.is c.in_ok-add_pattern.ensures
    (subst Of c.saturating_sub-level.ensures others))

pub returns : goal.returns
returns c =
    c.loop-parameter.invariant c.loop-parameter.checked (all_done c.args.parameters.now c.loop-parameter.parameter-index c.loop-parameter.level c.loop-parameter.checked (omega (arith, c.loop-parameter-test.false)))
