use Rattle.std.proofs.Common.{◌+◌, ℕ, Ok, Err, List, drop, map, subst, take}
use Rattle.definition_rules.proofs.Adding.{take_all}
use Rattle.met_types.specs.States.{IsReached}
use Rattle.abstract_types.specs.declared.patterns.Pattern.{Pattern}
use Rattle.abstract_types.specs.PatternView.{plain}
use Rattle.type_scopes.specs.Scopes.{seen}
use Rattle.proper_types.specs.Passing.{Passed}
use Rattle.proper_types.specs.Rules.{as_term, as_terms}
use Rattle.proper_types.proofs.Judging.{handed}
use Rattle.proper_types.proofs.Readings.{each_more, each_reached_on}
use Rattle.proper_types.proofs.Turns.{around}
use Rattle.typed_patterns.proofs.Several.{item_more}
use Rattle.signatures.specs.Rules.{parameter_types}
use Rattle.signatures.proofs.Gathering.{all_seen, gather_refused, gathered, next_gathered}
use Rattle.signatures.proofs.Annotations.{own_kind, parameters_are}
use Rattle.signatures.proofs.written.parameter_types.Goals as goal

pub loop-pattern-preserved : goal.loop-pattern-preserved
loop-pattern-preserved c = record {
  reached = each_more (IsReached c.kind_of.new.types) c.loop-pattern.made c.push.new.self c.in_ok-kind_of.field-0 c.in_ok-push.ensures.ok (each_reached_on c.loop-pattern.types c.kind_of.new.types c.loop-pattern.made c.in_ok-kind_of.ensures.judged.goes c.loop-pattern.invariant.reached) c.in_ok-kind_of.ensures.reached;
  judged = next_gathered (own_kind (seen c.args.scope.now)) as_term c.args.types.now c.loop-pattern.types c.kind_of.new.types c.loop-pattern.sharing c.kind_of.new.sharing (take c.loop-pattern.pattern-index c.args.patterns.now) (take (c.loop-pattern.pattern-index + 1) c.args.patterns.now) c.pattern-item.result c.loop-pattern.made c.push.new.self c.in_ok-kind_of.field-0
      (item_more c.args.patterns.now c.loop-pattern.pattern-index c.pattern-item.result c.loop-pattern-test.true c.pattern-item.is) c.in_ok-push.ensures.ok c.loop-pattern.invariant.judged c.in_ok-kind_of.ensures.judged;
}

pub returns-in_err-kind_of-clause-judged : goal.returns-in_err-kind_of-clause-judged
returns-in_err-kind_of-clause-judged c =
    handed (parameter_types (seen c.args.scope.now) (map plain c.args.patterns.now)) c.args.types.now c.kind_of.new.types c.kind_of.new.sharing c.kind_of.new.sharing as_terms as_terms c.in_err-kind_of.field-0.0 c.from_residual.result c.from_residual.ensures
    (parameters_are (seen c.args.scope.now) c.args.patterns.now c.args.types.now c.kind_of.new.types c.kind_of.new.sharing (Err c.in_err-kind_of.field-0.0)
    (gather_refused (own_kind (seen c.args.scope.now)) as_term as_terms c.args.types.now c.loop-pattern.types c.kind_of.new.types c.loop-pattern.sharing c.kind_of.new.sharing (take c.loop-pattern.pattern-index c.args.patterns.now) (drop (c.loop-pattern.pattern-index + 1) c.args.patterns.now) c.args.patterns.now c.pattern-item.result c.loop-pattern.made c.in_err-kind_of.field-0.0
    (around c.args.patterns.now c.loop-pattern.pattern-index c.pattern-item.result (item_more c.args.patterns.now c.loop-pattern.pattern-index c.pattern-item.result c.loop-pattern-test.true c.pattern-item.is)) c.loop-pattern.invariant.judged c.in_err-kind_of.ensures.judged))

pub returns-clause-judged : goal.returns-clause-judged
returns-clause-judged c =
    parameters_are (seen c.args.scope.now) c.args.patterns.now c.args.types.now c.loop-pattern.types c.loop-pattern.sharing (Ok c.loop-pattern.made)
    (subst (λ (qs : List (Pattern ℕ)). Passed (gathered (own_kind (seen c.args.scope.now)) qs c.args.types.now.listed) c.args.types.now c.loop-pattern.types c.loop-pattern.sharing (all_seen (own_kind (seen c.args.scope.now)) as_term c.loop-pattern.made)) (take_all c.args.patterns.now c.loop-pattern.pattern-index c.loop-pattern-test.false) c.loop-pattern.invariant.judged)
