use Rattle.std.proofs.Common.{◌≡◌, ◌+◌, ℕ, suc, List, arith, subst, sym}
use Rattle.std.proofs.lemmas.List.{drop_all}
use Rattle.judging.proofs.Chains.{no_memory}
use Rattle.judging.proofs.ListParts.{one_at}
use Rattle.judging.proofs.Steps.{reached_on}
use Rattle.pattern_rules.specs.Arms.{cases_in, cases_reached}
use Rattle.pattern_rules.proofs.Cases.{Judging, Made, all_judged, next, none_yet, refused}
use Rattle.pattern_rules.proofs.arms.each_case.Goals as goal

pub loop-i-init : goal.loop-i-init
loop-i-init g c = record {
  judging = subst (λ (made : List Made). Judging c.args.layer.now.site c.args.kind c.args.cases.now c.args.scopes.now c.args.checker.now 0 made c.args.scopes.now c.args.checker.now) (sym c.new-made.ensures)
      (none_yet c.args.layer.now.site c.args.kind c.args.cases.now c.args.scopes.now c.args.checker.now);
  ready = c.requires.ready;
  reached = c.requires.reached;
}

pub returns-in_err-one-clause-answer : goal.returns-in_err-one-clause-answer
returns-in_err-one-clause-answer g c =
    refused c.args.layer.now.site c.args.kind c.args.cases.now c.args.scopes.now c.args.checker.now c.loop-i.i c.loop-i.made c.loop-i.scopes c.judge_arm.new.scopes c.loop-i.checker c.judge_arm.new.checker c.index-cases-i.result
    (one_at c.args.cases.now c.loop-i.i c.index-cases-i.result c.loop-i-test.true c.index-cases-i.is) c.loop-i.invariant.judging c.in_err-one.field-0.0 c.from_residual.result c.from_residual.ensures c.in_err-one.ensures.answer

pub returns-in_err-push-clause-answer : goal.returns-in_err-push-clause-answer
returns-in_err-push-clause-answer g c = no_memory cases_in cases_reached _ c.args.scopes.now _ c.args.checker.now _ c.from_residual-in_err-push.result c.from_residual-in_err-push.ensures

pub loop-i-preserved : goal.loop-i-preserved
loop-i-preserved g c =
    let one_more : suc c.loop-i.i ≡ c.loop-i.i + 1 = omega arith in
    record {
      judging = subst (λ (n : ℕ). Judging c.args.layer.now.site c.args.kind c.args.cases.now c.args.scopes.now c.args.checker.now n c.push.new.self c.judge_arm.new.scopes c.judge_arm.new.checker) one_more
          (next c.args.layer.now.site c.args.kind c.args.cases.now c.args.scopes.now c.args.checker.now c.loop-i.i c.loop-i.made c.loop-i.scopes c.judge_arm.new.scopes c.loop-i.checker c.judge_arm.new.checker c.index-cases-i.result
          (one_at c.args.cases.now c.loop-i.i c.index-cases-i.result c.loop-i-test.true c.index-cases-i.is) c.loop-i.invariant.judging c.in_ok-one.one c.push.new.self c.in_ok-push.ensures.ok c.in_ok-one.ensures.answer);
      ready = c.in_ok-one.ensures.ready;
      reached = reached_on c.loop-i.checker.types c.judge_arm.new.checker.types c.args.kind c.in_ok-one.ensures.answer.outcome.goes c.loop-i.invariant.reached;
    }

pub returns-clause-answer : goal.returns-clause-answer
returns-clause-answer g c =
    all_judged c.args.layer.now.site c.args.kind c.args.cases.now c.args.scopes.now c.args.checker.now c.loop-i.i c.loop-i.made c.loop-i.scopes c.loop-i.checker (drop_all c.loop-i.i c.args.cases.now c.loop-i-test.false)
    c.loop-i.invariant.ready.sound c.loop-i.invariant.judging
