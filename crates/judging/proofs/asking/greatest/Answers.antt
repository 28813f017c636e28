use Rattle.std.proofs.Common.{Bool, drop, get_or, subst, ◌+◌}
use Rattle.type_terms.specs.declared.form.TermId.{TermId}
use Rattle.met_types.specs.States.{IsReached}
use Rattle.judging.specs.Questions.{IsAboveAll}
use Rattle.judging.proofs.FirstAbove.{each_of, next_of, no_more_of, one_above, one_not_above, none_above}
use Rattle.judging.proofs.asking.greatest.Goals as goal

pub is_above_all-requires-clause-kind : goal.is_above_all-requires-clause-kind
is_above_all-requires-clause-kind c = each_of (IsReached c.args.types.now) c.args.kinds.now c.loop-one.one-index (record { index = 0 }) c.requires.kinds c.loop-one-test.true

pub returns-then-branch-clause-judged : goal.returns-then-branch-clause-judged
returns-then-branch-clause-judged c =
    let one : TermId = get_or c.args.kinds.now c.loop-one.one-index (record { index = 0 }) in
    one_above c.args.types.now c.args.condition c.args.place c.args.kinds.now (drop c.loop-one.one-index c.args.kinds.now) (drop (c.loop-one.one-index + 1) c.args.kinds.now) one c.loop-one.invariant
    (next_of c.args.kinds.now c.loop-one.one-index (record { index = 0 }) c.loop-one-test.true)
    (subst (λ (b : Bool). IsAboveAll c.args.types.now one c.args.kinds.now b) c.if-branch.true c.in_ok-is_above_all.ensures)

pub loop-one-preserved : goal.loop-one-preserved
loop-one-preserved c =
    let one : TermId = get_or c.args.kinds.now c.loop-one.one-index (record { index = 0 }) in
    one_not_above c.args.types.now c.args.condition c.args.place c.args.kinds.now (drop c.loop-one.one-index c.args.kinds.now) (drop (c.loop-one.one-index + 1) c.args.kinds.now) one c.loop-one.invariant
    (next_of c.args.kinds.now c.loop-one.one-index (record { index = 0 }) c.loop-one-test.true)
    (subst (λ (b : Bool). IsAboveAll c.args.types.now one c.args.kinds.now b) c.if-branch.false c.in_ok-is_above_all.ensures)

pub returns-clause-judged : goal.returns-clause-judged
returns-clause-judged c = none_above c.args.types.now c.args.condition c.args.place c.args.kinds.now (drop c.loop-one.one-index c.args.kinds.now) c.loop-one.invariant (no_more_of c.args.kinds.now c.loop-one.one-index c.loop-one-test.false)
