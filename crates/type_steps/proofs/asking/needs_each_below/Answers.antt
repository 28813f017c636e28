use Rattle.std.proofs.Common.{◌<◌, List, Ok, arith, get_or, length, subst, take}
use Rattle.type_terms.specs.declared.form.TermId.{TermId}
use Rattle.met_types.specs.States.{IsReached}
use Rattle.proper_types.proofs.Turns.{around}
use Rattle.judging.proofs.FirstAbove.{each_of}
use Rattle.type_steps.proofs.InTurn.{Done, all_pairs, asking, askings, next_pair, next_turn, none_yet, pairs, turn_refused, turns}
use Rattle.type_steps.proofs.asking.needs_each_below.Goals as goal

pub loop-i-init : goal.loop-i-init
loop-i-init c = λ s q. none_yet (asking c.args.condition c.args.place) s c.args.checker.now q

pub needs_one-requires-clause-low : goal.needs_one-requires-clause-low
needs_one-requires-clause-low c =
    each_of (IsReached c.args.checker.now.types) c.args.lows.now c.loop-i.i (record { index = 0 }) c.requires.lows c.loop-i-test.true

pub needs_one-requires-clause-high : goal.needs_one-requires-clause-high
needs_one-requires-clause-high c =
    let h : c.loop-i.i < length c.args.highs.now = omega (arith, c.loop-i-test.true, c.requires.number) in
    each_of (IsReached c.args.checker.now.types) c.args.highs.now c.loop-i.i (record { index = 0 }) c.requires.highs h

pub loop-i-preserved : goal.loop-i-preserved
loop-i-preserved c = λ s q.
    let h : c.loop-i.i < length c.args.highs.now = omega (arith, c.loop-i-test.true, c.requires.number) in
    next_turn (asking c.args.condition c.args.place) s c.args.checker.now c.args.checker.now c.args.checker.now (take c.loop-i.i (pairs c.args.lows.now c.args.highs.now)) _ (get_or c.args.lows.now c.loop-i.i (record { index = 0 }), get_or c.args.highs.now c.loop-i.i (record { index = 0 }))
    (next_pair c.args.lows.now c.args.highs.now c.loop-i.i (record { index = 0 }) c.loop-i-test.true h) (c.loop-i.invariant s q) (c.in_ok-needs_one.ensures s q)

pub returns-in_err-needs_one : goal.returns-in_err-needs_one
returns-in_err-needs_one c = λ s q.
    let h : c.loop-i.i < length c.args.highs.now = omega (arith, c.loop-i-test.true, c.requires.number) in
    askings c.args.condition c.args.place c.args.lows.now c.args.highs.now s c.args.checker.now c.from_residual.result
    (turn_refused (asking c.args.condition c.args.place) s c.args.checker.now c.args.checker.now c.args.checker.now (take c.loop-i.i (pairs c.args.lows.now c.args.highs.now)) _ (pairs c.args.lows.now c.args.highs.now)
    (get_or c.args.lows.now c.loop-i.i (record { index = 0 }), get_or c.args.highs.now c.loop-i.i (record { index = 0 })) c.in_err-needs_one.field-0.0 c.from_residual.result c.from_residual.ensures
    (around (pairs c.args.lows.now c.args.highs.now) c.loop-i.i (get_or c.args.lows.now c.loop-i.i (record { index = 0 }), get_or c.args.highs.now c.loop-i.i (record { index = 0 }))
    (next_pair c.args.lows.now c.args.highs.now c.loop-i.i (record { index = 0 }) c.loop-i-test.true h)) (c.loop-i.invariant s q) (c.in_err-needs_one.ensures s q))

pub returns : goal.returns
returns c = λ s q.
    askings c.args.condition c.args.place c.args.lows.now c.args.highs.now s c.args.checker.now (Ok tt)
    (subst (λ (ps : List (TermId × TermId)). Done (turns (asking c.args.condition c.args.place) ps) s c.args.checker.now c.args.checker.now) (all_pairs c.args.lows.now c.args.highs.now c.loop-i.i c.loop-i-test.false) (c.loop-i.invariant s q))
