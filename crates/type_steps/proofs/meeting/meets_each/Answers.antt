use Rattle.std.proofs.Common.{◌+◌, List, Ok, get_or, subst, take}
use Rattle.std.proofs.lemmas.List.{take_more}
use Rattle.mo_types.specs.Sub.{Each}
use Rattle.type_terms.specs.declared.form.TermId.{TermId}
use Rattle.type_definitions.specs.Tables.{Within}
use Rattle.type_definitions.proofs.Meanings.{within_on}
use Rattle.met_types.specs.States.{IsReached}
use Rattle.proper_types.proofs.Judging.{goes_itself}
use Rattle.proper_types.proofs.Readings.{each_more, each_reached_on}
use Rattle.proper_types.proofs.Turns.{around}
use Rattle.judging.proofs.Chains.{goes_on_from}
use Rattle.judging.proofs.FirstAbove.{each_of}
use Rattle.judging.proofs.NodeParts.{take_all}
use Rattle.type_steps.specs.Steps.{meeting}
use Rattle.type_steps.proofs.InTurn.{Done, meetings, next_turn, none_yet, turn_refused, turns}
use Rattle.type_steps.proofs.meeting.meets_each.Goals as goal

pub loop-i-init : goal.loop-i-init
loop-i-init c = record {
  kept = c.requires.kept;
  goes = goes_itself c.args.checker.now.types;
  reached = tt;
  done = λ s q. none_yet meeting s c.args.checker.now q;
}

pub meets_kind-requires-clause-within : goal.meets_kind-requires-clause-within
meets_kind-requires-clause-within c =
    within_on c.args.checker.now.types.forms c.loop-i.checker.types.forms (get_or c.args.kinds.now c.loop-i.i (record { index = 0 })) c.loop-i.invariant.goes.forms
    (each_of (Within c.args.checker.now.types.forms) c.args.kinds.now c.loop-i.i (record { index = 0 }) c.requires.within c.loop-i-test.true)

pub loop-i-preserved : goal.loop-i-preserved
loop-i-preserved c =
    let e = take_more c.args.kinds.now c.loop-i.i (record { index = 0 }) c.loop-i-test.true in
    record {
      kept = c.in_ok-meets_kind.ensures.kept;
      goes = goes_on_from c.args.checker.now.types c.loop-i.checker.types c.meets_kind.new.checker.types c.loop-i.invariant.goes c.in_ok-meets_kind.ensures.goes;
      reached = each_more (IsReached c.meets_kind.new.checker.types) (take c.loop-i.i c.args.kinds.now) (take (c.loop-i.i + 1) c.args.kinds.now) (get_or c.args.kinds.now c.loop-i.i (record { index = 0 })) e
          (each_reached_on c.loop-i.checker.types c.meets_kind.new.checker.types (take c.loop-i.i c.args.kinds.now) c.in_ok-meets_kind.ensures.goes c.loop-i.invariant.reached) c.in_ok-meets_kind.ensures.reached;
      done = λ s q.
          next_turn meeting s c.args.checker.now c.loop-i.checker c.meets_kind.new.checker (take c.loop-i.i c.args.kinds.now) (take (c.loop-i.i + 1) c.args.kinds.now) (get_or c.args.kinds.now c.loop-i.i (record { index = 0 })) e (c.loop-i.invariant.done s q)
          (c.in_ok-meets_kind.ensures.answer s (c.loop-i.invariant.done s q).outcome.sound);
    }

pub returns-in_err-meets_kind-clause-answer : goal.returns-in_err-meets_kind-clause-answer
returns-in_err-meets_kind-clause-answer c = λ s q.
    meetings c.args.kinds.now s c.args.checker.now c.meets_kind.new.checker c.from_residual.result
    (turn_refused meeting s c.args.checker.now c.loop-i.checker c.meets_kind.new.checker (take c.loop-i.i c.args.kinds.now) _ c.args.kinds.now (get_or c.args.kinds.now c.loop-i.i (record { index = 0 })) c.in_err-meets_kind.field-0.0 c.from_residual.result c.from_residual.ensures
    (around c.args.kinds.now c.loop-i.i (get_or c.args.kinds.now c.loop-i.i (record { index = 0 }))
    (take_more c.args.kinds.now c.loop-i.i (record { index = 0 }) c.loop-i-test.true))
    (c.loop-i.invariant.done s q) (c.in_err-meets_kind.ensures.answer s (c.loop-i.invariant.done s q).outcome.sound))

pub returns-clause-reached : goal.returns-clause-reached
returns-clause-reached c = subst (λ (ids : List TermId). Each (IsReached c.loop-i.checker.types) ids) (take_all c.args.kinds.now c.loop-i.i c.loop-i-test.false) c.loop-i.invariant.reached

pub returns-clause-answer : goal.returns-clause-answer
returns-clause-answer c = λ s q.
    meetings c.args.kinds.now s c.args.checker.now c.loop-i.checker (Ok tt)
    (subst (λ (ids : List TermId). Done (turns meeting ids) s c.args.checker.now c.loop-i.checker) (take_all c.args.kinds.now c.loop-i.i c.loop-i-test.false) (c.loop-i.invariant.done s q))
