use Rattle.std.proofs.Common.{[], ◌∷◌}
use Rattle.typing_rules.specs.Terms.{nat, unit}
use Rattle.typing_rules.specs.Terms as t
use Rattle.judging.proofs.Steps.{plain_boolean, plain_number}
use Rattle.program_fields.proofs.MetTypes.{none_left, not_met, then_met}
use Rattle.program_fields.proofs.basics.meets_basics.Goals as goal

pub returns-in_err-meets_unit : goal.returns-in_err-meets_unit
returns-in_err-meets_unit c = λ s q.
    not_met unit (t.Boolean ∷ nat ∷ []) s c.args.checker.now c.meets_unit.new.checker c.in_err-meets_unit.field-0.0 c.from_residual.result c.from_residual.ensures (c.in_err-meets_unit.ensures.answer s q)

pub meets_plain-requires-clause-plain : goal.meets_plain-requires-clause-plain
meets_plain-requires-clause-plain c = plain_boolean

pub returns-in_err-meets_plain : goal.returns-in_err-meets_plain
returns-in_err-meets_plain c = λ s q.
    let h = c.in_ok-meets_unit.ensures.answer s q in
    then_met unit (t.Boolean ∷ nat ∷ []) s c.args.checker.now c.meets_unit.new.checker c.meets_plain.new.checker c.in_ok-meets_unit.field-0 c.from_residual-in_err-meets_plain.result h
    (not_met t.Boolean (nat ∷ []) s c.meets_unit.new.checker c.meets_plain.new.checker c.in_err-meets_plain.field-0.0 c.from_residual-in_err-meets_plain.result c.from_residual-in_err-meets_plain.ensures
    (c.in_err-meets_plain.ensures.answer s h.outcome.sound))

pub meets_plain-requires-2-clause-plain : goal.meets_plain-requires-2-clause-plain
meets_plain-requires-2-clause-plain c = plain_number _

pub returns-in_err-meets_plain-2 : goal.returns-in_err-meets_plain-2
returns-in_err-meets_plain-2 c = λ s q.
    let h = c.in_ok-meets_unit.ensures.answer s q in
    let i = c.in_ok-meets_plain.ensures.answer s h.outcome.sound in
    then_met unit (t.Boolean ∷ nat ∷ []) s c.args.checker.now c.meets_unit.new.checker c.meets_plain-2.new.checker c.in_ok-meets_unit.field-0 c.from_residual-in_err-meets_plain-2.result h
    (then_met t.Boolean (nat ∷ []) s c.meets_unit.new.checker c.meets_plain.new.checker c.meets_plain-2.new.checker c.in_ok-meets_plain.field-0 c.from_residual-in_err-meets_plain-2.result i
    (not_met nat [] s c.meets_plain.new.checker c.meets_plain-2.new.checker c.in_err-meets_plain-2.field-0.0 c.from_residual-in_err-meets_plain-2.result c.from_residual-in_err-meets_plain-2.ensures
    (c.in_err-meets_plain-2.ensures.answer s i.outcome.sound)))

pub returns : goal.returns
returns c = λ s q.
    let h = c.in_ok-meets_unit.ensures.answer s q in
    let i = c.in_ok-meets_plain.ensures.answer s h.outcome.sound in
    let j = c.in_ok-meets_plain-2.ensures.answer s i.outcome.sound in
    then_met unit (t.Boolean ∷ nat ∷ []) s c.args.checker.now c.meets_unit.new.checker c.meets_plain-2.new.checker c.in_ok-meets_unit.field-0 _ h
    (then_met t.Boolean (nat ∷ []) s c.meets_unit.new.checker c.meets_plain.new.checker c.meets_plain-2.new.checker c.in_ok-meets_plain.field-0 _ i
    (then_met nat [] s c.meets_plain.new.checker c.meets_plain-2.new.checker c.meets_plain-2.new.checker c.in_ok-meets_plain-2.field-0 _ j (none_left s c.meets_plain-2.new.checker j.outcome.sound)))
