use Rattle.std.proofs.Common.{◌∙◌, sym}
use Rattle.judging.proofs.Chains.{no_memory}
use Rattle.operand_rules.specs.Literals.{seen_written}
use Rattle.operand_rules.specs.Steps.{any_flag, flag_in}
use Rattle.operand_rules.proofs.Deciding.{not_own, own_decided, own_refused}
use Rattle.operand_rules.proofs.pairs.takes_own.Goals as goal

pub returns-in_err-own : goal.returns-in_err-own
returns-in_err-own c = λ s q.
    own_refused (seen_written c.args.written.now) c.args.other s c.args.checker.now c.own_form.result c.own_form.ensures.own c.meets_plain.new.checker c.in_err-own.field-0.0 c.from_residual.result (sym c.has_own.ensures ∙ c.if-has_own.true)
    c.from_residual.ensures (c.in_err-own.ensures.answer s q)

pub returns-in_err-below : goal.returns-in_err-below
returns-in_err-below c = λ s q. no_memory flag_in any_flag _ s s c.args.checker.now _ c.from_residual-in_err-below.result c.from_residual-in_err-below.ensures

pub returns-in_ok-below : goal.returns-in_ok-below
returns-in_ok-below c = λ s q.
    own_decided (seen_written c.args.written.now) c.args.other s c.args.checker.now c.own_form.result c.own_form.ensures.own c.meets_plain.new.checker c.in_ok-own.own c.in_ok-below.below (sym c.has_own.ensures ∙ c.if-has_own.true)
    (c.in_ok-own.ensures.answer s q) c.in_ok-below.ensures

pub returns-else-has_own : goal.returns-else-has_own
returns-else-has_own c = λ s q. not_own (seen_written c.args.written.now) c.args.other s c.args.checker.now (sym c.has_own.ensures ∙ c.if-has_own.false) q
