use Rattle.std.proofs.Common.{◌<◌, ◌∙◌, sym, arith, length}
use Rattle.definition_rules.proofs.OwnUses.{all_own, index_there, next_own, one_other, other_length}
use Rattle.definition_rules.proofs.keeping.are_own.Goals as goal

pub returns-then-own-arguments : goal.returns-then-own-arguments
returns-then-own-arguments c = other_length c.args.terms.now c.args.own.now c.args.arguments.now c.requires c.if-own-arguments.true

pub returns-then-not-is_parameter : goal.returns-then-not-is_parameter
returns-then-not-is_parameter c =
    let b : c.loop-i.i < length c.args.arguments.now = omega (arith, c.if-own-arguments.false, c.loop-i-test.true) in
    one_other c.args.terms.now c.args.own.now c.args.arguments.now c.requires c.loop-i.i _ _ (index_there c.args.own.now c.loop-i.i _ c.loop-i-test.true) (index_there c.args.arguments.now c.loop-i.i _ b)
    (sym c.is_parameter.ensures ∙ c.if-not-is_parameter.true)

pub loop-i-preserved : goal.loop-i-preserved
loop-i-preserved c =
    let b : c.loop-i.i < length c.args.arguments.now = omega (arith, c.if-own-arguments.false, c.loop-i-test.true) in
    next_own c.args.terms.now c.args.own.now c.args.arguments.now c.loop-i.i _ _ (index_there c.args.own.now c.loop-i.i _ c.loop-i-test.true) (index_there c.args.arguments.now c.loop-i.i _ b)
    (sym c.is_parameter.ensures ∙ c.if-not-is_parameter.false) c.loop-i.invariant

pub returns : goal.returns
returns c = all_own c.args.terms.now c.args.own.now c.args.arguments.now c.requires c.loop-i.i c.if-own-arguments.false c.loop-i-test.false c.loop-i.invariant
