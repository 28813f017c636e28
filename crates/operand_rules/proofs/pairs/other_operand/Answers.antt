use Rattle.typing_rules.specs.declared.condition.Condition.TheVariants as condition
use Rattle.typing_rules.specs.Literals.{may_have}
use Rattle.std.proofs.Common.{Some}
use Rattle.abstract_tree.specs.TreeView.{plain}
use Rattle.judging.specs.Views.{judge, kind_reached, typed_in}
use Rattle.judging.proofs.Steps.{reached_within}
use Rattle.operand_rules.specs.Literals.{seen_written}
use Rattle.operand_rules.proofs.ByHeads.{head_fails, head_holds}
use Rattle.operand_rules.proofs.pairs.other_operand.Goals as goal

pub part-requires-clause-wanted : goal.part-requires-clause-wanted
part-requires-clause-wanted g c = reached_within c.args.checker.now.types c.args.other c.requires.ready.sound.known.kept c.requires.other

pub returns-then-may_have-clause-answer : goal.returns-then-may_have-clause-answer
returns-then-may_have-clause-answer g c =
    head_holds typed_in kind_reached condition.BadOperator c.args.layer.now.site.at (may_have (seen_written c.args.written.now)) c.args.other (judge c.args.layer.now.site.place (plain c.args.a.now) (Some c.args.other)) c.args.scopes.now c.args.checker.now
    c.may_have.result c.may_have.ensures c.part.new.scopes c.part.new.checker c.part.result c.if-may_have.true c.part.ensures.answer

pub returns-else-may_have-clause-answer : goal.returns-else-may_have-clause-answer
returns-else-may_have-clause-answer g c =
    head_fails typed_in kind_reached condition.BadOperator c.args.layer.now.site.at (may_have (seen_written c.args.written.now)) c.args.other (judge c.args.layer.now.site.place (plain c.args.a.now) (Some c.args.other)) c.args.scopes.now c.args.checker.now
    c.may_have.result c.may_have.ensures c.if-may_have.false
