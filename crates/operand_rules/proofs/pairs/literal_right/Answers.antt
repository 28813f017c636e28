use Rattle.std.proofs.Common.{Err, None, Ok}
use Rattle.typing_rules.specs.Operands.{GreatestOf, LiteralOperand}
use Rattle.typing_rules.specs.TypedTrees.{type_of}
use Rattle.abstract_tree.specs.TreeView.{plain}
use Rattle.judging.specs.Views.{definitions, judge}
use Rattle.judging.proofs.Steps.{reached_on}
use Rattle.operand_rules.specs.Literals.{seen_written}
use Rattle.operand_rules.specs.Pairs.{pair_in, pair_reached, part_of}
use Rattle.operand_rules.proofs.Pairing.{both_given, literal_beside, no_first, no_second}
use Rattle.operand_rules.proofs.pairs.literal_right.Goals as goal

pub returns-in_err-left-clause-answer : goal.returns-in_err-left-clause-answer
returns-in_err-left-clause-answer g c =
    no_first pair_in pair_reached (judge c.args.layer.now.site.place (plain c.args.a.now) None) (λ v y. LiteralOperand (definitions v) c.args.layer.now.site.at (seen_written c.args.written.now) (part_of c.args.layer.now.site (plain c.args.b.now) v) (type_of y)) (λ v y z. GreatestOf (definitions v) c.args.layer.now.site.at y z)
    c.args.scopes.now c.part.new.scopes c.args.checker.now c.part.new.checker c.in_err-left.field-0.0 c.from_residual.result c.from_residual.ensures c.in_err-left.ensures.answer

pub literal_operand-requires-clause-other : goal.literal_operand-requires-clause-other
literal_operand-requires-clause-other g c = c.in_ok-left.ensures.answer.outcome.holds

pub returns-in_err-right-clause-answer : goal.returns-in_err-right-clause-answer
returns-in_err-right-clause-answer g c =
    no_second pair_in pair_reached (judge c.args.layer.now.site.place (plain c.args.a.now) None) (λ v y. LiteralOperand (definitions v) c.args.layer.now.site.at (seen_written c.args.written.now) (part_of c.args.layer.now.site (plain c.args.b.now) v) (type_of y)) (λ v y z. GreatestOf (definitions v) c.args.layer.now.site.at y z)
    c.args.scopes.now c.part.new.scopes c.args.checker.now c.part.new.checker c.in_ok-left.left c.in_ok-left.ensures.answer c.literal_operand.new.scopes c.literal_operand.new.checker c.in_err-right.field-0.0 c.from_residual-in_err-right.result
    c.from_residual-in_err-right.ensures (literal_beside c.args.layer.now.site (plain c.args.b.now) (seen_written c.args.written.now) c.in_ok-left.left c.part.new.scopes c.literal_operand.new.scopes c.part.new.checker c.literal_operand.new.checker (Err c.in_err-right.field-0.0) c.in_err-right.ensures.answer)

pub greatest_of-requires-clause-left : goal.greatest_of-requires-clause-left
greatest_of-requires-clause-left g c = reached_on c.part.new.checker.types c.literal_operand.new.checker.types c.in_ok-left.left.note.kind c.in_ok-right.ensures.answer.outcome.goes c.in_ok-left.ensures.answer.outcome.holds

pub greatest_of-requires-clause-right : goal.greatest_of-requires-clause-right
greatest_of-requires-clause-right g c = c.in_ok-right.ensures.answer.outcome.holds

pub returns-clause-answer : goal.returns-clause-answer
returns-clause-answer g c =
    both_given pair_in pair_reached (judge c.args.layer.now.site.place (plain c.args.a.now) None) (λ v y. LiteralOperand (definitions v) c.args.layer.now.site.at (seen_written c.args.written.now) (part_of c.args.layer.now.site (plain c.args.b.now) v) (type_of y)) (λ v y z. GreatestOf (definitions v) c.args.layer.now.site.at y z)
    c.args.scopes.now c.part.new.scopes c.args.checker.now c.part.new.checker c.in_ok-left.left c.in_ok-left.ensures.answer c.literal_operand.new.scopes c.literal_operand.new.checker c.in_ok-right.right c.literal_operand.new.scopes c.literal_operand.new.checker c.greatest_of.result
    (literal_beside c.args.layer.now.site (plain c.args.b.now) (seen_written c.args.written.now) c.in_ok-left.left c.part.new.scopes c.literal_operand.new.scopes c.part.new.checker c.literal_operand.new.checker (Ok c.in_ok-right.right) c.in_ok-right.ensures.answer) (c.greatest_of.ensures c.literal_operand.new.scopes c.in_ok-right.ensures.ready.sound)
