use Rattle.std.proofs.Common.{◌∙◌, ap, sym}
use Rattle.typing_rules.specs.Operators as rules
use Rattle.abstract_tree.specs.TreeView.{plain}
use Rattle.operand_rules.specs.Families.{family_in}
use Rattle.operator_rules.proofs.Joining.{operand_of_family}
use Rattle.operator_rules.proofs.assigning.operand.Goals as goal

pub returns-in-Concatenation-clause-answer : goal.returns-in-Concatenation-clause-answer
returns-in-Concatenation-clause-answer g c =
    operand_of_family c.args.layer.now.site c.args.operator c.args.scopes.now c.text_operand.new.scopes c.args.checker.now c.text_operand.new.checker c.text_operand.result rules.Concatenation (rules.family c.args.operator) (sym (ap family_in c.in-Concatenation.is) ∙ c.family_of.ensures) c.args.kind (plain c.args.a.now) c.text_operand.ensures.answer

pub returns-in-Arithmetic-clause-answer : goal.returns-in-Arithmetic-clause-answer
returns-in-Arithmetic-clause-answer g c =
    operand_of_family c.args.layer.now.site c.args.operator c.args.scopes.now c.number_operand.new.scopes c.args.checker.now c.number_operand.new.checker c.number_operand.result rules.Arithmetic (rules.family c.args.operator) (sym (ap family_in c.in-Arithmetic.is) ∙ c.family_of.ensures) c.args.kind (plain c.args.a.now) c.number_operand.ensures.answer

pub returns-in-Wrapping-clause-answer : goal.returns-in-Wrapping-clause-answer
returns-in-Wrapping-clause-answer g c =
    operand_of_family c.args.layer.now.site c.args.operator c.args.scopes.now c.number_operand-in-Wrapping.new.scopes c.args.checker.now c.number_operand-in-Wrapping.new.checker c.number_operand-in-Wrapping.result rules.Wrapping (rules.family c.args.operator) (sym (ap family_in c.in-Wrapping.is) ∙ c.family_of.ensures) c.args.kind (plain c.args.a.now) c.number_operand-in-Wrapping.ensures.answer

pub returns-in-Equality-clause-answer : goal.returns-in-Equality-clause-answer
returns-in-Equality-clause-answer g c =
    operand_of_family c.args.layer.now.site c.args.operator c.args.scopes.now c.number_operand-in-Equality.new.scopes c.args.checker.now c.number_operand-in-Equality.new.checker c.number_operand-in-Equality.result rules.Equality (rules.family c.args.operator) (sym (ap family_in c.in-Equality.is) ∙ c.family_of.ensures) c.args.kind (plain c.args.a.now) c.number_operand-in-Equality.ensures.answer

pub returns-in-Ordering-clause-answer : goal.returns-in-Ordering-clause-answer
returns-in-Ordering-clause-answer g c =
    operand_of_family c.args.layer.now.site c.args.operator c.args.scopes.now c.number_operand-in-Ordering.new.scopes c.args.checker.now c.number_operand-in-Ordering.new.checker c.number_operand-in-Ordering.result rules.Ordering (rules.family c.args.operator) (sym (ap family_in c.in-Ordering.is) ∙ c.family_of.ensures) c.args.kind (plain c.args.a.now) c.number_operand-in-Ordering.ensures.answer

pub returns-in-Logical-clause-answer : goal.returns-in-Logical-clause-answer
returns-in-Logical-clause-answer g c =
    operand_of_family c.args.layer.now.site c.args.operator c.args.scopes.now c.number_operand-in-Logical.new.scopes c.args.checker.now c.number_operand-in-Logical.new.checker c.number_operand-in-Logical.result rules.Logical (rules.family c.args.operator) (sym (ap family_in c.in-Logical.is) ∙ c.family_of.ensures) c.args.kind (plain c.args.a.now) c.number_operand-in-Logical.ensures.answer
