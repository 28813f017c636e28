use Rattle.std.proofs.Common.{◌∙◌, ap, sym}
use Rattle.typing_rules.specs.Operators as rules
use Rattle.abstract_tree.specs.TreeView.{plain}
use Rattle.operand_rules.specs.Families.{family_in}
use Rattle.operator_rules.proofs.Joining.{of_family}
use Rattle.operator_rules.proofs.choosing.binary.Goals as goal

pub returns-in-Arithmetic : goal.returns-in-Arithmetic
returns-in-Arithmetic g c =
    of_family c.args.layer.now.site c.args.operator c.args.scopes.now c.arithmetic.new.scopes c.args.checker.now c.arithmetic.new.checker c.arithmetic.result rules.Arithmetic (rules.family c.args.operator) (sym (ap family_in c.in-Arithmetic.is) ∙ c.family_of.ensures) (plain c.args.a.now) (plain c.args.b.now) c.arithmetic.ensures

pub returns-in-Wrapping : goal.returns-in-Wrapping
returns-in-Wrapping g c =
    of_family c.args.layer.now.site c.args.operator c.args.scopes.now c.arithmetic-in-Wrapping.new.scopes c.args.checker.now c.arithmetic-in-Wrapping.new.checker c.arithmetic-in-Wrapping.result rules.Wrapping (rules.family c.args.operator) (sym (ap family_in c.in-Wrapping.is) ∙ c.family_of.ensures) (plain c.args.a.now) (plain c.args.b.now) c.arithmetic-in-Wrapping.ensures

pub returns-in-Concatenation : goal.returns-in-Concatenation
returns-in-Concatenation g c =
    of_family c.args.layer.now.site c.args.operator c.args.scopes.now c.both_text.new.scopes c.args.checker.now c.both_text.new.checker c.both_text.result rules.Concatenation (rules.family c.args.operator) (sym (ap family_in c.in-Concatenation.is) ∙ c.family_of.ensures) (plain c.args.a.now) (plain c.args.b.now) c.both_text.ensures

pub returns-in-Equality : goal.returns-in-Equality
returns-in-Equality g c =
    of_family c.args.layer.now.site c.args.operator c.args.scopes.now c.equality.new.scopes c.args.checker.now c.equality.new.checker c.equality.result rules.Equality (rules.family c.args.operator) (sym (ap family_in c.in-Equality.is) ∙ c.family_of.ensures) (plain c.args.a.now) (plain c.args.b.now) c.equality.ensures

pub returns-in-Ordering : goal.returns-in-Ordering
returns-in-Ordering g c =
    of_family c.args.layer.now.site c.args.operator c.args.scopes.now c.ordering.new.scopes c.args.checker.now c.ordering.new.checker c.ordering.result rules.Ordering (rules.family c.args.operator) (sym (ap family_in c.in-Ordering.is) ∙ c.family_of.ensures) (plain c.args.a.now) (plain c.args.b.now) c.ordering.ensures

pub returns-in-Logical : goal.returns-in-Logical
returns-in-Logical g c =
    of_family c.args.layer.now.site c.args.operator c.args.scopes.now c.both_boolean.new.scopes c.args.checker.now c.both_boolean.new.checker c.both_boolean.result rules.Logical (rules.family c.args.operator) (sym (ap family_in c.in-Logical.is) ∙ c.family_of.ensures) (plain c.args.a.now) (plain c.args.b.now) c.both_boolean.ensures
