use Rattle.std.proofs.Common.{◌∙◌, None, Option, Some, ap, option_map, refl, sym}
use Rattle.typing_rules.specs.Literals.{written}
use Rattle.abstract_tree.specs.TreeView.{plain}
use Rattle.operand_rules.specs.declared.literals.Written.{Written}
use Rattle.operand_rules.specs.Literals.{seen_written}
use Rattle.operand_rules.proofs.Pairing.{with_literals}
use Rattle.operand_rules.proofs.pairs.operands.Goals as goal

pub returns-in-Some-clause-answer : goal.returns-in-Some-clause-answer
returns-in-Some-clause-answer g c =
    with_literals c.args.layer.now.site (plain c.args.a.now) (plain c.args.b.now) (Some (seen_written c.in-Some.written)) (written (plain c.args.b.now)) (written (plain c.args.a.now)) (written (plain c.args.b.now)) c.args.scopes.now c.literal_left.new.scopes c.args.checker.now c.literal_left.new.checker c.literal_left.result (sym (ap (option_map seen_written) c.in-Some.is) ∙ c.written_as.ensures) refl c.literal_left.ensures.answer

pub returns-in-Some-written_as-clause-answer : goal.returns-in-Some-written_as-clause-answer
returns-in-Some-written_as-clause-answer g c =
    with_literals c.args.layer.now.site (plain c.args.a.now) (plain c.args.b.now) None (Some (seen_written c.in-Some-written_as.written)) (written (plain c.args.a.now)) (written (plain c.args.b.now)) c.args.scopes.now c.literal_right.new.scopes c.args.checker.now c.literal_right.new.checker c.literal_right.result (sym (ap (option_map seen_written) c.in-None.is) ∙ c.written_as.ensures) (sym (ap (option_map seen_written) c.in-Some-written_as.is) ∙ c.written_as-in-None.ensures) c.literal_right.ensures.answer

pub returns-in-None-written_as-clause-answer : goal.returns-in-None-written_as-clause-answer
returns-in-None-written_as-clause-answer g c =
    with_literals c.args.layer.now.site (plain c.args.a.now) (plain c.args.b.now) None None (written (plain c.args.a.now)) (written (plain c.args.b.now)) c.args.scopes.now c.no_literals.new.scopes c.args.checker.now c.no_literals.new.checker c.no_literals.result (sym (ap (option_map seen_written) c.in-None.is) ∙ c.written_as.ensures) (sym (ap (option_map seen_written) c.in-None-written_as.is) ∙ c.written_as-in-None.ensures) c.no_literals.ensures.answer
