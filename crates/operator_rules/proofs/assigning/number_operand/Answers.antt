use Rattle.abstract_tree.specs.TreeView.{plain}
use Rattle.judging.proofs.Steps.{reached_within}
use Rattle.operand_rules.specs.Families.{family_in}
use Rattle.operator_rules.proofs.RightSides.{no_number_side, number_side_given}
use Rattle.operator_rules.proofs.assigning.number_operand.Goals as goal

pub part-requires-clause-wanted : goal.part-requires-clause-wanted
part-requires-clause-wanted g c = reached_within c.args.checker.now.types c.args.kind c.requires.ready.sound.known.kept c.requires.kind

pub returns-in-Some-clause-answer : goal.returns-in-Some-clause-answer
returns-in-Some-clause-answer g c =
    number_side_given c.args.layer.now.site c.args.kind (plain c.args.a.now) c.args.scopes.now c.args.checker.now (family_in c.args.family) c.number_with.result c.number_with.ensures _ c.part.new.scopes c.part.new.checker c.part.result c.in-Some.is c.part.ensures.answer

pub returns-in-None-clause-answer : goal.returns-in-None-clause-answer
returns-in-None-clause-answer g c = no_number_side c.args.layer.now.site c.args.kind (plain c.args.a.now) c.args.scopes.now c.args.checker.now (family_in c.args.family) c.number_with.result c.number_with.ensures c.in-None.is
