use Rattle.std.proofs.Common.{sym}
use Rattle.type_definitions.proofs.PutIn.{bottom_below, found, stays, goes, if_ok}
use Rattle.type_definitions.proofs.put.put_parameter.Goals as goal

pub intern-requires : goal.intern-requires
intern-requires c = bottom_below _

pub returns-in-Some : goal.returns-in-Some
returns-in-Some c = found c.args.arguments.now.parameters.now c.args.arguments.now.arguments.now c.args.arguments.now.others_stay c.args.terms.now c.args.at c.args.id c.in-Some.argument c.requires.parameter c.requires.arguments
    (sym c.in-Some.ensures)

pub returns-in-None : goal.returns-in-None
returns-in-None c = stays c.args.arguments.now.parameters.now c.args.arguments.now.arguments.now c.args.arguments.now.others_stay c.args.terms.now c.args.at c.args.id c.requires.within c.requires.parameter
    (sym c.in-None.ensures) c.if-arguments.true

pub returns-in-None-2 : goal.returns-in-None-2
returns-in-None-2 c = if_ok c.intern.result _ _ c.intern.ensures.ok
    (λ r i. goes c.args.arguments.now.parameters.now c.args.arguments.now.arguments.now c.args.arguments.now.others_stay c.args.terms.now c.intern.new.self c.args.at c.args.id r c.requires.parameter
    (sym c.in-None-2.ensures) c.if-arguments.false i)
