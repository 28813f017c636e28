use Rattle.std.proofs.Common.{sym}
use Rattle.type_definitions.proofs.PutIn.{if_ok}
use Rattle.type_definitions.proofs.Shapes.{any_below, bound_there, bound_missing}
use Rattle.type_definitions.proofs.heads.bound.Goals as goal

pub intern-requires : goal.intern-requires
intern-requires c = any_below _

pub returns-in-Some : goal.returns-in-Some
returns-in-Some c = bound_there c.args.definitions.now c.args.terms.now c.args.at c.in-Some.bound c.requires (sym c.in-Some.ensures)

pub returns-in-None : goal.returns-in-None
returns-in-None c = if_ok c.intern.result _ _ c.intern.ensures.ok
    (λ r i. bound_missing c.args.definitions.now c.args.terms.now c.intern.new.self c.args.at r (sym c.in-None.ensures) i)
