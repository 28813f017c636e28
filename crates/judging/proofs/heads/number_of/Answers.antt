use Rattle.std.proofs.Common.{Option, subst, sym}
use Rattle.mo_num.specs.declared.kind.Kind.{Kind}
use Rattle.mo_types.specs.Heads.{number_of}
use Rattle.judging.specs.Heads.{HeadHas}
use Rattle.judging.proofs.NodeParts.{number_is}
use Rattle.judging.proofs.heads.number_of.Goals as goal

pub returns-in-Some : goal.returns-in-Some
returns-in-Some c =
    subst (λ (o : Option Kind). HeadHas number_of c.args.types.now c.args.id (λ later. o)) (sym c.number_at.ensures) (number_is c.args.types.now c.args.id c.in-Some.node.now c.in-Some.ensures.there)

pub returns-in-None : goal.returns-in-None
returns-in-None c = absurd (c.in-None.ensures.missing c.requires.reached)
