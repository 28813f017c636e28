use Rattle.std.proofs.Common.{◌∙◌, ap, length, sym}
use Rattle.type_definitions.specs.Definitions.{Listed, bound_of}
use Rattle.type_definitions.proofs.Shapes.{any_below}
use Rattle.instance_rules.proofs.Bounding.{any_bound, written_bound}
use Rattle.instance_rules.proofs.bounds.bound_of.Goals as goal

pub returns-in-Some : goal.returns-in-Some
returns-in-Some c = written_bound c.args.types.now c.args.parameter c.in-Some.bound c.requires (ap (λ (d : Listed). bound_of d c.args.parameter) (sym c.definitions.ensures) ∙ sym c.in-Some.ensures)

pub intern-requires-clause-below : goal.intern-requires-clause-below
intern-requires-clause-below c = any_below (length c.args.types.now.forms)

pub returns-in-None : goal.returns-in-None
returns-in-None c =
    any_bound c.args.types.now c.intern.new.self c.args.parameter c.intern.result (ap (λ (d : Listed). bound_of d c.args.parameter) (sym c.definitions.ensures) ∙ sym c.in-None.ensures) c.intern.ensures.kept c.intern.ensures.goes
    c.intern.ensures.stands c.intern.ensures.made
