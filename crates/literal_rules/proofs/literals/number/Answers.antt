use mir.Syntax.{w128}
use mir.Val.{SFits}
use Rattle.std.proofs.lemmas.Int.{to_z-of_z}
use Rattle.judging.proofs.Steps.{plain_number}
use Rattle.literal_rules.proofs.ByWanted.{number_fits, number_fits_not, number_has, number_has_not}
use Rattle.literal_rules.proofs.literals.number.Goals as goal

pub returns-then-in_range : goal.returns-then-in_range
returns-then-in_range c = λ s q f e.
    let n : SFits w128 c.args.number = c.ranges.number in
    number_fits c.args.site.now c.args.kind c.args.number f s c.args.checker.now c.wanted_number.result c.wanted_number.ensures.is c.in-Some.wanted c.in-Some.of c.in_range.result c.args.checker.now c.gives.result c.in-Some.is
    (simp to_z-of_z at c.in_range.ensures) c.if-in_range.true (c.gives.ensures s q f e)

pub returns-else-in_range : goal.returns-else-in_range
returns-else-in_range c = λ s q f e.
    let n : SFits w128 c.args.number = c.ranges.number in
    number_fits_not c.args.site.now c.args.kind c.args.number f s c.args.checker.now c.wanted_number.result c.wanted_number.ensures.is c.in-Some.wanted c.in-Some.of c.in_range.result c.in-Some.is (simp to_z-of_z at c.in_range.ensures)
    c.if-in_range.false

pub has_plain-requires-clause-plain : goal.has_plain-requires-clause-plain
has_plain-requires-clause-plain c = plain_number c.args.kind

pub returns-then-in_range-2 : goal.returns-then-in_range-2
returns-then-in_range-2 c = λ s q f e.
    let n : SFits w128 c.args.number = c.ranges.number in
    number_has c.args.site.now c.args.kind c.args.number f s c.args.checker.now c.wanted_number.result c.wanted_number.ensures.is c.in_range-in-None.result c.has_plain.new.checker c.has_plain.result c.in-None.is
    (simp to_z-of_z at c.in_range-in-None.ensures) c.if-in_range-2.true (c.has_plain.ensures s q f e)

pub returns-else-in_range-2 : goal.returns-else-in_range-2
returns-else-in_range-2 c = λ s q f e.
    let n : SFits w128 c.args.number = c.ranges.number in
    number_has_not c.args.site.now c.args.kind c.args.number f s c.args.checker.now c.wanted_number.result c.wanted_number.ensures.is c.in_range-in-None.result c.in-None.is (simp to_z-of_z at c.in_range-in-None.ensures)
    c.if-in_range-2.false
