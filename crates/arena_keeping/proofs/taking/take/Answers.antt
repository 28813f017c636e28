use Rattle.std.proofs.Common.{List, ap, sym, ◌∙◌}
use Rattle.typed_tree.specs.declared.program.StableVariable.{StableVariable}
use Rattle.arena_keeping.specs.Taking.{place_from}
use Rattle.arena_keeping.proofs.Found.{taken_fresh}
use Rattle.arena_keeping.proofs.taking.take.Goals as goal

pub placed-requires : goal.placed-requires
placed-requires c = ap (λ (l : List StableVariable). place_from 0 l c.args.variable.now.name) (sym c.as_slice.ensures) ∙ sym c.in-Some.ensures

pub returns-in-None : goal.returns-in-None
returns-in-None c =
    taken_fresh c.args.old.now.types c.args.new.now c.args.old.now.stable _ c.args.variable.now c.args.arena.now
    (ap (λ (l : List StableVariable). place_from 0 l c.args.variable.now.name) (sym c.as_slice.ensures) ∙ sym c.in-None.ensures)
