use Rattle.std.proofs.Common.{refl, sym, subst}
use Rattle.arena_outcomes.specs.declared.ran.Lived.{Lived}
use Rattle.stepper.specs.declared.state.Next.TheVariants as next
use Rattle.stepper.specs.declared.state.Running.{Running}
use Rattle.stepper.specs.declared.state.State.TheVariants as state
use Rattle.stepper.specs.Living.{IsNextOf}
use Rattle.stepper.proofs.living.next_of.Goals as goal

pub returns-in-Over : goal.returns-in-Over
returns-in-Over c =
    let o = c.in-Over.over in
    let r : Running = record { program = c.args.program; actor = o.actor } in
    let Of : Lived → Type 0 = λ l. IsNextOf c.args.program.now l (next.Behind (record { items = o.items; state = state.Running r })) in
    subst Of (sym c.in-Over.is) (r, refl, refl, refl)
