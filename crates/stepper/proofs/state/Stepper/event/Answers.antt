use Rattle.std.proofs.Common.{List, [], ◌∷◌, ◌++◌, ap, ◌∙◌}
use Rattle.play_script.specs.declared.item.Item.{Item}
use Rattle.play_script.specs.declared.item.Item.TheVariants as item
use Rattle.stepper.proofs.Steps.{behind_step, ignored_step, no_step, still_step}
use Rattle.stepper.proofs.state.Stepper.event.Goals as goal

pub returns-in-Still-clause-step : goal.returns-in-Still-clause-step
returns-in-Still-clause-step c = still_step c.args.event.now c.args.turns c.args.self.now c.requires.sound (rw c.in-Still.is at c.in_ok-next.ensures)

pub returns-in-NoCourse-clause-step : goal.returns-in-NoCourse-clause-step
returns-in-NoCourse-clause-step c = no_step c.args.event.now c.args.turns c.args.self.now c.requires.sound (rw c.in-NoCourse.is at c.in_ok-next.ensures)

pub returns-in_ok-items-in-Ignored-clause-step : goal.returns-in_ok-items-in-Ignored-clause-step
returns-in_ok-items-in-Ignored-clause-step c =
    ignored_step c.args.event.now c.args.turns c.args.self.now c.requires.sound c.in_ok-items-in-Ignored.items
    (c.in_ok-items-in-Ignored.ensures ∙ ap (λ (l : List Item). l ++ item.Ignored ∷ []) c.new.ensures) (rw c.in-Ignored.is at c.in_ok-next.ensures)

pub returns-in-Behind-clause-step : goal.returns-in-Behind-clause-step
returns-in-Behind-clause-step c = behind_step c.args.event.now c.args.turns c.args.self.now c.requires.sound c.in-Behind.behind (rw c.in-Behind.is at c.in_ok-next.ensures)
