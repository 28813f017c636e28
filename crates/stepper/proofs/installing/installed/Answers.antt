use Rattle.std.proofs.Common.{List, sym, ap, subst, ◌∙◌}
use Rattle.std.proofs.lemmas.Result.{IfOk-weaker}
use Rattle.mo_values.specs.Shapes.{Bytes}
use Rattle.arena_starts.specs.declared.starting.Started.{Started}
use Rattle.stepper.specs.declared.state.Next.{Next}
use Rattle.stepper.specs.Installing.{broken, IsInstalled}
use Rattle.stepper.proofs.installing.installed.Goals as goal

pub returns-in-Traps : goal.returns-in-Traps
returns-in-Traps c =
    let Of : Next → Started → Type 0 = λ z s. IsInstalled c.args.came c.args.program.now s z in
    IfOk-weaker c.breaks.result _ _ (λ z h. subst (Of z) (sym c.in-Traps.is) (h ∙ ap (λ (prints : List Bytes). broken c.args.came prints c.in-Traps.text) c.as_slice.ensures)) c.breaks.ensures

pub returns-in-Starts : goal.returns-in-Starts
returns-in-Starts c =
    let Of : Next → Started → Type 0 = λ z s. IsInstalled c.args.came c.args.program.now s z in
    IfOk-weaker c.begins.result _ _ (λ z h. subst (Of z) (sym c.in-Starts.is) h) c.begins.ensures
