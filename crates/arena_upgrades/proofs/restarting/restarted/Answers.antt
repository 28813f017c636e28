use Rattle.std.proofs.Common.{List, ◌++◌, refl, sym, subst}
use Rattle.std.proofs.lemmas.Result.{IfOk-weaker}
use Rattle.play_script.specs.declared.item.Word.TheVariants as word
use Rattle.mo_actor.specs.Outcomes.{trap_items}
use Rattle.mo_values.specs.Shapes.{Bytes}
use Rattle.arena_starts.specs.declared.starting.Started.{Started}
use Rattle.arena_upgrades.specs.declared.upgraded.Upgrade.TheVariants as upgrade
use Rattle.arena_upgrades.specs.Restarting.{IsRestartedAs}
use Rattle.arena_upgrades.specs.Staying.{IsStayingWith}
use Rattle.arena_upgrades.proofs.restarting.restarted.Goals as goal

pub returns-in-Still : goal.returns-in-Still
returns-in-Still c =
    let Of : Started → Type 0 = λ s. IsRestartedAs c.args.actor.now c.args.before s c.args.first c.args.came (upgrade.Still c.in-Still.table) in
    subst Of (sym c.in-Still.is) refl

pub returns-in-Traps : goal.returns-in-Traps
returns-in-Traps c =
    IfOk-weaker c.trapped.result _ _
    (λ u h.
    let By : List Bytes → Type 0 = λ ps. IsStayingWith c.args.actor.now c.in-Traps.table (c.args.before ++ trap_items ps (word.Text c.in-Traps.text)) u in
    let Of : Started → Type 0 = λ s. IsRestartedAs c.args.actor.now c.args.before s c.args.first c.args.came u in
    subst Of (sym c.in-Traps.is) (subst By c.as_slice.ensures h))
    c.trapped.ensures

pub returns : goal.returns
returns c =
    IfOk-weaker c.begun.result _ _
    (λ u h. let Of : Started → Type 0 = λ s. IsRestartedAs c.args.actor.now c.args.before s c.args.first c.args.came u in subst Of (sym c.in-Starts.is) h)
    c.begun.ensures
