use Rattle.std.proofs.Common.{List, ◌++◌, refl, sym, ap₂, subst}
use Rattle.std.proofs.lemmas.Result.{IfOk-weaker}
use Rattle.play_script.specs.declared.item.Item.{Item}
use Rattle.play_script.specs.declared.item.Word.TheVariants as word
use Rattle.mo_actor.specs.Outcomes.{trap_items}
use Rattle.mo_values.specs.Shapes.{Bytes}
use Rattle.arena_saving.specs.declared.saved.Saved.{Saved}
use Rattle.arena_upgrades.specs.declared.upgraded.Upgrade.TheVariants as upgrade
use Rattle.arena_upgrades.specs.Saving.{IsBehindSaving}
use Rattle.arena_upgrades.specs.Staying.{IsStayingWith}
use Rattle.arena_upgrades.proofs.saving.behind_saving.Goals as goal

pub returns-in-Still : goal.returns-in-Still
returns-in-Still c =
    let Of : Saved → Type 0 = λ s. IsBehindSaving c.args.old.now c.args.new.now c.args.own.now c.args.turns c.args.actor.now s (upgrade.Still c.in-Still.table) in
    subst Of (sym c.in-Still.is) refl

pub returns-in-Traps : goal.returns-in-Traps
returns-in-Traps c =
    IfOk-weaker c.trapped.result _ _
    (λ u h.
    let By : List Item → Type 0 = λ l. IsStayingWith c.args.actor.now c.in-Traps.table l u in
    let Of : Saved → Type 0 = λ s. IsBehindSaving c.args.old.now c.args.new.now c.args.own.now c.args.turns c.args.actor.now s u in
    subst Of (sym c.in-Traps.is)
    (subst By (ap₂ (λ (l : List Item) (ps : List Bytes). l ++ trap_items ps (word.Text c.in-Traps.text)) c.new-before.ensures c.as_slice.ensures) h))
    c.trapped.ensures

pub returns-in-Keeps : goal.returns-in-Keeps
returns-in-Keeps c =
    IfOk-weaker c.over_kept.result _ _
    (λ u h. let Of : Saved → Type 0 = λ s. IsBehindSaving c.args.old.now c.args.new.now c.args.own.now c.args.turns c.args.actor.now s u in subst Of (sym c.in-Keeps.is) h)
    c.over_kept.ensures
