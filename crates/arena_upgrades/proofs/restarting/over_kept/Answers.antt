use Rattle.std.proofs.Common.{List, ◌++◌, map, ap, ◌∙◌, subst}
use Rattle.std.proofs.lemmas.Result.{IfOk-weaker}
use Rattle.play_script.specs.declared.item.Item.{Item}
use Rattle.play_script.specs.declared.item.Item.TheVariants as item
use Rattle.mo_types.specs.Heads.{map_option}
use Rattle.mo_types.specs.declared.datum.Datum.{Datum}
use Rattle.mo_values.specs.Shapes.{Bytes}
use Rattle.arena_keeping.specs.Keeping.{AreTakenOver}
use Rattle.arena_upgrades.specs.Restarting.{IsKeptOver}
use Rattle.arena_upgrades.proofs.Overs.{over_so}
use Rattle.arena_upgrades.proofs.restarting.over_kept.Goals as goal

pub kept_over-requires-clause-kept : goal.kept_over-requires-clause-kept
kept_over-requires-clause-kept c = c.in_ok-kept.ensures.within

pub returns : goal.returns
returns c =
    let k = c.args.keeping in
    let g = c.in_ok-base.base in
    let ns = c.keep_values.new.arena in
    let kept = map_option (λ v. v.items) c.in_ok-kept.kept in
    IfOk-weaker c.kept_over.result _ _
    (λ u h.
    let Of : List (List Datum) → Type 0 = λ l. AreTakenOver g.arena c.args.old.now c.args.new.now l kept ns in
    let At : List Item → Type 0 = λ l. IsKeptOver c.args.new.now c.args.own.now c.args.turns c.args.actor.now k.table l (record g { arena = ns }) kept u in
    over_so c.args.old.now c.args.new.now c.args.own.now c.args.turns c.args.actor.now k g c.in_ok-base.ensures ns kept u
    (subst Of (ap (λ ps. map (λ p. p.items) ps) c.as_slice-2.ensures.value) c.in_ok-kept.ensures)
    (subst At (c.in_ok-before.ensures ∙ ap (λ (l : List Item). l ++ map item.Print c.as_slice.result.now) c.new.ensures ∙ ap (λ (ps : List Bytes). map item.Print ps) c.as_slice.ensures) h))
    c.kept_over.ensures
