use Rattle.std.proofs.Common.{List, Option, Vec, Global, sym, subst}
use Rattle.std.proofs.lemmas.Result.{IfOk-weaker}
use Rattle.mo_types.specs.Heads.{map_option}
use Rattle.value_arena.specs.declared.node.ValueId.{ValueId}
use Rattle.arena_bodies.specs.Restarting.{AreKeptWithin}
use Rattle.arena_upgrades.specs.Restarting.{IsKeptOver, IsStartedOver}
use Rattle.arena_upgrades.proofs.restarting.kept_over.Goals as goal

pub start_over-requires-clause-kept : goal.start_over-requires-clause-kept
start_over-requires-clause-kept c =
    let Of : List (Option ValueId) → Type 0 = λ l. AreKeptWithin c.args.base.arena l in
    subst Of (sym c.as_slice.ensures.value) (rw c.in-Some.is at c.requires.kept)

pub returns-in-Some : goal.returns-in-Some
returns-in-Some c =
    IfOk-weaker c.start_over.result _ _
    (λ u h.
    let By : List (Option ValueId) → Type 0 = λ l. IsStartedOver c.args.new.now c.args.own.now c.args.turns c.args.actor.now c.args.table c.args.before c.args.base l u in
    let Of : Option (Vec (Option ValueId) Global) → Type 0 = λ o. IsKeptOver c.args.new.now c.args.own.now c.args.turns c.args.actor.now c.args.table c.args.before c.args.base (map_option (λ v. v.items) o) u in
    subst Of (sym c.in-Some.is) (subst By c.as_slice.ensures.value h))
    c.start_over.ensures

pub returns : goal.returns
returns c =
    IfOk-weaker c.incompatible.result _ _
    (λ u h.
    let Of : Option (Vec (Option ValueId) Global) → Type 0 = λ o. IsKeptOver c.args.new.now c.args.own.now c.args.turns c.args.actor.now c.args.table c.args.before c.args.base (map_option (λ v. v.items) o) u in
    subst Of (sym c.in-None.is) h)
    c.incompatible.ensures
