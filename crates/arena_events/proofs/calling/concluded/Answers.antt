use Rattle.std.proofs.Common.{ℕ, List, Bool, refl, sym, ap, subst, ◌∙◌}
use Rattle.mo_values.specs.Shapes.{Bytes}
use Rattle.arena_outcomes.specs.declared.ran.Lived.TheVariants as lived
use Rattle.arena_outcomes.specs.declared.ran.Ran.{Ran}
use Rattle.arena_outcomes.specs.Books.{completed}
use Rattle.arena_events.specs.Calling.{IsCompletedBy, IsTold, IsTrapped}
use Rattle.arena_events.proofs.calling.concluded.Goals as goal

pub returns-in_ok-trapped-in-Traps : goal.returns-in_ok-trapped-in-Traps
returns-in_ok-trapped-in-Traps c =
    let x = c.args.actor.now in
    let o = c.in_ok-trapped-in-Traps.field-0 in
    let Of : Ran → Type 0 = λ r. IsTold x c.args.query r (lived.Over o) in
    let By : List Bytes → Type 0 = λ prints. IsTrapped x c.in-Traps.table.items prints c.in-Traps.text o in
    subst Of (sym c.in-Traps.is) (o, refl, subst By c.as_slice.ensures c.in_ok-trapped-in-Traps.ensures)

pub returns-in_ok-queried-in-Completes : goal.returns-in_ok-queried-in-Completes
returns-in_ok-queried-in-Completes c =
    let x = c.args.actor.now in
    let o = c.in_ok-queried-in-Completes.field-0 in
    let Of : Ran → Type 0 = λ r. IsTold x c.args.query r (lived.Over o) in
    let By : Bool → Type 0 = λ q. IsCompletedBy q x c.in-Completes.done o in
    subst Of (sym c.in-Completes.is) (o, refl, subst By (sym c.if-query.true) c.in_ok-queried-in-Completes.ensures)

pub returns-in_ok-completed-in-Completes : goal.returns-in_ok-completed-in-Completes
returns-in_ok-completed-in-Completes c =
    let x = c.args.actor.now in
    let o = c.in_ok-completed-in-Completes.field-0 in
    let Of : Ran → Type 0 = λ r. IsTold x c.args.query r (lived.Over o) in
    let By : Bool → Type 0 = λ q. IsCompletedBy q x c.in-Completes.done o in
    subst Of (sym c.in-Completes.is)
    (o, refl, subst By (sym c.if-query.false) (c.in_ok-completed-in-Completes.ensures ∙ ap (λ (n : ℕ). completed n c.in-Completes.done) c.len-owner.ensures))
