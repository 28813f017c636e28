use Rattle.std.proofs.Common.{◌≤◌, ◌≢◌, length, subst, sym, arith}
use Rattle.candid_write.specs.Rounds.{Refines}
use Rattle.candid_write.proofs.ClassLemmas.{begun, again, rises, bounded, settles}
use Rattle.candid_write.proofs.classes.classes_of.Goals as goal

pub loop-classes-init : goal.loop-classes-init
loop-classes-init c = begun c.args.shapes.now c.requires c.in_ok-classes.classes.items c.len.result c.in_ok-classes.ensures c.len.ensures

pub returns-then-more-count : goal.returns-then-more-count
returns-then-more-count c =
    settles c.args.shapes.now c.requires c.loop-classes.classes.items c.in_ok-next.next.items c.loop-classes.count c.in_ok-next.more c.loop-classes.invariant (subst (λ l. Refines c.args.shapes.now l c.in_ok-next.next.items) c.as_slice.ensures.value c.in_ok-next.ensures.classes) c.in_ok-next.ensures.count
    (sym c.if-more-count.true)

pub loop-classes-smaller : goal.loop-classes-smaller
loop-classes-smaller c =
    let f = subst (λ l. Refines c.args.shapes.now l c.in_ok-next.next.items) c.as_slice.ensures.value c.in_ok-next.ensures.classes in
    let r : c.loop-classes.count ≤ c.in_ok-next.more = rises c.args.shapes.now c.requires c.loop-classes.classes.items c.in_ok-next.next.items c.loop-classes.count c.in_ok-next.more c.loop-classes.invariant f c.in_ok-next.ensures.count in
    let b : c.in_ok-next.more ≤ length c.args.shapes.now = bounded c.args.shapes.now c.requires c.loop-classes.classes.items c.in_ok-next.next.items c.loop-classes.count c.in_ok-next.more c.loop-classes.invariant f c.in_ok-next.ensures.count in
    let n : c.in_ok-next.more ≢ c.loop-classes.count = c.if-more-count.false in
    omega (arith, r, b, n)

pub loop-classes-preserved : goal.loop-classes-preserved
loop-classes-preserved c =
    again c.args.shapes.now c.requires c.loop-classes.classes.items c.in_ok-next.next.items c.loop-classes.count c.in_ok-next.more c.loop-classes.invariant (subst (λ l. Refines c.args.shapes.now l c.in_ok-next.next.items) c.as_slice.ensures.value c.in_ok-next.ensures.classes) c.in_ok-next.ensures.count
