use Rattle.std.proofs.Common.{◌≡◌, ◌≤◌, ◌∙◌, ℕ, ap, List, [], map, Bool, Decides, subst, arith}
use Rattle.std.proofs.lemmas.Result.{IfOk-weaker}
use Rattle.core_ir.specs.declared.expression.CoreBody.{CoreBody}
use Rattle.core_ir.specs.declared.program.Group.{Group as GroupTree}
use Rattle.core_ir.specs.Formed.{PaidCoreGroups, counted_program, most_functions}
use Rattle.core_ir.specs.Outward.{outward_of}
use Rattle.core_measures.specs.Sizes.{size_of}
use Rattle.core_measures.specs.Within.{BodiesWithin, segments, core_group, core_program}
use Rattle.core_measures.proofs.Deciding.{decide_as, is_true}
use Rattle.core_measures.proofs.within.is_within_by.Goals as goal

pub returns : goal.returns
returns c =
    let sizes = size_of c.args.sizes.now in
    let p = core_program c.args.program.now in
    let bodies : BodiesWithin sizes p = c.in_ok-tested.ensures.within.0 (is_true c.in_ok-tested.tested.within c.if-not-tested.false) in
    let number = c.in_ok-tested.ensures.segments in
    let most = c.if-tested-gt-MOST_SEGMENTS.false in
    let few : counted_program segments p ≤ most_functions = omega (arith, number, most) in
    let needs : c.deref.result.now ≡ outward_of sizes [] p.groups =
    c.deref.ensures.value ∙ c.in_ok-needs.ensures ∙ ap (λ (gs : List (GroupTree CoreBody)). outward_of sizes [] (map core_group gs)) c.as_slice.ensures in
    IfOk-weaker c.are_paid.result _ _
    (λ (yes : Bool) h.
    let over : Decides yes (PaidCoreGroups 0 p c.deref.result.now p.groups) =
    subst (λ (gs : List (GroupTree CoreBody)). Decides yes (PaidCoreGroups 0 p c.deref.result.now (map core_group gs))) c.as_slice-2.ensures (h 0 p) in
    let paid : Decides yes (PaidCoreGroups 0 p (outward_of sizes [] p.groups) p.groups) = subst (λ (ns : List (List ℕ)). Decides yes (PaidCoreGroups 0 p ns p.groups)) needs over in
    decide_as yes paid (λ x. record { bodies = bodies; paid = x; few = few }) (λ w. w.paid))
    c.are_paid.ensures
