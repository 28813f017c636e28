use Rattle.std.proofs.Common.{◌≡◌, ◌&&◌, ◌∙◌, ap, List, map, Decides, subst, arith}
use Rattle.std.proofs.lemmas.Result.{IfOk-weaker}
use Rattle.core_ir.specs.declared.expression.CoreBody.{CoreBody}
use Rattle.core_ir.specs.declared.program.Group.{Group as GroupTree}
use Rattle.core_ir.specs.declared.program.Method.{Method as MethodTree}
use Rattle.core_ir.specs.Expressions.{Body}
use Rattle.core_ir.specs.Formed.{counted, counted_groups}
use Rattle.core_ir.specs.Programs.{Method}
use Rattle.core_ir.specs.View.{core_body}
use Rattle.core_measures.specs.declared.within.Tested.{Tested}
use Rattle.core_measures.specs.Sizes.{size_of}
use Rattle.core_measures.specs.Within.{WithinOuter, GroupsWithin, MethodsWithin, segments, core_group, core_method}
use Rattle.core_measures.proofs.Deciding.{both_decide, decide_as, decide_is}
use Rattle.core_measures.proofs.within.program_tested.Goals as goal

pub returns-clause-within : goal.returns-clause-within
returns-clause-within c =
    let sizes = size_of c.args.sizes.now in
    let p = c.args.program.now in
    let g : Decides c.in_ok-groups.groups.within (GroupsWithin sizes (map core_group p.groups)) =
    subst (λ (gs : List (GroupTree CoreBody)). Decides c.in_ok-groups.groups.within (GroupsWithin sizes (map core_group gs))) c.as_slice.ensures c.in_ok-groups.ensures.within in
    let m : Decides c.in_ok-methods.methods.within (MethodsWithin sizes (map core_method p.methods)) =
    subst (λ (ms : List (MethodTree CoreBody)). Decides c.in_ok-methods.methods.within (MethodsWithin sizes (map core_method ms))) c.as_slice-2.ensures c.in_ok-methods.ensures.within in
    let single : Decides c.in_ok-single.single.within (WithinOuter sizes (core_body p.save) × WithinOuter sizes (core_body p.start)) =
    decide_is _ _ c.in_ok-single.ensures.within (both_decide c.in_ok-save.save.within c.in_ok-start.start.within c.in_ok-save.ensures.within c.in_ok-start.ensures.within) in
    let outer : Decides c.in_ok-outer.outer.within (MethodsWithin sizes (map core_method p.methods) × (WithinOuter sizes (core_body p.save) × WithinOuter sizes (core_body p.start))) =
    decide_is _ _ c.in_ok-outer.ensures.within (both_decide c.in_ok-methods.methods.within c.in_ok-single.single.within m single) in
    IfOk-weaker c.both-3.result _ _
    (λ (t : Tested) h.
    decide_as t.within (decide_is t.within (c.in_ok-groups.groups.within && c.in_ok-outer.outer.within) h (both_decide c.in_ok-groups.groups.within c.in_ok-outer.outer.within g outer))
    (λ x. record { groups = x.0; methods = x.1.0; save = x.1.1.0; start = x.1.1.1 }) (λ b. (b.groups, (b.methods, (b.save, b.start)))))
    c.both-3.ensures.within

pub returns-clause-segments : goal.returns-clause-segments
returns-clause-segments c =
    let p = c.args.program.now in
    let g : c.in_ok-groups.groups.segments ≡ counted_groups segments (map core_group p.groups) =
    c.in_ok-groups.ensures.segments ∙ ap (λ (gs : List (GroupTree CoreBody)). counted_groups segments (map core_group gs)) c.as_slice.ensures in
    let m : c.in_ok-methods.methods.segments ≡ counted segments (map (λ (m : Method Body). m.body) (map core_method p.methods)) =
    c.in_ok-methods.ensures.segments ∙ ap (λ (ms : List (MethodTree CoreBody)). counted segments (map (λ (m : Method Body). m.body) (map core_method ms))) c.as_slice-2.ensures in
    let a = c.in_ok-save.ensures.segments in
    let b = c.in_ok-start.ensures.segments in
    let single = c.in_ok-single.ensures.segments in
    let outer = c.in_ok-outer.ensures.segments in
    IfOk-weaker c.both-3.result _ _ (λ (t : Tested) h. omega (arith, h, g, m, a, b, single, outer)) c.both-3.ensures.segments
