use Rattle.std.proofs.Common.{◌∙◌, ap, sym, arith}
use Rattle.suspend_split.specs.Drafts.{before, begun}
use Rattle.suspend_split.proofs.Before.{before_push, begun_push}
use Rattle.suspend_split.proofs.Stacks.{popped_none}
use Rattle.suspend_split.proofs.draft.from_first.Goals as goal

pub loop-instruction-preserved : goal.loop-instruction-preserved
loop-instruction-preserved c names d =
    let new = c.pop.new.self.items in
    let old = c.loop-instruction.made in
    let x = c.in-Some.instruction in
    ap (λ is. begun is names (before new names d)) c.in_ok-push.ensures.ok ∙ begun_push old x names (before new names d)
    ∙ ap (begun old names) (sym (before_push new x names d) ∙ ap (λ is. before is names d) (sym c.in-Some.ensures.items)) ∙ c.loop-instruction.invariant names d

pub returns : goal.returns
returns c names d =
    let v = c.loop-instruction.from_end in
    let none = popped_none v.items c.pop.new.self.items v.len (let o = v.ok.0 in omega (arith, o)) c.in_default.ensures.items c.in_default.ensures.rest in
    ap (λ is. begun c.loop-instruction.made names (before is names d)) (sym none) ∙ c.loop-instruction.invariant names d
