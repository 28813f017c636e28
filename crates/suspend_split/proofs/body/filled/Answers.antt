use Rattle.std.proofs.Common.{◌∙◌, ◌++◌, ap, sym, map, reverse, arith}
use Rattle.core_ir.specs.CodeView.{code_of}
use Rattle.core_laws.specs.Split.{code_or_stop}
use Rattle.suspend_split.specs.Drafts.{segment_code}
use Rattle.suspend_split.proofs.Bodies.{filled_more}
use Rattle.suspend_split.proofs.Stacks.{popped_none}
use Rattle.suspend_split.proofs.body.filled.Goals as goal

pub loop-segment-preserved : goal.loop-segment-preserved
loop-segment-preserved c names =
    let made = c.loop-segment.made.items in
    let rest = c.pop.new.self.items in
    ap (λ xs. map code_or_stop (map (segment_code names) rest) ++ map (λ c. code_of c names) (reverse xs)) c.in_ok-push.ensures.items
    ∙ filled_more names rest c.in-Some.segment made c.code_or_nothing.result (c.code_or_nothing.ensures names)
    ∙ ap (λ xs. map code_or_stop (map (segment_code names) xs) ++ map (λ c. code_of c names) (reverse made)) (sym c.in-Some.ensures.items) ∙ c.loop-segment.invariant names

pub returns : goal.returns
returns c names =
    let v = c.loop-segment.rest in
    let made = c.loop-segment.made.items in
    let none = popped_none v.items c.pop.new.self.items v.len (let o = v.ok.0 in omega (arith, o)) c.in_default.ensures.items c.in_default.ensures.rest in
    ap (map (λ c. code_of c names)) (c.from_vec.ensures ∙ c.reverse.ensures.items) ∙ ap (λ xs. map code_or_stop (map (segment_code names) xs) ++ map (λ c. code_of c names) (reverse made)) (sym none) ∙ c.loop-segment.invariant names
