use Rattle.std.proofs.Common.{◌≡◌, inl, inr, length, map, Some, true, false, ap, ◌∙◌, subst, rules}
use Rattle.std.specs.Prelude.{slice_get}
use Rattle.std.proofs.Math.ListN.{replicate}
use Rattle.typed_tree.specs.PatternView.{pattern}
use Rattle.mo_coverage.specs.Easy.{IsEasyUnder}
use Rattle.mo_coverage.proofs.Marked.{none_marked, at_index}
use Rattle.mo_coverage.proofs.marks.all_marks.Goals as goal

pub loop-typed-init : goal.loop-typed-init
loop-typed-init c = λ i f g m.
    let e : c.in_ok-marks.marks.items ≡ replicate (length c.args.tags.now) false = search rules in
    absurd (none_marked (length c.args.tags.now) i (subst (λ xs. slice_get xs i ≡ Some true) e m))

pub loop-typed-preserved : goal.loop-typed-preserved
loop-typed-preserved c = λ i f g m.
    elim (c.mark.ensures i f g m) as (λ _. IsEasyUnder (map (λ p. pattern p.now) c.args.patterns.now) f.label) [
      | inl h ↦ c.loop-typed.invariant i f g h
      | inr h ↦ (c.loop-typed.typed-index, h.0, at_index (λ p. pattern p.now) c.args.patterns.now c.loop-typed.typed-index c.typed-item.result c.loop-typed-test.true c.typed-item.is ∙ ap Some h.1, h.2)
    ]
