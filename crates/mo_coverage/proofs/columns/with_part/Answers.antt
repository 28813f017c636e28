use Rattle.std.proofs.Common.{◌≡◌, ◌≤◌, length, arith, ap, sym, ◌∙◌}
use Rattle.std.specs.Prelude.{slice_set}
use Rattle.mo_coverage.specs.Shapes.{all_known, known}
use Rattle.mo_coverage.proofs.Lists.{known_set, known_set_past}
use Rattle.mo_coverage.proofs.columns.with_part.Goals as goal
use Rattle.mo_coverage.proofs.columns.with_part.Goals.{then-place-len, else-place-len}

pub returns : goal.returns
returns c =
    elim c.if-place-len.branch [
      | then-place-len w ↦ let e : c.if-place-len.parts.items ≡ slice_set c.args.parts.items c.args.place c.args.shape = ap (λ v. v.items) w.parts-is ∙ ap (λ k. slice_set c.args.parts.items c.args.place k) w.swap.ensures.x_after in ap all_known e ∙ known_set c.args.parts.items c.args.place c.args.shape
      | else-place-len w ↦ ap (λ v. all_known v.items) w.parts-is ∙ (let l : length c.args.parts.items ≤ c.args.place = omega arith in sym (known_set_past c.args.parts.items c.args.place (known c.args.shape) l))
    ]
