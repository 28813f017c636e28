use Rattle.std.proofs.Common.{rules, ◌≡◌, length, map, min, subst, codes}
use Rattle.std.specs.Prelude.{slice_range}
use Rattle.std.specs.List.{flat_map}
use Rattle.marked_lines.specs.Marks.{IsMarked, cut, pad, plain}
use Rattle.marked_lines.proofs.Pieces.{put_together}
use Rattle.marked_lines.proofs.marking.marked_line.Goals as goal
use Rattle.marked_lines.proofs.marking.marked_line.Goals.{then-place-source, else-place-source}

pub returns : goal.returns
returns c =
    let m : c.if-place-source.place ≡ min c.args.place (length c.args.source.now) = elim c.if-place-source.branch [
      | then-place-source w ↦ search rules
      | else-place-source w ↦ search rules
    ] in
    subst (λ p. IsMarked c.args.source.now p c.push-3.new.self) m (record {
      first = c.first_of-first.result;
      last = c.last_of-last.result;
      from = c.from_of-from.result;
      to = c.to_of-to.result;
      is_first = c.first_of-first.ensures;
      is_last = c.last_of-last.ensures;
      is_from = c.from_of-from.ensures;
      is_to = c.to_of-to.ensures;
      is =
          put_together c.new-out.result c.put_cut.new.out c.put_plain.new.out c.put_cut-2.new.out c.push.new.self c.put_cut-3.new.out c.put_pads.new.out c.push-2.new.self c.push-3.new.self
          (cut c.first_of-first.result c.from_of-from.result (codes "...")) (map plain (slice_range c.args.source.now c.from_of-from.result c.to_of-to.result)) (cut c.to_of-to.result c.last_of-last.result (codes "..."))
          (cut c.first_of-first.result c.from_of-from.result (codes "   ")) (flat_map pad (slice_range c.args.source.now c.from_of-from.result c.if-place-source.place)) c.new-out.ensures c.in_ok-put_cut.ensures c.in_ok-put_plain.ensures
          c.in_ok-put_cut-2.ensures c.in_ok-push.ensures.ok c.in_ok-put_cut-3.ensures c.in_ok-put_pads.ensures c.in_ok-push-2.ensures.ok c.in_ok-push-3.ensures.ok;
    })
