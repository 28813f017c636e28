use Rattle.std.proofs.Common.{◌+◌, ◌≤◌, ◌++◌, ◌∷◌, [], length, take, ap, sym, subst, ◌∙◌, arith}
use Rattle.std.proofs.lemmas.List.{append_assoc}
use Rattle.std.specs.List.{All}
use Rattle.std.specs.List.Sorted.{IsStrictlyIncreasing}
use Rattle.byte_lanes.specs.Mask.{marked_places}
use Rattle.byte_lanes.proofs.LineLemmas.{newline_more, other_more, block_more, all_taken, line_start_places-rising, line_start_places-within, length-line_start_places}
use Rattle.byte_lanes.proofs.lines.line_starts.Goals as goal
use Rattle.byte_lanes.proofs.lines.line_starts.Goals.{then-bytes-place-eq10+in_ok-push-2, else-bytes-place-eq10}

pub loop-at-preserved : goal.loop-at-preserved
loop-at-preserved c =
    let items = c.with_room.new.places.items in
    let mask = c.equal_to-newlines.result in
    let marked = marked_places 64 (c.loop-at.at + 1) mask in
    record {
      within = omega arith;
      bound = c.put_marked-count.ensures.bound;
      found =
          ap (λ l. items ++ l) c.put_marked-count.ensures.places ∙ sym (append_assoc items (take c.in_ok-count.count c.loop-at.found) marked)
          ∙ ap (λ l. l ++ marked) (c.in_ok-count.ensures.kept ∙ c.loop-at.invariant.found)
          ∙ sym (block_more c.args.bytes.now c.loop-at.at mask (omega arith) c.equal_to-newlines.ensures);
    }

pub loop-place-preserved : goal.loop-place-preserved
loop-place-preserved c =
    let bytes = c.args.bytes.now in
    let place = c.loop-place.place in
    elim c.if-bytes-place-eq10.branch [
      | then-bytes-place-eq10+in_ok-push-2 w ↦
          ap (λ v. v.items) w.places-is ∙ w.in_ok-push-2.ensures.items ∙ ap (λ l. l ++ (place + 1) ∷ []) c.loop-place.invariant
          ∙ sym (newline_more bytes place c.loop-place-test.true w.if-bytes-place-eq10.true)
      | else-bytes-place-eq10 w ↦
          ap (λ v. v.items) w.places-is ∙ c.loop-place.invariant ∙ sym (other_more bytes place c.loop-place-test.true w.if-bytes-place-eq10.false)
    ]

pub returns-clause-rising : goal.returns-clause-rising
returns-clause-rising c =
    let all = c.from_vec.ensures ∙ c.loop-place.invariant ∙ all_taken c.args.bytes.now c.loop-place.place c.loop-place-test.false in
    subst IsStrictlyIncreasing (sym all) (line_start_places-rising c.args.bytes.now)

pub returns-clause-within : goal.returns-clause-within
returns-clause-within c =
    let all = c.from_vec.ensures ∙ c.loop-place.invariant ∙ all_taken c.args.bytes.now c.loop-place.place c.loop-place-test.false in
    subst (All (λ y. y ≤ length c.args.bytes.now)) (sym all) (line_start_places-within c.args.bytes.now)

pub returns-clause-len : goal.returns-clause-len
returns-clause-len c =
    let all = c.from_vec.ensures ∙ c.loop-place.invariant ∙ all_taken c.args.bytes.now c.loop-place.place c.loop-place-test.false in
    subst (λ starts. length starts ≤ length c.args.bytes.now + 1) (sym all) (length-line_start_places c.args.bytes.now)
