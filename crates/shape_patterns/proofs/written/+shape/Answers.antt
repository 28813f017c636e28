use Rattle.std.proofs.Common.{◌≡◌, ◌++◌, ◌+◌, drop, sym, ap, ◌∙◌}
use Rattle.std.specs.Prelude.{slice_get}
use Rattle.std.specs.Option.{option_copied}
use Rattle.std.proofs.lemmas.List.{append-nil, drop_all}
use Rattle.mo_syntax.specs.declared.mark.Mark.TheVariants as m
use Rattle.mo_syntax.specs.declared.token.TokenKind.TheVariants as t
use Rattle.mo_syntax.specs.Writing.{separated}
use Rattle.pattern_coverage.specs.Followed.{value_head}
use Rattle.pattern_coverage.specs.Inhabited.{in_table}
use Rattle.mo_coverage.specs.Shapes.{all_known, known, knowns}
use Rattle.shape_patterns.specs.Listing.{at_type, field_at, fields_at, lead, led, parts_at}
use Rattle.shape_patterns.specs.Stands.{field_patterns}
use Rattle.shape_patterns.specs.Writes.{field_writings, pattern_writing}
use Rattle.shape_patterns.proofs.Listing.{all_led, field_step, fields_whole, part_step, parts_whole}
use Rattle.shape_patterns.proofs.written.+shape.Goals as goal

pub put_parts-loop-place-preserved : goal.put_parts-loop-place-preserved
put_parts-loop-place-preserved u c =
    let e : c.put_part.new.out ≡ (c.loop-place.out ++ lead (t.Mark m.Comma) c.loop-place.place) ++ pattern_writing (at_type (value_head c.args.types.now) (in_table c.args.table.now) (known c.index-shapes-place.result) (slice_get c.args.ids.now c.loop-place.place)) =
    c.in_ok-put_part.ensures
    ∙ ap (λ o. o ++ pattern_writing (at_type (value_head c.args.types.now) (in_table c.args.table.now) (known c.index-shapes-place.result) (option_copied c.type_at.result))) c.in_ok-put_lead.ensures
    ∙ ap (λ x. (c.loop-place.out ++ lead (t.Mark m.Comma) c.loop-place.place) ++ pattern_writing (at_type (value_head c.args.types.now) (in_table c.args.table.now) (known c.index-shapes-place.result) x)) c.type_at.ensures in
    ap (λ o. o ++ led (t.Mark m.Comma) (c.loop-place.place + 1) (parts_at (value_head c.args.types.now) (in_table c.args.table.now) (all_known (drop (c.loop-place.place + 1) c.args.shapes.now)) (c.loop-place.place + 1) c.args.ids.now)) e
    ∙ part_step (value_head c.args.types.now) (in_table c.args.table.now) c.args.shapes.now c.loop-place.place c.index-shapes-place.result c.args.ids.now c.loop-place.out c.loop-place-test.true c.index-shapes-place.is
    ∙ c.loop-place.invariant

pub put_parts-returns : goal.put_parts-returns
put_parts-returns u c =
    sym (append-nil c.loop-place.out)
    ∙ ap (λ ks. c.loop-place.out ++ led (t.Mark m.Comma) c.loop-place.place (parts_at (value_head c.args.types.now) (in_table c.args.table.now) (all_known ks) c.loop-place.place c.args.ids.now)) (sym (drop_all c.loop-place.place c.args.shapes.now c.loop-place-test.false))
    ∙ c.loop-place.invariant
    ∙ ap (λ z. c.args.out.now ++ z) (all_led (t.Mark m.Comma) (parts_at (value_head c.args.types.now) (in_table c.args.table.now) (all_known c.args.shapes.now) 0 c.args.ids.now) ∙ ap (separated (t.Mark m.Comma)) (parts_whole (value_head c.args.types.now) (in_table c.args.table.now) (all_known c.args.shapes.now) c.args.ids.now))

pub put_fields-loop-place-preserved : goal.put_fields-loop-place-preserved
put_fields-loop-place-preserved u c =
    let e : c.put_field.new.out ≡ c.loop-place.out ++ field_at (value_head c.args.types.now) (in_table c.args.table.now) (known c.index-shapes-place.result) c.args.fields.now c.loop-place.place (slice_get c.args.labels.now c.loop-place.place) =
    c.in_ok-put_field.ensures ∙ ap (λ x. c.loop-place.out ++ field_at (value_head c.args.types.now) (in_table c.args.table.now) (known c.index-shapes-place.result) c.args.fields.now c.loop-place.place x) c.label_at-label.ensures in
    ap (λ o. o ++ led (t.Mark m.Semicolon) (c.loop-place.place + 1) (fields_at (value_head c.args.types.now) (in_table c.args.table.now) (all_known (drop (c.loop-place.place + 1) c.args.shapes.now)) (c.loop-place.place + 1) c.args.labels.now c.args.fields.now)) e
    ∙ field_step (value_head c.args.types.now) (in_table c.args.table.now) c.args.shapes.now c.loop-place.place c.index-shapes-place.result c.args.labels.now c.args.fields.now c.loop-place.out c.loop-place-test.true c.index-shapes-place.is
    ∙ c.loop-place.invariant

pub put_fields-returns : goal.put_fields-returns
put_fields-returns u c =
    sym (append-nil c.loop-place.out)
    ∙ ap (λ ks. c.loop-place.out ++ led (t.Mark m.Semicolon) c.loop-place.place (fields_at (value_head c.args.types.now) (in_table c.args.table.now) (all_known ks) c.loop-place.place c.args.labels.now c.args.fields.now)) (sym (drop_all c.loop-place.place c.args.shapes.now c.loop-place-test.false))
    ∙ c.loop-place.invariant
    ∙ ap (λ z. c.args.out.now ++ z)
    (all_led (t.Mark m.Semicolon) (fields_at (value_head c.args.types.now) (in_table c.args.table.now) (all_known c.args.shapes.now) 0 c.args.labels.now c.args.fields.now)
    ∙ ap (separated (t.Mark m.Semicolon)) (fields_whole (value_head c.args.types.now) (in_table c.args.table.now) (all_known c.args.shapes.now) c.args.labels.now c.args.fields.now)
    ∙ sym (append-nil (separated (t.Mark m.Semicolon) (field_writings c.args.labels.now (field_patterns (value_head c.args.types.now) (in_table c.args.table.now) c.args.labels.now (knowns (all_known c.args.shapes.now)) c.args.fields.now)))))
