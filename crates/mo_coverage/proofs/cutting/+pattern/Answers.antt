use Rattle.std.proofs.Common.{◌≡◌, ◌++◌, [], ◌∷◌, IfOk, OnOk, Some, None, true, false, length, sym, ap, ◌∙◌, subst, rules}
use Rattle.mo_types.specs.declared.node.Node.TheVariants as node
use Rattle.mo_values.specs.Messages.{labels}
use Rattle.typed_tree.specs.PatternView.{pats, pattern, patterns}
use Rattle.typed_tree.specs.Patterns.{Parts, Fields}
use Rattle.typed_tree.specs.ViewLaws.{labels_of, patterns_of}
use Rattle.typed_tree.proofs.Views.{pattern_views}
use Rattle.pattern_coverage.specs.Cutting.{cut, cut_tuple, cut_parts, cut_object, cut_fields, or_else}
use Rattle.pattern_coverage.specs.Followed.{value_head}
use Rattle.pattern_coverage.specs.Inhabited.{in_table}
use Rattle.pattern_coverage.specs.Known as K
use Rattle.mo_coverage.specs.ColumnView.{columns_in}
use Rattle.mo_coverage.specs.Columns.{Took, column, cut_one, cut_typed, take_tuple, take_object, wholes, parts_cut, fields_cut}
use Rattle.mo_coverage.specs.ColumnView.{column_in}
use Rattle.mo_coverage.specs.declared.columns.Column as code
use Rattle.mo_coverage.specs.Opened.{opened_in}
use Rattle.mo_coverage.specs.Openings.{pieces_of, wrap}
use Rattle.std.specs.Prelude.{slice_get}
use Rattle.std.proofs.lemmas.List.{map-append}
use Rattle.mo_coverage.specs.Places.{seat_of}
use Rattle.mo_coverage.specs.Pieces.{pieces_in}
use Rattle.mo_coverage.specs.Shapes.{all_known, known}
use Rattle.mo_coverage.proofs.Meets.{option_meets, tag_meets}
use Rattle.mo_coverage.proofs.Objects.{object_took}
use Rattle.mo_coverage.proofs.Patterns.{of_form, next_field}
use Rattle.mo_coverage.proofs.Seats.{at_some, at_none, at_none_strict}
use Rattle.mo_coverage.proofs.ShapeViews.{unknown_view}
use Rattle.mo_coverage.proofs.Tuples.{tuple_took}
use Rattle.mo_coverage.proofs.cutting.+pattern.Goals as goal

pub cut-returns-in-Present : goal.cut-returns-in-Present
cut-returns-in-Present t c =
    subst (λ z. IfOk c.cut_opened.result (λ made. pieces_in made.items ≡ z))
    (ap (λ o. pieces_of (λ u j. cut (value_head c.args.types.now) (in_table c.args.table.now) (pattern c.in-Present.inside) u j) (wrap None) o) c.open_option-opened.ensures
    ∙ option_meets (value_head c.args.types.now) (in_table c.args.table.now) (λ u j. cut (value_head c.args.types.now) (in_table c.args.table.now) (pattern c.in-Present.inside) u j) (value_head c.args.types.now c.args.id) (known c.args.shape)
    ∙ ap (λ q. cut (value_head c.args.types.now) (in_table c.args.table.now) q c.args.id (known c.args.shape)) (sym (of_form c.args.typed.now _ (sym c.get.ensures ∙ c.in-Present.is) ∙ pattern_views.present c.in-Present.inside)))
    c.cut_opened.ensures

pub cut-returns-in_ok-from_slice-in-Tagged : goal.cut-returns-in_ok-from_slice-in-Tagged
cut-returns-in_ok-from_slice-in-Tagged t c =
    let l : c.in_ok-from_slice-in-Tagged.field-0 ≡ c.in-Tagged.label = c.in_ok-from_slice-in-Tagged.ensures ∙ c.as_slice.ensures in
    subst (λ z. IfOk c.cut_opened-in-Tagged.result (λ made. pieces_in made.items ≡ z))
    (ap (λ m. pieces_of (λ u j. cut (value_head c.args.types.now) (in_table c.args.table.now) (pattern c.in-Tagged.payload) u j) (wrap (Some m)) (opened_in c.in_ok-opened-in-Tagged.opened)) l
    ∙ ap (λ o. pieces_of (λ u j. cut (value_head c.args.types.now) (in_table c.args.table.now) (pattern c.in-Tagged.payload) u j) (wrap (Some c.in-Tagged.label)) o) c.in_ok-opened-in-Tagged.ensures
    ∙ tag_meets (value_head c.args.types.now) (in_table c.args.table.now) (λ u j. cut (value_head c.args.types.now) (in_table c.args.table.now) (pattern c.in-Tagged.payload) u j) c.in-Tagged.label (value_head c.args.types.now c.args.id) (known c.args.shape)
    ∙ ap (λ q. cut (value_head c.args.types.now) (in_table c.args.table.now) q c.args.id (known c.args.shape)) (sym (of_form c.args.typed.now _ (sym c.get.ensures ∙ c.in-Tagged.is) ∙ pattern_views.tagged c.in-Tagged.label c.in-Tagged.payload)))
    c.cut_opened-in-Tagged.ensures

pub cut-returns-in-Parts : goal.cut-returns-in-Parts
cut-returns-in-Parts t c =
    subst (λ q. IfOk c.cut_tuple.result (λ made. pieces_in made.items ≡ cut (value_head c.args.types.now) (in_table c.args.table.now) q c.args.id (known c.args.shape)))
    (ap (λ qs. Parts (patterns qs)) c.as_slice-in-Parts.ensures ∙ sym (of_form c.args.typed.now _ (sym c.get.ensures ∙ c.in-Parts.is) ∙ pattern_views.parts c.in-Parts.parts))
    c.cut_tuple.ensures

pub cut-returns-in-Fields : goal.cut-returns-in-Fields
cut-returns-in-Fields t c =
    subst (λ q. IfOk c.cut_object.result (λ made. pieces_in made.items ≡ cut (value_head c.args.types.now) (in_table c.args.table.now) q c.args.id (known c.args.shape)))
    (ap (λ qs. Fields (labels_of qs) (pats (patterns_of qs))) c.as_slice-in-Fields.ensures ∙ sym (of_form c.args.typed.now _ (sym c.get.ensures ∙ c.in-Fields.is) ∙ pattern_views.fields c.in-Fields.fields))
    c.cut_object.ensures

pub cut-returns-in_ok-pieces-in-Either : goal.cut-returns-in_ok-pieces-in-Either
cut-returns-in_ok-pieces-in-Either t c =
    subst (λ z. IfOk c.cut_others.result (λ made. pieces_in made.items ≡ z))
    (ap (λ cs. or_else cs (λ j. cut (value_head c.args.types.now) (in_table c.args.table.now) (pattern c.in-Either.second) c.args.id j)) c.in_ok-pieces-in-Either.ensures
    ∙ ap (λ q. cut (value_head c.args.types.now) (in_table c.args.table.now) q c.args.id (known c.args.shape)) (sym (of_form c.args.typed.now _ (sym c.get.ensures ∙ c.in-Either.is) ∙ pattern_views.either c.in-Either.first c.in-Either.second)))
    c.cut_others.ensures

pub cut_fields-loop-part-preserved : goal.cut_fields-loop-part-preserved
cut_fields-loop-part-preserved t c =
    next_field (value_head c.args.types.now) (in_table c.args.table.now) c.args.parts.now c.loop-part.part-index c.part-item.result c.args.fields.now (columns_in c.loop-part.columns.items) _ c.loop-part-test.true c.part-item.is
    (c.in_ok-columns.ensures ∙ ap (λ s. cut_typed (λ u j. cut (value_head c.args.types.now) (in_table c.args.table.now) (pattern c.part-item.result.pattern) u j) false s (columns_in c.loop-part.columns.items)) (c.seat_of-seat.ensures ∙ ap (λ l. seat_of l c.args.fields.now) c.as_slice.ensures))
    ∙ c.loop-part.invariant

pub cut_object-returns-in_ok-columns-in-Parts-2 : goal.cut_object-returns-in_ok-columns-in-Parts-2
cut_object-returns-in_ok-columns-in-Parts-2 t c =
    let h : node.Object c.in-Some-Object.fields ≡ value_head c.args.types.now c.args.id = search rules in
    let k : Took (all_known c.in-Parts.known.items) ≡ take_object (length c.in-Some-Object.fields) (known c.args.shape) = search rules in
    subst (λ z. IfOk c.objects.result (λ made. pieces_in made.items ≡ z))
    (ap (λ fs. wholes (K.Fields (labels fs)) (columns_in c.in_ok-columns-in-Parts-2.columns.items)) c.as_slice-in-Parts.ensures
    ∙ ap (wholes (K.Fields (labels c.in-Some-Object.fields)))
    (c.in_ok-columns-in-Parts-2.ensures ∙ ap (λ fs. fields_cut (value_head c.args.types.now) (in_table c.args.table.now) (labels_of c.args.parts.now) (pats (patterns_of c.args.parts.now)) fs (columns_in c.in_ok-columns-in-Parts.columns.items)) c.as_slice.ensures
    ∙ ap (λ ss. fields_cut (value_head c.args.types.now) (in_table c.args.table.now) (labels_of c.args.parts.now) (pats (patterns_of c.args.parts.now)) c.in-Some-Object.fields ss) c.in_ok-columns-in-Parts.ensures)
    ∙ object_took (value_head c.args.types.now) (in_table c.args.table.now) (labels_of c.args.parts.now) (pats (patterns_of c.args.parts.now)) c.in-Some-Object.fields (known c.args.shape) (all_known c.in-Parts.known.items) k
    ∙ ap (λ x. cut_object (λ fs ks. cut_fields (value_head c.args.types.now) (in_table c.args.table.now) (labels_of c.args.parts.now) (pats (patterns_of c.args.parts.now)) fs ks) x (known c.args.shape)) h)
    c.objects.ensures

pub cut_tuple-returns-in_ok-columns-in-Parts-2 : goal.cut_tuple-returns-in_ok-columns-in-Parts-2
cut_tuple-returns-in_ok-columns-in-Parts-2 t c =
    let h : node.Tuple c.in-Some-Tuple.ids ≡ value_head c.args.types.now c.args.id = search rules in
    let k : Took (all_known c.in-Parts.known.items) ≡ take_tuple (length c.in-Some-Tuple.ids) (known c.args.shape) = search rules in
    subst (λ z. IfOk c.tuples.result (λ made. pieces_in made.items ≡ z))
    (ap (wholes K.Parts)
    (c.in_ok-columns-in-Parts-2.ensures ∙ ap (λ ts. parts_cut (value_head c.args.types.now) (in_table c.args.table.now) (patterns c.args.parts.now) 0 ts (columns_in c.in_ok-columns-in-Parts.columns.items)) c.as_slice.ensures
    ∙ ap (λ ss. parts_cut (value_head c.args.types.now) (in_table c.args.table.now) (patterns c.args.parts.now) 0 c.in-Some-Tuple.ids ss) c.in_ok-columns-in-Parts.ensures)
    ∙ tuple_took (value_head c.args.types.now) (in_table c.args.table.now) (patterns c.args.parts.now) c.in-Some-Tuple.ids (known c.args.shape) (all_known c.in-Parts.known.items) k
    ∙ ap (λ x. cut_tuple (λ ts ks. cut_parts (value_head c.args.types.now) (in_table c.args.table.now) (patterns c.args.parts.now) ts ks) x (known c.args.shape)) h)
    c.tuples.ensures

pub cut_one-returns-then-strict : goal.cut_one-returns-then-strict
cut_one-returns-then-strict t c =
    let m : true ≡ c.args.column.matched = search rules in
    let s : true ≡ c.args.strict = search rules in
    let g : None ≡ slice_get (all_known c.args.column.parts.items) c.args.place = search rules in
    let x : code.Column = record { matched = false; parts = c.take_part.new.parts } in
    let e : c.push-then-strict.new.self.items ≡ c.args.columns.now.items ++ x ∷ [] = search rules in
    ap columns_in e ∙ map-append column_in c.args.columns.now.items (x ∷ [])
    ∙ ap (λ z. columns_in c.args.columns.now.items ++ z)
    (at_none_strict (λ j. cut (value_head c.args.types.now) (in_table c.args.table.now) (pattern c.args.typed.now) c.args.id j) c.args.place (all_known c.args.column.parts.items) (all_known c.take_part.new.parts.items) g c.take_part.ensures.left
    ∙ ap (λ b. cut_one (λ j. cut (value_head c.args.types.now) (in_table c.args.table.now) (pattern c.args.typed.now) c.args.id j) b c.args.place (column true (all_known c.args.column.parts.items))) s
    ∙ ap (λ b. cut_one (λ j. cut (value_head c.args.types.now) (in_table c.args.table.now) (pattern c.args.typed.now) c.args.id j) c.args.strict c.args.place (column b (all_known c.args.column.parts.items))) m)

pub cut_one-returns-in_ok-pieces-in-Some : goal.cut_one-returns-in_ok-pieces-in-Some
cut_one-returns-in_ok-pieces-in-Some t c =
    let m : true ≡ c.args.column.matched = search rules in
    subst (λ z. OnOk c.add_spread.result (columns_in c.add_spread.new.columns.items ≡ columns_in c.args.columns.now.items ++ z))
    (at_some (λ j. cut (value_head c.args.types.now) (in_table c.args.table.now) (pattern c.args.typed.now) c.args.id j) c.args.strict c.args.place (all_known c.args.column.parts.items) _ (known c.in-Some.shape) _
    (let g : Some (known c.in-Some.shape) ≡ slice_get (all_known c.args.column.parts.items) c.args.place = search rules in g) c.take_part.ensures.left c.in_ok-pieces-in-Some.ensures
    ∙ ap (λ b. cut_one (λ j. cut (value_head c.args.types.now) (in_table c.args.table.now) (pattern c.args.typed.now) c.args.id j) c.args.strict c.args.place (column b (all_known c.args.column.parts.items))) m)
    c.add_spread.ensures

pub cut_one-returns-in_ok-pieces-in-None : goal.cut_one-returns-in_ok-pieces-in-None
cut_one-returns-in_ok-pieces-in-None t c =
    let m : true ≡ c.args.column.matched = search rules in
    let s : false ≡ c.args.strict = search rules in
    let g : None ≡ slice_get (all_known c.args.column.parts.items) c.args.place = search rules in
    subst (λ z. OnOk c.add_spread-in-None.result (columns_in c.add_spread-in-None.new.columns.items ≡ columns_in c.args.columns.now.items ++ z))
    (at_none (λ j. cut (value_head c.args.types.now) (in_table c.args.table.now) (pattern c.args.typed.now) c.args.id j) c.args.place (all_known c.args.column.parts.items) _ _ g c.take_part.ensures.left (c.in_ok-pieces-in-None.ensures ∙ ap (λ j. cut (value_head c.args.types.now) (in_table c.args.table.now) (pattern c.args.typed.now) c.args.id j) unknown_view)
    ∙ ap (λ b. cut_one (λ j. cut (value_head c.args.types.now) (in_table c.args.table.now) (pattern c.args.typed.now) c.args.id j) b c.args.place (column true (all_known c.args.column.parts.items))) s
    ∙ ap (λ b. cut_one (λ j. cut (value_head c.args.types.now) (in_table c.args.table.now) (pattern c.args.typed.now) c.args.id j) c.args.strict c.args.place (column b (all_known c.args.column.parts.items))) m)
    c.add_spread-in-None.ensures
