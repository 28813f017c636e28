use Rattle.std.proofs.Common.{◌≡◌, ◌++◌, drop, length}
use Rattle.std.specs.Vec.Iter.{into_iter_items, into_iter_len}
use Rattle.typed_tree.specs.PatternView.{pats, pattern, patterns}
use Rattle.typed_tree.specs.ViewLaws.{labels_of, patterns_of}
use Rattle.pattern_coverage.specs.Cutting.{cut, or_else}
use Rattle.pattern_coverage.specs.Followed.{value_head}
use Rattle.pattern_coverage.specs.Inhabited.{in_table}
use Rattle.mo_coverage.specs.ColumnView.{columns_in}
use Rattle.mo_coverage.specs.Columns.{cut_all, fields_cut, parts_cut}
use Rattle.mo_coverage.specs.Pieces.{pieces_in}
use Rattle.mo_coverage.proofs.cutting.+pattern.Given as goal

abbrev pub invariant-cut_others-loop-piece : goal.invariant-cut_others-loop-piece
invariant-cut_others-loop-piece l =
    (into_iter_len l.piece-iterator ≡ length (into_iter_items l.piece-iterator))
    × (pieces_in l.made.items ++ or_else (pieces_in (into_iter_items l.piece-iterator)) (λ j. cut (value_head l.types) (in_table l.table) (pattern l.typed) l.id j)
    ≡ or_else (pieces_in l.fn.pieces.items) (λ j. cut (value_head l.types) (in_table l.table) (pattern l.typed) l.id j))

abbrev pub invariant-cut_parts-loop-place : goal.invariant-cut_parts-loop-place
invariant-cut_parts-loop-place l =
    parts_cut (value_head l.types) (in_table l.table) (patterns (drop l.place l.parts)) l.place l.ids (columns_in l.columns.items)
    ≡ parts_cut (value_head l.types) (in_table l.table) (patterns l.parts) 0 l.ids (columns_in l.fn.columns.items)

abbrev pub invariant-cut_fields-loop-part : goal.invariant-cut_fields-loop-part
invariant-cut_fields-loop-part l =
    fields_cut (value_head l.types) (in_table l.table) (labels_of (drop l.part-index l.parts)) (pats (patterns_of (drop l.part-index l.parts))) l.fields (columns_in l.columns.items)
    ≡ fields_cut (value_head l.types) (in_table l.table) (labels_of l.parts) (pats (patterns_of l.parts)) l.fields (columns_in l.fn.columns.items)

abbrev pub invariant-cut_seat-loop-column : goal.invariant-cut_seat-loop-column
invariant-cut_seat-loop-column l =
    (into_iter_len l.column-iterator ≡ length (into_iter_items l.column-iterator))
    × (columns_in l.made.items ++ cut_all (λ j. cut (value_head l.types) (in_table l.table) (pattern l.typed) l.id j) l.strict l.place (columns_in (into_iter_items l.column-iterator))
    ≡ cut_all (λ j. cut (value_head l.types) (in_table l.table) (pattern l.typed) l.id j) l.strict l.place (columns_in l.fn.columns.items))
