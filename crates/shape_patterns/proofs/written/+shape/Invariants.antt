use Rattle.std.proofs.Common.{◌≡◌, ◌++◌, drop}
use Rattle.mo_syntax.specs.declared.mark.Mark.TheVariants as m
use Rattle.mo_syntax.specs.declared.token.TokenKind.TheVariants as t
use Rattle.pattern_coverage.specs.Followed.{value_head}
use Rattle.pattern_coverage.specs.Inhabited.{in_table}
use Rattle.mo_coverage.specs.Shapes.{all_known}
use Rattle.shape_patterns.specs.Listing.{fields_at, led, parts_at}
use Rattle.shape_patterns.proofs.written.+shape.Given as goal

abbrev pub invariant-put_parts-loop-place : goal.invariant-put_parts-loop-place
invariant-put_parts-loop-place l =
    l.out ++ led (t.Mark m.Comma) l.place (parts_at (value_head l.types) (in_table l.table) (all_known (drop l.place l.shapes)) l.place l.ids)
    ≡ l.initial.out ++ led (t.Mark m.Comma) 0 (parts_at (value_head l.types) (in_table l.table) (all_known l.shapes) 0 l.ids)

abbrev pub invariant-put_fields-loop-place : goal.invariant-put_fields-loop-place
invariant-put_fields-loop-place l =
    l.out ++ led (t.Mark m.Semicolon) l.place (fields_at (value_head l.types) (in_table l.table) (all_known (drop l.place l.shapes)) l.place l.labels l.fields)
    ≡ l.initial.out ++ led (t.Mark m.Semicolon) 0 (fields_at (value_head l.types) (in_table l.table) (all_known l.shapes) 0 l.labels l.fields)
