use Rattle.std.proofs.Common.{◌≡◌, ◌&&◌, not, length, Some, true, refl, sym, rules}
use Rattle.std.specs.Prelude.{slice_get}
use Rattle.std.proofs.lemmas.Option.{slice_get_read}
use Rattle.pattern_coverage.specs.Cutting.{is_label_among}
use Rattle.pattern_coverage.specs.Inhabited.{in_table}
use Rattle.mo_coverage.proofs.LeftTags.{one_left}
use Rattle.mo_coverage.proofs.tags.tag_left.Goals as goal

pub returns-then-is_left : goal.returns-then-is_left
returns-then-is_left c =
    let g : slice_get c.args.tags.now (length c.args.labels.now) ≡ Some c.index-tags-next.result = slice_get_read c.args.tags.now (length c.args.tags.now) (length c.args.labels.now) c.index-tags-next.result refl c.if-next-tags.true c.index-tags-next.is in
    let e : (in_table c.args.table.now c.index-tags-next.result.part && not (is_label_among c.index-tags-next.result.label c.args.labels.now)) ≡ true = search rules in
    sym (one_left (in_table c.args.table.now) c.args.tags.now (length c.args.labels.now) c.index-tags-next.result c.args.labels.now g e)
