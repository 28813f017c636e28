use Rattle.std.proofs.Common.{◌≡◌, true, reverse, sym, ap, ◌∙◌, rules}
use Rattle.std.specs.Prelude.{cond}
use Rattle.pattern_coverage.specs.Cover as cover
use Rattle.pattern_coverage.specs.Inhabited.{in_table}
use Rattle.pattern_coverage.specs.Known.{NotUnder}
use Rattle.mo_coverage.specs.Met.{unmarked}
use Rattle.mo_coverage.specs.Places.{tag_left}
use Rattle.mo_coverage.proofs.MetMarks.{unmarked_left}
use Rattle.mo_coverage.proofs.ShapeViews.{not_under_view}
use Rattle.mo_coverage.proofs.tagged.besides.Goals as goal

pub returns-then-is_unmarked : goal.returns-then-is_unmarked
returns-then-is_unmarked c =
    let r : c.from_vec.result ≡ reverse c.args.found.labels.items = search rules in
    let m : unmarked (in_table c.args.table.now) 0 c.args.tags.now c.args.found.marks.items ≡ true = search rules in
    let u : tag_left (in_table c.args.table.now) c.args.tags.now (reverse c.args.found.labels.items) ≡ true =
    sym (unmarked_left (in_table c.args.table.now) c.args.tags.now (reverse c.args.found.labels.items)) ∙ ap (λ bs. unmarked (in_table c.args.table.now) 0 c.args.tags.now bs) (sym c.requires.marks) ∙ m in
    ap cover.Misses (not_under_view c.from_vec.result ∙ ap NotUnder r) ∙ ap (λ b. cond b (cover.Misses (NotUnder (reverse c.args.found.labels.items))) cover.Whole) (sym u)
