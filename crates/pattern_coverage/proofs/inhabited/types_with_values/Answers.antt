use Rattle.std.proofs.Common.{rules, ◌<◌, length, false, true, refl, sym, ◌∙◌, subst}
use Rattle.std.proofs.lemmas.List.{length-set}
use Rattle.std.proofs.lemmas.Option.{slice_get_within}
use Rattle.pattern_coverage.specs.Cover.{Tells}
use Rattle.pattern_coverage.specs.Followed.{value_head}
use Rattle.pattern_coverage.specs.Inhabited.{AreDone, IsNext, in_table}
use Rattle.pattern_coverage.proofs.Tables.{fewer, keeps, done}
use Rattle.pattern_coverage.proofs.inhabited.types_with_values.Goals as goal

pub index_mut-requires : goal.index_mut-requires
index_mut-requires c =
    let h : c.in-Some.index < length c.loop-index.table.items = slice_get_within c.loop-index.table.items c.in-Some.index false (subst (λ xs. IsNext (value_head c.args.types.now) xs c.in-Some.index) c.as_slice.ensures.value (c.in-Some.ensures.found c.in-Some.index refl)).0 in
    search (rules, h)

pub loop-index-smaller : goal.loop-index-smaller
loop-index-smaller c = fewer c.args.types.now c.loop-index.table.items c.in-Some.index (subst (λ xs. IsNext (value_head c.args.types.now) xs c.in-Some.index) c.as_slice.ensures.value (c.in-Some.ensures.found c.in-Some.index refl))

pub loop-index-preserved : goal.loop-index-preserved
loop-index-preserved c = (
  length-set c.loop-index.table.items c.in-Some.index true ∙ c.loop-index.invariant.0,
  keeps c.args.types.now c.loop-index.table.items c.in-Some.index c.requires c.loop-index.invariant.1 (subst (λ xs. IsNext (value_head c.args.types.now) xs c.in-Some.index) c.as_slice.ensures.value (c.in-Some.ensures.found c.in-Some.index refl)),
)

pub returns : goal.returns
returns c =
    subst (λ table. Tells (value_head c.args.types.now) (in_table table)) (sym c.from_vec.ensures)
    (done c.args.types.now c.loop-index.table.items c.loop-index.invariant.0 (subst (λ xs. AreDone (value_head c.args.types.now) xs (length xs)) c.as_slice.ensures.value (c.in_default.ensures.none refl)) c.loop-index.invariant.1)
