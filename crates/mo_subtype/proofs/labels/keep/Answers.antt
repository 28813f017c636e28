use Rattle.std.specs.Borrow.{Bor}
use Rattle.std.proofs.Common.{List, ℕ}
use Rattle.mo_subtype.proofs.Indexing.{kept}
use Rattle.mo_subtype.proofs.labels.keep.Goals as goal

pub returns : goal.returns
returns c = λ x.
    let q : Bor (List ℕ) = record c.as_slice.result { now = x } in
    kept c.as_slice.result.now c.args.field.now.label x c.args.field _ _ c.as_slice.ensures (c.in_ok-insert.ensures.updates.0 q)
