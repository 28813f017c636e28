use Rattle.std.proofs.Common.{ap, ◌∙◌, List, ℕ, Bor, refl}
use Rattle.std.specs.HashSet.{contains_by}
use Rattle.std.specs.Str.{bytes_eq}
use Rattle.std.specs.List.{list_any}
use Rattle.wasm_valid.proofs.DistinctNames.{seen_none, seen_more, seen_twice, seen_all, was_there, was_absent}
use Rattle.wasm_tree.specs.declared.module_parts.Export.{Export}
use Rattle.wasm_valid.proofs.names.have_distinct_names.Goals as goal

pub loop-export-init : goal.loop-export-init
loop-export-init c = seen_none _ c.args.exports.now (λ q. ap (λ ks. list_any (λ (w : Bor (List ℕ)). bytes_eq q w.now) ks) c.new-names.ensures.empty)

pub returns-then-not-branch : goal.returns-then-not-branch
returns-then-not-branch c = (
  λ t. cc,
  λ differ. absurd (seen_twice (λ q. contains_by (λ (w : Bor (List ℕ)). bytes_eq q w.now) c.loop-export.names) c.args.exports.now c.loop-export.export-index c.export-item.result c.as_slice.result.now c.loop-export-test.true
      (c.as_slice.ensures ∙ ap (λ (x : Export). x.name) c.export-item.is) c.loop-export.invariant (was_there _ c.in_ok-insert.field-0 c.in_ok-insert.ensures.added c.if-not-branch.true) differ),
)

pub loop-export-preserved : goal.loop-export-preserved
loop-export-preserved c = seen_more (λ q. contains_by (λ (w : Bor (List ℕ)). bytes_eq q w.now) c.loop-export.names) c.args.exports.now c.loop-export.export-index c.export-item.result c.as_slice.result.now c.loop-export-test.true
    (c.as_slice.ensures ∙ ap (λ (x : Export). x.name) c.export-item.is) c.loop-export.invariant _ (was_absent _ c.in_ok-insert.field-0 c.in_ok-insert.ensures.added c.if-not-branch.false) (λ q. c.in_ok-insert.ensures.updates.0 (record { ref_ptr = (0, 0); now = q }))

pub returns : goal.returns
returns c = (λ t. seen_all _ c.args.exports.now c.loop-export.export-index c.loop-export-test.false c.loop-export.invariant, λ differ. refl)
