use Rattle.std.proofs.Common.{sym, ◌∙◌}
use Rattle.wasm_tree.specs.declared.types.ValueType.TheVariants.{I32}
use Rattle.wasm_machine.proofs.SameKinds.{of_lengths, goes_on, stops, ends}
use Rattle.wasm_machine.proofs.sought.are_same_kinds.Goals as goal

pub returns-then-a-b : goal.returns-then-a-b
returns-then-a-b c = of_lengths _ _ c.if-a-b.true

pub returns-then-not-is_same_kind : goal.returns-then-not-is_same_kind
returns-then-not-is_same_kind c = stops _ _ c.loop-i.i I32 c.loop-i-test.true c.loop-i.invariant.same c.loop-i.invariant.so (sym c.is_same_kind.ensures ∙ c.if-not-is_same_kind.true)

pub loop-i-preserved : goal.loop-i-preserved
loop-i-preserved c = record {
  same = c.loop-i.invariant.same;
  so = goes_on _ _ c.loop-i.i I32 c.loop-i-test.true c.loop-i.invariant.same c.loop-i.invariant.so (sym c.is_same_kind.ensures ∙ c.if-not-is_same_kind.false);
}

pub returns : goal.returns
returns c = ends _ _ c.loop-i.i c.loop-i-test.false c.loop-i.invariant.same c.loop-i.invariant.so
