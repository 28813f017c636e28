use Rattle.std.proofs.Common.{List, ℕ, drop}
use Rattle.wasm_tree.specs.Spelling.{AppendsLeast, HasSpelling, IsEach}
use Rattle.wasm_write.proofs.spell.put_list.Given as goal

-- what is still to come has a spelling, and whatever spells it completes the whole
abbrev pub invariant-loop-item : goal.invariant-loop-item
invariant-loop-item g l = record {
  left : HasSpelling (IsEach g.T.Spell.spelled (drop l.item-index l.items));
  completes : (end : List ℕ) → AppendsLeast (IsEach g.T.Spell.spelled (drop l.item-index l.items)) l.out end → AppendsLeast (IsEach g.T.Spell.spelled l.items) l.fn.out end;
}
