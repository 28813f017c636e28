use Rattle.std.proofs.Common.{◌≡◌, length, true, false, sym, arith}
use Rattle.pattern_coverage.specs.Leaves.{is_among, is_literal_number, leaf_at}
use Rattle.mo_coverage.proofs.Remaining.{more_remain, one_remains, none_remains}
use Rattle.mo_coverage.proofs.leaves.remains.Goals as goal

pub returns-then-is_literal_number : goal.returns-then-is_literal_number
returns-then-is_literal_number c =
    let e : is_literal_number c.args.node.now (length c.args.parts.now) ≡ true = cc in
    sym (more_remain c.args.node.now c.args.parts.now e)

pub returns-then-not-is_literal_number : goal.returns-then-not-is_literal_number
returns-then-not-is_literal_number c =
    let e : is_literal_number c.args.node.now c.loop-number.number ≡ false = grind (arith) in
    sym (none_remains c.args.node.now c.loop-number.number c.args.parts.now e c.loop-number.invariant)

pub returns-then-not-is_among : goal.returns-then-not-is_among
returns-then-not-is_among c =
    let l : is_literal_number c.args.node.now c.loop-number.number ≡ true = grind (arith) in
    let e : is_among (leaf_at c.args.node.now c.loop-number.number) c.args.parts.now ≡ false = grind (arith) in
    sym (one_remains c.args.node.now c.loop-number.number c.args.parts.now l e)

pub returns : goal.returns
returns c =
    let e : is_literal_number c.args.node.now (length c.args.parts.now) ≡ false = grind (arith) in
    sym (none_remains c.args.node.now (length c.args.parts.now) c.args.parts.now e (λ j h. c.loop-number.invariant j (omega (arith, h))))
