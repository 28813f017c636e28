use Rattle.std.proofs.Common.{subst, sym, refl, inl, arith, ◌+◌}
use Rattle.mo_lexer.proofs.TextLemmas.{ReadSoFar, read_none, read_plain, read_escape, read_whole, byte_opens, end_opens, escape_stops}
use Rattle.std.proofs.lemmas.Result.{err_from_is_err_and}
use Rattle.mo_lexer.proofs.literal.text_at.Goals as goal

pub loop-at-init : goal.loop-at-init
loop-at-init c = subst (ReadSoFar c.args.source.now 1) (sym c.new-bytes.ensures) (read_none c.args.source.now c.requires.opened c.requires.some)

pub returns-then-byte-eq34-clause-ok : goal.returns-then-byte-eq34-clause-ok
returns-then-byte-eq34-clause-ok c = record {
  within = omega arith;
  is_text = read_whole c.args.source.now c.loop-at.at c.loop-at.bytes c.loop-at.invariant c.loop-at-test.true c.if-byte-eq34.true;
}

pub returns-then-byte-eq10-clause-err : goal.returns-then-byte-eq10-clause-err
returns-then-byte-eq10-clause-err c = (refl, inl (c.loop-at.invariant.items, _, byte_opens c.args.source.now c.loop-at.at c.loop-at.bytes c.loop-at.invariant 10 c.loop-at-test.true c.if-byte-eq10.true))

pub returns-in_err-len-clause-err : goal.returns-in_err-len-clause-err
returns-in_err-len-clause-err c = let p = err_from_is_err_and c.from_residual.result c.from_residual.ensures.1 in
    rw (p.1, p.2) (escape_stops c.args.place c.loop-at.at c.args.source.now c.loop-at.bytes c.in_err-len.field-0.0 c.loop-at.invariant c.loop-at-test.true c.if-byte-eq92.true c.in_err-len.ensures.err)

pub loop-at-preserved-then-byte-eq92 : goal.loop-at-preserved-then-byte-eq92
loop-at-preserved-then-byte-eq92 c = read_escape c.args.source.now c.loop-at.at c.in_ok-len.len c.loop-at.bytes c.push_escape.new.bytes c.loop-at.invariant c.loop-at-test.true c.if-byte-eq92.true c.in_ok-len.ensures.ok

pub loop-at-preserved : goal.loop-at-preserved
loop-at-preserved c = subst (ReadSoFar c.args.source.now (c.loop-at.at + 1)) (sym c.in_ok-push.ensures.ok) (read_plain c.args.source.now c.loop-at.at c.loop-at.bytes c.loop-at.invariant c.loop-at-test.true c.if-byte-eq34.false c.if-byte-eq10.false c.if-byte-eq92.false)

pub returns-clause-err : goal.returns-clause-err
returns-clause-err c = (refl, inl (c.loop-at.invariant.items, end_opens c.args.source.now c.loop-at.at c.loop-at.bytes c.loop-at.invariant c.loop-at-test.false))
