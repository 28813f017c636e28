use Rattle.std.proofs.Common.{subst, sym, ◌+◌}
use Rattle.std.proofs.lemmas.Result.{err_from_is_err_and}
use Rattle.mo_lexer.proofs.ChainLemmas.{ReadTo, read_start, read_piece, read_end, read_stops}
use Rattle.mo_lexer.proofs.lexer.tokens_of.Goals as goal

pub loop-place-init : goal.loop-place-init
loop-place-init c = read_start c.args.text.now c.new-tokens.result c.new-tokens.ensures

pub returns-in_err-found-clause-err : goal.returns-in_err-found-clause-err
returns-in_err-found-clause-err c = let p = err_from_is_err_and c.from_residual.result c.from_residual.ensures.1 in
    rw (p.1, p.2) (read_stops c.args.text.now c.loop-place.tokens c.loop-place.before c.loop-place.place c.in_err-found.field-0.0 c.loop-place.invariant c.in_err-found.ensures.err)

pub loop-place-preserved : goal.loop-place-preserved
loop-place-preserved c = subst (λ l. ReadTo c.args.text.now l c.in_ok-found.found.before (c.loop-place.place + c.in_ok-found.found.len)) (sym c.in_ok-add.ensures)
    (read_piece c.args.text.now c.loop-place.tokens c.loop-place.before c.loop-place.place c.in_ok-found.found c.loop-place.invariant c.in_ok-found.ensures.ok)

pub returns-clause-ok : goal.returns-clause-ok
returns-clause-ok c = read_end c.args.text.now c.loop-place.tokens c.loop-place.before c.loop-place.place c.loop-place.invariant c.loop-place-test.false c.utf8.text
