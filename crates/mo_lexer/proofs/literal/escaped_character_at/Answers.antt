use Rattle.std.proofs.Common.{subst, take, drop, length, ◌∷◌, ◌+◌, ◌≡◌, arith}
use Rattle.std.proofs.lemmas.Result.{err_from_is_err_and}
use Rattle.std.proofs.lemmas.List.{length-take-le}
use Rattle.mo_lexer.specs.Found.{ClosedStops, IsClosed}
use Rattle.mo_lexer.proofs.Tools.{slice_rest}
use Rattle.mo_lexer.proofs.CharacterLemmas.{closed_stops, closed_is, escaped_one, escaped_whole}
use Rattle.mo_lexer.proofs.literal.escaped_character_at.Goals as goal

pub returns-in_err-closed_at-in-Scalar-clause-err : goal.returns-in_err-closed_at-in-Scalar-clause-err
returns-in_err-closed_at-in-Scalar-clause-err c = let p = err_from_is_err_and c.from_residual.result c.from_residual.ensures.1 in
    rw (p.1, p.2) (closed_stops c.args.place (39 ∷ 92 ∷ c.args.source.now) (92 ∷ take c.in-Scalar.len c.args.source.now) (drop c.in-Scalar.len c.args.source.now) c.in-Scalar.value c.in_err-closed_at-in-Scalar.field-0.0
    (escaped_whole c.args.source.now c.in-Scalar.len) (escaped_one c.args.source.now c.in-Scalar.value c.in-Scalar.len c.in-Scalar.ensures.found)
    (subst (λ l. ClosedStops c.args.place l c.in_err-closed_at-in-Scalar.field-0.0) (slice_rest c.in-Scalar.len c.args.source.now) c.in_err-closed_at-in-Scalar.ensures.err))

pub returns-in_ok-closed_at-in-Scalar-clause-ok : goal.returns-in_ok-closed_at-in-Scalar-clause-ok
returns-in_ok-closed_at-in-Scalar-clause-ok c =
    let size : length (take c.in-Scalar.len c.args.source.now) ≡ c.in-Scalar.len = length-take-le c.in-Scalar.len c.args.source.now c.in-Scalar.ensures.found.within in
    let long : c.in-Scalar.len + 3 ≡ length (92 ∷ take c.in-Scalar.len c.args.source.now) + 2 = omega arith in
    closed_is (39 ∷ 92 ∷ c.args.source.now) (92 ∷ take c.in-Scalar.len c.args.source.now) (drop c.in-Scalar.len c.args.source.now) c.in-Scalar.value (c.in-Scalar.len + 3)
    (escaped_whole c.args.source.now c.in-Scalar.len) (escaped_one c.args.source.now c.in-Scalar.value c.in-Scalar.len c.in-Scalar.ensures.found)
    (subst IsClosed (slice_rest c.in-Scalar.len c.args.source.now) c.in_ok-closed_at-in-Scalar.ensures.ok) long
