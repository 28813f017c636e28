use Rattle.std.proofs.Common.{subst, sym, ap, ◌∙◌, drop, ◌++◌, ◌+◌, ◌≡◌, arith, refl, inl, inr}
use Rattle.std.specs.Char.{encode_utf8}
use Rattle.std.specs.Str.{IsUtf8}
use Rattle.std.proofs.lemmas.Result.{err_from_is_err_and}
use Rattle.std.proofs.lemmas.Str.{IsCharBoundary-after_ascii, length-encode}
use Rattle.mo_lexer.specs.Found.{ClosedStops, IsClosed}
use Rattle.mo_lexer.proofs.CharacterLemmas.{closed_stops, closed_is, quote_whole, early_quote, plain_one}
use Rattle.mo_lexer.proofs.literal.character_at.Goals as goal

pub range_from-requires : goal.range_from-requires
range_from-requires c = λ some. IsCharBoundary-after_ascii c.args.source.now c.args.place c.utf8.source c.requires.within (omega (arith, c.requires.opened))

pub returns-in_err-closed_at-in-Some-clause-err : goal.returns-in_err-closed_at-in-Some-clause-err
returns-in_err-closed_at-in-Some-clause-err c =
    let source = c.args.source.now in
    let rest = c.next.new.self.rest.now in
    let text = c.range_from.ensures.value in
    let split : drop (c.args.place + 1) source ≡ encode_utf8 c.in-Some.value ++ rest = sym text ∙ sym c.chars-characters.ensures.rest ∙ c.in-Some.ensures.steps.0 in
    let whole = quote_whole source (encode_utf8 c.in-Some.value) rest c.args.place c.requires.within c.requires.opened split in
    let one = plain_one (drop (c.args.place + 1) source) rest c.in-Some.value (subst IsUtf8 text c.range_from.utf8) split (λ e. c.in-Some.value-test.0.1 (inr e)) c.in-Some.value-test.1 (λ e. c.in-Some.value-test.0.1 (inl e)) in
    let tail = c.as_bytes-in-Some.ensures.value ∙ c.as_str-in-Some.ensures in
    let p = err_from_is_err_and c.from_residual.result c.from_residual.ensures.1 in
    rw (p.1, p.2) (closed_stops c.args.place (drop c.args.place source) (encode_utf8 c.in-Some.value) rest c.in-Some.value c.in_err-closed_at-in-Some.field-0.0 whole one
    (subst (λ l. ClosedStops c.args.place l c.in_err-closed_at-in-Some.field-0.0) tail c.in_err-closed_at-in-Some.ensures.err))

pub returns-in-Some-eq39-clause-err : goal.returns-in-Some-eq39-clause-err
returns-in-Some-eq39-clause-err c =
    let text = c.range_from.ensures.value in
    let rest_is = c.chars-characters.ensures.rest in
    let step = c.in-Some-eq39.ensures.steps.0 in
    (refl, inr (inl (early_quote c.args.source.now c.next.new.self.rest.now c.args.place c.in-Some-eq39.field-0 c.requires.within c.requires.opened (sym text ∙ sym rest_is ∙ step) c.in-Some-eq39.field-0-test)))

pub returns-in_ok-closed_at-in-Some-clause-ok : goal.returns-in_ok-closed_at-in-Some-clause-ok
returns-in_ok-closed_at-in-Some-clause-ok c =
    let source = c.args.source.now in
    let rest = c.next.new.self.rest.now in
    let text = c.range_from.ensures.value in
    let split : drop (c.args.place + 1) source ≡ encode_utf8 c.in-Some.value ++ rest = sym text ∙ sym c.chars-characters.ensures.rest ∙ c.in-Some.ensures.steps.0 in
    let whole = quote_whole source (encode_utf8 c.in-Some.value) rest c.args.place c.requires.within c.requires.opened split in
    let one = plain_one (drop (c.args.place + 1) source) rest c.in-Some.value (subst IsUtf8 text c.range_from.utf8) split (λ e. c.in-Some.value-test.0.1 (inr e)) c.in-Some.value-test.1 (λ e. c.in-Some.value-test.0.1 (inl e)) in
    let tail = c.as_bytes-in-Some.ensures.value ∙ c.as_str-in-Some.ensures in
    closed_is (drop c.args.place source) (encode_utf8 c.in-Some.value) rest c.in-Some.value (c.len_utf8.result + 2) whole one (subst IsClosed tail c.in_ok-closed_at-in-Some.ensures.ok)
    (ap (λ k. k + 2) (c.len_utf8.ensures.value ∙ sym (length-encode c.in-Some.value)))
