use Rattle.std.proofs.Common.{subst, sym, ap, ◌∙◌, take, drop, length, ◌-◌}
use Rattle.std.specs.Str.{IsUtf8, IsValidUpTo}
use Rattle.mo_lexer.proofs.Tools.{slice_rest}
use Rattle.mo_lexer.proofs.FrontLemmas.{whole_is_utf8, part_is_utf8, whole_front, part_front}
use Rattle.mo_lexer.proofs.front.utf8_front.Goals.{in-Ok, in-Err}
use Rattle.mo_lexer.proofs.front.utf8_front.Goals as goal

pub from_utf8_unchecked-requires : goal.from_utf8_unchecked-requires
from_utf8_unchecked-requires c =
    let source = c.args.source.now in let ascii = c.ascii_prefix-ascii.result in
    elim c.match-from_utf8.branch [
      | in-Ok w ↦ subst (λ k. IsUtf8 (take k source)) (sym w.end-is) (whole_is_utf8 source ascii c.ascii_prefix-ascii.ensures.within c.ascii_prefix-ascii.ensures.ascii (subst IsUtf8 (slice_rest ascii source) w.in-Ok.ensures.cases.1))
      | in-Err w ↦ subst (λ k. IsUtf8 (take k source)) (sym w.end-is) (part_is_utf8 source ascii c.ascii_prefix-ascii.ensures.within c.ascii_prefix-ascii.ensures.ascii w.valid_up_to.result
          (subst (λ l. IsValidUpTo l w.valid_up_to.result) (slice_rest ascii source) (subst (IsValidUpTo (take (length source - ascii) (drop ascii source))) (sym w.valid_up_to.ensures) w.in-Err.ensures.cases.1)))
    ]

pub returns : goal.returns
returns c =
    let source = c.args.source.now in let ascii = c.ascii_prefix-ascii.result in
    elim c.match-from_utf8.branch [
      | in-Ok w ↦ whole_front source ascii c.ascii_prefix-ascii.ensures.within c.ascii_prefix-ascii.ensures.ascii c.from_utf8_unchecked.result.now (c.from_utf8_unchecked.ensures ∙ ap (λ k. take k source) w.end-is) (subst IsUtf8 (slice_rest ascii source) w.in-Ok.ensures.cases.1)
      | in-Err w ↦ part_front source ascii c.ascii_prefix-ascii.ensures.within c.ascii_prefix-ascii.ensures.ascii c.from_utf8_unchecked.result.now w.valid_up_to.result (c.from_utf8_unchecked.ensures ∙ ap (λ k. take k source) w.end-is)
          (subst (λ l. IsValidUpTo l w.valid_up_to.result) (slice_rest ascii source) (subst (IsValidUpTo (take (length source - ascii) (drop ascii source))) (sym w.valid_up_to.ensures) w.in-Err.ensures.cases.1))
    ]
