-- A fault of typing is at a token of the source.
use Rattle.std.proofs.Common.{◌≡◌, ◌∙◌, ◌<◌, length, Ok, sym, ap, subst}
use Rattle.mo_lexer.proofs.Laws.{in_order}
use Rattle.typing_rules.specs.Answers.{fault as false_at}
use Rattle.fault_places.specs.Laws.{StartsBefore}
use Rattle.fault_places.proofs.Faults.{in_texts}
use Rattle.mo_front.specs.Places.{start_of}
use Rattle.mo_front.specs.Fronts.{FaultsOfTypingStartTokens}

pub starts_token : FaultsOfTypingStartTokens
starts_token source c place h =
    let x : StartsBefore (length source) h.tokens h.untyped.number =
    in_texts (length source) h.tokens h.tree (false_at c h.untyped.number) (in_order source (Ok h.tokens) (h.lexed.short, h.lexed.lexed)) h.parsed.spelled h.untyped.refused in
    let at : x.token.start ≡ place = sym (h.untyped.place_is ∙ ap start_of x.there) in
    record {
      tokens = h.tokens;
      lexed = h.lexed;
      start = record { number = h.untyped.number; token = x.token; there = x.there; starts = at };
      within = subst (λ k. k < length source) at x.within;
    }
