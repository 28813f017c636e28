-- Characters: what the code finds is one, and there is only one.
use Rattle.std.proofs.Common.{◌≡◌, ℕ, ◌+◌, ◌<◌, true, List, [], ◌∷◌, ◌++◌, length, take, drop, get_or, refl, sym, ap, ◌∙◌, subst, arith, inl, inr, append_assoc, take-append-drop, length-append}
use Rattle.std.specs.Prelude.{◌⊎◌}
use Rattle.std.specs.Char.{encode_utf8}
use Rattle.std.specs.Str.{IsUtf8}
use lib.Utf8.{scalar, scalars}
use Rattle.std.proofs.lemmas.Str.{encode_ascii, cons_from_encodes}
use Rattle.std.proofs.lemmas.List.{append-nil}
use Rattle.mo_syntax.specs.Lexed.{IsCharacter, character}
use Rattle.mo_lexer.specs.declared.stop.Stop.{Stop}
use Rattle.mo_lexer.specs.declared.stop.Stop.TheVariants as stop
use Rattle.mo_lexer.specs.Faults.{IsOne, MeetsAt, EndsAt}
use Rattle.mo_lexer.specs.Escapes.{EscapeIs}
use Rattle.mo_lexer.specs.Found.{CharacterIs, IsClosed, ClosedStops, StopsAt}
use Rattle.mo_lexer.proofs.Tools.{head_at, and_true}
use Rattle.mo_lexer.proofs.EscapeLemmas.{take_seam}

pub closed_stops : (place : ℕ) (text inner tail : List ℕ) (c : ℕ) (s : Stop) → text ≡ 39 ∷ inner ++ tail → IsOne inner c → ClosedStops place tail s → StopsAt place text s
closed_stops place text inner tail c (stop.Met fault) e one (f, b, rest, t, other) =
    subst (MeetsAt place text) (sym f) (refl, inr (inr (inner, c, b, rest, e ∙ ap (λ l. 39 ∷ inner ++ l) t, one, other)))
closed_stops place text inner tail c (stop.AtEnd fault) e one (f, none) =
    subst (EndsAt place text) (sym f) (refl, inr (inr (inner, c, e ∙ ap (λ l. 39 ∷ inner ++ l) none ∙ ap (λ l. 39 ∷ l) (append-nil inner), one)))
closed_stops place text inner tail c stop.Memory e one h = tt

-- a character of which the middle has the length
pub closed_is : (text inner tail : List ℕ) (c len : ℕ) → text ≡ 39 ∷ inner ++ tail → IsOne inner c → IsClosed tail → len ≡ length inner + 2 → CharacterIs text (record { value = c; len = len })
closed_is text inner tail c len e one (rest, t) n =
    let whole : text ≡ (39 ∷ inner ++ 39 ∷ []) ++ rest = e ∙ ap (λ l. 39 ∷ inner ++ l) t ∙ ap (λ l. 39 ∷ l) (sym (append_assoc inner (39 ∷ []) rest)) in
    let size : length (inner ++ 39 ∷ []) ≡ length inner + 1 = length-append inner (39 ∷ []) in
    let size_all : len ≡ length (39 ∷ inner ++ 39 ∷ []) = omega arith in
    let long : length text ≡ length (39 ∷ inner ++ 39 ∷ []) + length rest = ap length whole ∙ length-append (39 ∷ inner ++ 39 ∷ []) rest in
    let cut : take len text ≡ 39 ∷ inner ++ 39 ∷ [] = take_seam (39 ∷ inner ++ 39 ∷ []) rest text len whole size_all in
    record { within = omega arith; is_character = framed text inner c len cut one }
  where
    framed : (text inner : List ℕ) (c len : ℕ) → take len text ≡ 39 ∷ inner ++ 39 ∷ [] → IsOne inner c → IsCharacter (take len text) c
    framed text inner c len cut (inl (is, scalar, q, s, n)) = inl (cut ∙ ap (λ l. 39 ∷ l ++ 39 ∷ []) is, scalar, q, s, n)
    framed text inner c len cut (inr (escape, is, good)) = inr (escape, cut ∙ ap (λ l. 39 ∷ l ++ 39 ∷ []) is, good)

pub escaped_one : (text : List ℕ) (c len : ℕ) → EscapeIs text (character c) len → IsOne (92 ∷ take len text) c
escaped_one text c len e = inr (take len text, refl, e.is_escape)

-- the `'`, the `\` and the escape, in front of what follows
pub escaped_whole : (text : List ℕ) (len : ℕ) → 39 ∷ 92 ∷ text ≡ 39 ∷ (92 ∷ take len text) ++ drop len text
escaped_whole text len = ap (λ l. 39 ∷ 92 ∷ l) (sym (take-append-drop len text))

-- what stands at the place of a `'`
pub quote_whole : (source inner tail : List ℕ) (place : ℕ) → place < length source → get_or source place 0 ≡ 39 → drop (place + 1) source ≡ inner ++ tail → drop place source ≡ 39 ∷ inner ++ tail
quote_whole source inner tail place h b e = head_at place source h ∙ ap (λ x. x ∷ drop (place + 1) source) b ∙ ap (λ l. 39 ∷ l) e

pub early_quote : (source rest : List ℕ) (place c : ℕ) → place < length source → get_or source place 0 ≡ 39 → drop (place + 1) source ≡ encode_utf8 c ++ rest → (c ≡ 10) ⊎ (c ≡ 39) →
    (tail : List ℕ) × ((drop place source ≡ 39 ∷ 39 ∷ tail) ⊎ (drop place source ≡ 39 ∷ 10 ∷ tail))
early_quote source rest place c h b e (inl newline) =
    (rest, inr (quote_whole source (10 ∷ []) rest place h b (e ∙ ap (λ x. encode_utf8 x ++ rest) newline ∙ ap (λ l. l ++ rest) (encode_ascii 10 (omega arith)))))
early_quote source rest place c h b e (inr quote) =
    (rest, inl (quote_whole source (39 ∷ []) rest place h b (e ∙ ap (λ x. encode_utf8 x ++ rest) quote ∙ ap (λ l. l ++ rest) (encode_ascii 39 (omega arith)))))

-- a scalar value at the front of a text in UTF-8
pub plain_one : (text rest : List ℕ) (c : ℕ) → IsUtf8 text → text ≡ encode_utf8 c ++ rest → (c ≡ 39 → ⊥) → (c ≡ 92 → ⊥) → (c ≡ 10 → ⊥) → IsOne (encode_utf8 c) c
plain_one text rest c (cs, (all, is)) e q s n =
    let first = cons_from_encodes cs rest c (is ∙ e) in
    let scalars_are : scalars (c ∷ first.0) ≡ true = ap scalars (sym first.1) ∙ all in
    inl (refl, (and_true (scalar c) (scalars first.0) scalars_are).0, q, s, n)
