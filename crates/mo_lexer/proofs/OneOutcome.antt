-- What stands at a place is one piece, or one fault, and never both.
use Rattle.std.proofs.Common.{◌≡◌, ◌≢◌, ℕ, ◌+◌, ◌<◌, ◌≤◌, Bool, true, false, List, [], ◌∷◌, ◌++◌, length, take, drop, get_or, Option, Some, None, refl, sym, ap, ◌∙◌, subst, arith, inl, inr, ⊎_elim, append_assoc, length-append}
use Rattle.std.specs.Prelude.{◌⊎◌, ◌==◌, ◌&&◌, ◌||◌, not, if◌then◌else◌, nat_lt, nat_le}
use Rattle.std.specs.List.{prefix_len, list_all, flat_map}
use Rattle.std.specs.Str.{bytes_eq}
use Rattle.std.specs.Option.{is_none}
use Rattle.std.specs.Char.{encode_utf8}
use Rattle.std.proofs.lemmas.Bool.{eqb-true, ltb-true, lt-ltb, leb-true}
use Rattle.std.proofs.lemmas.List.{append-nil}
use Rattle.std.proofs.lemmas.Str.{encode_same, char_from_byte, length-encode, len_utf8_bounds}
use Rattle.mo_syntax.specs.Characters.{is_blank, is_name_start, is_name_byte, is_digit, begins, are_digits}
use Rattle.mo_syntax.specs.Words.{mark_text, word_of, reserved_words}
use Rattle.mo_syntax.specs.Tokens.{nowhere}
use Rattle.mo_syntax.specs.Lexed.{is_name, IsToken, IsLongestMark, begins_comment, is_inside_line, closes, Piece, blank, comment, token, piece_text, Stands, Fits, Item, item_text, item_bytes}
use Rattle.mo_syntax.specs.declared.word.Word.{Word}
use Rattle.mo_syntax.specs.declared.mark.Mark.{Mark}
use Rattle.mo_syntax.specs.declared.mark.Mark.TheVariants as m
use Rattle.mo_syntax.specs.declared.token.TokenKind.{TokenKind}
use Rattle.mo_syntax.specs.declared.token.TokenKind.TheVariants as t
use Rattle.mo_syntax.specs.declared.before.Before.{Before}
use Rattle.mo_lexer.specs.declared.fault.LexFault.{LexFault}
use Rattle.mo_lexer.specs.declared.fault.LexFault.TheVariants.{BadByte, OpenComment, OpenText, BadEscape, WideNumber, SourceTooLong, Memory}
use Rattle.mo_lexer.specs.declared.escape.Escape.{Escape}
use Rattle.mo_lexer.specs.declared.escape.Escape.TheVariants as esc
use Rattle.mo_lexer.specs.Faults.{BeginsNothing, MeetsAt, EndsAt, IsOne, OpensText}
use Rattle.mo_lexer.specs.Marks.{mark_at, in_context}
use Rattle.mo_lexer.specs.Numbers.{IsNumber}
use Rattle.mo_lexer.specs.Reading.{block_len, escape_at}
use Rattle.mo_lexer.proofs.Tools.{and_true, if_true, if_false, tested, true_is_not_false, or_of_false, not_true}
use Rattle.mo_lexer.proofs.Names.{Runs, run_only}
use Rattle.mo_lexer.proofs.NumberLemmas.{number_len, number_value, number_only, NumberOnly, digit_below}
use Rattle.mo_lexer.proofs.CommentLemmas.{block_only, never_closes}
use Rattle.mo_lexer.proofs.EscapeLemmas.{take_seam, drop_seam, character_only}
use Rattle.mo_lexer.proofs.MarkLemmas.{plain, mark_only, context_only, plain_text, IsUnderscore, no_mark_found}
use Rattle.mo_lexer.proofs.TextLemmas.{stops, opens_same, stops_nil, stops_quote, stops_newline, stops_bad, stops_ends, same_split}

-- what stands at a place
pub data Outcome : Type 0 where
  found : Piece → Outcome
  met : LexFault → Outcome
  ends : LexFault → Outcome
  none : Outcome

abbrev pub At : Before → ℕ → List ℕ → Outcome → Type 0
At before place text (found piece) = (rest : List ℕ) × (text ≡ piece_text piece ++ rest) × Stands before piece rest
At before place text (met fault) = MeetsAt place text fault
At before place text (ends fault) = EndsAt place text fault
At before place text none = ⊥

-- ---- the first byte tells what it can be
data Shape : Type 0 where
  nothing : Shape
  blanks : Shape
  comments : Shape
  names : Shape
  numbers : Shape
  quotes : Shape
  texts : Shape
  signs : Shape

abbrev shape_of : ℕ → Shape
shape_of b = if is_name_start b then names else (if is_digit 10 b then numbers else (if b == 39 then quotes else (if b == 34 then texts else signs)))

abbrev shape : List ℕ → Shape
shape [] = nothing
shape (b ∷ text) = if is_blank b then blanks else (if begins_comment (b ∷ text) then comments else shape_of b)

module _ (b : ℕ) (text : List ℕ) where
  blank_shape : is_blank b ≡ true → shape (b ∷ text) ≡ blanks
  blank_shape h = if_true (is_blank b) blanks _ h

  other_shape : is_blank b ≡ false → begins_comment (b ∷ text) ≡ false → shape (b ∷ text) ≡ shape_of b
  other_shape h g = if_false (is_blank b) blanks _ h ∙ if_false (begins_comment (b ∷ text)) comments (shape_of b) g

  not_slash : (b == 47) ≡ false → begins_comment (b ∷ text) ≡ false
  not_slash g = by_text text g
    where
      by_text : (text : List ℕ) → (b == 47) ≡ false → begins_comment (b ∷ text) ≡ false
      by_text [] g = refl
      by_text (c ∷ text) g = ap (λ z. z && (c == 47 || c == 42)) g

  name_shape : is_name_start b ≡ true → shape (b ∷ text) ≡ names
  name_shape h =
      let differs : (k : ℕ) → is_name_start k ≡ false → (b == k) ≡ false = λ k g. tested (b == k) (λ same. true_is_not_false (ap is_name_start (sym (eqb-true b k same)) ∙ h) g) (λ other. other) in
      let no_blank : is_blank b ≡ false = or_of_false ((b == 32 || b == 9) || b == 13) (b == 10) (or_of_false (b == 32 || b == 9) (b == 13) (or_of_false (b == 32) (b == 9) (differs 32 refl) (differs 9 refl)) (differs 13 refl)) (differs 10 refl) in
      other_shape no_blank (not_slash (differs 47 refl)) ∙ if_true (is_name_start b) names _ h

sign_shape : (mark : Mark) (rest : List ℕ) → (IsUnderscore mark → ⊥) → begins_comment (mark_text mark ++ rest) ≡ false → shape (mark_text mark ++ rest) ≡ signs
sign_shape m.Plus rest h g = other_shape 43 (rest) refl g
sign_shape m.Minus rest h g = other_shape 45 (rest) refl g
sign_shape m.Star rest h g = other_shape 42 (rest) refl g
sign_shape m.Slash rest h g = other_shape 47 (rest) refl g
sign_shape m.Percent rest h g = other_shape 37 (rest) refl g
sign_shape m.Power rest h g = other_shape 42 (42 ∷ rest) refl g
sign_shape m.PlusWrap rest h g = other_shape 43 (37 ∷ rest) refl g
sign_shape m.MinusWrap rest h g = other_shape 45 (37 ∷ rest) refl g
sign_shape m.StarWrap rest h g = other_shape 42 (37 ∷ rest) refl g
sign_shape m.Concat rest h g = other_shape 35 (rest) refl g
sign_shape m.Equal rest h g = other_shape 61 (61 ∷ rest) refl g
sign_shape m.NotEqual rest h g = other_shape 33 (61 ∷ rest) refl g
sign_shape m.Less rest h g = other_shape 60 (rest) refl g
sign_shape m.Greater rest h g = other_shape 62 (rest) refl g
sign_shape m.LessEqual rest h g = other_shape 60 (61 ∷ rest) refl g
sign_shape m.GreaterEqual rest h g = other_shape 62 (61 ∷ rest) refl g
sign_shape m.Assign rest h g = other_shape 58 (61 ∷ rest) refl g
sign_shape m.PlusAssign rest h g = other_shape 43 (61 ∷ rest) refl g
sign_shape m.MinusAssign rest h g = other_shape 45 (61 ∷ rest) refl g
sign_shape m.StarAssign rest h g = other_shape 42 (61 ∷ rest) refl g
sign_shape m.SlashAssign rest h g = other_shape 47 (61 ∷ rest) refl g
sign_shape m.PercentAssign rest h g = other_shape 37 (61 ∷ rest) refl g
sign_shape m.PowerAssign rest h g = other_shape 42 (42 ∷ 61 ∷ rest) refl g
sign_shape m.ConcatAssign rest h g = other_shape 35 (61 ∷ rest) refl g
sign_shape m.PlusWrapAssign rest h g = other_shape 43 (37 ∷ 61 ∷ rest) refl g
sign_shape m.MinusWrapAssign rest h g = other_shape 45 (37 ∷ 61 ∷ rest) refl g
sign_shape m.StarWrapAssign rest h g = other_shape 42 (37 ∷ 61 ∷ rest) refl g
sign_shape m.EqualSign rest h g = other_shape 61 (rest) refl g
sign_shape m.Colon rest h g = other_shape 58 (rest) refl g
sign_shape m.Semicolon rest h g = other_shape 59 (rest) refl g
sign_shape m.Comma rest h g = other_shape 44 (rest) refl g
sign_shape m.Dot rest h g = other_shape 46 (rest) refl g
sign_shape m.Question rest h g = other_shape 63 (rest) refl g
sign_shape m.Bang rest h g = other_shape 33 (rest) refl g
sign_shape m.ParenOpen rest h g = other_shape 40 (rest) refl g
sign_shape m.ParenClose rest h g = other_shape 41 (rest) refl g
sign_shape m.BracketOpen rest h g = other_shape 91 (rest) refl g
sign_shape m.BracketClose rest h g = other_shape 93 (rest) refl g
sign_shape m.BraceOpen rest h g = other_shape 123 (rest) refl g
sign_shape m.BraceClose rest h g = other_shape 125 (rest) refl g
sign_shape m.Arrow rest h g = other_shape 45 (62 ∷ rest) refl g
sign_shape m.Subtype rest h g = other_shape 60 (58 ∷ rest) refl g
sign_shape m.Underscore rest h g = absurd (h tt)
sign_shape m.AngleOpen rest h g = other_shape 60 (rest) refl g
sign_shape m.AngleClose rest h g = other_shape 62 (rest) refl g
sign_shape m.Tag rest h g = other_shape 35 (rest) refl g

-- ---- blanks, comments, names, numbers and marks are functions of the text

-- an identifier whose place is not said
abbrev pub identifier : List ℕ → TokenKind
identifier text = t.Identifier (record { bytes = text; place = nowhere })

-- a text whose place is not said
abbrev pub text_kind : List ℕ → TokenKind
text_kind bytes = t.Text (record { bytes = bytes; place = nowhere })

abbrev kind_of_name : List ℕ → Option Word → TokenKind
kind_of_name name (Some word) = t.Reserved word
kind_of_name name None = if bytes_eq name (95 ∷ []) then t.Mark m.Underscore else identifier name

abbrev name_outcome : List ℕ → Outcome
name_outcome name = found (token (kind_of_name name (word_of name)) name)

abbrev block_outcome : ℕ → List ℕ → Option ℕ → Outcome
block_outcome place text (Some n) = found (comment (take (2 + n) text))
block_outcome place text None = ends (OpenComment place)

abbrev comment_outcome : ℕ → List ℕ → Outcome
comment_outcome place text = if get_or text 1 0 == 47 then found (comment (take (2 + prefix_len is_inside_line (drop 2 text)) text)) else block_outcome place text (block_len 1 (drop 2 text))

abbrev number_outcome : ℕ → List ℕ → ℕ → ℕ → Outcome
number_outcome place text len n = if nat_lt n 18446744073709551616 then found (token (t.Number n) (take len text)) else met (WideNumber place)

abbrev sign_outcome : Before → ℕ → List ℕ → Option Mark → Outcome
sign_outcome before place text None = met (BadByte place)
sign_outcome before place text (Some mark) = found (token (t.Mark (in_context before mark (drop (length (mark_text mark)) text))) (mark_text mark))

abbrev canonical : Shape → Before → ℕ → List ℕ → Outcome
canonical blanks before place text = found (blank (get_or text 0 0))
canonical comments before place text = comment_outcome place text
canonical names before place text = name_outcome (take (prefix_len is_name_byte text) text)
canonical numbers before place text = number_outcome place text (number_len text) (number_value text)
canonical signs before place text = sign_outcome before place text (mark_at text)
canonical quotes before place text = met Memory
canonical texts before place text = met Memory
canonical nothing before place text = none

abbrev IsPlain : Shape → Type 0
IsPlain quotes = ⊥
IsPlain texts = ⊥
IsPlain _ = Unit {0}

record PlainView (before : Before) (place : ℕ) (text : List ℕ) (o : Outcome) : Type 0 where
  plain_shape : IsPlain (shape text)
  is : o ≡ canonical (shape text) before place text

plain_view : (before : Before) (place : ℕ) (text : List ℕ) (o : Outcome) (s : Shape) → shape text ≡ s → IsPlain s → o ≡ canonical s before place text → PlainView before place text o
plain_view before place text o s e p h = record { plain_shape = subst IsPlain (sym e) p; is = h ∙ ap (λ z. canonical z before place text) (sym e) }

-- ---- texts: the items, and what stops them

abbrev escape_outcome : ℕ → Escape → Outcome
escape_outcome place esc.Bad = met (BadEscape place)
escape_outcome place esc.Ends = ends (BadEscape place)
escape_outcome place (esc.Scalar c len) = met Memory
escape_outcome place (esc.Byte b len) = met Memory

abbrev text_outcome : ℕ → List Item → List ℕ → Outcome
text_outcome place items [] = ends (OpenText place)
text_outcome place items (b ∷ rest) =
    if b == 34 then found (token (text_kind (flat_map item_bytes items)) (34 ∷ flat_map item_text items ++ 34 ∷ []))
    else (if b == 10 then met (OpenText place) else escape_outcome (place + 1 + length (flat_map item_text items)) (escape_at true rest))

record TextView (place : ℕ) (text : List ℕ) (o : Outcome) : Type 0 where
  items : List Item
  rest : List ℕ
  opens : OpensText text items rest
  stop : stops rest ≡ true
  is : o ≡ text_outcome place items rest

text_view_shape : (place : ℕ) (text : List ℕ) (o : Outcome) → TextView place text o → shape text ≡ texts
text_view_shape place text o v = let rest : List ℕ = flat_map item_text v.items ++ v.rest in ap shape v.opens.0 ∙ other_shape 34 rest refl (not_slash 34 rest refl)

-- ---- characters: one scalar value or escape, and what follows it

abbrev no_scalar : Escape → Bool
no_scalar (esc.Scalar c len) = false
no_scalar (esc.Byte b len) = true
no_scalar esc.Bad = true
no_scalar esc.Ends = true

abbrev is_early : List ℕ → Bool
is_early [] = true
is_early (b ∷ rest) = if b == 92 then no_scalar (escape_at false rest) else (b == 39 || b == 10)

abbrev early_outcome : ℕ → List ℕ → Outcome
early_outcome place [] = ends (OpenText place)
early_outcome place (b ∷ rest) = if b == 92 then escape_outcome (place + 1) (escape_at false rest) else met (OpenText place)

abbrev quote_outcome : ℕ → List ℕ → ℕ → List ℕ → Outcome
quote_outcome place inner c [] = ends (OpenText place)
quote_outcome place inner c (b ∷ rest) = if b == 39 then found (token (t.Character c) (39 ∷ inner ++ 39 ∷ [])) else met (OpenText place)

record EarlyView (place : ℕ) (text : List ℕ) (o : Outcome) : Type 0 where
  rest : List ℕ
  whole : text ≡ 39 ∷ rest
  early : is_early rest ≡ true
  is : o ≡ early_outcome place rest

record LateView (place : ℕ) (text : List ℕ) (o : Outcome) : Type 0 where
  inner : List ℕ
  c : ℕ
  tail : List ℕ
  whole : text ≡ 39 ∷ inner ++ tail
  one : IsOne inner c
  is : o ≡ quote_outcome place inner c tail

tails : (x y : ℕ) (xs ys : List ℕ) → x ∷ xs ≡ y ∷ ys → xs ≡ ys
tails x y xs ys h = cc

scalars_same : (c d k n : ℕ) → esc.Scalar c k ≡ esc.Scalar d n → (c ≡ d) × (k ≡ n)
scalars_same c d k n h = (cc, cc)

record SameOne (inner other : List ℕ) (c d : ℕ) (tail rest : List ℕ) : Type 0 where
  inner_is : inner ≡ other
  value_is : c ≡ d
  tail_is : tail ≡ rest

not_backslash : (c : ℕ) (text tail : List ℕ) → (c ≢ 92) → 92 ∷ text ≡ encode_utf8 c ++ tail → ⊥
not_backslash c text tail other e = other (char_from_byte (92 ∷ text) tail c e (omega arith) (omega arith))

one_same : (inner other : List ℕ) (c d : ℕ) (tail rest : List ℕ) → IsOne inner c → IsOne other d → inner ++ tail ≡ other ++ rest → SameOne inner other c d tail rest
one_same inner other c d tail rest (inl (g, gs, g1, g2, g3)) (inl (h, hs, h1, h2, h3)) e =
    let same = encode_same c d tail rest (sym (ap (λ l. l ++ tail) g) ∙ e ∙ ap (λ l. l ++ rest) h) in
    record { inner_is = g ∙ ap encode_utf8 same.0 ∙ sym h; value_is = same.0; tail_is = same.1 }
one_same inner other c d tail rest (inl (g, gs, g1, g2, g3)) (inr (text, h, good)) e =
    absurd (not_backslash c (text ++ rest) tail g2 (sym (ap (λ l. l ++ rest) h) ∙ sym e ∙ ap (λ l. l ++ tail) g))
one_same inner other c d tail rest (inr (text, g, good)) (inl (h, hs, h1, h2, h3)) e =
    absurd (not_backslash d (text ++ tail) rest h2 (sym (ap (λ l. l ++ tail) g) ∙ e ∙ ap (λ l. l ++ rest) h))
one_same inner other c d tail rest (inr (text, g, good)) (inr (more, h, fine)) e =
    let joined : text ++ tail ≡ more ++ rest = tails 92 92 (text ++ tail) (more ++ rest) (sym (ap (λ l. l ++ tail) g) ∙ e ∙ ap (λ l. l ++ rest) h) in
    let same = scalars_same c d (length text) (length more) (sym (character_only false text tail c good) ∙ ap (escape_at false) joined ∙ character_only false more rest d fine) in
    let parts = same_split text more tail rest joined same.1 in
    record { inner_is = g ∙ ap (λ l. 92 ∷ l) parts.0 ∙ sym h; value_is = same.0; tail_is = parts.1 }

scalar_not_early : (c : ℕ) (text tail : List ℕ) → text ≡ encode_utf8 c ++ tail → (c ≢ 39) → (c ≢ 92) → (c ≢ 10) → is_early text ≡ false
scalar_not_early c [] tail e q s n =
    let size : 0 ≡ length (encode_utf8 c) + length tail = ap length e ∙ length-append (encode_utf8 c) tail in
    let some = (len_utf8_bounds c).0 in
    let len = length-encode c in
    absurd (omega arith)
scalar_not_early c (b ∷ text) tail e q s n =
    let differs : (k : ℕ) → k < 128 → (c ≢ k) → (b == k) ≡ false = λ k small other. tested (b == k)
    (λ same. let is : b ≡ k = eqb-true b k same in let low : b < 128 = omega arith in absurd (other (char_from_byte (b ∷ text) tail c e low (omega arith) ∙ is)))
    (λ differs. differs) in
    if_false (b == 92) _ (b == 39 || b == 10) (differs 92 (omega arith) s) ∙ ap (λ z. z || b == 10) (differs 39 (omega arith) q) ∙ differs 10 (omega arith) n

one_not_early : (inner : List ℕ) (c : ℕ) (tail : List ℕ) → IsOne inner c → is_early (inner ++ tail) ≡ false
one_not_early inner c tail (inl (g, gs, q, s, n)) = scalar_not_early c (inner ++ tail) tail (ap (λ l. l ++ tail) g) q s n
one_not_early inner c tail (inr (text, g, good)) = ap (λ l. is_early (l ++ tail)) g ∙ ap no_scalar (character_only false text tail c good)

-- ---- views

abbrev View : Before → ℕ → List ℕ → Outcome → Type 0
View before place text o = PlainView before place text o ⊎ (TextView place text o ⊎ (EarlyView place text o ⊎ LateView place text o))

quote_is_not_plain : (before : Before) (place : ℕ) (text rest : List ℕ) (o : Outcome) {C : Type 0} → PlainView before place text o → text ≡ 39 ∷ rest → C
quote_is_not_plain before place text rest o v e = absurd (subst IsPlain (ap shape e ∙ other_shape 39 rest refl (not_slash 39 rest refl)) v.plain_shape)

text_is_not_plain : (before : Before) (place : ℕ) (text : List ℕ) (o p : Outcome) {C : Type 0} → PlainView before place text o → TextView place text p → C
text_is_not_plain before place text o p v w = absurd (subst IsPlain (text_view_shape place text p w) v.plain_shape)

text_is_no_quote : (place : ℕ) (text rest : List ℕ) (o : Outcome) {C : Type 0} → TextView place text o → text ≡ 39 ∷ rest → C
text_is_no_quote place text rest o v e = let two : 34 ∷ flat_map item_text v.items ++ v.rest ≡ 39 ∷ rest = sym v.opens.0 ∙ e in let h : true ≡ false = ap (begins (λ b. b == 34)) two in absurd (cc)

early_is_not_late : (place : ℕ) (text : List ℕ) (o p : Outcome) {C : Type 0} → EarlyView place text o → LateView place text p → C
early_is_not_late place text o p v w =
    true_is_not_false v.early (ap is_early (tails 39 39 v.rest (w.inner ++ w.tail) (sym v.whole ∙ w.whole)) ∙ one_not_early w.inner w.c w.tail w.one)

one_view : (before : Before) (place : ℕ) (text : List ℕ) (o p : Outcome) → View before place text o → View before place text p → o ≡ p
one_view before place text o p (inl v) (inl w) = v.is ∙ sym w.is
one_view before place text o p (inl v) (inr (inl w)) = text_is_not_plain before place text o p v w
one_view before place text o p (inl v) (inr (inr (inl w))) = quote_is_not_plain before place text w.rest o v w.whole
one_view before place text o p (inl v) (inr (inr (inr w))) = quote_is_not_plain before place text (w.inner ++ w.tail) o v w.whole
one_view before place text o p (inr (inl v)) (inl w) = text_is_not_plain before place text p o w v
one_view before place text o p (inr (inl v)) (inr (inl w)) =
    let same = opens_same text v.items w.items v.rest w.rest v.opens w.opens v.stop w.stop in
    v.is ∙ ap (λ l. text_outcome place l v.rest) same.0 ∙ ap (text_outcome place w.items) same.1 ∙ sym w.is
one_view before place text o p (inr (inl v)) (inr (inr (inl w))) = text_is_no_quote place text w.rest o v w.whole
one_view before place text o p (inr (inl v)) (inr (inr (inr w))) = text_is_no_quote place text (w.inner ++ w.tail) o v w.whole
one_view before place text o p (inr (inr (inl v))) (inl w) = quote_is_not_plain before place text v.rest p w v.whole
one_view before place text o p (inr (inr (inl v))) (inr (inl w)) = text_is_no_quote place text v.rest p w v.whole
one_view before place text o p (inr (inr (inl v))) (inr (inr (inl w))) = v.is ∙ ap (early_outcome place) (tails 39 39 v.rest w.rest (sym v.whole ∙ w.whole)) ∙ sym w.is
one_view before place text o p (inr (inr (inl v))) (inr (inr (inr w))) = early_is_not_late place text o p v w
one_view before place text o p (inr (inr (inr v))) (inl w) = quote_is_not_plain before place text (v.inner ++ v.tail) p w v.whole
one_view before place text o p (inr (inr (inr v))) (inr (inl w)) = text_is_no_quote place text (v.inner ++ v.tail) p w v.whole
one_view before place text o p (inr (inr (inr v))) (inr (inr (inl w))) = early_is_not_late place text p o w v
one_view before place text o p (inr (inr (inr v))) (inr (inr (inr w))) =
    let same = one_same v.inner w.inner v.c w.c v.tail w.tail v.one w.one (tails 39 39 (v.inner ++ v.tail) (w.inner ++ w.tail) (sym v.whole ∙ w.whole)) in
    v.is ∙ ap (λ l. quote_outcome place l v.c v.tail) same.inner_is ∙ ap (λ x. quote_outcome place w.inner x v.tail) same.value_is ∙ ap (quote_outcome place w.inner w.c) same.tail_is ∙ sym w.is

-- ---- each thing that may stand at a place has a view

blank_view : (before : Before) (place b : ℕ) (rest : List ℕ) → is_blank b ≡ true → PlainView before place (b ∷ rest) (found (blank b))
blank_view before place b rest h = plain_view before place (b ∷ rest) (found (blank b)) blanks (blank_shape b rest h) tt refl

comment_shape : (c : ℕ) (text : List ℕ) → (c == 47 || c == 42) ≡ true → shape (47 ∷ c ∷ text) ≡ comments
comment_shape c text h = if_true (c == 47 || c == 42) comments _ h

line_view : (before : Before) (place : ℕ) (text body rest : List ℕ) → text ≡ 47 ∷ 47 ∷ body ++ rest → Runs is_inside_line body rest → PlainView before place text (found (comment (47 ∷ 47 ∷ body)))
line_view before place text body rest e run =
    let n : prefix_len is_inside_line (drop 2 text) ≡ length body = ap (λ l. prefix_len is_inside_line (drop 2 l)) e ∙ run_only is_inside_line body rest run in
    let size : 2 + length body ≡ length (47 ∷ 47 ∷ body) = omega arith in
    let cut : take (2 + prefix_len is_inside_line (drop 2 text)) text ≡ 47 ∷ 47 ∷ body = take_seam (47 ∷ 47 ∷ body) rest text (2 + prefix_len is_inside_line (drop 2 text)) e (ap (λ k. 2 + k) n ∙ size) in
    plain_view before place text (found (comment (47 ∷ 47 ∷ body))) comments (ap shape e ∙ comment_shape 47 (body ++ rest) refl) tt
    (ap (λ l. found (comment l)) (sym cut) ∙ sym (if_true (get_or text 1 0 == 47) (found (comment (take (2 + prefix_len is_inside_line (drop 2 text)) text))) (block_outcome place text (block_len 1 (drop 2 text))) (ap (λ l. get_or l 1 0 == 47) e)))

-- a block comment, by what its length is
block_view : (before : Before) (place : ℕ) (text body : List ℕ) (o : Option ℕ) → text ≡ 47 ∷ 42 ∷ body → block_len 1 body ≡ o → PlainView before place text (block_outcome place text o)
block_view before place text body o e n =
    plain_view before place text (block_outcome place text o) comments (ap shape e ∙ comment_shape 42 body refl) tt
    (ap (block_outcome place text) (sym n ∙ ap (λ l. block_len 1 (drop 2 l)) (sym e)) ∙ sym (if_false (get_or text 1 0 == 47) (found (comment (take (2 + prefix_len is_inside_line (drop 2 text)) text))) (block_outcome place text (block_len 1 (drop 2 text))) (ap (λ l. get_or l 1 0 == 47) e)))

closed_block_view : (before : Before) (place : ℕ) (text body rest : List ℕ) → text ≡ 47 ∷ 42 ∷ body ++ rest → closes 1 body ≡ true → PlainView before place text (found (comment (47 ∷ 42 ∷ body)))
closed_block_view before place text body rest e h =
    let size : 2 + length body ≡ length (47 ∷ 42 ∷ body) = omega arith in
    let cut : take (2 + length body) text ≡ 47 ∷ 42 ∷ body = take_seam (47 ∷ 42 ∷ body) rest text (2 + length body) e size in
    subst (PlainView before place text) (ap (λ l. found (comment l)) cut) (block_view before place text (body ++ rest) (Some (length body)) e (block_only 1 body rest (omega arith) h))

name_starts : (name rest : List ℕ) → is_name name ≡ true → shape (name ++ rest) ≡ names
name_starts [] rest h = absurd (cc)
name_starts (b ∷ name) rest h = name_shape b (name ++ rest) (and_true (is_name_start b) (list_all is_name_byte (b ∷ name)) h).0

name_view : (before : Before) (place : ℕ) (name rest : List ℕ) (kind : TokenKind) → is_name name ≡ true → begins is_name_byte rest ≡ false → kind ≡ kind_of_name name (word_of name) → PlainView before place (name ++ rest) (found (token kind name))
name_view before place name rest kind is ends_ e =
    let all = (and_true (begins is_name_start name) (list_all is_name_byte name) is).1 in
    let n : prefix_len is_name_byte (name ++ rest) ≡ length name = run_only is_name_byte name rest (record { passes = all; stops = ends_ }) in
    let cut : take (prefix_len is_name_byte (name ++ rest)) (name ++ rest) ≡ name = take_seam name rest (name ++ rest) (prefix_len is_name_byte (name ++ rest)) refl n in
    plain_view before place (name ++ rest) (found (token kind name)) names (name_starts name rest is) tt (ap (λ k. found (token k name)) e ∙ ap name_outcome (sym cut))

identifier_kind : (name : List ℕ) → (not (bytes_eq name (95 ∷ [])) && is_none (word_of name)) ≡ true → identifier name ≡ kind_of_name name (word_of name)
identifier_kind name h = by_word (word_of name) (and_true (not (bytes_eq name (95 ∷ []))) (is_none (word_of name)) h).0 (and_true (not (bytes_eq name (95 ∷ []))) (is_none (word_of name)) h).1
  where
    by_word : (o : Option Word) → not (bytes_eq name (95 ∷ [])) ≡ true → is_none o ≡ true → identifier name ≡ kind_of_name name o
    by_word (Some word) g f = absurd (cc)
    by_word None g f = sym (if_false (bytes_eq name (95 ∷ [])) (t.Mark m.Underscore) (identifier name) (not_true (bytes_eq name (95 ∷ [])) g))

no_word : word_of (95 ∷ []) ≡ None
unfolding word_of reserved_words
no_word = refl

digit_no_name : (b : ℕ) → is_digit 10 b ≡ true → is_name_start b ≡ false
digit_no_name b h =
    let small = digit_below b h in
    let low : (k : ℕ) → 58 ≤ k → nat_le k b ≡ false = λ k least. tested (nat_le k b) (λ holds. let m = leb-true k b holds in absurd (omega arith)) (λ fails. fails) in
    let other : (b == 95) ≡ false = tested (b == 95) (λ same. let e = eqb-true b 95 same in absurd (omega arith)) (λ differs. differs) in
    or_of_false ((nat_le 65 b && nat_le b 90) || (nat_le 97 b && nat_le b 122)) (b == 95)
    (or_of_false (nat_le 65 b && nat_le b 90) (nat_le 97 b && nat_le b 122) (ap (λ z. z && nat_le b 90) (low 65 (omega arith))) (ap (λ z. z && nat_le b 122) (low 97 (omega arith)))) other

digit_shape : (b : ℕ) (text : List ℕ) → is_digit 10 b ≡ true → shape (b ∷ text) ≡ numbers
digit_shape b text h =
    let differs : (k : ℕ) → is_digit 10 k ≡ false → (b == k) ≡ false = λ k g. tested (b == k) (λ same. true_is_not_false (ap (is_digit 10) (sym (eqb-true b k same)) ∙ h) g) (λ other. other) in
    let no_blank : is_blank b ≡ false = or_of_false ((b == 32 || b == 9) || b == 13) (b == 10) (or_of_false (b == 32 || b == 9) (b == 13) (or_of_false (b == 32) (b == 9) (differs 32 refl) (differs 9 refl)) (differs 13 refl)) (differs 10 refl) in
    other_shape b text no_blank (not_slash b text (differs 47 refl)) ∙ if_false (is_name_start b) names _ (digit_no_name b h) ∙ if_true (is_digit 10 b) numbers _ h

number_shape : (text rest : List ℕ) (n : ℕ) → IsNumber text n rest → shape (text ++ rest) ≡ numbers
number_shape [] rest n (inl (h, v, e, p)) = absurd (cc)
number_shape (b ∷ text) rest n (inl (h, v, e, p)) = digit_shape b (text ++ rest) (and_true (is_digit 10 b) (are_digits 10 (b ∷ text)) h).0
number_shape text rest n (inr (digits, e, numeral, v, g)) = ap (λ l. shape (l ++ rest)) e ∙ digit_shape 48 (120 ∷ digits ++ rest) refl

number_cut : (text rest : List ℕ) (n : ℕ) → NumberOnly text rest n → take (number_len (text ++ rest)) (text ++ rest) ≡ text
number_cut text rest n only = take_seam text rest (text ++ rest) (number_len (text ++ rest)) refl only.len_is

number_view : (before : Before) (place : ℕ) (text rest : List ℕ) (n : ℕ) → IsNumber text n rest → n < 18446744073709551616 → PlainView before place (text ++ rest) (found (token (t.Number n) text))
number_view before place text rest n h small =
    let only = number_only text rest n h in
    plain_view before place (text ++ rest) (found (token (t.Number n) text)) numbers (number_shape text rest n h) tt
    (sym (ap (number_outcome place (text ++ rest) (number_len (text ++ rest))) only.value_is ∙ if_true (nat_lt n 18446744073709551616) _ (met (WideNumber place)) (lt-ltb n 18446744073709551616 small) ∙ ap (λ l. found (token (t.Number n) l)) (number_cut text rest n only)))

wide_view : (before : Before) (place : ℕ) (text rest : List ℕ) (n : ℕ) → IsNumber text n rest → 18446744073709551616 ≤ n → PlainView before place (text ++ rest) (met (WideNumber place))
wide_view before place text rest n h wide =
    let only = number_only text rest n h in
    let large : nat_lt n 18446744073709551616 ≡ false = tested (nat_lt n 18446744073709551616) (λ small. let s = ltb-true n 18446744073709551616 small in absurd (omega arith)) (λ large. large) in
    plain_view before place (text ++ rest) (met (WideNumber place)) numbers (number_shape text rest n h) tt
    (sym (ap (number_outcome place (text ++ rest) (number_len (text ++ rest))) only.value_is ∙ if_false (nat_lt n 18446744073709551616) (found (token (t.Number n) (take (number_len (text ++ rest)) (text ++ rest)))) (met (WideNumber place)) large))

mark_view : (before : Before) (place : ℕ) (mark : Mark) (rest : List ℕ) → (IsUnderscore mark → ⊥) → IsLongestMark mark rest → begins_comment (mark_text mark ++ rest) ≡ false → Fits before mark rest →
    PlainView before place (mark_text mark ++ rest) (found (token (t.Mark mark) (mark_text mark)))
mark_view before place mark rest other longest no_slash fits =
    let text : List ℕ = mark_text mark ++ rest in
    let is : mark_at text ≡ Some (plain mark) = mark_only mark rest other longest in
    let cut : drop (length (mark_text (plain mark))) text ≡ rest = drop_seam (mark_text mark) rest text (length (mark_text (plain mark))) refl (ap length (plain_text mark)) in
    let context : in_context before (plain mark) (drop (length (mark_text (plain mark))) text) ≡ mark = ap (in_context before (plain mark)) cut ∙ context_only before mark rest fits in
    plain_view before place text (found (token (t.Mark mark) (mark_text mark))) signs (sign_shape mark rest other no_slash) tt
    (sym (ap (sign_outcome before place text) is ∙ ap (λ k. found (token (t.Mark k) (mark_text (plain mark)))) context ∙ ap (λ l. found (token (t.Mark mark) l)) (plain_text mark)))

under_split : (mark : Mark) → (IsUnderscore mark → ⊥) ⊎ (mark ≡ m.Underscore)
under_split m.Underscore = inr refl
under_split _ = inl (λ h. h)

mark_text_view : (before : Before) (place : ℕ) (mark : Mark) (rest : List ℕ) → IsLongestMark mark rest → begins_comment (mark_text mark ++ rest) ≡ false → Fits before mark rest →
    PlainView before place (mark_text mark ++ rest) (found (token (t.Mark mark) (mark_text mark)))
mark_text_view before place mark rest longest no_slash fits = ⊎_elim
    (λ other. mark_view before place mark rest other longest no_slash fits)
    (λ low. let fits_low : begins is_name_byte rest ≡ false = subst (λ k. Fits before k rest) low fits in
    subst (λ k. PlainView before place (mark_text k ++ rest) (found (token (t.Mark k) (mark_text k)))) (sym low)
    (name_view before place (95 ∷ []) rest (t.Mark m.Underscore) refl fits_low (ap (kind_of_name (95 ∷ [])) (sym no_word))))
    (under_split mark)

token_view : (before : Before) (place : ℕ) (kind : TokenKind) (text rest : List ℕ) → IsToken before kind text rest → View before place (text ++ rest) (found (token kind text))
token_view before place (t.Identifier name) text rest (same, is, ends_) =
    let both = and_true (is_name text) (not (bytes_eq text (95 ∷ [])) && is_none (word_of text)) is in
    inl (name_view before place text rest (t.Identifier name) both.0 ends_ (ap t.Identifier same ∙ identifier_kind text both.1))
token_view before place (t.Reserved word) text rest (is_word, is, ends_) =
    inl (name_view before place text rest (t.Reserved word) is ends_ (ap (kind_of_name text) (sym is_word)))
token_view before place (t.Number n) text rest (is, small) = inl (number_view before place text rest n is small)
token_view before place (t.Character c) text rest (inl (is, scalar, q, s, n)) =
    let whole : text ++ rest ≡ 39 ∷ encode_utf8 c ++ 39 ∷ rest = ap (λ l. l ++ rest) is ∙ ap (λ l. 39 ∷ l) (append_assoc (encode_utf8 c) (39 ∷ []) rest) in
    inr (inr (inr (record { inner = encode_utf8 c; c = c; tail = 39 ∷ rest; whole = whole; one = inl (refl, scalar, q, s, n); is = ap (λ l. found (token (t.Character c) l)) is })))
token_view before place (t.Character c) text rest (inr (more, is, good)) =
    let whole : text ++ rest ≡ 39 ∷ (92 ∷ more) ++ 39 ∷ rest = ap (λ l. l ++ rest) is ∙ ap (λ l. 39 ∷ 92 ∷ l) (append_assoc more (39 ∷ []) rest) in
    inr (inr (inr (record { inner = 92 ∷ more; c = c; tail = 39 ∷ rest; whole = whole; one = inr (more, refl, good); is = ap (λ l. found (token (t.Character c) l)) is })))
token_view before place (t.Text value) text rest (at, (items, is, bytes, good)) =
    let whole : text ++ rest ≡ 34 ∷ flat_map item_text items ++ 34 ∷ rest = ap (λ l. l ++ rest) is ∙ ap (λ l. 34 ∷ l) (append_assoc (flat_map item_text items) (34 ∷ []) rest) in
    let same : t.Text value ≡ text_kind (flat_map item_bytes items) = ap (λ p. t.Text (record { bytes = value.bytes; place = p })) at ∙ ap text_kind bytes in
    inr (inl (record { items = items; rest = 34 ∷ rest; opens = (whole, good); stop = stops_quote rest; is = ap (λ l. found (token (t.Text value) l)) is ∙ ap (λ k. found (token k (34 ∷ flat_map item_text items ++ 34 ∷ []))) same }))
token_view before place (t.Mark mark) text rest (is, longest, no_slash, fits) =
    inl (subst (λ l. PlainView before place (l ++ rest) (found (token (t.Mark mark) l))) (sym is)
    (mark_text_view before place mark rest longest (ap (λ l. begins_comment (l ++ rest)) (sym is) ∙ no_slash) fits))

piece_view : (before : Before) (place : ℕ) (piece : Piece) (rest : List ℕ) → Stands before piece rest → View before place (piece_text piece ++ rest) (found piece)
piece_view before place (blank b) rest h = inl (blank_view before place b rest h)
piece_view before place (comment text) rest (inl (body, is, all, ends_)) =
    inl (subst (λ l. PlainView before place (l ++ rest) (found (comment l))) (sym is) (line_view before place (47 ∷ 47 ∷ body ++ rest) body rest refl (record { passes = all; stops = ends_ })))
piece_view before place (comment text) rest (inr (body, is, all)) =
    inl (subst (λ l. PlainView before place (l ++ rest) (found (comment l))) (sym is) (closed_block_view before place (47 ∷ 42 ∷ body ++ rest) body rest refl all))
piece_view before place (token kind text) rest h = token_view before place kind text rest h

text_stop_view : (before : Before) (place : ℕ) (text : List ℕ) (o : Outcome) (items : List Item) (rest : List ℕ) → OpensText text items rest → stops rest ≡ true → o ≡ text_outcome place items rest → View before place text o
text_stop_view before place text o items rest opens stop e = inr (inl (record { items = items; rest = rest; opens = opens; stop = stop; is = e }))

early_view : (before : Before) (place : ℕ) (text : List ℕ) (o : Outcome) (rest : List ℕ) → text ≡ 39 ∷ rest → is_early rest ≡ true → o ≡ early_outcome place rest → View before place text o
early_view before place text o rest whole early e = inr (inr (inl (record { rest = rest; whole = whole; early = early; is = e })))

late_view : (before : Before) (place : ℕ) (text : List ℕ) (o : Outcome) (inner : List ℕ) (c : ℕ) (tail : List ℕ) → text ≡ 39 ∷ inner ++ tail → IsOne inner c → o ≡ quote_outcome place inner c tail → View before place text o
late_view before place text o inner c tail whole one e = inr (inr (inr (record { inner = inner; c = c; tail = tail; whole = whole; one = one; is = e })))

-- a byte that begins nothing: no mark is found, and it has the shape of one
slash_mark : (b : ℕ) → ((mark : Mark) (more : List ℕ) → mark_text mark ≢ b ∷ more) → (b == 47) ≡ false
slash_mark b no_one = tested (b == 47) (λ slash. absurd (no_one m.Slash [] (ap (λ x. x ∷ []) (sym (eqb-true b 47 slash))))) (λ other. other)

nothing_view : (before : Before) (place b : ℕ) (rest : List ℕ) → BeginsNothing b → PlainView before place (b ∷ rest) (met (BadByte place))
nothing_view before place b rest h =
    let differs : (k : ℕ) → (b ≡ k → ⊥) → (b == k) ≡ false = λ k other. tested (b == k) (λ same. absurd (other (eqb-true b k same))) (λ differs. differs) in
    let is_sign : shape_of b ≡ signs = if_false (is_name_start b) names _ h.no_other.no_name ∙ if_false (is_digit 10 b) numbers _ h.no_other.no_number ∙ if_false (b == 39) quotes _ (differs 39 h.no_other.no_character) ∙ if_false (b == 34) texts signs (differs 34 h.no_other.no_text) in
    plain_view before place (b ∷ rest) (met (BadByte place)) signs (other_shape b rest h.no_other.no_blank (not_slash b rest (slash_mark b h.no_mark)) ∙ is_sign) tt
    (ap (sign_outcome before place (b ∷ rest)) (sym (no_mark_found b rest h.no_mark)))

met_view : (before : Before) (place : ℕ) (text : List ℕ) (fault : LexFault) → MeetsAt place text fault → View before place text (met fault)
met_view before place text (BadByte at) (e, b, rest, whole, h) =
    inl (subst (λ l. PlainView before place l (met (BadByte at))) (sym whole) (subst (λ k. PlainView before place (b ∷ rest) (met (BadByte k))) (sym e) (nothing_view before place b rest h)))
met_view before place text (OpenComment at) h = absurd h
met_view before place text (OpenText at) (e, inl (items, rest, opens)) = text_stop_view before place text (met (OpenText at)) items (10 ∷ rest) opens (stops_newline rest) (ap (λ k. met (OpenText k)) e)
met_view before place text (OpenText at) (e, inr (inl (rest, inl whole))) = early_view before place text (met (OpenText at)) (39 ∷ rest) whole refl (ap (λ k. met (OpenText k)) e)
met_view before place text (OpenText at) (e, inr (inl (rest, inr whole))) = early_view before place text (met (OpenText at)) (10 ∷ rest) whole refl (ap (λ k. met (OpenText k)) e)
met_view before place text (OpenText at) (e, inr (inr (inner, c, b, rest, whole, one, other))) =
    let differs : (b == 39) ≡ false = tested (b == 39) (λ same. absurd (other (eqb-true b 39 same))) (λ differs. differs) in
    late_view before place text (met (OpenText at)) inner c (b ∷ rest) whole one
    (ap (λ k. met (OpenText k)) e ∙ sym (if_false (b == 39) (found (token (t.Character c) (39 ∷ inner ++ 39 ∷ []))) (met (OpenText place)) differs))
met_view before place text (BadEscape at) (inl (items, rest, opens, e, bad)) =
    text_stop_view before place text (met (BadEscape at)) items (92 ∷ rest) opens (stops_bad rest bad) (ap (λ k. met (BadEscape k)) e ∙ sym (ap (escape_outcome (place + 1 + length (flat_map item_text items))) bad))
met_view before place text (BadEscape at) (inr (rest, whole, e, bad)) =
    early_view before place text (met (BadEscape at)) (92 ∷ rest) whole (ap no_scalar bad) (ap (λ k. met (BadEscape k)) e ∙ sym (ap (escape_outcome (place + 1)) bad))
met_view before place text (WideNumber at) (e, digits, n, rest, whole, is, wide) =
    inl (subst (λ l. PlainView before place l (met (WideNumber at))) (sym whole) (subst (λ k. PlainView before place (digits ++ rest) (met (WideNumber k))) (sym e) (wide_view before place digits rest n is wide)))
met_view before place text SourceTooLong h = absurd h
met_view before place text Memory h = absurd h

ends_view : (before : Before) (place : ℕ) (text : List ℕ) (fault : LexFault) → EndsAt place text fault → View before place text (ends fault)
ends_view before place text (OpenComment at) (e, body, whole, open_) =
    inl (subst (λ k. PlainView before place text (ends (OpenComment k))) (sym e) (block_view before place text body None whole (never_closes body open_)))
ends_view before place text (OpenText at) (e, inl (items, opens)) = text_stop_view before place text (ends (OpenText at)) items [] opens stops_nil (ap (λ k. ends (OpenText k)) e)
ends_view before place text (OpenText at) (e, inr (inl whole)) = early_view before place text (ends (OpenText at)) [] whole refl (ap (λ k. ends (OpenText k)) e)
ends_view before place text (OpenText at) (e, inr (inr (inner, c, whole, one))) =
    late_view before place text (ends (OpenText at)) inner c [] (whole ∙ ap (λ l. 39 ∷ l) (sym (append-nil inner))) one (ap (λ k. ends (OpenText k)) e)
ends_view before place text (BadEscape at) (inl (items, rest, opens, e, bad)) =
    text_stop_view before place text (ends (BadEscape at)) items (92 ∷ rest) opens (stops_ends rest bad) (ap (λ k. ends (BadEscape k)) e ∙ sym (ap (escape_outcome (place + 1 + length (flat_map item_text items))) bad))
ends_view before place text (BadEscape at) (inr (rest, whole, e, bad)) =
    early_view before place text (ends (BadEscape at)) (92 ∷ rest) whole (ap no_scalar bad) (ap (λ k. ends (BadEscape k)) e ∙ sym (ap (escape_outcome (place + 1)) bad))
ends_view before place text (BadByte at) h = absurd h
ends_view before place text (WideNumber at) h = absurd h
ends_view before place text SourceTooLong h = absurd h
ends_view before place text Memory h = absurd h

at_view : (before : Before) (place : ℕ) (text : List ℕ) (o : Outcome) → At before place text o → View before place text o
at_view before place text (found piece) (rest, e, h) = subst (λ l. View before place l (found piece)) (sym e) (piece_view before place piece rest h)
at_view before place text (met fault) h = met_view before place text fault h
at_view before place text (ends fault) h = ends_view before place text fault h
at_view before place text none h = absurd h

-- one thing stands at a place
pub one_outcome : (before : Before) (place : ℕ) (text : List ℕ) (o p : Outcome) → At before place text o → At before place text p → o ≡ p
one_outcome before place text o p g h = one_view before place text o p (at_view before place text o g) (at_view before place text p h)

-- and nothing at the end
view_nothing : (before : Before) (place : ℕ) (o : Outcome) → View before place [] o → o ≡ none
view_nothing before place o (inl v) = v.is
view_nothing before place o (inr (inl v)) = let e = v.opens.0 in absurd (cc)
view_nothing before place o (inr (inr (inl v))) = let e = v.whole in absurd (cc)
view_nothing before place o (inr (inr (inr v))) = let e = v.whole in absurd (cc)

pub nothing_at_end : (before : Before) (place : ℕ) (o : Outcome) → At before place [] o → ⊥
nothing_at_end before place o h = subst (At before place []) (view_nothing before place o (at_view before place [] o h)) h
