-- The tokens written so far are the tokens of the text so far, whatever is written next.
use Rattle.std.proofs.Common.{◌≡◌, ℕ, suc, ◌+◌, ◌<◌, ◌≤◌, take, drop, get_or, add-one, drop-cons, Bool, true, false, List, [], ◌∷◌, ◌++◌, length, map, refl, sym, ap, ◌∙◌, subst, inl, inr, append_assoc}
use Rattle.std.specs.Prelude.{codes}
use Rattle.std.proofs.lemmas.Str.{IsUtf8-from_ascii}
use Rattle.std.proofs.lemmas.List.{append-nil, map-append, take_more, take_all, drop_all}
use Rattle.mo_syntax.specs.Lexed.{begins_identifier, IsComment, Piece, blank, comment, token, piece_text, Stands, before_next, text_of, AllStand, tokens_from}
use Rattle.mo_syntax.specs.declared.mark.Mark.{Mark}
use Rattle.mo_syntax.specs.declared.mark.Mark.TheVariants as m
use Rattle.mo_syntax.specs.declared.before.Before.{Before}
use Rattle.mo_syntax.specs.declared.before.Before.TheVariants as beside
use Rattle.mo_syntax.specs.declared.word.Word.{Word}
use Rattle.mo_syntax.specs.declared.word.Word.TheVariants as w
use Rattle.mo_syntax.specs.declared.token.Token.{Token}
use Rattle.mo_syntax.specs.declared.token.TokenKind.{TokenKind}
use Rattle.mo_syntax.specs.declared.token.TokenKind.TheVariants as t
use Rattle.mo_syntax.specs.declared.place.Place.{Place}
use Rattle.mo_syntax.specs.Tokens.{before_of, before_of_word, before_of_mark, placed, plain, nowhere}
use Rattle.mo_lexer.specs.Faults.{before_after}
use Rattle.mo_unparse.specs.declared.last.Last.{Last}
use Rattle.mo_unparse.specs.declared.last.Last.TheVariants as last
use Rattle.mo_unparse.specs.Spelling.{IsSpelling, AddsNext, gap, is_angle, last_of, last_of_word, last_of_mark}
use Rattle.mo_unparse.specs.Writable.{IsOfLanguage, LeadsIdentifier, GoesOn, MarkGoesOn, AreWritable, LexesTo}
use Rattle.mo_unparse.proofs.ByteLemmas.{AreLow, low_append, low_is_ascii}
use Rattle.mo_unparse.proofs.BesideLemmas.{Follows, suits_blank, suits_other, NotBlank, angle_text, name_leads}
use Rattle.mo_unparse.proofs.TokenLemmas.{token_stands, token_low}

-- ---- pieces one after another

text_append : (ps qs : List Piece) → text_of (ps ++ qs) ≡ text_of ps ++ text_of qs
text_append [] qs = refl
text_append (p ∷ ps) qs = ap (λ l. piece_text p ++ l) (text_append ps qs) ∙ sym (append_assoc (piece_text p) (text_of ps) (text_of qs))

stand_append : (before : Before) (ps qs : List Piece) (rest : List ℕ) → AllStand before ps (text_of qs ++ rest) → AllStand (before_after before ps) qs rest → AllStand before (ps ++ qs) rest
stand_append before [] qs rest front back = back
stand_append before (p ∷ ps) qs rest front back =
    let same : text_of (ps ++ qs) ++ rest ≡ text_of ps ++ (text_of qs ++ rest) = ap (λ l. l ++ rest) (text_append ps qs) ∙ append_assoc (text_of ps) (text_of qs) rest in
    (subst (Stands before p) (sym same) front.0, stand_append (before_next p) ps qs rest front.1 back)

before_append : (before : Before) (ps qs : List Piece) → before_after before (ps ++ qs) ≡ before_after (before_after before ps) qs
before_append before [] qs = refl
before_append before (p ∷ ps) qs = before_append (before_next p) ps qs

abbrev pub kinds_of : List Piece → List TokenKind
kinds_of [] = []
kinds_of (blank b ∷ ps) = kinds_of ps
kinds_of (comment text ∷ ps) = kinds_of ps
kinds_of (token kind text ∷ ps) = kind ∷ kinds_of ps

kinds_append : (ps qs : List Piece) → kinds_of (ps ++ qs) ≡ kinds_of ps ++ kinds_of qs
kinds_append [] qs = refl
kinds_append (blank b ∷ ps) qs = kinds_append ps qs
kinds_append (comment text ∷ ps) qs = kinds_append ps qs
kinds_append (token kind text ∷ ps) qs = ap (λ l. kind ∷ l) (kinds_append ps qs)

-- a name or text that is placed anew is the same but for its place
plain_placed : (place : Place) (kind : TokenKind) → plain (placed place kind) ≡ plain kind
plain_placed place (t.Identifier name) = refl
plain_placed place (t.Reserved word) = refl
plain_placed place (t.Number n) = refl
plain_placed place (t.Character c) = refl
plain_placed place (t.Text value) = refl
plain_placed place (t.Mark mark) = refl

pub kinds_listed : (place : ℕ) (ps : List Piece) → map (λ (x : Token). plain x.kind) (tokens_from place ps) ≡ map plain (kinds_of ps)
kinds_listed place [] = refl
kinds_listed place (blank b ∷ ps) = kinds_listed (place + 1) ps
kinds_listed place (comment text ∷ ps) = kinds_listed (place + length text) ps
kinds_listed place (token kind text ∷ ps) =
    ap (λ l. plain (placed (record { start = place; «end» = place + length text }) kind) ∷ l) (kinds_listed (place + length text) ps)
    ∙ ap (λ k. k ∷ map plain (kinds_of ps)) (plain_placed (record { start = place; «end» = place + length text }) kind)

-- ---- one more token

-- what the last token leaves before the next place, where it matters
abbrev pub Leaves : Last → Before → Type 0
Leaves last.Tag before = Unit {0}
Leaves last.Operand before = before ≡ beside.Operand
Leaves last.Other before = Unit {0}

leaves_word : (word : Word) → Leaves (last_of_word word) (before_of_word word)
leaves_word w.True = refl
leaves_word w.False = refl
leaves_word w.Null = refl
leaves_word _ = tt

leaves_mark : (mark : Mark) → Leaves (last_of_mark mark) (before_of_mark mark)
leaves_mark m.ParenClose = refl
leaves_mark m.BracketClose = refl
leaves_mark m.BraceClose = refl
leaves_mark m.AngleClose = refl
leaves_mark _ = tt

leaves : (kind : TokenKind) → Leaves (last_of kind) (before_of (plain kind))
leaves (t.Identifier name) = refl
leaves (t.Reserved word) = leaves_word word
leaves (t.Number n) = refl
leaves (t.Character c) = refl
leaves (t.Text value) = refl
leaves (t.Mark mark) = leaves_mark mark

abbrev pub LeadsAfter : Last → List TokenKind → Type 0
LeadsAfter last.Tag kinds = LeadsIdentifier kinds
LeadsAfter last.Operand kinds = Unit {0}
LeadsAfter last.Other kinds = Unit {0}

leads_word : (word : Word) (kinds : List TokenKind) → LeadsAfter (last_of_word word) kinds
leads_word w.True kinds = tt
leads_word w.False kinds = tt
leads_word w.Null kinds = tt
leads_word _ kinds = tt

leads_mark : (mark : Mark) (kinds : List TokenKind) → MarkGoesOn mark kinds → LeadsAfter (last_of_mark mark) kinds
leads_mark m.Tag kinds h = h
leads_mark m.ParenClose kinds h = tt
leads_mark m.BracketClose kinds h = tt
leads_mark m.BraceClose kinds h = tt
leads_mark m.AngleClose kinds h = tt
leads_mark _ kinds h = tt

leads : (kind : TokenKind) (kinds : List TokenKind) → GoesOn kind kinds → LeadsAfter (last_of kind) kinds
leads (t.Identifier name) kinds h = tt
leads (t.Reserved word) kinds h = leads_word word kinds
leads (t.Number n) kinds h = tt
leads (t.Character c) kinds h = tt
leads (t.Text value) kinds h = tt
leads (t.Mark mark) kinds h = leads_mark mark kinds h

-- the token's piece, whose name or text stands nowhere, and what is in front of it
abbrev next : Last → Bool → TokenKind → List ℕ → List Piece
next l angle kind text = gap l angle ++ token (plain kind) text ∷ []

-- the pieces of the next token stand where they are, and may follow
record Fitting (l : Last) (before : Before) (pieces : List Piece) (rest : List ℕ) : Type 0 where
  follow : Follows l (text_of pieces ++ rest)
  stand : AllStand before pieces rest

comment_is : (rest : List ℕ) → IsComment (codes "/**/") rest
comment_is rest = inr (codes "*/", refl, refl)

one_text : (text rest : List ℕ) → (text ++ []) ++ rest ≡ text ++ rest
one_text text rest = ap (λ l. l ++ rest) (append-nil text)

tagged : (before : Before) (kind : TokenKind) (kinds : List TokenKind) (text rest : List ℕ) → LeadsIdentifier (kind ∷ kinds) → IsOfLanguage kind → IsSpelling kind text → Follows (last_of kind) rest →
    Fitting last.Tag before (token (plain kind) text ∷ []) rest
tagged before (t.Identifier name) kinds text rest h is e f = record {
  follow = ap begins_identifier (one_text text rest ∙ ap (λ l. l ++ rest) e) ∙ name_leads name.bytes rest is f;
  stand = (token_stands before (t.Identifier name) text rest is e tt f, tt);
}
tagged before _ kinds text rest h is e f = absurd h

spaced : (l : Last) (before : Before) (kind : TokenKind) (text rest : List ℕ) → ((r : List ℕ) → Follows l (32 ∷ r)) → is_angle kind ≡ false → IsOfLanguage kind → IsSpelling kind text → Follows (last_of kind) rest →
    Fitting l before (blank 32 ∷ token (plain kind) text ∷ []) rest
spaced l before kind text rest blank_follows a is e f = record {
  follow = blank_follows ((text ++ []) ++ rest);
  stand = (refl, (token_stands beside.Blank kind text rest is e (suits_blank kind a) f, tt));
}

fitting : (l : Last) (before : Before) (kind : TokenKind) (kinds : List TokenKind) (text rest : List ℕ) (angle : Bool) → is_angle kind ≡ angle → LeadsAfter l (kind ∷ kinds) → Leaves l before → IsOfLanguage kind → IsSpelling kind text → Follows (last_of kind) rest →
    Fitting l before (next l angle kind text) rest
fitting last.Tag before kind kinds text rest angle a lead leave is e f = tagged before kind kinds text rest lead is e f
fitting last.Operand before kind kinds text rest true a lead leave is e f = record {
  follow = subst (Follows last.Operand) (sym (one_text text rest)) (angle_text kind text rest a e);
  stand = (token_stands before kind text rest is e (suits_other before kind (subst NotBlank (sym leave) tt) a) f, tt);
}
fitting last.Operand before kind kinds text rest false a lead leave is e f = spaced last.Operand before kind text rest (λ r. inl (inl (r, refl))) a is e f
fitting last.Other before kind kinds text rest true a lead leave is e f = record {
  follow = inl (codes "/**/" ++ (text ++ []) ++ rest, refl);
  stand = (refl, (comment_is (text_of (token kind text ∷ []) ++ rest), (token_stands beside.Other kind text rest is e (suits_other beside.Other kind tt a) f, tt)));
}
fitting last.Other before kind kinds text rest false a lead leave is e f = spaced last.Other before kind text rest (λ r. inl (r, refl)) a is e f

gap_low : (l : Last) (angle : Bool) → AreLow (text_of (gap l angle))
gap_low last.Tag angle = refl
gap_low last.Operand true = refl
gap_low last.Operand false = refl
gap_low last.Other true = refl
gap_low last.Other false = refl

next_text : (l : Last) (angle : Bool) (kind : TokenKind) (text : List ℕ) → text_of (next l angle kind text) ≡ text_of (gap l angle) ++ text
next_text l angle kind text = text_append (gap l angle) (token (plain kind) text ∷ []) ∙ ap (λ z. text_of (gap l angle) ++ z) (append-nil text)

next_kinds : (l : Last) (angle : Bool) (kind : TokenKind) (text : List ℕ) → kinds_of (next l angle kind text) ≡ plain kind ∷ []
next_kinds last.Tag angle kind text = refl
next_kinds last.Operand true kind text = refl
next_kinds last.Operand false kind text = refl
next_kinds last.Other true kind text = refl
next_kinds last.Other false kind text = refl

-- ---- the tokens so far

pub record Going (done to_do : List TokenKind) (l : Last) (out : List ℕ) : Type 0 where
  pub pieces : List Piece
  pub whole : out ≡ text_of pieces
  pub low : AreLow out
  pub listed : map plain (kinds_of pieces) ≡ map plain done
  pub stand : (rest : List ℕ) → Follows l rest → AllStand beside.Other pieces rest
  pub leave : Leaves l (before_after beside.Other pieces)
  pub able : AreWritable to_do
  pub lead : LeadsAfter l to_do

pub start : (kinds : List TokenKind) → AreWritable kinds → Going [] kinds last.Other []
start kinds h = record { pieces = []; whole = refl; low = refl; listed = refl; stand = λ rest f. tt; leave = tt; able = h; lead = tt }

pub go_on : (done : List TokenKind) (kind : TokenKind) (to_do : List TokenKind) (l : Last) (out new : List ℕ) → Going done (kind ∷ to_do) l out → AddsNext l kind out new → Going (done ++ kind ∷ []) to_do (last_of kind) new
go_on done kind to_do l out new g a =
    let here : Before = before_after beside.Other g.pieces in
    let more : List Piece = next l (is_angle kind) kind a.text in
    let fit : (rest : List ℕ) → Follows (last_of kind) rest → Fitting l here more rest = λ rest f. fitting l here kind to_do a.text rest (is_angle kind) refl g.lead g.leave g.able.0.0 a.spells f in
    let added : new ≡ out ++ text_of more = a.added ∙ ap (λ z. out ++ z) (sym (next_text l (is_angle kind) kind a.text)) in
    record {
      pieces = g.pieces ++ more;
      whole = added ∙ ap (λ z. z ++ text_of more) g.whole ∙ sym (text_append g.pieces more);
      low = subst AreLow (sym a.added) (low_append out (text_of (gap l (is_angle kind)) ++ a.text) g.low (low_append (text_of (gap l (is_angle kind))) a.text (gap_low l (is_angle kind)) (token_low kind a.text g.able.0.0 a.spells)));
      listed =
          ap (map plain) (kinds_append g.pieces more ∙ ap (λ z. kinds_of g.pieces ++ z) (next_kinds l (is_angle kind) kind a.text))
          ∙ map-append plain (kinds_of g.pieces) (plain kind ∷ []) ∙ ap (λ z. z ++ plain (plain kind) ∷ []) g.listed ∙ ap (λ k. map plain done ++ k ∷ []) (plain_placed nowhere kind)
          ∙ sym (map-append plain done (kind ∷ []));
      stand = λ rest f. let x = fit rest f in stand_append beside.Other g.pieces more rest (g.stand (text_of more ++ rest) x.follow) x.stand;
      leave = subst (Leaves (last_of kind)) (sym (before_append beside.Other g.pieces more ∙ before_append here (gap l (is_angle kind)) (token (plain kind) a.text ∷ []))) (leaves kind);
      able = (g.able.0.1, g.able.1.1);
      lead = leads kind to_do g.able.1.0;
    }

line_follows : (l : Last) → LeadsAfter l [] → Follows l (10 ∷ [])
line_follows last.Tag h = absurd h
line_follows last.Operand h = inl (inr ([], refl))
line_follows last.Other h = inr ([], refl)

pub finish : (done : List TokenKind) (l : Last) (out new : List ℕ) → Going done [] l out → new ≡ out ++ 10 ∷ [] → LexesTo new done
finish done l out new g e =
    let all : List Piece = g.pieces ++ blank 10 ∷ [] in
    record {
      tokens = tokens_from 0 all;
      lexed = record {
        utf8 = IsUtf8-from_ascii new (low_is_ascii new (subst AreLow (sym e) (low_append out (10 ∷ []) g.low refl)));
        pieces = all;
        whole = e ∙ ap (λ z. z ++ 10 ∷ []) g.whole ∙ sym (text_append g.pieces (blank 10 ∷ []));
        stand = stand_append beside.Other g.pieces (blank 10 ∷ []) [] (g.stand (10 ∷ []) (line_follows l g.lead)) (refl, tt);
        listed = refl;
      };
      kinds_are = kinds_listed 0 all ∙ ap (map plain) (kinds_append g.pieces (blank 10 ∷ []) ∙ append-nil (kinds_of g.pieces)) ∙ g.listed;
    }

-- ---- the loop

pub go_on_at : (kinds : List TokenKind) (i : ℕ) (kind : TokenKind) (l after : Last) (out new : List ℕ) → i < length kinds → kind ≡ get_or kinds i kind →
    (AreWritable kinds → Going (take i kinds) (drop i kinds) l out) → AddsNext l kind out new → after ≡ last_of kind → AreWritable kinds → Going (take (i + 1) kinds) (drop (i + 1) kinds) after new
go_on_at kinds i kind l after out new h is g a e able =
    let tail : drop i kinds ≡ kind ∷ drop (i + 1) kinds = drop-cons kinds i kind h ∙ ap (λ x. x ∷ drop (suc i) kinds) (sym is) ∙ ap (λ k. kind ∷ drop k kinds) (sym (add-one i)) in
    let front : take (i + 1) kinds ≡ take i kinds ++ kind ∷ [] = take_more kinds i kind h ∙ ap (λ x. take i kinds ++ x ∷ []) (sym is) in
    let made = go_on (take i kinds) kind (drop (i + 1) kinds) l out new (subst (λ z. Going (take i kinds) z l out) tail (g able)) a in
    subst (λ z. Going (take (i + 1) kinds) (drop (i + 1) kinds) z new) (sym e) (subst (λ z. Going z (drop (i + 1) kinds) (last_of kind) new) (sym front) made)

pub finish_at : (kinds : List TokenKind) (i : ℕ) (l : Last) (out new : List ℕ) → length kinds ≤ i → (AreWritable kinds → Going (take i kinds) (drop i kinds) l out) → new ≡ out ++ 10 ∷ [] → AreWritable kinds → LexesTo new kinds
finish_at kinds i l out new h g e able =
    let at_end : Going (take i kinds) [] l out = subst (λ z. Going (take i kinds) z l out) (drop_all i kinds h) (g able) in
    finish kinds l out new (subst (λ z. Going z [] l out) (take_all i kinds h) at_end) e
