-- The pieces of a text one after another.
use Rattle.std.proofs.Common.{◌≡◌, ℕ, ◌+◌, ◌≤◌, List, [], ◌∷◌, ◌++◌, length, drop, Option, Some, refl, sym, ap, ◌∙◌, subst, arith, append_assoc, take-append-drop, length-append}
use Rattle.std.specs.Str.{IsUtf8}
use Rattle.std.proofs.lemmas.List.{append-nil, length-take-le, drop_all}
use Rattle.mo_syntax.specs.Lexed.{Piece, blank, comment, token, piece_text, Stands, before_next, text_of, AllStand, tokens_at, tokens_from, Lexed}
use Rattle.mo_syntax.specs.declared.token.Token.{Token}
use Rattle.mo_syntax.specs.declared.token.TokenKind.{TokenKind}
use Rattle.mo_syntax.specs.declared.before.Before.{Before}
use Rattle.mo_syntax.specs.declared.before.Before.TheVariants as beside
use Rattle.mo_lexer.specs.declared.piece.Found.{Found}
use Rattle.mo_lexer.specs.declared.stop.Stop.{Stop}
use Rattle.mo_lexer.specs.declared.stop.Stop.TheVariants as stop
use Rattle.mo_lexer.specs.Found.{PieceIs, kind_of, token_list, StopsAt}
use Rattle.mo_lexer.specs.Faults.{before_after, MeetsAt, EndsAt}
use Rattle.mo_lexer.specs.Answers.{TextStops}
use Rattle.mo_lexer.proofs.EscapeLemmas.{drop_seam}

pub text_push : (pieces : List Piece) (piece : Piece) (rest : List ℕ) → text_of (pieces ++ piece ∷ []) ++ rest ≡ text_of pieces ++ (piece_text piece ++ rest)
text_push [] piece rest = ap (λ l. l ++ rest) (append-nil (piece_text piece))
text_push (x ∷ pieces) piece rest =
    append_assoc (piece_text x) (text_of (pieces ++ piece ∷ [])) rest ∙ ap (λ l. piece_text x ++ l) (text_push pieces piece rest) ∙ sym (append_assoc (piece_text x) (text_of pieces) (piece_text piece ++ rest))

size_push : (pieces : List Piece) (piece : Piece) → length (text_of (pieces ++ piece ∷ [])) ≡ length (text_of pieces) + length (piece_text piece)
size_push pieces piece = ap length (sym (append-nil (text_of (pieces ++ piece ∷ []))) ∙ text_push pieces piece [] ∙ ap (λ l. text_of pieces ++ l) (append-nil (piece_text piece))) ∙ length-append (text_of pieces) (piece_text piece)

stand_push : (before : Before) (pieces : List Piece) (piece : Piece) (rest : List ℕ) → AllStand before pieces (piece_text piece ++ rest) → Stands (before_after before pieces) piece rest → AllStand before (pieces ++ piece ∷ []) rest
stand_push before [] piece rest all here = (here, tt)
stand_push before (x ∷ pieces) piece rest all here =
    (subst (Stands before x) (sym (text_push pieces piece rest)) all.0, stand_push (before_next x) pieces piece rest all.1 here)

before_push : (before : Before) (pieces : List Piece) (piece : Piece) → before_after before (pieces ++ piece ∷ []) ≡ before_next piece
before_push before [] piece = refl
before_push before (x ∷ pieces) piece = before_push (before_next x) pieces piece

tokens_push : (place : ℕ) (pieces : List Piece) (piece : Piece) → tokens_from place (pieces ++ piece ∷ []) ≡ tokens_from place pieces ++ tokens_at (place + length (text_of pieces)) piece
tokens_push place [] piece = append-nil (tokens_at place piece) ∙ (let e : place ≡ place + 0 = omega arith in ap (λ k. tokens_at k piece) e)
tokens_push place (x ∷ pieces) piece =
    let next : ℕ = place + length (piece_text x) in
    let size : length (text_of (x ∷ pieces)) ≡ length (piece_text x) + length (text_of pieces) = length-append (piece_text x) (text_of pieces) in
    let at : next + length (text_of pieces) ≡ place + length (text_of (x ∷ pieces)) = omega arith in
    ap (λ l. tokens_at place x ++ l) (tokens_push next pieces piece ∙ ap (λ k. tokens_from next pieces ++ tokens_at k piece) at) ∙ sym (append_assoc (tokens_at place x) (tokens_from next pieces) (tokens_at (place + length (text_of (x ∷ pieces))) piece))

-- the text up to a place is pieces, and these are its tokens
pub record ReadTo (text : List ℕ) (tokens : List Token) (before : Before) (place : ℕ) : Type 0 where
  pub pieces : List Piece
  pub whole : text ≡ text_of pieces ++ drop place text
  pub stand : AllStand beside.Other pieces (drop place text)
  pub listed : tokens ≡ tokens_from 0 pieces
  pub before_is : before ≡ before_after beside.Other pieces
  pub place_is : place ≡ length (text_of pieces)
  pub within : place ≤ length text

pub read_start : (text : List ℕ) (tokens : List Token) → tokens ≡ [] → ReadTo text tokens beside.Other 0
read_start text tokens e = record { pieces = []; whole = refl; stand = tt; listed = e; before_is = refl; place_is = refl; within = omega arith }

listed_at : (place len : ℕ) (piece : Piece) (kind : Option TokenKind) → kind ≡ kind_of piece → length (piece_text piece) ≡ len → token_list kind place (place + len) ≡ tokens_at place piece
listed_at place len (blank b) kind e n = ap (λ o. token_list o place (place + len)) e
listed_at place len (comment text) kind e n = ap (λ o. token_list o place (place + len)) e
listed_at place len (token k text) kind e n = ap (λ o. token_list o place (place + len)) e ∙ ap (λ j. token_list (Some k) place (place + j)) (sym n)

pub read_piece : (text : List ℕ) (tokens : List Token) (before : Before) (place : ℕ) (found : Found) → ReadTo text tokens before place → PieceIs before (drop place text) found →
    ReadTo text (tokens ++ token_list found.kind place (place + found.len)) found.before (place + found.len)
read_piece text tokens before place found r p =
    let here : List ℕ = drop place text in
    let size : length (piece_text p.piece) ≡ found.len = ap length p.text_is ∙ length-take-le found.len here p.within in
    let split : here ≡ piece_text p.piece ++ drop found.len here = sym (take-append-drop found.len here) ∙ ap (λ l. l ++ drop found.len here) (sym p.text_is) in
    let whole_here : text ≡ text_of (r.pieces ++ p.piece ∷ []) ++ drop found.len here = r.whole ∙ ap (λ l. text_of r.pieces ++ l) split ∙ sym (text_push r.pieces p.piece (drop found.len here)) in
    let count : length (text_of (r.pieces ++ p.piece ∷ [])) ≡ length (text_of r.pieces) + length (piece_text p.piece) = size_push r.pieces p.piece in
    let place_new : place + found.len ≡ length (text_of (r.pieces ++ p.piece ∷ [])) = omega (arith, r.place_is) in
    let rest : drop (place + found.len) text ≡ drop found.len here = drop_seam (text_of (r.pieces ++ p.piece ∷ [])) (drop found.len here) text (place + found.len) whole_here place_new in
    let long : length text ≡ length (text_of (r.pieces ++ p.piece ∷ [])) + length (drop found.len here) = ap length whole_here ∙ length-append (text_of (r.pieces ++ p.piece ∷ [])) (drop found.len here) in
    let all : AllStand beside.Other (r.pieces ++ p.piece ∷ []) (drop found.len here) =
    stand_push beside.Other r.pieces p.piece (drop found.len here) (subst (AllStand beside.Other r.pieces) split r.stand) (subst (λ x. Stands x p.piece (drop found.len here)) r.before_is p.stands) in
    record {
      pieces = r.pieces ++ p.piece ∷ [];
      whole = whole_here ∙ ap (λ l. text_of (r.pieces ++ p.piece ∷ []) ++ l) (sym rest);
      stand = subst (AllStand beside.Other (r.pieces ++ p.piece ∷ [])) (sym rest) all;
      listed = ap (λ l. tokens ++ l) (listed_at place found.len p.piece found.kind p.kind_is size) ∙ ap (λ l. l ++ tokens_at place p.piece) r.listed ∙ (let z : place ≡ 0 + length (text_of r.pieces) = omega (arith, r.place_is) in ap (λ k. tokens_from 0 r.pieces ++ tokens_at k p.piece) z) ∙ sym (tokens_push 0 r.pieces p.piece);
      before_is = p.before_is ∙ sym (before_push beside.Other r.pieces p.piece);
      place_is = place_new;
      within = omega arith;
    }

pub read_end : (text : List ℕ) (tokens : List Token) (before : Before) (place : ℕ) → ReadTo text tokens before place → length text ≤ place → IsUtf8 text → Lexed text tokens
read_end text tokens before place r h utf8 =
    let none : drop place text ≡ [] = drop_all place text h in
    record { utf8 = utf8; pieces = r.pieces; whole = r.whole ∙ ap (λ l. text_of r.pieces ++ l) none ∙ append-nil (text_of r.pieces); stand = subst (AllStand beside.Other r.pieces) none r.stand; listed = r.listed }

pub read_stops : (text : List ℕ) (tokens : List Token) (before : Before) (place : ℕ) (s : Stop) → ReadTo text tokens before place → StopsAt place (drop place text) s → TextStops text s
read_stops text tokens before place (stop.Met fault) r h = record { pieces = r.pieces; rest = drop place text; whole = r.whole; stand = r.stand; met = subst (λ k. MeetsAt k (drop place text) fault) r.place_is h }
read_stops text tokens before place (stop.AtEnd fault) r h = record { pieces = r.pieces; rest = drop place text; whole = r.whole; stand = r.stand; met = subst (λ k. EndsAt k (drop place text) fault) r.place_is h }
read_stops text tokens before place stop.Memory r h = tt
