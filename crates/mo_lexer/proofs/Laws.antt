-- A source has one list of tokens or one fault, and never both.
use Rattle.std.proofs.Common.{◌≡◌, ℕ, ◌+◌, ◌<◌, ◌≤◌, List, [], ◌∷◌, ◌++◌, length, refl, sym, ap, ◌∙◌, subst, arith, inl, inr, append_assoc, length-append}
use Rattle.std.specs.Prelude.{◌⊎◌, true, not, ◌&&◌, Result, Ok, Err}
use Rattle.std.specs.Result.{IfOk, IfErr}
use Rattle.std.specs.Option.{is_none}
use Rattle.std.specs.Str.{bytes_eq}
use Rattle.mo_syntax.specs.Characters.{is_numeral}
use Rattle.mo_syntax.specs.Words.{word_of}
use Rattle.mo_syntax.specs.Tokens.{AreInOrder, placed}
use Rattle.mo_syntax.specs.declared.token.TokenKind.{TokenKind}
use Rattle.mo_syntax.specs.declared.token.TokenKind.TheVariants as t
use Rattle.mo_lexer.specs.Answers.{Gives, Refuses, IsPlacedAt, ArePlaced}
use Rattle.mo_lexer.proofs.Tools.{and_true}
use Rattle.mo_lexer.proofs.MarkLemmas.{mark_some}
use Rattle.std.proofs.lemmas.List.{append-nil, append_cancel_left}
use Rattle.mo_syntax.specs.Lexed.{is_name, IsToken, Piece, blank, comment, token, piece_text, Stands, before_next, text_of, AllStand, tokens_from, Lexed}
use Rattle.mo_syntax.specs.declared.place.Place.{Place}
use Rattle.mo_syntax.specs.declared.token.Token.{Token}
use Rattle.mo_syntax.specs.declared.before.Before.{Before}
use Rattle.mo_syntax.specs.declared.before.Before.TheVariants as beside
use Rattle.mo_lexer.specs.declared.fault.LexFault.{LexFault}
use Rattle.mo_lexer.specs.declared.fault.LexFault.TheVariants.{Memory}
use Rattle.mo_lexer.specs.Faults.{MeetsAt, EndsAt, Meets, Ends, FirstFault, Faults}
use Rattle.mo_lexer.proofs.FrontLemmas.{one_front, whole_is_front}
use Rattle.mo_lexer.proofs.OneOutcome.{Outcome, found, met, ends, none, At, one_outcome, nothing_at_end}

-- no piece stands here: the end, or a fault
abbrev IsFault : Outcome → Type 0
IsFault (found piece) = ⊥
IsFault (met fault) = Unit {0}
IsFault (ends fault) = Unit {0}
IsFault none = ⊥

abbrev Stuck : List ℕ → Type 0
Stuck text = (text ≡ []) ⊎ ((before : Before) → (place : ℕ) × (o : Outcome) × IsFault o × At before place text o)

same_piece : (p q : Piece) → found p ≡ found q → p ≡ q
same_piece p q h = cc

not_fault : (p : Piece) (o : Outcome) → IsFault o → found p ≡ o → ⊥
not_fault p (found q) f e = f
not_fault p (met fault) f e = absurd (cc)
not_fault p (ends fault) f e = absurd (cc)
not_fault p none f e = f

stuck_has_no_piece : (before : Before) (text : List ℕ) (p : Piece) (rest : List ℕ) → Stuck text → Stands before p rest → text ≡ piece_text p ++ rest → ⊥
stuck_has_no_piece before text p rest (inl none_) h e = nothing_at_end before 0 (found p) (rest, sym none_ ∙ e, h)
stuck_has_no_piece before text p rest (inr stuck) h e =
    let s = stuck before in
    not_fault p s.1 s.2 (one_outcome before s.0 text (found p) s.1 (rest, e, h) s.3)

chain_same : (before : Before) (ps qs : List Piece) (r s : List ℕ) → AllStand before ps r → AllStand before qs s → Stuck r → Stuck s → text_of ps ++ r ≡ text_of qs ++ s → (ps ≡ qs) × (r ≡ s)
chain_same before [] [] r s g h p q e = (refl, e)
chain_same before [] (y ∷ ys) r s g h p q e = absurd (stuck_has_no_piece before r y (text_of ys ++ s) p h.0 (e ∙ append_assoc (piece_text y) (text_of ys) s))
chain_same before (x ∷ xs) [] r s g h p q e = absurd (stuck_has_no_piece before s x (text_of xs ++ r) q g.0 (sym e ∙ append_assoc (piece_text x) (text_of xs) r))
chain_same before (x ∷ xs) (y ∷ ys) r s g h p q e =
    let whole : piece_text x ++ (text_of xs ++ r) ≡ piece_text y ++ (text_of ys ++ s) = sym (append_assoc (piece_text x) (text_of xs) r) ∙ e ∙ append_assoc (piece_text y) (text_of ys) s in
    let same : x ≡ y = same_piece x y (one_outcome before 0 (piece_text x ++ (text_of xs ++ r)) (found x) (found y) (text_of xs ++ r, refl, g.0) (text_of ys ++ s, whole, h.0)) in
    let tail : text_of xs ++ r ≡ text_of ys ++ s = append_cancel_left (piece_text y) (text_of xs ++ r) (text_of ys ++ s) (ap (λ z. piece_text z ++ (text_of xs ++ r)) (sym same) ∙ whole) in
    let more = chain_same (before_next y) xs ys r s (subst (λ z. AllStand (before_next z) xs r) same g.1) h.1 p q tail in
    (ap (λ l. x ∷ l) more.0 ∙ ap (λ z. z ∷ ys) same, more.1)

lexed_whole : (text : List ℕ) (tokens : List Token) (l : Lexed text tokens) → text ≡ text_of l.pieces ++ []
lexed_whole text tokens l = l.whole ∙ sym (append-nil (text_of l.pieces))

pub lexed_same : (text : List ℕ) (a b : List Token) → Lexed text a → Lexed text b → a ≡ b
lexed_same text a b x y =
    let same = chain_same beside.Other x.pieces y.pieces [] [] x.stand y.stand (inl refl) (inl refl) (sym (lexed_whole text a x) ∙ lexed_whole text b y) in
    x.listed ∙ ap (tokens_from 0) same.0 ∙ sym y.listed

meets_stuck : (place : ℕ) (text : List ℕ) (fault : LexFault) → MeetsAt place text fault → Stuck text
meets_stuck place text fault h = inr (λ before. (place, met fault, tt, h))

ends_stuck : (place : ℕ) (text : List ℕ) (fault : LexFault) → EndsAt place text fault → Stuck text
ends_stuck place text fault h = inr (λ before. (place, ends fault, tt, h))

met_same : (f g : LexFault) → met f ≡ met g → f ≡ g
met_same f g h = cc

ends_same_fault : (f g : LexFault) → ends f ≡ ends g → f ≡ g
ends_same_fault f g h = cc

pub lexed_or_meets : (text : List ℕ) (tokens : List Token) (fault : LexFault) → Lexed text tokens → Meets text fault → ⊥
lexed_or_meets text tokens fault x y =
    let same = chain_same beside.Other x.pieces y.pieces [] y.rest x.stand y.stand (inl refl) (meets_stuck (length (text_of y.pieces)) y.rest fault y.met) (sym (lexed_whole text tokens x) ∙ y.whole) in
    nothing_at_end beside.Other (length (text_of y.pieces)) (met fault) (subst (λ l. MeetsAt (length (text_of y.pieces)) l fault) (sym same.1) y.met)

pub lexed_or_ends : (text : List ℕ) (tokens : List Token) (fault : LexFault) → Lexed text tokens → Ends text fault → ⊥
lexed_or_ends text tokens fault x y =
    let same = chain_same beside.Other x.pieces y.pieces [] y.rest x.stand y.stand (inl refl) (ends_stuck (length (text_of y.pieces)) y.rest fault y.met) (sym (lexed_whole text tokens x) ∙ y.whole) in
    nothing_at_end beside.Other (length (text_of y.pieces)) (ends fault) (subst (λ l. EndsAt (length (text_of y.pieces)) l fault) (sym same.1) y.met)

pub meets_same : (text : List ℕ) (f g : LexFault) → Meets text f → Meets text g → f ≡ g
meets_same text f g x y =
    let place : ℕ = length (text_of x.pieces) in
    let same = chain_same beside.Other y.pieces x.pieces y.rest x.rest y.stand x.stand (meets_stuck (length (text_of y.pieces)) y.rest g y.met) (meets_stuck place x.rest f x.met) (sym y.whole ∙ x.whole) in
    let other : MeetsAt place x.rest g = subst (λ l. MeetsAt place l g) same.1 (subst (λ ps. MeetsAt (length (text_of ps)) y.rest g) same.0 y.met) in
    met_same f g (one_outcome beside.Other place x.rest (met f) (met g) x.met other)

pub ends_same : (text : List ℕ) (f g : LexFault) → Ends text f → Ends text g → f ≡ g
ends_same text f g x y =
    let place : ℕ = length (text_of x.pieces) in
    let same = chain_same beside.Other y.pieces x.pieces y.rest x.rest y.stand x.stand (ends_stuck (length (text_of y.pieces)) y.rest g y.met) (ends_stuck place x.rest f x.met) (sym y.whole ∙ x.whole) in
    let other : EndsAt place x.rest g = subst (λ l. EndsAt place l g) same.1 (subst (λ ps. EndsAt (length (text_of ps)) y.rest g) same.0 y.met) in
    ends_same_fault f g (one_outcome beside.Other place x.rest (ends f) (ends g) x.met other)

pub meets_or_ends : (text : List ℕ) (f g : LexFault) → Meets text f → Ends text g → ⊥
meets_or_ends text f g x y =
    let place : ℕ = length (text_of x.pieces) in
    let same = chain_same beside.Other y.pieces x.pieces y.rest x.rest y.stand x.stand (ends_stuck (length (text_of y.pieces)) y.rest g y.met) (meets_stuck place x.rest f x.met) (sym y.whole ∙ x.whole) in
    let other : EndsAt place x.rest g = subst (λ l. EndsAt place l g) same.1 (subst (λ ps. EndsAt (length (text_of ps)) y.rest g) same.0 y.met) in
    let e : met f ≡ ends g = one_outcome beside.Other place x.rest (met f) (ends g) x.met other in
    absurd (cc)

-- ---- whole sources

first_same : (source front : List ℕ) (f g : LexFault) → FirstFault source front f → FirstFault source front g → f ≡ g
first_same source front f g (inl x) (inl y) = meets_same front f g x y
first_same source front f g (inl x) (inr (inl (e, y))) = absurd (meets_or_ends front f g x y)
first_same source front f g (inl x) (inr (inr (short, e, inl (tokens, y)))) = absurd (lexed_or_meets front tokens f y x)
first_same source front f g (inl x) (inr (inr (short, e, inr (inner, y)))) = absurd (meets_or_ends front f inner x y)
first_same source front f g (inr (inl (e, x))) (inl y) = absurd (meets_or_ends front g f y x)
first_same source front f g (inr (inl (e, x))) (inr (inl (d, y))) = ends_same front f g x y
first_same source front f g (inr (inl (e, x))) (inr (inr (short, d, y))) = let size = ap length e in absurd (omega arith)
first_same source front f g (inr (inr (short, e, inl (tokens, x)))) (inl y) = absurd (lexed_or_meets front tokens g x y)
first_same source front f g (inr (inr (short, e, inr (inner, x)))) (inl y) = absurd (meets_or_ends front g inner y x)
first_same source front f g (inr (inr (short, e, x))) (inr (inl (d, y))) = let size = ap length d in absurd (omega arith)
first_same source front f g (inr (inr (short, e, x))) (inr (inr (less, d, y))) = e ∙ sym d

pub one_fault : (source : List ℕ) (f g : LexFault) → Faults source f → Faults source g → f ≡ g
one_fault source f g (inl (long, e)) (inl (longer, d)) = e ∙ sym d
one_fault source f g (inl (long, e)) (inr (short, front, is, y)) = absurd (omega arith)
one_fault source f g (inr (short, front, is, x)) (inl (long, d)) = absurd (omega arith)
one_fault source f g (inr (short, front, is, x)) (inr (small, other, are, y)) =
    first_same source front f g x (subst (λ l. FirstFault source l g) (one_front source other front are is) y)

lexed_or_first : (source : List ℕ) (tokens : List Token) (fault : LexFault) → Lexed source tokens → FirstFault source source fault → ⊥
lexed_or_first source tokens fault l (inl x) = lexed_or_meets source tokens fault l x
lexed_or_first source tokens fault l (inr (inl (e, x))) = lexed_or_ends source tokens fault l x
lexed_or_first source tokens fault l (inr (inr (short, e, x))) = omega arith

pub lexed_or_fault : (source : List ℕ) (tokens : List Token) (fault : LexFault) → length source ≤ 1048576 → Lexed source tokens → Faults source fault → ⊥
lexed_or_fault source tokens fault short l (inl (long, e)) = omega arith
lexed_or_fault source tokens fault short l (inr (small, front, is, x)) =
    lexed_or_first source tokens fault l (subst (λ k. FirstFault source k fault) (one_front source front source is (whole_is_front source l.utf8)) x)

-- ---- the lexer's answers

pub gives_these : (source : List ℕ) (r : Result (List Token) LexFault) (tokens : List Token) → length source ≤ 1048576 → Lexed source tokens →
    IfOk r (λ found. (length source ≤ 1048576) × Lexed source found) → IfErr r (λ fault. (fault ≡ Memory) ⊎ Faults source fault) → Gives tokens r
gives_these source (Ok found_) tokens short l is e = lexed_same source found_ tokens is.1 l
gives_these source (Err fault) tokens short l is (inl memory) = memory
gives_these source (Err fault) tokens short l is (inr faults) = absurd (lexed_or_fault source tokens fault short l faults)

pub refuses_this : (source : List ℕ) (r : Result (List Token) LexFault) (fault : LexFault) → Faults source fault →
    IfOk r (λ found. (length source ≤ 1048576) × Lexed source found) → IfErr r (λ other. (other ≡ Memory) ⊎ Faults source other) → Refuses fault r
refuses_this source (Ok found_) fault f is e = lexed_or_fault source found_ fault is.0 is.1 f
refuses_this source (Err other) fault f is (inl memory) = inl memory
refuses_this source (Err other) fault f is (inr faults) = inr (one_fault source other fault faults f)

name_some : (name : List ℕ) → is_name name ≡ true → 0 < length name
name_some [] h = absurd (cc)
name_some (b ∷ name) h = omega arith

numeral_some : (text : List ℕ) → is_numeral 10 text ≡ true → 0 < length text
numeral_some [] h = absurd (cc)
numeral_some (b ∷ text) h = omega arith

token_some : (before : Before) (kind : TokenKind) (text rest : List ℕ) → IsToken before kind text rest → 0 < length text
token_some before (t.Identifier name) text rest (same, is, ends_) = name_some text (and_true (is_name text) (not (bytes_eq text (95 ∷ [])) && is_none (word_of text)) is).0
token_some before (t.Reserved word) text rest (is_word, is, ends_) = name_some text is
token_some before (t.Number n) text rest (inl (numeral, v, e, p), small) = numeral_some text numeral
token_some before (t.Number n) text rest (inr (digits, e, numeral, v, g), small) = omega (arith, ap length e)
token_some before (t.Character c) text rest (inl (e, sc, q, s, n)) = omega (arith, ap length e)
token_some before (t.Character c) text rest (inr (escape, e, good)) = omega (arith, ap length e)
token_some before (t.Text value) text rest (at, (items, e, v, good)) = omega (arith, ap length e)
token_some before (t.Mark mark) text rest (e, longest, plain_, fits) = subst (λ l. 0 < length l) (sym e) (mark_some mark)

pieces_in_order : (first place : ℕ) (before : Before) (pieces : List Piece) (rest : List ℕ) → first ≤ place → AllStand before pieces rest → AreInOrder first (place + length (text_of pieces)) (tokens_from place pieces)
pieces_in_order first place before [] rest h all = omega arith
pieces_in_order first place before (blank b ∷ pieces) rest h all =
    let size : length (text_of (blank b ∷ pieces)) ≡ 1 + length (text_of pieces) = length-append (b ∷ []) (text_of pieces) in
    let at : place + 1 + length (text_of pieces) ≡ place + length (text_of (blank b ∷ pieces)) = omega arith in
    subst (λ k. AreInOrder first k (tokens_from (place + 1) pieces)) at (pieces_in_order first (place + 1) (before_next (blank b)) pieces rest (omega arith) all.1)
pieces_in_order first place before (comment text ∷ pieces) rest h all =
    let size : length (text_of (comment text ∷ pieces)) ≡ length text + length (text_of pieces) = length-append text (text_of pieces) in
    let at : place + length text + length (text_of pieces) ≡ place + length (text_of (comment text ∷ pieces)) = omega arith in
    subst (λ k. AreInOrder first k (tokens_from (place + length text) pieces)) at (pieces_in_order first (place + length text) (before_next (comment text)) pieces rest (omega arith) all.1)
pieces_in_order first place before (token kind text ∷ pieces) rest h all =
    let size : length (text_of (token kind text ∷ pieces)) ≡ length text + length (text_of pieces) = length-append text (text_of pieces) in
    let at : place + length text + length (text_of pieces) ≡ place + length (text_of (token kind text ∷ pieces)) = omega arith in
    let some = token_some before kind text (text_of pieces ++ rest) all.0 in
    (h, omega arith, subst (λ k. AreInOrder (place + length text) k (tokens_from (place + length text) pieces)) at (pieces_in_order (place + length text) (place + length text) (before_next (token kind text)) pieces rest (omega arith) all.1))

lexed_in_order : (source : List ℕ) (tokens : List Token) → Lexed source tokens → AreInOrder 0 (length source) tokens
lexed_in_order source tokens l =
    let all = pieces_in_order 0 0 beside.Other l.pieces [] (omega arith) l.stand in
    let size : 0 + length (text_of l.pieces) ≡ length source = omega (arith, ap length l.whole) in
    subst (AreInOrder 0 (length source)) (sym l.listed) (subst (λ k. AreInOrder 0 k (tokens_from 0 l.pieces)) size all)

pub in_order : (source : List ℕ) (r : Result (List Token) LexFault) → IfOk r (λ found. (length source ≤ 1048576) × Lexed source found) → IfOk r (AreInOrder 0 (length source))
in_order source (Ok tokens) is = lexed_in_order source tokens is.1
in_order source (Err fault) is = tt

kind_placed : (place : Place) (kind : TokenKind) → IsPlacedAt place (placed place kind)
kind_placed place (t.Identifier name) = refl
kind_placed place (t.Reserved word) = tt
kind_placed place (t.Number n) = tt
kind_placed place (t.Character c) = tt
kind_placed place (t.Text text) = refl
kind_placed place (t.Mark mark) = tt

pieces_placed : (place : ℕ) (pieces : List Piece) → ArePlaced (tokens_from place pieces)
pieces_placed place [] = tt
pieces_placed place (blank b ∷ pieces) = pieces_placed (place + 1) pieces
pieces_placed place (comment text ∷ pieces) = pieces_placed (place + length text) pieces
pieces_placed place (token kind text ∷ pieces) = (kind_placed (record { start = place; «end» = place + length text }) kind, pieces_placed (place + length text) pieces)

pub are_placed : (source : List ℕ) (r : Result (List Token) LexFault) → IfOk r (λ found. (length source ≤ 1048576) × Lexed source found) → IfOk r ArePlaced
are_placed source (Ok tokens) (short, lexed) = subst ArePlaced (sym lexed.listed) (pieces_placed 0 lexed.pieces)
are_placed source (Err fault) is = tt
