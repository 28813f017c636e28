-- Tokens that some text spells can be spelled.
use Rattle.std.proofs.Common.{◌≡◌, ℕ, Bool, true, false, List, [], ◌∷◌, ◌++◌, Option, Some, None, take, drop, refl, sym, ap, ◌∙◌, subst, inl, inr, ⊎_elim, append_assoc, take-append-drop}
use Rattle.std.specs.Prelude.{◌==◌, ◌||◌, if◌then◌else◌, map}
use Rattle.std.specs.List.{prefix_len}
use Rattle.std.specs.Char.{IsScalar}
use Rattle.std.proofs.lemmas.Bool.{eqb-true}
use Rattle.mo_syntax.specs.Characters.{is_name_byte}
use Rattle.mo_syntax.specs.Lexed.{letter_escape, is_identifier, is_tag, begins_identifier, IsEscape, IsCharacter, character, IsToken, Piece, blank, comment, token, piece_text, text_of, AllStand}
use Rattle.mo_syntax.specs.Parts.{Each}
use Rattle.mo_syntax.specs.Tokens.{before_of, plain, nowhere}
use Rattle.mo_syntax.specs.declared.name.Name.{Name}
use Rattle.mo_syntax.specs.declared.mark.Mark.{Mark}
use Rattle.mo_syntax.specs.declared.mark.Mark.TheVariants as m
use Rattle.mo_syntax.specs.declared.before.Before.{Before}
use Rattle.mo_syntax.specs.declared.before.Before.TheVariants as beside
use Rattle.mo_syntax.specs.declared.token.Token.{Token}
use Rattle.mo_syntax.specs.declared.token.TokenKind.{TokenKind}
use Rattle.mo_syntax.specs.declared.token.TokenKind.TheVariants as t
use Rattle.mo_lexer.proofs.Names.{run_found}
use Rattle.mo_lexer.proofs.Tools.{or_true}
use Rattle.mo_lexer.proofs.OneOutcome.{found, identifier, one_outcome}
use Rattle.mo_unparse.specs.Writable.{IsOfLanguage, LeadsIdentifier, GoesOn, MarkGoesOn, AreTagged, AreWritable, LexesTo}
use Rattle.mo_unparse.proofs.ChainLemmas.{kinds_of, kinds_listed}

chosen : {P : Type 0} (b : Bool) (x y : Option ℕ) (c : ℕ) → (if b then x else y) ≡ Some c → (b ≡ true → x ≡ Some c → P) → (y ≡ Some c → P) → P
chosen true x y c h here there = here refl h
chosen false x y c h here there = there h

scalar_same : (a c : ℕ) → IsScalar a → Some a ≡ Some c → IsScalar c
scalar_same a c is h = let same : a ≡ c = cc in subst IsScalar same is

letter_scalar : (letter c : ℕ) → letter_escape letter ≡ Some c → IsScalar c
letter_scalar letter c h =
    chosen (letter == 110) (Some 10) _ c h (λ _. scalar_same 10 c refl) (λ h1.
    chosen (letter == 114) (Some 13) _ c h1 (λ _. scalar_same 13 c refl) (λ h2.
    chosen (letter == 116) (Some 9) _ c h2 (λ _. scalar_same 9 c refl) (λ h3.
    chosen (letter == 92 || (letter == 34 || letter == 39)) (Some letter) None c h3 (λ is. scalar_same letter c (itself is)) (λ h4. absurd (cc)))))
  where
    is_at : (k : ℕ) → IsScalar k → (letter == k) ≡ true → IsScalar letter
    is_at k s e = subst IsScalar (sym (eqb-true letter k e)) s

    itself : (letter == 92 || (letter == 34 || letter == 39)) ≡ true → IsScalar letter
    itself is = ⊎_elim (is_at 92 refl) (λ other. ⊎_elim (is_at 34 refl) (is_at 39 refl) (or_true (letter == 34) (letter == 39) other)) (or_true (letter == 92) (letter == 34 || letter == 39) is)

escape_scalar : (text : List ℕ) (c : ℕ) → IsEscape text (character c) → IsScalar c
escape_scalar text c (inl (letter, e, is)) = letter_scalar letter c is
escape_scalar text c (inr (digits, e, some, all, v, scalar)) = scalar

character_scalar : (text : List ℕ) (c : ℕ) → IsCharacter text c → IsScalar c
character_scalar text c (inl h) = h.1
character_scalar text c (inr (escape, e, is)) = escape_scalar escape c is

of_language : (before : Before) (kind : TokenKind) (text rest : List ℕ) → IsToken before kind text rest → IsOfLanguage kind
of_language before (t.Identifier name) text rest h = ap (λ n. is_identifier n.bytes) h.0 ∙ h.1
of_language before (t.Character c) text rest h = character_scalar text c h
of_language before (t.Reserved word) text rest h = tt
of_language before (t.Number n) text rest h = tt
of_language before (t.Text value) text rest h = tt
of_language before (t.Mark mark) text rest h = tt

is_kind : (p : Piece) (ps : List Piece) (name : Name) (text : List ℕ) → found p ≡ found (token (t.Identifier name) text) → LeadsIdentifier (kinds_of (p ∷ ps))
is_kind (blank b) ps name text e = absurd (cc)
is_kind (comment body) ps name text e = absurd (cc)
is_kind (token kind other) ps name text e = let same : kind ≡ t.Identifier name = cc in subst (λ k. LeadsIdentifier (k ∷ kinds_of ps)) (sym same) tt

-- the piece at an identifier is its token
leading : (before : Before) (ps : List Piece) → AllStand before ps [] → begins_identifier (text_of ps ++ []) ≡ true → LeadsIdentifier (kinds_of ps)
leading before [] h is = absurd (cc)
leading before (p ∷ ps) h is =
    let text : List ℕ = text_of (p ∷ ps) ++ [] in
    let n : ℕ = prefix_len is_name_byte text in
    let name : List ℕ = take n text in
    let run = run_found is_name_byte text in
    let name_stands : IsToken before (identifier name) name (drop n text) = (refl, is, run.stops) in
    is_kind p ps (record { bytes = name; place = nowhere }) name (one_outcome before 0 text (found p) (found (token (identifier name) name))
    (text_of ps ++ [], append_assoc (piece_text p) (text_of ps) [], h.0)
    (drop n text, sym (take-append-drop n text), name_stands))

tag_leads : (before : Before) (rest : List ℕ) → is_tag before rest ≡ true → begins_identifier rest ≡ true
tag_leads beside.Blank rest h = h
tag_leads beside.Operand rest h = absurd (cc)
tag_leads beside.Other rest h = h

mark_goes_on : (before : Before) (mark : Mark) (text : List ℕ) (ps : List Piece) → IsToken before (t.Mark mark) text (text_of ps ++ []) → AllStand (before_of (t.Mark mark)) ps [] → MarkGoesOn mark (kinds_of ps)
mark_goes_on before m.Tag text ps h all = leading (before_of (t.Mark m.Tag)) ps all (tag_leads before (text_of ps ++ []) h.3)
mark_goes_on before _ text ps h all = tt

goes_on : (before : Before) (kind : TokenKind) (text : List ℕ) (ps : List Piece) → IsToken before kind text (text_of ps ++ []) → AllStand (before_of kind) ps [] → GoesOn kind (kinds_of ps)
goes_on before (t.Mark mark) text ps h all = mark_goes_on before mark text ps h all
goes_on before _ text ps h all = tt

able : (before : Before) (ps : List Piece) → AllStand before ps [] → AreWritable (kinds_of ps)
able before [] h = (tt, tt)
able before (blank b ∷ ps) h = able beside.Blank ps h.1
able before (comment body ∷ ps) h = able beside.Other ps h.1
able before (token kind text ∷ ps) h =
    let rest = able (before_of kind) ps h.1 in
    ((of_language before kind text (text_of ps ++ []) h.0, rest.0), (goes_on before kind text ps h.0 h.1, rest.1))

-- ---- what tokens have to be does not depend on where names and texts stand

language_plain : (kind : TokenKind) → IsOfLanguage (plain kind) ≡ IsOfLanguage kind
language_plain (t.Identifier name) = refl
language_plain (t.Reserved word) = refl
language_plain (t.Number n) = refl
language_plain (t.Character c) = refl
language_plain (t.Text value) = refl
language_plain (t.Mark mark) = refl

leads_plain : (kinds : List TokenKind) → LeadsIdentifier (map plain kinds) ≡ LeadsIdentifier kinds
leads_plain [] = refl
leads_plain (t.Identifier name ∷ kinds) = refl
leads_plain (t.Reserved word ∷ kinds) = refl
leads_plain (t.Number n ∷ kinds) = refl
leads_plain (t.Character c ∷ kinds) = refl
leads_plain (t.Text value ∷ kinds) = refl
leads_plain (t.Mark mark ∷ kinds) = refl

mark_plain : (mark : Mark) (kinds : List TokenKind) → MarkGoesOn mark (map plain kinds) ≡ MarkGoesOn mark kinds
mark_plain m.Tag kinds = leads_plain kinds
mark_plain _ kinds = refl

goes_plain : (kind : TokenKind) (kinds : List TokenKind) → GoesOn (plain kind) (map plain kinds) ≡ GoesOn kind kinds
goes_plain (t.Identifier name) kinds = refl
goes_plain (t.Reserved word) kinds = refl
goes_plain (t.Number n) kinds = refl
goes_plain (t.Character c) kinds = refl
goes_plain (t.Text value) kinds = refl
goes_plain (t.Mark mark) kinds = mark_plain mark kinds

each_plain : (kinds : List TokenKind) → Each IsOfLanguage (map plain kinds) ≡ Each IsOfLanguage kinds
each_plain [] = refl
each_plain (kind ∷ kinds) = ap (λ p. p × Each IsOfLanguage (map plain kinds)) (language_plain kind) ∙ ap (λ p. IsOfLanguage kind × p) (each_plain kinds)

tagged_plain : (kinds : List TokenKind) → AreTagged (map plain kinds) ≡ AreTagged kinds
tagged_plain [] = refl
tagged_plain (kind ∷ kinds) = ap (λ p. p × AreTagged (map plain kinds)) (goes_plain kind kinds) ∙ ap (λ p. GoesOn kind kinds × p) (tagged_plain kinds)

able_plain : (kinds : List TokenKind) → AreWritable (map plain kinds) ≡ AreWritable kinds
able_plain kinds = ap (λ p. p × AreTagged (map plain kinds)) (each_plain kinds) ∙ ap (λ p. Each IsOfLanguage kinds × p) (tagged_plain kinds)

pub needed : (text : List ℕ) (kinds : List TokenKind) → LexesTo text kinds → AreWritable kinds
needed text kinds s =
    let pieces : List Piece = s.lexed.pieces in
    let same : map plain (kinds_of pieces) ≡ map plain kinds = sym (kinds_listed 0 pieces) ∙ ap (map (λ (x : Token). plain x.kind)) (sym s.lexed.listed) ∙ s.kinds_are in
    subst (λ p. p) (sym (able_plain (kinds_of pieces)) ∙ ap AreWritable same ∙ able_plain kinds) (able beside.Other pieces s.lexed.stand)
