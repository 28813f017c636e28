-- Which tokens a text is made of, by the Motoko language manual (lexical structure).
use Rattle.std.specs.Prelude.{◌≡◌, ℕ, true, List, [], ◌∷◌, map}
use Rattle.std.specs.Char.{IsScalar}
use Rattle.mo_syntax.specs.Parts.{Each}
use Rattle.mo_syntax.specs.Lexed.{is_identifier, Lexed}
use Rattle.mo_syntax.specs.Tokens.{plain}
use Rattle.mo_syntax.specs.declared.mark.Mark.{Mark}
use Rattle.mo_syntax.specs.declared.mark.Mark.TheVariants as m
use Rattle.mo_syntax.specs.declared.token.Token.{Token}
use Rattle.mo_syntax.specs.declared.token.TokenKind.{TokenKind}
use Rattle.mo_syntax.specs.declared.token.TokenKind.TheVariants as t

-- A kind of token of the language: a name is an identifier, and a character is a Unicode scalar value. A number is below 2^64
-- and a byte below 256 by their types, and each such number, text, reserved word and mark is one.
abbrev pub IsOfLanguage : TokenKind → Type 0
IsOfLanguage (t.Identifier name) = is_identifier name.bytes ≡ true
IsOfLanguage (t.Character c) = IsScalar c
IsOfLanguage _ = Unit {0}

-- an identifier is the first token
abbrev pub LeadsIdentifier : List TokenKind → Type 0
LeadsIdentifier [] = ⊥
LeadsIdentifier (t.Identifier name ∷ kinds) = Unit {0}
LeadsIdentifier (kind ∷ kinds) = ⊥

abbrev pub MarkGoesOn : Mark → List TokenKind → Type 0
MarkGoesOn m.Tag kinds = LeadsIdentifier kinds
MarkGoesOn _ kinds = Unit {0}

-- the mark `#` of a tag has its identifier behind it
abbrev pub GoesOn : TokenKind → List TokenKind → Type 0
GoesOn (t.Mark mark) kinds = MarkGoesOn mark kinds
GoesOn _ kinds = Unit {0}

-- each mark `#` of a tag has its identifier behind it
abbrev pub AreTagged : List TokenKind → Type 0
AreTagged [] = Unit {0}
AreTagged (kind ∷ kinds) = GoesOn kind kinds × AreTagged kinds

-- a text can be made of these tokens
abbrev pub AreWritable : List TokenKind → Type 0
AreWritable kinds = Each IsOfLanguage kinds × AreTagged kinds

-- the text is made of tokens of these kinds, wherever their names and texts stand
pub record LexesTo (text : List ℕ) (kinds : List TokenKind) : Type 0 where
  pub tokens : List Token
  pub lexed : Lexed text tokens
  pub kinds_are : map (λ token. plain token.kind) tokens ≡ map plain kinds
