-- Patterns: how they are written, and which the grammar has.
--
--     pat     = por [":" type]        por = pun {"or" pun}
--     pun     = "?" pun | tag [pun] | patom
--     patom   = id | "_" | ["-"] literal | "(" pat,* ")" | "{" pfield;* "}"
--     pfield  = id ["=" pat]
--     cpat    = "(" pat,* ")" | id | "_" | ["-"] literal | "{" pfield;* "}"
--     params  = "(" pat,* ")" | id
--
-- `or` groups to the left. The payload of a tag is taken where the next token can begin it: no token that may follow a `pun` can.
use Rattle.std.specs.Prelude.{◌≡◌, ℕ, ◌≤◌, [], ◌∷◌, ◌++◌, map}
use Rattle.mo_syntax.specs.declared.token.TokenKind.TheVariants as t
use Rattle.mo_syntax.specs.declared.word.Word.TheVariants as w
use Rattle.mo_syntax.specs.declared.mark.Mark.TheVariants as m
use Rattle.mo_syntax.specs.declared.patterns.Pattern.{Pattern, Pattern-F, fold-Pattern, rec-Pattern}
use Rattle.mo_syntax.specs.declared.patterns.PatternField.{PatternField, fold-PatternField, rec-PatternField}
use Rattle.mo_syntax.specs.declared.patterns.Parameters.{Parameters}
use Rattle.mo_syntax.specs.declared.patterns.Parameters.TheVariants as parameters
use Rattle.mo_syntax.specs.declared.patterns.Pattern.TheOpen as F
use Rattle.mo_syntax.specs.Writing.{Writing, marked, led, optional, commas, semicolons, parens, braces, tag, literal_token}
use Rattle.mo_syntax.specs.Parts.{Each, Within, MayEnd}
use Rattle.mo_syntax.specs.TypeGrammar.{type_tokens, IsType, type}

-- ---- the writing

abbrev pub pattern_step : Pattern-F Writing Writing → Writing
pattern_step (F.Annotated p a) = p ++ t.Mark m.Colon ∷ type_tokens a
pattern_step (F.Alternative p q) = p ++ t.Reserved w.Or ∷ q
pattern_step (F.Optional p) = t.Mark m.Question ∷ p
pattern_step (F.Tagged x payload) = tag x ++ optional payload
pattern_step (F.Variable x) = t.Identifier x ∷ []
pattern_step F.Wildcard = t.Mark m.Underscore ∷ []
pattern_step (F.Constant minus literal) = marked minus (t.Mark m.Minus) ++ literal_token literal ∷ []
pattern_step (F.Parenthesized items) = parens (commas items)
pattern_step (F.Object fields last) = braces (semicolons fields last)

abbrev pub pattern_field_step : F.PatternField-F Writing Writing → Writing
pattern_field_step x = t.Identifier x.name ∷ led (t.Mark m.EqualSign) x.pattern

unfoldable pub pattern_tokens : Pattern → Writing
pattern_tokens = fold-Pattern Writing Writing pattern_step pattern_field_step

unfoldable pub pattern_field_tokens : PatternField → Writing
pattern_field_tokens = fold-PatternField Writing Writing pattern_step pattern_field_step

-- ---- the grammar

-- the levels, the loosest first
abbrev pub pat : ℕ
pat = 0

abbrev pub por : ℕ
por = 1

abbrev pub pun : ℕ
pun = 2

-- a `cpat` too
abbrev pub patom : ℕ
patom = 3

module _ (Whole Field : Type 0) (Is : Whole → ℕ → Type 0) (IsField : Field → Type 0) where
  abbrev pub pattern_rule : Pattern-F Whole Field → ℕ → Type 0
  pattern_rule (F.Annotated p a) l = (l ≡ pat) × Is p por × IsType a type
  pattern_rule (F.Alternative p q) l = (l ≤ por) × Is p por × Is q pun
  pattern_rule (F.Optional p) l = (l ≤ pun) × Is p pun
  pattern_rule (F.Tagged x payload) l = (l ≤ pun) × Within (λ p. Is p pun) payload
  pattern_rule (F.Variable x) l = Unit {0}
  pattern_rule F.Wildcard l = Unit {0}
  pattern_rule (F.Constant minus literal) l = Unit {0}
  pattern_rule (F.Parenthesized items) l = Each (λ p. Is p pat) items
  pattern_rule (F.Object fields last) l = Each IsField fields × MayEnd fields last

  abbrev pub pattern_field_rule : F.PatternField-F Whole Field → Type 0
  pattern_field_rule x = Within (λ p. Is p pat) x.pattern

-- the tree is a pattern of the level
unfoldable pub IsPattern : Pattern → ℕ → Type 0
IsPattern = rec-Pattern (ℕ → Type 0) (Type 0) (λ P F _ _. pattern_rule P F) (λ P F _ _. pattern_field_rule P F)

unfoldable pub IsPatternField : PatternField → Type 0
IsPatternField = rec-PatternField (ℕ → Type 0) (Type 0) (λ P F _ _. pattern_rule P F) (λ P F _ _. pattern_field_rule P F)

-- ---- parameters

abbrev pub parameters_tokens : Parameters → Writing
parameters_tokens (parameters.List patterns) = parens (commas (map pattern_tokens patterns))
parameters_tokens (parameters.Single x) = t.Identifier x ∷ []

abbrev pub AreParameters : Parameters → Type 0
AreParameters (parameters.List patterns) = Each (λ p. IsPattern p pat) patterns
AreParameters (parameters.Single x) = Unit {0}
