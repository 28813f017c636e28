-- How a pattern without names is written.
use Rattle.std.specs.Prelude.{ℕ, suc, ℤ, pos, negsuc, ◌-◌, ◌^◌, List, [], ◌∷◌, ◌++◌, Bool, true, false, cond, nat_lt}
use Rattle.mo_types.specs.declared.datum.Datum.{Datum}
use Rattle.mo_types.specs.declared.datum.Datum.TheVariants as part
use Rattle.mo_values.specs.Shapes.{Bytes}
use Rattle.mo_syntax.specs.declared.name.Name.{Name}
use Rattle.mo_syntax.specs.declared.token.TokenKind.TheVariants as t
use Rattle.mo_syntax.specs.declared.word.Word.TheVariants as w
use Rattle.mo_syntax.specs.declared.mark.Mark.TheVariants as m
use Rattle.mo_syntax.specs.Tokens.{nowhere}
use Rattle.mo_syntax.specs.Writing.{Writing, braces, commas, parens, semicolons, tag}
use Rattle.mo_unparse.specs.Writable.{AreWritable, LexesTo}
use Rattle.typed_tree.specs.Patterns.{Pat, Pats, Wildcard, Bind, Constant, Present?, Tagged, Parts, Fields, Either, NoPat, APat}

abbrev pub name_of : Bytes → Name
name_of l = record { bytes = l; place = nowhere }

abbrev pub wildcard : Writing
wildcard = t.Mark m.Underscore ∷ []

-- below 2 to the power of 64, as each literal is
abbrev pub number_tokens : ℤ → Writing
number_tokens (pos n) = cond (nat_lt n (2 ^ 64)) (t.Number n ∷ []) wildcard
number_tokens (negsuc n) = cond (nat_lt n (2 ^ 64 - 1)) (t.Mark m.Minus ∷ t.Number (suc n) ∷ []) wildcard

-- the literal of a part; no other part is one
abbrev pub literal_tokens : Datum → Writing
literal_tokens part.Null = t.Reserved w.Null ∷ []
literal_tokens (part.Flag true) = t.Reserved w.True ∷ []
literal_tokens (part.Flag false) = t.Reserved w.False ∷ []
literal_tokens (part.Number n) = number_tokens n
literal_tokens (part.Char c) = t.Character c ∷ []
literal_tokens (part.Text bytes) = t.Text (record { bytes = bytes; place = nowhere }) ∷ []
literal_tokens (part.Blob bytes) = t.Text (record { bytes = bytes; place = nowhere }) ∷ []
literal_tokens _ = wildcard

-- `#a` stands for `#a ()`
abbrev pub is_unit : Pat → Bool
is_unit (Parts NoPat) = true
is_unit p = false

abbrev mutual
  pub pattern_writing : Pat → Writing
  pattern_writing Wildcard = wildcard
  pattern_writing Bind = wildcard
  pattern_writing (Constant c) = literal_tokens c
  pattern_writing (Present? p) = t.Mark m.Question ∷ pattern_writing p
  pattern_writing (Tagged l p) = tag (name_of l) ++ cond (is_unit p) [] (pattern_writing p)
  pattern_writing (Parts ps) = parens (commas (part_writings ps))
  pattern_writing (Fields ls ps) = braces (semicolons (field_writings ls ps) false)
  pattern_writing (Either p q) = pattern_writing p ++ t.Reserved w.Or ∷ pattern_writing q

  pub part_writings : Pats → List Writing
  part_writings NoPat = []
  part_writings (APat p ps) = pattern_writing p ∷ part_writings ps

  pub field_writings : List Bytes → Pats → List Writing
  field_writings [] ps = []
  field_writings (l ∷ ls) NoPat = []
  field_writings (l ∷ ls) (APat p ps) = (t.Identifier (name_of l) ∷ t.Mark m.EqualSign ∷ pattern_writing p) ∷ field_writings ls ps

-- what stands behind a tag
abbrev pub payload_writing : Pat → Writing
payload_writing p = cond (is_unit p) [] (pattern_writing p)

-- the pattern behind `case`
abbrev pub case_tokens : Pat → Writing
case_tokens p = t.Reserved w.Case ∷ parens (pattern_writing p)

-- the text is read as these tokens, where they can be written: where each label is an identifier
abbrev pub IsCase : List ℕ → Pat → Type 0
IsCase text p = AreWritable (case_tokens p) → LexesTo text (case_tokens p)
