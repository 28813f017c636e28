-- Parts of a tree, each with the number of its first token in the writing of the whole tree, counted from 0.
use Rattle.std.specs.Prelude.{ℕ, ◌+◌, Bool, true, false, List, [], ◌∷◌, Option, Some, None}
use Rattle.mo_syntax.specs.declared.name.Name.{Name}
use Rattle.mo_syntax.specs.declared.literal.Literal as syntax
use Rattle.mo_syntax.specs.declared.literal.Literal.TheVariants as literal
use Rattle.typing_rules.specs.AbstractSyntax.{Named, Literal}
use Rattle.typing_rules.specs.AbstractSyntax as p

-- a part: how many tokens it is, and what it is where its first one has this number
pub record Span (A : Type 0) : Type 0 where
  pub size : ℕ
  pub from : ℕ → A

abbrev pub one : {A : Type 0} → (ℕ → A) → Span A
one f = record { size = 1; from = f }

abbrev pub name_at : Name → ℕ → Named
name_at x k = record { at = k; bytes = x.bytes }

abbrev pub literal_of : syntax.Literal → Literal
literal_of (literal.Number n) = p.Number n
literal_of (literal.Character c) = p.Character c
literal_of (literal.Text text) = p.Text text.bytes
literal_of literal.True = p.True
literal_of literal.False = p.False
literal_of literal.Null = p.Null

abbrev pub flag : Bool → ℕ
flag false = 0
flag true = 1

-- the tokens of a part that may be missing, with so many tokens before it
abbrev pub led : {A : Type 0} → ℕ → Option (Span A) → ℕ
led n None = 0
led n (Some a) = n + a.size

abbrev pub at_led : {A : Type 0} → Option (Span A) → ℕ → Option A
at_led None k = None
at_led (Some a) k = Some (a.from k)

-- the parts, each behind the one before it and a separator
abbrev pub listed_from : {A : Type 0} → List (Span A) → ℕ → List A
listed_from [] k = []
listed_from (a ∷ rest) k = a.from k ∷ listed_from rest (k + a.size + 1)

-- as many tokens as the parts have, and a separator between each two
abbrev pub listed_size : {A : Type 0} → List (Span A) → ℕ
listed_size [] = 0
listed_size (a ∷ []) = a.size
listed_size (a ∷ b ∷ rest) = a.size + 1 + listed_size (b ∷ rest)
