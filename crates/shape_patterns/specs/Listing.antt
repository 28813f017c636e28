-- The parts of a tuple and the fields of an object, from a place on.
use Rattle.std.specs.Prelude.{ℕ, zero, suc, List, [], ◌∷◌, ◌++◌, Bool, Option, Some, None, slice_get}
use Rattle.mo_types.specs.declared.node.Field.{Field}
use Rattle.mo_types.specs.declared.node.Node.{Node}
use Rattle.mo_types.specs.declared.node.TypeId.{TypeId}
use Rattle.mo_types.specs.Sub.{find}
use Rattle.mo_values.specs.Shapes.{Bytes}
use Rattle.mo_syntax.specs.declared.mark.Mark.TheVariants as m
use Rattle.mo_syntax.specs.declared.token.TokenKind.{TokenKind}
use Rattle.mo_syntax.specs.declared.token.TokenKind.TheVariants as t
use Rattle.mo_syntax.specs.Writing.{Writing}
use Rattle.typed_tree.specs.Patterns.{Pat}
use Rattle.pattern_coverage.specs.Known.{Known}
use Rattle.shape_patterns.specs.Stands.{never, field_pattern, shape_pattern}
use Rattle.shape_patterns.specs.Writes.{name_of, pattern_writing}

-- a token in front of each but the first
abbrev pub lead : TokenKind → ℕ → Writing
lead token zero = []
lead token (suc n) = token ∷ []

abbrev pub led : TokenKind → ℕ → List Writing → Writing
led token n [] = []
led token n (x ∷ xs) = lead token n ++ (x ++ led token (suc n) xs)

module _ (head : TypeId → Node TypeId) (has : TypeId → Bool) where
  -- the pattern of a part, at its type if there is one
  abbrev pub at_type : Known → Option TypeId → Pat
  at_type k None = never
  at_type k (Some t) = shape_pattern head has k t

  -- the writings of parts whose types stand from a place on
  abbrev pub parts_at : List Known → ℕ → List TypeId → List Writing
  parts_at [] n ts = []
  parts_at (k ∷ ks) n ts = pattern_writing (at_type k (slice_get ts n)) ∷ parts_at ks (suc n) ts

  abbrev pub field_writing : Known → Bytes → List (Field TypeId) → Writing
  field_writing k l fs = t.Identifier (name_of l) ∷ t.Mark m.EqualSign ∷ pattern_writing (field_pattern (λ u. shape_pattern head has k u) (find l fs))

  abbrev pub one_at : Known → List (Field TypeId) → Option Bytes → List Writing
  one_at k fs None = []
  one_at k fs (Some l) = field_writing k l fs ∷ []

  -- the writings of fields whose labels stand from a place on
  abbrev pub fields_at : List Known → ℕ → List Bytes → List (Field TypeId) → List Writing
  fields_at [] n ls fs = []
  fields_at (k ∷ ks) n ls fs = one_at k fs (slice_get ls n) ++ fields_at ks (suc n) ls fs

  -- the field at a place, with what stands in front of it
  abbrev pub field_at : Known → List (Field TypeId) → ℕ → Option Bytes → Writing
  field_at k fs n None = []
  field_at k fs n (Some l) = lead (t.Mark m.Semicolon) n ++ field_writing k l fs
