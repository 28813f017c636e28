-- What it costs to try a pattern on a value: its nodes, and where a text or Blob is compared with a literal, both whole, as the
-- comparison of two scalars costs.
use Rattle.std.specs.Prelude.{ℕ, ◌+◌, List, [], ◌∷◌, length, Option, Some, None}
use Rattle.mo_types.specs.declared.datum.Datum.{Datum}
use Rattle.mo_types.specs.declared.datum.Datum.TheVariants as part
use Rattle.mo_values.specs.Shapes.{Bytes, Shape, size}
use Rattle.mo_values.specs.Views.{tuple_of, field_of}
use Rattle.typed_tree.specs.Patterns.{Pat, Pats, Wildcard, Bind, Constant, Present?, Tagged, Parts, Fields, Either, NoPat, APat, pattern_nodes, nodes_of_all, present_of, tagged_of}

-- of a part, where there is one, or else the nodes alone
abbrev pub where_there : {V : Type 0} → (V → ℕ) → ℕ → Option V → ℕ
where_there f n None = n
where_there f n (Some v) = f v

module _ {F : Type 0} where
  -- of a literal and a value
  abbrev pub compared : Datum → Shape F → ℕ
  compared (part.Text t) v = 1 + length t + size v
  compared (part.Blob t) v = 1 + length t + size v
  compared _ v = 0

  abbrev mutual
    pub pattern_weight : Pat → Shape F → ℕ
    pattern_weight Wildcard v = 1
    pattern_weight Bind v = 1
    pattern_weight (Constant c) v = 1 + compared c v
    pattern_weight (Present? p) v = 1 + where_there (λ w. pattern_weight p w) (pattern_nodes p) (present_of v)
    pattern_weight (Tagged l p) v = 1 + where_there (λ w. pattern_weight p w) (pattern_nodes p) (tagged_of l v)
    pattern_weight (Parts ps) v = 1 + where_there (λ vs. weight_of_all ps vs) (nodes_of_all ps) (tuple_of v)
    pattern_weight (Fields ls ps) v = 1 + length ls + weight_of_fields ls ps v
    pattern_weight (Either p q) v = 1 + pattern_weight p v + pattern_weight q v

    pub weight_of_all : Pats → List (Shape F) → ℕ
    weight_of_all NoPat vs = 0
    weight_of_all (APat p ps) [] = pattern_nodes p + nodes_of_all ps
    weight_of_all (APat p ps) (v ∷ vs) = pattern_weight p v + weight_of_all ps vs

    pub weight_of_fields : List Bytes → Pats → Shape F → ℕ
    weight_of_fields ls NoPat v = 0
    weight_of_fields [] (APat p ps) v = pattern_nodes p + nodes_of_all ps
    weight_of_fields (l ∷ ls) (APat p ps) v = where_there (λ w. pattern_weight p w) (pattern_nodes p) (field_of l v) + weight_of_fields ls ps v
