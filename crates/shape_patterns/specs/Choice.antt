-- A literal and a tag that are left.
use Rattle.std.specs.Prelude.{ℕ, zero, suc, List, [], ◌∷◌, length, Bool, not, ◌&&◌, cond, pos, Option, Some, None}
use Rattle.mo_num.specs.declared.kind.Kind.{Kind}
use Rattle.mo_types.specs.declared.datum.Datum.{Datum}
use Rattle.mo_types.specs.declared.datum.Datum.TheVariants as part
use Rattle.mo_types.specs.declared.node.Field.{Field}
use Rattle.mo_types.specs.declared.node.Node.{Node}
use Rattle.mo_types.specs.declared.node.Node.TheVariants as node
use Rattle.mo_values.specs.Parts.{is_in_range}
use Rattle.mo_values.specs.Shapes.{Bytes}
use Rattle.pattern_coverage.specs.Cutting.{is_label_among}
use Rattle.pattern_coverage.specs.Leaves.{is_among, is_literal_number, leaf_at}

-- it is in the range and none of these
abbrev pub is_small_left : Kind → ℕ → List Datum → Bool
is_small_left k i ds = is_in_range k (pos i) && not (is_among (part.Number (pos i)) ds)

-- the first of n numbers from i on that is in the range and none of these
abbrev pub small_left : Kind → ℕ → ℕ → List Datum → Option Datum
small_left k zero i ds = None
small_left k (suc n) i ds = cond (is_small_left k i ds) (Some (part.Number (pos i))) (small_left k n (suc i) ds)

module _ {A : Type 0} where
  -- literal number i, where there are so many
  abbrev pub numbered : Node A → ℕ → Datum
  numbered x i = cond (is_literal_number x i) (leaf_at x i) part.Null

  -- the first of n literals from number i on that is none of these, or the one behind them
  abbrev pub first_left : Node A → ℕ → ℕ → List Datum → Datum
  first_left x zero i ds = numbered x i
  first_left x (suc n) i ds = cond (is_among (numbered x i) ds) (first_left x n (suc i) ds) (numbered x i)

  abbrev pub or_first : Node A → List Datum → Option Datum → Datum
  or_first x ds None = first_left x (length ds) 0 ds
  or_first x ds (Some d) = d

  abbrev pub small_of : Node A → List Datum → Option Datum
  small_of (node.Number k) ds = small_left k (suc (length ds)) 0 ds
  small_of x ds = None

  -- a literal of the type that is none of these, where one is left: of numbers the least that is not negative, if there is one
  abbrev pub literal_left : Node A → List Datum → Datum
  literal_left x ds = or_first x ds (small_of x ds)

  -- the first tag with values that is none of these
  abbrev pub tag_left : (A → Bool) → List (Field A) → List Bytes → Option (Field A)
  tag_left has [] ls = None
  tag_left has (f ∷ fs) ls = cond (has f.part && not (is_label_among f.label ls)) (Some f) (tag_left has fs ls)
