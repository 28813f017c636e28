-- At which place the field of a label stands, and which tags are left.
use Rattle.std.specs.Prelude.{ℕ, ◌+◌, List, [], ◌∷◌, Bool, false, not, ◌&&◌, ◌||◌, cond, Option, Some, None, slice_get}
use Rattle.std.specs.Str.{bytes_eq}
use Rattle.mo_types.specs.declared.node.Field.{Field}
use Rattle.mo_values.specs.Shapes.{Bytes}
use Rattle.pattern_coverage.specs.Cutting.{is_label_among}

-- the place of a field, and the type of its value
abbrev pub Seat : Type 0 → Type 0
Seat A = ℕ × A

abbrev pub later : {A : Type 0} → ℕ → Option (Seat A) → Option (Seat A)
later n None = None
later n (Some s) = Some (n + s.0, s.1)

module _ {A : Type 0} where
  abbrev pub seat_of : Bytes → List (Field A) → Option (Seat A)
  seat_of l [] = None
  seat_of l (f ∷ fs) = cond (bytes_eq f.label l) (Some (0, f.part)) (later 1 (seat_of l fs))

  -- a tag with values that is none of these
  abbrev pub tag_left : (A → Bool) → List (Field A) → List Bytes → Bool
  tag_left has [] ls = false
  tag_left has (f ∷ fs) ls = (has f.part && not (is_label_among f.label ls)) || tag_left has fs ls

  abbrev pub seated : ℕ → Option A → Option (Seat A)
  seated i None = None
  seated i (Some t) = Some (i, t)

  -- of a tuple, the part with a number
  abbrev pub seat_at : ℕ → List A → Option (Seat A)
  seat_at i ts = seated i (slice_get ts i)
