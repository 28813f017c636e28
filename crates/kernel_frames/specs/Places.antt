-- The entries of a frame as they are kept: each name at its place, counted from the outermost.
use Rattle.std.specs.Prelude.{◌≡◌, ℕ, zero, suc, Bool, List, [], ◌∷◌, ◌++◌, length, Option, Some, None, cond, nat_eq}
use Rattle.typing_rules.specs.AbstractSyntax.{Bytes}
use Rattle.desugaring.specs.Frames.{Entry, Exit, Frame, Named, Kept, Unnamed, found_from, kept_from}
use Rattle.kernel_frames.specs.declared.names.Mark.{Mark}
use Rattle.kernel_frames.specs.declared.names.Use.{Use}
use Rattle.kernel_frames.specs.declared.names.ValuePlace.{ValuePlace}

abbrev pub Values : Type 0
Values = List (Bytes × ValuePlace)

abbrev pub Stored : Type 0
Stored = List (Bytes × ℕ)

abbrev pub at_place : ℕ → Bool → ValuePlace
at_place n is_cell = record { place = n; is_cell = is_cell }

-- the names with their places, the nearest first
abbrev pub value_places : List Entry → Values
value_places [] = []
value_places (Named x is_cell ∷ es) = (x, at_place (length es) is_cell) ∷ value_places es
value_places (Kept x ∷ es) = value_places es
value_places (Unnamed ∷ es) = value_places es

-- and what was kept
abbrev pub kept_places : List Entry → Stored
kept_places [] = []
kept_places (Named x is_cell ∷ es) = kept_places es
kept_places (Kept x ∷ es) = (x, length es) ∷ kept_places es
kept_places (Unnamed ∷ es) = kept_places es

-- ---- the entries again

-- the name at this place, and those behind it
abbrev pub value_at : ℕ → Values → Option Entry
value_at n [] = None
value_at n (q ∷ vs) = cond (nat_eq q.1.place n) (Some (Named q.0 q.1.is_cell)) None

abbrev pub behind_value : ℕ → Values → Values
behind_value n [] = []
behind_value n (q ∷ vs) = cond (nat_eq q.1.place n) vs (q ∷ vs)

abbrev pub kept_at : ℕ → Stored → Option Entry
kept_at n [] = None
kept_at n (q ∷ ks) = cond (nat_eq q.1 n) (Some (Kept q.0)) None

abbrev pub behind_kept : ℕ → Stored → Stored
behind_kept n [] = []
behind_kept n (q ∷ ks) = cond (nat_eq q.1 n) ks (q ∷ ks)

abbrev pub either : Option Entry → Option Entry → Entry
either (Some e) o = e
either None (Some e) = e
either None None = Unnamed

-- so many entries, the nearest first
abbrev pub entries : ℕ → Values → Stored → List Entry
entries zero vs ks = []
entries (suc n) vs ks = either (value_at n vs) (kept_at n ks) ∷ entries n (behind_value n vs) (behind_kept n ks)

pub record ArePlaces (es : List Entry) (n : ℕ) (vs : Values) (ks : Stored) : Type 0 where
  pub all : n ≡ length es
  pub values : vs ≡ value_places es
  pub kept : ks ≡ kept_places es

-- ---- places to come back to

pub record IsMark (m : Mark) (es : List Entry) : Type 0 where
  pub all : m.all ≡ length es
  pub values : m.values ≡ length (value_places es)
  pub kept : m.kept ≡ length (kept_places es)

-- some of the names, the outermost, are those of the mark
pub record Cuts (m : Mark) (es : List Entry) : Type 0 where
  pub more : List Entry
  pub before : List Entry
  pub whole : es ≡ more ++ before
  pub mark : IsMark m before

-- ---- what is found

pub record IsUse (es : List Entry) (x : Bytes) (u : Use) : Type 0 where
  pub index : u.index ≡ (found_from zero es x).index
  pub cell : u.is_cell ≡ (found_from zero es x).cell

abbrev pub kept_in : List Entry → Bytes → ℕ
kept_in es x = kept_from zero es x

abbrev pub frame : List Entry → List Exit → Frame
frame names exits = record { names = names; exits = exits }
