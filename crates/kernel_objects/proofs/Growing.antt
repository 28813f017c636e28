-- Around the end of a list stand the names of its declarations and then those around the list; what can be left is the same.
use Rattle.std.proofs.Common.{◌≡◌, ◌∙◌, ℕ, zero, suc, Bool, true, false, List, [], ◌∷◌, ◌++◌, map, refl, sym, append_assoc}
use Rattle.typed_tree.specs.Placing.{Declared}
use Rattle.desugaring.specs.Frames.{Entry, Frame, with_entries}
use Rattle.desugaring.specs.Pieces.{AFunction, AStep, AnExpression, Arranged, Becomes, Nothing, Piece, arranged, arranged_from, group_at, is_end, names_of, placed_piece}

pub record Grown (old new : Frame) : Type 0 where
  pub more : List Entry
  pub names : new.names ≡ more ++ old.names
  pub exits : new.exits ≡ old.exits

itself : (f : Frame) → Grown f f
itself f = record { more = []; names = refl; exits = refl }

behind : (es : List Entry) (old new : Frame) → Grown (with_entries es old) new → Grown old new
behind es old new g = record {
  more = g.more ++ es;
  names = g.names ∙ sym (append_assoc g.more es old.names);
  exits = g.exits;
}

Grows : (Frame → Arranged) → Type 0
Grows k = (f : Frame) → Grown f (k f).frame

placed : (x : Becomes) (b : Bool) (k : Frame → Arranged) → Grows k → Grows (placed_piece x b k)
unfolding Grows
placed (AStep binds step) b k h f = behind binds f (k (with_entries binds f)).frame (h (with_entries binds f))
placed (AFunction x g) b k h f = h f
placed (AnExpression e) true k h f = itself f
placed (AnExpression e) false k h f = h f
placed Nothing b k h f = h f

module _ (all : List Declared) (pieces : List Piece) (has_value : Bool) where
  from_grows : (n : ℕ) (rest : List Piece) → Grows (arranged_from all pieces has_value n rest)
  unfolding Grows
  from_grows n [] f = behind (names_of (group_at all n pieces)) f (with_entries (names_of (group_at all n pieces)) f) (itself (with_entries (names_of (group_at all n pieces)) f))
  from_grows n (b ∷ rest) f =
      behind (names_of (group_at all n pieces)) f (placed_piece b.becomes (is_end all pieces has_value rest) (arranged_from all pieces has_value (suc n) rest) (with_entries (names_of (group_at all n pieces)) f)).frame
      (placed b.becomes (is_end all pieces has_value rest) (arranged_from all pieces has_value (suc n) rest) (from_grows (suc n) rest) (with_entries (names_of (group_at all n pieces)) f))

pub list_grows : (has_value : Bool) (pieces : List Piece) (f : Frame) → Grown f (arranged has_value pieces f).frame
unfolding Grows
list_grows has_value pieces f = from_grows (map (λ (b : Piece). b.declared) pieces) pieces has_value zero pieces f
