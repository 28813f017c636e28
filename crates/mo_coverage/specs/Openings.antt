-- What a pattern opens of the values of which something is known: pieces that are not matched, and the part that it looks into.
use Rattle.std.specs.Prelude.{List, [], ◌∷◌, ◌++◌, Bool, true, false, not, ◌&&◌, cond, Option, Some, None}
use Rattle.std.specs.Str.{bytes_eq}
use Rattle.mo_types.specs.declared.datum.Datum.{Datum}
use Rattle.mo_types.specs.declared.datum.Datum.TheVariants as part
use Rattle.mo_types.specs.declared.node.Field.{Field}
use Rattle.mo_types.specs.declared.node.Node.{Node}
use Rattle.mo_types.specs.declared.node.Node.TheVariants as node
use Rattle.mo_values.specs.Parts.{is_leaf_of, same_part}
use Rattle.mo_values.specs.Shapes.{Bytes}
use Rattle.pattern_coverage.specs.Cutting.{Piece, piece, around, is_label_among}
use Rattle.pattern_coverage.specs.Known.{Known, Unknown, Is, IsNot, Holds, Under, NotUnder}
use Rattle.pattern_coverage.specs.Leaves.{is_among, remains}
use Rattle.mo_coverage.specs.Places.{Seat, seat_of, tag_left}

pub record Opening (A : Type 0) : Type 0 where
  pub before : Option Known
  pub inside : Option (A × Known)
  pub after : Option Known

-- a piece that is not matched, if there is one
abbrev pub left : Option Known → List Piece
left None = []
left (Some k) = piece false k ∷ []

-- as what stands under the tag, or as what the option holds
abbrev pub wrap : Option Bytes → Known → Known
wrap None k = Holds k
wrap (Some l) k = Under l k

abbrev pub if_so : {V : Type 0} → Bool → V → Option V
if_so true v = Some v
if_so false v = None

module _ {A : Type 0} where
  -- of what is inside, the pieces, as pieces of the whole
  abbrev pub inside_pieces : (A → Known → List Piece) → (Known → Known) → Option (A × Known) → List Piece
  inside_pieces f wrap None = []
  inside_pieces f wrap (Some p) = around wrap (f p.0 p.1)

  abbrev pub pieces_of : (A → Known → List Piece) → (Known → Known) → Opening A → List Piece
  pieces_of f wrap o = left o.before ++ inside_pieces f wrap o.inside ++ left o.after

  abbrev pub nothing : Known → Opening A
  nothing k = record { before = Some k; inside = None; after = None }

  abbrev pub only : Option (A × Known) → Opening A
  only inside = record { before = None; inside = inside; after = None }

  -- ---- options

  abbrev pub opened_option : (A → Bool) → Node A → Known → Opening A
  opened_option has (node.Opt u) Unknown = record { before = Some (Is part.Null); inside = if_so (has u) (u, Unknown); after = None }
  opened_option has (node.Opt u) (Holds k) = only (Some (u, k))
  opened_option has x k = nothing k

  -- ---- tags

  abbrev pub opened_new : (A → Bool) → Bytes → List Bytes → Known → List (Field A) → Option (Seat A) → Opening A
  opened_new has l ls k fs None = nothing k
  opened_new has l ls k fs (Some s) = record { before = None; inside = if_so (has s.1) (s.1, Unknown); after = if_so (tag_left has fs (l ∷ ls)) (NotUnder (l ∷ ls)) }

  abbrev pub opened_old : Bytes → Known → Option (Seat A) → Opening A
  opened_old m k None = nothing (Under m k)
  opened_old m k (Some s) = only (Some (s.1, k))

  abbrev pub opened_tag : (A → Bool) → Bytes → Node A → Known → Opening A
  opened_tag has l (node.Variant fs) Unknown = opened_new has l [] Unknown fs (seat_of l fs)
  opened_tag has l (node.Variant fs) (NotUnder ls) = cond (is_label_among l ls) (nothing (NotUnder ls)) (opened_new has l ls (NotUnder ls) fs (seat_of l fs))
  opened_tag has l (node.Variant fs) (Under m k) = cond (bytes_eq l m) (opened_old m k (seat_of m fs)) (nothing (Under m k))
  opened_tag has l x k = nothing k

  -- ---- literals

  abbrev pub besides_left : (A → Bool) → Datum → List Datum → Node A → Option Known
  besides_left has c ds (node.Opt u) = if_so (has u) (Holds Unknown)
  besides_left has c ds x = if_so (remains x (c ∷ ds)) (IsNot (c ∷ ds))

  abbrev pub literal_cut : (A → Bool) → Datum → Node A → Known → List Piece
  literal_cut has c x Unknown = cond (is_leaf_of x c) (piece true (Is c) ∷ left (besides_left has c [] x)) (piece false Unknown ∷ [])
  literal_cut has c x (Is d) = piece (same_part c d) (Is d) ∷ []
  literal_cut has c x (IsNot ds) = cond (is_leaf_of x c && not (is_among c ds)) (piece true (Is c) ∷ left (besides_left has c ds x)) (piece false (IsNot ds) ∷ [])
  literal_cut has c x k = piece false k ∷ []
