-- The parts of a tuple or an object cut place by place: what is known of the parts, and whether all places so far match.
use Rattle.std.specs.Prelude.{ℕ, suc, List, [], ◌∷◌, ◌++◌, slice_get, slice_set, Bool, true, false, cond, Option, Some, None}
use Rattle.mo_types.specs.declared.node.Field.{Field}
use Rattle.mo_types.specs.declared.node.Node.{Node}
use Rattle.mo_types.specs.Values.{copies}
use Rattle.mo_values.specs.Shapes.{Bytes}
use Rattle.typed_tree.specs.Patterns.{Pats, NoPat, APat}
use Rattle.pattern_coverage.specs.Cutting.{Piece, piece, cut}
use Rattle.pattern_coverage.specs.Known.{Known, Knowns, Unknown, Parts, Fields, NoKnown, AKnown}
use Rattle.mo_coverage.specs.Places.{Seat, seat_at, seat_of}
use Rattle.mo_coverage.specs.Shapes.{knowns}

pub record Column : Type 0 where
  pub matched : Bool
  pub parts : List Known

abbrev pub column : Bool → List Known → Column
column b ks = record { matched = b; parts = ks }

-- one for each piece of the part at place i
abbrev pub spread : ℕ → List Known → List Piece → List Column
spread i ks [] = []
spread i ks (c ∷ cs) = column c.matched (slice_set ks i c.known) ∷ spread i ks cs

-- where nothing stands at the place, none matches, or it is as if nothing were known of it
abbrev pub cut_place : (Known → List Piece) → Bool → ℕ → List Known → Option Known → List Column
cut_place f strict i ks (Some k) = spread i ks (f k)
cut_place f true i ks None = column false ks ∷ []
cut_place f false i ks None = spread i ks (f Unknown)

abbrev pub cut_one : (Known → List Piece) → Bool → ℕ → Column → List Column
cut_one f strict i s = cond s.matched (cut_place f strict i s.parts (slice_get s.parts i)) (s ∷ [])

abbrev pub cut_all : (Known → List Piece) → Bool → ℕ → List Column → List Column
cut_all f strict i [] = []
cut_all f strict i (s ∷ ss) = cut_one f strict i s ++ cut_all f strict i ss

abbrev pub none_match : List Column → List Column
none_match [] = []
none_match (s ∷ ss) = column false s.parts ∷ none_match ss

module _ {A : Type 0} where
  abbrev pub cut_typed : (A → Known → List Piece) → Bool → Option (Seat A) → List Column → List Column
  cut_typed f strict None ss = none_match ss
  cut_typed f strict (Some s) ss = cut_all (f s.1) strict s.0 ss

module _ {A : Type 0} (head : A → Node A) (has : A → Bool) where
  abbrev pub parts_cut : Pats → ℕ → List A → List Column → List Column
  parts_cut NoPat i ts ss = ss
  parts_cut (APat p ps) i ts ss = parts_cut ps (suc i) ts (cut_typed (λ u j. cut head has p u j) true (seat_at i ts) ss)

  abbrev pub fields_cut : List Bytes → Pats → List (Field A) → List Column → List Column
  fields_cut [] ps fs ss = ss
  fields_cut (l ∷ ls) NoPat fs ss = ss
  fields_cut (l ∷ ls) (APat p ps) fs ss = fields_cut ls ps fs (cut_typed (λ u j. cut head has p u j) false (seat_of l fs) ss)

-- ---- what is known of the whole, and of its parts

pub data Taking : Type 0 where
  Took : (parts : List Known) → Taking
  Left : (known : Known) → Taking

abbrev pub list_of : Knowns → List Known
list_of NoKnown = []
list_of (AKnown k ks) = k ∷ list_of ks

abbrev pub take_tuple : ℕ → Known → Taking
take_tuple n Unknown = Took (copies n Unknown)
take_tuple n (Parts ks) = Took (list_of ks)
take_tuple n k = Left k

abbrev pub take_object : ℕ → Known → Taking
take_object n Unknown = Took (copies n Unknown)
take_object n (Fields ls ks) = Took (list_of ks)
take_object n k = Left k

abbrev pub wholes : (Knowns → Known) → List Column → List Piece
wholes f [] = []
wholes f (s ∷ ss) = piece s.matched (f (knowns s.parts)) ∷ wholes f ss

abbrev pub of_taking : (List Known → List Piece) → Taking → List Piece
of_taking g (Took ks) = g ks
of_taking g (Left k) = piece false k ∷ []
