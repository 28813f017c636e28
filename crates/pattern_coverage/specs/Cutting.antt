-- What is known of a value, cut by a pattern: into pieces whose values all match it, and pieces of which none does. A piece of which the
-- type has no value is left out.
use Rattle.std.specs.Prelude.{List, [], ◌∷◌, ◌++◌, Bool, true, false, not, ◌&&◌, ◌||◌, cond, Option, Some, None}
use Rattle.std.specs.Str.{bytes_eq}
use Rattle.mo_types.specs.declared.datum.Datum.{Datum}
use Rattle.mo_types.specs.declared.datum.Datum.TheVariants as part
use Rattle.mo_types.specs.declared.node.Field.{Field}
use Rattle.mo_types.specs.declared.node.Node.{Node}
use Rattle.mo_types.specs.declared.node.Node.TheVariants as node
use Rattle.mo_types.specs.Sub.{find}
use Rattle.mo_types.specs.Values.{types_of}
use Rattle.mo_values.specs.Messages.{labels}
use Rattle.mo_values.specs.Parts.{is_leaf_of, same_part}
use Rattle.mo_values.specs.Shapes.{Bytes}
use Rattle.typed_tree.specs.Patterns.{Pat, Pats, Wildcard, Bind, Constant, Present?, Tagged, Either, NoPat, APat}
use Rattle.typed_tree.specs.Patterns as pattern
use Rattle.pattern_coverage.specs.Known.{Known, Knowns, Unknown, Is, IsNot, Holds, Under, NotUnder, Parts, Fields, NoKnown, AKnown}
use Rattle.pattern_coverage.specs.Leaves.{is_among, remains}

-- all of its values match, or none does
pub record Piece : Type 0 where
  pub matched : Bool
  pub known : Known

-- the same of the parts of a tuple or an object
pub record Pieces : Type 0 where
  pub matched : Bool
  pub known : Knowns

abbrev pub piece : Bool → Known → Piece
piece b k = record { matched = b; known = k }

abbrev pub pieces : Bool → Knowns → Pieces
pieces b ks = record { matched = b; known = ks }

-- what is known of a part, as known of the whole
abbrev pub around : (Known → Known) → List Piece → List Piece
around f [] = []
around f (c ∷ cs) = piece c.matched (f c.known) ∷ around f cs

abbrev pub of_parts : (Knowns → Known) → List Pieces → List Piece
of_parts f [] = []
of_parts f (c ∷ cs) = piece c.matched (f c.known) ∷ of_parts f cs

abbrev pub behind : Known → List Pieces → List Pieces
behind k [] = []
behind k (c ∷ cs) = pieces c.matched (AKnown k c.known) ∷ behind k cs

abbrev pub where_known : Bool → Known → List Piece
where_known true k = piece false k ∷ []
where_known false k = []

abbrev pub is_label_among : Bytes → List Bytes → Bool
is_label_among l [] = false
is_label_among l (m ∷ ms) = bytes_eq l m || is_label_among l ms

-- the first part, and then the others where it matches; else the others stay as they are
abbrev pub first_then : List Piece → List Pieces → Knowns → List Pieces
first_then [] rest ks = []
first_then (c ∷ cs) rest ks = cond c.matched (behind c.known rest) (pieces false (AKnown c.known ks) ∷ []) ++ first_then cs rest ks

-- the same of a field, where the others are cut with what is known of it put in
abbrev pub field_then : List Piece → (Known → Knowns) → (Knowns → List Pieces) → List Pieces
field_then [] put rest = []
field_then (c ∷ cs) put rest = cond c.matched (rest (put c.known)) (pieces false (put c.known) ∷ []) ++ field_then cs put rest

-- the pieces that do not match the first pattern, cut by the second
abbrev pub or_else : List Piece → (Known → List Piece) → List Piece
or_else [] f = []
or_else (c ∷ cs) f = cond c.matched (c ∷ []) (f c.known) ++ or_else cs f

module _ {A : Type 0} where
  abbrev pub unknowns : List A → Knowns
  unknowns [] = NoKnown
  unknowns (t ∷ ts) = AKnown Unknown (unknowns ts)

  -- what is known of the field with this label
  abbrev pub known_at : Bytes → List (Field A) → Knowns → Known
  known_at l [] ks = Unknown
  known_at l (f ∷ fs) NoKnown = Unknown
  known_at l (f ∷ fs) (AKnown k ks) = cond (bytes_eq f.label l) k (known_at l fs ks)

  abbrev pub put_at : Bytes → List (Field A) → Knowns → Known → Knowns
  put_at l [] ks j = ks
  put_at l (f ∷ fs) NoKnown j = NoKnown
  put_at l (f ∷ fs) (AKnown k ks) j = cond (bytes_eq f.label l) (AKnown j ks) (AKnown k (put_at l fs ks j))

  abbrev pub cut_tuple : (List A → Knowns → List Pieces) → Node A → Known → List Piece
  cut_tuple f (node.Tuple ts) Unknown = of_parts Parts (f ts (unknowns ts))
  cut_tuple f (node.Tuple ts) (Parts ks) = of_parts Parts (f ts ks)
  cut_tuple f x k = piece false k ∷ []

  abbrev pub cut_object : (List (Field A) → Knowns → List Pieces) → Node A → Known → List Piece
  cut_object f (node.Object fs) Unknown = of_parts (Fields (labels fs)) (f fs (unknowns (types_of fs)))
  cut_object f (node.Object fs) (Fields ls ks) = of_parts (Fields (labels fs)) (f fs ks)
  cut_object f x k = piece false k ∷ []

  abbrev pub cut_field : (A → Known → List Piece) → (Knowns → List Pieces) → Bytes → List (Field A) → Option (Field A) → Knowns → List Pieces
  cut_field f rest l fs None ks = pieces false ks ∷ []
  cut_field f rest l fs (Some g) ks = field_then (f g.part (known_at l fs ks)) (put_at l fs ks) rest

-- has says which types have values
module _ {A : Type 0} (head : A → Node A) (has : A → Bool) where
  -- ---- literals

  -- besides this literal, and these
  abbrev pub besides : Datum → List Datum → Node A → List Piece
  besides c ds (node.Opt u) = where_known (has u) (Holds Unknown)
  besides c ds x = where_known (remains x (c ∷ ds)) (IsNot (c ∷ ds))

  abbrev pub cut_literal : Datum → Node A → Known → List Piece
  cut_literal c x Unknown = cond (is_leaf_of x c) (piece true (Is c) ∷ besides c [] x) (piece false Unknown ∷ [])
  cut_literal c x (Is d) = piece (same_part c d) (Is d) ∷ []
  cut_literal c x (IsNot ds) = cond (is_leaf_of x c && not (is_among c ds)) (piece true (Is c) ∷ besides c ds x) (piece false (IsNot ds) ∷ [])
  cut_literal c x k = piece false k ∷ []

  -- ---- options and tags

  abbrev pub cut_option : (A → Known → List Piece) → Node A → Known → List Piece
  cut_option f (node.Opt u) Unknown = piece false (Is part.Null) ∷ cond (has u) (around Holds (f u Unknown)) []
  cut_option f (node.Opt u) (Holds k) = around Holds (f u k)
  cut_option f x k = piece false k ∷ []

  -- a tag with values that is none of these
  abbrev pub tag_remains : List (Field A) → List Bytes → Bool
  tag_remains [] ls = false
  tag_remains (f ∷ fs) ls = (has f.part && not (is_label_among f.label ls)) || tag_remains fs ls

  -- by a tag that is none of these
  abbrev pub cut_new : (A → Known → List Piece) → Bytes → List Bytes → Known → List (Field A) → Option (Field A) → List Piece
  cut_new f l ls k fs None = piece false k ∷ []
  cut_new f l ls k fs (Some g) = cond (has g.part) (around (Under l) (f g.part Unknown)) [] ++ where_known (tag_remains fs (l ∷ ls)) (NotUnder (l ∷ ls))

  abbrev pub cut_old : (A → Known → List Piece) → Bytes → Known → Option (Field A) → List Piece
  cut_old f l k None = piece false (Under l k) ∷ []
  cut_old f l k (Some g) = around (Under l) (f g.part k)

  abbrev pub cut_tag : (A → Known → List Piece) → Bytes → Node A → Known → List Piece
  cut_tag f l (node.Variant fs) Unknown = cut_new f l [] Unknown fs (find l fs)
  cut_tag f l (node.Variant fs) (NotUnder ls) = cond (is_label_among l ls) (piece false (NotUnder ls) ∷ []) (cut_new f l ls (NotUnder ls) fs (find l fs))
  cut_tag f l (node.Variant fs) (Under m k) = cond (bytes_eq l m) (cut_old f m k (find m fs)) (piece false (Under m k) ∷ [])
  cut_tag f l x k = piece false k ∷ []

  abbrev mutual
    pub cut : Pat → A → Known → List Piece
    cut Wildcard t k = piece true k ∷ []
    cut Bind t k = piece true k ∷ []
    cut (Constant c) t k = cut_literal c (head t) k
    cut (Present? p) t k = cut_option (λ u j. cut p u j) (head t) k
    cut (Tagged l p) t k = cut_tag (λ u j. cut p u j) l (head t) k
    cut (pattern.Parts ps) t k = cut_tuple (λ ts ks. cut_parts ps ts ks) (head t) k
    cut (pattern.Fields ls ps) t k = cut_object (λ fs ks. cut_fields ls ps fs ks) (head t) k
    cut (Either p q) t k = or_else (cut p t k) (λ j. cut q t j)

    pub cut_parts : Pats → List A → Knowns → List Pieces
    cut_parts NoPat ts ks = pieces true ks ∷ []
    cut_parts (APat p ps) [] ks = pieces false ks ∷ []
    cut_parts (APat p ps) (t ∷ ts) NoKnown = pieces false NoKnown ∷ []
    cut_parts (APat p ps) (t ∷ ts) (AKnown k ks) = first_then (cut p t k) (cut_parts ps ts ks) ks

    pub cut_fields : List Bytes → Pats → List (Field A) → Knowns → List Pieces
    cut_fields [] ps fs ks = pieces true ks ∷ []
    cut_fields (l ∷ ls) NoPat fs ks = pieces true ks ∷ []
    cut_fields (l ∷ ls) (APat p ps) fs ks = cut_field (λ u j. cut p u j) (λ js. cut_fields ls ps fs js) l fs (find l fs) ks
