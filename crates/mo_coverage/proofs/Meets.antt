-- What is opened, cut, is what the pattern cuts.
use Rattle.std.proofs.Common.{◌≡◌, List, [], ◌∷◌, ◌++◌, Bool, true, false, Option, Some, None, refl, ap, ◌∙◌}
use Rattle.std.specs.Prelude.{not, ◌&&◌, ◌||◌, cond}
use Rattle.std.specs.Str.{bytes_eq}
use Rattle.std.proofs.lemmas.List.{append-nil}
use Rattle.mo_types.specs.declared.datum.Datum.{Datum}
use Rattle.mo_types.specs.declared.datum.Datum.TheVariants as part
use Rattle.mo_types.specs.declared.node.Field.{Field}
use Rattle.mo_types.specs.declared.node.Node.{Node}
use Rattle.mo_types.specs.declared.node.Node.TheVariants as node
use Rattle.mo_types.specs.Sub.{find}
use Rattle.mo_values.specs.Parts.{is_leaf_of}
use Rattle.mo_values.specs.Shapes.{Bytes}
use Rattle.pattern_coverage.specs.Cutting.{Piece, piece, around, where_known, is_label_among, besides, cut_literal, cut_option, tag_remains, cut_new, cut_old, cut_tag}
use Rattle.pattern_coverage.specs.Known.{Known, Unknown, Is, IsNot, Holds, Under, NotUnder}
use Rattle.pattern_coverage.specs.Leaves.{remains}
use Rattle.pattern_coverage.proofs.Option.{bytes_same}
use Rattle.mo_coverage.specs.Openings.{Opening, left, wrap, if_so, inside_pieces, pieces_of, opened_option, opened_new, opened_old, opened_tag, besides_left, literal_cut}
use Rattle.mo_coverage.specs.Places.{Seat, later, seat_of, tag_left}

left_if : (b : Bool) (k : Known) → left (if_so b k) ≡ where_known b k
left_if true k = refl
left_if false k = refl

module _ {A : Type 0} (head : A → Node A) (has : A → Bool) where
  -- ---- literals

  besides_meet : (c : Datum) (ds : List Datum) (x : Node A) → left (besides_left has c ds x) ≡ besides head has c ds x
  besides_meet c ds (node.Opt u) = left_if (has u) (Holds Unknown)
  besides_meet c ds x = left_if (remains x (c ∷ ds)) (IsNot (c ∷ ds))

  pub literal_meets : (c : Datum) (x : Node A) (k : Known) → literal_cut has c x k ≡ cut_literal head has c x k
  literal_meets c x Unknown = ap (λ z. cond (is_leaf_of x c) (piece true (Is c) ∷ z) (piece false Unknown ∷ [])) (besides_meet c [] x)
  literal_meets c x (IsNot ds) = ap (λ z. cond (is_leaf_of x c && not (Rattle.pattern_coverage.specs.Leaves.is_among c ds)) (piece true (Is c) ∷ z) (piece false (IsNot ds) ∷ [])) (besides_meet c ds x)
  literal_meets c x k = refl

  -- ---- options

  module _ (f : A → Known → List Piece) (w : Known → Known) where
    inside_if : (b : Bool) (u : A) (k : Known) → inside_pieces f w (if_so b (u, k)) ≡ cond b (around w (f u k)) []
    inside_if true u k = refl
    inside_if false u k = refl

  pub option_meets : (f : A → Known → List Piece) (x : Node A) (k : Known) → pieces_of f (wrap None) (opened_option has x k) ≡ cut_option head has f x k
  option_meets f (node.Opt u) Unknown = append-nil (piece false (Is part.Null) ∷ inside_pieces f (wrap None) (if_so (has u) (u, Unknown))) ∙ ap (λ z. piece false (Is part.Null) ∷ z) (inside_if f (wrap None) (has u) u Unknown)
  option_meets f (node.Opt u) (Holds k) = append-nil (around (wrap None) (f u k))
  option_meets f x k = refl

  -- ---- tags

  pub tags_left : (fs : List (Field A)) (ls : List Bytes) → tag_left has fs ls ≡ tag_remains head has fs ls
  tags_left [] ls = refl
  tags_left (f ∷ fs) ls = ap (λ b. (has f.part && not (is_label_among f.label ls)) || b) (tags_left fs ls)

  -- the same field
  abbrev pub IsSeat : Option (Seat A) → Option (Field A) → Type 0
  IsSeat None None = Unit {0}
  IsSeat None (Some g) = ⊥
  IsSeat (Some s) None = ⊥
  IsSeat (Some s) (Some g) = s.1 ≡ g.part

  is_later : (s : Option (Seat A)) (g : Option (Field A)) → IsSeat s g → IsSeat (later 1 s) g
  is_later None None h = h
  is_later None (Some g) h = h
  is_later (Some s) None h = h
  is_later (Some s) (Some g) h = h

  pub seat_is : (l : Bytes) (fs : List (Field A)) → IsSeat (seat_of l fs) (find l fs)
  seat_is l [] = tt
  seat_is l (f ∷ fs) = by (bytes_eq f.label l) (seat_is l fs)
    where
      by : (b : Bool) → IsSeat (seat_of l fs) (find l fs) → IsSeat (cond b (Some (0, f.part)) (later 1 (seat_of l fs))) (cond b (Some f) (find l fs))
      by true h = refl
      by false h = is_later (seat_of l fs) (find l fs) h

  new_meets : (f : A → Known → List Piece) (l : Bytes) (ls : List Bytes) (k : Known) (fs : List (Field A)) (s : Option (Seat A)) (g : Option (Field A)) → IsSeat s g
      → pieces_of f (wrap (Some l)) (opened_new has l ls k fs s) ≡ cut_new head has f l ls k fs g
  new_meets f l ls k fs None None h = refl
  new_meets f l ls k fs None (Some g) h = absurd h
  new_meets f l ls k fs (Some s) None h = absurd h
  new_meets f l ls k fs (Some s) (Some g) h =
      ap (λ u. inside_pieces f (wrap (Some l)) (if_so (has u) (u, Unknown)) ++ left (if_so (tag_left has fs (l ∷ ls)) (NotUnder (l ∷ ls)))) h
      ∙ ap (λ z. z ++ left (if_so (tag_left has fs (l ∷ ls)) (NotUnder (l ∷ ls)))) (inside_if f (wrap (Some l)) (has g.part) g.part Unknown)
      ∙ ap (λ z. cond (has g.part) (around (Under l) (f g.part Unknown)) [] ++ z) (left_if (tag_left has fs (l ∷ ls)) (NotUnder (l ∷ ls)) ∙ ap (λ b. where_known b (NotUnder (l ∷ ls))) (tags_left fs (l ∷ ls)))

  old_meets : (f : A → Known → List Piece) (m : Bytes) (k : Known) (s : Option (Seat A)) (g : Option (Field A)) → IsSeat s g → pieces_of f (wrap (Some m)) (opened_old m k s) ≡ cut_old head has f m k g
  old_meets f m k None None h = refl
  old_meets f m k None (Some g) h = absurd h
  old_meets f m k (Some s) None h = absurd h
  old_meets f m k (Some s) (Some g) h = append-nil (around (wrap (Some m)) (f s.1 k)) ∙ ap (λ u. around (Under m) (f u k)) h

  pub tag_meets : (f : A → Known → List Piece) (l : Bytes) (x : Node A) (k : Known) → pieces_of f (wrap (Some l)) (opened_tag has l x k) ≡ cut_tag head has f l x k
  tag_meets f l (node.Variant fs) Unknown = new_meets f l [] Unknown fs (seat_of l fs) (find l fs) (seat_is l fs)
  tag_meets f l (node.Variant fs) (NotUnder ls) = by (is_label_among l ls)
    where
      by : (b : Bool) → pieces_of f (wrap (Some l)) (cond b (Rattle.mo_coverage.specs.Openings.nothing (NotUnder ls)) (opened_new has l ls (NotUnder ls) fs (seat_of l fs))) ≡ cond b (piece false (NotUnder ls) ∷ []) (cut_new head has f l ls (NotUnder ls) fs (find l fs))
      by true = refl
      by false = new_meets f l ls (NotUnder ls) fs (seat_of l fs) (find l fs) (seat_is l fs)
  tag_meets f l (node.Variant fs) (Under m k) = by (bytes_eq l m) refl
    where
      by : (b : Bool) → bytes_eq l m ≡ b → pieces_of f (wrap (Some l)) (cond b (opened_old m k (seat_of m fs)) (Rattle.mo_coverage.specs.Openings.nothing (Under m k))) ≡ cond b (cut_old head has f m k (find m fs)) (piece false (Under m k) ∷ [])
      by true q = ap (λ n. pieces_of f (wrap (Some n)) (opened_old m k (seat_of m fs))) (bytes_same l m q) ∙ old_meets f m k (seat_of m fs) (find m fs) (seat_is m fs)
      by false q = refl
  tag_meets f l x k = refl
