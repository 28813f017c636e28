-- What easy patterns under tags miss of a variant.
use Rattle.std.proofs.Common.{◌≡◌, ℕ, zero, suc, List, [], ◌∷◌, ◌++◌, length, map, Bool, true, false, Option, Some, None, refl, sym, ap, ◌∙◌, subst}
use Rattle.std.specs.Prelude.{not, ◌&&◌, ◌||◌, ◌==◌, cond, slice_get}
use Rattle.std.specs.Str.{bytes_eq}
use Rattle.std.proofs.lemmas.List.{append-nil}
use Rattle.mo_types.specs.declared.node.Field.{Field}
use Rattle.mo_types.specs.declared.node.Node.{Node}
use Rattle.mo_types.specs.declared.node.Node.TheVariants as node
use Rattle.mo_types.specs.declared.node.TypeId.{TypeId}
use Rattle.mo_types.specs.Graph.{Slot}
use Rattle.mo_types.specs.Heads.{tuple_of, object_of, variant_of, variable_of}
use Rattle.mo_types.specs.Sub.{Each, IsSomething, find}
use Rattle.mo_values.specs.Shapes.{Bytes}
use Rattle.typed_tree.specs.Patterns.{Pat, Pats, Wildcard, Bind, Tagged, Parts, NoPat, APat}
use Rattle.pattern_coverage.specs.Cover as cover
use Rattle.pattern_coverage.specs.Cover.{Tells, coverage, cut_missed, first_missed, missed}
use Rattle.pattern_coverage.specs.Cutting.{Piece, Pieces, piece, pieces, behind, around, where_known, is_label_among, unknowns, tag_remains, cut_new, cut, cut_parts}
use Rattle.pattern_coverage.specs.Followed.{value_head}
use Rattle.pattern_coverage.specs.Inhabited.{always, HasValues, ByForm, ByParts, ByFields, ByTag, ByBound}
use Rattle.pattern_coverage.specs.Known.{Known, Knowns, Unknown, NotUnder, Under, AKnown}
use Rattle.pattern_coverage.specs.Known as K
use Rattle.pattern_coverage.specs.Suited.{IsOn, AreOn, OnPart, OnVariant, OnTuple}
use Rattle.pattern_coverage.proofs.Option.{bytes_self}
use Rattle.pattern_coverage.proofs.Seen.{no}
use Rattle.mo_coverage.specs.Easy.{are_names, is_easy}
use Rattle.mo_coverage.specs.Met.{AreEasyTags, IsByTags, IsEasyAt, IsEasyTag, left_over, met, met_by, met_tag}
use Rattle.mo_coverage.proofs.Meets.{tags_left}

-- a pattern that matches all values makes one piece
record Taken (cs : List Piece) : Type 0 where
  known : Known
  is : cs ≡ piece true known ∷ []

-- ---- more tags leave fewer

or_less : (h a b : Bool) → (h && not a) ≡ false → (h && not (b || a)) ≡ false
or_less true true true e = refl
or_less true true false e = refl
or_less true false b e = cc
or_less false a b e = refl

split_or : (a b : Bool) → (a || b) ≡ false → (a ≡ false) × (b ≡ false)
split_or true b e = cc
split_or false b e = (refl, e)

-- where there is a pattern
pub some_tags : {X : Type 0} (f : X → Pat) (fs : List (Field TypeId)) (xs : List X) → (length xs == 0) ≡ false → Each (IsEasyTag fs) (map f xs) → AreEasyTags fs (map f xs)
some_tags f fs [] e h = cc
some_tags f fs (x ∷ xs) e h = h

module _ (types : List Slot) (has : TypeId → Bool) (tells : Tells (value_head types) has) where
  abbrev head : TypeId → Node TypeId
  head = value_head types

  fewer : (fs : List (Field TypeId)) (l : Bytes) (ls : List Bytes) → tag_remains head has fs ls ≡ false → tag_remains head has fs (l ∷ ls) ≡ false
  fewer [] l ls e = refl
  fewer (f ∷ fs) l ls e =
      let s = split_or (has f.part && not (is_label_among f.label ls)) (tag_remains head has fs ls) e in
      ap (λ b. b || tag_remains head has fs (l ∷ ls)) (or_less (has f.part) (is_label_among f.label ls) (bytes_eq f.label l) s.0) ∙ fewer fs l ls s.1

  fewer_by : (fs : List (Field TypeId)) (p : Pat) (ls : List Bytes) → tag_remains head has fs ls ≡ false → tag_remains head has fs (met_by p ls) ≡ false
  fewer_by fs (Tagged l q) ls e = by (is_label_among l ls)
    where
      by : (b : Bool) → tag_remains head has fs (cond b ls (l ∷ ls)) ≡ false
      by true = e
      by false = fewer fs l ls e
  fewer_by fs p ls e = e

  none_later : (fs : List (Field TypeId)) (ps : List Pat) (ls : List Bytes) → tag_remains head has fs ls ≡ false → tag_remains head has fs (met ps ls) ≡ false
  none_later fs [] ls e = e
  none_later fs (p ∷ ps) ls e = none_later fs ps (met_by p ls) (fewer_by fs p ls e)

  -- ---- easy patterns

  none_has : (t : TypeId) → head t ≡ node.Bottom → HasValues head t → ⊥
  none_has t e (ByForm _ h) = no (sym (ap always e) ∙ h)
  none_has t e (ByParts _ ts f h) = subst IsSomething (sym (ap tuple_of f) ∙ ap tuple_of e) tt
  none_has t e (ByFields _ fs f h) = subst IsSomething (sym (ap object_of f) ∙ ap object_of e) tt
  none_has t e (ByTag _ fs l g f i h) = subst IsSomething (sym (ap variant_of f) ∙ ap variant_of e) tt
  none_has t e (ByBound _ b v f h) = subst IsSomething (sym (ap variable_of f) ∙ ap variable_of e) tt

  names_cut : (ps : Pats) (ts : List TypeId) → are_names ps ≡ true → AreOn head ps ts → cut_parts head has ps ts (unknowns ts) ≡ pieces true (unknowns ts) ∷ []
  names_cut NoPat [] n o = refl
  names_cut NoPat (t ∷ ts) n o = absurd o
  names_cut (APat p ps) [] n o = absurd o
  names_cut (APat Wildcard ps) (t ∷ ts) n o = append-nil (behind Unknown (cut_parts head has ps ts (unknowns ts))) ∙ ap (behind Unknown) (names_cut ps ts n o.1)
  names_cut (APat Bind ps) (t ∷ ts) n o = append-nil (behind Unknown (cut_parts head has ps ts (unknowns ts))) ∙ ap (behind Unknown) (names_cut ps ts n o.1)
  names_cut (APat p ps) (t ∷ ts) n o = cc

  easy_cut : (q : Pat) (u : TypeId) → is_easy q ≡ true → IsOn head q u → HasValues head u → Taken (cut head has q u Unknown)
  easy_cut Wildcard u y o v = record { known = Unknown; is = refl }
  easy_cut Bind u y o v = record { known = Unknown; is = refl }
  easy_cut (Parts ps) u y o v = by (head u) refl o
    where
      by : (x : Node TypeId) → head u ≡ x → OnTuple (λ ts. AreOn head ps ts) x → Taken (Rattle.pattern_coverage.specs.Cutting.cut_tuple (λ ts ks. cut_parts head has ps ts ks) x Unknown)
      by (node.Tuple ts) e h = record { known = K.Parts (unknowns ts); is = ap (Rattle.pattern_coverage.specs.Cutting.of_parts K.Parts) (names_cut ps ts y h) }
      by node.Bottom e h = absurd (none_has u e v)
      by x e h = absurd h
  easy_cut q u y o v = cc

  -- ---- a pattern under a tag

  remaining_missed : (b : Bool) (k : Known) (f : Known → List Known) → cut_missed (where_known b k) f ≡ cond b (f k) []
  remaining_missed true k f = append-nil (f k)
  remaining_missed false k f = refl

  taken_missed : (cs rest : List Piece) (l : Bytes) (f : Known → List Known) → Taken cs → cut_missed (around (Under l) cs ++ rest) f ≡ cut_missed rest f
  taken_missed cs rest l f s = ap (λ z. cut_missed (around (Under l) z ++ rest) f) s.is

  new_missed : (q : Pat) (l : Bytes) (ls : List Bytes) (k : Known) (fs : List (Field TypeId)) (g : Field TypeId) (f : Known → List Known) → is_easy q ≡ true → IsOn head q g.part
      → cut_missed (cut_new head has (λ u j. cut head has q u j) l ls k fs (Some g)) f ≡ cond (tag_remains head has fs (l ∷ ls)) (f (NotUnder (l ∷ ls))) []
  new_missed q l ls k fs g f y o = by (has g.part) refl ∙ remaining_missed (tag_remains head has fs (l ∷ ls)) (NotUnder (l ∷ ls)) f
    where
      by : (b : Bool) → has g.part ≡ b
          → cut_missed (cond b (around (Under l) (cut head has q g.part Unknown)) [] ++ where_known (tag_remains head has fs (l ∷ ls)) (NotUnder (l ∷ ls))) f ≡ cut_missed (where_known (tag_remains head has fs (l ∷ ls)) (NotUnder (l ∷ ls))) f
      by true h = taken_missed (cut head has q g.part Unknown) (where_known (tag_remains head has fs (l ∷ ls)) (NotUnder (l ∷ ls))) l f (easy_cut q g.part y o ((tells g.part).0 h))
      by false h = refl

  -- the field of a label that is there
  record Seat (fs : List (Field TypeId)) (l : Bytes) : Type 0 where
    field : Field TypeId
    found : find l fs ≡ Some field

  seated : (fs : List (Field TypeId)) (i : ℕ) (f : Field TypeId) → slice_get fs i ≡ Some f → Seat fs f.label
  seated [] i f e = cc
  seated (g ∷ fs) zero f e = let q : g ≡ f = cc in record { field = g; found = ap (λ b. cond b (Some g) (find f.label fs)) (ap (λ (x : Field TypeId). bytes_eq x.label f.label) q ∙ bytes_self f.label) }
  seated (g ∷ fs) (suc i) f e = by (bytes_eq g.label f.label) refl (seated fs i f e)
    where
      by : (b : Bool) → bytes_eq g.label f.label ≡ b → Seat fs f.label → Seat (g ∷ fs) f.label
      by true h s = record { field = g; found = ap (λ c. cond c (Some g) (find f.label fs)) h }
      by false h s = record { field = s.field; found = ap (λ c. cond c (Some g) (find f.label fs)) h ∙ s.found }

  module _ (t : TypeId) (fs : List (Field TypeId)) (variant : head t ≡ node.Variant fs) where
    on_part : (l : Bytes) (q : Pat) (s : Seat fs l) → IsOn head (Tagged l q) t → IsOn head q s.field.part
    on_part l q s o = subst (OnPart (λ u. IsOn head q u)) s.found (subst (OnVariant (λ u. IsOn head q u) l) variant o)

    -- the first pattern
    first_tag : (p : Pat) (f : Known → List Known) → IsEasyTag fs p → IsOn head p t → cut_missed (cut head has p t Unknown) f ≡ cond (tag_remains head has fs (met_by p [])) (f (NotUnder (met_by p []))) []
    first_tag p f (i, (g, q, at, e, y)) o = subst (λ z. cut_missed (cut head has z t Unknown) f ≡ cond (tag_remains head has fs (met_by z [])) (f (NotUnder (met_by z []))) []) (sym e) (of (seated fs i g at))
      where
        of : Seat fs g.label → cut_missed (cut head has (Tagged g.label q) t Unknown) f ≡ cond (tag_remains head has fs (g.label ∷ [])) (f (NotUnder (g.label ∷ []))) []
        of s =
            ap (λ x. cut_missed (Rattle.pattern_coverage.specs.Cutting.cut_tag head has (λ u j. cut head has q u j) g.label x Unknown) f) variant
            ∙ ap (λ o. cut_missed (cut_new head has (λ u j. cut head has q u j) g.label [] Unknown fs o) f) s.found
            ∙ new_missed q g.label [] Unknown fs s.field f y (on_part g.label q s (subst (λ z. IsOn head z t) e o))

    -- a further one
    next_tag : (p : Pat) (ls : List Bytes) (f : Known → List Known) → IsEasyTag fs p → IsOn head p t → tag_remains head has fs ls ≡ true
        → cut_missed (cut head has p t (NotUnder ls)) f ≡ cond (tag_remains head has fs (met_by p ls)) (f (NotUnder (met_by p ls))) []
    next_tag p ls f (i, (g, q, at, e, y)) o r = subst (λ z. cut_missed (cut head has z t (NotUnder ls)) f ≡ cond (tag_remains head has fs (met_by z ls)) (f (NotUnder (met_by z ls))) []) (sym e) (of (seated fs i g at))
      where
        by : (b : Bool) → Seat fs g.label
            → cut_missed (cond b (piece false (NotUnder ls) ∷ []) (cut_new head has (λ u j. cut head has q u j) g.label ls (NotUnder ls) fs (find g.label fs))) f
            ≡ cond (tag_remains head has fs (cond b ls (g.label ∷ ls))) (f (NotUnder (cond b ls (g.label ∷ ls)))) []
        by true s = append-nil (f (NotUnder ls)) ∙ ap (λ b. cond b (f (NotUnder ls)) []) (sym r)
        by false s =
            ap (λ o. cut_missed (cut_new head has (λ u j. cut head has q u j) g.label ls (NotUnder ls) fs o) f) s.found
            ∙ new_missed q g.label ls (NotUnder ls) fs s.field f y (on_part g.label q s (subst (λ z. IsOn head z t) e o))

        of : Seat fs g.label → cut_missed (cut head has (Tagged g.label q) t (NotUnder ls)) f ≡ cond (tag_remains head has fs (met_tag g.label ls)) (f (NotUnder (met_tag g.label ls))) []
        of s = ap (λ x. cut_missed (Rattle.pattern_coverage.specs.Cutting.cut_tag head has (λ u j. cut head has q u j) g.label x (NotUnder ls)) f) variant ∙ by (is_label_among g.label ls) s

    abbrev left_by : List Bytes → List Known
    left_by ls = cond (tag_remains head has fs ls) (NotUnder ls ∷ []) []

    rest : (ps : List Pat) (ls : List Bytes) → Each (IsEasyTag fs) ps → Each (λ p. IsOn head p t) ps → tag_remains head has fs ls ≡ true → missed head has ps t (NotUnder ls) ≡ left_by (met ps ls)
    rest [] ls y o r = ap (λ b. cond b (NotUnder ls ∷ []) []) (sym r)
    rest (p ∷ ps) ls y o r = next_tag p ls (λ k. missed head has ps t k) y.0 o.0 r ∙ by (tag_remains head has fs (met_by p ls)) refl (rest ps (met_by p ls) y.1 o.1)
      where
        by : (b : Bool) → tag_remains head has fs (met_by p ls) ≡ b → (tag_remains head has fs (met_by p ls) ≡ true → missed head has ps t (NotUnder (met_by p ls)) ≡ left_by (met ps (met_by p ls)))
            → cond b (missed head has ps t (NotUnder (met_by p ls))) [] ≡ left_by (met ps (met_by p ls))
        by true h k = k h
        by false h k = ap (λ b. cond b (NotUnder (met ps (met_by p ls)) ∷ []) []) (sym (none_later fs ps (met_by p ls) h))

    all_tags : (ps : List Pat) → AreEasyTags fs ps → Each (λ p. IsOn head p t) ps → missed head has ps t Unknown ≡ left_by (met ps [])
    all_tags [] y o = absurd y
    all_tags (p ∷ ps) y o = first_tag p (λ k. missed head has ps t k) y.0 o.0 ∙ by (tag_remains head has fs (met_by p [])) refl
      where
        by : (b : Bool) → tag_remains head has fs (met_by p []) ≡ b → cond b (missed head has ps t (NotUnder (met_by p []))) [] ≡ left_by (met ps (met_by p []))
        by true h = rest ps (met_by p []) y.1 o.1 h
        by false h = ap (λ b. cond b (NotUnder (met ps (met_by p [])) ∷ []) []) (sym (none_later fs ps (met_by p []) h))

    first_left : (b : Bool) (ls : List Bytes) → cond b (cover.Misses (NotUnder ls)) cover.Whole ≡ first_missed (cond b (NotUnder ls ∷ []) [])
    first_left true ls = refl
    first_left false ls = refl

    tags_cover : (ps : List Pat) → AreEasyTags fs ps → Each (λ p. IsOn head p t) ps → has t ≡ true → left_over has fs (met ps []) ≡ coverage head has ps t
    tags_cover ps y o h =
        ap (λ b. cond b (cover.Misses (NotUnder (met ps []))) cover.Whole) (tags_left head has fs (met ps []))
        ∙ first_left (tag_remains head has fs (met ps [])) (met ps [])
        ∙ ap first_missed (sym (all_tags ps y o))
        ∙ ap (λ b. cond b (first_missed (missed head has ps t Unknown)) cover.Whole) (sym h)

  pub by_tags : (t : TypeId) (ps : List Pat) (c : cover.Coverage) → Each (λ p. IsOn head p t) ps → has t ≡ true → IsByTags has (head t) ps c → c ≡ coverage head has ps t
  by_tags t ps c o h (fs, variant, easy, is) = is ∙ tags_cover t fs variant ps easy o h
