-- What the pattern of a shape matches has the shape.
use Rattle.std.proofs.Common.{◌≡◌, List, [], ◌∷◌, Bool, true, false, Option, Some, None, refl, sym, ap, subst}
use Rattle.std.specs.Prelude.{cond, not, ◌&&◌, ◌||◌}
use Rattle.std.specs.Str.{bytes_eq}
use Rattle.mo_types.specs.declared.datum.Datum.{Datum}
use Rattle.mo_types.specs.declared.node.Field.{Field}
use Rattle.mo_types.specs.declared.node.Node.{Node}
use Rattle.mo_types.specs.declared.node.Node.TheVariants as node
use Rattle.mo_types.specs.declared.node.TypeId.{TypeId}
use Rattle.mo_types.specs.Sub.{AtSome, Each, find}
use Rattle.mo_values.specs.Shapes.{Bytes, Tag, Shape, Made, NoShape, AShape}
use Rattle.mo_values.specs.Views.{leaf_of, tuple_of, field_of}
use Rattle.typed_tree.specs.Patterns.{Pat, Pats, Constant, Found, all_of, where_true, where_there, is_literal, present_of, tagged_of, matches, matches_all, matches_fields}
use Rattle.pattern_coverage.specs.Cutting.{is_label_among}
use Rattle.pattern_coverage.specs.Known.{Known, Knowns, Unknown, Is, IsNot, Holds, Under, NotUnder, Parts, Fields, NoKnown, AKnown, Describes, DescribeAll, DescribeFields}
use Rattle.pattern_coverage.specs.Leaves.{is_among}
use Rattle.pattern_coverage.proofs.Counted.{IsNone, among_none}
use Rattle.pattern_coverage.proofs.Option.{bytes_same}
use Rattle.pattern_coverage.proofs.Same.{both, part_same}
use Rattle.pattern_coverage.proofs.Tag.{different}
use Rattle.mo_values.specs.Parts.{same_part}
use Rattle.shape_patterns.specs.Choice.{literal_left, tag_left}
use Rattle.shape_patterns.specs.Stands.{never, if_new, option_pattern, tagged, under, other_of, other_tag, tuple_pattern, object_pattern, field_pattern, any_of, at_node, shape_pattern, part_patterns, field_patterns}

absent : (b : Bool) → not b ≡ true → b ≡ false
absent true e = cc
absent false e = refl

none_of : (b c : Bool) → (b || c) ≡ false → (b ≡ false) × (c ≡ false)
none_of true c e = cc
none_of false c e = (refl, e)

-- the tag that is left is none of these
left_new : (has : TypeId → Bool) (fs : List (Field TypeId)) (ls : List Bytes) (g : Field TypeId) → tag_left has fs ls ≡ Some g → is_label_among g.label ls ≡ false
left_new has [] ls g e = cc
left_new has (f ∷ fs) ls g e = by (has f.part && not (is_label_among f.label ls)) refl e (left_new has fs ls g)
  where
    by : (b : Bool) → (has f.part && not (is_label_among f.label ls)) ≡ b → cond b (Some f) (tag_left has fs ls) ≡ Some g → (tag_left has fs ls ≡ Some g → is_label_among g.label ls ≡ false) → is_label_among g.label ls ≡ false
    by true q e k = let s : f ≡ g = cc in subst (λ (x : Field TypeId). is_label_among x.label ls ≡ false) s (absent (is_label_among f.label ls) (both (has f.part) (not (is_label_among f.label ls)) q).1)
    by false q e k = k e

-- where the literal is there, none that is another is
others_not : (c : Datum) (cs : List Datum) (o : Option Datum) → IsNone c cs → is_literal c o ≡ true → Each (λ d. is_literal d o ≡ false) cs
others_not c cs None n e = cc
others_not c cs (Some d) n e = subst (λ x. Each (λ y. same_part y x ≡ false) cs) (part_same c d e) n

module _ {F : Type 0} where
  abbrev Hits : Found F → Type 0
  Hits r = r ≡ None → ⊥

  record There {V : Type 0} (f : V → Found F) (o : Option V) : Type 0 where
    value : V
    is : o ≡ Some value
    hits : Hits (f value)

  there : {V : Type 0} (f : V → Found F) (o : Option V) → Hits (where_there f o) → There f o
  there f None h = absurd (h refl)
  there f (Some v) h = record { value = v; is = refl; hits = h }

  both_hit : (a b : Found F) → Hits (all_of a b) → Hits a × Hits b
  both_hit None b h = absurd (h refl)
  both_hit (Some vs) None h = absurd (h refl)
  both_hit (Some vs) (Some ws) h = (λ e. cc, λ e. cc)

  true_hit : (b : Bool) → Hits (where_true b) → b ≡ true
  true_hit true h = refl
  true_hit false h = absurd (h refl)

  never_hits : (v : Shape F) → Hits (matches never v) → ⊥
  never_hits v h = h refl

  -- ---- literals

  new_literal : (c : Datum) (cs : List Datum) (v : Shape F) → Hits (matches (if_new c cs) v) → Each (λ d. is_literal d (leaf_of v) ≡ false) cs
  new_literal c cs v h = by (is_among c cs) refl h
    where
      by : (b : Bool) → is_among c cs ≡ b → Hits (matches (cond b never (Constant c)) v) → Each (λ d. is_literal d (leaf_of v) ≡ false) cs
      by true q h = absurd (never_hits v h)
      by false q h = others_not c cs (leaf_of v) (among_none c cs q) (true_hit (is_literal c (leaf_of v)) h)

  -- ---- tags

  only_tag : (l : Bytes) (ls : List Bytes) (v w : Shape F) → tagged_of l v ≡ Some w → is_label_among l ls ≡ false → Each (λ m. tagged_of m v ≡ None) ls
  only_tag l ls (Made (Tag m) (AShape x NoShape)) w e n = by (bytes_eq l m) refl e
    where
      none : (ms : List Bytes) → is_label_among m ms ≡ false → Each (λ k. tagged_of k (Made (Tag m) (AShape x NoShape)) ≡ None) ms
      none [] n = tt
      none (k ∷ ms) n = let b = none_of (bytes_eq m k) (is_label_among m ms) n in (ap (λ b. cond b (Some x) None) (different m k b.0), none ms b.1)

      by : (b : Bool) → bytes_eq l m ≡ b → cond b (Some x) None ≡ Some w → Each (λ k. tagged_of k (Made (Tag m) (AShape x NoShape)) ≡ None) ls
      by true q e = none ls (subst (λ k. is_label_among k ls ≡ false) (bytes_same l m q) n)
      by false q e = cc
  only_tag l ls v w e n = cc

  other_of_sound : (f : TypeId → Pat) (ls : List Bytes) (o : Option (Field TypeId)) (v : Shape F) → ((g : Field TypeId) → o ≡ Some g → is_label_among g.label ls ≡ false) → Hits (matches (other_of f o) v) → Each (λ l. tagged_of l v ≡ None) ls
  other_of_sound f ls None v n h = absurd (never_hits v h)
  other_of_sound f ls (Some g) v n h = let w = there (λ w. matches (f g.part) w) (tagged_of g.label v) h in only_tag g.label ls v w.value w.is (n g refl)

  other_sound : (has : TypeId → Bool) (f : TypeId → Pat) (ls : List Bytes) (x : Node TypeId) (v : Shape F) → Hits (matches (other_tag has f ls x) v) → Each (λ l. tagged_of l v ≡ None) ls
  other_sound has f ls (node.Variant fs) v h = other_of_sound f ls (tag_left has fs ls) v (λ g e. left_new has fs ls g e) h
  other_sound has f ls x v h = absurd (never_hits v h)

  -- ---- parts, by what holds of patterns of theirs

  module _ (k : Known) (f : TypeId → Pat) (g : (u : TypeId) (w : Shape F) → Hits (matches (f u) w) → Describes k w) where
    option_sound : (x : Node TypeId) (v : Shape F) → Hits (matches (option_pattern f x) v) → AtSome (present_of v) (λ w. Describes k w)
    option_sound (node.Opt u) v h = let w = there (λ w. matches (f u) w) (present_of v) h in subst (λ o. AtSome o (λ w. Describes k w)) (sym w.is) (g u w.value w.hits)
    option_sound x v h = absurd (never_hits v h)

    tagged_sound : (l : Bytes) (o : Option (Field TypeId)) (v : Shape F) → Hits (matches (tagged f l o) v) → AtSome (tagged_of l v) (λ w. Describes k w)
    tagged_sound l None v h = absurd (never_hits v h)
    tagged_sound l (Some y) v h = let w = there (λ w. matches (f y.part) w) (tagged_of l v) h in subst (λ o. AtSome o (λ w. Describes k w)) (sym w.is) (g y.part w.value w.hits)

    under_sound : (l : Bytes) (x : Node TypeId) (v : Shape F) → Hits (matches (under f l x) v) → AtSome (tagged_of l v) (λ w. Describes k w)
    under_sound l (node.Variant fs) v h = tagged_sound l (find l fs) v h
    under_sound l x v h = absurd (never_hits v h)

    field_sound : (o : Option (Field TypeId)) (w : Shape F) → Hits (matches (field_pattern f o) w) → Describes k w
    field_sound None w h = absurd (never_hits w h)
    field_sound (Some y) w h = g y.part w h

  tuple_sound : (ks : Knowns) (f : List TypeId → Pats) → ((ts : List TypeId) (vs : List (Shape F)) → Hits (matches_all (f ts) vs) → DescribeAll ks vs) → (x : Node TypeId) (v : Shape F) → Hits (matches (tuple_pattern f x) v)
      → AtSome (tuple_of v) (λ vs. DescribeAll ks vs)
  tuple_sound ks f g (node.Tuple ts) v h = let vs = there (λ vs. matches_all (f ts) vs) (tuple_of v) h in subst (λ o. AtSome o (λ vs. DescribeAll ks vs)) (sym vs.is) (g ts vs.value vs.hits)
  tuple_sound ks f g x v h = absurd (never_hits v h)

  object_sound : (ls : List Bytes) (ks : Knowns) (f : List (Field TypeId) → Pats) → ((fs : List (Field TypeId)) (v : Shape F) → Hits (matches_fields ls (f fs) v) → DescribeFields ls ks v) → (x : Node TypeId) (v : Shape F)
      → Hits (matches (object_pattern f ls x) v) → DescribeFields ls ks v
  object_sound ls ks f g (node.Object fs) v h = g fs v h
  object_sound ls ks f g x v h = absurd (never_hits v h)

  module _ (head : TypeId → Node TypeId) (has : TypeId → Bool) where
    mutual
      sound_at : (k : Known) (x : Node TypeId) (v : Shape F) → Hits (matches (at_node head has k x) v) → Describes k v
      sound_at Unknown x v h = tt
      sound_at (Is c) x v h = true_hit (is_literal c (leaf_of v)) h
      sound_at (IsNot cs) x v h = new_literal (literal_left x cs) cs v h
      sound_at (Holds k) x v h = option_sound k (λ u. at_node head has k (head u)) (λ u w i. sound_at k (head u) w i) x v h
      sound_at (Under l k) x v h = under_sound k (λ u. at_node head has k (head u)) (λ u w i. sound_at k (head u) w i) l x v h
      sound_at (NotUnder ls) x v h = other_sound has (λ u. any_of (head u)) ls x v h
      sound_at (Parts ks) x v h = tuple_sound ks (λ ts. part_patterns head has ks ts) (λ ts vs i. all_sound ks ts vs i) x v h
      sound_at (Fields ls ks) x v h = object_sound ls ks (λ fs. field_patterns head has ls ks fs) (λ fs w i. fields_sound ls ks fs w i) x v h

      all_sound : (ks : Knowns) (ts : List TypeId) (vs : List (Shape F)) → Hits (matches_all (part_patterns head has ks ts) vs) → DescribeAll ks vs
      all_sound NoKnown ts [] h = tt
      all_sound NoKnown ts (v ∷ vs) h = absurd (h refl)
      all_sound (AKnown k ks) [] [] h = absurd (h refl)
      all_sound (AKnown k ks) [] (v ∷ vs) h = absurd (never_hits v (both_hit (matches never v) (matches_all (part_patterns head has ks []) vs) h).0)
      all_sound (AKnown k ks) (t ∷ ts) [] h = absurd (h refl)
      all_sound (AKnown k ks) (t ∷ ts) (v ∷ vs) h =
          let b = both_hit (matches (at_node head has k (head t)) v) (matches_all (part_patterns head has ks ts) vs) h in
          (sound_at k (head t) v b.0, all_sound ks ts vs b.1)

      fields_sound : (ls : List Bytes) (ks : Knowns) (fs : List (Field TypeId)) (v : Shape F) → Hits (matches_fields ls (field_patterns head has ls ks fs) v) → DescribeFields ls ks v
      fields_sound [] NoKnown fs v h = tt
      fields_sound [] (AKnown k ks) fs v h = absurd (h refl)
      fields_sound (l ∷ ls) NoKnown fs v h = absurd (h refl)
      fields_sound (l ∷ ls) (AKnown k ks) fs v h =
          let b = both_hit (where_there (λ w. matches (field_pattern (λ u. at_node head has k (head u)) (find l fs)) w) (field_of l v)) (matches_fields ls (field_patterns head has ls ks fs) v) h in
          let w = there (λ w. matches (field_pattern (λ u. at_node head has k (head u)) (find l fs)) w) (field_of l v) b.0 in (
            subst (λ o. AtSome o (λ w. Describes k w)) (sym w.is) (field_sound k (λ u. at_node head has k (head u)) (λ u x i. sound_at k (head u) x i) (find l fs) w.value w.hits),
            fields_sound ls ks fs v b.1,
          )

    pub sound : (k : Known) (t : TypeId) (v : Shape F) → Hits (matches (shape_pattern head has k t) v) → Describes k v
    sound k t v h = sound_at k (head t) v h
