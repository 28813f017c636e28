-- Values with the shapes that are found.
use Rattle.std.proofs.Common.{◌≡◌, ◌≢◌, inl, inr, ℕ, List, [], ◌∷◌, map, Bool, true, false, Some, None, refl, sym, ap, subst, slice_get}
use Rattle.std.specs.Prelude.{◌&&◌, ◌||◌, not, cond, nat_lt}
use Rattle.std.specs.Str.{bytes_eq}
use Rattle.std.proofs.lemmas.Str.{IsUtf8-nil, is_utf8-from_IsUtf8}
use Rattle.mo_num.specs.declared.kind.Kind.{Kind}
use Rattle.mo_num.specs.declared.kind.Kind.TheVariants as kind
use Rattle.mo_num.specs.Kinds.{modulus}
use Rattle.mo_types.specs.declared.datum.Datum.{Datum}
use Rattle.mo_types.specs.declared.datum.Datum.TheVariants as part
use Rattle.mo_types.specs.declared.node.Field.{Field}
use Rattle.mo_types.specs.declared.node.Node.{Node}
use Rattle.mo_types.specs.declared.node.Node.TheVariants as node
use Rattle.mo_types.specs.declared.node.Sort.TheVariants as sort
use Rattle.mo_types.specs.declared.node.TypeId.{TypeId}
use Rattle.mo_types.specs.Label.{label_id}
use Rattle.mo_types.specs.Sub.{AtSome, Each, IsSomething, find}
use Rattle.mo_types.specs.Values.{types_of}
use Rattle.mo_values.proofs.Leaves.{leaf_is}
use Rattle.mo_values.specs.declared.error_code.ErrorCode.TheVariants as error
use Rattle.mo_values.specs.Messages.{labels, under}
use Rattle.mo_values.specs.Parts.{is_leaf_of}
use Rattle.mo_values.specs.Shapes.{Bytes, Leaf, Present, Tuple, Array, Object, Tag, Error, Cell, Future, Shape, Shapes, Made, Function, NoShape, AShape, listed}
use Rattle.subtype_laws.specs.Labels.{OwnLabels}
use Rattle.typed_tree.specs.Has.{IsLeafPart, Fits, Has, HasEach, field_want, tag_want, by_mutability}
use Rattle.typed_tree.specs.Instances.{IsAmong}
use Rattle.typed_tree.specs.Patterns.{tagged_of}
use Rattle.typed_tree.specs.Types.{LabelsDiffer}
use Rattle.typed_tree.specs.Wants.{Want, Of, CellOf, Equal}
use Rattle.pattern_coverage.specs.Cover.{Tells}
use Rattle.pattern_coverage.specs.Cutting.{is_label_among, tag_remains}
use Rattle.pattern_coverage.specs.Inhabited.{always, HasValues, ByForm, ByParts, ByFields, ByTag, ByBound, EachHasValues, NoType, AType, everything}
use Rattle.pattern_coverage.specs.Known.{Known, Knowns, Unknown, Is, IsNot, Holds, Under, NotUnder, Parts, Fields, NoKnown, AKnown, Describes, DescribeAll, DescribeFields}
use Rattle.pattern_coverage.specs.Leaves.{leaf_at}
use Rattle.pattern_coverage.proofs.Counted.{remaining}
use Rattle.pattern_coverage.proofs.Numbered.{literal_is, not_same}
use Rattle.pattern_coverage.proofs.Option.{bytes_same, bytes_self}
use Rattle.pattern_coverage.proofs.Pieces.{Feasible, AllFeasible, FieldsFeasible}
use Rattle.pattern_coverage.proofs.Same.{both, part_self}
use Rattle.pattern_coverage.proofs.Seen.{no, HasAt, from_head}
use Rattle.pattern_coverage.proofs.Tag.{different}

leaf_part : (x : Node TypeId) (c : Datum) → is_leaf_of x c ≡ true → IsLeafPart c
leaf_part (node.Number k) (part.Number n) e = tt
leaf_part node.Bool (part.Flag b) e = tt
leaf_part node.Char (part.Char d) e = tt
leaf_part node.Text (part.Text t) e = tt
leaf_part node.Blob (part.Blob t) e = tt
leaf_part node.Principal (part.Principal p) e = tt
leaf_part node.Null part.Null e = tt
leaf_part (node.Opt a) part.Null e = tt
leaf_part (node.Actor fs) (part.Actor p) e = tt
leaf_part (node.Func s ps rs) (part.Method p m) e = tt
leaf_part x c e = absurd (no e)

some_numbers : (k : Kind) → nat_lt 0 (modulus k) ≡ true
some_numbers kind.Nat = refl
some_numbers kind.Int = refl
some_numbers kind.Nat8 = refl
some_numbers kind.Nat16 = refl
some_numbers kind.Nat32 = refl
some_numbers kind.Nat64 = refl
some_numbers kind.Int8 = refl
some_numbers kind.Int16 = refl
some_numbers kind.Int32 = refl
some_numbers kind.Int64 = refl

module _ {F : Type 0} (sample : F) (head : TypeId → Node TypeId) (has : TypeId → Bool) (tells : Tells head has) (own : (t : TypeId) → OwnLabels (head t)) (differ : (t : TypeId) (fs : List (Field TypeId)) → head t ≡ node.Object fs → LabelsDiffer fs)
    (store : List TypeId) (reach : (t : TypeId) → HasValues head t → (at : ℕ) × (slice_get store at ≡ Some t)) (equal : (t : TypeId) → Equal head t t) where
  abbrev Val : Want TypeId → Shape F → Type 0
  Val w v = Has head (everything head) store w v

  abbrev Vals : List (Want TypeId) → Shapes F → Type 0
  Vals ws vs = HasEach head (everything head) store ws vs

  abbrev At : Node TypeId → TypeId → Shape F → Type 0
  At x t v = HasAt head (everything head) store x t v

  leaf : Datum → Shape F
  leaf c = Made (Leaf c) NoShape

  leaf_fits : (x : Node TypeId) (c : Datum) → is_leaf_of x c ≡ true → Fits {F = F} head (everything head) store x (Leaf c) NoShape
  leaf_fits node.Any c e = absurd (no e)
  leaf_fits (node.Variable v b) c e = absurd (no e)
  leaf_fits x c e = (leaf_part x c e, leaf_is x c e)

  leaf_value : (x : Node TypeId) (t : TypeId) (c : Datum) → is_leaf_of x c ≡ true → At x t (Made (Leaf c) NoShape)
  leaf_value x t c e = (leaf_fits x c e, tt)

  -- a value of each form
  form_value : (x : Node TypeId) (t : TypeId) → always x ≡ true → (v : Shape F) × At x t v
  form_value (node.Number k) t e = let c : Datum = leaf_at {A = TypeId} (node.Number k) 0 in (Made (Leaf c) NoShape, leaf_value (node.Number k) t c (literal_is (node.Number k) 0 (some_numbers k)))
  form_value node.Bool t e = (Made (Leaf (part.Flag true)) NoShape, leaf_value node.Bool t (part.Flag true) refl)
  form_value node.Char t e = (Made (Leaf (part.Char 0)) NoShape, leaf_value node.Char t (part.Char 0) refl)
  form_value node.Text t e = (Made (Leaf (part.Text [])) NoShape, leaf_value node.Text t (part.Text []) (is_utf8-from_IsUtf8 [] IsUtf8-nil))
  form_value node.Blob t e = (Made (Leaf (part.Blob [])) NoShape, leaf_value node.Blob t (part.Blob []) refl)
  form_value node.Principal t e = (Made (Leaf (part.Principal [])) NoShape, leaf_value node.Principal t (part.Principal []) refl)
  form_value node.Null t e = (Made (Leaf part.Null) NoShape, leaf_value node.Null t part.Null refl)
  form_value (node.Opt a) t e = (Made (Leaf part.Null) NoShape, leaf_value (node.Opt a) t part.Null refl)
  form_value (node.Actor fs) t e = (Made (Leaf (part.Actor [])) NoShape, leaf_value (node.Actor fs) t (part.Actor []) refl)
  form_value (node.Func sort.Local ps rs) t e = (Function sample, tt)
  form_value (node.Func sort.Shared ps rs) t e = (Made (Leaf (part.Method [] (97 ∷ []))) NoShape, leaf_value (node.Func sort.Shared ps rs) t (part.Method [] (97 ∷ [])) refl)
  form_value (node.Func sort.Query ps rs) t e = (Made (Leaf (part.Method [] (97 ∷ []))) NoShape, leaf_value (node.Func sort.Query ps rs) t (part.Method [] (97 ∷ [])) refl)
  form_value node.Any t e = (Made (Leaf part.Null) NoShape, (tt, tt))
  form_value node.Error t e = (Made (Error error.CanisterError []) NoShape, ((refl, tt, is_utf8-from_IsUtf8 [] IsUtf8-nil), tt))
  form_value (node.Array a) t e = (Made Array NoShape, (inl tt, tt))
  form_value (node.MutArray a) t e = (Made Array NoShape, (inr tt, tt))
  form_value (node.Async a) t e = (Made (Future 0) NoShape, (tt, tt))
  form_value x t e = absurd (no e)

  of_head : (x : Node TypeId) (t : TypeId) → head t ≡ x → (v : Shape F) → At x t v → Val (Of t) v
  of_head x t e v a = from_head head (everything head) store x t v e a

  -- a cell, or the value itself
  cell_value : (t : TypeId) → HasValues head t → (v : Shape F) × Val (CellOf t) v
  cell_value t h = let r = reach t h in (Made (Cell r.0) NoShape, subst (λ o. AtSome o (λ u. Equal head t u)) (sym r.1) (equal t))

  -- values of fields, one after another
  abbrev Given : List (Field TypeId) → Shapes F → Type 0
  Given fs vs = Vals (map (λ f. by_mutability f.mutable f.part) fs) vs

  given_wants : (all fs : List (Field TypeId)) (vs : Shapes F) → Each (λ f. find f.label all ≡ Some f) fs → Given fs vs → Vals (map (λ l. field_want (find l all)) (labels fs)) vs
  given_wants all [] NoShape o a = tt
  given_wants all [] (AShape v vs) o a = absurd a
  given_wants all (f ∷ fs) NoShape o a = absurd a
  given_wants all (f ∷ fs) (AShape v vs) o a = (subst (λ o. Val (field_want o) v) (sym o.0) a.0, given_wants all fs vs o.1 a.1)

  later : (f : Field TypeId) (fs gs : List (Field TypeId)) → Each (λ g. IsAmong g.label (labels fs)) gs → Each (λ g. IsAmong g.label (labels (f ∷ fs))) gs
  later f fs [] h = tt
  later f fs (g ∷ gs) h = (inr h.0, later f fs gs h.1)

  own_among : (fs : List (Field TypeId)) → Each (λ f. IsAmong f.label (labels fs)) fs
  own_among [] = tt
  own_among (f ∷ fs) = (inl refl, later f fs fs (own_among fs))

  object_value : (t : TypeId) (fs : List (Field TypeId)) (vs : Shapes F) → head t ≡ node.Object fs → Given fs vs → Val (Of t) (Made (Object (labels fs)) vs)
  object_value t fs vs e a = of_head (node.Object fs) t e (Made (Object (labels fs)) vs) (own_among fs, given_wants fs fs vs (subst OwnLabels e (own t)) a)

  tag_value : (t : TypeId) (fs : List (Field TypeId)) (l : Bytes) (g : Field TypeId) (w : Shape F) → head t ≡ node.Variant fs → find l fs ≡ Some g → Val (Of g.part) w → Val (Of t) (Made (Tag l) (AShape w NoShape))
  tag_value t fs l g w e f a =
      of_head (node.Variant fs) t e (Made (Tag l) (AShape w NoShape)) (subst IsSomething (sym f) tt, (subst (λ o. Val (tag_want o) w) (sym f) a, tt))

  by_mutable : (m : Bool) (t : TypeId) → (v : Shape F) × Val (CellOf t) v → (v : Shape F) × Val (Of t) v → (v : Shape F) × Val (by_mutability m t) v
  by_mutable true t c v = c
  by_mutable false t c v = v

  -- a type that has values, and one of them
  abbrev Valued : TypeId → Type 0
  Valued t = HasValues head t × ((v : Shape F) × Val (Of t) v)

  values : (ts : List TypeId) → Each Valued ts → (vs : Shapes F) × Vals (map (λ t. Of t) ts) vs
  values [] h = (NoShape, tt)
  values (t ∷ ts) h = let vs = values ts h.1 in (AShape h.0.1.0 vs.0, (h.0.1.1, vs.1))

  field_values : (fs : List (Field TypeId)) → Each Valued (types_of fs) → (vs : Shapes F) × Given fs vs
  field_values [] h = (NoShape, tt)
  field_values (f ∷ fs) h = let v = by_mutable f.mutable f.part (cell_value f.part h.0.0) h.0.1 in let vs = field_values fs h.1 in (AShape v.0 vs.0, (v.1, vs.1))

  parts_value : (t : TypeId) (ts : List TypeId) → head t ≡ node.Tuple ts → Each Valued ts → (v : Shape F) × Val (Of t) v
  parts_value t ts e h = let vs = values ts h in (Made Tuple vs.0, of_head (node.Tuple ts) t e (Made Tuple vs.0) (tt, vs.1))

  fields_value : (t : TypeId) (fs : List (Field TypeId)) → head t ≡ node.Object fs → Each Valued (types_of fs) → (v : Shape F) × Val (Of t) v
  fields_value t fs e h = let vs = field_values fs h in (Made (Object (labels fs)) vs.0, object_value t fs vs.0 e vs.1)

  mutual
    value : (t : TypeId) → HasValues head t → (v : Shape F) × Val (Of t) v
    value t (ByForm _ e) = let v = form_value (head t) t e in (v.0, of_head (head t) t refl v.0 v.1)
    value t (ByParts _ ts e h) = parts_value t ts e (valued ts h)
    value t (ByFields _ fs e h) = fields_value t fs e (valued (types_of fs) h)
    value t (ByTag _ fs l g e i h) = let w = value g.part h in (Made (Tag l) (AShape w.0 NoShape), tag_value t fs l g w.0 e i w.1)
    value t (ByBound _ b v e h) = (Made (Leaf part.Null) NoShape, of_head (node.Variable v b) t e (Made (Leaf part.Null) NoShape) ((t, b, e, h), tt))

    valued : (ts : List TypeId) → EachHasValues head ts → Each Valued ts
    valued [] NoType = tt
    valued (t ∷ ts) (AType _ _ h hs) = ((h, value t h), valued ts hs)

  -- ---- by what is known

  not_met : (m : Bytes) (ls : List Bytes) (w : Shape F) → is_label_among m ls ≡ false → Each (λ l. tagged_of l (Made (Tag m) (AShape w NoShape)) ≡ None) ls
  not_met m [] w e = tt
  not_met m (l ∷ ls) w e = by (bytes_eq m l) refl e (not_met m ls w)
    where
      by : (b : Bool) → bytes_eq m l ≡ b → (b || is_label_among m ls) ≡ false → (is_label_among m ls ≡ false → Each (λ l. tagged_of l (Made (Tag m) (AShape w NoShape)) ≡ None) ls)
          → (cond (bytes_eq l m) (Some w) None ≡ None) × Each (λ l. tagged_of l (Made (Tag m) (AShape w NoShape)) ≡ None) ls
      by true q e k = cc
      by false q e k = (ap (λ b. cond b (Some w) None) (different m l q), k e)

  absent : (b : Bool) → not b ≡ true → b ≡ false
  absent true e = cc
  absent false e = refl

  tag_left : (all fs : List (Field TypeId)) (ls : List Bytes) → Each (λ f. find f.label all ≡ Some f) fs → tag_remains head has fs ls ≡ true
      → (g : Field TypeId) × (find g.label all ≡ Some g) × HasValues head g.part × (is_label_among g.label ls ≡ false)
  tag_left all [] ls o e = cc
  tag_left all (f ∷ fs) ls o e = by (has f.part && not (is_label_among f.label ls)) refl e (tag_left all fs ls o.1)
    where
      by : (b : Bool) → (has f.part && not (is_label_among f.label ls)) ≡ b → (b || tag_remains head has fs ls) ≡ true
          → (tag_remains head has fs ls ≡ true → (g : Field TypeId) × (find g.label all ≡ Some g) × HasValues head g.part × (is_label_among g.label ls ≡ false))
          → (g : Field TypeId) × (find g.label all ≡ Some g) × HasValues head g.part × (is_label_among g.label ls ≡ false)
      by true q e k = let x = both (has f.part) (not (is_label_among f.label ls)) q in (f, o.0, (tells f.part).0 x.0, absent (is_label_among f.label ls) x.1)
      by false q e k = k e

  -- a field in front changes nothing
  front : (h : Bytes) (v : Shape F) (ms : List Bytes) (vs : Shapes F) (ls : List Bytes) (ks : Knowns) → Each (λ l. bytes_eq l h ≡ false) ls → DescribeFields ls ks (Made (Object ms) vs) → DescribeFields ls ks (Made (Object (h ∷ ms)) (AShape v vs))
  front h v ms vs [] NoKnown n d = tt
  front h v ms vs [] (AKnown k ks) n d = absurd d
  front h v ms vs (l ∷ ls) NoKnown n d = absurd d
  front h v ms vs (l ∷ ls) (AKnown k ks) n d =
      (subst (λ b. AtSome (cond b (Some v) (under l ms (listed vs))) (λ w. Describes k w)) (sym n.0) d.0, front h v ms vs ls ks n.1 d.1)

  apart : (f : Field TypeId) (fs : List (Field TypeId)) → Each (λ n. label_id f.label ≢ n) (map (λ g. label_id g.label) fs) → Each (λ l. bytes_eq l f.label ≡ false) (labels fs)
  apart f [] h = tt
  apart f (g ∷ gs) h = (not_same (bytes_eq g.label f.label) (λ q. h.0 (ap label_id (sym (bytes_same g.label f.label q)))), apart f gs h.1)

  field_witness : (k : Known) (m : Bool) (t : TypeId) → Feasible head has k t → (m ≡ true → k ≡ Unknown) → (v : Shape F) × Val (Of t) v × Describes k v → (v : Shape F) × Val (by_mutability m t) v × Describes k v
  field_witness k false t f u v = v
  field_witness k true t f u v =
      let c = cell_value t (subst (λ k. Feasible head has k t) (u refl) f) in
      (c.0, c.1, subst (λ k. Describes k c.0) (sym (u refl)) tt)

  mutual
    pub witness : (k : Known) (t : TypeId) → Feasible head has k t → (v : Shape F) × Val (Of t) v × Describes k v
    witness Unknown t f = let v = value t f in (v.0, v.1, tt)
    witness (Is c) t f = (Made (Leaf c) NoShape, of_head (head t) t refl (Made (Leaf c) NoShape) (leaf_value (head t) t c f), part_self c)
    witness (IsNot cs) t f = let d = remaining (head t) cs f in (Made (Leaf d.0) NoShape, of_head (head t) t refl (Made (Leaf d.0) NoShape) (leaf_value (head t) t d.0 d.1), d.2)
    witness (Holds k) t f = let w = witness k f.0 f.2 in (Made Present (AShape w.0 NoShape), of_head (node.Opt f.0) t f.1 (Made Present (AShape w.0 NoShape)) (tt, (w.1, tt)), w.2)
    witness (Under l k) t f =
        let w = witness k f.1.part f.4 in
        (Made (Tag l) (AShape w.0 NoShape), tag_value t f.0 l f.1 w.0 f.2 f.3 w.1, subst (λ b. AtSome (cond b (Some w.0) None) (λ w. Describes k w)) (sym (bytes_self l)) w.2)
    witness (NotUnder ls) t f =
        let g = tag_left f.0 f.0 ls (subst OwnLabels f.1 (own t)) f.2 in
        let w = value g.0.part g.2 in
        (Made (Tag g.0.label) (AShape w.0 NoShape), tag_value t f.0 g.0.label g.0 w.0 f.1 g.1 w.1, not_met g.0.label ls w.0 g.3)
    witness (Parts ks) t f = let vs = witnesses ks f.0 f.2 in (Made Tuple vs.0, of_head (node.Tuple f.0) t f.1 (Made Tuple vs.0) (tt, vs.1), vs.2)
    witness (Fields ls ks) t f =
        let vs = field_witnesses ks f.0 (differ t f.0 f.1) f.3 in
        (Made (Object (labels f.0)) vs.0, object_value t f.0 vs.0 f.1 vs.1, subst (λ ls. DescribeFields ls ks (Made (Object (labels f.0)) vs.0)) (sym f.2) vs.2)

    witnesses : (ks : Knowns) (ts : List TypeId) → AllFeasible head has ks ts → (vs : Shapes F) × Vals (map (λ t. Of t) ts) vs × DescribeAll ks (listed vs)
    witnesses NoKnown [] f = (NoShape, tt, tt)
    witnesses NoKnown (t ∷ ts) f = absurd f
    witnesses (AKnown k ks) [] f = absurd f
    witnesses (AKnown k ks) (t ∷ ts) f = let v = witness k t f.0 in let vs = witnesses ks ts f.1 in (AShape v.0 vs.0, (v.1, vs.1), (v.2, vs.2))

    field_witnesses : (ks : Knowns) (fs : List (Field TypeId)) → LabelsDiffer fs → FieldsFeasible head has ks fs → (vs : Shapes F) × Given fs vs × DescribeFields (labels fs) ks (Made (Object (labels fs)) vs)
    field_witnesses NoKnown [] n f = (NoShape, tt, tt)
    field_witnesses NoKnown (g ∷ gs) n f = absurd f
    field_witnesses (AKnown k ks) [] n f = absurd f
    field_witnesses (AKnown k ks) (g ∷ gs) n f =
        let v = field_witness k g.mutable g.part f.0.0 f.0.1 (witness k g.part f.0.0) in
        let vs = field_witnesses ks gs n.1 f.1 in (
          AShape v.0 vs.0,
          (v.1, vs.1),
          (subst (λ b. AtSome (cond b (Some v.0) (under g.label (labels gs) (listed vs.0))) (λ w. Describes k w)) (sym (bytes_self g.label)) v.2, front g.label v.0 (labels gs) vs.0 (labels gs) ks (apart g gs n.0) vs.2),
        )
