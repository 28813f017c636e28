-- What an object pattern cuts.
use Rattle.std.proofs.Common.{◌≡◌, ◌⊎◌, inl, inr, List, [], ◌∷◌, ◌++◌, map, Bool, true, false, Option, Some, None, refl, sym, ap, ◌∙◌, subst}
use Rattle.std.specs.Prelude.{cond, is_some, if◌then◌else◌}
use Rattle.std.specs.Str.{bytes_eq}
use Rattle.mo_types.specs.declared.node.Field.{Field}
use Rattle.mo_types.specs.declared.node.Node.{Node}
use Rattle.mo_types.specs.declared.node.Node.TheVariants as node
use Rattle.mo_types.specs.declared.node.TypeId.{TypeId}
use Rattle.mo_types.specs.Heads.{object_of}
use Rattle.mo_types.specs.Sub.{AtSome, Each, IsSomething, find}
use Rattle.mo_types.specs.Values.{types_of}
use Rattle.mo_values.specs.Messages.{labels, under}
use Rattle.mo_values.specs.Parts.{is_leaf_of}
use Rattle.mo_values.specs.Shapes.{Bytes, Object, Shape, Shapes, Made, NoShape, AShape, listed}
use Rattle.mo_values.specs.Views.{field_of}
use Rattle.typed_tree.specs.Has.{HasEach, field_want, by_mutability, Has}
use Rattle.typed_tree.specs.Instances.{IsAmong}
use Rattle.typed_tree.specs.Patterns.{Pat, Pats, NoPat, APat, Found, all_of, matches, matches_fields, where_there}
use Rattle.typed_tree.specs.Patterns as pattern
use Rattle.typed_tree.specs.Wants.{Want, Of}
use Rattle.pattern_coverage.specs.Cutting.{Piece, Pieces, pieces, of_parts, field_then, unknowns, known_at, put_at, cut_field, cut_object, cut, cut_fields}
use Rattle.pattern_coverage.specs.Inhabited.{always, HasValues, ByForm, ByParts, ByFields, ByTag, ByBound, EachHasValues, AType, everything}
use Rattle.pattern_coverage.specs.Known.{Known, Knowns, Unknown, Is, IsNot, Holds, Under, NotUnder, Parts, Fields, NoKnown, AKnown, Describes, DescribeFields}
use Rattle.pattern_coverage.specs.Leaves.{remains}
use Rattle.pattern_coverage.specs.Suited.{OnObject, IsOn, FieldsOn}
use Rattle.pattern_coverage.proofs.Having.{found_each}
use Rattle.pattern_coverage.proofs.Option.{Claim, bytes_same, bytes_self}
use Rattle.pattern_coverage.proofs.Pieces.{Feasible, FieldsFeasible, In, Val, IsSure, Cuts, one}
use Rattle.pattern_coverage.proofs.Seen.{no, ObjectSeen, ObjectIs, object_seen, bottom_seen}
use Rattle.pattern_coverage.proofs.Tag.{found_label}
use Rattle.pattern_coverage.proofs.Tuple.{both_and, neither_and, each_of_both}

same_object : (fs gs : List (Field TypeId)) (x : Node TypeId) → x ≡ node.Object fs → x ≡ node.Object gs → fs ≡ gs
same_object fs gs x e f = cc

is_object : (x : Node TypeId) (fs : List (Field TypeId)) → x ≡ node.Object fs → object_of x ≡ None → ⊥
is_object x fs e f = subst IsSomething (sym (ap object_of e) ∙ f) tt

pub fields_have : (head : TypeId → Node TypeId) (t : TypeId) (fs : List (Field TypeId)) → head t ≡ node.Object fs → HasValues head t → EachHasValues head (types_of fs)
fields_have head t fs e (ByForm _ h) = absurd (no (sym (ap always e) ∙ h))
fields_have head t fs e (ByParts _ ts f h) = absurd (is_object (head t) fs e (ap object_of f))
fields_have head t fs e (ByFields _ gs f h) = subst (λ fs. EachHasValues head (types_of fs)) (same_object gs fs (head t) f e) h
fields_have head t fs e (ByTag _ gs l g f i h) = absurd (is_object (head t) fs e (ap object_of f))
fields_have head t fs e (ByBound _ b v f h) = absurd (is_object (head t) fs e (ap object_of f))

abbrev field_wants : List (Field TypeId) → List Bytes → List (Want TypeId)
field_wants fs ls = map (λ l. field_want (find l fs)) ls

-- ---- what is known of one field

module _ (head : TypeId → Node TypeId) (has : TypeId → Bool) where
  feasible_at : (l : Bytes) (g : Field TypeId) (fs : List (Field TypeId)) (ks : Knowns) → find l fs ≡ Some g → FieldsFeasible head has ks fs → Feasible head has (known_at l fs ks) g.part
  feasible_at l g [] ks e f = cc
  feasible_at l g (h ∷ fs) NoKnown e f = absurd f
  feasible_at l g (h ∷ fs) (AKnown k ks) e f = by (bytes_eq h.label l) e (λ e. feasible_at l g fs ks e f.1)
    where
      by : (b : Bool) → (if b then Some h else find l fs) ≡ Some g → (find l fs ≡ Some g → Feasible head has (known_at l fs ks) g.part) → Feasible head has (cond b k (known_at l fs ks)) g.part
      by true e r = let s : h ≡ g = cc in subst (λ h. Feasible head has k h.part) s f.0.0
      by false e r = r e

  feasible_put : (l : Bytes) (g : Field TypeId) (j : Known) (fs : List (Field TypeId)) (ks : Knowns) → find l fs ≡ Some g → g.mutable ≡ false → Feasible head has j g.part → FieldsFeasible head has ks fs → FieldsFeasible head has (put_at l fs ks j) fs
  feasible_put l g j [] ks e m i f = f
  feasible_put l g j (h ∷ fs) NoKnown e m i f = absurd f
  feasible_put l g j (h ∷ fs) (AKnown k ks) e m i f = by (bytes_eq h.label l) e (λ e. feasible_put l g j fs ks e m i f.1)
    where
      by : (b : Bool) → (if b then Some h else find l fs) ≡ Some g → (find l fs ≡ Some g → FieldsFeasible head has (put_at l fs ks j) fs) → FieldsFeasible head has (cond b (AKnown j ks) (AKnown k (put_at l fs ks j))) (h ∷ fs)
      by true e r = let s : g ≡ h = cc in ((subst (λ g. Feasible head has j g.part) s i, λ q. absurd (no (sym (subst (λ g. g.mutable ≡ false) s m) ∙ q))), f.1)
      by false e r = (f.0, r e)

module _ {F : Type 0} (l : Bytes) (v w : Shape F) (there : field_of l v ≡ Some w) where
  abbrev Here : Known → Bytes → Type 0
  Here k m = AtSome (field_of m v) (λ w. Describes k w)

  here_from : (k : Known) (m : Bytes) → bytes_eq m l ≡ true → Here k m → Describes k w
  here_from k m e h = subst (λ o. AtSome o (λ w. Describes k w)) there (subst (Here k) (bytes_same m l e) h)

  here_to : (k : Known) (m : Bytes) → bytes_eq m l ≡ true → Describes k w → Here k m
  here_to k m e h = subst (Here k) (sym (bytes_same m l e)) (subst (λ o. AtSome o (λ w. Describes k w)) (sym there) h)

  describes_at : (fs : List (Field TypeId)) (ks : Knowns) → DescribeFields (labels fs) ks v → Describes (known_at l fs ks) w
  describes_at [] ks d = tt
  describes_at (f ∷ fs) NoKnown d = absurd d
  describes_at (f ∷ fs) (AKnown k ks) d = by (bytes_eq f.label l) refl (describes_at fs ks d.1)
    where
      by : (b : Bool) → bytes_eq f.label l ≡ b → Describes (known_at l fs ks) w → Describes (cond b k (known_at l fs ks)) w
      by true e r = here_from k f.label e d.0
      by false e r = r

  describes_put : (j : Known) (fs : List (Field TypeId)) (ks : Knowns) → Describes j w → DescribeFields (labels fs) ks v → DescribeFields (labels fs) (put_at l fs ks j) v
  describes_put j [] ks i d = d
  describes_put j (f ∷ fs) NoKnown i d = absurd d
  describes_put j (f ∷ fs) (AKnown k ks) i d = by (bytes_eq f.label l) refl (describes_put j fs ks i d.1)
    where
      by : (b : Bool) → bytes_eq f.label l ≡ b → DescribeFields (labels fs) (put_at l fs ks j) v → DescribeFields (labels (f ∷ fs)) (cond b (AKnown j ks) (AKnown k (put_at l fs ks j))) v
      by true e r = (here_to j f.label e i, d.1)
      by false e r = (d.0, r)

  put_describes : (j : Known) (g : Field TypeId) (fs : List (Field TypeId)) (ks : Knowns) → find l fs ≡ Some g → DescribeFields (labels fs) (put_at l fs ks j) v
      → Describes j w × (Describes (known_at l fs ks) w → DescribeFields (labels fs) ks v)
  put_describes j g [] ks e d = cc
  put_describes j g (f ∷ fs) NoKnown e d = absurd d
  put_describes j g (f ∷ fs) (AKnown k ks) e d = by (bytes_eq f.label l) refl e d (λ e d. put_describes j g fs ks e d)
    where
      by : (b : Bool) → bytes_eq f.label l ≡ b → (if b then Some f else find l fs) ≡ Some g → DescribeFields (labels (f ∷ fs)) (cond b (AKnown j ks) (AKnown k (put_at l fs ks j))) v
          → (find l fs ≡ Some g → DescribeFields (labels fs) (put_at l fs ks j) v → Describes j w × (Describes (known_at l fs ks) w → DescribeFields (labels fs) ks v))
          → Describes j w × (Describes (cond b k (known_at l fs ks)) w → DescribeFields (labels (f ∷ fs)) (AKnown k ks) v)
      by true q e d r = (here_from j f.label q d.0, λ i. (here_to k f.label q i, d.1))
      by false q e d r = let y = r e d.1 in (y.0, λ i. (d.0, y.1 i))

module _ (F : Type 0) (head : TypeId → Node TypeId) (has : TypeId → Bool) (kinds : List TypeId) where
  abbrev Cut : (Shape F → Type 0) → (Shape F → Bool) → TypeId → List Piece → Type 0
  Cut = Cuts head has kinds

  abbrev Seen : TypeId → Shape F → Type 0
  Seen t v = Val head has kinds t v

  abbrev Vals : List (Want TypeId) → Shapes F → Type 0
  Vals ws vs = HasEach head (everything head) kinds ws vs

  -- ---- the value of a field

  under_found : (fs : List (Field TypeId)) (l : Bytes) (g : Field TypeId) → find l fs ≡ Some g → g.mutable ≡ false → (ls : List Bytes) (vs : Shapes F) → IsAmong l ls → Vals (field_wants fs ls) vs
      → (w : Shape F) × (under l ls (listed vs) ≡ Some w) × Seen g.part w
  under_found fs l g e m [] vs i a = absurd i
  under_found fs l g e m (n ∷ ls) NoShape i a = absurd a
  under_found fs l g e m (n ∷ ls) (AShape v vs) i a = by (bytes_eq l n) refl i (λ i. under_found fs l g e m ls vs i a.1)
    where
      by : (b : Bool) → bytes_eq l n ≡ b → (l ≡ n) ⊎ IsAmong l ls → (IsAmong l ls → (w : Shape F) × (under l ls (listed vs) ≡ Some w) × Seen g.part w)
          → (w : Shape F) × (cond b (Some v) (under l ls (listed vs)) ≡ Some w) × Seen g.part w
      by true q i k =
          let want : field_want (find n fs) ≡ Of g.part = ap field_want (subst (λ l. find l fs ≡ Some g) (bytes_same l n q) e) ∙ ap (λ b. by_mutability b g.part) m in
          (v, refl, subst (λ w. Has head (everything head) kinds w v) want a.0)
      by false q (inl s) k = absurd (no (sym q ∙ subst (λ n. bytes_eq l n ≡ true) s (bytes_self l)))
      by false q (inr i) k = k i

  under_there : (fs : List (Field TypeId)) (l : Bytes) (ls : List Bytes) (vs : Shapes F) → IsAmong l ls → Vals (field_wants fs ls) vs → AtSome (under l ls (listed vs)) (λ w. Unit {0})
  under_there fs l [] vs i a = absurd i
  under_there fs l (n ∷ ls) NoShape i a = absurd a
  under_there fs l (n ∷ ls) (AShape v vs) i a = by (bytes_eq l n) refl i (λ i. under_there fs l ls vs i a.1)
    where
      by : (b : Bool) → bytes_eq l n ≡ b → (l ≡ n) ⊎ IsAmong l ls → (IsAmong l ls → AtSome (under l ls (listed vs)) (λ w. Unit {0})) → AtSome (cond b (Some v) (under l ls (listed vs))) (λ w. Unit {0})
      by true q i k = tt
      by false q (inl s) k = absurd (no (sym q ∙ subst (λ n. bytes_eq l n ≡ true) s (bytes_self l)))
      by false q (inr i) k = k i

  value_seen : (fs : List (Field TypeId)) (l : Bytes) (g : Field TypeId) → find l fs ≡ Some g → g.mutable ≡ false → (v : Shape F) → ObjectSeen head (everything head) kinds fs v → (w : Shape F) × (field_of l v ≡ Some w) × Seen g.part w
  value_seen fs l g e m v (ObjectIs ls vs i a) = under_found fs l g e m ls vs (subst (λ l. IsAmong l ls) (found_label l fs g e) (found_each (λ f. IsAmong f.label ls) l g fs e i)) a

  pub value_at : (t : TypeId) (fs : List (Field TypeId)) (l : Bytes) (g : Field TypeId) → head t ≡ node.Object fs → find l fs ≡ Some g → g.mutable ≡ false → (v : Shape F) → Seen t v → (w : Shape F) × (field_of l v ≡ Some w) × Seen g.part w
  value_at t fs l g n e m v a = value_seen fs l g e m v (object_seen head (everything head) kinds t fs v n a)

  -- ---- pieces of the fields

  abbrev InFields : List (Field TypeId) → List Pieces → Shape F → Type 0
  InFields fs [] v = ⊥
  InFields fs (c ∷ cs) v = DescribeFields (labels fs) c.known v ⊎ InFields fs cs v

  in_fields_left : (fs : List (Field TypeId)) (cs ds : List Pieces) (v : Shape F) → InFields fs cs v → InFields fs (cs ++ ds) v
  in_fields_left fs [] ds v h = absurd h
  in_fields_left fs (c ∷ cs) ds v (inl h) = inl h
  in_fields_left fs (c ∷ cs) ds v (inr h) = inr (in_fields_left fs cs ds v h)

  in_fields_right : (fs : List (Field TypeId)) (cs ds : List Pieces) (v : Shape F) → InFields fs ds v → InFields fs (cs ++ ds) v
  in_fields_right fs [] ds v h = h
  in_fields_right fs (c ∷ cs) ds v h = inr (in_fields_right fs cs ds v h)

  record IsSureFields (D : Shape F → Type 0) (Q : Shape F → Bool) (t : TypeId) (fs : List (Field TypeId)) (c : Pieces) : Type 0 where
    feasible : FieldsFeasible head has c.known fs
    sure : (v : Shape F) → Seen t v → DescribeFields (labels fs) c.known v → D v × (Q v ≡ c.matched)

  pub record CutsFields (D : Shape F → Type 0) (Q : Shape F → Bool) (t : TypeId) (fs : List (Field TypeId)) (cs : List Pieces) : Type 0 where
    each : Each (IsSureFields D Q t fs) cs
    all : (v : Shape F) → Seen t v → D v → InFields fs cs v

  abbrev pub ClaimFields : List Bytes → Pats → Type 0
  ClaimFields ls ps = (t : TypeId) (fs : List (Field TypeId)) (ks : Knowns) → head t ≡ node.Object fs → FieldsOn head ls ps fs → FieldsFeasible head has ks fs
      → CutsFields (λ v. DescribeFields (labels fs) ks v) (λ v. is_some (matches_fields ls ps v)) t fs (cut_fields head has ls ps fs ks)

  pub no_fields : ClaimFields [] NoPat
  no_fields t fs ks n i f = record { each = (record { feasible = f; sure = λ v a d. (d, refl) }, tt); all = λ v a d. inl d }

  module _ (p : Pat) (l : Bytes) (ls : List Bytes) (ps : Pats) (claim : Claim F head has kinds p) (claims : ClaimFields ls ps) (t : TypeId) (fs : List (Field TypeId)) (ks : Knowns) (n : head t ≡ node.Object fs)
      (on : FieldsOn head ls ps fs) (f : FieldsFeasible head has ks fs) (g : Field TypeId) (e : find l fs ≡ Some g) (m : g.mutable ≡ false) where
    abbrev First : Shape F → Bool
    First w = is_some (matches p w)

    abbrev All : Shape F → Bool
    All v = is_some (matches_fields (l ∷ ls) (APat p ps) v)

    abbrev Before : Shape F → Type 0
    Before v = DescribeFields (labels fs) ks v

    abbrev old : Known
    old = known_at l fs ks

    abbrev with : Known → Knowns
    with j = put_at l fs ks j

    rest : Knowns → List Pieces
    rest js = cut_fields head has ls ps fs js

    matched_sure : (c : Piece) → IsSure head has kinds (λ w. Describes old w) First g.part c → (v : Shape F) → Seen t v → DescribeFields (labels fs) (with c.known) v
        → Before v × ((w : Shape F) × (field_of l v ≡ Some w) × (First w ≡ c.matched))
    matched_sure c s v a d =
        let w = value_at t fs l g n e m v a in
        let y = put_describes l v w.0 w.1 c.known g fs ks e d in
        let z = s.sure w.0 w.2 y.0 in
        (y.1 z.0, (w.0, w.1, z.1))

    all_is : (v w : Shape F) → field_of l v ≡ Some w → All v ≡ is_some (all_of (matches p w) (matches_fields ls ps v))
    all_is v w q = ap (λ o. is_some (all_of (where_there (λ w. matches p w) o) (matches_fields ls ps v))) q

    later_each : (c : Piece) → IsSure head has kinds (λ w. Describes old w) First g.part c → c.matched ≡ true → (rs : List Pieces)
        → Each (IsSureFields (λ v. DescribeFields (labels fs) (with c.known) v) (λ v. is_some (matches_fields ls ps v)) t fs) rs → Each (IsSureFields Before All t fs) rs
    later_each c s q [] h = tt
    later_each c s q (r ∷ rs) h =
        let u : IsSureFields (λ v. DescribeFields (labels fs) (with c.known) v) (λ v. is_some (matches_fields ls ps v)) t fs r = h.0 in
        (record { feasible = u.feasible; sure = sure u }, later_each c s q rs h.1)
      where
        sure : IsSureFields (λ v. DescribeFields (labels fs) (with c.known) v) (λ v. is_some (matches_fields ls ps v)) t fs r → (v : Shape F) → Seen t v → DescribeFields (labels fs) r.known v → Before v × (All v ≡ r.matched)
        sure u v a d =
            let x = u.sure v a d in
            let y = matched_sure c s v a x.0 in
            (y.0, all_is v y.1.0 y.1.1 ∙ both_and (matches p y.1.0) (matches_fields ls ps v) r.matched (y.1.2 ∙ q) x.1)

    missed_each : (c : Piece) → IsSure head has kinds (λ w. Describes old w) First g.part c → c.matched ≡ false → Each (IsSureFields Before All t fs) (pieces false (with c.known) ∷ [])
    missed_each c s q = (record { feasible = feasible_put head has l g c.known fs ks e m s.feasible f; sure = sure }, tt)
      where
        sure : (v : Shape F) → Seen t v → DescribeFields (labels fs) (with c.known) v → Before v × (All v ≡ false)
        sure v a d = let y = matched_sure c s v a d in (y.0, all_is v y.1.0 y.1.1 ∙ neither_and (matches p y.1.0) (matches_fields ls ps v) (y.1.2 ∙ q))

    again : (c : Piece) → IsSure head has kinds (λ w. Describes old w) First g.part c → CutsFields (λ v. DescribeFields (labels fs) (with c.known) v) (λ v. is_some (matches_fields ls ps v)) t fs (cut_fields head has ls ps fs (with c.known))
    again c s = claims t fs (with c.known) n on (feasible_put head has l g c.known fs ks e m s.feasible f)

    field_each : (cs : List Piece) → Each (IsSure head has kinds (λ w. Describes old w) First g.part) cs → Each (IsSureFields Before All t fs) (field_then cs (λ j. put_at l fs ks j) (λ js. cut_fields head has ls ps fs js))
    field_each [] h = tt
    field_each (c ∷ cs) h =
        each_of_both (IsSureFields Before All t fs) (cond c.matched (cut_fields head has ls ps fs (with c.known)) (pieces false (with c.known) ∷ [])) (field_then cs (λ j. put_at l fs ks j) (λ js. cut_fields head has ls ps fs js))
        (by c.matched refl) (field_each cs h.1)
      where
        by : (b : Bool) → c.matched ≡ b → Each (IsSureFields Before All t fs) (cond b (cut_fields head has ls ps fs (with c.known)) (pieces false (with c.known) ∷ []))
        by true q = later_each c h.0 q (cut_fields head has ls ps fs (with c.known)) (again c h.0).each
        by false q = missed_each c h.0 q

    field_in : (v w : Shape F) → Seen t v → field_of l v ≡ Some w → Before v → (cs : List Piece) → Each (IsSure head has kinds (λ w. Describes old w) First g.part) cs → In cs w
        → InFields fs (field_then cs (λ j. put_at l fs ks j) (λ js. cut_fields head has ls ps fs js)) v
    field_in v w a q d [] h i = absurd i
    field_in v w a q d (c ∷ cs) h (inl i) =
        in_fields_left fs (cond c.matched (cut_fields head has ls ps fs (with c.known)) (pieces false (with c.known) ∷ [])) (field_then cs (λ j. put_at l fs ks j) (λ js. cut_fields head has ls ps fs js)) v (by c.matched)
      where
        put : DescribeFields (labels fs) (with c.known) v
        put = describes_put l v w q c.known fs ks i d

        by : (b : Bool) → InFields fs (cond b (cut_fields head has ls ps fs (with c.known)) (pieces false (with c.known) ∷ [])) v
        by true = (again c h.0).all v a put
        by false = inl put
    field_in v w a q d (c ∷ cs) h (inr i) =
        in_fields_right fs (cond c.matched (cut_fields head has ls ps fs (with c.known)) (pieces false (with c.known) ∷ [])) (field_then cs (λ j. put_at l fs ks j) (λ js. cut_fields head has ls ps fs js)) v
        (field_in v w a q d cs h.1 i)

    found_cuts : IsOn head p g.part → CutsFields Before All t fs (field_then (cut head has p g.part old) (λ j. put_at l fs ks j) (λ js. cut_fields head has ls ps fs js))
    found_cuts i =
        let c : Cuts {F = F} head has kinds (λ w. Describes old w) First g.part (cut head has p g.part old) = claim g.part old i (feasible_at head has l g fs ks e f) in
        record {
          each = field_each (cut head has p g.part old) c.each;
          all = λ v a d. let w = value_at t fs l g n e m v a in field_in v w.0 a w.1 d (cut head has p g.part old) c.each (c.all w.0 w.2 (describes_at l v w.0 w.1 fs ks d));
        }

  pub more_fields : (p : Pat) (l : Bytes) (ls : List Bytes) (ps : Pats) → Claim F head has kinds p → ClaimFields ls ps → ClaimFields (l ∷ ls) (APat p ps)
  more_fields p l ls ps claim claims t fs ks n i f = by (find l fs) refl i.0
    where
      by : (o : Option (Field TypeId)) → find l fs ≡ o → AtSome o (λ g. (g.mutable ≡ false) × IsOn head p g.part)
          → CutsFields (λ v. DescribeFields (labels fs) ks v) (λ v. is_some (matches_fields (l ∷ ls) (APat p ps) v)) t fs (cut_field (λ u j. cut head has p u j) (λ js. cut_fields head has ls ps fs js) l fs o ks)
      by None e h = absurd h
      by (Some g) e h = found_cuts p l ls ps claim claims t fs ks n i.1 f g e h.0 h.1

  -- ---- the whole object

  all_unknown : (fs : List (Field TypeId)) → EachHasValues head (types_of fs) → FieldsFeasible head has (unknowns (types_of fs)) fs
  all_unknown [] h = tt
  all_unknown (f ∷ fs) (AType _ _ h hs) = ((h, λ e. refl), all_unknown fs hs)

  unknown_seen : (all : List (Field TypeId)) (ls : List Bytes) (vs : Shapes F) → Vals (field_wants all ls) vs → (fs : List (Field TypeId)) → Each (λ f. IsAmong f.label ls) fs → DescribeFields (labels fs) (unknowns (types_of fs)) (Made (Object ls) vs)
  unknown_seen all ls vs a [] i = tt
  unknown_seen all ls vs a (f ∷ fs) i = (under_there all f.label ls vs i.0 a, unknown_seen all ls vs a fs i.1)

  unknown_all : (fs : List (Field TypeId)) (v : Shape F) → ObjectSeen head (everything head) kinds fs v → DescribeFields (labels fs) (unknowns (types_of fs)) v
  unknown_all fs v (ObjectIs ls vs i a) = unknown_seen fs ls vs a fs i

  module _ (ls : List Bytes) (ps : Pats) (claims : ClaimFields ls ps) where
    abbrev Asks : Shape F → Bool
    Asks v = is_some (matches_fields ls ps v)

    whole_each : (t : TypeId) (fs : List (Field TypeId)) (ks : Knowns) (D : Shape F → Type 0) → head t ≡ node.Object fs → ((v : Shape F) → DescribeFields (labels fs) ks v → D v) → (cs : List Pieces)
        → Each (IsSureFields (λ v. DescribeFields (labels fs) ks v) Asks t fs) cs → Each (IsSure head has kinds D Asks t) (of_parts (Fields (labels fs)) cs)
    whole_each t fs ks D e g [] h = tt
    whole_each t fs ks D e g (c ∷ cs) h =
        let s : IsSureFields (λ v. DescribeFields (labels fs) ks v) Asks t fs c = h.0 in
        (record { feasible = (fs, e, refl, s.feasible); sure = λ v a d. let x = s.sure v a d in (g v x.0, x.1) }, whole_each t fs ks D e g cs h.1)

    whole_in : (fs : List (Field TypeId)) (cs : List Pieces) (v : Shape F) → InFields fs cs v → In (of_parts (Fields (labels fs)) cs) v
    whole_in fs [] v h = absurd h
    whole_in fs (c ∷ cs) v (inl h) = inl h
    whole_in fs (c ∷ cs) v (inr h) = inr (whole_in fs cs v h)

    whole_cuts : (t : TypeId) (fs : List (Field TypeId)) (k : Known) (ks : Knowns) → head t ≡ node.Object fs → FieldsOn head ls ps fs → FieldsFeasible head has ks fs
        → ((v : Shape F) → DescribeFields (labels fs) ks v → Describes k v) → ((v : Shape F) → Seen t v → Describes k v → DescribeFields (labels fs) ks v)
        → Cut (λ v. Describes k v) Asks t (of_parts (Fields (labels fs)) (cut_fields head has ls ps fs ks))
    whole_cuts t fs k ks e i f to back =
        let c : CutsFields (λ v. DescribeFields (labels fs) ks v) Asks t fs (cut_fields head has ls ps fs ks) = claims t fs ks e i f in
        record { each = whole_each t fs ks (λ v. Describes k v) e to (cut_fields head has ls ps fs ks) c.each; all = λ v a d. whole_in fs (cut_fields head has ls ps fs ks) v (c.all v a (back v a d)) }

    object_by : (x : Node TypeId) (t : TypeId) (k : Known) → head t ≡ x → OnObject (λ fs. FieldsOn head ls ps fs) x → Feasible head has k t → Cut (λ v. Describes k v) Asks t (cut_object (λ fs ks. cut_fields head has ls ps fs ks) x k)
    object_by (node.Object fs) t Unknown e i f =
        whole_cuts t fs Unknown (unknowns (types_of fs)) e i (all_unknown fs (fields_have head t fs e f)) (λ v d. tt) (λ v a d. unknown_all fs v (object_seen head (everything head) kinds t fs v e a))
    object_by (node.Object fs) t (Fields ms ks) e i f =
        let s : f.0 ≡ fs = same_object f.0 fs (head t) f.1 e in
        let m : ms ≡ labels fs = f.2 ∙ ap labels s in
        whole_cuts t fs (Fields ms ks) ks e i (subst (FieldsFeasible head has ks) s f.3) (λ v d. subst (λ ms. DescribeFields ms ks v) (sym m) d) (λ v a d. subst (λ ms. DescribeFields ms ks v) m d)
    object_by (node.Object fs) t (Is c) e i f = absurd (no (ap (λ x. is_leaf_of x c) (sym e) ∙ f))
    object_by (node.Object fs) t (IsNot cs) e i f = absurd (no (ap (λ x. remains x cs) (sym e) ∙ f))
    object_by (node.Object fs) t (Holds k) e i f = absurd (is_object (head t) fs e (ap object_of f.1))
    object_by (node.Object fs) t (Under l k) e i f = absurd (is_object (head t) fs e (ap object_of f.2))
    object_by (node.Object fs) t (NotUnder ms) e i f = absurd (is_object (head t) fs e (ap object_of f.1))
    object_by (node.Object fs) t (Parts ks) e i f = absurd (is_object (head t) fs e (ap object_of f.1))
    object_by node.Bottom t k e i f = one head has kinds k false t Asks f (λ v a d. absurd (bottom_seen head (everything head) kinds t v e a))
    object_by x t k e i f = absurd i

    pub object_cuts : Claim F head has kinds (pattern.Fields ls ps)
    object_cuts t k i f = object_by (head t) t k refl i f
