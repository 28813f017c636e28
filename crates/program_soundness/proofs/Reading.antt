-- Values that are read at shareable types are values of these types.
use Rattle.std.proofs.Common.{◌≡◌, ℕ, zero, suc, ◌<◌, List, [], ◌∷◌, length, map, Bool, true, false, Option, Some, slice_get, inl, inr, refl, sym, ap, ◌∙◌, subst, arith}
use Rattle.std.specs.Prelude.{nat_lt, if◌then◌else◌}
use Rattle.mo_types.specs.declared.datum.Datum.{Datum}
use Rattle.mo_types.specs.declared.datum.Datum.TheVariants as part
use Rattle.mo_types.specs.declared.node.Field.{Field}
use Rattle.mo_types.specs.declared.node.Node.{Node}
use Rattle.mo_types.specs.declared.node.Node.TheVariants as node
use Rattle.mo_types.specs.declared.node.TypeId.{TypeId}
use Rattle.mo_types.specs.Label.{label_id}
use Rattle.mo_types.specs.Sub.{Each, IsSomething, find}
use Rattle.mo_types.specs.Values.{IsPartOf, HaveTypes, copies, by_label, insert_field, types_of, one_type}
use Rattle.mo_types.specs.Values as message
use Rattle.mo_values.specs.Messages.{count, labels, label_at, head_of, opened}
use Rattle.mo_values.specs.Shapes.{Bytes, Head, Leaf, Tuple, Tag}
use Rattle.subtype_laws.specs.Labels.{OwnLabels}
use Rattle.typed_tree.specs.Has.{field_want, tag_want, by_mutability, wants}
use Rattle.typed_tree.specs.Instances.{IsAmong}
use Rattle.typed_tree.specs.Language.{Values, NoValue, AValue}
use Rattle.typed_tree.specs.Opening.{shapes_of, values_of}
use Rattle.typed_tree.specs.Shareable.{HasShareableForm, PartsShareable, IsShareable}
use Rattle.typed_tree.specs.Wants.{Want, Of}
use Rattle.mo_soundness.specs.Running.{AnswerTypes, Fits, HasValue, HaveValues}
use Rattle.program_soundness.proofs.Shareable as shareable
use Rattle.mo_soundness.specs.Worlds.{plain_world}

-- ---- fields in the order of messages

each_inserted : (P : Field TypeId → Type 0) (f : Field TypeId) (gs : List (Field TypeId)) → P f → Each P gs → Each P (insert_field f gs)
each_inserted P f [] h i = (h, tt)
each_inserted P f (g ∷ gs) h i = by (nat_lt (label_id f.label) (label_id g.label)) (each_inserted P f gs h i.1)
  where
    by : (b : Bool) → Each P (insert_field f gs) → Each P (if b then f ∷ g ∷ gs else g ∷ insert_field f gs)
    by true k = (h, i)
    by false k = (i.0, k)

each_sorted : (P : Field TypeId → Type 0) (fs : List (Field TypeId)) → Each P fs → Each P (by_label fs)
each_sorted P [] h = tt
each_sorted P (f ∷ fs) h = each_inserted P f (by_label fs) h.0 (each_sorted P fs h.1)

length_inserted : (f : Field TypeId) (gs : List (Field TypeId)) → length (insert_field f gs) ≡ suc (length gs)
length_inserted f [] = refl
length_inserted f (g ∷ gs) = by (nat_lt (label_id f.label) (label_id g.label)) (length_inserted f gs)
  where
    by : (b : Bool) → length (insert_field f gs) ≡ suc (length gs) → length (if b then f ∷ g ∷ gs else g ∷ insert_field f gs) ≡ suc (suc (length gs))
    by true k = refl
    by false k = ap suc k

length_sorted : (fs : List (Field TypeId)) → length (by_label fs) ≡ length fs
length_sorted [] = refl
length_sorted (f ∷ fs) = length_inserted f (by_label fs) ∙ ap suc (length_sorted fs)

self_among : (fs : List (Field TypeId)) → Each (λ f. IsAmong f.label (labels fs)) fs
self_among fs = within fs fs (λ l h. h)
  where
    within : (all gs : List (Field TypeId)) → ((l : Bytes) → IsAmong l (labels gs) → IsAmong l (labels all)) → Each (λ g. IsAmong g.label (labels all)) gs
    within all [] k = tt
    within all (g ∷ gs) k = (k g.label (inl refl), within all gs (λ l h. k l (inr h)))

sorted_among : (fs gs : List (Field TypeId)) → Each (λ f. IsAmong f.label (labels fs)) gs → Each (λ f. IsAmong f.label (labels (by_label fs))) gs
sorted_among fs [] h = tt
sorted_among fs (g ∷ gs) h = (shareable.sorted g.label fs h.0, sorted_among fs gs h.1)

-- the fields that are told by their labels, and whose values go into messages
abbrev IsTold : List (Field TypeId) → Field TypeId → Type 0
IsTold fs f = (find f.label fs ≡ Some f) × (f.mutable ≡ false)

told : (fs gs : List (Field TypeId)) → Each (λ g. find g.label fs ≡ Some g) gs → Each (λ g. g.mutable ≡ false) gs → Each (IsTold fs) gs
told fs [] h i = tt
told fs (g ∷ gs) h i = ((h.0, i.0), told fs gs h.1 i.1)

told_want : (fs : List (Field TypeId)) (g : Field TypeId) → IsTold fs g → field_want (find g.label fs) ≡ Of g.part
told_want fs g h = ap field_want h.0 ∙ ap (λ b. by_mutability b g.part) h.1

module _ (head : TypeId → Node TypeId) (answers : AnswerTypes) (kinds : List TypeId) where
  abbrev Have : List (Want TypeId) → Values → Type 0
  Have = HaveValues (plain_world head) answers kinds

  abbrev of_types : List TypeId → List (Want TypeId)
  of_types ts = map (λ t. Of t) ts

  told_have : (fs gs : List (Field TypeId)) → Each (IsTold fs) gs → (vs : Values) → Have (of_types (types_of gs)) vs → Have (map (λ l. field_want (find l fs)) (labels gs)) vs
  told_have fs [] i vs h = h
  told_have fs (g ∷ gs) i NoValue h = absurd h
  told_have fs (g ∷ gs) i (AValue v vs) h = (subst (λ w. HasValue (plain_world head) answers kinds w v) (sym (told_want fs g i.0)) h.0, told_have fs gs i.1 vs h.1)

  copies_have : (n : ℕ) (a : TypeId) (vs : Values) → Have (of_types (copies n a)) vs → Have (copies (count (shapes_of vs)) (Of a)) vs
  copies_have zero a NoValue h = tt
  copies_have zero a (AValue v vs) h = absurd h
  copies_have (suc n) a NoValue h = absurd h
  copies_have (suc n) a (AValue v vs) h = (h.0, copies_have n a vs h.1)

  nothing_there : (vs : Values) → Have [] vs → vs ≡ NoValue
  nothing_there NoValue h = refl
  nothing_there (AValue v vs) h = absurd h

  abbrev Holds : Node TypeId → Head → Values → Type 0
  Holds x h vs = Fits head answers x h × Have (wants h x (count (shapes_of vs))) vs

  -- the tag of a variant
  tag_holds : (fs : List (Field TypeId)) → Each (λ g. find g.label fs ≡ Some g) fs → (i : ℕ) → i < length fs → (vs : Values) → Have (of_types (one_type (slice_get (by_label fs) i))) vs
      → Holds (node.Variant fs) (Tag (label_at (labels (by_label fs)) i)) vs
  tag_holds fs own i small vs h = at (by_label fs) i (each_sorted (λ g. find g.label fs ≡ Some g) fs own) (subst (λ n. i < n) (sym (length_sorted fs)) small) h
    where
      here : (g : Field TypeId) → find g.label fs ≡ Some g → Have (Of g.part ∷ []) vs → Holds (node.Variant fs) (Tag g.label) vs
      here g e k = (subst (λ (o : Option (Field TypeId)). IsSomething o) (sym e) tt, subst (λ (o : Option (Field TypeId)). Have (tag_want o ∷ []) vs) (sym e) k)

      at : (gs : List (Field TypeId)) (j : ℕ) → Each (λ g. find g.label fs ≡ Some g) gs → j < length gs → Have (of_types (one_type (slice_get gs j))) vs → Holds (node.Variant fs) (Tag (label_at (labels gs) j)) vs
      at [] j e l k = absurd (omega (arith, l))
      at (g ∷ gs) zero e l k = here g e.0 k
      at (g ∷ gs) (suc j) e l k = at gs j e.1 (omega (arith, l)) k

  leaf_holds : (x : Node TypeId) (p : Datum) (vs : Values) → Fits head answers x (Leaf p) → Have [] vs → Holds x (Leaf p) vs
  leaf_holds x p vs f h = (f, h)

  part_holds : (x : Node TypeId) (p : Datum) (vs : Values) → OwnLabels x → HasShareableForm x → IsPartOf x p → Have (of_types (message.inside x p)) vs → Holds x (head_of x p) vs
  part_holds (node.Number k) (part.Number n) vs o s i h = ((tt, i), h)
  part_holds node.Bool (part.Flag b) vs o s i h = ((tt, i), h)
  part_holds node.Char (part.Char c) vs o s i h = ((tt, i), h)
  part_holds node.Text (part.Text t) vs o s i h = ((tt, i), h)
  part_holds node.Blob (part.Blob t) vs o s i h = ((tt, i), h)
  part_holds node.Principal (part.Principal q) vs o s i h = ((tt, i), h)
  part_holds node.Null part.Null vs o s i h = ((tt, i), h)
  part_holds node.Any (part.Record n) vs o s i h = (tt, subst (λ (vs : Values). Have (wants Tuple node.Any (count (shapes_of vs))) vs) (sym (nothing_there vs h)) tt)
  part_holds (node.Opt a) part.Null vs o s i h = ((tt, i), h)
  part_holds (node.Opt a) part.Present vs o s i h = (tt, h)
  part_holds (node.Array a) (part.Many n) vs o s i h = (inl tt, copies_have n a vs h)
  part_holds (node.Tuple ts) (part.Record n) vs o s i h = (tt, h)
  part_holds (node.Object fs) (part.Record n) vs o s i h =
      (sorted_among fs fs (self_among fs), told_have fs (by_label fs) (each_sorted (IsTold fs) fs (told fs fs o s)) vs h)
  part_holds (node.Actor fs) (part.Actor q) vs o s i h = ((tt, i), h)
  part_holds (node.Variant fs) (part.Tag i) vs o s l h = tag_holds fs o i l vs h
  part_holds (node.Func k ps rs) (part.Method q m) vs o s i h = ((tt, i), h)
  part_holds x p vs o s i h = absurd i

  -- the parts of a shareable type
  inside_shareable : (x : Node TypeId) (p : Datum) → IsPartOf x p → PartsShareable (IsShareable head) x → Each (IsShareable head) (message.inside x p)
  inside_shareable (node.Opt a) part.Present i h = h
  inside_shareable (node.Array a) (part.Many n) i h = each_copy n h.0
    where
      each_copy : (n : ℕ) → IsShareable head a → Each (IsShareable head) (copies n a)
      each_copy zero k = tt
      each_copy (suc n) k = (k, each_copy n k)
  inside_shareable (node.Tuple ts) (part.Record n) i h = h
  inside_shareable (node.Object fs) (part.Record n) i h = part_types (by_label fs) (each_sorted (λ f. IsShareable head f.part) fs (shareable.each_part (IsShareable head) fs h))
    where
      part_types : (gs : List (Field TypeId)) → Each (λ (g : Field TypeId). IsShareable head g.part) gs → Each (IsShareable head) (types_of gs)
      part_types [] k = tt
      part_types (g ∷ gs) k = (k.0, part_types gs k.1)
  inside_shareable (node.Variant fs) (part.Tag i) l h = one_part (by_label fs) i (each_sorted (λ f. IsShareable head f.part) fs (shareable.each_part (IsShareable head) fs h))
    where
      one_part : (gs : List (Field TypeId)) (j : ℕ) → Each (λ (g : Field TypeId). IsShareable head g.part) gs → Each (IsShareable head) (one_type (slice_get gs j))
      one_part [] j k = tt
      one_part (g ∷ gs) zero k = (k.0, tt)
      one_part (g ∷ gs) (suc j) k = one_part gs j k.1
  inside_shareable x p i h = tt

  module _ (own : (t : TypeId) → OwnLabels (head t)) where
    pub opened_have : (values : message.Values) (ts : List TypeId) → Each (IsShareable head) ts → HaveTypes head ts values → Have (of_types ts) (values_of (opened head ts values))
    opened_have message.Nil [] s h = tt
    opened_have message.Nil (t ∷ ts) s h = absurd h
    opened_have (message.Value p inner others) [] s h = absurd h
    opened_have (message.Value p inner others) (t ∷ ts) s h =
        let o = shareable.opened head t s.0 in
        let k = opened_have inner (message.inside (head t) p) (inside_shareable (head t) p h.0 o.1) h.1 in
        (part_holds (head t) p (values_of (opened head (message.inside (head t) p) inner)) (own t) o.0 h.0 k, opened_have others ts s.1 h.2)
