-- Values of Core that belong to typed ones are such as patterns of their types stand on.
use Rattle.std.proofs.Common.{◌≡◌, ◌⊎◌, inl, inr, List, [], ◌∷◌, map, Bool, true, false, cond, Option, Some, None, refl, sym, ap, ◌∙◌, subst, arith, bytes_eq, true≢false, ℤ, ◌≤ℤ◌}
use Rattle.std.specs.Prelude.{◌&&◌, ◌||◌, int_le}
use Rattle.std.proofs.lemmas.Int.{ints}
use Rattle.std.proofs.lemmas.Slice.Eq.{bytes_eq-Decides}
use Rattle.mo_num.specs.declared.kind.Kind.{Kind}
use Rattle.mo_num.specs.declared.kind.Kind.TheVariants as kind
use Rattle.mo_num.specs.Kinds.{InRange, least, greatest}
use Rattle.mo_types.specs.declared.datum.Datum.{Datum}
use Rattle.mo_types.specs.declared.datum.Datum.TheVariants as part
use Rattle.mo_types.specs.declared.node.Field.{Field}
use Rattle.mo_types.specs.declared.node.Node.{Node}
use Rattle.mo_types.specs.declared.node.Node.TheVariants as node
use Rattle.mo_types.specs.declared.node.TypeId.{TypeId}
use Rattle.mo_types.specs.Sub.{Each, find}
use Rattle.mo_types.specs.Values.{IsPartOf}
use Rattle.mo_values.specs.Messages.{under}
use Rattle.mo_values.specs.Parts.{is_in_range}
use Rattle.mo_values.specs.Shapes.{Bytes, Leaf, Present, Tuple, Array, Object, Tag, Error, Cell, Future, Shapes, NoShape, AShape, listed}
use Rattle.mo_values.specs.Shapes as shape
use Rattle.mo_values.specs.Views.{field_of, leaf_of, tuple_of}
use Rattle.core_ir.specs.declared.primitive.Constructor.{Constructor}
use Rattle.core_ir.specs.declared.primitive.Constructor.TheVariants as constructor
use Rattle.core_ir.specs.Openings.{Inside, Otherwise, opened}
use Rattle.core_ir.specs.Primitives.{comparable}
use Rattle.core_ir.specs.Values as core
use Rattle.typed_tree.specs.Has.{field_want, tag_want, by_mutability}
use Rattle.typed_tree.specs.Instances.{IsAmong}
use Rattle.typed_tree.specs.Language.{Value, Values, Made, Function, BuiltIn, NoValue, AValue, leaf}
use Rattle.typed_tree.specs.MemberTypes.{IsField}
use Rattle.typed_tree.specs.Patterns.{Pat, Pats, Wildcard, Bind, Constant, Present?, Tagged, Parts, Fields, Either, NoPat, APat, present_of, tagged_of}
use Rattle.typed_tree.specs.Wants.{Want, Of, KeptOf, Below}
use Rattle.typed_tree.proofs.SoundParts.{found}
use Rattle.mo_soundness.specs.Lawful.{IsLawful}
use Rattle.mo_soundness.specs.Running.{AnswerTypes, HasValue, HaveValues}
use Rattle.mo_soundness.specs.RunningPatterns.{FieldTypes, MayBe, MayHold, IsPlainPart, PatternTyped, PatternsTyped, BindsAt}
use Rattle.mo_soundness.specs.Worlds.{World}
use Rattle.mo_soundness.proofs.Found.{At, opened as fits_at}
use Rattle.mo_soundness.proofs.Less.{has_sub}
use Rattle.mo_machine.specs.Values as machine
use Rattle.mo_machine.specs.Unload.{unload, unload_all}
use Rattle.elaboration.specs.Meeting.{OpensTo, MeetsLiteral, Meets, MeetEach, MeetFields}
use Rattle.elaboration_values.specs.Belonging.{Known, Belongs, Names}
use Rattle.mo_values.specs.Alike.{AlikeAll}

-- ---- values of the two languages that are the same but for their functions

abbrev mutual
  pub Same : Value → core.Value → Type 0
  Same (Made h vs) (shape.Made i ws) = (h ≡ i) × SameAll vs ws
  Same (Function group which) (shape.Function f) = Unit {0}
  Same (BuiltIn m holds) (shape.Function f) = Unit {0}
  Same _ _ = ⊥

  pub SameAll : Values → Shapes core.Handle → Type 0
  SameAll NoValue NoShape = Unit {0}
  SameAll (AValue v vs) (AShape w ws) = Same v w × SameAll vs ws
  SameAll _ _ = ⊥

module _ (known : List Known) where
  mutual
    pub same : (v : machine.Value) (w : core.Value) → Belongs known v w → Same (unload v) w
    same (machine.Made h vs) (shape.Made i ws) b = (b.0, same_all vs ws b.1)
    same (machine.Made h vs) (shape.Function f) b = absurd b
    same (machine.Closure group which env) (shape.Made i ws) b = absurd b
    same (machine.Closure group which env) (shape.Function f) b = tt
    same (machine.BuiltIn m holds) (shape.Made i ws) b = absurd b
    same (machine.BuiltIn m holds) (shape.Function f) b = tt

    same_all : (vs : machine.Values) (ws : Shapes core.Handle) → AlikeAll (Names known) (machine.shapes_of vs) ws → SameAll (unload_all vs) ws
    same_all machine.NoValue NoShape b = tt
    same_all machine.NoValue (AShape w ws) b = absurd b
    same_all (machine.AValue v vs) NoShape b = absurd b
    same_all (machine.AValue v vs) (AShape w ws) b = (same v w b.0, same_all vs ws b.1)

-- ---- numbers of one kind are compared by one that has both

le_true : (a b : ℤ) → a ≤ℤ b → int_le a b ≡ true
le_true a b h = by (int_le a b) refl
  where
    by : (t : Bool) → int_le a b ≡ t → int_le a b ≡ true
    by true e = e
    by false e = absurd (omega (arith, ints))

both : (a b : Bool) → a ≡ true → b ≡ true → (a && b) ≡ true
both true true p q = refl
both true false p q = q
both false b p q = p

either_left : (a b : Bool) → a ≡ true → (a || b) ≡ true
either_left true b p = refl
either_left false b p = absurd (true≢false (sym p))

either_right : (a b : Bool) → b ≡ true → (a || b) ≡ true
either_right true b p = refl
either_right false b p = p

in_range : (k : Kind) (n : ℤ) → InRange k n → is_in_range k n ≡ true
in_range k n h = both (int_le (least k) n) (int_le n (greatest k)) (le_true (least k) n h.0) (le_true n (greatest k) h.1)

-- the numbers of each kind but Nat64 are among those of Int
abbrev IsNarrow : Kind → Type 0
IsNarrow kind.Nat64 = ⊥
IsNarrow _ = Unit {0}

narrow : (k : Kind) (n : ℤ) → IsNarrow k → InRange k n → InRange kind.Int n
narrow kind.Nat n i h = (omega (arith, ints, h.0), omega (arith, ints, h.1))
narrow kind.Int n i h = h
narrow kind.Nat8 n i h = (omega (arith, ints, h.0), omega (arith, ints, h.1))
narrow kind.Nat16 n i h = (omega (arith, ints, h.0), omega (arith, ints, h.1))
narrow kind.Nat32 n i h = (omega (arith, ints, h.0), omega (arith, ints, h.1))
narrow kind.Nat64 n i h = absurd i
narrow kind.Int8 n i h = (omega (arith, ints, h.0), omega (arith, ints, h.1))
narrow kind.Int16 n i h = (omega (arith, ints, h.0), omega (arith, ints, h.1))
narrow kind.Int32 n i h = (omega (arith, ints, h.0), omega (arith, ints, h.1))
narrow kind.Int64 n i h = (omega (arith, ints, h.0), omega (arith, ints, h.1))

abbrev both_in : Kind → ℤ → ℤ → Bool
both_in k m n = is_in_range k m && is_in_range k n

narrow_numbers : (k : Kind) (m n : ℤ) → IsNarrow k → InRange k m → InRange k n → (both_in kind.Int m n || both_in kind.Nat64 m n) ≡ true
narrow_numbers k m n i p q =
    either_left (both_in kind.Int m n) (both_in kind.Nat64 m n) (both (is_in_range kind.Int m) (is_in_range kind.Int n) (in_range kind.Int m (narrow k m i p)) (in_range kind.Int n (narrow k n i q)))

numbers : (k : Kind) (m n : ℤ) → InRange k m → InRange k n → (both_in kind.Int m n || both_in kind.Nat64 m n) ≡ true
numbers kind.Nat64 m n p q =
    either_right (both_in kind.Int m n) (both_in kind.Nat64 m n) (both (is_in_range kind.Nat64 m) (is_in_range kind.Nat64 n) (in_range kind.Nat64 m p) (in_range kind.Nat64 n q))
numbers kind.Nat m n p q = narrow_numbers kind.Nat m n tt p q
numbers kind.Int m n p q = narrow_numbers kind.Int m n tt p q
numbers kind.Nat8 m n p q = narrow_numbers kind.Nat8 m n tt p q
numbers kind.Nat16 m n p q = narrow_numbers kind.Nat16 m n tt p q
numbers kind.Nat32 m n p q = narrow_numbers kind.Nat32 m n tt p q
numbers kind.Int8 m n p q = narrow_numbers kind.Int8 m n tt p q
numbers kind.Int16 m n p q = narrow_numbers kind.Int16 m n tt p q
numbers kind.Int32 m n p q = narrow_numbers kind.Int32 m n tt p q
numbers kind.Int64 m n p q = narrow_numbers kind.Int64 m n tt p q

-- ---- types without parts, but null

abbrev IsScalar : Node TypeId → Type 0
IsScalar node.Bool = Unit {0}
IsScalar (node.Number k) = Unit {0}
IsScalar node.Char = Unit {0}
IsScalar node.Text = Unit {0}
IsScalar node.Blob = Unit {0}
IsScalar _ = ⊥

compared : (x : Node TypeId) (c d : Datum) → IsScalar x → IsPartOf x c → IsPartOf x d → comparable c d ≡ true
compared node.Bool (part.Flag a) (part.Flag b) i p q = refl
compared node.Bool (part.Flag a) d i p q = absurd q
compared node.Bool c d i p q = absurd p
compared (node.Number k) (part.Number m) (part.Number n) i p q = numbers k m n p q
compared (node.Number k) (part.Number m) d i p q = absurd q
compared (node.Number k) c d i p q = absurd p
compared node.Char (part.Char a) (part.Char b) i p q = refl
compared node.Char (part.Char a) d i p q = absurd q
compared node.Char c d i p q = absurd p
compared node.Text (part.Text a) (part.Text b) i p q = refl
compared node.Text (part.Text a) d i p q = absurd q
compared node.Text c d i p q = absurd p
compared node.Blob (part.Blob a) (part.Blob b) i p q = refl
compared node.Blob (part.Blob a) d i p q = absurd q
compared node.Blob c d i p q = absurd p
compared x c d i p q = absurd i

same_leaf : (d : Datum) (w : core.Value) → Same (leaf d) w → w ≡ shape.leaf d
same_leaf d (shape.Made h NoShape) s = ap (λ h. shape.Made h NoShape) (sym s.0)
same_leaf d (shape.Made h (AShape v vs)) s = absurd s.1
same_leaf d (shape.Function f) s = absurd s

module _ (world : World) (answers : AnswerTypes) (kinds : List TypeId) where
  abbrev Has : Want TypeId → Value → Type 0
  Has = HasValue world answers kinds

  abbrev Have : List (Want TypeId) → Values → Type 0
  Have = HaveValues world answers kinds

  abbrev Fit : Node TypeId → TypeId → Value → Type 0
  Fit = At world answers kinds

  abbrev IsLeafAt : Node TypeId → Value → Type 0
  IsLeafAt x v = (d : Datum) × (v ≡ leaf d) × IsPartOf x d

  scalar_at : (x : Node TypeId) (t : TypeId) (v : Value) → IsScalar x → Fit x t v → IsLeafAt x v
  scalar_at node.Bool t (Made (Leaf p) NoValue) i k = (p, refl, k.0.1)
  scalar_at node.Bool t (Made (Leaf p) (AValue v vs)) i k = absurd k.1
  scalar_at node.Bool t (Made Array inner) i (inl r, k) = absurd r
  scalar_at node.Bool t (Made Array inner) i (inr r, k) = absurd r
  scalar_at node.Bool t (Made (Error c m) inner) i k = absurd (true≢false (sym k.0.0))
  scalar_at node.Bool t (Made h inner) i k = absurd k.0
  scalar_at node.Bool t (Function g n) i k = absurd k
  scalar_at node.Bool t (BuiltIn m holds) i k = absurd k
  scalar_at (node.Number j) t (Made (Leaf p) NoValue) i k = (p, refl, k.0.1)
  scalar_at (node.Number j) t (Made (Leaf p) (AValue v vs)) i k = absurd k.1
  scalar_at (node.Number j) t (Made Array inner) i (inl r, k) = absurd r
  scalar_at (node.Number j) t (Made Array inner) i (inr r, k) = absurd r
  scalar_at (node.Number j) t (Made (Error c m) inner) i k = absurd (true≢false (sym k.0.0))
  scalar_at (node.Number j) t (Made h inner) i k = absurd k.0
  scalar_at (node.Number j) t (Function g n) i k = absurd k
  scalar_at (node.Number j) t (BuiltIn m holds) i k = absurd k
  scalar_at node.Char t (Made (Leaf p) NoValue) i k = (p, refl, k.0.1)
  scalar_at node.Char t (Made (Leaf p) (AValue v vs)) i k = absurd k.1
  scalar_at node.Char t (Made Array inner) i (inl r, k) = absurd r
  scalar_at node.Char t (Made Array inner) i (inr r, k) = absurd r
  scalar_at node.Char t (Made (Error c m) inner) i k = absurd (true≢false (sym k.0.0))
  scalar_at node.Char t (Made h inner) i k = absurd k.0
  scalar_at node.Char t (Function g n) i k = absurd k
  scalar_at node.Char t (BuiltIn m holds) i k = absurd k
  scalar_at node.Text t (Made (Leaf p) NoValue) i k = (p, refl, k.0.1)
  scalar_at node.Text t (Made (Leaf p) (AValue v vs)) i k = absurd k.1
  scalar_at node.Text t (Made Array inner) i (inl r, k) = absurd r
  scalar_at node.Text t (Made Array inner) i (inr r, k) = absurd r
  scalar_at node.Text t (Made (Error c m) inner) i k = absurd (true≢false (sym k.0.0))
  scalar_at node.Text t (Made h inner) i k = absurd k.0
  scalar_at node.Text t (Function g n) i k = absurd k
  scalar_at node.Text t (BuiltIn m holds) i k = absurd k
  scalar_at node.Blob t (Made (Leaf p) NoValue) i k = (p, refl, k.0.1)
  scalar_at node.Blob t (Made (Leaf p) (AValue v vs)) i k = absurd k.1
  scalar_at node.Blob t (Made Array inner) i (inl r, k) = absurd r
  scalar_at node.Blob t (Made Array inner) i (inr r, k) = absurd r
  scalar_at node.Blob t (Made (Error c m) inner) i k = absurd (true≢false (sym k.0.0))
  scalar_at node.Blob t (Made h inner) i k = absurd k.0
  scalar_at node.Blob t (Function g n) i k = absurd k
  scalar_at node.Blob t (BuiltIn m holds) i k = absurd k
  scalar_at x t v i k = absurd i

  -- ---- literals

  abbrev Compares : Datum → core.Value → Type 0
  Compares c w = (d : Datum) × (leaf_of w ≡ Some d) × (comparable c d ≡ true)

  compares : (x : Node TypeId) (c : Datum) (t : TypeId) (v : Value) (w : core.Value) → IsScalar x → IsPartOf x c → Fit x t v → Same v w → Compares c w
  compares x c t v w i p k s =
      let l = scalar_at x t v i k in
      let q : Same (leaf l.0) w = subst (λ v. Same v w) l.1 s in
      (l.0, ap leaf_of (same_leaf l.0 w q), compared x c l.0 i p l.2)

  pub null_meets : (v : Value) (w : core.Value) → Same v w → (v ≡ leaf part.Null) ⊎ ((u : Value) × (v ≡ Made Present (AValue u NoValue))) → MeetsLiteral part.Null w
  null_meets v w s (inl e) = let q = same_leaf part.Null w (subst (λ v. Same v w) e s) in inl (ap (λ w. opened constructor.Present w) q, ap leaf_of q)
  null_meets v w s (inr (u, e)) = by w (subst (λ v. Same v w) e s)
    where
      by : (w : core.Value) → Same (Made Present (AValue u NoValue)) w → MeetsLiteral part.Null w
      by (shape.Made h (AShape x NoShape)) s =
          inr (x, ap (λ h. opened constructor.Present (shape.Made h (AShape x NoShape))) (sym s.0), ap (λ h. leaf_of (shape.Made h (AShape x NoShape))) (sym s.0))
      by (shape.Made h NoShape) s = absurd s.1
      by (shape.Made h (AShape x (AShape y ys))) s = absurd s.1.1
      by (shape.Function f) s = absurd s

  -- null, or an option, of a type that has one of these
  abbrev pub IsOption : Value → Type 0
  IsOption v = (v ≡ leaf part.Null) ⊎ ((u : Value) × (v ≡ Made Present (AValue u NoValue)))

  -- what is inside an option is not looked at
  pub option_opens : (v : Value) (w : core.Value) → Same v w → IsOption v → OpensTo constructor.Present w (present_of w) (λ u. Unit {0})
  option_opens v w s (inl e) =
      let q = same_leaf part.Null w (subst (λ v. Same v w) e s) in
      subst (λ o. OpensTo constructor.Present w o (λ u. Unit {0})) (sym (ap (λ (w : core.Value). present_of w) q)) (ap (λ w. opened constructor.Present w) q)
  option_opens v w s (inr (u, e)) = by w (subst (λ v. Same v w) e s)
    where
      by : (w : core.Value) → Same (Made Present (AValue u NoValue)) w → OpensTo constructor.Present w (present_of w) (λ u. Unit {0})
      by (shape.Made h (AShape x NoShape)) s = subst (λ h. OpensTo constructor.Present (shape.Made h (AShape x NoShape)) (present_of (shape.Made h (AShape x NoShape))) (λ u. Unit {0})) s.0 (refl, tt)
      by (shape.Made h NoShape) s = absurd s.1
      by (shape.Made h (AShape x (AShape y ys))) s = absurd s.1.1
      by (shape.Function f) s = absurd s

  option_at : (u : TypeId) (t : TypeId) (v : Value) → Fit (node.Opt u) t v → IsOption v
  option_at u t (Made (Leaf part.Null) NoValue) k = inl refl
  option_at u t (Made (Leaf part.Null) (AValue v vs)) k = absurd k.1
  option_at u t (Made (Leaf part.Present) inner) k = absurd k.0.0
  option_at u t (Made (Leaf p) inner) k = absurd k.0.1
  option_at u t (Made Present NoValue) k = absurd k.1
  option_at u t (Made Present (AValue v NoValue)) k = inr (v, refl)
  option_at u t (Made Present (AValue v (AValue x vs))) k = absurd k.1.1
  option_at u t (Made Array inner) (inl r, k) = absurd r
  option_at u t (Made Array inner) (inr r, k) = absurd r
  option_at u t (Made (Error c m) inner) k = absurd (true≢false (sym k.0.0))
  option_at u t (Made h inner) k = absurd k.0
  option_at u t (Function g n) k = absurd k
  option_at u t (BuiltIn m holds) k = absurd k

  null_at : (t : TypeId) (v : Value) → Fit node.Null t v → IsOption v
  null_at t (Made (Leaf part.Null) NoValue) k = inl refl
  null_at t (Made (Leaf part.Null) (AValue v vs)) k = absurd k.1
  null_at t (Made (Leaf p) inner) k = absurd k.0.1
  null_at t (Made Array inner) (inl r, k) = absurd r
  null_at t (Made Array inner) (inr r, k) = absurd r
  null_at t (Made (Error c m) inner) k = absurd (true≢false (sym k.0.0))
  null_at t (Made h inner) k = absurd k.0
  null_at t (Function g n) k = absurd k
  null_at t (BuiltIn m holds) k = absurd k

  literal_meets : (x : Node TypeId) (c : Datum) (t : TypeId) (v : Value) (w : core.Value) → IsPlainPart c → IsPartOf x c → Fit x t v → Same v w → MeetsLiteral c w
  literal_meets (node.Opt u) part.Null t v w i p k s = null_meets v w s (option_at u t v k)
  literal_meets node.Null part.Null t v w i p k s = null_meets v w s (null_at t v k)
  literal_meets node.Bool (part.Flag b) t v w i p k s = compares node.Bool (part.Flag b) t v w tt p k s
  literal_meets (node.Number j) (part.Number n) t v w i p k s = compares (node.Number j) (part.Number n) t v w tt p k s
  literal_meets node.Char (part.Char c) t v w i p k s = compares node.Char (part.Char c) t v w tt p k s
  literal_meets node.Text (part.Text x) t v w i p k s = compares node.Text (part.Text x) t v w tt p k s
  literal_meets node.Blob (part.Blob x) t v w i p k s = compares node.Blob (part.Blob x) t v w tt p k s
  literal_meets node.Any (part.Record n) t v w i p k s = absurd i
  literal_meets node.Principal (part.Principal n) t v w i p k s = absurd i
  literal_meets (node.Opt a) part.Present t v w i p k s = absurd i
  literal_meets (node.Array a) (part.Many n) t v w i p k s = absurd i
  literal_meets (node.Tuple ts) (part.Record n) t v w i p k s = absurd i
  literal_meets (node.Object fs) (part.Record n) t v w i p k s = absurd i
  literal_meets (node.Actor fs) (part.Actor n) t v w i p k s = absurd i
  literal_meets (node.Variant fs) (part.Tag n) t v w i p k s = absurd i
  literal_meets (node.Func so ps rs) (part.Method n m) t v w i p k s = absurd i
  literal_meets x c t v w i p k s = absurd p

  -- ---- options and tags

  abbrev IsPresent : TypeId → core.Value → Type 0
  IsPresent u w =
      ((opened constructor.Present w ≡ Otherwise) × (present_of w ≡ None))
      ⊎ ((v : Value) × (x : core.Value) × (opened constructor.Present w ≡ Inside x) × (present_of w ≡ Some x) × Has (Of u) v × Same v x)

  null_other : (u : TypeId) (w : core.Value) → Same (leaf part.Null) w → IsPresent u w
  null_other u w s = let q = same_leaf part.Null w s in inl (ap (λ w. opened constructor.Present w) q, ap (λ (w : core.Value). present_of w) q)

  present_there : (u : TypeId) (v : Value) (w : core.Value) → Has (Of u) v → Same (Made Present (AValue v NoValue)) w → IsPresent u w
  present_there u v (shape.Made h (AShape x NoShape)) k s =
      inr (v, x, ap (λ h. opened constructor.Present (shape.Made h (AShape x NoShape))) (sym s.0), ap (λ h. present_of (shape.Made h (AShape x NoShape))) (sym s.0), k, s.1.0)
  present_there u v (shape.Made h NoShape) k s = absurd s.1
  present_there u v (shape.Made h (AShape x (AShape y ys))) k s = absurd s.1.1
  present_there u v (shape.Function f) k s = absurd s

  option_present : (u t : TypeId) (v : Value) (w : core.Value) → Fit (node.Opt u) t v → Same v w → IsPresent u w
  option_present u t (Made (Leaf part.Null) NoValue) w k s = null_other u w s
  option_present u t (Made (Leaf part.Null) (AValue v vs)) w k s = absurd k.1
  option_present u t (Made (Leaf part.Present) inner) w k s = absurd k.0.0
  option_present u t (Made (Leaf p) inner) w k s = absurd k.0.1
  option_present u t (Made Present NoValue) w k s = absurd k.1
  option_present u t (Made Present (AValue v NoValue)) w k s = present_there u v w k.1.0 s
  option_present u t (Made Present (AValue v (AValue x vs))) w k s = absurd k.1.1
  option_present u t (Made Array inner) w (inl r, k) s = absurd r
  option_present u t (Made Array inner) w (inr r, k) s = absurd r
  option_present u t (Made (Error c m) inner) w k s = absurd (true≢false (sym k.0.0))
  option_present u t (Made h inner) w k s = absurd k.0
  option_present u t (Function g n) w k s = absurd k
  option_present u t (BuiltIn m holds) w k s = absurd k

  bottom_at : (t : TypeId) (v : Value) → Fit node.Bottom t v → ⊥
  bottom_at t (Made (Leaf p) inner) k = k.0.1
  bottom_at t (Made Array inner) (inl r, k) = r
  bottom_at t (Made Array inner) (inr r, k) = r
  bottom_at t (Made (Error c m) inner) k = absurd (true≢false (sym k.0.0))
  bottom_at t (Made h inner) k = absurd k.0
  bottom_at t (Function g n) k = k
  bottom_at t (BuiltIn m holds) k = k

  may_present : (x : Node TypeId) (u t : TypeId) (v : Value) (w : core.Value) → MayHold world.head x u → Fit x t v → Same v w → IsPresent u w
  may_present x u t v w (inl q) k s = option_present u t v w (subst (λ x. Fit x t v) q k) s
  may_present x u t v w (inr (inl q)) k s = by (null_at t v (subst (λ x. Fit x t v) q k))
    where
      none : (v y : Value) → v ≡ Made Present (AValue y NoValue) → Fit node.Null t v → ⊥
      none (Made Present inner) y e k = absurd k.0
      none (Made (Leaf p) inner) y e k = cc
      none (Made Tuple inner) y e k = cc
      none (Made Array inner) y e k = cc
      none (Made (Object ls) inner) y e k = cc
      none (Made (Tag l) inner) y e k = cc
      none (Made (Error c m) inner) y e k = cc
      none (Made (Cell at) inner) y e k = cc
      none (Made (Future n) inner) y e k = cc
      none (Function g n) y e k = cc
      none (BuiltIn m holds) y e k = cc

      by : IsOption v → IsPresent u w
      by (inl e) = null_other u w (subst (λ v. Same v w) e s)
      by (inr (y, e)) = absurd (none v y e (subst (λ x. Fit x t v) q k))
  may_present x u t v w (inr (inr q)) k s = absurd (bottom_at t v (subst (λ x. Fit x t v) q k))

  kept_present : (t : TypeId) (v : Value) (w : core.Value) → Has (KeptOf t) v → Same v w → IsPresent t w
  kept_present t (Made (Leaf part.Null) NoValue) w i s = null_other t w s
  kept_present t (Made Present (AValue v NoValue)) w i s = present_there t v w i.0 s
  kept_present t (Made Present (AValue v (AValue x vs))) w i s = absurd i.1
  kept_present t v w i s = absurd i

  -- ---- patterns

  -- of a type that has the literal, or of none
  literal_typed : (x : Node TypeId) (c : Datum) (t : TypeId) (v : Value) (w : core.Value) → IsPlainPart c → MayBe world.head x c → Fit x t v → Same v w → MeetsLiteral c w
  literal_typed x c t v w i (inl p) k s = literal_meets x c t v w i p k s
  literal_typed x c t v w i (inr q) k s = absurd (bottom_at t v (subst (λ x. Fit x t v) q k))

  -- under a tag
  abbrev IsTagged : Bytes → TypeId → core.Value → Type 0
  IsTagged l u w =
      ((opened (constructor.Tagged l) w ≡ Otherwise) × (tagged_of l w ≡ None))
      ⊎ ((v : Value) × (x : core.Value) × (opened (constructor.Tagged l) w ≡ Inside x) × (tagged_of l w ≡ Some x) × Has (Of u) v × Same v x)

  tag_opens : (l m : Bytes) (u : TypeId) (v : Value) (x : core.Value) → ((l ≡ m) → Has (Of u) v) → Same v x → (b : Bool) → bytes_eq l m ≡ b → IsTagged l u (shape.Made (Tag m) (AShape x NoShape))
  tag_opens l m u v x h s true q = inr (v, x, ap (λ b. cond b (Inside x) Otherwise) q, ap (λ b. cond b (Some x) None) q, h ((bytes_eq-Decides l m).0 q), s)
  tag_opens l m u v x h s false q = inl (ap (λ b. cond b (Inside x) Otherwise) q, ap (λ b. cond b (Some x) None) q)

  tag_met : (fs : List (Field TypeId)) (f : Field TypeId) (l m : Bytes) (v : Value) (w : core.Value) → find l fs ≡ Some f → Has (tag_want (find m fs)) v → Same (Made (Tag m) (AValue v NoValue)) w → IsTagged l f.part w
  tag_met fs f l m v (shape.Made h (AShape x NoShape)) e i s =
      subst (λ h. IsTagged l f.part (shape.Made h (AShape x NoShape))) s.0
      (tag_opens l m f.part v x (λ same. subst (λ o. Has (tag_want o) v) (ap (λ l. find l fs) (sym same) ∙ e) i) s.1.0 (bytes_eq l m) refl)
  tag_met fs f l m v (shape.Made h NoShape) e i s = absurd s.1
  tag_met fs f l m v (shape.Made h (AShape x (AShape y ys))) e i s = absurd s.1.1
  tag_met fs f l m v (shape.Function g) e i s = absurd s

  variant_tagged : (fs : List (Field TypeId)) (f : Field TypeId) (l : Bytes) (t : TypeId) (v : Value) (w : core.Value) → find l fs ≡ Some f → Fit (node.Variant fs) t v → Same v w → IsTagged l f.part w
  variant_tagged fs f l t (Made (Tag m) (AValue v NoValue)) w e k s = tag_met fs f l m v w e k.1.0 s
  variant_tagged fs f l t (Made (Tag m) NoValue) w e k s = absurd k.1
  variant_tagged fs f l t (Made (Tag m) (AValue v (AValue x vs))) w e k s = absurd k.1.1
  variant_tagged fs f l t (Made (Leaf (part.Tag i)) inner) w e k s = absurd k.0.0
  variant_tagged fs f l t (Made (Leaf p) inner) w e k s = absurd k.0.1
  variant_tagged fs f l t (Made Array inner) w e (inl r, k) s = absurd r
  variant_tagged fs f l t (Made Array inner) w e (inr r, k) s = absurd r
  variant_tagged fs f l t (Made (Error c m) inner) w e k s = absurd (true≢false (sym k.0.0))
  variant_tagged fs f l t (Made h inner) w e k s = absurd k.0
  variant_tagged fs f l t (Function g n) w e k s = absurd k
  variant_tagged fs f l t (BuiltIn m holds) w e k s = absurd k

  abbrev IsParts : List TypeId → core.Value → Type 0
  IsParts ts w = (vs : Values) × (ws : Shapes core.Handle) × (tuple_of w ≡ Some (listed ws)) × Have (map (λ t. Of t) ts) vs × SameAll vs ws

  tuple_parts : (ts : List TypeId) (t : TypeId) (v : Value) (w : core.Value) → Fit (node.Tuple ts) t v → Same v w → IsParts ts w
  tuple_parts ts t (Made Tuple vs) (shape.Made h ws) k s = (vs, ws, ap (λ h. tuple_of (shape.Made h ws)) (sym s.0), k.1, s.1)
  tuple_parts ts t (Made Tuple vs) (shape.Function f) k s = absurd s
  tuple_parts ts t (Made (Leaf (part.Record n)) inner) w k s = absurd k.0.0
  tuple_parts ts t (Made (Leaf p) inner) w k s = absurd k.0.1
  tuple_parts ts t (Made Array inner) w (inl r, k) s = absurd r
  tuple_parts ts t (Made Array inner) w (inr r, k) s = absurd r
  tuple_parts ts t (Made (Error c m) inner) w k s = absurd (true≢false (sym k.0.0))
  tuple_parts ts t (Made h inner) w k s = absurd k.0
  tuple_parts ts t (Function g n) w k s = absurd k
  tuple_parts ts t (BuiltIn m holds) w k s = absurd k

  -- what an object has under its labels
  abbrev IsObject : List (Field TypeId) → core.Value → Type 0
  IsObject fs w =
      (ls : List Bytes) × (vs : Values) × (ws : Shapes core.Handle) × (w ≡ shape.Made (Object ls) ws) × Each (λ f. IsAmong f.label ls) fs × Have (map (λ l. field_want (find l fs)) ls) vs × SameAll vs ws

  object_at : (fs : List (Field TypeId)) (t : TypeId) (v : Value) (w : core.Value) → Fit (node.Object fs) t v → Same v w → IsObject fs w
  object_at fs t (Made (Object ls) vs) (shape.Made h ws) k s = (ls, vs, ws, ap (λ h. shape.Made h ws) (sym s.0), k.0, k.1, s.1)
  object_at fs t (Made (Object ls) vs) (shape.Function f) k s = absurd s
  object_at fs t (Made (Leaf (part.Record n)) inner) w k s = absurd k.0.0
  object_at fs t (Made (Leaf p) inner) w k s = absurd k.0.1
  object_at fs t (Made Array inner) w (inl r, k) s = absurd r
  object_at fs t (Made Array inner) w (inr r, k) s = absurd r
  object_at fs t (Made (Error c m) inner) w k s = absurd (true≢false (sym k.0.0))
  object_at fs t (Made h inner) w k s = absurd k.0
  object_at fs t (Function g n) w k s = absurd k
  object_at fs t (BuiltIn m holds) w k s = absurd k

  abbrev HasField : Bytes → TypeId → core.Value → Type 0
  HasField l u w = (v : Value) × (x : core.Value) × (field_of l w ≡ Some x) × Has (Of u) v × Same v x

  abbrev IsUnder : Bytes → TypeId → List Bytes → Shapes core.Handle → Type 0
  IsUnder l u ls ws = (v : Value) × (x : core.Value) × (under l ls (listed ws) ≡ Some x) × Has (Of u) v × Same v x

  under_has : (fs : List (Field TypeId)) (u : TypeId) (l : Bytes) → IsField world.head fs l u → (ls : List Bytes) (vs : Values) (ws : Shapes core.Handle) → IsAmong l ls
      → Have (map (λ l. field_want (find l fs)) ls) vs → SameAll vs ws → IsUnder l u ls ws
  under_has fs u l e [] vs ws i h s = absurd i
  under_has fs u l e (m ∷ ms) NoValue ws i h s = absurd h
  under_has fs u l e (m ∷ ms) (AValue v vs) NoShape i h s = absurd s
  under_has fs u l e (m ∷ ms) (AValue v vs) (AShape w ws) i h s = by (λ i. under_has fs u l e ms vs ws i h.1 s.1) (bytes_eq l m) refl
    where
      here : (l ≡ m) → Has (Of u) v
      here same = subst (λ t. Has (Of t) v) e.3 (subst (λ b. Has (by_mutability b e.0.part) v) e.2 (subst (λ o. Has (field_want o) v) (ap (λ l. find l fs) (sym same) ∙ e.1) h.0))

      later : IsUnder l u ms ws → bytes_eq l m ≡ false → IsUnder l u (m ∷ ms) (AShape w ws)
      later k q = (k.0, k.1, ap (λ b. cond b (Some w) (under l ms (listed ws))) q ∙ k.2, k.3, k.4)

      there : IsAmong l (m ∷ ms) → bytes_eq l m ≡ false → IsAmong l ms
      there (inl same) q = absurd (true≢false (sym ((bytes_eq-Decides l m).1 same) ∙ q))
      there (inr i) q = i

      by : (IsAmong l ms → IsUnder l u ms ws) → (b : Bool) → bytes_eq l m ≡ b → IsUnder l u (m ∷ ms) (AShape w ws)
      by r true q = (v, w, ap (λ b. cond b (Some w) (under l ms (listed ws))) q, here ((bytes_eq-Decides l m).0 q), s.0)
      by r false q = later (r (there i q)) q

  field_there : (fs : List (Field TypeId)) (u : TypeId) (l : Bytes) (w : core.Value) → IsField world.head fs l u → IsObject fs w → HasField l u w
  field_there fs u l w e (ls, vs, ws, q, all, h, s) =
      let f = found l fs e.0 (λ f. IsAmong f.label ls) e.1 all in
      let k = under_has fs u l e ls vs ws (subst (λ m. IsAmong m ls) f.0 f.1) h s in
      (k.0, k.1, ap (λ (w : core.Value). field_of l w) q ∙ k.2, k.3, k.4)

  opens_to : (c : Constructor) (o : core.Value → Option core.Value) (u : TypeId) (w : core.Value) (P : core.Value → Type 0) → ((v : Value) (x : core.Value) → Has (Of u) v → Same v x → P x)
      → ((opened c w ≡ Otherwise) × (o w ≡ None)) ⊎ ((v : Value) × (x : core.Value) × (opened c w ≡ Inside x) × (o w ≡ Some x) × Has (Of u) v × Same v x) → OpensTo c w (o w) P
  opens_to c o u w P h (inl (a, b)) = subst (λ r. OpensTo c w r P) (sym b) a
  opens_to c o u w P h (inr (v, x, a, b, i, s)) = subst (λ r. OpensTo c w r P) (sym b) (a, h v x i s)

  module _ (lawful : IsLawful world.head) where
    -- seen at a type above, whose head is this
    up : (t s : TypeId) (x : Node TypeId) (v : Value) → Below world.head t s → world.head s ≡ x → Has (Of t) v → Fit x s v
    up t s x v b q h = fits_at world answers kinds s x v q (has_sub world lawful answers kinds v (Of t) (Of s) h b)

    mutual
      pub meets : (p : Pat) (t : TypeId) (ns : List (Want TypeId)) (v : Value) (w : core.Value) → PatternTyped world.head p t ns → Has (Of t) v → Same v w → Meets p w
      meets Wildcard t ns v w h i s = tt
      meets Bind t ns v w h i s = tt
      meets (Constant c) t ns v w h i s = literal_typed (world.head h.0) c h.0 v w h.2 h.3 (up t h.0 (world.head h.0) v h.1 refl i) s
      meets (Present? p) t ns v w h i s = opens_to constructor.Present (λ w. present_of w) h.1 w (λ x. Meets p x) (λ v x i s. meets p h.1 ns v x h.4 i s) (may_present (world.head h.0) h.1 h.0 v w h.3 (up t h.0 (world.head h.0) v h.2 refl i) s)
      meets (Tagged l p) t ns v w h i s = opens_to (constructor.Tagged l) (λ w. tagged_of l w) h.2.part w (λ x. Meets p x) (λ v x i s. meets p h.2.part ns v x h.6 i s) (variant_tagged h.1 h.2 l h.0 v w h.5 (up t h.0 (node.Variant h.1) v h.3 h.4 i) s)
      meets (Parts ps) t ns v w h i s =
          let k = tuple_parts h.1 h.0 v w (up t h.0 (node.Tuple h.1) v h.2 h.3 i) s in
          (listed k.1, k.2, meet_each ps h.1 ns k.0 k.1 h.4 k.3 k.4)
      meets (Fields ls ps) t ns v w h i s = meet_fields ls ps h.1 h.2 ns w h.5 h.6 (object_at h.1 h.0 v w (up t h.0 (node.Object h.1) v h.3 h.4 i) s)
      meets (Either p q) t ns v w h i s =
          let k = has_sub world lawful answers kinds v (Of t) (Of h.0) i h.1 in
          (meets p h.0 [] v w h.2 k s, meets q h.0 [] v w h.3 k s)

      -- as many values as patterns
      pub meet_each : (ps : Pats) (ts : List TypeId) (ns : List (Want TypeId)) (vs : Values) (ws : Shapes core.Handle) → PatternsTyped world.head ps ts ns → Have (map (λ t. Of t) ts) vs → SameAll vs ws → MeetEach ps (listed ws)
      meet_each NoPat [] ns NoValue NoShape h i s = tt
      meet_each NoPat [] ns NoValue (AShape w ws) h i s = absurd s
      meet_each NoPat [] ns (AValue v vs) ws h i s = absurd i
      meet_each NoPat (t ∷ ts) ns vs ws h i s = absurd h
      meet_each (APat p ps) [] ns vs ws h i s = absurd h
      meet_each (APat p ps) (t ∷ ts) ns NoValue ws h i s = absurd i
      meet_each (APat p ps) (t ∷ ts) ns (AValue v vs) NoShape h i s = absurd s
      meet_each (APat p ps) (t ∷ ts) ns (AValue v vs) (AShape w ws) h i s = (meets p t h.0 v w h.3 i.0 s.0, meet_each ps ts h.1 vs ws h.4 i.1 s.1)

      meet_fields : (ls : List Bytes) (ps : Pats) (fs : List (Field TypeId)) (ts : List TypeId) (ns : List (Want TypeId)) (w : core.Value) → FieldTypes world.head fs ls ts → PatternsTyped world.head ps ts ns → IsObject fs w → MeetFields ls ps w
      meet_fields [] NoPat fs ts ns w f h o = tt
      meet_fields [] (APat p ps) fs [] ns w f h o = absurd h
      meet_fields [] (APat p ps) fs (t ∷ ts) ns w f h o = cc
      meet_fields (l ∷ ls) NoPat fs [] ns w f h o = cc
      meet_fields (l ∷ ls) NoPat fs (t ∷ ts) ns w f h o = absurd h
      meet_fields (l ∷ ls) (APat p ps) fs [] ns w f h o = absurd h
      meet_fields (l ∷ ls) (APat p ps) fs (t ∷ ts) ns w f h o =
          let z : t ∷ ts ≡ f.0 ∷ f.1 = f.3 in
          let same : f.0 ≡ t = cc in
          let rest : f.1 ≡ ts = cc in
          let k = field_there fs f.0 l w f.2 o in
          ((k.1, k.2, meets p t h.0 k.0 k.1 h.3 (subst (λ t. Has (Of t) k.0) same k.3) k.4), meet_fields ls ps fs ts h.1 w (subst (FieldTypes world.head fs ls) rest f.4) h.4 o)

    -- where a value, a cell, a future or a kept value is met
    pub meets_at : (p : Pat) (a : Want TypeId) (ns : List (Want TypeId)) (v : Value) (w : core.Value) → BindsAt world.head p a ns → Has a v → Same v w → Meets p w
    meets_at p (Of t) ns v w h i s = meets p t ns v w h i s
    meets_at Wildcard a ns v w h i s = tt
    meets_at Bind a ns v w h i s = tt
    meets_at (Constant c) (KeptOf t) ns v w h i s = subst (λ c. MeetsLiteral c w) (sym h.0) (null_meets v w s (kept v i))
      where
        kept : (v : Value) → Has (KeptOf t) v → IsOption v
        kept (Made (Leaf part.Null) NoValue) i = inl refl
        kept (Made Present (AValue v NoValue)) i = inr (v, refl)
        kept (Made Present (AValue v (AValue x vs))) i = absurd i.1
        kept (Made Present NoValue) i = absurd i
        kept v i = absurd i
    meets_at (Present? Bind) (KeptOf t) ns v w h i s = opens_to constructor.Present (λ w. present_of w) t w (λ x. Unit {0}) (λ v x i s. tt) (kept_present t v w i s)
    meets_at p a ns v w h i s = absurd h
