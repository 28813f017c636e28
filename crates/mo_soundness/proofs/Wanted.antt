-- What serves where less is asked, and values of a type that are values of the types above it.
use Rattle.std.proofs.Common.{◌≡◌, ◌⊎◌, inl, inr, ℕ, zero, suc, List, [], ◌∷◌, map, Bool, true, false, true≢false, arith, Option, Some, None, refl, sym, subst}
use Rattle.std.specs.Prelude.{pos, negsuc, nat_eq, if◌then◌else◌, ◌≤ℤ◌}
use Rattle.std.specs.Cmp.Lexicographic.{pointwise}
use Rattle.std.proofs.lemmas.Slice.Eq.{bytes_eq-Decides}
use Rattle.mo_num.specs.Kinds.{least}
use Rattle.mo_num.specs.declared.kind.Kind.{Kind}
use Rattle.mo_num.specs.declared.kind.Kind.TheVariants as kind
use Rattle.mo_types.specs.declared.datum.Datum.{Datum}
use Rattle.mo_types.specs.declared.datum.Datum.TheVariants as part
use Rattle.mo_types.specs.declared.node.Field.{Field}
use Rattle.mo_types.specs.declared.node.Node.{Node}
use Rattle.mo_types.specs.declared.node.Node.TheVariants as node
use Rattle.mo_types.specs.declared.node.Sort.TheVariants as sort
use Rattle.mo_types.specs.declared.node.TypeId.{TypeId}
use Rattle.mo_types.specs.Sub.{AtSome, IsSubtype, IsSomething, Each, Pairwise, find, FieldsBelow, TagsBelow, Fitting, NumberBelow}
use Rattle.mo_types.specs.Values.{IsPartOf, copies}
use Rattle.mo_values.specs.Shapes.{Bytes, Head, Leaf, Present, Tuple, Array, Object, Tag, Error, Cell, Future}
use Rattle.subtype_laws.proofs.Inversion.{to_above}
use Rattle.subtype_laws.proofs.Reflexive as reflexivity
use Rattle.subtype_laws.proofs.Transitive as transitivity
use Rattle.subtype_laws.specs.Inversion.{IsAbove, OtherAbove}
use Rattle.typed_tree.specs.Has.{IsLeafPart, IsNoCell, RootOf, wants, field_want, tag_want, by_mutability}
use Rattle.typed_tree.specs.Instances.{IsAmong}
use Rattle.typed_tree.specs.Wants.{Want, Anything, Of, CellOf, FutureOf, KeptOf, Generic, Below, Equal, Serves}
use Rattle.mo_soundness.specs.Lawful.{IsLawful}
use Rattle.mo_soundness.specs.Running.{AnswerTypes, Callable, plain, Fits}

low : (n : ℕ) → least kind.Int ≤ℤ pos n
low n = omega arith

no_low : (n : ℕ) → pos 0 ≤ℤ negsuc n → ⊥
no_low n h = omega arith

number_up : (k j : Kind) (p : Datum) → NumberBelow k j → IsPartOf {A = TypeId} (node.Number k) p → IsPartOf {A = TypeId} (node.Number j) p
number_up k j p (inl same) h = subst (λ k. IsPartOf {A = TypeId} (node.Number k) p) same h
number_up k j (part.Number (pos n)) (inr s) h =
    let i = subst (λ k. IsPartOf {A = TypeId} (node.Number k) (part.Number (pos n))) s.0 h in
    subst (λ j. IsPartOf {A = TypeId} (node.Number j) (part.Number (pos n))) (sym s.1) (low n, i.1)
number_up k j (part.Number (negsuc n)) (inr s) h = absurd (no_low n (subst (λ k. IsPartOf {A = TypeId} (node.Number k) (part.Number (negsuc n))) s.0 h).0)
number_up k j p (inr s) h = absurd h

module _ (head : TypeId → Node TypeId) (lawful : IsLawful head) where
  pub reflexive : (t : TypeId) → IsSubtype head t t
  reflexive t = reflexivity.reflexive head t (λ u r. lawful.own u)

  pub transitive : (t u v : TypeId) → IsSubtype head t u → IsSubtype head u v → IsSubtype head t v
  transitive t u v p q = transitivity.transitive head lawful.one t u v p q

  pub equal_self : (t : TypeId) → Equal head t t
  equal_self t = (reflexive t, reflexive t)

  pub equal_trans : (t u v : TypeId) → Equal head t u → Equal head u v → Equal head t v
  equal_trans t u v p q = (transitive t u v p.0 q.0, transitive v u t q.1 p.1)

  pub serves_trans : (a b c : Want TypeId) → Serves head a b → Serves head b c → Serves head a c
  serves_trans (FutureOf t) (FutureOf u) (FutureOf v) p q = transitive t u v p q
  serves_trans (FutureOf t) (FutureOf u) c p q = absurd q
  serves_trans (FutureOf t) b c p q = absurd p
  serves_trans Anything b Anything p q = tt
  serves_trans (Of t) b Anything p q = tt
  serves_trans (CellOf t) b Anything p q = tt
  serves_trans (KeptOf t) b Anything p q = tt
  serves_trans (Generic vs t) b Anything p q = tt
  serves_trans (Of t) (Of u) (Of v) p q = transitive t u v p q
  serves_trans (Of t) (Of u) c p q = absurd q
  serves_trans (Of t) Anything c p q = absurd q
  serves_trans (Of t) b c p q = absurd p
  serves_trans (CellOf t) (CellOf u) (CellOf v) p q = equal_trans t u v p q
  serves_trans (CellOf t) (CellOf u) c p q = absurd q
  serves_trans (CellOf t) Anything c p q = absurd q
  serves_trans (CellOf t) b c p q = absurd p
  serves_trans (KeptOf t) (KeptOf u) (KeptOf v) p q = equal_trans t u v p q
  serves_trans (KeptOf t) (KeptOf u) c p q = absurd q
  serves_trans (KeptOf t) Anything c p q = absurd q
  serves_trans (KeptOf t) b c p q = absurd p
  serves_trans Anything Anything c p q = absurd q
  serves_trans Anything b c p q = absurd p
  serves_trans (Generic vs t) Anything c p q = absurd q
  serves_trans (Generic vs t) b c p q = absurd p

  -- one list serves where the other is asked, place by place
  abbrev pub ServeAll : List (Want TypeId) → List (Want TypeId) → Type 0
  ServeAll [] [] = Unit {0}
  ServeAll (w ∷ ws) (u ∷ us) = Serves head w u × ServeAll ws us
  ServeAll _ _ = ⊥

  serve_copies : (n : ℕ) (w v : Want TypeId) → Serves head w v → ServeAll (copies n w) (copies n v)
  serve_copies zero w v s = tt
  serve_copies (suc n) w v s = (s, serve_copies n w v s)

  serve_types : (ts us : List TypeId) → Pairwise (IsSubtype head) ts us → ServeAll (map (λ t. Of t) ts) (map (λ t. Of t) us)
  serve_types [] [] f = tt
  serve_types [] (u ∷ us) f = absurd f
  serve_types (t ∷ ts) [] f = absurd f
  serve_types (t ∷ ts) (u ∷ us) f = (f.0, serve_types ts us f.1)

  -- ---- parts of leaves

  part_up : (u : TypeId) (x y : Node TypeId) (p : Datum) → OtherAbove (IsSubtype head) u x y → IsLeafPart p → IsPartOf x p → IsPartOf y p
  part_up u (node.Number k) y p f l h = subst (λ y. IsPartOf y p) (sym f.1) (number_up k f.0 p f.2 h)
  part_up u node.Bool y p f l h = subst (λ y. IsPartOf y p) (sym f) h
  part_up u node.Char y p f l h = subst (λ y. IsPartOf y p) (sym f) h
  part_up u node.Text y p f l h = subst (λ y. IsPartOf y p) (sym f) h
  part_up u node.Blob y p f l h = subst (λ y. IsPartOf y p) (sym f) h
  part_up u node.Principal y p f l h = subst (λ y. IsPartOf y p) (sym f) h
  part_up u node.Error y p f l h = absurd h
  part_up u node.Null y p (inl f) l h = subst (λ y. IsPartOf y p) (sym f) h
  part_up u node.Null y part.Null (inr f) l h = subst (λ y. IsPartOf y part.Null) (sym f.1) tt
  part_up u node.Null y p (inr f) l h = absurd h
  part_up u node.Any y p f l h = absurd f
  part_up u node.Bottom y p f l h = absurd h
  part_up u (node.Opt a) y part.Null f l h = subst (λ y. IsPartOf y part.Null) (sym f.1) tt
  part_up u (node.Opt a) y part.Present f l h = absurd l
  part_up u (node.Opt a) y p f l h = absurd h
  part_up u (node.Array a) y (part.Many n) f l h = absurd l
  part_up u (node.Array a) y p f l h = absurd h
  part_up u (node.MutArray a) y p f l h = absurd h
  part_up u (node.Tuple ts) y (part.Record n) f l h = absurd l
  part_up u (node.Tuple ts) y p f l h = absurd h
  part_up u (node.Object fs) y (part.Record n) f l h = absurd l
  part_up u (node.Object fs) y p f l h = absurd h
  part_up u (node.Actor fs) y (part.Actor q) f l h = subst (λ y. IsPartOf y (part.Actor q)) (sym f.1) h
  part_up u (node.Actor fs) y p f l h = absurd h
  part_up u (node.Variant fs) y (part.Tag i) f l h = absurd l
  part_up u (node.Variant fs) y p f l h = absurd h
  part_up u (node.Func s ps rs) y (part.Method q m) f l h = subst (λ y. IsPartOf y (part.Method q m)) (sym f.2) h
  part_up u (node.Func s ps rs) y p f l h = absurd h
  part_up u (node.Async a) y p f l h = absurd h
  part_up u (node.Variable v b) y p f l h = absurd h

  -- ---- fields

  field_up : (f g : Field TypeId) (m n : Bool) → Fitting (IsSubtype head) f g m n → Serves head (by_mutability m f.part) (by_mutability n g.part)
  field_up f g true true h = h
  field_up f g false false h = h
  field_up f g true false h = absurd h
  field_up f g false true h = absurd h

  option_up : (g : Field TypeId) (o : Option (Field TypeId)) → AtSome o (λ f. Fitting (IsSubtype head) f g f.mutable g.mutable) → Serves head (field_want o) (field_want (Some g))
  option_up g None h = absurd h
  option_up g (Some f) h = field_up f g f.mutable g.mutable h

  mutable_serves : (m : Bool) (t : TypeId) → Serves head (by_mutability m t) Anything
  mutable_serves true t = tt
  mutable_serves false t = tt

  field_serves : (o : Option (Field TypeId)) → Serves head (field_want o) Anything
  field_serves None = tt
  field_serves (Some f) = mutable_serves f.mutable f.part

  label_up : (fs gs : List (Field TypeId)) → FieldsBelow (IsSubtype head) fs gs → (l : Bytes) → Serves head (field_want (find l fs)) (field_want (find l gs))
  label_up fs [] f l = field_serves (find l fs)
  label_up fs (g ∷ gs) f l = by (pointwise nat_eq g.label l) refl (label_up fs gs f.1 l)
    where
      by : (b : Bool) → pointwise nat_eq g.label l ≡ b → Serves head (field_want (find l fs)) (field_want (find l gs)) → Serves head (field_want (find l fs)) (field_want (if b then Some g else find l gs))
      by true e i = option_up g (find l fs) (subst (λ l. AtSome (find l fs) (λ f. Fitting (IsSubtype head) f g f.mutable g.mutable)) ((bytes_eq-Decides g.label l).0 e) f.0)
      by false e i = i

  labels_up : (fs gs : List (Field TypeId)) → FieldsBelow (IsSubtype head) fs gs → (ls : List Bytes) → ServeAll (map (λ l. field_want (find l fs)) ls) (map (λ l. field_want (find l gs)) ls)
  labels_up fs gs f [] = tt
  labels_up fs gs f (l ∷ ls) = (label_up fs gs f l, labels_up fs gs f ls)

  -- a field that is found stands among the labels
  among : (fs : List (Field TypeId)) (ls : List Bytes) → Each (λ f. IsAmong f.label ls) fs → (l : Bytes) (P : Field TypeId → Type 0) → AtSome (find l fs) P → IsAmong l ls
  among [] ls h l P s = absurd s
  among (f ∷ fs) ls h l P s = by (pointwise nat_eq f.label l) refl s (λ s. among fs ls h.1 l P s)
    where
      by : (b : Bool) → pointwise nat_eq f.label l ≡ b → AtSome (if b then Some f else find l fs) P → (AtSome (find l fs) P → IsAmong l ls) → IsAmong l ls
      by true e s k = subst (λ l. IsAmong l ls) ((bytes_eq-Decides f.label l).0 e) h.0
      by false e s k = k s

  all_among : (fs gs : List (Field TypeId)) (ls : List Bytes) → Each (λ f. IsAmong f.label ls) fs → FieldsBelow (IsSubtype head) fs gs → Each (λ g. IsAmong g.label ls) gs
  all_among fs [] ls h f = tt
  all_among fs (g ∷ gs) ls h f = (among fs ls h g.label (λ f. Fitting (IsSubtype head) f g f.mutable g.mutable) f.0, all_among fs gs ls h f.1)

  -- ---- tags

  -- a tag below, and the one above
  found_tag : (l : Bytes) (gs fs : List (Field TypeId)) → TagsBelow (IsSubtype head) fs gs → IsSomething (find l fs) → IsSomething (find l gs) × Serves head (tag_want (find l fs)) (tag_want (find l gs))
  found_tag l gs [] f s = absurd s
  found_tag l gs (t ∷ fs) f s = by (pointwise nat_eq t.label l) refl s (λ s. found_tag l gs fs f.1 s)
    where
      above : (o : Option (Field TypeId)) → AtSome o (λ g. IsSubtype head t.part g.part) → IsSomething o × Serves head (Of t.part) (tag_want o)
      above None h = absurd h
      above (Some g) h = (tt, h)

      by : (b : Bool) → pointwise nat_eq t.label l ≡ b → IsSomething (if b then Some t else find l fs) → (IsSomething (find l fs) → IsSomething (find l gs) × Serves head (tag_want (find l fs)) (tag_want (find l gs)))
          → IsSomething (find l gs) × Serves head (tag_want (if b then Some t else find l fs)) (tag_want (find l gs))
      by true e s k = above (find l gs) (subst (λ l. AtSome (find l gs) (λ g. IsSubtype head t.part g.part)) ((bytes_eq-Decides t.label l).0 e) f.0)
      by false e s k = k s

  -- ---- each form of value

  module _ (answers : AnswerTypes) where
    abbrev Root : Node TypeId → Head → Type 0
    Root x h = RootOf head (plain head answers) [] x h

    -- what is inside serves above too, or nothing is asked of it there
    abbrev pub Inside : Head → ℕ → Node TypeId → Node TypeId → Type 0
    Inside h n x y = (wants h y n ≡ copies n Anything) ⊎ ServeAll (wants h x n) (wants h y n)

    abbrev Rises : Head → ℕ → Node TypeId → Node TypeId → Type 0
    Rises h n x y = Fits head answers y h × Inside h n x y

    labels_any : (fs : List (Field TypeId)) (ls : List Bytes) → ServeAll (map (λ l. field_want (find l fs)) ls) (map (λ l. Anything) ls)
    labels_any fs [] = tt
    labels_any fs (l ∷ ls) = (field_serves (find l fs), labels_any fs ls)

    nothing_asked : (ls : List Bytes) → ServeAll (map (λ l. Anything) ls) (map (λ l. Anything) ls)
    nothing_asked [] = tt
    nothing_asked (l ∷ ls) = (tt, nothing_asked ls)

    tag_serves : (o : Option (Field TypeId)) → Serves head (tag_want o) Anything
    tag_serves None = tt
    tag_serves (Some f) = tt

    -- below Any
    any_inside : (h : Head) (n : ℕ) (x : Node TypeId) → Root x h → Inside h n x node.Any
    any_inside (Leaf p) n x r = inr tt
    any_inside Present n (node.Opt a) r = inr (tt, tt)
    any_inside Present n x r = absurd r
    any_inside Tuple n x r = inl refl
    any_inside Array n x r = inl refl
    any_inside (Object ls) n (node.Object fs) r = inr (labels_any fs ls)
    any_inside (Object ls) n x r = absurd r
    any_inside (Tag l) n (node.Variant fs) r = inr (tag_serves (find l fs), tt)
    any_inside (Tag l) n x r = absurd r
    any_inside (Error c m) n x r = inr tt
    any_inside (Cell at) n x r = absurd r
    any_inside (Future call) n x r = inr tt

    any_self : (h : Head) (n : ℕ) → Inside h n node.Any node.Any
    any_self (Leaf p) n = inr tt
    any_self Present n = inr (tt, tt)
    any_self Tuple n = inl refl
    any_self Array n = inl refl
    any_self (Object ls) n = inr (nothing_asked ls)
    any_self (Tag l) n = inr (tt, tt)
    any_self (Error c m) n = inr tt
    any_self (Cell at) n = inr tt
    any_self (Future call) n = inr tt

    later : (a b : TypeId) → IsSubtype head a b → (o : Option TypeId) → AtSome o (λ t. Below head t a) → AtSome o (λ t. Below head t b)
    later a b s None h = h
    later a b s (Some t) h = transitive t a b h s

    root_up : (h : Head) (n : ℕ) (u : TypeId) (x y : Node TypeId) → OtherAbove (IsSubtype head) u x y → Root x h → Root y h × Inside h n x y
    root_up (Leaf p) n u x y f r = ((r.0, part_up u x y p f r.0 r.1), inr tt)
    root_up Present n u (node.Opt a) y f r = subst (λ y. Root y Present × Inside Present n (node.Opt a) y) (sym f.1) (tt, inr (f.2, tt))
    root_up Present n u x y f r = absurd r
    root_up Tuple n u (node.Tuple ts) y f r = subst (λ y. Root y Tuple × Inside Tuple n (node.Tuple ts) y) (sym f.1) (tt, inr (serve_types ts f.0 f.2))
    root_up Tuple n u x y f r = absurd r
    root_up Array n u (node.Array a) y f r = subst (λ y. Root y Array × Inside Array n (node.Array a) y) (sym f.1) (inl tt, inr (serve_copies n (Of a) (Of f.0) f.2))
    root_up Array n u (node.MutArray a) y f r = subst (λ y. Root y Array × Inside Array n (node.MutArray a) y) (sym f.1) (inr tt, inr (serve_copies n (CellOf a) (CellOf f.0) (f.2, f.3)))
    root_up Array n u x y f (inl r) = absurd r
    root_up Array n u x y f (inr r) = absurd r
    root_up (Object ls) n u (node.Object fs) y f r = subst (λ y. Root y (Object ls) × Inside (Object ls) n (node.Object fs) y) (sym f.1) (all_among fs f.0 ls r f.2, inr (labels_up fs f.0 f.2 ls))
    root_up (Object ls) n u x y f r = absurd r
    root_up (Tag l) n u (node.Variant fs) y f r = let t = found_tag l f.0 fs f.2 r in subst (λ y. Root y (Tag l) × Inside (Tag l) n (node.Variant fs) y) (sym f.1) (t.0, inr (t.1, tt))
    root_up (Tag l) n u x y f r = absurd r
    root_up (Error c m) n u node.Error y f r = subst (λ y. Root y (Error c m) × Inside (Error c m) n node.Error y) (sym f) (r, inr tt)
    root_up (Error c m) n u x y f r = absurd (true≢false (sym r.0))
    root_up (Cell at) n u x y f r = absurd r
    root_up (Future call) n u (node.Async a) y f r = subst (λ y. Root y (Future call) × Inside (Future call) n (node.Async a) y) (sym f.1) (later a f.0 f.2 (answers.types call) r, inr tt)
    root_up (Future call) n u x y f r = absurd r

    no_cell : (x : Node TypeId) (h : Head) → Root x h → IsNoCell h
    no_cell x (Cell at) r = absurd r
    no_cell x h r = tt

    -- a root other than at Any and at type parameters, at which there are none
    fits_root : (y : Node TypeId) (h : Head) → Root y h → Fits head answers y h
    fits_root node.Any h r = no_cell node.Any h r
    fits_root (node.Variable v b) (Leaf p) r = absurd r.1
    fits_root (node.Variable v b) Array (inl r) = absurd r
    fits_root (node.Variable v b) Array (inr r) = absurd r
    fits_root (node.Variable v b) (Error c m) r = absurd (true≢false (sym r.0))
    fits_root (node.Variable v b) h r = absurd r
    fits_root y h r = r

    rises : (h : Head) (n : ℕ) (u : TypeId) (x y : Node TypeId) → IsAbove (IsSubtype head) u x y → Fits head answers x h → Rises h n x y
    rises h n u node.Any y (inl e) f = subst (Rises h n node.Any) (sym e) (f, any_self h n)
    rises h n u (node.Variable v b) y a f = absurd f
    rises h n u x y (inl e) f = subst (Rises h n x) (sym e) (no_cell x h f, any_inside h n x f)
    rises h n u node.Any y (inr o) f = absurd o
    rises h n u x y (inr o) f = let r = root_up h n u x y o f in (fits_root y h r.0, r.1)

    -- what fits a type fits those above it
    pub above : (h : Head) (n : ℕ) (t u : TypeId) → IsSubtype head t u → Fits head answers (head t) h → Rises h n (head t) (head u)
    above h n t u s f = rises h n u (head t) (head u) (to_above head t u s) f

  -- ---- functions

  callable_at : (u : TypeId) (x y : Node TypeId) (P Q : Type 0) → (P → Q) → IsAbove (IsSubtype head) u x y → Callable x P → Callable y Q
  callable_at u x y P Q f (inl e) c = subst (λ y. Callable y Q) (sym e) tt
  callable_at u (node.Func sort.Local ps rs) y P Q f (inr h) c = subst (λ y. Callable y Q) (sym h.2) (f c)
  callable_at u node.Any y P Q f (inr h) c = absurd h
  callable_at u x y P Q f (inr h) c = absurd c

  -- a function of a type is one of each type above it
  pub callable_up : (t u : TypeId) (P Q : Type 0) → IsSubtype head t u → (P → Q) → Callable (head t) P → Callable (head u) Q
  callable_up t u P Q s f c = callable_at u (head t) (head u) P Q f (to_above head t u s) c
