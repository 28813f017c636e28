-- What a value is, by the head of its type.
use Rattle.std.proofs.Common.{◌≡◌, ◌⊎◌, inl, inr, List, [], ◌∷◌, map, Bool, true, false, Option, Some, None, refl, sym, ap, ◌∙◌, subst}
use Rattle.mo_types.specs.declared.datum.Datum.{Datum}
use Rattle.mo_types.specs.declared.datum.Datum.TheVariants as part
use Rattle.mo_types.specs.declared.node.Field.{Field}
use Rattle.mo_types.specs.declared.node.Node.{Node}
use Rattle.mo_types.specs.declared.node.Node.TheVariants as node
use Rattle.mo_types.specs.declared.node.TypeId.{TypeId}
use Rattle.mo_types.specs.Sub.{IsSomething, Each, find}
use Rattle.mo_values.specs.Messages.{count}
use Rattle.mo_values.specs.Parts.{is_leaf_of}
use Rattle.mo_values.specs.Shapes.{Bytes, Head, Leaf, Present, Tuple, Array, Object, Tag, Error, Shape, Shapes, Made, Function, NoShape, AShape}
use Rattle.typed_tree.specs.Has.{Judgements, wants, field_want, tag_want, Fits, FunctionFits, Has, HasEach}
use Rattle.typed_tree.specs.Instances.{IsAmong}
use Rattle.typed_tree.specs.Wants.{Want, Of}
use Rattle.typed_tree.proofs.Leaves.{passes}
use Rattle.pattern_coverage.specs.Suited.{IsTold}

pub no : false ≡ true → ⊥
no e = cc

pub neither : {X : Type 0} → ⊥ ⊎ ⊥ → X
neither (inl e) = absurd e
neither (inr e) = absurd e

-- a type whose literals are counted
abbrev pub is_counted : Node TypeId → Bool
is_counted (node.Number k) = true
is_counted node.Bool = true
is_counted node.Char = true
is_counted node.Text = true
is_counted node.Blob = true
is_counted node.Null = true
is_counted _ = false

module _ {F : Type 0} (head : TypeId → Node TypeId) (known : Judgements TypeId F) (kinds : List TypeId) where
  abbrev Val : TypeId → Shape F → Type 0
  Val t v = Has head known kinds (Of t) v

  abbrev Vals : List (Want TypeId) → Shapes F → Type 0
  Vals ws vs = HasEach head known kinds ws vs

  -- a value of a type with this head
  abbrev pub HasAt : Node TypeId → TypeId → Shape F → Type 0
  HasAt x t (Made h inside) = Fits head known kinds x h inside × Vals (wants h x (count inside)) inside
  HasAt x t (Function f) = FunctionFits head known kinds x f t

  pub at_head : (x : Node TypeId) (t : TypeId) (v : Shape F) → head t ≡ x → Val t v → HasAt x t v
  at_head x t (Made h inside) e a = subst (λ y. Fits head known kinds y h inside × Vals (wants h y (count inside)) inside) e a
  at_head x t (Function f) e a = subst (λ y. FunctionFits head known kinds y f t) e a

  pub from_head : (x : Node TypeId) (t : TypeId) (v : Shape F) → head t ≡ x → HasAt x t v → Val t v
  from_head x t (Made h inside) e a = subst (λ y. Fits head known kinds y h inside × Vals (wants h y (count inside)) inside) (sym e) a
  from_head x t (Function f) e a = subst (λ y. FunctionFits head known kinds y f t) (sym e) a

  -- ---- options

  pub data OptionSeen (u : TypeId) : Shape F → Type 0 where
    NullSeen : OptionSeen u (Made (Leaf part.Null) NoShape)
    PresentSeen : (w : Shape F) → Val u w → OptionSeen u (Made Present (AShape w NoShape))

  option_leaf : (t u : TypeId) (p : Datum) (vs : Shapes F) → HasAt (node.Opt u) t (Made (Leaf p) vs) → OptionSeen u (Made (Leaf p) vs)
  option_leaf t u part.Null NoShape a = NullSeen
  option_leaf t u part.Null (AShape v vs) a = absurd a.1
  option_leaf t u part.Present vs a = absurd a.0.0
  option_leaf t u p vs a = absurd a.0.1

  option_at : (t u : TypeId) (v : Shape F) → HasAt (node.Opt u) t v → OptionSeen u v
  option_at t u (Made (Leaf p) vs) a = option_leaf t u p vs a
  option_at t u (Made Present (AShape w NoShape)) a = PresentSeen w a.1.0
  option_at t u (Made Present NoShape) a = absurd a.1
  option_at t u (Made Present (AShape w (AShape x xs))) a = absurd a.1.1
  option_at t u (Made Array vs) a = neither a.0
  option_at t u (Made (Error c m) vs) a = absurd (no a.0.0)
  option_at t u (Made h vs) a = absurd a.0
  option_at t u (Function f) a = absurd a

  pub option_seen : (t u : TypeId) (v : Shape F) → head t ≡ node.Opt u → Val t v → OptionSeen u v
  option_seen t u v e a = option_at t u v (at_head (node.Opt u) t v e a)

  -- ---- tags

  pub data TagSeen (fs : List (Field TypeId)) : Shape F → Type 0 where
    TagIs : (l : Bytes) (g : Field TypeId) (w : Shape F) → find l fs ≡ Some g → Val g.part w → TagSeen fs (Made (Tag l) (AShape w NoShape))

  tag_found : (fs : List (Field TypeId)) (l : Bytes) (o : Option (Field TypeId)) (w : Shape F) → find l fs ≡ o → IsSomething o → Vals (tag_want o ∷ []) (AShape w NoShape)
      → TagSeen fs (Made (Tag l) (AShape w NoShape))
  tag_found fs l None w e s a = absurd s
  tag_found fs l (Some g) w e s a = TagIs l g w e a.0

  pub tag_leaf : (t : TypeId) (fs : List (Field TypeId)) (p : Datum) (vs : Shapes F) → HasAt (node.Variant fs) t (Made (Leaf p) vs) → ⊥
  tag_leaf t fs (part.Tag i) vs a = a.0.0
  tag_leaf t fs p vs a = a.0.1

  tag_at : (t : TypeId) (fs : List (Field TypeId)) (v : Shape F) → HasAt (node.Variant fs) t v → TagSeen fs v
  tag_at t fs (Made (Tag l) NoShape) a = absurd a.1
  tag_at t fs (Made (Tag l) (AShape w NoShape)) a = tag_found fs l (find l fs) w refl a.0 a.1
  tag_at t fs (Made (Tag l) (AShape w (AShape x xs))) a = absurd a.1.1
  tag_at t fs (Made (Leaf p) vs) a = absurd (tag_leaf t fs p vs a)
  tag_at t fs (Made Array vs) a = neither a.0
  tag_at t fs (Made (Error c m) vs) a = absurd (no a.0.0)
  tag_at t fs (Made h vs) a = absurd a.0
  tag_at t fs (Function f) a = absurd a

  pub tag_seen : (t : TypeId) (fs : List (Field TypeId)) (v : Shape F) → head t ≡ node.Variant fs → Val t v → TagSeen fs v
  tag_seen t fs v e a = tag_at t fs v (at_head (node.Variant fs) t v e a)

  -- ---- tuples

  pub data TupleSeen (ts : List TypeId) : Shape F → Type 0 where
    TupleIs : (vs : Shapes F) → Vals (map (λ t. Of t) ts) vs → TupleSeen ts (Made Tuple vs)

  pub tuple_leaf : (t : TypeId) (ts : List TypeId) (p : Datum) (vs : Shapes F) → HasAt (node.Tuple ts) t (Made (Leaf p) vs) → ⊥
  tuple_leaf t ts (part.Record n) vs a = a.0.0
  tuple_leaf t ts p vs a = a.0.1

  tuple_at : (t : TypeId) (ts : List TypeId) (v : Shape F) → HasAt (node.Tuple ts) t v → TupleSeen ts v
  tuple_at t ts (Made Tuple vs) a = TupleIs vs a.1
  tuple_at t ts (Made (Leaf p) vs) a = absurd (tuple_leaf t ts p vs a)
  tuple_at t ts (Made Array vs) a = neither a.0
  tuple_at t ts (Made (Error c m) vs) a = absurd (no a.0.0)
  tuple_at t ts (Made h vs) a = absurd a.0
  tuple_at t ts (Function f) a = absurd a

  pub tuple_seen : (t : TypeId) (ts : List TypeId) (v : Shape F) → head t ≡ node.Tuple ts → Val t v → TupleSeen ts v
  tuple_seen t ts v e a = tuple_at t ts v (at_head (node.Tuple ts) t v e a)

  -- ---- objects

  abbrev pub field_wants : List (Field TypeId) → List Bytes → List (Want TypeId)
  field_wants fs ls = map (λ l. field_want (find l fs)) ls

  pub data ObjectSeen (fs : List (Field TypeId)) : Shape F → Type 0 where
    ObjectIs : (ls : List Bytes) (vs : Shapes F) → Each (λ f. IsAmong f.label ls) fs → Vals (field_wants fs ls) vs → ObjectSeen fs (Made (Object ls) vs)

  pub object_leaf : (t : TypeId) (fs : List (Field TypeId)) (p : Datum) (vs : Shapes F) → HasAt (node.Object fs) t (Made (Leaf p) vs) → ⊥
  object_leaf t fs (part.Record n) vs a = a.0.0
  object_leaf t fs p vs a = a.0.1

  object_at : (t : TypeId) (fs : List (Field TypeId)) (v : Shape F) → HasAt (node.Object fs) t v → ObjectSeen fs v
  object_at t fs (Made (Object ls) vs) a = ObjectIs ls vs a.0 a.1
  object_at t fs (Made (Leaf p) vs) a = absurd (object_leaf t fs p vs a)
  object_at t fs (Made Array vs) a = neither a.0
  object_at t fs (Made (Error c m) vs) a = absurd (no a.0.0)
  object_at t fs (Made h vs) a = absurd a.0
  object_at t fs (Function f) a = absurd a

  pub object_seen : (t : TypeId) (fs : List (Field TypeId)) (v : Shape F) → head t ≡ node.Object fs → Val t v → ObjectSeen fs v
  object_seen t fs v e a = object_at t fs v (at_head (node.Object fs) t v e a)

  -- ---- none

  pub bottom_at : (t : TypeId) (v : Shape F) → HasAt node.Bottom t v → ⊥
  bottom_at t (Made (Leaf p) vs) a = a.0.1
  bottom_at t (Made Array vs) a = neither a.0
  bottom_at t (Made (Error c m) vs) a = no a.0.0
  bottom_at t (Made h vs) a = a.0
  bottom_at t (Function f) a = a

  pub bottom_seen : (t : TypeId) (v : Shape F) → head t ≡ node.Bottom → Val t v → ⊥
  bottom_seen t v e a = bottom_at t v (at_head node.Bottom t v e a)

  -- ---- leaves

  leaf_at : (x : Node TypeId) (t : TypeId) (d : Datum) (vs : Shapes F) → IsTold x → HasAt x t (Made (Leaf d) vs) → is_leaf_of x d ≡ true
  leaf_at node.Any t d vs i a = absurd i
  leaf_at (node.Variable v b) t d vs i a = absurd i
  leaf_at x t d vs i a = passes x d a.0.0 a.0.1

  -- a leaf is one of its type
  pub leaf_seen : (t : TypeId) (d : Datum) (vs : Shapes F) → IsTold (head t) → Val t (Made (Leaf d) vs) → is_leaf_of (head t) d ≡ true
  leaf_seen t d vs i a = leaf_at (head t) t d vs i (at_head (head t) t (Made (Leaf d) vs) refl a)

  -- ---- literals

  counted_root : (x : Node TypeId) (h : Head) (vs : Shapes F) → is_counted x ≡ true → Fits head known kinds x h vs → (d : Datum) × (h ≡ Leaf d) × (is_leaf_of x d ≡ true)
  counted_root (node.Number k) (Leaf d) vs i a = (d, refl, passes (node.Number k) d a.0 a.1)
  counted_root (node.Number k) Array vs i a = neither a
  counted_root (node.Number k) (Error c m) vs i a = absurd (no a.0)
  counted_root (node.Number k) h vs i a = absurd a
  counted_root node.Bool (Leaf d) vs i a = (d, refl, passes node.Bool d a.0 a.1)
  counted_root node.Bool Array vs i a = neither a
  counted_root node.Bool (Error c m) vs i a = absurd (no a.0)
  counted_root node.Bool h vs i a = absurd a
  counted_root node.Char (Leaf d) vs i a = (d, refl, passes node.Char d a.0 a.1)
  counted_root node.Char Array vs i a = neither a
  counted_root node.Char (Error c m) vs i a = absurd (no a.0)
  counted_root node.Char h vs i a = absurd a
  counted_root node.Text (Leaf d) vs i a = (d, refl, passes node.Text d a.0 a.1)
  counted_root node.Text Array vs i a = neither a
  counted_root node.Text (Error c m) vs i a = absurd (no a.0)
  counted_root node.Text h vs i a = absurd a
  counted_root node.Blob (Leaf d) vs i a = (d, refl, passes node.Blob d a.0 a.1)
  counted_root node.Blob Array vs i a = neither a
  counted_root node.Blob (Error c m) vs i a = absurd (no a.0)
  counted_root node.Blob h vs i a = absurd a
  counted_root node.Null (Leaf d) vs i a = (d, refl, passes node.Null d a.0 a.1)
  counted_root node.Null Array vs i a = neither a
  counted_root node.Null (Error c m) vs i a = absurd (no a.0)
  counted_root node.Null h vs i a = absurd a
  counted_root x h vs i a = absurd (no i)

  counted_function : (x : Node TypeId) (t : TypeId) (f : F) → is_counted x ≡ true → FunctionFits head known kinds x f t → ⊥
  counted_function node.Any t f i a = no i
  counted_function (node.Variable v b) t f i a = no i
  counted_function (node.Func s ps rs) t f i a = no i
  counted_function x t f i a = a

  no_more : (vs : Shapes F) → Vals [] vs → vs ≡ NoShape
  no_more NoShape a = refl
  no_more (AShape v vs) a = absurd a

  counted_at : (x : Node TypeId) (t : TypeId) (v : Shape F) → is_counted x ≡ true → HasAt x t v → (d : Datum) × (v ≡ Made (Leaf d) NoShape) × (is_leaf_of x d ≡ true)
  counted_at x t (Made h vs) i a =
      let r = counted_root x h vs i a.0 in
      (r.0, ap (λ h. Made h vs) r.1 ∙ ap (λ vs. Made (Leaf r.0) vs) (no_more vs (subst (λ h. Vals (wants h x (count vs)) vs) r.1 a.1)), r.2)
  counted_at x t (Function f) i a = absurd (counted_function x t f i a)

  -- a value of a type whose literals are counted is one of them
  pub counted_seen : (t : TypeId) (v : Shape F) → is_counted (head t) ≡ true → Val t v → (d : Datum) × (v ≡ Made (Leaf d) NoShape) × (is_leaf_of (head t) d ≡ true)
  counted_seen t v i a = counted_at (head t) t v i (at_head (head t) t v refl a)
