-- A value of a type has what the patterns on the type look into.
use Rattle.std.proofs.Common.{◌≡◌, List, [], ◌∷◌, map, Bool, true, false, Some, None, refl, sym, ap, ◌∙◌, subst}
use Rattle.std.specs.Prelude.{cond}
use Rattle.std.specs.Str.{bytes_eq}
use Rattle.mo_types.specs.declared.node.Field.{Field}
use Rattle.mo_types.specs.declared.node.Node.{Node}
use Rattle.mo_types.specs.declared.node.Node.TheVariants as node
use Rattle.mo_types.specs.declared.node.TypeId.{TypeId}
use Rattle.mo_types.specs.Heads.{opt_of, variant_of}
use Rattle.mo_types.specs.Sub.{AtSome, Each, IsSomething, find}
use Rattle.mo_values.specs.Shapes.{Bytes, Present, Tag, Shape, Shapes, Made, NoShape, AShape, listed}
use Rattle.mo_values.specs.Views.{tuple_of, field_of}
use Rattle.typed_tree.specs.Has.{Fits, HasEach}
use Rattle.typed_tree.specs.Patterns.{Pat, Pats, Wildcard, Bind, Constant, Present?, Tagged, Parts, Fields, Either, NoPat, APat, present_of, tagged_of}
use Rattle.typed_tree.specs.Wants.{Of}
use Rattle.pattern_elab.specs.Cases.{SuitEach}
use Rattle.pattern_elab.specs.Suiting.{Within, Suits, SuitAll, SuitFields}
use Rattle.pattern_coverage.specs.Inhabited.{everything}
use Rattle.pattern_coverage.specs.Suited.{IsTold, OnOption, OnPart, OnVariant, OnTuple, OnObject, IsOn, AreOn, FieldsOn}
use Rattle.pattern_coverage.proofs.Having.{at_some}
use Rattle.pattern_coverage.proofs.Object.{value_at}
use Rattle.pattern_coverage.proofs.Option.{bytes_same}
use Rattle.pattern_coverage.proofs.Pieces.{Val}
use Rattle.pattern_coverage.proofs.Seen.{HasAt, at_head, OptionSeen, NullSeen, PresentSeen, option_seen, TagSeen, TagIs, tag_seen, TupleSeen, TupleIs, tuple_seen, bottom_seen}

module _ (F : Type 0) (head : TypeId → Node TypeId) (has : TypeId → Bool) (kinds : List TypeId) where
  abbrev Seen : TypeId → Shape F → Type 0
  Seen t v = Val head has kinds t v

  abbrev Vals : List TypeId → Shapes F → Type 0
  Vals ts vs = HasEach head (everything head) kinds (map (λ t. Of t) ts) vs

  abbrev Suiting : Pat → Type 0
  Suiting p = (t : TypeId) (v : Shape F) → IsOn head p t → Seen t v → Suits p v

  abbrev SuitingAll : Pats → Type 0
  SuitingAll ps = (ts : List TypeId) (vs : Shapes F) → AreOn head ps ts → Vals ts vs → SuitAll ps (listed vs)

  abbrev SuitingFields : List Bytes → Pats → Type 0
  SuitingFields ls ps = (t : TypeId) (fs : List (Field TypeId)) (v : Shape F) → head t ≡ node.Object fs → FieldsOn head ls ps fs → Seen t v → SuitFields ls ps v

  -- ---- options

  present_root : (x : Node TypeId) (vs : Shapes F) → IsTold x → Fits head (everything head) kinds x Present vs → IsSomething (opt_of x)
  present_root node.Any vs i a = absurd i
  present_root (node.Variable v b) vs i a = absurd i
  present_root x vs i a = a

  no_option : (p : Pat) (x : Node TypeId) (t : TypeId) (v : Shape F) → IsTold x → opt_of x ≡ None → HasAt head (everything head) kinds x t v → Within (λ w. Suits p w) (present_of v)
  no_option p x t (Made Present (AShape w NoShape)) i e a = absurd (subst IsSomething e (present_root x (AShape w NoShape) i a.0))
  no_option p x t v i e a = tt

  some_option : (p : Pat) (u : TypeId) (v : Shape F) → ((w : Shape F) → Seen u w → Suits p w) → OptionSeen head (everything head) kinds u v → Within (λ w. Suits p w) (present_of v)
  some_option p u v f NullSeen = tt
  some_option p u v f (PresentSeen w a) = f w a

  option_suits : (p : Pat) → Suiting p → (x : Node TypeId) (t : TypeId) (v : Shape F) → head t ≡ x → OnOption (λ u. IsOn head p u) x → Seen t v → Within (λ w. Suits p w) (present_of v)
  option_suits p f (node.Opt u) t v e i a = some_option p u v (λ w b. f u w i b) (option_seen head (everything head) kinds t u v e a)
  option_suits p f x t v e i a = no_option p x t v i refl (at_head head (everything head) kinds x t v e a)

  -- ---- tags

  tag_root : (x : Node TypeId) (m : Bytes) (vs : Shapes F) → IsTold x → Fits head (everything head) kinds x (Tag m) vs → IsSomething (variant_of x)
  tag_root node.Any m vs i a = absurd i
  tag_root (node.Variable v b) m vs i a = absurd i
  tag_root (node.Variant fs) m vs i a = tt
  tag_root x m vs i a = a

  no_tag : (l : Bytes) (p : Pat) (x : Node TypeId) (t : TypeId) (v : Shape F) → IsTold x → variant_of x ≡ None → HasAt head (everything head) kinds x t v → Within (λ w. Suits p w) (tagged_of l v)
  no_tag l p x t (Made (Tag m) (AShape w NoShape)) i e a = absurd (subst IsSomething e (tag_root x m (AShape w NoShape) i a.0))
  no_tag l p x t v i e a = tt

  some_tag : (l : Bytes) (p : Pat) (fs : List (Field TypeId)) (v : Shape F) → Suiting p → OnPart (λ u. IsOn head p u) (find l fs) → TagSeen head (everything head) kinds fs v → Within (λ w. Suits p w) (tagged_of l v)
  some_tag l p fs v f i (TagIs m g w e a) = by (bytes_eq l m) refl
    where
      by : (b : Bool) → bytes_eq l m ≡ b → Within (λ w. Suits p w) (cond b (Some w) None)
      by true q = f g.part w (subst (OnPart (λ u. IsOn head p u)) (ap (λ l. find l fs) (bytes_same l m q) ∙ e) i) a
      by false q = tt

  tag_suits : (l : Bytes) (p : Pat) → Suiting p → (x : Node TypeId) (t : TypeId) (v : Shape F) → head t ≡ x → OnVariant (λ u. IsOn head p u) l x → Seen t v → Within (λ w. Suits p w) (tagged_of l v)
  tag_suits l p f (node.Variant fs) t v e i a = some_tag l p fs v f i (tag_seen head (everything head) kinds t fs v e a)
  tag_suits l p f x t v e i a = no_tag l p x t v i refl (at_head head (everything head) kinds x t v e a)

  -- ---- tuples and objects

  some_tuple : (ps : Pats) → SuitingAll ps → (ts : List TypeId) (v : Shape F) → AreOn head ps ts → TupleSeen head (everything head) kinds ts v → AtSome (tuple_of v) (λ vs. SuitAll ps vs)
  some_tuple ps f ts v i (TupleIs vs a) = f ts vs i a

  tuple_suits : (ps : Pats) → SuitingAll ps → (x : Node TypeId) (t : TypeId) (v : Shape F) → head t ≡ x → OnTuple (λ ts. AreOn head ps ts) x → Seen t v → AtSome (tuple_of v) (λ vs. SuitAll ps vs)
  tuple_suits ps f (node.Tuple ts) t v e i a = some_tuple ps f ts v i (tuple_seen head (everything head) kinds t ts v e a)
  tuple_suits ps f node.Bottom t v e i a = absurd (bottom_seen head (everything head) kinds t v e a)
  tuple_suits ps f x t v e i a = absurd i

  object_suits : (ls : List Bytes) (ps : Pats) → SuitingFields ls ps → (x : Node TypeId) (t : TypeId) (v : Shape F) → head t ≡ x → OnObject (λ fs. FieldsOn head ls ps fs) x → Seen t v → SuitFields ls ps v
  object_suits ls ps f (node.Object fs) t v e i a = f t fs v e i a
  object_suits ls ps f node.Bottom t v e i a = absurd (bottom_seen head (everything head) kinds t v e a)
  object_suits ls ps f x t v e i a = absurd i

  field_suits : (l : Bytes) (p : Pat) → Suiting p → (t : TypeId) (fs : List (Field TypeId)) (v : Shape F) → head t ≡ node.Object fs → AtSome (find l fs) (λ g. (g.mutable ≡ false) × IsOn head p g.part) → Seen t v → AtSome (field_of l v) (λ w. Suits p w)
  field_suits l p f t fs v e i a =
      let g = at_some (λ g. (g.mutable ≡ false) × IsOn head p g.part) (find l fs) i in
      let w = value_at F head has kinds t fs l g.0 e g.1 g.2.0 v a in
      subst (λ o. AtSome o (λ w. Suits p w)) (sym w.1) (f g.0.part w.0 g.2.1 w.2)

  no_parts : SuitingAll NoPat
  no_parts [] NoShape i a = tt
  no_parts [] (AShape v vs) i a = absurd a
  no_parts (t ∷ ts) vs i a = absurd i

  more_parts : (p : Pat) (ps : Pats) → Suiting p → SuitingAll ps → SuitingAll (APat p ps)
  more_parts p ps f g [] vs i a = absurd i
  more_parts p ps f g (t ∷ ts) NoShape i a = absurd a
  more_parts p ps f g (t ∷ ts) (AShape v vs) i a = (f t v i.0 a.0, g ts vs i.1 a.1)

  mutual
    pub suits : (p : Pat) → Suiting p
    suits Wildcard = λ t v i a. tt
    suits Bind = λ t v i a. tt
    suits (Constant c) = λ t v i a. tt
    suits (Present? p) = λ t v i a. option_suits p (suits p) (head t) t v refl i a
    suits (Tagged l p) = λ t v i a. tag_suits l p (suits p) (head t) t v refl i a
    suits (Parts ps) = λ t v i a. tuple_suits ps (parts_suit ps) (head t) t v refl i a
    suits (Fields ls ps) = λ t v i a. object_suits ls ps (fields_suit ps ls) (head t) t v refl i a
    suits (Either p q) = λ t v i a. (suits p t v i.0 a, suits q t v i.1 a)

    parts_suit : (ps : Pats) → SuitingAll ps
    parts_suit NoPat = no_parts
    parts_suit (APat p ps) = more_parts p ps (suits p) (parts_suit ps)

    fields_suit : (ps : Pats) (ls : List Bytes) → SuitingFields ls ps
    fields_suit NoPat [] = λ t fs v e i a. tt
    fields_suit NoPat (l ∷ ls) = λ t fs v e i a. absurd i
    fields_suit (APat p ps) [] = λ t fs v e i a. absurd i
    fields_suit (APat p ps) (l ∷ ls) = λ t fs v e i a. (field_suits l p (suits p) t fs v e i.0 a, fields_suit ps ls t fs v e i.1 a)

  pub each_suits : (ps : List Pat) (t : TypeId) (v : Shape F) → Each (λ p. IsOn head p t) ps → Seen t v → SuitEach ps v
  each_suits [] t v i a = tt
  each_suits (p ∷ ps) t v i a = (suits p t v i.0 a, each_suits ps t v i.1 a)
