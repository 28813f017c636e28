-- What values of each form of type are, and what patterns find in them.
use Rattle.std.proofs.Common.{◌≡◌, inl, inr, List, [], ◌∷◌, ◌++◌, map, Bool, true, false, true≢false, cond, Option, Some, None, refl, sym, ap, ◌∙◌, subst, bytes_eq}
use Rattle.std.proofs.lemmas.Slice.Eq.{bytes_eq-Decides}
use Rattle.mo_types.specs.declared.datum.Datum.TheVariants as part
use Rattle.mo_types.specs.declared.node.Field.{Field}
use Rattle.mo_types.specs.declared.node.Node.{Node}
use Rattle.mo_types.specs.declared.node.Node.TheVariants as node
use Rattle.mo_types.specs.declared.node.TypeId.{TypeId}
use Rattle.mo_types.specs.Sub.{find}
use Rattle.mo_values.specs.Messages.{count, under}
use Rattle.mo_values.specs.Shapes.{Bytes, Head, Leaf, Present, Tuple, Array, Object, Tag, Error, Shape, Shapes, NoShape, AShape, listed}
use Rattle.mo_values.specs.Shapes as shape
use Rattle.mo_values.specs.Views.{tuple_of, field_of, leaf_of}
use Rattle.typed_tree.specs.ActionTypes.{IsError}
use Rattle.typed_tree.specs.Has.{wants, field_want, tag_want, by_mutability}
use Rattle.typed_tree.specs.Language.{Value, Values, Made, Function, BuiltIn, NoValue, AValue, leaf, unit}
use Rattle.typed_tree.specs.MemberTypes.{IsUnit, IsField}
use Rattle.typed_tree.specs.Opening.{Code, Closed, BuiltInCode, shape_of, shapes_of, value_of, values_of}
use Rattle.typed_tree.specs.OperationTypes.{IsBool}
use Rattle.typed_tree.specs.Patterns.{Pat, Pats, Wildcard, Bind, Constant, Present?, Tagged, Parts, Fields, Either, NoPat, APat, matches, matches_all, matches_fields, where_there, where_true, is_literal, present_of, tagged_of, all_of, first_of_both}
use Rattle.typed_tree.specs.Wants.{Want, Of, KeptOf}
use Rattle.typed_tree.proofs.Opened.{value_shape}
use Rattle.mo_soundness.specs.Lawful.{IsLawful}
use Rattle.mo_soundness.specs.RunningPatterns.{FieldTypes, MayHold, PatternTyped, PatternsTyped, BindsAt}
use Rattle.mo_soundness.specs.Running.{IsErrorValue, AnswerTypes, Callable, Fits, HasValue, HaveValues, FunctionOf}
use Rattle.mo_soundness.specs.Worlds.{World}
use Rattle.mo_soundness.proofs.Less.{has_sub}

module _ (world : World) (answers : AnswerTypes) (kinds : List TypeId) where
  abbrev Has : Want TypeId → Value → Type 0
  Has = HasValue world answers kinds

  abbrev Have : List (Want TypeId) → Values → Type 0
  Have = HaveValues world answers kinds

  -- what is known of a value of a type whose head is this
  abbrev pub At : Node TypeId → TypeId → Value → Type 0
  At x t (Made h inner) = Fits world.head answers x h × Have (wants h x (count (shapes_of inner))) inner
  At x t (Function group which) = Callable x (FunctionOf world answers kinds (Closed group which) t)
  At x t (BuiltIn m holds) = Callable x (FunctionOf world answers kinds (BuiltInCode m holds) t)

  pub opened : (t : TypeId) (x : Node TypeId) (v : Value) → world.head t ≡ x → Has (Of t) v → At x t v
  opened t x (Made h inner) q k = subst (λ x. At x t (Made h inner)) q k
  opened t x (Function group which) q k = subst (λ x. At x t (Function group which)) q k
  opened t x (BuiltIn m holds) q k = subst (λ x. At x t (BuiltIn m holds)) q k

  pub made_at : (t : TypeId) (x : Node TypeId) (h : Head) (inner : Values) → world.head t ≡ x → At x t (Made h inner) → Has (Of t) (Made h inner)
  made_at t x h inner q k = subst (λ x. At x t (Made h inner)) (sym q) k

  pub unit_fits : (u : TypeId) → IsUnit world.head u → Has (Of u) unit
  unit_fits u q = made_at u (node.Tuple []) Tuple NoValue q (tt, tt)

  pub flag_fits : (t : TypeId) (b : Bool) → IsBool world.head t → Has (Of t) (leaf (part.Flag b))
  flag_fits t b q = made_at t node.Bool (Leaf (part.Flag b)) NoValue q ((tt, tt), tt)

  pub error_fits : (t : TypeId) (v : Value) → IsError world.head t → IsErrorValue v → Has (Of t) v
  error_fits t (Made (Error c m) NoValue) q e = made_at t node.Error (Error c m) NoValue q ((refl, e.0, e.1), tt)
  error_fits t v q e = absurd e

  pub truth : (t : TypeId) (v : Value) → IsBool world.head t → Has (Of t) v → (b : Bool) × (v ≡ leaf (part.Flag b))
  truth t v q h = by v (opened t node.Bool v q h)
    where
      by : (v : Value) → At node.Bool t v → (b : Bool) × (v ≡ leaf (part.Flag b))
      by (Made (Leaf (part.Flag b)) NoValue) k = (b, refl)
      by (Made (Leaf (part.Flag b)) (AValue v vs)) k = absurd k.1
      by (Made (Leaf p) inner) k = absurd k.0.1
      by (Made Array inner) (inl r, k) = absurd r
      by (Made Array inner) (inr r, k) = absurd r
      by (Made (Error c m) inner) k = absurd (true≢false (sym k.0.0))
      by (Made h inner) k = absurd k.0
      by (Function g n) k = absurd k
      by (BuiltIn m holds) k = absurd k

  pub error_of : (t : TypeId) (v : Value) → IsError world.head t → Has (Of t) v → IsErrorValue v
  error_of t v q h = by v (opened t node.Error v q h)
    where
      by : (v : Value) → At node.Error t v → IsErrorValue v
      by (Made (Error c m) NoValue) k = (k.0.1, k.0.2)
      by (Made (Error c m) (AValue v vs)) k = absurd k.1
      by (Made (Leaf p) inner) k = absurd k.0.1
      by (Made Array inner) (inl r, k) = absurd r
      by (Made Array inner) (inr r, k) = absurd r
      by (Made h inner) k = absurd k.0
      by (Function g n) k = absurd k
      by (BuiltIn m holds) k = absurd k

  -- ---- patterns

  abbrev pub HasNames : List (Want TypeId) → List (Shape Code) → Type 0
  HasNames [] [] = Unit {0}
  HasNames (w ∷ ws) (v ∷ vs) = Has w (value_of v) × HasNames ws vs
  HasNames _ _ = ⊥

  -- what a pattern finds fits the names
  abbrev pub Matched : List (Want TypeId) → Option (List (Shape Code)) → Type 0
  Matched ns None = Unit {0}
  Matched ns (Some vs) = HasNames ns vs

  abbrev OptHas : Want TypeId → Option (Shape Code) → Type 0
  OptHas w None = Unit {0}
  OptHas w (Some v) = Has w (value_of v)

  there_typed : (ns : List (Want TypeId)) (f : Shape Code → Option (List (Shape Code))) (w : Want TypeId) → ((v : Shape Code) → Has w (value_of v) → Matched ns (f v)) → (o : Option (Shape Code)) → OptHas w o → Matched ns (where_there f o)
  there_typed ns f w h None i = tt
  there_typed ns f w h (Some v) i = h v i

  present_has : (t u : TypeId) → MayHold world.head (world.head t) u → (s : Shape Code) → Has (Of t) (value_of s) → OptHas (Of u) (present_of s)
  present_has t u (inl q) (shape.Made Present (AShape v NoShape)) h = (opened t (node.Opt u) (Made Present (AValue (value_of v) NoValue)) q h).1.0
  present_has t u (inr (inl q)) (shape.Made Present (AShape v NoShape)) h = absurd (opened t node.Null (Made Present (AValue (value_of v) NoValue)) q h).0
  present_has t u (inr (inr q)) (shape.Made Present (AShape v NoShape)) h = absurd (opened t node.Bottom (Made Present (AValue (value_of v) NoValue)) q h).0
  present_has t u q _ h = tt

  label_has : (l m : Bytes) (w : Want TypeId) (v : Shape Code) → ((l ≡ m) → Has w (value_of v)) → (b : Bool) → bytes_eq l m ≡ b → OptHas w (cond b (Some v) None)
  label_has l m w v h false q = tt
  label_has l m w v h true q = h ((bytes_eq-Decides l m).0 q)

  tag_has : (t : TypeId) (fs : List (Field TypeId)) (f : Field TypeId) (l : Bytes) → world.head t ≡ node.Variant fs → find l fs ≡ Some f → (s : Shape Code) → Has (Of t) (value_of s) → OptHas (Of f.part) (tagged_of l s)
  tag_has t fs f l q e (shape.Made (Tag m) (AShape v NoShape)) h =
      let i = (opened t (node.Variant fs) (Made (Tag m) (AValue (value_of v) NoValue)) q h).1.0 in
      label_has l m (Of f.part) v (λ same. subst (λ o. Has (tag_want o) (value_of v)) (ap (λ l. find l fs) (sym same) ∙ e) i) (bytes_eq l m) refl
  tag_has t fs f l q e _ h = tt

  under_has : (fs : List (Field TypeId)) (t : TypeId) (l : Bytes) → IsField world.head fs l t → (ms : List Bytes) (vs : Shapes Code) → Have (map (λ l. field_want (find l fs)) ms) (values_of vs) → OptHas (Of t) (under l ms (listed vs))
  under_has fs t l e [] vs h = tt
  under_has fs t l e (m ∷ ms) NoShape h = tt
  under_has fs t l e (m ∷ ms) (AShape v vs) h =
      first (bytes_eq l m) refl (λ same. subst (λ t. Has (Of t) (value_of v)) e.3 (subst (λ b. Has (by_mutability b e.0.part) (value_of v)) e.2 (subst (λ o. Has (field_want o) (value_of v)) (ap (λ l. find l fs) (sym same) ∙ e.1) h.0))) (under_has fs t l e ms vs h.1)
    where
      first : (b : Bool) → bytes_eq l m ≡ b → ((l ≡ m) → Has (Of t) (value_of v)) → OptHas (Of t) (under l ms (listed vs)) → OptHas (Of t) (cond b (Some v) (under l ms (listed vs)))
      first true q h i = h ((bytes_eq-Decides l m).0 q)
      first false q h i = i

  pub field_has : (t : TypeId) (fs : List (Field TypeId)) (u : TypeId) (l : Bytes) → world.head t ≡ node.Object fs → IsField world.head fs l u → (s : Shape Code) → Has (Of t) (value_of s) → OptHas (Of u) (field_of l s)
  field_has t fs u l q e (shape.Made (Object ms) vs) h = under_has fs u l e ms vs (opened t (node.Object fs) (Made (Object ms) (values_of vs)) q h).1
  field_has t fs u l q e _ h = tt

  names_append : (a b : List (Want TypeId)) (vs ws : List (Shape Code)) → HasNames a vs → HasNames b ws → HasNames (a ++ b) (vs ++ ws)
  names_append [] b [] ws h i = i
  names_append [] b (v ∷ vs) ws h i = absurd h
  names_append (w ∷ a) b [] ws h i = absurd h
  names_append (w ∷ a) b (v ∷ vs) ws h i = (h.0, names_append a b vs ws h.1 i)

  both_typed : (a b : List (Want TypeId)) (o p : Option (List (Shape Code))) → Matched a o → Matched b p → Matched (a ++ b) (all_of o p)
  both_typed a b None p h i = tt
  both_typed a b (Some vs) None h i = tt
  both_typed a b (Some vs) (Some ws) h i = names_append a b vs ws h i

  none_typed : (b : Bool) → Matched [] (where_true b)
  none_typed true = tt
  none_typed false = tt

  either_typed : (o p : Option (List (Shape Code))) → Matched [] (first_of_both o p)
  either_typed None None = tt
  either_typed None (Some ws) = tt
  either_typed (Some vs) p = tt

  listed_has : (ws : List (Want TypeId)) (vs : Shapes Code) → Have ws (values_of vs) → HasNames ws (listed vs)
  listed_has [] NoShape h = tt
  listed_has [] (AShape v vs) h = absurd h
  listed_has (w ∷ ws) NoShape h = absurd h
  listed_has (w ∷ ws) (AShape v vs) h = (h.0, listed_has ws vs h.1)

  abbrev OptAll : List (Want TypeId) → Option (List (Shape Code)) → Type 0
  OptAll ws None = Unit {0}
  OptAll ws (Some vs) = HasNames ws vs

  tuple_has : (t : TypeId) (ts : List TypeId) → world.head t ≡ node.Tuple ts → (s : Shape Code) → Has (Of t) (value_of s) → OptAll (map (λ t. Of t) ts) (tuple_of s)
  tuple_has t ts q (shape.Made Tuple vs) h = listed_has (map (λ t. Of t) ts) vs (opened t (node.Tuple ts) (Made Tuple (values_of vs)) q h).1
  tuple_has t ts q _ h = tt

  parts_there : (ns : List (Want TypeId)) (ws : List (Want TypeId)) (f : List (Shape Code) → Option (List (Shape Code))) → ((vs : List (Shape Code)) → HasNames ws vs → Matched ns (f vs)) → (o : Option (List (Shape Code))) → OptAll ws o → Matched ns (where_there f o)
  parts_there ns ws f h None i = tt
  parts_there ns ws f h (Some vs) i = h vs i

  module _ (lawful : IsLawful world.head) where
    mutual
      pub matches_typed : (p : Pat) (t : TypeId) (ns : List (Want TypeId)) → PatternTyped world.head p t ns → (s : Shape Code) → Has (Of t) (value_of s) → Matched ns (matches p s)
      matches_typed Wildcard t ns h s i = subst (λ ns. HasNames ns []) (sym h) tt
      matches_typed Bind t ns h s i = subst (λ ns. HasNames ns (s ∷ [])) (sym h.2) (has_sub world lawful answers kinds (value_of s) (Of t) (Of h.0) i h.1, tt)
      matches_typed (Constant c) t ns h s i = subst (λ ns. Matched ns (where_true (is_literal c (leaf_of s)))) (sym h.4) (none_typed (is_literal c (leaf_of s)))
      matches_typed (Present? p) t ns h s i =
          there_typed ns (λ v. matches p v) (Of h.1) (λ v j. matches_typed p h.1 ns h.4 v j) (present_of s) (present_has h.0 h.1 h.3 s (has_sub world lawful answers kinds (value_of s) (Of t) (Of h.0) i h.2))
      matches_typed (Tagged l p) t ns h s i =
          there_typed ns (λ v. matches p v) (Of h.2.part) (λ v j. matches_typed p h.2.part ns h.6 v j) (tagged_of l s) (tag_has h.0 h.1 h.2 l h.4 h.5 s (has_sub world lawful answers kinds (value_of s) (Of t) (Of h.0) i h.3))
      matches_typed (Parts ps) t ns h s i =
          parts_there ns (map (λ t. Of t) h.1) (λ vs. matches_all ps vs) (λ vs j. all_typed ps h.1 ns h.4 vs j) (tuple_of s) (tuple_has h.0 h.1 h.3 s (has_sub world lawful answers kinds (value_of s) (Of t) (Of h.0) i h.2))
      matches_typed (Fields ls ps) t ns h s i = fields_typed ls ps h.0 h.1 h.2 ns h.4 h.5 h.6 s (has_sub world lawful answers kinds (value_of s) (Of t) (Of h.0) i h.3)
      matches_typed (Either p q) t ns h s i = subst (λ ns. Matched ns (first_of_both (matches p s) (matches q s))) (sym h.4) (either_typed (matches p s) (matches q s))

      pub all_typed : (ps : Pats) (ts : List TypeId) (ns : List (Want TypeId)) → PatternsTyped world.head ps ts ns → (vs : List (Shape Code)) → HasNames (map (λ t. Of t) ts) vs → Matched ns (matches_all ps vs)
      all_typed NoPat [] ns h [] i = subst (λ ns. HasNames ns []) (sym h) tt
      all_typed NoPat [] ns h (v ∷ vs) i = tt
      all_typed NoPat (t ∷ ts) ns h vs i = absurd h
      all_typed (APat p ps) [] ns h vs i = absurd h
      all_typed (APat p ps) (t ∷ ts) ns h [] i = tt
      all_typed (APat p ps) (t ∷ ts) ns h (v ∷ vs) i =
          subst (λ ns. Matched ns (all_of (matches p v) (matches_all ps vs))) (sym h.2) (both_typed h.0 h.1 (matches p v) (matches_all ps vs) (matches_typed p t h.0 h.3 v i.0) (all_typed ps ts h.1 h.4 vs i.1))

      fields_typed : (ls : List Bytes) (ps : Pats) (t : TypeId) (fs : List (Field TypeId)) (ts : List TypeId) (ns : List (Want TypeId)) → world.head t ≡ node.Object fs → FieldTypes world.head fs ls ts → PatternsTyped world.head ps ts ns → (s : Shape Code) → Has (Of t) (value_of s) → Matched ns (matches_fields ls ps s)
      fields_typed [] NoPat t fs [] ns q f h s i = subst (λ ns. HasNames ns []) (sym h) tt
      fields_typed [] NoPat t fs (u ∷ ts) ns q f h s i = absurd h
      fields_typed [] (APat p ps) t fs ts ns q f h s i = tt
      fields_typed (l ∷ ls) NoPat t fs ts ns q f h s i = tt
      fields_typed (l ∷ ls) (APat p ps) t fs [] ns q f h s i = absurd h
      fields_typed (l ∷ ls) (APat p ps) t fs (u ∷ ts) ns q f h s i =
          let same : f.0 ≡ u = (let z : f.0 ∷ f.1 ≡ u ∷ ts = sym f.3 in cc) in
          let rest : f.1 ≡ ts = (let z : f.0 ∷ f.1 ≡ u ∷ ts = sym f.3 in cc) in
          subst (λ ns. Matched ns (all_of (where_there (λ v. matches p v) (field_of l s)) (matches_fields ls ps s))) (sym h.2)
          (both_typed h.0 h.1 (where_there (λ v. matches p v) (field_of l s)) (matches_fields ls ps s)
          (there_typed h.0 (λ v. matches p v) (Of u) (λ v j. matches_typed p u h.0 h.3 v j) (field_of l s) (subst (λ u. OptHas (Of u) (field_of l s)) same (field_has t fs f.0 l q f.2 s i)))
          (fields_typed ls ps t fs ts h.1 q (subst (FieldTypes world.head fs ls) rest f.4) h.4 s i))

    pub patterns : (p : Pat) (t : TypeId) (ns : List (Want TypeId)) (v : Value) → PatternTyped world.head p t ns → Has (Of t) v → Matched ns (matches p (shape_of v))
    patterns p t ns v h i = matches_typed p t ns h (shape_of v) (subst (Has (Of t)) (sym (value_shape v)) i)

    kept_typed : (t : TypeId) (v : Value) → Has (KeptOf t) v → Matched (Of t ∷ []) (matches (Present? Bind) (shape_of v))
    kept_typed t (Made (Leaf part.Null) NoValue) h = tt
    kept_typed t (Made Present (AValue v NoValue)) h = (subst (Has (Of t)) (sym (value_shape v)) h.0, tt)
    kept_typed t (Made Present (AValue v (AValue u vs))) h = absurd h.1
    kept_typed t v h = absurd h

    -- where a value, a cell, a future or a kept value is met
    pub met : (p : Pat) (w : Want TypeId) (ns : List (Want TypeId)) (v : Value) → BindsAt world.head p w ns → Has w v → Matched ns (matches p (shape_of v))
    met p (Of t) ns v h i = patterns p t ns v h i
    met Wildcard w ns v h i = subst (λ ns. HasNames ns []) (sym h) tt
    met Bind w ns v h i = subst (λ ns. HasNames ns (shape_of v ∷ [])) (sym h) (subst (Has w) (sym (value_shape v)) i, tt)
    met (Constant c) (KeptOf t) ns v h i = subst (λ ns. Matched ns (where_true (is_literal c (leaf_of (shape_of v))))) (sym h.1) (none_typed (is_literal c (leaf_of (shape_of v))))
    met (Present? Bind) (KeptOf t) ns v h i = subst (λ ns. Matched ns (matches (Present? Bind) (shape_of v))) (sym h) (kept_typed t v i)
    met p w ns v h i = absurd h
