-- Types that are written in a scope whose type parameters are these.
use Rattle.std.proofs.Common.{◌≡◌, ℕ, zero, suc, Bool, true, false, List, [], ◌∷◌, ◌++◌, length, map, Option, Some, None, inl, inr, refl, sym, ap, subst}
use Rattle.std.specs.Prelude.{cond, nat_eq}
use Rattle.mo_scopes.specs.declared.library.BuiltInType.{BuiltInType}
use Rattle.mo_scopes.specs.declared.library.BuiltInType.TheVariants as built_in
use Rattle.mo_scopes.specs.Scopes.{built_in_types, named}
use Rattle.mo_syntax.specs.declared.types.Sharing.TheVariants as sharing
use Rattle.mo_types.specs.Heads.{async_of}
use Rattle.mo_types.specs.Sub.{Each}
use Rattle.typed_tree.specs.Instances.{IsAmong, field_types, types_in, ParameterAmong, Mentions, MentionsOnly}
use Rattle.typing_rules.specs.AbstractSyntax.{Bytes, TypeNode, TypeNodes, TypeFields}
use Rattle.typing_rules.specs.AbstractSyntax as p
use Rattle.typing_rules.specs.Definitions.{Definitions, definition_at, at_reached, found_of, parameters_of, followed, each_followed, reached, or_bottom, unfolded}
use Rattle.typing_rules.specs.Heads.{results, shape, head}
use Rattle.typing_rules.specs.Terms.{Term, Terms, Fields, listed, unlisted, listed_fields, put_in, each_put_in, fields_put_in, argument_of}
use Rattle.typing_rules.specs.Terms as t
use Rattle.typing_rules.specs.Types.{Proper, EachProper}
use Rattle.typing_rules.specs.TypeScopes.{TypeName, IsParameter, IsDefinition, TypeScope, type_named, built_in_term, use_term, term, terms, field_terms}
use Rattle.desugaring_laws.specs.Known.{IsKnown}
use Rattle.desugaring_laws.specs.Laws.{AreWrittenFine}
use Rattle.desugaring_laws.specs.Scopes.{IsIn, AreIn, FieldsAreIn, IsNameIn, IsScopeFine, AreBoundsIn}
use Rattle.desugaring_laws.specs.Yields.{Yields}
use Rattle.desugaring_laws.proofs.Weakening.{each_more}
use Rattle.desugaring_laws.proofs.Yielding.{anything, more, tests, part as after}

module _ (vs : List ℕ) where
  -- ---- types put in

  cond_in : (b : Bool) (x y : Term) → IsIn vs x → IsIn vs y → IsIn vs (cond b x y)
  cond_in true x y h k = h
  cond_in false x y h k = k

  argument_in : (ps : List ℕ) (arguments : Terms) (v : ℕ) → AreIn vs arguments → IsIn vs (argument_of ps arguments v)
  argument_in [] arguments v h = tt
  argument_in (p ∷ ps) t.Nil v h = tt
  argument_in (p ∷ ps) (t.Cons u rest) v h = cond_in (nat_eq p v) u (argument_of ps rest v) h.0 (argument_in ps rest v h.1)

  module _ (s : ℕ → Term) (within : (v : ℕ) → IsIn vs (s v)) where
    mutual
      put_is_in : (u : Term) → IsIn vs (put_in s u)
      put_is_in (t.Number n) = tt
      put_is_in t.Boolean = tt
      put_is_in t.Character = tt
      put_is_in t.Text = tt
      put_is_in t.Blob = tt
      put_is_in t.Principal = tt
      put_is_in t.Error = tt
      put_is_in t.Null = tt
      put_is_in t.Any = tt
      put_is_in t.Bottom = tt
      put_is_in (t.Optional a) = put_is_in a
      put_is_in (t.Array a) = put_is_in a
      put_is_in (t.MutableArray a) = put_is_in a
      put_is_in (t.Tuple parts) = put_are_in parts
      put_is_in (t.Object fields) = put_fields_in fields
      put_is_in (t.Actor methods) = put_fields_in methods
      put_is_in (t.Variant tags) = put_fields_in tags
      put_is_in (t.Function ps r) = (put_are_in ps, put_is_in r)
      put_is_in (t.Shared how ps r) = (put_are_in ps, put_is_in r)
      put_is_in (t.Async a) = put_is_in a
      put_is_in (t.Parameter v) = within v
      put_is_in (t.Use at arguments) = put_are_in arguments

      put_are_in : (us : Terms) → AreIn vs (each_put_in s us)
      put_are_in t.Nil = tt
      put_are_in (t.Cons u rest) = (put_is_in u, put_are_in rest)

      put_fields_in : (fs : Fields) → FieldsAreIn vs (fields_put_in s fs)
      put_fields_in t.NoFields = tt
      put_fields_in (t.WithField l mutable u rest) = (put_is_in u, put_fields_in rest)

  abbrev OptionIn : Option Term → Type 0
  OptionIn None = Unit {0}
  OptionIn (Some u) = IsIn vs u

  option_cond : (b : Bool) (x y : Option Term) → OptionIn x → OptionIn y → OptionIn (cond b x y)
  option_cond true x y h k = h
  option_cond false x y h k = k

  found_in : (ps : List ℕ) (os : List (Option Term)) (v : ℕ) → Each OptionIn os → OptionIn (found_of ps os v)
  found_in [] os v h = tt
  found_in (p ∷ ps) [] v h = tt
  found_in (p ∷ ps) (o ∷ os) v h = option_cond (nat_eq p v) o (found_of ps os v) h.0 (found_in ps os v h.1)

  reached_in : (ps : List ℕ) (arguments : Terms) (os : List (Option Term)) → AreIn vs arguments → Each OptionIn os → (o : Option Term) → OptionIn (at_reached (argument_of ps arguments) (found_of ps os) o)
  reached_in ps arguments os h k None = tt
  reached_in ps arguments os h k (Some (t.Number n)) = put_is_in (argument_of ps arguments) (λ v. argument_in ps arguments v h) (t.Number n)
  reached_in ps arguments os h k (Some t.Boolean) = put_is_in (argument_of ps arguments) (λ v. argument_in ps arguments v h) t.Boolean
  reached_in ps arguments os h k (Some t.Character) = put_is_in (argument_of ps arguments) (λ v. argument_in ps arguments v h) t.Character
  reached_in ps arguments os h k (Some t.Text) = put_is_in (argument_of ps arguments) (λ v. argument_in ps arguments v h) t.Text
  reached_in ps arguments os h k (Some t.Blob) = put_is_in (argument_of ps arguments) (λ v. argument_in ps arguments v h) t.Blob
  reached_in ps arguments os h k (Some t.Principal) = put_is_in (argument_of ps arguments) (λ v. argument_in ps arguments v h) t.Principal
  reached_in ps arguments os h k (Some t.Error) = put_is_in (argument_of ps arguments) (λ v. argument_in ps arguments v h) t.Error
  reached_in ps arguments os h k (Some t.Null) = put_is_in (argument_of ps arguments) (λ v. argument_in ps arguments v h) t.Null
  reached_in ps arguments os h k (Some t.Any) = put_is_in (argument_of ps arguments) (λ v. argument_in ps arguments v h) t.Any
  reached_in ps arguments os h k (Some t.Bottom) = put_is_in (argument_of ps arguments) (λ v. argument_in ps arguments v h) t.Bottom
  reached_in ps arguments os h k (Some (t.Optional a)) = put_is_in (argument_of ps arguments) (λ v. argument_in ps arguments v h) (t.Optional a)
  reached_in ps arguments os h k (Some (t.Array a)) = put_is_in (argument_of ps arguments) (λ v. argument_in ps arguments v h) (t.Array a)
  reached_in ps arguments os h k (Some (t.MutableArray a)) = put_is_in (argument_of ps arguments) (λ v. argument_in ps arguments v h) (t.MutableArray a)
  reached_in ps arguments os h k (Some (t.Tuple parts)) = put_is_in (argument_of ps arguments) (λ v. argument_in ps arguments v h) (t.Tuple parts)
  reached_in ps arguments os h k (Some (t.Object fields)) = put_is_in (argument_of ps arguments) (λ v. argument_in ps arguments v h) (t.Object fields)
  reached_in ps arguments os h k (Some (t.Actor methods)) = put_is_in (argument_of ps arguments) (λ v. argument_in ps arguments v h) (t.Actor methods)
  reached_in ps arguments os h k (Some (t.Variant tags)) = put_is_in (argument_of ps arguments) (λ v. argument_in ps arguments v h) (t.Variant tags)
  reached_in ps arguments os h k (Some (t.Function qs r)) = put_is_in (argument_of ps arguments) (λ v. argument_in ps arguments v h) (t.Function qs r)
  reached_in ps arguments os h k (Some (t.Shared how qs r)) = put_is_in (argument_of ps arguments) (λ v. argument_in ps arguments v h) (t.Shared how qs r)
  reached_in ps arguments os h k (Some (t.Async a)) = put_is_in (argument_of ps arguments) (λ v. argument_in ps arguments v h) (t.Async a)
  reached_in ps arguments os h k (Some (t.Parameter v)) = found_in ps os v k
  reached_in ps arguments os h k (Some (t.Use at us)) = put_is_in (argument_of ps arguments) (λ v. argument_in ps arguments v h) (t.Use at us)

  module _ (defs : Definitions) where
    abbrev follow : Term → Option Term
    follow = followed defs.types (reached defs.types)

    mutual
      follow_in : (u : Term) → IsIn vs u → OptionIn (follow u)
      follow_in (t.Number n) h = h
      follow_in t.Boolean h = h
      follow_in t.Character h = h
      follow_in t.Text h = h
      follow_in t.Blob h = h
      follow_in t.Principal h = h
      follow_in t.Error h = h
      follow_in t.Null h = h
      follow_in t.Any h = h
      follow_in t.Bottom h = h
      follow_in (t.Optional a) h = h
      follow_in (t.Array a) h = h
      follow_in (t.MutableArray a) h = h
      follow_in (t.Tuple parts) h = h
      follow_in (t.Object fields) h = h
      follow_in (t.Actor methods) h = h
      follow_in (t.Variant tags) h = h
      follow_in (t.Function ps r) h = h
      follow_in (t.Shared how ps r) h = h
      follow_in (t.Async a) h = h
      follow_in (t.Parameter v) h = h
      follow_in (t.Use at arguments) h =
          reached_in (parameters_of (definition_at defs.types at)) arguments (each_followed defs.types (reached defs.types) arguments) h (each_follow_in arguments h) (reached defs.types at)

      each_follow_in : (us : Terms) → AreIn vs us → Each OptionIn (each_followed defs.types (reached defs.types) us)
      each_follow_in t.Nil h = tt
      each_follow_in (t.Cons u rest) h = (follow_in u h.0, each_follow_in rest h.1)

    or_in : (o : Option Term) → OptionIn o → IsIn vs (or_bottom defs.types o)
    or_in None h = tt
    or_in (Some u) h = h

    pub unfolded_in : (u : Term) → IsIn vs u → IsIn vs (unfolded defs.types u)
    unfolded_in u h = or_in (follow u) (follow_in u h)

    -- ---- what a type mentions

    listed_in : (us : Terms) → AreIn vs us → Each (IsIn vs) (listed us)
    listed_in t.Nil h = tt
    listed_in (t.Cons u rest) h = (h.0, listed_in rest h.1)

    fields_in : (fs : Fields) → FieldsAreIn vs fs → Each (IsIn vs) (field_types (listed_fields fs))
    fields_in t.NoFields h = tt
    fields_in (t.WithField l mutable u rest) h = (h.0, fields_in rest h.1)

    each_both : (xs ys : List Term) → Each (IsIn vs) xs → Each (IsIn vs) ys → Each (IsIn vs) (xs ++ ys)
    each_both [] ys h k = k
    each_both (x ∷ xs) ys h k = (h.0, each_both xs ys h.1 k)

    results_in : (r u : Term) → IsIn vs r → IsIn vs u → Each (IsIn vs) (results r u)
    results_in r (t.Number n) h k = (h, tt)
    results_in r t.Boolean h k = (h, tt)
    results_in r t.Character h k = (h, tt)
    results_in r t.Text h k = (h, tt)
    results_in r t.Blob h k = (h, tt)
    results_in r t.Principal h k = (h, tt)
    results_in r t.Error h k = (h, tt)
    results_in r t.Null h k = (h, tt)
    results_in r t.Any h k = (h, tt)
    results_in r t.Bottom h k = (h, tt)
    results_in r (t.Optional a) h k = (h, tt)
    results_in r (t.Array a) h k = (h, tt)
    results_in r (t.MutableArray a) h k = (h, tt)
    results_in r (t.Tuple parts) h k = listed_in parts k
    results_in r (t.Object fields) h k = (h, tt)
    results_in r (t.Actor methods) h k = (h, tt)
    results_in r (t.Variant tags) h k = (h, tt)
    results_in r (t.Function qs q) h k = (h, tt)
    results_in r (t.Shared how qs q) h k = (h, tt)
    results_in r (t.Async a) h k = (h, tt)
    results_in r (t.Parameter v) h k = (h, tt)
    results_in r (t.Use at arguments) h k = (h, tt)

    module _ (bounds : AreBoundsIn vs defs) where
      shape_in : (u : Term) → IsIn vs u → ParameterAmong vs (shape defs u) × Each (IsIn vs) (types_in (shape defs u))
      shape_in (t.Number n) h = (tt, tt)
      shape_in t.Boolean h = (tt, tt)
      shape_in t.Character h = (tt, tt)
      shape_in t.Text h = (tt, tt)
      shape_in t.Blob h = (tt, tt)
      shape_in t.Principal h = (tt, tt)
      shape_in t.Error h = (tt, tt)
      shape_in t.Null h = (tt, tt)
      shape_in t.Any h = (tt, tt)
      shape_in t.Bottom h = (tt, tt)
      shape_in (t.Optional a) h = (tt, (h, tt))
      shape_in (t.Array a) h = (tt, (h, tt))
      shape_in (t.MutableArray a) h = (tt, (h, tt))
      shape_in (t.Tuple parts) h = (tt, listed_in parts h)
      shape_in (t.Object fields) h = (tt, fields_in fields h)
      shape_in (t.Actor methods) h = (tt, fields_in methods h)
      shape_in (t.Variant tags) h = (tt, fields_in tags h)
      shape_in (t.Function ps r) h = (tt, each_both (listed ps) (r ∷ []) (listed_in ps h.0) (h.1, tt))
      shape_in (t.Shared how ps r) h = (tt, each_both (listed ps) (results r (unfolded defs.types r)) (listed_in ps h.0) (results_in r (unfolded defs.types r) h.1 (unfolded_in r h.1)))
      shape_in (t.Async a) h = (tt, (h, tt))
      shape_in (t.Parameter v) h = (h, (bounds v h, tt))
      shape_in (t.Use at arguments) h = (tt, tt)

      each_of : (P Q : Term → Type 0) → ((u : Term) → P u → Q u) → (us : List Term) → Each P us → Each Q us
      each_of P Q f [] h = tt
      each_of P Q f (u ∷ us) h = (f u h.0, each_of P Q f us h.1)

      mentions_in : (n : ℕ) (u : Term) → IsIn vs u → Mentions (head defs) vs n u
      unfolding Mentions head
      mentions_in zero u h = tt
      mentions_in (suc n) u h =
          let q = shape_in (unfolded defs.types u) (unfolded_in u h) in
          (q.0, each_of (IsIn vs) (Mentions (head defs) vs n) (λ v k. mentions_in n v k) (types_in (shape defs (unfolded defs.types u))) q.1)

      pub scoped_in : (u : Term) → IsIn vs u → MentionsOnly (head defs) vs u
      scoped_in u h = record { by = λ n. mentions_in n u h }

-- ---- no futures

abbrev NoFuture : Option Term → Type 0
NoFuture o = (a : Term) → o ≡ Some (t.Async a) → ⊥

no_future_cond : (b : Bool) (x y : Option Term) → NoFuture x → NoFuture y → NoFuture (cond b x y)
no_future_cond true x y h k = h
no_future_cond false x y h k = k

bottom_no_future : NoFuture (Some t.Bottom)
bottom_no_future a e = cc

found_no_future : (ps : List ℕ) (os : List (Option Term)) (v : ℕ) → Each NoFuture os → NoFuture (found_of ps os v)
found_no_future [] os v h = bottom_no_future
found_no_future (p ∷ ps) [] v h = bottom_no_future
found_no_future (p ∷ ps) (o ∷ os) v h = no_future_cond (nat_eq p v) o (found_of ps os v) h.0 (found_no_future ps os v h.1)

reached_no_future : (s : ℕ → Term) (find : ℕ → Option Term) → ((v : ℕ) → NoFuture (find v)) → (o : Option Term) → NoFuture o → NoFuture (at_reached s find o)
reached_no_future s find h None k a e = cc
reached_no_future s find h (Some (t.Number n)) k a e = cc
reached_no_future s find h (Some t.Boolean) k a e = cc
reached_no_future s find h (Some t.Character) k a e = cc
reached_no_future s find h (Some t.Text) k a e = cc
reached_no_future s find h (Some t.Blob) k a e = cc
reached_no_future s find h (Some t.Principal) k a e = cc
reached_no_future s find h (Some t.Error) k a e = cc
reached_no_future s find h (Some t.Null) k a e = cc
reached_no_future s find h (Some t.Any) k a e = cc
reached_no_future s find h (Some t.Bottom) k a e = cc
reached_no_future s find h (Some (t.Optional b)) k a e = cc
reached_no_future s find h (Some (t.Array b)) k a e = cc
reached_no_future s find h (Some (t.MutableArray b)) k a e = cc
reached_no_future s find h (Some (t.Tuple parts)) k a e = cc
reached_no_future s find h (Some (t.Object fields)) k a e = cc
reached_no_future s find h (Some (t.Actor methods)) k a e = cc
reached_no_future s find h (Some (t.Variant tags)) k a e = cc
reached_no_future s find h (Some (t.Function ps r)) k a e = cc
reached_no_future s find h (Some (t.Shared how ps r)) k a e = cc
reached_no_future s find h (Some (t.Async b)) k a e = k b refl
reached_no_future s find h (Some (t.Parameter v)) k a e = h v a e
reached_no_future s find h (Some (t.Use at arguments)) k a e = cc

module _ (defs : Definitions) where
  head_no_future : (o : Option Term) → NoFuture o → async_of (shape defs (or_bottom defs.types o)) ≡ None
  head_no_future None h = refl
  head_no_future (Some (t.Number n)) h = refl
  head_no_future (Some t.Boolean) h = refl
  head_no_future (Some t.Character) h = refl
  head_no_future (Some t.Text) h = refl
  head_no_future (Some t.Blob) h = refl
  head_no_future (Some t.Principal) h = refl
  head_no_future (Some t.Error) h = refl
  head_no_future (Some t.Null) h = refl
  head_no_future (Some t.Any) h = refl
  head_no_future (Some t.Bottom) h = refl
  head_no_future (Some (t.Optional a)) h = refl
  head_no_future (Some (t.Array a)) h = refl
  head_no_future (Some (t.MutableArray a)) h = refl
  head_no_future (Some (t.Tuple parts)) h = refl
  head_no_future (Some (t.Object fields)) h = refl
  head_no_future (Some (t.Actor methods)) h = refl
  head_no_future (Some (t.Variant tags)) h = refl
  head_no_future (Some (t.Function ps r)) h = refl
  head_no_future (Some (t.Shared how ps r)) h = refl
  head_no_future (Some (t.Async a)) h = absurd (h a refl)
  head_no_future (Some (t.Parameter v)) h = refl
  head_no_future (Some (t.Use at arguments)) h = refl

  pub no_future_at : (u : Term) → NoFuture (followed defs.types (reached defs.types) u) → async_of (head defs u) ≡ None
  unfolding head
  no_future_at u h = head_no_future (followed defs.types (reached defs.types) u) h

-- where definitions are followed by this
module _ (defs : Definitions) (below : ℕ → Option Term) where
  abbrev followed_ : Term → Option Term
  followed_ = followed defs.types below

  -- the use of a definition, whose arguments are no futures
  use_no_future : (at : ℕ) → NoFuture (below at) → (arguments : Terms) → Each NoFuture (each_followed defs.types below arguments) → NoFuture (followed_ (t.Use at arguments))
  use_no_future at future arguments h =
      let ps = parameters_of (definition_at defs.types at) in
      reached_no_future (argument_of ps arguments) (found_of ps (each_followed defs.types below arguments)) (λ v. found_no_future ps (each_followed defs.types below arguments) v h) (below at) future

  parameters_no_future : (vs : List ℕ) (rest : Terms) → Each NoFuture (each_followed defs.types below rest) → Each NoFuture (each_followed defs.types below (unlisted (map t.Parameter vs ++ listed rest)))
  parameters_no_future [] rest h = subst (λ us. Each NoFuture (each_followed defs.types below us)) (sym (back rest)) h where
    back : (us : Terms) → unlisted (listed us) ≡ us
    back t.Nil = refl
    back (t.Cons u us) = ap (λ l. t.Cons u l) (back us)
  parameters_no_future (v ∷ vs) rest h = ((λ a e. none a e), parameters_no_future vs rest h) where
    none : (a : Term) → Some (t.Parameter v) ≡ Some (t.Async a) → ⊥
    none a e = cc

  built_in_no_future : (o : Option BuiltInType) → NoFuture (followed_ (built_in_term o))
  built_in_no_future None a e = cc
  built_in_no_future (Some built_in.Nat) a e = cc
  built_in_no_future (Some built_in.Int) a e = cc
  built_in_no_future (Some built_in.Nat8) a e = cc
  built_in_no_future (Some built_in.Nat16) a e = cc
  built_in_no_future (Some built_in.Nat32) a e = cc
  built_in_no_future (Some built_in.Nat64) a e = cc
  built_in_no_future (Some built_in.Int8) a e = cc
  built_in_no_future (Some built_in.Int16) a e = cc
  built_in_no_future (Some built_in.Int32) a e = cc
  built_in_no_future (Some built_in.Int64) a e = cc
  built_in_no_future (Some built_in.Bool) a e = cc
  built_in_no_future (Some built_in.Char) a e = cc
  built_in_no_future (Some built_in.Text) a e = cc
  built_in_no_future (Some built_in.Blob) a e = cc
  built_in_no_future (Some built_in.Principal) a e = cc
  built_in_no_future (Some built_in.Null) a e = cc
  built_in_no_future (Some built_in.Any) a e = cc
  built_in_no_future (Some built_in.None) a e = cc
  built_in_no_future (Some built_in.Error) a e = cc

  module _ (met : List Term) (s : TypeScope) (futures : (x : Bytes) (at : ℕ) (outer : List ℕ) (own : ℕ) → type_named s x ≡ Some (IsDefinition at outer own) → NoFuture (below at)) where
    name_no_future : (x : Bytes) (o : Option TypeName) → type_named s x ≡ o → (arguments : Terms) → Each NoFuture (each_followed defs.types below arguments) → NoFuture (followed_ (use_term x o arguments))
    name_no_future x None e arguments h = built_in_no_future (named built_in_types x)
    name_no_future x (Some (IsParameter at)) e arguments h = λ a e. cc
    name_no_future x (Some (IsDefinition at outer own)) e arguments h = use_no_future at (futures x at outer own e) (unlisted (map t.Parameter outer ++ listed arguments)) (parameters_no_future outer arguments h)

    abbrev Written : TypeNode → Type 0
    Written a = NoFuture (followed_ (term s a))

    mutual
      -- a type that is as it has to be is none of a future
      pub proper_no_future : (a : TypeNode) → Yields defs met (Proper defs s a) (λ u. Written a)
      proper_no_future (p.node at (p.Function sharing.Local qs r)) = more defs met (Proper defs s (p.node at (p.Function sharing.Local qs r))) (λ u. Unit {0}) (λ u. Written (p.node at (p.Function sharing.Local qs r))) (anything defs met (Proper defs s (p.node at (p.Function sharing.Local qs r)))) (λ u z. λ a e. cc)
      proper_no_future (p.node at (p.Function sharing.Shared qs (p.node inner (p.Async r)))) = more defs met (Proper defs s (p.node at (p.Function sharing.Shared qs (p.node inner (p.Async r))))) (λ u. Unit {0}) (λ u. Written (p.node at (p.Function sharing.Shared qs (p.node inner (p.Async r))))) (anything defs met (Proper defs s (p.node at (p.Function sharing.Shared qs (p.node inner (p.Async r)))))) (λ u z. λ a e. cc)
      proper_no_future (p.node at (p.Function sharing.Shared qs (p.node inner (p.Function how qs' q)))) = tt
      proper_no_future (p.node at (p.Function sharing.Shared qs (p.node inner (p.Optional b)))) = tt
      proper_no_future (p.node at (p.Function sharing.Shared qs (p.node inner (p.Use x us)))) = tt
      proper_no_future (p.node at (p.Function sharing.Shared qs (p.node inner (p.Tuple us)))) = tt
      proper_no_future (p.node at (p.Function sharing.Shared qs (p.node inner (p.Array m b)))) = tt
      proper_no_future (p.node at (p.Function sharing.Shared qs (p.node inner (p.Object fs)))) = tt
      proper_no_future (p.node at (p.Function sharing.Shared qs (p.node inner (p.Variant fs)))) = tt
      proper_no_future (p.node at (p.Function sharing.Shared qs (p.node inner (p.Actor fs)))) = tt
      proper_no_future (p.node at (p.Function sharing.SharedQuery qs (p.node inner (p.Async r)))) = more defs met (Proper defs s (p.node at (p.Function sharing.SharedQuery qs (p.node inner (p.Async r))))) (λ u. Unit {0}) (λ u. Written (p.node at (p.Function sharing.SharedQuery qs (p.node inner (p.Async r))))) (anything defs met (Proper defs s (p.node at (p.Function sharing.SharedQuery qs (p.node inner (p.Async r)))))) (λ u z. λ a e. cc)
      proper_no_future (p.node at (p.Function sharing.SharedQuery qs (p.node inner (p.Function how qs' q)))) = tt
      proper_no_future (p.node at (p.Function sharing.SharedQuery qs (p.node inner (p.Optional b)))) = tt
      proper_no_future (p.node at (p.Function sharing.SharedQuery qs (p.node inner (p.Use x us)))) = tt
      proper_no_future (p.node at (p.Function sharing.SharedQuery qs (p.node inner (p.Tuple us)))) = tt
      proper_no_future (p.node at (p.Function sharing.SharedQuery qs (p.node inner (p.Array m b)))) = tt
      proper_no_future (p.node at (p.Function sharing.SharedQuery qs (p.node inner (p.Object fs)))) = tt
      proper_no_future (p.node at (p.Function sharing.SharedQuery qs (p.node inner (p.Variant fs)))) = tt
      proper_no_future (p.node at (p.Function sharing.SharedQuery qs (p.node inner (p.Actor fs)))) = tt
      proper_no_future (p.node at (p.Optional b)) = more defs met (Proper defs s (p.node at (p.Optional b))) (λ u. Unit {0}) (λ u. Written (p.node at (p.Optional b))) (anything defs met (Proper defs s (p.node at (p.Optional b)))) (λ u z. λ a e. cc)
      proper_no_future (p.node at (p.Async b)) = tt
      proper_no_future (p.node at (p.Use x us)) =
          tests defs met _ at _ _ (λ u. Written (p.node at (p.Use x us))) (λ e.
          more defs met (EachProper defs s us) (λ u. Each NoFuture (each_followed defs.types below (terms s us))) (λ u. Written (p.node at (p.Use x us))) (each_no_future us) (λ u h. name_no_future x (type_named s x) refl (terms s us) h))
      proper_no_future (p.node at (p.Tuple us)) = more defs met (Proper defs s (p.node at (p.Tuple us))) (λ u. Unit {0}) (λ u. Written (p.node at (p.Tuple us))) (anything defs met (Proper defs s (p.node at (p.Tuple us)))) (λ u z. λ a e. cc)
      proper_no_future (p.node at (p.Array false b)) = more defs met (Proper defs s (p.node at (p.Array false b))) (λ u. Unit {0}) (λ u. Written (p.node at (p.Array false b))) (anything defs met (Proper defs s (p.node at (p.Array false b)))) (λ u z. λ a e. cc)
      proper_no_future (p.node at (p.Array true b)) = more defs met (Proper defs s (p.node at (p.Array true b))) (λ u. Unit {0}) (λ u. Written (p.node at (p.Array true b))) (anything defs met (Proper defs s (p.node at (p.Array true b)))) (λ u z. λ a e. cc)
      proper_no_future (p.node at (p.Object fs)) = more defs met (Proper defs s (p.node at (p.Object fs))) (λ u. Unit {0}) (λ u. Written (p.node at (p.Object fs))) (anything defs met (Proper defs s (p.node at (p.Object fs)))) (λ u z. λ a e. cc)
      proper_no_future (p.node at (p.Variant fs)) = more defs met (Proper defs s (p.node at (p.Variant fs))) (λ u. Unit {0}) (λ u. Written (p.node at (p.Variant fs))) (anything defs met (Proper defs s (p.node at (p.Variant fs)))) (λ u z. λ a e. cc)
      proper_no_future (p.node at (p.Actor fs)) = more defs met (Proper defs s (p.node at (p.Actor fs))) (λ u. Unit {0}) (λ u. Written (p.node at (p.Actor fs))) (anything defs met (Proper defs s (p.node at (p.Actor fs)))) (λ u z. λ a e. cc)

      each_no_future : (us : TypeNodes) → Yields defs met (EachProper defs s us) (λ u. Each NoFuture (each_followed defs.types below (terms s us)))
      each_no_future p.Nil = tt
      each_no_future (p.Cons a rest) =
          after defs met (Proper defs s a) _ (λ u. Written a) (λ u. Each NoFuture (each_followed defs.types below (terms s (p.Cons a rest)))) (proper_no_future a) (λ u h.
          more defs met (EachProper defs s rest) (λ u. Each NoFuture (each_followed defs.types below (terms s rest))) (λ u. Each NoFuture (each_followed defs.types below (terms s (p.Cons a rest)))) (each_no_future rest) (λ v k. (h, k)))

-- ---- scopes

module _ (vs : List ℕ) (s : TypeScope) (names : (x : Bytes) (d : TypeName) → type_named s x ≡ Some d → IsNameIn vs d) where
  parameters_in : (outer : List ℕ) (rest : Terms) → Each (λ v. IsAmong v vs) outer → AreIn vs rest → AreIn vs (unlisted (map t.Parameter outer ++ listed rest))
  parameters_in [] rest h k = subst (λ us. AreIn vs us) (sym (back rest)) k where
    back : (us : Terms) → unlisted (listed us) ≡ us
    back t.Nil = refl
    back (t.Cons u us) = ap (λ l. t.Cons u l) (back us)
  parameters_in (v ∷ outer) rest h k = (h.0, parameters_in outer rest h.1 k)

  built_in_in : (o : Option BuiltInType) → IsIn vs (built_in_term o)
  built_in_in None = tt
  built_in_in (Some built_in.Nat) = tt
  built_in_in (Some built_in.Int) = tt
  built_in_in (Some built_in.Nat8) = tt
  built_in_in (Some built_in.Nat16) = tt
  built_in_in (Some built_in.Nat32) = tt
  built_in_in (Some built_in.Nat64) = tt
  built_in_in (Some built_in.Int8) = tt
  built_in_in (Some built_in.Int16) = tt
  built_in_in (Some built_in.Int32) = tt
  built_in_in (Some built_in.Int64) = tt
  built_in_in (Some built_in.Bool) = tt
  built_in_in (Some built_in.Char) = tt
  built_in_in (Some built_in.Text) = tt
  built_in_in (Some built_in.Blob) = tt
  built_in_in (Some built_in.Principal) = tt
  built_in_in (Some built_in.Null) = tt
  built_in_in (Some built_in.Any) = tt
  built_in_in (Some built_in.None) = tt
  built_in_in (Some built_in.Error) = tt

  name_in : (x : Bytes) (o : Option TypeName) → type_named s x ≡ o → (arguments : Terms) → AreIn vs arguments → IsIn vs (use_term x o arguments)
  name_in x None e arguments h = built_in_in (named built_in_types x)
  name_in x (Some (IsParameter at)) e arguments h = names x (IsParameter at) e
  name_in x (Some (IsDefinition at outer own)) e arguments h = parameters_in outer arguments (names x (IsDefinition at outer own) e) h

  mutual
    -- a type that is written there has its type parameters among these
    pub written_in : (a : TypeNode) → IsIn vs (term s a)
    written_in (p.node at (p.Function sharing.Local qs r)) = (each_written_in qs, written_in r)
    written_in (p.node at (p.Function sharing.Shared qs (p.node inner (p.Async r)))) = (each_written_in qs, written_in r)
    written_in (p.node at (p.Function sharing.Shared qs (p.node inner (p.Function how qs' q)))) = (each_written_in qs, written_in (p.node inner (p.Function how qs' q)))
    written_in (p.node at (p.Function sharing.Shared qs (p.node inner (p.Optional b)))) = (each_written_in qs, written_in (p.node inner (p.Optional b)))
    written_in (p.node at (p.Function sharing.Shared qs (p.node inner (p.Use x us)))) = (each_written_in qs, written_in (p.node inner (p.Use x us)))
    written_in (p.node at (p.Function sharing.Shared qs (p.node inner (p.Tuple us)))) = (each_written_in qs, written_in (p.node inner (p.Tuple us)))
    written_in (p.node at (p.Function sharing.Shared qs (p.node inner (p.Array m b)))) = (each_written_in qs, written_in (p.node inner (p.Array m b)))
    written_in (p.node at (p.Function sharing.Shared qs (p.node inner (p.Object fs)))) = (each_written_in qs, written_in (p.node inner (p.Object fs)))
    written_in (p.node at (p.Function sharing.Shared qs (p.node inner (p.Variant fs)))) = (each_written_in qs, written_in (p.node inner (p.Variant fs)))
    written_in (p.node at (p.Function sharing.Shared qs (p.node inner (p.Actor fs)))) = (each_written_in qs, written_in (p.node inner (p.Actor fs)))
    written_in (p.node at (p.Function sharing.SharedQuery qs (p.node inner (p.Async r)))) = (each_written_in qs, written_in r)
    written_in (p.node at (p.Function sharing.SharedQuery qs (p.node inner (p.Function how qs' q)))) = (each_written_in qs, written_in (p.node inner (p.Function how qs' q)))
    written_in (p.node at (p.Function sharing.SharedQuery qs (p.node inner (p.Optional b)))) = (each_written_in qs, written_in (p.node inner (p.Optional b)))
    written_in (p.node at (p.Function sharing.SharedQuery qs (p.node inner (p.Use x us)))) = (each_written_in qs, written_in (p.node inner (p.Use x us)))
    written_in (p.node at (p.Function sharing.SharedQuery qs (p.node inner (p.Tuple us)))) = (each_written_in qs, written_in (p.node inner (p.Tuple us)))
    written_in (p.node at (p.Function sharing.SharedQuery qs (p.node inner (p.Array m b)))) = (each_written_in qs, written_in (p.node inner (p.Array m b)))
    written_in (p.node at (p.Function sharing.SharedQuery qs (p.node inner (p.Object fs)))) = (each_written_in qs, written_in (p.node inner (p.Object fs)))
    written_in (p.node at (p.Function sharing.SharedQuery qs (p.node inner (p.Variant fs)))) = (each_written_in qs, written_in (p.node inner (p.Variant fs)))
    written_in (p.node at (p.Function sharing.SharedQuery qs (p.node inner (p.Actor fs)))) = (each_written_in qs, written_in (p.node inner (p.Actor fs)))
    written_in (p.node at (p.Optional b)) = written_in b
    written_in (p.node at (p.Async b)) = written_in b
    written_in (p.node at (p.Use x us)) = name_in x (type_named s x) refl (terms s us) (each_written_in us)
    written_in (p.node at (p.Tuple us)) = each_written_in us
    written_in (p.node at (p.Array false b)) = written_in b
    written_in (p.node at (p.Array true b)) = written_in b
    written_in (p.node at (p.Object fs)) = fields_written_in fs
    written_in (p.node at (p.Variant fs)) = fields_written_in fs
    written_in (p.node at (p.Actor fs)) = fields_written_in fs

    each_written_in : (us : TypeNodes) → AreIn vs (terms s us)
    each_written_in p.Nil = tt
    each_written_in (p.Cons a rest) = (written_in a, each_written_in rest)

    fields_written_in : (fs : TypeFields) → FieldsAreIn vs (field_terms s fs)
    fields_written_in p.NoFields = tt
    fields_written_in (p.Field mutable x a rest) = (written_in a, fields_written_in rest)
    fields_written_in (p.EmptyTag x rest) = (tt, fields_written_in rest)

-- more type parameters
pub name_more : (vs ws : List ℕ) → ((v : ℕ) → IsAmong v vs → IsAmong v ws) → (d : TypeName) → IsNameIn vs d → IsNameIn ws d
name_more vs ws sub (IsParameter at) h = sub at h
name_more vs ws sub (IsDefinition at outer own) h = each_more (λ v. IsAmong v vs) (λ v. IsAmong v ws) sub outer h

pub each_among_of : (vs : List ℕ) (P : ℕ → Type 0) → Each P vs → (v : ℕ) → IsAmong v vs → P v
each_among_of [] P h v m = absurd m
each_among_of (w ∷ vs) P h v (inl e) = subst P (sym e) h.0
each_among_of (w ∷ vs) P h v (inr m) = each_among_of vs P h.1 v m

module _ (defs : Definitions) (vs : List ℕ) (s : TypeScope) (scope : IsScopeFine defs vs s) where
  pub names_in : (x : Bytes) (d : TypeName) → type_named s x ≡ Some d → IsNameIn vs d
  names_in x d e = name_more s.parameters vs (each_among_of s.parameters (λ v. IsAmong v vs) scope.parameters) d (scope.names x d e)

  -- each type that is read there is one of values
  pub written_fine : AreBoundsIn vs defs → (met : List Term) → AreWrittenFine defs met vs s
  written_fine bounds met a =
      after defs met (Proper defs s a) _ (λ u. NoFuture (followed defs.types (reached defs.types) (term s a))) (IsKnown defs met vs)
      (proper_no_future defs (reached defs.types) met s (λ x at outer own e. scope.futures x at outer own e (suc (length defs.types))) a) (λ u h. λ m. record {
        there = m;
        fine = record { scoped = scoped_in vs defs bounds (term s a) (written_in vs s names_in a); no_future = no_future_at defs (term s a) h };
      })
