-- Types put in the place of type parameters: what a type unfolds to, and its head.
use Rattle.std.proofs.Common.{◌≡◌, ◌≢◌, ◌⊎◌, inl, inr, ℕ, Bool, true, false, List, [], ◌∷◌, length, map, Option, Some, None, refl, sym, ap, ap₂, ◌∙◌, subst}
use Rattle.std.specs.Prelude.{cond, nat_eq}
use Rattle.mo_types.specs.declared.node.Node.{Node}
use Rattle.mo_types.specs.declared.node.Node.TheVariants as node
use Rattle.mo_types.specs.declared.node.Sort.{Sort}
use Rattle.mo_types.specs.declared.node.Sort.TheVariants as sort
use Rattle.mo_types.specs.Heads.{variable_of}
use Rattle.mo_types.specs.Sub.{Each}
use Rattle.mo_subtype.specs.Renamed.{on_field, on_node}
use Rattle.typing_rules.specs.Definitions.{Definitions, definition_at, bound_at, at_reached, found_of, parameters_of, followed, each_followed, reached, or_bottom, unfolded}
use Rattle.typing_rules.specs.Heads.{results, shape, head}
use Rattle.typing_rules.specs.Terms.{Term, Terms, Fields, listed, listed_fields, put_in, each_put_in, fields_put_in, argument_of}
use Rattle.typing_rules.specs.Terms as t

cond_both : {A B : Type 0} (f : A → B) (b : Bool) (x y : A) → f (cond b x y) ≡ cond b (f x) (f y)
cond_both f true x y = refl
cond_both f false x y = refl

cond_same : {A : Type 0} (b : Bool) (x y z : A) → y ≡ z → cond b x y ≡ cond b x z
cond_same true x y z h = refl
cond_same false x y z h = h

-- the results of a shared function are no type parameters
abbrev pub HasPlainResults : Definitions → Node Term → Type 0
HasPlainResults defs (node.Func sort.Local ps rs) = Unit {0}
HasPlainResults defs (node.Func how ps rs) = Each (λ r. variable_of (head defs r) ≡ None) rs
HasPlainResults defs y = Unit {0}

-- another function has one result
abbrev pub HasOneResult : Node Term → Type 0
HasOneResult (node.Func sort.Local ps rs) = length rs ≡ 1
HasOneResult y = Unit {0}

module _ (s : ℕ → Term) where
  pub listed_put : (ts : Terms) → listed (each_put_in s ts) ≡ map (put_in s) (listed ts)
  listed_put t.Nil = refl
  listed_put (t.Cons u rest) = ap (λ l. put_in s u ∷ l) (listed_put rest)

  pub fields_put : (fs : Fields) → listed_fields (fields_put_in s fs) ≡ map (on_field (put_in s)) (listed_fields fs)
  fields_put t.NoFields = refl
  fields_put (t.WithField l mutable u rest) = ap (λ x. record { label = l; mutable = mutable; part = put_in s u } ∷ x) (fields_put rest)

  -- what is put in place of the parameters of a definition
  argument_put : (ps : List ℕ) (arguments : Terms) (v : ℕ) → put_in s (argument_of ps arguments v) ≡ argument_of ps (each_put_in s arguments) v
  argument_put [] arguments v = refl
  argument_put (p ∷ ps) t.Nil v = refl
  argument_put (p ∷ ps) (t.Cons u rest) v = cond_both (put_in s) (nat_eq p v) u (argument_of ps rest v) ∙ cond_same (nat_eq p v) (put_in s u) (put_in s (argument_of ps rest v)) (argument_of ps (each_put_in s rest) v) (argument_put ps rest v)

  module _ (ps : List ℕ) (arguments : Terms) where
    mutual
      put_put : (u : Term) → put_in s (put_in (argument_of ps arguments) u) ≡ put_in (argument_of ps (each_put_in s arguments)) u
      put_put (t.Number k) = refl
      put_put t.Boolean = refl
      put_put t.Character = refl
      put_put t.Text = refl
      put_put t.Blob = refl
      put_put t.Principal = refl
      put_put t.Error = refl
      put_put t.Null = refl
      put_put t.Any = refl
      put_put t.Bottom = refl
      put_put (t.Optional a) = ap (λ z. t.Optional z) (put_put a)
      put_put (t.Array a) = ap (λ z. t.Array z) (put_put a)
      put_put (t.MutableArray a) = ap (λ z. t.MutableArray z) (put_put a)
      put_put (t.Tuple parts) = ap (λ z. t.Tuple z) (put_put_each parts)
      put_put (t.Object fields) = ap (λ z. t.Object z) (put_put_fields fields)
      put_put (t.Actor methods) = ap (λ z. t.Actor z) (put_put_fields methods)
      put_put (t.Variant tags) = ap (λ z. t.Variant z) (put_put_fields tags)
      put_put (t.Function qs r) = ap₂ (λ x y. t.Function x y) (put_put_each qs) (put_put r)
      put_put (t.Shared how qs r) = ap₂ (λ x y. t.Shared how x y) (put_put_each qs) (put_put r)
      put_put (t.Async a) = ap (λ z. t.Async z) (put_put a)
      put_put (t.Parameter v) = argument_put ps arguments v
      put_put (t.Use at us) = ap (λ z. t.Use at z) (put_put_each us)

      put_put_each : (us : Terms) → each_put_in s (each_put_in (argument_of ps arguments) us) ≡ each_put_in (argument_of ps (each_put_in s arguments)) us
      put_put_each t.Nil = refl
      put_put_each (t.Cons u rest) = ap₂ (λ x y. t.Cons x y) (put_put u) (put_put_each rest)

      put_put_fields : (fs : Fields) → fields_put_in s (fields_put_in (argument_of ps arguments) fs) ≡ fields_put_in (argument_of ps (each_put_in s arguments)) fs
      put_put_fields t.NoFields = refl
      put_put_fields (t.WithField l mutable u rest) = ap₂ (λ x y. t.WithField l mutable x y) (put_put u) (put_put_fields rest)

  module _ (defs : Definitions) where
    abbrev follow : Term → Option Term
    follow = followed defs.types (reached defs.types)

    -- what a type unfolds to, where that is put in
    abbrev pub put_followed : Option Term → Option Term
    put_followed None = None
    put_followed (Some (t.Parameter v)) = follow (s v)
    put_followed (Some u) = Some (put_in s u)

    found_put : (ps : List ℕ) (os : List (Option Term)) (v : ℕ) → found_of ps (map put_followed os) v ≡ put_followed (found_of ps os v)
    found_put [] os v = refl
    found_put (p ∷ ps) [] v = refl
    found_put (p ∷ ps) (o ∷ os) v = cond_same (nat_eq p v) (put_followed o) (found_of ps (map put_followed os) v) (put_followed (found_of ps os v)) (found_put ps os v) ∙ sym (cond_both put_followed (nat_eq p v) o (found_of ps os v))

    -- by what the definition stands for
    reached_put : (ps : List ℕ) (arguments : Terms) (os : List (Option Term)) (o : Option Term)
        → at_reached (argument_of ps (each_put_in s arguments)) (found_of ps (map put_followed os)) o ≡ put_followed (at_reached (argument_of ps arguments) (found_of ps os) o)
    reached_put ps arguments os None = refl
    reached_put ps arguments os (Some (t.Number k)) = ap (λ z. Some z) (sym (put_put ps arguments (t.Number k)))
    reached_put ps arguments os (Some t.Boolean) = refl
    reached_put ps arguments os (Some t.Character) = refl
    reached_put ps arguments os (Some t.Text) = refl
    reached_put ps arguments os (Some t.Blob) = refl
    reached_put ps arguments os (Some t.Principal) = refl
    reached_put ps arguments os (Some t.Error) = refl
    reached_put ps arguments os (Some t.Null) = refl
    reached_put ps arguments os (Some t.Any) = refl
    reached_put ps arguments os (Some t.Bottom) = refl
    reached_put ps arguments os (Some (t.Optional a)) = ap (λ z. Some z) (sym (put_put ps arguments (t.Optional a)))
    reached_put ps arguments os (Some (t.Array a)) = ap (λ z. Some z) (sym (put_put ps arguments (t.Array a)))
    reached_put ps arguments os (Some (t.MutableArray a)) = ap (λ z. Some z) (sym (put_put ps arguments (t.MutableArray a)))
    reached_put ps arguments os (Some (t.Tuple parts)) = ap (λ z. Some z) (sym (put_put ps arguments (t.Tuple parts)))
    reached_put ps arguments os (Some (t.Object fields)) = ap (λ z. Some z) (sym (put_put ps arguments (t.Object fields)))
    reached_put ps arguments os (Some (t.Actor methods)) = ap (λ z. Some z) (sym (put_put ps arguments (t.Actor methods)))
    reached_put ps arguments os (Some (t.Variant tags)) = ap (λ z. Some z) (sym (put_put ps arguments (t.Variant tags)))
    reached_put ps arguments os (Some (t.Function qs r)) = ap (λ z. Some z) (sym (put_put ps arguments (t.Function qs r)))
    reached_put ps arguments os (Some (t.Shared how qs r)) = ap (λ z. Some z) (sym (put_put ps arguments (t.Shared how qs r)))
    reached_put ps arguments os (Some (t.Async a)) = ap (λ z. Some z) (sym (put_put ps arguments (t.Async a)))
    reached_put ps arguments os (Some (t.Parameter v)) = found_put ps os v
    reached_put ps arguments os (Some (t.Use at us)) = ap (λ z. Some z) (sym (put_put ps arguments (t.Use at us)))

    mutual
      pub follow_put : (u : Term) → follow (put_in s u) ≡ put_followed (follow u)
      follow_put (t.Number k) = refl
      follow_put t.Boolean = refl
      follow_put t.Character = refl
      follow_put t.Text = refl
      follow_put t.Blob = refl
      follow_put t.Principal = refl
      follow_put t.Error = refl
      follow_put t.Null = refl
      follow_put t.Any = refl
      follow_put t.Bottom = refl
      follow_put (t.Optional a) = refl
      follow_put (t.Array a) = refl
      follow_put (t.MutableArray a) = refl
      follow_put (t.Tuple parts) = refl
      follow_put (t.Object fields) = refl
      follow_put (t.Actor methods) = refl
      follow_put (t.Variant tags) = refl
      follow_put (t.Function ps r) = refl
      follow_put (t.Shared sort ps r) = refl
      follow_put (t.Async a) = refl
      follow_put (t.Parameter v) = refl
      follow_put (t.Use at arguments) =
          let ps = parameters_of (definition_at defs.types at) in
          ap (λ os. at_reached (argument_of ps (each_put_in s arguments)) (found_of ps os) (reached defs.types at)) (each_follow_put arguments)
          ∙ reached_put ps arguments (each_followed defs.types (reached defs.types) arguments) (reached defs.types at)

      each_follow_put : (us : Terms) → each_followed defs.types (reached defs.types) (each_put_in s us) ≡ map put_followed (each_followed defs.types (reached defs.types) us)
      each_follow_put t.Nil = refl
      each_follow_put (t.Cons u rest) = ap₂ (λ x y. x ∷ y) (follow_put u) (each_follow_put rest)

    -- ---- heads

    -- a result is no type parameter in whose place a tuple stands
    abbrev IsPlainResult : Term → Type 0
    IsPlainResult r = (v : ℕ) → follow r ≡ Some (t.Parameter v) → (parts : Terms) → follow (s v) ≡ Some (t.Tuple parts) → ⊥

    results_put : (r : Term) → IsPlainResult r → results (put_in s r) (unfolded defs.types (put_in s r)) ≡ map (put_in s) (results r (unfolded defs.types r))
    results_put r plain = ap (λ o. results (put_in s r) (or_bottom defs.types o)) (follow_put r) ∙ by (follow r) refl where
      other : (v : ℕ) → follow r ≡ Some (t.Parameter v) → (o : Option Term) → follow (s v) ≡ o → results (put_in s r) (or_bottom defs.types o) ≡ put_in s r ∷ []
      other v e None h = refl
      other v e (Some (t.Number k)) h = refl
      other v e (Some t.Boolean) h = refl
      other v e (Some t.Character) h = refl
      other v e (Some t.Text) h = refl
      other v e (Some t.Blob) h = refl
      other v e (Some t.Principal) h = refl
      other v e (Some t.Error) h = refl
      other v e (Some t.Null) h = refl
      other v e (Some t.Any) h = refl
      other v e (Some t.Bottom) h = refl
      other v e (Some (t.Optional a)) h = refl
      other v e (Some (t.Array a)) h = refl
      other v e (Some (t.MutableArray a)) h = refl
      other v e (Some (t.Tuple parts)) h = absurd (plain v e parts h)
      other v e (Some (t.Object fields)) h = refl
      other v e (Some (t.Actor methods)) h = refl
      other v e (Some (t.Variant tags)) h = refl
      other v e (Some (t.Function qs r)) h = refl
      other v e (Some (t.Shared how qs r)) h = refl
      other v e (Some (t.Async a)) h = refl
      other v e (Some (t.Parameter w)) h = refl
      other v e (Some (t.Use at us)) h = refl

      by : (o : Option Term) → follow r ≡ o → results (put_in s r) (or_bottom defs.types (put_followed o)) ≡ map (put_in s) (results r (or_bottom defs.types o))
      by None e = refl
      by (Some (t.Number k)) e = refl
      by (Some t.Boolean) e = refl
      by (Some t.Character) e = refl
      by (Some t.Text) e = refl
      by (Some t.Blob) e = refl
      by (Some t.Principal) e = refl
      by (Some t.Error) e = refl
      by (Some t.Null) e = refl
      by (Some t.Any) e = refl
      by (Some t.Bottom) e = refl
      by (Some (t.Optional a)) e = refl
      by (Some (t.Array a)) e = refl
      by (Some (t.MutableArray a)) e = refl
      by (Some (t.Tuple parts)) e = listed_put parts
      by (Some (t.Object fields)) e = refl
      by (Some (t.Actor methods)) e = refl
      by (Some (t.Variant tags)) e = refl
      by (Some (t.Function qs q)) e = refl
      by (Some (t.Shared how qs q)) e = refl
      by (Some (t.Async a)) e = refl
      by (Some (t.Parameter v)) e = other v e (follow (s v)) refl
      by (Some (t.Use at us)) e = refl

    -- a type parameter, with what is put in its place
    abbrev pub IsParameterOf : Node Term → Node Term → Type 0
    IsParameterOf y z = (v : ℕ) × (y ≡ node.Variable v (bound_at defs.parameters v)) × (z ≡ head defs (s v))

    -- no type parameter, with types put in its parts
    abbrev pub IsFormOf : Node Term → Node Term → Type 0
    IsFormOf y z = (variable_of y ≡ None) × (z ≡ on_node (put_in s) y)

    some_none : (v : ℕ) → Some v ≡ None → ⊥
    some_none v e = cc

    no_single : (v : ℕ) → ((ts : List Term) → head defs (s v) ≡ node.Tuple ts → length ts ≢ 1) → (parts : Terms) → follow (s v) ≡ Some (t.Tuple parts) → length (listed parts) ≡ 1 → ⊥
    unfolding head
    no_single v single parts e h = single (listed parts) (ap (λ o. shape defs (or_bottom defs.types o)) e) h

    module _ (single : (v : ℕ) (ts : List Term) → head defs (s v) ≡ node.Tuple ts → length ts ≢ 1) where
      shared_put : (how : Sort) (qs : Terms) (r : Term) → HasPlainResults defs (shape defs (t.Shared how qs r)) → HasOneResult (shape defs (t.Shared how (each_put_in s qs) (put_in s r)))
          → shape defs (t.Shared how (each_put_in s qs) (put_in s r)) ≡ on_node (put_in s) (shape defs (t.Shared how qs r))
      unfolding head
      shared_put sort.Local qs r plain one =
          ap₂ (λ x y. node.Func sort.Local x y) (listed_put qs) (results_put r (λ v e parts h.
          no_single v (single v) parts h (subst (λ (o : Option Term). length (results (put_in s r) (or_bottom defs.types o)) ≡ 1) (follow_put r ∙ (ap put_followed e ∙ h)) one)))
      shared_put sort.Shared qs r plain one = ap₂ (λ x y. node.Func sort.Shared x y) (listed_put qs) (results_put r (λ v e parts h. no_parameter v e plain)) where
        no_parameter : (v : ℕ) → follow r ≡ Some (t.Parameter v) → Each (λ u. variable_of (head defs u) ≡ None) (results r (unfolded defs.types r)) → ⊥
        no_parameter v e p =
            let q : Each (λ u. variable_of (head defs u) ≡ None) (r ∷ []) = subst (λ (o : Option Term). Each (λ u. variable_of (head defs u) ≡ None) (results r (or_bottom defs.types o))) e p in
            some_none v (sym (ap (λ o. variable_of (shape defs (or_bottom defs.types o))) e) ∙ q.0)
      shared_put sort.Query qs r plain one = ap₂ (λ x y. node.Func sort.Query x y) (listed_put qs) (results_put r (λ v e parts h. no_parameter v e plain)) where
        no_parameter : (v : ℕ) → follow r ≡ Some (t.Parameter v) → Each (λ u. variable_of (head defs u) ≡ None) (results r (unfolded defs.types r)) → ⊥
        no_parameter v e p =
            let q : Each (λ u. variable_of (head defs u) ≡ None) (r ∷ []) = subst (λ (o : Option Term). Each (λ u. variable_of (head defs u) ≡ None) (results r (or_bottom defs.types o))) e p in
            some_none v (sym (ap (λ o. variable_of (shape defs (or_bottom defs.types o))) e) ∙ q.0)

      -- the head of a type with types put in
      pub put_head : (u : Term) → HasPlainResults defs (head defs u) → HasOneResult (head defs (put_in s u)) → IsParameterOf (head defs u) (head defs (put_in s u)) ⊎ IsFormOf (head defs u) (head defs (put_in s u))
      unfolding head
      put_head u plain one =
          subst (λ o. IsParameterOf (shape defs (unfolded defs.types u)) (shape defs (or_bottom defs.types o)) ⊎ IsFormOf (shape defs (unfolded defs.types u)) (shape defs (or_bottom defs.types o))) (sym (follow_put u))
          (by (follow u) plain (subst (λ o. HasOneResult (shape defs (or_bottom defs.types o))) (follow_put u) one))
        where
          by : (o : Option Term) → HasPlainResults defs (shape defs (or_bottom defs.types o)) → HasOneResult (shape defs (or_bottom defs.types (put_followed o)))
              → IsParameterOf (shape defs (or_bottom defs.types o)) (shape defs (or_bottom defs.types (put_followed o))) ⊎ IsFormOf (shape defs (or_bottom defs.types o)) (shape defs (or_bottom defs.types (put_followed o)))
          by None p q = inr (refl, refl)
          by (Some (t.Number k)) p q = inr (refl, refl)
          by (Some t.Boolean) p q = inr (refl, refl)
          by (Some t.Character) p q = inr (refl, refl)
          by (Some t.Text) p q = inr (refl, refl)
          by (Some t.Blob) p q = inr (refl, refl)
          by (Some t.Principal) p q = inr (refl, refl)
          by (Some t.Error) p q = inr (refl, refl)
          by (Some t.Null) p q = inr (refl, refl)
          by (Some t.Any) p q = inr (refl, refl)
          by (Some t.Bottom) p q = inr (refl, refl)
          by (Some (t.Optional a)) p q = inr (refl, refl)
          by (Some (t.Array a)) p q = inr (refl, refl)
          by (Some (t.MutableArray a)) p q = inr (refl, refl)
          by (Some (t.Tuple parts)) p q = inr (refl, ap (λ l. node.Tuple l) (listed_put parts))
          by (Some (t.Object fields)) p q = inr (refl, ap (λ l. node.Object l) (fields_put fields))
          by (Some (t.Actor methods)) p q = inr (refl, ap (λ l. node.Actor l) (fields_put methods))
          by (Some (t.Variant tags)) p q = inr (refl, ap (λ l. node.Variant l) (fields_put tags))
          by (Some (t.Function qs r)) p q = inr (refl, ap (λ l. node.Func sort.Local l (put_in s r ∷ [])) (listed_put qs))
          by (Some (t.Shared how qs r)) p q = inr (refl, shared_put how qs r p q)
          by (Some (t.Async a)) p q = inr (refl, refl)
          by (Some (t.Parameter v)) p q = inl (v, refl, refl)
          by (Some (t.Use at us)) p q = inr (refl, refl)
