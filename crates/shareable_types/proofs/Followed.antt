-- Where it is so of a type by what is needed, it is so of what it stands for.
use Rattle.std.proofs.Common.{◌≡◌, ℕ, zero, suc, ◌+◌, ◌-◌, ◌≤◌, Bool, true, false, ◌&&◌, List, [], ◌∷◌, length, Option, Some, None, cond, nat_eq, refl, sym, ap, ◌∙◌, subst, arith}
use Rattle.mo_types.specs.declared.node.Node.{Node}
use Rattle.mo_types.specs.declared.node.Node.TheVariants as node
use Rattle.mo_types.specs.declared.node.Sort.{Sort}
use Rattle.mo_types.specs.declared.node.Sort.TheVariants as sort
use Rattle.mo_types.specs.Sub.{Each}
use Rattle.typed_tree.specs.Instances.{field_types}
use Rattle.typed_tree.specs.Shareable.{PartsShareable}
use Rattle.type_terms.specs.declared.form.Form.{Form}
use Rattle.typing_rules.specs.Terms.{Term, Terms, Fields, listed, listed_fields, put_in, argument_of}
use Rattle.typing_rules.specs.Terms as t
use Rattle.typing_rules.specs.Definitions as rule
use Rattle.typing_rules.specs.Definitions.{Definitions, definition_at, at_reached, found_of, parameters_of, followed, each_followed, followed_right, reaches, reached, or_bottom, unfolded}
use Rattle.typing_rules.specs.Heads.{head, shape}
use Rattle.type_definitions.specs.declared.definitions.Definition.{Definition}
use Rattle.type_definitions.specs.Meanings.{term}
use Rattle.type_definitions.specs.Definitions.{Listed, definition_of, types_in, rules_in}
use Rattle.type_definitions.proofs.Following.{reaches_on}
use Rattle.type_definitions.proofs.Unfolded.{some_rule, no_rule}
use Rattle.shareable_types.specs.declared.needs.Needs.{Needs}
use Rattle.shareable_types.specs.Sharing.{every, allowed, of_argument, all_constant, is_sent, each_shares, fields_share}
use Rattle.shareable_types.specs.Settled.{needed_at, parameters_at, shares_by, IsSent, Suits, Fixed}
use Rattle.shareable_types.proofs.Own.{parameters_are}
use Rattle.shareable_types.proofs.Questions.{Fits, fits, so}
use Rattle.shareable_types.proofs.Substituted.{argument_is, put}

some_same : {A : Type 0} (x y : A) → Some x ≡ Some y → x ≡ y
some_same x y h = cc

module _ (any : Bool) (l : Listed) (ns : List Needs) (later : List Form) (fixed : Fixed any l ns later) where
  abbrev types : List rule.Definition
  types = types_in later l

  abbrev parameters : ℕ → List ℕ
  parameters at = parameters_at any l ns at

  abbrev needed : ℕ → Needs
  needed at = needed_at l.names ns at

  abbrev Share : (ℕ → Bool) → Term → Bool
  Share x u = shares_by any l ns x u

  abbrev each : (ℕ → Bool) → Terms → List Bool
  each x us = each_shares any parameters needed x us

  -- what is needed of a definition suffices for what it leads to
  abbrev Suffices : (ℕ → Option Term) → Type 0
  Suffices below = (at : ℕ) (u : Term) → below at ≡ Some u → (x : ℕ → Bool) → allowed x (needed at) ≡ true → Share x u ≡ true

  module _ (below : ℕ → Option Term) (suffices : Suffices below) where
    -- what a use leads to, where this is what its definition leads to
    at_use : (at : ℕ) (us : Terms) (u : Term) (x : ℕ → Bool) (f : ℕ → Option Term) → ((p : ℕ) → f p ≡ Some u → of_argument (parameters at) (each x us) p ≡ true → Share x u ≡ true) → (o : Option Term) → below at ≡ o
        → at_reached (argument_of (parameters at) us) f o ≡ Some u → Share x (t.Use at us) ≡ true → Share x u ≡ true
    at_use at us u x f k None b h e = cc
    at_use at us u x f k (Some (t.Parameter p)) b h e = k p h (suffices at (t.Parameter p) b (of_argument (parameters at) (each x us)) e)
    at_use at us u x f k (Some (t.Number n)) b h e = right at us u x (t.Number n) b h e where
      right : (at : ℕ) (us : Terms) (u : Term) (x : ℕ → Bool) (v : Term) → below at ≡ Some v → Some (put_in (argument_of (parameters at) us) v) ≡ Some u → Share x (t.Use at us) ≡ true → Share x u ≡ true
      right at us u x v b h e =
          ap (Share x) (sym (some_same (put_in (argument_of (parameters at) us) v) u h))
          ∙ (put any parameters needed (argument_of (parameters at) us) x (of_argument (parameters at) (each x us)) (λ q. sym (argument_is any parameters needed x (parameters at) us q)) v
          ∙ suffices at v b (of_argument (parameters at) (each x us)) e)
    at_use at us u x f k (Some v) b h e =
        ap (Share x) (sym (some_same (put_in (argument_of (parameters at) us) v) u h))
        ∙ (put any parameters needed (argument_of (parameters at) us) x (of_argument (parameters at) (each x us)) (λ q. sym (argument_is any parameters needed x (parameters at) us q)) v
        ∙ suffices at v b (of_argument (parameters at) (each x us)) e)

    same_parameters : (at : ℕ) → parameters_of (definition_at types at) ≡ parameters at
    same_parameters at = parameters_are (term later) l at

    picked : (c : Bool) (a b : Option Term) (p q : Bool) (u : Term) (x : ℕ → Bool) → cond c a b ≡ Some u → cond c p q ≡ true → (a ≡ Some u → p ≡ true → Share x u ≡ true) → (b ≡ Some u → q ≡ true → Share x u ≡ true) → Share x u ≡ true
    picked true a b p q u x h e f g = f h e
    picked false a b p q u x h e f g = g h e

    mutual
      pub follows : (v u : Term) (x : ℕ → Bool) → followed types below v ≡ Some u → Share x v ≡ true → Share x u ≡ true
      follows (t.Use at us) u x h e =
          at_use at us u x (found_of (parameters at) (each_followed types below us)) (argument_follows (parameters at) us u x) (below at) refl
          (subst (λ qs. at_reached (argument_of qs us) (found_of qs (each_followed types below us)) (below at) ≡ Some u) (same_parameters at) h) e
      follows (t.Number n) u x h e = ap (Share x) (sym (some_same (t.Number n) u h)) ∙ e
      follows v u x h e = ap (Share x) (sym (some_same v u h)) ∙ e

      argument_follows : (qs : List ℕ) (us : Terms) (u : Term) (x : ℕ → Bool) (p : ℕ) → found_of qs (each_followed types below us) p ≡ Some u → of_argument qs (each x us) p ≡ true → Share x u ≡ true
      argument_follows [] us u x p h e = ap (Share x) (sym (some_same t.Bottom u h))
      argument_follows (q ∷ qs) t.Nil u x p h e = ap (Share x) (sym (some_same t.Bottom u h))
      argument_follows (q ∷ qs) (t.Cons v us) u x p h e =
          picked (nat_eq q p) (followed types below v) (found_of qs (each_followed types below us) p) (Share x v) (of_argument qs (each x us) p) u x h e (follows v u x) (argument_follows qs us u x p)

  reaches_more : (n k at : ℕ) (u : Term) → reaches types n at ≡ Some u → reaches types (k + n) at ≡ Some u
  reaches_more n zero at u h = let e : 0 + n ≡ n = omega arith in subst (λ m. reaches types m at ≡ Some u) (sym e) h
  reaches_more n (suc k) at u h = let e : suc (k + n) ≡ suc k + n = omega arith in subst (λ m. reaches types m at ≡ Some u) e (reaches_on types (k + n) at u (reaches_more n k at u h))

  reached_by : (n at : ℕ) (u : Term) → n ≤ suc (length types) → reaches types n at ≡ Some u → reached types at ≡ Some u
  reached_by n at u b h =
      let e : (suc (length types) - n) + n ≡ suc (length types) = omega arith in
      subst (λ m. reaches types m at ≡ Some u) e (reaches_more n (suc (length types) - n) at u h)

  -- of a definition that is there
  by_right : (below : ℕ → Option Term) → Suffices below → (at : ℕ) (u : Term) → reached types at ≡ Some u → (d : Option Definition) → definition_of l at ≡ d → followed_right types below (definition_at types at) ≡ Some u
      → (x : ℕ → Bool) → allowed x (needed at) ≡ true → Share x u ≡ true
  by_right below suffices at u r None d h x e = let n : followed_right types below (definition_at types at) ≡ None = ap (followed_right types below) (no_rule l later at d) in let f : None ≡ Some u = sym n ∙ h in cc
  by_right below suffices at u r (Some d) k h x e =
      let q = some_rule l later at d k in
      let f : followed types below (term later d.right) ≡ Some u = ap (followed types below) (sym q.3) ∙ (ap (followed_right types below) (sym q.1) ∙ h) in
      suits u (fixed at d u k r x e) f
    where
      suits : (u : Term) → Suits any l ns later x d u → followed types below (term later d.right) ≡ Some u → Share x u ≡ true
      suits (t.Parameter p) s f = s
      suits (t.Number n) s f = follows below suffices (term later d.right) (t.Number n) x f s
      suits u s f = follows below suffices (term later d.right) u x f s

  within : (n : ℕ) → n ≤ suc (length types) → Suffices (reaches types n)
  within zero b at u h x e = cc
  within (suc n) b at u h x e = by_right (reaches types n) (within n (omega arith)) at u (reached_by (suc n) at u b h) (definition_of l at) refl h x e

  -- ---- heads

  abbrev none : ℕ → Bool
  none p = false

  abbrev defs : Definitions
  defs = rules_in later l

  abbrev So : Term → Type 0
  So u = Share none u ≡ true

  both : (b c : Bool) → (b && c) ≡ true → (b ≡ true) × (c ≡ true)
  both true c e = (refl, e)
  both false c e = cc

  each_so : (us : Terms) → every (each none us) ≡ true → Each So (listed us)
  each_so t.Nil e = tt
  each_so (t.Cons u us) e = let q = both (Share none u) (every (each none us)) e in (q.0, each_so us q.1)

  fields_so : (fs : Fields) → every (fields_share any parameters needed none fs) ≡ true → Each So (field_types (listed_fields fs))
  fields_so t.NoFields e = tt
  fields_so (t.WithField n m u fs) e = let q = both (Share none u) (every (fields_share any parameters needed none fs)) e in (q.0, fields_so fs q.1)

  constant : (fs : Fields) → all_constant fs ≡ true → Each (λ f. f.mutable ≡ false) (listed_fields fs)
  constant t.NoFields e = tt
  constant (t.WithField n true u fs) e = cc
  constant (t.WithField n false u fs) e = (refl, constant fs e)

  sent : (s : Sort) → is_sent s ≡ true → s ≡ sort.Local → ⊥
  sent sort.Local e k = cc
  sent sort.Shared e k = cc
  sent sort.Query e k = cc

  any_fits : (a : Bool) → a ≡ true → Fits {A = Term} a node.Any
  any_fits true e = tt
  any_fits false e = cc

  abbrev Good : Node Term → Type 0
  Good y = Fits any y × PartsShareable So y

  shapes : (u : Term) → So u → Good (shape defs u)
  shapes (t.Number k) e = (fits any (node.Number k) tt refl, tt)
  shapes t.Boolean e = (fits any node.Bool tt refl, tt)
  shapes t.Character e = (fits any node.Char tt refl, tt)
  shapes t.Text e = (fits any node.Text tt refl, tt)
  shapes t.Blob e = (fits any node.Blob tt refl, tt)
  shapes t.Principal e = (fits any node.Principal tt refl, tt)
  shapes t.Error e = cc
  shapes t.Null e = (fits any node.Null tt refl, tt)
  shapes t.Any e = (any_fits any e, tt)
  shapes t.Bottom e = (fits any node.Bottom tt refl, tt)
  shapes (t.Optional a) e = (fits any (node.Opt a) tt refl, (e, tt))
  shapes (t.Array a) e = (fits any (node.Array a) tt refl, (e, tt))
  shapes (t.MutableArray a) e = cc
  shapes (t.Tuple us) e = (fits any (node.Tuple (listed us)) tt refl, each_so us e)
  shapes (t.Object fs) e =
      let q = both (all_constant fs) (every (fields_share any parameters needed none fs)) e in
      (fits any (node.Object (listed_fields fs)) (constant fs q.0) refl, fields_so fs q.1)
  shapes (t.Actor fs) e = (fits any (node.Actor (listed_fields fs)) tt refl, tt)
  shapes (t.Variant fs) e = (fits any (node.Variant (listed_fields fs)) tt refl, fields_so fs e)
  shapes (t.Function us r) e = cc
  shapes (t.Shared o us r) e = (fits any (shape defs (t.Shared o us r)) (sent o e) refl, tt)
  shapes (t.Async a) e = cc
  shapes (t.Parameter p) e = cc
  shapes (t.Use at us) e = (fits any node.Bottom tt refl, tt)

  leads : (u : Term) (o : Option Term) → followed types (reached types) u ≡ o → So u → Good (shape defs (or_bottom types o))
  leads u None h e = (fits any node.Bottom tt refl, tt)
  leads u (Some v) h e = shapes v (follows (reached types) (within (suc (length types)) (omega arith)) u v none h e)

  heads : (u : Term) → So u → Good (head defs u)
  unfolding head
  heads u e = leads u (followed types (reached types) u) refl e

  -- It is so of a type of which it is so by what is needed.
  pub is_so : (u : Term) → Share none u ≡ true → IsSent any l ns later u
  is_so u e = so any (head defs) So heads u e
