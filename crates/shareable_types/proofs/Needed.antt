-- Where it is not so of a type by what is needed, it is not so of it.
use Rattle.std.proofs.Common.{◌≡◌, ℕ, Bool, true, false, ◌&&◌, not, List, [], ◌∷◌, cond, nat_eq, refl, sym, ap, ◌∙◌, subst}
use Rattle.mo_types.specs.declared.node.Node.TheVariants as node
use Rattle.mo_types.specs.declared.node.Sort.{Sort}
use Rattle.mo_types.specs.declared.node.Sort.TheVariants as sort
use Rattle.mo_types.specs.Sub.{Each}
use Rattle.typed_tree.specs.Instances.{field_types}
use Rattle.type_terms.specs.declared.form.Form.{Form}
use Rattle.typing_rules.specs.Terms.{Term, Terms, Fields, listed, listed_fields, put_in, each_put_in, fields_put_in, argument_of}
use Rattle.typing_rules.specs.Terms as t
use Rattle.typing_rules.specs.Heads.{head}
use Rattle.typing_rules.specs.Definitions.{Definitions}
use Rattle.type_definitions.specs.Definitions.{Listed, rules_in}
use Rattle.type_definitions.proofs.Putting.{argument_put}
use Rattle.shareable_types.specs.declared.needs.Needs.{Needs}
use Rattle.shareable_types.specs.Sharing.{every, all, of_argument, all_constant, is_sent, each_shares, fields_share}
use Rattle.shareable_types.specs.Settled.{needed_at, parameters_at, shares_by, IsSent, Valid}
use Rattle.shareable_types.proofs.Questions.{Fits, form_of, form_fits, parts_so}

any_fits : (any : Bool) → any ≡ false → Fits {A = Term} any node.Any → ⊥
any_fits true e h = cc
any_fits false e h = cc

search : (Q : ℕ → Type 0) (y : ℕ → Bool) (ps : List ℕ) → all y ps ≡ false → Each Q ps → (p : ℕ) × (y p ≡ false) × Q p
search Q y [] e h = cc
search Q y (p ∷ ps) e h = by (y p) refl e (λ f. search Q y ps f h.1) where
  by : (b : Bool) → y p ≡ b → (b && all y ps) ≡ false → (all y ps ≡ false → (q : ℕ) × (y q ≡ false) × Q q) → (q : ℕ) × (y q ≡ false) × Q q
  by true k f g = g f
  by false k f g = (p, k, h.0)

is_local : (s : Sort) → is_sent s ≡ false → s ≡ sort.Local
is_local sort.Local e = refl
is_local sort.Shared e = cc
is_local sort.Query e = cc

module _ (any : Bool) (l : Listed) (ns : List Needs) (later : List Form) (valid : Valid any l ns later) (s : ℕ → Term) (x : ℕ → Bool) where
  abbrev So : Term → Type 0
  So u = IsSent any l ns later u

  abbrev Share : Term → Bool
  Share u = shares_by any l ns x u

  -- a parameter of which it is not so, though it is so of what is put in its place
  abbrev pub Culprit : Type 0
  Culprit = (p : ℕ) × (x p ≡ false) × So (s p)

  abbrev defs : Definitions
  defs = rules_in later l

  form : (u : Term) → So u → Fits any (head defs u)
  form u h = form_fits any (head defs) u h

  constant : (fs : Fields) → all_constant fs ≡ false → Each (λ f. f.mutable ≡ false) (listed_fields (fields_put_in s fs)) → ⊥
  constant t.NoFields e h = cc
  constant (t.WithField n true u fs) e h = cc
  constant (t.WithField n false u fs) e h = constant fs e h.1

  either : (b c : Bool) → (b && c) ≡ false → (b ≡ false → Culprit) → (c ≡ false → Culprit) → Culprit
  either true c e f g = g e
  either false c e f g = f refl

  chosen : (c : Bool) (u v : Term) (b : Bool) → cond c (Share u) b ≡ false → So (put_in s (cond c u v)) → (Share u ≡ false → So (put_in s u) → Culprit) → (b ≡ false → So (put_in s v) → Culprit) → Culprit
  chosen true u v b e h f g = f e h
  chosen false u v b e h f g = g e h

  abbrev parameters : ℕ → List ℕ
  parameters at = parameters_at any l ns at

  abbrev each : Terms → List Bool
  each us = each_shares any parameters (needed_at l.names ns) x us

  abbrev of_fields : Fields → List Bool
  of_fields fs = fields_share any parameters (needed_at l.names ns) x fs

  record Found (at : ℕ) (us : Terms) : Type 0 where
    p : ℕ
    is : of_argument (parameters at) (each us) p ≡ false
    so : So (put_in s (argument_of (parameters at) us p))

  -- of an argument that is needed it is not so
  found : (at : ℕ) (us : Terms) → Share (t.Use at us) ≡ false → So (t.Use at (each_put_in s us)) → Found at us
  found at us e h =
      let v = valid at (each_put_in s us) h in
      let a : all (of_argument (parameters at) (each us)) (needed_at l.names ns at).parameters ≡ false =
      ap (λ b. not b && all (of_argument (parameters at) (each us)) (needed_at l.names ns at).parameters) (sym v.0) ∙ e in
      let f = search (λ p. So (argument_of (parameters at) (each_put_in s us) p)) (of_argument (parameters at) (each us)) (needed_at l.names ns at).parameters a v.1 in
      record { p = f.0; is = f.1; so = subst So (sym (argument_put s (parameters at) us f.0)) f.2 }

  mutual
    unfolding head

    pub why : (u : Term) → Share u ≡ false → So (put_in s u) → Culprit
    why (t.Number k) e h = cc
    why t.Boolean e h = cc
    why t.Character e h = cc
    why t.Text e h = cc
    why t.Blob e h = cc
    why t.Principal e h = cc
    why t.Error e h = absurd (form_of any (head defs t.Error) (form t.Error h))
    why t.Null e h = cc
    why t.Any e h = absurd (any_fits any e (form t.Any h))
    why t.Bottom e h = cc
    why (t.Optional a) e h = why a e (parts_so any (head defs) (t.Optional (put_in s a)) h).0
    why (t.Array a) e h = why a e (parts_so any (head defs) (t.Array (put_in s a)) h).0
    why (t.MutableArray a) e h = absurd (form_of any (head defs (t.MutableArray (put_in s a))) (form (t.MutableArray (put_in s a)) h))
    why (t.Tuple us) e h = each_why us e (parts_so any (head defs) (t.Tuple (each_put_in s us)) h)
    why (t.Object fs) e h =
        either (all_constant fs) (every (of_fields fs)) e
        (λ k. absurd (constant fs k (form_of any (head defs (t.Object (fields_put_in s fs))) (form (t.Object (fields_put_in s fs)) h))))
        (λ k. fields_why fs k (parts_so any (head defs) (t.Object (fields_put_in s fs)) h))
    why (t.Actor fs) e h = cc
    why (t.Variant fs) e h = fields_why fs e (parts_so any (head defs) (t.Variant (fields_put_in s fs)) h)
    why (t.Function us r) e h =
        absurd (form_of any (head defs (t.Function (each_put_in s us) (put_in s r))) (form (t.Function (each_put_in s us) (put_in s r)) h) refl)
    why (t.Shared o us r) e h =
        absurd (form_of any (head defs (t.Shared o (each_put_in s us) (put_in s r))) (form (t.Shared o (each_put_in s us) (put_in s r)) h) (is_local o e))
    why (t.Async a) e h = absurd (form_of any (head defs (t.Async (put_in s a))) (form (t.Async (put_in s a)) h))
    why (t.Parameter at) e h = (at, e, h)
    why (t.Use at us) e h = let f = found at us e h in argument_why (parameters at) us f.p f.is f.so

    each_why : (us : Terms) → every (each us) ≡ false → Each So (listed (each_put_in s us)) → Culprit
    each_why t.Nil e h = cc
    each_why (t.Cons u us) e h = either (Share u) (every (each us)) e (λ k. why u k h.0) (λ k. each_why us k h.1)

    fields_why : (fs : Fields) → every (of_fields fs) ≡ false → Each So (field_types (listed_fields (fields_put_in s fs))) → Culprit
    fields_why t.NoFields e h = cc
    fields_why (t.WithField n m u fs) e h = either (Share u) (every (of_fields fs)) e (λ k. why u k h.0) (λ k. fields_why fs k h.1)

    argument_why : (qs : List ℕ) (us : Terms) (p : ℕ) → of_argument qs (each us) p ≡ false → So (put_in s (argument_of qs us p)) → Culprit
    argument_why [] us p e h = cc
    argument_why (q ∷ qs) t.Nil p e h = cc
    argument_why (q ∷ qs) (t.Cons u us) p e h = chosen (nat_eq q p) u (argument_of qs us p) (of_argument qs (each us) p) e h (why u) (argument_why qs us p)
