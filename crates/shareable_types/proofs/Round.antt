-- Rounds over the definitions: what is needed is so, and where a round adds nothing, nothing is left out.
use Rattle.std.proofs.Common.{◌≡◌, ◌⊎◌, inl, inr, ℕ, zero, suc, ◌<◌, Bool, true, false, ◌&&◌, not, List, [], ◌∷◌, length, Option, Some, None, nat_eq, slice_get, refl, sym, ap, ◌∙◌, subst, arith}
use Rattle.std.specs.Cmp.{unsigned_Decides}
use Rattle.mo_types.specs.Sub.{Each}
use Rattle.type_terms.specs.declared.form.Form.{Form}
use Rattle.typing_rules.specs.Terms.{Term, Terms, put_in, argument_of}
use Rattle.typing_rules.specs.Terms as t
use Rattle.typing_rules.specs.Definitions as rule
use Rattle.typing_rules.specs.Definitions.{Definitions, definition_at, parameters_of, followed, followed_right, reached, or_bottom, unfolded}
use Rattle.typing_rules.specs.Heads.{head, shape}
use Rattle.type_definitions.specs.declared.definitions.Definition.{Definition}
use Rattle.type_definitions.specs.declared.chains.Outcome.{Outcome}
use Rattle.type_definitions.specs.declared.chains.Outcome.TheVariants as outcome
use Rattle.type_definitions.specs.Meanings.{term}
use Rattle.type_definitions.specs.Tables.{Later}
use Rattle.type_definitions.specs.Places.{first_place}
use Rattle.type_definitions.specs.Definitions.{Listed, at_place, definition_of, types_in, rules_in}
use Rattle.type_definitions.specs.Outcomes.{outcome_of, or_endless, outcome_at, AreOutcomes}
use Rattle.type_definitions.proofs.Following.{use_of_parameter, use_of_right}
use Rattle.type_definitions.proofs.Leading.{parameter_is}
use Rattle.type_definitions.proofs.Unfolded.{some_rule}
use Rattle.shareable_types.specs.declared.needs.Needs.{Needs}
use Rattle.shareable_types.specs.Sharing.{all, allowed}
use Rattle.shareable_types.specs.Shared.{IsAs}
use Rattle.shareable_types.specs.Settled.{own_parameters, or_nothing, needed_at, parameters_at, shares_by, IsSent, Valid, Suits, Fixed, IsNeedOf, IsRound, AreNothing, AreCovered}
use Rattle.shareable_types.proofs.Own.{parameters_are}
use Rattle.shareable_types.proofs.Questions.{alike, form_of, form_fits}
use Rattle.shareable_types.proofs.Substituted.{put_itself}
use Rattle.shareable_types.proofs.Needed.{why}

-- ---- by truth values

same_number : (m n : ℕ) → nat_eq m n ≡ true → m ≡ n
same_number m n e = (unsigned_Decides m n).0 e

equal_itself : (n : ℕ) → nat_eq n n ≡ true
equal_itself n = (unsigned_Decides n n).1 refl

abbrev but : ℕ → ℕ → Bool
but p q = not (nat_eq q p)

module _ (n : Needs) (Q : ℕ → Type 0) (h : (x : ℕ → Bool) → allowed x n ≡ false → (p : ℕ) × (x p ≡ false) × Q p) where
  and_false : (b : Bool) → (b && false) ≡ false
  and_false true = refl
  and_false false = refl

  not_never : n.never ≡ false
  not_never = by n.never refl where
    by : (b : Bool) → n.never ≡ b → n.never ≡ false
    by false e = e
    by true e =
        let q = h (λ _. true) (ap (λ b. not b && all (λ _. true) n.parameters) e) in
        let f : true ≡ false = q.1 in
        cc

  at_false : (p : ℕ) → all (but p) n.parameters ≡ false → Q p
  at_false p e = by (h (but p) (ap (λ b. not n.never && b) e ∙ and_false (not n.never))) where
    not_true : (b : Bool) → not b ≡ false → b ≡ true
    not_true true e = refl
    not_true false e = cc

    by : (q : ℕ) × (but p q ≡ false) × Q q → Q p
    by (q, e, k) = subst Q (same_number q p (not_true (nat_eq q p) e)) k

  but_itself : (p : ℕ) → but p p ≡ false
  but_itself p = ap not (equal_itself p)

  each_is : (ps : List ℕ) → ((p : ℕ) → all (but p) ps ≡ false → Q p) → Each Q ps
  each_is [] k = tt
  each_is (p ∷ ps) k = (k p (ap (λ b. b && all (but p) ps) (but_itself p)), each_is ps (λ q e. k q (ap (λ b. but q p && b) e ∙ and_false (but q p))))

  pub exact : (n.never ≡ false) × Each Q n.parameters
  exact = (not_never, each_is n.parameters at_false)

module _ {A : Type 0} where
  pub get_either : (xs : List A) (i : ℕ) → ((x : A) × (slice_get xs i ≡ Some x)) ⊎ (slice_get xs i ≡ None)
  get_either xs i = by (slice_get xs i) refl where
    by : (o : Option A) → slice_get xs i ≡ o → ((x : A) × (slice_get xs i ≡ Some x)) ⊎ (slice_get xs i ≡ None)
    by None e = inr e
    by (Some x) e = inl (x, e)

  pub get_there : (xs : List A) (i : ℕ) → i < length xs → (x : A) × (slice_get xs i ≡ Some x)
  get_there [] i h = absurd (omega arith)
  get_there (x ∷ xs) zero h = (x, refl)
  get_there (x ∷ xs) (suc i) h = get_there xs i (omega arith)

  pub get_bound : (xs : List A) (i : ℕ) (x : A) → slice_get xs i ≡ Some x → i < length xs
  get_bound [] i x h = cc
  get_bound (y ∷ xs) zero x h = omega arith
  get_bound (y ∷ xs) (suc i) x h = let l : i < length xs = get_bound xs i x h in omega arith

-- ---- nothing at first

module _ (any : Bool) (l : Listed) (ns : List Needs) (h : AreNothing ns) where
  at_nothing : (ns : List Needs) → AreNothing ns → (i : ℕ) (n : Needs) → slice_get ns i ≡ Some n → (x : ℕ → Bool) → allowed x n ≡ true
  at_nothing [] h i n e x = cc
  at_nothing (m ∷ ns) h zero n e x = let f : m ≡ n = cc in ap (allowed x) (sym f) ∙ h.0 x
  at_nothing (m ∷ ns) h (suc i) n e x = at_nothing ns h.1 i n e x

  needs_nothing : (o : Option ℕ) (x : ℕ → Bool) → allowed x (or_nothing (at_place ns o)) ≡ true
  needs_nothing None x = refl
  needs_nothing (Some i) x = by (get_either ns i) where
    by : ((n : Needs) × (slice_get ns i ≡ Some n)) ⊎ (slice_get ns i ≡ None) → allowed x (or_nothing (slice_get ns i)) ≡ true
    by (inl (n, e)) = ap (λ o. allowed x (or_nothing o)) e ∙ at_nothing ns h i n e x
    by (inr e) = ap (λ o. allowed x (or_nothing o)) e

  pub valid_at_first : (later : List Form) → Valid any l ns later
  valid_at_first later at us k =
      exact (needed_at l.names ns at) (λ p. IsSent any l ns later (argument_of (parameters_at any l ns at) us p))
      (λ x e. (let f : true ≡ false = sym (needs_nothing (first_place l.names at) x) ∙ e in cc))

-- ---- one more round

module _ (any : Bool) (l : Listed) (forms : List Form) (os : List Outcome) (agree : AreOutcomes forms l os) (ns ms : List Needs) (round : IsRound any l ns forms os ms) (later : List Form) (h : Later forms later) where
  abbrev types : List rule.Definition
  types = types_in later l

  abbrev defs : Definitions
  defs = rules_in later l

  abbrev So : Term → Type 0
  So u = IsAs any (head defs) u

  -- what is known of a definition that is there
  record Made (at : ℕ) (n : Needs) : Type 0 where
    own : Definition
    there : definition_of l at ≡ Some own
    need : IsNeedOf any l ns forms (outcome_at l.names os at) own n

  made_at : (at : ℕ) (o : Option ℕ) → first_place l.names at ≡ o → (n : Needs) → at_place ms o ≡ Some n → Made at n
  made_at at None f n e = cc
  made_at at (Some i) f n e =
      let b : i < length l.types = (let c : i < length ms = get_bound ms i n e in let k : length ms ≡ length l.types = round.many in omega arith) in
      let d = get_there l.types i b in
      record {
        own = d.0;
        there = ap (at_place l.types) f ∙ d.1;
        need = subst (λ p. IsNeedOf any l ns forms (or_endless (at_place os p)) d.0 n) (sym f) (round.each i d.0 n d.1 e);
      }

  -- heads of uses
  head_of_parameter : (at p : ℕ) (us : Terms) → reached types at ≡ Some (t.Parameter p) → head defs (t.Use at us) ≡ head defs (argument_of (parameters_at any l ns at) us p)
  unfolding head
  head_of_parameter at p us r =
      ap (λ o. shape defs (or_bottom types o)) (use_of_parameter types (reached types) at p us r)
      ∙ ap (λ qs. shape defs (unfolded types (argument_of qs us p))) (parameters_are (term later) l at)

  head_of_right : (at : ℕ) (us : Terms) (d : Definition) (u : Term) → definition_of l at ≡ Some d → reached types at ≡ Some u
      → head defs (t.Use at us) ≡ head defs (put_in (argument_of d.parameters us) (term later d.right))
  unfolding head
  head_of_right at us d u e r =
      let q = some_rule l later at d e in
      ap (λ o. shape defs (or_bottom types o)) (use_of_right types at us q.0 u q.1 r)
      ∙ (ap (λ qs. shape defs (unfolded types (put_in (argument_of qs us) q.0.right))) q.2
      ∙ ap (λ v. shape defs (unfolded types (put_in (argument_of d.parameters us) v))) q.3)

  reached_some : (o : Option Term) → outcome_of o ≡ outcome.Form → (u : Term) × (o ≡ Some u)
  reached_some None e = cc
  reached_some (Some u) e = (u, refl)

  module _ (valid : Valid any l ns later) where
    culprit : (at : ℕ) (us : Terms) (n : Needs) (d : Definition) → definition_of l at ≡ Some d → (o : Outcome) → outcome_at l.names os at ≡ o → IsNeedOf any l ns forms o d n → So (t.Use at us)
        → (x : ℕ → Bool) → allowed x n ≡ false → (p : ℕ) × (x p ≡ false) × So (argument_of (parameters_at any l ns at) us p)
    culprit at us n d there outcome.Endless o need k x e = let f : true ≡ false = sym (need x) ∙ e in cc
    culprit at us n d there (outcome.Parameter p) o need k x e =
        (p, sym (need x) ∙ e, alike any (head defs) (t.Use at us) (argument_of (parameters_at any l ns at) us p) (head_of_parameter at p us (parameter_is (reached types at) p (agree later h at ∙ o))) k)
    culprit at us n d there outcome.Form o need k x e =
        let u = reached_some (reached types at) (agree later h at ∙ o) in
        let r = alike any (head defs) (t.Use at us) (put_in (argument_of d.parameters us) (term later d.right)) (head_of_right at us d u.0 there u.1) k in
        let w = why any l ns later valid (argument_of d.parameters us) x (term later d.right) (need later h x ∙ e) r in
        (w.0, w.1, subst (λ (c : Option Definition). So (argument_of (own_parameters c) us w.0)) (sym there) w.2)

    pub valid_next : Valid any l ms later
    valid_next at us k =
        exact (needed_at l.names ms at) (λ p. IsAs any (head defs) (argument_of (parameters_at any l ms at) us p)) (λ x e. by x (first_place l.names at) refl e)
      where
        by : (x : ℕ → Bool) (o : Option ℕ) → first_place l.names at ≡ o → allowed x (or_nothing (at_place ms (first_place l.names at))) ≡ false
            → (p : ℕ) × (x p ≡ false) × IsAs any (head defs) (argument_of (parameters_at any l ms at) us p)
        by x o f e = found (at_place ms (first_place l.names at)) refl e where
          found : (q : Option Needs) → at_place ms (first_place l.names at) ≡ q → allowed x (or_nothing (at_place ms (first_place l.names at))) ≡ false
              → (p : ℕ) × (x p ≡ false) × IsAs any (head defs) (argument_of (parameters_at any l ms at) us p)
          found None g e = let c : true ≡ false = sym (ap (λ z. allowed x (or_nothing z)) g) ∙ e in cc
          found (Some n) g e =
              let m = made_at at (first_place l.names at) refl n g in
              culprit at us n m.own m.there (outcome_at l.names os at) refl m.need k x (sym (ap (λ z. allowed x (or_nothing z)) g) ∙ e)

  module _ (covered : AreCovered ns ms) (many : length ns ≡ length l.types) where
    suits : (at : ℕ) (d : Definition) (n : Needs) (u : Term) → reached types at ≡ Some u → (o : Outcome) → outcome_of (Some u) ≡ o → IsNeedOf any l ns forms o d n → (x : ℕ → Bool) → allowed x n ≡ true → Suits any l ns later x d u
    suits at d n (t.Parameter p) r (outcome.Parameter q) o need x e = let f : p ≡ q = cc in ap x f ∙ (sym (need x) ∙ e)
    suits at d n (t.Parameter p) r outcome.Endless o need x e = cc
    suits at d n (t.Parameter p) r outcome.Form o need x e = cc
    suits at d n (t.Number k) r outcome.Form o need x e = need later h x ∙ e
    suits at d n (t.Number k) r outcome.Endless o need x e = cc
    suits at d n (t.Number k) r (outcome.Parameter q) o need x e = cc
    suits at d n u r outcome.Form o need x e = need later h x ∙ e
    suits at d n u r outcome.Endless o need x e = cc
    suits at d n u r (outcome.Parameter q) o need x e = cc

    pub fixed_here : Fixed any l ns later
    fixed_here at d u there r x e = by (first_place l.names at) refl there e where
      by : (o : Option ℕ) → first_place l.names at ≡ o → at_place l.types (first_place l.names at) ≡ Some d → allowed x (or_nothing (at_place ns (first_place l.names at))) ≡ true → Suits any l ns later x d u
      by None f g k = let c : None ≡ Some d = sym (ap (at_place l.types) f) ∙ g in cc
      by (Some i) f g k =
          let b : i < length l.types = get_bound l.types i d (sym (ap (at_place l.types) f) ∙ g) in
          let n = get_there ns i (omega (arith, b, many)) in
          let m = get_there ms i (let c : length ms ≡ length l.types = round.many in omega (arith, b, c)) in
          let a : allowed x n.0 ≡ true = sym (ap (λ z. allowed x (or_nothing z)) (ap (at_place ns) f ∙ n.1)) ∙ k in
          let need : IsNeedOf any l ns forms (or_endless (at_place os (Some i))) d m.0 = round.each i d m.0 (sym (ap (at_place l.types) f) ∙ g) m.1 in
          suits at d m.0 u r (outcome_at l.names os at) (ap outcome_of (sym r) ∙ agree later h at)
          (subst (λ p. IsNeedOf any l ns forms (or_endless (at_place os p)) d m.0) (sym f) need) x (covered i n.0 m.0 n.1 m.1 x a)

-- ---- answers

-- Of a type parameter it is not so.
pub not_so : (any : Bool) (l : Listed) (ns : List Needs) (later : List Form) → Valid any l ns later → (u : Term) → shares_by any l ns (λ _. false) u ≡ false → IsSent any l ns later u → ⊥
unfolding head
not_so any l ns later valid u e h =
    let w = why any l ns later valid t.Parameter (λ _. false) u e (subst (IsSent any l ns later) (sym (put_itself u)) h) in
    form_of any (head (rules_in later l) (t.Parameter w.0)) (form_fits any (head (rules_in later l)) (t.Parameter w.0) w.2)
