-- Types that go by what they mention, and types with others put in.
use Rattle.std.proofs.Common.{◌≡◌, ◌⊎◌, ◌∙◌, inl, inr, ℕ, suc, List, [], ◌∷◌, ◌++◌, Option, Some, None, refl, sym, ap, subst}
use Rattle.mo_types.specs.declared.node.Node.{Node}
use Rattle.mo_types.specs.declared.node.Node.TheVariants as node
use Rattle.mo_types.specs.declared.node.Field.{Field}
use Rattle.mo_types.specs.Heads.{variable_of}
use Rattle.mo_types.specs.Sub.{Each, Pairwise}
use Rattle.typed_tree.specs.Instances.{IsAmong, field_types, types_in, ParameterAmong, Mentions, MentionsOnly, argument_of, FieldsAlike, FormsAlike, BecomesArgument, Becomes, PutIn, IsInstance}
use Rattle.typed_tree.specs.Wants.{Equal}
use Rattle.closed_types.specs.Closings.{IsNoVariable, AreClosed, BoundsEnd, Closing, IsWithin, Agree, put_value, Puts}
use Rattle.closed_types.proofs.Alike.{equal}
use Rattle.closed_types.proofs.Nodes.{is_variable}
use Rattle.closed_types.proofs.Substitution.{same_equal, stays_below}

-- ---- what holds of the parts, beside that they are alike

module _ {A : Type 0} (P : A → Type 0) (R : A → A → Type 0) where
  abbrev With : A → A → Type 0
  With a b = P a × R a b

  left : (xs ys : List A) → Each P (xs ++ ys) → Each P xs
  left [] ys h = tt
  left (x ∷ xs) ys h = (h.0, left xs ys h.1)

  right : (xs ys : List A) → Each P (xs ++ ys) → Each P ys
  right [] ys h = h
  right (x ∷ xs) ys h = right xs ys h.1

  pairs_with : (ts us : List A) → Each P ts → Pairwise R ts us → Pairwise With ts us
  pairs_with [] [] p h = tt
  pairs_with [] (u ∷ us) p h = absurd h
  pairs_with (t ∷ ts) [] p h = absurd h
  pairs_with (t ∷ ts) (u ∷ us) p h = ((p.0, h.0), pairs_with ts us p.1 h.1)

  fields_with : (fs gs : List (Field A)) → Each P (field_types fs) → FieldsAlike R fs gs → FieldsAlike With fs gs
  fields_with [] [] p h = tt
  fields_with [] (g ∷ gs) p h = absurd h
  fields_with (f ∷ fs) [] p h = absurd h
  fields_with (f ∷ fs) (g ∷ gs) p h = ((h.0.0, h.0.1, (p.0, h.0.2)), fields_with fs gs p.1 h.1)

  forms_with : (x y : Node A) → Each P (types_in x) → FormsAlike R x y → FormsAlike With x y
  forms_with (node.Opt a) (node.Opt b) p h = (p.0, h)
  forms_with (node.Opt a) y p h = absurd h
  forms_with (node.Array a) (node.Array b) p h = (p.0, h)
  forms_with (node.Array a) y p h = absurd h
  forms_with (node.MutArray a) (node.MutArray b) p h = (p.0, h)
  forms_with (node.MutArray a) y p h = absurd h
  forms_with (node.Tuple ts) (node.Tuple us) p h = pairs_with ts us p h
  forms_with (node.Tuple ts) y p h = absurd h
  forms_with (node.Object fs) (node.Object gs) p h = fields_with fs gs p h
  forms_with (node.Object fs) y p h = absurd h
  forms_with (node.Actor fs) (node.Actor gs) p h = fields_with fs gs p h
  forms_with (node.Actor fs) y p h = absurd h
  forms_with (node.Variant fs) (node.Variant gs) p h = fields_with fs gs p h
  forms_with (node.Variant fs) y p h = absurd h
  forms_with (node.Func s ps rs) (node.Func r qs ss) p h = (h.0, pairs_with ps qs (left ps rs p) h.1, pairs_with rs ss (right ps rs p) h.2)
  forms_with (node.Func s ps rs) y p h = absurd h
  forms_with (node.Async a) (node.Async b) p h = (p.0, h)
  forms_with (node.Async a) y p h = absurd h
  forms_with x y p h = h

module _ {A : Type 0} where
  abbrev Same : A → A → Type 0
  Same a b = a ≡ b

  pairs_self : (ts : List A) → Pairwise Same ts ts
  pairs_self [] = tt
  pairs_self (t ∷ ts) = (refl, pairs_self ts)

  fields_self : (fs : List (Field A)) → FieldsAlike Same fs fs
  fields_self [] = tt
  fields_self (f ∷ fs) = ((refl, refl, refl), fields_self fs)

  forms_self : (x : Node A) → FormsAlike Same x x
  forms_self (node.Tuple ts) = pairs_self ts
  forms_self (node.Object fs) = fields_self fs
  forms_self (node.Actor fs) = fields_self fs
  forms_self (node.Variant fs) = fields_self fs
  forms_self (node.Func s ps rs) = (refl, pairs_self ps, pairs_self rs)
  forms_self x = refl

becomes_form : {A : Type 0} (head : A → Node A) (vs : List ℕ) (ts : List A) (R : A → A → Type 0) (u : A) (x y : Node A) → IsNoVariable x → Becomes head vs ts R u x y → FormsAlike R x y
becomes_form head vs ts R u (node.Variable v b) y i h = absurd (let z : Some v ≡ None = i in cc)
becomes_form head vs ts R u x y i h = h

variable_named : {A : Type 0} (x : Node A) (v : ℕ) → variable_of x ≡ Some v → (b : A) × (x ≡ node.Variable v b)
variable_named (node.Variable w b) v e = (b, ap (λ k. node.Variable k b) (let z : w ≡ v = cc in z))
variable_named x v e = absurd (let z : None ≡ Some v = e in cc)

module _ {A B : Type 0} (head : A → Node A) (other : B → Node B) (closed : AreClosed other) where
  -- ---- closings that agree

  module _ (c d : Closing head other) (vs : List ℕ) (agree : Agree head other c d vs) where
    abbrev Mentioned : ℕ → A → A → Type 0
    Mentioned n t u = Mentions head vs n t × (t ≡ u)

    agree_step : (n : ℕ) (t u : A) → Mentioned (suc n) t u → Equal other (c.close u) (d.close t) ⊎ (IsNoVariable (head t) × FormsAlike (Mentioned n) (head t) (head u))
    unfolding Mentions
    agree_step n t u (m, e) = by (is_variable (head t)) where
      by : ((v : ℕ) × (b : A) × (head t ≡ node.Variable v b)) ⊎ IsNoVariable (head t) → Equal other (c.close u) (d.close t) ⊎ (IsNoVariable (head t) × FormsAlike (Mentioned n) (head t) (head u))
      by (inl (v, b, f)) =
          let among : IsAmong v vs = subst (ParameterAmong vs) f m.0 in
          inl (same_equal head other closed (c.close u) (d.close t) (ap c.close (sym e) ∙ (c.variables t b v f ∙ (sym (agree v among) ∙ sym (d.variables t b v f)))))
      by (inr i) = inr (i, subst (λ u. FormsAlike (Mentioned n) (head t) (head u)) e (forms_with (Mentions head vs n) Same (head t) (head t) m.1 (forms_self (head t))))

    pub agreeing : (t : A) → MentionsOnly head vs t → Equal other (c.close t) (d.close t)
    agreeing t m = equal head other closed c d Mentioned agree_step t t (λ n. (m.by n, refl))

  -- ---- types put in

  module _ (ends : BoundsEnd head) (c d : Closing head other) (within : IsWithin head other c) (vs : List ℕ) (ts : List A) (scope : List ℕ) (puts : Puts head other c vs ts scope d) where
    abbrev Put : ℕ → A → A → Type 0
    Put n t u = Mentions head scope n t × PutIn head vs ts n t u

    at_argument : (v : ℕ) (t u b : A) (o : Option A) → head t ≡ node.Variable v b → argument_of vs ts v ≡ o → IsAmong v scope → BecomesArgument head vs ts u o (variable_of (head u) ≡ Some v) → Equal other (c.close u) (d.close t)
    at_argument v t u b None f o m h =
        let k = variable_named (head u) v h in
        let value : d.value v ≡ c.value v = puts v m ∙ ap (put_value head other c v) o in
        same_equal head other closed (c.close u) (d.close t) (c.variables u k.0 v k.1 ∙ (sym value ∙ sym (d.variables t b v f)))
    at_argument v t u b (Some a) f o m h =
        let value : d.close t ≡ c.close a = d.variables t b v f ∙ (puts v m ∙ ap (put_value head other c v) o) in
        subst (Equal other (c.close u)) (sym value) (stays_below head other closed ends c within u a h.0, stays_below head other closed ends c within a u h.1)

    put_step : (n : ℕ) (t u : A) → Put (suc n) t u → Equal other (c.close u) (d.close t) ⊎ (IsNoVariable (head t) × FormsAlike (Put n) (head t) (head u))
    unfolding Mentions PutIn
    put_step n t u (m, p) = by (is_variable (head t)) where
      by : ((v : ℕ) × (b : A) × (head t ≡ node.Variable v b)) ⊎ IsNoVariable (head t) → Equal other (c.close u) (d.close t) ⊎ (IsNoVariable (head t) × FormsAlike (Put n) (head t) (head u))
      by (inl (v, b, f)) =
          inl (at_argument v t u b (argument_of vs ts v) f refl (subst (ParameterAmong scope) f m.0) (subst (λ x. Becomes head vs ts (PutIn head vs ts n) u x (head u)) f p))
      by (inr i) = inr (i, forms_with (Mentions head scope n) (PutIn head vs ts n) (head t) (head u) m.1 (becomes_form head vs ts (PutIn head vs ts n) u (head t) (head u) i p))

    pub put_in : (t u : A) → MentionsOnly head scope t → IsInstance head vs ts t u → Equal other (c.close u) (d.close t)
    put_in t u m p = equal head other closed c d Put put_step t u (λ n. (m.by n, p.by n))
