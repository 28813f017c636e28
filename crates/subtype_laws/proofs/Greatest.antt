-- Subtyping is a relation that its rules keep, and the greatest one.
use Rattle.std.proofs.Common.{◌≡◌, inl, inr, ◌⊎◌, ℕ, zero, suc, List, [], ◌∷◌, Bool, true, false, true≢false, Option, Some, None, sym, ◌∙◌, refl, subst, nat_eq}
use Rattle.mo_types.specs.declared.node.Node.{Node}
use Rattle.mo_types.specs.declared.node.Node.TheVariants as node
use Rattle.mo_types.specs.declared.node.Field.{Field}
use Rattle.mo_types.specs.Heads.{is_any, variable_of}
use Rattle.mo_types.specs.Sub.{AtSome, Each, IsSubtype, Unless, Pairwise, find, Sub, NodeBelow, HeadBelow, FieldsBelow, TagsBelow, Fitting, VariableBelow}
use Rattle.subtype_laws.specs.Closed.{IsClosed, IsClosedList, Paired}
use Rattle.subtype_laws.specs.Reached.{Among}
use Rattle.subtype_laws.proofs.Monotone.{node_map}

-- what holds of a part at each depth holds of it
at_all : {X : Type 0} (o : Option X) (P : ℕ → X → Type 0) (Q : X → Type 0) → ((x : X) → ((k : ℕ) → P k x) → Q x) → ((k : ℕ) → AtSome o (P k)) → AtSome o Q
at_all None P Q f h = h 0
at_all (Some x) P Q f h = f x h

either : {P Q S : Type 0} → (P → S) → (Q → S) → P ⊎ Q → S
either f g (inl p) = f p
either f g (inr q) = g q

module _ {A : Type 0} (head : A → Node A) where
  pairs_all : (ts us : List A) → ((k : ℕ) → Pairwise (Sub head k) ts us) → Pairwise (IsSubtype head) ts us
  pairs_all [] [] h = tt
  pairs_all [] (u ∷ us) h = h 0
  pairs_all (t ∷ ts) [] h = h 0
  pairs_all (t ∷ ts) (u ∷ us) h = (record { by = λ k. (h k).0 }, pairs_all ts us (λ k. (h k).1))

  fitting_all : (f g : Field A) (m n : Bool) → ((k : ℕ) → Fitting (Sub head k) f g m n) → Fitting (IsSubtype head) f g m n
  fitting_all f g true true h = (record { by = λ k. (h k).0 }, record { by = λ k. (h k).1 })
  fitting_all f g false false h = record { by = h }
  fitting_all f g true false h = h 0
  fitting_all f g false true h = h 0

  fields_all : (fs gs : List (Field A)) → ((k : ℕ) → FieldsBelow (Sub head k) fs gs) → FieldsBelow (IsSubtype head) fs gs
  fields_all fs [] h = tt
  fields_all fs (g ∷ gs) h = (
    at_all (find g.label fs) (λ k f. Fitting (Sub head k) f g f.mutable g.mutable) (λ f. Fitting (IsSubtype head) f g f.mutable g.mutable) (λ f. fitting_all f g f.mutable g.mutable) (λ k. (h k).0),
    fields_all fs gs (λ k. (h k).1),
  )

  tags_all : (fs gs : List (Field A)) → ((k : ℕ) → TagsBelow (Sub head k) fs gs) → TagsBelow (IsSubtype head) fs gs
  tags_all [] gs h = tt
  tags_all (f ∷ fs) gs h = (
    at_all (find f.label gs) (λ k g. Sub head k f.part g.part) (λ g. IsSubtype head f.part g.part) (λ g s. record { by = s }) (λ k. (h k).0),
    tags_all fs gs (λ k. (h k).1),
  )

  unless_all : (b : Bool) (t u : A) → ((k : ℕ) → Unless b (Sub head k t u)) → Unless b (IsSubtype head t u)
  unless_all true t u h = tt
  unless_all false t u h = record { by = h }

  variable_all : (b u : A) (o : Option ℕ) (v : ℕ) → ((k : ℕ) → VariableBelow (Sub head k) b u o v) → VariableBelow (IsSubtype head) b u o v
  variable_all b u None v h = record { by = h }
  variable_all b u (Some w) v h = unless_all (nat_eq v w) b u h

  head_all : (u : A) (x y : Node A) → ((k : ℕ) → HeadBelow (Sub head k) u x y) → HeadBelow (IsSubtype head) u x y
  head_all u (node.Opt a) (node.Opt b) h = record { by = h }
  head_all u (node.Opt a) y h = absurd (h 0)
  head_all u (node.Array a) (node.Array b) h = record { by = h }
  head_all u (node.Array a) y h = absurd (h 0)
  head_all u (node.MutArray a) (node.MutArray b) h = (record { by = λ k. (h k).0 }, record { by = λ k. (h k).1 })
  head_all u (node.MutArray a) y h = absurd (h 0)
  head_all u (node.Tuple ts) (node.Tuple us) h = pairs_all ts us h
  head_all u (node.Tuple ts) y h = absurd (h 0)
  head_all u (node.Object fs) (node.Object gs) h = fields_all fs gs h
  head_all u (node.Object fs) y h = absurd (h 0)
  head_all u (node.Actor fs) (node.Actor gs) h = fields_all fs gs h
  head_all u (node.Actor fs) y h = absurd (h 0)
  head_all u (node.Variant fs) (node.Variant gs) h = tags_all fs gs h
  head_all u (node.Variant fs) y h = absurd (h 0)
  head_all u (node.Func s ps rs) (node.Func r qs ss) h = ((h 0).0, pairs_all qs ps (λ k. (h k).1), pairs_all rs ss (λ k. (h k).2))
  head_all u (node.Func s ps rs) y h = absurd (h 0)
  head_all u (node.Async a) (node.Async b) h = record { by = h }
  head_all u (node.Async a) y h = absurd (h 0)
  head_all u (node.Variable v b) y h = variable_all b u (variable_of y) v h
  head_all u x y h = h 0

  not_any : (R : A → A → Type 0) (u : A) (x y : Node A) → is_any y ≡ false → NodeBelow R u x y → HeadBelow R u x y
  not_any R u x y e (inl a) = absurd (true≢false (sym a ∙ e))
  not_any R u x y e (inr h) = h

  pub taken : (t u : A) → IsSubtype head t u → NodeBelow (IsSubtype head) u (head t) (head u)
  unfolding Sub
  taken t u s = by (is_any (head u)) refl where
    by : (b : Bool) → is_any (head u) ≡ b → NodeBelow (IsSubtype head) u (head t) (head u)
    by true e = inl e
    by false e = inr (head_all u (head t) (head u) (λ k. not_any (Sub head k) u (head t) (head u) e (s.by (suc k))))

  sub_of : (n : ℕ) (t u : A) → NodeBelow (IsSubtype head) u (head t) (head u) → Sub head n t u
  unfolding Sub
  sub_of zero t u h = tt
  sub_of (suc n) t u h = node_map (IsSubtype head) (Sub head n) (λ v w s. s.by n) u (head t) (head u) h

  pub given : (t u : A) → NodeBelow (IsSubtype head) u (head t) (head u) → IsSubtype head t u
  given t u h = record { by = λ n. sub_of n t u h }

  -- a relation of which the rules ask nothing but itself and subtypes
  module _ (R : A → A → Type 0) (closed : (t u : A) → R t u → NodeBelow (λ v w. R v w ⊎ IsSubtype head v w) u (head t) (head u)) where
    related : (n : ℕ) (t u : A) → R t u → Sub head n t u
    unfolding Sub
    related zero t u r = tt
    related (suc n) t u r = node_map (λ v w. R v w ⊎ IsSubtype head v w) (Sub head n) (λ v w. either (related n v w) (λ s. s.by n)) u (head t) (head u) (closed t u r)

    pub greatest : (t u : A) → R t u → IsSubtype head t u
    greatest t u r = record { by = λ n. related n t u r }

pub pairs_hold : {A I : Type 0} (head : A → Node A) (low high : I → A) → IsClosed low high head → (i : I) → IsSubtype head (low i) (high i)
pairs_hold {A} {I} head low high closed i = greatest head (Paired low high) each (low i) (high i) (i, refl, refl) where
  each : (t u : A) → Paired low high t u → NodeBelow (λ v w. Paired low high v w ⊎ IsSubtype head v w) u (head t) (head u)
  each t u (j, e, f) =
      subst (λ x. NodeBelow (λ v w. Paired low high v w ⊎ IsSubtype head v w) u (head x) (head u)) e
      (subst (λ y. NodeBelow (λ v w. Paired low high v w ⊎ IsSubtype head v w) y (head (low j)) (head y)) f (closed j))

-- ---- lists of pairs

each_of : {X : Type 0} (P : X → Type 0) (xs : List X) → ((x : X) → Among x xs → P x) → Each P xs
each_of P [] f = tt
each_of P (x ∷ xs) f = (f x (inl refl), each_of P xs (λ y m. f y (inr m)))

among_each : {X : Type 0} (P : X → Type 0) (x : X) (xs : List X) → Among x xs → Each P xs → P x
among_each P x [] m h = absurd m
among_each P x (y ∷ xs) (inl e) h = subst P e h.0
among_each P x (y ∷ xs) (inr m) h = among_each P x xs m h.1

pub list_holds : {A : Type 0} (head : A → Node A) (pairs : List (A × A)) → IsClosedList head pairs → Each (λ p. IsSubtype head p.0 p.1) pairs
list_holds {A} head pairs closed = each_of (λ p. IsSubtype head p.0 p.1) pairs (λ p m. greatest head Listed each p.0 p.1 m) where
  Listed : A → A → Type 0
  Listed t u = Among (t, u) pairs

  each : (t u : A) → Listed t u → NodeBelow (λ v w. Listed v w ⊎ IsSubtype head v w) u (head t) (head u)
  each t u m = among_each (λ p. NodeBelow (λ v w. Listed v w ⊎ IsSubtype head v w) p.1 (head p.0) (head p.1)) (t, u) pairs m closed
