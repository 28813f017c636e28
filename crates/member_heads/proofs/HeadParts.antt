-- The parts of heads, with the terms of the types that stand there.
use Rattle.std.proofs.Common.{◌≡◌, ◌∙◌, ℕ, zero, suc, ◌<◌, Bool, true, false, List, [], ◌∷◌, length, map, slice_get, Option, Some, None, IfSome, option_map, refl, sym, ap, subst, arith}
use Rattle.std.specs.Prelude.{nat_eq, if◌then◌else◌}
use Rattle.std.specs.Cmp.Lexicographic.{pointwise}
use Rattle.mo_types.specs.declared.node.Node.{Node}
use Rattle.mo_types.specs.declared.node.Node.TheVariants as node
use Rattle.mo_types.specs.declared.node.Field.{Field}
use Rattle.mo_types.specs.declared.node.TypeId.{TypeId}
use Rattle.mo_types.specs.Heads.{mut_array_of}
use Rattle.mo_types.specs.Sub.{Each, find}
use Rattle.mo_subtype.specs.Renamed.{on_field, on_node}
use Rattle.typed_tree.specs.Instances.{types_in}
use Rattle.type_terms.specs.declared.form.Form.{Form}
use Rattle.type_terms.specs.declared.form.TermId.{TermId}
use Rattle.typing_rules.specs.Expressions.{element_of}
use Rattle.typing_rules.specs.Graphs.{term_of}
use Rattle.typing_rules.specs.Heads.{bound_of, head, members_head}
use Rattle.typing_rules.specs.Members.{object_field}
use Rattle.typing_rules.specs.Terms.{Term}
use Rattle.type_definitions.specs.Definitions.{rules_in}
use Rattle.type_definitions.specs.Meanings.{term}
use Rattle.met_types.specs.Closing.{terms_in}
use Rattle.met_types.specs.States.{State, IsNodeOf, IsReached}
use Rattle.judging.specs.Heads.{HeadHas}
use Rattle.judging.proofs.NodeParts.{OnePart, part_is}
use Rattle.member_heads.specs.Members.{IsPromoted, MembersHave, bound_at, element_at, field_at, field_in, mutable_at, part_at, seen_field, with_flag}

-- what the head has of the type to which the bounds lead
pub members_are : {X : Type 0} (of : Node Term → Option X) (s : State) (id last : TermId) (o : List Form → Option X) → IsPromoted s id last → HeadHas of s last o → MembersHave of s id o
unfolding members_head
members_are of s id last o p h later l = ap (λ (u : Term). of (head (rules_in later s.listed) u)) (p later l) ∙ h later l

-- ---- heads of one part

pub bound_one : OnePart bound_of bound_at
bound_one = record { same = same; among = among } where
  same : (f : TypeId → Term) (y : Node TypeId) → bound_of (on_node f y) ≡ option_map f (bound_at y)
  same f (node.Variable v b) = refl
  same f _ = refl

  among : (n : ℕ) (y : Node TypeId) → Each (λ p. p.index < n) (types_in y) → IfSome (bound_at y) (λ p. p.index < n)
  among n (node.Variable v b) h = h.0
  among n _ h = tt

pub element_one : OnePart element_of element_at
element_one = record { same = same; among = among } where
  same : (f : TypeId → Term) (y : Node TypeId) → element_of (on_node f y) ≡ option_map f (element_at y)
  same f (node.Array a) = refl
  same f (node.MutArray a) = refl
  same f _ = refl

  among : (n : ℕ) (y : Node TypeId) → Each (λ p. p.index < n) (types_in y) → IfSome (element_at y) (λ p. p.index < n)
  among n (node.Array a) h = h.0
  among n (node.MutArray a) h = h.0
  among n _ h = tt

pub mutable_one : OnePart mut_array_of mutable_at
mutable_one = record { same = same; among = among } where
  same : (f : TypeId → Term) (y : Node TypeId) → mut_array_of (on_node f y) ≡ option_map f (mutable_at y)
  same f (node.MutArray a) = refl
  same f _ = refl

  among : (n : ℕ) (y : Node TypeId) → Each (λ p. p.index < n) (types_in y) → IfSome (mutable_at y) (λ p. p.index < n)
  among n (node.MutArray a) h = h.0
  among n _ h = tt

get_mapped : {A B : Type 0} (f : A → B) (xs : List A) (i : ℕ) → slice_get (map f xs) i ≡ option_map f (slice_get xs i)
get_mapped f [] i = refl
get_mapped f (x ∷ xs) zero = refl
get_mapped f (x ∷ xs) (suc i) = get_mapped f xs i

each_get : {A : Type 0} (P : A → Type 0) (xs : List A) (i : ℕ) → Each P xs → IfSome (slice_get xs i) P
each_get P [] i h = tt
each_get P (x ∷ xs) zero h = h.0
each_get P (x ∷ xs) (suc i) h = each_get P xs i h.1

pub part_one : (place : ℕ) → OnePart (part_at place) (part_at place)
part_one place = record { same = same; among = among } where
  same : (f : TypeId → Term) (y : Node TypeId) → part_at place (on_node f y) ≡ option_map f (part_at place y)
  same f (node.Tuple ts) = get_mapped f ts place
  same f _ = refl

  among : (n : ℕ) (y : Node TypeId) → Each (λ p. p.index < n) (types_in y) → IfSome (part_at place y) (λ p. p.index < n)
  among n (node.Tuple ts) h = each_get (λ p. p.index < n) ts place h
  among n _ h = tt

-- ---- fields of objects

get_there : {A : Type 0} (xs : List A) (i : ℕ) → i < length xs → (x : A) × (slice_get xs i ≡ Some x)
get_there [] i h = absurd (omega arith)
get_there (x ∷ xs) zero h = (x, refl)
get_there (x ∷ xs) (suc i) h = get_there xs i (omega arith)

abbrev with_part : {A B : Type 0} → (A → B) → Bool × A → Bool × B
with_part f q = (q.0, f q.1)

module _ (x : List ℕ) where
  abbrev pub var_field : Node Term → Option (Bool × Term)
  var_field y = option_map seen_field (object_field x y)

  module _ (f : TypeId → Term) where
    found_same : (fs : List (Field TypeId)) → option_map seen_field (find x (map (on_field f) fs)) ≡ option_map (with_part f) (option_map seen_field (find x fs))
    found_same [] = refl
    found_same (m ∷ fs) = pick (pointwise nat_eq m.label x) (find x (map (on_field f) fs)) (find x fs) (found_same fs) where
      pick : (b : Bool) (o : Option (Field Term)) (p : Option (Field TypeId)) → option_map seen_field o ≡ option_map (with_part f) (option_map seen_field p)
          → option_map seen_field (if b then Some (on_field f m) else o) ≡ option_map (with_part f) (option_map seen_field (if b then Some m else p))
      pick true o p e = refl
      pick false o p e = e

    field_same : (y : Node TypeId) → var_field (on_node f y) ≡ option_map (with_part f) (option_map seen_field (field_at x y))
    field_same (node.Object fs) = found_same fs
    field_same _ = refl

  found_among : (n : ℕ) (fs : List (Field TypeId)) → Each (λ p. p.index < n) (map (λ (m : Field TypeId). m.part) fs) → IfSome (option_map seen_field (find x fs)) (λ q. q.1.index < n)
  found_among n [] h = tt
  found_among n (m ∷ fs) h = pick (pointwise nat_eq m.label x) (find x fs) (found_among n fs h.1) where
    pick : (b : Bool) (o : Option (Field TypeId)) → IfSome (option_map seen_field o) (λ q. q.1.index < n) → IfSome (option_map seen_field (if b then Some m else o)) (λ q. q.1.index < n)
    pick true o g = h.0
    pick false o g = g

  field_among : (n : ℕ) (y : Node TypeId) → Each (λ p. p.index < n) (types_in y) → IfSome (option_map seen_field (field_at x y)) (λ q. q.1.index < n)
  field_among n (node.Object fs) h = found_among n fs h
  field_among n _ h = tt

  pub field_is : (s : State) (id : TermId) (n : Node TypeId) → IsNodeOf s id n → (q : Option (Bool × TypeId)) (o : Option (Bool × TermId)) → q ≡ option_map seen_field (field_at x n) → o ≡ field_in s q
      → HeadHas var_field s id (λ later. option_map (with_part (term later)) o)
  field_is s id n h q o e g later l =
      ap var_field (h.is later l)
      ∙ (field_same (term_of (terms_in later s.reached)) n
      ∙ (ap (option_map (with_part (term_of (terms_in later s.reached)))) (sym e)
      ∙ (by q (inside q e) ∙ ap (option_map (with_part (term later))) (sym g))))
    where
      inside : (r : Option (Bool × TypeId)) → r ≡ option_map seen_field (field_at x n) → IfSome r (λ p. p.1.index < length s.reached)
      inside r i = subst (λ (z : Option (Bool × TypeId)). IfSome z (λ p. p.1.index < length s.reached)) (sym i) (field_among (length s.reached) n h.parts)

      by : (r : Option (Bool × TypeId)) → IfSome r (λ p. p.1.index < length s.reached) → option_map (with_part (term_of (terms_in later s.reached))) r ≡ option_map (with_part (term later)) (field_in s r)
      by None i = refl
      by (Some p) i =
          let y = get_there s.reached p.1.index i in
          ap (λ (u : Term). Some (p.0, u)) (part_is s p.1 y.0 later y.1) ∙ ap (λ (z : Option TermId). option_map (with_part (term later)) (with_flag p.0 z)) (sym y.1)

pub field_reached : (s : State) (q : Option (Bool × TypeId)) (o : Option (Bool × TermId)) → o ≡ field_in s q → IfSome o (λ z. IsReached s z.1)
field_reached s q None e = tt
field_reached s None (Some z) e = cc
field_reached s (Some p) (Some z) e = by (slice_get s.reached p.1.index) refl e where
  by : (o : Option TermId) → slice_get s.reached p.1.index ≡ o → Some z ≡ with_flag p.0 o → IsReached s z.1
  by None g i = cc
  by (Some id) g i = let w : z ≡ (p.0, id) = cc in (p.1.index, g ∙ ap (λ (y : Bool × TermId). Some y.1) (sym w))
