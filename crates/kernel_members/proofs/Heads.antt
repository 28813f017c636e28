-- Heads in the graph say what heads with types say.
use Rattle.std.proofs.Common.{◌≡◌, ◌∙◌, ℕ, Bool, true, false, List, [], ◌∷◌, ◌++◌, map, Option, Some, refl, sym, ap}
use Rattle.std.specs.Prelude.{nat_eq, if◌then◌else◌}
use Rattle.std.specs.Cmp.Lexicographic.{pointwise}
use Rattle.mo_types.specs.declared.node.Field.{Field}
use Rattle.mo_types.specs.declared.node.Node.{Node}
use Rattle.mo_types.specs.declared.node.Node.TheVariants as node
use Rattle.mo_types.specs.declared.node.Sort.TheVariants as sort
use Rattle.mo_types.specs.declared.node.TypeId.{TypeId}
use Rattle.mo_types.specs.Sub.{Each, find}
use Rattle.mo_subtype.specs.Renamed.{on_field, on_node}
use Rattle.typed_tree.specs.declared.action.Action.TheVariants as action
use Rattle.typed_tree.specs.Instances.{types_in}
use Rattle.typing_rules.specs.Expressions.{element_of}
use Rattle.typing_rules.specs.Terms.{Term}
use Rattle.typing_rules.specs.Terms as t
use Rattle.type_terms.specs.declared.form.TermId.{TermId}
use Rattle.met_types.specs.States.{State}
use Rattle.desugaring.specs.Expressions.{field_of, or_else, part_or}
use Rattle.kernel_types.specs.Numbers.{IsHead, IsMembersHead, head_of, members_head_of, number, type_at}
use Rattle.kernel_members.specs.Accesses.{IsFieldNumber, access_at, callee_at, callee_in, element_at, element_number_of, field_at, is_mutable_at, is_var, or_number, part_of}
use Rattle.kernel_members.specs.declared.members.Access.{Access}
use Rattle.kernel_members.specs.declared.members.Access.TheVariants as access

module _ {A B : Type 0} (g : A → B) (x : List ℕ) where
  var_seen : (fs : List (Field A)) → is_var (find x (map (on_field g) fs)) ≡ is_var (find x fs)
  var_seen [] = refl
  var_seen (m ∷ fs) = pick (pointwise nat_eq m.label x) (var_seen fs) where
    pick : (b : Bool) → is_var (find x (map (on_field g) fs)) ≡ is_var (find x fs) → is_var (if b then Some (on_field g m) else find x (map (on_field g) fs)) ≡ is_var (if b then Some m else find x fs)
    pick true h = refl
    pick false h = h

  access_seen : (y : Node A) → access_at x (on_node g y) ≡ access_at x y
  access_seen (node.Object fs) = ap (λ (b : Bool). access.Field b) (var_seen fs)
  access_seen (node.Actor fs) = refl
  access_seen node.Text = refl
  access_seen _ = refl

mutable_seen : (g : TypeId → Term) (y : Node TypeId) → is_mutable_at (on_node g y) ≡ is_mutable_at y
mutable_seen g (node.MutArray a) = refl
mutable_seen g _ = refl

module _ (s : State) (v : TermId) (n : Node TypeId) (h : IsMembersHead s v n) where
  pub access_is : (x : List ℕ) (a : Access) → a ≡ access_at x n → a ≡ access_at x (members_head_of s v)
  access_is x a e = e ∙ (sym (access_seen (type_at s) x n) ∙ ap (access_at x) (sym h.is))

  pub mutable_is : (b : Bool) → b ≡ is_mutable_at n → b ≡ is_mutable_at (members_head_of s v)
  mutable_is b e = e ∙ (sym (mutable_seen (type_at s) n) ∙ ap is_mutable_at (sym h.is))

-- ---- numbers of parts

module _ (s : State) where
  abbrev Numbered : List TypeId → Type 0
  Numbered ids = Each (λ p. number s (type_at s p) ≡ p) ids

  back : (ids : List TypeId) → Numbered ids → map (number s) (map (type_at s) ids) ≡ ids
  back [] h = refl
  back (p ∷ ids) h = ap (λ (q : TypeId). q ∷ map (number s) (map (type_at s) ids)) h.0 ∙ ap (λ (l : List TypeId). p ∷ l) (back ids h.1)

  first : (ids more : List TypeId) → Numbered (ids ++ more) → Numbered ids
  first [] more h = tt
  first (p ∷ ids) more h = (h.0, first ids more h.1)

  rest : (ids more : List TypeId) → Numbered (ids ++ more) → Numbered more
  rest [] more h = h
  rest (p ∷ ids) more h = rest ids more h.1

  sent : (ps rs : List TypeId) → Numbered (ps ++ rs) → action.Send ps rs ≡ action.Send (map (number s) (map (type_at s) ps)) (map (number s) (map (type_at s) rs))
  sent ps rs h = ap (λ (l : List TypeId). action.Send l rs) (sym (back ps (first ps rs h))) ∙ ap (λ (l : List TypeId). action.Send (map (number s) (map (type_at s) ps)) l) (sym (back rs (rest ps rs h)))

  callee_seen : (y : Node TypeId) → Numbered (types_in y) → callee_at y ≡ callee_in (number s) (on_node (type_at s) y)
  callee_seen (node.Func sort.Local ps rs) h = refl
  callee_seen (node.Func sort.Shared ps rs) h = sent ps rs h
  callee_seen (node.Func sort.Query ps rs) h = sent ps rs h
  callee_seen _ h = refl

  pub callee_is : (v : TermId) (n : Node TypeId) → IsMembersHead s v n → callee_at n ≡ callee_in (number s) (members_head_of s v)
  callee_is v n h = callee_seen n h.parts ∙ ap (callee_in (number s)) (sym h.is)

  element_seen : (y : Node TypeId) (p : TypeId) → Numbered (types_in y) → Some p ≡ element_at y → p ≡ number s (or_else t.Bottom (element_of (on_node (type_at s) y)))
  element_seen (node.Array a) p h e = let g : p ≡ a = cc in g ∙ sym h.0
  element_seen (node.MutArray a) p h e = let g : p ≡ a = cc in g ∙ sym h.0
  element_seen _ p h e = cc

  pub element_is : (u : TermId) (n : Node TypeId) (p : TypeId) → IsHead s u n → Some p ≡ element_at n → p ≡ element_number_of s u
  element_is u n p h e = element_seen n p h.parts e ∙ ap (λ (y : Node Term). number s (or_else t.Bottom (element_of y))) (sym h.is)

  module _ (x : List ℕ) where
    part_seen : (u : Term) (fs : List (Field TypeId)) → Numbered (map (λ (m : Field TypeId). m.part) fs) → number s (part_or u (find x (map (on_field (type_at s)) fs))) ≡ or_number (number s u) (part_of (find x fs))
    part_seen u [] h = refl
    part_seen u (m ∷ fs) h = pick (pointwise nat_eq m.label x) (part_seen u fs h.1) where
      pick : (b : Bool) → number s (part_or u (find x (map (on_field (type_at s)) fs))) ≡ or_number (number s u) (part_of (find x fs))
          → number s (part_or u (if b then Some (on_field (type_at s) m) else find x (map (on_field (type_at s)) fs))) ≡ or_number (number s u) (part_of (if b then Some m else find x fs))
      pick true g = h.0
      pick false g = g

    field_seen : (u : Term) (y : Node TypeId) → Numbered (types_in y) → number s (part_or u (field_of x (on_node (type_at s) y))) ≡ or_number (number s u) (part_of (field_at x y))
    field_seen u (node.Object fs) h = part_seen u fs h
    field_seen u _ h = refl

    pub field_is : (v : TermId) (n : Node TypeId) (o : Option TypeId) → IsHead s v n → o ≡ part_of (field_at x n) → IsFieldNumber s (head_of s v) x o
    field_is v n o h e = λ u. ap (λ (y : Node Term). number s (part_or u (field_of x y))) h.is ∙ (field_seen u n h.parts ∙ ap (or_number (number s u)) (sym e))
