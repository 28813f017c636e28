-- Type parameters, and where their bounds lead.
use Rattle.std.proofs.Common.{◌≡◌, ◌∙◌, ℕ, zero, suc, ◌+◌, List, [], ◌∷◌, length, Option, Some, None, slice_get, option_map, refl, sym, ap, arith}
use Rattle.std.specs.Prelude.{Result, Ok, Err, IfOk}
use denote.Ref.{Bor}
use Rattle.mo_types.specs.declared.node.Node.{Node}
use Rattle.mo_types.specs.declared.node.Node.TheVariants as node
use Rattle.mo_types.specs.declared.node.TypeId.{TypeId}
use Rattle.mo_subtype.specs.Renamed.{on_node}
use Rattle.type_terms.specs.declared.form.TermId.{TermId}
use Rattle.typing_rules.specs.Definitions.{Definitions}
use Rattle.typing_rules.specs.Heads.{bound_of, head, members_head, promoted, promoted_once}
use Rattle.typing_rules.specs.Terms.{Term}
use Rattle.type_definitions.specs.Definitions.{as_bounds}
use Rattle.type_definitions.specs.Meanings.{term}
use Rattle.met_types.specs.States.{State}
use Rattle.met_types.proofs.Counted.{graph_term}
use Rattle.kernel_types.specs.Numbers.{IsHead, IsMembersHead, IsPromoted, bound_at, definitions, head_of, type_at}

pub kind_found : (s : State) (id : TypeId) (k : TermId) → Some k ≡ slice_get s.reached id.index → term s.forms k ≡ type_at s id
kind_found s id k h = sym (graph_term s.forms s.reached id k (sym h))

bound_seen : (f : TypeId → Term) (y : Node TypeId) → bound_of (on_node f y) ≡ option_map f (bound_at y)
bound_seen f (node.Variable v b) = refl
bound_seen f _ = refl

module _ (s : State) (kind : TermId) (n : Node TypeId) (h : IsHead s kind n) where
  pub bound_is : (o : Option TypeId) → o ≡ bound_at n → option_map (type_at s) o ≡ bound_of (head_of s kind)
  bound_is o e = ap (option_map (type_at s)) e ∙ (sym (bound_seen (type_at s) n) ∙ ap bound_of (sym h.is))

  pub bound_found : (b : TypeId) (k : TermId) → Some b ≡ bound_at n → term s.forms k ≡ type_at s b → Some (term s.forms k) ≡ bound_of (head_of s kind)
  bound_found b k e g = ap (λ (u : Term). Some u) g ∙ bound_is (Some b) e

length_bounds : (at : TermId → Term) (ns : List ℕ) (bs : List TermId) → length ns ≡ length bs → length (as_bounds at ns bs) ≡ length bs
length_bounds at [] [] e = refl
length_bounds at [] (b ∷ bs) e = absurd (omega (arith, e))
length_bounds at (n ∷ ns) [] e = absurd (omega (arith, e))
length_bounds at (n ∷ ns) (b ∷ bs) e =
    let g : length ns ≡ length bs = omega (arith, e) in
    let h : length (as_bounds at ns bs) ≡ length bs = length_bounds at ns bs g in
    omega (arith, h)

-- a type that is no parameter stays
stays : (defs : Definitions) (n : ℕ) (u : Term) → bound_of (head defs u) ≡ None → promoted defs n u ≡ u
stays defs zero u e = refl
stays defs (suc n) u e = ap (λ (o : Option Term). promoted defs n (promoted_once o u)) e ∙ stays defs n u e

module _ (s : State) (start : TermId) where
  -- it leads here, where so many steps are left
  abbrev pub Leads : ℕ → TermId → Type 0
  Leads left last = promoted (definitions s) (suc (length (definitions s).parameters)) (term s.forms start) ≡ promoted (definitions s) left (term s.forms last)

  pub leads_first : (n : ℕ) → n ≡ length s.listed.bounds + 1 → length s.listed.bounded ≡ length s.listed.bounds → Leads n start
  leads_first n e g =
      let h : length (as_bounds (term s.forms) s.listed.bounded s.listed.bounds) ≡ length s.listed.bounds = length_bounds (term s.forms) s.listed.bounded s.listed.bounds g in
      let i : suc (length (as_bounds (term s.forms) s.listed.bounded s.listed.bounds)) ≡ n = omega (arith, h, e) in
      ap (λ (k : ℕ). promoted (definitions s) k (term s.forms start)) i

  pub leads_on : (left m : ℕ) (last next : TermId) → left ≡ suc m → Some (term s.forms next) ≡ bound_of (head_of s last) → Leads left last → Leads m next
  leads_on left m last next e h p =
      p
      ∙ (ap (λ (k : ℕ). promoted (definitions s) k (term s.forms last)) e
      ∙ ap (λ (o : Option Term). promoted (definitions s) m (promoted_once o (term s.forms last))) (sym h))

  pub leads_no_more : (left : ℕ) (last : TermId) → None ≡ bound_of (head_of s last) → Leads left last → IsPromoted s start last
  leads_no_more left last h p = sym (p ∙ stays (definitions s) left (term s.forms last) (sym h))

  pub leads_to : (left : ℕ) (last : TermId) → left ≡ 0 → Leads left last → IsPromoted s start last
  leads_to left last e p = sym (p ∙ ap (λ (k : ℕ). promoted (definitions s) k (term s.forms last)) e)

  pub members_are : (last : TermId) (n : Node TypeId) → IsPromoted s start last → IsHead s last n → IsMembersHead s start n
  unfolding members_head
  members_are last n p h = record { parts = h.parts; is = ap (λ (u : Term). head (definitions s) u) (sym p) ∙ h.is }

  pub members_found : {E : Type 0} (last : TermId) (r : Result (Bor (Node TypeId)) E) → IsPromoted s start last → IfOk r (λ n. IsHead s last n.now) → IfOk r (λ n. IsMembersHead s start n.now)
  members_found last (Ok n) p h = members_are last n.now p h
  members_found last (Err e) p h = tt
