-- All types that are reached from proper ones are lawful.
use Rattle.std.proofs.Common.{◌≡◌, ◌⊎◌, inl, inr, ℕ, zero, suc, ◌<◌, Bool, true, false, List, [], ◌∷◌, length, Option, Some, None, refl, sym, ap, subst, ◌∙◌, arith}
use Rattle.std.specs.Prelude.{cond, nat_eq}
use Rattle.std.specs.Cmp.{unsigned_Decides}
use Rattle.mo_types.specs.declared.node.Node.TheVariants as node
use Rattle.mo_types.specs.Sub.{Each}
use Rattle.subtype_laws.specs.Reached.{Among}
use Rattle.typed_tree.specs.Instances.{types_in}
use Rattle.typing_rules.specs.Counts.{Reached, Met, Part}
use Rattle.typing_rules.specs.Definitions.{Bounded, Definitions, bound_at, unfolded}
use Rattle.typing_rules.specs.Heads.{shape, head, promoted, promoted_once, bound_of}
use Rattle.typing_rules.specs.Terms.{Term}
use Rattle.typing_rules.specs.Terms as t
use Rattle.typing_rules.specs.Types.{none_is_there, ends}
use Rattle.proper_laws.specs.Laws.{ProperTypesAreLawful}
use Rattle.proper_laws.specs.Proper.{IsProper, IsMet, ArePartsProper}
use Rattle.proper_laws.proofs.Unfolding.{proper_met, parts_proper, node_lawful}

-- ---- how many bounds that are type parameters follow each other

abbrev at_some : (Term → ℕ) → Option Term → ℕ
at_some f None = 0
at_some f (Some b) = suc (f b)

module _ (defs : Definitions) where
  abbrev steps : ℕ → Term → ℕ
  steps zero u = 0
  steps (suc n) u = at_some (steps n) (bound_of (head defs u))

  abbrev count : ℕ
  count = length defs.parameters

  abbrev rank_of : ℕ → ℕ
  rank_of v = steps (suc (suc count)) (t.Parameter v)

  -- within as many steps as lead to the end there are no more by taking more
  enough_by : (n : ℕ) → ((b : Term) → bound_of (head defs (promoted defs n b)) ≡ None → steps (suc n) b ≡ steps (suc (suc n)) b) → (u : Term) (o : Option Term)
      → bound_of (head defs (promoted defs n (promoted_once o u))) ≡ None → at_some (steps (suc n)) o ≡ at_some (steps (suc (suc n))) o
  enough_by n next u None h = refl
  enough_by n next u (Some b) h = ap (λ k. suc k) (next b h)

  enough : (n : ℕ) (u : Term) → bound_of (head defs (promoted defs n u)) ≡ None → steps (suc n) u ≡ steps (suc (suc n)) u
  enough zero u h = ap (at_some (steps 0)) h ∙ sym (ap (at_some (steps 1)) h)
  enough (suc n) u h = enough_by n (enough n) u (bound_of (head defs u)) h

  any_steps : (n : ℕ) → steps n t.Any ≡ 0
  unfolding head
  any_steps zero = refl
  any_steps (suc n) = refl

  none_of : (o : Option Term) → none_is_there o ≡ true → o ≡ None
  none_of None e = refl
  none_of (Some b) e = cc

  -- a type parameter ends, or has no bound but Any
  bound_cond : (c : Bool) (b : Bounded) (rest : Term) (v : ℕ) → (c ≡ true → ends defs v ≡ true) → (ends defs v ≡ true) ⊎ (rest ≡ t.Any) → (ends defs v ≡ true) ⊎ (cond c b.bound rest ≡ t.Any)
  bound_cond true b rest v f h = inl (f refl)
  bound_cond false b rest v f h = h

  bound_ends : (bs : List Bounded) → Each (λ b. IsProper defs b.bound × (ends defs b.at ≡ true)) bs → (v : ℕ) → (ends defs v ≡ true) ⊎ (bound_at bs v ≡ t.Any)
  bound_ends [] h v = inr refl
  bound_ends (b ∷ bs) h v =
      bound_cond (nat_eq b.at v) b (bound_at bs v) v (λ e. subst (λ w. ends defs w ≡ true) ((unsigned_Decides b.at v).0 e) h.0.1) (bound_ends bs h.1 v)

  ended : (v : ℕ) → (ends defs v ≡ true) ⊎ (bound_at defs.parameters v ≡ t.Any) → steps (suc count) (t.Parameter v) ≡ steps (suc (suc count)) (t.Parameter v)
  unfolding head
  ended v (inl e) = enough count (t.Parameter v) (none_of (bound_of (head defs (promoted defs count (t.Parameter v)))) e)
  ended v (inr e) = ap (λ b. suc (steps count b)) e ∙ (ap (λ k. suc k) (any_steps count ∙ sym (any_steps (suc count))) ∙ sym (ap (λ b. suc (steps (suc count) b)) e))

  -- ---- heads that are type parameters

  shape_bound : (u : Term) (v : ℕ) (b : Term) → shape defs u ≡ node.Variable v b → b ≡ bound_at defs.parameters v
  shape_bound (t.Parameter w) v b e = cc
  shape_bound (t.Number k) v b e = cc
  shape_bound u v b e = cc

  head_bound : (u : Term) (v : ℕ) (b : Term) → head defs u ≡ node.Variable v b → b ≡ bound_at defs.parameters v
  unfolding head
  head_bound u v b e = shape_bound (unfolded defs.types u) v b e

  variable_steps : (n : ℕ) (u : Term) (v : ℕ) (b : Term) → head defs u ≡ node.Variable v b → steps (suc n) u ≡ suc (steps n b)
  variable_steps n u v b e = ap (λ y. at_some (steps n) (bound_of y)) e

  parameter_head : (v : ℕ) → head defs (t.Parameter v) ≡ node.Variable v (bound_at defs.parameters v)
  unfolding head
  parameter_head v = refl

  less_of : (m n : ℕ) → n ≡ suc m → m < n
  less_of m n e = omega arith

  module _ (whole : ArePartsProper defs defs) where
    falls : (b c : Term) (v w : ℕ) → b ≡ bound_at defs.parameters v → head defs b ≡ node.Variable w c → rank_of w < rank_of v
    falls b c v w f e =
        let g : rank_of v ≡ suc (steps (suc count) b) = variable_steps (suc count) (t.Parameter v) v (bound_at defs.parameters v) (parameter_head v) ∙ ap (λ d. suc (steps (suc count) d)) (sym f) in
        let i : steps (suc count) b ≡ suc (steps count c) = variable_steps count b w c e in
        let j : steps (suc count) (t.Parameter w) ≡ suc (steps count c) = variable_steps count (t.Parameter w) w (bound_at defs.parameters w) (parameter_head w) ∙ ap (λ d. suc (steps count d)) (sym (head_bound b w c e)) in
        let k : steps (suc count) (t.Parameter w) ≡ rank_of w = ended w (bound_ends defs.parameters whole.1 w) in
        less_of (rank_of w) (rank_of v) (g ∙ ap (λ n. suc n) (i ∙ (sym j ∙ k)))

-- ---- what is reached

each_among : (P : Term → Type 0) (u : Term) (us : List Term) → Each P us → Among u us → P u
each_among P u [] h m = absurd m
each_among P u (v ∷ us) h (inl e) = subst P e h.0
each_among P u (v ∷ us) h (inr m) = each_among P u us h.1 m

module _ (defs : Definitions) (whole : ArePartsProper defs defs) (met : List Term) (all : Each (IsMet defs) met) where
  reached_met : (u : Term) → Reached defs met u → IsMet defs u
  reached_met _ (Met u m) = each_among (IsMet defs) u met all m
  reached_met _ (Part v u r m) = proper_met defs u (each_among (IsProper defs) u (types_in (head defs v)) (parts_proper defs whole v (reached_met v r)) m)

pub lawful_reached : ProperTypesAreLawful
lawful_reached defs whole met all = record {
  nodes = λ u r. node_lawful defs whole u (reached_met defs whole met all u r);
  bounds = λ t u b c v r s e f. head_bound defs t v b e ∙ sym (head_bound defs u v c f);
  rank = rank_of defs;
  bounds_end = λ t b c v w r e f. falls defs whole b c v w (head_bound defs t v b e) f;
}
