-- The types of a program: labels tell fields apart, and a cell is there for each type that has values.
use Rattle.std.proofs.Common.{◌≡◌, ◌⊎◌, inl, inr, ℕ, zero, suc, ◌<◌, ◌≤◌, List, [], ◌∷◌, length, Bool, true, false, arith, Some, None, refl, sym, ap, ◌∙◌, subst, slice_get}
use Rattle.std.specs.Prelude.{cond}
use Rattle.mo_types.specs.declared.node.Field.{Field}
use Rattle.mo_types.specs.declared.node.Node.TheVariants as node
use Rattle.mo_types.specs.declared.node.TypeId.{TypeId}
use Rattle.mo_types.specs.Graph.{Slot, head_at}
use Rattle.mo_types.specs.Heads.{tuple_of, object_of, variant_of, variable_of}
use Rattle.mo_types.specs.Sub.{Each, IsSomething}
use Rattle.subtype_laws.proofs.Reflexive as reflexivity
use Rattle.typed_tree.specs.Types.{LabelsDiffer, IsLawfulNode, AreLawful}
use Rattle.typed_tree.specs.Wants.{Equal}
use Rattle.typed_tree.proofs.OwnLabels.{labels_own}
use Rattle.pattern_coverage.specs.Cover.{Tells}
use Rattle.pattern_coverage.specs.Followed.{end_of, value_head}
use Rattle.pattern_coverage.specs.Inhabited.{always, HasValues, ByForm, ByParts, ByFields, ByTag, ByBound}
use Rattle.pattern_coverage.proofs.Ends.{past}
use Rattle.pattern_coverage.proofs.Seen.{no}

pub type_of : ℕ → TypeId
type_of n = record { index = n }

-- the types with values of those with smaller numbers
abbrev pub contents_below : (TypeId → Bool) → ℕ → List TypeId
contents_below has zero = []
contents_below has (suc n) = cond (has (record { index = n })) (record { index = n } ∷ contents_below has n) (contents_below has n)

module _ (types : List Slot) (lawful : AreLawful types) where
  pub labels_differ : (t : TypeId) (fs : List (Field TypeId)) → value_head types t ≡ node.Object fs → LabelsDiffer fs
  labels_differ t fs e = subst (IsLawfulNode (head_at types)) e (lawful.nodes (end_of types t)).0

  pub equal_self : (t : TypeId) → Equal (value_head types) t t
  equal_self t = let r = reflexivity.reflexive (value_head types) t (λ u r. labels_own types lawful (end_of types u)) in (r, r)

module _ (types : List Slot) (has : TypeId → Bool) (tells : Tells (value_head types) has) where
  bottom_has : (t : TypeId) → value_head types t ≡ node.Bottom → HasValues (value_head types) t → ⊥
  bottom_has t e (ByForm _ h) = no (sym (ap always e) ∙ h)
  bottom_has t e (ByParts _ ts f h) = subst IsSomething (sym (ap tuple_of f) ∙ ap tuple_of e) tt
  bottom_has t e (ByFields _ fs f h) = subst IsSomething (sym (ap object_of f) ∙ ap object_of e) tt
  bottom_has t e (ByTag _ fs l g f i h) = subst IsSomething (sym (ap variant_of f) ∙ ap variant_of e) tt
  bottom_has t e (ByBound _ b v f h) = subst IsSomething (sym (ap variable_of f) ∙ ap variable_of e) tt

  less_or : (j r : ℕ) → (j < r) ⊎ (r ≤ j)
  less_or j zero = inr (omega arith)
  less_or zero (suc r) = inl (omega arith)
  less_or (suc j) (suc r) = by (less_or j r)
    where
      by : (j < r) ⊎ (r ≤ j) → (suc j < suc r) ⊎ (suc r ≤ suc j)
      by (inl h) = inl (omega (arith, h))
      by (inr h) = inr (omega (arith, h))

  in_graph : (t : TypeId) → HasValues (value_head types) t → t.index < length types
  in_graph t h = by (less_or t.index (length types))
    where
      by : (t.index < length types) ⊎ (length types ≤ t.index) → t.index < length types
      by (inl l) = l
      by (inr l) = absurd (bottom_has t (past types t l) h)

  pub contents_have : (n : ℕ) → Each (HasValues (value_head types)) (contents_below has n)
  contents_have zero = tt
  contents_have (suc n) = by (has (record { index = n })) refl (contents_have n)
    where
      by : (b : Bool) → has (record { index = n }) ≡ b → Each (HasValues (value_head types)) (contents_below has n) → Each (HasValues (value_head types)) (cond b (record { index = n } ∷ contents_below has n) (contents_below has n))
      by true e h = ((tells (record { index = n })).0 e, h)
      by false e h = h

  same_or_less : (i n : ℕ) → i < suc n → (i ≡ n) ⊎ (i < n)
  same_or_less i n l = by (less_or i n)
    where
      by : (i < n) ⊎ (n ≤ i) → (i ≡ n) ⊎ (i < n)
      by (inl h) = inr h
      by (inr h) = inl (omega (arith, l, h))

  content_at : (t : TypeId) (n : ℕ) → t.index < n → has t ≡ true → (at : ℕ) × (slice_get (contents_below has n) at ≡ Some t)
  content_at t zero l h = absurd (omega (arith, l))
  content_at t (suc n) l h = by (has (record { index = n })) refl (same_or_less t.index n l) (λ s. content_at t n s h)
    where
      by : (b : Bool) → has (record { index = n }) ≡ b → (t.index ≡ n) ⊎ (t.index < n) → (t.index < n → (at : ℕ) × (slice_get (contents_below has n) at ≡ Some t)) → (at : ℕ) × (slice_get (cond b (record { index = n } ∷ contents_below has n) (contents_below has n)) at ≡ Some t)
      by true e (inl s) k = (0, ap (λ n. Some (record { index = n })) (sym s))
      by true e (inr s) k = let r = k s in (suc r.0, r.1)
      by false e (inl s) k = absurd (no (sym e ∙ subst (λ n. has (record { index = n }) ≡ true) s h))
      by false e (inr s) k = k s

  pub content : (t : TypeId) → HasValues (value_head types) t → (at : ℕ) × (slice_get (contents_below has (length types)) at ≡ Some t)
  content t h = content_at t (length types) (in_graph t h) ((tells t).1 h)
