-- A table of types that have values, made type by type, is whole where no rule adds to it.
use Rattle.std.proofs.Common.{◌≡◌, ◌⊎◌, inl, inr, ℕ, zero, suc, ◌<◌, ◌≤◌, List, [], ◌∷◌, length, Bool, true, false, Some, arith, refl, sym, ap, ◌∙◌, subst, slice_get}
use Rattle.std.specs.Prelude.{slice_set, ◌||◌, nat_eq, if◌then◌else◌}
use Rattle.std.specs.Cmp.Lexicographic.{pointwise}
use Rattle.std.proofs.lemmas.Bool.{and_from, or_left, or_right}
use Rattle.std.proofs.Math.ListN.{replicate}
use Rattle.mo_types.specs.declared.node.Field.{Field}
use Rattle.mo_types.specs.declared.node.Node.{Node}
use Rattle.mo_types.specs.declared.node.Node.TheVariants as node
use Rattle.mo_types.specs.declared.node.TypeId.{TypeId}
use Rattle.mo_types.specs.Graph.{Slot}
use Rattle.mo_types.specs.Sub.{Each, find}
use Rattle.mo_types.specs.Values.{types_of}
use Rattle.mo_values.specs.Shapes.{Bytes}
use Rattle.subtype_laws.specs.Labels.{OwnLabels}
use Rattle.pattern_coverage.specs.Cover.{Tells}
use Rattle.typed_tree.specs.Types.{AreLawful}
use Rattle.pattern_coverage.specs.Inhabited.{always, HasValues, ByForm, ByParts, ByFields, ByTag, ByBound, EachHasValues, NoType, AType, all_have, some_has, by_parts, IsSound, IsClosed, flag_there, in_table, left_out, type_at, IsNext, AreDone}
use Rattle.typed_tree.proofs.OwnLabels.{labels_own}
use Rattle.pattern_coverage.specs.Followed.{end_of, value_head}
use Rattle.pattern_coverage.proofs.Ends.{past}
use Rattle.pattern_coverage.proofs.Same.{both}
use Rattle.pattern_coverage.proofs.Seen.{no}

module _ (head : TypeId → Node TypeId) (own : (t : TypeId) → OwnLabels (head t)) (has : TypeId → Bool) (sound : IsSound head has) where
  each_has : (ts : List TypeId) → all_have has ts ≡ true → EachHasValues head ts
  each_has [] e = NoType
  each_has (t ∷ ts) e = let b = both (has t) (all_have has ts) e in AType t ts (sound t b.0) (each_has ts b.1)

  tag_has : (t : TypeId) (all fs : List (Field TypeId)) → head t ≡ node.Variant all → Each (λ f. find f.label all ≡ Some f) fs → some_has has (types_of fs) ≡ true → HasValues head t
  tag_has t all [] n o e = absurd (no e)
  tag_has t all (f ∷ fs) n o e = by (has f.part) refl e (tag_has t all fs n o.1)
    where
      by : (b : Bool) → has f.part ≡ b → (b || some_has has (types_of fs)) ≡ true → (some_has has (types_of fs) ≡ true → HasValues head t) → HasValues head t
      by true q e k = ByTag t all f.label f n o.0 (sound f.part q)
      by false q e k = k e

  by_head : (x : Node TypeId) (t : TypeId) → head t ≡ x → by_parts has x ≡ true → HasValues head t
  by_head (node.Tuple ts) t n e = ByParts t ts n (each_has ts e)
  by_head (node.Object fs) t n e = ByFields t fs n (each_has (types_of fs) e)
  by_head (node.Variant fs) t n e = tag_has t fs fs n (subst OwnLabels n (own t)) e
  by_head (node.Variable v b) t n e = ByBound t b v n (sound b e)
  by_head x t n e = ByForm t (ap always n ∙ e)

  pub rules : (t : TypeId) → by_parts has (head t) ≡ true → HasValues head t
  rules t e = by_head (head t) t refl e

module _ (head : TypeId → Node TypeId) (has : TypeId → Bool) (closed : IsClosed head has) where
  form_rule : (x : Node TypeId) → always x ≡ true → by_parts has x ≡ true
  form_rule (node.Tuple ts) e = absurd (no e)
  form_rule (node.Object fs) e = absurd (no e)
  form_rule (node.Variant fs) e = absurd (no e)
  form_rule (node.Variable v b) e = absurd (no e)
  form_rule x e = e

  found_some : (l : Bytes) (g : Field TypeId) (fs : List (Field TypeId)) → find l fs ≡ Some g → has g.part ≡ true → some_has has (types_of fs) ≡ true
  found_some l g [] e h = cc
  found_some l g (f ∷ fs) e h = by (pointwise nat_eq f.label l) e (λ e. found_some l g fs e h)
    where
      by : (b : Bool) → (if b then Some f else find l fs) ≡ Some g → (find l fs ≡ Some g → some_has has (types_of fs) ≡ true) → (has f.part || some_has has (types_of fs)) ≡ true
      by true e k = let s : f ≡ g = cc in or_left (has f.part) (some_has has (types_of fs)) (ap (λ f. has f.part) s ∙ h)
      by false e k = or_right (has f.part) (some_has has (types_of fs)) (k e)

  by_rule : (x : Node TypeId) (t : TypeId) → head t ≡ x → by_parts has x ≡ true → has t ≡ true
  by_rule x t n e = closed t (ap (by_parts has) n ∙ e)

  mutual
    whole : (t : TypeId) → HasValues head t → has t ≡ true
    whole t (ByForm _ e) = closed t (form_rule (head t) e)
    whole t (ByParts _ ts n h) = by_rule (node.Tuple ts) t n (each_whole ts h)
    whole t (ByFields _ fs n h) = by_rule (node.Object fs) t n (each_whole (types_of fs) h)
    whole t (ByTag _ fs l g n e h) = by_rule (node.Variant fs) t n (found_some l g fs e (whole g.part h))
    whole t (ByBound _ b v n h) = by_rule (node.Variable v b) t n (whole b h)

    each_whole : (ts : List TypeId) → EachHasValues head ts → all_have has ts ≡ true
    each_whole [] NoType = refl
    each_whole (t ∷ ts) (AType _ _ h hs) = and_from (has t) (all_have has ts) (whole t h) (each_whole ts hs)

  pub tells : IsSound head has → Tells head has
  tells sound t = (sound t, whole t)

-- ---- tables by numbers

there : (table : List Bool) (i : ℕ) → slice_get table i ≡ Some false → left_out (slice_set table i true) < left_out table
there [] i e = cc
there (true ∷ bs) zero e = cc
there (false ∷ bs) zero e = omega arith
there (true ∷ bs) (suc i) e = there bs i e
there (false ∷ bs) (suc i) e = let h : left_out (slice_set bs i true) < left_out bs = there bs i e in omega (arith, h)

set_there : (table : List Bool) (i j : ℕ) → flag_there (slice_get (slice_set table i true) j) ≡ true → (j ≡ i) ⊎ (flag_there (slice_get table j) ≡ true)
set_there [] i j e = inr e
set_there (b ∷ bs) zero zero e = inl refl
set_there (b ∷ bs) zero (suc j) e = inr e
set_there (b ∷ bs) (suc i) zero e = inr e
set_there (b ∷ bs) (suc i) (suc j) e = later (set_there bs i j e)
  where
    later : (j ≡ i) ⊎ (flag_there (slice_get bs j) ≡ true) → (suc j ≡ suc i) ⊎ (flag_there (slice_get bs j) ≡ true)
    later (inl h) = inl (ap suc h)
    later (inr h) = inr h

none_there : (n j : ℕ) → flag_there (slice_get (replicate n false) j) ≡ true → ⊥
none_there zero j e = no e
none_there (suc n) zero e = no e
none_there (suc n) (suc j) e = none_there n j e

module _ (types : List Slot) where
  abbrev head : TypeId → Node TypeId
  head = value_head types

  pub begins : (n : ℕ) → IsSound head (in_table (replicate n false))
  begins n t e = absurd (none_there n t.index e)

  pub fewer : (table : List Bool) (i : ℕ) → IsNext head table i → left_out (slice_set table i true) < left_out table
  fewer table i h = there table i h.0

  pub keeps : (table : List Bool) (i : ℕ) → AreLawful types → IsSound head (in_table table) → IsNext head table i → IsSound head (in_table (slice_set table i true))
  keeps table i lawful sound h t e = by (set_there table i t.index e)
    where
      by : (t.index ≡ i) ⊎ (flag_there (slice_get table t.index) ≡ true) → HasValues head t
      by (inl s) = rules head (λ u. labels_own types lawful (end_of types u)) (in_table table) sound t (subst (λ i. by_parts (in_table table) (head (type_at i)) ≡ true) (sym s) h.1)
      by (inr s) = sound t s

  less_or : (j r : ℕ) → (j < r) ⊎ (r ≤ j)
  less_or j zero = inr (omega arith)
  less_or zero (suc r) = inl (omega arith)
  less_or (suc j) (suc r) = by (less_or j r)
    where
      by : (j < r) ⊎ (r ≤ j) → (suc j < suc r) ⊎ (suc r ≤ suc j)
      by (inl h) = inl (omega (arith, h))
      by (inr h) = inr (omega (arith, h))

  pub done : (table : List Bool) → length table ≡ length types → AreDone head table (length table) → IsSound head (in_table table) → Tells head (in_table table)
  done table l d sound = tells head (in_table table) closed sound
    where
      closed : IsClosed head (in_table table)
      closed t e = by (less_or t.index (length table))
        where
          by : (t.index < length table) ⊎ (length table ≤ t.index) → in_table table t ≡ true
          by (inl h) = d t.index h e
          by (inr h) = absurd (no (sym (ap (by_parts (in_table table)) (past types t (omega (arith, h, l)))) ∙ e))
