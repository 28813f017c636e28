-- The parts of a head, and those among them that rules go on with.
use Rattle.std.proofs.Common.{◌≡◌, ℕ, zero, suc, Bool, true, false, List, [], ◌∷◌, ◌++◌, length, Option, Some, None, refl, ap, subst, arith}
use Rattle.std.specs.Prelude.{nat_eq, if◌then◌else◌, cond, slice_get}
use Rattle.std.specs.Option.{option_and_then}
use Rattle.std.specs.Cmp.Lexicographic.{pointwise}
use Rattle.mo_types.specs.declared.node.Node.{Node}
use Rattle.mo_types.specs.declared.node.Node.TheVariants as node
use Rattle.mo_types.specs.declared.node.Field.{Field}
use Rattle.mo_types.specs.declared.node.Sort.{Sort}
use Rattle.mo_types.specs.declared.node.Sort.TheVariants as sort
use Rattle.mo_types.specs.Heads.{opt_of, array_of, mut_array_of, tuple_of, object_of, variant_of, func_of, async_of}
use Rattle.mo_types.specs.Sub.{Each, find}
use Rattle.typed_tree.specs.Instances.{types_in, field_types}
use Rattle.typing_rules.specs.Terms.{Term, listed, unlisted}
use Rattle.typing_rules.specs.Terms as t
use Rattle.typing_rules.specs.Definitions.{Definitions}
use Rattle.typing_rules.specs.Expressions.{element_of}
use Rattle.typing_rules.specs.Calls.{local_of, called}
use Rattle.typing_rules.specs.Heads.{result}
use Rattle.typing_rules.specs.Members.{object_field, unless_mutable, constant_field}
use Rattle.proper_laws.specs.Proper.{IsProper, AreProper, IsMet}

-- ---- by the form of the head

module _ {A : Type 0} (P : A → Type 0) where
  pub option_part : (y : Node A) (v : A) → opt_of y ≡ Some v → Each P (types_in y) → P v
  option_part (node.Opt a) v e h = let g : a ≡ v = cc in subst P g h.0
  option_part (node.Number k) v e h = cc
  option_part y v e h = cc

  pub array_part : (y : Node A) (v : A) → array_of y ≡ Some v → Each P (types_in y) → P v
  array_part (node.Array a) v e h = let g : a ≡ v = cc in subst P g h.0
  array_part (node.Number k) v e h = cc
  array_part y v e h = cc

  pub mut_array_part : (y : Node A) (v : A) → mut_array_of y ≡ Some v → Each P (types_in y) → P v
  mut_array_part (node.MutArray a) v e h = let g : a ≡ v = cc in subst P g h.0
  mut_array_part (node.Number k) v e h = cc
  mut_array_part y v e h = cc

  pub async_part : (y : Node A) (v : A) → async_of y ≡ Some v → Each P (types_in y) → P v
  async_part (node.Async a) v e h = let g : a ≡ v = cc in subst P g h.0
  async_part (node.Number k) v e h = cc
  async_part y v e h = cc

  pub tuple_parts : (y : Node A) (us : List A) → tuple_of y ≡ Some us → Each P (types_in y) → Each P us
  tuple_parts (node.Tuple ts) us e h = let g : ts ≡ us = cc in subst (λ z. Each P z) g h
  tuple_parts (node.Number k) us e h = cc
  tuple_parts y us e h = cc

  pub object_parts : (y : Node A) (fs : List (Field A)) → object_of y ≡ Some fs → Each P (types_in y) → Each P (field_types fs)
  object_parts (node.Object gs) fs e h = let g : gs ≡ fs = cc in subst (λ z. Each P (field_types z)) g h
  object_parts (node.Number k) fs e h = cc
  object_parts y fs e h = cc

  pub variant_parts : (y : Node A) (fs : List (Field A)) → variant_of y ≡ Some fs → Each P (types_in y) → Each P (field_types fs)
  variant_parts (node.Variant gs) fs e h = let g : gs ≡ fs = cc in subst (λ z. Each P (field_types z)) g h
  variant_parts (node.Number k) fs e h = cc
  variant_parts y fs e h = cc

  first_each : (xs ys : List A) → Each P (xs ++ ys) → Each P xs
  first_each [] ys h = tt
  first_each (x ∷ xs) ys h = (h.0, first_each xs ys h.1)

  last_each : (xs ys : List A) → Each P (xs ++ ys) → Each P ys
  last_each [] ys h = h
  last_each (x ∷ xs) ys h = last_each xs ys h.1

  pub function_parts : (y : Node A) (q : Sort × List A × List A) → func_of y ≡ Some q → Each P (types_in y) → Each P q.1 × Each P q.2
  function_parts (node.Func s ps rs) q e h = let g : (s, ps, rs) ≡ q = cc in subst (λ (z : Sort × List A × List A). Each P z.1 × Each P z.2) g (first_each ps rs h, last_each ps rs h)
  function_parts (node.Number k) q e h = cc
  function_parts y q e h = cc

  -- ---- one of several

  found_if : (b : Bool) (x : Field A) (o : Option (Field A)) (f : Field A) → P x.part → (o ≡ Some f → P f.part) → (if b then Some x else o) ≡ Some f → P f.part
  found_if true x o f h k e = let g : x ≡ f = cc in subst (λ z. P z.part) g h
  found_if false x o f h k e = k e

  pub field_part : (l : List ℕ) (fs : List (Field A)) (f : Field A) → Each P (field_types fs) → find l fs ≡ Some f → P f.part
  field_part l [] f h e = cc
  field_part l (x ∷ fs) f h e = found_if (pointwise nat_eq x.label l) x (find l fs) f h.0 (field_part l fs f h.1) e

  pub part_at : (us : List A) (n : ℕ) (u : A) → Each P us → slice_get us n ≡ Some u → P u
  part_at [] n u h e = cc
  part_at (v ∷ us) zero u h e = let g : v ≡ u = cc in subst P g h.0
  part_at (v ∷ us) (suc n) u h e = part_at us n u h.1 e

pub element_part : (P : Term → Type 0) (y : Node Term) (v : Term) → element_of y ≡ Some v → Each P (types_in y) → P v
element_part P (node.Array a) v e h = let g : a ≡ v = cc in subst P g h.0
element_part P (node.MutArray a) v e h = let g : a ≡ v = cc in subst P g h.0
element_part P (node.Number k) v e h = cc
element_part P y v e h = cc

-- the fields of an object
pub object_field_part : (P : Term → Type 0) (x : List ℕ) (y : Node Term) (f : Field Term) → object_field x y ≡ Some f → Each P (types_in y) → P f.part
object_field_part P x (node.Object fs) f e h = field_part P x fs f h e
object_field_part P x (node.Number k) f e h = cc
object_field_part P x y f e h = cc

constant_if : (P : Term → Type 0) (o : Option (Field Term)) (f : Field Term) → ((g : Field Term) → o ≡ Some g → P g.part) → option_and_then unless_mutable o ≡ Some f → P f.part
constant_if P None f k e = cc
constant_if P (Some g) f k e = by g.mutable e where
  by : (b : Bool) → (cond b None (Some g)) ≡ Some f → P f.part
  by true i = cc
  by false i = let h : g ≡ f = cc in subst (λ z. P z.part) h (k g refl)

pub constant_field_part : (P : Term → Type 0) (x : List ℕ) (y : Node Term) (f : Field Term) → constant_field x y ≡ Some f → Each P (types_in y) → P f.part
constant_field_part P x y f e h = constant_if P (object_field x y) f (λ g i. object_field_part P x y g i h) e

-- ---- what calls give

module _ (defs : Definitions) where
  pub unlisted_proper : (us : List Term) → Each (IsProper defs) us → AreProper defs (unlisted us)
  unlisted_proper [] h = tt
  unlisted_proper (u ∷ us) h = (h.0, unlisted_proper us h.1)

  pub listed_back : (us : List Term) → length (listed (unlisted us)) ≡ length us
  listed_back [] = refl
  listed_back (u ∷ us) = ap (λ n. suc n) (listed_back us)

  two_not_one : (n : ℕ) → suc (suc n) ≡ 1 → ⊥
  two_not_one n e = omega arith

  pub result_proper : (rs : List Term) → Each (IsProper defs) rs → IsProper defs (result rs)
  result_proper [] h = (tt, λ e. cc)
  result_proper (r ∷ []) h = h.0
  result_proper (r ∷ s ∷ rs) h = (unlisted_proper (r ∷ s ∷ rs) h, λ e. two_not_one (length (listed (unlisted rs))) e)

  pub called_met : (how : Sort) (rs : List Term) → Each (IsProper defs) rs → IsMet defs (called how rs)
  called_met sort.Local [] h = (tt, λ e. cc)
  called_met sort.Local (r ∷ []) h = met_of r h.0 where
    met_of : (u : Term) → IsProper defs u → IsMet defs u
    met_of (t.Async a) k = absurd k
    met_of u k = k
  called_met sort.Local (r ∷ s ∷ rs) h = result_proper (r ∷ s ∷ rs) h
  called_met sort.Shared rs h = result_proper rs h
  called_met sort.Query rs h = result_proper rs h

  pub local_parts : (y : Node Term) (q : List Term × Term) → local_of y ≡ Some q → Each (IsProper defs) (types_in y) → Each (IsProper defs) q.0 × IsProper defs q.1
  local_parts (node.Func sort.Local ps rs) q e h =
      let g : (ps, result rs) ≡ q = cc in
      subst (λ (z : List Term × Term). Each (IsProper defs) z.0 × IsProper defs z.1) g (first_each (IsProper defs) ps rs h, result_proper rs (last_each (IsProper defs) ps rs h))
  local_parts (node.Func sort.Shared ps rs) q e h = cc
  local_parts (node.Func sort.Query ps rs) q e h = cc
  local_parts (node.Number k) q e h = cc
  local_parts y q e h = cc
