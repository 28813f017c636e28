-- Equality of values is the same at a type of the program and at the type that it comes to where nothing is put in.
use Rattle.std.proofs.Common.{◌≡◌, ◌∙◌, ◌≤◌, ℕ, zero, suc, List, [], ◌∷◌, length, Bool, true, false, cond, Option, Some, None, refl, sym, ap, ap₂, arith, subst}
use Rattle.std.specs.Prelude.{nat_lt}
use Rattle.std.proofs.lemmas.Bool.{ltb-true, ltb-false}
use Rattle.std.proofs.lemmas.Option.{slice_get_past}
use Rattle.mo_types.specs.declared.node.Node.{Node}
use Rattle.mo_types.specs.declared.node.Node.TheVariants as node
use Rattle.mo_types.specs.declared.node.TypeId.{TypeId}
use Rattle.mo_types.specs.Graph.{Slot, node_of_slot, node_or_bottom, head_at}
use Rattle.mo_types.specs.Heads.{is_any, variable_of}
use Rattle.mo_types.specs.Sub.{Each}
use Rattle.mo_types.specs.Values.{Values, Nil, Value}
use Rattle.mo_values.specs.Equality.{same_forms, equal}
use Rattle.mo_values.specs.Messages.{plain}
use Rattle.mo_values.specs.Shapes.{Shape, Made, Function}
use Rattle.typed_tree.specs.Instances.{types_in, field_types}
use Rattle.typed_tree.specs.Opening.{Code}
use Rattle.typed_tree.specs.Shareable.{HasShareableForm, PartsShareable, Compares, IsComparable}
use Rattle.typed_tree.specs.Types.{AreLawful}
use Rattle.closed_types.specs.Expanded.{none_id, closed_as, close_in, expanded}
use Rattle.closed_types.proofs.Constants.{comparable_shareable}
use Rattle.closed_types.proofs.Expanded.{none_there}
use Rattle.closed_rules.proofs.Constants.{IsConstant, stays, parts_constant, head_stays}
use Rattle.closed_rules.proofs.SameHeads.{equal_same}

-- ---- at None nothing depends on further types

abbrev nothing : {A : Type 0} → A → Node A
nothing t = node.Bottom

forms_nothing : {A B : Type 0} (t : A) (u : B) (a b : Option Values) → same_forms nothing t a b ≡ same_forms nothing u a b
forms_nothing t u None b = refl
forms_nothing t u (Some a) None = refl
forms_nothing t u (Some Nil) (Some Nil) = refl
forms_nothing t u (Some Nil) (Some (Value q i o)) = refl
forms_nothing t u (Some (Value p i o)) (Some Nil) = refl
forms_nothing t u (Some (Value p i o)) (Some (Value q j r)) = refl

plain_nothing : {A B F : Type 0} (t : A) (u : B) (v : Shape F) → plain nothing t v ≡ plain nothing u v
plain_nothing t u (Made h within) = refl
plain_nothing t u (Function f) = refl

equal_nothing : {A B F : Type 0} (t : A) (u : B) (v w : Shape F) → equal nothing t v w ≡ equal nothing u v w
equal_nothing t u v w = ap₂ (same_forms nothing t) (plain_nothing t u v) (plain_nothing t u w) ∙ forms_nothing t u (plain nothing u v) (plain nothing u w)

bottom_parts : {A : Type 0} (x : Node A) (P : A → Type 0) → x ≡ node.Bottom → Each P (types_in x)
bottom_parts x P e = subst (λ y. Each P (types_in y)) (sym e) tt

none_equal : {A F : Type 0} (head : A → Node A) (t : A) → head t ≡ node.Bottom → (v w : Shape F) → equal head t v w ≡ equal nothing t v w
none_equal head t e v w = sym (equal_same head nothing (λ x. x ≡ t) (λ x q. let f : head x ≡ node.Bottom = ap head q ∙ e in (sym f, bottom_parts (head x) (λ y. y ≡ t) f)) t v w refl)

module _ (types : List Slot) (first : ℕ) (past : length types ≤ first) (lawful : AreLawful types) where
  -- ---- which types may be compared

  parts_compare : (n : ℕ) → ((t : TypeId) → IsConstant types first past lawful t → Compares (head_at types) n t → Compares (expanded types first) n t) → (ts : List TypeId) → Each (IsConstant types first past lawful) ts → Each (Compares (head_at types) n) ts → Each (Compares (expanded types first) n) ts
  parts_compare n go [] c h = tt
  parts_compare n go (t ∷ ts) c h = (go t c.0 h.0, parts_compare n go ts c.1 h.1)

  form_compares : (n : ℕ) → ((t : TypeId) → IsConstant types first past lawful t → Compares (head_at types) n t → Compares (expanded types first) n t) → (x : Node TypeId) → Each (IsConstant types first past lawful) (types_in x) → PartsShareable (Compares (head_at types) n) x → PartsShareable (Compares (expanded types first) n) x
  form_compares n go (node.Actor fs) c h = tt
  form_compares n go (node.Func s ps rs) c h = tt
  form_compares n go (node.Opt a) c h = parts_compare n go (a ∷ []) c h
  form_compares n go (node.Array a) c h = parts_compare n go (a ∷ []) c h
  form_compares n go (node.MutArray a) c h = parts_compare n go (a ∷ []) c h
  form_compares n go (node.Tuple ts) c h = parts_compare n go ts c h
  form_compares n go (node.Object fs) c h = parts_compare n go (field_types fs) c h
  form_compares n go (node.Variant fs) c h = parts_compare n go (field_types fs) c h
  form_compares n go (node.Async a) c h = parts_compare n go (a ∷ []) c h
  form_compares n go (node.Variable v b) c h = parts_compare n go (b ∷ []) c h
  form_compares n go x c h = tt

  compares : (n : ℕ) (t : TypeId) → IsConstant types first past lawful t → Compares (head_at types) n t → Compares (expanded types first) n t
  unfolding Compares
  compares zero t c h = tt
  compares (suc n) t c h =
      subst (λ (x : Node TypeId). HasShareableForm x × (is_any x ≡ false) × PartsShareable (Compares (expanded types first) n) x) (sym (head_stays types first past lawful t c))
      (h.0, h.1, form_compares n (compares n) (head_at types t) (parts_constant types first past lawful t c) h.2)

  none_compares : (u : TypeId) → expanded types first u ≡ node.Bottom → IsComparable (expanded types first) u
  unfolding Compares
  none_compares u e = record { by = λ n. by n } where
    by : (n : ℕ) → Compares (expanded types first) n u
    by zero = tt
    by (suc n) = subst (λ (x : Node TypeId). HasShareableForm x × (is_any x ≡ false) × PartsShareable (Compares (expanded types first) n) x) (sym e) (tt, refl, tt)

  -- ---- equality

  -- the type that is compared at, where nothing is put in
  pub record Compared (t : TypeId) : Type 0 where
    pub comparable : IsComparable (expanded types first) (close_in types first [] t)
    pub same : (v w : Shape Code) → equal (head_at types) t v w ≡ equal (expanded types first) (close_in types first [] t) v w

  constant_compared : (t : TypeId) → IsConstant types first past lawful t → IsComparable (head_at types) t → Compared t
  constant_compared t c h =
      let e = stays types first past lawful t c in
      record {
        comparable = subst (IsComparable (expanded types first)) (sym e) (record { by = λ n. compares n t c (h.by n) });
        same = λ v w. sym (equal_same (head_at types) (expanded types first) (IsConstant types first past lawful) (λ u k. (head_stays types first past lawful u k, parts_constant types first past lawful u k)) t v w c)
            ∙ ap (λ u. equal (expanded types first) u v w) (sym e);
      }

  out_of_range : (t : TypeId) → nat_lt t.index first ≡ false → head_at types t ≡ node.Bottom
  out_of_range t l = ap (λ s. node_or_bottom (node_of_slot s)) (slice_get_past types t.index (over (length types) first t.index past (ltb-false t.index first l))) where
    over : (k n m : ℕ) → k ≤ n → n ≤ m → k ≤ m
    over k n m p q = omega arith

  -- a type that is no type of the program is None
  pub beyond : (t : TypeId) → nat_lt t.index first ≡ false → (head_at types t ≡ node.Bottom) × (expanded types first (close_in types first [] t) ≡ node.Bottom)
  beyond t l =
      let bottom : head_at types t ≡ node.Bottom = out_of_range t l in
      let is : close_in types first [] t ≡ none_id types first = ap (λ x. closed_as types first [] t (variable_of x)) bottom ∙ ap (λ b. cond b t (none_id types first)) l in
      (bottom, ap (expanded types first) is ∙ none_there types first past)

  none_compared : (t : TypeId) → nat_lt t.index first ≡ false → Compared t
  none_compared t l =
      let bottom : head_at types t ≡ node.Bottom = (beyond t l).0 in
      let there : expanded types first (close_in types first [] t) ≡ node.Bottom = (beyond t l).1 in
      record {
        comparable = none_compares (close_in types first [] t) there;
        same = λ v w. none_equal (head_at types) t bottom v w ∙ equal_nothing t (close_in types first [] t) v w ∙ sym (none_equal (expanded types first) (close_in types first [] t) there v w);
      }

  pub compared : (t : TypeId) → IsComparable (head_at types) t → Compared t
  compared t h = by (nat_lt t.index first) refl where
    by : (b : Bool) → nat_lt t.index first ≡ b → Compared t
    by true e = constant_compared t (comparable_shareable (head_at types) t h, ltb-true t.index first e) h
    by false e = none_compared t e
