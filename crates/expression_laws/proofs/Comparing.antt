-- Comparable types, seen in the graph.
use Rattle.std.proofs.Common.{◌≡◌, inl, inr, ℕ, zero, suc, false, List, [], ◌∷◌, map, refl, sym, ap, ◌∙◌, subst}
use Rattle.mo_types.specs.declared.node.Field.{Field}
use Rattle.mo_types.specs.declared.node.Node.{Node}
use Rattle.mo_types.specs.declared.node.Node.TheVariants as node
use Rattle.mo_types.specs.Graph.{head_at}
use Rattle.mo_types.specs.Heads.{is_any}
use Rattle.mo_types.specs.Sub.{Each}
use Rattle.mo_subtype.specs.Renamed.{on_field, on_node}
use Rattle.subtype_laws.specs.Reached.{Among}
use Rattle.typed_tree.specs.Instances.{field_types, types_in}
use Rattle.typed_tree.specs.Shareable.{HasShareableForm, PartsShareable, Compares, IsComparable}
use Rattle.typing_rules.specs.Heads.{head}
use Rattle.typing_rules.specs.Terms.{Term}
use Rattle.desugaring_laws.proofs.Graph.{head_number, parts_there}
use Rattle.expression_laws.proofs.Ending.{Setting}

module _ {A B : Type 0} (f : A → B) where
  fixed_seen : (fs : List (Field A)) → Each (λ x. x.mutable ≡ false) fs → Each (λ x. x.mutable ≡ false) (map (on_field f) fs)
  fixed_seen [] h = tt
  fixed_seen (x ∷ fs) h = (h.0, fixed_seen fs h.1)

  form_seen : (y : Node A) → HasShareableForm y → HasShareableForm (on_node f y)
  form_seen (node.Number k) h = tt
  form_seen node.Bool h = tt
  form_seen node.Char h = tt
  form_seen node.Text h = tt
  form_seen node.Blob h = tt
  form_seen node.Principal h = tt
  form_seen node.Error h = absurd h
  form_seen node.Null h = tt
  form_seen node.Any h = tt
  form_seen node.Bottom h = tt
  form_seen (node.Opt a) h = tt
  form_seen (node.Array a) h = tt
  form_seen (node.MutArray a) h = absurd h
  form_seen (node.Tuple ts) h = tt
  form_seen (node.Object fs) h = fixed_seen fs h
  form_seen (node.Actor fs) h = tt
  form_seen (node.Variant fs) h = tt
  form_seen (node.Func s ps rs) h = h
  form_seen (node.Async a) h = absurd h
  form_seen (node.Variable v b) h = absurd h

  any_seen : (y : Node A) → is_any (on_node f y) ≡ is_any y
  any_seen (node.Number k) = refl
  any_seen node.Bool = refl
  any_seen node.Char = refl
  any_seen node.Text = refl
  any_seen node.Blob = refl
  any_seen node.Principal = refl
  any_seen node.Error = refl
  any_seen node.Null = refl
  any_seen node.Any = refl
  any_seen node.Bottom = refl
  any_seen (node.Opt a) = refl
  any_seen (node.Array a) = refl
  any_seen (node.MutArray a) = refl
  any_seen (node.Tuple ts) = refl
  any_seen (node.Object fs) = refl
  any_seen (node.Actor fs) = refl
  any_seen (node.Variant fs) = refl
  any_seen (node.Func s ps rs) = refl
  any_seen (node.Async a) = refl
  any_seen (node.Variable v b) = refl

  each_seen : (P : A → Type 0) (Q : B → Type 0) (xs : List A) → ((x : A) → Among x xs → P x → Q (f x)) → Each P xs → Each Q (map f xs)
  each_seen P Q [] g h = tt
  each_seen P Q (x ∷ xs) g h = (g x (inl refl) h.0, each_seen P Q xs (λ y m. g y (inr m)) h.1)

  fields_seen : (P : A → Type 0) (Q : B → Type 0) (fs : List (Field A)) → ((x : A) → Among x (field_types fs) → P x → Q (f x)) → Each P (field_types fs) → Each Q (field_types (map (on_field f) fs))
  fields_seen P Q [] g h = tt
  fields_seen P Q (x ∷ fs) g h = (g x.part (inl refl) h.0, fields_seen P Q fs (λ y m. g y (inr m)) h.1)

  parts_seen : (P : A → Type 0) (Q : B → Type 0) (y : Node A) → ((x : A) → Among x (types_in y) → P x → Q (f x)) → PartsShareable P y → PartsShareable Q (on_node f y)
  parts_seen P Q (node.Number k) g h = tt
  parts_seen P Q node.Bool g h = tt
  parts_seen P Q node.Char g h = tt
  parts_seen P Q node.Text g h = tt
  parts_seen P Q node.Blob g h = tt
  parts_seen P Q node.Principal g h = tt
  parts_seen P Q node.Error g h = tt
  parts_seen P Q node.Null g h = tt
  parts_seen P Q node.Any g h = tt
  parts_seen P Q node.Bottom g h = tt
  parts_seen P Q (node.Opt a) g h = (g a (inl refl) h.0, tt)
  parts_seen P Q (node.Array a) g h = (g a (inl refl) h.0, tt)
  parts_seen P Q (node.MutArray a) g h = (g a (inl refl) h.0, tt)
  parts_seen P Q (node.Tuple ts) g h = each_seen P Q ts g h
  parts_seen P Q (node.Object fs) g h = fields_seen P Q fs g h
  parts_seen P Q (node.Actor fs) g h = tt
  parts_seen P Q (node.Variant fs) g h = fields_seen P Q fs g h
  parts_seen P Q (node.Func s ps rs) g h = tt
  parts_seen P Q (node.Async a) g h = (g a (inl refl) h.0, tt)
  parts_seen P Q (node.Variable v b) g h = (g b (inl refl) h.0, tt)

module _ (S : Setting) where
  compares : (n : ℕ) (u : Term) → Among u S.terms → Compares (head S.defs) n u → Compares (head_at S.slots) n (S.number u)
  unfolding Compares
  compares zero u m h = tt
  compares (suc n) u m h =
      let e = head_number S.defs S.slots S.terms S.number S.graph u m in (
        subst (λ y. HasShareableForm y) (sym e) (form_seen S.number (head S.defs u) h.0),
        ap is_any e ∙ (any_seen S.number (head S.defs u) ∙ h.1),
        subst (λ y. PartsShareable (Compares (head_at S.slots) n) y) (sym e)
            (parts_seen S.number (Compares (head S.defs) n) (Compares (head_at S.slots) n) (head S.defs u)
            (λ v p k. compares n v (parts_there S.defs S.slots S.terms S.number S.graph u v m p) k) h.2),
      )

  pub comparable : (u : Term) → Among u S.terms → IsComparable (head S.defs) u → IsComparable (head_at S.slots) (S.number u)
  comparable u m h = record { by = λ n. compares n u m (h.by n) }
