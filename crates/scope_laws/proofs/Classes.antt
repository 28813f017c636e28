-- The types of classes.
use Rattle.std.proofs.Common.{◌≡◌, inl, inr, ℕ, Bool, true, false, not, List, [], ◌∷◌, ◌++◌, length, map, Some, refl, sym, ap, ap₂, ◌∙◌, subst}
use Rattle.std.proofs.lemmas.Bool.{eqb-true}
use Rattle.std.proofs.Math.Facts.{eqb_no}
use Rattle.std.specs.Prelude.{T, cond, nat_eq}
use Rattle.mo_types.specs.declared.node.Node.TheVariants as node
use Rattle.typed_tree.specs.Instances.{IsAmong}
use Rattle.typing_rules.specs.DeclaredTypes.{within, with_list, member_fields}
use Rattle.typing_rules.specs.Definitions.{Definition, Definitions, definition_at, at_reached, found_of, parameters_of, followed, each_followed, followed_right, reaches, reached, or_bottom, unfolded}
use Rattle.typing_rules.specs.Gathered.{class_object}
use Rattle.typing_rules.specs.Heads.{shape, head}
use Rattle.typing_rules.specs.Terms.{Term, Terms, Fields, unlisted, listed_fields, put_in, each_put_in, fields_put_in, argument_of}
use Rattle.typing_rules.specs.Terms as t
use Rattle.typing_rules.specs.TypeScopes.{names_of, places_of}
use Rattle.desugaring_laws.specs.Scopes.{IsIn, AreIn, FieldsAreIn}
use Rattle.scope_laws.specs.Laws.{ClassesAreObjects}
use Rattle.scope_laws.proofs.Members.{members_in}
use Rattle.scope_laws.proofs.Parts.{each_of}
use Rattle.scope_laws.proofs.Scoped.{names_with_list, names_with_parameters, parameters_listed, parameters_with}

-- ---- type parameters in their own places

module _ (ps : List ℕ) (put : ℕ → Term) (same : (v : ℕ) → IsAmong v ps → put v ≡ t.Parameter v) where
  mutual
    put_same : (u : Term) → IsIn ps u → put_in put u ≡ u
    put_same (t.Number k) h = refl
    put_same t.Boolean h = refl
    put_same t.Character h = refl
    put_same t.Text h = refl
    put_same t.Blob h = refl
    put_same t.Principal h = refl
    put_same t.Error h = refl
    put_same t.Null h = refl
    put_same t.Any h = refl
    put_same t.Bottom h = refl
    put_same (t.Optional a) h = ap (λ z. t.Optional z) (put_same a h)
    put_same (t.Array a) h = ap (λ z. t.Array z) (put_same a h)
    put_same (t.MutableArray a) h = ap (λ z. t.MutableArray z) (put_same a h)
    put_same (t.Tuple parts) h = ap (λ z. t.Tuple z) (each_same parts h)
    put_same (t.Object fields) h = ap (λ z. t.Object z) (fields_same fields h)
    put_same (t.Actor methods) h = ap (λ z. t.Actor z) (fields_same methods h)
    put_same (t.Variant tags) h = ap (λ z. t.Variant z) (fields_same tags h)
    put_same (t.Function qs r) h = ap₂ (λ x y. t.Function x y) (each_same qs h.0) (put_same r h.1)
    put_same (t.Shared how qs r) h = ap₂ (λ x y. t.Shared how x y) (each_same qs h.0) (put_same r h.1)
    put_same (t.Async a) h = ap (λ z. t.Async z) (put_same a h)
    put_same (t.Parameter v) h = same v h
    put_same (t.Use at arguments) h = ap (λ z. t.Use at z) (each_same arguments h)

    each_same : (us : Terms) → AreIn ps us → each_put_in put us ≡ us
    each_same t.Nil h = refl
    each_same (t.Cons u rest) h = ap₂ (λ x y. t.Cons x y) (put_same u h.0) (each_same rest h.1)

    fields_same : (fs : Fields) → FieldsAreIn ps fs → fields_put_in put fs ≡ fs
    fields_same t.NoFields h = refl
    fields_same (t.WithField l mutable u rest) h = ap₂ (λ x y. t.WithField l mutable x y) (put_same u h.0) (fields_same rest h.1)

itself : (ps : List ℕ) (v : ℕ) → IsAmong v ps → argument_of ps (unlisted (map t.Parameter ps)) v ≡ t.Parameter v
itself [] v m = absurd m
itself (q ∷ ps) v m = by (nat_eq q v) refl m (λ k. itself ps v k) where
  by : (b : Bool) → nat_eq q v ≡ b → IsAmong v (q ∷ ps) → (IsAmong v ps → argument_of ps (unlisted (map t.Parameter ps)) v ≡ t.Parameter v) → cond (nat_eq q v) (t.Parameter q) (argument_of ps (unlisted (map t.Parameter ps)) v) ≡ t.Parameter v
  by true e k next = ap (λ b. cond b (t.Parameter q) (argument_of ps (unlisted (map t.Parameter ps)) v)) e ∙ ap (λ n. t.Parameter n) (eqb-true q v e)
  by false e (inl k) next = absurd (eqb_no {a = q} {b = v} (subst (λ b. T (not b)) (sym e) tt) (sym k))
  by false e (inr k) next = ap (λ b. cond b (t.Parameter q) (argument_of ps (unlisted (map t.Parameter ps)) v)) e ∙ next k

-- ---- classes

module _ (defs : Definitions) where
  -- the use of a definition whose right side has fields, at its own type parameters
  object_there : (at : ℕ) (d : Definition) (fs : Fields) → definition_at defs.types at ≡ Some d → d.right ≡ t.Object fs → FieldsAreIn (d.outer ++ d.own) fs
      → unfolded defs.types (t.Use at (unlisted (map t.Parameter (d.outer ++ d.own)))) ≡ t.Object fs
  object_there at d fs e r h =
      let ps = d.outer ++ d.own in
      let us = unlisted (map t.Parameter ps) in
      let found : reached defs.types at ≡ Some (t.Object fs) = ap (λ o. followed_right defs.types (reaches defs.types (length defs.types)) o) e ∙ ap (λ u. followed defs.types (reaches defs.types (length defs.types)) u) r in
      ap (λ o. or_bottom defs.types (at_reached (argument_of (parameters_of (definition_at defs.types at)) us) (found_of (parameters_of (definition_at defs.types at)) (each_followed defs.types (reached defs.types) us)) o)) found
      ∙ (ap (λ o. t.Object (fields_put_in (argument_of (parameters_of o) us) fs)) e ∙ ap (λ z. t.Object z) (fields_same ps (argument_of ps us) (λ v m. itself ps v m) fs h))

  head_of_object : (u : Term) (fs : Fields) → unfolded defs.types u ≡ t.Object fs → head defs u ≡ node.Object (listed_fields fs)
  unfolding head
  head_of_object u fs e = ap (λ z. shape defs z) e

pub classes_are_objects : ClassesAreObjects
classes_are_objects defs vs s fine x g fields h plain =
    let inner = within s g in
    let ps = s.parameters ++ places_of (names_of g.generics) in
    let fs = member_fields (with_list inner fields) fields in
    let same : inner.parameters ≡ ps = parameters_with (names_of g.generics) s in
    let listed : (with_list inner fields).parameters ≡ inner.parameters = parameters_listed fields inner in
    let names = names_with_list fields inner (names_with_parameters (names_of g.generics) s fine.names) in
    let there : FieldsAreIn (with_list inner fields).parameters fs = members_in (with_list inner fields).parameters (with_list inner fields) names (each_of (λ v. IsAmong v (with_list inner fields).parameters) (with_list inner fields).parameters (λ v m. m)) fields plain in
    let all : FieldsAreIn ps fs = subst (λ qs. FieldsAreIn qs fs) (listed ∙ same) there in
    ap (λ qs. head defs (t.Use x.at (unlisted (map t.Parameter qs)))) same
    ∙ head_of_object defs (t.Use x.at (unlisted (map t.Parameter ps))) fs (object_there defs x.at (record { at = x.at; outer = s.parameters; own = places_of (names_of g.generics); right = class_object s g fields }) fs h.types.0 refl all)
