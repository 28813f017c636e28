-- Types that are written are proper, in whatever scope of types.
use Rattle.std.proofs.Common.{◌≡◌, ℕ, suc, true, false, List, [], ◌∷◌, ◌++◌, length, map, Option, Some, None, refl, sym, ap, subst, ◌∙◌}
use Rattle.mo_scopes.specs.declared.library.BuiltInType.{BuiltInType}
use Rattle.mo_scopes.specs.declared.library.BuiltInType.TheVariants as built_in
use Rattle.mo_scopes.specs.Scopes.{built_in_types, named}
use Rattle.mo_syntax.specs.declared.types.Sharing.TheVariants as sharing
use Rattle.mo_types.specs.declared.node.Node.{Node}
use Rattle.mo_types.specs.declared.node.Node.TheVariants as node
use Rattle.mo_types.specs.declared.node.Sort.TheVariants as sort
use Rattle.mo_types.specs.Label.{label_id}
use Rattle.mo_types.specs.Sub.{Each}
use Rattle.mo_types.specs.Values.{is_method_name}
use Rattle.typed_tree.specs.OperationTypes.{Distinct}
use Rattle.typed_tree.specs.Shareable.{IsSharedFunction}
use Rattle.typing_rules.specs.declared.condition.Condition.TheVariants as condition
use Rattle.typing_rules.specs.AbstractSyntax.{Bytes, TypeNode, TypeNodes, TypeFields}
use Rattle.typing_rules.specs.AbstractSyntax as p
use Rattle.typing_rules.specs.Definitions.{Definitions}
use Rattle.typing_rules.specs.Heads.{head}
use Rattle.typing_rules.specs.Judgements as j
use Rattle.typing_rules.specs.Terms.{Term, Terms, listed, unlisted, listed_fields}
use Rattle.typing_rules.specs.Terms as t
use Rattle.typing_rules.specs.Types.{count_types, is_shared_function, Proper, EachProper, FieldsProper, MethodsProper}
use Rattle.typing_rules.specs.TypeScopes.{TypeName, IsParameter, IsDefinition, TypeScope, type_named, built_in_term, use_term, term, terms, field_terms}
use Rattle.proper_laws.specs.Laws.{WrittenTypesAreProper}
use Rattle.proper_laws.specs.Meets.{MeetsOnly}
use Rattle.proper_laws.specs.Proper.{IsProper, AreProper, FieldsAreProper}
use Rattle.proper_laws.specs.Source.{labels_of, AreTags, AreMethods, IsTypeSource, AreTypesSource, AreFieldsSource}
use Rattle.proper_laws.proofs.Meeting.{more, part as after, tests, needs_each, each_shareable}

module _ (defs : Definitions) where
  built_in_proper : (o : Option BuiltInType) → IsProper defs (built_in_term o)
  built_in_proper None = tt
  built_in_proper (Some built_in.Nat) = tt
  built_in_proper (Some b) = tt

  back : (us : Terms) → unlisted (listed us) ≡ us
  back t.Nil = refl
  back (t.Cons u us) = ap (λ l. t.Cons u l) (back us)

  pub parameters_proper : (outer : List ℕ) (rest : Terms) → AreProper defs rest → AreProper defs (unlisted (map t.Parameter outer ++ listed rest))
  parameters_proper [] rest h = subst (λ us. AreProper defs us) (sym (back rest)) h
  parameters_proper (v ∷ outer) rest h = (tt, parameters_proper outer rest h)

  pub use_proper : (x : Bytes) (o : Option TypeName) (arguments : Terms) → AreProper defs arguments → IsProper defs (use_term x o arguments)
  use_proper x None arguments h = built_in_proper (named built_in_types x)
  use_proper x (Some (IsParameter at)) arguments h = tt
  use_proper x (Some (IsDefinition at outer own)) arguments h = parameters_proper outer arguments h

  shared_by : (y : Node Term) → is_shared_function y ≡ true → IsSharedFunction y
  shared_by (node.Func sort.Local ps rs) e = cc
  shared_by (node.Func sort.Shared ps rs) e = λ k. cc
  shared_by (node.Func sort.Query ps rs) e = λ k. cc
  shared_by (node.Number k) e = cc
  shared_by (node.Opt a) e = cc
  shared_by y e = cc

  module _ (P : Term → Type 0) (s : TypeScope) where
    count_is : (us : TypeNodes) → length (listed (terms s us)) ≡ count_types us
    count_is p.Nil = refl
    count_is (p.Cons a rest) = ap (λ n. suc n) (count_is rest)

    labels_are : (fs : TypeFields) → map label_id (labels_of fs) ≡ map (λ f. label_id f.label) (listed_fields (field_terms s fs))
    labels_are p.NoFields = refl
    labels_are (p.Field mutable x a rest) = ap (λ xs. label_id x.bytes ∷ xs) (labels_are rest)
    labels_are (p.EmptyTag x rest) = ap (λ xs. label_id x.bytes ∷ xs) (labels_are rest)

    tags_constant : (fs : TypeFields) → AreTags fs → Each (λ f. f.mutable ≡ false) (listed_fields (field_terms s fs))
    tags_constant p.NoFields h = tt
    tags_constant (p.Field mutable x a rest) h = (h.0, tags_constant rest h.1)
    tags_constant (p.EmptyTag x rest) h = (refl, tags_constant rest h)

    methods_constant : (fs : TypeFields) → AreMethods fs → Each (λ f. f.mutable ≡ false) (listed_fields (field_terms s fs))
    methods_constant p.NoFields h = tt
    methods_constant (p.Field mutable x a rest) h = (h.0, methods_constant rest h.2)
    methods_constant (p.EmptyTag x rest) h = absurd h

    abbrev AreCalled : TypeFields → Type 0
    AreCalled fs = Each (λ f. IsSharedFunction (head defs f.part) × (is_method_name f.label ≡ true)) (listed_fields (field_terms s fs))

    mutual
      pub proper_written : (a : TypeNode) → IsTypeSource a → MeetsOnly defs P (Proper defs s a) (λ z. IsProper defs (term s a))
      proper_written (p.node at (p.Function sharing.Local ps r)) h =
          after defs P (EachProper defs s ps) _ (λ z. AreProper defs (terms s ps)) (λ z. IsProper defs (term s (p.node at (p.Function sharing.Local ps r)))) (each_written ps h.0) (λ z k.
          more defs P (Proper defs s r) (λ z. IsProper defs (term s r)) (λ z. IsProper defs (term s (p.node at (p.Function sharing.Local ps r)))) (proper_written r h.1) (λ z l. (k, l)))
      proper_written (p.node at (p.Function sharing.Shared ps (p.node inner (p.Async r)))) h =
          after defs P (EachProper defs s ps) _ (λ z. AreProper defs (terms s ps)) (λ z. IsProper defs (term s (p.node at (p.Function sharing.Shared ps (p.node inner (p.Async r)))))) (each_written ps h.0) (λ z k.
          after defs P (Proper defs s r) _ (λ z. IsProper defs (term s r)) (λ z. IsProper defs (term s (p.node at (p.Function sharing.Shared ps (p.node inner (p.Async r)))))) (proper_written r h.1) (λ z l.
          needs_each defs P condition.NotShared at (map j.IsShareable (term s r ∷ listed (terms s ps))) j.Fine (λ z. IsProper defs (term s (p.node at (p.Function sharing.Shared ps (p.node inner (p.Async r)))))) (λ q.
          (k, l, λ e. cc, each_shareable defs (term s r ∷ listed (terms s ps)) q))))
      proper_written (p.node at (p.Function sharing.SharedQuery ps (p.node inner (p.Async r)))) h =
          after defs P (EachProper defs s ps) _ (λ z. AreProper defs (terms s ps)) (λ z. IsProper defs (term s (p.node at (p.Function sharing.SharedQuery ps (p.node inner (p.Async r)))))) (each_written ps h.0) (λ z k.
          after defs P (Proper defs s r) _ (λ z. IsProper defs (term s r)) (λ z. IsProper defs (term s (p.node at (p.Function sharing.SharedQuery ps (p.node inner (p.Async r)))))) (proper_written r h.1) (λ z l.
          needs_each defs P condition.NotShared at (map j.IsShareable (term s r ∷ listed (terms s ps))) j.Fine (λ z. IsProper defs (term s (p.node at (p.Function sharing.SharedQuery ps (p.node inner (p.Async r)))))) (λ q.
          (k, l, λ e. cc, each_shareable defs (term s r ∷ listed (terms s ps)) q))))
      proper_written (p.node at (p.Function sharing.Shared ps (p.node inner f))) h = tt
      proper_written (p.node at (p.Function sharing.SharedQuery ps (p.node inner f))) h = tt
      proper_written (p.node at (p.Optional a)) h = proper_written a h
      proper_written (p.node at (p.Async a)) h = tt
      proper_written (p.node at (p.Use x us)) h =
          tests defs P condition.TypeArguments at _ (EachProper defs s us) (λ z. IsProper defs (term s (p.node at (p.Use x us)))) (λ e.
          more defs P (EachProper defs s us) (λ z. AreProper defs (terms s us)) (λ z. IsProper defs (term s (p.node at (p.Use x us)))) (each_written us h) (λ z k. use_proper x (type_named s x) (terms s us) k))
      proper_written (p.node at (p.Tuple us)) h =
          more defs P (EachProper defs s us) (λ z. AreProper defs (terms s us)) (λ z. IsProper defs (term s (p.node at (p.Tuple us)))) (each_written us h.0) (λ z k. (k, λ e. h.1 (sym (count_is us) ∙ e)))
      proper_written (p.node at (p.Array false a)) h = proper_written a h
      proper_written (p.node at (p.Array true a)) h = proper_written a h
      proper_written (p.node at (p.Object fs)) h =
          more defs P (FieldsProper defs s fs) (λ z. FieldsAreProper defs (field_terms s fs)) (λ z. IsProper defs (term s (p.node at (p.Object fs)))) (fields_written fs h.0) (λ z k. (k, subst (λ xs. Distinct xs) (labels_are fs) h.1))
      proper_written (p.node at (p.Variant fs)) h =
          more defs P (FieldsProper defs s fs) (λ z. FieldsAreProper defs (field_terms s fs)) (λ z. IsProper defs (term s (p.node at (p.Variant fs)))) (fields_written fs h.0) (λ z k.
          (k, subst (λ xs. Distinct xs) (labels_are fs) h.1, tags_constant fs h.2))
      proper_written (p.node at (p.Actor fs)) h =
          more defs P (MethodsProper defs s fs) (λ z. FieldsAreProper defs (field_terms s fs) × AreCalled fs) (λ z. IsProper defs (term s (p.node at (p.Actor fs)))) (methods_written fs h.0 h.2) (λ z k.
          (k.0, subst (λ xs. Distinct xs) (labels_are fs) h.1, methods_constant fs h.2, k.1))

      pub each_written : (us : TypeNodes) → AreTypesSource us → MeetsOnly defs P (EachProper defs s us) (λ z. AreProper defs (terms s us))
      each_written p.Nil h = tt
      each_written (p.Cons a rest) h =
          after defs P (Proper defs s a) _ (λ z. IsProper defs (term s a)) (λ z. AreProper defs (terms s (p.Cons a rest))) (proper_written a h.0) (λ z k.
          more defs P (EachProper defs s rest) (λ z. AreProper defs (terms s rest)) (λ z. AreProper defs (terms s (p.Cons a rest))) (each_written rest h.1) (λ z l. (k, l)))

      fields_written : (fs : TypeFields) → AreFieldsSource fs → MeetsOnly defs P (FieldsProper defs s fs) (λ z. FieldsAreProper defs (field_terms s fs))
      fields_written p.NoFields h = tt
      fields_written (p.Field mutable x a rest) h =
          after defs P (Proper defs s a) _ (λ z. IsProper defs (term s a)) (λ z. FieldsAreProper defs (field_terms s (p.Field mutable x a rest))) (proper_written a h.0) (λ z k.
          more defs P (FieldsProper defs s rest) (λ z. FieldsAreProper defs (field_terms s rest)) (λ z. FieldsAreProper defs (field_terms s (p.Field mutable x a rest))) (fields_written rest h.1) (λ z l. (k, l)))
      fields_written (p.EmptyTag x rest) h =
          more defs P (FieldsProper defs s rest) (λ z. FieldsAreProper defs (field_terms s rest)) (λ z. FieldsAreProper defs (field_terms s (p.EmptyTag x rest))) (fields_written rest h) (λ z l. ((tt, λ e. cc), l))

      methods_written : (fs : TypeFields) → AreFieldsSource fs → AreMethods fs → MeetsOnly defs P (MethodsProper defs s fs) (λ z. FieldsAreProper defs (field_terms s fs) × AreCalled fs)
      methods_written p.NoFields h m = (tt, tt)
      methods_written (p.Field mutable x a rest) h m =
          after defs P (Proper defs s a) _ (λ z. IsProper defs (term s a)) (λ z. FieldsAreProper defs (field_terms s (p.Field mutable x a rest)) × AreCalled (p.Field mutable x a rest)) (proper_written a h.0) (λ z k.
          tests defs P condition.NotShared x.at (is_shared_function (head defs (term s a))) (MethodsProper defs s rest) (λ z. FieldsAreProper defs (field_terms s (p.Field mutable x a rest)) × AreCalled (p.Field mutable x a rest)) (λ e.
          more defs P (MethodsProper defs s rest) (λ z. FieldsAreProper defs (field_terms s rest) × AreCalled rest) (λ z. FieldsAreProper defs (field_terms s (p.Field mutable x a rest)) × AreCalled (p.Field mutable x a rest))
          (methods_written rest h.1 m.2) (λ z l. ((k, l.0), ((shared_by (head defs (term s a)) e, m.1), l.1)))))
      methods_written (p.EmptyTag x rest) h m = absurd m

pub written_proper : WrittenTypesAreProper
written_proper defs s a h = proper_written defs (λ u. ⊥) s a h
