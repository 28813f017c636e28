-- Public fields with their types, as they are written.
use Rattle.std.proofs.Common.{◌≡◌, inl, inr, ℕ, true, false, List, [], ◌∷◌, ◌++◌, map, Some, refl, sym, ap, ap₂, ◌∙◌, subst}
use Rattle.std.proofs.lemmas.Slice.Eq.{bytes_eq-Decides}
use Rattle.std.specs.Prelude.{cond}
use Rattle.mo_scopes.specs.Scopes.{named}
use Rattle.mo_types.specs.declared.node.Field.{Field}
use Rattle.mo_types.specs.Sub.{Each}
use Rattle.subtype_laws.specs.Reached.{Among}
use Rattle.typed_tree.specs.OperationTypes.{Distinct}
use Rattle.typing_rules.specs.AbstractSyntax.{Bytes, TypeNode, TypeParameter, Pattern, Patterns, PatternFields, Declaration, Declarations}
use Rattle.typing_rules.specs.AbstractSyntax as p
use Rattle.typing_rules.specs.Contexts.{Scope, constant}
use Rattle.typing_rules.specs.DeclaredTypes.{pattern_fields, patterns_fields, fields_fields, declared_fields, member_fields}
use Rattle.typing_rules.specs.Definitions.{Definitions}
use Rattle.typing_rules.specs.Judgements.{Fine}
use Rattle.typing_rules.specs.Patterns.{is_empty}
use Rattle.typing_rules.specs.PublicFields.{EachAnnotated, AllAnnotated, FieldsAnnotated, PublicField, PublicFields}
use Rattle.typing_rules.specs.Terms.{Term, Fields, listed_fields}
use Rattle.typing_rules.specs.TypeScopes.{TypeScope, term}
use Rattle.desugaring.specs.FreeNames.{names_in, names_in_each, names_in_fields, field_names}
use Rattle.desugaring_laws.specs.Names.{Names, entered}
use Rattle.desugaring_laws.specs.Yields.{Yields}
use Rattle.desugaring_laws.proofs.Patterns.{entered_on, map_append}
use Rattle.desugaring_laws.proofs.Yielding.{more, given, tests, part as after}
use Rattle.expression_laws.proofs.Naming.{names_of, not_entered}
use Rattle.block_laws.specs.Bound.{IsAnnotated, AreAnnotated, FieldsAreAnnotated, written_names, written_in_each, written_in_fields}
use Rattle.block_forms.specs.Fields.{public_fields}

-- ---- public declarations that are as they have to be

abbrev pub IsPublic : Declaration ℕ → Type 0
IsPublic (p.Let q a) = IsAnnotated q
IsPublic (p.Var stable x u a) = (v : TypeNode) × (u ≡ Some v)
IsPublic (p.Func x g body) = g.generics ≡ []
IsPublic (p.Class x g fields) = g.generics ≡ []
IsPublic (p.NamedObject x fields) = ⊥
IsPublic _ = Unit {0}

abbrev pub ArePublic : Declarations ℕ → Type 0
ArePublic p.End = Unit {0}
ArePublic (p.Then true n d rest) = IsPublic d × ArePublic rest
ArePublic (p.Then false n d rest) = ArePublic rest

none_there : (gs : List TypeParameter) → is_empty gs ≡ true → gs ≡ []
none_there [] e = refl
none_there (g ∷ gs) e = cc

module _ (defs : Definitions) (terms : List Term) where
  -- under a type stands a name, or a pattern
  under_type : (at : ℕ) (q : Pattern ℕ) (a : TypeNode) → Yields defs terms (EachAnnotated q) (λ u. IsAnnotated q) → Yields defs terms (EachAnnotated (p.pattern at (p.Annotated q a))) (λ u. IsAnnotated (p.pattern at (p.Annotated q a)))
  under_type at (p.pattern n (p.Variable x)) a h = tt
  under_type at (p.pattern n (p.Annotated q b)) a h = h
  under_type at (p.pattern n (p.Alternative q r)) a h = h
  under_type at (p.pattern n (p.Optional q)) a h = h
  under_type at (p.pattern n (p.Tag x)) a h = h
  under_type at (p.pattern n (p.Tagged x q)) a h = h
  under_type at (p.pattern n p.Wildcard) a h = h
  under_type at (p.pattern n (p.Constant minus l)) a h = h
  under_type at (p.pattern n (p.Tuple items)) a h = h
  under_type at (p.pattern n (p.Object gs)) a h = h

  mutual
    annotated : (q : Pattern ℕ) → Yields defs terms (EachAnnotated q) (λ u. IsAnnotated q)
    annotated (p.pattern at (p.Annotated q a)) = under_type at q a (annotated q)
    annotated (p.pattern at (p.Alternative q r)) = tt
    annotated (p.pattern at (p.Optional q)) = annotated q
    annotated (p.pattern at (p.Tag x)) = tt
    annotated (p.pattern at (p.Tagged x q)) = annotated q
    annotated (p.pattern at (p.Variable x)) = tt
    annotated (p.pattern at p.Wildcard) = tt
    annotated (p.pattern at (p.Constant minus l)) = tt
    annotated (p.pattern at (p.Tuple items)) = all_annotated items
    annotated (p.pattern at (p.Object fields)) = fields_annotated fields

    all_annotated : (qs : Patterns ℕ) → Yields defs terms (AllAnnotated qs) (λ u. AreAnnotated qs)
    all_annotated p.Nil = tt
    all_annotated (p.Cons q rest) =
        after defs terms (EachAnnotated q) _ (λ u. IsAnnotated q) (λ u. AreAnnotated (p.Cons q rest)) (annotated q) (λ u h.
        more defs terms (AllAnnotated rest) (λ v. AreAnnotated rest) (λ v. AreAnnotated (p.Cons q rest)) (all_annotated rest) (λ v k. (h, k)))

    fields_annotated : (qs : PatternFields ℕ) → Yields defs terms (FieldsAnnotated qs) (λ u. FieldsAreAnnotated qs)
    fields_annotated p.NoFields = tt
    fields_annotated (p.Field x q rest) =
        after defs terms (EachAnnotated q) _ (λ u. IsAnnotated q) (λ u. FieldsAreAnnotated (p.Field x q rest)) (annotated q) (λ u h.
        more defs terms (FieldsAnnotated rest) (λ v. FieldsAreAnnotated rest) (λ v. FieldsAreAnnotated (p.Field x q rest)) (fields_annotated rest) (λ v k. (h, k)))

  one_public : (d : Declaration ℕ) → Yields defs terms (PublicField d) (λ u. IsPublic d)
  one_public (p.Let q a) = annotated q
  one_public (p.Var stable x u a) = given defs terms _ x.at u (λ v. Fine) (λ z. IsPublic (p.Var stable x u a)) (λ v e. (v, e))
  one_public (p.Func x g body) = tests defs terms _ x.at (is_empty g.generics) Fine (λ u. g.generics ≡ []) (λ e. none_there g.generics e)
  one_public (p.Method query context x g body) = tt
  one_public (p.System x body) = tt
  one_public (p.TypeAlias x ps a) = tt
  one_public (p.Class x g fields) = tests defs terms _ x.at (is_empty g.generics) Fine (λ u. g.generics ≡ []) (λ e. none_there g.generics e)
  one_public (p.NamedObject x fields) = tt
  one_public (p.Evaluate a) = tt

  pub all_public : (ds : Declarations ℕ) → Yields defs terms (PublicFields ds) (λ u. ArePublic ds)
  all_public p.End = tt
  all_public (p.Then true n d rest) =
      after defs terms (PublicField d) _ (λ u. IsPublic d) (λ u. ArePublic (p.Then true n d rest)) (one_public d) (λ u h.
      more defs terms (PublicFields rest) (λ v. ArePublic rest) (λ v. ArePublic (p.Then true n d rest)) (all_public rest) (λ v k. (h, k)))
  all_public (p.Then false n d rest) = all_public rest

-- ---- their fields

abbrev pub constant_field : Bytes × Term → Field Term
constant_field x = record { label = x.0; mutable = false; part = x.1 }

module _ (s : TypeScope) (P : Field Term → Type 0) where
  abbrev Holds : Names → Type 0
  Holds xs = (x : Bytes × Term) → Among x xs → P (constant_field x)

  among_left : (x : Bytes × Term) (xs ys : Names) → Among x xs → Among x (xs ++ ys)
  among_left x [] ys m = absurd m
  among_left x (y ∷ xs) ys (inl e) = inl e
  among_left x (y ∷ xs) ys (inr m) = inr (among_left x xs ys m)

  among_right : (x : Bytes × Term) (xs ys : Names) → Among x ys → Among x (xs ++ ys)
  among_right x [] ys m = m
  among_right x (y ∷ xs) ys m = inr (among_right x xs ys m)

  under_field : (n : ℕ) (q : Pattern ℕ) (a : TypeNode) (rest : Fields) → (IsAnnotated q → Holds (written_names s q) → Each P (listed_fields (pattern_fields s q rest))) → Each P (listed_fields rest)
      → IsAnnotated (p.pattern n (p.Annotated q a)) → Holds (written_names s (p.pattern n (p.Annotated q a))) → Each P (listed_fields (pattern_fields s (p.pattern n (p.Annotated q a)) rest))
  under_field n (p.pattern m (p.Variable x)) a rest k r so h = (h (x, term s a) (inl refl), r)
  under_field n (p.pattern m (p.Annotated q b)) a rest k r so h = k so h
  under_field n (p.pattern m (p.Alternative q o)) a rest k r so h = k so h
  under_field n (p.pattern m (p.Optional q)) a rest k r so h = k so h
  under_field n (p.pattern m (p.Tag x)) a rest k r so h = k so h
  under_field n (p.pattern m (p.Tagged x q)) a rest k r so h = k so h
  under_field n (p.pattern m p.Wildcard) a rest k r so h = k so h
  under_field n (p.pattern m (p.Constant minus l)) a rest k r so h = k so h
  under_field n (p.pattern m (p.Tuple items)) a rest k r so h = k so h
  under_field n (p.pattern m (p.Object gs)) a rest k r so h = k so h

  mutual
    pub each_written : (q : Pattern ℕ) (rest : Fields) → IsAnnotated q → Holds (written_names s q) → Each P (listed_fields rest) → Each P (listed_fields (pattern_fields s q rest))
    each_written (p.pattern n (p.Annotated q a)) rest so h r = under_field n q a rest (λ so' h'. each_written q rest so' h' r) r so h
    each_written (p.pattern n (p.Alternative q o)) rest so h r = r
    each_written (p.pattern n (p.Optional q)) rest so h r = each_written q rest so h r
    each_written (p.pattern n (p.Tag x)) rest so h r = r
    each_written (p.pattern n (p.Tagged x q)) rest so h r = each_written q rest so h r
    each_written (p.pattern n (p.Variable x)) rest so h r = absurd so
    each_written (p.pattern n p.Wildcard) rest so h r = r
    each_written (p.pattern n (p.Constant minus l)) rest so h r = r
    each_written (p.pattern n (p.Tuple items)) rest so h r = all_written items rest so h r
    each_written (p.pattern n (p.Object fields)) rest so h r = fields_written fields rest so h r

    all_written : (qs : Patterns ℕ) (rest : Fields) → AreAnnotated qs → Holds (written_in_each s qs) → Each P (listed_fields rest) → Each P (listed_fields (patterns_fields s qs rest))
    all_written p.Nil rest so h r = r
    all_written (p.Cons q qs) rest so h r =
        each_written q (patterns_fields s qs rest) so.0 (λ x m. h x (among_left x (written_names s q) (written_in_each s qs) m))
        (all_written qs rest so.1 (λ x m. h x (among_right x (written_names s q) (written_in_each s qs) m)) r)

    fields_written : (qs : PatternFields ℕ) (rest : Fields) → FieldsAreAnnotated qs → Holds (written_in_fields s qs) → Each P (listed_fields rest) → Each P (listed_fields (fields_fields s qs rest))
    fields_written p.NoFields rest so h r = r
    fields_written (p.Field x q qs) rest so h r =
        each_written q (fields_fields s qs rest) so.0 (λ z m. h z (among_left z (written_names s q) (written_in_fields s qs) m))
        (fields_written qs rest so.1 (λ z m. h z (among_right z (written_names s q) (written_in_fields s qs) m)) r)

-- ---- their labels

abbrev pub labels : Fields → List Bytes
labels fs = map (λ g. g.label) (listed_fields fs)

append_assoc : (xs ys zs : List Bytes) → (xs ++ ys) ++ zs ≡ xs ++ (ys ++ zs)
append_assoc [] ys zs = refl
append_assoc (x ∷ xs) ys zs = ap (λ l. x ∷ l) (append_assoc xs ys zs)

module _ (s : TypeScope) where
  under_labels : (n : ℕ) (q : Pattern ℕ) (a : TypeNode) (rest : Fields) → labels (pattern_fields s q rest) ≡ names_in q ++ labels rest → labels (pattern_fields s (p.pattern n (p.Annotated q a)) rest) ≡ names_in q ++ labels rest
  under_labels n (p.pattern m (p.Variable x)) a rest h = refl
  under_labels n (p.pattern m (p.Annotated q b)) a rest h = h
  under_labels n (p.pattern m (p.Alternative q o)) a rest h = h
  under_labels n (p.pattern m (p.Optional q)) a rest h = h
  under_labels n (p.pattern m (p.Tag x)) a rest h = h
  under_labels n (p.pattern m (p.Tagged x q)) a rest h = h
  under_labels n (p.pattern m p.Wildcard) a rest h = h
  under_labels n (p.pattern m (p.Constant minus l)) a rest h = h
  under_labels n (p.pattern m (p.Tuple items)) a rest h = h
  under_labels n (p.pattern m (p.Object gs)) a rest h = h

  mutual
    pattern_labels : (q : Pattern ℕ) (rest : Fields) → labels (pattern_fields s q rest) ≡ names_in q ++ labels rest
    pattern_labels (p.pattern n (p.Annotated q a)) rest = under_labels n q a rest (pattern_labels q rest)
    pattern_labels (p.pattern n (p.Alternative q o)) rest = refl
    pattern_labels (p.pattern n (p.Optional q)) rest = pattern_labels q rest
    pattern_labels (p.pattern n (p.Tag x)) rest = refl
    pattern_labels (p.pattern n (p.Tagged x q)) rest = pattern_labels q rest
    pattern_labels (p.pattern n (p.Variable x)) rest = refl
    pattern_labels (p.pattern n p.Wildcard) rest = refl
    pattern_labels (p.pattern n (p.Constant minus l)) rest = refl
    pattern_labels (p.pattern n (p.Tuple items)) rest = each_labels items rest
    pattern_labels (p.pattern n (p.Object fields)) rest = fields_labels fields rest

    each_labels : (qs : Patterns ℕ) (rest : Fields) → labels (patterns_fields s qs rest) ≡ names_in_each qs ++ labels rest
    each_labels p.Nil rest = refl
    each_labels (p.Cons q qs) rest = pattern_labels q (patterns_fields s qs rest) ∙ (ap (λ ls. names_in q ++ ls) (each_labels qs rest) ∙ sym (append_assoc (names_in q) (names_in_each qs) (labels rest)))

    fields_labels : (qs : PatternFields ℕ) (rest : Fields) → labels (fields_fields s qs rest) ≡ names_in_fields qs ++ labels rest
    fields_labels p.NoFields rest = refl
    fields_labels (p.Field x q qs) rest = pattern_labels q (fields_fields s qs rest) ∙ (ap (λ ls. names_in q ++ ls) (fields_labels qs rest) ∙ sym (append_assoc (names_in q) (names_in_fields qs) (labels rest)))

  declared_labels : (d : Declaration ℕ) (rest : Fields) → labels (declared_fields s d rest) ≡ field_names d ++ labels rest
  declared_labels (p.Let q a) rest = pattern_labels q rest
  declared_labels (p.Var stable x u a) rest = refl
  declared_labels (p.Func x g body) rest = refl
  declared_labels (p.Method query context x g body) rest = refl
  declared_labels (p.System x body) rest = refl
  declared_labels (p.TypeAlias x parameters u) rest = refl
  declared_labels (p.Class x g fields) rest = refl
  declared_labels (p.NamedObject x fields) rest = refl
  declared_labels (p.Evaluate a) rest = refl

  -- each public name is a label
  pub field_labels : (ds : Declarations ℕ) → labels (member_fields s ds) ≡ public_fields ds
  field_labels p.End = refl
  field_labels (p.Then true n d rest) = declared_labels d (member_fields s rest) ∙ ap (λ ls. field_names d ++ ls) (field_labels rest)
  field_labels (p.Then false n d rest) = field_labels rest

  -- ---- the names of a pattern

  under_names : (n : ℕ) (q : Pattern ℕ) (a : TypeNode) → names_of (written_names s q) ≡ names_in q → names_of (written_names s (p.pattern n (p.Annotated q a))) ≡ names_in q
  under_names n (p.pattern m (p.Variable x)) a h = refl
  under_names n (p.pattern m (p.Annotated q b)) a h = h
  under_names n (p.pattern m (p.Alternative q o)) a h = h
  under_names n (p.pattern m (p.Optional q)) a h = h
  under_names n (p.pattern m (p.Tag x)) a h = h
  under_names n (p.pattern m (p.Tagged x q)) a h = h
  under_names n (p.pattern m p.Wildcard) a h = h
  under_names n (p.pattern m (p.Constant minus l)) a h = h
  under_names n (p.pattern m (p.Tuple items)) a h = h
  under_names n (p.pattern m (p.Object gs)) a h = h

  mutual
    pub names_written : (q : Pattern ℕ) → names_of (written_names s q) ≡ names_in q
    names_written (p.pattern n (p.Annotated q a)) = under_names n q a (names_written q)
    names_written (p.pattern n (p.Alternative q o)) = refl
    names_written (p.pattern n (p.Optional q)) = names_written q
    names_written (p.pattern n (p.Tag x)) = refl
    names_written (p.pattern n (p.Tagged x q)) = names_written q
    names_written (p.pattern n (p.Variable x)) = refl
    names_written (p.pattern n p.Wildcard) = refl
    names_written (p.pattern n (p.Constant minus l)) = refl
    names_written (p.pattern n (p.Tuple items)) = names_written_in_each items
    names_written (p.pattern n (p.Object fields)) = names_written_in_fields fields

    names_written_in_each : (qs : Patterns ℕ) → names_of (written_in_each s qs) ≡ names_in_each qs
    names_written_in_each p.Nil = refl
    names_written_in_each (p.Cons q qs) = map_append (λ x. x.0) (written_names s q) (written_in_each s qs) ∙ ap₂ (λ x y. x ++ y) (names_written q) (names_written_in_each qs)

    names_written_in_fields : (qs : PatternFields ℕ) → names_of (written_in_fields s qs) ≡ names_in_fields qs
    names_written_in_fields p.NoFields = refl
    names_written_in_fields (p.Field x q qs) = map_append (λ x. x.0) (written_names s q) (written_in_fields s qs) ∙ ap₂ (λ x y. x ++ y) (names_written q) (names_written_in_fields qs)

-- ---- names that are entered

pub name_among : (x : Bytes × Term) (xs : Names) → Among x xs → Among x.0 (names_of xs)
name_among x [] m = absurd m
name_among x (y ∷ xs) (inl e) = inl (ap (λ z. z.0) e)
name_among x (y ∷ xs) (inr m) = inr (name_among x xs m)

entered_last : (xs : Names) (u : Scope) (x : Bytes × Term) → Distinct (names_of xs) → Among x xs → named (entered xs u) x.0 ≡ Some (constant x.1)
entered_last [] u x d m = absurd m
entered_last (y ∷ xs) u x d (inl e) =
    subst (λ z. named (entered xs ((y.0, constant y.1) ∷ u)) z.0 ≡ Some (constant z.1)) e
    (not_entered xs ((y.0, constant y.1) ∷ u) y.0 d.0 ∙ ap (λ b. cond b (Some (constant y.1)) (named u y.0)) ((bytes_eq-Decides y.0 y.0).1 refl))
entered_last (y ∷ xs) u x d (inr m) = entered_last xs ((y.0, constant y.1) ∷ u) x d.1 m

-- each of names that differ is bound to its type
pub entered_named : (xs : Names) (u : Scope) (x : Bytes × Term) → Distinct (names_of xs) → Among x xs → named (entered xs [] ++ u) x.0 ≡ Some (constant x.1)
entered_named xs u x d m = ap (λ z. named z x.0) (sym (entered_on xs u)) ∙ entered_last xs u x d m
