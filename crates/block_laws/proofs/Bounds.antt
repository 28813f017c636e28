-- What declarations bind, by the types that are written of them.
use Rattle.std.proofs.Common.{◌≡◌, ℕ, Bool, true, false, List, [], ◌∷◌, ◌++◌, Option, Some, None, refl, sym, ap, ap₂, ◌∙◌}
use Rattle.mo_types.specs.declared.node.Field.{Field}
use Rattle.mo_types.specs.Heads.{opt_of, tuple_of, object_of, variant_of}
use Rattle.mo_types.specs.Sub.{find}
use Rattle.std.specs.Prelude.{not}
use Rattle.typing_rules.specs.AbstractSyntax.{TypeNode, Pattern, Patterns, PatternFields, Declaration}
use Rattle.typing_rules.specs.AbstractSyntax as p
use Rattle.typing_rules.specs.AsyncPlaces.{Other, around_of}
use Rattle.typing_rules.specs.Contexts.{Scope, Context, directly, variable}
use Rattle.typing_rules.specs.Definitions.{Definitions}
use Rattle.typing_rules.specs.Expressions.{Judge, JudgeOne}
use Rattle.typing_rules.specs.Heads.{head}
use Rattle.typing_rules.specs.Judgements.{Case, Part as Bind}
use Rattle.typing_rules.specs.Patterns.{is_empty, LiteralStands, Stands, EachStands, FieldsStand}
use Rattle.typing_rules.specs.PublicFields.{PublicFields}
use Rattle.typing_rules.specs.Terms.{Term}
use Rattle.typing_rules.specs.TypedTrees.{Note, type_of, annotation, declared_type}
use Rattle.typing_rules.specs.Types.{Reads}
use Rattle.typing_rules.specs.TypeScopes.{TypeScope, term, term_or}
use Rattle.desugaring_laws.specs.Names.{bound_names, bound_in_each, bound_in_fields, entered}
use Rattle.desugaring_laws.specs.Yields.{Yields}
use Rattle.desugaring_laws.proofs.Yielding.{anything, given, tests, part as after}
use Rattle.expression_laws.proofs.BoundNames.{both}
use Rattle.declaration_laws.specs.Objects.{FieldsJudged}
use Rattle.declaration_laws.proofs.Entered.{scope_entered}
use Rattle.declaration_laws.proofs.Reading.{reads_term}
use Rattle.block_laws.specs.Bound.{IsAnnotated, AreAnnotated, FieldsAreAnnotated, written_names, written_in_each, written_in_fields, IsBoundSo}

module _ (defs : Definitions) (terms : List Term) (s : TypeScope) where
  -- its names have the types that are written
  abbrev Written : Pattern ℕ → Scope × Pattern Note → Type 0
  Written q b = IsAnnotated q → bound_names b.1 ≡ written_names s q

  abbrev EachWritten : Patterns ℕ → Scope × Patterns Note → Type 0
  EachWritten qs b = AreAnnotated qs → bound_in_each b.1 ≡ written_in_each s qs

  abbrev FieldsWritten : PatternFields ℕ → Scope × PatternFields Note → Type 0
  FieldsWritten qs b = FieldsAreAnnotated qs → bound_in_fields b.1 ≡ written_in_fields s qs

  -- a pattern under a type that is no name
  under : (at : ℕ) (q : Pattern ℕ) (a : TypeNode) (u : Term) → ((v : Term) → Yields defs terms (Stands defs s q v) (Written q)) → (IsAnnotated (p.pattern at (p.Annotated q a)) → IsAnnotated q)
      → written_names s (p.pattern at (p.Annotated q a)) ≡ written_names s q → Yields defs terms (Stands defs s (p.pattern at (p.Annotated q a)) u) (Written (p.pattern at (p.Annotated q a)))
  under at q a u h k e =
      let P = Written (p.pattern at (p.Annotated q a)) in
      after defs terms (Reads defs s a) _ (λ v. Unit {0}) P (anything defs terms (Reads defs s a)) (λ v z. (
        λ below. after defs terms (Stands defs s q v) _ (Written q) P (h v) (λ b i. λ so. i (k so) ∙ sym e),
        λ no. tt,
      ))

  annotated : (at : ℕ) (q : Pattern ℕ) (a : TypeNode) (u : Term) → ((v : Term) → Yields defs terms (Stands defs s q v) (Written q)) → Yields defs terms (Stands defs s (p.pattern at (p.Annotated q a)) u) (Written (p.pattern at (p.Annotated q a)))
  annotated at (p.pattern inner (p.Variable x)) a u h =
      let P = Written (p.pattern at (p.Annotated (p.pattern inner (p.Variable x)) a)) in
      after defs terms (Reads defs s a) _ (λ v. v ≡ term s a) P (reads_term defs terms s a) (λ v e. (λ below. λ so. ap (λ z. (x, z) ∷ []) e, λ no. tt))
  annotated at (p.pattern inner (p.Annotated q b)) a u h = under at (p.pattern inner (p.Annotated q b)) a u h (λ so. so) refl
  annotated at (p.pattern inner (p.Alternative q r)) a u h = under at (p.pattern inner (p.Alternative q r)) a u h (λ so. so) refl
  annotated at (p.pattern inner (p.Optional q)) a u h = under at (p.pattern inner (p.Optional q)) a u h (λ so. so) refl
  annotated at (p.pattern inner (p.Tag x)) a u h = under at (p.pattern inner (p.Tag x)) a u h (λ so. so) refl
  annotated at (p.pattern inner (p.Tagged x q)) a u h = under at (p.pattern inner (p.Tagged x q)) a u h (λ so. so) refl
  annotated at (p.pattern inner p.Wildcard) a u h = under at (p.pattern inner p.Wildcard) a u h (λ so. so) refl
  annotated at (p.pattern inner (p.Constant minus l)) a u h = under at (p.pattern inner (p.Constant minus l)) a u h (λ so. so) refl
  annotated at (p.pattern inner (p.Tuple items)) a u h = under at (p.pattern inner (p.Tuple items)) a u h (λ so. so) refl
  annotated at (p.pattern inner (p.Object fields)) a u h = under at (p.pattern inner (p.Object fields)) a u h (λ so. so) refl

  mutual
    pub pattern_written : (q : Pattern ℕ) (u : Term) → Yields defs terms (Stands defs s q u) (Written q)
    pattern_written (p.pattern at (p.Annotated q a)) u = annotated at q a u (λ v. pattern_written q v)
    pattern_written (p.pattern at (p.Alternative q r)) u =
        let P = Written (p.pattern at (p.Alternative q r)) in
        after defs terms (Stands defs s q u) _ (λ b. Unit {0}) P (anything defs terms (Stands defs s q u)) (λ b i.
        tests defs terms _ _ (is_empty b.0) _ P (λ e.
        after defs terms (Stands defs s r u) _ (λ c. Unit {0}) P (anything defs terms (Stands defs s r u)) (λ c j.
        tests defs terms _ _ (is_empty c.0) _ P (λ f. λ so. refl))))
    pattern_written (p.pattern at (p.Optional q)) u =
        let P = Written (p.pattern at (p.Optional q)) in
        given defs terms _ _ (opt_of (head defs u)) _ P (λ v e. after defs terms (Stands defs s q v) _ (Written q) P (pattern_written q v) (λ b i. i))
    pattern_written (p.pattern at (p.Tag x)) u =
        let P = Written (p.pattern at (p.Tag x)) in
        given defs terms _ _ (variant_of (head defs u)) _ P (λ tags e.
        given defs terms _ _ (find x tags) _ P (λ f found.
        given defs terms _ _ (tuple_of (head defs f.part)) _ P (λ parts et.
        tests defs terms _ _ (is_empty parts) _ P (λ none. λ so. refl))))
    pattern_written (p.pattern at (p.Tagged x q)) u =
        let P = Written (p.pattern at (p.Tagged x q)) in
        given defs terms _ _ (variant_of (head defs u)) _ P (λ tags e.
        given defs terms _ _ (find x tags) _ P (λ f found.
        after defs terms (Stands defs s q f.part) _ (Written q) P (pattern_written q f.part) (λ b i. i)))
    pattern_written (p.pattern at (p.Variable x)) u = λ so. absurd so
    pattern_written (p.pattern at p.Wildcard) u = λ so. refl
    pattern_written (p.pattern at (p.Constant minus l)) u =
        after defs terms (LiteralStands at minus l (head defs u)) _ (λ x. Unit {0}) (Written (p.pattern at (p.Constant minus l))) (anything defs terms (LiteralStands at minus l (head defs u))) (λ x i. λ so. refl)
    pattern_written (p.pattern at (p.Tuple items)) u =
        let P = Written (p.pattern at (p.Tuple items)) in
        given defs terms _ _ (tuple_of (head defs u)) _ P (λ us e. after defs terms (EachStands defs s at items us) _ (EachWritten items) P (each_written at items us) (λ b i. i))
    pattern_written (p.pattern at (p.Object fields)) u =
        let P = Written (p.pattern at (p.Object fields)) in
        given defs terms _ _ (object_of (head defs u)) _ P (λ fs e. after defs terms (FieldsStand defs s fields fs) _ (FieldsWritten fields) P (fields_written fields fs) (λ b i. i))

    each_written : (at : ℕ) (qs : Patterns ℕ) (us : List Term) → Yields defs terms (EachStands defs s at qs us) (EachWritten qs)
    each_written at p.Nil [] = λ so. refl
    each_written at p.Nil (u ∷ us) = tt
    each_written at (p.Cons q rest) [] = tt
    each_written at (p.Cons q rest) (u ∷ us) =
        after defs terms (Stands defs s q u) _ (Written q) (EachWritten (p.Cons q rest)) (pattern_written q u) (λ b i.
        after defs terms (EachStands defs s at rest us) _ (EachWritten rest) (EachWritten (p.Cons q rest)) (each_written at rest us) (λ c j. λ so. ap₂ (λ x y. x ++ y) (i so.0) (j so.1)))

    fields_written : (qs : PatternFields ℕ) (fs : List (Field Term)) → Yields defs terms (FieldsStand defs s qs fs) (FieldsWritten qs)
    fields_written p.NoFields fs = λ so. refl
    fields_written (p.Field x q rest) fs =
        let P = FieldsWritten (p.Field x q rest) in
        given defs terms _ _ (find x.bytes fs) _ P (λ f found.
        tests defs terms _ _ (not f.mutable) _ P (λ fixed.
        after defs terms (Stands defs s q f.part) _ (Written q) P (pattern_written q f.part) (λ b i.
        after defs terms (FieldsStand defs s rest fs) _ (FieldsWritten rest) P (fields_written rest fs) (λ c j. λ so. ap₂ (λ x y. x ++ y) (i so.0) (j so.1)))))

module _ (defs : Definitions) (terms : List Term) (e : Context) (n : ℕ) where
  -- a `var`, stable or not
  variable_bound : (stable : Bool) (x : p.Named) (u : Option TypeNode) (a : p.Expression ℕ) (v : Option Term) → Yields defs terms (JudgeOne defs (directly Other e) n (p.Var stable x u a) v) (IsBoundSo e.types (p.Var stable x u a))
  variable_bound false x u a v =
      let j = Case u (λ u. Bind (Reads defs e.types u) (λ v. Judge defs (directly Other e) a (Some v))) (λ z. Judge defs (directly Other e) a None) in
      after defs terms j _ (λ b. Unit {0}) (IsBoundSo e.types (p.Var false x u a)) (anything defs terms j) (λ b z. (refl, (λ w i. ap (λ o. (x.bytes, variable (term_or e.types o (type_of b))) ∷ []) i), (_, refl, (refl, refl, refl))))
  variable_bound true x u a v =
      let j = Case u (λ u. Bind (Reads defs e.types u) (λ v. Judge defs (directly Other e) a (Some v))) (λ z. Judge defs (directly Other e) a None) in
      after defs terms j _ (λ b. Unit {0}) (IsBoundSo e.types (p.Var true x u a)) (anything defs terms j) (λ b z. (λ h. (refl, (λ w i. ap (λ o. (x.bytes, variable (term_or e.types o (type_of b))) ∷ []) i), (_, refl, (refl, refl, refl))), λ no. tt))

  pub one_bound : (d : Declaration ℕ) (v : Option Term) → Yields defs terms (JudgeOne defs (directly Other e) n d v) (IsBoundSo e.types d)
  one_bound (p.Let q a) v =
      let j = Case (annotation q) (λ u. Bind (Reads defs e.types u) (λ v. Judge defs (directly Other e) a (Some v))) (λ z. Judge defs (directly (around_of q) (directly Other e)) a None) in
      let P = IsBoundSo e.types (p.Let q a) in
      after defs terms j _ (λ b. Unit {0}) P (anything defs terms j) (λ b z.
      after defs terms (Stands defs e.types q (declared_type e.types (annotation q) b)) _ (λ r. (IsAnnotated q → bound_names r.1 ≡ written_names e.types q) × (r.0 ≡ entered (bound_names r.1) [])) P
      (both defs terms (Stands defs e.types q (declared_type e.types (annotation q) b)) (λ r. IsAnnotated q → bound_names r.1 ≡ written_names e.types q) (λ r. r.0 ≡ entered (bound_names r.1) [])
      (pattern_written defs terms e.types q (declared_type e.types (annotation q) b)) (scope_entered defs terms e.types q (declared_type e.types (annotation q) b))) (λ r h.
      (refl, (λ so. h.1 ∙ ap (λ ns. entered ns []) (h.0 so)), (_, refl, tt))))
  one_bound (p.Var stable x u a) v = variable_bound stable x u a v
  one_bound (p.Func x g body) v = refl
  one_bound (p.Method query context x g body) v = refl
  one_bound (p.System x body) v = refl
  one_bound (p.TypeAlias x parameters u) v = refl
  one_bound (p.Class x g fields) v = refl
  one_bound (p.NamedObject x fields) v =
      let P = IsBoundSo e.types (p.NamedObject x fields) in
      after defs terms (PublicFields fields) _ (λ z. Unit {0}) P (anything defs terms (PublicFields fields)) (λ z y.
      after defs terms (FieldsJudged defs (directly Other e) n fields) _ (λ q. Unit {0}) P (anything defs terms (FieldsJudged defs (directly Other e) n fields)) (λ q i. λ m. (refl, (_, refl, refl))))
  one_bound (p.Evaluate a) v =
      after defs terms (Judge defs (directly Other e) a v) _ (λ b. Unit {0}) (IsBoundSo e.types (p.Evaluate a)) (anything defs terms (Judge defs (directly Other e) a v)) (λ b z. (_, refl, tt))
