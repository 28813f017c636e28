-- The types that are wanted of parts, and what is found of names.
use Rattle.std.proofs.Common.{◌≡◌, ℕ, Bool, true, false, List, [], ◌∷◌, Option, Some, None, refl, sym, ap, subst}
use Rattle.std.specs.Option.{option_and_then}
use Rattle.std.specs.Str.{bytes_eq}
use Rattle.mo_scopes.specs.declared.library.Member.{Member}
use Rattle.mo_types.specs.declared.node.Field.{Field}
use Rattle.mo_types.specs.Heads.{opt_of, array_of, mut_array_of, tuple_of, object_of, variant_of}
use Rattle.mo_types.specs.Sub.{Each}
use Rattle.typed_tree.specs.Instances.{field_types}
use Rattle.typing_rules.specs.declared.condition.Condition.TheVariants as condition
use Rattle.typing_rules.specs.AbstractSyntax.{Bytes, TypeNode, Pattern, Patterns, PatternFields, Expression, Form, Signature, Declaration, Declarations}
use Rattle.typing_rules.specs.AbstractSyntax as p
use Rattle.typing_rules.specs.AsyncPlaces.{Around}
use Rattle.typing_rules.specs.AsyncPlaces as around
use Rattle.typing_rules.specs.Calls.{built_in, if_generic, polymorphic, local_of}
use Rattle.typing_rules.specs.Contexts.{Bound, Context, value_named, in_loop}
use Rattle.typing_rules.specs.DeclaredTypes.{within}
use Rattle.typing_rules.specs.Definitions.{Definitions}
use Rattle.typing_rules.specs.Ends.{wanted}
use Rattle.typing_rules.specs.Expressions.{actor_text, some_each, Elements}
use Rattle.typing_rules.specs.Gathered.{both, of_generics, in_expression}
use Rattle.typing_rules.specs.Heads.{head}
use Rattle.typing_rules.specs.Judgements.{Judgement, Part, Case, Fine}
use Rattle.typing_rules.specs.Lists.{Made, EndsList, of_expression, TakesMade, Stable}
use Rattle.typing_rules.specs.Members.{member_bound}
use Rattle.typing_rules.specs.PublicFields.{EachAnnotated, AllAnnotated, FieldsAnnotated, PublicField, PublicFields}
use Rattle.typing_rules.specs.Patterns.{is_empty}
use Rattle.typing_rules.specs.Terms.{Term, unit}
use Rattle.typing_rules.specs.Terms as t
use Rattle.typing_rules.specs.Types.{Reads, ReadsOr}
use Rattle.typing_rules.specs.TypedTrees.{Note, Typed, type_of, declared_type}
use Rattle.typing_rules.specs.TypeScopes.{TypeScope, with_parameters, names_of, term, term_or}
use Rattle.proper_laws.specs.Proper.{IsProper, ArePartsProper}
use Rattle.proper_laws.specs.Source.{IsTypeSource, IsAnnotationSource}
use Rattle.proper_laws.proofs.Meeting.{more, given, tests}
use Rattle.meeting_laws.proofs.Basics.{each_named, Whole, Known, Plain, Meeting, IsWanted, Fits, IsBoundFine, IsContextFine, after, no_parts, both_parts, known, parts_of, greatest, wanted_is}
use Rattle.meeting_laws.proofs.Calling.{member_proper}
use Rattle.meeting_laws.proofs.Parts.{option_part, array_part, mut_array_part, tuple_parts, object_parts, variant_parts, local_parts}
use Rattle.meeting_laws.proofs.Standing.{spread, IsRead, reads}

module _ (defs : Definitions) where
  pub unit_plain : Plain defs unit
  unit_plain w = (tt, λ e. cc)

  -- ---- of the type that is wanted

  module _ (w : Option Term) (k : IsWanted defs w) where
    pub wanted_option : (q : Term × Term) → wanted defs opt_of w ≡ Some q → Plain defs q.1
    wanted_option q e =
        let h = wanted_is defs opt_of w q k e in
        λ z. option_part (IsProper defs) (head defs q.0) q.1 h.1 (parts_of defs q.0 (known defs q.0 h.0) (head defs q.0) refl z)

    pub wanted_array : (q : Term × Term) → wanted defs array_of w ≡ Some q → Plain defs q.1
    wanted_array q e =
        let h = wanted_is defs array_of w q k e in
        λ z. array_part (IsProper defs) (head defs q.0) q.1 h.1 (parts_of defs q.0 (known defs q.0 h.0) (head defs q.0) refl z)

    pub wanted_mut_array : (q : Term × Term) → wanted defs mut_array_of w ≡ Some q → Plain defs q.1
    wanted_mut_array q e =
        let h = wanted_is defs mut_array_of w q k e in
        λ z. mut_array_part (IsProper defs) (head defs q.0) q.1 h.1 (parts_of defs q.0 (known defs q.0 h.0) (head defs q.0) refl z)

    pub wanted_tuple : (q : Term × List Term) → wanted defs tuple_of w ≡ Some q → Each (Plain defs) q.1
    wanted_tuple q e =
        let h = wanted_is defs tuple_of w q k e in
        spread defs q.1 (λ z. tuple_parts (IsProper defs) (head defs q.0) q.1 h.1 (parts_of defs q.0 (known defs q.0 h.0) (head defs q.0) refl z))

    pub wanted_object : (q : Term × List (Field Term)) → wanted defs object_of w ≡ Some q → Whole defs → Each (IsProper defs) (field_types q.1)
    wanted_object q e =
        let h = wanted_is defs object_of w q k e in
        λ z. object_parts (IsProper defs) (head defs q.0) q.1 h.1 (parts_of defs q.0 (known defs q.0 h.0) (head defs q.0) refl z)

    pub wanted_variant : (q : Term × List (Field Term)) → wanted defs variant_of w ≡ Some q → Whole defs → Each (IsProper defs) (field_types q.1)
    wanted_variant q e =
        let h = wanted_is defs variant_of w q k e in
        λ z. variant_parts (IsProper defs) (head defs q.0) q.1 h.1 (parts_of defs q.0 (known defs q.0 h.0) (head defs q.0) refl z)

    pub wanted_local : (q : Term × (List Term × Term)) → wanted defs local_of w ≡ Some q → Each (Plain defs) q.1.0 × Plain defs q.1.1
    wanted_local q e =
        let h = wanted_is defs local_of w q k e in (
          spread defs q.1.0 (λ z. (local_parts defs (head defs q.0) q.1 h.1 (parts_of defs q.0 (known defs q.0 h.0) (head defs q.0) refl z)).0),
          λ z. (local_parts defs (head defs q.0) q.1 h.1 (parts_of defs q.0 (known defs q.0 h.0) (head defs q.0) refl z)).1,
        )

  pub some_wanted : (us : List Term) → Each (Plain defs) us → Each (IsWanted defs) (some_each us)
  some_wanted [] h = tt
  some_wanted (u ∷ us) h = (h.0, some_wanted us h.1)

  pub returns_plain : (o : Option Term) (u : Term) → IsWanted defs o → o ≡ Some u → Plain defs u
  returns_plain None u h e = cc
  returns_plain (Some v) u h e = let g : v ≡ u = cc in subst (Plain defs) g h

  pub elements : (at : ℕ) (us : List Term) → Each (Plain defs) us → Meeting defs (Elements at us) (Plain defs)
  elements at [] h = λ w. tt
  elements at (u ∷ us) h = greatest defs condition.Branches at (u ∷ us) (Plain defs) h

  -- ---- names

  pub bound_fine : (e : Context) → IsContextFine defs e → (x : Bytes) (b : Bound) → value_named e x ≡ Some b → IsBoundFine defs b
  bound_fine e h x b q = each_named (IsBoundFine defs) (λ y. bytes_eq x y) e.values b h.0 q

  pub built_in_parts : (e : Context) (s : TypeScope) (a : Expression ℕ) (x : Bytes) (m : Member) → built_in e a x ≡ Some m → ArePartsProper defs (in_expression s a)
  built_in_parts e s (p.exp at (p.Name y)) x m q = no_parts defs
  built_in_parts e s (p.exp at (p.Constant l)) x m q = cc
  built_in_parts e s (p.exp at f) x m q = cc

  pub actor_parts : (s : TypeScope) (a : Expression ℕ) (x : Bytes) → actor_text a ≡ Some x → ArePartsProper defs (in_expression s a)
  actor_parts s (p.exp at (p.ActorReference y)) x q = no_parts defs
  actor_parts s (p.exp at (p.Constant l)) x q = cc
  actor_parts s (p.exp at f) x q = cc

  generic_type : (u : Term) (m : Bool) (gs : List ℕ) (f : Form Note) (q : Bound × Form Note) → if_generic (record { type = u; mutable = m; generics = gs }) f ≡ Some q → u ≡ q.0.type
  generic_type u m [] f q e = cc
  generic_type u m (g ∷ gs) f q e = let h : (record { type = u; mutable = m; generics = g ∷ gs }, f) ≡ q = cc in ap (λ z. z.0.type) h

  of_option : {X : Type 0} (P : Term → Type 0) (g : X → Bound) (h : X → Form Note) (o : Option X) (q : Bound × Form Note) → ((x : X) → o ≡ Some x → P (g x).type) → option_and_then (λ x. if_generic (g x) (h x)) o ≡ Some q → P q.0.type
  of_option P g h None q k e = cc
  of_option P g h (Some x) q k e = subst P (generic_type (g x).type (g x).mutable (g x).generics (h x) q e) (k x refl)

  pub polymorphic_known : (e : Context) → IsContextFine defs e → (s : TypeScope) (f : Expression ℕ) (q : Bound × Form Note) → polymorphic e f ≡ Some q → ArePartsProper defs (in_expression s f) × Known defs q.0.type
  polymorphic_known e h s (p.exp at (p.Name x)) q i =
      (no_parts defs, of_option (Known defs) (λ b. b) (λ b. p.Name x) (value_named e x) q (λ b j. (bound_fine e h x b j).0) i)
  polymorphic_known e h s (p.exp at (p.Member a x)) q i =
      (is_built_in (built_in e a x) refl i, of_option (Known defs) member_bound (λ m. p.BuiltIn m) (built_in e a x) q (λ m j. known defs (member_bound m).type (λ w. member_proper defs m)) i)
    where
      is_built_in : (o : Option Member) → built_in e a x ≡ o → option_and_then (λ m. if_generic (member_bound m) (p.BuiltIn m)) o ≡ Some q → ArePartsProper defs (in_expression s a)
      is_built_in None j k = cc
      is_built_in (Some m) j k = built_in_parts e s a x m j
  polymorphic_known e h s (p.exp at (p.Constant l)) q i = cc
  polymorphic_known e h s (p.exp at f) q i = cc

  -- ---- contexts

  pub loop_parts : (o : Around) (e : Context) (a : Expression ℕ) (b : Typed) → Fits defs (in_loop o e).around (in_expression (in_loop o e).types a) b → ArePartsProper defs (in_expression e.types a)
  loop_parts around.Labelled e a b h = h.0
  loop_parts o e a b h = h.0

  pub function_parts_of : (s : TypeScope) (g : Signature ℕ) (body : Expression ℕ) → g.generics ≡ [] → ArePartsProper defs (in_expression s body) → ArePartsProper defs (both (of_generics (within s g) g.generics) (in_expression (within s g) body))
  function_parts_of s g body e h =
      subst (λ gs. ArePartsProper defs (both (of_generics (with_parameters s (names_of gs)) gs) (in_expression (with_parameters s (names_of gs)) body))) (sym e) (both_parts defs (of_generics s []) (in_expression s body) (tt, tt) h)

  -- ---- annotations

  pub annotation_is : (o : Option TypeNode) (a : TypeNode) → IsAnnotationSource o → o ≡ Some a → IsTypeSource a
  annotation_is None a h e = cc
  annotation_is (Some b) a h e = let g : b ≡ a = cc in subst (λ z. IsTypeSource z) g h

  pub reads_plain : (s : TypeScope) (o : Option TypeNode) (u : Term) → IsAnnotationSource o → Plain defs u → Meeting defs (ReadsOr defs s o u) (Plain defs)
  reads_plain s None u h k = k
  reads_plain s (Some a) u h k = more defs (Known defs) (Reads defs s a) (IsRead defs s a) (Plain defs) (reads defs s a h) (λ v r. λ w. r.1)

  -- what is judged at its annotation or by itself
  abbrev pub IsDeclared : (Term → Type 0) → TypeScope → Option TypeNode → Definitions → Typed → Type 0
  IsDeclared T s u part b = ArePartsProper defs part × T (declared_type s u b) × IsProper defs (term_or s u t.Bottom)

  pub declared : (T : Term → Type 0) → ((v : Term) → IsProper defs v → T v) → (s : TypeScope) (u : Option TypeNode) → IsAnnotationSource u → (part : Definitions) (k : Term → Judgement Typed) (j : Judgement Typed)
      → ((v : Term) → Plain defs v → Meeting defs (k v) (λ b. ArePartsProper defs part)) → Meeting defs j (λ b. ArePartsProper defs part × T (type_of b))
      → Meeting defs (Case u (λ a. Part (Reads defs s a) (λ v. k v)) (λ z. j)) (IsDeclared T s u part)
  declared T lift s None h part k j m n = more defs (Known defs) j (λ b. ArePartsProper defs part × T (type_of b)) (IsDeclared T s None part) n (λ b q. (q.0, q.1, tt))
  declared T lift s (Some a) h part k j m n =
      after defs (Reads defs s a) _ (IsRead defs s a) (IsDeclared T s (Some a) part) (reads defs s a h) (λ v r.
      more defs (Known defs) (k v) (λ b. ArePartsProper defs part) (IsDeclared T s (Some a) part) (m v (λ w. r.1)) (λ b q.
      (q, lift (term s a) (subst (λ z. IsProper defs z) r.0 r.1), subst (λ z. IsProper defs z) r.0 r.1)))

  -- ---- lists

  pub expression_wanted : (value : Bool) (rest : Declarations ℕ) (w : Option Term) → IsWanted defs w → IsWanted defs (of_expression value rest w)
  expression_wanted true p.End w k = k
  expression_wanted true (p.Then public n d rest) w k = unit_plain
  expression_wanted false rest w k = unit_plain

  pub ends_list : (at : ℕ) (last w : Option Term) → IsWanted defs last → Meeting defs (EndsList at last w) (Plain defs)
  ends_list at (Some u) w h = h
  ends_list at None None h = (unit_plain, unit_plain)
  ends_list at None (Some u) h = (unit_plain, (λ e. unit_plain, tt))

  pub takes : (made : List Made) → Meeting defs (TakesMade made) (λ q. Unit {0})
  takes [] = tt
  takes (d ∷ ds) = tt

  pub stable_goes : {A : Type 0} (b : Bool) (at : ℕ) (u : Term) (j : Judgement A) (R : A → Type 0) → Meeting defs j R → Meeting defs (Stable b at u j) R
  stable_goes false at u j R m = m
  stable_goes true at u j R m = (λ h. m, tt)

  abbrev Anything : Unit {0} → Type 0
  Anything z = Unit {0}

  under : (at : ℕ) (q : Pattern ℕ) (a : TypeNode) → Meeting defs (EachAnnotated q) Anything → Meeting defs (EachAnnotated (p.pattern at (p.Annotated q a))) Anything
  under at (p.pattern n (p.Variable x)) a m = tt
  under at (p.pattern n (p.Annotated q b)) a m = m
  under at (p.pattern n f) a m = m

  mutual
    annotated : (q : Pattern ℕ) → Meeting defs (EachAnnotated q) Anything
    annotated (p.pattern at (p.Annotated q a)) = under at q a (annotated q)
    annotated (p.pattern at (p.Alternative q r)) = tt
    annotated (p.pattern at (p.Optional q)) = annotated q
    annotated (p.pattern at (p.Tag x)) = tt
    annotated (p.pattern at (p.Tagged x q)) = annotated q
    annotated (p.pattern at (p.Variable x)) = tt
    annotated (p.pattern at p.Wildcard) = tt
    annotated (p.pattern at (p.Constant minus l)) = tt
    annotated (p.pattern at (p.Tuple items)) = all_annotated items
    annotated (p.pattern at (p.Object fields)) = fields_annotated fields

    all_annotated : (qs : Patterns ℕ) → Meeting defs (AllAnnotated qs) Anything
    all_annotated p.Nil = tt
    all_annotated (p.Cons q rest) = after defs (EachAnnotated q) _ _ Anything (annotated q) (λ z h. all_annotated rest)

    fields_annotated : (qs : PatternFields ℕ) → Meeting defs (FieldsAnnotated qs) Anything
    fields_annotated p.NoFields = tt
    fields_annotated (p.Field x q rest) = after defs (EachAnnotated q) _ _ Anything (annotated q) (λ z h. fields_annotated rest)

  public_field : (d : Declaration ℕ) → Meeting defs (PublicField d) Anything
  public_field (p.Let q a) = annotated q
  public_field (p.Var stable x u a) = given defs (Known defs) condition.NeedsType x.at u _ Anything (λ v e. tt)
  public_field (p.Func x g body) = tests defs (Known defs) condition.TypeArguments x.at (is_empty g.generics) Fine Anything (λ e. tt)
  public_field (p.Class x g fields) = tests defs (Known defs) condition.TypeArguments x.at (is_empty g.generics) Fine Anything (λ e. tt)
  public_field (p.NamedObject x fields) = tt
  public_field d = tt

  pub public_fields : (ds : Declarations ℕ) → Meeting defs (PublicFields ds) Anything
  public_fields p.End = tt
  public_fields (p.Then true at d rest) = after defs (PublicField d) _ _ Anything (public_field d) (λ z h. public_fields rest)
  public_fields (p.Then false at d rest) = public_fields rest
