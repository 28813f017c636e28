-- Lists of declarations: the definitions in them, and the objects that their public fields give.
use Rattle.std.proofs.Common.{◌≡◌, ℕ, true, false, List, [], ◌∷◌, ◌++◌, refl, sym, ap, subst, ◌∙◌}
use Rattle.std.specs.Prelude.{map}
use Rattle.mo_types.specs.Label.{label_id}
use Rattle.mo_types.specs.Sub.{Each}
use Rattle.mo_types.specs.Values.{is_method_name}
use Rattle.typed_tree.specs.OperationTypes.{Distinct}
use Rattle.typed_tree.specs.Shareable.{IsSharedFunction}
use Rattle.typed_tree.specs.Types.{LabelsDiffer, AreConstant}
use Rattle.typing_rules.specs.AbstractSyntax.{Bytes, TypeNode, Pattern, Patterns, PatternFields, Declaration, Declarations}
use Rattle.typing_rules.specs.AbstractSyntax as p
use Rattle.typing_rules.specs.Contexts.{Context, Scope, with_values, with_types}
use Rattle.typing_rules.specs.DeclaredTypes.{within, with_list, pattern_fields, patterns_fields, fields_fields, declared_fields, member_fields}
use Rattle.typing_rules.specs.Definitions.{Definitions}
use Rattle.typing_rules.specs.Gathered.{both, of_generics, defined, class_object, in_expression, in_list, in_declaration}
use Rattle.typing_rules.specs.Heads.{head}
use Rattle.typing_rules.specs.Judgements.{Judgement}
use Rattle.typing_rules.specs.Lists.{Made, Run, Listed}
use Rattle.typing_rules.specs.Programs.{method_fields}
use Rattle.typing_rules.specs.Signatures.{Signatures, DefinitionsOf}
use Rattle.typing_rules.specs.Terms.{Term, Fields, listed_fields}
use Rattle.typing_rules.specs.Terms as t
use Rattle.typing_rules.specs.TypedTrees.{Note}
use Rattle.typing_rules.specs.TypeScopes.{TypeScope, names_of, term_or}
use Rattle.desugaring.specs.FreeNames.{names_in, names_in_each, names_in_fields, field_names}
use Rattle.proper_laws.specs.Proper.{IsProper, FieldsAreProper, ArePartsProper}
use Rattle.proper_laws.specs.Source.{DifferAsLabels}
use Rattle.meeting_laws.specs.Source.{public_labels, method_labels, AreSource}
use Rattle.meeting_laws.proofs.Basics.{Plain, Meeting, IsScopeFine, IsContextFine, after, no_parts, both_parts}
use Rattle.meeting_laws.proofs.Standing.{PatternGives}
use Rattle.meeting_laws.proofs.Signing.{IsSigned, AreSigned, IsAliased, AreAliased, class_proper, shared_sort, signatures, definitions_of}

-- ---- labels

abbrev pub labels : Fields → List Bytes
labels t.NoFields = []
labels (t.WithField l mutable u rest) = l ∷ labels rest

labels_map : (fs : Fields) → map label_id (labels fs) ≡ map (λ f. label_id f.label) (listed_fields fs)
labels_map t.NoFields = refl
labels_map (t.WithField l mutable u rest) = ap (λ xs. label_id l ∷ xs) (labels_map rest)

pub labels_differ : (fs : Fields) (xs : List Bytes) → labels fs ≡ xs → DifferAsLabels xs → LabelsDiffer (listed_fields fs)
labels_differ fs xs e h = subst (λ z. Distinct z) (labels_map fs) (subst (λ z. Distinct (map label_id z)) (sym e) h)

append_assoc : (xs ys zs : List Bytes) → (xs ++ ys) ++ zs ≡ xs ++ (ys ++ zs)
append_assoc [] ys zs = refl
append_assoc (x ∷ xs) ys zs = ap (λ l. x ∷ l) (append_assoc xs ys zs)

module _ (s : TypeScope) where
  under_labels : (n : ℕ) (q : Pattern ℕ) (a : TypeNode) (rest : Fields) → labels (pattern_fields s q rest) ≡ names_in q ++ labels rest → labels (pattern_fields s (p.pattern n (p.Annotated q a)) rest) ≡ names_in q ++ labels rest
  under_labels n (p.pattern m (p.Variable x)) a rest h = refl
  under_labels n (p.pattern m (p.Annotated q b)) a rest h = h
  under_labels n (p.pattern m f) a rest h = h

  mutual
    pattern_labels : (q : Pattern ℕ) (rest : Fields) → labels (pattern_fields s q rest) ≡ names_in q ++ labels rest
    pattern_labels (p.pattern n (p.Annotated q a)) rest = under_labels n q a rest (pattern_labels q rest)
    pattern_labels (p.pattern n (p.Alternative q o)) rest = refl
    pattern_labels (p.pattern n (p.Optional q)) rest = pattern_labels q rest
    pattern_labels (p.pattern n (p.Tag x)) rest = refl
    pattern_labels (p.pattern n (p.Tagged x q)) rest = pattern_labels q rest
    pattern_labels (p.pattern n (p.Variable x)) rest = refl
    pattern_labels (p.pattern n p.Wildcard) rest = refl
    pattern_labels (p.pattern n (p.Constant minus l)) rest = refl
    pattern_labels (p.pattern n (p.Tuple items)) rest = each_labels items rest
    pattern_labels (p.pattern n (p.Object fields)) rest = fields_labels fields rest

    each_labels : (qs : Patterns ℕ) (rest : Fields) → labels (patterns_fields s qs rest) ≡ names_in_each qs ++ labels rest
    each_labels p.Nil rest = refl
    each_labels (p.Cons q qs) rest = pattern_labels q (patterns_fields s qs rest) ∙ (ap (λ ls. names_in q ++ ls) (each_labels qs rest) ∙ sym (append_assoc (names_in q) (names_in_each qs) (labels rest)))

    fields_labels : (qs : PatternFields ℕ) (rest : Fields) → labels (fields_fields s qs rest) ≡ names_in_fields qs ++ labels rest
    fields_labels p.NoFields rest = refl
    fields_labels (p.Field x q qs) rest = pattern_labels q (fields_fields s qs rest) ∙ (ap (λ ls. names_in q ++ ls) (fields_labels qs rest) ∙ sym (append_assoc (names_in q) (names_in_fields qs) (labels rest)))

  declared_labels : (d : Declaration ℕ) (rest : Fields) → labels (declared_fields s d rest) ≡ field_names d ++ labels rest
  declared_labels (p.Let q a) rest = pattern_labels q rest
  declared_labels (p.Var stable x u a) rest = refl
  declared_labels d rest = refl

  -- each public name is a label
  field_labels : (ds : Declarations ℕ) → labels (member_fields s ds) ≡ public_labels ds
  field_labels p.End = refl
  field_labels (p.Then true n d rest) = declared_labels d (member_fields s rest) ∙ ap (λ ls. field_names d ++ ls) (field_labels rest)
  field_labels (p.Then false n d rest) = field_labels rest

  methods_labels : (ds : Declarations ℕ) → labels (method_fields s ds) ≡ method_labels ds
  methods_labels p.End = refl
  methods_labels (p.Then public n (p.Method query context x g body) rest) = ap (λ ls. x.bytes ∷ ls) (methods_labels rest)
  methods_labels (p.Then public n (p.Let q a) rest) = methods_labels rest
  methods_labels (p.Then public n d rest) = methods_labels rest

module _ (defs : Definitions) where
  -- ---- what the rules of a list see to, each for the declarations that it goes over

  -- what is evaluated in order
  abbrev pub IsOrdered : TypeScope → Declaration ℕ → Type 0
  IsOrdered s (p.Let q a) = PatternGives defs s q × ArePartsProper defs (in_expression s a)
  IsOrdered s (p.Var stable x u a) = IsProper defs (term_or s u t.Bottom) × ArePartsProper defs (in_expression s a)
  IsOrdered s (p.NamedObject x fields) = ArePartsProper defs (in_list (with_list s fields) fields)
  IsOrdered s (p.Evaluate a) = ArePartsProper defs (in_expression s a)
  IsOrdered s _ = Unit {0}

  abbrev pub AreOrdered : TypeScope → Declarations ℕ → Type 0
  AreOrdered s p.End = Unit {0}
  AreOrdered s (p.Then public n d rest) = IsOrdered s d × AreOrdered s rest

  -- the bodies of functions and classes
  abbrev pub IsBodied : TypeScope → Declaration ℕ → Type 0
  IsBodied s (p.Func x g body) = ArePartsProper defs (in_expression (within s g) body)
  IsBodied s (p.Method query context x g body) = ArePartsProper defs (in_expression s body)
  IsBodied s (p.System x body) = ArePartsProper defs (in_expression s body)
  IsBodied s (p.Class x g fields) = IsProper defs (class_object s g fields) × ArePartsProper defs (in_list (with_list (within s g) fields) fields)
  IsBodied s _ = Unit {0}

  abbrev pub AreBodied : TypeScope → Declarations ℕ → Type 0
  AreBodied s p.End = Unit {0}
  AreBodied s (p.Then public n d rest) = IsBodied s d × AreBodied s rest

  module _ (s : TypeScope) where
    declaration_parts : (d : Declaration ℕ) → IsAliased defs s d → IsSigned defs s d → IsOrdered s d → IsBodied s d → ArePartsProper defs (in_declaration s d)
    declaration_parts (p.Let q a) i j k l = k.1
    declaration_parts (p.Var stable x u a) i j k l = k.1
    declaration_parts (p.Func x g body) i j k l = both_parts defs (of_generics (within s g) g.generics) (in_expression (within s g) body) (tt, j.0) l
    declaration_parts (p.Method query context x g body) i j k l = l
    declaration_parts (p.System x body) i j k l = l
    declaration_parts (p.TypeAlias x parameters a) i j k l = ((i, tt), tt)
    declaration_parts (p.Class x g fields) i j k l =
        both_parts defs (defined s x (names_of g.generics) (class_object s g fields)) (both (of_generics (within s g) g.generics) (in_list (with_list (within s g) fields) fields)) ((l.0, tt), tt)
        (both_parts defs (of_generics (within s g) g.generics) (in_list (with_list (within s g) fields) fields) (tt, j.0) l.1)
    declaration_parts (p.NamedObject x fields) i j k l = k
    declaration_parts (p.Evaluate a) i j k l = k

    list_parts : (ds : Declarations ℕ) → AreAliased defs s ds → AreSigned defs s ds → AreOrdered s ds → AreBodied s ds → ArePartsProper defs (in_list s ds)
    list_parts p.End i j k l = no_parts defs
    list_parts (p.Then public n d rest) i j k l = both_parts defs (in_declaration s d) (in_list s rest) (declaration_parts d i.0 j.0 k.0 l.0) (list_parts rest i.1 j.1 k.1 l.1)

    -- ---- objects

    declared_proper : (d : Declaration ℕ) → IsSigned defs s d → IsOrdered s d → (rest : Fields) → FieldsAreProper defs rest → FieldsAreProper defs (declared_fields s d rest)
    declared_proper (p.Let q a) j k rest h = k.0 rest h
    declared_proper (p.Var stable x u a) j k rest h = (k.0, h)
    declared_proper (p.Func x g body) j k rest h = ((j.1, j.2), h)
    declared_proper (p.Class x g fields) j k rest h = ((j.1, class_proper defs (within s g) x), h)
    declared_proper (p.Evaluate a) j k rest h = h
    declared_proper d j k rest h = h

    members_are : (ds : Declarations ℕ) → AreSigned defs s ds → AreOrdered s ds → FieldsAreProper defs (member_fields s ds)
    members_are p.End j k = tt
    members_are (p.Then true n d rest) j k = declared_proper d j.0 k.0 (member_fields s rest) (members_are rest j.1 k.1)
    members_are (p.Then false n d rest) j k = members_are rest j.1 k.1

    pub object_proper : (ds : Declarations ℕ) → DifferAsLabels (public_labels ds) → FieldsAreProper defs (member_fields s ds) → IsProper defs (t.Object (member_fields s ds))
    object_proper ds h k = (k, labels_differ (member_fields s ds) (public_labels ds) (field_labels s ds) h)

    -- ---- actors

    methods_proper : (ds : Declarations ℕ) → AreSigned defs s ds → FieldsAreProper defs (method_fields s ds)
    methods_proper p.End h = tt
    methods_proper (p.Then public n (p.Method query context x g body) rest) h = (h.0, methods_proper rest h.1)
    methods_proper (p.Then public n (p.Let q a) rest) h = methods_proper rest h.1
    methods_proper (p.Then public n d rest) h = methods_proper rest h.1

    methods_constant : (ds : Declarations ℕ) → AreConstant (listed_fields (method_fields s ds))
    methods_constant p.End = tt
    methods_constant (p.Then public n (p.Method query context x g body) rest) = (refl, methods_constant rest)
    methods_constant (p.Then public n (p.Let q a) rest) = methods_constant rest
    methods_constant (p.Then public n d rest) = methods_constant rest

    methods_shared : (ds : Declarations ℕ) → Each (λ x. is_method_name x ≡ true) (method_labels ds)
        → Each (λ f. IsSharedFunction (head defs f.part) × (is_method_name f.label ≡ true)) (listed_fields (method_fields s ds))
    unfolding head
    methods_shared p.End h = tt
    methods_shared (p.Then public n (p.Method query context x g body) rest) h = ((shared_sort defs query, h.0), methods_shared rest h.1)
    methods_shared (p.Then public n (p.Let q a) rest) h = methods_shared rest h
    methods_shared (p.Then public n d rest) h = methods_shared rest h

    pub actor_proper : (ds : Declarations ℕ) → DifferAsLabels (method_labels ds) → Each (λ x. is_method_name x ≡ true) (method_labels ds) → AreSigned defs s ds → IsProper defs (t.Actor (method_fields s ds))
    actor_proper ds h k j = (methods_proper ds j, labels_differ (method_fields s ds) (method_labels ds) (methods_labels s ds) h, methods_constant ds, methods_shared ds k)

  -- ---- lists

  -- what is given by the declarations that are evaluated in order
  abbrev pub HasRun : TypeScope → Declarations ℕ → Run → Type 0
  HasRun s ds run = Plain defs run.type × IsContextFine defs run.known × (run.known.types ≡ s) × AreOrdered s ds

  abbrev pub HasListed : TypeScope → Declarations ℕ → Term × Declarations Note → Type 0
  HasListed s ds q = Plain defs q.0 × ArePartsProper defs (in_list s ds) × FieldsAreProper defs (member_fields s ds) × AreSigned defs s ds

  pub listed : (e : Context) (ds : Declarations ℕ) → AreSource ds → (AreSigned defs (with_list e.types ds) ds → IsContextFine defs e) → (order : Context → Judgement Run) (bodies : Context → List Made → Judgement (Declarations Note))
      → ((names : Scope) → IsScopeFine defs names → IsContextFine defs e → Meeting defs (order (with_values names (with_types (with_list e.types ds) e))) (HasRun (with_list e.types ds) ds))
      → ((known : Context) (made : List Made) → IsContextFine defs known → AreSigned defs known.types ds → Meeting defs (bodies known made) (λ z. AreBodied known.types ds))
      → Meeting defs (Listed defs e ds order bodies) (HasListed (with_list e.types ds) ds)
  listed e ds h fine order bodies f g =
      let s : TypeScope = with_list e.types ds in
      after defs (DefinitionsOf defs s ds) _ _ (HasListed s ds) (definitions_of defs s ds h) (λ z i.
      after defs (Signatures defs s ds) _ _ (HasListed s ds) (signatures defs s ds h) (λ names j.
      after defs (order (with_values names (with_types s e))) _ _ (HasListed s ds) (f names j.0 (fine j.1)) (λ run k.
      after defs (bodies run.known run.made) _ _ (HasListed s ds) (g run.known run.made k.1 (subst (λ c. AreSigned defs c ds) (sym k.2) j.1)) (λ made l.
      (k.0, list_parts s ds i j.1 k.3 (subst (λ c. AreBodied c ds) k.2 l), members_are s ds j.1 k.3, j.1)))))
