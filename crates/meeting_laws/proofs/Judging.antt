-- The one recursion over the source: each judgement meets proper types only, or futures of such.
use Rattle.std.proofs.Common.{◌≡◌, ◌≢◌, ℕ, suc, Bool, true, false, List, [], ◌∷◌, ◌++◌, length, Option, Some, None, refl, sym, ap, subst, ◌∙◌}
use Rattle.std.specs.Prelude.{neg_ℤ, pos, nat_eq, is_some, slice_get}
use Rattle.std.specs.Str.{bytes_eq}
use Rattle.mo_num.specs.declared.kind.Kind.TheVariants as kind
use Rattle.mo_scopes.specs.Scopes.{named}
use Rattle.mo_types.specs.declared.node.Field.{Field}
use Rattle.mo_types.specs.Heads.{opt_of, array_of, mut_array_of, tuple_of, object_of, actor_of, variant_of, func_of, async_of}
use Rattle.mo_types.specs.Sub.{Each, find}
use Rattle.typed_tree.specs.Instances.{field_types}
use Rattle.typing_rules.specs.declared.condition.Condition.TheVariants as condition
use Rattle.typing_rules.specs.AbstractSyntax.{Bytes, TypeNode, Expression, Form, Expressions, Cases, ObjectFields, Declaration, Declarations}
use Rattle.typing_rules.specs.AbstractSyntax as p
use Rattle.typing_rules.specs.AsyncPlaces.{Around, Awaited, Labelled, Other, Local, waits, calls, takes_call, takes_name, body_of, around_of, FuturePlaced}
use Rattle.typing_rules.specs.Calls.{built_in, polymorphic, local_of, called, Instance, items_of}
use Rattle.typing_rules.specs.Contexts.{Context, Scope, variable, value_named, with_values, with_label, in_loop, with_types, in_option, in_body, directly}
use Rattle.typing_rules.specs.DeclaredTypes.{within, with_list, member_fields}
use Rattle.typing_rules.specs.Definitions.{Definitions}
use Rattle.typing_rules.specs.Ends.{wanted, Greatest}
use Rattle.typing_rules.specs.Expressions.{actor_text, all_there, element_of, some_each, same, Elements, field_questions, Judge, Rule, JudgePlace, PlaceRule, JudgeEach, JudgeAll, JudgeCases, JudgeFields, JudgeOrder, JudgeOne, JudgeBodies, JudgeBody}
use Rattle.typing_rules.specs.Gathered.{nothing, both, in_expression, in_each, in_cases, in_fields, in_list}
use Rattle.typing_rules.specs.Heads.{head, members_head}
use Rattle.typing_rules.specs.Judgements.{Gives, Meets, Part, Case, Given, Tests, NeedsEach}
use Rattle.typing_rules.specs.Lists.{Made, Entry, entry, of_expression, EndsList, Listed}
use Rattle.typing_rules.specs.Literals.{plain_number, written}
use Rattle.typing_rules.specs.Members.{member_bound, member_type, object_field}
use Rattle.typing_rules.specs.Operands.{Operand}
use Rattle.typing_rules.specs.Operators.{family}
use Rattle.typing_rules.specs.Patterns.{Stands, is_empty}
use Rattle.typing_rules.specs.PublicFields.{PublicFields}
use Rattle.typing_rules.specs.Signatures.{Parameters, ContextOf, async_term}
use Rattle.typing_rules.specs.Terms.{Term, listed, unlisted, unit, nat}
use Rattle.typing_rules.specs.Terms as t
use Rattle.typing_rules.specs.Types.{Reads, ReadsOr}
use Rattle.typing_rules.specs.TypedTrees.{Note, Typed, note, typed, type_of, types_of, case_types, field_types as made_types, declared_type, signature, place, annotation, count, count_patterns}
use Rattle.typing_rules.specs.TypeScopes.{TypeScope, term_or}
use Rattle.proper_laws.specs.Proper.{IsProper, FieldsAreProper, ArePartsProper}
use Rattle.proper_laws.specs.Source.{IsTypeSource}
use Rattle.proper_laws.proofs.Meeting.{more, given, tests, needs_each, by_case}
use Rattle.meeting_laws.specs.Source.{labels_in, AreArgumentsSource, IsSource, EachIsSource, CasesAreSource, FieldsAreSource, AreSource, DeclarationIsSource}
use Rattle.meeting_laws.proofs.Basics.{each_both, each_named, Whole, Known, Plain, Meeting, IsWanted, IsPlaced, Fits, IsScopeFine, IsContextFine, after, no_parts, both_parts, known, placed, met, parts_of, members_of, has, has_plain, leaves, greatest, branches, future_placed, name_placed, call_placed, loop_fine}
use Rattle.meeting_laws.proofs.Calling.{member_proper, member_plain, items_plain, instance}
use Rattle.meeting_laws.proofs.Listing.{labels, labels_differ, IsOrdered, IsBodied, AreBodied, HasRun, HasListed, object_proper, listed as list_fine}
use Rattle.meeting_laws.proofs.Operating.{number, constant, as_wanted, plain_parts, negative, binary, operand_of}
use Rattle.meeting_laws.proofs.Parts.{option_part, mut_array_part, async_part, tuple_parts, element_part, object_field_part, field_part, part_at, function_parts, unlisted_proper, listed_back, called_met}
use Rattle.meeting_laws.proofs.Signing.{annotation_fine, IsSigned, AreSigned, parameters, context_of}
use Rattle.meeting_laws.proofs.Standing.{spread, gather, reads, stands}
use Rattle.meeting_laws.proofs.Wanting.{unit_plain, wanted_option, wanted_array, wanted_mut_array, wanted_tuple, wanted_object, wanted_variant, wanted_local, some_wanted, returns_plain, elements, bound_fine, built_in_parts, actor_parts, polymorphic_known, loop_parts, function_parts_of, reads_plain, IsDeclared, declared, expression_wanted, ends_list, takes, stable_goes, public_fields}

module _ (defs : Definitions) where
  -- what the parts of a node give
  abbrev AreJudged : TypeScope → Expressions ℕ → Expressions Note → Type 0
  AreJudged s items es = ArePartsProper defs (in_each s items) × Each (Plain defs) (types_of es) × (length (types_of es) ≡ count items)

  abbrev CasesJudged : TypeScope → Cases ℕ → Cases Note → Type 0
  CasesJudged s cases cs = ArePartsProper defs (in_cases s cases) × Each (Plain defs) (case_types cs)

  abbrev FieldsJudged : TypeScope → ObjectFields ℕ → ObjectFields Note → Type 0
  FieldsJudged s fields fs = ArePartsProper defs (in_fields s fields) × (Whole defs → FieldsAreProper defs (made_types s fs)) × (labels (made_types s fs) ≡ labels_in fields)

  abbrev OneJudged : TypeScope → Declaration ℕ → Entry → Type 0
  OneJudged s d one = IsScopeFine defs one.scope × IsWanted defs one.value × IsOrdered defs s d

  -- around what a name binds
  pub bound_around : (names : Scope) (e : Context) → IsScopeFine defs names → IsContextFine defs e → IsContextFine defs (with_values names e)
  bound_around names e n h = (each_both _ names e.values n h.0, h.1, h.2)

  tuple_differs : (us : List Term) (n : ℕ) → length us ≡ n → n ≢ 1 → length (listed (unlisted us)) ≢ 1
  tuple_differs us n e h f = h (sym e ∙ (sym (listed_back defs us) ∙ f))

  -- types of members, in the head by which members go
  module _ (b : Typed) (h : Plain defs (type_of b)) where
    member_of : (x : Bytes) (u : Term) → member_type x (members_head defs (type_of b)) ≡ Some u → Plain defs u
    member_of x u e w = member_plain defs x (members_head defs (type_of b)) u e (members_of defs (type_of b) (known defs (type_of b) h) (members_head defs (type_of b)) refl w)

    tuple_of_members : (us : List Term) → tuple_of (members_head defs (type_of b)) ≡ Some us → Whole defs → Each (IsProper defs) us
    tuple_of_members us e w = tuple_parts (IsProper defs) (members_head defs (type_of b)) us e (members_of defs (type_of b) (known defs (type_of b) h) (members_head defs (type_of b)) refl w)

    element_of_members : (u : Term) → element_of (members_head defs (type_of b)) ≡ Some u → Plain defs u
    element_of_members u e w = element_part (IsProper defs) (members_head defs (type_of b)) u e (members_of defs (type_of b) (known defs (type_of b) h) (members_head defs (type_of b)) refl w)

    mut_element_of : (u : Term) → mut_array_of (members_head defs (type_of b)) ≡ Some u → Plain defs u
    mut_element_of u e w = mut_array_part (IsProper defs) (members_head defs (type_of b)) u e (members_of defs (type_of b) (known defs (type_of b) h) (members_head defs (type_of b)) refl w)

    field_of : (x : Bytes) (f : Field Term) → object_field x (members_head defs (type_of b)) ≡ Some f → Plain defs f.part
    field_of x f e w = object_field_part (IsProper defs) x (members_head defs (type_of b)) f e (members_of defs (type_of b) (known defs (type_of b) h) (members_head defs (type_of b)) refl w)

    items_of_members : (u : Term) → items_of defs (members_head defs (type_of b)) ≡ Some u → Plain defs u
    items_of_members u e = items_plain defs (members_head defs (type_of b)) u e (λ w. members_of defs (type_of b) (known defs (type_of b) h) (members_head defs (type_of b)) refl w)

    option_of : (u : Term) → opt_of (head defs (type_of b)) ≡ Some u → Plain defs u
    option_of u e w = option_part (IsProper defs) (head defs (type_of b)) u e (parts_of defs (type_of b) (known defs (type_of b) h) (head defs (type_of b)) refl w)

  arguments_source : (types : Option (List TypeNode)) (us : List TypeNode) → AreArgumentsSource types → types ≡ Some us → Each IsTypeSource us
  arguments_source None us h e = cc
  arguments_source (Some vs) us h e = let g : vs ≡ us = cc in subst (λ z. Each IsTypeSource z) g h

  mutual
    judge : (e : Context) → IsContextFine defs e → (a : Expression ℕ) → IsSource a → (w : Option Term) → IsWanted defs w → Meeting defs (Judge defs e a w) (Fits defs e.around (in_expression e.types a))
    judge e h (p.exp at f) s None k = rule e.around e h at f s None k
    judge e h (p.exp at f) s (Some u) k = (known defs u k, rule e.around e h at f s (Some u) k)

    rule : (o : Around) (e : Context) → IsContextFine defs e → (at : ℕ) (f : Form ℕ) → IsSource (p.exp at f) → (w : Option Term) → IsWanted defs w
        → Meeting defs (Rule defs o (directly Other e) at f w) (Fits defs o (in_expression e.types (p.exp at f)))
    rule o e h at (p.Constant l) s w k = constant defs o at w l k
    rule o e h at (p.Name x) s w k =
        given defs (Known defs) condition.NoField at (value_named e x) _ _ (λ b q.
        tests defs (Known defs) condition.TypeArguments at (is_empty b.generics) _ _ (λ i.
        after defs (FuturePlaced defs e.body (takes_name o) at b.type) _ _ _ (future_placed defs e.body (takes_name o) at b.type) (λ z m.
        has defs at w b.type (p.Name x) (Fits defs o nothing) (bound_fine defs e h x b q).0 (no_parts defs, λ z. name_placed defs o b.type ((bound_fine defs e h x b q).0 z) m))))
    rule o e h at (p.BuiltIn m) s w k = has_plain defs o nothing at w (member_bound m).type (p.BuiltIn m) (λ z. member_proper defs m) (no_parts defs)
    rule o e h at (p.Subsumed a) s w k =
        more defs (Known defs) (Judge defs (directly Other e) a w) (Fits defs Other (in_expression e.types a)) (Fits defs o (in_expression e.types a)) (judge (directly Other e) h a s w k) (λ b q. (q.0, λ z. placed defs o (type_of b) (q.1 z)))
    rule o e h at (p.Tuple items) s w k =
        by_case defs (Known defs) (wanted defs tuple_of w) _ _ _
        (λ q i. tests defs (Known defs) condition.Mismatch at (nat_eq (length q.1) (count items)) _ _ (λ g.
        after defs (JudgeEach defs (directly Other e) items (some_each q.1)) _ _ _ (each_judged (directly Other e) h items s.0 (some_each q.1) (some_wanted defs q.1 (wanted_tuple defs w k q i))) (λ es m.
        as_wanted defs o tuple_of w q (in_each e.types items) (typed at q.0 (p.Tuple es)) refl k i m.0)))
        (λ i. after defs (JudgeEach defs (directly Other e) items []) _ _ _ (each_judged (directly Other e) h items s.0 [] tt) (λ es m.
        has_plain defs o (in_each e.types items) at w (t.Tuple (unlisted (types_of es))) (p.Tuple es)
        (λ z. (unlisted_proper defs (types_of es) (gather defs (types_of es) m.1 z), tuple_differs (types_of es) (count items) m.2 s.1)) m.0))
    rule o e h at (p.Optional a) s w k =
        by_case defs (Known defs) (wanted defs opt_of w) _ _ _
        (λ q i. after defs (Judge defs (directly Other e) a (Some q.1)) _ _ _ (judge (directly Other e) h a s (Some q.1) (wanted_option defs w k q i)) (λ b m.
        as_wanted defs o opt_of w q (in_expression e.types a) (typed at q.0 (p.Optional b)) refl k i m.0))
        (λ i. after defs (Judge defs (directly Other e) a None) _ _ _ (judge (directly Other e) h a s None tt) (λ b m.
        has_plain defs o (in_expression e.types a) at w (t.Optional (type_of b)) (p.Optional b) m.1 m.0))
    rule o e h at (p.Tag x) s w k =
        by_case defs (Known defs) (wanted defs variant_of w) _ _ _
        (λ q i. given defs (Known defs) condition.Mismatch at (find x q.1) _ _ (λ f g.
        (known defs unit (unit_plain defs), (λ j. as_wanted defs o variant_of w q nothing (typed at q.0 (p.Tag x)) refl k i (no_parts defs), tt))))
        (λ i. has_plain defs o nothing at w (t.Variant (t.constant x unit t.NoFields)) (p.Tag x) (λ z. ((unit_plain defs z, tt), (tt, tt), (refl, tt))) (no_parts defs))
    rule o e h at (p.Tagged x a) s w k =
        by_case defs (Known defs) (wanted defs variant_of w) _ _ _
        (λ q i. given defs (Known defs) condition.Mismatch at (find x q.1) _ _ (λ f g.
        after defs (Judge defs (directly Other e) a (Some f.part)) _ _ _ (judge (directly Other e) h a s (Some f.part) (λ z. field_part (IsProper defs) x q.1 f (wanted_variant defs w k q i z) g)) (λ b m.
        as_wanted defs o variant_of w q (in_expression e.types a) (typed at q.0 (p.Tagged x b)) refl k i m.0)))
        (λ i. after defs (Judge defs (directly Other e) a None) _ _ _ (judge (directly Other e) h a s None tt) (λ b m.
        has_plain defs o (in_expression e.types a) at w (t.Variant (t.constant x (type_of b) t.NoFields)) (p.Tagged x b) (λ z. ((m.1 z, tt), (tt, tt), (refl, tt))) m.0))
    rule o e h at (p.Array false items) s w k =
        by_case defs (Known defs) (wanted defs array_of w) _ _ _
        (λ q i. after defs (JudgeAll defs (directly Other e) items (Some q.1)) _ _ _ (all_judged (directly Other e) h items s (Some q.1) (wanted_array defs w k q i)) (λ es m.
        as_wanted defs o array_of w q (in_each e.types items) (typed at q.0 (p.Array false es)) refl k i m.0))
        (λ i. after defs (JudgeAll defs (directly Other e) items None) _ _ _ (all_judged (directly Other e) h items s None tt) (λ es m.
        after defs (Elements at (types_of es)) _ _ _ (elements defs at (types_of es) m.1) (λ u n. has_plain defs o (in_each e.types items) at w (t.Array u) (p.Array false es) n m.0)))
    rule o e h at (p.Array true items) s w k =
        by_case defs (Known defs) (wanted defs mut_array_of w) _ _ _
        (λ q i. after defs (JudgeAll defs (directly Other e) items (Some q.1)) _ _ _ (all_judged (directly Other e) h items s (Some q.1) (wanted_mut_array defs w k q i)) (λ es m.
        as_wanted defs o mut_array_of w q (in_each e.types items) (typed at q.0 (p.Array true es)) refl k i m.0))
        (λ i. after defs (JudgeAll defs (directly Other e) items None) _ _ _ (all_judged (directly Other e) h items s None tt) (λ es m.
        after defs (Greatest condition.NeedsType at (types_of es)) _ _ _ (greatest defs condition.NeedsType at (types_of es) (Plain defs) m.1) (λ u n.
        has_plain defs o (in_each e.types items) at w (t.MutableArray u) (p.Array true es) n m.0)))
    rule o e h at (p.Object fields) s w k =
        by_case defs (Known defs) (wanted defs object_of w) _ _ _
        (λ q i. tests defs (Known defs) condition.Mismatch at (all_there fields q.1) _ _ (λ g.
        after defs (JudgeFields defs (directly Other e) fields q.1) _ _ _ (fields_judged (directly Other e) h fields s.0 q.1 (wanted_object defs w k q i)) (λ fs m.
        as_wanted defs o object_of w q (in_fields e.types fields) (typed at q.0 (p.Object fs)) refl k i m.0)))
        (λ i. after defs (JudgeFields defs (directly Other e) fields []) _ _ _ (fields_judged (directly Other e) h fields s.0 [] (λ z. tt)) (λ fs m.
        has_plain defs o (in_fields e.types fields) at w (t.Object (made_types e.types fs)) (p.Object fs) (λ z. (m.1 z, labels_differ (made_types e.types fs) (labels_in fields) m.2 s.1)) m.0))
    rule o e h at (p.Member a x) s w k =
        by_case defs (Known defs) (built_in (directly Other e) a x) _ _ _
        (λ m i. tests defs (Known defs) condition.TypeArguments at (is_empty (member_bound m).generics) _ _ (λ g.
        has_plain defs o (in_expression e.types a) at w (member_bound m).type (p.BuiltIn m) (λ z. member_proper defs m) (built_in_parts defs (directly Other e) e.types a x m i)))
        (λ i. after defs (Judge defs (directly Other e) a None) _ _ _ (judge (directly Other e) h a s None tt) (λ b m.
        given defs (Known defs) condition.NoField at (member_type x (members_head defs (type_of b))) _ _ (λ u g. has_plain defs o (in_expression e.types a) at w u (p.Member b x) (member_of b m.1 x u g) m.0)))
    rule o e h at (p.Projection a n) s w k =
        after defs (Judge defs (directly Other e) a None) _ _ _ (judge (directly Other e) h a s None tt) (λ b m.
        given defs (Known defs) condition.NotTuple at (tuple_of (members_head defs (type_of b))) _ _ (λ us g.
        given defs (Known defs) condition.NotTuple at (slice_get us n) _ _ (λ u i.
        has_plain defs o (in_expression e.types a) at w u (p.Projection b n) (λ z. part_at (IsProper defs) us n u (tuple_of_members b m.1 us g z) i) m.0)))
    rule o e h at (p.Index a i) s w k =
        after defs (Judge defs (directly Other e) a None) _ _ _ (judge (directly Other e) h a s.0 None tt) (λ b m.
        given defs (Known defs) condition.NotArray at (element_of (members_head defs (type_of b))) _ _ (λ u g.
        after defs (Judge defs (directly Other e) i (Some nat)) _ _ _ (judge (directly Other e) h i s.1 (Some nat) (λ z. tt)) (λ j n.
        has_plain defs o (both (in_expression e.types a) (in_expression e.types i)) at w u (p.Index b j) (element_of_members b m.1 u g) (both_parts defs (in_expression e.types a) (in_expression e.types i) m.0 n.0))))
    rule o e h at (p.Annotated a u) s w k =
        after defs (Reads defs e.types u) _ _ _ (reads defs e.types u s.1) (λ v r.
        by_case defs (Known defs) (actor_text a) _ _ _
        (λ x g. tests defs (Known defs) condition.NotActor at (is_some (actor_of (head defs v))) _ _ (λ i. (
          λ j.
              has_plain defs o (in_expression e.types a) at w v (p.Annotated (typed (place a) v (p.ActorReference x)) u) (λ z. r.1) (actor_parts defs e.types a x g),
          tt,
        )))
        (λ g. after defs (Judge defs (directly Other e) a (Some v)) _ _ _ (judge (directly Other e) h a s.0 (Some v) (λ z. r.1)) (λ b m.
        has_plain defs o (in_expression e.types a) at w v (p.Annotated b u) (λ z. r.1) m.0)))
    rule o e h at (p.ActorReference x) s w k = tt
    rule o e h at (p.Negative a) s w k =
        by_case defs (Known defs) (plain_number a) _ _ _
        (λ n g. number defs o (in_expression e.types a) at w kind.Int (neg_ℤ (pos n)) (p.Negative (typed (place a) nat (p.Constant (p.Number n)))) k (plain_parts defs e.types a n g))
        (λ g. negative defs (in_expression e.types a) (λ v. Judge defs (directly Other e) a v) (λ v q. judge (directly Other e) h a s v q) o at w k)
    rule o e h at (p.Binary op a b) s w k =
        binary defs (in_expression e.types a) (in_expression e.types b) (λ v. Judge defs (directly Other e) a v) (λ v. Judge defs (directly Other e) b v)
        (λ v q. judge (directly Other e) h a s.0 v q) (λ v q. judge (directly Other e) h b s.1 v q) o at w (family op) op (written a) (written b) k
    rule o e h at (p.Not a) s w k =
        after defs (Judge defs (directly Other e) a (Some t.Boolean)) _ _ _ (judge (directly Other e) h a s (Some t.Boolean) (λ z. tt)) (λ b m. has_plain defs o (in_expression e.types a) at w t.Boolean (p.Not b) (λ z. tt) m.0)
    rule o e h at (p.Assign q a) s w k =
        after defs (JudgePlace defs (directly Other e) q) _ _ _ (place_judged (directly Other e) h q s.0) (λ r m.
        after defs (Judge defs (directly Other e) a (Some (type_of r))) _ _ _ (judge (directly Other e) h a s.1 (Some (type_of r)) m.1) (λ b n.
        has_plain defs o (both (in_expression e.types q) (in_expression e.types a)) at w unit (p.Assign r b) (unit_plain defs) (both_parts defs (in_expression e.types q) (in_expression e.types a) m.0 n.0)))
    rule o e h at (p.AssignBy op q a) s w k =
        after defs (JudgePlace defs (directly Other e) q) _ _ _ (place_judged (directly Other e) h q s.0) (λ r m.
        after defs (Operand defs at (family op) (type_of r) (λ v. Judge defs (directly Other e) a v)) _ _ _
        (operand_of defs (in_expression e.types a) (λ v. Judge defs (directly Other e) a v) (λ v i. judge (directly Other e) h a s.1 v i) at (family op) (type_of r) m.1) (λ b n.
        has_plain defs o (both (in_expression e.types q) (in_expression e.types a)) at w unit (p.AssignBy op r b) (unit_plain defs) (both_parts defs (in_expression e.types q) (in_expression e.types a) m.0 n.0)))
    rule o e h at (p.Call f types arguments) s w k =
        after defs
        (Case (polymorphic (directly Other e) f)
        (λ q. Given condition.TypeArguments at types (λ us. Part (Instance defs at e.types q.0 us) (λ u. Meets u (Gives (typed (place f) u q.1)))))
        (λ z. Case types (λ us. Tests condition.TypeArguments at (is_empty us) (Judge defs (directly Other e) f None)) (λ z. Judge defs (directly Other e) f None)))
        _ (λ g. ArePartsProper defs (in_expression e.types f) × Known defs (type_of g)) _
        (by_case defs (Known defs) (polymorphic (directly Other e) f) _ _ _
        (λ q i. given defs (Known defs) condition.TypeArguments at types _ _ (λ us j.
        after defs (Instance defs at e.types q.0 us) _ _ _ (instance defs at e.types q.0 us (polymorphic_known defs (directly Other e) h e.types f q i).1 (arguments_source types us s.1 j)) (λ u m.
        (m, ((polymorphic_known defs (directly Other e) h e.types f q i).0, m)))))
        (λ i. by_case defs (Known defs) types _ _ _
        (λ us j. tests defs (Known defs) condition.TypeArguments at (is_empty us) _ _ (λ g. callee e h f s.0))
        (λ j. callee e h f s.0)))
        (λ g m. given defs (Known defs) condition.NotFunction at (func_of (members_head defs (type_of g))) _ _ (λ q i.
        after defs (FuturePlaced defs e.body (takes_call o) at (called q.0 q.2)) _ _ _ (future_placed defs e.body (takes_call o) at (called q.0 q.2)) (λ z n.
        tests defs (Known defs) condition.ArgumentCount at (nat_eq (length q.1) (count arguments)) _ _ (λ j.
        after defs (JudgeEach defs (directly Other e) arguments (some_each q.1)) _ _ _
        (each_judged (directly Other e) h arguments s.2 (some_each q.1)
        (some_wanted defs q.1 (spread defs q.1 (λ z. (function_parts (IsProper defs) (members_head defs (type_of g)) q i (members_of defs (type_of g) m.1 (members_head defs (type_of g)) refl z)).0)))) (λ es l.
        has defs at w (called q.0 q.2) (p.Call g types es) (Fits defs o (both (in_expression e.types f) (in_each e.types arguments)))
        (λ z. called_met defs q.0 q.2 (function_parts (IsProper defs) (members_head defs (type_of g)) q i (members_of defs (type_of g) m.1 (members_head defs (type_of g)) refl z)).1) (
          both_parts defs (in_expression e.types f) (in_each e.types arguments) m.0 l.0,
          λ z. call_placed defs o (called q.0 q.2) (called_met defs q.0 q.2 (function_parts (IsProper defs) (members_head defs (type_of g)) q i (members_of defs (type_of g) m.1 (members_head defs (type_of g)) refl z)).1) n,
        ))))))
    rule o e h at (p.When c a) s w k =
        after defs (Judge defs (directly Other e) c (Some t.Boolean)) _ _ _ (judge (directly Other e) h c s.0 (Some t.Boolean) (λ z. tt)) (λ d m.
        after defs (Judge defs (directly Other e) a (Some unit)) _ _ _ (judge (directly Other e) h a s.1 (Some unit) (unit_plain defs)) (λ b n.
        has_plain defs o (both (in_expression e.types c) (in_expression e.types a)) at w unit (p.When d b) (unit_plain defs) (both_parts defs (in_expression e.types c) (in_expression e.types a) m.0 n.0)))
    rule o e h at (p.If c a b) s w k =
        after defs (Judge defs (directly Other e) c (Some t.Boolean)) _ _ _ (judge (directly Other e) h c s.0 (Some t.Boolean) (λ z. tt)) (λ d m.
        after defs (Judge defs (directly Other e) a w) _ _ _ (judge (directly Other e) h a s.1 w k) (λ x n.
        after defs (Judge defs (directly Other e) b w) _ _ _ (judge (directly Other e) h b s.2 w k) (λ y l.
        branches defs o (both (in_expression e.types c) (both (in_expression e.types a) (in_expression e.types b))) at w (type_of x ∷ type_of y ∷ []) (p.If d x y) k (n.1, (l.1, tt))
        (both_parts defs (in_expression e.types c) (both (in_expression e.types a) (in_expression e.types b)) m.0 (both_parts defs (in_expression e.types a) (in_expression e.types b) n.0 l.0)))))
    rule o e h at (p.Switch a cases) s w k =
        after defs (Judge defs (directly Other e) a None) _ _ _ (judge (directly Other e) h a s.0 None tt) (λ b m.
        after defs (JudgeCases defs (directly Other e) cases (type_of b) w) _ _ _ (cases_judged (directly Other e) h cases s.1 (type_of b) m.1 w k) (λ cs n.
        branches defs o (both (in_expression e.types a) (in_cases e.types cases)) at w (case_types cs) (p.Switch b cs) k n.1 (both_parts defs (in_expression e.types a) (in_cases e.types cases) m.0 n.0)))
    rule o e h at (p.Try a q b) s w k =
        tests defs (Known defs) condition.AsyncPlace at (waits e.body) _ _ (λ i.
        after defs (Judge defs (directly Other e) a w) _ _ _ (judge (directly Other e) h a s.0 w k) (λ x m. (
          λ z. tt,
          after defs (Stands defs e.types q t.Error) _ _ _ (stands defs e.types q s.1 t.Error (λ z. tt)) (λ r l.
              after defs (Judge defs (with_values r.0 (directly Other e)) b w) _ _ _ (judge (with_values r.0 (directly Other e)) (bound_around r.0 (directly Other e) l.0 h) b s.2 w k) (λ y n.
              branches defs o (both (in_expression e.types a) (in_expression e.types b)) at w (type_of x ∷ type_of y ∷ []) (p.Try x r.1 y) k (m.1, (n.1, tt)) (both_parts defs (in_expression e.types a) (in_expression e.types b) m.0 n.0))),
        )))
    rule o e h at (p.While c a) s w k =
        after defs (Judge defs (directly Other e) c (Some t.Boolean)) _ _ _ (judge (directly Other e) h c s.0 (Some t.Boolean) (λ z. tt)) (λ d m.
        after defs (Judge defs (in_loop o (directly Other e)) a (Some unit)) _ _ _ (judge (in_loop o (directly Other e)) (loop_fine defs o (directly Other e) h) a s.1 (Some unit) (unit_plain defs)) (λ b n.
        has_plain defs o (both (in_expression e.types c) (in_expression e.types a)) at w unit (p.While d b) (unit_plain defs) (both_parts defs (in_expression e.types c) (in_expression e.types a) m.0 (loop_parts defs o (directly Other e) a b n))))
    rule o e h at (p.Loop a) s w k =
        after defs (Judge defs (in_loop o (directly Other e)) a (Some unit)) _ _ _ (judge (in_loop o (directly Other e)) (loop_fine defs o (directly Other e) h) a s (Some unit) (unit_plain defs)) (λ b n.
        has_plain defs o (in_expression e.types a) at w t.Bottom (p.Loop b) (λ z. tt) (loop_parts defs o (directly Other e) a b n))
    rule o e h at (p.LoopWhile a c) s w k =
        after defs (Judge defs (in_loop o (directly Other e)) a (Some unit)) _ _ _ (judge (in_loop o (directly Other e)) (loop_fine defs o (directly Other e) h) a s.0 (Some unit) (unit_plain defs)) (λ b n.
        after defs (Judge defs (directly Other e) c (Some t.Boolean)) _ _ _ (judge (directly Other e) h c s.1 (Some t.Boolean) (λ z. tt)) (λ d m.
        has_plain defs o (both (in_expression e.types a) (in_expression e.types c)) at w unit (p.LoopWhile b d) (unit_plain defs) (both_parts defs (in_expression e.types a) (in_expression e.types c) (loop_parts defs o (directly Other e) a b n) m.0)))
    rule o e h at (p.For q a b) s w k =
        after defs (Judge defs (directly Other e) a None) _ _ _ (judge (directly Other e) h a s.1 None tt) (λ x m.
        given defs (Known defs) condition.NotIterable at (items_of defs (members_head defs (type_of x))) _ _ (λ u g. (
          known defs u (items_of_members x m.1 u g),
          after defs (Stands defs e.types q u) _ _ _ (stands defs e.types q s.0 u (known defs u (items_of_members x m.1 u g))) (λ r l.
              after defs (Judge defs (in_loop o (with_values r.0 (directly Other e))) b (Some unit)) _ _ _
              (judge (in_loop o (with_values r.0 (directly Other e))) (loop_fine defs o (with_values r.0 (directly Other e)) (bound_around r.0 (directly Other e) l.0 h)) b s.2 (Some unit) (unit_plain defs)) (λ y n.
              has_plain defs o (both (in_expression e.types a) (in_expression e.types b)) at w unit (p.For r.1 x y) (unit_plain defs)
              (both_parts defs (in_expression e.types a) (in_expression e.types b) m.0 (loop_parts defs o (with_values r.0 (directly Other e)) b y n)))),
        )))
    rule o e h at (p.Label x u a) s w k =
        after defs (ReadsOr defs e.types u unit) _ _ _ (reads_plain defs e.types u unit s.0 (unit_plain defs)) (λ v r.
        after defs (Judge defs (directly Labelled (with_label x (record { type = v; loop = false }) (directly Other e))) a (Some v)) _ _ _
        (judge (directly Labelled (with_label x (record { type = v; loop = false }) (directly Other e))) (h.0, (r, h.1), h.2) a s.1 (Some v) r) (λ b m.
        has_plain defs o (in_expression e.types a) at w v (p.Label x u b) r m.0))
    rule o e h at (p.Break x) s w k = given defs (Known defs) condition.BadLabel at (named e.labels x) _ _ (λ l i. leaves defs o at w l.type (p.Break x))
    rule o e h at (p.BreakWith x a) s w k =
        given defs (Known defs) condition.BadLabel at (named e.labels x) _ _ (λ l i.
        after defs (Judge defs (directly Other e) a (Some l.type)) _ _ _ (judge (directly Other e) h a s (Some l.type) (each_named (λ m. Plain defs m.type) (λ y. bytes_eq x y) e.labels l h.1 i)) (λ b m.
        has_plain defs o (in_expression e.types a) at w t.Bottom (p.BreakWith x b) (λ z. tt) m.0))
    rule o e h at (p.Continue x) s w k =
        given defs (Known defs) condition.BadLabel at (named e.labels x) _ _ (λ l i.
        tests defs (Known defs) condition.BadLabel at l.loop _ _ (λ g. has_plain defs o nothing at w t.Bottom (p.Continue x) (λ z. tt) (no_parts defs)))
    rule o e h at p.Return s w k = given defs (Known defs) condition.BadLabel at e.returns _ _ (λ u i. leaves defs o at w u p.Return)
    rule o e h at (p.ReturnWith a) s w k =
        given defs (Known defs) condition.BadLabel at e.returns _ _ (λ u i.
        after defs (Judge defs (directly Other e) a (Some u)) _ _ _ (judge (directly Other e) h a s (Some u) (returns_plain defs e.returns u h.2 i)) (λ b m.
        has_plain defs o (in_expression e.types a) at w t.Bottom (p.ReturnWith b) (λ z. tt) m.0))
    rule o e h at (p.Throw a) s w k =
        tests defs (Known defs) condition.AsyncPlace at (waits e.body) _ _ (λ i.
        after defs (Judge defs (directly Other e) a (Some t.Error)) _ _ _ (judge (directly Other e) h a s (Some t.Error) (λ z. tt)) (λ b m.
        has_plain defs o (in_expression e.types a) at w t.Bottom (p.Throw b) (λ z. tt) m.0))
    rule o e h at (p.Do a) s w k =
        after defs (Judge defs (directly Other e) a w) _ _ _ (judge (directly Other e) h a s w k) (λ b m. (m.0, λ z. placed defs o (type_of b) (m.1 z)))
    rule o e h at (p.DoOption a) s w k =
        by_case defs (Known defs) (wanted defs opt_of w) _ _ _
        (λ q i. after defs (Judge defs (in_option (directly Other e)) a (Some q.1)) _ _ _ (judge (in_option (directly Other e)) h a s (Some q.1) (wanted_option defs w k q i)) (λ b m.
        as_wanted defs o opt_of w q (in_expression e.types a) (typed at q.0 (p.DoOption b)) refl k i m.0))
        (λ i. after defs (Judge defs (in_option (directly Other e)) a None) _ _ _ (judge (in_option (directly Other e)) h a s None tt) (λ b m.
        has_plain defs o (in_expression e.types a) at w (t.Optional (type_of b)) (p.DoOption b) m.1 m.0))
    rule o e h at (p.Bang a) s w k =
        tests defs (Known defs) condition.BangPlace at e.ends _ _ (λ i.
        after defs (Judge defs (directly Other e) a None) _ _ _ (judge (directly Other e) h a s None tt) (λ b m.
        given defs (Known defs) condition.NotOption at (opt_of (head defs (type_of b))) _ _ (λ u g. has_plain defs o (in_expression e.types a) at w u (p.Bang b) (option_of b m.1 u g) m.0)))
    rule o e h at (p.Block ds) s w k =
        after defs (Listed defs (directly Other e) ds (λ known. JudgeOrder defs known at true ds None w) (λ known made. JudgeBodies defs known ds made)) _ (HasListed defs (with_list e.types ds) ds) _
        (list_fine defs (directly Other e) ds s (λ z. h) (λ known. JudgeOrder defs known at true ds None w) (λ known made. JudgeBodies defs known ds made)
        (λ names n c. order (with_values names (with_types (with_list e.types ds) (directly Other e))) (bound_around names (with_types (with_list e.types ds) (directly Other e)) n c) refl at true ds s None w tt k)
        (λ known made g i. bodies known g ds s i made))
        (λ q m. (m.1, λ z. placed defs o q.0 (m.0 z)))
    rule o e h at (p.Function g body) s w k =
        by_case defs (Known defs) (wanted defs local_of w) _ _ _
        (λ q i. tests defs (Known defs) condition.Mismatch at (nat_eq (length q.1.0) (count_patterns g.parameters)) _ _ (λ j.
        after defs (Parameters defs e.types g.parameters q.1.0) _ _ _ (parameters defs e.types g.parameters s.1.1 q.1.0 (wanted_local defs w k q i).0) (λ ps m.
        after defs (ReadsOr defs e.types g.result q.1.1) _ _ _ (reads_plain defs e.types g.result q.1.1 s.1.2 (wanted_local defs w k q i).1) (λ r n.
        after defs (Judge defs (in_body Local (Some r) ps.scope (directly Other e)) body (Some r)) _ _ _
        (judge (in_body Local (Some r) ps.scope (directly Other e)) (each_both _ ps.scope e.values m.0 h.0, tt, n) body s.2 (Some r) n) (λ b l.
        has_plain defs o (in_expression e.types (p.exp at (p.Function g body))) at w (t.Function (unlisted ps.types) r) (p.Function (signature g ps.patterns) b)
        (λ z. (unlisted_proper defs ps.types (gather defs ps.types m.1 z), n z)) (function_parts_of defs e.types g body s.0 l.0))))))
        (λ i. after defs (Parameters defs e.types g.parameters []) _ _ _ (parameters defs e.types g.parameters s.1.1 [] tt) (λ ps m.
        after defs (ReadsOr defs e.types g.result unit) _ _ _ (reads_plain defs e.types g.result unit s.1.2 (unit_plain defs)) (λ r n.
        after defs (Judge defs (in_body Local (Some r) ps.scope (directly Other e)) body (Some r)) _ _ _
        (judge (in_body Local (Some r) ps.scope (directly Other e)) (each_both _ ps.scope e.values m.0 h.0, tt, n) body s.2 (Some r) n) (λ b l.
        has_plain defs o (in_expression e.types (p.exp at (p.Function g body))) at w (t.Function (unlisted ps.types) r) (p.Function (signature g ps.patterns) b)
        (λ z. (unlisted_proper defs ps.types (gather defs ps.types m.1 z), n z)) (function_parts_of defs e.types g body s.0 l.0)))))
    rule o e h at (p.ObjectBlock fields) s w k =
        after defs (PublicFields fields) _ _ _ (public_fields defs fields) (λ z i.
        after defs (Listed defs (directly Other e) fields (λ known. JudgeOrder defs known at false fields None None) (λ known made. JudgeBodies defs known fields made)) _ (HasListed defs (with_list e.types fields) fields) _
        (list_fine defs (directly Other e) fields s.0 (λ z. h) (λ known. JudgeOrder defs known at false fields None None) (λ known made. JudgeBodies defs known fields made)
        (λ names n c. order (with_values names (with_types (with_list e.types fields) (directly Other e))) (bound_around names (with_types (with_list e.types fields) (directly Other e)) n c) refl at false fields s.0 None None tt tt)
        (λ known made g i. bodies known g fields s.0 i made))
        (λ q m. has_plain defs o (in_list (with_list e.types fields) fields) at w (t.Object (member_fields (with_list e.types fields) fields)) (p.ObjectBlock q.1)
        (λ z. object_proper defs (with_list e.types fields) fields s.1 m.2) m.1))
    rule o e h at (p.Assert a) s w k =
        after defs (Judge defs (directly Other e) a (Some t.Boolean)) _ _ _ (judge (directly Other e) h a s (Some t.Boolean) (λ z. tt)) (λ b m. has_plain defs o (in_expression e.types a) at w unit (p.Assert b) (unit_plain defs) m.0)
    rule o e h at (p.Ignore a) s w k =
        after defs (Judge defs (directly Awaited (directly Other e)) a None) _ _ _ (judge (directly Awaited (directly Other e)) h a s None tt) (λ b m. has_plain defs o (in_expression e.types a) at w unit (p.Ignore b) (unit_plain defs) m.0)
    rule o e h at (p.Debug a) s w k =
        after defs (Judge defs (directly Other e) a (Some unit)) _ _ _ (judge (directly Other e) h a s (Some unit) (unit_plain defs)) (λ b m. has_plain defs o (in_expression e.types a) at w unit (p.Debug b) (unit_plain defs) m.0)
    rule o e h at (p.Await a) s w k =
        tests defs (Known defs) condition.AsyncPlace at (calls e.body) _ _ (λ i.
        after defs (Judge defs (directly Awaited (directly Other e)) a None) _ _ _ (judge (directly Awaited (directly Other e)) h a s None tt) (λ b m.
        given defs (Known defs) condition.AsyncPlace at (async_of (head defs (type_of b))) _ _ (λ u g.
        has_plain defs o (in_expression e.types a) at w u (p.Await b) (λ z. async_part (IsProper defs) (head defs (type_of b)) u g (parts_of defs (type_of b) m.1 (head defs (type_of b)) refl z)) m.0)))

    callee : (e : Context) → IsContextFine defs e → (f : Expression ℕ) → IsSource f → Meeting defs (Judge defs (directly Other e) f None) (λ g. ArePartsProper defs (in_expression e.types f) × Known defs (type_of g))
    callee e h (p.exp at f) s =
        more defs (Known defs) (Judge defs (directly Other e) (p.exp at f) None) (Fits defs Other (in_expression e.types (p.exp at f))) (λ g. ArePartsProper defs (in_expression e.types (p.exp at f)) × Known defs (type_of g))
        (rule Other (directly Other e) h at f s None tt) (λ g q. (q.0, known defs (type_of g) q.1))

    place_judged : (e : Context) → IsContextFine defs e → (q : Expression ℕ) → IsSource q → Meeting defs (JudgePlace defs e q) (Fits defs Other (in_expression e.types q))
    place_judged e h (p.exp at f) s = place_rule e h at f s

    place_rule : (e : Context) → IsContextFine defs e → (at : ℕ) (f : Form ℕ) → IsSource (p.exp at f) → Meeting defs (PlaceRule defs (directly Other e) at f) (Fits defs Other (in_expression e.types (p.exp at f)))
    place_rule e h at (p.Name x) s =
        given defs (Known defs) condition.NotMutable at (value_named e x) _ _ (λ b q.
        tests defs (Known defs) condition.NotMutable at b.mutable _ _ (λ i. has_plain defs Other nothing at None b.type (p.Name x) ((bound_fine defs e h x b q).1 i) (no_parts defs)))
    place_rule e h at (p.Member a x) s =
        by_case defs (Known defs) (built_in (directly Other e) a x) _ _ _ (λ m i. tt)
        (λ i. after defs (Judge defs (directly Other e) a None) _ _ _ (judge (directly Other e) h a s None tt) (λ b m.
        given defs (Known defs) condition.NoField at (object_field x (members_head defs (type_of b))) _ _ (λ f g.
        tests defs (Known defs) condition.NotMutable at f.mutable _ _ (λ j. has_plain defs Other (in_expression e.types a) at None f.part (p.Member b x) (field_of b m.1 x f g) m.0))))
    place_rule e h at (p.Index a i) s =
        after defs (Judge defs (directly Other e) a None) _ _ _ (judge (directly Other e) h a s.0 None tt) (λ b m.
        given defs (Known defs) condition.NotArray at (element_of (members_head defs (type_of b))) _ _ (λ u g.
        given defs (Known defs) condition.NotMutable at (mut_array_of (members_head defs (type_of b))) _ _ (λ v l.
        after defs (Judge defs (directly Other e) i (Some nat)) _ _ _ (judge (directly Other e) h i s.1 (Some nat) (λ z. tt)) (λ j n.
        has_plain defs Other (both (in_expression e.types a) (in_expression e.types i)) at None v (p.Index b j) (mut_element_of b m.1 v l) (both_parts defs (in_expression e.types a) (in_expression e.types i) m.0 n.0)))))
    place_rule e h at (p.Constant l) s = tt
    place_rule e h at f s = tt

    each_judged : (e : Context) → IsContextFine defs e → (items : Expressions ℕ) → EachIsSource items → (ws : List (Option Term)) → Each (IsWanted defs) ws → Meeting defs (JudgeEach defs (directly Other e) items ws) (AreJudged e.types items)
    each_judged e h p.Nil s ws k = (no_parts defs, tt, refl)
    each_judged e h (p.Cons a rest) s [] k =
        after defs (Judge defs (directly Other e) a None) _ _ _ (judge (directly Other e) h a s.0 None tt) (λ b m.
        after defs (JudgeEach defs (directly Other e) rest []) _ _ _ (each_judged e h rest s.1 [] tt) (λ bs n.
        (both_parts defs (in_expression e.types a) (in_each e.types rest) m.0 n.0, (m.1, n.1), ap (λ i. suc i) n.2)))
    each_judged e h (p.Cons a rest) s (w ∷ ws) k =
        after defs (Judge defs (directly Other e) a w) _ _ _ (judge (directly Other e) h a s.0 w k.0) (λ b m.
        after defs (JudgeEach defs (directly Other e) rest ws) _ _ _ (each_judged e h rest s.1 ws k.1) (λ bs n.
        (both_parts defs (in_expression e.types a) (in_each e.types rest) m.0 n.0, (m.1, n.1), ap (λ i. suc i) n.2)))

    all_judged : (e : Context) → IsContextFine defs e → (items : Expressions ℕ) → EachIsSource items → (w : Option Term) → IsWanted defs w → Meeting defs (JudgeAll defs (directly Other e) items w) (AreJudged e.types items)
    all_judged e h p.Nil s w k = (no_parts defs, tt, refl)
    all_judged e h (p.Cons a rest) s w k =
        after defs (Judge defs (directly Other e) a w) _ _ _ (judge (directly Other e) h a s.0 w k) (λ b m.
        after defs (JudgeAll defs (directly Other e) rest w) _ _ _ (all_judged e h rest s.1 w k) (λ bs n.
        (both_parts defs (in_expression e.types a) (in_each e.types rest) m.0 n.0, (m.1, n.1), ap (λ i. suc i) n.2)))

    cases_judged : (e : Context) → IsContextFine defs e → (cases : Cases ℕ) → CasesAreSource cases → (u : Term) → Plain defs u → (w : Option Term) → IsWanted defs w
        → Meeting defs (JudgeCases defs (directly Other e) cases u w) (CasesJudged e.types cases)
    cases_judged e h p.NoCases s u g w k = (no_parts defs, tt)
    cases_judged e h (p.Case q a rest) s u g w k =
        after defs (Stands defs e.types q u) _ _ _ (stands defs e.types q s.0 u (known defs u g)) (λ r l.
        after defs (Judge defs (with_values r.0 (directly Other e)) a w) _ _ _ (judge (with_values r.0 (directly Other e)) (bound_around r.0 (directly Other e) l.0 h) a s.1 w k) (λ b m.
        after defs (JudgeCases defs (directly Other e) rest u w) _ _ _ (cases_judged e h rest s.2 u g w k) (λ cs n.
        (both_parts defs (in_expression e.types a) (in_cases e.types rest) m.0 n.0, (m.1, n.1)))))

    fields_judged : (e : Context) → IsContextFine defs e → (fields : ObjectFields ℕ) → FieldsAreSource fields → (fs : List (Field Term)) → (Whole defs → Each (IsProper defs) (field_types fs))
        → Meeting defs (JudgeFields defs (directly Other e) fields fs) (FieldsJudged e.types fields)
    fields_judged e h p.NoFields s fs k = (no_parts defs, λ z. tt, refl)
    fields_judged e h (p.Field mutable x u a rest) s fs k =
        after defs
        (Case (find x.bytes fs)
        (λ f. Tests condition.Mismatch x.at (same mutable f.mutable) (Case u
        (λ v. Part (Reads defs e.types v) (λ v. NeedsEach condition.Mismatch x.at (field_questions mutable v f.part) (Judge defs (directly Other e) a (Some v))))
        (λ z. Judge defs (directly Other e) a (Some f.part))))
        (λ z. Case u (λ v. Part (Reads defs e.types v) (λ v. Judge defs (directly Other e) a (Some v))) (λ z. Judge defs (directly Other e) a None)))
        _ (IsDeclared defs (Plain defs) e.types u (in_expression e.types a)) _
        (by_case defs (Known defs) (find x.bytes fs) _ _ _
        (λ f g. tests defs (Known defs) condition.Mismatch x.at (same mutable f.mutable) _ _ (λ i.
        declared defs (Plain defs) (λ v q. λ z. q) e.types u s.0 (in_expression e.types a) (λ v. NeedsEach condition.Mismatch x.at (field_questions mutable v f.part) (Judge defs (directly Other e) a (Some v))) (Judge defs (directly Other e) a (Some f.part))
        (λ v q. needs_each defs (Known defs) condition.Mismatch x.at (field_questions mutable v f.part) _ _ (λ j. only_parts e h a s.1 (Some v) q))
        (judge (directly Other e) h a s.1 (Some f.part) (λ z. field_part (IsProper defs) x.bytes fs f (k z) g))))
        (λ g. declared defs (Plain defs) (λ v q. λ z. q) e.types u s.0 (in_expression e.types a) (λ v. Judge defs (directly Other e) a (Some v)) (Judge defs (directly Other e) a None)
        (λ v q. only_parts e h a s.1 (Some v) q) (judge (directly Other e) h a s.1 None tt)))
        (λ b m. after defs (JudgeFields defs (directly Other e) rest fs) _ _ _ (fields_judged e h rest s.2 fs k) (λ bs n.
        (both_parts defs (in_expression e.types a) (in_fields e.types rest) m.0 n.0, λ z. (m.1 z, n.1 z), ap (λ l. x.bytes ∷ l) n.2)))

    only_parts : (e : Context) → IsContextFine defs e → (a : Expression ℕ) → IsSource a → (w : Option Term) → IsWanted defs w → Meeting defs (Judge defs (directly Other e) a w) (λ b. ArePartsProper defs (in_expression e.types a))
    only_parts e h (p.exp at f) s None k =
        more defs (Known defs) (Rule defs Other (directly Other e) at f None) (Fits defs Other (in_expression e.types (p.exp at f))) (λ b. ArePartsProper defs (in_expression e.types (p.exp at f))) (rule Other e h at f s None k) (λ b q. q.0)
    only_parts e h (p.exp at f) s (Some u) k =
        (known defs u k, more defs (Known defs) (Rule defs Other (directly Other e) at f (Some u)) (Fits defs Other (in_expression e.types (p.exp at f))) (λ b. ArePartsProper defs (in_expression e.types (p.exp at f))) (rule Other e h at f s (Some u) k) (λ b q. q.0))

    pub order : (e : Context) → IsContextFine defs e → e.around ≡ Other → (at : ℕ) (value : Bool) (ds : Declarations ℕ) → AreSource ds → (last w : Option Term) → IsWanted defs last → IsWanted defs w
        → Meeting defs (JudgeOrder defs e at value ds last w) (HasRun defs e.types ds)
    order e h i at value p.End s last w j k = after defs (EndsList at last w) _ _ _ (ends_list defs at last w j) (λ u m. (m, h, refl, tt))
    order e h i at value (p.Then public n d rest) s last w j k =
        after defs (JudgeOne defs e n d (of_expression value rest w)) _ _ _ (one e h i n d s.0 (of_expression value rest w) (expression_wanted defs value rest w k)) (λ made m.
        after defs (JudgeOrder defs (with_values made.scope e) at value rest made.value w) _ _ _ (order (with_values made.scope e) (bound_around made.scope e m.0 h) i at value rest s.1 made.value w m.1 k) (λ run l.
        (l.0, l.1, l.2, (m.2, l.3))))

    one : (e : Context) → IsContextFine defs e → e.around ≡ Other → (at : ℕ) (d : Declaration ℕ) → DeclarationIsSource d → (w : Option Term) → IsWanted defs w → Meeting defs (JudgeOne defs e at d w) (OneJudged e.types d)
    one e h i at (p.Let q a) s w k =
        after defs (Case (annotation q) (λ u. Part (Reads defs e.types u) (λ v. Judge defs e a (Some v))) (λ z. Judge defs (directly (around_of q) e) a None)) _ (IsDeclared defs (Known defs) e.types (annotation q) (in_expression e.types a)) _
        (declared defs (Known defs) (λ v g. known defs v (λ z. g)) e.types (annotation q) (annotation_fine q s.0) (in_expression e.types a) (λ v. Judge defs e a (Some v)) (Judge defs (directly (around_of q) e) a None)
        (λ v g. its_parts e h a s.1 (Some v) g) (its_type e h (around_of q) a s.1)) (λ b m.
        after defs (Stands defs e.types q (declared_type e.types (annotation q) b)) _ _ _ (stands defs e.types q s.0 (declared_type e.types (annotation q) b) m.1) (λ r n.
        (n.0, tt, (n.1, m.0))))
    one e h i at (p.Var stable x u a) s w k =
        after defs (Case u (λ u. Part (Reads defs e.types u) (λ v. Judge defs e a (Some v))) (λ z. Judge defs e a None)) _ (IsDeclared defs (Plain defs) e.types u (in_expression e.types a)) _
        (declared defs (Plain defs) (λ v g. λ z. g) e.types u s.0 (in_expression e.types a) (λ v. Judge defs e a (Some v)) (Judge defs e a None)
        (λ v g. its_parts e h a s.1 (Some v) g) (plain_type e h i a s.1 None tt)) (λ b m.
        stable_goes defs stable at (declared_type e.types u b) (Gives (entry ((x.bytes, variable (declared_type e.types u b)) ∷ []) (note at (declared_type e.types u b)) (p.Var stable x u b))) (OneJudged e.types (p.Var stable x u a)) (((known defs (declared_type e.types u b) m.1, λ g. m.1), tt), tt, (m.2, m.0)))
    one e h i at (p.NamedObject x fields) s w k =
        after defs (PublicFields fields) _ _ _ (public_fields defs fields) (λ z l.
        after defs (Listed defs e fields (λ known. JudgeOrder defs known at false fields None None) (λ known made. JudgeBodies defs known fields made)) _ (HasListed defs (with_list e.types fields) fields) _
        (list_fine defs e fields s.0 (λ z. h) (λ known. JudgeOrder defs known at false fields None None) (λ known made. JudgeBodies defs known fields made)
        (λ names n c. order (with_values names (with_types (with_list e.types fields) e)) (bound_around names (with_types (with_list e.types fields) e) n c) i at false fields s.0 None None tt tt)
        (λ known made g i. bodies known g fields s.0 i made))
        (λ q m. (
          known defs (t.Object (member_fields (with_list e.types fields) fields)) (λ z. object_proper defs (with_list e.types fields) fields s.1 m.2),
          (((known defs (t.Object (member_fields (with_list e.types fields) fields)) (λ z. object_proper defs (with_list e.types fields) fields s.1 m.2), λ g. cc), tt), tt, m.1),
        )))
    one e h i at (p.Evaluate a) s w k =
        after defs (Judge defs e a w) _ _ _ (plain_type e h i a s w k) (λ b m. (tt, m.1, m.0))
    one e h i at (p.Func x g body) s w k = (tt, tt, tt)
    one e h i at (p.Method query context x g body) s w k = (tt, tt, tt)
    one e h i at (p.System x body) s w k = (tt, tt, tt)
    one e h i at (p.TypeAlias x ps a) s w k = (tt, tt, tt)
    one e h i at (p.Class x g fields) s w k = (tt, tt, tt)

    its_parts : (e : Context) → IsContextFine defs e → (a : Expression ℕ) → IsSource a → (w : Option Term) → IsWanted defs w → Meeting defs (Judge defs e a w) (λ b. ArePartsProper defs (in_expression e.types a))
    its_parts e h (p.exp at f) s None k =
        more defs (Known defs) (Rule defs e.around (directly Other e) at f None) (Fits defs e.around (in_expression e.types (p.exp at f))) (λ b. ArePartsProper defs (in_expression e.types (p.exp at f))) (rule e.around e h at f s None k) (λ b q. q.0)
    its_parts e h (p.exp at f) s (Some u) k = (
      known defs u k,
      more defs (Known defs) (Rule defs e.around (directly Other e) at f (Some u)) (Fits defs e.around (in_expression e.types (p.exp at f))) (λ b. ArePartsProper defs (in_expression e.types (p.exp at f))) (rule e.around e h at f s (Some u) k) (λ b q. q.0),
    )

    its_type : (e : Context) → IsContextFine defs e → (o : Around) (a : Expression ℕ) → IsSource a → Meeting defs (Judge defs (directly o e) a None) (λ b. ArePartsProper defs (in_expression e.types a) × Known defs (type_of b))
    its_type e h o (p.exp at f) s =
        more defs (Known defs) (Rule defs o (directly Other e) at f None) (Fits defs o (in_expression e.types (p.exp at f))) (λ b. ArePartsProper defs (in_expression e.types (p.exp at f)) × Known defs (type_of b)) (rule o e h at f s None tt)
        (λ b q. (q.0, λ z. met defs o (type_of b) (q.1 z)))

    plain_type : (e : Context) → IsContextFine defs e → e.around ≡ Other → (a : Expression ℕ) → IsSource a → (w : Option Term) → IsWanted defs w
        → Meeting defs (Judge defs e a w) (λ b. ArePartsProper defs (in_expression e.types a) × Plain defs (type_of b))
    plain_type e h i (p.exp at f) s None k =
        more defs (Known defs) (Rule defs e.around (directly Other e) at f None) (Fits defs e.around (in_expression e.types (p.exp at f))) (λ b. ArePartsProper defs (in_expression e.types (p.exp at f)) × Plain defs (type_of b))
        (rule e.around e h at f s None k) (λ b q. (q.0, λ z. subst (λ o. IsPlaced defs o (type_of b)) i (q.1 z)))
    plain_type e h i (p.exp at f) s (Some u) k = (
      known defs u k,
      more defs (Known defs) (Rule defs e.around (directly Other e) at f (Some u)) (Fits defs e.around (in_expression e.types (p.exp at f))) (λ b. ArePartsProper defs (in_expression e.types (p.exp at f)) × Plain defs (type_of b))
          (rule e.around e h at f s (Some u) k) (λ b q. (q.0, λ z. subst (λ o. IsPlaced defs o (type_of b)) i (q.1 z))),
    )

    pub bodies : (e : Context) → IsContextFine defs e → (ds : Declarations ℕ) → AreSource ds → AreSigned defs e.types ds → (made : List Made) → Meeting defs (JudgeBodies defs e ds made) (λ z. AreBodied defs e.types ds)
    bodies e h p.End s i made = tt
    bodies e h (p.Then public at d rest) s i made =
        after defs (JudgeBody defs e at d made) _ _ _ (body_judged e h at d s.0 i.0 made) (λ q m.
        after defs (JudgeBodies defs e rest q.1) _ _ _ (bodies e h rest s.1 i.1 q.1) (λ ds n. (m, n)))

    body_judged : (e : Context) → IsContextFine defs e → (at : ℕ) (d : Declaration ℕ) → DeclarationIsSource d → IsSigned defs e.types d → (made : List Made) → Meeting defs (JudgeBody defs e at d made) (λ q. IsBodied defs e.types d)
    body_judged e h at (p.Func x g body) s i made =
        after defs (Parameters defs (within e.types g) g.parameters []) _ _ _ (parameters defs (within e.types g) g.parameters s.0.1 [] tt) (λ ps m.
        after defs (Judge defs (in_body Local (Some (term_or (within e.types g) g.result unit)) ps.scope (with_types (within e.types g) e)) body (Some (term_or (within e.types g) g.result unit))) _ _ _
        (judge (in_body Local (Some (term_or (within e.types g) g.result unit)) ps.scope (with_types (within e.types g) e)) (each_both _ ps.scope e.values m.0 h.0, tt, λ z. i.2) body s.1 (Some (term_or (within e.types g) g.result unit)) (λ z. i.2)) (λ b n. n.0))
    body_judged e h at (p.Method query context x g body) s i made =
        after defs (ContextOf defs e.types context) _ _ _ (context_of defs e.types context s.0) (λ c l.
        after defs (Parameters defs e.types g.parameters []) _ _ _ (parameters defs e.types g.parameters s.1.1 [] tt) (λ ps m.
        after defs (Judge defs (in_body (body_of query) (Some (async_term e.types g.result)) (ps.scope ++ c.0) e) body (Some (async_term e.types g.result))) _ _ _
        (judge (in_body (body_of query) (Some (async_term e.types g.result)) (ps.scope ++ c.0) e) (each_both _ (ps.scope ++ c.0) e.values (each_both _ ps.scope c.0 m.0 l) h.0, tt, λ z. i.1) body s.2 (Some (async_term e.types g.result)) (λ z. i.1)) (λ b n. n.0)))
    body_judged e h at (p.System x body) s i made =
        after defs (Judge defs (in_body Local (Some unit) [] e) body (Some unit)) _ _ _ (judge (in_body Local (Some unit) [] e) (h.0, tt, unit_plain defs) body s (Some unit) (unit_plain defs)) (λ b n. n.0)
    body_judged e h at (p.TypeAlias x ps a) s i made = tt
    body_judged e h at (p.Class x g fields) s i made =
        after defs (Parameters defs (within e.types g) g.parameters []) _ _ _ (parameters defs (within e.types g) g.parameters s.0.1 [] tt) (λ ps m.
        after defs (PublicFields fields) _ _ _ (public_fields defs fields) (λ z l.
        after defs (Listed defs (in_body Local None ps.scope (with_types (within e.types g) e)) fields (λ known. JudgeOrder defs known at false fields None None) (λ known made. JudgeBodies defs known fields made)) _
        (HasListed defs (with_list (within e.types g) fields) fields) _
        (list_fine defs (in_body Local None ps.scope (with_types (within e.types g) e)) fields s.1 (λ z. (each_both _ ps.scope e.values m.0 h.0, tt, tt)) (λ known. JudgeOrder defs known at false fields None None) (λ known made. JudgeBodies defs known fields made)
        (λ names n c. order (with_values names (with_types (with_list (within e.types g) fields) (in_body Local None ps.scope (with_types (within e.types g) e))))
        (bound_around names (with_types (with_list (within e.types g) fields) (in_body Local None ps.scope (with_types (within e.types g) e))) n c) refl at false fields s.1 None None tt tt)
        (λ known made g i. bodies known g fields s.1 i made))
        (λ q n. (object_proper defs (with_list (within e.types g) fields) fields s.2 n.2, n.1))))
    body_judged e h at (p.Let q a) s i made = takes defs made
    body_judged e h at (p.Var stable x u a) s i made = takes defs made
    body_judged e h at (p.NamedObject x fields) s i made = takes defs made
    body_judged e h at (p.Evaluate a) s i made = takes defs made
