-- One induction over all forms: what is given has the names of what was judged.
use Rattle.std.proofs.Common.{◌≡◌, inl, inr, ℕ, pos, neg_ℤ, Bool, true, false, List, [], ◌∷◌, ◌++◌, length, Option, Some, None, refl, sym, ap, subst}
use Rattle.std.specs.Prelude.{nat_eq, slice_get, is_some}
use Rattle.std.specs.Option.{option_and_then}
use Rattle.mo_num.specs.declared.kind.Kind.TheVariants as kind
use Rattle.mo_scopes.specs.declared.library.Member.{Member}
use Rattle.mo_scopes.specs.Scopes.{named}
use Rattle.mo_types.specs.declared.node.Field.{Field}
use Rattle.mo_types.specs.Heads.{opt_of, array_of, mut_array_of, tuple_of, object_of, actor_of, variant_of, func_of, async_of}
use Rattle.mo_types.specs.Sub.{find}
use Rattle.subtype_laws.specs.Reached.{Among}
use Rattle.typing_rules.specs.declared.condition.Condition.TheVariants as condition
use Rattle.typing_rules.specs.AbstractSyntax.{Bytes, Pattern, Expression, Form, Expressions, Cases, ObjectFields, Declaration, Declarations}
use Rattle.typing_rules.specs.AbstractSyntax as p
use Rattle.typing_rules.specs.AsyncPlaces.{Around, Awaited, Named, Labelled, Other, Local, waits, calls, takes_call, takes_name, body_of, around_of, FuturePlaced}
use Rattle.typing_rules.specs.Calls.{built_in, if_generic, polymorphic, local_of, called, Instance, items_of}
use Rattle.typing_rules.specs.Contexts.{Bound, Scope, Context, variable, constant as constant_bound, value_named, module_member, with_values, with_label, in_loop, with_types, in_option, in_body, directly}
use Rattle.typing_rules.specs.DeclaredTypes.{within, with_list, member_fields}
use Rattle.typing_rules.specs.Definitions.{Definitions}
use Rattle.typing_rules.specs.Ends.{wanted}
use Rattle.typing_rules.specs.Expressions.{Judge, Rule, JudgePlace, PlaceRule, JudgeEach, JudgeAll, JudgeCases, JudgeFields, JudgeOne, JudgeOrder, JudgeBody, JudgeBodies, actor_text, all_there, element_of, some_each, same as is_same, Elements, field_questions}
use Rattle.typing_rules.specs.Heads.{head, members_head}
use Rattle.typing_rules.specs.Judgements.{Case, Given, Tests, Meets, Gives, NeedsEach, Part as Bind}
use Rattle.typing_rules.specs.Lists.{Made, Listed, of_expression, EndsList}
use Rattle.typing_rules.specs.Literals.{plain_number, written}
use Rattle.typing_rules.specs.Members.{member_bound, member_type, object_field}
use Rattle.typing_rules.specs.Operands.{Negative, Binary, Operand}
use Rattle.typing_rules.specs.Operators.{family}
use Rattle.typing_rules.specs.Patterns.{Stands, is_empty}
use Rattle.typing_rules.specs.PublicFields.{PublicFields}
use Rattle.typing_rules.specs.Signatures.{Taken, Parameters, ContextOf, async_term}
use Rattle.typing_rules.specs.Terms.{Term, unlisted, unit, nat}
use Rattle.typing_rules.specs.Terms as t
use Rattle.typing_rules.specs.TypedTrees.{Note, Typed, typed, type_of, types_of, case_types, field_types, declared_type, signature, place, annotation, count, count_patterns}
use Rattle.typing_rules.specs.Types.{Reads, ReadsOr}
use Rattle.typing_rules.specs.TypeScopes.{TypeScope, term_or}
use Rattle.typing_rules.specs.Ends.{Greatest}
use Rattle.desugaring.specs.FreeNames.{names_in, names_in_each, names_of_list, occurring, in_each, in_cases, in_fields, in_declaration, in_declarations, without}
use Rattle.desugaring_laws.specs.Yields.{Yields}
use Rattle.desugaring_laws.proofs.Yielding.{anything, given, tests, by_case, part as after}
use Rattle.kept_names.specs.Keeping.{IsBound, Keeps, AllKept, ListKept}
use Rattle.kept_names.specs.Laws.{ListsAreKept}
use Rattle.kept_names.specs.Plain.{PatternIsPlain, EachPatternIsPlain, IsPlain, EachIsPlain, CasesArePlain, FieldsArePlain, ArePlain}
use Rattle.kept_names.proofs.Ends.{needs_each, has, leaves, branches, number, constant}
use Rattle.kept_names.proofs.Lists.{list_keeps, TakesOf, AreTaken, Evaluated, Ran, ran_on, BodyKept, takes_one, listed}
use Rattle.kept_names.proofs.Names.{bound_here, bound_right, same as all_names, two, weaker, hidden}
use Rattle.kept_names.proofs.Operators.{Kept, negative_kept, operand_kept, binary_kept}
use Rattle.kept_names.proofs.Standing.{Stood, stood, Taking, parameters_stood}

-- ---- names of modules, and what is called

no_some : {A : Type 0} (a : A) → None ≡ Some a → ⊥
no_some a h = cc

then_some : {X Y : Type 0} (f : X → Option Y) (o : Option X) (y : Y) → option_and_then f o ≡ Some y → (x : X) × (f x ≡ Some y)
then_some f None y h = absurd (no_some y h)
then_some f (Some x) y h = (x, h)

-- A member of a module is one of a name that is not bound.
member_unbound : (e : Context) (m x : Bytes) (k : Member) → module_member e m x ≡ Some k → IsBound e.values m → ⊥
member_unbound e m x k h b = no_some k (subst (λ z. z ≡ Some k) none h) where
  none : module_member e m x ≡ None
  none = rw b.1 refl

generic_form : (b : Bound) (f : Form Note) (q : Bound × Form Note) → if_generic b f ≡ Some q → f ≡ q.1
generic_form b f q h = by b.generics refl h where
  by : (gs : List ℕ) → b.generics ≡ gs → if_generic b f ≡ Some q → f ≡ q.1
  by [] e h = absurd (no_some q (subst (λ gs. if_generic (record { type = b.type; mutable = b.mutable; generics = gs }) f ≡ Some q) e h))
  by (g ∷ gs) e h =
      let k : if_generic (record { type = b.type; mutable = b.mutable; generics = g ∷ gs }) f ≡ Some q = subst (λ hs. if_generic (record { type = b.type; mutable = b.mutable; generics = hs }) f ≡ Some q) e h in
      let i : Some (record { type = b.type; mutable = b.mutable; generics = g ∷ gs }, f) ≡ Some q = k in
      let j : (record { type = b.type; mutable = b.mutable; generics = g ∷ gs }, f) ≡ q = cc in
      ap (λ z. z.1) j

none : (s : Scope) → Keeps s (Unit {0}) [] []
none s = all_names s []

-- the name of a module that is gone
gone : (e : Context) (m : Bytes) → (IsBound e.values m → ⊥) → Keeps e.values (Unit {0}) (m ∷ []) []
gone e m h = record { plain = tt; fewer = λ y i. absurd i; kept = λ y i b. kept y i b } where
  kept : (y : Bytes) → Among y (m ∷ []) → IsBound e.values y → Among y []
  kept y (inl i) b = h (subst (λ z. IsBound e.values z) (sym i) b)
  kept y (inr i) b = absurd i

built_in_gone : (e : Context) (a : Expression ℕ) (x : Bytes) (k : Member) → built_in e a x ≡ Some k → Keeps e.values (IsPlain a) (occurring a) []
built_in_gone e (p.exp n (p.Constant l)) x k h = absurd (no_some k h)
built_in_gone e (p.exp n (p.Name m)) x k h = gone e m (member_unbound e m x k h)
built_in_gone e (p.exp n (p.Tuple items)) x k h = absurd (no_some k h)
built_in_gone e (p.exp n (p.Optional b)) x k h = absurd (no_some k h)
built_in_gone e (p.exp n (p.Tag y)) x k h = absurd (no_some k h)
built_in_gone e (p.exp n (p.Tagged y b)) x k h = absurd (no_some k h)
built_in_gone e (p.exp n (p.Array mutable items)) x k h = absurd (no_some k h)
built_in_gone e (p.exp n (p.Object parts)) x k h = absurd (no_some k h)
built_in_gone e (p.exp n (p.Member b y)) x k h = absurd (no_some k h)
built_in_gone e (p.exp n (p.Projection b i)) x k h = absurd (no_some k h)
built_in_gone e (p.exp n (p.Index b i)) x k h = absurd (no_some k h)
built_in_gone e (p.exp n (p.Annotated b u)) x k h = absurd (no_some k h)
built_in_gone e (p.exp n (p.Negative b)) x k h = absurd (no_some k h)
built_in_gone e (p.exp n (p.Binary o b c)) x k h = absurd (no_some k h)
built_in_gone e (p.exp n (p.Not b)) x k h = absurd (no_some k h)
built_in_gone e (p.exp n (p.Assign q b)) x k h = absurd (no_some k h)
built_in_gone e (p.exp n (p.AssignBy o q b)) x k h = absurd (no_some k h)
built_in_gone e (p.exp n (p.Call g types arguments)) x k h = absurd (no_some k h)
built_in_gone e (p.exp n (p.When b c)) x k h = absurd (no_some k h)
built_in_gone e (p.exp n (p.If b c d)) x k h = absurd (no_some k h)
built_in_gone e (p.exp n (p.Switch b cases)) x k h = absurd (no_some k h)
built_in_gone e (p.exp n (p.Try b q c)) x k h = absurd (no_some k h)
built_in_gone e (p.exp n (p.While b c)) x k h = absurd (no_some k h)
built_in_gone e (p.exp n (p.Loop b)) x k h = absurd (no_some k h)
built_in_gone e (p.exp n (p.LoopWhile b c)) x k h = absurd (no_some k h)
built_in_gone e (p.exp n (p.For q b c)) x k h = absurd (no_some k h)
built_in_gone e (p.exp n (p.Label y u b)) x k h = absurd (no_some k h)
built_in_gone e (p.exp n (p.Break y)) x k h = absurd (no_some k h)
built_in_gone e (p.exp n (p.BreakWith y b)) x k h = absurd (no_some k h)
built_in_gone e (p.exp n (p.Continue y)) x k h = absurd (no_some k h)
built_in_gone e (p.exp n p.Return) x k h = absurd (no_some k h)
built_in_gone e (p.exp n (p.ReturnWith b)) x k h = absurd (no_some k h)
built_in_gone e (p.exp n (p.Throw b)) x k h = absurd (no_some k h)
built_in_gone e (p.exp n (p.Do b)) x k h = absurd (no_some k h)
built_in_gone e (p.exp n (p.DoOption b)) x k h = absurd (no_some k h)
built_in_gone e (p.exp n (p.Bang b)) x k h = absurd (no_some k h)
built_in_gone e (p.exp n (p.Block ds)) x k h = absurd (no_some k h)
built_in_gone e (p.exp n (p.Function g body)) x k h = absurd (no_some k h)
built_in_gone e (p.exp n (p.ObjectBlock parts)) x k h = absurd (no_some k h)
built_in_gone e (p.exp n (p.Assert b)) x k h = absurd (no_some k h)
built_in_gone e (p.exp n (p.Ignore b)) x k h = absurd (no_some k h)
built_in_gone e (p.exp n (p.Debug b)) x k h = absurd (no_some k h)
built_in_gone e (p.exp n (p.ActorReference y)) x k h = absurd (no_some k h)
built_in_gone e (p.exp n (p.Await b)) x k h = absurd (no_some k h)
built_in_gone e (p.exp n (p.BuiltIn m)) x k h = absurd (no_some k h)
built_in_gone e (p.exp n (p.Subsumed b)) x k h = absurd (no_some k h)

polymorphic_kept : (e : Context) (g : Expression ℕ) (r : Bound × Form Note) → polymorphic e g ≡ Some r → (v : Term) → Kept e.values g (typed (place g) v r.1)
polymorphic_kept e (p.exp n (p.Constant l)) r h v = absurd (no_some r h)
polymorphic_kept e (p.exp n (p.Name y)) r h v =
    let i = generic_form (then_some (λ b. if_generic b (p.Name y)) (value_named e y) r h).0 (p.Name y) r (then_some (λ b. if_generic b (p.Name y)) (value_named e y) r h).1 in
    subst (λ f. Kept e.values (p.exp n (p.Name y)) (typed n v f)) i (all_names e.values (y ∷ []))
polymorphic_kept e (p.exp n (p.Tuple items)) r h v = absurd (no_some r h)
polymorphic_kept e (p.exp n (p.Optional b)) r h v = absurd (no_some r h)
polymorphic_kept e (p.exp n (p.Tag y)) r h v = absurd (no_some r h)
polymorphic_kept e (p.exp n (p.Tagged y b)) r h v = absurd (no_some r h)
polymorphic_kept e (p.exp n (p.Array mutable items)) r h v = absurd (no_some r h)
polymorphic_kept e (p.exp n (p.Object parts)) r h v = absurd (no_some r h)
polymorphic_kept e (p.exp n (p.Member b y)) r h v = by (built_in e b y) refl h where
  by : (o : Option Member) → built_in e b y ≡ o → option_and_then (λ m. if_generic (member_bound m) (p.BuiltIn m)) o ≡ Some r → Kept e.values (p.exp n (p.Member b y)) (typed n v r.1)
  by None i h = absurd (no_some r h)
  by (Some m) i h = subst (λ f. Kept e.values (p.exp n (p.Member b y)) (typed n v f)) (generic_form (member_bound m) (p.BuiltIn m) r h) (built_in_gone e b y m i)
polymorphic_kept e (p.exp n (p.Projection b i)) r h v = absurd (no_some r h)
polymorphic_kept e (p.exp n (p.Index b i)) r h v = absurd (no_some r h)
polymorphic_kept e (p.exp n (p.Annotated b u)) r h v = absurd (no_some r h)
polymorphic_kept e (p.exp n (p.Negative b)) r h v = absurd (no_some r h)
polymorphic_kept e (p.exp n (p.Binary o b c)) r h v = absurd (no_some r h)
polymorphic_kept e (p.exp n (p.Not b)) r h v = absurd (no_some r h)
polymorphic_kept e (p.exp n (p.Assign q b)) r h v = absurd (no_some r h)
polymorphic_kept e (p.exp n (p.AssignBy o q b)) r h v = absurd (no_some r h)
polymorphic_kept e (p.exp n (p.Call g types arguments)) r h v = absurd (no_some r h)
polymorphic_kept e (p.exp n (p.When b c)) r h v = absurd (no_some r h)
polymorphic_kept e (p.exp n (p.If b c d)) r h v = absurd (no_some r h)
polymorphic_kept e (p.exp n (p.Switch b cases)) r h v = absurd (no_some r h)
polymorphic_kept e (p.exp n (p.Try b q c)) r h v = absurd (no_some r h)
polymorphic_kept e (p.exp n (p.While b c)) r h v = absurd (no_some r h)
polymorphic_kept e (p.exp n (p.Loop b)) r h v = absurd (no_some r h)
polymorphic_kept e (p.exp n (p.LoopWhile b c)) r h v = absurd (no_some r h)
polymorphic_kept e (p.exp n (p.For q b c)) r h v = absurd (no_some r h)
polymorphic_kept e (p.exp n (p.Label y u b)) r h v = absurd (no_some r h)
polymorphic_kept e (p.exp n (p.Break y)) r h v = absurd (no_some r h)
polymorphic_kept e (p.exp n (p.BreakWith y b)) r h v = absurd (no_some r h)
polymorphic_kept e (p.exp n (p.Continue y)) r h v = absurd (no_some r h)
polymorphic_kept e (p.exp n p.Return) r h v = absurd (no_some r h)
polymorphic_kept e (p.exp n (p.ReturnWith b)) r h v = absurd (no_some r h)
polymorphic_kept e (p.exp n (p.Throw b)) r h v = absurd (no_some r h)
polymorphic_kept e (p.exp n (p.Do b)) r h v = absurd (no_some r h)
polymorphic_kept e (p.exp n (p.DoOption b)) r h v = absurd (no_some r h)
polymorphic_kept e (p.exp n (p.Bang b)) r h v = absurd (no_some r h)
polymorphic_kept e (p.exp n (p.Block ds)) r h v = absurd (no_some r h)
polymorphic_kept e (p.exp n (p.Function g body)) r h v = absurd (no_some r h)
polymorphic_kept e (p.exp n (p.ObjectBlock parts)) r h v = absurd (no_some r h)
polymorphic_kept e (p.exp n (p.Assert b)) r h v = absurd (no_some r h)
polymorphic_kept e (p.exp n (p.Ignore b)) r h v = absurd (no_some r h)
polymorphic_kept e (p.exp n (p.Debug b)) r h v = absurd (no_some r h)
polymorphic_kept e (p.exp n (p.ActorReference y)) r h v = absurd (no_some r h)
polymorphic_kept e (p.exp n (p.Await b)) r h v = absurd (no_some r h)
polymorphic_kept e (p.exp n (p.BuiltIn m)) r h v = absurd (no_some r h)
polymorphic_kept e (p.exp n (p.Subsumed b)) r h v = absurd (no_some r h)

-- an actor reference has no names
text_none : (s : Scope) (a : Expression ℕ) (x : Bytes) → actor_text a ≡ Some x → Keeps s (IsPlain a) (occurring a) []
text_none s (p.exp n (p.Constant l)) x h = absurd (no_some x h)
text_none s (p.exp n (p.Name y)) x h = absurd (no_some x h)
text_none s (p.exp n (p.Tuple items)) x h = absurd (no_some x h)
text_none s (p.exp n (p.Optional b)) x h = absurd (no_some x h)
text_none s (p.exp n (p.Tag y)) x h = absurd (no_some x h)
text_none s (p.exp n (p.Tagged y b)) x h = absurd (no_some x h)
text_none s (p.exp n (p.Array mutable items)) x h = absurd (no_some x h)
text_none s (p.exp n (p.Object parts)) x h = absurd (no_some x h)
text_none s (p.exp n (p.Member b y)) x h = absurd (no_some x h)
text_none s (p.exp n (p.Projection b i)) x h = absurd (no_some x h)
text_none s (p.exp n (p.Index b i)) x h = absurd (no_some x h)
text_none s (p.exp n (p.Annotated b u)) x h = absurd (no_some x h)
text_none s (p.exp n (p.Negative b)) x h = absurd (no_some x h)
text_none s (p.exp n (p.Binary o b c)) x h = absurd (no_some x h)
text_none s (p.exp n (p.Not b)) x h = absurd (no_some x h)
text_none s (p.exp n (p.Assign q b)) x h = absurd (no_some x h)
text_none s (p.exp n (p.AssignBy o q b)) x h = absurd (no_some x h)
text_none s (p.exp n (p.Call g types arguments)) x h = absurd (no_some x h)
text_none s (p.exp n (p.When b c)) x h = absurd (no_some x h)
text_none s (p.exp n (p.If b c d)) x h = absurd (no_some x h)
text_none s (p.exp n (p.Switch b cases)) x h = absurd (no_some x h)
text_none s (p.exp n (p.Try b q c)) x h = absurd (no_some x h)
text_none s (p.exp n (p.While b c)) x h = absurd (no_some x h)
text_none s (p.exp n (p.Loop b)) x h = absurd (no_some x h)
text_none s (p.exp n (p.LoopWhile b c)) x h = absurd (no_some x h)
text_none s (p.exp n (p.For q b c)) x h = absurd (no_some x h)
text_none s (p.exp n (p.Label y u b)) x h = absurd (no_some x h)
text_none s (p.exp n (p.Break y)) x h = absurd (no_some x h)
text_none s (p.exp n (p.BreakWith y b)) x h = absurd (no_some x h)
text_none s (p.exp n (p.Continue y)) x h = absurd (no_some x h)
text_none s (p.exp n p.Return) x h = absurd (no_some x h)
text_none s (p.exp n (p.ReturnWith b)) x h = absurd (no_some x h)
text_none s (p.exp n (p.Throw b)) x h = absurd (no_some x h)
text_none s (p.exp n (p.Do b)) x h = absurd (no_some x h)
text_none s (p.exp n (p.DoOption b)) x h = absurd (no_some x h)
text_none s (p.exp n (p.Bang b)) x h = absurd (no_some x h)
text_none s (p.exp n (p.Block ds)) x h = absurd (no_some x h)
text_none s (p.exp n (p.Function g body)) x h = absurd (no_some x h)
text_none s (p.exp n (p.ObjectBlock parts)) x h = absurd (no_some x h)
text_none s (p.exp n (p.Assert b)) x h = absurd (no_some x h)
text_none s (p.exp n (p.Ignore b)) x h = absurd (no_some x h)
text_none s (p.exp n (p.Debug b)) x h = absurd (no_some x h)
text_none s (p.exp n (p.ActorReference y)) x h = none s
text_none s (p.exp n (p.Await b)) x h = absurd (no_some x h)
text_none s (p.exp n (p.BuiltIn m)) x h = absurd (no_some x h)
text_none s (p.exp n (p.Subsumed b)) x h = absurd (no_some x h)

-- nor has a number
number_none : (s : Scope) (a : Expression ℕ) (k : ℕ) → plain_number a ≡ Some k → Keeps s (IsPlain a) (occurring a) []
number_none s (p.exp n (p.Constant l)) k h = none s
number_none s (p.exp n (p.Name y)) k h = absurd (no_some k h)
number_none s (p.exp n (p.Tuple items)) k h = absurd (no_some k h)
number_none s (p.exp n (p.Optional b)) k h = absurd (no_some k h)
number_none s (p.exp n (p.Tag y)) k h = absurd (no_some k h)
number_none s (p.exp n (p.Tagged y b)) k h = absurd (no_some k h)
number_none s (p.exp n (p.Array mutable items)) k h = absurd (no_some k h)
number_none s (p.exp n (p.Object parts)) k h = absurd (no_some k h)
number_none s (p.exp n (p.Member b y)) k h = absurd (no_some k h)
number_none s (p.exp n (p.Projection b i)) k h = absurd (no_some k h)
number_none s (p.exp n (p.Index b i)) k h = absurd (no_some k h)
number_none s (p.exp n (p.Annotated b u)) k h = absurd (no_some k h)
number_none s (p.exp n (p.Negative b)) k h = absurd (no_some k h)
number_none s (p.exp n (p.Binary o b c)) k h = absurd (no_some k h)
number_none s (p.exp n (p.Not b)) k h = absurd (no_some k h)
number_none s (p.exp n (p.Assign q b)) k h = absurd (no_some k h)
number_none s (p.exp n (p.AssignBy o q b)) k h = absurd (no_some k h)
number_none s (p.exp n (p.Call g types arguments)) k h = absurd (no_some k h)
number_none s (p.exp n (p.When b c)) k h = absurd (no_some k h)
number_none s (p.exp n (p.If b c d)) k h = absurd (no_some k h)
number_none s (p.exp n (p.Switch b cases)) k h = absurd (no_some k h)
number_none s (p.exp n (p.Try b q c)) k h = absurd (no_some k h)
number_none s (p.exp n (p.While b c)) k h = absurd (no_some k h)
number_none s (p.exp n (p.Loop b)) k h = absurd (no_some k h)
number_none s (p.exp n (p.LoopWhile b c)) k h = absurd (no_some k h)
number_none s (p.exp n (p.For q b c)) k h = absurd (no_some k h)
number_none s (p.exp n (p.Label y u b)) k h = absurd (no_some k h)
number_none s (p.exp n (p.Break y)) k h = absurd (no_some k h)
number_none s (p.exp n (p.BreakWith y b)) k h = absurd (no_some k h)
number_none s (p.exp n (p.Continue y)) k h = absurd (no_some k h)
number_none s (p.exp n p.Return) k h = absurd (no_some k h)
number_none s (p.exp n (p.ReturnWith b)) k h = absurd (no_some k h)
number_none s (p.exp n (p.Throw b)) k h = absurd (no_some k h)
number_none s (p.exp n (p.Do b)) k h = absurd (no_some k h)
number_none s (p.exp n (p.DoOption b)) k h = absurd (no_some k h)
number_none s (p.exp n (p.Bang b)) k h = absurd (no_some k h)
number_none s (p.exp n (p.Block ds)) k h = absurd (no_some k h)
number_none s (p.exp n (p.Function g body)) k h = absurd (no_some k h)
number_none s (p.exp n (p.ObjectBlock parts)) k h = absurd (no_some k h)
number_none s (p.exp n (p.Assert b)) k h = absurd (no_some k h)
number_none s (p.exp n (p.Ignore b)) k h = absurd (no_some k h)
number_none s (p.exp n (p.Debug b)) k h = absurd (no_some k h)
number_none s (p.exp n (p.ActorReference y)) k h = absurd (no_some k h)
number_none s (p.exp n (p.Await b)) k h = absurd (no_some k h)
number_none s (p.exp n (p.BuiltIn m)) k h = absurd (no_some k h)
number_none s (p.exp n (p.Subsumed b)) k h = absurd (no_some k h)

-- in the body of a loop the same values are in scope
from_loop : (o : Around) (e : Context) (a : Expression ℕ) (b : Typed) → Kept (in_loop o e).values a b → Kept e.values a b
from_loop Awaited e a b k = k
from_loop Named e a b k = k
from_loop Labelled e a b k = k
from_loop Other e a b k = k

only : (x : Bytes) (b : Bound) (y : Bytes) → Among y (x ∷ []) → IsBound ((x, b) ∷ []) y
only x b y (inl e) = subst (λ z. IsBound ((x, b) ∷ []) z) e (bound_here x b [])
only x b y (inr m) = absurd m

-- an expression under a pattern of a list
beside : (s now : Scope) (P Q : Type 0) (xs ys : List Bytes) → ((y : Bytes) → IsBound s y → IsBound now y) → P → Keeps now Q xs ys → Keeps s (P × Q) xs ys
beside s now P Q xs ys h a k = record { plain = (a, k.plain); fewer = k.fewer; kept = λ y m b. k.kept y m (h y b) }

module _ (defs : Definitions) (terms : List Term) where
  abbrev EachKept : Scope → Expressions ℕ → Expressions Note → Type 0
  EachKept s items bs = Keeps s (EachIsPlain items) (in_each items) (in_each bs)

  abbrev CasesKept : Scope → Cases ℕ → Cases Note → Type 0
  CasesKept s cs bs = Keeps s (CasesArePlain cs) (in_cases cs) (in_cases bs)

  abbrev FieldsKept : Scope → ObjectFields ℕ → ObjectFields Note → Type 0
  FieldsKept s fs bs = Keeps s (FieldsArePlain fs) (in_fields fs) (in_fields bs)

  pair : (s : Scope) (x z : Expression ℕ) (a b : Typed) → Kept s x a → Kept s z b → Keeps s (IsPlain x × IsPlain z) (occurring x ++ occurring z) (occurring a ++ occurring b)
  pair s x z a b i j = two s (IsPlain x) (IsPlain z) (occurring x) (occurring a) (occurring z) (occurring b) i j

  -- an expression and one in the scope of a pattern
  scoped : (e : Context) (x z : Expression ℕ) (q : Pattern ℕ) (r : Scope × Pattern Note) (a b : Typed) → Kept e.values x a → Stood defs terms e.types q r → Kept (r.0 ++ e.values) z b
      → Keeps e.values (IsPlain x × (PatternIsPlain q × IsPlain z)) (occurring x ++ without (names_in q) (occurring z)) (occurring a ++ without (names_in r.1) (occurring b))
  scoped e x z q r a b i k j =
      two e.values (IsPlain x) (PatternIsPlain q × IsPlain z) (occurring x) (occurring a) (without (names_in q) (occurring z)) (without (names_in r.1) (occurring b)) i
      (hidden e.values (r.0 ++ e.values) (PatternIsPlain q) (IsPlain z) (names_in q) (names_in r.1) (occurring z) (occurring b) k.plain k.same (λ y b. bound_right r.0 e.values y b) j)

  -- a body in the scope of parameters
  bodied : (e : Context) (g : p.Signature ℕ) (body : Expression ℕ) (s : TypeScope) (ps : Taken) (b : Typed) → Taking defs terms s g.parameters ps → Kept (ps.scope ++ e.values) body b
      → Keeps e.values (EachPatternIsPlain g.parameters × IsPlain body) (without (names_in_each g.parameters) (occurring body)) (without (names_in_each ps.patterns) (occurring b))
  bodied e g body s ps b k j =
      hidden e.values (ps.scope ++ e.values) (EachPatternIsPlain g.parameters) (IsPlain body) (names_in_each g.parameters) (names_in_each ps.patterns) (occurring body) (occurring b) k.plain k.same
      (λ y i. bound_right ps.scope e.values y i) j

  mutual
    pub judged : (e : Context) (a : Expression ℕ) (w : Option Term) → Yields defs terms (Judge defs e a w) (Kept e.values a)
    judged e (p.exp at f) None = rule e.around (directly Other e) at f None
    judged e (p.exp at f) (Some u) = λ m. rule e.around (directly Other e) at f (Some u)

    rule : (o : Around) (e : Context) (at : ℕ) (f : Form ℕ) (w : Option Term) → Yields defs terms (Rule defs o e at f w) (Kept e.values (p.exp at f))
    rule o e at (p.Constant l) w = constant defs terms (Kept e.values (p.exp at (p.Constant l))) at w l (λ u. none e.values)
    rule o e at (p.Name x) w =
        let P = Kept e.values (p.exp at (p.Name x)) in
        given defs terms _ _ (value_named e x) _ P (λ b i.
        tests defs terms _ _ (is_empty b.generics) _ P (λ no.
        after defs terms (FuturePlaced defs e.body (takes_name o) at b.type) _ (λ z. Unit {0}) P (anything defs terms (FuturePlaced defs e.body (takes_name o) at b.type)) (λ z k.
        has defs terms P at w b.type (p.Name x) (all_names e.values (x ∷ [])))))
    rule o e at (p.BuiltIn m) w = has defs terms (Kept e.values (p.exp at (p.BuiltIn m))) at w (member_bound m).type (p.BuiltIn m) (none e.values)
    rule o e at (p.Subsumed a) w = judged e a w
    rule o e at (p.Tuple items) w =
        let P = Kept e.values (p.exp at (p.Tuple items)) in
        by_case defs terms (wanted defs tuple_of w) _ _ P
        (λ q h. tests defs terms _ _ (nat_eq (length q.1) (count items)) _ P (λ n. after defs terms (JudgeEach defs e items (some_each q.1)) _ (EachKept e.values items) P (each_judged e items (some_each q.1)) (λ es i. i)))
        (λ h. after defs terms (JudgeEach defs e items []) _ (EachKept e.values items) P (each_judged e items []) (λ es i. has defs terms P at w (t.Tuple (unlisted (types_of es))) (p.Tuple es) i))
    rule o e at (p.Optional a) w =
        let P = Kept e.values (p.exp at (p.Optional a)) in
        by_case defs terms (wanted defs opt_of w) _ _ P
        (λ q h. after defs terms (Judge defs e a (Some q.1)) _ (Kept e.values a) P (judged e a (Some q.1)) (λ b i. i))
        (λ h. after defs terms (Judge defs e a None) _ (Kept e.values a) P (judged e a None) (λ b i. has defs terms P at w (t.Optional (type_of b)) (p.Optional b) i))
    rule o e at (p.Tag x) w =
        let P = Kept e.values (p.exp at (p.Tag x)) in
        by_case defs terms (wanted defs variant_of w) _ _ P
        (λ q h. given defs terms _ _ (find x q.1) _ P (λ f k. λ m. ((λ below. none e.values), (λ no. tt))))
        (λ h. has defs terms P at w (t.Variant (t.constant x unit t.NoFields)) (p.Tag x) (none e.values))
    rule o e at (p.Tagged x a) w =
        let P = Kept e.values (p.exp at (p.Tagged x a)) in
        by_case defs terms (wanted defs variant_of w) _ _ P
        (λ q h. given defs terms _ _ (find x q.1) _ P (λ f k. after defs terms (Judge defs e a (Some f.part)) _ (Kept e.values a) P (judged e a (Some f.part)) (λ b i. i)))
        (λ h. after defs terms (Judge defs e a None) _ (Kept e.values a) P (judged e a None) (λ b i. has defs terms P at w (t.Variant (t.constant x (type_of b) t.NoFields)) (p.Tagged x b) i))
    rule o e at (p.Array false items) w =
        let P = Kept e.values (p.exp at (p.Array false items)) in
        by_case defs terms (wanted defs array_of w) _ _ P
        (λ q h. after defs terms (JudgeAll defs e items (Some q.1)) _ (EachKept e.values items) P (all_judged e items (Some q.1)) (λ es i. i))
        (λ h. after defs terms (JudgeAll defs e items None) _ (EachKept e.values items) P (all_judged e items None) (λ es i.
        after defs terms (Elements at (types_of es)) _ (λ u. Unit {0}) P (anything defs terms (Elements at (types_of es))) (λ u z. has defs terms P at w (t.Array u) (p.Array false es) i)))
    rule o e at (p.Array true items) w =
        let P = Kept e.values (p.exp at (p.Array true items)) in
        by_case defs terms (wanted defs mut_array_of w) _ _ P
        (λ q h. after defs terms (JudgeAll defs e items (Some q.1)) _ (EachKept e.values items) P (all_judged e items (Some q.1)) (λ es i. i))
        (λ h. after defs terms (JudgeAll defs e items None) _ (EachKept e.values items) P (all_judged e items None) (λ es i.
        after defs terms (Greatest condition.NeedsType at (types_of es)) _ (λ u. Unit {0}) P (anything defs terms (Greatest condition.NeedsType at (types_of es))) (λ u z. has defs terms P at w (t.MutableArray u) (p.Array true es) i)))
    rule o e at (p.Object fields) w =
        let P = Kept e.values (p.exp at (p.Object fields)) in
        by_case defs terms (wanted defs object_of w) _ _ P
        (λ q h. tests defs terms _ _ (all_there fields q.1) _ P (λ n. after defs terms (JudgeFields defs e fields q.1) _ (FieldsKept e.values fields) P (fields_judged e fields q.1) (λ fs i. i)))
        (λ h. after defs terms (JudgeFields defs e fields []) _ (FieldsKept e.values fields) P (fields_judged e fields []) (λ fs i. has defs terms P at w (t.Object (field_types e.types fs)) (p.Object fs) i))
    rule o e at (p.Member a x) w =
        let P = Kept e.values (p.exp at (p.Member a x)) in
        by_case defs terms (built_in e a x) _ _ P
        (λ m h. tests defs terms _ _ (is_empty (member_bound m).generics) _ P (λ no. has defs terms P at w (member_bound m).type (p.BuiltIn m) (built_in_gone e a x m h)))
        (λ h. after defs terms (Judge defs e a None) _ (Kept e.values a) P (judged e a None) (λ b i. given defs terms _ _ (member_type x (members_head defs (type_of b))) _ P (λ u k. has defs terms P at w u (p.Member b x) i)))
    rule o e at (p.Projection a n) w =
        let P = Kept e.values (p.exp at (p.Projection a n)) in
        after defs terms (Judge defs e a None) _ (Kept e.values a) P (judged e a None) (λ b i.
        given defs terms _ _ (tuple_of (members_head defs (type_of b))) _ P (λ us k. given defs terms _ _ (slice_get us n) _ P (λ u h. has defs terms P at w u (p.Projection b n) i)))
    rule o e at (p.Index a j) w =
        let P = Kept e.values (p.exp at (p.Index a j)) in
        after defs terms (Judge defs e a None) _ (Kept e.values a) P (judged e a None) (λ b i.
        given defs terms _ _ (element_of (members_head defs (type_of b))) _ P (λ u k. after defs terms (Judge defs e j (Some nat)) _ (Kept e.values j) P (judged e j (Some nat)) (λ c h. has defs terms P at w u (p.Index b c) (pair e.values a j b c i h))))
    rule o e at (p.Annotated a u) w =
        let P = Kept e.values (p.exp at (p.Annotated a u)) in
        after defs terms (Reads defs e.types u) _ (λ v. Unit {0}) P (anything defs terms (Reads defs e.types u)) (λ v z.
        by_case defs terms (actor_text a) _ _ P
        (λ x h. tests defs terms _ _ (is_some (actor_of (head defs v))) _ P (λ n. ((λ yes. has defs terms P at w v (p.Annotated (typed (place a) v (p.ActorReference x)) u) (text_none e.values a x h)), (λ no. tt))))
        (λ h. after defs terms (Judge defs e a (Some v)) _ (Kept e.values a) P (judged e a (Some v)) (λ b i. has defs terms P at w v (p.Annotated b u) i)))
    rule o e at (p.ActorReference x) w = tt
    rule o e at (p.Negative a) w =
        let P = Kept e.values (p.exp at (p.Negative a)) in
        by_case defs terms (plain_number a) _ _ P
        (λ n h. number defs terms P at w kind.Int (neg_ℤ (pos n)) (p.Negative (typed (place a) nat (p.Constant (p.Number n)))) (λ u. number_none e.values a n h))
        (λ h. negative_kept defs terms e.values at a w (λ v. Judge defs e a v) (λ v. judged e a v))
    rule o e at (p.Binary op a b) w = binary_kept defs terms e.values at a b op (λ v. Judge defs e a v) (λ v. Judge defs e b v) (λ v. judged e a v) (λ v. judged e b v) w (family op) (written a) (written b)
    rule o e at (p.Not a) w =
        let P = Kept e.values (p.exp at (p.Not a)) in
        after defs terms (Judge defs e a (Some t.Boolean)) _ (Kept e.values a) P (judged e a (Some t.Boolean)) (λ b i. has defs terms P at w t.Boolean (p.Not b) i)
    rule o e at (p.Assign q a) w =
        let P = Kept e.values (p.exp at (p.Assign q a)) in
        after defs terms (JudgePlace defs e q) _ (Kept e.values q) P (place_judged e q) (λ r h.
        after defs terms (Judge defs e a (Some (type_of r))) _ (Kept e.values a) P (judged e a (Some (type_of r))) (λ b i. has defs terms P at w unit (p.Assign r b) (pair e.values q a r b h i)))
    rule o e at (p.AssignBy op q a) w =
        let P = Kept e.values (p.exp at (p.AssignBy op q a)) in
        after defs terms (JudgePlace defs e q) _ (Kept e.values q) P (place_judged e q) (λ r h.
        after defs terms (Operand defs at (family op) (type_of r) (λ v. Judge defs e a v)) _ (Kept e.values a) P (operand_kept defs terms e.values at a (family op) (type_of r) (λ v. Judge defs e a v) (λ v. judged e a v)) (λ b i.
        has defs terms P at w unit (p.AssignBy op r b) (pair e.values q a r b h i)))
    rule o e at (p.Call f types arguments) w =
        let P = Kept e.values (p.exp at (p.Call f types arguments)) in
        let callee = Case (polymorphic e f)
        (λ q. Given condition.TypeArguments at types (λ us. Bind (Instance defs at e.types q.0 us) (λ u. Meets u (Gives (typed (place f) u q.1)))))
        (λ _. Case types (λ us. Tests condition.TypeArguments at (is_empty us) (Judge defs e f None)) (λ _. Judge defs e f None)) in
        let K = Kept e.values f in
        after defs terms callee _ K P
        (by_case defs terms (polymorphic e f) _ _ K
        (λ q h. given defs terms _ _ types _ K (λ us k. after defs terms (Instance defs at e.types q.0 us) _ (λ u. Unit {0}) K (anything defs terms (Instance defs at e.types q.0 us)) (λ u z. λ m. polymorphic_kept e f q h u)))
        (λ h. by_case defs terms types _ _ K (λ us k. tests defs terms _ _ (is_empty us) _ K (λ n. judged e f None)) (λ k. judged e f None)))
        (λ g h. given defs terms _ _ (func_of (members_head defs (type_of g))) _ P (λ q k.
        after defs terms (FuturePlaced defs e.body (takes_call o) at (called q.0 q.2)) _ (λ z. Unit {0}) P (anything defs terms (FuturePlaced defs e.body (takes_call o) at (called q.0 q.2))) (λ z n.
        tests defs terms _ _ (nat_eq (length q.1) (count arguments)) _ P (λ n.
        after defs terms (JudgeEach defs e arguments (some_each q.1)) _ (EachKept e.values arguments) P (each_judged e arguments (some_each q.1)) (λ es i.
        has defs terms P at w (called q.0 q.2) (p.Call g types es) (two e.values (IsPlain f) (EachIsPlain arguments) (occurring f) (occurring g) (in_each arguments) (in_each es) h i))))))
    rule o e at (p.When c a) w =
        let P = Kept e.values (p.exp at (p.When c a)) in
        after defs terms (Judge defs e c (Some t.Boolean)) _ (Kept e.values c) P (judged e c (Some t.Boolean)) (λ d h.
        after defs terms (Judge defs e a (Some unit)) _ (Kept e.values a) P (judged e a (Some unit)) (λ b i. has defs terms P at w unit (p.When d b) (pair e.values c a d b h i)))
    rule o e at (p.If c a b) w =
        let P = Kept e.values (p.exp at (p.If c a b)) in
        after defs terms (Judge defs e c (Some t.Boolean)) _ (Kept e.values c) P (judged e c (Some t.Boolean)) (λ d h.
        after defs terms (Judge defs e a w) _ (Kept e.values a) P (judged e a w) (λ x i.
        after defs terms (Judge defs e b w) _ (Kept e.values b) P (judged e b w) (λ y j.
        branches defs terms P at w (type_of x ∷ type_of y ∷ []) (p.If d x y)
        (λ u. two e.values (IsPlain c × IsPlain a) (IsPlain b) (occurring c ++ occurring a) (occurring d ++ occurring x) (occurring b) (occurring y) (pair e.values c a d x h i) j))))
    rule o e at (p.Switch a cases) w =
        let P = Kept e.values (p.exp at (p.Switch a cases)) in
        after defs terms (Judge defs e a None) _ (Kept e.values a) P (judged e a None) (λ b i.
        after defs terms (JudgeCases defs e cases (type_of b) w) _ (CasesKept e.values cases) P (cases_judged e cases (type_of b) w) (λ cs h.
        branches defs terms P at w (case_types cs) (p.Switch b cs) (λ u. two e.values (IsPlain a) (CasesArePlain cases) (occurring a) (occurring b) (in_cases cases) (in_cases cs) i h)))
    rule o e at (p.Try a q b) w =
        let P = Kept e.values (p.exp at (p.Try a q b)) in
        tests defs terms _ _ (waits e.body) _ P (λ n. after defs terms (Judge defs e a w) _ (Kept e.values a) P (judged e a w) (λ x i. λ m.
        after defs terms (Stands defs e.types q t.Error) _ (Stood defs terms e.types q) P (stood defs terms e.types q t.Error) (λ r k.
        after defs terms (Judge defs (with_values r.0 e) b w) _ (Kept (r.0 ++ e.values) b) P (judged (with_values r.0 e) b w) (λ y j.
        branches defs terms P at w (type_of x ∷ type_of y ∷ []) (p.Try x r.1 y) (λ u. scoped e a b q r x y i k j)))))
    rule o e at (p.While c a) w =
        let P = Kept e.values (p.exp at (p.While c a)) in
        after defs terms (Judge defs e c (Some t.Boolean)) _ (Kept e.values c) P (judged e c (Some t.Boolean)) (λ d h.
        after defs terms (Judge defs (in_loop o e) a (Some unit)) _ (Kept (in_loop o e).values a) P (judged (in_loop o e) a (Some unit)) (λ b i. has defs terms P at w unit (p.While d b) (pair e.values c a d b h (from_loop o e a b i))))
    rule o e at (p.Loop a) w =
        let P = Kept e.values (p.exp at (p.Loop a)) in
        after defs terms (Judge defs (in_loop o e) a (Some unit)) _ (Kept (in_loop o e).values a) P (judged (in_loop o e) a (Some unit)) (λ b i. has defs terms P at w t.Bottom (p.Loop b) (from_loop o e a b i))
    rule o e at (p.LoopWhile a c) w =
        let P = Kept e.values (p.exp at (p.LoopWhile a c)) in
        after defs terms (Judge defs (in_loop o e) a (Some unit)) _ (Kept (in_loop o e).values a) P (judged (in_loop o e) a (Some unit)) (λ b i.
        after defs terms (Judge defs e c (Some t.Boolean)) _ (Kept e.values c) P (judged e c (Some t.Boolean)) (λ d h. has defs terms P at w unit (p.LoopWhile b d) (pair e.values a c b d (from_loop o e a b i) h)))
    rule o e at (p.For q a b) w =
        let P = Kept e.values (p.exp at (p.For q a b)) in
        after defs terms (Judge defs e a None) _ (Kept e.values a) P (judged e a None) (λ x i.
        given defs terms _ _ (items_of defs (members_head defs (type_of x))) _ P (λ u n. λ m.
        after defs terms (Stands defs e.types q u) _ (Stood defs terms e.types q) P (stood defs terms e.types q u) (λ r k.
        after defs terms (Judge defs (in_loop o (with_values r.0 e)) b (Some unit)) _ (Kept (in_loop o (with_values r.0 e)).values b) P (judged (in_loop o (with_values r.0 e)) b (Some unit)) (λ y j.
        has defs terms P at w unit (p.For r.1 x y) (scoped e a b q r x y i k (from_loop o (with_values r.0 e) b y j))))))
    rule o e at (p.Label x u a) w =
        let P = Kept e.values (p.exp at (p.Label x u a)) in
        after defs terms (ReadsOr defs e.types u unit) _ (λ v. Unit {0}) P (anything defs terms (ReadsOr defs e.types u unit)) (λ v z.
        let inner = directly Labelled (with_label x (record { type = v; loop = false }) e) in
        after defs terms (Judge defs inner a (Some v)) _ (Kept e.values a) P (judged inner a (Some v)) (λ b i. has defs terms P at w v (p.Label x u b) i))
    rule o e at (p.Break x) w =
        let P = Kept e.values (p.exp at (p.Break x)) in
        given defs terms _ _ (named e.labels x) _ P (λ l k. leaves defs terms P at w l.type (p.Break x) (none e.values))
    rule o e at (p.BreakWith x a) w =
        let P = Kept e.values (p.exp at (p.BreakWith x a)) in
        given defs terms _ _ (named e.labels x) _ P (λ l k. after defs terms (Judge defs e a (Some l.type)) _ (Kept e.values a) P (judged e a (Some l.type)) (λ b i. has defs terms P at w t.Bottom (p.BreakWith x b) i))
    rule o e at (p.Continue x) w =
        let P = Kept e.values (p.exp at (p.Continue x)) in
        given defs terms _ _ (named e.labels x) _ P (λ l k. tests defs terms _ _ l.loop _ P (λ n. has defs terms P at w t.Bottom (p.Continue x) (none e.values)))
    rule o e at p.Return w =
        let P = Kept e.values (p.exp at p.Return) in
        given defs terms _ _ e.returns _ P (λ u k. leaves defs terms P at w u p.Return (none e.values))
    rule o e at (p.ReturnWith a) w =
        let P = Kept e.values (p.exp at (p.ReturnWith a)) in
        given defs terms _ _ e.returns _ P (λ u k. after defs terms (Judge defs e a (Some u)) _ (Kept e.values a) P (judged e a (Some u)) (λ b i. has defs terms P at w t.Bottom (p.ReturnWith b) i))
    rule o e at (p.Throw a) w =
        let P = Kept e.values (p.exp at (p.Throw a)) in
        tests defs terms _ _ (waits e.body) _ P (λ n. after defs terms (Judge defs e a (Some t.Error)) _ (Kept e.values a) P (judged e a (Some t.Error)) (λ b i. has defs terms P at w t.Bottom (p.Throw b) i))
    rule o e at (p.Do a) w =
        let P = Kept e.values (p.exp at (p.Do a)) in
        after defs terms (Judge defs e a w) _ (Kept e.values a) P (judged e a w) (λ b i. i)
    rule o e at (p.DoOption a) w =
        let P = Kept e.values (p.exp at (p.DoOption a)) in
        by_case defs terms (wanted defs opt_of w) _ _ P
        (λ q h. after defs terms (Judge defs (in_option e) a (Some q.1)) _ (Kept e.values a) P (judged (in_option e) a (Some q.1)) (λ b i. i))
        (λ h. after defs terms (Judge defs (in_option e) a None) _ (Kept e.values a) P (judged (in_option e) a None) (λ b i. has defs terms P at w (t.Optional (type_of b)) (p.DoOption b) i))
    rule o e at (p.Bang a) w =
        let P = Kept e.values (p.exp at (p.Bang a)) in
        tests defs terms _ _ e.ends _ P (λ n. after defs terms (Judge defs e a None) _ (Kept e.values a) P (judged e a None) (λ b i. given defs terms _ _ (opt_of (head defs (type_of b))) _ P (λ u k. has defs terms P at w u (p.Bang b) i)))
    rule o e at (p.Block ds) w =
        let P = Kept e.values (p.exp at (p.Block ds)) in
        let j = Listed defs e ds (λ known. JudgeOrder defs known at true ds None w) (λ known made. JudgeBodies defs known ds made) in
        after defs terms j _ (λ q. ListKept e.values ds q.1) P
        (listed defs terms e ds (λ known. JudgeOrder defs known at true ds None w) (λ known made. JudgeBodies defs known ds made)
        (λ k h. order_judged e.values k at true ds None w h) (λ k ms h. bodies_judged e.values k ds ms h)) (λ q i. list_keeps e.values ds q.1 i)
    rule o e at (p.Function g body) w =
        let P = Kept e.values (p.exp at (p.Function g body)) in
        by_case defs terms (wanted defs local_of w) _ _ P
        (λ q h. tests defs terms _ _ (nat_eq (length q.1.0) (count_patterns g.parameters)) _ P (λ n.
        after defs terms (Parameters defs e.types g.parameters q.1.0) _ (Taking defs terms e.types g.parameters) P (parameters_stood defs terms e.types g.parameters q.1.0) (λ ps k.
        after defs terms (ReadsOr defs e.types g.result q.1.1) _ (λ r. Unit {0}) P (anything defs terms (ReadsOr defs e.types g.result q.1.1)) (λ r z.
        let inner = in_body Local (Some r) ps.scope e in
        after defs terms (Judge defs inner body (Some r)) _ (Kept (ps.scope ++ e.values) body) P (judged inner body (Some r)) (λ b i.
        has defs terms P at w (t.Function (unlisted ps.types) r) (p.Function (signature g ps.patterns) b) (bodied e g body e.types ps b k i))))))
        (λ h. after defs terms (Parameters defs e.types g.parameters []) _ (Taking defs terms e.types g.parameters) P (parameters_stood defs terms e.types g.parameters []) (λ ps k.
        after defs terms (ReadsOr defs e.types g.result unit) _ (λ r. Unit {0}) P (anything defs terms (ReadsOr defs e.types g.result unit)) (λ r z.
        let inner = in_body Local (Some r) ps.scope e in
        after defs terms (Judge defs inner body (Some r)) _ (Kept (ps.scope ++ e.values) body) P (judged inner body (Some r)) (λ b i.
        has defs terms P at w (t.Function (unlisted ps.types) r) (p.Function (signature g ps.patterns) b) (bodied e g body e.types ps b k i)))))
    rule o e at (p.ObjectBlock fields) w =
        let P = Kept e.values (p.exp at (p.ObjectBlock fields)) in
        after defs terms (PublicFields fields) _ (λ z. Unit {0}) P (anything defs terms (PublicFields fields)) (λ z h.
        let j = Listed defs e fields (λ known. JudgeOrder defs known at false fields None None) (λ known made. JudgeBodies defs known fields made) in
        after defs terms j _ (λ q. ListKept e.values fields q.1) P
        (listed defs terms e fields (λ known. JudgeOrder defs known at false fields None None) (λ known made. JudgeBodies defs known fields made)
        (λ k h. order_judged e.values k at false fields None None h) (λ k ms h. bodies_judged e.values k fields ms h)) (λ q i.
        has defs terms P at w (t.Object (member_fields (with_list e.types fields) fields)) (p.ObjectBlock q.1) (list_keeps e.values fields q.1 i)))
    rule o e at (p.Assert a) w =
        let P = Kept e.values (p.exp at (p.Assert a)) in
        after defs terms (Judge defs e a (Some t.Boolean)) _ (Kept e.values a) P (judged e a (Some t.Boolean)) (λ b i. has defs terms P at w unit (p.Assert b) i)
    rule o e at (p.Ignore a) w =
        let P = Kept e.values (p.exp at (p.Ignore a)) in
        after defs terms (Judge defs (directly Awaited e) a None) _ (Kept e.values a) P (judged (directly Awaited e) a None) (λ b i. has defs terms P at w unit (p.Ignore b) i)
    rule o e at (p.Debug a) w =
        let P = Kept e.values (p.exp at (p.Debug a)) in
        after defs terms (Judge defs e a (Some unit)) _ (Kept e.values a) P (judged e a (Some unit)) (λ b i. has defs terms P at w unit (p.Debug b) i)
    rule o e at (p.Await a) w =
        let P = Kept e.values (p.exp at (p.Await a)) in
        tests defs terms _ _ (calls e.body) _ P (λ n. after defs terms (Judge defs (directly Awaited e) a None) _ (Kept e.values a) P (judged (directly Awaited e) a None) (λ b i. given defs terms _ _ (async_of (head defs (type_of b))) _ P (λ u k. has defs terms P at w u (p.Await b) i)))

    place_judged : (e : Context) (q : Expression ℕ) → Yields defs terms (JudgePlace defs e q) (Kept e.values q)
    place_judged e (p.exp at f) = place_rule (directly Other e) at f

    place_rule : (e : Context) (at : ℕ) (f : Form ℕ) → Yields defs terms (PlaceRule defs e at f) (Kept e.values (p.exp at f))
    place_rule e at (p.Name x) =
        let P = Kept e.values (p.exp at (p.Name x)) in
        given defs terms _ _ (value_named e x) _ P (λ b i. tests defs terms _ _ b.mutable _ P (λ n. has defs terms P at None b.type (p.Name x) (all_names e.values (x ∷ []))))
    place_rule e at (p.Member a x) =
        let P = Kept e.values (p.exp at (p.Member a x)) in
        by_case defs terms (built_in e a x) _ _ P (λ m h. tt) (λ h.
        after defs terms (Judge defs e a None) _ (Kept e.values a) P (judged e a None) (λ b i.
        given defs terms _ _ (object_field x (members_head defs (type_of b))) _ P (λ f k. tests defs terms _ _ f.mutable _ P (λ n. has defs terms P at None f.part (p.Member b x) i))))
    place_rule e at (p.Index a j) =
        let P = Kept e.values (p.exp at (p.Index a j)) in
        after defs terms (Judge defs e a None) _ (Kept e.values a) P (judged e a None) (λ b i.
        given defs terms _ _ (element_of (members_head defs (type_of b))) _ P (λ u k. given defs terms _ _ (mut_array_of (members_head defs (type_of b))) _ P (λ v l.
        after defs terms (Judge defs e j (Some nat)) _ (Kept e.values j) P (judged e j (Some nat)) (λ c h. has defs terms P at None v (p.Index b c) (pair e.values a j b c i h)))))
    place_rule e at _ = tt

    each_judged : (e : Context) (items : Expressions ℕ) (ws : List (Option Term)) → Yields defs terms (JudgeEach defs e items ws) (EachKept e.values items)
    each_judged e p.Nil ws = none e.values
    each_judged e (p.Cons a rest) [] =
        let P = EachKept e.values (p.Cons a rest) in
        after defs terms (Judge defs e a None) _ (Kept e.values a) P (judged e a None) (λ b i.
        after defs terms (JudgeEach defs e rest []) _ (EachKept e.values rest) P (each_judged e rest []) (λ bs j.
        two e.values (IsPlain a) (EachIsPlain rest) (occurring a) (occurring b) (in_each rest) (in_each bs) i j))
    each_judged e (p.Cons a rest) (w ∷ ws) =
        let P = EachKept e.values (p.Cons a rest) in
        after defs terms (Judge defs e a w) _ (Kept e.values a) P (judged e a w) (λ b i.
        after defs terms (JudgeEach defs e rest ws) _ (EachKept e.values rest) P (each_judged e rest ws) (λ bs j.
        two e.values (IsPlain a) (EachIsPlain rest) (occurring a) (occurring b) (in_each rest) (in_each bs) i j))

    all_judged : (e : Context) (items : Expressions ℕ) (w : Option Term) → Yields defs terms (JudgeAll defs e items w) (EachKept e.values items)
    all_judged e p.Nil w = none e.values
    all_judged e (p.Cons a rest) w =
        let P = EachKept e.values (p.Cons a rest) in
        after defs terms (Judge defs e a w) _ (Kept e.values a) P (judged e a w) (λ b i.
        after defs terms (JudgeAll defs e rest w) _ (EachKept e.values rest) P (all_judged e rest w) (λ bs j.
        two e.values (IsPlain a) (EachIsPlain rest) (occurring a) (occurring b) (in_each rest) (in_each bs) i j))

    cases_judged : (e : Context) (cs : Cases ℕ) (u : Term) (w : Option Term) → Yields defs terms (JudgeCases defs e cs u w) (CasesKept e.values cs)
    cases_judged e p.NoCases u w = none e.values
    cases_judged e (p.Case q a rest) u w =
        let P = CasesKept e.values (p.Case q a rest) in
        after defs terms (Stands defs e.types q u) _ (Stood defs terms e.types q) P (stood defs terms e.types q u) (λ r k.
        after defs terms (Judge defs (with_values r.0 e) a w) _ (Kept (r.0 ++ e.values) a) P (judged (with_values r.0 e) a w) (λ b i.
        after defs terms (JudgeCases defs e rest u w) _ (CasesKept e.values rest) P (cases_judged e rest u w) (λ bs j.
        two e.values (PatternIsPlain q × IsPlain a) (CasesArePlain rest) (without (names_in q) (occurring a)) (without (names_in r.1) (occurring b)) (in_cases rest) (in_cases bs)
        (hidden e.values (r.0 ++ e.values) (PatternIsPlain q) (IsPlain a) (names_in q) (names_in r.1) (occurring a) (occurring b) k.plain k.same (λ y h. bound_right r.0 e.values y h) i) j)))

    fields_judged : (e : Context) (fields : ObjectFields ℕ) (fs : List (Field Term)) → Yields defs terms (JudgeFields defs e fields fs) (FieldsKept e.values fields)
    fields_judged e p.NoFields fs = none e.values
    fields_judged e (p.Field mutable x u a rest) fs =
        let P = FieldsKept e.values (p.Field mutable x u a rest) in
        let K = Kept e.values a in
        let j = Case (find x.bytes fs)
        (λ f. Tests condition.Mismatch x.at (is_same mutable f.mutable) (Case u
        (λ v. Bind (Reads defs e.types v) (λ v. NeedsEach condition.Mismatch x.at (field_questions mutable v f.part) (Judge defs e a (Some v))))
        (λ _. Judge defs e a (Some f.part))))
        (λ _. Case u (λ v. Bind (Reads defs e.types v) (λ v. Judge defs e a (Some v))) (λ _. Judge defs e a None)) in
        after defs terms j _ K P
        (by_case defs terms (find x.bytes fs) _ _ K
        (λ f h. tests defs terms _ _ (is_same mutable f.mutable) _ K (λ n. by_case defs terms u _ _ K
        (λ v k. after defs terms (Reads defs e.types v) _ (λ z. Unit {0}) K (anything defs terms (Reads defs e.types v)) (λ v z.
        needs_each defs terms K condition.Mismatch x.at (field_questions mutable v f.part) (Judge defs e a (Some v)) (judged e a (Some v))))
        (λ k. judged e a (Some f.part))))
        (λ h. by_case defs terms u _ _ K (λ v k. after defs terms (Reads defs e.types v) _ (λ z. Unit {0}) K (anything defs terms (Reads defs e.types v)) (λ v z. judged e a (Some v))) (λ k. judged e a None)))
        (λ b i. after defs terms (JudgeFields defs e rest fs) _ (FieldsKept e.values rest) P (fields_judged e rest fs) (λ bs h.
        two e.values (IsPlain a) (FieldsArePlain rest) (occurring a) (occurring b) (in_fields rest) (in_fields bs) i h))

    order_judged : (s : Scope) (e : Context) (at : ℕ) (value : Bool) (ds : Declarations ℕ) (last w : Option Term) → ((y : Bytes) → IsBound s y → IsBound e.values y)
        → Yields defs terms (JudgeOrder defs e at value ds last w) (Ran s e.values ds)
    order_judged s e at value p.End last w h =
        after defs terms (EndsList at last w) _ (λ u. Unit {0}) (Ran s e.values p.End) (anything defs terms (EndsList at last w)) (λ u z. record { taken = tt; around = λ y b. b; binds = λ y m. absurd m })
    order_judged s e at value (p.Then public n d rest) last w h =
        let v = of_expression value rest w in
        let P = Ran s e.values (p.Then public n d rest) in
        after defs terms (JudgeOne defs e n d v) _ (Evaluated s d) P (one_judged s e n d v h) (λ one i.
        let inner = with_values one.scope e in
        after defs terms (JudgeOrder defs inner at value rest one.value w) _ (Ran s inner.values rest) P (order_judged s inner at value rest one.value w (λ y b. bound_right one.scope e.values y (h y b))) (λ run j.
        ran_on s e.values public n d rest one run i j))

    one_judged : (s : Scope) (e : Context) (at : ℕ) (d : Declaration ℕ) (w : Option Term) → ((y : Bytes) → IsBound s y → IsBound e.values y) → Yields defs terms (JudgeOne defs e at d w) (Evaluated s d)
    one_judged s e at (p.Let q a) w h =
        let j = Case (annotation q) (λ u. Bind (Reads defs e.types u) (λ v. Judge defs e a (Some v))) (λ _. Judge defs (directly (around_of q) e) a None) in
        let P = Evaluated s (p.Let q a) in
        after defs terms j _ (Kept e.values a) P
        (by_case defs terms (annotation q) _ _ (Kept e.values a) (λ u k. after defs terms (Reads defs e.types u) _ (λ v. Unit {0}) (Kept e.values a) (anything defs terms (Reads defs e.types u)) (λ v z. judged e a (Some v)))
        (λ k. judged (directly (around_of q) e) a None)) (λ b i.
        after defs terms (Stands defs e.types q (declared_type e.types (annotation q) b)) _ (Stood defs terms e.types q) P (stood defs terms e.types q (declared_type e.types (annotation q) b)) (λ r k.
        record {
          taken = λ ns. (_, refl, record { names = k.same; defines = k.same; function = refl; keeps = beside s e.values (PatternIsPlain q) (IsPlain a) (occurring a) (occurring b) h k.plain i });
          binds = k.binds;
        }))
    one_judged s e at (p.Var false x u a) w h =
        let j = Case u (λ u. Bind (Reads defs e.types u) (λ v. Judge defs e a (Some v))) (λ _. Judge defs e a None) in
        let P = Evaluated s (p.Var false x u a) in
        after defs terms j _ (Kept e.values a) P
        (by_case defs terms u _ _ (Kept e.values a) (λ u k. after defs terms (Reads defs e.types u) _ (λ v. Unit {0}) (Kept e.values a) (anything defs terms (Reads defs e.types u)) (λ v z. judged e a (Some v)))
        (λ k. judged e a None)) (λ b i. record {
          taken = λ ns. (_, refl, record { names = refl; defines = refl; function = refl; keeps = weaker s e.values (IsPlain a) (occurring a) (occurring b) h i });
          binds = λ y m. only x.bytes (variable (declared_type e.types u b)) y m;
        })
    one_judged s e at (p.Var true x u a) w h =
        let j = Case u (λ u. Bind (Reads defs e.types u) (λ v. Judge defs e a (Some v))) (λ _. Judge defs e a None) in
        let P = Evaluated s (p.Var true x u a) in
        after defs terms j _ (Kept e.values a) P
        (by_case defs terms u _ _ (Kept e.values a) (λ u k. after defs terms (Reads defs e.types u) _ (λ v. Unit {0}) (Kept e.values a) (anything defs terms (Reads defs e.types u)) (λ v z. judged e a (Some v)))
        (λ k. judged e a None)) (λ b i. (
          (λ shared. record {
            taken = λ ns. (_, refl, record { names = refl; defines = refl; function = refl; keeps = weaker s e.values (IsPlain a) (occurring a) (occurring b) h i });
            binds = λ y m. only x.bytes (variable (declared_type e.types u b)) y m;
          }),
          (λ no. tt),
        ))
    one_judged s e at (p.Func x g body) w h = record { taken = λ ns. refl; binds = λ y m. absurd m }
    one_judged s e at (p.Method query context x g body) w h = record { taken = λ ns. refl; binds = λ y m. absurd m }
    one_judged s e at (p.System x body) w h = record { taken = λ ns. refl; binds = λ y m. absurd m }
    one_judged s e at (p.TypeAlias x parameters u) w h = record { taken = λ ns. refl; binds = λ y m. absurd m }
    one_judged s e at (p.Class x g fields) w h = record { taken = λ ns. refl; binds = λ y m. absurd m }
    one_judged s e at (p.NamedObject x fields) w h =
        let P = Evaluated s (p.NamedObject x fields) in
        after defs terms (PublicFields fields) _ (λ z. Unit {0}) P (anything defs terms (PublicFields fields)) (λ z n.
        let j = Listed defs e fields (λ known. JudgeOrder defs known at false fields None None) (λ known made. JudgeBodies defs known fields made) in
        after defs terms j _ (λ q. ListKept e.values fields q.1) P
        (listed defs terms e fields (λ known. JudgeOrder defs known at false fields None None) (λ known made. JudgeBodies defs known fields made)
        (λ k h. order_judged e.values k at false fields None None h) (λ k ms h. bodies_judged e.values k fields ms h)) (λ q i. λ m.
        record {
          taken = λ ns. (_, refl, record { names = refl; defines = refl; function = refl; keeps = weaker s e.values (ArePlain fields) (in_declaration (p.NamedObject x fields)) (in_declaration (p.NamedObject x q.1)) h (list_keeps e.values fields q.1 i) });
          binds = λ y i. only x.bytes (constant_bound (t.Object (member_fields (with_list e.types fields) fields))) y i;
        }))
    one_judged s e at (p.Evaluate a) w h =
        after defs terms (Judge defs e a w) _ (Kept e.values a) (Evaluated s (p.Evaluate a)) (judged e a w) (λ b i.
        record {
          taken = λ ns. (_, refl, record { names = refl; defines = refl; function = refl; keeps = weaker s e.values (IsPlain a) (occurring a) (occurring b) h i });
          binds = λ y m. absurd m;
        })

    bodies_judged : (s : Scope) (e : Context) (ds : Declarations ℕ) (ms : List Made) → AreTaken s ds ms → Yields defs terms (JudgeBodies defs e ds ms) (λ bs. AllKept s e.values ds bs)
    bodies_judged s e p.End ms i = tt
    bodies_judged s e (p.Then public n d rest) ms i =
        let P = λ (bs : Declarations Note). AllKept s e.values (p.Then public n d rest) bs in
        after defs terms (JudgeBody defs e n d ms) _ (BodyKept defs terms s e.values d i.0) P (body_judged s e n d ms i.0 i.1) (λ q h.
        after defs terms (JudgeBodies defs e rest q.1) _ (λ bs. AllKept s e.values rest bs) P
        (subst (λ z. Yields defs terms (JudgeBodies defs e rest z) (λ bs. AllKept s e.values rest bs)) (sym h.0) (bodies_judged s e rest i.0 i.2)) (λ bs k. (h.1, k)))

    body_judged : (s : Scope) (e : Context) (at : ℕ) (d : Declaration ℕ) (ms ns : List Made) → TakesOf s d ms ns → Yields defs terms (JudgeBody defs e at d ms) (BodyKept defs terms s e.values d ns)
    body_judged s e at (p.Let q a) ms ns i = takes_one defs terms s (p.Let q a) ms ns i
    body_judged s e at (p.Var stable x u a) ms ns i = takes_one defs terms s (p.Var stable x u a) ms ns i
    body_judged s e at (p.NamedObject x fields) ms ns i = takes_one defs terms s (p.NamedObject x fields) ms ns i
    body_judged s e at (p.Evaluate a) ms ns i = takes_one defs terms s (p.Evaluate a) ms ns i
    body_judged s e at (p.Func x g body) ms ns i =
        let P = BodyKept defs terms s e.values (p.Func x g body) ns in
        let scope = within e.types g in
        after defs terms (Parameters defs scope g.parameters []) _ (Taking defs terms scope g.parameters) P (parameters_stood defs terms scope g.parameters []) (λ ps k.
        let inner = in_body Local (Some (term_or scope g.result unit)) ps.scope (with_types scope e) in
        after defs terms (Judge defs inner body (Some (term_or scope g.result unit))) _ (Kept (ps.scope ++ e.values) body) P (judged inner body (Some (term_or scope g.result unit))) (λ b h.
        (i, record { names = refl; defines = refl; function = refl; keeps = bodied e g body scope ps b k h })))
    body_judged s e at (p.Method query context x g body) ms ns i =
        let P = BodyKept defs terms s e.values (p.Method query context x g body) ns in
        after defs terms (ContextOf defs e.types context) _ (λ c. Unit {0}) P (anything defs terms (ContextOf defs e.types context)) (λ c z.
        after defs terms (Parameters defs e.types g.parameters []) _ (λ ps. Unit {0}) P (anything defs terms (Parameters defs e.types g.parameters [])) (λ ps y.
        let j = Judge defs (in_body (body_of query) (Some (async_term e.types g.result)) (ps.scope ++ c.0) e) body (Some (async_term e.types g.result)) in
        after defs terms j _ (λ b. Unit {0}) P (anything defs terms j) (λ b n. (i, record { names = refl; defines = refl; function = refl; keeps = none s }))))
    body_judged s e at (p.System x body) ms ns i =
        let j = Judge defs (in_body Local (Some unit) [] e) body (Some unit) in
        after defs terms j _ (λ b. Unit {0}) (BodyKept defs terms s e.values (p.System x body) ns) (anything defs terms j) (λ b y. (i, record { names = refl; defines = refl; function = refl; keeps = none s }))
    body_judged s e at (p.TypeAlias x parameters u) ms ns i = (i, record { names = refl; defines = refl; function = refl; keeps = none s })
    body_judged s e at (p.Class x g fields) ms ns i =
        let P = BodyKept defs terms s e.values (p.Class x g fields) ns in
        let scope = within e.types g in
        after defs terms (Parameters defs scope g.parameters []) _ (Taking defs terms scope g.parameters) P (parameters_stood defs terms scope g.parameters []) (λ ps k.
        after defs terms (PublicFields fields) _ (λ z. Unit {0}) P (anything defs terms (PublicFields fields)) (λ z n.
        let inner = in_body Local None ps.scope (with_types scope e) in
        let j = Listed defs inner fields (λ known. JudgeOrder defs known at false fields None None) (λ known made. JudgeBodies defs known fields made) in
        after defs terms j _ (λ q. ListKept (ps.scope ++ e.values) fields q.1) P
        (listed defs terms inner fields (λ known. JudgeOrder defs known at false fields None None) (λ known made. JudgeBodies defs known fields made)
        (λ k h. order_judged inner.values k at false fields None None h) (λ k ms h. bodies_judged inner.values k fields ms h)) (λ q h. (
          i,
          record {
            names = refl;
            defines = refl;
            function = refl;
            keeps = hidden e.values (ps.scope ++ e.values) (EachPatternIsPlain g.parameters) (ArePlain fields) (names_in_each g.parameters) (names_in_each ps.patterns)
                (without (names_of_list fields) (in_declarations fields)) (without (names_of_list q.1) (in_declarations q.1)) k.plain k.same (λ y b. bound_right ps.scope e.values y b) (list_keeps (ps.scope ++ e.values) fields q.1 h);
          },
        ))))

pub lists_are_kept : ListsAreKept
lists_are_kept defs terms e at value ds w =
    listed defs terms e ds (λ known. JudgeOrder defs known at value ds None w) (λ known made. JudgeBodies defs known ds made)
    (λ k h. order_judged defs terms e.values k at value ds None w h) (λ k ms h. bodies_judged defs terms e.values k ds ms h)
