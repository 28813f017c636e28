-- One recursion over the source: each expression becomes a typed tree wherever it stands.
use Rattle.std.proofs.Common.{ℕ, true, false, List, map, Some, None, refl, ap, subst}
use Rattle.mo_types.specs.declared.node.TypeId.{TypeId}
use Rattle.mo_types.specs.Graph.{Slot}
use Rattle.mo_types.specs.Label.{label_id}
use Rattle.subtype_laws.specs.Reached.{Among}
use Rattle.typed_tree.specs.OperationTypes.{Distinct}
use Rattle.typing_rules.specs.AbstractSyntax.{Bytes, TypeNode, Expression, Form, Expressions, Cases, ObjectFields, Declaration, Declarations}
use Rattle.typing_rules.specs.AbstractSyntax as p
use Rattle.typing_rules.specs.DeclaredTypes.{within, with_list}
use Rattle.typing_rules.specs.Definitions.{Definitions}
use Rattle.typing_rules.specs.Gathered.{of_generics, in_expression, in_each, in_cases, in_fields, in_list, in_declaration, defined, class_object, both}
use Rattle.typing_rules.specs.Terms.{Term, unit}
use Rattle.typing_rules.specs.TypeScopes.{TypeScope, with_parameters, names_of}
use Rattle.desugaring_laws.specs.GraphOf.{IsGraphOf}
use Rattle.expression_laws.specs.Laws.{EachIs, EachCaseIs, EachFieldIs, PlaceIs, PartsAre}
use Rattle.expression_laws.specs.Results.{AreTyped}
use Rattle.expression_laws.proofs.Forms.{forms_are_typed}
use Rattle.function_laws.proofs.Forms.{calls_are_typed, functions_are_typed, references_are_typed}
use Rattle.scope_laws.specs.Gathers.{Gathers}
use Rattle.scope_laws.proofs.Parts.{left_part, right_part}
use Rattle.declaration_laws.specs.Objects.{AreFieldsTyped}
use Rattle.declaration_laws.proofs.Blocks.{blocks_are_typed, objects_are_typed}
use Rattle.block_laws.specs.Lists.{IsReady, AreReady}
use Rattle.block_forms.specs.Blocks.{InOrder, IsNested, AreNested}
use Rattle.block_forms.specs.Fields.{public_fields}
use Rattle.block_forms.proofs.Blocks.{lists_are_blocks}
use Rattle.block_forms.proofs.Objects.{fields_are_objects}
use Rattle.source_laws.specs.Source.{IsSource, EachIsSource, EachCaseIsSource, EachFieldIsSource, AreSource, DeclarationIsSource}
use Rattle.source_laws.specs.Laws.{ExpressionsAreTyped, ListsAreReady}

module _ (defs : Definitions) (slots : List Slot) (terms : List Term) (number : Term → TypeId) where
  is_nested : (s : TypeScope) (d : Declaration ℕ) → DeclarationIsSource defs slots terms number s d → IsNested d
  is_nested s (p.Let q a) j = tt
  is_nested s (p.Var false x u a) j = tt
  is_nested s (p.Var true x u a) j = absurd j
  is_nested s (p.Func x h body) j = tt
  is_nested s (p.Method query context x h body) j = absurd j
  is_nested s (p.System x body) j = absurd j
  is_nested s (p.TypeAlias x parameters u) j = tt
  is_nested s (p.Class x h fields) j = tt
  is_nested s (p.NamedObject x fields) j = tt
  is_nested s (p.Evaluate a) j = tt

  are_nested : (s : TypeScope) (ds : Declarations ℕ) → AreSource defs slots terms number s ds → AreNested ds
  are_nested s p.End j = tt
  are_nested s (p.Then public n d rest) j = (is_nested s d j.0, are_nested s rest j.1)

module _ (defs : Definitions) (slots : List Slot) (terms : List Term) (number : Term → TypeId) (graph : IsGraphOf defs slots terms number) (units : Among unit terms) where
  abbrev Typed : TypeScope → Expression ℕ → Type 0
  Typed = AreTyped defs slots terms number

  abbrev Source : TypeScope → Expression ℕ → Type 0
  Source = IsSource defs slots terms number

  -- a form of which the parts are typed
  by_parts : (s : TypeScope) (n : ℕ) (x : Form ℕ) → PartsAre (Typed s) x → Typed s (p.exp n x)
  by_parts s n x h = forms_are_typed defs slots terms number graph units s n x h

  -- an actor reference without its type is none
  no_reference : (s : TypeScope) (n : ℕ) (x : Bytes) → Typed s (p.exp n (p.ActorReference x))
  no_reference s n x e f c fit None k = tt
  no_reference s n x e f c fit (Some u) k = λ m. tt

  -- an expression under its type
  annotated : (s : TypeScope) (n : ℕ) (u : TypeNode) (a : Expression ℕ) → Typed s a → Typed s (p.exp n (p.Annotated a u))
  annotated s n u (p.exp m (p.Constant l)) h = by_parts s n (p.Annotated (p.exp m (p.Constant l)) u) (h, refl)
  annotated s n u (p.exp m (p.Name x)) h = by_parts s n (p.Annotated (p.exp m (p.Name x)) u) (h, refl)
  annotated s n u (p.exp m (p.Tuple items)) h = by_parts s n (p.Annotated (p.exp m (p.Tuple items)) u) (h, refl)
  annotated s n u (p.exp m (p.Optional a)) h = by_parts s n (p.Annotated (p.exp m (p.Optional a)) u) (h, refl)
  annotated s n u (p.exp m (p.Tag x)) h = by_parts s n (p.Annotated (p.exp m (p.Tag x)) u) (h, refl)
  annotated s n u (p.exp m (p.Tagged x a)) h = by_parts s n (p.Annotated (p.exp m (p.Tagged x a)) u) (h, refl)
  annotated s n u (p.exp m (p.Array mutable items)) h = by_parts s n (p.Annotated (p.exp m (p.Array mutable items)) u) (h, refl)
  annotated s n u (p.exp m (p.Object fields)) h = by_parts s n (p.Annotated (p.exp m (p.Object fields)) u) (h, refl)
  annotated s n u (p.exp m (p.Member a x)) h = by_parts s n (p.Annotated (p.exp m (p.Member a x)) u) (h, refl)
  annotated s n u (p.exp m (p.Projection a i)) h = by_parts s n (p.Annotated (p.exp m (p.Projection a i)) u) (h, refl)
  annotated s n u (p.exp m (p.Index a i)) h = by_parts s n (p.Annotated (p.exp m (p.Index a i)) u) (h, refl)
  annotated s n u (p.exp m (p.Annotated a v)) h = by_parts s n (p.Annotated (p.exp m (p.Annotated a v)) u) (h, refl)
  annotated s n u (p.exp m (p.Negative a)) h = by_parts s n (p.Annotated (p.exp m (p.Negative a)) u) (h, refl)
  annotated s n u (p.exp m (p.Binary o a b)) h = by_parts s n (p.Annotated (p.exp m (p.Binary o a b)) u) (h, refl)
  annotated s n u (p.exp m (p.Not a)) h = by_parts s n (p.Annotated (p.exp m (p.Not a)) u) (h, refl)
  annotated s n u (p.exp m (p.Assign q a)) h = by_parts s n (p.Annotated (p.exp m (p.Assign q a)) u) (h, refl)
  annotated s n u (p.exp m (p.AssignBy o q a)) h = by_parts s n (p.Annotated (p.exp m (p.AssignBy o q a)) u) (h, refl)
  annotated s n u (p.exp m (p.Call f vs arguments)) h = by_parts s n (p.Annotated (p.exp m (p.Call f vs arguments)) u) (h, refl)
  annotated s n u (p.exp m (p.When c a)) h = by_parts s n (p.Annotated (p.exp m (p.When c a)) u) (h, refl)
  annotated s n u (p.exp m (p.If c a b)) h = by_parts s n (p.Annotated (p.exp m (p.If c a b)) u) (h, refl)
  annotated s n u (p.exp m (p.Switch a cases)) h = by_parts s n (p.Annotated (p.exp m (p.Switch a cases)) u) (h, refl)
  annotated s n u (p.exp m (p.Try a q b)) h = by_parts s n (p.Annotated (p.exp m (p.Try a q b)) u) (h, refl)
  annotated s n u (p.exp m (p.While c a)) h = by_parts s n (p.Annotated (p.exp m (p.While c a)) u) (h, refl)
  annotated s n u (p.exp m (p.Loop a)) h = by_parts s n (p.Annotated (p.exp m (p.Loop a)) u) (h, refl)
  annotated s n u (p.exp m (p.LoopWhile a c)) h = by_parts s n (p.Annotated (p.exp m (p.LoopWhile a c)) u) (h, refl)
  annotated s n u (p.exp m (p.For q a b)) h = by_parts s n (p.Annotated (p.exp m (p.For q a b)) u) (h, refl)
  annotated s n u (p.exp m (p.Label x v a)) h = by_parts s n (p.Annotated (p.exp m (p.Label x v a)) u) (h, refl)
  annotated s n u (p.exp m (p.Break x)) h = by_parts s n (p.Annotated (p.exp m (p.Break x)) u) (h, refl)
  annotated s n u (p.exp m (p.BreakWith x a)) h = by_parts s n (p.Annotated (p.exp m (p.BreakWith x a)) u) (h, refl)
  annotated s n u (p.exp m (p.Continue x)) h = by_parts s n (p.Annotated (p.exp m (p.Continue x)) u) (h, refl)
  annotated s n u (p.exp m p.Return) h = by_parts s n (p.Annotated (p.exp m p.Return) u) (h, refl)
  annotated s n u (p.exp m (p.ReturnWith a)) h = by_parts s n (p.Annotated (p.exp m (p.ReturnWith a)) u) (h, refl)
  annotated s n u (p.exp m (p.Throw a)) h = by_parts s n (p.Annotated (p.exp m (p.Throw a)) u) (h, refl)
  annotated s n u (p.exp m (p.Do a)) h = by_parts s n (p.Annotated (p.exp m (p.Do a)) u) (h, refl)
  annotated s n u (p.exp m (p.DoOption a)) h = by_parts s n (p.Annotated (p.exp m (p.DoOption a)) u) (h, refl)
  annotated s n u (p.exp m (p.Bang a)) h = by_parts s n (p.Annotated (p.exp m (p.Bang a)) u) (h, refl)
  annotated s n u (p.exp m (p.Block ds)) h = by_parts s n (p.Annotated (p.exp m (p.Block ds)) u) (h, refl)
  annotated s n u (p.exp m (p.Function g body)) h = by_parts s n (p.Annotated (p.exp m (p.Function g body)) u) (h, refl)
  annotated s n u (p.exp m (p.ObjectBlock fields)) h = by_parts s n (p.Annotated (p.exp m (p.ObjectBlock fields)) u) (h, refl)
  annotated s n u (p.exp m (p.Assert a)) h = by_parts s n (p.Annotated (p.exp m (p.Assert a)) u) (h, refl)
  annotated s n u (p.exp m (p.Ignore a)) h = by_parts s n (p.Annotated (p.exp m (p.Ignore a)) u) (h, refl)
  annotated s n u (p.exp m (p.Debug a)) h = by_parts s n (p.Annotated (p.exp m (p.Debug a)) u) (h, refl)
  annotated s n u (p.exp m (p.ActorReference x)) h = references_are_typed defs slots terms number graph units s n m x u
  annotated s n u (p.exp m (p.Await a)) h = by_parts s n (p.Annotated (p.exp m (p.Await a)) u) (h, refl)
  annotated s n u (p.exp m (p.BuiltIn r)) h = by_parts s n (p.Annotated (p.exp m (p.BuiltIn r)) u) (h, refl)
  annotated s n u (p.exp m (p.Subsumed a)) h = by_parts s n (p.Annotated (p.exp m (p.Subsumed a)) u) (h, refl)

  abbrev Gathered : Definitions → Type 0
  Gathered d = Gathers defs d

  -- fields that are asked so become an object
  fields_typed : (s : TypeScope) (fields : Declarations ℕ) → Gathers defs (in_list (with_list s fields) fields) → AreReady defs slots terms number (with_list s fields) fields → InOrder defs slots terms number false s fields → AreNested fields
      → Distinct (map label_id (public_fields fields)) → AreFieldsTyped defs slots terms number s fields
  fields_typed s fields g r o k d = fields_are_objects defs slots terms number graph units s fields (record { gathers = g; ready = r; in_order = o; nested = k }) d

  mutual
    pub typed : (s : TypeScope) (a : Expression ℕ) → Gathers defs (in_expression s a) → IsSource defs slots terms number s a → Typed s a
    typed s (p.exp n (p.Constant l)) g j = by_parts s n (p.Constant l) j
    typed s (p.exp n (p.Name x)) g j = by_parts s n (p.Name x) j
    typed s (p.exp n (p.Tuple items)) g j = by_parts s n (p.Tuple items) (each_typed s items g j)
    typed s (p.exp n (p.Optional a)) g j = by_parts s n (p.Optional a) (typed s a g j)
    typed s (p.exp n (p.Tag x)) g j = by_parts s n (p.Tag x) j
    typed s (p.exp n (p.Tagged x a)) g j = by_parts s n (p.Tagged x a) (typed s a g j)
    typed s (p.exp n (p.Array mutable items)) g j = by_parts s n (p.Array mutable items) (each_typed s items g j)
    typed s (p.exp n (p.Object fields)) g j = by_parts s n (p.Object fields) (fields_source s fields g j.0, j.1)
    typed s (p.exp n (p.Member a x)) g j = by_parts s n (p.Member a x) (typed s a g j)
    typed s (p.exp n (p.Projection a i)) g j = by_parts s n (p.Projection a i) (typed s a g j)
    typed s (p.exp n (p.Index a i)) g j = by_parts s n (p.Index a i) (typed s a (left_part defs (in_expression s a) (in_expression s i) g) j.0, typed s i (right_part defs (in_expression s a) (in_expression s i) g) j.1)
    typed s (p.exp n (p.Annotated a t)) g j = annotated s n t a (typed s a g j)
    typed s (p.exp n (p.Negative a)) g j = by_parts s n (p.Negative a) (typed s a g j)
    typed s (p.exp n (p.Binary o a b)) g j = by_parts s n (p.Binary o a b) (typed s a (left_part defs (in_expression s a) (in_expression s b) g) j.0, typed s b (right_part defs (in_expression s a) (in_expression s b) g) j.1)
    typed s (p.exp n (p.Not a)) g j = by_parts s n (p.Not a) (typed s a g j)
    typed s (p.exp n (p.Assign q a)) g j = by_parts s n (p.Assign q a) (place_typed s q (left_part defs (in_expression s q) (in_expression s a) g) j.0, typed s a (right_part defs (in_expression s q) (in_expression s a) g) j.1)
    typed s (p.exp n (p.AssignBy o q a)) g j = by_parts s n (p.AssignBy o q a) (place_typed s q (left_part defs (in_expression s q) (in_expression s a) g) j.0, typed s a (right_part defs (in_expression s q) (in_expression s a) g) j.1)
    typed s (p.exp n (p.Call f types arguments)) g j = calls_are_typed defs slots terms number graph units s n f types arguments (typed s f (left_part defs (in_expression s f) (in_each s arguments) g) j.0) (each_typed s arguments (right_part defs (in_expression s f) (in_each s arguments) g) j.1)
    typed s (p.exp n (p.When c a)) g j = by_parts s n (p.When c a) (typed s c (left_part defs (in_expression s c) (in_expression s a) g) j.0, typed s a (right_part defs (in_expression s c) (in_expression s a) g) j.1)
    typed s (p.exp n (p.If c a b)) g j =
        let r = right_part defs (in_expression s c) (both (in_expression s a) (in_expression s b)) g in
        by_parts s n (p.If c a b)
        (typed s c (left_part defs (in_expression s c) (both (in_expression s a) (in_expression s b)) g) j.0, typed s a (left_part defs (in_expression s a) (in_expression s b) r) j.1, typed s b (right_part defs (in_expression s a) (in_expression s b) r) j.2)
    typed s (p.exp n (p.Switch a cases)) g j = by_parts s n (p.Switch a cases) (typed s a (left_part defs (in_expression s a) (in_cases s cases) g) j.0, cases_typed s cases (right_part defs (in_expression s a) (in_cases s cases) g) j.1)
    typed s (p.exp n (p.Try a q b)) g j = by_parts s n (p.Try a q b) (typed s a (left_part defs (in_expression s a) (in_expression s b) g) j.0, j.1, typed s b (right_part defs (in_expression s a) (in_expression s b) g) j.2)
    typed s (p.exp n (p.While c a)) g j = by_parts s n (p.While c a) (typed s c (left_part defs (in_expression s c) (in_expression s a) g) j.0, typed s a (right_part defs (in_expression s c) (in_expression s a) g) j.1)
    typed s (p.exp n (p.Loop a)) g j = by_parts s n (p.Loop a) (typed s a g j)
    typed s (p.exp n (p.LoopWhile a c)) g j = by_parts s n (p.LoopWhile a c) (typed s a (left_part defs (in_expression s a) (in_expression s c) g) j.0, typed s c (right_part defs (in_expression s a) (in_expression s c) g) j.1)
    typed s (p.exp n (p.For q a b)) g j = by_parts s n (p.For q a b) (j.0, typed s a (left_part defs (in_expression s a) (in_expression s b) g) j.1, typed s b (right_part defs (in_expression s a) (in_expression s b) g) j.2)
    typed s (p.exp n (p.Label x t a)) g j = by_parts s n (p.Label x t a) (typed s a g j)
    typed s (p.exp n (p.Break x)) g j = by_parts s n (p.Break x) j
    typed s (p.exp n (p.BreakWith x a)) g j = by_parts s n (p.BreakWith x a) (typed s a g j)
    typed s (p.exp n (p.Continue x)) g j = by_parts s n (p.Continue x) j
    typed s (p.exp n p.Return) g j = by_parts s n p.Return j
    typed s (p.exp n (p.ReturnWith a)) g j = by_parts s n (p.ReturnWith a) (typed s a g j)
    typed s (p.exp n (p.Throw a)) g j = by_parts s n (p.Throw a) (typed s a g j)
    typed s (p.exp n (p.Do a)) g j = by_parts s n (p.Do a) (typed s a g j)
    typed s (p.exp n (p.DoOption a)) g j = by_parts s n (p.DoOption a) (typed s a g j)
    typed s (p.exp n (p.Bang a)) g j = by_parts s n (p.Bang a) (typed s a g j)
    typed s (p.exp n (p.Block ds)) g j = blocks_are_typed defs slots terms number graph units s n ds (lists_are_blocks defs slots terms number graph units s ds (record { gathers = g; ready = ready (with_list s ds) ds g j.0; in_order = j.1; nested = are_nested defs slots terms number (with_list s ds) ds j.0 }))
    typed s (p.exp n (p.Function h body)) g j =
        functions_are_typed defs slots terms number graph units s n h body j.0 j.1
        (typed s body (subst (λ z. Gathers defs (in_expression z body)) (ap (λ gs. with_parameters s (names_of gs)) j.0) (right_part defs (of_generics (within s h) h.generics) (in_expression (within s h) body) g)) j.2)
    typed s (p.exp n (p.ObjectBlock fields)) g j = objects_are_typed defs slots terms number graph units s n fields (fields_typed s fields g (ready (with_list s fields) fields g j.0) j.1 (are_nested defs slots terms number (with_list s fields) fields j.0) j.2)
    typed s (p.exp n (p.Assert a)) g j = by_parts s n (p.Assert a) (typed s a g j)
    typed s (p.exp n (p.Ignore a)) g j = by_parts s n (p.Ignore a) (typed s a g j)
    typed s (p.exp n (p.Debug a)) g j = by_parts s n (p.Debug a) (typed s a g j)
    typed s (p.exp n (p.ActorReference x)) g j = no_reference s n x
    typed s (p.exp n (p.Await a)) g j = by_parts s n (p.Await a) (typed s a g j)
    typed s (p.exp n (p.BuiltIn m)) g j = absurd j
    typed s (p.exp n (p.Subsumed a)) g j = absurd j

    -- the parts of what is assigned to
    place_typed : (s : TypeScope) (q : Expression ℕ) → Gathers defs (in_expression s q) → IsSource defs slots terms number s q → PlaceIs (Typed s) q
    place_typed s (p.exp n (p.Constant l)) g j = tt
    place_typed s (p.exp n (p.Name x)) g j = tt
    place_typed s (p.exp n (p.Tuple items)) g j = tt
    place_typed s (p.exp n (p.Optional a)) g j = tt
    place_typed s (p.exp n (p.Tag x)) g j = tt
    place_typed s (p.exp n (p.Tagged x a)) g j = tt
    place_typed s (p.exp n (p.Array mutable items)) g j = tt
    place_typed s (p.exp n (p.Object fields)) g j = tt
    place_typed s (p.exp n (p.Member a x)) g j = typed s a g j
    place_typed s (p.exp n (p.Projection a i)) g j = tt
    place_typed s (p.exp n (p.Index a i)) g j = (typed s a (left_part defs (in_expression s a) (in_expression s i) g) j.0, typed s i (right_part defs (in_expression s a) (in_expression s i) g) j.1)
    place_typed s (p.exp n (p.Annotated a t)) g j = tt
    place_typed s (p.exp n (p.Negative a)) g j = tt
    place_typed s (p.exp n (p.Binary o a b)) g j = tt
    place_typed s (p.exp n (p.Not a)) g j = tt
    place_typed s (p.exp n (p.Assign q a)) g j = tt
    place_typed s (p.exp n (p.AssignBy o q a)) g j = tt
    place_typed s (p.exp n (p.Call f types arguments)) g j = tt
    place_typed s (p.exp n (p.When c a)) g j = tt
    place_typed s (p.exp n (p.If c a b)) g j = tt
    place_typed s (p.exp n (p.Switch a cases)) g j = tt
    place_typed s (p.exp n (p.Try a q b)) g j = tt
    place_typed s (p.exp n (p.While c a)) g j = tt
    place_typed s (p.exp n (p.Loop a)) g j = tt
    place_typed s (p.exp n (p.LoopWhile a c)) g j = tt
    place_typed s (p.exp n (p.For q a b)) g j = tt
    place_typed s (p.exp n (p.Label x t a)) g j = tt
    place_typed s (p.exp n (p.Break x)) g j = tt
    place_typed s (p.exp n (p.BreakWith x a)) g j = tt
    place_typed s (p.exp n (p.Continue x)) g j = tt
    place_typed s (p.exp n p.Return) g j = tt
    place_typed s (p.exp n (p.ReturnWith a)) g j = tt
    place_typed s (p.exp n (p.Throw a)) g j = tt
    place_typed s (p.exp n (p.Do a)) g j = tt
    place_typed s (p.exp n (p.DoOption a)) g j = tt
    place_typed s (p.exp n (p.Bang a)) g j = tt
    place_typed s (p.exp n (p.Block ds)) g j = tt
    place_typed s (p.exp n (p.Function h body)) g j = tt
    place_typed s (p.exp n (p.ObjectBlock fields)) g j = tt
    place_typed s (p.exp n (p.Assert a)) g j = tt
    place_typed s (p.exp n (p.Ignore a)) g j = tt
    place_typed s (p.exp n (p.Debug a)) g j = tt
    place_typed s (p.exp n (p.ActorReference x)) g j = tt
    place_typed s (p.exp n (p.Await a)) g j = tt
    place_typed s (p.exp n (p.BuiltIn m)) g j = tt
    place_typed s (p.exp n (p.Subsumed a)) g j = tt

    each_typed : (s : TypeScope) (items : Expressions ℕ) → Gathers defs (in_each s items) → EachIsSource defs slots terms number s items → EachIs (Typed s) items
    each_typed s p.Nil g j = tt
    each_typed s (p.Cons a rest) g j = (typed s a (left_part defs (in_expression s a) (in_each s rest) g) j.0, each_typed s rest (right_part defs (in_expression s a) (in_each s rest) g) j.1)

    cases_typed : (s : TypeScope) (cases : Cases ℕ) → Gathers defs (in_cases s cases) → EachCaseIsSource defs slots terms number s cases → EachCaseIs (Typed s) cases
    cases_typed s p.NoCases g j = tt
    cases_typed s (p.Case q a rest) g j = (j.0, typed s a (left_part defs (in_expression s a) (in_cases s rest) g) j.1, cases_typed s rest (right_part defs (in_expression s a) (in_cases s rest) g) j.2)

    fields_source : (s : TypeScope) (fields : ObjectFields ℕ) → Gathers defs (in_fields s fields) → EachFieldIsSource defs slots terms number s fields → EachFieldIs (Typed s) fields
    fields_source s p.NoFields g j = tt
    fields_source s (p.Field mutable x u a rest) g j = (typed s a (left_part defs (in_expression s a) (in_fields s rest) g) j.0, fields_source s rest (right_part defs (in_expression s a) (in_fields s rest) g) j.1)

    pub ready : (s : TypeScope) (ds : Declarations ℕ) → Gathers defs (in_list s ds) → AreSource defs slots terms number s ds → AreReady defs slots terms number s ds
    ready s p.End g j = tt
    ready s (p.Then public n d rest) g j = (one_ready s d (left_part defs (in_declaration s d) (in_list s rest) g) j.0, ready s rest (right_part defs (in_declaration s d) (in_list s rest) g) j.1)

    pub one_ready : (s : TypeScope) (d : Declaration ℕ) → Gathers defs (in_declaration s d) → DeclarationIsSource defs slots terms number s d → IsReady defs slots terms number s d
    one_ready s (p.Let q a) g j = (j.0, typed s a g j.1)
    one_ready s (p.Var false x u a) g j = typed s a g j
    one_ready s (p.Var true x u a) g j = absurd j
    one_ready s (p.Func x h body) g j = (j.0, j.1, typed (within s h) body (right_part defs (of_generics (within s h) h.generics) (in_expression (within s h) body) g) j.2)
    one_ready s (p.Method query context x h body) g j = absurd j
    one_ready s (p.System x body) g j = absurd j
    one_ready s (p.TypeAlias x parameters u) g j = tt
    one_ready s (p.Class x h fields) g j =
        let inner = with_list (within s h) fields in
        let r = right_part defs (defined s x (names_of h.generics) (class_object s h fields)) (both (of_generics (within s h) h.generics) (in_list inner fields)) g in
        let i = right_part defs (of_generics (within s h) h.generics) (in_list inner fields) r in
        (j.0, j.1, fields_typed (within s h) fields i (ready inner fields i j.2) j.3 (are_nested defs slots terms number inner fields j.2) j.4)
    one_ready s (p.NamedObject x fields) g j = fields_typed s fields g (ready (with_list s fields) fields g j.0) j.1 (are_nested defs slots terms number (with_list s fields) fields j.0) j.2
    one_ready s (p.Evaluate a) g j = typed s a g j

pub expressions_are_typed : ExpressionsAreTyped
expressions_are_typed defs slots terms number graph units s a g j = typed defs slots terms number graph units s a g j

pub lists_are_ready : ListsAreReady
lists_are_ready defs slots terms number graph units s ds g j = ready defs slots terms number graph units s ds g j
