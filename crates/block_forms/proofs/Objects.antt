-- Objects with declarations.
use Rattle.std.proofs.Common.{◌≡◌, inl, inr, ℕ, zero, suc, ◌≤◌, ◌+◌, Bool, true, false, List, [], ◌∷◌, ◌++◌, length, map, Option, Some, None, refl, sym, ap, ◌∙◌, subst, arith}
use Rattle.std.proofs.lemmas.Slice.Eq.{bytes_eq-Decides}
use Rattle.std.specs.Prelude.{cond, if◌then◌else◌, nat_eq, slice_get}
use Rattle.std.specs.Cmp.Lexicographic.{pointwise}
use Rattle.std.specs.List.{list_any}
use Rattle.mo_scopes.specs.Scopes.{named}
use Rattle.mo_types.specs.declared.node.Field.{Field}
use Rattle.mo_types.specs.declared.node.Node.TheVariants as node
use Rattle.mo_types.specs.declared.node.TypeId.{TypeId}
use Rattle.mo_types.specs.Graph.{Slot, head_at}
use Rattle.mo_types.specs.Heads.{async_of}
use Rattle.mo_types.specs.Label.{label_id}
use Rattle.mo_types.specs.Sub.{Each, find}
use Rattle.mo_subtype.specs.Renamed.{on_field}
use Rattle.mo_values.specs.declared.operation.Operation.TheVariants as op
use Rattle.subtype_laws.specs.Reached.{Among}
use Rattle.typed_tree.specs.declared.action.Action.TheVariants as action
use Rattle.typed_tree.specs.declared.expression.Form.TheOpen as F
use Rattle.typed_tree.specs.ActionTypes as typed
use Rattle.typed_tree.specs.Has.{field_want, by_mutability}
use Rattle.typed_tree.specs.Instances.{IsAmong}
use Rattle.typed_tree.specs.OperationTypes.{Distinct}
use Rattle.typed_tree.specs.Placing.{Declared, is_among, behind, place, reached}
use Rattle.typed_tree.specs.Typing.{EachGives, Typed, generic as stands_for}
use Rattle.typed_tree.specs.Wants.{Want, Of, CellOf}
use Rattle.typing_rules.specs.AbstractSyntax.{Bytes, TypeParameter, Declaration, Declarations}
use Rattle.typing_rules.specs.AbstractSyntax as p
use Rattle.typing_rules.specs.AsyncPlaces.{Other}
use Rattle.typing_rules.specs.Contexts.{Bound, Scope, Context, constant, variable, generic, directly}
use Rattle.typing_rules.specs.DeclaredTypes.{with_list, function_term, class_term, declared_fields, member_fields}
use Rattle.typing_rules.specs.Definitions.{Definitions}
use Rattle.typing_rules.specs.Heads.{head}
use Rattle.typing_rules.specs.Lists.{Entry as Given}
use Rattle.typing_rules.specs.PublicFields.{PublicFields}
use Rattle.typing_rules.specs.Terms.{Term, Fields, unit, listed_fields}
use Rattle.typing_rules.specs.Terms as t
use Rattle.typing_rules.specs.TypedTrees.{Note}
use Rattle.typing_rules.specs.TypeScopes.{term, term_or, names_of as parameters_of, places_of}
use Rattle.desugaring.specs.Expressions.{public_names, pieces, part_or, object_operands}
use Rattle.desugaring.specs.FreeNames.{names_in, names_of, names_of_list, in_declarations, declared, without}
use Rattle.desugaring.specs.Frames.{Frame, found}
use Rattle.desugaring.specs.Nodes.{at, operates}
use Rattle.desugaring.specs.Pieces.{arranged}
use Rattle.desugaring_laws.specs.GraphOf.{IsGraphOf}
use Rattle.desugaring_laws.specs.Known.{IsKnown}
use Rattle.desugaring_laws.specs.Yields.{Yields}
use Rattle.desugaring_laws.proofs.Graph.{reflexive, part_known}
use Rattle.desugaring_laws.proofs.Patterns.{find_seen, find_among}
use Rattle.desugaring_laws.proofs.Yielding.{more}
use Rattle.expression_laws.specs.Fitting.{StandsFor, AValue, ACell, AFuture, AGeneric, Fits}
use Rattle.expression_laws.proofs.BoundNames.{both}
use Rattle.expression_laws.proofs.Ending.{Setting, Place, there, acts}
use Rattle.expression_laws.proofs.Trees.{value_node, cell_node}
use Rattle.list_laws.specs.Facts.{Fact, Evaluates, IsFunction, Other as Another, DefinedBefore, At, scope_at, nth}
use Rattle.list_laws.specs.Standing.{StandsIn}
use Rattle.declaration_laws.specs.Laws.{own_of}
use Rattle.declaration_laws.specs.Objects.{FieldsJudged, written_fields, BecomeObject}
use Rattle.block_laws.specs.Bound.{IsBoundSo, AreBoundSo, written_names}
use Rattle.block_laws.specs.Lists.{AreMade, AreKept, ListMade, in_scope}
use Rattle.block_laws.specs.Order.{Reaches, IsInOrder, fact_of, facts_of}
use Rattle.block_laws.proofs.Facts.{dropped, nth_dropped, scope_next, bound_at, function_at}
use Rattle.block_laws.proofs.Keeping.{differ_behind, kept as stays_bound, bound_to_end}
use Rattle.block_laws.proofs.Listing.{lists_are_made}
use Rattle.block_forms.specs.Blocks.{IsListReady}
use Rattle.block_forms.specs.Fields.{public_fields, FieldsAreObjects}
use Rattle.block_forms.proofs.AtEnd.{defined_all, function_later}
use Rattle.block_forms.proofs.Blocks.{fits_here}
use Rattle.block_forms.proofs.Shapes.{names_stay}
use Rattle.block_forms.proofs.Whole as whole
use Rattle.block_forms.proofs.Written.{IsPublic, ArePublic, all_public, constant_field, each_written, field_labels, names_written, name_among, entered_named}

-- ---- places

-- a place is one of the list
behind_within : (last n : ℕ) (ds : List Declared) (xs : List Bytes) → last ≤ n → behind last n ds xs ≤ n + length ds
behind_within last n [] xs h = omega (arith, h)
behind_within last n (d ∷ ds) xs h = omega (arith, behind_within (cond (list_any (λ x. is_among x xs) d.defines) (suc n) last) (suc n) ds xs (by (list_any (λ x. is_among x xs) d.defines))) where
  by : (b : Bool) → cond b (suc n) last ≤ suc n
  by true = omega (arith)
  by false = omega (arith, h)

place_within : (ds : List Declared) (d : Declared) → place ds d ≤ length ds
place_within ds d = omega (arith, behind_within 0 0 ds (reached (length ds) ds d.occurs) (omega (arith)))

map_length : {A B : Type 0} (f : A → B) (xs : List A) → length (map f xs) ≡ length xs
map_length f [] = refl
map_length f (x ∷ xs) = ap suc (map_length f xs)

-- ---- names that a declaration defines

defined_at : (n : ℕ) (facts : List Fact) (xs : List Bytes) (s : Scope) (y : Bytes) → nth n facts ≡ Some (Evaluates xs s) → Among y xs → DefinedBefore (suc n) y facts
defined_at n [] xs s y e m = cc
defined_at zero (z ∷ facts) xs s y e m = let i : z ≡ Evaluates xs s = cc in subst (λ f. DefinedBefore 1 y (f ∷ facts)) (sym i) (inl m)
defined_at (suc n) (Evaluates zs r ∷ facts) xs s y e m = inr (defined_at n facts xs s y e m)
defined_at (suc n) (IsFunction z p b w ∷ facts) xs s y e m = defined_at n facts xs s y e m
defined_at (suc n) (Another ∷ facts) xs s y e m = defined_at n facts xs s y e m

each_left : {A : Type 0} (P : A → Type 0) (xs ys : List A) → Each P (xs ++ ys) → Each P xs
each_left P [] ys h = tt
each_left P (x ∷ xs) ys h = (h.0, each_left P xs ys h.1)

differ_first : (xs ys : List Bytes) → Distinct (xs ++ ys) → Distinct xs
differ_first [] ys h = tt
differ_first (x ∷ xs) ys h = (each_left _ xs ys h.0, differ_first xs ys h.1)

-- ---- fields

abbrev field_bound : Field Term → Bound
field_bound g = record { type = g.part; mutable = g.mutable; generics = [] }

find_each : (P : Field Term → Type 0) (gs : List (Field Term)) → Each P gs → (l : Bytes) (g : Field Term) → find l gs ≡ Some g → P g × (g.label ≡ l)
find_each P [] h l g e = cc
find_each P (x ∷ gs) h l g e = by (pointwise nat_eq x.label l) refl e (λ i. find_each P gs h.1 l g i) where
  by : (b : Bool) → pointwise nat_eq x.label l ≡ b → (if b then Some x else find l gs) ≡ Some g → (find l gs ≡ Some g → P g × (g.label ≡ l)) → P g × (g.label ≡ l)
  by true i j next = let q : x ≡ g = cc in (subst (λ z. P z) q h.0, subst (λ z. z.label ≡ l) q ((bytes_eq-Decides x.label l).0 i))
  by false i j next = next j

find_some : (gs : List (Field Term)) (l : Bytes) → Among l (map (λ g. g.label) gs) → (g : Field Term) × (find l gs ≡ Some g)
find_some [] l m = absurd m
find_some (x ∷ gs) l m = by (pointwise nat_eq x.label l) refl m (λ i. find_some gs l i) where
  by : (b : Bool) → pointwise nat_eq x.label l ≡ b → Among l (map (λ g. g.label) (x ∷ gs)) → (Among l (map (λ g. g.label) gs) → (g : Field Term) × (find l gs ≡ Some g)) → (g : Field Term) × (find l (x ∷ gs) ≡ Some g)
  by true i n next = (x, ap (λ b. if b then Some x else find l gs) i)
  by false i (inl e) next = let q : false ≡ true = sym i ∙ (bytes_eq-Decides x.label l).1 e in absurd (let r : false ≡ true = q in cc)
  by false i (inr n) next = let r = next n in (r.0, ap (λ b. if b then Some x else find l gs) i ∙ r.1)

all_among : (number : Term → TypeId) (ls : List Bytes) (gs : List (Field Term)) → ((l : Bytes) → IsAmong l (map (λ g. g.label) gs) → IsAmong l ls) → Each (λ g. IsAmong g.label ls) (map (on_field number) gs)
all_among number ls [] h = tt
all_among number ls (g ∷ gs) h = (h g.label (inl refl), all_among number ls gs (λ l m. h l (inr m)))

generics_none : (gs : List TypeParameter) (u : Term) → gs ≡ [] → generic (places_of (parameters_of gs)) u ≡ constant u
generics_none gs u e = ap (λ z. generic (places_of (parameters_of z)) u) e

module _ (defs : Definitions) (slots : List Slot) (terms : List Term) (number : Term → TypeId) (graph : IsGraphOf defs slots terms number) (units : Among unit terms) (e : Context) (fields : Declarations ℕ) (f : Frame) (c : typed.Context)
    (fits : Fits defs slots terms number e.types (without (names_of_list fields) (in_declarations fields)) (directly Other e) f c) (w : Option Term) (q : Term × Declarations Note)
    (m : ListMade defs slots terms number c.parameters false e fields w q) (kept : AreKept defs slots terms number f c fields m.given) (o : IsInOrder defs slots number (with_list e.types fields) fields q.1) where
  abbrev facts : List Fact
  facts = whole.facts defs slots terms number graph e fields f c fits false w q m kept o

  abbrev all : List Declared
  all = whole.all defs slots terms number graph e fields f c fits false w q m kept o

  abbrev outer : List Bytes
  outer = whole.outer defs slots terms number graph e fields f c fits false w q m kept o

  abbrev k : Context
  k = in_scope e fields

  abbrev last : Context
  last = whole.last defs slots terms number graph e fields f c fits false w q m kept o

  abbrev end : typed.Context
  end = (whole.walk defs slots terms number graph e fields f c fits false w q m kept o).end

  abbrev frame : Frame
  frame = whole.end_frame defs slots terms number graph e fields f c fits false w q m kept o

  end_is : At defs slots terms number e.body (in_scope e fields).values f c outer facts (suc (length facts)) (length facts) frame end
  end_is = whole.end_is defs slots terms number graph e fields f c fits false w q m kept o

  -- ---- each public name stands at the end

  -- a name of a field is reached and bound to its type
  abbrev Stood : Field Term → Type 0
  Stood g = Reaches outer facts (suc (length facts)) (length facts) g.label × (named (scope_at (length facts) facts k.values) g.label ≡ Some (field_bound g))

  step_stood : (n : ℕ) (xs : List Bytes) (s : Scope) → nth n facts ≡ Some (Evaluates xs s) → (g : Field Term) → Among g.label xs → ((u : Scope) → named (s ++ u) g.label ≡ Some (field_bound g)) → Stood g
  step_stood n xs s i g j h =
      let d = defined_at n facts xs s g.label i j in (
        inr (inl (defined_all (suc n) g.label facts d)),
        bound_to_end outer facts (whole.only defs slots terms number graph e fields f c fits false w q m kept o) (whole.apart defs slots terms number graph e fields f c fits false w q m kept o)
            (whole.outside defs slots terms number graph e fields f c fits false w q m kept o) (whole.functions defs slots terms number graph e fields f c fits false w q m kept o) zero (suc n) g.label (inr (inl d)) k.values
            ∙ (ap (λ z. named z g.label) (scope_next n facts k.values (Evaluates xs s) i) ∙ h (scope_at n facts k.values)),
      )

  all_many : length all ≡ length facts
  all_many = map_length (λ b. b.declared) (pieces defs number q.1) ∙ whole.many defs slots terms number graph e fields f c fits false w q m kept o

  within_end : (d : Declared) → suc (place all d) ≤ suc (length facts)
  within_end d = subst (λ z. suc (place all d) ≤ suc z) all_many (omega (arith, place_within all d))

  function_stood : (n : ℕ) (x : Bytes) (d : Declared) (b : Bound) (v : Want TypeId) → nth n facts ≡ Some (IsFunction x (place all d) b v) → (u : Term) → b ≡ constant u → Stood (constant_field (x, u))
  function_stood n x d b v i u h =
      let r = function_at n facts x (place all d) b v i in (
        inr (inr (function_later (suc (place all d)) (suc (length facts)) (within_end d) x facts r)),
        stays_bound x facts (whole.only defs slots terms number graph e fields f c fits false w q m kept o) (whole.functions defs slots terms number graph e fields f c fits false w q m kept o (suc (place all d)) x r) (length facts) k.values
            ∙ (bound_at n facts k.values (IsFunction x (place all d) b v) i (whole.bound defs slots terms number graph e fields f c fits false w q m kept o) ∙ ap (λ z. Some z) h),
      )

  head_named : (x : Bytes) (b : Bound) (u : Scope) → named ((x, b) ∷ u) x ≡ Some b
  head_named x b u = ap (λ z. cond z (Some b) (named u x)) ((bytes_eq-Decides x x).1 refl)

  one_stood : (n : ℕ) (d : Declaration ℕ) (x : Declared) (one : Given) → nth n facts ≡ Some (fact_of slots number k.types all x d one.scope) → IsBoundSo k.types d one → IsPublic d → Distinct (names_of d) → (rest : Fields)
      → Each Stood (listed_fields rest) → Each Stood (listed_fields (declared_fields k.types d rest))
  one_stood n (p.Let r a) x one i h j d rest more' =
      let ns = written_names k.types r in
      each_written k.types Stood r rest j (λ z y.
      step_stood n (names_in r) one.scope i (constant_field z) (subst (λ ys. Among z.0 ys) (names_written k.types r) (name_among z ns y)) (λ u.
      subst (λ s. named (s ++ u) z.0 ≡ Some (constant z.1)) (sym (h.1 j)) (entered_named ns u z (subst (λ ys. Distinct ys) (sym (names_written k.types r)) d) y))) more'
  one_stood n (p.Var stable y u a) x one i h j d rest more' = (
    step_stood n (y.bytes ∷ []) one.scope i (record { label = y.bytes; mutable = true; part = term_or k.types u t.Bottom }) (inl refl) (λ s.
        subst (λ z. named (z ++ s) y.bytes ≡ Some (variable (term_or k.types u t.Bottom))) (sym (h.1 j.0 j.1))
        (head_named y.bytes (variable (term k.types j.0)) s ∙ ap (λ z. Some (variable (term_or k.types z t.Bottom))) (sym j.1))),
    more',
  )
  one_stood n (p.Func y g body) x one i h j d rest more' =
      (function_stood n y.bytes x (generic (own_of g) (function_term k.types g)) (stands_for (head_at slots) (own_of g) (number (function_term k.types g))) i (function_term k.types g) (generics_none g.generics (function_term k.types g) j), more')
  one_stood n (p.Class y g ds) x one i h j d rest more' =
      (function_stood n y.bytes x (generic (own_of g) (class_term k.types y g)) (stands_for (head_at slots) (own_of g) (number (class_term k.types y g))) i (class_term k.types y g) (generics_none g.generics (class_term k.types y g) j), more')
  one_stood n (p.Method query context y g body) x one i h j d rest more' = more'
  one_stood n (p.System y body) x one i h j d rest more' = more'
  one_stood n (p.TypeAlias y parameters u) x one i h j d rest more' = more'
  one_stood n (p.NamedObject y ds) x one i h j d rest more' = absurd j
  one_stood n (p.Evaluate a) x one i h j d rest more' = more'

  all_stood : (n : ℕ) (v : Context) (ds : Declarations ℕ) (given : List Given) (made : Declarations Note) → AreMade defs slots terms number c.parameters last false v ds w given made → AreBoundSo k.types ds given → ArePublic ds → Distinct (names_of_list ds)
      → dropped n facts ≡ facts_of slots number k.types all ds made given → Each Stood (listed_fields (member_fields k.types ds))
  all_stood n v p.End given made g b j d h = tt
  all_stood n v (p.Then public i x rest) [] made g b j d h = absurd b
  all_stood n v (p.Then public i x rest) (one ∷ ones) p.End g b j d h = absurd g
  all_stood n v (p.Then true i x rest) (one ∷ ones) (p.Then public_too l y bs) g b j d h =
      let r = nth_dropped n facts (fact_of slots number k.types all (declared y) x one.scope) (facts_of slots number k.types all rest bs ones) h in
      one_stood n x (declared y) one r.0 b.0 j.0 (differ_first (names_of x) (names_of_list rest) d) (member_fields k.types rest)
      (all_stood (suc n) _ rest ones bs g.2 b.1 j.1 (differ_behind (names_of x) (names_of_list rest) d) r.1)
  all_stood n v (p.Then false i x rest) (one ∷ ones) (p.Then public_too l y bs) g b j d h =
      let r = nth_dropped n facts (fact_of slots number k.types all (declared y) x one.scope) (facts_of slots number k.types all rest bs ones) h in
      all_stood (suc n) _ rest ones bs g.2 b.1 j (differ_behind (names_of x) (names_of_list rest) d) r.1

  -- ---- the object

  abbrev setting : Setting
  setting = record { defs = defs; slots = slots; terms = terms; number = number; graph = graph; units = units; scope = with_list e.types fields }

  abbrev place_at_end : Place setting
  place_at_end = record { around = Other; known = in_scope e fields; frame = frame; context = end; used = []; fits = whole.fits_none defs slots terms number graph e fields f c fits false w q m kept o }

  abbrev gs : List (Field Term)
  gs = listed_fields (written_fields e.types fields)

  no_future : {A : Type 0} (a : A) → Some a ≡ None → ⊥
  no_future a h = cc

  module _ (stood : Each Stood gs) (u : Term) (known : IsKnown defs terms end.parameters u) (is : head defs u ≡ node.Object gs) where
    -- a name as an operand of its field's type
    by_standing : (g : Field Term) (i : ℕ) (cell : Bool) (v : Want TypeId) → IsKnown defs terms end.parameters g.part → slice_get end.names i ≡ Some v → StandsFor defs slots terms number c.parameters e.body (field_bound g) cell v
        → Typed slots (at defs number g.part (F.Name i)) end (by_mutability g.mutable (number g.part))
    by_standing g i cell v kp h (AValue fixed plain no_cell kv r) =
        subst (λ z. Typed slots (at defs number g.part (F.Name i)) end (by_mutability z (number g.part))) (sym fixed)
        (value_node defs slots terms number graph end g.part kp (F.Name i) (Of (number g.part), h ∙ ap (λ z. Some z) r, refl) (number g.part) (reflexive defs slots terms number graph (number g.part)))
    by_standing g i cell v kp h (ACell mutable plain a_cell kv r) =
        subst (λ z. Typed slots (at defs number g.part (F.Name i)) end (by_mutability z (number g.part))) (sym mutable)
        (cell_node defs slots terms number graph end g.part kp (F.Name i) (CellOf (number g.part), h ∙ ap (λ z. Some z) r, refl))
    by_standing g i cell v kp h (AFuture fixed plain no_cell a future ka r) = absurd (no_future a (sym (ap async_of future) ∙ kp.fine.no_future))
    by_standing g i cell v kp h (AGeneric fixed some no_cell kv r) = absurd (some refl)

    operand : (l : Bytes) (g : Field Term) → find l gs ≡ Some g → Typed slots (at defs number (part_or unit (find l gs)) (F.Name (found frame l).index)) end (field_want (find l (map (on_field number) gs)))
    operand l g r =
        let s = find_each Stood gs stood l g r in
        let n = end_is.stand g.label s.0.0 (field_bound g) s.0.1 in
        let x = subst (λ z. StandsIn defs slots terms number c.parameters e.body frame.names end.names z (field_bound g)) s.1 n in
        subst (λ z. Typed slots (at defs number (part_or unit z) (F.Name (found frame l).index)) end (field_want (find l (map (on_field number) gs)))) (sym r)
        (subst (λ z. Typed slots (at defs number g.part (F.Name (found frame l).index)) end (field_want z)) (sym (find_seen number l gs g r))
        (by_standing g (found frame l).index (found frame l).cell x.0 (part_known defs slots terms number graph end.parameters u g.part known (node.Object gs) is (find_among l gs g r)) x.1 x.2))

    operands : (ls : List Bytes) → ((l : Bytes) → Among l ls → Among l (map (λ g. g.label) gs)) → EachGives (Typed slots) end (object_operands defs number (node.Object gs) frame ls) (map (λ l. field_want (find l (map (on_field number) gs))) ls)
    operands [] h = tt
    operands (l ∷ ls) h = let r = find_some gs l (h l (inl refl)) in (operand l r.0 r.1, operands ls (λ z n. h z (inr n)))

    object_value : (ls : List Bytes) → ls ≡ map (λ g. g.label) gs → Distinct (map label_id ls) → Typed slots (operates defs number u (op.MakeObject ls) (object_operands defs number (head defs u) frame ls)) end (Of (number u))
    object_value ls same d =
        subst (λ y. Typed slots (operates defs number u (op.MakeObject ls) (object_operands defs number y frame ls)) end (Of (number u))) (sym is)
        ((acts setting place_at_end u known (action.Operate (op.MakeObject ls)) (object_operands defs number (node.Object gs) frame ls) (map (λ l. field_want (find l (map (on_field number) gs))) ls) (
          number u,
          refl,
          (
            map (on_field number) gs,
            there setting u known.there (node.Object gs) is,
            d,
            all_among number ls gs (λ l n. subst (λ z. IsAmong l z) (sym same) n),
            refl,
          ),
        ) (operands ls (λ l n. subst (λ z. Among l z) same n))).typed (number u) (reflexive defs slots terms number graph (number u)))

  pub object_made : ArePublic fields → public_names q.1 ≡ public_fields fields → Distinct (map label_id (public_fields fields)) → BecomeObject defs slots terms number f c (written_fields e.types fields) q.1
  object_made public same d u known is =
      let stood = all_stood zero k fields m.given q.1 m.made m.bound public o.differ refl in
      let inner = subst (λ ps. IsKnown defs terms ps u) (sym end_is.parameters) known in
      whole.block_value defs slots terms number graph c end u known (arranged false (pieces defs number q.1) f).steps (operates defs number u (op.MakeObject (public_names q.1)) (object_operands defs number (head defs u) frame (public_names q.1)))
      (whole.walk defs slots terms number graph e fields f c fits false w q m kept o).declared
      (object_value stood u inner is (public_names q.1) (same ∙ sym (field_labels (with_list e.types fields) fields)) (subst (λ ls. Distinct (map label_id ls)) (sym same) d))

none_wanted : (u : Term) → None ≡ Some u → ⊥
none_wanted u h = cc

pub fields_are_objects : FieldsAreObjects
fields_are_objects defs slots terms number graph units scope fields ready d e f c at fit =
    let used = without (names_of_list fields) (in_declarations fields) in
    let here = fits_here defs slots terms number scope used (directly Other e) f c fit in
    let r : IsListReady defs slots terms number false e.types fields = subst (λ s. IsListReady defs slots terms number false s fields) (sym fit.scope_is) ready in
    let Whole = λ (q : Term × Declarations Note). ListMade defs slots terms number c.parameters false e fields None q × IsInOrder defs slots number (with_list e.types fields) fields q.1 in
    let Judged = FieldsJudged defs (directly Other e) at fields in
    let Goal = λ (q : Term × Declarations Note). BecomeObject defs slots terms number f c (written_fields scope fields) q.1 in
    more defs terms (PublicFields fields) (λ u. ArePublic fields) (λ u. Yields defs terms Judged Goal) (all_public defs terms fields) (λ u public.
    more defs terms Judged (λ q. Whole q × (public_names q.1 ≡ public_fields fields)) Goal
    (both defs terms Judged Whole (λ q. public_names q.1 ≡ public_fields fields)
    (both defs terms Judged (ListMade defs slots terms number c.parameters false e fields None) (λ q. IsInOrder defs slots number (with_list e.types fields) fields q.1)
    (lists_are_made defs slots terms number graph units c.parameters at false None (λ z h. absurd (none_wanted z h)) e here.types here.bounds fields r.gathers r.ready) (r.in_order e refl at None))
    (names_stay defs terms e at fields)) (λ q i.
    subst (λ s. BecomeObject defs slots terms number f c (written_fields s fields) q.1) fit.scope_is
    (object_made defs slots terms number graph units e fields f c here None q i.0.0 (whole.nested_kept defs slots terms number f c fields i.0.0.given r.nested) i.0.1 public i.1 d)))
