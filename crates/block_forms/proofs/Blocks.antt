-- Blocks.
use Rattle.std.proofs.Common.{◌≡◌, ℕ, zero, suc, ◌<◌, Bool, true, List, [], ◌∷◌, ◌++◌, length, map, Option, Some, None, refl, sym, ap, ◌∙◌, subst}
use Rattle.mo_types.specs.declared.node.TypeId.{TypeId}
use Rattle.mo_types.specs.Graph.{Slot}
use Rattle.subtype_laws.specs.Reached.{Among}
use Rattle.typed_tree.specs.declared.expression.Form.TheOpen as F
use Rattle.typed_tree.specs.declared.expression.TypedExpression.{TypedExpression}
use Rattle.typed_tree.specs.declared.literal.Literal.TheVariants as literal
use Rattle.typed_tree.specs.ActionTypes as typed
use Rattle.typed_tree.specs.Placing.{Declared}
use Rattle.typed_tree.specs.Typing.{Typed}
use Rattle.typed_tree.specs.Wants.{Of}
use Rattle.typing_rules.specs.AbstractSyntax.{Bytes, Declaration, Declarations}
use Rattle.typing_rules.specs.AbstractSyntax as p
use Rattle.typing_rules.specs.AsyncPlaces.{Other}
use Rattle.typing_rules.specs.Contexts.{Scope, Context, directly}
use Rattle.typing_rules.specs.DeclaredTypes.{with_list}
use Rattle.typing_rules.specs.Definitions.{Definitions}
use Rattle.typing_rules.specs.Lists.{Entry as Given, of_expression}
use Rattle.typing_rules.specs.Terms.{Term, unit}
use Rattle.typing_rules.specs.TypedTrees.{Note}
use Rattle.typing_rules.specs.TypeScopes.{TypeScope}
use Rattle.desugaring.specs.Expressions.{becomes, pieces, block_of, or_else}
use Rattle.desugaring.specs.FreeNames.{names_of_list, occurring, in_declarations, declared, without}
use Rattle.desugaring.specs.Frames.{Frame}
use Rattle.desugaring.specs.Nodes.{unit_value}
use Rattle.desugaring.specs.Pieces.{Becomes, AStep, AFunction, AnExpression, Nothing, arranged}
use Rattle.desugaring_laws.specs.GraphOf.{IsGraphOf}
use Rattle.desugaring_laws.specs.Known.{IsKnown}
use Rattle.desugaring_laws.proofs.Graph.{reflexive}
use Rattle.desugaring_laws.proofs.Patterns.{unit_fine}
use Rattle.desugaring_laws.proofs.Yielding.{more}
use Rattle.expression_laws.specs.Fitting.{Fits}
use Rattle.expression_laws.specs.Results.{IsBelowWanted, GivesValue}
use Rattle.expression_laws.proofs.BoundNames.{both}
use Rattle.expression_laws.proofs.Ending.{Setting}
use Rattle.expression_laws.proofs.Simple.{unit_there}
use Rattle.expression_laws.proofs.Trees.{value_node}
use Rattle.list_laws.specs.Facts.{Fact, At, scope_at}
use Rattle.list_laws.specs.Laws.{Ends}
use Rattle.declaration_laws.specs.Made.{Standing, ValueMade}
use Rattle.declaration_laws.specs.Objects.{BlockJudged}
use Rattle.block_laws.specs.Bound.{IsBoundSo, AreBoundSo}
use Rattle.block_laws.specs.Lists.{EndsAs, IsMade, AreMade, AreKept, ListMade, in_scope, last_of}
use Rattle.block_laws.specs.Order.{Reaches, UsesInOrder, AllInOrder, IsInOrder, fact_of, facts_of}
use Rattle.block_laws.proofs.Facts.{dropped, nth_dropped, scope_next}
use Rattle.block_laws.proofs.Listing.{lists_are_made}
use Rattle.block_laws.proofs.Walking.{walked}
use Rattle.block_laws.proofs.Whole.{scope_is}
use Rattle.block_forms.specs.Blocks.{IsListReady, ListsAreBlocks}
use Rattle.block_forms.proofs.Arranged.{ended}
use Rattle.block_forms.proofs.AtEnd.{below_length}
use Rattle.block_forms.proofs.Whole as whole

some_so : {A : Type 0} (o : Option A) (u : A) → o ≡ None → o ≡ Some u → ⊥
some_so None u h i = cc
some_so (Some z) u h i = cc

module _ (defs : Definitions) (slots : List Slot) (terms : List Term) (number : Term → TypeId) (graph : IsGraphOf defs slots terms number) (units : Among unit terms) (e : Context) (ds : Declarations ℕ) (f : Frame) (c : typed.Context)
    (fits : Fits defs slots terms number e.types (without (names_of_list ds) (in_declarations ds)) (directly Other e) f c) (w : Option Term) (q : Term × Declarations Note)
    (m : ListMade defs slots terms number c.parameters true e ds w q) (kept : AreKept defs slots terms number f c ds m.given) (o : IsInOrder defs slots number (with_list e.types ds) ds q.1) where
  abbrev facts : List Fact
  facts = whole.facts defs slots terms number graph e ds f c fits true w q m kept o

  abbrev all : List Declared
  all = whole.all defs slots terms number graph e ds f c fits true w q m kept o

  abbrev outer : List Bytes
  outer = whole.outer defs slots terms number graph e ds f c fits true w q m kept o

  abbrev k : Context
  k = in_scope e ds

  abbrev last : Context
  last = whole.last defs slots terms number graph e ds f c fits true w q m kept o

  end_is : At defs slots terms number e.body (in_scope e ds).values f c outer facts (suc (length facts)) (length facts) (whole.end_frame defs slots terms number graph e ds f c fits true w q m kept o) (whole.walk defs slots terms number graph e ds f c fits true w q m kept o).end
  end_is = whole.end_is defs slots terms number graph e ds f c fits true w q m kept o

  -- ---- the type of the list

  abbrev Known : Term → Type 0
  Known u = IsKnown defs terms c.parameters u × IsBelowWanted defs slots terms number w u

  value_at : (n : ℕ) (v : Scope) → v ≡ scope_at n facts k.values → n < length facts → (uses : List Bytes) → ((y : Bytes) → Among y uses → Reaches outer facts (suc n) n y) → (z : Option Term) (b : Becomes)
      → ValueMade defs slots terms number c.parameters uses (directly Other (record k { values = v })) w z b → (u : Term) → z ≡ Some u → Known u
  value_at n v i h uses there None b j u r = cc
  value_at n v i h uses there (Some z) (AnExpression x) j u r =
      let s : Standing defs slots terms number c.parameters uses (directly Other (record k { values = scope_at n facts k.values })) = record {
        frame = whole.end_frame defs slots terms number graph e ds f c fits true w q m kept o;
        context = (whole.walk defs slots terms number graph e ds f c fits true w q m kept o).end;
        parameters = end_is.parameters;
        fits = whole.fits_at defs slots terms number graph e ds f c fits true w q m kept o n h uses there;
      } in
      let g : IsBelowWanted defs slots terms number w z × GivesValue defs slots terms number s.context z (x s.frame) =
      (subst (λ y. ValueMade defs slots terms number c.parameters uses (directly Other (record k { values = y })) w (Some z) (AnExpression x)) i j) s in
      let t : z ≡ u = cc in
      subst (λ y. Known y) t (subst (λ ps. IsKnown defs terms ps z) end_is.parameters g.1.known, g.0)
  value_at n v i h uses there (Some z) (AStep binds step) j u r = absurd j
  value_at n v i h uses there (Some z) (AFunction y g) j u r = absurd j
  value_at n v i h uses there (Some z) Nothing j u r = absurd j

  -- of the last declaration
  last_one : (n : ℕ) (v : Scope) → v ≡ scope_at n facts k.values → n < length facts → (d : Declaration ℕ) (x : Declared) → UsesInOrder outer all facts n x d → (one : Given) (b : Becomes)
      → IsMade defs slots terms number c.parameters last (record k { values = v }) d w one b → IsBoundSo k.types d one → (u : Term) → one.value ≡ Some u → Known u
  last_one n v i h (p.Let r a) x there one b j g u s = absurd (some_so one.value u g.0 s)
  last_one n v i h (p.Var stable y z a) x there one b j g u s = absurd (some_so one.value u g.0 s)
  last_one n v i h (p.Evaluate a) x there one b j g u s = value_at n v i h (occurring a) there one.value b j.0 u s
  last_one n v i h (p.Func y z body) x there one b j g u s = absurd (some_so one.value u g s)
  last_one n v i h (p.Method query context y z body) x there one b j g u s = absurd (some_so one.value u g s)
  last_one n v i h (p.System y body) x there one b j g u s = absurd (some_so one.value u g s)
  last_one n v i h (p.TypeAlias y parameters z) x there one b j g u s = absurd (some_so one.value u g s)
  last_one n v i h (p.Class y z fields) x there one b j g u s = absurd (some_so one.value u g s)
  last_one n v i h (p.NamedObject y fields) x there one b j g u s = absurd (some_so one.value u g.0 s)

  last_value : (n : ℕ) (v : Scope) → v ≡ scope_at n facts k.values → (public : Bool) (j : ℕ) (d : Declaration ℕ) (rest : Declarations ℕ) (one : Given) (ones : List Given) (public_too : Bool) (l : Note) (b : Declaration Note) (bs : Declarations Note)
      → AreMade defs slots terms number c.parameters last true (record k { values = v }) (p.Then public j d rest) w (one ∷ ones) (p.Then public_too l b bs) → AreBoundSo k.types (p.Then public j d rest) (one ∷ ones)
      → AllInOrder outer all facts n (p.Then public j d rest) (p.Then public_too l b bs) → dropped n facts ≡ facts_of slots number k.types all (p.Then public j d rest) (p.Then public_too l b bs) (one ∷ ones)
      → (u : Term) → last_of one.value ones ≡ Some u → Known u
  last_value n v i public j d p.End one [] public_too l b p.End g s there h u r =
      last_one n v i (below_length n facts (fact_of slots number k.types all (declared b) d one.scope) [] h) d (declared b) there.0 one (becomes defs number l b) g.1 s.0 u r
  last_value n v i public j d p.End one [] public_too l b (p.Then public' l' b' bs) g s there h u r = absurd g.2
  last_value n v i public j d p.End one (two ∷ ones) public_too l b bs g s there h u r = absurd s.1
  last_value n v i public j d (p.Then public' j' d' rest) one [] public_too l b bs g s there h u r = absurd s.1
  last_value n v i public j d (p.Then public' j' d' rest) one (two ∷ ones) public_too l b p.End g s there h u r = absurd g.2
  last_value n v i public j d (p.Then public' j' d' rest) one (two ∷ ones) public_too l b (p.Then public_too' l' b' bs) g s there h u r =
      let x = fact_of slots number k.types all (declared b) d one.scope in
      let t = nth_dropped n facts x (facts_of slots number k.types all (p.Then public' j' d' rest) (p.Then public_too' l' b' bs) (two ∷ ones)) h in
      last_value (suc n) (one.scope ++ v)
      (ap (λ z. one.scope ++ z) i
      ∙ (ap (λ z. z ++ scope_at n facts k.values) (scope_is defs slots terms number c.parameters last true w k all v d (of_expression true (p.Then public' j' d' rest) w) one (declared b) (becomes defs number l b) g.1) ∙ sym (scope_next n facts k.values x t.0)))
      public' j' d' rest two ones public_too' l' b' bs g.2 s.1 there.1 t.1 u r

  given_value : (u : Term) → last_of None m.given ≡ Some u → Known u
  given_value u r = by ds q.1 m.given m.made m.bound (o.used m.given) refl r where
    by : (xs : Declarations ℕ) (made : Declarations Note) (given : List Given) → AreMade defs slots terms number c.parameters last true k xs w given made → AreBoundSo k.types xs given → AllInOrder outer all facts zero xs made
        → facts ≡ facts_of slots number k.types all xs made given → last_of None given ≡ Some u → Known u
    by p.End made [] g s there h t = cc
    by p.End made (one ∷ ones) g s there h t = absurd s
    by (p.Then public j d rest) made [] g s there h t = absurd s
    by (p.Then public j d rest) p.End (one ∷ ones) g s there h t = absurd g
    by (p.Then public j d rest) (p.Then public_too l b bs) (one ∷ ones) g s there h t = last_value zero k.values refl public j d rest one ones public_too l b bs g s there h u t

  -- ---- the list as a block

  no_value : (arranged true (pieces defs number q.1) f).last ≡ None → last_of None m.given ≡ None
  no_value r = by ds q.1 m.given m.made m.bound r where
    by : (xs : Declarations ℕ) (made : Declarations Note) (given : List Given) → AreMade defs slots terms number c.parameters last true k xs w given made → AreBoundSo k.types xs given → (arranged true (pieces defs number made) f).last ≡ None
        → last_of None given ≡ None
    by p.End made [] g s t = refl
    by p.End made (one ∷ ones) g s t = absurd s
    by (p.Then public j d rest) made [] g s t = absurd s
    by (p.Then public j d rest) p.End (one ∷ ones) g s t = absurd g
    by (p.Then public j d rest) (p.Then public_too l b bs) (one ∷ ones) g s t =
        let ps = pieces defs number (p.Then public_too l b bs) in
        ended defs slots terms number c.parameters last w (map (λ b. b.declared) ps) ps k public j d rest one ones public_too l b bs g s zero f t

  type_known : (z : Option Term) → last_of None m.given ≡ z → EndsAs defs slots terms number z w q.0 → Known q.0
  type_known (Some u) r i = subst (λ y. Known y) (sym i) (given_value u r)
  type_known None r i = (subst (λ y. IsKnown defs terms c.parameters y) (sym i.0) (record { there = units; fine = unit_fine defs c.parameters }), subst (λ y. IsBelowWanted defs slots terms number w y) (sym i.0) i.1)

  is_unit : (z : Option Term) → z ≡ None → EndsAs defs slots terms number z w q.0 → q.0 ≡ unit
  is_unit None r i = i.0
  is_unit (Some u) r i = cc

  abbrev setting : Setting
  setting = record { defs = defs; slots = slots; terms = terms; number = number; graph = graph; units = units; scope = e.types }

  unit_typed : (d : typed.Context) → Typed slots (unit_value defs number) d (Of (number unit))
  unit_typed d =
      value_node defs slots terms number graph d unit (record { there = units; fine = unit_fine defs d.parameters }) (F.Constant literal.Unit) (number unit, refl, unit_there setting) (number unit) (reflexive defs slots terms number graph (number unit))

  pub block_typed : IsBelowWanted defs slots terms number w q.0 × GivesValue defs slots terms number c q.0 (block_of defs number q.0 (arranged true (pieces defs number q.1) f))
  block_typed =
      let i = type_known (last_of None m.given) refl m.type_is in
      let h = walked defs slots terms number graph e ds f c fits true w q m kept o true in
      let x = arranged true (pieces defs number q.1) f in (
        i.1,
        whole.block_value defs slots terms number graph c h.end q.0 i.0 x.steps (or_else (unit_value defs number) x.last) h.declared (by x.last refl h.end x.frame h.ends),
      )
    where
      by : (z : Option TypedExpression) → (arranged true (pieces defs number q.1) f).last ≡ z → (d : typed.Context) (g : Frame) → Ends slots (pieces defs number q.1) (At defs slots terms number e.body (in_scope e ds).values f c outer facts) (Of (number q.0)) z g d
          → Typed slots (or_else (unit_value defs number) z) d (Of (number q.0))
      by (Some x) r d g t = t
      by None r d g t = subst (λ y. Typed slots (unit_value defs number) d (Of (number y))) (sym (is_unit (last_of None m.given) (no_value r) m.type_is)) (unit_typed d)

-- it stands in this scope of types
pub fits_here : (defs : Definitions) (slots : List Slot) (terms : List Term) (number : Term → TypeId) (scope : TypeScope) (used : List Bytes) (e : Context) (f : Frame) (c : typed.Context) → Fits defs slots terms number scope used e f c
    → Fits defs slots terms number e.types used e f c
fits_here defs slots terms number scope used e f c fit = record { names = fit.names; labels = fit.labels; returns = fit.returns; options = fit.options; body_is = fit.body_is; types = fit.types; bounds = fit.bounds; scope_is = refl }

pub lists_are_blocks : ListsAreBlocks
lists_are_blocks defs slots terms number graph units scope ds ready e f c at fit w known =
    let here = fits_here defs slots terms number scope (without (names_of_list ds) (in_declarations ds)) (directly Other e) f c fit in
    let r : IsListReady defs slots terms number true e.types ds = subst (λ s. IsListReady defs slots terms number true s ds) (sym fit.scope_is) ready in
    more defs terms (BlockJudged defs (directly Other e) at ds w) (λ q. ListMade defs slots terms number c.parameters true e ds w q × IsInOrder defs slots number (with_list e.types ds) ds q.1)
    (λ q. IsBelowWanted defs slots terms number w q.0 × GivesValue defs slots terms number c q.0 (block_of defs number q.0 (arranged true (pieces defs number q.1) f)))
    (both defs terms (BlockJudged defs (directly Other e) at ds w) (ListMade defs slots terms number c.parameters true e ds w) (λ q. IsInOrder defs slots number (with_list e.types ds) ds q.1)
    (lists_are_made defs slots terms number graph units c.parameters at true w known e here.types here.bounds ds r.gathers r.ready) (r.in_order e refl at w)) (λ q i.
    block_typed defs slots terms number graph units e ds f c here w q i.0 (whole.nested_kept defs slots terms number f c ds i.0.given r.nested) i.1)
