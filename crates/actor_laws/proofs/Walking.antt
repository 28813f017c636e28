-- The declarations of an actor in the order of evaluation.
use Rattle.std.proofs.Common.{◌≡◌, ◌⊎◌, inl, inr, ℕ, zero, Bool, false, List, [], ◌∷◌, ◌++◌, length, map, Some, None, refl, subst}
use Rattle.mo_scopes.specs.Scopes.{named}
use Rattle.mo_types.specs.declared.node.TypeId.{TypeId}
use Rattle.mo_types.specs.Graph.{Slot}
use Rattle.subtype_laws.specs.Reached.{Among}
use Rattle.typed_tree.specs.declared.program.StableVariable.{StableVariable}
use Rattle.typed_tree.specs.ActionTypes as typed
use Rattle.typed_tree.specs.OperationTypes.{Distinct}
use Rattle.typed_tree.specs.Placing.{Declared}
use Rattle.typed_tree.specs.Wants.{Want, Of}
use Rattle.typed_tree.specs.WellTyped.{around}
use Rattle.typing_rules.specs.AbstractSyntax.{Bytes, Declaration, Declarations}
use Rattle.typing_rules.specs.AbstractSyntax as p
use Rattle.typing_rules.specs.AsyncPlaces.{Other}
use Rattle.typing_rules.specs.Contexts.{Bound, Scope, Context, directly}
use Rattle.typing_rules.specs.DeclaredTypes.{with_list}
use Rattle.typing_rules.specs.Definitions.{Definitions}
use Rattle.typing_rules.specs.Lists.{Entry as Given}
use Rattle.typing_rules.specs.Terms.{Term}
use Rattle.typing_rules.specs.TypedTrees.{Note}
use Rattle.typing_rules.specs.TypeScopes.{TypeScope}
use Rattle.desugaring.specs.Expressions.{pieces}
use Rattle.desugaring.specs.FreeNames.{names_of, names_of_list, in_declarations, declared, without}
use Rattle.desugaring.specs.Frames.{Frame}
use Rattle.desugaring.specs.Pieces.{arranged}
use Rattle.desugaring_laws.specs.GraphOf.{IsGraphOf}
use Rattle.expression_laws.specs.Fitting.{Fits}
use Rattle.expression_laws.proofs.Forms.{in_left, in_right}
use Rattle.list_laws.specs.Facts.{Fact, At, scope_at}
use Rattle.list_laws.specs.Laws.{Walked}
use Rattle.list_laws.specs.Standing.{StandsIn}
use Rattle.list_laws.proofs.Placed.{lists_are_typed}
use Rattle.block_laws.specs.Lists.{AreKept, AreMade, ListMade, in_scope, behind}
use Rattle.block_laws.specs.Order.{fact_of, facts_of, first_scope, others}
use Rattle.block_laws.proofs.Keeping.{evaluated_names, Defined, differ_apart, differ_behind}
use Rattle.block_laws.proofs.Naming.{defined_named, facts_apart, functions_apart, facts_bound}
use Rattle.block_laws.proofs.Walking.{not_bound}
use Rattle.block_laws.proofs.Whole.{facts_are, all_bind_only, behind_all}
use Rattle.method_laws.proofs.Entering.{among_split}
use Rattle.actor_laws.specs.Order.{public_functions, outer_of, IsActorInOrder, ActorsAreWalked}

-- the name of a public function
abbrev pub public_function : Declaration ℕ → List Bytes
public_function (p.Method query context x g body) = x.bytes ∷ []
public_function _ = []

pub split : (public : Bool) (n : ℕ) (d : Declaration ℕ) (rest : Declarations ℕ) (y : Bytes) → Among y (public_functions (p.Then public n d rest)) → Among y (public_function d) ⊎ Among y (public_functions rest)
split public n (p.Method query context x g body) rest y (inl e) = inl (inl e)
split public n (p.Method query context x g body) rest y (inr m) = inr m
split public n (p.Let q a) rest y m = inr m
split public n (p.Var stable x u a) rest y m = inr m
split public n (p.Func x g body) rest y m = inr m
split public n (p.System x body) rest y m = inr m
split public n (p.TypeAlias x ps u) rest y m = inr m
split public n (p.Class x g fields) rest y m = inr m
split public n (p.NamedObject x fields) rest y m = inr m
split public n (p.Evaluate a) rest y m = inr m

function_named : (d : Declaration ℕ) (y : Bytes) → Among y (public_function d) → Among y (names_of d)
function_named (p.Method query context x g body) y m = m
function_named (p.Let q a) y m = absurd m
function_named (p.Var stable x u a) y m = absurd m
function_named (p.Func x g body) y m = absurd m
function_named (p.System x body) y m = absurd m
function_named (p.TypeAlias x ps u) y m = absurd m
function_named (p.Class x g fields) y m = absurd m
function_named (p.NamedObject x fields) y m = absurd m
function_named (p.Evaluate a) y m = absurd m

pub functions_named : (ds : Declarations ℕ) (y : Bytes) → Among y (public_functions ds) → Among y (names_of_list ds)
functions_named p.End y m = absurd m
functions_named (p.Then public n d rest) y m = by (split public n d rest y m) (functions_named rest y) where
  by : Among y (public_function d) ⊎ Among y (public_functions rest) → (Among y (public_functions rest) → Among y (names_of_list rest)) → Among y (names_of_list (p.Then public n d rest))
  by (inl k) next = in_left (names_of d) (names_of_list rest) y (function_named d y k)
  by (inr k) next = in_right (names_of d) (names_of_list rest) y (next k)

module _ (slots : List Slot) (number : Term → TypeId) (s : TypeScope) (all : List Declared) where
  evaluated_of : (x : Declared) (d : Declaration ℕ) (z : Scope) (y : Bytes) → Among y (evaluated_names (fact_of slots number s all x d z)) → Among y (names_of d)
  evaluated_of x (p.Let q a) z y m = m
  evaluated_of x (p.Var stable v u a) z y m = m
  evaluated_of x (p.NamedObject v fields) z y m = m
  evaluated_of x (p.Func v g body) z y m = absurd m
  evaluated_of x (p.Class v g fields) z y m = absurd m
  evaluated_of x (p.Method query context v g body) z y m = absurd m
  evaluated_of x (p.System v body) z y m = absurd m
  evaluated_of x (p.TypeAlias v parameters u) z y m = absurd m
  evaluated_of x (p.Evaluate a) z y m = absurd m

  -- a public function is not evaluated
  not_both : (x : Declared) (d : Declaration ℕ) (z : Scope) (y : Bytes) → Among y (public_function d) → Among y (evaluated_names (fact_of slots number s all x d z)) → ⊥
  not_both x (p.Method query context v g body) z y m n = n
  not_both x (p.Let q a) z y m n = m
  not_both x (p.Var stable v u a) z y m n = m
  not_both x (p.Func v g body) z y m n = m
  not_both x (p.System v body) z y m n = m
  not_both x (p.TypeAlias v ps u) z y m n = m
  not_both x (p.Class v g fields) z y m n = m
  not_both x (p.NamedObject v fields) z y m n = m
  not_both x (p.Evaluate a) z y m n = m

  not_defined : (ds : Declarations ℕ) (made : Declarations Note) (given : List Given) → Distinct (names_of_list ds) → (y : Bytes) → Among y (public_functions ds) → Defined y (facts_of slots number s all ds made given) → ⊥
  not_defined p.End made given h y m n = absurd m
  not_defined (p.Then public i d rest) p.End given h y m n = absurd n
  not_defined (p.Then public i d rest) (p.Then public_too l b bs) given h y m n = by (split public i d rest y m) n (not_defined rest bs (others given) (differ_behind (names_of d) (names_of_list rest) h) y) where
    by : Among y (public_function d) ⊎ Among y (public_functions rest) → Among y (evaluated_names (fact_of slots number s all (declared b) d (first_scope given))) ⊎ Defined y (facts_of slots number s all rest bs (others given))
        → (Among y (public_functions rest) → Defined y (facts_of slots number s all rest bs (others given)) → ⊥) → ⊥
    by (inl k) (inl v) next = not_both (declared b) d (first_scope given) y k v
    by (inl k) (inr v) next = differ_apart (names_of d) (names_of_list rest) h y (function_named d y k) (defined_named slots number s all rest bs (others given) y v)
    by (inr k) (inl v) next = differ_apart (names_of d) (names_of_list rest) h y (evaluated_of (declared b) d (first_scope given) y v) (functions_named rest y k)
    by (inr k) (inr v) next = next k v

module _ (defs : Definitions) (slots : List Slot) (terms : List Term) (number : Term → TypeId) (graph : IsGraphOf defs slots terms number) (e : Context) (own : List Bytes) (ds : Declarations ℕ) (f : Frame) (of_own : Want TypeId) (methods : List (Want TypeId))
    (stable : List StableVariable) (fit : Fits defs slots terms number e.types [] (directly Other e) f (around slots of_own methods stable)) (q : Term × Declarations Note) (m : ListMade defs slots terms number [] false e ds None q)
    (kept : AreKept defs slots terms number f (around slots of_own methods stable) ds m.given)
    (stand : (y : Bytes) → Among y (outer_of own ds) → (b : Bound) → named (in_scope e ds).values y ≡ Some b → StandsIn defs slots terms number [] e.body f.names (around slots of_own methods stable).names y b)
    (o : IsActorInOrder defs slots number (with_list e.types ds) own ds q.1) where
  abbrev c : typed.Context
  c = around slots of_own methods stable

  abbrev pub all : List Declared
  all = map (λ b. b.declared) (pieces defs number q.1)

  abbrev pub facts : List Fact
  facts = facts_of slots number (with_list e.types ds) all ds q.1 m.given

  pub inside : Fits defs slots terms number (with_list e.types ds) [] (directly Other (in_scope e ds)) f (around slots of_own methods stable)
  inside = record { names = λ x n b h. absurd n; labels = fit.labels; returns = fit.returns; options = fit.options; body_is = fit.body_is; types = m.fine; bounds = fit.bounds; scope_is = refl }

  made : AreMade defs slots terms number [] (directly Other (record (in_scope e ds) { values = scope_at (length facts) facts (in_scope e ds).values })) false (in_scope e ds) ds None m.given q.1
  made =
      subst (λ z. AreMade defs slots terms number [] (directly Other (record (in_scope e ds) { values = z })) false (in_scope e ds) ds None m.given q.1)
      (behind_all defs slots terms number [] (directly Other (record (in_scope e ds) { values = behind m.given (in_scope e ds).values })) false None (in_scope e ds) all (in_scope e ds).values ds m.given q.1 m.made) m.made

  pub outside : (y : Bytes) → Among y (outer_of own ds) → Defined y facts → ⊥
  outside y i n = by (among_split (without (names_of_list ds) (own ++ in_declarations ds)) (public_functions ds) y i) where
    by : Among y (without (names_of_list ds) (own ++ in_declarations ds)) ⊎ Among y (public_functions ds) → ⊥
    by (inl k) = not_bound (names_of_list ds) (own ++ in_declarations ds) y k (defined_named slots number (with_list e.types ds) all ds q.1 m.given y n)
    by (inr k) = not_defined slots number (with_list e.types ds) all ds q.1 m.given o.differ y k n

  pub walked : Walked slots (pieces defs number q.1) (At defs slots terms number e.body (in_scope e ds).values f c (outer_of own ds) facts) (Of (number q.0)) (arranged false (pieces defs number q.1) f) c
  walked =
      lists_are_typed defs slots terms number e.body (in_scope e ds).values f c (outer_of own ds) facts (pieces defs number q.1) false (Of (number q.0))
      (facts_are defs slots terms number graph (in_scope e ds) (in_scope e ds).values f c (outer_of own ds) facts inside all (pieces defs number q.1) false false None q.0
      (all_bind_only defs slots terms number [] (directly Other (record (in_scope e ds) { values = scope_at (length facts) facts (in_scope e ds).values })) false None (in_scope e ds) all (in_scope e ds).values ds m.given q.1 made)
      (facts_apart slots number (with_list e.types ds) all ds q.1 m.given o.differ) outside (functions_apart slots number (with_list e.types ds) all ds q.1 m.given o.differ)
      (facts_bound slots number (with_list e.types ds) all ds q.1 m.given o.differ e.values) zero (in_scope e ds).values refl ds m.given q.1 None made m.known (o.used m.given) refl m.type_is kept) stand

pub actors_are_walked : ActorsAreWalked
actors_are_walked defs slots terms number graph e own ds f of_own methods stable fit q m kept stand o = walked defs slots terms number graph e own ds f of_own methods stable fit q m kept stand o
