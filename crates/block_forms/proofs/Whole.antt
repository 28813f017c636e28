-- A whole list that was judged: its end, where all of its names stand, and a block of its declarations.
use Rattle.std.proofs.Common.{◌≡◌, ℕ, zero, suc, ◌<◌, Bool, true, false, List, [], ◌∷◌, length, map, Option, refl, ap, subst}
use Rattle.mo_types.specs.declared.node.TypeId.{TypeId}
use Rattle.mo_types.specs.Graph.{Slot}
use Rattle.subtype_laws.specs.Reached.{Among}
use Rattle.typed_tree.specs.declared.expression.Form.TheOpen as F
use Rattle.typed_tree.specs.declared.expression.Step.{Step}
use Rattle.typed_tree.specs.declared.expression.TypedExpression.{TypedExpression}
use Rattle.typed_tree.specs.ActionTypes as typed
use Rattle.typed_tree.specs.Placing.{Declared}
use Rattle.typed_tree.specs.Typing.{Typed}
use Rattle.typed_tree.specs.TypingLaws.{form_typing}
use Rattle.typed_tree.specs.Wants.{Anything, Of}
use Rattle.typed_tree.specs.WellTyped.{AllDeclare}
use Rattle.typing_rules.specs.AbstractSyntax.{Bytes, Declaration, Declarations}
use Rattle.typing_rules.specs.AbstractSyntax as p
use Rattle.typing_rules.specs.AsyncPlaces.{Other}
use Rattle.typing_rules.specs.Contexts.{Scope, Context, directly, with_values}
use Rattle.typing_rules.specs.DeclaredTypes.{with_list}
use Rattle.typing_rules.specs.Definitions.{Definitions}
use Rattle.typing_rules.specs.Lists.{Entry as Given}
use Rattle.typing_rules.specs.Terms.{Term}
use Rattle.typing_rules.specs.TypedTrees.{Note}
use Rattle.typing_rules.specs.TypeScopes.{TypeScope}
use Rattle.desugaring.specs.Expressions.{pieces}
use Rattle.desugaring.specs.FreeNames.{names_of_list, in_declarations, without}
use Rattle.desugaring.specs.Frames.{Frame}
use Rattle.desugaring.specs.Nodes.{at}
use Rattle.desugaring.specs.Pieces.{arranged}
use Rattle.desugaring_laws.specs.GraphOf.{IsGraphOf}
use Rattle.desugaring_laws.specs.Known.{IsKnown}
use Rattle.expression_laws.specs.Fitting.{Fits}
use Rattle.expression_laws.specs.Results.{GivesValue}
use Rattle.expression_laws.proofs.Trees.{node, scope_of, value_node}
use Rattle.list_laws.specs.Facts.{Fact, FunctionBefore, At, scope_at}
use Rattle.list_laws.specs.Laws.{Ends, Walked}
use Rattle.list_laws.proofs.Stages.{block_of_declared}
use Rattle.declaration_laws.proofs.Facts.{around_fits}
use Rattle.block_laws.specs.Lists.{AreMade, IsKept, AreKept, ListMade, in_scope, behind}
use Rattle.block_laws.specs.Order.{Reaches, IsInOrder, facts_of}
use Rattle.block_forms.specs.Blocks.{IsNested, AreNested}
use Rattle.block_laws.proofs.Keeping.{Defined, AllBindOnly, AreApart}
use Rattle.block_laws.proofs.Naming.{AllBoundIn, defined_named, facts_apart, functions_apart, facts_bound}
use Rattle.block_laws.proofs.Walking.{not_bound, walked}
use Rattle.block_laws.proofs.Whole.{all_bind_only}
use Rattle.block_forms.proofs.Arranged.{no_last}
use Rattle.block_forms.proofs.AtEnd.{around_end}

-- a block behind whose declarations its value is typed
pub block_value : (defs : Definitions) (slots : List Slot) (terms : List Term) (number : Term → TypeId) → IsGraphOf defs slots terms number → (c end : typed.Context) (u : Term) → IsKnown defs terms c.parameters u → (ss : List Step) (x : TypedExpression)
    → AllDeclare slots c ss end → Typed slots x end (Of (number u)) → GivesValue defs slots terms number c u (at defs number u (F.Block ss x))
block_value defs slots terms number graph c end u k ss x h i =
    let b : form_typing slots (F.Block ss x) c (Of (number u)) = (number u, refl, block_of_declared slots ss x c end (Of (number u)) h i) in record {
      known = k;
      typed = value_node defs slots terms number graph c u k (F.Block ss x) b;
      unasked = node defs slots terms number graph c u (scope_of defs slots terms number graph c u k) (F.Block ss x) (Of (number u)) Anything refl b tt;
    }

-- a list that is no actor's has no stable variables
one_kept : (defs : Definitions) (slots : List Slot) (terms : List Term) (number : Term → TypeId) (f : Frame) (c : typed.Context) (d : Declaration ℕ) (one : Given) → IsNested d → IsKept defs slots terms number f c d one
one_kept defs slots terms number f c (p.Let q a) one h = tt
one_kept defs slots terms number f c (p.Var false x u a) one h = tt
one_kept defs slots terms number f c (p.Var true x u a) one h = absurd h
one_kept defs slots terms number f c (p.Func x g body) one h = tt
one_kept defs slots terms number f c (p.Method query context x g body) one h = tt
one_kept defs slots terms number f c (p.System x body) one h = tt
one_kept defs slots terms number f c (p.TypeAlias x parameters u) one h = tt
one_kept defs slots terms number f c (p.Class x g fields) one h = tt
one_kept defs slots terms number f c (p.NamedObject x fields) one h = tt
one_kept defs slots terms number f c (p.Evaluate a) one h = tt

pub nested_kept : (defs : Definitions) (slots : List Slot) (terms : List Term) (number : Term → TypeId) (f : Frame) (c : typed.Context) (ds : Declarations ℕ) (given : List Given) → AreNested ds → AreKept defs slots terms number f c ds given
nested_kept defs slots terms number f c p.End given h = tt
nested_kept defs slots terms number f c (p.Then public n d rest) [] h = tt
nested_kept defs slots terms number f c (p.Then public n d rest) (one ∷ ones) h = (one_kept defs slots terms number f c d one h.0, nested_kept defs slots terms number f c rest ones h.1)

-- as many facts as pieces
pub many_facts : (defs : Definitions) (slots : List Slot) (terms : List Term) (number : Term → TypeId) (vs : List ℕ) (last : Context) (value : Bool) (e : Context) (w : Option Term) (s : TypeScope) (all : List Declared) (ds : Declarations ℕ) (given : List Given)
    (made : Declarations Note) → AreMade defs slots terms number vs last value e ds w given made → length (pieces defs number made) ≡ length (facts_of slots number s all ds made given)
many_facts defs slots terms number vs last value e w s all p.End [] p.End m = refl
many_facts defs slots terms number vs last value e w s all p.End [] (p.Then public n d bs) m = absurd m
many_facts defs slots terms number vs last value e w s all p.End (one ∷ ones) made m = absurd m
many_facts defs slots terms number vs last value e w s all (p.Then public n d rest) [] made m = absurd m
many_facts defs slots terms number vs last value e w s all (p.Then public n d rest) (one ∷ ones) p.End m = absurd m
many_facts defs slots terms number vs last value e w s all (p.Then public n d rest) (one ∷ ones) (p.Then public_too l b bs) m = ap suc (many_facts defs slots terms number vs last value (with_values one.scope e) w s all rest ones bs m.2)

module _ (defs : Definitions) (slots : List Slot) (terms : List Term) (number : Term → TypeId) (graph : IsGraphOf defs slots terms number) (e : Context) (ds : Declarations ℕ) (f : Frame) (c : typed.Context)
    (fits : Fits defs slots terms number e.types (without (names_of_list ds) (in_declarations ds)) (directly Other e) f c) (value : Bool) (w : Option Term) (q : Term × Declarations Note)
    (m : ListMade defs slots terms number c.parameters value e ds w q) (kept : AreKept defs slots terms number f c ds m.given) (o : IsInOrder defs slots number (with_list e.types ds) ds q.1) where
  abbrev pub known : Context
  known = in_scope e ds

  abbrev pub base : Scope
  base = (in_scope e ds).values

  abbrev pub all : List Declared
  all = map (λ b. b.declared) (pieces defs number q.1)

  abbrev pub outer : List Bytes
  outer = without (names_of_list ds) (in_declarations ds)

  abbrev pub facts : List Fact
  facts = facts_of slots number (with_list e.types ds) all ds q.1 m.given

  abbrev pub last : Context
  last = directly Other (record (in_scope e ds) { values = behind m.given (in_scope e ds).values })

  pub only : AllBindOnly facts
  only = all_bind_only defs slots terms number c.parameters last value w (in_scope e ds) all (in_scope e ds).values ds m.given q.1 m.made

  pub apart : AreApart facts
  apart = facts_apart slots number (with_list e.types ds) all ds q.1 m.given o.differ

  pub outside : (y : Bytes) → Among y outer → Defined y facts → ⊥
  outside y i n = not_bound (names_of_list ds) (in_declarations ds) y i (defined_named slots number (with_list e.types ds) all ds q.1 m.given y n)

  pub functions : (k : ℕ) (y : Bytes) → FunctionBefore k y facts → Defined y facts → ⊥
  functions = functions_apart slots number (with_list e.types ds) all ds q.1 m.given o.differ

  pub bound : AllBoundIn base facts
  bound = facts_bound slots number (with_list e.types ds) all ds q.1 m.given o.differ e.values

  pub many : length (pieces defs number q.1) ≡ length facts
  many = many_facts defs slots terms number c.parameters last value (in_scope e ds) w (with_list e.types ds) all ds m.given q.1 m.made

  inside : Fits defs slots terms number (with_list e.types ds) [] (directly Other (in_scope e ds)) f c
  inside = record {
    names = λ x n b h. absurd n;
    labels = fits.labels;
    returns = fits.returns;
    options = fits.options;
    body_is = fits.body_is;
    types = m.fine;
    bounds = fits.bounds;
    scope_is = refl;
  }

  abbrev Stage : ℕ → ℕ → Frame → typed.Context → Type 0
  Stage = At defs slots terms number e.body (in_scope e ds).values f c outer facts

  -- its declarations without a value
  pub walk : Walked slots (pieces defs number q.1) (At defs slots terms number e.body (in_scope e ds).values f c outer facts) (Of (number q.0)) (arranged false (pieces defs number q.1) f) c
  walk = walked defs slots terms number graph e ds f c fits value w q m kept o false

  abbrev pub end_frame : Frame
  end_frame = (arranged false (pieces defs number q.1) f).frame

  pub end_is : At defs slots terms number e.body (in_scope e ds).values f c outer facts (suc (length facts)) (length facts) end_frame walk.end
  end_is =
      subst (λ n. At defs slots terms number e.body (in_scope e ds).values f c outer facts (suc n) n end_frame walk.end) many
      (subst (λ z. Ends slots (pieces defs number q.1) (At defs slots terms number e.body (in_scope e ds).values f c outer facts) (Of (number q.0)) z end_frame walk.end) (no_last all (pieces defs number q.1) zero (pieces defs number q.1) f) walk.ends)

  -- what the n-th declaration uses fits at the end as where that is judged
  pub fits_at : (n : ℕ) → n < length facts → (uses : List Bytes) → ((y : Bytes) → Among y uses → Reaches outer facts (suc n) n y)
      → Fits defs slots terms number (with_list e.types ds) uses (directly Other (record (in_scope e ds) { values = scope_at n facts base })) end_frame walk.end
  fits_at n h uses there =
      around_fits defs slots terms number (directly Other (in_scope e ds)) base f c outer facts inside uses (scope_at n facts base) end_frame walk.end
      (around_end defs slots terms number e.body base f c outer facts only apart outside functions end_frame walk.end end_is n h uses there)

  -- and where no name is used
  pub fits_none : Fits defs slots terms number (with_list e.types ds) [] (directly Other (in_scope e ds)) end_frame walk.end
  fits_none =
      around_fits defs slots terms number (directly Other (in_scope e ds)) base f c outer facts inside [] (in_scope e ds).values end_frame walk.end
      (record { stand = λ y n b h. absurd n; kept = end_is.kept; exits = end_is.exits; labels = end_is.labels; body_is = end_is.body_is; parameters = end_is.parameters })
