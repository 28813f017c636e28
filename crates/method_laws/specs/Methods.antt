-- Public and system functions of an actor, which stand behind its declarations.
use Rattle.std.specs.Prelude.{◌≡◌, ℕ, Bool, List, [], ◌++◌, map, Option, Some, None}
use Rattle.mo_types.specs.declared.node.Sort.TheVariants as sort
use Rattle.mo_types.specs.declared.node.TypeId.{TypeId}
use Rattle.mo_types.specs.Graph.{Slot, head_at}
use Rattle.mo_types.specs.Heads.{async_of}
use Rattle.subtype_laws.specs.Reached.{Among}
use Rattle.typed_tree.specs.declared.expression.Function.{roll-Function}
use Rattle.typed_tree.specs.ActionTypes as typed
use Rattle.typed_tree.specs.ActionTypes.{ResultOf}
use Rattle.typed_tree.specs.OperationTypes.{Distinct}
use Rattle.typed_tree.specs.Typing.{IsFunctionOf}
use Rattle.typed_tree.specs.Wants.{Want}
use Rattle.typed_tree.specs.WellTyped.{ContextNames}
use Rattle.typing_rules.specs.AbstractSyntax.{Bytes, Named, Pattern, Signature, Expression}
use Rattle.typing_rules.specs.AbstractSyntax as p
use Rattle.typing_rules.specs.Contexts.{Bound, Context, value_named}
use Rattle.typing_rules.specs.Definitions.{Definitions, unfolded}
use Rattle.typing_rules.specs.Expressions.{JudgeBody}
use Rattle.typing_rules.specs.Heads.{head, results}
use Rattle.typing_rules.specs.Lists.{Made}
use Rattle.typing_rules.specs.Nodes as counts
use Rattle.typing_rules.specs.Signatures.{async_term}
use Rattle.typing_rules.specs.Terms.{Term, unit}
use Rattle.typing_rules.specs.TypedTrees.{Note}
use Rattle.desugaring.specs.Expressions.{tree}
use Rattle.desugaring.specs.FreeNames.{names_in, names_in_each, occurring, without}
use Rattle.desugaring.specs.Frames.{Frame, in_function}
use Rattle.desugaring.specs.Programs.{parameters_of, result_term, method_sort, context_pattern, method_function}
use Rattle.desugaring_laws.specs.GraphOf.{IsGraphOf}
use Rattle.desugaring_laws.specs.Known.{IsKnown}
use Rattle.desugaring_laws.specs.Written.{PatternIsWritten}
use Rattle.desugaring_laws.specs.Yields.{Yields}
use Rattle.expression_laws.specs.Fitting.{Fits}
use Rattle.expression_laws.specs.Results.{AreTyped}
use Rattle.function_laws.specs.Laws.{AreParametersFine}
use Rattle.block_laws.specs.Lists.{method_term}

-- the names of the pattern of a context
abbrev pub names_in_context : {N : Type 0} → Option (Pattern N) → List Bytes
names_in_context None = []
names_in_context (Some q) = names_in q

-- a context as it is written
abbrev pub ContextIsWritten : Option (Pattern ℕ) → Type 0
ContextIsWritten None = Unit {0}
ContextIsWritten (Some q) = PatternIsWritten q

-- the names that the body of a public function uses from outside
abbrev pub method_uses : Option (Pattern ℕ) → Signature ℕ → Expression ℕ → List Bytes
method_uses context g body = without (names_in_context context ++ names_in_each g.parameters) (occurring body)

-- what is asked of the source of a public function besides its body: its characters can be written, the names of its context differ, and those of its parameters do
pub record IsMethodFine (context : Option (Pattern ℕ)) (g : Signature ℕ) : Type 0 where
  pub context_written : ContextIsWritten context
  pub parameters : AreParametersFine g.parameters
  pub context_distinct : Distinct (names_in_context context)

module _ (defs : Definitions) (slots : List Slot) (terms : List Term) (number : Term → TypeId) where
  -- what is around a function behind the declarations of an actor, where no name that it uses is one of a future
  pub record Behind (uses : List Bytes) (e : Context) : Type 0 where
    pub frame : Frame
    pub context : typed.Context
    pub parameters : context.parameters ≡ []
    pub fits : Fits defs slots terms number e.types uses e frame context
    pub plain : (x : Bytes) → Among x uses → (b : Bound) → value_named e x ≡ Some b → async_of (head defs b.type) ≡ None

  -- A public function, as it is written out, is typed at the type that its name has.
  pub record MethodTyped (uses : List Bytes) (e : Context) (query : Bool) (context : Option (Pattern Note)) (g : Signature Note) (body : p.Expression Note) (u : Term) (w : Behind uses e) : Type 0 where
    pub names : List (Want TypeId)
    pub result : TypeId
    pub context_names : ContextNames slots (context_pattern defs number context) names
    pub result_of : ResultOf (head_at slots) (map number (results (result_term u) (unfolded defs.types (result_term u)))) result
    pub function : IsFunctionOf slots (method_function defs number w.frame query context g body) w.context (record {
      sort = method_sort query;
      generics = [];
      context = names;
      parameters = map number (parameters_of u);
      result = result;
    })

  -- a public function of this name, which becomes one of its type
  abbrev pub MethodMade : List Bytes → Context → Bool → Named → Term → Made → Type 0
  MethodMade uses e query x u m = by m.0 m.1
    where
      by : Note → p.Declaration Note → Type 0
      by n (p.Method query' context y g body) = (query' ≡ query) × (y ≡ x) × (n.type ≡ u) × ((w : Behind uses e) → MethodTyped uses e query' context g body n.type w)
      by n _ = ⊥

  -- a system function of this name, which becomes one that gives ()
  abbrev pub SystemMade : List Bytes → Context → Named → Made → Type 0
  SystemMade uses e x m = by m.1
    where
      by : p.Declaration Note → Type 0
      by (p.System y body) = (y ≡ x) × ((w : Behind uses e) → IsFunctionOf slots
          (roll-Function (record { sort = sort.Local; type_parameters = []; nodes = counts.in_expression body; parameters = []; body = tree defs number (in_function [] w.frame) body })) w.context
          (record { sort = sort.Local; generics = []; context = []; parameters = []; result = number unit }))
      by _ = ⊥

-- A public function whose body becomes a typed tree wherever it stands becomes a typed function behind the declarations of its actor.
abbrev pub MethodsAreTyped : Type 0
MethodsAreTyped =
    (defs : Definitions) (slots : List Slot) (terms : List Term) (number : Term → TypeId) → IsGraphOf defs slots terms number → Among unit terms → (e : Context)
    → (n : ℕ) (made : List Made) (query : Bool) (context : Option (Pattern ℕ)) (x : Named) (g : Signature ℕ) (body : Expression ℕ) → IsMethodFine context g → IsKnown defs terms [] (async_term e.types g.result)
    → AreTyped defs slots terms number e.types body
    → Yields defs terms (JudgeBody defs e n (p.Method query context x g body) made) (λ q. (q.1 ≡ made) × MethodMade defs slots terms number (method_uses context g body) e query x (method_term e.types query g) q.0)

-- So does a system function.
abbrev pub SystemsAreTyped : Type 0
SystemsAreTyped =
    (defs : Definitions) (slots : List Slot) (terms : List Term) (number : Term → TypeId) → IsGraphOf defs slots terms number → Among unit terms → (e : Context)
    → (n : ℕ) (made : List Made) (x : Named) (body : Expression ℕ) → AreTyped defs slots terms number e.types body
    → Yields defs terms (JudgeBody defs e n (p.System x body) made) (λ q. (q.1 ≡ made) × SystemMade defs slots terms number (occurring body) e x q.0)
