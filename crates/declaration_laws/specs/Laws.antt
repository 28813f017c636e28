-- Declarations of lists are written out to typed ones.
use Rattle.std.specs.Prelude.{◌≡◌, ◌++◌, ℕ, suc, Bool, List, [], ◌∷◌, length, map, Option, Some, None, true, false, slice_get}
use Rattle.mo_scopes.specs.Scopes.{named}
use Rattle.mo_types.specs.declared.node.Sort.TheVariants as sort
use Rattle.mo_types.specs.declared.node.TypeId.{TypeId}
use Rattle.mo_types.specs.Graph.{Slot, head_at}
use Rattle.subtype_laws.specs.Reached.{Among}
use Rattle.typed_tree.specs.declared.expression.Function.{Function}
use Rattle.typed_tree.specs.declared.expression.Step.{Step}
use Rattle.typed_tree.specs.declared.expression.TypedExpression.{TypedExpression}
use Rattle.typed_tree.specs.ActionTypes as typed
use Rattle.typed_tree.specs.Placing.{Declared, place}
use Rattle.typed_tree.specs.Typing.{Signature, generic as stands_for}
use Rattle.typed_tree.specs.Wants.{Want, Of, KeptOf}
use Rattle.typing_rules.specs.AbstractSyntax.{Bytes, Named, Pattern, TypeNode, Expression, Declarations}
use Rattle.typing_rules.specs.AbstractSyntax as p
use Rattle.typing_rules.specs.AsyncPlaces.{Other}
use Rattle.typing_rules.specs.Contexts.{Bound, Scope, Context, variable, generic, directly}
use Rattle.typing_rules.specs.DeclaredTypes.{within, parameter_terms, function_term, class_term}
use Rattle.typing_rules.specs.Definitions.{Definitions}
use Rattle.typing_rules.specs.Expressions.{JudgeOne, JudgeBody}
use Rattle.typing_rules.specs.Gathered.{of_generics}
use Rattle.typing_rules.specs.Lists.{Made}
use Rattle.typing_rules.specs.Signatures.{SignatureOf}
use Rattle.typing_rules.specs.Terms.{Term, Terms, unit, listed}
use Rattle.typing_rules.specs.Terms as t
use Rattle.typing_rules.specs.TypeScopes.{TypeScope, names_of, places_of, term_or}
use Rattle.desugaring.specs.Expressions.{becomes}
use Rattle.desugaring.specs.Frames.{Entry, Frame, kept_at}
use Rattle.desugaring.specs.FreeNames.{names_in, occurring, in_declaration}
use Rattle.desugaring.specs.Pieces.{AStep, AFunction, AnExpression}
use Rattle.desugaring_laws.specs.GraphOf.{IsGraphOf}
use Rattle.desugaring_laws.specs.Known.{IsKnown}
use Rattle.desugaring_laws.specs.Scopes.{IsScopeFine, AreBoundsIn}
use Rattle.desugaring_laws.specs.Yields.{Yields}
use Rattle.expression_laws.specs.Fitting.{Fits}
use Rattle.expression_laws.specs.Laws.{IsPatternFine}
use Rattle.expression_laws.specs.Results.{AreTyped, IsWantFine}
use Rattle.function_laws.specs.Laws.{AreParametersFine}
use Rattle.list_laws.specs.Facts.{Fact, scope_at, Reach, StepFact, FunctionFact, ValueFact}
use Rattle.scope_laws.specs.Gathers.{Gathers}
use Rattle.declaration_laws.specs.Made.{AreFresh, AreThere, FunctionMade, StepMade, StableMade, ValueMade, OneMade}

-- the type parameters of a function
abbrev pub own_of : p.Signature ℕ → List ℕ
own_of g = places_of (names_of g.generics)

-- a name is bound to a function of this type, with these type parameters, each of which was met
pub record IsBoundTo (defs : Definitions) (terms : List Term) (vs : List ℕ) (x : Named) (gs : List ℕ) (u : Term) (one : Scope) : Type 0 where
  pub bound : one ≡ (x.bytes, generic gs u) ∷ []
  pub known : IsKnown defs terms (gs ++ vs) u
  pub there : AreThere terms gs

-- The signature of a function, or of a class, gives its type by what is written.
abbrev pub SignaturesAreKnown : Type 0
SignaturesAreKnown =
    (defs : Definitions) (terms : List Term) (vs : List ℕ) (s : TypeScope) → IsScopeFine defs vs s → AreBoundsIn vs defs → (x : Named) (g : p.Signature ℕ) → Gathers defs (of_generics (within s g) g.generics)
    → ((body : Expression ℕ) → Yields defs terms (SignatureOf defs s (p.Func x g body)) (IsBoundTo defs terms vs x (own_of g) (function_term s g)))
    × ((fields : Declarations ℕ) → Yields defs terms (SignatureOf defs s (p.Class x g fields)) (IsBoundTo defs terms vs x (own_of g) (class_term s x g)))

-- the signature of a function as it is written
abbrev pub signature_at : (Term → TypeId) → TypeScope → p.Signature ℕ → Signature
signature_at number s g = record {
  sort = sort.Local;
  generics = own_of g;
  context = [];
  parameters = map number (listed (parameter_terms (within s g) g.parameters));
  result = number (term_or (within s g) g.result unit);
}

-- A function of a list, whose body becomes a typed tree wherever it stands, becomes one of its signature.
abbrev pub DeclaredFunctionsAreTyped : Type 0
DeclaredFunctionsAreTyped =
    (defs : Definitions) (slots : List Slot) (terms : List Term) (number : Term → TypeId) → IsGraphOf defs slots terms number → Among unit terms
    → (vs : List ℕ) (e : Context) (n : ℕ) (made : List Made) (x : Named) (g : p.Signature ℕ) (body : Expression ℕ) → AreParametersFine g.parameters → Gathers defs (of_generics (within e.types g) g.generics)
    → AreFresh e.types.parameters (own_of g) → AreThere terms (own_of g) → IsKnown defs terms (own_of g ++ vs) (function_term e.types g)
    → AreTyped defs slots terms number (within e.types g) body
    → Yields defs terms (JudgeBody defs e n (p.Func x g body) made) (λ q. (q.1 ≡ made)
    × FunctionMade defs slots terms number vs (in_declaration (p.Func x g body)) e x.bytes (signature_at number e.types g) (becomes defs number q.0.0 q.0.1))

-- A `let` becomes a step that binds the names of its pattern.
abbrev pub LetsAreTyped : Type 0
LetsAreTyped =
    (defs : Definitions) (slots : List Slot) (terms : List Term) (number : Term → TypeId) → IsGraphOf defs slots terms number → Among unit terms
    → (vs : List ℕ) (e : Context) (n : ℕ) (q : Pattern ℕ) (a : Expression ℕ) → IsPatternFine q → AreTyped defs slots terms number e.types a → (w : Option Term)
    → Yields defs terms (JudgeOne defs (directly Other e) n (p.Let q a) w) (λ one. OneMade defs slots terms number (StepMade defs slots terms number vs (occurring a) (directly Other e) (names_in q) one.scope) one)

-- So does a `var` that is not stable.
abbrev pub VariablesAreTyped : Type 0
VariablesAreTyped =
    (defs : Definitions) (slots : List Slot) (terms : List Term) (number : Term → TypeId) → IsGraphOf defs slots terms number → Among unit terms
    → (vs : List ℕ) (e : Context) (n : ℕ) (x : Named) (u : Option TypeNode) (a : Expression ℕ) → AreTyped defs slots terms number e.types a → (w : Option Term)
    → Yields defs terms (JudgeOne defs (directly Other e) n (p.Var false x u a) w) (λ one. OneMade defs slots terms number (StepMade defs slots terms number vs (occurring a) (directly Other e) (x.bytes ∷ []) one.scope) one)

-- A stable one does where what was kept of it stands.
abbrev pub StableVariablesAreTyped : Type 0
StableVariablesAreTyped =
    (defs : Definitions) (slots : List Slot) (terms : List Term) (number : Term → TypeId) → IsGraphOf defs slots terms number → Among unit terms
    → (vs : List ℕ) (e : Context) (n : ℕ) (x : Named) (u : Option TypeNode) (a : Expression ℕ) → AreTyped defs slots terms number e.types a → (w : Option Term)
    → Yields defs terms (JudgeOne defs (directly Other e) n (p.Var true x u a) w) (λ one. OneMade defs slots terms number (StableMade defs slots terms number vs (occurring a) (directly Other e) x.bytes one.scope) one)

-- An expression becomes a value of the type that it gives.
abbrev pub ValuesAreTyped : Type 0
ValuesAreTyped =
    (defs : Definitions) (slots : List Slot) (terms : List Term) (number : Term → TypeId) → IsGraphOf defs slots terms number → Among unit terms
    → (vs : List ℕ) (e : Context) (n : ℕ) (a : Expression ℕ) → AreTyped defs slots terms number e.types a → (w : Option Term) → IsWantFine defs vs w
    → Yields defs terms (JudgeOne defs (directly Other e) n (p.Evaluate a) w) (λ one. OneMade defs slots terms number (ValueMade defs slots terms number vs (occurring a) (directly Other e) w one.value) one)

-- ---- facts of a list

-- where the n-th declaration is judged
abbrev pub known_at : Context → Scope → List Fact → ℕ → Context
known_at e base facts n = record e { values = scope_at n facts base }

-- A step that is made so is a fact of its list, where each name that it uses stands.
abbrev pub StepsAreFacts : Type 0
StepsAreFacts =
    (defs : Definitions) (slots : List Slot) (terms : List Term) (number : Term → TypeId) (e : Context) (base : Scope) (f : Frame) (c : typed.Context) (outer : List Bytes) (facts : List Fact)
    → Fits defs slots terms number e.types [] e f c → (n : ℕ) (uses : List Bytes) (binds : List Entry) (step : Frame → Step) (xs : List Bytes) (s : Scope)
    → StepMade defs slots terms number c.parameters uses (known_at e base facts n) xs s (AStep binds step) → ((y : Bytes) → Among y uses → Reach defs slots terms number e.body base f c outer facts (suc n) n y)
    → StepFact defs slots terms number e.body base f c outer facts n binds step xs s

-- So is one that binds a stable variable, where what was kept of it stands around the list.
abbrev pub StableStepsAreFacts : Type 0
StableStepsAreFacts =
    (defs : Definitions) (slots : List Slot) (terms : List Term) (number : Term → TypeId) (e : Context) (base : Scope) (f : Frame) (c : typed.Context) (outer : List Bytes) (facts : List Fact)
    → Fits defs slots terms number e.types [] e f c → (n : ℕ) (uses : List Bytes) (binds : List Entry) (step : Frame → Step) (x : Bytes) (s : Scope)
    → ((u : Term) → s ≡ (x, variable u) ∷ [] → slice_get c.names (kept_at f x) ≡ Some (KeptOf (number u)))
    → StableMade defs slots terms number c.parameters uses (known_at e base facts n) x s (AStep binds step) → ((y : Bytes) → Among y uses → Reach defs slots terms number e.body base f c outer facts (suc n) n y)
    → StepFact defs slots terms number e.body base f c outer facts n binds step (x ∷ []) s

-- where the value of a list is to serve, if its last expression is wanted so, or has this type
abbrev pub IsValueOf : (Term → TypeId) → Bool → Want TypeId → Option Term → Term → Type 0
IsValueOf number false of_list w u = Unit {0}
IsValueOf number true of_list None u = of_list ≡ Of (number u)
IsValueOf number true of_list (Some v) u = of_list ≡ Of (number v)

-- So is an expression.
abbrev pub ValuesAreFacts : Type 0
ValuesAreFacts =
    (defs : Definitions) (slots : List Slot) (terms : List Term) (number : Term → TypeId) → IsGraphOf defs slots terms number → (e : Context) (base : Scope) (f : Frame) (c : typed.Context) (outer : List Bytes) (facts : List Fact)
    → Fits defs slots terms number e.types [] e f c → (n : ℕ) (uses : List Bytes) (last : Bool) (of_list : Want TypeId) (w : Option Term) (u : Term) (x : Frame → TypedExpression)
    → ValueMade defs slots terms number c.parameters uses (known_at e base facts n) w (Some u) (AnExpression x) → IsValueOf number last of_list w u
    → ((y : Bytes) → Among y uses → Reach defs slots terms number e.body base f c outer facts (suc n) n y) → ValueFact defs slots terms number e.body base f c outer facts of_list n last x

-- what is known of a function by the order of its list: where it is placed, that its name is bound to it in the whole list, and that what it uses stands there
pub record IsPlaced (defs : Definitions) (slots : List Slot) (terms : List Term) (number : Term → TypeId) (e : Context) (base : Scope) (f : Frame) (c : typed.Context) (outer : List Bytes) (facts : List Fact) (all : List Declared) (d : Declared) (x : Bytes)
    (uses : List Bytes) (p : ℕ) (b : Bound) : Type 0 where
  pub place_is : place all d ≡ p
  pub bound : (n : ℕ) → named (scope_at n facts base) x ≡ Some b
  pub there : (z : Bytes) → Among z uses → Reach defs slots terms number e.body base f c outer facts (suc p) p z × (named (scope_at (length facts) facts base) z ≡ named (scope_at p facts base) z)

-- So is a function.
abbrev pub FunctionsAreFacts : Type 0
FunctionsAreFacts =
    (defs : Definitions) (slots : List Slot) (terms : List Term) (number : Term → TypeId) → IsGraphOf defs slots terms number → (e : Context) (base : Scope) (f : Frame) (c : typed.Context) (outer : List Bytes) (facts : List Fact)
    → Fits defs slots terms number e.types [] e f c → (all : List Declared) (d : Declared) (y x : Bytes) (g : Frame → Function) (p : ℕ) (uses : List Bytes) (gs : List ℕ) (ps : Terms) (r : Term)
    → IsKnown defs terms (gs ++ c.parameters) (t.Function ps r)
    → FunctionMade defs slots terms number c.parameters uses (known_at e base facts (length facts)) x (record { sort = sort.Local; generics = gs; context = []; parameters = map number (listed ps); result = number r }) (AFunction y g)
    → IsPlaced defs slots terms number e base f c outer facts all d x uses p (generic gs (t.Function ps r))
    → FunctionFact defs slots terms number e.body base f c outer facts all d y g x p (generic gs (t.Function ps r)) (stands_for (head_at slots) gs (number (t.Function ps r)))
