-- Lists of declarations: what is asked of each declaration, and what each becomes.
use Rattle.std.specs.Prelude.{◌≡◌, ℕ, Bool, true, false, List, [], ◌∷◌, ◌++◌, Option, Some, None, slice_get}
use Rattle.mo_types.specs.declared.node.TypeId.{TypeId}
use Rattle.mo_types.specs.Graph.{Slot}
use Rattle.mo_types.specs.Sub.{Each}
use Rattle.typed_tree.specs.Shareable.{IsShareable}
use Rattle.typed_tree.specs.ActionTypes as typed
use Rattle.typed_tree.specs.Wants.{KeptOf}
use Rattle.typing_rules.specs.AbstractSyntax.{Signature, Declaration, Declarations}
use Rattle.typing_rules.specs.AbstractSyntax as p
use Rattle.typing_rules.specs.AsyncPlaces.{Other}
use Rattle.typing_rules.specs.Contexts.{Scope, Context, constant, variable, generic, directly, with_values}
use Rattle.typing_rules.specs.DeclaredTypes.{within, with_list, parameter_terms, function_term, class_term}
use Rattle.typing_rules.specs.Definitions.{Definitions}
use Rattle.typing_rules.specs.Heads.{head}
use Rattle.typing_rules.specs.Lists.{Made, Run, Entry as Given, no_entry, of_expression}
use Rattle.typing_rules.specs.Signatures.{async_term, method_sort}
use Rattle.typing_rules.specs.Terms.{Term, unit, listed}
use Rattle.typing_rules.specs.Terms as t
use Rattle.typing_rules.specs.TypedTrees.{Note}
use Rattle.typing_rules.specs.TypeScopes.{TypeScope}
use Rattle.desugaring.specs.Expressions.{becomes}
use Rattle.desugaring.specs.FreeNames.{names_in, occurring, in_declaration}
use Rattle.desugaring.specs.Frames.{Frame, kept_at}
use Rattle.desugaring.specs.Pieces.{Becomes, Nothing}
use Rattle.desugaring_laws.specs.Known.{IsKnown}
use Rattle.desugaring_laws.specs.Scopes.{IsScopeFine}
use Rattle.expression_laws.specs.Laws.{IsPatternFine}
use Rattle.expression_laws.specs.Results.{IsBelowWanted, AreTyped}
use Rattle.function_laws.specs.Laws.{AreParametersFine}
use Rattle.declaration_laws.specs.Classes.{class_signature_at}
use Rattle.declaration_laws.specs.Laws.{own_of, signature_at}
use Rattle.declaration_laws.specs.Made.{AreFresh, AreThere, FunctionMade, StepMade, StableMade, ValueMade, OneMade}
use Rattle.declaration_laws.specs.Objects.{AreFieldsTyped}
use Rattle.block_laws.specs.Bound.{AreBoundSo}

-- ---- what is bound by signatures

-- the type of a public function as it is written
abbrev pub method_term : TypeScope → Bool → Signature ℕ → Term
method_term s query g = t.Shared (method_sort query) (parameter_terms s g.parameters) (async_term s g.result)

-- the name of a function, class or public function, with the type that is written
abbrev pub signed_one : TypeScope → Declaration ℕ → Scope
signed_one s (p.Func x g body) = (x.bytes, generic (own_of g) (function_term s g)) ∷ []
signed_one s (p.Class x g fields) = (x.bytes, generic (own_of g) (class_term s x g)) ∷ []
signed_one s (p.Method query context x g body) = (x.bytes, constant (method_term s query g)) ∷ []
signed_one s _ = []

abbrev pub signed : TypeScope → Declarations ℕ → Scope
signed s p.End = []
signed s (p.Then public n d rest) = signed s rest ++ signed_one s d

module _ (defs : Definitions) (terms : List Term) (vs : List ℕ) (s : TypeScope) where
  -- the types of functions and classes, and their type parameters, are types of the graph
  abbrev pub IsSigned : Declaration ℕ → Type 0
  IsSigned (p.Func x g body) = IsKnown defs terms (own_of g ++ vs) (function_term s g) × AreThere terms (own_of g)
  IsSigned (p.Class x g fields) = IsKnown defs terms (own_of g ++ vs) (class_term s x g) × AreThere terms (own_of g)
  -- what goes into messages is shareable
  IsSigned (p.Method query context x g body) =
      IsKnown defs terms vs (method_term s query g) × IsKnown defs terms vs (async_term s g.result) × Each (IsShareable (head defs)) (async_term s g.result ∷ listed (parameter_terms s g.parameters))
  IsSigned _ = Unit {0}

  abbrev pub AreSigned : Declarations ℕ → Type 0
  AreSigned p.End = Unit {0}
  AreSigned (p.Then public n d rest) = IsSigned d × AreSigned rest

-- ---- what the rules give in order

-- the values in scope behind these
abbrev pub behind : List Given → Scope → Scope
behind [] s = s
behind (one ∷ ones) s = behind ones (one.scope ++ s)

abbrev pub made_of : List Given → List Made
made_of [] = []
made_of (one ∷ ones) = one.made ++ made_of ones

-- the value of the last of these
abbrev pub last_of : Option Term → List Given → Option Term
last_of last [] = last
last_of last (one ∷ ones) = last_of one.value ones

-- the types and the signatures of a list in scope
abbrev pub in_scope : Context → Declarations ℕ → Context
in_scope e ds = record e { types = with_list e.types ds; values = signed (with_list e.types ds) ds ++ e.values }

module _ (defs : Definitions) (slots : List Slot) (terms : List Term) (number : Term → TypeId) where
  -- What is asked of a declaration: its parts become typed trees wherever they stand, and its type parameters differ from those in scope. Of public and
  -- system functions, which are no part of the order of evaluation, nothing is asked here.
  abbrev pub IsReady : TypeScope → Declaration ℕ → Type 0
  IsReady s (p.Let q a) = IsPatternFine q × AreTyped defs slots terms number s a
  IsReady s (p.Var stable x u a) = AreTyped defs slots terms number s a
  IsReady s (p.Func x g body) = AreParametersFine g.parameters × AreFresh s.parameters (own_of g) × AreTyped defs slots terms number (within s g) body
  IsReady s (p.Method query context x g body) = Unit {0}
  IsReady s (p.System x body) = Unit {0}
  IsReady s (p.TypeAlias x parameters u) = Unit {0}
  IsReady s (p.Class x g fields) = AreParametersFine g.parameters × AreFresh s.parameters (own_of g) × AreFieldsTyped defs slots terms number (within s g) fields
  IsReady s (p.NamedObject x fields) = AreFieldsTyped defs slots terms number s fields
  IsReady s (p.Evaluate a) = AreTyped defs slots terms number s a

  abbrev pub AreReady : TypeScope → Declarations ℕ → Type 0
  AreReady s p.End = Unit {0}
  AreReady s (p.Then public n d rest) = IsReady s d × AreReady s rest

  -- what is given of a declaration that is evaluated in order; of the others there is nothing
  abbrev pub IsEvaluated : List ℕ → Context → Declaration ℕ → Option Term → Given → Type 0
  IsEvaluated vs e (p.Let q a) w one = OneMade defs slots terms number (StepMade defs slots terms number vs (occurring a) (directly Other e) (names_in q) one.scope) one
  IsEvaluated vs e (p.Var false x u a) w one = OneMade defs slots terms number (StepMade defs slots terms number vs (occurring a) (directly Other e) (x.bytes ∷ []) one.scope) one
  IsEvaluated vs e (p.Var true x u a) w one = OneMade defs slots terms number (StableMade defs slots terms number vs (occurring a) (directly Other e) x.bytes one.scope) one
  IsEvaluated vs e (p.NamedObject x fields) w one =
      OneMade defs slots terms number (StepMade defs slots terms number vs (in_declaration (p.NamedObject x fields)) (directly Other e) (x.bytes ∷ []) one.scope) one
  IsEvaluated vs e (p.Evaluate a) w one = OneMade defs slots terms number (ValueMade defs slots terms number vs (occurring a) (directly Other e) w one.value) one × (one.scope ≡ [])
  IsEvaluated vs e _ w one = one ≡ no_entry

  abbrev pub AreEvaluated : List ℕ → Bool → Context → Declarations ℕ → Option Term → List Given → Type 0
  AreEvaluated vs value e p.End w [] = Unit {0}
  AreEvaluated vs value e (p.Then public n d rest) w (one ∷ ones) = IsEvaluated vs e d (of_expression value rest w) one × AreEvaluated vs value (with_values one.scope e) rest w ones
  AreEvaluated vs value e _ w _ = ⊥

  -- the type of a list: that of its last expression, or ()
  abbrev pub EndsAs : Option Term → Option Term → Term → Type 0
  EndsAs (Some u) w v = v ≡ u
  EndsAs None w v = (v ≡ unit) × IsBelowWanted defs slots terms number w unit

  -- what a list gives in order, from here on
  pub record OrderMade (vs : List ℕ) (value : Bool) (e : Context) (ds : Declarations ℕ) (last w : Option Term) (run : Run) : Type 0 where
    pub given : List Given
    pub evaluated : AreEvaluated vs value e ds w given
    pub bound : AreBoundSo e.types ds given
    pub known_is : run.known ≡ directly Other (record e { values = behind given e.values })
    pub made_is : run.made ≡ made_of given
    pub type_is : EndsAs (last_of last given) w run.type

  -- ---- what each declaration becomes

  -- one that is evaluated by what is known where it stands, and a function by what is known at the end
  abbrev pub IsMade : List ℕ → Context → Context → Declaration ℕ → Option Term → Given → Becomes → Type 0
  IsMade vs end e (p.Let q a) w one b = StepMade defs slots terms number vs (occurring a) (directly Other e) (names_in q) one.scope b
  IsMade vs end e (p.Var false x u a) w one b = StepMade defs slots terms number vs (occurring a) (directly Other e) (x.bytes ∷ []) one.scope b
  IsMade vs end e (p.Var true x u a) w one b = StableMade defs slots terms number vs (occurring a) (directly Other e) x.bytes one.scope b
  IsMade vs end e (p.NamedObject x fields) w one b = StepMade defs slots terms number vs (in_declaration (p.NamedObject x fields)) (directly Other e) (x.bytes ∷ []) one.scope b
  IsMade vs end e (p.Evaluate a) w one b = ValueMade defs slots terms number vs (occurring a) (directly Other e) w one.value b × (one.scope ≡ [])
  IsMade vs end e (p.Func x g body) w one b = FunctionMade defs slots terms number vs (in_declaration (p.Func x g body)) end x.bytes (signature_at number e.types g) b × (one.scope ≡ [])
  IsMade vs end e (p.Class x g fields) w one b = FunctionMade defs slots terms number vs (in_declaration (p.Class x g fields)) end x.bytes (class_signature_at number e.types x g) b × (one.scope ≡ [])
  IsMade vs end e _ w one b = (b ≡ Nothing) × (one.scope ≡ [])

  abbrev pub AreMade : List ℕ → Context → Bool → Context → Declarations ℕ → Option Term → List Given → Declarations Note → Type 0
  AreMade vs end value e p.End w [] p.End = Unit {0}
  AreMade vs end value e (p.Then public n d rest) w (one ∷ ones) (p.Then public_too m b bs) =
      (public_too ≡ public) × IsMade vs end e d (of_expression value rest w) one (becomes defs number m b) × AreMade vs end value (with_values one.scope e) rest w ones bs
  AreMade vs end value e _ w _ _ = ⊥

  -- what was kept of each stable variable of the list stands around it
  abbrev pub IsKept : Frame → typed.Context → Declaration ℕ → Given → Type 0
  IsKept f c (p.Var true x u a) one = (v : Term) → one.scope ≡ (x.bytes, variable v) ∷ [] → slice_get c.names (kept_at f x.bytes) ≡ Some (KeptOf (number v))
  IsKept f c _ one = Unit {0}

  abbrev pub AreKept : Frame → typed.Context → Declarations ℕ → List Given → Type 0
  AreKept f c (p.Then public n d rest) (one ∷ ones) = IsKept f c d one × AreKept f c rest ones
  AreKept f c _ _ = Unit {0}

  -- ---- a whole list

  -- what a list gives in this context: its type, and each declaration with its note
  pub record ListMade (vs : List ℕ) (value : Bool) (e : Context) (ds : Declarations ℕ) (w : Option Term) (q : Term × Declarations Note) : Type 0 where
    pub given : List Given
    pub fine : IsScopeFine defs vs (with_list e.types ds)
    pub known : AreSigned defs terms vs (with_list e.types ds) ds
    pub bound : AreBoundSo (with_list e.types ds) ds given
    pub made : AreMade vs (directly Other (record (in_scope e ds) { values = behind given (in_scope e ds).values })) value (in_scope e ds) ds w given q.1
    pub type_is : EndsAs (last_of None given) w q.0
