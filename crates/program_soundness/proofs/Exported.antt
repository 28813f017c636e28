-- What an actor exports, with more answers and cells, and its parts as an execution looks for them.
use Rattle.std.proofs.Common.{◌≡◌, inl, inr, ℕ, zero, suc, List, [], ◌∷◌, Some, None, refl, subst, slice_get}
use Rattle.mo_types.specs.declared.node.TypeId.{TypeId}
use Rattle.mo_types.specs.Graph.{Slot}
use Rattle.typed_tree.specs.Language.{Value, Values, NoValue, AValue}
use Rattle.typed_tree.specs.Programs.{Program, Method, StableVariable}
use Rattle.typed_tree.specs.Wants.{CellOf}
use Rattle.mo_meaning.specs.Places.{value_list}
use Rattle.mo_soundness.specs.Keeps.{IsLonger, KnowsMore}
use Rattle.mo_soundness.specs.Running.{AnswerTypes}
use Rattle.mo_soundness.proofs.More.{has_grow}
use Rattle.program_soundness.specs.Exports.{MethodsTyped, HookTyped, CellsTyped, ExportsTyped}
use Rattle.program_soundness.specs.Roles.{AMethod, AHook, IsFunctionAs}
use Rattle.program_soundness.proofs.Roles.{function_grow}
use Rattle.program_soundness.specs.Worlds.{running, kept_type}

module _ (types : List Slot) (answers more : AnswerTypes) (knows : KnowsMore answers more) (kinds longer : List TypeId) (l : IsLonger kinds longer) where
  methods_grow : (ms : List Method) (vs : Values) → MethodsTyped types answers kinds ms vs → MethodsTyped types more longer ms vs
  methods_grow [] NoValue h = tt
  methods_grow [] (AValue v vs) h = absurd h
  methods_grow (m ∷ ms) NoValue h = absurd h
  methods_grow (m ∷ ms) (AValue v vs) h = (function_grow types answers more knows kinds longer l (AMethod m.parameters m.results) v h.0, methods_grow ms vs h.1)

  pub hook_grow : (v : Value) → HookTyped types answers kinds v → HookTyped types more longer v
  hook_grow v (inl e) = inl e
  hook_grow v (inr h) = inr (h.0, h.1, function_grow types answers more knows kinds longer l AHook h.0 h.2)

  pub cells_grow : (ss : List StableVariable) (vs : Values) → CellsTyped types answers kinds ss vs → CellsTyped types more longer ss vs
  cells_grow [] NoValue h = tt
  cells_grow [] (AValue v vs) h = absurd h
  cells_grow (s ∷ ss) NoValue h = absurd h
  cells_grow (s ∷ ss) (AValue v vs) h = (has_grow (running types) answers more knows kinds longer l v (CellOf (kept_type types s.of_type)) h.0, cells_grow ss vs h.1)

  pub exports_grow : (p : Program) (v : Value) → ExportsTyped types answers kinds p v → ExportsTyped types more longer p v
  exports_grow p v h = record {
    functions = h.functions;
    before = h.before;
    after = h.after;
    labels = h.labels;
    cells = h.cells;
    is = h.is;
    methods = methods_grow p.methods h.functions h.methods;
    before_upgrade = hook_grow h.before h.before_upgrade;
    after_upgrade = hook_grow h.after h.after_upgrade;
    stable = cells_grow p.stable h.cells h.stable;
  }

-- the function of a method
pub method_there : (types : List Slot) (answers : AnswerTypes) (kinds : List TypeId) (ms : List Method) (vs : Values) (n : ℕ) (m : Method) → MethodsTyped types answers kinds ms vs → slice_get ms n ≡ Some m
    → (f : Value) × (slice_get (value_list vs) n ≡ Some f) × IsFunctionAs types answers kinds (AMethod m.parameters m.results) f
method_there types answers kinds [] NoValue n m h q = absurd (let z : None ≡ Some m = q in cc)
method_there types answers kinds [] (AValue v vs) n m h q = absurd h
method_there types answers kinds (k ∷ ms) NoValue n m h q = absurd h
method_there types answers kinds (k ∷ ms) (AValue v vs) zero m h q = let same : k ≡ m = cc in (v, refl, subst (λ (m : Method). IsFunctionAs types answers kinds (AMethod m.parameters m.results) v) same h.0)
method_there types answers kinds (k ∷ ms) (AValue v vs) (suc n) m h q = method_there types answers kinds ms vs n m h.1 q
