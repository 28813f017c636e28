-- What the value of an actor's declarations is: the functions of its methods, the hooks of an upgrade, and the cells of its stable variables (Motoko language
-- manual, sections "Actors" and "Stability").
use Rattle.std.specs.Prelude.{◌≡◌, ◌⊎◌, List, [], ◌∷◌}
use Rattle.mo_types.specs.declared.node.TypeId.{TypeId}
use Rattle.mo_types.specs.Graph.{Slot}
use Rattle.mo_values.specs.Shapes.{Bytes, Present, Tuple, Object}
use Rattle.typed_tree.specs.Language.{Value, Values, Made, NoValue, AValue, null}
use Rattle.typed_tree.specs.Programs.{Program, Method, StableVariable}
use Rattle.typed_tree.specs.Wants.{CellOf}
use Rattle.mo_soundness.specs.Running.{AnswerTypes, HasValue}
use Rattle.program_soundness.specs.Roles.{AMethod, AHook, IsFunctionAs}
use Rattle.program_soundness.specs.Worlds.{running, kept_type}

module _ (types : List Slot) (answers : AnswerTypes) (kinds : List TypeId) where
  abbrev pub MethodsTyped : List Method → Values → Type 0
  MethodsTyped [] NoValue = Unit {0}
  MethodsTyped (m ∷ ms) (AValue v vs) = IsFunctionAs types answers kinds (AMethod m.parameters m.results) v × MethodsTyped ms vs
  MethodsTyped _ _ = ⊥

  abbrev pub HookTyped : Value → Type 0
  HookTyped v = (v ≡ null) ⊎ ((f : Value) × (v ≡ Made Present (AValue f NoValue)) × IsFunctionAs types answers kinds AHook f)

  abbrev pub CellsTyped : List StableVariable → Values → Type 0
  CellsTyped [] NoValue = Unit {0}
  CellsTyped (s ∷ stable) (AValue v vs) = HasValue (running types) answers kinds (CellOf (kept_type types s.of_type)) v × CellsTyped stable vs
  CellsTyped _ _ = ⊥

  pub record ExportsTyped (p : Program) (exports : Value) : Type 0 where
    pub functions : Values
    pub before : Value
    pub after : Value
    pub labels : List Bytes
    pub cells : Values
    pub is : exports ≡ Made Tuple (AValue (Made Tuple functions) (AValue before (AValue after (AValue (Made (Object labels) cells) NoValue))))
    pub methods : MethodsTyped p.methods functions
    pub before_upgrade : HookTyped before
    pub after_upgrade : HookTyped after
    pub stable : CellsTyped p.stable cells
