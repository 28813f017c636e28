-- The start of a program on its way: its declarations, what they end in, and the value of all (Motoko language manual, sections "Actors" and "Stable
-- variables").
use Rattle.std.specs.Prelude.{◌≡◌, ◌⊎◌, ℕ, List, [], ◌∷◌}
use Rattle.mo_types.specs.declared.datum.Datum.TheVariants as part
use Rattle.mo_types.specs.declared.node.Node.{Node}
use Rattle.mo_types.specs.declared.node.TypeId.{TypeId}
use Rattle.mo_types.specs.Graph.{Slot, head_at}
use Rattle.mo_values.specs.declared.operation.Operation.{Operation}
use Rattle.mo_values.specs.declared.operation.Operation.TheVariants as op
use Rattle.mo_values.specs.Operations.{operate}
use Rattle.mo_values.specs.Shapes.{Tuple}
use Rattle.mo_values.specs.Views as answer
use Rattle.typed_tree.specs.declared.action.Action.TheVariants as action
use Rattle.typed_tree.specs.declared.program.Program.{Program}
use Rattle.typed_tree.specs.Language.{Value, Exp, Exps, Cases, Made, Val, Name, Do, Switch, Frame, NoExp, AnExp, ACase, NoCase, let_in, then}
use Rattle.typed_tree.specs.Opening.{shape_of, shapes_list}
use Rattle.typed_tree.specs.Patterns.{Bind, Constant, Present?}
use Rattle.typed_tree.specs.ProgramView.{program}
use Rattle.mo_meaning.specs.Places.{one, operands, values_of_list}
use Rattle.mo_meaning.specs.Starting.{incompatible}
use Rattle.mo_soundness.specs.Keeps.{closed}
use Rattle.mo_soundness.specs.Running.{AnswerTypes}
use Rattle.program_soundness.specs.Declared.{Declared}
use Rattle.program_soundness.specs.Exports.{HookTyped, ExportsTyped}
use Rattle.program_soundness.specs.Results.{GivesResults}
use Rattle.program_soundness.specs.Roles.{AHook, IsFunctionAs}
use Rattle.program_soundness.specs.Runs.{Fitting}
use Rattle.program_soundness.specs.Worlds.{running}

-- it is the value, or an operation on values that gives it
abbrev pub Soon : (TypeId → Node TypeId) → Exp → Value → Type 0
Soon head e v = (e ≡ Val v) ⊎ ((o : Operation) × (us : List Value) × (e ≡ Do (action.Operate o) (operands us)) × (operate head o (shapes_list us) ≡ answer.Gives (shape_of v)))

abbrev pub AllSoon : (TypeId → Node TypeId) → Exps → List Value → Type 0
AllSoon head NoExp [] = Unit {0}
AllSoon head (AnExp e es) (v ∷ vs) = Soon head e v × AllSoon head es vs
AllSoon head _ _ = ⊥

-- in a frame, or behind it
abbrev pub IsFramed : Fitting Exp → Fitting Value → Fitting Exp
IsFramed P Q answers kinds e = ((n : ℕ) × (body : Exp) × (e ≡ Frame n body) × P answers kinds body) ⊎ ((v : Value) × (e ≡ Val v) × Q answers kinds v)

module _ (types : List Slot) (p : Program) where
  -- a tuple that is made of what an actor exports
  abbrev pub IsCollecting : Fitting Exp
  IsCollecting answers kinds e =
      (es : Exps) × (vs : List Value) × (e ≡ Do (action.Operate op.MakeTuple) es) × AllSoon (head_at types) es vs × ExportsTyped types answers kinds (program p) (Made Tuple (values_of_list vs))

  abbrev pub IsExported : Fitting Exp
  IsExported answers kinds e = (v : Value) × (e ≡ Val v) × ExportsTyped types answers kinds (program p) v

  abbrev pub IsExporting : Fitting Exp
  IsExporting answers kinds e = Declared types answers kinds p (closed []) e ⊎ IsCollecting answers kinds e ⊎ IsExported answers kinds e

  abbrev pub AreExports : Fitting Value
  AreExports answers kinds v = ExportsTyped types answers kinds (program p) v

  abbrev pub IsInstalling : Fitting Exp
  IsInstalling = IsFramed IsExporting AreExports

-- ---- behind an upgrade: the hook, and then the exports

-- what stands behind the declarations, where their value is in its place
abbrev pub hook_cases : Exp → Exp → Cases
hook_cases there after = ACase (Constant part.Null) there (ACase (Present? Bind) (then (Do action.Call (one (Name 0))) after) NoCase)

abbrev pub hook_switch : Exp
hook_switch = Switch (Do (action.Operate (op.Project 2)) (one (Name 0))) (hook_cases (Name 0) (Name 1))

module _ (types : List Slot) (p : Program) (answers : AnswerTypes) (kinds : List TypeId) where
  -- the declarations, the look for the hook, the hook that was found, its call, its body, and the exports
  pub data IsHooking (e : Exp) : Type 0 where
    Begun : (d : Exp) → e ≡ let_in Bind d hook_switch → IsExporting types p answers kinds d → IsHooking e
    Looks : (v : Value) → e ≡ Switch (Do (action.Operate (op.Project 2)) (one (Val v))) (hook_cases (Val v) (Val v)) → ExportsTyped types answers kinds (program p) v → IsHooking e
    Found : (v x : Value) → e ≡ Switch (Val x) (hook_cases (Val v) (Val v)) → ExportsTyped types answers kinds (program p) v → HookTyped types answers kinds x → IsHooking e
    Calls : (v f : Value) → e ≡ then (Do action.Call (one (Val f))) (Val v) → ExportsTyped types answers kinds (program p) v → IsFunctionAs types answers kinds AHook f → IsHooking e
    Runs : (v : Value) (b : Exp) → e ≡ then b (Val v) → ExportsTyped types answers kinds (program p) v → GivesResults (running types) [] answers kinds b → IsHooking e
    Ends : (v : Value) → e ≡ Val v → ExportsTyped types answers kinds (program p) v → IsHooking e

-- in the frame of the declarations, where what was kept fits
abbrev pub IsUpgrading : List Slot → Program → Fitting Exp
IsUpgrading types p answers kinds e =
    (e ≡ Do (action.Operate (op.Fail incompatible)) NoExp) ⊎ IsFramed (λ answers kinds e. IsHooking types p answers kinds e) (AreExports types p) answers kinds e
