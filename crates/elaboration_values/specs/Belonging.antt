-- Which values of Core belong to those of the machine of typed programs: the same but for functions. Core names a function by the number of
-- the group that was made; a list tells what each of these groups is there (Motoko language manual, section "Functions").
use Rattle.std.specs.Prelude.{◌≡◌, ℕ, zero, suc, List, ◌++◌, Option, Some, None, slice_get}
use Rattle.mo_types.specs.declared.node.Node.{Node}
use Rattle.mo_types.specs.declared.node.TypeId.{TypeId}
use Rattle.mo_values.specs.declared.operation.Operation.{Operation}
use Rattle.mo_values.specs.Alike.{Alike, AlikeEach, AlikeAnswers}
use Rattle.mo_values.specs.Costs.{operation_cost, sizes, most_levels}
use Rattle.mo_values.specs.Messages.{plain_each}
use Rattle.mo_values.specs.Operations.{operate}
use Rattle.mo_values.specs.Shapes.{Shape, shapes}
use Rattle.core_ir.specs.Values as core
use Rattle.core_ir.specs.Values.{Handle}
use Rattle.typed_tree.specs.declared.action.Member.{Member}
use Rattle.typed_tree.specs.Language.{Functions}
use Rattle.typed_tree.specs.Patterns.{Pat, Found, matches}
use Rattle.typed_tree.specs.PatternWeights.{pattern_weight}
use Rattle.mo_machine.specs.Values.{Value, Values, Code, ClosureCode, BuiltInCode, shape_of, shapes_list}
use Rattle.mo_machine.specs.Environments.{Environment, at, extended}
use Rattle.elaboration.specs.Scopes.{Place, Local, Own, Nowhere, place_or_nowhere}
use Rattle.elaboration.specs.Checks.{locals}
use Rattle.elaboration.specs.Meeting.{Reads, ReadEach, Extends}

-- what a group that Core made is: functions of the program with what stands around them, one function of a group alone, or a built-in function
-- with what it holds
pub data Known : Type 0 where
  OfFunctions : (functions : Functions) → (environment : Environment) → Known
  OfOne : (functions : Functions) → (which : ℕ) → (environment : Environment) → Known
  OfMember : (member : Member) → (holds : Values) → Known

-- a built-in function is alone in its group, as one function is
abbrev pub code_in : Option Known → ℕ → Option Code
code_in None n = None
code_in (Some (OfFunctions fns env)) n = Some (ClosureCode fns n env)
code_in (Some (OfOne fns i env)) zero = Some (ClosureCode fns i env)
code_in (Some (OfOne fns i env)) (suc n) = None
code_in (Some (OfMember m holds)) zero = Some (BuiltInCode m holds)
code_in (Some (OfMember m holds)) (suc n) = None

module _ (known : List Known) where
  -- what a handle stands for
  abbrev pub code_of : Handle → Option Code
  code_of h = code_in (slice_get known h.group) h.member

  abbrev pub Names : Code → Handle → Type 0
  Names code h = code_of h ≡ Some code

  abbrev pub Belongs : Value → core.Value → Type 0
  Belongs v w = Alike Names (shape_of v) w

  abbrev pub EachBelongs : List Value → List core.Value → Type 0
  EachBelongs vs ws = AlikeEach Names (shapes_list vs) ws

  -- ---- what is found by a pattern

  abbrev pub AlikeFound : Found Code → Found Handle → Type 0
  AlikeFound None None = Unit {0}
  AlikeFound (Some vs) (Some ws) = AlikeEach Names vs ws
  AlikeFound _ _ = ⊥

  -- ---- names

  module _ (globals : List core.Value) where
    -- the value of a name stands at its place
    abbrev pub StandsAt : List core.Value → Place → Value → Type 0
    StandsAt env (Local level) v = (w : core.Value) × Reads env level w × Belongs v w
    StandsAt env (Own i) v = (w : core.Value) × (slice_get globals i ≡ Some w) × Belongs v w
    StandsAt env Nowhere v = Unit {0}

    abbrev pub EnvironmentBelongs : List Place → Environment → List core.Value → Type 0
    EnvironmentBelongs places environment env = (x : ℕ) (v : Value) → at environment x ≡ Some v → StandsAt env (place_or_nowhere (slice_get places x)) v

    -- Further names of both: their values belong together, and what there was stays.
    abbrev pub NamesExtend : Type 0
    NamesExtend =
        (places : List Place) (environment : Environment) (env env' : List core.Value) (bound : List ℕ) (vs : List Value) (ws : List core.Value)
        → EnvironmentBelongs places environment env → Extends env env' → ReadEach env' bound ws → EachBelongs vs ws → EnvironmentBelongs (locals bound ++ places) (extended vs environment) env'

  -- ---- laws

  abbrev pub OperationsBelong : Type 0
  OperationsBelong =
      (head : TypeId → Node TypeId) (o : Operation) (vs : List (Shape Code)) (ws : List core.Value) → AlikeEach Names vs ws
      → AlikeAnswers Names (operate head o vs) (operate head o ws) × (operation_cost o vs (operate head o vs) ≡ operation_cost o ws (operate head o ws))

  abbrev pub PatternsBelong : Type 0
  PatternsBelong = (p : Pat) (v : Shape Code) (w : core.Value) → Alike Names v w → AlikeFound (matches p v) (matches p w) × (pattern_weight p v ≡ pattern_weight p w)

  -- they go into messages alike, and weigh the same
  abbrev pub MessagesBelong : Type 0
  MessagesBelong =
      (vs : List (Shape Code)) (ws : List core.Value) → AlikeEach Names vs ws
      → ((head : TypeId → Node TypeId) (ts : List (Option TypeId)) → plain_each head ts (shapes vs) ≡ plain_each head ts (shapes ws)) × (sizes vs ≡ sizes ws) × (most_levels vs ≡ most_levels ws)

-- what belongs together does so where further groups are made
abbrev pub ValuesStay : Type 0
ValuesStay = (known more : List Known) (v : Shape Code) (w : core.Value) → Alike (Names known) v w → Alike (Names (known ++ more)) v w
