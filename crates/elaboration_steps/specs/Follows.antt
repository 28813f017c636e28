-- What it is that Core's machine follows the machine of typed programs: for each of its moves and reductions steps of Core, of which one
-- at most has an effect, at no more than twice the weight.
use Rattle.std.specs.Prelude.{◌≡◌, ◌⊎◌, ℕ, zero, suc, ◌+◌, ◌*◌, ◌≤◌, Bool, true, false, List, [], ◌∷◌, ◌++◌, length, Some, None}
use Rattle.std.specs.Str.{is_utf8}
use Rattle.mo_types.specs.declared.datum.Datum.TheVariants as part
use Rattle.mo_values.specs.Costs.{Cost, weighing}
use Rattle.mo_values.specs.Shapes.{Bytes}
use Rattle.core_ir.specs.Values as core_value
use Rattle.core_ir.specs.Worlds.{World, Context}
use Rattle.core_ir.specs.Executions.{End, Replies, Rejects, Go, Ends}
use Rattle.core_ir.specs.Executions as execution
use Rattle.core_ir.specs.Programs.{Group}
use Rattle.core_ir.specs.Expressions as core
use Rattle.core_ir.specs.Expressions.{Body, Core}
use Rattle.core_ir.specs.CoreMachine as core_machine
use Rattle.core_ir.specs.CoreMachine.{Waiting, focused, at, depth_of}
use Rattle.typed_tree.specs.declared.action.Action.{Action}
use Rattle.typed_tree.specs.declared.action.Action.TheVariants as action
use Rattle.typed_tree.specs.Language.{Exp, Cases, Functions, NoCase, ACase, NoFunction, AFunction}
use Rattle.mo_machine.specs.Values.{Value, Closure, BuiltIn, leaf, Code, shapes_list, values_list}
use Rattle.mo_machine.specs.Acts.{Store, Act, Goes, Prints, Throws, Traps}
use Rattle.mo_machine.specs.Frames as machine
use Rattle.mo_machine.specs.Frames.{Switching, Stack, Ready}
use Rattle.mo_machine.specs.Configurations.{live_on, live_state}
use Rattle.mo_machine.specs.Moves.{Move, Moved, Reduces, move}
use Rattle.mo_machine.specs.Moves as moves
use Rattle.mo_machine.specs.Reductions.{reduces}
use Rattle.typed_tree.specs.Patterns.{Pats, Found, matches_all}
use Rattle.typed_tree.specs.PatternWeights.{weight_of_all}
use Rattle.mo_meaning.specs.Matching.{pattern_failed}
use Rattle.mo_machine.specs.Environments.{Environment, extended}
use Rattle.elaboration.specs.Scopes.{Place, in_body}
use Rattle.elaboration.specs.Checks.{around_all, behind, fails}
use Rattle.elaboration.specs.Elaboration.{number_of_parameters, on_parameters}
use Rattle.elaboration.specs.Programs.{outside}
use Rattle.elaboration_forms.specs.Elaborates.{Elaborates}
use Rattle.elaboration.specs.Meeting.{Meets, MeetEach, Comes}
use Rattle.elaboration_values.specs.Belonging.{Known, Belongs, EachBelongs, EnvironmentBelongs}
pub use Rattle.elaboration_steps.specs.Stacks.{owed, further, rank}
use Rattle.elaboration_steps.specs.Stacks.{Labels, alone, StackBelongs, WorldBelongs, StateBelongs, Standing}

-- where a move or a reduction begins: its rank, and how deep it is there
pub record Start : Type 0 where
  pub most : ℕ
  pub live : ℕ

abbrev pub start : machine.Focus → Stack → Start
start f k = record { most = rank f k; live = live_state f k }

module _ (program : Core) (context : Context) (nodes : ℕ) where
  -- steps of Core, of at most such a weight and so many levels; whether there is one
  pub data Leads : Bool → (weight levels : ℕ) → List Bytes → World → core_machine.Focus → List core_machine.Frame → World → core_machine.Focus → List core_machine.Frame → Type 0 where
    Waits : (weight levels : ℕ) (world : World) (f : core_machine.Focus) (k : List core_machine.Frame) → Leads false weight levels [] world f k world f k
    Plainly : (m n weight levels : ℕ) (world : World) (f : core_machine.Focus) (k : List core_machine.Frame) (f1 : core_machine.Focus) (k1 : List core_machine.Frame) (g : core_machine.Focus) (l : List core_machine.Frame)
        → focused program context nodes world f k ≡ Go (weighing m) [] world (at program context nodes f1 k1) → depth_of k ≡ depth_of k1 → Comes program context nodes world n f1 k1 g l → m + n ≤ weight
        → Leads true weight levels [] world f k world g l
    Doing : (m n weight levels : ℕ) (cost : Cost) (out : List Bytes) (world : World) (f : core_machine.Focus) (k : List core_machine.Frame) (f1 : core_machine.Focus) (k1 : List core_machine.Frame) (world' : World) (f2 : core_machine.Focus) (k2 : List core_machine.Frame) (g : core_machine.Focus) (l : List core_machine.Frame)
        → Comes program context nodes world m f k f1 k1 → focused program context nodes world f1 k1 ≡ Go cost out world' (at program context nodes f2 k2) → Comes program context nodes world' n f2 k2 g l
        → m + cost.weight + n ≤ weight → cost.levels ≤ levels → Leads true weight levels out world f k world' g l

  -- Core is no deeper than it was, or than the source is
  abbrev pub NoDeeper : List core_machine.Frame → List core_machine.Frame → machine.Focus → Stack → Type 0
  NoDeeper ck ck' f k = (depth_of ck' ≤ depth_of ck) ⊎ (16 + nodes + depth_of ck' ≤ live_state f k)

  -- Core comes to a state that belongs to this one
  pub record Follows (before : Start) (spent total levels : ℕ) (out : List Bytes) (known : List Known) (world : World) (cf : core_machine.Focus) (ck : List core_machine.Frame) (store : Store) (f : machine.Focus) (k : Stack) : Type 0 where
    pub moved : Bool
    pub weight : ℕ
    pub held' : ℕ
    pub known' : List Known
    pub world' : World
    pub cf' : core_machine.Focus
    pub ck' : List core_machine.Frame
    pub path : Leads moved weight levels out world cf ck world' cf' ck'
    pub level : NoDeeper ck ck' f k
    pub pays : spent + weight + held' ≤ total + owed k
    pub falls : moved ≡ false → suc (rank f k) ≤ before.most
    pub grows : (more : List Known) × (known' ≡ known ++ more)
    pub requests : world'.requests ≡ world.requests
    pub stands : Standing program context nodes world' known' held' store f k cf' ck'

  -- At its end Core is no deeper than it was; or it has entered a body, which the source counts as levels of a value.
  abbrev pub AsDeep : (levels through last : ℕ) → List core_machine.Frame → List core_machine.Frame → Type 0
  AsDeep levels through last ck ck' = (through ≤ levels) × (last ≤ levels) × (depth_of ck' ≤ depth_of ck)

  abbrev pub InBody : Start → (levels through last : ℕ) → List core_machine.Frame → Type 0
  InBody before levels through last ck' = (through ≡ 0) × (last ≡ 0) × (16 + nodes + depth_of ck' ≤ before.live + 16 * levels)

  -- Core ends so
  pub record Stops (before : Start) (spent total levels : ℕ) (world : World) (cf : core_machine.Focus) (ck : List core_machine.Frame) (end : End Waiting) : Type 0 where
    pub moved : Bool
    pub weight : ℕ
    pub through : ℕ
    pub cost : Cost
    pub cf' : core_machine.Focus
    pub ck' : List core_machine.Frame
    pub path : Leads moved weight through [] world cf ck world cf' ck'
    pub ends : focused program context nodes world cf' ck' ≡ Ends cost [] world end
    pub level : AsDeep levels through cost.levels ck ck' ⊎ InBody before levels through cost.levels ck'
    pub pays : spent + weight + cost.weight ≤ total

  module _ (before : Start) (held : ℕ) (known : List Known) (world : World) (store : Store) (k0 : Stack) where
    -- a move is paid from what is held
    abbrev pub MoveFollows : core_machine.Focus → List core_machine.Frame → Move → Type 0
    MoveFollows cf ck (Moved f k) = Follows before (owed k0) held 0 [] known world cf ck store f k
    MoveFollows cf ck (moves.Ends v) = (w : core_value.Value) × Belongs known v w × (focused program context nodes world cf ck ≡ Ends (weighing 1) [] world (Replies w)) × (1 ≤ held) × WorldBelongs program.groups known context.globals store world
    MoveFollows cf ck Reduces = Unit {0}

    -- Core has spent so much of what is held and twice what the source pays. Calls and waits are answered from outside.
    abbrev pub Acts : ℕ → core_machine.Focus → List core_machine.Frame → Act → Type 0
    Acts spent cf ck (Goes cost later f k) = Follows before (spent + owed k0) (2 * cost.weight + held) cost.levels [] known world cf ck later f k
    Acts spent cf ck (Prints cost text f k) = Follows before (spent + owed k0) (2 * cost.weight + held) cost.levels (text ∷ []) known world cf ck store f k
    Acts spent cf ck (Traps cost text) = Stops before spent (2 * cost.weight + held) cost.levels world cf ck (execution.Traps text)
    Acts spent cf ck (Throws cost error) = (w : core_value.Value) × Belongs known error w × Stops before spent (2 * cost.weight + held) cost.levels world cf ck (Rejects w) × WorldBelongs program.groups known context.globals store world
    Acts spent cf ck _ = Unit {0}

    -- a trap comes in a body that was entered
    abbrev pub TrapsInBody : (spent : ℕ) (cf : core_machine.Focus) (ck : List core_machine.Frame) (a : Act) → Acts spent cf ck a → Type 0
    TrapsInBody spent cf ck (Traps cost text) r = InBody before cost.levels r.through r.cost.levels r.ck'
    TrapsInBody spent cf ck _ r = Unit {0}

-- ---- what is asked: values stand where values of their types do

abbrev pub CasesMeet : Cases → core_value.Value → Type 0
CasesMeet NoCase w = Unit {0}
CasesMeet (ACase p e cases) w = Meets p w × CasesMeet cases w

abbrev pub ParametersMeet : Functions → ℕ → List core_value.Value → Type 0
ParametersMeet NoFunction n ws = Unit {0}
ParametersMeet (AFunction how nodes ps body fns) zero ws = MeetEach ps ws
ParametersMeet (AFunction how nodes ps body fns) (suc n) ws = ParametersMeet fns n ws

-- the handler that an error comes to
abbrev pub HandlerMeets : Stack → core_value.Value → Type 0
HandlerMeets [] w = Unit {0}
HandlerMeets (machine.Labelled ∷ k) w = Unit {0}
HandlerMeets (machine.Trying p b env ∷ k) w = Meets p w
HandlerMeets (_ ∷ k) w = HandlerMeets k w

abbrev pub Suits : List Known → machine.Focus → Stack → Type 0
Suits known (machine.Give v) (Switching cases env ∷ k) = (w : core_value.Value) → Belongs known v w → CasesMeet cases w
Suits known (Ready action.Call (Closure group which env ∷ vs)) k = (ws : List core_value.Value) → EachBelongs known vs ws → ParametersMeet group which ws
Suits known (Ready action.Call (BuiltIn m holds ∷ vs)) k = (a : Action) → alone m ≡ Some a → length vs ≡ 1
Suits known (Ready action.Throw (v ∷ [])) k = (w : core_value.Value) → Belongs known v w → HandlerMeets k w
Suits known (Ready action.Print (v ∷ [])) k = (t : Bytes) → v ≡ leaf (part.Text t) → is_utf8 t ≡ true
Suits known _ k = Unit {0}

-- ---- laws

module _ (program : Core) (context : Context) (nodes : ℕ) where
  abbrev pub MovesFollow : Type 0
  MovesFollow =
      (held : ℕ) (known : List Known) (world : World) (store : Store) (f : machine.Focus) (k : Stack) (cf : core_machine.Focus) (ck : List core_machine.Frame)
      → Standing program context nodes world known held store f k cf ck
      → MoveFollows program context nodes (start f k) held known world store k cf ck (move f k)

  abbrev pub ReductionsFollow : Type 0
  ReductionsFollow =
      (held : ℕ) (known : List Known) (world : World) (store : Store) (f : machine.Focus) (k : Stack) (cf : core_machine.Focus) (ck : List core_machine.Frame)
      → Standing program context nodes world known held store f k cf ck → Suits known f k
      → Acts program context nodes (start f k) held known world store k 0 cf ck (reduces context.head None store f k)

-- A body outside all functions begins: its parameters' patterns are looked at, and then Core stands where the body does; or it traps.
module _ (program : Core) (context : Context) (nodes : ℕ) (world : World) (known : List Known) where
  abbrev pub Begins : ℕ → List core_value.Value → core.Exp → Exp → Environment → Found Code → Type 0
  Begins weight vals c body env None =
      (n : ℕ) × (cf : core_machine.Focus) × (ck : List core_machine.Frame) × Comes program context nodes world n (core_machine.Eval c vals) [] cf ck
      × (focused program context nodes world cf ck ≡ Ends (weighing (1 + length pattern_failed)) [] world (execution.Traps pattern_failed)) × (n ≤ 2 * weight)
  Begins weight vals c body env (Some us) =
      (n : ℕ) × (cf : core_machine.Focus) × (ck : List core_machine.Frame) × Comes program context nodes world n (core_machine.Eval c vals) [] cf ck × (n ≤ 2 * weight)
      × StateBelongs program context nodes world known 0 (machine.Eval body (extended (values_list us) env)) (machine.Returning nodes ∷ []) cf ck

abbrev pub BodiesBegin : Type 0
BodiesBegin =
    (program : Core) (context : Context) (nodes : ℕ) (world : World) (known : List Known) (b : Bool) (places : List Place) (ps : Pats) (body : Exp) (y : core.Exp) (env : Environment) (vs : List Value) (ws : List core_value.Value)
    → Elaborates program.groups b (behind (on_parameters ps (outside places)) (in_body (number_of_parameters ps) (outside places))) body y → EnvironmentBelongs known context.globals places env []
    → EachBelongs known vs ws → length ws ≡ number_of_parameters ps → MeetEach ps ws
    → Begins program context nodes world known (weight_of_all ps (shapes_list vs)) ws (around_all (on_parameters ps (outside places)).checks fails y) body env (matches_all ps (shapes_list vs))

-- The bodies that were entered and not left are as deep.
abbrev pub StacksAreAsDeep : Type 0
StacksAreAsDeep =
    (table : List (Group Body)) (known : List Known) (globals : List core_value.Value) (nodes : ℕ) (b : Bool) (l : Labels) (held : ℕ) (k : Stack) (ck : List core_machine.Frame)
    → StackBelongs table known globals nodes b l held k ck → live_on k ≡ 16 + nodes + depth_of ck
