-- The functions of a program in a low module.
use Rattle.std.specs.Prelude.{◌≡◌, ℕ, ◌+◌, ◌*◌, ◌<◌, ◌≤◌, ◌^◌, true, List, length, Option, Some, slice_get}
use Rattle.wasm_tree.specs.declared.types.FunctionType.{FunctionType}
use Rattle.wasm_tree.specs.Exec.{same_type}
use Rattle.core_ir.specs.Values.{Value}
use Rattle.core_ir.specs.Programs.{Group}
use Rattle.core_ir.specs.Code.{Body, CodeProgram, nodes_of}
use Rattle.core_ir.specs.CodeMachine.{first_of}
use Rattle.low_ir.specs.Tree.{Module}
use Rattle.low_ir.specs.Numbering.{type_of, all_types, defined}
use Rattle.low_ir.specs.Frames.{words}
use Rattle.heap_layout.specs.Heaps.{Plan}
use Rattle.flat_emission.specs.Emission.{Linkage, here_of, function_of}
use Rattle.emitted_steps.specs.States.{Fits, words_for}

module _ (plan : Plan) (link : Linkage) (table : List (Option ℕ)) (sees : ℕ → ℕ) (globals : List Value) (m : Module) where
  -- A function of a group: its place in the table, its type and its code, within the stack words that its nodes pay for.
  pub record FunctionAt (code k : ℕ) (b : Body) : Type 0 where
    pub number : ℕ
    pub type : FunctionType
    pub entry_small : plan.entry_of code k < 2 ^ 32
    pub entry_is : slice_get table (plan.entry_of code k) ≡ Some (Some number)
    pub same : same_type (type_of m number) (slice_get (all_types m) (link.type_of b.parameters)) ≡ true
    pub typed : type_of m number ≡ Some type
    pub is_defined : defined m number ≡ Some (function_of plan link (plan.sizes code) b)
    pub results : length type.results ≡ 1
    pub frame : words type (function_of plan link (plan.sizes code) b) ≤ words_for (16 + b.nodes)
    pub fits : Fits plan link globals sees (here_of (plan.sizes code) b) (sees code) (first_of b.segments)
    pub parameters : b.parameters ≤ b.slots
    -- the source of a function has a node for each parameter, but for some that are the translation's own
    pub few : b.parameters ≤ 8 + b.nodes

  pub record FunctionsAre (program : CodeProgram) : Type 0 where
    pub sizes : (code : ℕ) (group : Group Body) → slice_get program.groups code ≡ Some group → plan.sizes code ≡ length group.bodies
    -- the nodes of a group pay for its block
    pub paid : (code : ℕ) (group : Group Body) → slice_get program.groups code ≡ Some group → 2 * length group.bodies + sees code ≤ 4 * (1 + nodes_of group.bodies)
    -- which addresses reach
    pub short : (code : ℕ) (group : Group Body) → slice_get program.groups code ≡ Some group → 8 * (2 * length group.bodies + sees code) < 2 ^ 32
    pub functions : (code k : ℕ) (group : Group Body) (b : Body) → slice_get program.groups code ≡ Some group → slice_get group.bodies k ≡ Some b → FunctionAt code k b
