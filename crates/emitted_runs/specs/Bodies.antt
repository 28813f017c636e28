-- Functions of bodies, and their first states.
use Rattle.std.specs.Prelude.{◌≡◌, ℕ, ◌+◌, ◌≤◌, List, [], length, Option, Some}
use Rattle.wasm_tree.specs.declared.types.FunctionType.{FunctionType}
use Rattle.core_ir.specs.Values.{Value}
use Rattle.core_ir.specs.Code.{Body}
use Rattle.core_ir.specs.CodeMachine.{State, at, first_of, frame_of}
use Rattle.low_ir.specs.Tree.{Module}
use Rattle.low_ir.specs.Numbering.{type_of, defined}
use Rattle.low_ir.specs.Frames.{words}
use Rattle.heap_layout.specs.Heaps.{Plan}
use Rattle.flat_emission.specs.Emission.{Linkage, here_of, function_of}
use Rattle.emitted_steps.specs.States.{Fits, words_for}
use Rattle.emitted_steps.specs.Modules.{FunctionAt}

-- The state in which a body begins, in a group that was made, with its arguments.
abbrev pub first_state : Body → (group : ℕ) → (seen arguments : List Value) → State
first_state b group seen arguments = at (first_of b.segments) [] (frame_of b group seen arguments) []

module _ (plan : Plan) (link : Linkage) (table : List (Option ℕ)) (sees : ℕ → ℕ) (globals : List Value) (m : Module) where
  -- The low function of a body, within the stack words that its nodes pay for. It is of a group of so many functions, which sees so many
  -- values; what an actor is entered by (a method, its start) is of none, and sees none.
  pub record BodyAt (members seen : ℕ) (b : Body) : Type 0 where
    pub number : ℕ
    pub type : FunctionType
    pub typed : type_of m number ≡ Some type
    pub is_defined : defined m number ≡ Some (function_of plan link members b)
    pub results : length type.results ≡ 1
    pub frame : words type (function_of plan link members b) ≤ words_for (16 + b.nodes)
    pub fits : Fits plan link globals sees (here_of members b) seen (first_of b.segments)
    pub parameters : b.parameters ≤ b.slots

  -- A function of a group is one.
  abbrev pub body_at : (code k : ℕ) (b : Body) → FunctionAt plan link table sees globals m code k b → BodyAt (plan.sizes code) (sees code) b
  body_at code k b f = record {
    number = f.number;
    type = f.type;
    typed = f.typed;
    is_defined = f.is_defined;
    results = f.results;
    frame = f.frame;
    fits = f.fits;
    parameters = f.parameters;
  }
