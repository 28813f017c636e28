use Rattle.std.proofs.Common.{◌≡◌, ◌≤◌, ◌++◌, drop, take, length}
use Rattle.wasm_layout.specs.Modules.{arities_of, defined_layouts, all_steps, all_layouts}
use Rattle.wasm_layout.specs.Sizes.{room_of}
use Rattle.wasm_layout.proofs.module_layout.lay_module.Given as goal

abbrev pub invariant-loop-function : goal.invariant-loop-function
invariant-loop-function l = record {
  laid : l.steps.items ++ all_steps (arities_of l.«module») (length l.steps.items) (drop l.function-index l.function-items) ≡ all_steps (arities_of l.«module») 0 l.«module».functions;
  facts : l.functions.items ++ defined_layouts (arities_of l.«module») (length l.steps.items) (drop l.function-index l.function-items) ≡ all_layouts l.«module»;
  few : length l.steps.items ≤ room_of (take l.function-index l.function-items);
  items : l.function-items ≡ l.«module».functions;
}
