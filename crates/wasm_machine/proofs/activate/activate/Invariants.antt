use Rattle.std.proofs.Common.{◌≡◌, ℕ, ◌+◌, ◌-◌, ◌*◌, ◌<◌, ◌≤◌, length}
use Rattle.wasm_tree.specs.Exec.{Calls}
use Rattle.wasm_steps.specs.Moves.{Final}
use Rattle.wasm_steps.specs.Follow.{Frugal, Stands}
use Rattle.wasm_machine.specs.Operands.{tops}
use Rattle.wasm_machine.specs.Hosts.{Play}
use Rattle.wasm_machine.specs.Acts.{Given, page_bound, parts, state_of}
use Rattle.wasm_machine.specs.Active.{Active}
use Rattle.wasm_machine.proofs.activate.activate.Given as goal

abbrev pub invariant-loop-to : goal.invariant-loop-to
invariant-loop-to l = record {
  place : l.place < length l.steps;
  left : l.left ≤ l.fn.limit;
  held : l.held ≤ length l.stack;
  limit : l.memory.limit ≡ l.fn.memory.limit;
  kept : l.memory.kept ≡ l.fn.memory.kept;
  some : Active l.steps (length l.fn.stack) l.most l.place l.left l.locals (parts l.memory.bytes l.globals l.refused) (tops l.stack l.held);
  stack : length l.stack ≡ length l.fn.stack;
  locals : length l.locals ≡ length l.fn.locals;
  globals : length l.globals ≡ length l.fn.globals;
  stands : (g : Given) (calls : Calls Play) (frugal : Frugal calls) (height keep : ℕ) (whole : Final Play) → page_bound g ≡ l.most → Stands g.limits g.within calls l.steps (length l.fn.locals) height keep whole l.fn.start (state_of g l.fn.limit l.fn.locals (parts l.fn.memory.bytes l.fn.globals l.fn.refused)) (tops l.fn.stack l.fn.count) → Stands g.limits g.within calls l.steps (length l.fn.locals) height keep whole l.place (state_of g l.left l.locals (parts l.memory.bytes l.globals l.refused)) (tops l.stack l.held);
}

abbrev pub decreases-loop-to : goal.decreases-loop-to
decreases-loop-to l = l.left * (length l.steps + 1) + (length l.steps - l.place)
