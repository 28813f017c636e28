use Rattle.std.proofs.Common.{◌≡◌, ◌+◌, ◌*◌, ◌≤◌, List, [], length}
use Rattle.wasm_steps.specs.Moves.{Final}
use Rattle.wasm_machine.specs.Hosts.{Reply, Play}
use Rattle.wasm_machine.specs.Acts.{page_bound, parts}
use Rattle.wasm_machine.specs.Stacks.{IsStacked}
use Rattle.wasm_machine.specs.Running.{Machine, RunsAt, GoesOn, play, with_world}
use Rattle.wasm_machine.proofs.drive.drive.Given as goal

abbrev pub invariant-loop-next : goal.invariant-loop-next
invariant-loop-next g l = record {
  stacked : IsStacked l.saved l.cells l.here;
  held : l.here.base + l.here.count + l.here.held ≤ length l.cells;
  limit : l.memory.limit ≡ l.fn.memory.limit;
  kept : l.memory.kept ≡ l.fn.memory.kept;
  globals : length l.globals ≡ length l.fn.globals;
  types : g.H.Host.types l.host ≡ g.H.Host.types l.fn.host;
  count : g.H.Host.count l.fn.host ≤ g.H.Host.count l.host;
  logged : (k : Machine) (whole : List Reply → Final Play) → k.within ≡ l.tree → k.table ≡ l.table → page_bound (with_world k (play [] [])) ≡ l.most → ((rest : List Reply) → RunsAt k l.layout.steps (whole rest) (play [] rest) l.fn.saved l.fn.cells l.fn.first l.fn.limit (parts l.fn.memory.bytes l.fn.globals l.fn.refused)) → GoesOn g.H.Host.replies l.fn.host l.host [] whole (λ rest end world. RunsAt k l.layout.steps end world l.saved l.cells l.here l.left (parts l.memory.bytes l.globals l.refused));
}

abbrev pub decreases-loop-next : goal.decreases-loop-next
decreases-loop-next g l = 2 * l.left + l.here.depth
