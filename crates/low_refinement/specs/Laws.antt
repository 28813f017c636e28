-- Low modules that do what a program's actor does, and the WebAssembly that they become.
use Rattle.std.specs.Prelude.{◌≡◌, ℕ, List, Bool, true}
use Rattle.mo_num.specs.PrincipalText.{IsPrincipal}
use Rattle.play_script.specs.declared.event.Event.{Event}
use Rattle.wasm_tree.specs.Exec.{ExecutionLimits}
use Rattle.canister_host.specs.declared.calls.OpenCall.{OpenCall}
use Rattle.mo_actor.specs.Languages.{Language}
use Rattle.mo_actor.specs.Programs.{Program}
use Rattle.mo_actor.specs.Measures.{Measure}
use Rattle.mo_actor.specs.Passes.{CommittedState}
use Rattle.actor_refinement.specs.Limits.{IsWithin}
use Rattle.actor_refinement.specs.Laws.{SoundAnd}
use Rattle.actor_refinement.specs.Refines.{Refines}
use Rattle.low_ir.specs.Tree.{Module}
use Rattle.low_ir.specs.Flat.{flat_module}
use Rattle.low_ir.specs.Formed.{ModuleIsFormed}
use Rattle.wasm_emit.specs.Emit.{emitted}
use Rattle.low_refinement.specs.LowEnds.{Contents}
use Rattle.low_refinement.specs.LowSimulates.{LowSimulates}

-- A formed low module whose single executions come out as a program's do becomes a module that refines the program. A relation is
-- here what a test says.
abbrev pub LowSimulationsRefine : (L : Language) → (pays : ExecutionLimits → Measure) → Type 0
LowSimulationsRefine L pays =
    (stable : L.kept → List ℕ → Bool) (given : Event → Bool) (related : ExecutionLimits → List ℕ → (charged : ℕ) → CommittedState L → Contents → List OpenCall → Bool) (p : Program L) (m : Module) → ModuleIsFormed m
    → ((limits : ExecutionLimits) → IsWithin limits → (own : List ℕ) → IsPrincipal own
    → LowSimulates (λ charged state c waiting. related limits own charged state c waiting ≡ true) limits own m (λ kept memory. stable kept memory ≡ true) (SoundAnd given) (pays limits) p)
    → Refines (λ kept memory. stable kept memory ≡ true) (SoundAnd given) pays p (emitted (flat_module m))
