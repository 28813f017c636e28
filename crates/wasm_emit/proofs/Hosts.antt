-- The host of the emitted module is that of low code, and what it gives fits.
use Rattle.std.proofs.Common.{◌≡◌, ℕ, List, [], map, Some, None, refl, subst}
use Rattle.wasm_tree.specs.Imports.{ic0}
use Rattle.wasm_tree.specs.Exec.{Store, HostAnswer, Answers, Refuses}
use Rattle.ic0_world.specs.declared.world.World.{World}
use Rattle.canister_host.specs.Entries.{imported_names, host}
use Rattle.module_laws.proofs.HostNumbers.{numbered}
use Rattle.module_laws.proofs.HostResults.{ValueFits, AnswerFits}
use Rattle.low_execution.proofs.HostTypes.{host_fits}
use Rattle.wasm_tree.specs.declared.types.ValueType.{ValueType}
use Rattle.low_ir.specs.Tree.{Module}
use Rattle.low_ir.specs.Frames.{host_gives}
use Rattle.low_execution.specs.Host.{low_host}
use Rattle.wasm_emit.specs.Emit.{host_imports}
use Rattle.wasm_emit.proofs.Asked.{GivesNone}
use Rattle.wasm_emit.proofs.Calls.{to_wasm, HostFits}

names_are : imported_names host_imports ≡ map (λ i. i.0) ic0
unfolding host_imports
names_are = refl

pub host_is : (m : Module) → host (to_wasm m) ≡ low_host
host_is m = λ i f args memory w. numbered (to_wasm m) names_are f args memory w i

given : (results : List ValueType) (a : HostAnswer World) (left : ℕ) (store : Store World) → results ≡ [] → AnswerFits results a → GivesNone (host_gives left store a)
given results (Answers None memory w) left store e h = tt
given results (Answers (Some value) memory w) left store e h = subst (λ results. ValueFits results (Some value)) e h
given results (Refuses w) left store e h = tt

pub host_gives_none : (m : Module) → HostFits m low_host
host_gives_none m f left store args t defined is none = given t.results _ left store none (host_fits m f t is args store.memory store.world)
