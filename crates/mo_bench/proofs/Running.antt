-- A run of a method, told by what the instance kept.
use Rattle.std.proofs.Common.{◌≡◌, ℕ, List, [], Bool, false, Result, subst}
use Rattle.wasm_tree.specs.declared.module_parts.Module.{Module}
use Rattle.wasm_tree.specs.Exec.{Store}
use Rattle.wasm_tree.specs.Load as load
use Rattle.wasm_machine.specs.declared.call.Stop.{Stop}
use Rattle.wasm_machine.specs.Hosts.{Play, played}
use Rattle.wasm_machine.specs.Ran.{execute_with, limits_of, store_with, HasRun}
use Rattle.wasm_instance.specs.declared.instance.Limits.{Limits}
use Rattle.canister_host.specs.declared.interface.Interface.{Interface}
use Rattle.mo_bench.specs.Run.{replies}

abbrev RanAs : Interface → Interface → Module → ℕ → Limits → ℕ → load.Instance → Bool → (Play → Store Play) → Result ℕ Stop → Type 0
RanAs host last m f limits left i refused store result = HasRun replies host last (λ world. execute_with (limits_of left limits.pages limits.stack) m played f [] (store_with i.memory i.globals i.table refused world)) store result

pub ran_as : (host last : Interface) (m : Module) (f : ℕ) (limits first : Limits) (left steps : ℕ) (i kept : load.Instance) (refused : Bool) (store : Play → Store Play) (result : Result ℕ Stop)
    → RanAs host last m f limits left i refused store result → limits ≡ first → left ≡ steps → i ≡ kept → refused ≡ false → RanAs host last m f first steps kept false store result
ran_as host last m f limits first left steps i kept refused store result ran same all stands none =
    subst (λ (x : Bool). RanAs host last m f first steps kept x store result) none
    (subst (λ (x : load.Instance). RanAs host last m f first steps x refused store result) stands
    (subst (λ (n : ℕ). RanAs host last m f first n i refused store result) all
    (subst (λ (x : Limits). RanAs host last m f x left i refused store result) same ran)))
