use Rattle.std.proofs.Common.{subst}
use Rattle.std.specs.Prelude.{map}
use Rattle.wasm_machine.specs.Asked.{FitsResult}
use Rattle.ic0_world.specs.declared.function.Ic0.TheVariants.{MsgArgDataSize}
use Rattle.canister_host.specs.Types.{type_of_function}
use Rattle.canister_host.proofs.Results.{fits_result}
use Rattle.canister_host.proofs.interface.InterfaceHost.call.Goals as goal

pub returns-in-Ok-clause-result : goal.returns-in-Ok-clause-result
returns-in-Ok-clause-result c =
    subst (λ functions. FitsResult (map type_of_function functions) c.args.function c.in-Ok.result) c.as_slice.ensures
    (fits_result c.as_slice.result.now c.args.function MsgArgDataSize c.args.args.now c.args.memory.now.bytes c.args.self.now.world c.in-Ok.result c.call.new.memory.bytes c.call.new.self c.in-Ok.ensures.does)
