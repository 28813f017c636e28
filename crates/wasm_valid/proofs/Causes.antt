-- A valid module has no fault.
use Rattle.std.proofs.Common.{◌≡◌, refl}
use Rattle.wasm_tree.specs.declared.module_parts.Module.{Module}
use Rattle.wasm_tree.specs.Valid.{ValidModule}
use Rattle.wasm_tree.proofs.Asked.{fails_excludes}
use Rattle.wasm_valid.specs.declared.fault.ValidFault.{ValidFault}
use Rattle.wasm_valid.specs.declared.fault.ValidFault.TheVariants.{Broken, Memory}
use Rattle.wasm_valid.specs.Judged.{IsCause}

pub only_memory : (m : Module) (fault : ValidFault) → IsCause m fault → ValidModule m → fault ≡ Memory
only_memory m (Broken function r) cause valid = absurd (fails_excludes m function r cause valid)
only_memory m Memory cause valid = refl
