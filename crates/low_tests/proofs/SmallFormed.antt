use Rattle.std.proofs.Common.{◌≡◌, refl, arith}
use Rattle.low_ir.specs.declared.module_parts.LowModule.{LowModule}
use Rattle.wasm_tree.specs.declared.types.ValueType.TheVariants.{I32}
use Rattle.low_ir.specs.Numbering.{host_types, host_signatures}
use Rattle.low_ir.specs.Flat.{flat_module}
use Rattle.low_ir.specs.Formed.{ModuleIsFormed, IsFormedModule}
use Rattle.low_ir.specs.Rows.{number_type}
use Rattle.low_tests.specs.Small.{small}

small_is_formed : ModuleIsFormed small
unfolding host_types host_signatures
small_is_formed = record {
  types = (record { results = omega arith; params = omega arith }, tt);
  functions = (record { type = number_type; is = refl; few = omega arith; body = (I32, refl, (refl, (refl, record { sfits = omega arith }), refl), (I32, refl, refl)) }, tt);
  table = tt;
  globals = tt;
  exports = tt;
  names = λ i j d p q e. absurd (omega (arith, q));
  few_types = omega arith;
  few_functions = omega arith;
  few_entries = omega arith;
  few_globals = omega arith;
  few_pages = omega arith;
  fits = omega arith;
  short = omega arith;
}

pub small_formed : (low : LowModule) → low ≡ flat_module small → IsFormedModule low
small_formed low e = record { tree = small; is = e; formed = small_is_formed }
