use Rattle.low_tests.proofs.SmallFormed.{small_formed}
use Rattle.low_tests.proofs.translation.a_small_module_is_translated.Goals as goal

pub to_wasm-requires : goal.to_wasm-requires
to_wasm-requires g c = small_formed c.in_ok-low.low c.in_ok-low.ensures
