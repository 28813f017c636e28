use Rattle.std.proofs.Common.{subst}
use Rattle.std.specs.Prelude.{OnOk}
use Rattle.wasm_store.specs.Standing as store
use Rattle.wasm_instance.specs.Fits.{IsInstanceOf}
use Rattle.wasm_instance.proofs.Fitting.{fits_where_loaded}
use Rattle.wasm_instance.proofs.instance.Instance.load.Goals as goal

pub returns-clause-fits : goal.returns-clause-fits
returns-clause-fits c =
    subst (λ m. OnOk c.load.result (IsInstanceOf m (store.standing c.load.new.self))) c.module.ensures.is
    (fits_where_loaded c.self.inside.store.memory.limit c.module.result.now c.load.result (store.standing c.load.new.self) c.module.ensures.valid c.load.ensures.answer)
