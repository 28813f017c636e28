use Rattle.std.proofs.Common.{◌≡◌, ◌<◌, ◌∙◌, length, ap, sym, arith}
use Rattle.std.specs.Prelude.{slice_get}
use Rattle.wasm_tree.specs.Valid.{signatures}
use Rattle.wasm_store.specs.Standing as store
use Rattle.wasm_instance.proofs.Fitting.{still_fits}
use Rattle.wasm_instance.proofs.instance.Instance.run.Goals as goal

pub execute-result-requires-clause-table : goal.execute-result-requires-clause-table
execute-result-requires-clause-table g c = λ i f e.
    let h : f < length (signatures c.args.tree.now) = c.requires.fits.table i f (ap (λ l. slice_get l i) (sym (c.as_slice-2.ensures.value ∙ ap (λ v. v.standing.table) c.self.view_is)) ∙ e) in
    omega (arith, c.layout.ensures.count)

pub returns-in-Ok-clause-fits : goal.returns-in-Ok-clause-fits
returns-in-Ok-clause-fits g c =
    still_fits c.args.tree.now (store.standing c.self.inside.store) c.args.self.now.standing c.execute-result.new.memory.bytes c.execute-result.new.globals (ap (λ v. v.standing) c.self.view_is) c.requires.fits

pub returns-in-Err-Trapped-clause-fits : goal.returns-in-Err-Trapped-clause-fits
returns-in-Err-Trapped-clause-fits g c =
    still_fits c.args.tree.now (store.standing c.self.inside.store) c.args.self.now.standing c.execute-result.new.memory.bytes c.execute-result.new.globals (ap (λ v. v.standing) c.self.view_is) c.requires.fits

pub returns-in-Err-Memory-clause-fits : goal.returns-in-Err-Memory-clause-fits
returns-in-Err-Memory-clause-fits g c =
    still_fits c.args.tree.now (store.standing c.self.inside.store) c.args.self.now.standing c.execute-result.new.memory.bytes c.execute-result.new.globals (ap (λ v. v.standing) c.self.view_is) c.requires.fits
