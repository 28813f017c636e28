use Rattle.std.proofs.Common.{◌≡◌, ◌∙◌, List, [], refl, ap, map}
use Rattle.wasm_tree.specs.declared.types.Limits.{Limits}
use Rattle.wasm_tree.specs.declared.module_parts.Global.{Global}
use Rattle.wasm_tree.specs.Load.{Instance, first_size, constant, OutOfBounds, Loaded}
use Rattle.wasm_store.specs.Loading.{load_within}
use Rattle.wasm_store.specs.Standing.{standing}
use Rattle.wasm_store.proofs.LoadSteps.{load_by, answers_bounds, answers_loaded}
use Rattle.wasm_store.proofs.store.Store.load.Goals as goal

pub returns-then-not-put_all-clause-answer : goal.returns-then-not-put_all-clause-answer
returns-then-not-put_all-clause-answer c =
    let none : c.clear.new.self.memory.bytes ≡ [] = ap (λ (i : Instance). i.memory) c.clear.ensures.standing in
    let pages : c.first_size.result ≡ first_size c.args.module.now.memories = c.first_size.ensures ∙ ap (λ (l : List Limits). first_size l) c.as_slice.ensures in
    let globals : c.put_constants.new.globals ≡ map (λ g. constant g.init) c.args.module.now.globals = c.put_constants.ensures ∙ ap (λ (l : List Global). map (λ g. constant g.init) l) c.as_slice-2.ensures in
    let entries : c.first_size-2.result ≡ first_size c.args.module.now.tables = c.first_size-2.ensures ∙ ap (λ (l : List Limits). first_size l) c.as_slice-3.ensures in
    let gives : load_within c.args.self.now.memory.limit c.args.module.now ≡ OutOfBounds =
    load_by c.args.module.now c.clear.new.self.memory c.grow.new.self c.grow.result c.first_size.result c.first_size-2.result c.args.self.now.memory.limit c.put_constants.new.globals c.put_blanks.new.table (OutOfBounds)
    none c.clear.ensures.limit c.if-is_none.ensures c.grow.ensures.refused.1 c.grow.ensures.grown pages globals c.put_blanks.ensures entries c.if-not-put_all.ensures.fits in
    answers_bounds {A = Unit {0}} (load_within c.args.self.now.memory.limit c.args.module.now) _ (standing c.clear-then-not-put_all.new.self) refl gives c.clear-then-not-put_all.ensures.standing

pub returns-clause-answer : goal.returns-clause-answer
returns-clause-answer c =
    let none : c.clear.new.self.memory.bytes ≡ [] = ap (λ (i : Instance). i.memory) c.clear.ensures.standing in
    let pages : c.first_size.result ≡ first_size c.args.module.now.memories = c.first_size.ensures ∙ ap (λ (l : List Limits). first_size l) c.as_slice.ensures in
    let globals : c.put_constants.new.globals ≡ map (λ g. constant g.init) c.args.module.now.globals = c.put_constants.ensures ∙ ap (λ (l : List Global). map (λ g. constant g.init) l) c.as_slice-2.ensures in
    let entries : c.first_size-2.result ≡ first_size c.args.module.now.tables = c.first_size-2.ensures ∙ ap (λ (l : List Limits). first_size l) c.as_slice-3.ensures in
    let gives : load_within c.args.self.now.memory.limit c.args.module.now ≡ Loaded (standing c.put_all.new.self) =
    load_by c.args.module.now c.clear.new.self.memory c.grow.new.self c.grow.result c.first_size.result c.first_size-2.result c.args.self.now.memory.limit c.put_constants.new.globals c.put_blanks.new.table (Loaded (standing c.put_all.new.self))
    none c.clear.ensures.limit c.if-is_none.ensures c.grow.ensures.refused.1 c.grow.ensures.grown pages globals c.put_blanks.ensures entries c.if-not-put_all.ensures.fits in
    answers_loaded {A = Unit {0}} (load_within c.args.self.now.memory.limit c.args.module.now) _ (standing c.put_all.new.self) refl gives
