use Rattle.std.proofs.Common.{◌∙◌, ap, List, [], ◌∷◌}
use Rattle.wasm_tree.specs.declared.types.ValueType.{ValueType}
use Rattle.wasm_tree.specs.declared.types.ValueType.TheVariants.{I32}
use Rattle.wasm_tree.specs.declared.types.FunctionType.{FunctionType}
use Rattle.wasm_tree.specs.declared.module_parts.Module.{Module}
use Rattle.wasm_tree.specs.Exec.{same_kinds}
use Rattle.module_entries.proofs.Callable.{signature_at, environment_at, no_results, some_results}
use Rattle.module_entries.proofs.entries.is_callback.Goals as goal

pub bounds-as_slice-found : goal.bounds-as_slice-found
bounds-as_slice-found c = signature_at _ _ c.layout.ensures _ c.as_slice-functions.ensures c.args.function c.if-index-functions.false _ _ (c.as_slice.ensures ∙ ap (λ (m : Module). m.types) c.module.ensures.is)

pub returns-then-found-eq0 : goal.returns-then-found-eq0
returns-then-found-eq0 c =
    c.are_one_word.ensures
    ∙ ap (λ (kinds : List ValueType). same_kinds kinds (I32 ∷ [])) (c.as_slice-then-found-eq0.ensures ∙ ap (λ (t : FunctionType). t.params) c.index-as_slice-found.is)
    ∙ no_results _ _ _ (environment_at _ _ c.layout.ensures _ c.as_slice-functions.ensures c.args.function c.if-index-functions.false _ _ (c.as_slice.ensures ∙ ap (λ (m : Module). m.types) c.module.ensures.is) _) c.if-found-eq0.true

pub returns-else-found-eq0 : goal.returns-else-found-eq0
returns-else-found-eq0 c =
    some_results _ _ _ (environment_at _ _ c.layout.ensures _ c.as_slice-functions.ensures c.args.function c.if-index-functions.false _ _ (c.as_slice.ensures ∙ ap (λ (m : Module). m.types) c.module.ensures.is) c.index-as_slice-found.result) c.if-found-eq0.false
