use Rattle.std.proofs.Common.{◌++◌, ◌∷◌, [], ℕ, List, map, Some, ap, ◌∙◌}
use Rattle.low_ir.specs.Numbering.{host_types}
use Rattle.wasm_emit.specs.Emit.{emitted_function, emitted_global, emitted_export, begin}
use Rattle.wasm_emit.proofs.Compile.{compiled_parts}
use Rattle.wasm_emit.proofs.emission.to_wasm.Goals as goal

pub returns : goal.returns
returns c =
    compiled_parts c.args.low.now _ _ _ _ _ _ _ _ _
    (c.in_ok-types.ensures ∙ ap (λ l. host_types ++ l) c.as_slice.ensures)
    c.in_ok-host_imports.ensures
    (c.in_ok-functions.ensures ∙ ap (map emitted_function) c.as_slice-2.ensures)
    (c.in_ok-limits.ensures ∙ ap (λ n. record { min = n; max = Some n } ∷ []) c.len-entries.ensures)
    c.in_ok-limits-2.ensures
    (c.in_ok-globals.ensures ∙ ap (map emitted_global) c.as_slice-3.ensures)
    (c.in_ok-exports.ensures ∙ ap (map emitted_export) c.as_slice-4.ensures)
    (c.in_ok-elements.ensures ∙ ap (λ (l : List ℕ). record { table = 0; offset = begin; functions = l } ∷ []) c.as_slice-5.ensures)
    (c.in_ok-segments.ensures ∙ ap (λ (l : List ℕ). record { memory = 0; offset = begin; bytes = l } ∷ []) c.as_slice-6.ensures)
