use Rattle.std.proofs.Common.{◌<◌, List, length, Some, get_or, sym, ap, ◌∙◌, subst}
use Rattle.wasm_tree.specs.declared.types.FunctionType.{FunctionType}
use Rattle.wasm_tree.specs.Exec.{same_type}
use Rattle.wasm_machine.proofs.Callees.{signature_within, types_are}
use Rattle.wasm_machine.proofs.sought.has_type.Goals as goal

pub bounds-types-own : goal.bounds-types-own
bounds-types-own c = subst (λ (l : List FunctionType). c.function_at-own.result.signature < length l) (sym c.as_slice-types.ensures) (signature_within _ _ c.requires.laid _ _ c.function_at-own.ensures)

pub returns : goal.returns
returns c =
    let own = c.index-types-own.result in
    let other = c.index-types-signature.result in
    c.is_same_type.ensures
    ∙ ap (λ (a : FunctionType). same_type (Some a) (Some other)) c.index-types-own.is
    ∙ ap (λ (b : FunctionType). same_type (Some (get_or c.as_slice-types.result.now c.function_at-own.result.signature own)) (Some b)) c.index-types-signature.is
    ∙ types_are _ _ c.requires.laid _ _ c.function_at-own.ensures c.args.signature c.as_slice-types.result.now own other c.as_slice-types.ensures c.requires.signature
