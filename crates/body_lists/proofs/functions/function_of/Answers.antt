use Rattle.std.proofs.Common.{◌≡◌, ◌∙◌, ◌++◌, ◌∷◌, ◌-◌, ℕ, List, ap, map, replicate}
use Rattle.wasm_tree.specs.declared.types.ValueType.{ValueType}
use Rattle.wasm_tree.specs.declared.types.ValueType.TheVariants.{I32, I64}
use Rattle.core_ir.specs.Code.{Code}
use Rattle.core_ir.specs.CodeMachine.{first_of}
use Rattle.core_ir.specs.CodeView.{Names, code_of, names_of}
use Rattle.core_ir.specs.FormedCode.{most_of, most_operands}
use Rattle.low_ir.specs.declared.op.LowOp.{LowOp}
use Rattle.low_ir.specs.declared.module_parts.LowFunction.{LowFunction}
use Rattle.low_ir.specs.Flat.{flat}
use Rattle.flat_emission.specs.Emission.{Here, emit}
use Rattle.body_lists.specs.Known.{link_of, plan_of}
use Rattle.body_lists.proofs.functions.function_of.Goals as goal

pub returns : goal.returns
returns c = λ functions sees.
    let m = c.args.known.now in
    let b = c.args.body.now in
    let names : Names = names_of functions sees b in
    let segments : List Code = map (λ s. code_of s names) b.segments in
    let here : ℕ → Here = λ n. record { slots = b.slots; members = c.args.members; most = n } in
    let top : c.in-Ok.most ≡ most_of most_operands segments =
    c.in-Ok.ensures.1 ∙ c.segments_width.ensures names ∙ ap (λ xs. most_of most_operands (map (λ s. code_of s names) xs)) c.as_slice-segments.ensures in
    let locals : c.in_ok-locals.locals ≡ replicate (b.slots - b.parameters) I64 ++ I32 ∷ I32 ∷ I64 ∷ replicate (most_of most_operands segments) I64 =
    c.in_ok-locals.ensures ∙ ap (λ n. replicate (b.slots - b.parameters) I64 ++ I32 ∷ I32 ∷ I64 ∷ replicate n I64) top in
    let body : c.in_ok-body.body ≡ flat (emit (plan_of m) (link_of m) (here (most_of most_operands segments)) (first_of segments)) =
    c.in_ok-body.ensures names
    ∙ ap (λ xs. flat (emit (plan_of m) (link_of m) (here c.in-Ok.most) (first_of (map (λ s. code_of s names) xs)))) c.as_slice-segments.ensures
    ∙ ap (λ n. flat (emit (plan_of m) (link_of m) (here n) (first_of segments))) top in
    ap (λ (s : ℕ). let it : LowFunction = record { signature = s; locals = c.in_ok-locals.locals; body = c.in_ok-body.body } in it) c.in_ok-signature.ensures
    ∙ ap (λ (l : List ValueType). let it : LowFunction = record { signature = (link_of m).type_of b.parameters; locals = l; body = c.in_ok-body.body } in it) locals
    ∙ ap (λ (o : List LowOp). let it : LowFunction = record { signature = (link_of m).type_of b.parameters; locals = replicate (b.slots - b.parameters) I64 ++ I32 ∷ I32 ∷ I64 ∷ replicate (most_of most_operands segments) I64; body = o } in it) body
