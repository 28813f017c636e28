use Rattle.std.proofs.Common.{Some, refl, sym, ap, ◌∙◌, arith}
use Rattle.wasm_valid.specs.declared.blocks.Opened.{Opened}
use Rattle.wasm_valid.specs.Blocks.{label_by}
use Rattle.wasm_valid.proofs.Labels.{label_at, label_end, label_past}
use Rattle.wasm_valid.proofs.blocks.label_in.Goals as goal

pub returns-then-label-count : goal.returns-then-label-count
returns-then-label-count c =
    let here = ap (λ (o : Opened). Some (label_by o.opener o.result)) c.index-items-count.is in
    ap Some c.label_of.ensures ∙ here ∙ sym (label_at c.args.items.now _ refl c.args.outcome c.args.label c.index-items-count.result c.if-label-count.true)

pub returns-then-label-count-2 : goal.returns-then-label-count-2
returns-then-label-count-2 c = sym (label_end c.args.items.now _ refl c.args.outcome c.args.label (omega arith))

pub returns-else-label-count-2 : goal.returns-else-label-count-2
returns-else-label-count-2 c = sym (label_past c.args.items.now _ refl c.args.outcome c.args.label (omega arith))
