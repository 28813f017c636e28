use Rattle.std.proofs.Common.{◌≡◌, ℕ, Option, None, arith, length, ap, ◌∙◌}
use Rattle.wasm_tree.specs.Load.{blank}
use Rattle.wasm_store.proofs.Filling.{blank-none, blank-more, length-blank}
use Rattle.wasm_store.proofs.store.put_blanks.Goals as goal

pub loop-init : goal.loop-init
loop-init c = c.requires.empty ∙ blank-none

pub push-requires : goal.push-requires
push-requires c =
    let long : length c.loop.table ≡ c.loop.counter = ap length c.loop.invariant ∙ length-blank c.loop.counter in
    (omega arith, omega arith)

pub loop-preserved : goal.loop-preserved
loop-preserved c = c.push.ensures ∙ blank-more c.loop.counter c.loop.table c.loop.invariant

pub returns : goal.returns
returns c = let same : c.loop.counter ≡ c.args.count = omega arith in c.loop.invariant ∙ ap (λ n. blank {A = Option ℕ} n None) same
