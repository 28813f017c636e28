use Rattle.std.proofs.Common.{◌≡◌, ◌++◌, ◌∙◌, ap, arith}
use Rattle.std.proofs.lemmas.Grind.{common_steps}
use Rattle.low_ir.specs.Numbering.{host_types}
use Rattle.wasm_emit.proofs.interface.types.Goals as goal

pub returns : goal.returns
unfolding host_types
returns c =
    let host : c.in_ok-types.types ≡ host_types = c.in_ok-types.ensures in
    let all : c.loop-t.types ≡ c.in_ok-types.types ++ c.args.own.now = grind (arith, common_steps) in
    all ∙ ap (λ l. l ++ c.args.own.now) host
