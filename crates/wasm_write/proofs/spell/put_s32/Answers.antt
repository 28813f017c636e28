use Rattle.std.proofs.lemmas.Result.{on_ok_weaker}
use Rattle.std.proofs.lemmas.Int.{to_z-of_z}
use Rattle.std.proofs.Common.{arith, rules}
use mir.Syntax.{w32, w128}
use mir.Val.{SFits}
use Rattle.wasm_write.proofs.Least.{s32_appends}
use Rattle.wasm_write.proofs.spell.put_s32.Goals as goal

pub returns : goal.returns
returns c =
    let fits : SFits w32 c.args.number.now = search rules in
    let wide : SFits w128 c.args.number.now = record { sfits = omega (arith, fits.sfits) } in
    on_ok_weaker c.sleb_write.result (s32_appends _ _ _ fits) (simp to_z-of_z at c.sleb_write.ensures.ok)
