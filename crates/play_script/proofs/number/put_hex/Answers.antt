use Rattle.std.proofs.Common.{◌≡◌, ◌++◌, arith, ap, ◌∙◌}
use Rattle.std.proofs.lemmas.Result.{on_ok_weaker}
use Rattle.hex.specs.Hex.{IsBytes}
use Rattle.play_script.specs.Numbers.{hex_text}
use Rattle.play_script.proofs.HexWriting.{same_text}
use Rattle.play_script.proofs.number.put_hex.Goals as goal

pub returns : goal.returns
returns c =
    let fits : IsBytes c.args.bytes.now = λ i. let f = c.type_inv.bytes i in omega arith in
    let text : c.as_bytes.result.now ≡ hex_text c.args.bytes.now = c.as_bytes.ensures.value ∙ c.in_ok-text.ensures ∙ same_text c.args.bytes.now fits in
    on_ok_weaker c.extend.result (λ e. e ∙ ap (λ t. c.args.out.now ++ t) text) c.extend.ensures.ok
