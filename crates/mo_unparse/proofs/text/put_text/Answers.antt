use Rattle.std.proofs.Common.{◌<◌, arith}
use Rattle.std.proofs.lemmas.List.Elements.{All-from_get_or}
use Rattle.std.proofs.lemmas.Result.{on_ok_weaker}
use Rattle.mo_unparse.proofs.TextLemmas.{adds_text}
use Rattle.mo_unparse.proofs.text.put_text.Goals as goal

pub returns : goal.returns
returns c =
    on_ok_weaker c.push-2.result
    (λ e.
    adds_text c.args.text.now c.args.out.now c.push.new.self c.put_items.new.out c.push-2.new.self
    (All-from_get_or (λ b. b < 256) c.args.text.now 0 (λ i _. omega (arith, c.type_inv.text i))) c.in_ok-push.ensures.ok c.in_ok-put_items.ensures e)
    c.push-2.ensures.ok
