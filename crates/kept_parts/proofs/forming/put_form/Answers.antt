use Rattle.std.proofs.lemmas.Result.{on_ok_weaker}
use Rattle.kept_parts.proofs.FormSteps.{put_split}
use Rattle.kept_parts.proofs.forming.put_form.Goals as goal

pub returns : goal.returns
returns c =
    on_ok_weaker c.put_behind.result
    (λ h. put_split c.args.node.now c.args.part.now c.in_ok-made.made c.args.found.now.items c.push.new.self.items c.put_behind.new.found.items c.in_ok-made.ensures c.in_ok-push.ensures.items h)
    c.put_behind.ensures
