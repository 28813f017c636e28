use Rattle.std.proofs.lemmas.Result.{on_ok_weaker}
use Rattle.kept_parts.proofs.forming.form_node.Goals as goal

pub returns : goal.returns
returns c = on_ok_weaker c.put_asked.result (λ h. record { adds = c.in_ok-put_form_at.ensures; waits = h }) c.put_asked.ensures
