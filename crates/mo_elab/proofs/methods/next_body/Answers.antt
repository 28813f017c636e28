use Rattle.mo_elab.proofs.Serving.{last_taken}
use Rattle.mo_elab.proofs.methods.next_body.Goals as goal

pub returns-in-Some : goal.returns-in-Some
returns-in-Some c = last_taken c.args.rest.now.items c.pop.new.self.items c.in-Some.body c.in-Some.ensures.items
