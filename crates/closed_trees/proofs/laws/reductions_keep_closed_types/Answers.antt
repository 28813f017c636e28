use Rattle.mo_soundness.proofs.Members.{members_keep}
use Rattle.mo_soundness.proofs.Steps.{keeps}
use Rattle.closed_trees.specs.Worlds.{closed_world}
use Rattle.closed_trees.proofs.Lawful.{closed_lawful}
use Rattle.closed_trees.proofs.laws.reductions_keep_closed_types.Goals as goal

pub returns : goal.returns
returns c = λ types graph basics first past answers kinds labels w given store e n s h i.
    let lawful = closed_lawful types first past graph basics in
    keeps (closed_world types first) lawful answers kinds (members_keep (closed_world types first) lawful answers kinds) given store s e labels w n h i
