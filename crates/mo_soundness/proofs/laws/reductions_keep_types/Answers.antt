use Rattle.mo_soundness.specs.Worlds.{plain_world}
use Rattle.mo_soundness.proofs.Members.{members_keep}
use Rattle.mo_soundness.proofs.Steps.{keeps}
use Rattle.mo_soundness.proofs.laws.reductions_keep_types.Goals as goal

pub returns : goal.returns
returns c = λ head lawful answers kinds labels w given store e n s h i. keeps (plain_world head) lawful answers kinds (members_keep (plain_world head) lawful answers kinds) given store s e labels w n h i
