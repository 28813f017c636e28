use Rattle.mo_types.specs.Graph.{head_at}
use Rattle.mo_subtype.proofs.Natural.{sub_there, sub_back}
use Rattle.mo_subtype.proofs.laws.renaming_keeps_subtyping.Goals as goal

pub returns : goal.returns
returns c = λ old new f e n t u. (sub_there f (head_at old) (head_at new) e n t u, sub_back f (head_at old) (head_at new) e n t u)
