use Rattle.typed_tree.proofs.Put.{put_put}
use Rattle.typed_tree.proofs.laws.substitutions_compose.Goals as goal

pub returns : goal.returns
returns c = λ s t e. put_put s t e
