use Rattle.kept_names.proofs.Judged.{lists_are_kept}
use Rattle.kept_names.proofs.laws.lists_are_kept.Goals as goal

pub returns : goal.returns
returns c = lists_are_kept
