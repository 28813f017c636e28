use Rattle.closed_types.proofs.Instances.{put_in}
use Rattle.closed_types.proofs.laws.instances_are_closings.Goals as goal

pub returns : goal.returns
returns g x = λ head other closed ends c d within vs ts scope puts t u m i. put_in head other closed ends c d within vs ts scope puts t u m i
