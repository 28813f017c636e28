use Rattle.typing_rules.proofs.Parts.{part_to, part_from}
use Rattle.typing_rules.proofs.laws.judgements_go_by_their_parts.Goals as goal

pub returns : goal.returns
returns g c = λ defs j k met r. (part_to defs k j met r, part_from defs k j met r)
