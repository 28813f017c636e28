use Rattle.program_facts.proofs.Tokens.{tokens_are_written}
use Rattle.program_facts.proofs.laws.tokens_are_written.Goals as goal

pub returns : goal.returns
returns c = tokens_are_written
