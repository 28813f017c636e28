use Rattle.std.proofs.Common.{sym, ◌∙◌}
use Rattle.std.proofs.lemmas.Bool.{false≢true}
use Rattle.query_source.proofs.Reading.{word_next}
use Rattle.query_source.proofs.Parts.{no_name}
use Rattle.query_source.proofs.actor.read_name.Goals as goal

pub returns-then-is_name-clause-some : goal.returns-then-is_name-clause-some
returns-then-is_name-clause-some c = (c.is_name.ensures.0 c.if-is_name.true, word_next _ _ _ c.word.ensures.run c.word.ensures.rest)

pub returns-else-is_name-clause-none : goal.returns-else-is_name-clause-none
returns-else-is_name-clause-none c = no_name _ _ _ c.word.ensures.run c.word.ensures.rest (λ n. false≢true (sym c.if-is_name.false ∙ c.is_name.ensures.1 n))
