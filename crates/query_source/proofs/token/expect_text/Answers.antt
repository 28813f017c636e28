use Rattle.std.proofs.Common.{sym, ◌∙◌}
use Rattle.std.proofs.lemmas.Slice.Eq.{strip_prefix_is}
use Rattle.std.proofs.lemmas.Bool.Decides.{Decides-eqb}
use Rattle.query_source.proofs.Reading.{not_next, runs_on, is_next}
use Rattle.query_source.proofs.token.expect_text.Goals as goal

pub returns-in_default-clause-none : goal.returns-in_default-clause-none
returns-in_default-clause-none c = not_next _ _ _ c.requires c.after_blanks.ensures (rw c.in_default.is at (strip_prefix_is Decides-eqb c.after_blanks.result.now c.args.token.now c.strip_prefix.result c.strip_prefix.ensures.cases))

pub returns-then-is_apart-clause-some : goal.returns-then-is_apart-clause-some
returns-then-is_apart-clause-some c = is_next _ _ _ _ c.after_blanks.ensures (rw c.in-Some.is at (strip_prefix_is Decides-eqb c.after_blanks.result.now c.args.token.now c.strip_prefix.result c.strip_prefix.ensures.cases)) (sym c.is_apart.ensures ∙ c.if-is_apart.true)

pub returns-else-is_apart-clause-none : goal.returns-else-is_apart-clause-none
returns-else-is_apart-clause-none c = runs_on _ _ _ _ c.requires c.after_blanks.ensures (rw c.in-Some.is at (strip_prefix_is Decides-eqb c.after_blanks.result.now c.args.token.now c.strip_prefix.result c.strip_prefix.ensures.cases)) (sym c.is_apart.ensures ∙ c.if-is_apart.false)
