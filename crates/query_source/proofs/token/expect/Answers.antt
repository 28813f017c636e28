use Rattle.std.proofs.Common.{subst, List, ℕ}
use Rattle.query_source.specs.Tokens.{Next}
use Rattle.query_source.proofs.token.expect.Goals as goal

pub returns-in-None-clause-none : goal.returns-in-None-clause-none
returns-in-None-clause-none c = subst (λ (t : List ℕ). (rest : List ℕ) → Next t c.args.text.now rest → ⊥) c.token_text.ensures.text c.in-None.ensures.none
