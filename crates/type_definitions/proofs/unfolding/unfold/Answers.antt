use Rattle.std.proofs.Common.{subst}
use Rattle.type_definitions.specs.Tables.{Makes}
use Rattle.type_definitions.specs.Unfolding.{UseLeadsTo}
use Rattle.type_definitions.proofs.Unfolded.{outcomes_on, goes_on, ends, found_none, found_some}
use Rattle.type_definitions.proofs.unfolding.unfold.Goals as goal

pub unfold_use-requires-clause-outcomes : goal.unfold_use-requires-clause-outcomes
unfold_use-requires-clause-outcomes c = outcomes_on c.args.terms.now c.loop-turn.terms c.args.definitions.now c.args.outcomes.now c.loop-turn.invariant.grows c.requires.outcomes

pub returns-in-None : goal.returns-in-None
returns-in-None c = ends c.args.terms.now c.loop-turn.terms c.args.definitions.now c.args.id c.loop-turn.id c.loop-turn.invariant (found_none c.loop-turn.terms c.loop-turn.id c.in_ok-at.field-0 c.in_ok-at.ensures c.in-None.is)

pub loop-turn-preserved : goal.loop-turn-preserved
loop-turn-preserved c =
    goes_on c.args.terms.now c.loop-turn.terms c.unfold_use.new.terms c.args.definitions.now c.args.id c.loop-turn.id c.in_ok-id-in-Some.id c.in-Some.at c.in-Some.arguments
    c.loop-turn.invariant (found_some c.loop-turn.terms c.loop-turn.id c.in_ok-at.field-0 c.in-Some.at c.in-Some.arguments c.in_ok-at.ensures c.in-Some.is)
    (subst (λ xs. Makes c.loop-turn.terms (UseLeadsTo c.args.definitions.now c.in-Some.at xs c.in_ok-id-in-Some.id) c.in_ok-id-in-Some.id c.unfold_use.new.terms) c.as_slice.ensures c.in_ok-id-in-Some.ensures)
