use Rattle.std.proofs.Common.{true}
use Rattle.pattern_elab.proofs.Chosen.{made_choose}
use Rattle.pattern_coverage.proofs.Suited.{each_suits}
use Rattle.pattern_coverage.proofs.laws.values_suit_their_patterns.Goals as goal

pub returns-clause-suit : goal.returns-clause-suit
returns-clause-suit g c = λ head t ps v on i. each_suits _ head (λ u. true) i.0 ps t v on i.2

pub returns-clause-chosen : goal.returns-clause-chosen
returns-clause-chosen g c = λ head t ps made v made_so on i. made_choose ps made made_so v (each_suits _ head (λ u. true) i.0 ps t v on i.2)
