use Rattle.std.proofs.Common.{ap, length, map, sym, ◌∙◌}
use Rattle.std.proofs.lemmas.List.{length-map}
use Rattle.core_scopes.specs.Seen.{seen_place}
use Rattle.core_scopes.proofs.Nearest.{same_scope, split_map}
use Rattle.core_scopes.proofs.Within.{behind_within, beside_within, inside_within, labelled_within, within_both, within_same}
use Rattle.elaboration.specs.Checks.{behind}
use Rattle.elaboration.specs.Scopes.{beside, inside, labelled}
use Rattle.core_scopes.proofs.scope.Scope.back.Goals as goal

pub returns-clause-within : goal.returns-clause-within
returns-clause-within c = λ before mark within.
    let old = split_map seen_place c.self.inside.places within.names before.places (ap (λ s. s.places) c.self.view_is ∙ within.places) in
    let places = c.truncate.ensures old.0 old.1 old.2 (mark.places ∙ (sym (ap length old.3) ∙ length-map old.1 seen_place)) in
    let exits = c.truncate-2.ensures within.labels before.exits (ap (λ s. s.exits) c.self.view_is ∙ within.exits) mark.exits in
    same_scope before (map seen_place c.truncate.new.self) c.args.mark.names c.truncate-2.new.self c.args.mark.labels (ap (map seen_place) places ∙ old.3) mark.names exits mark.labels

pub returns-clause-labelled : goal.returns-clause-labelled
returns-clause-labelled c = λ before mark is. returns-clause-within c before mark (within_same before (labelled before) _ is (labelled_within before))

pub returns-clause-inside : goal.returns-clause-inside
returns-clause-inside c = λ before mark is. returns-clause-within c before mark (within_same before (inside before) _ is (inside_within before))

pub returns-clause-beside : goal.returns-clause-beside
returns-clause-beside c = λ before n mark is. returns-clause-within c before mark (within_same before (beside n before) _ is (beside_within n before))

pub returns-clause-beside_inside : goal.returns-clause-beside_inside
returns-clause-beside_inside c = λ before n mark is. returns-clause-within c before mark (within_same before (beside n (inside before)) _ is (within_both before (inside before) (beside n (inside before)) (inside_within before) (beside_within n (inside before))))

pub returns-clause-inside_beside : goal.returns-clause-inside_beside
returns-clause-inside_beside c = λ before n mark is. returns-clause-within c before mark (within_same before (inside (beside n before)) _ is (within_both before (beside n before) (inside (beside n before)) (beside_within n before) (inside_within (beside n before))))

pub returns-clause-behind : goal.returns-clause-behind
returns-clause-behind c = λ before d mark is. returns-clause-within c before mark (within_same before (behind d before) _ is (behind_within d before))

pub returns-clause-behind_beside : goal.returns-clause-behind_beside
returns-clause-behind_beside c = λ before n d mark is. returns-clause-within c before mark (within_same before (behind d (beside n before)) _ is (within_both before (beside n before) (behind d (beside n before)) (beside_within n before) (behind_within d (beside n before))))

pub returns-clause-inside_behind : goal.returns-clause-inside_behind
returns-clause-inside_behind c = λ before n d mark is. returns-clause-within c before mark (within_same before (inside (behind d (beside n before))) _ is (within_both before (behind d (beside n before)) (inside (behind d (beside n before))) (within_both before (beside n before) (behind d (beside n before)) (beside_within n before) (behind_within d (beside n before))) (inside_within (behind d (beside n before)))))
