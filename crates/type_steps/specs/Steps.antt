-- Types that are met, and conditions that types are below others, by what the rules say of them.
use Rattle.std.specs.Prelude.{ℕ, List, [], ◌∷◌, map}
use Rattle.type_terms.specs.declared.form.TermId.{TermId}
use Rattle.typing_rules.specs.declared.condition.Condition.{Condition}
use Rattle.typing_rules.specs.Judgements.{Fine, IsBelow, Judgement, Meets, MeetsEach, Needs, NeedsEach, Question}
use Rattle.typing_rules.specs.Terms.{Term}
use Rattle.type_definitions.specs.Meanings.{term}
use Rattle.judging.specs.Views.{View}

-- the type is met
abbrev pub meeting : TermId → View → Judgement (Unit {0})
meeting id v = Meets (term v.later id) Fine

abbrev pub meeting_each : List TermId → View → Judgement (Unit {0})
meeting_each ids v = MeetsEach (map (term v.later) ids) Fine

-- whether each is below the one at its place
abbrev pub each_below : List Term → List Term → List Question
each_below (u ∷ us) (w ∷ ws) = IsBelow u w ∷ each_below us ws
each_below _ _ = []

abbrev pub needing : Condition → ℕ → TermId → TermId → View → Judgement (Unit {0})
needing q at low high v = Needs q at (IsBelow (term v.later low) (term v.later high)) Fine

abbrev pub needing_each : Condition → ℕ → List TermId → List TermId → View → Judgement (Unit {0})
needing_each q at lows highs v = NeedsEach q at (each_below (map (term v.later) lows) (map (term v.later) highs)) Fine
