-- What holds of each outcome that a course may come to.
use Rattle.std.proofs.Common.{ℕ, List, Bool, true, false, cond, sym, subst, codes}
use Rattle.std.specs.Prelude.{⊤}
use Rattle.play_script.specs.declared.item.Item.{Item}
use Rattle.mo_actor.specs.Languages.{Language}
use Rattle.mo_actor.specs.Measures.{Measure}
use Rattle.mo_actor.specs.Results.{Result, HasResult}
use Rattle.mo_actor.specs.States.{Actor, is_starved}
use Rattle.mo_actor.specs.Outcomes.{Outcome, outcome, rejected, close}
use Rattle.mo_actor.specs.Courses.{Course, Over, Runs, NoCourse, over_states, ComesTo}

module _ (pays : Measure) where
  abbrev pub AllOutcomes : {S : Type 0} → (Outcome S → Type 0) → Course S → Type 0
  AllOutcomes P (Over o) = P o
  AllOutcomes P (Runs A first_memory charged x behind) = (r : Result A) → HasResult pays first_memory charged x r → AllOutcomes P (behind r)
  AllOutcomes P NoCourse = ⊤

  pub each_outcome : {S : Type 0} (P : Outcome S → Type 0) (c : Course S) → AllOutcomes P c → (reached : Outcome S) → ComesTo pays c reached → P reached
  each_outcome P (Over o) all reached h = subst P (sym h) all
  each_outcome P (Runs A first_memory charged x behind) all reached h = each_outcome P (behind h.0) (all h.0 h.1) reached h.2
  each_outcome P NoCourse all reached h = absurd h

  pub all_over : {S T : Type 0} (P : Outcome T → Type 0) (f : S → T) (c : Course S) → AllOutcomes (λ o. P (outcome o.items (f o.next))) c → AllOutcomes P (over_states f c)
  all_over P f (Over o) all = all
  all_over P f (Runs A first_memory charged x behind) all = λ r has. all_over P f (behind r) (all r has)
  all_over P f NoCourse all = tt

-- The rejection of a starved call stands behind the items, or it does not.
pub closes : {L : Language} (P : Outcome (Actor L) → Type 0) (owner : ℕ) (items : List Item) (a : Actor L)
    → P (outcome items a) → P (rejected owner 5 (codes "no answer") items a) → P (close owner items a)
closes P owner items a plain starved = by (is_starved owner a)
  where
    by : (b : Bool) → P (cond b (rejected owner 5 (codes "no answer") items a) (outcome items a))
    by true = starved
    by false = plain
