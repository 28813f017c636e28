-- The states that a run comes to, and what is seen of its items.
use Rattle.std.specs.Prelude.{◌≡◌, ◌≢◌, ⊤, ℕ, zero, suc, ◌+◌, List, [], ◌∷◌, Bool, true, false}
use Rattle.std.specs.List.{AllByRecursion}
use Rattle.play_script.specs.declared.event.Event.{Event}
use Rattle.play_script.specs.declared.item.Item.{Item}
use Rattle.play_script.specs.declared.item.Item.TheVariants as item
use Rattle.mo_actor.specs.Languages.{Language}
use Rattle.mo_actor.specs.Programs.{Program}
use Rattle.mo_actor.specs.Measures.{Measure, is_limit}
use Rattle.mo_actor.specs.States.{ActorState, NoActor}
use Rattle.mo_actor.specs.Outcomes.{Outcome}
use Rattle.mo_actor.specs.Steps.{Step}

module _ {L : Language} (pays : Measure) (programs : List (Program L)) (own : List ℕ) where
  -- From the one state the events lead to the other.
  abbrev pub LeadsTo : ActorState L → List Event → ActorState L → Type 0
  LeadsTo state [] last = last ≡ state
  LeadsTo state (e ∷ events) last = (reached : Outcome (ActorState L)) × Step pays programs own e state reached × LeadsTo reached.next events last

  -- The state behind these events in a run.
  abbrev pub Reaches : List Event → ActorState L → Type 0
  Reaches events last = LeadsTo (NoActor 0 []) events last

-- ---- items

abbrev pub is_trap : Item → Bool
is_trap (item.Trapped cause) = true
is_trap _ = false

-- The item of an event that was exhausted.
abbrev pub is_exhausted : Item → Bool
is_exhausted (item.Trapped cause) = is_limit cause
is_exhausted _ = false

-- The numbers of the outgoing calls.
abbrev pub call_numbers : List Item → List ℕ
call_numbers [] = []
call_numbers (item.Call number callee method argument ∷ items) = number ∷ call_numbers items
call_numbers (_ ∷ items) = call_numbers items

-- The numbers of the incoming calls that are answered.
abbrev pub answered_numbers : List Item → List ℕ
answered_numbers [] = []
answered_numbers (item.Replied number bytes ∷ items) = number ∷ answered_numbers items
answered_numbers (item.Rejected number code text ∷ items) = number ∷ answered_numbers items
answered_numbers (_ ∷ items) = answered_numbers items

-- So many numbers, one after the other.
abbrev pub count_from : (first count : ℕ) → List ℕ
count_from first zero = []
count_from first (suc count) = first ∷ count_from (first + 1) count

-- No number comes twice.
abbrev pub AreDistinct : List ℕ → Type 0
AreDistinct [] = ⊤
AreDistinct (n ∷ numbers) = AllByRecursion (λ m. m ≢ n) numbers × AreDistinct numbers
