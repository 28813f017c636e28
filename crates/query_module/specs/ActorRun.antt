-- The run of an actor of constant queries, from its installation on: IC interface specification, sections Update call and Query call.
use Rattle.std.specs.Prelude.{◌≡◌, ⊤, ℕ, ◌+◌, ◌⊎◌, List, [], ◌∷◌, Bool, false, Contains, codes}
use Rattle.query_source.specs.declared.query.Method.{Method}
use Rattle.play_script.specs.declared.event.Event.{Event}
use Rattle.play_script.specs.declared.event.Event.TheVariants as event
use Rattle.play_script.specs.declared.item.Item.{Item}
use Rattle.play_script.specs.declared.item.Item.TheVariants as item
use Rattle.query_module.specs.Message.{empty_message, IsNatMessage}

abbrev pub IsMethodOf : List Method → List ℕ → Method → Type 0
IsMethodOf methods name m = Contains methods m × (m.name ≡ name)

-- A call of the update method that each actor has besides its own methods.
abbrev pub IsResume : Bool → List ℕ → Type 0
IsResume query name = (query ≡ false) × (name ≡ codes "__resume")

-- The answer to the incoming call with this number. A method replies with its number, to a query and to an update call
-- alike; `__resume` replies with no values; there are no other methods.
abbrev pub IsAnswer : List Method → ℕ → Bool → List ℕ → Item → Type 0
IsAnswer methods number query name answer =
    ((m : Method) × IsMethodOf methods name m × (bytes : List ℕ) × IsNatMessage m.number bytes × (answer ≡ item.Replied number bytes))
    ⊎ (IsResume query name × (answer ≡ item.Replied number empty_message))
    ⊎ (((m : Method) → IsMethodOf methods name m → ⊥) × (IsResume query name → ⊥) × (answer ≡ item.Rejected number 5 (codes "no method")))

-- The item of an event, where this number is that of the next incoming call. The actor makes no calls, so that an answer to
-- one is ignored.
abbrev pub IsItemOf : List Method → ℕ → Event → Item → Type 0
IsItemOf methods number (event.Install place) answer = ⊥
IsItemOf methods number (event.Call query name caller bytes) answer = IsAnswer methods number query name answer
IsItemOf methods number (event.Reply call bytes) answer = answer ≡ item.Ignored
IsItemOf methods number (event.Reject call code text) answer = answer ≡ item.Ignored
IsItemOf methods number (event.Upgrade place) answer = ⊥

-- Incoming calls take their numbers in turn.
abbrev pub number_after : ℕ → Event → ℕ
number_after number (event.Install place) = number
number_after number (event.Call query name caller bytes) = number + 1
number_after number (event.Reply call bytes) = number
number_after number (event.Reject call code text) = number
number_after number (event.Upgrade place) = number

-- One item for each event, in turn.
abbrev pub AreAnswers : List Method → ℕ → List Event → List Item → Type 0
AreAnswers methods number [] items = items ≡ []
AreAnswers methods number (e ∷ events) items =
    (first : Item) × (rest : List Item) × (items ≡ first ∷ rest) × IsItemOf methods number e first × AreAnswers methods (number_after number e) events rest

-- The items of an actor of these methods that is installed and then given the events.
abbrev pub IsRunOf : List Method → List Event → List Item → Type 0
IsRunOf methods events items = (answers : List Item) × (items ≡ item.Installed ∷ answers) × AreAnswers methods 0 events answers

-- What such an actor is given here: calls without arguments, and answers to calls.
abbrev pub IsGiven : Event → Type 0
IsGiven (event.Install place) = ⊥
IsGiven (event.Call query name caller bytes) = bytes ≡ empty_message
IsGiven (event.Reply call bytes) = ⊤
IsGiven (event.Reject call code text) = ⊤
IsGiven (event.Upgrade place) = ⊥
