-- What is taken over where the execution of an update method or of an answer completes, and what comes of a query.
use Rattle.std.specs.Prelude.{ℕ, ◌+◌, List, ◌++◌, map, slice_set}
use Rattle.play_script.specs.declared.item.Word.TheVariants as word
use Rattle.mo_types.specs.Calls.{Call, Open, next_number}
use Rattle.mo_actor.specs.Languages.{Language}
use Rattle.mo_actor.specs.Programs.{OutgoingCall, Ending, Answers, Awaits, AwaitsNothing, Unchanged, Effects}
use Rattle.mo_actor.specs.Results.{Result, Completed, Trapped, Exhausted}
use Rattle.mo_actor.specs.States.{Activation, IsAnswered, WaitsFor, WaitsForNothing, Actor, activation_at, with_activation}
use Rattle.mo_actor.specs.Outcomes.{Outcome, print_items, trap_items, call_items, answer_items, close}

module _ {L : Language} where
  abbrev pub activation_after : Ending L → Activation L → Activation L
  activation_after (Answers answer) activation = IsAnswered
  activation_after (Awaits number waiting) activation = WaitsFor number waiting
  activation_after AwaitsNothing activation = WaitsForNothing
  activation_after Unchanged activation = activation

  -- The call as it stands in the table.
  abbrev pub open_call : (owner : ℕ) → OutgoingCall L → Call L.results L.value
  open_call owner c = record { owner = owner; results = c.results; resumes = c.resumes; state = Open }

  -- The store, the calls and the activation are taken over: Motoko language manual, sections "Await" and "Async".
  abbrev pub committed : (owner weight : ℕ) → Effects L → Actor L → Actor L
  committed owner weight effects a = record {
    store = effects.store;
    table = record a.table { calls = a.table.calls ++ map (open_call owner) effects.calls };
    activations = slice_set a.activations owner (activation_after effects.ending (activation_at a.activations owner));
    charged = a.charged + weight;
  }

  -- An execution of this incoming call completed.
  abbrev pub complete : (owner : ℕ) → (prints : List (List ℕ)) → (weight : ℕ) → Effects L → Actor L → Outcome (Actor L)
  complete owner prints weight effects a =
      close owner (print_items prints ++ (call_items (next_number a.table) effects.calls ++ answer_items owner effects.ending)) (committed owner weight effects a)

  -- An update method: where it traps, nothing is taken over.
  abbrev pub update_outcome : (owner : ℕ) → Actor L → Result (Effects L) → Outcome (Actor L)
  update_outcome owner a (Completed prints weight effects) = complete owner prints weight effects a
  update_outcome owner a (Trapped prints text) = close owner (trap_items prints (word.Text text)) a
  update_outcome owner a (Exhausted prints cause) = close owner (trap_items prints cause) a

  -- A query leaves the actor as it was, but that its incoming call is answered: IC interface specification, section Query call.
  abbrev pub after_query : (owner : ℕ) → Ending L → Actor L → Actor L
  after_query owner (Answers answer) a = with_activation owner IsAnswered a
  after_query owner (Awaits number waiting) a = a
  after_query owner AwaitsNothing a = a
  after_query owner Unchanged a = a

  abbrev pub query_outcome : (owner : ℕ) → Actor L → Result (Effects L) → Outcome (Actor L)
  query_outcome owner a (Completed prints weight effects) = close owner (print_items prints ++ answer_items owner effects.ending) (after_query owner effects.ending a)
  query_outcome owner a (Trapped prints text) = close owner (trap_items prints (word.Text text)) a
  query_outcome owner a (Exhausted prints cause) = close owner (trap_items prints cause) a
