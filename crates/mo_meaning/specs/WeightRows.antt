-- What executions and messages weigh, counted by hand.
use Rattle.std.specs.Prelude.{ℕ, List, [], ◌∷◌, ◌++◌, Option, Some, None}
use Rattle.mo_actor.specs.Computed.{Followed, ToItsEnd, followed}
use Rattle.mo_actor.specs.Executions.{Completion, Completes, Progress, Execution, ReadingCost}
use Rattle.mo_actor.specs.IncomingCalls.{entered}
use Rattle.mo_actor.specs.CallAnswers.{Reply, answering}
use Rattle.mo_actor.specs.Programs as actor
use Rattle.mo_actor.specs.States.{Actor, ActorState, NoActor, Running}
use Rattle.mo_actor.specs.Steps.{event_course}
use Rattle.play_script.specs.declared.event.Event.TheVariants as event
use Rattle.mo_types.specs.declared.node.TypeId.{TypeId}
use Rattle.mo_types.specs.Calls.{Call, call_at}
use Rattle.typed_tree.specs.Programs.{Program}
use Rattle.mo_meaning.specs.Acts.{Given}
use Rattle.mo_meaning.specs.CounterRows.{counter}
use Rattle.mo_meaning.specs.ExampleTypes.{graph, nat, person, list}
use Rattle.mo_meaning.specs.ExampleWeights.{example}
use Rattle.mo_meaning.specs.Kernel.{kernel, Entry, Fields, Kept}
use Rattle.mo_meaning.specs.MessageRows.{person_header, list_message}
use Rattle.mo_meaning.specs.Messages.{reading_cost}
use Rattle.mo_meaning.specs.Playing.{meant, own, calls, caller, empty, nat_message}

-- ---- executions: the weight and the depth

abbrev pub of_progress : {A : Type 0} → Progress A → ℕ × ℕ
of_progress p = (p.weight, p.depth)

-- an update method, or else a query method
abbrev pub entry_or : Option Entry → Option Entry → Option Entry
entry_or None query = query
entry_or (Some entry) query = Some entry

abbrev pub of_method : actor.Program kernel → Actor kernel → Option Entry → Option (ℕ × ℕ)
of_method p a None = None
of_method p a (Some entry) = Some (of_progress (entered p own a entry caller empty 60))

abbrev pub of_state : List ℕ → ActorState kernel → Option (ℕ × ℕ)
of_state name (NoActor made activations) = None
of_state name (Running p a) = of_method p a (entry_or (p.update name) (p.query name))

abbrev pub of_followed : List ℕ → Option (Followed (ActorState kernel)) → Option (ℕ × ℕ)
of_followed name None = None
of_followed name (Some f) = of_state name f.reached.next

-- a method that is called directly after the installation
abbrev pub method_counts : Program → List ℕ → Option (ℕ × ℕ)
method_counts p name = of_followed name (followed (event_course (meant p ∷ []) own (event.Install 0) (NoActor 0 [])) (ToItsEnd 60 ∷ []))

-- `n += 1; n`, in a body of 5 nodes. The argument's 6 bytes 6, the context with its byte 3; the call 1, the body 5, its
-- parameter 1; the update 1, reading 1, the sum 1, writing 1; the sequence 1, its pattern 1; reading 1; leaving 1; the reply
-- of 8 bytes and 1 part 9.
abbrev pub wanted_inc : Option (ℕ × ℕ)
wanted_inc = Some (33, 21)

-- `n += 1; await o.f(); ..`, in a body of 12 nodes. As above 9 and 14; the update 4, the sequence 2; `o.f` 1 and a part with its
-- byte 2; the call 1, the method's byte 1, its message's bytes 6; the `await` 1 and the body 12.
abbrev pub wanted_go : Option (ℕ × ℕ)
wanted_go = Some (53, 28)

-- `Debug.print("q"); n += 1; n`, in a body of 12 nodes. As above 9 and 14; the built-in function 2, its call 1, the print 3, leaving
-- it 1; the sequence 2, the update 4, the sequence 2, reading 1; leaving 1; the reply 9. The frame of the built-in function stands
-- on that of the method.
abbrev pub wanted_quiet : Option (ℕ × ℕ)
wanted_quiet = Some (49, 44)

-- ---- what goes on behind an `await`, of `let k = n; await o.f(); n := k + 1`

abbrev pub of_call : actor.Program kernel → Actor kernel → Option (Call (List TypeId) Given) → Option (ℕ × ℕ)
of_call p a None = None
of_call p a (Some call) = Some (of_progress (answering p own a 0 call (Reply empty) 60))

abbrev pub of_answer : Option (Followed (ActorState kernel)) → Option (ℕ × ℕ)
of_answer None = None
of_answer (Some f) = of_waiting f.reached.next
  where
    of_waiting : ActorState kernel → Option (ℕ × ℕ)
    of_waiting (NoActor made activations) = None
    of_waiting (Running p a) = of_call p a (call_at a.table 0)

abbrev pub then_called : Program → List ℕ → Option (Followed (ActorState kernel)) → Option (Followed (ActorState kernel))
then_called p name None = None
then_called p name (Some f) = followed (event_course (meant p ∷ []) own (calls name) f.reached.next) (ToItsEnd 60 ∷ [])

-- the reply to the first call of a method
abbrev pub answer_counts : Program → List ℕ → Option (ℕ × ℕ)
answer_counts p name = of_answer (then_called p name (followed (event_course (meant p ∷ []) own (event.Install 0) (NoActor 0 [])) (ToItsEnd 60 ∷ [])))

-- The reply's 6 bytes 6, the body that goes on 11; the `await` 1, the sequence 2, the sum 1, writing 1; leaving 1; the reply of
-- 6 bytes 6.
abbrev pub wanted_answer : Option (ℕ × ℕ)
wanted_answer = Some (29, 27)

-- ---- the counter's start, its saving, and its start over what was saved

abbrev pub counter_counts : List (ℕ × ℕ)
counter_counts = of_progress (fresh 60) ∷ of_store (fresh 60).completion
  where
    fresh : Execution Fields
    fresh = (meant counter).start own None

    of_kept : Option (Completion Kept) → List (ℕ × ℕ)
    of_kept (Some (Completes kept)) = of_progress ((meant counter).start own (Some kept) 60) ∷ []
    of_kept _ = []

    of_saved : Progress Kept → List (ℕ × ℕ)
    of_saved p = of_progress p ∷ of_kept p.completion

    of_store : Option (Completion Fields) → List (ℕ × ℕ)
    of_store (Some (Completes fields)) = of_saved ((meant counter).save own fields 60)
    of_store _ = []

-- The start: the list's nodes 4; the case of null 2, the cell 1, its name 2; the functions 1 and their nodes 7; the tuple of two
-- 4, the object 3, the tuple of four 6; leaving 1. The saving: the body's node 1, leaving it 1, a number 1, and 12 bytes before a
-- message of 12. Over what was saved: the header's 11 bytes twice, 1 byte, a number 1; both cases 4 for 2; the name of the whole
-- 2, its hook 1, the case of null 2; and a level of what is read stands on the list.
abbrev pub wanted_counter_counts : List (ℕ × ℕ)
wanted_counter_counts = (31, 20) ∷ (27, 17) ∷ (62, 36) ∷ []

-- ---- messages: the header's bytes for each type and entry and once more, the others once, the parts and bytes of the values;
-- and 16 for each level

abbrev pub cost : ℕ → ℕ → ReadingCost
cost weight depth = record { weight = weight; depth = depth }

abbrev pub message_costs : List ReadingCost
message_costs =
    reading_cost example graph [] empty
    ∷ reading_cost example graph (nat ∷ []) (nat_message 5)
    -- 3 bytes that are no message
    ∷ reading_cost example graph (nat ∷ []) (1 ∷ 2 ∷ 3 ∷ [])
    -- a header of 20 bytes, 3 types with 2 entries, 4 bytes; an object of a number and a text of 2 bytes
    ∷ reading_cost example graph (person ∷ []) (person_header ++ (0x07 ∷ 0x02 ∷ 0x42 ∷ 0x6f ∷ []))
    -- a header of 15 bytes, 3 types with 3 entries, 7 bytes; 3 options of pairs of a number and an option, and null
    ∷ reading_cost example graph (list ∷ []) list_message
    ∷ []

abbrev pub wanted_message_costs : List ReadingCost
wanted_message_costs = cost 6 0 ∷ cost 16 16 ∷ cost 6 0 ∷ cost 129 32 ∷ cost 122 112 ∷ []
