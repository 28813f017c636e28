-- Elaborated programs as actors, whose events are computed.
use Rattle.std.specs.Prelude.{◌*◌, List, [], ◌∷◌, length, map, Option, Some, None}
use Rattle.play_script.specs.declared.event.Event.{Event}
use Rattle.play_script.specs.declared.event.Event.TheVariants as event
use Rattle.mo_types.specs.declared.node.TypeId.{TypeId}
use Rattle.mo_types.specs.Code.{Variable}
use Rattle.mo_types.specs.Graph.{head_at}
use Rattle.mo_types.specs.Values as message
use Rattle.mo_values.specs.Costs.{Cost}
use Rattle.mo_values.specs.Messages.{plain_each}
use Rattle.mo_values.specs.Recoding.{recode}
use Rattle.mo_values.specs.Shapes.{shapes}
use Rattle.mo_actor.specs.Computed.{Followed, ToItsEnd, followed}
use Rattle.mo_actor.specs.Executions.{ReadingCost}
use Rattle.mo_actor.specs.Languages.{Language}
use Rattle.mo_actor.specs.Measures.{first_memory}
use Rattle.mo_actor.specs.Programs as actor
use Rattle.mo_actor.specs.States.{ActorState, NoActor}
use Rattle.mo_actor.specs.Steps.{event_course}
use Rattle.core_ir.specs.Choices.{on_some}
use Rattle.core_ir.specs.Values.{Value}
use Rattle.core_ir.specs.Messages.{Messages, Saved}
use Rattle.core_ir.specs.Expressions.{Core}
use Rattle.core_ir.specs.CoreMachine.{Waiting, core_machine}
use Rattle.core_ir.specs.Actor.{core_language, actor_program}
use Rattle.typed_tree.specs.Language as source
use Rattle.typed_tree.specs.Opening.{shape_of}
use Rattle.typed_tree.specs.Programs.{Program, StableVariable}
use Rattle.mo_meaning.specs.Coding.{Types, Coding, stable_memory}
use Rattle.mo_meaning.specs.Messages.{joined_values, coded, read_values, reading_cost}
use Rattle.mo_meaning.specs.Kernel.{Kept}
use Rattle.mo_meaning.specs.Starting.{Taken, all_taken, all_kept, values_of_taken, kept_cost}
use Rattle.mo_meaning.specs.ExampleTypes.{graph}
use Rattle.mo_meaning.specs.ExampleWeights.{example}
use Rattle.mo_meaning.specs.Playing.{Items, own, with_items}
use Rattle.elaboration.specs.Programs.{elaborated}

-- ---- messages: values that hold no function

abbrev pub core_value : source.Value → Value
core_value v = recode (λ code. record { group = 0; member = 0 }) (shape_of v)

module _ (coding : Coding) (types : Types) (p : Program) where
  abbrev pub plain_of : List TypeId → List Value → Option message.Values
  plain_of ts vs = joined_values (plain_each (head_at types) (map (λ t. Some t) ts) (shapes vs))

  -- none where one of them is no value of its type
  abbrev pub variables_in : List StableVariable → List Value → Option (List (Variable TypeId))
  variables_in [] vs = Some []
  variables_in (v ∷ stable) [] = None
  variables_in (v ∷ stable) (w ∷ vs) =
      on_some None (plain_of (v.of_type ∷ []) (w ∷ [])) (λ value. on_some None (variables_in stable vs) (λ others. Some (record { name = v.name; type = v.of_type; value = value } ∷ others)))

  abbrev pub saved : List (Variable TypeId) → Saved Kept
  saved variables = record { kept = record { types = types; variables = variables }; size = length (stable_memory (coding.save types variables)) }

  abbrev pub taken_of : Kept → List Taken
  taken_of kept = all_taken coding kept.types types kept.variables p.stable

  abbrev pub as_reading : Cost → ReadingCost
  as_reading cost = record { weight = cost.weight; depth = 16 * cost.levels }

  abbrev pub messages_of : Messages Kept
  messages_of = record {
    spell = λ ts vs. coded coding types ts (plain_of ts vs);
    read = λ ts bytes. on_some None (read_values coding types ts bytes) (λ vs. Some (map core_value vs));
    reading_cost = λ ts bytes. reading_cost coding types ts bytes;
    save = λ vs. on_some None (variables_in p.stable vs) (λ variables. Some (saved variables));
    restore = λ kept. on_some None (all_kept (taken_of kept)) (λ vs. Some (map (λ o. on_some None o (λ v. Some (core_value v))) vs));
    restoring_cost = λ kept. as_reading (kept_cost coding types p kept (values_of_taken (taken_of kept)));
  }

-- ---- events

abbrev pub language : Language
language = core_language Waiting Kept

abbrev pub actor_of : Program → Core → actor.Program language
actor_of p c = actor_program (core_machine c) (messages_of example graph p) c (first_memory 1000 100)

abbrev pub run_elaborated : Program → actor.Program language
run_elaborated p = actor_of p (elaborated p)

abbrev pub behind_event : (ActorState language → Option Items) → Option (Followed (ActorState language)) → Option Items
behind_event go None = None
behind_event go (Some f) = with_items f.reached.items (go f.reached.next)

abbrev pub plays_from : List (actor.Program language) → List Event → ActorState language → Option Items
plays_from programs [] state = Some []
plays_from programs (e ∷ events) state = behind_event (plays_from programs events) (followed (event_course programs own e state) (ToItsEnd 900 ∷ ToItsEnd 900 ∷ []))

-- the first program is installed; then come the events
abbrev pub plays : List Program → List Event → Option Items
plays programs events = plays_from (map run_elaborated programs) (event.Install 0 ∷ events) (NoActor 0 [])
