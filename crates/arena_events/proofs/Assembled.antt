-- What begins an execution: a copy of the actor, with values in its arena that were read.
use Rattle.std.proofs.Common.{◌≡◌, ℕ, List, [], ◌∷◌, ◌++◌, Option, None, Some, Vec, Global, sym, ap, ◌∙◌}
use Rattle.mo_types.specs.declared.node.TypeId.{TypeId}
use Rattle.mo_types.specs.Graph.{Slot}
use Rattle.mo_values.specs.Shapes.{Bytes}
use Rattle.mo_actor.specs.States.{IsDead}
use Rattle.typed_tree.specs.Language as typed
use Rattle.typed_tree.specs.Language.{Functions}
use Rattle.mo_coding.specs.Faithful.{faithful}
use Rattle.mo_coding.proofs.Faithful.{is_faithful}
use Rattle.mo_meaning.specs.Kernel.{Entry}
use Rattle.mo_meaning.specs.Messages.{read_values}
use Rattle.value_arena.specs.declared.node.Node.{Node}
use Rattle.value_arena.specs.declared.node.ValueId.{ValueId}
use Rattle.value_arena.specs.Growth.{AreWithin, Grows}
use Rattle.arena_states.specs.declared.group.GroupOf.{GroupOf}
use Rattle.arena_executions.specs.declared.giving.Given.{Given}
use Rattle.arena_reading.specs.Opening.{AreRead, IsReadAs}
use Rattle.arena_actors.specs.declared.actor.Activation.TheVariants as activation
use Rattle.arena_actors.specs.declared.actor.Actor.{Actor}
use Rattle.arena_actors.specs.declared.actor.Filled.{Filled}
use Rattle.arena_actors.specs.declared.actor.Made.{Made}
use Rattle.arena_actors.specs.Copied.{IsActorCopy}
use Rattle.arena_actors.specs.States.{came_of, fields_of, IsSound}
use Rattle.arena_outcomes.specs.declared.ran.Ran.{Ran}
use Rattle.arena_events.specs.Answering.{IsGoingOn, IsGoingWith}
use Rattle.arena_outcomes.specs.Books.{state_set}
use Rattle.arena_events.specs.Calling.{IsEntered}
use Rattle.arena_events.specs.Filling.{AreGiven}
use Rattle.arena_outcomes.specs.Running.{IsMethod}
use Rattle.arena_events.proofs.Answered.{read_going}
use Rattle.arena_events.proofs.Calls.{plain_dead, read_entered}
use Rattle.arena_outcomes.proofs.Grown.{arrived_came, arrived_sound, grown_came, grown_fields, grown_sound}

-- ---- an incoming call whose argument was read

within_so : (ns : List Node) (o : Option (List typed.Value)) (ids : List ValueId) → IsReadAs ns o (Some ids) → AreWithin ns ids
within_so ns (Some vs) ids h = h.0
within_so ns None ids h = absurd h

-- by the coding of the definitions
pub read_within : (types : List Slot) (ts : List TypeId) (bytes : Bytes) (old : List Node) (ids : List ValueId) (new : List Node) → AreRead types ts bytes old (Some ids) new → AreWithin new ids
read_within types ts bytes old ids new read = within_so new (read_values faithful types ts bytes) ids (read.means faithful is_faithful)

module _ (x first arrived : Actor) (copied : IsActorCopy x first) (is : arrived ≡ record first { came = first.came ++ activation.Dead ∷ [] }) (ns : List Node) (grows : Grows arrived.arena ns) where
  formed : arrived ≡ record first { table = arrived.table; came = first.came ++ activation.Dead ∷ [] }
  formed =
      is ∙ ap (λ (t : Vec GroupOf Global). record first { table = t; came = first.came ++ activation.Dead ∷ [] }) (sym (ap (λ (y : Actor). y.table) is))

  copy_sound : IsSound arrived
  copy_sound = arrived_sound x first arrived activation.Dead IsDead copied formed plain_dead

  abbrev pub here : Actor
  here = record arrived { arena = ns }

  pub here_sound : IsSound here
  here_sound = grown_sound arrived ns grows copy_sound

  here_fields : (groups : ℕ → Functions) → fields_of groups ns arrived.store.items arrived.exports ≡ fields_of groups x.arena x.store.items x.exports
  here_fields groups =
      grown_fields arrived ns grows copy_sound groups ∙ ap (λ (y : Actor). fields_of groups y.arena y.store.items y.exports) is ∙ copied.fields groups

  here_came : (groups : ℕ → Functions) → came_of groups ns arrived.came ≡ came_of groups x.arena x.came ++ IsDead ∷ []
  here_came groups = grown_came arrived ns grows copy_sound groups ∙ arrived_came x first arrived activation.Dead IsDead copied formed plain_dead groups

  pub arrived_entered : (types : List Slot) (own : Bytes) (entry : Entry) (caller argument : Bytes) (n : ℕ) (old : List Node) (ids : List ValueId) (r : Ran)
      → AreRead types entry.parameters argument old (Some ids) ns → IsMethod types own entry.results entry.place caller ids n here r → IsEntered types own entry caller argument n x r
  arrived_entered types own entry caller argument n old ids r read h =
      read_entered types own entry caller argument n x here
      (ap (λ (y : Actor). y.table.items) is ∙ copied.table) (ap (λ (y : Actor). y.first) is ∙ copied.first) (ap (λ (y : Actor). y.made) is ∙ copied.made)
      here_fields here_came old ids r read h

-- ---- an answer that was read

module _ (x copy : Actor) (copied : IsActorCopy x copy) (ns : List Node) (grows : Grows copy.arena ns) (place : ℕ) (f : Filled) where
  abbrev pub filled_copy : Actor
  filled_copy = record copy { arena = ns; made = state_set copy.made place f }

  pub filled_sound : IsSound filled_copy
  filled_sound =
      let s : IsSound (record copy { arena = ns }) = grown_sound copy ns grows copied.sound in
      record { stores = s.stores; exports = s.exports; came = s.came }

  pub filled_going : (types : List Slot) (own : Bytes) (number : ℕ) (m : Made) (n : ℕ) (given : Given) (old : List Node) (r : Ran)
      → AreGiven types f old (Some given) ns → IsGoingWith types own number m.owner given n filled_copy r → IsGoingOn types own number place m f n x r
  filled_going types own number m n given old r read h =
      read_going types own number place m f n x filled_copy copied.table copied.first (ap (λ (ms : List Made). state_set ms place f) copied.made)
      (λ groups. grown_fields copy ns grows copied.sound groups ∙ copied.fields groups)
      (λ groups. grown_came copy ns grows copied.sound groups ∙ copied.came groups)
      given old r read h
