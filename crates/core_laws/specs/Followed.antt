-- What it is that the actor of a new program follows that of an old one.
use Rattle.std.specs.Prelude.{◌≡◌, ℕ, Bool, true, false, List, [], length, map, replicate, Option, Some, None}
use Rattle.mo_types.specs.declared.node.TypeId.{TypeId}
use Rattle.mo_types.specs.Calls.{CallTable}
use Rattle.mo_values.specs.Shapes.{Bytes}
use Rattle.mo_actor.specs.Programs.{OutgoingCall, Ending, Answers, Awaits, AwaitsNothing, Unchanged, Effects}
use Rattle.core_ir.specs.Values.{Value, null}
use Rattle.core_ir.specs.Programs.{Program}
use Rattle.core_ir.specs.Worlds.{Given, World, Context}
use Rattle.core_ir.specs.Executions.{Entry, Begins, Resumes, Saves, Starts, Machine}
use Rattle.core_ir.specs.Formed.{IsSafe}
use Rattle.core_ir.specs.Messages.{Messages}
use Rattle.core_ir.specs.Actor.{Fields, Pending, Body, Enters, GoesOn, core_language, outer_names, method_from, context_of, world_of, run_body, alone, kept_value, start, save}
use Rattle.core_laws.specs.Carried as carried
use Rattle.core_laws.specs.Following.{Follows}

abbrev pub empty : World
empty = record { store = []; groups = []; requests = [] }

-- the world with which the next execution begins
abbrev pub next : World → World
next w = record { store = w.store; groups = w.groups; requests = [] }

-- worlds that belong together have the same calls
pub record Moves (moved : World → World) : Type 0 where
  pub requests : (w : World) → (moved w).requests ≡ w.requests
  pub later : (w : World) → next (moved w) ≡ moved (next w)
  pub first : moved empty ≡ empty

-- both programs look the same from outside
pub record SameOutside {B C : Type 0} (p : Program B) (q : Program C) : Type 0 where
  pub head : q.head ≡ p.head
  pub names : (own : Bytes) → outer_names own q.methods ≡ outer_names own p.methods
  pub methods : (query : Bool) (name : Bytes) → method_from 0 query name q.methods ≡ method_from 0 query name p.methods
  pub stable : length q.stable ≡ length p.stable

module _ {S T V W K B C : Type 0} (times : ℕ) (moved : World → World) (old : Machine S V) (new : Machine T W) (messages : Messages K) (p : Program B) (q : Program C) where
  abbrev pub FieldsAlike : Fields → Fields → Type 0
  FieldsAlike f g = (world_of new messages q g ≡ moved (world_of old messages p f)) × (g.names ≡ f.names)

  abbrev pub call_alike : OutgoingCall (core_language V K) → OutgoingCall (core_language W K)
  call_alike c = record { callee = c.callee; method = c.method; argument = c.argument; results = c.results; resumes = c.resumes }

  module _ (c : Context) where
    abbrev pub PendingAlike : Pending V → Pending W → Type 0
    PendingAlike x y = (y.results ≡ x.results) × carried.GoesOn times moved old new c x.waiting y.waiting

    abbrev pub EndingsAlike : Ending (core_language V K) → Ending (core_language W K) → Type 0
    EndingsAlike (Answers answer) e = e ≡ Answers answer
    EndingsAlike (Awaits number x) e = (y : Pending W) × (e ≡ Awaits number y) × PendingAlike x y
    EndingsAlike AwaitsNothing e = e ≡ AwaitsNothing
    EndingsAlike Unchanged e = e ≡ Unchanged

    pub record EffectsAlike (x : Effects (core_language V K)) (y : Effects (core_language W K)) : Type 0 where
      pub store : FieldsAlike x.store y.store
      pub calls : y.calls ≡ map call_alike x.calls
      pub ending : EndingsAlike x.ending y.ending

    abbrev pub BodiesAlike : Body V → Body W → Type 0
    BodiesAlike (Enters entry caller arguments) e = e ≡ Enters entry caller arguments
    BodiesAlike (GoesOn x given) e = (y : Pending W) × (e ≡ GoesOn y given) × PendingAlike x y

  -- how the old body is entered
  abbrev pub entry_of_body : Body V → Entry V
  entry_of_body (Enters entry caller arguments) = Begins entry.place caller arguments
  entry_of_body (GoesOn x given) = Resumes x.waiting given

  -- the old program does not break where it starts
  abbrev pub StartsSafely : Bytes → Option K → Type 0
  StartsSafely own None = IsSafe old (alone old messages p own []) empty (Starts (replicate (length p.stable) null) false)
  StartsSafely own (Some kept) =
      (values : List (Option Value)) → messages.restore kept ≡ Some values → IsSafe old (alone old messages p own []) empty (Starts (map (kept_value old messages p) values) true)

  -- executions that do not break in the old program
  pub record Followed (own : Bytes) : Type 0 where
    pub outside : SameOutside p q
    pub runs : (table : CallTable (List TypeId) Given) (f g : Fields) → FieldsAlike f g → (b : Body V) (d : Body W) → BodiesAlike (alone old messages p own f.names) b d
        → IsSafe old (context_of old messages p own table f.names) (world_of old messages p f) (entry_of_body b)
        → Follows times (EffectsAlike (alone old messages p own f.names)) (run_body old messages p own table f b) (run_body new messages q own table g d)
    pub starts : (kept : Option K) → StartsSafely own kept → Follows times FieldsAlike (start old messages p own kept) (start new messages q own kept)
    pub saves : (f g : Fields) → FieldsAlike f g → IsSafe old (alone old messages p own f.names) (world_of old messages p f) Saves
        → Follows times (λ x y. y ≡ x) (save old messages p own f) (save new messages q own g)
