-- A program of a core language as its actor's run sees it: Motoko language manual, sections "Actors", "Shared functions", "Async" and
-- "Stable variables". It is the same for each machine.
use Rattle.std.specs.Prelude.{ℕ, zero, suc, ◌+◌, ◌*◌, List, [], ◌∷◌, ◌++◌, length, map, replicate, Bool, true, false, not, ◌&&◌, cond, max, nat_lt, Option, Some, None, codes}
use Rattle.std.specs.Str.{bytes_eq}
use Rattle.mo_types.specs.declared.datum.Datum.TheVariants as part
use Rattle.mo_types.specs.declared.node.TypeId.{TypeId}
use Rattle.mo_types.specs.Calls.{CallTable, no_calls}
use Rattle.mo_values.specs.declared.error_code.ErrorCode.{ErrorCode}
use Rattle.mo_values.specs.declared.error_code.ErrorCode.TheVariants as code
use Rattle.mo_values.specs.Costs.{Cost, weighing, sizes, most_levels}
use Rattle.mo_values.specs.Shapes.{Bytes, Error, Tuple, Made, NoShape, shapes, leaf}
use Rattle.mo_values.specs.Views.{tuple_of, message_in}
use Rattle.mo_actor.specs.Executions.{Progress, Execution, Completion, Completes, trapping, after_reading}
use Rattle.mo_actor.specs.Executions as actor_end
use Rattle.mo_actor.specs.Languages.{Language, language}
use Rattle.mo_actor.specs.Programs.{OutgoingCall, Ending, Answers, Awaits, AwaitsNothing, Effects}
use Rattle.mo_actor.specs.Programs as actor
use Rattle.core_ir.specs.Choices.{on_some}
use Rattle.core_ir.specs.Values.{Value, null, present}
use Rattle.core_ir.specs.Primitives.{Store}
use Rattle.core_ir.specs.Programs.{Method, Program}
use Rattle.core_ir.specs.Worlds.{MadeGroup, Given, Gets, Throws, Request, World, Context}
use Rattle.core_ir.specs.Worlds as world
use Rattle.core_ir.specs.Executions.{Entry, Begins, Resumes, Saves, Starts, End, Replies, Rejects, Waits, Traps, Breaks, Stand, Still, Over, Machine, execution}
use Rattle.core_ir.specs.Calls.{most_bytes, too_long, message_cost}
use Rattle.core_ir.specs.Messages.{Saved, Messages}

-- ---- the language

-- the cells, the groups that were made, and the values of the actor's own names
pub record Fields : Type 0 where
  pub cells : Store
  pub groups : List world.MadeGroup
  pub names : List Value

-- a method by its place, with its types
pub record MethodEntry : Type 0 where
  pub place : ℕ
  pub parameters : List TypeId
  pub results : List TypeId

module _ (W : Type 0) where
  -- a shared body that stands at an `await`, with the types of its results
  pub record Pending : Type 0 where
    pub results : List TypeId
    pub waiting : W

  pub data Body : Type 0 where
    Enters : (entry : MethodEntry) → (caller : Bytes) → (arguments : List Value) → Body
    GoesOn : (pending : Pending) → (given : Given) → Body

-- K is what an upgrade hands on
abbrev pub core_language : (W K : Type 0) → Language
core_language W K = language Fields (Body W) (Pending W) (List TypeId) Given MethodEntry K

-- ---- methods by name

module _ {B : Type 0} where
  abbrev pub entry_of : ℕ → Method B → MethodEntry
  entry_of place m = record { place = place; parameters = m.signature.parameters; results = m.signature.results }

  -- the method of a name, of update methods or of query methods
  abbrev pub method_from : ℕ → Bool → Bytes → List (Method B) → Option MethodEntry
  method_from place query name [] = None
  method_from place query name (m ∷ ms) =
      cond (bytes_eq m.name name && cond query m.query (not m.query)) (Some (entry_of place m)) (method_from (suc place) query name ms)

  -- the actor itself, and its methods as shared functions
  abbrev pub outer_names : Bytes → List (Method B) → List Value
  outer_names own ms = leaf (part.Actor own) ∷ map (λ m. leaf (part.Method own m.name)) ms

-- ---- what executions leave

-- results: none for (), the parts of a tuple for two or more types
abbrev pub unpacked : List TypeId → Value → List Value
unpacked [] v = []
unpacked (t ∷ []) v = v ∷ []
unpacked (t ∷ u ∷ ts) v = on_some [] (tuple_of v) (λ vs. vs)

abbrev pub packed : List Value → Value
packed (v ∷ []) = v
packed vs = Made Tuple (shapes vs)

-- the code of an error by the number of a reject: Motoko base library, `Error.ErrorCode`
abbrev pub reject_code : ℕ → ErrorCode
reject_code (suc zero) = code.SystemFatal
reject_code (suc (suc zero)) = code.SystemTransient
reject_code (suc (suc (suc zero))) = code.DestinationInvalid
reject_code (suc (suc (suc (suc zero)))) = code.CanisterReject
reject_code (suc (suc (suc (suc (suc zero))))) = code.CanisterError
reject_code n = code.Future n

-- how far an execution has come, with further cost at its end: what is coded stands on top of its body
abbrev pub progress : {A : Type 0} → (weight depth : ℕ) → List Bytes → Cost → Option (Completion A) → Progress A
progress weight depth prints cost completion = record { prints = prints; weight = weight + cost.weight; depth = max depth (16 * cost.levels); completion = completion }

module _ {S W K B : Type 0} (m : Machine S W) (messages : Messages K) (p : Program B) where
  abbrev pub context_of : Bytes → CallTable (List TypeId) Given → List Value → Context
  context_of own table names =
      record { head = p.head; message = messages.spell; own = own; table = table; globals = outer_names own p.methods ++ names }

  abbrev pub world_of : Fields → World
  world_of fields = record { store = fields.cells; groups = fields.groups; requests = [] }

  abbrev pub call_of : Request → OutgoingCall (core_language W K)
  call_of r = record { callee = r.callee; method = r.method; argument = r.argument; results = r.results; resumes = r.resumes }

  -- ---- bodies of methods

  abbrev pub effects : Fields → World → Ending (core_language W K) → Option (Completion (Effects (core_language W K)))
  effects fields w ending = Some (Completes (record {
    store = record { cells = w.store; groups = w.groups; names = fields.names };
    calls = map call_of w.requests;
    ending = ending;
  }))

  -- an answer of too many bytes traps
  abbrev pub if_short : Bytes → Option (Completion (Effects (core_language W K))) → Option (Completion (Effects (core_language W K)))
  if_short bytes completion = cond (nat_lt most_bytes (length bytes)) (Some (actor_end.Traps too_long)) completion

  module _ (fields : Fields) (results : List TypeId) where
    abbrev pub replied : (weight depth : ℕ) → List Bytes → World → List Value → Option Bytes → Progress (Effects (core_language W K))
    replied weight depth prints w vs None = progress weight depth prints (weighing 0) None
    replied weight depth prints w vs (Some bytes) =
        progress weight depth prints (message_cost vs bytes) (if_short bytes (effects fields w (Answers (actor.Replies bytes))))

    -- the error's message goes out; its code is lost
    abbrev pub rejected : (weight depth : ℕ) → List Bytes → World → Option Bytes → Progress (Effects (core_language W K))
    rejected weight depth prints w None = progress weight depth prints (weighing 0) None
    rejected weight depth prints w (Some text) =
        progress weight depth prints (weighing (length text)) (if_short text (effects fields w (Answers (actor.Rejects 4 text))))

    abbrev pub waiting_ending : Option ℕ → W → Ending (core_language W K)
    waiting_ending None waiting = AwaitsNothing
    waiting_ending (Some number) waiting = Awaits number (record { results = results; waiting = waiting })

    abbrev pub ended : (weight depth : ℕ) → List Bytes → World → End W → Progress (Effects (core_language W K))
    ended weight depth prints w (Replies v) = replied weight depth prints w (unpacked results v) (messages.spell results (unpacked results v))
    ended weight depth prints w (Rejects error) = rejected weight depth prints w (message_in error)
    ended weight depth prints w (Waits on waiting) = progress weight depth prints (weighing 0) (effects fields w (waiting_ending on waiting))
    ended weight depth prints w (Traps text) = progress weight depth prints (weighing 0) (Some (actor_end.Traps text))
    ended weight depth prints w Breaks = progress weight depth prints (weighing 0) None

    abbrev pub body_progress : Stand S W → Progress (Effects (core_language W K))
    body_progress (Still weight depth prints w s) = progress weight depth prints (weighing 0) None
    body_progress (Over weight depth prints w end) = ended weight depth prints w end

  -- no turn, or an entry and so many steps less one
  abbrev pub turns : {A : Type 0} → (Stand S W → Progress A) → Context → World → Entry W → Execution A
  turns f context w entry zero = record { prints = []; weight = 0; depth = 0; completion = None }
  turns f context w entry (suc n) = f (execution m context n w entry)

  abbrev pub run_body : Bytes → CallTable (List TypeId) Given → Fields → Body W → Execution (Effects (core_language W K))
  run_body own table fields (Enters entry caller vs) =
      turns (body_progress fields entry.results) (context_of own table fields.names) (world_of fields) (Begins entry.place caller vs)
  run_body own table fields (GoesOn pending given) =
      turns (body_progress fields pending.results) (context_of own table fields.names) (world_of fields) (Resumes pending.waiting given)

  -- ---- an upgrade and a start, which make no calls

  abbrev pub alone : Bytes → List Value → Context
  alone own names = context_of own (no_calls 0) names

  abbrev pub saved : (weight depth : ℕ) → List Bytes → List Value → Option (Saved K) → Progress K
  saved weight depth prints vs None = progress weight depth prints (weighing 0) None
  saved weight depth prints vs (Some s) = progress weight depth prints (record { weight = sizes vs + s.size; levels = most_levels vs }) (Some (Completes s.kept))

  abbrev pub save_ended : (weight depth : ℕ) → List Bytes → End W → Progress K
  save_ended weight depth prints (Replies v) = on_some (progress weight depth prints (weighing 0) None) (tuple_of v) (λ vs. saved weight depth prints vs (messages.save vs))
  save_ended weight depth prints (Traps text) = progress weight depth prints (weighing 0) (Some (actor_end.Traps text))
  save_ended weight depth prints _ = progress weight depth prints (weighing 0) None

  abbrev pub save_progress : Stand S W → Progress K
  save_progress (Still weight depth prints w s) = progress weight depth prints (weighing 0) None
  save_progress (Over weight depth prints w end) = save_ended weight depth prints end

  abbrev pub save : Bytes → Fields → Execution K
  save own fields = turns save_progress (alone own fields.names) (world_of fields) Saves

  abbrev pub fields_of : World → List Value → Fields
  fields_of w names = record { cells = w.store; groups = w.groups; names = names }

  abbrev pub start_ended : (weight depth : ℕ) → List Bytes → World → End W → Progress Fields
  start_ended weight depth prints w (Replies v) =
      progress weight depth prints (weighing 0) (on_some None (tuple_of v) (λ names. Some (Completes (fields_of w names))))
  start_ended weight depth prints w (Traps text) = progress weight depth prints (weighing 0) (Some (actor_end.Traps text))
  start_ended weight depth prints w _ = progress weight depth prints (weighing 0) None

  abbrev pub start_progress : Stand S W → Progress Fields
  start_progress (Still weight depth prints w s) = progress weight depth prints (weighing 0) None
  start_progress (Over weight depth prints w end) = start_ended weight depth prints w end

  abbrev pub kept_value : Option Value → Value
  kept_value None = null
  kept_value (Some v) = present v

  abbrev pub started : Bytes → List Value → Bool → Execution Fields
  started own kept upgraded = turns start_progress (alone own []) (record { store = []; groups = []; requests = [] }) (Starts kept upgraded)

  abbrev pub restarted : Bytes → Option (List (Option Value)) → Execution Fields
  restarted own None = trapping (codes "incompatible stable types")
  restarted own (Some kept) = started own (map kept_value kept) true

  abbrev pub start : Bytes → Option K → Execution Fields
  start own None = started own (replicate (length p.stable) null) false
  start own (Some kept) = after_reading (messages.restoring_cost kept) (restarted own (messages.restore kept))

  -- ---- the program

  abbrev pub entered : MethodEntry → Bytes → Option (List Value) → Option (Body W)
  entered entry caller None = None
  entered entry caller (Some vs) = Some (Enters entry caller vs)

  abbrev pub results_given : Option (List Value) → Option Given
  results_given None = None
  results_given (Some vs) = Some (Gets (packed vs))

  -- its first memory has so many bytes
  abbrev pub actor_program : ℕ → actor.Program (core_language W K)
  actor_program first = record {
    first_memory = first;
    update = λ name. method_from 0 false name p.methods;
    query = λ name. method_from 0 true name p.methods;
    enter = λ entry caller argument. entered entry caller (messages.read entry.parameters argument);
    resume = λ pending given. GoesOn pending given;
    run = λ own table fields body. run_body own table fields body;
    read = λ results bytes. results_given (messages.read results bytes);
    error_of = λ n text. Throws (Made (Error (reject_code n) text) NoShape);
    start = λ own kept. start own kept;
    save = λ own fields. save own fields;
    argument_cost = λ entry argument. messages.reading_cost entry.parameters argument;
    reply_cost = λ results bytes. messages.reading_cost results bytes;
    reject_cost = λ text. record { weight = length text; depth = 0 };
  }
