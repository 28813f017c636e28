-- Activations, computed: a method is entered, and each time it waits it goes on with the next of these answers.
use Rattle.std.specs.Prelude.{ℕ, ◌*◌, List, [], ◌∷◌, ◌++◌, map, Bool, true, false, ◌&&◌, nat_le, Option, Some, None}
use Rattle.mo_types.specs.declared.node.TypeId.{TypeId}
use Rattle.mo_types.specs.Calls.{Call, CallTable, Open, Answered, set_state}
use Rattle.mo_values.specs.Shapes.{Bytes}
use Rattle.core_ir.specs.Values.{Value}
use Rattle.core_ir.specs.Worlds.{Given, Request, World, Context}
use Rattle.core_ir.specs.Executions.{Entry, Resumes, End, Replies, Rejects, Waits, Traps, Breaks, Stand, Still, Over, Machine, execution}

-- how an execution ended
pub data Verdict : Type 0 where
  Replied : (v : Value) → Verdict
  Rejected : (error : Value) → Verdict
  Waiting : (on : Option ℕ) → Verdict
  Trapped : (text : Bytes) → Verdict
  Broken : Verdict
  Running : Verdict

-- what an execution shows
pub record Shown : Type 0 where
  pub prints : List Bytes
  pub requests : List Request
  pub cells : List Value
  pub verdict : Verdict

pub record Counts : Type 0 where
  pub weight : ℕ
  pub depth : ℕ

pub record Seen : Type 0 where
  pub shown : Shown
  pub counts : Counts

-- ---- from one execution to the next

abbrev pub open_call : Request → Call (List TypeId) Given
open_call r = record { owner = 0; results = r.results; resumes = r.resumes; state = Open }

abbrev pub with_calls : CallTable (List TypeId) Given → List Request → CallTable (List TypeId) Given
with_calls table requests = record { first = table.first; calls = table.calls ++ map open_call requests }

abbrev pub with_answer : CallTable (List TypeId) Given → Option ℕ → Given → CallTable (List TypeId) Given
with_answer table None given = table
with_answer table (Some n) given = set_state table n (Answered (Some given))

-- the calls of the execution are open, and the one on which it waits is answered
abbrev pub next_context : Context → World → Option ℕ → Given → Context
next_context c w on given = record { head = c.head; message = c.message; own = c.own; table = with_answer (with_calls c.table w.requests) on given; globals = c.globals }

abbrev pub next_world : World → World
next_world w = record { store = w.store; groups = w.groups; requests = [] }

-- ---- activations

abbrev pub seen : (weight depth : ℕ) → List Bytes → World → Verdict → Seen
seen weight depth prints w v =
    record { shown = record { prints = prints; requests = w.requests; cells = w.store; verdict = v }; counts = record { weight = weight; depth = depth } }

module _ {W : Type 0} where
  abbrev pub verdict : End W → Verdict
  verdict (Replies v) = Replied v
  verdict (Rejects e) = Rejected e
  verdict (Waits on w) = Waiting on
  verdict (Traps text) = Trapped text
  verdict Breaks = Broken

  -- what follows where it waits
  abbrev pub on_end : {S : Type 0} → (World → Option ℕ → W → List Seen) → Stand S W → List Seen
  on_end more (Still weight depth prints w s) = seen weight depth prints w Running ∷ []
  on_end more (Over weight depth prints w (Waits on waiting)) = seen weight depth prints w (Waiting on) ∷ more w on waiting
  on_end more (Over weight depth prints w end) = seen weight depth prints w (verdict end) ∷ []

module _ {S W : Type 0} (m : Machine S W) (steps : ℕ) where
  -- each execution of an activation, of which each takes at most so many steps
  abbrev pub executions : List Given → Context → World → Entry W → List Seen
  executions [] c w entry = on_end (λ w on waiting. []) (execution m c steps w entry)
  executions (given ∷ others) c w entry =
      on_end (λ w on waiting. executions others (next_context c w on given) (next_world w) (Resumes waiting given)) (execution m c steps w entry)

-- ---- what is compared

abbrev pub shown : List Seen → List Shown
shown [] = []
shown (s ∷ ss) = s.shown ∷ shown ss

abbrev pub counts : List Seen → List Counts
counts [] = []
counts (s ∷ ss) = s.counts ∷ counts ss

-- each weight and depth of the second list is within so many times that of the first
abbrev pub are_within : ℕ → ℕ → List Counts → List Counts → Bool
are_within a b [] [] = true
are_within a b [] (d ∷ ds) = false
are_within a b (c ∷ cs) [] = false
are_within a b (c ∷ cs) (d ∷ ds) = nat_le d.weight (a * c.weight) && (nat_le d.depth (b * c.depth) && are_within a b cs ds)
