-- Constant queries as the program of their actor: Motoko language manual, sections "Shared functions" and "Actors".
use Rattle.std.specs.Prelude.{◌≡◌, ⊤, ℕ, List, [], ◌∷◌, Option, Some, None, cond, codes}
use Rattle.std.specs.Str.{bytes_eq}
use Rattle.query_source.specs.declared.query.Method.{Method}
use Rattle.play_script.specs.declared.event.Event.{Event}
use Rattle.play_script.specs.declared.event.Event.TheVariants as event
use Rattle.wasm_tree.specs.declared.module_parts.Module.{Module}
use Rattle.mo_actor.specs.Languages.{Language, language}
use Rattle.mo_actor.specs.Executions.{Completes, at_once}
use Rattle.mo_actor.specs.Programs.{Replies, Answers, Program}
use Rattle.actor_refinement.specs.Laws.{no_exhaustion}
use Rattle.actor_refinement.specs.Refines.{Refines}
use Rattle.query_module.specs.Message.{empty_message}
use Rattle.query_module.specs.Tree.{AreNumbers}

abbrev pub Nothing : Type 0
Nothing = Unit {0}

-- A method and its body are the reply. There are no variables and no calls, so nothing waits, and nothing is kept.
abbrev pub queries : Language
queries = language Nothing (List ℕ) ⊥ Nothing Nothing (List ℕ) Nothing

-- The reply of the method of this name.
abbrev pub reply_at : List Method → (replies : List (List ℕ)) → (name : List ℕ) → Option (List ℕ)
reply_at [] replies name = None
reply_at (m ∷ methods) [] name = None
reply_at (m ∷ methods) (r ∷ replies) name = cond (bytes_eq m.name name) (Some r) (reply_at methods replies name)

-- Each method replies with its own reply, and `__resume`, which each actor has, with no values; an argument has to be none.
abbrev pub query_program : List Method → (replies : List (List ℕ)) → Program queries
query_program methods replies = record {
  first_memory = 0;
  update = λ name. cond (bytes_eq (codes "__resume") name) (Some empty_message) None;
  query = reply_at methods replies;
  enter = λ reply caller argument. cond (bytes_eq argument empty_message) (Some reply) None;
  resume = λ waiting value. absurd waiting;
  run = λ own table store reply. at_once (Completes (record { store = tt; calls = []; ending = Answers (Replies reply) }));
  read = λ results bytes. Some tt;
  error_of = λ code text. tt;
  start = λ own kept. at_once (Completes tt);
  save = λ own store. at_once (Completes tt);
  argument_cost = λ method argument. record { weight = 0; depth = 0 };
  reply_cost = λ results bytes. record { weight = 0; depth = 0 };
  reject_cost = λ text. record { weight = 0; depth = 0 };
}

-- The program of an actor of these methods: each replies with its number.
pub record IsProgramOf (methods : List Method) (p : Program queries) : Type 0 where
  pub numbers : List (List ℕ)
  pub are_numbers : AreNumbers methods numbers
  pub program_is : p ≡ query_program methods numbers

-- What such an actor is given: calls without arguments, answers to calls, installations and upgrades.
abbrev pub IsAsked : Event → Type 0
IsAsked (event.Install number) = ⊤
IsAsked (event.Call query name caller bytes) = bytes ≡ empty_message
IsAsked (event.Reply number bytes) = ⊤
IsAsked (event.Reject number code text) = ⊤
IsAsked (event.Upgrade number) = ⊤

-- It keeps nothing, whatever is in the stable memory.
abbrev pub AnyMemory : Nothing → List ℕ → Type 0
AnyMemory kept memory = ⊤

-- The module does what the actor of the program does, and nothing is exhausted.
abbrev pub QueryRefines : Program queries → Module → Type 0
QueryRefines p tree = Refines {L = queries} AnyMemory IsAsked no_exhaustion p tree
