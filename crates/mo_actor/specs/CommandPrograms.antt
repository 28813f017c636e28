-- Programs of the rows' language.
use Rattle.std.specs.Prelude.{ℕ, ◌+◌, List, [], ◌∷◌, length, Option, Some, None, cond, codes}
use Rattle.std.specs.Str.{bytes_eq}
use Rattle.mo_actor.specs.Executions.{Execution, ReadingCost, trapping}
use Rattle.mo_actor.specs.Programs.{Program}
use Rattle.mo_actor.specs.Measures.{first_memory}
use Rattle.mo_actor.specs.Commands.{Results, Value, Number, Error, Command, ReplyText, Throw, Body, Waiting, Kept, command_language, empty, value_read, same_results}
use Rattle.mo_actor.specs.CommandRuns.{body_run, hook_run, as_body}

pub record Method : Type 0 where
  pub name : List ℕ
  pub commands : List Command

pub record Source : Type 0 where
  pub updates : List Method
  pub queries : List Method
  -- the initialiser of the store, and the hooks around an upgrade
  pub initial : List Command
  pub before_upgrade : List Command
  pub after_upgrade : List Command
  -- the type of the store, as it is kept
  pub stable : Results

abbrev pub method_of : List Method → (name : List ℕ) → Option (List Command)
method_of [] name = None
method_of (m ∷ methods) name = cond (bytes_eq m.name name) (Some m.commands) (method_of methods name)

-- A method takes no argument.
abbrev pub enter : List Command → (caller argument : List ℕ) → Option Body
enter cs caller argument = cond (bytes_eq argument empty) (Some (as_body cs)) None

abbrev pub resume : Waiting → Value → Body
resume w (Number n) = record { commands = w.body.commands; number = w.body.number + n; futures = w.body.futures }
resume w (Error message) = record { commands = cond w.caught (ReplyText message) (Throw message) ∷ []; number = w.body.number; futures = w.body.futures }

abbrev pub start : Source → (own : List ℕ) → Option Kept → Execution ℕ
start source own None = hook_run (λ n. n) own source.initial 0
start source own (Some kept) =
    cond (same_results kept.of_type source.stable) (hook_run (λ n. n) own source.after_upgrade kept.number) (trapping (codes "incompatible stable types"))

abbrev pub save : Source → (own : List ℕ) → ℕ → Execution Kept
save source own store = hook_run (λ n. record { of_type = source.stable; number = n }) own source.before_upgrade store

abbrev pub reading_bytes : List ℕ → ReadingCost
reading_bytes bytes = record { weight = length bytes; depth = 0 }

-- The program of a source. Every actor has the method `__resume`.
abbrev pub program : Source → Program command_language
program source = record {
  first_memory = first_memory 0 0;
  update = λ name. cond (bytes_eq name (codes "__resume")) (Some []) (method_of source.updates name);
  query = λ name. method_of source.queries name;
  enter = λ cs caller argument. enter cs caller argument;
  resume = λ w value. resume w value;
  run = λ own table store body. body_run own table store body;
  read = λ results bytes. value_read results bytes;
  error_of = λ code text. Error text;
  start = λ own kept. start source own kept;
  save = λ own store. save source own store;
  argument_cost = λ cs argument. reading_bytes argument;
  reply_cost = λ results bytes. reading_bytes bytes;
  reject_cost = λ text. reading_bytes text;
}
