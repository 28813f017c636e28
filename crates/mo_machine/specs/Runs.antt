-- Whole executions by the machine, and what they stand for: the language's executions, with the same weight, depth, prints
-- and calls.
use Rattle.std.specs.Prelude.{◌≡◌, ℕ, ◌+◌, ◌≤◌, [], length}
use Rattle.mo_meaning.specs.Acts.{Given}
use Rattle.mo_meaning.specs.Bodies.{called, function_at}
use Rattle.mo_meaning.specs.Configurations.{Surroundings, beginning}
use Rattle.mo_meaning.specs.Configurations as meaning
use Rattle.mo_meaning.specs.Kernel.{Fields, Body, Enters, Resumes}
use Rattle.mo_meaning.specs.Turns as reductions
use Rattle.mo_machine.specs.Values.{NoValue, load_list}
use Rattle.mo_machine.specs.Frames.{Eval}
use Rattle.mo_machine.specs.Configurations.{Configuration, End, Returns, Responds, Suspends, Sleeps, Traps, Breaks, Run, Still, Ended}
use Rattle.mo_machine.specs.Turns.{steps, steps_given, turns, turns_given, as_reply}
use Rattle.mo_machine.specs.Unload.{unload, unload_list, unload_state}

-- ---- what a configuration and a run stand for

abbrev pub unload_configuration : Configuration → meaning.Configuration
unload_configuration c =
    record { weight = c.weight; depth = c.depth; prints = c.prints; calls = c.calls; store = unload_list c.store; at = unload_state c.focus c.stack }

abbrev pub unload_end : End → meaning.End
unload_end (Returns v) = meaning.Returns (unload v)
unload_end (Responds answer) = meaning.Responds answer
unload_end (Suspends call nodes) = meaning.Suspends call nodes
unload_end Sleeps = meaning.Sleeps
unload_end (Traps text) = meaning.Traps text
unload_end Breaks = meaning.Breaks

abbrev pub unload_run : Run → meaning.Run
unload_run (Still c) = meaning.Still (unload_configuration c)
unload_run (Ended c end) = meaning.Ended (unload_configuration c) (unload_end end)

-- ---- executions

-- the machine where an execution begins
abbrev pub begun : meaning.Configuration → Configuration
begun c = record { weight = c.weight; depth = c.depth; prints = c.prints; calls = c.calls; store = load_list c.store; focus = Eval c.at NoValue; stack = [] }

-- a method of an actor, or what waited, for at most n turns
abbrev pub body_run : Surroundings → Fields → Body → ℕ → Run
body_run s fields (Enters entry caller vs) n =
    as_reply s entry.results (turns s n (begun (beginning (2 + length caller) fields.cells (called (function_at fields entry.place) caller vs))))
body_run s fields (Resumes w g) n = as_reply s w.results (turns_given s g n (begun (beginning w.nodes fields.cells w.at)))

-- ---- steps and turns

module _ (s : Surroundings) where
  -- so many turns of the language are some number of steps
  abbrev pub Follows : ℕ → Configuration → Type 0
  Follows n c = (count : ℕ) × (reductions.turns s n (unload_configuration c) ≡ unload_run (steps s count c))

  abbrev pub FollowsGiven : Given → ℕ → Configuration → Type 0
  FollowsGiven g n c = (count : ℕ) × (reductions.turns_given s g n (unload_configuration c) ≡ unload_run (steps_given s g count c))

  -- so many steps are at most as many turns of the language
  abbrev pub Reaches : ℕ → Configuration → Type 0
  Reaches m c = (count : ℕ) × (count ≤ m) × (unload_run (steps s m c) ≡ reductions.turns s count (unload_configuration c))

  abbrev pub ReachesGiven : Given → ℕ → Configuration → Type 0
  ReachesGiven g m c = (count : ℕ) × (count ≤ m) × (unload_run (steps_given s g m c) ≡ reductions.turns_given s g count (unload_configuration c))
