-- Events of actors that run by the machine, computed. What they come to is what the rules of the language say (Motoko language
-- manual, sections "Await", "Try", "For", "Labels" and "Option block and null break").
use Rattle.std.specs.Prelude.{ℕ, List, [], ◌∷◌, Option, codes}
use Rattle.play_script.specs.declared.event.Event.{Event}
use Rattle.play_script.specs.declared.event.Event.TheVariants as event
use Rattle.mo_actor.specs.Measures.{first_memory}
use Rattle.mo_actor.specs.Programs as actor
use Rattle.mo_actor.specs.States.{NoActor}
use Rattle.mo_types.specs.declared.node.TypeId.{TypeId}
use Rattle.typed_tree.specs.Language.{Exp, Val, null}
use Rattle.typed_tree.specs.Programs.{Program}
use Rattle.mo_meaning.specs.AwaitRows.{waiting, catching, wanted_interleaved, wanted_errors}
use Rattle.mo_meaning.specs.BenchRows.{bench}
use Rattle.mo_meaning.specs.CounterRows.{counter, failing, wanted_three_calls, wanted_trap_undoes}
use Rattle.mo_meaning.specs.ExampleTypes.{graph, nat}
use Rattle.mo_meaning.specs.ExampleWeights.{example}
use Rattle.mo_meaning.specs.Kernel.{kernel}
use Rattle.mo_meaning.specs.OrderRows.{trap_at, update_at, no_catch, tabulate_traps, short, live_values, keys, loops, optional, tabulates, copies, is, fails}
use Rattle.mo_meaning.specs.Playing.{Items, plays_from, calls, queries, empty}
use Rattle.mo_meaning.specs.Writing.{number, some}
use Rattle.mo_machine.specs.Actor.{by_machine}

abbrev pub run_by_machine : Program → actor.Program kernel
run_by_machine p = by_machine example (first_memory 1000 100) graph p

-- the program is installed; then come the events
abbrev pub plays : ℕ → Program → List Event → Option Items
plays n p events = plays_from n (run_by_machine p ∷ []) (event.Install 0 ∷ events) (NoActor 0 [])

-- one call of this body
abbrev pub goes : List TypeId → Exp → Option Items
goes results body = plays 120 (bench results body) (calls (codes "go") ∷ [])

-- ---- methods, waits and errors

abbrev pub actors : List (Option Items)
actors =
    plays 40 counter (calls (codes "inc") ∷ calls (codes "inc") ∷ calls (codes "inc") ∷ [])
    ∷ plays 40 failing (calls (codes "bad") ∷ queries (codes "get") ∷ [])
    ∷ plays 40 waiting (calls (codes "add") ∷ calls (codes "add") ∷ event.Reply 0 empty ∷ event.Reply 1 empty ∷ queries (codes "get") ∷ [])
    ∷ plays 40 catching
    (calls (codes "a") ∷ event.Reject 0 4 (codes "no") ∷ calls (codes "b") ∷ event.Reject 1 2 (codes "no") ∷ calls (codes "a") ∷ event.Reply 2 empty ∷ calls (codes "a") ∷ event.Reject 3 5 (codes "no") ∷ [])
    ∷ []

abbrev pub wanted_actors : List (Option Items)
wanted_actors = wanted_three_calls ∷ wanted_trap_undoes ∷ wanted_interleaved ∷ wanted_errors ∷ []

-- ---- bodies

abbrev pub bodies : List (Option Items)
bodies =
    goes [] trap_at ∷ goes [] update_at ∷ goes [] no_catch ∷ goes [] tabulate_traps
    ∷ goes (nat ∷ []) short ∷ goes (nat ∷ []) live_values ∷ goes (nat ∷ []) keys ∷ goes (nat ∷ []) loops
    ∷ goes (nat ∷ []) (optional (Val null)) ∷ goes (nat ∷ []) (optional (some (number 5))) ∷ goes (nat ∷ []) tabulates ∷ goes (nat ∷ []) copies ∷ []

abbrev pub wanted_bodies : List (Option Items)
wanted_bodies =
    fails (codes "x") ∷ fails (codes "index out of bounds") ∷ fails (codes "assertion failed") ∷ fails (codes "x")
    ∷ is 3 ∷ is 19 ∷ is 12 ∷ is 113
    ∷ is 8 ∷ is 6 ∷ is 3 ∷ is 8 ∷ []
