-- Runs of typed programs: those of their actor.
use Rattle.std.specs.Prelude.{◌≡◌, ℕ, ◌≤◌, List, map}
use Rattle.play_script.specs.declared.event.Event.{Event}
use Rattle.play_script.specs.declared.item.Item.{Item}
use Rattle.mo_types.specs.Calls.{open_count}
use Rattle.mo_values.specs.Shapes.{Bytes}
use Rattle.mo_actor.specs.Measures.{Never, Unmeasured}
use Rattle.mo_actor.specs.Programs as actor
use Rattle.mo_actor.specs.Reached.{Reaches}
use Rattle.mo_actor.specs.States.{Actor, Running}
use Rattle.mo_actor.specs.Steps.{ActorRun}
use Rattle.typed_tree.specs.Programs.{Program}
use Rattle.mo_meaning.specs.Actor.{meaning}
use Rattle.mo_meaning.specs.Coding.{Types, Coding}
use Rattle.mo_meaning.specs.Kernel.{kernel}

-- a program with the nodes of its graph of types, and the bytes of its first memory
pub record Installable : Type 0 where
  pub program : Program
  pub types : Types
  pub first : ℕ

abbrev pub meanings : Coding → List Installable → List (actor.Program kernel)
meanings c ps = map (λ p. meaning c p.first p.types p.program) ps

-- where nothing is exhausted, the programs and the events determine the items
abbrev pub RunsAreOne : Type 0
RunsAreOne =
    (c : Coding) (ps : List Installable) (own : Bytes) (events : List Event) (items others : List Item)
    → ActorRun Never (meanings c ps) own events items → ActorRun Never (meanings c ps) own events others → items ≡ others

-- in every state that a run comes to, at most 500 calls are open
abbrev pub CallsStayFew : Type 0
CallsStayFew =
    (c : Coding) (ps : List Installable) (own : Bytes) (events : List Event) (p : actor.Program kernel) (a : Actor kernel)
    → Reaches Unmeasured (meanings c ps) own events (Running p a) → open_count a.table ≤ 500
