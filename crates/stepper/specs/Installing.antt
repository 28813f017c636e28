-- What comes of the start of a program.
use Rattle.std.specs.Prelude.{◌≡◌, ℕ, List, [], ◌∷◌, ◌++◌, map}
use Rattle.play_script.specs.declared.item.Item.TheVariants as item
use Rattle.play_script.specs.declared.item.Word.TheVariants as word
use Rattle.mo_values.specs.Shapes.{Bytes}
use Rattle.typed_tree.specs.declared.program.Program.{Program as Written}
use Rattle.arena_actors.specs.declared.actor.Activation.TheVariants as activation
use Rattle.arena_actors.specs.declared.actor.Actor.{Actor}
use Rattle.arena_starts.specs.declared.starting.Beginning.{Beginning}
use Rattle.arena_starts.specs.declared.starting.Started.{Started}
use Rattle.arena_starts.specs.declared.starting.Started.TheVariants as started
use Rattle.stepper.specs.declared.state.Next.{Next}
use Rattle.stepper.specs.declared.state.Next.TheVariants as next
use Rattle.stepper.specs.declared.state.Running.{Running}
use Rattle.stepper.specs.declared.state.State.TheVariants as state
use Rattle.stepper.specs.Standing.{repeat}

abbrev pub begun : (came : ℕ) → Beginning → Actor
begun came b = record { arena = b.arena; table = b.table; store = b.store; exports = b.exports; first = 0; made = []; came = repeat came activation.Answered }

abbrev pub IsBegun : (came : ℕ) → Written → Beginning → Next → Type 0
IsBegun came p b n =
    (r : Running) × (n ≡ next.Behind (record { items = map item.Print b.prints ++ item.Installed ∷ []; state = state.Running r })) × (r.program.now ≡ p) × (r.actor ≡ begun came b)

abbrev pub broken : (came : ℕ) → List Bytes → Bytes → Next
broken came prints text = next.Behind (record { items = map item.Print prints ++ item.Trapped (word.Text text) ∷ []; state = state.NoActor came })

abbrev pub IsInstalled : (came : ℕ) → Written → Started → Next → Type 0
IsInstalled came p (started.Still table) n = n ≡ next.Still
IsInstalled came p (started.Traps table prints text) n = n ≡ broken came prints text
IsInstalled came p (started.Starts b) n = IsBegun came p b n
