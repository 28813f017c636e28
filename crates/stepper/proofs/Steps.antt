-- What an event comes to, as a step.
use Rattle.std.proofs.Common.{◌≡◌, ℕ, List, [], ◌∷◌, refl, sym, subst}
use Rattle.play_script.specs.declared.event.Event.{Event}
use Rattle.play_script.specs.declared.event.Event.TheVariants as event
use Rattle.play_script.specs.declared.item.Item.{Item}
use Rattle.play_script.specs.declared.item.Item.TheVariants as item
use Rattle.mo_values.specs.Shapes.{Bytes}
use Rattle.typed_tree.specs.declared.program.Program.{Program as Written}
use Rattle.arena_states.specs.declared.group.GroupOf.{GroupOf}
use Rattle.stepper.specs.declared.state.Behind.{Behind}
use Rattle.stepper.specs.declared.state.Next.TheVariants as next
use Rattle.stepper.specs.declared.state.Running.{Running}
use Rattle.stepper.specs.declared.state.State.{State}
use Rattle.stepper.specs.declared.state.State.TheVariants as state
use Rattle.stepper.specs.declared.state.Stepped.TheVariants as stepped
use Rattle.stepper.specs.declared.state.Stepper.{Stepper}
use Rattle.stepper.specs.Standing.{table_in, IsSound}
use Rattle.stepper.specs.Stepping.{IsKnownIn, IsNext, IsStep}

-- nothing is said of an installation over an actor
pub no_course : (ps : List Written) (own : Bytes) (number n : ℕ) (r : Running) → IsNext ps own (event.Install number) n (state.Running r) next.NoCourse
no_course ps own number n r = record {
  standing = tt;
  known = r.actor.table.items;
  tables = λ groups known. known;
  kept = tt;
  means = λ coding faithful groups known firsts charged. tt;
}

module _ (e : Event) (n : ℕ) (x : Stepper) (sound : IsSound x) where
  -- nothing has changed
  pub still_step : IsNext x.programs.now x.own.now e n x.state next.Still → IsStep e n x x stepped.Still
  still_step so = record { sound = sound; same = refl; known = so.known; tables = so.tables; kept = tt; means = so.means }

  pub no_step : IsNext x.programs.now x.own.now e n x.state next.NoCourse → IsStep e n x x stepped.NoCourse
  no_step so = record { sound = sound; same = refl; known = so.known; tables = so.tables; kept = tt; means = so.means }

  -- the state that was is the one behind
  same_known : (s : State) → (known : List GroupOf) → known ≡ table_in s → IsKnownIn known s
  same_known (state.NoActor came) known is = tt
  same_known (state.Running r) known is = is

  ignored_there : IsNext x.programs.now x.own.now e n x.state next.Ignored → IsStep e n x x (stepped.Items (item.Ignored ∷ []))
  ignored_there so = record {
    sound = sound;
    same = (refl, refl);
    known = so.known;
    tables = so.tables;
    kept = same_known x.state so.known so.kept;
    means = λ coding faithful groups known firsts charged.
        let g = so.means coding faithful groups known firsts charged in
        (g.0, g.1, charged, g.2);
  }

  pub ignored_step : (items : List Item) → items ≡ item.Ignored ∷ [] → IsNext x.programs.now x.own.now e n x.state next.Ignored → IsStep e n x x (stepped.Items items)
  ignored_step items is so =
      let Of : List Item → Type 0 = λ l. IsStep e n x x (stepped.Items l) in
      subst Of (sym is) (ignored_there so)

  pub behind_step : (b : Behind) → IsNext x.programs.now x.own.now e n x.state (next.Behind b) → IsStep e n x (record x { state = b.state }) (stepped.Items b.items)
  behind_step b so = record {
    sound = record { owned = sound.owned; standing = so.standing };
    same = (refl, refl);
    known = so.known;
    tables = so.tables;
    kept = so.kept;
    means = so.means;
  }
