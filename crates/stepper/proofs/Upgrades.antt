-- Upgrades, as steps.
use Rattle.std.proofs.Common.{◌≡◌, ℕ, List, [], ◌∷◌, Option, Some, None, refl, sym, ap, ◌∙◌, subst}
use Rattle.std.specs.Prelude.{slice_get}
use Rattle.play_script.specs.declared.event.Event.TheVariants as event
use Rattle.play_script.specs.declared.item.Item.TheVariants as item
use Rattle.mo_values.specs.Shapes.{Bytes}
use Rattle.mo_actor.specs.Computed.{Followed, ToItsEnd, followed, followed_to}
use Rattle.mo_actor.specs.Outcomes.{outcome}
use Rattle.mo_actor.specs.Programs as Programs
use Rattle.mo_actor.specs.States as actor
use Rattle.mo_actor.specs.States.{ActorState}
use Rattle.mo_actor.specs.Upgrades.{upgrade_course}
use Rattle.typed_tree.specs.declared.program.Program.{Program as Written}
use Rattle.typed_tree.specs.Language.{Functions}
use Rattle.mo_meaning.specs.Coding.{Coding, IsFaithful}
use Rattle.mo_machine.specs.ActorLanguage.{machine}
use Rattle.arena_states.specs.Groups.{HasGroups}
use Rattle.arena_equality.specs.Own.{AreOwnLabels}
use Rattle.arena_actors.specs.declared.actor.Actor.{Actor}
use Rattle.arena_actors.specs.States.{actor_of, IsSound, Rests}
use Rattle.arena_outcomes.specs.declared.ran.Over.{Over}
use Rattle.arena_upgrades.specs.declared.upgraded.Upgrade.{Upgrade}
use Rattle.arena_upgrades.specs.declared.upgraded.Upgrade.TheVariants as upgrade
use Rattle.arena_upgrades.specs.Upgrades.{IsUpgrade}
use Rattle.stepper.specs.declared.state.Next.{Next}
use Rattle.stepper.specs.declared.state.Next.TheVariants as next
use Rattle.stepper.specs.declared.state.Running.{Running}
use Rattle.stepper.specs.declared.state.State.TheVariants as state
use Rattle.stepper.specs.Living.{IsBehind}
use Rattle.stepper.specs.Standing.{meant, IsActorStanding}
use Rattle.stepper.specs.Stepping.{Comes, IsNext}
use Rattle.stepper.specs.Upgrading.{IsNextOf}
use Rattle.stepper.proofs.Lives.{standing_so, state_so}
use Rattle.stepper.proofs.Named.{named_in, named_is}

module _ (ps : List Written) (own : Bytes) (number n : ℕ) (r : Running) where
  abbrev Nexts : Next → Type 0
  Nexts after = IsNext ps own (event.Upgrade number) n (state.Running r) after

  -- where it stands
  abbrev here : Coding → (Written → ℕ) → (ℕ → Functions) → (charged : ℕ) → actor.Actor machine
  here coding firsts groups charged = actor_of coding r.program.now.types groups r.actor charged

  abbrev ComesBy : Coding → (Written → ℕ) → (ℕ → Functions) → (charged : ℕ) → Next → Option (Programs.Program machine) → Type 0
  ComesBy coding firsts groups charged after o =
      Comes coding firsts groups (state.Running r) charged (ToItsEnd n ∷ ToItsEnd n ∷ []) (upgrade_course own (meant coding firsts r.program.now) (here coding firsts groups charged) o) after

  -- none of that number
  pub unknown_upgrade : slice_get ps number ≡ None → Nexts next.Ignored
  unknown_upgrade none = record {
    standing = tt;
    known = r.actor.table.items;
    tables = λ groups known. known;
    kept = refl;
    means = λ coding faithful groups known firsts charged.
        subst (ComesBy coding firsts groups charged next.Ignored) (sym (named_is coding firsts ps number None none)) (
          followed_to (outcome (item.Ignored ∷ []) (actor.Running (meant coding firsts r.program.now) (here coding firsts groups charged))) [] (ToItsEnd n ∷ ToItsEnd n ∷ []),
          refl,
          refl,
        );
  }

  module _ (p : Written) (found : slice_get ps number ≡ Some p) (standing : IsActorStanding r) (labels : AreOwnLabels p.types) where
    abbrev course : Coding → (Written → ℕ) → (ℕ → Functions) → (charged : ℕ) → Option (Followed (ActorState machine))
    course coding firsts groups charged =
        followed (upgrade_course own (meant coding firsts r.program.now) (here coding firsts groups charged) (Some (meant coding firsts p))) (ToItsEnd n ∷ ToItsEnd n ∷ [])

    there : (coding : Coding) (firsts : Written → ℕ) (groups : ℕ → Functions) (charged : ℕ) (after : Next)
        → ComesBy coding firsts groups charged after (Some (meant coding firsts p)) → ComesBy coding firsts groups charged after (named_in coding firsts ps number)
    there coding firsts groups charged after so = subst (ComesBy coding firsts groups charged after) (sym (named_is coding firsts ps number (Some p) found)) so

    -- with this program and this actor behind it
    behind_upgrade : (q : Written) (o : Over) (after : Next) → IsBehind q o after → AreOwnLabels q.types → IsSound o.actor
        → ((groups : ℕ → Functions) → HasGroups groups o.actor.table.items → HasGroups groups r.actor.table.items)
        → ((groups : ℕ → Functions) → HasGroups groups o.actor.table.items → Rests groups o.actor)
        → ((coding : Coding) → IsFaithful coding → (groups : ℕ → Functions) → HasGroups groups o.actor.table.items → (firsts : Written → ℕ) (charged : ℕ)
        → (g : Followed (ActorState machine)) × (course coding firsts groups charged ≡ Some g) × (weight : ℕ)
        × (g.reached ≡ outcome o.items (actor.Running (meant coding firsts q) (actor_of coding q.types groups o.actor weight))))
        → Nexts after
    behind_upgrade q o after is owned sound longer rests reaches =
        let s : Running = is.0 in
        let Of : Next → Type 0 = λ z. Nexts z in
        subst Of (sym is.1) (record {
          standing = standing_so q o.actor s is.2 is.3 owned sound rests;
          known = o.actor.table.items;
          tables = longer;
          kept = ap (λ (y : Actor). y.table.items) (sym is.3);
          means = λ coding faithful groups known firsts charged.
              let so = reaches coding faithful groups known firsts charged in
              there coding firsts groups charged (next.Behind (record { items = o.items; state = state.Running s })) (
                so.0,
                so.1,
                so.2,
                so.3 ∙ ap (λ (z : ActorState machine). outcome o.items z) (state_so q o.actor s is.2 is.3 coding firsts groups so.2),
              );
        })

    pub upgraded_next : (u : Upgrade) (after : Next) → IsUpgrade r.program.now p own n r.actor u → IsNextOf r.program.now p u after → Nexts after
    upgraded_next (upgrade.Still table) after so is =
        let Of : Next → Type 0 = λ z. Nexts z in
        subst Of (sym is) (record {
          standing = tt;
          known = table.items;
          tables = so.tables;
          kept = tt;
          means = λ coding faithful groups known firsts charged.
              there coding firsts groups charged next.Still
              (tt, so.means coding faithful groups known (standing.rests groups (so.tables groups known)) (firsts r.program.now) (firsts p) charged);
        })
    upgraded_next (upgrade.Stays o) after so is =
        behind_upgrade r.program.now o after is standing.labels so.sound so.tables
        (λ groups known. so.rests groups known (standing.rests groups (so.tables groups known)))
        (λ coding faithful groups known firsts charged. so.means coding faithful groups known (standing.rests groups (so.tables groups known)) (firsts r.program.now) (firsts p) charged)
    upgraded_next (upgrade.Upgrades o) after so is =
        behind_upgrade p o after is labels so.sound so.tables
        (λ groups known. so.rests groups known (standing.rests groups (so.tables groups known)))
        (λ coding faithful groups known firsts charged. so.means coding faithful groups known (standing.rests groups (so.tables groups known)) (firsts r.program.now) (firsts p) charged)
