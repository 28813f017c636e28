-- An upgrade while calls are open is one execution that traps at its first turn.
use Rattle.std.proofs.Common.{◌≡◌, ℕ, zero, suc, List, [], ◌∷◌, Bool, false, cond, nat_eq, Option, Some, None, Vec, Global, refl, sym, ap, ◌∙◌, subst}
use Rattle.std.specs.Prelude.{codes}
use Rattle.play_script.specs.declared.item.Item.{Item}
use Rattle.mo_types.specs.Calls.{open_count}
use Rattle.mo_values.specs.Shapes.{Bytes}
use Rattle.mo_actor.specs.Computed.{Followed, ToItsEnd, followed, followed_to}
use Rattle.mo_actor.specs.Courses.{Course, Runs}
use Rattle.mo_actor.specs.Executions.{trapping}
use Rattle.mo_actor.specs.Outcomes.{outcome}
use Rattle.mo_actor.specs.Programs as Programs
use Rattle.mo_actor.specs.States as actor
use Rattle.mo_actor.specs.States.{ActorState}
use Rattle.mo_actor.specs.Upgrades.{saved}
use Rattle.typed_tree.specs.declared.program.Program.{Program as Written}
use Rattle.typed_tree.specs.Language.{Functions}
use Rattle.typed_tree.specs.ProgramView.{program}
use Rattle.mo_meaning.specs.Coding.{Coding}
use Rattle.mo_meaning.specs.Kernel.{Kept}
use Rattle.mo_machine.specs.ActorLanguage.{machine}
use Rattle.mo_machine.specs.States.{with_states}
use Rattle.arena_states.specs.declared.group.GroupOf.{GroupOf}
use Rattle.arena_states.specs.Groups.{HasGroups}
use Rattle.arena_actors.specs.declared.actor.Actor.{Actor}
use Rattle.arena_actors.specs.Copied.{IsActorCopy}
use Rattle.arena_actors.specs.States.{actor_of, AreAtRest}
use Rattle.arena_outcomes.specs.declared.ran.Over.{Over}
use Rattle.arena_upgrades.specs.declared.upgraded.Upgrade.{Upgrade}
use Rattle.arena_upgrades.specs.declared.upgraded.Upgrade.TheVariants as upgrade
use Rattle.arena_upgrades.specs.Outstanding.{trap_item, HasOpen, IsStaying}
use Rattle.arena_upgrades.specs.Upgrades.{IsUpgrade}

module _ (old new : Written) (own : Bytes) (x : Actor) (coding : Coding) (groups : ℕ → Functions) (first again charged : ℕ) where
  abbrev p : Programs.Program machine
  p = with_states coding first old.types (program old)

  abbrev q : Programs.Program machine
  q = with_states coding again new.types (program new)

  abbrev a : actor.Actor machine
  a = actor_of coding old.types groups x charged

  abbrev course : Bool → Course (ActorState machine)
  course b = Runs Kept first charged (cond b (p.save own a.store) (trapping (codes "outstanding calls"))) (λ r. saved own p a q r)

  abbrev by : ℕ → Bool → Option (Followed (ActorState machine))
  by n b = followed (course b) (ToItsEnd n ∷ ToItsEnd n ∷ [])

  -- no turn is made
  open_still : (b : Bool) → b ≡ false → by 0 b ≡ None
  open_still b is = ap (by 0) is

  open_traps : (m : ℕ) (b : Bool) → b ≡ false → by (suc m) b ≡ Some (followed_to (outcome (trap_item ∷ []) (actor.Running p a)) [] (ToItsEnd (suc m) ∷ []))
  open_traps m b is = ap (by (suc m)) is

module _ (old new : Written) (own : Bytes) (x : Actor) (opened : HasOpen x) where
  pub outstanding_still : (table : Vec GroupOf Global) → table.items ≡ x.table.items → IsUpgrade old new own 0 x (upgrade.Still table)
  outstanding_still table is = record {
    sound = tt;
    tables = λ groups known.
        let Of : List GroupOf → Type 0 = λ l. HasGroups groups l in
        subst Of is known;
    rests = λ groups known rests. tt;
    means = λ coding faithful groups known rests first again charged.
        open_still old new own x coding groups first again charged (nat_eq (open_count (actor_of coding old.types groups x charged).table) 0) (opened coding old.types);
  }

  staying_there : (m : ℕ) (o : Over) → o.items ≡ trap_item ∷ [] → IsActorCopy x o.actor → IsUpgrade old new own (suc m) x (upgrade.Stays o)
  staying_there m o is copy = record {
    sound = copy.sound;
    tables = λ groups known.
        let Of : List GroupOf → Type 0 = λ l. HasGroups groups l in
        subst Of copy.table known;
    rests = λ groups known rests.
        let Of : List (actor.Activation machine) → Type 0 = λ l. AreAtRest l in
        subst Of (sym (copy.came groups)) rests;
    means = λ coding faithful groups known rests first again charged.
        let here : actor.Actor machine = actor_of coding old.types groups x charged in
        let p : Programs.Program machine = with_states coding first old.types (program old) in (
          followed_to (outcome (trap_item ∷ []) (actor.Running p here)) [] (ToItsEnd (suc m) ∷ []),
          open_traps old new own x coding groups first again charged m (nat_eq (open_count here.table) 0) (opened coding old.types),
          charged,
          ap (λ (l : List Item). outcome l (actor.Running p here)) (sym is)
              ∙ ap (λ (y : actor.Actor machine). outcome o.items (actor.Running p y)) (sym (copy.means coding old.types groups charged)),
        );
  }

  pub outstanding_traps : (m : ℕ) (items : List Item) (u : Upgrade) → items ≡ trap_item ∷ [] → IsStaying x items u → IsUpgrade old new own (suc m) x u
  outstanding_traps m items u are staying =
      let Of : Upgrade → Type 0 = λ z. IsUpgrade old new own (suc m) x z in
      subst Of (sym staying.1) (staying_there m staying.0 (staying.2 ∙ are) staying.3)

  -- by the turns
  pub outstanding_first : (n : ℕ) (table : Vec GroupOf Global) → n ≡ 0 → table.items ≡ x.table.items → IsUpgrade old new own n x (upgrade.Still table)
  outstanding_first n table none is =
      let Of : ℕ → Type 0 = λ m. IsUpgrade old new own m x (upgrade.Still table) in
      subst Of (sym none) (outstanding_still table is)

  pub outstanding_later : (n : ℕ) (items : List Item) (u : Upgrade) → (n ≡ 0 → ⊥) → items ≡ trap_item ∷ [] → IsStaying x items u → IsUpgrade old new own n x u
  outstanding_later zero items u some are staying = absurd (some refl)
  outstanding_later (suc m) items u some are staying = outstanding_traps m items u are staying
