-- The upgrade of an actor that has no open calls.
use Rattle.std.proofs.Common.{◌≡◌, ℕ, List, [], ◌∷◌, Option, refl, sym, subst}
use Rattle.mo_actor.specs.Computed.{Followed, ToItsEnd, followed_to}
use Rattle.mo_actor.specs.Outcomes.{outcome, trap_items}
use Rattle.mo_actor.specs.States as actor
use Rattle.mo_actor.specs.States.{ActorState}
use Rattle.play_script.specs.declared.item.Word.TheVariants as word
use Rattle.mo_values.specs.Shapes.{Bytes}
use Rattle.typed_tree.specs.declared.program.Program.{Program as Written}
use Rattle.typed_tree.specs.Language.{Functions}
use Rattle.typed_tree.specs.ProgramView.{program}
use Rattle.mo_meaning.specs.Coding.{Coding, IsFaithful}
use Rattle.mo_machine.specs.ActorLanguage.{machine, Fields}
use Rattle.mo_machine.specs.Starting.{save_of}
use Rattle.mo_machine.specs.States.{with_states}
use Rattle.arena_states.specs.declared.group.GroupOf.{GroupOf}
use Rattle.arena_states.specs.Groups.{HasGroups}
use Rattle.arena_actors.specs.declared.actor.Actor.{Actor}
use Rattle.arena_actors.specs.Copied.{IsActorCopy}
use Rattle.arena_actors.specs.States.{actor_of, fields_of, Rests}
use Rattle.arena_saving.specs.declared.saved.Saved.{Saved}
use Rattle.arena_saving.specs.declared.saved.Saved.TheVariants as saved
use Rattle.arena_saving.specs.Saving.{table_in as known_in, IsSaved, Saves}
use Rattle.arena_upgrades.specs.declared.upgraded.Upgrade.{Upgrade}
use Rattle.arena_upgrades.specs.Outstanding.{HasNoOpen}
use Rattle.arena_upgrades.specs.Saving.{IsBehindSaving}
use Rattle.arena_upgrades.specs.Upgrades.{table_in, Comes, IsSoundAfter, IsUpgrade, RestsAfter}
use Rattle.arena_upgrades.proofs.Courses.{is_whole, saves, whole, whole_keeps, whole_still, whole_traps}
use Rattle.arena_upgrades.proofs.Lefts.{left_reaches, left_rests, left_sound, left_table}

module _ (old new : Written) (own : Bytes) (n : ℕ) (x copy : Actor) (none : HasNoOpen x) (copied : IsActorCopy x copy) where
  -- the copy saves what the actor would
  fields_same : (groups : ℕ → Functions) → fields_of groups copy.arena copy.store.items copy.exports ≡ fields_of groups x.arena x.store.items x.exports
  fields_same groups = copied.fields groups

  saves_same : (coding : Coding) (groups : ℕ → Functions) (charged : ℕ) (s : Saved)
      → Saves old.types (program old).stable n s (save_of coding old.types (program old) own (fields_of groups copy.arena copy.store.items copy.exports))
      → Saves old.types (program old).stable n s (saves old new own n x coding groups 0 0 charged)
  saves_same coding groups charged s h =
      let Of : Fields → Type 0 = λ f. Saves old.types (program old).stable n s (save_of coding old.types (program old) own f) in
      subst Of (fields_same groups) h

  known_in_saved : (s : Saved) (u : Upgrade) (groups : ℕ → Functions) → IsBehindSaving old new own n x s u → HasGroups groups (table_in u) → HasGroups groups (known_in s)
  known_in_saved (saved.Still table) u groups is has = let Of : Upgrade → Type 0 = λ z. HasGroups groups (table_in z) in subst Of is has
  known_in_saved (saved.Traps table prints text) u groups staying has =
      let Of : Upgrade → Type 0 = λ z. HasGroups groups (table_in z) in
      let At : List GroupOf → Type 0 = λ l. HasGroups groups l in
      subst At (left_table x table (trap_items prints (word.Text text)) staying.over staying.left) (subst Of staying.is has)
  known_in_saved (saved.Keeps k) u groups over has = over.tables groups has

  sound_so : (s : Saved) (u : Upgrade) → IsBehindSaving old new own n x s u → IsSoundAfter u
  sound_so (saved.Still table) u is = let Of : Upgrade → Type 0 = λ z. IsSoundAfter z in subst Of (sym is) tt
  sound_so (saved.Traps table prints text) u staying =
      let Of : Upgrade → Type 0 = λ z. IsSoundAfter z in
      subst Of (sym staying.is) (left_sound x table (trap_items prints (word.Text text)) staying.over staying.left)
  sound_so (saved.Keeps k) u over = over.sound

  rests_so : (s : Saved) (u : Upgrade) (groups : ℕ → Functions) → IsBehindSaving old new own n x s u → Rests groups x → RestsAfter groups u
  rests_so (saved.Still table) u groups is h = let Of : Upgrade → Type 0 = λ z. RestsAfter groups z in subst Of (sym is) tt
  rests_so (saved.Traps table prints text) u groups staying h =
      let Of : Upgrade → Type 0 = λ z. RestsAfter groups z in
      subst Of (sym staying.is) (left_rests x table (trap_items prints (word.Text text)) staying.over staying.left groups h)
  rests_so (saved.Keeps k) u groups over h = over.rests groups h

  module _ (coding : Coding) (faithful : IsFaithful coding) (groups : ℕ → Functions) (first again charged : ℕ) where
    abbrev To : Upgrade → Type 0
    To u = Comes coding groups old new first again (whole old new own n x coding groups first again charged (saves old new own n x coding groups first again charged)) u

    means_so : (s : Saved) (u : Upgrade) → HasGroups groups (table_in u) → IsBehindSaving old new own n x s u → Saves old.types (program old).stable n s (saves old new own n x coding groups first again charged) → To u
    means_so (saved.Still table) u has is h =
        let Of : Upgrade → Type 0 = λ z. To z in
        subst Of (sym is) (whole_still old new own n x coding groups first again charged (saves old new own n x coding groups first again charged) h)
    means_so (saved.Traps table prints text) u has staying h =
        let Of : Upgrade → Type 0 = λ z. To z in
        subst Of (sym staying.is)
        (left_reaches x table (trap_items prints (word.Text text)) staying.over staying.left coding groups old first charged
        (whole old new own n x coding groups first again charged (saves old new own n x coding groups first again charged))
        (followed_to (outcome (trap_items prints (word.Text text)) (actor.Running (with_states coding first old.types (program old)) (actor_of coding old.types groups x charged))) [] (ToItsEnd n ∷ []))
        (whole_traps old new own n x coding groups first again charged (saves old new own n x coding groups first again charged) prints text h.0 h.1) refl)
    means_so (saved.Keeps k) u has over h =
        let Of : Option (Followed (ActorState machine)) → Type 0 = λ f. Comes coding groups old new first again f u in
        subst Of (sym (whole_keeps old new own n x coding groups first again charged (saves old new own n x coding groups first again charged) k.prints h.1 h.0 h.3)) (over.means coding faithful groups has h.1 h.2 first again charged)

  pub upgrade_so : (s : Saved) (u : Upgrade) → IsSaved old own n copy s → IsBehindSaving old new own n x s u → IsUpgrade old new own n x u
  upgrade_so s u is behind = record {
    sound = sound_so s u behind;
    tables = λ groups has.
        let Of : List GroupOf → Type 0 = λ l. HasGroups groups l in
        subst Of copied.table (is.tables groups (known_in_saved s u groups behind has));
    rests = λ groups has h. rests_so s u groups behind h;
    means = λ coding faithful groups has h first again charged.
        let Of : Option (Followed (ActorState machine)) → Type 0 = λ f. Comes coding groups old new first again f u in
        let known : HasGroups groups (known_in s) = known_in_saved s u groups behind has in
        subst Of (sym (is_whole old new own n x coding groups first again charged (none coding old.types)))
        (means_so coding faithful groups first again charged s u has behind (saves_same coding groups charged s (is.means coding faithful groups known)));
  }
