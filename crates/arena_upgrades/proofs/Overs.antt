-- The new program over what was kept.
use Rattle.std.proofs.Common.{◌≡◌, ℕ, zero, suc, ◌+◌, List, [], ◌∷◌, ◌++◌, length, map, Option, Some, None, Vec, Global, refl, sym, ap, ap₂, ◌∙◌, subst}
use Rattle.std.proofs.lemmas.List.{length-map}
use Rattle.play_script.specs.declared.item.Item.{Item}
use Rattle.play_script.specs.declared.item.Item.TheVariants as item
use Rattle.play_script.specs.declared.item.Word.TheVariants as word
use Rattle.mo_types.specs.declared.datum.Datum.{Datum}
use Rattle.mo_types.specs.declared.node.TypeId.{TypeId}
use Rattle.mo_types.specs.Calls.{next_number}
use Rattle.mo_types.specs.Code.{Variable}
use Rattle.mo_values.specs.Shapes.{Bytes}
use Rattle.mo_actor.specs.Computed.{Followed, followed_to}
use Rattle.mo_actor.specs.Executions.{Execution as Executes}
use Rattle.mo_actor.specs.Outcomes.{outcome, print_items, trap_items}
use Rattle.mo_actor.specs.States as actor
use Rattle.mo_actor.specs.States.{ActorState}
use Rattle.mo_actor.specs.Upgrades.{started}
use Rattle.typed_tree.specs.declared.program.Program.{Program as Written}
use Rattle.typed_tree.specs.Language.{Functions}
use Rattle.typed_tree.specs.Language as typed
use Rattle.typed_tree.specs.ProgramView.{program}
use Rattle.mo_meaning.specs.Coding.{Coding, IsFaithful}
use Rattle.mo_meaning.specs.Starting.{all_kept, all_taken, incompatible}
use Rattle.mo_machine.specs.ActorLanguage.{machine, Fields}
use Rattle.mo_machine.specs.Starting.{kept_value}
use Rattle.mo_machine.specs.States.{with_states}
use Rattle.value_arena.specs.declared.node.Node.{Node}
use Rattle.value_arena.specs.declared.node.ValueId.{ValueId}
use Rattle.value_arena.specs.Growth.{Grows}
use Rattle.value_arena.proofs.Growing.{composes}
use Rattle.arena_states.specs.declared.group.GroupOf.{GroupOf}
use Rattle.arena_states.specs.Groups.{HasGroups}
use Rattle.arena_actors.specs.declared.actor.Activation.{Activation}
use Rattle.arena_actors.specs.declared.actor.Actor.{Actor}
use Rattle.arena_actors.specs.declared.actor.Made.{Made}
use Rattle.arena_actors.specs.Copied.{IsActorCopy}
use Rattle.arena_actors.specs.States.{actor_of, came_of, call_of, fields_of, AreAtRest, AreCameWithin, IsSound, Rests}
use Rattle.arena_actors.proofs.States.{came_stays, came_there}
use Rattle.arena_bodies.specs.Restarting.{kept_at}
use Rattle.arena_outcomes.specs.declared.ran.Over.{Over}
use Rattle.arena_keeping.specs.Keeping.{AreTakenOver, IsKept}
use Rattle.arena_saving.specs.declared.saved.Keeping.{Keeping}
use Rattle.arena_saving.specs.Saving.{AreVariables}
use Rattle.arena_starts.specs.declared.starting.Beginning.{Beginning}
use Rattle.arena_starts.specs.declared.starting.Started.{Started}
use Rattle.arena_starts.specs.declared.starting.Started.TheVariants as started_as
use Rattle.arena_starts.specs.Restarts.{started_over, IsRestart}
use Rattle.arena_starts.specs.Starts.{table_in as known_in_start, Begins, IsSoundStart}
use Rattle.arena_upgrades.specs.declared.restarting.Base.{Base}
use Rattle.arena_upgrades.specs.declared.upgraded.Upgrade.{Upgrade}
use Rattle.arena_upgrades.specs.declared.upgraded.Upgrade.TheVariants as upgrade
use Rattle.arena_upgrades.specs.Restarting.{begun_actor, IsBegunAs, IsBase, IsBaseOf, IsKeptOver, IsOverKept, IsRestartedAs}
use Rattle.arena_upgrades.specs.Staying.{IsIncompatible, IsStayingWith}
use Rattle.arena_upgrades.specs.Upgrades.{table_in, Comes, Reaches, IsSoundAfter, RestsAfter}
use Rattle.arena_upgrades.proofs.Courses.{cost, second, second_starts, second_still, second_traps, starts, starts_not, starts_over, starts_trap}
use Rattle.arena_upgrades.proofs.Lefts.{left_reaches, left_rests, left_sound, left_table}

-- ---- what stays of the actor

pub base_so : (x copy : Actor) (next : ℕ) (g : Base) → IsActorCopy x copy → next ≡ x.first + length x.made → IsBaseOf copy next g → IsBase x g
base_so x copy next g copied is of = record {
  first = of.first ∙ is;
  within =
      let Of : List Node → Type 0 = λ ns. AreCameWithin ns g.came in
      let At : List Activation → Type 0 = λ xs. AreCameWithin copy.arena xs in
      subst Of (sym of.arena) (subst At (sym of.came) copied.sound.came);
  came = λ groups. ap₂ (λ (ns : List Node) (xs : List Activation). came_of groups ns xs) of.arena of.came ∙ copied.came groups;
}

-- ---- what is over

module _ (old new : Written) (own : Bytes) (n : ℕ) (x : Actor) (table : Vec GroupOf Global) (prints : List Bytes) (g : Base) (base : IsBase x g) (ns : List Node) (grows : Grows g.arena ns) where
  -- the sides that do not speak of the meaning
  record Sides (u : Upgrade) : Type 0 where
    pub sound : IsSoundAfter u
    pub tables : (groups : ℕ → Functions) → HasGroups groups (table_in u) → HasGroups groups table.items
    pub rests : (groups : ℕ → Functions) → Rests groups x → RestsAfter groups u

  still_sides : (known : Vec GroupOf Global) (u : Upgrade) → u ≡ upgrade.Still known → ((groups : ℕ → Functions) → HasGroups groups known.items → HasGroups groups table.items) → Sides u
  still_sides known u is more =
      let Of : Upgrade → Type 0 = λ z. Sides z in
      subst Of (sym is) (record { sound = tt; tables = more; rests = λ groups h. tt })

  left_sides : (known : Vec GroupOf Global) (items : List Item) (u : Upgrade) → IsStayingWith x known items u → ((groups : ℕ → Functions) → HasGroups groups known.items → HasGroups groups table.items) → Sides u
  left_sides known items u staying more =
      let Of : Upgrade → Type 0 = λ z. Sides z in
      subst Of (sym staying.is) (record {
        sound = left_sound x known items staying.over staying.left;
        tables = λ groups has. let At : List GroupOf → Type 0 = λ l. HasGroups groups l in more groups (subst At (left_table x known items staying.over staying.left) has);
        rests = λ groups h. left_rests x known items staying.over staying.left groups h;
      })

  -- the actor of the new program
  module _ (b : Beginning) (more : Grows ns b.arena) (sound : IsSoundStart (started_as.Starts b)) where
    all : Grows g.arena b.arena
    all = composes g.arena ns b.arena grows more

    abbrev now : Actor
    now = begun_actor b g.first g.came

    now_sound : IsSound now
    now_sound = record { stores = sound.stores; exports = sound.exports; came = came_there g.arena b.arena all g.came base.within }

    now_came : (groups : ℕ → Functions) → came_of groups b.arena g.came ≡ came_of groups x.arena x.came
    now_came groups = came_stays g.arena b.arena all groups g.came base.within ∙ base.came groups

    now_rests : (groups : ℕ → Functions) → Rests groups x → Rests groups now
    now_rests groups h = let Of : List (actor.Activation machine) → Type 0 = λ l. AreAtRest l in subst Of (sym (now_came groups)) h

    begun_sides : (before : List Item) (u : Upgrade) → IsBegunAs before b g.first g.came u → ((groups : ℕ → Functions) → HasGroups groups b.table.items → HasGroups groups table.items) → Sides u
    begun_sides before u begun known =
        let Of : Upgrade → Type 0 = λ z. Sides z in
        let At : Actor → Type 0 = λ y. IsSound y in
        subst Of (sym begun.is) (record {
          sound = subst At (sym begun.actor) now_sound;
          tables = λ groups has. let On : List GroupOf → Type 0 = λ l. HasGroups groups l in known groups (subst On (ap (λ (y : Actor). y.table.items) begun.actor) has);
          rests = λ groups h. let By : Actor → Type 0 = λ y. Rests groups y in subst By (sym begun.actor) (now_rests groups h);
        })

    -- its state is that of the meaning
    now_is : (coding : Coding) (groups : ℕ → Functions) (weight charged : ℕ)
        → started (next_number (actor_of coding old.types groups x charged).table) (actor_of coding old.types groups x charged).activations (fields_of groups b.arena b.store.items b.exports) weight ≡ actor_of coding new.types groups now weight
    now_is coding groups weight charged =
        let fields : Fields = fields_of groups b.arena b.store.items b.exports in
        let numbered : ℕ → List (actor.Activation machine) → actor.Actor machine = λ m l. record { store = fields; table = record { first = m; calls = [] }; activations = l; charged = weight } in
        ap₂ numbered
        (ap (λ (k : ℕ). x.first + k) (length-map x.made (λ (m : Made). call_of coding old.types m)) ∙ sym base.first)
        (sym (now_came groups))

    begun_reaches : (before : List Item) (o : Over) (coding : Coding) (groups : ℕ → Functions) (again weight charged : ℕ) (f : Option (Followed (ActorState machine)))
        → o.items ≡ before ++ (print_items b.prints ++ item.Upgraded ∷ []) → o.actor ≡ now
        → f ≡ Some (followed_to (outcome (before ++ (print_items b.prints ++ item.Upgraded ∷ [])) (actor.Running (with_states coding again new.types (program new))
        (started (next_number (actor_of coding old.types groups x charged).table) (actor_of coding old.types groups x charged).activations (fields_of groups b.arena b.store.items b.exports) weight))) [] [])
        → Reaches coding groups new again o f
    begun_reaches before o coding groups again weight charged f items is ends =
        let running : actor.Actor machine → ActorState machine = λ a. actor.Running (with_states coding again new.types (program new)) a in
        let a : actor.Actor machine = started (next_number (actor_of coding old.types groups x charged).table) (actor_of coding old.types groups x charged).activations (fields_of groups b.arena b.store.items b.exports) weight in (
          followed_to (outcome (before ++ (print_items b.prints ++ item.Upgraded ∷ [])) (running a)) [] [],
          ends,
          weight,
          ap (λ (l : List Item). outcome l (running a)) (sym items)
              ∙ ap (λ (y : actor.Actor machine). outcome o.items (running y)) (now_is coding groups weight charged ∙ ap (λ (z : Actor). actor_of coding new.types groups z weight) (sym is)),
        )

  -- ---- the meaning

  module _ (coding : Coding) (faithful : IsFaithful coding) (groups : ℕ → Functions) (variables : List (Variable TypeId)) (first again charged : ℕ) where
    abbrev f : Option (Followed (ActorState machine))
    f = second old new own n x coding groups first again charged prints variables

    abbrev To : Upgrade → Type 0
    To u = Comes coding groups old new first again f u

    still_comes : (known : Vec GroupOf Global) (u : Upgrade) → u ≡ upgrade.Still known → f ≡ None → To u
    still_comes known u is none = let Of : Upgrade → Type 0 = λ z. To z in subst Of (sym is) none

    left_comes : (known : Vec GroupOf Global) (items : List Item) (u : Upgrade) → IsStayingWith x known items u
        → f ≡ Some (followed_to (outcome items (actor.Running (with_states coding first old.types (program old)) (actor_of coding old.types groups x charged))) [] []) → To u
    left_comes known items u staying ends =
        let Of : Upgrade → Type 0 = λ z. To z in
        subst Of (sym staying.is)
        (left_reaches x known items staying.over staying.left coding groups old first charged f
        (followed_to (outcome items (actor.Running (with_states coding first old.types (program old)) (actor_of coding old.types groups x charged))) [] []) ends refl)

    -- what the start comes to is what the meaning says
    restart_comes : (kept : List (Option ValueId)) (ks : List (Option typed.Value)) (r : Started) (u : Upgrade) → all_kept (all_taken coding old.types new.types variables (program new).stable) ≡ Some ks
        → IsRestart new own n ns table.items kept r → Begins groups n r (started_over coding new own ks (cost old new own n x coding groups first again charged prints variables)) → IsRestartedAs x (print_items prints) r g.first g.came u → To u
    restart_comes kept ks (started_as.Still known) u are restart begins comes =
        still_comes known u comes
        (second_still old new own n x coding groups first again charged prints variables
        (ap (λ (e : Executes Fields). (e n).completion) (starts_over old new own n x coding groups first again charged prints variables ks are) ∙ begins))
    restart_comes kept ks (started_as.Traps known more text) u are restart begins comes =
        let so = starts_over old new own n x coding groups first again charged prints variables ks are in
        left_comes known (print_items prints ++ trap_items more (word.Text text)) u comes
        (second_traps old new own n x coding groups first again charged prints variables more text (ap (λ (e : Executes Fields). (e n).prints) so ∙ begins.0) (ap (λ (e : Executes Fields). (e n).completion) so ∙ begins.1))
    restart_comes kept ks (started_as.Starts b) u are restart begins comes =
        let so = starts_over old new own n x coding groups first again charged prints variables ks are in
        let Of : Upgrade → Type 0 = λ z. To z in
        subst Of (sym comes.is)
        (begun_reaches b restart.grows restart.sound (print_items prints) comes.over coding groups again (starts old new own n x coding groups first again charged prints variables n).weight charged f comes.items comes.actor
        (second_starts old new own n x coding groups first again charged prints variables b.prints (fields_of groups b.arena b.store.items b.exports) (ap (λ (e : Executes Fields). (e n).prints) so ∙ begins.0)
        (ap (λ (e : Executes Fields). (e n).completion) so ∙ begins.1)))

  restart_sides : (kept : List (Option ValueId)) (r : Started) (u : Upgrade) → IsRestart new own n ns table.items kept r → IsRestartedAs x (print_items prints) r g.first g.came u → Sides u
  restart_sides kept (started_as.Still known) u restart comes = still_sides known u comes restart.tables
  restart_sides kept (started_as.Traps known more text) u restart comes = left_sides known (print_items prints ++ trap_items more (word.Text text)) u comes restart.tables
  restart_sides kept (started_as.Starts b) u restart comes = begun_sides b restart.grows restart.sound (print_items prints) u comes restart.tables

  -- ---- the whole

  fresh_sides : (m : ℕ) (u : Upgrade) → IsIncompatible m x table (print_items prints) u → Sides u
  fresh_sides zero u is = still_sides table u is (λ groups has. has)
  fresh_sides (suc m) u staying = left_sides table (print_items prints ++ trap_items [] (word.Text incompatible)) u staying (λ groups has. has)

  fresh_comes : (coding : Coding) (faithful : IsFaithful coding) (groups : ℕ → Functions) (variables : List (Variable TypeId)) (first again charged : ℕ) (m : ℕ) → n ≡ m
      → all_kept (all_taken coding old.types new.types variables (program new).stable) ≡ None → (u : Upgrade) → IsIncompatible m x table (print_items prints) u → To coding faithful groups variables first again charged u
  fresh_comes coding faithful groups variables first again charged zero is none u so =
      still_comes coding faithful groups variables first again charged table u so (starts_not old new own n x coding groups first again charged prints variables none is)
  fresh_comes coding faithful groups variables first again charged (suc m) is none u staying =
      left_comes coding faithful groups variables first again charged table (print_items prints ++ trap_items [] (word.Text incompatible)) u staying
      (starts_trap old new own n x coding groups first again charged prints variables m none is)

  none_is : (o : Option (List (Option typed.Value))) → IsKept ns o None → o ≡ None
  none_is None h = refl
  none_is (Some ks) h = absurd h

  record Somes (o : Option (List (Option typed.Value))) (kept : List (Option ValueId)) : Type 0 where
    pub values : List (Option typed.Value)
    pub is : o ≡ Some values
    pub are : (groups : ℕ → Functions) → map kept_value values ≡ map (kept_at groups ns) kept

  some_is : (o : Option (List (Option typed.Value))) (kept : List (Option ValueId)) → IsKept ns o (Some kept) → Somes o kept
  some_is None kept h = absurd h
  some_is (Some ks) kept h = record { values = ks; is = refl; are = h }

  abbrev here : Base
  here = record g { arena = ns }

  abbrev Means : List (List Datum) → Upgrade → Type 0
  Means parts u = (coding : Coding) → IsFaithful coding → (groups : ℕ → Functions) → HasGroups groups (table_in u) → (variables : List (Variable TypeId)) → AreVariables old.types (program old).stable parts variables → (first again charged : ℕ)
      → Comes coding groups old new first again (second old new own n x coding groups first again charged prints variables) u

  over_sides : (kept : Option (List (Option ValueId))) (u : Upgrade) → IsKeptOver new own n x table (print_items prints) here kept u → Sides u
  over_sides None u h = fresh_sides n u h
  over_sides (Some kept) u h = restart_sides kept h.started u h.restart h.comes

  over_means : (kept : Option (List (Option ValueId))) (parts : List (List Datum)) (u : Upgrade) → AreTakenOver g.arena old new parts kept ns → IsKeptOver new own n x table (print_items prints) here kept u → Means parts u
  over_means None parts u taken h = λ coding faithful groups has variables are first again charged.
      fresh_comes coding faithful groups variables first again charged n refl (none_is (all_kept (all_taken coding old.types new.types variables (program new).stable)) (taken.means coding faithful variables are)) u h
  over_means (Some kept) parts u taken h = λ coding faithful groups has variables are first again charged.
      let some = some_is (all_kept (all_taken coding old.types new.types variables (program new).stable)) kept (taken.means coding faithful variables are) in
      restart_comes coding faithful groups variables first again charged kept some.values h.started u some.is h.restart
      (h.restart.means coding faithful groups (known_in h.started u h.comes has) some.values (some.are groups) (cost old new own n x coding groups first again charged prints variables)) h.comes
    where
      known_in : (r : Started) (v : Upgrade) → IsRestartedAs x (print_items prints) r g.first g.came v → {groups : ℕ → Functions} → HasGroups groups (table_in v) → HasGroups groups (known_in_start r)
      known_in (started_as.Still known) v comes {groups} has = let Of : Upgrade → Type 0 = λ z. HasGroups groups (table_in z) in subst Of comes has
      known_in (started_as.Traps known more text) v comes {groups} has =
          let Of : Upgrade → Type 0 = λ z. HasGroups groups (table_in z) in
          let At : List GroupOf → Type 0 = λ l. HasGroups groups l in
          subst At (left_table x known (print_items prints ++ trap_items more (word.Text text)) comes.over comes.left) (subst Of comes.is has)
      known_in (started_as.Starts b) v comes {groups} has =
          let Of : Upgrade → Type 0 = λ z. HasGroups groups (table_in z) in
          let At : List GroupOf → Type 0 = λ l. HasGroups groups l in
          subst At (ap (λ (y : Actor). y.table.items) comes.actor) (subst Of comes.is has)

pub over_so : (old new : Written) (own : Bytes) (n : ℕ) (x : Actor) (k : Keeping) (g : Base) (base : IsBase x g) (ns : List Node) (kept : Option (List (Option ValueId))) (u : Upgrade)
    → AreTakenOver g.arena old new (map (λ p. p.items) k.parts.items) kept ns → IsKeptOver new own n x k.table (print_items k.prints) (record g { arena = ns }) kept u → IsOverKept old new own n x k u
over_so old new own n x k g base ns kept u taken h =
    let sides = over_sides old new own n x k.table k.prints g base ns taken.grows kept u h in
    record {
      sound = sides.sound;
      tables = sides.tables;
      rests = sides.rests;
      means = over_means old new own n x k.table k.prints g base ns taken.grows kept (map (λ p. p.items) k.parts.items) u taken h;
    }
