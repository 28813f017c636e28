-- Events where no actor is, as steps.
use Rattle.std.proofs.Common.{◌≡◌, ℕ, ◌+◌, List, [], ◌∷◌, ◌++◌, length, map, Bool, Option, Some, None, refl, sym, ap, ap₂, ◌∙◌, subst, arith}
use Rattle.std.specs.Prelude.{codes, slice_get}
use Rattle.play_script.specs.declared.event.Event.TheVariants as event
use Rattle.play_script.specs.declared.item.Item.TheVariants as item
use Rattle.mo_values.specs.Shapes.{Bytes}
use Rattle.mo_actor.specs.Computed.{ToItsEnd, followed_to}
use Rattle.mo_actor.specs.Executions.{Execution as Executes, Traps}
use Rattle.mo_actor.specs.Outcomes.{Outcome, outcome}
use Rattle.mo_actor.specs.Programs as Programs
use Rattle.mo_actor.specs.Results.{Completed, Result, Trapped}
use Rattle.mo_actor.specs.States as actor
use Rattle.mo_actor.specs.States.{Activation, ActorState, IsAnswered, NoActor}
use Rattle.mo_actor.specs.Upgrades.{install_course, installed}
use Rattle.typed_tree.specs.declared.program.Program.{Program as Written}
use Rattle.typed_tree.specs.Language.{Functions}
use Rattle.typed_tree.specs.ProgramView.{program}
use Rattle.mo_meaning.specs.Coding.{Coding, IsFaithful}
use Rattle.mo_machine.specs.ActorLanguage.{machine, Fields}
use Rattle.mo_machine.specs.Starting.{start_of}
use Rattle.arena_states.specs.declared.group.GroupOf.{GroupOf}
use Rattle.arena_states.specs.Groups.{HasGroups}
use Rattle.arena_equality.specs.Own.{AreOwnLabels}
use Rattle.arena_actors.specs.declared.actor.Actor.{Actor}
use Rattle.arena_actors.specs.States.{fields_of}
use Rattle.arena_events.proofs.Follows.{followed_completes, followed_still, followed_traps}
use Rattle.arena_starts.specs.declared.starting.Beginning.{Beginning}
use Rattle.arena_starts.specs.declared.starting.Started.{Started}
use Rattle.arena_starts.specs.declared.starting.Started.TheVariants as started
use Rattle.arena_starts.specs.Starts.{IsStart}
use Rattle.stepper.specs.declared.state.Next.{Next}
use Rattle.stepper.specs.declared.state.Next.TheVariants as next
use Rattle.stepper.specs.declared.state.Running.{Running}
use Rattle.stepper.specs.declared.state.State.TheVariants as state
use Rattle.stepper.specs.Absent.{refused}
use Rattle.stepper.specs.Installing.{begun, broken, IsInstalled}
use Rattle.stepper.specs.Standing.{meant, repeat, state_of}
use Rattle.stepper.specs.Stepping.{Comes, IsNext}
use Rattle.stepper.proofs.Lives.{standing_so, state_so}
use Rattle.stepper.proofs.Named.{named_in, named_is}
use Rattle.stepper.proofs.Repeats.{came_repeat, length_repeat, repeat_more, rests_repeat, within_repeat}

-- an event that comes to its outcome at once, where no groups of functions are known
nothing_had : (groups : ℕ → Functions) → HasGroups groups []
nothing_had groups g d below = absurd (omega (arith, below))

none_known : (groups : ℕ → Functions) → HasGroups groups [] → HasGroups groups []
none_known groups known = known

pub ignored_answer : (ps : List Written) (own : Bytes) (number : ℕ) (bytes : Bytes) (n came : ℕ) → IsNext ps own (event.Reply number bytes) n (state.NoActor came) next.Ignored
ignored_answer ps own number bytes n came = record {
  standing = tt;
  known = [];
  tables = none_known;
  kept = refl;
  means = λ coding faithful groups known firsts charged. (followed_to (outcome (item.Ignored ∷ []) (NoActor 0 (repeat came IsAnswered))) [] (ToItsEnd n ∷ []), refl, refl);
}

pub ignored_reject : (ps : List Written) (own : Bytes) (number code : ℕ) (text : Bytes) (n came : ℕ) → IsNext ps own (event.Reject number code text) n (state.NoActor came) next.Ignored
ignored_reject ps own number code text n came = record {
  standing = tt;
  known = [];
  tables = none_known;
  kept = refl;
  means = λ coding faithful groups known firsts charged. (followed_to (outcome (item.Ignored ∷ []) (NoActor 0 (repeat came IsAnswered))) [] (ToItsEnd n ∷ []), refl, refl);
}

pub ignored_upgrade : (ps : List Written) (own : Bytes) (number n came : ℕ) → IsNext ps own (event.Upgrade number) n (state.NoActor came) next.Ignored
ignored_upgrade ps own number n came = record {
  standing = tt;
  known = [];
  tables = none_known;
  kept = refl;
  means = λ coding faithful groups known firsts charged.
      (followed_to (outcome (item.Ignored ∷ []) (NoActor 0 (repeat came IsAnswered))) [] (ToItsEnd n ∷ ToItsEnd n ∷ []), refl, refl);
}

abbrev answered_calls : ℕ → List (Activation machine)
answered_calls n = repeat n IsAnswered

counted : (n : ℕ) → length (answered_calls n) ≡ n
counted n = length_repeat n IsAnswered

one_more : (n : ℕ) → answered_calls (n + 1) ≡ answered_calls n ++ IsAnswered ∷ []
one_more n = repeat_more n IsAnswered

-- a call is rejected
module _ (ps : List Written) (own : Bytes) (query : Bool) (name caller argument : Bytes) (n came : ℕ) where
  refused_outcome : outcome (item.Rejected (length (answered_calls came)) 3 (codes "no canister") ∷ []) (NoActor 0 (answered_calls came ++ IsAnswered ∷ []))
      ≡ outcome (item.Rejected came 3 (codes "no canister") ∷ []) (NoActor 0 (answered_calls (came + 1)))
  refused_outcome =
      ap₂ (λ (m : ℕ) (xs : List (Activation machine)). outcome (item.Rejected m 3 (codes "no canister") ∷ []) (NoActor 0 xs)) (counted came) (sym (one_more came))

  refused_there : IsNext ps own (event.Call query name caller argument) n (state.NoActor came) (refused came)
  refused_there = record {
    standing = tt;
    known = [];
    tables = none_known;
    kept = tt;
    means = λ coding faithful groups known firsts charged. (
      followed_to (outcome (item.Rejected (length (answered_calls came)) 3 (codes "no canister") ∷ []) (NoActor 0 (answered_calls came ++ IsAnswered ∷ []))) [] (ToItsEnd n ∷ []),
      refl,
      0,
      refused_outcome,
    );
  }

  pub refused_next : (after : Next) → after ≡ refused came → IsNext ps own (event.Call query name caller argument) n (state.NoActor came) after
  refused_next after is =
      let Of : Next → Type 0 = λ z. IsNext ps own (event.Call query name caller argument) n (state.NoActor came) z in
      subst Of (sym is) refused_there

-- ---- installations

module _ (ps : List Written) (own : Bytes) (number n came : ℕ) where
  abbrev Nexts : Next → Type 0
  Nexts after = IsNext ps own (event.Install number) n (state.NoActor came) after

  abbrev acts : List (Activation machine)
  acts = answered_calls came

  abbrev named : Coding → (Written → ℕ) → Option (Programs.Program machine)
  named coding firsts = named_in coding firsts ps number

  -- none of that number
  pub unknown_next : slice_get ps number ≡ None → Nexts next.Ignored
  unknown_next none = record {
    standing = tt;
    known = [];
    tables = none_known;
    kept = refl;
    means = λ coding faithful groups known firsts charged.
        let Of : Option (Programs.Program machine) → Type 0 =
        λ o. Comes coding firsts groups (state.NoActor came) charged (ToItsEnd n ∷ []) (install_course own 0 acts o) next.Ignored in
        subst Of (sym (named_is coding firsts ps number None none)) (followed_to (outcome (item.Ignored ∷ []) (NoActor 0 acts)) [] (ToItsEnd n ∷ []), refl, refl);
  }

  module _ (p : Written) (found : slice_get ps number ≡ Some p) (labels : AreOwnLabels p.types) where
    module _ (coding : Coding) (firsts : Written → ℕ) (groups : ℕ → Functions) (charged : ℕ) where
      abbrev start : Executes Fields
      start = start_of coding p.types (program p) own None

      abbrev behind : Result Fields → Outcome (ActorState machine)
      behind r = installed (meant coding firsts p) 0 acts r

      there : (after : Next) → Comes coding firsts groups (state.NoActor came) charged (ToItsEnd n ∷ []) (install_course own 0 acts (Some (meant coding firsts p))) after
          → Comes coding firsts groups (state.NoActor came) charged (ToItsEnd n ∷ []) (install_course own 0 acts (named coding firsts)) after
      there after so =
          let Of : Option (Programs.Program machine) → Type 0 =
          λ o. Comes coding firsts groups (state.NoActor came) charged (ToItsEnd n ∷ []) (install_course own 0 acts o) after in
          subst Of (sym (named_is coding firsts ps number (Some p) found)) so

    still_next : (table : List GroupOf)
        → ((coding : Coding) → IsFaithful coding → (groups : ℕ → Functions) → HasGroups groups table → (start_of coding p.types (program p) own None n).completion ≡ None)
        → ((groups : ℕ → Functions) → HasGroups groups table → HasGroups groups [])
        → Nexts next.Still
    still_next table none longer = record {
      standing = tt;
      known = table;
      tables = longer;
      kept = tt;
      means = λ coding faithful groups known firsts charged.
          there coding firsts groups charged next.Still
          (tt, followed_still (firsts p) 0 n (start coding firsts groups charged) (behind coding firsts groups charged) (none coding faithful groups known));
    }

    broken_next : (table : List GroupOf) (prints : List Bytes) (text : Bytes)
        → ((coding : Coding) → IsFaithful coding → (groups : ℕ → Functions) → HasGroups groups table
        → ((start_of coding p.types (program p) own None n).prints ≡ prints) × ((start_of coding p.types (program p) own None n).completion ≡ Some (Traps text)))
        → ((groups : ℕ → Functions) → HasGroups groups table → HasGroups groups [])
        → Nexts (broken came prints text)
    broken_next table prints text traps longer = record {
      standing = tt;
      known = table;
      tables = longer;
      kept = tt;
      means = λ coding faithful groups known firsts charged.
          let so = traps coding faithful groups known in
          there coding firsts groups charged (broken came prints text) (
            followed_to (behind coding firsts groups charged (Trapped (start coding firsts groups charged n).prints text)) [] [],
            followed_traps (firsts p) 0 n (start coding firsts groups charged) (behind coding firsts groups charged) text so.1,
            0,
            ap (λ (ls : List Bytes). behind coding firsts groups charged (Trapped ls text)) so.0,
          );
    }

    module _ (b : Beginning) (r : Running) (is : r.program.now ≡ p) (are : r.actor ≡ begun came b) where
      -- the actor that has begun
      begun_state : (coding : Coding) (firsts : Written → ℕ) (groups : ℕ → Functions) (weight : ℕ)
          → actor.Running (meant coding firsts p) (record { store = fields_of groups b.arena b.store.items b.exports; table = record { first = 0; calls = [] }; activations = acts; charged = weight })
          ≡ state_of coding firsts groups (state.Running r) weight
      begun_state coding firsts groups weight =
          ap (λ (xs : List (Activation machine)). actor.Running (meant coding firsts p)
          (record { store = fields_of groups b.arena b.store.items b.exports; table = record { first = 0; calls = [] }; activations = xs; charged = weight }))
          (sym (came_repeat groups b.arena came))
          ∙ state_so p (begun came b) r is are coding firsts groups weight

      begun_next : IsStart p own n (started.Starts b)
          → Nexts (next.Behind (record { items = map item.Print b.prints ++ item.Installed ∷ []; state = state.Running r }))
      begun_next begins = record {
        standing = standing_so p (begun came b) r is are labels
            (record { stores = begins.sound.stores; exports = begins.sound.exports; came = within_repeat b.arena came }) (λ groups known. rests_repeat groups b.arena came);
        known = b.table.items;
        tables = λ groups known. nothing_had groups;
        kept = ap (λ (x : Actor). x.table.items) (sym are);
        means = λ coding faithful groups known firsts charged.
            let so = begins.means coding faithful groups known in
            let x : Executes Fields = start coding firsts groups charged in
            let fields : Fields = fields_of groups b.arena b.store.items b.exports in
            there coding firsts groups charged (next.Behind (record { items = map item.Print b.prints ++ item.Installed ∷ []; state = state.Running r })) (
              followed_to (behind coding firsts groups charged (Completed (x n).prints (x n).weight fields)) [] [],
              followed_completes (firsts p) 0 n x (behind coding firsts groups charged) fields so.1,
              (x n).weight,
              ap (λ (ls : List Bytes). behind coding firsts groups charged (Completed ls (x n).weight fields)) so.0
                  ∙ ap (λ (s : ActorState machine). outcome (map item.Print b.prints ++ item.Installed ∷ []) s) (begun_state coding firsts groups (x n).weight),
            );
      }

    pub installed_next : (s : Started) (after : Next) → IsStart p own n s → IsInstalled came p s after → Nexts after
    installed_next (started.Still table) after begins is =
        let Of : Next → Type 0 = λ z. Nexts z in
        subst Of (sym is) (still_next table.items begins.means (λ groups known. nothing_had groups))
    installed_next (started.Traps table prints text) after begins is =
        let Of : Next → Type 0 = λ z. Nexts z in
        subst Of (sym is) (broken_next table.items prints text begins.means (λ groups known. nothing_had groups))
    installed_next (started.Starts b) after begins is =
        let Of : Next → Type 0 = λ z. Nexts z in
        subst Of (sym is.1) (begun_next b is.0 is.2 is.3 begins)
