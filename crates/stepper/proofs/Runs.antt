-- Events in turn are runs.
use Rattle.std.proofs.Common.{◌≡◌, ℕ, List, [], ◌∷◌, ◌++◌, map, refl, sym, ap, ◌∙◌, subst}
use Rattle.std.specs.Prelude.{slice_index_or}
use Rattle.std.proofs.lemmas.List.{get_or_default}
use Rattle.play_script.specs.declared.event.Event.{Event}
use Rattle.play_script.specs.declared.item.Item.{Item}
use Rattle.mo_values.specs.Shapes.{Bytes}
use Rattle.mo_actor.specs.Courses.{ComesTo}
use Rattle.mo_actor.specs.Languages.{Language}
use Rattle.mo_actor.specs.Measures.{Measure}
use Rattle.mo_actor.specs.Outcomes.{Outcome, outcome}
use Rattle.mo_actor.specs.Programs as Programs
use Rattle.mo_actor.specs.States.{ActorState, NoActor}
use Rattle.mo_actor.specs.Steps.{ActorRun, RunsFrom, Step}
use Rattle.typed_tree.specs.declared.program.Program.{Program as Written}
use Rattle.typed_tree.specs.Language.{Functions}
use Rattle.mo_meaning.specs.Coding.{Coding, IsFaithful}
use Rattle.mo_machine.specs.ActorLanguage.{machine}
use Rattle.mo_machine.specs.States.{by_meaning, by_states}
use Rattle.mo_machine.proofs.ActorRuns.{run_alike}
use Rattle.arena_states.specs.declared.group.GroupOf.{GroupOf}
use Rattle.arena_states.specs.declared.group.GroupOf.TheVariants as group_of
use Rattle.arena_states.specs.Groups.{functions_in, HasGroups}
use Rattle.stepper.specs.declared.state.State.{State}
use Rattle.stepper.specs.declared.state.State.TheVariants as state
use Rattle.stepper.specs.declared.state.Stepped.TheVariants as stepped
use Rattle.stepper.specs.declared.state.Stepper.{Stepper}
use Rattle.stepper.specs.Runs.{typed, RunsTo, Steps, StepsTo}
use Rattle.stepper.specs.Standing.{meant, state_of, table_in}
use Rattle.stepper.specs.Stepping.{course_of, extents, IsKnownIn, IsStep}
use Rattle.stepper.proofs.Reached.{are_ends, comes_to}

-- each table has its groups
abbrev groups_in : List GroupOf → ℕ → Functions
groups_in table g = functions_in (slice_index_or table g group_of.Resume)

has_them : (table : List GroupOf) → HasGroups (groups_in table) table
has_them table g d below = ap functions_in (get_or_default table g group_of.Resume d below)

-- the items of a run that leads to some state
runs_from : {L : Language} (pays : Measure) (programs : List (Programs.Program L)) (own : Bytes) (es : List Event) (s last : ActorState L) (items : List Item)
    → RunsTo pays programs own s es items last → RunsFrom pays programs own s es items
runs_from pays programs own [] s last items h = h.0
runs_from pays programs own (e ∷ es) s last items h = (h.0, h.1, h.2, h.3, runs_from pays programs own es (h.0).next last h.2 h.4)

module _ (pays : Measure) (coding : Coding) (faithful : IsFaithful coding) (firsts : Written → ℕ) where
  abbrev pub programs_of : Stepper → List (Programs.Program machine)
  programs_of x = map (λ p. meant coding firsts p) x.programs.now

  abbrev Goes : Stepper → List Event → List Item → (first last : ActorState machine) → Type 0
  Goes x es items s t = RunsTo pays (programs_of x) x.own.now s es items t

  -- to what the last stepper stands for, with some groups
  abbrev pub Arrives : Stepper → List Event → List Item → ActorState machine → (last : Stepper) → Type 0
  Arrives x es items s last =
      (groups : ℕ → Functions) × HasGroups groups (table_in last.state) × (after : ℕ) × Goes x es items s (state_of coding firsts groups last.state after)

  -- with the groups of some table, which are also those of the state
  abbrev Composes : Stepper → List Event → List Item → (last : Stepper) → Type 0
  Composes x es items last =
      (table : List GroupOf) × ((groups : ℕ → Functions) → HasGroups groups table → HasGroups groups (table_in x.state))
      × ((groups : ℕ → Functions) → HasGroups groups table → (charged : ℕ) → Arrives x es items (state_of coding firsts groups x.state charged) last)

  module _ (e : Event) (n : ℕ) (x y : Stepper) (now : List Item) (step : IsStep e n x y (stepped.Items now)) where
    -- one event
    step_so : (groups : ℕ → Functions) → HasGroups groups step.known → (charged : ℕ)
        → (after : ℕ) × Step pays (programs_of x) x.own.now e (state_of coding firsts groups x.state charged) (outcome now (state_of coding firsts groups y.state after))
    step_so groups known charged =
        let so = step.means coding faithful groups known firsts charged in
        let c = course_of coding firsts groups x.programs.now x.own.now e x.state charged in
        let Of : Outcome (ActorState machine) → Type 0 = λ o. ComesTo pays c o in
        (so.2, subst Of so.3 (comes_to pays c (extents n e) (are_ends n e) so.0 so.1))

    -- the others, which have the same programs
    others_so : (es : List Event) (others : List Item) (s t : ActorState machine) → Goes y es others s t → Goes x es others s t
    others_so es others s t h =
        let Of : List Written → Type 0 = λ ps. RunsTo pays (map (λ p. meant coding firsts p) ps) y.own.now s es others t in
        let At : Bytes → Type 0 = λ own. RunsTo pays (programs_of x) own s es others t in
        subst At step.same.1 (subst Of step.same.0 h)

    module _ (es : List Event) (items others : List Item) (last : Stepper) (is : items ≡ now ++ others) (later : Composes y es others last) where
      -- the groups of the later events are those of this one, too
      with_later : step.known ≡ table_in y.state → Composes x (e ∷ es) items last
      with_later same =
          let Of : (groups : ℕ → Functions) → List GroupOf → Type 0 = λ groups l. HasGroups groups l in
          let here : (groups : ℕ → Functions) → HasGroups groups later.0 → HasGroups groups step.known = λ groups has. subst (Of groups) (sym same) (later.1 groups has) in (
            later.0,
            λ groups has. step.tables groups (here groups has),
            λ groups has charged.
                let t = step_so groups (here groups has) charged in
                let s : ActorState machine = state_of coding firsts groups y.state t.0 in
                let r : Arrives y es others s last = later.2 groups has t.0 in
                (r.0, r.1, r.2, (outcome now s, t.1, others, is, others_so es others s (state_of coding firsts r.0 last.state r.2) r.3)),
          )

      -- the state behind it has no groups
      with_others : ((groups other : ℕ → Functions) (a b : ℕ) → state_of coding firsts groups y.state a ≡ state_of coding firsts other y.state b)
          → Composes x (e ∷ es) items last
      with_others any = (
        step.known,
        step.tables,
        λ groups has charged.
            let t = step_so groups has charged in
            let s : ActorState machine = state_of coding firsts (groups_in later.0) y.state t.0 in
            let r : Arrives y es others s last = later.2 (groups_in later.0) (has_them later.0) t.0 in
            let end : ActorState machine = state_of coding firsts r.0 last.state r.2 in
            let Of : ActorState machine → Type 0 = λ z. Goes x es others z end in
            (r.0, r.1, r.2, (outcome now (state_of coding firsts groups y.state t.0), t.1, others, is, subst Of (any (groups_in later.0) groups t.0 t.0) (others_so es others s end r.3))),
      )

      by : (s : State) → y.state ≡ s → IsKnownIn step.known s → Composes x (e ∷ es) items last
      by (state.NoActor came) at known =
          with_others (λ groups other a b.
          ap (λ (s : State). state_of coding firsts groups s a) at ∙ sym (ap (λ (s : State). state_of coding firsts other s b) at))
      by (state.Running r) at known = with_later (known ∙ sym (ap (λ (s : State). table_in s) at))

  composed : (es : List Event) (x : Stepper) (items : List Item) (last : Stepper) → StepsTo x es items last → Composes x es items last
  composed [] x items last h = (
    table_in x.state,
    λ groups has. has,
    λ groups has charged.
        let Of : Stepper → Type 0 = λ y. HasGroups groups (table_in y.state) in
        (groups, subst Of (sym h.1) has, charged, (h.0, ap (λ (y : Stepper). state_of coding firsts groups y.state charged) h.1)),
  )
  composed (e ∷ es) x items last h =
      by e h.0 x h.1 h.2 h.3 es items h.4 last h.5 (composed es h.1 h.4 last h.6) (h.1).state refl (h.3).kept

  states_arrive : (x : Stepper) (es : List Event) (items : List Item) (last : Stepper) → x.state ≡ state.NoActor 0 → StepsTo x es items last
      → Arrives x es items (NoActor 0 []) last
  states_arrive x es items last first steps =
      let so : Composes x es items last = composed es x items last steps in
      let Of : State → Type 0 = λ s. Arrives x es items (state_of coding firsts (groups_in so.0) s 0) last in
      subst Of first (so.2 (groups_in so.0) (has_them so.0) 0)

  programs_are : (ps : List Written) → map (λ p. meant coding firsts p) ps ≡ map (by_states coding) (map (typed firsts) ps)
  programs_are [] = refl
  programs_are (p ∷ ps) = ap (λ (qs : List (Programs.Program machine)). meant coding firsts p ∷ qs) (programs_are ps)

  -- as a run of the typed programs
  abbrev pub ArrivesTyped : Stepper → List Event → List Item → (last : Stepper) → Type 0
  ArrivesTyped x es items last =
      (groups : ℕ → Functions) × HasGroups groups (table_in last.state) × (after : ℕ)
      × RunsTo pays (map (by_states coding) (map (typed firsts) x.programs.now)) x.own.now (NoActor 0 []) es items (state_of coding firsts groups last.state after)

  pub typed_arrive : (x : Stepper) (es : List Event) (items : List Item) (last : Stepper) → x.state ≡ state.NoActor 0 → StepsTo x es items last → ArrivesTyped x es items last
  typed_arrive x es items last first steps =
      let r : Arrives x es items (NoActor 0 []) last = states_arrive x es items last first steps in
      let Of : List (Programs.Program machine) → Type 0 = λ qs. RunsTo pays qs x.own.now (NoActor 0 []) es items (state_of coding firsts r.0 last.state r.2) in
      (r.0, r.1, r.2, subst Of (programs_are x.programs.now) r.3)

  pub meant_runs : (x : Stepper) (es : List Event) (items : List Item) → x.state ≡ state.NoActor 0 → Steps x es items
      → ActorRun pays (map (by_meaning coding) (map (typed firsts) x.programs.now)) x.own.now es items
  meant_runs x es items first steps =
      let r : ArrivesTyped x es items steps.0 = typed_arrive x es items steps.0 first steps.1 in
      let programs : List (Programs.Program machine) = map (by_states coding) (map (typed firsts) x.programs.now) in
      run_alike coding x.own.now (map (typed firsts) x.programs.now) pays es items
      (runs_from pays programs x.own.now es (NoActor 0 []) (state_of coding firsts r.0 (steps.0).state r.2) items r.3)
