-- Steppers of well-typed programs go on.
use Rattle.std.proofs.Common.{◌≡◌, ℕ, zero, suc, ◌≤◌, List, [], ◌∷◌, ◌++◌, length, map, Some, None, refl, sym, ap, ◌∙◌, subst}
use Rattle.play_script.specs.declared.event.Event.{Event}
use Rattle.play_script.specs.declared.item.Item.{Item}
use Rattle.mo_types.specs.Sub.{Each}
use Rattle.mo_values.specs.Shapes.{Bytes}
use Rattle.mo_actor.specs.Courses.{ComesTo}
use Rattle.mo_actor.specs.Measures.{Measure, Spent, Unmeasured}
use Rattle.mo_actor.specs.Outcomes.{Outcome}
use Rattle.mo_actor.specs.Programs as actor
use Rattle.mo_actor.specs.Reached.{LeadsTo}
use Rattle.mo_actor.specs.States.{ActorState, NoActor}
use Rattle.mo_actor.specs.Steps.{event_course}
use Rattle.typed_tree.specs.declared.program.Program.{Program as Written}
use Rattle.typed_tree.specs.Language.{Functions}
use Rattle.typed_tree.specs.WellTyped.{WellTyped}
use Rattle.mo_meaning.specs.Coding.{Coding, IsFaithful}
use Rattle.mo_meaning.specs.Kernel.{kernel}
use Rattle.mo_machine.specs.ActorLanguage.{machine}
use Rattle.mo_machine.specs.States.{by_meaning, by_states, TypedActor, UnloadsTo, WithoutActor}
use Rattle.mo_machine.proofs.ActorRuns.{event_alike}
use Rattle.mo_machine.proofs.CoursesAlike.{comes}
use Rattle.program_soundness.specs.Actors.{AreTyped, IsProper, IsSaid, IsTypedProgram}
use Rattle.program_soundness.proofs.Actors.{reached_typed}
use Rattle.program_soundness.proofs.Goes.{event_comes}
use Rattle.stepper.specs.declared.state.State.TheVariants as state
use Rattle.stepper.specs.declared.state.Stepper.{Stepper}
use Rattle.stepper.specs.Runs.{typed, RunsTo, StepsTo}
use Rattle.stepper.specs.Standing.{meant, state_of}
use Rattle.stepper.specs.Stepping.{course_of}
use Rattle.stepper.proofs.Runs.{ArrivesTyped, typed_arrive}
use Rattle.sound_steppers.specs.Sound.{GoesOn}
use Rattle.sound_steppers.proofs.Back.{comes_back}

-- ---- programs

module _ (coding : Coding) (firsts : Written → ℕ) where
  all_typed : (ps : List Written) → Each WellTyped ps → AreTyped coding (map (by_meaning coding) (map (typed firsts) ps))
  all_typed [] w n q e = absurd (let z : None ≡ Some q = e in cc)
  all_typed (p ∷ ps) w zero q e =
      let z : Some (by_meaning coding (typed firsts p)) ≡ Some q = e in
      let same : by_meaning coding (typed firsts p) ≡ q = cc in
      subst (IsTypedProgram coding) same (record { program_of = p; first = firsts p; well_typed = w.0; is = refl })
  all_typed (p ∷ ps) w (suc n) q e = all_typed ps w.1 n q e

  typed_are : (ps : List Written) → map (by_states coding) (map (typed firsts) ps) ≡ map (λ p. meant coding firsts p) ps
  typed_are [] = refl
  typed_are (p ∷ ps) = ap (λ (qs : List (actor.Program machine)). meant coding firsts p ∷ qs) (typed_are ps)

-- ---- the run of the meaning

module _ (coding : Coding) (own : Bytes) (actors : List TypedActor) where
  unloaded_run : (pays : Measure) (events : List Event) (s : ActorState machine) (t : ActorState kernel) → UnloadsTo coding s t → (items : List Item) (last : ActorState machine)
      → RunsTo pays (map (by_states coding) actors) own s events items last
      → (end : ActorState kernel) × RunsTo pays (map (by_meaning coding) actors) own t events items end × UnloadsTo coding last end
  unloaded_run pays [] s t a items last h = (t, (h.0, refl), subst (λ z. UnloadsTo coding z t) (sym h.1) a)
  unloaded_run pays (e ∷ events) s t a items last h =
      let olds : List (actor.Program machine) = map (by_states coding) actors in
      let news : List (actor.Program kernel) = map (by_meaning coding) actors in
      let r = comes (UnloadsTo coding) pays (event_course olds own e s) (event_course news own e t) (event_alike coding own actors e s t a) h.0 h.1 in
      let rest = unloaded_run pays events (h.0).next (r.0).next r.3 h.2 last h.4 in
      (rest.0, (r.0, r.1, h.2, h.3 ∙ ap (λ is. is ++ h.2) (sym r.2), rest.1), rest.2)

leads_to : (programs : List (actor.Program kernel)) (own : Bytes) (events : List Event) (s : ActorState kernel) (items : List Item) (last : ActorState kernel)
    → RunsTo Unmeasured programs own s events items last → LeadsTo Unmeasured programs own s events last
leads_to programs own [] s items last h = h.1
leads_to programs own (e ∷ events) s items last h = (h.0, h.1, leads_to programs own events (h.0).next h.2 last h.4)

-- ---- steppers

module _ (coding : Coding) (faithful : IsFaithful coding) (firsts : Written → ℕ) (x : Stepper) (fit : Each WellTyped x.programs.now) (short : length x.own.now ≤ 29) where
  abbrev actors : List TypedActor
  actors = map (typed firsts) x.programs.now

  abbrev programs : List (actor.Program kernel)
  programs = map (by_meaning coding) actors

  abbrev own : Bytes
  own = x.own.now

  pub steps_go_on : (events : List Event) (items : List Item) (last : Stepper) → x.state ≡ state.NoActor 0 → Each IsProper events → StepsTo x events items last
      → GoesOn coding firsts x.programs.now own events items last
  steps_go_on events items last first proper steps =
      let so : ArrivesTyped Unmeasured coding faithful firsts x events items last = typed_arrive Unmeasured coding faithful firsts x events items last first steps in
      let stood : ActorState machine = state_of coding firsts so.0 last.state so.2 in
      let run = unloaded_run coding own actors Unmeasured events (NoActor 0 []) (NoActor 0 []) (WithoutActor 0 []) items stood so.3 in
      let known : AreTyped coding programs = all_typed coding firsts x.programs.now fit in
      let fits = reached_typed coding faithful Unmeasured programs known own short events run.0 proper (leads_to programs own events (NoActor 0 []) items run.0 run.1) in
      record {
        groups = so.0;
        known = so.1;
        charged = so.2;
        state = run.0;
        stands = run.2;
        runs = run.1;
        typed = fits;
        goes_on = λ e is said most stack pages.
            let o = event_comes coding faithful most stack pages programs known own short e run.0 is said fits in
            let back = comes_back (UnloadsTo coding) (Spent most stack pages) (event_course (map (by_states coding) actors) own e stood) (event_course programs own e run.0)
            (event_alike coding own actors e stood run.0 run.2) o.0 o.1 in
            let Of : List (actor.Program machine) → Type 0 = λ qs. (reached : Outcome (ActorState machine)) × ComesTo (Spent most stack pages) (event_course qs own e stood) reached in
            subst Of (typed_are coding firsts x.programs.now) back;
      }
