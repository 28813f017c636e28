-- Runs and what is computed of them are the same.
use Rattle.std.proofs.Common.{◌≡◌, ℕ, Bool, true, false, cond, List, [], ◌∷◌, ◌++◌, length, take, drop, Option, Some, None, refl, sym, ap, ap₂, ◌∙◌, subst, take-append-drop}
use Rattle.std.specs.List.{AllByRecursion}
use Rattle.play_script.specs.declared.event.Event.{Event}
use Rattle.play_script.specs.declared.item.Item.{Item}
use Rattle.play_script.specs.declared.item.Word.{Word}
use Rattle.mo_actor.specs.Languages.{Language}
use Rattle.mo_actor.specs.Executions.{Completion, Completes, Traps, Progress, Execution}
use Rattle.mo_actor.specs.Programs.{Program}
use Rattle.mo_actor.specs.Measures.{Measure, is_limit}
use Rattle.mo_actor.specs.Results.{Result, Completed, Trapped, Exhausted, HasResult, exhaustion}
use Rattle.mo_actor.specs.States.{ActorState, NoActor}
use Rattle.mo_actor.specs.Outcomes.{Outcome}
use Rattle.mo_actor.specs.Courses.{Course, Over, Runs, NoCourse, ComesTo}
use Rattle.mo_actor.specs.Steps.{event_course, RunsFrom}
use Rattle.mo_actor.specs.Computed.{Extent, ToItsEnd, ToALimit, Followed, Transcript, result_by, result_within, exhaustions_within, followed_to, behind_exhaustions, behind_result, followed, transcript, behind_items, behind_event, transcript_from}
use Rattle.mo_actor.specs.Laws.{TranscriptsAreRuns, RunsAreTranscripts}
use Rattle.mo_actor.proofs.Lists.{from_some, all_append, all_front, all_back, take_front}

abbrev pub ended_by : {A : Type 0} → Progress A → Option (Completion A) → Progress A
ended_by p end = record { prints = p.prints; weight = p.weight; depth = p.depth; completion = end }

module _ (pays : Measure) where
  -- What an extent shows is a result.

  at_its_end : {A : Type 0} (first_memory charged turns : ℕ) (x : Execution A) (r : Result A) (end : Option (Completion A))
      → (x turns).completion ≡ end → result_by (x turns) end ≡ Some r → HasResult pays first_memory charged x r
  at_its_end first_memory charged turns x r None is e = absurd (cc)
  at_its_end first_memory charged turns x r (Some (Completes a)) is e =
      let whole : x turns ≡ ended_by (x turns) (Some (Completes a)) = ap (ended_by (x turns)) is in
      subst (HasResult pays first_memory charged x) (from_some e) (turns, (x turns).depth, whole)
  at_its_end first_memory charged turns x r (Some (Traps text)) is e = subst (HasResult pays first_memory charged x) (from_some e) (turns, refl, is)

  at_a_limit : {A : Type 0} (first_memory charged turns : ℕ) (x : Execution A) (r : Result A) (cause : Word) (shown : ℕ) (b : Bool)
      → is_limit cause ≡ b → cond b (Some (Exhausted (take shown (x turns).prints) cause)) None ≡ Some r → pays (exhaustion first_memory charged cause (x turns))
      → HasResult pays first_memory charged x r
  at_a_limit first_memory charged turns x r cause shown false is e paid = absurd (cc)
  at_a_limit first_memory charged turns x r cause shown true is e paid =
      subst (HasResult pays first_memory charged x) (from_some e) (turns, is, (drop shown (x turns).prints, sym (take-append-drop shown (x turns).prints)), paid)

  shows : {A : Type 0} (extent : Extent) (first_memory charged : ℕ) (x : Execution A) (r : Result A)
      → result_within extent x ≡ Some r → AllByRecursion pays (exhaustions_within extent first_memory charged x) → HasResult pays first_memory charged x r
  shows (ToItsEnd turns) first_memory charged x r e paid = at_its_end first_memory charged turns x r (x turns).completion refl e
  shows (ToALimit turns cause shown) first_memory charged x r e paid = at_a_limit first_memory charged turns x r cause shown (is_limit cause) refl e paid.0

  -- And the other way round.

  extent_of : {A : Type 0} (first_memory charged : ℕ) (x : Execution A) (r : Result A) → HasResult pays first_memory charged x r
      → (extent : Extent) × (result_within extent x ≡ Some r) × AllByRecursion pays (exhaustions_within extent first_memory charged x)
  extent_of first_memory charged x (Completed prints weight a) h = (ToItsEnd h.0, ap (λ p. result_by p p.completion) h.2, tt)
  extent_of first_memory charged x (Trapped prints text) h =
      (ToItsEnd h.0, ap (λ end. result_by (x h.0) end) h.2 ∙ ap (λ ps. Some (Trapped ps text)) h.1, tt)
  extent_of first_memory charged x (Exhausted prints cause) h =
      let shown : take (length prints) (x h.0).prints ≡ prints = ap (λ ps. take (length prints) ps) h.2.1 ∙ take_front prints h.2.0 in (
        ToALimit h.0 cause (length prints),
        ap (λ b. cond b (Some (Exhausted (take (length prints) (x h.0).prints) cause)) None) h.1 ∙ ap (λ ps. Some (Exhausted ps cause)) shown,
        (h.3, tt),
      )

  -- Courses.

  comes : {S : Type 0} (c : Course S) (extents : List Extent) (f : Followed S) → followed c extents ≡ Some f → AllByRecursion pays f.exhaustions → ComesTo pays c f.reached
  comes (Over o) extents f e paid = sym (ap (λ f. f.reached) (from_some e))
  comes (Runs A first_memory charged x behind) [] f e paid = absurd (cc)
  comes {S = S} (Runs A first_memory charged x behind) (extent ∷ extents) f e paid = by (result_within extent x) refl e (λ r g. comes (behind r) extents g)
    where
      ran : (r : Result A) → result_within extent x ≡ Some r → (g : Option (Followed S)) → followed (behind r) extents ≡ g → behind_exhaustions (exhaustions_within extent first_memory charged x) g ≡ Some f
          → ((g : Followed S) → followed (behind r) extents ≡ Some g → AllByRecursion pays g.exhaustions → ComesTo pays (behind r) g.reached)
          → (r : Result A) × HasResult pays first_memory charged x r × ComesTo pays (behind r) f.reached
      ran r is None found e next = absurd (cc)
      ran r is (Some g) found e next =
          let same : followed_to g.reached (exhaustions_within extent first_memory charged x ++ g.exhaustions) g.extents ≡ f = from_some e in
          let all : AllByRecursion pays (exhaustions_within extent first_memory charged x ++ g.exhaustions) = subst (λ f. AllByRecursion pays f.exhaustions) (sym same) paid in (
            r,
            shows extent first_memory charged x r is (all_front pays (exhaustions_within extent first_memory charged x) g.exhaustions all),
            subst (λ f. ComesTo pays (behind r) f.reached) same (next g found (all_back pays (exhaustions_within extent first_memory charged x) g.exhaustions all)),
          )

      by : (found : Option (Result A)) → result_within extent x ≡ found
          → behind_result (exhaustions_within extent first_memory charged x) (λ r. followed (behind r) extents) found ≡ Some f
          → ((r : Result A) (g : Followed S) → followed (behind r) extents ≡ Some g → AllByRecursion pays g.exhaustions → ComesTo pays (behind r) g.reached)
          → (r : Result A) × HasResult pays first_memory charged x r × ComesTo pays (behind r) f.reached
      by None is e next = absurd (cc)
      by (Some r) is e next = ran r is (followed (behind r) extents) refl e (next r)
  comes NoCourse extents f e paid = absurd (cc)

  followed_so : {S : Type 0} (c : Course S) (reached : Outcome S) → ComesTo pays c reached → (later : List Extent)
      → (extents : List Extent) × (f : Followed S) × (followed c extents ≡ Some f) × (f.reached ≡ reached) × (f.extents ≡ later) × AllByRecursion pays f.exhaustions
  followed_so (Over o) reached h later = (later, followed_to o [] later, refl, sym h, refl, tt)
  followed_so (Runs A first_memory charged x behind) reached h later =
      let w = extent_of first_memory charged x h.0 h.1 in
      let i = followed_so (behind h.0) reached h.2 later in (
        w.0 ∷ i.0,
        followed_to (i.1).reached (exhaustions_within w.0 first_memory charged x ++ (i.1).exhaustions) (i.1).extents,
        ap (λ found. behind_result (exhaustions_within w.0 first_memory charged x) (λ r. followed (behind r) i.0) found) w.1
            ∙ ap (λ g. behind_exhaustions (exhaustions_within w.0 first_memory charged x) g) i.2,
        i.3,
        i.4,
        all_append pays (exhaustions_within w.0 first_memory charged x) (i.1).exhaustions w.2 i.5,
      )
  followed_so NoCourse reached h later = absurd h

  -- Runs.

  module _ {L : Language} (programs : List (Program L)) (own : List ℕ) where
    runs_so : (events : List Event) (state : ActorState L) (extents : List Extent) (t : Transcript)
        → transcript_from programs own events state extents ≡ Some t → AllByRecursion pays t.exhaustions → RunsFrom pays programs own state events t.items
    runs_so [] state extents t e paid = sym (ap (λ t. t.items) (from_some e))
    runs_so (event ∷ events) state extents t e paid =
        by (followed (event_course programs own event state) extents) refl e (runs_so events)
      where
        ran : (f : Followed (ActorState L)) → followed (event_course programs own event state) extents ≡ Some f
            → (u : Option Transcript) → transcript_from programs own events f.reached.next f.extents ≡ u → behind_items f.reached.items f.exhaustions u ≡ Some t
            → ((state : ActorState L) (extents : List Extent) (t : Transcript) → transcript_from programs own events state extents ≡ Some t → AllByRecursion pays t.exhaustions
            → RunsFrom pays programs own state events t.items)
            → RunsFrom pays programs own state (event ∷ events) t.items
        ran f is None found e next = absurd (cc)
        ran f is (Some u) found e next =
            let same : transcript (f.reached.items ++ u.items) (f.exhaustions ++ u.exhaustions) ≡ t = from_some e in
            let all : AllByRecursion pays (f.exhaustions ++ u.exhaustions) = subst (λ t. AllByRecursion pays t.exhaustions) (sym same) paid in (
              f.reached,
              comes (event_course programs own event state) extents f is (all_front pays f.exhaustions u.exhaustions all),
              u.items,
              sym (ap (λ t. t.items) same),
              next f.reached.next f.extents u found (all_back pays f.exhaustions u.exhaustions all),
            )

        by : (found : Option (Followed (ActorState L))) → followed (event_course programs own event state) extents ≡ found
            → behind_event (transcript_from programs own events) found ≡ Some t
            → ((state : ActorState L) (extents : List Extent) (t : Transcript) → transcript_from programs own events state extents ≡ Some t → AllByRecursion pays t.exhaustions
            → RunsFrom pays programs own state events t.items)
            → RunsFrom pays programs own state (event ∷ events) t.items
        by None is e next = absurd (cc)
        by (Some f) is e next = ran f is (transcript_from programs own events f.reached.next f.extents) refl e next

    computed_so : (events : List Event) (state : ActorState L) (items : List Item) → RunsFrom pays programs own state events items
        → (extents : List Extent) × (t : Transcript) × (transcript_from programs own events state extents ≡ Some t) × AllByRecursion pays t.exhaustions × (t.items ≡ items)
    computed_so [] state items h = ([], transcript [] [], refl, tt, sym h)
    computed_so (event ∷ events) state items h =
        let j = computed_so events (h.0).next h.2 h.4 in
        let i = followed_so (event_course programs own event state) h.0 h.1 j.0 in
        let next : transcript_from programs own events (i.1).reached.next (i.1).extents ≡ Some j.1 =
        ap₂ (λ state extents. transcript_from programs own events state extents) (ap (λ o. o.next) i.3) i.4 ∙ j.2 in (
          i.0,
          transcript ((i.1).reached.items ++ (j.1).items) ((i.1).exhaustions ++ (j.1).exhaustions),
          ap (λ found. behind_event (transcript_from programs own events) found) i.2 ∙ ap (λ u. behind_items (i.1).reached.items (i.1).exhaustions u) next,
          all_append pays (i.1).exhaustions (j.1).exhaustions i.5 j.3,
          ap₂ (λ o others. o.items ++ others) i.3 j.4 ∙ sym h.3,
        )

pub transcripts_are_runs : (L : Language) (pays : Measure) → TranscriptsAreRuns L pays
transcripts_are_runs L pays extents programs own events t e paid = runs_so pays programs own events (NoActor 0 []) extents t e paid

pub runs_are_transcripts : (L : Language) (pays : Measure) → RunsAreTranscripts L pays
runs_are_transcripts L pays programs own events items h = computed_so pays programs own events (NoActor 0 []) items h
