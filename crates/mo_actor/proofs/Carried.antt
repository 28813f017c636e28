-- A pass carries runs: what the new programs do over a list of events, the old ones do.
use Rattle.std.proofs.Common.{◌≡◌, ℕ, suc, zero, ◌+◌, List, [], ◌∷◌, ◌++◌, length, Option, Some, None, refl, sym, ap, ap₂, ◌∙◌, subst, slice_get, codes}
use Rattle.std.specs.Prelude.{⊤}
use Rattle.std.specs.List.{AllByRecursion}
use Rattle.play_script.specs.declared.event.Event.{Event}
use Rattle.play_script.specs.declared.event.Event.TheVariants as event
use Rattle.play_script.specs.declared.item.Item.{Item}
use Rattle.play_script.specs.declared.item.Item.TheVariants as item
use Rattle.play_script.specs.declared.item.Word.TheVariants as word
use Rattle.mo_types.specs.Calls.{next_number}
use Rattle.mo_actor.specs.Languages.{Language}
use Rattle.mo_actor.specs.Programs.{Program}
use Rattle.mo_actor.specs.Measures.{Measure}
use Rattle.mo_actor.specs.Results.{Result, Completed, Trapped, Exhausted, HasResult}
use Rattle.mo_actor.specs.States.{Activation, IsAnswered, Actor, ActorState, NoActor, Running}
use Rattle.mo_actor.specs.Outcomes.{Outcome, outcome, print_items, trap_items}
use Rattle.mo_actor.specs.Courses.{Course, Over, over_states, ComesTo}
use Rattle.mo_actor.specs.Upgrades.{started, installed, install_course, saving, upgraded, saved, upgrade_course}
use Rattle.mo_actor.specs.Steps.{life_course, event_course, RunsFrom, ActorRun}
use Rattle.mo_actor.specs.Passes.{CommittedState, fresh_state, AlikeResults, AlikeActivations, AlikeActors, Keeps, AllKeep}
use Rattle.mo_actor.proofs.Books.{length_by, alike_length, alike_push}
use Rattle.mo_actor.proofs.CarriedLife.{from_states, to_states, life_carries}

module _ {S T : Language} (Related : Program S → Program T → CommittedState S → CommittedState T → Type 0) (AlikeKept : S.kept → T.kept → Type 0) (Weighs : ℕ → ℕ → Type 0) (Given : Event → Type 0)
    (pays_old pays_new : Measure) (own : List ℕ) where
  -- ---- states

  abbrev AlikeStates : ActorState S → ActorState T → Type 0
  AlikeStates (NoActor made activations) (NoActor number others) = (made ≡ number) × AlikeActivations activations others
  AlikeStates (Running p a) (Running q b) = Keeps (Related p q) AlikeKept Weighs Given pays_old pays_new own p q × AlikeActors (Related p q) Weighs a b
  AlikeStates _ _ = ⊥

  abbrev AlikeOutcomes : Outcome (ActorState S) → Outcome (ActorState T) → Type 0
  AlikeOutcomes first o = (first.items ≡ o.items) × AlikeStates first.next o.next

  abbrev CarriesState : Course (ActorState S) → Outcome (ActorState T) → Type 0
  CarriesState c o = (first : Outcome (ActorState S)) × ComesTo pays_old c first × AlikeOutcomes first o

  -- an event that does nothing
  same_outcome : (s : ActorState S) (t : ActorState T) (items : List Item) (o : Outcome (ActorState T)) → o ≡ outcome items t → AlikeStates s t → CarriesState (Over (outcome items s)) o
  same_outcome s t items o is alike = (outcome items s, refl, subst (AlikeOutcomes (outcome items s)) (sym is) (refl, alike))

  abbrev AlikePrograms : Option (Program S) → Option (Program T) → Type 0
  AlikePrograms None None = ⊤
  AlikePrograms (Some p) (Some q) = Keeps (Related p q) AlikeKept Weighs Given pays_old pays_new own p q
  AlikePrograms _ _ = ⊥

  programs_at : (ps : List (Program S)) (qs : List (Program T)) → AllKeep Related AlikeKept Weighs Given pays_old pays_new own ps qs → (number : ℕ) → AlikePrograms (slice_get ps number) (slice_get qs number)
  programs_at [] [] all number = tt
  programs_at (p ∷ ps) (q ∷ qs) all zero = all.0
  programs_at (p ∷ ps) (q ∷ qs) all (suc number) = programs_at ps qs all.1 number
  programs_at [] (q ∷ qs) all number = absurd all
  programs_at (p ∷ ps) [] all number = absurd all

  -- ---- installations

  started_both : (p : Program S) (q : Program T) (keeps : Keeps (Related p q) AlikeKept Weighs Given pays_old pays_new own p q) (made number : ℕ) (activations : List (Activation S)) (others : List (Activation T))
      → made ≡ number → AlikeActivations activations others → (prints shown : List (List ℕ)) (weight other : ℕ) (s : S.store) (t : T.store)
      → Weighs weight other × ((made : ℕ) → Related p q (fresh_state s made) (fresh_state t made))
      → AlikeStates (Running p (started made activations s weight)) (Running q (started number others t other))
  started_both p q keeps made number activations others same alike prints shown weight other s t x = (
    keeps,
    record {
      first = same;
      calls = refl;
      activations = alike;
      charged = x.0;
      related = subst (λ n. Related p q (fresh_state s made) (fresh_state t n)) same (x.1 made);
    },
  )

  installed_both : (p : Program S) (q : Program T) (keeps : Keeps (Related p q) AlikeKept Weighs Given pays_old pays_new own p q) (made number : ℕ) (activations : List (Activation S)) (others : List (Activation T))
      → made ≡ number → AlikeActivations activations others → (o : Result S.store) (r : Result T.store)
      → AlikeResults (λ x y s t. Weighs x y × ((made : ℕ) → Related p q (fresh_state s made) (fresh_state t made))) o r → AlikeOutcomes (installed p made activations o) (installed q number others r)
  installed_both p q keeps made number activations others same alike (Completed prints weight s) (Completed shown other t) x =
      (ap (λ ps. print_items ps ++ item.Installed ∷ []) x.0, started_both p q keeps made number activations others same alike prints shown weight other s t x.1)
  installed_both p q keeps made number activations others same alike (Trapped prints said) (Trapped shown text) x = (ap₂ (λ ps w. trap_items ps (word.Text w)) x.0 x.1, (same, alike))
  installed_both p q keeps made number activations others same alike (Exhausted prints w) (Exhausted shown cause) x = (ap₂ trap_items x.0 x.1, (same, alike))
  installed_both p q keeps made number activations others same alike _ _ x = absurd x

  install_carries : (p : Option (Program S)) (q : Option (Program T)) → AlikePrograms p q → (made number : ℕ) (activations : List (Activation S)) (others : List (Activation T)) → made ≡ number → AlikeActivations activations others
      → (o : Outcome (ActorState T)) → ComesTo pays_new (install_course own number others q) o → CarriesState (install_course own made activations p) o
  install_carries None None both made number activations others same alike o h = same_outcome (NoActor made activations) (NoActor number others) (item.Ignored ∷ []) o h (same, alike)
  install_carries (Some p) (Some q) keeps made number activations others same alike o h =
      let x = keeps.installs h.0 h.1 in (
        installed p made activations x.0,
        (x.0, x.1, refl),
        subst (AlikeOutcomes (installed p made activations x.0)) (sym h.2) (installed_both p q keeps made number activations others same alike x.0 h.0 x.2),
      )
  install_carries None (Some q) both made number activations others same alike o h = absurd both
  install_carries (Some p) None both made number activations others same alike o h = absurd both

  -- ---- upgrades

  module _ (p : Program S) (q : Program T) (keeps : Keeps (Related p q) AlikeKept Weighs Given pays_old pays_new own p q) (a : Actor S) (b : Actor T) (t : AlikeActors (Related p q) Weighs a b)
      (p' : Program S) (q' : Program T) (keeps' : Keeps (Related p' q') AlikeKept Weighs Given pays_old pays_new own p' q') where
    same_number : next_number a.table ≡ next_number b.table
    same_number = ap₂ (λ n k. n + k) t.first (length_by a.table.calls ∙ ap length t.calls ∙ sym (length_by b.table.calls))

    upgraded_both : (before also : List (List ℕ)) → before ≡ also → (o : Result S.store) (r : Result T.store)
        → AlikeResults (λ x y s t. Weighs x y × ((made : ℕ) → Related p' q' (fresh_state s made) (fresh_state t made))) o r → AlikeOutcomes (upgraded p a p' before o) (upgraded q b q' also r)
    upgraded_both before also e (Completed prints weight s) (Completed shown other u) x = (
      ap₂ (λ bs ps. print_items bs ++ (print_items ps ++ item.Upgraded ∷ [])) e x.0,
      started_both p' q' keeps' (next_number a.table) (next_number b.table) a.activations b.activations same_number t.activations prints shown weight other s u x.1,
    )
    upgraded_both before also e (Trapped prints said) (Trapped shown text) x =
        (ap₂ (λ bs is. print_items bs ++ is) e (ap₂ (λ ps w. trap_items ps (word.Text w)) x.0 x.1), (keeps, t))
    upgraded_both before also e (Exhausted prints w) (Exhausted shown cause) x = (ap₂ (λ bs is. print_items bs ++ is) e (ap₂ trap_items x.0 x.1), (keeps, t))
    upgraded_both before also e _ _ x = absurd x

    saved_carries : (k : Result S.kept) (l : Result T.kept) → HasResult pays_old p.first_memory a.charged (saving p own a) k → AlikeResults (λ x y s t. AlikeKept s t) k l
        → (o : Outcome (ActorState T)) → ComesTo pays_new (saved own q b q' l) o → CarriesState (upgrade_course own p a (Some p')) o
    saved_carries (Completed before weight kept) (Completed also other there) saves x o h =
        let y = keeps'.starts kept there x.1 h.0 h.1 in (
          upgraded p a p' before y.0,
          (Completed before weight kept, saves, (y.0, y.1, refl)),
          subst (AlikeOutcomes (upgraded p a p' before y.0)) (sym h.2) (upgraded_both before also x.0 y.0 h.0 y.2),
        )
    saved_carries (Trapped prints said) (Trapped shown text) saves x o h = (
      outcome (trap_items prints (word.Text said)) (Running p a),
      (Trapped prints said, saves, refl),
      subst (AlikeOutcomes (outcome (trap_items prints (word.Text said)) (Running p a))) (sym h) (ap₂ (λ ps w. trap_items ps (word.Text w)) x.0 x.1, (keeps, t)),
    )
    saved_carries (Exhausted prints w) (Exhausted shown cause) saves x o h = (
      outcome (trap_items prints w) (Running p a),
      (Exhausted prints w, saves, refl),
      subst (AlikeOutcomes (outcome (trap_items prints w) (Running p a))) (sym h) (ap₂ trap_items x.0 x.1, (keeps, t)),
    )
    saved_carries _ _ saves x o h = absurd x

  upgrade_carries : (number : ℕ) → Given (event.Upgrade number) → (p : Program S) (q : Program T) → Keeps (Related p q) AlikeKept Weighs Given pays_old pays_new own p q
      → (a : Actor S) (b : Actor T) → AlikeActors (Related p q) Weighs a b → (p' : Option (Program S)) (q' : Option (Program T)) → AlikePrograms p' q'
      → (o : Outcome (ActorState T)) → ComesTo pays_new (upgrade_course own q b q') o → CarriesState (upgrade_course own p a p') o
  upgrade_carries number given p q keeps a b t None None both o h = same_outcome (Running p a) (Running q b) (item.Ignored ∷ []) o h (keeps, t)
  upgrade_carries number given p q keeps a b t (Some p') (Some q') keeps' o h =
      let x = keeps.saves number given a b t h.0 h.1 in
      saved_carries p q keeps a b t p' q' keeps' x.0 h.0 x.1 x.2 o h.2
  upgrade_carries number given p q keeps a b t None (Some q') both o h = absurd both
  upgrade_carries number given p q keeps a b t (Some p') None both o h = absurd both

  -- ---- events and runs

  in_life : (p : Program S) (q : Program T) (keeps : Keeps (Related p q) AlikeKept Weighs Given pays_old pays_new own p q) (a : Actor S) (b : Actor T) → AlikeActors (Related p q) Weighs a b
      → (e : Event) → Given e → (o : Outcome (ActorState T)) → ComesTo pays_new (over_states (Running q) (life_course q own e b)) o → CarriesState (over_states (Running p) (life_course p own e a)) o
  in_life p q keeps a b t e given o h =
      let i = from_states pays_new (Running q) (life_course q own e b) o h in
      let x = life_carries Related AlikeKept Weighs Given pays_old pays_new own p q keeps a b t e given i.0 i.1 in (
        outcome (x.0).items (Running p (x.0).next),
        to_states pays_old (Running p) (life_course p own e a) x.0 x.1,
        subst (AlikeOutcomes (outcome (x.0).items (Running p (x.0).next))) (sym i.2) ((x.2).0, (keeps, (x.2).1)),
      )

  module _ (ps : List (Program S)) (qs : List (Program T)) (all : AllKeep Related AlikeKept Weighs Given pays_old pays_new own ps qs) where
    event_carries : (e : Event) → Given e → (s : ActorState S) (t : ActorState T) → AlikeStates s t → (o : Outcome (ActorState T)) → ComesTo pays_new (event_course qs own e t) o → CarriesState (event_course ps own e s) o
    event_carries (event.Install number) given (NoActor made activations) (NoActor n others) alike o h =
        install_carries (slice_get ps number) (slice_get qs number) (programs_at ps qs all number) made n activations others alike.0 alike.1 o h
    event_carries (event.Call query name caller bytes) given (NoActor made activations) (NoActor n others) alike o h =
        let place : length activations ≡ length others = alike_length activations others alike.1 in (
          outcome (item.Rejected (length activations) 3 (codes "no canister") ∷ []) (NoActor made (activations ++ IsAnswered ∷ [])),
          refl,
          subst (AlikeOutcomes (outcome (item.Rejected (length activations) 3 (codes "no canister") ∷ []) (NoActor made (activations ++ IsAnswered ∷ [])))) (sym h)
              (ap (λ k. item.Rejected k 3 (codes "no canister") ∷ []) place, (alike.0, alike_push activations others IsAnswered IsAnswered alike.1 refl)),
        )
    event_carries (event.Reply number bytes) given (NoActor made activations) (NoActor n others) alike o h = same_outcome (NoActor made activations) (NoActor n others) (item.Ignored ∷ []) o h alike
    event_carries (event.Reject number code text) given (NoActor made activations) (NoActor n others) alike o h = same_outcome (NoActor made activations) (NoActor n others) (item.Ignored ∷ []) o h alike
    event_carries (event.Upgrade number) given (NoActor made activations) (NoActor n others) alike o h = same_outcome (NoActor made activations) (NoActor n others) (item.Ignored ∷ []) o h alike
    event_carries (event.Install number) given (Running p a) (Running q b) alike o h = absurd h
    event_carries (event.Call query name caller bytes) given (Running p a) (Running q b) alike o h = in_life p q alike.0 a b alike.1 (event.Call query name caller bytes) given o h
    event_carries (event.Reply number bytes) given (Running p a) (Running q b) alike o h = in_life p q alike.0 a b alike.1 (event.Reply number bytes) given o h
    event_carries (event.Reject number code text) given (Running p a) (Running q b) alike o h = in_life p q alike.0 a b alike.1 (event.Reject number code text) given o h
    event_carries (event.Upgrade number) given (Running p a) (Running q b) alike o h =
        upgrade_carries number given p q alike.0 a b alike.1 (slice_get ps number) (slice_get qs number) (programs_at ps qs all number) o h
    event_carries e given (NoActor made activations) (Running q b) alike o h = absurd alike
    event_carries e given (Running p a) (NoActor n others) alike o h = absurd alike

    run_carries : (events : List Event) → AllByRecursion Given events → (s : ActorState S) (t : ActorState T) → AlikeStates s t → (items : List Item) → RunsFrom pays_new qs own t events items → RunsFrom pays_old ps own s events items
    run_carries [] given s t alike items h = h
    run_carries (e ∷ events) given s t alike items h =
        let x = event_carries e given.0 s t alike h.0 h.1 in
        (x.0, x.1, h.2, h.3 ∙ ap (λ is. is ++ h.2) (sym (x.2).0), run_carries events given.1 (x.0).next (h.0).next (x.2).1 h.2 h.4)

    pub carry : (events : List Event) → AllByRecursion Given events → (items : List Item) → ActorRun pays_new qs own events items → ActorRun pays_old ps own events items
    carry events given items h = run_carries events given (NoActor 0 []) (NoActor 0 []) (refl, tt) items h
