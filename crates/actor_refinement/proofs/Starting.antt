-- Installation and upgrade: what the host makes of them, where a module refines its program.
use Rattle.std.proofs.Common.{◌≡◌, ℕ, suc, zero, List, [], ◌∷◌, ◌++◌, map, Option, Some, None, Bool, true, false, refl, sym, ap, ap₂, ◌∙◌, cond, if◌then◌else◌, subst, append_assoc, append-nil, codes, slice_get, nat_eq, eqb-true, arith}
use Rattle.std.specs.Bool.{⊤}
use Rattle.mo_num.specs.PrincipalText.{IsPrincipal}
use Rattle.mo_types.specs.Calls.{Call, is_open_state, open_count, count_open, next_number}
use Rattle.play_script.specs.declared.event.Event.{Event}
use Rattle.play_script.specs.declared.event.Event.TheVariants as event
use Rattle.play_script.specs.declared.item.Item.{Item}
use Rattle.play_script.specs.declared.item.Item.TheVariants as item
use Rattle.play_script.specs.declared.item.Word.TheVariants as word
use Rattle.wasm_tree.specs.declared.module_parts.Module.{Module}
use Rattle.wasm_tree.specs.Exec.{ExecutionLimits, Store}
use Rattle.wasm_tree.specs.Load.{Load, Loaded, AboveLimit, OutOfBounds, load}
use Rattle.ic0_world.specs.declared.kind.ExecutionKind.{ExecutionKind}
use Rattle.ic0_world.specs.declared.kind.ExecutionKind.TheVariants as kind
use Rattle.ic0_world.specs.declared.world.World.{World}
use Rattle.canister_host.specs.State.{Canister, HostState}
use Rattle.canister_host.specs.declared.calls.IncomingCall.{IncomingCall}
use Rattle.canister_host.specs.declared.calls.OpenCall.{OpenCall}
use Rattle.canister_host.specs.Execution.{End, Finishes, Breaks, left_by}
use Rattle.canister_host.specs.HostRun.{begin, upgrade, install, with_canister}
use Rattle.canister_host.specs.HostRun.{Outcome as HostOutcome, outcome as host_outcome, printed as host_printed}
use Rattle.mo_actor.specs.Languages.{Language}
use Rattle.mo_actor.specs.Executions.{Execution, trapping}
use Rattle.mo_actor.specs.Programs.{Program}
use Rattle.mo_actor.specs.Measures.{Measure}
use Rattle.mo_actor.specs.Results.{Result, Completed, Trapped, Exhausted, HasResult}
use Rattle.mo_actor.specs.States.{Activation, Actor, ActorState, NoActor, Running}
use Rattle.mo_actor.specs.Outcomes.{Outcome, outcome, print_items, trap_items}
use Rattle.mo_actor.specs.Courses.{ComesTo}
use Rattle.mo_actor.specs.Upgrades.{started, installed, install_course, saving, upgraded, saved, upgrade_course}
use Rattle.mo_actor.proofs.Trapping.{never_completes}
use Rattle.actor_refinement.specs.Limits.{IsWithin}
use Rattle.actor_refinement.specs.Ends.{EndsAlike, start_end, install_end, upgrade_end, save_end}
use Rattle.actor_refinement.specs.Agreement.{owner_of, open_owners, SameIncoming}
use Rattle.actor_refinement.specs.Refines.{Follows, Refines, AllRefine}
use Rattle.actor_refinement.proofs.Fewer.{one_event_less}

-- What the host makes of the end of a start.
abbrev after_start : Module → Item → List Item → HostState → End → HostOutcome
after_start m last before s (Finishes store) = host_outcome (before ++ host_printed store.world.prints ++ last ∷ []) (with_canister s (left_by m store))
after_start m last before s (Breaks cause prints) = host_outcome (before ++ host_printed prints ++ item.Trapped cause ∷ []) s

begins_by : (limits : ExecutionLimits) (own : List ℕ) (m : Module) (k : ExecutionKind) (name : List ℕ) (last : Item) (stable : List ℕ) (before : List Item) (s : HostState) (l : Load)
    → load limits m ≡ l → begin limits own m k name last stable before s ≡ after_start m last before s (start_end limits own m k name stable)
begins_by limits own m k name last stable before s AboveLimit e = rw (e, append-nil) refl
begins_by limits own m k name last stable before s OutOfBounds e = rw (e, append-nil) refl
begins_by limits own m k name last stable before s (Loaded i) e = rw e refl

begins : (limits : ExecutionLimits) (own : List ℕ) (m : Module) (k : ExecutionKind) (name : List ℕ) (last : Item) (stable : List ℕ) (before : List Item) (s : HostState)
    → begin limits own m k name last stable before s ≡ after_start m last before s (start_end limits own m k name stable)
begins limits own m k name last stable before s = begins_by limits own m k name last stable before s (load limits m) refl

-- And of that of a preparation for an upgrade.
abbrev after_save : ExecutionLimits → List ℕ → Module → HostState → End → HostOutcome
after_save limits own m s (Finishes store) =
    begin limits own m kind.PostUpgrade (codes "canister_post_upgrade") item.Upgraded store.world.stable.bytes (host_printed store.world.prints) s
after_save limits own m s (Breaks cause prints) = host_outcome (host_printed prints ++ item.Trapped cause ∷ []) s

saves_by : (limits : ExecutionLimits) (own : List ℕ) (m : Module) (c : Canister) (s : HostState) (e : End)
    → save_end limits own c ≡ e → upgrade limits own (Some m) (Some c) s ≡ after_save limits own m s e
saves_by limits own m c s (Finishes store) e = rw e refl
saves_by limits own m c s (Breaks cause prints) e = rw e refl

saves : (limits : ExecutionLimits) (own : List ℕ) (m : Module) (c : Canister) (s : HostState) → upgrade limits own (Some m) (Some c) s ≡ after_save limits own m s (save_end limits own c)
saves limits own m c s = saves_by limits own m c s (save_end limits own c) refl

-- No open call in the table, none that waits at the host.
no_open : {T V : Type 0} → (number : ℕ) (calls : List (Call T V)) → count_open calls ≡ 0 → open_owners number calls ≡ []
no_open number [] e = refl
no_open number (c ∷ calls) e = by (is_open_state c.state) (no_open (suc number) calls) e
  where
    by : (b : Bool) → (count_open calls ≡ 0 → open_owners (suc number) calls ≡ []) → (if b then suc (count_open calls) else count_open calls) ≡ 0
        → cond b (record { number = number; owner = c.owner } ∷ open_owners (suc number) calls) (open_owners (suc number) calls) ≡ []
    by true next e = absurd (omega (arith, e))
    by false next e = next e

no_waiting : (waiting : List OpenCall) → map owner_of waiting ≡ [] → waiting ≡ []
no_waiting [] e = refl
no_waiting (c ∷ waiting) e = absurd (cc)

-- It saves only where its test for open calls lets it.
saved_test : {A : Type 0} (pays : Measure) (first charged : ℕ) (b : Bool) (x : Execution A) (text : List ℕ) (prints : List (List ℕ)) (weight : ℕ) (a : A)
    → HasResult pays first charged (cond b x (trapping text)) (Completed prints weight a) → b ≡ true
saved_test pays first charged true x text prints weight a h = refl
saved_test pays first charged false x text prints weight a h = absurd (never_completes text h.0 a (ap (λ r. r.completion) h.2))

module _ {L : Language} (Stable : L.kept → List ℕ → Type 0) (Given : Event → Type 0) (pays : ExecutionLimits → Measure) (limits : ExecutionLimits) (within : IsWithin limits) (own : List ℕ) (self : IsPrincipal own) where
  -- The program has its module in the same place.
  abbrev pub Both : Option (Program L) → Option Module → Type 0
  Both None None = ⊤
  Both (Some p) (Some m) = Refines Stable Given pays p m
  Both _ _ = ⊥

  pub both_at : (programs : List (Program L)) (modules : List Module) → AllRefine Stable Given pays programs modules → (i : ℕ) → Both (slice_get programs i) (slice_get modules i)
  both_at [] [] r i = tt
  both_at [] (m ∷ modules) r i = absurd r
  both_at (p ∷ programs) [] r i = absurd r
  both_at (p ∷ programs) (m ∷ modules) r zero = r.0
  both_at (p ∷ programs) (m ∷ modules) r (suc i) = both_at programs modules r.1 i

  -- Where there is no actor, there is no canister.
  abbrev pub Tied : ℕ → ActorState L → HostState → Type 0
  Tied n (NoActor made activations) s = (s.canister ≡ None) × SameIncoming activations s.incoming × (made ≡ s.made) × (s.waiting ≡ [])
  Tied n (Running p a) s = Follows Stable Given (pays limits) limits own p n a s

  abbrev Begun : Program L → Module → ℕ → L.store → Store World → Type 0
  Begun p m weight store left = (n made : ℕ) (activations : List (Activation L)) (incoming : List IncomingCall) → SameIncoming activations incoming
      → Follows Stable Given (pays limits) limits own p n (started made activations store weight) (record { canister = Some (left_by m left); incoming = incoming; made = made; waiting = [] })

  began : (p : Program L) (m : Module) (n made weight : ℕ) (activations : List (Activation L)) (s : HostState) (store : L.store) (left : Store World)
      → Begun p m weight store left → SameIncoming activations s.incoming → made ≡ s.made → s.waiting ≡ []
      → Follows Stable Given (pays limits) limits own p n (started made activations store weight) (with_canister s (left_by m left))
  began p m n made weight activations s store left h same number none =
      subst (λ k. Follows Stable Given (pays limits) limits own p n (started k activations store weight) (with_canister s (left_by m left))) (sym number)
      (subst (λ w. Follows Stable Given (pays limits) limits own p n (started s.made activations store weight) (record { canister = Some (left_by m left); incoming = s.incoming; made = s.made; waiting = w })) (sym none)
      (h n s.made activations s.incoming same))

  installed_as : (p : Program L) (m : Module) (n made : ℕ) (activations : List (Activation L)) (s : HostState) (r : Result L.store) (e : End)
      → EndsAlike (Begun p m) r e → Tied n (NoActor made activations) s
      → ((installed p made activations r).items ≡ (after_start m item.Installed [] s e).items) × Tied n (installed p made activations r).next (after_start m item.Installed [] s e).next
  installed_as p m n made activations s (Completed prints weight store) (Finishes left) c t =
      (ap (λ ps. print_items ps ++ item.Installed ∷ []) c.0, began p m n made weight activations s store left c.1 t.1 t.2 t.3)
  installed_as p m n made activations s (Completed prints weight store) (Breaks cause shown) c t = absurd c
  installed_as p m n made activations s (Trapped prints text) (Finishes left) c t = absurd c
  installed_as p m n made activations s (Trapped prints text) (Breaks cause shown) c t = (ap₂ trap_items c.0 c.1, t)
  installed_as p m n made activations s (Exhausted prints w) (Finishes left) c t = absurd c
  installed_as p m n made activations s (Exhausted prints w) (Breaks cause shown) c t = (ap₂ trap_items c.0 c.1, t)

  pub install_step : (n made : ℕ) (activations : List (Activation L)) (s : HostState) (p : Option (Program L)) (m : Option Module) → Both p m → Tied n (NoActor made activations) s
      → (o : Outcome (ActorState L)) × ComesTo (pays limits) (install_course own made activations p) o × (o.items ≡ (install limits own m s).items) × Tied n o.next (install limits own m s).next
  install_step n made activations s None None b t = (outcome (item.Ignored ∷ []) (NoActor made activations), refl, refl, t)
  install_step n made activations s None (Some m) b t = absurd b
  install_step n made activations s (Some p) None b t = absurd b
  install_step n made activations s (Some p) (Some m) b t =
      let x = b.installs limits within own self in
      let e : End = install_end limits own m in
      let h = installed_as p m n made activations s x.0 e x.2 t in
      let same : begin limits own m kind.Init (codes "canister_init") item.Installed [] [] s ≡ after_start m item.Installed [] s e = begins limits own m kind.Init (codes "canister_init") item.Installed [] [] s in
      (installed p made activations x.0, (x.0, x.1, refl), h.0 ∙ sym (ap (λ o. o.items) same), subst (λ o. Tied n (installed p made activations x.0).next o.next) (sym same) h.1)

  upgraded_as : (old : Program L) (a : Actor L) (p : Program L) (m : Module) (n : ℕ) (s : HostState) (before : List (List ℕ)) (r : Result L.store) (e : End)
      → EndsAlike (Begun p m) r e → Follows Stable Given (pays limits) limits own old n a s → SameIncoming a.activations s.incoming → next_number a.table ≡ s.made → s.waiting ≡ []
      → ((upgraded old a p before r).items ≡ (after_start m item.Upgraded (host_printed before) s e).items)
      × Tied n (upgraded old a p before r).next (after_start m item.Upgraded (host_printed before) s e).next
  upgraded_as old a p m n s before (Completed prints weight store) (Finishes left) c f same number none =
      (ap (λ ps. print_items before ++ (print_items ps ++ item.Upgraded ∷ [])) c.0 ∙ sym (append_assoc (print_items before) (print_items left.world.prints) (item.Upgraded ∷ [])), began p m n (next_number a.table) weight a.activations s store left c.1 same number none)
  upgraded_as old a p m n s before (Completed prints weight store) (Breaks cause shown) c f same number none = absurd c
  upgraded_as old a p m n s before (Trapped prints text) (Finishes left) c f same number none = absurd c
  upgraded_as old a p m n s before (Trapped prints text) (Breaks cause shown) c f same number none =
      (ap₂ (λ ps w. print_items before ++ trap_items ps w) c.0 c.1 ∙ sym (append_assoc (print_items before) (print_items shown) (item.Trapped cause ∷ [])), f)
  upgraded_as old a p m n s before (Exhausted prints w) (Finishes left) c f same number none = absurd c
  upgraded_as old a p m n s before (Exhausted prints w) (Breaks cause shown) c f same number none =
      (ap₂ (λ ps w. print_items before ++ trap_items ps w) c.0 c.1 ∙ sym (append_assoc (print_items before) (print_items shown) (item.Trapped cause ∷ [])), f)

  -- The old actor saves, and the new one starts on what it kept.
  upgraded_by : (number : ℕ) → Given (event.Upgrade number) → (n : ℕ) (old : Program L) (a : Actor L) (s : HostState) (p : Program L) (m : Module) → Refines Stable Given pays p m → (f : Follows Stable Given (pays limits) limits own old (suc n) a s) → (r : Result L.kept) (e : End)
      → HasResult (pays limits) old.first_memory a.charged (saving old own a) r → EndsAlike (λ weight kept left. Stable kept left.world.stable.bytes) r e
      → (o : Outcome (ActorState L)) × ComesTo (pays limits) (saved own old a p r) o × (o.items ≡ (after_save limits own m s e).items) × Tied n o.next (after_save limits own m s e).next
  upgraded_by number given n old a s p m refines f (Completed prints weight kept) (Finishes store) has c =
      let x = refines.upgrades number given limits within own self (Some kept) store.world.stable.bytes c.1 in
      let e : End = upgrade_end limits own m store.world.stable.bytes in
      let tested : nat_eq (open_count a.table) 0 ≡ true = saved_test (pays limits) old.first_memory a.charged (nat_eq (open_count a.table) 0) (old.save own a.store) (codes "outstanding calls") prints weight kept has in
      let closed : open_count a.table ≡ 0 = eqb-true (open_count a.table) 0 tested in
      let none : s.waiting ≡ [] = no_waiting s.waiting (f.agrees.calls ∙ no_open a.table.first a.table.calls closed) in
      let h = upgraded_as old a p m n s prints x.0 e x.2 (one_event_less Stable Given (pays limits) limits own old n a s f) f.agrees.incoming f.agrees.made none in
      let o : Outcome (ActorState L) = upgraded old a p prints x.0 in
      let same : begin limits own m kind.PostUpgrade (codes "canister_post_upgrade") item.Upgraded store.world.stable.bytes (host_printed prints) s ≡ after_start m item.Upgraded (host_printed prints) s e =
      begins limits own m kind.PostUpgrade (codes "canister_post_upgrade") item.Upgraded store.world.stable.bytes (host_printed prints) s in
      let now : (o.items ≡ (begin limits own m kind.PostUpgrade (codes "canister_post_upgrade") item.Upgraded store.world.stable.bytes (host_printed prints) s).items)
      × Tied n o.next (begin limits own m kind.PostUpgrade (codes "canister_post_upgrade") item.Upgraded store.world.stable.bytes (host_printed prints) s).next =
      subst (λ q. (o.items ≡ q.items) × Tied n o.next q.next) (sym same) h in
      let shown : (o.items ≡ (after_save limits own m s (Finishes store)).items) × Tied n o.next (after_save limits own m s (Finishes store)).next =
      subst (λ ps. (o.items ≡ (begin limits own m kind.PostUpgrade (codes "canister_post_upgrade") item.Upgraded store.world.stable.bytes (host_printed ps) s).items)
      × Tied n o.next (begin limits own m kind.PostUpgrade (codes "canister_post_upgrade") item.Upgraded store.world.stable.bytes (host_printed ps) s).next) c.0 now in
      (o, (x.0, x.1, refl), shown.0, shown.1)
  upgraded_by number given n old a s p m refines f (Completed prints weight kept) (Breaks cause shown) has c = absurd c
  upgraded_by number given n old a s p m refines f (Trapped prints text) (Finishes store) has c = absurd c
  upgraded_by number given n old a s p m refines f (Trapped prints text) (Breaks cause shown) has c =
      (outcome (trap_items prints (word.Text text)) (Running old a), refl, ap₂ trap_items c.0 c.1, one_event_less Stable Given (pays limits) limits own old n a s f)
  upgraded_by number given n old a s p m refines f (Exhausted prints w) (Finishes store) has c = absurd c
  upgraded_by number given n old a s p m refines f (Exhausted prints w) (Breaks cause shown) has c =
      (outcome (trap_items prints w) (Running old a), refl, ap₂ trap_items c.0 c.1, one_event_less Stable Given (pays limits) limits own old n a s f)

  upgrade_found : (number : ℕ) → Given (event.Upgrade number) → (n : ℕ) (old : Program L) (a : Actor L) (s : HostState) (p : Option (Program L)) (m : Option Module) → Both p m → (f : Follows Stable Given (pays limits) limits own old (suc n) a s)
      → (o : Outcome (ActorState L)) × ComesTo (pays limits) (upgrade_course own old a p) o × (o.items ≡ (upgrade limits own m (Some f.agrees.canister) s).items) × Tied n o.next (upgrade limits own m (Some f.agrees.canister) s).next
  upgrade_found number given n old a s None None b f = (outcome (item.Ignored ∷ []) (Running old a), refl, refl, one_event_less Stable Given (pays limits) limits own old n a s f)
  upgrade_found number given n old a s None (Some m) b f = absurd b
  upgrade_found number given n old a s (Some p) None b f = absurd b
  upgrade_found number given n old a s (Some p) (Some m) b f =
      let e : End = save_end limits own f.agrees.canister in
      let saved = f.saves number given in
      let h = upgraded_by number given n old a s p m b f saved.0 e saved.1 saved.2 in
      let same : upgrade limits own (Some m) (Some f.agrees.canister) s ≡ after_save limits own m s e = saves limits own m f.agrees.canister s in
      let now : (h.0.items ≡ (upgrade limits own (Some m) (Some f.agrees.canister) s).items) × Tied n h.0.next (upgrade limits own (Some m) (Some f.agrees.canister) s).next =
      subst (λ q. (h.0.items ≡ q.items) × Tied n h.0.next q.next) (sym same) (h.2, h.3) in
      (h.0, (saved.0, saved.1, h.1), now.0, now.1)

  pub upgrade_step : (number : ℕ) → Given (event.Upgrade number) → (n : ℕ) (old : Program L) (a : Actor L) (s : HostState) (p : Option (Program L)) (m : Option Module) → Both p m → (f : Follows Stable Given (pays limits) limits own old (suc n) a s)
      → (o : Outcome (ActorState L)) × ComesTo (pays limits) (upgrade_course own old a p) o × (o.items ≡ (upgrade limits own m s.canister s).items) × Tied n o.next (upgrade limits own m s.canister s).next
  upgrade_step number given n old a s p m b f =
      subst (λ c. (o : Outcome (ActorState L)) × ComesTo (pays limits) (upgrade_course own old a p) o × (o.items ≡ (upgrade limits own m c s).items) × Tied n o.next (upgrade limits own m c s).next) (sym f.agrees.there)
      (upgrade_found number given n old a s p m b f)
