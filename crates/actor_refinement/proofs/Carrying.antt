-- A pass carries refinement: what refines the new program refines the old one.
use Rattle.std.proofs.Common.{◌≡◌, ℕ, suc, zero, ◌+◌, List, [], ◌∷◌, length, Option, Some, None, refl, sym, ap, ap₂, ◌∙◌, cond, map}
use Rattle.mo_num.specs.PrincipalText.{IsPrincipal}
use Rattle.mo_types.specs.Calls.{Call, is_open_state}
use Rattle.play_script.specs.declared.event.Event.{Event}
use Rattle.play_script.specs.declared.event.Event.TheVariants as event
use Rattle.play_script.specs.declared.item.Word.TheVariants as word
use Rattle.wasm_tree.specs.declared.module_parts.Module.{Module}
use Rattle.wasm_tree.specs.Exec.{ExecutionLimits, Store}
use Rattle.ic0_world.specs.declared.world.World.{World}
use Rattle.canister_host.specs.State.{HostState}
use Rattle.canister_host.specs.declared.calls.IncomingCall.{IncomingCall}
use Rattle.canister_host.specs.Execution.{End, Finishes, Breaks}
use Rattle.canister_host.specs.HostRun.{step}
use Rattle.mo_actor.specs.Languages.{Language}
use Rattle.mo_actor.specs.Programs.{Program}
use Rattle.mo_actor.specs.Measures.{Measure}
use Rattle.mo_actor.specs.Results.{Result, Completed, Trapped, Exhausted, HasResult}
use Rattle.mo_actor.specs.States.{Activation, IsAnswered, IsDead, WaitsFor, WaitsForNothing, Actor}
use Rattle.mo_actor.specs.Upgrades.{started}
use Rattle.mo_actor.specs.Passes.{CommittedState, fresh_state, CallShape, call_shapes, AlikeResults, AlikeActivations, AlikeActors, Keeps}
use Rattle.mo_actor.proofs.Books.{length_by}
use Rattle.mo_actor.proofs.CarriedLife.{life_carries}
use Rattle.actor_refinement.specs.Limits.{IsWithin}
use Rattle.actor_refinement.specs.Ends.{EndsAlike, install_end, upgrade_end}
use Rattle.actor_refinement.specs.Agreement.{CallOwner, open_owners, SameIncoming, Agrees}
use Rattle.actor_refinement.specs.Refines.{Follows, Starts, Refines}
use Rattle.actor_refinement.specs.Refines.{Keeps as KeepsIn}

-- ---- calls, by their shapes

abbrev owners_by : ℕ → List CallShape → List CallOwner
owners_by number [] = []
owners_by number (h ∷ shapes) = cond h.is_open (record { number = number; owner = h.owner } ∷ owners_by (suc number) shapes) (owners_by (suc number) shapes)

open_by : {T V : Type 0} (number : ℕ) (calls : List (Call T V)) → open_owners number calls ≡ owners_by number (call_shapes calls)
open_by number [] = refl
open_by number (c ∷ calls) = ap (λ rest. cond (is_open_state c.state) (record { number = number; owner = c.owner } ∷ rest) rest) (open_by (suc number) calls)

-- ---- activations

module _ {S T : Language} where
  incoming_by : (xs : List (Activation S)) (ys : List (Activation T)) (calls : List IncomingCall) → AlikeActivations xs ys → SameIncoming ys calls → SameIncoming xs calls
  incoming_by [] [] [] alike same = tt
  incoming_by (x ∷ xs) (y ∷ ys) (c ∷ calls) alike same = (alike.0 ∙ same.0, incoming_by xs ys calls alike.1 same.1)
  incoming_by [] (y ∷ ys) calls alike same = absurd alike
  incoming_by (x ∷ xs) [] calls alike same = absurd alike
  incoming_by [] [] (c ∷ calls) alike same = absurd same
  incoming_by (x ∷ xs) (y ∷ ys) [] alike same = absurd same

-- one of the other language that is as answered
abbrev as_answered : {S : Language} (T : Language) → Activation S → Activation T
as_answered T IsAnswered = IsAnswered
as_answered T IsDead = IsDead
as_answered T (WaitsFor number waiting) = IsDead
as_answered T WaitsForNothing = IsDead

alike_answered : {S : Language} (T : Language) (xs : List (Activation S)) → AlikeActivations xs (map (as_answered T) xs)
alike_answered T [] = tt
alike_answered T (IsAnswered ∷ xs) = (refl, alike_answered T xs)
alike_answered T (IsDead ∷ xs) = (refl, alike_answered T xs)
alike_answered T (WaitsFor number waiting ∷ xs) = (refl, alike_answered T xs)
alike_answered T (WaitsForNothing ∷ xs) = (refl, alike_answered T xs)

same_answered : {S : Language} (T : Language) (xs : List (Activation S)) (calls : List IncomingCall) → SameIncoming xs calls → SameIncoming (map (as_answered T) xs) calls
same_answered T [] [] same = tt
same_answered T (IsAnswered ∷ xs) (c ∷ calls) same = (same.0, same_answered T xs calls same.1)
same_answered T (IsDead ∷ xs) (c ∷ calls) same = (same.0, same_answered T xs calls same.1)
same_answered T (WaitsFor number waiting ∷ xs) (c ∷ calls) same = (same.0, same_answered T xs calls same.1)
same_answered T (WaitsForNothing ∷ xs) (c ∷ calls) same = (same.0, same_answered T xs calls same.1)
same_answered T [] (c ∷ calls) same = absurd same
same_answered T (x ∷ xs) [] same = absurd same

-- ---- results beside an end

ends_by : {A B : Type 0} {Both : ℕ → ℕ → A → B → Type 0} {P : ℕ → B → Store World → Type 0} {Q : ℕ → A → Store World → Type 0}
    → ((weight other : ℕ) (a : A) (b : B) (store : Store World) → Both weight other a b → P other b store → Q weight a store)
    → (o : Result A) (r : Result B) (end : End) → AlikeResults Both o r → EndsAlike P r end → EndsAlike Q o end
ends_by f (Completed prints weight a) (Completed shown other b) (Finishes store) both alike = (both.0 ∙ alike.0, f weight other a b store both.1 alike.1)
ends_by f (Trapped prints text) (Trapped shown said) (Breaks cause seen) both alike = (both.0 ∙ alike.0, ap word.Text both.1 ∙ alike.1)
ends_by f (Exhausted prints cause) (Exhausted shown limit) (Breaks reached seen) both alike = (both.0 ∙ alike.0, both.1 ∙ alike.1)
ends_by f (Completed prints weight a) (Completed shown other b) (Breaks cause seen) both alike = absurd alike
ends_by f (Trapped prints text) (Trapped shown said) (Finishes store) both alike = absurd alike
ends_by f (Exhausted prints cause) (Exhausted shown limit) (Finishes store) both alike = absurd alike
ends_by f (Completed prints weight a) (Trapped shown said) end both alike = absurd both
ends_by f (Completed prints weight a) (Exhausted shown limit) end both alike = absurd both
ends_by f (Trapped prints text) (Completed shown other b) end both alike = absurd both
ends_by f (Trapped prints text) (Exhausted shown limit) end both alike = absurd both
ends_by f (Exhausted prints cause) (Completed shown other b) end both alike = absurd both
ends_by f (Exhausted prints cause) (Trapped shown said) end both alike = absurd both

module _ {S T : Language} (StableOld : S.kept → List ℕ → Type 0) (StableNew : T.kept → List ℕ → Type 0) (AlikeKept : S.kept → T.kept → Type 0) (Weighs : ℕ → ℕ → Type 0) (Given : Event → Type 0)
    (saved : (kept : S.kept) (there : T.kept) (memory : List ℕ) → AlikeKept kept there → StableNew there memory → StableOld kept memory) where
  module _ (Related : CommittedState S → CommittedState T → Type 0) (pays_old pays_new : Measure) (limits : ExecutionLimits) (own : List ℕ) (p : Program S) (q : Program T)
      (keeps : Keeps Related AlikeKept Weighs Given pays_old pays_new own p q) where
    abbrev agrees_by : (a : Actor S) (b : Actor T) (s : HostState) → AlikeActors Related Weighs a b → Agrees b s → Agrees a s
    agrees_by a b s t g = record {
      canister = g.canister;
      there = g.there;
      incoming = incoming_by a.activations b.activations s.incoming t.activations g.incoming;
      calls = g.calls ∙ open_by b.table.first b.table.calls ∙ sym (ap₂ owners_by t.first t.calls) ∙ sym (open_by a.table.first a.table.calls);
      made = ap₂ (λ n k. n + k) t.first (length_by a.table.calls ∙ ap length t.calls ∙ sym (length_by b.table.calls)) ∙ g.made;
    }

    follows_by : (count : ℕ) (a : Actor S) (b : Actor T) (s : HostState) → AlikeActors Related Weighs a b
        → Follows StableNew Given pays_new limits own q count b s → Follows StableOld Given pays_old limits own p count a s
    follows_by zero a b s t f = tt
    follows_by (suc count) a b s t f = record {
      agrees = agrees_by a b s t f.agrees;
      steps = λ e life given. let x = f.steps e life given in let y = life_carries (λ p q. Related) AlikeKept Weighs Given pays_old pays_new own p q keeps a b t e given x.0 x.1 in
          (y.0, y.1, (y.2).0 ∙ x.2, follows_by count y.0.next x.0.next (step [] limits own e s).next (y.2).1 x.3);
      saves = λ number given. let x = f.saves number given in let y = keeps.saves number given a b t x.0 x.1 in
          (y.0, y.1, ends_by (λ weight other kept there store alike holds. saved kept there store.world.stable.bytes alike holds) y.0 x.0 _ y.2 x.2);
    }

    started_by : (m : Module) (kept : Option S.kept) (there : Option T.kept) (end : End)
        → ((r : Result T.store) → HasResult pays_new q.first_memory 0 (q.start own there) r → (o : Result S.store) × HasResult pays_old p.first_memory 0 (p.start own kept) o
        × AlikeResults (λ x y s t. Weighs x y × ((made : ℕ) → Related (fresh_state s made) (fresh_state t made))) o r)
        → Starts StableNew Given pays_new limits own q m there end → Starts StableOld Given pays_old limits own p m kept end
    started_by m kept there end carries x =
        let y = carries x.0 x.1 in (
          y.0,
          y.1,
          ends_by (λ weight other store stored left both f count made activations incoming same. follows_by count (started made activations store weight) (started made (map (as_answered T) activations) stored other) _
              (record { first = refl; calls = refl; activations = alike_answered T activations; charged = both.0; related = both.1 made })
              (f count made (map (as_answered T) activations) incoming (same_answered T activations incoming same))) y.0 x.0 end y.2 x.2,
        )

  pub carry_refines : (Related : ExecutionLimits → List ℕ → CommittedState S → CommittedState T → Type 0) (pays_old pays_new : ExecutionLimits → Measure) (p : Program S) (q : Program T) (m : Module)
      → ((kept : S.kept) (memory : List ℕ) → StableOld kept memory → (there : T.kept) × AlikeKept kept there × StableNew there memory)
      → ((limits : ExecutionLimits) → IsWithin limits → (own : List ℕ) → IsPrincipal own → Keeps (Related limits own) AlikeKept Weighs Given (pays_old limits) (pays_new limits) own p q)
      → Refines StableNew Given pays_new q m → Refines StableOld Given pays_old p m
  carry_refines Related pays_old pays_new p q m found keeps r = record {
    installs = λ limits within own self. let k = keeps limits within own self in
        started_by (Related limits own) (pays_old limits) (pays_new limits) limits own p q k m None None (install_end limits own m) k.installs (r.installs limits within own self);
    upgrades = upgraded_by;
  }
    where
      upgraded_by : (number : ℕ) → Given (event.Upgrade number) → (limits : ExecutionLimits) → IsWithin limits → (own : List ℕ) → IsPrincipal own
          → (kept : Option S.kept) (stable : List ℕ) → KeepsIn StableOld kept stable → Starts StableOld Given (pays_old limits) limits own p m kept (upgrade_end limits own m stable)
      upgraded_by number given limits within own self None stable holds =
          let k = keeps limits within own self in
          started_by (Related limits own) (pays_old limits) (pays_new limits) limits own p q k m None None (upgrade_end limits own m stable) k.installs (r.upgrades number given limits within own self None stable holds)
      upgraded_by number given limits within own self (Some kept) stable holds =
          let k = keeps limits within own self in
          let x = found kept stable holds in
          started_by (Related limits own) (pays_old limits) (pays_new limits) limits own p q k m (Some kept) (Some x.0) (upgrade_end limits own m stable) (k.starts kept x.0 x.1) (r.upgrades number given limits within own self (Some x.0) stable x.2)
