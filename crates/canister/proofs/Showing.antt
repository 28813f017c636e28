-- What a canister shows, by its module.
use Rattle.std.proofs.Common.{◌≡◌, ◌≤◌, ◌<◌, ◌*◌, ◌⊎◌, inl, inr, ℕ, Bool, true, false, cond, List, [], ◌∷◌, length, get_or, Option, Some, None, Result, Ok, Err, refl, sym, ap, subst, ◌∙◌, arith}
use Rattle.std.specs.Prelude.{IfOk, IfSome, OnOk, slice_get, option_map}
use Rattle.std.specs.List.{filter}
use Rattle.std.proofs.lemmas.Option.{slice_get_read}
use Rattle.wasm_tree.specs.declared.module_parts.Module.{Module}
use Rattle.wasm_instance.specs.Fits.{IsInstanceOf}
use Rattle.play_script.specs.declared.item.Item.{Item}
use Rattle.canister_host.specs.declared.calls.OpenCall.{OpenCall}
use Rattle.canister_host.specs.State.{HostState}
use Rattle.canister_host.specs.HostRun.{Outcome, outcome}
use Rattle.canister_calls.specs.declared.calls.Awaiting.{Awaiting}
use Rattle.canister_calls.specs.declared.calls.Calls.{Calls}
use Rattle.canister_calls.specs.Awaiting.{awaiting_of}
use Rattle.canister_calls.specs.Calling.{SameCalls, state_with}
use Rattle.wasm_instance.specs.declared.instance.Limits.{Limits}
use Rattle.canister_execution.specs.Views as memory
use Rattle.canister_execution.specs.Views.{Contents, IsSettled}
use Rattle.canister_messages.specs.declared.state.State.{State}
use Rattle.canister_messages.specs.States.{canister_at, state_at, CanRun, KeepsRest}
use Rattle.canister.specs.Shown.{module_of, canister_of, shown_state, IsCanisterOf, IsSound, KeepsCalls, IsUnchanged, IsBegun}
use Rattle.canister.specs.Views.{View}

pub module_at : (modules : List Module) (c : State) (number : ℕ) (m : Module) → IsSound modules c → c.installed ≡ Some number → m ≡ get_or modules number m → module_of modules c.installed ≡ Some m
module_at modules c number m s e is =
    let P : Option ℕ → Type 0 = λ o. IfSome o (λ n. n < length modules) in
    let below : number < length modules = subst P e s.there in
    ap (module_of modules) e ∙ slice_get_read modules (length modules) number m refl below is

pub can_run_at : (modules : List Module) (c : State) (m : Module) → IsSound modules c → module_of modules c.installed ≡ Some m → CanRun m c
can_run_at modules c m s e = record { settled = s.settled; fits = s.fits m e; waiting = s.waiting }

pub shown_at : (modules : List Module) (c : State) (m : Module) → module_of modules c.installed ≡ Some m → shown_state modules c ≡ state_at m c
shown_at modules c m e = ap (λ o. state_with (canister_of o c.memories.kept) c.calls) e

pub installed_still : (modules : List Module) (old new : State) (m : Module) → new.installed ≡ old.installed → module_of modules old.installed ≡ Some m → module_of modules new.installed ≡ Some m
installed_still modules old new m same e = ap (module_of modules) same ∙ e

some_is : (m k : Module) → Some m ≡ Some k → m ≡ k
some_is m k e = cc

-- It is sound after what its module has done.
pub sound_still : {A E : Type 0} (r : Result A E) (modules : List Module) (old new : State) (m : Module) → IsSound modules old → module_of modules old.installed ≡ Some m → OnOk r (CanRun m new) → KeepsRest old new → OnOk r (IsSound modules new)
sound_still (Ok a) modules old new m s e runs rest = record {
  settled = runs.settled;
  there = (let P : Option ℕ → Type 0 = λ o. IfSome o (λ n. n < length modules) in subst P (sym rest.installed) s.there);
  fits = λ k f. (let P : Module → Type 0 = λ m. IsInstanceOf m new.memories.kept.instance in subst P (some_is m k (sym (installed_still modules old new m rest.installed e) ∙ f)) runs.fits);
  waiting = runs.waiting;
}
sound_still (Err x) modules old new m s e runs rest = tt

fits_same : (modules : List Module) (old new : State) → IsSound modules old → new.installed ≡ old.installed → new.memories.kept ≡ old.memories.kept → (m : Module) → module_of modules new.installed ≡ Some m → IsInstanceOf m new.memories.kept.instance
fits_same modules old new s installed kept m e =
    let P : Contents → Type 0 = λ x. IsInstanceOf m x.instance in subst P (sym kept) (s.fits m (ap (module_of modules) (sym installed) ∙ e))

there_same : (modules : List Module) (old new : State) → IsSound modules old → new.installed ≡ old.installed → IfSome new.installed (λ number. number < length modules)
there_same modules old new s installed = let P : Option ℕ → Type 0 = λ o. IfSome o (λ n. n < length modules) in subst P (sym installed) s.there

few_same : (old new : Calls) → SameCalls old new → length old.waiting.items ≤ 500 → length new.waiting.items ≤ 500
few_same old new same few = let P : List OpenCall → Type 0 = λ l. length l ≤ 500 in subst P (sym same.waiting) few

-- It is sound again where nothing has changed.
pub sound_unchanged : (modules : List Module) (old new : State) → IsSound modules old → IsUnchanged old new → IsSettled new.memories → IsSound modules new
sound_unchanged modules old new s u settled = record {
  settled = settled;
  there = there_same modules old new s u.installed;
  fits = fits_same modules old new s u.installed u.rest.kept;
  waiting = few_same old.calls new.calls u.rest.calls s.waiting;
}

sound_begun : (modules : List Module) (old new : State) (m : Module) (number : ℕ) → number < length modules → slice_get modules number ≡ Some m → IsSound modules old → KeepsCalls old new → IsBegun m number new → IsSettled new.memories → IsSound modules new
sound_begun modules old new m number below e s keeps b settled = record {
  settled = settled;
  there = (let P : Option ℕ → Type 0 = λ o. IfSome o (λ n. n < length modules) in subst P (sym b.installed) below);
  fits = λ k f. (let P : Module → Type 0 = λ m. IsInstanceOf m new.memories.kept.instance in subst P (some_is m k (sym e ∙ ap (module_of modules) (sym b.installed) ∙ f)) b.fits);
  waiting = few_same old.calls new.calls keeps.calls s.waiting;
}

-- It is sound after an installation or an upgrade, however that ended.
pub sound_after : {A E : Type 0} (r : Result A E) (modules : List Module) (old new : State) (m : Module) (number : ℕ) → number < length modules → slice_get modules number ≡ Some m → IsSound modules old → KeepsCalls old new
    → OnOk r (IsUnchanged old new ⊎ IsBegun m number new) → OnOk r (IsSettled new.memories) → OnOk r (IsSound modules new)
sound_after (Ok a) modules old new m number below e s keeps comes settled = either comes
  where
    either : IsUnchanged old new ⊎ IsBegun m number new → IsSound modules new
    either (inl u) = sound_unchanged modules old new s u settled
    either (inr b) = sound_begun modules old new m number below e s keeps b settled
sound_after (Err x) modules old new m number below e s keeps comes settled = tt

pub slice_at : (modules : List Module) (number : ℕ) (m : Module) → number < length modules → m ≡ get_or modules number m → slice_get modules number ≡ Some m
slice_at modules number m below is = slice_get_read modules (length modules) number m refl below is

-- What is so of outcomes is so of their equals.
pub ok_between : {E : Type 0} (r : Result (List Item) E) (a b : Outcome) (s t : HostState) → a ≡ b → s ≡ t → IfOk r (λ items. b ≡ outcome items t) → IfOk r (λ items. a ≡ outcome items s)
ok_between (Ok items) a b s t e f h = e ∙ h ∙ ap (outcome items) (sym f)
ok_between (Err x) a b s t e f h = tt

pub record Found (o : Option OpenCall) (a : Awaiting) : Type 0 where
  pub call : OpenCall
  pub there : o ≡ Some call
  pub same : awaiting_of call ≡ a

pub found_call : (o : Option OpenCall) (a : Awaiting) → option_map awaiting_of o ≡ Some a → Found o a
found_call None a e = absurd (cc)
found_call (Some c) a e = record { call = c; there = refl; same = (cc) }

chosen_few : (b : Bool) (c : OpenCall) (xs ys : List OpenCall) → length xs ≤ length ys → length (cond b (c ∷ xs) xs) ≤ length (c ∷ ys)
chosen_few true c xs ys h = omega arith
chosen_few false c xs ys h = omega arith

pub few_filtered : (p : OpenCall → Bool) (calls : List OpenCall) → length (filter p calls) ≤ length calls
few_filtered p [] = omega arith
few_filtered p (c ∷ calls) = chosen_few (p c) c (filter p calls) calls (few_filtered p calls)

-- It is sound again after want of memory, when what is kept was put back.
pub canister_back : (modules : List Module) (old : View) (middle : State) (memories : memory.View) (limits : Limits) (own : List ℕ) → IsCanisterOf modules old → IsUnchanged old.state middle → memories.kept ≡ middle.memories.kept → IsSettled memories
    → IsCanisterOf modules (record { limits = limits; own = own; events = old.events; state = record middle { memories = memories } })
canister_back modules old middle memories limits own s u kept settled = record {
  sound = sound_unchanged modules old.state (record middle { memories = memories }) s.sound (record { installed = u.installed; rest = record { kept = kept ∙ u.rest.kept; calls = u.rest.calls } }) settled;
  first = λ e. ap (λ k. k.stable) (kept ∙ u.rest.kept) ∙ s.first e;
  made = (let P : ℕ → Type 0 = λ n. n ≤ 500 * old.events in subst P (sym u.rest.calls.made) s.made);
}
