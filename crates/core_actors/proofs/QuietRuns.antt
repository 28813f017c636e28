-- The actor without methods never breaks.
use Rattle.std.proofs.Common.{◌≡◌, ℕ, zero, suc, refl, sym, ap, subst, List, [], ◌∷◌, map, Option, Some, None, Bool, true, false}
use Rattle.std.specs.Prelude.{cond, codes, nat_eq}
use Rattle.mo_types.specs.declared.node.TypeId.{TypeId}
use Rattle.mo_types.specs.Calls.{Call, call_from, open_count}
use Rattle.mo_values.specs.Shapes.{Bytes}
use Rattle.mo_actor.specs.Executions.{Completes, Progress, Traps, trapping}
use Rattle.mo_actor.specs.States.{Activation}
use Rattle.mo_actor.specs.Passes.{held_calls}
use Rattle.core_ir.specs.ActorRows.{lists}
use Rattle.core_ir.specs.Values.{Value}
use Rattle.core_ir.specs.Worlds.{Given, World, Context}
use Rattle.core_ir.specs.Executions.{Saves, Starts}
use Rattle.core_ir.specs.CoreMachine.{Waiting, core_machine}
use Rattle.core_ir.specs.Formed.{IsSafe}
use Rattle.core_ir.specs.Actor.{Fields, core_language, alone, kept_value, save, world_of}
use Rattle.core_actors.specs.QuietActor.{quiet, is_none, any_event, quiet_state, quiet_kept}
use Rattle.core_actors.specs.Unbroken.{Unbroken}

no : {A : Type 0} → false ≡ true → A
no e = absurd (let z : false ≡ true = e in cc)

none : {A B : Type 0} (x : A) → None ≡ Some x → B
none x e = absurd (let z : None ≡ Some x = e in cc)

starts : (c : Context) (upgraded : Bool) → IsSafe (core_machine quiet) c (record { store = []; groups = []; requests = [] }) (Starts [] upgraded)
starts c upgraded zero = tt
starts c upgraded (suc zero) = tt
starts c upgraded (suc (suc n)) = tt

saves : (c : Context) (w : World) → IsSafe (core_machine quiet) c w Saves
saves c w zero = tt
saves c w (suc zero) = tt
saves c w (suc (suc n)) = tt

restored : (kept : List Value) → quiet_kept kept ≡ true → (values : List (Option Value)) → lists.restore kept ≡ Some values → values ≡ []
restored [] f values e = let z : [] ≡ values = cc in sym z
restored (v ∷ vs) f values e = no f

-- no call is there
no_call : {A : Type 0} (first number : ℕ) (cs : List (Call (List TypeId) Given)) (xs : List (Activation (core_language Waiting (List Value)))) (c : Call (List TypeId) Given)
    → is_none (held_calls first cs xs) ≡ true → call_from first cs number ≡ Some c → A
no_call first number [] xs c h e = none c e
no_call first number (d ∷ cs) xs c h e = no h

-- what is saved
saved : (own : Bytes) (f : Fields) (n : ℕ) (kept : List Value) → (save (core_machine quiet) lists quiet own f n).completion ≡ Some (Completes kept) → quiet_kept kept ≡ true
saved own f zero kept e = none (Completes kept) e
saved own f (suc zero) kept e = none (Completes kept) e
saved own f (suc (suc zero)) kept e = none (Completes kept) e
saved own f (suc (suc (suc n))) kept e = subst (λ k. quiet_kept k ≡ true) (let z : [] ≡ kept = cc in z) refl

saved_if : (own : Bytes) (f : Fields) (b : Bool) (n : ℕ) (kept : List Value) → (cond b (save (core_machine quiet) lists quiet own f) (trapping (codes "outstanding calls")) n).completion ≡ Some (Completes kept) → quiet_kept kept ≡ true
saved_if own f true n kept e = saved own f n kept e
saved_if own f false zero kept e = none (Completes kept) e
saved_if own f false (suc n) kept e = absurd (let z : Some (Traps (codes "outstanding calls")) ≡ Some (Completes kept) = e in cc)

pub quiet_is_unbroken : (first : ℕ) (own : Bytes) → Unbroken (core_machine quiet) lists quiet first own (λ e. any_event e ≡ true) (λ s. quiet_state s ≡ true) (λ k. quiet_kept k ≡ true)
quiet_is_unbroken first own = record {
  installs = starts (alone (core_machine quiet) lists quiet own []) false;
  starts = λ kept f values e. subst (λ vs. IsSafe (core_machine quiet) (alone (core_machine quiet) lists quiet own []) (record { store = []; groups = []; requests = [] }) (Starts (map (kept_value (core_machine quiet) lists quiet) vs) true)) (sym (restored kept f values e)) (starts (alone (core_machine quiet) lists quiet own []) true);
  enters = λ a h query called name caller argument entry e allowed vs i. none entry e;
  resumes = λ a h number c e received allowed value i w j. no_call a.table.first number a.table.calls a.activations c h (e.0);
  saves = λ a h. saves (alone (core_machine quiet) lists quiet own a.store.names) (world_of (core_machine quiet) lists quiet a.store);
  begun = λ kept prints weight store h made. refl;
  called = λ a h name caller argument entry e allowed prints weight effects r. none entry e;
  answered = λ a h number c e received allowed prints weight effects r. no_call a.table.first number a.table.calls a.activations c h (e.0);
  trapped = λ a h number c e. no_call a.table.first number a.table.calls a.activations c h (e.0);
  saved = λ a h prints weight kept r. saved_if own a.store (nat_eq (open_count a.table) 0) r.0 kept (ap (λ (p : Progress (List Value)). p.completion) r.2);
}
