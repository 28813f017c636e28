-- The answer for a module besides its functions.
use Rattle.std.proofs.Common.{◌≡◌, ◌≢◌, ℕ, List, map, refl, subst, Result, Err}
use Rattle.std.specs.List.{AllPairs}
use Rattle.wasm_tree.specs.declared.rule.Rule.{Rule}
use Rattle.wasm_tree.specs.declared.rule.Rule.TheVariants as rule
use Rattle.wasm_tree.specs.declared.module_parts.Export.{Export}
use Rattle.wasm_tree.specs.declared.module_parts.Module.{Module}
use Rattle.wasm_tree.specs.Rules.{every, only, signatures}
use Rattle.wasm_tree.specs.Valid.{HasValidParts}
use Rattle.wasm_valid.specs.declared.fault.Fault.{Fault}
use Rattle.wasm_valid.specs.declared.fault.Fault.TheVariants as fault
use Rattle.wasm_valid.specs.Verdict.{Passes, Breaks, Sees, Checked}
use Rattle.wasm_valid.specs.Parts.{parts_check}
use Rattle.wasm_valid.proofs.Kept.{parts_kept, parts_follow}

pub besides_kept : (m : Module) (indices : List ℕ) → indices ≡ signatures m → parts_check m indices Passes ≡ Passes → (exports : List Export) → exports ≡ m.exports
    → AllPairs (λ a b. a ≢ b) (map (λ e. e.name) exports) → HasValidParts every m
besides_kept m indices same e exports all names =
    parts_kept m (subst (λ (l : List Export). AllPairs (λ a b. a ≢ b) (map (λ e. e.name) l)) all names) (subst (λ l. parts_check m l Passes ≡ Passes) same e)

pub besides_broken : (m : Module) (indices : List ℕ) (result : Result (Unit {0}) Fault) (f : Fault) (final : Result (Unit {0}) Fault) → indices ≡ signatures m → Sees result (parts_check m indices Passes) (λ _. Passes)
    → result ≡ Err f → final ≡ Err f → Checked (λ asked. HasValidParts asked m) final
besides_broken m indices result (fault.Broken r) final same sees was is =
    let e : parts_check m indices Passes ≡ Breaks r = rw was at sees in
    rw is (λ v. impossible r (parts_follow m r Passes v (subst (λ l. parts_check m l Passes ≡ Breaks r) same e)))
  where
    impossible : (r : Rule) → Passes ≡ Breaks r → ⊥
    impossible r on = cc
besides_broken m indices result fault.Memory final same sees was is = rw is tt

pub names_broken : (m : Module) → (AllPairs (λ a b. a ≢ b) (map (λ e. e.name) m.exports) → ⊥) → HasValidParts (only rule.Export) m → ⊥
names_broken m none v = none (v.names refl)
