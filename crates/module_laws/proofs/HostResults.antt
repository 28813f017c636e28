-- A function of the host gives a value exactly where its type has one.
use Rattle.std.proofs.Common.{◌≡◌, ℕ, List, [], ◌∷◌, map, Option, Some, None, slice_get, get_or, zero, suc, refl, ap, ◌∙◌}
use Rattle.std.specs.Prelude.{⊤}
use Rattle.wasm_tree.specs.declared.types.ValueType.{ValueType}
use Rattle.wasm_tree.specs.declared.types.FunctionType.{FunctionType}
use Rattle.wasm_tree.specs.Exec.{HostAnswer, Answers, Refuses}
use Rattle.wasm_machine.specs.Asked.{FitsKinds}
use Rattle.ic0_world.specs.declared.function.Ic0.{Ic0}
use Rattle.ic0_world.specs.declared.world.World.{World}
use Rattle.ic0_world.specs.Names.{functions}
use Rattle.ic0_world.specs.Act.{Did, Gives, Traps, call}
use Rattle.canister_host.specs.Types.{type_of_function}
use Rattle.canister_host.specs.Entries.{answer_of, call_of}
use Rattle.canister_host.proofs.Results.{fits_result}

-- A value where there are kinds for one.
abbrev pub ValueFits : List ValueType → Option ℕ → Type 0
ValueFits [] None = ⊤
ValueFits [] (Some value) = ⊥
ValueFits (kind ∷ kinds) None = ⊥
ValueFits (kind ∷ kinds) (Some value) = ⊤

abbrev pub AnswerFits : {World : Type 0} → List ValueType → HostAnswer World → Type 0
AnswerFits kinds (Answers value memory w) = ValueFits kinds value
AnswerFits kinds (Refuses w) = ⊤

value_fits : (kinds : List ValueType) (value : Option ℕ) → FitsKinds kinds value → ValueFits kinds value
value_fits [] None h = tt
value_fits [] (Some value) h = h
value_fits (kind ∷ kinds) None h = h
value_fits (kind ∷ kinds) (Some value) h = tt

answer_fits : (kinds : List ValueType) (d : Did) → ((value : Option ℕ) (memory : List ℕ) (w : World) → d ≡ Gives value memory w → FitsKinds kinds value) → AnswerFits kinds (answer_of d)
answer_fits kinds (Gives value memory w) h = value_fits kinds value (h value memory w refl)
answer_fits kinds (Traps w) h = tt

there : (these : List Ic0) (k : ℕ) (function other : Ic0) → slice_get these k ≡ Some function → (get_or these k other ≡ function) × (slice_get (map type_of_function these) k ≡ Some (type_of_function function))
there [] k function other e = absurd (cc)
there (x ∷ these) zero function other e = let same : x ≡ function = cc in (same, ap (λ f. Some (type_of_function f)) same)
there (x ∷ these) (suc k) function other e = there these k function other e

-- The function with this number, by its type.
pub host_answers_fit : (k : ℕ) (o : Option Ic0) → slice_get functions k ≡ o → (t : FunctionType) → slice_get (map type_of_function functions) k ≡ Some t → (args memory : List ℕ) (w : World) → AnswerFits t.results (answer_of (call_of o args memory w))
host_answers_fit k None is t typed args memory w = tt
host_answers_fit k (Some function) is t typed args memory w =
    let at = there functions k function function is in
    answer_fits t.results (call function args memory w) (λ value new after did. fits_result functions k function args memory w value new after (ap (λ f. call f args memory w) at.0 ∙ did) t typed)
