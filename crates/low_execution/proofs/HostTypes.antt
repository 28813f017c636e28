-- The host's functions as modules see them: each has the type of its number, and gives values that fit it.
use Rattle.std.proofs.Common.{◌≡◌, ◌+◌, ℕ, zero, suc, List, [], ◌∷◌, ◌++◌, length, map, Option, Some, None, slice_get, refl, sym, ap, ◌∙◌, subst, arith}
use Rattle.wasm_tree.specs.declared.types.FunctionType.{FunctionType}
use Rattle.wasm_tree.specs.Rules.{or_no}
use Rattle.ic0_world.specs.declared.function.Ic0.{Ic0}
use Rattle.ic0_world.specs.declared.world.World.{World}
use Rattle.ic0_world.specs.Names.{functions}
use Rattle.canister_host.specs.Types.{type_of_function}
use Rattle.canister_host.specs.Entries.{answer_of, call_of}
use Rattle.module_laws.proofs.HostResults.{AnswerFits, host_answers_fit}
use Rattle.low_ir.specs.Tree.{Module}
use Rattle.low_ir.specs.Numbering.{upto, host_types, host_signatures, all_types, all_signatures, type_of}
use Rattle.low_execution.specs.Host.{low_host}

types_of_functions : host_types ≡ map type_of_function functions
unfolding host_types functions
types_of_functions = refl

counted : (n count k : ℕ) (these : List Ic0) (function : Ic0) → length these ≡ count → slice_get these k ≡ Some function → slice_get (upto n count) k ≡ Some (n + k)
counted n count k [] function e is = absurd (cc)
counted n zero k (x ∷ these) function e is = absurd (omega arith)
counted n (suc count) zero (x ∷ these) function e is = let same : n ≡ n + 0 = omega arith in ap (λ n. Some n) same
counted n (suc count) (suc k) (x ∷ these) function e is = let next : suc n + k ≡ n + suc k = omega arith in counted (suc n) count k these function (omega arith) is ∙ ap (λ n. Some n) next

signed : (k : ℕ) (function : Ic0) → slice_get functions k ≡ Some function → slice_get host_signatures k ≡ Some k
unfolding host_signatures functions
signed k function e = let same : 0 + k ≡ k = omega arith in counted 0 22 k functions function refl e ∙ ap (λ n. Some n) same

front : {A : Type 0} (xs ys : List A) (k : ℕ) (x : A) → slice_get xs k ≡ Some x → slice_get (xs ++ ys) k ≡ Some x
front [] ys k x e = absurd (cc)
front (y ∷ xs) ys zero x e = e
front (y ∷ xs) ys (suc k) x e = front xs ys k x e

mapped : {A B : Type 0} (f : A → B) (xs : List A) (k : ℕ) (x : A) → slice_get xs k ≡ Some x → slice_get (map f xs) k ≡ Some (f x)
mapped f [] k x e = absurd (cc)
mapped f (y ∷ xs) zero x e = let same : y ≡ x = cc in ap (λ y. Some (f y)) same
mapped f (y ∷ xs) (suc k) x e = mapped f xs k x e

-- The type of a function of the host, as modules see it.
typed : (m : Module) (k : ℕ) (function : Ic0) → slice_get functions k ≡ Some function → type_of m k ≡ Some (type_of_function function)
typed m k function e =
    let number : slice_get (all_signatures m) k ≡ Some k = front host_signatures (map (λ f. f.signature) m.functions) k k (signed k function e) in
    let type : slice_get (map type_of_function functions) k ≡ Some (type_of_function function) = mapped type_of_function functions k function e in
    let there : slice_get (all_types m) k ≡ Some (type_of_function function) = ap (λ (l : List FunctionType). slice_get (l ++ m.types) k) types_of_functions ∙ front (map type_of_function functions) m.types k (type_of_function function) type in
    ap (λ n. or_no n (slice_get (all_types m))) number ∙ there

fits_at : (m : Module) (k : ℕ) (o : Option Ic0) → slice_get functions k ≡ o → (t : FunctionType) → type_of m k ≡ Some t → (args memory : List ℕ) (w : World) → AnswerFits t.results (answer_of (call_of o args memory w))
fits_at m k None is t of_type args memory w = tt
fits_at m k (Some function) is t of_type args memory w =
    let both : Some (type_of_function function) ≡ Some t = sym (typed m k function is) ∙ of_type in
    let same : type_of_function function ≡ t = cc in
    subst (λ (t : FunctionType). AnswerFits t.results (answer_of (call_of (Some function) args memory w))) same (host_answers_fit k (Some function) is (type_of_function function) (mapped type_of_function functions k function is) args memory w)

pub host_fits : (m : Module) (f : ℕ) (t : FunctionType) → type_of m f ≡ Some t → (args memory : List ℕ) (w : World) → AnswerFits t.results (low_host f args memory w)
host_fits m f t is args memory w = fits_at m f (slice_get functions f) refl t is args memory w
