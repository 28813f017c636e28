-- The tables of arities are those of a valid module.
use Rattle.std.proofs.Common.{◌≡◌, ℕ, zero, suc, ◌≤◌, List, [], ◌∷◌, ◌++◌, length, Option, Some, None, refl, ap, ◌∙◌, subst, arith}
use Rattle.std.specs.Prelude.{slice_get, option_map, nat_lt}
use Rattle.std.specs.List.{AllByRecursion}
use Rattle.std.proofs.lemmas.Option.{slice_get-map}
use Rattle.wasm_tree.specs.declared.types.FunctionType.{FunctionType}
use Rattle.wasm_tree.specs.declared.module_parts.ImportKind.{ImportKind}
use Rattle.wasm_tree.specs.declared.module_parts.ImportKind.TheVariants as «import»
use Rattle.wasm_tree.specs.declared.module_parts.Import.{Import}
use Rattle.wasm_tree.specs.declared.module_parts.Module.{Module}
use Rattle.wasm_tree.specs.Rules.{every, signatures, imported_signature, imported_signatures, or_no, type_of}
use Rattle.wasm_tree.specs.Valid.{ValidModule, IsValidType, IsValidImport, IsIc0}
use Rattle.wasm_tree.specs.Frames.{params_count, results_count}
use Rattle.wasm_layout.specs.declared.arity.Arity.{Arity}
use Rattle.wasm_layout.specs.Arities.{count_of, arity_of, or_no_arity, arity_at, of_types, of_functions}
use Rattle.wasm_layout.specs.Modules.{arities_of}
use Rattle.wasm_layout.proofs.Passed.{Agree}

pub all_at : {A : Type 0} (P : A → Type 0) (xs : List A) (i : ℕ) (x : A) → AllByRecursion P xs → slice_get xs i ≡ Some x → P x
all_at P [] i x all e = cc
all_at P (y ∷ xs) zero x all e = let f : y ≡ x = cc in subst P f all.0
all_at P (y ∷ xs) (suc i) x all e = all_at P xs i x all.1 e

one_or_none : {A : Type 0} (xs : List A) → length xs ≤ 1 → count_of (nat_lt 0 (length xs)) ≡ length xs
one_or_none [] few = refl
one_or_none (x ∷ []) few = refl
one_or_none (x ∷ y ∷ xs) few = absurd (omega arith)

-- An arity says what a type does.
pub record IsArity (a : Arity) (t : Option FunctionType) : Type 0 where
  pub params : a.params ≡ params_count t
  pub results : count_of a.result ≡ results_count t

module _ (m : Module) (valid : ValidModule m) where
  pub few_results : (x : ℕ) (t : FunctionType) → slice_get m.types x ≡ Some t → length t.results ≤ 1
  few_results x t e = all_at (IsValidType every m) m.types x t valid.parts.types e tt

  pub arity_is : (x : ℕ) → IsArity (arity_at (of_types m) x) (slice_get m.types x)
  arity_is x = go (slice_get m.types x) refl
    where
      go : (t : Option FunctionType) → slice_get m.types x ≡ t → IsArity (arity_at (of_types m) x) (slice_get m.types x)
      go None e =
          let at : arity_at (of_types m) x ≡ or_no_arity None = ap or_no_arity (slice_get-map arity_of m.types x ∙ ap (option_map arity_of) e) in
          rw (at, e) (record { params = refl; results = refl })
      go (Some t) e =
          let at : arity_at (of_types m) x ≡ arity_of t = ap or_no_arity (slice_get-map arity_of m.types x ∙ ap (option_map arity_of) e) in
          rw (at, e) (record { params = refl; results = one_or_none t.results (few_results x t e) })

  function_arity : (f : ℕ) → IsArity (arity_at (of_functions (of_types m) m) f) (type_of m f)
  function_arity f = go (slice_get (signatures m) f) refl
    where
      go : (s : Option ℕ) → slice_get (signatures m) f ≡ s → IsArity (arity_at (of_functions (of_types m) m) f) (type_of m f)
      go None e =
          let at : arity_at (of_functions (of_types m) m) f ≡ or_no_arity None =
          ap or_no_arity (slice_get-map (arity_at (of_types m)) (signatures m) f ∙ ap (option_map (arity_at (of_types m))) e) in
          let t : type_of m f ≡ None = ap (λ s. or_no s (slice_get m.types)) e in
          rw (at, t) (record { params = refl; results = refl })
      go (Some s) e =
          let at : arity_at (of_functions (of_types m) m) f ≡ arity_at (of_types m) s =
          ap or_no_arity (slice_get-map (arity_at (of_types m)) (signatures m) f ∙ ap (option_map (arity_at (of_types m))) e) in
          let t : type_of m f ≡ slice_get m.types s = ap (λ s. or_no s (slice_get m.types)) e in
          rw (at, t) (arity_is s)

  pub agree : Agree (arities_of m) m
  agree = record {
    params = λ f. (function_arity f).params;
    results = λ f. (function_arity f).results;
    type_params = λ x. (arity_is x).params;
    type_results = λ x. (arity_is x).results;
  }

-- The type of an imported function is there.
pub record HasType (m : Module) (s : ℕ) : Type 0 where
  pub type : FunctionType
  pub there : slice_get m.types s ≡ Some type

imported_one : (m : Module) (name : List ℕ) (kind : ImportKind) → IsIc0 every m name kind → (rest : List ℕ) (f s : ℕ) → ((f : ℕ) → slice_get rest f ≡ Some s → HasType m s)
    → slice_get (imported_signature kind ++ rest) f ≡ Some s → HasType m s
imported_one m name («import».Function signature) is rest zero s later e =
    let f : signature ≡ s = cc in subst (HasType m) f (record { type = is.0; there = is.1.there tt })
imported_one m name («import».Function signature) is rest (suc f) s later e = later f e
imported_one m name («import».Table l) is rest f s later e = later f e
imported_one m name («import».Memory l) is rest f s later e = later f e
imported_one m name («import».Global g) is rest f s later e = later f e

pub imported_type : (m : Module) (is : List Import) → AllByRecursion (IsValidImport every m) is → (f s : ℕ) → slice_get (imported_signatures is) f ≡ Some s → HasType m s
imported_type m [] all f s e = cc
imported_type m (i ∷ is) all f s e = imported_one m i.name i.kind all.0.function (imported_signatures is) f s (λ f e. imported_type m is all.1 f s e) e
