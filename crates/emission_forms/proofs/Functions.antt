-- Emitted functions are formed.
use Rattle.std.proofs.Common.{◌≡◌, ℕ, zero, suc, ◌+◌, ◌-◌, ◌<◌, ◌≤◌, List, [], ◌∷◌, ◌++◌, length, replicate, Some, refl, ap, ◌∙◌, subst, arith, length-append}
use Rattle.std.proofs.lemmas.List.{length-replicate}
use Rattle.std.specs.Prelude.{slice_get}
use Rattle.wasm_tree.specs.declared.types.ValueType.{ValueType}
use Rattle.wasm_tree.specs.declared.types.ValueType.TheVariants.{I32, I64}
use Rattle.core_ir.specs.CodeMachine.{first_of}
use Rattle.core_ir.specs.FormedCode.{most_of, most_operands}
use Rattle.flat_emission.specs.Emission.{Here, here_of}
use Rattle.emission_forms.specs.Laws.{arity_type, EmittedFunctionsAreFormed}
use Rattle.emission_forms.proofs.Emitted.{Kinds, emit_formed}

-- words, so many and then so many
get_word : (p q : ℕ) (more : List ValueType) (x : ℕ) → x < p + q → slice_get (replicate p I64 ++ (replicate q I64 ++ more)) x ≡ Some I64
get_word zero zero more x lt = absurd (omega (arith, lt))
get_word zero (suc q) more zero lt = refl
get_word zero (suc q) more (suc x) lt = get_word zero q more x (omega (arith, lt))
get_word (suc p) q more zero lt = refl
get_word (suc p) q more (suc x) lt = get_word p q more x (omega (arith, lt))

get_behind : (p q : ℕ) (more : List ValueType) (x j : ℕ) → x ≡ p + q + j → slice_get (replicate p I64 ++ (replicate q I64 ++ more)) x ≡ slice_get more j
get_behind zero zero more x j e = ap (slice_get more) (omega_same x j e)
  where
    omega_same : (x j : ℕ) → x ≡ 0 + 0 + j → x ≡ j
    omega_same x j e = omega (arith, e)
get_behind zero (suc q) more zero j e = absurd (omega (arith, e))
get_behind zero (suc q) more (suc x) j e = get_behind zero q more x j (omega (arith, e))
get_behind (suc p) q more zero j e = absurd (omega (arith, e))
get_behind (suc p) q more (suc x) j e = get_behind p q more x j (omega (arith, e))

module _ (here : Here) (p : ℕ) (le : p ≤ here.slots) where
  abbrev tail : List ValueType
  tail = I32 ∷ I32 ∷ I64 ∷ (replicate here.most I64 ++ (replicate 0 I64 ++ []))

  abbrev kinds : List ValueType
  kinds = I32 ∷ (replicate p I64 ++ (replicate (here.slots - p) I64 ++ tail))

  pub kinds_are : Kinds here kinds
  kinds_are = record {
    block = refl;
    slots = λ x lt. get_word p (here.slots - p) tail x (omega (arith, lt, le));
    first = get_behind p (here.slots - p) tail here.slots 0 (omega (arith, le));
    second = get_behind p (here.slots - p) tail (suc here.slots) 1 (omega (arith, le));
    value = get_behind p (here.slots - p) tail (suc (suc here.slots)) 2 (omega (arith, le));
    places = λ i lt. get_behind p (here.slots - p) tail (suc (suc (suc (here.slots + i)))) (suc (suc (suc i))) (omega (arith, le)) ∙ get_word here.most 0 [] i (omega (arith, lt));
  }

ended : (n : ℕ) → replicate n I64 ++ (replicate 0 I64 ++ []) ≡ replicate n I64
ended zero = refl
ended (suc n) = ap (λ l. I64 ∷ l) (ended n)

pub functions_formed : EmittedFunctionsAreFormed
functions_formed m plan link most fits members b few le short s =
    let here : Here = here_of members b in
    let k : Kinds here (I32 ∷ (replicate b.parameters I64 ++ (replicate (b.slots - b.parameters) I64 ++ I32 ∷ I32 ∷ I64 ∷ replicate here.most I64))) =
    subst (λ l. Kinds here (I32 ∷ (replicate b.parameters I64 ++ (replicate (b.slots - b.parameters) I64 ++ I32 ∷ I32 ∷ I64 ∷ l)))) (ended here.most) (kinds_are here b.parameters le) in
    record {
      type = arity_type b.parameters;
      is = fits.types b.parameters few;
      few = long_enough (b.parameters) (b.slots - b.parameters) (most_of most_operands b.segments) (omega (arith, le, short));
      body = emit_formed m plan link most fits here (I32 ∷ (replicate b.parameters I64 ++ (replicate (b.slots - b.parameters) I64 ++ I32 ∷ I32 ∷ I64 ∷ replicate here.most I64))) k 0 (first_of b.segments) s;
    }
  where
    long_enough : (p q n : ℕ) → p + q + n ≤ 49000 → length (arity_type p).params + length (replicate q I64 ++ I32 ∷ I32 ∷ I64 ∷ replicate n I64) ≤ 50000
    long_enough p q n le =
        let a : length (replicate p I64) ≡ p = length-replicate {A = ValueType} p I64 in
        let b : length (replicate q I64 ++ I32 ∷ I32 ∷ I64 ∷ replicate n I64) ≡ length (replicate {A = ValueType} q I64) + length (I32 ∷ I32 ∷ I64 ∷ replicate n I64) = length-append (replicate q I64) (I32 ∷ I32 ∷ I64 ∷ replicate n I64) in
        let c : length (replicate q I64) ≡ q = length-replicate {A = ValueType} q I64 in
        let d : length (replicate n I64) ≡ n = length-replicate {A = ValueType} n I64 in
        omega (arith, le, a, b, c, d)
