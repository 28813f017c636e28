-- How many locals there are.
use Rattle.std.proofs.Common.{◌≡◌, ℕ, zero, suc, List, [], ◌∷◌, ◌++◌, length, refl, ap, arith, length-append}
use Rattle.std.proofs.lemmas.List.Sums.{sum_by-cons}
use Rattle.wasm_tree.specs.declared.types.ValueType.{ValueType}
use Rattle.wasm_tree.specs.declared.module_parts.Locals.{Locals}
use Rattle.wasm_tree.specs.Rules.{grouped}
use Rattle.wasm_layout.specs.Sizes.{locals_of}

as_many : {A : Type 0} (f : ℕ → List A) (k : A) (n : ℕ) → f 0 ≡ [] → ((i : ℕ) → f (suc i) ≡ k ∷ f i) → length (f n) ≡ n
as_many f k zero e g = ap length e
as_many f k (suc n) e g = omega (arith, ap length (g n), as_many f k n e g)

-- Here f is what each group is written out by. It has no name outside, so the first fact is only there to find it.
count_all : (f : Locals → ℕ → List ValueType) → ((l : Locals) (ls : List Locals) (n : ℕ) → l.count ≡ n → f l n ++ grouped ls ≡ f l n ++ grouped ls)
    → ((l : Locals) (ls : List Locals) → grouped (l ∷ ls) ≡ f l l.count ++ grouped ls) → ((l : Locals) → f l 0 ≡ []) → ((l : Locals) (i : ℕ) → f l (suc i) ≡ l.kind ∷ f l i)
    → (ls : List Locals) → length (grouped ls) ≡ locals_of ls
count_all f found first none next [] = refl
count_all f found first none next (l ∷ ls) =
    omega (arith, ap length (first l ls), length-append (f l l.count) (grouped ls), as_many (f l) l.kind l.count (none l) (next l), count_all f found first none next ls, sum_by-cons (λ (g : Locals). g.count) l ls)

pub locals_count : (ls : List Locals) → length (grouped ls) ≡ locals_of ls
locals_count = count_all _ (λ l ls n e. let h : grouped (l ∷ ls) ≡ grouped (l ∷ ls) = refl in rw e at h) (λ l ls. refl) (λ l. refl) (λ l i. refl)
