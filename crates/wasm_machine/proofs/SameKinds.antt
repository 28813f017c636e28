-- Lists of kinds that are compared item by item.
use Rattle.std.proofs.Common.{◌≡◌, ◌≢◌, ℕ, suc, ◌+◌, ◌<◌, ◌≤◌, Bool, true, false, List, [], ◌∷◌, length, drop, get_or, refl, sym, ap, ◌∙◌, arith, add-one, drop-cons}
use Rattle.std.specs.Prelude.{◌&&◌}
use Rattle.std.proofs.lemmas.List.{drop_all}
use Rattle.wasm_tree.specs.declared.types.ValueType.{ValueType}
use Rattle.wasm_tree.specs.Exec.{same_kind, same_kinds}

pub of_lengths : (a b : List ValueType) → length a ≢ length b → false ≡ same_kinds a b
of_lengths [] [] h = absurd (h refl)
of_lengths [] (y ∷ b) h = refl
of_lengths (x ∷ a) [] h = refl
of_lengths (x ∷ a) (y ∷ b) h = either (same_kind x y) (same_kinds a b) (of_lengths a b (λ e. h (ap suc e)))
  where
    either : (p q : Bool) → false ≡ q → false ≡ (p && q)
    either true q e = e
    either false q e = refl

-- from one place on
step_on : (a b : List ValueType) (i : ℕ) (d : ValueType) → i < length a → length a ≡ length b → same_kinds (drop i a) (drop i b) ≡ (same_kind (get_or a i d) (get_or b i d) && same_kinds (drop (i + 1) a) (drop (i + 1) b))
step_on a b i d less same = rw (add-one, drop-cons a i d less, drop-cons b i d (let h : i < length b = omega arith in h)) refl

pub goes_on : (a b : List ValueType) (i : ℕ) (d : ValueType) → i < length a → length a ≡ length b → same_kinds a b ≡ same_kinds (drop i a) (drop i b) → same_kind (get_or a i d) (get_or b i d) ≡ true → same_kinds a b ≡ same_kinds (drop (i + 1) a) (drop (i + 1) b)
goes_on a b i d less same so e = so ∙ step_on a b i d less same ∙ ap (λ p. p && same_kinds (drop (i + 1) a) (drop (i + 1) b)) e

pub stops : (a b : List ValueType) (i : ℕ) (d : ValueType) → i < length a → length a ≡ length b → same_kinds a b ≡ same_kinds (drop i a) (drop i b) → same_kind (get_or a i d) (get_or b i d) ≡ false → false ≡ same_kinds a b
stops a b i d less same so e = sym (so ∙ step_on a b i d less same ∙ ap (λ p. p && same_kinds (drop (i + 1) a) (drop (i + 1) b)) e)

pub ends : (a b : List ValueType) (i : ℕ) → length a ≤ i → length a ≡ length b → same_kinds a b ≡ same_kinds (drop i a) (drop i b) → true ≡ same_kinds a b
ends a b i past same so =
    let ea : drop i a ≡ [] = drop_all i a past in
    let eb : drop i b ≡ [] = drop_all i b (let h : length b ≤ i = omega arith in h) in
    sym (so ∙ ap (λ l. same_kinds l (drop i b)) ea ∙ ap (λ l. same_kinds [] l) eb)
