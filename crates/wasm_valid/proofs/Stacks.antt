-- What operands that are known in part stand for.
use Rattle.std.proofs.Common.{◌≡◌, ℕ, zero, suc, Bool, true, false, List, [], ◌∷◌, ◌++◌, length, drop, slice_get, Option, Some, None, refl, sym, ap, ◌∙◌, subst, inl, inr, ◌⊎◌}
use Rattle.std.specs.Prelude.{IfSome, ⊤}
use Rattle.wasm_tree.specs.declared.rule.Rule.{Rule}
use Rattle.wasm_tree.specs.declared.rule.Rule.TheVariants as rule
use Rattle.wasm_tree.specs.declared.types.ValueType.{ValueType}
use Rattle.wasm_tree.specs.declared.types.ValueType.TheVariants.{I32, I64}
use Rattle.wasm_tree.specs.Exec.{same_kind}
use Rattle.wasm_tree.specs.Rules.{StartsWith, results_of}
use Rattle.wasm_valid.specs.declared.operands.Floor.TheVariants.{Nothing, Anything, Something}
use Rattle.wasm_valid.specs.Verdict.{Verdict, Passes, Breaks, need, with_found}
use Rattle.wasm_valid.specs.Operands.{Stack, On, pop, pop_any, push, choose, pop_all, push_result, fits}

-- The stack stands for these operands.
abbrev pub Is : Stack → List ValueType → Type 0
Is (On [] Nothing) ks = ks ≡ []
Is (On [] Anything) ks = ⊤
Is (On [] Something) [] = ⊥
Is (On [] Something) (k ∷ ks) = ⊤
Is (On (t ∷ ts) floor) [] = ⊥
Is (On (t ∷ ts) floor) (k ∷ ks) = (t ≡ k) × Is (On ts floor) ks

pub same_eq : (j k : ValueType) → same_kind j k ≡ true → j ≡ k
same_eq I32 I32 e = refl
same_eq I32 I64 e = cc
same_eq I64 I32 e = cc
same_eq I64 I64 e = refl

pub same_refl : (j : ValueType) → same_kind j j ≡ true
same_refl I32 = refl
same_refl I64 = refl

pub need_passes : (r : Rule) (b : Bool) (next : Verdict) → need r b next ≡ Passes → (b ≡ true) × (next ≡ Passes)
need_passes r true next e = (refl, e)
need_passes r false next e = cc

-- A condition that does not hold is at fault, or what follows is.
pub need_breaks : (q : Rule) (b : Bool) (next : Verdict) (r : Rule) → need q b next ≡ Breaks r → ((b ≡ true) × (next ≡ Breaks r)) ⊎ ((b ≡ false) × (q ≡ r))
need_breaks q true next r e = inl (refl, e)
need_breaks q false next r e = inr (refl, cc)

pub found_passes : {A : Type 0} (r : Rule) (o : Option A) (next : A → Verdict) → with_found r o next ≡ Passes → (a : A) × (o ≡ Some a) × (next a ≡ Passes)
found_passes r None next e = cc
found_passes r (Some a) next e = (a, refl, e)

pub found_breaks : {A : Type 0} (q : Rule) (o : Option A) (next : A → Verdict) (r : Rule) → with_found q o next ≡ Breaks r → ((a : A) × (o ≡ Some a) × (next a ≡ Breaks r)) ⊎ ((o ≡ None) × (q ≡ r))
found_breaks q None next r e = inr (refl, cc)
found_breaks q (Some a) next r e = inl (a, refl, e)

pub push_is : (t k : ValueType) (s : Stack) (ks : List ValueType) → t ≡ k → Is s ks → Is (push t s) (k ∷ ks)
push_is t k (On ts floor) ks e h = (e, h)

pub push_told : (t : ValueType) (s : Stack) (ks : List ValueType) → Is (push t s) ks → (rest : List ValueType) × (ks ≡ t ∷ rest) × Is s rest
push_told t (On ts floor) [] h = absurd h
push_told t (On ts floor) (k ∷ rest) h = (rest, ap (λ k. k ∷ rest) (sym h.0), h.1)

pub push_result_is : (r : Option ValueType) (s : Stack) (ks : List ValueType) → Is s ks → Is (push_result r s) (results_of r ++ ks)
push_result_is None s ks h = h
push_result_is (Some k) s ks h = push_is k k s ks refl h

pub push_result_told : (r : Option ValueType) (s : Stack) (ks : List ValueType) → Is (push_result r s) ks → (rest : List ValueType) × (ks ≡ results_of r ++ rest) × Is s rest
push_result_told None s ks h = (ks, refl, h)
push_result_told (Some k) s ks h = push_told k s ks h

-- Each stack stands for some operands.
pub some : (s : Stack) → (ks : List ValueType) × Is s ks
some (On [] Nothing) = ([], refl)
some (On [] Anything) = ([], tt)
some (On [] Something) = (I32 ∷ [], tt)
some (On (t ∷ ts) floor) = let r = some (On ts floor) in (t ∷ r.0, (refl, r.1))

-- Where the check passes.

pub pop_sound : (k : ValueType) (s : Stack) (next : Stack → Verdict) → pop k s next ≡ Passes → (s' : Stack) × (next s' ≡ Passes) × ((ks : List ValueType) → Is s' ks → Is s (k ∷ ks))
pop_sound k (On [] Nothing) next e = cc
pop_sound k (On [] Anything) next e = (On [] Anything, e, λ ks h. tt)
pop_sound k (On [] Something) next e = (On [] Anything, e, λ ks h. tt)
pop_sound k (On (t ∷ ts) floor) next e =
    let b = need_passes rule.Operand (same_kind t k) (next (On ts floor)) e in (On ts floor, b.1, λ ks h. (same_eq t k b.0, h))

pub pop_all_sound : (takes : List ValueType) (s : Stack) (next : Stack → Verdict) → pop_all takes s next ≡ Passes → (s' : Stack) × (next s' ≡ Passes) × ((ks : List ValueType) → Is s' ks → Is s (takes ++ ks))
pop_all_sound [] s next e = (s, e, λ ks h. h)
pop_all_sound (k ∷ takes) s next e =
    let a = pop_sound k s (λ s. pop_all takes s next) e in
    let b = pop_all_sound takes a.0 next a.1 in
    (b.0, b.1, λ ks h. a.2 (takes ++ ks) (b.2 ks h))

pub pop_any_sound : (s : Stack) (next : Stack → Verdict) → pop_any s next ≡ Passes → (k : ValueType) × (s' : Stack) × (next s' ≡ Passes) × ((ks : List ValueType) → Is s' ks → Is s (k ∷ ks))
pop_any_sound (On [] Nothing) next e = cc
pop_any_sound (On [] Anything) next e = (I32, On [] Anything, e, λ ks h. tt)
pop_any_sound (On [] Something) next e = (I32, On [] Anything, e, λ ks h. tt)
pop_any_sound (On (t ∷ ts) floor) next e = (t, On ts floor, e, λ ks h. (refl, h))

pub choose_sound : (s : Stack) (next : Stack → Verdict) → choose s next ≡ Passes
    → (s' : Stack) × (next s' ≡ Passes) × ((mid : List ValueType) → Is s' mid → (k : ValueType) × (ks : List ValueType) × (mid ≡ k ∷ ks) × Is s (k ∷ k ∷ ks))
choose_sound (On [] Nothing) next e = cc
choose_sound (On [] Anything) next e = (On [] Something, e, told)
  where
    told : (mid : List ValueType) → Is (On [] Something) mid → (k : ValueType) × (ks : List ValueType) × (mid ≡ k ∷ ks) × ⊤
    told [] h = absurd h
    told (k ∷ ks) h = (k, ks, refl, tt)
choose_sound (On [] Something) next e = (On [] Something, e, told)
  where
    told : (mid : List ValueType) → Is (On [] Something) mid → (k : ValueType) × (ks : List ValueType) × (mid ≡ k ∷ ks) × ⊤
    told [] h = absurd h
    told (k ∷ ks) h = (k, ks, refl, tt)
choose_sound (On (t ∷ ts) floor) next e =
    let a = pop_sound t (On ts floor) (λ s. next (push t s)) e in
    (push t a.0, a.1, λ mid h. let p = push_told t a.0 mid h in (t, p.0, p.1, (refl, a.2 p.0 p.2)))

pub fits_sound : (r : Option ValueType) (s : Stack) → fits r s ≡ true → Is s (results_of r)
fits_sound None (On [] Nothing) e = refl
fits_sound None (On [] Anything) e = tt
fits_sound None (On [] Something) e = cc
fits_sound None (On (t ∷ ts) floor) e = cc
fits_sound (Some k) (On [] Nothing) e = cc
fits_sound (Some k) (On [] Anything) e = tt
fits_sound (Some k) (On [] Something) e = tt
fits_sound (Some k) (On (t ∷ []) Nothing) e = (same_eq t k e, refl)
fits_sound (Some k) (On (t ∷ []) Anything) e = (same_eq t k e, tt)
fits_sound (Some k) (On (t ∷ []) Something) e = cc
fits_sound (Some k) (On (t ∷ u ∷ ts) floor) e = cc

-- Where a rule is broken.

pub fits_complete : (r : Option ValueType) (s : Stack) → Is s (results_of r) → fits r s ≡ true
fits_complete None (On [] Nothing) h = refl
fits_complete None (On [] Anything) h = refl
fits_complete None (On [] Something) h = absurd h
fits_complete None (On (t ∷ ts) floor) h = absurd h
fits_complete (Some k) (On [] Nothing) h = cc
fits_complete (Some k) (On [] Anything) h = refl
fits_complete (Some k) (On [] Something) h = refl
fits_complete (Some k) (On (t ∷ []) Nothing) h = subst (λ x. same_kind t x ≡ true) h.0 (same_refl t)
fits_complete (Some k) (On (t ∷ []) Anything) h = subst (λ x. same_kind t x ≡ true) h.0 (same_refl t)
fits_complete (Some k) (On (t ∷ []) Something) h = absurd h.1
fits_complete (Some k) (On (t ∷ u ∷ ts) floor) h = absurd h.1

drop_none : {A : Type 0} (n : ℕ) → drop {A = A} n [] ≡ []
drop_none zero = refl
drop_none (suc n) = refl

pub drop_more : {A : Type 0} (n : ℕ) (xs : List A) → drop n (drop 1 xs) ≡ drop (suc n) xs
drop_more n [] = drop_none n
drop_more n (x ∷ xs) = refl

-- What is left after the first of some operands.
rest_of : (k : ValueType) (takes ks : List ValueType) → StartsWith (k ∷ takes) ks → StartsWith takes (drop 1 ks)
rest_of k takes ks w = record { rest = w.rest; split = ap (drop 1) w.split }

first_of : (k : ValueType) (takes ks : List ValueType) → StartsWith (k ∷ takes) ks → StartsWith (k ∷ []) ks
first_of k takes ks w = record { rest = takes ++ w.rest; split = w.split }

module _ (asked : Rule → Type 0) (r : Rule) (is : asked r) where
  -- a missing operand is at fault
  operand : rule.Operand ≡ r → asked rule.Operand
  operand e = subst asked (sym e) is

  pub pop_follows : (k : ValueType) (s : Stack) (next : Stack → Verdict) (ks : List ValueType) → Is s ks → (asked rule.Operand → StartsWith (k ∷ []) ks) → pop k s next ≡ Breaks r
      → (s' : Stack) × (next s' ≡ Breaks r) × Is s' (drop 1 ks)
  pop_follows k (On [] Nothing) next ks h f e =
      let q : rule.Operand ≡ r = cc in
      let w = f (operand q) in
      let no : ks ≡ k ∷ w.rest = w.split in
      cc
  pop_follows k (On [] Anything) next ks h f e = (On [] Anything, e, tt)
  pop_follows k (On [] Something) next ks h f e = (On [] Anything, e, tt)
  pop_follows k (On (t ∷ ts) floor) next [] h f e = absurd h
  pop_follows k (On (t ∷ ts) floor) next (k' ∷ ks) h f e =
      elim (need_breaks rule.Operand (same_kind t k) (next (On ts floor)) r e) [
        | inl b ↦ (On ts floor, b.1, h.1)
        | inr b ↦
            let w = f (operand b.1) in
            let no : k' ∷ ks ≡ k ∷ w.rest = w.split in
            let top : k' ≡ k = cc in
            let yes : same_kind t k ≡ true = subst (λ x. same_kind t x ≡ true) (h.0 ∙ top) (same_refl t) in
            cc
      ]

  pub pop_all_follows : (takes : List ValueType) (s : Stack) (next : Stack → Verdict) (ks : List ValueType) → Is s ks → (asked rule.Operand → StartsWith takes ks) → pop_all takes s next ≡ Breaks r
      → (s' : Stack) × (next s' ≡ Breaks r) × Is s' (drop (length takes) ks)
  pop_all_follows [] s next ks h f e = (s, e, h)
  pop_all_follows (k ∷ takes) s next ks h f e =
      let a = pop_follows k s (λ s. pop_all takes s next) ks h (λ o. first_of k takes ks (f o)) e in
      let b = pop_all_follows takes a.0 next (drop 1 ks) a.2 (λ o. rest_of k takes ks (f o)) a.1 in
      (b.0, b.1, subst (λ l. Is b.0 l) (drop_more (length takes) ks) b.2)

  pub pop_any_follows : (k : ValueType) (s : Stack) (next : Stack → Verdict) (ks : List ValueType) → Is s ks → (asked rule.Operand → StartsWith (k ∷ []) ks) → pop_any s next ≡ Breaks r
      → (s' : Stack) × (next s' ≡ Breaks r) × Is s' (drop 1 ks)
  pop_any_follows k (On [] Nothing) next ks h f e =
      let q : rule.Operand ≡ r = cc in
      let w = f (operand q) in
      let no : ks ≡ k ∷ w.rest = w.split in
      cc
  pop_any_follows k (On [] Anything) next ks h f e = (On [] Anything, e, tt)
  pop_any_follows k (On [] Something) next ks h f e = (On [] Anything, e, tt)
  pop_any_follows k (On (t ∷ ts) floor) next [] h f e = absurd h
  pop_any_follows k (On (t ∷ ts) floor) next (k' ∷ ks) h f e = (On ts floor, e, h.1)

  pub choose_follows : (k : ValueType) (s : Stack) (next : Stack → Verdict) (ks : List ValueType) → Is s ks → IfSome (slice_get ks 0) (λ found. found ≡ k) → (asked rule.Operand → StartsWith (k ∷ k ∷ []) ks)
      → choose s next ≡ Breaks r → (s' : Stack) × (next s' ≡ Breaks r) × Is s' (k ∷ drop 2 ks)
  choose_follows k (On [] Nothing) next ks h first f e =
      let q : rule.Operand ≡ r = cc in
      let w = f (operand q) in
      let no : ks ≡ k ∷ k ∷ w.rest = w.split in
      cc
  choose_follows k (On [] Anything) next ks h first f e = (On [] Something, e, tt)
  choose_follows k (On [] Something) next ks h first f e = (On [] Something, e, tt)
  choose_follows k (On (t ∷ ts) floor) next [] h first f e = absurd h
  choose_follows k (On (t ∷ ts) floor) next (k' ∷ ks) h first f e =
      let same : t ≡ k = h.0 ∙ first in
      let a = pop_follows t (On ts floor) (λ s. next (push t s)) ks h.1 (λ o. subst (λ x. StartsWith (x ∷ []) ks) (sym same) (rest_of k (k ∷ []) (k' ∷ ks) (f o))) e in
      (push t a.0, a.1, push_is t k a.0 (drop 1 ks) same a.2)
