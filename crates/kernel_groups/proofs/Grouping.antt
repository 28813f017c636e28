-- Indexes in groups, one index after the other.
use Rattle.std.proofs.Common.{◌≡◌, ◌∙◌, ℕ, suc, ◌+◌, ◌<◌, ◌≤◌, Bool, true, false, List, [], ◌∷◌, ◌++◌, cond, length, take, get_or, refl, sym, ap, arith, nat_eq}
use Rattle.std.proofs.lemmas.List.{length-take-le, take_more}
use Rattle.std.proofs.Math.Seq.{take-append_seam}
use Rattle.kernel_groups.specs.Indexes.{indexes_from}

abbrev one : ℕ → ℕ → ℕ → List ℕ
one n p k = cond (nat_eq p n) (k ∷ []) []

before_all : (b : Bool) (k : ℕ) (xs ys : List ℕ) → cond b (k ∷ (xs ++ ys)) (xs ++ ys) ≡ cond b (k ∷ xs) xs ++ ys
before_all true k xs ys = refl
before_all false k xs ys = refl

last_one : (n k p : ℕ) (ps : List ℕ) → indexes_from n k (ps ++ p ∷ []) ≡ indexes_from n k ps ++ one n p (k + length ps)
last_one n k p [] = let e : k ≡ k + 0 = omega arith in ap (λ (j : ℕ). one n p j) e
last_one n k p (q ∷ ps) =
    let e : suc k + length ps ≡ k + length (q ∷ ps) = omega arith in
    ap (λ (l : List ℕ). cond (nat_eq q n) (k ∷ l) l) (last_one n (suc k) p ps ∙ ap (λ (j : ℕ). indexes_from n (suc k) ps ++ one n p j) e)
    ∙ before_all (nat_eq q n) k (indexes_from n (suc k) ps) (one n p (k + length (q ∷ ps)))

pub grown : (ps : List ℕ) (i n : ℕ) (group more : List ℕ) → i < length ps → group ≡ indexes_from n 0 (take i ps) → more ≡ group ++ one n (get_or ps i 0) i → more ≡ indexes_from n 0 (take (i + 1) ps)
grown ps i n group more l h g =
    let m : i ≤ length ps = omega (arith, l) in
    let e : 0 + length (take i ps) ≡ i = omega (arith, length-take-le i ps m) in
    g ∙ (ap (λ (z : List ℕ). z ++ one n (get_or ps i 0) i) h ∙ (ap (λ (j : ℕ). indexes_from n 0 (take i ps) ++ one n (get_or ps i 0) j) (sym e)
    ∙ (sym (last_one n 0 (get_or ps i 0) (take i ps)) ∙ ap (indexes_from n 0) (sym (take_more ps i 0 l)))))

pub front : {A : Type 0} (n : ℕ) (xs ys : List A) → length xs ≡ n → take n (xs ++ ys) ≡ xs
front {A} n xs ys e = ap (λ (k : ℕ). take k (xs ++ ys)) (sym e) ∙ take-append_seam xs ys
