-- Numbers of so many bytes are read exactly.
use Rattle.std.proofs.Common.{◌≡◌, ℕ, zero, suc, ◌+◌, ◌-◌, ◌*◌, ◌/◌, ◌%◌, ◌^◌, ◌≤◌, ◌<◌, cond, List, [], ◌∷◌, ◌++◌, Result, Ok, Err, refl, sym, ap, ◌∙◌, subst, arith}
use Rattle.std.proofs.lemmas.Bool.{lt-ltb, ltb-true}
use Rattle.std.proofs.lemmas.Nat.{mod-mul-add, div-mul-add, div-add-mod'}
use Rattle.mo_types.specs.Spelling.{low_first}
use Rattle.candid_header.specs.declared.fault.Fault.{Fault}
use Rattle.candid_header.specs.declared.fault.Fault.TheVariants.{BadValue}
use Rattle.exact_reading.specs.Reading.{◌>>=◌, made}
use Rattle.exact_reading.proofs.Exact.{Front, Exact, bind_ok, if_ok, not_ok, same_pair}
use Rattle.candid_header.proofs.Exact.{okay}
use Rattle.candid_read.specs.Parts.{low_at}

-- 256 to the power of so few fits in seven bytes.
pub room : (w : ℕ) → w ≤ 7 → 256 ^ w ≤ 72057594037927936
room zero h = omega arith
room (suc zero) h = omega arith
room (suc (suc zero)) h = omega arith
room (suc (suc (suc zero))) h = omega arith
room (suc (suc (suc (suc zero)))) h = omega arith
room (suc (suc (suc (suc (suc zero))))) h = omega arith
room (suc (suc (suc (suc (suc (suc zero)))))) h = omega arith
room (suc (suc (suc (suc (suc (suc (suc zero))))))) h = omega arith
room (suc (suc (suc (suc (suc (suc (suc (suc w)))))))) h = absurd (omega (arith, h))

pub grows : (w high b : ℕ) → 0 < w → high < 256 ^ (w - 1) → b < 256 → high * 256 + b < 256 ^ w
grows zero high b h k l = absurd (omega (arith, h))
grows (suc w) high b h k l = let d : suc w - 1 ≡ w = omega arith in let e : high < 256 ^ w = subst (λ x. high < 256 ^ x) d k in omega (arith, e, l)

-- The fault of the higher bytes.
pub low_err : (w b : ℕ) (bs : List ℕ) (f : Fault) → 0 < w → b < 256 → low_at (w - 1) bs ≡ Err f → low_at w (b ∷ bs) ≡ Err f
low_err zero b bs f h l e = absurd (omega (arith, h))
low_err (suc w) b bs f h l e =
    let d : suc w - 1 ≡ w = omega arith in
    let e : low_at w bs ≡ Err f = subst (λ x. low_at x bs ≡ Err f) d e in
    ap (λ t. cond {A = Result (ℕ × List ℕ) Fault} t (made (λ high. high * 256 + b) (low_at w) bs) (Err BadValue)) (lt-ltb b 256 l) ∙ ap (λ (s : Result (ℕ × List ℕ) Fault). s >>= λ x. Ok (x.0 * 256 + b, x.1)) e

-- a number below 256^w, the lowest byte first
abbrev pub IsLow : ℕ → ℕ → List ℕ → Type 0
IsLow w n bytes = (n < 256 ^ w) × (bytes ≡ low_first w n)

low_sound : (w : ℕ) (bytes : List ℕ) (r : ℕ × List ℕ) → low_at w bytes ≡ Ok r → Front (IsLow w) bytes r.0 r.1
low_sound zero bytes r e = same_pair (IsLow zero) bytes (0, bytes) r e (record { front = []; split = refl; spells = (omega arith, refl) })
low_sound (suc w) [] r e = absurd (not_ok e)
low_sound (suc w) (b ∷ bs) r e =
    if_ok e
    (λ t h.
    let s = bind_ok (low_at w bs) _ r h in
    let a = low_sound w bs s.0 s.1 in
    let lt : b < 256 = ltb-true b 256 t in
    same_pair (IsLow (suc w)) (b ∷ bs) (s.0.0 * 256 + b, s.0.1) r s.2 (record {
      front = b ∷ a.front;
      split = ap (λ l. b ∷ l) a.split;
      spells = (
        omega (arith, a.spells.0, lt),
        ap (λ l. b ∷ l) a.spells.1 ∙ ap (λ k. k ∷ low_first w s.0.0) (sym (mod-mul-add s.0.0 256 b lt)) ∙ ap (λ k. (s.0.0 * 256 + b) % 256 ∷ low_first w k) (sym (div-mul-add s.0.0 256 b lt)),
      );
    }))
    (λ t h. absurd (not_ok h))

low_complete : (w n : ℕ) (front rest : List ℕ) → IsLow w n front → low_at w (front ++ rest) ≡ Ok (n, rest)
low_complete zero n front rest h = let z : 0 ≡ n = omega (arith, h.0) in ap (λ l. okay (0, l ++ rest)) h.1 ∙ ap (λ k. okay (k, rest)) z
low_complete (suc w) n front rest h =
    let d = div-add-mod' n 256 in
    let lt : n % 256 < 256 = omega arith in
    let small : n / 256 < 256 ^ w = omega (arith, h.0, d) in
    let i = low_complete w (n / 256) (low_first w (n / 256)) rest (small, refl) in
    ap (λ l. low_at (suc w) (l ++ rest)) h.1
    ∙ ap (λ t. cond {A = Result (ℕ × List ℕ) Fault} t (made (λ high. high * 256 + n % 256) (low_at w) (low_first w (n / 256) ++ rest)) (Err BadValue)) (lt-ltb (n % 256) 256 lt)
    ∙ ap (λ (s : Result (ℕ × List ℕ) Fault). s >>= λ x. Ok (x.0 * 256 + n % 256, x.1)) i
    ∙ ap (λ k. okay (k, rest)) d

pub low_exact : (w : ℕ) → Exact (IsLow w) (low_at w)
low_exact w = record { sound = low_sound w; complete = λ n front rest h. low_complete w n front rest h }
