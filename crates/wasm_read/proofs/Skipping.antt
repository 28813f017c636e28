-- Custom sections are skipped exactly.
use Rattle.std.proofs.Common.{◌≡◌, ℕ, zero, suc, ◌+◌, ◌≤◌, List, [], ◌∷◌, ◌++◌, length, Result, Ok, Err, Option, Some, None, refl, sym, ap, ◌∙◌, subst, append_assoc, length-append, arith}
use Rattle.wasm_tree.specs.Spelling.{Exactly, Then, IsByteVector, IsSized, IsEach, IsMany}
use Rattle.wasm_tree.specs.Binary.{IsName, IsCustom}
use Rattle.wasm_read.specs.declared.fault.Fault.{Fault}
use Rattle.exact_reading.specs.Reading.{◌>>=◌}
use Rattle.wasm_read.specs.Fields.{byte_vector_at, name_at}
use Rattle.wasm_read.specs.Sections.{after_custom, skip_at, skipped, customs_at, customs}
use Rattle.wasm_read.proofs.Exact.{okay}
use Rattle.exact_reading.proofs.Exact.{ok_is, bind_ok, eq_is, if_ok}
use Rattle.wasm_read.proofs.Names.{vector_exact, name_exact}
use Rattle.wasm_read.proofs.Choices.{uncoded}

-- a custom section, and what comes after it
record Custom (bytes rest : List ℕ) : Type 0 where
  pub custom : List ℕ × List ℕ
  pub front : List ℕ
  pub split : bytes ≡ front ++ rest
  pub spells : IsCustom custom front

custom_sound : (bs rest : List ℕ) → after_custom bs ≡ okay rest → Custom (0x00 ∷ bs) rest
custom_sound bs rest e =
    let s = bind_ok (byte_vector_at bs) _ rest e in
    let t = bind_ok (name_at s.0.0) _ rest s.2 in
    let a = vector_exact.sound bs s.0 s.1 in
    let n = name_exact.sound s.0.0 t.0 t.1 in
    let tail : s.0.1 ≡ rest = ok_is s.0.1 rest t.2 in
    record {
      custom = (t.0.0, t.0.1);
      front = 0x00 ∷ a.front;
      split = ap (λ l. 0x00 ∷ l) (a.split ∙ ap (λ l. a.front ++ l) tail);
      spells = record {
        front = 0x00 ∷ [];
        back = a.front;
        whole = refl;
        first = refl;
        second = record { size = a.spells.front; contents = s.0.0; whole = a.spells.whole ∙ ap (λ l. a.spells.front ++ l) a.spells.second; count = a.spells.first; inner = record { front = n.front; back = t.0.1; whole = n.split; first = n.spells; second = refl } };
      };
    }

custom_complete : (c : List ℕ × List ℕ) (front rest : List ℕ) → IsSized (Then (IsName c.0) (Exactly c.1)) front → after_custom (front ++ rest) ≡ Ok rest
custom_complete c front rest h =
    let v : IsByteVector h.contents front = record { front = h.size; back = h.contents; whole = h.whole; first = h.count; second = refl } in
    let n : name_at h.contents ≡ Ok (c.0, h.inner.back) = ap name_at h.inner.whole ∙ name_exact.complete c.0 h.inner.front h.inner.back h.inner.first in
    ap (λ (s : Result (List ℕ × List ℕ) Fault). s >>= λ c. name_at c.0 >>= λ n. Ok c.1) (vector_exact.complete h.contents front rest v)
    ∙ ap (λ (s : Result (List ℕ × List ℕ) Fault). s >>= λ n. Ok rest) n

none_some : (rest : List ℕ) → okay None ≡ okay (Some rest) → ⊥
none_some rest e = cc

unwrapped : Result (Option (List ℕ)) Fault → List ℕ
unwrapped (Ok (Some l)) = l
unwrapped (Ok None) = []
unwrapped (Err f) = []

skip_sound : (bytes rest : List ℕ) → skip_at bytes ≡ okay (Some rest) → Custom bytes rest
unfolding unwrapped
skip_sound [] rest e = absurd (none_some rest e)
skip_sound (b ∷ bs) rest e =
    if_ok e (λ t h.
    let s = bind_ok (after_custom bs) _ (Some rest) h in
    let same : s.0 ≡ rest = ap (λ (r : Result (Option (List ℕ)) Fault). unwrapped r) s.2 in
    let c = custom_sound bs rest (s.1 ∙ ap (λ l. Ok l) same) in
    record { custom = c.custom; front = c.front; split = ap (λ x. x ∷ bs) (eq_is b 0x00 t) ∙ c.split; spells = c.spells })
    (λ _ h. absurd (none_some rest h))

skip_complete : (c : List ℕ × List ℕ) (front rest : List ℕ) → IsCustom c front → skip_at (front ++ rest) ≡ Ok (Some rest)
skip_complete c front rest h =
    let u = uncoded 0x00 (IsSized (Then (IsName c.0) (Exactly c.1))) front h in
    ap (λ l. skip_at (l ++ rest)) u.1 ∙ ap (λ (s : Result (List ℕ) Fault). s >>= λ x. Ok (Some x)) (custom_complete c u.0 rest u.2)

-- What the customs at the front leave.
pub record Skipped (bytes rest : List ℕ) : Type 0 where
  pub front : List ℕ
  pub split : bytes ≡ front ++ rest
  pub many : IsMany IsCustom front
  pub none : skip_at rest ≡ Ok None

no_bytes : (l : List ℕ) → length l ≤ 0 → l ≡ []
no_bytes [] h = refl
no_bytes (x ∷ l) h = absurd (omega arith)

custom_length : (c : List ℕ × List ℕ) (front : List ℕ) → IsCustom c front → 1 ≤ length front
custom_length c front h =
    let u = uncoded 0x00 (IsSized (Then (IsName c.0) (Exactly c.1))) front h in
    omega (arith, ap length u.1)

customs_found : (n : ℕ) (bytes rest : List ℕ) → length bytes ≤ n → customs_at n bytes ≡ okay rest → Skipped bytes rest
customs_found zero bytes rest le e =
    let n : bytes ≡ [] = no_bytes bytes le in
    let same : bytes ≡ rest = ok_is bytes rest e in
    let z : rest ≡ [] = sym same ∙ n in
    record { front = []; split = same; many = ([], refl); none = ap skip_at z }
customs_found (suc n) bytes rest le e =
    let s = bind_ok (skip_at bytes) _ rest e in
    by s.0 s.1 s.2 (λ r less. customs_found n r rest less)
  where
    by : (o : Option (List ℕ)) → skip_at bytes ≡ Ok o → skipped (customs_at n) bytes o ≡ Ok rest → ((r : List ℕ) → length r ≤ n → customs_at n r ≡ okay rest → Skipped r rest) → Skipped bytes rest
    by None t h ih = let same : bytes ≡ rest = ok_is bytes rest h in record { front = []; split = same; many = ([], refl); none = ap skip_at (sym same) ∙ t }
    by (Some r) t h ih =
        let c = skip_sound bytes r t in
        let l = custom_length c.custom c.front c.spells in
        let i = ih r (omega (arith, le, l, ap length c.split, length-append c.front r)) h in
        record {
          front = c.front ++ i.front;
          split = c.split ∙ ap (λ l. c.front ++ l) i.split ∙ sym (append_assoc c.front i.front rest);
          many = (c.custom ∷ i.many.0, record { front = c.front; back = i.front; whole = refl; first = c.spells; second = i.many.1 });
          none = i.none;
        }

customs_pass : (xs : List (List ℕ × List ℕ)) (n : ℕ) (front rest : List ℕ) → IsEach IsCustom xs front → skip_at rest ≡ Ok None → length front + length rest ≤ n → customs_at n (front ++ rest) ≡ Ok rest
customs_pass [] zero front rest h none le = ap (λ l. okay (l ++ rest)) h
customs_pass [] (suc n) front rest h none le =
    ap (λ l. customs_at (suc n) (l ++ rest)) h ∙ ap (λ (s : Result (Option (List ℕ)) Fault). s >>= λ o. skipped (customs_at n) rest o) none
customs_pass (x ∷ xs) zero front rest h none le =
    let l = custom_length x h.front h.first in
    absurd (omega (arith, le, l, ap length h.whole, length-append h.front h.back))
customs_pass (x ∷ xs) (suc n) front rest h none le =
    let l = custom_length x h.front h.first in
    let e : front ++ rest ≡ h.front ++ (h.back ++ rest) = ap (λ l. l ++ rest) h.whole ∙ append_assoc h.front h.back rest in
    let s : skip_at (front ++ rest) ≡ Ok (Some (h.back ++ rest)) = ap skip_at e ∙ skip_complete x h.front (h.back ++ rest) h.first in
    ap (λ (s : Result (Option (List ℕ)) Fault). s >>= λ o. skipped (customs_at n) (front ++ rest) o) s
    ∙ customs_pass xs n h.back rest h.second none (omega (arith, le, l, ap length h.whole, length-append h.front h.back))

pub customs_sound : (bytes rest : List ℕ) → customs bytes ≡ okay rest → Skipped bytes rest
unfolding customs
customs_sound bytes rest e = customs_found (length bytes) bytes rest (omega arith) e

pub customs_complete : (front rest : List ℕ) → IsMany IsCustom front → skip_at rest ≡ Ok None → customs (front ++ rest) ≡ Ok rest
unfolding customs
customs_complete front rest m none = customs_pass m.0 (length (front ++ rest)) front rest m.1 none (omega (arith, length-append front rest))

-- Customs behind customs.
pub many_append : (front back : List ℕ) → IsMany IsCustom front → IsMany IsCustom back → IsMany IsCustom (front ++ back)
many_append front back m k = go m.0 front m.1
  where
    go : (xs : List (List ℕ × List ℕ)) (front : List ℕ) → IsEach IsCustom xs front → IsMany IsCustom (front ++ back)
    go [] front h = subst (λ l. IsMany IsCustom l) (ap (λ l. l ++ back) (sym h)) k
    go (x ∷ xs) front h =
        let r = go xs h.back h.second in
        (x ∷ r.0, record { front = h.front; back = h.back ++ back; whole = ap (λ l. l ++ back) h.whole ∙ append_assoc h.front h.back back; first = h.first; second = r.1 })
