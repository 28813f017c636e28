-- Reading one after the other, as loops do.
use Rattle.std.proofs.Common.{◌≡◌, ℕ, suc, ◌-◌, ◌+◌, ◌≤◌, ◌<◌, List, [], ◌∷◌, ◌++◌, Result, Ok, Err, refl, sym, ap, ◌∙◌, append_assoc, arith}
use Rattle.std.proofs.lemmas.List.{append-nil}
use Rattle.exact_reading.specs.declared.stop.Stop.{Stop}
use Rattle.exact_reading.specs.declared.stop.Stop.TheVariants as stop
use Rattle.exact_reading.specs.Reading.{◌>>=◌, Reading, Fails, many}

-- what was read before, and what is still read
abbrev pub with_front : {F A : Type 0} → List A → Result (List A × List ℕ) F → Result (List A × List ℕ) F
with_front front read = read >>= λ x. Ok (front ++ x.0, x.1)

pub regroup : {F A : Type 0} (front : List A) (a : A) (read : Result (List A × List ℕ) F) → with_front front (read >>= λ y. Ok (a ∷ y.0, y.1)) ≡ with_front (front ++ a ∷ []) read
regroup {F} {A} front a (Ok x) = ap (λ (os : List A). Ok (os, x.1)) (sym (append_assoc front (a ∷ []) x.0))
regroup front a (Err f) = refl

-- nothing was read before
pub unframed : {F A : Type 0} (read : Result (List A × List ℕ) F) → with_front [] read ≡ read
unframed (Ok x) = refl
unframed (Err f) = refl

module _ {F S A : Type 0} (item : S → Reading F A) (after : S → A → S) where
  pub begins : (n : ℕ) (s : S) (bytes : List ℕ) → with_front [] (many item after (n - 0) s bytes) ≡ many item after n s bytes
  begins n s bytes = let e : n - 0 ≡ n = omega arith in rw e (unframed (many item after n s bytes))

  pub goes_on : (front more : List A) (count i : ℕ) (s t : S) (bytes rest : List ℕ) (a : A) (total : Result (List A × List ℕ) F) → i < count → item s bytes ≡ Ok (a, rest) → more ≡ front ++ a ∷ [] → t ≡ after s a
      → with_front front (many item after (count - i) s bytes) ≡ total → with_front more (many item after (count - (i + 1)) t rest) ≡ total
  goes_on front more count i s t bytes rest a total lt h m st so_far =
      let k : count - i ≡ suc (count - (i + 1)) = omega arith in
      let one : with_front front (many item after (count - i) s bytes) ≡ with_front (front ++ a ∷ []) (many item after (count - (i + 1)) (after s a) rest) = rw (k, h) (regroup front a (many item after (count - (i + 1)) (after s a) rest)) in
      rw (m, st) (sym one ∙ so_far)

  pub ends : (e : Stop F) (front : List A) (count i : ℕ) (s : S) (bytes : List ℕ) (total : Result (List A × List ℕ) F) → i < count → Fails e (item s bytes) → with_front front (many item after (count - i) s bytes) ≡ total → Fails e total
  ends stop.Memory front count i s bytes total lt h so_far = tt
  ends (stop.Fault f) front count i s bytes total lt h so_far =
      let k : count - i ≡ suc (count - (i + 1)) = omega arith in
      let one : with_front front (many item after (count - i) s bytes) ≡ Err f = rw (k, h) refl in
      sym so_far ∙ one

  pub is_done : (front : List A) (count i : ℕ) (s : S) (bytes : List ℕ) (total : Result (List A × List ℕ) F) → count ≤ i → with_front front (many item after (count - i) s bytes) ≡ total → total ≡ Ok (front, bytes)
  is_done front count i s bytes total le so_far =
      let k : count - i ≡ 0 = omega arith in
      let one : with_front front (many item after (count - i) s bytes) ≡ Ok (front, bytes) = rw k (ap (λ (xs : List A). Ok (xs, bytes)) (append-nil front)) in
      sym so_far ∙ one
