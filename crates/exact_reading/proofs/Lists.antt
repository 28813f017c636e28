-- Strings of bytes and lists of items are read exactly.
use Rattle.std.proofs.Common.{◌≡◌, ℕ, zero, suc, ◌≤◌, true, false, cond, List, [], ◌∷◌, ◌++◌, length, take, drop, Result, Ok, Err, ◌⊎◌, inl, inr, refl, sym, ap, ◌∙◌, subst, length-append, arith}
use Rattle.std.specs.Prelude.{nat_lt}
use Rattle.std.proofs.lemmas.Bool.{le-ltb, ltb-false}
use Rattle.std.proofs.Math.Seq.{drop-append_seam, take-append_seam}
use Rattle.std.proofs.Common.{take-append-drop, length-take-le}
use Rattle.exact_reading.specs.Reading.{◌>>=◌, Reading, many, list_at, u32_at, split_at, string_at}
use Rattle.exact_reading.proofs.Exact.{Front, Exact, Joins, okay, refused, refused_ok, ok_is, bind_ok, chosen, same_pair, joined, parted}
use Rattle.exact_reading.proofs.Numbers.{IsUnsigned, unsigned_exact}

module _ {F : Type 0} (short : F) where
  split_sound : (n : ℕ) (bytes : List ℕ) (r : List ℕ × List ℕ) → split_at short n bytes ≡ Ok r → (bytes ≡ r.0 ++ r.1) × (length r.0 ≡ n)
  split_sound n bytes r e = by (chosen (nat_lt (length bytes) n) (refused short) (okay (take n bytes, drop n bytes)) (okay r) e)
    where
      by : ((nat_lt (length bytes) n ≡ true) × (refused short ≡ okay r)) ⊎ ((nat_lt (length bytes) n ≡ false) × (okay {F = F} (take n bytes, drop n bytes) ≡ okay r)) → (bytes ≡ r.0 ++ r.1) × (length r.0 ≡ n)
      by (inl h) = absurd (refused_ok short r h.1)
      by (inr h) = subst (λ z. (bytes ≡ z.0 ++ z.1) × (length z.0 ≡ n)) (ok_is _ r h.1) (sym (take-append-drop n bytes), length-take-le n bytes (ltb-false (length bytes) n h.0))

  split_complete : (front rest : List ℕ) → split_at short (length front) (front ++ rest) ≡ Ok (front, rest)
  split_complete front rest =
      let le : length front ≤ length (front ++ rest) = omega (arith, length-append front rest) in
      ap (λ b. cond b (Err short) (Ok (take (length front) (front ++ rest), drop (length front) (front ++ rest)))) (le-ltb (length (front ++ rest)) (length front) le)
      ∙ ap (λ t. Ok (t, drop (length front) (front ++ rest))) (take-append_seam front rest)
      ∙ ap (λ d. Ok (front, d)) (drop-append_seam front rest)

module _ {F : Type 0} (short wide : F) where
  -- Bytes behind their number.
  pub string_exact : (S : List ℕ → List ℕ → Type 0) → ((x : List ℕ) → Joins (IsUnsigned 32 (length x)) (λ b. b ≡ x) (S x)) → Exact S (string_at short wide)
  unfolding string_at
  string_exact S joins = record {
    sound = λ bytes r e.
        let s = bind_ok (u32_at short wide bytes) _ r e in
        let t = split_sound short s.0.0 s.0.1 r s.2 in
        let a = (unsigned_exact short wide 32).sound bytes s.0 s.1 in
        let j = joined (joins r.0) bytes a.front s.0.1 r.0 r.1 a.split t.0 (subst (λ n. IsUnsigned 32 n a.front) (sym t.1) a.spells) refl in
        record { front = a.front ++ r.0; split = j.0; spells = j.1 };
    complete = λ x front rest h.
        let k = (joins x).parts front h in
        let e : front ++ rest ≡ k.0 ++ (x ++ rest) = parted front k.0 k.1 rest k.2 ∙ ap (λ l. k.0 ++ (l ++ rest)) k.4 in
        let a : u32_at short wide (front ++ rest) ≡ Ok (length x, x ++ rest) = ap (u32_at short wide) e ∙ (unsigned_exact short wide 32).complete (length x) k.0 (x ++ rest) k.3 in
        ap (λ (s : Result (ℕ × List ℕ) F). s >>= λ n. split_at short n.0 n.1) a ∙ split_complete short x rest;
  }

-- Each item keeps a rule in the light of those before it.
abbrev pub Linked : {S A : Type 0} → (S → A → Type 0) → (S → A → S) → S → List A → Type 0
Linked R after s [] = Unit {0}
Linked R after s (x ∷ xs) = R s x × Linked R after (after s x) xs

-- How items are spelled one after the other.
pub record Each {A : Type 0} (P : A → List ℕ → Type 0) (E : List A → List ℕ → Type 0) : Type 0 where
  pub none : E [] []
  pub nothing : (l : List ℕ) → E [] l → l ≡ []
  pub some : (x : A) (xs : List A) → Joins (P x) (E xs) (E (x ∷ xs))

module _ {F S A : Type 0} (short wide : F) (item : S → Reading F A) (after : S → A → S) (P : A → List ℕ → Type 0) (E : List A → List ℕ → Type 0) (R : S → A → Type 0) (each : Each P E) (ep : (s : S) → Exact (λ a b. P a b × R s a) (item s)) where
  abbrev IsItems : ℕ → S → List A → List ℕ → Type 0
  IsItems n s xs l = E xs l × Linked R after s xs × (length xs ≡ n)

  pub many_sound : (n : ℕ) (s : S) (bytes : List ℕ) (r : List A × List ℕ) → many item after n s bytes ≡ okay r → Front (λ xs l. E xs l × Linked R after s xs × (length xs ≡ n)) bytes r.0 r.1
  many_sound zero s bytes r e = same_pair (IsItems zero s) bytes ([], bytes) r e (record { front = []; split = refl; spells = (each.none, tt, refl) })
  many_sound (suc n) s bytes r e =
      let x = bind_ok (item s bytes) _ r e in
      let t = bind_ok (many item after n (after s x.0.0) x.0.1) _ r x.2 in
      let a = (ep s).sound bytes x.0 x.1 in
      let b = many_sound n (after s x.0.0) x.0.1 t.0 t.1 in
      let j = joined (each.some x.0.0 t.0.0) bytes a.front x.0.1 b.front t.0.1 a.split b.split a.spells.0 b.spells.0 in
      same_pair (IsItems (suc n) s) bytes (x.0.0 ∷ t.0.0, t.0.1) r t.2 (record { front = a.front ++ b.front; split = j.0; spells = (j.1, (a.spells.1, b.spells.1), ap suc b.spells.2) })

  pub many_complete : (xs : List A) (s : S) (front rest : List ℕ) → E xs front → Linked R after s xs → many item after (length xs) s (front ++ rest) ≡ Ok (xs, rest)
  many_complete [] s front rest h k = ap (λ l. Ok ([], l ++ rest)) (each.nothing front h)
  many_complete (x ∷ xs) s front rest h k =
      let p = (each.some x xs).parts front h in
      let a : item s (front ++ rest) ≡ Ok (x, p.1 ++ rest) = ap (item s) (parted front p.0 p.1 rest p.2) ∙ (ep s).complete x p.0 (p.1 ++ rest) (p.3, k.0) in
      ap (λ (t : Result (A × List ℕ) F). t >>= λ x. many item after (length xs) (after s x.0) x.1 >>= λ xs. Ok (x.0 ∷ xs.0, xs.1)) a
      ∙ ap (λ (t : Result (List A × List ℕ) F). t >>= λ xs. Ok (x ∷ xs.0, xs.1)) (many_complete xs (after s x) p.1 rest p.4 k.1)

  pub list_exact : (L : List A → List ℕ → Type 0) (s : S) → ((xs : List A) → Joins (IsUnsigned 32 (length xs)) (E xs) (L xs)) → Exact (λ xs b. L xs b × Linked R after s xs) (list_at short wide item after s)
  list_exact L s joins = record {
    sound = λ bytes r e.
        let n = bind_ok (u32_at short wide bytes) _ r e in
        let a = (unsigned_exact short wide 32).sound bytes n.0 n.1 in
        let b = many_sound n.0.0 s n.0.1 r n.2 in
        let j = joined (joins r.0) bytes a.front n.0.1 b.front r.1 a.split b.split (subst (λ n. IsUnsigned 32 n a.front) (sym b.spells.2) a.spells) b.spells.0 in
        record { front = a.front ++ b.front; split = j.0; spells = (j.1, b.spells.1) };
    complete = λ x front rest k.
        let p = (joins x).parts front k.0 in
        let a : u32_at short wide (front ++ rest) ≡ Ok (length x, p.1 ++ rest) = ap (u32_at short wide) (parted front p.0 p.1 rest p.2) ∙ (unsigned_exact short wide 32).complete (length x) p.0 (p.1 ++ rest) p.3 in
        ap (λ (t : Result (ℕ × List ℕ) F). t >>= λ n. many item after n.0 s n.1) a ∙ many_complete x s p.1 rest p.4 k.1;
  }
