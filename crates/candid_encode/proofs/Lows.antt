-- Numbers as bytes.
use Rattle.std.proofs.Common.{◌≡◌, ℕ, zero, suc, ◌-◌, ◌<◌, ◌/◌, ◌%◌, List, [], ◌∷◌, ◌++◌, refl, sym, ap, ◌∙◌, arith, append_assoc}
use Rattle.std.proofs.lemmas.List.{append-nil}
use Rattle.mo_types.specs.Spelling.{low_first}
use Rattle.candid_write.specs.Appends.{Appends}

pub low_none : (w n : ℕ) (old : List ℕ) → w ≡ 0 → Appends (λ b. b ≡ low_first w n) old old
low_none w n old e = record { bytes = []; whole = sym (append-nil old); fits = sym (ap (λ k. low_first k n) e) }

low_first_more : (w n : ℕ) → 0 < w → low_first w n ≡ n % 256 ∷ low_first (w - 1) (n / 256)
low_first_more zero n h = absurd (omega arith)
low_first_more (suc w) n h = let e : suc w - 1 ≡ w = omega arith in rw e refl

pub low_more : (w n : ℕ) (old mid new : List ℕ) → 0 < w → mid ≡ old ++ n % 256 ∷ [] → Appends (λ b. b ≡ low_first (w - 1) (n / 256)) mid new → Appends (λ b. b ≡ low_first w n) old new
low_more w n old mid new h e a = record {
  bytes = n % 256 ∷ a.bytes;
  whole = a.whole ∙ ap (λ l. l ++ a.bytes) e ∙ append_assoc old (n % 256 ∷ []) a.bytes;
  fits = ap (λ l. n % 256 ∷ l) a.fits ∙ sym (low_first_more w n h);
}
