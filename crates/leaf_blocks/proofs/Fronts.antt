-- What stands at the front of a memory.
use Rattle.std.proofs.Common.{◌≡◌, ℕ, ◌+◌, ◌*◌, ◌≤◌, List, length, take, drop, sym, ap, ◌∙◌, arith}
use Rattle.std.proofs.lemmas.List.{take-append-drop}
use Rattle.heap_layout.specs.Words.{word_at}
use Rattle.heap_layout.proofs.Written.{word_larger}

pub word_front : (memory : List ℕ) (n i : ℕ) → 8 * i + 8 ≤ length (take n memory) → word_at memory i ≡ word_at (take n memory) i
word_front memory n i h = ap (λ m. word_at m i) (sym (take-append-drop n memory)) ∙ word_larger (take n memory) (drop n memory) i h

-- A word before the n-th byte of memories that agree up to there.
pub word_same : (memory other : List ℕ) (n i : ℕ) → take n memory ≡ take n other → 8 * i + 8 ≤ length (take n memory) → word_at memory i ≡ word_at other i
word_same memory other n i e h =
    let long : length (take n memory) ≡ length (take n other) = ap length e in
    word_front memory n i h ∙ ap (λ m. word_at m i) e ∙ sym (word_front other n i (omega (arith, h, long)))
