-- Tokens in a text are read in one way.
use Rattle.std.proofs.Common.{◌≡◌, ℕ, ◌+◌, ◌≤◌, List, [], ◌∷◌, ◌++◌, length, true, false, refl, ap, sym, ◌∙◌, subst, arith, length-append}
use Rattle.query_source.specs.Tokens.{begins_word, Next, Reads}

-- a token takes its bytes
pub next_takes : (t s r : List ℕ) → Next t s r → length t + length r ≤ length s
next_takes t s r n =
    let whole : length s ≡ length n.blanks + (length t + length r) = ap length n.whole ∙ length-append n.blanks (t ++ r) ∙ ap (λ k. length n.blanks + k) (length-append t r) in
    omega arith

begins_append : (t r : List ℕ) → begins_word t ≡ true → begins_word (t ++ r) ≡ true
begins_append [] r h = absurd (cc)
begins_append (b ∷ bs) r h = h

some_blank : (blanks t s r : List ℕ) → s ≡ blanks ++ (t ++ r) → begins_word t ≡ true → begins_word s ≡ false → 1 ≤ length blanks
some_blank [] t s r e word apart = let word' : begins_word (t ++ r) ≡ true = begins_append t r word in absurd (let e' : begins_word s ≡ begins_word (t ++ r) = ap begins_word e in cc)
some_blank (b ∷ bs) t s r e word apart = omega arith

-- and a word takes a blank more where it stands behind another one
pub word_takes : (t s r : List ℕ) → begins_word t ≡ true → begins_word s ≡ false → Next t s r → 1 + length t + length r ≤ length s
word_takes t s r word apart n =
    let blank : 1 ≤ length n.blanks = some_blank n.blanks t s r n.whole word apart in
    let whole : length s ≡ length n.blanks + (length t + length r) = ap length n.whole ∙ length-append n.blanks (t ++ r) ∙ ap (λ k. length n.blanks + k) (length-append t r) in
    omega arith

-- tokens one after another
pub reads_join : (ts us : List (List ℕ)) (s mid rest : List ℕ) → Reads ts s mid → Reads us mid rest → Reads (ts ++ us) s rest
reads_join [] us s mid rest e r = subst (λ m. Reads us m rest) (sym e) r
reads_join (t ∷ ts) us s mid rest h r = (h.0, h.1, reads_join ts us h.0 mid rest h.2 r)

pub reads_split : (ts us : List (List ℕ)) (s rest : List ℕ) → Reads (ts ++ us) s rest → (mid : List ℕ) × Reads ts s mid × Reads us mid rest
reads_split [] us s rest r = (s, refl, r)
reads_split (t ∷ ts) us s rest r =
    let more : (mid : List ℕ) × Reads ts r.0 mid × Reads us mid rest = reads_split ts us r.0 rest r.2 in
    (more.0, (r.0, r.1, more.1), more.2)
