-- The longest front of a source that is UTF-8, and the line of a place.
use Rattle.std.proofs.Common.{◌≡◌, ℕ, zero, suc, ◌+◌, ◌-◌, ◌<◌, ◌≤◌, List, length, take, drop, get_or, sym, ap, ◌∙◌, subst, arith, ⊎_elim, length-drop, take-append-drop}
use Rattle.std.specs.Str.{IsUtf8, IsValidUpTo}
use Rattle.std.specs.List.Sorted.{IsStrictlyIncreasing}
use Rattle.std.proofs.lemmas.Str.{IsUtf8-append, IsUtf8-from_ascii, IsUtf8-drop, IsCharBoundary-from_take}
use Rattle.std.proofs.lemmas.List.{length-take-le, get_or-take, drop-take, get_or_past, take-take, length-take}
use Rattle.std.proofs.Math.Seq.{take-add, take-length}
use Rattle.std.proofs.str.Laws.{order}
use Rattle.mo_lexer.specs.Faults.{IsUtf8Front}

module _ (source : List ℕ) (ascii : ℕ) (within : ascii ≤ length source) (below : (k : ℕ) → k < ascii → get_or source k 0 < 128) where
  ascii_front : IsUtf8 (take ascii source)
  ascii_front = IsUtf8-from_ascii (take ascii source) (λ i. ⊎_elim
      (λ inside. subst (λ b. b < 128) (sym (get_or-take ascii source i 0 inside)) (below i inside))
      (λ past. subst (λ b. b < 128) (sym (get_or_past (take ascii source) i 0 (let size = length-take-le ascii source within in omega arith))) (omega arith))
      (order i ascii))

  pub whole_is_utf8 : IsUtf8 (drop ascii source) → IsUtf8 (take (length source) source)
  whole_is_utf8 rest = subst IsUtf8 (take-append-drop ascii source ∙ sym (take-length source)) (IsUtf8-append (take ascii source) (drop ascii source) ascii_front rest)

  pub part_is_utf8 : (n : ℕ) → IsValidUpTo (drop ascii source) n → IsUtf8 (take (ascii + n) source)
  part_is_utf8 n valid = subst IsUtf8 (sym (take-add ascii n source)) (IsUtf8-append (take ascii source) (take n (drop ascii source)) ascii_front valid.front)

  no_longer : (n m : ℕ) → IsValidUpTo (drop ascii source) n → ascii + n < m → m ≤ length source → IsUtf8 (take m source) → ⊥
  no_longer n m valid more fits utf8 =
      let size : length (take m source) ≡ m = length-take-le m source fits in
      let inside : ascii ≤ length (take m source) = omega arith in
      let split : ascii + (m - ascii) ≡ m = omega arith in
      let front : take ascii (take m source) ≡ take ascii source = take-take ascii m source (omega arith) in
      let boundary = IsCharBoundary-from_take (take m source) ascii utf8 inside (subst IsUtf8 (sym front) ascii_front) in
      let rest : IsUtf8 (drop ascii (take m source)) = IsUtf8-drop (take m source) ascii utf8 boundary in
      let same : drop ascii (take m source) ≡ take (m - ascii) (drop ascii source) = ap (λ k. drop ascii (take k source)) (sym split) ∙ drop-take ascii (m - ascii) source in
      valid.longest (m - ascii) (omega arith) (subst IsUtf8 same rest)

  pub whole_front : (front : List ℕ) → front ≡ take (length source) source → IsUtf8 (drop ascii source) → IsUtf8Front source front
  whole_front front e rest =
      let size : length front ≡ length source = ap length (e ∙ take-length source) in
      record { begins = e ∙ ap (λ k. take k source) (sym size); utf8 = subst IsUtf8 (sym e) (whole_is_utf8 rest); longest = λ n more fits utf8. omega arith }

  pub part_front : (front : List ℕ) (n : ℕ) → front ≡ take (ascii + n) source → IsValidUpTo (drop ascii source) n → IsUtf8Front source front
  part_front front n e valid =
      let short : ascii + n ≤ length source = omega (arith, valid.short, length-drop ascii source) in
      let size : length front ≡ ascii + n = ap length e ∙ length-take-le (ascii + n) source short in
      record {
        begins = e ∙ ap (λ k. take k source) (sym size);
        utf8 = subst IsUtf8 (sym e) (part_is_utf8 n valid);
        longest = λ m more fits utf8. no_longer n m valid (omega arith) fits utf8;
      }

pub front_within : (source front : List ℕ) → IsUtf8Front source front → length front ≤ length source
front_within source front x = omega (arith, ap length x.begins, length-take (length front) source)

pub same_front : (source front : List ℕ) → IsUtf8Front source front → length front ≡ length source → front ≡ source
same_front source front x e = x.begins ∙ ap (λ k. take k source) e ∙ take-length source

pub whole_is_front : (source : List ℕ) → IsUtf8 source → IsUtf8Front source source
whole_is_front source utf8 = record { begins = sym (take-length source); utf8 = utf8; longest = λ n more fits other. omega arith }

-- two longest fronts are one
pub one_front : (source a b : List ℕ) → IsUtf8Front source a → IsUtf8Front source b → a ≡ b
one_front source a b x y = ⊎_elim
    (λ less. absurd (x.longest (length b) less (front_within source b y) (subst IsUtf8 y.begins y.utf8)))
    (λ more. ⊎_elim
    (λ less. absurd (y.longest (length a) less (front_within source a x) (subst IsUtf8 x.begins x.utf8)))
    (λ least. let same : length a ≡ length b = omega arith in x.begins ∙ ap (λ k. take k source) same ∙ sym y.begins)
    (order (length b) (length a)))
    (order (length a) (length b))

-- ---- lines

pub rises : (starts : List ℕ) → IsStrictlyIncreasing starts → (k : ℕ) → k < length starts → k ≤ get_or starts k 0
rises starts up zero h = omega arith
rises starts up (suc k) h =
    let one : suc k ≡ k + 1 = omega arith in
    let here : k < length starts = omega arith in
    let next : k + 1 < length starts = omega arith in
    let low = rises starts up k here in
    let step = up k next in
    subst (λ j. j ≤ get_or starts j 0) (sym one) (omega arith)
