-- What the code that goes over digits does.
use Rattle.std.proofs.Common.{◌≡◌, ℕ, zero, suc, ◌+◌, ◌-◌, ◌*◌, ◌%◌, ◌^◌, ◌<◌, ◌≤◌, List, [], ◌∷◌, length, get_or, true, false, cond, nat_le, nat_lt, nat_eq, Some, ℤ, refl, sym, ap, ◌∙◌, subst, arith, Ok}
use Rattle.std.proofs.lemmas.Bool.Decides.{nat_tests}
use Rattle.std.proofs.Math.Nat.{mod-eq_of_lt, mul-add, mul_comm, mul_assoc}
use Rattle.wasm_tree.specs.declared.types.ValueType.TheVariants.{I32, I64}
use Rattle.wasm_tree.specs.Numeric.{low, flag}
use Rattle.wasm_tree.specs.Exec.{Store, bits64}
use Rattle.low_ir.specs.Tree.{Code, Stop, Module}
use Rattle.low_rules.specs.Rule.{At, CodeEnd, Yields, Contracts, after_block, after_turn, Within, Before}
use Rattle.low_rules.proofs.Steps.{on_flag, on_ok, low_is, not_le, le_test, lt_true, lt_false}
use Rattle.wire_numbers.specs.Digits.{Digits, Ended, Open, Cut, behind, digits}
use Rattle.wire_numbers.specs.Scanning.{byte, counted, last_test, one_digit, scan}
use Rattle.wire_numbers.proofs.Bytes.{Stand, long_is, loads_long_byte, digit_below}

-- so many digits more reach the limit, and fewer do not
abbrev pub Reach : ℕ → ℕ → ℕ → Type 0
Reach limit zero s = s * 128 ≡ limit
Reach limit (suc k) s = (s * 128 < limit) × Reach limit k (s * 128)

pub within : (limit k s : ℕ) → Reach limit k s → s * 128 ≤ limit
within limit zero s h = omega (arith, h)
within limit (suc k) s h = omega (arith, h.0)

differ : (a b : ℕ) → a < b → nat_eq a b ≡ false
differ a b h = grind (arith, nat_tests)

alike : (a b : ℕ) → a ≡ b → nat_eq a b ≡ true
alike a b h = grind (arith, nat_tests)

module _ {World : Type 0} (pages : ℕ) (m : Module) (does : Contracts World) (store : Store World) (small : length store.memory < 2 ^ 32) (bytes : (k : ℕ) → get_or store.memory k 0 < 256) (end other : ℕ) (far : end ≤ length store.memory) (more : List ℕ) (p : CodeEnd World → Type 0) where
  abbrev pub point : ℕ → ℕ → ℕ → ℕ → ℕ → ℕ → ℕ → At World
  point spent a v s b t d = record { spent = spent; store = store; locals = a ∷ end ∷ other ∷ v ∷ s ∷ b ∷ t ∷ d ∷ more }

  -- it ends without a place
  abbrev pub Refused : ℕ → Type 0
  Refused most = (spent : ℕ) (locals : List ℕ) → spent ≤ most → p (Yields (record { spent = spent; store = store; locals = locals }) (Some 0))

  -- the next byte, where there is one
  pub byte_is : (rest : Code) (a v s b t d spent : ℕ) (bs : List ℕ) → a + length bs ≡ end → Stand store.memory a bs
      → (bs ≡ [] → Refused (spent + 8))
      → ((c now : ℕ) (cs : List ℕ) → bs ≡ c ∷ cs → c < 256 → suc a + length cs ≡ end → Stand store.memory (suc a) cs → now ≤ spent + 13 → Before pages m does rest p (point now (suc a) v s c 0 d))
      → Before pages m does (byte rest) p (point spent a v s b t d)
  byte_is rest a v s b t d spent [] long is none some =
      let e : a ≡ end = omega (arith, long) in
      on_flag _ _ (nat_le (low I32 end) (low I32 a))
      (λ c. absurd (cc (sym (le_test (low I32 end) (low I32 a) (let k : low I32 a ≡ low I32 end = ap (low I32) e in omega (arith, k))) ∙ c)))
      (λ c. none refl (spent + 4 + 2 + 2) _ (omega arith))
  byte_is rest a v s b t d spent (c ∷ cs) long is none some =
      let lt : a < end = omega (arith, long) in
      let first : low I32 a ≡ a = low_is a (omega (arith, lt, far, small)) in
      let last : low I32 end ≡ end = low_is end (omega (arith, far, small)) in
      let next : low I32 (a + 1) ≡ suc a = ap (low I32) (let k : a + 1 ≡ suc a = omega arith in k) ∙ low_is (suc a) (omega (arith, lt, far, small)) in
      let test : nat_le (low I32 end) (low I32 a) ≡ false = (λ i. nat_le (last i) (first i)) ∙ not_le end a lt in
      on_flag _ _ (nat_le (low I32 end) (low I32 a))
      (λ k. on_ok _ _ _ c (loads_long_byte store.memory a (omega (arith, lt, far)) (omega (arith, lt, far, small)) ∙ ap Ok is.0)
      (subst (λ h. Before pages m does rest p h) (λ i. record { spent = spent + 4 + 2 + 3 + 4; store = store; locals = sym next i ∷ end ∷ other ∷ v ∷ s ∷ c ∷ flag (sym test i) ∷ d ∷ more })
      (some c (spent + 4 + 2 + 3 + 4) cs refl (subst (λ k. k < 256) is.0 (bytes a)) (omega (arith, long)) is.1 (omega arith))))
      (λ k. absurd (cc (sym test ∙ k)))

module _ {World : Type 0} (pages : ℕ) (m : Module) (does : Contracts World) (store : Store World) (small : length store.memory < 2 ^ 32) (bytes : (k : ℕ) → get_or store.memory k 0 < 256) (end other : ℕ) (far : end ≤ length store.memory) (more : List ℕ) (p : CodeEnd World → Type 0) (limit : ℤ) (few : bits64 limit ≤ 2 ^ 63) (rest : Code) where
  abbrev at : ℕ → ℕ → ℕ → ℕ → ℕ → ℕ → ℕ → At World
  at spent a v s b t d = point pages m does store small bytes end other far more p spent a v s b t d

  abbrev Refuses : ℕ → Type 0
  Refuses most = Refused pages m does store small bytes end other far more p most

  abbrev inner : CodeEnd World → Type 0
  inner = after_block (Before pages m does rest p) p

  abbrev outer : CodeEnd World → Type 0
  outer = after_block (Before pages m does Stop inner) inner

  abbrev turns : ℕ → CodeEnd World → Type 0
  turns k = after_turn (Within k (Before pages m does (one_digit limit)) outer) outer

  -- Once a byte is read, its digit is counted; it was the last one, or the limit is reached, or another follows.
  counts : (k a v s c t d spent : ℕ) → v < s → s * 128 ≤ bits64 limit → c < 256
      → (nat_lt c 128 ≡ true → (now t d : ℕ) → now ≤ spent + 29 → Before pages m does rest p (at now a (v + c * s) (s * 128) c t d))
      → (nat_lt c 128 ≡ false → s * 128 ≡ bits64 limit → (now t d : ℕ) → now ≤ spent + 29 → Before pages m does rest p (at now a (v + (c - 128) * s) (s * 128) c t d))
      → (nat_lt c 128 ≡ false → (nat_eq (s * 128) (bits64 limit) ≡ false) → (now t d : ℕ) → now ≤ spent + 29 → Within k (Before pages m does (one_digit limit)) outer (at now a (v + (c - 128) * s) (s * 128) c t d))
      → Before pages m does (counted limit) (turns k) (at spent a v s c t d)
  counts k a v s c t d spent vs le byte last reached again =
      let e : ℕ = c % 128 in
      let sum : v + e * s < s * 128 = digit_below v s e vs (omega arith) in
      let whole : low I64 c ≡ c = long_is c (omega (arith, byte)) in
      let digit : low I64 c % 128 ≡ e = ap (λ n. n % 128) whole in
      let product : low I64 (low I64 c % 128 * s) ≡ e * s = ap (λ n. low I64 (n * s)) digit ∙ long_is (e * s) (omega (arith, sum, le, few)) in
      let value : low I64 (v + low I64 (low I64 c % 128 * s)) ≡ v + e * s = ap (λ n. low I64 (v + n)) product ∙ long_is (v + e * s) (omega (arith, sum, le, few)) in
      let scale : low I64 (s * 128) ≡ s * 128 = long_is (s * 128) (omega (arith, le, few)) in
      let top : low I64 (bits64 limit) ≡ bits64 limit = long_is (bits64 limit) (omega (arith, few)) in
      let twice : low I64 (low I64 (s * 128)) ≡ s * 128 = ap (low I64) scale ∙ scale in
      let small_test : nat_lt (low I64 c) 128 ≡ nat_lt c 128 = ap (λ n. nat_lt n 128) whole in
      let limit_is : nat_eq (low I64 (s * 128)) (low I64 (bits64 limit)) ≡ nat_eq (s * 128) (bits64 limit) = λ i. nat_eq (scale i) (top i) in
      let now : ℕ = spent + 4 + 4 + 4 + 4 in
      subst (λ l. Before pages m does (last_test limit) (turns k) (record { spent = now; store = store; locals = l })) (λ i. a ∷ end ∷ other ∷ sym value i ∷ sym scale i ∷ c ∷ t ∷ sym product i ∷ more)
      (on_flag _ _ (nat_lt (low I64 c) 128)
      (λ big.
      let e_is : e ≡ c - 128 = high c byte (sym small_test ∙ big) in
      on_flag _ _ (nat_eq (low I64 (s * 128)) (low I64 (bits64 limit)))
      (λ not_yet. subst (λ n. Within k (Before pages m does (one_digit limit)) outer (at (now + 4 + 2 + 4 + 2 + 1) a (v + n * s) (s * 128) c (flag (nat_eq (low I64 (s * 128)) (low I64 (bits64 limit)))) (e * s))) (sym e_is) (again (sym small_test ∙ big) (sym limit_is ∙ not_yet) (now + 4 + 2 + 4 + 2 + 1) (flag (nat_eq (low I64 (s * 128)) (low I64 (bits64 limit)))) (e * s) (omega arith)))
      (λ there. subst (λ n. Before pages m does rest p (at (now + 4 + 2 + 4 + 2) a (v + n * s) (s * 128) c (flag (nat_eq (low I64 (s * 128)) (low I64 (bits64 limit)))) (e * s))) (sym e_is) (reached (sym small_test ∙ big) (equal (s * 128) (bits64 limit) (sym limit_is ∙ there)) (now + 4 + 2 + 4 + 2) (flag (nat_eq (low I64 (s * 128)) (low I64 (bits64 limit)))) (e * s) (omega arith))))
      (λ low_one.
      let e_is : e ≡ c = mod-eq_of_lt (lt_true c 128 (sym small_test ∙ low_one)) in
      subst (λ n. Before pages m does rest p (at (now + 4 + 2) a (v + n * s) (s * 128) c (flag (nat_lt (low I64 c) 128)) (e * s))) (sym e_is) (last (sym small_test ∙ low_one) (now + 4 + 2) (flag (nat_lt (low I64 c) 128)) (e * s) (omega arith))))
    where
      high : (c : ℕ) → c < 256 → nat_lt c 128 ≡ false → c % 128 ≡ c - 128
      high c h big = let le : 128 ≤ c = lt_false c 128 big in omega (arith, h, le)

      equal : (a b : ℕ) → nat_eq a b ≡ true → a ≡ b
      equal a b h = grind (arith, nat_tests)

  -- What is to hold of each outcome: the rest of the code goes on, or no place is given.
  abbrev pub Onward : ℕ → ℕ → ℕ → Digits → Type 0
  Onward most v s (Ended n scale last after) = (now t d : ℕ) → now ≤ most → Before pages m does rest p (at now (end - length after) (v + s * n) (s * scale) last t d)
  Onward most v s (Open n scale after) = (now b t d : ℕ) → now ≤ most → 128 ≤ b → b < 256 → Before pages m does rest p (at now (end - length after) (v + s * n) (s * scale) b t d)
  Onward most v s Cut = Refuses most

  sums : (v s low n : ℕ) → v + s * (low + 128 * n) ≡ v + low * s + s * 128 * n
  sums v s low n = omega (arith, mul-add s low (128 * n), mul_comm s low, mul_assoc s 128 n)

  -- The digits behind one.
  shifted : (most v s low : ℕ) (found : Digits) → Onward most v s (behind low found) → Onward most (v + low * s) (s * 128) found
  shifted most v s low (Ended n scale last after) h =
      λ now t d le. subst (λ h. Before pages m does rest p h) (λ i. at now (end - length after) (sums v s low n i) (sym (mul_assoc s 128 scale) i) last t d) (h now t d le)
  shifted most v s low (Open n scale after) h =
      λ now b t d le big byte. subst (λ h. Before pages m does rest p h) (λ i. at now (end - length after) (sums v s low n i) (sym (mul_assoc s 128 scale) i) b t d) (h now b t d le big byte)
  shifted most v s low Cut h = h

  more_time : (a b v s : ℕ) (found : Digits) → b ≤ a → Onward a v s found → Onward b v s found
  more_time a b v s (Ended n scale last after) le h = λ now t d l. h now t d (omega (arith, l, le))
  more_time a b v s (Open n scale after) le h = λ now c t d l. h now c t d (omega (arith, l, le))
  more_time a b v s Cut le h = λ spent locals l. h spent locals (omega (arith, l, le))

  sums_none : (v s low : ℕ) → v + s * (low + 128 * 0) ≡ v + low * s
  sums_none v s low = let e : low + 128 * 0 ≡ low = omega arith in ap (λ n. v + s * n) e ∙ ap (λ n. v + n) (mul_comm s low)

  ended : (k a v s c t d now spent : ℕ) (cs : List ℕ) → c < 256 → nat_lt c 128 ≡ false → end - length cs ≡ suc a → Reach (bits64 limit) k s → s * 128 ≡ bits64 limit → Onward (spent + 43 * suc k) v s (behind (c - 128) (digits k cs)) → now ≤ spent + 43
      → Before pages m does rest p (at now (suc a) (v + (c - 128) * s) (s * 128) c t d)
  ended zero a v s c t d now spent cs byte big place reach there h le =
      subst (λ h. Before pages m does rest p h) (λ i. at now (place i) (sums_none v s (c - 128) i) (s * 128) c t d) (h now c t d (omega (arith, le)) (lt_false c 128 big) byte)
  ended (suc k) a v s c t d now spent cs byte big place reach there h le = absurd (omega (arith, reach.0, there))

  -- One turn, where the turns after it are as they should be.
  turn : (k a v s b t d spent : ℕ) (bs : List ℕ) → v < s → Reach (bits64 limit) k s → a + length bs ≡ end → Stand store.memory a bs → Onward (spent + 43 * suc k) v s (digits (suc k) bs)
      → ((c now t d : ℕ) (cs : List ℕ) → c < 256 → nat_eq (s * 128) (bits64 limit) ≡ false → suc a + length cs ≡ end → Stand store.memory (suc a) cs → Onward (spent + 43 * suc k) v s (behind (c - 128) (digits k cs)) → now ≤ spent + 43
      → Within k (Before pages m does (one_digit limit)) outer (at now (suc a) (v + (c - 128) * s) (s * 128) c t d))
      → Within (suc k) (Before pages m does (one_digit limit)) outer (at spent a v s b t d)
  turn k a v s b t d spent bs vs reach long is h again =
      byte_is pages m does store small bytes end other far more (turns k) (counted limit) a v s b t d (spent + 1) bs long is
      (λ e. let none : Onward (spent + 43 * suc k) v s (digits (suc k) []) = subst (λ l. Onward (spent + 43 * suc k) v s (digits (suc k) l)) e h in λ now locals le. none now locals (omega (arith, le)))
      (λ c now cs e byte far_on stands le.
      let h : Onward (spent + 43 * suc k) v s (digits (suc k) (c ∷ cs)) = subst (λ l. Onward (spent + 43 * suc k) v s (digits (suc k) l)) e h in
      let place : end - length cs ≡ suc a = omega (arith, far_on) in
      counts k (suc a) v s c 0 d now vs (within (bits64 limit) k s reach) byte
      (λ low_one now2 t d less.
      let is_last : Onward (spent + 43 * suc k) v s (Ended c 128 c cs) = subst (λ x. Onward (spent + 43 * suc k) v s (cond x (Ended c 128 c cs) (behind (c - 128) (digits k cs)))) low_one h in
      subst (λ h. Before pages m does rest p h) (λ i. at now2 (place i) (v + mul_comm s c i) (s * 128) c t d) (is_last now2 t d (omega (arith, less, le))))
      (λ big there now2 t d less.
      let is_more : Onward (spent + 43 * suc k) v s (behind (c - 128) (digits k cs)) = subst (λ x. Onward (spent + 43 * suc k) v s (cond x (Ended c 128 c cs) (behind (c - 128) (digits k cs)))) big h in
      ended k a v s c t d now2 spent cs byte big place reach there is_more (omega (arith, less, le)))
      (λ big not_yet now2 t d less.
      let is_more : Onward (spent + 43 * suc k) v s (behind (c - 128) (digits k cs)) = subst (λ x. Onward (spent + 43 * suc k) v s (cond x (Ended c 128 c cs) (behind (c - 128) (digits k cs)))) big h in
      again c now2 t d cs byte not_yet far_on stands is_more (omega (arith, less, le))))

  loop : (k a v s b t d spent : ℕ) (bs : List ℕ) → v < s → Reach (bits64 limit) k s → a + length bs ≡ end → Stand store.memory a bs → Onward (spent + 43 * suc k) v s (digits (suc k) bs)
      → Within (suc k) (Before pages m does (one_digit limit)) outer (at spent a v s b t d)
  loop zero a v s b t d spent bs vs reach long is h =
      turn zero a v s b t d spent bs vs reach long is h (λ c now t d cs byte not_yet on stands more le. absurd (cc (sym (alike (s * 128) (bits64 limit) reach) ∙ not_yet)))
  loop (suc k) a v s b t d spent bs vs reach long is h =
      turn (suc k) a v s b t d spent bs vs reach long is h
      (λ c now t d cs byte not_yet on stands is_more le.
      loop k (suc a) (v + (c - 128) * s) (s * 128) c t d now cs (digit_below v s (c - 128) vs (omega (arith, byte))) reach.1 on stands
      (more_time (spent + 43 * suc (suc k)) (now + 43 * suc k) (v + (c - 128) * s) (s * 128) (digits (suc k) cs) (omega (arith, le)) (shifted (spent + 43 * suc (suc k)) v s (c - 128) (digits (suc k) cs) is_more)))

  -- The whole, from the first byte on.
  pub scans : (k a v s b t d spent : ℕ) (bs : List ℕ) → Reach (bits64 limit) k 1 → a + length bs ≡ end → Stand store.memory a bs → Onward (spent + (43 * suc k + 5)) 0 1 (digits (suc k) bs)
      → Before pages m does (scan limit rest) p (at spent a v s b t d)
  scans k a v s b t d spent bs reach long is h =
      (suc k, loop k a 0 1 b t d (spent + 2 + 2 + 1) bs (omega arith) reach long is (more_time (spent + (43 * suc k + 5)) (spent + 2 + 2 + 1 + 43 * suc k) 0 1 (digits (suc k) bs) (omega arith) h))
