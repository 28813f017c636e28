-- Numbers of 32 bits are read.
use Rattle.std.proofs.Common.{◌≡◌, ℕ, ◌+◌, ◌-◌, ◌*◌, ◌^◌, ◌<◌, ◌≤◌, List, ◌∷◌, length, get_or, false, cond, nat_le, nat_lt, pos, Result, Ok, Err, refl, sym, ap, ◌∙◌, subst, arith}
use Rattle.std.proofs.lemmas.Bool.{lt-ltb, le-ltb}
use Rattle.exact_reading.specs.Reading.{◌>>=◌, unsigned_at, u32_at}
use Rattle.candid_header.specs.declared.fault.Fault.{Fault}
use Rattle.candid_header.specs.declared.fault.Fault.TheVariants.{Short}
use Rattle.wasm_tree.specs.declared.types.ValueType.TheVariants.{I64}
use Rattle.wasm_tree.specs.Numeric.{low, flag}
use Rattle.wasm_tree.specs.Exec.{Store}
use Rattle.low_ir.specs.Tree.{Code, Module}
use Rattle.low_rules.specs.Rule.{At as Point, CodeEnd, Contracts, Before}
use Rattle.low_rules.proofs.Steps.{on_flag, le_true, le_false}
use Rattle.wire_numbers.specs.Digits.{Digits, Ended, Open, Cut, digits}
use Rattle.wire_numbers.proofs.Bytes.{Stand, long_is}
use Rattle.wire_numbers.proofs.Scanned.{Reach, Refused, point, Onward, scans}
use Rattle.wire_numbers.proofs.Numbers.{Bytes, Sized, times, sized, by_unsigned, unsigned_is}
use Rattle.wire_tables.specs.References.{five_digits, u32_tests, u32}

pub five_reach : Reach five_digits 4 1
five_reach = (omega arith, (omega arith, (omega arith, (omega arith, refl))))

abbrev pub u32_of : Fault → Digits → Result (ℕ × List ℕ) Fault
u32_of wide (Ended n scale last rest) = cond (nat_lt n (2 ^ 32)) (Ok (n, rest)) (Err wide)
u32_of wide (Open n scale rest) = Err wide
u32_of wide Cut = Err Short

u32_is_of : (wide : Fault) (bytes : List ℕ) → Bytes bytes → u32_at Short wide bytes ≡ u32_of wide (digits 5 bytes)
unfolding unsigned_at
u32_is_of wide bytes all = ap (λ r. r >>= λ x. cond (nat_lt x.0 (2 ^ 32)) (Ok x) (Err wide)) (unsigned_is Short wide 5 0 bytes all) ∙ by (digits 5 bytes)
  where
    by : (found : Digits) → (by_unsigned Short wide 0 found >>= λ x. cond (nat_lt x.0 (2 ^ 32)) (Ok x) (Err wide)) ≡ u32_of wide found
    by (Ended n scale last rest) = refl
    by (Open n scale rest) = refl
    by Cut = refl

module _ {World : Type 0} (pages : ℕ) (m : Module) (does : Contracts World) (store : Store World) (small : length store.memory < 2 ^ 32) (bytes : (k : ℕ) → get_or store.memory k 0 < 256) (end other : ℕ) (far : end ≤ length store.memory) (more : List ℕ) (p : CodeEnd World → Type 0) (rest : Code) where
  abbrev at : ℕ → ℕ → ℕ → ℕ → ℕ → ℕ → ℕ → Point World
  at spent a v s b t d = point pages m does store small bytes end other far more p spent a v s b t d

  -- What is to hold of each outcome: with a value the code goes on behind it, and else no place is given.
  abbrev pub Goes : {X : Type 0} → (X → ℕ) → ℕ → List ℕ → Result (X × List ℕ) Fault → Type 0
  Goes word spent bs (Ok x) = (now s b t d : ℕ) → now ≤ spent + 260 → length x.1 < length bs → Stand store.memory (end - length x.1) x.1 → Bytes x.1 → Before pages m does rest p (at now (end - length x.1) (word x.0) s b t d)
  Goes word spent bs (Err f) = Refused pages m does store small bytes end other far more p (spent + 260)

  large_is : (a b : ℕ) → a < 2 ^ 64 → b < 2 ^ 64 → nat_le (low I64 a) (low I64 b) ≡ nat_le a b
  large_is a b la lb = λ i. nat_le (long_is a la i) (long_is b lb i)

  u32_onward : (wide : Fault) (found : Digits) (spent : ℕ) (bs : List ℕ) → Sized store.memory end (length bs) (times 5) found → Goes (λ n. n) spent bs (u32_of wide found)
      → Onward pages m does store small bytes end other far more p (pos five_digits) (omega arith) (u32_tests rest) (spent + 220) 0 1 found
  u32_onward wide (Ended n scale last after) spent bs size h =
      λ now t d le.
      let same : 0 + 1 * n ≡ n = omega arith in
      on_flag _ _ (nat_le (low I64 128) (low I64 last))
      (λ c.
      on_flag _ _ (nat_le (low I64 4294967296) (low I64 (0 + 1 * n)))
      (λ e.
      let small_one : n < 2 ^ 32 = lt_of n (sym (large_is 4294967296 n (omega arith) (omega (arith, size.0, size.1))) ∙ ap (λ k. nat_le (low I64 4294967296) (low I64 k)) (sym same) ∙ e) in
      let h : Goes (λ n. n) spent bs (Ok (n, after)) = subst (λ t. Goes (λ n. n) spent bs (cond t (Ok (n, after)) (Err wide))) (lt-ltb n (2 ^ 32) small_one) h in
      subst (λ n. Before pages m does rest p (at (now + 4 + 2 + 4 + 2) (end - length after) n (1 * scale) last (flag (nat_le (low I64 4294967296) (low I64 n))) d)) (sym same)
      (h (now + 4 + 2 + 4 + 2) (1 * scale) last (flag (nat_le (low I64 4294967296) (low I64 n))) d (omega (arith, le)) size.3 size.4 size.5))
      (λ e.
      let large_one : 2 ^ 32 ≤ n = le_true 4294967296 n (sym (large_is 4294967296 n (omega arith) (omega (arith, size.0, size.1))) ∙ ap (λ k. nat_le (low I64 4294967296) (low I64 k)) (sym same) ∙ e) in
      let h : Goes (λ n. n) spent bs (Err wide) = subst (λ t. Goes (λ n. n) spent bs (cond t (Ok (n, after)) (Err wide))) (le-ltb n (2 ^ 32) large_one) h in
      h (now + 4 + 2 + 4 + 2 + 2) ((end - length after) ∷ end ∷ other ∷ (0 + 1 * n) ∷ (1 * scale) ∷ last ∷ flag (nat_le (low I64 4294967296) (low I64 (0 + 1 * n))) ∷ d ∷ more) (omega (arith, le))))
      (λ c. absurd (let big : 128 ≤ last = le_true 128 last (sym (large_is 128 last (omega arith) (omega (arith, size.2))) ∙ c) in omega (arith, big, size.2)))
    where
      lt_of : (n : ℕ) → nat_le 4294967296 n ≡ false → n < 2 ^ 32
      lt_of n e = le_false 4294967296 n e
  u32_onward wide (Open n scale after) spent bs size h =
      λ now b t d le big byte.
      on_flag _ _ (nat_le (low I64 128) (low I64 b))
      (λ c. absurd (let low_one : b < 128 = le_false 128 b (sym (large_is 128 b (omega arith) (omega (arith, byte))) ∙ c) in omega (arith, low_one, big)))
      (λ c. h (now + 4 + 2 + 2) ((end - length after) ∷ end ∷ other ∷ (0 + 1 * n) ∷ (1 * scale) ∷ b ∷ flag (nat_le (low I64 128) (low I64 b)) ∷ d ∷ more) (omega (arith, le)))
  u32_onward wide Cut spent bs size h = λ now locals le. h now locals (omega (arith, le))

  pub u32_is : (wide : Fault) (a v s b t d spent : ℕ) (bs : List ℕ) → a + length bs ≡ end → Stand store.memory a bs → Bytes bs → Goes (λ n. n) spent bs (u32_at Short wide bs) → Before pages m does (u32 rest) p (at spent a v s b t d)
  u32_is wide a v s b t d spent bs long is all h =
      scans pages m does store small bytes end other far more p (pos five_digits) (omega arith) (u32_tests rest) 4 a v s b t d spent bs five_reach long is
      (u32_onward wide (digits 5 bs) spent bs (sized store.memory end 5 a bs long is all) (subst (Goes (λ n. n) spent bs) (u32_is_of wide bs all) h))
