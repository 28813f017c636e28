-- What the code that writes digits does.
use Rattle.std.proofs.Common.{◌≡◌, ℕ, zero, suc, ◌+◌, ◌*◌, ◌/◌, ◌%◌, ◌^◌, ◌<◌, ◌≤◌, List, [], ◌∷◌, ◌++◌, length, take, drop, false, cond, nat_lt, Some, Ok, ℤ, refl, sym, ap, ◌∙◌, subst, arith, length-append, append_assoc}
use Rattle.std.proofs.lemmas.List.{take_at, length-take-le, take-append-drop, append-nil}
use Rattle.std.proofs.lemmas.Bool.{lt-ltb, le-ltb, ltb-true, ltb-false}
use Rattle.std.proofs.Math.Nat.{mod-eq_of_lt}
use Rattle.wasm_tree.specs.declared.types.ValueType.TheVariants.{I32, I64}
use Rattle.wasm_tree.specs.Numeric.{low, flag}
use Rattle.wasm_tree.specs.Exec.{Store, bits64}
use Rattle.module_laws.specs.Stored.{written}
use Rattle.module_laws.proofs.StoredBytes.{stored}
use Rattle.low_ir.specs.declared.op.Operand.TheVariants.{Local}
use Rattle.low_ir.specs.declared.op.Operation.{Operation}
use Rattle.low_ir.specs.Tree.{Code, Return, Module}
use Rattle.low_rules.specs.Rule.{At, CodeEnd, Yields, Contracts, after_block, after_turn, Within, Before, cost, result_of, is_inside}
use Rattle.low_rules.proofs.Steps.{on_true, on_flag, on_ok, low_is, le_test}
use Rattle.memory_routines.specs.Numerals.{with_memory, between}
use Rattle.wire_numbers.specs.Writers.{put, next_digit, put_digit}
use Rattle.wire_numbers.specs.Writers.{put_more as put_more_code}
use Rattle.wire_numbers.proofs.Bytes.{long_is}

pub put_none : (memory : List ℕ) (a : ℕ) → between memory a [] (a + 0) ≡ memory
put_none memory a =
    let e : a + 0 ≡ a = omega arith in
    ap (λ n. (take a memory ++ []) ++ drop n memory) e ∙ ap (λ l. l ++ drop a memory) (append-nil (take a memory)) ∙ take-append-drop a memory

-- One byte is written, and the others behind it.
pub put_more : (memory : List ℕ) (a d : ℕ) (text : List ℕ) → a < length memory → d < 256 → between (written memory a 1 d) (suc a) text (suc a + length text) ≡ between memory a (d ∷ text) (a + suc (length text))
put_more memory a d text inside byte =
    let to : List ℕ = written memory a 1 d in
    let is = stored memory a 1 d (omega (arith, inside)) in
    let whole : d % 256 ≡ d = mod-eq_of_lt byte in
    let front : List ℕ = take a memory ++ (d % 256 ∷ []) in
    let long : length front ≡ suc a = length-append (take a memory) (d % 256 ∷ []) ∙ omega (arith, length-take-le a memory (omega (arith, inside))) in
    let begin : take (suc a) to ≡ take a memory ++ (d ∷ []) = take_at front (drop (a + 1) memory) (suc a) long ∙ ap (λ x. take a memory ++ (x ∷ [])) whole in
    let after : drop (suc a + length text) to ≡ drop (suc a + length text) memory = is.above (suc a + length text) (omega arith) in
    let last : suc a + length text ≡ a + suc (length text) = omega arith in
    (λ i. (begin i ++ text) ++ after i) ∙ (λ i. append_assoc (take a memory) (d ∷ []) text i ++ drop (last i) memory)

-- the digits of a number, in at most so many and the last one, which is below a limit
abbrev pub spelled : ℕ → (ℕ → ℕ) → (ℕ → ℕ) → ℕ → ℕ → List ℕ
spelled top final mark zero n = final n ∷ []
spelled top final mark (suc f) n = cond (nat_lt n top) (final n ∷ []) (mark (n % 128) ∷ spelled top final mark f (n / 128))

-- numbers of so many digits and the last one are below
abbrev pub room : ℕ → ℕ → ℕ
room top zero = top
room top (suc k) = 128 * room top k

pub enough_room : (top n : ℕ) → 0 < top → n < room top n
enough_room top zero h = h
enough_room top (suc n) h = omega (arith, enough_room top n h)

module _ {World : Type 0} (pages : ℕ) (m : Module) (does : Contracts World) (s : Store World) where
  abbrev pub spot : ℕ → List ℕ → ℕ → ℕ → ℕ → ℕ → At World
  spot spent memory a n x t = record { spent = spent; store = with_memory s memory; locals = a ∷ n ∷ x ∷ t ∷ [] }

  put_is : (rest : Code) (p : CodeEnd World → Type 0) (spent : ℕ) (memory : List ℕ) (a n x t : ℕ) → a < length memory → length memory < 2 ^ 32 → Before pages m does rest p (spot (spent + 3 + 4) (written memory a 1 x) (suc a) n x t)
      → Before pages m does (put rest) p (spot spent memory a n x t)
  put_is rest p spent memory a n x t inside small h =
      let address : low I32 a + 0 ≡ a = ap (λ k. k + 0) (low_is a (omega (arith, inside, small))) ∙ omega arith in
      let next : low I32 (a + 1) ≡ suc a = low_is (a + 1) (omega (arith, inside, small)) ∙ omega arith in
      on_true _ _ (is_inside memory (low I32 a + 0) 1) (ap (λ k. is_inside memory k 1) address ∙ le_test (a + 1) (length memory) (omega (arith, inside)))
      (subst (λ h. Before pages m does rest p h) (λ i. record { spent = spent + 3 + 4; store = with_memory s (written memory (sym address i) 1 x); locals = sym next i ∷ n ∷ x ∷ t ∷ [] }) h)

  module _ (limit : ℤ) (top : ℕ) (limit_is : bits64 limit ≡ top) (few : top ≤ 128) (last more : Operation) (final mark : ℕ → ℕ) (last_cost : cost last ≤ 3) (more_cost : cost more ≤ 3)
      (last_is : (spent : ℕ) (memory : List ℕ) (a n x t : ℕ) → n < top → result_of last (spot spent memory a n x t) ≡ Ok (final n)) (more_is : (spent : ℕ) (memory : List ℕ) (a n x t : ℕ) → x < 128 → result_of more (spot spent memory a n x t) ≡ Ok (mark x))
      (final_byte : (n : ℕ) → n < top → final n < 256) (mark_byte : (x : ℕ) → x < 128 → mark x < 256) where
    abbrev Ended : (CodeEnd World → Type 0) → ℕ → List ℕ → ℕ → List ℕ → Type 0
    Ended p most memory a text = (spent : ℕ) (locals : List ℕ) → spent ≤ most → p (Yields (record { spent = spent; store = with_memory s (between memory a text (a + length text)); locals = locals }) (Some (a + length text)))

    is_last : (f n : ℕ) → n < top → spelled top final mark f n ≡ final n ∷ []
    is_last zero n lt = refl
    is_last (suc f) n lt = ap (λ t. cond t (final n ∷ []) (mark (n % 128) ∷ spelled top final mark f (n / 128))) (lt-ltb n top lt)

    abbrev later : ℕ → (CodeEnd World → Type 0) → CodeEnd World → Type 0
    later k p = after_turn (Within k (Before pages m does (put_digit limit last more)) p) p

    -- One turn.
    turn : (p : CodeEnd World → Type 0) (k f spent : ℕ) (memory : List ℕ) (a n x t : ℕ) → n < 2 ^ 64 → n < room top f → a < length memory → length memory < 2 ^ 32 → Ended p (spent + 36 * suc k) memory a (spelled top final mark f n)
        → ((g y t now : ℕ) → f ≡ suc g → top ≤ n → now ≤ spent + 36 → mark (n % 128) < 256 → Ended p (spent + 36 * suc k) memory a (mark (n % 128) ∷ spelled top final mark g (n / 128)) → Within k (Before pages m does (put_digit limit last more)) p (spot now (written memory a 1 (mark (n % 128))) (suc a) (n / 128) y t))
        → Within (suc k) (Before pages m does (put_digit limit last more)) p (spot spent memory a n x t)
    turn p k f spent memory a n x t long fits inside small h again =
        let word : low I64 n ≡ n = long_is n long in
        let test : nat_lt (low I64 n) (low I64 (bits64 limit)) ≡ nat_lt n top = (λ i. nat_lt (word i) (low I64 (limit_is i))) ∙ ap (λ k. nat_lt n k) (long_is top (omega (arith, few))) in
        let digit : low I64 n % 128 ≡ n % 128 = ap (λ k. k % 128) word in
        let left : low I64 n / 128 ≡ n / 128 = ap (λ k. k / 128) word in
        let flagged : ℕ = flag (nat_lt (low I64 n) (low I64 (bits64 limit))) in
        on_flag _ _ (nat_lt (low I64 n) (low I64 (bits64 limit)))
        (λ c.
        let large : top ≤ n = ltb-false n top (sym test ∙ c) in
        on_ok _ _ _ (mark (n % 128)) (more_is (spent + 1 + 4 + 2 + 4) memory a n (low I64 n % 128) flagged (omega arith) ∙ ap (λ x. Ok (mark x)) digit)
        (put_is next_digit (later k p) (spent + 1 + 4 + 2 + 4 + (cost more + 1)) memory a n (mark (n % 128)) flagged inside small
        (subst (λ l. Within k (Before pages m does (put_digit limit last more)) p (spot (spent + 1 + 4 + 2 + 4 + (cost more + 1) + 3 + 4 + 4 + 1) (written memory a 1 (mark (n % 128))) (suc a) l (mark (n % 128)) flagged)) (sym left)
        (goes f fits c large flagged h again))))
        (λ c.
        let lt : n < top = ltb-true n top (sym test ∙ c) in
        let h : Ended p (spent + 36 * suc k) memory a (final n ∷ []) = subst (λ l. Ended p (spent + 36 * suc k) memory a l) (is_last f n lt) h in
        on_ok _ _ _ (final n) (last_is (spent + 1 + 4 + 2) memory a n x flagged lt)
        (put_is (Return (Some (Local 0))) (after_block (Before pages m does (put_more_code more) (later k p)) (later k p)) (spent + 1 + 4 + 2 + (cost last + 1)) memory a n (final n) flagged inside small
        (subst (λ l. p (Yields (record { spent = spent + 1 + 4 + 2 + (cost last + 1) + 3 + 4 + 2; store = with_memory s l; locals = suc a ∷ n ∷ final n ∷ flagged ∷ [] }) (Some (suc a)))) (one memory a (final n) inside (final_byte n lt))
        (subst (λ v. p (Yields (record { spent = spent + 1 + 4 + 2 + (cost last + 1) + 3 + 4 + 2; store = with_memory s (between memory a (final n ∷ []) (a + 1)); locals = suc a ∷ n ∷ final n ∷ flagged ∷ [] }) (Some v))) (let e : a + 1 ≡ suc a = omega arith in e)
        (h (spent + 1 + 4 + 2 + (cost last + 1) + 3 + 4 + 2) (suc a ∷ n ∷ final n ∷ flagged ∷ []) (omega (arith, last_cost)))))))
      where
        one : (memory : List ℕ) (a d : ℕ) → a < length memory → d < 256 → between memory a (d ∷ []) (a + 1) ≡ written memory a 1 d
        one memory a d inside byte = sym (put_more memory a d [] inside byte) ∙ put_none (written memory a 1 d) (suc a)

        goes : (f : ℕ) → n < room top f → nat_lt (low I64 n) (low I64 (bits64 limit)) ≡ false → top ≤ n → (flagged : ℕ) → Ended p (spent + 36 * suc k) memory a (spelled top final mark f n)
            → ((g y t now : ℕ) → f ≡ suc g → top ≤ n → now ≤ spent + 36 → mark (n % 128) < 256 → Ended p (spent + 36 * suc k) memory a (mark (n % 128) ∷ spelled top final mark g (n / 128)) → Within k (Before pages m does (put_digit limit last more)) p (spot now (written memory a 1 (mark (n % 128))) (suc a) (n / 128) y t))
            → Within k (Before pages m does (put_digit limit last more)) p (spot (spent + 1 + 4 + 2 + 4 + (cost more + 1) + 3 + 4 + 4 + 1) (written memory a 1 (mark (n % 128))) (suc a) (n / 128) (mark (n % 128)) flagged)
        goes zero fits c large flagged h again = absurd (omega (arith, fits, large))
        goes (suc g) fits c large flagged h again =
            let not_last : nat_lt n top ≡ false = le-ltb n top large in
            let h : Ended p (spent + 36 * suc k) memory a (mark (n % 128) ∷ spelled top final mark g (n / 128)) = subst (λ t. Ended p (spent + 36 * suc k) memory a (cond t (final n ∷ []) (mark (n % 128) ∷ spelled top final mark g (n / 128)))) not_last h in
            again g (mark (n % 128)) flagged (spent + 1 + 4 + 2 + 4 + (cost more + 1) + 3 + 4 + 4 + 1) refl large (omega (arith, more_cost)) (mark_byte (n % 128) (omega arith)) h

    pub spells : (p : CodeEnd World → Type 0) (k f spent : ℕ) (memory : List ℕ) (a n x t : ℕ) → n < 2 ^ 64 → n < room top k → n < room top f → a + suc k ≤ length memory → length memory < 2 ^ 32 → Ended p (spent + 36 * suc k) memory a (spelled top final mark f n)
        → Within (suc k) (Before pages m does (put_digit limit last more)) p (spot spent memory a n x t)
    spells p zero f spent memory a n x t long short fits inside small h =
        turn p zero f spent memory a n x t long fits (omega (arith, inside)) small h (λ g y t now e large le byte more. absurd (omega (arith, large, short)))
    spells p (suc k) f spent memory a n x t long short fits inside small h =
        turn p (suc k) f spent memory a n x t long fits (omega (arith, inside)) small h
        (λ g y t now e large le byte more.
        let d : ℕ = mark (n % 128) in
        let is = stored memory a 1 d (omega (arith, inside)) in
        let fits : n < 128 * room top g = subst (λ f. n < room top f) e fits in
        spells p k g now (written memory a 1 d) (suc a) (n / 128) y t (omega (arith, long)) (omega (arith, short)) (omega (arith, fits)) (omega (arith, inside, is.same_length)) (omega (arith, small, is.same_length))
        (λ spent2 locals less.
        let last : suc a + length (spelled top final mark g (n / 128)) ≡ a + suc (length (spelled top final mark g (n / 128))) = omega arith in
        subst (λ (h : At World). p (Yields h (Some (suc a + length (spelled top final mark g (n / 128)))))) (λ i. record { spent = spent2; store = with_memory s (sym (put_more memory a d (spelled top final mark g (n / 128)) (omega (arith, inside)) byte) i); locals = locals })
        (subst (λ v. p (Yields (record { spent = spent2; store = with_memory s (between memory a (d ∷ spelled top final mark g (n / 128)) (a + suc (length (spelled top final mark g (n / 128))))); locals = locals }) (Some v))) (sym last)
        (more spent2 locals (omega (arith, le, less))))))
