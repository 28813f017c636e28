-- Block comments: what the code finds is one, and there is only one.
use Rattle.std.proofs.Common.{◌≡◌, ℕ, zero, suc, ◌+◌, ◌-◌, ◌<◌, ◌≤◌, true, false, List, [], ◌∷◌, ◌++◌, length, take, drop, Option, Some, None, get_or, refl, sym, ap, ◌∙◌, arith, add_assoc, length-drop, take-append-drop}
use Rattle.std.specs.Prelude.{◌==◌, ◌&&◌}
use Rattle.std.specs.Option.{option_map}
use Rattle.std.proofs.lemmas.Bool.{eqb-true, eq-eqb}
use Rattle.mo_syntax.specs.Lexed.{closes}
use Rattle.mo_lexer.specs.Reading.{block_len}
use Rattle.mo_lexer.proofs.Tools.{if_true, if_false, tested, true_is_not_false, mapped_some, take_one, take_two, both_are, head_at, two_at}

not_zero : (n : ℕ) → 0 < n → (n == 0) ≡ false
not_zero n h = tested (n == 0) (λ none. let e : n ≡ 0 = eqb-true n 0 none in absurd (omega arith)) (λ some. some)

is_one : (n : ℕ) → (n == 1) ≡ true → n ≡ 1
is_one n h = eqb-true n 1 h

above_one : (n : ℕ) → 0 < n → (n == 1) ≡ false → 0 < n - 1
above_one zero h g = absurd (omega arith)
above_one (suc zero) h g = absurd (cc)
above_one (suc (suc n)) h g = omega arith

-- a step of each definition, by what the two bytes are
module _ (c b d : ℕ) (bs : List ℕ) (some : 0 < c) where
  closes_close : (b == 42 && d == 47) ≡ true → closes c (b ∷ d ∷ bs) ≡ closes (c - 1) bs
  closes_close h = if_false (c == 0) false _ (not_zero c some) ∙ if_true (b == 42 && d == 47) _ _ h

  closes_open : (b == 42 && d == 47) ≡ false → (b == 47 && d == 42) ≡ true → closes c (b ∷ d ∷ bs) ≡ closes (c + 1) bs
  closes_open h g = if_false (c == 0) false _ (not_zero c some) ∙ if_false (b == 42 && d == 47) _ _ h ∙ if_true (b == 47 && d == 42) _ _ g

  closes_other : (b == 42 && d == 47) ≡ false → (b == 47 && d == 42) ≡ false → closes c (b ∷ d ∷ bs) ≡ closes c (d ∷ bs)
  closes_other h g = if_false (c == 0) false _ (not_zero c some) ∙ if_false (b == 42 && d == 47) _ _ h ∙ if_false (b == 47 && d == 42) _ _ g

module _ (c b d : ℕ) (bs : List ℕ) where
  pub block_last : (b == 42 && d == 47) ≡ true → (c == 1) ≡ true → block_len c (b ∷ d ∷ bs) ≡ Some 2
  block_last h g = if_true (b == 42 && d == 47) _ _ h ∙ if_true (c == 1) (Some 2) _ g

  pub block_close : (b == 42 && d == 47) ≡ true → (c == 1) ≡ false → block_len c (b ∷ d ∷ bs) ≡ option_map (λ n. 2 + n) (block_len (c - 1) bs)
  block_close h g = if_true (b == 42 && d == 47) _ _ h ∙ if_false (c == 1) (Some 2) _ g

  pub block_open : (b == 42 && d == 47) ≡ false → (b == 47 && d == 42) ≡ true → block_len c (b ∷ d ∷ bs) ≡ option_map (λ n. 2 + n) (block_len (c + 1) bs)
  block_open h g = if_false (b == 42 && d == 47) _ _ h ∙ if_true (b == 47 && d == 42) _ _ g

  pub block_other : (b == 42 && d == 47) ≡ false → (b == 47 && d == 42) ≡ false → block_len c (b ∷ d ∷ bs) ≡ option_map (λ n. 1 + n) (block_len c (d ∷ bs))
  block_other h g = if_false (b == 42 && d == 47) _ _ h ∙ if_false (b == 47 && d == 42) _ _ g

closes_rest : (c b d m : ℕ) (bs : List ℕ) → 0 < c → (b == 42 && d == 47) ≡ false → (b == 47 && d == 42) ≡ false → closes c (take m (d ∷ bs)) ≡ true → closes c (b ∷ take m (d ∷ bs)) ≡ true
closes_rest c b d zero bs some h g all = true_is_not_false all (not_zero c some)
closes_rest c b d (suc m) bs some h g all = closes_other c b d (take m bs) some h g ∙ all

pub block_found : (c n : ℕ) (text : List ℕ) → 0 < c → block_len c text ≡ Some n → closes c (take n text) ≡ true
block_found c n [] some h = absurd (cc)
block_found c n (b ∷ []) some h = absurd (cc)
block_found c n (b ∷ d ∷ bs) some h = tested (b == 42 && d == 47)
    (λ close. tested (c == 1)
    (λ last.
    let two : n ≡ 2 = let e = sym h ∙ block_last c b d bs close last in cc in
    let one : c ≡ 1 = is_one c last in
    ap (λ k. closes c (take k (b ∷ d ∷ bs))) two ∙ closes_close c b d [] some close ∙ ap (λ k. closes (k - 1) []) one)
    (λ more.
    let found = mapped_some (λ k. 2 + k) (block_len (c - 1) bs) n (sym (block_close c b d bs close more) ∙ h) in
    ap (λ k. closes c (take k (b ∷ d ∷ bs))) (sym found.2) ∙ ap (closes c) (take_two found.0 b d bs) ∙ closes_close c b d (take found.0 bs) some close
    ∙ block_found (c - 1) found.0 bs (above_one c some more) found.1))
    (λ no_close. tested (b == 47 && d == 42)
    (λ opens.
    let found = mapped_some (λ k. 2 + k) (block_len (c + 1) bs) n (sym (block_open c b d bs no_close opens) ∙ h) in
    ap (λ k. closes c (take k (b ∷ d ∷ bs))) (sym found.2) ∙ ap (closes c) (take_two found.0 b d bs) ∙ closes_open c b d (take found.0 bs) some no_close opens
    ∙ block_found (c + 1) found.0 bs (omega arith) found.1)
    (λ no_open.
    let found = mapped_some (λ k. 1 + k) (block_len c (d ∷ bs)) n (sym (block_other c b d bs no_close no_open) ∙ h) in
    ap (λ k. closes c (take k (b ∷ d ∷ bs))) (sym found.2) ∙ ap (closes c) (take_one found.0 b (d ∷ bs))
    ∙ closes_rest c b d found.0 bs some no_close no_open (block_found c found.0 (d ∷ bs) some found.1)))

closes_none : (xs : List ℕ) → closes 0 xs ≡ true → xs ≡ []
closes_none [] h = refl
closes_none (x ∷ []) h = absurd (cc)
closes_none (x ∷ y ∷ xs) h = absurd (cc)

mapped : (k m n : ℕ) (o : Option ℕ) → o ≡ Some m → k + m ≡ n → option_map (λ j. k + j) o ≡ Some n
mapped k m n o h e = ap (option_map (λ j. k + j)) h ∙ ap Some e

pub block_only : (c : ℕ) (xs rest : List ℕ) → 0 < c → closes c xs ≡ true → block_len c (xs ++ rest) ≡ Some (length xs)
block_only c [] rest some h = true_is_not_false h (not_zero c some)
block_only c (b ∷ []) rest some h = absurd (cc)
block_only c (b ∷ d ∷ xs) rest some h = tested (b == 42 && d == 47)
    (λ close. tested (c == 1)
    (λ last.
    let none : xs ≡ [] = closes_none xs (ap (λ k. closes (k - 1) xs) (sym (is_one c last)) ∙ sym (closes_close c b d xs some close) ∙ h) in
    block_last c b d (xs ++ rest) close last ∙ ap (λ l. Some (length (b ∷ d ∷ l))) (sym none))
    (λ more.
    let all : closes (c - 1) xs ≡ true = sym (closes_close c b d xs some close) ∙ h in
    block_close c b d (xs ++ rest) close more ∙ mapped 2 (length xs) (length (b ∷ d ∷ xs)) (block_len (c - 1) (xs ++ rest)) (block_only (c - 1) xs rest (above_one c some more) all) (omega arith)))
    (λ no_close. tested (b == 47 && d == 42)
    (λ opens.
    let all : closes (c + 1) xs ≡ true = sym (closes_open c b d xs some no_close opens) ∙ h in
    block_open c b d (xs ++ rest) no_close opens ∙ mapped 2 (length xs) (length (b ∷ d ∷ xs)) (block_len (c + 1) (xs ++ rest)) (block_only (c + 1) xs rest (omega arith) all) (omega arith))
    (λ no_open.
    let all : closes c (d ∷ xs) ≡ true = sym (closes_other c b d xs some no_close no_open) ∙ h in
    block_other c b d (xs ++ rest) no_close no_open ∙ mapped 1 (length (d ∷ xs)) (length (b ∷ d ∷ xs)) (block_len c (d ∷ xs ++ rest)) (block_only c (d ∷ xs) rest some all) (omega arith)))

pub none_closes : (text front rest : List ℕ) → block_len 1 text ≡ None → text ≡ front ++ rest → closes 1 front ≡ false
none_closes text front rest h e = tested (closes 1 front)
    (λ holds. let found : block_len 1 text ≡ Some (length front) = ap (block_len 1) e ∙ block_only 1 front rest (omega arith) holds in absurd (cc))
    (λ fails. fails)

-- ---- the loop

later : (a b : ℕ) (o : Option ℕ) → option_map (λ n. a + n) (option_map (λ n. b + n) o) ≡ option_map (λ n. a + b + n) o
later a b None = refl
later a b (Some n) = ap Some (sym (add_assoc a b n))

module _ (c at : ℕ) (body : List ℕ) (h : at + 1 < length body) (e : block_len 1 body ≡ option_map (λ n. at + n) (block_len c (drop at body))) where
  abbrev byte_here : ℕ
  byte_here = get_or body at 0

  abbrev byte_next : ℕ
  byte_next = get_or body (at + 1) 0

  block_here : block_len 1 body ≡ option_map (λ n. at + n) (block_len c (byte_here ∷ byte_next ∷ drop (at + 2) body))
  block_here = e ∙ ap (λ l. option_map (λ n. at + n) (block_len c l)) (two_at at body h)

  pub loop_last : byte_here ≡ 42 → byte_next ≡ 47 → c ≡ 1 → block_len 1 body ≡ Some (at + 2)
  loop_last a b one = block_here ∙ ap (option_map (λ n. at + n)) (block_last c byte_here byte_next (drop (at + 2) body) (both_are byte_here byte_next 42 47 a b) (eq-eqb c 1 one))

  pub loop_close : byte_here ≡ 42 → byte_next ≡ 47 → (c ≡ 1 → ⊥) → block_len 1 body ≡ option_map (λ n. at + 2 + n) (block_len (c - 1) (drop (at + 2) body))
  loop_close a b more = block_here ∙ ap (option_map (λ n. at + n)) (block_close c byte_here byte_next (drop (at + 2) body) (both_are byte_here byte_next 42 47 a b)
      (tested (c == 1) (λ one. absurd (more (eqb-true c 1 one))) (λ other. other))) ∙ later at 2 (block_len (c - 1) (drop (at + 2) body))

  pub loop_open : (byte_here == 42 && byte_next == 47) ≡ false → byte_here ≡ 47 → byte_next ≡ 42 → block_len 1 body ≡ option_map (λ n. at + 2 + n) (block_len (c + 1) (drop (at + 2) body))
  loop_open other a b = block_here ∙ ap (option_map (λ n. at + n)) (block_open c byte_here byte_next (drop (at + 2) body) other (both_are byte_here byte_next 47 42 a b)) ∙ later at 2 (block_len (c + 1) (drop (at + 2) body))

  pub loop_other : (byte_here == 42 && byte_next == 47) ≡ false → (byte_here == 47 && byte_next == 42) ≡ false → block_len 1 body ≡ option_map (λ n. at + 1 + n) (block_len c (drop (at + 1) body))
  loop_other a b =
      let plus : at + 1 + 1 ≡ at + 2 = omega arith in
      let tail : byte_next ∷ drop (at + 2) body ≡ drop (at + 1) body = ap (λ k. byte_next ∷ drop k body) (sym plus) ∙ sym (head_at (at + 1) body h) in
      block_here ∙ ap (option_map (λ n. at + n)) (block_other c byte_here byte_next (drop (at + 2) body) a b ∙ ap (λ l. option_map (λ n. 1 + n) (block_len c l)) tail) ∙ later at 1 (block_len c (drop (at + 1) body))

short_none : (c : ℕ) (xs : List ℕ) → length xs ≤ 1 → block_len c xs ≡ None
short_none c [] h = refl
short_none c (x ∷ []) h = refl
short_none c (x ∷ y ∷ xs) h = absurd (omega arith)

pub loop_end : (c at : ℕ) (body : List ℕ) → length body ≤ at + 1 → block_len 1 body ≡ option_map (λ n. at + n) (block_len c (drop at body)) → None ≡ block_len 1 body
loop_end c at body h e =
    let short : length (drop at body) ≤ 1 = omega (arith, length-drop at body) in
    sym (e ∙ ap (option_map (λ n. at + n)) (short_none c (drop at body) short))

-- where no front closes, the code finds no end
pub never_closes : (text : List ℕ) → ((front rest : List ℕ) → text ≡ front ++ rest → closes 1 front ≡ false) → block_len 1 text ≡ None
never_closes text open_ = by_len (block_len 1 text) refl
  where
    by_len : (o : Option ℕ) → block_len 1 text ≡ o → block_len 1 text ≡ None
    by_len None e = e
    by_len (Some n) e = true_is_not_false (block_found 1 n text (omega arith) e) (open_ (take n text) (drop n text) (sym (take-append-drop n text)))
