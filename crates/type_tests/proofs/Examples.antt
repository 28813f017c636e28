-- The small examples.
use Rattle.std.proofs.Common.{◌≡◌, ℕ, zero, suc, ◌+◌, ◌<◌, ◌≤◌, Bool, true, false, List, [], ◌∷◌, ◌++◌, length, nat_eq, Option, Some, None, refl, sym, ap, subst, ◌∙◌, arith, inl, inr, if◌then◌else◌}
use Rattle.std.specs.Cmp.{unsigned_Decides}
use Rattle.mo_types.specs.Calls.{State, Call, CallTable, Open, Answered, Lost, HasRoom, IsOpen, OwnsOpen, call_from, count_open, is_open_state, next_number, open_count, opened, set_state, state_of}
use Rattle.mo_types.specs.Sub.{Sub, IsSubtype}
use Rattle.mo_subtype.specs.Certificate.{Fails}
use Rattle.type_tests.specs.Examples.{Small, ANat, AText, AUnit, AnAny, AnInt, Asked, Inner, IntCell, Loop, Narrow, NatCell, Outcome, Pair, ParameterT, ParameterU, Single, Success, Twice, Wide, open_calls, resuming_calls, small_head, two_calls}

mutual
  unfolding Sub

  loop_twice : (n : ℕ) → Sub small_head n Loop Twice
  loop_twice zero = tt
  loop_twice (suc n) = inr (loop_inner n)

  loop_inner : (n : ℕ) → Sub small_head n Loop Inner
  loop_inner zero = tt
  loop_inner (suc n) = inr (loop_twice n)

mutual
  unfolding Sub

  twice_loop : (n : ℕ) → Sub small_head n Twice Loop
  twice_loop zero = tt
  twice_loop (suc n) = inr (inner_loop n)

  inner_loop : (n : ℕ) → Sub small_head n Inner Loop
  inner_loop zero = tt
  inner_loop (suc n) = inr (twice_loop n)

nat_int : (n : ℕ) → Sub small_head n ANat AnInt
unfolding Sub
nat_int zero = tt
nat_int (suc n) = inr (inr (refl, refl))

int_nat : Sub small_head 1 AnInt ANat → ⊥
unfolding Sub
int_nat (inl h) = cc
int_nat (inr (inl h)) = cc
int_nat (inr (inr h)) = let e = h.0 in cc

unit_unit : (n : ℕ) → Sub small_head n AUnit AUnit
unfolding Sub
unit_unit zero = tt
unit_unit (suc n) = inr tt

pair_single : (n : ℕ) → Sub small_head n Pair Single
unfolding Sub
pair_single zero = tt
pair_single (suc n) = inr (nat_int n, tt)

success_outcome : (n : ℕ) → Sub small_head n Success Outcome
unfolding Sub
success_outcome zero = tt
success_outcome (suc n) = inr (unit_unit n, tt)

narrow_wide : (n : ℕ) → Sub small_head n Narrow Wide
unfolding Sub
narrow_wide zero = tt
narrow_wide (suc n) = inr (refl, (nat_int n, tt), (nat_int n, tt))

asked_any : (n : ℕ) → Sub small_head n Asked AnAny
unfolding Sub
asked_any zero = tt
asked_any (suc n) = inl refl

t_t : (n : ℕ) → Sub small_head n ParameterT ParameterT
unfolding Sub
t_t zero = tt
t_t (suc n) = inr tt

t_int : (n : ℕ) → Sub small_head n ParameterT AnInt
unfolding Sub
t_int zero = tt
t_int (suc n) = inr (nat_int n)

pub own_parameter : IsSubtype small_head ParameterT ParameterT
own_parameter = record { by = t_t }

pub bound_below : IsSubtype small_head ParameterT AnInt
bound_below = record { by = t_int }

pub loop_below : IsSubtype small_head Loop Twice
loop_below = record { by = loop_twice }

pub loop_above : IsSubtype small_head Twice Loop
loop_above = record { by = twice_loop }

pub pair_below : IsSubtype small_head Pair Single
pair_below = record { by = pair_single }

pub success_below : IsSubtype small_head Success Outcome
success_below = record { by = success_outcome }

pub narrow_below : IsSubtype small_head Narrow Wide
narrow_below = record { by = narrow_wide }

pub asked_below : IsSubtype small_head Asked AnAny
asked_below = record { by = asked_any }

-- ---- failures

at_zero : (t u : Small) (m : ℕ) → m < 1 → Sub small_head m t u
unfolding Sub
at_zero t u zero h = tt
at_zero t u (suc m) h = absurd (omega arith)

at_one : (t u : Small) → Sub small_head 1 t u → (m : ℕ) → m < 2 → Sub small_head m t u
unfolding Sub
at_one t u s zero h = tt
at_one t u s (suc zero) h = s
at_one t u s (suc (suc m)) h = absurd (omega arith)

nat_text : Sub small_head 1 ANat AText → ⊥
unfolding Sub
nat_text (inl h) = cc
nat_text (inr h) = h

single_pair : Sub small_head 1 Single Pair → ⊥
unfolding Sub
single_pair (inl h) = cc
single_pair (inr h) = h.1.0

outcome_success : Sub small_head 1 Outcome Success → ⊥
unfolding Sub
outcome_success (inl h) = cc
outcome_success (inr h) = h.0

asked_wide : Sub small_head 1 Asked Wide → ⊥
unfolding Sub
asked_wide (inl h) = cc
asked_wide (inr h) = let e = h.0 in cc

nat_cell : Sub small_head 2 NatCell IntCell → ⊥
unfolding Sub
nat_cell (inl h) = cc
nat_cell (inr h) = int_nat h.0.1

int_cell : Sub small_head 2 IntCell NatCell → ⊥
unfolding Sub
int_cell (inl h) = cc
int_cell (inr h) = int_nat h.0.0

wide_narrow : Sub small_head 2 Wide Narrow → ⊥
unfolding Sub
wide_narrow (inl h) = cc
wide_narrow (inr h) = int_nat h.1.0

nat_t : Sub small_head 1 ANat ParameterT → ⊥
unfolding Sub
nat_t (inl h) = cc
nat_t (inr h) = h

nat_u : Sub small_head 1 ANat ParameterU → ⊥
unfolding Sub
nat_u (inl h) = cc
nat_u (inr h) = h

t_u : Sub small_head 2 ParameterT ParameterU → ⊥
unfolding Sub
t_u (inl h) = cc
t_u (inr h) = nat_u h

t_u_head : Sub small_head 1 ParameterT ParameterU
unfolding Sub
t_u_head = inr tt

nat_cell_head : Sub small_head 1 NatCell IntCell
unfolding Sub
nat_cell_head = inr ((tt, tt), tt)

int_cell_head : Sub small_head 1 IntCell NatCell
unfolding Sub
int_cell_head = inr ((tt, tt), tt)

wide_head : Sub small_head 1 Wide Narrow
unfolding Sub
wide_head = inr (refl, (tt, tt), (tt, tt))

pub text_fails : Fails small_head ANat AText 1
text_fails = record { at = nat_text; less = at_zero ANat AText }

pub single_fails : Fails small_head Single Pair 1
single_fails = record { at = single_pair; less = at_zero Single Pair }

pub outcome_fails : Fails small_head Outcome Success 1
outcome_fails = record { at = outcome_success; less = at_zero Outcome Success }

pub asked_fails : Fails small_head Asked Wide 1
asked_fails = record { at = asked_wide; less = at_zero Asked Wide }

pub nat_cell_fails : Fails small_head NatCell IntCell 2
nat_cell_fails = record { at = nat_cell; less = at_one NatCell IntCell nat_cell_head }

pub int_cell_fails : Fails small_head IntCell NatCell 2
int_cell_fails = record { at = int_cell; less = at_one IntCell NatCell int_cell_head }

pub wide_fails : Fails small_head Wide Narrow 2
wide_fails = record { at = wide_narrow; less = at_one Wide Narrow wide_head }

pub parameter_fails : Fails small_head ANat ParameterT 1
parameter_fails = record { at = nat_t; less = at_zero ANat ParameterT }

pub other_parameter_fails : Fails small_head ParameterT ParameterU 2
other_parameter_fails = record { at = t_u; less = at_one ParameterT ParameterU t_u_head }

-- ---- calls

abbrev call_of : ℕ → State ℕ → Call ℕ ℕ
call_of owner s = record { owner = owner; results = 0; resumes = None; state = s }

-- one call or another, by two comparisons of numbers
abbrev one_of : Call ℕ ℕ → Call ℕ ℕ → Bool → Bool → Option (Call ℕ ℕ)
one_of c d b e = if b then Some c else (if e then Some d else None)

abbrev owner_of : Option (Call ℕ ℕ) → ℕ
owner_of None = 0
owner_of (Some c) = c.owner

pub first_owner : OwnsOpen two_calls 3
first_owner = (7, call_of 3 Open, refl, refl, refl)

pub second_owner : OwnsOpen (set_state two_calls 7 Lost) 4
second_owner = (8, call_of 4 Open, refl, refl, refl)

pub resuming_owner : OwnsOpen resuming_calls 3
resuming_owner = (9, record { owner = 3; results = 0; resumes = Some 7; state = Open }, refl, refl, refl)

pub no_owner : OwnsOpen two_calls 5 → ⊥
no_owner (n, c, there, own, is) = by (nat_eq 7 n) (nat_eq 8 n) c there own where
  by : (b e : Bool) (c : Call ℕ ℕ) → one_of (call_of 3 Open) (call_of 4 Open) b e ≡ Some c → c.owner ≡ 5 → ⊥
  by true e c there own = let o = ap owner_of there in absurd (omega arith)
  by false true c there own = let o = ap owner_of there in absurd (omega arith)
  by false false c there own = cc

pub answered_owner : OwnsOpen (set_state two_calls 7 (Answered (Some 9))) 3 → ⊥
answered_owner (n, c, there, own, is) = by (nat_eq 7 n) (nat_eq 8 n) c there own is where
  by : (b e : Bool) (c : Call ℕ ℕ) → one_of (call_of 3 (Answered (Some 9))) (call_of 4 Open) b e ≡ Some c → c.owner ≡ 3 → c.state ≡ Open → ⊥
  by true e c there own is = let s = ap state_of there in cc
  by false true c there own is = let o = ap owner_of there in absurd (omega arith)
  by false false c there own is = cc

first_found : (b : Bool) (d : Call ℕ ℕ) → b ≡ true → (if b then Some d else None) ≡ Some d
first_found true d h = refl
first_found false d h = cc

later_found : (b : Bool) (c d : Call ℕ ℕ) (o : Option (Call ℕ ℕ)) → (b ≡ true → ⊥) → o ≡ Some d → (if b then Some c else o) ≡ Some d
later_found true c d o h e = absurd (h refl)
later_found false c d o h e = e

-- the call at the end has the next number
last_found : (first number : ℕ) (calls : List (Call ℕ ℕ)) (d : Call ℕ ℕ) → number ≡ first + length calls → call_from first (calls ++ d ∷ []) number ≡ Some d
last_found first number [] d e = first_found (nat_eq first number) d ((unsigned_Decides first number).1 (omega arith))
last_found first number (c ∷ calls) d e =
    let apart : nat_eq first number ≡ true → ⊥ = λ h. let same : first ≡ number = (unsigned_Decides first number).0 h in absurd (omega arith) in
    later_found (nat_eq first number) c d (call_from (suc first) (calls ++ d ∷ []) number) apart (last_found (suc first) number calls d (omega arith))

pub next_is_open : (table : CallTable ℕ ℕ) (owner results : ℕ) (resumes : Option ℕ) → IsOpen (opened table owner results resumes) (next_number table)
next_is_open table owner results resumes = ap state_of (last_found table.first (next_number table) table.calls (record { owner = owner; results = results; resumes = resumes; state = Open }) refl)

one_longer : (b : Bool) (m n : ℕ) → m ≡ suc n → (if b then suc m else m) ≡ suc (if b then suc n else n)
one_longer true m n h = ap (λ (k : ℕ). suc k) h
one_longer false m n h = h

one_more : (calls : List (Call ℕ ℕ)) → count_open (calls ++ call_of 3 Open ∷ []) ≡ suc (count_open calls)
one_more [] = refl
one_more (d ∷ calls) = one_longer (is_open_state d.state) (count_open (calls ++ call_of 3 Open ∷ [])) (count_open calls) (one_more calls)

counted : (n : ℕ) → open_count (open_calls n) ≡ n
counted zero = refl
counted (suc n) = one_more (open_calls n).calls ∙ ap (λ (n : ℕ). suc n) (counted n)

pub room_below : (n : ℕ) → n < 500 → HasRoom (open_calls n)
room_below n h = subst (λ k. k < 500) (sym (counted n)) h

pub no_room : (n : ℕ) → 500 ≤ n → HasRoom (open_calls n) → ⊥
no_room n h r = let k : n < 500 = subst (λ k. k < 500) (counted n) r in absurd (omega arith)
