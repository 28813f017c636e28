-- The open calls of an actor's table, and those of the host, through each change.
use Rattle.std.proofs.Common.{◌≡◌, ℕ, suc, ◌<◌, Bool, true, false, ◌&&◌, ◌||◌, cond, if◌then◌else◌, List, [], ◌∷◌, length, map, Option, Some, None, refl, sym, ap, ap₂, ◌∙◌, subst, nat_eq, find, eqb-true, eq-eqb, ne_eqb, true≢false, arith}
use Rattle.std.specs.List.{list_any}
use Rattle.mo_types.specs.Calls.{State, Call, is_open_state, call_from, set_from}
use Rattle.canister_host.specs.declared.calls.OpenCall.{OpenCall}
use Rattle.actor_refinement.specs.Agreement.{CallOwner, owner_of, open_owners}
use Rattle.actor_refinement.specs.Simulates.{others_open}

abbrev pub entry : ℕ → ℕ → CallOwner
entry number owner = record { number = number; owner = owner }

-- ---- by number

module _ {T V : Type 0} where
  find_later : (n m : ℕ) (calls : List (Call T V)) (waiting : List OpenCall) → n < m → map owner_of waiting ≡ open_owners m calls → find (λ w. nat_eq w.number n) waiting ≡ None
  find_later n m [] [] lt e = refl
  find_later n m [] (w ∷ waiting) lt e = absurd (cc)
  find_later n m (c ∷ calls) waiting lt e = by (is_open_state c.state) waiting (λ ws. find_later n (suc m) calls ws (omega (arith, lt))) e
    where
      by : (b : Bool) (waiting : List OpenCall) → ((ws : List OpenCall) → map owner_of ws ≡ open_owners (suc m) calls → find (λ w. nat_eq w.number n) ws ≡ None)
          → map owner_of waiting ≡ cond b (entry m c.owner ∷ open_owners (suc m) calls) (open_owners (suc m) calls) → find (λ w. nat_eq w.number n) waiting ≡ None
      by false waiting next e = next waiting e
      by true [] next e = absurd (cc)
      by true (w ∷ waiting) next e =
          let head : owner_of w ≡ entry m c.owner = cc in
          let rest : map owner_of waiting ≡ open_owners (suc m) calls = cc in
          let number : w.number ≡ m = ap (λ o. o.number) head in
          let other : nat_eq w.number n ≡ false = ne_eqb w.number n (λ q. omega (arith, q, number, lt)) in
          rw other (next waiting rest)

  -- What the host finds of a number, where the table has this.
  abbrev pub Finds : ℕ → Option (Call T V) → Option OpenCall → Type 0
  Finds number None found = found ≡ None
  Finds number (Some c) found = cond (is_open_state c.state) ((o : OpenCall) × (found ≡ Some o) × (o.owner ≡ c.owner)) (found ≡ None)

  found_eq : (n number : ℕ) (c : Call T V) (calls : List (Call T V)) (t : Bool) → nat_eq n number ≡ t → call_from n (c ∷ calls) number ≡ (if t then Some c else call_from (suc n) calls number)
  found_eq n number c calls t e = ap (λ b. if b then Some c else call_from (suc n) calls number) e

  pub find_open : (n number : ℕ) (calls : List (Call T V)) (waiting : List OpenCall) → map owner_of waiting ≡ open_owners n calls → Finds number (call_from n calls number) (find (λ w. nat_eq w.number number) waiting)
  find_open n number [] [] e = refl
  find_open n number [] (w ∷ waiting) e = absurd (cc)
  find_open n number (c ∷ calls) waiting e =
      here (nat_eq n number) refl (λ ws q. find_open (suc n) number calls ws q)
    where
      same : (b : Bool) → is_open_state c.state ≡ b → n ≡ number → (waiting : List OpenCall) → map owner_of waiting ≡ cond b (entry n c.owner ∷ open_owners (suc n) calls) (open_owners (suc n) calls)
          → cond b ((o : OpenCall) × (find (λ w. nat_eq w.number number) waiting ≡ Some o) × (o.owner ≡ c.owner)) (find (λ w. nat_eq w.number number) waiting ≡ None)
      same false b is waiting e = find_later number (suc n) calls waiting (omega (arith, is)) e
      same true b is [] e = absurd (cc)
      same true b is (w ∷ waiting) e =
          let head : owner_of w ≡ entry n c.owner = cc in
          let here : nat_eq w.number number ≡ true = eq-eqb w.number number (ap (λ o. o.number) head ∙ is) in
          (w, rw here refl, ap (λ o. o.owner) head)

      other : (b : Bool) → (n ≡ number → ⊥) → (found : Option (Call T V)) → (waiting : List OpenCall) → ((ws : List OpenCall) → map owner_of ws ≡ open_owners (suc n) calls → Finds number found (find (λ w. nat_eq w.number number) ws))
          → map owner_of waiting ≡ cond b (entry n c.owner ∷ open_owners (suc n) calls) (open_owners (suc n) calls) → Finds number found (find (λ w. nat_eq w.number number) waiting)
      other false is found waiting next e = next waiting e
      other true is found [] next e = absurd (cc)
      other true is found (w ∷ waiting) next e =
          let head : owner_of w ≡ entry n c.owner = cc in
          let rest : map owner_of waiting ≡ open_owners (suc n) calls = cc in
          let past : nat_eq w.number number ≡ false = ne_eqb w.number number (λ q. is (sym (ap (λ o. o.number) head) ∙ q)) in
          subst (Finds number found) (sym (ap (λ b. cond b (Some w) (find (λ w. nat_eq w.number number) waiting)) past)) (next waiting rest)

      here : (t : Bool) → nat_eq n number ≡ t → ((ws : List OpenCall) → map owner_of ws ≡ open_owners (suc n) calls → Finds number (call_from (suc n) calls number) (find (λ w. nat_eq w.number number) ws))
          → Finds number (call_from n (c ∷ calls) number) (find (λ w. nat_eq w.number number) waiting)
      here true t next =
          subst (λ found. Finds number found (find (λ w. nat_eq w.number number) waiting)) (sym (found_eq n number c calls true t)) (same (is_open_state c.state) refl (eqb-true n number t) waiting e)
      here false t next =
          subst (λ found. Finds number found (find (λ w. nat_eq w.number number) waiting)) (sym (found_eq n number c calls false t))
          (other (is_open_state c.state) (λ q. absurd (true≢false (sym (eq-eqb n number q) ∙ t))) (call_from (suc n) calls number) waiting next e)

  -- A call that is answered leaves the list.

  keep_later : (n m : ℕ) (calls : List (Call T V)) (waiting : List OpenCall) → n < m → map owner_of waiting ≡ open_owners m calls → others_open n waiting ≡ waiting
  keep_later n m [] [] lt e = refl
  keep_later n m [] (w ∷ waiting) lt e = absurd (cc)
  keep_later n m (c ∷ calls) waiting lt e = by (is_open_state c.state) waiting (λ ws. keep_later n (suc m) calls ws (omega (arith, lt))) e
    where
      by : (b : Bool) (waiting : List OpenCall) → ((ws : List OpenCall) → map owner_of ws ≡ open_owners (suc m) calls → others_open n ws ≡ ws)
          → map owner_of waiting ≡ cond b (entry m c.owner ∷ open_owners (suc m) calls) (open_owners (suc m) calls) → others_open n waiting ≡ waiting
      by false waiting next e = next waiting e
      by true [] next e = refl
      by true (w ∷ waiting) next e =
          let head : owner_of w ≡ entry m c.owner = cc in
          let rest : map owner_of waiting ≡ open_owners (suc m) calls = cc in
          let number : w.number ≡ m = ap (λ o. o.number) head in
          let other : nat_eq w.number n ≡ false = ne_eqb w.number n (λ q. omega (arith, q, number, lt)) in
          rw other (ap (λ l. w ∷ l) (next waiting rest))

  pub open_set : (n number : ℕ) (calls : List (Call T V)) (waiting : List OpenCall) (st : State V) → is_open_state st ≡ false → map owner_of waiting ≡ open_owners n calls
      → map owner_of (others_open number waiting) ≡ open_owners n (set_from n calls number st)
  open_set n number [] [] st no_more e = refl
  open_set n number [] (w ∷ waiting) st no_more e = absurd (cc)
  open_set n number (c ∷ calls) waiting st no_more e = here (nat_eq n number) refl (λ ws q. open_set (suc n) number calls ws st no_more q)
    where
      same : (b : Bool) → n ≡ number → (waiting : List OpenCall) → map owner_of waiting ≡ cond b (entry n c.owner ∷ open_owners (suc n) calls) (open_owners (suc n) calls)
          → map owner_of (others_open number waiting) ≡ open_owners (suc n) calls
      same false is waiting e = ap (map owner_of) (keep_later number (suc n) calls waiting (omega (arith, is)) e) ∙ e
      same true is [] e = absurd (cc)
      same true is (w ∷ waiting) e =
          let head : owner_of w ≡ entry n c.owner = cc in
          let rest : map owner_of waiting ≡ open_owners (suc n) calls = cc in
          let it : nat_eq w.number number ≡ true = eq-eqb w.number number (ap (λ o. o.number) head ∙ is) in
          rw it (ap (map owner_of) (keep_later number (suc n) calls waiting (omega (arith, is)) rest) ∙ rest)

      other : (b : Bool) → (n ≡ number → ⊥) → (waiting : List OpenCall) → ((ws : List OpenCall) → map owner_of ws ≡ open_owners (suc n) calls → map owner_of (others_open number ws) ≡ open_owners (suc n) (set_from (suc n) calls number st))
          → map owner_of waiting ≡ cond b (entry n c.owner ∷ open_owners (suc n) calls) (open_owners (suc n) calls)
          → map owner_of (others_open number waiting) ≡ cond b (entry n c.owner ∷ open_owners (suc n) (set_from (suc n) calls number st)) (open_owners (suc n) (set_from (suc n) calls number st))
      other false is waiting next e = next waiting e
      other true is [] next e = absurd (cc)
      other true is (w ∷ waiting) next e =
          let head : owner_of w ≡ entry n c.owner = cc in
          let rest : map owner_of waiting ≡ open_owners (suc n) calls = cc in
          let past : nat_eq w.number number ≡ false = ne_eqb w.number number (λ q. is (sym (ap (λ o. o.number) head) ∙ q)) in
          rw past (ap₂ (λ o os. o ∷ os) head (next waiting rest))

      set_eq : (t : Bool) → nat_eq n number ≡ t → set_from n (c ∷ calls) number st ≡ (if t then record c { state = st } ∷ calls else c ∷ set_from (suc n) calls number st)
      set_eq t q = ap (λ b. if b then record c { state = st } ∷ calls else c ∷ set_from (suc n) calls number st) q

      here : (t : Bool) → nat_eq n number ≡ t → ((ws : List OpenCall) → map owner_of ws ≡ open_owners (suc n) calls → map owner_of (others_open number ws) ≡ open_owners (suc n) (set_from (suc n) calls number st))
          → map owner_of (others_open number waiting) ≡ open_owners n (set_from n (c ∷ calls) number st)
      here true t next =
          let closed : open_owners n (record c { state = st } ∷ calls) ≡ open_owners (suc n) calls = ap (λ b. cond b (entry n c.owner ∷ open_owners (suc n) calls) (open_owners (suc n) calls)) no_more in
          same (is_open_state c.state) (eqb-true n number t) waiting e ∙ sym closed ∙ sym (ap (open_owners n) (set_eq true t))
      here false t next =
          other (is_open_state c.state) (λ q. absurd (true≢false (sym (eq-eqb n number q) ∙ t))) waiting next e ∙ sym (ap (open_owners n) (set_eq false t))

  pub length_set : (n number : ℕ) (calls : List (Call T V)) (st : State V) → length (set_from n calls number st) ≡ length calls
  length_set n number [] st = refl
  length_set n number (c ∷ calls) st = by (nat_eq n number) (length_set (suc n) number calls st)
    where
      by : (b : Bool) → length (set_from (suc n) calls number st) ≡ length calls → length (if b then record c { state = st } ∷ calls else c ∷ set_from (suc n) calls number st) ≡ suc (length calls)
      by true next = refl
      by false next = ap suc next

  -- Who owns an open call.
  pub owns_same : (n owner : ℕ) (calls : List (Call T V)) (waiting : List OpenCall) → map owner_of waiting ≡ open_owners n calls
      → list_any (λ c. is_open_state c.state && nat_eq c.owner owner) calls ≡ list_any (λ w. nat_eq w.owner owner) waiting
  owns_same n owner [] [] e = refl
  owns_same n owner [] (w ∷ waiting) e = absurd (cc)
  owns_same n owner (c ∷ calls) waiting e = by (is_open_state c.state) waiting (λ ws. owns_same (suc n) owner calls ws) e
    where
      by : (b : Bool) (waiting : List OpenCall) → ((ws : List OpenCall) → map owner_of ws ≡ open_owners (suc n) calls → list_any (λ c. is_open_state c.state && nat_eq c.owner owner) calls ≡ list_any (λ w. nat_eq w.owner owner) ws)
          → map owner_of waiting ≡ cond b (entry n c.owner ∷ open_owners (suc n) calls) (open_owners (suc n) calls)
          → ((b && nat_eq c.owner owner) || list_any (λ c. is_open_state c.state && nat_eq c.owner owner) calls) ≡ list_any (λ w. nat_eq w.owner owner) waiting
      by false waiting next e = next waiting e
      by true [] next e = absurd (cc)
      by true (w ∷ waiting) next e =
          let head : owner_of w ≡ entry n c.owner = cc in
          let rest : map owner_of waiting ≡ open_owners (suc n) calls = cc in
          ap₂ (λ o t. nat_eq o owner || t) (sym (ap (λ o. o.owner) head)) (next waiting rest)
