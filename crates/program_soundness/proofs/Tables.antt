-- Numbers of calls in tables that grow.
use Rattle.std.proofs.Common.{◌≡◌, ℕ, suc, ◌+◌, ◌<◌, ◌≤◌, List, [], ◌∷◌, ◌++◌, length, map, Bool, true, false, cond, nat_lt, Some, None, refl, sym, ap, ◌∙◌, arith, eq-eqb, eqb-true, lt-ltb, le-ltb}
use Rattle.std.specs.Prelude.{nat_eq, if◌then◌else◌}
use Rattle.mo_types.specs.declared.node.TypeId.{TypeId}
use Rattle.mo_types.specs.Calls.{Open, Call, call_from, state_of}
use Rattle.mo_actor.specs.Completions.{open_call}
use Rattle.mo_meaning.specs.Acts.{Given}
use Rattle.mo_meaning.specs.Kernel.{kernel, Outgoing}

abbrev pub Entry : Type 0
Entry = Call (List TypeId) Given

-- a number that is found lies in the range of the table
pub in_range : (first : ℕ) (cs : List Entry) (n : ℕ) (c : Entry) → call_from first cs n ≡ Some c → (first ≤ n) × (n < first + length cs)
in_range first [] n c h = absurd (let z : None ≡ Some c = h in cc)
in_range first (d ∷ cs) n c h = by (nat_eq first n) refl h (λ k. in_range (suc first) cs n c k)
  where
    by : (b : Bool) → nat_eq first n ≡ b → (if b then Some d else call_from (suc first) cs n) ≡ Some c → (call_from (suc first) cs n ≡ Some c → (suc first ≤ n) × (n < suc first + length cs)) → (first ≤ n) × (n < first + suc (length cs))
    by true e k later = let same : first ≡ n = eqb-true first n e in (omega (arith, same), omega (arith, same))
    by false e k later = let r = later k in (omega (arith, r.0), omega (arith, r.1))

-- what is found is found still where there are more calls
pub found_before : (first : ℕ) (cs ds : List Entry) (n : ℕ) (c : Entry) → call_from first cs n ≡ Some c → call_from first (cs ++ ds) n ≡ Some c
found_before first [] ds n c h = absurd (let z : None ≡ Some c = h in cc)
found_before first (d ∷ cs) ds n c h = by (nat_eq first n) h (λ k. found_before (suc first) cs ds n c k)
  where
    by : (b : Bool) → (if b then Some d else call_from (suc first) cs n) ≡ Some c → (call_from (suc first) cs n ≡ Some c → call_from (suc first) (cs ++ ds) n ≡ Some c) → (if b then Some d else call_from (suc first) (cs ++ ds) n) ≡ Some c
    by true k later = k
    by false k later = later k

-- the call that was added last
pub found_last : (first : ℕ) (cs : List Entry) (c : Entry) (n : ℕ) → n ≡ first + length cs → call_from first (cs ++ c ∷ []) n ≡ Some c
found_last first [] c n e = ap (λ b. if b then Some c else None) (eq-eqb first n (omega (arith, e)))
found_last first (d ∷ cs) c n e = by (nat_eq first n) refl (found_last (suc first) cs c n (omega (arith, e)))
  where
    by : (b : Bool) → nat_eq first n ≡ b → call_from (suc first) (cs ++ c ∷ []) n ≡ Some c → (if b then Some d else call_from (suc first) (cs ++ c ∷ []) n) ≡ Some c
    by true q k = absurd (let same : first ≡ n = eqb-true first n q in omega (arith, e, same))
    by false q k = k

abbrev opened : List Outgoing → List Entry
opened calls = map (open_call {L = kernel} 0) calls

opened_length : (calls : List Outgoing) → length (opened calls) ≡ length calls
opened_length [] = refl
opened_length (c ∷ calls) = ap suc (opened_length calls)

opened_state : (first : ℕ) (calls : List Outgoing) (n : ℕ) (c : Entry) → call_from first (opened calls) n ≡ Some c → c.state ≡ Open
opened_state first [] n c h = absurd (let z : None ≡ Some c = h in cc)
opened_state first (d ∷ calls) n c h = by (nat_eq first n) h (λ k. opened_state (suc first) calls n c k)
  where
    by : (b : Bool) → (if b then Some (open_call {L = kernel} 0 d) else call_from (suc first) (opened calls) n) ≡ Some c → (call_from (suc first) (opened calls) n ≡ Some c → c.state ≡ Open) → c.state ≡ Open
    by true k later = let same : open_call {L = kernel} 0 d ≡ c = cc in ap (λ (x : Entry). x.state) (sym same)
    by false k later = later k

-- the state of a call as an execution finds it, where the calls that it made are open
pub state_found : (first : ℕ) (cs : List Entry) (calls : List Outgoing) (n next last : ℕ) (c : Entry) → next ≡ first + length cs → last ≡ next + length calls → call_from first (cs ++ opened calls) n ≡ Some c
    → cond (nat_lt n next) (state_of (call_from first cs n)) (cond (nat_lt n last) (Some Open) None) ≡ Some c.state
state_found first [] calls n next last c p q h =
    let r = in_range first (opened calls) n c h in
    let late : nat_lt n next ≡ false = le-ltb n next (omega (arith, p, r.0)) in
    let small : nat_lt n last ≡ true = lt-ltb n last (omega (arith, p, q, r.1, opened_length calls)) in
    ap (λ b. cond b None (cond (nat_lt n last) (Some Open) None)) late ∙ ap (λ b. cond b (Some Open) None) small ∙ ap Some (sym (opened_state first calls n c h))
state_found first (d ∷ cs) calls n next last c p q h = by (nat_eq first n) refl h (λ k. state_found (suc first) cs calls n next last c (omega (arith, p)) q k)
  where
    by : (b : Bool) → nat_eq first n ≡ b → (if b then Some d else call_from (suc first) (cs ++ opened calls) n) ≡ Some c
        → (call_from (suc first) (cs ++ opened calls) n ≡ Some c → cond (nat_lt n next) (state_of (call_from (suc first) cs n)) (cond (nat_lt n last) (Some Open) None) ≡ Some c.state)
        → cond (nat_lt n next) (state_of (if b then Some d else call_from (suc first) cs n)) (cond (nat_lt n last) (Some Open) None) ≡ Some c.state
    by true e k later =
        let same : first ≡ n = eqb-true first n e in
        let here : d ≡ c = cc in
        ap (λ b. cond b (Some d.state) (cond (nat_lt n last) (Some Open) None)) (lt-ltb n next (omega (arith, p, same))) ∙ ap (λ (x : Entry). Some x.state) here
    by false e k later = later k
