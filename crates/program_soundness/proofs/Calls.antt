-- Tables of outgoing calls, where calls are added or answered, and activations, where one is set or added.
use Rattle.std.proofs.Common.{◌≡◌, ◌⊎◌, inl, inr, ℕ, zero, suc, ◌+◌, ◌<◌, List, [], ◌∷◌, ◌++◌, length, map, Bool, true, false, true≢false, Option, Some, None, refl, sym, ap, ◌∙◌, subst, slice_set, nat_eq, if◌then◌else◌, arith, eq-eqb, eqb-true}
use Rattle.mo_types.specs.Calls.{State, is_open_state, call_from, set_from}
use Rattle.mo_actor.specs.Completions.{open_call}
use Rattle.mo_actor.specs.States.{Activation, IsAnswered, or_answered, activation_at}
use Rattle.mo_actor.proofs.Lists.{get_set_other}
use Rattle.mo_meaning.specs.Acts.{Given}
use Rattle.mo_meaning.specs.Kernel.{kernel, Outgoing}
use Rattle.program_soundness.proofs.Tables.{Entry, in_range}

-- ---- activations

abbrev pub Standing : Type 0
Standing = Activation kernel

-- what holds of the one that is set, and of one that never came, holds of the one that is found there
pub at_set : (acts : List Standing) (owner : ℕ) (x : Standing) (P : Standing → Type 0) → P x → P IsAnswered → P (activation_at (slice_set acts owner x) owner)
at_set [] owner x P h i = i
at_set (y ∷ acts) zero x P h i = h
at_set (y ∷ acts) (suc owner) x P h i = at_set acts owner x P h i

pub at_other : (acts : List Standing) (owner other : ℕ) (x : Standing) → (other ≡ owner → ⊥) → activation_at (slice_set acts owner x) other ≡ activation_at acts other
at_other acts owner other x differ = ap or_answered (get_set_other acts owner other x differ)

-- of each activation where one is set
pub each_set : (acts : List Standing) (owner : ℕ) (x : Standing) (P : Standing → Type 0) → ((other : ℕ) → P (activation_at acts other)) → P x → P IsAnswered → (other : ℕ) → P (activation_at (slice_set acts owner x) other)
each_set acts owner x P all h i other = by (nat_eq other owner) refl
  where
    by : (b : Bool) → nat_eq other owner ≡ b → P (activation_at (slice_set acts owner x) other)
    by true e = subst (λ n. P (activation_at (slice_set acts owner x) n)) (sym (eqb-true other owner e)) (at_set acts owner x P h i)
    by false e = subst P (sym (at_other acts owner other x (λ q. true≢false (sym (eq-eqb other owner q) ∙ e)))) (all other)

-- of each activation where one is added
pub each_pushed : (acts : List Standing) (x : Standing) (P : Standing → Type 0) → ((other : ℕ) → P (activation_at acts other)) → P x → (other : ℕ) → P (activation_at (acts ++ x ∷ []) other)
each_pushed [] x P all h zero = h
each_pushed [] x P all h (suc other) = all 0
each_pushed (y ∷ acts) x P all h zero = all 0
each_pushed (y ∷ acts) x P all h (suc other) = each_pushed acts x P (λ n. all (suc n)) h other

-- ---- calls that are added

-- a number of an earlier call is that of an earlier call still
pub found_front : (first : ℕ) (cs ds : List Entry) (n : ℕ) (c : Entry) → n < first + length cs → call_from first (cs ++ ds) n ≡ Some c → call_from first cs n ≡ Some c
found_front first [] ds n c h q = let r = in_range first ds n c q in absurd (omega (arith, h, r.0))
found_front first (d ∷ cs) ds n c h q = by (nat_eq first n) q (λ k. found_front (suc first) cs ds n c (omega (arith, h)) k)
  where
    by : (b : Bool) → (if b then Some d else call_from (suc first) (cs ++ ds) n) ≡ Some c → (call_from (suc first) (cs ++ ds) n ≡ Some c → call_from (suc first) cs n ≡ Some c) → (if b then Some d else call_from (suc first) cs n) ≡ Some c
    by true k later = k
    by false k later = later k

-- calls that differ in their owner alone
pub record Alike (c d : Entry) : Type 0 where
  pub results : c.results ≡ d.results
  pub resumes : c.resumes ≡ d.resumes
  pub state : c.state ≡ d.state

alike_self : (c : Entry) → Alike c c
alike_self c = record { results = refl; resumes = refl; state = refl }

pub reowned : (first : ℕ) (cs : List Entry) (calls : List Outgoing) (a b n : ℕ) (c : Entry) → call_from first (cs ++ map (open_call {L = kernel} a) calls) n ≡ Some c
    → (d : Entry) × (call_from first (cs ++ map (open_call {L = kernel} b) calls) n ≡ Some d) × Alike c d
reowned first [] [] a b n c q = absurd (let z : None ≡ Some c = q in cc)
reowned first [] (k ∷ calls) a b n c q = by (nat_eq first n) q (λ r. reowned (suc first) [] calls a b n c r)
  where
    by : (t : Bool) → (if t then Some (open_call {L = kernel} a k) else call_from (suc first) (map (open_call {L = kernel} a) calls) n) ≡ Some c
        → (call_from (suc first) (map (open_call {L = kernel} a) calls) n ≡ Some c → (d : Entry) × (call_from (suc first) (map (open_call {L = kernel} b) calls) n ≡ Some d) × Alike c d)
        → (d : Entry) × ((if t then Some (open_call {L = kernel} b k) else call_from (suc first) (map (open_call {L = kernel} b) calls) n) ≡ Some d) × Alike c d
    by true r later =
        let same : open_call {L = kernel} a k ≡ c = cc in
        (open_call {L = kernel} b k, refl, record { results = ap (λ (x : Entry). x.results) (sym same); resumes = ap (λ (x : Entry). x.resumes) (sym same); state = ap (λ (x : Entry). x.state) (sym same) })
    by false r later = later r
reowned first (e ∷ cs) calls a b n c q = by (nat_eq first n) q (λ r. reowned (suc first) cs calls a b n c r)
  where
    by : (t : Bool) → (if t then Some e else call_from (suc first) (cs ++ map (open_call {L = kernel} a) calls) n) ≡ Some c
        → (call_from (suc first) (cs ++ map (open_call {L = kernel} a) calls) n ≡ Some c → (d : Entry) × (call_from (suc first) (cs ++ map (open_call {L = kernel} b) calls) n ≡ Some d) × Alike c d)
        → (d : Entry) × ((if t then Some e else call_from (suc first) (cs ++ map (open_call {L = kernel} b) calls) n) ≡ Some d) × Alike c d
    by true r later = (c, r, alike_self c)
    by false r later = later r

-- ---- a call that is answered

pub set_length : (first : ℕ) (cs : List Entry) (number : ℕ) (st : State Given) → length (set_from first cs number st) ≡ length cs
set_length first [] number st = refl
set_length first (c ∷ cs) number st = by (nat_eq first number) (set_length (suc first) cs number st)
  where
    by : (b : Bool) → length (set_from (suc first) cs number st) ≡ length cs → length (if b then record c { state = st } ∷ cs else c ∷ set_from (suc first) cs number st) ≡ suc (length cs)
    by true h = refl
    by false h = ap suc h

abbrev pub Moved : Entry → ℕ → ℕ → State Given → Option Entry → Type 0
Moved c number n st o = (d : Entry) × (o ≡ Some d) × (c.results ≡ d.results) × (c.resumes ≡ d.resumes) × ((c.state ≡ d.state) ⊎ ((n ≡ number) × (st ≡ d.state)))

-- each call stays, but for the state of the one
pub set_found : (first : ℕ) (cs : List Entry) (number n : ℕ) (st : State Given) (c : Entry) → call_from first cs n ≡ Some c → Moved c number n st (call_from first (set_from first cs number st) n)
set_found first [] number n st c q = absurd (let z : None ≡ Some c = q in cc)
set_found first (e ∷ cs) number n st c q = by (nat_eq first number) refl (λ r. set_found (suc first) cs number n st c r)
  where
    at_it : first ≡ number → (t : Bool) → nat_eq first n ≡ t → (if t then Some e else call_from (suc first) cs n) ≡ Some c → Moved c number n st (if t then Some (record e { state = st }) else call_from (suc first) cs n)
    at_it f true j r =
        let same : e ≡ c = cc in
        (record e { state = st }, refl, ap (λ (x : Entry). x.results) (sym same), ap (λ (x : Entry). x.resumes) (sym same), inr (sym (eqb-true first n j) ∙ f, refl))
    at_it f false j r = (c, r, refl, refl, inl refl)

    at_others : (t : Bool) → (if t then Some e else call_from (suc first) cs n) ≡ Some c → (call_from (suc first) cs n ≡ Some c → Moved c number n st (call_from (suc first) (set_from (suc first) cs number st) n))
        → Moved c number n st (if t then Some e else call_from (suc first) (set_from (suc first) cs number st) n)
    at_others true r later = (c, r, refl, refl, inl refl)
    at_others false r later = later r

    by : (b : Bool) → nat_eq first number ≡ b → (call_from (suc first) cs n ≡ Some c → Moved c number n st (call_from (suc first) (set_from (suc first) cs number st) n))
        → Moved c number n st (call_from first (if b then record e { state = st } ∷ cs else e ∷ set_from (suc first) cs number st) n)
    by true i later = at_it (eqb-true first number i) (nat_eq first n) refl q
    by false i later = at_others (nat_eq first n) q later

-- a call that is open still was open before
pub set_open : (first : ℕ) (cs : List Entry) (number n : ℕ) (st : State Given) (d : Entry) → is_open_state st ≡ false → call_from first (set_from first cs number st) n ≡ Some d → is_open_state d.state ≡ true → call_from first cs n ≡ Some d
set_open first [] number n st d shut q o = absurd (let z : None ≡ Some d = q in cc)
set_open first (e ∷ cs) number n st d shut q o = by (nat_eq first number) q (λ r. set_open (suc first) cs number n st d shut r o)
  where
    at_it : (t : Bool) → (if t then Some (record e { state = st }) else call_from (suc first) cs n) ≡ Some d → (if t then Some e else call_from (suc first) cs n) ≡ Some d
    at_it true r =
        let same : record e { state = st } ≡ d = cc in
        absurd (true≢false (sym o ∙ ap (λ (x : Entry). is_open_state x.state) (sym same) ∙ shut))
    at_it false r = r

    at_others : (t : Bool) → (if t then Some e else call_from (suc first) (set_from (suc first) cs number st) n) ≡ Some d → (call_from (suc first) (set_from (suc first) cs number st) n ≡ Some d → call_from (suc first) cs n ≡ Some d)
        → (if t then Some e else call_from (suc first) cs n) ≡ Some d
    at_others true r later = r
    at_others false r later = later r

    by : (b : Bool) → call_from first (if b then record e { state = st } ∷ cs else e ∷ set_from (suc first) cs number st) n ≡ Some d → (call_from (suc first) (set_from (suc first) cs number st) n ≡ Some d → call_from (suc first) cs n ≡ Some d)
        → call_from first (e ∷ cs) n ≡ Some d
    by true r later = at_it (nat_eq first n) r
    by false r later = at_others (nat_eq first n) r later
