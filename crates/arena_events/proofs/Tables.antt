-- Outgoing calls by their numbers.
use Rattle.std.proofs.Common.{◌≡◌, ℕ, zero, suc, ◌+◌, ◌-◌, ◌<◌, ◌≤◌, List, [], ◌∷◌, Bool, true, false, cond, nat_eq, nat_lt, Some, None, refl, ap, ◌∙◌, arith}
use Rattle.std.specs.Prelude.{slice_get}
use Rattle.std.proofs.lemmas.Bool.{eq-eqb, eqb-true, ltb-false, ltb-true}
use Rattle.mo_types.specs.Calls.{Call, State, call_from, set_from}
use Rattle.mo_types.specs.Heads.{map_option}
use Rattle.mo_types.specs.declared.node.TypeId.{TypeId}
use Rattle.mo_meaning.specs.Acts.{Given}
use Rattle.mo_meaning.specs.Coding.{Coding, Types}
use Rattle.arena_actors.specs.declared.actor.Filled.{Filled}
use Rattle.arena_actors.specs.declared.actor.Made.{Made}
use Rattle.arena_actors.specs.States.{call_of, calls_of, state_of}
use Rattle.arena_outcomes.specs.Books.{state_set}
use Rattle.arena_events.specs.Filling.{call_in, place_of}

module _ {T V : Type 0} where
  -- a number before the first one has no call
  before : (first : ℕ) (cs : List (Call T V)) (n : ℕ) → n < first → call_from first cs n ≡ None
  before first [] n h = refl
  before first (c ∷ cs) n h = by (nat_eq first n) refl (before (suc first) cs n (omega arith))
    where
      by : (b : Bool) → nat_eq first n ≡ b → call_from (suc first) cs n ≡ None → cond b (Some c) (call_from (suc first) cs n) ≡ None
      by true e k = absurd (let same : first ≡ n = eqb-true first n e in omega arith)
      by false e k = k

  -- the call at a place has the number so far behind the first one
  at_place : (first : ℕ) (cs : List (Call T V)) (i : ℕ) → call_from first cs (first + i) ≡ slice_get cs i
  at_place first [] i = refl
  at_place first (c ∷ cs) zero = ap (λ (b : Bool). cond b (Some c) (call_from (suc first) cs (first + 0))) (eq-eqb first (first + 0) (omega arith))
  at_place first (c ∷ cs) (suc i) = by (nat_eq first (first + suc i)) refl (at_place (suc first) cs i)
    where
      by : (b : Bool) → nat_eq first (first + suc i) ≡ b → call_from (suc first) cs (suc first + i) ≡ slice_get cs i → cond b (Some c) (call_from (suc first) cs (first + suc i)) ≡ slice_get cs i
      by true e k = absurd (let same : first ≡ first + suc i = eqb-true first (first + suc i) e in omega arith)
      by false e k = let same : first + suc i ≡ suc first + i = omega arith in ap (λ (m : ℕ). call_from (suc first) cs m) same ∙ k

  abbrev set_at : List (Call T V) → ℕ → State V → List (Call T V)
  set_at [] i s = []
  set_at (c ∷ cs) zero s = record c { state = s } ∷ cs
  set_at (c ∷ cs) (suc i) s = c ∷ set_at cs i s

  put_place : (first : ℕ) (cs : List (Call T V)) (i : ℕ) (s : State V) → set_from first cs (first + i) s ≡ set_at cs i s
  put_place first [] i s = refl
  put_place first (c ∷ cs) zero s = ap (λ (b : Bool). cond b (record c { state = s } ∷ cs) (c ∷ set_from (suc first) cs (first + 0) s)) (eq-eqb first (first + 0) (omega arith))
  put_place first (c ∷ cs) (suc i) s = by (nat_eq first (first + suc i)) refl (put_place (suc first) cs i s)
    where
      by : (b : Bool) → nat_eq first (first + suc i) ≡ b → set_from (suc first) cs (suc first + i) s ≡ set_at cs i s
          → cond b (record c { state = s } ∷ cs) (c ∷ set_from (suc first) cs (first + suc i) s) ≡ c ∷ set_at cs i s
      by true e k = absurd (let same : first ≡ first + suc i = eqb-true first (first + suc i) e in omega arith)
      by false e k =
          let same : first + suc i ≡ suc first + i = omega arith in
          ap (λ (l : List (Call T V)). c ∷ l) (ap (λ (m : ℕ). set_from (suc first) cs m s) same ∙ k)

module _ (coding : Coding) (types : Types) where
  get_of : (ms : List Made) (i : ℕ) → slice_get (calls_of coding types ms) i ≡ map_option (call_of coding types) (slice_get ms i)
  get_of [] i = refl
  get_of (m ∷ ms) zero = refl
  get_of (m ∷ ms) (suc i) = get_of ms i

  put_of : (ms : List Made) (i : ℕ) (f : Filled) → set_at (calls_of coding types ms) i (state_of coding types f) ≡ calls_of coding types (state_set ms i f)
  put_of [] i f = refl
  put_of (m ∷ ms) zero f = refl
  put_of (m ∷ ms) (suc i) f = ap (λ (l : List (Call (List TypeId) Given)). call_of coding types m ∷ l) (put_of ms i f)

  -- the call of a number
  pub call_is : (first : ℕ) (ms : List Made) (number : ℕ) → call_from first (calls_of coding types ms) number ≡ map_option (call_of coding types) (call_in ms (place_of first number))
  call_is first ms number = by (nat_lt number first) refl
    where
      by : (b : Bool) → nat_lt number first ≡ b → call_from first (calls_of coding types ms) number ≡ map_option (call_of coding types) (call_in ms (cond b None (Some (number - first))))
      by true e = before first (calls_of coding types ms) number (ltb-true number first e)
      by false e =
          let high : first ≤ number = ltb-false number first e in
          let same : number ≡ first + (number - first) = omega arith in
          ap (λ (m : ℕ). call_from first (calls_of coding types ms) m) same ∙ at_place first (calls_of coding types ms) (number - first) ∙ get_of ms (number - first)

  -- the call of a number in another state
  pub put_is : (first : ℕ) (ms : List Made) (number place : ℕ) (f : Filled) → place_of first number ≡ Some place
      → set_from first (calls_of coding types ms) number (state_of coding types f) ≡ calls_of coding types (state_set ms place f)
  put_is first ms number place f is = by (nat_lt number first) refl is
    where
      by : (b : Bool) → nat_lt number first ≡ b → cond b None (Some (number - first)) ≡ Some place
          → set_from first (calls_of coding types ms) number (state_of coding types f) ≡ calls_of coding types (state_set ms place f)
      by true e k = absurd (let none : None ≡ Some place = k in cc)
      by false e k =
          let high : first ≤ number = ltb-false number first e in
          let at : number - first ≡ place = cc in
          let same : number ≡ first + place = omega arith in
          ap (λ (m : ℕ). set_from first (calls_of coding types ms) m (state_of coding types f)) same ∙ put_place first (calls_of coding types ms) place (state_of coding types f) ∙ put_of ms place f
