-- The table of an actor's outgoing calls: of each its owner, its result types, the future that it resumes, and where it
-- stands. The types of the results and of the answers are those of the language that is told.
use Rattle.std.specs.Prelude.{◌≡◌, ℕ, suc, ◌+◌, ◌<◌, Bool, true, false, List, [], ◌∷◌, ◌++◌, length, nat_eq, Option, Some, None, if◌then◌else◌}

pub data State (V : Type 0) : Type 0 where
  Open : State V
  -- with a value or an error; with neither where a trap on the answer left its waiting owner dead
  Answered : Option V → State V
  -- a trap came on the answer, for which the owner did not wait; an `await` of it from then on waits for no call
  Lost : State V

pub record Call (T V : Type 0) : Type 0 where
  -- the incoming call that made it
  pub owner : ℕ
  pub results : T
  -- the call whose answered future it resumes
  pub resumes : Option ℕ
  pub state : State V

-- the calls in the order in which they were made, numbered from `first` on: what is told may begin after earlier calls
pub record CallTable (T V : Type 0) : Type 0 where
  pub first : ℕ
  pub calls : List (Call T V)

abbrev pub is_open_state : {V : Type 0} → State V → Bool
is_open_state Open = true
is_open_state _ = false

module _ {T V : Type 0} where
  -- a table that begins at this number
  abbrev pub no_calls : ℕ → CallTable T V
  no_calls first = record { first = first; calls = [] }

  abbrev pub count_open : List (Call T V) → ℕ
  count_open [] = 0
  count_open (c ∷ cs) = if is_open_state c.state then suc (count_open cs) else count_open cs

  -- how many calls are open
  abbrev pub open_count : CallTable T V → ℕ
  open_count table = count_open table.calls

  -- a further call is let through below 500 open ones
  abbrev pub HasRoom : CallTable T V → Type 0
  HasRoom table = open_count table < 500

  abbrev pub next_number : CallTable T V → ℕ
  next_number table = table.first + length table.calls

  -- a further call, under the next number
  abbrev pub opened : CallTable T V → ℕ → T → Option ℕ → CallTable T V
  opened table owner results resumes = record table { calls = table.calls ++ record { owner = owner; results = results; resumes = resumes; state = Open } ∷ [] }

  abbrev pub call_from : ℕ → List (Call T V) → ℕ → Option (Call T V)
  call_from first [] number = None
  call_from first (c ∷ cs) number = if nat_eq first number then Some c else call_from (suc first) cs number

  -- the call of this number
  abbrev pub call_at : CallTable T V → ℕ → Option (Call T V)
  call_at table number = call_from table.first table.calls number

  abbrev pub state_of : Option (Call T V) → Option (State V)
  state_of None = None
  state_of (Some c) = Some c.state

  -- the call of this number is open
  abbrev pub IsOpen : CallTable T V → ℕ → Type 0
  IsOpen table number = state_of (call_at table number) ≡ Some Open

  abbrev pub set_from : ℕ → List (Call T V) → ℕ → State V → List (Call T V)
  set_from first [] number s = []
  set_from first (c ∷ cs) number s = if nat_eq first number then record c { state = s } ∷ cs else c ∷ set_from (suc first) cs number s

  -- the table with the call of this number in another state
  abbrev pub set_state : CallTable T V → ℕ → State V → CallTable T V
  set_state table number s = record table { calls = set_from table.first table.calls number s }

  -- whether the owner has an open call
  abbrev pub OwnsOpen : CallTable T V → ℕ → Type 0
  OwnsOpen table owner = (number : ℕ) × (c : Call T V) × (call_at table number ≡ Some c) × (c.owner ≡ owner) × (c.state ≡ Open)
