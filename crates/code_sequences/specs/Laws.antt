-- The laws, as statements.
use Rattle.std.specs.Prelude.{◌≡◌, ◌⊎◌, ℕ, ◌+◌, ◌++◌, Bool, true}
use Rattle.wasm_tree.specs.declared.trap.Trap.{Trap}
use Rattle.wasm_tree.specs.Exec.{Store, State}
use Rattle.low_ir.specs.Tree.{Code, Module}
use Rattle.low_ir.specs.Meaning.{Calls, Breaks, run}
use Rattle.low_ir.specs.Flat.{flat}
use Rattle.low_rules.specs.Rule.{At, state, CodeEnd, Next, Leaps, Yields, Stops, ComesTo, Before}
use Rattle.code_sequences.specs.Sequences.{seq, is_open, then_run}

-- Code that has more behind it does what it does, and then that does what it does.
abbrev pub CodeRunsOn : Type 0 → Type 0
CodeRunsOn World = (pages : ℕ) (m : Module) (calls : Calls World) (more code : Code) (s : State World) → then_run (run pages m calls code s) (run pages m calls more) ≡ run pages m calls (seq code more) s

-- As lists, it is put behind it.
abbrev pub SequencesAreLists : Type 0
SequencesAreLists = (code more : Code) → is_open code ≡ true → flat (seq code more) ≡ flat code ++ flat more

-- Code that comes to its end, or traps.
abbrev pub Comes : {World : Type 0} → (At World → Type 0) → (Trap → ℕ → Store World → Type 0) → CodeEnd World → Type 0
Comes P Q (Next h) = P h
Comes P Q (Stops cause spent store) = Q cause spent store
Comes P Q (Leaps label h) = ⊥
Comes P Q (Yields h value) = ⊥

-- It comes to its end with so many steps, whatever is behind it,
pub record Goes {World : Type 0} (pages : ℕ) (m : Module) (calls : Calls World) (code : Code) (P : At World → Type 0) (h : At World) : Type 0 where
  pub to : At World
  pub holds : P to
  pub cost : ℕ
  pub total : to.spent ≡ h.spent + cost
  pub by : (more : Code) (left n : ℕ) → left ≡ cost + n → run pages m calls (seq code more) (state left h) ≡ run pages m calls more (state n to)

-- or it traps after so many.
pub record Falls {World : Type 0} (pages : ℕ) (m : Module) (calls : Calls World) (code : Code) (Q : Trap → ℕ → Store World → Type 0) (h : At World) : Type 0 where
  pub cause : Trap
  pub store : Store World
  pub cost : ℕ
  pub holds : Q cause (h.spent + cost) store
  pub by : (more : Code) (left n : ℕ) → left ≡ cost + n → run pages m calls (seq code more) (state left h) ≡ Breaks cause store

-- What the rule says of code, with calls as they are, so that its end or its trap holds by tests.
abbrev pub CodeGoesBefore : Type 0 → Type 0
CodeGoesBefore World =
    (pages : ℕ) (m : Module) (calls : Calls World) (code : Code) (p : At World → Bool) (q : Trap → ℕ → Store World → Bool) (h : At World)
    → Before pages m (λ f store args r. ComesTo calls f store args r) code (Comes (λ to. p to ≡ true) (λ cause spent store. q cause spent store ≡ true)) h
    → Goes pages m calls code (λ to. p to ≡ true) h ⊎ Falls pages m calls code (λ cause spent store. q cause spent store ≡ true) h
