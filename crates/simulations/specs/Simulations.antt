-- A machine that is simulated by another one, step by step, and what then holds of whole runs.
use Rattle.std.specs.Prelude.{◌≡◌, ℕ, suc, ◌<◌, ◌≤◌, ◌⊎◌, List, []}
use Rattle.simulations.specs.Machines.{Step, Go, End, Standing, Still, Over, run, Reaches, Finishes}

-- `step` is the machine whose runs are looked at, and `other` the one that does the same.
module _ {O S T R Q : Type 0} (step : S → Step O S R) (other : T → Step O T Q) (Related : S → T → Type 0) (Fits : R → Q → Type 0) (measure : S → ℕ) where
  -- A step without outputs may be met by none while the measure falls; else by one or more.
  abbrev pub Matches : Step O S R → S → T → Type 0
  Matches (Go out next) s t =
      ((out ≡ []) × Related next t × (measure next < measure s)) ⊎ ((steps : ℕ) × (u : T) × Reaches other (suc steps) out t u × Related next u)
  Matches (End result) s t = (steps : ℕ) × (q : Q) × Finishes other steps t q × Fits result q

  abbrev pub Simulates : Type 0
  Simulates = (s : S) (t : T) → Related s t → Matches (step s) s t

  -- Both runs stand alike. Where they still go on, the other one has made this number of steps at least.
  abbrev pub StandAlike : (least steps : ℕ) → Standing O S R → Standing O T Q → Type 0
  StandAlike least steps (Still out s) (Still shown t) = (out ≡ shown) × Related s t × (least ≤ steps)
  StandAlike least steps (Over out r) (Over shown q) = (out ≡ shown) × Fits r q
  StandAlike least steps (Still out s) (Over shown q) = ⊥
  StandAlike least steps (Over out r) (Still shown t) = ⊥

  -- The other machine stands so after some number of steps.
  pub record Agrees (least n : ℕ) (before : List O) (s : S) (t : T) : Type 0 where
    pub steps : ℕ
    pub alike : StandAlike least steps (run step n before s) (run other steps before t)

  -- From some number of steps on, the other machine has passed the bound.
  pub record Passes (least : ℕ) (s : S) (t : T) : Type 0 where
    pub from : ℕ
    pub by : (n : ℕ) (before : List O) → from ≤ n → Agrees least n before s t

  -- The first machine ends, too, with the same outputs.
  pub record Ends (before : List O) (s : S) (out : List O) (q : Q) : Type 0 where
    pub steps : ℕ
    pub result : R
    pub ends : run step steps before s ≡ Over out result
    pub fits : Fits result q

  -- What holds of whole runs: at each number of steps the other machine stands alike after some number; over long runs it
  -- passes every bound; and where it ends, the first one does.
  pub record WholeRuns : Type 0 where
    pub each : (n : ℕ) (before : List O) (s : S) (t : T) → Related s t → Agrees 0 n before s t
    pub passes : (least : ℕ) (s : S) (t : T) → Related s t → Passes least s t
    pub back : (n : ℕ) (before : List O) (s : S) (t : T) (out : List O) (q : Q) → Related s t → run other n before t ≡ Over out q → Ends before s out q
