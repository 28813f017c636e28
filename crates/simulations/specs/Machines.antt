-- Machines that run step by step and give outputs on the way: a small-step semantics as a function.
use Rattle.std.specs.Prelude.{◌≡◌, ℕ, zero, suc, ◌+◌, List, ◌++◌}

-- A step goes on with some outputs, or ends with a result.
pub data Step (O S R : Type 0) : Type 0 where
  Go : (out : List O) → (next : S) → Step O S R
  End : (result : R) → Step O S R

-- How a run stands after a number of steps, with all outputs so far.
pub data Standing (O S R : Type 0) : Type 0 where
  Still : (out : List O) → (state : S) → Standing O S R
  Over : (out : List O) → (result : R) → Standing O S R

module _ {O S R : Type 0} (step : S → Step O S R) where
  abbrev pub go_on : (List O → S → Standing O S R) → List O → Step O S R → Standing O S R
  go_on after out (Go more next) = after (out ++ more) next
  go_on after out (End result) = Over out result

  -- At most so many steps, behind these outputs.
  abbrev pub run : ℕ → List O → S → Standing O S R
  run zero out s = Still out s
  run (suc n) out s = go_on (run n) out (step s)

  -- In so many steps the machine comes from the one state to the other, with these outputs, whatever follows.
  pub record Reaches (steps : ℕ) (out : List O) (s next : S) : Type 0 where
    pub by : (n : ℕ) (before : List O) → run (steps + n) before s ≡ run n (before ++ out) next

  -- In so many steps it ends with this result, and with no further outputs.
  pub record Finishes (steps : ℕ) (s : S) (result : R) : Type 0 where
    pub by : (before : List O) → run steps before s ≡ Over before result
