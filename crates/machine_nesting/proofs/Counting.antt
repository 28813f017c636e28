-- What is counted on the stack: no more stands open than the bodies have nodes.
use Rattle.std.proofs.Common.{◌≤◌, ℕ, ◌+◌, [], ◌∷◌, arith}
use Rattle.mo_machine.specs.Frames.{Frame, Operands, Choosing, Switching, Returning, Labelled, Trying, Joining, Stack}
use Rattle.machine_nesting.specs.Stacks.{labels_on, ends_on, nodes_on, above, open_on, within, limit_on, needs, Piled, QuietOn}

module _ (ending : ℕ) where
  above_within : (frame : Frame) (below limit : ℕ) → needs ending frame + below ≤ limit → above ending frame below ≤ within ending frame limit
  above_within (Returning n) below limit h = omega arith
  above_within (Trying p b env) below limit h = omega (arith, h)
  above_within Labelled below limit h = omega (arith, h)
  above_within Joining below limit h = omega (arith, h)
  above_within _ below limit h = omega (arith, h)

  -- what stands open in a body is no more than its nodes
  pub room : (k : Stack) → Piled ending k → open_on ending k ≤ limit_on ending k
  room [] h = omega arith
  room (frame ∷ k) h = above_within frame (open_on ending k) (limit_on ending k) h.1

  pub labels_paid : (k : Stack) → Piled ending k → labels_on k + limit_on ending k ≤ nodes_on k + open_on ending k
  labels_paid [] h = omega arith
  labels_paid (Returning n ∷ k) h = omega (arith, labels_paid k h.2, room k h.2)
  labels_paid (Labelled ∷ k) h = omega (arith, labels_paid k h.2)
  labels_paid (Trying p b env ∷ k) h = omega (arith, labels_paid k h.2)
  labels_paid (Joining ∷ k) h = omega (arith, labels_paid k h.2)
  labels_paid (_ ∷ k) h = omega (arith, labels_paid k h.2)

  pub few_labels : (k : Stack) → Piled ending k → labels_on k ≤ nodes_on k
  few_labels k h = omega (arith, labels_paid k h, room k h)

  -- the code of built-in functions has none
  pub quiet_labels : (k : Stack) → QuietOn ending k → labels_on k ≤ nodes_on k
  quiet_labels [] h = absurd h
  quiet_labels (Returning n ∷ k) h = omega (arith, few_labels k h.0)
  quiet_labels (Operands a done rest env ∷ k) h = omega (arith, quiet_labels k h.1)
  quiet_labels (Choosing a b env ∷ k) h = omega (arith, quiet_labels k h.1)
  quiet_labels (Switching cases env ∷ k) h = omega (arith, quiet_labels k h.1)
  quiet_labels (Joining ∷ k) h = omega (arith, quiet_labels k h.1)
  quiet_labels (_ ∷ k) h = absurd h.0

-- with ends of branches
both_paid : (k : Stack) → Piled 1 k → labels_on k + ends_on k + limit_on 1 k ≤ nodes_on k + open_on 1 k
both_paid [] h = omega arith
both_paid (Returning n ∷ k) h = omega (arith, both_paid k h.2, room 1 k h.2)
both_paid (Labelled ∷ k) h = omega (arith, both_paid k h.2)
both_paid (Trying p b env ∷ k) h = omega (arith, both_paid k h.2)
both_paid (Joining ∷ k) h = omega (arith, both_paid k h.2)
both_paid (_ ∷ k) h = omega (arith, both_paid k h.2)

pub few_ends : (k : Stack) → Piled 1 k → ends_on k ≤ nodes_on k
few_ends k h = omega (arith, both_paid k h, room 1 k h)
