-- So many turns by the machine come to what as many turns of the language come to.
use Rattle.std.proofs.Common.{◌≡◌, ℕ, zero, suc, ◌+◌, ◌≤◌, [], length, None, refl, sym, ap, ap₂, ◌∙◌, subst, arith}
use Rattle.mo_meaning.specs.Acts.{Given}
use Rattle.mo_meaning.specs.Bodies as bodies
use Rattle.mo_meaning.specs.Bodies.{called, function_at}
use Rattle.mo_meaning.specs.Configurations.{Surroundings, beginning}
use Rattle.mo_meaning.specs.Configurations as meaning
use Rattle.mo_meaning.specs.Kernel.{Fields, Body, Enters, Resumes}
use Rattle.mo_meaning.specs.Turns as reductions
use Rattle.mo_machine.specs.Moves.{Move, Moved, Ends, Reduces, move}
use Rattle.mo_machine.specs.Measure.{measure, Falls}
use Rattle.mo_machine.specs.Configurations.{Configuration, Run, Still, Ended, standing}
use Rattle.mo_machine.specs.Turns.{turn, then_steps, after, step, settle, settled, turns, given_step, turns_given}
use Rattle.mo_machine.specs.Runs.{unload_configuration, unload_run, begun, body_run}
use Rattle.mo_machine.proofs.Falls.{falls}
use Rattle.mo_machine.proofs.NoValues.{put_none}
use Rattle.mo_machine.proofs.Steps.{next_act, AgreesAt, agrees_at, with_expression, next_turn, turn_at, end_at, give_at, breaks_at}
use Rattle.mo_machine.proofs.Turns.{reply_same}
use Rattle.mo_machine.proofs.Unloaded.{unload_load_list}

-- no move is left
abbrev Settled : Move → Type 0
Settled (Moved f k) = ⊥
Settled _ = Unit {0}

settles : (fuel : ℕ) (c : Configuration) (next : Move) → move c.focus c.stack ≡ next → Falls next (measure c.focus c.stack) → measure c.focus c.stack ≤ fuel
    → Settled (move (settle fuel c next).focus (settle fuel c next).stack)
settles zero c Reduces e f le = subst Settled (sym e) tt
settles zero c (Ends v) e f le = subst Settled (sym e) tt
settles zero c (Moved g k) e f le = absurd (omega arith)
settles (suc fuel) c Reduces e f le = subst Settled (sym e) tt
settles (suc fuel) c (Ends v) e f le = subst Settled (sym e) tt
settles (suc fuel) c (Moved g k) e f le = settles fuel (standing g k c) (move g k) refl (falls g k) (omega arith)

is_settled : (c : Configuration) → Settled (move (settled c).focus (settled c).stack)
is_settled c = settles (measure c.focus c.stack) c (move c.focus c.stack) refl (falls c.focus c.stack) (omega arith)

module _ (s : Surroundings) where
  settle_same : (fuel : ℕ) (c : Configuration) (next : Move) → AgreesAt s c next → unload_configuration (settle fuel c next) ≡ unload_configuration c
  settle_same zero c next h = refl
  settle_same (suc fuel) c Reduces h = refl
  settle_same (suc fuel) c (Ends v) h = refl
  settle_same (suc fuel) c (Moved f k) h = let d = standing f k c in settle_same fuel d (move f k) (agrees_at s d) ∙ ap (λ e. with_expression s c e) (h None)

  settled_same : (c : Configuration) → unload_configuration (settled c) ≡ unload_configuration c
  settled_same c = settle_same (measure c.focus c.stack) c (move c.focus c.stack) (agrees_at s c)

  -- one step of the machine where no move is left, and one turn
  step_same : (c : Configuration) (next : Move) → AgreesAt s c next → Settled next → next_turn s (unload_configuration c) ≡ unload_run (after s c (turn s c (next_act s c)) next)
  step_same c (Moved f k) h i = absurd i
  step_same c (Ends v) h i = end_at s c v h
  step_same c Reduces h i = turn_at s c h

  given_step_same : (g : Given) (c : Configuration) (next : Move) → AgreesAt s c next → Settled next → reductions.give s g (unload_configuration c) ≡ unload_run (given_step s g c next)
  given_step_same g c (Moved f k) h i = absurd i
  given_step_same g c (Ends v) h i = breaks_at s g c v h
  given_step_same g c Reduces h i = give_at s g c h

  then_same : (n : ℕ) → ((c : Configuration) → reductions.turns s n (unload_configuration c) ≡ unload_run (turns s n c)) → (r : Run)
      → reductions.then_turns s (reductions.turns s n) (unload_run r) ≡ unload_run (then_steps s (turns s n) r)
  then_same n ih (Still c) = ih c
  then_same n ih (Ended c end) = refl

  pub turns_same : (n : ℕ) (c : Configuration) → reductions.turns s n (unload_configuration c) ≡ unload_run (turns s n c)
  turns_same zero c = refl
  turns_same (suc n) c =
      let d = settled c in
      ap (λ r. reductions.then_turns s (reductions.turns s n) (next_turn s r)) (sym (settled_same c))
      ∙ ap (reductions.then_turns s (reductions.turns s n)) (step_same d (move d.focus d.stack) (agrees_at s d) (is_settled c))
      ∙ then_same n (turns_same n) (step s d)

  pub turns_given_same : (g : Given) (n : ℕ) (c : Configuration) → reductions.turns_given s g n (unload_configuration c) ≡ unload_run (turns_given s g n c)
  turns_given_same g zero c = refl
  turns_given_same g (suc n) c =
      let d = settled c in
      ap (λ r. reductions.then_turns s (reductions.turns s n) (reductions.give s g r)) (sym (settled_same c))
      ∙ ap (reductions.then_turns s (reductions.turns s n)) (given_step_same g d (move d.focus d.stack) (agrees_at s d) (is_settled c))
      ∙ then_same n (turns_same n) (given_step s g d (move d.focus d.stack))

-- ---- from the beginning

pub begun_same : (c : meaning.Configuration) → unload_configuration (begun c) ≡ c
begun_same c = ap₂ (λ store e. record c { store = store; at = e }) (unload_load_list c.store) (put_none [] tt c.at)

module _ (s : Surroundings) where
  pub run_same : (n : ℕ) (c : meaning.Configuration) → reductions.turns s n c ≡ unload_run (turns s n (begun c))
  run_same n c = ap (reductions.turns s n) (sym (begun_same c)) ∙ turns_same s n (begun c)

  pub given_run_same : (g : Given) (n : ℕ) (c : meaning.Configuration) → reductions.turns_given s g n c ≡ unload_run (turns_given s g n (begun c))
  given_run_same g n c = ap (reductions.turns_given s g n) (sym (begun_same c)) ∙ turns_given_same s g n (begun c)

  pub body_same : (fields : Fields) (body : Body) (n : ℕ) → bodies.body_run s fields body n ≡ unload_run (body_run s fields body n)
  body_same fields (Enters entry caller vs) n =
      let c = beginning (2 + length caller) fields.cells (called (function_at fields entry.place) caller vs) in
      ap (reductions.as_reply s entry.results) (run_same n c) ∙ sym (reply_same s entry.results (turns s n (begun c)))
  body_same fields (Resumes w g) n =
      let c = beginning w.nodes fields.cells w.at in
      ap (reductions.as_reply s w.results) (given_run_same g n c) ∙ sym (reply_same s w.results (turns_given s g n (begun c)))
