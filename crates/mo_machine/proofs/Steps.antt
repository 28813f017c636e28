-- Where the machine stands, and what the language's next turns are there.
use Rattle.std.proofs.Common.{◌≡◌, ℕ, zero, suc, ◌≤◌, Option, None, refl, sym, ap, ◌∙◌, arith}
use Rattle.mo_types.specs.Graph.{head_at}
use Rattle.typed_tree.specs.Language.{Exp}
use Rattle.mo_meaning.specs.Acts.{Given}
use Rattle.mo_meaning.specs.Configurations.{Surroundings}
use Rattle.mo_meaning.specs.Configurations as meaning
use Rattle.mo_meaning.specs.Places.{value_or}
use Rattle.mo_meaning.specs.Reduce.{reduce}
use Rattle.mo_meaning.specs.Turns as reductions
use Rattle.mo_machine.specs.Values.{Value}
use Rattle.mo_machine.specs.Acts.{Act}
use Rattle.mo_machine.specs.Moves.{Move, Moved, Ends, Reduces, move}
use Rattle.mo_machine.specs.Measure.{measure, Falls}
use Rattle.mo_machine.specs.Reductions.{reduces}
use Rattle.mo_machine.specs.Configurations.{Configuration, Run, Still, Ended, standing}
use Rattle.mo_machine.specs.Turns.{turn, give, then_steps, after, after_given, steps, steps_given}
use Rattle.mo_machine.specs.Unload.{unload, unload_state}
use Rattle.mo_machine.specs.Agrees.{Agrees}
use Rattle.mo_machine.specs.Runs.{unload_configuration, unload_run, Follows, FollowsGiven, Reaches, ReachesGiven}
use Rattle.mo_machine.proofs.Falls.{falls}
use Rattle.mo_machine.proofs.Simulation.{skip, agrees}
use Rattle.mo_machine.proofs.Turns.{turn_same, give_same}

module _ (s : Surroundings) where
  abbrev pub next_act : Configuration → Act
  next_act c = reduces (head_at s.types) None c.store c.focus c.stack

  abbrev pub AgreesAt : Configuration → Move → Type 0
  AgreesAt c next = (g : Option Given) → Agrees (head_at s.types) g c.store next c.focus c.stack

  pub agrees_at : (c : Configuration) → AgreesAt c (move c.focus c.stack)
  agrees_at c g = agrees (head_at s.types) g c.store c.focus c.stack

  -- the execution with another expression in its place
  abbrev pub with_expression : Configuration → Exp → meaning.Configuration
  with_expression c e = record (unload_configuration c) { at = e }

  -- one turn of what the machine stands for
  abbrev pub next_turn : meaning.Configuration → meaning.Run
  next_turn c = value_or c.at (λ v. meaning.Ended c (meaning.Returns v)) (reductions.turn s c (reduce (head_at s.types) None c.store c.at))

  pub turn_at : (c : Configuration) → AgreesAt c Reduces → next_turn (unload_configuration c) ≡ unload_run (turn s c (next_act c))
  turn_at c h =
      let e = unload_state c.focus c.stack in
      let there = unload_configuration c in
      skip e (λ v. meaning.Ended there (meaning.Returns v)) (reductions.turn s there (reduce (head_at s.types) None there.store e)) (h None).0
      ∙ ap (reductions.turn s there) (h None).1 ∙ sym (turn_same s c (λ g. (h g).1) (next_act c))

  pub end_at : (c : Configuration) (v : Value) → AgreesAt c (Ends v) → next_turn (unload_configuration c) ≡ meaning.Ended (unload_configuration c) (meaning.Returns (unload v))
  end_at c v h = ap (λ e. next_turn (with_expression c e)) (h None) ∙ ap (λ e. meaning.Ended (with_expression c e) (meaning.Returns (unload v))) (sym (h None))

  pub give_at : (g : Given) (c : Configuration) → AgreesAt c Reduces → reductions.give s g (unload_configuration c) ≡ unload_run (give s g c)
  give_at g c h = sym (give_same s g c (λ o. (h o).1))

  pub breaks_at : (g : Given) (c : Configuration) (v : Value) → AgreesAt c (Ends v) → reductions.give s g (unload_configuration c) ≡ meaning.Ended (unload_configuration c) meaning.Breaks
  breaks_at g c v h = ap (λ e. reductions.give s g (with_expression c e)) (h None) ∙ ap (λ e. meaning.Ended (with_expression c e) meaning.Breaks) (sym (h None))

  -- ---- where the turns come to, the steps come to

  then_follows : (n : ℕ) → ((c : Configuration) → Follows s n c) → (r : Run) → (count : ℕ) × (reductions.then_turns s (reductions.turns s n) (unload_run r) ≡ unload_run (then_steps s (steps s count) r))
  then_follows n ih (Still c) = ih c
  then_follows n ih (Ended c end) = (0, refl)

  is_step : (n : ℕ) (c : Configuration) (next : Move) → move c.focus c.stack ≡ next → then_steps s (steps s n) (after s c (turn s c (next_act c)) next) ≡ steps s (suc n) c
  is_step n c next e = ap (λ m. then_steps s (steps s n) (after s c (turn s c (next_act c)) m)) (sym e)

  seek : (n : ℕ) → ((c : Configuration) → Follows s n c) → (fuel : ℕ) (c : Configuration) (next : Move) → move c.focus c.stack ≡ next → AgreesAt c next
      → Falls next (measure c.focus c.stack) → measure c.focus c.stack ≤ fuel → Follows s (suc n) c
  seek n ih fuel c Reduces e h f le =
      let r = then_follows n ih (turn s c (next_act c)) in
      (suc r.0, ap (reductions.then_turns s (reductions.turns s n)) (turn_at c h) ∙ r.1 ∙ ap unload_run (is_step r.0 c Reduces e))
  seek n ih fuel c (Ends v) e h f le = (1, ap (reductions.then_turns s (reductions.turns s n)) (end_at c v h) ∙ ap unload_run (is_step 0 c (Ends v) e))
  seek n ih zero c (Moved g k) e h f le = absurd (omega arith)
  seek n ih (suc fuel) c (Moved g k) e h f le =
      let d = standing g k c in
      let r = seek n ih fuel d (move g k) refl (agrees_at d) (falls g k) (omega arith) in
      (suc r.0, ap (λ e. reductions.turns s (suc n) (with_expression c e)) (sym (h None)) ∙ r.1 ∙ ap unload_run (is_step r.0 c (Moved g k) e))

  pub follows : (n : ℕ) (c : Configuration) → Follows s n c
  follows zero c = (0, refl)
  follows (suc n) c = seek n (follows n) (measure c.focus c.stack) c (move c.focus c.stack) refl (agrees_at c) (falls c.focus c.stack) (omega arith)

  -- ---- where the steps come to, the turns come to

  then_reaches : (m : ℕ) → ((c : Configuration) → Reaches s m c) → (r : Run)
      → (count : ℕ) × (count ≤ m) × (unload_run (then_steps s (steps s m) r) ≡ reductions.then_turns s (reductions.turns s count) (unload_run r))
  then_reaches m ih (Still c) = ih c
  then_reaches m ih (Ended c end) = (0, omega arith, refl)

  by_move : (m : ℕ) → ((c : Configuration) → Reaches s m c) → (c : Configuration) (next : Move) → move c.focus c.stack ≡ next → AgreesAt c next → Reaches s (suc m) c
  by_move m ih c Reduces e h =
      let r = then_reaches m ih (turn s c (next_act c)) in
      (suc r.0, omega (arith, r.1), ap unload_run (sym (is_step m c Reduces e)) ∙ r.2 ∙ ap (reductions.then_turns s (reductions.turns s r.0)) (sym (turn_at c h)))
  by_move m ih c (Ends v) e h =
      (1, omega arith, ap unload_run (sym (is_step m c (Ends v) e)) ∙ ap (reductions.then_turns s (reductions.turns s 0)) (sym (end_at c v h)))
  by_move m ih c (Moved g k) e h =
      let r = ih (standing g k c) in
      (r.0, omega (arith, r.1), ap unload_run (sym (is_step m c (Moved g k) e)) ∙ r.2 ∙ ap (λ e. reductions.turns s r.0 (with_expression c e)) (h None))

  pub reaches : (m : ℕ) (c : Configuration) → Reaches s m c
  reaches zero c = (0, omega arith, refl)
  reaches (suc m) c = by_move m (reaches m) c (move c.focus c.stack) refl (agrees_at c)

  -- ---- the same where the first turn is of an `await` that is given its part

  module _ (g : Given) where
    is_given_step : (m : ℕ) (c : Configuration) (next : Move) → move c.focus c.stack ≡ next → after_given s g c (steps_given s g m) (steps s m) next ≡ steps_given s g (suc m) c
    is_given_step m c next e = ap (after_given s g c (steps_given s g m) (steps s m)) (sym e)

    seek_given : (n fuel : ℕ) (c : Configuration) (next : Move) → move c.focus c.stack ≡ next → AgreesAt c next
        → Falls next (measure c.focus c.stack) → measure c.focus c.stack ≤ fuel → FollowsGiven s g (suc n) c
    seek_given n fuel c Reduces e h f le =
        let r = then_follows n (follows n) (give s g c) in
        (suc r.0, ap (reductions.then_turns s (reductions.turns s n)) (give_at g c h) ∙ r.1 ∙ ap unload_run (is_given_step r.0 c Reduces e))
    seek_given n fuel c (Ends v) e h f le =
        (1, ap (reductions.then_turns s (reductions.turns s n)) (breaks_at g c v h) ∙ ap unload_run (is_given_step 0 c (Ends v) e))
    seek_given n zero c (Moved f' k) e h f le = absurd (omega arith)
    seek_given n (suc fuel) c (Moved f' k) e h f le =
        let d = standing f' k c in
        let r = seek_given n fuel d (move f' k) refl (agrees_at d) (falls f' k) (omega arith) in
        (suc r.0, ap (λ e. reductions.turns_given s g (suc n) (with_expression c e)) (sym (h None)) ∙ r.1 ∙ ap unload_run (is_given_step r.0 c (Moved f' k) e))

    pub follows_given : (n : ℕ) (c : Configuration) → FollowsGiven s g n c
    follows_given zero c = (0, refl)
    follows_given (suc n) c = seek_given n (measure c.focus c.stack) c (move c.focus c.stack) refl (agrees_at c) (falls c.focus c.stack) (omega arith)

    given_by_move : (m : ℕ) → ((c : Configuration) → ReachesGiven s g m c) → (c : Configuration) (next : Move) → move c.focus c.stack ≡ next → AgreesAt c next → ReachesGiven s g (suc m) c
    given_by_move m ih c Reduces e h =
        let r = then_reaches m (reaches m) (give s g c) in
        (suc r.0, omega (arith, r.1), ap unload_run (sym (is_given_step m c Reduces e)) ∙ r.2 ∙ ap (reductions.then_turns s (reductions.turns s r.0)) (sym (give_at g c h)))
    given_by_move m ih c (Ends v) e h =
        (1, omega arith, ap unload_run (sym (is_given_step m c (Ends v) e)) ∙ ap (reductions.then_turns s (reductions.turns s 0)) (sym (breaks_at g c v h)))
    given_by_move m ih c (Moved f' k) e h =
        let r = ih (standing f' k c) in
        (r.0, omega (arith, r.1), ap unload_run (sym (is_given_step m c (Moved f' k) e)) ∙ r.2 ∙ ap (λ e. reductions.turns_given s g r.0 (with_expression c e)) (h None))

    pub reaches_given : (m : ℕ) (c : Configuration) → ReachesGiven s g m c
    reaches_given zero c = (0, omega arith, refl)
    reaches_given (suc m) c = given_by_move m (reaches_given m) c (move c.focus c.stack) refl (agrees_at c)
