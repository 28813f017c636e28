-- So many steps of an execution are so many of its turns: the same, or moves behind it.
use Rattle.std.proofs.Common.{◌≡◌, ℕ, zero, suc, ◌+◌, ◌≤◌, None, refl, sym, ap, ◌∙◌, subst, arith}
use Rattle.mo_types.specs.Graph.{head_at}
use Rattle.mo_meaning.specs.Configurations.{Surroundings}
use Rattle.mo_machine.specs.Configurations.{Configuration, Returns, Run, Still, Ended, End, standing}
use Rattle.mo_machine.specs.Values.{Value}
use Rattle.mo_machine.specs.Frames.{Focus, Stack}
use Rattle.mo_machine.specs.Measure.{measure, Falls}
use Rattle.mo_machine.specs.Moves.{Move, Moved, Ends, Reduces, move}
use Rattle.mo_machine.specs.Reductions.{reduces}
use Rattle.mo_machine.specs.Turns.{turn, then_steps, after, step, steps, settle, settled, turns}
use Rattle.mo_machine.proofs.Falls.{falls}
use Rattle.elaboration_actors.specs.Bodies.{Alike, Going, Same}

enough : (a b : ℕ) (c : Configuration) (next : Move) → Falls next (measure c.focus c.stack) → measure c.focus c.stack ≤ a → measure c.focus c.stack ≤ b → settle a c next ≡ settle b c next
enough zero b c (Moved f k) h l m = absurd (omega (arith, h, l))
enough zero zero c (Ends v) h l m = refl
enough zero zero c Reduces h l m = refl
enough zero (suc b) c (Ends v) h l m = refl
enough zero (suc b) c Reduces h l m = refl
enough (suc a) zero c (Moved f k) h l m = absurd (omega (arith, h, m))
enough (suc a) zero c (Ends v) h l m = refl
enough (suc a) zero c Reduces h l m = refl
enough (suc a) (suc b) c (Moved f k) h l m = enough a b (standing f k c) (move f k) (falls f k) (omega (arith, h, l)) (omega (arith, h, m))
enough (suc a) (suc b) c (Ends v) h l m = refl
enough (suc a) (suc b) c Reduces h l m = refl

moved_settles : (c : Configuration) (f : Focus) (k : Stack) → move c.focus c.stack ≡ Moved f k → settled c ≡ settled (standing f k c)
moved_settles c f k e =
    enough (measure c.focus c.stack) (suc (measure c.focus c.stack)) c (move c.focus c.stack) (falls c.focus c.stack) (omega arith) (omega arith)
    ∙ (ap (settle (suc (measure c.focus c.stack)) c) e
    ∙ enough (measure c.focus c.stack) (measure f k) (standing f k c) (move f k) (falls f k)
    (let z : suc (measure f k) ≤ measure c.focus c.stack = subst (λ m. Falls m (measure c.focus c.stack)) e (falls c.focus c.stack) in omega (arith, z)) (omega arith))

ended_settles : (fuel : ℕ) (c : Configuration) (v : Value) → settle fuel c (Ends v) ≡ c
ended_settles zero c v = refl
ended_settles (suc fuel) c v = refl

pub due_settles : (fuel : ℕ) (c : Configuration) → settle fuel c Reduces ≡ c
due_settles zero c = refl
due_settles (suc fuel) c = refl

module _ (s : Surroundings) where
  abbrev By : ℕ → Configuration → Run → Type 0
  By n c r = Alike (turns s n c) r

  abbrev Due : Configuration → Run
  Due c = turn s c (reduces (head_at s.types) None c.store c.focus c.stack)

  -- behind a move
  earlier : (c : Configuration) (f : Focus) (k : Stack) (r : Run) → Alike (Still (standing f k c)) r → Alike (Still c) r
  earlier c f k r (Going a b w d p) = Going c b w d p
  earlier c f k r (Same o) = Going c (standing f k c) refl refl refl

  moved_turns : (c : Configuration) (f : Focus) (k : Stack) → move c.focus c.stack ≡ Moved f k → (r : Run) (n : ℕ) → By n (standing f k c) r → By n c r
  moved_turns c f k e r zero al = earlier c f k r al
  moved_turns c f k e r (suc n) al = subst (λ d. Alike (then_steps s (turns s n) (step s d)) r) (sym (moved_settles c f k e)) al

  ended_turns : (c : Configuration) (v : Value) → move c.focus c.stack ≡ Ends v → turns s 1 c ≡ Ended c (Returns v)
  ended_turns c v e =
      ap (λ d. then_steps s (turns s 0) (step s d)) (ap (settle (measure c.focus c.stack) c) e ∙ ended_settles (measure c.focus c.stack) c v)
      ∙ ap (λ m. then_steps s (turns s 0) (after s c (Due c) m)) e

  due_turns : (c : Configuration) (n : ℕ) → move c.focus c.stack ≡ Reduces → turns s (suc n) c ≡ then_steps s (turns s n) (Due c)
  due_turns c n e =
      ap (λ d. then_steps s (turns s n) (step s d)) (ap (settle (measure c.focus c.stack) c) e ∙ due_settles (measure c.focus c.stack) c)
      ∙ ap (λ m. then_steps s (turns s n) (after s c (Due c) m)) e

  abbrev For : ℕ → Type 0
  For m = (c : Configuration) → (n : ℕ) × By n c (steps s m c)

  for_after : (m : ℕ) → For m → For (suc m)
  for_after m go c = by (move c.focus c.stack) refl
    where
      due : (r : Run) → Due c ≡ r → move c.focus c.stack ≡ Reduces → (n : ℕ) × By n c (then_steps s (steps s m) r)
      due (Still c1) is e = let h = go c1 in (suc (h.0), subst (λ r. Alike r (steps s m c1)) (sym (due_turns c (h.0) e ∙ ap (then_steps s (turns s (h.0))) is)) (h.1))
      due (Ended c1 end) is e = (1, subst (λ r. Alike r (Ended c1 end)) (sym (due_turns c 0 e ∙ ap (then_steps s (turns s 0)) is)) (Same (Ended c1 end)))

      by : (x : Move) → move c.focus c.stack ≡ x → (n : ℕ) × By n c (then_steps s (steps s m) (after s c (Due c) (move c.focus c.stack)))
      by (Moved f k) e =
          let h = go (standing f k c) in
          (h.0, subst (λ x. By (h.0) c (then_steps s (steps s m) (after s c (Due c) x))) (sym e) (moved_turns c f k e (steps s m (standing f k c)) (h.0) (h.1)))
      by (Ends v) e = (1, subst (λ x. By 1 c (then_steps s (steps s m) (after s c (Due c) x))) (sym e) (subst (λ r. Alike r (Ended c (Returns v))) (sym (ended_turns c v e)) (Same (Ended c (Returns v)))))
      by Reduces e =
          let h = due (Due c) refl e in
          (h.0, subst (λ x. By (h.0) c (then_steps s (steps s m) (after s c (Due c) x))) (sym e) (h.1))

  pub turns_for : (m : ℕ) → For m
  turns_for zero c = (0, Same (Still c))
  turns_for (suc m) c = for_after m (turns_for m) c

  none_before : (m : ℕ) (c : Configuration) → steps s (0 + m) c ≡ steps s m c
  none_before m c = ap (λ i. steps s i c) (let z : 0 + m ≡ m = omega arith in z)

  -- moves before a reduction are steps
  settles_by : (fuel : ℕ) (c : Configuration) → (j : ℕ) × ((m : ℕ) → steps s (j + m) c ≡ steps s m (settle fuel c (move c.focus c.stack)))
  settles_by zero c = (0, λ m. none_before m c)
  settles_by (suc fuel) c = by (λ d. settles_by fuel d) (move c.focus c.stack) refl
    where
      by : ((d : Configuration) → (j : ℕ) × ((m : ℕ) → steps s (j + m) d ≡ steps s m (settle fuel d (move d.focus d.stack)))) → (x : Move) → move c.focus c.stack ≡ x → (j : ℕ) × ((m : ℕ) → steps s (j + m) c ≡ steps s m (settle (suc fuel) c x))
      by go (Moved f k) e = let h = go (standing f k c) in (suc (h.0), λ m. ap (λ i. steps s i c) (let z : suc (h.0) + m ≡ suc (h.0 + m) = omega arith in z) ∙ (ap (λ x. then_steps s (steps s (h.0 + m)) (after s c (Due c) x)) e ∙ h.1 m))
      by go (Ends v) e = (0, λ m. none_before m c)
      by go Reduces e = (0, λ m. none_before m c)

  -- what has ended after so many turns has so after some steps
  pub ended_by : (n : ℕ) (c d : Configuration) (end : End) → turns s n c ≡ Ended d end → (m : ℕ) × (steps s m c ≡ Ended d end)
  ended_by zero c d end e = absurd (let z : Still c ≡ Ended d end = e in cc)
  ended_by (suc n) c d end e = by (λ c1 i. ended_by n c1 d end i) (step s (settled c)) refl
    where
      j : (j : ℕ) × ((m : ℕ) → steps s (j + m) c ≡ steps s m (settled c))
      j = settles_by (measure c.focus c.stack) c

      by : ((c1 : Configuration) → turns s n c1 ≡ Ended d end → (m : ℕ) × (steps s m c1 ≡ Ended d end)) → (r : Run) → step s (settled c) ≡ r → (m : ℕ) × (steps s m c ≡ Ended d end)
      by go (Still c1) i = let h = go c1 (sym (ap (then_steps s (turns s n)) i) ∙ e) in (j.0 + suc (h.0), j.1 (suc (h.0)) ∙ (ap (then_steps s (steps s (h.0))) i ∙ h.1))
      by go (Ended c1 x) i = (j.0 + 1, j.1 1 ∙ (ap (then_steps s (steps s 0)) i ∙ (sym (ap (then_steps s (turns s n)) i) ∙ e)))
