-- How an execution ends that makes no calls and throws nothing: with a tuple, or by a reduction that traps.
use Rattle.std.proofs.Common.{◌≡◌, ℕ, zero, suc, ◌+◌, [], ◌∷◌, ◌++◌, None, refl, sym, ap, ◌∙◌}
use Rattle.mo_types.specs.Graph.{head_at}
use Rattle.mo_values.specs.Costs.{Cost}
use Rattle.mo_values.specs.Shapes.{Bytes, Tuple}
use Rattle.mo_meaning.specs.Configurations.{Surroundings}
use Rattle.mo_machine.specs.Acts.{Act, Goes, Prints, Asks, Awaits, Throws, Traps, Stuck}
use Rattle.mo_machine.specs.Acts as acts
use Rattle.mo_machine.specs.Configurations.{Configuration, Run, Still, Ended, End, Returns}
use Rattle.mo_machine.specs.Configurations as configuration
use Rattle.mo_machine.specs.Moves.{Move, Moved, Ends, Reduces, move}
use Rattle.mo_machine.specs.Reductions.{reduces}
use Rattle.mo_machine.specs.Turns.{turn, after, step, steps, then_steps}
use Rattle.mo_machine.specs.Values.{Values, Made}

-- nothing is thrown, called or awaited
abbrev pub IsPlain : Act → Type 0
IsPlain (Goes cost store f k) = Unit {0}
IsPlain (Prints cost text f k) = Unit {0}
IsPlain (Traps cost text) = Unit {0}
IsPlain Stuck = Unit {0}
IsPlain _ = ⊥

-- an end with a value, or with a trap
abbrev pub IsGood : End → Type 0
IsGood (Returns v) = Unit {0}
IsGood (configuration.Traps text) = Unit {0}
IsGood _ = ⊥

module _ (s : Surroundings) where
  pub data Closes (c : Configuration) : Type 0 where
    Tells : (i : ℕ) (d : Configuration) (vs : Values) → steps s i c ≡ Ended d (Returns (Made Tuple vs)) → Closes c
    Stops : (i : ℕ) (d : Configuration) (cost : Cost) (text : Bytes) → steps s i c ≡ Still d → reduces (head_at s.types) None d.store d.focus d.stack ≡ Traps cost text → Closes c

  pub closes_on : (n : ℕ) (c c2 : Configuration) → ((m : ℕ) → steps s (n + m) c ≡ steps s m c2) → Closes c2 → Closes c
  closes_on n c c2 same (Tells i d vs e) = Tells (n + i) d vs (same i ∙ e)
  closes_on n c c2 same (Stops i d cost text e r) = Stops (n + i) d cost text (same i ∙ e) r

  -- the step by which it ends
  pub last_step : (m : ℕ) (c d : Configuration) (end : End) → steps s m c ≡ Ended d end → (q : ℕ) × (cl : Configuration) × (steps s q c ≡ Still cl) × (step s cl ≡ Ended d end)
  last_step zero c d end e = absurd (let z : Still c ≡ Ended d end = e in cc)
  last_step (suc m) c d end e = by (λ c1 i. last_step m c1 d end i) (step s c) refl
    where
      by : ((c1 : Configuration) → steps s m c1 ≡ Ended d end → (q : ℕ) × (cl : Configuration) × (steps s q c1 ≡ Still cl) × (step s cl ≡ Ended d end)) → (r : Run) → step s c ≡ r → (q : ℕ) × (cl : Configuration) × (steps s q c ≡ Still cl) × (step s cl ≡ Ended d end)
      by go (Still c1) i = let h = go c1 (sym (ap (then_steps s (steps s m)) i) ∙ e) in (suc (h.0), h.1, ap (then_steps s (steps s (h.0))) i ∙ h.2, h.3)
      by go (Ended c1 x) i = (0, c, refl, i ∙ (sym (ap (then_steps s (steps s m)) i) ∙ e))

  no_still : (x d : Configuration) (text : Bytes) → Still x ≡ Ended d (configuration.Traps text) → ⊥
  no_still x d text e = cc

  plainly : (cl d : Configuration) (text : Bytes) (m : Move) (a : Act) → IsPlain a → after s cl (turn s cl a) m ≡ Ended d (configuration.Traps text) → (cost : Cost) × (said : Bytes) × (a ≡ Traps cost said)
  plainly cl d text (Moved f k) a p e = absurd (let z : Still (configuration.standing f k cl) ≡ Ended d (configuration.Traps text) = e in cc)
  plainly cl d text (Ends v) a p e = absurd (let z : Ended cl (Returns v) ≡ Ended d (configuration.Traps text) = e in cc)
  plainly cl d text Reduces (Goes cost store f k) p e = absurd (let z : Still (configuration.moved cost store f k cl) ≡ Ended d (configuration.Traps text) = e in cc)
  plainly cl d text Reduces (Prints cost said f k) p e = absurd (no_still (record (configuration.moved cost cl.store f k cl) { prints = cl.prints ++ said ∷ [] }) d text e)
  plainly cl d text Reduces (Traps cost said) p e = (cost, said, refl)
  plainly cl d text Reduces Stuck p e = absurd (let z : Ended cl configuration.Breaks ≡ Ended d (configuration.Traps text) = e in cc)
  plainly cl d text Reduces (Asks r) p e = absurd p
  plainly cl d text Reduces (Awaits n call) p e = absurd p
  plainly cl d text Reduces (Throws cost error) p e = absurd p
  plainly cl d text Reduces (acts.Leaves n v) p e = absurd p

  pub stopped : (q : ℕ) (c cl d : Configuration) (text : Bytes) → steps s q c ≡ Still cl → step s cl ≡ Ended d (configuration.Traps text) → IsPlain (reduces (head_at s.types) None cl.store cl.focus cl.stack) → Closes c
  stopped q c cl d text e i p =
      let h = plainly cl d text (move cl.focus cl.stack) (reduces (head_at s.types) None cl.store cl.focus cl.stack) p i in
      Stops q cl (h.0) (h.1) e (h.2)
