-- Runs add up.
use Rattle.std.proofs.Common.{◌≡◌, ℕ, zero, suc, ◌+◌, List, [], ◌++◌, max, sym, ap, ◌∙◌, arith, append_assoc}
use Rattle.std.proofs.lemmas.List.{append-nil}
use Rattle.mo_values.specs.Costs.{Cost}
use Rattle.mo_values.specs.Shapes.{Bytes}
use Rattle.core_ir.specs.Worlds.{World, Context}
use Rattle.core_ir.specs.Executions.{Step, Go, Ends, Stand, Still, Over, Machine, after_step, run, deep_with}
use Rattle.emitted_runs.specs.Stands.{behind}
use Rattle.emitted_runs.specs.Laws.{RunsAddUp}

most_of_three : (a b c : ℕ) → max (max a b) c ≡ max a (max b c)
most_of_three a b c = omega arith

pub none_before : (a : ℕ) → max 0 a ≡ a
none_before a = omega arith

none_behind : (a : ℕ) → max a 0 ≡ a
none_behind a = omega arith

pub zero_first : (a : ℕ) → 0 + a ≡ a
zero_first a = omega arith

zero_last : (a : ℕ) → a + 0 ≡ a
zero_last a = omega arith

added : (a b c : ℕ) → (a + b) + c ≡ a + (b + c)
added a b c = omega arith

module _ {S W : Type 0} where
  behind_both : (w d w' d' : ℕ) (p p' : List Bytes) (stand : Stand S W) → behind (w + w') (max d d') (p ++ p') stand ≡ behind w d p (behind w' d' p' stand)
  behind_both w d w' d' p p' (Still weight deep out world s) = λ i. Still (added w w' weight i) (most_of_three d d' deep i) (append_assoc p p' out i) world s
  behind_both w d w' d' p p' (Over weight deep out world end) = λ i. Over (added w w' weight i) (most_of_three d d' deep i) (append_assoc p p' out i) world end

  module _ (machine : Machine S W) (context : Context) where
    abbrev From : ℕ → Type 0
    From n = (w d : ℕ) (p : List Bytes) (world : World) (s : S) → run machine context n w d p world s ≡ behind w d p (run machine context n 0 0 [] world s)

    -- A step, and what comes after it.
    pub then_from : (n : ℕ) → From n → (bodies w d : ℕ) (p : List Bytes) (x : Step S W) → after_step (run machine context n) bodies w d p x ≡ behind w d p (after_step (run machine context n) bodies 0 0 [] x)
    then_from n from bodies w d p (Go cost out world s) =
        from (w + cost.weight) (max d (deep_with bodies cost)) (p ++ out) world s
        ∙ behind_both w d cost.weight (deep_with bodies cost) p out (run machine context n 0 0 [] world s)
        ∙ ap (behind w d p) (sym (from (0 + cost.weight) (max 0 (deep_with bodies cost)) ([] ++ out) world s ∙ (λ i. behind (zero_first cost.weight i) (none_before (deep_with bodies cost) i) out (run machine context n 0 0 [] world s))))
    then_from n from bodies w d p (Ends cost out world end) = λ i. Over (w + sym (zero_first cost.weight) i) (max d (sym (none_before (deep_with bodies cost)) i)) (p ++ out) world end

    pub from_any : (n : ℕ) → From n
    from_any zero w d p world s = λ i. Still (sym (zero_last w) i) (sym (none_behind d) i) (sym (append-nil p) i) world s
    from_any (suc n) w d p world s = then_from n (from_any n) (machine.depth s) w d p (machine.step context world s)

    -- A step that goes on, and the run from its state.
    pub gone : (n bodies : ℕ) (cost : Cost) (out : List Bytes) (world : World) (s : S) → after_step (run machine context n) bodies 0 0 [] (Go cost out world s) ≡ behind cost.weight (deep_with bodies cost) out (run machine context n 0 0 [] world s)
    gone n bodies cost out world s =
        from_any n (0 + cost.weight) (max 0 (deep_with bodies cost)) ([] ++ out) world s ∙ (λ i. behind (zero_first cost.weight i) (none_before (deep_with bodies cost) i) out (run machine context n 0 0 [] world s))

pub adds_up : (S W : Type 0) → RunsAddUp S W
adds_up S W machine context n w d p world s = from_any machine context n w d p world s
