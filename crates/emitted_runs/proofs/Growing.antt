-- What a run comes to with a turn more.
use Rattle.std.proofs.Common.{◌≡◌, ℕ, zero, suc, ◌≤◌, List, [], ◌∷◌, ◌++◌, max, refl, sym, ap, subst, arith}
use Rattle.mo_values.specs.Shapes.{Bytes}
use Rattle.core_ir.specs.Worlds.{World, Context}
use Rattle.core_ir.specs.Executions.{Go, Ends, Stand, Still, Over, after_step, run, deep_with}
use Rattle.core_ir.specs.Code.{CodeProgram}
use Rattle.core_ir.specs.CodeMachine.{State, Waiting, Did, step, depth, code_machine}
use Rattle.emitted_steps.specs.Operations.{told_all}
use Rattle.emitted_steps.specs.Shortage.{ShowsMore}
use Rattle.emitted_runs.specs.Stands.{behind}
use Rattle.emitted_runs.specs.Runs.{weight_of, deep_of, deepest, shown_by}
use Rattle.emitted_runs.proofs.Behind.{gone}
use Rattle.emitted_runs.proofs.Runs.{walk, shown_behind, weight_behind, shows_same, shows_stand}

abbrev pub IsOver : Stand State Waiting → Type 0
IsOver (Still weight deep out world s) = ⊥
IsOver (Over weight deep out world end) = Unit {0}

deep_behind : (w d : ℕ) (out : List Bytes) (stand : Stand State Waiting) → deep_of (behind w d out stand) ≡ max d (deep_of stand)
deep_behind w d out (Still weight deep o world s) = refl
deep_behind w d out (Over weight deep o world end) = refl

deepest_is : (w d : ℕ) (out : List Bytes) (stand : Stand State Waiting) → deepest (behind w d out stand) ≡ max d (deepest stand)
deepest_is w d out (Still weight deep o world s) = let e : max (max d deep) (depth s) ≡ max d (max deep (depth s)) = omega arith in e
deepest_is w d out (Over weight deep o world end) = refl

still_over : (w d : ℕ) (out : List Bytes) (stand : Stand State Waiting) → IsOver (behind w d out stand) → IsOver stand
still_over w d out (Still weight deep o world s) h = h
still_over w d out (Over weight deep o world end) h = tt

module _ {W : Type 0} (prints_of : W → List Bytes) (told fell : W → Bytes → W) (tells : (w : W) (text : Bytes) → prints_of (told w text) ≡ prints_of w ++ text ∷ []) (fails : (w : W) (text : Bytes) → ShowsMore prints_of w (fell w text)) where
  -- The one has come at least as far as the other.
  pub record GoesOn (a b : Stand State Waiting) : Type 0 where
    pub weight : weight_of a ≤ weight_of b
    pub deep : deepest a ≤ deep_of b
    pub shows : (v : W) → ShowsMore prints_of (shown_by told fell v a) (shown_by told fell v b)
    pub over : IsOver a → a ≡ b

  behind_on : (w d : ℕ) (out : List Bytes) (a b : Stand State Waiting) → GoesOn a b → GoesOn (behind w d out a) (behind w d out b)
  behind_on w d out a b g = record {
    weight = let e = weight_behind w d out a in let k = weight_behind w d out b in let l = g.weight in omega (arith, e, k, l);
    deep = let e = deepest_is w d out a in let k = deep_behind w d out b in let l = g.deep in omega (arith, e, k, l);
    shows = λ v. subst (λ u. ShowsMore prints_of u (shown_by told fell v (behind w d out b))) (shown_behind told fell v w d out a) (subst (λ u. ShowsMore prints_of (shown_by told fell (told_all told v out) a) u) (shown_behind told fell v w d out b) (g.shows (told_all told v out)));
    over = λ h. ap (behind w d out) (g.over (still_over w d out a h));
  }

  module _ (program : CodeProgram) (context : Context) where
    abbrev then_run : ℕ → ℕ → Did → Stand State Waiting
    then_run n below x = after_step (run (code_machine program) context n) below 0 0 [] x

    first_on : (below : ℕ) (world : World) (s : State) → depth s ≡ below → (x : Did) → GoesOn (Still 0 0 [] world s) (then_run 0 below x)
    first_on below world s e (Go cost out world' s') = record {
      weight = omega arith;
      deep = omega (arith, e);
      shows = λ v. shows_stand prints_of told fell tells fails v (then_run 0 below (Go cost out world' s'));
      over = λ h. absurd h;
    }
    first_on below world s e (Ends cost out world' end) = record {
      weight = omega arith;
      deep = omega (arith, e);
      shows = λ v. shows_stand prints_of told fell tells fails v (then_run 0 below (Ends cost out world' end));
      over = λ h. absurd h;
    }

    step_on : (n : ℕ) → ((world : World) (s : State) → GoesOn (walk program context n world s) (walk program context (suc n) world s)) → (below : ℕ) (x : Did) → GoesOn (then_run n below x) (then_run (suc n) below x)
    step_on n ih below (Go cost out world s) =
        subst (λ a. GoesOn a (then_run (suc n) below (Go cost out world s))) (sym (gone (code_machine program) context n below cost out world s))
        (subst (λ b. GoesOn (behind cost.weight (deep_with below cost) out (walk program context n world s)) b) (sym (gone (code_machine program) context (suc n) below cost out world s))
        (behind_on cost.weight (deep_with below cost) out (walk program context n world s) (walk program context (suc n) world s) (ih world s)))
    step_on n ih below (Ends cost out world end) = record { weight = omega arith; deep = omega arith; shows = λ v. shows_same prints_of (shown_by told fell v (then_run n below (Ends cost out world end))); over = λ h. refl }

    -- With a turn more.
    pub goes_on : (n : ℕ) (world : World) (s : State) → GoesOn (walk program context n world s) (walk program context (suc n) world s)
    goes_on zero world s = first_on (depth s) world s refl (step program context world s)
    goes_on (suc n) world s = step_on n (goes_on n) (depth s) (step program context world s)
