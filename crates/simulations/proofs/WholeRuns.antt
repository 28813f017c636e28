-- Where each step of a machine is met by some steps of another, or by none while a measure falls, their whole runs agree.
use Rattle.std.proofs.Common.{◌≡◌, ℕ, zero, suc, ◌+◌, ◌-◌, ◌≤◌, inl, inr, List, [], ◌++◌, refl, sym, ap, ◌∙◌, subst, arith as arithmetic, append-nil, ⊎_elim}
use Rattle.std.proofs.lemmas.Bool.{cases_lt}
use Rattle.simulations.specs.Machines.{Step, Go, End, Standing, Still, Over, go_on, run, Reaches}
use Rattle.simulations.specs.Simulations.{Matches, Simulates, StandAlike, Agrees, Passes, Ends, WholeRuns}

module _ {O S T R Q : Type 0} (step : S → Step O S R) (other : T → Step O T Q) (Related : S → T → Type 0) (Fits : R → Q → Type 0) (measure : S → ℕ) where
  abbrev Alike : ℕ → ℕ → Standing O S R → Standing O T Q → Type 0
  Alike least steps x y = StandAlike step other Related Fits measure least steps x y

  abbrev Met : Step O S R → S → T → Type 0
  Met x s t = Matches step other Related Fits measure x s t

  abbrev Agree : ℕ → ℕ → List O → S → T → Type 0
  Agree least n before s t = Agrees step other Related Fits measure least n before s t

  abbrev Pass : ℕ → S → T → Type 0
  Pass least s t = Passes step other Related Fits measure least s t

  abbrev End_of : List O → S → List O → Q → Type 0
  End_of before s out q = Ends step other Related Fits measure before s out q

  weaken : (b b' m m' : ℕ) (x : Standing O S R) (y : Standing O T Q) → (b ≤ m → b' ≤ m') → Alike b m x y → Alike b' m' x y
  weaken b b' m m' (Still out s) (Still shown t) f h = (h.0, h.1, f h.2)
  weaken b b' m m' (Over out r) (Over shown q) f h = h
  weaken b b' m m' (Still out s) (Over shown q) f h = h
  weaken b b' m m' (Over out r) (Still shown t) f h = h

  module _ (sim : Simulates step other Related Fits measure) where
    -- one step of the first machine

    on_end : (b n : ℕ) (before : List O) (s : S) (t : T) (r : R) → step s ≡ End r → Met (End r) s t → Agree b (suc n) before s t
    on_end b n before s t r e m = record {
      steps = m.0;
      alike = subst (λ x. Alike b m.0 (go_on step (run step n) before x) (run other m.0 before t)) (sym e) (subst (Alike b m.0 (Over before r)) (sym (m.2.by before)) (refl, m.3));
    }

    on_quiet : (b n : ℕ) (before : List O) (s next : S) (t : T) (out : List O) → step s ≡ Go out next → out ≡ [] → Agree b n before next t → Agree b (suc n) before s t
    on_quiet b n before s next t out e none a = record {
      steps = a.steps;
      alike =
          subst (λ x. Alike b a.steps (go_on step (run step n) before x) (run other a.steps before t)) (sym e)
          (subst (λ l. Alike b a.steps (run step n l next) (run other a.steps before t)) (sym (ap (λ o. before ++ o) none ∙ append-nil before)) a.alike);
    }

    on_more : (b b' n k : ℕ) (before : List O) (s next : S) (t u : T) (out : List O) → b' ≤ suc b → step s ≡ Go out next → Reaches other (suc k) out t u
        → Agree b n (before ++ out) next u → Agree b' (suc n) before s t
    on_more b b' n k before s next t u out le e c a = record {
      steps = suc k + a.steps;
      alike =
          subst (λ x. Alike b' (suc k + a.steps) (go_on step (run step n) before x) (run other (suc k + a.steps) before t)) (sym e)
          (subst (Alike b' (suc k + a.steps) (run step n (before ++ out) next)) (sym (c.by a.steps before))
          (weaken b b' a.steps (suc k + a.steps) _ _ (λ h. omega arithmetic) a.alike));
    }

    -- after each number of steps

    each : (n : ℕ) (before : List O) (s : S) (t : T) → Related s t → Agree 0 n before s t
    each zero before s t r = record { steps = 0; alike = (refl, r, omega arithmetic) }
    each (suc n) before s t r = next (step s) refl (sim s t r) (each n)
      where
        next : (x : Step O S R) → step s ≡ x → Met x s t → ((before : List O) (s : S) (t : T) → Related s t → Agree 0 n before s t) → Agree 0 (suc n) before s t
        next (End v) e m ih = on_end 0 n before s t v e m
        next (Go out s') e (inl m) ih = on_quiet 0 n before s s' t out e m.0 (ih before s' t m.1)
        next (Go out s') e (inr m) ih = on_more 0 0 n m.0 before s s' t m.1 out (omega arithmetic) e m.2 (ih (before ++ out) s' m.1 m.3)

    -- past every bound

    later : (b : ℕ) (s : S) (t : T) (from : ℕ) → ((n : ℕ) (before : List O) → from ≤ n → Agree b (suc n) before s t) → Pass b s t
    later b s t from f = record { from = suc from; by = at }
      where
        at : (n : ℕ) (before : List O) → suc from ≤ n → Agree b n before s t
        at zero before le = absurd (omega arithmetic)
        at (suc n) before le = f n before (omega arithmetic)

    passes_to : (b : ℕ) → ((s : S) (t : T) → Related s t → Pass b s t) → (p : ℕ) (s : S) (t : T) → measure s ≤ p → (x : Step O S R) → step s ≡ x → Met x s t → Pass (suc b) s t
    passes_to b ih p s t le (End v) e m = later (suc b) s t 0 (λ n before l. on_end (suc b) n before s t v e m)
    passes_to b ih p s t le (Go out s') e (inr m) =
        let q = ih s' m.1 m.3 in
        later (suc b) s t q.from (λ n before l. on_more b (suc b) n m.0 before s s' t m.1 out (omega arithmetic) e m.2 (q.by n (before ++ out) l))
    passes_to b ih zero s t le (Go out s') e (inl m) = absurd (omega (arithmetic, m.2))
    passes_to b ih (suc p) s t le (Go out s') e (inl m) =
        let q = passes_to b ih p s' t (omega (arithmetic, m.2)) (step s') refl (sim s' t m.1) in
        later (suc b) s t q.from (λ n before l. on_quiet (suc b) n before s s' t out e m.0 (q.by n before l))

    passes : (b : ℕ) (s : S) (t : T) → Related s t → Pass b s t
    passes zero s t r = record { from = 0; by = λ n before l. each n before s t r }
    passes (suc b) s t r = passes_to b (passes b) (measure s) s t (omega arithmetic) (step s) refl (sim s t r)

    -- an end stays

    stays : (m k : ℕ) (before : List O) (t : T) (out : List O) (q : Q) → run other m before t ≡ Over out q → run other (m + k) before t ≡ Over out q
    stays zero k before t out q e = absurd (still_over e)
      where
        still_over : Still before t ≡ Over out q → ⊥
        still_over e = cc
    stays (suc m) k before t out q e =
        let n : suc m + k ≡ suc (m + k) = omega arithmetic in
        ap (λ n. run other n before t) n ∙ on (λ more u e. stays m k (before ++ more) u out q e) (other t) e
      where
        on : ((more : List O) (u : T) → run other m (before ++ more) u ≡ Over out q → run other (m + k) (before ++ more) u ≡ Over out q)
            → (x : Step O T Q) → go_on other (run other m) before x ≡ Over out q → go_on other (run other (m + k)) before x ≡ Over out q
        on f (End r) e = e
        on f (Go more u) e = f more u e

    one_end : (m n : ℕ) (before : List O) (t : T) (out : List O) (q : Q) (y : Standing O T Q) → m ≤ n → run other m before t ≡ Over out q → run other n before t ≡ y → y ≡ Over out q
    one_end m n before t out q y le e f =
        let s : m + (n - m) ≡ n = omega arithmetic in sym f ∙ ap (λ k. run other k before t) (sym s) ∙ stays m (n - m) before t out q e

    -- where the other ends, the first has ended

    back : (m : ℕ) (before : List O) (s : S) (t : T) (out : List O) (q : Q) → Related s t → run other m before t ≡ Over out q → End_of before s out q
    back m before s t out q r e =
        let p = passes (suc m) s t r in
        let a = p.by p.from before (omega arithmetic) in
        decide p.from a.steps (run step p.from before s) (run other a.steps before t) refl refl a.alike
      where
        decide : (n k : ℕ) (x : Standing O S R) (y : Standing O T Q) → run step n before s ≡ x → run other k before t ≡ y → Alike (suc m) k x y → End_of before s out q
        decide n k (Still out' s') (Still shown t') e1 e2 h = absurd (let c : Still shown t' ≡ Over out q = one_end m k before t out q (Still shown t') (omega (arithmetic, h.2)) e e2 in cc)
        decide n k (Still out' s') (Over shown q') e1 e2 h = absurd h
        decide n k (Over out' r') (Still shown t') e1 e2 h = absurd h
        decide n k (Over out' r') (Over shown q') e1 e2 h =
            let same : Over shown q' ≡ Over out q =
            ⊎_elim (λ lt. one_end m k before t out q (Over shown q') (omega arithmetic) e e2) (λ le. sym (one_end k m before t shown q' (Over out q) le e2 e)) (cases_lt m k) in
            let same_out : shown ≡ out = cc in
            let same_end : q' ≡ q = cc in
            record { steps = n; result = r'; ends = e1 ∙ ap (λ l. Over l r') (h.0 ∙ same_out); fits = subst (Fits r') same_end h.1 }

    pub whole_runs : WholeRuns step other Related Fits measure
    whole_runs = record { each = each; passes = passes; back = back }
