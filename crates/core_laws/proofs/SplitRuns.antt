-- Whole runs agree, in both directions, with at most twice the weight and no more depth.
use Rattle.std.proofs.Common.{[], ◌≡◌, ℕ, zero, suc, ◌+◌, ◌*◌, ◌-◌, ◌≤◌, inl, inr, refl, sym, ap, ◌∙◌, subst, List, ◌++◌, arith as arithmetic, append-nil, ⊎_elim}
use Rattle.std.specs.Prelude.{max}
use Rattle.std.proofs.lemmas.Bool.{cases_lt}
use Rattle.mo_values.specs.Costs.{Cost, weighing}
use Rattle.mo_values.specs.Shapes.{Bytes}
use Rattle.core_ir.specs.Values.{Value}
use Rattle.core_ir.specs.Worlds.{World, Context}
use Rattle.core_ir.specs.Executions.{End, Replies, Rejects, Waits, Traps, Breaks, Go, Ends, Stand, Still, Over, after_step, run, heavier, costing, deep_with}
use Rattle.core_ir.specs.Expressions.{Core}
use Rattle.core_ir.specs.CoreMachine as core
use Rattle.core_ir.specs.CoreMachine.{Arguments, Looping, Labelled, Trying, Join, Eval, Give}
use Rattle.core_ir.specs.Code.{CodeProgram}
use Rattle.core_ir.specs.CodeMachine as code
use Rattle.core_ir.specs.CodeMachine.{Around, Within, Again, Place, settle, value, values, put, branch, onto, by_way, raise}
use Rattle.core_ir.specs.declared.primitive.Primitive.{Primitive}
use Rattle.core_ir.specs.Primitives.{perform}
use Rattle.core_ir.specs.CodeMachine.{put_all}
use Rattle.core_laws.specs.Splits.{SplitsProgram}
use Rattle.core_laws.proofs.Related.{Rel, EndFit, pot, Plus, Smaller, Quiet, Loud, Last, Matches}
use Rattle.core_laws.proofs.Given.{Heavy}
use Rattle.core_laws.proofs.EvaluatedExpressions.{simulates}

module _ (sizes : ℕ → ℕ) (context : Context) (nodes : ℕ) (source : Core) (program : CodeProgram) where
  abbrev R : ℕ → ℕ → core.State → code.State → Type 0
  R = Rel sizes context nodes source program

  abbrev run1 : ℕ → ℕ → ℕ → List Bytes → World → core.State → Stand core.State core.Waiting
  run1 = run (core.core_machine source) context

  abbrev run2 : ℕ → ℕ → ℕ → List Bytes → World → code.State → Stand code.State code.Waiting
  run2 = run (code.code_machine program) context

  -- how the runs stand: the code has made at least bd of its k steps where the other still goes
  abbrev pub Stands : ℕ → ℕ → Stand core.State core.Waiting → Stand code.State code.Waiting → Type 0
  Stands bd k (Still w d out world s) (Still w' d' out' world' t) =
      record { out_is : out ≡ out'; world_is : world ≡ world'; p : ℕ; b : ℕ; rel : R p b s t; weight : w' + p ≤ 2 * w; depth : d' ≤ d; past : bd ≤ k }
  Stands bd k (Over w d out world Breaks) y = Unit {0}
  Stands bd k (Over w d out world e) (Over w' d' out' world' e') =
      record { out_is : out ≡ out'; world_is : world ≡ world'; weight : w' ≤ 2 * w; depth : d' ≤ d; fits : EndFit sizes context nodes source program e e' }
  Stands bd k x y = ⊥

  pub record Agrees (bd : ℕ) (x : Stand core.State core.Waiting) (w' d' : ℕ) (out : List Bytes) (world : World) (t : code.State) : Type 0 where
    pub steps : ℕ
    pub stands : Stands bd steps x (run2 steps w' d' out world t)

  weaken : (bd bd' k k' : ℕ) (x : Stand core.State core.Waiting) (y : Stand code.State code.Waiting) → (bd ≤ k → bd' ≤ k') → Stands bd k x y → Stands bd' k' x y
  weaken bd bd' k k' (Still w d out world s) (Still w' d' out' world' t) f h =
      record { out_is = h.out_is; world_is = h.world_is; p = h.p; b = h.b; rel = h.rel; weight = h.weight; depth = h.depth; past = f h.past }
  weaken bd bd' k k' (Still w d out world s) (Over w' d' out' world' e') f h = h
  weaken bd bd' k k' (Over w d out world Breaks) y f h = tt
  weaken bd bd' k k' (Over w d out world (Replies v)) (Over w' d' out' world' e') f h = h
  weaken bd bd' k k' (Over w d out world (Replies v)) (Still w' d' out' world' t) f h = h
  weaken bd bd' k k' (Over w d out world (Rejects v)) (Over w' d' out' world' e') f h = h
  weaken bd bd' k k' (Over w d out world (Rejects v)) (Still w' d' out' world' t) f h = h
  weaken bd bd' k k' (Over w d out world (Waits on s)) (Over w' d' out' world' e') f h = h
  weaken bd bd' k k' (Over w d out world (Waits on s)) (Still w' d' out' world' t) f h = h
  weaken bd bd' k k' (Over w d out world (Traps x)) (Over w' d' out' world' e') f h = h
  weaken bd bd' k k' (Over w d out world (Traps x)) (Still w' d' out' world' t) f h = h

  -- ---- one or two steps of the code

  abbrev cost_of : code.Did → Cost
  cost_of (Go cost o world s) = cost
  cost_of (Ends cost o world e) = cost

  -- what follows a step, where the greatest depth is told
  abbrev finish : (ℕ → ℕ → List Bytes → World → code.State → Stand code.State code.Waiting) → (w d : ℕ) → List Bytes → code.Did → Stand code.State code.Waiting
  finish more w d out (Go cost o world s) = more (w + cost.weight) d (out ++ o) world s
  finish more w d out (Ends cost o world e) = Over (w + cost.weight) d (out ++ o) world e

  finished : (more : ℕ → ℕ → List Bytes → World → code.State → Stand code.State code.Waiting) (bodies w d : ℕ) (out : List Bytes) (x : code.Did) → after_step more bodies w d out x ≡ finish more w (max d (deep_with bodies (cost_of x))) out x
  finished more bodies w d out (Go cost o world s) = refl
  finished more bodies w d out (Ends cost o world e) = refl

  heavier_levels : (n : ℕ) (x : code.Did) → (cost_of (heavier n x)).levels ≡ (cost_of x).levels
  heavier_levels n (Go cost o world s) = refl
  heavier_levels n (Ends cost o world e) = refl

  shifted : (more : ℕ → ℕ → List Bytes → World → code.State → Stand code.State code.Waiting) (w x d : ℕ) (out : List Bytes) (e : code.Did) → finish more (w + x) d out e ≡ finish more w d out (heavier x e)
  shifted more w x d out (Go cost o world u) = let i : (w + x) + cost.weight ≡ w + (x + cost.weight) = omega arithmetic in ap (λ n. more n d (out ++ o) world u) i
  shifted more w x d out (Ends cost o world r) = let i : (w + x) + cost.weight ≡ w + (x + cost.weight) = omega arithmetic in ap (λ n. Over n d (out ++ o) world r) i

  abbrev Come : World → code.State → ℕ → code.Did → ℕ → ℕ → List Bytes → Type 0
  Come world t m x w' d' out =
      record { j : ℕ; dd : ℕ; low : dd ≤ max d' (m + 16 * (cost_of x).levels); by : (k : ℕ) → run2 (suc j + k) w' d' out world t ≡ finish (run2 k) w' dd out x }

  -- the second of two steps
  module _ (world : World) (t : code.State) (w' d' : ℕ) (out : List Bytes) (w : ℕ) (u : code.State) (e : code.Did)
      (first : code.step program context world t ≡ Go (weighing w) [] world u) (then : code.step program context world u ≡ e) where
    abbrev pub d_one : ℕ
    d_one = max d' (deep_with (code.depth t) (weighing w))

    abbrev pub d_two : ℕ
    d_two = max d_one (deep_with (code.depth u) (cost_of e))

    pub one_on : (k : ℕ) → run2 (suc k) w' d' out world t ≡ run2 k (w' + w) d_one out world u
    one_on k = ap (after_step (run2 k) (code.depth t) w' d' out) first ∙ ap (λ o. run2 k (w' + w) d_one o world u) (append-nil out)

    pub two_on : (k : ℕ) → run2 (suc (suc k)) w' d' out world t ≡ finish (run2 k) w' d_two out (heavier w e)
    two_on k =
        one_on (suc k) ∙ ap (after_step (run2 k) (code.depth u) (w' + w) d_one out) then
        ∙ finished (run2 k) (code.depth u) (w' + w) d_one out e ∙ shifted (run2 k) w' w d_two out e

  module _ (world : World) (t : code.State) (m : ℕ) where
    comes : (x : code.Did) → Plus sizes context nodes source program world t m x → (w' d' : ℕ) (out : List Bytes) → Come world t m x w' d' out
    comes x (inl a) w' d' out =
        let l = a.1 in
        record {
          j = 0;
          dd = max d' (deep_with (code.depth t) (cost_of x));
          low = omega (arithmetic, l);
          by = λ k. let n : suc 0 + k ≡ suc k = omega arithmetic in
              ap (λ n. run2 n w' d' out world t) n ∙ ap (after_step (run2 k) (code.depth t) w' d' out) (a.0) ∙ finished (run2 k) (code.depth t) w' d' out x;
        }
    comes x (inr a) w' d' out =
        let l1 = a.low in
        let l2 = a.low_too in
        let lv : (cost_of x).levels ≡ (cost_of a.e).levels = ap (λ x. (cost_of x).levels) a.is ∙ heavier_levels a.w a.e in
        record {
          j = 1;
          dd = d_two world t w' d' out a.w a.u a.e a.first a.then;
          low = omega (arithmetic, l1, l2, lv);
          by = λ k. let n : suc 1 + k ≡ suc (suc k) = omega arithmetic in
              ap (λ n. run2 n w' d' out world t) n ∙ two_on world t w' d' out a.w a.u a.e a.first a.then k
              ∙ ap (finish (run2 k) w' (d_two world t w' d' out a.w a.u a.e a.first a.then) out) (sym a.is);
        }

  pub over : (bd k w d : ℕ) (out : List Bytes) (world : World) (r : End core.Waiting) (w' d' : ℕ) (r' : End code.Waiting) → w' ≤ 2 * w → d' ≤ d → EndFit sizes context nodes source program r r' → Stands bd k (Over w d out world r) (Over w' d' out world r')
  over bd k w d out world (Replies v) w' d' r' a b e = record { out_is = refl; world_is = refl; weight = a; depth = b; fits = e }
  over bd k w d out world (Rejects v) w' d' r' a b e = record { out_is = refl; world_is = refl; weight = a; depth = b; fits = e }
  over bd k w d out world (Waits on s) w' d' r' a b e = record { out_is = refl; world_is = refl; weight = a; depth = b; fits = e }
  over bd k w d out world (Traps x) w' d' r' a b e = record { out_is = refl; world_is = refl; weight = a; depth = b; fits = e }
  over bd k w d out world Breaks w' d' r' a b e = tt

  quiet_pays : (p p' w w' v : ℕ) → w' + p ≤ 2 * w → p' ≤ 2 * v + p → w' + p' ≤ 2 * (w + v)
  quiet_pays p p' w w' v a c = omega (arithmetic, a, c)

  loud_pays : (p p' w w' v x : ℕ) → w' + p ≤ 2 * w → x + p' ≤ 2 * v + p → (w' + x) + p' ≤ 2 * (w + v)
  loud_pays p p' w w' v x a c = omega (arithmetic, a, c)

  last_pays : (p w w' v x : ℕ) → w' + p ≤ 2 * w → x ≤ 2 * v + p → w' + x ≤ 2 * (w + v)
  last_pays p w w' v x a c = omega (arithmetic, a, c)

  on_quiet : (bd n p b pt m w d w' d' : ℕ) (out : List Bytes) (world : World) (t : code.State) (v : Cost) (o : List Bytes) (world' : World) (s' : core.State) (q : Quiet sizes context nodes source program p b pt world t v o world' s') → Agrees bd (run1 n (w + v.weight) (max d (deep_with m v)) out world s') w' d' out world t → Agrees bd (after_step (run1 n) m w d out (Go v o world' s')) w' d' out world t
  on_quiet bd n p b pt m w d w' d' out world t v o world' s' q g =
      let e : out ++ o ≡ out = ap (λ o. out ++ o) q.none ∙ append-nil out in
      subst (λ x. Agrees bd (run1 n (w + v.weight) (max d (deep_with m v)) x world' s') w' d' out world t) (sym e) (subst (λ x. Agrees bd (run1 n (w + v.weight) (max d (deep_with m v)) out x s') w' d' out world t) (sym q.same) g)

  on_loud : (bd bd' n p m w d w' d' : ℕ) → bd' ≤ suc bd → (out : List Bytes) (world : World) (t : code.State) (v : Cost) (o : List Bytes) (world' : World) (s' : core.State) (q : Loud sizes context nodes source program p m world t v o world' s') → d' ≤ d → ((dd : ℕ) → dd ≤ max d (deep_with m v) → Agrees bd (run1 n (w + v.weight) (max d (deep_with m v)) (out ++ o) world' s') (w' + q.cost'.weight) dd (out ++ o) world' q.u) → Agrees bd' (after_step (run1 n) m w d out (Go v o world' s')) w' d' out world t
  on_loud bd bd' n p m w d w' d' le out world t v o world' s' q dl more =
      let c = comes world t m (Go q.cost' o world' q.u) q.does w' d' out in
      let cl = c.low in
      let fl = q.flat in
      let g = more c.dd (omega (arithmetic, cl, dl, fl)) in
      let x = run1 n (w + v.weight) (max d (deep_with m v)) (out ++ o) world' s' in
      let y = run2 g.steps (w' + q.cost'.weight) c.dd (out ++ o) world' q.u in
      record { steps = suc c.j + g.steps; stands = subst (Stands bd' (suc c.j + g.steps) x) (sym (c.by g.steps)) (weaken bd bd' g.steps (suc c.j + g.steps) x y (λ h. omega (arithmetic, h, le)) g.stands) }

  on_last : (bd n p m w d w' d' : ℕ) (out : List Bytes) (world : World) (t : code.State) (v : Cost) (o : List Bytes) (world' : World) (r : End core.Waiting) (q : Last sizes context nodes source program p m world t v o world' r) → w' + p ≤ 2 * w → d' ≤ d → Agrees bd (after_step (run1 n) m w d out (Ends v o world' r)) w' d' out world t
  on_last bd n p m w d w' d' out world t v o world' r q wl dl =
      let c = comes world t m (Ends q.cost' o world' q.r') q.does w' d' out in
      let cl = c.low in
      let fl = q.flat in
      record { steps = suc c.j + 0; stands = subst (Stands bd (suc c.j + 0) (Over (w + v.weight) (max d (deep_with m v)) (out ++ o) world' r)) (sym (c.by 0)) (over bd (suc c.j + 0) (w + v.weight) (max d (deep_with m v)) (out ++ o) world' r (w' + q.cost'.weight) c.dd q.r' (last_pays p w w' v.weight q.cost'.weight wl q.pays) (omega (arithmetic, cl, dl, fl)) q.fits) }

  on_end : (bd n p b pt m w d w' d' : ℕ) (out : List Bytes) (world : World) (t : code.State) (v : Cost) (o : List Bytes) (world' : World) (r : End core.Waiting) → Matches sizes context nodes source program p b pt m world t (Ends v o world' r) → w' + p ≤ 2 * w → d' ≤ d → Agrees bd (after_step (run1 n) m w d out (Ends v o world' r)) w' d' out world t
  on_end bd n p b pt m w d w' d' out world t v o world' Breaks q wl dl = record { steps = 0; stands = tt }
  on_end bd n p b pt m w d w' d' out world t v o world' (Replies x) q wl dl = on_last bd n p m w d w' d' out world t v o world' (Replies x) q wl dl
  on_end bd n p b pt m w d w' d' out world t v o world' (Rejects x) q wl dl = on_last bd n p m w d w' d' out world t v o world' (Rejects x) q wl dl
  on_end bd n p b pt m w d w' d' out world t v o world' (Waits on x) q wl dl = on_last bd n p m w d w' d' out world t v o world' (Waits on x) q wl dl
  on_end bd n p b pt m w d w' d' out world t v o world' (Traps x) q wl dl = on_last bd n p m w d w' d' out world t v o world' (Traps x) q wl dl

  module _ (fits : SplitsProgram sizes source program) (heavy : (world : World) (o : Primitive) (vs : List Value) → Heavy (perform context.head world.store o vs)) where
    -- what is known of runs of n steps
    abbrev pub Known : ℕ → ℕ → Type 0
    Known bd n =
        (p b w d w' d' : ℕ) (out : List Bytes) (world : World) (s : core.State) (t : code.State) → R p b s t → w' + p ≤ 2 * w → d' ≤ d → Agrees bd (run1 n w d out world s) w' d' out world t

    -- for each number of steps the code has one
    pub each : (n : ℕ) → Known 0 n
    each zero p b w d w' d' out world s t r wl dl =
        record { steps = 0; stands = record { out_is = refl; world_is = refl; p = p; b = b; rel = r; weight = wl; depth = dl; past = omega arithmetic } }
    each (suc n) p b w d w' d' out world s t r wl dl = next (core.step source context world s) (simulates sizes context nodes source program fits heavy p b world s t r) (each n)
      where
        next : (x : core.Did) → Matches sizes context nodes source program p b (pot sizes context nodes source program s.focus s.stack) (core.depth s) world t x → Known 0 n → Agrees 0 (after_step (run1 n) (core.depth s) w d out x) w' d' out world t
        next (Go v o world' s') (inl q) ih =
            on_quiet 0 n p b (pot sizes context nodes source program s.focus s.stack) (core.depth s) w d w' d' out world t v o world' s' q (ih q.p' q.b' (w + v.weight) (max d (deep_with (core.depth s) v)) w' d' out world s' t q.rel (quiet_pays p q.p' w w' v.weight wl q.pays) (omega (arithmetic, dl)))
        next (Go v o world' s') (inr q) ih =
            on_loud 0 0 n p (core.depth s) w d w' d' (omega arithmetic) out world t v o world' s' q dl (λ dd l. ih q.p' q.b' (w + v.weight) (max d (deep_with (core.depth s) v)) (w' + q.cost'.weight) dd (out ++ o) world' s' q.u q.rel (loud_pays p q.p' w w' v.weight q.cost'.weight wl q.pays) l)
        next (Ends v o world' e) q ih = on_end 0 n p b (pot sizes context nodes source program s.focus s.stack) (core.depth s) w d w' d' out world t v o world' e q wl dl

    -- and it passes every bound
    pub record Passes (bd p : ℕ) (world : World) (s : core.State) (t : code.State) : Type 0 where
      pub from : ℕ
      pub by : (n w d w' d' : ℕ) (out : List Bytes) → from ≤ n → w' + p ≤ 2 * w → d' ≤ d → Agrees bd (run1 n w d out world s) w' d' out world t

    later : (bd p : ℕ) (world : World) (s : core.State) (t : code.State) (from : ℕ) → ((n w d w' d' : ℕ) (out : List Bytes) → from ≤ n → w' + p ≤ 2 * w → d' ≤ d → Agrees bd (after_step (run1 n) (core.depth s) w d out (core.step source context world s)) w' d' out world t) → Passes bd p world s t
    later bd p world s t from g = record { from = suc from; by = at }
      where
        at : (n w d w' d' : ℕ) (out : List Bytes) → suc from ≤ n → w' + p ≤ 2 * w → d' ≤ d → Agrees bd (run1 n w d out world s) w' d' out world t
        at zero w d w' d' out l a c = absurd (omega (arithmetic, l))
        at (suc n) w d w' d' out l a c = g n w d w' d' out (omega (arithmetic, l)) a c

    module _ (bd : ℕ) (ih : (p b : ℕ) (world : World) (s : core.State) (t : code.State) → R p b s t → Passes bd p world s t) (B : ℕ) (before : (p b : ℕ) (world : World) (s : core.State) (t : code.State) → suc b ≤ B → R p b s t → Passes (suc bd) p world s t) where
      abbrev P : core.State → ℕ
      P s = pot sizes context nodes source program s.focus s.stack

      passes_case : (p b : ℕ) (world : World) (s : core.State) (t : code.State) → b ≤ B → ((p' b' : ℕ) (s' : core.State) → b' ≤ B → suc (P s') ≤ P s → R p' b' s' t → Passes (suc bd) p' world s' t) → (x : core.Did) → core.step source context world s ≡ x → Matches sizes context nodes source program p b (P s) (core.depth s) world t x → Passes (suc bd) p world s t
      passes_case p b world s t bl rec (Ends v o world' e) i q =
          later (suc bd) p world s t 0 (λ n w d w' d' out l wl dl. subst (λ x. Agrees (suc bd) (after_step (run1 n) (core.depth s) w d out x) w' d' out world t) (sym i) (on_end (suc bd) n p b (P s) (core.depth s) w d w' d' out world t v o world' e q wl dl))
      passes_case p b world s t bl rec (Go v o world' s') i (inr q) =
          let g = ih q.p' q.b' world' s' q.u q.rel in
          later (suc bd) p world s t g.from (λ n w d w' d' out l wl dl. subst (λ x. Agrees (suc bd) (after_step (run1 n) (core.depth s) w d out x) w' d' out world t) (sym i) (on_loud bd (suc bd) n p (core.depth s) w d w' d' (omega arithmetic) out world t v o world' s' q dl (λ dd k. g.by n (w + v.weight) (max d (deep_with (core.depth s) v)) (w' + q.cost'.weight) dd (out ++ o) l (loud_pays p q.p' w w' v.weight q.cost'.weight wl q.pays) k)))
      passes_case p b world s t bl rec (Go v o world' s') i (inl q) = on q.smaller
        where
          go_later : Passes (suc bd) q.p' world s' t → Passes (suc bd) p world s t
          go_later g =
              later (suc bd) p world s t g.from (λ n w d w' d' out l wl dl. subst (λ x. Agrees (suc bd) (after_step (run1 n) (core.depth s) w d out x) w' d' out world t) (sym i) (on_quiet (suc bd) n p b (P s) (core.depth s) w d w' d' out world t v o world' s' q (g.by n (w + v.weight) (max d (deep_with (core.depth s) v)) w' d' out l (quiet_pays p q.p' w w' v.weight wl q.pays) (omega (arithmetic, dl)))))

          on : Smaller sizes context nodes source program q.b' (P s') b (P s) → Passes (suc bd) p world s t
          on (inl l) = go_later (before q.p' q.b' world s' t (omega (arithmetic, l, bl)) q.rel)
          on (inr e) = let e0 = e.0 in go_later (rec q.p' q.b' s' (omega (arithmetic, e0, bl)) (e.1) q.rel)

      passes_to : (n0 p b : ℕ) (world : World) (s : core.State) (t : code.State) → b ≤ B → P s ≤ n0 → R p b s t → Passes (suc bd) p world s t
      passes_to zero p b world s t bl le r =
          passes_case p b world s t bl (λ p' b' s' bl' l r'. absurd (omega (arithmetic, l, le))) (core.step source context world s) refl (simulates sizes context nodes source program fits heavy p b world s t r)
      passes_to (suc n0) p b world s t bl le r =
          passes_case p b world s t bl (λ p' b' s' bl' l r'. passes_to n0 p' b' world s' t bl' (omega (arithmetic, l, le)) r') (core.step source context world s) refl (simulates sizes context nodes source program fits heavy p b world s t r)

    passes_from : (bd : ℕ) (ih : (p b : ℕ) (world : World) (s : core.State) (t : code.State) → R p b s t → Passes bd p world s t) (B : ℕ) (p b : ℕ) (world : World) (s : core.State) (t : code.State) → b ≤ B → R p b s t → Passes (suc bd) p world s t
    passes_from bd ih zero p b world s t bl r =
        passes_to bd ih 0 (λ p b world s t l r. absurd (omega (arithmetic, l))) (pot sizes context nodes source program s.focus s.stack) p b world s t bl (omega arithmetic) r
    passes_from bd ih (suc B) p b world s t bl r =
        passes_to bd ih (suc B) (λ p b world s t l r. passes_from bd ih B p b world s t (omega (arithmetic, l)) r) (pot sizes context nodes source program s.focus s.stack) p b world s t bl (omega arithmetic) r

    pub passes : (bd p b : ℕ) (world : World) (s : core.State) (t : code.State) → R p b s t → Passes bd p world s t
    passes zero p b world s t r = record { from = 0; by = λ n w d w' d' out l wl dl. each n p b w d w' d' out world s t r wl dl }
    passes (suc bd) p b world s t r = passes_from bd (passes bd) b p b world s t (omega arithmetic) r

  -- an end stays
  stays : (m k w d : ℕ) (out : List Bytes) (world : World) (t : code.State) (w' d' : ℕ) (o : List Bytes) (wd : World) (e : End code.Waiting) → run2 m w d out world t ≡ Over w' d' o wd e → run2 (m + k) w d out world t ≡ Over w' d' o wd e
  stays zero k w d out world t w' d' o wd e i = absurd (still_over i)
    where
      still_over : Still w d out world t ≡ Over w' d' o wd e → ⊥
      still_over i = cc
  stays (suc m) k w d out world t w' d' o wd e i =
      let n : suc m + k ≡ suc (m + k) = omega arithmetic in
      ap (λ n. run2 n w d out world t) n ∙ on (λ w d out world t i. stays m k w d out world t w' d' o wd e i) (code.step program context world t) i
    where
      on : ((w d : ℕ) (out : List Bytes) (world : World) (t : code.State) → run2 m w d out world t ≡ Over w' d' o wd e → run2 (m + k) w d out world t ≡ Over w' d' o wd e) → (x : code.Did)
          → after_step (run2 m) (code.depth t) w d out x ≡ Over w' d' o wd e → after_step (run2 (m + k)) (code.depth t) w d out x ≡ Over w' d' o wd e
      on f (Go cost o1 wd1 u) i = f (w + cost.weight) (max d (deep_with (code.depth t) cost)) (out ++ o1) wd1 u i
      on f (Ends cost o1 wd1 r) i = i

  one_end : (m n w d : ℕ) (out : List Bytes) (world : World) (t : code.State) (w' d' : ℕ) (o : List Bytes) (wd : World) (e : End code.Waiting) (y : Stand code.State code.Waiting) → m ≤ n → run2 m w d out world t ≡ Over w' d' o wd e → run2 n w d out world t ≡ y → y ≡ Over w' d' o wd e
  one_end m n w d out world t w' d' o wd e y le i j =
      let s : m + (n - m) ≡ n = omega (arithmetic, le) in
      sym j ∙ ap (λ k. run2 k w d out world t) (sym s) ∙ stays m (n - m) w d out world t w' d' o wd e i

  -- what has ended did so likewise, if the other is never stuck
  abbrev pub Ended : Stand core.State core.Waiting → Stand code.State code.Waiting → Type 0
  Ended (Still w d out world s) y = ⊥
  Ended (Over w d out world e) y = Stands 0 0 (Over w d out world e) y

  module _ (fits : SplitsProgram sizes source program) (heavy : (world : World) (o : Primitive) (vs : List Value) → Heavy (perform context.head world.store o vs)) where
    pub backward : (m p b w d w' d' : ℕ) (out : List Bytes) (world : World) (s : core.State) (t : code.State) → R p b s t → w' + p ≤ 2 * w → d' ≤ d → (w2 d2 : ℕ) (o2 : List Bytes) (wd2 : World) (e2 : End code.Waiting) → run2 m w' d' out world t ≡ Over w2 d2 o2 wd2 e2 → (n : ℕ) × Ended (run1 n w d out world s) (Over w2 d2 o2 wd2 e2)
    backward m p b w d w' d' out world s t r wl dl w2 d2 o2 wd2 e2 i =
        let g = passes fits heavy (suc m) p b world s t r in
        let a = g.by g.from w d w' d' out (omega arithmetic) wl dl in
        (g.from, decide (run1 g.from w d out world s) a.steps (run2 a.steps w' d' out world t) refl a.stands)
      where
        same : (k : ℕ) (y : Stand code.State code.Waiting) → run2 k w' d' out world t ≡ y → (x : Stand core.State core.Waiting) (w3 d3 : ℕ) (o3 : List Bytes) (wd3 : World) (e3 : End code.Waiting) → y ≡ Over w3 d3 o3 wd3 e3 → y ≡ Over w2 d2 o2 wd2 e2
        same k y j x w3 d3 o3 wd3 e3 z =
            ⊎_elim (λ lt. one_end m k w' d' out world t w2 d2 o2 wd2 e2 y (omega (arithmetic, lt)) i j) (λ le. z ∙ sym (one_end k m w' d' out world t w3 d3 o3 wd3 e3 (Over w2 d2 o2 wd2 e2) (omega (arithmetic, le)) (j ∙ z) i)) (cases_lt m k)

        decide : (x : Stand core.State core.Waiting) (k : ℕ) (y : Stand code.State code.Waiting) → run2 k w' d' out world t ≡ y → Stands (suc m) k x y → Ended x (Over w2 d2 o2 wd2 e2)
        decide (Still w3 d3 o3 wd3 s3) k (Still w4 d4 o4 wd4 t4) j h =
            let l = h.past in
            absurd (let z : Still w4 d4 o4 wd4 t4 ≡ Over w2 d2 o2 wd2 e2 = one_end m k w' d' out world t w2 d2 o2 wd2 e2 (Still w4 d4 o4 wd4 t4) (omega (arithmetic, l)) i j in cc)
        decide (Still w3 d3 o3 wd3 s3) k (Over w4 d4 o4 wd4 e4) j h = absurd h
        decide (Over w3 d3 o3 wd3 e3) k (Over w4 d4 o4 wd4 e4) j h =
            subst (Stands 0 0 (Over w3 d3 o3 wd3 e3)) (same k (Over w4 d4 o4 wd4 e4) j (Over w3 d3 o3 wd3 e3) w4 d4 o4 wd4 e4 refl) (weaken (suc m) 0 k 0 (Over w3 d3 o3 wd3 e3) (Over w4 d4 o4 wd4 e4) (λ h. omega arithmetic) h)
        decide (Over w3 d3 o3 wd3 Breaks) k y j h = tt
        decide (Over w3 d3 o3 wd3 (Replies v)) k (Still w4 d4 o4 wd4 t4) j h = absurd h
        decide (Over w3 d3 o3 wd3 (Rejects v)) k (Still w4 d4 o4 wd4 t4) j h = absurd h
        decide (Over w3 d3 o3 wd3 (Waits on v)) k (Still w4 d4 o4 wd4 t4) j h = absurd h
        decide (Over w3 d3 o3 wd3 (Traps v)) k (Still w4 d4 o4 wd4 t4) j h = absurd h

  -- the code, after any number of its steps, has shown what the other has shown after some, for at most twice the weight
  abbrev pub Close : Stand core.State core.Waiting → Stand code.State code.Waiting → Type 0
  Close (Over w d out world Breaks) y = Unit {0}
  Close (Still w d out world s) (Still w' d' out' world' t) = (out' ≡ out) × (w' ≤ 2 * w) × (d' ≤ d)
  Close x (Over w' d' out' world' e) = Unit {0}
  Close x y = ⊥

  near_over : (x : Stand core.State core.Waiting) (w' d' : ℕ) (out' : List Bytes) (world' : World) (e : End code.Waiting) → Close x (Over w' d' out' world' e)
  near_over (Still w d out world s) w' d' out' world' e = tt
  near_over (Over w d out world Breaks) w' d' out' world' e = tt
  near_over (Over w d out world (Replies v)) w' d' out' world' e = tt
  near_over (Over w d out world (Rejects v)) w' d' out' world' e = tt
  near_over (Over w d out world (Waits i v)) w' d' out' world' e = tt
  near_over (Over w d out world (Traps v)) w' d' out' world' e = tt

  abbrev pub Btw : ℕ → Type 0
  Btw k =
      (p b w d w' d' : ℕ) (out : List Bytes) (world : World) (s : core.State) (t : code.State) → R p b s t → w' + p ≤ 2 * w → d' ≤ d → (n : ℕ) × Close (run1 n w d out world s) (run2 k w' d' out world t)

  -- a state, and the runs so far
  module _ (k1 p b w d w' d' : ℕ) (out : List Bytes) (world : World) (s : core.State) (t : code.State) (wl : w' + p ≤ 2 * w) (dl : d' ≤ d) where
    abbrev Mm : ℕ
    Mm = core.depth s

    abbrev Wanted : Type 0
    Wanted = (n : ℕ) × Close (run1 n w d out world s) (run2 (suc k1) w' d' out world t)

    -- what the step gives
    abbrev Then : core.Did → Type 0
    Then x = (n : ℕ) × Close (after_step (run1 n) Mm w d out x) (run2 (suc k1) w' d' out world t)

    from_then : (x : core.Did) → core.step source context world s ≡ x → Then x → Wanted
    from_then x i h = (suc (h.0), subst (λ x. Close (after_step (run1 (h.0)) Mm w d out x) (run2 (suc k1) w' d' out world t)) (sym i) (h.1))

    quiet_then : (pt : ℕ) (v : Cost) (o : List Bytes) (world' : World) (s' : core.State) (q : Quiet sizes context nodes source program p b pt world t v o world' s') → (n : ℕ) × Close (run1 n (w + v.weight) (max d (deep_with Mm v)) out world s') (run2 (suc k1) w' d' out world t) → Then (Go v o world' s')
    quiet_then pt v o world' s' q g =
        let e : out ++ o ≡ out = ap (λ o. out ++ o) q.none ∙ append-nil out in
        (g.0, subst (λ x. Close (run1 (g.0) (w + v.weight) (max d (deep_with Mm v)) x world' s') (run2 (suc k1) w' d' out world t)) (sym e) (subst (λ x. Close (run1 (g.0) (w + v.weight) (max d (deep_with Mm v)) out x s') (run2 (suc k1) w' d' out world t)) (sym q.same) (g.1)))

  none_of : (x : Cost) (y : ℕ) (c2 : Cost) (o : List Bytes) (world' world2 : World) (u v : code.State) (e : code.Did) → Go x o world' u ≡ heavier y e → e ≡ Go c2 [] world2 v → (o ≡ []) × (x ≡ costing y c2)
  none_of x y c2 o world' world2 u v e i j =
      let z : Go x o world' u ≡ Go (costing y c2) [] world2 v = i ∙ ap (heavier y) j in
      ((let a : o ≡ [] = cc in a), (let a : x ≡ costing y c2 = cc in a))

  never_ends : {A : Type 0} (x : Cost) (y : ℕ) (c2 : Cost) (o : List Bytes) (world' world2 : World) (r : End code.Waiting) (v : code.State) (e : code.Did) → Ends x o world' r ≡ heavier y e → e ≡ Go c2 [] world2 v → A
  never_ends x y c2 o world' world2 r v e i j =
      absurd (let z : Ends x o world' r ≡ Go (costing y c2) [] world2 v = i ∙ ap (heavier y) j in cc)

  -- a step of the code or two
  loud_near : (k1 p w d w' d' m : ℕ) (out : List Bytes) (world : World) (t : code.State) → w' + p ≤ 2 * w → d' ≤ d → (v : Cost) (o : List Bytes) (world' : World) (s' : core.State) (q : Loud sizes context nodes source program p m world t v o world' s')
      → ((k : ℕ) → k ≤ k1 → Btw k) → (n : ℕ) × Close (run1 n (w + v.weight) (max d (deep_with m v)) (out ++ o) world' s') (run2 (suc k1) w' d' out world t)
  loud_near k1 p w d w' d' m out world t wl dl v o world' s' q ih = on k1 q.does ih
    where
      on : (k1 : ℕ) → Plus sizes context nodes source program world t m (Go q.cost' o world' q.u) → ((k : ℕ) → k ≤ k1 → Btw k) → (n : ℕ) × Close (run1 n (w + v.weight) (max d (deep_with m v)) (out ++ o) world' s') (run2 (suc k1) w' d' out world t)
      on k1 (inl a) ih =
          let l = a.1 in
          let fl = q.flat in
          let g = ih k1 (omega arithmetic) q.p' q.b' (w + v.weight) (max d (deep_with m v)) (w' + q.cost'.weight) (max d' (deep_with (code.depth t) q.cost')) (out ++ o) world' s' q.u q.rel
          (loud_pays p q.p' w w' v.weight q.cost'.weight wl q.pays) (omega (arithmetic, l, dl, fl)) in
          (g.0, subst (Close (run1 (g.0) (w + v.weight) (max d (deep_with m v)) (out ++ o) world' s')) (sym (ap (after_step (run2 k1) (code.depth t) w' d' out) (a.0))) (g.1))
      on zero (inr a) ih =
          let n = none_of q.cost' a.w a.cost2 o world' a.world2 q.u a.v a.e a.is a.silent in
          let l = a.low in
          let e : q.cost'.weight ≡ a.w + a.cost2.weight = ap (λ (c : Cost). c.weight) (n.1) in
          let c = q.pays in (
            0,
            subst (Close (Still (w + v.weight) (max d (deep_with m v)) (out ++ o) world' s')) (sym (one_on world t w' d' out a.w a.u a.e a.first a.then 0))
                (sym (ap (λ o. out ++ o) (n.0) ∙ append-nil out), omega (arithmetic, wl, e, c), omega (arithmetic, l, dl)),
          )
      on (suc k2) (inr a) ih =
          let l1 = a.low in
          let l2 = a.low_too in
          let fl = q.flat in
          let lv : q.cost'.levels ≡ (cost_of a.e).levels = ap (λ x. (cost_of x).levels) a.is ∙ heavier_levels a.w a.e in
          let d2 = d_two world t w' d' out a.w a.u a.e a.first a.then in
          let eq : run2 (suc (suc k2)) w' d' out world t ≡ run2 k2 (w' + q.cost'.weight) d2 (out ++ o) world' q.u =
          two_on world t w' d' out a.w a.u a.e a.first a.then k2 ∙ ap (finish (run2 k2) w' d2 out) (sym a.is) in
          let g = ih k2 (omega arithmetic) q.p' q.b' (w + v.weight) (max d (deep_with m v)) (w' + q.cost'.weight) d2 (out ++ o) world' s' q.u q.rel
          (loud_pays p q.p' w w' v.weight q.cost'.weight wl q.pays) (omega (arithmetic, l1, l2, dl, fl, lv)) in
          (g.0, subst (Close (run1 (g.0) (w + v.weight) (max d (deep_with m v)) (out ++ o) world' s')) (sym eq) (g.1))

  last_near : (k1 p w d w' d' m : ℕ) (out : List Bytes) (world : World) (s : core.State) (t : code.State) (v : Cost) (o : List Bytes) (world' : World) (r : End core.Waiting) (q : Last sizes context nodes source program p m world t v o world' r) → Close (Still w d out world s) (run2 (suc k1) w' d' out world t)
  last_near k1 p w d w' d' m out world s t v o world' r q = on q.does
    where
      on : Plus sizes context nodes source program world t m (Ends q.cost' o world' q.r') → Close (Still w d out world s) (run2 (suc k1) w' d' out world t)
      on (inl a) = subst (Close (Still w d out world s)) (sym (ap (after_step (run2 k1) (code.depth t) w' d' out) (a.0))) tt
      on (inr a) = never_ends q.cost' a.w a.cost2 o world' a.world2 q.r' a.v a.e a.is a.silent

  module _ (fits : SplitsProgram sizes source program) (heavy : (world : World) (o : Primitive) (vs : List Value) → Heavy (perform context.head world.store o vs)) where
    abbrev Pt : core.State → ℕ
    Pt s = pot sizes context nodes source program s.focus s.stack

    module _ (k1 : ℕ) (ih : (k : ℕ) → k ≤ k1 → Btw k) (B : ℕ) where
      -- at this number of steps of the code, from a state whose b is small
      abbrev At : (p b : ℕ) → core.State → Type 0
      At p b s =
          (w d w' d' : ℕ) (out : List Bytes) (world : World) (t : code.State) → R p b s t → w' + p ≤ 2 * w → d' ≤ d → (n : ℕ) × Close (run1 n w d out world s) (run2 (suc k1) w' d' out world t)

      between_case : ((p b : ℕ) (s : core.State) → suc b ≤ B → At p b s) → (p b : ℕ) (s : core.State) → b ≤ B → ((p' b' : ℕ) (s' : core.State) → b' ≤ B → suc (Pt s') ≤ Pt s → At p' b' s') → (w d w' d' : ℕ) (out : List Bytes) (world : World) (t : code.State) → w' + p ≤ 2 * w → d' ≤ d → (x : core.Did) → core.step source context world s ≡ x → Matches sizes context nodes source program p b (Pt s) (core.depth s) world t x → (n : ℕ) × Close (run1 n w d out world s) (run2 (suc k1) w' d' out world t)
      between_case before p b s bl rec w d w' d' out world t wl dl (Go v o world' s') i (inr q) =
          from_then k1 p b w d w' d' out world s t wl dl (Go v o world' s') i (loud_near k1 p w d w' d' (core.depth s) out world t wl dl v o world' s' q ih)
      between_case before p b s bl rec w d w' d' out world t wl dl (Go v o world' s') i (inl q) =
          from_then k1 p b w d w' d' out world s t wl dl (Go v o world' s') i (quiet_then k1 p b w d w' d' out world s t wl dl (Pt s) v o world' s' q (on q.smaller))
        where
          on : Smaller sizes context nodes source program q.b' (Pt s') b (Pt s) → (n : ℕ) × Close (run1 n (w + v.weight) (max d (deep_with (core.depth s) v)) out world s') (run2 (suc k1) w' d' out world t)
          on (inl l) = before q.p' q.b' s' (omega (arithmetic, l, bl)) (w + v.weight) (max d (deep_with (core.depth s) v)) w' d' out world t q.rel (quiet_pays p q.p' w w' v.weight wl q.pays) (omega (arithmetic, dl))
          on (inr e) =
              let e0 = e.0 in
              rec q.p' q.b' s' (omega (arithmetic, e0, bl)) (e.1) (w + v.weight) (max d (deep_with (core.depth s) v)) w' d' out world t q.rel (quiet_pays p q.p' w w' v.weight wl q.pays) (omega (arithmetic, dl))
      between_case before p b s bl rec w d w' d' out world t wl dl (Ends v o world' Breaks) i q = from_then k1 p b w d w' d' out world s t wl dl (Ends v o world' Breaks) i (0, tt)
      between_case before p b s bl rec w d w' d' out world t wl dl (Ends v o world' (Replies x)) i q = (0, last_near k1 p w d w' d' (core.depth s) out world s t v o world' (Replies x) q)
      between_case before p b s bl rec w d w' d' out world t wl dl (Ends v o world' (Rejects x)) i q = (0, last_near k1 p w d w' d' (core.depth s) out world s t v o world' (Rejects x) q)
      between_case before p b s bl rec w d w' d' out world t wl dl (Ends v o world' (Waits j x)) i q = (0, last_near k1 p w d w' d' (core.depth s) out world s t v o world' (Waits j x) q)
      between_case before p b s bl rec w d w' d' out world t wl dl (Ends v o world' (Traps x)) i q = (0, last_near k1 p w d w' d' (core.depth s) out world s t v o world' (Traps x) q)

      between_to : ((p b : ℕ) (s : core.State) → suc b ≤ B → At p b s) → (n0 p b : ℕ) (s : core.State) → b ≤ B → Pt s ≤ n0 → At p b s
      between_to before zero p b s bl le w d w' d' out world t r wl dl =
          between_case before p b s bl (λ p' b' s' bl' l. absurd (omega (arithmetic, l, le))) w d w' d' out world t wl dl (core.step source context world s) refl (simulates sizes context nodes source program fits heavy p b world s t r)
      between_to before (suc n0) p b s bl le w d w' d' out world t r wl dl =
          between_case before p b s bl (λ p' b' s' bl' l. between_to before n0 p' b' s' bl' (omega (arithmetic, l, le))) w d w' d' out world t wl dl (core.step source context world s) refl (simulates sizes context nodes source program fits heavy p b world s t r)

    between_from : (k1 : ℕ) (ih : (k : ℕ) → k ≤ k1 → Btw k) (B p b : ℕ) (s : core.State) → b ≤ B → At k1 ih B p b s
    between_from k1 ih zero p b s bl = between_to k1 ih 0 (λ p b s l. absurd (omega (arithmetic, l))) (Pt s) p b s bl (omega arithmetic)
    between_from k1 ih (suc B) p b s bl = between_to k1 ih (suc B) (λ p b s l. between_from k1 ih B p b s (omega (arithmetic, l))) (Pt s) p b s bl (omega arithmetic)

    between_up : (K k : ℕ) → k ≤ K → Btw k
    between_up K zero l p b w d w' d' out world s t r wl dl = (0, (refl, omega (arithmetic, wl), dl))
    between_up zero (suc k) l p b w d w' d' out world s t r wl dl = absurd (omega (arithmetic, l))
    between_up (suc K) (suc k) l p b w d w' d' out world s t r wl dl = between_from k (λ j m. between_up K j (omega (arithmetic, m, l))) b p b s (omega arithmetic) w d w' d' out world t r wl dl

    -- after each number of its steps the code has shown what the other has shown after some
    pub between : (k : ℕ) → Btw k
    between k p b w d w' d' out world s t r wl dl = between_up k k (omega arithmetic) p b w d w' d' out world s t r wl dl
