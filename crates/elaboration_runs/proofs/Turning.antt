-- A turn of an execution is followed by a run of Core.
use Rattle.std.proofs.Common.{◌≡◌, ◌⊎◌, inl, inr, ℕ, suc, ◌+◌, ◌*◌, ◌≤◌, Bool, true, false, List, [], ◌∷◌, ◌++◌, None, refl, sym, ap, ◌∙◌, subst, arith}
use Rattle.std.specs.Prelude.{max}
use Rattle.mo_values.specs.Costs.{Cost, weighing}
use Rattle.mo_values.specs.Shapes.{Bytes}
use Rattle.core_ir.specs.Worlds.{World, Context}
use Rattle.core_ir.specs.Executions.{End, after_step, deep_with}
use Rattle.core_ir.specs.Executions as execution
use Rattle.core_ir.specs.Expressions.{Core}
use Rattle.core_ir.specs.CoreMachine.{Frame, Focus, Waiting, at, depth_of, core_machine}
use Rattle.mo_machine.specs.Acts.{Store, Act, Goes, Prints, Asks, Awaits, Leaves, Throws, Traps, Stuck}
use Rattle.mo_machine.specs.Configurations.{Configuration, live_state, moved, standing, weighed}
use Rattle.mo_machine.specs.Frames as machine
use Rattle.mo_machine.specs.Frames.{Stack}
use Rattle.mo_machine.specs.Moves.{Move, Moved, Ends, Reduces, move}
use Rattle.mo_machine.specs.Reductions.{reduces}
use Rattle.elaboration_values.specs.Belonging.{Known}
use Rattle.elaboration_steps.specs.Stacks.{Standing, Here, Filling, Gathered, AtEnd}
use Rattle.elaboration_steps.specs.Follows.{start, owed, NoDeeper, Follows, AsDeep, InBody, Stops, MoveFollows, Acts, Suits}
use Rattle.elaboration_steps.specs.Running.{least, Runs, Finishes}
use Rattle.elaboration_steps.proofs.Running.{ways, ends}
use Rattle.elaboration_steps.proofs.Standing.{stands_move, stands_reduce}
use Rattle.elaboration_steps.proofs.StateDepth.{state_deep, filling_deep}
use Rattle.elaboration_runs.specs.Together.{Together, GoesOn, IsOver, MoveTurns, ActTurns, TurnsFollow}
use Rattle.elaboration_runs.proofs.Levels.{KeepsLive, move_keeps}
use Rattle.elaboration_runs.proofs.Flat.{Lightly, gathers_lightly}

not_moved : (b : Bool) (n : ℕ) → least b ≤ n → n ≡ 0 → b ≡ false
not_moved false n h e = refl
not_moved true n h e = absurd (let z : 1 ≤ n = h in let y : 1 ≤ 0 = omega (arith, z, e) in (let x : ⊥ = omega (arith, y) in x))

module _ (program : Core) (context : Context) (nodes : ℕ) (held : ℕ) (known : List Known) (c : Configuration) (w d : ℕ) (prints : List Bytes) (world : World) (f : Focus) (k : List Frame) (t : Together program context nodes held known c w d prints world f k) where
  -- as deep as before, or as the execution is
  stays : (c' : Configuration) (cf' : Focus) (ck' : List Frame) → NoDeeper program context nodes k ck' c'.focus c'.stack → c.depth ≤ c'.depth → live_state c'.focus c'.stack ≤ c'.depth → 16 + nodes + depth_of ck' ≤ c'.depth
  stays c' cf' ck' (inl h) deeper live = let z : 16 + nodes + depth_of k ≤ c.depth = t.deep in omega (arith, z, h, deeper)
  stays c' cf' ck' (inr h) deeper live = omega (arith, h, live)

  -- from what a step is followed by to where the run is then; x is its weight
  goes_on : (x levels : ℕ) (out : List Bytes) (c' : Configuration) → Follows program context nodes (start c.focus c.stack) (owed c.stack) (2 * x + held) levels out known world f k c'.store c'.focus c'.stack
      → c'.weight ≡ c.weight + x → c'.prints ≡ c.prints ++ out → 16 + nodes + depth_of k + 16 * levels ≤ c'.depth → c.depth ≤ c'.depth → live_state c'.focus c'.stack ≤ c'.depth
      → GoesOn program context nodes (start c.focus c.stack) known w d prints world f k c'
  goes_on x levels out c' r weight printed level deeper live =
      let u : Runs program context nodes (least r.moved) r.weight levels out w d prints world f k r.world' r.cf' r.ck' = ways program context nodes r.moved r.weight levels out world f k r.world' r.cf' r.ck' r.path w d prints in
      let top : 16 + nodes + depth_of r.ck' ≤ c'.depth = stays c' r.cf' r.ck' r.level deeper live in
      record {
        steps = u.steps;
        weight' = u.weight';
        depth' = u.depth';
        prints' = u.prints';
        held' = r.held';
        known' = r.known';
        world' = r.world';
        f' = r.cf';
        k' = r.ck';
        by = u.by;
        falls = λ e. r.falls (not_moved r.moved u.steps u.enough e);
        grows = r.grows;
        requests = r.requests;
        together = record {
          prints_are = u.shown ∙ (ap (λ z. z ++ out) t.prints_are ∙ sym printed);
          light =
              let a : u.weight' ≤ w + r.weight = u.heavy in
              let b : owed c.stack + r.weight + r.held' ≤ 2 * x + held + owed c'.stack = r.pays in
              let e : w + held ≤ 2 * c.weight + owed c.stack = t.light in
              omega (arith, a, b, e, weight);
          shallow =
              let a : u.depth' ≤ max d (max (16 + nodes + depth_of k + 16 * levels) (16 + nodes + depth_of r.ck')) = u.within in
              let b : 16 + nodes + depth_of r.ck' ≤ c'.depth = top in
              let e : d ≤ c.depth = t.shallow in
              omega (arith, a, b, e, level, deeper);
          within = live;
          deep = top;
          stands = r.stands;
        };
      }

  -- it stops, as deep as the execution counts for values, or in a body that Core has entered
  over : (x levels : ℕ) (c' : Configuration) (end : End Waiting) → (r : Stops program context nodes (start c.focus c.stack) 0 (2 * x + held) levels world f k end) → c'.weight ≡ c.weight + x → c'.prints ≡ c.prints → c'.stack ≡ c.stack → live_state c.focus c.stack + 16 * levels ≤ c'.depth
      → (16 + nodes + depth_of k + 16 * levels ≤ c'.depth) ⊎ InBody program context nodes (start c.focus c.stack) levels r.through r.cost.levels r.ck' → c.depth ≤ c'.depth
      → IsOver program context nodes (start c.focus c.stack) known w d prints world f k c' end
  over x levels c' end r weight printed stack live level deeper =
      let u : Finishes program context nodes (2 * x + held) r.through r.cost.levels w d prints world f k r.ck' end = ends program context nodes (start c.focus c.stack) 0 (2 * x + held) levels world f k end r w d prints (2 * x + held) (omega arith) in
      record {
        steps = u.steps;
        weight' = u.weight';
        depth' = u.depth';
        prints' = u.prints';
        world' = world;
        by = u.by;
        prints_are = u.shown ∙ (t.prints_are ∙ sym printed);
        light =
            let a : u.weight' ≤ w + (2 * x + held) = u.heavy in
            let e : w + held ≤ 2 * c.weight + owed c.stack = t.light in
            let o : owed c'.stack ≡ owed c.stack = ap owed stack in
            omega (arith, a, e, weight, o);
        shallow =
            let a : u.depth' ≤ max d (max (16 + nodes + depth_of k + 16 * r.through) (16 + nodes + depth_of r.ck' + 16 * r.cost.levels)) = u.within in
            let b : (16 + nodes + depth_of k + 16 * r.through ≤ c'.depth) × (16 + nodes + depth_of r.ck' + 16 * r.cost.levels ≤ c'.depth) = both level r.level in
            let e : d ≤ c.depth = t.shallow in
            let y : 16 + nodes + depth_of k + 16 * r.through ≤ c'.depth = b.0 in
            let z : 16 + nodes + depth_of r.ck' + 16 * r.cost.levels ≤ c'.depth = b.1 in
            omega (arith, a, y, z, e, deeper);
        world_is = refl;
      }
    where
      inside : InBody program context nodes (start c.focus c.stack) levels r.through r.cost.levels r.ck' → (16 + nodes + depth_of k + 16 * r.through ≤ c'.depth) × (16 + nodes + depth_of r.ck' + 16 * r.cost.levels ≤ c'.depth)
      inside (a, b, h) = (let z : 16 + nodes + depth_of k ≤ c.depth = t.deep in omega (arith, z, a, deeper), omega (arith, b, h, live))

      both : (16 + nodes + depth_of k + 16 * levels ≤ c'.depth) ⊎ InBody program context nodes (start c.focus c.stack) levels r.through r.cost.levels r.ck' → AsDeep program context nodes levels r.through r.cost.levels k r.ck' ⊎ InBody program context nodes (start c.focus c.stack) levels r.through r.cost.levels r.ck' → (16 + nodes + depth_of k + 16 * r.through ≤ c'.depth) × (16 + nodes + depth_of r.ck' + 16 * r.cost.levels ≤ c'.depth)
      both (inr h) s = inside h
      both (inl le) (inr h) = inside h
      both (inl le) (inl (a, b, h)) = (omega (arith, le, a), omega (arith, le, b, h))

  no_more : {A : Type 0} (xs : List A) → xs ≡ xs ++ []
  no_more [] = refl
  no_more (y ∷ xs) = ap (λ r. y ∷ r) (no_more xs)

  move_turns : (m : Move) → MoveFollows program context nodes (start c.focus c.stack) held known world c.store c.stack f k m → KeepsLive m (live_state c.focus c.stack)
      → MoveTurns program context nodes (start c.focus c.stack) known w d prints world f k c m
  move_turns (Moved g l) r same =
      goes_on 0 0 [] (standing g l c) (subst (λ n. Follows program context nodes (start c.focus c.stack) (owed c.stack) n 0 [] known world f k c.store g l) (let z : held ≡ 2 * 0 + held = omega arith in z) r)
      (let z : c.weight ≡ c.weight + 0 = omega arith in z) (no_more c.prints)
      (let z : 16 + nodes + depth_of k ≤ c.depth = t.deep in omega (arith, z)) (omega arith)
      (let z : live_state g l ≡ live_state c.focus c.stack = same in let y : live_state c.focus c.stack ≤ c.depth = t.within in omega (arith, z, y))
  move_turns (Ends v) r same = (
    r.0,
    r.1,
    record {
      steps = 1;
      weight' = w + 1;
      depth' = max d (deep_with (16 + nodes + depth_of k) (weighing 1));
      prints' = prints ++ [];
      world' = world;
      by = λ more. ap (λ n. execution.run (core_machine program) context n w d prints world (at program context nodes f k)) (let z : 1 + more ≡ suc more = omega arith in z)
          ∙ ap (after_step (execution.run (core_machine program) context more) (16 + nodes + depth_of k) w d prints) (r.2);
      prints_are = sym (no_more prints) ∙ t.prints_are;
      light = let e : w + held ≤ 2 * c.weight + owed c.stack = t.light in let p : 1 ≤ held = r.3 in omega (arith, e, p);
      shallow = let e : d ≤ c.depth = t.shallow in let y : 16 + nodes + depth_of k ≤ c.depth = t.deep in omega (arith, e, y);
      world_is = refl;
    },
    r.4,
  )
  move_turns Reduces r same = tt

  -- what goes through values is no deeper than in the execution
  counted : (levels depth : ℕ) → (16 + nodes + depth_of k ≤ live_state c.focus c.stack) ⊎ (levels ≡ 0) → max c.depth (live_state c.focus c.stack + 16 * levels) ≤ depth → 16 + nodes + depth_of k + 16 * levels ≤ depth
  counted levels depth (inl h) le = omega (arith, h, le)
  counted levels depth (inr e) le = let z : 16 + nodes + depth_of k ≤ c.depth = t.deep in omega (arith, z, e, le)

  -- where Core is deeper than the execution, no values are gone through
  abbrev Light : (a : Act) → Acts program context nodes (start c.focus c.stack) held known world c.store c.stack 0 f k a → Type 0
  Light = Lightly program context nodes (start c.focus c.stack) held known world c.store c.stack f k

  trap_counted : (cost : Cost) (text : Bytes) (r : Acts program context nodes (start c.focus c.stack) held known world c.store c.stack 0 f k (Traps cost text)) → (16 + nodes + depth_of k ≤ live_state c.focus c.stack) ⊎ Light (Traps cost text) r
      → (16 + nodes + depth_of k + 16 * cost.levels ≤ max c.depth (live_state c.focus c.stack + 16 * cost.levels)) ⊎ InBody program context nodes (start c.focus c.stack) cost.levels r.through r.cost.levels r.ck'
  trap_counted cost text r (inl h) = inl (counted cost.levels (max c.depth (live_state c.focus c.stack + 16 * cost.levels)) (inl h) (omega arith))
  trap_counted cost text r (inr (inl h)) = inl (counted cost.levels (max c.depth (live_state c.focus c.stack + 16 * cost.levels)) (inr h) (omega arith))
  trap_counted cost text r (inr (inr h)) = inr h

  pub act_turns : (a : Act) (r : Acts program context nodes (start c.focus c.stack) held known world c.store c.stack 0 f k a) → (16 + nodes + depth_of k ≤ live_state c.focus c.stack) ⊎ Light a r
      → ActTurns program context nodes (start c.focus c.stack) known w d prints world f k c a
  act_turns (Goes cost store g l) r deep =
      goes_on cost.weight cost.levels [] (moved cost store g l c) (subst (λ n. Follows program context nodes (start c.focus c.stack) n (2 * cost.weight + held) cost.levels [] known world f k store g l) (let z : 0 + owed c.stack ≡ owed c.stack = omega arith in z) r)
      refl (no_more c.prints) (counted cost.levels (max (max c.depth (live_state c.focus c.stack + 16 * cost.levels)) (live_state g l)) deep (omega arith)) (omega arith) (omega arith)
  act_turns (Prints cost text g l) r deep =
      goes_on cost.weight cost.levels (text ∷ []) (record (moved cost c.store g l c) { prints = c.prints ++ text ∷ [] }) (subst (λ n. Follows program context nodes (start c.focus c.stack) n (2 * cost.weight + held) cost.levels (text ∷ []) known world f k c.store g l) (let z : 0 + owed c.stack ≡ owed c.stack = omega arith in z) r)
      refl refl (counted cost.levels (max (max c.depth (live_state c.focus c.stack + 16 * cost.levels)) (live_state g l)) deep (omega arith)) (omega arith) (omega arith)
  act_turns (Traps cost text) r deep = over cost.weight cost.levels (weighed cost c) (execution.Traps text) r refl refl refl (omega arith) (trap_counted cost text r deep) (omega arith)
  act_turns (Throws cost error) r deep =
      (r.0, r.1, over cost.weight cost.levels (weighed cost c) (execution.Rejects (r.0)) (r.2) refl refl refl (omega arith) (inl (counted cost.levels (max c.depth (live_state c.focus c.stack + 16 * cost.levels)) deep (omega arith))) (omega arith), r.3)
  act_turns (Asks request) r deep = tt
  act_turns (Awaits n call) r deep = tt
  act_turns (Leaves labels v) r deep = tt
  act_turns Stuck r deep = tt

pub turns : (program : Core) (context : Context) (nodes : ℕ) → TurnsFollow program context nodes
turns program context nodes held known c w d prints world f k t suits = (
  move_turns program context nodes held known c w d prints world f k t (move c.focus c.stack) (stands_move program context nodes held known world c.store c.focus c.stack f k t.stands) (move_keeps c.focus c.stack),
  acts_on c.store c.focus c.stack f k t.stands suits
      (λ r h. act_turns program context nodes held known c w d prints world f k t (reduces context.head None c.store c.focus c.stack) r h),
)
  where
    -- the last value is taken by no reduction
    acts_on : (store : Store) (g : machine.Focus) (l : Stack) (cf : Focus) (ck : List Frame) → Standing program context nodes world known held store g l cf ck → Suits known g l
        → ((r : Acts program context nodes (start g l) held known world store l 0 cf ck (reduces context.head None store g l)) → (16 + nodes + depth_of ck ≤ live_state g l) ⊎ Lightly program context nodes (start g l) held known world store l cf ck (reduces context.head None store g l) r → ActTurns program context nodes (start c.focus c.stack) known w d prints world f k c (reduces context.head None store g l))
        → ActTurns program context nodes (start c.focus c.stack) known w d prints world f k c (reduces context.head None store g l)
    acts_on store g l cf ck (Here st gg ll ccf cck worlds (AtEnd v u h cj value eq paid flat)) meets go = tt
    acts_on store g l cf ck (Here st gg ll ccf cck worlds state) meets go =
        go (stands_reduce program context nodes held known world store g l cf ck (Here st gg ll ccf cck worlds state) meets) (inl (state_deep program context nodes world known held g l cf ck state tt))
    acts_on store g l cf ck (Filling front fresh gg ll ccf cck worlds filling) meets go =
        go (stands_reduce program context nodes held known world store g l cf ck (Filling front fresh gg ll ccf cck worlds filling) meets) (inl (filling_deep program context nodes world known held front fresh g l cf ck filling))
    acts_on store g l cf ck (Gathered st gg ll ccf cck worlds gathering) meets go =
        let r = gathers_lightly program context nodes world known held store worlds g l cf ck gathering meets in go (r.0) (inr (r.1))
