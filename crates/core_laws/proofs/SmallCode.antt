-- What the code of an expression takes of a frame besides its slots: the operands of an instruction, and the nesting of constructs.
use Rattle.std.proofs.Common.{ℕ, zero, suc, ◌+◌, ◌≤◌, List, [], ◌∷◌, ◌++◌, length, Option, Some, None, Bool, true, false, arith as arithmetic}
use Rattle.std.specs.Prelude.{◌||◌, max, slice_set}
use Rattle.core_ir.specs.declared.code.Operand.{Operand}
use Rattle.core_ir.specs.declared.code.Operand.TheVariants.{Slot, Global, Constant}
use Rattle.core_ir.specs.declared.code.Way.{Way}
use Rattle.core_ir.specs.declared.code.Way.TheVariants.{Near, Far}
use Rattle.core_ir.specs.Expressions as core
use Rattle.core_ir.specs.Expressions.{Exp, Constant?, Name, Do, Functions, Try, Exps, NoExp, AnExp, Goal, Operate, Choose, Bind, Throw, Await, Break}
use Rattle.core_ir.specs.FormedExpressions.{arguments, arguments_all, arguments_goal, depth, depth_all, depth_goal}
use Rattle.core_ir.specs.FormedCode.{most_operands, nesting}
use Rattle.core_ir.specs.Code.{Code, Stop, Branch, Leave}
use Rattle.core_laws.specs.Around.{Kind, way, target}
use Rattle.core_laws.specs.Slots.{name_at, operands, place, count, first, others, slots_from, into, move, jump}
use Rattle.core_laws.specs.Split.{Segments, Emitted, awaits, joint, labelled, looping, looped, catching, enclosed, split_exp, split_all, split_goal}
use Rattle.core_laws.proofs.FormedPieces.{length_operands}

-- most is how many operands an instruction may have, and most_nested how deep constructs may stand in segments
module _ (most most_nested : ℕ) (two : 2 ≤ most) where
  abbrev pub Small : ℕ → Code → Type 0
  Small n c = (nesting c ≤ n) × (most_operands c ≤ most)

  abbrev Kept : Option Code → Type 0
  Kept None = Unit {0}
  Kept (Some c) = Small most_nested c

  abbrev pub Segs : Segments → Type 0
  Segs [] = Unit {0}
  Segs (o ∷ s) = Kept o × Segs s

  more : (n m : ℕ) (c : Code) → n ≤ m → Small n c → Small m c
  more n m c l h = let a = h.0 in (omega (arithmetic, l, a), h.1)

  push : (n : ℕ) (s : Segments) (c : Code) → n ≤ most_nested → Segs s → Small n c → Segs (s ++ Some c ∷ [])
  push n [] c l h i = (more n most_nested c l i, tt)
  push n (x ∷ s) c l h i = (h.0, push n s c l (h.1) i)

  push_open : (s : Segments) → Segs s → Segs (s ++ None ∷ [])
  push_open [] h = (tt, tt)
  push_open (x ∷ s) h = (h.0, push_open s (h.1))

  pub set : (n : ℕ) (s : Segments) (j : ℕ) (c : Code) → n ≤ most_nested → Segs s → Small n c → Segs (slice_set s j (Some c))
  set n [] j c l h i = tt
  set n (x ∷ s) zero c l h i = (more n most_nested c l i, h.1)
  set n (x ∷ s) (suc j) c l h i = (h.0, set n s j c l (h.1) i)

  -- jumps take nothing
  leaves : (n j : ℕ) → Small n (Leave j)
  leaves n j = (omega arithmetic, omega arithmetic)

  stops : (n : ℕ) → Small n Stop
  stops n = (omega arithmetic, omega arithmetic)

  branches : (n l : ℕ) → Small n (Branch l)
  branches n l = (omega arithmetic, omega arithmetic)

  jumps : (n : ℕ) (w : Way) → Small n (jump w)
  jumps n (Near l) = branches n l
  jumps n (Far j) = leaves n j

  into_small : (n t : ℕ) (a : Operand) (c : Code) → Small n c → Small n (into t a c)
  into_small n t a (Leave j) h = (omega arithmetic, omega (arithmetic, two))
  into_small n t a c h = let i = h.0 in let k = h.1 in (omega (arithmetic, i), omega (arithmetic, two, k))

  move_small : (n : ℕ) (t : Option ℕ) (a : Operand) (c : Code) → Small n c → Small n (move t a c)
  move_small n None a c h = h
  move_small n (Some t) a c h = into_small n t a c h

  called : (xs : List Operand) → length xs ≤ most → suc (length (others xs)) ≤ most
  called [] h = omega (arithmetic, two)
  called (x ∷ xs) h = omega (arithmetic, h)

  rest : (xs : List Operand) → length xs ≤ most → length (others xs) ≤ most
  rest xs h = let r = called xs h in omega (arithmetic, r)

  abbrev Made : ℕ → Emitted → Type 0
  Made n r = Small n r.code × Segs r.segments

  joint_small : (b : Bool) (n k : ℕ) (ls : List Kind) (c : Code) (s : Segments) → n ≤ most_nested → Small n c → Segs s
      → Small k (joint b ls c s).next × Small n (joint b ls c s).after × Segs (joint b ls c s).segments
  joint_small false n k ls c s l h i = (stops k, h, i)
  joint_small true n k ls c s l h i = (leaves k (length s), leaves n (length s), push n s c l i h)

  labelled_small : (b : Bool) (n k : ℕ) (t : Option ℕ) (ls : List Kind) (c : Code) (s : Segments) → n ≤ most_nested → Small n c → Segs s
      → Small k (labelled b t ls c s).next × Segs (labelled b t ls c s).segments
  labelled_small false n k t ls c s l h i = (stops k, i)
  labelled_small true n k t ls c s l h i = (leaves k (length s), push n s c l i h)

  looping_small : (b : Bool) (k : ℕ) (ls : List Kind) (s : Segments) → Segs s → Small k (looping b ls s).next × Segs (looping b ls s).segments
  looping_small false k ls s i = (branches k 0, i)
  looping_small true k ls s i = (leaves k (length s), push_open s i)

  looped_small : (b : Bool) (n k : ℕ) (m c : Code) (j : ℕ) (s : Segments) → suc k ≤ n → n ≤ most_nested → Small k m → Small n c → Segs s → Made n (looped b m c j s)
  looped_small false n k m c j s u l f h i =
      let a = f.0 in let b = f.1 in let d = h.0 in let e = h.1 in
      ((omega (arithmetic, u, a, d), omega (arithmetic, b, e)), i)
  looped_small true n k m c j s u l f h i = (leaves n j, set k s j m (omega (arithmetic, u, l)) i f)

  catching_small : (b : Bool) (n k : ℕ) (h : ℕ) (ls : List Kind) (next m : Code) (s : Segments) → k ≤ most_nested → Small n next → Small k m → Segs s
      → Small n (catching b h ls next m s).next × Segs (catching b h ls next m s).segments
  catching_small false n k h ls next m s l f g i = (branches n 1, i)
  catching_small true n k h ls next m s l f g i = (f, push k s m l i g)

  enclosed_small : (b : Bool) (n k : ℕ) (m c : Code) → suc k ≤ n → Small k m → Small n c → Small n (enclosed b m c)
  enclosed_small false n k m c u f h = let a = f.0 in let b = f.1 in let d = h.0 in let e = h.1 in (omega (arithmetic, u, a, d), omega (arithmetic, b, e))
  enclosed_small true n k m c u f h = more k n m (omega (arithmetic, u)) f

  module _ (sizes : ℕ → ℕ) where
    mutual
      pub exp_small : (e : Exp) (n : ℕ) (t : Option ℕ) (h : ℕ) (ns : List Operand) (ls : List Kind) (c : Code) (s : Segments)
          → depth e ≤ n → arguments e ≤ most → n ≤ most_nested → Small n c → Segs s → Made n (split_exp sizes e t h ns ls c s)
      exp_small (Constant? k) n t h ns ls c s d a l hc hs = (move_small n t (Constant k) c hc, hs)
      exp_small (Name x) n t h ns ls c s d a l hc hs = (move_small n t (name_at ns x) c hc, hs)
      exp_small (core.Global i) n t h ns ls c s d a l hc hs = (move_small n t (Global i) c hc, hs)
      exp_small (Do goal es) n t h ns ls c s d a l hc hs =
          let r = split_goal sizes goal (operands ns es h) t (h + count es) ns ls c s in
          let i = length_operands ns es h in
          let x = goal_small goal n (operands ns es h) t (h + count es) ns ls c s (omega (arithmetic, d)) (omega (arithmetic, a)) (omega (arithmetic, a, i)) l hc hs in
          all_small es n h ns ls r.code r.segments (omega (arithmetic, d)) (omega (arithmetic, a)) l (x.0) (x.1)
      exp_small (Functions k b) n t h ns ls c s d a l hc hs =
          let x = exp_small b n t (h + sizes k) (slots_from h (sizes k) ++ ns) ls c s d a l hc hs in
          let f = x.0 in
          let y = f.0 in let z = f.1 in
          ((omega (arithmetic, y), omega (arithmetic, z, two)), x.1)
      exp_small (core.Loop b) n t h ns ls c s d a l hc hs =
          let q = looping (awaits b) ls s in
          let r = split_exp sizes b None h ns q.around q.next q.segments in
          let i = looping_small (awaits b) (depth b) ls s hs in
          let x = exp_small b (depth b) None h ns q.around q.next q.segments (omega arithmetic) a (omega (arithmetic, d, l)) (i.0) (i.1) in
          looped_small (awaits b) n (depth b) r.code c (length s) r.segments d l (x.0) hc (x.1)
      exp_small (core.Label b) n t h ns ls c s d a l hc hs =
          let q = labelled (awaits b) t ls c s in
          let r = split_exp sizes b t h ns q.around q.next q.segments in
          let i = labelled_small (awaits b) n (depth b) t ls c s l hc hs in
          let x = exp_small b (depth b) t h ns q.around q.next q.segments (omega arithmetic) a (omega (arithmetic, d, l)) (i.0) (i.1) in
          (enclosed_small (awaits b) n (depth b) r.code c d (x.0) hc, x.1)
      exp_small (Try a b) n t h ns ls c s d m l hc hs =
          let w = awaits a || awaits b in
          let q = joint w ls c s in
          let r = split_exp sizes b t (suc h) (Slot h ∷ ns) q.around q.next q.segments in
          let p = catching w h ls q.next r.code r.segments in
          let u = split_exp sizes a t (suc h) ns p.around p.next p.segments in
          let k = max (suc (depth a)) (depth b) in
          let i = joint_small w n k ls c s l hc hs in
          let x = exp_small b k t (suc h) (Slot h ∷ ns) q.around q.next q.segments (omega arithmetic) (omega (arithmetic, m)) (omega (arithmetic, d, l)) (i.0) (i.2) in
          let j = catching_small w (depth a) k h ls q.next r.code r.segments (omega (arithmetic, d, l)) (joint_small w n (depth a) ls c s l hc hs).0 (x.0) (x.1) in
          let y = exp_small a (depth a) t (suc h) ns p.around p.next p.segments (omega arithmetic) (omega (arithmetic, m)) (omega (arithmetic, d, l)) (j.0) (j.1) in
          (enclosed_small w n k (enclosed w u.code r.code) c d (enclosed_small w k (depth a) u.code r.code (omega arithmetic) (y.0) (x.0)) hc, y.1)

      pub all_small : (es : Exps) (n h : ℕ) (ns : List Operand) (ls : List Kind) (c : Code) (s : Segments)
          → depth_all es ≤ n → arguments_all es ≤ most → n ≤ most_nested → Small n c → Segs s → Made n (split_all sizes es h ns ls c s)
      all_small NoExp n h ns ls c s d a l hc hs = (hc, hs)
      all_small (AnExp e es) n h ns ls c s d a l hc hs =
          let r = split_all sizes es (suc h) ns ls c s in
          let x = all_small es n (suc h) ns ls c s (omega (arithmetic, d)) (omega (arithmetic, a)) l hc hs in
          exp_small e n (place e h) (suc h) ns ls r.code r.segments (omega (arithmetic, d)) (omega (arithmetic, a)) l (x.0) (x.1)

      goal_small : (g : Goal) (n : ℕ) (xs : List Operand) (t : Option ℕ) (h : ℕ) (ns : List Operand) (ls : List Kind) (c : Code) (s : Segments)
          → depth_goal g ≤ n → arguments_goal g ≤ most → length xs ≤ most → n ≤ most_nested → Small n c → Segs s → Made n (split_goal sizes g xs t h ns ls c s)
      goal_small (Operate p) n xs t h ns ls c s d a x l hc hs = let i = hc.0 in let j = hc.1 in ((omega (arithmetic, i), omega (arithmetic, x, j)), hs)
      goal_small (Choose p a b) n xs t h ns ls c s d m x l hc hs =
          let w = awaits a || awaits b in
          let q = joint w ls c s in
          let r = split_exp sizes a t h ns q.around q.next q.segments in
          let k = max (depth a) (depth b) in
          let i = joint_small w n k ls c s l hc hs in
          let y = exp_small a k t h ns q.around q.next q.segments (omega arithmetic) (omega (arithmetic, m)) (omega (arithmetic, d, l)) (i.0) (i.2) in
          let z = exp_small b k t h ns q.around q.next r.segments (omega arithmetic) (omega (arithmetic, m)) (omega (arithmetic, d, l)) (i.0) (y.1) in
          let f = y.0 in
          let g = z.0 in
          let after = i.1 in
          let f0 = f.0 in let f1 = f.1 in let g0 = g.0 in let g1 = g.1 in let after0 = after.0 in let after1 = after.1 in
          ((omega (arithmetic, d, f0, g0, after0), omega (arithmetic, x, f1, g1, after1)), z.1)
      goal_small (core.Match o a b) n xs t h ns ls c s d m x l hc hs =
          let w = awaits a || awaits b in
          let q = joint w ls c s in
          let r = split_exp sizes a t (suc h) (Slot h ∷ ns) q.around q.next q.segments in
          let k = max (depth a) (depth b) in
          let i = joint_small w n k ls c s l hc hs in
          let y = exp_small a k t (suc h) (Slot h ∷ ns) q.around q.next q.segments (omega arithmetic) (omega (arithmetic, m)) (omega (arithmetic, d, l)) (i.0) (i.2) in
          let z = exp_small b k t (suc h) ns q.around q.next r.segments (omega arithmetic) (omega (arithmetic, m)) (omega (arithmetic, d, l)) (i.0) (y.1) in
          let f = y.0 in
          let g = z.0 in
          let after = i.1 in
          let f0 = f.0 in let f1 = f.1 in let g0 = g.0 in let g1 = g.1 in let after0 = after.0 in let after1 = after.1 in
          ((omega (arithmetic, d, f0, g0, after0), omega (arithmetic, two, f1, g1, after1)), z.1)
      goal_small (Bind b) n xs t h ns ls c s d a x l hc hs = exp_small b n t h (first xs ∷ ns) ls c s d a l hc hs
      goal_small core.Call n xs t h ns ls c s d a x l hc hs = let i = hc.0 in let j = hc.1 in let k = called xs x in ((omega (arithmetic, i), omega (arithmetic, k, j)), hs)
      goal_small core.Tabulate n xs t h ns ls c s d a x l hc hs = let i = hc.0 in let j = hc.1 in ((omega (arithmetic, i), omega (arithmetic, two, j)), hs)
      goal_small (core.Send g) n xs t h ns ls c s d a x l hc hs = let i = hc.0 in let j = hc.1 in let k = called xs x in ((omega (arithmetic, i), omega (arithmetic, k, j)), hs)
      goal_small Throw n xs t h ns ls c s d a x l hc hs = ((omega arithmetic, omega (arithmetic, two)), hs)
      goal_small Await n xs t h ns ls c s d a x l hc hs = ((omega arithmetic, omega (arithmetic, two)), push n s c l hs hc)
      goal_small (Break i) n xs t h ns ls c s d a x l hc hs = (move_small n (target ls i) (first xs) (jump (way ls i)) (jumps n (way ls i)), hs)
      goal_small core.Return n xs t h ns ls c s d a x l hc hs = ((omega arithmetic, omega (arithmetic, two)), hs)
