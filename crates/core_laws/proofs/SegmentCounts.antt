-- How many segments the code of an expression has.
use Rattle.std.proofs.Common.{◌≡◌, ℕ, zero, suc, ◌+◌, ◌≤◌, refl, List, [], ◌∷◌, ◌++◌, length, map, Option, Some, None, Bool, true, false, arith as arithmetic}
use Rattle.std.specs.Prelude.{◌||◌, cond, slice_set}
use Rattle.core_ir.specs.declared.code.Operand.{Operand}
use Rattle.core_ir.specs.declared.code.Operand.TheVariants.{Slot}
use Rattle.core_ir.specs.Expressions as core
use Rattle.core_ir.specs.Expressions.{Exp, Constant?, Name, Do, Functions, Try, Exps, NoExp, AnExp, Goal, Operate, Choose, Bind, Throw, Await, Break}
use Rattle.core_ir.specs.FormedExpressions.{points, points_all, points_goal}
use Rattle.core_ir.specs.Code.{Code}
use Rattle.core_laws.specs.Around.{Kind}
use Rattle.core_laws.specs.Slots.{operands, place, count, first, slots_from}
use Rattle.core_laws.specs.Split.{Segments, awaits, joint, labelled, looping, looped, catching, code_or_stop, split_exp, split_all, split_goal}
use Rattle.core_laws.proofs.FormedPieces.{length_push}
use Rattle.core_laws.proofs.SoundSplitting.{Pre}

pub pre_length : (s t : Segments) → Pre s t → length s ≤ length t
pre_length [] t f = omega arithmetic
pre_length (x ∷ s) [] f = absurd (let z : None ≡ Some x = f 0 x refl in cc)
pre_length (x ∷ s) (y ∷ t) f = let r = pre_length s t (λ j o e. f (suc j) o e) in omega (arithmetic, r)

pub length_set : (s : Segments) (j : ℕ) (o : Option Code) → length (slice_set s j o) ≡ length s
length_set [] j o = refl
length_set (x ∷ s) zero o = refl
length_set (x ∷ s) (suc j) o = let r = length_set s j o in omega (arithmetic, r)

pub length_stopped : (s : Segments) → length (map code_or_stop s) ≡ length s
length_stopped [] = refl
length_stopped (x ∷ s) = let r = length_stopped s in omega (arithmetic, r)

joint_count : (b : Bool) (ls : List Kind) (c : Code) (s : Segments) → length (joint b ls c s).segments ≡ length s + cond b 1 0
joint_count false ls c s = omega arithmetic
joint_count true ls c s = let r = length_push s (Some c) in omega (arithmetic, r)

labelled_count : (b : Bool) (t : Option ℕ) (ls : List Kind) (c : Code) (s : Segments) → length (labelled b t ls c s).segments ≡ length s + cond b 1 0
labelled_count false t ls c s = omega arithmetic
labelled_count true t ls c s = let r = length_push s (Some c) in omega (arithmetic, r)

looping_count : (b : Bool) (ls : List Kind) (s : Segments) → length (looping b ls s).segments ≡ length s + cond b 1 0
looping_count false ls s = omega arithmetic
looping_count true ls s = let r = length_push s None in omega (arithmetic, r)

looped_count : (b : Bool) (m c : Code) (j : ℕ) (s : Segments) → length (looped b m c j s).segments ≡ length s
looped_count false m c j s = refl
looped_count true m c j s = length_set s j (Some m)

-- both segments of a `try`, whose handler is made between them
both_count : (b : Bool) (h n k : ℕ) (ls : List Kind) (next m : Code) (s : Segments) → length s ≡ n + cond b 1 0 + k → length (catching b h ls next m s).segments ≡ n + (cond b 2 0 + k)
both_count false h n k ls next m s e = omega (arithmetic, e)
both_count true h n k ls next m s e = let r = length_push s (Some m) in omega (arithmetic, e, r)

module _ (sizes : ℕ → ℕ) where
  mutual
    pub exp_count : (e : Exp) (t : Option ℕ) (h : ℕ) (ns : List Operand) (ls : List Kind) (c : Code) (s : Segments) → length (split_exp sizes e t h ns ls c s).segments ≡ length s + points e
    exp_count (Constant? k) t h ns ls c s = omega arithmetic
    exp_count (Name x) t h ns ls c s = omega arithmetic
    exp_count (core.Global i) t h ns ls c s = omega arithmetic
    exp_count (Do goal es) t h ns ls c s =
        let r = split_goal sizes goal (operands ns es h) t (h + count es) ns ls c s in
        let a = goal_count goal (operands ns es h) t (h + count es) ns ls c s in
        let b = all_count es h ns ls r.code r.segments in
        omega (arithmetic, a, b)
    exp_count (Functions k b) t h ns ls c s = exp_count b t (h + sizes k) (slots_from h (sizes k) ++ ns) ls c s
    exp_count (core.Loop b) t h ns ls c s =
        let q = looping (awaits b) ls s in
        let r = split_exp sizes b None h ns q.around q.next q.segments in
        let x = looping_count (awaits b) ls s in
        let y = exp_count b None h ns q.around q.next q.segments in
        let z = looped_count (awaits b) r.code c (length s) r.segments in
        omega (arithmetic, x, y, z)
    exp_count (core.Label b) t h ns ls c s =
        let q = labelled (awaits b) t ls c s in
        let x = labelled_count (awaits b) t ls c s in
        let y = exp_count b t h ns q.around q.next q.segments in
        omega (arithmetic, x, y)
    exp_count (Try a b) t h ns ls c s =
        let w = awaits a || awaits b in
        let q = joint w ls c s in
        let r = split_exp sizes b t (suc h) (Slot h ∷ ns) q.around q.next q.segments in
        let p = catching w h ls q.next r.code r.segments in
        let x = joint_count w ls c s in
        let y = exp_count b t (suc h) (Slot h ∷ ns) q.around q.next q.segments in
        let z = both_count w h (length s) (points b) ls q.next r.code r.segments (omega (arithmetic, x, y)) in
        let u = exp_count a t (suc h) ns p.around p.next p.segments in
        omega (arithmetic, z, u)

    pub all_count : (es : Exps) (h : ℕ) (ns : List Operand) (ls : List Kind) (c : Code) (s : Segments) → length (split_all sizes es h ns ls c s).segments ≡ length s + points_all es
    all_count NoExp h ns ls c s = omega arithmetic
    all_count (AnExp e es) h ns ls c s =
        let r = split_all sizes es (suc h) ns ls c s in
        let a = all_count es (suc h) ns ls c s in
        let b = exp_count e (place e h) (suc h) ns ls r.code r.segments in
        omega (arithmetic, a, b)

    goal_count : (g : Goal) (xs : List Operand) (t : Option ℕ) (h : ℕ) (ns : List Operand) (ls : List Kind) (c : Code) (s : Segments) → length (split_goal sizes g xs t h ns ls c s).segments ≡ length s + points_goal g
    goal_count (Operate p) xs t h ns ls c s = omega arithmetic
    goal_count (Choose p a b) xs t h ns ls c s =
        let w = awaits a || awaits b in
        let q = joint w ls c s in
        let r = split_exp sizes a t h ns q.around q.next q.segments in
        let x = joint_count w ls c s in
        let y = exp_count a t h ns q.around q.next q.segments in
        let z = exp_count b t h ns q.around q.next r.segments in
        omega (arithmetic, x, y, z)
    goal_count (core.Match k a b) xs t h ns ls c s =
        let w = awaits a || awaits b in
        let q = joint w ls c s in
        let r = split_exp sizes a t (suc h) (Slot h ∷ ns) q.around q.next q.segments in
        let x = joint_count w ls c s in
        let y = exp_count a t (suc h) (Slot h ∷ ns) q.around q.next q.segments in
        let z = exp_count b t (suc h) ns q.around q.next r.segments in
        omega (arithmetic, x, y, z)
    goal_count (Bind b) xs t h ns ls c s = exp_count b t h (first xs ∷ ns) ls c s
    goal_count core.Call xs t h ns ls c s = omega arithmetic
    goal_count core.Tabulate xs t h ns ls c s = omega arithmetic
    goal_count (core.Send g) xs t h ns ls c s = omega arithmetic
    goal_count Throw xs t h ns ls c s = omega arithmetic
    goal_count Await xs t h ns ls c s = let r = length_push s (Some c) in omega (arithmetic, r)
    goal_count (Break l) xs t h ns ls c s = omega arithmetic
    goal_count core.Return xs t h ns ls c s = omega arithmetic
