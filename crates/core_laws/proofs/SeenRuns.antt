-- What is seen of executions of which each level of the law is known.
use Rattle.std.proofs.Common.{◌≡◌, ℕ, zero, suc, ◌*◌, ◌≤◌, refl, sym, subst, List, []}
use Rattle.mo_types.specs.declared.node.TypeId.{TypeId}
use Rattle.mo_types.specs.Calls.{CallTable}
use Rattle.mo_values.specs.Shapes.{Bytes}
use Rattle.core_ir.specs.Worlds.{Given, World, Context}
use Rattle.core_ir.specs.Executions.{Entry, Resumes, Replies, Rejects, Waits, Traps, Breaks, Step, Go, Ends, Stand, Still, Over, Machine, after_step, run, execution}
use Rattle.core_ir.specs.Formed.{IsWhole, IsSafe}
use Rattle.core_laws.specs.Carried.{with_table, IsOver, EndsAlike, StandsAlike, ShowsAlike, Carries, GoesOn}

-- ---- an execution ends in one way

module _ {S V : Type 0} (old : Machine S V) (c : Context) where
  same_after : (n k : ℕ) → ((w d : ℕ) (o : List Bytes) (wd : World) (s : S) → IsOver (run old c n w d o wd s) → IsOver (run old c k w d o wd s) → run old c n w d o wd s ≡ run old c k w d o wd s)
      → (bodies w d : ℕ) (o : List Bytes) (x : Step S V) → IsOver (after_step (run old c n) bodies w d o x) → IsOver (after_step (run old c k) bodies w d o x)
      → after_step (run old c n) bodies w d o x ≡ after_step (run old c k) bodies w d o x
  same_after n k more bodies w d o (Go cost out wd s) h i = more _ _ _ wd s h i
  same_after n k more bodies w d o (Ends cost out wd e) h i = refl

  same_run : (n k w d : ℕ) (o : List Bytes) (wd : World) (s : S) → IsOver (run old c n w d o wd s) → IsOver (run old c k w d o wd s) → run old c n w d o wd s ≡ run old c k w d o wd s
  same_run zero k w d o wd s h i = absurd h
  same_run (suc n) zero w d o wd s h i = absurd i
  same_run (suc n) (suc k) w d o wd s h i = same_after n k (same_run n k) (old.depth s) w d o (old.step c wd s) h i

  same_over : (n k : ℕ) (wd : World) (e : Entry V) → IsOver (execution old c n wd e) → IsOver (execution old c k wd e) → execution old c n wd e ≡ execution old c k wd e
  same_over n k wd e h i = same_after n k (same_run n k) 0 0 0 [] (old.enters c wd e) h i

-- ---- all levels together

module _ {S T V W : Type 0} (times : ℕ) (moved : World → World) (old : Machine S V) (new : Machine T W) (c : Context) where
  -- the old program does not break, and where the new one has ended, so has the old one
  abbrev pub Seen : Stand S V → Stand T W → Type 0
  Seen (Over w d o wd Breaks) y = ⊥
  Seen (Over w d o wd r) (Over w' d' o' wd' r') =
      record { prints_are : o' ≡ o; world_is : wd' ≡ moved wd; weight : w' ≤ times * w; depth : d' ≤ d; ends : EndsAlike (GoesOn times moved old new c) r r' }
  Seen (Still w d o wd s) (Still w' d' o' wd' t) = record { prints_are : o' ≡ o; weight : w' ≤ times * w; depth : d' ≤ d }
  Seen x y = ⊥

  abbrev Level : ℕ → V → W → Type 0
  Level m x y = (table : CallTable (List TypeId) Given) (given : Given) → Carries times moved old new m (with_table c table) (Resumes x given) (Resumes y given)

  abbrev AtLevel : ℕ → Stand S V → Stand T W → Type 0
  AtLevel m = StandsAlike times moved (Level m)

  abbrev Shows : Stand S V → Stand T W → Type 0
  Shows = ShowsAlike times moved

  all_levels : (a : Stand S V) (b : Stand T W) → IsOver a → IsOver b → IsWhole a → ((m : ℕ) → AtLevel m a b) → Seen a b
  all_levels (Still w d o wd s) b h i u al = absurd h
  all_levels (Over w d o wd Breaks) b h i u al = absurd u
  all_levels (Over w d o wd (Replies v)) (Still w' d' o' wd' t) h i u al = absurd i
  all_levels (Over w d o wd (Replies v)) (Over w' d' o' wd' r) h i u al =
      let a = al zero in record { prints_are = a.prints_are; world_is = a.world_is; weight = a.weight; depth = a.depth; ends = a.ends }
  all_levels (Over w d o wd (Rejects v)) (Still w' d' o' wd' t) h i u al = absurd i
  all_levels (Over w d o wd (Rejects v)) (Over w' d' o' wd' r) h i u al =
      let a = al zero in record { prints_are = a.prints_are; world_is = a.world_is; weight = a.weight; depth = a.depth; ends = a.ends }
  all_levels (Over w d o wd (Traps v)) (Still w' d' o' wd' t) h i u al = absurd i
  all_levels (Over w d o wd (Traps v)) (Over w' d' o' wd' r) h i u al =
      let a = al zero in record { prints_are = a.prints_are; world_is = a.world_is; weight = a.weight; depth = a.depth; ends = a.ends }
  all_levels (Over w d o wd (Waits on x)) (Still w' d' o' wd' t) h i u al = absurd i
  all_levels (Over w d o wd (Waits on x)) (Over w' d' o' wd' (Waits at y)) h i u al =
      let a = al zero in
      record { prints_are = a.prints_are; world_is = a.world_is; weight = a.weight; depth = a.depth; ends = (a.ends.0, λ m. (al m).ends.1) }
  all_levels (Over w d o wd (Waits on x)) (Over w' d' o' wd' (Replies y)) h i u al = let a = al zero in absurd a.ends
  all_levels (Over w d o wd (Waits on x)) (Over w' d' o' wd' (Rejects y)) h i u al = let a = al zero in absurd a.ends
  all_levels (Over w d o wd (Waits on x)) (Over w' d' o' wd' (Traps y)) h i u al = let a = al zero in absurd a.ends
  all_levels (Over w d o wd (Waits on x)) (Over w' d' o' wd' Breaks) h i u al = let a = al zero in absurd a.ends

  goes_on : (a : Stand S V) (b : Stand T W) → IsWhole a → (IsOver b → ⊥) → Shows a b → Seen a b
  goes_on (Still w d o wd s) (Still w' d' o' wd' t) u n h = record { prints_are = h.prints_are; weight = h.weight; depth = h.depth }
  goes_on (Over w d o wd Breaks) b u n h = absurd u
  goes_on (Over w d o wd (Replies v)) (Still w' d' o' wd' t) u n h = absurd h
  goes_on (Over w d o wd (Rejects v)) (Still w' d' o' wd' t) u n h = absurd h
  goes_on (Over w d o wd (Traps v)) (Still w' d' o' wd' t) u n h = absurd h
  goes_on (Over w d o wd (Waits on v)) (Still w' d' o' wd' t) u n h = absurd h
  goes_on a (Over w' d' o' wd' r) u n h = absurd (n tt)

  module _ (world : World) (e : Entry V) (e' : Entry W) (all : (m : ℕ) → Carries times moved old new m c e e') (safe : IsSafe old c world e) where
    abbrev X : ℕ → Stand S V
    X n = execution old c n world e

    abbrev Y : ℕ → Stand T W
    Y k = execution new c k (moved world) e'

    at_over : (k : ℕ) → IsOver (Y k) → (n : ℕ) × Seen (X n) (Y k)
    at_over k i =
        let b = (all (suc zero) world).back k i in (
          b.0,
          all_levels (X (b.0)) (Y k) (b.1) i (safe (b.0))
              (λ m. let d = (all (suc m) world).back k i in subst (λ a. AtLevel m a (Y k)) (same_over old c (d.0) (b.0) world e (d.1) (b.1)) (d.2)),
        )

    at : (k : ℕ) (b : Stand T W) → Y k ≡ b → (n : ℕ) × Seen (X n) b
    at k (Over w d o wd r) z = subst (λ b. (n : ℕ) × Seen (X n) b) z (at_over k (subst (λ b. IsOver b) (sym z) tt))
    at k (Still w d o wd t) z =
        let g = (all (suc zero) world).between k in
        (g.0, goes_on (X (g.0)) (Still w d o wd t) (safe (g.0)) (λ i. i) (subst (λ b. Shows (X (g.0)) b) z (g.1)))

    pub seen : (k : ℕ) → (n : ℕ) × Seen (X n) (Y k)
    seen k = at k (Y k) refl
