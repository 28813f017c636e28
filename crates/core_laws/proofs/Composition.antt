-- What is carried twice is carried.
use Rattle.std.proofs.Common.{◌≡◌, ℕ, zero, suc, ◌*◌, ◌≤◌, refl, sym, ap, ◌∙◌, subst, List, arith as arithmetic}
use Rattle.mo_types.specs.declared.node.TypeId.{TypeId}
use Rattle.mo_types.specs.Calls.{CallTable}
use Rattle.mo_values.specs.Shapes.{Bytes}
use Rattle.core_ir.specs.Worlds.{Given, World, Context}
use Rattle.core_ir.specs.Executions.{Entry, Resumes, End, Replies, Rejects, Waits, Traps, Breaks, Stand, Still, Over, Machine, execution}
use Rattle.core_laws.specs.Carried.{with_table, IsOver, EndsAlike, StandsAlike, ShowsAlike, Carries}

-- ---- ends

module _ {U V W : Type 0} (A : U → V → Type 0) (B : V → W → Type 0) (C : U → W → Type 0) (both : (x : U) (y : V) (z : W) → A x y → B y z → C x z) where
  ends_alike : (x : End U) (y : End V) (z : End W) → EndsAlike A x y → EndsAlike B y z → EndsAlike C x z
  ends_alike (Replies v) y z h i = subst (λ y. EndsAlike B y z → z ≡ Replies v) (sym h) (λ i. i) i
  ends_alike (Rejects v) y z h i = subst (λ y. EndsAlike B y z → z ≡ Rejects v) (sym h) (λ i. i) i
  ends_alike (Traps v) y z h i = subst (λ y. EndsAlike B y z → z ≡ Traps v) (sym h) (λ i. i) i
  ends_alike Breaks y z h i = tt
  ends_alike (Waits on x) (Replies y) z h i = absurd h
  ends_alike (Waits on x) (Rejects y) z h i = absurd h
  ends_alike (Waits on x) (Traps y) z h i = absurd h
  ends_alike (Waits on x) Breaks z h i = absurd h
  ends_alike (Waits on x) (Waits at y) (Waits to z) h i = (i.0 ∙ h.0, both x y z (h.1) (i.1))
  ends_alike (Waits on x) (Waits at y) (Replies z) h i = absurd i
  ends_alike (Waits on x) (Waits at y) (Rejects z) h i = absurd i
  ends_alike (Waits on x) (Waits at y) (Traps z) h i = absurd i
  ends_alike (Waits on x) (Waits at y) Breaks h i = absurd i

-- the second pass weighs the same
module _ (R S T U V W : Type 0) (times : ℕ) (moved : World → World) where
  same_world : (w w' w'' : World) → w' ≡ w → w'' ≡ moved w' → w'' ≡ moved w
  same_world w w' w'' e i = i ∙ ap moved e

  weighs : (x y z : ℕ) → y ≤ x → z ≤ 1 * y → z ≤ x
  weighs x y z h i = omega (arithmetic, h, i)

  deep : (x y z : ℕ) → y ≤ x → z ≤ y → z ≤ x
  deep x y z h i = omega (arithmetic, h, i)

  module _ (A : U → V → Type 0) (B : V → W → Type 0) (C : U → W → Type 0) (both : (x : U) (y : V) (z : W) → A x y → B y z → C x z) where
    abbrev First : Stand R U → Stand S V → Type 0
    First = StandsAlike times (λ world. world) A

    abbrev Second : Stand S V → Stand T W → Type 0
    Second = StandsAlike 1 moved B

    abbrev Third : Stand R U → Stand T W → Type 0
    Third = StandsAlike times moved C

    -- the middle one broke
    broken : (a : Stand R U) (w d : ℕ) (o : List Bytes) (wd : World) (z : Stand T W) → First a (Over w d o wd Breaks) → Third a z
    broken (Still w d o wd s) w' d' o' wd' z h = absurd h
    broken (Over w d o wd Breaks) w' d' o' wd' z h = tt
    broken (Over w d o wd (Replies v)) w' d' o' wd' z h = absurd (let e : Breaks ≡ Replies v = h.ends in cc)
    broken (Over w d o wd (Rejects v)) w' d' o' wd' z h = absurd (let e : Breaks ≡ Rejects v = h.ends in cc)
    broken (Over w d o wd (Traps v)) w' d' o' wd' z h = absurd (let e : Breaks ≡ Traps v = h.ends in cc)
    broken (Over w d o wd (Waits on v)) w' d' o' wd' z h = absurd h.ends

    over : (w d w' d' w'' d'' : ℕ) (o o' o'' : List Bytes) (wd wd' wd'' : World) (x : End U) (y : End V) (z : End W)
        → First (Over w d o wd x) (Over w' d' o' wd' y) → Second (Over w' d' o' wd' y) (Over w'' d'' o'' wd'' z) → Third (Over w d o wd x) (Over w'' d'' o'' wd'' z)
    over w d w' d' w'' d'' o o' o'' wd wd' wd'' Breaks y z h i = tt
    over w d w' d' w'' d'' o o' o'' wd wd' wd'' x Breaks z h i = broken (Over w d o wd x) w' d' o' wd' (Over w'' d'' o'' wd'' z) h
    over w d w' d' w'' d'' o o' o'' wd wd' wd'' (Replies v) (Replies y) z h i =
        record { prints_are = i.prints_are ∙ h.prints_are; world_is = same_world wd wd' wd'' h.world_is i.world_is; weight = weighs (times * w) w' w'' h.weight i.weight; depth = deep d d' d'' h.depth i.depth; ends = ends_alike A B C both (Replies v) (Replies y) z h.ends i.ends }
    over w d w' d' w'' d'' o o' o'' wd wd' wd'' (Rejects v) (Rejects y) z h i =
        record { prints_are = i.prints_are ∙ h.prints_are; world_is = same_world wd wd' wd'' h.world_is i.world_is; weight = weighs (times * w) w' w'' h.weight i.weight; depth = deep d d' d'' h.depth i.depth; ends = ends_alike A B C both (Rejects v) (Rejects y) z h.ends i.ends }
    over w d w' d' w'' d'' o o' o'' wd wd' wd'' (Traps v) (Traps y) z h i =
        record { prints_are = i.prints_are ∙ h.prints_are; world_is = same_world wd wd' wd'' h.world_is i.world_is; weight = weighs (times * w) w' w'' h.weight i.weight; depth = deep d d' d'' h.depth i.depth; ends = ends_alike A B C both (Traps v) (Traps y) z h.ends i.ends }
    over w d w' d' w'' d'' o o' o'' wd wd' wd'' (Waits on v) (Waits at y) z h i =
        record { prints_are = i.prints_are ∙ h.prints_are; world_is = same_world wd wd' wd'' h.world_is i.world_is; weight = weighs (times * w) w' w'' h.weight i.weight; depth = deep d d' d'' h.depth i.depth; ends = ends_alike A B C both (Waits on v) (Waits at y) z h.ends i.ends }
    over w d w' d' w'' d'' o o' o'' wd wd' wd'' (Replies v) (Rejects y) z h i = absurd (let e : Rejects y ≡ Replies v = h.ends in cc)
    over w d w' d' w'' d'' o o' o'' wd wd' wd'' (Replies v) (Traps y) z h i = absurd (let e : Traps y ≡ Replies v = h.ends in cc)
    over w d w' d' w'' d'' o o' o'' wd wd' wd'' (Replies v) (Waits at y) z h i = absurd (let e : Waits at y ≡ Replies v = h.ends in cc)
    over w d w' d' w'' d'' o o' o'' wd wd' wd'' (Rejects v) (Replies y) z h i = absurd (let e : Replies y ≡ Rejects v = h.ends in cc)
    over w d w' d' w'' d'' o o' o'' wd wd' wd'' (Rejects v) (Traps y) z h i = absurd (let e : Traps y ≡ Rejects v = h.ends in cc)
    over w d w' d' w'' d'' o o' o'' wd wd' wd'' (Rejects v) (Waits at y) z h i = absurd (let e : Waits at y ≡ Rejects v = h.ends in cc)
    over w d w' d' w'' d'' o o' o'' wd wd' wd'' (Traps v) (Replies y) z h i = absurd (let e : Replies y ≡ Traps v = h.ends in cc)
    over w d w' d' w'' d'' o o' o'' wd wd' wd'' (Traps v) (Rejects y) z h i = absurd (let e : Rejects y ≡ Traps v = h.ends in cc)
    over w d w' d' w'' d'' o o' o'' wd wd' wd'' (Traps v) (Waits at y) z h i = absurd (let e : Waits at y ≡ Traps v = h.ends in cc)
    over w d w' d' w'' d'' o o' o'' wd wd' wd'' (Waits on v) (Replies y) z h i = absurd h.ends
    over w d w' d' w'' d'' o o' o'' wd wd' wd'' (Waits on v) (Rejects y) z h i = absurd h.ends
    over w d w' d' w'' d'' o o' o'' wd wd' wd'' (Waits on v) (Traps y) z h i = absurd h.ends

    stands : (a : Stand R U) (b : Stand S V) (c : Stand T W) → First a b → Second b c → Third a c
    stands (Still w d o wd s) (Still w' d' o' wd' t) (Still w'' d'' o'' wd'' u) h i =
        record { prints_are = i.prints_are ∙ h.prints_are; world_is = same_world wd wd' wd'' h.world_is i.world_is; weight = weighs (times * w) w' w'' h.weight i.weight; depth = deep d d' d'' h.depth i.depth }
    stands (Still w d o wd s) (Still w' d' o' wd' t) (Over w'' d'' o'' wd'' u) h i = absurd i
    stands (Still w d o wd s) (Over w' d' o' wd' y) c h i = absurd h
    stands (Over w d o wd x) (Over w' d' o' wd' y) (Over w'' d'' o'' wd'' z) h i = over w d w' d' w'' d'' o o' o'' wd wd' wd'' x y z h i
    stands a (Over w' d' o' wd' Breaks) c h i = broken a w' d' o' wd' c h
    stands (Over w d o wd x) (Over w' d' o' wd' (Replies y)) (Still w'' d'' o'' wd'' u) h i = absurd i
    stands (Over w d o wd x) (Over w' d' o' wd' (Rejects y)) (Still w'' d'' o'' wd'' u) h i = absurd i
    stands (Over w d o wd x) (Over w' d' o' wd' (Traps y)) (Still w'' d'' o'' wd'' u) h i = absurd i
    stands (Over w d o wd x) (Over w' d' o' wd' (Waits at y)) (Still w'' d'' o'' wd'' u) h i = absurd i
    stands (Over w d o wd Breaks) b c h i = tt
    stands (Over w d o wd (Replies v)) (Still w' d' o' wd' t) c h i = absurd h
    stands (Over w d o wd (Rejects v)) (Still w' d' o' wd' t) c h i = absurd h
    stands (Over w d o wd (Traps v)) (Still w' d' o' wd' t) c h i = absurd h
    stands (Over w d o wd (Waits on v)) (Still w' d' o' wd' t) c h i = absurd h

  -- ---- what is shown

  abbrev Shows1 : Stand R U → Stand S V → Type 0
  Shows1 = ShowsAlike times (λ world. world)

  abbrev Shows2 : Stand S V → Stand T W → Type 0
  Shows2 = ShowsAlike 1 moved

  abbrev Shows3 : Stand R U → Stand T W → Type 0
  Shows3 = ShowsAlike times moved

  shows_end : (a : Stand R U) (w d : ℕ) (o : List Bytes) (wd : World) (z : End W) → Shows3 a (Over w d o wd z)
  shows_end (Still w d o wd s) w' d' o' wd' z = tt
  shows_end (Over w d o wd Breaks) w' d' o' wd' z = tt
  shows_end (Over w d o wd (Replies v)) w' d' o' wd' z = tt
  shows_end (Over w d o wd (Rejects v)) w' d' o' wd' z = tt
  shows_end (Over w d o wd (Traps v)) w' d' o' wd' z = tt
  shows_end (Over w d o wd (Waits on v)) w' d' o' wd' z = tt

  shows_still : (a : Stand R U) (w d : ℕ) (o : List Bytes) (wd : World) (s : S) (c : Stand T W) → Shows1 a (Still w d o wd s) → Shows2 (Still w d o wd s) c → Shows3 a c
  shows_still a w' d' o' wd' s (Over w'' d'' o'' wd'' z) h i = shows_end a w'' d'' o'' wd'' z
  shows_still (Still w d o wd r) w' d' o' wd' s (Still w'' d'' o'' wd'' t) h i =
      record { prints_are = i.prints_are ∙ h.prints_are; weight = weighs (times * w) w' w'' h.weight i.weight; depth = deep d d' d'' h.depth i.depth }
  shows_still (Over w d o wd Breaks) w' d' o' wd' s (Still w'' d'' o'' wd'' t) h i = tt
  shows_still (Over w d o wd (Replies v)) w' d' o' wd' s (Still w'' d'' o'' wd'' t) h i = absurd h
  shows_still (Over w d o wd (Rejects v)) w' d' o' wd' s (Still w'' d'' o'' wd'' t) h i = absurd h
  shows_still (Over w d o wd (Traps v)) w' d' o' wd' s (Still w'' d'' o'' wd'' t) h i = absurd h
  shows_still (Over w d o wd (Waits on v)) w' d' o' wd' s (Still w'' d'' o'' wd'' t) h i = absurd h

  module _ (A : U → V → Type 0) where
    abbrev Started : Stand R U → Stand S V → Type 0
    Started = StandsAlike times (λ world. world) A

    broken_shows : (a : Stand R U) (w d : ℕ) (o : List Bytes) (wd : World) (z : Stand T W) → Started a (Over w d o wd Breaks) → Shows3 a z
    broken_shows (Still w d o wd s) w' d' o' wd' z h = absurd h
    broken_shows (Over w d o wd Breaks) w' d' o' wd' z h = tt
    broken_shows (Over w d o wd (Replies v)) w' d' o' wd' z h = absurd (let e : Breaks ≡ Replies v = h.ends in cc)
    broken_shows (Over w d o wd (Rejects v)) w' d' o' wd' z h = absurd (let e : Breaks ≡ Rejects v = h.ends in cc)
    broken_shows (Over w d o wd (Traps v)) w' d' o' wd' z h = absurd (let e : Breaks ≡ Traps v = h.ends in cc)
    broken_shows (Over w d o wd (Waits on v)) w' d' o' wd' z h = absurd h.ends

    shows_over : (a : Stand R U) (w d : ℕ) (o : List Bytes) (wd : World) (y : End V) (c : Stand T W) → Started a (Over w d o wd y) → Shows2 (Over w d o wd y) c → Shows3 a c
    shows_over a w' d' o' wd' y (Over w'' d'' o'' wd'' z) h i = shows_end a w'' d'' o'' wd'' z
    shows_over a w' d' o' wd' Breaks (Still w'' d'' o'' wd'' t) h i = broken_shows a w' d' o' wd' (Still w'' d'' o'' wd'' t) h
    shows_over a w' d' o' wd' (Replies y) (Still w'' d'' o'' wd'' t) h i = absurd i
    shows_over a w' d' o' wd' (Rejects y) (Still w'' d'' o'' wd'' t) h i = absurd i
    shows_over a w' d' o' wd' (Traps y) (Still w'' d'' o'' wd'' t) h i = absurd i
    shows_over a w' d' o' wd' (Waits at y) (Still w'' d'' o'' wd'' t) h i = absurd i

  -- ---- executions

  module _ (old : Machine R U) (mid : Machine S V) (new : Machine T W) where
    abbrev Level1 : ℕ → Context → U → V → Type 0
    Level1 m c x y = (table : CallTable (List TypeId) Given) (given : Given) → Carries times (λ world. world) old mid m (with_table c table) (Resumes x given) (Resumes y given)

    abbrev Level2 : ℕ → Context → V → W → Type 0
    Level2 m c x y = (table : CallTable (List TypeId) Given) (given : Given) → Carries 1 moved mid new m (with_table c table) (Resumes x given) (Resumes y given)

    abbrev Level3 : ℕ → Context → U → W → Type 0
    Level3 m c x y = (table : CallTable (List TypeId) Given) (given : Given) → Carries times moved old new m (with_table c table) (Resumes x given) (Resumes y given)

    between_at : (m : ℕ) (c : Context) (world : World) (e : Entry U) (e' : Entry V) (e'' : Entry W) → Carries times (λ world. world) old mid (suc m) c e e' → (k k1 : ℕ) (b : Stand S V) → execution mid c k1 world e' ≡ b
        → Shows2 b (execution new c k (moved world) e'') → (n : ℕ) × Shows3 (execution old c n world e) (execution new c k (moved world) e'')
    between_at m c world e e' e'' f k k1 (Still w d o wd s) z i =
        let a = (f world).between k1 in
        (a.0, shows_still (execution old c (a.0) world e) w d o wd s (execution new c k (moved world) e'') (subst (λ b. Shows1 (execution old c (a.0) world e) b) z (a.1)) i)
    between_at m c world e e' e'' f k k1 (Over w d o wd y) z i =
        let a = (f world).back k1 (subst (λ b. IsOver b) (sym z) tt) in (
          a.0,
          shows_over (Level1 m c) (execution old c (a.0) world e) w d o wd y (execution new c k (moved world) e'')
              (subst (λ b. StandsAlike times (λ world. world) (Level1 m c) (execution old c (a.0) world e) b) z (a.2)) i,
        )

    pub composed : (m : ℕ) (c : Context) (e : Entry U) (e' : Entry V) (e'' : Entry W) → Carries times (λ world. world) old mid m c e e' → Carries 1 moved mid new m c e' e'' → Carries times moved old new m c e e''
    composed zero c e e' e'' f g = tt
    composed (suc m) c e e' e'' f g = λ world.
        let both : (x : U) (y : V) (z : W) → Level1 m c x y → Level2 m c y z → Level3 m c x z =
        λ x y z p q table given. composed m (with_table c table) (Resumes x given) (Resumes y given) (Resumes z given) (p table given) (q table given) in
        record {
          forth = λ n.
              (let a = (f world).forth n in
              let b = (g world).forth (a.0) in
              (b.0, stands (Level1 m c) (Level2 m c) (Level3 m c) both (execution old c n world e) (execution mid c (a.0) world e') (execution new c (b.0) (moved world) e'') (a.1) (b.1)));
          back = λ k i.
              (let b = (g world).back k i in
              let a = (f world).back (b.0) (b.1) in
              (a.0, a.1, stands (Level1 m c) (Level2 m c) (Level3 m c) both (execution old c (a.0) world e) (execution mid c (b.0) world e') (execution new c k (moved world) e'') (a.2) (b.2)));
          between = λ k. (let b = (g world).between k in between_at m c world e e' e'' f k (b.0) (execution mid c (b.0) world e') refl (b.1));
        }
