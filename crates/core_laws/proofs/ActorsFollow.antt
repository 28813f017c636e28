-- The actor of a program whose executions are carried follows that of the program before.
use Rattle.std.proofs.Common.{◌≡◌, ℕ, zero, suc, ◌+◌, ◌*◌, ◌≤◌, refl, sym, subst, List, [], length, map, replicate, Option, Some, None, Bool, true, false, arith as arithmetic}
use Rattle.std.specs.Prelude.{codes}
use Rattle.std.proofs.Math.Nat.{mul-add, mul-le-mul_right}
use Rattle.mo_types.specs.declared.node.TypeId.{TypeId}
use Rattle.mo_types.specs.Calls.{CallTable, no_calls}
use Rattle.mo_values.specs.Shapes.{Bytes}
use Rattle.mo_actor.specs.Executions.{Progress, Execution, ReadingCost, trapping, after_reading}
use Rattle.mo_actor.specs.Programs.{Effects}
use Rattle.core_ir.specs.Values.{Value, null}
use Rattle.core_ir.specs.Programs.{Program}
use Rattle.core_ir.specs.Worlds.{Given, World, Context}
use Rattle.core_ir.specs.Executions.{Entry, Begins, Resumes, Saves, Starts, Stand, Machine, execution}
use Rattle.core_ir.specs.Formed.{IsSafe}
use Rattle.core_ir.specs.Messages.{Messages}
use Rattle.core_ir.specs.Actor.{Fields, Pending, Body, Enters, GoesOn, core_language, body_progress, turns, save_progress, start_progress, world_of, context_of, alone, run_body, kept_value, started, restarted, start, save}
use Rattle.core_laws.specs.Carried.{Anew, Carries}
use Rattle.core_laws.specs.Following.{ProgressAlike, Follows}
use Rattle.core_laws.specs.Followed.{empty, Moves, SameOutside, FieldsAlike, EffectsAlike, BodiesAlike, entry_of_body, StartsSafely, Followed}
use Rattle.core_laws.proofs.SeenRuns.{Seen, seen}
use Rattle.core_laws.proofs.FollowedBodies.{nothing_yet, body_alike, save_alike, start_alike}

-- ---- costs before an execution

before : (w' c x y z : ℕ) → w' ≤ x → 1 * c ≤ y → z ≡ y + x → c + w' ≤ z
before w' c x y z h b a = omega (arithmetic, h, b, a)

no_more : (c y : ℕ) → 1 * c ≤ y → c ≤ y
no_more c y h = omega (arithmetic, h)

module _ (times : ℕ) (one : 1 ≤ times) {A B : Type 0} (Both : A → B → Type 0) where
  pub trapping_follows : (text : List ℕ) → Follows times Both (trapping text) (trapping text)
  trapping_follows text zero = (zero, nothing_yet times one Both)
  trapping_follows text (suc k) =
      (suc k, record { prints_are = refl; weight = no_more (1 + length text) (times * (1 + length text)) (mul-le-mul_right (1 + length text) one); depth = omega arithmetic; completion = refl })

  pub reading_follows : (cost : ReadingCost) (x : Execution A) (y : Execution B) → Follows times Both x y → Follows times Both (after_reading cost x) (after_reading cost y)
  reading_follows cost x y h k =
      let f = h k in
      let al : ProgressAlike times Both (x (f.0)) (y k) = f.1 in
      let dl = al.depth in (
        f.0,
        record {
          prints_are = al.prints_are;
          weight = before (y k).weight cost.weight (times * (x (f.0)).weight) (times * cost.weight) (times * (cost.weight + (x (f.0)).weight)) al.weight (mul-le-mul_right cost.weight one) (mul-add times cost.weight (x (f.0)).weight);
          depth = omega (arithmetic, dl);
          completion = al.completion;
        },
      )

module _ {S T V W K B C : Type 0} (times : ℕ) (one : 1 ≤ times) (moved : World → World) (moves : Moves moved) (old : Machine S V) (new : Machine T W) (messages : Messages K) (p : Program B) (q : Program C)
    (outside : SameOutside p q) (carries : (m : ℕ) (c : Context) (e : Entry V) (e' : Entry W) → Anew e e' → Carries times moved old new m c e e') (own : Bytes) where
  context_is : (table : CallTable (List TypeId) Given) (names names' : List Value) → names' ≡ names → context_of new messages q own table names' ≡ context_of old messages p own table names
  context_is table names names' e = cc (outside.head, outside.names own, e)

  turns_follow : {A A' : Type 0} (Both : A → A' → Type 0) (f : Stand S V → Progress A) (g : Stand T W → Progress A') (c c' : Context) (w w' : World) (e : Entry V) (e' : Entry W)
      → c' ≡ c → w' ≡ moved w → ((m : ℕ) → Carries times moved old new m c e e') → IsSafe old c w e
      → ((a : Stand S V) (b : Stand T W) → Seen times moved old new c a b → ProgressAlike times Both (f a) (g b))
      → Follows times Both (turns old messages p f c w e) (turns new messages q g c' w' e')
  turns_follow Both f g c c' w w' e e' i j all safe alike zero = (zero, nothing_yet times one Both)
  turns_follow Both f g c c' w w' e e' i j all safe alike (suc k) =
      let s = seen times moved old new c w e e' all safe k in (
        suc (s.0),
        subst (λ c'. ProgressAlike times Both (f (execution old c (s.0) w e)) (g (execution new c' k w' e'))) (sym i)
            (subst (λ w'. ProgressAlike times Both (f (execution old c (s.0) w e)) (g (execution new c k w' e'))) (sym j) (alike (execution old c (s.0) w e) (execution new c k (moved w) e') (s.1))),
      )

  -- ---- bodies

  abbrev E : List Value → Effects (core_language V K) → Effects (core_language W K) → Type 0
  E names = EffectsAlike times moved old new messages p q (alone old messages p own names)

  runs : (table : CallTable (List TypeId) Given) (f g : Fields) → FieldsAlike times moved old new messages p q f g → (b : Body V) (d : Body W) → BodiesAlike times moved old new messages p q (alone old messages p own f.names) b d
      → IsSafe old (context_of old messages p own table f.names) (world_of old messages p f) (entry_of_body times moved old new messages p q b)
      → Follows times (E f.names) (run_body old messages p own table f b) (run_body new messages q own table g d)
  runs table f g fields (Enters entry caller vs) d h safe =
      let c = context_of old messages p own table f.names in
      subst (λ d. Follows times (E f.names) (run_body old messages p own table f (Enters entry caller vs)) (run_body new messages q own table g d)) (sym h)
      (turns_follow (E f.names) (body_progress old messages p f entry.results) (body_progress new messages q g entry.results) c (context_of new messages q own table g.names) (world_of old messages p f) (world_of new messages q g)
      (Begins entry.place caller vs) (Begins entry.place caller vs) (context_is table f.names g.names (fields.1)) (fields.0) (λ m. carries m c (Begins entry.place caller vs) (Begins entry.place caller vs) refl) safe
      (body_alike times one moved moves old new messages p q (alone old messages p own f.names) f g (fields.1) entry.results c (λ x y h. h)))
  runs table f g fields (GoesOn x given) d h safe =
      let c = context_of old messages p own table f.names in
      let y : Pending W = h.0 in
      let z = h.2 in
      subst (λ d. Follows times (E f.names) (run_body old messages p own table f (GoesOn x given)) (run_body new messages q own table g d)) (sym (h.1))
      (subst (λ r. Follows times (E f.names) (run_body old messages p own table f (GoesOn x given)) (turns new messages q (body_progress new messages q g r) (context_of new messages q own table g.names) (world_of new messages q g) (Resumes y.waiting given))) (sym (z.0))
      (turns_follow (E f.names) (body_progress old messages p f x.results) (body_progress new messages q g x.results) c (context_of new messages q own table g.names) (world_of old messages p f) (world_of new messages q g)
      (Resumes x.waiting given) (Resumes y.waiting given) (context_is table f.names g.names (fields.1)) (fields.0) (λ m. z.1 m table given) safe
      (body_alike times one moved moves old new messages p q (alone old messages p own f.names) f g (fields.1) x.results c (λ x y h. h))))

  -- ---- saves and starts

  saves : (f g : Fields) → FieldsAlike times moved old new messages p q f g → IsSafe old (alone old messages p own f.names) (world_of old messages p f) Saves
      → Follows times (λ x y. y ≡ x) (save old messages p own f) (save new messages q own g)
  saves f g fields safe =
      let c = alone old messages p own f.names in
      turns_follow (λ x y. y ≡ x) (save_progress old messages p) (save_progress new messages q) c (alone new messages q own g.names) (world_of old messages p f) (world_of new messages q g) Saves Saves
      (context_is (no_calls 0) f.names g.names (fields.1)) (fields.0) (λ m. carries m c Saves Saves refl) safe (save_alike times one moved moves old new messages p q c)

  abbrev F : Fields → Fields → Type 0
  F = FieldsAlike times moved old new messages p q

  started_follow : (kept : List Value) (upgraded : Bool) → IsSafe old (alone old messages p own []) empty (Starts kept upgraded) → Follows times F (started old messages p own kept upgraded) (started new messages q own kept upgraded)
  started_follow kept upgraded safe =
      let c = alone old messages p own [] in
      turns_follow F (start_progress old messages p) (start_progress new messages q) c (alone new messages q own []) empty empty (Starts kept upgraded) (Starts kept upgraded)
      (context_is (no_calls 0) [] [] refl) (sym moves.first) (λ m. carries m c (Starts kept upgraded) (Starts kept upgraded) refl) safe (start_alike times one moved moves old new messages p q c)

  restarted_follow : (r : Option (List (Option Value)))
      → ((values : List (Option Value)) → r ≡ Some values → IsSafe old (alone old messages p own []) empty (Starts (map (kept_value old messages p) values) true))
      → Follows times F (restarted old messages p own r) (restarted new messages q own r)
  restarted_follow None safe = trapping_follows times one F (codes "incompatible stable types")
  restarted_follow (Some values) safe = started_follow (map (kept_value old messages p) values) true (safe values refl)

  starts : (kept : Option K) → StartsSafely times moved old new messages p q own kept → Follows times F (start old messages p own kept) (start new messages q own kept)
  starts None safe =
      subst (λ n. Follows times F (started old messages p own (replicate (length p.stable) null) false) (started new messages q own (replicate n null) false)) (sym outside.stable)
      (started_follow (replicate (length p.stable) null) false safe)
  starts (Some kept) safe =
      reading_follows times one F (messages.restoring_cost kept) (restarted old messages p own (messages.restore kept)) (restarted new messages q own (messages.restore kept)) (restarted_follow (messages.restore kept) safe)

  pub followed : Followed times moved old new messages p q own
  followed = record { outside = outside; runs = runs; starts = starts; saves = saves }
