-- What it is that a program of one language does what one of another does: in an execution, and in each one behind it.
use Rattle.std.specs.Prelude.{◌≡◌, ℕ, zero, suc, ◌*◌, ◌≤◌, List}
use Rattle.mo_types.specs.declared.node.TypeId.{TypeId}
use Rattle.mo_types.specs.Calls.{CallTable}
use Rattle.core_ir.specs.Worlds.{Given, World, Context}
use Rattle.core_ir.specs.Executions.{Entry, Begins, Resumes, Saves, Starts, End, Replies, Rejects, Waits, Traps, Breaks, Stand, Still, Over, Machine, execution}

-- with these outgoing calls
abbrev pub with_table : Context → CallTable (List TypeId) Given → Context
with_table c table = record { head = c.head; message = c.message; own = c.own; table = table; globals = c.globals }

abbrev pub IsOver : {S W : Type 0} → Stand S W → Type 0
IsOver (Still weight depth prints world s) = ⊥
IsOver (Over weight depth prints world end) = Unit {0}

-- the same entry, behind which nothing waits
abbrev pub Anew : {V W : Type 0} → Entry V → Entry W → Type 0
Anew (Begins method caller arguments) e = e ≡ Begins method caller arguments
Anew (Resumes waiting given) e = ⊥
Anew Saves e = e ≡ Saves
Anew (Starts kept upgraded) e = e ≡ Starts kept upgraded

-- Next tells whether what waits goes on alike; nothing is said where the first program breaks
module _ {V W : Type 0} (Next : V → W → Type 0) where
  abbrev pub EndsAlike : End V → End W → Type 0
  EndsAlike (Replies v) e = e ≡ Replies v
  EndsAlike (Rejects error) e = e ≡ Rejects error
  EndsAlike (Waits on x) (Waits at y) = (at ≡ on) × Next x y
  EndsAlike (Waits on x) e = ⊥
  EndsAlike (Traps text) e = e ≡ Traps text
  EndsAlike Breaks e = Unit {0}

-- New programs weigh at most so many times as much; moved tells of each world which one belongs to it.
module _ {S T V W : Type 0} (times : ℕ) (moved : World → World) where
  module _ (Next : V → W → Type 0) where
    abbrev pub StandsAlike : Stand S V → Stand T W → Type 0
    StandsAlike (Over w d prints world Breaks) y = Unit {0}
    StandsAlike (Over w d prints world end) (Over w' d' prints' world' end') =
        record { prints_are : prints' ≡ prints; world_is : world' ≡ moved world; weight : w' ≤ times * w; depth : d' ≤ d; ends : EndsAlike Next end end' }
    StandsAlike (Still w d prints world s) (Still w' d' prints' world' t) =
        record { prints_are : prints' ≡ prints; world_is : world' ≡ moved world; weight : w' ≤ times * w; depth : d' ≤ d }
    StandsAlike x y = ⊥

  -- what is seen of an execution that goes on
  abbrev pub ShowsAlike : Stand S V → Stand T W → Type 0
  ShowsAlike (Over w d prints world Breaks) y = Unit {0}
  ShowsAlike (Still w d prints world s) (Still w' d' prints' world' t) = record { prints_are : prints' ≡ prints; weight : w' ≤ times * w; depth : d' ≤ d }
  ShowsAlike x (Over w d prints world end) = Unit {0}
  ShowsAlike x y = ⊥

  module _ (old : Machine S V) (new : Machine T W) where
    -- After each number of steps the new program has a number of steps after which it stands alike; where it ends, the old one
    -- has ended likewise; and after each number of its steps it has shown what the old one shows after some.
    module _ (Next : V → W → Type 0) (c : Context) (e : Entry V) (e' : Entry W) where
      abbrev pub Does : Type 0
      Does =
          (world : World) → record {
            forth : (n : ℕ) → (k : ℕ) × StandsAlike Next (execution old c n world e) (execution new c k (moved world) e');
            back : (k : ℕ) → IsOver (execution new c k (moved world) e')
                → (n : ℕ) × IsOver (execution old c n world e) × StandsAlike Next (execution old c n world e) (execution new c k (moved world) e');
            between : (k : ℕ) → (n : ℕ) × ShowsAlike (execution old c n world e) (execution new c k (moved world) e');
          }

    -- in so many executions, each behind the one before, whatever it is answered with and whatever calls were made in between
    abbrev pub Carries : ℕ → Context → Entry V → Entry W → Type 0
    Carries zero c e e' = Unit {0}
    Carries (suc m) c e e' =
        Does (λ x y. (table : CallTable (List TypeId) Given) (given : Given) → Carries m (with_table c table) (Resumes x given) (Resumes y given)) c e e'

    -- in all of them
    abbrev pub GoesOn : Context → V → W → Type 0
    GoesOn c x y = (executions : ℕ) (table : CallTable (List TypeId) Given) (given : Given) → Carries executions (with_table c table) (Resumes x given) (Resumes y given)
