-- Whole executions with fewer steps, stack words and pages.
use Rattle.std.proofs.Common.{◌≡◌, ◌⊎◌, inl, inr, ℕ, zero, suc, ◌+◌, ◌-◌, ◌<◌, ◌≤◌, List, [], ◌∷◌, ◌++◌, length, reverse, replicate, Bool, true, false, cond, nat_lt, Option, Some, None, refl, sym, ap, ◌∙◌, subst, arith}
use Rattle.std.proofs.lemmas.Bool.Decides.{nat_tests}
use Rattle.play_script.specs.declared.item.Word.TheVariants as word
use Rattle.wasm_tree.specs.declared.trap.Trap.{Trap}
use Rattle.wasm_tree.specs.declared.trap.Trap.TheVariants as trap
use Rattle.wasm_tree.specs.declared.types.FunctionType.{FunctionType}
use Rattle.wasm_tree.specs.Exec.{ExecutionLimits, Store}
use Rattle.ic0_world.specs.declared.world.World.{World}
use Rattle.canister_host.specs.Execution.{Entry, Breaks, entered_as, word_of, store_of}
use Rattle.module_laws.specs.Prints.{IsLater}
use Rattle.module_laws.proofs.HostPrints.{now, later}
use Rattle.low_ir.specs.Tree.{Function, Module}
use Rattle.low_ir.specs.Numbering.{type_of, defined}
use Rattle.low_ir.specs.Meaning.{Called, Gave, Fell, Lost, Calls, run}
use Rattle.low_ir.specs.Frames.{words, finish, enter_as, enter}
use Rattle.low_execution.specs.Host.{low_host}
use Rattle.low_execution.specs.Execution.{then_go, low_run, low_end, IsNotLost}
use Rattle.low_execution.proofs.NeverLost.{never_lost}
use Rattle.low_limits.specs.Laws.{EndPrintsMore, IsCut, IsSmaller, SmallerLimitsCut, FramesEndBeforeDepth}
use Rattle.low_limits.proofs.Later.{CallIsLater, enter_later}
use Rattle.low_limits.proofs.Fewer.{IsWanting, CallClose, fewer}

-- Depth is enough where it is more than the room: each frame takes words.
module _ (m : Module) (pages : ℕ) where
  framed : (room w : ℕ) (t : FunctionType) (fn : Function) (left : ℕ) (store : Store World) (args : List ℕ) (a b : Calls World) → (nat_lt room w ≡ false → a ≡ b)
      → cond (nat_lt room w) (Fell trap.Stack store) (finish t (run pages m a fn.body (record { left = left; store = store; locals = args ++ replicate (length fn.locals) 0 })))
      ≡ cond (nat_lt room w) (Fell trap.Stack store) (finish t (run pages m b fn.body (record { left = left; store = store; locals = args ++ replicate (length fn.locals) 0 })))
  framed room w t fn left store args a b e = by (nat_lt room w) refl
    where
      by : (x : Bool) → nat_lt room w ≡ x
          → cond x (Fell trap.Stack store) (finish t (run pages m a fn.body (record { left = left; store = store; locals = args ++ replicate (length fn.locals) 0 })))
          ≡ cond x (Fell trap.Stack store) (finish t (run pages m b fn.body (record { left = left; store = store; locals = args ++ replicate (length fn.locals) 0 })))
      by true k = refl
      by false k = ap (λ c. finish t (run pages m c fn.body (record { left = left; store = store; locals = args ++ replicate (length fn.locals) 0 }))) (e k)

  less_room : (room w d : ℕ) → 8 ≤ w → nat_lt room w ≡ false → room < suc d → room - w < d
  less_room room w d big k h = let le : w ≤ room = grind (arith, nat_tests, k) in omega (arith, le, big, h)

  entered : (d e room f left : ℕ) (store : Store World) (args : List ℕ) → room < suc d → room < suc e → ((room : ℕ) → room < d → room < e → enter d pages m low_host room ≡ enter e pages m low_host room) → (found : Option FunctionType) (there : Option Function)
      → enter_as pages m low_host room (λ room. enter d pages m low_host room) found there f left store args ≡ enter_as pages m low_host room (λ room. enter e pages m low_host room) found there f left store args
  entered d e room f left store args p q ih None there = refl
  entered d e room f left store args p q ih (Some t) None = refl
  entered d e room f left store args p q ih (Some t) (Some fn) =
      framed room (words t fn) t fn left store args _ _ (λ k. ih (room - words t fn) (less_room room (words t fn) d (omega arith) k p) (less_room room (words t fn) e (omega arith) k q))

  deep_enough : (d e room : ℕ) → room < d → room < e → enter d pages m low_host room ≡ enter e pages m low_host room
  deep_enough zero e room p q = absurd (omega arith)
  deep_enough (suc d) zero room p q = absurd (omega arith)
  deep_enough (suc d) (suc e) room p q = λ i f left store args. entered d e room f left store args p q (deep_enough d e) (type_of m f) (defined m f) i

pub frames_end : FramesEndBeforeDepth
frames_end m pages d e room p q = deep_enough m pages d e room p q

module _ (m : Module) (scant ample : ExecutionLimits) (s : IsSmaller scant ample) (extra : ℕ) (means : 0 < extra → scant.steps < ample.steps) where
  -- A scant execution beside an ample one.
  abbrev Beside : Called World → Called World → Type 0
  Beside o a = CallClose m extra (scant.steps < ample.steps) (scant.stack < ample.stack) (scant.pages < ample.pages) means o a

  call_beside : (f left : ℕ) (store : Store World) (args : List ℕ) → Beside (enter (suc scant.stack) scant.pages m low_host scant.stack f left store args) (enter (suc ample.stack) ample.pages m low_host ample.stack f (left + extra) store args)
  call_beside f left store args =
      let deep = deep_enough m scant.pages (suc ample.stack) (suc scant.stack) scant.stack (omega (arith, s.stack)) (omega arith) in
      subst (λ o. Beside (o f left store args) (enter (suc ample.stack) ample.pages m low_host ample.stack f (left + extra) store args)) deep
      (fewer m extra (scant.steps < ample.steps) (scant.stack < ample.stack) (scant.pages < ample.pages) means (suc ample.stack) scant.pages ample.pages scant.stack ample.stack s.pages (λ lt. lt) s.stack (λ lt. lt) f left store args)

  -- The world of an entry has the same prints.
  as_entered : (store : Store World) (v : World) (o : Called World) → v.prints ≡ store.world.prints → CallIsLater v o → CallIsLater store.world o
  as_entered store v (Gave left after value) e p = record { more = p.more; is = p.is ∙ ap (λ l. l ++ p.more) e }
  as_entered store v (Fell cause after) e p = record { more = p.more; is = p.is ∙ ap (λ l. l ++ p.more) e }
  as_entered store v Lost e p = tt

  onto : (v u : World) (o : Called World) → IsLater v u → CallIsLater u o → CallIsLater v o
  onto v u (Gave left store value) p q = later v u store.world p q
  onto v u (Fell cause store) p q = later v u store.world p q
  onto v u Lost p q = tt

  going : (v : World) (o : Called World) (g : ℕ → Store World → Called World) → ((left : ℕ) (store : Store World) → CallIsLater store.world (g left store)) → CallIsLater v o → CallIsLater v (then_go o g)
  going v (Gave left store value) g h p = onto v store.world (g left store) p (h left store)
  going v (Fell cause store) g h p = p
  going v Lost g h p = tt

  run_later : (entries : List Entry) (left : ℕ) (store : Store World) → CallIsLater store.world (low_run ample m entries left store)
  run_later [] left store = now store.world
  run_later (e ∷ entries) left store =
      going store.world _ (low_run ample m entries) (run_later entries)
      (as_entered store (entered_as e.kind store).world _ refl (enter_later m (suc ample.stack) ample.pages ample.stack e.function left (entered_as e.kind store) (reverse e.operands)))

  then_beside : (o a : Called World) (f g : ℕ → Store World → Called World) → ((left : ℕ) (store : Store World) → CallIsLater store.world (g left store)) → ((left : ℕ) (store : Store World) → Beside (f left store) (g (left + extra) store)) → Beside o a → Beside (then_go o f) (then_go a g)
  then_beside (Gave left store value) a f g h c e = subst (λ a. Beside (f left store) (then_go a g)) (sym e) (c left store)
  then_beside (Fell cause store) a f g h c (inl e) = inl (ap (λ a. then_go a g) e)
  then_beside (Fell cause store) a f g h c (inr e) = inr (e.0, going store.world a g h e.1)
  then_beside Lost a f g h c e = ap (λ a. then_go a g) e

  run_beside : (entries : List Entry) (left : ℕ) (store : Store World) → Beside (low_run scant m entries left store) (low_run ample m entries (left + extra) store)
  run_beside [] left store = refl
  run_beside (e ∷ entries) left store =
      then_beside _ _ (low_run scant m entries) (low_run ample m entries) (run_later entries) (run_beside entries) (call_beside e.function left (entered_as e.kind store) (reverse e.operands))

  -- What an end says of it.

  goes : (w : World) (a : Called World) → IsNotLost a → CallIsLater w a → EndPrintsMore w.prints (low_end a)
  goes w (Gave left store value) n p = record { more = p.more; is = p.is }
  goes w (Fell cause store) n p = record { more = p.more; is = p.is }
  goes w Lost n p = absurd n

  cut : (cause : Trap) (store : Store World) (a : Called World) → IsNotLost a → IsWanting (scant.steps < ample.steps) (scant.stack < ample.stack) (scant.pages < ample.pages) cause store → CallIsLater store.world a → IsCut scant ample (low_end (Fell cause store)) (low_end a)
  cut trap.Steps store a n (inl less) p = record { word = word.Steps; prints = store.world.prints; is = refl; want = inl less; goes = goes store.world a n p }
  cut trap.Steps store a n (inr less) p = record { word = word.Steps; prints = store.world.prints; is = refl; want = inr less.1; goes = goes store.world a n p }
  cut trap.Stack store a n less p = record { word = word.Stack; prints = store.world.prints; is = refl; want = less; goes = goes store.world a n p }
  cut trap.Unreachable store a n less p =
      record {
        word = word.Heap;
        prints = store.world.prints;
        is = ap (λ refused. Breaks (word_of (cond refused true store.world.stable_refused) store.world.trap_text trap.Unreachable) store.world.prints) less.0;
        want = less.1;
        goes = goes store.world a n p;
      }
  cut trap.Bounds store a n less p = absurd less
  cut trap.DivideByZero store a n less p = absurd less
  cut trap.Overflow store a n less p = absurd less
  cut trap.Indirect store a n less p = absurd less
  cut trap.Host store a n less p = absurd less

  ended : (o a : Called World) → IsNotLost a → Beside o a → (low_end o ≡ low_end a) ⊎ IsCut scant ample (low_end o) (low_end a)
  ended (Gave left store value) a n e = inl (sym (ap low_end e))
  ended (Fell cause store) a n (inl e) = inl (sym (ap low_end e))
  ended (Fell cause store) a n (inr e) = inr (cut cause store a n e.0 e.1)
  ended Lost a n e = inl (sym (ap low_end e))

pub smaller_cut : SmallerLimitsCut
smaller_cut m formed scant ample s i entries all w =
    let extra : ℕ = ample.steps - scant.steps in
    let whole : scant.steps + extra ≡ ample.steps = omega (arith, s.steps) in
    let means : 0 < extra → scant.steps < ample.steps = λ more. omega (arith, more) in
    subst (λ steps. (low_end (low_run scant m entries scant.steps (store_of i w)) ≡ low_end (low_run ample m entries steps (store_of i w))) ⊎ IsCut scant ample (low_end (low_run scant m entries scant.steps (store_of i w))) (low_end (low_run ample m entries steps (store_of i w)))) whole
    (ended m scant ample s extra means _ _ (never_lost m formed ample entries all (scant.steps + extra) (store_of i w)) (run_beside m scant ample s extra means entries scant.steps (store_of i w)))
