-- Executions of a program and of its split code agree, and what waits goes on alike.
use Rattle.std.proofs.Common.{◌≡◌, ℕ, zero, suc, ◌+◌, ◌*◌, ◌<◌, ◌≤◌, refl, sym, ap, ◌∙◌, subst, List, [], ◌∷◌, ◌++◌, length, Option, Some, None, arith as arithmetic}
use Rattle.std.specs.Prelude.{max, slice_get}
use Rattle.mo_values.specs.Costs.{Cost}
use Rattle.mo_values.specs.Shapes.{Bytes}
use Rattle.core_ir.specs.Choices.{on_some}
use Rattle.core_ir.specs.Values.{Value, flag_value}
use Rattle.core_ir.specs.Programs.{Group, Method}
use Rattle.core_ir.specs.Worlds.{Given, World, Context}
use Rattle.core_ir.specs.Executions.{Entry, Begins, Resumes, Saves, Starts, End, Replies, Rejects, Waits, Traps, Breaks, Go, Ends, Stand, Still, Over, after_step, run, execution, deep_with}
use Rattle.core_ir.specs.Expressions as exp
use Rattle.core_ir.specs.Expressions.{Exp, Constant?, Name, Do, Exps, NoExp, AnExp, Goal, Core}
use Rattle.core_ir.specs.CoreMachine as core
use Rattle.core_ir.specs.CoreMachine.{Arguments, Looping, Labelled, Trying, Join, Eval, Give}
use Rattle.core_ir.specs.Code.{CodeProgram}
use Rattle.core_ir.specs.CodeMachine as code
use Rattle.core_ir.specs.CodeMachine.{Around, Within, Again, Place, settle, value, values, put, branch, onto, by_way, raise}
use Rattle.core_ir.specs.declared.primitive.Primitive.{Primitive}
use Rattle.core_ir.specs.Primitives.{perform}
use Rattle.core_ir.specs.Contexts.{call_context}
use Rattle.core_ir.specs.FormedExpressions.{nest}
use Rattle.core_ir.specs.Formed.{IsWhole}
use Rattle.core_ir.specs.Nested.{NestedMethods, Nested}
use Rattle.core_laws.specs.Splits.{SplitsProgram}
use Rattle.core_laws.proofs.PrimitivesPay.{heavy}
use Rattle.core_laws.proofs.Related.{Suspended, EndFit}
use Rattle.core_laws.proofs.Given.{Heavy}
use Rattle.core_laws.proofs.SplitRuns.{Stands, Ended, each, passes, backward, over, Close, between}
use Rattle.core_laws.proofs.SplitEntries.{Enters, begins_alike, goes_on}
use Rattle.core_laws.proofs.Room.{joined, Room, Kept, Roomy, run_k, after_k, answer_k, begins_k}

module _ (sizes : ℕ → ℕ) (context : Context) (source : Core) (program : CodeProgram) where
  abbrev pub in_core : World → Entry core.Waiting → ℕ → Stand core.State core.Waiting
  in_core world e n = execution (core.core_machine source) context n world e

  abbrev pub in_code : World → Entry code.Waiting → ℕ → Stand code.State code.Waiting
  in_code world e n = execution (code.code_machine program) context n world e

  -- behind what the entry did
  abbrev after_core : ℕ → core.Did → Stand core.State core.Waiting
  after_core n x = after_step (run (core.core_machine source) context n) 0 0 0 [] x

  abbrev after_code : ℕ → code.Did → Stand code.State code.Waiting
  after_code n x = after_step (run (code.code_machine program) context n) 0 0 0 [] x

  -- the same entry; what waits was left by executions that agree
  abbrev pub Entries : Entry core.Waiting → Entry code.Waiting → Type 0
  Entries (Begins m caller vs) e = e ≡ Begins m caller vs
  Entries (Resumes x o) e =
      (w : code.Waiting) × (e ≡ Resumes w o) × Suspended sizes context x.nodes source program x.stack w × (joined x.stack < x.nodes) × Room x.nodes x.stack 0
  Entries Saves e = e ≡ Saves
  Entries (Starts kept upgraded) e = e ≡ Starts kept upgraded

  -- an entry that ended
  over_fits : (bd k n kk nodes : ℕ) (cost : Cost) (o : List Bytes) (wd : World) (r : End core.Waiting) (cost' : Cost) (r' : End code.Waiting) → cost'.levels ≤ cost.levels → cost'.weight ≤ 2 * cost.weight
      → EndFit sizes context nodes source program r r' → Stands sizes context nodes source program bd k (after_core n (Ends cost o wd r)) (after_code kk (Ends cost' o wd r'))
  over_fits bd k n kk nodes cost o wd r cost' r' fl wl e =
      over sizes context nodes source program bd k (0 + cost.weight) (max 0 (deep_with 0 cost)) o wd r (0 + cost'.weight) (max 0 (deep_with 0 cost')) r' (omega (arithmetic, wl)) (omega (arithmetic, fl)) e

  ends_fit : (bd k n kk nodes : ℕ) (cost : Cost) (o : List Bytes) (wd : World) (r : End core.Waiting) (y : code.Did) → Enters sizes context source program nodes (Ends cost o wd r) y
      → Stands sizes context nodes source program bd k (after_core n (Ends cost o wd r)) (after_code kk y)
  ends_fit bd k n kk nodes cost o wd Breaks y e = tt
  ends_fit bd k n kk nodes cost o wd (Replies v) y e = subst (λ y. Stands sizes context nodes source program bd k (after_core n (Ends cost o wd (Replies v))) (after_code kk y)) (sym e.is) (over_fits bd k n kk nodes cost o wd (Replies v) e.cost' e.e' e.flat e.weight e.fits)
  ends_fit bd k n kk nodes cost o wd (Rejects v) y e = subst (λ y. Stands sizes context nodes source program bd k (after_core n (Ends cost o wd (Rejects v))) (after_code kk y)) (sym e.is) (over_fits bd k n kk nodes cost o wd (Rejects v) e.cost' e.e' e.flat e.weight e.fits)
  ends_fit bd k n kk nodes cost o wd (Waits i v) y e = subst (λ y. Stands sizes context nodes source program bd k (after_core n (Ends cost o wd (Waits i v))) (after_code kk y)) (sym e.is) (over_fits bd k n kk nodes cost o wd (Waits i v) e.cost' e.e' e.flat e.weight e.fits)
  ends_fit bd k n kk nodes cost o wd (Traps v) y e = subst (λ y. Stands sizes context nodes source program bd k (after_core n (Ends cost o wd (Traps v))) (after_code kk y)) (sym e.is) (over_fits bd k n kk nodes cost o wd (Traps v) e.cost' e.e' e.flat e.weight e.fits)

  module _ (fits : SplitsProgram sizes source program) where
    begin_m : (world : World) (m : ℕ) (caller : Bytes) (vs : List Value) (o : Option (Method exp.Body)) → slice_get source.methods m ≡ o
        → (n : ℕ) × Enters sizes context source program n (on_some (core.stuck source context 0 world) o (λ method. core.begins source context world (2 + length caller) method.body (call_context caller ∷ vs)))
        (code.enters program context world (Begins m caller vs))
    begin_m world m caller vs None e = (0, tt)
    begin_m world m caller vs (Some x) e =
        let y = fits.methods m x e in
        let n = x.body.nodes in (
          n,
          subst (λ d. Enters sizes context source program n (core.begins source context world (2 + length caller) x.body (call_context caller ∷ vs)) d)
              (sym (ap (λ o. on_some (code.stuck world) o (λ method. code.begins program context world (2 + length caller) method.body (call_context caller ∷ vs))) (y.1)))
              (begins_alike sizes context source program world (2 + length caller) x.body (y.0).body (y.2).body (call_context caller ∷ vs)),
        )

    enters_alike : (world : World) (e : Entry core.Waiting) (e' : Entry code.Waiting) → Entries e e' → (n : ℕ) × Enters sizes context source program n (core.enters source context world e) (code.enters program context world e')
    enters_alike world (Begins m caller vs) e' i =
        let x = begin_m world m caller vs (slice_get source.methods m) refl in
        (x.0, subst (λ e. Enters sizes context source program (x.0) (core.enters source context world (Begins m caller vs)) (code.enters program context world e)) (sym i) (x.1))
    enters_alike world (Resumes x o) e' i =
        (x.nodes, subst (λ e. Enters sizes context source program x.nodes (core.enters source context world (Resumes x o)) (code.enters program context world e)) (sym (i.1)) (goes_on sizes context source program x.nodes world x.stack (i.0) (i.2) (i.3) o))
    enters_alike world Saves e' i =
        let n = source.save.nodes in
        (n, subst (λ e. Enters sizes context source program n (core.enters source context world Saves) (code.enters program context world e)) (sym i) (begins_alike sizes context source program world 0 source.save program.save fits.save []))
    enters_alike world (Starts kept upgraded) e' i =
        let n = source.start.nodes in (
          n,
          subst (λ e. Enters sizes context source program n (core.enters source context world (Starts kept upgraded)) (code.enters program context world e)) (sym i)
              (begins_alike sizes context source program world 0 source.start program.start fits.start (kept ++ flag_value upgraded ∷ [])),
        )

    weigh : (world : World) (o : Primitive) (vs : List Value) → Heavy (perform context.head world.store o vs)
    weigh world o vs = heavy context.head world.store o vs

    first_each : (n nodes : ℕ) (x : core.Did) (y : code.Did) → Enters sizes context source program nodes x y → (k : ℕ) × Stands sizes context nodes source program 0 k (after_core n x) (after_code k y)
    first_each n nodes (Go cost o wd s) y e =
        let wl = e.weight in
        let fl = e.flat in
        let a = each sizes context nodes source program fits weigh n e.p e.b (0 + cost.weight) (max 0 (deep_with 0 cost)) (0 + e.cost'.weight) (max 0 (deep_with 0 e.cost')) o wd s e.t e.rel (omega (arithmetic, wl)) (omega (arithmetic, fl)) in
        (a.steps, subst (λ y. Stands sizes context nodes source program 0 a.steps (after_core n (Go cost o wd s)) (after_code a.steps y)) (sym e.is) a.stands)
    first_each n nodes (Ends cost o wd r) y e = (0, ends_fit 0 0 n 0 nodes cost o wd r y e)

    -- After each number of steps the code has one at which it stands alike: the same prints and world, at most twice the weight, no
    -- greater depth, and likewise ended. Nothing is said where the other one breaks.
    pub split_each : (world : World) (e : Entry core.Waiting) (e' : Entry code.Waiting) → Entries e e' → (n : ℕ) → (nodes : ℕ) × (k : ℕ) × Stands sizes context nodes source program 0 k (in_core world e n) (in_code world e' k)
    split_each world e e' i n =
        let x = enters_alike world e e' i in
        let y = first_each n (x.0) (core.enters source context world e) (code.enters program context world e') (x.1) in
        (x.0, y.0, y.1)

    first_back : (m nodes : ℕ) (x : core.Did) (y : code.Did) → Enters sizes context source program nodes x y → (w2 d2 : ℕ) (o2 : List Bytes) (wd2 : World) (e2 : End code.Waiting) → after_code m y ≡ Over w2 d2 o2 wd2 e2
        → (n : ℕ) × Ended sizes context nodes source program (after_core n x) (Over w2 d2 o2 wd2 e2)
    first_back m nodes (Go cost o wd s) y e w2 d2 o2 wd2 e2 i =
        let wl = e.weight in
        let fl = e.flat in
        backward sizes context nodes source program fits weigh m e.p e.b (0 + cost.weight) (max 0 (deep_with 0 cost)) (0 + e.cost'.weight) (max 0 (deep_with 0 e.cost')) o wd s e.t e.rel (omega (arithmetic, wl)) (omega (arithmetic, fl)) w2 d2 o2 wd2 e2
        (ap (after_code m) (sym e.is) ∙ i)
    first_back m nodes (Ends cost o wd r) y e w2 d2 o2 wd2 e2 i =
        (0, subst (λ z. Stands sizes context nodes source program 0 0 (after_core 0 (Ends cost o wd r)) z) i (ends_fit 0 0 0 m nodes cost o wd r y e))

    -- where the code ends, the other one has ended likewise, or breaks
    pub split_back : (world : World) (e : Entry core.Waiting) (e' : Entry code.Waiting) → Entries e e' → (m w2 d2 : ℕ) (o2 : List Bytes) (wd2 : World) (e2 : End code.Waiting) → in_code world e' m ≡ Over w2 d2 o2 wd2 e2
        → (nodes : ℕ) × (n : ℕ) × Ended sizes context nodes source program (in_core world e n) (Over w2 d2 o2 wd2 e2)
    split_back world e e' i m w2 d2 o2 wd2 e2 z =
        let x = enters_alike world e e' i in
        let y = first_back m (x.0) (core.enters source context world e) (code.enters program context world e') (x.1) w2 d2 o2 wd2 e2 z in
        (x.0, y.0, y.1)

    -- where the source still goes after enough steps, the code has made more than any number of steps
    first_past : (bd nodes : ℕ) (x : core.Did) (y : code.Did) → Enters sizes context source program nodes x y → (from : ℕ) × ((n : ℕ) → from ≤ n → (k : ℕ) × Stands sizes context nodes source program bd k (after_core n x) (after_code k y))
    first_past bd nodes (Go cost o wd s) y e =
        let wl = e.weight in
        let fl = e.flat in
        let g = passes sizes context nodes source program fits weigh bd e.p e.b wd s e.t e.rel in (
          g.from,
          λ n l.
              let a = g.by n (0 + cost.weight) (max 0 (deep_with 0 cost)) (0 + e.cost'.weight) (max 0 (deep_with 0 e.cost')) o l (omega (arithmetic, wl)) (omega (arithmetic, fl)) in
              (a.steps, subst (λ y. Stands sizes context nodes source program bd a.steps (after_core n (Go cost o wd s)) (after_code a.steps y)) (sym e.is) a.stands),
        )
    first_past bd nodes (Ends cost o wd r) y e = (0, λ n l. (0, ends_fit bd 0 n 0 nodes cost o wd r y e))

    pub split_past : (bd : ℕ) (world : World) (e : Entry core.Waiting) (e' : Entry code.Waiting) → Entries e e'
        → (nodes : ℕ) × (from : ℕ) × ((n : ℕ) → from ≤ n → (k : ℕ) × Stands sizes context nodes source program bd k (in_core world e n) (in_code world e' k))
    split_past bd world e e' i =
        let x = enters_alike world e e' i in
        let y = first_past bd (x.0) (core.enters source context world e) (code.enters program context world e') (x.1) in
        (x.0, y.0, y.1)

    near_end : (n kk nodes : ℕ) (cost : Cost) (o : List Bytes) (wd : World) (r : End core.Waiting) (y : code.Did) → Enters sizes context source program nodes (Ends cost o wd r) y → Close sizes context nodes source program (after_core n (Ends cost o wd r)) (after_code kk y)
    near_end n kk nodes cost o wd Breaks y e = tt
    near_end n kk nodes cost o wd (Replies v) y e = subst (λ y. Close sizes context nodes source program (after_core n (Ends cost o wd (Replies v))) (after_code kk y)) (sym e.is) tt
    near_end n kk nodes cost o wd (Rejects v) y e = subst (λ y. Close sizes context nodes source program (after_core n (Ends cost o wd (Rejects v))) (after_code kk y)) (sym e.is) tt
    near_end n kk nodes cost o wd (Waits i v) y e = subst (λ y. Close sizes context nodes source program (after_core n (Ends cost o wd (Waits i v))) (after_code kk y)) (sym e.is) tt
    near_end n kk nodes cost o wd (Traps v) y e = subst (λ y. Close sizes context nodes source program (after_core n (Ends cost o wd (Traps v))) (after_code kk y)) (sym e.is) tt

    first_between : (k nodes : ℕ) (x : core.Did) (y : code.Did) → Enters sizes context source program nodes x y → (n : ℕ) × Close sizes context nodes source program (after_core n x) (after_code k y)
    first_between k nodes (Go cost o wd s) y e =
        let wl = e.weight in
        let fl = e.flat in
        let a = between sizes context nodes source program fits weigh k e.p e.b (0 + cost.weight) (max 0 (deep_with 0 cost)) (0 + e.cost'.weight) (max 0 (deep_with 0 e.cost')) o wd s e.t e.rel (omega (arithmetic, wl)) (omega (arithmetic, fl)) in
        (a.0, subst (λ y. Close sizes context nodes source program (after_core (a.0) (Go cost o wd s)) (after_code k y)) (sym e.is) (a.1))
    first_between k nodes (Ends cost o wd r) y e = (0, near_end 0 k nodes cost o wd r y e)

    -- after each number of its steps the code has shown what the source has shown after some, at no more than twice the weight
    pub split_between : (k : ℕ) (world : World) (e : Entry core.Waiting) (e' : Entry code.Waiting) → Entries e e' → (nodes : ℕ) × (n : ℕ) × Close sizes context nodes source program (in_core world e n) (in_code world e' k)
    split_between k world e e' i =
        let x = enters_alike world e e' i in
        let y = first_between k (x.0) (core.enters source context world e) (code.enters program context world e') (x.1) in
        (x.0, y.0, y.1)

    -- where the source never breaks, the code does not
    not_broken : (nodes : ℕ) (x : Stand core.State core.Waiting) (w d : ℕ) (o : List Bytes) (wd : World) → IsWhole x → Ended sizes context nodes source program x (Over w d o wd Breaks) → ⊥
    not_broken nodes (Still w1 d1 o1 wd1 s) w d o wd u h = h
    not_broken nodes (Over w1 d1 o1 wd1 Breaks) w d o wd u h = u
    not_broken nodes (Over w1 d1 o1 wd1 (Replies v)) w d o wd u h = let z : Breaks ≡ Replies v = h.fits in absurd (let y = z in cc)
    not_broken nodes (Over w1 d1 o1 wd1 (Rejects v)) w d o wd u h = let z : Breaks ≡ Rejects v = h.fits in absurd (let y = z in cc)
    not_broken nodes (Over w1 d1 o1 wd1 (Traps v)) w d o wd u h = let z : Breaks ≡ Traps v = h.fits in absurd (let y = z in cc)
    not_broken nodes (Over w1 d1 o1 wd1 (Waits i v)) w d o wd u h = let z : Breaks ≡ Waits i (h.fits.0) = h.fits.1 in absurd (let y = z in cc)

    pub split_safe : (world : World) (e : Entry core.Waiting) (e' : Entry code.Waiting) → Entries e e' → ((n : ℕ) → IsWhole (in_core world e n)) → (m : ℕ) → IsWhole (in_code world e' m)
    split_safe world e e' i u m = on (in_code world e' m) refl
      where
        on : (y : Stand code.State code.Waiting) → in_code world e' m ≡ y → IsWhole y
        on (Still w d o wd t) z = tt
        on (Over w d o wd Breaks) z = let b = split_back world e e' i m w d o wd Breaks z in absurd (not_broken (b.0) (in_core world e (b.1)) w d o wd (u (b.1)) (b.2))
        on (Over w d o wd (Replies v)) z = tt
        on (Over w d o wd (Rejects v)) z = tt
        on (Over w d o wd (Traps v)) z = tt
        on (Over w d o wd (Waits j v)) z = tt

  -- ---- what waits afterwards goes on alike

  module _ (nested : Nested source) (world : World) where
    methods_nested : (ms : List (Method exp.Body)) (m : ℕ) (x : Method exp.Body) → NestedMethods ms → slice_get ms m ≡ Some x → nest x.body.expression ≤ x.body.nodes
    methods_nested [] m x n e = absurd (let z : None ≡ Some x = e in cc)
    methods_nested (y ∷ ms) zero x n e = subst (λ (x : Method exp.Body). nest x.body.expression ≤ x.body.nodes) (let z : y ≡ x = cc in z) (n.0)
    methods_nested (y ∷ ms) (suc m) x n e = methods_nested ms m x (n.1) e

    begin_k : (m : ℕ) (caller : Bytes) (vs : List Value) (o : Option (Method exp.Body)) → slice_get source.methods m ≡ o
        → (nodes : ℕ) × Kept nodes (on_some (core.stuck source context 0 world) o (λ method. core.begins source context world (2 + length caller) method.body (call_context caller ∷ vs)))
    begin_k m caller vs None e = (0, tt)
    begin_k m caller vs (Some x) e = (x.body.nodes, begins_k x.body.nodes source context world (2 + length caller) x.body (call_context caller ∷ vs) refl (methods_nested source.methods m x nested.methods e))

    entry_k : (e : Entry core.Waiting) (e' : Entry code.Waiting) → Entries e e' → (nodes : ℕ) × Kept nodes (core.enters source context world e)
    entry_k (Begins m caller vs) e' i = begin_k m caller vs (slice_get source.methods m) refl
    entry_k (Resumes x o) e' i = (x.nodes, answer_k x.nodes source context world x.stack o (i.4))
    entry_k Saves e' i = (source.save.nodes, begins_k source.save.nodes source context world 0 source.save [] refl nested.save)
    entry_k (Starts kept upgraded) e' i = (source.start.nodes, begins_k source.start.nodes source context world 0 source.start (kept ++ flag_value upgraded ∷ []) refl nested.start)

    room_after : (e : Entry core.Waiting) (e' : Entry code.Waiting) → Entries e e' → (n : ℕ) → (nodes : ℕ) × Roomy nodes source context (in_core world e n)
    room_after e e' i n =
        let x = entry_k e e' i in
        (x.0, after_k (x.0) source context n 0 0 0 [] (core.enters source context world e) (x.1) (run_k (x.0) source context n))

    next_entry : (nodes : ℕ) (x : Stand core.State core.Waiting) (w d w2 d2 : ℕ) (o o2 : List Bytes) (wd wd2 : World) (on : Option ℕ) (s : core.Waiting) (e2 : End code.Waiting) → x ≡ Over w d o wd (Waits on s)
        → Roomy nodes source context x → (nodes2 k : ℕ) → Stands sizes context nodes2 source program 0 k x (Over w2 d2 o2 wd2 e2) → (v : code.Waiting) × (e2 ≡ Waits on v) × ((a : Given) → Entries (Resumes s a) (Resumes v a))
    next_entry nodes x w d w2 d2 o o2 wd wd2 on s e2 i r nodes2 k st =
        at (subst (Roomy nodes source context) i r) (subst (λ x. Stands sizes context nodes2 source program 0 k x (Over w2 d2 o2 wd2 e2)) i st)
      where
        at : Roomy nodes source context (Over w d o wd (Waits on s)) → Stands sizes context nodes2 source program 0 k (Over w d o wd (Waits on s)) (Over w2 d2 o2 wd2 e2)
            → (v : code.Waiting) × (e2 ≡ Waits on v) × ((a : Given) → Entries (Resumes s a) (Resumes v a))
        at r st =
            let f = st.fits in
            let same : nodes2 ≡ s.nodes = sym (f.2) in
            let room : nodes ≡ s.nodes = sym (r.0) in
            (f.0, f.1, λ a. (f.0, refl, subst (λ n. Suspended sizes context n source program s.stack (f.0)) same (f.3), subst (λ n. joined s.stack < n) room (r.1), subst (λ n. Room n s.stack 0) room (r.2)))

    -- where an execution waits, so does that of the code, and with the same answer both are entered again
    pub split_next : (e : Entry core.Waiting) (e' : Entry code.Waiting) → Entries e e' → (n w d w2 d2 : ℕ) (o o2 : List Bytes) (wd wd2 : World) (on : Option ℕ) (s : core.Waiting) (e2 : End code.Waiting)
        → in_core world e n ≡ Over w d o wd (Waits on s) → (nodes k : ℕ) → Stands sizes context nodes source program 0 k (in_core world e n) (Over w2 d2 o2 wd2 e2) → (v : code.Waiting) × (e2 ≡ Waits on v) × ((a : Given) → Entries (Resumes s a) (Resumes v a))
    split_next e e' i n w d w2 d2 o o2 wd wd2 on s e2 z nodes k st =
        let r = room_after e e' i n in
        next_entry (r.0) (in_core world e n) w d w2 d2 o o2 wd wd2 on s e2 z (r.1) nodes k st
