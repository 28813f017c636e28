-- A start of the actor of an elaborated program shows no more than that of the typed program, and ends as that does.
use Rattle.std.proofs.Common.{◌≡◌, ◌⊎◌, inl, inr, ℕ, suc, ◌+◌, ◌*◌, ◌≤◌, Bool, true, false, List, [], ◌∷◌, length, map, Option, Some, None, refl, sym, ap, ◌∙◌, subst, arith}
use Rattle.std.specs.Prelude.{max}
use Rattle.mo_types.specs.declared.node.Node.{Node}
use Rattle.mo_types.specs.declared.node.TypeId.{TypeId}
use Rattle.mo_types.specs.Graph.{head_at}
use Rattle.mo_values.specs.Shapes as shape
use Rattle.mo_values.specs.Shapes.{Bytes, Tuple}
use Rattle.mo_values.specs.Views.{tuple_of}
use Rattle.mo_actor.specs.Executions as actor_end
use Rattle.mo_actor.specs.Executions.{Completion, Completes, Progress}
use Rattle.core_ir.specs.Actor as core_actor
use Rattle.core_ir.specs.CoreMachine as core_machine
use Rattle.core_ir.specs.CoreMachine.{State, Waiting}
use Rattle.core_ir.specs.Choices.{on_some}
use Rattle.core_ir.specs.Executions as execution
use Rattle.core_ir.specs.Executions.{Stand}
use Rattle.core_ir.specs.Expressions.{Core}
use Rattle.core_ir.specs.Values as core_value
use Rattle.core_ir.specs.Worlds.{Context, World}
use Rattle.typed_tree.specs.Language as source
use Rattle.typed_tree.specs.Programs.{Program}
use Rattle.mo_meaning.specs.Coding.{Types, Coding}
use Rattle.mo_meaning.specs.Configurations.{Surroundings}
use Rattle.mo_meaning.specs.Depth.{live}
use Rattle.mo_meaning.specs.Saving.{alone}
use Rattle.mo_machine.specs.ActorLanguage.{Fields}
use Rattle.mo_machine.specs.Acts as acts
use Rattle.mo_machine.specs.Configurations as configuration
use Rattle.mo_machine.specs.Configurations.{Configuration, Breaks, Returns, Traps, End, Run, Still, Ended, live_state}
use Rattle.mo_machine.specs.Environments.{Environment}
use Rattle.mo_machine.specs.Frames as machine
use Rattle.mo_machine.specs.Frames.{Returning, Stack}
use Rattle.mo_machine.specs.Starting.{kept_value, outer_values}
use Rattle.mo_machine.specs.Jumps.{nodes_around}
use Rattle.mo_machine.specs.Reductions.{reduces}
use Rattle.mo_machine.specs.Turns.{step, steps}
use Rattle.mo_machine.specs.Values.{Values, Made}
use Rattle.elaboration.specs.Programs.{elaborated}
use Rattle.elaboration_values.specs.Belonging.{Known, Belongs, EachBelongs}
use Rattle.elaboration_steps.specs.Stacks.{owed}
use Rattle.elaboration_runs.specs.Ending.{Finish, Finishes, Returned, Thrown, Trapped, Suspended, Asleep, Covers}
use Rattle.elaboration_runs.specs.Whole as followed
use Rattle.elaboration_runs.specs.Whole.{Serves}
use Rattle.elaboration_runs.proofs.Ending.{IsDone, done, covers}
use Rattle.elaboration_runs.proofs.OneStep.{traps_off}
use Rattle.elaboration_runs.proofs.Whole.{executions}
use Rattle.elaboration_actors.specs.Bodies.{reached}
use Rattle.elaboration_starts.specs.Declarations.{DeclaresNothing, finish}
use Rattle.elaboration_starts.specs.Staying.{StaysAt}
use Rattle.elaboration_starts.specs.Starts.{CalledBehind, ActorStands}
use Rattle.elaboration_starts.proofs.Alongside.{Bases, conf, Pair, Both, Over, PastAt, plain_beside}
use Rattle.elaboration_starts.proofs.Closing.{Closes, Tells, Stops, closes_on, last_step, stopped}
use Rattle.elaboration_starts.proofs.Evaluating.{steps_and}
use Rattle.elaboration_starts.proofs.Leading.{leads_steps}
use Rattle.elaboration_starts.proofs.Serving.{owed_same, serves_same}
use Rattle.elaboration_starts.proofs.Exporting.{CallsNone}
use Rattle.elaboration_starts.proofs.Showing as showing
use Rattle.elaboration_starts.proofs.Starting as starting
use Rattle.elaboration_starts.proofs.Starting.{Pays, AtEnds, SoundFrom}
use Rattle.elaboration_starts.proofs.Tails as tails
use Rattle.elaboration_starts.proofs.Undeclared.{Reaches, reaches}
use Rattle.elaboration_starts.proofs.Called as called

abbrev ServesIf : Run → Type 0
ServesIf (Still c) = Serves c
ServesIf (Ended c end) = Unit {0}

module _ (times : ℕ) (enough : 3 ≤ times) (coding : Coding) (types : Types) (p : Program) (own : Bytes) (head_is : (elaborated p).head ≡ head_at types) (a : ActorStands p)
    (kept : List (Option source.Value)) (ws : List core_value.Value) (upgraded : Bool) (many : length kept ≡ length p.stable) (belongs : (known : List Known) → EachBelongs known (map kept_value kept) ws) where
  abbrev code : Core
  code = elaborated p

  abbrev s : Surroundings
  s = alone coding types own

  abbrev context : Context
  context = starting.context times enough coding types p own head_is a

  abbrev n : ℕ
  n = p.nodes

  abbrev X : Run → Progress Fields
  X = starting.X times enough coding types p own head_is a

  abbrev Y : Stand State Waiting → Progress core_actor.Fields
  Y = starting.Y times enough coding types p own head_is a

  abbrev env0 : Environment
  env0 = outer_values own p.methods kept

  module _ (extra floor x0 d0 : ℕ) (k0 : Stack) (base : Bases upgraded k0 (Returning n ∷ [])) (pays : x0 ≡ extra + n) (deep : max floor (live (a.named upgraded) + (16 + n + 0)) ≤ d0) (alive : live_state (machine.Eval p.body env0) k0 ≡ live (a.named upgraded) + (16 + n + 0))
      (serves : (j : ℕ) (c : Configuration) → steps s j (conf x0 d0 [] [] [] (machine.Eval p.body env0) k0) ≡ Still c → Serves c)
      (whole : (j : ℕ) (c : Configuration) → steps s j (conf x0 d0 [] [] [] (machine.Eval p.body env0) k0) ≡ Ended c Breaks → ⊥)
      (light : (j : ℕ) → 2 * (reached (steps s j (conf x0 d0 [] [] [] (machine.Eval p.body env0) k0))).weight + owed (reached (steps s j (conf x0 d0 [] [] [] (machine.Eval p.body env0) k0))).stack ≤ times * (reached (steps s j (conf x0 d0 [] [] [] (machine.Eval p.body env0) k0))).weight)
      (inside : (j : ℕ) (c : Configuration) → steps s j (conf x0 d0 [] [] [] (machine.Eval p.body env0) k0) ≡ Still c → StaysAt (head_at s.types) c.store c.focus c.stack) where
    abbrev c1 : Configuration
    c1 = conf x0 d0 [] [] [] (machine.Eval p.body env0) k0

    abbrev c' : ℕ → Configuration
    c' = starting.c' times enough coding types p own head_is a kept ws upgraded many belongs

    abbrev B : Progress Fields → Progress core_actor.Fields → Type 0
    B = Pays times enough coding types p own head_is a extra floor

    abbrev T : Configuration → Type 0
    T = starting.Tail times enough coding types p own head_is a kept ws upgraded many belongs extra floor c1

    sound : SoundFrom times enough coding types p own head_is a kept ws upgraded many belongs c1
    sound = record { serves = serves; whole = whole; light = light; inside = inside }

    -- behind the declarations
    tail : (t : AtEnds times enough coding types p own head_is a kept ws upgraded many belongs extra floor c1) → T (starting.ends_at times enough coding types p own head_is a kept ws upgraded many belongs extra floor c1 t a.after)
    tail t = by a.after refl a.upgraded
      where
        by : (o : Option ℕ) → a.after ≡ o → CalledBehind a.last o → T (starting.ends_at times enough coding types p own head_is a kept ws upgraded many belongs extra floor c1 t o)
        by None e k = tails.unhooked times enough coding types p own head_is a kept ws upgraded many belongs extra floor c1 t (subst (λ o. CallsNone upgraded o) (sym e) tt)
        by (Some h) e (f, there, plain) = which upgraded refl
          where
            which : (u : Bool) → upgraded ≡ u → T (conf t.w t.d' t.prints t.calls t.store (machine.Eval (finish a.last upgraded (Some h) a.total) t.env) t.l)
            which false q =
                subst (λ u. T (conf t.w t.d' t.prints t.calls t.store (machine.Eval (finish a.last u (Some h) a.total) t.env) t.l)) (sym q)
                (tails.installed times enough coding types p own head_is a kept ws upgraded many belongs extra floor c1 t (subst (λ o. CallsNone upgraded o) (sym e) (subst (λ u. CallsNone u (Some h)) (sym q) tt)) h)
            which true q =
                subst (λ u. T (conf t.w t.d' t.prints t.calls t.store (machine.Eval (finish a.last u (Some h) a.total) t.env) t.l)) (sym q)
                (called.upgraded_tail times enough coding types p own head_is a kept ws upgraded many belongs extra floor c1 t sound q h f there plain e)

    abbrev At : ℕ → Stand State Waiting
    At = starting.At times enough coding types p own head_is a kept ws upgraded many belongs

    -- Core shows no more than what its code is made of
    covered : (w0 : ℕ) → 1 + n ≤ 2 * w0 → ((j : ℕ) (c : Configuration) → steps s j (c' w0) ≡ Still c → Serves c) → ((j : ℕ) (c : Configuration) → steps s j (c' w0) ≡ Ended c Breaks → ⊥) → (k : ℕ) → (m : ℕ) × Covers code context n [] (steps s m (c' w0)) (At k)
    covered w0 paid serves_too whole_too k =
        covers code context n s head_is (starting.surrounded times enough coding types p own head_is a) (starting.accounted times enough coding types p own head_is a) 0 [] (c' w0) (1 + n) 0 [] (starting.world0 times enough coding types p own head_is a) (core_machine.Eval (starting.start times enough coding types p own head_is a kept ws upgraded many belongs) (starting.vals0 times enough coding types p own head_is a kept ws upgraded many belongs)) []
        (starting.together times enough coding types p own head_is a kept ws upgraded many belongs w0 paid) tt serves_too whole_too k

    -- the declarations have a node
    module _ (one : 1 ≤ n) where
      abbrev P2 : Run → Run → Type 0
      P2 = Pair s env0 (length p.methods) a.last a.before a.after a.labels a.cells a.total upgraded extra floor

      abbrev PA : ℕ → Type 0
      PA j = PastAt s env0 (length p.methods) a.last a.before a.after a.labels a.cells a.total upgraded extra floor j c1 (c' n)

      lock : (j : ℕ) → P2 (steps s j c1) (steps s j (c' n)) ⊎ PA j
      lock j = starting.lock times enough coding types p own head_is a kept ws upgraded many belongs one extra floor x0 d0 k0 base pays deep alive serves whole light inside j

      at_ends : (j : ℕ) → PA j → (t : AtEnds times enough coding types p own head_is a kept ws upgraded many belongs extra floor c1) × (rest : ℕ) × (steps s j (c' n) ≡ steps s rest (starting.ends_at times enough coding types p own head_is a kept ws upgraded many belongs extra floor c1 t a.after))
      at_ends j r = starting.at_ends times enough coding types p own head_is a kept ws upgraded many belongs one extra floor x0 d0 k0 base pays deep alive serves whole light inside j r

      serves_too : (j : ℕ) (c : Configuration) → steps s j (c' n) ≡ Still c → Serves c
      serves_too j c e = by (lock j)
        where
          paired : (u v : Run) → steps s j c1 ≡ u → v ≡ Still c → P2 u v → Serves c
          paired u v q i (Both x w d d' prints calls store f k g l paid le same lies) =
              subst ServesIf i (serves_same s env0 (length p.methods) a.last a.before a.after a.labels a.cells a.total upgraded extra floor w (conf x d prints calls store f k) (conf w d' prints calls store g l) lies (serves j (conf x d prints calls store f k) q))
          paired u v q i (Over x w d d' prints calls store f k g l end halts paid le same) = absurd (let z : Ended (conf w d' prints calls store g l) end ≡ Still c = i in cc)

          by : P2 (steps s j c1) (steps s j (c' n)) ⊎ PA j → Serves c
          by (inl r) = paired (steps s j c1) (steps s j (c' n)) refl e r
          by (inr r) = let t = at_ends j r in (tail (t.0)).serves (t.1) c (sym (t.2) ∙ e)

      whole_too : (j : ℕ) (c : Configuration) → steps s j (c' n) ≡ Ended c Breaks → ⊥
      whole_too j c e = by (lock j)
        where
          paired : (u v : Run) → steps s j c1 ≡ u → v ≡ Ended c Breaks → P2 u v → ⊥
          paired u v q i (Both x w d d' prints calls store f k g l paid le same lies) = let z : Still (conf w d' prints calls store g l) ≡ Ended c Breaks = i in cc
          paired u v q i (Over x w d d' prints calls store f k g l end halts paid le same) =
              let z : Ended (conf w d' prints calls store g l) end ≡ Ended c Breaks = i in
              let y : end ≡ Breaks = cc in
              whole j (conf x d prints calls store f k) (q ∙ ap (λ o. Ended (conf x d prints calls store f k) o) y)

          by : P2 (steps s j c1) (steps s j (c' n)) ⊎ PA j → ⊥
          by (inl r) = paired (steps s j c1) (steps s j (c' n)) refl e r
          by (inr r) = let t = at_ends j r in (tail (t.0)).whole (t.1) c (sym (t.2) ∙ e)

      paired_shown : (j : ℕ) (u v : Run) → steps s j c1 ≡ u → P2 u v → (y : Stand State Waiting) → Covers code context n [] v y → B (X u) (Y y)
      paired_shown j u v q (Both x w d d' prints calls store f k g l paid le same lies) y h =
          showing.both_shown times enough coding types p own head_is a extra floor x w d d' prints calls store f k g l (omega (arith, paid)) le (owed_same s env0 (length p.methods) a.last a.before a.after a.labels a.cells a.total upgraded extra floor w f k g l lies)
          (subst (λ (r : Run). 2 * (reached r).weight + owed (reached r).stack ≤ times * (reached r).weight) q (light j)) y h
      paired_shown j u v q (Over x w d d' prints calls store f k g l end halts paid le owes) y h =
          showing.ended_shown times enough coding types p own head_is a extra floor x w d d' prints calls store f k g l (omega (arith, paid)) le owes
          (subst (λ (r : Run). 2 * (reached r).weight + owed (reached r).stack ≤ times * (reached r).weight) q (light j)) end halts y h

      told_shown : (i : ℕ) → (m : ℕ) × B (X (steps s m c1)) (Y (At i))
      told_shown i = by (covered n (omega (arith, one)) serves_too whole_too i)
        where
          by : (m : ℕ) × Covers code context n [] (steps s m (c' n)) (At i) → (m : ℕ) × B (X (steps s m c1)) (Y (At i))
          by (m, h) = ways (lock m)
            where
              ways : P2 (steps s m c1) (steps s m (c' n)) ⊎ PA m → (m : ℕ) × B (X (steps s m c1)) (Y (At i))
              ways (inl r) = (m, paired_shown m (steps s m c1) (steps s m (c' n)) refl r (At i) h)
              ways (inr r) = let t = at_ends m r in (tail (t.0)).shown (t.1) (At i) (subst (λ x. Covers code context n [] x (At i)) (t.2) h)

    -- there are none
    module _ (none : DeclaresNothing p.body) where
      abbrev begun : Configuration
      begun = c' (suc n)

      comes : Reaches s env0 (length p.methods) a.last a.before a.after a.labels a.cells a.total upgraded extra floor x0 d0 (suc n) (live (a.named upgraded) + (16 + n + 0)) p.body (a.named upgraded) env0 k0 (Returning n ∷ [])
      comes = reaches s env0 (length p.methods) a.last a.before a.after a.labels a.cells a.total upgraded extra floor 0 p.body (a.named upgraded) (a.declares upgraded) none x0 d0 (suc n) (live (a.named upgraded) + (16 + n + 0)) env0 k0 (Returning n ∷ []) base (omega (arith, pays)) deep (let z : a.total ≤ p.nodes = a.names in omega (arith, z)) (record { values = []; many = refl; is = refl })

      ends : AtEnds times enough coding types p own head_is a kept ws upgraded many belongs extra floor c1
      ends = record {
        so_far = comes.groups;
        x = comes.x';
        w = comes.w';
        d = comes.d';
        d' = comes.e';
        prints = [];
        calls = [];
        store = [];
        env = comes.env';
        k = k0;
        l = Returning n ∷ [];
        paid = comes.paid;
        shallow = comes.shallow;
        few_names = comes.few;
        bases = base;
        under = comes.under;
        first = comes.real;
      }

      whole_tail : T begun
      unfolding ends
      whole_tail = tails.lead_tail times enough coding types p own head_is a kept ws upgraded many belongs extra floor c1 ends begun (starting.ends_at times enough coding types p own head_is a kept ws upgraded many belongs extra floor c1 ends a.after) comes.leads (tails.ends_early times enough coding types p own head_is a kept ws upgraded many belongs extra floor c1 ends a.after) (tail ends)

      none_shown : (i : ℕ) → (m : ℕ) × B (X (steps s m c1)) (Y (At i))
      none_shown i = let h = covered (suc n) (omega arith) whole_tail.serves whole_tail.whole i in whole_tail.shown (h.0) (At i) (h.1)

    either_shown : (1 ≤ n) ⊎ DeclaresNothing p.body → (i : ℕ) → (m : ℕ) × B (X (steps s m c1)) (Y (At i))
    either_shown (inl one) i = told_shown one i
    either_shown (inr none) i = none_shown none i

    -- after any number of steps of the run
    pub shown : (i : ℕ) → (m : ℕ) × B (X (steps s m c1)) (Y (starting.Started times enough coding types p own head_is a kept ws upgraded many belongs i))
    shown i = let r = either_shown a.nodes i in (r.0, subst (λ y. B (X (steps s (r.0) c1)) y) (sym (starting.same_shown times enough coding types p own head_is a kept ws upgraded many belongs i)) (r.1))

    -- ---- how it ends

    tail_closes : (t : AtEnds times enough coding types p own head_is a kept ws upgraded many belongs extra floor c1) → (m : ℕ) (d1 : Configuration) (end : End) → steps s m c1 ≡ Ended d1 end → Closes s (starting.ends_at times enough coding types p own head_is a kept ws upgraded many belongs extra floor c1 t a.after)
    tail_closes t m d1 end ends = by a.after refl a.upgraded
      where
        by : (o : Option ℕ) → a.after ≡ o → CalledBehind a.last o → Closes s (starting.ends_at times enough coding types p own head_is a kept ws upgraded many belongs extra floor c1 t o)
        by None e k = tails.unhooked_closes times enough coding types p own head_is a kept ws upgraded many belongs extra floor c1 t (subst (λ o. CallsNone upgraded o) (sym e) tt)
        by (Some h) e (f, there, plain) = which upgraded refl
          where
            which : (u : Bool) → upgraded ≡ u → Closes s (conf t.w t.d' t.prints t.calls t.store (machine.Eval (finish a.last upgraded (Some h) a.total) t.env) t.l)
            which false q =
                subst (λ u. Closes s (conf t.w t.d' t.prints t.calls t.store (machine.Eval (finish a.last u (Some h) a.total) t.env) t.l)) (sym q)
                (tails.installed_closes times enough coding types p own head_is a kept ws upgraded many belongs extra floor c1 t (subst (λ o. CallsNone upgraded o) (sym e) (subst (λ u. CallsNone u (Some h)) (sym q) tt)) h)
            which true q =
                subst (λ u. Closes s (conf t.w t.d' t.prints t.calls t.store (machine.Eval (finish a.last u (Some h) a.total) t.env) t.l)) (sym q)
                (called.upgraded_closes times enough coding types p own head_is a kept ws upgraded many belongs extra floor c1 t sound q h f there plain e m d1 end ends)

    module _ (one : 1 ≤ n) where
      past_closes : (j : ℕ) → PA one j → (m : ℕ) (d1 : Configuration) (end : End) → steps s m c1 ≡ Ended d1 end → Closes s (c' n)
      past_closes j r m d1 end ends =
          let t = starting.at_past times enough coding types p own head_is a kept ws upgraded many belongs one extra floor x0 d0 k0 base pays deep alive serves whole light inside j r in
          closes_on s r.so_far (c' n) (starting.ends_at times enough coding types p own head_is a kept ws upgraded many belongs extra floor c1 (t.0) a.after)
          (λ i. steps_and s r.so_far i (c' n) (starting.ends_at times enough coding types p own head_is a kept ws upgraded many belongs extra floor c1 (t.0) a.after) (t.1)) (tail_closes (t.0) m d1 end ends)

      trap_closes : (q : ℕ) (cl d2 : Configuration) (text : Bytes) → steps s q (c' n) ≡ Still cl → step s cl ≡ Ended d2 (Traps text) → (m : ℕ) (d1 : Configuration) (end : End) → steps s m c1 ≡ Ended d1 end → Closes s (c' n)
      trap_closes q cl d2 text e i m d1 end ends = by (steps s q c1) (steps s q (c' n)) refl e (lock one q)
        where
          paired : (u v : Run) → steps s q c1 ≡ u → v ≡ Still cl → P2 one u v → Closes s (c' n)
          paired u v r o (Both x w d d' prints calls store f k g l paid le same lies) =
              let same_one : conf w d' prints calls store g l ≡ cl = ap reached o in
              stopped s q (c' n) (conf w d' prints calls store g l) d2 text (e ∙ ap (λ c. Still c) (sym same_one)) (ap (step s) same_one ∙ i)
              (plain_beside s env0 (length p.methods) a.last a.before a.after a.labels a.cells a.total upgraded extra floor w store f k g l lies (inside q (conf x d prints calls store f k) r))
          paired u v r o (Over x w d d' prints calls store f k g l end halts paid le owes) = absurd (let z : Ended (conf w d' prints calls store g l) end ≡ Still cl = o in cc)

          by : (u v : Run) → steps s q c1 ≡ u → v ≡ Still cl → P2 one u v ⊎ PA one q → Closes s (c' n)
          by u v r o (inl h) = paired u v r o h
          by u v r o (inr h) = past_closes q h m d1 end ends

      closes : (m : ℕ) (d1 : Configuration) (end : End) → steps s m c1 ≡ Ended d1 end → Closes s (c' n)
      closes m d1 end ends = by (lock one m)
        where
          paired : (u v : Run) → steps s m c1 ≡ u → u ≡ Ended d1 end → steps s m (c' n) ≡ v → P2 one u v → Closes s (c' n)
          paired u v q r o (Both x w d d' prints calls store f k g l paid le same lies) = absurd (let z : Still (conf x d prints calls store f k) ≡ Ended d1 end = r in cc)
          paired u v q r o (Over x w d d' prints calls store f k g l (Traps text) halts paid le owes) =
              let h = last_step s m (c' n) (conf w d' prints calls store g l) (Traps text) o in trap_closes (h.0) (h.1) (conf w d' prints calls store g l) text (h.2) (h.3) m d1 end ends
          paired u v q r o (Over x w d d' prints calls store f k g l Breaks halts paid le owes) = absurd (whole m (conf x d prints calls store f k) q)
          paired u v q r o (Over x w d d' prints calls store f k g l _ halts paid le owes) = absurd halts

          by : P2 one (steps s m c1) (steps s m (c' n)) ⊎ PA one m → Closes s (c' n)
          by (inl h) = paired (steps s m c1) (steps s m (c' n)) refl ends refl h
          by (inr h) = past_closes m h m d1 end ends

    -- ---- so the run ends

    abbrev w0 : World
    w0 = starting.world0 times enough coding types p own head_is a

    abbrev f0 : core_machine.Focus
    f0 = core_machine.Eval (starting.start times enough coding types p own head_is a kept ws upgraded many belongs) (starting.vals0 times enough coding types p own head_is a kept ws upgraded many belongs)

    abbrev HasY : Type 0
    HasY = (k : ℕ) × (other : Completion core_actor.Fields) × ((Y (At k)).completion ≡ Some other)

    tells : (known : List Known) (w d : ℕ) (prints : List Bytes) (world : World) (r : Run) (last : execution.End Waiting) (d1 : Configuration) (vs : Values) → Finish code context n known w d prints world r last → r ≡ Ended d1 (Returns (Made Tuple vs)) → (other : Completion core_actor.Fields) × ((Y (execution.Over w d prints world last)).completion ≡ Some other)
    tells known w d prints world r last d1 vs (Returned c v u shows leaves value) i = told u (subst (λ v. Belongs known v u) (let z : Ended c (Returns v) ≡ Ended d1 (Returns (Made Tuple vs)) = i in let y : v ≡ Made Tuple vs = cc in y) value)
      where
        told : (u : core_value.Value) → Belongs known (Made Tuple vs) u → (other : Completion core_actor.Fields) × ((Y (execution.Over w d prints world (execution.Replies u))).completion ≡ Some other)
        told (shape.Function h) value = absurd value
        told (shape.Made head us) value =
            subst (λ o. (other : Completion core_actor.Fields) × (on_some None (tuple_of (shape.Made o us)) (λ names. Some (Completes (core_actor.fields_of (core_machine.core_machine code) (starting.messages times enough coding types p own head_is a) code world names))) ≡ Some other)) (value.0)
            (Completes (record { cells = world.store; groups = world.groups; names = shape.listed us }), refl)
    tells known w d prints world r last d1 vs (Thrown c error u shows leaves value) i = absurd (starting.no_value c error d1 (Made Tuple vs) i)
    tells known w d prints world r last d1 vs (Trapped c text shows) i = absurd (let z : Ended c (Traps text) ≡ Ended d1 (Returns (Made Tuple vs)) = i in cc)
    tells known w d prints world r last d1 vs (Suspended c call stack shows leaves stops) i = absurd (let z : Ended c (configuration.Suspends call (nodes_around 0 c.stack)) ≡ Ended d1 (Returns (Made Tuple vs)) = i in cc)
    tells known w d prints world r last d1 vs (Asleep c stack shows leaves) i = absurd (let z : Ended c configuration.Sleeps ≡ Ended d1 (Returns (Made Tuple vs)) = i in cc)

    core_ends : (w1 : ℕ) → 1 + n ≤ 2 * w1 → ((j : ℕ) (c : Configuration) → steps s j (c' w1) ≡ Still c → Serves c) → ((j : ℕ) (c : Configuration) → steps s j (c' w1) ≡ Ended c Breaks → ⊥) → Closes s (c' w1) → HasY
    core_ends w1 paid serves_too whole_too (Tells i d1 vs e) =
        let q : IsDone code context n s head_is (starting.surrounded times enough coding types p own head_is a) (starting.accounted times enough coding types p own head_is a) [] (1 + n) 0 [] w0 f0 [] (steps s i (c' w1)) =
        done code context n s head_is (starting.surrounded times enough coding types p own head_is a) (starting.accounted times enough coding types p own head_is a) i 0 [] (c' w1) (1 + n) 0 [] w0 f0 [] (starting.together times enough coding types p own head_is a kept ws upgraded many belongs w1 paid) tt serves_too whole_too in
        let fin : Finishes code context n [] (1 + n) 0 [] w0 f0 [] (Ended d1 (Returns (Made Tuple vs))) = subst (λ r. IsDone code context n s head_is (starting.surrounded times enough coding types p own head_is a) (starting.accounted times enough coding types p own head_is a) [] (1 + n) 0 [] w0 f0 [] r) e q in
        let z = tells fin.known' fin.weight' fin.depth' fin.prints' fin.world' (Ended d1 (Returns (Made Tuple vs))) fin.end d1 vs fin.finish refl in
        (fin.steps + 0, z.0, ap (λ y. (Y y).completion) (fin.by 0) ∙ z.1)
    core_ends w1 paid serves_too whole_too (Stops i d1 cost text e r) =
        let q : followed.Reaches code context n [] (1 + n) 0 [] w0 f0 [] d1 =
        executions code context n s head_is (starting.surrounded times enough coding types p own head_is a) (starting.accounted times enough coding types p own head_is a) i 0 [] (c' w1) (1 + n) 0 [] w0 f0 [] (starting.together times enough coding types p own head_is a kept ws upgraded many belongs w1 paid) tt serves_too d1 e in
        let o = traps_off code context n s head_is (starting.surrounded times enough coding types p own head_is a) (starting.accounted times enough coding types p own head_is a) q.held' q.known' d1 q.weight' q.depth' q.prints' q.world' q.f' q.k' q.together q.calls (serves_too i d1 e) cost text
        (subst (λ (h : TypeId → Node TypeId). reduces h None d1.store d1.focus d1.stack ≡ acts.Traps cost text) (sym head_is) r) in
        (q.steps + (o.0.steps + 0), actor_end.Traps text, ap (λ y. (Y y).completion) (q.by (o.0.steps + 0) ∙ o.0.by 0) ∙ ap (λ end. (Y (execution.Over o.0.weight' o.0.depth' o.0.prints' o.0.world' end)).completion) o.1)

    -- where the typed start has ended, Core's has
    pub run_ends : (m : ℕ) (d1 : Configuration) (end : End) → steps s m c1 ≡ Ended d1 end → (k : ℕ) × (other : Completion core_actor.Fields) × ((Y (starting.Started times enough coding types p own head_is a kept ws upgraded many belongs k)).completion ≡ Some other)
    unfolding ends
    run_ends m d1 end e =
        let r = either a.nodes in (r.0, r.1, subst (λ y. y.completion ≡ Some (r.1)) (sym (starting.same_shown times enough coding types p own head_is a kept ws upgraded many belongs (r.0))) (r.2))
      where
        either : (1 ≤ n) ⊎ DeclaresNothing p.body → HasY
        either (inl one) = core_ends n (omega (arith, one)) (serves_too one) (whole_too one) (closes one m d1 end e)
        either (inr none) =
            let t : AtEnds times enough coding types p own head_is a kept ws upgraded many belongs extra floor c1 = ends none in
            let l = leads_steps s (begun none) (starting.ends_at times enough coding types p own head_is a kept ws upgraded many belongs extra floor c1 t a.after) (comes none).leads in
            core_ends (suc n) (omega arith) (whole_tail none).serves (whole_tail none).whole
            (closes_on s (l.0) (begun none) (starting.ends_at times enough coding types p own head_is a kept ws upgraded many belongs extra floor c1 t a.after) (l.1) (tail_closes t m d1 end e))
