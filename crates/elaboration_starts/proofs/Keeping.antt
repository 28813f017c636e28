-- Saves are followed, with a hook and without one.
use Rattle.std.proofs.Common.{◌≡◌, ◌⊎◌, inl, inr, ℕ, zero, suc, ◌+◌, ◌*◌, ◌≤◌, false, List, [], ◌∷◌, ◌++◌, length, Some, None, refl, sym, ap, ◌∙◌, subst, arith}
use Rattle.std.specs.Prelude.{max}
use Rattle.std.proofs.Math.Nat.{mul-le-mul_right}
use Rattle.mo_types.specs.declared.node.Node.{Node}
use Rattle.mo_types.specs.declared.node.TypeId.{TypeId}
use Rattle.mo_types.specs.Graph.{head_at}
use Rattle.mo_values.specs.Costs.{Cost, weighing}
use Rattle.mo_values.specs.Shapes.{Bytes, Tuple}
use Rattle.mo_actor.specs.Executions.{Completion, Progress}
use Rattle.mo_actor.specs.Executions as actor_end
use Rattle.mo_actor.specs.Results.{IsPrefix}
use Rattle.core_ir.specs.Actor as core_actor
use Rattle.core_ir.specs.CoreMachine as core_machine
use Rattle.core_ir.specs.CoreMachine.{State, Waiting}
use Rattle.core_ir.specs.Executions as execution
use Rattle.core_ir.specs.Executions.{Stand}
use Rattle.core_ir.specs.Expressions.{Core}
use Rattle.core_ir.specs.Values as core_value
use Rattle.core_ir.specs.Worlds.{World}
use Rattle.typed_tree.specs.declared.action.Action.TheVariants as action
use Rattle.typed_tree.specs.Language as source
use Rattle.typed_tree.specs.Language.{Exp, Functions}
use Rattle.typed_tree.specs.Patterns.{Wildcard, NoPat}
use Rattle.typed_tree.specs.Programs.{Program}
use Rattle.mo_meaning.specs.Coding.{Types, Coding}
use Rattle.mo_meaning.specs.Configurations.{Surroundings}
use Rattle.mo_meaning.specs.Depth.{live, live_all}
use Rattle.mo_meaning.specs.Kernel.{Kept, Outgoing}
use Rattle.mo_machine.specs.Values.{Value, Made, Closure, unit}
use Rattle.mo_machine.specs.Acts as acts
use Rattle.mo_machine.specs.Acts.{Store, Goes, Stuck, goes}
use Rattle.mo_machine.specs.ActorLanguage.{Fields}
use Rattle.mo_machine.specs.Bodies.{beginning}
use Rattle.mo_machine.specs.Configurations.{Configuration, Returns, Traps, Breaks, Run, Still, Ended, End, live_on, live_state}
use Rattle.mo_machine.specs.Configurations as configuration
use Rattle.mo_machine.specs.Environments.{Environment, with_group}
use Rattle.mo_machine.specs.Exports.{before_upgrade}
use Rattle.mo_machine.specs.Frames as machine
use Rattle.mo_machine.specs.Frames.{Switching, Returning, Labelled, Joining, Stack}
use Rattle.mo_machine.specs.Jumps.{leave, on_stack, nodes_around}
use Rattle.mo_machine.specs.Reductions.{reduces}
use Rattle.mo_machine.specs.Starting.{hook}
use Rattle.mo_machine.specs.Turns.{turn, step, steps, turns, then_steps}
use Rattle.elaboration.specs.Programs.{outside}
use Rattle.elaboration_forms.specs.Elaborates.{Elaborates}
use Rattle.elaboration_values.specs.Belonging.{Known, Belongs}
use Rattle.elaboration_steps.specs.Stacks.{no_labels, owed, Bottom, AtCode, Here}
use Rattle.elaboration_steps.specs.Follows.{Suits}
use Rattle.elaboration_runs.specs.Ending.{Shows, Finish, Finishes, Returned, Thrown, Trapped, Suspended, Asleep, Covers}
use Rattle.elaboration_runs.specs.Entering.{Function, function_in}
use Rattle.elaboration_runs.specs.Together.{Together}
use Rattle.elaboration_runs.specs.Whole.{Serves, Reaches}
use Rattle.elaboration_runs.proofs.Ending.{IsDone, done, covers}
use Rattle.elaboration_runs.proofs.OneStep.{traps_off}
use Rattle.elaboration_runs.proofs.Whole.{executions}
use Rattle.elaboration_actors.specs.Actors.{globals}
use Rattle.elaboration_actors.specs.Bodies.{reached, Alike, Going, Same, ShownWhole, Follows, FieldsBelong}
use Rattle.elaboration_actors.proofs.Turns.{turns_for, ended_by}
use Rattle.elaboration_actors.specs.Ends.{HasEnd, EndsToo}
use Rattle.elaboration_actors.specs.Saving.{reads_of, reading, hooked, SavingBelongs}
use Rattle.elaboration_starts.specs.Saves.{SaveIsSound, SavesFollow, SavesEnd}
use Rattle.elaboration_starts.proofs.Alongside.{Alone, Joined, conf, Halts}
use Rattle.elaboration_starts.proofs.Calm.{ends_once}
use Rattle.elaboration_starts.proofs.Closing.{Closes, Tells, Stops, last_step, stopped}
use Rattle.elaboration_starts.proofs.Evaluating.{steps_and}
use Rattle.elaboration_starts.proofs.Exporting.{hook_called}
use Rattle.elaboration_starts.proofs.Hooking as hooking
use Rattle.elaboration_starts.proofs.Hooking.{Pair, Both, Over, Past, Left}
use Rattle.elaboration_starts.proofs.Reading.{reads_live}
use Rattle.elaboration_starts.proofs.Saves as saves
use Rattle.elaboration_starts.proofs.Serving.{handlers, ready_suits, value_suits}
use Rattle.elaboration_starts.proofs.Starting.{no_value, rejection}

-- two parts, of which the first is no less
halves : (n : ℕ) → (e : ℕ) × (f : ℕ) × (e + f ≡ n) × (n ≤ 2 * e) × (2 * e ≤ suc n)
halves zero = (0, 0, refl, omega arith, omega arith)
halves (suc n) = by (halves n)
  where
    by : (e : ℕ) × (f : ℕ) × (e + f ≡ n) × (n ≤ 2 * e) × (2 * e ≤ suc n) → (e : ℕ) × (f : ℕ) × (e + f ≡ suc n) × (suc n ≤ 2 * e) × (2 * e ≤ suc (suc n))
    by (e, f, is, enough, few) = (suc f, e, omega (arith, is), omega (arith, is, few), omega (arith, is, enough))

module _ (times : ℕ) (enough : 3 ≤ times) (coding : Coding) (types : Types) (p : Program) (program : Core) (own : Bytes) (head_is : program.head ≡ head_at types) (known : List Known) (f : Fields) (g : core_actor.Fields)
    (fields : FieldsBelong program g.names (globals program own g.names) known f g) (b : SavingBelongs p program known (globals program own g.names) f.exports) (sound : SaveIsSound times coding types p own f) where
  abbrev s : Surroundings
  s = saves.s times enough coding types p program own head_is known f g fields b sound

  abbrev c0 : Configuration
  c0 = saves.c0 times enough coding types p program own head_is known f g fields b sound

  abbrev n : ℕ
  n = b.nodes

  abbrev many : ℕ
  many = length p.stable

  abbrev X : Run → Progress Kept
  X = saves.X times enough coding types p program own head_is known f g fields b sound

  abbrev Y : Stand State Waiting → Progress Kept
  Y = saves.Y times enough coding types p program own head_is known f g fields b sound

  abbrev Pays : Progress Kept → Progress Kept → Type 0
  Pays = saves.Pays times enough coding types p program own head_is known f g fields b sound

  abbrev At : ℕ → Stand State Waiting
  At = saves.At times enough coding types p program own head_is known f g fields b sound

  abbrev Cov : Run → Stand State Waiting → Type 0
  Cov = Covers program (saves.context times enough coding types p program own head_is known f g fields b sound) n known

  abbrev HasY : Type 0
  HasY = (k : ℕ) × (other : Completion Kept) × ((Y (At k)).completion ≡ Some other)

  -- ---- the execution of what Core's code is made of

  module _ (e : Exp) (w0 d0 : ℕ) (code : Elaborates program.groups false (outside b.places) e b.code) (light : 1 + n ≤ 2 * w0) (low : live e + (16 + n + 0) ≤ d0) where
    abbrev c' : Configuration
    c' = conf w0 d0 [] [] f.cells (machine.Eval e b.env) (Returning n ∷ [])

    together : Together program (saves.context times enough coding types p program own head_is known f g fields b sound) n 0 known c' (1 + n) 0 [] (saves.world0 times enough coding types p program own head_is known f g fields b sound) (core_machine.Eval b.code []) []
    together = record {
      prints_are = refl;
      light = omega (arith, light);
      shallow = omega arith;
      within = omega (arith, low);
      deep = omega (arith, low);
      stands = Here f.cells (machine.Eval e b.env) (Returning n ∷ []) (core_machine.Eval b.code []) [] (record { cells = fields.cells; groups = fields.groups })
          (AtCode false no_labels e b.env (Returning n ∷ []) b.code [] [] (record { places = b.places; code = code; names = b.names_belong }) (Bottom false 0 [] tt));
    }

    covered : ((j : ℕ) (c : Configuration) → steps s j c' ≡ Still c → Serves c) → ((j : ℕ) (c : Configuration) → steps s j c' ≡ Ended c Breaks → ⊥) → (k : ℕ) → (m : ℕ) × Cov (steps s m c') (At k)
    covered serves whole k = covers program (saves.context times enough coding types p program own head_is known f g fields b sound) n s head_is (saves.surrounded times enough coding types p program own head_is known f g fields b sound) (saves.accounted times enough coding types p program own head_is known f g fields b sound) 0 known c' (1 + n) 0 [] (saves.world0 times enough coding types p program own head_is known f g fields b sound) (core_machine.Eval b.code []) [] together tt serves whole k

    -- ---- so the run ends

    abbrev Y-told : Value → Type 0
    Y-told v = (known' : List Known) (wy dy : ℕ) (py : List Bytes) (wo : World) (u : core_value.Value) → Belongs known' v u → (other : Completion Kept) × ((Y (execution.Over wy dy py wo (execution.Replies u))).completion ≡ Some other)

    abbrev Start0 : core_machine.Focus
    Start0 = core_machine.Eval b.code []

    by_end : (known' : List Known) (wy dy : ℕ) (py : List Bytes) (wo : World) (r : Run) (last : execution.End Waiting) (d1 : Configuration) (v : Value) → Finish program (saves.context times enough coding types p program own head_is known f g fields b sound) n known' wy dy py wo r last → r ≡ Ended d1 (Returns v) → Y-told v → (other : Completion Kept) × ((Y (execution.Over wy dy py wo last)).completion ≡ Some other)
    by_end known' wy dy py wo r last d1 v (Returned c u0 u shows leaves value) i told = told known' wy dy py wo u (subst (λ v. Belongs known' v u) (let z : Ended c (Returns u0) ≡ Ended d1 (Returns v) = i in let y : u0 ≡ v = cc in y) value)
    by_end known' wy dy py wo r last d1 v (Thrown c error u shows leaves value) i told = absurd (no_value c error d1 v i)
    by_end known' wy dy py wo r last d1 v (Trapped c text shows) i told = absurd (let z : Ended c (Traps text) ≡ Ended d1 (Returns v) = i in cc)
    by_end known' wy dy py wo r last d1 v (Suspended c call stack shows leaves stops) i told = absurd (let z : Ended c (configuration.Suspends call (nodes_around 0 c.stack)) ≡ Ended d1 (Returns v) = i in cc)
    by_end known' wy dy py wo r last d1 v (Asleep c stack shows leaves) i told = absurd (let z : Ended c configuration.Sleeps ≡ Ended d1 (Returns v) = i in cc)

    core_tells : ((j : ℕ) (c : Configuration) → steps s j c' ≡ Still c → Serves c) → ((j : ℕ) (c : Configuration) → steps s j c' ≡ Ended c Breaks → ⊥) → (i : ℕ) (d1 : Configuration) (v : Value) → steps s i c' ≡ Ended d1 (Returns v) → Y-told v → HasY
    core_tells serves whole i d1 v e told =
        let q : IsDone program (saves.context times enough coding types p program own head_is known f g fields b sound) n s head_is (saves.surrounded times enough coding types p program own head_is known f g fields b sound) (saves.accounted times enough coding types p program own head_is known f g fields b sound) known (1 + n) 0 [] (saves.world0 times enough coding types p program own head_is known f g fields b sound) Start0 [] (steps s i c') =
        done program (saves.context times enough coding types p program own head_is known f g fields b sound) n s head_is (saves.surrounded times enough coding types p program own head_is known f g fields b sound) (saves.accounted times enough coding types p program own head_is known f g fields b sound) i 0 known c' (1 + n) 0 [] (saves.world0 times enough coding types p program own head_is known f g fields b sound) Start0 [] together tt serves whole in
        let fin : Finishes program (saves.context times enough coding types p program own head_is known f g fields b sound) n known (1 + n) 0 [] (saves.world0 times enough coding types p program own head_is known f g fields b sound) Start0 [] (Ended d1 (Returns v)) = subst (λ r. IsDone program (saves.context times enough coding types p program own head_is known f g fields b sound) n s head_is (saves.surrounded times enough coding types p program own head_is known f g fields b sound) (saves.accounted times enough coding types p program own head_is known f g fields b sound) known (1 + n) 0 [] (saves.world0 times enough coding types p program own head_is known f g fields b sound) Start0 [] r) e q in
        let z = by_end fin.known' fin.weight' fin.depth' fin.prints' fin.world' (Ended d1 (Returns v)) fin.end d1 v fin.finish refl told in
        (fin.steps + 0, z.0, ap (λ y. (Y y).completion) (fin.by 0) ∙ z.1)

    core_stops : ((j : ℕ) (c : Configuration) → steps s j c' ≡ Still c → Serves c) → (i : ℕ) (d1 : Configuration) (cost : Cost) (text : Bytes) → steps s i c' ≡ Still d1 → reduces (head_at s.types) None d1.store d1.focus d1.stack ≡ acts.Traps cost text → HasY
    core_stops serves i d1 cost text e r =
        let q : Reaches program (saves.context times enough coding types p program own head_is known f g fields b sound) n known (1 + n) 0 [] (saves.world0 times enough coding types p program own head_is known f g fields b sound) Start0 [] d1 =
        executions program (saves.context times enough coding types p program own head_is known f g fields b sound) n s head_is (saves.surrounded times enough coding types p program own head_is known f g fields b sound) (saves.accounted times enough coding types p program own head_is known f g fields b sound) i 0 known c' (1 + n) 0 [] (saves.world0 times enough coding types p program own head_is known f g fields b sound) Start0 [] together tt serves d1 e in
        let o = traps_off program (saves.context times enough coding types p program own head_is known f g fields b sound) n s head_is (saves.surrounded times enough coding types p program own head_is known f g fields b sound) (saves.accounted times enough coding types p program own head_is known f g fields b sound) q.held' q.known' d1 q.weight' q.depth' q.prints' q.world' q.f' q.k' q.together q.calls (serves i d1 e) cost text
        (subst (λ (h : TypeId → Node TypeId). reduces h None d1.store d1.focus d1.stack ≡ acts.Traps cost text) (sym head_is) r) in
        (q.steps + (o.0.steps + 0), actor_end.Traps text, ap (λ y. (Y y).completion) (q.by (o.0.steps + 0) ∙ o.0.by 0) ∙ ap (λ end. (Y (execution.Over o.0.weight' o.0.depth' o.0.prints' o.0.world' end)).completion) o.1)

  -- ---- by turns

  by_turns : (r r' : Run) (y : Progress Kept) → Alike r r' → Pays (X r') y → Pays (X r) y
  by_turns r r' y (Same o) h = h
  by_turns r r' y (Going c d w e q) h = record {
    begun = subst (λ ps. IsPrefix y.prints ps) (sym q) h.begun;
    whole = subst (λ ps. ShownWhole times (λ (k : Kept) (l : Kept). l ≡ k) ps y.prints y.completion) (sym q) h.whole;
    weight = subst (λ n. y.weight ≤ times * n) (sym w) h.weight;
    depth = subst (λ n. y.depth ≤ n) (sym e) h.depth;
    completion = h.completion;
  }

  follows_by : ((k : ℕ) → (m : ℕ) × Pays (X (steps s m c0)) (Y (At k))) → Follows times (λ (k : Kept) (l : Kept). l ≡ k) (λ k. X (turns s k c0)) (core_actor.save (saves.M times enough coding types p program own head_is known f g fields b sound) (saves.messages times enough coding types p program own head_is known f g fields b sound) program own g)
  follows_by go zero = (0, record { begun = ([], refl); whole = tt; weight = omega arith; depth = omega arith; completion = tt })
  follows_by go (suc k) =
      let h = go k in
      let t = turns_for s (h.0) c0 in (
        t.0,
        subst (λ y. Pays (X (turns s (t.0) c0)) (Y y)) (sym (saves.saves_as times enough coding types p program own head_is known f g fields b sound k)) (by_turns (turns s (t.0) c0) (steps s (h.0) c0) (Y (At k)) (t.1) (h.1)),
      )

  -- ---- without a hook

  module _ (none : before_upgrade f.exports ≡ None) (small : n ≡ many) (code : Elaborates program.groups false (outside b.places) (reading b.cells) b.code) where
    abbrev deep_none : ℕ
    deep_none = max (max (live_state (machine.Give unit) (Returning many ∷ [])) (live_state (machine.Give unit) (Returning many ∷ []) + 16 * 0)) (live_state (machine.Give unit) [])

    ends : steps s 2 c0 ≡ Ended (conf (many + 1) deep_none [] [] f.cells (machine.Give unit) []) (Returns unit)
    ends = ap (λ o. steps s 2 (beginning many f.cells (hook o) (Returning many ∷ []))) none

    -- half of what is paid at the start pays for it
    half : (e : ℕ) × (f : ℕ) × (e + f ≡ many) × (many ≤ 2 * e) × (2 * e ≤ suc many)
    half = halves many

    abbrev least : ℕ
    least = half.0 + 1

    rich : 2 * (least + (many + (2 + many)) + 1) ≤ 3 * (many + 1) + 2 * many + 8
    rich = let z : 2 * half.0 ≤ suc many = half.4 in omega (arith, z)

    deep : max (16 + n + 0) (live_on (Returning n ∷ [])) ≤ deep_none
    deep = omega (arith, small)

    plainly : Follows times (λ (k : Kept) (l : Kept). l ≡ k) (λ k. X (turns s k c0)) (core_actor.save (saves.M times enough coding types p program own head_is known f g fields b sound) (saves.messages times enough coding types p program own head_is known f g fields b sound) program own g)
    plainly = follows_by (λ k.
        let h = covered (reading b.cells) least (16 + n + 0) code (let z : many ≤ 2 * half.0 = half.3 in omega (arith, small, z)) (let z : live_all (reads_of b.cells) ≡ 0 = reads_live b.cells in omega (arith, z))
        (λ j c e. saves.tail_serves times enough coding types p program own head_is known f g fields b sound 2 (many + 1) deep_none [] [] f.cells unit ends least (16 + n + 0) (Returning n ∷ []) (Returning n ∷ []) (Alone n) rich deep j c e)
        (λ j c e. saves.tail_whole times enough coding types p program own head_is known f g fields b sound 2 (many + 1) deep_none [] [] f.cells unit ends least (16 + n + 0) (Returning n ∷ []) (Returning n ∷ []) (Alone n) rich deep j c e) k in
        (2, saves.x_at times enough coding types p program own head_is known f g fields b sound 2 (many + 1) deep_none [] [] f.cells unit ends (At k) (saves.tail_shown times enough coding types p program own head_is known f g fields b sound 2 (many + 1) deep_none [] [] f.cells unit ends least (16 + n + 0) (Returning n ∷ []) (Returning n ∷ []) (Alone n) rich deep (h.0) (At k) (h.1))))

    plainly_ends : HasY
    plainly_ends =
        let t = saves.tail_tells times enough coding types p program own head_is known f g fields b sound 2 (many + 1) deep_none [] [] f.cells unit ends least (16 + n + 0) (Returning n ∷ []) (Returning n ∷ []) (Alone n) rich deep in
        core_tells (reading b.cells) least (16 + n + 0) code (let z : many ≤ 2 * half.0 = half.3 in omega (arith, small, z)) (let z : live_all (reads_of b.cells) ≡ 0 = reads_live b.cells in omega (arith, z))
        (λ j c e. saves.tail_serves times enough coding types p program own head_is known f g fields b sound 2 (many + 1) deep_none [] [] f.cells unit ends least (16 + n + 0) (Returning n ∷ []) (Returning n ∷ []) (Alone n) rich deep j c e) (λ j c e. saves.tail_whole times enough coding types p program own head_is known f g fields b sound 2 (many + 1) deep_none [] [] f.cells unit ends least (16 + n + 0) (Returning n ∷ []) (Returning n ∷ []) (Alone n) rich deep j c e)
        (t.0) (t.1) (saves.tuple times enough coding types p program own head_is known f g fields b sound 2 (many + 1) deep_none [] [] f.cells unit ends least (16 + n + 0) (Returning n ∷ []) (Returning n ∷ []) (Alone n) rich deep) (t.2) (λ known' wy dy py wo u value. saves.told times enough coding types p program own head_is known f g fields b sound 2 (many + 1) deep_none [] [] f.cells unit ends least (16 + n + 0) (Returning n ∷ []) (Returning n ∷ []) (Alone n) rich deep known' wy dy py wo u value)

  -- ---- with one

  module _ (fns : Functions) (h : ℕ) (around : Environment) (fn : Function) (some : before_upgrade f.exports ≡ Some (Closure fns h around)) (env_is : b.env ≡ with_group fns around) (there : function_in fns h ≡ Some fn) (plain : fn.parameters ≡ NoPat) (nodes_are : n ≡ many + fn.nodes) (any : 1 ≤ fn.nodes)
      (code : Elaborates program.groups false (outside b.places) (hooked fn.body b.cells) b.code) where
    pub small : n ≤ 16 + (fn.nodes + many)
    small = omega (arith, nodes_are)

    pub parts : (e : ℕ) × (f : ℕ) × (e + f ≡ many) × (many ≤ 2 * e) × (2 * e ≤ suc many)
    parts = halves many

    -- half of what the stable variables pay is paid on both sides
    abbrev w0 : ℕ
    w0 = parts.0 + fn.nodes

    abbrev extra : ℕ
    extra = suc (parts.1)

    abbrev rest : Stack
    rest = Returning many ∷ []

    abbrev one : Stack
    one = Returning fn.nodes ∷ rest

    abbrev next : Stack
    next = Switching (source.ACase Wildcard (reading b.cells) source.NoCase) b.env ∷ Returning n ∷ []

    abbrev two : Stack
    two = Labelled ∷ next

    leaves_one : (store : Store) (v : Value) → leave store 0 v one ≡ goes store (machine.Give v) rest
    leaves_one store v = refl

    leaves_two : (store : Store) (v : Value) → leave store 0 v two ≡ goes store (machine.Give v) next
    leaves_two store v = refl

    stays_one : (store : Store) (l : ℕ) (v : Value) → leave store (suc l) v one ≡ Stuck
    stays_one store l v = refl

    gives_one : (w d : ℕ) (prints : List Bytes) (calls : List Outgoing) (store : Store) (v : Value) → step s (conf w d prints calls store (machine.Give v) one) ≡ Still (conf (w + 1) (max (max d (live_state (machine.Give v) one + 16 * 0)) (live_state (machine.Give v) rest)) prints calls store (machine.Give v) rest)
    gives_one w d prints calls store v = refl

    gives_two : (w d : ℕ) (prints : List Bytes) (calls : List Outgoing) (store : Store) (v : Value) → step s (conf w d prints calls store (machine.Give v) two) ≡ Still (conf (w + 1) (max (max d (live_state (machine.Give v) two + 16 * 0)) (live_state (machine.Give v) next)) prints calls store (machine.Give v) next)
    gives_two w d prints calls store v = refl

    low : live_on two ≤ live_on one
    low = omega (arith, small)

    above_owed : (s0 : Stack) → owed (s0 ++ two) ≡ suc (owed (s0 ++ one))
    above_owed [] = refl
    above_owed (Labelled ∷ s0) = ap (λ n. suc n) (above_owed s0)
    above_owed (machine.Trying p b e ∷ s0) = ap (λ n. suc n) (above_owed s0)
    above_owed (_ ∷ s0) = above_owed s0

    abbrev d0 : ℕ
    d0 = max (max (live_state (machine.Ready action.Call (Closure fns h around ∷ [])) (Returning many ∷ [])) (live_state (machine.Ready action.Call (Closure fns h around ∷ [])) (Returning many ∷ []) + 16 * 0)) (live_state (machine.Eval fn.body b.env) one)

    abbrev c1 : Configuration
    c1 = conf (many + (1 + fn.nodes + 0)) d0 [] [] f.cells (machine.Eval fn.body b.env) one

    abbrev called : Configuration
    called = beginning many f.cells (machine.Ready action.Call (Closure fns h around ∷ [])) (Returning many ∷ [])

    first : step s c0 ≡ Still c1
    first =
        ap (λ o. step s (beginning many f.cells (hook o) (Returning many ∷ []))) some
        ∙ (ap (λ a. turn s called (on_stack f.cells a (Returning many ∷ []))) (hook_called f.cells fns around fns h fn there plain)
        ∙ ap (λ e. turn s called (on_stack f.cells (Goes (weighing (1 + fn.nodes + 0)) f.cells (machine.Eval fn.body e) (Returning fn.nodes ∷ [])) (Returning many ∷ []))) (sym env_is))

    pays_so : many + (1 + fn.nodes + 0) ≡ extra + w0
    pays_so = let x : parts.0 + parts.1 ≡ many = parts.2 in omega (arith, x)

    behind : (j : ℕ) → steps s (suc j) c0 ≡ steps s j c1
    behind j = ap (then_steps s (steps s j)) first

    abbrev F : Exp
    F = hooked fn.body b.cells

    -- the same before what is made of the cells
    abbrev c2 : Configuration
    c2 = conf w0 d0 [] [] f.cells (machine.Eval F b.env) (Returning n ∷ [])

    abbrev c3 : Configuration
    c3 = conf w0 d0 [] [] f.cells (machine.Eval (source.Label fn.body) b.env) next

    abbrev c4 : Configuration
    c4 = conf w0 d0 [] [] f.cells (machine.Eval fn.body b.env) two

    abbrev P2 : Run → Run → Type 0
    P2 = Pair s one two rest next leaves_one leaves_two stays_one gives_one gives_two low extra (parts.0) 0

    abbrev Q2 : Run → Run → Type 0
    Q2 = Past s one two rest next leaves_one leaves_two stays_one gives_one gives_two low extra (parts.0) 0

    lock : (j : ℕ) → P2 (steps s j c1) (steps s j c4) ⊎ hooking.PastAt s one two rest next leaves_one leaves_two stays_one gives_one gives_two low extra (parts.0) 0 j c1 c4
    lock j = hooking.locked s one two rest next leaves_one leaves_two stays_one gives_one gives_two low extra (parts.0) 0 j (many + (1 + fn.nodes + 0)) w0 d0 d0 [] [] f.cells (machine.Eval fn.body b.env) [] pays_so (omega arith) (omega arith) (omega arith) (omega (arith, nodes_are))
        (λ i c e. sound.start.inside (suc i) c (behind i ∙ e)) (λ i c e. sound.start.sound.whole (suc i) c (behind i ∙ e))

    -- the hook was left
    pub record AfterHook (j : ℕ) : Type 0 where
      pub so_far : ℕ
      pub rest_of : ℕ
      pub x : ℕ
      pub w : ℕ
      pub d : ℕ
      pub d' : ℕ
      pub prints : List Bytes
      pub calls : List Outgoing
      pub store : Store
      pub v : Value
      pub paid : x ≡ extra + w
      pub least : parts.0 ≤ w
      pub shallow : d' ≤ d
      pub many_deep : 16 + many ≤ d
      pub nodes_deep : 16 + n ≤ d
      pub real : steps s (suc so_far) c0 ≡ Still (conf x d prints calls store (machine.Give v) (Returning many ∷ []))
      pub second : steps s j c4 ≡ steps s rest_of (conf w d' prints calls store (machine.Give v) next)

    after_hook : (j : ℕ) → hooking.PastAt s one two rest next leaves_one leaves_two stays_one gives_one gives_two low extra (parts.0) 0 j c1 c4 → AfterHook j
    after_hook j r = by (steps s r.so_far c1) (steps s r.so_far c4) refl refl r.past
      where
        by : (u v : Run) → steps s r.so_far c1 ≡ u → steps s r.so_far c4 ≡ v → Q2 u v → AfterHook j
        by u u2 e q (Left x w d d' prints calls store v pays le fw o i) = record {
          so_far = r.so_far;
          rest_of = r.rest_of;
          x = x;
          w = w;
          d = d;
          d' = d';
          prints = prints;
          calls = calls;
          store = store;
          v = v;
          paid = pays;
          least = fw;
          shallow = omega (arith, le);
          many_deep = omega (arith, o);
          nodes_deep = omega (arith, i);
          real = behind r.so_far ∙ e;
          second = ap (λ i. steps s i c4) r.is ∙ steps_and s r.so_far r.rest_of c4 (conf w d' prints calls store (machine.Give v) next) q;
        }

    module _ (j : ℕ) (r : AfterHook j) where
      abbrev end_deep : ℕ
      end_deep = max (max r.d (live_state (machine.Give r.v) (Returning many ∷ []) + 16 * 0)) (live_state (machine.Give r.v) [])

      ends_so : steps s (suc r.so_far + 2) c0 ≡ Ended (conf (r.x + 1) end_deep r.prints r.calls r.store (machine.Give r.v) []) (Returns r.v)
      ends_so = steps_and s (suc r.so_far) 2 c0 (conf r.x r.d r.prints r.calls r.store (machine.Give r.v) (Returning many ∷ [])) r.real

      abbrev given : Configuration
      given = conf r.w r.d' r.prints r.calls r.store (machine.Give r.v) next

      abbrev tail_deep : ℕ
      tail_deep = max (max r.d' (live_state (machine.Give r.v) next + 16 * 0)) (live_state (machine.Eval (reading b.cells) b.env) (Joining ∷ Returning n ∷ []))

      abbrev joined : Stack
      joined = Joining ∷ Returning n ∷ []

      abbrev tail : Configuration
      tail = conf (r.w + 2) tail_deep r.prints r.calls r.store (machine.Eval (reading b.cells) b.env) joined

      -- the value of the hook is met by any pattern
      to_tail : (i : ℕ) → steps s (suc i) given ≡ steps s i tail
      to_tail i = refl

      rich_so : 2 * (r.w + 2 + (many + (2 + many)) + 1) ≤ 3 * (r.x + 1) + 2 * many + 8
      rich_so = let z : r.x ≡ extra + r.w = r.paid in let x : parts.0 + parts.1 ≡ many = parts.2 in let y : 2 * parts.0 ≤ suc many = parts.4 in let l : parts.0 ≤ r.w = r.least in omega (arith, x, y, z, l)

      deep_so : max tail_deep (live_on joined) ≤ end_deep
      deep_so =
          let x : r.d' ≤ r.d = r.shallow in
          let y : 16 + n ≤ r.d = r.nodes_deep in
          let z : live_all (reads_of b.cells) ≡ 0 = reads_live b.cells in
          omega (arith, x, y, z)

      given_serves : Serves given
      given_serves = record { suits = λ known w e. (tt, tt); handles = λ known u e. tt }

      given_steps : (i : ℕ) (c : Configuration) → steps s i given ≡ Still c → Serves c
      given_steps zero c e = subst (λ (x : Configuration). Serves x) (ap reached e) given_serves
      given_steps (suc i) c e = saves.tail_serves times enough coding types p program own head_is known f g fields b sound (suc r.so_far + 2) (r.x + 1) end_deep r.prints r.calls r.store r.v ends_so (r.w + 2) tail_deep joined joined (Joined (Returning n ∷ []) (Returning n ∷ []) (Alone n)) rich_so deep_so i c e

      given_whole : (i : ℕ) (c : Configuration) → steps s i given ≡ Ended c Breaks → ⊥
      given_whole zero c e = let z : Still given ≡ Ended c Breaks = e in cc
      given_whole (suc i) c e = saves.tail_whole times enough coding types p program own head_is known f g fields b sound (suc r.so_far + 2) (r.x + 1) end_deep r.prints r.calls r.store r.v ends_so (r.w + 2) tail_deep joined joined (Joined (Returning n ∷ []) (Returning n ∷ []) (Alone n)) rich_so deep_so i c e

    -- ---- nothing is asked there either

    paired_serves : (j : ℕ) (c : Configuration) (u v : Run) → steps s j c1 ≡ u → v ≡ Still c → P2 u v → Serves c
    paired_serves j c u v q i (Both x w d d' prints calls store g0 s0 pays le fw o m) = subst (λ (x : Configuration). Serves x) (ap reached i) (both g0 s0 (sound.start.sound.serves (suc j) (conf x d prints calls store g0 (s0 ++ one)) (behind j ∙ q)))
      where
        suits_too : (known : List Known) (g : machine.Focus) (s0 : Stack) → Suits known g (s0 ++ one) → Suits known g (s0 ++ two)
        suits_too known (machine.Eval e env) s0 h = tt
        suits_too known (machine.Ready a vs) s0 h = ready_suits one two (λ u. tt) known a vs s0 h
        suits_too known (machine.Give v) [] h = tt
        suits_too known (machine.Give v) (fr ∷ s0) h = value_suits one two (λ u. tt) known v fr s0 h

        both : (g0 : machine.Focus) (s0 : Stack) → Serves (conf x d prints calls store g0 (s0 ++ one)) → Serves (conf w d' prints calls store g0 (s0 ++ two))
        both g0 s0 h = record { suits = λ known. suits_too known g0 s0 (h.suits known); handles = λ known u e. handlers one two (λ u. tt) s0 u (h.handles known u e) }
    paired_serves j c u v q i (Over x w d d' prints calls store g0 s0 end halts pays le) = absurd (let z : Ended (conf w d' prints calls store g0 (s0 ++ two)) end ≡ Still c = i in cc)

    serves_late : (j : ℕ) (c : Configuration) → steps s j c4 ≡ Still c → Serves c
    serves_late j c e = by (lock j)
      where
        by : P2 (steps s j c1) (steps s j c4) ⊎ hooking.PastAt s one two rest next leaves_one leaves_two stays_one gives_one gives_two low extra (parts.0) 0 j c1 c4 → Serves c
        by (inl r) = paired_serves j c (steps s j c1) (steps s j c4) refl e r
        by (inr r) = let t = after_hook j r in given_steps j t t.rest_of c (sym t.second ∙ e)

    serves_all : (j : ℕ) (c : Configuration) → steps s j c2 ≡ Still c → Serves c
    serves_all zero c e = subst (λ (x : Configuration). Serves x) (ap reached e) (record { suits = λ known. tt; handles = λ known u e. tt })
    serves_all (suc zero) c e = subst (λ (x : Configuration). Serves x) (ap reached e) (record { suits = λ known. tt; handles = λ known u e. tt })
    serves_all (suc (suc j)) c e = serves_late j c e

    paired_whole : (j : ℕ) (c : Configuration) (u v : Run) → steps s j c1 ≡ u → v ≡ Ended c Breaks → P2 u v → ⊥
    paired_whole j c u v q i (Both x w d d' prints calls store g0 s0 pays le fw o m) = let z : Still (conf w d' prints calls store g0 (s0 ++ two)) ≡ Ended c Breaks = i in cc
    paired_whole j c u v q i (Over x w d d' prints calls store g0 s0 end halts pays le) =
        let y : end ≡ Breaks = saves.end_is times enough coding types p program own head_is known f g fields b sound (conf w d' prints calls store g0 (s0 ++ two)) c end Breaks i in
        sound.start.sound.whole (suc j) (conf x d prints calls store g0 (s0 ++ one)) (behind j ∙ (q ∙ ap (λ o. Ended (conf x d prints calls store g0 (s0 ++ one)) o) y))

    whole_late : (j : ℕ) (c : Configuration) → steps s j c4 ≡ Ended c Breaks → ⊥
    whole_late j c e = by (lock j)
      where
        by : P2 (steps s j c1) (steps s j c4) ⊎ hooking.PastAt s one two rest next leaves_one leaves_two stays_one gives_one gives_two low extra (parts.0) 0 j c1 c4 → ⊥
        by (inl r) = paired_whole j c (steps s j c1) (steps s j c4) refl e r
        by (inr r) = let t = after_hook j r in given_whole j t t.rest_of c (sym t.second ∙ e)

    whole_all : (j : ℕ) (c : Configuration) → steps s j c2 ≡ Ended c Breaks → ⊥
    whole_all zero c e = let z : Still c2 ≡ Ended c Breaks = e in cc
    whole_all (suc zero) c e = let z : Still c3 ≡ Ended c Breaks = e in cc
    whole_all (suc (suc j)) c e = whole_late j c e

    -- ---- what it shows

    -- no more than where the typed program stands
    still_shown : (r : Run) → saves.NotReturned times enough coding types p program own head_is known f g fields b sound r → (x w wy dy : ℕ) (prints py : List Bytes) → (reached r).prints ≡ prints → (reached r).weight ≡ x → x ≡ extra + w → 2 * x + owed (reached r).stack ≤ times * x → IsPrefix py prints → wy ≤ 2 * w + suc (owed (reached r).stack) → dy ≤ (reached r).depth
        → Pays (X r) (core_actor.progress wy dy py (weighing 0) None)
    still_shown r not x w wy dy prints py ps xs pays rich a h i =
        saves.pays_with times enough coding types p program own head_is known f g fields b sound r not wy dy py None (subst (λ ps. IsPrefix py ps) (sym ps) a) (subst (λ m. wy ≤ times * m) (sym xs) (omega (arith, h, pays, rich))) i tt tt

    halts_not : (c : Configuration) (end : End) → Halts end → saves.NotReturned times enough coding types p program own head_is known f g fields b sound (Ended c end)
    halts_not c (Traps text) h = tt
    halts_not c Breaks h = tt
    halts_not c (Returns v) h = h
    halts_not c (configuration.Responds answer) h = tt
    halts_not c (configuration.Suspends call nodes) h = tt
    halts_not c configuration.Sleeps h = tt

    module _ (j : ℕ) where
      rich_at : (u : Run) → steps s j c1 ≡ u → 2 * (reached u).weight + owed (reached u).stack ≤ times * (reached u).weight
      rich_at u q = subst (λ (r : Run). 2 * (reached r).weight + owed (reached r).stack ≤ times * (reached r).weight) (behind j ∙ q) (sound.start.sound.light (suc j))

      over_shown : (x w d d' : ℕ) (prints : List Bytes) (calls : List Outgoing) (store : Store) (g0 : machine.Focus) (s0 : Stack) (end : End) → Halts end → x ≡ extra + w → max 0 d' ≤ d → 2 * x + owed (s0 ++ one) ≤ times * x
          → (known' : List Known) (wy dy : ℕ) (py : List Bytes) (wo : World) (r : Run) (e : execution.End Waiting) → r ≡ Ended (conf w d' prints calls store g0 (s0 ++ two)) end → saves.Fin times enough coding types p program own head_is known f g fields b sound known' wy dy py wo r e
          → Pays (X (Ended (conf x d prints calls store g0 (s0 ++ one)) end)) (Y (execution.Over wy dy py wo e))
      over_shown x w d d' prints calls store g0 s0 end halts pays le rich known' wy dy py wo r e i (Returned c v u shows leaves value) = absurd (subst (λ o. Halts o) (sym (saves.end_is times enough coding types p program own head_is known f g fields b sound c (conf w d' prints calls store g0 (s0 ++ two)) (Returns v) end i)) halts)
      over_shown x w d d' prints calls store g0 s0 end halts pays le rich known' wy dy py wo r e i (Suspended c call stack shows leaves stops) = absurd (subst (λ o. Halts o) (sym (saves.end_is times enough coding types p program own head_is known f g fields b sound c (conf w d' prints calls store g0 (s0 ++ two)) _ end i)) halts)
      over_shown x w d d' prints calls store g0 s0 end halts pays le rich known' wy dy py wo r e i (Asleep c stack shows leaves) = absurd (subst (λ o. Halts o) (sym (saves.end_is times enough coding types p program own head_is known f g fields b sound c (conf w d' prints calls store g0 (s0 ++ two)) _ end i)) halts)
      over_shown x w d d' prints calls store g0 s0 end halts pays le rich known' wy dy py wo r e i (Trapped c text shows) =
          let o : owed (s0 ++ two) ≡ suc (owed (s0 ++ one)) = above_owed s0 in
          subst (λ o. Pays (X (Ended (conf x d prints calls store g0 (s0 ++ one)) o)) (core_actor.progress wy dy py (weighing 0) (Some (actor_end.Traps text)))) (saves.end_is times enough coding types p program own head_is known f g fields b sound c (conf w d' prints calls store g0 (s0 ++ two)) (Traps text) end i)
          (subst (λ (c : Configuration). Shows program (saves.context times enough coding types p program own head_is known f g fields b sound) n c wy dy py → Pays (X (Ended (conf x d prints calls store g0 (s0 ++ one)) (Traps text))) (core_actor.progress wy dy py (weighing 0) (Some (actor_end.Traps text)))) (sym (saves.conf_is times enough coding types p program own head_is known f g fields b sound c (conf w d' prints calls store g0 (s0 ++ two)) (Traps text) end i))
          (λ shows. saves.pays_with times enough coding types p program own head_is known f g fields b sound (Ended (conf x d prints calls store g0 (s0 ++ one)) (Traps text)) tt wy dy py (Some (actor_end.Traps text)) ([], sym shows.prints_are ∙ saves.no_more py)
          (let z : wy ≤ 2 * w + owed (s0 ++ two) = shows.light in omega (arith, z, o, pays, rich)) (let z : dy ≤ d' = shows.shallow in omega (arith, z, le)) shows.prints_are refl) shows)
      over_shown x w d d' prints calls store g0 s0 end halts pays le rich known' wy dy py wo r e i (Thrown c error u shows leaves value) =
          let o : owed (s0 ++ two) ≡ suc (owed (s0 ++ one)) = above_owed s0 in
          let q = subst (λ (o : Configuration). (o.prints ≡ c.prints) × (c.weight ≤ o.weight) × (c.depth ≤ o.depth) × (o.stack ≡ c.stack)) (ap reached i) (rejection c error) in
          let k : owed (s0 ++ two) ≡ owed c.stack = ap owed (q.3) in
          let y : c.weight ≤ w = q.1 in
          let m : c.depth ≤ d' = q.2 in
          saves.pays_with times enough coding types p program own head_is known f g fields b sound (Ended (conf x d prints calls store g0 (s0 ++ one)) end) (halts_not (conf x d prints calls store g0 (s0 ++ one)) end halts) wy dy py None ([], q.0 ∙ (sym shows.prints_are ∙ saves.no_more py))
          (let z : wy ≤ 2 * c.weight + owed c.stack = shows.light in omega (arith, z, o, k, y, pays, rich)) (let z : dy ≤ c.depth = shows.shallow in omega (arith, z, m, le)) tt tt

      paired_shown : (u v : Run) → steps s j c1 ≡ u → P2 u v → (y : Stand State Waiting) → Cov v y → Pays (X u) (Y y)
      paired_shown u v q (Both x w d d' prints calls store g0 s0 pays le fw o m) (execution.Still wy dy py wo st) h =
          still_shown (Still (conf x d prints calls store g0 (s0 ++ one))) tt x w wy dy prints py refl refl pays (rich_at u q) (h.0) (subst (λ k. wy ≤ 2 * w + k) (above_owed s0) (h.1)) (let z : dy ≤ d' = h.2 in omega (arith, z, le))
      paired_shown u v q (Both x w d d' prints calls store g0 s0 pays le fw o m) (execution.Over wy dy py wo e) h = absurd (saves.nothing_left times enough coding types p program own head_is known f g fields b sound (h.0) wy dy py wo _ e (conf w d' prints calls store g0 (s0 ++ two)) (h.2) refl)
      paired_shown u v q (Over x w d d' prints calls store g0 s0 end halts pays le) (execution.Still wy dy py wo st) h =
          still_shown (Ended (conf x d prints calls store g0 (s0 ++ one)) end) (halts_not (conf x d prints calls store g0 (s0 ++ one)) end halts) x w wy dy prints py refl refl pays (rich_at u q) (h.0) (subst (λ k. wy ≤ 2 * w + k) (above_owed s0) (h.1)) (let z : dy ≤ d' = h.2 in omega (arith, z, le))
      paired_shown u v q (Over x w d d' prints calls store g0 s0 end halts pays le) (execution.Over wy dy py wo e) h =
          over_shown x w d d' prints calls store g0 s0 end halts pays le (rich_at u q) (h.0) wy dy py wo _ e refl (h.2)

      -- behind the hook
      given_shown : (r : AfterHook j) (i : ℕ) (y : Stand State Waiting) → Cov (steps s i (given j r)) y → (m : ℕ) × Pays (X (steps s m c0)) (Y y)
      given_shown r zero (execution.Still wy dy py wo st) h = (
        suc r.so_far,
        subst (λ x. Pays (X x) (core_actor.progress wy dy py (weighing 0) None)) (sym r.real)
            (still_shown (Still (conf r.x r.d r.prints r.calls r.store (machine.Give r.v) (Returning many ∷ []))) tt r.x r.w wy dy r.prints py refl refl r.paid (at_least r.x) (h.0) (let z : wy ≤ 2 * r.w + 0 = h.1 in omega (arith, z)) (let z : dy ≤ r.d' = h.2 in let x : r.d' ≤ r.d = r.shallow in omega (arith, z, x))),
      )
        where
          at_least : (x : ℕ) → 2 * x + 0 ≤ times * x
          at_least x = let z : 3 * x ≤ times * x = mul-le-mul_right x enough in omega (arith, z)
      given_shown r zero (execution.Over wy dy py wo e) h = absurd (saves.nothing_left times enough coding types p program own head_is known f g fields b sound (h.0) wy dy py wo _ e (given j r) (h.2) refl)
      given_shown r (suc i) y h = (
        suc r.so_far + 2,
        saves.x_at times enough coding types p program own head_is known f g fields b sound (suc r.so_far + 2) (r.x + 1) (end_deep j r) r.prints r.calls r.store r.v (ends_so j r) y
            (saves.tail_shown times enough coding types p program own head_is known f g fields b sound (suc r.so_far + 2) (r.x + 1) (end_deep j r) r.prints r.calls r.store r.v (ends_so j r) (r.w + 2) (tail_deep j r) (joined j r) (joined j r) (Joined (Returning n ∷ []) (Returning n ∷ []) (Alone n)) (rich_so j r) (deep_so j r) i y h),
      )

      late_shown : (y : Stand State Waiting) → Cov (steps s j c4) y → (m : ℕ) × Pays (X (steps s m c0)) (Y y)
      late_shown y h = by (lock j)
        where
          by : P2 (steps s j c1) (steps s j c4) ⊎ hooking.PastAt s one two rest next leaves_one leaves_two stays_one gives_one gives_two low extra (parts.0) 0 j c1 c4 → (m : ℕ) × Pays (X (steps s m c0)) (Y y)
          by (inl r) = (suc j, subst (λ x. Pays (X x) (Y y)) (sym (behind j)) (paired_shown (steps s j c1) (steps s j c4) refl r y h))
          by (inr r) = let t = after_hook j r in given_shown t t.rest_of y (subst (λ x. Cov x y) t.second h)

    -- before the hook's body
    early_shown : (k l : Stack) (e : Exp) (y : Stand State Waiting) → owed k ≡ 0 → Cov (Still (conf w0 d0 [] [] f.cells (machine.Eval e b.env) k)) y → (m : ℕ) × Pays (X (steps s m c0)) (Y y)
    early_shown k l e (execution.Still wy dy py wo st) none h = (
      1,
      subst (λ x. Pays (X x) (core_actor.progress wy dy py (weighing 0) None)) (sym (behind 0))
          (still_shown (Still c1) tt (many + (1 + fn.nodes + 0)) w0 wy dy [] py refl refl pays_so (let z : 3 * (many + (1 + fn.nodes + 0)) ≤ times * (many + (1 + fn.nodes + 0)) = mul-le-mul_right (many + (1 + fn.nodes + 0)) enough in omega (arith, z)) (h.0) (let z : wy ≤ 2 * w0 + owed k = h.1 in omega (arith, z, none)) (h.2)),
    )
    early_shown k l e (execution.Over wy dy py wo end) none h = absurd (saves.nothing_left times enough coding types p program own head_is known f g fields b sound (h.0) wy dy py wo _ end (conf w0 d0 [] [] f.cells (machine.Eval e b.env) k) (h.2) refl)

    shown : (m : ℕ) (y : Stand State Waiting) → Cov (steps s m c2) y → (m : ℕ) × Pays (X (steps s m c0)) (Y y)
    shown zero y h = early_shown (Returning n ∷ []) [] F y refl h
    shown (suc zero) y h = early_shown next [] (source.Label fn.body) y refl h
    shown (suc (suc j)) y h = late_shown j y h

    with_hook : Follows times (λ (k : Kept) (l : Kept). l ≡ k) (λ k. X (turns s k c0)) (core_actor.save (saves.M times enough coding types p program own head_is known f g fields b sound) (saves.messages times enough coding types p program own head_is known f g fields b sound) program own g)
    with_hook = follows_by (λ k. let h = covered F w0 d0 code (let x : many ≤ 2 * parts.0 = parts.3 in omega (arith, nodes_are, any, x)) (omega (arith, nodes_are)) serves_all whole_all k in shown (h.0) (At k) (h.1))

    -- ---- how it ends

    past_given : (j : ℕ) → hooking.PastAt s one two rest next leaves_one leaves_two stays_one gives_one gives_two low extra (parts.0) 0 j c1 c4 → (r : AfterHook j) × (steps s r.so_far c4 ≡ Still (given j r))
    past_given j r = by (steps s r.so_far c1) (steps s r.so_far c4) refl refl r.past
      where
        by : (u v : Run) → steps s r.so_far c1 ≡ u → steps s r.so_far c4 ≡ v → Q2 u v → (a : AfterHook j) × (steps s a.so_far c4 ≡ Still (given j a))
        by u u2 e q (Left x w d d' prints calls store v pays le fw o i) = (
          record {
            so_far = r.so_far;
            rest_of = r.rest_of;
            x = x;
            w = w;
            d = d;
            d' = d';
            prints = prints;
            calls = calls;
            store = store;
            v = v;
            paid = pays;
            least = fw;
            shallow = omega (arith, le);
            many_deep = omega (arith, o);
            nodes_deep = omega (arith, i);
            real = behind r.so_far ∙ e;
            second = ap (λ i. steps s i c4) r.is ∙ steps_and s r.so_far r.rest_of c4 (conf w d' prints calls store (machine.Give v) next) q;
          },
          q,
        )

    light_hook : 1 + n ≤ 2 * w0
    light_hook = let x : many ≤ 2 * parts.0 = parts.3 in omega (arith, nodes_are, any, x)

    low_hook : live F + (16 + n + 0) ≤ d0
    low_hook = omega (arith, nodes_are)

    past_ends : (j : ℕ) → hooking.PastAt s one two rest next leaves_one leaves_two stays_one gives_one gives_two low extra (parts.0) 0 j c1 c4 → HasY
    past_ends j past = by (past_given j past)
      where
        by : (r : AfterHook j) × (steps s r.so_far c4 ≡ Still (given j r)) → HasY
        by (r, q) =
            let t = saves.tail_tells times enough coding types p program own head_is known f g fields b sound (suc r.so_far + 2) (r.x + 1) (end_deep j r) r.prints r.calls r.store r.v (ends_so j r) (r.w + 2) (tail_deep j r) (joined j r) (joined j r) (Joined (Returning n ∷ []) (Returning n ∷ []) (Alone n)) (rich_so j r) (deep_so j r) in
            core_tells F w0 d0 code light_hook low_hook serves_all whole_all (suc (suc (r.so_far + suc (t.0)))) (t.1) (saves.tuple times enough coding types p program own head_is known f g fields b sound (suc r.so_far + 2) (r.x + 1) (end_deep j r) r.prints r.calls r.store r.v (ends_so j r) (r.w + 2) (tail_deep j r) (joined j r) (joined j r) (Joined (Returning n ∷ []) (Returning n ∷ []) (Alone n)) (rich_so j r) (deep_so j r))
            (steps_and s r.so_far (suc (t.0)) c4 (given j r) q ∙ t.2) (λ known' wy dy py wo u value. saves.told times enough coding types p program own head_is known f g fields b sound (suc r.so_far + 2) (r.x + 1) (end_deep j r) r.prints r.calls r.store r.v (ends_so j r) (r.w + 2) (tail_deep j r) (joined j r) (joined j r) (Joined (Returning n ∷ []) (Returning n ∷ []) (Alone n)) (rich_so j r) (deep_so j r) known' wy dy py wo u value)

    trap_ends : (q : ℕ) (cl d2 : Configuration) (text : Bytes) → steps s q c4 ≡ Still cl → step s cl ≡ Ended d2 (Traps text) → HasY
    trap_ends q cl d2 text e i = by (steps s q c1) (steps s q c4) refl e (lock q)
      where
        stops : Closes s c4 → HasY
        stops (Tells k d3 vs o) = absurd (let z : Ended d3 (Returns (Made Tuple vs)) ≡ Ended d2 (Traps text) = ends_once s k (q + 1) c4 d3 d2 (Returns (Made Tuple vs)) (Traps text) o (steps_and s q 1 c4 cl e ∙ ap (then_steps s (steps s 0)) i) in cc)
        stops (Stops k d3 cost said o r) = core_stops F w0 d0 code light_hook low_hook serves_all (suc (suc k)) d3 cost said o r

        paired : (u v : Run) → steps s q c1 ≡ u → v ≡ Still cl → P2 u v → HasY
        paired u v r o (Both x w d d' prints calls store g0 s0 pays le fw k m) =
            let same : conf w d' prints calls store g0 (s0 ++ two) ≡ cl = ap reached o in
            stops (stopped s q c4 (conf w d' prints calls store g0 (s0 ++ two)) d2 text (e ∙ ap (λ c. Still c) (sym same)) (ap (step s) same ∙ i)
            (hooking.plain_beside s one two rest next leaves_one leaves_two stays_one gives_one gives_two low x w d d' prints calls store g0 s0 (sound.start.inside (suc q) (conf x d prints calls store g0 (s0 ++ one)) (behind q ∙ r))
            (λ c y. sound.start.sound.whole (suc q + 1) c (steps_and s (suc q) 1 c0 (conf x d prints calls store g0 (s0 ++ one)) (behind q ∙ r) ∙ ap (then_steps s (steps s 0)) y)) d2 text (ap (step s) same ∙ i)))
        paired u v r o (Over x w d d' prints calls store g0 s0 end halts pays le) = absurd (let z : Ended (conf w d' prints calls store g0 (s0 ++ two)) end ≡ Still cl = o in cc)

        by : (u v : Run) → steps s q c1 ≡ u → v ≡ Still cl → P2 u v ⊎ hooking.PastAt s one two rest next leaves_one leaves_two stays_one gives_one gives_two low extra (parts.0) 0 q c1 c4 → HasY
        by u v r o (inl h) = paired u v r o h
        by u v r o (inr h) = past_ends q h

    hook_ends : (j : ℕ) (d1 : Configuration) (end : End) → steps s j c1 ≡ Ended d1 end → HasY
    hook_ends j d1 end e = by (lock j)
      where
        paired : (u v : Run) → steps s j c1 ≡ u → u ≡ Ended d1 end → steps s j c4 ≡ v → P2 u v → HasY
        paired u v q r o (Both x w d d' prints calls store g0 s0 pays le fw k m) = absurd (let z : Still (conf x d prints calls store g0 (s0 ++ one)) ≡ Ended d1 end = r in cc)
        paired u v q r o (Over x w d d' prints calls store g0 s0 (Traps text) halts pays le) =
            let l = last_step s j c4 (conf w d' prints calls store g0 (s0 ++ two)) (Traps text) o in trap_ends (l.0) (l.1) (conf w d' prints calls store g0 (s0 ++ two)) text (l.2) (l.3)
        paired u v q r o (Over x w d d' prints calls store g0 s0 Breaks halts pays le) = absurd (sound.start.sound.whole (suc j) (conf x d prints calls store g0 (s0 ++ one)) (behind j ∙ q))
        paired u v q r o (Over x w d d' prints calls store g0 s0 _ halts pays le) = absurd halts

        by : P2 (steps s j c1) (steps s j c4) ⊎ hooking.PastAt s one two rest next leaves_one leaves_two stays_one gives_one gives_two low extra (parts.0) 0 j c1 c4 → HasY
        by (inl h) = paired (steps s j c1) (steps s j c4) refl e refl h
        by (inr h) = past_ends j h

    with_hook_ends : (m : ℕ) (d1 : Configuration) (end : End) → steps s m c0 ≡ Ended d1 end → HasY
    with_hook_ends zero d1 end e = absurd (let z : Still c0 ≡ Ended d1 end = e in cc)
    with_hook_ends (suc j) d1 end e = hook_ends j d1 end (sym (behind j) ∙ e)

  -- ---- both

  follows : Follows times (λ (k : Kept) (l : Kept). l ≡ k) (λ k. X (turns s k c0)) (core_actor.save (saves.M times enough coding types p program own head_is known f g fields b sound) (saves.messages times enough coding types p program own head_is known f g fields b sound) program own g)
  follows = by b.hook
    where
      by : ((before_upgrade f.exports ≡ None) × (n ≡ many) × Elaborates program.groups false (outside b.places) (reading b.cells) b.code)
          ⊎ ((fns : Functions) × (h : ℕ) × (around : Environment) × (fn : Function) × (before_upgrade f.exports ≡ Some (Closure fns h around)) × (b.env ≡ with_group fns around) × (function_in fns h ≡ Some fn) × (fn.parameters ≡ NoPat) × (n ≡ many + fn.nodes) × (1 ≤ fn.nodes)
          × Elaborates program.groups false (outside b.places) (hooked fn.body b.cells) b.code)
          → Follows times (λ (k : Kept) (l : Kept). l ≡ k) (λ k. X (turns s k c0)) (core_actor.save (saves.M times enough coding types p program own head_is known f g fields b sound) (saves.messages times enough coding types p program own head_is known f g fields b sound) program own g)
      by (inl h) = plainly (h.0) (h.1) (h.2)
      by (inr h) = with_hook (h.0) (h.1) (h.2) (h.3) (h.4) (h.5) (h.6) (h.7) (h.8) (h.9) (h.10)

  all_end : (m : ℕ) (d1 : Configuration) (end : End) → steps s m c0 ≡ Ended d1 end → HasY
  all_end m d1 end e = by b.hook
    where
      by : ((before_upgrade f.exports ≡ None) × (n ≡ many) × Elaborates program.groups false (outside b.places) (reading b.cells) b.code)
          ⊎ ((fns : Functions) × (h : ℕ) × (around : Environment) × (fn : Function) × (before_upgrade f.exports ≡ Some (Closure fns h around)) × (b.env ≡ with_group fns around) × (function_in fns h ≡ Some fn) × (fn.parameters ≡ NoPat) × (n ≡ many + fn.nodes) × (1 ≤ fn.nodes)
          × Elaborates program.groups false (outside b.places) (hooked fn.body b.cells) b.code)
          → HasY
      by (inl h) = plainly_ends (h.0) (h.1) (h.2)
      by (inr h) = with_hook_ends (h.0) (h.1) (h.2) (h.3) (h.4) (h.5) (h.6) (h.7) (h.8) (h.9) (h.10) m d1 end e

  save_ends : EndsToo (λ k. X (turns s k c0)) (core_actor.save (saves.M times enough coding types p program own head_is known f g fields b sound) (saves.messages times enough coding types p program own head_is known f g fields b sound) program own g)
  save_ends (m, last, e) = by (turns s m c0) refl e
    where
      by : (r : Run) → turns s m c0 ≡ r → (X r).completion ≡ Some last → HasEnd (core_actor.save (saves.M times enough coding types p program own head_is known f g fields b sound) (saves.messages times enough coding types p program own head_is known f g fields b sound) program own g)
      by (Still c) i h = absurd (let z : None ≡ Some last = h in cc)
      by (Ended d1 end) i h =
          let k = ended_by s m c0 d1 end i in
          let r = all_end (k.0) d1 end (k.1) in
          (suc (r.0), r.1, ap (λ y. (Y y).completion) (saves.saves_as times enough coding types p program own head_is known f g fields b sound (r.0)) ∙ r.2)

pub saves_follow : SavesFollow
saves_follow times enough coding types p program first memory own head_is known f g fields b sound = follows times enough coding types p program own head_is known f g fields b sound

pub saves_end : SavesEnd
saves_end times enough coding types p program first memory own head_is known f g fields b sound = save_ends times enough coding types p program own head_is known f g fields b sound
