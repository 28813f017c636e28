-- Installs and upgrades are followed.
use Rattle.std.proofs.Common.{◌≡◌, ℕ, zero, suc, ◌+◌, ◌*◌, ◌≤◌, Bool, true, false, List, [], ◌∷◌, ◌++◌, length, map, replicate, Option, Some, None, refl, sym, ap, ◌∙◌, subst, arith}
use Rattle.std.specs.Prelude.{max, cond}
use Rattle.std.proofs.Math.Nat.{mul-le-mul_right}
use Rattle.std.proofs.lemmas.Bool.{eq-eqb}
use Rattle.mo_types.specs.Calls.{no_calls}
use Rattle.mo_types.specs.Graph.{head_at}
use Rattle.mo_values.specs.Costs.{Cost}
use Rattle.mo_values.specs.Shapes.{Bytes}
use Rattle.mo_actor.specs.Executions.{Progress, and_reading, after_reading}
use Rattle.mo_actor.specs.Results.{IsPrefix}
use Rattle.core_ir.specs.Actor as core_actor
use Rattle.core_ir.specs.CoreMachine as core_machine
use Rattle.core_ir.specs.CoreMachine.{State, Waiting}
use Rattle.core_ir.specs.Executions as execution
use Rattle.core_ir.specs.Executions.{Machine, Stand, Starts, run, after_step}
use Rattle.core_ir.specs.Expressions.{Core}
use Rattle.core_ir.specs.Messages.{Messages}
use Rattle.core_ir.specs.Values as core_value
use Rattle.core_ir.specs.Values.{flag_value}
use Rattle.core_ir.specs.Worlds.{World, Context}
use Rattle.typed_tree.specs.Language as source
use Rattle.typed_tree.specs.Patterns as pattern
use Rattle.typed_tree.specs.Programs.{Program, StableVariable}
use Rattle.mo_meaning.specs.Coding.{Types, Coding}
use Rattle.mo_meaning.specs.Configurations.{Surroundings}
use Rattle.mo_meaning.specs.Depth.{live}
use Rattle.mo_meaning.specs.Kernel.{Kept}
use Rattle.mo_meaning.specs.Saving.{alone}
use Rattle.mo_meaning.specs.Starting.{all_kept, values_of_taken, kept_cost, nothing_kept}
use Rattle.mo_machine.specs.ActorLanguage.{Fields}
use Rattle.mo_machine.specs.Bodies.{beginning}
use Rattle.mo_machine.specs.Configurations.{Configuration, Run, Still, Ended, live_state, weighed}
use Rattle.mo_machine.specs.Frames as machine
use Rattle.mo_machine.specs.Frames.{Switching, Returning}
use Rattle.mo_machine.specs.Starting.{kept_value, outer_values, upgraded_from, start_from, fields_progress}
use Rattle.mo_machine.specs.Turns.{steps, turns}
use Rattle.elaboration.specs.Playing.{messages_of, taken_of}
use Rattle.elaboration.specs.Programs.{elaborated, variable_of}
use Rattle.elaboration_values.specs.Belonging.{Known, EachBelongs}
use Rattle.elaboration_steps.specs.Stacks.{owed}
use Rattle.elaboration_actors.specs.Actors.{Begun}
use Rattle.elaboration_actors.specs.Bodies.{reached, Alike, Going, Same, ShownWhole, ProgressBelongs, Follows}
use Rattle.elaboration_actors.specs.Ends.{HasEnd, EndsToo}
use Rattle.elaboration_actors.specs.Starts.{KeptBelongs}
use Rattle.elaboration_actors.proofs.Messages.{kept_is_restored}
use Rattle.elaboration_actors.proofs.Turns.{turns_for, ended_by}
use Rattle.elaboration_starts.specs.Starts.{ActorStands, StartIsSound, StartFollows, StartEnds, InstallsFollow, UpgradesFollow, InstallsEnd, UpgradesEnd}
use Rattle.elaboration_starts.proofs.Alongside as alongside
use Rattle.elaboration_starts.proofs.Alongside.{Bases, Alone, Hooked, live_both}
use Rattle.elaboration_starts.proofs.Evaluating.{ended_stays}
use Rattle.elaboration_starts.proofs.Starts as starts
use Rattle.elaboration_starts.proofs.Starting as starting
use Rattle.elaboration_starts.proofs.Starting.{Pays}

module _ (times : ℕ) (enough : 3 ≤ times) (coding : Coding) (types : Types) (p : Program) (own : Bytes) (head_is : (elaborated p).head ≡ head_at types) (a : ActorStands p) where
  abbrev code : Core
  code = elaborated p

  abbrev M : Machine State Waiting
  M = core_machine.core_machine code

  abbrev messages : Messages Kept
  messages = messages_of coding types p

  abbrev s : Surroundings
  s = alone coding types own

  abbrev B : Fields → core_actor.Fields → Type 0
  B = Begun coding types p code messages own

  abbrev context : Context
  context = core_actor.context_of M messages code own (no_calls 0) []

  abbrev world0 : World
  world0 = record { store = []; groups = []; requests = [] }

  alive : (upgraded : Bool) → live p.body ≡ live (a.named upgraded)
  alive upgraded = live_both s (outer_values own p.methods []) (length p.methods) a.last a.before a.after a.labels a.cells a.total upgraded 0 0 0 p.body (a.named upgraded) (a.declares upgraded)

  at_least : (n : ℕ) → n ≤ times * n
  at_least n = let z : 3 * n ≤ times * n = mul-le-mul_right n enough in omega (arith, z)

  -- by turns, with what was read before
  paid : (extra floor : ℕ) (r r' : Run) (y : Progress core_actor.Fields) → Alike r r' → Pays times enough coding types p own head_is a extra floor (fields_progress r') y → ProgressBelongs times B (fields_progress r) (and_reading (record { weight = extra; depth = floor }) y)
  paid extra floor r r' y (Same o) h = record { begun = h.begun; whole = h.whole; weight = h.weight; depth = h.depth; completion = h.completion }
  paid extra floor r r' y (Going b c w d q) h = record {
    begun = subst (λ ps. IsPrefix y.prints ps) (sym q) h.begun;
    whole = subst (λ ps. ShownWhole times B ps y.prints y.completion) (sym q) h.whole;
    weight = subst (λ n. extra + y.weight ≤ times * n) (sym w) h.weight;
    depth = subst (λ n. max floor y.depth ≤ n) (sym d) h.depth;
    completion = h.completion;
  }

  module _ (kept : List (Option source.Value)) (ws : List core_value.Value) (upgraded : Bool) (many : length kept ≡ length p.stable) (belongs : (known : List Known) → EachBelongs known (map kept_value kept) ws) where
    abbrev vals : List core_value.Value
    vals = ws ++ flag_value upgraded ∷ []

    abbrev At : ℕ → Stand State Waiting
    At = starting.Started times enough coding types p own head_is a kept ws upgraded many belongs

    started_as : (k : ℕ) → execution.execution M context k world0 (Starts ws upgraded) ≡ At k
    started_as k =
        ap (λ b. after_step (run M context k) 0 0 0 [] (cond b (core_machine.go code context p.nodes (0 + (1 + p.nodes)) world0 (core_machine.Eval code.start.expression vals) []) (core_machine.stuck code context 0 world0)))
        (eq-eqb (length vals) (suc (length p.stable)) (starting.so_many times enough coding types p own head_is a kept ws upgraded many belongs))
        ∙ ap (λ w. run M context k w 0 [] world0 (core_machine.at code context p.nodes (core_machine.Eval code.start.expression vals) [])) (let z : 0 + (0 + (1 + p.nodes)) ≡ 1 + p.nodes = omega arith in z)

    -- an execution that comes to the declarations after so many moves
    module _ (extra floor x0 d0 : ℕ) (k0 : machine.Stack) (base : Bases upgraded k0 (Returning p.nodes ∷ [])) (pays : x0 ≡ extra + p.nodes) (deep : max floor (live (a.named upgraded) + (16 + p.nodes + 0)) ≤ d0)
        (same : live_state (machine.Eval p.body (outer_values own p.methods kept)) k0 ≡ live (a.named upgraded) + (16 + p.nodes + 0)) (moves : ℕ) (c0 : Configuration) (first : (m : ℕ) → steps s (moves + m) c0 ≡ steps s m (alongside.conf x0 d0 [] [] [] (machine.Eval p.body (outer_values own p.methods kept)) k0)) (heavy : extra ≤ c0.weight) (floored : floor ≤ c0.depth) (none : c0.prints ≡ [])
        (sound : StartIsSound times s c0) where
      abbrev c1 : Configuration
      c1 = alongside.conf x0 d0 [] [] [] (machine.Eval p.body (outer_values own p.methods kept)) k0

      shows : (i : ℕ) → (m : ℕ) × Pays times enough coding types p own head_is a extra floor (fields_progress (steps s m c1)) (core_actor.start_progress M messages code (At i))
      shows i =
          starts.shown times enough coding types p own head_is a kept ws upgraded many belongs extra floor x0 d0 k0 base pays deep same
          (λ j c e. sound.sound.serves (moves + j) c (first j ∙ e)) (λ j c e. sound.sound.whole (moves + j) c (first j ∙ e))
          (λ j. subst (λ (r : Run). 2 * (reached r).weight + owed (reached r).stack ≤ times * (reached r).weight) (first j) (sound.sound.light (moves + j))) (λ j c e. sound.inside (moves + j) c (first j ∙ e)) i

      pub follows : Follows times B (λ k. fields_progress (turns s k c0)) (λ k. and_reading (record { weight = extra; depth = floor }) (core_actor.started M messages code own ws upgraded k))
      follows zero = (
        0,
        record { begun = (c0.prints, refl); whole = tt; weight = let z : c0.weight ≤ times * c0.weight = at_least c0.weight in omega (arith, z, heavy); depth = omega (arith, floored); completion = tt },
      )
      follows (suc k) =
          let h = shows k in
          let t = turns_for s (moves + h.0) c0 in (
            t.0,
            subst (λ y. ProgressBelongs times B (fields_progress (turns s (t.0) c0)) (and_reading (record { weight = extra; depth = floor }) (core_actor.start_progress M messages code y))) (sym (started_as k))
                (paid extra floor (turns s (t.0) c0) (steps s (h.0) c1) (core_actor.start_progress M messages code (At k)) (subst (λ r. Alike (turns s (t.0) c0) r) (first (h.0)) (t.1)) (h.1)),
          )

      -- where it has ended, Core's has
      pub ends_so : EndsToo (λ k. fields_progress (turns s k c0)) (core_actor.started M messages code own ws upgraded)
      ends_so (m, last, e) = by (turns s m c0) refl e
        where
          by : (r : Run) → turns s m c0 ≡ r → (fields_progress r).completion ≡ Some last → HasEnd (core_actor.started M messages code own ws upgraded)
          by (Still c) i h = absurd (let z : None ≡ Some last = h in cc)
          by (Ended d end) i h =
              let b = ended_by s m c0 d end i in
              let at : steps s (b.0) c1 ≡ Ended d end = sym (first (b.0)) ∙ (ap (λ j. steps s j c0) (let z : moves + b.0 ≡ b.0 + moves = omega arith in z) ∙ ended_stays s (b.0) moves c0 d end (b.1)) in
              let r = starts.run_ends times enough coding types p own head_is a kept ws upgraded many belongs extra floor x0 d0 k0 base pays deep same
              (λ j c e. sound.sound.serves (moves + j) c (first j ∙ e)) (λ j c e. sound.sound.whole (moves + j) c (first j ∙ e))
              (λ j. subst (λ (r : Run). 2 * (reached r).weight + owed (reached r).stack ≤ times * (reached r).weight) (first j) (sound.sound.light (moves + j))) (λ j c e. sound.inside (moves + j) c (first j ∙ e)) (b.0) d end at in
              (suc (r.0), r.1, ap (λ y. (core_actor.start_progress M messages code y).completion) (started_as (r.0)) ∙ r.2)

  -- ---- installs

  nothing_belongs : (known : List Known) (vs : List StableVariable) → EachBelongs known (map kept_value (nothing_kept vs)) (replicate (length (map variable_of vs)) core_value.null)
  nothing_belongs known [] = tt
  nothing_belongs known (v ∷ vs) = ((refl, tt), nothing_belongs known vs)

  nothing_many : (vs : List StableVariable) → length (nothing_kept vs) ≡ length vs
  nothing_many [] = refl
  nothing_many (v ∷ vs) = ap (λ n. suc n) (nothing_many vs)

  -- reading nothing costs nothing
  installs : (first memory : ℕ) → StartFollows times coding types p first memory own None
  installs first memory sound k =
      let h = follows (nothing_kept p.stable) (replicate (length (map variable_of p.stable)) core_value.null) false (nothing_many p.stable) (λ known. nothing_belongs known p.stable) 0 0 p.nodes (live_state (machine.Eval (source.Frame p.nodes p.body) (outer_values own p.methods (nothing_kept p.stable))) [])
      (Returning p.nodes ∷ []) (Alone p.nodes) (omega arith) (let z : live p.body ≡ live (a.named false) = alive false in omega (arith, z)) (let z : live p.body ≡ live (a.named false) = alive false in omega (arith, z)) 1 (start_from coding types p own None) (λ m. ap (λ j. steps s j (start_from coding types p own None)) (let z : 1 + m ≡ suc m = omega arith in z)) (omega arith) (omega arith) refl sound k in
      (h.0, unread (fields_progress (turns s (h.0) (start_from coding types p own None))) (core_actor.started M messages code own (replicate (length (map variable_of p.stable)) core_value.null) false k) (h.1))
    where
      unread : (x : Progress Fields) (y : Progress core_actor.Fields) → ProgressBelongs times B x (and_reading (record { weight = 0; depth = 0 }) y) → ProgressBelongs times B x y
      unread x y r = record { begun = r.begun; whole = r.whole; weight = let z : 0 + y.weight ≤ times * x.weight = r.weight in omega (arith, z); depth = let z : max 0 y.depth ≤ x.depth = r.depth in omega (arith, z); completion = r.completion }

  installs_end : (first memory : ℕ) → StartEnds times coding types p first memory own None
  installs_end first memory sound = ends_so (nothing_kept p.stable) (replicate (length (map variable_of p.stable)) core_value.null) false (nothing_many p.stable) (λ known. nothing_belongs known p.stable) 0 0 p.nodes (live_state (machine.Eval (source.Frame p.nodes p.body) (outer_values own p.methods (nothing_kept p.stable))) [])
      (Returning p.nodes ∷ []) (Alone p.nodes) (omega arith) (let z : live p.body ≡ live (a.named false) = alive false in omega (arith, z)) (let z : live p.body ≡ live (a.named false) = alive false in omega (arith, z)) 1 (start_from coding types p own None) (λ m. ap (λ j. steps s j (start_from coding types p own None)) (let z : 1 + m ≡ suc m = omega arith in z)) (omega arith) (omega arith) refl sound

  -- ---- upgrades

  module _ (kept : Kept) (vs : List (Option source.Value)) (is : all_kept (taken_of coding types p kept) ≡ Some vs) where
    abbrev cost : Cost
    cost = kept_cost coding types p kept (values_of_taken (taken_of coding types p kept))

    abbrev from : Option (List (Option source.Value)) → Configuration
    from o = weighed cost (beginning p.nodes [] (upgraded_from own p o) [])

    upgraded : StartIsSound times s (from (Some vs)) → (o : Option (List (Option core_value.Value))) → KeptBelongs p code messages (Some vs) o
        → Follows times B (λ k. fields_progress (turns s k (from (Some vs)))) (λ k. and_reading (record { weight = cost.weight; depth = 16 * cost.levels }) (core_actor.restarted M messages code own o k))
    upgraded sound None k = absurd k
    upgraded sound (Some os) k =
        follows vs (map (core_actor.kept_value M messages code) os) true (k.0) (k.1) cost.weight (16 * cost.levels) (p.nodes + cost.weight) (from (Some vs)).depth
        (Switching (source.ACase pattern.Bind alongside.look_for_hook source.NoCase) (outer_values own p.methods vs) ∷ Returning p.nodes ∷ []) (Hooked p.nodes (outer_values own p.methods vs)) (omega arith) (let z : live p.body ≡ live (a.named true) = alive true in omega (arith, z)) (let z : live p.body ≡ live (a.named true) = alive true in omega (arith, z)) 2 (from (Some vs))
        (λ m. ap (λ j. steps s j (from (Some vs))) (let z : 2 + m ≡ suc (suc m) = omega arith in z)) (omega arith) (omega arith) refl sound

    upgrades : (first memory : ℕ) → StartFollows times coding types p first memory own (Some kept)
    upgrades first memory sound =
        subst (λ o. Follows times B (λ k. fields_progress (turns s k (from o))) (after_reading (record { weight = cost.weight; depth = 16 * cost.levels }) (core_actor.restarted M messages code own (messages.restore kept)))) (sym is)
        (upgraded (subst (λ o. StartIsSound times s (from o)) is sound) (messages.restore kept) (subst (λ o. KeptBelongs p code messages o (messages.restore kept)) is (kept_is_restored coding types p code kept)))

    upgraded_end : StartIsSound times s (from (Some vs)) → (o : Option (List (Option core_value.Value))) → KeptBelongs p code messages (Some vs) o → EndsToo (λ k. fields_progress (turns s k (from (Some vs)))) (core_actor.restarted M messages code own o)
    upgraded_end sound None k = absurd k
    upgraded_end sound (Some os) k = ends_so vs (map (core_actor.kept_value M messages code) os) true (k.0) (k.1) cost.weight (16 * cost.levels) (p.nodes + cost.weight) (from (Some vs)).depth
        (Switching (source.ACase pattern.Bind alongside.look_for_hook source.NoCase) (outer_values own p.methods vs) ∷ Returning p.nodes ∷ []) (Hooked p.nodes (outer_values own p.methods vs)) (omega arith) (let z : live p.body ≡ live (a.named true) = alive true in omega (arith, z)) (let z : live p.body ≡ live (a.named true) = alive true in omega (arith, z)) 2 (from (Some vs))
        (λ m. ap (λ j. steps s j (from (Some vs))) (let z : 2 + m ≡ suc (suc m) = omega arith in z)) (omega arith) (omega arith) refl sound

    upgrades_end : (first memory : ℕ) → StartEnds times coding types p first memory own (Some kept)
    upgrades_end first memory sound =
        subst (λ o. EndsToo (λ k. fields_progress (turns s k (from o))) (after_reading (messages.restoring_cost kept) (core_actor.restarted M messages code own (messages.restore kept)))) (sym is)
        (λ h. upgraded_end (subst (λ o. StartIsSound times s (from o)) is sound) (messages.restore kept) (subst (λ o. KeptBelongs p code messages o (messages.restore kept)) is (kept_is_restored coding types p code kept)) h)

pub installs_follow : InstallsFollow
installs_follow times enough coding types p first memory own head_is a = installs times enough coding types p own head_is a first memory

pub upgrades_follow : UpgradesFollow
upgrades_follow times enough coding types p first memory own head_is a kept vs is = upgrades times enough coding types p own head_is a kept vs is first memory

pub installs_end_too : InstallsEnd
installs_end_too times enough coding types p first memory own head_is a = installs_end times enough coding types p own head_is a first memory

pub upgrades_end_too : UpgradesEnd
upgrades_end_too times enough coding types p first memory own head_is a kept vs is = upgrades_end times enough coding types p own head_is a kept vs is first memory
