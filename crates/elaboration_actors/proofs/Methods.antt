-- The body of a method, or what waited: an execution of Core's actor shows no more than that of the typed one, and ends as it does.
use Rattle.std.proofs.Common.{◌≡◌, ◌⊎◌, inl, inr, ℕ, zero, suc, ◌+◌, ◌*◌, ◌≤◌, Bool, true, false, List, length, Option, Some, None, refl, sym, subst, arith}
use Rattle.std.proofs.Math.Nat.{mul-le-mul_left}
use Rattle.std.specs.Prelude.{nat_lt, cond}
use Rattle.mo_types.specs.declared.node.TypeId.{TypeId}
use Rattle.mo_types.specs.Calls.{CallTable}
use Rattle.mo_values.specs.Shapes.{Bytes}
use Rattle.mo_actor.specs.Executions.{Progress}
use Rattle.mo_actor.specs.Programs.{Effects}
use Rattle.mo_actor.specs.Programs as actor
use Rattle.mo_actor.specs.Results.{IsPrefix}
use Rattle.core_ir.specs.Values as core_value
use Rattle.core_ir.specs.Worlds as worlds
use Rattle.core_ir.specs.Worlds.{Context}
use Rattle.core_ir.specs.Executions.{Over, Stand, Machine}
use Rattle.core_ir.specs.Executions as execution
use Rattle.core_ir.specs.Expressions.{Core}
use Rattle.core_ir.specs.CoreMachine as core_machine
use Rattle.core_ir.specs.CoreMachine.{State}
use Rattle.core_ir.specs.Messages.{Messages}
use Rattle.core_ir.specs.Actor.{core_language}
use Rattle.core_ir.specs.Actor as core_actor
use Rattle.mo_meaning.specs.Configurations.{Surroundings}
use Rattle.mo_meaning.specs.Turns.{most_bytes, too_long}
use Rattle.mo_machine.specs.Values.{Value}
use Rattle.mo_machine.specs.ActorLanguage.{machine, Fields}
use Rattle.mo_machine.specs.Bodies.{shared_progress}
use Rattle.mo_machine.specs.Configurations as configuration
use Rattle.mo_machine.specs.Configurations.{Configuration, Run, Still, Ended}
use Rattle.mo_machine.specs.Messages.{unpacked, message_cost}
use Rattle.mo_machine.specs.Turns.{message, replies, as_reply}
use Rattle.elaboration_values.specs.Belonging.{Known}
use Rattle.elaboration_steps.specs.Follows.{owed}
use Rattle.elaboration_runs.specs.Calling.{Surrounded}
use Rattle.elaboration_runs.specs.Ending.{configuration_of, Covers}
use Rattle.elaboration_actors.specs.Bodies.{Alike, Going, Same, reached, ShownWhole, ProgressBelongs, EffectsBelong}
use Rattle.elaboration_actors.proofs.Ends.{ends_belong}

pub two_ways : (m n : ℕ) → (m ≤ n) ⊎ ((more : ℕ) × (m ≡ n + more))
two_ways zero n = inl (omega arith)
two_ways (suc m) zero = inr (suc m, omega arith)
two_ways (suc m) (suc n) = by (two_ways m n)
  where
    by : (m ≤ n) ⊎ ((more : ℕ) × (m ≡ n + more)) → (suc m ≤ suc n) ⊎ ((more : ℕ) × (suc m ≡ suc n + more))
    by (inl h) = inl (omega (arith, h))
    by (inr h) = inr (h.0, let e : m ≡ n + (h.0) = h.1 in omega (arith, e))

module _ {K : Type 0} (coding : Messages K) (program : Core) (own : Bytes) (table : CallTable (List TypeId) worlds.Given) (names : List core_value.Value) (nodes times : ℕ) (one : 1 ≤ times) (s : Surroundings)
    (f : Fields) (g : core_actor.Fields) (names_are : g.names ≡ names) (results : List TypeId) where
  abbrev pub M : Machine State core_machine.Waiting
  M = core_machine.core_machine program

  abbrev pub context : Context
  context = core_actor.context_of M coding program own table names

  abbrev pub X : Run → Progress (Effects machine)
  X r = shared_progress f results (as_reply s results r)

  abbrev pub Y : Stand State core_machine.Waiting → Progress (Effects (core_language core_machine.Waiting K))
  Y y = core_actor.body_progress M coding program g results y

  -- the reply costs more
  abbrev More : Configuration → Progress (Effects machine) → Type 0
  More c x = (x.prints ≡ c.prints) × (c.weight ≤ x.weight) × (c.depth ≤ x.depth)

  reply_more : (c : Configuration) (vs : List Value) (o : Option Bytes) → More c (shared_progress f results (replies s vs o c))
  reply_more c vs None = (refl, omega arith, omega arith)
  reply_more c vs (Some bytes) = by (nat_lt most_bytes (length bytes))
    where
      c2 : Configuration
      c2 = configuration.weighed (message_cost vs bytes) c

      by : (long : Bool) → More c (shared_progress f results (cond long (Ended c2 (configuration.Traps too_long)) (Ended c2 (configuration.Responds (actor.Replies bytes)))))
      by true = (refl, omega arith, omega arith)
      by false = (refl, omega arith, omega arith)

  more : (r : Run) → More (reached r) (X r)
  more (Still c) = (refl, omega arith, omega arith)
  more (Ended c (configuration.Returns v)) = reply_more c (unpacked results v) (message s results (unpacked results v))
  more (Ended c end) = (refl, omega arith, omega arith)

  module _ (known : List Known) (same : Surrounded program context nodes s) where
    abbrev pub Both : Effects machine → Effects (core_language core_machine.Waiting K) → Type 0
    Both = EffectsBelong program names context.globals f.exports known

    abbrev pub P : Progress (Effects machine) → Progress (Effects (core_language core_machine.Waiting K)) → Type 0
    P = ProgressBelongs times Both

    -- by what the run shows
    pub shown : (r : Run) (y : Stand State core_machine.Waiting) → Covers program context nodes known r y → ((c' : Configuration) → r ≡ Ended c' configuration.Breaks → ⊥) → 2 * (reached r).weight + owed (reached r).stack ≤ times * (reached r).weight → P (X r) (Y y)
    shown r (Over w d prints world end) h whole light = ends_belong coding program own table names nodes times one s f g names_are results known same (h.0) (h.1) w d prints world r end (h.2) whole light
    shown r (execution.Still w d prints world st) h whole light =
        let m : More (reached r) (X r) = more r in
        record {
          begun = subst (λ ps. IsPrefix prints ps) (sym (m.0)) (prints_same r (h.0));
          whole = tt;
          weight = let a : w ≤ 2 * (reached r).weight + owed (reached r).stack = weight_same r (h.1) in let b : times * (reached r).weight ≤ times * (X r).weight = mul-le-mul_left times (m.1) in omega (arith, a, b, light);
          depth = let a : d ≤ (reached r).depth = depth_same r (h.2) in let b : (reached r).depth ≤ (X r).depth = m.2 in omega (arith, a, b);
          completion = tt;
        }
      where
        prints_same : (r : Run) → IsPrefix prints (configuration_of program context nodes r).prints → IsPrefix prints (reached r).prints
        prints_same (Still c) h = h
        prints_same (Ended c end) h = h

        weight_same : (r : Run) → w ≤ 2 * (configuration_of program context nodes r).weight + owed (configuration_of program context nodes r).stack → w ≤ 2 * (reached r).weight + owed (reached r).stack
        weight_same (Still c) h = h
        weight_same (Ended c end) h = h

        depth_same : (r : Run) → d ≤ (configuration_of program context nodes r).depth → d ≤ (reached r).depth
        depth_same (Still c) h = h
        depth_same (Ended c end) h = h

    -- the same by turns
    pub by_turns : (r r' : Run) (y : Progress (Effects (core_language core_machine.Waiting K))) → Alike r r' → P (X r') y → P (X r) y
    by_turns r r' y (Same o) h = h
    by_turns r r' y (Going a b w d p) h = record {
      begun = subst (λ ps. IsPrefix y.prints ps) (sym p) h.begun;
      whole = subst (λ ps. ShownWhole times Both ps y.prints y.completion) (sym p) h.whole;
      weight = subst (λ n. y.weight ≤ times * n) (sym w) h.weight;
      depth = subst (λ n. y.depth ≤ n) (sym d) h.depth;
      completion = h.completion;
    }
