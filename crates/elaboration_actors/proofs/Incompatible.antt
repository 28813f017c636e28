-- An upgrade to a program whose stable variables are of other types: both trap.
use Rattle.std.proofs.Common.{◌≡◌, ℕ, zero, suc, ◌+◌, ◌*◌, ◌≤◌, refl, sym, subst, List, [], length, Option, Some, None, arith}
use Rattle.std.proofs.Math.Nat.{mul-le-mul_right}
use Rattle.mo_values.specs.Costs.{Cost}
use Rattle.mo_values.specs.Shapes.{Bytes}
use Rattle.mo_actor.specs.Executions.{Traps, Progress, ReadingCost, after_reading}
use Rattle.core_ir.specs.Actor as core_actor
use Rattle.core_ir.specs.CoreMachine.{core_machine}
use Rattle.core_ir.specs.Expressions.{Core}
use Rattle.core_ir.specs.Messages.{Messages}
use Rattle.core_ir.specs.Values as core
use Rattle.typed_tree.specs.Language as language
use Rattle.typed_tree.specs.Programs.{Program}
use Rattle.mo_meaning.specs.Coding.{Types, Coding}
use Rattle.mo_meaning.specs.Kernel.{Kept}
use Rattle.mo_meaning.specs.Saving.{alone}
use Rattle.mo_meaning.specs.Starting.{Taken, all_taken, all_kept, values_of_taken, kept_cost, incompatible}
use Rattle.mo_machine.specs.ActorLanguage.{Fields}
use Rattle.mo_machine.specs.Bodies.{beginning}
use Rattle.mo_machine.specs.Configurations.{weighed}
use Rattle.mo_machine.specs.Starting.{fields_progress, upgraded_from}
use Rattle.mo_machine.specs.Turns.{turns}
use Rattle.elaboration.specs.Playing.{as_reading}
use Rattle.elaboration_actors.specs.Actors.{SameMessages, Begun}
use Rattle.elaboration_actors.specs.Ends.{HasEnd}
use Rattle.elaboration_actors.specs.Bodies.{Follows}
use Rattle.elaboration_actors.specs.Starts.{IncompatibleFollow}

module _ (Both : Fields → core_actor.Fields → Type 0) (times : ℕ) (one : 1 ≤ times) (coding : Coding) (types : Types) (p : Program) (code : Core) (messages : Messages Kept) (own : Bytes) (cost : Cost) where
  abbrev Typed : Option (List (Option language.Value)) → ℕ → Progress Fields
  Typed o n = fields_progress (turns (alone coding types own) n (weighed cost (beginning p.nodes [] (upgraded_from own p o) [])))

  abbrev Made : ReadingCost → Option (List (Option core.Value)) → ℕ → Progress core_actor.Fields
  Made reading o = after_reading reading (core_actor.restarted (core_machine code) messages code own o)

  at_least : (n : ℕ) → n ≤ times * n
  at_least n = let z : 1 * n ≤ times * n = mul-le-mul_right n one in omega (arith, z)

  both_trap : Follows times Both (Typed None) (Made (as_reading coding types p cost) None)
  both_trap zero = (
    0,
    record {
      begun = ([], refl);
      whole = tt;
      weight = let z : p.nodes + cost.weight ≤ times * (p.nodes + cost.weight) = at_least (p.nodes + cost.weight) in omega (arith, z);
      depth = omega arith;
      completion = tt;
    },
  )
  both_trap (suc k) = (
    1,
    record {
      begun = ([], refl);
      whole = refl;
      weight = let z : p.nodes + cost.weight + (1 + length incompatible) ≤ times * (p.nodes + cost.weight + (1 + length incompatible)) = at_least (p.nodes + cost.weight + (1 + length incompatible)) in omega (arith, z);
      depth = omega arith;
      completion = refl;
    },
  )

pub incompatible_follow : IncompatibleFollow
incompatible_follow times one coding types p code messages first memory own same kept is =
    let ts : List Taken = all_taken coding kept.types types kept.variables p.stable in
    let Both : Fields → core_actor.Fields → Type 0 = Begun coding types p code messages own in
    let cost : Cost = kept_cost coding types p kept (values_of_taken ts) in
    subst (λ o. Follows times Both (Typed Both times one coding types p code messages own cost o) (Made Both times one coding types p code messages own cost (messages.restoring_cost kept) (messages.restore kept))) (sym is)
    (subst (λ o. Follows times Both (Typed Both times one coding types p code messages own cost None) (Made Both times one coding types p code messages own cost (messages.restoring_cost kept) o)) (sym (same.refuses kept is))
    (subst (λ r. Follows times Both (Typed Both times one coding types p code messages own cost None) (Made Both times one coding types p code messages own cost r None)) (sym (same.restoring kept)) (both_trap Both times one coding types p code messages own cost)))

-- the second has ended
pub incompatible_end : (coding : Coding) (types : Types) (p : Program) (code : Core) (messages : Messages Kept) (first memory : ℕ) (own : Bytes) → SameMessages coding types p messages
    → (kept : Kept) → all_kept (all_taken coding kept.types types kept.variables p.stable) ≡ None → HasEnd ((core_actor.actor_program (core_machine code) messages code memory).start own (Some kept))
incompatible_end coding types p code messages first memory own same kept is =
    subst (λ o. HasEnd (after_reading (messages.restoring_cost kept) (core_actor.restarted (core_machine code) messages code own o))) (sym (same.refuses kept is)) (1, Traps incompatible, refl)
