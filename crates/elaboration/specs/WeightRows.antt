-- What elaborated programs cost, computed beside what the programs cost: at most twice the weight, and no more depth.
use Rattle.std.specs.Prelude.{ℕ, ◌*◌, List, [], ◌∷◌, Bool, true, false, ◌&&◌, nat_le, Option, Some, None, codes}
use Rattle.mo_types.specs.declared.node.TypeId.{TypeId}
use Rattle.mo_types.specs.Calls.{no_calls}
use Rattle.mo_values.specs.Shapes.{Bytes}
use Rattle.mo_actor.specs.Executions.{Progress, Completion, Completes}
use Rattle.mo_actor.specs.Languages.{Language}
use Rattle.mo_actor.specs.Programs as actor
use Rattle.core_ir.specs.Choices.{on_some}
use Rattle.typed_tree.specs.Language.{Exp, Val, null}
use Rattle.typed_tree.specs.Programs.{Program}
use Rattle.mo_meaning.specs.BenchRows.{bench}
use Rattle.mo_meaning.specs.CatchRows as catch
use Rattle.mo_meaning.specs.CounterRows.{counter, failing}
use Rattle.mo_meaning.specs.ExampleTypes.{nat, text, char}
use Rattle.mo_meaning.specs.OrderRows as order
use Rattle.mo_meaning.specs.Playing.{own, caller, empty, meant}
use Rattle.mo_meaning.specs.TextRows as texts
use Rattle.mo_meaning.specs.Writing.{number, some}
use Rattle.elaboration.specs.Playing.{run_elaborated}

-- of an execution that has ended
pub record Costs : Type 0 where
  pub weight : ℕ
  pub depth : ℕ

abbrev pub costs_of : {A : Type 0} → Progress A → Costs
costs_of p = record { weight = p.weight; depth = p.depth }

abbrev pub completed : {A : Type 0} → Option (Completion A) → Option A
completed (Some (Completes a)) = Some a
completed _ = None

-- the start of an actor, and a call of a method without arguments
abbrev pub costs : {L : Language} → ℕ → actor.Program L → Bytes → List Costs
costs n p name =
    costs_of (p.start own None n)
    ∷ on_some [] (completed (p.start own None n).completion)
    (λ fields. on_some [] (p.update name) (λ method. on_some [] (p.enter method caller empty) (λ body. costs_of (p.run own (no_calls 0) fields body n) ∷ [])))

abbrev pub are_within : List Costs → List Costs → Bool
are_within [] [] = true
are_within (c ∷ cs) (d ∷ ds) = nat_le d.weight (2 * c.weight) && (nat_le d.depth c.depth && are_within cs ds)
are_within _ _ = false

abbrev pub is_within : Program → Bytes → Bool
is_within p name = are_within (costs 400 (meant p) name) (costs 900 (run_elaborated p) name)

abbrev pub body_is_within : List TypeId → Exp → Bool
body_is_within results body = is_within (bench results body) (codes "go")

abbrev pub numbers_are_within : List Exp → Bool
numbers_are_within [] = true
numbers_are_within (e ∷ es) = body_is_within (nat ∷ []) e && numbers_are_within es

abbrev pub weights : List Bool
weights =
    is_within counter (codes "inc") ∷ is_within failing (codes "bad")
    ∷ body_is_within [] order.trap_at ∷ body_is_within [] order.update_at ∷ body_is_within [] order.no_catch ∷ body_is_within [] order.no_case ∷ body_is_within [] order.sums
    ∷ numbers_are_within (order.short ∷ order.short_or ∷ order.live_values ∷ order.keys ∷ order.loops ∷ order.optional (Val null) ∷ order.optional (some (number 5)) ∷ order.tabulates ∷ order.copies ∷ [])
    ∷ numbers_are_within (catch.returns ∷ catch.breaks ∷ catch.over_label ∷ catch.in_handler ∷ [])
    ∷ numbers_are_within (texts.counted ∷ texts.sized ∷ texts.repeated 0 ∷ texts.repeated 5 ∷ [])
    ∷ body_is_within (char ∷ []) texts.third_char ∷ body_is_within (text ∷ []) texts.digits ∷ []

abbrev pub wanted_weights : List Bool
wanted_weights = true ∷ true ∷ true ∷ true ∷ true ∷ true ∷ true ∷ true ∷ true ∷ true ∷ true ∷ true ∷ []
