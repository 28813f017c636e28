-- The executions of the rows' language stay as they are once they have ended.
use Rattle.std.proofs.Common.{◌≡◌, ℕ, zero, suc, Bool, true, false, cond, List, [], Option, Some, None, refl, ap, codes}
use Rattle.mo_types.specs.Calls.{CallTable}
use Rattle.mo_actor.specs.Executions.{Completion, Settles, trapping}
use Rattle.mo_actor.specs.Programs.{Effects, IsSettled}
use Rattle.mo_actor.proofs.Trapping as by_trap
use Rattle.mo_actor.specs.Commands.{Results, Value, Command, Body, Kept, command_language, same_results}
use Rattle.mo_actor.specs.CommandRuns.{Machine, Standing, Still, Ended, turn, and_then, turns, progress, machine, body_run, completion_as, progress_as, as_body, hook_run}
use Rattle.mo_actor.specs.CommandPrograms.{Source, start, program}

turns_settle : (own : List ℕ) (n : ℕ) (m : Machine) (end : Completion (Effects command_language)) → (progress (turns own n m)).completion ≡ Some end → turns own (suc n) m ≡ turns own n m
turns_settle own zero m end e = absurd (cc)
turns_settle own (suc n) m end e = by (turn own m m.body.commands) e (turns_settle own n)
  where
    by : (x : Standing) → (progress (and_then (turns own n) x)).completion ≡ Some end
        → ((m : Machine) (end : Completion (Effects command_language)) → (progress (turns own n m)).completion ≡ Some end → turns own (suc n) m ≡ turns own n m)
        → and_then (turns own (suc n)) x ≡ and_then (turns own n) x
    by (Ended m end) e next = refl
    by (Still m) e next = next m end e

body_settles : (own : List ℕ) (table : CallTable Results Value) (store : ℕ) (body : Body) → Settles (body_run own table store body)
body_settles own table store body n end e = ap progress (turns_settle own n (machine table store body) end e)

hook_settles : {A : Type 0} (f : ℕ → A) (own : List ℕ) (cs : List Command) (store : ℕ) → Settles (hook_run f own cs store)
hook_settles {A = A} f own cs store n end e = by (body_run own (record { first = 0; calls = [] }) store (as_body cs) n).completion refl e
  where
    by : (c : Option (Completion (Effects command_language))) → (body_run own (record { first = 0; calls = [] }) store (as_body cs) n).completion ≡ c → completion_as f c ≡ Some end
        → hook_run f own cs store (suc n) ≡ hook_run f own cs store n
    by None is e = absurd (cc)
    by (Some c) is e = ap (λ p. progress_as f p) (body_settles own (record { first = 0; calls = [] }) store (as_body cs) n c is)

start_settles : (source : Source) (own : List ℕ) (kept : Option Kept) → Settles (start source own kept)
start_settles source own None = hook_settles (λ n. n) own source.initial 0
start_settles source own (Some kept) = by (same_results kept.of_type source.stable)
  where
    by : (b : Bool) → Settles (cond b (hook_run (λ n. n) own source.after_upgrade kept.number) (trapping (codes "incompatible stable types")))
    by true = hook_settles (λ n. n) own source.after_upgrade kept.number
    by false = by_trap.settles (codes "incompatible stable types")

pub programs_settle : (source : Source) → IsSettled (program source)
programs_settle source = record {
  run = λ own table store body. body_settles own table store body;
  start = λ own kept. start_settles source own kept;
  save = λ own store. hook_settles (λ n. record { of_type = source.stable; number = n }) own source.before_upgrade store;
}
