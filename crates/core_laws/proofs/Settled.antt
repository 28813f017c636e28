-- Executions that have ended stay as they are.
use Rattle.std.proofs.Common.{◌≡◌, ℕ, zero, suc, refl, sym, ap, ◌∙◌, List, [], Option, Some, None}
use Rattle.mo_types.specs.declared.node.TypeId.{TypeId}
use Rattle.mo_types.specs.Calls.{CallTable}
use Rattle.mo_values.specs.Shapes.{Bytes}
use Rattle.mo_actor.specs.Executions.{Progress, Execution, Settles, ReadingCost, trapping, and_reading, after_reading}
use Rattle.core_ir.specs.Values.{Value}
use Rattle.core_ir.specs.Programs.{Program}
use Rattle.core_ir.specs.Worlds.{Given, World, Context}
use Rattle.core_ir.specs.Executions.{Entry, Step, Go, Ends, Stand, Still, Over, Machine, after_step, run, execution}
use Rattle.core_ir.specs.Messages.{Messages}
use Rattle.core_ir.specs.Actor.{Fields, Body, Enters, GoesOn, turns, run_body, body_progress, save, save_progress, start, start_progress, restarted}
use Rattle.core_laws.specs.Carried.{IsOver}
use Rattle.core_laws.specs.Laws.{ProgramsSettle}

module _ {S W : Type 0} (m : Machine S W) (c : Context) where
  later_step : (n : ℕ) → ((w d : ℕ) (o : List Bytes) (wd : World) (s : S) → IsOver (run m c n w d o wd s) → run m c (suc n) w d o wd s ≡ run m c n w d o wd s)
      → (bodies w d : ℕ) (o : List Bytes) (x : Step S W) → IsOver (after_step (run m c n) bodies w d o x) → after_step (run m c (suc n)) bodies w d o x ≡ after_step (run m c n) bodies w d o x
  later_step n more bodies w d o (Go cost out wd s) h = more _ _ _ wd s h
  later_step n more bodies w d o (Ends cost out wd e) h = refl

  later_run : (n w d : ℕ) (o : List Bytes) (wd : World) (s : S) → IsOver (run m c n w d o wd s) → run m c (suc n) w d o wd s ≡ run m c n w d o wd s
  later_run zero w d o wd s h = absurd h
  later_run (suc n) w d o wd s h = later_step n (later_run n) (m.depth s) w d o (m.step c wd s) h

  later : (n : ℕ) (wd : World) (e : Entry W) → IsOver (execution m c n wd e) → execution m c (suc n) wd e ≡ execution m c n wd e
  later n wd e h = later_step n (later_run n) 0 0 0 [] (m.enters c wd e) h

trapping_settles : {A : Type 0} (text : List ℕ) → Settles {A = A} (trapping text)
trapping_settles text zero end z = absurd (let e : None ≡ Some end = z in cc)
trapping_settles text (suc n) end z = refl

reading_settles : {A : Type 0} (cost : ReadingCost) (x : Execution A) → Settles x → Settles (after_reading cost x)
reading_settles cost x h n end z = ap (and_reading cost) (h n end z)

module _ {S W K B : Type 0} (m : Machine S W) (messages : Messages K) (p : Program B) where
  turns_settle : {A : Type 0} (f : Stand S W → Progress A) → ((w d : ℕ) (o : List Bytes) (wd : World) (s : S) → (f (Still w d o wd s)).completion ≡ None)
      → (c : Context) (world : World) (e : Entry W) → Settles (turns m messages p f c world e)
  turns_settle f none c world e zero end z = absurd (let i : None ≡ Some end = z in cc)
  turns_settle f none c world e (suc n) end z = ap f (later m c n world e (over (execution m c n world e) z))
    where
      over : (a : Stand S W) → (f a).completion ≡ Some end → IsOver a
      over (Still w d o wd s) i = absurd (let j : None ≡ Some end = sym (none w d o wd s) ∙ i in cc)
      over (Over w d o wd r) i = tt

  body_settles : (own : Bytes) (table : CallTable (List TypeId) Given) (fields : Fields) (b : Body W) → Settles (run_body m messages p own table fields b)
  body_settles own table fields (Enters entry caller vs) = turns_settle (body_progress m messages p fields entry.results) (λ w d o wd s. refl) _ _ _
  body_settles own table fields (GoesOn x given) = turns_settle (body_progress m messages p fields x.results) (λ w d o wd s. refl) _ _ _

  restarted_settles : (own : Bytes) (r : Option (List (Option Value))) → Settles (restarted m messages p own r)
  restarted_settles own None = trapping_settles _
  restarted_settles own (Some vs) = turns_settle (start_progress m messages p) (λ w d o wd s. refl) _ _ _

  start_settles : (own : Bytes) (kept : Option K) → Settles (start m messages p own kept)
  start_settles own None = turns_settle (start_progress m messages p) (λ w d o wd s. refl) _ _ _
  start_settles own (Some kept) = reading_settles (messages.restoring_cost kept) (restarted m messages p own (messages.restore kept)) (restarted_settles own (messages.restore kept))

  save_settles : (own : Bytes) (fields : Fields) → Settles (save m messages p own fields)
  save_settles own fields = turns_settle (save_progress m messages p) (λ w d o wd s. refl) _ _ _

pub programs_settle : (S W K B : Type 0) → ProgramsSettle S W K B
programs_settle S W K B m messages p first =
    record { run = λ own table store body. body_settles m messages p own table store body; start = λ own kept. start_settles m messages p own kept; save = λ own store. save_settles m messages p own store }
