-- What completed executions of an actor leave: its own names as they were, and calls only where the activation changes.
use Rattle.std.proofs.Common.{◌≡◌, ℕ, zero, suc, refl, subst, List, [], length, Option, Some, None, Bool, true, false}
use Rattle.std.specs.Prelude.{cond, codes, map, nat_lt}
use Rattle.mo_types.specs.declared.node.TypeId.{TypeId}
use Rattle.mo_types.specs.Calls.{Answered, Call, CallTable, set_state}
use Rattle.mo_values.specs.Shapes.{Bytes}
use Rattle.mo_values.specs.Views.{message_in}
use Rattle.mo_actor.specs.CallAnswers.{Received, received_value, no_effects, resumed, answering}
use Rattle.mo_actor.specs.Executions.{Completion, Completes, Traps, trapping}
use Rattle.mo_actor.specs.IncomingCalls.{entered_body, entered}
use Rattle.mo_actor.specs.Programs as actor
use Rattle.mo_actor.specs.Programs.{Answer, Ending, Answers, Awaits, AwaitsNothing, Unchanged, Effects}
use Rattle.mo_actor.specs.States.{Actor, activation_at, waiting_on}
use Rattle.core_ir.specs.Values.{Value}
use Rattle.core_ir.specs.Programs.{Program}
use Rattle.core_ir.specs.Worlds.{Given, World}
use Rattle.core_ir.specs.Executions as machine
use Rattle.core_ir.specs.Executions.{Entry, Begins, Resumes, Stand, Still, Over, Machine, execution}
use Rattle.core_ir.specs.Calls.{most_bytes, too_long}
use Rattle.core_ir.specs.Messages.{Messages}
use Rattle.core_ir.specs.Actor.{Fields, Pending, Body, Enters, GoesOn, MethodEntry, core_language, actor_program, unpacked, call_of, effects, replied, rejected, waiting_ending, body_progress, context_of, world_of, run_body}

module _ {S V K B : Type 0} (m : Machine S V) (messages : Messages K) (p : Program B) where
  abbrev E : Type 0
  E = Effects (core_language V K)

  abbrev Kept : Fields → E → Type 0
  Kept f x = (x.store.names ≡ f.names) × (x.ending ≡ Unchanged → x.calls ≡ [])

  abbrev pub Leaves : Fields → Option (Completion E) → Type 0
  Leaves f o = (x : E) → o ≡ Some (Completes x) → Kept f x

  nothing : (f : Fields) → Leaves f None
  nothing f x e = absurd (let z : None ≡ Some (Completes x) = e in cc)

  traps : (f : Fields) (text : Bytes) → Leaves f (Some (Traps text))
  traps f text x e = absurd (let z : Some (Traps text) ≡ Some (Completes x) = e in cc)

  abbrev Moves : Ending (core_language V K) → Type 0
  Moves ending = ending ≡ Unchanged → ⊥

  left : (f : Fields) (w : World) (ending : Ending (core_language V K)) → Moves ending → Leaves f (effects m messages p f w ending)
  left f w ending u x e = by (record { store = record { cells = w.store; groups = w.groups; names = f.names }; calls = map (call_of m messages p) w.requests; ending = ending }) refl u e
    where
      by : (y : E) → y.store.names ≡ f.names → (y.ending ≡ Unchanged → ⊥) → Some (Completes y) ≡ Some (Completes x) → Kept f x
      by y n u i = subst (λ x. Kept f x) (let z : y ≡ x = cc in z) (n, λ k. absurd (u k))

  short : (b : Bool) (f : Fields) (text : Bytes) (o : Option (Completion E)) → Leaves f o → Leaves f (cond b (Some (Traps text)) o)
  short true f text o h = traps f text
  short false f text o h = h

  answers : (answer : Answer) → Moves (Answers answer)
  answers answer u = let z : Answers answer ≡ Unchanged = u in cc

  replied_leaves : (f : Fields) (results : List TypeId) (w d : ℕ) (prints : List Bytes) (world : World) (vs : List Value) (o : Option Bytes) → Leaves f (replied m messages p f results w d prints world vs o).completion
  replied_leaves f results w d prints world vs None = nothing f
  replied_leaves f results w d prints world vs (Some bytes) =
      short (nat_lt most_bytes (length bytes)) f too_long (effects m messages p f world (Answers (actor.Replies bytes))) (left f world (Answers (actor.Replies bytes)) (answers (actor.Replies bytes)))

  rejected_leaves : (f : Fields) (results : List TypeId) (w d : ℕ) (prints : List Bytes) (world : World) (o : Option Bytes) → Leaves f (rejected m messages p f results w d prints world o).completion
  rejected_leaves f results w d prints world None = nothing f
  rejected_leaves f results w d prints world (Some text) =
      short (nat_lt most_bytes (length text)) f too_long (effects m messages p f world (Answers (actor.Rejects 4 text))) (left f world (Answers (actor.Rejects 4 text)) (answers (actor.Rejects 4 text)))

  unlike : (number : ℕ) (x : Pending V) → Moves (Awaits number x)
  unlike number x u = let z : Awaits number x ≡ Unchanged = u in cc

  waits : (f : Fields) (results : List TypeId) (on : Option ℕ) (waiting : V) → Moves (waiting_ending m messages p f results on waiting)
  waits f results None waiting u = let z : AwaitsNothing ≡ Unchanged = u in cc
  waits f results (Some number) waiting u = unlike number (record { results = results; waiting = waiting }) u

  stand_leaves : (f : Fields) (results : List TypeId) (s : Stand S V) → Leaves f (body_progress m messages p f results s).completion
  stand_leaves f results (Still w d prints world s) = nothing f
  stand_leaves f results (Over w d prints world (machine.Replies v)) = replied_leaves f results w d prints world (unpacked results v) (messages.spell results (unpacked results v))
  stand_leaves f results (Over w d prints world (machine.Rejects error)) = rejected_leaves f results w d prints world (message_in error)
  stand_leaves f results (Over w d prints world (machine.Waits on waiting)) = left f world (waiting_ending m messages p f results on waiting) (waits f results on waiting)
  stand_leaves f results (Over w d prints world (machine.Traps text)) = traps f text
  stand_leaves f results (Over w d prints world machine.Breaks) = nothing f

  pub run_leaves : (own : Bytes) (table : CallTable (List TypeId) Given) (f : Fields) (b : Body V) (n : ℕ) → Leaves f (run_body m messages p own table f b n).completion
  run_leaves own table f (Enters entry caller vs) zero = nothing f
  run_leaves own table f (Enters entry caller vs) (suc n) = stand_leaves f entry.results (execution m (context_of m messages p own table f.names) n (world_of m messages p f) (Begins entry.place caller vs))
  run_leaves own table f (GoesOn x given) zero = nothing f
  run_leaves own table f (GoesOn x given) (suc n) = stand_leaves f x.results (execution m (context_of m messages p own table f.names) n (world_of m messages p f) (Resumes x.waiting given))

  trapping_leaves : (f : Fields) (text : Bytes) (n : ℕ) → Leaves f (trapping text n).completion
  trapping_leaves f text zero = nothing f
  trapping_leaves f text (suc n) = traps f text

  -- ---- executions of the actor

  module _ (first : ℕ) (own : Bytes) (a : Actor (core_language V K)) where
    abbrev P : actor.Program (core_language V K)
    P = actor_program m messages p first

    body_leaves : (o : Option (Body V)) (n : ℕ) → Leaves a.store (entered_body P own a o n).completion
    body_leaves None n = trapping_leaves a.store (codes "bad argument") n
    body_leaves (Some b) n = run_leaves own a.table a.store b n

    pub entered_leaves : (entry : MethodEntry) (caller argument : Bytes) (n : ℕ) → Leaves a.store (entered P own a entry caller argument n).completion
    entered_leaves entry caller argument n = body_leaves (P.enter entry caller argument) n

    unchanged : (x y : E) → y.store.names ≡ a.store.names → y.calls ≡ [] → Some (Completes y) ≡ Some (Completes x) → Kept a.store x
    unchanged x y k c i = subst (λ x. Kept a.store x) (let z : y ≡ x = cc in z) (k, λ u. c)

    resumed_leaves : (number : ℕ) (v : Option Given) (w : Option (Pending V)) (n : ℕ) → Leaves a.store (resumed P own a number v w n).completion
    resumed_leaves number None w n = trapping_leaves a.store (codes "bad reply") n
    resumed_leaves number (Some v) None n = λ x e. unchanged x (no_effects a) refl refl e
    resumed_leaves number (Some v) (Some w) n = run_leaves own (set_state a.table number (Answered (Some v))) a.store (GoesOn w v) n

    pub answering_leaves : (number : ℕ) (c : Call (List TypeId) Given) (received : Received) (n : ℕ) → Leaves a.store (answering P own a number c received n).completion
    answering_leaves number c received n = resumed_leaves number (received_value P own a c received) (waiting_on number (activation_at a.activations c.owner)) n
