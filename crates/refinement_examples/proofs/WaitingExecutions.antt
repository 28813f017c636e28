-- The executions of the module that waits: from their first instruction to their end.
use Rattle.std.proofs.Common.{◌≡◌, ℕ, suc, ◌+◌, ◌-◌, ◌≤◌, Bool, true, false, List, [], ◌∷◌, ◌++◌, length, drop, Option, Some, None, refl, sym, ap, ◌∙◌, subst, arith, codes, nat_lt, nat_le}
use Rattle.std.proofs.lemmas.Bool.Decides.{nat_tests}
use Rattle.std.proofs.lemmas.List.{length-replicate}
use Rattle.wasm_tree.specs.Exec.{ExecutionLimits, Back, Host, Answers}
use Rattle.wasm_tree.specs.Frames.{enter}
use Rattle.wasm_tree.specs.Load.{blank, Instance, Loaded, load}
use Rattle.ic0_world.specs.declared.function.Ic0.TheVariants as f
use Rattle.ic0_world.specs.declared.kind.ExecutionKind.{ExecutionKind}
use Rattle.ic0_world.specs.declared.kind.ExecutionKind.TheVariants as kind
use Rattle.ic0_world.specs.Names.{function_of, functions}
use Rattle.ic0_world.specs.declared.world.World.{World}
use Rattle.ic0_world.specs.declared.world.OutgoingCall.{OutgoingCall}
use Rattle.ic0_world.specs.declared.world.Answer.TheVariants.{Replied}
use Rattle.ic0_world.specs.Act.{Gives}
use Rattle.ic0_world.specs.Allowed.{answers}
use Rattle.canister_host.specs.State.{Canister}
use Rattle.canister_host.specs.Entries.{host, imported_function, answer_of, call_of}
use Rattle.canister_host.specs.Execution.{Finishes, execution, store_of}
use Rattle.canister_host.specs.HostRun.{entry_of, callback_end}
use Rattle.actor_refinement.specs.Simulates.{world_of}
use Rattle.actor_refinement.specs.Limits.{IsWithin}
use Rattle.refinement_examples.specs.WaitingModule.{waiting_module}

not_below : (a b : ℕ) → b ≤ a → nat_lt a b ≡ false
not_below a b h = grind (arith, nat_tests)

le_test : (a b : ℕ) → a ≤ b → nat_le a b ≡ true
le_test a b h = grind (arith, nat_tests)

-- ---- code, where the host answers so

called_runs : (limits : ExecutionLimits) (h : Host World) (i : Instance) (w w1 w2 w3 : World) (depth room left : ℕ) → nat_lt room 17 ≡ false
    → h 0 (0 ∷ 0 ∷ 0 ∷ 1 ∷ 0 ∷ 0 ∷ 1 ∷ 0 ∷ []) i.memory w ≡ Answers None i.memory w1 → h 1 (2 ∷ 0 ∷ []) i.memory w1 ≡ Answers None i.memory w2
    → h 2 [] i.memory w2 ≡ Answers (Some 0) i.memory w3
    → enter (suc (suc depth)) limits waiting_module h room 4 (suc (suc (suc (suc (suc (suc (suc (suc (suc (suc (suc (suc (suc (suc (suc left))))))))))))))) (store_of i w) [] ≡ Back (suc left) (store_of i w3) []
called_runs limits h i w w1 w2 w3 depth room left frame a b c = rw (frame, a, b, c) refl

refused_runs : (limits : ExecutionLimits) (h : Host World) (i : Instance) (w w1 w2 w3 w4 : World) (depth room left : ℕ) → nat_lt room 17 ≡ false
    → h 0 (0 ∷ 0 ∷ 0 ∷ 1 ∷ 0 ∷ 0 ∷ 1 ∷ 0 ∷ []) i.memory w ≡ Answers None i.memory w1 → h 1 (2 ∷ 0 ∷ []) i.memory w1 ≡ Answers None i.memory w2
    → h 2 [] i.memory w2 ≡ Answers (Some 2) i.memory w3 → h 3 [] i.memory w3 ≡ Answers None i.memory w4
    → enter (suc (suc depth)) limits waiting_module h room 4 (suc (suc (suc (suc (suc (suc (suc (suc (suc (suc (suc (suc (suc (suc (suc left))))))))))))))) (store_of i w) [] ≡ Back left (store_of i w4) []
refused_runs limits h i w w1 w2 w3 w4 depth room left frame a b c d = rw (frame, a, b, c, d) refl

-- The callbacks of a reply and of a reject.
replied_runs : (limits : ExecutionLimits) (h : Host World) (i : Instance) (w w1 : World) (depth room left : ℕ) → nat_lt room 9 ≡ false → h 3 [] i.memory w ≡ Answers None i.memory w1
    → enter (suc (suc depth)) limits waiting_module h room 5 (suc left) (store_of i w) (0 ∷ []) ≡ Back left (store_of i w1) []
replied_runs limits h i w w1 depth room left frame a = rw (frame, a) refl

rejected_runs : (limits : ExecutionLimits) (h : Host World) (i : Instance) (w w1 : World) (depth room left : ℕ) → nat_lt room 9 ≡ false → h 3 [] i.memory w ≡ Answers None i.memory w1
    → enter (suc (suc depth)) limits waiting_module h room 6 (suc left) (store_of i w) (0 ∷ []) ≡ Back left (store_of i w1) []
rejected_runs limits h i w w1 depth room left frame a = rw (frame, a) refl

-- ---- what it begins with

abbrev zeros : List ℕ
zeros = blank 65536 0

length-zeros : length zeros ≡ 65536
unfolding blank
length-zeros = length-replicate {A = ℕ} 65536 0

abbrev pub memory : List ℕ
memory = codes "b" ++ drop (0 + 1) zeros

abbrev pub first : Instance
first = record { memory = memory; globals = []; table = Some 5 ∷ Some 6 ∷ Some 7 ∷ [] }

abbrev pub there : Canister
there = record { code = waiting_module; instance = first; stable = [] }

blank_table : blank {A = Option ℕ} 3 None ≡ None ∷ None ∷ None ∷ []
unfolding blank
blank_table = refl

pub loads : (limits : ExecutionLimits) → IsWithin limits → load limits waiting_module ≡ Loaded first
loads limits within =
    let pages : nat_le 1 limits.pages ≡ true = le_test 1 limits.pages within.least_pages in
    let fits : nat_le (0 + 1) (length zeros) ≡ true = le_test (0 + 1) (length zeros) (omega (arith, length-zeros)) in
    rw (pages, fits, blank_table) refl

-- ---- what the host answers

imported_new : imported_function waiting_module 0 ≡ Some f.CallNew
unfolding function_of functions
imported_new = refl

imported_cleanup : imported_function waiting_module 1 ≡ Some f.CallOnCleanup
unfolding function_of functions
imported_cleanup = refl

imported_perform : imported_function waiting_module 2 ≡ Some f.CallPerform
unfolding function_of functions
imported_perform = refl

imported_reply : imported_function waiting_module 3 ≡ Some f.MsgReply
unfolding function_of functions
imported_reply = refl

abbrev pub prepared_call : OutgoingCall
prepared_call = record { callee = []; method = codes "b"; argument = []; on_reply = record { function = 0; environment = 0 }; on_reject = record { function = 1; environment = 0 }; on_cleanup = None }

abbrev pub made_call : OutgoingCall
made_call = record prepared_call { on_cleanup = Some (record { function = 2; environment = 0 }) }

length_some : (n : ℕ) → n ≤ 1 → nat_le n (length memory) ≡ true
length_some n h = le_test n (length memory) (omega (arith, h))

module _ (limits : ExecutionLimits) (own caller argument : List ℕ) (count : ℕ) where
  abbrev pub going : World
  going = record (world_of limits own there caller argument false count) { kind = kind.Update }

  new_answers : host waiting_module 0 (0 ∷ 0 ∷ 0 ∷ 1 ∷ 0 ∷ 0 ∷ 1 ∷ 0 ∷ []) memory going ≡ Answers None memory (record going { prepared = Some prepared_call })
  new_answers =
      let a : nat_le 0 (length memory) ≡ true = length_some 0 (omega arith) in
      let b : nat_le 1 (length memory) ≡ true = length_some 1 (omega arith) in
      let gives : call_of (Some f.CallNew) (0 ∷ 0 ∷ 0 ∷ 1 ∷ 0 ∷ 0 ∷ 1 ∷ 0 ∷ []) memory going ≡ Gives None memory (record going { prepared = Some prepared_call }) = rw (a, b) refl in
      ap (λ i. answer_of (call_of i (0 ∷ 0 ∷ 0 ∷ 1 ∷ 0 ∷ 0 ∷ 1 ∷ 0 ∷ []) memory going)) imported_new ∙ ap answer_of gives

  cleanup_answers : host waiting_module 1 (2 ∷ 0 ∷ []) memory (record going { prepared = Some prepared_call }) ≡ Answers None memory (record going { prepared = Some made_call })
  cleanup_answers = ap (λ i. answer_of (call_of i (2 ∷ 0 ∷ []) memory (record going { prepared = Some prepared_call }))) imported_cleanup

  abbrev pub called : World
  called = record going { prepared = None; performed = made_call ∷ [] }

  abbrev refused : World
  refused = record going { prepared = None }

  abbrev pub replied : World
  replied = record refused { answer = Some (Replied []) }

  performs : nat_lt (count + 0) 500 ≡ true → host waiting_module 2 [] memory (record going { prepared = Some made_call }) ≡ Answers (Some 0) memory called
  performs e = ap (λ i. answer_of (call_of i [] memory (record going { prepared = Some made_call }))) imported_perform ∙ rw e refl

  refuses : nat_lt (count + 0) 500 ≡ false → host waiting_module 2 [] memory (record going { prepared = Some made_call }) ≡ Answers (Some 2) memory refused
  refuses e = ap (λ i. answer_of (call_of i [] memory (record going { prepared = Some made_call }))) imported_perform ∙ rw e refl

  replies : host waiting_module 3 [] memory refused ≡ Answers None memory replied
  replies = ap (λ i. answer_of (call_of i [] memory refused)) imported_reply

  -- ---- the method

  abbrev left_after : Bool → ℕ
  left_after true = suc (limits.steps - 15)
  left_after false = limits.steps - 15

  abbrev pub done : Bool → World
  done true = called
  done false = replied

  abbrev Goes : Bool → ℕ → ℕ → Type 0
  Goes t depth steps = enter (suc depth) limits waiting_module (host waiting_module) limits.stack 4 steps (store_of first going) [] ≡ Back (left_after t) (store_of first (done t)) []

  method_runs : IsWithin limits → (t : Bool) → nat_lt (count + 0) 500 ≡ t → Goes t (suc (limits.stack - 1)) (suc (suc (suc (suc (suc (suc (suc (suc (suc (suc (suc (suc (suc (suc (suc (limits.steps - 15))))))))))))))))
  method_runs within true e =
      called_runs limits (host waiting_module) first going (record going { prepared = Some prepared_call }) (record going { prepared = Some made_call }) called (limits.stack - 1) limits.stack (limits.steps - 15)
      (not_below limits.stack 17 (omega (arith, within.least_stack))) new_answers cleanup_answers (performs e)
  method_runs within false e =
      refused_runs limits (host waiting_module) first going (record going { prepared = Some prepared_call }) (record going { prepared = Some made_call }) refused replied (limits.stack - 1) limits.stack (limits.steps - 15)
      (not_below limits.stack 17 (omega (arith, within.least_stack))) new_answers cleanup_answers (refuses e) replies

  method_enters : IsWithin limits → (t : Bool) → nat_lt (count + 0) 500 ≡ t → Goes t limits.stack limits.steps
  method_enters within t e =
      let depth : limits.stack ≡ suc (limits.stack - 1) = omega (arith, within.least_stack) in
      let steps : limits.steps ≡ suc (suc (suc (suc (suc (suc (suc (suc (suc (suc (suc (suc (suc (suc (suc (limits.steps - 15))))))))))))))) = omega (arith, within.least_steps) in
      subst (λ d. Goes t d limits.steps) (sym depth) (subst (λ s. Goes t (suc (limits.stack - 1)) s) (sym steps) (method_runs within t e))

  pub method_ends : IsWithin limits → (t : Bool) → nat_lt (count + 0) 500 ≡ t → execution limits waiting_module first (entry_of kind.Update (Some 4) []) (world_of limits own there caller argument false count) ≡ Finishes (store_of first (done t))
  method_ends within t e = rw (method_enters within t e) refl

-- ---- the callbacks

abbrev as_kind : ExecutionKind → World → World
as_kind k w = record w { kind = k }

abbrev pub with_reply : World → World
with_reply w = record w { answer = Some (Replied w.reply_data) }

-- An execution that may answer its call, and has not.
pub record MayAnswer (w : World) : Type 0 where
  pub allowed : answers w.kind ≡ true
  pub unanswered : w.answered ≡ false
  pub no_answer : w.answer ≡ None

module _ (limits : ExecutionLimits) (within : IsWithin limits) (w : World) (may : MayAnswer w) where
  answers_now : host waiting_module 3 [] memory w ≡ Answers None memory (with_reply w)
  answers_now =
      let gives : call_of (Some f.MsgReply) [] memory w ≡ Gives None memory (with_reply w) = rw (may.allowed, may.unanswered, may.no_answer) refl in
      ap (λ i. answer_of (call_of i [] memory w)) imported_reply ∙ ap answer_of gives

  abbrev Enters : ℕ → ℕ → ℕ → Type 0
  Enters function depth steps = enter (suc depth) limits waiting_module (host waiting_module) limits.stack function steps (store_of first w) (0 ∷ []) ≡ Back (limits.steps - 1) (store_of first (with_reply w)) []

  frame : nat_lt limits.stack 9 ≡ false
  frame = not_below limits.stack 9 (omega (arith, within.least_stack))

  entered_by : (function : ℕ) → Enters function (suc (limits.stack - 1)) (suc (limits.steps - 1)) → Enters function limits.stack limits.steps
  entered_by function e =
      let depth : limits.stack ≡ suc (limits.stack - 1) = omega (arith, within.least_stack) in
      let steps : limits.steps ≡ suc (limits.steps - 1) = omega (arith, within.least_steps) in
      subst (λ d. Enters function d limits.steps) (sym depth) (subst (λ s. Enters function (suc (limits.stack - 1)) s) (sym steps) e)

  reply_enters : Enters 5 limits.stack limits.steps
  reply_enters = entered_by 5 (replied_runs limits (host waiting_module) first w (with_reply w) (limits.stack - 1) limits.stack (limits.steps - 1) frame answers_now)

  reject_enters : Enters 6 limits.stack limits.steps
  reject_enters = entered_by 6 (rejected_runs limits (host waiting_module) first w (with_reply w) (limits.stack - 1) limits.stack (limits.steps - 1) frame answers_now)

pub reply_ends : (limits : ExecutionLimits) → IsWithin limits → (w : World) → MayAnswer (as_kind kind.Reply w)
    → callback_end limits there kind.Reply (record { function = 0; environment = 0 }) w ≡ Finishes (store_of first (with_reply (as_kind kind.Reply w)))
reply_ends limits within w may = rw (reply_enters limits within (as_kind kind.Reply w) may) refl

pub reject_ends : (limits : ExecutionLimits) → IsWithin limits → (w : World) → MayAnswer (as_kind kind.Reject w)
    → callback_end limits there kind.Reject (record { function = 1; environment = 0 }) w ≡ Finishes (store_of first (with_reply (as_kind kind.Reject w)))
reject_ends limits within w may = rw (reject_enters limits within (as_kind kind.Reject w) may) refl
