-- The executions of the module: from their first instruction to their end.
use Rattle.std.proofs.Common.{◌≡◌, ℕ, suc, ◌+◌, ◌-◌, ◌≤◌, Bool, true, false, List, [], ◌∷◌, ◌++◌, length, drop, Option, Some, None, refl, sym, ap, ◌∙◌, subst, arith, codes, nat_lt, nat_le}
use Rattle.std.proofs.lemmas.Bool.Decides.{nat_tests}
use Rattle.std.proofs.lemmas.List.{length-replicate}
use Rattle.wasm_tree.specs.Exec.{ExecutionLimits, Back, Fell, Host, Answers, Refuses}
use Rattle.wasm_tree.specs.declared.trap.Trap.TheVariants as trap
use Rattle.wasm_tree.specs.Frames.{enter}
use Rattle.wasm_tree.specs.Load.{blank, Instance, Loaded, load}
use Rattle.ic0_world.specs.declared.function.Ic0.TheVariants as f
use Rattle.ic0_world.specs.declared.kind.ExecutionKind.TheVariants as kind
use Rattle.ic0_world.specs.Names.{function_of, functions}
use Rattle.ic0_world.specs.declared.world.World.{World}
use Rattle.ic0_world.specs.declared.kind.ExecutionKind.{ExecutionKind}
use Rattle.ic0_world.specs.declared.world.OutgoingCall.{OutgoingCall}
use Rattle.ic0_world.specs.declared.world.Answer.TheVariants.{Replied}
use Rattle.ic0_world.specs.Act.{Gives, Traps}
use Rattle.play_script.specs.declared.item.Word.TheVariants as word
use Rattle.canister_host.specs.State.{Canister}
use Rattle.canister_host.specs.Entries.{host, imported_function, answer_of, call_of}
use Rattle.canister_host.specs.Execution.{Finishes, Breaks, execution, store_of}
use Rattle.canister_host.specs.HostRun.{entry_of, callback_end}
use Rattle.actor_refinement.specs.Simulates.{world_of}
use Rattle.actor_refinement.specs.Limits.{IsWithin}
use Rattle.refinement_examples.specs.CallingModule.{calling_module}

not_below : (a b : ℕ) → b ≤ a → nat_lt a b ≡ false
not_below a b h = grind (arith, nat_tests)

le_test : (a b : ℕ) → a ≤ b → nat_le a b ≡ true
le_test a b h = grind (arith, nat_tests)

go_runs : (limits : ExecutionLimits) (h : Host World) (i : Instance) (w w1 w2 w3 w4 : World) (r depth room left : ℕ) → nat_lt room 16 ≡ false
    → h 0 (0 ∷ 0 ∷ 0 ∷ 1 ∷ 0 ∷ 0 ∷ 1 ∷ 0 ∷ []) i.memory w ≡ Answers None i.memory w1 → h 1 (1 ∷ 0 ∷ []) i.memory w1 ≡ Answers None i.memory w2
    → h 2 [] i.memory w2 ≡ Answers (Some r) i.memory w3 → h 3 [] i.memory w3 ≡ Answers None i.memory w4
    → enter (suc (suc depth)) limits calling_module h room 5 (suc (suc (suc (suc (suc (suc (suc (suc (suc (suc (suc (suc (suc (suc (suc left))))))))))))))) (store_of i w) [] ≡ Back left (store_of i w4) []
go_runs limits h i w w1 w2 w3 w4 r depth room left frame a b c d = rw (frame, a, b, c, d) refl

reply_runs : (limits : ExecutionLimits) (h : Host World) (i : Instance) (w w1 : World) (depth room left : ℕ) → nat_lt room 11 ≡ false
    → h 4 (0 ∷ 9 ∷ []) i.memory w ≡ Refuses w1
    → enter (suc (suc depth)) limits calling_module h room 6 (suc (suc (suc left))) (store_of i w) (0 ∷ []) ≡ Fell trap.Host (store_of i w1)
reply_runs limits h i w w1 depth room left frame a = rw (frame, a) refl

quiet_runs : (limits : ExecutionLimits) (h : Host World) (i : Instance) (w : World) (depth room left : ℕ) → nat_lt room 9 ≡ false
    → enter (suc (suc depth)) limits calling_module h room 7 left (store_of i w) (0 ∷ []) ≡ Back left (store_of i w) []
quiet_runs limits h i w depth room left frame = rw frame refl

-- What it begins with.

abbrev zeros : List ℕ
zeros = blank 65536 0

length-zeros : length zeros ≡ 65536
unfolding blank
length-zeros = length-replicate {A = ℕ} 65536 0

abbrev pub memory : List ℕ
memory = codes "bad reply" ++ drop (0 + 9) zeros

abbrev pub first : Instance
first = record { memory = memory; globals = []; table = Some 6 ∷ Some 7 ∷ [] }

abbrev pub there : Canister
there = record { code = calling_module; instance = first; stable = [] }

blank_table : blank {A = Option ℕ} 2 None ≡ None ∷ None ∷ []
unfolding blank
blank_table = refl

pub loads : (limits : ExecutionLimits) → IsWithin limits → load limits calling_module ≡ Loaded first
loads limits within =
    let pages : nat_le 1 limits.pages ≡ true = le_test 1 limits.pages within.least_pages in
    let fits : nat_le (0 + 9) (length zeros) ≡ true = le_test (0 + 9) (length zeros) (omega (arith, length-zeros)) in
    rw (pages, fits, blank_table) refl

-- What the host answers.

imported_new : imported_function calling_module 0 ≡ Some f.CallNew
unfolding function_of functions
imported_new = refl

imported_cleanup : imported_function calling_module 1 ≡ Some f.CallOnCleanup
unfolding function_of functions
imported_cleanup = refl

imported_perform : imported_function calling_module 2 ≡ Some f.CallPerform
unfolding function_of functions
imported_perform = refl

imported_reply : imported_function calling_module 3 ≡ Some f.MsgReply
unfolding function_of functions
imported_reply = refl

imported_trap : imported_function calling_module 4 ≡ Some f.Trap
unfolding function_of functions
imported_trap = refl

abbrev pub prepared_call : OutgoingCall
prepared_call = record { callee = []; method = codes "b"; argument = []; on_reply = record { function = 0; environment = 0 }; on_reject = record { function = 1; environment = 0 }; on_cleanup = None }

abbrev pub made_call : OutgoingCall
made_call = record prepared_call { on_cleanup = Some (record { function = 1; environment = 0 }) }

length_some : (n : ℕ) → n ≤ 9 → nat_le n (length memory) ≡ true
length_some n h = le_test n (length memory) (omega (arith, h))

module _ (limits : ExecutionLimits) (own caller argument : List ℕ) (count : ℕ) where
  abbrev pub going : World
  going = record (world_of limits own there caller argument false count) { kind = kind.Update }

  new_answers : host calling_module 0 (0 ∷ 0 ∷ 0 ∷ 1 ∷ 0 ∷ 0 ∷ 1 ∷ 0 ∷ []) memory going ≡ Answers None memory (record going { prepared = Some prepared_call })
  new_answers =
      let a : nat_le 0 (length memory) ≡ true = length_some 0 (omega arith) in
      let b : nat_le 1 (length memory) ≡ true = length_some 1 (omega arith) in
      let gives : call_of (Some f.CallNew) (0 ∷ 0 ∷ 0 ∷ 1 ∷ 0 ∷ 0 ∷ 1 ∷ 0 ∷ []) memory going ≡ Gives None memory (record going { prepared = Some prepared_call }) = rw (a, b) refl in
      ap (λ i. answer_of (call_of i (0 ∷ 0 ∷ 0 ∷ 1 ∷ 0 ∷ 0 ∷ 1 ∷ 0 ∷ []) memory going)) imported_new ∙ ap answer_of gives

  cleanup_answers : host calling_module 1 (1 ∷ 0 ∷ []) memory (record going { prepared = Some prepared_call }) ≡ Answers None memory (record going { prepared = Some made_call })
  cleanup_answers = ap (λ i. answer_of (call_of i (1 ∷ 0 ∷ []) memory (record going { prepared = Some prepared_call }))) imported_cleanup

  abbrev pub after : Bool → World
  after true = record going { prepared = None; performed = made_call ∷ [] }
  after false = record going { prepared = None }

  abbrev code : Bool → ℕ
  code true = 0
  code false = 2

  perform_answers : (t : Bool) → nat_lt (count + 0) 500 ≡ t → host calling_module 2 [] memory (record going { prepared = Some made_call }) ≡ Answers (Some (code t)) memory (after t)
  perform_answers true e = ap (λ i. answer_of (call_of i [] memory (record going { prepared = Some made_call }))) imported_perform ∙ rw e refl
  perform_answers false e = ap (λ i. answer_of (call_of i [] memory (record going { prepared = Some made_call }))) imported_perform ∙ rw e refl

  abbrev pub done : Bool → World
  done t = record (after t) { answer = Some (Replied []) }

  reply_answers : (t : Bool) → host calling_module 3 [] memory (after t) ≡ Answers None memory (done t)
  reply_answers true = ap (λ i. answer_of (call_of i [] memory (after true))) imported_reply
  reply_answers false = ap (λ i. answer_of (call_of i [] memory (after false))) imported_reply

  go_enters : IsWithin limits → (t : Bool) → nat_lt (count + 0) 500 ≡ t
      → enter (suc limits.stack) limits calling_module (host calling_module) limits.stack 5 limits.steps (store_of first going) [] ≡ Back (limits.steps - 15) (store_of first (done t)) []
  go_enters within t e =
      let depth : limits.stack ≡ suc (limits.stack - 1) = omega (arith, within.least_stack) in
      let steps : limits.steps ≡ suc (suc (suc (suc (suc (suc (suc (suc (suc (suc (suc (suc (suc (suc (suc (limits.steps - 15))))))))))))))) = omega (arith, within.least_steps) in
      let frame : nat_lt limits.stack 16 ≡ false = not_below limits.stack 16 (omega (arith, within.least_stack)) in
      subst (λ d. enter (suc d) limits calling_module (host calling_module) limits.stack 5 limits.steps (store_of first going) [] ≡ Back (limits.steps - 15) (store_of first (done t)) []) (sym depth)
      (subst (λ s. enter (suc (suc (limits.stack - 1))) limits calling_module (host calling_module) limits.stack 5 s (store_of first going) [] ≡ Back (limits.steps - 15) (store_of first (done t)) []) (sym steps)
      (go_runs limits (host calling_module) first going (record going { prepared = Some prepared_call }) (record going { prepared = Some made_call }) (after t) (done t) (code t) (limits.stack - 1) limits.stack (limits.steps - 15)
      frame new_answers cleanup_answers (perform_answers t e) (reply_answers t)))

  pub go_ends : IsWithin limits → (t : Bool) → nat_lt (count + 0) 500 ≡ t → execution limits calling_module first (entry_of kind.Update (Some 5) []) (world_of limits own there caller argument false count) ≡ Finishes (store_of first (done t))
  go_ends within t e = rw (go_enters within t e) refl

-- The callbacks.

module _ (limits : ExecutionLimits) (within : IsWithin limits) (w : World) where
  trap_answers : host calling_module 4 (0 ∷ 9 ∷ []) memory w ≡ Refuses (record w { trap_text = codes "bad reply" })
  trap_answers =
      let a : nat_le 9 (length memory) ≡ true = length_some 9 (omega arith) in
      let traps : call_of (Some f.Trap) (0 ∷ 9 ∷ []) memory w ≡ Traps (record w { trap_text = codes "bad reply" }) = rw a refl in
      ap (λ i. answer_of (call_of i (0 ∷ 9 ∷ []) memory w)) imported_trap ∙ ap answer_of traps

  reply_enters : enter (suc limits.stack) limits calling_module (host calling_module) limits.stack 6 limits.steps (store_of first w) (0 ∷ []) ≡ Fell trap.Host (store_of first (record w { trap_text = codes "bad reply" }))
  reply_enters =
      let depth : limits.stack ≡ suc (limits.stack - 1) = omega (arith, within.least_stack) in
      let steps : limits.steps ≡ suc (suc (suc (limits.steps - 3))) = omega (arith, within.least_steps) in
      let frame : nat_lt limits.stack 11 ≡ false = not_below limits.stack 11 (omega (arith, within.least_stack)) in
      subst (λ d. enter (suc d) limits calling_module (host calling_module) limits.stack 6 limits.steps (store_of first w) (0 ∷ []) ≡ Fell trap.Host (store_of first (record w { trap_text = codes "bad reply" }))) (sym depth)
      (subst (λ s. enter (suc (suc (limits.stack - 1))) limits calling_module (host calling_module) limits.stack 6 s (store_of first w) (0 ∷ []) ≡ Fell trap.Host (store_of first (record w { trap_text = codes "bad reply" }))) (sym steps)
      (reply_runs limits (host calling_module) first w (record w { trap_text = codes "bad reply" }) (limits.stack - 1) limits.stack (limits.steps - 3) frame trap_answers))

  quiet_enters : enter (suc limits.stack) limits calling_module (host calling_module) limits.stack 7 limits.steps (store_of first w) (0 ∷ []) ≡ Back limits.steps (store_of first w) []
  quiet_enters =
      let depth : limits.stack ≡ suc (limits.stack - 1) = omega (arith, within.least_stack) in
      let frame : nat_lt limits.stack 9 ≡ false = not_below limits.stack 9 (omega (arith, within.least_stack)) in
      subst (λ d. enter (suc d) limits calling_module (host calling_module) limits.stack 7 limits.steps (store_of first w) (0 ∷ []) ≡ Back limits.steps (store_of first w) []) (sym depth)
      (quiet_runs limits (host calling_module) first w (limits.stack - 1) limits.stack limits.steps frame)

abbrev as_kind : ExecutionKind → World → World
as_kind k w = record w { kind = k }

pub reply_ends : (limits : ExecutionLimits) → IsWithin limits → (w : World) → w.prints ≡ [] → callback_end limits there kind.Reply (record { function = 0; environment = 0 }) w ≡ Breaks (word.Text (codes "bad reply")) []
reply_ends limits within w none = rw (reply_enters limits within (as_kind kind.Reply w)) (ap (λ ps. Breaks (word.Text (codes "bad reply")) ps) none)

pub quiet_ends : (limits : ExecutionLimits) → IsWithin limits → (k : ExecutionKind) (w : World) → callback_end limits there k (record { function = 1; environment = 0 }) w ≡ Finishes (store_of first (as_kind k w))
quiet_ends limits within k w = rw (quiet_enters limits within (as_kind k w)) refl
