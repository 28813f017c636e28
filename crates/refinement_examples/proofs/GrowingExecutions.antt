-- The executions of the module that grows its stable memory: from their first instruction to their end.
use Rattle.std.proofs.Common.{◌≡◌, ℕ, suc, ◌+◌, ◌-◌, ◌/◌, ◌%◌, ◌<◌, ◌≤◌, true, false, List, [], ◌∷◌, ◌++◌, length, Some, None, refl, sym, ap, ◌∙◌, subst, arith, nat_lt, nat_le, nat_eq, ne_eqb, leb-true}
use Rattle.std.proofs.lemmas.Bool.Decides.{nat_tests}
use Rattle.std.proofs.lemmas.List.{length-replicate}
use Rattle.std.proofs.Math.Nat.{mod-eq_of_lt}
use Rattle.page_store.specs.Pages.{zero_pages}
use Rattle.play_script.specs.declared.item.Word.TheVariants as word
use Rattle.wasm_tree.specs.declared.trap.Trap.TheVariants as trap
use Rattle.wasm_tree.specs.Exec.{ExecutionLimits, Back, Fell, Host, Answers}
use Rattle.wasm_tree.specs.Frames.{enter}
use Rattle.wasm_tree.specs.Load.{blank, Instance, Loaded, load}
use Rattle.ic0_world.specs.declared.function.Ic0.TheVariants as f
use Rattle.ic0_world.specs.declared.kind.ExecutionKind.TheVariants as kind
use Rattle.ic0_world.specs.Names.{function_of, functions}
use Rattle.ic0_world.specs.declared.world.World.{World}
use Rattle.ic0_world.specs.declared.world.Answer.TheVariants.{Replied}
use Rattle.canister_host.specs.State.{Canister}
use Rattle.canister_host.specs.Entries.{host, imported_function, answer_of, call_of}
use Rattle.canister_host.specs.Execution.{Finishes, Breaks, execution, store_of}
use Rattle.canister_host.specs.HostRun.{entry_of}
use Rattle.actor_refinement.specs.Simulates.{world_of}
use Rattle.actor_refinement.specs.Limits.{IsWithin}
use Rattle.refinement_examples.specs.GrowingModule.{growing_module}

not_below : (a b : ℕ) → b ≤ a → nat_lt a b ≡ false
not_below a b h = grind (arith, nat_tests)

le_test : (a b : ℕ) → a ≤ b → nat_le a b ≡ true
le_test a b h = grind (arith, nat_tests)

-- ---- code, where the host answers so

grown_runs : (limits : ExecutionLimits) (h : Host World) (i : Instance) (w w1 w2 : World) (pages depth room left : ℕ) → nat_lt room 11 ≡ false
    → h 0 (1 ∷ []) i.memory w ≡ Answers (Some pages) i.memory w1 → nat_eq (pages % 18446744073709551616) 18446744073709551615 ≡ false → h 1 [] i.memory w1 ≡ Answers None i.memory w2
    → enter (suc (suc depth)) limits growing_module h room 2 (suc (suc (suc (suc (suc (suc left)))))) (store_of i w) [] ≡ Back left (store_of i w2) []
grown_runs limits h i w w1 w2 pages depth room left frame a b c = rw (frame, a, b, c) refl

refused_runs : (limits : ExecutionLimits) (h : Host World) (i : Instance) (w w1 : World) (depth room left : ℕ) → nat_lt room 11 ≡ false
    → h 0 (1 ∷ []) i.memory w ≡ Answers (Some 18446744073709551615) i.memory w1
    → enter (suc (suc depth)) limits growing_module h room 2 (suc (suc (suc (suc (suc (suc left)))))) (store_of i w) [] ≡ Fell trap.Unreachable (store_of i w1)
refused_runs limits h i w w1 depth room left frame a = rw (frame, a) refl

-- ---- what it begins with

abbrev pub memory : List ℕ
memory = blank 0 0

abbrev pub first : Instance
first = record { memory = memory; globals = []; table = blank 0 None }

abbrev pub on : List ℕ → Canister
on stable = record { code = growing_module; instance = first; stable = stable }

pub loads : (limits : ExecutionLimits) → load limits growing_module ≡ Loaded first
loads limits =
    let pages : nat_le 0 limits.pages ≡ true = le_test 0 limits.pages (omega arith) in
    rw pages refl

-- ---- what the host answers

imported_grow : imported_function growing_module 0 ≡ Some f.StableGrow
unfolding function_of functions
imported_grow = refl

imported_reply : imported_function growing_module 1 ≡ Some f.MsgReply
unfolding function_of functions
imported_reply = refl

pub page_long : length (zero_pages 1) ≡ 65536
unfolding zero_pages
page_long = length-replicate {A = ℕ} 65536 0

module _ (limits : ExecutionLimits) (within : IsWithin limits) (own stable caller argument : List ℕ) where
  abbrev pub pages_now : ℕ
  pages_now = length stable / 65536

  abbrev pub going : World
  going = record (world_of limits own (on stable) caller argument false 0) { kind = kind.Update }

  abbrev pub grown : World
  grown = record going { stable = record going.stable { bytes = stable ++ zero_pages 1 } }

  abbrev pub replied : World
  replied = record grown { answer = Some (Replied []) }

  abbrev pub refused : World
  refused = record going { stable_refused = true }

  grows : nat_le (pages_now + 1) limits.pages ≡ true → host growing_module 0 (1 ∷ []) memory going ≡ Answers (Some pages_now) memory grown
  grows e = ap (λ i. answer_of (call_of i (1 ∷ []) memory going)) imported_grow ∙ rw e refl

  is_refused : nat_le (pages_now + 1) limits.pages ≡ false → host growing_module 0 (1 ∷ []) memory going ≡ Answers (Some 18446744073709551615) memory refused
  is_refused e = ap (λ i. answer_of (call_of i (1 ∷ []) memory going)) imported_grow ∙ rw e refl

  replies : host growing_module 1 [] memory grown ≡ Answers None memory replied
  replies = ap (λ i. answer_of (call_of i [] memory grown)) imported_reply

  -- So few pages are not -1.
  no_refusal : nat_le (pages_now + 1) limits.pages ≡ true → nat_eq (pages_now % 18446744073709551616) 18446744073709551615 ≡ false
  no_refusal e =
      let room : pages_now + 1 ≤ limits.pages = leb-true (pages_now + 1) limits.pages e in
      let few : pages_now < 18446744073709551616 = omega (arith, room, within.most_pages) in
      let same : pages_now % 18446744073709551616 ≡ pages_now = mod-eq_of_lt few in
      ne_eqb (pages_now % 18446744073709551616) 18446744073709551615 (λ q. omega (arith, same, q, room, within.most_pages))

  frame : nat_lt limits.stack 11 ≡ false
  frame = not_below limits.stack 11 (omega (arith, within.least_stack))

  depth : limits.stack ≡ suc (limits.stack - 1)
  depth = omega (arith, within.least_stack)

  steps : limits.steps ≡ suc (suc (suc (suc (suc (suc (limits.steps - 6))))))
  steps = omega (arith, within.least_steps)

  grown_enters : nat_le (pages_now + 1) limits.pages ≡ true
      → enter (suc limits.stack) limits growing_module (host growing_module) limits.stack 2 limits.steps (store_of first going) [] ≡ Back (limits.steps - 6) (store_of first replied) []
  grown_enters e =
      subst (λ d. enter (suc d) limits growing_module (host growing_module) limits.stack 2 limits.steps (store_of first going) [] ≡ Back (limits.steps - 6) (store_of first replied) []) (sym depth)
      (subst (λ s. enter (suc (suc (limits.stack - 1))) limits growing_module (host growing_module) limits.stack 2 s (store_of first going) [] ≡ Back (limits.steps - 6) (store_of first replied) []) (sym steps)
      (grown_runs limits (host growing_module) first going grown replied pages_now (limits.stack - 1) limits.stack (limits.steps - 6) frame (grows e) (no_refusal e) replies))

  refused_enters : nat_le (pages_now + 1) limits.pages ≡ false
      → enter (suc limits.stack) limits growing_module (host growing_module) limits.stack 2 limits.steps (store_of first going) [] ≡ Fell trap.Unreachable (store_of first refused)
  refused_enters e =
      subst (λ d. enter (suc d) limits growing_module (host growing_module) limits.stack 2 limits.steps (store_of first going) [] ≡ Fell trap.Unreachable (store_of first refused)) (sym depth)
      (subst (λ s. enter (suc (suc (limits.stack - 1))) limits growing_module (host growing_module) limits.stack 2 s (store_of first going) [] ≡ Fell trap.Unreachable (store_of first refused)) (sym steps)
      (refused_runs limits (host growing_module) first going refused (limits.stack - 1) limits.stack (limits.steps - 6) frame (is_refused e)))

  pub grown_ends : nat_le (pages_now + 1) limits.pages ≡ true → execution limits growing_module first (entry_of kind.Update (Some 2) []) (world_of limits own (on stable) caller argument false 0) ≡ Finishes (store_of first replied)
  grown_ends e = rw (grown_enters e) refl

  pub refused_ends : nat_le (pages_now + 1) limits.pages ≡ false → execution limits growing_module first (entry_of kind.Update (Some 2) []) (world_of limits own (on stable) caller argument false 0) ≡ Breaks word.Heap []
  refused_ends e = rw (refused_enters e) refl
