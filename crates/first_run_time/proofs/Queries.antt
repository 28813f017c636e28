-- Parts of the entries: the argument in new memory, and the reply.
use Rattle.std.proofs.Common.{◌≡◌, inl, inr, ◌⊎◌, ◌+◌, ◌-◌, ◌*◌, ◌<◌, ◌≤◌, ◌^◌, ℕ, List, [], ◌∷◌, ◌++◌, length, take, drop, max, pos, true, ◌%◌, Some, None, refl, sym, ap, ◌∙◌, subst, arith}
use Rattle.std.proofs.lemmas.List.{length-take-le, take_all}
use Rattle.wasm_tree.specs.declared.trap.Trap.TheVariants as trap
use Rattle.wasm_tree.specs.Imports.{entry_type, size_type, copy_type, bytes_type}
use Rattle.wasm_tree.specs.Numeric.{low}
use Rattle.wasm_tree.specs.Exec.{Store, Answers, pages_of}
use Rattle.ic0_world.specs.declared.world.World.{World}
use Rattle.ic0_world.specs.Act.{longest_message}
use Rattle.module_laws.specs.Stored.{written}
use Rattle.module_laws.proofs.StoredBytes.{stored}
use Rattle.low_rules.proofs.Steps.{on_true, low_is, le_test}
use Rattle.std.proofs.Math.Nat.{mod-eq_of_lt}
use Rattle.wasm_tree.specs.declared.types.ValueType.TheVariants.{I32}
use Rattle.low_ir.specs.declared.op.Operand.{Operand}
use Rattle.low_ir.specs.declared.op.Operand.TheVariants.{Local, Word}
use Rattle.low_ir.specs.Tree.{Code, Stop, Call}
use Rattle.low_ir.specs.Numbering.{host_types, host_signatures}
use Rattle.low_execution.specs.Host.{low_host}
use Rattle.low_rules.specs.Rule.{At, CallEnd, Comes, Dies, Contracts, value_of, spend, refused, is_inside, after_call, ResultTo, Before, ends}
use Rattle.low_rules.specs.Lines.{line, host_end}
use Rattle.memory_routines.specs.Heaps.{pages_for, heap, heap_end, enlarged, HoldsBytes}
use Rattle.memory_routines.specs.Allocation.{Allocates}
use Rattle.memory_routines.proofs.Copied.{grown_length, enough}
use Rattle.memory_routines.proofs.Placing.{grown_bytes}
use Rattle.routine_lines.specs.Roles.{top_in, others_in, HasHeap, routine_table}
use Rattle.first_run_time.specs.Entries.{replies, reply_byte, with_argument}
use Rattle.first_run_time.specs.RunTime.{run_time}
use Rattle.first_run_time.proofs.Parts.{middle, replaced_length, replaced_bytes}
use Rattle.first_run_time.proofs.Hosts.{fresh, saying, answered, host_sizes, host_copies, host_appends, host_replies}

-- The reply within so many steps, or want of so many bytes.
abbrev pub EndsWith : (pages most needs : ℕ) → List ℕ → Store World → World → CallEnd World → Type 0
EndsWith pages most needs text s w end =
    ((cost : ℕ) × (cost ≤ most) × (store : Store World) × (end ≡ Comes cost store None) × (store.world ≡ answered text w))
    ⊎ ((cost : ℕ) × (cost ≤ most) × (store : Store World) × (end ≡ Dies trap.Unreachable cost (refused store)) × (store.world ≡ fresh w) × ((heap_end < top_in s + needs) ⊎ (pages < pages_for (top_in s + needs))))

module _ (pages level : ℕ) (one : 1 ≤ level) (s : Store World) (w : World) (Q : CallEnd World → Type 0) where
  abbrev pub does : Contracts World
  does = line (routine_table pages run_time low_host) level

  abbrev pub B : Code → At World → Type 0
  B code h = Before pages run_time does code (ends entry_type Q) h

  -- With this end of the heap, this memory and this world.
  abbrev pub with_heap : ℕ → List ℕ → World → Store World
  with_heap end memory world = record { memory = memory; globals = end ∷ others_in s; table = s.table; refused = s.refused; world = world }

  abbrev pub at : ℕ → Store World → List ℕ → At World
  at spent store locals = record { spent = spent; store = store; locals = locals }

  -- The host's functions have types.
  pub asked_trap : (store : Store World) (args : List ℕ) → (routine_table pages run_time low_host).Asks level 21 store args
  unfolding host_types host_signatures
  asked_trap store args = (one, (bytes_type, refl))

  asked_size : (store : Store World) (args : List ℕ) → (routine_table pages run_time low_host).Asks level 0 store args
  unfolding host_types host_signatures
  asked_size store args = (one, (size_type, refl))

  asked_copy : (store : Store World) (args : List ℕ) → (routine_table pages run_time low_host).Asks level 1 store args
  unfolding host_types host_signatures
  asked_copy store args = (one, (copy_type, refl))

  asked_append : (store : Store World) (args : List ℕ) → (routine_table pages run_time low_host).Asks level 4 store args
  unfolding host_types host_signatures
  asked_append store args = (one, (bytes_type, refl))

  asked_reply : (store : Store World) (args : List ℕ) → (routine_table pages run_time low_host).Asks level 6 store args
  unfolding host_types host_signatures
  asked_reply store args = (one, (entry_type, refl))

  replied : (spent end : ℕ) (locals memory text : List ℕ) → Q (Comes (spent + 1 + 0) (with_heap end memory (answered text w)) None) → B replies (at spent (with_heap end memory (saying text w)) locals)
  replied spent end locals memory text then = (
    asked_reply (with_heap end memory (saying text w)) [],
    λ it e.
        subst (λ it. after_call (spend 1 (at spent (with_heap end memory (saying text w)) locals)) (ResultTo None (Before pages run_time does Stop (ends entry_type Q))) (ends entry_type Q) it)
        (sym (e ∙ ap (host_end (with_heap end memory (saying text w))) (host_replies w memory text))) then,
  )

  -- A part of the memory as the reply.
  pub sends : (x y : Operand) (spent end from size : ℕ) (locals memory text : List ℕ) → value_of x locals ≡ from → value_of y locals ≡ size → from + size ≤ length memory → length memory < 2 ^ 32 → length text ≤ longest_message → take size (drop from memory) ≡ text
      → Q (Comes (spent + 3 + 0 + 1 + 0) (with_heap end memory (answered text w)) None) → B (Call None 4 (x ∷ y ∷ []) replies) (at spent (with_heap end memory (fresh w)) locals)
  sends x y spent end from size locals memory text p q inside small short same then = (
    asked_append (with_heap end memory (fresh w)) (value_of x locals ∷ value_of y locals ∷ []),
    λ it e.
        subst (λ it. after_call (spend 3 (at spent (with_heap end memory (fresh w)) locals)) (ResultTo None (Before pages run_time does replies (ends entry_type Q))) (ends entry_type Q) it)
        (sym (e ∙ ap (host_end (with_heap end memory (fresh w))) ((λ i. low_host 4 (p i ∷ q i ∷ []) memory (fresh w)) ∙ host_appends w memory from size inside small (subst (λ l. length l ≤ longest_message) (sym same) short) ∙ ap (λ l. Answers None memory (saying l w)) same)))
        (replied (spent + 3 + 0) end locals memory text then),
  )

  -- One byte as the reply.
  pub sends_byte : (spent end place v : ℕ) (more memory : List ℕ) → place + 1 ≤ length memory → length memory < 2 ^ 32 → v < 256
      → Q (Comes (spent + 3 + 3 + 0 + 1 + 0) (with_heap end (written memory place 1 v) (answered (v ∷ []) w)) None) → B reply_byte (at spent (with_heap end memory (fresh w)) (v ∷ place ∷ more))
  sends_byte spent end place v more memory inside small byte then =
      let address : low I32 place + 0 ≡ place = ap (λ n. n + 0) (low_is place (omega (arith, inside, small))) ∙ omega arith in
      let there : is_inside memory (low I32 place + 0) 1 ≡ true = ap (λ n. is_inside memory n 1) address ∙ le_test (place + 1) (length memory) inside in
      let is = stored memory place 1 v inside in
      let whole : v % 256 ≡ v = mod-eq_of_lt byte in
      let same : take 1 (drop place (written memory place 1 v)) ≡ v ∷ [] = is.here ∙ ap (λ n. n ∷ []) whole in
      on_true _ _ _ there
      (subst (λ n. B (Call None 4 (Local 1 ∷ Word (pos 1) ∷ []) replies) (at (spent + 3) (with_heap end (written memory n 1 v) (fresh w)) (v ∷ place ∷ more))) (sym address)
      (sends (Local 1) (Word (pos 1)) (spent + 3) end place 1 (v ∷ place ∷ more) (written memory place 1 v) (v ∷ []) refl refl (omega (arith, is.same_length, inside)) (omega (arith, is.same_length, small)) (omega arith) same then))

  abbrev top : ℕ
  top = top_in s

  -- A heap by its pages.
  pub has_heap : (end count : ℕ) (memory : List ℕ) (world : World) → length memory ≡ 65536 * count → count ≤ 65535 → end ≤ length memory → HasHeap (with_heap end memory world)
  has_heap end count memory world whole few inside = record { global = refl; is = record { whole = omega (arith, whole); few = omega (arith, whole, few); inside = inside } }

  module _ (heaped : HasHeap s) (holds : HoldsBytes s.memory) (bytes : HoldsBytes w.argument) (few : length w.argument ≤ longest_message) where
    abbrev size : ℕ
    size = length w.argument

    abbrev larger : List ℕ
    larger = enlarged s.memory (pages_of s.memory) (top + size)

    -- The memory with the argument.
    abbrev pub given : List ℕ
    given = (take top larger ++ take size w.argument) ++ drop (top + length (take size w.argument)) larger

    pub whole_argument : take size w.argument ≡ w.argument
    whole_argument = take_all size w.argument (omega arith)

    module _ (short : top + size ≤ heap_end) where
      abbrev count : ℕ
      count = max (pages_of s.memory) (pages_for (top + size))

      long : length larger ≡ 65536 * count
      long = grown_length s.memory (pages_of s.memory) top size heaped.is.whole ∙ omega arith

      inside_larger : top + size ≤ length larger
      inside_larger = subst (λ k. top + size ≤ k) (sym (grown_length s.memory (pages_of s.memory) top size heaped.is.whole)) (enough (pages_of s.memory) top size)

      pub few_pages : count ≤ 65535
      few_pages = omega (arith, heaped.is.few, short)

      same_size : length (take size w.argument) ≡ size
      same_size = ap length whole_argument

      ends_at : top + length (take size w.argument) ≤ length larger
      ends_at = omega (arith, same_size, inside_larger)

      pub given_long : length given ≡ 65536 * count
      given_long = replaced_length larger (take size w.argument) top (top + length (take size w.argument)) refl ends_at ∙ long

      pub inside : top + size ≤ length given
      inside = omega (arith, given_long, long, inside_larger)

      pub small : length given < 2 ^ 32
      small = omega (arith, given_long, few_pages)

      pub given_bytes : HoldsBytes given
      given_bytes = replaced_bytes larger (take size w.argument) top (top + length (take size w.argument)) (grown_bytes s.memory (65536 * (pages_for (top + size) - pages_of s.memory)) holds) (subst HoldsBytes (sym whole_argument) bytes)

      pub argument_there : take size (drop top given) ≡ w.argument
      argument_there = middle (take top larger) (take size w.argument) (drop (top + length (take size w.argument)) larger) top size (length-take-le top larger (omega (arith, inside_larger))) same_size ∙ whole_argument

      pub given_heap : HasHeap (with_heap (top + size) given (fresh w))
      given_heap = has_heap (top + size) count given (fresh w) given_long few_pages inside

    abbrev begun : Store World
    begun = record { memory = s.memory; globals = s.globals; table = s.table; refused = s.refused; world = fresh w }

    module _ (rest : Code) (more : List ℕ) (then : (spent : ℕ) → spent ≤ 58 → top + size ≤ heap_end → B rest (at spent (with_heap (top + size) given (fresh w)) (size ∷ top ∷ more)))
        (wants : (cost : ℕ) → cost ≤ 48 → (heap_end < top + size) ⊎ (pages < pages_for (top + size)) → Q (Dies trap.Unreachable cost (refused (heap begun s.memory top (others_in s))))) where
      abbrev copying : Code
      copying = Call None 1 (Local 1 ∷ Word (pos 0) ∷ Local 0 ∷ []) rest

      abbrev allocating : Code
      allocating = Call (Some 1) 22 (Local 0 ∷ []) copying

      copied : (spent : ℕ) → spent ≤ 54 → top + size ≤ heap_end → B copying (at spent (with_heap (top + size) larger (fresh w)) (size ∷ top ∷ more))
      copied spent le short = (
        asked_copy (with_heap (top + size) larger (fresh w)) (top ∷ 0 ∷ size ∷ []),
        λ it e.
            subst (λ it. after_call (spend 4 (at spent (with_heap (top + size) larger (fresh w)) (size ∷ top ∷ more))) (ResultTo None (Before pages run_time does rest (ends entry_type Q))) (ends entry_type Q) it)
            (sym (e ∙ ap (host_end (with_heap (top + size) larger (fresh w))) (host_copies w larger top size (inside_larger short) (omega (arith, long short, few_pages short)) (omega arith))))
            (then (spent + 4 + 0) (omega (arith, le)) short),
      )

      abbrev AfterAllocating : CallEnd World → Type 0
      AfterAllocating it = after_call (spend 2 (at (0 + 1 + 0 + 1) begun (size ∷ 0 ∷ more))) (ResultTo (Some 1) (Before pages run_time does copying (ends entry_type Q))) (ends entry_type Q) it

      allocated : (it : CallEnd World) → Allocates pages begun s.memory (pages_of s.memory) top (others_in s) size it → AfterAllocating it
      allocated it (inl (cost, le, short, fits, e)) = subst AfterAllocating (sym e) (copied (0 + 1 + 0 + 1 + 2 + cost + 1) (omega (arith, le)) short)
      allocated it (inr (cost, le, why, e)) = subst AfterAllocating (sym e) (wants (0 + 1 + 0 + 1 + 2 + cost) (omega (arith, le)) why)

      sized : B allocating (at (0 + 1 + 0 + 1) begun (size ∷ 0 ∷ more))
      sized = ((one, (record { global = heaped.global; is = heaped.is }, omega (arith, few))), allocated)

      pub with_whole_argument : B (with_argument rest) (at 0 begun (0 ∷ 0 ∷ more))
      with_whole_argument = (
        asked_size begun [],
        λ it e.
            subst (λ it. after_call (spend 1 (at 0 begun (0 ∷ 0 ∷ more))) (ResultTo (Some 0) (Before pages run_time does allocating (ends entry_type Q))) (ends entry_type Q) it)
            (sym (e ∙ ap (host_end begun) (host_sizes w s.memory (omega (arith, few))))) sized,
      )
