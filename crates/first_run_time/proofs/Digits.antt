-- The entry that replies with digits.
use Rattle.std.proofs.Common.{◌≡◌, inl, inr, ◌+◌, ◌-◌, ◌*◌, ◌<◌, ◌≤◌, ◌^◌, ℕ, List, [], ◌∷◌, ◌++◌, length, take, drop, Some, None, true, cond, Ok, Err, pos, refl, sym, ap, ◌∙◌, subst, arith}
use Rattle.std.specs.Prelude.{decimal}
use Rattle.std.proofs.lemmas.List.{length-take-le}
use Rattle.wasm_tree.specs.declared.trap.Trap.TheVariants as trap
use Rattle.wasm_tree.specs.declared.types.ValueType.TheVariants.{I32}
use Rattle.wasm_tree.specs.declared.op.BinaryOperator.TheVariants.{Add, Sub}
use Rattle.wasm_tree.specs.declared.op.LoadKind.TheVariants as load
use Rattle.wasm_tree.specs.Imports.{entry_type, copy_type, bytes_type}
use Rattle.wasm_tree.specs.Numeric.{low}
use Rattle.wasm_tree.specs.Exec.{Store, Answers, number_of, pages_of}
use Rattle.ic0_world.specs.declared.world.World.{World}
use Rattle.ic0_world.specs.Act.{longest_message}
use Rattle.low_ir.specs.declared.op.Operand.TheVariants.{Local, Word}
use Rattle.low_ir.specs.declared.op.Operation.TheVariants.{Binary, Load}
use Rattle.low_ir.specs.Tree.{Code, Stop, Set, Call}
use Rattle.low_ir.specs.Numbering.{host_types, host_signatures}
use Rattle.low_execution.specs.Host.{low_host}
use Rattle.low_rules.specs.Rule.{At, CallEnd, Contracts, spend, loads, is_inside, after_call, ResultTo, Before, begins, ends}
use Rattle.low_rules.specs.Lines.{line, host_end}
use Rattle.low_rules.proofs.Steps.{on_ok, low_is, le_test}
use Rattle.memory_routines.specs.Heaps.{pages_for, heap, heap_end, enlarged, HoldsBytes}
use Rattle.memory_routines.specs.Allocation.{Allocates}
use Rattle.memory_routines.specs.Numerals.{between, WritesDigits}
use Rattle.memory_routines.proofs.Copied.{grown_length, enough}
use Rattle.routine_lines.specs.Roles.{top_in, others_in, HasHeap, routine_table}
use Rattle.first_run_time.specs.Entries.{replies, reply_digits, digits_entry}
use Rattle.first_run_time.specs.RunTime.{run_time}
use Rattle.first_run_time.proofs.Parts.{bounded, taken, middle, replaced_length, distance, short_decimal}
use Rattle.first_run_time.proofs.Queries.{EndsWith}
use Rattle.first_run_time.proofs.Hosts.{fresh, saying, answered, host_copies, host_appends, host_replies}

module _ (pages : ℕ) (s : Store World) (w : World) (heaped : HasHeap s) (argument : 8 ≤ length w.argument) (bytes : HoldsBytes w.argument) where
  abbrev does : Contracts World
  does = line (routine_table pages run_time low_host) 1

  abbrev top : ℕ
  top = top_in s

  abbrev to : ℕ
  to = top + 20

  abbrev number : ℕ
  number = number_of (take 8 w.argument)

  abbrev text : List ℕ
  text = decimal number

  -- The store in the query's world, with this memory, and with this end of the heap.
  abbrev begun : Store World
  begun = record { memory = s.memory; globals = s.globals; table = s.table; refused = s.refused; world = fresh w }

  abbrev with_heap : List ℕ → World → Store World
  with_heap memory world = record { memory = memory; globals = (top + 28) ∷ others_in s; table = s.table; refused = s.refused; world = world }

  abbrev larger : List ℕ
  larger = enlarged s.memory (pages_of s.memory) (top + 28)

  abbrev given : List ℕ
  given = (take to larger ++ take 8 w.argument) ++ drop (to + length (take 8 w.argument)) larger

  abbrev pub Ended : CallEnd World → Type 0
  Ended end = EndsWith pages 600 28 text s w end

  abbrev B : Code → At World → Type 0
  B code h = Before pages run_time does code (ends entry_type Ended) h

  abbrev at : ℕ → Store World → ℕ → ℕ → ℕ → ℕ → At World
  at spent store a b n d = record { spent = spent; store = store; locals = a ∷ b ∷ n ∷ d ∷ [] }

  -- The code from each call on.
  abbrev appends : Code
  appends = Call None 4 (Local 3 ∷ Local 1 ∷ []) replies

  abbrev measures : Code
  measures = Set 1 (Binary I32 Sub (Local 1) (Local 3)) appends

  abbrev writes : Code
  writes = Call (Some 3) 26 (Local 1 ∷ Local 2 ∷ []) measures

  abbrev reads : Code
  reads = Set 2 (Load load.I64 (Local 1) 0) writes

  abbrev copies : Code
  copies = Call None 1 (Local 1 ∷ Word (pos 0) ∷ Word (pos 8) ∷ []) reads

  abbrev adds : Code
  adds = Set 1 (Binary I32 Add (Local 0) (Word (pos 20))) copies

  -- The host's functions have types.
  asked_reply : (store : Store World) (args : List ℕ) → (routine_table pages run_time low_host).Asks 1 6 store args
  unfolding host_types host_signatures
  asked_reply store args = (omega arith, (entry_type, refl))

  asked_append : (store : Store World) (args : List ℕ) → (routine_table pages run_time low_host).Asks 1 4 store args
  unfolding host_types host_signatures
  asked_append store args = (omega arith, (bytes_type, refl))

  asked_copy : (store : Store World) (args : List ℕ) → (routine_table pages run_time low_host).Asks 1 1 store args
  unfolding host_types host_signatures
  asked_copy store args = (omega arith, (copy_type, refl))

  replied : (spent a b n d : ℕ) (memory : List ℕ) → spent + 1 ≤ 600 → B replies (at spent (with_heap memory (saying text w)) a b n d)
  replied spent a b n d memory le = (
    asked_reply (with_heap memory (saying text w)) [],
    λ end e.
        subst (λ end. after_call (spend 1 (at spent (with_heap memory (saying text w)) a b n d)) (ResultTo None (Before pages run_time does Stop (ends entry_type Ended))) (ends entry_type Ended) end)
        (sym (e ∙ ap (host_end (with_heap memory (saying text w))) (host_replies w memory text)))
        (inl (spent + 1 + 0, omega (arith, le), with_heap memory (answered text w), refl, refl)),
  )

  appended : (spent a n from : ℕ) (memory : List ℕ) → spent + 5 ≤ 600 → from + length text ≤ length memory → length memory < 2 ^ 32 → length text ≤ longest_message → take (length text) (drop from memory) ≡ text
      → B appends (at spent (with_heap memory (fresh w)) a (length text) n from)
  appended spent a n from memory le inside small short same = (
    asked_append (with_heap memory (fresh w)) (from ∷ length text ∷ []),
    λ end e.
        subst (λ end. after_call (spend 3 (at spent (with_heap memory (fresh w)) a (length text) n from)) (ResultTo None (Before pages run_time does replies (ends entry_type Ended))) (ends entry_type Ended) end)
        (sym (e ∙ ap (host_end (with_heap memory (fresh w))) (host_appends w memory from (length text) inside small (subst (λ l. length l ≤ longest_message) (sym same) short) ∙ ap (λ l. Answers None memory (saying l w)) same)))
        (replied (spent + 3 + 0) a (length text) n from memory (omega (arith, le))),
  )

  measured : (spent a n from : ℕ) (memory : List ℕ) → spent + 9 ≤ 600 → from + length text ≡ to → to ≤ length memory → length memory < 2 ^ 32 → length text ≤ longest_message → take (length text) (drop from memory) ≡ text
      → B measures (at spent (with_heap memory (fresh w)) a to n from)
  measured spent a n from memory le e inside small short same =
      subst (λ b. B appends (at (spent + 4) (with_heap memory (fresh w)) a b n from)) (sym (distance to from (length text) e (omega (arith, inside, small))))
      (appended (spent + 4) a n from memory (omega (arith, le)) (omega (arith, e, inside)) small short same)

  abbrev AfterWriting : ℕ → ℕ → List ℕ → CallEnd World → Type 0
  AfterWriting spent a memory end =
      after_call (spend 3 (at spent (with_heap memory (fresh w)) a to number 0)) (ResultTo (Some 3) (Before pages run_time does measures (ends entry_type Ended))) (ends entry_type Ended) end

  written : (spent a : ℕ) (memory : List ℕ) → spent + 534 ≤ 600 → to + 8 ≤ length memory → length memory < 2 ^ 32 → number < 2 ^ 64 → B writes (at spent (with_heap memory (fresh w)) a to number 0)
  written spent a memory le inside small long = ((omega arith, (omega arith, omega (arith, inside), small, long)), λ end done. after end done)
    where
      after : (end : CallEnd World) → WritesDigits (with_heap memory (fresh w)) to number end → AfterWriting spent a memory end
      after end (from, cost, few, e, is) =
          let here : to ≤ length memory = omega (arith, inside) in
          let same : length (between memory from text to) ≡ length memory = replaced_length memory text from to e here in
          let front : length (take from memory) ≡ from = length-take-le from memory (omega (arith, e, here)) in
          let few_digits : length text ≤ 64 = short_decimal number in
          subst (AfterWriting spent a memory) (sym is)
          (measured (spent + 3 + cost + 1) a number from (between memory from text to) (omega (arith, le, few)) e (omega (arith, same, here)) (omega (arith, same, small)) (omega (arith, few_digits))
          (middle (take from memory) text (drop to memory) from (length text) front refl))

  eight : length (take 8 w.argument) ≡ 8
  eight = length-take-le 8 w.argument argument

  small_number : number < 2 ^ 64
  small_number = let h : number < 256 ^ length (take 8 w.argument) = bounded (take 8 w.argument) (taken 8 w.argument bytes) in let k : number < 256 ^ 8 = subst (λ n. number < 256 ^ n) eight h in omega (arith, k)

  module _ (short : top + 28 ≤ heap_end) where
    long : length larger ≡ 65536 * pages_of s.memory + 65536 * (pages_for (top + 28) - pages_of s.memory)
    long = grown_length s.memory (pages_of s.memory) top 28 heaped.is.whole

    inside : top + 28 ≤ length larger
    inside = subst (λ k. top + 28 ≤ k) (sym long) (enough (pages_of s.memory) top 28)

    small : length larger < 2 ^ 32
    small = omega (arith, long, short, heaped.is.few)

    ends_at : to + length (take 8 w.argument) ≡ to + 8
    ends_at = ap (λ n. to + n) eight

    same_length : length given ≡ length larger
    same_length = replaced_length larger (take 8 w.argument) to (to + length (take 8 w.argument)) refl (omega (arith, ends_at, inside))

    back : take 8 (drop to given) ≡ take 8 w.argument
    back = middle (take to larger) (take 8 w.argument) (drop (to + length (take 8 w.argument)) larger) to 8 (length-take-le to larger (omega (arith, inside))) eight

    loaded : loads given load.I64 (low I32 to + 0) ≡ Ok number
    loaded =
        let address : low I32 to + 0 ≡ to = ap (λ n. n + 0) (low_is to (omega (arith, inside, small))) ∙ omega arith in
        let there : is_inside given to 8 ≡ true = le_test (to + 8) (length given) (omega (arith, same_length, inside)) in
        ap (λ n. loads given load.I64 n) address ∙ ap (λ t. cond t (Ok (number_of (take 8 (drop to given)))) (Err trap.Bounds)) there ∙ ap (λ (l : List ℕ). Ok (number_of l)) back

    read : (spent : ℕ) → spent + 537 ≤ 600 → B reads (at spent (with_heap given (fresh w)) top to 0 0)
    read spent le = on_ok _ _ _ number loaded (written (spent + 3) top given (omega (arith, le)) (omega (arith, same_length, inside)) (omega (arith, same_length, small)) small_number)

    copied : (spent : ℕ) → spent + 541 ≤ 600 → B copies (at spent (with_heap larger (fresh w)) top to 0 0)
    copied spent le = (
      asked_copy (with_heap larger (fresh w)) (to ∷ 0 ∷ 8 ∷ []),
      λ end e.
          subst (λ end. after_call (spend 4 (at spent (with_heap larger (fresh w)) top to 0 0)) (ResultTo None (Before pages run_time does reads (ends entry_type Ended))) (ends entry_type Ended) end)
          (sym (e ∙ ap (host_end (with_heap larger (fresh w))) (host_copies w larger to 8 (omega (arith, inside)) small argument)))
          (read (spent + 4 + 0) (omega (arith, le))),
    )

    added : (spent : ℕ) → spent + 545 ≤ 600 → B adds (at spent (with_heap larger (fresh w)) top 0 0 0)
    added spent le =
        subst (λ b. B copies (at (spent + 4) (with_heap larger (fresh w)) top b 0 0)) (sym (low_is to (omega (arith, inside, small)))) (copied (spent + 4) (omega (arith, le)))

  abbrev AfterAllocating : CallEnd World → Type 0
  AfterAllocating end = after_call (spend 2 (begins digits_entry begun [])) (ResultTo (Some 0) (Before pages run_time does adds (ends entry_type Ended))) (ends entry_type Ended) end

  allocated : (end : CallEnd World) → Allocates pages begun s.memory (pages_of s.memory) top (others_in s) 28 end → AfterAllocating end
  allocated end (inl (cost, few, short, fits, e)) = subst AfterAllocating (sym e) (added short (0 + 2 + cost + 1) (omega (arith, few)))
  allocated end (inr (cost, few, wants, e)) = subst AfterAllocating (sym e) (inr (0 + 2 + cost, omega (arith, few), heap begun s.memory top (others_in s), refl, refl, wants))

  pub replies_with_digits : B reply_digits (begins digits_entry begun [])
  replies_with_digits = ((omega arith, (record { global = heaped.global; is = heaped.is }, omega arith)), allocated)
