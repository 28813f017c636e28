-- The entry that compares the halves of its argument.
use Rattle.std.proofs.Common.{◌≡◌, inl, inr, ◌⊎◌, ◌+◌, ◌-◌, ◌*◌, ◌/◌, ◌<◌, ◌≤◌, ◌^◌, ℕ, List, [], ◌∷◌, length, take, drop, Bool, true, false, Some, slice_get, pos, refl, sym, ap, ◌∙◌, subst, arith}
use Rattle.wasm_tree.specs.declared.trap.Trap.TheVariants as trap
use Rattle.wasm_tree.specs.declared.types.ValueType.TheVariants.{I32}
use Rattle.wasm_tree.specs.declared.op.BinaryOperator.TheVariants.{Add, ShrU}
use Rattle.wasm_tree.specs.Imports.{entry_type}
use Rattle.wasm_tree.specs.Numeric.{low, flag}
use Rattle.wasm_tree.specs.Exec.{Store, pages_of, entry}
use Rattle.ic0_world.specs.declared.world.World.{World}
use Rattle.ic0_world.specs.Act.{longest_message}
use Rattle.module_laws.specs.Stored.{written}
use Rattle.low_ir.specs.declared.op.Operand.TheVariants.{Local, Word}
use Rattle.low_ir.specs.declared.op.Operation.TheVariants.{Binary}
use Rattle.low_ir.specs.Tree.{Code, Set, Call, CallIndirect}
use Rattle.low_ir.specs.Numbering.{host_types, host_signatures}
use Rattle.low_rules.specs.Rule.{CallEnd, Comes, spend, Stops, after_call, ResultTo, target, target_of, OnFound, Before, begins, ends}
use Rattle.low_rules.proofs.Steps.{low_is}
use Rattle.memory_routines.specs.Heaps.{pages_for, heap_end, enlarged, HoldsBytes}
use Rattle.memory_routines.specs.Allocation.{Allocates}
use Rattle.memory_routines.specs.Texts.{text_eq, same_texts, AreTexts, Compares}
use Rattle.memory_routines.proofs.Copied.{grown_length, enough}
use Rattle.routine_lines.specs.Roles.{top_in, others_in, HasHeap}
use Rattle.first_run_time.specs.Entries.{reply_byte, reply_same, same_entry}
use Rattle.first_run_time.specs.RunTime.{run_time}
use Rattle.first_run_time.specs.Laws.{halves_are_same}
use Rattle.first_run_time.proofs.Parts.{part_of}
use Rattle.first_run_time.proofs.Hosts.{fresh, answered}
use Rattle.first_run_time.proofs.Queries.{EndsWith, does, B, with_heap, at, sends_byte, given, inside, small, given_bytes, given_heap, argument_there, with_whole_argument}

module _ (pages : ℕ) (s : Store World) (w : World) (heaped : HasHeap s) (holds : HoldsBytes s.memory) (bytes : HoldsBytes w.argument) (few : length w.argument ≤ longest_message) (slot : slice_get s.table 2 ≡ Some (Some 24)) where
  abbrev size : ℕ
  size = length w.argument

  abbrev half : ℕ
  half = size / 2

  abbrev top : ℕ
  top = top_in s

  abbrev one : 1 ≤ 1
  one = omega arith

  abbrev answer : ℕ
  answer = flag (halves_are_same w.argument)

  abbrev Ended : CallEnd World → Type 0
  Ended end = EndsWith pages (31 * half + 140) (size + 1) (answer ∷ []) s w end

  abbrev G : Code → ℕ → Store World → List ℕ → Type 0
  G code spent it locals = B pages 1 one s w Ended code (at pages 1 one s w Ended spent it locals)

  abbrev memory : List ℕ
  memory = given pages 1 one s w Ended heaped holds bytes few

  abbrev store : ℕ → List ℕ → Store World
  store end memory = with_heap pages 1 one s w Ended end memory (fresh w)

  abbrev allocates : Code
  allocates = Call (Some 1) 22 (Word (pos 1) ∷ []) reply_byte

  abbrev compares : Code
  compares = CallIndirect (Some 0) 25 (Local 1 ∷ Local 2 ∷ Local 0 ∷ []) (Word (pos 2)) allocates

  abbrev adds : Code
  adds = Set 2 (Binary I32 Add (Local 1) (Local 0)) compares

  abbrev halves : Code
  halves = Set 0 (Binary I32 ShrU (Local 0) (Word (pos 1))) adds

  flag_is_byte : (b : Bool) → flag b < 256
  flag_is_byte true = omega arith
  flag_is_byte false = omega arith

  sooner : (heap_end < top + size) ⊎ (pages < pages_for (top + size)) → (heap_end < top + (size + 1)) ⊎ (pages < pages_for (top + (size + 1)))
  sooner (inl h) = inl (omega (arith, h))
  sooner (inr h) = inr (omega (arith, h))

  module _ (short : top + size ≤ heap_end) where
    there : HasHeap (store (top + size) memory)
    there = given_heap pages 1 one s w Ended heaped holds bytes few short

    abbrev AfterAllocating : ℕ → CallEnd World → Type 0
    AfterAllocating spent end =
        after_call (spend 2 (at pages 1 one s w Ended spent (store (top + size) memory) (answer ∷ top ∷ (top + half) ∷ []))) (ResultTo (Some 1) (Before pages run_time (does pages 1 one s w Ended) reply_byte (ends entry_type Ended))) (ends entry_type Ended) end

    allocated : (spent : ℕ) → spent ≤ 31 * half + 81 → G allocates spent (store (top + size) memory) (answer ∷ top ∷ (top + half) ∷ [])
    allocated spent le = ((omega arith, (there, omega arith)), after)
      where
        after : (end : CallEnd World) → Allocates pages (store (top + size) memory) memory (pages_of memory) (top + size) (others_in s) 1 end → AfterAllocating spent end
        after end (inl (cost, most, fits, room, e)) =
            let larger : List ℕ = enlarged memory (pages_of memory) (top + size + 1) in
            let long : length larger ≡ 65536 * pages_of memory + 65536 * (pages_for (top + size + 1) - pages_of memory) = grown_length memory (pages_of memory) (top + size) 1 there.is.whole in
            let within : top + size + 1 ≤ length larger = subst (λ k. top + size + 1 ≤ k) (sym long) (enough (pages_of memory) (top + size) 1) in
            let below : length larger < 2 ^ 32 = omega (arith, long, fits, there.is.few) in
            subst (AfterAllocating spent) (sym e)
            (sends_byte pages 1 one s w Ended (spent + 2 + cost + 1) (top + size + 1) (top + size) answer ((top + half) ∷ []) larger within below (flag_is_byte (halves_are_same w.argument))
            (inl (spent + 2 + cost + 1 + 3 + 3 + 0 + 1 + 0, omega (arith, le, most), with_heap pages 1 one s w Ended (top + size + 1) (written larger (top + size) 1 answer) (answered (answer ∷ []) w), refl, refl)))
        after end (inr (cost, most, wants, e)) =
            let needs : top + size + 1 ≡ top + (size + 1) = omega arith in
            subst (AfterAllocating spent) (sym e)
            (inr (spent + 2 + cost, omega (arith, le, most), store (top + size) memory, refl, refl, subst (λ k. (heap_end < k) ⊎ (pages < pages_for k)) needs wants))

    same : same_texts memory top (top + half) half ≡ halves_are_same w.argument
    same =
        let all = argument_there pages 1 one s w Ended heaped holds bytes few short in
        let zero_more : top + 0 ≡ top = omega arith in
        let first : take half (drop top memory) ≡ take half w.argument = ap (λ n. take half (drop n memory)) (sym zero_more) ∙ part_of memory w.argument top size 0 half all (omega arith) in
        let second : take half (drop (top + half) memory) ≡ take half (drop half w.argument) = part_of memory w.argument top size half half all (omega arith) in
        λ i. text_eq (first i) (second i)

    texts : AreTexts memory top (top + half) half
    texts = record {
      first = omega (arith, inside pages 1 one s w Ended heaped holds bytes few short);
      second = omega (arith, inside pages 1 one s w Ended heaped holds bytes few short);
      small = small pages 1 one s w Ended heaped holds bytes few short;
      bytes = given_bytes pages 1 one s w Ended heaped holds bytes few short;
    }

    abbrev AfterComparing : ℕ → CallEnd World → Type 0
    AfterComparing spent end =
        after_call (spend 5 (at pages 1 one s w Ended spent (store (top + size) memory) (half ∷ top ∷ (top + half) ∷ []))) (ResultTo (Some 0) (Before pages run_time (does pages 1 one s w Ended) allocates (ends entry_type Ended))) (ends entry_type Ended) end

    after_comparing : (spent : ℕ) → spent ≤ 66 → (end : CallEnd World) → Compares (store (top + size) memory) top (top + half) half end → AfterComparing spent end
    after_comparing spent le end (cost, most, e) =
        subst (AfterComparing spent) (sym (e ∙ ap (λ b. Comes cost (store (top + size) memory) (Some (flag b))) same)) (allocated (spent + 5 + cost + 1) (omega (arith, le, most)))

    found : target run_time 25 (store (top + size) memory) 2 ≡ Some 24
    unfolding host_types host_signatures
    found = ap (λ o. target_of run_time 25 (entry o)) slot

    compared : (spent : ℕ) → spent ≤ 66 → G compares spent (store (top + size) memory) (half ∷ top ∷ (top + half) ∷ [])
    compared spent le =
        subst (λ t. OnFound t (λ f. does pages 1 one s w Ended f (store (top + size) memory) (top ∷ (top + half) ∷ half ∷ []) (AfterComparing spent)) (ends entry_type Ended (Stops trap.Indirect (spent + 5) (store (top + size) memory))))
        (sym found) ((omega arith, texts), after_comparing spent le)

    begun : (spent : ℕ) → spent ≤ 58 → G halves spent (store (top + size) memory) (size ∷ top ∷ 0 ∷ [])
    begun spent le =
        let within = inside pages 1 one s w Ended heaped holds bytes few short in
        let below = small pages 1 one s w Ended heaped holds bytes few short in
        let halved : low I32 size / 2 ≡ half = ap (λ n. n / 2) (low_is size (omega (arith, few))) in
        let place : low I32 (top + half) ≡ top + half = low_is (top + half) (omega (arith, within, below)) in
        subst (λ n. G adds (spent + 4) (store (top + size) memory) (n ∷ top ∷ 0 ∷ [])) (sym halved)
        (subst (λ n. G compares (spent + 4 + 4) (store (top + size) memory) (half ∷ top ∷ n ∷ [])) (sym place) (compared (spent + 4 + 4) (omega (arith, le))))

  pub replies_with_same : B pages 1 one s w Ended reply_same (begins same_entry (record { memory = s.memory; globals = s.globals; table = s.table; refused = s.refused; world = fresh w }) [])
  replies_with_same =
      with_whole_argument pages 1 one s w Ended heaped holds bytes few halves (0 ∷ []) (λ spent le short. begun short spent le)
      (λ cost le why. inr (cost, omega (arith, le), store top s.memory, refl, refl, sooner why))
