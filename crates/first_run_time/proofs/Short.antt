-- The entry that says which of two texts comes first, where its argument is too short.
use Rattle.std.proofs.Common.{◌≡◌, inl, inr, ◌⊎◌, ◌+◌, ◌-◌, ◌*◌, ◌<◌, ◌≤◌, ◌^◌, ℕ, List, [], ◌∷◌, ◌++◌, length, take, drop, replicate, true, false, cond, nat_lt, Ok, Err, refl, sym, ap, ◌∙◌, subst, arith, length-append}
use Rattle.std.proofs.lemmas.List.{length-take-le, take-append-le}
use Rattle.wasm_tree.specs.declared.trap.Trap.TheVariants as trap
use Rattle.wasm_tree.specs.declared.types.ValueType.TheVariants.{I32}
use Rattle.wasm_tree.specs.declared.op.LoadKind.TheVariants as load
use Rattle.wasm_tree.specs.Imports.{entry_type}
use Rattle.wasm_tree.specs.Numeric.{low, flag}
use Rattle.wasm_tree.specs.Exec.{Store, number_of, pages_of}
use Rattle.ic0_world.specs.declared.world.World.{World}
use Rattle.ic0_world.specs.Act.{longest_message}
use Rattle.low_ir.specs.Tree.{Code}
use Rattle.low_rules.specs.Rule.{CallEnd, Dies, Stops, refused, spend, loads, is_inside, after_block, after_call, Before, begins, ends}
use Rattle.low_rules.specs.Lines.{host_end}
use Rattle.low_rules.proofs.Steps.{on_flag, on_ok, low_is, le_test, lt_false}
use Rattle.memory_routines.specs.Heaps.{pages_for, heap_end, enlarged, HoldsBytes}
use Rattle.routine_lines.specs.Roles.{top_in, HasHeap}
use Rattle.first_run_time.specs.Entries.{short_trap, reply_order, order_entry}
use Rattle.first_run_time.specs.RunTime.{run_time, short_text}
use Rattle.first_run_time.specs.Laws.{first_size}
use Rattle.first_run_time.proofs.Parts.{bounded, taken, part_of, take_less, distance}
use Rattle.first_run_time.proofs.Hosts.{fresh, trapped, host_traps}
use Rattle.first_run_time.proofs.Queries.{does, B, with_heap, at, asked_trap, given, inside, small, argument_there, with_whole_argument}
use Rattle.first_run_time.proofs.Order.{first_place, reads, compares, begins_test}

-- The trap with the text within so many steps, or want of so many bytes.
abbrev pub TrapsWith : (pages most needs : ℕ) → Store World → World → CallEnd World → Type 0
TrapsWith pages most needs s w end =
    ((cost : ℕ) × (cost ≤ most) × (store : Store World) × (end ≡ Dies trap.Host cost store) × (store.world ≡ trapped short_text w))
    ⊎ ((cost : ℕ) × (cost ≤ most) × (store : Store World) × (end ≡ Dies trap.Unreachable cost (refused store)) × (store.world ≡ fresh w) × ((heap_end < top_in s + needs) ⊎ (pages < pages_for (top_in s + needs))))

module _ (pages : ℕ) (s : Store World) (w : World) (heaped : HasHeap s) (holds : HoldsBytes s.memory) (bytes : HoldsBytes w.argument) (few : length w.argument ≤ longest_message)
    (far : 18 ≤ top_in s) (text : take 18 s.memory ≡ short_text) (lacks : length w.argument < 4 + first_size w.argument) where
  abbrev size : ℕ
  size = length w.argument

  abbrev first : ℕ
  first = first_size w.argument

  abbrev top : ℕ
  top = top_in s

  abbrev one : 1 ≤ 1
  one = omega arith

  abbrev Ended : CallEnd World → Type 0
  Ended end = TrapsWith pages 120 size s w end

  abbrev G : Code → ℕ → Store World → List ℕ → Type 0
  G code spent it locals = B pages 1 one s w Ended code (at pages 1 one s w Ended spent it locals)

  abbrev memory : List ℕ
  memory = given pages 1 one s w Ended heaped holds bytes few

  abbrev store : Store World
  store = with_heap pages 1 one s w Ended (top + size) memory (fresh w)

  module _ (short : top + size ≤ heap_end) where
    within : top + size ≤ length memory
    within = inside pages 1 one s w Ended heaped holds bytes few short

    below : length memory < 2 ^ 32
    below = small pages 1 one s w Ended heaped holds bytes few short

    all : take size (drop top memory) ≡ w.argument
    all = argument_there pages 1 one s w Ended heaped holds bytes few short

    -- The text stands where it stood.
    same_text : take 18 memory ≡ short_text
    same_text =
        let larger : List ℕ = enlarged s.memory (pages_of s.memory) (top + size) in
        let grown = length-append s.memory (replicate (65536 * (pages_for (top + size) - pages_of s.memory)) 0) in
        let front : length (take top larger) ≡ top = length-take-le top larger (omega (arith, grown, heaped.is.inside)) in
        let whole = length-append (take top larger) (take size w.argument) in
        take-append-le 18 (take top larger ++ take size w.argument) (drop (top + length (take size w.argument)) larger) (omega (arith, whole, front, far))
        ∙ take-append-le 18 (take top larger) (take size w.argument) (omega (arith, front, far))
        ∙ take_less 18 top larger far
        ∙ take-append-le 18 s.memory (replicate (65536 * (pages_for (top + size) - pages_of s.memory)) 0) (omega (arith, far, heaped.is.inside))
        ∙ text

    traps : (rest : Code) (spent : ℕ) (locals : List ℕ) → spent + 3 ≤ 120
        → Before pages run_time (does pages 1 one s w Ended) short_trap (after_block (Before pages run_time (does pages 1 one s w Ended) rest (ends entry_type Ended)) (ends entry_type Ended)) (at pages 1 one s w Ended spent store locals)
    traps rest spent locals le = (
      asked_trap pages 1 one s w Ended store (0 ∷ 18 ∷ []),
      λ it e.
          subst (λ it. after_call (spend 3 (at pages 1 one s w Ended spent store locals)) (λ k value. after_block (Before pages run_time (does pages 1 one s w Ended) rest (ends entry_type Ended)) (ends entry_type Ended) (Stops trap.Unreachable (k.spent + 1) k.store)) (after_block (Before pages run_time (does pages 1 one s w Ended) rest (ends entry_type Ended)) (ends entry_type Ended)) it)
          (sym (e ∙ ap (host_end store) (host_traps w memory 18 (omega arith) (omega (arith, within, far)))))
          (inl (spent + 3 + 0, omega (arith, le), with_heap pages 1 one s w Ended (top + size) memory (trapped (take 18 memory) w), refl, ap (λ t. trapped t w) same_text)),
    )

    module _ (four : 4 ≤ size) where
      abbrev both : ℕ
      both = size - 4

      small_first : first < 2 ^ 32
      small_first =
          let length_four : length (take 4 w.argument) ≡ 4 = length-take-le 4 w.argument four in
          let h : first < 256 ^ length (take 4 w.argument) = bounded (take 4 w.argument) (taken 4 w.argument bytes) in
          let k : first < 256 ^ 4 = subst (λ n. first < 256 ^ n) length_four h in omega (arith, k)

      loaded : loads memory load.I32 (low I32 top + 0) ≡ Ok first
      loaded =
          let address : low I32 top + 0 ≡ top = ap (λ n. n + 0) (low_is top (omega (arith, within, below, four))) ∙ omega arith in
          let there : is_inside memory top 4 ≡ true = le_test (top + 4) (length memory) (omega (arith, within, four)) in
          let zero_more : top + 0 ≡ top = omega arith in
          let four_there : take 4 (drop top memory) ≡ take 4 w.argument = ap (λ n. take 4 (drop n memory)) (sym zero_more) ∙ part_of memory w.argument top size 0 4 all (omega (arith, four)) in
          ap (λ n. loads memory load.I32 n) address ∙ ap (λ t. cond t (Ok (number_of (take 4 (drop top memory)))) (Err trap.Bounds)) there ∙ ap (λ (l : List ℕ). Ok (number_of l)) four_there

      tested : (spent x : ℕ) → spent + 9 ≤ 120 → G compares spent store (both ∷ top ∷ first ∷ 0 ∷ 0 ∷ x ∷ [])
      tested spent x le =
          on_flag _ _ (nat_lt (low I32 both) (low I32 first))
          (λ c.
          let is : nat_lt both first ≡ false = sym (λ i. nat_lt (low_is both (omega (arith, few)) i) (low_is first small_first i)) ∙ c in
          let enough : first ≤ both = lt_false both first is in absurd (omega (arith, enough, lacks, four)))
          (λ c. traps first_place (spent + 4 + 2) (both ∷ top ∷ first ∷ 0 ∷ 0 ∷ flag (nat_lt (low I32 both) (low I32 first)) ∷ []) (omega (arith, le)))

      read : (spent x : ℕ) → spent + 16 ≤ 120 → G reads spent store (size ∷ top ∷ 0 ∷ 0 ∷ 0 ∷ x ∷ [])
      read spent x le =
          let less : low I32 (low I32 size + 2 ^ 32 - low I32 4) ≡ both = distance size 4 both (omega (arith, four)) (omega (arith, few)) in
          on_ok _ _ _ first loaded
          (subst (λ n. G compares (spent + 3 + 4) store (n ∷ top ∷ first ∷ 0 ∷ 0 ∷ x ∷ [])) (sym less) (tested (spent + 3 + 4) x (omega (arith, le))))

    begun : (spent : ℕ) → spent ≤ 58 → G begins_test spent store (size ∷ top ∷ 0 ∷ 0 ∷ 0 ∷ 0 ∷ [])
    begun spent le =
        on_flag _ _ (nat_lt (low I32 size) (low I32 4))
        (λ c.
        let is : nat_lt size 4 ≡ false = sym (λ i. nat_lt (low_is size (omega (arith, few)) i) 4) ∙ c in
        let four : 4 ≤ size = lt_false size 4 is in
        read four (spent + 4 + 2) (flag (nat_lt (low I32 size) (low I32 4))) (omega (arith, le)))
        (λ c. traps reads (spent + 4 + 2) (size ∷ top ∷ 0 ∷ 0 ∷ 0 ∷ flag (nat_lt (low I32 size) (low I32 4)) ∷ []) (omega (arith, le)))

  pub traps_with_text : B pages 1 one s w Ended reply_order (begins order_entry (record { memory = s.memory; globals = s.globals; table = s.table; refused = s.refused; world = fresh w }) [])
  traps_with_text =
      with_whole_argument pages 1 one s w Ended heaped holds bytes few begins_test (0 ∷ 0 ∷ 0 ∷ 0 ∷ []) (λ spent le short. begun short spent le)
      (λ cost le why. inr (cost, omega (arith, le), with_heap pages 1 one s w Ended top s.memory (fresh w), refl, refl, why))
