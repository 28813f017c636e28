-- The entry that says which of two texts comes first.
use Rattle.std.proofs.Common.{◌≡◌, inl, inr, ◌+◌, ◌-◌, ◌*◌, ◌<◌, ◌≤◌, ◌^◌, ℕ, List, [], ◌∷◌, length, take, drop, Bool, true, false, cond, nat_lt, Some, Ok, Err, pos, refl, sym, ap, ◌∙◌, subst, arith, length-drop}
use Rattle.std.proofs.lemmas.List.{take_all}
use Rattle.wasm_tree.specs.declared.trap.Trap.TheVariants as trap
use Rattle.wasm_tree.specs.declared.types.ValueType.TheVariants.{I32}
use Rattle.wasm_tree.specs.declared.op.Comparison.TheVariants.{LtU, GtU}
use Rattle.wasm_tree.specs.declared.op.BinaryOperator.TheVariants.{Add, Sub}
use Rattle.wasm_tree.specs.declared.op.LoadKind.TheVariants as load
use Rattle.wasm_tree.specs.Imports.{entry_type}
use Rattle.wasm_tree.specs.Numeric.{low, flag}
use Rattle.wasm_tree.specs.Exec.{Store, number_of}
use Rattle.ic0_world.specs.declared.world.World.{World}
use Rattle.ic0_world.specs.Act.{longest_message}
use Rattle.module_laws.specs.Stored.{written}
use Rattle.low_ir.specs.declared.op.Operand.TheVariants.{Local, Word}
use Rattle.low_ir.specs.declared.op.Operation.TheVariants.{Compare, Binary, Load}
use Rattle.low_ir.specs.Tree.{Code, Stop, Set, If, Call}
use Rattle.low_rules.specs.Rule.{CallEnd, Comes, spend, loads, is_inside, after_call, ResultTo, Before, begins, ends}
use Rattle.low_rules.proofs.Steps.{on_flag, on_ok, low_is, le_test, lt_true}
use Rattle.memory_routines.specs.Heaps.{heap_end, HoldsBytes}
use Rattle.memory_routines.specs.Order.{text_order, order_of, AreBoth, Orders}
use Rattle.routine_lines.specs.Roles.{top_in, HasHeap}
use Rattle.first_run_time.specs.Entries.{reply_byte, short_trap, reply_order, order_entry}
use Rattle.first_run_time.specs.RunTime.{run_time}
use Rattle.first_run_time.specs.Laws.{first_size, asked_order}
use Rattle.first_run_time.proofs.Parts.{part_of, distance}
use Rattle.first_run_time.proofs.Hosts.{fresh, answered}
use Rattle.first_run_time.proofs.Queries.{EndsWith, does, B, with_heap, at, sends_byte, given, inside, small, given_bytes, argument_there, with_whole_argument}

either_small : (t : Bool) (a b : ℕ) → a < 256 → b < 256 → cond t a b < 256
either_small true a b p q = p
either_small false a b p q = q

order_small : (a b : List ℕ) → text_order a b < 256
order_small [] [] = omega arith
order_small [] (y ∷ ys) = omega arith
order_small (x ∷ xs) [] = omega arith
order_small (x ∷ xs) (y ∷ ys) =
    either_small (nat_lt x y) 0 (cond (nat_lt y x) 2 (text_order xs ys)) (omega arith) (either_small (nat_lt y x) 2 (text_order xs ys) (omega arith) (order_small xs ys))

-- The code from each part on.
abbrev pub orders : Code
orders = Call (Some 0) 25 (Local 4 ∷ Local 2 ∷ Local 3 ∷ Local 0 ∷ []) reply_byte

abbrev pub leaves : Code
leaves = Set 0 (Binary I32 Sub (Local 0) (Local 2)) orders

abbrev pub second_place : Code
second_place = Set 3 (Binary I32 Add (Local 4) (Local 2)) leaves

abbrev pub first_place : Code
first_place = Set 4 (Binary I32 Add (Local 1) (Word (pos 4))) second_place

abbrev pub fits_test : Code
fits_test = If (Local 5) short_trap Stop first_place

abbrev pub compares : Code
compares = Set 5 (Compare I32 GtU (Local 2) (Local 0)) fits_test

abbrev pub subtracts : Code
subtracts = Set 0 (Binary I32 Sub (Local 0) (Word (pos 4))) compares

abbrev pub reads : Code
reads = Set 2 (Load load.I32 (Local 1) 0) subtracts

abbrev pub size_test : Code
size_test = If (Local 5) short_trap Stop reads

abbrev pub begins_test : Code
begins_test = Set 5 (Compare I32 LtU (Local 0) (Word (pos 4))) size_test

module _ (pages : ℕ) (s : Store World) (w : World) (heaped : HasHeap s) (holds : HoldsBytes s.memory) (bytes : HoldsBytes w.argument) (few : length w.argument ≤ longest_message) (fits : 4 + first_size w.argument ≤ length w.argument) where
  abbrev size : ℕ
  size = length w.argument

  abbrev first : ℕ
  first = first_size w.argument

  abbrev both : ℕ
  both = size - 4

  abbrev other : ℕ
  other = size - (4 + first)

  abbrev top : ℕ
  top = top_in s

  abbrev one : 1 ≤ 1
  one = omega arith

  abbrev answer : ℕ
  answer = asked_order w.argument

  abbrev Ended : CallEnd World → Type 0
  Ended end = EndsWith pages (46 * first + 120) size (answer ∷ []) s w end

  abbrev G : Code → ℕ → Store World → List ℕ → Type 0
  G code spent it locals = B pages 1 one s w Ended code (at pages 1 one s w Ended spent it locals)

  abbrev memory : List ℕ
  memory = given pages 1 one s w Ended heaped holds bytes few

  abbrev store : Store World
  store = with_heap pages 1 one s w Ended (top + size) memory (fresh w)

  module _ (short : top + size ≤ heap_end) where
    within : top + size ≤ length memory
    within = inside pages 1 one s w Ended heaped holds bytes few short

    below : length memory < 2 ^ 32
    below = small pages 1 one s w Ended heaped holds bytes few short

    all : take size (drop top memory) ≡ w.argument
    all = argument_there pages 1 one s w Ended heaped holds bytes few short

    texts : AreBoth memory (top + 4) first (top + 4 + first) other
    texts = record { first = omega (arith, within, fits); second = omega (arith, within, fits); small = below; bytes = given_bytes pages 1 one s w Ended heaped holds bytes few short }

    same : order_of memory (top + 4) first (top + 4 + first) other ≡ answer
    same =
        let sum : top + 4 + first ≡ top + (4 + first) = omega arith in
        let one_text : take first (drop (top + 4) memory) ≡ take first (drop 4 w.argument) = part_of memory w.argument top size 4 first all fits in
        let whole : take other (drop (4 + first) w.argument) ≡ drop (4 + first) w.argument = take_all other (drop (4 + first) w.argument) (omega (arith, length-drop (4 + first) w.argument)) in
        let two_text : take other (drop (top + 4 + first) memory) ≡ drop (4 + first) w.argument = ap (λ n. take other (drop n memory)) sum ∙ part_of memory w.argument top size (4 + first) other all (omega (arith, fits)) ∙ whole in
        λ i. text_order (one_text i) (two_text i)

    abbrev AfterOrdering : ℕ → ℕ → CallEnd World → Type 0
    AfterOrdering spent x end =
        after_call (spend 5 (at pages 1 one s w Ended spent store (other ∷ top ∷ first ∷ (top + 4 + first) ∷ (top + 4) ∷ x ∷ []))) (ResultTo (Some 0) (Before pages run_time (does pages 1 one s w Ended) reply_byte (ends entry_type Ended))) (ends entry_type Ended) end

    after_ordering : (spent x : ℕ) → spent ≤ 89 → (end : CallEnd World) → Orders store (top + 4) first (top + 4 + first) other end → AfterOrdering spent x end
    after_ordering spent x le end (cost, most, e) =
        subst (AfterOrdering spent x) (sym (e ∙ ap (λ n. Comes cost store (Some n)) same))
        (sends_byte pages 1 one s w Ended (spent + 5 + cost + 1) (top + size) top answer (first ∷ (top + 4 + first) ∷ (top + 4) ∷ x ∷ []) memory (omega (arith, within, fits)) below (order_small (take first (drop 4 w.argument)) (drop (4 + first) w.argument))
        (inl (spent + 5 + cost + 1 + 3 + 3 + 0 + 1 + 0, omega (arith, le, most), with_heap pages 1 one s w Ended (top + size) (written memory top 1 answer) (answered (answer ∷ []) w), refl, refl)))

    placed : (spent x : ℕ) → spent + 12 ≤ 89 → G first_place spent store (both ∷ top ∷ first ∷ 0 ∷ 0 ∷ x ∷ [])
    placed spent x le =
        let a : low I32 (top + 4) ≡ top + 4 = low_is (top + 4) (omega (arith, within, below, fits)) in
        let b : low I32 (top + 4 + first) ≡ top + 4 + first = low_is (top + 4 + first) (omega (arith, within, below, fits)) in
        let rest : low I32 (low I32 both + 2 ^ 32 - low I32 first) ≡ other = distance both first other (omega (arith, fits)) (omega (arith, few)) in
        subst (λ n. G second_place (spent + 4) store (both ∷ top ∷ first ∷ 0 ∷ n ∷ x ∷ [])) (sym a)
        (subst (λ n. G leaves (spent + 4 + 4) store (both ∷ top ∷ first ∷ n ∷ (top + 4) ∷ x ∷ [])) (sym b)
        (subst (λ n. G orders (spent + 4 + 4 + 4) store (n ∷ top ∷ first ∷ (top + 4 + first) ∷ (top + 4) ∷ x ∷ [])) (sym rest)
        ((omega arith, texts), after_ordering (spent + 4 + 4 + 4) x (omega (arith, le)))))

    tested : (spent x : ℕ) → spent + 18 ≤ 89 → G compares spent store (both ∷ top ∷ first ∷ 0 ∷ 0 ∷ x ∷ [])
    tested spent x le =
        on_flag _ _ (nat_lt (low I32 both) (low I32 first))
        (λ c. placed (spent + 4 + 2) (flag (nat_lt (low I32 both) (low I32 first))) (omega (arith, le)))
        (λ c.
        let is : nat_lt both first ≡ true = sym (λ i. nat_lt (low_is both (omega (arith, few)) i) (low_is first (omega (arith, few, fits)) i)) ∙ c in
        let more : both < first = lt_true both first is in absurd (omega (arith, more, fits)))

    loaded : loads memory load.I32 (low I32 top + 0) ≡ Ok first
    loaded =
        let address : low I32 top + 0 ≡ top = ap (λ n. n + 0) (low_is top (omega (arith, within, below, fits))) ∙ omega arith in
        let there : is_inside memory top 4 ≡ true = le_test (top + 4) (length memory) (omega (arith, within, fits)) in
        let zero_more : top + 0 ≡ top = omega arith in
        let four : take 4 (drop top memory) ≡ take 4 w.argument = ap (λ n. take 4 (drop n memory)) (sym zero_more) ∙ part_of memory w.argument top size 0 4 all (omega (arith, fits)) in
        ap (λ n. loads memory load.I32 n) address ∙ ap (λ t. cond t (Ok (number_of (take 4 (drop top memory)))) (Err trap.Bounds)) there ∙ ap (λ (l : List ℕ). Ok (number_of l)) four

    read : (spent x : ℕ) → spent + 25 ≤ 89 → G reads spent store (size ∷ top ∷ 0 ∷ 0 ∷ 0 ∷ x ∷ [])
    read spent x le =
        let less : low I32 (low I32 size + 2 ^ 32 - low I32 4) ≡ both = distance size 4 both (omega (arith, fits)) (omega (arith, few)) in
        on_ok _ _ _ first loaded
        (subst (λ n. G compares (spent + 3 + 4) store (n ∷ top ∷ first ∷ 0 ∷ 0 ∷ x ∷ [])) (sym less) (tested (spent + 3 + 4) x (omega (arith, le))))

    begun : (spent : ℕ) → spent ≤ 58 → G begins_test spent store (size ∷ top ∷ 0 ∷ 0 ∷ 0 ∷ 0 ∷ [])
    begun spent le =
        on_flag _ _ (nat_lt (low I32 size) (low I32 4))
        (λ c. read (spent + 4 + 2) (flag (nat_lt (low I32 size) (low I32 4))) (omega (arith, le)))
        (λ c.
        let is : nat_lt size 4 ≡ true = sym (λ i. nat_lt (low_is size (omega (arith, few)) i) 4) ∙ c in
        let more : size < 4 = lt_true size 4 is in absurd (omega (arith, more, fits)))

  pub replies_with_order : B pages 1 one s w Ended reply_order (begins order_entry (record { memory = s.memory; globals = s.globals; table = s.table; refused = s.refused; world = fresh w }) [])
  replies_with_order =
      with_whole_argument pages 1 one s w Ended heaped holds bytes few begins_test (0 ∷ 0 ∷ 0 ∷ 0 ∷ []) (λ spent le short. begun short spent le)
      (λ cost le why. inr (cost, omega (arith, le), with_heap pages 1 one s w Ended top s.memory (fresh w), refl, refl, why))
