-- Ends of the execution with a text, and prints.
use Rattle.std.proofs.Common.{◌≡◌, ℕ, suc, ◌+◌, ◌-◌, ◌*◌, ◌<◌, ◌≤◌, ◌^◌, List, [], ◌∷◌, length, true, false, Option, Some, None, pos, refl, sym, ap, ◌∙◌, subst, arith, inl}
use Rattle.std.specs.Prelude.{slice_index, slice_set}
use Rattle.mo_values.specs.Costs.{Cost}
use Rattle.mo_values.specs.Shapes.{Bytes, unit}
use Rattle.wasm_tree.specs.declared.trap.Trap.TheVariants as trap
use Rattle.wasm_tree.specs.declared.types.FunctionType.{FunctionType}
use Rattle.wasm_tree.specs.declared.types.ValueType.TheVariants.{I32, I64}
use Rattle.wasm_tree.specs.declared.op.LoadKind.TheVariants as load
use Rattle.wasm_tree.specs.Numeric.{low, flag, equals_zero}
use Rattle.wasm_tree.specs.Exec.{Host, Store, Answers, Refuses}
use Rattle.core_ir.specs.Primitives.{Done, Gives, Prints, Fails}
use Rattle.core_ir.specs.Worlds.{World}
use Rattle.low_ir.specs.declared.op.Operand.{Operand}
use Rattle.low_ir.specs.declared.op.Operand.TheVariants.{Local, Word}
use Rattle.low_ir.specs.Tree.{Code, Stop, Call, Module}
use Rattle.low_ir.specs.Numbering.{host_trap, host_types, host_signatures, type_of, defined}
use Rattle.low_ir.specs.Frames.{enter}
use Rattle.low_ir.specs.Meaning.{Calls}
use Rattle.low_rules.specs.Rule.{At, CodeEnd, Next, Stops, CallEnd, Dies, Contracts, ComesTo, Before, OnTest, is_zero, value_of, loads, spend, after_call, after_block, ResultTo, ends}
use Rattle.low_rules.specs.Lines.{host_end}
use Rattle.low_rules.proofs.Entering.{weaker, routine, answered}
use Rattle.low_rules.proofs.Steps.{on_ok, on_true, on_false, low_is}
use Rattle.heap_layout.specs.Words.{word_at}
use Rattle.heap_layout.specs.Ghosts.{Ghost}
use Rattle.heap_layout.specs.Heaps.{Plan}
use Rattle.heap_layout.specs.Table.{host_print}
use Rattle.heap_layout.specs.Laws.{IsRead}
use Rattle.heap_layout.proofs.Meanings.{same_later}
use Rattle.leaf_blocks.specs.Laws.{IsWritten}
use Rattle.number_routines.proofs.Calculated.{host_traps}
use Rattle.emitted_steps.specs.Operations.{HeapHeld, HostShows, Worked}
use Rattle.emitted_steps.proofs.Frames.{local_here, local_other}
use Rattle.operation_codes.specs.Links.{Links, fail, failing_routine}
use Rattle.operation_codes.specs.Codes.{gives_unit, traps_with, prints}
use Rattle.operation_lines.specs.Laws.{operation_steps}
use Rattle.operation_lines.proofs.Work.{Behind, behind_none, behind_set, put_in, End, Runs, does, unit_runs}

failing_type : FunctionType
failing_type = record { params = I32 ∷ []; results = [] }

-- The block of a text: word b has its size.
pub record TextBlock (memory : List ℕ) (b : ℕ) (text : Bytes) : Type 0 where
  pub read : IsRead memory b
  pub written : IsWritten memory b text
  pub short : length memory < 2 ^ 32

module _ {W : Type 0} (pages : ℕ) (m : Module) (host : Host W) (told fell : W → Bytes → W) (shows : HostShows host told fell) (deep room f signature : ℕ) (typed : type_of m f ≡ Some (record { params = I32 ∷ []; results = [] })) (there : defined m f ≡ Some (failing_routine signature)) (wide : 16 ≤ room) (store : Store W) where
  -- the execution has ended with the text
  pub record Failed (text : Bytes) (end : CallEnd W) : Type 0 where
    pub spent : ℕ
    pub after : Store W
    pub is : end ≡ Dies trap.Host spent after
    pub few : spent ≤ 40
    pub world : after.world ≡ fell store.world text

  module _ (b : ℕ) (text : Bytes) (block : TextBlock store.memory b text) where
    abbrev inner : Calls W
    inner = enter (suc deep) pages m host (room - 13)

    abbrev calls_inner : Contracts W
    calls_inner f store args q = ComesTo inner f store args q

    abbrev size : ℕ
    size = word_at store.memory b

    abbrev args : List ℕ
    args = low I32 (8 * b + 8) ∷ low I32 size ∷ []

    small : 8 * b + 8 + length text < 2 ^ 32
    small = let i = block.written.stands.inside in let s = block.short in omega (arith, i, s)

    args_are : args ≡ (8 * b + 8) ∷ length text ∷ []
    args_are =
        let s : low I32 size ≡ length text = ap (low I32) block.written.size ∙ low_is (length text) (omega (arith, small)) in
        λ i. low_is (8 * b + 8) (omega (arith, small)) i ∷ s i ∷ []

    told_it : host host_trap args store.memory store.world ≡ Refuses (fell store.world text)
    told_it = ap (λ a. host host_trap a store.memory store.world) args_are ∙ shows.traps store.memory store.world (8 * b + 8) text block.short block.written.stands

    abbrev end : CodeEnd W → Type 0
    end = ends (record { params = I32 ∷ []; results = [] }) (Failed text)

    abbrev at_trap : At W
    at_trap = record { spent = 0 + 3 + 3 + 4; store = store; locals = low I32 (8 * b + 8) ∷ size ∷ low I32 size ∷ [] }

    abbrev Trapped : CallEnd W → Type 0
    Trapped e = after_call (spend 3 at_trap) (λ (k : At W) (value : Option ℕ). end (Stops trap.Unreachable (k.spent + 1) k.store)) end e

    trapped : Trapped (host_end store (host host_trap args store.memory store.world))
    trapped = subst (λ a. Trapped (host_end store a)) (sym told_it) (record { spent = 0 + 3 + 3 + 4 + 3 + 0; after = _; is = refl; few = omega arith; world = refl })

    fails_so : Before pages m calls_inner fail end (record { spent = 0; store = store; locals = 8 * b ∷ 0 ∷ 0 ∷ [] })
    fails_so =
        let address : low I32 (8 * b) + 0 ≡ 8 * b = low_address ∙ omega arith in
        on_ok _ _ _ size (ap (λ n. loads store.memory load.I64 n) address ∙ block.read.load)
        (host_traps pages m host deep (room - 13) store args Trapped trapped)
      where
        low_address : low I32 (8 * b) + 0 ≡ 8 * b + 0
        low_address = ap (λ n. n + 0) block.read.address

    pub failing_call : ComesTo (enter (suc (suc deep)) pages m host room) f store (8 * b ∷ []) (Failed text)
    failing_call =
        routine pages m host (suc deep) room f (record { params = I32 ∷ []; results = [] }) (failing_routine signature) calls_inner store (8 * b ∷ []) (Failed text) typed there (omega (arith, wide)) (λ f store args q c. c) fails_so

    -- a call of it, wherever it stands
    pub fail_runs : (p : CodeEnd W → Type 0) (spent : ℕ) (locals : List ℕ) (x : Operand) → value_of x locals ≡ 8 * b → ((n : ℕ) (after : Store W) → n ≤ spent + 42 → after.world ≡ fell store.world text → p (Stops trap.Host n after))
        → Before pages m (λ f store args q. ComesTo (enter (suc (suc deep)) pages m host room) f store args q) (Call None f (x ∷ []) Stop) p (record { spent = spent; store = store; locals = locals })
    fail_runs p spent locals x x_is stops =
        subst (λ a. ComesTo (enter (suc (suc deep)) pages m host room) f store (a ∷ []) After) (sym x_is) (weaker _ f store (8 * b ∷ []) (Failed text) After ended failing_call)
      where
        After : CallEnd W → Type 0
        After e = after_call (spend 2 (record { spent = spent; store = store; locals = locals })) (ResultTo None (λ h. p (Next h))) p e

        ended : (e : CallEnd W) → Failed text e → After e
        ended e k = subst After (sym k.is) (stops (spent + 2 + k.spent) k.after (let few = k.few in omega (arith, few)) k.world)

print_type : (m : Module) → (t : FunctionType) × (type_of m host_print ≡ Some t)
unfolding host_types host_signatures
print_type m = (_, refl)

module _ {W : Type 0} (plan : Plan) (told fell : W → Bytes → W) (roof : ℕ) (g : Ghost) (world : World) (store : Store W) (top : ℕ) (held : HeapHeld plan g world store top) (locals : List ℕ) (to free : ℕ) (pages : ℕ) (m : Module) (host : Host W) (deep room : ℕ) (to_fits : to < length locals) (free_fits : 3 + free ≤ length locals)
    (shows : HostShows host told fell) (links : Links) (signature : ℕ) (typed : type_of m links.failing ≡ Some (record { params = I32 ∷ []; results = [] })) (there : defined m links.failing ≡ Some (failing_routine signature)) (wide : 16 ≤ room) (cost : Cost) (some : 1 ≤ cost.weight) where
  abbrev Does : Done → Code → Type 0
  Does d code = Runs plan told fell roof g world store top held locals to free pages m host (suc (suc deep)) room d code

  abbrev D : Contracts W
  D = does plan told fell roof g world store top held locals to free pages m host (suc (suc deep)) room

  abbrev E : Done → CodeEnd W → Type 0
  E d end = End plan told fell roof g world store top held locals to free d end

  pub stops_so : (text : Bytes) (n : ℕ) (after : Store W) → n ≤ 60 → after.world ≡ fell store.world text → E (Fails cost text) (Stops trap.Host n after)
  stops_so text n after few w = inl (record { cause_is = refl; few = omega (arith, few, some); world = w })

  -- with a text that stands ready
  pub fails_runs : (b : ℕ) (text : Bytes) → TextBlock store.memory b text → Does (Fails cost text) (Call None links.failing (Word (pos (8 * b)) ∷ []) Stop)
  fails_runs b text block =
      fail_runs pages m host told fell shows deep room links.failing signature typed there wide store b text block (E (Fails cost text)) 0 locals (Word (pos (8 * b))) refl (λ n after few w. stops_so text n after (omega (arith, few)) w)

  first_word : (v : ℕ) → slice_index (slice_set locals free v) free ≡ v
  first_word v = local_here locals free v (omega (arith, free_fits))

  first_set : (v : ℕ) → Behind free locals (slice_set locals free v)
  first_set v = behind_set free locals locals free v (omega arith) (omega arith) (behind_none free locals)

  -- with a text that is a value
  pub traps_runs : (b : ℕ) (text : Bytes) (a : Operand) → TextBlock store.memory b text → value_of a locals ≡ 8 * b → Does (Fails cost text) (traps_with links free a)
  traps_runs b text a block a_is =
      let x : ℕ = low I32 (value_of a locals) in
      let x_is : x ≡ 8 * b = ap (low I32) a_is ∙ block.read.address in
      fail_runs pages m host told fell shows deep room links.failing signature typed there wide store b text block (E (Fails cost text)) 3 (slice_set locals free x) (Local free) (first_word x ∙ x_is) (λ n after few w. stops_so text n after (omega (arith, few)) w)

  -- `assert`
  module _ (a : Operand) (text : Bytes) (block : TextBlock store.memory (links.bytes_at text) text) where
    abbrev v : ℕ
    v = equals_zero I64 (value_of a locals)

    abbrev base : List ℕ
    base = slice_set locals free v

    abbrev Asserts : Done → Code → Type 0
    Asserts d first = OnTest (is_zero (slice_index base free))
        (after_block (Before pages m D (gives_unit to) (E d)) (E d) (Next (record { spent = 0 + 3 + 2; store = store; locals = base })))
        (Before pages m D first (after_block (Before pages m D (gives_unit to) (E d)) (E d)) (record { spent = 0 + 3 + 2; store = store; locals = base }))

    pub passes : (first : Code) → value_of a locals ≡ flag true → Asserts (Gives cost unit world.store) first
    passes first e =
        on_true _ _ _ (ap is_zero (first_word v ∙ ap (equals_zero I64) e))
        (unit_runs plan told fell roof g world store top held locals to free pages m host (suc (suc deep)) room to_fits free_fits cost some 5 base (first_set v) (omega arith))

    pub falls : value_of a locals ≡ flag false → Asserts (Fails cost text) (Call None links.failing (Word (pos (8 * links.bytes_at text)) ∷ []) Stop)
    falls e =
        on_false _ _ _ (ap is_zero (first_word v ∙ ap (equals_zero I64) e))
        (fail_runs pages m host told fell shows deep room links.failing signature typed there wide store (links.bytes_at text) text block (after_block (Before pages m D (gives_unit to) (E (Fails cost text))) (E (Fails cost text))) 5 base (Word (pos (8 * links.bytes_at text))) refl
        (λ n after few w. stops_so text n after (omega (arith, few)) w))

  -- `Debug.print`
  module _ (b : ℕ) (text : Bytes) (a : Operand) (block : TextBlock store.memory b text) (a_is : value_of a locals ≡ 8 * b) where
    abbrev one : ℕ
    one = low I32 (value_of a locals)

    abbrev l1 : List ℕ
    l1 = slice_set locals free one

    abbrev bytes : ℕ
    bytes = word_at store.memory b

    abbrev l2 : List ℕ
    l2 = slice_set l1 (2 + free) bytes

    abbrev two : ℕ
    two = low I32 (slice_index l2 (2 + free))

    abbrev l3 : List ℕ
    l3 = slice_set l2 (1 + free) two

    abbrev three : ℕ
    three = low I32 (slice_index l3 free + 8)

    abbrev l4 : List ℕ
    l4 = slice_set l3 free three

    b1 : Behind free locals l1
    b1 = first_set one

    b2 : Behind free locals l2
    b2 = behind_set free locals l1 (2 + free) bytes (omega arith) (omega arith) b1

    b3 : Behind free locals l3
    b3 = behind_set free locals l2 (1 + free) two (omega arith) (omega arith) b2

    b4 : Behind free locals l4
    b4 = behind_set free locals l3 free three (omega arith) (omega arith) b3

    in_memory : 8 * b + 8 + length text < 2 ^ 32
    in_memory = let i = block.written.stands.inside in let s = block.short in omega (arith, i, s)

    one_is : one ≡ 8 * b
    one_is = ap (low I32) a_is ∙ block.read.address

    two_is : two ≡ length text
    two_is = ap (low I32) (local_here l1 (2 + free) bytes (let l = b1.long in omega (arith, l, free_fits)) ∙ block.written.size) ∙ low_is (length text) (omega (arith, in_memory))

    first_three : slice_index l3 free ≡ 8 * b
    first_three = local_other l2 (1 + free) free two (λ e. omega (arith, e)) ∙ local_other l1 (2 + free) free bytes (λ e. omega (arith, e)) ∙ first_word one ∙ one_is

    three_is : three ≡ 8 * b + 8
    three_is = ap (λ n. low I32 (n + 8)) first_three ∙ low_is (8 * b + 8) (omega (arith, in_memory))

    printed_args : slice_index l4 free ∷ slice_index l4 (1 + free) ∷ [] ≡ (8 * b + 8) ∷ length text ∷ []
    printed_args =
        let x : slice_index l4 free ≡ 8 * b + 8 = local_here l3 free three (let l = b3.long in omega (arith, l, free_fits)) ∙ three_is in
        let y : slice_index l4 (1 + free) ≡ length text = local_other l3 free (1 + free) three (λ e. omega (arith, e)) ∙ local_here l2 (1 + free) two (let l = b2.long in omega (arith, l, free_fits)) ∙ two_is in
        λ i. x i ∷ y i ∷ []

    shown : host host_print (slice_index l4 free ∷ slice_index l4 (1 + free) ∷ []) store.memory store.world ≡ Answers None store.memory (told store.world text)
    shown = ap (λ a. host host_print a store.memory store.world) printed_args ∙ shows.prints store.memory store.world (8 * b + 8) text block.short block.written.stands

    -- the store after it
    abbrev printed : Store W
    printed = record { memory = store.memory; globals = store.globals; table = store.table; refused = store.refused; world = told store.world text }

    still_held : HeapHeld plan g world printed top
    still_held = record { count = held.count; others = held.others; is = λ i. record { memory = store.memory; globals = globals_are i; table = store.table; refused = store.refused; world = told store.world text }; holds = held.holds }
      where
        globals_are : store.globals ≡ 8 * top ∷ held.others
        globals_are = ap (λ s. s.globals) held.is

    left : Worked plan told fell operation_steps g world store locals top to free cost.weight (text ∷ []) unit world.store (record { spent = 0 + 3 + 3 + 3 + 4 + 3 + 0 + 2; store = printed; locals = slice_set l4 to 0 })
    left = record {
      word = 0;
      ghost = g;
      end = top;
      heap = still_held;
      later = same_later g store.memory;
      rep = record { small = omega arith; means = refl };
      put = put_in to free 0 locals l4 b4 to_fits;
      table = refl;
      some = omega arith;
      few = omega (arith, some);
      bytes = omega arith;
      shown = refl;
    }

    abbrev at_call : At W
    at_call = record { spent = 0 + 3 + 3 + 3 + 4; store = store; locals = l4 }

    abbrev AfterPrint : CallEnd W → Type 0
    AfterPrint e = after_call (spend 3 at_call) (ResultTo None (Before pages m D (gives_unit to) (E (Prints cost text)))) (E (Prints cost text)) e

    pub prints_runs : Does (Prints cost text) (prints to free a)
    prints_runs =
        let address : low I32 (slice_index l1 free) + 0 ≡ 8 * b = ap (λ n. low I32 n + 0) (first_word one ∙ one_is) ∙ ap (λ n. n + 0) block.read.address ∙ omega arith in
        let t = print_type m in
        on_ok _ _ _ bytes (ap (λ n. loads store.memory load.I64 n) address ∙ block.read.load)
        (answered pages m host (suc deep) room host_print t.0 store (slice_index l4 free ∷ slice_index l4 (1 + free) ∷ []) AfterPrint t.1 refl (subst (λ r. AfterPrint (host_end store r)) (sym shown) left))
