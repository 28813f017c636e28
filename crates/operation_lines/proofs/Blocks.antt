-- Blocks that are made: allocation, and words that are stored one by one.
use Rattle.std.proofs.Common.{◌≡◌, ◌⊎◌, inl, inr, ℕ, suc, ◌+◌, ◌*◌, ◌<◌, ◌≤◌, ◌^◌, List, [], ◌∷◌, length, true, Some, refl, sym, ap, ◌∙◌, subst, arith, Bool, false, ◌&&◌, nat_le}
use Rattle.std.specs.Prelude.{slice_index, slice_set}
use Rattle.mo_values.specs.Costs.{Cost}
use Rattle.mo_values.specs.Shapes.{Bytes}
use Rattle.wasm_tree.specs.declared.trap.Trap.TheVariants as trap
use Rattle.wasm_tree.specs.declared.types.ValueType.TheVariants.{I32}
use Rattle.wasm_tree.specs.declared.op.Conversion.TheVariants.{ExtendU}
use Rattle.wasm_tree.specs.Numeric.{low}
use Rattle.wasm_tree.specs.Exec.{Host, Store, pages_of}
use Rattle.core_ir.specs.Primitives as primitives
use Rattle.core_ir.specs.Primitives.{Done, Gives}
use Rattle.core_ir.specs.Values.{Value}
use Rattle.core_ir.specs.Worlds.{World, with_store}
use Rattle.low_ir.specs.declared.op.Operand.{Operand}
use Rattle.low_ir.specs.declared.op.Operand.TheVariants.{Local}
use Rattle.low_ir.specs.declared.op.Operation.TheVariants.{Convert}
use Rattle.low_ir.specs.Tree.{Code, Stop, Set, Module}
use Rattle.low_ir.specs.Frames.{enter}
use Rattle.low_rules.specs.Rule.{At, CodeEnd, Stops, CallEnd, Contracts, OnTest, ComesTo, Before, is_inside, value_of, refused, may_grow, spend, set_memory, after_call, ResultTo}
use Rattle.low_rules.proofs.Entering.{weaker}
use Rattle.low_rules.proofs.Steps.{le_test, not_le, on_true, on_false, low_is}
use Rattle.module_laws.specs.Stored.{written}
use Rattle.memory_routines.specs.Allocation.{allocation, Allocates}
use Rattle.memory_routines.specs.Heaps.{heap, heap_end, pages_for, enlarged}
use Rattle.memory_routines.specs.Laws.{IsThere, IsHeapStill}
use Rattle.memory_routines.proofs.Kept.{allocation_kept}
use Rattle.memory_routines.proofs.Stays.{heaps_stay}
use Rattle.heap_layout.specs.Ghosts.{Ghost}
use Rattle.heap_layout.specs.Fills.{filled, with_words}
use Rattle.heap_layout.specs.Means.{Rep}
use Rattle.heap_layout.specs.Heaps.{Plan, Holds}
use Rattle.heap_layout.specs.Later.{Later}
use Rattle.heap_layout.specs.Table.{bytes_for}
use Rattle.heap_layout.proofs.Fills.{filled_length}
use Rattle.emitted_steps.specs.Operations.{given, Clear, HeapHeld, Worked}
use Rattle.emitted_steps.proofs.Frames.{local_here}
use Rattle.operation_codes.specs.Links.{Links}
use Rattle.operation_codes.specs.Codes.{stores, new_block, too_large}
use Rattle.operation_lines.specs.Laws.{operation_steps}
use Rattle.operation_lines.proofs.Work.{Behind, behind_none, behind_set, clear_first, clear_rest, still, put_in, start, End, Runs, does}

-- The store with another memory.
abbrev pub over : {W : Type 0} → Store W → List ℕ → Store W
over s memory = record { memory = memory; globals = s.globals; table = s.table; refused = s.refused; world = s.world }

pub given_length : (xs : List Operand) (locals : List ℕ) → length (given xs locals) ≡ length xs
given_length [] locals = refl
given_length (x ∷ xs) locals = ap suc (given_length xs locals)

pub given_still : (free : ℕ) (locals base : List ℕ) → Behind free locals base → (xs : List Operand) → Clear free xs → given xs base ≡ given xs locals
given_still free locals base h [] c = refl
given_still free locals base h (x ∷ xs) c = λ i. still free locals base h x (clear_first free x xs c) i ∷ given_still free locals base h xs (clear_rest free x xs c) i

further : (a b roof pages : ℕ) → pages < pages_for a → pages_for roof ≤ pages → a ≤ b → roof < b
further a b roof pages many few le = omega (arith, many, few, le)

module _ {W : Type 0} (pages : ℕ) (m : Module) (does : Contracts W) (s : Store W) (free top : ℕ) (locals : List ℕ) (at : slice_index locals free ≡ 8 * top) (rest : Code) (p : CodeEnd W → Type 0) where
  abbrev point : ℕ → List ℕ → At W
  point spent memory = record { spent = spent; store = over s memory; locals = locals }

  -- words that are stored one by one, the i-th of the block at word j
  pub stores_run : (xs : List Operand) (i j spent : ℕ) (memory : List ℕ) → j ≡ top + i → 8 * j + 8 * length xs ≤ length memory → length memory < 2 ^ 32 → Before pages m does rest p (point (spent + 3 * length xs) (filled memory j (given xs locals)))
      → Before pages m does (stores free i xs rest) p (point spent memory)
  stores_run [] i j spent memory e room few h = subst (λ n. Before pages m does rest p (point n memory)) (omega arith) h
  stores_run (x ∷ xs) i j spent memory e room few h =
      let low_top : low I32 (8 * top) ≡ 8 * top = low_is (8 * top) (omega (arith, e, room, few)) in
      let address : low I32 (slice_index locals free) + 8 * i ≡ 8 * j = ap (λ n. low I32 n + 8 * i) at ∙ ap (λ n. n + 8 * i) low_top ∙ omega (arith, e) in
      let inside : is_inside memory (8 * j) 8 ≡ true = le_test (8 * j + 8) (length memory) (omega (arith, room)) in
      let long : length (written memory (8 * j) 8 (value_of x locals)) ≡ length memory = filled_length memory j (value_of x locals ∷ []) (omega (arith, room)) in
      subst Goal (sym address)
      (on_true _ _ _ inside
      (stores_run xs (1 + i) (suc j) (spent + 3) (written memory (8 * j) 8 (value_of x locals)) (omega (arith, e)) (omega (arith, room, long)) (omega (arith, few, long))
      (subst (λ n. Before pages m does rest p (point n (filled (written memory (8 * j) 8 (value_of x locals)) (suc j) (given xs locals)))) (omega arith) h)))
    where
      Goal : ℕ → Type 0
      Goal a = OnTest (is_inside memory a 8) (Before pages m does (stores free (1 + i) xs rest) p (spend 3 (set_memory (written memory a 8 (value_of x locals)) (point spent memory)))) (p (Stops trap.Bounds (spent + 3) (over s memory)))

module _ {W : Type 0} (plan : Plan) (told fell : W → Bytes → W) (roof : ℕ) (g : Ghost) (world : World) (store : Store W) (top : ℕ) (held : HeapHeld plan g world store top) (locals : List ℕ) (to free : ℕ) (pages : ℕ) (m : Module) (host : Host W) (deep room : ℕ) (to_fits : to < length locals) (free_fits : 3 + free ≤ length locals)
    (low_roof : roof ≤ heap_end) (few_pages : pages_for roof ≤ pages) (links : Links) (signature : ℕ) (there : IsThere m links.allocation (I32 ∷ []) (allocation signature)) (deep_some : 1 ≤ deep) (wide : 17 ≤ room) where
  -- What has become of the heap where a block of these words is made.
  pub record IsMade (ws : List ℕ) (v : Value) (after : primitives.Store) : Type 0 where
    pub ghost : Ghost
    pub count : ℕ
    pub holds : Holds plan ghost (with_store world after) (with_words store.memory held.count top ws) count (top + length ws)
    pub later : Later g ghost store.memory (with_words store.memory held.count top ws)
    pub rep : Rep ghost (with_words store.memory held.count top ws) (8 * top) v

  abbrev Goes : Done → Code → At W → Type 0
  Goes d code h = Before pages m (does plan told fell roof g world store top held locals to free pages m host deep room) code (End plan told fell roof g world store top held locals to free d) h

  -- after a call of allocation
  allocated : (size : ℕ) (d : Done) (rest : Code) → size < 2 ^ 32
      → ((spent : ℕ) → spent ≤ 60 → (heap_end < 8 * top + size) ⊎ (pages < pages_for (8 * top + size)) → End plan told fell roof g world store top held locals to free d (Stops trap.Unreachable spent (refused (heap store store.memory (8 * top) held.others))))
      → ((cost : ℕ) → cost ≤ 49 → 8 * top + size ≤ heap_end → Goes d rest (record { spent = 0 + 2 + cost + 1; store = heap store (enlarged store.memory held.count (8 * top + size)) (8 * top + size) held.others; locals = slice_set locals free (8 * top) }))
      → ComesTo (enter deep pages m host room) links.allocation store (size ∷ []) (after_call (spend 2 (start plan told fell roof g world store top held locals to free)) (ResultTo (Some free) (Goes d rest)) (End plan told fell roof g world store top held locals to free d))
  allocated size d rest small wants k =
      subst (λ s. ComesTo (enter deep pages m host room) links.allocation s (size ∷ []) (After)) (sym held.is)
      (weaker _ links.allocation (heap store store.memory (8 * top) held.others) (size ∷ []) (Allocates pages store store.memory held.count (8 * top) held.others size) After ended
      (allocation_kept W pages m host links.allocation signature there deep room deep_some wide store store.memory held.count (8 * top) held.others held.holds.heap size small))
    where
      After : CallEnd W → Type 0
      After end = after_call (spend 2 (start plan told fell roof g world store top held locals to free)) (ResultTo (Some free) (Goes d rest)) (End plan told fell roof g world store top held locals to free d) end

      ended : (end : CallEnd W) → Allocates pages store store.memory held.count (8 * top) held.others size end → After end
      ended end (inl a) = subst After (sym a.4) (k a.0 a.1 a.2)
      ended end (inr a) = subst After (sym a.3) (wants (2 + a.0) (let few = a.1 in omega (arith, few)) a.2)

  module _ (xs : List Operand) (clear : Clear free xs) (cost : Cost) (v : Value) (after : primitives.Store) (bytes : 8 * length xs ≤ bytes_for cost.weight) (steps : 60 + 3 * length xs ≤ operation_steps * cost.weight) where
    -- where the memory has no room for it
    wants : (spent : ℕ) → spent ≤ 60 → (heap_end < 8 * top + 8 * length xs) ⊎ (pages < pages_for (8 * top + 8 * length xs)) → End plan told fell roof g world store top held locals to free (Gives cost v after) (Stops trap.Unreachable spent (refused (heap store store.memory (8 * top) held.others)))
    wants spent few lack = record { cause_is = refl; refused = refl; few = omega (arith, few, steps); world = refl; lacks = beyond lack }
      where
        beyond : (heap_end < 8 * top + 8 * length xs) ⊎ (pages < pages_for (8 * top + 8 * length xs)) → roof < 8 * top + bytes_for cost.weight
        beyond (inl far) = omega (arith, far, low_roof, bytes)
        beyond (inr many) = further (8 * top + 8 * length xs) (8 * top + bytes_for cost.weight) roof pages many few_pages (omega (arith, bytes))

    -- A block that is too large for any memory is not made.
    pub too_large_runs : 2 ^ 28 ≤ cost.weight → Runs plan told fell roof g world store top held locals to free pages m host deep room (Gives cost v after) too_large
    too_large_runs many = on_false _ _ _ never (record { cause_is = refl; refused = refl; few = omega (arith, steps); world = refl; lacks = omega (arith, many, low_roof) })
      where
        both_false : (a : Bool) → (a && false) ≡ false
        both_false true = refl
        both_false false = refl

        over_all : (n : ℕ) → nat_le (n + 65537) 65536 ≡ false
        over_all n = not_le (n + 65537) 65536 (omega arith)

        never : may_grow pages store.memory (low I32 65537) ≡ false
        never = ap (λ t. nat_le (pages_of store.memory + 65537) pages && t) (over_all (pages_of store.memory)) ∙ both_false (nat_le (pages_of store.memory + 65537) pages)

    abbrev last : Code
    last = Set to (Convert ExtendU (Local free)) Stop

    abbrev base : List ℕ
    base = slice_set locals free (8 * top)

    at : slice_index base free ≡ 8 * top
    at = local_here locals free (8 * top) (omega (arith, free_fits))

    behind : Behind free locals base
    behind = behind_set free locals locals free (8 * top) (omega arith) (omega arith) (behind_none free locals)

    module _ (made : IsMade (given xs locals) v after) (room_there : 8 * top + 8 * length xs ≤ heap_end) where
      still_heap : IsHeapStill store.memory (enlarged store.memory held.count (8 * top + 8 * length xs)) held.count (8 * top) (8 * length xs)
      still_heap = (heaps_stay store.memory held.count (8 * top) (8 * length xs) held.holds.heap room_there).0

      inside : 8 * top + 8 * length xs ≤ length (enlarged store.memory held.count (8 * top + 8 * length xs))
      inside = still_heap.is.inside

      short : length (enlarged store.memory held.count (8 * top + 8 * length xs)) < 2 ^ 32
      short = let w = still_heap.is.whole in let f = still_heap.is.few in omega (arith, w, f)

      len : length (given xs locals) ≡ length xs
      len = given_length xs locals

      end_is : 8 * top + 8 * length xs ≡ 8 * (top + length (given xs locals))
      end_is = omega (arith, len)

      memory_is : filled (enlarged store.memory held.count (8 * top + 8 * length xs)) top (given xs base) ≡ with_words store.memory held.count top (given xs locals)
      memory_is = λ i. filled (enlarged store.memory held.count (8 * top + 8 * sym len i)) top (given_still free locals base behind xs clear i)

      abbrev word : ℕ
      word = low I32 (slice_index base free)

      word_is : word ≡ 8 * top
      word_is = ap (low I32) at ∙ low_is (8 * top) (omega (arith, room_there))

      abbrev Left : ℕ → List ℕ → Type 0
      Left spent memory = Worked plan told fell operation_steps g world store locals top to free cost.weight [] v after (record { spent = spent; store = heap store memory (8 * top + 8 * length xs) held.others; locals = slice_set base to word })

      done : (spent : ℕ) → 1 ≤ spent → spent ≤ 60 + 3 * length xs → Left spent (with_words store.memory held.count top (given xs locals))
      done spent some few = record {
        word = word;
        ghost = made.ghost;
        end = top + length (given xs locals);
        heap = record { count = made.count; others = held.others; is = λ i. heap store (with_words store.memory held.count top (given xs locals)) (end_is i) held.others; holds = made.holds };
        later = made.later;
        rep = subst (λ w. Rep made.ghost (with_words store.memory held.count top (given xs locals)) w v) (sym word_is) made.rep;
        put = put_in to free word locals base behind to_fits;
        table = refl;
        some = some;
        few = omega (arith, few, steps);
        bytes = omega (arith, len, bytes);
        shown = refl;
      }

      left : (n : ℕ) → n ≤ 49 → Goes (Gives cost v after) last (record { spent = 0 + 2 + n + 1 + 3 * length xs; store = heap store (filled (enlarged store.memory held.count (8 * top + 8 * length xs)) top (given xs base)) (8 * top + 8 * length xs) held.others; locals = base })
      left n few = subst (Left (0 + 2 + n + 1 + 3 * length xs + (2 + 1))) (sym memory_is) (done (0 + 2 + n + 1 + 3 * length xs + (2 + 1)) (omega arith) (omega (arith, few)))

    -- A block of the words of operands.
    pub block_runs : length xs < 2 ^ 28 → (8 * top + 8 * length xs ≤ heap_end → IsMade (given xs locals) v after) → Runs plan told fell roof g world store top held locals to free pages m host deep room (Gives cost v after) (new_block links to free xs)
    block_runs small made =
        allocated (8 * length xs) (Gives cost v after) (stores free 0 xs last) (omega (arith, small)) wants
        (λ n few there.
        let grown : List ℕ = enlarged store.memory held.count (8 * top + 8 * length xs) in
        stores_run pages m (does plan told fell roof g world store top held locals to free pages m host deep room) (heap store grown (8 * top + 8 * length xs) held.others) free top base at last (End plan told fell roof g world store top held locals to free (Gives cost v after)) xs 0 top (0 + 2 + n + 1) grown (omega arith) (inside (made there) there) (short (made there) there)
        (left (made there) there n few))
