-- A group of functions that was made, and its functions in their slots.
use Rattle.std.proofs.Common.{◌≡◌, ℕ, zero, suc, ◌+◌, ◌*◌, ◌<◌, ◌≤◌, ◌^◌, max, List, [], ◌∷◌, ◌++◌, length, Bool, true, false, cond, nat_lt, refl, sym, ap, ◌∙◌, subst, arith}
use Rattle.std.specs.Prelude.{slice_index, slice_set}
use Rattle.wasm_tree.specs.declared.types.ValueType.TheVariants.{I64}
use Rattle.wasm_tree.specs.Numeric.{low}
use Rattle.wasm_tree.specs.Exec.{Store}
use Rattle.mo_values.specs.Shapes.{Function}
use Rattle.core_ir.specs.Values.{Value, members}
use Rattle.core_ir.specs.Worlds.{World, MadeGroup, with_group}
use Rattle.core_ir.specs.CodeMachine.{Frame, put, put_all}
use Rattle.low_ir.specs.Tree.{Module}
use Rattle.low_rules.specs.Rule.{CodeEnd, Next, Contracts, Before}
use Rattle.std.proofs.lemmas.Bool.Decides.{nat_tests}
use Rattle.low_rules.proofs.Steps.{lt_true}
use Rattle.memory_routines.specs.Heaps.{heap_end, pages_for}
use Rattle.heap_layout.specs.Ghosts.{Ghost, with_group_at}
use Rattle.heap_layout.specs.Fills.{with_words, entry_words, group_block}
use Rattle.heap_layout.specs.Means.{Rep, Reps}
use Rattle.heap_layout.specs.Heaps.{Plan, GroupAt, Holds}
use Rattle.heap_layout.specs.Later.{Later}
use Rattle.heap_layout.specs.Laws.{GroupIsMade}
use Rattle.heap_layout.proofs.Makes.{groups_made}
use Rattle.flat_emission.specs.Emission.{Linkage, Here, handles, value_word}
use Rattle.emitted_steps.specs.States.{FrameHeld}
use Rattle.emitted_steps.proofs.Frames.{frame_slot, local_other}
use Rattle.emitted_steps.proofs.Operands.{wide_is}

-- ---- places in the table

below_is : (i j : ℕ) → i < j → nat_lt i j ≡ true
below_is i j lt = grind (arith, nat_tests)

-- Only of functions that are there is it known that their places are numbers of 32 bits, so that a plan is taken that has no others.
abbrev pub bounded : Plan → Plan
bounded plan = record { sizes = plan.sizes; entry_of = λ code k. cond (nat_lt k (plan.sizes code)) (plan.entry_of code k) 0; base = plan.base; texts = plan.texts }

module _ (plan : Plan) where
  same_entry : (code k : ℕ) → k < plan.sizes code → (bounded plan).entry_of code k ≡ plan.entry_of code k
  same_entry code k lt = ap (λ t. cond t (plan.entry_of code k) 0) (below_is k (plan.sizes code) lt)

  small_entry : (code : ℕ) → ((k : ℕ) → k < plan.sizes code → plan.entry_of code k < 2 ^ 64) → (k : ℕ) → (bounded plan).entry_of code k < 2 ^ 64
  small_entry code small k = by (nat_lt k (plan.sizes code)) refl
    where
      by : (t : Bool) → nat_lt k (plan.sizes code) ≡ t → cond t (plan.entry_of code k) 0 < 2 ^ 64
      by true e = small k (lt_true k (plan.sizes code) e)
      by false e = omega arith

  bounded_words : (code b k count : ℕ) → k + count ≤ plan.sizes code → entry_words (bounded plan) code b k count ≡ entry_words plan code b k count
  bounded_words code b k zero le = refl
  bounded_words code b k (suc count) le = λ i. same_entry code k (omega (arith, le)) i ∷ 8 * b ∷ bounded_words code b (suc k) count (omega (arith, le)) i

  group_to : (g : Ghost) (memory : List ℕ) (b : ℕ) (made : MadeGroup) → GroupAt plan g memory b made → GroupAt (bounded plan) g memory b made
  group_to g memory b made h = record {
    members = λ k lt. let one = h.members k lt in record { entry_fixed = one.entry_fixed; block_fixed = one.block_fixed; entry = one.entry ∙ sym (same_entry made.code k lt); block = one.block };
    seen = h.seen;
  }

  group_from : (g : Ghost) (memory : List ℕ) (b : ℕ) (made : MadeGroup) → GroupAt (bounded plan) g memory b made → GroupAt plan g memory b made
  group_from g memory b made h = record {
    members = λ k lt. let one = h.members k lt in record { entry_fixed = one.entry_fixed; block_fixed = one.block_fixed; entry = one.entry ∙ same_entry made.code k lt; block = one.block };
    seen = h.seen;
  }

  holds_to : (g : Ghost) (world : World) (memory : List ℕ) (count top : ℕ) → Holds plan g world memory count top → Holds (bounded plan) g world memory count top
  holds_to g world memory count top h = record {
    some = h.some;
    heap = h.heap;
    bytes = h.bytes;
    based = h.based;
    texts = h.texts;
    fixed = h.fixed;
    free = h.free;
    held = h.held;
    made = h.made;
    cell = h.cell;
    group = λ k made e. group_to g memory (g.groups k) made (h.group k made e);
  }

  holds_from : (g : Ghost) (world : World) (memory : List ℕ) (count top : ℕ) → Holds (bounded plan) g world memory count top → Holds plan g world memory count top
  holds_from g world memory count top h = record {
    some = h.some;
    heap = h.heap;
    bytes = h.bytes;
    based = h.based;
    texts = h.texts;
    fixed = h.fixed;
    free = h.free;
    held = h.held;
    made = h.made;
    cell = h.cell;
    group = λ k made e. group_from g memory (g.groups k) made (h.group k made e);
  }

  pub group_made : (g : Ghost) (world : World) (memory : List ℕ) (count top : ℕ) → Holds plan g world memory count top → (code : ℕ) → ((k : ℕ) → k < plan.sizes code → plan.entry_of code k < 2 ^ 64)
      → (ws : List ℕ) (vs : List Value) → Reps g memory ws vs → 8 * top + 8 * length (group_block plan code top ws) ≤ heap_end → GroupIsMade plan g world memory count top code ws vs
  group_made g world memory count top h code small ws vs reps short =
      let same : group_block (bounded plan) code top ws ≡ group_block plan code top ws = ap (λ l. l ++ ws) (bounded_words code top 0 (plan.sizes code) (omega arith)) in
      let made = groups_made (bounded plan) g world memory count top (holds_to g world memory count top h) code (small_entry code small) ws vs reps (subst (λ l. 8 * top + 8 * length l ≤ heap_end) (sym same) short) in
      record {
        holds = subst (λ l. Holds plan (with_group_at g top (length l)) (with_group world code vs) (with_words memory count top l) (max count (pages_for (8 * top + 8 * length l))) (top + length l)) same
            (holds_from (with_group_at g top (length (group_block (bounded plan) code top ws))) (with_group world code vs) (with_words memory count top (group_block (bounded plan) code top ws)) (max count (pages_for (8 * top + 8 * length (group_block (bounded plan) code top ws))))
            (top + length (group_block (bounded plan) code top ws)) made.holds);
        later = subst (λ l. Later g (with_group_at g top (length l)) memory (with_words memory count top l)) same made.later;
        member = λ k lt. subst (λ l. Rep (with_group_at g top (length l)) (with_words memory count top l) (8 * (top + 2 * k)) (Function (record { group = length world.groups; member = k }))) same (made.member k lt);
      }

-- ---- the functions come into their slots

pub put_all_seen : (f : Frame) (t : ℕ) (vs : List Value) → (put_all f t vs).seen ≡ f.seen
put_all_seen f t [] = refl
put_all_seen f t (v ∷ vs) = put_all_seen (put f t v) (suc t) vs

pub put_all_body : (f : Frame) (t : ℕ) (vs : List Value) → (put_all f t vs).body ≡ f.body
put_all_body f t [] = refl
put_all_body f t (v ∷ vs) = put_all_body (put f t v) (suc t) vs

module _ {W : Type 0} (plan : Plan) (link : Linkage) (pages : ℕ) (m : Module) (does : Contracts W) (here : Here) (store : Store W) (g : Ghost) (group top size : ℕ) (low_end : 8 * (top + 2 * size) < 2 ^ 32)
    (member : (k : ℕ) → k < size → Rep g store.memory (8 * (top + 2 * k)) (Function (record { group = group; member = k }))) where
  pub handles_do : (k count t : ℕ) (f : Frame) (p : CodeEnd W → Type 0) (spent : ℕ) (locals : List ℕ) → k + count ≡ size → t + count ≤ here.slots → 1 ≤ spent → FrameHeld g store.memory f here locals → slice_index locals (value_word here) ≡ 8 * top
      → ((spent' : ℕ) (locals' : List ℕ) → 1 ≤ spent' → spent' ≤ spent + 4 * count → FrameHeld g store.memory (put_all f t (members group k count)) here locals' → p (Next (record { spent = spent'; store = store; locals = locals' })))
      → Before pages m does (handles plan link here t k count) p (record { spent = spent; store = store; locals = locals })
  handles_do k zero t f p spent locals e le some frame two go = go spent locals some (omega arith) frame
  handles_do k (suc count) t f p spent locals e le some frame two go =
      let w : ℕ = low I64 (slice_index locals (value_word here) + 8 * (2 * k)) in
      let w_is : w ≡ 8 * (top + 2 * k) = ap (λ x. low I64 (x + 8 * (2 * k))) two ∙ ap (low I64) (omega arith) ∙ wide_is (8 * (top + 2 * k)) (omega (arith, e, low_end)) in
      let v : Value = Function (record { group = group; member = k }) in
      let rep : Rep g store.memory w v = subst (λ x. Rep g store.memory x v) (sym w_is) (member k (omega (arith, e))) in
      handles_do (suc k) count (suc t) (put f t v) p (spent + 4) (slice_set locals (suc t) w) (omega (arith, e)) (omega (arith, le)) (omega arith) (frame_slot g store.memory f here locals t w v (omega (arith, le)) rep frame)
      (local_other locals (suc t) (value_word here) w (λ q. omega (arith, le, q)) ∙ two)
      (λ spent' locals' ok less held. go spent' locals' ok (omega (arith, less)) held)
