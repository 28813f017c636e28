-- Blocks that never change, and what is kept where one is made.
use Rattle.std.proofs.Common.{◌≡◌, ◌⊎◌, inl, inr, ℕ, zero, suc, ◌+◌, ◌*◌, ◌<◌, ◌≤◌, ◌^◌, List, [], ◌∷◌, ◌++◌, length, get_or, true, false, cond, nat_lt, Some, refl, sym, ap, ◌∙◌, subst, arith, length-append}
use Rattle.std.specs.Prelude.{slice_get}
use Rattle.std.proofs.lemmas.Bool.Decides.{nat_tests}
use Rattle.std.proofs.lemmas.Option.{slice_get_within}
use Rattle.mo_values.specs.Shapes.{Head, Leaf, Present, Tuple, Array, Object, Tag, Error, Cell, Future, Made, Shapes, NoShape, AShape, listed, unit}
use Rattle.core_ir.specs.Choices.{nth}
use Rattle.core_ir.specs.Values.{Value, Handle}
use Rattle.core_ir.specs.Worlds.{World, MadeGroup}
use Rattle.memory_routines.specs.Heaps.{heap_end}
use Rattle.heap_layout.specs.Words.{word_at}
use Rattle.heap_layout.specs.Ghosts.{Ghost, Owner, Free, Fixed, CellOf, MarkOf, placed_at, fixed_from, with_block, with_group_at}
use Rattle.heap_layout.specs.Blocks.{Constant, constants, places, shape_count}
use Rattle.heap_layout.specs.Fills.{with_words, entry_words, group_block, ConstantsIn, PartsIn}
use Rattle.heap_layout.specs.Means.{HasConstants, PartsMean, Means, Rep, ValueAt, Reps}
use Rattle.heap_layout.specs.Heaps.{Plan, MemberAt, GroupAt, CellAt, Holds}
use Rattle.heap_layout.specs.Later.{Later}
use Rattle.heap_layout.specs.Laws.{GroupIsMade, GroupsAreMade, IsBlock, BlockIsMade, BlocksAreMade}
use Rattle.heap_layout.proofs.Written.{equal_number, not_equal}
use Rattle.heap_layout.proofs.Meanings.{rep_later, group_later}
use Rattle.heap_layout.proofs.Fills.{Small, heap_after, word_before, word_new, bytes_after, before_top}
use Rattle.heap_layout.proofs.Owners.{differ, get_appended, owned_below}

below_is : (i j : ℕ) → i < j → nat_lt i j ≡ true
below_is i j lt = grind (arith, nat_tests)

above_is : (i j : ℕ) → j ≤ i → nat_lt i j ≡ false
above_is i j le = grind (arith, nat_tests)

module _ (own : ℕ → Owner) (top count : ℕ) where
  pub fixed_below : (i : ℕ) → i < top → fixed_from own top count i ≡ own i
  fixed_below i lt = ap (λ t. cond t (own i) (cond (nat_lt i (top + count)) Fixed (own i))) (below_is i top lt)

  pub fixed_here : (i : ℕ) → top ≤ i → i < top + count → fixed_from own top count i ≡ Fixed
  fixed_here i le lt = ap (λ t. cond t (own i) (cond (nat_lt i (top + count)) Fixed (own i))) (above_is i top le) ∙ ap (λ t. cond t Fixed (own i)) (below_is i (top + count) lt)

  pub fixed_above : (i : ℕ) → top + count ≤ i → fixed_from own top count i ≡ own i
  fixed_above i le = ap (λ t. cond t (own i) (cond (nat_lt i (top + count)) Fixed (own i))) (above_is i top (omega (arith, le))) ∙ ap (λ t. cond t Fixed (own i)) (above_is i (top + count) le)

-- ---- words that stand for values

pub rep_small : (g : Ghost) (memory : List ℕ) (ws : List ℕ) (vs : List Value) → Reps g memory ws vs → Small ws
rep_small g memory [] [] r k = omega arith
rep_small g memory [] (v ∷ vs) r k = absurd r
rep_small g memory (w ∷ ws) [] r k = absurd r
rep_small g memory (w ∷ ws) (v ∷ vs) r zero = r.0.small
rep_small g memory (w ∷ ws) (v ∷ vs) r (suc k) = rep_small g memory ws vs r.1 k

pub rep_lengths : (g : Ghost) (memory : List ℕ) (ws : List ℕ) (vs : List Value) → Reps g memory ws vs → length ws ≡ length vs
rep_lengths g memory [] [] r = refl
rep_lengths g memory [] (v ∷ vs) r = absurd r
rep_lengths g memory (w ∷ ws) [] r = absurd r
rep_lengths g memory (w ∷ ws) (v ∷ vs) r = ap suc (rep_lengths g memory ws vs r.1)

pub rep_nth : (g : Ghost) (memory : List ℕ) (ws : List ℕ) (vs : List Value) (k : ℕ) → Reps g memory ws vs → k < length vs → Rep g memory (get_or ws k 0) (nth unit vs k)
rep_nth g memory [] [] k r lt = absurd (omega arith)
rep_nth g memory [] (v ∷ vs) k r lt = absurd r
rep_nth g memory (w ∷ ws) [] k r lt = absurd r
rep_nth g memory (w ∷ ws) (v ∷ vs) zero r lt = r.0
rep_nth g memory (w ∷ ws) (v ∷ vs) (suc k) r lt = rep_nth g memory ws vs k r.1 (omega (arith, lt))

-- ---- a block at the end of the heap

module _ (plan : Plan) (g : Ghost) (world : World) (memory : List ℕ) (count top : ℕ) (h : Holds plan g world memory count top) (block : List ℕ) (small : Small block) (short : 8 * top + 8 * length block ≤ heap_end) where
  abbrev now : List ℕ
  now = with_words memory count top block

  pub same_word : (i : ℕ) → i < top → word_at now i ≡ word_at memory i
  same_word i lt = word_before memory count top block h.heap short i lt

  pub new_word : (k : ℕ) → k < length block → word_at now (top + k) ≡ get_or block k 0
  new_word k lt = word_new memory count top block h.heap short small k lt

  is_below : (i : ℕ) → g.own i ≡ Fixed → i < top
  is_below i e = owned_below plan g world memory count top i h (λ f. differ Fixed Free (λ k. omega (arith, k)) (sym e ∙ f))

  -- a ghost that is as before but for the block, and for what is made
  module _ (made : ℕ) (groups : ℕ → ℕ) (more : g.made ≤ made) (before : (k : ℕ) → k < g.made → groups k ≡ g.groups k) where
    abbrev pub ghost : Ghost
    ghost = record { own = fixed_from g.own top (length block); held = g.held; cells = g.cells; made = made; groups = groups; called = g.called; futures = g.futures }

    pub later : Later g ghost memory now
    later = record {
      fixed = λ i e. fixed_below g.own top (length block) i (is_below i e) ∙ e;
      words = λ i e. same_word i (is_below i e);
      held = omega arith;
      cells = λ n lt. refl;
      made = more;
      groups = before;
      called = omega arith;
      futures = λ k lt. refl;
    }

    pub own_block : (k : ℕ) → k < length block → ghost.own (top + k) ≡ Fixed
    own_block k lt = fixed_here g.own top (length block) (top + k) (omega arith) (omega (arith, lt))

    pub cell_kept : (n : ℕ) (u : Value) → CellAt g memory n u → CellAt ghost now n u
    cell_kept n u c =
        let first : g.cells n < top = owned_below plan g world memory count top (g.cells n) h (λ e. differ (CellOf n) Free (λ k. omega (arith, k)) (sym c.owner ∙ e)) in
        let second : g.cells n + 1 < top = owned_below plan g world memory count top (g.cells n + 1) h (λ e. differ (MarkOf n) Free (λ k. omega (arith, k)) (sym c.mark ∙ e)) in
        record {
          owner = fixed_below g.own top (length block) (g.cells n) first ∙ c.owner;
          mark = fixed_below g.own top (length block) (g.cells n + 1) second ∙ c.mark;
          clear = same_word (g.cells n + 1) second ∙ c.clear;
          rep = subst (λ x. Rep ghost now x u) (sym (same_word (g.cells n) first)) (rep_later g ghost memory now later (word_at memory (g.cells n)) u c.rep);
        }

    pub free_above : (i : ℕ) → top + length block ≤ i → ghost.own i ≡ Free
    free_above i le = fixed_above g.own top (length block) i le ∙ h.free i (omega (arith, le))

-- ---- groups

entries_length : (plan : Plan) (code b k count : ℕ) → length (entry_words plan code b k count) ≡ 2 * count
entries_length plan code b k zero = refl
entries_length plan code b k (suc count) = let l = entries_length plan code b (suc k) count in omega (arith, l)

entry_first : (plan : Plan) (code b from count k : ℕ) (rest : List ℕ) → k < count → get_or (entry_words plan code b from count ++ rest) (2 * k) 0 ≡ plan.entry_of code (from + k)
entry_first plan code b from zero k rest lt = absurd (omega arith)
entry_first plan code b from (suc count) zero rest lt = ap (plan.entry_of code) (omega arith)
entry_first plan code b from (suc count) (suc k) rest lt =
    let at : 2 * suc k ≡ suc (suc (2 * k)) = omega arith in
    let on : suc from + k ≡ from + suc k = omega arith in
    ap (λ i. get_or (entry_words plan code b from (suc count) ++ rest) i 0) at ∙ entry_first plan code b (suc from) count k rest (omega (arith, lt)) ∙ ap (plan.entry_of code) on

entry_second : (plan : Plan) (code b from count k : ℕ) (rest : List ℕ) → k < count → get_or (entry_words plan code b from count ++ rest) (2 * k + 1) 0 ≡ 8 * b
entry_second plan code b from zero k rest lt = absurd (omega arith)
entry_second plan code b from (suc count) zero rest lt = refl
entry_second plan code b from (suc count) (suc k) rest lt =
    let at : 2 * suc k + 1 ≡ suc (suc (2 * k + 1)) = omega arith in
    ap (λ i. get_or (entry_words plan code b from (suc count) ++ rest) i 0) at ∙ entry_second plan code b (suc from) count k rest (omega (arith, lt))

get_behind : (l r : List ℕ) (k : ℕ) → get_or (l ++ r) (length l + k) 0 ≡ get_or r k 0
get_behind [] r k = ap (λ i. get_or r i 0) (omega arith)
get_behind (x ∷ l) r k = let at : suc (length l) + k ≡ suc (length l + k) = omega arith in ap (λ i. get_or (x ∷ (l ++ r)) i 0) at ∙ get_behind l r k

entries_small : (plan : Plan) (code b k count : ℕ) (rest : List ℕ) → ((k : ℕ) → plan.entry_of code k < 2 ^ 64) → 8 * b < 2 ^ 64 → Small rest → Small (entry_words plan code b k count ++ rest)
entries_small plan code b k zero rest e lt s j = s j
entries_small plan code b k (suc count) rest e lt s zero = e k
entries_small plan code b k (suc count) rest e lt s (suc zero) = lt
entries_small plan code b k (suc count) rest e lt s (suc (suc j)) = entries_small plan code b (suc k) count rest e lt s j

module _ (plan : Plan) (g : Ghost) (world : World) (memory : List ℕ) (count top : ℕ) (h : Holds plan g world memory count top) (code : ℕ) (entries : (k : ℕ) → plan.entry_of code k < 2 ^ 64) (ws : List ℕ) (vs : List Value) (reps : Reps g memory ws vs) (short : 8 * top + 8 * length (group_block plan code top ws) ≤ heap_end) where
  abbrev block : List ℕ
  block = group_block plan code top ws

  abbrev size : ℕ
  size = plan.sizes code

  small_block : Small block
  small_block = entries_small plan code top 0 size ws entries (omega (arith, short)) (rep_small g memory ws vs reps)

  before_it : (k : ℕ) → k < g.made → placed_at g.groups g.made top k ≡ g.groups k
  before_it k lt = ap (λ t. cond t top (g.groups k)) (not_equal k g.made (λ e. omega (arith, e, lt)))

  abbrev after : Ghost
  after = with_group_at g top (length block)

  abbrev memory' : List ℕ
  memory' = with_words memory count top block

  later_group : Later g after memory memory'
  later_group = later plan g world memory count top h block small_block short (suc g.made) (placed_at g.groups g.made top) (omega arith) before_it

  own_new : (k : ℕ) → k < length block → after.own (top + k) ≡ Fixed
  own_new = own_block plan g world memory count top h block small_block short (suc g.made) (placed_at g.groups g.made top) (omega arith) before_it

  last : after.groups g.made ≡ top
  last = ap (λ t. cond t top (g.groups g.made)) (equal_number g.made)

  long : length block ≡ 2 * size + length ws
  long = length-append (entry_words plan code top 0 size) ws ∙ ap (λ n. n + length ws) (entries_length plan code top 0 size)

  word_in : (k : ℕ) → k < length block → word_at memory' (top + k) ≡ get_or block k 0
  word_in k lt = new_word plan g world memory count top h block small_block short k lt

  member_at : (k : ℕ) → k < size → MemberAt plan after memory' top code k
  member_at k lt = record {
    entry_fixed = own_new (2 * k) (omega (arith, lt, long));
    block_fixed = own_new (2 * k + 1) (omega (arith, lt, long));
    entry = word_in (2 * k) (omega (arith, lt, long)) ∙ entry_first plan code top 0 size k ws lt ∙ ap (plan.entry_of code) (omega arith);
    block = word_in (2 * k + 1) (omega (arith, lt, long)) ∙ entry_second plan code top 0 size k ws lt;
  }

  seen_at : (x : ℕ) → x < length vs → ValueAt after memory' (top + (2 * size + x)) (nth unit vs x)
  seen_at x lt =
      let same : length ws ≡ length vs = rep_lengths g memory ws vs reps in
      let inside : 2 * size + x < length block = omega (arith, lt, long, same) in
      let e : length (entry_words plan code top 0 size) + x ≡ 2 * size + x = ap (λ n. n + x) (entries_length plan code top 0 size) in
      let is : word_at memory' (top + (2 * size + x)) ≡ get_or ws x 0 = word_in (2 * size + x) inside ∙ ap (λ i. get_or block i 0) (sym e) ∙ get_behind (entry_words plan code top 0 size) ws x in
      record {
        fixed = own_new (2 * size + x) inside;
        rep = subst (λ w. Rep after memory' w (nth unit vs x)) (sym is) (rep_later g after memory memory' later_group (get_or ws x 0) (nth unit vs x) (rep_nth g memory ws vs x reps lt));
      }

  abbrev new : MadeGroup
  new = record { code = code; seen = vs }

  new_group : GroupAt plan after memory' (after.groups g.made) new
  new_group = subst (λ b. GroupAt plan after memory' b new) (sym last) (record { members = member_at; seen = seen_at })

  all_groups : (k : ℕ) (made : MadeGroup) → slice_get (world.groups ++ new ∷ []) k ≡ Some made → GroupAt plan after memory' (after.groups k) made
  all_groups k made e = by (get_appended world.groups new made k e)
    where
      by : (slice_get world.groups k ≡ Some made) ⊎ ((k ≡ length world.groups) × (new ≡ made)) → GroupAt plan after memory' (after.groups k) made
      by (inl a) = group_later g after memory memory' later_group plan k made (let m = h.made in let l = slice_get_within world.groups k made a in omega (arith, m, l)) (h.group k made a)
      by (inr b) = let is : g.made ≡ k = h.made ∙ sym b.0 in subst (λ k. GroupAt plan after memory' (after.groups k) made) is (subst (λ made. GroupAt plan after memory' (after.groups g.made) made) b.1 new_group)

  group_made : GroupIsMade plan g world memory count top code ws vs
  group_made = record {
    holds = record {
      some = let s = h.some in omega (arith, s);
      heap = heap_after memory count top block h.heap short;
      bytes = bytes_after memory count top block h.heap short h.bytes;
      based = let b = h.based in omega (arith, b);
      texts = before_top memory count top block h.heap short (8 * plan.base) (let b = h.based in omega (arith, b)) ∙ h.texts;
      fixed = λ i lt. fixed_below g.own top (length block) i (let b = h.based in omega (arith, b, lt)) ∙ h.fixed i lt;
      free = free_above plan g world memory count top h block small_block short (suc g.made) (placed_at g.groups g.made top) (omega arith) before_it;
      held = h.held;
      made = ap suc h.made ∙ (let l = length-append world.groups (new ∷ []) in omega (arith, l));
      cell = λ n u e. cell_kept plan g world memory count top h block small_block short (suc g.made) (placed_at g.groups g.made top) (omega arith) before_it n u (h.cell n u e);
      group = all_groups;
    };
    later = later_group;
    member = λ k lt. record {
      small = omega (arith, short, lt, long);
      means = (ap (λ b. 8 * (b + 2 * k)) (sym last) ∙ ap (λ n. 8 * (after.groups n + 2 * k)) h.made, let m = h.made in omega (arith, m));
    };
  }

pub groups_made : GroupsAreMade
groups_made plan g world memory count top h code entries ws vs reps short = group_made plan g world memory count top h code entries ws vs reps short

-- ---- values with parts

module _ (plan : Plan) (g : Ghost) (world : World) (memory : List ℕ) (count top : ℕ) (h : Holds plan g world memory count top) (b : List ℕ) (small : Small b) (short : 8 * top + 8 * length b ≤ heap_end) where
  abbrev g' : Ghost
  g' = with_block g top (length b)

  abbrev m' : List ℕ
  m' = with_words memory count top b

  later_block : Later g g' memory m'
  later_block = later plan g world memory count top h b small short g.made g.groups (omega arith) (λ k lt. refl)

  own_part : (k : ℕ) → k < length b → g'.own (top + k) ≡ Fixed
  own_part = own_block plan g world memory count top h b small short g.made g.groups (omega arith) (λ k lt. refl)

  word_part : (k : ℕ) → k < length b → word_at m' (top + k) ≡ get_or b k 0
  word_part k lt = new_word plan g world memory count top h b small short k lt

  has_constants : (cs : List Constant) → ConstantsIn b cs → HasConstants g' m' top cs
  has_constants [] r = tt
  has_constants (c ∷ cs) r = (own_part c.place r.0, word_part c.place r.0 ∙ r.1, has_constants cs r.2)

  has_parts : (os ws : List ℕ) (inside : Shapes Handle) → Reps g memory ws (listed inside) → PartsIn b os ws → PartsMean g' m' top os inside
  has_parts os ws NoShape r p = tt
  has_parts os [] (AShape v vs) r p = absurd r
  has_parts [] (w ∷ ws) (AShape v vs) r p = absurd p
  has_parts (o ∷ os) (w ∷ ws) (AShape v vs) r p =
      let is : word_at m' (top + o) ≡ w = word_part o p.0 ∙ p.1 in
      let k : Rep g' m' w v = rep_later g g' memory m' later_block w v r.0 in
      (own_part o p.0, subst (λ x. x < 2 ^ 64) (sym is) k.small, subst (λ x. Means g' m' x v) (sym is) k.means, has_parts os ws vs r.1 p.2)

  means_block : (head : Head) (inside : Shapes Handle) → IsBlock head inside → (ws : List ℕ) → Reps g memory ws (listed inside) → ConstantsIn b (constants head (shape_count inside)) → PartsIn b (places head (shape_count inside)) ws → Means g' m' (8 * top) (Made head inside)
  means_block Present inside is ws r c p = (top, refl, h.some, has_constants (constants Present (shape_count inside)) c, has_parts (places Present (shape_count inside)) ws inside r p)
  means_block Tuple NoShape is ws r c p = absurd is
  means_block Tuple (AShape v vs) is ws r c p =
      (top, refl, h.some, has_constants (constants Tuple (shape_count (AShape v vs))) c, has_parts (places Tuple (shape_count (AShape v vs))) ws (AShape v vs) r p)
  means_block Array inside is ws r c p = (top, refl, h.some, has_constants (constants Array (shape_count inside)) c, has_parts (places Array (shape_count inside)) ws inside r p)
  means_block (Object ls) inside is ws r c p = (top, refl, h.some, has_constants (constants (Object ls) (shape_count inside)) c, has_parts (places (Object ls) (shape_count inside)) ws inside r p)
  means_block (Tag l) inside is ws r c p = (top, refl, h.some, has_constants (constants (Tag l) (shape_count inside)) c, has_parts (places (Tag l) (shape_count inside)) ws inside r p)
  means_block (Leaf part) inside is ws r c p = absurd is
  means_block (Error code message) inside is ws r c p = absurd is
  means_block (Cell n) inside is ws r c p = absurd is
  means_block (Future n) inside is ws r c p = absurd is

  block_made : (head : Head) (inside : Shapes Handle) → IsBlock head inside → (ws : List ℕ) → Reps g memory ws (listed inside) → ConstantsIn b (constants head (shape_count inside)) → PartsIn b (places head (shape_count inside)) ws → BlockIsMade plan g world memory count top head inside b
  block_made head inside is ws r c p = record {
    holds = record {
      some = let s = h.some in omega (arith, s);
      heap = heap_after memory count top b h.heap short;
      bytes = bytes_after memory count top b h.heap short h.bytes;
      based = let k = h.based in omega (arith, k);
      texts = before_top memory count top b h.heap short (8 * plan.base) (let k = h.based in omega (arith, k)) ∙ h.texts;
      fixed = λ i lt. fixed_below g.own top (length b) i (let k = h.based in omega (arith, k, lt)) ∙ h.fixed i lt;
      free = free_above plan g world memory count top h b small short g.made g.groups (omega arith) (λ k lt. refl);
      held = h.held;
      made = h.made;
      cell = λ n u e. cell_kept plan g world memory count top h b small short g.made g.groups (omega arith) (λ k lt. refl) n u (h.cell n u e);
      group = λ k made e. group_later g g' memory m' later_block plan k made (let m = h.made in let l = slice_get_within world.groups k made e in omega (arith, m, l)) (h.group k made e);
    };
    later = later_block;
    rep = record { small = omega (arith, short); means = means_block head inside is ws r c p };
  }

pub blocks_made : BlocksAreMade
blocks_made plan g world memory count top h head inside is ws r block small c p short = block_made plan g world memory count top h block small short head inside is ws r c p
