-- A cell that is made.
use Rattle.std.proofs.Common.{◌≡◌, ◌⊎◌, inl, inr, ℕ, zero, suc, ◌+◌, ◌*◌, ◌<◌, ◌≤◌, List, [], ◌∷◌, ◌++◌, length, cond, nat_eq, Some, refl, sym, ap, ◌∙◌, subst, arith, length-append}
use Rattle.std.specs.Prelude.{slice_get}
use Rattle.std.proofs.lemmas.Option.{slice_get_within}
use Rattle.core_ir.specs.Values.{Value}
use Rattle.core_ir.specs.Worlds.{World}
use Rattle.memory_routines.specs.Heaps.{heap_end}
use Rattle.heap_layout.specs.Words.{word_at}
use Rattle.heap_layout.specs.Ghosts.{Ghost, Free, Fixed, CellOf, MarkOf, cell_from, with_cell_at}
use Rattle.heap_layout.specs.Blocks.{cell_words}
use Rattle.heap_layout.specs.Fills.{with_words}
use Rattle.heap_layout.specs.Means.{Rep}
use Rattle.heap_layout.specs.Heaps.{Plan, CellAt, Holds}
use Rattle.heap_layout.specs.Later.{Later}
use Rattle.heap_layout.specs.Laws.{CellIsMade, CellsAreMade}
use Rattle.heap_layout.proofs.Written.{equal_number, not_equal}
use Rattle.heap_layout.proofs.Meanings.{rep_later, group_later}
use Rattle.heap_layout.proofs.Fills.{Small, heap_after, word_before, word_new, bytes_after, before_top}
use Rattle.heap_layout.proofs.Owners.{differ, get_appended, owned_below}

module _ (plan : Plan) (g : Ghost) (world : World) (memory : List ℕ) (count top : ℕ) (h : Holds plan g world memory count top) (w : ℕ) (v : Value) (rep : Rep g memory w v) (short : 8 * top + 8 * cell_words ≤ heap_end) where
  abbrev words : List ℕ
  words = w ∷ 0 ∷ []

  abbrev made : List ℕ
  made = with_words memory count top words

  abbrev ghost : Ghost
  ghost = with_cell_at g top

  small : Small words
  small zero = rep.small
  small (suc zero) = omega arith
  small (suc (suc k)) = omega arith

  own_here : ghost.own top ≡ CellOf g.held
  own_here = ap (λ t. cond t (CellOf g.held) (cond (nat_eq top (suc top)) (MarkOf g.held) (g.own top))) (equal_number top)

  own_next : ghost.own (top + 1) ≡ MarkOf g.held
  own_next =
      let next : top + 1 ≡ suc top = omega arith in
      ap (cell_from g.own top g.held) next
      ∙ ap (λ t. cond t (CellOf g.held) (cond (nat_eq (suc top) (suc top)) (MarkOf g.held) (g.own (suc top)))) (not_equal (suc top) top (λ e. omega (arith, e)))
      ∙ ap (λ t. cond t (MarkOf g.held) (g.own (suc top))) (equal_number (suc top))

  own_other : (i : ℕ) → (i ≡ top → ⊥) → (i ≡ suc top → ⊥) → ghost.own i ≡ g.own i
  own_other i a b = ap (λ t. cond t (CellOf g.held) (cond (nat_eq i (suc top)) (MarkOf g.held) (g.own i))) (not_equal i top a) ∙ ap (λ t. cond t (MarkOf g.held) (g.own i)) (not_equal i (suc top) b)

  own_below : (i : ℕ) → i < top → ghost.own i ≡ g.own i
  own_below i lt = own_other i (λ e. omega (arith, e, lt)) (λ e. omega (arith, e, lt))

  cell_before : (n : ℕ) → n < g.held → ghost.cells n ≡ g.cells n
  cell_before n lt = ap (λ t. cond t top (g.cells n)) (not_equal n g.held (λ e. omega (arith, e, lt)))

  cell_last : ghost.cells g.held ≡ top
  cell_last = ap (λ t. cond t top (g.cells g.held)) (equal_number g.held)

  same_word : (i : ℕ) → i < top → word_at made i ≡ word_at memory i
  same_word i lt = word_before memory count top words h.heap short i lt

  fixed_below : (i : ℕ) → g.own i ≡ Fixed → i < top
  fixed_below i e = owned_below plan g world memory count top i h (λ f. differ Fixed Free (λ k. omega (arith, k)) (sym e ∙ f))

  later : Later g ghost memory made
  later = record {
    fixed = λ i e. own_below i (fixed_below i e) ∙ e;
    words = λ i e. same_word i (fixed_below i e);
    held = omega arith;
    cells = λ n lt. cell_before n lt;
    made = omega arith;
    groups = λ k lt. refl;
    called = omega arith;
    futures = λ k lt. refl;
  }

  old_cell : (n : ℕ) (u : Value) → n < g.held → CellAt g memory n u → CellAt ghost made n u
  old_cell n u lt c =
      let first : g.cells n < top = owned_below plan g world memory count top (g.cells n) h (λ e. differ (CellOf n) Free (λ k. omega (arith, k)) (sym c.owner ∙ e)) in
      let second : g.cells n + 1 < top = owned_below plan g world memory count top (g.cells n + 1) h (λ e. differ (MarkOf n) Free (λ k. omega (arith, k)) (sym c.mark ∙ e)) in
      let at : g.cells n ≡ ghost.cells n = sym (cell_before n lt) in
      record {
        owner = subst (λ i. ghost.own i ≡ CellOf n) at (own_below (g.cells n) first ∙ c.owner);
        mark = subst (λ i. ghost.own (i + 1) ≡ MarkOf n) at (own_below (g.cells n + 1) second ∙ c.mark);
        clear = subst (λ i. word_at made (i + 1) ≡ 0) at (same_word (g.cells n + 1) second ∙ c.clear);
        rep = subst (λ i. Rep ghost made (word_at made i) u) at (subst (λ x. Rep ghost made x u) (sym (same_word (g.cells n) first)) (rep_later g ghost memory made later (word_at memory (g.cells n)) u c.rep));
      }

  new_cell : CellAt ghost made g.held v
  new_cell =
      let at : top ≡ ghost.cells g.held = sym cell_last in
      let first : word_at made top ≡ w = ap (word_at made) (omega arith) ∙ word_new memory count top words h.heap short small 0 (omega arith) in
      let second : word_at made (top + 1) ≡ 0 = word_new memory count top words h.heap short small 1 (omega arith) in
      record {
        owner = subst (λ i. ghost.own i ≡ CellOf g.held) at own_here;
        mark = subst (λ i. ghost.own (i + 1) ≡ MarkOf g.held) at own_next;
        clear = subst (λ i. word_at made (i + 1) ≡ 0) at second;
        rep = subst (λ i. Rep ghost made (word_at made i) v) at (subst (λ x. Rep ghost made x v) (sym first) (rep_later g ghost memory made later w v rep));
      }

  all_cells : (n : ℕ) (u : Value) → slice_get (world.store ++ v ∷ []) n ≡ Some u → CellAt ghost made n u
  all_cells n u e = by (get_appended world.store v u n e)
    where
      by : (slice_get world.store n ≡ Some u) ⊎ ((n ≡ length world.store) × (v ≡ u)) → CellAt ghost made n u
      by (inl a) = old_cell n u (let l = slice_get_within world.store n u a in let k = h.held in omega (arith, l, k)) (h.cell n u a)
      by (inr b) = let is : g.held ≡ n = h.held ∙ sym b.0 in subst (λ n. CellAt ghost made n u) is (subst (λ u. CellAt ghost made g.held u) b.1 new_cell)

  made_so : CellIsMade plan g world memory count top w v
  made_so = record {
    holds = record {
      some = omega arith;
      heap = heap_after memory count top words h.heap short;
      bytes = bytes_after memory count top words h.heap short h.bytes;
      based = let b = h.based in omega (arith, b);
      texts = before_top memory count top words h.heap short (8 * plan.base) (let b = h.based in omega (arith, b)) ∙ h.texts;
      fixed = λ i lt. own_below i (let b = h.based in omega (arith, b, lt)) ∙ h.fixed i lt;
      free = λ i le. own_other i (λ e. omega (arith, e, le)) (λ e. omega (arith, e, le)) ∙ h.free i (omega (arith, le));
      held = ap suc h.held ∙ (let l = length-append world.store (v ∷ []) in omega (arith, l));
      made = h.made;
      cell = all_cells;
      group = λ k made e. group_later g ghost memory _ later plan k made (let m = h.made in let l = slice_get_within world.groups k made e in omega (arith, m, l)) (h.group k made e);
    };
    later = later;
    rep = record { small = let s = short in omega (arith, s); means = (ap (λ i. 8 * i) (sym cell_last) ∙ ap (λ n. 8 * ghost.cells n) h.held, let k = h.held in omega (arith, k)) };
  }

pub cells_made : CellsAreMade
cells_made plan g world memory count top h w v rep short = made_so plan g world memory count top h w v rep short
