-- Blocks that are added at the end of a heap.
use Rattle.std.proofs.Common.{◌≡◌, ℕ, ◌+◌, ◌*◌, ◌<◌, ◌≤◌, List, length, take, refl, sym, ap, ◌∙◌, subst, arith, length-take}
use Rattle.std.proofs.lemmas.List.{take-take}
use Rattle.std.proofs.lemmas.Option.{slice_get_within}
use Rattle.std.specs.Prelude.{Some, slice_get}
use Rattle.core_ir.specs.Values.{Value}
use Rattle.core_ir.specs.Worlds.{World, MadeGroup}
use Rattle.memory_routines.specs.Heaps.{heap_end}
use Rattle.memory_routines.specs.Laws.{IsHeapStill}
use Rattle.heap_layout.specs.Words.{word_at}
use Rattle.heap_layout.specs.Ghosts.{Ghost, Free, Fixed, CellOf, MarkOf, fixed_from, with_block}
use Rattle.heap_layout.specs.Fills.{with_words}
use Rattle.heap_layout.specs.Means.{Rep}
use Rattle.heap_layout.specs.Heaps.{Plan, GroupAt, CellAt, Holds}
use Rattle.heap_layout.specs.Later.{Later}
use Rattle.heap_layout.proofs.Owners.{differ, owned_below}
use Rattle.heap_layout.proofs.Fills.{heap_after, bytes_after, before_top}
use Rattle.heap_layout.proofs.Makes.{fixed_below, fixed_here, fixed_above}
use Rattle.heap_layout.proofs.Meanings.{rep_later, group_later}
use Rattle.leaf_blocks.specs.Laws.{BlocksAreAdded, WordsAreAdded, IsAdded}
use Rattle.leaf_blocks.proofs.Fronts.{word_same}

pub words_added : WordsAreAdded
words_added plan g world memory count top h ws short =
    let after = heap_after memory count top ws h.heap short in
    record {
      is = record { whole = after.whole; few = after.few; inside = let i = after.inside in omega (arith, i) };
      bytes = bytes_after memory count top ws h.heap short;
      old = before_top memory count top ws h.heap short (8 * top) (omega arith);
    }

module _ (plan : Plan) (g : Ghost) (world : World) (memory : List ℕ) (count top : ℕ) (h : Holds plan g world memory count top) (after : List ℕ) (words : ℕ) (s : IsHeapStill memory after count (8 * top) (8 * words)) where
  abbrev g' : Ghost
  g' = with_block g top words

  inside : 8 * top ≤ length (take (8 * top) after)
  inside = let l = length-take (8 * top) after in let i = s.is.inside in omega (arith, l, i)

  same_word : (i : ℕ) → i < top → word_at after i ≡ word_at memory i
  same_word i lt = word_same after memory (8 * top) i s.old (omega (arith, inside, lt))

  is_below : (i : ℕ) → g.own i ≡ Fixed → i < top
  is_below i e = owned_below plan g world memory count top i h (λ f. differ Fixed Free (λ k. omega (arith, k)) (sym e ∙ f))

  pub own_new : (k : ℕ) → k < words → g'.own (top + k) ≡ Fixed
  own_new k lt = fixed_here g.own top words (top + k) (omega arith) (omega (arith, lt))

  pub later_added : Later g g' memory after
  later_added = record {
    fixed = λ i e. fixed_below g.own top words i (is_below i e) ∙ e;
    words = λ i e. same_word i (is_below i e);
    held = omega arith;
    cells = λ n lt. refl;
    made = omega arith;
    groups = λ k lt. refl;
    called = omega arith;
    futures = λ k lt. refl;
  }

  cell_kept : (n : ℕ) (u : Value) → CellAt g memory n u → CellAt g' after n u
  cell_kept n u c =
      let first : g.cells n < top = owned_below plan g world memory count top (g.cells n) h (λ e. differ (CellOf n) Free (λ k. omega (arith, k)) (sym c.owner ∙ e)) in
      let second : g.cells n + 1 < top = owned_below plan g world memory count top (g.cells n + 1) h (λ e. differ (MarkOf n) Free (λ k. omega (arith, k)) (sym c.mark ∙ e)) in
      record {
        owner = fixed_below g.own top words (g.cells n) first ∙ c.owner;
        mark = fixed_below g.own top words (g.cells n + 1) second ∙ c.mark;
        clear = same_word (g.cells n + 1) second ∙ c.clear;
        rep = subst (λ x. Rep g' after x u) (sym (same_word (g.cells n) first)) (rep_later g g' memory after later_added (word_at memory (g.cells n)) u c.rep);
      }

  same_texts : take (8 * plan.base) after ≡ take (8 * plan.base) memory
  same_texts =
      let le : 8 * plan.base ≤ 8 * top = let b = h.based in omega (arith, b) in
      sym (take-take (8 * plan.base) (8 * top) after le) ∙ ap (take (8 * plan.base)) s.old ∙ take-take (8 * plan.base) (8 * top) memory le

  pub added : IsAdded plan g world memory after count top words
  added = record {
    holds = record {
      some = let k = h.some in omega (arith, k);
      heap = record { whole = s.is.whole; few = s.is.few; inside = let i = s.is.inside in omega (arith, i) };
      bytes = s.bytes h.bytes;
      based = let b = h.based in omega (arith, b);
      texts = same_texts ∙ h.texts;
      fixed = λ i lt. fixed_below g.own top words i (let b = h.based in omega (arith, b, lt)) ∙ h.fixed i lt;
      free = λ i le. fixed_above g.own top words i le ∙ h.free i (omega (arith, le));
      held = h.held;
      made = h.made;
      cell = λ n u e. cell_kept n u (h.cell n u e);
      group = λ k made e. group_later g g' memory after later_added plan k made (let m = h.made in let l = slice_get_within world.groups k made e in omega (arith, m, l)) (h.group k made e);
    };
    later = later_added;
  }

pub blocks_added : BlocksAreAdded
blocks_added plan g world memory count top h after words s = added plan g world memory count top h after words s
