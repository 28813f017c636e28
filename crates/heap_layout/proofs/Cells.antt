-- A cell that is written.
use Rattle.std.proofs.Common.{◌≡◌, ℕ, zero, suc, ◌+◌, ◌*◌, ◌<◌, ◌≤◌, List, [], ◌∷◌, length, Bool, true, false, nat_le, nat_eq, Some, refl, sym, ap, ◌∙◌, subst, arith}
use Rattle.std.specs.Prelude.{slice_get, slice_set}
use Rattle.std.proofs.lemmas.List.{length-set}
use Rattle.std.proofs.lemmas.Option.{slice_get_within}
use Rattle.core_ir.specs.Values.{Value}
use Rattle.core_ir.specs.Worlds.{World}
use Rattle.module_laws.specs.Stored.{written}
use Rattle.module_laws.proofs.StoredBytes.{stored}
use Rattle.heap_layout.specs.Words.{word_at}
use Rattle.heap_layout.specs.Ghosts.{Ghost, Owner, Free, Fixed, CellOf, MarkOf}
use Rattle.heap_layout.specs.Means.{Rep}
use Rattle.heap_layout.specs.Heaps.{Plan, CellAt, Holds}
use Rattle.heap_layout.specs.Later.{Later}
use Rattle.heap_layout.specs.Laws.{CellIsWritten, CellsAreWritten}
use Rattle.heap_layout.proofs.Written.{word_here, word_other, same_number, other_numbers}
use Rattle.heap_layout.proofs.Meanings.{rep_later, group_later}
use Rattle.low_rules.proofs.Steps.{le_true, le_false}
use Rattle.heap_layout.proofs.Fills.{written_bytes}
use Rattle.heap_layout.proofs.Owners.{kind_of, differ, cell_number, get_set_same, get_set_other, owned_below}

module _ (plan : Plan) (g : Ghost) (world : World) (memory : List ℕ) (count top : ℕ) (h : Holds plan g world memory count top) where
  -- what a number of a cell stands for
  held_cell : (n : ℕ) → n < length world.store → (v : Value) × CellAt g memory n v
  held_cell n lt = let e = get_within world.store n lt in (e.0, h.cell n e.0 e.1)
    where
      get_within : (xs : List Value) (n : ℕ) → n < length xs → (v : Value) × (slice_get xs n ≡ Some v)
      get_within [] n lt = absurd (omega arith)
      get_within (x ∷ xs) zero lt = (x, refl)
      get_within (x ∷ xs) (suc n) lt = get_within xs n (omega arith)

  below : (n : ℕ) → n < length world.store → g.cells n < top
  below n lt = owned_below plan g world memory count top (g.cells n) h (λ e. differ (CellOf n) Free (λ k. omega (arith, k)) (sym (held_cell n lt).1.owner ∙ e))

  module _ (n w : ℕ) (v : Value) (lt : n < length world.store) (rep : Rep g memory w v) where
    abbrev after : List ℕ
    after = written memory (8 * g.cells n) 8 w

    room : 8 * g.cells n + 8 ≤ length memory
    room = let b = below n lt in let l = h.heap.inside in omega (arith, b, l)

    long : length after ≡ length memory
    long = (stored memory (8 * g.cells n) 8 w room).same_length

    owner : g.own (g.cells n) ≡ CellOf n
    owner = (held_cell n lt).1.owner

    other : (i : ℕ) → (i ≡ g.cells n → ⊥) → word_at after i ≡ word_at memory i
    other i ne = word_other memory (g.cells n) i w room ne

    owned_by_another : (i : ℕ) (o : Owner) → g.own i ≡ o → (kind_of o ≡ 2 → ⊥) → word_at after i ≡ word_at memory i
    owned_by_another i o e ne = other i (λ k. ne (ap kind_of (sym e ∙ ap g.own k ∙ owner)))

    -- cells lie behind the texts
    behind : plan.base ≤ g.cells n
    behind = by (nat_le plan.base (g.cells n)) refl
      where
        by : (t : Bool) → nat_le plan.base (g.cells n) ≡ t → plan.base ≤ g.cells n
        by true e = le_true plan.base (g.cells n) e
        by false e = differ Fixed (CellOf n) (λ k. omega (arith, k)) (sym (h.fixed (g.cells n) (le_false plan.base (g.cells n) e)) ∙ owner)

    later : Later g g memory after
    later = record {
      fixed = λ i e. e;
      words = λ i e. owned_by_another i Fixed e (λ k. omega (arith, k));
      held = omega arith;
      cells = λ k h. refl;
      made = omega arith;
      groups = λ k h. refl;
      called = omega arith;
      futures = λ k h. refl;
    }

    abbrev store' : List Value
    store' = slice_set world.store n v

    kept_cell : (k : ℕ) (u : Value) → slice_get store' k ≡ Some u → CellAt g after k u
    kept_cell k u e = by (nat_eq k n) refl
      where
        this : k ≡ n → CellAt g after k u
        this same =
            let v_is : v ≡ u = get_set_same world.store n v u lt (ap (slice_get store') (sym same) ∙ e) in
            let c = (held_cell n lt).1 in
            subst (λ k. CellAt g after k u) (sym same)
            (record {
              owner = c.owner;
              mark = c.mark;
              clear = owned_by_another (g.cells n + 1) (MarkOf n) c.mark (λ k. omega (arith, k)) ∙ c.clear;
              rep = subst (λ x. Rep g after x u) (sym (word_here memory (g.cells n) w room rep.small)) (subst (λ u. Rep g after w u) v_is (rep_later g g memory after later w v rep));
            })

        that : (k ≡ n → ⊥) → CellAt g after k u
        that ne =
            let c = h.cell k u (sym (get_set_other world.store n k v ne) ∙ e) in
            record {
              owner = c.owner;
              mark = c.mark;
              clear = owned_by_another (g.cells k + 1) (MarkOf k) c.mark (λ k. omega (arith, k)) ∙ c.clear;
              rep = subst (λ x. Rep g after x u) (sym (other (g.cells k) (λ same. ne (cell_number k n (sym c.owner ∙ ap g.own same ∙ owner))))) (rep_later g g memory after later (word_at memory (g.cells k)) u c.rep);
            }

        by : (t : Bool) → nat_eq k n ≡ t → CellAt g after k u
        by true q = this (same_number k n q)
        by false q = that (other_numbers k n q)

    written_so : CellIsWritten plan g world memory count top n w v
    written_so = record {
      holds = record {
        some = h.some;
        heap = record { whole = long ∙ h.heap.whole; few = h.heap.few; inside = let l = h.heap.inside in omega (arith, l, long) };
        bytes = written_bytes memory (8 * g.cells n) 8 w h.bytes;
        based = h.based;
        texts = (stored memory (8 * g.cells n) 8 w room).below 0 (8 * plan.base) (let b = behind in omega (arith, b)) ∙ h.texts;
        fixed = h.fixed;
        free = h.free;
        held = h.held ∙ sym (length-set world.store n v);
        made = h.made;
        cell = kept_cell;
        group = λ k made e. group_later g g memory after later plan k made (let m = h.made in let l = slice_get_within world.groups k made e in omega (arith, m, l)) (h.group k made e);
      };
      later = later;
    }

pub cells_written : CellsAreWritten
cells_written plan g world memory count top h n w v lt rep = written_so plan g world memory count top h n w v lt rep
