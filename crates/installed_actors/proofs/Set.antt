-- A word of the run time's own takes a value for good.
use Rattle.std.proofs.Common.{◌≡◌, ℕ, ◌+◌, ◌*◌, ◌<◌, ◌≤◌, ◌^◌, List, length, Bool, true, false, nat_le, nat_eq, cond, Some, refl, sym, ap, ◌∙◌, subst, arith}
use Rattle.std.specs.Prelude.{slice_get}
use Rattle.std.proofs.lemmas.Option.{slice_get_within}
use Rattle.core_ir.specs.Values.{Value}
use Rattle.core_ir.specs.Worlds.{World}
use Rattle.module_laws.specs.Stored.{written}
use Rattle.module_laws.proofs.StoredBytes.{stored}
use Rattle.low_rules.proofs.Steps.{le_true, le_false}
use Rattle.heap_layout.specs.Words.{word_at}
use Rattle.heap_layout.specs.Ghosts.{Ghost, Owner, Free, Fixed, CellOf, MarkOf, Inner}
use Rattle.heap_layout.specs.Means.{Rep}
use Rattle.heap_layout.specs.Heaps.{Plan, CellAt, Holds}
use Rattle.heap_layout.specs.Later.{Later}
use Rattle.heap_layout.proofs.Written.{word_here, word_other, same_number, other_numbers}
use Rattle.heap_layout.proofs.Meanings.{rep_later, group_later}
use Rattle.heap_layout.proofs.Fills.{written_bytes}
use Rattle.heap_layout.proofs.Owners.{kind_of, differ, owned_below}

abbrev pub set_owner : Ghost → ℕ → ℕ → Owner
set_owner g i j = cond (nat_eq j i) Fixed (g.own j)

-- The word never changes from now on.
abbrev pub with_set : Ghost → ℕ → Ghost
with_set g i = record { own = set_owner g i; held = g.held; cells = g.cells; made = g.made; groups = g.groups; called = g.called; futures = g.futures }

module _ (plan : Plan) (g : Ghost) (world : World) (memory : List ℕ) (count top : ℕ) (h : Holds plan g world memory count top) (i w : ℕ) (inner : g.own i ≡ Inner) (small : w < 2 ^ 64) where
  abbrev pub after : List ℕ
  after = written memory (8 * i) 8 w

  abbrev pub g' : Ghost
  g' = with_set g i

  pub below : i < top
  below = owned_below plan g world memory count top i h (λ e. differ Inner Free (λ k. omega (arith, k)) (sym inner ∙ e))

  room : 8 * i + 8 ≤ length memory
  room = let b = below in let l = h.heap.inside in omega (arith, b, l)

  long : length after ≡ length memory
  long = (stored memory (8 * i) 8 w room).same_length

  pub word_is : word_at after i ≡ w
  word_is = word_here memory i w room small

  pub set_here : g'.own i ≡ Fixed
  set_here = by (nat_eq i i) refl
    where
      by : (t : Bool) → nat_eq i i ≡ t → g'.own i ≡ Fixed
      by true e = ap (λ t. cond t Fixed (g.own i)) e
      by false e = absurd (other_numbers i i e refl)

  pub set_other : (j : ℕ) → (j ≡ i → ⊥) → g'.own j ≡ g.own j
  set_other j ne = by (nat_eq j i) refl
    where
      by : (t : Bool) → nat_eq j i ≡ t → g'.own j ≡ g.own j
      by true e = absurd (ne (same_number j i e))
      by false e = ap (λ t. cond t Fixed (g.own j)) e

  -- What has another owner is another word.
  another : (j : ℕ) (o : Owner) → g.own j ≡ o → (kind_of o ≡ 6 → ⊥) → j ≡ i → ⊥
  another j o e ne same = ne (ap kind_of (sym e ∙ ap g.own same ∙ inner))

  kept_owner : (j : ℕ) (o : Owner) → g.own j ≡ o → (kind_of o ≡ 6 → ⊥) → g'.own j ≡ o
  kept_owner j o e ne = set_other j (another j o e ne) ∙ e

  kept_word : (j : ℕ) (o : Owner) → g.own j ≡ o → (kind_of o ≡ 6 → ⊥) → word_at after j ≡ word_at memory j
  kept_word j o e ne = word_other memory i j w room (another j o e ne)

  behind : plan.base ≤ i
  behind = by (nat_le plan.base i) refl
    where
      by : (t : Bool) → nat_le plan.base i ≡ t → plan.base ≤ i
      by true e = le_true plan.base i e
      by false e = differ Fixed Inner (λ k. omega (arith, k)) (sym (h.fixed i (le_false plan.base i e)) ∙ inner)

  pub later : Later g g' memory after
  later = record {
    fixed = λ j e. kept_owner j Fixed e (λ k. omega (arith, k));
    words = λ j e. kept_word j Fixed e (λ k. omega (arith, k));
    held = omega arith;
    cells = λ k h. refl;
    made = omega arith;
    groups = λ k h. refl;
    called = omega arith;
    futures = λ k h. refl;
  }

  kept_cell : (k : ℕ) (u : Value) → slice_get world.store k ≡ Some u → CellAt g' after k u
  kept_cell k u e =
      let c = h.cell k u e in
      record {
        owner = kept_owner (g.cells k) (CellOf k) c.owner (λ k. omega (arith, k));
        mark = kept_owner (g.cells k + 1) (MarkOf k) c.mark (λ k. omega (arith, k));
        clear = kept_word (g.cells k + 1) (MarkOf k) c.mark (λ k. omega (arith, k)) ∙ c.clear;
        rep = subst (λ x. Rep g' after x u) (sym (kept_word (g.cells k) (CellOf k) c.owner (λ k. omega (arith, k)))) (rep_later g g' memory after later (word_at memory (g.cells k)) u c.rep);
      }

  pub still_holds : Holds plan g' world after count top
  still_holds = record {
    some = h.some;
    heap = record { whole = long ∙ h.heap.whole; few = h.heap.few; inside = let l = h.heap.inside in omega (arith, l, long) };
    bytes = written_bytes memory (8 * i) 8 w h.bytes;
    based = h.based;
    texts = (stored memory (8 * i) 8 w room).below 0 (8 * plan.base) (let b = behind in omega (arith, b)) ∙ h.texts;
    fixed = λ j lt. kept_owner j Fixed (h.fixed j lt) (λ k. omega (arith, k));
    free = λ j le. kept_owner j Free (h.free j le) (λ k. omega (arith, k));
    held = h.held;
    made = h.made;
    cell = kept_cell;
    group = λ k made e. group_later g g' memory after later plan k made (let m = h.made in let l = slice_get_within world.groups k made e in omega (arith, m, l)) (h.group k made e);
  }
