-- The shares of the limits at their borders, in numbers. By default there are 100,000,000 steps, 4,194,304 stack words and
-- 1,024 pages.
use Rattle.std.specs.Prelude.{◌≡◌, ℕ}
use Rattle.play_script.specs.declared.item.Word.TheVariants as word
use Rattle.mo_actor.specs.Measures.{Exhaustion, Measure, Spent, first_memory}
use Rattle.mo_actor.specs.LimitRows.{exhausted_at}

abbrev by_default : Measure
by_default e = Spent 100000000 4194304 1024 e

abbrev at_depth : ℕ → Exhaustion
at_depth depth = record (exhausted_at word.Stack 0 0) { depth = depth }

-- No execution below a weight of 3,051 runs out of the steps by default.
pub record StepsShare : Type 0 where
  pub reached : by_default (exhausted_at word.Steps 3051 0)
  pub below : by_default (exhausted_at word.Steps 3050 0) → ⊥
  -- a million steps: the loop without end of the rows
  pub endless : Spent 1000000 4194304 1024 (exhausted_at word.Steps 30 0)
  pub endless_below : Spent 1000000 4194304 1024 (exhausted_at word.Steps 29 0) → ⊥
  -- so many steps may go before the first unit of weight
  pub at_once : Spent 32768 4194304 1024 (exhausted_at word.Steps 0 0)
  pub not_at_once : Spent 32769 4194304 1024 (exhausted_at word.Steps 0 0) → ⊥

-- No execution below a depth of 523,776 runs out of the stack words by default, and none below 512 out of the least ones.
pub record StackShare : Type 0 where
  pub reached : by_default (at_depth 523776)
  pub below : by_default (at_depth 523775) → ⊥
  pub least : Spent 100000000 8192 1024 (at_depth 512)
  pub least_below : Spent 100000000 8192 1024 (at_depth 511) → ⊥

-- The heap is paid by what was charged before, too.
pub record HeapShare : Type 0 where
  pub reached : Spent 100000000 4194304 4 (exhausted_at word.Heap 758 9)
  pub below : Spent 100000000 4194304 4 (exhausted_at word.Heap 758 8) → ⊥
  pub more_pages : Spent 100000000 4194304 5 (exhausted_at word.Heap 758 9) → ⊥
  -- where the first memory takes all pages
  pub at_once : Spent 100000000 4194304 1 (exhausted_at word.Heap 0 0)

-- Other words are never deserved.
pub record OtherShares : Type 0 where
  pub bounds : by_default (exhausted_at word.Bounds 100000000 100000000) → ⊥
  pub unreachable : by_default (exhausted_at word.Unreachable 100000000 100000000) → ⊥

-- Whole pages, one at least.
pub record FirstMemories : Type 0 where
  pub least : first_memory 0 0 ≡ 65536
  pub one_byte : first_memory 1 0 ≡ 131072
  pub one_page_more : first_memory 1000 24 ≡ 131072
  pub two_pages_more : first_memory 1000 25 ≡ 196608
