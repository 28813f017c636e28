-- Whose each word of a memory is, and where what was made stands in it. No module holds this: it ties a memory to what it stands for.
use Rattle.std.specs.Prelude.{ℕ, suc, ◌+◌, nat_eq, nat_lt, cond}

pub data Owner : Type 0 where
  -- from the heap's end on
  Free : Owner
  -- a word that never changes
  Fixed : Owner
  -- what a cell holds, and its second word, which is for saving
  CellOf : (cell : ℕ) → Owner
  MarkOf : (cell : ℕ) → Owner
  -- a word of the block of a future, and of the record of an async body
  FutureOf : (call : ℕ) → Owner
  RecordOf : (activation : ℕ) → Owner
  -- a word that the run time keeps for itself
  Inner : Owner

-- Words are named by their numbers.
pub record Ghost : Type 0 where
  pub own : ℕ → Owner
  -- how many cells there are, and the word of each
  pub held : ℕ
  pub cells : ℕ → ℕ
  -- how many groups of functions were made, and the first word of each
  pub made : ℕ
  pub groups : ℕ → ℕ
  -- how many calls went out, and the first word of the future of each
  pub called : ℕ
  pub futures : ℕ → ℕ

-- One more place, behind so many.
abbrev pub placed_at : (ℕ → ℕ) → ℕ → ℕ → ℕ → ℕ
placed_at places count i n = cond (nat_eq n count) i (places n)

-- So many words from the heap's end on are fixed.
abbrev pub fixed_from : (ℕ → Owner) → ℕ → ℕ → ℕ → Owner
fixed_from own top count i = cond (nat_lt i top) (own i) (cond (nat_lt i (top + count)) Fixed (own i))

-- With a block that never changes at the heap's end.
abbrev pub with_block : Ghost → ℕ → ℕ → Ghost
with_block g top count = record { own = fixed_from g.own top count; held = g.held; cells = g.cells; made = g.made; groups = g.groups; called = g.called; futures = g.futures }

-- With the block of one more group.
abbrev pub with_group_at : Ghost → ℕ → ℕ → Ghost
with_group_at g top count =
    record { own = fixed_from g.own top count; held = g.held; cells = g.cells; made = suc g.made; groups = placed_at g.groups g.made top; called = g.called; futures = g.futures }

abbrev pub cell_from : (ℕ → Owner) → ℕ → ℕ → ℕ → Owner
cell_from own top cell i = cond (nat_eq i top) (CellOf cell) (cond (nat_eq i (suc top)) (MarkOf cell) (own i))

-- With one more cell.
abbrev pub with_cell_at : Ghost → ℕ → Ghost
with_cell_at g top =
    record { own = cell_from g.own top g.held; held = suc g.held; cells = placed_at g.cells g.held top; made = g.made; groups = g.groups; called = g.called; futures = g.futures }

-- Before anything was made.
abbrev pub first_ghost : (ℕ → Owner) → Ghost
first_ghost own = record { own = own; held = 0; cells = λ n. 0; made = 0; groups = λ k. 0; called = 0; futures = λ n. 0 }
