-- What may have come to a memory meanwhile: words that are fixed are as they were, and what was made is where it was.
use Rattle.std.specs.Prelude.{◌≡◌, ℕ, ◌<◌, ◌≤◌, List}
use Rattle.heap_layout.specs.Words.{word_at}
use Rattle.heap_layout.specs.Ghosts.{Ghost, Fixed}

pub record Later (g g' : Ghost) (memory memory' : List ℕ) : Type 0 where
  pub fixed : (i : ℕ) → g.own i ≡ Fixed → g'.own i ≡ Fixed
  pub words : (i : ℕ) → g.own i ≡ Fixed → word_at memory' i ≡ word_at memory i
  pub held : g.held ≤ g'.held
  pub cells : (n : ℕ) → n < g.held → g'.cells n ≡ g.cells n
  pub made : g.made ≤ g'.made
  pub groups : (k : ℕ) → k < g.made → g'.groups k ≡ g.groups k
  pub called : g.called ≤ g'.called
  pub futures : (n : ℕ) → n < g.called → g'.futures n ≡ g.futures n
