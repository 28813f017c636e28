-- What occurs in a part of a tree, and what a walk over parts does.
use Rattle.std.specs.Prelude.{◌≡◌, ℕ, ◌++◌, List, Result, OnOk}
use Rattle.std.specs.declared.alloc.Global.{Global}
use denote.Ref.{MutBor}
use Rattle.mo_num.specs.declared.memory.Memory.{Memory}
use Rattle.mo_bindings.specs.declared.part.Part.{Part}
use Rattle.mo_bindings.specs.declared.part.Part.TheVariants as part
use Rattle.mo_scopes.specs.Findings.{Names}
use Rattle.mo_names.specs.Order.{Step, Found, found, found_step}

-- the names that occur in a part, and the lists of declarations in it
abbrev pub found_part : Part → Found
found_part (part.Expression a) = found a.now
found_part (part.Declaration x) = record { free = (found_step x.now).step.occurs; lists = (found_step x.now).lists }

-- A function value that walks parts of at most so many levels: it adds the names that occur in one, and the lists in it.
pub record Notes (depth : ℕ) (pre : Global → ℕ → Part → MutBor Names → MutBor (List (List Step)) → Type 0)
    (post : Global → ℕ → Part → MutBor Names → MutBor (List (List Step)) → Result (Unit {0}) Memory → MutBor Names → MutBor (List (List Step)) → Type 0) : Type 0 where
  pub callable : (alloc : Global) (x : Part) (n : MutBor Names) (l : MutBor (List (List Step))) → pre alloc depth x n l
  pub free : (alloc : Global) (x : Part) (n m : MutBor Names) (k l : MutBor (List (List Step))) (r : Result (Unit {0}) Memory) → post alloc depth x n k r m l
      → OnOk r (m.now ≡ n.now ++ (found_part x).free)
  pub lists : (alloc : Global) (x : Part) (n m : MutBor Names) (k l : MutBor (List (List Step))) (r : Result (Unit {0}) Memory) → post alloc depth x n k r m l
      → OnOk r (l.now ≡ k.now ++ (found_part x).lists)
