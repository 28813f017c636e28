-- Each turn is paid: an execution that still goes on weighs at least as much more as it took turns. So one that never ends
-- passes every bound on its weight.
use Rattle.std.specs.Prelude.{◌≡◌, ℕ, ◌+◌, ◌≤◌}
use Rattle.mo_meaning.specs.Configurations.{Configuration, Still, Surroundings}
use Rattle.mo_meaning.specs.Turns.{turns}

abbrev pub IsPaid : Surroundings → Type 0
IsPaid s = (n : ℕ) (c d : Configuration) → turns s n c ≡ Still d → c.weight + n ≤ d.weight
