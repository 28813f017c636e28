-- Runs of a machine that counts down, computed.
use Rattle.std.specs.Prelude.{ℕ, zero, suc, List, [], ◌∷◌, Bool, true}
use Rattle.simulations.specs.Machines.{Step, Go, End, Standing, Still, Over, run}

abbrev count_down : ℕ → Step ℕ ℕ Bool
count_down zero = End true
count_down (suc n) = Go (suc n ∷ []) n

abbrev pub stands : List (Standing ℕ ℕ Bool)
stands =
    run count_down 0 [] 5
    ∷ run count_down 2 [] 3
    ∷ run count_down 3 [] 3
    ∷ run count_down 4 [] 3
    ∷ run count_down 9 (7 ∷ []) 1
    ∷ []

-- After three steps from 3 the machine stands at 0, and ends with the next one; what came before stays in front.
abbrev pub wanted_stands : List (Standing ℕ ℕ Bool)
wanted_stands =
    Still [] 5
    ∷ Still (3 ∷ 2 ∷ []) 1
    ∷ Still (3 ∷ 2 ∷ 1 ∷ []) 0
    ∷ Over (3 ∷ 2 ∷ 1 ∷ []) true
    ∷ Over (7 ∷ 1 ∷ []) true
    ∷ []
