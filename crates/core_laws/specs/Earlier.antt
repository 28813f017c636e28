-- Programs whose groups make groups before them alone.
use Rattle.std.specs.Prelude.{ℕ, suc, ◌<◌, List, [], ◌∷◌}
use Rattle.core_ir.specs.Programs.{Group}
use Rattle.core_ir.specs.Code.{Code, Stop, Let, If, Match, Loop, Label, Branch, Leave, Pass, Make, Call, Tabulate, Send, Wait, Raise, Return, Body}

-- the code makes groups before the n-th one alone
abbrev pub Earlier : ℕ → Code → Type 0
Earlier n Stop = Unit {0}
Earlier n (Let t p xs c) = Earlier n c
Earlier n (If p xs y z c) = Earlier n y × Earlier n z × Earlier n c
Earlier n (Match t k x y z c) = Earlier n y × Earlier n z × Earlier n c
Earlier n (Loop b c) = Earlier n b × Earlier n c
Earlier n (Label b c) = Earlier n b × Earlier n c
Earlier n (Branch l) = Unit {0}
Earlier n (Leave j) = Unit {0}
Earlier n (Pass t x j) = Unit {0}
Earlier n (Make t seen k c) = (k < n) × Earlier n c
Earlier n (Call t f xs c) = Earlier n c
Earlier n (Tabulate t m f c) = Earlier n c
Earlier n (Send t s f xs h c) = Earlier n c
Earlier n (Wait t x h j) = Unit {0}
Earlier n (Raise x h) = Unit {0}
Earlier n (Return x) = Unit {0}

abbrev pub EarlierSegments : ℕ → List Code → Type 0
EarlierSegments n [] = Unit {0}
EarlierSegments n (c ∷ cs) = Earlier n c × EarlierSegments n cs

abbrev pub EarlierBodies : ℕ → List Body → Type 0
EarlierBodies n [] = Unit {0}
EarlierBodies n (b ∷ bs) = EarlierSegments n b.segments × EarlierBodies n bs

-- the first of these groups is the n-th one
abbrev pub EarlierGroups : ℕ → List (Group Body) → Type 0
EarlierGroups n [] = Unit {0}
EarlierGroups n (g ∷ gs) = EarlierBodies n g.bodies × EarlierGroups (suc n) gs
