-- Where the names of an actor are.
use Rattle.std.specs.Prelude.{◌≡◌, ℕ, suc, ◌++◌, List, replicate}
use Rattle.elaboration.specs.Scopes.{Place, Nowhere}
use Rattle.elaboration.specs.Programs.{own_from}

-- in its methods: nothing uses the functions behind the declarations, nor what was kept
abbrev pub known_places : (methods kept declared functions : ℕ) → List Place
known_places methods kept declared functions = replicate functions Nowhere ++ (own_from (suc (suc methods)) declared ++ (own_from 0 (suc methods) ++ replicate kept Nowhere))
