-- Words of files.
use Rattle.std.proofs.Common.{◌≢◌, ℕ, ◌≤◌, List, [], ◌∷◌, length, map, arith}
use Rattle.std.proofs.lemmas.List.{length-map}
use Rattle.std.proofs.lemmas.List.Elements.{All-head, All-tail, All-cons, All-nil}
use Rattle.std.specs.List.{All, AllByRecursion}
use Rattle.mo_words.specs.Commands.{AreFiles}

pub map_named : {X : Type 0} (g : X → List ℕ) (xs : List X) → All (λ x. g x ≢ []) xs → AllByRecursion (λ file. file ≢ []) (map g xs)
map_named g [] h = tt
map_named g (x ∷ xs) h = (All-head (λ y. g y ≢ []) x xs h, map_named g xs (All-tail (λ y. g y ≢ []) x xs h))

pub named_map : {X : Type 0} (g : X → List ℕ) (xs : List X) → AllByRecursion (λ file. file ≢ []) (map g xs) → All (λ x. g x ≢ []) xs
named_map g [] h = All-nil (λ y. g y ≢ [])
named_map g (x ∷ xs) h = All-cons (λ y. g y ≢ []) x xs h.0 (named_map g xs h.1)

pub are_files : {X : Type 0} (g : X → List ℕ) (xs : List X) → 1 ≤ length xs → length xs ≤ 16 → All (λ x. g x ≢ []) xs → AreFiles (map g xs)
are_files g xs low high h = record { some = omega (arith, length-map xs g); few = omega (arith, length-map xs g); named = map_named g xs h }

pub files_are : {X : Type 0} (g : X → List ℕ) (xs : List X) → AreFiles (map g xs) → (1 ≤ length xs) × (length xs ≤ 16) × All (λ x. g x ≢ []) xs
files_are g xs h = (omega (arith, h.some, length-map xs g), omega (arith, h.few, length-map xs g), named_map g xs h.named)
