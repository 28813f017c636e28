-- The ids of labels: Candid specification, section Shorthand: Symbolic Field Ids.
use Rattle.std.specs.Prelude.{ℕ, ◌+◌, ◌*◌, ◌^◌, ◌%◌, List, [], ◌∷◌, length}

-- The sum of each byte times 223 to the power of how many bytes follow it.
abbrev pub label_sum : List ℕ → ℕ
label_sum [] = 0
label_sum (b ∷ bs) = b * 223 ^ length bs + label_sum bs

-- The id of the label.
abbrev pub label_id : List ℕ → ℕ
label_id name = label_sum name % 2 ^ 32
