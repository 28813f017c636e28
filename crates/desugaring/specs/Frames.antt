-- What stands around an expression where it is written out: the names, the nearest first, and what can be left.
use Rattle.std.specs.Prelude.{ℕ, zero, suc, Bool, true, false, List, [], ◌∷◌, ◌++◌, map, cond}
use Rattle.std.specs.List.{list_any}
use Rattle.std.specs.Str.{bytes_eq}
use Rattle.typing_rules.specs.AbstractSyntax.{Bytes}

pub data Entry : Type 0 where
  -- a name, which is one of a cell or not
  Named : (x : Bytes) → (is_cell : Bool) → Entry
  -- what was kept of the stable variable of this name
  Kept : (x : Bytes) → Entry
  -- what no name is found by
  Unnamed : Entry

abbrev pub value : Bytes → Entry
value x = Named x false

abbrev pub cell : Bytes → Entry
cell x = Named x true

-- what can be left
pub data Exit : Type 0 where
  Labelled : (x : Bytes) → Exit
  -- the body of a loop under a label, which `continue` leaves
  Continued : (x : Bytes) → Exit
  -- `do ?`
  Optional : Exit
  -- the function
  Returned : Exit

pub record Frame : Type 0 where
  pub names : List Entry
  pub exits : List Exit

abbrev pub with_entries : List Entry → Frame → Frame
with_entries es f = record f { names = es ++ f.names }

abbrev pub with_names : List Bytes → Frame → Frame
with_names xs f = with_entries (map value xs) f

abbrev pub with_exit : Exit → Frame → Frame
with_exit x f = record f { exits = x ∷ f.exits }

-- the body of a function, with the names of its parameters
abbrev pub in_function : List Bytes → Frame → Frame
in_function xs f = record { names = map value xs ++ f.names; exits = Returned ∷ [] }

-- a name that is hidden where it is among these
abbrev pub hidden_by : List Bytes → Bytes → Entry
hidden_by xs x = cond (list_any (λ y. bytes_eq x y) xs) Unnamed (value x)

-- the body of a public function: the names of its context, which those of its parameters hide, stand before these
abbrev pub in_method : List Bytes → List Bytes → Frame → Frame
in_method context parameters f = record { names = map (hidden_by parameters) context ++ (map value parameters ++ f.names); exits = Returned ∷ [] }

-- how many names stand between, and whether it is one of a cell
pub record Use : Type 0 where
  pub index : ℕ
  pub cell : Bool

abbrev pub found_from : ℕ → List Entry → Bytes → Use
found_from n [] x = record { index = n; cell = false }
found_from n (Named y is_cell ∷ es) x = cond (bytes_eq y x) (record { index = n; cell = is_cell }) (found_from (suc n) es x)
found_from n (_ ∷ es) x = found_from (suc n) es x

abbrev pub found : Frame → Bytes → Use
found f x = found_from zero f.names x

abbrev pub kept_from : ℕ → List Entry → Bytes → ℕ
kept_from n [] x = n
kept_from n (Kept y ∷ es) x = cond (bytes_eq y x) n (kept_from (suc n) es x)
kept_from n (_ ∷ es) x = kept_from (suc n) es x

-- how many names stand before what was kept of a stable variable
abbrev pub kept_at : Frame → Bytes → ℕ
kept_at f x = kept_from zero f.names x

abbrev pub is_label : Bytes → Exit → Bool
is_label x (Labelled y) = bytes_eq x y
is_label x _ = false

abbrev pub is_continued : Bytes → Exit → Bool
is_continued x (Continued y) = bytes_eq x y
is_continued x _ = false

abbrev pub is_optional : Exit → Bool
is_optional Optional = true
is_optional _ = false

abbrev pub is_returned : Exit → Bool
is_returned Returned = true
is_returned _ = false

abbrev pub exit_from : ℕ → (Exit → Bool) → List Exit → ℕ
exit_from n p [] = n
exit_from n p (x ∷ xs) = cond (p x) n (exit_from (suc n) p xs)

-- how many exits stand between
abbrev pub exit : Frame → (Exit → Bool) → ℕ
exit f p = exit_from zero p f.exits
