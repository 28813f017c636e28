-- The patterns within options.
use Rattle.std.specs.Prelude.{List, [], ◌∷◌, ◌++◌, Bool, true, false, ◌&&◌, ◌||◌}
use Rattle.mo_types.specs.declared.datum.Datum.TheVariants as part
use Rattle.typed_tree.specs.Patterns.{Pat, Constant, Present?}

abbrev pub is_null : Pat → Bool
is_null (Constant part.Null) = true
is_null _ = false

-- `null`, or `?` and a pattern
abbrev pub is_of_option : Pat → Bool
is_of_option (Present? p) = true
is_of_option (Constant part.Null) = true
is_of_option _ = false

abbrev pub some_null : List Pat → Bool
some_null [] = false
some_null (p ∷ ps) = is_null p || some_null ps

abbrev pub all_of_option : List Pat → Bool
all_of_option [] = true
all_of_option (p ∷ ps) = is_of_option p && all_of_option ps

-- what stands behind the `?`
abbrev pub inside : Pat → List Pat
inside (Present? p) = p ∷ []
inside _ = []

abbrev pub insides : List Pat → List Pat
insides [] = []
insides (p ∷ ps) = inside p ++ insides ps
