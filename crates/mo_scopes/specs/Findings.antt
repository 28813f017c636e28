-- What is found at the names of a program: the meanings of those that are used, in the order of the source, and the rules that are broken
-- (Motoko language manual, "Identifiers"; Candid specification, "Shorthand: Symbolic Field Ids").
use Rattle.std.specs.Prelude.{ℕ, ◌==◌, Bool, true, false, ◌&&◌, ◌||◌, List, [], ◌∷◌, ◌++◌, Option, Some, None, cond, length, nat_eq}
use Rattle.std.specs.List.{list_any, flat_map}
use Rattle.std.specs.Str.{bytes_eq}
use Rattle.std.specs.Char.{is_ascii_digit}
use Rattle.mo_syntax.specs.declared.name.Name.{Name}
use Rattle.mo_syntax.specs.declared.place.Place.{Place}
use Rattle.mo_types.specs.Label.{label_id}
use Rattle.mo_scopes.specs.declared.scope.Scope.{Scope}
use Rattle.mo_scopes.specs.declared.meaning.Meaning.{Meaning}
use Rattle.mo_scopes.specs.declared.rule.Rule.{Rule}
use Rattle.mo_scopes.specs.declared.rule.Rule.TheVariants as rule
use Rattle.mo_scopes.specs.declared.finding.Finding.{Finding}
use Rattle.mo_scopes.specs.declared.finding.Finding.TheVariants as finding

-- names with their places
abbrev pub Names : Type 0
Names = List Name

-- names without their places
abbrev pub Texts : Type 0
Texts = List (List ℕ)

-- the name is one of these
abbrev pub contains : Texts → List ℕ → Bool
contains names x = list_any (λ y. bytes_eq x y) names

-- `__` stands at the beginning
abbrev pub begins_reserved : List ℕ → Bool
begins_reserved [] = false
begins_reserved (x ∷ []) = false
begins_reserved (x ∷ y ∷ rest) = (x == 95) && (y == 95)

-- digits, and one `_` behind them
abbrev pub digits_and_mark : List ℕ → Bool
digits_and_mark [] = false
digits_and_mark (x ∷ rest) = cond (is_ascii_digit x) (digits_and_mark rest) ((x == 95) && (length rest == 0))

-- `_digits_`
abbrev pub is_position : List ℕ → Bool
is_position [] = false
is_position (x ∷ []) = false
is_position (x ∷ y ∷ rest) = (x == 95) && (is_ascii_digit y && digits_and_mark rest)

-- ---- the rules

-- where the rule is broken, its breach at the place
abbrev pub broken_where : Bool → Rule → Place → List Finding
broken_where true r place = finding.Breach (record { rule = r; place = place }) ∷ []
broken_where false r place = []

-- of a name
abbrev pub identifier : Name → List Finding
identifier x = broken_where (begins_reserved x.bytes) rule.Reserved x.place

-- of a label of an object, variant or actor
abbrev pub label : Name → List Finding
label x = broken_where (begins_reserved x.bytes || is_position x.bytes) rule.Reserved x.place

-- of the names that one list, pattern or type binds behind these: no name stands twice
abbrev pub behind : Texts → Names → List Finding
behind front [] = []
behind front (x ∷ xs) = broken_where (contains front x.bytes) rule.Twice x.place ++ behind (front ++ x.bytes ∷ []) xs

abbrev pub together : Names → List Finding
together = behind []

-- the numbers, each once
abbrev pub has_number : List ℕ → ℕ → Bool
has_number numbers n = list_any (λ m. nat_eq n m) numbers

abbrev pub with_number : List ℕ → ℕ → List ℕ
with_number numbers n = cond (has_number numbers n) numbers (numbers ++ n ∷ [])

-- of the labels of one object, variant or actor behind those of these numbers: no number stands twice
abbrev pub numbered_behind : List ℕ → Names → List Finding
numbered_behind front [] = []
numbered_behind front (x ∷ xs) = broken_where (has_number front (label_id x.bytes)) rule.LabelClash x.place ++ numbered_behind (with_number front (label_id x.bytes)) xs

abbrev pub labels : Names → List Finding
labels = numbered_behind []

-- of the use of a name with or without a meaning
abbrev pub used : Option Meaning → Name → List Finding
used (Some meaning) x = finding.Meaning meaning ∷ []
used None x = broken_where true rule.Unknown x.place

-- of each
abbrev pub each_identifier : Names → List Finding
each_identifier names = flat_map identifier names

abbrev pub each_label : Names → List Finding
each_label names = flat_map label names

-- ---- in a scope

abbrev pub InScope : Type 0
InScope = Scope → List Finding

abbrev pub nothing : InScope
nothing s = []

-- in what is there
abbrev pub within : Option InScope → InScope
within None s = []
within (Some part) s = part s

-- in each part
abbrev pub each : List InScope → InScope
each parts s = flat_map (λ part. part s) parts

abbrev pub each_within : Option (List InScope) → InScope
each_within None s = []
each_within (Some parts) s = each parts s
