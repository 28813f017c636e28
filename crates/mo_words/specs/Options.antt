-- The options of a command line, each two words: its name and a number.
use Rattle.std.specs.Prelude.{◌≡◌, ◌≤◌, ℕ, List, [], ◌∷◌, codes}
use Rattle.std.specs.List.{AllByRecursion}
use Rattle.play_script.specs.Numbers.{IsDecimal}
use Rattle.mo_words.specs.declared.options.Options.{Options}
use Rattle.mo_words.specs.declared.options.Setting.{Setting}
use Rattle.mo_words.specs.declared.options.Setting.TheVariants.{Steps, Pages, Stack}

-- The first word of the option.
abbrev pub option_word : Setting → List ℕ
option_word (Steps n) = codes "--steps"
option_word (Pages n) = codes "--pages"
option_word (Stack n) = codes "--stack"

abbrev pub number_of : Setting → ℕ
number_of (Steps n) = n
number_of (Pages n) = n
number_of (Stack n) = n

abbrev pub IsInRange : Setting → Type 0
IsInRange (Steps n) = (10000 ≤ n) × (n ≤ 1000000000000)
IsInRange (Pages n) = (1 ≤ n) × (n ≤ 8192)
IsInRange (Stack n) = (8192 ≤ n) × (n ≤ 16777216)

-- No option of this name is among them.
abbrev pub IsNew : Setting → List Setting → Type 0
IsNew s settings = AllByRecursion (λ t. option_word t ≡ option_word s → ⊥) settings

-- The words are the options in turn, each at most once, with its number in decimal digits.
abbrev pub AreSettings : List Setting → List (List ℕ) → Type 0
AreSettings [] words = words ≡ []
AreSettings (s ∷ settings) words =
    (digits : List ℕ) × (others : List (List ℕ)) × (words ≡ option_word s ∷ digits ∷ others)
    × IsDecimal digits (number_of s) × IsInRange s × IsNew s settings × AreSettings settings others

-- What the options set, and else what holds without them.
abbrev pub steps_of : List Setting → ℕ
steps_of [] = 100000000
steps_of (Steps n ∷ settings) = n
steps_of (Pages n ∷ settings) = steps_of settings
steps_of (Stack n ∷ settings) = steps_of settings

abbrev pub pages_of : List Setting → ℕ
pages_of [] = 1024
pages_of (Steps n ∷ settings) = pages_of settings
pages_of (Pages n ∷ settings) = n
pages_of (Stack n ∷ settings) = pages_of settings

abbrev pub stack_of : List Setting → ℕ
stack_of [] = 4194304
stack_of (Steps n ∷ settings) = stack_of settings
stack_of (Pages n ∷ settings) = stack_of settings
stack_of (Stack n ∷ settings) = n

abbrev pub options_of : List Setting → Options
options_of settings = record { steps = steps_of settings; pages = pages_of settings; stack = stack_of settings }
