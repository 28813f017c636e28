-- How options are read one after another.
use Rattle.std.specs.Prelude.{◌≡◌, ℕ, List, ◌∷◌, ◌++◌, Some, None, unwrap_or}
use Rattle.std.specs.List.{AllByRecursion}
use Rattle.play_script.specs.Numbers.{IsDecimal}
use Rattle.mo_words.specs.declared.options.Options.{Options}
use Rattle.mo_words.specs.declared.options.Given.{Given}
use Rattle.mo_words.specs.declared.options.Setting.{Setting}
use Rattle.mo_words.specs.declared.options.Setting.TheVariants.{Steps, Pages, Stack}
use Rattle.mo_words.specs.Options.{option_word, number_of, IsInRange, AreSettings, steps_of, pages_of, stack_of}
use Rattle.mo_words.specs.Commands.{IsFirstFile}

-- The words begin with the option.
pub record Begins (s : Setting) (words rest : List (List ℕ)) : Type 0 where
  pub digits : List ℕ
  pub words_are : words ≡ option_word s ∷ digits ∷ rest
  pub decimal : IsDecimal digits (number_of s)
  pub range : IsInRange s

-- The option was not given.
abbrev pub IsFree : Given → Setting → Type 0
IsFree given (Steps n) = given.steps ≡ None
IsFree given (Pages n) = given.pages ≡ None
IsFree given (Stack n) = given.stack ≡ None

abbrev pub added : Given → Setting → Given
added given (Steps n) = record given { steps = Some n }
added given (Pages n) = record given { pages = Some n }
added given (Stack n) = record given { stack = Some n }

abbrev pub nothing_given : Given
nothing_given = record { steps = None; pages = None; stack = None }

-- What was given, and else what these options set.
abbrev pub chosen : Given → List Setting → Options
chosen given settings = record {
  steps = unwrap_or given.steps (steps_of settings);
  pages = unwrap_or given.pages (pages_of settings);
  stack = unwrap_or given.stack (stack_of settings);
}

-- Options that were not given yet, and then the script and files. With them these are the options in all.
pub record Completes (given : Given) (words : List (List ℕ)) (options : Options) (script : List ℕ) (files : List (List ℕ)) : Type 0 where
  pub settings : List Setting
  pub front : List (List ℕ)
  pub words_are : words ≡ front ++ script ∷ files
  pub are_settings : AreSettings settings front
  pub free : AllByRecursion (IsFree given) settings
  pub options_are : options ≡ chosen given settings
  pub script_is : IsFirstFile script

-- What completes the words behind some options is what completes the words with them.
pub record Leads (given : Given) (words rest : List (List ℕ)) : Type 0 where
  pub forth : (o : Options) → (script : List ℕ) → (files : List (List ℕ)) → Completes nothing_given words o script files → Completes given rest o script files
  pub back : (o : Options) → (script : List ℕ) → (files : List (List ℕ)) → Completes given rest o script files → Completes nothing_given words o script files

-- Behind the options that the words begin with stands the rest.
pub record Leaves (options : Options) (words rest : List (List ℕ)) : Type 0 where
  pub forth : (o : Options) → (script : List ℕ) → (files : List (List ℕ)) → Completes nothing_given words o script files → (o ≡ options) × (rest ≡ script ∷ files)
  pub back : (script : List ℕ) → (files : List (List ℕ)) → rest ≡ script ∷ files → IsFirstFile script → Completes nothing_given words options script files
