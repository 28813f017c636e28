-- The forms of the command line.
use Rattle.std.specs.Prelude.{◌≡◌, ◌≢◌, ◌≤◌, ℕ, List, [], ◌∷◌, ◌++◌, length, map, codes, string_bytes}
use Rattle.std.specs.List.{AllByRecursion}
use Rattle.mo_words.specs.declared.options.Options.{Options}
use Rattle.mo_words.specs.declared.options.Setting.{Setting}
use Rattle.mo_words.specs.declared.command.Verb.{Verb}
use Rattle.mo_words.specs.declared.command.Verb.TheVariants as verb
use Rattle.mo_words.specs.declared.command.Command.{Command}
use Rattle.mo_words.specs.declared.command.Command.TheVariants.{Build, Check, Play, Run}
use Rattle.mo_words.specs.Options.{AreSettings, options_of}

abbrev pub verb_word : Verb → List ℕ
verb_word verb.Build = codes "build"
verb_word verb.Check = codes "check"
verb_word verb.Play = codes "play"
verb_word verb.Run = codes "run"

-- A word that begins with two dashes is an option, wherever one may stand.
abbrev pub IsOptionWord : List ℕ → Type 0
IsOptionWord word = (rest : List ℕ) × (word ≡ codes "--" ++ rest)

-- A file's word that stands where an option may.
pub record IsFirstFile (word : List ℕ) : Type 0 where
  pub some : word ≢ []
  pub no_option : IsOptionWord word → ⊥

-- `build SRC OUT`
pub record IsBuild (words : List (List ℕ)) (source out : List ℕ) : Type 0 where
  pub words_are : words ≡ verb_word verb.Build ∷ source ∷ out ∷ []
  pub source_is : IsFirstFile source
  pub out_some : out ≢ []

-- `check SRC`
pub record IsCheck (words : List (List ℕ)) (source : List ℕ) : Type 0 where
  pub words_are : words ≡ verb_word verb.Check ∷ source ∷ []
  pub source_is : IsFirstFile source

-- 1 to 16 files
pub record AreFiles (files : List (List ℕ)) : Type 0 where
  pub some : 1 ≤ length files
  pub few : length files ≤ 16
  pub named : AllByRecursion (λ file. file ≢ []) files

-- `[options] SCRIPT FILE..`
pub record IsReplay (words : List (List ℕ)) (options : Options) (script : List ℕ) (files : List (List ℕ)) : Type 0 where
  pub settings : List Setting
  pub front : List (List ℕ)
  pub words_are : words ≡ front ++ script ∷ files
  pub are_settings : AreSettings settings front
  pub options_are : options ≡ options_of settings
  pub script_is : IsFirstFile script
  pub files_are : AreFiles files

-- `play [options] SCRIPT MODULE..`
pub record IsPlay (words : List (List ℕ)) (options : Options) (script : List ℕ) (files : List (List ℕ)) : Type 0 where
  pub others : List (List ℕ)
  pub words_are : words ≡ verb_word verb.Play ∷ others
  pub replay : IsReplay others options script files

-- `run [options] SCRIPT SRC..`
pub record IsRun (words : List (List ℕ)) (options : Options) (script : List ℕ) (files : List (List ℕ)) : Type 0 where
  pub others : List (List ℕ)
  pub words_are : words ≡ verb_word verb.Run ∷ others
  pub replay : IsReplay others options script files

-- The words spell the command.
abbrev pub Spells : List (List ℕ) → Command → Type 0
Spells words (Build source out) = IsBuild words source.now out.now
Spells words (Check source) = IsCheck words source.now
Spells words (Play replay) = IsPlay words replay.options replay.script.now (map string_bytes replay.files.now)
Spells words (Run replay) = IsRun words replay.options replay.script.now (map string_bytes replay.files.now)

-- The words are none of the forms.
pub record IsNoForm (words : List (List ℕ)) : Type 0 where
  pub no_build : (source out : List ℕ) → IsBuild words source out → ⊥
  pub no_check : (source : List ℕ) → IsCheck words source → ⊥
  pub no_play : (options : Options) → (script : List ℕ) → (files : List (List ℕ)) → IsPlay words options script files → ⊥
  pub no_run : (options : Options) → (script : List ℕ) → (files : List (List ℕ)) → IsRun words options script files → ⊥
