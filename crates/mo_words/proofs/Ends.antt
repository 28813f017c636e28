-- A replay is its options, and then the script and files.
use Rattle.std.proofs.Common.{◌≡◌, ℕ, List, [], ◌∷◌, IsTrue, true, false, get_or, arith, refl, sym, subst, ◌∙◌, ap}
use Rattle.std.specs.List.{AllByRecursion}
use Rattle.mo_words.specs.declared.options.Options.{Options}
use Rattle.mo_words.specs.declared.options.Setting.{Setting}
use Rattle.mo_words.specs.declared.options.Setting.TheVariants.{Steps, Pages, Stack}
use Rattle.mo_words.specs.declared.command.Verb.{Verb}
use Rattle.mo_words.specs.declared.command.Verb.TheVariants as verb
use Rattle.mo_words.specs.Commands.{verb_word, AreFiles, IsFirstFile, IsReplay, IsNoForm}
use Rattle.mo_words.specs.Reading.{IsFree, nothing_given, Completes, Leaves}

all_free : (settings : List Setting) → AllByRecursion (IsFree nothing_given) settings
all_free [] = tt
all_free (Steps n ∷ settings) = (refl, all_free settings)
all_free (Pages n ∷ settings) = (refl, all_free settings)
all_free (Stack n ∷ settings) = (refl, all_free settings)

pub replay_completes : (words : List (List ℕ)) (o : Options) (script : List ℕ) (files : List (List ℕ)) → IsReplay words o script files → Completes nothing_given words o script files
replay_completes words o script files r =
    record { settings = r.settings; front = r.front; words_are = r.words_are; are_settings = r.are_settings; free = all_free r.settings; options_are = r.options_are; script_is = r.script_is }

pub completes_replay : (words : List (List ℕ)) (o : Options) (script : List ℕ) (files : List (List ℕ)) → AreFiles files → Completes nothing_given words o script files → IsReplay words o script files
completes_replay words o script files f c =
    record { settings = c.settings; front = c.front; words_are = c.words_are; are_settings = c.are_settings; options_are = c.options_are; script_is = c.script_is; files_are = f }

pub replay_found : (words rest : List (List ℕ)) (o : Options) (script : List ℕ) (files : List (List ℕ)) → Leaves o words rest → rest ≡ script ∷ files → IsFirstFile script → AreFiles files
    → IsReplay words o script files
replay_found words rest o script files l e first f = completes_replay words o script files f (l.back script files e first)

pub replay_end : (words rest : List (List ℕ)) (options o : Options) (script : List ℕ) (files : List (List ℕ)) → Leaves options words rest → IsReplay words o script files → rest ≡ script ∷ files
replay_end words rest options o script files l r = (l.forth o script files (replay_completes words o script files r)).1

pub no_first_file : (words rest files others : List (List ℕ)) (options o : Options) (script first : List ℕ) → Leaves options words rest → rest ≡ first ∷ others → (IsFirstFile first → ⊥)
    → IsReplay words o script files → ⊥
no_first_file words rest files others options o script first l e none r =
    let same : first ∷ others ≡ script ∷ files = sym e ∙ replay_end words rest options o script files l r in
    let word : script ≡ first = cc in
    none (subst IsFirstFile word r.script_is)

pub no_files : (words rest files others : List (List ℕ)) (options o : Options) (script first : List ℕ) → Leaves options words rest → rest ≡ first ∷ others → (AreFiles others → ⊥)
    → IsReplay words o script files → ⊥
no_files words rest files others options o script first l e none r =
    let same : first ∷ others ≡ script ∷ files = sym e ∙ replay_end words rest options o script files l r in
    let words_same : files ≡ others = cc in
    none (subst AreFiles words_same r.files_are)

-- The word in front tells the forms apart.
abbrev letter : List (List ℕ) → ℕ
letter [] = 0
letter (word ∷ words) = get_or word 0 0

replay_none : (words rest : List (List ℕ)) (name : List ℕ) (others : List (List ℕ)) → words ≡ name ∷ rest → words ≡ name ∷ others → others ≡ rest
replay_none words rest name others e f = let same : name ∷ rest ≡ name ∷ others = sym e ∙ f in cc

pub untrue : {P : Type 0} → (P → IsTrue false) → P → ⊥
untrue h p = let e : false ≡ true = h p in absurd (cc)

-- Another word in front is no form.
pub no_verb : (words rest : List (List ℕ)) (name : List ℕ) → words ≡ name ∷ rest → ((v : Verb) → name ≡ verb_word v → ⊥) → IsNoForm words
no_verb words rest name e none = record {
  no_build = λ source out b. none verb.Build (front (verb_word verb.Build) (source ∷ out ∷ []) b.words_are);
  no_check = λ source b. none verb.Check (front (verb_word verb.Check) (source ∷ []) b.words_are);
  no_play = λ o script files p. none verb.Play (front (verb_word verb.Play) p.others p.words_are);
  no_run = λ o script files r. none verb.Run (front (verb_word verb.Run) r.others r.words_are);
}
  where
    front : (word : List ℕ) (others : List (List ℕ)) → words ≡ word ∷ others → name ≡ word
    front word others w = let same : name ∷ rest ≡ word ∷ others = sym e ∙ w in cc

-- The word of a form in front, but not what has to follow it.
pub no_play : (words rest : List (List ℕ)) (name : List ℕ) → words ≡ name ∷ rest → name ≡ verb_word verb.Play → ((o : Options) → (script : List ℕ) → (files : List (List ℕ)) → IsReplay rest o script files → ⊥)
    → IsNoForm words
no_play words rest name e f none =
    let whole : words ≡ verb_word verb.Play ∷ rest = subst (λ (n : List ℕ). words ≡ n ∷ rest) f e in
    record {
      no_build = λ source out b. omega (arith, ap letter (sym whole ∙ b.words_are));
      no_check = λ source b. omega (arith, ap letter (sym whole ∙ b.words_are));
      no_play = λ o script files p. none o script files (subst (λ (ws : List (List ℕ)). IsReplay ws o script files) (replay_none words rest (verb_word verb.Play) p.others whole p.words_are) p.replay);
      no_run = λ o script files r. omega (arith, ap letter (sym whole ∙ r.words_are));
    }

pub no_run : (words rest : List (List ℕ)) (name : List ℕ) → words ≡ name ∷ rest → name ≡ verb_word verb.Run → ((o : Options) → (script : List ℕ) → (files : List (List ℕ)) → IsReplay rest o script files → ⊥)
    → IsNoForm words
no_run words rest name e f none =
    let whole : words ≡ verb_word verb.Run ∷ rest = subst (λ (n : List ℕ). words ≡ n ∷ rest) f e in
    record {
      no_build = λ source out b. omega (arith, ap letter (sym whole ∙ b.words_are));
      no_check = λ source b. omega (arith, ap letter (sym whole ∙ b.words_are));
      no_play = λ o script files r. omega (arith, ap letter (sym whole ∙ r.words_are));
      no_run = λ o script files p. none o script files (subst (λ (ws : List (List ℕ)). IsReplay ws o script files) (replay_none words rest (verb_word verb.Run) p.others whole p.words_are) p.replay);
    }
