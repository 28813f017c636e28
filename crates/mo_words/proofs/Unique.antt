-- A command line names one script and one list of files.
use Rattle.std.proofs.Common.{◌≡◌, ℕ, ◌≤◌, List, [], ◌∷◌, ◌++◌, get_or, sym, ap, subst, ◌∙◌, arith}
use Rattle.mo_words.specs.declared.options.Options.{Options}
use Rattle.mo_words.specs.declared.options.Setting.{Setting}
use Rattle.mo_words.specs.declared.options.Setting.TheVariants.{Steps, Pages, Stack}
use Rattle.mo_words.specs.declared.command.Verb.TheVariants as verb
use Rattle.mo_words.specs.Options.{option_word, AreSettings, steps_of, pages_of, stack_of}
use Rattle.mo_words.specs.Commands.{verb_word, IsFirstFile, IsReplay, IsBuild, IsCheck, IsPlay, IsRun}
use Rattle.mo_words.proofs.Given.{no_file}

same_files : (ss ts : List Setting) (front back f g : List (List ℕ)) (s t : List ℕ) → AreSettings ss front → AreSettings ts back → IsFirstFile s → IsFirstFile t → front ++ s ∷ f ≡ back ++ t ∷ g → (s ≡ t) × (f ≡ g)
same_files [] [] front back f g s t a b p q e =
    let same : s ∷ f ≡ t ∷ g = ap (λ (l : List (List ℕ)). l ++ s ∷ f) (sym a) ∙ e ∙ ap (λ (l : List (List ℕ)). l ++ t ∷ g) b in
    let first : s ≡ t = cc in let rest : f ≡ g = cc in (first, rest)
same_files [] (y ∷ ts) front back f g s t a b p q e =
    let same : s ∷ f ≡ option_word y ∷ b.0 ∷ (b.1 ++ t ∷ g) = ap (λ (l : List (List ℕ)). l ++ s ∷ f) (sym a) ∙ e ∙ ap (λ (l : List (List ℕ)). l ++ t ∷ g) b.2 in
    let word : s ≡ option_word y = cc in absurd (no_file y s p word)
same_files (x ∷ ss) [] front back f g s t a b p q e =
    let same : option_word x ∷ a.0 ∷ (a.1 ++ s ∷ f) ≡ t ∷ g = ap (λ (l : List (List ℕ)). l ++ s ∷ f) (sym a.2) ∙ e ∙ ap (λ (l : List (List ℕ)). l ++ t ∷ g) b in
    let word : t ≡ option_word x = cc in absurd (no_file x t q word)
same_files (x ∷ ss) (y ∷ ts) front back f g s t a b p q e =
    let same : option_word x ∷ a.0 ∷ (a.1 ++ s ∷ f) ≡ option_word y ∷ b.0 ∷ (b.1 ++ t ∷ g) = ap (λ (l : List (List ℕ)). l ++ s ∷ f) (sym a.2) ∙ e ∙ ap (λ (l : List (List ℕ)). l ++ t ∷ g) b.2 in
    let rest : a.1 ++ s ∷ f ≡ b.1 ++ t ∷ g = cc in
    same_files ss ts a.1 b.1 f g s t a.6 b.6 p q rest

pub one_replay : (words f g : List (List ℕ)) (o p : Options) (s t : List ℕ) → IsReplay words o s f → IsReplay words p t g → (s ≡ t) × (f ≡ g)
one_replay words f g o p s t r q = same_files r.settings q.settings r.front q.front f g s t r.are_settings q.are_settings r.script_is q.script_is (sym r.words_are ∙ q.words_are)

same_others : (word : List ℕ) (words xs ys : List (List ℕ)) → words ≡ word ∷ xs → words ≡ word ∷ ys → xs ≡ ys
same_others word words xs ys a b = let e : word ∷ xs ≡ word ∷ ys = sym a ∙ b in cc

pub one_play : (words f g : List (List ℕ)) (o p : Options) (s t : List ℕ) → IsPlay words o s f → IsPlay words p t g → (s ≡ t) × (f ≡ g)
one_play words f g o p s t a b =
    one_replay b.others f g o p s t (subst (λ (ws : List (List ℕ)). IsReplay ws o s f) (same_others (verb_word verb.Play) words a.others b.others a.words_are b.words_are) a.replay) b.replay

pub one_run : (words f g : List (List ℕ)) (o p : Options) (s t : List ℕ) → IsRun words o s f → IsRun words p t g → (s ≡ t) × (f ≡ g)
one_run words f g o p s t a b =
    one_replay b.others f g o p s t (subst (λ (ws : List (List ℕ)). IsReplay ws o s f) (same_others (verb_word verb.Run) words a.others b.others a.words_are b.words_are) a.replay) b.replay

pub one_build : (words : List (List ℕ)) (s t x y : List ℕ) → IsBuild words s x → IsBuild words t y → s ≡ t
one_build words s t x y a b = let e : verb_word verb.Build ∷ s ∷ x ∷ [] ≡ verb_word verb.Build ∷ t ∷ y ∷ [] = sym a.words_are ∙ b.words_are in cc

pub one_check : (words : List (List ℕ)) (s t : List ℕ) → IsCheck words s → IsCheck words t → s ≡ t
one_check words s t a b = let e : verb_word verb.Check ∷ s ∷ [] ≡ verb_word verb.Check ∷ t ∷ [] = sym a.words_are ∙ b.words_are in cc

-- The forms exclude each other by their first word.
abbrev letter : List (List ℕ) → ℕ
letter [] = 0
letter (word ∷ words) = get_or word 0 0

pub no_build_check : (words : List (List ℕ)) (x y s : List ℕ) → IsBuild words x y → IsCheck words s → ⊥
no_build_check words x y s a b = omega (arith, ap letter (sym a.words_are ∙ b.words_are))

pub no_check_play : (words f : List (List ℕ)) (o : Options) (x s : List ℕ) → IsCheck words x → IsPlay words o s f → ⊥
no_check_play words f o x s a b = omega (arith, ap letter (sym a.words_are ∙ b.words_are))

pub no_check_run : (words f : List (List ℕ)) (o : Options) (x s : List ℕ) → IsCheck words x → IsRun words o s f → ⊥
no_check_run words f o x s a b = omega (arith, ap letter (sym a.words_are ∙ b.words_are))

pub no_build_play : (words f : List (List ℕ)) (o : Options) (x y s : List ℕ) → IsBuild words x y → IsPlay words o s f → ⊥
no_build_play words f o x y s a b = omega (arith, ap letter (sym a.words_are ∙ b.words_are))

pub no_build_run : (words f : List (List ℕ)) (o : Options) (x y s : List ℕ) → IsBuild words x y → IsRun words o s f → ⊥
no_build_run words f o x y s a b = omega (arith, ap letter (sym a.words_are ∙ b.words_are))

pub no_play_run : (words f g : List (List ℕ)) (o p : Options) (s t : List ℕ) → IsPlay words o s f → IsRun words p t g → ⊥
no_play_run words f g o p s t a b = omega (arith, ap letter (sym a.words_are ∙ b.words_are))

-- The numbers of the options are within their ranges.
pub steps_within : (settings : List Setting) (words : List (List ℕ)) → AreSettings settings words → (10000 ≤ steps_of settings) × (steps_of settings ≤ 1000000000000)
steps_within [] words a = (omega arith, omega arith)
steps_within (Steps n ∷ settings) words a = a.4
steps_within (Pages n ∷ settings) words a = steps_within settings a.1 a.6
steps_within (Stack n ∷ settings) words a = steps_within settings a.1 a.6

pub pages_within : (settings : List Setting) (words : List (List ℕ)) → AreSettings settings words → (1 ≤ pages_of settings) × (pages_of settings ≤ 8192)
pages_within [] words a = (omega arith, omega arith)
pages_within (Steps n ∷ settings) words a = pages_within settings a.1 a.6
pages_within (Pages n ∷ settings) words a = a.4
pages_within (Stack n ∷ settings) words a = pages_within settings a.1 a.6

pub stack_within : (settings : List Setting) (words : List (List ℕ)) → AreSettings settings words → (8192 ≤ stack_of settings) × (stack_of settings ≤ 16777216)
stack_within [] words a = (omega arith, omega arith)
stack_within (Steps n ∷ settings) words a = stack_within settings a.1 a.6
stack_within (Pages n ∷ settings) words a = stack_within settings a.1 a.6
stack_within (Stack n ∷ settings) words a = a.4
