-- Options that were given, and those that follow.
use Rattle.std.proofs.Common.{◌≡◌, ℕ, List, [], ◌∷◌, ◌++◌, codes, get_or, arith, refl, sym, ap, subst, ◌∙◌}
use Rattle.std.specs.List.{AllByRecursion}
use Rattle.play_script.specs.Numbers.{IsDecimal, decimal_value}
use Rattle.mo_words.specs.declared.options.Options.{Options}
use Rattle.mo_words.specs.declared.options.Given.{Given}
use Rattle.mo_words.specs.declared.options.Setting.{Setting}
use Rattle.mo_words.specs.declared.options.Setting.TheVariants.{Steps, Pages, Stack}
use Rattle.mo_words.specs.Options.{option_word, number_of, IsNew, AreSettings}
use Rattle.mo_words.specs.Commands.{IsFirstFile, IsOptionWord}
use Rattle.mo_words.specs.Reading.{Begins, IsFree, added, chosen, nothing_given, Completes, Leads, Leaves}

-- An option's word is no file's.
option_is : (s : Setting) → IsOptionWord (option_word s)
option_is (Steps n) = (codes "steps", refl)
option_is (Pages n) = (codes "pages", refl)
option_is (Stack n) = (codes "stack", refl)

pub no_file : (s : Setting) (word : List ℕ) → IsFirstFile word → word ≡ option_word s → ⊥
no_file s word f e = f.no_option (subst IsOptionWord (sym e) (option_is s))

-- The fifth letter tells the options apart.
abbrev letter : List ℕ → ℕ
letter word = get_or word 4 0

-- The word and the number make the option.
same_setting : (s t : Setting) → option_word s ≡ option_word t → number_of s ≡ number_of t → s ≡ t
same_setting (Steps m) (Steps n) e f = ap Steps f
same_setting (Steps m) (Pages n) e f = absurd (omega (arith, ap letter e))
same_setting (Steps m) (Stack n) e f = absurd (omega (arith, ap letter e))
same_setting (Pages m) (Steps n) e f = absurd (omega (arith, ap letter e))
same_setting (Pages m) (Pages n) e f = ap Pages f
same_setting (Pages m) (Stack n) e f = absurd (omega (arith, ap letter e))
same_setting (Stack m) (Steps n) e f = absurd (omega (arith, ap letter e))
same_setting (Stack m) (Pages n) e f = absurd (omega (arith, ap letter e))
same_setting (Stack m) (Stack n) e f = ap Stack f

same_number : (u w : List ℕ) (m n : ℕ) → u ≡ w → IsDecimal u m → IsDecimal w n → m ≡ n
same_number u w m n e p q = sym p.value ∙ ap (λ (l : List ℕ). decimal_value 0 l) e ∙ q.value

-- Another option stays free, and was free.
free_with : (given : Given) (s t : Setting) → (option_word t ≡ option_word s → ⊥) → IsFree given t → IsFree (added given s) t
free_with given (Steps m) (Steps n) d f = absurd (d refl)
free_with given (Steps m) (Pages n) d f = f
free_with given (Steps m) (Stack n) d f = f
free_with given (Pages m) (Steps n) d f = f
free_with given (Pages m) (Pages n) d f = absurd (d refl)
free_with given (Pages m) (Stack n) d f = f
free_with given (Stack m) (Steps n) d f = f
free_with given (Stack m) (Pages n) d f = f
free_with given (Stack m) (Stack n) d f = absurd (d refl)

free_before : (given : Given) (s t : Setting) → IsFree (added given s) t → IsFree given t × (option_word t ≡ option_word s → ⊥)
free_before given (Steps m) (Steps n) f = absurd (cc)
free_before given (Steps m) (Pages n) f = (f, λ e. omega (arith, ap letter e))
free_before given (Steps m) (Stack n) f = (f, λ e. omega (arith, ap letter e))
free_before given (Pages m) (Steps n) f = (f, λ e. omega (arith, ap letter e))
free_before given (Pages m) (Pages n) f = absurd (cc)
free_before given (Pages m) (Stack n) f = (f, λ e. omega (arith, ap letter e))
free_before given (Stack m) (Steps n) f = (f, λ e. omega (arith, ap letter e))
free_before given (Stack m) (Pages n) f = (f, λ e. omega (arith, ap letter e))
free_before given (Stack m) (Stack n) f = absurd (cc)

all_with : (given : Given) (s : Setting) (ts : List Setting) → IsNew s ts → AllByRecursion (IsFree given) ts → AllByRecursion (IsFree (added given s)) ts
all_with given s [] d f = tt
all_with given s (t ∷ ts) d f = (free_with given s t d.0 f.0, all_with given s ts d.1 f.1)

all_before : (given : Given) (s : Setting) (ts : List Setting) → AllByRecursion (IsFree (added given s)) ts → AllByRecursion (IsFree given) ts
all_before given s [] f = tt
all_before given s (t ∷ ts) f = ((free_before given s t f.0).0, all_before given s ts f.1)

all_new : (given : Given) (s : Setting) (ts : List Setting) → AllByRecursion (IsFree (added given s)) ts → IsNew s ts
all_new given s [] f = tt
all_new given s (t ∷ ts) f = ((free_before given s t f.0).1, all_new given s ts f.1)

-- What is chosen does not change when a free option is given.
chosen_with : (given : Given) (s : Setting) (ts : List Setting) → IsFree given s → chosen given (s ∷ ts) ≡ chosen (added given s) ts
chosen_with given (Steps n) ts f = rw f refl
chosen_with given (Pages n) ts f = rw f refl
chosen_with given (Stack n) ts f = rw f refl

-- A free option that the words begin with is given.
pub given_one : (given : Given) (s : Setting) (words rest : List (List ℕ)) (o : Options) (script : List ℕ) (files : List (List ℕ))
    → Begins s words rest → Completes given words o script files → IsFree given s × Completes (added given s) rest o script files
given_one given s words rest o script files b c = parts c.settings c.front c.words_are c.are_settings c.free c.options_are
  where
    parts : (ts : List Setting) (front : List (List ℕ)) → words ≡ front ++ script ∷ files → AreSettings ts front → AllByRecursion (IsFree given) ts → o ≡ chosen given ts
        → IsFree given s × Completes (added given s) rest o script files
    parts [] front whole a f e =
        let first : script ∷ files ≡ option_word s ∷ b.digits ∷ rest = subst (λ (fs : List (List ℕ)). fs ++ script ∷ files ≡ option_word s ∷ b.digits ∷ rest) a (sym whole ∙ b.words_are) in
        let same : script ≡ option_word s = cc in
        absurd (no_file s script c.script_is same)
    parts (t ∷ ts) front whole a f e =
        let first : option_word t ∷ a.0 ∷ (a.1 ++ script ∷ files) ≡ option_word s ∷ b.digits ∷ rest =
        subst (λ (fs : List (List ℕ)). fs ++ script ∷ files ≡ option_word s ∷ b.digits ∷ rest) a.2 (sym whole ∙ b.words_are) in
        let word : option_word t ≡ option_word s = cc in
        let digits : a.0 ≡ b.digits = cc in
        let others : a.1 ++ script ∷ files ≡ rest = cc in
        let same : t ≡ s = same_setting t s word (same_number a.0 b.digits (number_of t) (number_of s) digits a.3 b.decimal) in
        let free : IsFree given s = subst (IsFree given) same f.0 in
        let new : IsNew s ts = subst (λ u. IsNew u ts) same a.5 in
        let options : o ≡ chosen given (s ∷ ts) = subst (λ u. o ≡ chosen given (u ∷ ts)) same e in (
          free,
          record {
            settings = ts;
            front = a.1;
            words_are = sym others;
            are_settings = a.6;
            free = all_with given s ts new f.1;
            options_are = options ∙ chosen_with given s ts free;
            script_is = c.script_is;
          },
        )

pub one_given : (given : Given) (s : Setting) (words rest : List (List ℕ)) (o : Options) (script : List ℕ) (files : List (List ℕ))
    → Begins s words rest → IsFree given s → Completes (added given s) rest o script files → Completes given words o script files
one_given given s words rest o script files b free c = record {
  settings = s ∷ c.settings;
  front = option_word s ∷ b.digits ∷ c.front;
  words_are = b.words_are ∙ ap (λ (ws : List (List ℕ)). option_word s ∷ b.digits ∷ ws) c.words_are;
  are_settings = (b.digits, c.front, refl, b.decimal, b.range, all_new given s c.settings c.free, c.are_settings);
  free = (free, all_before given s c.settings c.free);
  options_are = c.options_are ∙ sym (chosen_with given s c.settings free);
  script_is = c.script_is;
}

-- The loop over the options.
pub leads_none : (words : List (List ℕ)) → Leads nothing_given words words
leads_none words = record { forth = λ o script files c. c; back = λ o script files c. c }

pub leads_more : (given : Given) (s : Setting) (words rest others : List (List ℕ)) → Leads given words rest → Begins s rest others → IsFree given s → Leads (added given s) words others
leads_more given s words rest others l b free = record {
  forth = λ o script files c. (given_one given s rest others o script files b (l.forth o script files c)).1;
  back = λ o script files c. l.back o script files (one_given given s rest others o script files b free c);
}

pub leads_twice : (given : Given) (s : Setting) (words rest others : List (List ℕ)) (o : Options) (script : List ℕ) (files : List (List ℕ))
    → Leads given words rest → Begins s rest others → (IsFree given s → ⊥) → Completes nothing_given words o script files → ⊥
leads_twice given s words rest others o script files l b taken c = taken (given_one given s rest others o script files b (l.forth o script files c)).0

-- Where no option follows.
settled : (given : Given) (rest : List (List ℕ)) → ((s : Setting) → (others : List (List ℕ)) → Begins s rest others → ⊥) → (o : Options) (script : List ℕ) (files : List (List ℕ))
    → Completes given rest o script files → (o ≡ chosen given []) × (rest ≡ script ∷ files)
settled given rest none o script files c = parts c.settings c.front c.words_are c.are_settings c.options_are
  where
    parts : (ts : List Setting) (front : List (List ℕ)) → rest ≡ front ++ script ∷ files → AreSettings ts front → o ≡ chosen given ts → (o ≡ chosen given []) × (rest ≡ script ∷ files)
    parts [] front whole a e = (e, subst (λ (fs : List (List ℕ)). rest ≡ fs ++ script ∷ files) a whole)
    parts (t ∷ ts) front whole a e = absurd (none t (a.1 ++ script ∷ files) (record { digits = a.0; words_are = subst (λ (fs : List (List ℕ)). rest ≡ fs ++ script ∷ files) a.2 whole; decimal = a.3; range = a.4 }))

pub leads_end : (given : Given) (words rest : List (List ℕ)) (options : Options) → Leads given words rest → ((s : Setting) → (others : List (List ℕ)) → Begins s rest others → ⊥)
    → options ≡ chosen given [] → Leaves options words rest
leads_end given words rest options l none e = record {
  forth = λ o script files c. let h = settled given rest none o script files (l.forth o script files c) in (h.0 ∙ sym e, h.1);
  back = λ script files whole first. l.back options script files (record { settings = []; front = []; words_are = whole; are_settings = refl; free = tt; options_are = e; script_is = first });
}
