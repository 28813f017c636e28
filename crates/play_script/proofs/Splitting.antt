-- A text is parted at the first mark.
use Rattle.std.proofs.Common.{◌≡◌, ℕ, zero, suc, ◌+◌, ◌-◌, ◌<◌, ◌≤◌, Bool, true, false, List, [], ◌∷◌, length, take, drop, get_or, nat_eq, cond, Option, Some, refl, sym, ap, ◌∙◌, arith, add-one}
use Rattle.std.proofs.lemmas.List.{take_all, drop_all, length-drop}
use Rattle.std.proofs.lemmas.Bool.Decides.{nat_tests}
use Rattle.play_script.specs.Words.{on_first, parts, words_of, words_behind, lines_of}

is_mark : (c mark : ℕ) → c ≡ mark → nat_eq c mark ≡ true
is_mark c mark e = grind (arith, nat_tests)

no_mark : (c mark : ℕ) → (c ≡ mark → ⊥) → nat_eq c mark ≡ false
no_mark c mark e = grind (arith, nat_tests)

pub parts_split : (mark : ℕ) (text : List ℕ) (at : ℕ) → at < length text → ((k : ℕ) → k < at → get_or text k 0 ≡ mark → ⊥) → get_or text at 0 ≡ mark
    → parts mark text ≡ take at text ∷ parts mark (drop (at + 1) text)
parts_split mark [] at below before here = absurd (omega arith)
parts_split mark (c ∷ cs) zero below before here = rw (is_mark c mark here) refl
parts_split mark (c ∷ cs) (suc n) below before here =
    rw (no_mark c mark (before 0 (omega arith)), parts_split mark cs n (omega arith) (λ k h e. before (suc k) (omega arith) e) here, add-one, add-one) refl

pub parts_last : (mark : ℕ) (text : List ℕ) → ((k : ℕ) → k < length text → get_or text k 0 ≡ mark → ⊥) → parts mark text ≡ text ∷ []
parts_last mark [] before = refl
parts_last mark (c ∷ cs) before = rw (no_mark c mark (before 0 (omega arith)), parts_last mark cs (λ k h e. before (suc k) (omega arith) e)) refl

pub lines_split : (text : List ℕ) (at : ℕ) → at < length text → ((k : ℕ) → k < at → get_or text k 0 ≡ 10 → ⊥) → get_or text at 0 ≡ 10
    → lines_of text ≡ take at text ∷ lines_of (drop (at + 1) text)
lines_split [] at below before here = absurd (omega arith)
lines_split (c ∷ cs) zero below before here = rw (is_mark c 10 here) refl
lines_split (c ∷ cs) (suc n) below before here =
    rw (no_mark c 10 (before 0 (omega arith)), lines_split cs n (omega arith) (λ k h e. before (suc k) (omega arith) e) here, add-one, add-one) refl

pub lines_last : (text : List ℕ) → 0 < length text → ((k : ℕ) → k < length text → get_or text k 0 ≡ 10 → ⊥) → lines_of text ≡ text ∷ []
lines_last [] some before = absurd (omega arith)
lines_last (c ∷ []) some before = rw (no_mark c 10 (before 0 (omega arith))) refl
lines_last (c ∷ d ∷ cs) some before = rw (no_mark c 10 (before 0 (omega arith)), lines_last (d ∷ cs) (omega arith) (λ k h e. before (suc k) (omega arith) e)) refl

-- the same, as a slice behind the mark has it
pub line_first : (text : List ℕ) (at : ℕ) → at < length text → ((k : ℕ) → k < at → get_or text k 0 ≡ 10 → ⊥) → get_or text at 0 ≡ 10
    → lines_of text ≡ take at text ∷ lines_of (take (length text - (at + 1)) (drop (at + 1) text))
line_first text at below before here =
    lines_split text at below before here
    ∙ ap (λ (l : List ℕ). take at text ∷ lines_of l) (sym (take_all (length text - (at + 1)) (drop (at + 1) text) (omega (arith, length-drop (at + 1) text))))

pub line_only : (text : List ℕ) (at : ℕ) → 0 < length text → length text ≤ at → ((k : ℕ) → k < at → get_or text k 0 ≡ 10 → ⊥)
    → lines_of text ≡ text ∷ lines_of (take (length text - at) (drop at text))
line_only text at some end before =
    lines_last text some (λ k h e. before k (omega arith) e)
    ∙ ap (λ (l : List ℕ). text ∷ lines_of l) (sym (ap (λ (l : List ℕ). take (length text - at) l) (drop_all at text end) ∙ take_all (length text - at) [] (omega arith)))

pub word_first : (text : List ℕ) (at : ℕ) → at < length text → ((k : ℕ) → k < at → get_or text k 0 ≡ 32 → ⊥) → get_or text at 0 ≡ 32
    → words_of text ≡ take at text ∷ words_of (take (length text - (at + 1)) (drop (at + 1) text))
word_first text at below before here =
    parts_split 32 text at below before here
    ∙ ap (λ (l : List ℕ). take at text ∷ words_of l) (sym (take_all (length text - (at + 1)) (drop (at + 1) text) (omega (arith, length-drop (at + 1) text))))

pub word_only : (text : List ℕ) (at : ℕ) → length text ≤ at → ((k : ℕ) → k < at → get_or text k 0 ≡ 32 → ⊥) → words_of text ≡ text ∷ []
word_only text at end before = parts_last 32 text (λ k h e. before k (omega arith) e)

-- there is always a first word
some_part : (here : Bool) (c : ℕ) (ps : List (List ℕ)) → cond here ([] ∷ ps) (on_first c ps) ≡ [] → ⊥
some_part true c ps e = cc
some_part false c [] e = cc
some_part false c (p ∷ ps) e = cc

pub words_some : (line : List ℕ) → words_of line ≡ [] → ⊥
words_some [] e = cc
words_some (c ∷ cs) e = some_part (nat_eq c 32) c (words_of cs) e

-- two words at least are not one
pub no_single : (line first rest a : List ℕ) → words_of line ≡ first ∷ words_of rest → words_of line ≡ a ∷ [] → ⊥
no_single line first rest a more single =
    let none : words_of rest ≡ [] = cc in
    words_some rest none

pub no_single_behind : (before : Option (List ℕ)) (line first rest a : List ℕ) (others : Option (List ℕ)) → before ≡ Some line → words_of line ≡ first ∷ words_behind others → others ≡ Some rest
    → words_behind before ≡ a ∷ [] → ⊥
no_single_behind before line first rest a others is more behind single =
    no_single line first rest a (more ∙ ap (λ (o : Option (List ℕ)). first ∷ words_behind o) behind) (sym (ap (λ (o : Option (List ℕ)). words_behind o) is) ∙ single)
