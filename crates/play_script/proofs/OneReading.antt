-- A text spells one list of events at most.
use Rattle.std.proofs.Common.{◌≡◌, IsTrue, ℕ, Bool, true, false, List, [], ◌∷◌, Some, refl, sym, ap, ◌∙◌, arith, inl, inr, cond, nat_eq}
use Rattle.std.proofs.lemmas.Bool.Decides.{nat_tests}
use Rattle.play_script.specs.declared.event.Event.{Event}
use Rattle.play_script.specs.declared.event.Event.TheVariants.{Install, Call, Reply, Reject, Upgrade}
use Rattle.play_script.specs.declared.verb.Verb.{Verb}
use Rattle.play_script.specs.declared.verb.Verb.TheVariants as verb
use Rattle.play_script.specs.Words.{on_first, words_of, lines_of, IsNumber, bytes_of}
use Rattle.play_script.specs.Scripts.{word_of, call_verb, verb_of, IsSkipped, Spells, Spell, HasOneReading}
use Rattle.play_script.specs.Numbers.{decimal_value}
use Rattle.play_script.specs.Told.{IsSaid}
use Rattle.play_script.proofs.Saying.{said_of}

-- which kind of event a verb begins
abbrev kind : Verb → ℕ
kind verb.Install = 0
kind verb.Call = 1
kind verb.Query = 1
kind verb.Reply = 2
kind verb.Reject = 3
kind verb.Upgrade = 4

kind_call : (q : Bool) → kind (call_verb q) ≡ 1
kind_call true = refl
kind_call false = refl

same_call : (q r : Bool) → call_verb q ≡ call_verb r → q ≡ r
same_call true true e = refl
same_call true false e = cc
same_call false true e = cc
same_call false false e = refl

same_number : (u w : List ℕ) (m n : ℕ) → u ≡ w → IsNumber u m → IsNumber w n → m ≡ n
same_number u w m n e p q = sym p.decimal.value ∙ ap (λ (l : List ℕ). decimal_value 0 l) e ∙ q.decimal.value

same_bytes : (u w xs ys : List ℕ) → u ≡ w → bytes_of u ≡ Some xs → bytes_of w ≡ Some ys → xs ≡ ys
same_bytes u w xs ys e p q = let both : Some xs ≡ Some ys = sym p ∙ ap (λ (l : List ℕ). bytes_of l) e ∙ q in cc

said_one : (v : Verb) (words : List (List ℕ)) (e f : Event) → IsSaid v words e → IsSaid v words f → e ≡ f
said_one v words (Install number) (Install number2) s t =
    let h = s.said in
    let k = t.said in
    let words_same : h.0 ∷ [] ≡ k.0 ∷ [] = sym h.1 ∙ k.1 in
    let word : h.0 ≡ k.0 = cc in
    ap Install (same_number h.0 k.0 number number2 word h.2 k.2)
said_one v words (Install number) (Call q2 method2 caller2 bytes2) s t = absurd (omega (arith, ap kind (s.named ∙ sym t.named), kind_call q2))
said_one v words (Install number) (Reply number2 bytes2) s t = absurd (omega (arith, ap kind (s.named ∙ sym t.named)))
said_one v words (Install number) (Reject number2 code2 text2) s t = absurd (omega (arith, ap kind (s.named ∙ sym t.named)))
said_one v words (Install number) (Upgrade number2) s t = absurd (omega (arith, ap kind (s.named ∙ sym t.named)))
said_one v words (Call q method caller bytes) (Install number2) s t = absurd (omega (arith, ap kind (s.named ∙ sym t.named), kind_call q))
said_one v words (Call q method caller bytes) (Call q2 method2 caller2 bytes2) s t =
    let h = s.said in
    let k = t.said in
    let words_same : method ∷ h.0 ∷ h.1 ∷ [] ≡ method2 ∷ k.0 ∷ k.1 ∷ [] = sym h.2 ∙ k.2 in
    let first : method ≡ method2 = cc in
    let second : h.0 ≡ k.0 = cc in
    let third : h.1 ≡ k.1 = cc in
    let kinds : q ≡ q2 = same_call q q2 (s.named ∙ sym t.named) in
    let c : caller ≡ caller2 = same_bytes h.0 k.0 caller caller2 second h.4 k.4 in
    let b : bytes ≡ bytes2 = same_bytes h.1 k.1 bytes bytes2 third h.6 k.6 in
    cc
said_one v words (Call q method caller bytes) (Reply number2 bytes2) s t = absurd (omega (arith, ap kind (s.named ∙ sym t.named), kind_call q))
said_one v words (Call q method caller bytes) (Reject number2 code2 text2) s t = absurd (omega (arith, ap kind (s.named ∙ sym t.named), kind_call q))
said_one v words (Call q method caller bytes) (Upgrade number2) s t = absurd (omega (arith, ap kind (s.named ∙ sym t.named), kind_call q))
said_one v words (Reply number bytes) (Install number2) s t = absurd (omega (arith, ap kind (s.named ∙ sym t.named)))
said_one v words (Reply number bytes) (Call q2 method2 caller2 bytes2) s t = absurd (omega (arith, ap kind (s.named ∙ sym t.named), kind_call q2))
said_one v words (Reply number bytes) (Reply number2 bytes2) s t =
    let h = s.said in
    let k = t.said in
    let words_same : h.0 ∷ h.1 ∷ [] ≡ k.0 ∷ k.1 ∷ [] = sym h.2 ∙ k.2 in
    let first : h.0 ≡ k.0 = cc in
    let second : h.1 ≡ k.1 = cc in
    let n : number ≡ number2 = same_number h.0 k.0 number number2 first h.3 k.3 in
    let b : bytes ≡ bytes2 = same_bytes h.1 k.1 bytes bytes2 second h.4 k.4 in
    cc
said_one v words (Reply number bytes) (Reject number2 code2 text2) s t = absurd (omega (arith, ap kind (s.named ∙ sym t.named)))
said_one v words (Reply number bytes) (Upgrade number2) s t = absurd (omega (arith, ap kind (s.named ∙ sym t.named)))
said_one v words (Reject number code text) (Install number2) s t = absurd (omega (arith, ap kind (s.named ∙ sym t.named)))
said_one v words (Reject number code text) (Call q2 method2 caller2 bytes2) s t = absurd (omega (arith, ap kind (s.named ∙ sym t.named), kind_call q2))
said_one v words (Reject number code text) (Reply number2 bytes2) s t = absurd (omega (arith, ap kind (s.named ∙ sym t.named)))
said_one v words (Reject number code text) (Reject number2 code2 text2) s t =
    let h = s.said in
    let k = t.said in
    let words_same : h.0 ∷ h.1 ∷ h.2 ∷ [] ≡ k.0 ∷ k.1 ∷ k.2 ∷ [] = sym h.3 ∙ k.3 in
    let first : h.0 ≡ k.0 = cc in
    let second : h.1 ≡ k.1 = cc in
    let third : h.2 ≡ k.2 = cc in
    let n : number ≡ number2 = same_number h.0 k.0 number number2 first h.4 k.4 in
    let c : code ≡ code2 = same_number h.1 k.1 code code2 second h.5 k.5 in
    let b : text ≡ text2 = same_bytes h.2 k.2 text text2 third h.8 k.8 in
    cc
said_one v words (Reject number code text) (Upgrade number2) s t = absurd (omega (arith, ap kind (s.named ∙ sym t.named)))
said_one v words (Upgrade number) (Install number2) s t = absurd (omega (arith, ap kind (s.named ∙ sym t.named)))
said_one v words (Upgrade number) (Call q2 method2 caller2 bytes2) s t = absurd (omega (arith, ap kind (s.named ∙ sym t.named), kind_call q2))
said_one v words (Upgrade number) (Reply number2 bytes2) s t = absurd (omega (arith, ap kind (s.named ∙ sym t.named)))
said_one v words (Upgrade number) (Reject number2 code2 text2) s t = absurd (omega (arith, ap kind (s.named ∙ sym t.named)))
said_one v words (Upgrade number) (Upgrade number2) s t =
    let h = s.said in
    let k = t.said in
    let words_same : h.0 ∷ [] ≡ k.0 ∷ [] = sym h.1 ∙ k.1 in
    let word : h.0 ≡ k.0 = cc in
    ap Upgrade (same_number h.0 k.0 number number2 word h.2 k.2)

-- a line spells one event at most
pub says_one : (line : List ℕ) (e f : Event) → Spells e line → Spells f line → e ≡ f
says_one line e f s t = said_one (verb_of e) s.0 e f (said_of line (verb_of e) s.0 e s.1 s) (said_of line (verb_of e) s.0 f s.1 t)

-- the first byte of a word, or that of a skipped line
abbrev first_or_hash : List ℕ → ℕ
first_or_hash [] = 35
first_or_hash (c ∷ cs) = c

first_of_verb : (v : Verb) → first_or_hash (word_of v) ≡ 35 → ⊥
first_of_verb verb.Install e = omega (arith, e)
first_of_verb verb.Call e = omega (arith, e)
first_of_verb verb.Query e = omega (arith, e)
first_of_verb verb.Reply e = omega (arith, e)
first_of_verb verb.Reject e = omega (arith, e)
first_of_verb verb.Upgrade e = omega (arith, e)

first_word : (c : ℕ) (ps : List (List ℕ)) (w : List ℕ) (ws : List (List ℕ)) → on_first c ps ≡ w ∷ ws → first_or_hash w ≡ c
first_word c [] w ws e = let same : c ∷ [] ≡ w = cc in sym (ap first_or_hash same)
first_word c (p ∷ ps) w ws e = let same : c ∷ p ≡ w = cc in sym (ap first_or_hash same)

begins_with_hash : (line w : List ℕ) (ws : List (List ℕ)) → IsSkipped line → words_of line ≡ w ∷ ws → first_or_hash w ≡ 35
begins_with_hash [] w ws skip e = let same : [] ≡ w = cc in sym (ap first_or_hash same)
begins_with_hash (c ∷ cs) w ws skip e =
    let other : nat_eq c 32 ≡ false = grind (arith, nat_tests) in
    first_word c (words_of cs) w ws (sym (ap (λ b. cond b ([] ∷ words_of cs) (on_first c (words_of cs))) other) ∙ e) ∙ skip

pub skipped_says : (line : List ℕ) (e : Event) → IsSkipped line → Spells e line → ⊥
skipped_says line e skip s = first_of_verb (verb_of e) (begins_with_hash line (word_of (verb_of e)) s.0 skip s.1)

pub spell_one : (lines : List (List ℕ)) (es fs : List Event) → Spell lines es → Spell lines fs → es ≡ fs
spell_one [] es fs s t = s ∙ sym t
spell_one (l ∷ ls) es fs (inl s) (inl t) = spell_one ls es fs s.1 t.1
spell_one (l ∷ ls) es fs (inl s) (inr t) = absurd (skipped_says l t.0 s.0 t.3)
spell_one (l ∷ ls) es fs (inr s) (inl t) = absurd (skipped_says l s.0 t.0 s.3)
spell_one (l ∷ ls) es fs (inr s) (inr t) =
    let first : s.0 ≡ t.0 = says_one l s.0 t.0 s.3 t.3 in
    let others : s.1 ≡ t.1 = spell_one ls s.1 t.1 s.4 t.4 in
    s.2 ∙ ap (λ (e : Event). e ∷ s.1) first ∙ ap (λ (os : List Event). t.0 ∷ os) others ∙ sym t.2

pub script_one : HasOneReading
script_one text modules events others s t = spell_one (lines_of text) events others s.good.spelled t.good.spelled

pub untrue : {P : Type 0} → (P → IsTrue false) → P → ⊥
untrue h p = let e : false ≡ true = h p in absurd (cc)
