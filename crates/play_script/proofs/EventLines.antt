-- The lines of a script are walked up to an event.
use Rattle.std.proofs.Common.{◌≡◌, ℕ, zero, suc, ◌+◌, ◌<◌, ◌≤◌, List, [], ◌∷◌, ◌++◌, length, take, drop, slice_get, Some, refl, sym, ap, ◌∙◌, subst, arith, inl, inr, add-one}
use Rattle.play_script.specs.declared.event.Event.{Event}
use Rattle.play_script.specs.Words.{lines_of}
use Rattle.play_script.specs.Scripts.{IsSkipped, Spells, Spell}
use Rattle.play_script.specs.Places.{IsLineOf}
use Rattle.play_script.proofs.ScriptLines.{spell_skip, spell_more}
use Rattle.play_script.proofs.OneReading.{skipped_says}

-- Where the items from a place on are this one and others.
take_next : {X : Type 0} (all : List X) (n : ℕ) (x : X) (xs : List X) → drop n all ≡ x ∷ xs → take (n + 1) all ≡ take n all ++ x ∷ []
take_next [] zero x xs e = cc
take_next [] (suc n) x xs e = cc
take_next {X} (y ∷ ys) zero x xs e = let same : y ≡ x = cc in ap (λ (z : X). z ∷ []) same
take_next {X} (y ∷ ys) (suc n) x xs e = rw (add-one) (ap (λ (l : List X). y ∷ l) (sym (ap (λ k. take k ys) (add-one n)) ∙ take_next ys n x xs e))

drop_next : {X : Type 0} (all : List X) (n : ℕ) (x : X) (xs : List X) → drop n all ≡ x ∷ xs → drop (n + 1) all ≡ xs
drop_next [] zero x xs e = cc
drop_next [] (suc n) x xs e = cc
drop_next (y ∷ ys) zero x xs e = cc
drop_next (y ∷ ys) (suc n) x xs e = rw (add-one) (sym (ap (λ k. drop k ys) (add-one n)) ∙ drop_next ys n x xs e)

get_next : {X : Type 0} (all : List X) (n : ℕ) (x : X) (xs : List X) → drop n all ≡ x ∷ xs → slice_get all n ≡ Some x
get_next [] zero x xs e = cc
get_next [] (suc n) x xs e = cc
get_next (y ∷ ys) zero x xs e = cc
get_next (y ∷ ys) (suc n) x xs e = get_next ys n x xs e

long_drop : {X : Type 0} (all : List X) (n : ℕ) → drop n all ≡ [] → length all ≤ n
long_drop [] n e = omega arith
long_drop (x ∷ xs) zero e = cc
long_drop (x ∷ xs) (suc n) e = let h = long_drop xs n e in omega (arith, h)

-- These many lines are behind, with the events before the place, and so many events are to come before the one that is sought.
pub record HasWalked (text rest : List ℕ) (number index left : ℕ) : Type 0 where
  pub counted : number + length rest ≤ length text
  pub lines : drop number (lines_of text) ≡ lines_of rest
  pub passed : ℕ
  pub index_is : index ≡ passed + left
  pub spelled : (events : List Event) → Spell (lines_of text) events → Spell (take number (lines_of text)) (take passed events) × Spell (lines_of rest) (drop passed events)

pub walk_none : (text : List ℕ) (index : ℕ) → HasWalked text text 0 index index
walk_none text index = record { counted = omega arith; lines = refl; passed = 0; index_is = omega arith; spelled = λ events s. (refl, s) }

-- The event of the next line, which is not skipped.
next_event : (line rest others : List ℕ) (events : List Event) → (IsSkipped line → ⊥) → lines_of rest ≡ line ∷ lines_of others → Spell (lines_of rest) events
    → (e : Event) × (more : List Event) × (events ≡ e ∷ more) × Spells e line × Spell (lines_of others) more
next_event line rest others events kept e s = found (subst (λ (ls : List (List ℕ)). Spell ls events) e s)
  where
    found : Spell (line ∷ lines_of others) events → (x : Event) × (more : List Event) × (events ≡ x ∷ more) × Spells x line × Spell (lines_of others) more
    found (inl k) = absurd (kept k.0)
    found (inr k) = k

skip_event : (line rest others : List ℕ) (events : List Event) → IsSkipped line → lines_of rest ≡ line ∷ lines_of others → Spell (lines_of rest) events → Spell (lines_of others) events
skip_event line rest others events skip e s = found (subst (λ (ls : List (List ℕ)). Spell ls events) e s)
  where
    found : Spell (line ∷ lines_of others) events → Spell (lines_of others) events
    found (inl k) = k.1
    found (inr k) = absurd (skipped_says line k.0 skip k.3)

pub walk_skip : (text rest line others : List ℕ) (number index left : ℕ) → HasWalked text rest number index left → lines_of rest ≡ line ∷ lines_of others → length others < length rest → IsSkipped line
    → HasWalked text others (number + 1) index left
walk_skip text rest line others number index left w e less skip =
    let here : drop number (lines_of text) ≡ line ∷ lines_of others = w.lines ∙ e in
    record {
      counted = let c = w.counted in omega arith;
      lines = drop_next (lines_of text) number line (lines_of others) here;
      passed = w.passed;
      index_is = w.index_is;
      spelled = λ events s. (let h = w.spelled events s in (
        subst (λ (ls : List (List ℕ)). Spell ls (take w.passed events)) (sym (take_next (lines_of text) number line (lines_of others) here)) (spell_skip (take number (lines_of text)) line (take w.passed events) h.0 skip),
        skip_event line rest others (drop w.passed events) skip e h.1,
      ));
    }

pub walk_event : (text rest line others : List ℕ) (number index left less_one : ℕ) → HasWalked text rest number index left → lines_of rest ≡ line ∷ lines_of others → length others < length rest → (IsSkipped line → ⊥)
    → left ≡ less_one + 1 → HasWalked text others (number + 1) index less_one
walk_event text rest line others number index left less_one w e less kept one =
    let here : drop number (lines_of text) ≡ line ∷ lines_of others = w.lines ∙ e in
    record {
      counted = let c = w.counted in omega arith;
      lines = drop_next (lines_of text) number line (lines_of others) here;
      passed = w.passed + 1;
      index_is = let i = w.index_is in omega arith;
      spelled = λ events s. (let h = w.spelled events s in let n = next_event line rest others (drop w.passed events) kept e h.1 in (
        subst (λ (ls : List (List ℕ)). Spell ls (take (w.passed + 1) events)) (sym (take_next (lines_of text) number line (lines_of others) here))
            (subst (λ (es : List Event). Spell (take number (lines_of text) ++ line ∷ []) es) (sym (take_next events w.passed n.0 n.1 n.2)) (spell_more (take number (lines_of text)) line (take w.passed events) n.0 h.0 n.3)),
        subst (λ (es : List Event). Spell (lines_of others) es) (sym (drop_next events w.passed n.0 n.1 n.2)) n.4,
      ));
    }

pub walk_stop : (text rest line others : List ℕ) (number index left : ℕ) → HasWalked text rest number index left → lines_of rest ≡ line ∷ lines_of others → (IsSkipped line → ⊥) → left ≡ 0
    → (events : List Event) → Spell (lines_of text) events → IsLineOf text events index (number + 1)
walk_stop text rest line others number index left w e kept zero_left events s =
    let h = w.spelled events s in
    let n = next_event line rest others (drop w.passed events) kept e h.1 in
    let here : drop number (lines_of text) ≡ line ∷ lines_of others = w.lines ∙ e in
    let same : w.passed ≡ index = let i = w.index_is in omega arith in
    record {
      place = number;
      counted = refl;
      line = line;
      there = get_next (lines_of text) number line (lines_of others) here;
      event = n.0;
      is = subst (λ k. slice_get events k ≡ Some n.0) same (get_next events w.passed n.0 n.1 n.2);
      spelled = n.3;
      before = subst (λ k. Spell (take number (lines_of text)) (take k events)) same h.0;
    }

pub walk_end : (text rest : List ℕ) (number index left : ℕ) → HasWalked text rest number index left → rest ≡ [] → (events : List Event) → Spell (lines_of text) events → index < length events → ⊥
walk_end text rest number index left w none events s lt =
    let h = w.spelled events s in
    let over : drop w.passed events ≡ [] = subst (λ (r : List ℕ). Spell (lines_of r) (drop w.passed events)) none h.1 in
    let long = long_drop events w.passed over in
    let i = w.index_is in
    omega arith
