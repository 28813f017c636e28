-- A script is read line by line.
use Rattle.std.proofs.Common.{◌≡◌, ◌≢◌, ℕ, zero, suc, ◌+◌, ◌<◌, ◌≤◌, Bool, true, false, List, [], ◌∷◌, ◌++◌, length, take, drop, slice_get, Some, Ok, Err, refl, sym, ap, ◌∙◌, subst, arith, inl, inr, append-nil, add-one, All, nat_eq, not}
use Rattle.std.proofs.Math.Dec.{eqb-suc-zero}
use Rattle.std.proofs.lemmas.List.{take-append-drop}
use Rattle.std.proofs.lemmas.List.Elements.{All-push, All-nil}
use Rattle.play_script.specs.declared.event.Event.{Event}
use Rattle.play_script.specs.declared.event.Event.TheVariants.{Install, Call, Reply, Reject, Upgrade}
use Rattle.play_script.specs.declared.line.LineFault.{LineFault}
use Rattle.play_script.specs.declared.line.LineFault.TheVariants as fault
use Rattle.play_script.specs.declared.script.ScriptFault.TheVariants as script
use Rattle.play_script.specs.Words.{lines_of}
use Rattle.play_script.specs.Events.{message_limit, message_length, IsFit, NamesModuleBelow, IsNoInstall}
use Rattle.play_script.specs.Scripts.{script_limit, IsSkipped, Spells, Spell, IsInstall, BeginsWell, AreGood, ScriptOf}
use Rattle.play_script.specs.Told.{FitsPlace, IsAdmitted, Told, LineTold}
use Rattle.play_script.specs.Faults.{FaultOf, fault_at}

pub spell_skip : (lines : List (List ℕ)) (line : List ℕ) (events : List Event) → Spell lines events → IsSkipped line → Spell (lines ++ line ∷ []) events
spell_skip [] line events s skip = inl (skip, s)
spell_skip (l ∷ ls) line events (inl k) skip = inl (k.0, spell_skip ls line events k.1 skip)
spell_skip (l ∷ ls) line events (inr k) skip = inr (k.0, k.1, k.2, k.3, spell_skip ls line k.1 k.4 skip)

pub spell_more : (lines : List (List ℕ)) (line : List ℕ) (events : List Event) (e : Event) → Spell lines events → Spells e line → Spell (lines ++ line ∷ []) (events ++ e ∷ [])
spell_more [] line events e s says = inr (e, [], ap (λ (es : List Event). es ++ e ∷ []) s, says, refl)
spell_more (l ∷ ls) line events e (inl k) says = inl (k.0, spell_more ls line events e k.1 says)
spell_more (l ∷ ls) line events e (inr k) says = inr (k.0, k.1 ++ e ∷ [], ap (λ (es : List Event). es ++ e ∷ []) k.2, k.3, spell_more ls line k.1 e k.4 says)

pub skip_more : (modules : ℕ) (lines : List (List ℕ)) (line : List ℕ) (events : List Event) → AreGood modules lines events → IsSkipped line → AreGood modules (lines ++ line ∷ []) events
skip_more modules lines line events good skip = record { spelled = spell_skip lines line events good.spelled skip; fit = good.fit; suits = good.suits; begun = good.begun }

-- the events before, as the reader sees them
pub record Begins (begun : Bool) (events : List Event) : Type 0 where
  pub some : begun ≡ true → events ≢ []
  pub none : begun ≡ false → events ≡ []

first_stays : (begun : Bool) (events : List Event) (e : Event) → Begins begun events → FitsPlace begun e → All IsNoInstall (drop 1 events) → All IsNoInstall (drop 1 (events ++ e ∷ []))
first_stays begun [] e b place all = All-nil IsNoInstall
first_stays true (x ∷ xs) e b place all = All-push IsNoInstall xs e all place
first_stays false (x ∷ xs) e b place all = let no_events : x ∷ xs ≡ [] = b.none refl in cc

begins_stays : (begun : Bool) (events : List Event) (e : Event) → Begins begun events → FitsPlace begun e → BeginsWell events → BeginsWell (events ++ e ∷ [])
begins_stays true [] e b place well = absurd (b.some refl refl)
begins_stays false [] e b place well = place
begins_stays begun (x ∷ xs) e b place well = well

good_more : (modules : ℕ) (lines : List (List ℕ)) (line : List ℕ) (events : List Event) (e : Event) (begun : Bool) → AreGood modules lines events → Begins begun events → Spells e line → IsAdmitted modules begun e
    → AreGood modules (lines ++ line ∷ []) (events ++ e ∷ [])
good_more modules lines line events e begun good b says admitted = record {
  spelled = spell_more lines line events e good.spelled says;
  fit = All-push IsFit events e good.fit admitted.fit;
  suits = record {
    below = All-push (NamesModuleBelow modules) events e good.suits.below admitted.below;
    first = first_stays begun events e b admitted.place good.suits.first;
  };
  begun = begins_stays begun events e b admitted.place good.begun;
}

pub line_more : (modules : ℕ) (lines : List (List ℕ)) (line : List ℕ) (old new : List Event) (e : Event) (begun : Bool) → AreGood modules lines old → Begins begun old
    → Told (λ x. Spells x line) modules begun (Ok e) → new ≡ old ++ e ∷ [] → AreGood modules (lines ++ line ∷ []) new
line_more modules lines line old new e begun good b told is =
    subst (λ (es : List Event). AreGood modules (lines ++ line ∷ []) es) (sym is) (good_more modules lines line old e begun good b told.0 told.1)

no_install : (e : Event) → message_limit < message_length e → IsInstall e → ⊥
no_install (Install number) long h = omega arith
no_install (Call q m c b) long h = h
no_install (Reply n b) long h = h
no_install (Reject n c t) long h = h
no_install (Upgrade n) long h = h

pub other_install : (e : Event) → IsNoInstall e → IsInstall e → ⊥
other_install (Install number) other h = other
other_install (Call q m c b) other h = h
other_install (Reply n b) other h = h
other_install (Reject n c t) other h = h
other_install (Upgrade n) other h = h

pub line_fault : (modules : ℕ) (lines : List (List ℕ)) (line : List ℕ) (old new : List Event) (begun : Bool) (f : LineFault) → Begins begun old → (IsSkipped line → ⊥)
    → Told (λ x. Spells x line) modules begun (Err f) → LineTold {A = Unit {0}} modules lines line old new (Err f)
line_fault modules lines line old new begun fault.Bad b kept told = (kept, λ e s. (let t = told e s in (t.0, b.some t.1)))
line_fault modules lines line old new begun fault.TooLong b kept told =
    (told.0, record { spelled = told.1; once = λ h. absurd (no_install told.0 told.2 h) }, told.2)
line_fault modules lines line old new begun fault.NoModule b kept told =
    (told.0, record { spelled = told.1; once = λ h. b.none (told.2.once h) }, told.2.fit, told.2.above)
line_fault modules lines line old new begun fault.NotInstalled b kept told =
    (told.0, record { spelled = told.1; once = λ h. absurd (other_install told.0 told.2.other h) }, told.2.fit, told.2.below, told.2.other, b.none told.2.first)
line_fault modules lines line old new begun fault.Memory b kept told = tt

-- Where the lines from a place on are this one and others.

take_next : (all : List (List ℕ)) (n : ℕ) (x : List ℕ) (xs : List (List ℕ)) → drop n all ≡ x ∷ xs → take (n + 1) all ≡ take n all ++ x ∷ []
take_next [] zero x xs e = cc
take_next [] (suc n) x xs e = cc
take_next (y ∷ ys) zero x xs e = let same : y ≡ x = cc in ap (λ (z : List ℕ). z ∷ []) same
take_next (y ∷ ys) (suc n) x xs e = rw (add-one) (ap (λ (l : List (List ℕ)). y ∷ l) (sym (ap (λ k. take k ys) (add-one n)) ∙ take_next ys n x xs e))

drop_next : (all : List (List ℕ)) (n : ℕ) (x : List ℕ) (xs : List (List ℕ)) → drop n all ≡ x ∷ xs → drop (n + 1) all ≡ xs
drop_next [] zero x xs e = cc
drop_next [] (suc n) x xs e = cc
drop_next (y ∷ ys) zero x xs e = cc
drop_next (y ∷ ys) (suc n) x xs e = rw (add-one) (sym (ap (λ k. drop k ys) (add-one n)) ∙ drop_next ys n x xs e)

get_next : (all : List (List ℕ)) (n : ℕ) (x : List ℕ) (xs : List (List ℕ)) → drop n all ≡ x ∷ xs → slice_get all n ≡ Some x
get_next [] zero x xs e = cc
get_next [] (suc n) x xs e = cc
get_next (y ∷ ys) zero x xs e = cc
get_next (y ∷ ys) (suc n) x xs e = get_next ys n x xs e

-- the first lines are read, and these bytes are left
pub record HasRead (modules : ℕ) (text rest : List ℕ) (number : ℕ) (events : List Event) : Type 0 where
  pub short : length text ≤ script_limit
  pub counted : number + length rest ≤ length text
  pub left : drop number (lines_of text) ≡ lines_of rest
  pub good : AreGood modules (take number (lines_of text)) events

pub read_none : (modules : ℕ) (text : List ℕ) (events : List Event) → length text ≤ script_limit → events ≡ [] → HasRead modules text text 0 events
read_none modules text events short none = record {
  short = short;
  counted = omega arith;
  left = refl;
  good = record {
    spelled = none;
    fit = subst (λ (es : List Event). All IsFit es) (sym none) (All-nil IsFit);
    suits = record {
      below = subst (λ (es : List Event). All (NamesModuleBelow modules) es) (sym none) (All-nil (NamesModuleBelow modules));
      first = subst (λ (es : List Event). All IsNoInstall (drop 1 es)) (sym none) (All-nil IsNoInstall);
    };
    begun = subst (λ (es : List Event). BeginsWell es) (sym none) tt;
  };
}

pub read_more : (modules : ℕ) (text rest line others : List ℕ) (number : ℕ) (old new : List Event) → HasRead modules text rest number old
    → lines_of rest ≡ line ∷ lines_of others → length others < length rest → AreGood modules (take number (lines_of text) ++ line ∷ []) new
    → HasRead modules text others (number + 1) new
read_more modules text rest line others number old new read first less told =
    let next : drop number (lines_of text) ≡ line ∷ lines_of others = read.left ∙ first in
    record {
      short = read.short;
      counted = omega (arith, read.counted);
      left = drop_next (lines_of text) number line (lines_of others) next;
      good = subst (λ (ls : List (List ℕ)). AreGood modules ls new) (sym (take_next (lines_of text) number line (lines_of others) next)) told;
    }

pub read_fault : (modules : ℕ) (text rest line others : List ℕ) (number : ℕ) (old new : List Event) (f : LineFault) → HasRead modules text rest number old
    → lines_of rest ≡ line ∷ lines_of others → LineTold {A = Unit {0}} modules (take number (lines_of text)) line old new (Err f) → FaultOf text modules (fault_at f (number + 1))
read_fault modules text rest line others number old new f read first told = by_fault f told
  where
    there : slice_get (lines_of text) number ≡ Some line
    there = get_next (lines_of text) number line (lines_of others) (read.left ∙ first)

    by_fault : (g : LineFault) → LineTold {A = Unit {0}} modules (take number (lines_of text)) line old new (Err g) → FaultOf text modules (fault_at g (number + 1))
    by_fault fault.Bad t = record { short = read.short; place = number; counted = refl; line = line; there = there; before = old; good = read.good; offends = t }
    by_fault fault.TooLong t = record { short = read.short; place = number; counted = refl; line = line; there = there; before = old; good = read.good; offends = t }
    by_fault fault.NoModule t = record { short = read.short; place = number; counted = refl; line = line; there = there; before = old; good = read.good; offends = t }
    by_fault fault.NotInstalled t = inl (record { short = read.short; place = number; counted = refl; line = line; there = there; before = old; good = read.good; offends = t })
    by_fault fault.Memory t = tt

all_read : (modules : ℕ) (text rest : List ℕ) (number : ℕ) (events : List Event) → HasRead modules text rest number events → rest ≡ [] → AreGood modules (lines_of text) events
all_read modules text rest number events read none =
    let left : drop number (lines_of text) ≡ [] = read.left ∙ ap (λ (l : List ℕ). lines_of l) none in
    let all : take number (lines_of text) ≡ lines_of text =
    sym (append-nil (take number (lines_of text))) ∙ sym (ap (λ (l : List (List ℕ)). take number (lines_of text) ++ l) left) ∙ take-append-drop number (lines_of text) in
    subst (λ (ls : List (List ℕ)). AreGood modules ls events) all read.good

pub read_all : (modules : ℕ) (text rest : List ℕ) (number : ℕ) (events : List Event) → HasRead modules text rest number events → rest ≡ [] → events ≢ [] → ScriptOf text modules events
read_all modules text rest number events read none some = record { short = read.short; good = all_read modules text rest number events read none; some = some }

pub read_nothing : (modules : ℕ) (text rest : List ℕ) (number : ℕ) (events : List Event) → HasRead modules text rest number events → rest ≡ [] → events ≡ [] → FaultOf text modules (script.NotInstalled 0)
read_nothing modules text rest number events read none empty =
    inr (record { short = read.short; line = refl; good = subst (λ (es : List Event). AreGood modules (lines_of text) es) empty (all_read modules text rest number events read none) })

-- what a test for no items says
pub none_by : {A : Type 0} (xs : List A) (empty : Bool) → empty ≡ nat_eq (length xs) 0 → empty ≡ true → xs ≡ []
none_by [] empty is so = refl
none_by (x ∷ xs) empty is so = let other : true ≡ false = sym so ∙ is ∙ eqb-suc-zero (length xs) in cc

pub some_by : {A : Type 0} (xs : List A) (empty : Bool) → empty ≡ nat_eq (length xs) 0 → empty ≡ false → xs ≢ []
some_by [] empty is apart = λ e. (let other : true ≡ false = sym is ∙ apart in cc)
some_by (x ∷ xs) empty is apart = λ e. cc

pub begins_by : (events : List Event) (empty : Bool) → empty ≡ nat_eq (length events) 0 → Begins (not empty) events
begins_by events true is = record { some = λ h e. (let other : false ≡ true = h in cc); none = λ h. none_by events true is refl }
begins_by events false is = record { some = λ h. some_by events false is refl; none = λ h. (let other : true ≡ false = h in cc) }
