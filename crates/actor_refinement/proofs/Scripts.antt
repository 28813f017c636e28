-- The events of a script are sound, and none after the first installs.
use Rattle.std.proofs.Common.{◌≡◌, ℕ, suc, ◌+◌, ◌-◌, ◌*◌, ◌<◌, ◌≤◌, Bool, true, false, ◌&&◌, cond, nat_le, nat_eq, List, [], ◌∷◌, Option, Some, None, refl, sym, subst, drop, inl, inr, All, leb-true, arith}
use Rattle.std.specs.List.{AllByRecursion}
use Rattle.play_script.specs.Words.{lines_of, digit_value, byte_of, before_all, hex_bytes, bytes_of}
use Rattle.play_script.specs.Events.{IsFit, IsNoInstall}
use Rattle.play_script.specs.Scripts.{HasWords, Spell, Spells, ScriptOf}
use Rattle.play_script.specs.declared.event.Event.{Event}
use Rattle.play_script.specs.declared.event.Event.TheVariants as event
use Rattle.actor_refinement.specs.SoundEvents.{AreBytes, IsSound}

both_true : (x y : Bool) → (x && y) ≡ true → y ≡ true
both_true true y e = e
both_true false y e = absurd (cc)

digit_small : (c d : ℕ) → digit_value c ≡ Some d → d < 16
digit_small c d e = by (nat_le 48 c && nat_le c 57) (nat_le 65 c && nat_le c 70) (nat_le 97 c && nat_le c 102) refl refl refl e
  where
    by : (x y z : Bool) → (nat_le 48 c && nat_le c 57) ≡ x → (nat_le 65 c && nat_le c 70) ≡ y → (nat_le 97 c && nat_le c 102) ≡ z
        → cond x (Some (c - 48)) (cond y (Some (c - 55)) (cond z (Some (c - 87)) None)) ≡ Some d → d < 16
    by true y z p q r e =
        let same : c - 48 ≡ d = cc in
        let high : c ≤ 57 = leb-true c 57 (both_true (nat_le 48 c) (nat_le c 57) p) in
        omega (arith, same, high)
    by false true z p q r e =
        let same : c - 55 ≡ d = cc in
        let high : c ≤ 70 = leb-true c 70 (both_true (nat_le 65 c) (nat_le c 70) q) in
        omega (arith, same, high)
    by false false true p q r e =
        let same : c - 87 ≡ d = cc in
        let high : c ≤ 102 = leb-true c 102 (both_true (nat_le 97 c) (nat_le c 102) r) in
        omega (arith, same, high)
    by false false false p q r e = absurd (cc)

byte_small : (h l : Option ℕ) (b : ℕ) → ((d : ℕ) → h ≡ Some d → d < 16) → ((d : ℕ) → l ≡ Some d → d < 16) → byte_of h l ≡ Some b → b < 256
byte_small None l b p q e = absurd (cc)
byte_small (Some h) None b p q e = absurd (cc)
byte_small (Some h) (Some l) b p q e =
    let same : 16 * h + l ≡ b = cc in
    omega (arith, same, p h refl, q l refl)

rest_small : (b : Option ℕ) (rest : Option (List ℕ)) (bytes : List ℕ) → ((n : ℕ) → b ≡ Some n → n < 256) → ((bs : List ℕ) → rest ≡ Some bs → AreBytes bs) → before_all b rest ≡ Some bytes → AreBytes bytes
rest_small None rest bytes p q e = absurd (cc)
rest_small (Some b) None bytes p q e = absurd (cc)
rest_small (Some b) (Some rest) bytes p q e =
    let same : b ∷ rest ≡ bytes = cc in
    subst AreBytes same (p b refl, q rest refl)

hex_small : (word bytes : List ℕ) → hex_bytes word ≡ Some bytes → AreBytes bytes
hex_small [] bytes e = let same : [] ≡ bytes = cc in subst AreBytes same tt
hex_small (high ∷ []) bytes e = absurd (cc)
hex_small (high ∷ low ∷ rest) bytes e =
    rest_small (byte_of (digit_value high) (digit_value low)) (hex_bytes rest) bytes (λ n q. byte_small (digit_value high) (digit_value low) n (digit_small high) (digit_small low) q) (hex_small rest) e

word_small : (word bytes : List ℕ) → bytes_of word ≡ Some bytes → AreBytes bytes
word_small [] bytes e = absurd (cc)
word_small (c ∷ []) bytes e = by (nat_eq c 45) e
  where
    by : (t : Bool) → cond t (Some []) None ≡ Some bytes → AreBytes bytes
    by true e = let same : [] ≡ bytes = cc in subst AreBytes same tt
    by false e = absurd (cc)
word_small (c ∷ d ∷ rest) bytes e = hex_small (c ∷ d ∷ rest) bytes e

event_sound : (e : Event) (words : List (List ℕ)) → HasWords e words → IsFit e → IsSound e
event_sound (event.Install number) words has fit = tt
event_sound (event.Call query method caller bytes) words has fit =
    ((has.5, word_small has.0 caller has.4), record { short = fit; bytewise = word_small has.1 bytes has.6 })
event_sound (event.Reply number bytes) words has fit = record { short = fit; bytewise = word_small has.1 bytes has.4 }
event_sound (event.Reject number code text) words has fit = (has.7, record { short = fit.0; bytewise = word_small has.2 text has.8 }, fit.1)
event_sound (event.Upgrade number) words has fit = tt

all_sound : (lines : List (List ℕ)) (events : List Event) → Spell lines events → AllByRecursion IsFit events → AllByRecursion IsSound events
all_sound [] [] spelled fit = tt
all_sound [] (e ∷ events) spelled fit = absurd (cc)
all_sound (line ∷ lines) events (inl skipped) fit = all_sound lines events skipped.1 fit
all_sound (line ∷ lines) [] (inr x) fit = tt
all_sound (line ∷ lines) (e ∷ events) (inr x) fit =
    let first : e ≡ x.0 = cc in
    let rest : events ≡ x.1 = cc in
    let spelled : Spells e line = subst (λ y. Spells y line) (sym first) x.3 in
    (event_sound e spelled.0 spelled.2 fit.0, all_sound lines events (subst (Spell lines) (sym rest) x.4) fit.1)

by_recursion : {A : Type 0} (P : A → Type 0) (xs : List A) → All P xs → AllByRecursion P xs
by_recursion P [] all = tt
by_recursion P (x ∷ xs) all = (all 0 x (omega arith), by_recursion P xs (λ k d low. all (suc k) d (omega arith)))

pub script_sound : (text : List ℕ) (modules : ℕ) (events : List Event) → ScriptOf text modules events → AllByRecursion IsSound events
script_sound text modules events s = all_sound (lines_of text) events s.good.spelled (by_recursion IsFit events s.good.fit)

pub script_once : (text : List ℕ) (modules : ℕ) (events : List Event) → ScriptOf text modules events → AllByRecursion IsNoInstall (drop 1 events)
script_once text modules events s = by_recursion IsNoInstall (drop 1 events) s.good.suits.first
