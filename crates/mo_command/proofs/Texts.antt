-- Scripts and their events.
use Rattle.std.proofs.Common.{◌≡◌, ℕ, zero, suc, ◌+◌, ◌<◌, ◌≤◌, Bool, true, false, List, [], ◌∷◌, length, take, drop, slice_get, get_or, ◌++◌, Some, refl, sym, ap, subst, ◌∙◌, arith, inl, inr, cond, nat_eq, Result, Ok, Err, IfOk}
use Rattle.std.proofs.lemmas.Option.{slice_get_within, slice_get_read}
use Rattle.std.proofs.lemmas.List.{take_more, take_all}
use Rattle.std.proofs.lemmas.List.Elements.{recursion_from_All}
use Rattle.std.specs.List.{AllByRecursion}
use Rattle.play_script.specs.declared.event.Event.{Event}
use Rattle.play_script.specs.declared.event.Event.TheVariants.{Install, Call, Reply, Reject, Upgrade}
use Rattle.play_script.specs.declared.script.ScriptFault.{ScriptFault}
use Rattle.play_script.specs.declared.script.ScriptFault.TheVariants as script
use Rattle.play_script.specs.Events.{IsNoInstall}
use Rattle.play_script.specs.Words.{on_first, lines_of}
use Rattle.play_script.specs.Scripts.{script_limit, IsSkipped, Spells, Spell, ScriptOf}
use Rattle.play_script.specs.Places.{IsLineOf}
use Rattle.play_script.specs.Faults.{FaultOf}
use Rattle.play_script.proofs.OneReading.{says_one, skipped_says}
use Rattle.query_module.specs.ActorRun.{IsGiven}
use Rattle.mo_command.specs.declared.status.Status.{Status}
use Rattle.mo_command.specs.declared.status.Input.{Input}
use Rattle.mo_command.specs.declared.status.Input.TheVariants.{Sources}
use Rattle.mo_command.specs.Replays.{IsTaken, IsScript, IsBadScript, IsNotYet}
use Rattle.mo_command.specs.Stopped.{IsFirstUntaken, ArePlayable, TextStops, script_status}

-- A text has no more events than bytes.
spell_count : (lines : List (List ℕ)) (events : List Event) → Spell lines events → length events ≤ length lines
spell_count [] events s = let none : length events ≡ 0 = ap (λ (es : List Event). length es) s in omega arith
spell_count (l ∷ ls) events (inl k) = let h = spell_count ls events k.1 in omega (arith, h)
spell_count (l ∷ ls) events (inr k) = let h = spell_count ls k.1 k.4 in let same : length events ≡ length (k.0 ∷ k.1) = ap (λ (es : List Event). length es) k.2 in omega (arith, h)

first_count : (c : ℕ) (lines : List (List ℕ)) → length (on_first c lines) ≤ suc (length lines)
first_count c [] = omega arith
first_count c (l ∷ ls) = omega arith

cond_count : (b : Bool) (xs ys : List (List ℕ)) (n : ℕ) → length xs ≤ n → length ys ≤ n → length (cond b xs ys) ≤ n
cond_count true xs ys n h k = h
cond_count false xs ys n h k = k

lines_count : (text : List ℕ) → length (lines_of text) ≤ length text
lines_count [] = omega arith
lines_count (c ∷ cs) =
    let h = lines_count cs in let k = first_count c (lines_of cs) in
    cond_count (nat_eq c 10) ([] ∷ lines_of cs) (on_first c (lines_of cs)) (length (c ∷ cs)) (omega (arith, h)) (omega (arith, h, k))

pub playable : (text : List ℕ) (count : ℕ) (events : List Event) → ScriptOf text count events → ArePlayable count events
playable text count events s =
    let h = spell_count (lines_of text) events s.good.spelled in let k = lines_count text in let short = s.short in
    record { fit = s.good.fit; suits = s.good.suits; few = omega (arith, h, k, short) }

pub playable_all : (input : Input) (count : ℕ) (text : List ℕ) (r : Result (List Event) Status) → IfOk r (λ events. IsScript input count events text) → IfOk r (ArePlayable count)
playable_all input count text (Ok events) h = playable text count events h.script
playable_all input count text (Err status) h = tt

-- A fault of the text.
pub script_stops : (input : Input) (text : List ℕ) (count : ℕ) (fault : ScriptFault) → FaultOf text count fault → ((events : List Event) → ScriptOf text count events → fault ≡ script.Memory)
    → TextStops input count text (script_status fault)
script_stops input text count (script.BadLine line) f only = record { none = λ es s. let e = only es s in absurd (cc); named = f; cause = λ e. absurd (cc) }
script_stops input text count (script.NotInstalled line) f only = record { none = λ es s. let e = only es s in absurd (cc); named = f; cause = λ e. absurd (cc) }
script_stops input text count (script.ModuleNumber line) f only = record { none = λ es s. let e = only es s in absurd (cc); named = f; cause = λ e. absurd (cc) }
script_stops input text count (script.MessageTooLong line) f only = record { none = λ es s. let e = only es s in absurd (cc); named = f; cause = λ e. absurd (cc) }
script_stops input text count script.ScriptTooLong f only = record { none = λ es s. let e = only es s in absurd (cc); named = f; cause = λ e. absurd (cc) }
script_stops input text count script.Memory f only = tt

pub long_script : (text : List ℕ) (count : ℕ) → script_limit < length text → IsBadScript count script.ScriptTooLong text
long_script text count long = record { none = λ es s. let short = s.short in absurd (omega arith); named = long; cause = λ e. absurd (cc) }

-- The first line whose event is not taken.
pub get_take : {X : Type 0} (xs : List X) (n k : ℕ) (x : X) → k < n → slice_get xs k ≡ Some x → slice_get (take n xs) k ≡ Some x
get_take [] zero k x lt e = absurd (omega arith)
get_take [] (suc n) k x lt e = e
get_take (y ∷ ys) zero k x lt e = absurd (omega arith)
get_take (y ∷ ys) (suc n) zero x lt e = e
get_take (y ∷ ys) (suc n) (suc k) x lt e = get_take ys n k x (omega arith) e

pub spelled_in : (P : Event → Type 0) (lines : List (List ℕ)) (events : List Event) (k : ℕ) (line : List ℕ) (e : Event) → Spell lines events → slice_get lines k ≡ Some line → Spells e line → AllByRecursion P events → P e
spelled_in P [] events zero line e s at says all = absurd (cc)
spelled_in P [] events (suc k) line e s at says all = absurd (cc)
spelled_in P (l ∷ ls) events zero line e (inl h) at says all = let same : l ≡ line = cc in absurd (skipped_says line e (subst IsSkipped same h.0) says)
spelled_in P (l ∷ ls) events zero line e (inr h) at says all =
    let same : l ≡ line = cc in
    let event : h.0 ≡ e = says_one line h.0 e (subst (Spells h.0) same h.3) says in
    let here : AllByRecursion P (h.0 ∷ h.1) = subst (AllByRecursion P) h.2 all in
    subst P event here.0
spelled_in P (l ∷ ls) events (suc k) line e (inl h) at says all = spelled_in P ls events k line e h.1 at says all
spelled_in P (l ∷ ls) events (suc k) line e (inr h) at says all =
    let here : AllByRecursion P (h.0 ∷ h.1) = subst (AllByRecursion P) h.2 all in spelled_in P ls h.1 k line e h.4 at says here.1

pub not_yet : (text : List ℕ) (count : ℕ) (events : List Event) (index number : ℕ) → ScriptOf text count events → IsFirstUntaken events index
    → ((es : List Event) → Spell (lines_of text) es → index < length es → IsLineOf text es index number) → IsNotYet count number text
not_yet text count events index number s f at =
    let l = at events s.good.spelled (slice_get_within events index f.event f.there) in
    let one : Some l.event ≡ Some f.event = sym l.is ∙ f.there in
    let same : l.event ≡ f.event = cc in
    record {
      events = events;
      script = s;
      place = l.place;
      counted = l.counted;
      line = l.line;
      there = l.there;
      event = l.event;
      spelled = l.spelled;
      later = λ t. f.untaken (subst IsTaken same t);
      first = λ earlier other e lt is says. spelled_in IsTaken (take l.place (lines_of text)) (take index events) earlier other e l.before (get_take (lines_of text) l.place earlier other lt is) says f.before;
    }

-- What `run` takes, it is given behind the installation.
given_one : (e : Event) → IsTaken e → IsNoInstall e → IsGiven e
given_one (Install number) t n = absurd n
given_one (Call q m c b) t n = t
given_one (Reply k b) t n = tt
given_one (Reject k c t) taken n = tt
given_one (Upgrade number) t n = absurd t

given_all : (events : List Event) → AllByRecursion IsTaken events → AllByRecursion IsNoInstall events → AllByRecursion IsGiven events
given_all [] t n = tt
given_all (e ∷ es) t n = (given_one e t.0 n.0, given_all es t.1 n.1)

taken_rest : (events : List Event) → AllByRecursion IsTaken events → AllByRecursion IsTaken (drop 1 events)
taken_rest [] t = tt
taken_rest (e ∷ es) t = t.1

pub taken_script : (text : List ℕ) (count : ℕ) (events taken : List Event) → ScriptOf text count events → taken ≡ events → AllByRecursion IsTaken events → IsScript Sources count taken text
taken_script text count events taken s same t =
    subst (λ (es : List Event). IsScript Sources count es text) (sym same)
    (record { script = s; admitted = given_all (drop 1 events) (taken_rest events t) (recursion_from_All IsNoInstall (drop 1 events) s.good.suits.first) })

-- The events before a place are taken.
all_push : {X : Type 0} (P : X → Type 0) (xs : List X) (x : X) → AllByRecursion P xs → P x → AllByRecursion P (xs ++ x ∷ [])
all_push P [] x h p = (p, tt)
all_push P (y ∷ ys) x h p = (h.0, all_push P ys x h.1 p)

pub first_untaken : (events : List Event) (index : ℕ) (e : Event) → index < length events → e ≡ get_or events index e → AllByRecursion IsTaken (take index events) → (IsTaken e → ⊥) → IsFirstUntaken events index
first_untaken events index e lt is before none = record { event = e; there = slice_get_read events (length events) index e refl lt is; untaken = none; before = before }

pub taken_more : (events : List Event) (index : ℕ) (e : Event) → index < length events → e ≡ get_or events index e → AllByRecursion IsTaken (take index events) → IsTaken e → AllByRecursion IsTaken (take (index + 1) events)
taken_more events index e lt is before t =
    subst (AllByRecursion IsTaken) (sym (take_more events index e lt ∙ ap (λ (x : Event). take index events ++ x ∷ []) (sym is))) (all_push IsTaken (take index events) e before t)

pub all_taken : (events : List Event) (index : ℕ) → length events ≤ index → AllByRecursion IsTaken (take index events) → AllByRecursion IsTaken events
all_taken events index le h = subst (AllByRecursion IsTaken) (take_all index events le) h
