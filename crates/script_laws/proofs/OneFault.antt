-- A text has one fault at most.
use Rattle.std.proofs.Common.{◌≡◌, ◌≢◌, ℕ, zero, suc, ◌+◌, ◌<◌, ◌≤◌, List, [], ◌∷◌, length, take, slice_get, Some, refl, sym, ap, ◌∙◌, subst, arith, inl, inr}
use Rattle.std.proofs.lemmas.Bool.{cases_order}
use Rattle.play_script.specs.declared.event.Event.{Event}
use Rattle.play_script.specs.declared.script.ScriptFault.{ScriptFault}
use Rattle.play_script.specs.declared.script.ScriptFault.TheVariants.{BadLine, NotInstalled, ModuleNumber, MessageTooLong, ScriptTooLong, Memory}
use Rattle.play_script.specs.Words.{lines_of}
use Rattle.play_script.specs.Events.{message_limit, message_length, IsFit, NamesModuleBelow}
use Rattle.play_script.specs.Scripts.{script_limit, Spells, Spell, AreGood, Shows, IsBad, OffendsAt}
use Rattle.play_script.specs.Faults.{FaultOf}
use Rattle.play_script.proofs.OneReading.{says_one, spell_one}
use Rattle.script_laws.specs.Fault.{HasOneFault}
use Rattle.script_laws.proofs.Good.{Way, Bad, TooLong, NoModule, Early, Offends, fit_length, no_offence}

-- A line offends in one way.
shown_bad : (before : List Event) (text : List ℕ) (e : Event) → IsBad before text → Shows before text e → ⊥
shown_bad before text e bad s = let h = bad.1 e s.spelled in h.1 (s.once h.0)

long_fit : (text : List ℕ) (e f : Event) → Spells e text → Spells f text → message_limit < message_length e → IsFit f → ⊥
long_fit text e f s t long fit = let short = fit_length f fit in let over = subst (λ (x : Event). message_limit < message_length x) (says_one text e f s t) long in omega arith

below_none : (modules : ℕ) (text : List ℕ) (e f : Event) → Spells e text → Spells f text → NamesModuleBelow modules e → (NamesModuleBelow modules f → ⊥) → ⊥
below_none modules text e f s t below none = none (subst (NamesModuleBelow modules) (says_one text e f s t) below)

one_way : (modules : ℕ) (before : List Event) (text : List ℕ) (f g : Way) → Offends f modules before text → Offends g modules before text → f ≡ g
one_way modules before text Bad Bad o p = refl
one_way modules before text Bad TooLong o p = absurd (shown_bad before text p.0 o p.1)
one_way modules before text Bad NoModule o p = absurd (shown_bad before text p.0 o p.1)
one_way modules before text Bad Early o p = absurd (shown_bad before text p.0 o p.1)
one_way modules before text TooLong Bad o p = absurd (shown_bad before text o.0 p o.1)
one_way modules before text TooLong TooLong o p = refl
one_way modules before text TooLong NoModule o p = absurd (long_fit text o.0 p.0 o.1.spelled p.1.spelled o.2 p.2)
one_way modules before text TooLong Early o p = absurd (long_fit text o.0 p.0 o.1.spelled p.1.spelled o.2 p.2)
one_way modules before text NoModule Bad o p = absurd (shown_bad before text o.0 p o.1)
one_way modules before text NoModule TooLong o p = absurd (long_fit text p.0 o.0 p.1.spelled o.1.spelled p.2 o.2)
one_way modules before text NoModule NoModule o p = refl
one_way modules before text NoModule Early o p = absurd (below_none modules text p.0 o.0 p.1.spelled o.1.spelled p.3 o.3)
one_way modules before text Early Bad o p = absurd (shown_bad before text o.0 p o.1)
one_way modules before text Early TooLong o p = absurd (long_fit text p.0 o.0 p.1.spelled o.1.spelled p.2 o.2)
one_way modules before text Early NoModule o p = absurd (below_none modules text o.0 p.0 o.1.spelled p.1.spelled o.3 p.3)
one_way modules before text Early Early o p = refl

abbrev fault_at : Way → ℕ → ScriptFault
fault_at Bad number = BadLine number
fault_at TooLong number = MessageTooLong number
fault_at NoModule number = ModuleNumber number
fault_at Early number = NotInstalled number

-- The first line that offends is one.
get_take : {X : Type 0} (xs : List X) (n k : ℕ) (x : X) → k < n → slice_get xs k ≡ Some x → slice_get (take n xs) k ≡ Some x
get_take [] zero k x lt e = absurd (omega arith)
get_take [] (suc n) k x lt e = e
get_take (y ∷ ys) zero k x lt e = absurd (omega arith)
get_take (y ∷ ys) (suc n) zero x lt e = e
get_take (y ∷ ys) (suc n) (suc k) x lt e = get_take ys n k x (omega arith) e

take_less : (xs : List (List ℕ)) (n k : ℕ) → k < n → take k (take n xs) ≡ take k xs
take_less [] zero k lt = absurd (omega arith)
take_less [] (suc n) zero lt = refl
take_less [] (suc n) (suc k) lt = refl
take_less (y ∷ ys) zero k lt = absurd (omega arith)
take_less (y ∷ ys) (suc n) zero lt = refl
take_less (y ∷ ys) (suc n) (suc k) lt = ap (λ (l : List (List ℕ)). y ∷ l) (take_less ys n k (omega arith))

module _ (text : List ℕ) (modules : ℕ) where
  abbrev At : Way → ℕ → Type 0
  At f number = OffendsAt (Offends f modules) modules text number

  earlier : (f g : Way) (m n : ℕ) (o : At f m) (p : At g n) → o.place < p.place → ⊥
  earlier f g m n o p lt =
      no_offence modules (take p.place (lines_of text)) p.before p.good o.place o.line (get_take (lines_of text) p.place o.place o.line lt o.there) o.before
      (subst (λ (ls : List (List ℕ)). Spell ls o.before) (sym (take_less (lines_of text) p.place o.place lt)) o.good.spelled) f o.offends

  same_place : (f g : Way) (m n : ℕ) (o : At f m) (p : At g n) → o.place ≡ p.place → fault_at f m ≡ fault_at g n
  same_place f g m n o p e =
      let both : Some o.line ≡ Some p.line = sym o.there ∙ ap (λ k. slice_get (lines_of text) k) e ∙ p.there in
      let line : o.line ≡ p.line = cc in
      let before : o.before ≡ p.before = spell_one (take p.place (lines_of text)) o.before p.before (subst (λ k. Spell (take k (lines_of text)) o.before) e o.good.spelled) p.good.spelled in
      let offends : Offends f modules p.before p.line = subst (λ (l : List ℕ). Offends f modules p.before l) line (subst (λ (b : List Event). Offends f modules b o.line) before o.offends) in
      let number : m ≡ n = o.counted ∙ ap (λ k. k + 1) e ∙ sym p.counted in
      ap (λ (h : Way). fault_at h m) (one_way modules p.before p.line f g offends p.offends) ∙ ap (λ k. fault_at g k) number

  one_line : (f g : Way) (m n : ℕ) → At f m → At g n → fault_at f m ≡ fault_at g n
  one_line f g m n o p =
      elim (cases_order o.place p.place) [
        | inl e ↦ same_place f g m n o p e
        | inr (inl lt) ↦ absurd (earlier f g m n o p lt)
        | inr (inr lt) ↦ absurd (earlier g f n m p o lt)
      ]

  -- What the fault comes from.
  data Cause (fault : ScriptFault) : Type 0 where
    Long : script_limit < length text → fault ≡ ScriptTooLong → Cause fault
    Nothing : length text ≤ script_limit → AreGood modules (lines_of text) [] → fault ≡ NotInstalled 0 → Cause fault
    Line : (f : Way) (number : ℕ) → At f number → fault ≡ fault_at f number → Cause fault

  cause : (fault : ScriptFault) → fault ≢ Memory → FaultOf text modules fault → Cause fault
  cause (BadLine number) apart f = Line Bad number f refl
  cause (NotInstalled number) apart (inl f) = Line Early number f refl
  cause (NotInstalled number) apart (inr f) = Nothing f.short f.good (ap NotInstalled f.line)
  cause (ModuleNumber number) apart f = Line NoModule number f refl
  cause (MessageTooLong number) apart f = Line TooLong number f refl
  cause ScriptTooLong apart f = Long f refl
  cause Memory apart f = absurd (apart refl)

  one_cause : (f g : ScriptFault) → Cause f → Cause g → f ≡ g
  one_cause f g (Long long e) (Long over d) = e ∙ sym d
  one_cause f g (Long long e) (Nothing short good d) = absurd (omega arith)
  one_cause f g (Long long e) (Line way number o d) = let short = o.short in absurd (omega arith)
  one_cause f g (Nothing short good e) (Long long d) = absurd (omega arith)
  one_cause f g (Nothing short good e) (Nothing brief fine d) = e ∙ sym d
  one_cause f g (Nothing short good e) (Line way number o d) = absurd (no_offence modules (lines_of text) [] good o.place o.line o.there o.before o.good.spelled way o.offends)
  one_cause f g (Line way number o e) (Long long d) = let short = o.short in absurd (omega arith)
  one_cause f g (Line way number o e) (Nothing short good d) = absurd (no_offence modules (lines_of text) [] good o.place o.line o.there o.before o.good.spelled way o.offends)
  one_cause f g (Line way number o e) (Line other place p d) = e ∙ one_line way other number place o p ∙ sym d

pub one_fault : HasOneFault
one_fault text modules fault other apart away f g = one_cause text modules fault other (cause text modules fault apart f) (cause text modules other away g)
