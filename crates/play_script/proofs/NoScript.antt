-- A text with a fault is no script.
use Rattle.std.proofs.Common.{◌≡◌, ◌≢◌, ℕ, zero, suc, ◌≤◌, List, [], ◌∷◌, ◌++◌, length, take, drop, slice_get, Some, refl, ap, ◌∙◌, subst, arith, inl, inr, ◌⊎◌, length-append}
use Rattle.std.proofs.Math.Seq.{get_or-append_seam}
use Rattle.std.specs.List.{All}
use Rattle.play_script.specs.declared.event.Event.{Event}
use Rattle.play_script.specs.declared.event.Event.TheVariants.{Install, Call, Reply, Reject, Upgrade}
use Rattle.play_script.specs.declared.script.ScriptFault.{ScriptFault}
use Rattle.play_script.specs.declared.script.ScriptFault.TheVariants.{BadLine, NotInstalled, ModuleNumber, MessageTooLong, ScriptTooLong, Memory}
use Rattle.play_script.specs.Words.{lines_of}
use Rattle.play_script.specs.Events.{message_limit, message_length, IsFit, NamesModuleBelow, IsNoInstall}
use Rattle.play_script.specs.Scripts.{IsSkipped, Spells, Spell, IsInstall, BeginsWell, ScriptOf, Shows, IsBad, IsTooLong, NamesNoModule, IsBeforeInstall, OffendsAt}
use Rattle.play_script.specs.Faults.{IsWithoutEvents, FaultOf}
use Rattle.play_script.proofs.ScriptLines.{other_install}
use Rattle.play_script.proofs.OneReading.{says_one, skipped_says, spell_one}

-- What a script has on a line.
record Stands (lines : List (List ℕ)) (place : ℕ) (line : List ℕ) (events : List Event) : Type 0 where
  before : List Event
  rest : List Event
  whole : events ≡ before ++ rest
  spelled : Spell (take place lines) before
  here : IsSkipped line ⊎ ((e : Event) × (more : List Event) × (rest ≡ e ∷ more) × Spells e line)

stands : (lines : List (List ℕ)) (place : ℕ) (line : List ℕ) (events : List Event) → slice_get lines place ≡ Some line → Spell lines events → Stands lines place line events
stands [] zero line events e s = absurd (cc)
stands [] (suc place) line events e s = absurd (cc)
stands (l ∷ ls) zero line events e (inl k) = let same : l ≡ line = cc in record { before = []; rest = events; whole = refl; spelled = refl; here = inl (subst IsSkipped same k.0) }
stands (l ∷ ls) zero line events e (inr k) =
    let same : l ≡ line = cc in record { before = []; rest = events; whole = refl; spelled = refl; here = inr (k.0, k.1, k.2, subst (Spells k.0) same k.3) }
stands (l ∷ ls) (suc place) line events e (inl k) =
    let h = stands ls place line events e k.1 in record { before = h.before; rest = h.rest; whole = h.whole; spelled = inl (k.0, h.spelled); here = h.here }
stands (l ∷ ls) (suc place) line events e (inr k) =
    let h = stands ls place line k.1 e k.4 in
    record { before = k.0 ∷ h.before; rest = h.rest; whole = k.2 ∙ ap (λ (es : List Event). k.0 ∷ es) h.whole; spelled = inr (k.0, h.before, refl, k.3, h.spelled); here = h.here }

middle : (P : Event → Type 0) (before more : List Event) (e : Event) → All P (before ++ e ∷ more) → P e
middle P before more e h = subst P (get_or-append_seam before e more e) (h (length before) e (omega (arith, length-append before (e ∷ more))))

fit_length : (e : Event) → IsFit e → message_length e ≤ message_limit
fit_length (Install number) f = omega arith
fit_length (Call q m c b) f = f
fit_length (Reply n b) f = f
fit_length (Reject n c t) f = f.0
fit_length (Upgrade n) f = omega arith

-- The event of the line of a script, where the line is not skipped, and what stands before it.
module _ (modules : ℕ) (text : List ℕ) (events : List Event) (s : ScriptOf text modules events) where
  here_event : (P : List Event → List ℕ → Type 0) (number : ℕ) (o : OffendsAt P modules text number) → (IsSkipped o.line → ⊥)
      → (e : Event) × (more : List Event) × (events ≡ o.before ++ e ∷ more) × Spells e o.line
  here_event P number o kept = found (stands (lines_of text) o.place o.line events o.there s.good.spelled)
    where
      found : Stands (lines_of text) o.place o.line events → (e : Event) × (more : List Event) × (events ≡ o.before ++ e ∷ more) × Spells e o.line
      found h = at h.here
        where
          at : IsSkipped o.line ⊎ ((e : Event) × (more : List Event) × (h.rest ≡ e ∷ more) × Spells e o.line) → (e : Event) × (more : List Event) × (events ≡ o.before ++ e ∷ more) × Spells e o.line
          at (inl skip) = absurd (kept skip)
          at (inr k) = (
            k.0,
            k.1,
            h.whole ∙ ap (λ (b : List Event). b ++ h.rest) (spell_one (take o.place (lines_of text)) h.before o.before h.spelled o.good.spelled) ∙ ap (λ (r : List Event). o.before ++ r) k.2,
            k.3,
          )

  shown : (P : List Event → List ℕ → Type 0) (number : ℕ) (o : OffendsAt P modules text number) (e : Event) → Shows o.before o.line e → (more : List Event) × (events ≡ o.before ++ e ∷ more)
  shown P number o e h =
      let k = here_event P number o (λ skip. skipped_says o.line e skip h.spelled) in
      let same : k.0 ≡ e = says_one o.line k.0 e k.3 h.spelled in
      (k.1, k.2 ∙ ap (λ (x : Event). o.before ++ x ∷ k.1) same)

  fits : (P : Event → Type 0) (before more : List Event) (e : Event) → events ≡ before ++ e ∷ more → All P events → P e
  fits P before more e whole h = middle P before more e (subst (All P) whole h)

  second_install : (before more : List Event) (e : Event) → events ≡ before ++ e ∷ more → before ≢ [] → IsInstall e → ⊥
  second_install [] more e whole some i = some refl
  second_install (b ∷ bs) more e whole some i = other_install e (middle IsNoInstall bs more e (subst (λ (es : List Event). All IsNoInstall (drop 1 es)) whole s.good.suits.first)) i

  no_bad : (number : ℕ) → OffendsAt IsBad modules text number → ⊥
  no_bad number o =
      let k = here_event IsBad number o o.offends.0 in let h = o.offends.1 k.0 k.3 in second_install o.before k.1 k.0 k.2 h.1 h.0

  no_long : (number : ℕ) → OffendsAt IsTooLong modules text number → ⊥
  no_long number o =
      let e = o.offends in let k = shown IsTooLong number o e.0 e.1 in
      let short = fit_length e.0 (fits IsFit o.before k.0 e.0 k.1 s.good.fit) in
      let long = e.2 in
      omega arith

  no_module : (number : ℕ) → OffendsAt (NamesNoModule modules) modules text number → ⊥
  no_module number o = let e = o.offends in let k = shown (NamesNoModule modules) number o e.0 e.1 in e.3 (fits (NamesModuleBelow modules) o.before k.0 e.0 k.1 s.good.suits.below)

  begins : (e : Event) (more : List Event) → events ≡ e ∷ more → IsInstall e
  begins e more whole = subst (λ (es : List Event). BeginsWell es) whole s.good.begun

  no_early : (number : ℕ) → OffendsAt (IsBeforeInstall modules) modules text number → ⊥
  no_early number o =
      let e = o.offends in let k = shown (IsBeforeInstall modules) number o e.0 e.1 in
      let whole : events ≡ e.0 ∷ k.0 = k.1 ∙ ap (λ (b : List Event). b ++ e.0 ∷ k.0) e.5 in
      other_install e.0 e.4 (begins e.0 k.0 whole)

  no_events : (number : ℕ) → IsWithoutEvents modules text number → ⊥
  no_events number w = s.some (spell_one (lines_of text) events [] s.good.spelled w.good.spelled)

  pub no_script : (fault : ScriptFault) → FaultOf text modules fault → fault ≡ Memory
  no_script (BadLine number) f = absurd (no_bad number f)
  no_script (NotInstalled number) (inl f) = absurd (no_early number f)
  no_script (NotInstalled number) (inr f) = absurd (no_events number f)
  no_script (ModuleNumber number) f = absurd (no_module number f)
  no_script (MessageTooLong number) f = absurd (no_long number f)
  no_script ScriptTooLong f = let short = s.short in absurd (omega arith)
  no_script Memory f = refl
