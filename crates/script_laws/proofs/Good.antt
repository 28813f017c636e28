-- No line of a good text offends.
use Rattle.std.proofs.Common.{◌≡◌, ◌≢◌, ℕ, zero, suc, ◌≤◌, List, [], ◌∷◌, ◌++◌, length, take, drop, slice_get, Some, refl, sym, ap, ◌∙◌, subst, arith, inl, inr, length-append}
use Rattle.std.proofs.Math.Seq.{get_or-append_seam}
use Rattle.std.specs.List.{All}
use Rattle.play_script.specs.declared.event.Event.{Event}
use Rattle.play_script.specs.declared.event.Event.TheVariants.{Install, Call, Reply, Reject, Upgrade}
use Rattle.play_script.specs.Events.{message_limit, message_length, IsFit, NamesModuleBelow, IsNoInstall}
use Rattle.play_script.specs.Scripts.{IsSkipped, Spells, Spell, IsInstall, BeginsWell, AreGood, Shows, IsBad, IsTooLong, NamesNoModule, IsBeforeInstall}
use Rattle.play_script.proofs.ScriptLines.{other_install}
use Rattle.play_script.proofs.OneReading.{says_one, skipped_says}

-- How a line offends.
pub data Way : Type 0 where
  Bad : Way
  TooLong : Way
  NoModule : Way
  Early : Way

abbrev pub Offends : Way → ℕ → List Event → List ℕ → Type 0
Offends Bad modules = IsBad
Offends TooLong modules = IsTooLong
Offends NoModule modules = NamesNoModule modules
Offends Early modules = IsBeforeInstall modules

pub fit_length : (e : Event) → IsFit e → message_length e ≤ message_limit
fit_length (Install number) f = omega arith
fit_length (Call q m c b) f = f
fit_length (Reply n b) f = f
fit_length (Reject n c t) f = f.0
fit_length (Upgrade n) f = omega arith

-- The event of a line that is not skipped, behind those of the lines before it.
abbrev Follows : List Event → List Event → List ℕ → Type 0
Follows events before text = (e : Event) × (more : List Event) × (events ≡ before ++ e ∷ more) × Spells e text

event_at : (lines : List (List ℕ)) (place : ℕ) (text : List ℕ) (events before : List Event) → slice_get lines place ≡ Some text → Spell lines events → Spell (take place lines) before → (IsSkipped text → ⊥)
    → Follows events before text
event_at [] zero text events before at s b kept = absurd (cc)
event_at [] (suc place) text events before at s b kept = absurd (cc)
event_at (l ∷ ls) zero text events before at (inl k) b kept = let same : l ≡ text = cc in absurd (kept (subst IsSkipped same k.0))
event_at (l ∷ ls) zero text events before at (inr k) b kept =
    let same : l ≡ text = cc in (k.0, k.1, k.2 ∙ ap (λ (es : List Event). es ++ k.0 ∷ k.1) (sym b), subst (Spells k.0) same k.3)
event_at (l ∷ ls) (suc place) text events before at (inl k) (inl b) kept = event_at ls place text events before at k.1 b.1 kept
event_at (l ∷ ls) (suc place) text events before at (inl k) (inr b) kept = absurd (skipped_says l b.0 k.0 b.3)
event_at (l ∷ ls) (suc place) text events before at (inr k) (inl b) kept = absurd (skipped_says l k.0 b.0 k.3)
event_at (l ∷ ls) (suc place) text events before at (inr k) (inr b) kept =
    let h = event_at ls place text k.1 b.1 at k.4 b.4 kept in
    let first : k.0 ≡ b.0 = says_one l k.0 b.0 k.3 b.3 in (
      h.0,
      h.1,
      k.2 ∙ ap (λ (e : Event). e ∷ k.1) first ∙ ap (λ (es : List Event). b.0 ∷ es) h.2 ∙ ap (λ (es : List Event). es ++ h.0 ∷ h.1) (sym b.2),
      h.3,
    )

middle : (P : Event → Type 0) (before more : List Event) (e : Event) → All P (before ++ e ∷ more) → P e
middle P before more e h = subst P (get_or-append_seam before e more e) (h (length before) e (omega (arith, length-append before (e ∷ more))))

module _ (modules : ℕ) (lines : List (List ℕ)) (events : List Event) (good : AreGood modules lines events) (place : ℕ) (text : List ℕ) (there : slice_get lines place ≡ Some text) (before : List Event)
    (begin : Spell (take place lines) before) where
  shown : (e : Event) → Shows before text e → (more : List Event) × (events ≡ before ++ e ∷ more)
  shown e h =
      let k = event_at lines place text events before there good.spelled begin (λ skip. skipped_says text e skip h.spelled) in
      let same : k.0 ≡ e = says_one text k.0 e k.3 h.spelled in
      (k.1, k.2 ∙ ap (λ (x : Event). before ++ x ∷ k.1) same)

  fits : (P : Event → Type 0) (more : List Event) (e : Event) → events ≡ before ++ e ∷ more → All P events → P e
  fits P more e whole h = middle P before more e (subst (All P) whole h)

  second_install : (b : List Event) (more : List Event) (e : Event) → events ≡ b ++ e ∷ more → b ≢ [] → IsInstall e → ⊥
  second_install [] more e whole some i = some refl
  second_install (x ∷ xs) more e whole some i = other_install e (middle IsNoInstall xs more e (subst (λ (es : List Event). All IsNoInstall (drop 1 es)) whole good.suits.first)) i

  begins : (e : Event) (more : List Event) → events ≡ e ∷ more → IsInstall e
  begins e more whole = subst (λ (es : List Event). BeginsWell es) whole good.begun

  pub no_offence : (way : Way) → Offends way modules before text → ⊥
  no_offence Bad o =
      let k = event_at lines place text events before there good.spelled begin o.0 in let h = o.1 k.0 k.3 in second_install before k.1 k.0 k.2 h.1 h.0
  no_offence TooLong o =
      let k = shown o.0 o.1 in let short = fit_length o.0 (fits IsFit k.0 o.0 k.1 good.fit) in let long = o.2 in omega arith
  no_offence NoModule o = let k = shown o.0 o.1 in o.3 (fits (NamesModuleBelow modules) k.0 o.0 k.1 good.suits.below)
  no_offence Early o = let k = shown o.0 o.1 in other_install o.0 o.4 (begins o.0 k.0 (k.1 ∙ ap (λ (b : List Event). b ++ o.0 ∷ k.0) o.5))
