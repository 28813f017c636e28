-- The cases in which a run ends exclude each other.
use Rattle.std.proofs.Common.{◌≡◌, ℕ, zero, suc, ◌+◌, ◌<◌, List, length, take, slice_get, Some, None, refl, sym, ap, subst, ◌∙◌, inl, inr, ◌⊎◌}
use Rattle.std.proofs.lemmas.Bool.{cases_order}
use Rattle.std.specs.List.{AllByRecursion}
use Rattle.outer.specs.Names.{NameMap}
use Rattle.play_script.specs.declared.event.Event.{Event}
use Rattle.script_laws.proofs.OneFault.{one_fault}
use Rattle.mo_words.proofs.Unique.{one_build, one_check, one_play, one_run, no_build_check, no_build_play, no_build_run, no_check_play, no_check_run, no_play_run}
use Rattle.mo_front.proofs.OneAnswer as front
use Rattle.mo_play.specs.declared.judging.ModuleFault.{ModuleFault}
use Rattle.mo_play.specs.Modules.{IsBadModule}
use Rattle.mo_command.specs.declared.status.Status.{Status}
use Rattle.mo_command.specs.declared.status.Status.TheVariants.{Done, Refused, Usage, NoMemory, BadScript, NotYet, BadModule, NoFile, NotAccepted}
use Rattle.mo_command.specs.declared.status.Input.{Input}
use Rattle.mo_command.specs.declared.status.Input.TheVariants.{Modules, Sources}
use Rattle.mo_command.specs.Built.{IsAccepted}
use Rattle.mo_command.specs.Held.{HasBytes, FirstFile}
use Rattle.mo_command.specs.Replays.{IsGood, IsScript, IsBadScript, IsNotYet, HasScript}
use Rattle.mo_command.specs.Checked.{IsFaultAt, IsTyped}
use Rattle.mo_command.specs.Ends.{Ends, BuildCase, CheckCase, PlayCase, RunCase}
use Rattle.mo_command.specs.OneStatus.{EndsUnfailed, AreAlike, HasOneStatus}
use Rattle.mo_command.proofs.Asked.{one_held, there_is, good_at, no_later, not_typed}
use Rattle.mo_command.proofs.Texts.{get_take}
use Rattle.mo_command.proofs.ModuleFaults.{one_named}
use Rattle.mo_command.proofs.Causes.{FilesCause, Fine, Gone, NoSource, NoModule, ReplayCause, Unplayed, Absent, Broken, Later, Follows, SourceCause, Unbuilt, Lost, Other, Accepted, CheckCause, Unchecked, NoText, Faulty, Typed, replay_cause, source_cause, check_cause}

-- The two are one status up to the rule that is named, or one of them is want of memory.
abbrev Same : Status → Status → Type 0
Same s t = (s ≡ NoMemory) ⊎ (t ≡ NoMemory) ⊎ AreAlike s t

same : (s t u : Status) → s ≡ u → t ≡ u → Same s t
same s t u e d = inr (inr (inl (e ∙ sym d)))

-- The first file that is not good is one.
module _ (held : NameMap) (Good : List ℕ → Type 0) (files : List (List ℕ)) where
  earlier : {P Q : List ℕ → Type 0} (j k : ℕ) (a : FirstFile held Good files j P) (b : FirstFile held Good files k Q) → (HasBytes held a.file Good → ⊥) → j < k → ⊥
  earlier j k a b bad lt = bad (good_at (λ name. HasBytes held name Good) (take k files) j a.file b.before (get_take files k j a.file lt a.there))

  one_place : {P Q : List ℕ → Type 0} (j k : ℕ) (a : FirstFile held Good files j P) (b : FirstFile held Good files k Q) → (HasBytes held a.file Good → ⊥) → (HasBytes held b.file Good → ⊥) → j ≡ k
  one_place j k a b bad worse =
      elim (cases_order j k) [
        | inl e ↦ e
        | inr (inl lt) ↦ absurd (earlier j k a b bad lt)
        | inr (inr lt) ↦ absurd (earlier k j b a worse lt)
      ]

  one_file : {P Q : List ℕ → Type 0} (j k : ℕ) (a : FirstFile held Good files j P) (b : FirstFile held Good files k Q) → j ≡ k → a.file ≡ b.file
  one_file j k a b e = let both : Some a.file ≡ Some b.file = sym a.there ∙ ap (λ n. slice_get files n) e ∙ b.there in cc

  good_first : {P : List ℕ → Type 0} (k : ℕ) (a : FirstFile held Good files k P) → AllByRecursion (λ name. HasBytes held name Good) files → HasBytes held a.file Good
  good_first k a all = good_at (λ name. HasBytes held name Good) files k a.file all a.there

-- A file that is missing, no source or no module is not good.
no_source : (input : Input) (held : NameMap) (file : List ℕ) → input ≡ Sources → HasBytes held file (λ text. IsAccepted text → ⊥) → HasBytes held file (IsGood input) → ⊥
no_source Modules held file i h g = absurd (cc)
no_source Sources held file i h g = let k = one_held held file IsAccepted (λ text. IsAccepted text → ⊥) g h in k.2 k.1

no_module : (input : Input) (held : NameMap) (file : List ℕ) (fault : ModuleFault) → input ≡ Modules → HasBytes held file (λ bytes. IsBadModule bytes fault) → HasBytes held file (IsGood input) → ⊥
no_module Sources held file fault i h g = absurd (cc)
no_module Modules held file fault i h g =
    let k = one_held held file (IsGood Modules) (λ bytes. IsBadModule bytes fault) g h in let m = k.1 in k.2.none m.0 m.1

one_input : (input : Input) → input ≡ Modules → input ≡ Sources → ⊥
one_input Modules i j = absurd (cc)
one_input Sources i j = absurd (cc)

module _ (input : Input) (held : NameMap) (files : List (List ℕ)) where
  abbrev First : ℕ → (List ℕ → Type 0) → Type 0
  First k P = FirstFile held (IsGood input) files k P

  abbrev IsBad : List ℕ → Type 0
  IsBad file = HasBytes held file (IsGood input) → ⊥

  gone : (k : ℕ) (a : First k (λ file. held file ≡ None)) → IsBad a.file
  gone k a h = there_is held a.file (IsGood input) h a.is

  gone_held : (P : List ℕ → Type 0) (j k : ℕ) (a : First j (λ file. held file ≡ None)) (b : First k (λ file. HasBytes held file P)) → IsBad b.file → ⊥
  gone_held P j k a b bad =
      let e = one_place held (IsGood input) files j k a b (gone j a) bad in
      there_is held b.file P b.is (subst (λ (f : List ℕ). held f ≡ None) (one_file held (IsGood input) files j k a b e) a.is)

  modules_alike : (j k : ℕ) (f g : ModuleFault) (a : First j (λ file. HasBytes held file (λ bytes. IsBadModule bytes f))) (b : First k (λ file. HasBytes held file (λ bytes. IsBadModule bytes g))) → IsBad a.file → IsBad b.file
      → AreAlike (BadModule j f) (BadModule k g)
  modules_alike j k f g a b bad worse =
      let e = one_place held (IsGood input) files j k a b bad worse in
      let there = subst (λ (file : List ℕ). HasBytes held file (λ bytes. IsBadModule bytes f)) (one_file held (IsGood input) files j k a b e) a.is in
      let h = one_held held b.file (λ bytes. IsBadModule bytes f) (λ bytes. IsBadModule bytes g) there b.is in
      subst (λ n. AreAlike (BadModule j f) (BadModule n g)) e (one_named h.0 j f g h.1.named h.2.named)

  files_one : (s t : Status) → FilesCause input held files s → FilesCause input held files t → AreAlike s t
  files_one s t (Fine all e) (Fine every d) = inl (e ∙ sym d)
  files_one s t (Fine all e) (Gone k b d) = absurd (gone k b (good_first held (IsGood input) files k b all))
  files_one s t (Fine all e) (NoSource k i b d) = absurd (no_source input held b.file i b.is (good_first held (IsGood input) files k b all))
  files_one s t (Fine all e) (NoModule k g i b d) = absurd (no_module input held b.file g i b.is (good_first held (IsGood input) files k b all))
  files_one s t (Gone j a e) (Fine all d) = absurd (gone j a (good_first held (IsGood input) files j a all))
  files_one s t (Gone j a e) (Gone k b d) = inl (e ∙ ap (λ n. NoFile (suc n)) (one_place held (IsGood input) files j k a b (gone j a) (gone k b)) ∙ sym d)
  files_one s t (Gone j a e) (NoSource k i b d) = absurd (gone_held (λ text. IsAccepted text → ⊥) j k a b (no_source input held b.file i b.is))
  files_one s t (Gone j a e) (NoModule k g i b d) = absurd (gone_held (λ bytes. IsBadModule bytes g) j k a b (no_module input held b.file g i b.is))
  files_one s t (NoSource j i a e) (Fine all d) = absurd (no_source input held a.file i a.is (good_first held (IsGood input) files j a all))
  files_one s t (NoSource j i a e) (Gone k b d) = absurd (gone_held (λ text. IsAccepted text → ⊥) k j b a (no_source input held a.file i a.is))
  files_one s t (NoSource j i a e) (NoSource k l b d) =
      inl (e ∙ ap Refused (one_place held (IsGood input) files j k a b (no_source input held a.file i a.is) (no_source input held b.file l b.is)) ∙ sym d)
  files_one s t (NoSource j i a e) (NoModule k g l b d) = absurd (one_input input l i)
  files_one s t (NoModule j f i a e) (Fine all d) = absurd (no_module input held a.file f i a.is (good_first held (IsGood input) files j a all))
  files_one s t (NoModule j f i a e) (Gone k b d) = absurd (gone_held (λ bytes. IsBadModule bytes f) k j b a (no_module input held a.file f i a.is))
  files_one s t (NoModule j f i a e) (NoSource k l b d) = absurd (one_input input i l)
  files_one s t (NoModule j f i a e) (NoModule k g l b d) =
      let alike = modules_alike j k f g a b (no_module input held a.file f i a.is) (no_module input held b.file g l b.is) in
      subst (λ (x : Status). AreAlike x t) (sym e) (subst (λ (x : Status). AreAlike (BadModule j f) x) (sym d) alike)

-- What stands against a script is one thing.
one_later : (count m n : ℕ) (text : List ℕ) → IsNotYet count m text → IsNotYet count n text → m ≡ n
one_later count m n text a b =
    elim (cases_order a.place b.place) [
      | inl e ↦ a.counted ∙ ap (λ k. k + 1) e ∙ sym b.counted
      | inr (inl lt) ↦ absurd (a.later (b.first a.place a.line a.event lt a.there a.spelled))
      | inr (inr lt) ↦ absurd (b.later (a.first b.place b.line b.event lt b.there b.spelled))
    ]

later_read : (input : Input) (held : NameMap) (script : List ℕ) (count line : ℕ) → input ≡ Sources → HasBytes held script (IsNotYet count line) → HasScript input held script count → ⊥
later_read Modules held script count line i h k = absurd (cc)
later_read Sources held script count line i h k =
    let both = one_held held script (IsNotYet count line) (λ text. (events : List Event) × IsScript Sources count events text) h k in
    let is = both.2 in no_later count line is.0 both.0 is.1 both.1

module _ (input : Input) (held : NameMap) (script : List ℕ) (files : List (List ℕ)) where
  abbrev Scripted : List ℕ → Type 0
  Scripted text = (events : List Event) × IsScript input (length files) events text

  replay_one : (s t : Status) → ReplayCause input held script files s → ReplayCause input held script files t → Same s t
  replay_one s t (Unplayed e) b = inl e
  replay_one s t a (Unplayed d) = inr (inl d)
  replay_one s t (Absent n e) (Absent m d) = same s t (NoFile zero) e d
  replay_one s t (Absent n e) (Broken g h d) = absurd (there_is held script (IsBadScript (length files) g) h n)
  replay_one s t (Absent n e) (Later l i h d) = absurd (there_is held script (IsNotYet (length files) l) h n)
  replay_one s t (Absent n e) (Follows h b) = absurd (there_is held script Scripted h n)
  replay_one s t (Broken f h e) (Absent m d) = absurd (there_is held script (IsBadScript (length files) f) h m)
  replay_one s t (Broken f h e) (Broken g k d) =
      let both = one_held held script (IsBadScript (length files) f) (IsBadScript (length files) g) h k in
      let one = one_fault both.0 (length files) f g both.1.cause both.2.cause both.1.named both.2.named in
      inr (inr (inl (e ∙ ap BadScript one ∙ sym d)))
  replay_one s t (Broken f h e) (Later l i k d) =
      let both = one_held held script (IsBadScript (length files) f) (IsNotYet (length files) l) h k in absurd (both.1.none both.2.events both.2.script)
  replay_one s t (Broken f h e) (Follows k b) =
      let both = one_held held script (IsBadScript (length files) f) Scripted h k in let is = both.2 in absurd (both.1.none is.0 is.1.script)
  replay_one s t (Later l i h e) (Absent m d) = absurd (there_is held script (IsNotYet (length files) l) h m)
  replay_one s t (Later l i h e) (Broken g k d) =
      let both = one_held held script (IsBadScript (length files) g) (IsNotYet (length files) l) k h in absurd (both.1.none both.2.events both.2.script)
  replay_one s t (Later l i h e) (Later m j k d) =
      let both = one_held held script (IsNotYet (length files) l) (IsNotYet (length files) m) h k in
      inr (inr (inl (e ∙ ap NotYet (one_later (length files) l m both.0 both.1 both.2) ∙ sym d)))
  replay_one s t (Later l i h e) (Follows k b) = absurd (later_read input held script (length files) l i h k)
  replay_one s t (Follows h a) (Absent m d) = absurd (there_is held script Scripted h m)
  replay_one s t (Follows h a) (Broken g k d) =
      let both = one_held held script (IsBadScript (length files) g) Scripted k h in let is = both.2 in absurd (both.1.none is.0 is.1.script)
  replay_one s t (Follows h a) (Later l i k d) = absurd (later_read input held script (length files) l i k h)
  replay_one s t (Follows h a) (Follows k b) = inr (inr (files_one input held files s t a b))

source_one : (held : NameMap) (src : List ℕ) (s t : Status) → SourceCause held src s → SourceCause held src t → Same s t
source_one held src s t (Unbuilt e) b = inl e
source_one held src s t a (Unbuilt d) = inr (inl d)
source_one held src s t (Lost n e) (Lost m d) = same s t (NoFile zero) e d
source_one held src s t (Lost n e) (Other h d) = absurd (there_is held src (λ text. IsAccepted text → ⊥) h n)
source_one held src s t (Lost n e) (Accepted h d) = absurd (there_is held src IsAccepted h n)
source_one held src s t (Other h e) (Lost m d) = absurd (there_is held src (λ text. IsAccepted text → ⊥) h m)
source_one held src s t (Other h e) (Other k d) = same s t (Refused zero) e d
source_one held src s t (Other h e) (Accepted k d) = absurd (no_source Sources held src refl h k)
source_one held src s t (Accepted h e) (Lost m d) = absurd (there_is held src IsAccepted h m)
source_one held src s t (Accepted h e) (Other k d) = absurd (no_source Sources held src refl k h)
source_one held src s t (Accepted h e) (Accepted k d) = same s t Done e d

check_one : (held : NameMap) (src : List ℕ) (s t : Status) → CheckCause held src s → CheckCause held src t → Same s t
check_one held src s t (Unchecked e) b = inl e
check_one held src s t a (Unchecked d) = inr (inl d)
check_one held src s t (NoText n e) (NoText m d) = same s t (NoFile zero) e d
check_one held src s t (NoText n e) (Faulty g row place h d) = absurd (there_is held src (IsFaultAt g row place) h n)
check_one held src s t (NoText n e) (Typed h d) = absurd (there_is held src IsTyped h n)
check_one held src s t (Faulty f line column h e) (NoText m d) = absurd (there_is held src (IsFaultAt f line column) h m)
check_one held src s t (Faulty f line column h e) (Faulty g row place k d) =
    let both = one_held held src (IsFaultAt f line column) (IsFaultAt g row place) h k in
    inr (inr (inr (inr (record {
      fault = f;
      line = line;
      column = column;
      second = g;
      row = row;
      place = place;
      alike = front.one_answer both.0 f g both.1.refused both.2.refused both.1.cause both.2.cause;
      status_is = e;
      other_is = d;
    }))))
check_one held src s t (Faulty f line column h e) (Typed k d) = absurd (not_typed held src f line column k h)
check_one held src s t (Typed h e) (NoText m d) = absurd (there_is held src IsTyped h m)
check_one held src s t (Typed h e) (Faulty g row place k d) = absurd (not_typed held src g row place h k)
check_one held src s t (Typed h e) (Typed k d) = same s t Done e d

no_words : (s t : Status) → (s ≡ Usage) ⊎ (s ≡ NoMemory) → (t ≡ Usage) ⊎ (t ≡ NoMemory) → Same s t
no_words s t (inr e) b = inl e
no_words s t (inl e) (inr d) = inr (inl d)
no_words s t (inl e) (inl d) = same s t Usage e d

-- The words are of one form, and name the same script and files.
module _ (words : List (List ℕ)) (held : NameMap) (s t : Status) (a : EndsUnfailed words held s) (b : EndsUnfailed words held t) where
  builds : BuildCase words a.old a.new s → BuildCase words b.old b.new t → Same s t
  builds e d =
      let one = one_build words e.src d.src e.out d.out e.is d.is in
      source_one held d.src s t (subst (λ (src : List ℕ). SourceCause held src s) one (source_cause held e.src e.out a.old a.new s a.told a.reads a.writes e.ends))
      (source_cause held d.src d.out b.old b.new t b.told b.reads b.writes d.ends)

  replays : (input : Input) (script other : List ℕ) (files others : List (List ℕ)) → (script ≡ other) × (files ≡ others) → ReplayCause input held script files s → ReplayCause input held other others t → Same s t
  replays input script other files others one e d =
      replay_one input held other others s t
      (subst (λ (f : List (List ℕ)). ReplayCause input held other f s) one.1 (subst (λ (name : List ℕ). ReplayCause input held name files s) one.0 e)) d

  plays : PlayCase words a.old a.new s → PlayCase words b.old b.new t → Same s t
  plays e d =
      replays Modules e.script d.script e.files d.files (one_play words e.files d.files e.options d.options e.script d.script e.is d.is)
      (replay_cause held e.options e.script e.files Modules a.old a.new s a.told a.reads a.puts e.ends) (replay_cause held d.options d.script d.files Modules b.old b.new t b.told b.reads b.puts d.ends)

  runs : RunCase words a.old a.new s → RunCase words b.old b.new t → Same s t
  runs e d =
      replays Sources e.script d.script e.files d.files (one_run words e.files d.files e.options d.options e.script d.script e.is d.is)
      (replay_cause held e.options e.script e.files Sources a.old a.new s a.told a.reads a.puts e.ends) (replay_cause held d.options d.script d.files Sources b.old b.new t b.told b.reads b.puts d.ends)

  checks : CheckCase words a.old a.new s → CheckCase words b.old b.new t → Same s t
  checks e d =
      check_one held d.src s t (subst (λ (src : List ℕ). CheckCause held src s) (one_check words e.src d.src e.is d.is) (check_cause held e.src a.old a.new s a.told a.reads a.puts e.ends))
      (check_cause held d.src b.old b.new t b.told b.reads b.puts d.ends)

  by_form : Ends words a.old a.new s → Ends words b.old b.new t → Same s t
  by_form (inl e) (inl d) = builds e d
  by_form (inl e) (inr (inl d)) = absurd (no_build_play words d.files d.options e.src e.out d.script e.is d.is)
  by_form (inl e) (inr (inr (inl d))) = absurd (no_build_run words d.files d.options e.src e.out d.script e.is d.is)
  by_form (inl e) (inr (inr (inr (inl d)))) = absurd (no_build_check words e.src e.out d.src e.is d.is)
  by_form (inl e) (inr (inr (inr (inr d)))) = absurd (d.is.no_build e.src e.out e.is)
  by_form (inr (inl e)) (inl d) = absurd (no_build_play words e.files e.options d.src d.out e.script d.is e.is)
  by_form (inr (inl e)) (inr (inl d)) = plays e d
  by_form (inr (inl e)) (inr (inr (inl d))) = absurd (no_play_run words e.files d.files e.options d.options e.script d.script e.is d.is)
  by_form (inr (inl e)) (inr (inr (inr (inl d)))) = absurd (no_check_play words e.files e.options d.src e.script d.is e.is)
  by_form (inr (inl e)) (inr (inr (inr (inr d)))) = absurd (d.is.no_play e.options e.script e.files e.is)
  by_form (inr (inr (inl e))) (inl d) = absurd (no_build_run words e.files e.options d.src d.out e.script d.is e.is)
  by_form (inr (inr (inl e))) (inr (inl d)) = absurd (no_play_run words d.files e.files d.options e.options d.script e.script d.is e.is)
  by_form (inr (inr (inl e))) (inr (inr (inl d))) = runs e d
  by_form (inr (inr (inl e))) (inr (inr (inr (inl d)))) = absurd (no_check_run words e.files e.options d.src e.script d.is e.is)
  by_form (inr (inr (inl e))) (inr (inr (inr (inr d)))) = absurd (d.is.no_run e.options e.script e.files e.is)
  by_form (inr (inr (inr (inl e)))) (inl d) = absurd (no_build_check words d.src d.out e.src d.is e.is)
  by_form (inr (inr (inr (inl e)))) (inr (inl d)) = absurd (no_check_play words d.files d.options e.src d.script e.is d.is)
  by_form (inr (inr (inr (inl e)))) (inr (inr (inl d))) = absurd (no_check_run words d.files d.options e.src d.script e.is d.is)
  by_form (inr (inr (inr (inl e)))) (inr (inr (inr (inl d)))) = checks e d
  by_form (inr (inr (inr (inl e)))) (inr (inr (inr (inr d)))) = absurd (d.is.no_check e.src e.is)
  by_form (inr (inr (inr (inr e)))) (inl d) = absurd (e.is.no_build d.src d.out d.is)
  by_form (inr (inr (inr (inr e)))) (inr (inl d)) = absurd (e.is.no_play d.options d.script d.files d.is)
  by_form (inr (inr (inr (inr e)))) (inr (inr (inl d))) = absurd (e.is.no_run d.options d.script d.files d.is)
  by_form (inr (inr (inr (inr e)))) (inr (inr (inr (inl d)))) = absurd (e.is.no_check d.src d.is)
  by_form (inr (inr (inr (inr e)))) (inr (inr (inr (inr d)))) = no_words s t e.status_is d.status_is

pub one_status : HasOneStatus
one_status words held s t a b = by_form words held s t a b a.ends b.ends
