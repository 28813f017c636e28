-- The top call ends as it was asked to.
use Rattle.std.proofs.Common.{◌≡◌, ℕ, zero, suc, List, [], ◌∷◌, length, drop, slice_get, Option, Some, None, IfSome, refl, sym, ap, subst, ◌∙◌, inl, inr, ◌⊎◌}
use Rattle.std.specs.Io.KnownBytes.{Appends}
use Rattle.std.specs.List.{AllByRecursion}
use Rattle.outer.specs.Causes.{Rose}
use Rattle.outer.specs.Names.{NameMap}
use Rattle.play_script.specs.declared.event.Event.{Event}
use Rattle.play_script.specs.declared.event.Event.TheVariants.{Install, Call, Reply, Reject, Upgrade}
use Rattle.play_script.specs.Words.{lines_of}
use Rattle.play_script.specs.Scripts.{BeginsWell}
use Rattle.query_module.specs.ActorRun.{IsGiven}
use Rattle.mo_words.specs.declared.options.Options.{Options}
use Rattle.mo_words.specs.Commands.{IsBuild, IsCheck, IsNoForm}
use Rattle.mo_words.proofs.Unique.{one_build, one_check, one_play, one_run, no_build_check, no_build_play, no_build_run, no_check_play, no_check_run, no_play_run}
use Rattle.mo_front.specs.declared.fault.FrontFault.{FrontFault}
use Rattle.mo_front.proofs.OneAnswer as front
use Rattle.mo_play.specs.Modules.{IsBadModule}
use Rattle.mo_command.specs.declared.status.Status.{Status}
use Rattle.mo_command.specs.declared.status.Status.TheVariants.{Done, Refused, Usage, ReadFault, WriteFault, NoMemory, BadScript, NotYet, BadModule, NoFile, NotAccepted}
use Rattle.mo_command.specs.declared.status.Input.{Input}
use Rattle.mo_command.specs.declared.status.Input.TheVariants.{Modules, Sources}
use Rattle.mo_command.specs.Built.{IsAccepted, Built}
use Rattle.mo_command.specs.Held.{Outside, HasBytes, Holds}
use Rattle.mo_command.specs.Replays.{IsGood, IsScript, IsBadScript, IsTaken, IsNotYet}
use Rattle.mo_command.specs.Checked.{IsFaultAt, IsTyped}
use Rattle.mo_command.specs.Uncovered.{IsChecked}
use Rattle.mo_command.specs.Ends.{BuildEnds, CheckEnds, Stops, IsMissing, ReplayEnds, Ends, AreGood, AsksAll, Asks}
use Rattle.mo_command.proofs.Texts.{spelled_in}
use Rattle.mo_command.proofs.Ending.{replay_memory}

-- Want of memory may come in place of any other status that is not Done.
build_memory : (src out : List ℕ) (old new : Outside) (status : Status) → BuildEnds src out old new status → (status ≡ Done → ⊥) → BuildEnds src out old new NoMemory
build_memory src out old new Done e n = absurd (n refl)
build_memory src out old new (Refused source) e n = inl e.1
build_memory src out old new Usage e n = absurd e
build_memory src out old new ReadFault e n = inl e.0
build_memory src out old new WriteFault e n = inr (e.0, e.2)
build_memory src out old new NoMemory e n = e
build_memory src out old new (BadScript fault) e n = absurd e
build_memory src out old new (NotYet line) e n = absurd e
build_memory src out old new (BadModule number fault) e n = absurd e
build_memory src out old new (NoFile place) e n = inl e.1
build_memory src out old new (NotAccepted fault line column) e n = absurd e

check_memory : (src : List ℕ) (old new : Outside) (status : Status) → CheckEnds src old new status → (status ≡ Done → ⊥) → CheckEnds src old new NoMemory
check_memory src old new Done e n = absurd (n refl)
check_memory src old new (Refused source) e n = absurd e
check_memory src old new Usage e n = absurd e
check_memory src old new ReadFault e n = inl e.0
check_memory src old new WriteFault e n = inr e.0
check_memory src old new NoMemory e n = e
check_memory src old new (BadScript fault) e n = absurd e
check_memory src old new (NotYet line) e n = absurd e
check_memory src old new (BadModule number fault) e n = absurd e
check_memory src old new (NoFile place) e n = inl e.0
check_memory src old new (NotAccepted fault line column) e n = inl e.0

ends_memory : (words : List (List ℕ)) (old new : Outside) (status : Status) → Ends words old new status → (status ≡ Done → ⊥) → Ends words old new NoMemory
ends_memory words old new status (inl e) n = inl (record { src = e.src; out = e.out; is = e.is; ends = build_memory e.src e.out old new status e.ends n; no_text = e.no_text })
ends_memory words old new status (inr (inl e)) n =
    inr (inl (record { options = e.options; script = e.script; files = e.files; is = e.is; ends = replay_memory Modules e.options e.script e.files old new status e.ends n; no_name = e.no_name }))
ends_memory words old new status (inr (inr (inl e))) n =
    inr (inr (inl (record { options = e.options; script = e.script; files = e.files; is = e.is; ends = replay_memory Sources e.options e.script e.files old new status e.ends n; no_name = e.no_name })))
ends_memory words old new status (inr (inr (inr (inl e)))) n = inr (inr (inr (inl (record { src = e.src; is = e.is; ends = check_memory e.src old new status e.ends n; no_name = e.no_name }))))
ends_memory words old new status (inr (inr (inr (inr e)))) n = inr (inr (inr (inr (record { is = e.is; same = e.same; status_is = inr refl }))))

pub ends_told : (words : List (List ℕ)) (old new : Outside) (status told : Status) → Ends words old new status → (told ≡ status) ⊎ ((status ≡ Done → ⊥) × (told ≡ NoMemory)) → Ends words old new told
ends_told words old new status told e (inl same) = subst (λ s. Ends words old new s) (sym same) e
ends_told words old new status told e (inr memory) = subst (λ s. Ends words old new s) (sym memory.1) (ends_memory words old new status e memory.0)

-- A name holds one list of bytes.
pub one_held : (held : NameMap) (name : List ℕ) (P Q : List ℕ → Type 0) → HasBytes held name P → HasBytes held name Q → (bytes : List ℕ) × P bytes × Q bytes
one_held held name P Q p q = let e : Some q.0 ≡ Some p.0 = sym q.1 ∙ p.1 in let same : q.0 ≡ p.0 = cc in (p.0, p.2, subst Q same q.2)

pub there_is : (held : NameMap) (name : List ℕ) (P : List ℕ → Type 0) → HasBytes held name P → held name ≡ None → ⊥
there_is held name P p none = let e : Some p.0 ≡ None = sym p.1 ∙ none in absurd (cc)

-- A source is not both accepted and refused.
pub not_typed : (held : NameMap) (src : List ℕ) (fault : FrontFault) (line column : ℕ) → HasBytes held src IsTyped → HasBytes held src (IsFaultAt fault line column) → ⊥
not_typed held src fault line column t f =
    let k = one_held held src IsTyped (IsFaultAt fault line column) t f in
    let made = k.1 in
    k.2.cause (front.either k.0 made.0 fault made.1 k.2.refused)

pub good_at : (P : List ℕ → Type 0) (files : List (List ℕ)) (k : ℕ) (f : List ℕ) → AllByRecursion P files → slice_get files k ≡ Some f → P f
good_at P [] zero f h e = absurd (cc)
good_at P [] (suc k) f h e = absurd (cc)
good_at P (x ∷ xs) zero f h e = let same : x ≡ f = cc in subst P same h.0
good_at P (x ∷ xs) (suc k) f h e = good_at P xs k f h.1 e

-- A script that `run` is given has no line that it doesn't take.
taken_one : (e : Event) → IsGiven e → IsTaken e
taken_one (Install number) g = tt
taken_one (Call q m c b) g = g
taken_one (Reply n b) g = tt
taken_one (Reject n c t) g = tt
taken_one (Upgrade number) g = absurd g

taken_all : (events : List Event) → AllByRecursion IsGiven events → AllByRecursion IsTaken events
taken_all [] g = tt
taken_all (e ∷ es) g = (taken_one e g.0, taken_all es g.1)

all_taken : (events : List Event) → BeginsWell events → AllByRecursion IsGiven (drop 1 events) → AllByRecursion IsTaken events
all_taken [] b g = tt
all_taken (Install number ∷ es) b g = (tt, taken_all es g)
all_taken (Call q m c a ∷ es) b g = absurd b
all_taken (Reply n a ∷ es) b g = absurd b
all_taken (Reject n c t ∷ es) b g = absurd b
all_taken (Upgrade number ∷ es) b g = absurd b

pub no_later : (count line : ℕ) (events : List Event) (text : List ℕ) → IsScript Sources count events text → IsNotYet count line text → ⊥
no_later count line events text s n =
    n.later (spelled_in IsTaken (lines_of text) events n.place n.line n.event s.script.good.spelled n.there n.spelled (all_taken events s.script.good.begun s.admitted))

-- Where the source is accepted and no fault rose.
build_done : (src out : List ℕ) (old new : Outside) (held : NameMap) (status : Status) → old.names ≡ Some held → BuildEnds src out old new status → HasBytes held src IsAccepted → (Rose old.reads new.reads → ⊥)
    → (Rose old.writes new.writes → ⊥) → (status ≡ Done) ⊎ (status ≡ NoMemory)
build_done src out old new held Done told e h r w = inl refl
build_done src out old new held (Refused source) told e h r w =
    let k = one_held held src IsAccepted (λ text. IsAccepted text → ⊥) h (subst (λ n. Holds n src (λ text. IsAccepted text → ⊥)) told e.2) in absurd (k.2 k.1)
build_done src out old new held Usage told e h r w = absurd e
build_done src out old new held ReadFault told e h r w = absurd (r e.1)
build_done src out old new held WriteFault told e h r w = absurd (w e.2)
build_done src out old new held NoMemory told e h r w = inr refl
build_done src out old new held (BadScript fault) told e h r w = absurd e
build_done src out old new held (NotYet line) told e h r w = absurd e
build_done src out old new held (BadModule number fault) told e h r w = absurd e
build_done src out old new held (NoFile place) told e h r w = absurd (there_is held src IsAccepted h (subst (λ n. IfSome n (λ held. held src ≡ None)) told e.2))
build_done src out old new held (NotAccepted fault line column) told e h r w = absurd e

-- A source whose lines were put is typed.
pub shown_typed : (src : List ℕ) (old new : Outside) (held : NameMap) → old.names ≡ Some held → CheckEnds src old new Done → HasBytes held src IsTyped
shown_typed src old new held told e =
    let a = subst (λ n. IfSome n (λ held. (text : List ℕ) × HasBytes held src (λ source. IsChecked source text) × Appends old.out new.out text)) told e in
    let b = a.1 in
    let c = b.2 in
    let d = c.1 in (b.0, b.1, (d.made, d.accepted, d.typed))

-- Where the source is typed and no read and no put failed.
check_done : (src : List ℕ) (old new : Outside) (held : NameMap) (status : Status) → old.names ≡ Some held → CheckEnds src old new status → HasBytes held src IsTyped → (Rose old.reads new.reads → ⊥) → (Rose old.puts new.puts → ⊥)
    → (status ≡ Done) ⊎ (status ≡ NoMemory)
check_done src old new held Done told e h r p = inl refl
check_done src old new held (Refused source) told e h r p = absurd e
check_done src old new held Usage told e h r p = absurd e
check_done src old new held ReadFault told e h r p = absurd (r e.1)
check_done src old new held WriteFault told e h r p = absurd (p e.1)
check_done src old new held NoMemory told e h r p = inr refl
check_done src old new held (BadScript fault) told e h r p = absurd e
check_done src old new held (NotYet line) told e h r p = absurd e
check_done src old new held (BadModule number fault) told e h r p = absurd e
check_done src old new held (NoFile place) told e h r p = absurd (there_is held src IsTyped h (subst (λ n. IfSome n (λ held. held src ≡ None)) told e.2))
check_done src old new held (NotAccepted fault line column) told e h r p =
    absurd (not_typed held src fault line column h (subst (λ n. Holds n src (IsFaultAt fault line column)) told e.1))

check_missing : (src : List ℕ) (old new : Outside) (held : NameMap) (status : Status) → old.names ≡ Some held → CheckEnds src old new status → held src ≡ None → (Rose old.reads new.reads → ⊥) → (Rose old.puts new.puts → ⊥)
    → (status ≡ NoFile 0) ⊎ (status ≡ NoMemory)
check_missing src old new held Done told e h r p = absurd (there_is held src IsTyped (shown_typed src old new held told e) h)
check_missing src old new held (Refused source) told e h r p = absurd e
check_missing src old new held Usage told e h r p = absurd e
check_missing src old new held ReadFault told e h r p = absurd (r e.1)
check_missing src old new held WriteFault told e h r p = absurd (p e.1)
check_missing src old new held NoMemory told e h r p = inr refl
check_missing src old new held (BadScript fault) told e h r p = absurd e
check_missing src old new held (NotYet line) told e h r p = absurd e
check_missing src old new held (BadModule number fault) told e h r p = absurd e
check_missing src old new held (NoFile place) told e h r p = inl (ap NoFile e.1)
check_missing src old new held (NotAccepted fault line column) told e h r p = absurd (there_is held src (IsFaultAt fault line column) (subst (λ n. Holds n src (IsFaultAt fault line column)) told e.1) h)

-- Where the script and all files are good and no fault rose.
no_missing : (input : Input) (held : NameMap) (script : List ℕ) (files : List (List ℕ)) (place : ℕ) → AreGood input held script files → IsMissing input held script files place → ⊥
no_missing input held script files zero g m = there_is held script (λ text. (events : List Event) × IsScript input (length files) events text) g.script_is m
no_missing input held script files (suc place) g m =
    let f = m.1 in there_is held f.file (IsGood input) (good_at (λ name. HasBytes held name (IsGood input)) files place f.file g.files_are f.there) f.is

no_refused : (input : Input) (held : NameMap) (script : List ℕ) (files : List (List ℕ)) (place : ℕ) → input ≡ Sources → AreGood input held script files
    → Stops input held script files place (λ file. HasBytes held file (λ text. IsAccepted text → ⊥)) → ⊥
no_refused Modules held script files place i g s = absurd (cc)
no_refused Sources held script files place i g s =
    let f = s.1 in
    let k = one_held held f.file IsAccepted (λ text. IsAccepted text → ⊥) (good_at (λ name. HasBytes held name IsAccepted) files place f.file g.files_are f.there) f.is in
    k.2 k.1

no_bad_module : (input : Input) (held : NameMap) (script : List ℕ) (files : List (List ℕ)) (place : ℕ) (B : List ℕ → Type 0) → input ≡ Modules → ((bytes : List ℕ) → B bytes → IsGood Modules bytes → ⊥) → AreGood input held script files
    → Stops input held script files place (λ file. HasBytes held file B) → ⊥
no_bad_module Sources held script files place B i none g s = absurd (cc)
no_bad_module Modules held script files place B i none g s =
    let f = s.1 in
    let k = one_held held f.file (IsGood Modules) B (good_at (λ name. HasBytes held name (IsGood Modules)) files place f.file g.files_are f.there) f.is in
    none k.0 k.2 k.1

no_not_yet : (input : Input) (held : NameMap) (script : List ℕ) (files : List (List ℕ)) (line : ℕ) → input ≡ Sources → AreGood input held script files → HasBytes held script (IsNotYet (length files) line) → ⊥
no_not_yet Modules held script files line i g n = absurd (cc)
no_not_yet Sources held script files line i g n =
    let k = one_held held script (λ text. (events : List Event) × IsScript Sources (length files) events text) (IsNotYet (length files) line) g.script_is n in no_later (length files) line k.1.0 k.0 k.1.1 k.2

replay_done : (input : Input) (o : Options) (script : List ℕ) (files : List (List ℕ)) (old new : Outside) (held : NameMap) (status : Status) → old.names ≡ Some held → ReplayEnds input o script files old new status
    → AreGood input held script files → (Rose old.reads new.reads → ⊥) → (Rose old.puts new.puts → ⊥) → (status ≡ Done) ⊎ (status ≡ NoMemory)
replay_done input o script files old new held Done told e g r p = inl refl
replay_done input o script files old new held (Refused source) told e g r p =
    absurd (no_refused input held script files source e.0 g (subst (λ n. IfSome n (λ held. Stops input held script files source (λ file. HasBytes held file (λ text. IsAccepted text → ⊥)))) told e.2))
replay_done input o script files old new held Usage told e g r p = absurd e
replay_done input o script files old new held ReadFault told e g r p = absurd (r e.1)
replay_done input o script files old new held WriteFault told e g r p = absurd (p e.1)
replay_done input o script files old new held NoMemory told e g r p = inr refl
replay_done input o script files old new held (BadScript fault) told e g r p =
    let k = one_held held script (λ text. (events : List Event) × IsScript input (length files) events text) (IsBadScript (length files) fault) g.script_is (subst (λ n. Holds n script (IsBadScript (length files) fault)) told e.1) in
    absurd (k.2.none k.1.0 k.1.1.script)
replay_done input o script files old new held (NotYet line) told e g r p =
    absurd (no_not_yet input held script files line e.0 g (subst (λ n. Holds n script (IsNotYet (length files) line)) told e.2))
replay_done input o script files old new held (BadModule number fault) told e g r p =
    absurd (no_bad_module input held script files number (λ bytes. IsBadModule bytes fault) e.0 (λ bytes b m. b.none m.0 m.1) g
    (subst (λ n. IfSome n (λ held. Stops input held script files number (λ file. HasBytes held file (λ bytes. IsBadModule bytes fault)))) told e.2))
replay_done input o script files old new held (NoFile place) told e g r p = absurd (no_missing input held script files place g (subst (λ n. IfSome n (λ held. IsMissing input held script files place)) told e.1))
replay_done input o script files old new held (NotAccepted fault line column) told e g r p = absurd e

no_form : (words : List (List ℕ)) (held : NameMap) → IsNoForm words → AsksAll words held → ⊥
no_form words held n (inl a) = n.no_build a.0 a.1 a.2
no_form words held n (inr (inl a)) = n.no_play a.0 a.1 a.2 a.3
no_form words held n (inr (inr (inl a))) = n.no_run a.0 a.1 a.2 a.3
no_form words held n (inr (inr (inr a))) = n.no_check a.0 a.1

told_done : (words : List (List ℕ)) (old new : Outside) (held : NameMap) (status : Status) → old.names ≡ Some held → Ends words old new status → AsksAll words held → (Rose old.reads new.reads → ⊥)
    → (Rose old.writes new.writes → ⊥) → (Rose old.puts new.puts → ⊥) → (status ≡ Done) ⊎ (status ≡ NoMemory)
told_done words old new held status told (inl e) (inl a) r w p =
    build_done e.src e.out old new held status told e.ends (subst (λ (s : List ℕ). HasBytes held s IsAccepted) (one_build words a.0 e.src a.1 e.out a.2 e.is) a.3) r w
told_done words old new held status told (inl e) (inr (inl a)) r w p = absurd (no_build_play words a.2 a.0 e.src e.out a.1 e.is a.3)
told_done words old new held status told (inl e) (inr (inr (inl a))) r w p = absurd (no_build_run words a.2 a.0 e.src e.out a.1 e.is a.3)
told_done words old new held status told (inl e) (inr (inr (inr a))) r w p = absurd (no_build_check words e.src e.out a.0 e.is a.1)
told_done words old new held status told (inr (inl e)) (inl a) r w p = absurd (no_build_play words e.files e.options a.0 a.1 e.script a.2 e.is)
told_done words old new held status told (inr (inl e)) (inr (inl a)) r w p =
    let one = one_play words a.2 e.files a.0 e.options a.1 e.script a.3 e.is in
    replay_done Modules e.options e.script e.files old new held status told e.ends
    (subst (λ (s : List ℕ). AreGood Modules held s e.files) one.0 (subst (λ (f : List (List ℕ)). AreGood Modules held a.1 f) one.1 a.4)) r p
told_done words old new held status told (inr (inl e)) (inr (inr (inl a))) r w p = absurd (no_play_run words e.files a.2 e.options a.0 e.script a.1 e.is a.3)
told_done words old new held status told (inr (inl e)) (inr (inr (inr a))) r w p = absurd (no_check_play words e.files e.options a.0 e.script a.1 e.is)
told_done words old new held status told (inr (inr (inl e))) (inl a) r w p = absurd (no_build_run words e.files e.options a.0 a.1 e.script a.2 e.is)
told_done words old new held status told (inr (inr (inl e))) (inr (inl a)) r w p = absurd (no_play_run words a.2 e.files a.0 e.options a.1 e.script a.3 e.is)
told_done words old new held status told (inr (inr (inl e))) (inr (inr (inr a))) r w p = absurd (no_check_run words e.files e.options a.0 e.script a.1 e.is)
told_done words old new held status told (inr (inr (inl e))) (inr (inr (inl a))) r w p =
    let one = one_run words a.2 e.files a.0 e.options a.1 e.script a.3 e.is in
    replay_done Sources e.options e.script e.files old new held status told e.ends
    (subst (λ (s : List ℕ). AreGood Sources held s e.files) one.0 (subst (λ (f : List (List ℕ)). AreGood Sources held a.1 f) one.1 a.4)) r p
told_done words old new held status told (inr (inr (inr (inl e)))) (inl a) r w p = absurd (no_build_check words a.0 a.1 e.src a.2 e.is)
told_done words old new held status told (inr (inr (inr (inl e)))) (inr (inl a)) r w p = absurd (no_check_play words a.2 a.0 e.src a.1 e.is a.3)
told_done words old new held status told (inr (inr (inr (inl e)))) (inr (inr (inl a))) r w p = absurd (no_check_run words a.2 a.0 e.src a.1 e.is a.3)
told_done words old new held status told (inr (inr (inr (inl e)))) (inr (inr (inr a))) r w p =
    check_done e.src old new held status told e.ends (subst (λ (s : List ℕ). HasBytes held s IsTyped) (one_check words a.0 e.src a.1 e.is) a.2) r p
told_done words old new held status told (inr (inr (inr (inr e)))) a r w p = absurd (no_form words held e.is a)

-- What the source of a build asks for else.
pub built_accepted : (held : NameMap) (new : Option NameMap) (src out : List ℕ) → Built (Some held) new src out → HasBytes held src IsAccepted
built_accepted held None src out b = absurd b
built_accepted held (Some new) src out b = (b.0, b.2, (b.4.methods, b.4.spelled))

build_refused : (src out : List ℕ) (old new : Outside) (held : NameMap) (status : Status) → old.names ≡ Some held → BuildEnds src out old new status → HasBytes held src (λ text. IsAccepted text → ⊥)
    → (Rose old.reads new.reads → ⊥) → (Rose old.writes new.writes → ⊥) → (status ≡ Refused 0) ⊎ (status ≡ NoMemory)
build_refused src out old new held Done told e h r w =
    let k = one_held held src IsAccepted (λ text. IsAccepted text → ⊥) (built_accepted held new.names src out (subst (λ n. Built n new.names src out) told e.0)) h in absurd (k.2 k.1)
build_refused src out old new held (Refused source) told e h r w = inl (ap Refused e.0)
build_refused src out old new held Usage told e h r w = absurd e
build_refused src out old new held ReadFault told e h r w = absurd (r e.1)
build_refused src out old new held WriteFault told e h r w = absurd (w e.2)
build_refused src out old new held NoMemory told e h r w = inr refl
build_refused src out old new held (BadScript fault) told e h r w = absurd e
build_refused src out old new held (NotYet line) told e h r w = absurd e
build_refused src out old new held (BadModule number fault) told e h r w = absurd e
build_refused src out old new held (NoFile place) told e h r w = absurd (there_is held src (λ text. IsAccepted text → ⊥) h (subst (λ n. IfSome n (λ held. held src ≡ None)) told e.2))
build_refused src out old new held (NotAccepted fault line column) told e h r w = absurd e

build_missing : (src out : List ℕ) (old new : Outside) (held : NameMap) (status : Status) → old.names ≡ Some held → BuildEnds src out old new status → held src ≡ None
    → (Rose old.reads new.reads → ⊥) → (Rose old.writes new.writes → ⊥) → (status ≡ NoFile 0) ⊎ (status ≡ NoMemory)
build_missing src out old new held Done told e h r w = absurd (there_is held src IsAccepted (built_accepted held new.names src out (subst (λ n. Built n new.names src out) told e.0)) h)
build_missing src out old new held (Refused source) told e h r w = absurd (there_is held src (λ text. IsAccepted text → ⊥) (subst (λ n. Holds n src (λ text. IsAccepted text → ⊥)) told e.2) h)
build_missing src out old new held Usage told e h r w = absurd e
build_missing src out old new held ReadFault told e h r w = absurd (r e.1)
build_missing src out old new held WriteFault told e h r w = absurd (w e.2)
build_missing src out old new held NoMemory told e h r w = inr refl
build_missing src out old new held (BadScript fault) told e h r w = absurd e
build_missing src out old new held (NotYet line) told e h r w = absurd e
build_missing src out old new held (BadModule number fault) told e h r w = absurd e
build_missing src out old new held (NoFile place) told e h r w = inl (ap NoFile e.0)
build_missing src out old new held (NotAccepted fault line column) told e h r w = absurd e

-- A build of this source, where the words are one.
build_case : (words : List (List ℕ)) (old new : Outside) (src out : List ℕ) (status : Status) → IsBuild words src out → Ends words old new status
    → (dst : List ℕ) × BuildEnds src dst old new status
build_case words old new src out status b (inl e) = (e.out, subst (λ (s : List ℕ). BuildEnds s e.out old new status) (one_build words e.src src e.out out e.is b) e.ends)
build_case words old new src out status b (inr (inl e)) = absurd (no_build_play words e.files e.options src out e.script b e.is)
build_case words old new src out status b (inr (inr (inl e))) = absurd (no_build_run words e.files e.options src out e.script b e.is)
build_case words old new src out status b (inr (inr (inr (inl e)))) = absurd (no_build_check words src out e.src b e.is)
build_case words old new src out status b (inr (inr (inr (inr e)))) = absurd (e.is.no_build src out b)

-- A check of this source, where the words are one.
check_case : (words : List (List ℕ)) (old new : Outside) (src : List ℕ) (status : Status) → IsCheck words src → Ends words old new status → CheckEnds src old new status
check_case words old new src status b (inl e) = absurd (no_build_check words e.src e.out src e.is b)
check_case words old new src status b (inr (inl e)) = absurd (no_check_play words e.files e.options src e.script b e.is)
check_case words old new src status b (inr (inr (inl e))) = absurd (no_check_run words e.files e.options src e.script b e.is)
check_case words old new src status b (inr (inr (inr (inl e)))) = subst (λ (s : List ℕ). CheckEnds s old new status) (one_check words e.src src e.is b) e.ends
check_case words old new src status b (inr (inr (inr (inr e)))) = absurd (e.is.no_check src b)

no_form_usage : (words : List (List ℕ)) (old new : Outside) (status : Status) → IsNoForm words → Ends words old new status → (status ≡ Usage) ⊎ (status ≡ NoMemory)
no_form_usage words old new status n (inl e) = absurd (n.no_build e.src e.out e.is)
no_form_usage words old new status n (inr (inl e)) = absurd (n.no_play e.options e.script e.files e.is)
no_form_usage words old new status n (inr (inr (inl e))) = absurd (n.no_run e.options e.script e.files e.is)
no_form_usage words old new status n (inr (inr (inr (inl e)))) = absurd (n.no_check e.src e.is)
no_form_usage words old new status n (inr (inr (inr (inr e)))) = e.status_is

told_asked : (words : List (List ℕ)) (old new : Outside) (held : NameMap) (status asked : Status) → old.names ≡ Some held → Ends words old new status → Asks words held asked → (Rose old.reads new.reads → ⊥)
    → (Rose old.writes new.writes → ⊥) → (Rose old.puts new.puts → ⊥) → (status ≡ asked) ⊎ (status ≡ NoMemory)
told_asked words old new held status Done told e a r w p = told_done words old new held status told e a r w p
told_asked words old new held status (Refused source) told e a r w p =
    let b = build_case words old new a.1 a.2 status a.3 e in subst (λ k. (status ≡ Refused k) ⊎ (status ≡ NoMemory)) (sym a.0) (build_refused a.1 b.0 old new held status told b.1 a.4 r w)
told_asked words old new held status Usage told e a r w p = no_form_usage words old new status a e
told_asked words old new held status ReadFault told e a r w p = absurd a
told_asked words old new held status WriteFault told e a r w p = absurd a
told_asked words old new held status NoMemory told e a r w p = absurd a
told_asked words old new held status (BadScript fault) told e a r w p = absurd a
told_asked words old new held status (NotYet line) told e a r w p = absurd a
told_asked words old new held status (BadModule number fault) told e a r w p = absurd a
told_asked words old new held status (NoFile place) told e (zero_, inl a) r w p =
    let b = build_case words old new a.0 a.1 status a.2 e in subst (λ k. (status ≡ NoFile k) ⊎ (status ≡ NoMemory)) (sym zero_) (build_missing a.0 b.0 old new held status told b.1 a.3 r w)
told_asked words old new held status (NoFile place) told e (zero_, inr a) r w p =
    subst (λ k. (status ≡ NoFile k) ⊎ (status ≡ NoMemory)) (sym zero_) (check_missing a.0 old new held status told (check_case words old new a.0 status a.1 e) a.2 r p)
told_asked words old new held status (NotAccepted fault line column) told e a r w p = absurd a

pub ends_as_asked : (words : List (List ℕ)) (names : Option NameMap) (old new : Outside) (status : Status) → old.names ≡ names → Ends words old new status
    → IfSome names (λ held. (asked : Status) → Asks words held asked → (Rose old.reads new.reads → ⊥) → (Rose old.writes new.writes → ⊥) → (Rose old.puts new.puts → ⊥) → (status ≡ asked) ⊎ (status ≡ NoMemory))
ends_as_asked words None old new status told e = tt
ends_as_asked words (Some held) old new status told e = λ asked a r w p. told_asked words old new held status asked told e a r w p
