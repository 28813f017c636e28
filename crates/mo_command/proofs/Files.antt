-- What files hold, and where reading them stops.
use Rattle.std.proofs.Common.{◌≡◌, ℕ, ◌+◌, ◌<◌, ◌≤◌, List, [], ◌∷◌, ◌++◌, length, take, map, get_or, Option, Some, None, IfSome, refl, sym, ap, subst, ◌∙◌, arith}
use Rattle.std.proofs.lemmas.Option.{slice_get_read}
use Rattle.std.proofs.lemmas.List.{take_more, get_or-map, length-map}
use Rattle.std.specs.List.{AllByRecursion}
use Rattle.outer.specs.Causes.{Rose}
use Rattle.outer.specs.Names.{NameMap, IsContent}
use Rattle.outer.specs.declared.outside.Content.TheVariants.{Whole, TooLong}
use Rattle.play_script.specs.declared.script.ScriptFault.TheVariants as script
use Rattle.wasm_read.specs.declared.fault.ReadFault.TheVariants as read
use Rattle.wasm_read.proofs.Whole.{one_module}
use Rattle.wasm_tree.specs.declared.module_parts.Module.{Module}
use Rattle.wasm_tree.specs.Binary.{Written}
use Rattle.query_module.specs.Program.{QueryRefines}
use Rattle.mo_play.specs.declared.judging.ModuleFault.TheVariants.{Read}
use Rattle.mo_play.specs.Modules.{file_limit, IsModule, IsBadModule}
use Rattle.mo_play.proofs.Bytes.{too_large}
use Rattle.mo_command.specs.declared.status.Status.{Status}
use Rattle.mo_command.specs.declared.status.Status.TheVariants.{Done, Refused, Usage, ReadFault, WriteFault, NoMemory, BadScript, NotYet, BadModule, NoFile, NotAccepted}
use Rattle.mo_command.specs.declared.status.Input.{Input}
use Rattle.mo_command.specs.declared.status.Input.TheVariants.{Modules, Sources}
use Rattle.mo_command.specs.Built.{IsAccepted, IsModuleOf}
use Rattle.mo_command.specs.Held.{HasBytes, Holds, FirstFile}
use Rattle.mo_command.specs.Replays.{Gives, IsGood, IsBadScript, IsNotYet}
use Rattle.mo_command.specs.Stopped.{limit_of, long_status, AreGiven, TextStops, ScriptStops, BytesStop, FileStops, FilesStop}
use Rattle.mo_command.proofs.Texts.{long_script}

-- A name that was read holds what is known of the bytes.
pub holds_such : (names : Option NameMap) (name bytes seen : List ℕ) (limit : ℕ) (P : List ℕ → Type 0) → IfSome names (λ held. IsContent limit (held name) (Whole bytes)) → seen ≡ bytes → P seen → Holds names name P
holds_such None name bytes seen limit P c e p = tt
holds_such (Some held) name bytes seen limit P c e p = (bytes, c.0, subst P e p)

pub holds_long : (names : Option NameMap) (name : List ℕ) (limit : ℕ) (P : List ℕ → Type 0) → IfSome names (λ held. IsContent limit (held name) TooLong) → ((bytes : List ℕ) → limit < length bytes → P bytes) → Holds names name P
holds_long None name limit P c p = tt
holds_long (Some held) name limit P c p = (c.0, c.1, p c.0 c.2)

-- The script's file.
pub script_stopped : (input : Input) (count : ℕ) (names : Option NameMap) (name bytes seen : List ℕ) (limit before now : ℕ) (status : Status) → IfSome names (λ held. IsContent limit (held name) (Whole bytes)) → seen ≡ bytes
    → TextStops input count seen status → ScriptStops input count names name before now status
script_stopped input count names name bytes seen limit before now Done c e t = t
script_stopped input count names name bytes seen limit before now (Refused source) c e t = t
script_stopped input count names name bytes seen limit before now Usage c e t = t
script_stopped input count names name bytes seen limit before now ReadFault c e t = absurd t
script_stopped input count names name bytes seen limit before now WriteFault c e t = t
script_stopped input count names name bytes seen limit before now NoMemory c e t = tt
script_stopped input count names name bytes seen limit before now (BadScript fault) c e t = holds_such names name bytes seen limit (IsBadScript count fault) c e t
script_stopped input count names name bytes seen limit before now (NotYet line) c e t = (t.0, holds_such names name bytes seen limit (λ text. IsNotYet count line text) c e t.1)
script_stopped input count names name bytes seen limit before now (BadModule number fault) c e t = t
script_stopped input count names name bytes seen limit before now (NoFile place) c e t = absurd t
script_stopped input count names name bytes seen limit before now (NotAccepted fault line column) c e t = absurd t

pub script_long : (count : ℕ) (names : Option NameMap) (name : List ℕ) → IfSome names (λ held. IsContent 67108864 (held name) TooLong) → Holds names name (IsBadScript count script.ScriptTooLong)
script_long count names name c = holds_long names name 67108864 (IsBadScript count script.ScriptTooLong) c (λ bytes long. long_script bytes count long)

-- One file.
pub file_stopped : (input : Input) (number : ℕ) (names : Option NameMap) (name bytes seen : List ℕ) (limit before now : ℕ) (status : Status) → IfSome names (λ held. IsContent limit (held name) (Whole bytes)) → seen ≡ bytes
    → BytesStop input number seen status → FileStops input number names name before now status
file_stopped input number names name bytes seen limit before now Done c e t = t
file_stopped input number names name bytes seen limit before now (Refused source) c e t = (t.0, t.1, holds_such names name bytes seen limit (λ text. IsAccepted text → ⊥) c e t.2)
file_stopped input number names name bytes seen limit before now Usage c e t = t
file_stopped input number names name bytes seen limit before now ReadFault c e t = absurd t
file_stopped input number names name bytes seen limit before now WriteFault c e t = t
file_stopped input number names name bytes seen limit before now NoMemory c e t = tt
file_stopped input number names name bytes seen limit before now (BadScript fault) c e t = t
file_stopped input number names name bytes seen limit before now (NotYet line) c e t = t
file_stopped input number names name bytes seen limit before now (BadModule place fault) c e t = (t.0, t.1, holds_such names name bytes seen limit (λ b. IsBadModule b fault) c e t.2)
file_stopped input number names name bytes seen limit before now (NoFile place) c e t = absurd t
file_stopped input number names name bytes seen limit before now (NotAccepted fault line column) c e t = absurd t

long_source : (bytes : List ℕ) → 4096 < length bytes → IsAccepted bytes → ⊥
long_source bytes long a = let short = a.1.short in omega arith

pub file_long : (input : Input) (number : ℕ) (names : Option NameMap) (name : List ℕ) (before now : ℕ) → IfSome names (λ held. IsContent (limit_of input) (held name) TooLong)
    → FileStops input number names name before now (long_status input number)
file_long Modules number names name before now c = (refl, refl, holds_long names name file_limit (λ b. IsBadModule b (Read read.TooLarge)) c (λ bytes long. too_large bytes long))
file_long Sources number names name before now c = (refl, refl, holds_long names name 4096 (λ text. IsAccepted text → ⊥) c (λ bytes long. long_source bytes long))

-- The module of a source.
pub source_gives : (source code : List ℕ) (m : Module) (seen : List ℕ) → IsModuleOf source code → seen ≡ code → IsModule seen m → Gives Sources source m
source_gives source code m seen b e h =
    let p = b.built.0 in
    let built = b.built.2 in
    let same : built.tree ≡ m = one_module built.tree m code built.written (subst (Written m) e h.written) in
    (p, (b.methods, b.spelled, b.built.1), subst (QueryRefines p) same built.refines)

-- Files in turn.
gives_good : (input : Input) (bytes : List ℕ) (m : Module) → Gives input bytes m → IsGood input bytes
gives_good Modules bytes m g = (m, g)
gives_good Sources bytes m g = (g.1.0, g.1.1)

pub given_good : (input : Input) (held : NameMap) (files : List (List ℕ)) (modules : List Module) → AreGiven input held files modules → AllByRecursion (λ name. HasBytes held name (IsGood input)) files
given_good input held [] [] g = tt
given_good input held [] (m ∷ ms) g = absurd g
given_good input held (f ∷ fs) [] g = absurd g
given_good input held (f ∷ fs) (m ∷ ms) g = ((g.0.0, g.0.1, gives_good input g.0.0 m g.0.2), given_good input held fs ms g.1)

given_push : (input : Input) (held : NameMap) (files : List (List ℕ)) (modules : List Module) (f : List ℕ) (m : Module) → AreGiven input held files modules → HasBytes held f (λ bytes. Gives input bytes m)
    → AreGiven input held (files ++ f ∷ []) (modules ++ m ∷ [])
given_push input held [] [] f m g h = (h, tt)
given_push input held [] (n ∷ ns) f m g h = absurd g
given_push input held (x ∷ xs) [] f m g h = absurd g
given_push input held (x ∷ xs) (n ∷ ns) f m g h = (g.0, given_push input held xs ns f m g.1 h)

pub given_more : (input : Input) (names : Option NameMap) (files : List (List ℕ)) (modules new : List Module) (i : ℕ) (f : List ℕ) (m : Module) → i < length files → f ≡ get_or files i f
    → IfSome names (λ held. AreGiven input held (take i files) modules) → Holds names f (λ bytes. Gives input bytes m) → new ≡ modules ++ m ∷ [] → IfSome names (λ held. AreGiven input held (take (i + 1) files) new)
given_more input None files modules new i f m lt is g h e = tt
given_more input (Some held) files modules new i f m lt is g h e =
    let next : take (i + 1) files ≡ take i files ++ f ∷ [] = take_more files i f lt ∙ ap (λ (x : List ℕ). take i files ++ x ∷ []) (sym is) in
    subst (λ (ms : List Module). AreGiven input held (take (i + 1) files) ms) (sym e)
    (subst (λ (fs : List (List ℕ)). AreGiven input held fs (modules ++ m ∷ [])) (sym next) (given_push input held (take i files) modules f m g h))

pub none_given : (input : Input) (names : Option NameMap) (files : List (List ℕ)) (modules : List Module) → modules ≡ [] → IfSome names (λ held. AreGiven input held (take 0 files) modules)
none_given input None files modules e = tt
none_given input (Some held) files modules e = subst (λ (ms : List Module). AreGiven input held [] ms) (sym e) tt

-- A file's name is at its place.
first_file : (input : Input) (names : Option NameMap) (files : List (List ℕ)) (modules : List Module) (i : ℕ) (f : List ℕ) (P : NameMap → List ℕ → Type 0) → i < length files → f ≡ get_or files i f
    → IfSome names (λ held. AreGiven input held (take i files) modules) → IfSome names (λ held. P held f) → IfSome names (λ held. FirstFile held (IsGood input) files i (P held))
first_file input None files modules i f P lt is g p = tt
first_file input (Some held) files modules i f P lt is g p =
    record { file = f; there = slice_get_read files (length files) i f refl lt is; before = given_good input held (take i files) modules g; is = p }

pub rose_earlier : (a b c : ℕ) → a ≤ b → Rose b c → Rose a c
rose_earlier a b c h r = omega arith

pub files_stopped : (input : Input) (names : Option NameMap) (files : List (List ℕ)) (modules : List Module) (i : ℕ) (f : List ℕ) (first before now : ℕ) (status : Status) → i < length files → f ≡ get_or files i f
    → first ≤ before → IfSome names (λ held. AreGiven input held (take i files) modules) → FileStops input i names f before now status → FilesStop input files names first now status
files_stopped input names files modules i f first before now Done lt is le g s = s
files_stopped input names files modules i f first before now (Refused source) lt is le g s = (
  s.0,
  subst (λ k. IfSome names (λ held. FirstFile held (IsGood input) files k (λ file. HasBytes held file (λ text. IsAccepted text → ⊥)))) (sym s.1)
      (first_file input names files modules i f (λ held file. HasBytes held file (λ text. IsAccepted text → ⊥)) lt is g s.2),
)
files_stopped input names files modules i f first before now Usage lt is le g s = s
files_stopped input names files modules i f first before now ReadFault lt is le g s = rose_earlier first before now le s
files_stopped input names files modules i f first before now WriteFault lt is le g s = s
files_stopped input names files modules i f first before now NoMemory lt is le g s = tt
files_stopped input names files modules i f first before now (BadScript fault) lt is le g s = s
files_stopped input names files modules i f first before now (NotYet line) lt is le g s = s
files_stopped input names files modules i f first before now (BadModule number fault) lt is le g s = (
  s.0,
  subst (λ k. IfSome names (λ held. FirstFile held (IsGood input) files k (λ file. HasBytes held file (λ bytes. IsBadModule bytes fault)))) (sym s.1)
      (first_file input names files modules i f (λ held file. HasBytes held file (λ bytes. IsBadModule bytes fault)) lt is g s.2),
)
files_stopped input names files modules i f first before now (NoFile place) lt is le g s = (i, s.0, first_file input names files modules i f (λ held file. held file ≡ None) lt is g s.1)
files_stopped input names files modules i f first before now (NotAccepted fault line column) lt is le g s = absurd s

-- A file's word among the words.
pub word_at : {X : Type 0} (g : X → List ℕ) (xs : List X) (i : ℕ) (x : X) (f : List ℕ) → i < length xs → x ≡ get_or xs i x → f ≡ g x → (i < length (map g xs)) × (f ≡ get_or (map g xs) i f)
word_at g xs i x f lt is e = (omega (arith, length-map xs g), e ∙ ap g is ∙ sym (get_or-map g xs i x f lt))
