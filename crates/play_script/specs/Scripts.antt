-- Scripts: texts that spell events line by line.
use Rattle.std.specs.Prelude.{◌≡◌, ◌≢◌, ⊤, ◌⊎◌, ℕ, ◌+◌, ◌<◌, ◌≤◌, ◌^◌, List, [], ◌∷◌, length, take, slice_get, Some, Bool, true, false, All, IsUtf8, codes}
use Rattle.play_script.specs.Words.{words_of, lines_of, IsNumber, bytes_of}
use Rattle.play_script.specs.Events.{message_limit, message_length, IsFit, NamesModuleBelow, IsNoInstall, Suits}
use Rattle.play_script.specs.declared.event.Event.{Event}
use Rattle.play_script.specs.declared.event.Event.TheVariants.{Install, Call, Reply, Reject, Upgrade}
use Rattle.play_script.specs.declared.verb.Verb.{Verb}
use Rattle.play_script.specs.declared.verb.Verb.TheVariants as verb

-- the most bytes of a script
abbrev pub script_limit : ℕ
script_limit = 67108864

-- the first word of a line
abbrev pub word_of : Verb → List ℕ
word_of verb.Install = codes "install"
word_of verb.Call = codes "call"
word_of verb.Query = codes "query"
word_of verb.Reply = codes "reply"
word_of verb.Reject = codes "reject"
word_of verb.Upgrade = codes "upgrade"

abbrev pub call_verb : Bool → Verb
call_verb true = verb.Query
call_verb false = verb.Call

abbrev pub verb_of : Event → Verb
verb_of (Install number) = verb.Install
verb_of (Call query method caller bytes) = call_verb query
verb_of (Reply number bytes) = verb.Reply
verb_of (Reject number code text) = verb.Reject
verb_of (Upgrade number) = verb.Upgrade

-- the name of a method in a script: bytes 33 to 126, and at least one
pub record IsMethod (word : List ℕ) : Type 0 where
  pub some : word ≢ []
  pub visible : All (λ c. (33 ≤ c) × (c ≤ 126)) word

-- the words behind the first one
abbrev pub HasWords : Event → List (List ℕ) → Type 0
HasWords (Install number) words = (n : List ℕ) × (words ≡ n ∷ []) × IsNumber n number
HasWords (Call query method caller bytes) words =
    (c : List ℕ) × (b : List ℕ) × (words ≡ method ∷ c ∷ b ∷ []) × IsMethod method
    × (bytes_of c ≡ Some caller) × (length caller ≤ 29) × (bytes_of b ≡ Some bytes)
HasWords (Reply number bytes) words = (n : List ℕ) × (b : List ℕ) × (words ≡ n ∷ b ∷ []) × IsNumber n number × (bytes_of b ≡ Some bytes)
HasWords (Reject number code text) words =
    (n : List ℕ) × (c : List ℕ) × (t : List ℕ) × (words ≡ n ∷ c ∷ t ∷ []) × IsNumber n number
    × IsNumber c code × (1 ≤ code) × (code < 2 ^ 32) × (bytes_of t ≡ Some text) × IsUtf8 text
HasWords (Upgrade number) words = (n : List ℕ) × (words ≡ n ∷ []) × IsNumber n number

-- the line spells the event
abbrev pub Spells : Event → List ℕ → Type 0
Spells event line = (words : List (List ℕ)) × (words_of line ≡ word_of (verb_of event) ∷ words) × HasWords event words

-- empty lines and lines that begin with `#` are skipped
abbrev pub IsSkipped : List ℕ → Type 0
IsSkipped [] = ⊤
IsSkipped (c ∷ cs) = c ≡ 35

-- the lines, but for those that are skipped, spell the events one by one
abbrev pub Spell : List (List ℕ) → List Event → Type 0
Spell [] events = events ≡ []
Spell (line ∷ lines) events =
    (IsSkipped line × Spell lines events)
    ⊎ ((event : Event) × (others : List Event) × (events ≡ event ∷ others) × Spells event line × Spell lines others)

abbrev pub IsInstall : Event → Type 0
IsInstall (Install number) = ⊤
IsInstall (Call query method caller bytes) = ⊥
IsInstall (Reply number bytes) = ⊥
IsInstall (Reject number code text) = ⊥
IsInstall (Upgrade number) = ⊥

-- an install stands first, where anything does
abbrev pub BeginsWell : List Event → Type 0
BeginsWell [] = ⊤
BeginsWell (event ∷ events) = IsInstall event

-- lines without fault: they spell these events, which are fit, suit the modules and begin with an install
pub record AreGood (modules : ℕ) (lines : List (List ℕ)) (events : List Event) : Type 0 where
  pub spelled : Spell lines events
  pub fit : All IsFit events
  pub suits : Suits modules events
  pub begun : BeginsWell events

-- the text is a script of these events
pub record ScriptOf (text : List ℕ) (modules : ℕ) (events : List Event) : Type 0 where
  pub short : length text ≤ script_limit
  pub good : AreGood modules (lines_of text) events
  pub some : events ≢ []

-- a line of another form, or a second install
abbrev pub IsBad : List Event → List ℕ → Type 0
IsBad before line = (IsSkipped line → ⊥) × ((event : Event) → Spells event line → IsInstall event × (before ≢ []))

-- the event of the line, where the line is not bad
pub record Shows (before : List Event) (line : List ℕ) (event : Event) : Type 0 where
  pub spelled : Spells event line
  pub once : IsInstall event → before ≡ []

-- the line's event has too long a message
abbrev pub IsTooLong : List Event → List ℕ → Type 0
IsTooLong before line = (event : Event) × Shows before line event × (message_limit < message_length event)

-- the line names a module that is not there
abbrev pub NamesNoModule : ℕ → List Event → List ℕ → Type 0
NamesNoModule modules before line = (event : Event) × Shows before line event × IsFit event × (NamesModuleBelow modules event → ⊥)

-- the line's event stands before any install
abbrev pub IsBeforeInstall : ℕ → List Event → List ℕ → Type 0
IsBeforeInstall modules before line = (event : Event) × Shows before line event × IsFit event × NamesModuleBelow modules event × IsNoInstall event × (before ≡ [])

-- the first line that offends: the lines before it are good, and it offends so
pub record OffendsAt (Offends : List Event → List ℕ → Type 0) (modules : ℕ) (text : List ℕ) (number : ℕ) : Type 0 where
  pub short : length text ≤ script_limit
  pub place : ℕ
  pub counted : number ≡ place + 1
  pub line : List ℕ
  pub there : slice_get (lines_of text) place ≡ Some line
  pub before : List Event
  pub good : AreGood modules (take place (lines_of text)) before
  pub offends : Offends before line

-- a text is a script of one list of events at most
abbrev pub HasOneReading : Type 0
HasOneReading =
    (text : List ℕ) → (modules : ℕ) → (events others : List Event) → ScriptOf text modules events → ScriptOf text modules others → events ≡ others
