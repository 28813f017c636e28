-- How an explanation ends, and why.
use Rattle.std.specs.Prelude.{◌≡◌, ◌⊎◌, ◌<◌, ℕ, List, ◌++◌, Bool, true, false, length, None, Option, IfSome, codes}
use Rattle.std.specs.Io.KnownBytes.{Appends}
use Rattle.outer.specs.Causes.{Rose}
use Rattle.outer.specs.Sinks.{AppendsPrefix}
use Rattle.fault_meanings.specs.Meanings.{lex_meaning}
use Rattle.mo_lexer.specs.declared.fault.LexFault.TheVariants as lex
use Rattle.mo_command.specs.declared.status.Status.{Status}
use Rattle.mo_command.specs.declared.status.Status.TheVariants.{Done, Refused, Usage, ReadFault, WriteFault, NoMemory, BadScript, NotYet, BadModule, NoFile, NotAccepted}
use Rattle.mo_command.specs.Held.{Outside, HasBytes}
use Rattle.source_explanation.specs.Explained.{Explains}
use Rattle.source_explanation.specs.declared.explanation.Explanation.TheVariants as explanation

-- the place and the meaning, without the line
abbrev pub IsTooLong : List ℕ → Type 0
IsTooLong text = text ≡ codes "1:1 Lex.SourceTooLong\n" ++ (lex_meaning lex.SourceTooLong ++ codes "\n")

-- what may be said of a source, by whether it is accepted
abbrev pub Saying : Type 1
Saying = Bool → List ℕ → Type 0

abbrev pub IsSaid : List ℕ → Saying
IsSaid source true text = Explains source (explanation.Accepted text)
IsSaid source false text = Explains source (explanation.Refused text)

abbrev pub IsSaidOfLong : Saying
IsSaidOfLong true text = ⊥
IsSaidOfLong false text = IsTooLong text

-- how a put of a text ends that is to end with a status
abbrev pub Puts : List ℕ → Status → Option (List ℕ) → Option (List ℕ) → ℕ → ℕ → Status → Type 0
Puts text status old new before now result =
    ((result ≡ status) × Appends old new text)
    ⊎ ((result ≡ WriteFault) × AppendsPrefix old new text × Rose before now)
    ⊎ ((result ≡ NoMemory) × (new ≡ old))

-- a prefix of what may be said was put
abbrev pub HasBegun : Saying → Option (List ℕ) → Option (List ℕ) → Type 0
HasBegun P old new = (accepted : Bool) × (text : List ℕ) × P accepted text × AppendsPrefix old new text

-- by what was on the output and the faults of it, before and after
abbrev pub Says : Saying → Option (List ℕ) → Option (List ℕ) → ℕ → ℕ → Status → Type 0
Says P old new before now Done = (text : List ℕ) × P true text × Appends old new text
Says P old new before now (Refused source) = (source ≡ 0) × (text : List ℕ) × P false text × Appends old new text
Says P old new before now Usage = ⊥
Says P old new before now ReadFault = ⊥
Says P old new before now WriteFault = HasBegun P old new × Rose before now
Says P old new before now NoMemory = new ≡ old
Says P old new before now (BadScript fault) = ⊥
Says P old new before now (NotYet line) = ⊥
Says P old new before now (BadModule number fault) = ⊥
Says P old new before now (NoFile place) = ⊥
Says P old new before now (NotAccepted fault line column) = ⊥

-- of a source of more bytes than are read, or of the bytes of another one
abbrev pub SaidOf : List ℕ → Saying
SaidOf bytes accepted text = ((1048576 < length bytes) × IsSaidOfLong accepted text) ⊎ IsSaid bytes accepted text

-- what was put of the source in a file
abbrev pub SaysOf : List ℕ → Outside → Outside → Status → Type 0
SaysOf src old new status = IfSome old.names (λ held. HasBytes held src (λ bytes. Says (SaidOf bytes) old.out new.out old.puts new.puts status))

-- What makes an explanation of SRC end so. Where all is done, the source is accepted.
abbrev pub ExplainEnds : List ℕ → Outside → Outside → Status → Type 0
ExplainEnds src old new Done = SaysOf src old new Done
ExplainEnds src old new (Refused source) = SaysOf src old new (Refused source)
ExplainEnds src old new Usage = ⊥
ExplainEnds src old new ReadFault = (new.out ≡ old.out) × Rose old.reads new.reads
ExplainEnds src old new WriteFault = SaysOf src old new WriteFault
ExplainEnds src old new NoMemory = new.out ≡ old.out
ExplainEnds src old new (BadScript fault) = ⊥
ExplainEnds src old new (NotYet line) = ⊥
ExplainEnds src old new (BadModule number fault) = ⊥
ExplainEnds src old new (NoFile place) = (new.out ≡ old.out) × (place ≡ 0) × IfSome old.names (λ held. held src ≡ None)
ExplainEnds src old new (NotAccepted fault line column) = ⊥
