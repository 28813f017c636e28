-- What a check of a source's bytes says of its file.
use Rattle.std.proofs.Common.{◌≡◌, ℕ, ◌<◌, List, length, Option, Some, None, IfSome, Result, Ok, Err, refl, inl, inr, sym, subst}
use Rattle.std.specs.Io.KnownBytes.{Appends}
use Rattle.outer.specs.Causes.{HasCause}
use Rattle.outer.specs.Sinks.{AppendsPrefix}
use Rattle.outer.specs.Names.{NameMap, IsContent}
use Rattle.outer.specs.declared.outside.Content.TheVariants.{Whole, TooLong}
use Rattle.outer.specs.declared.outside.OutsideFault.{OutsideFault}
use Rattle.outer.specs.declared.outside.OutsideFault.TheVariants as outside_fault
use Rattle.mo_lexer.specs.declared.fault.LexFault.TheVariants as lex
use Rattle.mo_front.specs.declared.fault.FrontFault.{FrontFault}
use Rattle.mo_front.specs.declared.fault.FrontFault.TheVariants as fault
use Rattle.mo_play.specs.Transcripts.{IsPut}
use Rattle.mo_command.specs.declared.status.Status.{Status}
use Rattle.mo_command.specs.declared.status.Status.TheVariants.{Done, Refused, Usage, ReadFault, WriteFault, NoMemory, BadScript, NotYet, BadModule, NoFile, NotAccepted}
use Rattle.mo_command.specs.Checked.{IsFaultAt, Judges}
use Rattle.mo_command.specs.Stopped.{put_status}
use Rattle.mo_command.specs.Uncovered.{AreShown, IsChecked, joined}
use Rattle.mo_command.specs.Ends.{CheckEnds}
use Rattle.mo_command.specs.Held.{HasBytes, Holds, outside}
use Rattle.mo_command.proofs.Files.{holds_long, holds_such}

-- A source that is too long is refused at its first byte.
too_long : (text : List ℕ) → 1048576 < length text → IsFaultAt (fault.Lex lex.SourceTooLong) 1 1 text
too_long text h = record { cause = λ e. no_memory e; refused = inl (h, refl); at = inr (inl h, refl) }
  where
    no_memory : fault.Lex lex.SourceTooLong ≡ fault.Memory → ⊥
    no_memory e = absurd (cc)

pub long_ends : (names : Option NameMap) (src : List ℕ) → IfSome names (λ held. IsContent 1048576 (held src) TooLong) → Holds names src (IsFaultAt (fault.Lex lex.SourceTooLong) 1 1)
long_ends names src c = holds_long names src 1048576 (IsFaultAt (fault.Lex lex.SourceTooLong) 1 1) c too_long

-- What was put of a source's lines, said of its file.
module _ (names : Option NameMap) (src bytes seen : List ℕ) (c : IfSome names (λ held. IsContent 1048576 (held src) (Whole bytes))) (e : seen ≡ bytes) where
  shown : (P : List ℕ → Type 0) → (text : List ℕ) × IsChecked seen text × P text → IfSome names (λ held. (text : List ℕ) × HasBytes held src (λ source. IsChecked source text) × P text)
  shown P h = by names c
    where
      by : (names : Option NameMap) → IfSome names (λ held. IsContent 1048576 (held src) (Whole bytes)) → IfSome names (λ held. (text : List ℕ) × HasBytes held src (λ source. IsChecked source text) × P text)
      by None d = tt
      by (Some held) d = (h.0, (bytes, d.0, subst (λ b. IsChecked b h.0) e h.1), h.2)

  pub judged_ends : (later : Option NameMap) (reads read writes written : ℕ) (old new : Option (List ℕ)) (before now : ℕ) (status : Status) → Judges seen old new before now status
      → CheckEnds src (outside names reads writes old before) (outside later read written new now) status
  judged_ends later reads read writes written old new before now Done j = shown (λ text. Appends old new text) j
  judged_ends later reads read writes written old new before now (Refused source) j = absurd j
  judged_ends later reads read writes written old new before now Usage j = absurd j
  judged_ends later reads read writes written old new before now ReadFault j = absurd j
  judged_ends later reads read writes written old new before now WriteFault j = (shown (λ text. AppendsPrefix old new text) j.0, j.1)
  judged_ends later reads read writes written old new before now NoMemory (inl j) = inl j
  judged_ends later reads read writes written old new before now NoMemory (inr j) = inr (shown (λ text. AppendsPrefix old new text) j)
  judged_ends later reads read writes written old new before now (BadScript fault) j = absurd j
  judged_ends later reads read writes written old new before now (NotYet line) j = absurd j
  judged_ends later reads read writes written old new before now (BadModule number fault) j = absurd j
  judged_ends later reads read writes written old new before now (NoFile place) j = absurd j
  judged_ends later reads read writes written old new before now (NotAccepted f line column) j = (j.0, holds_such names src bytes seen 1048576 (IsFaultAt f line column) c e j.1)

-- The lines were put, or a prefix of them.
pub put_judged : (source : List ℕ) (lines seen : List (List ℕ)) (old new : Option (List ℕ)) (before now : ℕ) (result : Result (Unit {0}) OutsideFault) (status : Status) → AreShown source lines → seen ≡ lines
    → IsPut (λ text. text ≡ joined seen) old new result → HasCause before now result → status ≡ put_status result → Judges source old new before now status
put_judged source lines seen old new before now result status shown e put cause is =
    subst (λ s. Judges source old new before now s) (sym is) (by result (subst (λ ls. IsPut (λ text. text ≡ joined ls) old new result) e put) cause)
  where
    by : (result : Result (Unit {0}) OutsideFault) → IsPut (λ text. text ≡ joined lines) old new result → HasCause before now result → Judges source old new before now (put_status result)
    by (Ok done) p c = (p.0, (lines, shown, p.1), p.2)
    by (Err outside_fault.Failed) p c = ((p.0, (lines, shown, p.1), p.2), c.failed refl)
    by (Err outside_fault.Memory) p c = inr (p.0, (lines, shown, p.1), p.2)
