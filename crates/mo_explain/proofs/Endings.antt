-- What is said of a source's bytes, as said of its file.
use Rattle.std.proofs.Common.{◌≡◌, ℕ, List, Bool, true, false, Option, Some, None, IfSome, inl, inr, sym, subst}
use Rattle.outer.specs.Names.{NameMap, IsContent}
use Rattle.outer.specs.declared.outside.Content.TheVariants.{Whole}
use Rattle.mo_command.specs.declared.status.Status.{Status}
use Rattle.mo_command.specs.declared.status.Status.TheVariants.{Done, Refused, Usage, ReadFault, WriteFault, NoMemory, BadScript, NotYet, BadModule, NoFile, NotAccepted}
use Rattle.mo_command.specs.Held.{HasBytes, outside}
use Rattle.mo_explain.specs.Ends.{ExplainEnds, IsSaid, Puts, SaidOf, Saying, Says}

-- What is said may be known by more.
widened : (P Q : Saying) (old new : Option (List ℕ)) (before now : ℕ) → ((accepted : Bool) (text : List ℕ) → P accepted text → Q accepted text) → (status : Status) → Says P old new before now status → Says Q old new before now status
widened P Q old new before now f Done s = (s.0, f true s.0 s.1, s.2)
widened P Q old new before now f (Refused source) s = (s.0, s.1, f false s.1 s.2, s.3)
widened P Q old new before now f Usage s = absurd s
widened P Q old new before now f ReadFault s = absurd s
widened P Q old new before now f WriteFault s = ((s.0.0, s.0.1, f s.0.0 s.0.1 s.0.2, s.0.3), s.1)
widened P Q old new before now f NoMemory s = s
widened P Q old new before now f (BadScript fault) s = absurd s
widened P Q old new before now f (NotYet line) s = absurd s
widened P Q old new before now f (BadModule number fault) s = absurd s
widened P Q old new before now f (NoFile place) s = absurd s
widened P Q old new before now f (NotAccepted fault line column) s = absurd s

-- The file is known where it is told what names hold.
abbrev IsKnown : Option NameMap → List ℕ → Saying → Type 0
IsKnown names src P = IfSome names (λ held. HasBytes held src (λ bytes. (accepted : Bool) (text : List ℕ) → P accepted text → SaidOf bytes accepted text))

module _ (src : List ℕ) (names later : Option NameMap) (reads read writes written : ℕ) (old new : Option (List ℕ)) (before now : ℕ) where
  known : (P : Saying) → IsKnown names src P → (status : Status) → Says P old new before now status → IfSome names (λ held. HasBytes held src (λ bytes. Says (SaidOf bytes) old new before now status))
  known P k status s = by names k
    where
      by : (names : Option NameMap) → IsKnown names src P → IfSome names (λ held. HasBytes held src (λ bytes. Says (SaidOf bytes) old new before now status))
      by None k = tt
      by (Some held) k = (k.0, k.1, widened P (SaidOf k.0) old new before now k.2 status s)

  ends_so : (P : Saying) → IsKnown names src P → (status : Status) → Says P old new before now status → ExplainEnds src (outside names reads writes old before) (outside later read written new now) status
  ends_so P k Done s = known P k Done s
  ends_so P k (Refused source) s = known P k (Refused source) s
  ends_so P k Usage s = absurd s
  ends_so P k ReadFault s = absurd s
  ends_so P k WriteFault s = known P k WriteFault s
  ends_so P k NoMemory s = s
  ends_so P k (BadScript fault) s = absurd s
  ends_so P k (NotYet line) s = absurd s
  ends_so P k (BadModule number fault) s = absurd s
  ends_so P k (NoFile place) s = absurd s
  ends_so P k (NotAccepted fault line column) s = absurd s

  -- The file was read whole.
  pub whole_ends : (bytes seen : List ℕ) → IfSome names (λ held. IsContent 1048576 (held src) (Whole bytes)) → seen ≡ bytes → (status : Status) → Says (IsSaid seen) old new before now status
      → ExplainEnds src (outside names reads writes old before) (outside later read written new now) status
  whole_ends bytes seen c e status s = ends_so (IsSaid seen) (by names c) status s
    where
      by : (names : Option NameMap) → IfSome names (λ held. IsContent 1048576 (held src) (Whole bytes)) → IsKnown names src (IsSaid seen)
      by None c = tt
      by (Some held) c = (bytes, c.0, λ accepted text said. inr (subst (λ b. IsSaid b accepted text) e said))

module _ (P : Saying) (text seen : List ℕ) (old new : Option (List ℕ)) (before now : ℕ) (result : Status) where
  -- The text of a source that is accepted was put, or a prefix of it.
  pub put_accepted : P true text → seen ≡ text → Puts seen Done old new before now result → Says P old new before now result
  put_accepted said e puts = by (subst (λ t. Puts t Done old new before now result) e puts)
    where
      by : Puts text Done old new before now result → Says P old new before now result
      by (inl h) = subst (Says P old new before now) (sym h.0) (text, said, h.1)
      by (inr (inl h)) = subst (Says P old new before now) (sym h.0) ((true, text, said, h.1), h.2)
      by (inr (inr h)) = subst (Says P old new before now) (sym h.0) h.1
