-- Where a program is refused.
use Rattle.std.proofs.Common.{◌≡◌, ◌<◌, ◌≤◌, ℕ, zero, suc, false, List, [], ◌∷◌, length, Some, None, refl, subst, arith}
use Rattle.std.proofs.lemmas.List.{length-map}
use Rattle.std.specs.Prelude.{nat_le, slice_get}
use Rattle.mo_syntax.specs.declared.token.Token.{Token}
use Rattle.mo_syntax.specs.Tokens.{AreInOrder}
use Rattle.mo_parser_base.specs.Input.{kinds}
use Rattle.typing_rules.specs.AbstractPrograms.{abstract}
use Rattle.typing_rules.specs.AbstractSyntax.{Program}
use Rattle.typing_rules.specs.Gathered.{gathered}
use Rattle.typing_rules.specs.Nodes.{nodes}
use Rattle.typing_rules.specs.Programs.{JudgeFieldsOf, JudgeProgram, basics, own_types}
use Rattle.fault_places.specs.Laws.{FaultsAreAtTokens, FaultsAreInPrograms, FaultsStartInTexts}
use Rattle.fault_places.specs.Numbers.{ProgramBelow}
use Rattle.fault_places.proofs.Expressions.{judge_order, judge_bodies}
use Rattle.fault_places.proofs.Failing.{FailsBelow, gives, meets_each, part, tests, fault_below}
use Rattle.fault_places.proofs.Forms.{listed}
use Rattle.fault_places.proofs.WrittenPrograms.{tokens_of}

fields_of : (n : ℕ) (program : Program ℕ) → 0 < n → ProgramBelow n program → FailsBelow n (JudgeFieldsOf program)
fields_of n program z h =
    meets_each n basics _ (part n _ _ (listed n (gathered program) _ program.fields _ _ h
    (λ known. judge_order n z (gathered program) known 0 false program.fields z h None None) (λ known made. judge_bodies n z (gathered program) known program.fields h made))
    (λ q. meets_each n (own_types program) _ (gives n _)))

program_of : (n : ℕ) (program : Program ℕ) → 0 < n → ProgramBelow n program → FailsBelow n (JudgeProgram program)
program_of n program z h = tests n _ 0 (nat_le (nodes program) 50000) _ z (fields_of n program z h)

pub in_programs : FaultsAreInPrograms
in_programs n program f z h c = fault_below n (gathered program) z (JudgeProgram program) f [] c.met (program_of n program z h) c.by

pub at_tokens : FaultsAreAtTokens
at_tokens tree tokens f spelled c =
    let h = tokens_of tree tokens spelled in
    in_programs (length tokens) (abstract tree) f h.0 h.1 c

-- ---- where that token starts

token_there : (xs : List Token) (i : ℕ) → i < length xs → (x : Token) × (slice_get xs i ≡ Some x)
token_there [] i l = absurd (omega arith)
token_there (x ∷ xs) zero l = (x, refl)
token_there (x ∷ xs) (suc i) l = token_there xs i (omega arith)

-- tokens that stand one after another end at the end or before it
ends_within : (first size : ℕ) (xs : List Token) → AreInOrder first size xs → first ≤ size
ends_within first size [] h = h
ends_within first size (x ∷ xs) h =
    let i : x.end ≤ size = ends_within x.end size xs h.2 in
    let a : first ≤ x.start = h.0 in
    let b : x.start < x.end = h.1 in
    omega arith

starts_within : (first size : ℕ) (xs : List Token) (i : ℕ) (x : Token) → AreInOrder first size xs → slice_get xs i ≡ Some x → x.start < size
starts_within first size [] i x h e = absurd (cc)
starts_within first size (y ∷ xs) zero x h e =
    let s : y ≡ x = cc in
    let i : y.end ≤ size = ends_within y.end size xs h.2 in
    let b : y.start < y.end = h.1 in
    subst (λ (z : Token). z.start < size) s (omega arith)
starts_within first size (y ∷ xs) (suc i) x h e = starts_within y.end size xs i x h.2 e

pub in_texts : FaultsStartInTexts
in_texts size tokens tree f order spelled c =
    let long : length (kinds tokens) ≡ length tokens = length-map tokens (λ x. x.kind) in
    let within : f.place < length (kinds tokens) = at_tokens tree (kinds tokens) f spelled c in
    let x = token_there tokens f.place (omega arith) in
    record { token = x.0; there = x.1; within = starts_within 0 size tokens f.place x.0 order x.1 }
