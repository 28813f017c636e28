-- What holds of the methods of every source: for the crates that build modules of them.
use Rattle.std.proofs.Common.{◌≡◌, ℕ, ◌+◌, ◌*◌, ◌<◌, ◌≤◌, ◌^◌, List, [], ◌∷◌, length, true, refl, arith, codes, inl, inr, get_or}
use Rattle.std.specs.List.{All, AllByRecursion}
use Rattle.std.proofs.lemmas.Bool.Decides.{nat_tests}
use Rattle.std.specs.Str.{IsAscii, IsUtf8}
use Rattle.std.proofs.lemmas.List.Elements.{All-from_recursion}
use Rattle.std.proofs.lemmas.Str.{IsUtf8-from_ascii}
use Rattle.std.proofs.lemmas.Str.Ascii.{IsAscii-from_all}
use Rattle.query_source.specs.declared.query.Method.{Method}
use Rattle.query_source.specs.Tokens.{AreAll, is_letter, Reads}
use Rattle.query_source.specs.Words.{IsName}
use Rattle.query_source.specs.Source.{AreMethods, IsSource}
use Rattle.query_source.proofs.Tokens.{next_takes, reads_split}
use Rattle.query_source.proofs.Lengths.{methods_take, name_has_some}
use Rattle.query_source.proofs.Lists.{ends_once}
use Rattle.query_source.proofs.Answered.{source_at}

-- A name has 1 to 32 bytes.
pub name_some : (name : List ℕ) → IsName name → 1 ≤ length name
name_some name n = name_has_some name n

pub name_short : (name : List ℕ) → IsName name → length name ≤ 32
name_short name n = n.short

letter_range : (b : ℕ) → is_letter b ≡ true → (65 ≤ b) × (b ≤ 122)
letter_range b h = grind (arith, nat_tests)

pub letters_by_recursion : (bytes : List ℕ) → AreAll is_letter bytes → AllByRecursion (λ b. (65 ≤ b) × (b ≤ 122)) bytes
letters_by_recursion [] h = tt
letters_by_recursion (b ∷ bs) h = (letter_range b h.0, letters_by_recursion bs h.1)

-- Each byte of a name is from 'A' to 'z'.
pub name_bytes : (name : List ℕ) → IsName name → All (λ b. (65 ≤ b) × (b ≤ 122)) name
name_bytes name n = All-from_recursion (λ b. (65 ≤ b) × (b ≤ 122)) name (letters_by_recursion name n.letters)

-- So it is text.
pub name_ascii : (name : List ℕ) → IsName name → IsAscii name
name_ascii name n = IsAscii-from_all name (λ k d lt. let range : (65 ≤ get_or name k d) × (get_or name k d ≤ 122) = name_bytes name n k d lt in omega arith)

pub name_utf8 : (name : List ℕ) → IsName name → IsUtf8 name
name_utf8 name n = IsUtf8-from_ascii name (name_ascii name n)

methods_named : (methods : List Method) (tokens : List (List ℕ)) → AreMethods methods tokens → AllByRecursion (λ m. IsName m.name × (m.number < 2 ^ 63)) methods
methods_named [] tokens h = tt
methods_named (m ∷ []) tokens h = ((h.3.is_name, h.3.is_numeral.small), tt)
methods_named (m ∷ n ∷ ms) tokens (first, rest, e, method, inl last) = absurd (cc)
methods_named (m ∷ n ∷ ms) tokens (first, rest, e, method, inr more) = ((method.is_name, method.is_numeral.small), methods_named (n ∷ ms) more.0 more.2)

-- Each method of a source has a name, and a number below 2 ^ 63.
pub named_by_recursion : (methods : List Method) (text : List ℕ) → IsSource methods text → AllByRecursion (λ m. IsName m.name × (m.number < 2 ^ 63)) methods
named_by_recursion methods text s = methods_named methods s.tokens s.are_methods

pub named : (methods : List Method) (text : List ℕ) → IsSource methods text → All (λ m. IsName m.name × (m.number < 2 ^ 63)) methods
named methods text s = All-from_recursion (λ m. IsName m.name × (m.number < 2 ^ 63)) methods (named_by_recursion methods text s)

-- A source of n methods has at least 35 * n + 6 bytes.
pub room : (methods : List Method) (text : List ℕ) → IsSource methods text → 35 * length methods + 6 ≤ length text
room methods text s =
    let rest = s.spelled.0 in
    let r = s.spelled.1 in
    let a : 5 + length r.0 ≤ length text = next_takes (codes "actor") text r.0 r.1 in
    let b : 1 + length r.2.0 ≤ length r.0 = next_takes (codes "{") r.0 r.2.0 r.2.1 in
    let parts : (mid : List ℕ) × Reads s.tokens r.2.0 mid × Reads (codes "}" ∷ []) mid rest = reads_split s.tokens (codes "}" ∷ []) r.2.0 rest r.2.2 in
    let c : 35 * length methods + length parts.0 ≤ length r.2.0 + 1 = methods_take methods s.tokens r.2.0 parts.0 s.are_methods parts.1 in
    let d : 1 + length parts.2.0 ≤ length parts.0 = next_takes (codes "}") parts.0 parts.2.0 parts.2.1 in
    omega arith

-- So it has at most 116 methods.
pub few : (methods : List Method) (text : List ℕ) → IsSource methods text → length methods ≤ 116
few methods text s = let h : 35 * length methods + 6 ≤ length text = room methods text s in let k : length text ≤ 4096 = s.short in omega arith

-- It is a source in one way only.
pub once : (methods others : List Method) (text : List ℕ) → IsSource methods text → IsSource others text → methods ≡ others
once methods others text s t =
    let r = s.spelled.1 in
    let reads : Reads (codes "actor" ∷ codes "{" ∷ []) text r.2.0 = (r.0, r.1, (r.2.0, r.2.1, refl)) in
    ends_once methods others r.2.0 (source_at methods text r.2.0 reads s) (source_at others text r.2.0 reads t)
