-- How many bytes methods take.
use Rattle.std.proofs.Common.{◌≡◌, ℕ, ◌+◌, ◌*◌, ◌≤◌, List, [], ◌∷◌, ◌++◌, length, true, refl, ap, subst, arith, codes, inl, inr}
use Rattle.query_source.specs.declared.query.Method.{Method}
use Rattle.query_source.specs.Tokens.{begins_word, Reads}
use Rattle.query_source.specs.Words.{IsName, IsNumeral}
use Rattle.query_source.specs.Source.{IsMethod, AreMethods, before_name, before_number}
use Rattle.query_source.proofs.Tokens.{next_takes, word_takes, reads_split}

pub name_has_some : (name : List ℕ) → IsName name → 1 ≤ length name
name_has_some [] n = absurd (n.some refl)
name_has_some (b ∷ bs) n = omega arith

name_begins : (name : List ℕ) → IsName name → begins_word name ≡ true
name_begins [] n = absurd (n.some refl)
name_begins (b ∷ bs) n = rw n.letters.0 refl

numeral_some : (digits : List ℕ) (number : ℕ) → IsNumeral digits number → 1 ≤ length digits
numeral_some [] number n = absurd (n.some refl)
numeral_some (d ∷ ds) number n = omega arith

-- A method takes at least 34 bytes.
pub method_takes : (m : Method) (tokens : List (List ℕ)) (s rest : List ℕ) → IsMethod m tokens → Reads tokens s rest → 34 + length rest ≤ length s
method_takes m tokens s rest method reads =
    let r : Reads (before_name ++ m.name ∷ (before_number ++ method.digits ∷ codes "}" ∷ [])) s rest = subst (λ ts. Reads ts s rest) method.spelled reads in
    let a : 6 + length r.0 ≤ length s = next_takes (codes "public") s r.0 r.1 in
    let b : 6 + length r.2.0 ≤ length r.0 = word_takes (codes "query") r.0 r.2.0 refl (r.1.apart refl) r.2.1 in
    let c : 5 + length r.2.2.0 ≤ length r.2.0 = word_takes (codes "func") r.2.0 r.2.2.0 refl (r.2.1.apart refl) r.2.2.1 in
    let x = r.2.2.2 in
    let d : 1 + length m.name + length x.0 ≤ length r.2.2.0 = word_takes m.name r.2.2.0 x.0 (name_begins m.name method.is_name) (r.2.2.1.apart refl) x.1 in
    let e : 1 ≤ length m.name = name_has_some m.name method.is_name in
    let f : 1 + length x.2.0 ≤ length x.0 = next_takes (codes "(") x.0 x.2.0 x.2.1 in
    let g : 1 + length x.2.2.0 ≤ length x.2.0 = next_takes (codes ")") x.2.0 x.2.2.0 x.2.2.1 in
    let y = x.2.2.2 in
    let h : 1 + length y.0 ≤ length x.2.2.0 = next_takes (codes ":") x.2.2.0 y.0 y.1 in
    let i : 5 + length y.2.0 ≤ length y.0 = next_takes (codes "async") y.0 y.2.0 y.2.1 in
    let j : 4 + length y.2.2.0 ≤ length y.2.0 = word_takes (codes "Nat") y.2.0 y.2.2.0 refl (y.2.1.apart refl) y.2.2.1 in
    let z = y.2.2.2 in
    let k : 1 + length z.0 ≤ length y.2.2.0 = next_takes (codes "{") y.2.2.0 z.0 z.1 in
    let l : length method.digits + length z.2.0 ≤ length z.0 = next_takes method.digits z.0 z.2.0 z.2.1 in
    let o : 1 ≤ length method.digits = numeral_some method.digits m.number method.is_numeral in
    let p : 1 + length z.2.2.0 ≤ length z.2.0 = next_takes (codes "}") z.2.0 z.2.2.0 z.2.2.1 in
    let q : length z.2.2.0 ≡ length rest = ap length z.2.2.2 in
    omega arith

-- and 35 where another one follows
pub methods_take : (methods : List Method) (tokens : List (List ℕ)) (s rest : List ℕ) → AreMethods methods tokens → Reads tokens s rest → 35 * length methods + length rest ≤ length s + 1
methods_take [] tokens s rest h r = let e : s ≡ rest = subst (λ ts. Reads ts s rest) h r in let k : length s ≡ length rest = ap length e in omega arith
methods_take (m ∷ ms) tokens s rest (first, back, e, method, inl last) r =
    let parts : (mid : List ℕ) × Reads first s mid × Reads back mid rest = reads_split first back s rest (subst (λ ts. Reads ts s rest) e r) in
    let one : 34 + length parts.0 ≤ length s = method_takes m first s parts.0 method parts.1 in
    let same : parts.0 ≡ rest = subst (λ ts. Reads ts parts.0 rest) last.1 parts.2 in
    let k : length parts.0 ≡ length rest = ap length same in
    let none : length ms ≡ 0 = ap length last.0 in
    omega arith
methods_take (m ∷ ms) tokens s rest (first, back, e, method, inr more) r =
    let parts : (mid : List ℕ) × Reads first s mid × Reads back mid rest = reads_split first back s rest (subst (λ ts. Reads ts s rest) e r) in
    let one : 34 + length parts.0 ≤ length s = method_takes m first s parts.0 method parts.1 in
    let after : Reads (codes ";" ∷ more.0) parts.0 rest = subst (λ ts. Reads ts parts.0 rest) more.1 parts.2 in
    let semicolon : 1 + length after.0 ≤ length parts.0 = next_takes (codes ";") parts.0 after.0 after.1 in
    let others : 35 * length ms + length rest ≤ length after.0 + 1 = methods_take ms more.0 after.0 rest more.2 after.2 in
    omega arith
