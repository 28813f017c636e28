-- Imports and the name of the actor are read exactly.
use Rattle.std.proofs.Common.{◌≡◌, ℕ, zero, suc, ◌≤◌, false, List, [], ◌∷◌, ◌++◌, length, Option, Some, None, refl, sym, ap, ◌∙◌, arith, append_assoc, length-append}
use Rattle.std.specs.Prelude.{◌≢◌, if◌then◌else◌}
use Rattle.std.specs.List.{flat_map}
use Rattle.std.proofs.lemmas.List.{append-nil}
use Rattle.mo_syntax.specs.declared.name.Name.{Name}
use Rattle.mo_syntax.specs.declared.token.TokenKind.TheVariants as t
use Rattle.mo_syntax.specs.declared.word.Word.TheVariants as w
use Rattle.mo_syntax.specs.declared.mark.Mark.TheVariants as m
use Rattle.mo_syntax.specs.declared.program.Import.{Import}
use Rattle.mo_syntax.specs.ExpressionGrammar.{first}
use Rattle.mo_syntax.specs.ProgramGrammar.{import_tokens, name_tokens}
use Rattle.mo_parser_base.specs.declared.look.Look.{Look}
use Rattle.mo_parser_base.specs.declared.look.Look.TheVariants as l
use Rattle.mo_parser_base.specs.Input.{Input, ◌>>=◌, pure, look, identifier}
use Rattle.mo_parser_base.proofs.Steps.{bind_ok, bind_takes, some_is}
use Rattle.mo_parser_base.proofs.Exact.{Took, Exact, Always, Any, took_as, both, led_by, ended_by, flag, a_name, a_text, fewer, made}
use Rattle.mo_parser_base.proofs.Made.{mapped}
use Rattle.mo_parser_exact.proofs.Operands.{cases_if}
use Rattle.mo_parser_programs.specs.Programs as g

one_import_exact : (b : ℕ) → Exact b g.one_import import_tokens Always Any
unfolding g.one_import
one_import_exact b = mapped
    (fewer (led_by (t.Reserved w.Import) tt (both (a_name b) (both (flag b (t.Mark m.EqualSign) tt) (ended_by (t.Mark m.Semicolon) tt (a_text b) tt) (λ y r short good stops u. cc)) (λ y r short good stops. tt))))
    g.to_import import_tokens Always (λ y. ((y.name, (y.equal_sign, y.path)), refl)) (λ z. refl) (λ z n good. tt) (λ z n good. (tt, (tt, tt)))

-- what is read of imports, behind those found
record TookImports (xs : List Import) (i r : Input) : Type 0 where
  text : i ≡ flat_map import_tokens xs ++ r

imports_from_ok : (n : ℕ) (found : List Import) (i : Input) (ys : List Import) (r : Input) → g.imports_from n found i ≡ Some (ys, r) →
    (xs : List Import) × (ys ≡ found ++ xs) × TookImports xs i r
unfolding g.imports_from
imports_from_ok zero found i ys r h = let same = some_is (found, i) (ys, r) h in ([], ap (λ z. z.0) (sym same) ∙ sym (append-nil found), record { text = ap (λ z. z.1) same })
imports_from_ok (suc n) found i ys r h = cases_if (g.begins_import (look i)) (g.one_import >>= (λ x. g.imports_from n (found ++ x ∷ []))) (pure found) i (ys, r) h
    (λ _ h1. bind_ok (g.one_import i) _ (ys, r) h1 (λ x j was h2.
    let took = (one_import_exact 0).sound i x j was in
    let more = imports_from_ok n (found ++ x ∷ []) j ys r h2 in (
      x ∷ more.0,
      more.1 ∙ append_assoc found (x ∷ []) more.0,
      record { text = took.text ∙ ap (λ z. import_tokens x ++ z) more.2.text ∙ sym (append_assoc (import_tokens x) (flat_map import_tokens more.0) r) },
    )))
    (λ _ h1. let same = some_is (found, i) (ys, r) h1 in ([], ap (λ z. z.0) (sym same) ∙ sym (append-nil found), record { text = ap (λ z. z.1) same }))

begins_not : (r : Input) → first r ≢ Some (t.Reserved w.Import) → g.begins_import (look r) ≡ false
begins_not [] differs = refl
begins_not (t.Reserved w.Import ∷ r) differs = absurd (differs refl)
begins_not (_ ∷ r) differs = refl

imports_stop : (n : ℕ) (found : List Import) (r : Input) → first r ≢ Some (t.Reserved w.Import) → g.imports_from n found r ≡ Some (found ++ [], r)
unfolding g.imports_from
imports_stop zero found r differs = ap (λ z. Some (z, r)) (sym (append-nil found))
imports_stop (suc n) found r differs =
    ap (λ c. (if c then g.one_import >>= (λ x. g.imports_from n (found ++ x ∷ [])) else pure found) r) (begins_not r differs) ∙ ap (λ z. Some (z, r)) (sym (append-nil found))

imports_from_done : (xs : List Import) (n : ℕ) (found : List Import) (r : Input) → length xs ≤ n → first r ≢ Some (t.Reserved w.Import) →
    g.imports_from n found (flat_map import_tokens xs ++ r) ≡ Some (found ++ xs, r)
unfolding g.imports_from
imports_from_done [] n found r turns differs = imports_stop n found r differs
imports_from_done (x ∷ xs) zero found r turns differs = absurd (omega arith)
imports_from_done (x ∷ xs) (suc n) found r turns differs =
    let rest : Input = flat_map import_tokens xs in
    ap (λ z. g.imports_from (suc n) found z) (append_assoc (import_tokens x) rest r)
    ∙ bind_takes (g.one_import (import_tokens x ++ (rest ++ r))) _ x (rest ++ r) ((one_import_exact (suc (length (import_tokens x)))).complete x (rest ++ r) (omega arith) tt tt)
    ∙ imports_from_done xs n (found ++ x ∷ []) r (omega arith) differs
    ∙ ap (λ z. Some (z, r)) (append_assoc found (x ∷ []) xs)

imports_few : (xs : List Import) → length xs ≤ length (flat_map import_tokens xs)
imports_few [] = omega arith
imports_few (x ∷ xs) = omega (arith, imports_few xs, length-append (import_tokens x) (flat_map import_tokens xs))

pub imports_exact : (b : ℕ) → Exact b g.imports (λ xs. flat_map import_tokens xs) Always (λ n. n ≢ Some (t.Reserved w.Import))
unfolding g.imports
imports_exact b = record {
  sound = λ i ys r h. let took = imports_from_ok (length i) [] i ys r h in record { text = took.2.text ∙ ap (λ z. flat_map import_tokens z ++ r) (sym took.1); good = tt };
  complete = λ xs r short good stops. let i : Input = flat_map import_tokens xs ++ r in
      imports_from_done xs (length i) [] r (omega (arith, imports_few xs, length-append (flat_map import_tokens xs) r)) stops;
}

-- ---- `[id]`

name_by_ok : (a : Look) (i : Input) (y : Option Name) (r : Input) → look i ≡ a → g.name_by a i ≡ Some (y, r) → Took name_tokens Always y i r
name_by_ok l.Identifier i y r is h = made (a_name 0) (λ x. Some x) name_tokens Always (λ z. refl) (λ z n good. tt) i y r h
name_by_ok _ i y r is h = took_as None i y r (record { text = refl; good = tt }) h

name_none : (r : Input) → ((x : Name) → first r ≢ Some (t.Identifier x)) → g.a_name r ≡ Some (None, r)
unfolding g.a_name
name_none [] differs = refl
name_none (t.Identifier x ∷ r) differs = absurd (differs x refl)
name_none (_ ∷ r) differs = refl

name_done : (x : Option Name) (r : Input) → ((y : Name) → first r ≢ Some (t.Identifier y)) → g.a_name (name_tokens x ++ r) ≡ Some (x, r)
unfolding g.a_name identifier
name_done None r differs = name_none r differs
name_done (Some x) r differs = refl

pub name_exact : (b : ℕ) → Exact b g.a_name name_tokens Always (λ n. (x : Name) → n ≢ Some (t.Identifier x))
unfolding g.a_name
name_exact b = record { sound = λ i y r h. name_by_ok (look i) i y r refl h; complete = λ x r short good stops. name_done x r stops }
