-- The names that a pattern has by its abstract syntax are among those that it binds, in their order.
use Rattle.std.proofs.Common.{◌≡◌, ◌≢◌, ℕ, ◌+◌, List, [], ◌∷◌, ◌++◌, map, Option, Some, None, sym, subst}
use Rattle.mo_pattern_names.specs.PatternNames as N
use Rattle.mo_scopes.specs.Findings.{Names}
use Rattle.mo_syntax.specs.declared.name.Name.{Name}
use Rattle.mo_syntax.specs.declared.patterns.Pattern.{Pattern}
use Rattle.mo_syntax.specs.declared.patterns.Pattern.TheVariants as e
use Rattle.mo_syntax.specs.declared.patterns.PatternField.{PatternField, roll-PatternField}
use Rattle.mo_syntax.specs.Parts.{Each, Within}
use Rattle.mo_syntax.proofs.PatternInduction.{Claims, Cases, holds_Pattern}
use Rattle.mo_types.specs.Label.{label_id}
use Rattle.mo_types.specs.Sub.{Each as EachOf}
use Rattle.typing_rules.specs.AbstractSyntax.{Bytes}
use Rattle.typing_rules.specs.AbstractSyntax as p
use Rattle.typing_rules.specs.AbstractPatterns.{PatternSpan, patterns, pattern_fields, pattern_items, in_pattern, in_pattern_field}
use Rattle.typing_rules.specs.Spans.{listed_from}
use Rattle.typing_rules.proofs.PatternSpans as S
use Rattle.desugaring.specs.FreeNames.{names_in, names_in_each, names_in_fields}
use Rattle.proper_laws.specs.Source.{DifferAsLabels}
use Rattle.type_sources.proofs.Labels.{texts}
use Rattle.type_sources.proofs.PatternNames as F

pub data Covers : List Bytes → Names → Type 0 where
  Done : Covers [] []
  Skip : {ls : List Bytes} {xs : Names} → (x : Name) → Covers ls xs → Covers ls (x ∷ xs)
  Keep : {ls : List Bytes} {xs : Names} → (x : Name) → Covers ls xs → Covers (x.bytes ∷ ls) (x ∷ xs)

pub covers_both : {ls ms : List Bytes} {xs ys : Names} → Covers ls xs → Covers ms ys → Covers (ls ++ ms) (xs ++ ys)
covers_both Done d = d
covers_both (Skip x c) d = Skip x (covers_both c d)
covers_both (Keep x c) d = Keep x (covers_both c d)

covers_end : {ls : List Bytes} {xs : Names} → Covers ls xs → Covers ls (xs ++ [])
covers_end Done = Done
covers_end (Skip x c) = Skip x (covers_end c)
covers_end (Keep x c) = Keep x (covers_end c)

pub skip_all : (xs : Names) → Covers [] xs
skip_all [] = Done
skip_all (x ∷ xs) = Skip x (skip_all xs)

each_covered : (n : ℕ) {ls : List Bytes} {xs : Names} → Covers ls xs → EachOf (λ m. n ≢ m) (map label_id (texts xs)) → EachOf (λ m. n ≢ m) (map label_id ls)
each_covered n Done h = tt
each_covered n (Skip x c) h = each_covered n c h.1
each_covered n (Keep x c) h = (h.0, each_covered n c h.1)

-- labels that differ among more of them do
pub covered_differ : {ls : List Bytes} {xs : Names} → Covers ls xs → DifferAsLabels (texts xs) → DifferAsLabels ls
covered_differ Done h = tt
covered_differ (Skip x c) h = covered_differ c h.1
covered_differ (Keep x c) h = (each_covered (label_id x.bytes) c h.0, covered_differ c h.1)

-- ---- patterns

abbrev claims : Claims
claims = record {
  of_Pattern = λ q. (k : ℕ) → Covers (names_in ((in_pattern q).from k)) (N.in_pattern q).names;
  of_PatternField = λ q. (k : ℕ) (rest : p.PatternFields ℕ) (xs : Names) → Covers (names_in_fields rest) xs → Covers (names_in_fields ((in_pattern_field q).from k rest)) ((N.in_pattern_field q).names ++ xs);
}

as_pattern : (q : Pattern) (f : PatternSpan) (b : N.Binder) → in_pattern q ≡ f → N.in_pattern q ≡ b → ((k : ℕ) → Covers (names_in (f.from k)) b.names) → claims.of_Pattern q
as_pattern q f b i j h = subst (λ z. (k : ℕ) → Covers (names_in (z.from k)) (N.in_pattern q).names) (sym i) (subst (λ z. (k : ℕ) → Covers (names_in (f.from k)) z.names) (sym j) h)

each_names : (qs : List Pattern) → Each claims.of_Pattern qs → (k : ℕ) → Covers (names_in_each (patterns (listed_from (map in_pattern qs) k))) (N.bound_names (map N.in_pattern qs))
each_names [] h k = Done
each_names (q ∷ qs) h k = covers_both (h.0 k) (each_names qs h.1 (k + (in_pattern q).size + 1))

items_names : (qs : List Pattern) → Each claims.of_Pattern qs → (k : ℕ) → Covers (names_in (pattern_items (map in_pattern qs) k)) (N.bound_names (map N.in_pattern qs))
items_names [] h k = Done
items_names (q ∷ []) h k = covers_end (h.0 (k + 1))
items_names (q ∷ r ∷ rest) h k = each_names (q ∷ r ∷ rest) h (k + 1)

each_field_names : (qs : List PatternField) → Each claims.of_PatternField qs → (k : ℕ) → Covers (names_in_fields (pattern_fields (listed_from (map in_pattern_field qs) k))) (N.bound_names (map N.in_pattern_field qs))
each_field_names [] h k = Done
each_field_names (q ∷ qs) h k =
    h.0 k (pattern_fields (listed_from (map in_pattern_field qs) (k + (in_pattern_field q).size + 1))) (N.bound_names (map N.in_pattern_field qs)) (each_field_names qs h.1 (k + (in_pattern_field q).size + 1))

of_Tagged : (x : Name) (q : Option Pattern) → Within claims.of_Pattern q → claims.of_Pattern (e.Tagged x q)
of_Tagged x None i = as_pattern (e.Tagged x None) _ _ (S.seen_Tagged x None) (F.found_Tagged x None) (λ k. Done)
of_Tagged x (Some q) i = as_pattern (e.Tagged x (Some q)) _ _ (S.seen_Tagged x (Some q)) (F.found_Tagged x (Some q)) (λ k. i (k + 2))

of_PatternField : (x : Name) (q : Option Pattern) → Within claims.of_Pattern q → claims.of_PatternField (roll-PatternField (record { name = x; pattern = q }))
of_PatternField x None i k rest xs c =
    subst (λ z. Covers (names_in_fields (z.from k rest)) ((N.in_pattern_field (roll-PatternField (record { name = x; pattern = None }))).names ++ xs)) (sym (S.seen_PatternField x None))
    (subst (λ z. Covers (x.bytes ∷ names_in_fields rest) (z.names ++ xs)) (sym (F.found_PatternField x None)) (Keep x c))
of_PatternField x (Some q) i k rest xs c =
    subst (λ z. Covers (names_in_fields (z.from k rest)) ((N.in_pattern_field (roll-PatternField (record { name = x; pattern = Some q }))).names ++ xs)) (sym (S.seen_PatternField x (Some q)))
    (subst (λ z. Covers (names_in ((in_pattern q).from (k + 2)) ++ names_in_fields rest) (z.names ++ xs)) (sym (F.found_PatternField x (Some q))) (covers_both (i (k + 2)) c))

name_cases : Cases claims
name_cases = record {
  Annotated = λ q a i. as_pattern (e.Annotated q a) _ _ (S.seen_Annotated q a) (F.found_Annotated q a) (λ k. i k);
  Alternative = λ q r i j. as_pattern (e.Alternative q r) _ _ (S.seen_Alternative q r) (F.found_Alternative q r) (λ k. skip_all ((N.in_pattern q).names ++ (N.in_pattern r).names));
  Optional = λ q i. as_pattern (e.Optional q) _ _ (S.seen_Optional q) (F.found_Optional q) (λ k. i (k + 1));
  Tagged = of_Tagged;
  Variable = λ x. as_pattern (e.Variable x) _ _ (S.seen_Variable x) (F.found_Variable x) (λ k. Keep x Done);
  Wildcard = as_pattern e.Wildcard _ _ S.seen_Wildcard F.found_Wildcard (λ k. Done);
  Constant = λ minus l. as_pattern (e.Constant minus l) _ _ (S.seen_Constant minus l) (F.found_Constant minus l) (λ k. Done);
  Parenthesized = λ qs i. as_pattern (e.Parenthesized qs) _ _ (S.seen_Parenthesized qs) (F.found_Parenthesized qs) (λ k. items_names qs i k);
  Object = λ qs last i. as_pattern (e.Object qs last) _ _ (S.seen_Object qs last) (F.found_Object qs last) (λ k. each_field_names qs i (k + 1));
  PatternField_ = of_PatternField;
}

pub pattern_covers : (q : Pattern) (k : ℕ) → Covers (names_in ((in_pattern q).from k)) (N.in_pattern q).names
pattern_covers q k = holds_Pattern claims name_cases q k
