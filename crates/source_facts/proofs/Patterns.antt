-- Patterns: their names, as they are found and in the abstract syntax, and their characters.
use Rattle.std.proofs.Common.{◌≡◌, ℕ, ◌+◌, Bool, List, [], ◌∷◌, ◌++◌, map, Option, Some, None, refl, sym, ap, ap₂, ◌∙◌, subst, append-nil}
use Rattle.std.specs.List.{flat_map}
use Rattle.mo_syntax.specs.declared.literal.Literal.{Literal}
use Rattle.mo_syntax.specs.declared.literal.Literal.TheVariants as literal
use Rattle.mo_syntax.specs.declared.name.Name.{Name}
use Rattle.mo_syntax.specs.declared.patterns.Pattern as tree
use Rattle.mo_syntax.specs.declared.patterns.PatternField as tree_field
use Rattle.mo_syntax.specs.declared.patterns.Pattern.TheOpen as F
use Rattle.mo_syntax.specs.declared.patterns.Parameters.{Parameters}
use Rattle.mo_syntax.specs.declared.patterns.Parameters.TheVariants as parameters
use Rattle.mo_syntax.specs.declared.token.TokenKind.{TokenKind}
use Rattle.mo_syntax.specs.declared.token.TokenKind.TheVariants as t
use Rattle.mo_syntax.specs.declared.mark.Mark.TheVariants as m
use Rattle.mo_syntax.specs.declared.word.Word.TheVariants as w
use Rattle.mo_syntax.specs.TypeGrammar.{type_tokens}
use Rattle.mo_syntax.specs.Parts.{Each}
use Rattle.mo_syntax.specs.PatternGrammar.{pattern_tokens, pattern_field_tokens, parameters_tokens}
use Rattle.mo_syntax.specs.Writing.{Writing, literal_token, separated, marked, commas, semicolons, braces}
use Rattle.mo_syntax.proofs.Known.{Known}
use Rattle.mo_name_table.specs.Places.{texts}
use Rattle.mo_pattern_names.specs.PatternNames.{Binder, bound_names, in_parameters}
use Rattle.mo_pattern_names.specs.PatternNames as names
use Rattle.typing_rules.specs.AbstractSyntax.{Bytes, Pattern, Patterns, PatternFields}
use Rattle.typing_rules.specs.AbstractSyntax as p
use Rattle.typing_rules.specs.AbstractPatterns.{PatternSpan, PatternFieldSpan, patterns, pattern_fields}
use Rattle.typing_rules.specs.AbstractPatterns as rules
use Rattle.typing_rules.specs.Spans.{Span, literal_of, listed_from}
use Rattle.desugaring.specs.FreeNames.{names_in, names_in_each, names_in_fields}
use Rattle.desugaring_laws.specs.Written.{IsWritten, PatternIsWritten, EachIsWritten, FieldsAreWritten}
use Rattle.kept_names.specs.Plain.{PatternIsPlain, EachPatternIsPlain, PatternFieldsArePlain}
use Rattle.source_facts.specs.Shown.{IsTokenWritten, AreWritten}
use Rattle.source_facts.proofs.PatternTrees.{Layers, PatternLayer, PatternFieldLayer, holds_pattern, holds_field}
use Rattle.source_facts.proofs.Sequences.{each_first, each_last, Sub, Done, Take, sub_all, sub_none, sub_both}

-- ---- writings

pub first_written : (v w : Writing) → AreWritten (v ++ w) → AreWritten v
first_written v w h = each_first IsTokenWritten v w h

pub last_written : (v w : Writing) → AreWritten (v ++ w) → AreWritten w
last_written v w h = each_last IsTokenWritten v w h

behind_commas : (x : TokenKind) (ws : List Writing) → AreWritten (flat_map (λ y. x ∷ y) ws) → Each AreWritten ws
behind_commas x [] h = tt
behind_commas x (w ∷ ws) h = let i = first_written (x ∷ w) (flat_map (λ y. x ∷ y) ws) h in (i.1, behind_commas x ws (last_written (x ∷ w) (flat_map (λ y. x ∷ y) ws) h))

-- of each part of a list with separators
pub parts_written : (x : TokenKind) (ws : List Writing) → AreWritten (separated x ws) → Each AreWritten ws
parts_written x [] h = tt
parts_written x (w ∷ ws) h = (first_written w (flat_map (λ y. x ∷ y) ws) h, behind_commas x ws (last_written w (flat_map (λ y. x ∷ y) ws) h))

-- of each part of a list in braces
pub braced : (ws : List Writing) (last : Bool) → AreWritten (braces (semicolons ws last)) → Each AreWritten ws
braced ws last h =
    parts_written (t.Mark m.Semicolon) ws (first_written (separated (t.Mark m.Semicolon) ws) (marked last (t.Mark m.Semicolon)) (first_written (semicolons ws last) (t.Mark m.BraceClose ∷ []) h.1))

pub literal_written : (l : Literal) → IsTokenWritten (literal_token l) → IsWritten (literal_of l)
literal_written (literal.Number n) h = tt
literal_written (literal.Character c) h = h
literal_written (literal.Text x) h = tt
literal_written literal.True h = tt
literal_written literal.False h = tt
literal_written literal.Null h = tt

-- ---- what is known of a pattern

pub texts_both : (xs ys : List Name) → texts (xs ++ ys) ≡ texts xs ++ texts ys
texts_both [] ys = refl
texts_both (x ∷ xs) ys = ap (λ z. x.bytes ∷ z) (texts_both xs ys)

pub record PatternFacts (a : PatternSpan) (b : Binder) (w : Writing) : Type 0 where
  pub same : (k : ℕ) → PatternIsPlain (a.from k) → names_in (a.from k) ≡ texts b.names
  pub part : (k : ℕ) → Sub (names_in (a.from k)) (texts b.names)
  pub written : (k : ℕ) → AreWritten w → PatternIsWritten (a.from k)

pub record FieldFacts (a : PatternFieldSpan) (b : Binder) (w : Writing) : Type 0 where
  pub same : (k : ℕ) (rest : PatternFields ℕ) (more : List Bytes) → PatternFieldsArePlain (a.from k rest) → (PatternFieldsArePlain rest → names_in_fields rest ≡ more) → names_in_fields (a.from k rest) ≡ texts b.names ++ more
  pub part : (k : ℕ) (rest : PatternFields ℕ) (more : List Bytes) → Sub (names_in_fields rest) more → Sub (names_in_fields (a.from k rest)) (texts b.names ++ more)
  pub written : (k : ℕ) (rest : PatternFields ℕ) → AreWritten w → FieldsAreWritten rest → FieldsAreWritten (a.from k rest)

abbrev KP : Type 0
KP = Known (λ (x : tree.Pattern). PatternFacts (rules.in_pattern x) (names.in_pattern x) (pattern_tokens x))

abbrev KF : Type 0
KF = Known (λ (x : tree_field.PatternField). FieldFacts (rules.in_pattern_field x) (names.in_pattern_field x) (pattern_field_tokens x))

-- ---- several patterns

abbrev spans : List KP → List PatternSpan
spans qs = map rules.in_pattern (map (λ z. z.0) qs)

abbrev binders : List KP → List Binder
binders qs = map names.in_pattern (map (λ z. z.0) qs)

abbrev writings : List KP → List Writing
writings qs = map pattern_tokens (map (λ z. z.0) qs)

items_same : (qs : List KP) (k : ℕ) → EachPatternIsPlain (patterns (listed_from (spans qs) k)) → names_in_each (patterns (listed_from (spans qs) k)) ≡ texts (bound_names (binders qs))
items_same [] k h = refl
items_same (q ∷ qs) k h =
    ap₂ (λ x y. x ++ y) (q.1.same k h.0) (items_same qs (k + (rules.in_pattern q.0).size + 1) h.1) ∙ sym (texts_both (names.in_pattern q.0).names (bound_names (binders qs)))

items_part : (qs : List KP) (k : ℕ) → Sub (names_in_each (patterns (listed_from (spans qs) k))) (texts (bound_names (binders qs)))
items_part [] k = Done
items_part (q ∷ qs) k =
    subst (λ z. Sub (names_in_each (patterns (listed_from (spans (q ∷ qs)) k))) z) (sym (texts_both (names.in_pattern q.0).names (bound_names (binders qs))))
    (sub_both (q.1.part k) (items_part qs (k + (rules.in_pattern q.0).size + 1)))

items_written : (qs : List KP) (k : ℕ) → Each AreWritten (writings qs) → EachIsWritten (patterns (listed_from (spans qs) k))
items_written [] k h = tt
items_written (q ∷ qs) k h = (q.1.written k h.0, items_written qs (k + (rules.in_pattern q.0).size + 1) h.1)

-- one pattern in parentheses is that pattern
in_parens_same : (qs : List KP) (k : ℕ) → PatternIsPlain (rules.pattern_items (spans qs) k) → names_in (rules.pattern_items (spans qs) k) ≡ texts (bound_names (binders qs))
in_parens_same [] k h = refl
in_parens_same (q ∷ []) k h = q.1.same (k + 1) h ∙ sym (texts_both (names.in_pattern q.0).names [] ∙ append-nil (texts (names.in_pattern q.0).names))
in_parens_same (q ∷ r ∷ qs) k h = items_same (q ∷ r ∷ qs) (k + 1) h

in_parens_part : (qs : List KP) (k : ℕ) → Sub (names_in (rules.pattern_items (spans qs) k)) (texts (bound_names (binders qs)))
in_parens_part [] k = Done
in_parens_part (q ∷ []) k =
    subst (λ z. Sub (names_in (rules.pattern_items (spans (q ∷ [])) k)) z) (sym (texts_both (names.in_pattern q.0).names [] ∙ append-nil (texts (names.in_pattern q.0).names))) (q.1.part (k + 1))
in_parens_part (q ∷ r ∷ qs) k = items_part (q ∷ r ∷ qs) (k + 1)

in_parens_written : (qs : List KP) (k : ℕ) → Each AreWritten (writings qs) → PatternIsWritten (rules.pattern_items (spans qs) k)
in_parens_written [] k h = tt
in_parens_written (q ∷ []) k h = q.1.written (k + 1) h.0
in_parens_written (q ∷ r ∷ qs) k h = items_written (q ∷ r ∷ qs) (k + 1) h

abbrev field_spans : List KF → List PatternFieldSpan
field_spans fs = map rules.in_pattern_field (map (λ z. z.0) fs)

abbrev field_binders : List KF → List Binder
field_binders fs = map names.in_pattern_field (map (λ z. z.0) fs)

abbrev field_writings : List KF → List Writing
field_writings fs = map pattern_field_tokens (map (λ z. z.0) fs)

fields_same : (fs : List KF) (k : ℕ) → PatternFieldsArePlain (pattern_fields (listed_from (field_spans fs) k)) → names_in_fields (pattern_fields (listed_from (field_spans fs) k)) ≡ texts (bound_names (field_binders fs))
fields_same [] k h = refl
fields_same (f ∷ fs) k h =
    f.1.same k (pattern_fields (listed_from (field_spans fs) (k + (rules.in_pattern_field f.0).size + 1))) (texts (bound_names (field_binders fs))) h
    (λ i. fields_same fs (k + (rules.in_pattern_field f.0).size + 1) i) ∙ sym (texts_both (names.in_pattern_field f.0).names (bound_names (field_binders fs)))

fields_part : (fs : List KF) (k : ℕ) → Sub (names_in_fields (pattern_fields (listed_from (field_spans fs) k))) (texts (bound_names (field_binders fs)))
fields_part [] k = Done
fields_part (f ∷ fs) k =
    subst (λ z. Sub (names_in_fields (pattern_fields (listed_from (field_spans (f ∷ fs)) k))) z) (sym (texts_both (names.in_pattern_field f.0).names (bound_names (field_binders fs))))
    (f.1.part k (pattern_fields (listed_from (field_spans fs) (k + (rules.in_pattern_field f.0).size + 1))) (texts (bound_names (field_binders fs))) (fields_part fs (k + (rules.in_pattern_field f.0).size + 1)))

fields_written : (fs : List KF) (k : ℕ) → Each AreWritten (field_writings fs) → FieldsAreWritten (pattern_fields (listed_from (field_spans fs) k))
fields_written [] k h = tt
fields_written (f ∷ fs) k h =
    f.1.written k (pattern_fields (listed_from (field_spans fs) (k + (rules.in_pattern_field f.0).size + 1))) h.0 (fields_written fs (k + (rules.in_pattern_field f.0).size + 1) h.1)

-- ---- each layer

-- alternatives that bind no names
both_none : (q r : KP) (xs ys : List Bytes) → xs ≡ texts (names.in_pattern q.0).names → ys ≡ texts (names.in_pattern r.0).names → xs ≡ [] → ys ≡ [] → [] ≡ texts ((names.in_pattern q.0).names ++ (names.in_pattern r.0).names)
both_none q r xs ys h k i j = sym (texts_both (names.in_pattern q.0).names (names.in_pattern r.0).names ∙ ap₂ (λ x y. x ++ y) (sym h ∙ i) (sym k ∙ j))

pattern : (y : tree.Pattern-F KP KF) → PatternLayer PatternFacts FieldFacts y
pattern (F.Annotated q a) = record { same = λ k h. q.1.same k h; part = λ k. q.1.part k; written = λ k h. q.1.written k (first_written (pattern_tokens q.0) (t.Mark m.Colon ∷ type_tokens a) h) }
pattern (F.Alternative q r) = record {
  same = λ k h. both_none q r (names_in ((rules.in_pattern q.0).from k)) (names_in ((rules.in_pattern r.0).from (k + (rules.in_pattern q.0).size + 1))) (q.1.same k h.0.0) (r.1.same (k + (rules.in_pattern q.0).size + 1) h.1.0) h.0.1 h.1.1;
  part = λ k. sub_none (texts ((names.in_pattern q.0).names ++ (names.in_pattern r.0).names));
  written = λ k h. (
    q.1.written k (first_written (pattern_tokens q.0) (t.Reserved w.Or ∷ pattern_tokens r.0) h),
    r.1.written (k + (rules.in_pattern q.0).size + 1) (last_written (pattern_tokens q.0) (t.Reserved w.Or ∷ pattern_tokens r.0) h).1,
  );
}
pattern (F.Optional q) = record { same = λ k h. q.1.same (k + 1) h; part = λ k. q.1.part (k + 1); written = λ k h. q.1.written (k + 1) h.1 }
pattern (F.Tagged x None) = record { same = λ k h. refl; part = λ k. Done; written = λ k h. tt }
pattern (F.Tagged x (Some q)) = record { same = λ k h. q.1.same (k + 2) h; part = λ k. q.1.part (k + 2); written = λ k h. q.1.written (k + 2) h.1.1 }
pattern (F.Variable x) = record { same = λ k h. refl; part = λ k. sub_all (x.bytes ∷ []); written = λ k h. tt }
pattern F.Wildcard = record { same = λ k h. refl; part = λ k. Done; written = λ k h. tt }
pattern (F.Constant minus l) = record { same = λ k h. refl; part = λ k. Done; written = λ k h. literal_written l (last_written (marked minus (t.Mark m.Minus)) (literal_token l ∷ []) h).0 }
pattern (F.Parenthesized qs) = record {
  same = λ k h. in_parens_same qs k h;
  part = λ k. in_parens_part qs k;
  written = λ k h. in_parens_written qs k (parts_written (t.Mark m.Comma) (writings qs) (first_written (commas (writings qs)) (t.Mark m.ParenClose ∷ []) h.1));
}
pattern (F.Object fs last) = record {
  same = λ k h. fields_same fs (k + 1) h;
  part = λ k. fields_part fs (k + 1);
  written = λ k h. fields_written fs (k + 1) (braced (field_writings fs) last h);
}

-- A field without a pattern binds its own name.
field_of : (x : Name) (o : Option KP) → PatternFieldLayer PatternFacts FieldFacts (record { name = x; pattern = o })
field_of x None = record { same = λ k rest more h i. ap (λ z. x.bytes ∷ z) (i h.1); part = λ k rest more s. Take x.bytes (names_in_fields rest) more s; written = λ k rest h r. (tt, r) }
field_of x (Some q) = record {
  same = λ k rest more h i. ap₂ (λ x y. x ++ y) (q.1.same (k + 2) h.0) (i h.1);
  part = λ k rest more s. sub_both (q.1.part (k + 2)) s;
  written = λ k rest h r. (q.1.written (k + 2) h.1.1, r);
}

layers : Layers PatternFacts FieldFacts
layers = record { pattern = pattern; field = λ y. field_of y.name y.pattern }

pub pattern_facts : (x : tree.Pattern) → PatternFacts (rules.in_pattern x) (names.in_pattern x) (pattern_tokens x)
pattern_facts x = holds_pattern PatternFacts FieldFacts layers x

pub field_facts : (x : tree_field.PatternField) → FieldFacts (rules.in_pattern_field x) (names.in_pattern_field x) (pattern_field_tokens x)
field_facts x = holds_field PatternFacts FieldFacts layers x

-- ---- parameters

abbrev known : List tree.Pattern → List KP
known qs = map (λ q. (q, pattern_facts q)) qs

unknown : (qs : List tree.Pattern) → map (λ z. z.0) (known qs) ≡ qs
unknown [] = refl
unknown (q ∷ qs) = ap (λ z. q ∷ z) (unknown qs)

pub record ParameterFacts (a : Span (Patterns ℕ)) (b : Binder) (w : Writing) : Type 0 where
  pub same : (k : ℕ) → EachPatternIsPlain (a.from k) → names_in_each (a.from k) ≡ texts b.names
  pub part : (k : ℕ) → Sub (names_in_each (a.from k)) (texts b.names)
  pub written : (k : ℕ) → AreWritten w → EachIsWritten (a.from k)

listed_facts : (qs : List KP) → ParameterFacts (rules.in_parameters (parameters.List (map (λ z. z.0) qs))) (in_parameters (parameters.List (map (λ z. z.0) qs))) (parameters_tokens (parameters.List (map (λ z. z.0) qs)))
listed_facts qs = record {
  same = λ k h. items_same qs (k + 1) h;
  part = λ k. items_part qs (k + 1);
  written = λ k h. items_written qs (k + 1) (parts_written (t.Mark m.Comma) (writings qs) (first_written (commas (writings qs)) (t.Mark m.ParenClose ∷ []) h.1));
}

pub parameter_facts : (x : Parameters) → ParameterFacts (rules.in_parameters x) (in_parameters x) (parameters_tokens x)
parameter_facts (parameters.List qs) =
    subst (λ z. ParameterFacts (rules.in_parameters (parameters.List z)) (in_parameters (parameters.List z)) (parameters_tokens (parameters.List z))) (unknown qs) (listed_facts (known qs))
parameter_facts (parameters.Single x) = record { same = λ k h. refl; part = λ k. sub_all (x.bytes ∷ []); written = λ k h. (tt, tt) }

-- ---- contexts

abbrev known_fields : List tree_field.PatternField → List KF
known_fields fs = map (λ f. (f, field_facts f)) fs

unknown_fields : (fs : List tree_field.PatternField) → map (λ z. z.0) (known_fields fs) ≡ fs
unknown_fields [] = refl
unknown_fields (f ∷ fs) = ap (λ z. f ∷ z) (unknown_fields fs)

-- the pattern of an object, in braces
pub record ObjectFacts (fs : List tree_field.PatternField) (last : Bool) : Type 0 where
  pub part : (k : ℕ) → Sub (names_in (p.pattern k (p.Object (pattern_fields (listed_from (map rules.in_pattern_field fs) (k + 1)))))) (texts (bound_names (map names.in_pattern_field fs)))
  pub written : (k : ℕ) → AreWritten (braces (semicolons (map pattern_field_tokens fs) last)) → PatternIsWritten (p.pattern k (p.Object (pattern_fields (listed_from (map rules.in_pattern_field fs) (k + 1)))))

known_object : (fs : List KF) (last : Bool) → ObjectFacts (map (λ z. z.0) fs) last
known_object fs last = record { part = λ k. fields_part fs (k + 1); written = λ k h. fields_written fs (k + 1) (braced (field_writings fs) last h) }

pub object_facts : (fs : List tree_field.PatternField) (last : Bool) → ObjectFacts fs last
object_facts fs last = subst (λ z. ObjectFacts z last) (unknown_fields fs) (known_object (known_fields fs) last)
