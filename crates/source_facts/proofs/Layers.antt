-- Each form of declaration, and cases and fields.
use Rattle.std.proofs.Common.{◌≡◌, ◌⊎◌, inl, inr, ℕ, suc, ◌+◌, ◌<◌, ◌≤◌, Bool, false, List, [], ◌∷◌, ◌++◌, map, Option, Some, None, refl, sym, ap, ◌∙◌, subst, arith, append-nil, append_assoc, option_map}
use Rattle.mo_syntax.specs.declared.name.Name.{Name}
use Rattle.mo_syntax.specs.declared.types.TypeExpression.{TypeExpression}
use Rattle.mo_syntax.specs.declared.types.TypeParameter.{TypeParameter}
use Rattle.mo_syntax.specs.declared.patterns.Pattern.{Pattern}
use Rattle.mo_syntax.specs.declared.expressions.Expression as tree
use Rattle.mo_syntax.specs.declared.declarations.Declaration as tree_declaration
use Rattle.mo_syntax.specs.declared.declarations.Declaration.TheOpen as F
use Rattle.mo_syntax.specs.declared.declarations.Visibility.{Visibility}
use Rattle.mo_syntax.specs.declared.declarations.Visibility.TheVariants as visible
use Rattle.mo_syntax.specs.declared.token.TokenKind.TheVariants as t
use Rattle.mo_syntax.specs.declared.word.Word.TheVariants as w
use Rattle.mo_syntax.specs.declared.mark.Mark.TheVariants as m
use Rattle.mo_syntax.specs.TypeGrammar.{type_tokens, type_parameters_tokens}
use Rattle.mo_syntax.specs.PatternGrammar.{pattern_tokens, parameters_tokens}
use Rattle.mo_syntax.specs.ExpressionGrammar.{signature}
use Rattle.mo_syntax.specs.ExpressionGrammar as grammar
use Rattle.mo_syntax.specs.Writing.{marked, led, semicolons, annotation, braces}
use Rattle.mo_name_table.specs.Places.{texts}
use Rattle.mo_pattern_names.specs.PatternNames.{in_parameters, whole}
use Rattle.mo_pattern_names.specs.PatternNames as pattern_names
use Rattle.mo_bindings.specs.ExpressionNames as names
use Rattle.mo_names.specs.Order.{Found}
use Rattle.mo_names.specs.Order as order
use Rattle.mo_scopes.specs.Findings.{identifier, label}
use Rattle.mo_scopes.specs.Scopes.{with_values}
use Rattle.mo_types.specs.declared.node.TypeId.{TypeId}
use Rattle.mo_types.specs.Graph.{Slot}
use Rattle.typing_rules.specs.AbstractSyntax.{Bytes, Expression, Declaration}
use Rattle.typing_rules.specs.AbstractSyntax as p
use Rattle.typing_rules.specs.AbstractExpressions.{braces_size, signature_span}
use Rattle.typing_rules.specs.AbstractExpressions as rules
use Rattle.typing_rules.specs.AbstractPatterns as abstract_patterns
use Rattle.typing_rules.specs.AbstractTypes.{generics_size}
use Rattle.typing_rules.specs.AbstractTypes as abstract_types
use Rattle.typing_rules.specs.DeclaredTypes.{within, with_list}
use Rattle.typing_rules.specs.Definitions.{Definitions}
use Rattle.typing_rules.specs.Gathered.{both}
use Rattle.typing_rules.specs.Gathered as gathered
use Rattle.typing_rules.specs.Spans.{flag, listed_from, listed_size, name_at}
use Rattle.typing_rules.specs.Spans as spans
use Rattle.typing_rules.specs.Terms.{Term}
use Rattle.typing_rules.specs.TypeScopes.{TypeScope}
use Rattle.desugaring.specs.FreeNames.{names_in, names_in_each, names_of_list, occurring, in_cases, in_fields, in_declarations, without}
use Rattle.source_facts.proofs.Facts.{Numbered, wide, numbered_on, numbered_two, none_numbered, hidden_same, both_same, StepIs, ExpressionFacts, DeclarationFacts, MemberFacts, CaseFacts, FieldFacts}
use Rattle.source_facts.specs.Laws.{ExpressionsAreSources}
use Rattle.source_facts.proofs.Findings.{first_fine, last_fine}
use Rattle.source_facts.proofs.Patterns.{first_written, last_written, braced, pattern_facts, parameter_facts}
use Rattle.source_facts.proofs.Sequences.{Sub, Done, sub_all, sub_none, AllBelow, below_more}
use Rattle.source_facts.proofs.Trees as trees
use Rattle.typed_tree.specs.Instances.{IsAmong}
use Rattle.typing_rules.specs.TypeScopes.{with_parameters, names_of as generic_names, places_of}
use Rattle.desugaring.specs.FreeNames as FN
use Rattle.typing_rules.specs.TypeScopes as TS
use Rattle.declaration_laws.specs.Made.{AreFresh}
use Rattle.source_facts.proofs.DeclarationLists.{KD, KM, member_spans, member_names, member_founds, member_writings, member_at, member_same, member_numbered, object_fine}
use Rattle.source_facts.proofs.Expressions.{pattern_fine, parameters_fine, expression_layer}
use Rattle.source_facts.proofs.Forms.{KE}
use Rattle.source_facts.proofs.Items.{KC, KF}
use Rattle.source_facts.proofs.Sequences.{Rising, rising_wider, rising_below, each_both}

-- ---- type parameters

abbrev generics_at : Option (List TypeParameter) → ℕ → List p.TypeParameter
generics_at gs k = listed_from (abstract_types.generics_spans gs) (k + 1)

written_rise : (xs : List TypeParameter) (k : ℕ) → Rising k (k + listed_size (map abstract_types.written_parameter xs)) (places_of (generic_names (listed_from (map abstract_types.written_parameter xs) k)))
written_rise [] k = omega arith
written_rise (x ∷ []) k = ((omega arith), (omega arith))
written_rise (x ∷ y ∷ xs) k =
    let next = k + (abstract_types.written_parameter x).size + 1 in (
      (omega arith),
      rising_wider next (next + listed_size (map abstract_types.written_parameter (y ∷ xs))) (suc k) (k + listed_size (map abstract_types.written_parameter (x ∷ y ∷ xs)))
          (places_of (generic_names (listed_from (map abstract_types.written_parameter (y ∷ xs)) next))) (omega arith) (omega arith) (written_rise (y ∷ xs) next),
    )

generics_rise : (gs : Option (List TypeParameter)) (k : ℕ) → Rising k (k + generics_size gs) (places_of (generic_names (generics_at gs k)))
generics_rise None k = omega arith
generics_rise (Some xs) k =
    rising_wider (k + 1) (k + 1 + listed_size (map abstract_types.written_parameter xs)) k (k + (2 + listed_size (map abstract_types.written_parameter xs)))
    (places_of (generic_names (listed_from (map abstract_types.written_parameter xs) (k + 1)))) (omega arith) (omega arith) (written_rise xs (k + 1))

bounded_numbers : (s : TypeScope) (gs : List p.TypeParameter) → map (λ b. b.at) (gathered.bounded s gs) ≡ places_of (generic_names gs)
bounded_numbers s [] = refl
bounded_numbers s (g ∷ gs) = ap (λ z. g.name.at ∷ z) (bounded_numbers s gs)

generics_numbered : (s : TypeScope) (gs : Option (List TypeParameter)) (k : ℕ) → Numbered k (k + generics_size gs) (gathered.of_generics s (generics_at gs k))
generics_numbered s gs k = ((omega arith), subst (λ z. Rising k (k + generics_size gs) z) (sym (bounded_numbers s (generics_at gs k))) (generics_rise gs k))

parameters_of : (s : TypeScope) (xs : List p.Named) → (with_parameters s xs).parameters ≡ s.parameters ++ places_of xs
parameters_of s [] = sym (append-nil s.parameters)
parameters_of s (x ∷ xs) = parameters_of (TS.with_parameter s x) xs ∙ append_assoc s.parameters (x.at ∷ []) (places_of xs)

below_within : (j : ℕ) (s : TypeScope) (gs : List p.TypeParameter) → AllBelow j s.parameters → AllBelow j (places_of (generic_names gs)) → AllBelow j (with_parameters s (generic_names gs)).parameters
below_within j s gs b c = subst (λ z. AllBelow j z) (sym (parameters_of s (generic_names gs))) (each_both (λ v. v < j) s.parameters (places_of (generic_names gs)) b c)

among_either : (v : ℕ) (xs ys : List ℕ) → IsAmong v (xs ++ ys) → IsAmong v xs ⊎ IsAmong v ys
among_either v [] ys m = inr m
among_either v (x ∷ xs) ys (inl e) = inl (inl e)
among_either v (x ∷ xs) ys (inr m) = further (among_either v xs ys m) where
  further : IsAmong v xs ⊎ IsAmong v ys → IsAmong v (x ∷ xs) ⊎ IsAmong v ys
  further (inl n) = inl (inr n)
  further (inr n) = inr n

not_above : (low high v : ℕ) (vs : List ℕ) → v < low → Rising low high vs → IsAmong v vs → ⊥
not_above low high v [] l h m = m
not_above low high v (w ∷ vs) l h (inl e) = let i : low ≤ w = h.0 in let q : v ≡ w = e in absurd (omega arith)
not_above low high v (w ∷ vs) l h (inr m) = let i : low ≤ w = h.0 in not_above (suc w) high v vs (omega arith) h.1 m

not_below : (low v : ℕ) (ps : List ℕ) → low ≤ v → AllBelow low ps → IsAmong v ps → ⊥
not_below low v [] l h m = m
not_below low v (w ∷ ps) l h (inl e) = let i : w < low = h.0 in let q : v ≡ w = e in absurd (omega arith)
not_below low v (w ∷ ps) l h (inr m) = not_below low v ps l h.1 m

fresh : (ps vs : List ℕ) (low high : ℕ) → Rising low high vs → AllBelow low ps → AreFresh ps vs
fresh ps [] low high h b = tt
fresh ps (v ∷ vs) low high h b = ((λ m. by (among_either v vs ps m)), fresh ps vs (suc v) high h.1 (below_more low (suc v) ps (let i : low ≤ v = h.0 in omega arith) b)) where
  by : IsAmong v vs ⊎ IsAmong v ps → ⊥
  by (inl m) = not_above (suc v) high v vs (omega arith) h.1 m
  by (inr m) = not_below low v ps h.0 b m

-- type parameters of a signature and those around it, before its body
below_signature : (s : TypeScope) (gs : Option (List TypeParameter)) (k j : ℕ) → k + 2 + generics_size gs ≤ j → AllBelow k s.parameters → AllBelow j (with_parameters s (generic_names (generics_at gs (k + 2)))).parameters
below_signature s gs k j l b =
    below_within j s (generics_at gs (k + 2)) (below_more k j s.parameters (omega arith) b)
    (below_more (k + 2 + generics_size gs) j (places_of (generic_names (generics_at gs (k + 2)))) l (rising_below (k + 2) (k + 2 + generics_size gs) (places_of (generic_names (generics_at gs (k + 2)))) (generics_rise gs (k + 2))))

no_name : (f : Bytes) → None ≡ Some f → ⊥
no_name f h = cc

some_is : (x f : Bytes) → Some x ≡ Some f → x ∷ [] ≡ f ∷ []
some_is x f h = let e : x ≡ f = cc in ap (λ z. z ∷ []) e

some_none : {A : Type 0} (x : Bytes) → Some x ≡ None → A
some_none x h = cc

module _ (defs : Definitions) (slots : List Slot) (terms : List Term) (number : Term → TypeId) where
  -- a declaration that is evaluated in order
  defining_step : (names : List Bytes) (a : Found) (d : Declaration ℕ) → FN.function_name d ≡ None → names ≡ FN.defined_by d → FN.names_of d ≡ FN.defined_by d → FN.in_declaration d ≡ texts a.free → StepIs (order.defining names a).step d
  defining_step names a d n e q o = record {
    defines = e;
    names = append-nil names ∙ (e ∙ sym q);
    function = λ f h. absurd (no_name f (sym n ∙ h));
    evaluated = λ h. inl refl;
    occurs = sym o;
  }

  function_step : (x : Name) (a : Found) (d : Declaration ℕ) → FN.function_name d ≡ Some x.bytes → FN.defined_by d ≡ [] → FN.names_of d ≡ x.bytes ∷ [] → FN.in_declaration d ≡ texts a.free → StepIs (order.function_of x a).step d
  function_step x a d n e q o = record {
    defines = sym e;
    names = sym q;
    function = λ f h. some_is x.bytes f (sym n ∙ h);
    evaluated = λ h. some_none x.bytes (sym n ∙ h);
    occurs = sym o;
  }

  declaration_layer : (y : tree_declaration.Declaration-F (KD defs slots terms number) (KE defs slots terms number) (KM defs slots terms number) (KC defs slots terms number) (KF defs slots terms number)) → trees.DeclarationLayer (DeclarationFacts defs slots terms number) (ExpressionFacts defs slots terms number) (MemberFacts defs slots terms number) (CaseFacts defs slots terms number) (FieldFacts defs slots terms number) y
  declaration_layer (F.Let q x) = record {
    nested = λ k. tt;
    step = λ k h. defining_step (order.pattern_names q) (order.found x.0) (d k) refl (sym ((pattern_facts q).same (k + 1) h.0)) refl (x.1.same (i k) h.1);
    values = λ k. (pattern_facts q).part (k + 1);
    fields = λ k. (pattern_facts q).part (k + 1);
    numbered = λ s k. wide (i k) (i k + (rules.in_expression x.0).size) k (k + (2 + (abstract_patterns.in_pattern q).size + (rules.in_expression x.0).size)) (gathered.in_expression s ((rules.in_expression x.0).from (i k))) (omega arith) (omega arith) (x.1.numbered s (i k));
    fine = λ s k scope b f l v.
        let c = whole (pattern_names.in_pattern q) scope in (
          pattern_fine defs slots terms number q (k + 1) scope (first_fine c ((names.in_expression x.0).finds scope) f) (first_written (pattern_tokens q) (t.Mark m.EqualSign ∷ (grammar.expression_tokens x.0)) v.1),
          x.1.fine s (i k) scope (below_more k (i k) s.parameters (omega arith) b) (last_fine c ((names.in_expression x.0).finds scope) f) l (last_written (pattern_tokens q) (t.Mark m.EqualSign ∷ (grammar.expression_tokens x.0)) v.1).1,
        );
  } where
    i : ℕ → ℕ
    i k = k + 2 + (abstract_patterns.in_pattern q).size

    d : ℕ → Declaration ℕ
    d k = p.Let ((abstract_patterns.in_pattern q).from (k + 1)) ((rules.in_expression x.0).from (i k))
  declaration_layer (F.Var y u x) = record {
    nested = λ k. tt;
    step = λ k h. defining_step (y.bytes ∷ []) (order.found x.0) (d k) refl refl refl (x.1.same (i k) h);
    values = λ k. sub_all (y.bytes ∷ []);
    fields = λ k. sub_all (y.bytes ∷ []);
    numbered = λ s k. wide (i k) (i k + (rules.in_expression x.0).size) k (k + (3 + spans.led 1 (abstract_types.annotation u) + (rules.in_expression x.0).size)) (gathered.in_expression s ((rules.in_expression x.0).from (i k))) (omega arith) (omega arith) (x.1.numbered s (i k));
    fine = λ s k scope b f l v.
        let c = names.annotation u scope in
        x.1.fine s (i k) scope (below_more k (i k) s.parameters (omega arith) b) (last_fine c ((names.in_expression x.0).finds scope) (last_fine (identifier y) (c ++ (names.in_expression x.0).finds scope) f)) l
        (last_written (annotation (option_map type_tokens u)) (t.Mark m.EqualSign ∷ (grammar.expression_tokens x.0)) v.1.1).1;
  } where
    i : ℕ → ℕ
    i k = k + 3 + spans.led 1 (abstract_types.annotation u)

    d : ℕ → Declaration ℕ
    d k = p.Var false (name_at y (k + 1)) (spans.at_led (abstract_types.annotation u) (k + 3)) ((rules.in_expression x.0).from (i k))
  declaration_layer (F.TypeAlias y ns u) = record {
    nested = λ k. tt;
    step = λ k h. record { defines = refl; names = refl; function = λ f e. absurd (no_name f e); evaluated = λ e. inl refl; occurs = refl };
    values = λ k. Done;
    fields = λ k. Done;
    numbered = λ s k. (((omega arith), (omega arith)), (omega arith));
    fine = λ s k scope b f l v. tt;
  }
  declaration_layer (F.Evaluate x) = record {
    nested = λ k. tt;
    step = λ k h. defining_step [] (order.found x.0) (p.Evaluate ((rules.in_expression x.0).from k)) refl refl refl (x.1.same k h);
    values = λ k. Done;
    fields = λ k. Done;
    numbered = λ s k. x.1.numbered s k;
    fine = λ s k scope b f l v. x.1.fine s k scope b f l v;
  }
  declaration_layer (F.NamedObject y ms last) = record {
    nested = λ k. tt;
    step = λ k h. defining_step (y.bytes ∷ []) (order.list_of (member_founds defs slots terms number ms)) (p.NamedObject (name_at y (k + 1)) (member_at defs slots terms number ms (k + 3))) refl refl refl (member_same defs slots terms number ms (k + 3) h);
    values = λ k. sub_all (y.bytes ∷ []);
    fields = λ k. sub_none (y.bytes ∷ []);
    numbered = λ s k. wide (k + 3) (k + 3 + listed_size (member_spans defs slots terms number ms)) k (k + (2 + braces_size (member_spans defs slots terms number ms) last)) (gathered.in_list (with_list s (member_at defs slots terms number ms (k + 3))) (member_at defs slots terms number ms (k + 3))) (omega arith) (omega arith)
        (member_numbered defs slots terms number (with_list s (member_at defs slots terms number ms (k + 3))) ms (k + 3));
    fine = λ s k scope b f l v.
        object_fine defs slots terms number s ms (k + 3) scope (below_more k (k + 3) s.parameters (omega arith) b) (last_fine (identifier y) (names.object (member_names defs slots terms number ms) scope) f) l (braced (member_writings defs slots terms number ms) last v.1.1);
  }
  declaration_layer (F.Func y gs qs u equal_sign x) = record {
    nested = λ k. tt;
    step = λ k h. function_step y (order.hiding (order.parameter_values qs) (order.found x.0)) (d k) refl refl refl
        (hidden_same (order.parameter_values qs) (names_in_each ((abstract_patterns.in_parameters qs).from (k + 2 + generics_size gs))) (order.found x.0).free (occurring ((rules.in_expression x.0).from (i k))) ((parameter_facts qs).same (k + 2 + generics_size gs) h.0) (x.1.same (i k) h.1));
    values = λ k. sub_all (y.bytes ∷ []);
    fields = λ k. sub_all (y.bytes ∷ []);
    numbered = λ s k.
        numbered_two k (k + 2) (k + 2 + generics_size gs) (i k) (i k + (rules.in_expression x.0).size) (k + (2 + (signature_span gs qs u equal_sign).size + (rules.in_expression x.0).size)) (gathered.of_generics (within s ((signature_span gs qs u equal_sign).from (k + 2))) (generics_at gs (k + 2)))
        (gathered.in_expression (within s ((signature_span gs qs u equal_sign).from (k + 2))) ((rules.in_expression x.0).from (i k))) (omega arith) (omega arith) (omega arith)
        (generics_numbered (within s ((signature_span gs qs u equal_sign).from (k + 2))) gs (k + 2)) (x.1.numbered (within s ((signature_span gs qs u equal_sign).from (k + 2))) (i k));
    fine = λ s k scope b f l v.
        let outer = names.header_scope gs scope in let inner = names.body_scope gs qs scope in
        let tp = names.type_parameters gs outer in let g = whole (in_parameters qs) outer in let a = names.annotation u outer in
        let c = names.header gs qs u outer in let e = (names.in_expression x.0).finds inner in
        let body = last_fine (identifier y) (c ++ e) f in
        let head = last_fine tp (g ++ a) (first_fine c e body) in
        let z = signature (parameters_tokens qs) (option_map type_tokens u) equal_sign in
        let rest = last_written (type_parameters_tokens gs) (z ++ (grammar.expression_tokens x.0)) v.1.1 in (
          parameters_fine defs slots terms number qs (k + 2 + generics_size gs) outer (first_fine g a head)
              (first_written (parameters_tokens qs) (annotation (option_map type_tokens u) ++ marked equal_sign (t.Mark m.EqualSign)) (first_written z (grammar.expression_tokens x.0) rest)),
          fresh s.parameters (places_of (generic_names (generics_at gs (k + 2)))) (k + 2) (k + 2 + generics_size gs) (generics_rise gs (k + 2)) (below_more k (k + 2) s.parameters (omega arith) b),
          x.1.fine (within s ((signature_span gs qs u equal_sign).from (k + 2))) (i k) inner (below_signature s gs k (i k) (omega arith) b) (last_fine c e body) l (last_written z (grammar.expression_tokens x.0) rest),
        );
  } where
    i : ℕ → ℕ
    i k = k + 2 + (signature_span gs qs u equal_sign).size

    d : ℕ → Declaration ℕ
    d k = p.Func (name_at y (k + 1)) ((signature_span gs qs u equal_sign).from (k + 2)) ((rules.in_expression x.0).from (i k))
  declaration_layer (F.Class y gs qs ms last) = record {
    nested = λ k. tt;
    step = λ k h. function_step y (order.hiding (order.parameter_values qs) (order.list_of (member_founds defs slots terms number ms))) (d k) refl refl refl
        (hidden_same (order.parameter_values qs) (names_in_each ((abstract_patterns.in_parameters qs).from (k + 2 + generics_size gs))) (order.list_of (member_founds defs slots terms number ms)).free (without (names_of_list (member_at defs slots terms number ms (i k))) (in_declarations (member_at defs slots terms number ms (i k))))
        ((parameter_facts qs).same (k + 2 + generics_size gs) h.0) (member_same defs slots terms number ms (i k) h.1));
    values = λ k. sub_all (y.bytes ∷ []);
    fields = λ k. sub_all (y.bytes ∷ []);
    numbered = λ s k.
        let g = (signature_span gs qs None false).from (k + 2) in
        let inner = with_list (within s g) (member_at defs slots terms number ms (i k)) in
        let high = k + (2 + (signature_span gs qs None false).size + braces_size (member_spans defs slots terms number ms) last) in
        numbered_two k k (k + 2) (k + 2) high high (gathered.defined s (name_at y (k + 1)) (generic_names g.generics) (gathered.class_object s g (member_at defs slots terms number ms (i k))))
        (both (gathered.of_generics (within s g) (generics_at gs (k + 2))) (gathered.in_list inner (member_at defs slots terms number ms (i k)))) (omega arith) (omega arith) (omega arith)
        (((omega arith), (omega arith)), (omega arith))
        (numbered_two (k + 2) (k + 2) (k + 2 + generics_size gs) (i k) (i k + listed_size (member_spans defs slots terms number ms)) high (gathered.of_generics (within s g) (generics_at gs (k + 2))) (gathered.in_list inner (member_at defs slots terms number ms (i k))) (omega arith) (omega arith) (omega arith)
        (generics_numbered (within s g) gs (k + 2)) (member_numbered defs slots terms number inner ms (i k)));
    fine = λ s k scope b f l v.
        let outer = names.header_scope gs scope in let inner = names.body_scope gs qs scope in
        let tp = names.type_parameters gs outer in let g = whole (in_parameters qs) outer in let a = names.annotation None outer in
        let c = names.header gs qs None outer in let e = names.object (member_names defs slots terms number ms) inner in
        let body = last_fine (identifier y) (c ++ e) f in
        let head = last_fine tp (g ++ a) (first_fine c e body) in
        let bs = braces (semicolons (member_writings defs slots terms number ms) last) in
        let rest = last_written (type_parameters_tokens gs) (parameters_tokens qs ++ bs) v.1.1 in
        let object = object_fine defs slots terms number (within s ((signature_span gs qs None false).from (k + 2))) ms (i k) inner (below_signature s gs k (i k) (omega arith) b) (last_fine c e body) l (braced (member_writings defs slots terms number ms) last (last_written (parameters_tokens qs) bs rest)) in (
          parameters_fine defs slots terms number qs (k + 2 + generics_size gs) outer (first_fine g a head) (first_written (parameters_tokens qs) bs rest),
          fresh s.parameters (places_of (generic_names (generics_at gs (k + 2)))) (k + 2) (k + 2 + generics_size gs) (generics_rise gs (k + 2)) (below_more k (k + 2) s.parameters (omega arith) b),
          object.0,
          object.1,
          object.2,
        );
  } where
    i : ℕ → ℕ
    i k = k + 2 + (signature_span gs qs None false).size + 1

    d : ℕ → Declaration ℕ
    d k = p.Class (name_at y (k + 1)) ((signature_span gs qs None false).from (k + 2)) (member_at defs slots terms number ms (i k))

  -- ---- members, cases and fields

  member_of : (v : Option Visibility) (x : KD defs slots terms number) → trees.DeclarationFieldLayer (DeclarationFacts defs slots terms number) (ExpressionFacts defs slots terms number) (MemberFacts defs slots terms number) (CaseFacts defs slots terms number) (FieldFacts defs slots terms number) (record { visibility = v; declaration = x })
  member_of None x = record {
    step = λ k h. x.1.step (k + 0) h;
    values = λ k. x.1.values (k + 0);
    fields = λ k. Done;
    numbered = λ s k. wide (k + 0) (k + 0 + (rules.in_declaration x.0).size) k (k + (0 + (rules.in_declaration x.0).size)) (gathered.in_declaration s ((rules.in_declaration x.0).from (k + 0))) (omega arith) (omega arith) (x.1.numbered s (k + 0));
    fine = λ s k scope b f l v. x.1.fine s (k + 0) scope (below_more k (k + 0) s.parameters (omega arith) b) f l v;
  }
  member_of (Some visible.Public) x = record {
    step = λ k h. x.1.step (k + 1) h;
    values = λ k. x.1.values (k + 1);
    fields = λ k. subst (λ z. Sub z (texts (names.in_declaration x.0).values)) (sym (append-nil (FN.field_names ((rules.in_declaration x.0).from (k + 1))))) (x.1.fields (k + 1));
    numbered = λ s k. wide (k + 1) (k + 1 + (rules.in_declaration x.0).size) k (k + (1 + (rules.in_declaration x.0).size)) (gathered.in_declaration s ((rules.in_declaration x.0).from (k + 1))) (omega arith) (omega arith) (x.1.numbered s (k + 1));
    fine = λ s k scope b f l v. x.1.fine s (k + 1) scope (below_more k (k + 1) s.parameters (omega arith) b) f l v.1;
  }
  member_of (Some visible.Private) x = record {
    step = λ k h. x.1.step (k + 1) h;
    values = λ k. x.1.values (k + 1);
    fields = λ k. Done;
    numbered = λ s k. wide (k + 1) (k + 1 + (rules.in_declaration x.0).size) k (k + (1 + (rules.in_declaration x.0).size)) (gathered.in_declaration s ((rules.in_declaration x.0).from (k + 1))) (omega arith) (omega arith) (x.1.numbered s (k + 1));
    fine = λ s k scope b f l v. x.1.fine s (k + 1) scope (below_more k (k + 1) s.parameters (omega arith) b) f l v.1;
  }

  case_of : (q : Pattern) (x : KE defs slots terms number) → trees.CaseLayer (DeclarationFacts defs slots terms number) (ExpressionFacts defs slots terms number) (MemberFacts defs slots terms number) (CaseFacts defs slots terms number) (FieldFacts defs slots terms number) (record { pattern = q; body = x })
  case_of q x = record {
    same = λ k rest more h r.
        both_same (without (names_in ((abstract_patterns.in_pattern q).from (k + 1))) (occurring ((rules.in_expression x.0).from (i k)))) (in_cases rest) (order.without (order.pattern_names q) (order.found x.0).free) more
        (hidden_same (order.pattern_names q) (names_in ((abstract_patterns.in_pattern q).from (k + 1))) (order.found x.0).free (occurring ((rules.in_expression x.0).from (i k))) ((pattern_facts q).same (k + 1) h.0.0) (x.1.same (i k) h.0.1)) (r h.1);
    numbered = λ s k high rest r.
        numbered_on k (k + (1 + (abstract_patterns.in_pattern q).size + (rules.in_expression x.0).size)) high (gathered.in_expression s ((rules.in_expression x.0).from (i k))) (gathered.in_cases s rest)
        (wide (i k) (i k + (rules.in_expression x.0).size) k (k + (1 + (abstract_patterns.in_pattern q).size + (rules.in_expression x.0).size)) (gathered.in_expression s ((rules.in_expression x.0).from (i k))) (omega arith) (omega arith) (x.1.numbered s (i k))) r;
    fine = λ s k rest scope b f l v r.
        let c = whole (pattern_names.in_pattern q) scope in let e = names.scoped q (names.in_expression x.0).finds scope in (
          pattern_fine defs slots terms number q (k + 1) scope (first_fine c e f) (first_written (pattern_tokens q) (grammar.expression_tokens x.0) v.1),
          x.1.fine s (i k) (with_values (pattern_names.in_pattern q).names scope) (below_more k (i k) s.parameters (omega arith) b) (last_fine c e f) l (last_written (pattern_tokens q) (grammar.expression_tokens x.0) v.1),
          r,
        );
  } where
    i : ℕ → ℕ
    i k = k + 1 + (abstract_patterns.in_pattern q).size

  field_of : (mutable : Bool) (y : Name) (u : Option TypeExpression) (o : Option (KE defs slots terms number)) → trees.ExpressionFieldLayer (DeclarationFacts defs slots terms number) (ExpressionFacts defs slots terms number) (MemberFacts defs slots terms number) (CaseFacts defs slots terms number) (FieldFacts defs slots terms number) (record { mutable = mutable; name = y; annotation = u; value = o })
  field_of mutable y u None = record {
    same = λ k rest more h r. ap (λ z. y.bytes ∷ z) (r h.1);
    label = λ k rest. refl;
    numbered = λ s k high rest r. numbered_on k (k + (flag mutable + 1 + spans.led 1 (abstract_types.annotation u) + 0)) high gathered.nothing (gathered.in_fields s rest) (none_numbered k (k + (flag mutable + 1 + spans.led 1 (abstract_types.annotation u) + 0)) (omega arith)) r;
    fine = λ s k rest scope b f l v r. (tt, r);
  }
  field_of mutable y u (Some x) = record {
    same = λ k rest more h r. both_same (occurring ((rules.in_expression x.0).from (i k))) (in_fields rest) (order.found x.0).free more (x.1.same (i k) h.0) (r h.1);
    label = λ k rest. refl;
    numbered = λ s k high rest r.
        numbered_on k (k + (flag mutable + 1 + spans.led 1 (abstract_types.annotation u) + (1 + (rules.in_expression x.0).size))) high (gathered.in_expression s ((rules.in_expression x.0).from (i k))) (gathered.in_fields s rest)
        (wide (i k) (i k + (rules.in_expression x.0).size) k (k + (flag mutable + 1 + spans.led 1 (abstract_types.annotation u) + (1 + (rules.in_expression x.0).size))) (gathered.in_expression s ((rules.in_expression x.0).from (i k))) (omega arith) (omega arith) (x.1.numbered s (i k))) r;
    fine = λ s k rest scope b f l v r.
        let a = names.annotation u scope in
        let z = annotation (option_map type_tokens u) in (
          x.1.fine s (i k) scope (below_more k (i k) s.parameters (omega arith) b) (last_fine a ((names.in_expression x.0).finds scope) (last_fine (label y) (a ++ (names.in_expression x.0).finds scope) f)) l
              (last_written z (t.Mark m.EqualSign ∷ (grammar.expression_tokens x.0)) (last_written (marked mutable (t.Reserved w.Var)) ((t.Identifier y ∷ z) ++ t.Mark m.EqualSign ∷ (grammar.expression_tokens x.0)) v).1).1,
          r,
        );
  } where
    i : ℕ → ℕ
    i k = k + flag mutable + 1 + spans.led 1 (abstract_types.annotation u) + 1

-- ---- all of them

module _ (defs : Definitions) (slots : List Slot) (terms : List Term) (number : Term → TypeId) where
  layers : trees.Layers (DeclarationFacts defs slots terms number) (ExpressionFacts defs slots terms number) (MemberFacts defs slots terms number) (CaseFacts defs slots terms number) (FieldFacts defs slots terms number)
  layers = record {
    declaration = declaration_layer defs slots terms number;
    expression = expression_layer defs slots terms number;
    member = λ y. member_of defs slots terms number y.visibility y.declaration;
    case = λ y. case_of defs slots terms number y.pattern y.body;
    field = λ y. field_of defs slots terms number y.mutable y.name y.annotation y.value;
  }

  pub expression_facts : (x : tree.Expression) → ExpressionFacts defs slots terms number (rules.in_expression x) (names.in_expression x) (order.found x) (grammar.expression_tokens x)
  expression_facts x = trees.holds_expression (DeclarationFacts defs slots terms number) (ExpressionFacts defs slots terms number) (MemberFacts defs slots terms number) (CaseFacts defs slots terms number) (FieldFacts defs slots terms number) layers x

  pub declaration_facts : (x : tree_declaration.Declaration) → DeclarationFacts defs slots terms number (rules.in_declaration x) (names.in_declaration x) (order.found_step x) (grammar.declaration_tokens x)
  declaration_facts x = trees.holds_declaration (DeclarationFacts defs slots terms number) (ExpressionFacts defs slots terms number) (MemberFacts defs slots terms number) (CaseFacts defs slots terms number) (FieldFacts defs slots terms number) layers x

pub expressions_are_sources : ExpressionsAreSources
expressions_are_sources defs slots terms number a s k scope b f l w = (expression_facts defs slots terms number a).fine s k scope b f l w
