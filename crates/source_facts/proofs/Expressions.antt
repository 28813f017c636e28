-- Each form of expression.
use Rattle.std.proofs.Common.{◌≡◌, ℕ, ◌+◌, true, false, List, [], ◌∷◌, ◌++◌, map, Option, Some, None, refl, sym, ap, ap₂, ◌∙◌, subst, arith, append-nil, append_assoc, option_map}
use Rattle.std.specs.List.{flat_map}
use Rattle.mo_syntax.specs.declared.name.Name.{Name}
use Rattle.mo_syntax.specs.declared.operators.AssignmentOperator.TheVariants as assign
use Rattle.mo_syntax.specs.declared.operators.BinaryOperator.TheVariants as op
use Rattle.mo_syntax.specs.declared.patterns.Pattern.{Pattern}
use Rattle.mo_syntax.specs.declared.patterns.Parameters.{Parameters}
use Rattle.mo_syntax.specs.declared.expressions.Expression as tree
use Rattle.mo_syntax.specs.declared.declarations.Declaration.TheOpen as F
use Rattle.mo_syntax.specs.declared.token.TokenKind.TheVariants as t
use Rattle.mo_syntax.specs.declared.word.Word.TheVariants as w
use Rattle.mo_syntax.specs.declared.mark.Mark.TheVariants as m
use Rattle.mo_syntax.specs.TypeGrammar.{type_tokens}
use Rattle.mo_syntax.specs.PatternGrammar.{pattern_tokens, parameters_tokens}
use Rattle.mo_syntax.specs.ExpressionGrammar.{signature, assignment_token, operator_token}
use Rattle.mo_syntax.specs.ExpressionGrammar as grammar
use Rattle.mo_syntax.specs.Writing.{marked, led, commas, semicolons, annotation, angles, braces, parens, tag, literal_token}
use Rattle.mo_name_table.specs.Places.{texts}
use Rattle.mo_pattern_names.specs.TypeNames as TN
use Rattle.mo_pattern_names.specs.PatternNames.{in_parameters, whole}
use Rattle.mo_pattern_names.specs.PatternNames as pattern_names
use Rattle.mo_bindings.specs.ExpressionNames.{Member}
use Rattle.mo_bindings.specs.ExpressionNames as names
use Rattle.mo_names.specs.Order as order
use Rattle.mo_scopes.specs.declared.scope.Scope.{Scope}
use Rattle.mo_scopes.specs.Findings.{identifier, label, labels, used, together, each_within}
use Rattle.mo_scopes.specs.Scopes.{with_values, with_loop, loop_meaning}
use Rattle.mo_types.specs.declared.node.TypeId.{TypeId}
use Rattle.mo_types.specs.Graph.{Slot}
use Rattle.mo_types.specs.Label.{label_id}
use Rattle.typed_tree.specs.OperationTypes.{Distinct}
use Rattle.typing_rules.specs.AbstractSyntax as p
use Rattle.typing_rules.specs.AbstractExpressions.{items_at, cases, object_fields, behind, braces_size, signature_span, type_arguments, arguments_size}
use Rattle.typing_rules.specs.AbstractExpressions as rules
use Rattle.typing_rules.specs.AbstractPatterns as abstract_patterns
use Rattle.typing_rules.specs.AbstractTypes.{in_type}
use Rattle.typing_rules.specs.AbstractTypes as abstract_types
use Rattle.typing_rules.specs.DeclaredTypes.{within, with_list}
use Rattle.typing_rules.specs.Definitions.{Definitions}
use Rattle.typing_rules.specs.Gathered.{both}
use Rattle.typing_rules.specs.Gathered as gathered
use Rattle.typing_rules.specs.Spans.{flag, listed_from, listed_size, literal_of}
use Rattle.typing_rules.specs.Spans as spans
use Rattle.typing_rules.specs.Terms.{Term}
use Rattle.typing_rules.specs.TypeScopes.{TypeScope}
use Rattle.desugaring.specs.FreeNames.{names_in, names_in_each, occurring, in_each, in_cases, in_fields, without}
use Rattle.expression_laws.specs.Laws.{IsPatternFine}
use Rattle.function_laws.specs.Laws.{AreParametersFine}
use Rattle.source_laws.specs.Source.{IsSource}
use Rattle.source_facts.specs.Shown.{AreWritten}
use Rattle.source_facts.proofs.Facts.{wide, numbered_on, numbered_two, none_numbered, hidden_same, both_same, ExpressionFacts, DeclarationFacts, MemberFacts, CaseFacts, FieldFacts}
use Rattle.source_facts.specs.Laws.{AreMeanings, IsListFine, AreListsFine}
use Rattle.source_facts.proofs.Findings.{first_fine, last_fine, names_differ, numbers_differ}
use Rattle.source_facts.proofs.Patterns.{first_written, last_written, parts_written, braced, literal_written, texts_both, pattern_facts, parameter_facts}
use Rattle.source_facts.proofs.Sequences.{each_first, each_last, sub_distinct, AllBelow, below_more}
use Rattle.source_facts.proofs.Trees as trees
use Rattle.source_facts.proofs.DeclarationLists.{KD, KM, block_spans, block_names, block_writings, block_at, block_same, block_numbered, block_each, block_in_order, below_list, member_spans, member_writings, member_at, member_same, member_numbered, object_fine}
use Rattle.source_facts.proofs.Forms.{no_some, KE, leaf, one, two}
use Rattle.source_facts.proofs.Items.{KC, KF, item_spans, item_wholes, item_founds, item_writings, items_same, items_numbered, items_fine, case_spans, case_scopes, case_founds, case_writings, cases_same, cases_numbered, cases_fine, field_spans, field_entries, field_writings, fields_same, fields_labels, fields_numbered, fields_fine}

module _ (defs : Definitions) (slots : List Slot) (terms : List Term) (number : Term → TypeId) where
  abbrev E : Type 0
  E = KE defs slots terms number

  pub pattern_fine : (q : Pattern) (k : ℕ) (scope : Scope) → AreMeanings (whole (pattern_names.in_pattern q) scope) → AreWritten (pattern_tokens q) → IsPatternFine ((abstract_patterns.in_pattern q).from k)
  pattern_fine q k scope f w = record {
    written = (pattern_facts q).written k w;
    distinct = sub_distinct ((pattern_facts q).part k) (names_differ (pattern_names.in_pattern q).names (last_fine ((pattern_names.in_pattern q).finds scope) (together (pattern_names.in_pattern q).names) f));
  }

  pub parameters_fine : (qs : Parameters) (k : ℕ) (scope : Scope) → AreMeanings (whole (in_parameters qs) scope) → AreWritten (parameters_tokens qs) → AreParametersFine ((abstract_patterns.in_parameters qs).from k)
  parameters_fine qs k scope f w = record {
    written = (parameter_facts qs).written k w;
    distinct = sub_distinct ((parameter_facts qs).part k) (names_differ (in_parameters qs).names (last_fine ((in_parameters qs).finds scope) (together (in_parameters qs).names) f));
  }

  -- ---- the forms

  abbrev Layer : tree.Expression-F (KD defs slots terms number) (KE defs slots terms number) (KM defs slots terms number) (KC defs slots terms number) (KF defs slots terms number) → Type 0
  Layer y = trees.ExpressionLayer (DeclarationFacts defs slots terms number) (ExpressionFacts defs slots terms number) (MemberFacts defs slots terms number) (CaseFacts defs slots terms number) (FieldFacts defs slots terms number) y

  pub expression_layer : (y : tree.Expression-F (KD defs slots terms number) (KE defs slots terms number) (KM defs slots terms number) (KC defs slots terms number) (KF defs slots terms number)) → Layer y
  expression_layer (F.Assign assign.Plain x y) =
      two defs slots terms number x y 0 1 0 (λ q a. p.Assign q a) (λ k a b h. h) (λ k a b. refl) (λ s k a b. refl) (λ s k a b i j. (i, j)) ((grammar.expression_tokens x.0) ++ assignment_token assign.Plain ∷ (grammar.expression_tokens y.0))
      (λ h. (first_written (grammar.expression_tokens x.0) (assignment_token assign.Plain ∷ (grammar.expression_tokens y.0)) h, (last_written (grammar.expression_tokens x.0) (assignment_token assign.Plain ∷ (grammar.expression_tokens y.0)) h).1))
  expression_layer (F.Assign assign.Add x y) =
      two defs slots terms number x y 0 1 0 (λ q a. p.AssignBy op.Add q a) (λ k a b h. h) (λ k a b. refl) (λ s k a b. refl) (λ s k a b i j. (i, j)) ((grammar.expression_tokens x.0) ++ assignment_token assign.Add ∷ (grammar.expression_tokens y.0))
      (λ h. (first_written (grammar.expression_tokens x.0) (assignment_token assign.Add ∷ (grammar.expression_tokens y.0)) h, (last_written (grammar.expression_tokens x.0) (assignment_token assign.Add ∷ (grammar.expression_tokens y.0)) h).1))
  expression_layer (F.Assign assign.Subtract x y) =
      two defs slots terms number x y 0 1 0 (λ q a. p.AssignBy op.Subtract q a) (λ k a b h. h) (λ k a b. refl) (λ s k a b. refl) (λ s k a b i j. (i, j)) ((grammar.expression_tokens x.0) ++ assignment_token assign.Subtract ∷ (grammar.expression_tokens y.0))
      (λ h. (first_written (grammar.expression_tokens x.0) (assignment_token assign.Subtract ∷ (grammar.expression_tokens y.0)) h, (last_written (grammar.expression_tokens x.0) (assignment_token assign.Subtract ∷ (grammar.expression_tokens y.0)) h).1))
  expression_layer (F.Assign assign.Multiply x y) =
      two defs slots terms number x y 0 1 0 (λ q a. p.AssignBy op.Multiply q a) (λ k a b h. h) (λ k a b. refl) (λ s k a b. refl) (λ s k a b i j. (i, j)) ((grammar.expression_tokens x.0) ++ assignment_token assign.Multiply ∷ (grammar.expression_tokens y.0))
      (λ h. (first_written (grammar.expression_tokens x.0) (assignment_token assign.Multiply ∷ (grammar.expression_tokens y.0)) h, (last_written (grammar.expression_tokens x.0) (assignment_token assign.Multiply ∷ (grammar.expression_tokens y.0)) h).1))
  expression_layer (F.Assign assign.Divide x y) =
      two defs slots terms number x y 0 1 0 (λ q a. p.AssignBy op.Divide q a) (λ k a b h. h) (λ k a b. refl) (λ s k a b. refl) (λ s k a b i j. (i, j)) ((grammar.expression_tokens x.0) ++ assignment_token assign.Divide ∷ (grammar.expression_tokens y.0))
      (λ h. (first_written (grammar.expression_tokens x.0) (assignment_token assign.Divide ∷ (grammar.expression_tokens y.0)) h, (last_written (grammar.expression_tokens x.0) (assignment_token assign.Divide ∷ (grammar.expression_tokens y.0)) h).1))
  expression_layer (F.Assign assign.Remainder x y) =
      two defs slots terms number x y 0 1 0 (λ q a. p.AssignBy op.Remainder q a) (λ k a b h. h) (λ k a b. refl) (λ s k a b. refl) (λ s k a b i j. (i, j)) ((grammar.expression_tokens x.0) ++ assignment_token assign.Remainder ∷ (grammar.expression_tokens y.0))
      (λ h. (first_written (grammar.expression_tokens x.0) (assignment_token assign.Remainder ∷ (grammar.expression_tokens y.0)) h, (last_written (grammar.expression_tokens x.0) (assignment_token assign.Remainder ∷ (grammar.expression_tokens y.0)) h).1))
  expression_layer (F.Assign assign.Power x y) =
      two defs slots terms number x y 0 1 0 (λ q a. p.AssignBy op.Power q a) (λ k a b h. h) (λ k a b. refl) (λ s k a b. refl) (λ s k a b i j. (i, j)) ((grammar.expression_tokens x.0) ++ assignment_token assign.Power ∷ (grammar.expression_tokens y.0))
      (λ h. (first_written (grammar.expression_tokens x.0) (assignment_token assign.Power ∷ (grammar.expression_tokens y.0)) h, (last_written (grammar.expression_tokens x.0) (assignment_token assign.Power ∷ (grammar.expression_tokens y.0)) h).1))
  expression_layer (F.Assign assign.Concat x y) =
      two defs slots terms number x y 0 1 0 (λ q a. p.AssignBy op.Concat q a) (λ k a b h. h) (λ k a b. refl) (λ s k a b. refl) (λ s k a b i j. (i, j)) ((grammar.expression_tokens x.0) ++ assignment_token assign.Concat ∷ (grammar.expression_tokens y.0))
      (λ h. (first_written (grammar.expression_tokens x.0) (assignment_token assign.Concat ∷ (grammar.expression_tokens y.0)) h, (last_written (grammar.expression_tokens x.0) (assignment_token assign.Concat ∷ (grammar.expression_tokens y.0)) h).1))
  expression_layer (F.Assign assign.AddWrap x y) =
      two defs slots terms number x y 0 1 0 (λ q a. p.AssignBy op.AddWrap q a) (λ k a b h. h) (λ k a b. refl) (λ s k a b. refl) (λ s k a b i j. (i, j)) ((grammar.expression_tokens x.0) ++ assignment_token assign.AddWrap ∷ (grammar.expression_tokens y.0))
      (λ h. (first_written (grammar.expression_tokens x.0) (assignment_token assign.AddWrap ∷ (grammar.expression_tokens y.0)) h, (last_written (grammar.expression_tokens x.0) (assignment_token assign.AddWrap ∷ (grammar.expression_tokens y.0)) h).1))
  expression_layer (F.Assign assign.SubtractWrap x y) =
      two defs slots terms number x y 0 1 0 (λ q a. p.AssignBy op.SubtractWrap q a) (λ k a b h. h) (λ k a b. refl) (λ s k a b. refl) (λ s k a b i j. (i, j)) ((grammar.expression_tokens x.0) ++ assignment_token assign.SubtractWrap ∷ (grammar.expression_tokens y.0))
      (λ h. (first_written (grammar.expression_tokens x.0) (assignment_token assign.SubtractWrap ∷ (grammar.expression_tokens y.0)) h, (last_written (grammar.expression_tokens x.0) (assignment_token assign.SubtractWrap ∷ (grammar.expression_tokens y.0)) h).1))
  expression_layer (F.Assign assign.MultiplyWrap x y) =
      two defs slots terms number x y 0 1 0 (λ q a. p.AssignBy op.MultiplyWrap q a) (λ k a b h. h) (λ k a b. refl) (λ s k a b. refl) (λ s k a b i j. (i, j)) ((grammar.expression_tokens x.0) ++ assignment_token assign.MultiplyWrap ∷ (grammar.expression_tokens y.0))
      (λ h. (first_written (grammar.expression_tokens x.0) (assignment_token assign.MultiplyWrap ∷ (grammar.expression_tokens y.0)) h, (last_written (grammar.expression_tokens x.0) (assignment_token assign.MultiplyWrap ∷ (grammar.expression_tokens y.0)) h).1))
  expression_layer (F.Binary o x y) =
      two defs slots terms number x y 0 1 0 (λ a b. p.Binary o a b) (λ k a b h. h) (λ k a b. refl) (λ s k a b. refl) (λ s k a b i j. (i, j)) ((grammar.expression_tokens x.0) ++ operator_token o ∷ (grammar.expression_tokens y.0))
      (λ h. (first_written (grammar.expression_tokens x.0) (operator_token o ∷ (grammar.expression_tokens y.0)) h, (last_written (grammar.expression_tokens x.0) (operator_token o ∷ (grammar.expression_tokens y.0)) h).1))
  expression_layer (F.If x y None) = record {
    same = λ k h.
        ap₂ (λ u v. u ++ v) (x.1.same (k + 1) h.0) (y.1.same (k + 1 + (rules.in_expression x.0).size + 0) h.1)
        ∙ (ap (λ v. texts (order.found x.0).free ++ v) (sym (texts_both (order.found y.0).free [] ∙ append-nil (texts (order.found y.0).free))) ∙ sym (texts_both (order.found x.0).free ((order.found y.0).free ++ [])));
    numbered = λ s k.
        numbered_two k (k + 1) (k + 1 + (rules.in_expression x.0).size) (k + 1 + (rules.in_expression x.0).size + 0) (k + 1 + (rules.in_expression x.0).size + 0 + (rules.in_expression y.0).size) (k + (1 + (rules.in_expression x.0).size + 0 + (rules.in_expression y.0).size + 0))
        (gathered.in_expression s ((rules.in_expression x.0).from (k + 1))) (gathered.in_expression s ((rules.in_expression y.0).from (k + 1 + (rules.in_expression x.0).size + 0))) (omega arith) (omega arith) (omega arith)
        (x.1.numbered s (k + 1)) (y.1.numbered s (k + 1 + (rules.in_expression x.0).size + 0));
    named = λ m e s k. absurd (no_some m e);
    fine = λ s k scope b f l i.
        let c = (names.in_expression x.0).finds scope in let d = (names.in_expression y.0).finds scope in (
          x.1.fine s (k + 1) scope (below_more k (k + 1) s.parameters (omega arith) b) (first_fine c (d ++ []) f) (each_first IsListFine (order.found x.0).lists ((order.found y.0).lists ++ []) l) (first_written (grammar.expression_tokens x.0) ((grammar.expression_tokens y.0) ++ []) i.1),
          y.1.fine s (k + 1 + (rules.in_expression x.0).size + 0) scope (below_more k (k + 1 + (rules.in_expression x.0).size + 0) s.parameters (omega arith) b) (first_fine d [] (last_fine c (d ++ []) f))
              (each_first IsListFine (order.found y.0).lists [] (each_last IsListFine (order.found x.0).lists ((order.found y.0).lists ++ []) l)) (first_written (grammar.expression_tokens y.0) [] (last_written (grammar.expression_tokens x.0) ((grammar.expression_tokens y.0) ++ []) i.1)),
        );
  }
  expression_layer (F.While x y) =
      two defs slots terms number x y 1 0 0 (λ a b. p.While a b) (λ k a b h. h) (λ k a b. refl) (λ s k a b. refl) (λ s k a b i j. (i, j)) (t.Reserved w.While ∷ (grammar.expression_tokens x.0) ++ (grammar.expression_tokens y.0))
      (λ h. (first_written (grammar.expression_tokens x.0) (grammar.expression_tokens y.0) h.1, last_written (grammar.expression_tokens x.0) (grammar.expression_tokens y.0) h.1))
  expression_layer (F.Loop x (Some y)) =
      two defs slots terms number x y 1 1 0 (λ a b. p.LoopWhile a b) (λ k a b h. h) (λ k a b. refl) (λ s k a b. refl) (λ s k a b i j. (i, j)) (t.Reserved w.Loop ∷ (grammar.expression_tokens x.0) ++ (t.Reserved w.While ∷ (grammar.expression_tokens y.0)))
      (λ h. (first_written (grammar.expression_tokens x.0) (t.Reserved w.While ∷ (grammar.expression_tokens y.0)) h.1, (last_written (grammar.expression_tokens x.0) (t.Reserved w.While ∷ (grammar.expression_tokens y.0)) h.1).1))
  expression_layer (F.Index x y) =
      two defs slots terms number x y 0 1 1 (λ a b. p.Index a b) (λ k a b h. h) (λ k a b. refl) (λ s k a b. refl) (λ s k a b i j. (i, j)) ((grammar.expression_tokens x.0) ++ (t.Mark m.BracketOpen ∷ ((grammar.expression_tokens y.0) ++ (t.Mark m.BracketClose ∷ []))))
      (λ h. (first_written (grammar.expression_tokens x.0) (t.Mark m.BracketOpen ∷ ((grammar.expression_tokens y.0) ++ (t.Mark m.BracketClose ∷ []))) h, first_written (grammar.expression_tokens y.0) (t.Mark m.BracketClose ∷ []) (last_written (grammar.expression_tokens x.0) (t.Mark m.BracketOpen ∷ ((grammar.expression_tokens y.0) ++ (t.Mark m.BracketClose ∷ []))) h).1))
  expression_layer (F.Annotated x u) = record {
    same = λ k h. x.1.same k h;
    numbered = λ s k. wide k (k + (rules.in_expression x.0).size) k (k + ((rules.in_expression x.0).size + 1 + (in_type u).size)) (gathered.in_expression s ((rules.in_expression x.0).from k)) (omega arith) (omega arith) (x.1.numbered s k);
    named = λ m e s k. absurd (no_some m e);
    fine = λ s k scope b f l i. x.1.fine s k scope b (first_fine ((names.in_expression x.0).finds scope) (TN.in_type u scope) f) l (first_written (grammar.expression_tokens x.0) (t.Mark m.Colon ∷ type_tokens u) i);
  }
  expression_layer (F.Loop x None) = record {
    same = λ k h. x.1.same (k + 1) h ∙ sym (texts_both (order.found x.0).free [] ∙ append-nil (texts (order.found x.0).free));
    numbered = λ s k. wide (k + 1) (k + 1 + (rules.in_expression x.0).size) k (k + (1 + (rules.in_expression x.0).size)) (gathered.in_expression s ((rules.in_expression x.0).from (k + 1))) (omega arith) (omega arith) (x.1.numbered s (k + 1));
    named = λ m e s k. absurd (no_some m e);
    fine = λ s k scope b f l i.
        x.1.fine s (k + 1) scope (below_more k (k + 1) s.parameters (omega arith) b) (first_fine ((names.in_expression x.0).finds scope) [] f) (each_first IsListFine (order.found x.0).lists [] l) (first_written (grammar.expression_tokens x.0) [] i.1);
  }
  expression_layer (F.Break y (Some x)) =
      one defs slots terms number x (behind 2 (rules.in_expression x.0) (p.BreakWith y.bytes)) (λ k. k + 2) (p.BreakWith y.bytes) (λ k. refl) (λ k. omega arith) (λ k. omega arith) (λ k a h. h) (λ k a. refl) (λ s k a. refl) (λ s k a i. i) (λ scope. (identifier y ++ used (loop_meaning scope y.bytes) y) ++ (names.in_expression x.0).finds scope) (λ scope. scope) (λ scope f. last_fine (identifier y ++ used (loop_meaning scope y.bytes) y) ((names.in_expression x.0).finds scope) f) (t.Reserved w.Break ∷ t.Identifier y ∷ (grammar.expression_tokens x.0))
      (λ h. h.1.1)
  expression_layer (F.Return (Some x)) =
      one defs slots terms number x (behind 1 (rules.in_expression x.0) p.ReturnWith) (λ k. k + 1) p.ReturnWith (λ k. refl) (λ k. omega arith) (λ k. omega arith) (λ k a h. h) (λ k a. refl) (λ s k a. refl) (λ s k a i. i) ((names.in_expression x.0).finds) (λ scope. scope) (λ scope f. f) (t.Reserved w.Return ∷ (grammar.expression_tokens x.0))
      (λ h. h.1)
  expression_layer (F.Do x) =
      one defs slots terms number x (behind 1 (rules.in_expression x.0) p.Do) (λ k. k + 1) p.Do (λ k. refl) (λ k. omega arith) (λ k. omega arith) (λ k a h. h) (λ k a. refl) (λ s k a. refl) (λ s k a i. i) ((names.in_expression x.0).finds) (λ scope. scope) (λ scope f. f) (t.Reserved w.Do ∷ (grammar.expression_tokens x.0))
      (λ h. h.1)
  expression_layer (F.DoOptional x) =
      one defs slots terms number x (behind 2 (rules.in_expression x.0) p.DoOption) (λ k. k + 2) p.DoOption (λ k. refl) (λ k. omega arith) (λ k. omega arith) (λ k a h. h) (λ k a. refl) (λ s k a. refl) (λ s k a i. i) ((names.in_expression x.0).finds) (λ scope. scope) (λ scope f. f) (t.Reserved w.Do ∷ t.Mark m.Question ∷ (grammar.expression_tokens x.0))
      (λ h. h.1.1)
  expression_layer (F.Await x) =
      one defs slots terms number x (behind 1 (rules.in_expression x.0) p.Await) (λ k. k + 1) p.Await (λ k. refl) (λ k. omega arith) (λ k. omega arith) (λ k a h. h) (λ k a. refl) (λ s k a. refl) (λ s k a i. i) ((names.in_expression x.0).finds) (λ scope. scope) (λ scope f. f) (t.Reserved w.Await ∷ (grammar.expression_tokens x.0))
      (λ h. h.1)
  expression_layer (F.Throw x) =
      one defs slots terms number x (behind 1 (rules.in_expression x.0) p.Throw) (λ k. k + 1) p.Throw (λ k. refl) (λ k. omega arith) (λ k. omega arith) (λ k a h. h) (λ k a. refl) (λ s k a. refl) (λ s k a i. i) ((names.in_expression x.0).finds) (λ scope. scope) (λ scope f. f) (t.Reserved w.Throw ∷ (grammar.expression_tokens x.0))
      (λ h. h.1)
  expression_layer (F.Assert x) =
      one defs slots terms number x (behind 1 (rules.in_expression x.0) p.Assert) (λ k. k + 1) p.Assert (λ k. refl) (λ k. omega arith) (λ k. omega arith) (λ k a h. h) (λ k a. refl) (λ s k a. refl) (λ s k a i. i) ((names.in_expression x.0).finds) (λ scope. scope) (λ scope f. f) (t.Reserved w.Assert ∷ (grammar.expression_tokens x.0))
      (λ h. h.1)
  expression_layer (F.Ignore x) =
      one defs slots terms number x (behind 1 (rules.in_expression x.0) p.Ignore) (λ k. k + 1) p.Ignore (λ k. refl) (λ k. omega arith) (λ k. omega arith) (λ k a h. h) (λ k a. refl) (λ s k a. refl) (λ s k a i. i) ((names.in_expression x.0).finds) (λ scope. scope) (λ scope f. f) (t.Reserved w.Ignore ∷ (grammar.expression_tokens x.0))
      (λ h. h.1)
  expression_layer (F.Debug x) =
      one defs slots terms number x (behind 1 (rules.in_expression x.0) p.Debug) (λ k. k + 1) p.Debug (λ k. refl) (λ k. omega arith) (λ k. omega arith) (λ k a h. h) (λ k a. refl) (λ s k a. refl) (λ s k a i. i) ((names.in_expression x.0).finds) (λ scope. scope) (λ scope f. f) (t.Reserved w.Debug ∷ (grammar.expression_tokens x.0))
      (λ h. h.1)
  expression_layer (F.Optional x) =
      one defs slots terms number x (behind 1 (rules.in_expression x.0) p.Optional) (λ k. k + 1) p.Optional (λ k. refl) (λ k. omega arith) (λ k. omega arith) (λ k a h. h) (λ k a. refl) (λ s k a. refl) (λ s k a i. i) ((names.in_expression x.0).finds) (λ scope. scope) (λ scope f. f) (t.Mark m.Question ∷ (grammar.expression_tokens x.0))
      (λ h. h.1)
  expression_layer (F.Negative x) =
      one defs slots terms number x (behind 1 (rules.in_expression x.0) p.Negative) (λ k. k + 1) p.Negative (λ k. refl) (λ k. omega arith) (λ k. omega arith) (λ k a h. h) (λ k a. refl) (λ s k a. refl) (λ s k a i. i) ((names.in_expression x.0).finds) (λ scope. scope) (λ scope f. f) (t.Mark m.Minus ∷ (grammar.expression_tokens x.0))
      (λ h. h.1)
  expression_layer (F.Not x) =
      one defs slots terms number x (behind 1 (rules.in_expression x.0) p.Not) (λ k. k + 1) p.Not (λ k. refl) (λ k. omega arith) (λ k. omega arith) (λ k a h. h) (λ k a. refl) (λ s k a. refl) (λ s k a i. i) ((names.in_expression x.0).finds) (λ scope. scope) (λ scope f. f) (t.Reserved w.Not ∷ (grammar.expression_tokens x.0))
      (λ h. h.1)
  expression_layer (F.Tagged y (Some x)) =
      one defs slots terms number x (behind 2 (rules.in_expression x.0) (p.Tagged y.bytes)) (λ k. k + 2) (p.Tagged y.bytes) (λ k. refl) (λ k. omega arith) (λ k. omega arith) (λ k a h. h) (λ k a. refl) (λ s k a. refl) (λ s k a i. i) (λ scope. label y ++ (names.in_expression x.0).finds scope) (λ scope. scope) (λ scope f. last_fine (label y) ((names.in_expression x.0).finds scope) f) (tag y ++ (grammar.expression_tokens x.0))
      (λ h. h.1.1)
  expression_layer (F.Projection x n) =
      one defs slots terms number x (record { size = (rules.in_expression x.0).size + 2; from = λ k. p.exp k (p.Projection ((rules.in_expression x.0).from k) n) }) (λ k. k) (λ a. p.Projection a n) (λ k. refl) (λ k. omega arith) (λ k. omega arith) (λ k a h. h) (λ k a. refl) (λ s k a. refl) (λ s k a i. i) ((names.in_expression x.0).finds) (λ scope. scope) (λ scope f. f) ((grammar.expression_tokens x.0) ++ t.Mark m.Dot ∷ t.Number n ∷ [])
      (λ h. first_written (grammar.expression_tokens x.0) (t.Mark m.Dot ∷ t.Number n ∷ []) h)
  expression_layer (F.Bang x) =
      one defs slots terms number x (record { size = (rules.in_expression x.0).size + 1; from = λ k. p.exp k (p.Bang ((rules.in_expression x.0).from k)) }) (λ k. k) p.Bang (λ k. refl) (λ k. omega arith) (λ k. omega arith) (λ k a h. h) (λ k a. refl) (λ s k a. refl) (λ s k a i. i) ((names.in_expression x.0).finds) (λ scope. scope) (λ scope f. f) ((grammar.expression_tokens x.0) ++ t.Mark m.Bang ∷ [])
      (λ h. first_written (grammar.expression_tokens x.0) (t.Mark m.Bang ∷ []) h)
  expression_layer (F.Member x y) = record {
    same = λ k h. x.1.same k h;
    numbered = λ s k. wide k (k + (rules.in_expression x.0).size) k (k + ((rules.in_expression x.0).size + 2)) (gathered.in_expression s ((rules.in_expression x.0).from k)) (omega arith) (omega arith) (x.1.numbered s k);
    named = λ m e s k. absurd (no_some m e);
    fine = λ s k scope b f l i.
        by (names.in_expression x.0).head refl s k scope b (first_fine (names.operand (names.in_expression x.0).head (names.in_expression x.0).finds y scope) (label y) f) l (first_written (grammar.expression_tokens x.0) (t.Mark m.Dot ∷ t.Identifier y ∷ []) i);
  } where
    -- before a dot a name stands for a value or a module
    by : (o : Option Name) → (names.in_expression x.0).head ≡ o → (s : TypeScope) (k : ℕ) (scope : Scope) → AllBelow k s.parameters → AreMeanings (names.operand o (names.in_expression x.0).finds y scope) → AreListsFine (order.found x.0).lists → AreWritten (grammar.expression_tokens x.0)
        → IsSource defs slots terms number s ((rules.in_expression x.0).from k)
    by None e s k scope b f l i = x.1.fine s k scope b f l i
    by (Some n) e s k scope b f l i = x.1.named n e s k
  expression_layer (F.If x y (Some z)) = record {
    same = λ k h.
        let a = (rules.in_expression x.0).from (k + 1) in let b = (rules.in_expression y.0).from (k + 1 + (rules.in_expression x.0).size) in let c = (rules.in_expression z.0).from (k + 1 + (rules.in_expression x.0).size + (rules.in_expression y.0).size + 1) in
        ap₂ (λ u v. u ++ v) (ap₂ (λ u v. u ++ v) (x.1.same (k + 1) h.0.0) (y.1.same (k + 1 + (rules.in_expression x.0).size) h.0.1)) (z.1.same (k + 1 + (rules.in_expression x.0).size + (rules.in_expression y.0).size + 1) h.1)
        ∙ (append_assoc (texts (order.found x.0).free) (texts (order.found y.0).free) (texts (order.found z.0).free) ∙ (ap (λ v. texts (order.found x.0).free ++ v) (sym (texts_both (order.found y.0).free (order.found z.0).free)) ∙ sym (texts_both (order.found x.0).free ((order.found y.0).free ++ (order.found z.0).free))));
    numbered = λ s k.
        let i = k + 1 in let j = k + 1 + (rules.in_expression x.0).size in let n = k + 1 + (rules.in_expression x.0).size + (rules.in_expression y.0).size + 1 in
        let high = k + (1 + (rules.in_expression x.0).size + (rules.in_expression y.0).size + 1 + (rules.in_expression z.0).size) in
        numbered_two k i (i + (rules.in_expression x.0).size) j (n + (rules.in_expression z.0).size) high (gathered.in_expression s ((rules.in_expression x.0).from i)) (both (gathered.in_expression s ((rules.in_expression y.0).from j)) (gathered.in_expression s ((rules.in_expression z.0).from n))) (omega arith) (omega arith) (omega arith)
        (x.1.numbered s i)
        (numbered_two j j (j + (rules.in_expression y.0).size) n (n + (rules.in_expression z.0).size) (n + (rules.in_expression z.0).size) (gathered.in_expression s ((rules.in_expression y.0).from j)) (gathered.in_expression s ((rules.in_expression z.0).from n)) (omega arith) (omega arith) (omega arith)
        (y.1.numbered s j) (z.1.numbered s n));
    named = λ m e s k. absurd (no_some m e);
    fine = λ s k scope b f l i.
        let c = (names.in_expression x.0).finds scope in let d = (names.in_expression y.0).finds scope in let g = (names.in_expression z.0).finds scope in
        let more = last_fine c (d ++ g) f in
        let lists = each_last IsListFine (order.found x.0).lists ((order.found y.0).lists ++ (order.found z.0).lists) l in
        let rest = last_written (grammar.expression_tokens x.0) ((grammar.expression_tokens y.0) ++ t.Reserved w.Else ∷ (grammar.expression_tokens z.0)) i.1 in (
          x.1.fine s (k + 1) scope (below_more k (k + 1) s.parameters (omega arith) b) (first_fine c (d ++ g) f) (each_first IsListFine (order.found x.0).lists ((order.found y.0).lists ++ (order.found z.0).lists) l) (first_written (grammar.expression_tokens x.0) ((grammar.expression_tokens y.0) ++ t.Reserved w.Else ∷ (grammar.expression_tokens z.0)) i.1),
          y.1.fine s (k + 1 + (rules.in_expression x.0).size) scope (below_more k (k + 1 + (rules.in_expression x.0).size) s.parameters (omega arith) b) (first_fine d g more) (each_first IsListFine (order.found y.0).lists (order.found z.0).lists lists) (first_written (grammar.expression_tokens y.0) (t.Reserved w.Else ∷ (grammar.expression_tokens z.0)) rest),
          z.1.fine s (k + 1 + (rules.in_expression x.0).size + (rules.in_expression y.0).size + 1) scope (below_more k (k + 1 + (rules.in_expression x.0).size + (rules.in_expression y.0).size + 1) s.parameters (omega arith) b) (last_fine d g more) (each_last IsListFine (order.found y.0).lists (order.found z.0).lists lists)
              (last_written (grammar.expression_tokens y.0) (t.Reserved w.Else ∷ (grammar.expression_tokens z.0)) rest).1,
        );
  }
  expression_layer (F.Break y None) = leaf defs slots terms number (record { size = 2; from = λ k. p.exp k (p.Break y.bytes) }) (λ scope. (identifier y ++ used (loop_meaning scope y.bytes) y) ++ []) (t.Reserved w.Break ∷ t.Identifier y ∷ []) (λ k. refl) (λ s k. refl) (λ s k i. tt)
  expression_layer (F.Continue y) = leaf defs slots terms number (record { size = 2; from = λ k. p.exp k (p.Continue y.bytes) }) (λ scope. identifier y ++ used (loop_meaning scope y.bytes) y) (t.Reserved w.Continue ∷ t.Identifier y ∷ []) (λ k. refl) (λ s k. refl) (λ s k i. tt)
  expression_layer (F.Return None) = leaf defs slots terms number (record { size = 1; from = λ k. p.exp k p.Return }) (λ scope. []) (t.Reserved w.Return ∷ []) (λ k. refl) (λ s k. refl) (λ s k i. tt)
  expression_layer (F.Tagged y None) = leaf defs slots terms number (record { size = 2; from = λ k. p.exp k (p.Tag y.bytes) }) (λ scope. label y ++ []) (tag y ++ []) (λ k. refl) (λ s k. refl) (λ s k i. tt)
  expression_layer (F.Constant l) = leaf defs slots terms number (spans.one (λ k. p.exp k (p.Constant (literal_of l)))) (λ scope. []) (literal_token l ∷ []) (λ k. refl) (λ s k. refl) (λ s k i. literal_written l i.0)
  expression_layer (F.ActorReference false y) = leaf defs slots terms number (record { size = 2 + flag false + flag false; from = λ k. p.exp k (p.ActorReference y.bytes) }) (λ scope. []) (grammar.expression_step (F.ActorReference false y)) (λ k. refl) (λ s k. refl) (λ s k i. tt)
  expression_layer (F.ActorReference true y) = leaf defs slots terms number (record { size = 2 + flag true + flag true; from = λ k. p.exp k (p.ActorReference y.bytes) }) (λ scope. []) (grammar.expression_step (F.ActorReference true y)) (λ k. refl) (λ s k. refl) (λ s k i. tt)
  expression_layer (F.Variable y) = record {
    same = λ k h. refl;
    numbered = λ s k. none_numbered k (k + 1) (omega arith);
    named = λ m e s k. tt;
    fine = λ s k scope b f l i. tt;
  }
  expression_layer (F.Label y u x) = record {
    same = λ k h. x.1.same (at k) h;
    numbered = λ s k. wide (at k) (at k + (rules.in_expression x.0).size) k (k + (2 + spans.led 1 (abstract_types.annotation u) + (rules.in_expression x.0).size)) (gathered.in_expression s ((rules.in_expression x.0).from (at k))) (omega arith) (omega arith) (x.1.numbered s (at k));
    named = λ m e s k. absurd (no_some m e);
    fine = λ s k scope b f l i.
        x.1.fine s (at k) (with_loop y.bytes scope) (below_more k (at k) s.parameters (omega arith) b)
        (last_fine (names.annotation u scope) ((names.in_expression x.0).finds (with_loop y.bytes scope)) (last_fine (identifier y) (names.annotation u scope ++ (names.in_expression x.0).finds (with_loop y.bytes scope)) f)) l
        (last_written (annotation (option_map type_tokens u)) (grammar.expression_tokens x.0) i.1.1);
  } where
    at : ℕ → ℕ
    at k = k + 2 + spans.led 1 (abstract_types.annotation u)
  expression_layer (F.For q x y) = record {
    same = λ k h.
        both_same (occurring ((rules.in_expression x.0).from (i k))) (without (names_in ((abstract_patterns.in_pattern q).from (k + 2))) (occurring ((rules.in_expression y.0).from (j k)))) (order.found x.0).free (order.without (order.pattern_names q) (order.found y.0).free) (x.1.same (i k) h.0)
        (hidden_same (order.pattern_names q) (names_in ((abstract_patterns.in_pattern q).from (k + 2))) (order.found y.0).free (occurring ((rules.in_expression y.0).from (j k))) ((pattern_facts q).same (k + 2) h.1.0) (y.1.same (j k) h.1.1));
    numbered = λ s k.
        numbered_two k (i k) (i k + (rules.in_expression x.0).size) (j k) (j k + (rules.in_expression y.0).size) (k + (4 + (abstract_patterns.in_pattern q).size + (rules.in_expression x.0).size + (rules.in_expression y.0).size)) (gathered.in_expression s ((rules.in_expression x.0).from (i k))) (gathered.in_expression s ((rules.in_expression y.0).from (j k)))
        (omega arith) (omega arith) (omega arith) (x.1.numbered s (i k)) (y.1.numbered s (j k));
    named = λ m e s k. absurd (no_some m e);
    fine = λ s k scope b f l v.
        let c = whole (pattern_names.in_pattern q) scope in let d = (names.in_expression x.0).finds scope in let g = names.scoped q (names.in_expression y.0).finds scope in
        let more = last_fine c (d ++ g) f in
        let inside = first_written (pattern_tokens q ++ t.Reserved w.In ∷ (grammar.expression_tokens x.0)) (t.Mark m.ParenClose ∷ []) (first_written (parens (pattern_tokens q ++ t.Reserved w.In ∷ (grammar.expression_tokens x.0))) (grammar.expression_tokens y.0) v.1).1 in (
          pattern_fine q (k + 2) scope (first_fine c (d ++ g) f) (first_written (pattern_tokens q) (t.Reserved w.In ∷ (grammar.expression_tokens x.0)) inside),
          x.1.fine s (i k) scope (below_more k (i k) s.parameters (omega arith) b) (first_fine d g more) (each_first IsListFine (order.found x.0).lists (order.found y.0).lists l) (last_written (pattern_tokens q) (t.Reserved w.In ∷ (grammar.expression_tokens x.0)) inside).1,
          y.1.fine s (j k) (with_values (pattern_names.in_pattern q).names scope) (below_more k (j k) s.parameters (omega arith) b) (last_fine d g more) (each_last IsListFine (order.found x.0).lists (order.found y.0).lists l)
              (last_written (parens (pattern_tokens q ++ t.Reserved w.In ∷ (grammar.expression_tokens x.0))) (grammar.expression_tokens y.0) v.1),
        );
  } where
    i : ℕ → ℕ
    i k = k + 2 + (abstract_patterns.in_pattern q).size + 1

    j : ℕ → ℕ
    j k = k + 2 + (abstract_patterns.in_pattern q).size + 1 + (rules.in_expression x.0).size + 1
  expression_layer (F.Try x q y) = record {
    same = λ k h.
        both_same (occurring ((rules.in_expression x.0).from (k + 1))) (without (names_in ((abstract_patterns.in_pattern q).from (i k))) (occurring ((rules.in_expression y.0).from (j k)))) (order.found x.0).free (order.without (order.pattern_names q) (order.found y.0).free) (x.1.same (k + 1) h.0)
        (hidden_same (order.pattern_names q) (names_in ((abstract_patterns.in_pattern q).from (i k))) (order.found y.0).free (occurring ((rules.in_expression y.0).from (j k))) ((pattern_facts q).same (i k) h.1.0) (y.1.same (j k) h.1.1));
    numbered = λ s k.
        numbered_two k (k + 1) (k + 1 + (rules.in_expression x.0).size) (j k) (j k + (rules.in_expression y.0).size) (k + (2 + (rules.in_expression x.0).size + (abstract_patterns.in_pattern q).size + (rules.in_expression y.0).size)) (gathered.in_expression s ((rules.in_expression x.0).from (k + 1))) (gathered.in_expression s ((rules.in_expression y.0).from (j k)))
        (omega arith) (omega arith) (omega arith) (x.1.numbered s (k + 1)) (y.1.numbered s (j k));
    named = λ m e s k. absurd (no_some m e);
    fine = λ s k scope b f l v.
        let c = whole (pattern_names.in_pattern q) scope in let d = (names.in_expression x.0).finds scope in let g = names.scoped q (names.in_expression y.0).finds scope in
        let more = last_fine d (c ++ g) f in
        let rest = last_written (grammar.expression_tokens x.0) (t.Reserved w.Catch ∷ pattern_tokens q ++ (grammar.expression_tokens y.0)) v.1 in (
          x.1.fine s (k + 1) scope (below_more k (k + 1) s.parameters (omega arith) b) (first_fine d (c ++ g) f) (each_first IsListFine (order.found x.0).lists (order.found y.0).lists l) (first_written (grammar.expression_tokens x.0) (t.Reserved w.Catch ∷ pattern_tokens q ++ (grammar.expression_tokens y.0)) v.1),
          pattern_fine q (i k) scope (first_fine c g more) (first_written (pattern_tokens q) (grammar.expression_tokens y.0) rest.1),
          y.1.fine s (j k) (with_values (pattern_names.in_pattern q).names scope) (below_more k (j k) s.parameters (omega arith) b) (last_fine c g more) (each_last IsListFine (order.found x.0).lists (order.found y.0).lists l)
              (last_written (pattern_tokens q) (grammar.expression_tokens y.0) rest.1),
        );
  } where
    i : ℕ → ℕ
    i k = k + 1 + (rules.in_expression x.0).size + 1

    j : ℕ → ℕ
    j k = k + 1 + (rules.in_expression x.0).size + 1 + (abstract_patterns.in_pattern q).size
  expression_layer (F.Switch x cs last) = record {
    same = λ k h.
        both_same (occurring ((rules.in_expression x.0).from (k + 1))) (in_cases (cases (listed_from (case_spans defs slots terms number cs) (i k)))) (order.found x.0).free (order.all (case_founds defs slots terms number cs)).free (x.1.same (k + 1) h.0) (cases_same defs slots terms number cs (i k) h.1);
    numbered = λ s k.
        numbered_two k (k + 1) (k + 1 + (rules.in_expression x.0).size) (i k) (i k + listed_size (case_spans defs slots terms number cs)) (k + (1 + (rules.in_expression x.0).size + braces_size (case_spans defs slots terms number cs) last)) (gathered.in_expression s ((rules.in_expression x.0).from (k + 1))) (gathered.in_cases s (cases (listed_from (case_spans defs slots terms number cs) (i k))))
        (omega arith) (omega arith) (omega arith) (x.1.numbered s (k + 1)) (cases_numbered defs slots terms number s cs (i k));
    named = λ m e s k. absurd (no_some m e);
    fine = λ s k scope b f l v.
        let d = (names.in_expression x.0).finds scope in let g = flat_map (λ part. part scope) (case_scopes defs slots terms number cs) in (
          x.1.fine s (k + 1) scope (below_more k (k + 1) s.parameters (omega arith) b) (first_fine d g f) (each_first IsListFine (order.found x.0).lists (order.all (case_founds defs slots terms number cs)).lists l) (first_written (grammar.expression_tokens x.0) (braces (semicolons (case_writings defs slots terms number cs) last)) v.1),
          cases_fine defs slots terms number s cs (i k) scope (below_more k (i k) s.parameters (omega arith) b) (last_fine d g f) (each_last IsListFine (order.found x.0).lists (order.all (case_founds defs slots terms number cs)).lists l)
              (braced (case_writings defs slots terms number cs) last (last_written (grammar.expression_tokens x.0) (braces (semicolons (case_writings defs slots terms number cs) last)) v.1)),
        );
  } where
    i : ℕ → ℕ
    i k = k + 1 + (rules.in_expression x.0).size + 1
  expression_layer (F.Call x types xs) = record {
    same = λ k h.
        both_same (occurring ((rules.in_expression x.0).from k)) (in_each (items_at (item_spans defs slots terms number xs) (i k))) (order.found x.0).free (order.all (item_founds defs slots terms number xs)).free (x.1.same k h.0) (items_same defs slots terms number xs (i k) h.1);
    numbered = λ s k.
        numbered_two k k (k + (rules.in_expression x.0).size) (i k) (i k + listed_size (item_spans defs slots terms number xs)) (k + ((rules.in_expression x.0).size + arguments_size (type_arguments types) + 2 + listed_size (item_spans defs slots terms number xs))) (gathered.in_expression s ((rules.in_expression x.0).from k)) (gathered.in_each s (items_at (item_spans defs slots terms number xs) (i k)))
        (omega arith) (omega arith) (omega arith) (x.1.numbered s k) (items_numbered defs slots terms number s xs (i k));
    named = λ m e s k. absurd (no_some m e);
    fine = λ s k scope b f l v.
        let d = (names.in_expression x.0).finds scope in let u = each_within (option_map (map TN.in_type) types) scope in let g = names.each_whole (item_wholes defs slots terms number xs) scope in
        let inner = last_written (angles (option_map (map type_tokens) types)) (parens (commas (item_writings defs slots terms number xs))) (last_written (grammar.expression_tokens x.0) (angles (option_map (map type_tokens) types) ++ parens (commas (item_writings defs slots terms number xs))) v) in (
          x.1.fine s k scope b (first_fine d (u ++ g) f) (each_first IsListFine (order.found x.0).lists (order.all (item_founds defs slots terms number xs)).lists l) (first_written (grammar.expression_tokens x.0) (angles (option_map (map type_tokens) types) ++ parens (commas (item_writings defs slots terms number xs))) v),
          items_fine defs slots terms number s xs (i k) scope (below_more k (i k) s.parameters (omega arith) b) (last_fine u g (last_fine d (u ++ g) f)) (each_last IsListFine (order.found x.0).lists (order.all (item_founds defs slots terms number xs)).lists l)
              (parts_written (t.Mark m.Comma) (item_writings defs slots terms number xs) (first_written (commas (item_writings defs slots terms number xs)) (t.Mark m.ParenClose ∷ []) inner.1)),
        );
  } where
    i : ℕ → ℕ
    i k = k + (rules.in_expression x.0).size + arguments_size (type_arguments types) + 1
  expression_layer (F.Array mutable xs) = record {
    same = λ k h. items_same defs slots terms number xs (k + 1 + flag mutable) h;
    numbered = λ s k. wide (k + 1 + flag mutable) (k + 1 + flag mutable + listed_size (item_spans defs slots terms number xs)) k (k + (2 + flag mutable + listed_size (item_spans defs slots terms number xs))) (gathered.in_each s (items_at (item_spans defs slots terms number xs) (k + 1 + flag mutable))) (omega arith) (omega arith)
        (items_numbered defs slots terms number s xs (k + 1 + flag mutable));
    named = λ m e s k. absurd (no_some m e);
    fine = λ s k scope b f l v.
        let c = marked mutable (t.Reserved w.Var) in let d = commas (item_writings defs slots terms number xs) in
        items_fine defs slots terms number s xs (k + 1 + flag mutable) scope (below_more k (k + 1 + flag mutable) s.parameters (omega arith) b) f l
        (parts_written (t.Mark m.Comma) (item_writings defs slots terms number xs) (last_written c d (first_written (c ++ d) (t.Mark m.BracketClose ∷ []) v.1)));
  }
  expression_layer (F.Object fs last) = record {
    same = λ k h. fields_same defs slots terms number fs (k + 1) h;
    numbered = λ s k. wide (k + 1) (k + 1 + listed_size (field_spans defs slots terms number fs)) k (k + braces_size (field_spans defs slots terms number fs) last) (gathered.in_fields s (object_fields (listed_from (field_spans defs slots terms number fs) (k + 1)))) (omega arith) (omega arith) (fields_numbered defs slots terms number s fs (k + 1));
    named = λ m e s k. absurd (no_some m e);
    fine = λ s k scope b f l v.
        let c = flat_map (λ e. e.finds scope) (field_entries defs slots terms number fs) in let d = labels (map (λ e. e.name) (field_entries defs slots terms number fs)) in (
          fields_fine defs slots terms number s fs (k + 1) scope (below_more k (k + 1) s.parameters (omega arith) b) (first_fine c d f) l (braced (field_writings defs slots terms number fs) last v),
          subst (λ z. Distinct (map label_id z)) (sym (fields_labels defs slots terms number fs (k + 1))) (numbers_differ (map (λ e. e.name) (field_entries defs slots terms number fs)) (last_fine c d f)),
        );
  }
  expression_layer (F.Parenthesized []) = record {
    same = λ k h. refl;
    numbered = λ s k. none_numbered k (k + (2 + 0)) (omega arith);
    named = λ m e s k. absurd (no_some m e);
    fine = λ s k scope b f l v. tt;
  }
  expression_layer (F.Parenthesized (x ∷ [])) = record {
    same = λ k h. x.1.same (k + 1) h ∙ sym (texts_both (order.found x.0).free [] ∙ append-nil (texts (order.found x.0).free));
    numbered = λ s k. wide (k + 1) (k + 1 + (rules.in_expression x.0).size) k (k + (2 + (rules.in_expression x.0).size)) (gathered.in_expression s ((rules.in_expression x.0).from (k + 1))) (omega arith) (omega arith) (x.1.numbered s (k + 1));
    named = λ m e s k. absurd (no_some m e);
    fine = λ s k scope b f l v.
        x.1.fine s (k + 1) scope (below_more k (k + 1) s.parameters (omega arith) b) (first_fine ((names.in_expression x.0).finds scope) [] f) (each_first IsListFine (order.found x.0).lists [] l)
        (parts_written (t.Mark m.Comma) ((grammar.expression_tokens x.0) ∷ []) (first_written (commas ((grammar.expression_tokens x.0) ∷ [])) (t.Mark m.ParenClose ∷ []) v.1)).0;
  }
  expression_layer (F.Parenthesized (x ∷ y ∷ xs)) = record {
    same = λ k h. items_same defs slots terms number (x ∷ y ∷ xs) (k + 1) h;
    numbered = λ s k. wide (k + 1) (k + 1 + listed_size (item_spans defs slots terms number (x ∷ y ∷ xs))) k (k + (2 + listed_size (item_spans defs slots terms number (x ∷ y ∷ xs)))) (gathered.in_each s (items_at (item_spans defs slots terms number (x ∷ y ∷ xs)) (k + 1))) (omega arith) (omega arith)
        (items_numbered defs slots terms number s (x ∷ y ∷ xs) (k + 1));
    named = λ m e s k. absurd (no_some m e);
    fine = λ s k scope b f l v.
        items_fine defs slots terms number s (x ∷ y ∷ xs) (k + 1) scope (below_more k (k + 1) s.parameters (omega arith) b) f l
        (parts_written (t.Mark m.Comma) (item_writings defs slots terms number (x ∷ y ∷ xs)) (first_written (commas (item_writings defs slots terms number (x ∷ y ∷ xs))) (t.Mark m.ParenClose ∷ []) v.1));
  }
  expression_layer (F.Block ds last) = record {
    same = λ k h. block_same defs slots terms number ds (k + 1) h;
    numbered = λ s k. wide (k + 1) (k + 1 + listed_size (block_spans defs slots terms number ds)) k (k + braces_size (block_spans defs slots terms number ds) last) (gathered.in_list (with_list s (block_at defs slots terms number ds (k + 1))) (block_at defs slots terms number ds (k + 1))) (omega arith) (omega arith)
        (block_numbered defs slots terms number (with_list s (block_at defs slots terms number ds (k + 1))) ds (k + 1));
    named = λ m e s k. absurd (no_some m e);
    fine = λ s k scope b f l v.
        let here = block_at defs slots terms number ds (k + 1) in
        let vs = together (names.values_of (block_names defs slots terms number ds)) in let us = together (names.types_of (block_names defs slots terms number ds)) in
        let inner = names.block_scope (block_names defs slots terms number ds) scope in
        let heads = first_fine (vs ++ us) (names.each_declared (block_names defs slots terms number ds) inner) f in
        let each = block_each defs slots terms number (with_list s here) ds (k + 1) inner (below_list (k + 1) s here (below_more k (k + 1) s.parameters (omega arith) b)) (last_fine (vs ++ us) (names.each_declared (block_names defs slots terms number ds) inner) f) l.1
        (braced (block_writings defs slots terms number ds) last v) in
        (each, block_in_order defs slots terms number true s ds (k + 1) (first_fine vs us heads) l.0 each);
  }
  expression_layer (F.ObjectBlock ms last) = record {
    same = λ k h. member_same defs slots terms number ms (k + 2) h;
    numbered = λ s k. wide (k + 2) (k + 2 + listed_size (member_spans defs slots terms number ms)) k (k + (1 + braces_size (member_spans defs slots terms number ms) last)) (gathered.in_list (with_list s (member_at defs slots terms number ms (k + 2))) (member_at defs slots terms number ms (k + 2))) (omega arith) (omega arith)
        (member_numbered defs slots terms number (with_list s (member_at defs slots terms number ms (k + 2))) ms (k + 2));
    named = λ m e s k. absurd (no_some m e);
    fine = λ s k scope b f l v. object_fine defs slots terms number s ms (k + 2) scope (below_more k (k + 2) s.parameters (omega arith) b) f l (braced (member_writings defs slots terms number ms) last v.1);
  }
  expression_layer (F.Function qs u equal_sign x) = record {
    same = λ k h.
        hidden_same (order.parameter_values qs) (names_in_each ((abstract_patterns.in_parameters qs).from (k + 1 + 0))) (order.found x.0).free (occurring ((rules.in_expression x.0).from (i k))) ((parameter_facts qs).same (k + 1 + 0) h.0) (x.1.same (i k) h.1);
    numbered = λ s k. numbered_on k k (k + (1 + (signature_span None qs u equal_sign).size + (rules.in_expression x.0).size)) gathered.nothing (gathered.in_expression (within s ((signature_span None qs u equal_sign).from (k + 1))) ((rules.in_expression x.0).from (i k))) (none_numbered k k (omega arith))
        (wide (i k) (i k + (rules.in_expression x.0).size) k (k + (1 + (signature_span None qs u equal_sign).size + (rules.in_expression x.0).size)) (gathered.in_expression (within s ((signature_span None qs u equal_sign).from (k + 1))) ((rules.in_expression x.0).from (i k))) (omega arith) (omega arith) (x.1.numbered (within s ((signature_span None qs u equal_sign).from (k + 1))) (i k)));
    named = λ m e s k. absurd (no_some m e);
    fine = λ s k scope b f l v.
        let outer = names.header_scope None scope in let inner = names.body_scope None qs scope in
        let c = names.header None qs u outer in let d = (names.in_expression x.0).finds inner in
        let g = whole (in_parameters qs) outer in
        let head = first_fine g (names.annotation u outer) (first_fine c d f) in
        let z = signature (parameters_tokens qs) (option_map type_tokens u) equal_sign in
        let written = first_written (parameters_tokens qs) (annotation (option_map type_tokens u) ++ marked equal_sign (t.Mark m.EqualSign)) (first_written z (grammar.expression_tokens x.0) v.1) in (
          refl,
          parameters_fine qs (k + 1 + 0) outer head written,
          x.1.fine s (i k) inner (below_more k (i k) s.parameters (omega arith) b) (last_fine c d f) l (last_written z (grammar.expression_tokens x.0) v.1),
        );
  } where
    i : ℕ → ℕ
    i k = k + 1 + (signature_span None qs u equal_sign).size
