-- The expressions that begin with a word are read exactly.
use Rattle.std.proofs.Common.{◌≡◌, ℕ, suc, ◌<◌, Bool, true, false, List, [], ◌∷◌, ◌++◌, length, map, option_map, Option, Some, None, refl, sym, ap, ◌∙◌}
use Rattle.std.specs.Prelude.{◌≢◌}
use Rattle.mo_syntax.specs.declared.name.Name.{Name}
use Rattle.mo_syntax.specs.declared.token.TokenKind.{TokenKind}
use Rattle.mo_syntax.specs.declared.token.TokenKind.TheVariants as t
use Rattle.mo_syntax.specs.declared.word.Word.{Word}
use Rattle.mo_syntax.specs.declared.word.Word.TheVariants as w
use Rattle.mo_syntax.specs.declared.mark.Mark.TheVariants as m
use Rattle.mo_syntax.specs.declared.types.TypeExpression.{TypeExpression}
use Rattle.mo_syntax.specs.declared.patterns.Pattern.{Pattern}
use Rattle.mo_syntax.specs.declared.patterns.Parameters.{Parameters}
use Rattle.mo_syntax.specs.declared.declarations.Declaration.{Declaration}
use Rattle.mo_syntax.specs.declared.declarations.DeclarationField.{DeclarationField}
use Rattle.mo_syntax.specs.declared.expressions.Expression.{Expression}
use Rattle.mo_syntax.specs.declared.expressions.Expression.TheVariants as e
use Rattle.mo_syntax.specs.declared.expressions.Case.{Case}
use Rattle.mo_syntax.specs.Writing as W
use Rattle.mo_syntax.specs.Writing.{literal_token}
use Rattle.mo_syntax.specs.Parts.{Within, Listed, MayEnd}
use Rattle.mo_syntax.specs.TypeGrammar.{type_tokens, IsType}
use Rattle.mo_syntax.specs.PatternGrammar.{pattern_tokens, IsPattern}
use Rattle.mo_syntax.specs.ExpressionGrammar.{first, behind_last, expression_tokens, declaration_field_tokens, case_tokens, IsExpression, IsDeclarationField, IsCase}
use Rattle.mo_syntax.proofs.ExpressionEquations as eq
use Rattle.mo_parser_base.specs.declared.look.Look.TheVariants as l
use Rattle.mo_parser_base.specs.Input.{Input, Parser, ◌&◌, ◌▸◌, look_of, same_mark, eat, expect, behind, identifier, semicolon, brace, semicolons}
use Rattle.mo_parser_base.proofs.Exact.{Took, Exact, Any, both, led_by, ended_by, flag, a_name, fewer, ahead, ahead_not, not_first}
use Rattle.mo_parser_base.proofs.Made.{made_behind, makes_behind, ends_by}
use Rattle.mo_parser_types.specs.Types.{annotation}
use Rattle.mo_parser_types.specs.Ends.{EndsType}
use Rattle.mo_parser_types.proofs.Whole.{annotation_exact}
use Rattle.mo_parser_expressions.specs.Expressions as p
use Rattle.mo_parser_expressions.specs.Signs as s
use Rattle.mo_parser_exact.specs.Ends.{EndsExpression}
use Rattle.mo_parser_exact.proofs.Levels.{Next, rule_in2, rule_out2}
use Rattle.mo_parser_patterns.specs.Patterns.{a_case_pattern}
use Rattle.mo_parser_patterns.proofs.Whole.{a_pattern_exact, a_case_pattern_exact}
use Rattle.mo_parser_exact.proofs.StepsMore.{Tight, behind_tight}
use Rattle.mo_parser_exact.proofs.Operands.{At, Inner, ends_paren, ends_else, ends_while, ends_catch}
use Rattle.mo_parser_exact.proofs.Blocks.{Nested, Condition, block_exact, nested_same, nested_exact, condition_exact}
use Rattle.mo_parser_exact.proofs.Bodies.{SignedAt, Standing, begins_same, optional_exact, signed_exact}
use Rattle.mo_parser_exact.proofs.Members.{members_exact, cases_exact}

-- ---- what the rules say, and what is read

if_good : (z : Expression × (Expression × Option Expression)) (n : Next) → Condition z.0 n × (Nested z.1.0 (ahead (W.led (t.Reserved w.Else) (option_map expression_tokens z.1.1)) n) × Tight (t.Reserved w.Else) Nested z.1.1 n) → IsExpression (e.If z.0 z.1.0 z.1.1) 0 n
if_good (c, (a, None)) n g = rule_in2 (eq.rule_If c a None) 0 n (refl, g.0, g.1.0, g.1.1)
if_good (c, (a, Some o)) n g = rule_in2 (eq.rule_If c a (Some o)) 0 n (refl, g.0, g.1.0, g.1.1)

if_fact : (z : Expression × (Expression × Option Expression)) (n : Next) → IsExpression (e.If z.0 z.1.0 z.1.1) 0 n → Condition z.0 n × (Nested z.1.0 (ahead (W.led (t.Reserved w.Else) (option_map expression_tokens z.1.1)) n) × Tight (t.Reserved w.Else) Nested z.1.1 n)
if_fact (c, (a, None)) n g = let u = rule_out2 (eq.rule_If c a None) 0 n g in (u.1, (u.2, u.3))
if_fact (c, (a, Some o)) n g = let u = rule_out2 (eq.rule_If c a (Some o)) 0 n g in (u.1, (u.2, u.3))

loop_good : (z : Expression × Option Expression) (n : Next) → Nested z.0 (ahead (W.led (t.Reserved w.While) (option_map expression_tokens z.1)) n) × Tight (t.Reserved w.While) Condition z.1 n → IsExpression (e.Loop z.0 z.1) 0 n
loop_good (a, None) n g = rule_in2 (eq.rule_Loop a None) 0 n (refl, g.0, g.1)
loop_good (a, Some o) n g = rule_in2 (eq.rule_Loop a (Some o)) 0 n (refl, g.0, g.1)

loop_fact : (z : Expression × Option Expression) (n : Next) → IsExpression (e.Loop z.0 z.1) 0 n → Nested z.0 (ahead (W.led (t.Reserved w.While) (option_map expression_tokens z.1)) n) × Tight (t.Reserved w.While) Condition z.1 n
loop_fact (a, None) n g = let u = rule_out2 (eq.rule_Loop a None) 0 n g in (u.1, u.2)
loop_fact (a, Some o) n g = let u = rule_out2 (eq.rule_Loop a (Some o)) 0 n g in (u.1, u.2)

break_good : (z : Name × Option Expression) (n : Next) → Standing z.1 n → IsExpression (e.Break z.0 z.1) 0 n
break_good (x, None) n g = rule_in2 (eq.rule_Break x None) 0 n (refl, begins_same n ∙ g)
break_good (x, Some a) n g = rule_in2 (eq.rule_Break x (Some a)) 0 n (refl, g)

break_fact : (z : Name × Option Expression) (n : Next) → IsExpression (e.Break z.0 z.1) 0 n → Standing z.1 n
break_fact (x, None) n g = sym (begins_same n) ∙ (rule_out2 (eq.rule_Break x None) 0 n g).1
break_fact (x, Some a) n g = (rule_out2 (eq.rule_Break x (Some a)) 0 n g).1

return_good : (z : Option Expression) (n : Next) → Standing z n → IsExpression (e.Return z) 0 n
return_good None n g = rule_in2 (eq.rule_Return None) 0 n (refl, begins_same n ∙ g)
return_good (Some a) n g = rule_in2 (eq.rule_Return (Some a)) 0 n (refl, g)

return_fact : (z : Option Expression) (n : Next) → IsExpression (e.Return z) 0 n → Standing z n
return_fact None n g = sym (begins_same n) ∙ (rule_out2 (eq.rule_Return None) 0 n g).1
return_fact (Some a) n g = (rule_out2 (eq.rule_Return (Some a)) 0 n g).1

do_text : (z : Bool × Expression) → expression_tokens (p.to_optional z.0 z.1) ≡ t.Reserved w.Do ∷ (W.marked z.0 (t.Mark m.Question) ++ expression_tokens z.1)
do_text (true, a) = eq.tokens_DoOptional a
do_text (false, a) = eq.tokens_Do a

do_good : (z : Bool × Expression) (n : Next) → IsExpression z.1 11 n → IsExpression (p.to_optional z.0 z.1) 0 n
do_good (true, a) n g = rule_in2 (eq.rule_DoOptional a) 0 n (refl, g)
do_good (false, a) n g = rule_in2 (eq.rule_Do a) 0 n (refl, g)

function_good : (z : p.Signature × Expression) (n : Next) → SignedAt z n → IsExpression (p.to_function z) 0 n
function_good ((ps, (kind, true)), a) n g = rule_in2 (eq.rule_Function ps kind true a) 0 n (refl, g.0.0, g.0.1, g.1)
function_good ((ps, (kind, false)), a) n g = rule_in2 (eq.rule_Function ps kind false a) 0 n (refl, g.0.0, g.0.1, g.1)

function_fact : (z : p.Signature × Expression) (n : Next) → IsExpression (p.to_function z) 0 n → SignedAt z n
function_fact ((ps, (kind, true)), a) n g = let u = rule_out2 (eq.rule_Function ps kind true a) 0 n g in ((u.1, u.2), u.3)
function_fact ((ps, (kind, false)), a) n g = let u = rule_out2 (eq.rule_Function ps kind false a) 0 n g in ((u.1, u.2), u.3)

module _ (b : ℕ) (P : ℕ → Parser Expression) (D : Parser Declaration) (h : Inner b P D)
    (no_public : (j : Input) → D (t.Reserved w.Public ∷ j) ≡ None) (no_private : (j : Input) → D (t.Reserved w.Private ∷ j) ≡ None) where
  else_stops : (y : Option Expression) (r : Input) → length (W.led (t.Reserved w.Else) (option_map expression_tokens y)) < b → Tight (t.Reserved w.Else) Nested y (first r) → EndsExpression (first r) →
      EndsExpression (ahead (W.led (t.Reserved w.Else) (option_map expression_tokens y)) (first r))
  else_stops None r short good stops = stops
  else_stops (Some y) r short good stops = ends_else

  while_stops : (y : Option Expression) (r : Input) → length (W.led (t.Reserved w.While) (option_map expression_tokens y)) < b → Tight (t.Reserved w.While) Condition y (first r) → EndsExpression (first r) →
      EndsExpression (ahead (W.led (t.Reserved w.While) (option_map expression_tokens y)) (first r))
  while_stops None r short good stops = stops
  while_stops (Some y) r short good stops = ends_while

  -- a nested expression begins with no token that no expression begins with
  nested_refuses : (tok : TokenKind) → s.begins (look_of tok) ≡ false → look_of tok ≢ l.Mark m.BraceOpen → (j : Input) → p.nested P D (tok ∷ j) ≡ None
  unfolding p.nested
  nested_refuses tok never differs j = ap (λ q. q (tok ∷ j)) (nested_same b P D h (look_of tok) differs) ∙ h.must_begin (tok ∷ j) never

  nested_not : (tok : TokenKind) → s.begins (look_of tok) ≡ false → look_of tok ≢ l.Mark m.BraceOpen → (y : Expression) (r : Input) → length (expression_tokens y) < b → Nested y (first r) → EndsExpression (first r) →
      ahead (expression_tokens y) (first r) ≢ Some tok
  nested_not tok never differs y r short good stops = ahead_not (expression_tokens y) r tok
      (not_first (p.nested P D) tok y (expression_tokens y ++ r) r (nested_refuses tok never differs) ((nested_exact b P D h).complete y r short good stops))

  nested_stops : (y : Expression) (r : Input) → length (expression_tokens y) < b → Nested y (first r) → EndsExpression (first r) →
      (ahead (expression_tokens y) (first r) ≢ Some (t.Mark m.Colon)) × EndsType (ahead (expression_tokens y) (first r))
  nested_stops y r short good stops = (
    nested_not (t.Mark m.Colon) refl (λ u. cc) y r short good stops,
    (nested_not (t.Mark m.AngleOpen) refl (λ u. cc) y r short good stops, nested_not (t.Mark m.Arrow) refl (λ u. cc) y r short good stops),
  )

  no_question : (j : Input) → p.block P D (t.Mark m.Question ∷ j) ≡ None
  unfolding p.block expect same_mark
  no_question j = refl

  block_stops : (y : Expression) (r : Input) → length (expression_tokens y) < b → IsExpression y 11 (first r) → Any (first r) → ahead (expression_tokens y) (first r) ≢ Some (t.Mark m.Question)
  block_stops y r short good stops = ahead_not (expression_tokens y) r (t.Mark m.Question)
      (not_first (p.block P D) (t.Mark m.Question) y (expression_tokens y ++ r) r no_question ((block_exact b P D h).complete y r short good tt))

  binding_exact : Exact b (p.binding P D) (λ z. t.Mark m.ParenOpen ∷ ((pattern_tokens z.0 ++ t.Reserved w.In ∷ expression_tokens z.1) ++ t.Mark m.ParenClose ∷ []))
      (λ z n. IsPattern z.0 0 × IsExpression z.1 0 (Some (t.Mark m.ParenClose))) Any
  unfolding p.binding
  binding_exact = fewer (led_by (t.Mark m.ParenOpen) tt (ended_by (t.Mark m.ParenClose) tt
      (both (a_pattern_exact b) (fewer (led_by (t.Reserved w.In) tt h.whole)) (λ y r short good stops. ((refl, λ u. cc), (λ u. cc, (λ u. cc, λ u. cc))))) ends_paren))

  if_parts : Exact b (p.condition P D & (p.nested P D & behind (t.Reserved w.Else) (p.nested P D))) (λ z. expression_tokens z.0 ++ (expression_tokens z.1.0 ++ W.led (t.Reserved w.Else) (option_map expression_tokens z.1.1))) (λ z n. Condition z.0 n × (Nested z.1.0 (ahead (W.led (t.Reserved w.Else) (option_map expression_tokens z.1.1)) n) × Tight (t.Reserved w.Else) Nested z.1.1 n)) (EndsExpression)
  if_parts = both (condition_exact b P D h) (both (nested_exact b P D h) (fewer (behind_tight (t.Reserved w.Else) tt (nested_exact b P D h))) else_stops) (λ y r short good stops. tt)

  switch_parts : Exact b (p.condition P D & (t.Mark m.BraceOpen ▸ semicolons (p.one_case P D))) (λ z. expression_tokens z.0 ++ t.Mark m.BraceOpen ∷ (W.semicolons (map case_tokens z.1.0) z.1.1 ++ brace ∷ [])) (λ z n. Condition z.0 n × (Listed (λ x k. IsCase x (Some k)) semicolon (behind_last z.1.1) z.1.0 × MayEnd z.1.0 z.1.1)) (Any)
  switch_parts = both (condition_exact b P D h) (fewer (led_by (t.Mark m.BraceOpen) tt (cases_exact b P D h no_public no_private))) (λ y r short good stops. tt)

  while_parts : Exact b (p.condition P D & p.nested P D) (λ z. expression_tokens z.0 ++ expression_tokens z.1) (λ z n. Condition z.0 n × Nested z.1 n) (EndsExpression)
  while_parts = both (condition_exact b P D h) (nested_exact b P D h) (λ y r short good stops. tt)

  loop_parts : Exact b (p.nested P D & behind (t.Reserved w.While) (p.condition P D)) (λ z. expression_tokens z.0 ++ W.led (t.Reserved w.While) (option_map expression_tokens z.1)) (λ z n. Nested z.0 (ahead (W.led (t.Reserved w.While) (option_map expression_tokens z.1)) n) × Tight (t.Reserved w.While) Condition z.1 n) (EndsExpression)
  loop_parts = both (nested_exact b P D h) (ends_by (fewer (behind_tight (t.Reserved w.While) tt (condition_exact b P D h))) (λ n stops. tt)) while_stops

  for_parts : Exact b (p.binding P D & p.nested P D) (λ z. (t.Mark m.ParenOpen ∷ ((pattern_tokens z.0.0 ++ t.Reserved w.In ∷ expression_tokens z.0.1) ++ t.Mark m.ParenClose ∷ [])) ++ expression_tokens z.1) (λ z n. (IsPattern z.0.0 0 × IsExpression z.0.1 0 (Some (t.Mark m.ParenClose))) × Nested z.1 n) (EndsExpression)
  for_parts = both binding_exact (nested_exact b P D h) (λ y r short good stops. tt)

  label_parts : Exact b (identifier & (annotation & p.nested P D)) (λ z. (t.Identifier z.0 ∷ []) ++ (W.annotation (option_map type_tokens z.1.0) ++ expression_tokens z.1.1)) (λ z n. Unit {0} × (Within (λ y. IsType y 0) z.1.0 × Nested z.1.1 n)) (EndsExpression)
  label_parts = both (a_name b) (both (annotation_exact b) (nested_exact b P D h) nested_stops) (λ y r short good stops. tt)

  break_parts : Exact b (identifier & p.optional P D) (λ z. (t.Identifier z.0 ∷ []) ++ W.optional (option_map expression_tokens z.1)) (λ z n. Unit {0} × Standing z.1 n) (EndsExpression)
  break_parts = both (a_name b) (optional_exact b P D h) (λ y r short good stops. tt)

  do_parts : Exact b (eat (t.Mark m.Question) & p.block P D) (λ z. W.marked z.0 (t.Mark m.Question) ++ expression_tokens z.1) (λ z n. Unit {0} × IsExpression z.1 11 n) (Any)
  do_parts = both (flag b (t.Mark m.Question) tt) (block_exact b P D h) block_stops

  try_parts : Exact b (p.nested P D & (t.Reserved w.Catch ▸ (a_case_pattern & p.nested P D))) (λ z. expression_tokens z.0 ++ t.Reserved w.Catch ∷ (pattern_tokens z.1.0 ++ expression_tokens z.1.1)) (λ z n. Nested z.0 (Some (t.Reserved w.Catch)) × (IsPattern z.1.0 3 × Nested z.1.1 n)) (EndsExpression)
  try_parts = both (nested_exact b P D h) (fewer (led_by (t.Reserved w.Catch) tt (both (a_case_pattern_exact b) (nested_exact b P D h) (λ y r short good stops. tt)))) (λ y r short good stops. ends_catch)

  object_parts : Exact b (t.Mark m.BraceOpen ▸ p.members P D) (λ z. t.Mark m.BraceOpen ∷ (W.semicolons (map declaration_field_tokens z.0) z.1 ++ brace ∷ [])) (λ z n. Listed (λ x k. IsDeclarationField x (Some k)) semicolon (behind_last z.1) z.0 × MayEnd z.0 z.1) (Any)
  object_parts = fewer (led_by (t.Mark m.BraceOpen) tt (members_exact b P D h no_public no_private))

  pub control_ok : (word : Word) (i j : Input) (y : Expression) (r : Input) → i ≡ t.Reserved word ∷ j → p.control P D word j ≡ Some (y, r) → Took expression_tokens (At 0) y i r
  unfolding p.if_rule p.switch_rule p.while_rule p.loop_rule p.for_rule p.label_rule p.break_rule p.do_rule
  control_ok w.If i j y r is h0 = made_behind (t.Reserved w.If) if_parts (λ z. e.If z.0 z.1.0 z.1.1) expression_tokens (At 0) (λ z. eq.tokens_If z.0 z.1.0 z.1.1) (λ z n good. if_good z n good) i j is y r h0
  control_ok w.Switch i j y r is h0 = made_behind (t.Reserved w.Switch) switch_parts (λ z. e.Switch z.0 z.1.0 z.1.1) expression_tokens (At 0) (λ z. eq.tokens_Switch z.0 z.1.0 z.1.1) (λ z n good. rule_in2 (eq.rule_Switch z.0 z.1.0 z.1.1) 0 n (refl, good.0, good.1)) i j is y r h0
  control_ok w.While i j y r is h0 = made_behind (t.Reserved w.While) while_parts (λ z. e.While z.0 z.1) expression_tokens (At 0) (λ z. eq.tokens_While z.0 z.1) (λ z n good. rule_in2 (eq.rule_While z.0 z.1) 0 n (refl, good.0, good.1)) i j is y r h0
  control_ok w.Loop i j y r is h0 = made_behind (t.Reserved w.Loop) loop_parts (λ z. e.Loop z.0 z.1) expression_tokens (At 0) (λ z. eq.tokens_Loop z.0 z.1) (λ z n good. loop_good z n good) i j is y r h0
  control_ok w.For i j y r is h0 = made_behind (t.Reserved w.For) for_parts (λ z. e.For z.0.0 z.0.1 z.1) expression_tokens (At 0) (λ z. eq.tokens_For z.0.0 z.0.1 z.1) (λ z n good. rule_in2 (eq.rule_For z.0.0 z.0.1 z.1) 0 n (refl, good.0.0, good.0.1, good.1)) i j is y r h0
  control_ok w.Label i j y r is h0 = made_behind (t.Reserved w.Label) label_parts (λ z. e.Label z.0 z.1.0 z.1.1) expression_tokens (At 0) (λ z. eq.tokens_Label z.0 z.1.0 z.1.1) (λ z n good. rule_in2 (eq.rule_Label z.0 z.1.0 z.1.1) 0 n (refl, good.1.0, good.1.1)) i j is y r h0
  control_ok w.Break i j y r is h0 = made_behind (t.Reserved w.Break) break_parts (λ z. e.Break z.0 z.1) expression_tokens (At 0) (λ z. eq.tokens_Break z.0 z.1) (λ z n good. break_good z n good.1) i j is y r h0
  control_ok w.Continue i j y r is h0 = made_behind (t.Reserved w.Continue) (a_name b) e.Continue expression_tokens (At 0) eq.tokens_Continue (λ z n good. rule_in2 (eq.rule_Continue z) 0 n refl) i j is y r h0
  control_ok w.Return i j y r is h0 = made_behind (t.Reserved w.Return) (optional_exact b P D h) e.Return expression_tokens (At 0) eq.tokens_Return (λ z n good. return_good z n good) i j is y r h0
  control_ok w.Do i j y r is h0 = made_behind (t.Reserved w.Do) do_parts (λ z. p.to_optional z.0 z.1) expression_tokens (At 0) do_text (λ z n good. do_good z n good.1) i j is y r h0
  control_ok _ i j y r is h0 = absurd (cc)

  pub effect_ok : (word : Word) (i j : Input) (y : Expression) (r : Input) → i ≡ t.Reserved word ∷ j → p.effect P D word j ≡ Some (y, r) → Took expression_tokens (At 0) y i r
  unfolding p.try_rule p.function_rule p.object_rule
  effect_ok w.Await i j y r is h0 = made_behind (t.Reserved w.Await) (nested_exact b P D h) e.Await expression_tokens (At 0) eq.tokens_Await (λ z n good. rule_in2 (eq.rule_Await z) 0 n (refl, good)) i j is y r h0
  effect_ok w.Throw i j y r is h0 = made_behind (t.Reserved w.Throw) (nested_exact b P D h) e.Throw expression_tokens (At 0) eq.tokens_Throw (λ z n good. rule_in2 (eq.rule_Throw z) 0 n (refl, good)) i j is y r h0
  effect_ok w.Try i j y r is h0 = made_behind (t.Reserved w.Try) try_parts (λ z. e.Try z.0 z.1.0 z.1.1) expression_tokens (At 0) (λ z. eq.tokens_Try z.0 z.1.0 z.1.1) (λ z n good. rule_in2 (eq.rule_Try z.0 z.1.0 z.1.1) 0 n (refl, good.0, good.1.0, good.1.1)) i j is y r h0
  effect_ok w.Assert i j y r is h0 = made_behind (t.Reserved w.Assert) (nested_exact b P D h) e.Assert expression_tokens (At 0) eq.tokens_Assert (λ z n good. rule_in2 (eq.rule_Assert z) 0 n (refl, good)) i j is y r h0
  effect_ok w.Ignore i j y r is h0 = made_behind (t.Reserved w.Ignore) (nested_exact b P D h) e.Ignore expression_tokens (At 0) eq.tokens_Ignore (λ z n good. rule_in2 (eq.rule_Ignore z) 0 n (refl, good)) i j is y r h0
  effect_ok w.Debug i j y r is h0 = made_behind (t.Reserved w.Debug) (nested_exact b P D h) e.Debug expression_tokens (At 0) eq.tokens_Debug (λ z n good. rule_in2 (eq.rule_Debug z) 0 n (refl, good)) i j is y r h0
  effect_ok w.Func i j y r is h0 = made_behind (t.Reserved w.Func) (signed_exact b P D h) p.to_function expression_tokens (At 0) (λ z. eq.tokens_Function z.0.0 z.0.1.0 z.0.1.1 z.1) (λ z n good. function_good z n good) i j is y r h0
  effect_ok w.Object i j y r is h0 = made_behind (t.Reserved w.Object) object_parts (λ z. e.ObjectBlock z.0 z.1) expression_tokens (At 0) (λ z. eq.tokens_ObjectBlock z.0 z.1) (λ z n good. rule_in2 (eq.rule_ObjectBlock z.0 z.1) 0 n (refl, good)) i j is y r h0
  effect_ok _ i j y r is h0 = absurd (cc)

  pub read_If : (c : Expression) (a : Expression) (o : Option Expression) (r : Input) → length (expression_tokens (e.If c a o)) < suc b → IsExpression (e.If c a o) 0 (first r) → EndsExpression (first r) → p.whole P D (expression_tokens (e.If c a o) ++ r) ≡ Some (e.If c a o, r)
  unfolding p.whole p.worded p.if_rule
  read_If c a o r short good ends =
      makes_behind (t.Reserved w.If) if_parts (λ z. e.If z.0 z.1.0 z.1.1) expression_tokens (c, (a, o)) (eq.tokens_If c a o) (p.whole P D) r refl short (if_fact (c, (a, o)) (first r) good) ends

  pub read_Switch : (c : Expression) (xs : List Case) (last : Bool) (r : Input) → length (expression_tokens (e.Switch c xs last)) < suc b → IsExpression (e.Switch c xs last) 0 (first r) → EndsExpression (first r) → p.whole P D (expression_tokens (e.Switch c xs last) ++ r) ≡ Some (e.Switch c xs last, r)
  unfolding p.whole p.worded p.switch_rule
  read_Switch c xs last r short good ends =
      makes_behind (t.Reserved w.Switch) switch_parts (λ z. e.Switch z.0 z.1.0 z.1.1) expression_tokens (c, (xs, last)) (eq.tokens_Switch c xs last) (p.whole P D) r refl short (let u = rule_out2 (eq.rule_Switch c xs last) 0 (first r) good in (u.1, u.2)) tt

  pub read_While : (c : Expression) (a : Expression) (r : Input) → length (expression_tokens (e.While c a)) < suc b → IsExpression (e.While c a) 0 (first r) → EndsExpression (first r) → p.whole P D (expression_tokens (e.While c a) ++ r) ≡ Some (e.While c a, r)
  unfolding p.whole p.worded p.while_rule
  read_While c a r short good ends =
      makes_behind (t.Reserved w.While) while_parts (λ z. e.While z.0 z.1) expression_tokens (c, a) (eq.tokens_While c a) (p.whole P D) r refl short (let u = rule_out2 (eq.rule_While c a) 0 (first r) good in (u.1, u.2)) ends

  pub read_Loop : (a : Expression) (o : Option Expression) (r : Input) → length (expression_tokens (e.Loop a o)) < suc b → IsExpression (e.Loop a o) 0 (first r) → EndsExpression (first r) → p.whole P D (expression_tokens (e.Loop a o) ++ r) ≡ Some (e.Loop a o, r)
  unfolding p.whole p.worded p.loop_rule
  read_Loop a o r short good ends =
      makes_behind (t.Reserved w.Loop) loop_parts (λ z. e.Loop z.0 z.1) expression_tokens (a, o) (eq.tokens_Loop a o) (p.whole P D) r refl short (loop_fact (a, o) (first r) good) ends

  pub read_For : (q : Pattern) (a : Expression) (c : Expression) (r : Input) → length (expression_tokens (e.For q a c)) < suc b → IsExpression (e.For q a c) 0 (first r) → EndsExpression (first r) → p.whole P D (expression_tokens (e.For q a c) ++ r) ≡ Some (e.For q a c, r)
  unfolding p.whole p.worded p.for_rule
  read_For q a c r short good ends =
      makes_behind (t.Reserved w.For) for_parts (λ z. e.For z.0.0 z.0.1 z.1) expression_tokens ((q, a), c) (eq.tokens_For q a c) (p.whole P D) r refl short (let u = rule_out2 (eq.rule_For q a c) 0 (first r) good in ((u.1, u.2), u.3)) ends

  pub read_Label : (x : Name) (k : Option TypeExpression) (a : Expression) (r : Input) → length (expression_tokens (e.Label x k a)) < suc b → IsExpression (e.Label x k a) 0 (first r) → EndsExpression (first r) → p.whole P D (expression_tokens (e.Label x k a) ++ r) ≡ Some (e.Label x k a, r)
  unfolding p.whole p.worded p.label_rule
  read_Label x k a r short good ends =
      makes_behind (t.Reserved w.Label) label_parts (λ z. e.Label z.0 z.1.0 z.1.1) expression_tokens (x, (k, a)) (eq.tokens_Label x k a) (p.whole P D) r refl short (let u = rule_out2 (eq.rule_Label x k a) 0 (first r) good in (tt, (u.1, u.2))) ends

  pub read_Break : (x : Name) (o : Option Expression) (r : Input) → length (expression_tokens (e.Break x o)) < suc b → IsExpression (e.Break x o) 0 (first r) → EndsExpression (first r) → p.whole P D (expression_tokens (e.Break x o) ++ r) ≡ Some (e.Break x o, r)
  unfolding p.whole p.worded p.break_rule
  read_Break x o r short good ends =
      makes_behind (t.Reserved w.Break) break_parts (λ z. e.Break z.0 z.1) expression_tokens (x, o) (eq.tokens_Break x o) (p.whole P D) r refl short (tt, break_fact (x, o) (first r) good) ends

  pub read_Continue : (x : Name) (r : Input) → length (expression_tokens (e.Continue x)) < suc b → IsExpression (e.Continue x) 0 (first r) → EndsExpression (first r) → p.whole P D (expression_tokens (e.Continue x) ++ r) ≡ Some (e.Continue x, r)
  unfolding p.whole p.worded
  read_Continue x r short good ends =
      makes_behind (t.Reserved w.Continue) (a_name b) e.Continue expression_tokens x (eq.tokens_Continue x) (p.whole P D) r refl short tt tt

  pub read_Return : (o : Option Expression) (r : Input) → length (expression_tokens (e.Return o)) < suc b → IsExpression (e.Return o) 0 (first r) → EndsExpression (first r) → p.whole P D (expression_tokens (e.Return o) ++ r) ≡ Some (e.Return o, r)
  unfolding p.whole p.worded
  read_Return o r short good ends =
      makes_behind (t.Reserved w.Return) (optional_exact b P D h) e.Return expression_tokens o (eq.tokens_Return o) (p.whole P D) r refl short (return_fact o (first r) good) ends

  pub read_Do : (a : Expression) (r : Input) → length (expression_tokens (e.Do a)) < suc b → IsExpression (e.Do a) 0 (first r) → EndsExpression (first r) → p.whole P D (expression_tokens (e.Do a) ++ r) ≡ Some (e.Do a, r)
  unfolding p.whole p.worded p.do_rule
  read_Do a r short good ends =
      makes_behind (t.Reserved w.Do) do_parts (λ z. p.to_optional z.0 z.1) expression_tokens (false, a) (do_text (false, a)) (p.whole P D) r refl short (tt, (rule_out2 (eq.rule_Do a) 0 (first r) good).1) tt

  pub read_DoOptional : (a : Expression) (r : Input) → length (expression_tokens (e.DoOptional a)) < suc b → IsExpression (e.DoOptional a) 0 (first r) → EndsExpression (first r) → p.whole P D (expression_tokens (e.DoOptional a) ++ r) ≡ Some (e.DoOptional a, r)
  unfolding p.whole p.worded p.do_rule
  read_DoOptional a r short good ends =
      makes_behind (t.Reserved w.Do) do_parts (λ z. p.to_optional z.0 z.1) expression_tokens (true, a) (do_text (true, a)) (p.whole P D) r refl short (tt, (rule_out2 (eq.rule_DoOptional a) 0 (first r) good).1) tt

  pub read_Await : (a : Expression) (r : Input) → length (expression_tokens (e.Await a)) < suc b → IsExpression (e.Await a) 0 (first r) → EndsExpression (first r) → p.whole P D (expression_tokens (e.Await a) ++ r) ≡ Some (e.Await a, r)
  unfolding p.whole p.worded
  read_Await a r short good ends =
      makes_behind (t.Reserved w.Await) (nested_exact b P D h) e.Await expression_tokens a (eq.tokens_Await a) (p.whole P D) r refl short (rule_out2 (eq.rule_Await a) 0 (first r) good).1 ends

  pub read_Throw : (a : Expression) (r : Input) → length (expression_tokens (e.Throw a)) < suc b → IsExpression (e.Throw a) 0 (first r) → EndsExpression (first r) → p.whole P D (expression_tokens (e.Throw a) ++ r) ≡ Some (e.Throw a, r)
  unfolding p.whole p.worded
  read_Throw a r short good ends =
      makes_behind (t.Reserved w.Throw) (nested_exact b P D h) e.Throw expression_tokens a (eq.tokens_Throw a) (p.whole P D) r refl short (rule_out2 (eq.rule_Throw a) 0 (first r) good).1 ends

  pub read_Assert : (a : Expression) (r : Input) → length (expression_tokens (e.Assert a)) < suc b → IsExpression (e.Assert a) 0 (first r) → EndsExpression (first r) → p.whole P D (expression_tokens (e.Assert a) ++ r) ≡ Some (e.Assert a, r)
  unfolding p.whole p.worded
  read_Assert a r short good ends =
      makes_behind (t.Reserved w.Assert) (nested_exact b P D h) e.Assert expression_tokens a (eq.tokens_Assert a) (p.whole P D) r refl short (rule_out2 (eq.rule_Assert a) 0 (first r) good).1 ends

  pub read_Ignore : (a : Expression) (r : Input) → length (expression_tokens (e.Ignore a)) < suc b → IsExpression (e.Ignore a) 0 (first r) → EndsExpression (first r) → p.whole P D (expression_tokens (e.Ignore a) ++ r) ≡ Some (e.Ignore a, r)
  unfolding p.whole p.worded
  read_Ignore a r short good ends =
      makes_behind (t.Reserved w.Ignore) (nested_exact b P D h) e.Ignore expression_tokens a (eq.tokens_Ignore a) (p.whole P D) r refl short (rule_out2 (eq.rule_Ignore a) 0 (first r) good).1 ends

  pub read_Debug : (a : Expression) (r : Input) → length (expression_tokens (e.Debug a)) < suc b → IsExpression (e.Debug a) 0 (first r) → EndsExpression (first r) → p.whole P D (expression_tokens (e.Debug a) ++ r) ≡ Some (e.Debug a, r)
  unfolding p.whole p.worded
  read_Debug a r short good ends =
      makes_behind (t.Reserved w.Debug) (nested_exact b P D h) e.Debug expression_tokens a (eq.tokens_Debug a) (p.whole P D) r refl short (rule_out2 (eq.rule_Debug a) 0 (first r) good).1 ends

  pub read_Try : (a : Expression) (q : Pattern) (c : Expression) (r : Input) → length (expression_tokens (e.Try a q c)) < suc b → IsExpression (e.Try a q c) 0 (first r) → EndsExpression (first r) → p.whole P D (expression_tokens (e.Try a q c) ++ r) ≡ Some (e.Try a q c, r)
  unfolding p.whole p.worded p.try_rule
  read_Try a q c r short good ends =
      makes_behind (t.Reserved w.Try) try_parts (λ z. e.Try z.0 z.1.0 z.1.1) expression_tokens (a, (q, c)) (eq.tokens_Try a q c) (p.whole P D) r refl short (let u = rule_out2 (eq.rule_Try a q c) 0 (first r) good in (u.1, (u.2, u.3))) ends

  pub read_Function : (q : Parameters) (k : Option TypeExpression) (c : Bool) (a : Expression) (r : Input) → length (expression_tokens (e.Function q k c a)) < suc b → IsExpression (e.Function q k c a) 0 (first r) → EndsExpression (first r) → p.whole P D (expression_tokens (e.Function q k c a) ++ r) ≡ Some (e.Function q k c a, r)
  unfolding p.whole p.worded p.function_rule
  read_Function q k c a r short good ends =
      makes_behind (t.Reserved w.Func) (signed_exact b P D h) p.to_function expression_tokens ((q, (k, c)), a) (eq.tokens_Function q k c a) (p.whole P D) r refl short (function_fact ((q, (k, c)), a) (first r) good) ends

  pub read_ObjectBlock : (xs : List DeclarationField) (last : Bool) (r : Input) → length (expression_tokens (e.ObjectBlock xs last)) < suc b → IsExpression (e.ObjectBlock xs last) 0 (first r) → EndsExpression (first r) → p.whole P D (expression_tokens (e.ObjectBlock xs last) ++ r) ≡ Some (e.ObjectBlock xs last, r)
  unfolding p.whole p.worded p.object_rule
  read_ObjectBlock xs last r short good ends =
      makes_behind (t.Reserved w.Object) object_parts (λ z. e.ObjectBlock z.0 z.1) expression_tokens (xs, last) (eq.tokens_ObjectBlock xs last) (p.whole P D) r refl short (rule_out2 (eq.rule_ObjectBlock xs last) 0 (first r) good).1 tt
