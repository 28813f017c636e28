-- The fields of an actor are read exactly.
use Rattle.std.proofs.Common.{◌≡◌, ℕ, ◌<◌, Bool, true, false, [], ◌∷◌, ◌++◌, length, map, option_map, Option, Some, None, refl, sym, ap, ◌∙◌, arith, append_assoc}
use Rattle.std.specs.Prelude.{◌≢◌}
use Rattle.mo_syntax.specs.declared.name.Name.{Name}
use Rattle.mo_syntax.specs.declared.token.TokenKind.TheVariants as t
use Rattle.mo_syntax.specs.declared.word.Word.{Word}
use Rattle.mo_syntax.specs.declared.word.Word.TheVariants as w
use Rattle.mo_syntax.specs.declared.mark.Mark.TheVariants as m
use Rattle.mo_syntax.specs.declared.types.TypeExpression.{TypeExpression}
use Rattle.mo_syntax.specs.declared.declarations.Declaration.{Declaration}
use Rattle.mo_syntax.specs.declared.expressions.Expression.{Expression}
use Rattle.mo_syntax.specs.declared.program.ActorField.{ActorField}
use Rattle.mo_syntax.specs.declared.program.ActorField.TheVariants as field
use Rattle.mo_syntax.specs.Writing as W
use Rattle.mo_syntax.specs.Parts.{Within, Listed, MayEnd}
use Rattle.mo_syntax.specs.TypeGrammar.{type_tokens, IsType}
use Rattle.mo_syntax.specs.ExpressionGrammar.{first, behind_last, expression_tokens, declaration_tokens, IsExpression, IsDeclaration}
use Rattle.mo_syntax.specs.ProgramGrammar.{actor_field_tokens, IsActorField}
use Rattle.mo_parser_base.specs.declared.look.Look.{Look}
use Rattle.mo_parser_base.specs.declared.look.Look.TheVariants as l
use Rattle.mo_parser_base.specs.Input.{Input, and_then, ◌&◌, ◌▸◌, pure, look, next, identifier, semicolon, brace}
use Rattle.mo_parser_base.proofs.Steps.{bind_ok, bind_takes, look_word}
use Rattle.mo_parser_base.proofs.Exact.{Next, Took, Exact, Any, took_as, both, led_by, a_name, fewer, not_first, semicolons_exact}
use Rattle.mo_parser_base.proofs.Made.{made_behind, makes_behind}
use Rattle.mo_parser_types.specs.Types.{annotation}
use Rattle.mo_parser_types.proofs.Whole.{annotation_exact}
use Rattle.mo_parser_expressions.specs.Expressions as p
use Rattle.mo_parser_exact.specs.Ends.{EndsExpression}
use Rattle.mo_parser_exact.proofs.Operands.{ends_semicolon, ends_brace}
use Rattle.mo_parser_programs.specs.Programs as g
use Rattle.mo_parser_exact.proofs.Declared.{declares}
use Rattle.mo_parser_exact.proofs.Depths.{an_expression_exact, a_declaration_exact, no_declaration}
use Rattle.mo_parser_programs.proofs.Functions.{system_ok, system_done, shared_function_exact}

abbrev FieldAt : ActorField → Next → Type 0
FieldAt x n = IsActorField x n

abbrev Stable : Type 0
Stable = Name × (Option TypeExpression × Expression)

abbrev stable_written : Stable → Input
stable_written z = t.Reserved w.Var ∷ ((t.Identifier z.0 ∷ []) ++ (W.annotation (option_map type_tokens z.1.0) ++ t.Mark m.EqualSign ∷ expression_tokens z.1.1))

abbrev StableAt : Stable → Next → Type 0
StableAt z n = Unit {0} × (Within (λ y. IsType y 0) z.1.0 × IsExpression z.1.1 0 n)

-- the word before what is private
abbrev private_mark : Bool → Input
private_mark private = W.marked private (t.Reserved w.Private)

look_not : (i : Input) (a : Word) → first i ≢ Some (t.Reserved a) → look i ≢ l.Reserved a
look_not i a differs = λ u. differs (ap first (look_word i a u))

state_same : (private : Bool) (a : Look) → a ≢ l.Reserved w.Stable → g.state_by private a ≡ g.declared private
state_same private (l.Reserved w.Stable) differs = absurd (differs refl)
state_same private _ differs = refl

field_same : (a : Look) → a ≢ l.Reserved w.Public → a ≢ l.Reserved w.System → a ≢ l.Reserved w.Private → g.field_by a ≡ g.state false
field_same (l.Reserved w.Public) one two three = absurd (one refl)
field_same (l.Reserved w.System) one two three = absurd (two refl)
field_same (l.Reserved w.Private) one two three = absurd (three refl)
field_same _ one two three = refl

module _ (b : ℕ) where
  stable_exact : Exact b (t.Reserved w.Var ▸ (identifier & (annotation & (t.Mark m.EqualSign ▸ p.an_expression)))) stable_written StableAt EndsExpression
  stable_exact = fewer (led_by (t.Reserved w.Var) tt (both (a_name b)
      (both (annotation_exact b) (fewer (led_by (t.Mark m.EqualSign) tt (an_expression_exact b))) (λ y r short good stops. (λ u. cc, (λ u. cc, λ u. cc)))) (λ y r short good stops. tt)))

  stable_ok : (private : Bool) (i0 i : Input) → i0 ≡ private_mark private ++ i → look i ≡ l.Reserved w.Stable → (y : ActorField) (r : Input) → g.stable_variable private (next i) ≡ Some (y, r) →
      Took actor_field_tokens FieldAt y i0 r
  unfolding g.stable_variable
  stable_ok private i0 i from is y r h0 = bind_ok ((t.Reserved w.Var ▸ (identifier & (annotation & (t.Mark m.EqualSign ▸ p.an_expression)))) (next i)) _ (y, r) h0 (λ z k was h1.
      let took = stable_exact.sound (next i) z k was in
      took_as (field.Stable private z.0 z.1.0 z.1.1) k y r (record {
        text = from ∙ ap (λ u. private_mark private ++ u) (look_word i w.Stable is ∙ ap (λ u. t.Reserved w.Stable ∷ u) took.text) ∙ sym (append_assoc (private_mark private) (t.Reserved w.Stable ∷ stable_written z) k);
        good = (took.good.1.0, took.good.1.1);
      }) h1)

  declared_ok : (private : Bool) (i0 i : Input) → i0 ≡ private_mark private ++ i → (y : ActorField) (r : Input) → g.declared private i ≡ Some (y, r) → Took actor_field_tokens FieldAt y i0 r
  unfolding g.declared
  declared_ok private i0 i from y r h0 = bind_ok (p.a_declaration i) _ (y, r) h0 (λ x k was h1.
      let took = (a_declaration_exact b).sound i x k was in
      took_as (field.Declared private x) k y r (record {
        text = from ∙ ap (λ u. private_mark private ++ u) took.text ∙ sym (append_assoc (private_mark private) (declaration_tokens x) k);
        good = took.good;
      }) h1)

  state_by_ok : (private : Bool) (i0 i : Input) → i0 ≡ private_mark private ++ i → (a : Look) → look i ≡ a → (y : ActorField) (r : Input) → g.state_by private a i ≡ Some (y, r) →
      Took actor_field_tokens FieldAt y i0 r
  state_by_ok private i0 i from (l.Reserved w.Stable) is y r h0 = stable_ok private i0 i from is y r h0
  state_by_ok private i0 i from _ is y r h0 = declared_ok private i0 i from y r h0

  state_ok : (private : Bool) (i0 i : Input) → i0 ≡ private_mark private ++ i → (y : ActorField) (r : Input) → g.state private i ≡ Some (y, r) → Took actor_field_tokens FieldAt y i0 r
  unfolding g.state
  state_ok private i0 i from y r h0 = state_by_ok private i0 i from (look i) refl y r h0

  field_by_ok : (a : Look) (i : Input) (y : ActorField) (r : Input) → look i ≡ a → g.field_by a i ≡ Some (y, r) → Took actor_field_tokens FieldAt y i r
  field_by_ok (l.Reserved w.Public) i y r is h0 =
      made_behind (t.Reserved w.Public) (shared_function_exact b) field.Public actor_field_tokens FieldAt (λ z. refl) (λ z n good. good) i (next i) (look_word i w.Public is) y r h0
  field_by_ok (l.Reserved w.System) i y r is h0 = system_ok b i (next i) (look_word i w.System is) y r h0
  field_by_ok (l.Reserved w.Private) i y r is h0 = state_ok true i (next i) (look_word i w.Private is) y r h0
  field_by_ok _ i y r is h0 = state_ok false i i refl y r h0

  -- ---- what is written so is read

  declared_first : (x : Declaration) (r : Input) → length (declaration_tokens x) < b → IsDeclaration x (first r) → EndsExpression (first r) → (a : Word) → declares (l.Reserved a) ≡ false → look (declaration_tokens x ++ r) ≢ l.Reserved a
  declared_first x r short good stops a never = look_not (declaration_tokens x ++ r) a
      (not_first p.a_declaration (t.Reserved a) x (declaration_tokens x ++ r) r (λ j. no_declaration (t.Reserved a ∷ j) never) ((a_declaration_exact b).complete x r short good stops))

  state_declared : (private : Bool) (x : Declaration) (r : Input) → length (declaration_tokens x) < b → IsDeclaration x (first r) → EndsExpression (first r) →
      g.state private (declaration_tokens x ++ r) ≡ Some (field.Declared private x, r)
  unfolding g.state g.declared
  state_declared private x r short good stops =
      let i : Input = declaration_tokens x ++ r in
      ap (λ q. q i) (state_same private (look i) (declared_first x r short good stops w.Stable refl))
      ∙ bind_takes (p.a_declaration i) _ x r ((a_declaration_exact b).complete x r short good stops)

  state_stable : (private : Bool) (z : Stable) (r : Input) → length (stable_written z) < b → StableAt z (first r) → EndsExpression (first r) →
      g.state private (t.Reserved w.Stable ∷ (stable_written z ++ r)) ≡ Some (field.Stable private z.0 z.1.0 z.1.1, r)
  unfolding g.state g.stable_variable
  state_stable private z r short good stops =
      bind_takes ((t.Reserved w.Var ▸ (identifier & (annotation & (t.Mark m.EqualSign ▸ p.an_expression)))) (stable_written z ++ r)) _ z r (stable_exact.complete z r short good stops)

  field_done : (x : ActorField) (r : Input) → length (actor_field_tokens x) < b → IsActorField x (first r) → EndsExpression (first r) → g.a_field (actor_field_tokens x ++ r) ≡ Some (x, r)
  unfolding g.a_field
  field_done (field.Public x) r short good stops =
      makes_behind (t.Reserved w.Public) (shared_function_exact b) field.Public actor_field_tokens x refl g.a_field r refl (omega arith) good stops
  field_done (field.System x equal_sign a) r short good stops = system_done b x equal_sign a r short good stops
  field_done (field.Declared true x) r short good stops = state_declared true x r (omega arith) good stops
  field_done (field.Declared false x) r short good stops =
      let i : Input = declaration_tokens x ++ r in
      let not = declared_first x r short good stops in
      ap (λ q. q i) (field_same (look i) (not w.Public refl) (not w.System refl) (not w.Private refl)) ∙ state_declared false x r short good stops
  field_done (field.Stable true x kind a) r short good stops = state_stable true (x, (kind, a)) r (omega arith) (tt, (good.0, good.1)) stops
  field_done (field.Stable false x kind a) r short good stops = state_stable false (x, (kind, a)) r (omega arith) (tt, (good.0, good.1)) stops

  field_exact : Exact b g.a_field actor_field_tokens FieldAt EndsExpression
  unfolding g.a_field
  field_exact = record { sound = λ i y r h0. field_by_ok (look i) i y r refl h0; complete = field_done }

  no_field : (j : Input) → g.a_field (brace ∷ j) ≡ None
  unfolding g.a_field g.state g.declared
  no_field j = ap (λ o. and_then o (λ x. pure (field.Declared false x))) (no_declaration (brace ∷ j) refl)

  pub actor_fields_exact : Exact b g.actor_fields (λ z. W.semicolons (map actor_field_tokens z.0) z.1 ++ brace ∷ [])
      (λ z n. Listed (λ x k. IsActorField x (Some k)) semicolon (behind_last z.1) z.0 × MayEnd z.0 z.1) Any
  unfolding g.actor_fields
  actor_fields_exact = fewer (semicolons_exact field_exact ends_semicolon ends_brace no_field)
