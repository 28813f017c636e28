-- Declarations are read exactly, over exact parsers of their parts.
use Rattle.std.proofs.Common.{◌≡◌, ℕ, ◌<◌, Bool, true, false, List, [], ◌∷◌, ◌++◌, length, Option, Some, None, refl, sym, ap, ◌∙◌, subst, arith}
use Rattle.std.specs.Prelude.{◌≢◌, if◌then◌else◌, ◌&&◌}
use Rattle.mo_syntax.specs.declared.name.Name.{Name}
use Rattle.mo_syntax.specs.declared.token.TokenKind.TheVariants as t
use Rattle.mo_syntax.specs.declared.word.Word.{Word}
use Rattle.mo_syntax.specs.declared.word.Word.TheVariants as w
use Rattle.mo_syntax.specs.declared.mark.Mark.TheVariants as m
use Rattle.mo_syntax.specs.declared.types.TypeExpression.{TypeExpression}
use Rattle.mo_syntax.specs.declared.types.TypeParameter.{TypeParameter}
use Rattle.mo_syntax.specs.declared.patterns.Pattern.{Pattern}
use Rattle.mo_syntax.specs.declared.patterns.Parameters.{Parameters}
use Rattle.mo_syntax.specs.declared.patterns.Parameters.TheVariants as parameters
use Rattle.mo_syntax.specs.declared.declarations.Declaration.{Declaration}
use Rattle.mo_syntax.specs.declared.declarations.Declaration.TheVariants as d
use Rattle.mo_syntax.specs.declared.declarations.DeclarationField.{DeclarationField}
use Rattle.mo_syntax.specs.declared.expressions.Expression.{Expression}
use Rattle.mo_syntax.specs.TypeGrammar.{type_parameters_tokens, AreTypeParameters}
use Rattle.mo_syntax.specs.ExpressionGrammar.{first, expression_tokens, declaration_tokens, IsDeclaration}
use Rattle.mo_syntax.proofs.ExpressionEquations as eq
use Rattle.mo_syntax.proofs.ExpressionInduction.{Claims, Cases, holds_Declaration}
use Rattle.mo_parser_base.specs.declared.look.Look.{Look}
use Rattle.mo_parser_base.specs.declared.look.Look.TheVariants as l
use Rattle.mo_parser_base.specs.Input.{Input, Parser, look, next}
use Rattle.mo_parser_base.proofs.Steps.{bind_ok, bind_takes, look_word}
use Rattle.mo_parser_base.proofs.Exact.{Took, Exact, took_as}
use Rattle.mo_parser_base.proofs.Made.{made_behind, makes_behind}
use Rattle.mo_parser_expressions.specs.Expressions as p
use Rattle.mo_parser_expressions.specs.Signs as s
use Rattle.mo_parser_exact.specs.Ends.{EndsExpression}
use Rattle.mo_parser_exact.proofs.Levels.{Next}
use Rattle.mo_parser_exact.proofs.Operands.{Inner}
use Rattle.mo_parser_exact.proofs.Blocks.{begun_look, not_brace}
use Rattle.mo_parser_exact.proofs.Bodies.{SignedAt, signature_written}
use Rattle.mo_parser_exact.proofs.Operands.{hardly}
use Rattle.mo_parser_exact.proofs.Declarations.{let_parts, var_parts, type_parts, func_parts, class_parts, object_parts}

abbrev pub DecAt : Declaration → Next → Type 0
DecAt x n = IsDeclaration x n

in_ : {R S : Next → Type 0} → R ≡ S → (n : Next) → S n → R n
in_ e n h = subst (λ (r : Next → Type 0). r n) (sym e) h

out : {R S : Next → Type 0} → R ≡ S → (n : Next) → R n → S n
out e n h = subst (λ (r : Next → Type 0). r n) e h

abbrev Func : Type 0
Func = Name × (Option (List TypeParameter) × (p.Signature × Expression))

func_good : (z : Func) (n : Next) → AreTypeParameters z.1.0 × SignedAt z.1.1 n → DecAt (p.to_func z) n
func_good (x, (g, ((q, (k, true)), a))) n u = in_ (eq.rule_Func x g q k true a) n (u.0, u.1.0.0, u.1.0.1, u.1.1)
func_good (x, (g, ((q, (k, false)), a))) n u = in_ (eq.rule_Func x g q k false a) n (u.0, u.1.0.0, u.1.0.1, u.1.1)

-- a `(`, a `<` or a name follows the name of a function that is declared
func_begins : (z : Func) (r : Input) → s.begins_parameters (look ((type_parameters_tokens z.1.0 ++ (signature_written z.1.1.0 ++ expression_tokens z.1.1.1)) ++ r)) ≡ true
func_begins (x, (Some g, z)) r = refl
func_begins (x, (None, ((parameters.List q, k), a))) r = refl
func_begins (x, (None, ((parameters.Single q, k), a))) r = refl

func_fact : (z : Func) (n : Next) → DecAt (p.to_func z) n → AreTypeParameters z.1.0 × SignedAt z.1.1 n
func_fact (x, (g, ((q, (k, true)), a))) n good = let u = out (eq.rule_Func x g q k true a) n good in (u.0, ((u.1, u.2), u.3))
func_fact (x, (g, ((q, (k, false)), a))) n good = let u = out (eq.rule_Func x g q k false a) n good in (u.0, ((u.1, u.2), u.3))

abbrev to_let : Pattern × Expression → Declaration
to_let z = d.Let z.0 z.1

abbrev to_var : Name × (Option TypeExpression × Expression) → Declaration
to_var z = d.Var z.0 z.1.0 z.1.1

abbrev to_type : Name × (Option (List Name) × TypeExpression) → Declaration
to_type z = d.TypeAlias z.0 z.1.0 z.1.1

abbrev to_class : Name × (Option (List TypeParameter) × (Parameters × (List DeclarationField × Bool))) → Declaration
to_class z = d.Class z.0 z.1.0 z.1.1.0 z.1.1.1.0 z.1.1.1.1

abbrev to_object : Name × (List DeclarationField × Bool) → Declaration
to_object z = d.NamedObject z.0 z.1.0 z.1.1

-- the tokens that begin a declaration
abbrev pub declares : Look → Bool
declares (l.Reserved w.Let) = true
declares (l.Reserved w.Var) = true
declares (l.Reserved w.TypeWord) = true
declares (l.Reserved w.Class) = true
declares (l.Mark m.BraceOpen) = false
declares a = s.begins a

abbrev only_declarations : (Declaration → Type 0) → Claims
only_declarations C = record {
  of_Declaration = C;
  of_Expression = λ x. Unit {0};
  of_DeclarationField = λ x. Unit {0};
  of_Case = λ x. Unit {0};
  of_ExpressionField = λ x. Unit {0};
}

module _ (b : ℕ) (P : ℕ → Parser Expression) (D : Parser Declaration) (h : Inner b P D)
    (no_public : (j : Input) → D (t.Reserved w.Public ∷ j) ≡ None) (no_private : (j : Input) → D (t.Reserved w.Private ∷ j) ≡ None) where
  abbrev Reading : Input → Declaration → Input → Type 0
  Reading i y r = Took declaration_tokens DecAt y i r

  evaluated_ok : (i : Input) (y : Declaration) (r : Input) → look i ≢ l.Mark m.BraceOpen → p.evaluated P D i ≡ Some (y, r) → Reading i y r
  unfolding p.evaluated
  evaluated_ok i y r differs h0 = bind_ok (P 0 i) _ (y, r) h0 (λ x k was h1.
      let took = h.whole.sound i x k was in
      took_as (d.Evaluate x) k y r (record {
        text = took.text ∙ ap (λ u. u ++ k) (sym (eq.tokens_Evaluate x));
        good = in_ (eq.rule_Evaluate x) (first k) (took.good, λ starts. differs (ap look took.text ∙ begun_look (expression_tokens x) k (t.Mark m.BraceOpen) starts));
      }) h1)

  func_ok : (c : Bool) (i : Input) (y : Declaration) (r : Input) → look i ≡ l.Reserved w.Func → (if c then (λ u. p.func_declaration P D (next u)) else p.evaluated P D) i ≡ Some (y, r) → Reading i y r
  unfolding p.func_declaration
  func_ok true i y r is h0 = made_behind (t.Reserved w.Func) (func_parts b P D h no_public no_private) p.to_func declaration_tokens DecAt (λ z. eq.tokens_Func z.0 z.1.0 z.1.1.0.0 z.1.1.0.1.0 z.1.1.0.1.1 z.1.1.1)
      (λ z n good. func_good z n good.1) i (next i) (look_word i w.Func is) y r h0
  func_ok false i y r is h0 = evaluated_ok i y r (λ u. cc) h0

  object_ok : (c : Bool) (i : Input) (y : Declaration) (r : Input) → look i ≡ l.Reserved w.Object → (if c then (λ u. p.object_declaration P D (next u)) else p.evaluated P D) i ≡ Some (y, r) → Reading i y r
  unfolding p.object_declaration
  object_ok true i y r is h0 = made_behind (t.Reserved w.Object) (object_parts b P D h no_public no_private) to_object declaration_tokens DecAt (λ z. eq.tokens_NamedObject z.0 z.1.0 z.1.1)
      (λ z n good. in_ (eq.rule_NamedObject z.0 z.1.0 z.1.1) n good.1) i (next i) (look_word i w.Object is) y r h0
  object_ok false i y r is h0 = evaluated_ok i y r (λ u. cc) h0

  declaration_by_ok : (a : Look) (i : Input) (y : Declaration) (r : Input) → look i ≡ a → p.declaration_by P D a i ≡ Some (y, r) → Reading i y r
  unfolding p.let_declaration p.var_declaration p.type_declaration p.class_declaration p.func_or_expression p.object_or_expression
  declaration_by_ok (l.Reserved w.Let) i y r is h0 = made_behind (t.Reserved w.Let) (let_parts b P D h no_public no_private) to_let declaration_tokens DecAt (λ z. eq.tokens_Let z.0 z.1)
      (λ z n good. in_ (eq.rule_Let z.0 z.1) n good) i (next i) (look_word i w.Let is) y r h0
  declaration_by_ok (l.Reserved w.Var) i y r is h0 = made_behind (t.Reserved w.Var) (var_parts b P D h no_public no_private) to_var declaration_tokens DecAt (λ z. eq.tokens_Var z.0 z.1.0 z.1.1)
      (λ z n good. in_ (eq.rule_Var z.0 z.1.0 z.1.1) n good.1) i (next i) (look_word i w.Var is) y r h0
  declaration_by_ok (l.Reserved w.TypeWord) i y r is h0 = made_behind (t.Reserved w.TypeWord) (type_parts b P D h no_public no_private) to_type declaration_tokens DecAt (λ z. eq.tokens_TypeAlias z.0 z.1.0 z.1.1)
      (λ z n good. in_ (eq.rule_TypeAlias z.0 z.1.0 z.1.1) n good.1.1) i (next i) (look_word i w.TypeWord is) y r h0
  declaration_by_ok (l.Reserved w.Class) i y r is h0 = made_behind (t.Reserved w.Class) (class_parts b P D h no_public no_private) to_class declaration_tokens DecAt (λ z. eq.tokens_Class z.0 z.1.0 z.1.1.0 z.1.1.1.0 z.1.1.1.1)
      (λ z n good. in_ (eq.rule_Class z.0 z.1.0 z.1.1.0 z.1.1.1.0 z.1.1.1.1) n (good.1.0, good.1.1.0, good.1.1.1)) i (next i) (look_word i w.Class is) y r h0
  declaration_by_ok (l.Reserved w.Func) i y r is h0 = func_ok _ i y r is h0
  declaration_by_ok (l.Reserved w.Object) i y r is h0 = object_ok _ i y r is h0
  declaration_by_ok (l.Mark m.BraceOpen) i y r is h0 = absurd (cc)
  declaration_by_ok _ i y r is h0 = evaluated_ok i y r (λ u. cc) h0

  -- ---- what is written so is read

  no_function : (j : Input) (x : Expression) (r : Input) → P 0 (t.Reserved w.Func ∷ j) ≡ Some (x, r) → (s.is_name (look j) && s.begins_parameters (look (next j))) ≡ false
  no_function (t.Identifier n ∷ j) x r reads = hardly (s.begins_parameters (look j)) (λ some. let none = h.no_func n j some in absurd (cc))
  no_function [] x r reads = refl
  no_function (_ ∷ j) x r reads = refl

  no_named_object : (j : Input) (x : Expression) (r : Input) → P 0 (t.Reserved w.Object ∷ j) ≡ Some (x, r) → s.is_name (look j) ≡ false
  no_named_object (t.Identifier n ∷ j) x r reads = absurd (let none = h.no_object n j in cc)
  no_named_object [] x r reads = refl
  no_named_object (_ ∷ j) x r reads = refl

  not_begun : (i : Input) (x : Expression) (r : Input) → s.begins (look i) ≡ false → {C : Type 0} → P 0 i ≡ Some (x, r) → C
  not_begun i x r never reads = absurd (let none = h.must_begin i never in cc)

  word_falls : (a : Word) (j : Input) (x : Expression) (r : Input) → P 0 (t.Reserved a ∷ j) ≡ Some (x, r) → p.declaration P D (t.Reserved a ∷ j) ≡ p.evaluated P D (t.Reserved a ∷ j)
  unfolding p.declaration p.func_or_expression p.object_or_expression
  word_falls w.Let j x r reads = not_begun (t.Reserved w.Let ∷ j) x r refl reads
  word_falls w.Var j x r reads = not_begun (t.Reserved w.Var ∷ j) x r refl reads
  word_falls w.TypeWord j x r reads = not_begun (t.Reserved w.TypeWord ∷ j) x r refl reads
  word_falls w.Class j x r reads = not_begun (t.Reserved w.Class ∷ j) x r refl reads
  word_falls w.Func j x r reads = ap (λ c. (if c then (λ u. p.func_declaration P D (next u)) else p.evaluated P D) (t.Reserved w.Func ∷ j)) (no_function j x r reads)
  word_falls w.Object j x r reads = ap (λ c. (if c then (λ u. p.object_declaration P D (next u)) else p.evaluated P D) (t.Reserved w.Object ∷ j)) (no_named_object j x r reads)
  word_falls _ j x r reads = refl

  falls : (i : Input) (x : Expression) (r : Input) → look i ≢ l.Mark m.BraceOpen → P 0 i ≡ Some (x, r) → p.declaration P D i ≡ p.evaluated P D i
  unfolding p.declaration
  falls [] x r differs reads = refl
  falls (t.Reserved a ∷ j) x r differs reads = word_falls a j x r reads
  falls (t.Mark m.BraceOpen ∷ j) x r differs reads = absurd (differs refl)
  falls (_ ∷ j) x r differs reads = refl

  abbrev Read : Declaration → Type 0
  Read x = (r : Input) → length (declaration_tokens x) < b → IsDeclaration x (first r) → EndsExpression (first r) → p.declaration P D (declaration_tokens x ++ r) ≡ Some (x, r)

  read_evaluate : (x : Expression) → Read (d.Evaluate x)
  unfolding p.evaluated
  read_evaluate x r short good stops =
      let u = out (eq.rule_Evaluate x) (first r) good in
      let i : Input = expression_tokens x ++ r in
      let done = h.whole.complete x r (subst (λ z. length z < b) (eq.tokens_Evaluate x) short) u.0 stops in
      ap (λ z. p.declaration P D (z ++ r)) (eq.tokens_Evaluate x) ∙ falls i x r (not_brace (expression_tokens x) r u.1 stops.brace) done ∙ bind_takes (P 0 i) _ x r done

  read_let : (x : Pattern) (a : Expression) → Read (d.Let x a)
  unfolding p.declaration p.let_declaration
  read_let x a r short good stops = makes_behind (t.Reserved w.Let) (let_parts b P D h no_public no_private) to_let declaration_tokens (x, a) (eq.tokens_Let x a) (p.declaration P D) r refl (omega arith)
      (let u = out (eq.rule_Let x a) (first r) good in (u.0, u.1)) stops

  read_var : (x : Name) (k : Option TypeExpression) (a : Expression) → Read (d.Var x k a)
  unfolding p.declaration p.var_declaration
  read_var x k a r short good stops = makes_behind (t.Reserved w.Var) (var_parts b P D h no_public no_private) to_var declaration_tokens (x, (k, a)) (eq.tokens_Var x k a) (p.declaration P D) r refl (omega arith)
      (let u = out (eq.rule_Var x k a) (first r) good in (tt, (u.0, u.1))) stops

  read_type : (x : Name) (names : Option (List Name)) (k : TypeExpression) → Read (d.TypeAlias x names k)
  unfolding p.declaration p.type_declaration
  read_type x names k r short good stops = makes_behind (t.Reserved w.TypeWord) (type_parts b P D h no_public no_private) to_type declaration_tokens (x, (names, k)) (eq.tokens_TypeAlias x names k) (p.declaration P D) r refl (omega arith)
      (tt, (tt, out (eq.rule_TypeAlias x names k) (first r) good)) stops

  read_class : (x : Name) (g : Option (List TypeParameter)) (q : Parameters) (fields : List DeclarationField) (last : Bool) → Read (d.Class x g q fields last)
  unfolding p.declaration p.class_declaration
  read_class x g q fields last r short good stops = makes_behind (t.Reserved w.Class) (class_parts b P D h no_public no_private) to_class declaration_tokens (x, (g, (q, (fields, last)))) (eq.tokens_Class x g q fields last) (p.declaration P D) r refl (omega arith)
      (let u = out (eq.rule_Class x g q fields last) (first r) good in (tt, (u.0, (u.1, u.2)))) tt

  read_object : (x : Name) (fields : List DeclarationField) (last : Bool) → Read (d.NamedObject x fields last)
  unfolding p.declaration p.object_or_expression p.object_declaration
  read_object x fields last r short good stops = makes_behind (t.Reserved w.Object) (object_parts b P D h no_public no_private) to_object declaration_tokens (x, (fields, last)) (eq.tokens_NamedObject x fields last) (p.declaration P D) r refl (omega arith)
      (tt, out (eq.rule_NamedObject x fields last) (first r) good) tt

  func_reads : (z : Func) (r : Input) → length (declaration_tokens (p.to_func z)) < b → DecAt (p.to_func z) (first r) → EndsExpression (first r) → p.declaration P D (declaration_tokens (p.to_func z) ++ r) ≡ Some (p.to_func z, r)
  unfolding p.declaration p.func_or_expression p.func_declaration
  func_reads z r short good stops =
      let rest : Input = (type_parameters_tokens z.1.0 ++ (signature_written z.1.1.0 ++ expression_tokens z.1.1.1)) ++ r in
      makes_behind (t.Reserved w.Func) (func_parts b P D h no_public no_private) p.to_func declaration_tokens z (eq.tokens_Func z.0 z.1.0 z.1.1.0.0 z.1.1.0.1.0 z.1.1.0.1.1 z.1.1.1) (p.declaration P D) r
      (ap (λ c. (if c then (λ u. p.func_declaration P D (next u)) else p.evaluated P D) (t.Reserved w.Func ∷ t.Identifier z.0 ∷ rest)) (func_begins z r)) (omega arith)
      (tt, func_fact z (first r) good) stops

  read_cases : Cases (only_declarations Read)
  read_cases = record {
    Let = λ x0 x1 h0. read_let x0 x1;
    Var = λ x0 x1 x2 h0. read_var x0 x1 x2;
    Func = λ x0 x1 x2 x3 x4 x5 h0. func_reads (x0, (x1, ((x2, (x3, x4)), x5)));
    TypeAlias = λ x0 x1 x2. read_type x0 x1 x2;
    Class = λ x0 x1 x2 x3 x4 h0. read_class x0 x1 x2 x3 x4;
    NamedObject = λ x0 x1 x2 h0. read_object x0 x1 x2;
    Evaluate = λ x0 h0. read_evaluate x0;
    Assign = λ x0 x1 x2 h0 h1. tt;
    Annotated = λ x0 x1 h0. tt;
    Binary = λ x0 x1 x2 h0 h1. tt;
    If = λ x0 x1 x2 h0 h1 h2. tt;
    Switch = λ x0 x1 x2 h0 h1. tt;
    While = λ x0 x1 h0 h1. tt;
    Loop = λ x0 x1 h0 h1. tt;
    For = λ x0 x1 x2 h0 h1. tt;
    Label = λ x0 x1 x2 h0. tt;
    Break = λ x0 x1 h0. tt;
    Continue = λ x0. tt;
    Return = λ x0 h0. tt;
    Do = λ x0 h0. tt;
    DoOptional = λ x0 h0. tt;
    Await = λ x0 h0. tt;
    Throw = λ x0 h0. tt;
    Try = λ x0 x1 x2 h0 h1. tt;
    Assert = λ x0 h0. tt;
    Ignore = λ x0 h0. tt;
    Debug = λ x0 h0. tt;
    Function = λ x0 x1 x2 x3 h0. tt;
    ObjectBlock = λ x0 x1 h0. tt;
    Optional = λ x0 h0. tt;
    Negative = λ x0 h0. tt;
    Not = λ x0 h0. tt;
    Tagged = λ x0 x1 h0. tt;
    Member = λ x0 x1 h0. tt;
    Projection = λ x0 x1 h0. tt;
    Index = λ x0 x1 h0 h1. tt;
    Call = λ x0 x1 x2 h0 h1. tt;
    Bang = λ x0 h0. tt;
    Constant = λ x0. tt;
    Variable = λ x0. tt;
    Parenthesized = λ x0 h0. tt;
    Array = λ x0 x1 h0. tt;
    Object = λ x0 x1 h0. tt;
    ActorReference = λ x0 x1. tt;
    Block = λ x0 x1 h0. tt;
    DeclarationField_ = λ x0 x1 h0. tt;
    Case_ = λ x0 x1 h0. tt;
    ExpressionField_ = λ x0 x1 x2 x3 h0. tt;
  }

  pub declaration_exact : Exact b (p.declaration P D) declaration_tokens DecAt EndsExpression
  unfolding p.declaration
  declaration_exact = record { sound = λ i y r h0. declaration_by_ok (look i) i y r refl h0; complete = holds_Declaration (only_declarations Read) read_cases }
