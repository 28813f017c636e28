-- Expressions are read exactly, over exact parsers of their parts.
use Rattle.std.proofs.Common.{◌≡◌, ℕ, suc, ◌<◌, true, false, [], ◌∷◌, ◌++◌, length, Some, None, refl, ap, ◌∙◌, arith}
use Rattle.std.specs.Prelude.{if◌then◌else◌}
use Rattle.mo_syntax.specs.declared.token.TokenKind.TheVariants as t
use Rattle.mo_syntax.specs.declared.word.Word.{Word}
use Rattle.mo_syntax.specs.declared.word.Word.TheVariants as w
use Rattle.mo_syntax.specs.declared.declarations.Declaration.{Declaration}
use Rattle.mo_syntax.specs.declared.expressions.Expression.{Expression}
use Rattle.mo_syntax.specs.declared.expressions.Expression.TheVariants as e
use Rattle.mo_syntax.specs.ExpressionGrammar.{first, expression_tokens, IsExpression}
use Rattle.mo_syntax.proofs.ExpressionInduction.{Cases, holds_Expression}
use Rattle.mo_parser_base.specs.declared.look.Look.{Look}
use Rattle.mo_parser_base.specs.declared.look.Look.TheVariants as l
use Rattle.mo_parser_base.specs.Input.{Input, Parser, look, next, literal}
use Rattle.mo_parser_base.proofs.Steps.{look_word}
use Rattle.mo_parser_base.proofs.Exact.{Took, Exact}
use Rattle.mo_parser_expressions.specs.Expressions as p
use Rattle.mo_parser_expressions.specs.Signs as s
use Rattle.mo_parser_exact.specs.Ends.{EndsExpression}
use Rattle.mo_parser_exact.proofs.Levels as lev
use Rattle.mo_parser_exact.proofs.Levels.{Next, rule_in2, rule_out2, only_expressions, op_small, op_large, op_left, op_left_small, lowers, is_block}
use Rattle.mo_parser_exact.proofs.Operands.{At, Inner, cases_if, hardly}
use Rattle.mo_parser_exact.proofs.Operations.{plain_ok, plain_done, assign_done}
use Rattle.mo_parser_exact.proofs.Words.{control_ok, effect_ok, read_If, read_Switch, read_While, read_Loop, read_For, read_Label, read_Break, read_Continue, read_Return, read_Do, read_DoOptional, read_Await, read_Throw, read_Try, read_Assert, read_Ignore, read_Debug, read_Function, read_ObjectBlock}

module _ (b : ℕ) (P : ℕ → Parser Expression) (D : Parser Declaration) (h : Inner b P D)
    (no_public : (j : Input) → D (t.Reserved w.Public ∷ j) ≡ None) (no_private : (j : Input) → D (t.Reserved w.Private ∷ j) ≡ None) where
  plain_must : (word : Word) → s.is_worded word ≡ true → (j : Input) → p.plain P D (t.Reserved word ∷ j) ≡ None
  unfolding p.plain p.postfix p.atom p.constant literal
  plain_must w.If some j = refl
  plain_must w.Switch some j = refl
  plain_must w.While some j = refl
  plain_must w.Loop some j = refl
  plain_must w.For some j = refl
  plain_must w.Label some j = refl
  plain_must w.Break some j = refl
  plain_must w.Continue some j = refl
  plain_must w.Return some j = refl
  plain_must w.Do some j = refl
  plain_must w.Await some j = refl
  plain_must w.Throw some j = refl
  plain_must w.Try some j = refl
  plain_must w.Assert some j = refl
  plain_must w.Ignore some j = refl
  plain_must w.Debug some j = refl
  plain_must w.Func some j = refl
  plain_must w.Object some j = refl
  plain_must _ some j = absurd (cc)

  worded_ok : (word : Word) (i : Input) (y : Expression) (r : Input) → i ≡ t.Reserved word ∷ next i → p.worded P D word i ≡ Some (y, r) → Took expression_tokens (At 0) y i r
  unfolding p.worded
  worded_ok word i y r is h0 = cases_if (s.is_control word) (p.control P D word) (p.effect P D word) (next i) (y, r) h0
      (λ _ h1. control_ok b P D h no_public no_private word i (next i) y r is h1)
      (λ _ h1. effect_ok b P D h no_public no_private word i (next i) y r is h1)

  whole_by_ok : (a : Look) (i : Input) (y : Expression) (r : Input) → look i ≡ a → p.whole_by P D a i ≡ Some (y, r) → Took expression_tokens (At 0) y i r
  whole_by_ok (l.Reserved word) i y r is h0 = cases_if (s.is_worded word) (p.worded P D word) (p.plain P D) i (y, r) h0
      (λ _ h1. worded_ok word i y r (look_word i word is) h1)
      (λ _ h1. plain_ok b P D h i y r h1)
  whole_by_ok _ i y r is h0 = plain_ok b P D h i y r h0

  whole_is : (i : Input) (x : Expression) (r : Input) → p.plain P D i ≡ Some (x, r) → p.whole P D i ≡ Some (x, r)
  unfolding p.whole
  whole_is (t.Reserved word ∷ j) x r reads =
      let never : s.is_worded word ≡ false = hardly (s.is_worded word) (λ some. let none = plain_must word some j in absurd (cc)) in
      ap (λ c. (if c then p.worded P D word else p.plain P D) (t.Reserved word ∷ j)) never ∙ reads
  whole_is [] x r reads = reads
  whole_is (t.Mark a ∷ j) x r reads = reads
  whole_is (t.Identifier a ∷ j) x r reads = reads
  whole_is (t.Number a ∷ j) x r reads = reads
  whole_is (t.Character a ∷ j) x r reads = reads
  whole_is (t.Text a ∷ j) x r reads = reads

  abbrev Read : Expression → Type 0
  Read x = (r : Input) → length (expression_tokens x) < suc b → IsExpression x 0 (first r) → EndsExpression (first r) → p.whole P D (expression_tokens x ++ r) ≡ Some (x, r)

  read_plain : (x : Expression) → ((n : Next) → IsExpression x 0 n → IsExpression x 1 n) → Read x
  read_plain x tighter r short good ends = whole_is (expression_tokens x ++ r) x r (plain_done b P D h x r short (tighter (first r) good) ends)

  read_cases : Cases (only_expressions Read)
  read_cases = record {
    Let = λ x0 x1 h0. tt;
    Var = λ x0 x1 x2 h0. tt;
    Func = λ x0 x1 x2 x3 x4 x5 h0. tt;
    TypeAlias = λ x0 x1 x2. tt;
    Class = λ x0 x1 x2 x3 x4 h0. tt;
    NamedObject = λ x0 x1 x2 h0. tt;
    Evaluate = λ x0 h0. tt;
    Assign = λ x0 x1 x2 h0 h1. λ r short good ends. whole_is (expression_tokens (e.Assign x0 x1 x2) ++ r) (e.Assign x0 x1 x2) r (assign_done b P D h x0 x1 x2 r short good ends);
    Annotated = λ x0 x1 h0. read_plain (e.Annotated x0 x1) (λ n good. lev.move_Annotated x0 x1 0 1 n (λ u. omega arith) good);
    Binary = λ x0 x1 x2 h0 h1. read_plain (e.Binary x0 x1 x2) (λ n good. lev.move_Binary x0 x1 x2 0 1 n (λ u. omega (arith, op_large x0)) good);
    If = λ x0 x1 x2 h0 h1 h2. read_If b P D h no_public no_private x0 x1 x2;
    Switch = λ x0 x1 x2 h0 h1. read_Switch b P D h no_public no_private x0 x1 x2;
    While = λ x0 x1 h0 h1. read_While b P D h no_public no_private x0 x1;
    Loop = λ x0 x1 h0 h1. read_Loop b P D h no_public no_private x0 x1;
    For = λ x0 x1 x2 h0 h1. read_For b P D h no_public no_private x0 x1 x2;
    Label = λ x0 x1 x2 h0. read_Label b P D h no_public no_private x0 x1 x2;
    Break = λ x0 x1 h0. read_Break b P D h no_public no_private x0 x1;
    Continue = λ x0. read_Continue b P D h no_public no_private x0;
    Return = λ x0 h0. read_Return b P D h no_public no_private x0;
    Do = λ x0 h0. read_Do b P D h no_public no_private x0;
    DoOptional = λ x0 h0. read_DoOptional b P D h no_public no_private x0;
    Await = λ x0 h0. read_Await b P D h no_public no_private x0;
    Throw = λ x0 h0. read_Throw b P D h no_public no_private x0;
    Try = λ x0 x1 x2 h0 h1. read_Try b P D h no_public no_private x0 x1 x2;
    Assert = λ x0 h0. read_Assert b P D h no_public no_private x0;
    Ignore = λ x0 h0. read_Ignore b P D h no_public no_private x0;
    Debug = λ x0 h0. read_Debug b P D h no_public no_private x0;
    Function = λ x0 x1 x2 x3 h0. read_Function b P D h no_public no_private x0 x1 x2 x3;
    ObjectBlock = λ x0 x1 h0. read_ObjectBlock b P D h no_public no_private x0 x1;
    Optional = λ x0 h0. read_plain (e.Optional x0) (λ n good. lev.move_Optional x0 0 1 n (λ u. omega arith) good);
    Negative = λ x0 h0. read_plain (e.Negative x0) (λ n good. lev.move_Negative x0 0 1 n (λ u. omega arith) good);
    Not = λ x0 h0. read_plain (e.Not x0) (λ n good. lev.move_Not x0 0 1 n (λ u. omega arith) good);
    Tagged = λ x0 x1 h0. read_plain (e.Tagged x0 x1) (λ n good. lev.move_Tagged x0 x1 0 1 n (λ u. omega arith) good);
    Member = λ x0 x1 h0. read_plain (e.Member x0 x1) (λ n good. lev.move_Member x0 x1 0 1 n (λ u. omega arith) good);
    Projection = λ x0 x1 h0. read_plain (e.Projection x0 x1) (λ n good. lev.move_Projection x0 x1 0 1 n (λ u. omega arith) good);
    Index = λ x0 x1 h0 h1. read_plain (e.Index x0 x1) (λ n good. lev.move_Index x0 x1 0 1 n (λ u. omega arith) good);
    Call = λ x0 x1 x2 h0 h1. read_plain (e.Call x0 x1 x2) (λ n good. lev.move_Call x0 x1 x2 0 1 n (λ u. omega arith) good);
    Bang = λ x0 h0. read_plain (e.Bang x0) (λ n good. lev.move_Bang x0 0 1 n (λ u. omega arith) good);
    Constant = λ x0. read_plain (e.Constant x0) (λ n good. lev.move_Constant x0 0 1 n (λ u. omega arith) good);
    Variable = λ x0. read_plain (e.Variable x0) (λ n good. lev.move_Variable x0 0 1 n (λ u. omega arith) good);
    Parenthesized = λ x0 h0. read_plain (e.Parenthesized x0) (λ n good. lev.move_Parenthesized x0 0 1 n (λ u. omega arith) good);
    Array = λ x0 x1 h0. read_plain (e.Array x0 x1) (λ n good. lev.move_Array x0 x1 0 1 n (λ u. omega arith) good);
    Object = λ x0 x1 h0. read_plain (e.Object x0 x1) (λ n good. lev.move_Object x0 x1 0 1 n (λ u. omega arith) good);
    ActorReference = λ x0 x1. read_plain (e.ActorReference x0 x1) (λ n good. lev.move_ActorReference x0 x1 0 1 n (λ u. omega arith) good);
    Block = λ x0 x1 h0. λ r short good ends. absurd (let u = lev.at_Block x0 x1 0 (first r) good in omega arith);
    DeclarationField_ = λ x0 x1 h0. tt;
    Case_ = λ x0 x1 h0. tt;
    ExpressionField_ = λ x0 x1 x2 x3 h0. tt;
  }

  pub whole_exact : Exact (suc b) (p.whole P D) expression_tokens (At 0) EndsExpression
  unfolding p.whole
  whole_exact = record { sound = λ i y r h0. whole_by_ok (look i) i y r refl h0; complete = holds_Expression (only_expressions Read) read_cases }
