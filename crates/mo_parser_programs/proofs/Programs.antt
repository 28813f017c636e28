-- Programs are read exactly.
use Rattle.std.proofs.Common.{◌≡◌, ℕ, suc, Bool, true, false, [], ◌∷◌, ◌++◌, length, map, Some, refl, sym, ap, ◌∙◌, subst, arith}
use Rattle.std.specs.Prelude.{◌≢◌}
use Rattle.std.proofs.lemmas.List.{append-nil}
use Rattle.mo_syntax.specs.declared.name.Name.{Name}
use Rattle.mo_syntax.specs.declared.token.TokenKind.TheVariants as t
use Rattle.mo_syntax.specs.declared.word.Word.TheVariants as w
use Rattle.mo_syntax.specs.declared.mark.Mark.TheVariants as m
use Rattle.mo_syntax.specs.declared.program.Tree.{Tree}
use Rattle.mo_syntax.specs.Writing as W
use Rattle.mo_syntax.specs.ExpressionGrammar.{first}
use Rattle.mo_syntax.specs.ProgramGrammar.{actor_field_tokens, actor_tokens, tree_tokens, IsActor, IsTree, Spells}
use Rattle.mo_parser_base.specs.Input.{Input, semicolon, brace}
use Rattle.mo_parser_base.proofs.Steps.{bind_ok, bind_takes, some_is}
use Rattle.mo_parser_base.proofs.Exact.{Next, Took, Exact, Any, both, led_by, flag, fewer, ahead}
use Rattle.mo_parser_base.proofs.Made.{mapped}
use Rattle.mo_parser_programs.specs.Programs as g
use Rattle.mo_parser_programs.proofs.Imports.{imports_exact, name_exact}
use Rattle.mo_parser_programs.proofs.Fields.{actor_fields_exact}

not_name : (y : Bool) (v : Input) (n : Next) (x : Name) → ahead (W.marked y (t.Mark m.EqualSign) ++ t.Mark m.BraceOpen ∷ v) n ≢ Some (t.Identifier x)
not_name true v n x = λ u. cc
not_name false v n x = λ u. cc

module _ (b : ℕ) where
  pub actor_exact : Exact b g.actor actor_tokens (λ x n. IsActor x) Any
  unfolding g.actor
  actor_exact = mapped (fewer (led_by (t.Reserved w.Actor) tt (both (name_exact b)
      (both (flag b (t.Mark m.EqualSign) tt) (fewer (led_by (t.Mark m.BraceOpen) tt (actor_fields_exact b))) (λ y r short good stops u. cc))
      (λ y r short good stops x. not_name y.0 (W.semicolons (map actor_field_tokens y.1.0) y.1.1 ++ brace ∷ []) (first r) x))))
      g.to_actor actor_tokens (λ x n. IsActor x) (λ x. ((x.name, (x.equal_sign, (x.fields, x.semicolon))), refl)) (λ z. refl)
      (λ z n good. good.1.1) (λ z n good. (tt, (tt, good)))

  pub tree_exact : Exact b g.tree tree_tokens (λ x n. IsTree x) (λ n. n ≢ Some semicolon)
  unfolding g.tree tree_tokens
  tree_exact = mapped (both (imports_exact b) (both actor_exact (flag b semicolon tt) (λ y r short good stops. tt)) (λ y r short good stops u. cc))
      g.to_tree tree_tokens (λ x n. IsTree x) (λ x. ((x.imports, (x.actor, x.semicolon)), refl)) (λ z. refl)
      (λ z n good. good.1.0) (λ z n good. (tt, (good, tt)))

-- ---- all of the tokens

-- what is read of a program
record Whole (z : Tree) (k : Input) (x : Tree) (j : Input) : Type 0 where
  tree : z ≡ x
  rest : k ≡ []

ended_ok : (z : Tree) (k : Input) (x : Tree) (j : Input) → g.ended z k ≡ Some (x, j) → Whole z k x j
ended_ok z [] x j h = record { tree = ap (λ u. u.0) (some_is (z, []) (x, j) h); rest = refl }
ended_ok z (token ∷ k) x j h = absurd (cc)

spelled : (z : Tree) (i k : Input) → k ≡ [] → Took tree_tokens (λ x n. IsTree x) z i k → Spells z i
spelled z i k none took = record { text = took.text ∙ ap (λ u. tree_tokens z ++ u) none ∙ append-nil (tree_tokens z); good = took.good }

-- what is read as a program spells it
pub spells : (i : Input) (x : Tree) (j : Input) → g.program i ≡ Some (x, j) → Spells x i
unfolding g.program
spells i x j is = bind_ok (g.tree i) _ (x, j) is (λ z k was h1.
    let whole = ended_ok z k x j h1 in
    subst (λ u. Spells u i) whole.tree (spelled z i k whole.rest ((tree_exact 0).sound i z k was)))

-- what spells a program is read as it
pub reads : (i : Input) (x : Tree) → Spells x i → g.program i ≡ Some (x, [])
unfolding g.program
reads i x s =
    let is : i ≡ tree_tokens x ++ [] = s.text ∙ sym (append-nil (tree_tokens x)) in
    let b : ℕ = suc (length (tree_tokens x)) in
    ap g.program is ∙ bind_takes (g.tree (tree_tokens x ++ [])) _ x [] ((tree_exact b).complete x [] (omega arith) s.good (λ u. cc))

-- two trees that spell the same tokens are equal
pub one_tree : (i : Input) (x y : Tree) → Spells x i → Spells y i → x ≡ y
one_tree i x y one two = ap (λ z. z.0) (some_is (x, []) (y, []) (sym (reads i x one) ∙ reads i y two))
