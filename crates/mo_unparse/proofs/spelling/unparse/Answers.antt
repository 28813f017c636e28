use Rattle.std.proofs.Common.{◌≡◌, List, ℕ, Result, Ok, Err, IfOk, ◌∙◌, sym, subst}
use Rattle.mo_num.specs.declared.memory.Memory.{Memory}
use Rattle.mo_syntax.specs.Parts.{Each}
use Rattle.mo_syntax.specs.ProgramGrammar.{tree_tokens}
use Rattle.mo_syntax.specs.declared.program.Tree.{Tree}
use Rattle.mo_syntax.specs.declared.token.TokenKind.{TokenKind}
use Rattle.mo_unparse.specs.Writable.{AreWritable, IsOfLanguage, LexesTo}
use Rattle.mo_unparse.proofs.TaggedPrograms.{tree_tagged}
use Rattle.mo_unparse.proofs.spelling.unparse.Goals as goal

-- the tags of a tree's tokens are in order
of_tree : (tree : Tree) (kinds : List TokenKind) (r : Result (List ℕ) Memory) → kinds ≡ tree_tokens tree → IfOk r (λ text. AreWritable kinds → LexesTo text kinds) →
    IfOk r (λ text. Each IsOfLanguage (tree_tokens tree) → LexesTo text (tree_tokens tree))
of_tree tree kinds (Ok text) e h = λ each. subst (LexesTo text) e (h (subst AreWritable (sym e) (each, tree_tagged tree)))
of_tree tree kinds (Err want) e h = tt

pub returns-clause-written : goal.returns-clause-written
returns-clause-written c = of_tree c.args.tree.now c.as_slice.result.now c.spell.result (c.as_slice.ensures ∙ c.in_ok-kinds.ensures) c.spell.ensures.written
