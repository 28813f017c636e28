-- What reading by the rules says of trees.
use Rattle.std.proofs.Common.{◌≡◌, List, length, Some, None, Result, Ok, Err, refl, sym, ap, ◌∙◌, subst}
use Rattle.mo_syntax.specs.declared.token.Token.{Token}
use Rattle.mo_syntax.specs.declared.program.Tree.{Tree}
use Rattle.mo_syntax.specs.ProgramGrammar.{Spells}
use Rattle.mo_parser_base.specs.Input.{Input, kinds}
use Rattle.mo_depth.specs.Depth.{AreShallow}
use Rattle.mo_parser.specs.declared.fault.ParseFault.{ParseFault}
use Rattle.mo_parser.specs.declared.fault.ParseFault.TheVariants as faults
use Rattle.mo_parser.specs.Answers.{Finds, IsRead, OneTree, SpellNone}
use Rattle.mo_parser_programs.specs.Programs.{program}
use Rattle.mo_parser_programs.proofs.Programs as programs

-- the tokens are those of a cursor at its start
pub is_spelled : (k i : Input) (x : Tree) (j : Input) → i ≡ k → program i ≡ Some (x, j) → Spells x k
is_spelled k i x j is h = subst (λ u. Spells x u) is (programs.spells i x j h)

pub is_none : (k i : Input) → i ≡ k → program i ≡ None → SpellNone k
is_none k i is h tree s = let some = programs.reads k tree s in let never : program k ≡ None = sym (ap program is) ∙ h in absurd (cc)

pub one : OneTree
one = programs.one_tree

-- the tree that spells the tokens is the one that was read
pub only : (tokens : List Token) (r : Result Tree ParseFault) → IsRead tokens r → (tree : Tree) → Spells tree (kinds tokens) → AreShallow (length tokens) tokens → Finds tree r
only tokens (Ok x) h tree s shallow = one (kinds tokens) x tree h s
only tokens (Err (faults.TooDeep place)) h tree s shallow = absurd h
only tokens (Err (faults.Syntax place)) h tree s shallow = absurd (h.0 tree s)
only tokens (Err faults.Memory) h tree s shallow = refl
