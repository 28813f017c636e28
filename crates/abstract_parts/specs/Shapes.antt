-- The forms of expressions by how many expressions are their parts.
use Rattle.std.specs.Prelude.{ℕ, ◌+◌}
use Rattle.typing_rules.specs.AbstractSyntax.{Expression}
use Rattle.typing_rules.specs.AbstractSyntax as p
use Rattle.typing_rules.specs.Spans.{literal_of}
use Rattle.typing_rules.specs.AbstractExpressions.{ExpressionSpan, assigned}
use Rattle.abstract_parts.specs.declared.forms.LeafForm.{LeafForm}
use Rattle.abstract_parts.specs.declared.forms.LeafForm.TheVariants as leaf
use Rattle.abstract_parts.specs.declared.forms.OneForm.{OneForm}
use Rattle.abstract_parts.specs.declared.forms.OneForm.TheVariants as one
use Rattle.abstract_parts.specs.declared.forms.TwoForm.{TwoForm}
use Rattle.abstract_parts.specs.declared.forms.TwoForm.TheVariants as two

abbrev pub leaf_form : LeafForm → p.Form ℕ
leaf_form (leaf.Constant l) = p.Constant (literal_of l.now)
leaf_form (leaf.Name x) = p.Name x.now.bytes
leaf_form (leaf.Tag x) = p.Tag x.now.bytes
leaf_form (leaf.Break x) = p.Break x.now.bytes
leaf_form (leaf.Continue x) = p.Continue x.now.bytes
leaf_form leaf.Return = p.Return
leaf_form (leaf.ActorReference x) = p.ActorReference x.now.bytes

abbrev pub one_form : OneForm → Expression ℕ → p.Form ℕ
one_form one.Optional a = p.Optional a
one_form one.Negative a = p.Negative a
one_form one.Not a = p.Not a
one_form one.Do a = p.Do a
one_form one.DoOption a = p.DoOption a
one_form one.Await a = p.Await a
one_form one.Throw a = p.Throw a
one_form one.Assert a = p.Assert a
one_form one.Ignore a = p.Ignore a
one_form one.Debug a = p.Debug a
one_form one.Loop a = p.Loop a
one_form one.Return a = p.ReturnWith a
one_form one.Bang a = p.Bang a
one_form (one.Tagged x) a = p.Tagged x.now.bytes a
one_form (one.Break x) a = p.BreakWith x.now.bytes a
one_form (one.Member x) a = p.Member a x.now.bytes
one_form (one.Projection n) a = p.Projection a n

abbrev pub two_form : TwoForm → Expression ℕ → Expression ℕ → p.Form ℕ
two_form (two.Assign o) a b = assigned o a b
two_form (two.Binary o) a b = p.Binary o a b
two_form two.Index a b = p.Index a b
two_form two.When a b = p.When a b
two_form two.While a b = p.While a b
two_form two.LoopWhile a b = p.LoopWhile a b

-- so many tokens, and no expression among them
abbrev pub alone : ℕ → p.Form ℕ → ExpressionSpan
alone n form = record { size = n; from = λ k. p.exp k form }

-- so many tokens behind an only part
abbrev pub ahead : ExpressionSpan → ℕ → (Expression ℕ → p.Form ℕ) → ExpressionSpan
ahead a n f = record { size = a.size + n; from = λ k. p.exp k (f (a.from k)) }
