-- What layers stand for around what follows, and the checks of patterns among them.
use Rattle.std.specs.Prelude.{◌≡◌, ℕ, suc, List, [], ◌∷◌, ◌++◌, map, false, true}
use Rattle.core_ir.specs.declared.expression.Binding.{Binding}
use Rattle.mo_values.specs.declared.operation.Operation.TheVariants as op
use Rattle.core_ir.specs.declared.primitive.Constructor.{Constructor}
use Rattle.core_ir.specs.declared.primitive.Constructor.TheVariants as constructor
use Rattle.core_ir.specs.declared.primitive.Primitive.TheVariants as primitive
use Rattle.core_ir.specs.Expressions as tree
use Rattle.core_ir.specs.Expressions.{Exp, Do, Choose, Match}
use Rattle.core_ir.specs.View.{binding, exps, expression}
use Rattle.elaboration.specs.Scopes.{name, nothing, one}
use Rattle.elaboration.specs.Checks as checks
use Rattle.elaboration.specs.Checks.{around_all, flag, loads, names_with}
use Rattle.core_layers.specs.declared.layer.Checked.{Checked}
use Rattle.core_layers.specs.declared.layer.Fails.{Fails}
use Rattle.core_layers.specs.declared.layer.Fails.TheVariants as failing
use Rattle.core_layers.specs.declared.layer.Layer.{Layer}
use Rattle.core_layers.specs.declared.layer.Layer.TheVariants as outer
use Rattle.core_layers.specs.declared.nesting.Pending.{Pending}
use Rattle.core_layers.specs.declared.source.Piece.{Piece}
use Rattle.core_layers.specs.declared.source.Piece.TheVariants as piece
use Rattle.core_layers.specs.declared.source.Source.{Source}
use Rattle.core_layers.specs.declared.source.Source.TheVariants as source

abbrev pub seen_fails : Fails → Exp
seen_fails failing.Traps = checks.fails
seen_fails failing.GivesUnit = nothing
seen_fails failing.GivesFalse = flag false

-- a layer, with what is done where its check fails, around what follows
abbrev pub layer : Layer → Exp → Exp → Exp
layer (outer.Binding b) fails e = binding b e
layer (outer.Opens c v) fails e = Do (Match c e fails) (one (expression v))
layer (outer.IsNull v) fails e = Do (Match constructor.Present fails e) (one (expression v))
layer (outer.Holds p vs) fails e = Do (Choose p e fails) (exps (map expression vs))

abbrev pub layered : List Layer → Exp → Exp → Exp
layered [] fails e = e
layered (l ∷ ls) fails e = layer l fails (layered ls fails e)

abbrev pub IsCheck : Layer → Type 0
IsCheck (outer.Binding b) = ⊥
IsCheck l = Unit {0}

-- bindings, the innermost first, around an expression
abbrev pub held : List Binding → Exp → Exp
held [] e = e
held (b ∷ bs) e = held bs (binding b e)

abbrev pub pending : Pending → Exp
pending p = held p.bindings.items (expression p.value)

-- ---- patterns

abbrev pub taken : Piece → Exp → Exp
taken (piece.Number i) e = Do (tree.Operate (primitive.Operate (op.Project i))) (one e)
taken (piece.Field l) e = Do (tree.Operate (primitive.Operate (op.Field l.now))) (one e)

abbrev pub seen_source : Source → ℕ → checks.Source
seen_source (source.Named level) names = checks.Named level
seen_source (source.Part p level) names = checks.Part (taken p (name names level))

-- these checks are behind those that there were
pub record Adds (d : checks.Checked) (old new : Checked) : Type 0 where
  pub layers : (fails e : Exp) → layered new.layers.items fails e ≡ layered old.layers.items fails (around_all d.checks fails e)
  pub names : new.names ≡ d.names
  pub bound : new.bound.items ≡ old.bound.items ++ d.bound

-- the value has a name
abbrev pub Loads : checks.Source → Checked → Checked → Type 0
Loads v old new = Adds (record { checks = loads v; names = names_with v old.names; bound = [] }) old new

-- the value has the form
abbrev pub Opened : Constructor → checks.Source → Checked → Checked → Type 0
Opened c v old new = Adds (record { checks = checks.Opens c (checks.value_of v old.names) ∷ []; names = suc old.names; bound = [] }) old new

-- where the first truth value is `true`, or else the second one
abbrev pub either_around : Exp → Exp → Exp → Exp → Exp
either_around first second fails e = Do (Choose primitive.Copy e fails) (one (Do (Choose primitive.Copy (flag true) second) (one first)))
