-- Bindings inside out, and behind other layers.
use Rattle.std.proofs.Common.{◌≡◌, ◌∙◌, List, [], ◌∷◌, ◌++◌, map, refl, sym, ap}
use Rattle.core_ir.specs.declared.expression.Binding.{Binding}
use Rattle.core_ir.specs.declared.expression.Binding.TheVariants as bindings
use Rattle.core_ir.specs.declared.expression.Expression.{Expression}
use Rattle.core_ir.specs.Expressions.{Exp, Do, Bind, AnExp, NoExp}
use Rattle.core_ir.specs.View.{binding, block, expression}
use Rattle.core_layers.specs.declared.layer.Layer.{Layer}
use Rattle.core_layers.specs.declared.layer.Layer.TheVariants as outer
use Rattle.core_layers.specs.Layers.{held, layered}
use Rattle.core_layers.proofs.Adding.{layers_behind}
use Rattle.core_layers.proofs.Views.{value_is}

pub held_more : (bs : List Binding) (b : Binding) (e : Exp) → held (bs ++ b ∷ []) e ≡ binding b (held bs e)
held_more [] b e = refl
held_more (c ∷ bs) b e = held_more bs b (binding c e)

pub block_more : (bs : List Binding) (b : Binding) (e : Exp) → block (map binding (bs ++ b ∷ [])) e ≡ block (map binding bs) (binding b e)
block_more [] b e = refl
block_more (c ∷ bs) b e = ap (λ x. binding c x) (block_more bs b e)

-- a value that is bound behind other layers
pub let_behind : (ls : List Layer) (x : Expression) (fails e : Exp) → layered (ls ++ outer.Binding (bindings.Value x) ∷ []) fails e ≡ layered ls fails (Do (Bind e) (AnExp (expression x) NoExp))
let_behind ls x fails e = layers_behind ls (outer.Binding (bindings.Value x) ∷ []) fails e ∙ ap (λ y. layered ls fails y) (value_is x e)
