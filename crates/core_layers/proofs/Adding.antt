-- Checks behind checks.
use Rattle.std.proofs.Common.{◌≡◌, ◌∙◌, ℕ, suc, List, [], ◌∷◌, ◌++◌, refl, sym, ap, append-nil, append_assoc}
use Rattle.core_ir.specs.Expressions.{Exp}
use Rattle.elaboration.specs.Checks as checks
use Rattle.elaboration.specs.Checks.{Check, around, around_all, unchecked, and}
use Rattle.core_layers.specs.declared.layer.Checked.{Checked}
use Rattle.core_layers.specs.declared.layer.Layer.{Layer}
use Rattle.core_layers.specs.Layers.{Adds, layer, layered}

pub around_behind : (cs ds : List Check) (f e : Exp) → around_all (cs ++ ds) f e ≡ around_all cs f (around_all ds f e)
around_behind [] ds f e = refl
around_behind (c ∷ cs) ds f e = ap (λ x. around c f x) (around_behind cs ds f e)

pub layers_behind : (ls ms : List Layer) (f e : Exp) → layered (ls ++ ms) f e ≡ layered ls f (layered ms f e)
layers_behind [] ms f e = refl
layers_behind (l ∷ ls) ms f e = ap (λ x. layer l f x) (layers_behind ls ms f e)

pub adds_none : (c : Checked) → Adds (unchecked c.names) c c
adds_none c = record { layers = λ f e. refl; names = refl; bound = sym (append-nil c.bound.items) }

pub adds_both : (c d : checks.Checked) (x y z : Checked) → Adds c x y → Adds d y z → Adds (and c d) x z
adds_both c d x y z g h = record {
  layers = λ f e. h.layers f e ∙ (g.layers f (around_all d.checks f e) ∙ ap (λ t. layered x.layers.items f t) (sym (around_behind c.checks d.checks f e)));
  names = h.names;
  bound = h.bound ∙ (ap (λ b. b ++ d.bound) g.bound ∙ append_assoc x.bound.items c.bound d.bound);
}

-- one more layer, which is this check
pub adds_one : (c : Check) (l : Layer) (x y : Checked) (n : ℕ) → ((f e : Exp) → layer l f e ≡ around c f e) → y.layers.items ≡ x.layers.items ++ l ∷ [] → y.names ≡ n → y.bound.items ≡ x.bound.items
    → Adds (record { checks = c ∷ []; names = n; bound = [] }) x y
adds_one c l x y n same more names bound = record {
  layers = λ f e. ap (λ ls. layered ls f e) more ∙ (layers_behind x.layers.items (l ∷ []) f e ∙ ap (λ t. layered x.layers.items f t) (same f e));
  names = names;
  bound = bound ∙ sym (append-nil x.bound.items);
}

-- a further name of the pattern
pub adds_name : (d : checks.Checked) (level : ℕ) (x y z : Checked) → Adds d x y → [] ≡ d.bound → z.layers.items ≡ y.layers.items → z.names ≡ y.names → z.bound.items ≡ y.bound.items ++ level ∷ []
    → Adds (record { checks = d.checks; names = d.names; bound = level ∷ [] }) x z
adds_name d level x y z h none layers names bound = record {
  layers = λ f e. ap (λ ls. layered ls f e) layers ∙ h.layers f e;
  names = names ∙ h.names;
  bound = bound ∙ ap (λ b. b ++ level ∷ []) (h.bound ∙ (ap (λ b. x.bound.items ++ b) (sym none) ∙ append-nil x.bound.items));
}
