-- Loads, literals and alternatives as checks.
use Rattle.std.proofs.Common.{◌≡◌, ◌∙◌, ℕ, suc, [], ◌∷◌, ◌++◌, refl, sym, ap, ap₂, subst}
use Rattle.core_ir.specs.declared.expression.Binding.TheVariants as binding
use Rattle.core_ir.specs.declared.expression.Expression.{Expression}
use Rattle.core_ir.specs.declared.primitive.Primitive.TheVariants as primitive
use Rattle.core_ir.specs.Expressions.{Exp, Do, Bind, Choose}
use Rattle.core_ir.specs.View.{expression}
use Rattle.typed_tree.specs.declared.literal.Literal.{Literal}
use Rattle.typed_tree.specs.declared.literal.Literal.TheVariants as literal
use Rattle.typed_tree.specs.declared.pattern.PatternForm.{PatternForm}
use Rattle.typed_tree.specs.declared.pattern.PatternForm.TheVariants as form
use Rattle.typed_tree.specs.declared.pattern.TypedPattern.{TypedPattern, fold_out-TypedPattern}
use Rattle.typed_tree.specs.Patterns.{Pat, Either}
use Rattle.typed_tree.specs.PatternView.{LabelledPat, form_step, field_step, pattern_step, literal_part, literal_pattern, pattern, pattern_form}
use Rattle.typed_tree.proofs.Views.{pattern_views}
use Rattle.elaboration.specs.Scopes.{one}
use Rattle.elaboration.specs.Checks as checks
use Rattle.elaboration.specs.Checks.{check, truth, Named}
use Rattle.core_layers.specs.declared.layer.Checked.{Checked}
use Rattle.core_layers.specs.declared.layer.Layer.{Layer}
use Rattle.core_layers.specs.declared.layer.Layer.TheVariants as outer
use Rattle.core_layers.specs.declared.source.Piece.{Piece}
use Rattle.core_layers.specs.declared.source.Source.{Source}
use Rattle.core_layers.specs.declared.source.Source.TheVariants as source
use Rattle.core_layers.specs.Layers.{either_around, layer, seen_source, Adds, Loads}
use Rattle.core_layers.proofs.Adding.{adds_both, adds_one}
use Rattle.core_layers.proofs.Views.{value_is}

-- a part has a name behind all others then
pub level_part : (s : Source) (p : Piece) (l n : ℕ) → s ≡ source.Part p l → n ≡ checks.level_of (seen_source s n) n
level_part s p l n is = let Of : Source → Type 0 = λ t. n ≡ checks.level_of (seen_source t n) n in subst Of (sym is) refl

pub loads_part : (s : Source) (p : Piece) (l : ℕ) (x y : Checked) (v : Expression) → s ≡ source.Part p l → expression v ≡ checks.value_of (seen_source s x.names) x.names
    → y.layers.items ≡ x.layers.items ++ outer.Binding (binding.Value v) ∷ [] → y.names ≡ suc x.names → y.bound.items ≡ x.bound.items → Loads (seen_source s x.names) x y
loads_part s p l x y v is value layers names bound =
    let Of : Source → Type 0 = λ t. expression v ≡ checks.value_of (seen_source t x.names) x.names → Loads (seen_source t x.names) x y in
    let there : Of (source.Part p l) = λ e.
    adds_one (checks.Load (checks.value_of (seen_source (source.Part p l) x.names) x.names)) (outer.Binding (binding.Value v)) x y (suc x.names)
    (λ f b. value_is v b ∙ ap (λ (z : Exp). Do (Bind b) (one z)) e) layers names bound in
    subst Of (sym is) there value

-- null has a check of its own
pub null_adds : (l : Literal) (s : checks.Source) (x y : Checked) (v : Expression) → l ≡ literal.Null → expression v ≡ checks.value_of s x.names
    → y.layers.items ≡ x.layers.items ++ outer.IsNull v ∷ [] → y.names ≡ x.names → y.bound.items ≡ x.bound.items → Adds (check (literal_pattern l) s x.names) x y
null_adds l s x y v is value layers names bound =
    let Of : Literal → Type 0 = λ t. Adds (check (literal_pattern t) s x.names) x y in
    subst Of (sym is) (adds_one (checks.IsNull (checks.value_of s x.names)) (outer.IsNull v) x y x.names (λ f b. ap (λ (z : Exp). checks.around (checks.IsNull z) f b) value) layers names bound)

-- and all others are compared
pub literal_adds : (l : Literal) (s : checks.Source) (x y : Checked) (k : Layer) → (l ≡ literal.Unit → ⊥) → (l ≡ literal.Null → ⊥)
    → ((f e : Exp) → layer k f e ≡ checks.around (checks.same (literal_part l) (checks.value_of s x.names)) f e)
    → y.layers.items ≡ x.layers.items ++ k ∷ [] → y.names ≡ x.names → y.bound.items ≡ x.bound.items → Adds (check (literal_pattern l) s x.names) x y
literal_adds literal.Unit s x y k unit null same layers names bound = absurd (unit refl)
literal_adds literal.Null s x y k unit null same layers names bound = absurd (null refl)
literal_adds (literal.Flag b) s x y k unit null same layers names bound = adds_one (checks.same (literal_part (literal.Flag b)) (checks.value_of s x.names)) k x y x.names same layers names bound
literal_adds (literal.Number n) s x y k unit null same layers names bound = adds_one (checks.same (literal_part (literal.Number n)) (checks.value_of s x.names)) k x y x.names same layers names bound
literal_adds (literal.Character c) s x y k unit null same layers names bound = adds_one (checks.same (literal_part (literal.Character c)) (checks.value_of s x.names)) k x y x.names same layers names bound
literal_adds (literal.Text t) s x y k unit null same layers names bound = adds_one (checks.same (literal_part (literal.Text t)) (checks.value_of s x.names)) k x y x.names same layers names bound
literal_adds (literal.Blob t) s x y k unit null same layers names bound = adds_one (checks.same (literal_part (literal.Blob t)) (checks.value_of s x.names)) k x y x.names same layers names bound
literal_adds (literal.Actor p) s x y k unit null same layers names bound = adds_one (checks.same (literal_part (literal.Actor p)) (checks.value_of s x.names)) k x y x.names same layers names bound

pattern_is : (p : TypedPattern) (f : PatternForm) → p.form ≡ f → pattern p ≡ pattern_form f
unfolding pattern pattern_form
pattern_is p f e = fold_out-TypedPattern Pat LabelledPat Pat form_step field_step pattern_step p ∙ ap pattern_form e

-- alternatives are one check of a value with a name
pub either_adds : (t first second : TypedPattern) (s : Source) (x y z : Checked) (level : ℕ) (a b : Expression) (k : Layer)
    → t.form ≡ form.Either first second → level ≡ checks.level_of (seen_source s x.names) x.names → Loads (seen_source s x.names) x y
    → expression a ≡ truth (check (pattern first) (Named level) y.names).checks → expression b ≡ truth (check (pattern second) (Named level) y.names).checks
    → ((f e : Exp) → layer k f e ≡ either_around (expression a) (expression b) f e)
    → z.layers.items ≡ y.layers.items ++ k ∷ [] → z.names ≡ y.names → z.bound.items ≡ y.bound.items
    → Adds (check (pattern t) (seen_source s x.names) x.names) x z
either_adds t first second s x y z level a b k is at loads one_is other_is same layers names bound =
    let v : checks.Source = seen_source s x.names in
    let n : ℕ = checks.names_with v x.names in
    let sides : checks.Check = checks.either (check (pattern first) (Named (checks.level_of v x.names)) n).checks (check (pattern second) (Named (checks.level_of v x.names)) n).checks in
    let side : (p : Pat) → truth (check p (Named level) y.names).checks ≡ truth (check p (Named (checks.level_of v x.names)) n).checks =
    λ p. ap₂ (λ l m. truth (check p (Named l) m).checks) at loads.names in
    let Of : Pat → Type 0 = λ p. Adds (check p v x.names) x z in
    subst Of (sym (pattern_is t (form.Either first second) is ∙ pattern_views.either first second))
    (adds_both (record { checks = checks.loads v; names = n; bound = [] }) (record { checks = sides ∷ []; names = n; bound = [] }) x y z loads
    (adds_one sides k y z n (λ f e. same f e ∙ ap₂ (λ p q. either_around p q f e) (one_is ∙ side (pattern first)) (other_is ∙ side (pattern second))) layers (names ∙ loads.names) bound))
