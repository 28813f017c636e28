-- Declarations.
use Rattle.std.proofs.Common.{◌≡◌, ◌∙◌, ℕ, suc, ◌+◌, ◌<◌, ◌≤◌, List, [], ◌∷◌, ◌++◌, drop, get_or, length, map, refl, sym, ap, ap₂, subst, append-nil, arith}
use Rattle.std.proofs.lemmas.List.{at_drop_all, at_drop_more}
use Rattle.core_ir.specs.Expressions as core
use Rattle.core_ir.specs.declared.primitive.Primitive.TheVariants as primitive
use Rattle.typed_tree.specs.declared.action.Action.TheVariants as action
use Rattle.typed_tree.specs.declared.expression.Step.{Step}
use Rattle.typed_tree.specs.Language.{Exp, Do, NoExp, AnExp}
use Rattle.typed_tree.specs.Patterns.{Pat, Wildcard, Bind}
use Rattle.typed_tree.specs.View.{StepView, block, declaration, kept_or}
use Rattle.elaboration.specs.Checks.{Checked, around_all, behind, fails}
use Rattle.elaboration.specs.Elaboration.{elaborate, on_nearest}
use Rattle.elaboration.specs.Members.{Elaborated, does, let_in}
use Rattle.elaboration.specs.Scopes.{Place, Local, Scope, beside, inside, one, places_from, read_name, under}
use Rattle.core_layers.specs.declared.layer.Layer.{Layer}
use Rattle.core_layers.specs.Layers.{layered}
use Rattle.core_parts.specs.Making.{Added, Declares, Grouped, Groups, IsMade, Matched, Turn, around_turn, begun}
use Rattle.core_scopes.specs.Seen.{IsWithin}
use Rattle.core_scopes.proofs.Within.{behind_within, within_both, within_same}
use Rattle.core_ir.specs.declared.expression.Expression.{Expression}
use Rattle.core_ir.specs.View.{expression}
use Rattle.typed_tree.specs.Substitution.{count}
use Rattle.core_parts.proofs.Going.{Around, next_declaration}
use Rattle.core_blocks.specs.Kept.{chosen}

-- ---- scopes

pub under_one : (s : Scope) → under 1 s ≡ behind (on_nearest Bind s) s
under_one s =
    let level : 0 + s.names ≡ s.names = omega arith in
    let more : 1 + s.names ≡ suc s.names = omega arith in
    ap₂ (λ (l n : ℕ). record { places = Local l ∷ s.places; names = n; exits = s.exits; labels = s.labels }) level more

pub beside_one : (s : Scope) → beside 1 s ≡ behind (on_nearest Wildcard s) s
beside_one s =
    let more : 1 + s.names ≡ suc s.names = omega arith in
    ap (λ (n : ℕ). record { places = s.places; names = n; exits = s.exits; labels = s.labels }) more

-- ---- values that patterns meet

pub matched_declares : (d : Exp → Exp) (p : Pat) (e : Exp) (s t : Scope) (old new : Groups) (outer layers : List Layer) (x : core.Exp)
    → ((b : Exp) → d b ≡ around_turn (Matched p e) b) → x ≡ (elaborate s (length old) e).exp → Added (elaborate s (length old) e).groups old new
    → t ≡ behind (on_nearest p s) s → ((y : core.Exp) → layered layers fails y ≡ layered outer fails (let_in x (around_all (on_nearest p s).checks fails y)))
    → Declares d s t old new outer layers
matched_declares d p e s t old new outer layers x is value added there around = record {
  turn = Matched p e;
  is = is;
  scope = there;
  around = λ y. around y ∙ ap (λ z. layered outer fails (let_in z (around_all (on_nearest p s).checks fails y))) value;
  groups = added;
}

-- `var x = e`
pub variable_declares : (d : Exp → Exp) (e : Exp) (s t : Scope) (old new : Groups) (outer layers : List Layer) (x : core.Exp)
    → ((b : Exp) → d b ≡ around_turn (Matched Bind (Do action.New (AnExp e NoExp))) b) → x ≡ (elaborate s (length old) e).exp → Added (elaborate s (length old) e).groups old new
    → t ≡ under 1 s → ((y : core.Exp) → layered layers fails y ≡ layered outer fails (let_in (does primitive.New (one x)) y)) → Declares d s t old new outer layers
variable_declares d e s t old new outer layers x is value added there around =
    let a : Elaborated = elaborate s (length old) e in
    let Of : List _ → Type 0 = λ gs. Added gs old new in
    matched_declares d Bind (Do action.New (AnExp e NoExp)) s t old new outer layers (does primitive.New (one x)) is (ap (λ z. does primitive.New (one z)) value) (subst Of (sym (append-nil a.groups)) added)
    (there ∙ under_one s) around

-- ---- what was kept

kept_at : (s : Scope) (n x : ℕ) (e : Exp) → elaborate s n (kept_or x e)
    ≡ record { exp = chosen s.names (1 + s.names) (1 + (1 + s.names)) (read_name s x) (elaborate (inside (beside 1 s)) (n + 0) e).exp; groups = (elaborate (inside (beside 1 s)) (n + 0) e).groups ++ [] }
kept_at s n x e = refl

pub kept_is : (s : Scope) (n x : ℕ) (e : Exp) → elaborate s n (kept_or x e)
    ≡ record { exp = chosen s.names (suc s.names) (suc (suc s.names)) (read_name s x) (elaborate (inside (beside 1 s)) n e).exp; groups = (elaborate (inside (beside 1 s)) n e).groups }
kept_is s n x e =
    let first : 1 + s.names ≡ suc s.names = omega arith in
    let second : 1 + (1 + s.names) ≡ suc (suc s.names) = omega arith in
    let number : n + 0 ≡ n = omega arith in
    let D : ℕ → Elaborated = λ m. elaborate (inside (beside 1 s)) m e in
    let R : ℕ → ℕ → Elaborated → Elaborated = λ a b d. record { exp = chosen s.names a b (read_name s x) d.exp; groups = d.groups } in
    kept_at s n x e ∙ (ap (λ gs. record { exp = chosen s.names (1 + s.names) (1 + (1 + s.names)) (read_name s x) (D (n + 0)).exp; groups = gs }) (append-nil (D (n + 0)).groups)
    ∙ (ap₂ (λ a b. R a b (D (n + 0))) first second ∙ ap (λ m. R (suc s.names) (suc (suc s.names)) (D m)) number))

-- ---- the rest of a list of declarations

pub more_steps : (xs : List Step) (i : ℕ) (x : Step) (v : Exp) (s t : Scope) (whole : Elaborated) (old now new : Groups) (outer layers : List Layer)
    → i < length xs → x ≡ get_or xs i x → Around whole (elaborate s (length now) (block (map declaration (drop i xs)) v)) old now outer
    → Declares (declaration x) s t now new outer layers → Around whole (elaborate t (length new) (block (map declaration (drop (i + 1) xs)) v)) old new layers
more_steps xs i x v s t whole old now new outer layers below is so one =
    let F : List Step → Elaborated = λ ys. elaborate s (length now) (block (map declaration ys) v) in
    let Of : Elaborated → Type 0 = λ r. Around whole r old now outer in
    let At : Step → Type 0 = λ y. Around whole (F (y ∷ drop (i + 1) xs)) old now outer in
    next_declaration (declaration x) s t whole old now new outer layers (block (map declaration (drop (i + 1) xs)) v) (subst At (sym is) (subst Of (at_drop_more F xs i x below) so)) one

pub no_more_steps : (xs : List Step) (i : ℕ) (v : Exp) (s : Scope) (whole : Elaborated) (old now : Groups) (layers : List Layer)
    → length xs ≤ i → Around whole (elaborate s (length now) (block (map declaration (drop i xs)) v)) old now layers → Around whole (elaborate s (length now) v) old now layers
no_more_steps xs i v s whole old now layers past so =
    let F : List Step → Elaborated = λ ys. elaborate s (length now) (block (map declaration ys) v) in
    let Of : Elaborated → Type 0 = λ r. Around whole r old now layers in
    subst Of (at_drop_all F xs i past) so

pub turn_within : (t : Turn) (s : Scope) (n : ℕ) → IsWithin s (begun t s n).scope
turn_within (Matched p e) s n = behind_within (on_nearest p s) s
turn_within (Grouped fns) s n = record { names = places_from s.names (count fns); labels = []; places = refl; exits = refl }

pub declared_within : (d : Exp → Exp) (r s t : Scope) (old new : Groups) (outer layers : List Layer) → IsWithin r s → Declares d s t old new outer layers → IsWithin r t
declared_within d r s t old new outer layers h one =
    within_same r (begun one.turn s (length old)).scope t one.scope (within_both r s (begun one.turn s (length old)).scope h (turn_within one.turn s (length old)))

-- the value behind all of them
pub around_made : (whole rest : Elaborated) (old now new : Groups) (layers : List Layer) (last made : Expression)
    → Around whole rest old now layers → IsMade rest now new last → expression made ≡ layered layers fails (expression last) → IsMade whole old new made
around_made whole rest old now new layers last made so one is = (is ∙ (ap (λ e. layered layers fails e) one.0 ∙ so.exp), one.1 ∙ so.groups)
