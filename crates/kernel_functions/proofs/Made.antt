-- Functions as they are made.
use Rattle.std.proofs.Common.{◌≡◌, ◌∙◌, ℕ, ◌+◌, List, [], ◌∷◌, ◌++◌, map, refl, ap, arith}
use Rattle.std.specs.Prelude.{Result, Ok, Err, IfOk}
use Rattle.mo_types.specs.declared.node.Sort.TheVariants as sort
use Rattle.mo_types.specs.declared.node.TypeId.{TypeId}
use Rattle.typed_tree.specs.declared.expression.Function.{Function, roll-Function}
use Rattle.typed_tree.specs.declared.expression.TypedExpression.{TypedExpression}
use Rattle.typed_tree.specs.declared.pattern.TypedPattern.{TypedPattern}
use Rattle.typing_rules.specs.Terms as t
use Rattle.typing_rules.specs.TypeScopes as scopes
use Rattle.abstract_tree.specs.declared.expressions.Expression.{Expression}
use Rattle.abstract_types.specs.declared.patterns.Signature.{Signature}
use Rattle.abstract_types.specs.declared.types.TypeParameter.{TypeParameter}
use Rattle.abstract_types.specs.TypeView.{parameter}
use Rattle.value_scopes.specs.declared.note.Note.{Note}
use Rattle.met_types.specs.States.{State}
use Rattle.kernel_counts.specs.Counting.{Counts}
use Rattle.desugaring.specs.Frames.{Entry, Frame, Unnamed, in_function, with_entries}
use Rattle.kernel_frames.specs.declared.names.Mark.{Mark}
use Rattle.kernel_frames.specs.Places.{Cuts, IsMark}
use Rattle.kernel_types.specs.Numbers.{number}
use Rattle.kernel_patterns.specs.Written.{patterns_of}
use Rattle.kernel_parts.specs.Views.{tree_of}
use Rattle.kernel_scopes.specs.Bound.{parameters_of}
use Rattle.kernel_scopes.proofs.Around.{same_frame}
use Rattle.kernel_functions.specs.Functions.{function_in, made_of, nodes_of, parameter_of}

parameters_are : (s : State) (xs : List TypeParameter) → map (parameter_of s) xs ≡ map (λ (n : ℕ). number s (t.Parameter n)) (scopes.places_of (scopes.names_of (map parameter xs)))
parameters_are s [] = refl
parameters_are s (x ∷ xs) = ap (λ (l : List TypeId). parameter_of s x ∷ l) (parameters_are s xs)

abbrev as_made : List TypeId → ℕ → List TypedPattern → TypedExpression → Function
as_made ts n ps e = roll-Function (record { sort = sort.Local; type_parameters = ts; nodes = n; parameters = ps; body = e })

pub made_is : (s : State) (g : Signature Note) (ts : List TypeId) (n : ℕ) (ps : List TypedPattern) (e : TypedExpression) → ts ≡ map (parameter_of s) g.generics → ps ≡ patterns_of s g.parameters → as_made ts n ps e ≡ made_of s g n e
made_is s g ts n ps e h j =
    ap (λ (l : List TypeId). as_made l n ps e) (h ∙ parameters_are s g.generics)
    ∙ ap (λ (l : List TypedPattern). as_made (map (λ (a : ℕ). number s (t.Parameter a)) (scopes.places_of (scopes.names_of (map parameter g.generics)))) n l e) j

pub function_is : (s : State) (f : Frame) (g : Signature Note) (body : Expression Note) (n : ℕ) (e : TypedExpression) → n ≡ nodes_of s g body → e ≡ tree_of s (in_function (parameters_of s g.parameters) f) body → made_of s g n e ≡ function_in s f g body
function_is s f g body n e h k = ap (λ (m : ℕ). made_of s g m e) h ∙ ap (λ (z : TypedExpression). made_of s g (nodes_of s g body) z) k

-- one name more, and none any more
module _ (old mid now : Frame) (e : mid ≡ with_entries (Unnamed ∷ []) old) (h : now ≡ mid) where
  grown : now.names ≡ (Unnamed ∷ []) ++ old.names
  grown = ap (λ (f : Frame). f.names) (h ∙ e)

  pub cuts : (m : Mark) → IsMark m old.names → Cuts m now.names
  cuts m i = record { more = Unnamed ∷ []; before = old.names; whole = grown; mark = i }

  pub back : (m : Mark) (new : Frame) → IsMark m old.names → new.exits ≡ now.exits → ((more before : List Entry) → now.names ≡ more ++ before → IsMark m before → new.names ≡ before) → new ≡ old
  back m new i k c = same_frame new old (c (Unnamed ∷ []) old.names grown i) (k ∙ ap (λ (f : Frame). f.exits) (h ∙ e))

pub both_counted : {E : Type 0} (r : Result ℕ E) (a b m : ℕ) → Counts a 0 m → IfOk r (Counts b m) → IfOk r (λ n. n ≡ a + b)
both_counted (Ok n) a b m h k = let e : m ≡ 0 + a = h.is in let g : n ≡ m + b = k.is in omega (arith, e, g)
both_counted (Err x) a b m h k = tt
