-- The first system function of a name.
use Rattle.std.proofs.Common.{◌≡◌, ◌∙◌, ℕ, ◌+◌, ◌<◌, ◌≤◌, Bool, true, false, cond, List, [], length, get_or, drop, Option, Some, None, option_map, is_some, refl, sym, ap, arith}
use Rattle.std.specs.Str.{bytes_eq}
use Rattle.mo_types.specs.declared.node.Sort.TheVariants as sort
use Rattle.mo_types.specs.declared.node.TypeId.{TypeId}
use Rattle.mo_types.specs.Heads.{map_option}
use Rattle.typed_tree.specs.declared.expression.Function.{Function, roll-Function}
use Rattle.typed_tree.specs.declared.expression.TypedExpression.{TypedExpression}
use Rattle.typed_tree.specs.declared.pattern.TypedPattern.{TypedPattern}
use Rattle.typing_rules.specs.AbstractSyntax.{Bytes, Declarations}
use Rattle.typing_rules.specs.AbstractSyntax as p
use Rattle.typing_rules.specs.Nodes.{in_expression}
use Rattle.typing_rules.specs.TypedTrees as trees
use Rattle.abstract_tree.specs.declared.declarations.Declaration.{Declaration}
use Rattle.abstract_tree.specs.declared.expressions.Expression.{Expression}
use Rattle.value_scopes.specs.declared.note.Note.{Note}
use Rattle.met_types.specs.States.{State}
use Rattle.judged_parts.specs.Parts.{See}
use Rattle.desugaring.specs.Frames.{Frame, in_function}
use Rattle.desugaring.specs.Programs as programs
use Rattle.kernel_types.specs.Numbers.{definitions, number}
use Rattle.kernel_counts.specs.Counting.{Counts}
use Rattle.kernel_parts.specs.Views.{expression_in, list_in, tree_of}
use Rattle.kernel_roles.specs.Roles.{Role, list_seen, role_in}
use Rattle.kernel_roles.proofs.Walking.{drop_all, drop_none, first_seen, next}
use Rattle.kernel_methods.specs.Methods.{body_at, first_body, first_of, system_in, system_of}

-- ---- the body of one declaration

pub none_as : (name : Bytes) (z w : Role) → z ≡ w → body_at name z ≡ None → None ≡ body_at name w
none_as name z w e h = sym h ∙ ap (body_at name) e

pub named_as : (x name : Bytes) (b c : Bool) (body : p.Expression trees.Note) → b ≡ bytes_eq x name → b ≡ c → cond c (Some body) None ≡ cond (bytes_eq x name) (Some body) None
named_as x name b c body e h = ap (λ (d : Bool). cond d (Some body) None) (sym h ∙ e)

-- ---- the first of a list

module _ (see : See) (name : Bytes) (ds : List (Declaration Note)) where
  abbrev body_from : ℕ → Option (p.Expression trees.Note)
  body_from i = first_body name (list_seen see (drop i ds))

  pub none_before : body_from 0 ≡ first_body name (list_seen see ds)
  none_before = ap (λ (l : List (Declaration Note)). first_body name (list_seen see l)) (drop_none ds)

  here : (i : ℕ) (d : Declaration Note) → i < length ds → d ≡ get_or ds i d → body_from i ≡ first_of (body_at name (role_in see d)) (body_from (i + 1))
  here i d l e = ap (λ (z : List (Declaration Note)). first_body name (list_seen see z)) (next ds i d l e) ∙ first_seen see (first_body name) d (drop (i + 1) ds)

  some_first : {A : Type 0} (o w rest : Option A) → o ≡ w → is_some o ≡ true → o ≡ first_of w rest
  some_first None w rest e h = cc
  some_first {A} (Some a) w rest e h = ap (λ (v : Option A). first_of v rest) e

  none_first : {A : Type 0} (o w rest : Option A) → o ≡ w → is_some o ≡ false → rest ≡ first_of w rest
  none_first {A} None w rest e h = ap (λ (v : Option A). first_of v rest) e
  none_first (Some a) w rest e h = cc

  pub found_here : (i : ℕ) (d : Declaration Note) (o : Option (p.Expression trees.Note)) → i < length ds → d ≡ get_or ds i d → o ≡ body_at name (role_in see d) → is_some o ≡ true → body_from i ≡ first_body name (list_seen see ds)
      → o ≡ first_body name (list_seen see ds)
  found_here i d o l e k h g = some_first o (body_at name (role_in see d)) (body_from (i + 1)) k h ∙ (sym (here i d l e) ∙ g)

  pub found_later : (i : ℕ) (d : Declaration Note) (o : Option (p.Expression trees.Note)) → i < length ds → d ≡ get_or ds i d → o ≡ body_at name (role_in see d) → is_some o ≡ false → body_from i ≡ first_body name (list_seen see ds)
      → body_from (i + 1) ≡ first_body name (list_seen see ds)
  found_later i d o l e k h g = none_first o (body_at name (role_in see d)) (body_from (i + 1)) k h ∙ (sym (here i d l e) ∙ g)

  pub found_never : (i : ℕ) → length ds ≤ i → body_from i ≡ first_body name (list_seen see ds) → None ≡ first_body name (list_seen see ds)
  found_never i l g = sym (ap (λ (z : List (Declaration Note)). first_body name (list_seen see z)) (drop_all ds i l)) ∙ g

-- whether there is one, as it is seen
pub seen_some : {A B : Type 0} (f : A → B) (o : Option A) (b : Bool) → is_some o ≡ b → is_some (map_option f o) ≡ b
seen_some f None b h = h
seen_some f (Some a) b h = h

-- ---- the function

abbrev as_system : List TypeId → ℕ → List TypedPattern → TypedExpression → Function
as_system ts n ps e = roll-Function (record { sort = sort.Local; type_parameters = ts; nodes = n; parameters = ps; body = e })

module _ (s : State) (f : Frame) where
  pub system_is : (body : Expression Note) (ts : List TypeId) (n : ℕ) (ps : List TypedPattern) (e : TypedExpression) → ts ≡ [] → Counts (in_expression (expression_in s body)) 0 n → ps ≡ [] → e ≡ tree_of s (in_function [] f) body → as_system ts n ps e ≡ system_in s f body
  system_is body ts n ps e a b c d =
      let z : 0 + in_expression (expression_in s body) ≡ in_expression (expression_in s body) = omega arith in
      ap (λ (l : List TypeId). as_system l n ps e) a
      ∙ (ap (λ (m : ℕ). as_system [] m ps e) (b.is ∙ z)
      ∙ (ap (λ (l : List TypedPattern). as_system [] (in_expression (expression_in s body)) l e) c
      ∙ ap (λ (z : TypedExpression). as_system [] (in_expression (expression_in s body)) [] z) d))

  named : (name x : Bytes) (body : p.Expression trees.Note) (b : Bool) (o : Option Function) (q : Option (p.Expression trees.Note)) → o ≡ option_map (system_of s f) q → cond b (Some (system_of s f body)) o ≡ option_map (system_of s f) (first_of (cond b (Some body) None) q)
  named name x body true o q h = refl
  named name x body false o q h = h

  system_seen : (name : Bytes) (ds : Declarations trees.Note) → programs.system_of (definitions s) (number s) f name ds ≡ option_map (system_of s f) (first_body name ds)
  system_seen name p.End = refl
  system_seen name (p.Then public n (p.Let q a) rest) = system_seen name rest
  system_seen name (p.Then public n (p.Var false x u a) rest) = system_seen name rest
  system_seen name (p.Then public n (p.Var true x u a) rest) = system_seen name rest
  system_seen name (p.Then public n (p.Func x g body) rest) = system_seen name rest
  system_seen name (p.Then public n (p.Method query context x g body) rest) = system_seen name rest
  system_seen name (p.Then public n (p.System x body) rest) = named name x.bytes body (bytes_eq x.bytes name) (programs.system_of (definitions s) (number s) f name rest) (first_body name rest) (system_seen name rest)
  system_seen name (p.Then public n (p.TypeAlias x parameters u) rest) = system_seen name rest
  system_seen name (p.Then public n (p.Class x g fields) rest) = system_seen name rest
  system_seen name (p.Then public n (p.NamedObject x fields) rest) = system_seen name rest
  system_seen name (p.Then public n (p.Evaluate a) rest) = system_seen name rest

  -- one that is found, and none
  pub system_found : (name : Bytes) (ds : List (Declaration Note)) (body : Expression Note) (made : Function) → Some (expression_in s body) ≡ first_body name (list_in s ds) → made ≡ system_in s f body
      → Some made ≡ programs.system_of (definitions s) (number s) f name (list_in s ds)
  system_found name ds body made h e = ap (λ (z : Function). Some z) e ∙ (ap (option_map (system_of s f)) h ∙ sym (system_seen name (list_in s ds)))

  pub system_missing : (name : Bytes) (ds : List (Declaration Note)) → None ≡ first_body name (list_in s ds) → None ≡ programs.system_of (definitions s) (number s) f name (list_in s ds)
  system_missing name ds h = ap (option_map (system_of s f)) h ∙ sym (system_seen name (list_in s ds))
