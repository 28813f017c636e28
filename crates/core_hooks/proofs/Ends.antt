-- What starts and saves end with.
use Rattle.std.proofs.Common.{◌≡◌, ◌∙◌, ℕ, zero, suc, ◌+◌, ◌<◌, List, [], ◌∷◌, ◌++◌, Some, None, get_or, length, map, sym, ap, ap₂, append-nil, append_assoc, arith}
use Rattle.std.specs.Prelude.{replicate, take}
use Rattle.core_ir.specs.declared.expression.CoreBody.{CoreBody}
use Rattle.core_ir.specs.declared.expression.Expression.{Expression}
use Rattle.core_ir.specs.Expressions as core
use Rattle.core_ir.specs.Expressions.{Body}
use Rattle.core_ir.specs.Programs.{Group}
use Rattle.core_ir.specs.View as core_view
use Rattle.core_ir.specs.View.{core_body}
use Rattle.typed_tree.specs.declared.expression.Function.{Function}
use Rattle.typed_tree.specs.declared.program.StableVariable.{StableVariable}
use Rattle.typed_tree.specs.View.{function}
use Rattle.elaboration.specs.Checks.{locals}
use Rattle.elaboration.specs.Members.{let_in}
use Rattle.elaboration.specs.Programs.{held_in, start_end, tuple, values_of}
use Rattle.elaboration.specs.Scopes.{Place, Nowhere, Scope}
use Rattle.core_members.specs.Seen.{seen_groups}
use Rattle.core_parts.specs.Making.{Added, BodyElaborated, BodyMade, Groups, IsMade, elaborate_body}
use Rattle.core_parts.proofs.Going.{next_number}
use Rattle.core_hooks.specs.Hooks.{cells_behind, held_at, hook_view, on_upgrade}

-- under the functions behind the declarations
abbrev pub under_functions : ℕ → Scope → Scope
under_functions k s = record s { places = replicate k Nowhere ++ s.places; names = suc s.names }

pub hook_ends : (s : Scope) (k : ℕ) (hook : Function) (levels : List ℕ) (old mid new : Groups) (b : CoreBody) (made : Expression)
    → BodyMade (elaborate_body (under_functions k s) (length old) (function hook)) old mid b → Added (record { sees = s.names; bodies = core_body b ∷ [] } ∷ []) mid new
    → core_view.expression made ≡ core.Functions (length mid) (let_in (on_upgrade (suc s.names)) (tuple (values_of (2 + s.names) (locals levels))))
    → IsMade (start_end s (length old) k (locals levels) (Some (hook_view hook))) old new made
hook_ends s k hook levels old mid new b made one added is =
    let n : ℕ = length old in
    let B : BodyElaborated = elaborate_body (under_functions k s) n (function hook) in
    let g : Group Body = record { sees = s.names; bodies = B.body ∷ [] } in
    let x : core.Exp = let_in (on_upgrade (suc s.names)) (tuple (values_of (2 + s.names) (locals levels))) in
    let number : length mid ≡ n + length (B.groups ++ []) = next_number B.groups old mid one.1 ∙ ap (λ gs. n + length gs) (sym (append-nil B.groups)) in (
      is ∙ ap (λ m. core.Functions m x) number,
      added ∙ (ap₂ (λ (gs : List (Group Body)) (y : Body). gs ++ record { sees = s.names; bodies = y ∷ [] } ∷ []) one.1 one.0
          ∙ (append_assoc (seen_groups old) B.groups (g ∷ []) ∙ ap (λ gs. seen_groups old ++ (gs ++ g ∷ [])) (sym (append-nil B.groups)))),
    )

pub values_end : (s : Scope) (k : ℕ) (levels : List ℕ) (old : Groups) (made : Expression) → core_view.expression made ≡ tuple (values_of s.names (locals levels)) → IsMade (start_end s (length old) k (locals levels) None) old old made
values_end s k levels old made is = (is, sym (append-nil (seen_groups old)))

-- ---- saves

pub more_cells : (vs : List StableVariable) (functions i : ℕ) (v : StableVariable) (places : List Place) (es : List Expression) (x : Expression) → i < length vs → v ≡ get_or vs i v
    → core_view.expression x ≡ held_at places (functions + v.cell) → core_view.exps (map core_view.expression es) ≡ held_in places (cells_behind functions (take i vs))
    → core_view.exps (map core_view.expression (es ++ x ∷ [])) ≡ held_in places (cells_behind functions (take (i + 1) vs))
more_cells [] functions i v places es x below is at so = absurd (omega (arith, below))
more_cells (w ∷ ws) functions zero v places [] x below is at so = ap (λ (y : core.Exp). core.AnExp y core.NoExp) (at ∙ ap (λ (u : StableVariable). held_at places (functions + u.cell)) is)
more_cells (w ∷ ws) functions zero v places (e ∷ es) x below is at so = absurd (let z : core.AnExp (core_view.expression e) (core_view.exps (map core_view.expression es)) ≡ core.NoExp = so in cc)
more_cells (w ∷ ws) functions (suc i) v places [] x below is at so =
    absurd (let z : core.NoExp ≡ core.AnExp (held_at places (functions + w.cell)) (held_in places (cells_behind functions (take i ws))) = so in cc)
more_cells (w ∷ ws) functions (suc i) v places (e ∷ es) x below is at so =
    let z : core.AnExp (core_view.expression e) (core_view.exps (map core_view.expression es)) ≡ core.AnExp (held_at places (functions + w.cell)) (held_in places (cells_behind functions (take i ws))) = so in
    let first : core_view.expression e ≡ held_at places (functions + w.cell) = cc in
    let rest : core_view.exps (map core_view.expression es) ≡ held_in places (cells_behind functions (take i ws)) = cc in
    let below' : i < length ws = omega (arith, below) in
    let more : suc i + 1 ≡ suc (i + 1) = omega arith in
    rw more (ap₂ core.AnExp first (more_cells ws functions i v places es x below' is at rest))
