-- Values in scope, as they are to the rules.
use Rattle.std.proofs.Common.{◌≡◌, List, [], ◌∷◌, ◌++◌, Some, ap, sym, refl, subst}
use Rattle.std.proofs.lemmas.Map.Made.{lookup-map_values}
use Rattle.std.specs.Prelude.{option_map, cond, Bool, true, false}
use Rattle.std.specs.Str.{bytes_eq}
use Rattle.mo_scopes.specs.Scopes.{named}
use Rattle.type_terms.specs.declared.form.Form.{Form}
use Rattle.typing_rules.specs.AbstractSyntax.{Bytes}
use Rattle.typing_rules.specs.Contexts.{Scope}
use Rattle.type_definitions.specs.Tables.{Grows, Within}
use Rattle.type_definitions.proofs.Meanings.{within_on}
use Rattle.value_scopes.specs.declared.bound.Bound.{Bound}
use Rattle.value_scopes.specs.Values.{bound_in, scope_in, Hold}

pub value_seen : (later : List Form) (s : List (Bytes × Bound)) (x : Bytes) → named (scope_in later s) x ≡ option_map (bound_in later) (named s x)
value_seen later s x = lookup-map_values (bound_in later) (bytes_eq x) s

pub scope_joined : (later : List Form) (s t : List (Bytes × Bound)) → scope_in later (s ++ t) ≡ scope_in later s ++ scope_in later t
scope_joined later [] t = refl
scope_joined later (q ∷ s) t = ap (λ (l : Scope). (q.0, bound_in later q.1) ∷ l) (scope_joined later s t)

-- the types of values stay terms of the table
pub hold_on : (old new : List Form) (s : List (Bytes × Bound)) → Grows old new → Hold old s → Hold new s
hold_on old new [] g h = tt
hold_on old new (q ∷ s) g h = (within_on old new q.1.kind g h.0, hold_on old new s g h.1)

pub hold_joined : (forms : List Form) (s t : List (Bytes × Bound)) → Hold forms s → Hold forms t → Hold forms (s ++ t)
hold_joined forms [] t h k = k
hold_joined forms (q ∷ s) t h k = (h.0, hold_joined forms s t h.1 k)

-- what is found is one of them
pub found_holds : (forms : List Form) (s : List (Bytes × Bound)) (x : Bytes) (b : Bound) → Some b ≡ named s x → Hold forms s → Within forms b.kind
found_holds forms [] x b e h = cc
found_holds forms (q ∷ s) x b e h = by (bytes_eq x q.0) e (λ k. found_holds forms s x b k h.1) where
  by : (here : Bool) → Some b ≡ cond here (Some q.1) (named s x) → (Some b ≡ named s x → Within forms b.kind) → Within forms b.kind
  by true k f = let g : b ≡ q.1 = cc in subst (λ (a : Bound). Within forms a.kind) (sym g) h.0
  by false k f = f k
