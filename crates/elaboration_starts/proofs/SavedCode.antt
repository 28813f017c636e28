-- What an upgrade saves of an elaborated program is code of what its cells hold, behind its hook.
use Rattle.std.proofs.Common.{◌≡◌, ℕ, zero, suc, ◌+◌, ◌-◌, ◌≤◌, false, List, [], ◌∷◌, ◌++◌, Option, Some, None, slice_get, refl, sym, ap, ◌∙◌, subst, arith}
use Rattle.std.specs.Prelude.{replicate}
use Rattle.std.specs.List.{AllByRecursion}
use Rattle.core_ir.specs.Programs.{Group}
use Rattle.core_ir.specs.Expressions as core
use Rattle.core_ir.specs.Expressions.{Body}
use Rattle.core_ir.specs.declared.primitive.Primitive.TheVariants as primitive
use Rattle.typed_tree.specs.Language as source
use Rattle.typed_tree.specs.Language.{Functions, NoFunction, AFunction}
use Rattle.typed_tree.specs.Patterns.{NoPat, Wildcard}
use Rattle.typed_tree.specs.Substitution.{count}
use Rattle.elaboration.specs.Scopes.{Place, Own, Nowhere, Scope, at_place, place_or_nowhere, one, labelled}
use Rattle.elaboration.specs.Checks.{behind}
use Rattle.elaboration.specs.Elaboration.{elaborate, on_nearest}
use Rattle.elaboration.specs.Members.{does}
use Rattle.elaboration.specs.Programs.{Hook, own_from, outside, hook_at, hook_of, cell_of, held_in, save_of, tuple}
use Rattle.elaboration_forms.specs.Elaborates.{IsPlace, HasPlace, HasGroups, Elaborates, ElaboratesAll}
use Rattle.elaboration_forms.proofs.Made.{elaborates}
use Rattle.elaboration_runs.specs.Entering.{Function, function_in}
use Rattle.elaboration_actors.specs.Saving.{reads_of, reading, hooked}
use Rattle.elaboration_starts.specs.Declarations.{names_of, hook_name, places_known}
use Rattle.elaboration_starts.specs.Starts.{HookStands}

-- a name of the actor
abbrev pub Owned : List Place → ℕ → Type 0
Owned places x = (i : ℕ) × (slice_get places x ≡ Some (Own i))

-- ---- cells among the declared names

own_there : (k n j : ℕ) → suc j ≤ n → slice_get (own_from k n) j ≡ Some (Own (k + j))
own_there k zero j h = absurd (let y : ⊥ = omega (arith, h) in y)
own_there k (suc n) zero h = ap (λ i. Some (Own i)) (let z : k ≡ k + 0 = omega arith in z)
own_there k (suc n) (suc j) h = own_there (suc k) n j (omega (arith, h)) ∙ ap (λ i. Some (Own i)) (let z : suc k + j ≡ k + suc j = omega arith in z)

in_front : {A : Type 0} (xs ys : List A) (j : ℕ) (x : A) → slice_get xs j ≡ Some x → slice_get (xs ++ ys) j ≡ Some x
in_front [] ys j x e = absurd (let z : None ≡ Some x = e in cc)
in_front (y ∷ xs) ys zero x e = e
in_front (y ∷ xs) ys (suc j) x e = in_front xs ys j x e

behind_nowhere : (n x : ℕ) (ys : List Place) (p : Place) → n ≤ x → slice_get ys (x - n) ≡ Some p → slice_get (replicate n Nowhere ++ ys) x ≡ Some p
behind_nowhere zero x ys p le e = subst (λ m. slice_get ys m ≡ Some p) (let z : x - 0 ≡ x = omega arith in z) e
behind_nowhere (suc n) zero ys p le e = absurd (let y : ⊥ = omega (arith, le) in y)
behind_nowhere (suc n) (suc x) ys p le e = behind_nowhere n x ys p (omega (arith, le)) (subst (λ m. slice_get ys m ≡ Some p) (let z : suc x - suc n ≡ x - n = omega arith in z) e)

pub owned : (methods kept total : ℕ) (last : Functions) (cells : List ℕ) → AllByRecursion (λ x. suc x ≤ count last + total) cells → AllByRecursion (λ x. count last ≤ x) cells → AllByRecursion (Owned (places_known methods kept total last)) cells
owned methods kept total last [] h i = tt
owned methods kept total last (x ∷ cells) h i =
    let y : suc x ≤ count last + total = h.0 in
    let z : count last ≤ x = i.0 in (
      (
        suc (suc methods) + (x - count last),
        behind_nowhere (count last) x ((own_from (suc (suc methods)) total ++ own_from 0 (suc methods)) ++ replicate kept Nowhere) (Own (suc (suc methods) + (x - count last))) z
            (in_front (own_from (suc (suc methods)) total ++ own_from 0 (suc methods)) (replicate kept Nowhere) (x - count last) (Own (suc (suc methods) + (x - count last)))
            (in_front (own_from (suc (suc methods)) total) (own_from 0 (suc methods)) (x - count last) (Own (suc (suc methods) + (x - count last))) (own_there (suc (suc methods)) total (x - count last) (omega (arith, y, z))))),
      ),
      owned methods kept total last cells (h.1) (i.1),
    )

-- ---- the hook by its place

pub hook_there : (fns : Functions) (h : ℕ) (f : Function) → function_in fns h ≡ Some f → hook_at h fns ≡ Some (record { nodes = f.nodes; parameters = f.parameters; body = f.body })
hook_there NoFunction h f e = absurd (let z : None ≡ Some f = e in cc)
hook_there (AFunction how nodes ps body fns) zero f e = ap as_hook e
  where
    as_hook : Option Function → Option Hook
    as_hook None = None
    as_hook (Some f) = Some (record { nodes = f.nodes; parameters = f.parameters; body = f.body })
hook_there (AFunction how nodes ps body fns) (suc h) f e = hook_there fns h f e

-- ---- code

module _ (table : List (Group Body)) (known : List Place) (cells : List ℕ) (stable : ℕ) where
  abbrev pub SavedBy : Functions → Option ℕ → Body → Type 0
  SavedBy last None b = (code : core.Exp) × (b ≡ record { parameters = 0; nodes = stable; expression = code }) × Elaborates table false (outside known) (reading cells) code
  SavedBy last (Some h) b =
      (f : Function) × (code : core.Exp) × (function_in last h ≡ Some f) × (f.parameters ≡ NoPat) × (1 ≤ f.nodes) × (b ≡ record { parameters = 0; nodes = stable + f.nodes; expression = code })
      × Elaborates table false (outside known) (hooked f.body cells) code

  reads_are_code : (s : Scope) → s.places ≡ known → (xs : List ℕ) → AllByRecursion (Owned known) xs → ElaboratesAll table false s (reads_of xs) (held_in known (names_of xs))
  reads_are_code s same [] h = refl
  reads_are_code s same (x ∷ xs) h = (
    does primitive.Read (one (cell_of known (source.Name x))),
    held_in known (names_of xs),
    (one (cell_of known (source.Name x)), tt, (cell_of known (source.Name x), core.NoExp, (place, read), refl, refl), refl),
    reads_are_code s same xs (h.1),
    refl,
  )
    where
      there : slice_get known x ≡ Some (Own (h.0.0))
      there = h.0.1

      place : HasPlace s x
      place = subst (λ ps. IsPlace (place_or_nowhere (slice_get ps x))) (sym same) (subst (λ o. IsPlace (place_or_nowhere o)) (sym there) tt)

      read : at_place 0 (place_or_nowhere (slice_get known x)) ≡ at_place s.names (place_or_nowhere (slice_get s.places x))
      read =
          ap (λ o. at_place 0 (place_or_nowhere o)) there
          ∙ sym (ap (λ ps. at_place s.names (place_or_nowhere (slice_get ps x))) same ∙ ap (λ o. at_place s.names (place_or_nowhere o)) there)

  abbrev held : core.Exps
  held = held_in known (names_of cells)

  reading_is_code : (s : Scope) → s.places ≡ known → AllByRecursion (Owned known) cells → Elaborates table false s (reading cells) (tuple held)
  reading_is_code s same h = (held, tt, reads_are_code s same cells h, refl)

  pub save_is_code : (last : Functions) (before : Option ℕ) (n : ℕ) → HookStands known last before → AllByRecursion (Owned known) cells → HasGroups table n (save_of stable known n (hook_of (hook_name before) last) held).groups
      → SavedBy last before (save_of stable known n (hook_of (hook_name before) last) held).body
  save_is_code last None n stands h = λ groups. (tuple held, refl, reading_is_code (outside known) refl h)
  save_is_code last (Some i) n (f, there, plain, any, stands) h =
      subst (λ o. HasGroups table n (save_of stable known n o held).groups → SavedBy last (Some i) (save_of stable known n o held).body) (sym (hook_there last i f there))
      (subst (λ ps. HasGroups table n (save_of stable known n (Some (record { nodes = f.nodes; parameters = ps; body = f.body })) held).groups → SavedBy last (Some i) (save_of stable known n (Some (record { nodes = f.nodes; parameters = ps; body = f.body })) held).body) (sym plain)
      (λ groups. (
        f,
        (save_of stable known n (Some (record { nodes = f.nodes; parameters = NoPat; body = f.body })) held).body.expression,
        there,
        plain,
        any,
        refl,
        (
          core.Label (elaborate (labelled (outside known)) n f.body).exp,
          tuple held,
          ((elaborate (labelled (outside known)) n f.body).exp, elaborates table false (labelled (outside known)) n f.body stands groups, refl),
          reading_is_code (behind (on_nearest Wildcard (outside known)) (outside known)) refl h,
          refl,
        ),
      )))
