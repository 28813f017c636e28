-- What stands behind declarations is formed: methods, what an upgrade saves, and the groups that these make.
use Rattle.std.proofs.Common.{◌≡◌, ℕ, zero, suc, ◌+◌, ◌≤◌, true, false, List, [], ◌∷◌, ◌++◌, length, Option, Some, None, refl, sym, subst, arith}
use Rattle.std.specs.Prelude.{replicate}
use Rattle.std.specs.List.{AllByRecursion}
use Rattle.core_ir.specs.Programs as core_program
use Rattle.core_ir.specs.Programs.{Group}
use Rattle.core_ir.specs.Expressions as core
use Rattle.core_ir.specs.Expressions.{Body}
use Rattle.typed_tree.specs.Language.{Functions, NoFunction, AFunction}
use Rattle.typed_tree.specs.Programs.{Method}
use Rattle.typed_tree.specs.Substitution.{count}
use Rattle.elaboration.specs.Scopes.{Place, Nowhere, Scope, in_body, labelled}
use Rattle.elaboration.specs.Checks.{behind}
use Rattle.elaboration.specs.Members.{Elaborated}
use Rattle.elaboration.specs.Elaboration.{BodiesElaborated, elaborate, elaborate_functions, number_of_parameters, on_parameters}
use Rattle.elaboration.specs.Programs.{own_from, firsts, outside, hook_of, held_in, save_of, methods_of}
use Rattle.elaboration_forms.specs.Elaborates.{HasGroups}
use Rattle.elaboration_runs.specs.Entering.{Function, function_in}
use Rattle.elaboration_actors.specs.Saving.{reads_of, reading, hooked}
use Rattle.elaboration_actors.specs.Starts.{MethodBodies, MethodsStand}
use Rattle.elaboration_formed.specs.Arities.{Shaped, ShapedAll, ShapedFunctions}
use Rattle.elaboration_formed.specs.Formed.{PlacesFit, Fits, Formed, GroupsFormed}
use Rattle.elaboration_formed.proofs.Forming.{fits_labelled, body_fits, body_around, formed}
use Rattle.elaboration_formed.proofs.Groups.{groups}
use Rattle.elaboration_starts.specs.Declarations.{names_of, hook_name, places_known}
use Rattle.elaboration_starts.specs.Starts.{HookStands}
use Rattle.elaboration_starts.proofs.DeclaredCode.{apart}
use Rattle.elaboration_starts.proofs.SavedCode.{SavedBy, hook_there}

-- ---- shapes

pub firsts_shaped : (n : ℕ) (fns : Functions) → ShapedFunctions fns → ShapedFunctions (firsts n fns)
firsts_shaped zero fns h = tt
firsts_shaped (suc n) NoFunction h = tt
firsts_shaped (suc n) (AFunction how nodes ps body fns) h = (h.0, firsts_shaped n fns (h.1))

pub function_shaped : (fns : Functions) (i : ℕ) (f : Function) → function_in fns i ≡ Some f → ShapedFunctions fns → Shaped f.body
function_shaped NoFunction i f e h = absurd (let z : None ≡ Some f = e in cc)
function_shaped (AFunction how nodes ps body fns) zero f e h = is e
  where
    ShapedOr : Option Function → Type 0
    ShapedOr None = Unit {0}
    ShapedOr (Some f) = Shaped f.body

    is : Some (record { nodes = nodes; parameters = ps; body = body }) ≡ Some f → Shaped f.body
    is q = subst ShapedOr q (h.0)
function_shaped (AFunction how nodes ps body fns) (suc i) f e h = function_shaped fns i f e (h.1)

reads_shaped : (xs : List ℕ) → ShapedAll (reads_of xs)
reads_shaped [] = tt
reads_shaped (x ∷ xs) = ((refl, tt, (tt, tt)), reads_shaped xs)

-- ---- places

module _ (globals : ℕ) where
  none_fit : (n : ℕ) → PlacesFit globals 0 (replicate n Nowhere)
  none_fit zero = tt
  none_fit (suc n) = (tt, none_fit n)

  own_fit : (i n : ℕ) → i + n ≤ globals → PlacesFit globals 0 (own_from i n)
  own_fit i zero h = tt
  own_fit i (suc n) h = (omega (arith, h), own_fit (suc i) n (omega (arith, h)))

  both_fit : (ps qs : List Place) → PlacesFit globals 0 ps → PlacesFit globals 0 qs → PlacesFit globals 0 (ps ++ qs)
  both_fit [] qs h k = k
  both_fit (p ∷ ps) qs h k = (h.0, both_fit ps qs (h.1) k)

  pub known_fit : (methods kept total : ℕ) (last : Functions) → suc (suc methods) + total ≤ globals → Fits globals (outside (places_known methods kept total last))
  known_fit methods kept total last h = record {
    places = both_fit (replicate (count last) Nowhere) ((own_from (suc (suc methods)) total ++ own_from 0 (suc methods)) ++ replicate kept Nowhere) (none_fit (count last))
        (both_fit (own_from (suc (suc methods)) total ++ own_from 0 (suc methods)) (replicate kept Nowhere)
        (both_fit (own_from (suc (suc methods)) total) (own_from 0 (suc methods)) (own_fit (suc (suc methods)) total h) (own_fit 0 (suc methods) (omega (arith, h)))) (none_fit kept));
    exits = tt;
  }

module _ (globals : ℕ) (table : List (Group Body)) (places : List Place) (fit : Fits globals (outside places)) where
  abbrev GF : List (Group Body) → Type 0
  GF gs = GroupsFormed globals table gs

  pub both : (gs hs : List (Group Body)) → GF gs → GF hs → GF (gs ++ hs)
  both [] hs h k = k
  both (g ∷ gs) hs h k = (h.0, both gs hs (h.1) k)

  -- ---- methods

  abbrev pub MethodFormed : Body → Type 0
  MethodFormed b = Formed globals table true (b.parameters + 0) 0 b.expression

  pub methods_formed : (fns : Functions) (bodies : List Body) → MethodBodies table places fns bodies → ShapedFunctions fns → AllByRecursion MethodFormed bodies
  methods_formed NoFunction bodies h k = subst (AllByRecursion MethodFormed) (sym h) tt
  methods_formed (AFunction how nodes ps body fns) bodies h k =
      subst (AllByRecursion MethodFormed) (sym (h.4)) (
        body_around globals table true (outside places) ps (h.0)
            (formed globals table true (behind (on_parameters ps (outside places)) (in_body (number_of_parameters ps) (outside places))) body (h.0) (h.2) (body_fits globals table true (outside places) ps fit) (k.0)),
        methods_formed fns (h.1) (h.3) (k.1),
      )

  pub all_methods_formed : (ms : List Method) (bodies : List Body) → AllByRecursion MethodFormed bodies → AllByRecursion (λ (m : core_program.Method Body). MethodFormed m.body) (methods_of ms bodies)
  all_methods_formed [] bodies h = (tt, tt)
  all_methods_formed (m ∷ ms) [] h = (tt, all_methods_formed ms [] tt)
  all_methods_formed (m ∷ ms) (b ∷ bodies) h = (h.0, all_methods_formed ms bodies (h.1))

  pub methods_groups : (n : ℕ) (fns : Functions) → MethodsStand places fns → HasGroups table n (elaborate_functions (outside places) n fns).groups → ShapedFunctions fns → GF (elaborate_functions (outside places) n fns).groups
  methods_groups n NoFunction t h k = tt
  methods_groups n (AFunction how nodes ps body fns) t h k =
      let u : Scope = behind (on_parameters ps (outside places)) (in_body (number_of_parameters ps) (outside places)) in
      let x : Elaborated = elaborate u n body in
      let r : BodiesElaborated = elaborate_functions (outside places) (n + length x.groups) fns in
      let i = apart table x.groups r.groups n h in
      both x.groups r.groups (groups globals table true u n body (t.0) (i.0) (body_fits globals table true (outside places) ps fit) (k.0)) (methods_groups (n + length x.groups) fns (t.1) (i.1) (k.1))

  -- ---- what an upgrade saves

  pub save_formed : (cells : List ℕ) (stable : ℕ) (last : Functions) (before : Option ℕ) (b : Body) → SavedBy table places cells stable last before b → ShapedFunctions last → Formed globals table false (b.parameters + 0) 0 b.expression
  save_formed cells stable last None b h k =
      subst (λ (b : Body). Formed globals table false (b.parameters + 0) 0 b.expression) (sym (h.1)) (formed globals table false (outside places) (reading cells) (h.0) (h.2) fit (tt, tt, reads_shaped cells))
  save_formed cells stable last (Some i) b (f, code, there, plain, any, is, elaborates) k =
      subst (λ (b : Body). Formed globals table false (b.parameters + 0) 0 b.expression) (sym is)
      (formed globals table false (outside places) (hooked f.body cells) code elaborates fit (function_shaped last i f there k, ((tt, tt, reads_shaped cells), tt)))

  pub save_groups : (cells : List ℕ) (stable : ℕ) (last : Functions) (before : Option ℕ) (n : ℕ) → HookStands places last before → ShapedFunctions last → HasGroups table n (save_of stable places n (hook_of (hook_name before) last) (held_in places (names_of cells))).groups
      → GF (save_of stable places n (hook_of (hook_name before) last) (held_in places (names_of cells))).groups
  save_groups cells stable last None n stands k = λ h. tt
  save_groups cells stable last (Some i) n (f, there, plain, any, stands) k =
      subst (λ o. HasGroups table n (save_of stable places n o held).groups → GF (save_of stable places n o held).groups) (sym (hook_there last i f there))
      (subst (λ ps. HasGroups table n (save_of stable places n (Some (record { nodes = f.nodes; parameters = ps; body = f.body })) held).groups → GF (save_of stable places n (Some (record { nodes = f.nodes; parameters = ps; body = f.body })) held).groups) (sym plain)
      (λ h. groups globals table false (labelled (outside places)) n f.body stands h (fits_labelled globals (outside places) fit) (function_shaped last i f there k)))
    where
      held : core.Exps
      held = held_in places (names_of cells)
