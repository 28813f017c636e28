-- The groups that the declarations of an actor make are formed.
use Rattle.std.specs.Prelude.{take}
use Rattle.std.proofs.Common.{◌≡◌, ℕ, zero, suc, ◌+◌, ◌-◌, Bool, false, List, [], ◌∷◌, ◌++◌, length, Option, Some, None, sym, ap₂, ◌∙◌, subst, arith}
use Rattle.mo_types.specs.declared.node.Sort.TheVariants as sort
use Rattle.mo_values.specs.Shapes.{Bytes}
use Rattle.core_ir.specs.Programs.{Group}
use Rattle.core_ir.specs.Expressions.{Body}
use Rattle.typed_tree.specs.Language.{Exp, Functions, NoFunction, AFunction}
use Rattle.typed_tree.specs.Substitution.{count}
use Rattle.elaboration.specs.Scopes.{Place, Scope, under}
use Rattle.elaboration.specs.Checks.{Checked, Named, behind}
use Rattle.elaboration.specs.Members.{Elaborated}
use Rattle.elaboration.specs.Elaboration.{BodiesElaborated, elaborate, elaborate_functions, on_nearest}
use Rattle.elaboration.specs.Programs.{Actor, Hook, firsts, outside, start_end, elaborate_actor, save_of, hook_of, held_in}
use Rattle.elaboration_forms.specs.Elaborates.{HasGroups, unseen, StandFunctions, StandsAlone, DeclarationsStand}
use Rattle.elaboration_forms.proofs.Made.{elaborates_functions}
use Rattle.elaboration_formed.specs.Arities.{Shaped, ShapedAll, ShapedFunctions}
use Rattle.elaboration_formed.specs.Formed.{Fits, EachFormed, GroupsFormed}
use Rattle.elaboration_formed.proofs.Forming.{fits_under, fits_unseen, let_fits, bodies_formed, bodies_counted}
use Rattle.elaboration_formed.proofs.Groups.{groups, functions_groups}
use Rattle.elaboration_starts.specs.Declarations.{Declares, Opens, Groups, Ends, HookWithin, bound_in, names_from, names_of, hook_name, finish, places_known}
use Rattle.elaboration_starts.specs.Starts.{CalledBehind}
use Rattle.elaboration_starts.proofs.SavedCode.{hook_there}
use Rattle.elaboration_starts.proofs.DeclaredCode.{apart, the_end, levels_down, levels_many, bound_many, length_and, known_is, places_at, actor_behind, functions_at, group_at, group_is, group_stands, groups_there, under_group, under_pattern, EndStands}
use Rattle.elaboration_names.proofs.Ends.{both, firsts_shaped, function_shaped, methods_groups, save_groups}

names_shaped : (i k : ℕ) → ShapedAll (names_from i k)
names_shaped i zero = tt
names_shaped i (suc k) = (tt, names_shaped (suc i) k)

module _ (globals : ℕ) (table : List (Group Body)) (methods kept : ℕ) (last : Functions) (before after : Option ℕ) (labels : List Bytes) (cells : List ℕ) (total : ℕ) (upgraded : Bool) (fit : Fits globals (outside (places_known methods kept total last)))
    (ends : EndStands table methods kept last before after labels cells total upgraded) (within : HookWithin (count last) after) where
  abbrev GF : List (Group Body) → Type 0
  GF gs = GroupsFormed globals table gs

  abbrev D : ℕ → Exp → Exp → Type 0
  D = Declares methods last before after labels cells total upgraded

  -- the declarations with a tuple of their names have their operands
  pub named_shaped : (n : ℕ) (b c : Exp) → D n b c → Shaped b → Shaped c
  named_shaped n b c (Opens k p e b' c' d) h = (h.0, (named_shaped (bound_in p + n) b' c' d (h.1.0), tt))
  named_shaped n b c (Groups k fns b' c' few d) h = (h.0, named_shaped (count fns + n) b' c' d (h.1))
  named_shaped n b c (Ends k is) h = finish_shaped after k (h.0)
    where
      finish_shaped : (o : Option ℕ) (k : ℕ) → ShapedFunctions last → Shaped (finish last upgraded o k)
      finish_shaped None k h = (tt, tt, names_shaped 0 k)
      finish_shaped (Some i) k h = (h, ((tt, (omega arith, tt, (tt, tt)), tt), ((tt, tt, names_shaped (count last) k), tt)))

  pub last_shaped : (n : ℕ) (b c : Exp) → D n b c → Shaped b → ShapedFunctions last
  last_shaped n b c (Opens k p e b' c' d) h = last_shaped (bound_in p + n) b' c' d (h.1.0)
  last_shaped n b c (Groups k fns b' c' few d) h = last_shaped (count fns + n) b' c' d (h.1)
  last_shaped n b c (Ends k is) h = h.0

  abbrev all : List (Group Body) → List (Group Body) → Type 0
  all gs hs = GF gs → GF hs → GF (gs ++ hs)

  joined : (gs hs : List (Group Body)) → all gs hs
  joined gs hs = both globals table (places_known methods kept total last) fit gs hs

  -- ---- behind the declarations

  abbrev methods_made : List Place → ℕ → List (Group Body)
  methods_made ps n = (elaborate_functions (outside ps) n (firsts methods last)).groups

  abbrev saves_made : List Place → ℕ → List (Group Body)
  saves_made ps n = (save_of kept ps (n + length (methods_made ps n)) (hook_of (hook_name before) last) (held_in ps (names_of cells))).groups

  abbrev hooks_made : Scope → ℕ → Option ℕ → List (Group Body)
  hooks_made s n o = (the_end table methods kept last before after labels cells total upgraded s n o).groups

  ends_formed : (n : ℕ) → ShapedFunctions last → HasGroups table n (methods_made (places_known methods kept total last) n ++ saves_made (places_known methods kept total last) n)
      → GF (methods_made (places_known methods kept total last) n ++ saves_made (places_known methods kept total last) n)
  ends_formed n k h =
      let known : List Place = places_known methods kept total last in
      let i = apart table (methods_made known n) (saves_made known n) n h in
      joined (methods_made known n) (saves_made known n) (methods_groups globals table known fit n (firsts methods last) ends.methods_stand (i.0) (firsts_shaped methods last k))
      (save_groups globals table known fit cells kept last before (n + length (methods_made known n)) ends.hook_stands k (i.1))

  -- the hook behind an upgrade
  hook_formed : (s : Scope) (n : ℕ) (o : Option ℕ) → HookWithin (count last) o → CalledBehind last o → StandsAlone s (count last) (hook_of (hook_name o) last) → Fits globals s → ShapedFunctions last → HasGroups table n (hooks_made s n o) → GF (hooks_made s n o)
  hook_formed s n None q called stands f k h = tt
  hook_formed s n (Some i) q (fn, there, plain) stands f k h =
      subst (λ (o : Option Hook). HasGroups table n (start_end s n (count last) (take (length s.places - kept) s.places) o).groups → StandsAlone s (count last) o → GF (start_end s n (count last) (take (length s.places - kept) s.places) o).groups) (sym (hook_there last i fn there)) made h stands
    where
      made : HasGroups table n ((elaborate_functions (unseen (count last) s) n (AFunction sort.Local fn.nodes fn.parameters fn.body NoFunction)).groups ++ record { sees = s.names; bodies = (elaborate_functions (unseen (count last) s) n (AFunction sort.Local fn.nodes fn.parameters fn.body NoFunction)).bodies } ∷ [])
          → StandFunctions (unseen (count last) s) (AFunction sort.Local fn.nodes fn.parameters fn.body NoFunction)
          → GF ((elaborate_functions (unseen (count last) s) n (AFunction sort.Local fn.nodes fn.parameters fn.body NoFunction)).groups ++ record { sees = s.names; bodies = (elaborate_functions (unseen (count last) s) n (AFunction sort.Local fn.nodes fn.parameters fn.body NoFunction)).bodies } ∷ [])
      made h st =
          let x : BodiesElaborated = elaborate_functions (unseen (count last) s) n (AFunction sort.Local fn.nodes fn.parameters fn.body NoFunction) in
          let g : Group Body = record { sees = s.names; bodies = x.bodies } in
          let i' = apart table x.groups (g ∷ []) n h in
          let inner : Fits globals (unseen (count last) s) = fits_unseen globals (count last) s f in
          let shape : ShapedFunctions (AFunction sort.Local fn.nodes fn.parameters fn.body NoFunction) = (function_shaped last i fn there k, tt) in
          let code = elaborates_functions table (unseen (count last) s) n (AFunction sort.Local fn.nodes fn.parameters fn.body NoFunction) st (i'.0) in
          let one : EachFormed globals table (length x.bodies + s.names) x.bodies =
          subst (λ k. EachFormed globals table k x.bodies) (let z : suc s.names ≡ 1 + s.names = omega arith in z) (bodies_formed globals table (unseen (count last) s) (AFunction sort.Local fn.nodes fn.parameters fn.body NoFunction) x.bodies code inner shape) in
          joined x.groups (g ∷ []) (functions_groups globals table (unseen (count last) s) n (AFunction sort.Local fn.nodes fn.parameters fn.body NoFunction) st (i'.0) inner shape) (one, tt)

  -- ---- declarations

  pub spine : (m : ℕ) (b c : Exp) → D m b c → (s : Scope) (ls : List ℕ) → length ls ≡ m → s.places ≡ places_at table methods kept last before after labels cells total upgraded ls → DeclarationsStand s b → Fits globals s → Shaped b → (n : ℕ)
      → HasGroups table n (elaborate_actor methods kept s n b).groups → GF (elaborate_actor methods kept s n b).groups
  spine m b c (Opens k p e b' c' d) s ls many at stand f shaped n h =
      let x : Elaborated = elaborate s n e in
      let k : Checked = on_nearest p s in
      let rest : List (Group Body) = (elaborate_actor methods kept (behind k s) (n + length x.groups) b').groups in
      let i = apart table x.groups rest n h in
      joined x.groups rest (groups globals table false s n e (stand.0) (i.0) f (shaped.0))
      (spine (bound_in p + m) b' c' d (behind k s) (k.bound ++ ls) (length_and k.bound ls ∙ ap₂ (λ x y. x + y) (bound_many p (Named s.names) (suc s.names)) many) (under_pattern table methods kept last before after labels cells total upgraded s ls k.bound at) (stand.1)
      (let_fits globals table false s p f) (shaped.1.0) (n + length x.groups) (i.1))
  spine m b c (Groups k fns b' c' few d) s ls many at stand f shaped n h =
      let st = group_stands table methods kept last before after labels cells total upgraded s (count fns + m) fns b' c' d stand in
      let i = groups_there table methods kept last before after labels cells total upgraded s n (count fns + m) fns b' c' d h in
      let made : BodiesElaborated = functions_at table methods kept last before after labels cells total upgraded s n fns in
      let g : Group Body = group_at table methods kept last before after labels cells total upgraded s n fns in
      let rest : Actor = actor_behind table methods kept last before after labels cells total upgraded s n fns b' in
      let code = elaborates_functions table (under (count fns) s) n fns (st.0) (i.0) in
      let inner : Fits globals (under (count fns) s) = fits_under globals (count fns) s f in
      let one : EachFormed globals table (length made.bodies + s.names) made.bodies =
      subst (λ k. EachFormed globals table (k + s.names) made.bodies) (sym (bodies_counted globals table (under (count fns) s) fns made.bodies code)) (bodies_formed globals table (under (count fns) s) fns made.bodies code inner (shaped.0)) in
      subst (λ (a : Actor). GF a.groups) (group_is table methods kept last before after labels cells total upgraded s n (count fns + m) fns b' c' d)
      (joined (made.groups ++ g ∷ []) rest.groups (joined made.groups (g ∷ []) (functions_groups globals table (under (count fns) s) n fns (st.0) (i.0) inner (shaped.0)) (one, tt))
      (spine (count fns + m) b' c' d (under (count fns) s) (levels_down s.names (count fns) ++ ls) (length_and (levels_down s.names (count fns)) ls ∙ ap₂ (λ x y. x + y) (levels_many s.names (count fns)) many) (under_group table methods kept last before after labels cells total upgraded s ls (count fns) at) (st.1)
      inner (shaped.1) (suc (n + length made.groups)) (i.1.1)))
  spine m b c (Ends k is) s ls many at stand f shaped n h =
      let e : ℕ = n + length (hooks_made s n after) in
      let i = apart table (hooks_made s n after) _ n h in
      joined (hooks_made s n after) _ (hook_formed s n after within ends.called stand f (shaped.0) (i.0))
      (subst (λ ps. HasGroups table e (methods_made ps e ++ saves_made ps e) → GF (methods_made ps e ++ saves_made ps e)) (sym (known_is table methods kept last before after labels cells total upgraded ls s.places at (many ∙ is))) (ends_formed e (shaped.0)) (i.1))
