-- The start of an elaborated program is code of the declarations with a tuple of all their names at the end, and its methods are code of the functions
-- behind them.
use Rattle.std.proofs.Common.{◌≡◌, inl, inr, ℕ, zero, suc, ◌+◌, ◌-◌, ◌≤◌, Bool, List, [], ◌∷◌, ◌++◌, length, Option, Some, None, slice_get, false, refl, sym, ap, ap₂, ◌∙◌, subst, arith}
use Rattle.std.specs.Prelude.{take, replicate}
use Rattle.std.specs.List.{AllByRecursion}
use Rattle.mo_types.specs.declared.datum.Datum.TheVariants as part
use Rattle.mo_types.specs.declared.node.Sort.TheVariants as sort
use Rattle.mo_values.specs.Shapes.{Bytes}
use Rattle.mo_values.specs.declared.operation.Operation.TheVariants as op
use Rattle.core_ir.specs.declared.constant.Constant.TheVariants as constant
use Rattle.core_ir.specs.Programs.{Group}
use Rattle.core_ir.specs.Expressions as core
use Rattle.core_ir.specs.Expressions.{Body}
use Rattle.typed_tree.specs.declared.action.Action.TheVariants as action
use Rattle.typed_tree.specs.Patterns as pattern
use Rattle.typed_tree.specs.Patterns.{Pat, Pats, Wildcard, Constant, Present?, Tagged, Parts, Fields, Either, NoPat, APat}
use Rattle.typed_tree.specs.Language as source
use Rattle.typed_tree.specs.Language.{Exp, Functions, NoFunction, AFunction}
use Rattle.typed_tree.specs.Substitution.{count}
use Rattle.elaboration.specs.Scopes.{Place, Local, Own, Nowhere, Scope, one, nothing, at_place, place_or_nowhere, places_from, under, in_body}
use Rattle.elaboration.specs.Checks.{Checked, Source, Named, level_of, names_with, part_of, field_of, check, check_parts, check_fields, around_all, fails, locals, behind}
use Rattle.elaboration.specs.Members.{Elaborated, let_in}
use Rattle.elaboration.specs.Elaboration.{BodiesElaborated, elaborate, elaborate_functions, if_true, number_of_parameters, on_nearest, on_parameters}
use Rattle.elaboration.specs.Programs.{Actor, own_from, kept_places, values_of, numbered, firsts, outside, start_end, around_start, elaborate_actor, Hook, SaveElaborated, save_of, hook_of, held_in, tuple}
use Rattle.elaboration_forms.specs.Elaborates.{IsPlace, HasGroups, unseen, one_of, only, Elaborates, ElaboratesAll, ElaboratesFunctions, ElaboratesOne, StandFunctions, StandsAlone, DeclarationsStand}
use Rattle.elaboration_forms.proofs.Made.{elaborates, elaborates_functions}
use Rattle.elaboration_runs.specs.Entering.{Function, function_in}
use Rattle.elaboration_steps.proofs.Groups.{as_many_bodies}
use Rattle.elaboration_actors.specs.Starts.{MethodBodies, MethodsStand}
use Rattle.elaboration_actors.proofs.Starts.{methods_are_code}
use Rattle.elaboration_starts.specs.Declarations as declarations
use Rattle.elaboration_starts.specs.Declarations.{bound_in, bound_in_all, bound_in_fields, names_from, made, hook_name, finish, Declares, Opens, Groups, Ends, places_known}
use Rattle.elaboration_starts.specs.Starts.{HookStands, CalledBehind}
use Rattle.elaboration_starts.proofs.SavedCode.{Owned, SavedBy, hook_there, save_is_code}
use Rattle.elaboration_starts.proofs.Told.{Like, Same, Told, First, Grouped, SameGoal, InBind, like_around, names_counted}

-- ---- lists

assoc : {A : Type 0} (xs ys zs : List A) → (xs ++ ys) ++ zs ≡ xs ++ (ys ++ zs)
assoc [] ys zs = refl
assoc (x ∷ xs) ys zs = ap (λ r. x ∷ r) (assoc xs ys zs)

pub length_and : {A : Type 0} (xs ys : List A) → length (xs ++ ys) ≡ length xs + length ys
length_and [] ys = omega arith
length_and (x ∷ xs) ys = let z : length (xs ++ ys) ≡ length xs + length ys = length_and xs ys in omega (arith, z)

take_all : {A : Type 0} (xs ys : List A) (n : ℕ) → n ≡ length xs → take n (xs ++ ys) ≡ xs
take_all [] ys zero e = refl
take_all [] ys (suc n) e = absurd (let z : suc n ≡ 0 = e in (let y : ⊥ = omega (arith, z) in y))
take_all (x ∷ xs) ys zero e = absurd (let z : 0 ≡ suc (length xs) = e in (let y : ⊥ = omega (arith, z) in y))
take_all (x ∷ xs) ys (suc n) e = ap (λ r. x ∷ r) (take_all xs ys n (let z : suc n ≡ suc (length xs) = e in omega (arith, z)))

-- all but the last ones
pub all_but : {A : Type 0} (xs ys : List A) (n : ℕ) → length ys ≡ n → take (length (xs ++ ys) - n) (xs ++ ys) ≡ xs
all_but xs ys n e = take_all xs ys (length (xs ++ ys) - n) (let z : length (xs ++ ys) ≡ length xs + length ys = length_and xs ys in omega (arith, z, e))

locals_and : (xs ys : List ℕ) → locals (xs ++ ys) ≡ locals xs ++ locals ys
locals_and [] ys = refl
locals_and (x ∷ xs) ys = ap (λ r. Local x ∷ r) (locals_and xs ys)

locals_many : (xs : List ℕ) → length (locals xs) ≡ length xs
locals_many [] = refl
locals_many (x ∷ xs) = ap (λ n. suc n) (locals_many xs)

pub own_many : (i n : ℕ) → length (own_from i n) ≡ n
own_many i zero = refl
own_many i (suc n) = ap (λ n. suc n) (own_many (suc i) n)

pub kept_many : (n : ℕ) → length (kept_places n) ≡ n
kept_many zero = refl
kept_many (suc n) = ap (λ n. suc n) (kept_many n)

-- ---- places of names

-- of so many names, the nearest first, which begin behind so many others
abbrev pub levels_down : ℕ → ℕ → List ℕ
levels_down n zero = []
levels_down n (suc count) = (count + n) ∷ levels_down n count

pub places_down : (n count : ℕ) → places_from n count ≡ locals (levels_down n count)
places_down n zero = refl
places_down n (suc count) = ap (λ r. Local (count + n) ∷ r) (places_down n count)

pub levels_many : (n count : ℕ) → length (levels_down n count) ≡ count
levels_many n zero = refl
levels_many n (suc count) = ap (λ n. suc n) (levels_many n count)

-- the names of a pattern
mutual
  pub bound_many : (p : Pat) (v : Source) (n : ℕ) → length (check p v n).bound ≡ bound_in p
  bound_many Wildcard v n = refl
  bound_many pattern.Bind v n = refl
  bound_many (Constant c) v n = refl
  bound_many (Present? p) v n = bound_many p (Named n) (suc n)
  bound_many (Tagged l p) v n = bound_many p (Named n) (suc n)
  bound_many (Parts ps) v n = parts_many ps 0 (level_of v n) (names_with v n)
  bound_many (Fields ls ps) v n = fields_many ls ps (level_of v n) (names_with v n)
  bound_many (Either p q) v n = refl

  parts_many : (ps : Pats) (i level n : ℕ) → length (check_parts ps i level n).bound ≡ bound_in_all ps
  parts_many NoPat i level n = refl
  parts_many (APat p ps) i level n =
      let c : Checked = check p (part_of i level n) n in
      length_and c.bound (check_parts ps (suc i) level c.names).bound ∙ ap₂ (λ x y. x + y) (bound_many p (part_of i level n) n) (parts_many ps (suc i) level c.names)

  fields_many : (ls : List Bytes) (ps : Pats) (level n : ℕ) → length (check_fields ls ps level n).bound ≡ bound_in_fields ls ps
  fields_many ls NoPat level n = refl
  fields_many [] (APat p ps) level n = refl
  fields_many (l ∷ ls) (APat p ps) level n =
      let c : Checked = check p (field_of l level n) n in
      length_and c.bound (check_fields ls ps level c.names).bound ∙ ap₂ (λ x y. x + y) (bound_many p (field_of l level n) n) (fields_many ls ps level c.names)

-- ---- values of names

module _ (table : List (Group Body)) (s : Scope) where
  -- names whose places are these
  names_are_code : (ls : List ℕ) (rest : List Place) (i n : ℕ) → n ≡ length ls → ((j : ℕ) (level : ℕ) → slice_get (locals ls) j ≡ Some (Local level) → slice_get s.places (i + j) ≡ Some (Local level))
      → ElaboratesAll table false s (names_from i n) (values_of s.names (locals ls))
  names_are_code [] rest i zero e h = refl
  names_are_code [] rest i (suc n) e h = absurd (let z : suc n ≡ 0 = e in (let y : ⊥ = omega (arith, z) in y))
  names_are_code (l ∷ ls) rest i zero e h = absurd (let z : 0 ≡ suc (length ls) = e in (let y : ⊥ = omega (arith, z) in y))
  names_are_code (l ∷ ls) rest i (suc n) e h =
      let at : slice_get s.places i ≡ Some (Local l) = subst (λ m. slice_get s.places m ≡ Some (Local l)) (let z : i + 0 ≡ i = omega arith in z) (h 0 l refl) in (
        at_place s.names (Local l),
        values_of s.names (locals ls),
        (subst (λ o. IsPlace (place_or_nowhere o)) (sym at) tt, ap (λ o. at_place s.names (place_or_nowhere o)) (sym at)),
        names_are_code ls rest (suc i) n (let z : suc n ≡ suc (length ls) = e in omega (arith, z)) (λ j level q. subst (λ m. slice_get s.places m ≡ Some (Local level)) (let z : i + suc j ≡ suc i + j = omega arith in z) (h (suc j) level q)),
        refl,
      )

-- names of the actor alone have no values here
values_behind : (n : ℕ) (ls : List ℕ) (i k : ℕ) → values_of n (locals ls ++ own_from i k) ≡ values_of n (locals ls)
values_behind n [] i zero = refl
values_behind n [] i (suc k) = values_behind n [] (suc i) k
values_behind n (l ∷ ls) i k = ap (λ es. core.AnExp (at_place n (Local l)) es) (values_behind n ls i k)

-- numbers in the place of names of Core
pub numbered_as : (i : ℕ) (ls : List ℕ) (j k : ℕ) → numbered i (locals ls ++ own_from j k) ≡ own_from i (length ls) ++ own_from j k
numbered_as i [] j zero = refl
numbered_as i [] j (suc k) = ap (λ r. Own j ∷ r) (numbered_as i [] (suc j) k)
numbered_as i (l ∷ ls) j k = ap (λ r. Own i ∷ r) (numbered_as (suc i) ls j k)

in_front : {A : Type 0} (xs ys : List A) (j : ℕ) (x : A) → slice_get xs j ≡ Some x → slice_get (xs ++ ys) j ≡ Some x
in_front [] ys j x e = absurd (let z : None ≡ Some x = e in cc)
in_front (y ∷ xs) ys zero x e = e
in_front (y ∷ xs) ys (suc j) x e = in_front xs ys j x e

behind_them : {A : Type 0} (xs ys : List A) (j : ℕ) (y : A) → slice_get ys j ≡ Some y → slice_get (xs ++ ys) (length xs + j) ≡ Some y
behind_them [] ys j y e = subst (λ n. slice_get ys n ≡ Some y) (let z : j ≡ 0 + j = omega arith in z) e
behind_them (x ∷ xs) ys j y e = subst (λ n. slice_get (x ∷ (xs ++ ys)) n ≡ Some y) (let z : suc (length xs + j) ≡ suc (length xs) + j = omega arith in z) (behind_them xs ys j y e)

-- ---- declarations

module _ (table : List (Group Body)) where
  pub apart : (gs hs : List (Group Body)) (n : ℕ) → HasGroups table n (gs ++ hs) → HasGroups table n gs × HasGroups table (n + length gs) hs
  apart [] hs n h = (tt, subst (λ m. HasGroups table m hs) (let z : n ≡ n + 0 = omega arith in z) h)
  apart (g ∷ gs) hs n h =
      let r : HasGroups table (suc n) gs × HasGroups table (suc n + length gs) hs = apart gs hs (suc n) (h.1) in
      ((h.0, r.0), subst (λ m. HasGroups table m hs) (let z : suc n + length gs ≡ n + suc (length gs) = omega arith in z) (r.1))

module _ (table : List (Group Body)) (methods kept : ℕ) (last : Functions) (before after : Option ℕ) (labels : List Bytes) (cells : List ℕ) (total : ℕ) (upgraded : Bool) where
  abbrev D : ℕ → Exp → Exp → Type 0
  D = Declares methods last before after labels cells total upgraded

  abbrev outer : List Place
  outer = own_from 0 (suc methods) ++ kept_places kept

  abbrev pub places_at : List ℕ → List Place
  places_at ls = locals ls ++ outer

  outer_split : (ls : List ℕ) → places_at ls ≡ (locals ls ++ own_from 0 (suc methods)) ++ kept_places kept
  outer_split ls = sym (assoc (locals ls) (own_from 0 (suc methods)) (kept_places kept))

  -- those of them that are names of the start, or of the actor
  pub front : (ls : List ℕ) (places : List Place) → places ≡ places_at ls → take (length places - kept) places ≡ locals ls ++ own_from 0 (suc methods)
  front ls places e =
      ap (λ ps. take (length ps - kept) ps) (e ∙ outer_split ls) ∙ all_but (locals ls ++ own_from 0 (suc methods)) (kept_places kept) kept (kept_many kept)

  pub known_is : (ls : List ℕ) (places : List Place) → places ≡ places_at ls → length ls ≡ total
      → replicate (count last) Nowhere ++ (numbered (suc (suc methods)) (take (length places - kept) places) ++ replicate kept Nowhere) ≡ places_known methods kept total last
  known_is ls places e many =
      ap (λ ps. replicate (count last) Nowhere ++ (numbered (suc (suc methods)) ps ++ replicate kept Nowhere)) (front ls places e)
      ∙ ap (λ ps. replicate (count last) Nowhere ++ (ps ++ replicate kept Nowhere)) (numbered_as (suc (suc methods)) ls 0 (suc methods) ∙ ap (λ n. own_from (suc (suc methods)) n ++ own_from 0 (suc methods)) many)

  -- what the declarations end in, in Core
  pub record CodeEnds (a : Actor) : Type 0 where
    pub bodies : MethodBodies table (places_known methods kept total last) (firsts methods last) a.methods
    pub save : SavedBy table (places_known methods kept total last) cells kept last before a.save

  -- what is asked of what stands behind the declarations
  pub record EndStands : Type 0 where
    pub methods_stand : MethodsStand (places_known methods kept total last) (firsts methods last)
    pub hook_stands : HookStands (places_known methods kept total last) last before
    pub called : CalledBehind last after
    pub cells_owned : AllByRecursion (Owned (places_known methods kept total last)) cells

  -- the start is code of these declarations, where it is told whether this is an upgrade
  pub record IsCode (s : Scope) (c : Exp) (a : Actor) : Type 0 where
    pub told : core.Exp
    pub like : Like table upgraded s.names a.start told
    pub start : Elaborates table false s c told
    pub ends : CodeEnds a

  abbrev pub the_end : Scope → ℕ → Option ℕ → Elaborated
  the_end s n o = start_end s n (count last) (take (length s.places - kept) s.places) (hook_of (hook_name o) last)

  pub record EndIsCode (s : Scope) (n : ℕ) (o : Option ℕ) : Type 0 where
    pub told : core.Exp
    pub like : Like table upgraded s.names (the_end s n o).exp told
    pub code : Elaborates table false s (finish last upgraded o total) told

  -- the names as a tuple, behind so many others
  tuple_is_code : (s t : Scope) (ls : List ℕ) (before_them : List Place) (i : ℕ) → s.places ≡ places_at ls → length ls ≡ total → t.places ≡ before_them ++ s.places → length before_them ≡ i
      → Elaborates table false t (made op.MakeTuple (names_from i total)) (tuple (values_of t.names (take (length s.places - kept) s.places)))
  tuple_is_code s t ls before_them i at many around so_many = (
    values_of t.names (take (length s.places - kept) s.places),
    tt,
    subst (λ es. ElaboratesAll table false t (names_from i total) es) (sym (ap (λ ps. values_of t.names ps) (front ls s.places at) ∙ values_behind t.names ls 0 (suc methods)))
        (names_are_code table t ls outer i total (sym many) (λ j level e. subst (λ ps. slice_get ps (i + j) ≡ Some (Local level)) (sym around)
        (subst (λ m. slice_get (before_them ++ s.places) (m + j) ≡ Some (Local level)) so_many (behind_them before_them s.places j (Local level) (subst (λ ps. slice_get ps j ≡ Some (Local level)) (sym at) (in_front (locals ls) outer j (Local level) e)))))),
    refl,
  )

  -- a hook that is called before
  module _ (s : Scope) (n i : ℕ) (f : Function) (there : function_in last i ≡ Some f) (within : suc i ≤ count last) (ls : List ℕ) (at : s.places ≡ places_at ls) (many : length ls ≡ total) where
    abbrev t0 : Scope
    t0 = unseen (count last) s

    abbrev alone : Functions
    alone = AFunction sort.Local f.nodes f.parameters f.body NoFunction

    abbrev made_alone : BodiesElaborated
    made_alone = elaborate_functions t0 n alone

    abbrev inner : Elaborated
    inner = elaborate (behind (on_parameters f.parameters t0) (in_body (number_of_parameters f.parameters) t0)) n f.body

    abbrev b : Body
    b = record { parameters = number_of_parameters f.parameters; nodes = f.nodes; expression = around_all (on_parameters f.parameters t0).checks fails inner.exp }

    abbrev number : ℕ
    number = n + length made_alone.groups

    abbrev g : Group Body
    g = record { sees = s.names; bodies = b ∷ [] }

    abbrev s1 : Scope
    s1 = only i (count last) s

    abbrev s2 : Scope
    s2 = behind (on_nearest Wildcard s1) s1

    abbrev names : core.Exp
    names = tuple (values_of (2 + s.names) (take (length s.places - kept) s.places))

    abbrev calls : core.Exp
    calls = core.Do core.Call (one (core.Name 0))

    -- whether this is an upgrade is a name, or is told
    abbrev ending : core.Exp → core.Exp
    ending c = let_in (if_true c calls nothing) names

    abbrev is_told : core.Exp
    is_told = core.Constant? (constant.Leaf (part.Flag upgraded))

    ending_like : Like table upgraded (length g.bodies + s.names) (ending (at_place (suc s.names) (Local 0))) (ending is_told)
    ending_like =
        subst (λ m. Like table upgraded m (ending (at_place (suc s.names) (Local 0))) (ending is_told)) (let z : suc s.names ≡ 1 + s.names = omega arith in z)
        (subst (λ m. Like table upgraded (suc s.names) (ending (core.Name m)) (ending is_told)) (let z : s.names ≡ suc s.names - 1 = omega arith in z)
        (First (suc s.names) _ _ _ _ core.NoExp (SameGoal (suc s.names) _) (First (suc s.names) _ _ _ _ core.NoExp (SameGoal (suc s.names) _) (Told s.names))))

    one_there : (level i n : ℕ) (ps : List Place) → suc i ≤ n → slice_get (one_of level i n ++ ps) i ≡ Some (Local level)
    one_there level i zero ps h = absurd (let y : ⊥ = omega (arith, h) in y)
    one_there level zero (suc n) ps h = refl
    one_there level (suc i) (suc n) ps h = one_there level i n ps (omega (arith, h))

    one_many : (level i n : ℕ) → length (one_of level i n) ≡ n
    one_many level i zero = refl
    one_many level zero (suc n) = ap (λ n. suc n) (nowhere_many n)
      where
        nowhere_many : (n : ℕ) → length (replicate n Nowhere) ≡ n
        nowhere_many zero = refl
        nowhere_many (suc n) = ap (λ n. suc n) (nowhere_many n)
    one_many level (suc i) (suc n) = ap (λ n. suc n) (one_many level i n)

    call_is_code : Elaborates table false s1 (source.Do action.Call (source.AnExp (source.Name i) source.NoExp)) calls
    call_is_code =
        let at : slice_get s1.places i ≡ Some (Local s.names) = one_there s.names i (count last) s.places within in (
          one (core.Name 0),
          tt,
          (
            core.Name 0,
            core.NoExp,
            (
              subst (λ o. IsPlace (place_or_nowhere o)) (sym at) tt,
              ap (λ k. core.Name k) (let z : 0 ≡ suc s.names - suc s.names = omega arith in z) ∙ ap (λ o. at_place (suc s.names) (place_or_nowhere o)) (sym at),
            ),
            refl,
            refl,
          ),
          refl,
        )

    rest_is_code : Elaborates table false s1 (source.then (source.If (source.Val (source.leaf (part.Flag upgraded))) (source.Do action.Call (source.AnExp (source.Name i) source.NoExp)) (source.Val source.unit)) (made op.MakeTuple (names_from (count last) total))) (ending is_told)
    rest_is_code = (
      if_true is_told calls nothing,
      tuple (values_of s2.names (take (length s.places - kept) s.places)),
      (is_told, calls, nothing, (tt, refl), call_is_code, (tt, refl), refl),
      tuple_is_code s s2 ls (one_of s.names i (count last)) (count last) at many refl (one_many s.names i (count last)),
      ap (λ m. let_in (if_true is_told calls nothing) (tuple (values_of m (take (length s.places - kept) s.places)))) (let z : 2 + s.names ≡ suc (suc s.names) = omega arith in z),
    )

    one_is_code : (fns : Functions) (j : ℕ) → function_in fns j ≡ Some f → Elaborates table false (behind (on_parameters f.parameters t0) (in_body (number_of_parameters f.parameters) t0)) f.body inner.exp → ElaboratesOne table t0 fns j b
    one_is_code NoFunction j e h = absurd (let z : None ≡ Some f = e in cc)
    one_is_code (AFunction how nodes ps body fns) zero e h = by (record { nodes = nodes; parameters = ps; body = body }) (is e)
      where
        function_or : Function → Option Function → Function
        function_or d None = d
        function_or d (Some f) = f

        is : Some (record { nodes = nodes; parameters = ps; body = body }) ≡ Some f → f ≡ record { nodes = nodes; parameters = ps; body = body }
        is q = ap (function_or f) (sym q)

        by : (k : Function) → f ≡ k
            → (y : core.Exp) × Elaborates table false (behind (on_parameters k.parameters t0) (in_body (number_of_parameters k.parameters) t0)) k.body y
            × (b ≡ record { parameters = number_of_parameters k.parameters; nodes = k.nodes; expression = around_all (on_parameters k.parameters t0).checks fails y })
        by k q =
            subst (λ (k : Function). (y : core.Exp) × Elaborates table false (behind (on_parameters k.parameters t0) (in_body (number_of_parameters k.parameters) t0)) k.body y
            × (b ≡ record { parameters = number_of_parameters k.parameters; nodes = k.nodes; expression = around_all (on_parameters k.parameters t0).checks fails y })) q (inner.exp, h, refl)
    one_is_code (AFunction how nodes ps body fns) (suc j) e h = one_is_code fns j e h

    hook_is_code : StandFunctions t0 alone → HasGroups table n (made_alone.groups ++ g ∷ []) → EndIsCode s n (Some i)
    hook_is_code stands h =
        let k = apart table made_alone.groups (g ∷ []) n h in
        subst (λ (o : Option Hook). (told : core.Exp) × Like table upgraded s.names (start_end s n (count last) (take (length s.places - kept) s.places) o).exp told × Elaborates table false s (finish last upgraded (Some i) total) told → EndIsCode s n (Some i)) (hook_there last i f there)
        (λ r. record { told = r.0; like = r.1; code = r.2 }) (
          core.Functions number (ending is_told),
          Grouped s.names number g (ending (at_place (suc s.names) (Local 0))) (ending is_told) (k.1.0) ending_like,
          inr (
            i,
            number,
            b,
            ending is_told,
            k.1.0,
            one_is_code last i there (elaborates table false (behind (on_parameters f.parameters t0) (in_body (number_of_parameters f.parameters) t0)) n f.body (stands.0) ((apart table inner.groups [] n (k.0)).0)),
            rest_is_code,
            refl,
          ),
        )

  end_is_code : (s : Scope) (ls : List ℕ) → s.places ≡ places_at ls → length ls ≡ total → (n : ℕ) (o : Option ℕ) → declarations.HookWithin (count last) o → CalledBehind last o → StandsAlone s (count last) (hook_of (hook_name o) last)
      → HasGroups table n (the_end s n o).groups → EndIsCode s n o
  end_is_code s ls at many n None within called stands h = record { told = (the_end s n None).exp; like = Same s.names _; code = tuple_is_code s s ls [] 0 at many refl refl }
  end_is_code s ls at many n (Some i) within (f, there, plain) stands h =
      hook_is_code s n i f there within ls at many (subst (λ (o : Option Hook). StandsAlone s (count last) o) (hook_there last i f there) stands)
      (subst (λ (o : Option Hook). HasGroups table n (start_end s n (count last) (take (length s.places - kept) s.places) o).groups) (hook_there last i f there) h)

  methods_code : (s : Scope) (ls : List ℕ) → s.places ≡ places_at ls → length ls ≡ total → EndStands → (n : ℕ)
      → HasGroups table n (elaborate_actor methods kept s n (source.Group last (declarations.parts methods last before after labels cells))).groups → CodeEnds (elaborate_actor methods kept s n (source.Group last (declarations.parts methods last before after labels cells)))
  methods_code s ls at many stand n h = record {
    bodies = subst (λ ps. MethodBodies table ps (firsts methods last) (elaborate_functions (outside known) m0 (firsts methods last)).bodies) same code;
    save = subst (λ ps. SavedBy table ps cells kept last before v.body) same
        (save_is_code table known cells kept last before (m0 + length m.groups) (subst (λ ps. HookStands ps last before) (sym same) stand.hook_stands) (subst (λ ps. AllByRecursion (Owned ps) cells) (sym same) stand.cells_owned) (both.1));
  }
    where
      known : List Place
      known = replicate (count last) Nowhere ++ (numbered (suc (suc methods)) (take (length s.places - kept) s.places) ++ replicate kept Nowhere)

      same : known ≡ places_known methods kept total last
      same = known_is ls s.places at many

      m0 : ℕ
      m0 = n + length (the_end s n after).groups

      m : BodiesElaborated
      m = elaborate_functions (outside known) m0 (firsts methods last)

      v : SaveElaborated
      v = save_of kept known (m0 + length m.groups) (hook_of (declarations.hook_name before) last) (held_in known (declarations.names_of cells))

      both : HasGroups table m0 m.groups × HasGroups table (m0 + length m.groups) v.groups
      both = apart table m.groups v.groups m0 ((apart table (the_end s n after).groups (m.groups ++ v.groups) n h).1)

      code : MethodBodies table known (firsts methods last) m.bodies
      code = methods_are_code table known m0 (firsts methods last) (subst (λ ps. MethodsStand ps (firsts methods last)) (sym same) stand.methods_stand) (both.0)

  -- ---- a group of functions, and what stands behind it

  abbrev pub functions_at : Scope → ℕ → Functions → BodiesElaborated
  functions_at s n fns = elaborate_functions (under (count fns) s) n fns

  abbrev pub group_at : Scope → ℕ → Functions → Group Body
  group_at s n fns = record { sees = s.names; bodies = (functions_at s n fns).bodies }

  abbrev pub actor_behind : Scope → ℕ → Functions → Exp → Actor
  actor_behind s n fns b = elaborate_actor methods kept (under (count fns) s) (suc (n + length (functions_at s n fns).groups)) b

  abbrev actor_with : Scope → ℕ → Functions → Exp → Actor
  actor_with s n fns b = around_start methods kept (core.Functions (n + length (functions_at s n fns).groups)) ((functions_at s n fns).groups ++ group_at s n fns ∷ []) (actor_behind s n fns b)

  pub group_is : (s : Scope) (n m : ℕ) (fns : Functions) (b c : Exp) → D m b c → actor_with s n fns b ≡ elaborate_actor methods kept s n (source.Group fns b)
  group_is s n m fns b c (Opens k p e b' c' d) = refl
  group_is s n m fns b c (Groups k others b' c' few d) = refl
  group_is s n m fns b c (Ends k many) = refl

  pub group_stands : (s : Scope) (m : ℕ) (fns : Functions) (b c : Exp) → D m b c → DeclarationsStand s (source.Group fns b) → StandFunctions (under (count fns) s) fns × DeclarationsStand (under (count fns) s) b
  group_stands s m fns b c (Opens k p e b' c' d) h = h
  group_stands s m fns b c (Groups k others b' c' few d) h = h
  group_stands s m fns b c (Ends k many) h = h

  pub groups_there : (s : Scope) (n m : ℕ) (fns : Functions) (b c : Exp) → D m b c → HasGroups table n (elaborate_actor methods kept s n (source.Group fns b)).groups
      → HasGroups table n (functions_at s n fns).groups × HasGroups table (n + length (functions_at s n fns).groups) (group_at s n fns ∷ (actor_behind s n fns b).groups)
  groups_there s n m fns b c d h =
      apart table (functions_at s n fns).groups (group_at s n fns ∷ (actor_behind s n fns b).groups) n
      (subst (λ gs. HasGroups table n gs) (assoc (functions_at s n fns).groups (group_at s n fns ∷ []) (actor_behind s n fns b).groups) (subst (λ (a : Actor). HasGroups table n a.groups) (sym (group_is s n m fns b c d)) h))

  group_is_code : (s : Scope) (n m : ℕ) (fns : Functions) (b c : Exp) → D m b c → StandFunctions (under (count fns) s) fns → HasGroups table n (elaborate_actor methods kept s n (source.Group fns b)).groups → IsCode (under (count fns) s) c (actor_behind s n fns b)
      → IsCode s (source.Group fns c) (elaborate_actor methods kept s n (source.Group fns b))
  group_is_code s n m fns b c d functions h r =
      let i = groups_there s n m fns b c d h in
      subst (λ a. IsCode s (source.Group fns c) a) (group_is s n m fns b c d)
      (record {
        told = core.Functions number r.told;
        like = Grouped s.names number (group_at s n fns) (actor_behind s n fns b).start r.told (i.1.0)
            (subst (λ k. Like table upgraded (k + s.names) (actor_behind s n fns b).start r.told) (sym (as_many_bodies table (under (count fns) s) fns (functions_at s n fns).bodies code)) r.like);
        start = inl (number, (functions_at s n fns).bodies, r.told, i.1.0, code, r.start, refl);
        ends = record { bodies = r.ends.bodies; save = r.ends.save };
      })
    where
      number : ℕ
      number = n + length (functions_at s n fns).groups

      code : ElaboratesFunctions table (under (count fns) s) fns (functions_at s n fns).bodies
      code = elaborates_functions table (under (count fns) s) n fns functions ((groups_there s n m fns b c d h).0)

  pub under_group : (s : Scope) (ls : List ℕ) (n : ℕ) → s.places ≡ places_at ls → places_from s.names n ++ s.places ≡ places_at (levels_down s.names n ++ ls)
  under_group s ls n at =
      ap (λ ps. places_from s.names n ++ ps) at
      ∙ (ap (λ ps. ps ++ places_at ls) (places_down s.names n) ∙ (sym (assoc (locals (levels_down s.names n)) (locals ls) outer) ∙ ap (λ ps. ps ++ outer) (sym (locals_and (levels_down s.names n) ls))))

  pub under_pattern : (s : Scope) (ls bound : List ℕ) → s.places ≡ places_at ls → locals bound ++ s.places ≡ places_at (bound ++ ls)
  under_pattern s ls bound at = ap (λ ps. locals bound ++ ps) at ∙ (sym (assoc (locals bound) (locals ls) outer) ∙ ap (λ ps. ps ++ outer) (sym (locals_and bound ls)))

  -- the start and the methods of an actor whose groups stand in the table
  pub is_code : declarations.HookWithin (count last) after → (m : ℕ) (b c : Exp) → D m b c → (s : Scope) (ls : List ℕ) → length ls ≡ m → s.places ≡ places_at ls → DeclarationsStand s b → EndStands → (n : ℕ)
      → HasGroups table n (elaborate_actor methods kept s n b).groups → IsCode s c (elaborate_actor methods kept s n b)
  is_code within m b c (Opens k p e b' c' d) s ls many at stand methods_stand n h =
      let x : Elaborated = elaborate s n e in
      let k : Checked = on_nearest p s in
      let i = apart table x.groups (elaborate_actor methods kept (behind k s) (n + length x.groups) b').groups n h in
      let r = is_code within (bound_in p + m) b' c' d (behind k s) (k.bound ++ ls) (length_and k.bound ls ∙ ap₂ (λ x y. x + y) (bound_many p (Named s.names) (suc s.names)) many) (under_pattern s ls k.bound at) (stand.1) methods_stand (n + length x.groups) (i.1) in
      record {
        told = let_in x.exp (around_all k.checks fails r.told);
        like = First s.names _ _ x.exp x.exp core.NoExp (InBind s.names _ _ (like_around table upgraded (suc s.names) k.checks _ r.told (subst (λ m. Like table upgraded m (elaborate_actor methods kept (behind k s) (n + length x.groups) b').start r.told) (names_counted p (Named s.names) (suc s.names)) r.like))) (Same s.names x.exp);
        start = (x.exp, r.told, elaborates table false s n e (stand.0) (i.0), r.start, refl);
        ends = record { bodies = r.ends.bodies; save = r.ends.save };
      }
  is_code within m b c (Groups k fns b' c' few d) s ls many at stand methods_stand n h =
      let st = group_stands s (count fns + m) fns b' c' d stand in
      group_is_code s n (count fns + m) fns b' c' d (st.0) h
      (is_code within (count fns + m) b' c' d (under (count fns) s) (levels_down s.names (count fns) ++ ls) (length_and (levels_down s.names (count fns)) ls ∙ ap₂ (λ x y. x + y) (levels_many s.names (count fns)) many) (under_group s ls (count fns) at) (st.1) methods_stand
      (suc (n + length (functions_at s n fns).groups)) ((groups_there s n (count fns + m) fns b' c' d h).1.1))
  is_code within m b c (Ends k is) s ls many at stand methods_stand n h =
      let e = end_is_code s ls at (many ∙ is) n after within methods_stand.called stand ((apart table (the_end s n after).groups _ n h).0) in
      record { told = e.told; like = e.like; start = subst (λ k. Elaborates table false s (finish last upgraded after k) e.told) (sym is) e.code; ends = methods_code s ls at (many ∙ is) methods_stand n h }
