-- Code of an expression is formed.
use Rattle.std.proofs.Common.{◌≡◌, ℕ, zero, suc, ◌+◌, ◌-◌, ◌<◌, ◌≤◌, Bool, false, List, [], ◌∷◌, ◌++◌, length, Some, None, slice_get, refl, sym, ap, ◌∙◌, subst, arith, true, cond, inl, inr}
use Rattle.std.specs.Prelude.{replicate}
use Rattle.mo_num.specs.declared.kind.Kind.TheVariants as kind
use Rattle.mo_values.specs.declared.operation.Operation.TheVariants as op
use Rattle.mo_values.specs.Shapes.{Leaf, Tuple}
use Rattle.core_ir.specs.Arities.{Takes, arity, operation_arity}
use Rattle.core_ir.specs.declared.primitive.Primitive.{Primitive}
use Rattle.core_ir.specs.declared.primitive.Primitive.TheVariants as primitive
use Rattle.core_ir.specs.Programs.{Group}
use Rattle.core_ir.specs.Expressions as core
use Rattle.core_ir.specs.Expressions.{Body}
use Rattle.core_ir.specs.Formed.{size_at, sees_at}
use Rattle.core_ir.specs.FormedExpressions.{count, FormedAll, FormedGoal}
use Rattle.typed_tree.specs.declared.action.Action.{Action}
use Rattle.typed_tree.specs.declared.action.Action.TheVariants as action
use Rattle.typed_tree.specs.declared.action.Member.{Member}
use Rattle.typed_tree.specs.declared.action.Member.TheVariants as member
use Rattle.typed_tree.specs.Language as source
use Rattle.typed_tree.specs.Language.{Value, Exp, Exps, Cases, Functions, Made, NoValue, Val, Switch, While, Repeat, For, Update, NoCase, ACase, NoFunction, AFunction}
use Rattle.typed_tree.specs.Patterns.{Pat, Pats, NoPat, APat}
use Rattle.typed_tree.specs.Substitution.{count as count_functions}
use Rattle.elaboration.specs.Scopes.{Place, Local, Own, Nowhere, Scope, append, nothing, at_place, place_or_nowhere, leave, leaving, beside, inside, labelled, places_from, under, in_body}
use Rattle.elaboration.specs.Checks.{Named, check, check_all, around_all, behind, fails, locals}
use Rattle.elaboration.specs.Members.{Form, Does, Calls, Iterates, Steps, form_of, number_of, own_group, function_of, levels_from, called, amount, bind_all, let_in}
use Rattle.elaboration.specs.Elaboration.{constant_of, break_with, goal_of, number_of_parameters, on_nearest, on_parameters, count_of, is_true, loop_scope, tested_loop}
use Rattle.elaboration_forms.specs.Elaborates.{IsLiteral, May, AtOnce, HasGroups, Elaborates, ElaboratesAll, ElaboratesNames, ElaboratesCases, ElaboratesFunctions, unseen, one_of, only}
use Rattle.elaboration_formed.specs.Arities.{held, taken, ActionTakes, Shaped, ShapedAll, ShapedCases, ShapedFunctions}
use Rattle.elaboration_formed.specs.Formed.{PlaceFits, PlacesFit, ExitsFit, Fits, Formed, EachFormed}
use Rattle.elaboration_formed.proofs.Checking.{Closed, Good, LevelsFit, checked, all_checked, places_fit}

-- ---- groups of a table

pub there : (table : List (Group Body)) (k : ℕ) (g : Group Body) → slice_get table k ≡ Some g → (k < length table) × (sees_at table k ≡ g.sees) × (size_at table k ≡ length g.bodies)
there [] k g q = absurd (let z : None ≡ Some g = q in cc)
there (h ∷ table) zero g q = let z : Some h ≡ Some g = q in let same : h ≡ g = cc in (omega arith, ap (λ (g : Group Body). g.sees) same, ap (λ (g : Group Body). length g.bodies) same)
there (h ∷ table) (suc k) g q = let r = there table k g q in (let z = r.0 in omega (arith, z), r.1, r.2)

group_of : (table : List (Group Body)) (form : Form) (names : ℕ) (levels : List ℕ) (n : ℕ) → HasGroups table n (function_of form names levels n).groups → slice_get table (number_of form n) ≡ Some (own_group form names levels n)
group_of table (Does goal holds parameters) names levels n h = h.0
group_of table (Calls goal parameters) names levels n h = h.0
group_of table (Iterates over) names levels n h = h.1.0
group_of table (Steps over) names levels n h = h.0

-- ---- scopes

module _ (globals : ℕ) where
  more_names : (n m : ℕ) (places : List Place) → n ≤ m → PlacesFit globals n places → PlacesFit globals m places
  more_names n m [] h k = tt
  more_names n m (p ∷ places) h k = (by p k.0, more_names n m places h k.1)
    where
      by : (p : Place) → PlaceFits globals n p → PlaceFits globals m p
      by (Local level) f = omega (arith, h, f)
      by (Own i) f = f
      by Nowhere f = tt

  more_places : (n : ℕ) (ps qs : List Place) → PlacesFit globals n ps → PlacesFit globals n qs → PlacesFit globals n (ps ++ qs)
  more_places n [] qs h k = k
  more_places n (p ∷ ps) qs h k = (h.0, more_places n ps qs h.1 k)

  more_exits : (n m : ℕ) (exits : List ℕ) → n ≤ m → ExitsFit n exits → ExitsFit m exits
  more_exits n m [] h k = tt
  more_exits n m (l ∷ exits) h k = (omega (arith, h, k.0), more_exits n m exits h k.1)

  group_places : (from n m : ℕ) → n + from ≤ m → PlacesFit globals m (places_from from n)
  group_places from zero m h = tt
  group_places from (suc n) m h = (omega (arith, h), group_places from n m (omega (arith, h)))

  pub fits_beside : (k : ℕ) (s : Scope) → Fits globals s → Fits globals (beside k s)
  fits_beside k s f = record { places = more_names s.names (k + s.names) s.places (omega arith) f.places; exits = f.exits }

  pub fits_inside : (s : Scope) → Fits globals s → Fits globals (inside s)
  fits_inside s f = record { places = f.places; exits = more_exits s.labels (suc s.labels) s.exits (omega arith) f.exits }

  pub fits_loop : (x : Exp) (s : Scope) → Fits globals s → Fits globals (loop_scope x s)
  fits_loop x s f = record { places = f.places; exits = more_exits s.labels (cond (is_true x) s.labels (suc s.labels)) s.exits (by (is_true x)) f.exits }
    where
      by : (e : Bool) → s.labels ≤ cond e s.labels (suc s.labels)
      by true = omega arith
      by false = omega arith

  pub fits_labelled : (s : Scope) → Fits globals s → Fits globals (labelled s)
  fits_labelled s f = record { places = f.places; exits = (omega arith, more_exits s.labels (suc s.labels) s.exits (omega arith) f.exits) }

  pub fits_under : (n : ℕ) (s : Scope) → Fits globals s → Fits globals (under n s)
  fits_under n s f = record { places = more_places (n + s.names) (places_from s.names n) s.places (group_places s.names n (n + s.names) (omega arith)) (more_names s.names (n + s.names) s.places (omega arith) f.places); exits = f.exits }

  none_fit : (n m : ℕ) → PlacesFit globals m (replicate n Nowhere)
  none_fit zero m = tt
  none_fit (suc n) m = (tt, none_fit n m)

  -- where nothing or one name of a group has a place
  pub fits_unseen : (n : ℕ) (s : Scope) → Fits globals s → Fits globals (unseen n s)
  fits_unseen n s f = record { places = more_places (suc s.names) (replicate n Nowhere) s.places (none_fit n (suc s.names)) (more_names s.names (suc s.names) s.places (omega arith) f.places); exits = f.exits }

  one_fits : (level i n m : ℕ) → level < m → PlacesFit globals m (one_of level i n)
  one_fits level i zero m h = tt
  one_fits level zero (suc n) m h = (h, none_fit n m)
  one_fits level (suc i) (suc n) m h = (tt, one_fits level i n m h)

  fits_only : (i n : ℕ) (s : Scope) → Fits globals s → Fits globals (only i n s)
  fits_only i n s f = record {
    places = more_places (suc s.names) (one_of s.names i n) s.places (one_fits s.names i n (suc s.names) (omega arith)) (more_names s.names (suc s.names) s.places (omega arith) f.places);
    exits = f.exits;
  }

  fits_in_body : (n : ℕ) (s : Scope) → Fits globals s → Fits globals (in_body n s)
  fits_in_body n s f = record { places = more_names s.names (n + s.names) s.places (omega arith) f.places; exits = tt }

  place_there : (n : ℕ) (places : List Place) (x : ℕ) → PlacesFit globals n places → PlaceFits globals n (place_or_nowhere (slice_get places x))
  place_there n [] x h = tt
  place_there n (p ∷ places) zero h = h.0
  place_there n (p ∷ places) (suc x) h = place_there n places x h.1

-- a built-in function is no goal
abbrev IsGoal : Action → Type 0
IsGoal (action.BuiltIn m) = ⊥
IsGoal a = Unit {0}

module _ (globals : ℕ) (table : List (Group Body)) where
  abbrev F : Bool → ℕ → ℕ → core.Exp → Type 0
  F b names labels c = Formed globals table b names labels c

  abbrev G : Bool → ℕ → ℕ → core.Goal → ℕ → Type 0
  G b names labels g n = FormedGoal (size_at table) (sees_at table) globals (length table) b names labels g n

  abbrev A : Bool → ℕ → ℕ → core.Exps → Type 0
  A b names labels cs = FormedAll (size_at table) (sees_at table) globals (length table) b names labels cs

  place_formed : (b : Bool) (names labels : ℕ) (p : Place) → PlaceFits globals names p → F b names labels (at_place names p)
  place_formed b names labels (Local level) h = omega (arith, h)
  place_formed b names labels (Own i) h = h
  place_formed b names labels Nowhere h = tt

  literal_formed : (b : Bool) (names labels : ℕ) (v : Value) → IsLiteral v → F b names labels (constant_of v)
  literal_formed b names labels (Made (Leaf p) NoValue) h = tt
  literal_formed b names labels (Made Tuple NoValue) h = tt
  literal_formed b names labels v h = absurd h

  leave_formed : (b : Bool) (names labels : ℕ) (exits : List ℕ) (l : ℕ) → ExitsFit labels exits → G b names labels (leave labels (slice_get exits l)) 1
  leave_formed b names labels [] l h = refl
  leave_formed b names labels (e ∷ exits) zero h = (omega (arith, h.0), refl)
  leave_formed b names labels (e ∷ exits) (suc l) h = leave_formed b names labels exits l h.1

  -- as many operands
  counted : (b : Bool) (s : Scope) (es : Exps) (ds : core.Exps) → ElaboratesAll table b s es ds → count ds ≡ count_of es
  counted b s source.NoExp ds h = ap count h
  counted b s (source.AnExp e es) ds h = ap count h.4 ∙ ap suc (counted b s es h.1 h.3)

  goal_formed : (b : Bool) (s : Scope) (a : Action) (n m : ℕ) → Fits globals s → m ≡ n → May b a → ActionTakes a n → IsGoal a → G b s.names s.labels (goal_of s a) m
  goal_formed b s (action.Operate o) n m f q k h i = subst (Takes (operation_arity o)) (sym q) h
  goal_formed b s (action.BuiltIn x) n m f q k h i = absurd i
  goal_formed b s action.New n m f q k h i = q ∙ h
  goal_formed b s action.Read n m f q k h i = q ∙ h
  goal_formed b s action.Write n m f q k h i = q ∙ h
  goal_formed b s action.WriteElement n m f q k h i = q ∙ h
  goal_formed b s action.Print n m f q k h i = q ∙ h
  goal_formed b s action.Throw n m f q k h i = (k, q ∙ h)
  goal_formed b s action.Call n m f q k h i = subst (λ n. 1 ≤ n) (sym q) h
  goal_formed b s (action.Send ps rs) n m f q k h i = (k, q ∙ h)
  goal_formed b s action.Await n m f q k h i = (k, q ∙ h)
  goal_formed b s (action.Break l) n m f q k h i = subst (G b s.names s.labels (leaving s l)) (sym (q ∙ h)) (leave_formed b s.names s.labels s.exits l f.exits)
  goal_formed b s (action.Unwrap l) n m f q k h i = (q ∙ h, omega arith, (leave_formed b s.names s.labels s.exits l f.exits, (tt, tt)))

  names_counted : (b : Bool) (s : Scope) (es : Exps) (ds : core.Exps) → ElaboratesNames table b s es ds → amount ds ≡ count_of es
  names_counted b s source.NoExp ds h = ap amount h
  names_counted b s (source.AnExp e es) ds h = ap amount h.4 ∙ ap suc (names_counted b (beside 1 s) es h.1 h.3)

  pub bodies_counted : (s : Scope) (fns : Functions) (bodies : List Body) → ElaboratesFunctions table s fns bodies → length bodies ≡ count_functions fns
  bodies_counted s NoFunction bodies h = ap length h
  bodies_counted s (AFunction how nodes ps body fns) bodies h = ap length h.4 ∙ ap suc (bodies_counted s fns h.1 h.3)

  pub append_formed : (b : Bool) (names labels : ℕ) (cs ds : core.Exps) → A b names labels cs → A b names labels ds → A b names labels (append cs ds)
  append_formed b names labels core.NoExp ds h k = k
  append_formed b names labels (core.AnExp c cs) ds h k = (h.0, append_formed b names labels cs ds h.1 k)

  pub append_count : (cs ds : core.Exps) → count (append cs ds) ≡ count cs + count ds
  append_count core.NoExp ds = omega arith
  append_count (core.AnExp c cs) ds = let z : count (append cs ds) ≡ count cs + count ds = append_count cs ds in omega (arith, z)

  -- behind the scope of a pattern on the nearest name
  pub behind_fits : (b : Bool) (s t : Scope) (levels : List ℕ) (n : ℕ) → s.names ≤ n → LevelsFit globals table b n levels → t.places ≡ locals levels ++ s.places → t.names ≡ n → t.exits ≡ s.exits → t.labels ≡ s.labels → Fits globals s → Fits globals t
  behind_fits b s t levels n le h p q e l f = record {
    places = subst (λ ps. PlacesFit globals t.names ps) (sym p) (subst (λ n. PlacesFit globals n (locals levels ++ s.places)) (sym q) (more_places globals n (locals levels) s.places (places_fit globals table b n levels h) (more_names globals s.names n s.places le f.places)));
    exits = subst (λ es. ExitsFit t.labels es) (sym e) (subst (λ n. ExitsFit n s.exits) (sym l) f.exits);
  }

  fails_closed : (b : Bool) → Closed globals table b fails
  fails_closed b names labels = (refl, tt)

  nothing_closed : (b : Bool) → Closed globals table b nothing
  nothing_closed b names labels = tt

  -- ---- built-in functions

  -- operands that are names in those behind them
  abbrev NamesFormed : Bool → ℕ → ℕ → core.Exps → Type 0
  NamesFormed b names labels core.NoExp = Unit {0}
  NamesFormed b names labels (core.AnExp d ds) = F b names labels d × NamesFormed b (suc names) labels ds

  few_names : (b : Bool) (names labels : ℕ) (ds : core.Exps) → amount ds ≤ 1 → A b names labels ds → NamesFormed b names labels ds
  few_names b names labels core.NoExp q h = tt
  few_names b names labels (core.AnExp d core.NoExp) q h = (h.0, tt)
  few_names b names labels (core.AnExp d (core.AnExp e ds)) q h = absurd (let z : suc (suc (amount ds)) ≤ 1 = q in omega (arith, z))

  bound : (b : Bool) (names labels : ℕ) (ds : core.Exps) (c : core.Exp) → NamesFormed b names labels ds → F b (amount ds + names) labels c → F b names labels (bind_all ds c)
  bound b names labels core.NoExp c h k = subst (λ n. F b n labels c) (let z : 0 + names ≡ names = omega arith in z) k
  bound b names labels (core.AnExp d ds) c h k = ((refl, bound b (suc names) labels ds c h.1 (let z : suc (amount ds) + names ≡ amount ds + suc names = omega arith in subst (λ n. F b n labels c) z k)), (h.0, tt))

  -- a built-in function as a value
  function_formed : (b : Bool) (names labels : ℕ) (form : Form) (levels : List ℕ) (n : ℕ) → HasGroups table n (function_of form names levels n).groups → F b names labels (function_of form names levels n).exp
  function_formed b names labels form levels n h =
      let r = there table (number_of form n) (own_group form names levels n) (group_of table form names levels n h) in
      (r.0, r.1, (let z : size_at table (number_of form n) ≡ 1 = r.2 in omega (arith, z)))

  amounts : (cs : core.Exps) → amount cs ≡ count cs
  amounts core.NoExp = refl
  amounts (core.AnExp c cs) = ap suc (amounts cs)

  -- called as a value
  value_called : (b : Bool) (names labels : ℕ) (form : Form) (ds fs : core.Exps) (levels : List ℕ) (n : ℕ) → amount ds ≤ 1 → HasGroups table n (function_of form (amount ds + names) levels n).groups → A b names labels ds → A b names labels fs
      → F b names labels (core.Do core.Call (core.AnExp (bind_all ds (function_of form (amount ds + names) levels n).exp) fs))
  value_called b names labels form ds fs levels n q g h k = (omega arith, (bound b names labels ds _ (few_names b names labels ds q h) (function_formed b (amount ds + names) labels form levels n g), k))

  -- done in the place of a call
  done_at_once : (b : Bool) (names labels : ℕ) (p : Primitive) (m : ℕ) (ds fs : core.Exps) → Takes (arity p) m → count ds + count fs ≡ m → A b names labels ds → A b names labels fs → F b names labels (core.Do (core.Operate p) (append ds fs))
  done_at_once b names labels p m ds fs t q h k = (subst (Takes (arity p)) (sym (append_count ds fs ∙ q)) t, append_formed b names labels ds fs h k)

  call_formed : (b : Bool) (names labels : ℕ) (m : Member) (ds fs : core.Exps) (n : ℕ) → count ds ≡ held (form_of m) → count fs ≡ taken (form_of m) → AtOnce (form_of m) (count ds) → HasGroups table n (called (form_of m) ds fs names n).groups → A b names labels ds → A b names labels fs
      → F b names labels (called (form_of m) ds fs names n).exp
  call_formed b names labels member.DebugPrint ds fs n p q o g h k = done_at_once b names labels primitive.Print 1 ds fs refl (omega (arith, p, q)) h k
  call_formed b names labels member.DebugTrap ds fs n p q o g h k = done_at_once b names labels (primitive.Operate op.Trap) 1 ds fs refl (omega (arith, p, q)) h k
  call_formed b names labels member.ErrorReject ds fs n p q o g h k = done_at_once b names labels (primitive.Operate op.RejectError) 1 ds fs refl (omega (arith, p, q)) h k
  call_formed b names labels member.ErrorMessage ds fs n p q o g h k = done_at_once b names labels (primitive.Operate op.Message) 1 ds fs refl (omega (arith, p, q)) h k
  call_formed b names labels member.ErrorCode ds fs n p q o g h k = done_at_once b names labels (primitive.Operate op.Code) 1 ds fs refl (omega (arith, p, q)) h k
  call_formed b names labels member.NatToText ds fs n p q o g h k = done_at_once b names labels (primitive.Operate (op.ToText kind.Nat)) 1 ds fs refl (omega (arith, p, q)) h k
  call_formed b names labels member.IntToText ds fs n p q o g h k = done_at_once b names labels (primitive.Operate (op.ToText kind.Int)) 1 ds fs refl (omega (arith, p, q)) h k
  call_formed b names labels member.PrincipalFromActor ds fs n p q o g h k = done_at_once b names labels (primitive.Operate op.PrincipalOf) 1 ds fs refl (omega (arith, p, q)) h k
  call_formed b names labels member.ArraySize ds fs n p q o g h k = done_at_once b names labels (primitive.Operate op.ArraySize) 1 ds fs refl (omega (arith, p, q)) h k
  call_formed b names labels member.TextSize ds fs n p q o g h k = done_at_once b names labels (primitive.Operate op.TextSize) 1 ds fs refl (omega (arith, p, q)) h k
  call_formed b names labels member.ArrayTabulate ds fs n p q o g h k = value_called b names labels (form_of member.ArrayTabulate) ds fs (levels_from names (amount ds)) n (subst (λ n. n ≤ 1) (sym (amounts ds)) o) g h k
  call_formed b names labels member.ArrayInit ds fs n p q o g h k = value_called b names labels (form_of member.ArrayInit) ds fs (levels_from names (amount ds)) n (subst (λ n. n ≤ 1) (sym (amounts ds)) o) g h k
  call_formed b names labels member.ArrayFreeze ds fs n p q o g h k = value_called b names labels (form_of member.ArrayFreeze) ds fs (levels_from names (amount ds)) n (subst (λ n. n ≤ 1) (sym (amounts ds)) o) g h k
  call_formed b names labels member.ArrayThaw ds fs n p q o g h k = value_called b names labels (form_of member.ArrayThaw) ds fs (levels_from names (amount ds)) n (subst (λ n. n ≤ 1) (sym (amounts ds)) o) g h k
  call_formed b names labels member.ArrayVals ds fs n p q o g h k = value_called b names labels (form_of member.ArrayVals) ds fs (levels_from names (amount ds)) n (subst (λ n. n ≤ 1) (sym (amounts ds)) o) g h k
  call_formed b names labels member.ArrayKeys ds fs n p q o g h k = value_called b names labels (form_of member.ArrayKeys) ds fs (levels_from names (amount ds)) n (subst (λ n. n ≤ 1) (sym (amounts ds)) o) g h k
  call_formed b names labels member.TextChars ds fs n p q o g h k = value_called b names labels (form_of member.TextChars) ds fs (levels_from names (amount ds)) n (subst (λ n. n ≤ 1) (sym (amounts ds)) o) g h k
  call_formed b names labels member.NextVal ds fs n p q o g h k = value_called b names labels (form_of member.NextVal) ds fs (levels_from names (amount ds)) n (subst (λ n. n ≤ 1) (sym (amounts ds)) o) g h k
  call_formed b names labels member.NextKey ds fs n p q o g h k = value_called b names labels (form_of member.NextKey) ds fs (levels_from names (amount ds)) n (subst (λ n. n ≤ 1) (sym (amounts ds)) o) g h k
  call_formed b names labels member.NextChar ds fs n p q o g h k = value_called b names labels (form_of member.NextChar) ds fs (levels_from names (amount ds)) n (subst (λ n. n ≤ 1) (sym (amounts ds)) o) g h k

  -- one name more
  next_name : (n : ℕ) (P : ℕ → Type 0) → P (1 + n) → P (suc n)
  next_name n P h = let z : 1 + n ≡ suc n = omega arith in subst P z h

  one_more : (n : ℕ) (P : ℕ → Type 0) → P (suc n) → P (1 + n)
  one_more n P h = let z : suc n ≡ 1 + n = omega arith in subst P z h

  -- ---- patterns, and what stands behind them

  let_good : (b : Bool) (s : Scope) (p : Pat) → Good globals table b (suc s.names) (on_nearest p s)
  let_good b s p = checked globals table b p (Named s.names) (suc s.names) (omega arith)

  pub let_fits : (b : Bool) (s : Scope) (p : Pat) → Fits globals s → Fits globals (behind (on_nearest p s) s)
  let_fits b s p f = let g = let_good b s p in behind_fits b s (behind (on_nearest p s) s) (on_nearest p s).bound (on_nearest p s).names (let z = g.leads.more in omega (arith, z)) g.levels refl refl refl refl f

  let_around : (b : Bool) (s : Scope) (p : Pat) (z : core.Exp) → F b (on_nearest p s).names s.labels z → F b (suc s.names) s.labels (around_all (on_nearest p s).checks fails z)
  let_around b s p z h = (let_good b s p).leads.formed s.labels fails z (fails_closed b) h

  turn_good : (b : Bool) (s : Scope) (p : Pat) → Good globals table b (suc (1 + s.names)) (on_nearest p (beside 1 s))
  turn_good b s p = checked globals table b p (Named (1 + s.names)) (suc (1 + s.names)) (omega arith)

  pub turn_fits : (b : Bool) (s : Scope) (p : Pat) → Fits globals s → Fits globals (inside (behind (on_nearest p (beside 1 s)) s))
  turn_fits b s p f =
      let c = on_nearest p (beside 1 s) in
      let g = turn_good b s p in
      fits_inside globals (behind c s) (behind_fits b s (behind c s) c.bound c.names (let z = g.leads.more in omega (arith, z)) g.levels refl refl refl refl f)

  turn_around : (b : Bool) (s : Scope) (p : Pat) (z : core.Exp) → F b (on_nearest p (beside 1 s)).names (suc s.labels) z → F b (suc (suc s.names)) (suc s.labels) (around_all (on_nearest p (beside 1 s)).checks fails z)
  turn_around b s p z h = next_name s.names (λ n. F b (suc n) (suc s.labels) (around_all (on_nearest p (beside 1 s)).checks fails z)) ((turn_good b s p).leads.formed (suc s.labels) fails z (fails_closed b) h)

  loop_formed : (b : Bool) (s : Scope) (e : Bool) (y z : core.Exp) → F b s.names (suc s.labels) y → F b (1 + s.names) (cond e s.labels (suc s.labels)) z → F b s.names s.labels (cond e (core.Loop (let_in nothing z)) (tested_loop y z))
  loop_formed b s true y z h k = ((refl, next_name s.names (λ n. F b n s.labels z) k), (tt, tt))
  loop_formed b s false y z h k = ((refl, next_name s.names (λ n. F b n (suc s.labels) z) k), (((refl, refl, tt, ((omega arith, refl), (tt, tt))), (h, tt)), tt))

  pub body_fits : (b : Bool) (s : Scope) (ps : Pats) → Fits globals s → Fits globals (behind (on_parameters ps s) (in_body (number_of_parameters ps) s))
  body_fits b s NoPat f = fits_in_body globals 0 s f
  body_fits b s (APat p ps) f =
      let n = suc (number_of_parameters ps) + s.names in
      let c = check_all (APat p ps) (n - 1) n in
      let g = all_checked globals table b (APat p ps) (n - 1) n (omega arith) in
      let u = in_body (suc (number_of_parameters ps)) s in
      behind_fits b u (behind c u) c.bound c.names g.leads.more g.levels refl refl refl refl (fits_in_body globals (suc (number_of_parameters ps)) s f)

  pub body_around : (b : Bool) (s : Scope) (ps : Pats) (z : core.Exp) → F b (on_parameters ps s).names 0 z → F b (number_of_parameters ps + s.names) 0 (around_all (on_parameters ps s).checks fails z)
  body_around b s NoPat z h = h
  body_around b s (APat p ps) z h =
      let n = suc (number_of_parameters ps) + s.names in
      (all_checked globals table b (APat p ps) (n - 1) n (omega arith)).leads.formed 0 fails z (fails_closed b) h

  -- ---- expressions

  mutual
    pub formed : (b : Bool) (s : Scope) (e : Exp) (c : core.Exp) → Elaborates table b s e c → Fits globals s → Shaped e → F b s.names s.labels c
    formed b s (Val v) c h f k = subst (F b s.names s.labels) (sym h.1) (literal_formed b s.names s.labels v h.0)
    formed b s (source.Name x) c h f k = subst (F b s.names s.labels) (sym h.1) (place_formed b s.names s.labels (place_or_nowhere (slice_get s.places x)) (place_there globals s.names s.places x f.places))
    formed b s (source.Do action.Call (source.AnExp (source.Do (action.BuiltIn m) es) args)) c h f k =
        let n = counted b s es h.0 h.3 in
        subst (F b s.names s.labels) (sym h.6)
        (call_formed b s.names s.labels m h.0 h.1 h.2 (n ∙ k.2.0.0) (counted b s args h.1 h.4 ∙ k.1) (subst (AtOnce (form_of m)) (sym n) h.7) h.5 (all_formed b s es h.0 h.3 f k.2.0.2) (all_formed b s args h.1 h.4 f k.2.1))
    formed b s (source.Do (action.BuiltIn m) es) c h f k =
        let n = names_counted b s es h.0 h.2 in
        subst (F b s.names s.labels) (sym h.4)
        (bound b s.names s.labels h.0 _ (names_formed b s es h.0 h.2 f k.2)
        (subst (λ i. F b (i + s.names) s.labels (function_of (form_of m) (count_of es + s.names) (levels_from s.names (count_of es)) h.1).exp) (sym n) (function_formed b (count_of es + s.names) s.labels (form_of m) (levels_from s.names (count_of es)) h.1 h.3)))
    formed b s (source.Do a es) c h f k =
        subst (F b s.names s.labels) (sym h.3) (goal_formed b s a (count_of es) (count h.0) f (counted b s es h.0 h.2) h.1 k.0 tt, all_formed b s es h.0 h.2 f k.2)
    formed b s (source.If x a d) c h f k =
        subst (F b s.names s.labels) (sym h.6) ((refl, refl, formed b s a h.1 h.4 f k.1, formed b s d h.2 h.5 f k.2), (formed b s x h.0 h.3 f k.0, tt))
    formed b s (Switch e (ACase p d NoCase)) c h f k =
        subst (F b s.names s.labels) (sym h.4) ((refl, let_around b s p h.1 (formed b (behind (on_nearest p s) s) d h.1 h.3 (let_fits b s p f) k.1.0)), (formed b s e h.0 h.2 f k.0, tt))
    formed b s (Switch e cases) c h f k =
        subst (F b s.names s.labels) (sym h.4)
        ((refl, next_name s.names (λ n. F b n (suc s.labels) h.1) (cases_formed b s.names (inside (beside 1 s)) cases h.1 (omega arith) h.3 (fits_inside globals (beside 1 s) (fits_beside globals 1 s f)) (omega arith) k.1)), (formed b s e h.0 h.2 f k.0, tt))
    formed b s (source.Group fns d) c (inl h) f k =
        let r = there table h.0 (record { sees = s.names; bodies = h.1 }) h.3 in
        let n = bodies_counted (under (count_functions fns) s) fns h.1 h.4 in
        subst (F b s.names s.labels) (sym h.6)
        (r.0, r.1, subst (λ i. F b (i + s.names) s.labels h.2) (sym (r.2 ∙ n)) (formed b (under (count_functions fns) s) d h.2 h.5 (fits_under globals (count_functions fns) s f) k.1))
    formed b s (source.Group fns d) c (inr h) f k =
        let r = there table h.1 (record { sees = s.names; bodies = h.2 ∷ [] }) h.4 in
        subst (F b s.names s.labels) (sym h.7)
        (r.0, r.1, subst (λ i. F b (i + s.names) s.labels h.3) (sym r.2) (one_more s.names (λ n. F b n s.labels h.3) (formed b (only h.0 (count_functions fns) s) d h.3 h.6 (fits_only globals h.0 (count_functions fns) s f) k.1)))
    formed b s (source.Frame nodes e) c h f k = absurd h
    formed b s (source.Label e) c h f k = subst (F b s.names s.labels) (sym h.2) (formed b (labelled s) e h.0 h.1 (fits_labelled globals s f) k)
    formed b s (While x d) c h f k =
        subst (F b s.names s.labels) (sym h.4)
        (loop_formed b s (is_true x) h.0 h.1 (formed b (inside s) x h.0 h.2 (fits_inside globals s f) k.0) (formed b (beside 1 (loop_scope x s)) d h.1 h.3 (fits_beside globals 1 (loop_scope x s) (fits_loop globals x s f)) k.1))
    formed b s (Repeat d x) c h f k =
        subst (F b s.names s.labels) (sym h.4)
        ((refl, ((refl, refl, tt, ((omega arith, refl), (tt, tt))), (next_name s.names (λ n. F b n (suc s.labels) h.1) (formed b (beside 1 (inside s)) x h.1 h.3 (fits_beside globals 1 (inside s) (fits_inside globals s f)) k.1), tt))), (formed b (inside s) d h.0 h.2 (fits_inside globals s f) k.0, tt))
    formed b s (For p e d) c h f k =
        subst (F b s.names s.labels) (sym h.4)
        ((refl, ((refl, turn_around b s p h.1 (formed b (inside (behind (on_nearest p (beside 1 s)) s)) d h.1 h.3 (turn_fits b s p f) k.1)), (((refl, omega arith, ((omega arith, refl), (tt, tt))), ((omega arith, ((refl, (omega arith, tt)), tt)), tt)), tt))), (formed b s e h.0 h.2 f k.0, tt))
    formed b s (source.Try e p d) c h f k =
        subst (F b s.names s.labels) (sym h.5) (h.2, formed b s e h.0 h.3 f k.0, let_around b s p h.1 (formed b (behind (on_nearest p s) s) d h.1 h.4 (let_fits b s p f) k.1))
    formed b s (Update o e g) c h f k =
        subst (F b s.names s.labels) (sym h.4)
        ((refl, (refl, (omega arith, ((k.0, ((refl, (omega arith, tt)), (next_name s.names (λ n. F b n s.labels h.1) (formed b (beside 1 s) g h.1 h.3 (fits_beside globals 1 s f) k.2), tt))), tt)))), (formed b s e h.0 h.2 f k.1, tt))

    all_formed : (b : Bool) (s : Scope) (es : Exps) (ds : core.Exps) → ElaboratesAll table b s es ds → Fits globals s → ShapedAll es → A b s.names s.labels ds
    all_formed b s source.NoExp ds h f k = subst (A b s.names s.labels) (sym h) tt
    all_formed b s (source.AnExp e es) ds h f k = subst (A b s.names s.labels) (sym h.4) (formed b s e h.0 h.2 f k.0, all_formed b s es h.1 h.3 f k.1)

    names_formed : (b : Bool) (s : Scope) (es : Exps) (ds : core.Exps) → ElaboratesNames table b s es ds → Fits globals s → ShapedAll es → NamesFormed b s.names s.labels ds
    names_formed b s source.NoExp ds h f k = subst (NamesFormed b s.names s.labels) (sym h) tt
    names_formed b s (source.AnExp e es) ds h f k = subst (NamesFormed b s.names s.labels) (sym h.4) (formed b s e h.0 h.2 f k.0, next_name s.names (λ n. NamesFormed b n s.labels h.1) (names_formed b (beside 1 s) es h.1 h.3 (fits_beside globals 1 s f) k.1))

    -- on the name of this level, inside a label
    cases_formed : (b : Bool) (level : ℕ) (s : Scope) (cases : Cases) (c : core.Exp) → level < s.names → ElaboratesCases table b level s cases c → Fits globals s → 1 ≤ s.labels → ShapedCases cases → F b s.names s.labels c
    cases_formed b level s NoCase c v h f l k = subst (F b s.names s.labels) (sym h) (refl, tt)
    cases_formed b level s (ACase p e cases) c v h f l k =
        let g = checked globals table b p (Named level) s.names v in
        let t = behind (check p (Named level) s.names) s in
        let inner = formed b t e h.0 h.2 (behind_fits b s t (check p (Named level) s.names).bound (check p (Named level) s.names).names g.leads.more g.levels refl refl refl refl f) k.0 in
        subst (F b s.names s.labels) (sym h.4) (
          (refl, next_name s.names (λ n. F b n s.labels h.1) (cases_formed b level (beside 1 s) cases h.1 (omega (arith, v)) h.3 (fits_beside globals 1 s f) l k.1)),
          (g.leads.formed s.labels nothing (break_with h.0) (nothing_closed b) ((l, refl), (inner, tt)), tt),
        )

    -- the bodies of a group that is in scope
    pub bodies_formed : (s : Scope) (fns : Functions) (bodies : List Body) → ElaboratesFunctions table s fns bodies → Fits globals s → ShapedFunctions fns → EachFormed globals table s.names bodies
    bodies_formed s NoFunction bodies h f k = subst (EachFormed globals table s.names) (sym h) tt
    bodies_formed s (AFunction how nodes ps body fns) bodies h f k = subst (EachFormed globals table s.names) (sym h.4) (body_around false s ps h.0 (formed false (behind (on_parameters ps s) (in_body (number_of_parameters ps) s)) body h.0 h.2 (body_fits false s ps f) k.0), bodies_formed s fns h.1 h.3 f k.1)
