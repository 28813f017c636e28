-- Groups of functions that are made: the names of their functions, and what the world has of them.
use Rattle.std.specs.Prelude.{replicate}
use Rattle.std.proofs.Common.{◌≡◌, ◌⊎◌, inl, inr, ℕ, zero, suc, ◌+◌, ◌≤◌, List, [], ◌∷◌, ◌++◌, length, Option, Some, None, slice_get, refl, sym, ap, ◌∙◌, subst, arith}
use Rattle.mo_values.specs.Shapes.{Function}
use Rattle.core_ir.specs.Programs.{Group}
use Rattle.core_ir.specs.Values as core_value
use Rattle.core_ir.specs.Values.{members}
use Rattle.core_ir.specs.Worlds.{MadeGroup, World}
use Rattle.core_ir.specs.Worlds as worlds
use Rattle.core_ir.specs.Expressions.{Body, nodes_of}
use Rattle.typed_tree.specs.Language.{Functions, NoFunction, AFunction}
use Rattle.typed_tree.specs.Substitution.{count, group_nodes}
use Rattle.mo_machine.specs.Values.{Value, Closure, AValue}
use Rattle.mo_machine.specs.Environments.{Environment, closures}
use Rattle.mo_machine.specs.Acts.{Store}
use Rattle.elaboration.specs.Scopes.{Place, Local, Nowhere, Scope, places_from}
use Rattle.elaboration.specs.Meeting.{Reads}
use Rattle.elaboration.proofs.Coming.{reads_new, reads_more}
use Rattle.elaboration_forms.specs.Elaborates.{one_of, ElaboratesFunctions, ElaboratesOne}
use Rattle.elaboration_values.specs.Belonging.{Known, OfFunctions, OfOne, OfMember, code_in, Belongs, StandsAt, EnvironmentBelongs}
use Rattle.elaboration_steps.specs.Stacks.{GroupBelongs, GroupsBelong, WorldBelongs}
use Rattle.elaboration_steps.proofs.Growth.{each_stays, functions_stay, one_stays, member_stays}
use Rattle.elaboration_steps.proofs.Matching.{names_more}

-- ---- lists

pub last_stands : {A : Type 0} (xs : List A) (a : A) → slice_get (xs ++ a ∷ []) (length xs) ≡ Some a
last_stands [] a = refl
last_stands (x ∷ xs) a = last_stands xs a

pub get_longer : {A : Type 0} (xs : List A) (a : A) (i : ℕ) (x : A) → slice_get xs i ≡ Some x → slice_get (xs ++ a ∷ []) i ≡ Some x
get_longer [] a i x h = absurd (let z : None ≡ Some x = h in cc)
get_longer (y ∷ xs) a zero x h = h
get_longer (y ∷ xs) a (suc i) x h = get_longer xs a i x h

abbrev some_or : {A : Type 0} → A → Option A → A
some_or d None = d
some_or d (Some a) = a

before_or_last : {A : Type 0} (xs : List A) (a : A) (i : ℕ) (x : A) → slice_get (xs ++ a ∷ []) i ≡ Some x → (slice_get xs i ≡ Some x) ⊎ ((i ≡ length xs) × (a ≡ x))
before_or_last [] a zero x h = inr (refl, ap (some_or a) h)
before_or_last [] a (suc i) x h = absurd (let z : None ≡ Some x = h in cc)
before_or_last (y ∷ xs) a zero x h = inl h
before_or_last (y ∷ xs) a (suc i) x h = next (before_or_last xs a i x h)
  where
    next : (slice_get xs i ≡ Some x) ⊎ ((i ≡ length xs) × (a ≡ x)) → (slice_get (y ∷ xs) (suc i) ≡ Some x) ⊎ ((suc i ≡ length (y ∷ xs)) × (a ≡ x))
    next (inl r) = inl r
    next (inr r) = inr (ap (λ n. suc n) (r.0), r.1)

longer : {A : Type 0} (xs : List A) (a : A) → length (xs ++ a ∷ []) ≡ suc (length xs)
longer [] a = refl
longer (x ∷ xs) a = ap (λ n. suc n) (longer xs a)

pub with_members : (g i n : ℕ) (vals : List core_value.Value) → length (members g i n ++ vals) ≡ n + length vals
with_members g i zero vals = omega arith
with_members g i (suc n) vals = let z : length (members g (suc i) n ++ vals) ≡ n + length vals = with_members g (suc i) n vals in omega (arith, z)

-- ---- what is made of the functions

pub as_many_bodies : (table : List (Group Body)) (s : Scope) (fns : Functions) (bodies : List Body) → ElaboratesFunctions table s fns bodies → length bodies ≡ count fns
as_many_bodies table s NoFunction bodies r = ap length r
as_many_bodies table s (AFunction how nodes ps body fns) bodies r = ap length (r.4) ∙ ap (λ n. suc n) (as_many_bodies table s fns (r.1) (r.3))

pub same_nodes : (table : List (Group Body)) (s : Scope) (fns : Functions) (bodies : List Body) → ElaboratesFunctions table s fns bodies → nodes_of bodies ≡ group_nodes fns
same_nodes table s NoFunction bodies r = ap nodes_of r
same_nodes table s (AFunction how nodes ps body fns) bodies r = ap nodes_of (r.4) ∙ ap (λ n. nodes + n) (same_nodes table s fns (r.1) (r.3))

-- ---- names

value_of_some : (d u : Value) → Some d ≡ Some u → d ≡ u
value_of_some d u e = ap (some_or d) e

module _ (known : List Known) (globals : List core_value.Value) (group : Functions) (env0 : Environment) (g : ℕ) (here : slice_get known g ≡ Some (OfFunctions group env0)) where
  closure_belongs : (i : ℕ) → Belongs known (Closure group i env0) (Function (record { group = g; member = i }))
  closure_belongs i = ap (λ o. code_in o i) here

  pub group_names : (fns : Functions) (i : ℕ) (env : Environment) (places : List Place) (vals : List core_value.Value) → EnvironmentBelongs known globals places env vals
      → EnvironmentBelongs known globals (places_from (length vals) (count fns) ++ places) (closures env0 group fns i env) (members g i (count fns) ++ vals)
  group_names NoFunction i env places vals h = h
  group_names (AFunction how nodes ps body fns) i env places vals h = each (group_names fns (suc i) env places vals h)
    where
      inner : List core_value.Value
      inner = members g (suc i) (count fns) ++ vals

      w : core_value.Value
      w = Function (record { group = g; member = i })

      each : EnvironmentBelongs known globals (places_from (length vals) (count fns) ++ places) (closures env0 group fns (suc i) env) inner
          → EnvironmentBelongs known globals (Local (count fns + length vals) ∷ (places_from (length vals) (count fns) ++ places)) (AValue (Closure group i env0) (closures env0 group fns (suc i) env)) (w ∷ inner)
      each others zero u e =
          subst (λ u. StandsAt known globals (w ∷ inner) (Local (count fns + length vals)) u) (value_of_some (Closure group i env0) u e)
          (w, subst (λ n. Reads (w ∷ inner) n w) (with_members g (suc i) (count fns) vals) (reads_new inner w), closure_belongs i)
      each others (suc x) u e = names_more known globals _ _ inner (w ∷ inner) others (reads_more inner w) x u e

-- behind a group that has no names
module _ (known : List Known) (globals vals : List core_value.Value) where
  pub behind_group : (env0 : Environment) (group fns : Functions) (n : ℕ) (env : Environment) (places : List Place) → EnvironmentBelongs known globals places env vals → EnvironmentBelongs known globals (replicate (count fns) Nowhere ++ places) (closures env0 group fns n env) vals
  behind_group env0 group NoFunction n env places h x v e = h x v e
  behind_group env0 group (AFunction how nodes ps body fns) n env places h zero v e = tt
  behind_group env0 group (AFunction how nodes ps body fns) n env places h (suc x) v e = behind_group env0 group fns (suc n) env places h x v e

-- of a group one function is made alone: its name is the only one that the group has
module _ (known : List Known) (globals : List core_value.Value) (group : Functions) (which : ℕ) (env0 : Environment) (g : ℕ) (here : slice_get known g ≡ Some (OfOne group which env0)) where
  abbrev alone : core_value.Value
  alone = Function (record { group = g; member = 0 })

  pub one_name : (fns : Functions) (i j : ℕ) → j + i ≡ which → (env : Environment) (places : List Place) (vals : List core_value.Value) → EnvironmentBelongs known globals places env vals
      → EnvironmentBelongs known globals (one_of (length vals) i (count fns) ++ places) (closures env0 group fns j env) (alone ∷ vals)
  one_name NoFunction i j is env places vals h = names_more known globals places env vals (alone ∷ vals) h (reads_more vals alone)
  one_name (AFunction how nodes ps body fns) zero j is env places vals h = each (behind_group known globals (alone ∷ vals) env0 group fns (suc j) env places (names_more known globals places env vals (alone ∷ vals) h (reads_more vals alone)))
    where
      it : j ≡ which
      it = let z : j + 0 ≡ j = omega arith in sym z ∙ is

      each : EnvironmentBelongs known globals (replicate (count fns) Nowhere ++ places) (closures env0 group fns (suc j) env) (alone ∷ vals)
          → EnvironmentBelongs known globals (Local (length vals) ∷ (replicate (count fns) Nowhere ++ places)) (AValue (Closure group j env0) (closures env0 group fns (suc j) env)) (alone ∷ vals)
      each others zero u e =
          subst (λ u. StandsAt known globals (alone ∷ vals) (Local (length vals)) u) (value_of_some (Closure group j env0) u e)
          (alone, reads_new vals alone, subst (λ j. Belongs known (Closure group j env0) alone) (sym it) (ap (λ o. code_in o 0) here))
      each others (suc x) u e = others x u e
  one_name (AFunction how nodes ps body fns) (suc i) j is env places vals h = each (one_name fns i (suc j) (let z : j + suc i ≡ suc j + i = omega arith in sym z ∙ is) env places vals h)
    where
      each : EnvironmentBelongs known globals (one_of (length vals) i (count fns) ++ places) (closures env0 group fns (suc j) env) (alone ∷ vals)
          → EnvironmentBelongs known globals (Nowhere ∷ (one_of (length vals) i (count fns) ++ places)) (AValue (Closure group j env0) (closures env0 group fns (suc j) env)) (alone ∷ vals)
      each others zero u e = tt
      each others (suc x) u e = others x u e

-- its nodes are some of those of the group
pub one_lighter : (table : List (Group Body)) (s : Scope) (fns : Functions) (i : ℕ) (b : Body) → ElaboratesOne table s fns i b → b.nodes ≤ group_nodes fns
one_lighter table s NoFunction i b r = absurd r
one_lighter table s (AFunction how nodes ps body fns) zero b r = let z : b.nodes ≡ nodes = ap (λ (b : Body). b.nodes) (r.2) in omega (arith, z)
one_lighter table s (AFunction how nodes ps body fns) (suc i) b r = let z : b.nodes ≤ group_nodes fns = one_lighter table s fns i b r in omega (arith, z)

-- ---- the world

module _ (table : List (Group Body)) (known : List Known) (globals : List core_value.Value) (k : Known) where
  abbrev grown : List Known
  grown = known ++ k ∷ []

  belongs_still : (other : Known) (made : MadeGroup) → GroupBelongs table known globals other made → GroupBelongs table grown globals other made
  belongs_still (OfFunctions fns env) made r = functions_stay table known (k ∷ []) globals fns env made r
  belongs_still (OfOne fns i env) made r = one_stays table known (k ∷ []) globals fns i env made r
  belongs_still (OfMember m holds) made r = member_stays table known (k ∷ []) globals m holds made r

  groups_grow : (made : List MadeGroup) (m : MadeGroup) → GroupsBelong table known globals made → GroupBelongs table grown globals k m → GroupsBelong table grown globals (made ++ m ∷ [])
  groups_grow made m r new = record {
    as_many = longer made m ∙ (ap (λ n. suc n) r.as_many ∙ sym (longer known k));
    each = λ i other e. find i other (before_or_last known k i other e);
  }
    where
      find : (i : ℕ) (other : Known) → (slice_get known i ≡ Some other) ⊎ ((i ≡ length known) × (k ≡ other)) → (m' : MadeGroup) × (slice_get (made ++ m ∷ []) i ≡ Some m') × GroupBelongs table grown globals other m'
      find i other (inl h) =
          let f : (m' : MadeGroup) × (slice_get made i ≡ Some m') × GroupBelongs table known globals other m' = r.each i other h in
          (f.0, get_longer made m i (f.0) (f.1), belongs_still other (f.0) (f.2))
      find i other (inr h) =
          (m, subst (λ n. slice_get (made ++ m ∷ []) n ≡ Some m) (r.as_many ∙ sym (h.0)) (last_stands made m), subst (λ o. GroupBelongs table grown globals o m) (h.1) new)

  pub world_grows : (store : Store) (world : World) (code : ℕ) (vals : List core_value.Value) → WorldBelongs table known globals store world → GroupBelongs table grown globals k (record { code = code; seen = vals })
      → WorldBelongs table grown globals store (worlds.with_group world code vals)
  world_grows store world code vals r new =
      record { cells = each_stays table known (k ∷ []) globals store world.store r.cells; groups = groups_grow world.groups (record { code = code; seen = vals }) r.groups new }
