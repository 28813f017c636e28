-- What an elaborated program names is there.
use Rattle.std.proofs.Common.{◌≡◌, ℕ, suc, ◌+◌, Bool, false, List, [], ◌∷◌, ◌++◌, length, Some, slice_get, refl, sym, ap, subst, arith}
use Rattle.core_ir.specs.Programs.{Group}
use Rattle.core_ir.specs.Expressions as core
use Rattle.core_ir.specs.Expressions.{Body, Core}
use Rattle.core_ir.specs.Formed.{global_count, size_at, sees_at}
use Rattle.core_ir.specs.FormedExpressions.{count, FormedGoal}
use Rattle.typed_tree.specs.Programs.{Program, Method}
use Rattle.elaboration.specs.Programs.{Actor, start_scope, firsts, outside, elaborate_actor, methods_of, elaborated}
use Rattle.elaboration_forms.specs.Elaborates.{HasGroups}
use Rattle.elaboration_formed.specs.Arities.{Shaped, ShapedFunctions}
use Rattle.elaboration_formed.specs.Formed.{Fits, Formed}
use Rattle.elaboration_formed.proofs.Forming.{there, formed}
use Rattle.elaboration_formed.proofs.Groups.{start_fits}
use Rattle.elaboration_order.proofs.Ordered.{ordered}
use Rattle.elaboration_starts.specs.Declarations.{places_known}
use Rattle.elaboration_starts.specs.Starts.{ActorStands}
use Rattle.elaboration_starts.proofs.DeclaredCode.{is_code, IsCode, EndStands}
use Rattle.elaboration_starts.proofs.SavedCode.{owned}
use Rattle.elaboration_starts.proofs.Told.{Like, LikeGoal, Same, Told, Bare, First, Grouped, SameGoal, InBind, InMatch, InChoose}
use Rattle.elaboration_names.specs.Names.{NamedCore, ProgramsAreNamed}
use Rattle.elaboration_names.proofs.Earlier.{groups_named}
use Rattle.elaboration_names.proofs.Ends.{firsts_shaped, known_fit, methods_formed, all_methods_formed, save_formed}
use Rattle.elaboration_names.proofs.Spine.{named_shaped, last_shaped, spine}

-- the groups of a table stand in it
all_there : (front gs : List (Group Body)) → HasGroups (front ++ gs) (length front) gs
all_there front [] = tt
all_there front (g ∷ gs) = (at front, subst (λ t. HasGroups t (suc (length front)) gs) (assoc front g gs) (subst (λ n. HasGroups ((front ++ g ∷ []) ++ gs) n gs) (longer front) (all_there (front ++ g ∷ []) gs)))
  where
    at : (front : List (Group Body)) → slice_get (front ++ g ∷ gs) (length front) ≡ Some g
    at [] = refl
    at (x ∷ front) = at front

    longer : (front : List (Group Body)) → length (front ++ g ∷ []) ≡ suc (length front)
    longer [] = refl
    longer (x ∷ front) = ap (λ n. suc n) (longer front)

    assoc : (xs : List (Group Body)) (y : Group Body) (zs : List (Group Body)) → (xs ++ y ∷ []) ++ zs ≡ xs ++ y ∷ zs
    assoc [] y zs = refl
    assoc (x ∷ xs) y zs = ap (λ r. x ∷ r) (assoc xs y zs)

-- `__resume` is one method more
methods_many : (ms : List Method) (bodies : List Body) → length (methods_of ms bodies) ≡ suc (length ms)
methods_many [] bodies = refl
methods_many (m ∷ ms) [] = ap (λ n. suc n) (methods_many ms [])
methods_many (m ∷ ms) (b ∷ bodies) = ap (λ n. suc n) (methods_many ms bodies)

-- what reads a name is formed where it is told is
module _ (globals : ℕ) (table : List (Group Body)) (t : Bool) where
  abbrev F : ℕ → core.Exp → Type 0
  F n c = Formed globals table false n 0 c

  abbrev FG : ℕ → core.Goal → ℕ → Type 0
  FG n g k = FormedGoal (size_at table) (sees_at table) globals (length table) false n 0 g k

  mutual
    like_formed : (n : ℕ) (c d : core.Exp) → Like table t n c d → F n d → F n c
    like_formed n c d (Same m e) h = h
    like_formed n c d (Told m) h = omega arith
    like_formed n c d (Bare m g k i) h = (goal_like n g k 0 i (h.0), tt)
    like_formed n c d (First m g k e f es i j) h = (goal_like n g k (suc (count es)) i (h.0), (like_formed n e f j (h.1.0), h.1.1))
    like_formed n c d (Grouped m code group b e at i) h =
        (h.0, h.1, subst (λ k. F (k + n) b) (sym ((there table code group at).2)) (like_formed (length group.bodies + n) b e i (subst (λ k. F (k + n) e) ((there table code group at).2) (h.2))))

    goal_like : (n : ℕ) (g k : core.Goal) (m : ℕ) → LikeGoal table t n g k → FG n k m → FG n g m
    goal_like n g k m (SameGoal i x) h = h
    goal_like n g k m (InBind i b c l) h = (h.0, like_formed (suc n) b c l (h.1))
    goal_like n g k m (InMatch i x a b c d l r) h = (h.0, like_formed (suc n) a c l (h.1), like_formed n b d r (h.2))
    goal_like n g k m (InChoose i x a b c d l r) h = (h.0, h.1, like_formed n a c l (h.2), like_formed n b d r (h.3))

module _ (p : Program) (a : ActorStands p) (shaped : Shaped p.body) where
  abbrev code : Core
  code = elaborated p

  abbrev methods : ℕ
  methods = length p.methods

  abbrev kept : ℕ
  kept = length p.stable

  abbrev the_actor : Actor
  the_actor = elaborate_actor methods kept (start_scope methods kept) 0 p.body

  abbrev G : ℕ
  G = global_count code a.total

  globals_many : G ≡ suc (suc methods) + a.total
  globals_many = let z : length code.methods ≡ suc methods = methods_many p.methods the_actor.methods in omega (arith, z)

  ends : EndStands code.groups methods kept a.last a.before a.after a.labels a.cells a.total false
  ends = record { methods_stand = a.methods; hook_stands = a.hook; called = a.upgraded; cells_owned = owned methods kept a.total a.last a.cells a.parts.within a.declared }

  is : IsCode code.groups methods kept a.last a.before a.after a.labels a.cells a.total false (start_scope methods kept) (a.named false) the_actor
  is = is_code code.groups methods kept a.last a.before a.after a.labels a.cells a.total false a.parts.upgraded 0 p.body (a.named false) (a.declares false) (start_scope methods kept) [] refl refl a.stand ends 0 (all_there [] code.groups)

  fit : Fits G (outside (places_known methods kept a.total a.last))
  fit = known_fit G methods kept a.total a.last (let z : G ≡ suc (suc methods) + a.total = globals_many in omega (arith, z))

  start : Fits G (start_scope methods kept)
  start = start_fits G methods kept (let z : G ≡ suc (suc methods) + a.total = globals_many in omega (arith, z))

  functions_shaped : ShapedFunctions a.last
  functions_shaped = last_shaped G code.groups methods kept a.last a.before a.after a.labels a.cells a.total false fit ends a.parts.upgraded 0 p.body (a.named false) (a.declares false) shaped

  named : NamedCore a.total code
  named = record {
    groups = groups_named a.total code 0 code.groups (spine G code.groups methods kept a.last a.before a.after a.labels a.cells a.total false fit ends a.parts.upgraded 0 p.body (a.named false) (a.declares false) (start_scope methods kept) [] refl refl a.stand start shaped 0 (all_there [] code.groups)) (ordered p);
    methods = all_methods_formed G code.groups (places_known methods kept a.total a.last) fit p.methods the_actor.methods
        (methods_formed G code.groups (places_known methods kept a.total a.last) fit (firsts methods a.last) the_actor.methods is.ends.bodies (firsts_shaped methods a.last functions_shaped));
    save = save_formed G code.groups (places_known methods kept a.total a.last) fit a.cells kept a.last a.before code.save is.ends.save functions_shaped;
    start = subst (λ n. Formed G code.groups false n 0 the_actor.start) (let z : suc kept ≡ suc kept + (0 + 0) = omega arith in z)
        (like_formed G code.groups false (suc kept) the_actor.start is.told is.like (formed G code.groups false (start_scope methods kept) (a.named false) is.told is.start start (named_shaped G code.groups methods kept a.last a.before a.after a.labels a.cells a.total false fit ends a.parts.upgraded 0 p.body (a.named false) (a.declares false) shaped)));
  }

pub programs_are_named : ProgramsAreNamed
programs_are_named p a shaped = named p a shaped
