-- The declarations of an actor, one around those behind it, and the same with a tuple of all their names at the end, as they are in Core (Motoko language
-- manual, sections "Actors" and "Declarations").
use Rattle.std.specs.Prelude.{◌≡◌, ℕ, zero, suc, ◌+◌, ◌≤◌, Bool, List, [], ◌∷◌, ◌++◌, length, replicate, Option, Some, None}
use Rattle.std.specs.List.{AllByRecursion}
use Rattle.mo_types.specs.declared.datum.Datum.TheVariants as part
use Rattle.mo_values.specs.declared.operation.Operation.{Operation}
use Rattle.mo_values.specs.declared.operation.Operation.TheVariants as op
use Rattle.mo_values.specs.Shapes.{Bytes}
use Rattle.typed_tree.specs.declared.action.Action.TheVariants as action
use Rattle.typed_tree.specs.Patterns.{Pat, Pats, Wildcard, Bind, Constant, Present?, Tagged, Parts, Fields, Either, NoPat, APat}
use Rattle.typed_tree.specs.Language.{Exp, Exps, Functions, NoFunction, Val, Name, Do, If, Group, NoExp, AnExp, leaf, null, unit, let_in, then}
use Rattle.typed_tree.specs.Substitution.{count, group_nodes}
use Rattle.elaboration.specs.Scopes.{Place, Nowhere}
use Rattle.elaboration.specs.Programs.{own_from}

-- ---- names

-- so many names a pattern has in Core
abbrev mutual
  pub bound_in : Pat → ℕ
  bound_in Wildcard = 0
  bound_in Bind = 1
  bound_in (Constant c) = 0
  bound_in (Present? p) = bound_in p
  bound_in (Tagged l p) = bound_in p
  bound_in (Parts ps) = bound_in_all ps
  bound_in (Fields ls ps) = bound_in_fields ls ps
  bound_in (Either p q) = 0

  pub bound_in_all : Pats → ℕ
  bound_in_all NoPat = 0
  bound_in_all (APat p ps) = bound_in p + bound_in_all ps

  pub bound_in_fields : List Bytes → Pats → ℕ
  bound_in_fields ls NoPat = 0
  bound_in_fields [] (APat p ps) = 0
  bound_in_fields (l ∷ ls) (APat p ps) = bound_in p + bound_in_fields ls ps

abbrev pub names_from : ℕ → ℕ → Exps
names_from n zero = NoExp
names_from n (suc k) = AnExp (Name n) (names_from (suc n) k)

abbrev pub names_of : List ℕ → Exps
names_of [] = NoExp
names_of (x ∷ xs) = AnExp (Name x) (names_of xs)

-- ---- declarations

abbrev pub made : Operation → Exps → Exp
made o es = Do (action.Operate o) es

-- an option of the function of this place, or null
abbrev pub hook_name : Option ℕ → Exp
hook_name None = Val null
hook_name (Some h) = made op.MakeOption (AnExp (Name h) NoExp)

abbrev pub HookWithin : ℕ → Option ℕ → Type 0
HookWithin n None = Unit {0}
HookWithin n (Some h) = suc h ≤ n

-- Behind the declarations a tuple of all names; a hook behind an upgrade is called before, where this is one.
abbrev pub finish : Functions → (upgraded : Bool) → Option ℕ → ℕ → Exp
finish last upgraded None n = made op.MakeTuple (names_from 0 n)
finish last upgraded (Some h) n =
    Group last (then (If (Val (leaf (part.Flag upgraded))) (Do action.Call (AnExp (Name h) NoExp)) (Val unit)) (made op.MakeTuple (names_from (count last) n)))

-- Behind the declarations stand functions, and their value is made of these: so many methods, the hooks before and behind an upgrade, and the cells of the
-- stable variables under their labels.
module _ (methods : ℕ) (last : Functions) (before after : Option ℕ) (labels : List Bytes) (cells : List ℕ) where
  abbrev pub parts : Exp
  parts = made op.MakeTuple (AnExp (made op.MakeTuple (names_from 0 methods)) (AnExp (hook_name before) (AnExp (hook_name after) (AnExp (made (op.MakeObject labels) (names_of cells)) NoExp))))

  -- so many names in all
  module _ (total : ℕ) where
    -- declarations behind so many names, and the same with a tuple of all names
    pub data Declares (upgraded : Bool) : ℕ → Exp → Exp → Type 0 where
      Opens : (n : ℕ) (p : Pat) (e b c : Exp) → Declares upgraded (bound_in p + n) b c → Declares upgraded n (let_in p e b) (let_in p e c)
      Groups : (n : ℕ) (fns : Functions) (b c : Exp) → count fns ≤ 1 + group_nodes fns → Declares upgraded (count fns + n) b c → Declares upgraded n (Group fns b) (Group fns c)
      Ends : (n : ℕ) → n ≡ total → Declares upgraded n (Group last parts) (finish last upgraded after n)

    -- methods and hooks are among the functions, and each label has a cell among the names
    pub record PartsStand : Type 0 where
      pub enough : methods ≤ count last
      pub hook : HookWithin (count last) before
      pub upgraded : HookWithin (count last) after
      pub as_many : length cells ≡ length labels
      pub within : AllByRecursion (λ x. suc x ≤ count last + total) cells

-- groups without a function alone stand around the last one
abbrev pub DeclaresNothing : Exp → Type 0
DeclaresNothing (Group fns (Do a es)) = Unit {0}
DeclaresNothing (Group NoFunction b) = DeclaresNothing b
DeclaresNothing _ = ⊥

-- where a method finds the names around it: the functions have none, declarations, actor and methods are names of the actor
abbrev pub places_known : (methods kept total : ℕ) → Functions → List Place
places_known methods kept total last = replicate (count last) Nowhere ++ ((own_from (suc (suc methods)) total ++ own_from 0 (suc methods)) ++ replicate kept Nowhere)
