-- Which of the values that a group sees its functions name.
use Rattle.std.specs.Prelude.{ℕ, zero, suc, ◌+◌, Bool, true, false, cond, nat_eq, List, [], ◌∷◌, ◌++◌, length}
use Rattle.core_ir.specs.Choices.{nth}
use Rattle.core_ir.specs.Programs.{Group}
use Rattle.core_ir.specs.Expressions.{Exp, Name, Do, Functions, Loop, Label, Try, Exps, NoExp, AnExp, Goal, Choose, Match, Bind, Body}

-- the place of a name beyond the nearest ones, so many of them
abbrev pub beyond : ℕ → ℕ → List ℕ
beyond zero x = x ∷ []
beyond (suc n) zero = []
beyond (suc n) (suc x) = beyond n x

abbrev pub all_beyond : ℕ → List ℕ → List ℕ
all_beyond n [] = []
all_beyond n (x ∷ xs) = beyond n x ++ all_beyond n xs

abbrev pub holds : ℕ → List ℕ → Bool
holds n [] = false
holds n (x ∷ xs) = cond (nat_eq x n) true (holds n xs)

-- each place once
abbrev pub distinct : List ℕ → List ℕ
distinct [] = []
distinct (x ∷ xs) = cond (holds x xs) (distinct xs) (x ∷ distinct xs)

-- sizes tells how many functions a group has, and needs which of the values that it sees are named there
module _ (sizes : ℕ → ℕ) (needs : List (List ℕ)) where
  abbrev mutual
    -- the places of names beyond the nearest ones, once for each time that they are named
    pub outward : ℕ → Exp → List ℕ
    outward n (Name x) = beyond n x
    outward n (Do goal es) = outward_goal n goal ++ outward_all n es
    outward n (Functions k b) = all_beyond n (nth [] needs k) ++ outward (sizes k + n) b
    outward n (Loop b) = outward n b
    outward n (Label b) = outward n b
    outward n (Try a b) = outward n a ++ outward (suc n) b
    outward n e = []

    pub outward_all : ℕ → Exps → List ℕ
    outward_all n NoExp = []
    outward_all n (AnExp e es) = outward n e ++ outward_all n es

    pub outward_goal : ℕ → Goal → List ℕ
    outward_goal n (Choose p a b) = outward n a ++ outward n b
    outward_goal n (Match k a b) = outward (suc n) a ++ outward n b
    outward_goal n (Bind b) = outward (suc n) b
    outward_goal n g = []

  -- in a group of so many functions
  abbrev pub outward_bodies : ℕ → List Body → List ℕ
  outward_bodies size [] = []
  outward_bodies size (b ∷ bs) = outward (b.parameters + size) b.expression ++ outward_bodies size bs

-- of each group, those of earlier groups first
abbrev pub outward_of : (ℕ → ℕ) → List (List ℕ) → List (Group Body) → List (List ℕ)
outward_of sizes needs [] = needs
outward_of sizes needs (g ∷ gs) = outward_of sizes (needs ++ outward_bodies sizes needs (length g.bodies) g.bodies ∷ []) gs
