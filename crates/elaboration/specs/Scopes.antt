-- Where names and labels of the source are in Core. A value keeps its place where further names stand before it, so places are counted
-- from the outermost name on, and labels likewise.
use Rattle.std.specs.Prelude.{ℕ, zero, suc, ◌+◌, ◌-◌, List, [], ◌∷◌, ◌++◌, Option, Some, None, slice_get}
use Rattle.core_ir.specs.declared.constant.Constant.TheVariants as constant
use Rattle.core_ir.specs.Expressions.{Exp, Constant?, Name, Global, Exps, NoExp, AnExp, Goal, Break, Return}

pub data Place : Type 0 where
  -- the name before which so many others stand
  Local : (level : ℕ) → Place
  -- a name of the actor
  Own : (i : ℕ) → Place
  -- of a name that nothing uses
  Nowhere : Place

pub record Scope : Type 0 where
  -- of the names of the source, the nearest first
  pub places : List Place
  -- so many names there are in Core
  pub names : ℕ
  -- of the labels of the source, the nearest first, each by how many labels of Core stand around it
  pub exits : List ℕ
  -- so many labels there are in Core
  pub labels : ℕ

-- ---- expressions of one value

abbrev pub one : Exp → Exps
one e = AnExp e NoExp

abbrev pub two : Exp → Exp → Exps
two a b = AnExp a (one b)

abbrev pub append : Exps → Exps → Exps
append NoExp fs = fs
append (AnExp e es) fs = AnExp e (append es fs)

abbrev pub nothing : Exp
nothing = Constant? constant.Unit

-- the name before which `level` others stand, where there are so many names
abbrev pub name : ℕ → ℕ → Exp
name names level = Name (names - suc level)

abbrev pub at_place : ℕ → Place → Exp
at_place names (Local level) = name names level
at_place names (Own i) = Global i
at_place names Nowhere = nothing

abbrev pub place_or_nowhere : Option Place → Place
place_or_nowhere None = Nowhere
place_or_nowhere (Some p) = p

-- the value of a name of the source
abbrev pub read_name : Scope → ℕ → Exp
read_name s x = at_place s.names (place_or_nowhere (slice_get s.places x))

abbrev pub leave : ℕ → Option ℕ → Goal
leave labels None = Return
leave labels (Some around) = Break (labels - suc around)

-- out of the label of the source behind so many others, or out of the function
abbrev pub leaving : Scope → ℕ → Goal
leaving s l = leave s.labels (slice_get s.exits l)

-- ---- further names and labels

-- under so many names of Core alone
abbrev pub beside : ℕ → Scope → Scope
beside n s = record s { names = n + s.names }

-- under a label of Core alone
abbrev pub inside : Scope → Scope
inside s = record s { labels = suc s.labels }

-- under a label of both
abbrev pub labelled : Scope → Scope
labelled s = record s { exits = s.labels ∷ s.exits; labels = suc s.labels }

-- so many places, the nearest first, which begin behind so many names
abbrev pub places_from : ℕ → ℕ → List Place
places_from n zero = []
places_from n (suc count) = Local (count + n) ∷ places_from n count

-- under so many names of both
abbrev pub under : ℕ → Scope → Scope
under n s = record s { places = places_from s.names n ++ s.places; names = n + s.names }

-- in the body of a function with so many parameters, where its group is in scope
abbrev pub in_body : ℕ → Scope → Scope
in_body parameters s = record { places = s.places; names = parameters + s.names; exits = []; labels = 0 }
