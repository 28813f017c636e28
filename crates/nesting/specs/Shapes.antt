-- How deep choices, labels and handlers stand in one another where an expression is evaluated (Motoko language manual, sections "Switch", "Label" and
-- "Try"), and what is asked of the functions in it: that each body nests less than it has nodes.
use Rattle.std.specs.Prelude.{ℕ, suc, ◌+◌, ◌<◌, max, Bool, true, false, cond}
use Rattle.mo_types.specs.declared.datum.Datum.TheVariants as part
use Rattle.mo_values.specs.Shapes.{Leaf}
use Rattle.typed_tree.specs.declared.action.Action.{Action}
use Rattle.typed_tree.specs.declared.action.Action.TheVariants as action
use Rattle.typed_tree.specs.declared.action.Member.TheVariants as member
use Rattle.typed_tree.specs.Language.{Value, Values, Exp, Exps, Cases, Functions, Made, Function, BuiltIn, NoValue, AValue, Val, Name, Do, If, Switch, Group, Frame, Label, While, Repeat, For, Try, Update, NoExp, AnExp, NoCase, ACase, NoFunction, AFunction}
use Rattle.typed_tree.specs.Patterns.{Pat, Pats, Wildcard, Bind, Constant, Present?, Tagged, Parts, Fields, Either, NoPat, APat}

-- what follows a pattern stands within each of its tests
abbrev mutual
  pub tests : Pat → ℕ
  tests Wildcard = 0
  tests Bind = 0
  tests (Constant c) = 1
  tests (Present? p) = suc (tests p)
  tests (Tagged l p) = suc (tests p)
  tests (Parts ps) = tests_all ps
  tests (Fields ls ps) = tests_all ps
  tests (Either p q) = suc (tests p + tests q)

  pub tests_all : Pats → ℕ
  tests_all NoPat = 0
  tests_all (APat p ps) = tests p + tests_all ps

-- an `await` and an `!` are one deep themselves
abbrev pub least : Action → ℕ
least action.Await = 1
least (action.Unwrap l) = 1
least a = 0

abbrev pub is_true : Exp → Bool
is_true (Val (Made (Leaf (part.Flag true)) NoValue)) = true
is_true e = false

abbrev pub is_one : Cases → Bool
is_one (ACase p e NoCase) = true
is_one cases = false

abbrev mutual
  pub nest : Exp → ℕ
  nest (Val v) = 0
  nest (Name x) = 0
  nest (Do a es) = max (least a) (nest_all es)
  nest (If c a b) = max (nest c) (suc (max (nest a) (nest b)))
  -- several cases stand under a label
  nest (Switch e cases) = max (nest e) (cond (is_one cases) (nest_cases cases) (suc (nest_cases cases)))
  nest (Group fns b) = nest b
  nest (Frame n e) = nest e
  nest (Label e) = suc (nest e)
  -- a loop that has an end stands in a label, and a choice for its end beside its body
  nest (While c b) = cond (is_true c) (nest b) (suc (max 1 (max (nest c) (nest b))))
  nest (Repeat b c) = suc (max 1 (max (nest b) (nest c)))
  nest (For p e b) = max (nest e) (suc (max 1 (tests p + nest b)))
  nest (Try e p b) = max (nest e) (suc (tests p + nest b))
  nest (Update o e f) = max (nest e) (nest f)

  pub nest_all : Exps → ℕ
  nest_all NoExp = 0
  nest_all (AnExp e es) = max (nest e) (nest_all es)

  pub nest_cases : Cases → ℕ
  nest_cases NoCase = 0
  nest_cases (ACase p e cases) = max (tests p + nest e) (nest_cases cases)

-- ---- what stands open at once where an expression is evaluated: so much for the end of a branch or a case, and so much for a label or a handler

module _ (ending opening : ℕ) where
  abbrev mutual
    pub pile : Exp → ℕ
    pile (Val v) = 0
    pile (Name x) = 0
    pile (Do a es) = pile_all es
    pile (If c a b) = max (pile c) (ending + max (pile a) (pile b))
    pile (Switch e cases) = max (pile e) (ending + pile_cases cases)
    pile (Group fns b) = pile b
    pile (Frame n e) = pile e
    pile (Label e) = opening + pile e
    pile (While c b) = max (pile c) (pile b)
    pile (Repeat b c) = max (pile b) (pile c)
    -- behind its body a turn has one more case
    pile (For p e b) = max (pile e) (ending + max ending (pile b))
    pile (Try e p b) = max (opening + pile e) (ending + pile b)
    pile (Update o e f) = max (pile e) (pile f)

    pub pile_all : Exps → ℕ
    pile_all NoExp = 0
    pile_all (AnExp e es) = max (pile e) (pile_all es)

    pub pile_cases : Cases → ℕ
    pile_cases NoCase = 0
    pile_cases (ACase p e cases) = max (pile e) (pile_cases cases)

-- ---- what is asked

-- `next` of an iterator is made by built-in functions alone
abbrev pub IsWritten : Action → Type 0
IsWritten (action.BuiltIn member.NextVal) = ⊥
IsWritten (action.BuiltIn member.NextKey) = ⊥
IsWritten (action.BuiltIn member.NextChar) = ⊥
IsWritten a = Unit {0}

-- a value without functions
abbrev mutual
  pub IsPlain : Value → Type 0
  IsPlain (Made head inside) = ArePlain inside
  IsPlain (Function group which) = ⊥
  IsPlain (BuiltIn member holds) = ⊥

  pub ArePlain : Values → Type 0
  ArePlain NoValue = Unit {0}
  ArePlain (AValue v vs) = IsPlain v × ArePlain vs

abbrev mutual
  pub Shaped : Exp → Type 0
  -- no function stands in code as a value, whose body could nest as it likes
  Shaped (Val v) = IsPlain v
  Shaped (Name x) = Unit {0}
  Shaped (Do a es) = IsWritten a × ShapedAll es
  Shaped (If c a b) = Shaped c × Shaped a × Shaped b
  Shaped (Switch e cases) = Shaped e × ShapedCases cases
  Shaped (Group fns b) = ShapedFunctions fns × Shaped b
  -- no body stands written in code
  Shaped (Frame n e) = ⊥
  Shaped (Label e) = Shaped e
  Shaped (While c b) = Shaped c × Shaped b
  Shaped (Repeat b c) = Shaped b × Shaped c
  Shaped (For p e b) = Shaped e × Shaped b
  Shaped (Try e p b) = Shaped e × Shaped b
  Shaped (Update o e f) = Shaped e × Shaped f

  pub ShapedAll : Exps → Type 0
  ShapedAll NoExp = Unit {0}
  ShapedAll (AnExp e es) = Shaped e × ShapedAll es

  pub ShapedCases : Cases → Type 0
  ShapedCases NoCase = Unit {0}
  ShapedCases (ACase p e cases) = Shaped e × ShapedCases cases

  pub ShapedFunctions : Functions → Type 0
  ShapedFunctions NoFunction = Unit {0}
  ShapedFunctions (AFunction how nodes ps body fns) = (tests_all ps + nest body < nodes) × (pile 1 1 body < nodes) × Shaped body × ShapedFunctions fns

-- an expression that nests less than this, and where less stands open at once
pub record Fine (k : ℕ) (e : Exp) : Type 0 where
  pub few : nest e < k
  pub light : pile 1 1 e < k
  pub shaped : Shaped e
