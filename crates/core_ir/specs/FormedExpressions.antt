-- Expressions whose names, labels and groups are there, within bodies that pay for what they take.
use Rattle.std.specs.Prelude.{◌≡◌, ℕ, suc, ◌+◌, ◌*◌, ◌||◌, ◌<◌, ◌≤◌, max, Bool, true, cond, length}
use Rattle.core_ir.specs.Arities.{arity, Takes, is_silent}
use Rattle.core_ir.specs.Awaits.{awaits}
use Rattle.core_ir.specs.Expressions.{Exp, Constant?, Name, Global, Do, Functions, Loop, Label, Try, Exps, NoExp, AnExp, Goal, Operate, Choose, Match, Bind, Call, Tabulate, Send, Throw, Await, Break, Return, Body}

abbrev pub count : Exps → ℕ
count NoExp = 0
count (AnExp e es) = suc (count es)

-- ---- how deep choices, labels and handlers stand in one another, an await counting 1

abbrev mutual
  pub nest : Exp → ℕ
  nest (Do goal es) = max (nest_goal goal) (nest_all es)
  nest (Functions k b) = nest b
  nest (Loop b) = nest b
  nest (Label b) = suc (nest b)
  nest (Try a b) = max (nest a) (suc (nest b))
  nest e = 0

  pub nest_all : Exps → ℕ
  nest_all NoExp = 0
  nest_all (AnExp e es) = max (nest e) (nest_all es)

  pub nest_goal : Goal → ℕ
  nest_goal (Choose p a b) = suc (max (nest a) (nest b))
  nest_goal (Match k a b) = suc (max (nest a) (nest b))
  nest_goal (Bind b) = nest b
  nest_goal Await = 1
  nest_goal g = 0

-- ---- how many values stand ready at once: those of arguments before the one that is evaluated, and those that have names

module _ (sizes : ℕ → ℕ) where
  abbrev mutual
    pub width : Exp → ℕ
    width (Do goal es) = max (width_all es) (count es + width_goal goal)
    width (Functions k b) = sizes k + width b
    width (Loop b) = width b
    width (Label b) = width b
    width (Try a b) = suc (max (width a) (width b))
    width e = 0

    pub width_all : Exps → ℕ
    width_all NoExp = 0
    width_all (AnExp e es) = suc (max (width e) (width_all es))

    pub width_goal : Goal → ℕ
    width_goal (Choose p a b) = max (width a) (width b)
    width_goal (Match k a b) = suc (max (width a) (width b))
    width_goal (Bind b) = width b
    width_goal g = 1

-- ---- what the code of an expression takes besides

-- the most arguments of one action
abbrev mutual
  pub arguments : Exp → ℕ
  arguments (Do goal es) = max (count es) (max (arguments_goal goal) (arguments_all es))
  arguments (Functions k b) = arguments b
  arguments (Loop b) = arguments b
  arguments (Label b) = arguments b
  arguments (Try a b) = max (arguments a) (arguments b)
  arguments e = 0

  pub arguments_all : Exps → ℕ
  arguments_all NoExp = 0
  arguments_all (AnExp e es) = max (arguments e) (arguments_all es)

  pub arguments_goal : Goal → ℕ
  arguments_goal (Choose p a b) = max (arguments a) (arguments b)
  arguments_goal (Match k a b) = max (arguments a) (arguments b)
  arguments_goal (Bind b) = arguments b
  arguments_goal g = 0

-- how deep choices, loops, labels and handlers stand in one another; an expression with a handler stands two deep
abbrev mutual
  pub depth : Exp → ℕ
  depth (Do goal es) = max (depth_goal goal) (depth_all es)
  depth (Functions k b) = depth b
  depth (Loop b) = suc (depth b)
  depth (Label b) = suc (depth b)
  depth (Try a b) = suc (max (suc (depth a)) (depth b))
  depth e = 0

  pub depth_all : Exps → ℕ
  depth_all NoExp = 0
  depth_all (AnExp e es) = max (depth e) (depth_all es)

  pub depth_goal : Goal → ℕ
  depth_goal (Choose p a b) = suc (max (depth a) (depth b))
  depth_goal (Match k a b) = suc (max (depth a) (depth b))
  depth_goal (Bind b) = depth b
  depth_goal g = 0

-- at how many places an execution of it may go on behind an `await`
abbrev mutual
  pub points : Exp → ℕ
  points (Do goal es) = points_goal goal + points_all es
  points (Functions k b) = points b
  points (Loop b) = cond (awaits b) 1 0 + points b
  points (Label b) = cond (awaits b) 1 0 + points b
  points (Try a b) = cond (awaits a || awaits b) 2 0 + (points a + points b)
  points e = 0

  pub points_all : Exps → ℕ
  points_all NoExp = 0
  points_all (AnExp e es) = points e + points_all es

  pub points_goal : Goal → ℕ
  points_goal (Choose p a b) = cond (awaits a || awaits b) 1 0 + (points a + points b)
  points_goal (Match k a b) = cond (awaits a || awaits b) 1 0 + (points a + points b)
  points_goal (Bind b) = points b
  points_goal Await = 1
  points_goal g = 0

-- ---- names, labels and groups

-- Of groups, sizes tells how many functions they have, sees how many values they see, and those before `bound` are there. In the body of
-- a method stand awaits, errors and calls of shared functions, and in a function none.
module _ (sizes sees : ℕ → ℕ) (globals bound : ℕ) (shared : Bool) where
  abbrev mutual
    pub FormedExp : ℕ → ℕ → Exp → Type 0
    FormedExp names labels (Constant? c) = Unit {0}
    FormedExp names labels (Name x) = x < names
    FormedExp names labels (Global i) = i < globals
    FormedExp names labels (Do goal es) = FormedGoal names labels goal (count es) × FormedAll names labels es
    FormedExp names labels (Functions k b) = (k < bound) × (sees k ≡ names) × FormedExp (sizes k + names) labels b
    FormedExp names labels (Loop b) = FormedExp names labels b
    FormedExp names labels (Label b) = FormedExp names (suc labels) b
    FormedExp names labels (Try a b) = (shared ≡ true) × FormedExp names labels a × FormedExp (suc names) labels b

    pub FormedAll : ℕ → ℕ → Exps → Type 0
    FormedAll names labels NoExp = Unit {0}
    FormedAll names labels (AnExp e es) = FormedExp names labels e × FormedAll names labels es

    -- with so many arguments
    pub FormedGoal : ℕ → ℕ → Goal → ℕ → Type 0
    FormedGoal names labels (Operate p) n = Takes (arity p) n
    FormedGoal names labels (Choose p a b) n = Takes (arity p) n × (is_silent p ≡ true) × FormedExp names labels a × FormedExp names labels b
    FormedGoal names labels (Match k a b) n = (n ≡ 1) × FormedExp (suc names) labels a × FormedExp names labels b
    FormedGoal names labels (Bind b) n = (n ≡ 1) × FormedExp (suc names) labels b
    FormedGoal names labels Call n = 1 ≤ n
    FormedGoal names labels Tabulate n = n ≡ 2
    FormedGoal names labels (Send s) n = (shared ≡ true) × (n ≡ suc (length s.parameters))
    FormedGoal names labels Throw n = (shared ≡ true) × (n ≡ 1)
    FormedGoal names labels Await n = (shared ≡ true) × (n ≡ 1)
    FormedGoal names labels (Break l) n = (l < labels) × (n ≡ 1)
    FormedGoal names labels Return n = n ≡ 1

  -- a body in a group of so many functions, which sees so many values
  pub record FormedBody (size seen : ℕ) (b : Body) : Type 0 where
    pub names : FormedExp (b.parameters + (size + seen)) 0 b.expression
    -- in words of a frame: the values that stand ready at once, the arguments of an action, and how deep it stands
    pub frame : b.parameters + width sizes b.expression + 2 * max 2 (arguments b.expression) + depth b.expression ≤ 4 * b.nodes + 50
