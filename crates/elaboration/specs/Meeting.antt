-- What the checks of a pattern do: on values that they may stand on, what the pattern's match says, at no more than twice its weight
-- (Motoko language manual, section "Patterns").
use Rattle.std.specs.Prelude.{◌≡◌, ◌⊎◌, ℕ, suc, ◌+◌, ◌-◌, ◌*◌, ◌<◌, ◌≤◌, List, [], ◌∷◌, ◌++◌, length, true, Option, Some, None, slice_get}
use Rattle.mo_types.specs.declared.datum.Datum.{Datum}
use Rattle.mo_types.specs.declared.datum.Datum.TheVariants as part
use Rattle.mo_values.specs.Costs.{weighing}
use Rattle.mo_values.specs.Shapes.{Bytes}
use Rattle.mo_values.specs.Views.{leaf_of, tuple_of, field_of}
use Rattle.core_ir.specs.declared.primitive.Constructor.{Constructor}
use Rattle.core_ir.specs.declared.primitive.Constructor.TheVariants as constructor
use Rattle.core_ir.specs.Values.{Handle, Value}
use Rattle.core_ir.specs.Worlds.{World, Context}
use Rattle.core_ir.specs.Executions.{Go}
use Rattle.core_ir.specs.Primitives.{comparable}
use Rattle.core_ir.specs.Openings.{Inside, Otherwise, opened}
use Rattle.core_ir.specs.Expressions.{Exp, Core}
use Rattle.core_ir.specs.CoreMachine.{Frame, Join, Focus, Eval, Give, focused, at, depth_of}
use Rattle.typed_tree.specs.Patterns as pattern
use Rattle.typed_tree.specs.Patterns.{Pat, Pats, Found, Wildcard, Constant, Present?, Tagged, Parts, Fields, Either, NoPat, APat, matches, present_of, tagged_of}
use Rattle.typed_tree.specs.PatternWeights.{pattern_weight}
use Rattle.elaboration.specs.Checks.{Checked, Source, Named, Part, check, around_all}

-- ---- values on which a pattern may stand: those of its type

-- the value has another form, or this one, and then the rest holds of what is inside
abbrev pub OpensTo : Constructor → Value → Option Value → (Value → Type 0) → Type 0
OpensTo c w None P = opened c w ≡ Otherwise
OpensTo c w (Some u) P = (opened c w ≡ Inside u) × P u

abbrev pub MeetsLiteral : Datum → Value → Type 0
MeetsLiteral part.Null w =
    ((opened constructor.Present w ≡ Otherwise) × (leaf_of w ≡ Some part.Null)) ⊎ ((u : Value) × (opened constructor.Present w ≡ Inside u) × (leaf_of w ≡ None))
MeetsLiteral c w = (d : Datum) × (leaf_of w ≡ Some d) × (comparable c d ≡ true)

abbrev mutual
  pub Meets : Pat → Value → Type 0
  Meets Wildcard w = Unit {0}
  Meets pattern.Bind w = Unit {0}
  Meets (Constant c) w = MeetsLiteral c w
  Meets (Present? p) w = OpensTo constructor.Present w (present_of w) (λ u. Meets p u)
  Meets (Tagged l p) w = OpensTo (constructor.Tagged l) w (tagged_of l w) (λ u. Meets p u)
  Meets (Parts ps) w = (vs : List Value) × (tuple_of w ≡ Some vs) × MeetEach ps vs
  Meets (Fields ls ps) w = MeetFields ls ps w
  Meets (Either p q) w = Meets p w × Meets q w

  pub MeetEach : Pats → List Value → Type 0
  MeetEach NoPat [] = Unit {0}
  MeetEach NoPat (v ∷ vs) = ⊥
  MeetEach (APat p ps) [] = ⊥
  MeetEach (APat p ps) (v ∷ vs) = Meets p v × MeetEach ps vs

  pub MeetFields : List Bytes → Pats → Value → Type 0
  MeetFields [] NoPat w = Unit {0}
  MeetFields [] (APat p ps) w = ⊥
  MeetFields (l ∷ ls) NoPat w = ⊥
  MeetFields (l ∷ ls) (APat p ps) w = ((u : Value) × (field_of l w ≡ Some u) × Meets p u) × MeetFields ls ps w

-- ---- names

-- the name before which so many others stand has this value
abbrev pub Reads : List Value → ℕ → Value → Type 0
Reads env level w = (level < length env) × (slice_get env (length env - suc level) ≡ Some w)

abbrev pub ReadEach : List Value → List ℕ → List Value → Type 0
ReadEach env [] [] = Unit {0}
ReadEach env (l ∷ levels) (w ∷ ws) = Reads env l w × ReadEach env levels ws
ReadEach env _ _ = ⊥

-- names that there were stand for what they stood for
abbrev pub Extends : List Value → List Value → Type 0
Extends env env' = (level : ℕ) (w : Value) → Reads env level w → Reads env' level w

-- ends of branches alone
abbrev pub Joins : List Frame → Type 0
Joins [] = Unit {0}
Joins (Join ∷ k) = Joins k
Joins (_ ∷ k) = ⊥

-- a named value leaves one unit of weight
abbrev pub allowed : Source → Pat → Value → ℕ
allowed (Named level) p w = 2 * pattern_weight p w - 1
allowed (Part e) p w = 2 * pattern_weight p w

module _ (program : Core) (context : Context) (nodes : ℕ) (world : World) where
  -- steps that leave the world as it is, enter and leave no function, and weigh at most so much lead from one state to another
  pub data Comes : ℕ → Focus → List Frame → Focus → List Frame → Type 0 where
    There : (n : ℕ) (f : Focus) (k : List Frame) → Comes n f k f k
    Goes : (n w m : ℕ) (f : Focus) (k : List Frame) (f' : Focus) (k' : List Frame) (g : Focus) (l : List Frame)
        → focused program context nodes world f k ≡ Go (weighing w) [] world (at program context nodes f' k') → depth_of k ≡ depth_of k' → w + m ≤ n → Comes m f' k' g l → Comes n f k g l

  -- an expression without effects gives this value
  abbrev pub Gives : ℕ → List Value → Exp → Value → Type 0
  Gives n env e w = (k : List Frame) → Comes n (Eval e env) k (Give w) k

  -- a named value, or a part that has to be loaded
  abbrev pub Stands : List Value → Source → Value → Type 0
  Stands env (Named level) w = Reads env level w
  Stands env (Part e) w = Gives 1 env e w

  -- what is done where it does not match, and where it does, with the names' values
  abbrev pub Decides : Found Handle → ℕ → List Value → List Frame → Checked → Type 0
  Decides None n env k c =
      (env' : List Value) × (joins : List Frame) × ((fails next : Exp) → Comes n (Eval (around_all c.checks fails next) env) k (Eval fails env') (joins ++ k))
      × Extends env env' × Joins joins
  Decides (Some vs) n env k c =
      (env' : List Value) × (joins : List Frame) × ((fails next : Exp) → Comes n (Eval (around_all c.checks fails next) env) k (Eval next env') (joins ++ k))
      × (c.names ≡ length env') × ReadEach env' c.bound vs × Extends env env' × Joins joins

  abbrev pub ChecksDecide : Type 0
  ChecksDecide =
      (p : Pat) (v : Source) (env : List Value) (w : Value) (k : List Frame) → Stands env v w → Meets p w → Decides (matches p w) (allowed v p w) env k (check p v (length env))
