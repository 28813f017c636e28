-- What stands open on the stack of the machine: labels and handlers, which are left by a jump or an error, and ends of branches, cases and handlers. What
-- may still be put on top in a body is bounded by the nodes of the body (Motoko language manual, sections "Label", "Try" and "Switch").
use Rattle.std.specs.Prelude.{ℕ, suc, ◌+◌, ◌≤◌, max, [], ◌∷◌}
use Rattle.typed_tree.specs.declared.action.Action.{Action}
use Rattle.typed_tree.specs.declared.action.Action.TheVariants as action
use Rattle.typed_tree.specs.Language.{Exp, Exps, Cases, Val, Name, Do, If, Switch, NoExp, AnExp, NoCase, ACase}
use Rattle.nesting.specs.Shapes.{pile, pile_all, pile_cases}
use Rattle.mo_machine.specs.Configurations.{Configuration, End, Returns, Suspends, Run, Still, Ended}
use Rattle.mo_machine.specs.Frames.{Frame, Operands, Choosing, Switching, Returning, Labelled, Testing, Turning, Repeating, Retesting, Going, Stepping, Trying, Updating, Joining, Stack, Focus, Eval, Ready, Give}
use Rattle.machine_nesting.specs.Sizes.{Sized, SizedAll, SizedCases, SizedValue, Good, GoodAll, GoodEach}

-- ---- what is counted

-- labels and handlers
abbrev pub labels_on : Stack → ℕ
labels_on [] = 0
labels_on (Labelled ∷ k) = suc (labels_on k)
labels_on (Trying p b env ∷ k) = suc (labels_on k)
labels_on (_ ∷ k) = labels_on k

-- ends of branches, of cases and of handlers
abbrev pub ends_on : Stack → ℕ
ends_on [] = 0
ends_on (Joining ∷ k) = suc (ends_on k)
ends_on (_ ∷ k) = ends_on k

abbrev pub nodes_in : Frame → ℕ
nodes_in (Returning n) = n
nodes_in _ = 0

-- the nodes of the bodies that were entered and not left
abbrev pub nodes_on : Stack → ℕ
nodes_on [] = 0
nodes_on (frame ∷ k) = nodes_in frame + nodes_on k

-- ---- code and values that stand on the stack

abbrev pub GoodFrame : Frame → Type 0
GoodFrame (Operands a done rest env) = GoodEach done × SizedAll rest × GoodAll env
GoodFrame (Choosing a b env) = Sized a × Sized b × GoodAll env
GoodFrame (Switching cases env) = SizedCases cases × GoodAll env
GoodFrame (Returning n) = Unit {0}
GoodFrame Labelled = Unit {0}
GoodFrame (Testing c b env) = Sized c × Sized b × GoodAll env
GoodFrame (Turning c b env) = Sized c × Sized b × GoodAll env
GoodFrame (Repeating b c env) = Sized b × Sized c × GoodAll env
GoodFrame (Retesting b c env) = Sized b × Sized c × GoodAll env
GoodFrame (Going p b env) = Sized b × GoodAll env
GoodFrame (Stepping p v b env) = Good v × Sized b × GoodAll env
GoodFrame (Trying p b env) = Sized b × GoodAll env
GoodFrame (Updating o f env) = Sized f × GoodAll env
GoodFrame Joining = Unit {0}

abbrev pub GoodFocus : Focus → Type 0
GoodFocus (Eval e env) = Sized e × GoodAll env
GoodFocus (Ready a vs) = GoodEach vs
GoodFocus (Give v) = Good v

-- ---- built-in functions

-- Their bodies have no nodes, and yet `next` of an iterator chooses and goes on in steps. But while such code is evaluated nothing is called and nothing
-- awaited: it opens no label and no handler, and nothing waits where its ends of branches stand. So these are not counted.
abbrev pub IsQuiet : Action → Type 0
IsQuiet (action.Operate o) = Unit {0}
IsQuiet (action.BuiltIn m) = Unit {0}
IsQuiet action.New = Unit {0}
IsQuiet action.Read = Unit {0}
IsQuiet action.Write = Unit {0}
IsQuiet a = ⊥

abbrev mutual
  pub Quiet : Exp → Type 0
  Quiet (Val v) = SizedValue v
  Quiet (Name x) = Unit {0}
  Quiet (Do a es) = IsQuiet a × QuietAll es
  Quiet (If c a b) = Quiet c × Quiet a × Quiet b
  Quiet (Switch e cases) = Quiet e × QuietCases cases
  Quiet e = ⊥

  pub QuietAll : Exps → Type 0
  QuietAll NoExp = Unit {0}
  QuietAll (AnExp e es) = Quiet e × QuietAll es

  pub QuietCases : Cases → Type 0
  QuietCases NoCase = Unit {0}
  QuietCases (ACase p e cases) = Quiet e × QuietCases cases

abbrev pub QuietFrame : Frame → Type 0
QuietFrame (Operands a done rest env) = IsQuiet a × GoodEach done × QuietAll rest × GoodAll env
QuietFrame (Choosing a b env) = Quiet a × Quiet b × GoodAll env
QuietFrame (Switching cases env) = QuietCases cases × GoodAll env
QuietFrame Joining = Unit {0}
QuietFrame frame = ⊥

abbrev pub QuietFocus : Focus → Type 0
QuietFocus (Eval e env) = Quiet e × GoodAll env
QuietFocus (Ready a vs) = IsQuiet a × GoodEach vs
QuietFocus (Give v) = Good v

-- ---- what may be put on top

-- an end counts so much, and a label or a handler one
module _ (ending : ℕ) where
  abbrev pub counts : Frame → ℕ
  counts Labelled = 1
  counts (Trying p b env) = 1
  counts Joining = ending
  counts _ = 0

  -- what stands open in the body that is evaluated, where so much does below the frame
  abbrev pub above : Frame → ℕ → ℕ
  above (Returning n) below = 0
  above frame below = counts frame + below

  abbrev pub open_on : Stack → ℕ
  open_on [] = 0
  open_on (frame ∷ k) = above frame (open_on k)

  -- the nodes of that body
  abbrev pub within : Frame → ℕ → ℕ
  within (Returning n) limit = n
  within frame limit = limit

  abbrev pub limit_on : Stack → ℕ
  limit_on [] = 0
  limit_on (frame ∷ k) = within frame (limit_on k)

  -- the most that is put on the stack by a frame, with what it is still to evaluate
  abbrev pub needs : Frame → ℕ
  needs (Operands a done rest env) = pile_all ending 1 rest
  needs (Choosing a b env) = ending + max (pile ending 1 a) (pile ending 1 b)
  needs (Switching cases env) = ending + pile_cases ending 1 cases
  needs (Returning n) = 0
  needs Labelled = 1
  needs (Testing c b env) = max (pile ending 1 c) (pile ending 1 b)
  needs (Turning c b env) = max (pile ending 1 c) (pile ending 1 b)
  needs (Repeating b c env) = max (pile ending 1 b) (pile ending 1 c)
  needs (Retesting b c env) = max (pile ending 1 b) (pile ending 1 c)
  needs (Going p b env) = ending + max ending (pile ending 1 b)
  needs (Stepping p v b env) = ending + max ending (pile ending 1 b)
  needs (Trying p b env) = max 1 (ending + pile ending 1 b)
  needs (Updating o f env) = pile ending 1 f
  needs Joining = ending

  -- so that all keeps within the nodes of the bodies
  abbrev pub Piled : Stack → Type 0
  Piled [] = Unit {0}
  Piled (frame ∷ k) = GoodFrame frame × (needs frame + open_on k ≤ limit_on k) × Piled k

  abbrev pub needs_at : Focus → ℕ
  needs_at (Eval e env) = pile ending 1 e
  needs_at (Ready a vs) = 0
  needs_at (Give v) = 0

  pub record Busy (f : Focus) (k : Stack) : Type 0 where
    pub focus : GoodFocus f
    pub room : needs_at f + open_on k ≤ limit_on k
    pub piled : Piled k

  -- the code of a built-in function stands on top
  abbrev pub QuietOn : Stack → Type 0
  QuietOn [] = ⊥
  QuietOn (Returning n ∷ k) = Piled k × (open_on k ≤ limit_on k)
  QuietOn (frame ∷ k) = QuietFrame frame × QuietOn k

  pub data Standing (f : Focus) (k : Stack) : Type 0 where
    IsBusy : Busy f k → Standing f k
    InBuiltIn : QuietFocus f → QuietOn k → Standing f k

  -- each body is paid where it is entered
  pub record Light (c : Configuration) : Type 0 where
    pub store : GoodEach c.store
    pub standing : Standing c.focus c.stack
    pub paid : nodes_on c.stack ≤ c.weight

  -- what waits in bodies with so many nodes
  pub record Waits (nodes : ℕ) (f : Focus) (k : Stack) : Type 0 where
    pub busy : Busy f k
    pub paid : nodes_on k ≤ nodes

  abbrev pub GoodEnd : Configuration → End → Type 0
  GoodEnd c (Returns v) = Good v
  GoodEnd c (Suspends call nodes) = Waits nodes c.focus c.stack
  GoodEnd c end = Unit {0}

  pub record LightEnd (c : Configuration) (end : End) : Type 0 where
    pub store : GoodEach c.store
    pub light : labels_on c.stack ≤ c.weight
    pub good : GoodEnd c end

  abbrev pub LightRun : Run → Type 0
  LightRun (Still c) = Light c
  LightRun (Ended c end) = LightEnd c end

-- ---- executions

abbrev pub reached : Run → Configuration
reached (Still c) = c
reached (Ended c end) = c

-- at each moment no more labels and handlers stand open than it has cost
abbrev pub IsLight : (ℕ → Run) → Type 0
IsLight go = (j : ℕ) → labels_on (reached (go j)).stack ≤ (reached (go j)).weight
