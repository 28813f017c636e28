-- How the states of both machines belong together, and what it is that a step is matched.
use Rattle.std.proofs.Common.{◌≡◌, ℕ, suc, ◌+◌, ◌*◌, ◌<◌, ◌≤◌, ◌⊎◌, inl, inr, refl, sym, ap, ◌∙◌, subst, List, [], ◌∷◌, Option, Some, None, arith as arithmetic}
use Rattle.std.specs.Prelude.{slice_get}
use Rattle.mo_values.specs.Costs.{Cost, weighing}
use Rattle.mo_values.specs.Shapes.{Bytes, unit}
use Rattle.core_ir.specs.declared.code.Operand.{Operand}
use Rattle.core_ir.specs.Choices.{nth}
use Rattle.core_ir.specs.Values.{Value}
use Rattle.core_ir.specs.Worlds.{World, Context}
use Rattle.core_ir.specs.Executions.{End, Replies, Rejects, Waits, Traps, Breaks, Go, Ends, heavier, costing}
use Rattle.core_ir.specs.Expressions as exp
use Rattle.core_ir.specs.Expressions.{Exp, Constant?, Name, Do, Exps, NoExp, AnExp, Goal, Core}
use Rattle.core_ir.specs.CoreMachine as core
use Rattle.core_ir.specs.CoreMachine.{Arguments, Looping, Labelled, Trying, Join, Eval, Give}
use Rattle.core_ir.specs.Code.{Code, Stop, Leave, CodeProgram}
use Rattle.core_ir.specs.CodeMachine as code
use Rattle.core_ir.specs.CodeMachine.{Around, Within, Again, Place, settle, value, values, put, branch, onto, by_way, raise}
use Rattle.core_laws.specs.Around.{Kind, handler}
use Rattle.core_laws.specs.Slots.{operand, place, slot}
use Rattle.core_laws.specs.Splits.{Splits}
use Rattle.core_ir.specs.Expressions.{Bind}
use Rattle.core_laws.proofs.Continuations.{Dest, To, Via, BelowL, Clear, Cont}
use Rattle.core_laws.proofs.Unwinding.{need}

abbrev pub place_at : Code → List Around → Place
place_at c ks = record { code = c; around = ks }

-- neither the end of a construct nor a jump to a segment
abbrev pub Solid : Code → Type 0
Solid Stop = ⊥
Solid (Leave j) = ⊥
Solid c = Unit {0}

pub settled : (ks : List Around) (c : Code) → Solid c → settle ks c ≡ place_at c ks
settled [] c h = refl
settled (Within r ∷ ks) Stop h = absurd h
settled (Again b r ∷ ks) Stop h = absurd h
settled (Within r ∷ ks) c h = refl
settled (Again b r ∷ ks) c h = refl

pub settled_leave : (ks : List Around) (j : ℕ) → settle ks (Leave j) ≡ place_at (Leave j) ks
settled_leave [] j = refl
settled_leave (Within r ∷ ks) j = refl
settled_leave (Again b r ∷ ks) j = refl

-- The machine is at this code; or the code leaves, and the machine has left already.
abbrev pub Pos : ℕ → Code → List Around → code.Frame → Place → Type 0
Pos b d ks f place =
    ((b ≡ 0) × (place ≡ settle ks d)) ⊎ record { one : b ≡ 1; j : ℕ; is : d ≡ Leave j; c : Code; at : slice_get f.body.segments j ≡ Some c; here : place ≡ place_at c [] }

solid_leave : (j : ℕ) (d : Code) → d ≡ Leave j → Solid d → ⊥
solid_leave j d e h = subst Solid e h

-- the instruction that runs
pub runs_at : (b : ℕ) (d : Code) (ks : List Around) (f : code.Frame) (place : Place) → Pos b d ks f place → Solid d → (b ≡ 0) × (place ≡ place_at d ks)
runs_at b d ks f place (inl p) h = (p.0, p.1 ∙ settled ks d h)
runs_at b d ks f place (inr p) h = absurd (solid_leave p.j d p.is h)

leave_inj : (i j : ℕ) → Leave i ≡ Leave j → i ≡ j
leave_inj i j e = cc

some_inj : (c d : Code) → Some c ≡ Some d → c ≡ d
some_inj c d e = cc

-- code that leaves: a step is due, or none
pub leaves_at : (b j : ℕ) (ks : List Around) (f : code.Frame) (place : Place) (r : Code) → Pos b (Leave j) ks f place → slice_get f.body.segments j ≡ Some r → ((b ≡ 0) × (place ≡ place_at (Leave j) ks)) ⊎ ((b ≡ 1) × (place ≡ place_at r []))
leaves_at b j ks f place r (inl p) e = inl (p.0, p.1 ∙ settled_leave ks j)
leaves_at b j ks f place r (inr p) e =
    let i : p.j ≡ j = sym (leave_inj j p.j p.is) in
    let x : Some p.c ≡ Some r = sym p.at ∙ ap (slice_get f.body.segments) i ∙ e in
    inr (p.one, p.here ∙ ap (λ c. place_at c []) (some_inj p.c r x))

module _ (sizes : ℕ → ℕ) (context : Context) (nodes : ℕ) (source : Core) (program : CodeProgram) where
  -- the value stands where it is wanted
  abbrev pub Has : Dest → code.Frame → Value → Type 0
  Has (To None) f v = Unit {0}
  Has (To (Some t)) f v = nth unit f.slots t ≡ v
  Has (Via a) f v = value context.globals f a ≡ v

  abbrev pub slack : List core.Frame → ℕ
  slack (Trying b env ∷ k) = 0
  slack k = 1

  pub slack_le : (k : List core.Frame) → slack k ≤ 1
  slack_le (Trying b env ∷ k) = omega arithmetic
  slack_le k = omega arithmetic

  abbrev pub Atomic : Exp → Type 0
  Atomic (Constant? l) = Unit {0}
  Atomic (Name x) = Unit {0}
  Atomic (exp.Global i) = Unit {0}
  Atomic e = ⊥

  -- an expression is computed for its slot, or is an atom that is read where it is used
  abbrev pub Aim : Exp → Option ℕ → List Operand → Dest → Type 0
  Aim e t ns D = (D ≡ To t) ⊎ ((t ≡ None) × Atomic e × (D ≡ Via (operand ns e 0)))

  abbrev pub Evaluating : ℕ → ℕ → Exp → List Value → List core.Frame → code.Frame → List code.Caller → Place → Type 0
  Evaluating p b e env k f cs place =
      record { t : Option ℕ; D : Dest; h : ℕ; ns : List Operand; ls : List Kind; c : Code; d : Code; ks : List Around; q : ℕ; splits : Splits sizes f.body.segments e t h ns ls c d; cont : Cont sizes context.globals nodes k D h ls c ks f cs q; scope : values context.globals f ns ≡ env; below : BelowL h ns; clear : Clear sizes context.globals nodes t h ns; aim : Aim e t ns D; pos : Pos b d ks f place; enough : q + 1 + need sizes context nodes source e t k c ≤ p + b }

  abbrev pub Giving : ℕ → ℕ → Value → List core.Frame → code.Frame → List code.Caller → Place → Type 0
  Giving p b v k f cs place =
      record { D : Dest; h : ℕ; ls : List Kind; c : Code; ks : List Around; q : ℕ; cont : Cont sizes context.globals nodes k D h ls c ks f cs q; has : Has D f v; pos : Pos b c ks f place; enough : q + slack k ≤ p + b }

  abbrev pub RelF : ℕ → ℕ → core.Focus → List core.Frame → code.State → Type 0
  RelF p b (Eval e env) k t = Evaluating p b e env k t.frame t.callers (settle t.around t.code)
  RelF p b (Give v) k t = Giving p b v k t.frame t.callers (settle t.around t.code)

  -- the states belong together: p is the weight that is held, and b tells whether the code is one jump ahead
  abbrev pub Rel : ℕ → ℕ → core.State → code.State → Type 0
  Rel p b s t = (s.nodes ≡ nodes) × RelF p b s.focus s.stack t

  -- what the machines wait on goes on alike
  abbrev pub Suspended : List core.Frame → code.Waiting → Type 0
  Suspended k w =
      record { t : Option ℕ; base : ℕ; g : ℕ; ls : List Kind; c : Code; q : ℕ; low : base ≤ g; to : w.to ≡ slot t g; handler_is : w.handler ≡ handler ls; at : slice_get w.frame.body.segments w.segment ≡ Some c; cont : Cont sizes context.globals nodes k (To t) base ls c [] w.frame [] q }

  abbrev pub EndFit : End core.Waiting → End code.Waiting → Type 0
  EndFit (Replies v) e = e ≡ Replies v
  EndFit (Rejects v) e = e ≡ Rejects v
  EndFit (Waits on s) e = (w : code.Waiting) × (e ≡ Waits on w) × (s.nodes ≡ nodes) × Suspended s.stack w
  EndFit (Traps text) e = e ≡ Traps text
  EndFit Breaks e = Unit {0}

  -- a measure for moves that the code has no step for
  abbrev mutual
    pub exp_size : Exp → ℕ
    exp_size (Constant? l) = 1
    exp_size (Name x) = 1
    exp_size (exp.Global i) = 1
    exp_size (Do goal es) = suc (goal_size goal + exps_size es)
    exp_size (exp.Functions k b) = suc (exp_size b)
    exp_size (exp.Loop b) = suc (exp_size b)
    exp_size (exp.Label b) = suc (suc (exp_size b))
    exp_size (exp.Try a b) = suc (exp_size a + exp_size b)

    pub exps_size : Exps → ℕ
    exps_size NoExp = 0
    exps_size (AnExp e es) = suc (exp_size e + exps_size es)

    pub goal_size : Goal → ℕ
    goal_size (exp.Choose o a b) = exp_size a + exp_size b
    goal_size (exp.Match s a b) = exp_size a + exp_size b
    goal_size (Bind b) = exp_size b
    goal_size g = 0

  abbrev pub stack_size : List core.Frame → ℕ
  stack_size [] = 0
  stack_size (Arguments goal done es env ∷ k) = suc (goal_size goal + exps_size es + stack_size k)
  stack_size (Labelled ∷ k) = suc (stack_size k)
  stack_size (Join ∷ k) = suc (stack_size k)
  stack_size (f ∷ k) = stack_size k

  abbrev pub pot : core.Focus → List core.Frame → ℕ
  pot (Eval e env) k = exp_size e + stack_size k
  pot (Give v) k = stack_size k

  -- one step of the code or two, from states that are no deeper than m
  abbrev pub Plus : World → code.State → ℕ → code.Did → Type 0
  Plus world t m d =
      ((code.step program context world t ≡ d) × (code.depth t ≤ m))
      ⊎ record {
        w : ℕ;
        u : code.State;
        e : code.Did;
        first : code.step program context world t ≡ Go (weighing w) [] world u;
        low : code.depth t ≤ m;
        then : code.step program context world u ≡ e;
        low_too : code.depth u ≤ m;
        is : d ≡ heavier w e;
        cost2 : Cost;
        world2 : World;
        v : code.State;
        silent : e ≡ Go cost2 [] world2 v;
      }

  abbrev pub Smaller : ℕ → ℕ → ℕ → ℕ → Type 0
  Smaller b n b' n' = (b < b') ⊎ ((b ≡ b') × (n < n'))

  -- a step is matched by none of the code, or by one or two with the same prints and the same world
  abbrev pub Quiet : ℕ → ℕ → ℕ → World → code.State → Cost → List Bytes → World → core.State → Type 0
  Quiet p b n world t cost o world' s' =
      record { none : o ≡ []; same : world' ≡ world; p' : ℕ; b' : ℕ; pays : p' ≤ 2 * cost.weight + p; smaller : Smaller b' (pot s'.focus s'.stack) b n; rel : Rel p' b' s' t }

  abbrev pub Loud : ℕ → ℕ → World → code.State → Cost → List Bytes → World → core.State → Type 0
  Loud p m world t cost o world' s' =
      record {
        cost' : Cost;
        u : code.State;
        does : Plus world t m (Go cost' o world' u);
        flat : cost'.levels ≤ cost.levels;
        p' : ℕ;
        b' : ℕ;
        pays : cost'.weight + p' ≤ 2 * cost.weight + p;
        rel : Rel p' b' s' u;
      }

  abbrev pub Last : ℕ → ℕ → World → code.State → Cost → List Bytes → World → End core.Waiting → Type 0
  Last p m world t cost o world' r =
      record { cost' : Cost; r' : End code.Waiting; does : Plus world t m (Ends cost' o world' r'); flat : cost'.levels ≤ cost.levels; pays : cost'.weight ≤ 2 * cost.weight + p; fits : EndFit r r' }

  abbrev pub Matches : ℕ → ℕ → ℕ → ℕ → World → code.State → core.Did → Type 0
  Matches p b n m world t (Go cost o world' s') = Quiet p b n world t cost o world' s' ⊎ Loud p m world t cost o world' s'
  Matches p b n m world t (Ends cost o world' Breaks) = Unit {0}
  Matches p b n m world t (Ends cost o world' r) = Last p m world t cost o world' r

  -- ---- a step that is matched by one

  abbrev pub Both : ℕ → core.Did → code.Did → Type 0
  Both p (Go cost o world' s') e =
      record {
        cost' : Cost;
        u : code.State;
        is : e ≡ Go cost' o world' u;
        flat : cost'.levels ≤ cost.levels;
        p' : ℕ;
        b' : ℕ;
        pays : cost'.weight + p' ≤ 2 * cost.weight + p;
        rel : Rel p' b' s' u;
      }
  Both p (Ends cost o world' Breaks) e = Unit {0}
  Both p (Ends cost o world' r) e = record { cost' : Cost; r' : End code.Waiting; is : e ≡ Ends cost' o world' r'; flat : cost'.levels ≤ cost.levels; pays : cost'.weight ≤ 2 * cost.weight + p; fits : EndFit r r' }

  module _ (b n m : ℕ) (world : World) (t : code.State) (low : code.depth t ≤ m) where
    last_both : (p : ℕ) (cost : Cost) (o : List Bytes) (world' : World) (r : End core.Waiting) (e : code.Did) → code.step program context world t ≡ e
        → record { cost' : Cost; r' : End code.Waiting; is : e ≡ Ends cost' o world' r'; flat : cost'.levels ≤ cost.levels; pays : cost'.weight ≤ 2 * cost.weight + p; fits : EndFit r r' }
        → Last p m world t cost o world' r
    last_both p cost o world' r e i h = record { cost' = h.cost'; r' = h.r'; does = inl (i ∙ h.is, low); flat = h.flat; pays = h.pays; fits = h.fits }

    pub matches_both : (p : ℕ) (d : core.Did) (e : code.Did) → code.step program context world t ≡ e → Both p d e → Matches p b n m world t d
    matches_both p (Go cost o world' s') e i h =
        inr (record { cost' = h.cost'; u = h.u; does = inl (i ∙ h.is, low); flat = h.flat; p' = h.p'; b' = h.b'; pays = h.pays; rel = h.rel })
    matches_both p (Ends cost o world' Breaks) e i h = tt
    matches_both p (Ends cost o world' (Replies v)) e i h = last_both p cost o world' (Replies v) e i h
    matches_both p (Ends cost o world' (Rejects v)) e i h = last_both p cost o world' (Rejects v) e i h
    matches_both p (Ends cost o world' (Waits on w)) e i h = last_both p cost o world' (Waits on w) e i h
    matches_both p (Ends cost o world' (Traps text)) e i h = last_both p cost o world' (Traps text) e i h

  pub heavier_both : (n p : ℕ) (d : core.Did) (e : code.Did) → Both p d e → Both p (heavier n d) (heavier n e)
  heavier_both n p (Go cost o world' s') e h =
      let a = h.pays in
      record { cost' = costing n h.cost'; u = h.u; is = ap (heavier n) h.is; flat = h.flat; p' = h.p'; b' = h.b'; pays = omega (arithmetic, a); rel = h.rel }
  heavier_both n p (Ends cost o world' Breaks) e h = tt
  heavier_both n p (Ends cost o world' (Replies v)) e h = let a = h.pays in record { cost' = costing n h.cost'; r' = h.r'; is = ap (heavier n) h.is; flat = h.flat; pays = omega (arithmetic, a); fits = h.fits }
  heavier_both n p (Ends cost o world' (Rejects v)) e h = let a = h.pays in record { cost' = costing n h.cost'; r' = h.r'; is = ap (heavier n) h.is; flat = h.flat; pays = omega (arithmetic, a); fits = h.fits }
  heavier_both n p (Ends cost o world' (Waits on w)) e h = let a = h.pays in record { cost' = costing n h.cost'; r' = h.r'; is = ap (heavier n) h.is; flat = h.flat; pays = omega (arithmetic, a); fits = h.fits }
  heavier_both n p (Ends cost o world' (Traps text)) e h = let a = h.pays in record { cost' = costing n h.cost'; r' = h.r'; is = ap (heavier n) h.is; flat = h.flat; pays = omega (arithmetic, a); fits = h.fits }

  -- what is held more does no harm
  pub more_both : (p p1 : ℕ) (d : core.Did) (e : code.Did) → p ≤ p1 → Both p d e → Both p1 d e
  more_both p p1 (Go cost o world' s') e l h =
      let a = h.pays in record { cost' = h.cost'; u = h.u; is = h.is; flat = h.flat; p' = h.p'; b' = h.b'; pays = omega (arithmetic, a, l); rel = h.rel }
  more_both p p1 (Ends cost o world' Breaks) e l h = tt
  more_both p p1 (Ends cost o world' (Replies v)) e l h = let a = h.pays in record { cost' = h.cost'; r' = h.r'; is = h.is; flat = h.flat; pays = omega (arithmetic, a, l); fits = h.fits }
  more_both p p1 (Ends cost o world' (Rejects v)) e l h = let a = h.pays in record { cost' = h.cost'; r' = h.r'; is = h.is; flat = h.flat; pays = omega (arithmetic, a, l); fits = h.fits }
  more_both p p1 (Ends cost o world' (Waits on w)) e l h = let a = h.pays in record { cost' = h.cost'; r' = h.r'; is = h.is; flat = h.flat; pays = omega (arithmetic, a, l); fits = h.fits }
  more_both p p1 (Ends cost o world' (Traps text)) e l h = let a = h.pays in record { cost' = h.cost'; r' = h.r'; is = h.is; flat = h.flat; pays = omega (arithmetic, a, l); fits = h.fits }
