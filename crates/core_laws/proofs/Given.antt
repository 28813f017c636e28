-- A value that is given, and an expression that is next, in states that belong together.
use Rattle.std.proofs.Common.{◌≡◌, ℕ, ◌+◌, ◌≤◌, inl, inr, refl, ap, List, Option, Some, None, arith as arithmetic}
use Rattle.mo_values.specs.Shapes.{unit}
use Rattle.core_ir.specs.declared.code.Operand.{Operand}
use Rattle.core_ir.specs.Values.{Value}
use Rattle.core_ir.specs.Worlds.{World, Context}
use Rattle.core_ir.specs.Expressions.{Exp, Core}
use Rattle.core_ir.specs.CoreMachine as core
use Rattle.core_ir.specs.CoreMachine.{Arguments, Looping, Labelled, Trying, Join, Eval, Give}
use Rattle.core_ir.specs.Code.{Code, CodeProgram}
use Rattle.core_ir.specs.CodeMachine as code
use Rattle.core_ir.specs.CodeMachine.{Around, Within, Again, Place, settle, value, values, put, branch, onto, by_way, raise}
use Rattle.core_laws.specs.Around.{Kind}
use Rattle.core_laws.specs.Slots.{slot}
use Rattle.core_ir.specs.Primitives.{Done, Gives}
use Rattle.core_laws.proofs.Continuations.{Dest, To, Cont, Free, stable, fill_same}
use Rattle.core_laws.proofs.Unwinding.{need, Ready}
use Rattle.core_laws.proofs.Related.{place_at, Has, slack, Rel, Matches}

-- what gives a value weighs something
abbrev pub Heavy : Done → Type 0
Heavy (Gives cost v store) = 1 ≤ cost.weight
Heavy _ = Unit {0}

module _ (sizes : ℕ → ℕ) (context : Context) (nodes : ℕ) (source : Core) (program : CodeProgram) where
  abbrev pub Ct : List core.Frame → Dest → ℕ → List Kind → Code → List Around → code.Frame → List code.Caller → ℕ → Type 0
  Ct = Cont sizes context.globals nodes

  abbrev pub Rl : ℕ → ℕ → core.State → code.State → Type 0
  Rl = Rel sizes context nodes source program

  abbrev pub s_at : core.Focus → List core.Frame → core.State
  s_at f k = core.at source context nodes f k

  abbrev pub Mt : ℕ → ℕ → ℕ → ℕ → World → code.State → core.Did → Type 0
  Mt = Matches sizes context nodes source program

  free_slot : (t : Option ℕ) (base g : ℕ) → base ≤ g → Free sizes context.globals nodes (slot t g) (To t) base
  free_slot None base g l = inl l
  free_slot (Some u) base g l = inr refl

  has_put : (t : Option ℕ) (g : ℕ) (f : code.Frame) (v : Value) → Has sizes context nodes source program (To t) (put f (slot t g) v) v
  has_put None g f v = tt
  has_put (Some u) g f v = fill_same unit f.slots u v

  -- a value was put into its slot
  pub given_rel : (p : ℕ) (v : Value) (k : List core.Frame) (t : Option ℕ) (base g : ℕ) (ls : List Kind) (c : Code) (ks : List Around) (f : code.Frame) (cs : List code.Caller) (q : ℕ)
      → Ct k (To t) base ls c ks f cs q → base ≤ g → q + slack sizes context nodes source program k ≤ p + 0 → Rl p 0 (s_at (Give v) k) (code.at c ks (put f (slot t g) v) cs)
  given_rel p v k t base g ls c ks f cs q x low e = (
    refl,
    record {
      D = To t;
      h = base;
      ls = ls;
      c = c;
      ks = ks;
      q = q;
      cont = stable sizes context.globals nodes k (To t) base ls c ks f cs q (slot t g) v (free_slot t base g low) x;
      has = has_put t g f v;
      pos = inl (refl, refl);
      enough = e;
    },
  )

  -- an expression is next
  pub ready_rel : (p : ℕ) (e : Exp) (env : List Value) (k : List core.Frame) (t : Option ℕ) (h : ℕ) (ns : List Operand) (ls : List Kind) (c d : Code) (ks : List Around) (f : code.Frame) (cs : List code.Caller) (q : ℕ)
      → Ready sizes context nodes source e env k t h ns ls c d ks f cs q → q + 1 + need sizes context nodes source e t k c ≤ p + 0 → Rl p 0 (s_at (Eval e env) k) (code.at d ks f cs)
  ready_rel p e env k t h ns ls c d ks f cs q x i = (
    refl,
    record {
      t = t;
      D = To t;
      h = h;
      ns = ns;
      ls = ls;
      c = c;
      d = d;
      ks = ks;
      q = q;
      splits = x.splits;
      cont = x.cont;
      scope = x.scope;
      below = x.below;
      clear = x.clear;
      aim = inl refl;
      pos = inl (refl, refl);
      enough = i;
    },
  )

  pub at_place : (world : World) (s : code.State) (d : Code) (ks : List Around) → settle s.around s.code ≡ place_at d ks → code.step program context world s ≡ code.instruct program context world d ks s.frame s.callers
  at_place world s d ks e = ap (λ (x : Place). code.instruct program context world x.code x.around s.frame s.callers) e

  -- states that belong together are equally deep
  pub shallow_of : (s : code.State) (k : List core.Frame) (m : ℕ) → s.frame.body.nodes + code.depth_of s.callers ≡ nodes + core.depth_of k → 16 + nodes + core.depth_of k ≤ m → code.depth s ≤ m
  shallow_of s k m a l = omega (arithmetic, a, l)
