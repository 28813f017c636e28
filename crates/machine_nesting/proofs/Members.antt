-- Built-in functions: their bodies are quiet, but for one that is a print and one that calls a function for each element, and opens nothing itself.
use Rattle.std.proofs.Common.{◌≡◌, ◌≤◌, ℕ, zero, suc, List, [], ◌∷◌, Bool, true, false, Option, Some, None, slice_get, refl, arith}
use Rattle.std.specs.Str.{chars}
use Rattle.mo_values.specs.declared.operation.Operation.{Operation}
use Rattle.mo_values.specs.declared.operation.Operation.TheVariants as op
use Rattle.mo_values.specs.Shapes.{Bytes, Array}
use Rattle.mo_values.specs.Views.{natural_of, text_of}
use Rattle.typed_tree.specs.declared.action.Action.{Action}
use Rattle.typed_tree.specs.declared.action.Action.TheVariants as action
use Rattle.typed_tree.specs.declared.action.Member.{Member}
use Rattle.typed_tree.specs.declared.action.Member.TheVariants as member
use Rattle.typed_tree.specs.Language.{Exp, Name}
use Rattle.nesting.specs.Shapes.{pile_all}
use Rattle.mo_machine.specs.Values.{Value, Made, NoValue, AValue, shape_of}
use Rattle.mo_machine.specs.Acts.{Store, Act}
use Rattle.mo_machine.specs.Cells.{held, cell_of}
use Rattle.mo_machine.specs.Frames.{Returning, Stack, Focus, Ready}
use Rattle.mo_machine.specs.Members.{elements, calls_code, cells_code, each_code, sized, each, iterator_code, is_mutable, element_code, next_code, body_of, char_code, next_char_at, number_in, in_frame, call_member}
use Rattle.machine_nesting.specs.Sizes.{SizedAll, Good, GoodEach}
use Rattle.machine_nesting.specs.Stacks.{IsQuiet, Quiet, QuietAll, QuietFocus, open_on, limit_on, Piled, Standing, InBuiltIn}
use Rattle.machine_nesting.proofs.Counting.{room}
use Rattle.machine_nesting.proofs.Sizes.{listed_good, gathered_good}
use Rattle.machine_nesting.proofs.Standing.{Acts, busy_ready, busy_code}

-- ---- code

calls_sized : (i n : ℕ) → SizedAll (calls_code i n)
calls_sized i zero = tt
calls_sized i (suc n) = ((tt, (tt, tt)), calls_sized (suc i) n)

calls_light : (ending i n : ℕ) → pile_all ending 1 (calls_code i n) ≡ 0
calls_light ending i zero = refl
calls_light ending i (suc n) = omega (arith, calls_light ending (suc i) n)

cells_quiet : (n : ℕ) → QuietAll (cells_code n)
cells_quiet zero = tt
cells_quiet (suc n) = ((tt, (tt, tt)), cells_quiet n)

each_quiet : (a : Action) → IsQuiet a → (i : ℕ) (vs : List Value) → QuietAll (each_code a i vs)
each_quiet a q i [] = tt
each_quiet a q i (v ∷ vs) = ((q, (tt, tt)), each_quiet a q (suc i) vs)

iterator_quiet : (next : Member) → Quiet (iterator_code next)
iterator_quiet next = (tt, ((tt, (tt, ((tt, (tt, tt)), tt))), tt))

element_quiet : (b : Bool) → Quiet (element_code b (Name 0))
element_quiet true = (tt, ((tt, (tt, (tt, tt))), tt))
element_quiet false = (tt, (tt, (tt, tt)))

next_quiet : (at : Exp → Exp) → Quiet (at (Name 0)) → Quiet (next_code at)
next_quiet at q = (
  (tt, (tt, tt)),
  (
    (
      (tt, (tt, ((tt, (tt, tt)), tt))),
      ((tt, (tt, ((tt, (tt, (tt, tt))), tt))), ((tt, (q, tt)), tt)),
      tt,
    ),
    tt,
  ),
)

char_quiet : (i : ℕ) (o : Option ℕ) → Quiet (char_code i o)
char_quiet i None = tt
char_quiet i (Some c) = ((tt, (tt, ((tt, (tt, (tt, tt))), tt))), ((tt, (tt, tt)), tt))

module _ (ending : ℕ) (k : Stack) (p : Piled ending k) where
  -- in a body without nodes
  within : open_on ending k ≤ limit_on ending k
  within = room ending k p

  body_piled : Piled ending (Returning 0 ∷ k)
  body_piled = (tt, (let x : open_on ending k ≤ limit_on ending k = within in omega (arith, x)), p)

  abbrev Bodied : Option Focus → Type 0
  Bodied None = Unit {0}
  Bodied (Some f) = Standing ending f (Returning 0 ∷ k)

  quiet_body : (f : Focus) → QuietFocus f → Standing ending f (Returning 0 ∷ k)
  quiet_body f q = InBuiltIn q (p, within)

  operates_so : (o : Operation) (vs : List Value) → GoodEach vs → Standing ending (Ready (action.Operate o) vs) (Returning 0 ∷ k)
  operates_so o vs h = quiet_body (Ready (action.Operate o) vs) (tt, h)

  abbrev MaybeEach : Option (List Value) → Type 0
  MaybeEach None = Unit {0}
  MaybeEach (Some vs) = GoodEach vs

  elements_good : (v : Value) → Good v → MaybeEach (elements v)
  elements_good (Made Array inside) h = listed_good inside h
  elements_good _ h = tt

  each_good : (a : Action) → IsQuiet a → (o : Option (List Value)) → MaybeEach o → Bodied (each a o)
  each_good a q None h = tt
  each_good a q (Some vs) h = quiet_body _ ((tt, each_quiet a q 0 vs), gathered_good vs h)

  called_good : (f : Value) → Good f → (o : Option ℕ) → Bodied (sized (calls_code 0) (AValue f NoValue) o)
  called_good f h None = tt
  called_good f h (Some n) = busy_code ending (Returning 0 ∷ k) body_piled _ _ (calls_sized 0 n) (h, tt) (omega (arith, calls_light ending 0 n))

  filled_good : (v : Value) → Good v → (o : Option ℕ) → Bodied (sized cells_code (AValue v NoValue) o)
  filled_good v h None = tt
  filled_good v h (Some n) = quiet_body _ ((tt, cells_quiet n), (h, tt))

  body_good : (m : Member) (hs vs : List Value) → GoodEach hs → GoodEach vs → Bodied (body_of m hs vs)
  body_good member.DebugPrint [] vs g h = busy_ready ending (Returning 0 ∷ k) body_piled action.Print vs h
  body_good member.DebugTrap [] vs g h = operates_so op.Trap vs h
  body_good member.ErrorReject [] vs g h = operates_so op.RejectError vs h
  body_good member.ErrorMessage [] vs g h = operates_so op.Message vs h
  body_good member.ErrorCode [] vs g h = operates_so op.Code vs h
  body_good member.NatToText [] vs g h = operates_so _ vs h
  body_good member.IntToText [] vs g h = operates_so _ vs h
  body_good member.PrincipalFromActor [] vs g h = operates_so op.PrincipalOf vs h
  body_good member.ArrayTabulate [] (n ∷ f ∷ []) g h = called_good f h.1.0 (natural_of (shape_of n))
  body_good member.ArrayInit [] (n ∷ v ∷ []) g h = filled_good v h.1.0 (natural_of (shape_of n))
  body_good member.ArrayFreeze [] (a ∷ []) g h = each_good action.Read tt (elements a) (elements_good a h.0)
  body_good member.ArrayThaw [] (a ∷ []) g h = each_good action.New tt (elements a) (elements_good a h.0)
  body_good member.ArraySize (a ∷ []) [] g h = operates_so op.ArraySize (a ∷ []) g
  body_good member.ArrayVals (a ∷ []) [] g h = quiet_body _ (iterator_quiet member.NextVal, (g.0, tt))
  body_good member.ArrayKeys (a ∷ []) [] g h = quiet_body _ (iterator_quiet member.NextKey, (g.0, tt))
  body_good member.TextSize (t ∷ []) [] g h = operates_so op.TextSize (t ∷ []) g
  body_good member.TextChars (t ∷ []) [] g h = quiet_body _ (iterator_quiet member.NextChar, (g.0, tt))
  body_good member.NextVal (a ∷ place ∷ []) [] g h = quiet_body _ (next_quiet (element_code (is_mutable a)) (element_quiet (is_mutable a)), (g.0, (g.1.0, tt)))
  body_good member.NextKey (a ∷ place ∷ []) [] g h = quiet_body _ (next_quiet (λ i. i) tt, (g.0, (g.1.0, tt)))
  body_good _ _ _ g h = tt

  module _ (Waiting : Type 0) (Jumps : Value → Type 0) (store : Store) (s : GoodEach store) where
    abbrev Does : Act → Type 0
    Does m = Acts ending Waiting Jumps k m

    next_at : (t place : Value) → Good place → (o : Option Bytes) (i : Option ℕ) → Does (next_char_at store t place o i)
    next_at t place h (Some bytes) (Some i) = (s, quiet_body _ (char_quiet i (slice_get (chars bytes) i), (h, tt)), omega arith)
    next_at t place h (Some bytes) None = tt
    next_at t place h None i = tt

    by_body : (o : Option Focus) → Bodied o → Does (in_frame store o)
    by_body None h = tt
    by_body (Some f) h = (s, h, omega arith)

    called_so : (m : Member) (hs vs : List Value) → GoodEach hs → GoodEach vs → Does (in_frame store (body_of m hs vs))
    called_so m hs vs g h = by_body (body_of m hs vs) (body_good m hs vs g h)

    pub member_good : (m : Member) (hs vs : List Value) → GoodEach hs → GoodEach vs → Does (call_member store m hs vs)
    member_good member.NextChar (t ∷ place ∷ []) [] g h = next_at t place g.1.0 (text_of (shape_of t)) (number_in (held store (cell_of place)))
    member_good m hs vs g h = called_so m hs vs g h
