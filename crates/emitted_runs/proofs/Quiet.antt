-- The last step of an execution prints nothing.
use Rattle.std.proofs.Common.{◌≡◌, ℕ, zero, suc, List, [], ◌∷◌, Bool, true, false, cond, Option, Some, None, ◌+◌, ◌++◌, length, nat_eq, slice_get, refl}
use Rattle.core_ir.specs.declared.code.Handler.{Handler}
use Rattle.core_ir.specs.declared.code.Way.{Way}
use Rattle.core_ir.specs.declared.code.Way.TheVariants as way
use Rattle.core_ir.specs.Calls.{Sent, Sends, Refused, TooLong, NoCall, sent, Awaited, Suspends, NoRoom, NoFuture, awaited, refusal}
use Rattle.core_ir.specs.Choices.{on_some, choose}
use Rattle.core_ir.specs.Code.{Code, Stop, Let, If, Match, Loop, Label, Branch, Leave, Pass, Make, Call, Tabulate, Send, Wait, Raise, Return, Body, CodeProgram}
use Rattle.core_ir.specs.CodeMachine.{Around, Within, Again, Frame, Caller, Waiting, Did, State, stuck, operated, chosen, matched, branch, onto, by_way, rejected, raise, asked, suspended, waits, entered, called, caller_with, made_in, at, go, put, first_of, frame_of, gather, handed, back, tabulated, instruct, step, values, settle}
use Rattle.core_ir.specs.CodeMachine as machine
use Rattle.core_ir.specs.Executions.{Go, Ends, heavier}
use Rattle.core_ir.specs.Gatherings.{Gathering}
use Rattle.core_ir.specs.Openings.{Opened, Inside, Otherwise, NotOne, opened}
use Rattle.core_ir.specs.Primitives as done
use Rattle.core_ir.specs.Primitives.{Done, Gives, Prints, Fails, perform}
use Rattle.core_ir.specs.Values.{Value, number, handle_of}
use Rattle.core_ir.specs.Worlds.{World, Context, with_store}
use Rattle.mo_values.specs.Costs.{Cost}
use Rattle.mo_values.specs.Views.{flag_of, natural_of}

abbrev pub Quiet : Did → Type 0
Quiet (Go cost prints world s) = Unit {0}
Quiet (Ends cost prints world end) = prints ≡ []

quiet_some : {A : Type 0} (none : Did) (o : Option A) (f : A → Did) → Quiet none → ((a : A) → Quiet (f a)) → Quiet (on_some none o f)
quiet_some none None f n k = n
quiet_some none (Some a) f n k = k a

quiet_if : (t : Bool) (a b : Did) → Quiet a → Quiet b → Quiet (cond t a b)
quiet_if true a b p q = p
quiet_if false a b p q = q

quiet_heavier : (n : ℕ) (x : Did) → Quiet x → Quiet (heavier n x)
quiet_heavier n (Go cost prints world s) q = tt
quiet_heavier n (Ends cost prints world end) q = q

quiet_operated : (world : World) (t : ℕ) (c : Code) (ks : List Around) (f : Frame) (cs : List Caller) (d : Done) → Quiet (operated world t c ks f cs d)
quiet_operated world t c ks f cs (Gives cost v store) = tt
quiet_operated world t c ks f cs (Prints cost text) = tt
quiet_operated world t c ks f cs (Fails cost text) = refl
quiet_operated world t c ks f cs done.Stuck = refl

quiet_chosen : (world : World) (y n c : Code) (ks : List Around) (f : Frame) (cs : List Caller) (d : Done) → Quiet (chosen world y n c ks f cs d)
quiet_chosen world y n c ks f cs (Gives cost v store) = quiet_some (stuck world) (flag_of v) (λ b. Go cost [] (with_store world store) (at (choose b y n) (Within c ∷ ks) f cs)) refl (λ b. tt {0})
quiet_chosen world y n c ks f cs (Prints cost text) = refl
quiet_chosen world y n c ks f cs (Fails cost text) = refl
quiet_chosen world y n c ks f cs done.Stuck = refl

quiet_matched : (world : World) (t : ℕ) (y n c : Code) (ks : List Around) (f : Frame) (cs : List Caller) (o : Opened) → Quiet (matched world t y n c ks f cs o)
quiet_matched world t y n c ks f cs (Inside v) = tt
quiet_matched world t y n c ks f cs Otherwise = tt
quiet_matched world t y n c ks f cs NotOne = refl

quiet_branch : (world : World) (l : ℕ) (ks : List Around) (f : Frame) (cs : List Caller) → Quiet (branch world l ks f cs)
quiet_branch world l [] f cs = refl
quiet_branch world zero (Within r ∷ ks) f cs = tt
quiet_branch world zero (Again b r ∷ ks) f cs = tt
quiet_branch world (suc l) (k ∷ ks) f cs = quiet_branch world l ks f cs

quiet_onto : (world : World) (j : ℕ) (f : Frame) (cs : List Caller) → Quiet (onto world j f cs)
quiet_onto world j f cs = quiet_some (stuck world) (slice_get f.body.segments j) (λ c. go 1 world c [] f cs) refl (λ c. tt {0})

quiet_by : (world : World) (w : Way) (ks : List Around) (f : Frame) (cs : List Caller) → Quiet (by_way world w ks f cs)
quiet_by world (way.Near l) ks f cs = quiet_branch world l ks f cs
quiet_by world (way.Far j) ks f cs = quiet_onto world j f cs

quiet_rejected : (world : World) (v : Value) (cs : List Caller) → Quiet (rejected world v cs)
quiet_rejected world v [] = refl
quiet_rejected world v (c ∷ cs) = refl

quiet_raise : (world : World) (v : Value) (h : Option Handler) (ks : List Around) (f : Frame) (cs : List Caller) → Quiet (raise world v h ks f cs)
quiet_raise world v None ks f cs = quiet_rejected world v cs
quiet_raise world v (Some h) ks f cs = quiet_by world h.way ks (put f h.slot v) cs

quiet_asked : (world : World) (t : ℕ) (h : Option Handler) (c : Code) (ks : List Around) (f : Frame) (cs : List Caller) (s : Sent) → Quiet (asked world t h c ks f cs s)
quiet_asked world t h c ks f cs (Sends cost world' future) = tt
quiet_asked world t h c ks f cs Refused = quiet_raise world refusal h ks f cs
quiet_asked world t h c ks f cs (TooLong cost) = refl
quiet_asked world t h c ks f cs NoCall = refl

quiet_suspended : (world : World) (cost : Cost) (on : Option ℕ) (w : Waiting) (cs : List Caller) → Quiet (suspended world cost on w cs)
quiet_suspended world cost on w [] = refl
quiet_suspended world cost on w (c ∷ cs) = refl

quiet_waits : (world : World) (t : ℕ) (h : Option Handler) (j : ℕ) (ks : List Around) (f : Frame) (cs : List Caller) (a : Awaited) → Quiet (waits world t h j ks f cs a)
quiet_waits world t h j ks f cs (Suspends cost world' on) = quiet_suspended world' cost on (record { frame = f; to = t; handler = h; segment = j }) cs
quiet_waits world t h j ks f cs NoRoom = quiet_raise world refusal h ks f cs
quiet_waits world t h j ks f cs NoFuture = refl

module _ (program : CodeProgram) (context : Context) where
  quiet_entered : (world : World) (g : ℕ) (vs seen : List Value) (c : Caller) (cs : List Caller) (bodies : List Body) (m : ℕ) → Quiet (entered program context world g vs seen c cs bodies m)
  quiet_entered world g vs seen c cs bodies m =
      quiet_some (stuck world) (slice_get bodies m) (λ b. cond (nat_eq (length vs) b.parameters) (go (1 + b.nodes) world (first_of b.segments) [] (frame_of b g seen vs) (c ∷ cs)) (stuck world)) refl
      (λ b. quiet_if (nat_eq (length vs) b.parameters) (go (1 + b.nodes) world (first_of b.segments) [] (frame_of b g seen vs) (c ∷ cs)) (stuck world) (tt {0}) refl)

  quiet_called : (world : World) (v : Value) (vs : List Value) (c : Caller) (cs : List Caller) → Quiet (called program context world v vs c cs)
  quiet_called world v vs c cs =
      quiet_some (stuck world) (handle_of v) (λ h. on_some (stuck world) (slice_get world.groups h.group) (λ made. on_some (stuck world) (slice_get program.groups made.code) (λ group. entered program context world h.group vs made.seen c cs group.bodies h.member))) refl
      (λ h. quiet_some (stuck world) (slice_get world.groups h.group) (λ made. on_some (stuck world) (slice_get program.groups made.code) (λ group. entered program context world h.group vs made.seen c cs group.bodies h.member)) refl
      (λ made. quiet_some (stuck world) (slice_get program.groups made.code) (λ group. entered program context world h.group vs made.seen c cs group.bodies h.member) refl
      (λ group. quiet_entered world h.group vs made.seen c cs group.bodies h.member)))

  quiet_gather : (world : World) (v : Value) (next left : ℕ) (vs : List Value) (t : ℕ) (c : Code) (ks : List Around) (f : Frame) (cs : List Caller) → Quiet (gather program context world v next left vs t c ks f cs)
  quiet_gather world v next zero vs t c ks f cs = tt
  quiet_gather world v next (suc left) vs t c ks f cs =
      quiet_called world v (number next ∷ []) (caller_with program context t c ks f (Some (record { function = v; next = suc next; remaining = left; done = vs }))) cs

  quiet_handed : (world : World) (v : Value) (g : Option Gathering) (c : Caller) (cs : List Caller) → Quiet (handed program context world v g c cs)
  quiet_handed world v None c cs = tt
  quiet_handed world v (Some g) c cs =
      quiet_heavier 1 (gather program context world g.function g.next g.remaining (g.done ++ v ∷ []) c.to c.rest c.around c.frame cs) (quiet_gather world g.function g.next g.remaining (g.done ++ v ∷ []) c.to c.rest c.around c.frame cs)

  quiet_back : (world : World) (v : Value) (cs : List Caller) → Quiet (back program context world v cs)
  quiet_back world v [] = refl
  quiet_back world v (c ∷ cs) = quiet_handed world v c.gathering c cs

  quiet_instruct : (world : World) (c : Code) (ks : List Around) (f : Frame) (cs : List Caller) → Quiet (instruct program context world c ks f cs)
  quiet_instruct world Stop ks f cs = refl
  quiet_instruct world (Let t p xs c) ks f cs = quiet_operated world t c ks f cs (perform context.head world.store p (values context.globals f xs))
  quiet_instruct world (If p xs y n c) ks f cs = quiet_chosen world y n c ks f cs (perform context.head world.store p (values context.globals f xs))
  quiet_instruct world (Match t k x y n c) ks f cs = quiet_matched world t y n c ks f cs (opened k (machine.value context.globals f x))
  quiet_instruct world (Loop b c) ks f cs = tt
  quiet_instruct world (Label b c) ks f cs = tt
  quiet_instruct world (Branch l) ks f cs = quiet_branch world l ks f cs
  quiet_instruct world (Leave j) ks f cs = quiet_onto world j f cs
  quiet_instruct world (Pass t x j) ks f cs = quiet_onto world j (put f t (machine.value context.globals f x)) cs
  quiet_instruct world (Make t seen code c) ks f cs =
      quiet_some (stuck world) (slice_get program.groups code) (λ group. made_in program context world t (values context.globals f seen) code c ks f cs group.bodies) refl (λ group. tt {0})
  quiet_instruct world (Call t g xs c) ks f cs = quiet_called world (machine.value context.globals f g) (values context.globals f xs) (caller_with program context t c ks f None) cs
  quiet_instruct world (Tabulate t n g c) ks f cs =
      quiet_some (stuck world) (natural_of (machine.value context.globals f n)) (λ k. heavier 1 (gather program context world (machine.value context.globals f g) 0 k [] t c ks f cs)) refl
      (λ k. quiet_heavier 1 (gather program context world (machine.value context.globals f g) 0 k [] t c ks f cs) (quiet_gather world (machine.value context.globals f g) 0 k [] t c ks f cs))
  quiet_instruct world (Send t s g xs h c) ks f cs = quiet_asked world t h c ks f cs (sent context world s (machine.value context.globals f g) (values context.globals f xs))
  quiet_instruct world (Wait t x h j) ks f cs = quiet_waits world t h j ks f cs (awaited context world f.body.nodes (machine.value context.globals f x))
  quiet_instruct world (Raise x h) ks f cs = quiet_raise world (machine.value context.globals f x) h ks f cs
  quiet_instruct world (Return x) ks f cs = quiet_back world (machine.value context.globals f x) cs

  pub quiet : (world : World) (s : State) → Quiet (step program context world s)
  quiet world s = quiet_instruct world (settle s.around s.code).code (settle s.around s.code).around s.frame s.callers
