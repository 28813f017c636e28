-- Each step of structured code is some steps of low code.
use Rattle.std.proofs.Common.{◌≡◌, ◌⊎◌, inl, inr, ℕ, zero, suc, ◌+◌, ◌*◌, ◌≤◌, List, [], ◌∷◌, length, Option, refl, sym, ap, subst, arith}
use Rattle.mo_values.specs.Shapes.{Bytes}
use Rattle.wasm_tree.specs.declared.trap.Trap.TheVariants as trap
use Rattle.wasm_tree.specs.Exec.{Host, Store}
use Rattle.core_ir.specs.declared.primitive.Primitive.{Primitive}
use Rattle.core_ir.specs.declared.primitive.Constructor.TheVariants.{Present, Tagged}
use Rattle.core_ir.specs.declared.code.Operand.{Operand}
use Rattle.core_ir.specs.Primitives.{perform}
use Rattle.core_ir.specs.Worlds.{World, Context}
use Rattle.core_ir.specs.Code.{Code, Stop, Let, If, Match, Loop, Label, Branch, Leave, Pass, Make, Call, Tabulate, Send, Wait, Raise, Return, CodeProgram}
use Rattle.core_ir.specs.CodeMachine as flat
use Rattle.core_ir.specs.CodeMachine.{Within, Again, Frame, Did, at, values, settle, branch, instruct, depth_of}
use Rattle.low_ir.specs.Tree as low
use Rattle.low_ir.specs.Tree.{Module}
use Rattle.low_ir.specs.Meaning.{Called, Outcome, Breaks, onward, turns, run}
use Rattle.low_ir.specs.Frames.{finish}
use Rattle.code_sequences.specs.Places.{Around, After, Turning, Place, calls_of, resume, whole, closes}
use Rattle.code_sequences.specs.Places as places
use Rattle.memory_routines.specs.Heaps.{heap_end, pages_for}
use Rattle.heap_layout.specs.Ghosts.{Ghost}
use Rattle.heap_layout.specs.Heaps.{Plan}
use Rattle.flat_emission.specs.Emission.{Linkage, Here, emit}
use Rattle.emitted_steps.specs.Operations.{Light, AllKeep, AllocationKeeps}
use Rattle.emitted_steps.specs.Modules.{FunctionsAre}
use Rattle.emitted_steps.specs.States.{Fits, Arounds, Held}
use Rattle.emitted_steps.specs.Shortage.{IsShort, StepsRunOut}
use Rattle.emitted_steps.specs.Steps.{Turn, Usual, Anew, rest_of, Moves, Lacks, own_steps}
use Rattle.emitted_steps.specs.Laws.{Asked, StepsAreFollowed}
use Rattle.emitted_steps.proofs.Control.{Follows, calls, moved, rest_is, are_paid, label_moves, loop_moves, branch_matches, jump_short}
use Rattle.emitted_steps.proofs.Short.{closed_short, out_now}
use Rattle.emitted_steps.proofs.Operands.{values_length}
use Rattle.emitted_steps.proofs.Ready.{return_matches}
use Rattle.emitted_steps.proofs.Light.{light}
use Rattle.emitted_steps.proofs.Lets.{let_matches}
use Rattle.emitted_steps.proofs.Ifs.{if_matches}
use Rattle.emitted_steps.proofs.Matching.{match_matches}
use Rattle.emitted_steps.proofs.Variants.{variant_matches}
use Rattle.emitted_steps.proofs.Calls.{call_matches}
use Rattle.emitted_steps.proofs.Makes.{make_matches}

module _ (plan : Plan) (link : Linkage) (table : List (Option ℕ)) (sees : ℕ → ℕ) (program : CodeProgram) (context : Context) {W : Type 0} (pages : ℕ) (m : Module) (host : Host W) (told fell : W → Bytes → W) (prints_of : W → List Bytes) (out : StepsRunOut pages m host told fell prints_of) (unit_steps total roof : ℕ)
    (keep : AllKeep plan told fell unit_steps context.head pages roof m host link) (allocates : AllocationKeeps pages m host link) (low_roof : roof ≤ heap_end) (few_pages : pages_for roof ≤ pages) (are : FunctionsAre plan link table sees context.globals m program) (world : World) (g : Ghost) (top : ℕ) (f : Frame) (cs : List flat.Caller) where
  abbrev IsHeld : List flat.Around → Code → Place W → Type 0
  IsHeld ks code c = Held plan link table sees context total g world (at code ks f cs) c top

  abbrev R : (here : Here) (code : Code) (c : Place W) → Turn code c → Called W
  R here code c turn = rest_of plan link table sees context pages m host told fell prints_of unit_steps total roof here code c turn

  abbrev F : Place W → Called W → Did → Type 0
  F c before d = Follows plan link table sees context pages m host told fell prints_of unit_steps total roof (16 + f.body.nodes + depth_of cs) before c.left top c.store.world d

  -- a primitive has few operands for its weight
  few_operands : (p : Primitive) (xs : List Operand) → Light (length xs) (perform context.head world.store p (values context.globals f xs))
  few_operands p xs = subst (λ n. Light n (perform context.head world.store p (values context.globals f xs))) (values_length context.globals f xs) (light context.head world.store p (values context.globals f xs))

  -- ---- what takes one step of its own

  abbrev Short : Place W → Called W → Type 0
  Short c before = IsShort prints_of before c.left ((own_steps + unit_steps) * 1) c.store.world

  abbrev G : Place W → Called W → List flat.Around → Code → Type 0
  G c before ks code = Moves plan link table sees context pages m host told fell prints_of unit_steps total roof before c.left top c.store.world 1 [] world (at code ks f cs) ⊎ Lacks plan link table sees context pages m host told fell prints_of unit_steps total roof before c.left top 1 c.store.world

  -- no step is left for it
  none_left : (c : Place W) (before : Called W) (o : Outcome W) → c.left ≡ 0 → before ≡ closes pages m host c o → o ≡ Breaks trap.Steps c.store → Short c before
  none_left c before o e same breaks =
      closed_short prints_of pages m host c before o c.left ((own_steps + unit_steps) * 1) c.store.world same (let p = are_paid 1 unit_steps 1 (omega arith) (omega arith) in omega (arith, e, p)) (out_now prints_of o c.store breaks)

  loops : (ks : List flat.Around) (b r : Code) (c : Place W) (h : IsHeld ks (Loop b r) c) (turn : Turn (Loop b r) c) (n : ℕ) → c.left ≡ n → G c (R h.here (Loop b r) c turn) (Again b r ∷ ks) b
  loops ks b r c h turn (suc n) e = inl (loop_moves plan link table sees context pages m host told fell prints_of unit_steps total roof (16 + f.body.nodes + depth_of cs) world g top ks f cs c b r h turn n e)
  loops ks b r c h Usual zero e =
      inr (inl (none_left c (places.rest_of pages m host c) (run pages m (calls pages m host c) (low.Loop (emit plan link h.here b) (emit plan link h.here r)) (record { left = 0; store = c.store; locals = c.locals })) e
      (rest_is pages m host c (low.Loop (emit plan link h.here b) (emit plan link h.here r)) 0 h.code e) refl))
  loops ks b r c h (Anew zero b' r' q lt) zero e = absurd (omega (arith, lt))
  loops ks b r c h (Anew (suc most) b' r' q lt) zero e =
      inr (inl (none_left c (R h.here (Loop b r) c (Anew (suc most) b' r' q lt)) (onward (turns (suc most) (run pages m (calls pages m host c) (emit plan link h.here b')) (record { left = 0; store = c.store; locals = c.locals })) (run pages m (calls pages m host c) (emit plan link h.here r'))) e
      (ap (λ left. closes pages m host c (onward (turns (suc most) (run pages m (calls pages m host c) (emit plan link h.here b')) (record { left = left; store = c.store; locals = c.locals })) (run pages m (calls pages m host c) (emit plan link h.here r')))) e) refl))

  labels : (ks : List flat.Around) (b r : Code) (c : Place W) (h : IsHeld ks (Label b r) c) (n : ℕ) → c.left ≡ n → G c (places.rest_of pages m host c) (Within r ∷ ks) b
  labels ks b r c h (suc n) e = inl (label_moves plan link table sees context pages m host told fell prints_of unit_steps total roof (16 + f.body.nodes + depth_of cs) world g top ks f cs c b r h n e)
  labels ks b r c h zero e =
      inr (inl (none_left c (places.rest_of pages m host c) (run pages m (calls pages m host c) (low.Block (emit plan link h.here b) (emit plan link h.here r)) (record { left = 0; store = c.store; locals = c.locals })) e
      (rest_is pages m host c (low.Block (emit plan link h.here b) (emit plan link h.here r)) 0 h.code e) refl))

  branches : (ks : List flat.Around) (l : ℕ) (c : Place W) (h : IsHeld ks (Branch l) c) (n : ℕ) → c.left ≡ n → F c (places.rest_of pages m host c) (branch world l ks f cs)
  branches ks l c h (suc n) e = branch_matches plan link table sees context pages m host told fell prints_of unit_steps total roof (16 + f.body.nodes + depth_of cs) world g top l ks f cs c h n e
  branches ks l c h zero e =
      jump_short plan link table sees context pages m host told fell prints_of unit_steps total roof (16 + f.body.nodes + depth_of cs) world top c.left c.store.world (places.rest_of pages m host c)
      (none_left c (places.rest_of pages m host c) (run pages m (calls pages m host c) (low.Branch l) (record { left = 0; store = c.store; locals = c.locals })) e (rest_is pages m host c (low.Branch l) 0 h.code e) refl) l ks f cs

  -- an instruction
  instructs : (ks : List flat.Around) (code : Code) (c : Place W) (h : IsHeld ks code c) (turn : Turn code c) → Asked context f code → F c (R h.here code c turn) (instruct program context world code ks f cs)
  instructs ks Stop c h turn asked = tt
  instructs ks (Let t p xs rest) c h Usual asked =
      let_matches plan link table sees context pages m host told fell prints_of out unit_steps total roof keep world g top ks f cs c t p xs rest h (perform context.head world.store p (values context.globals f xs)) refl (few_operands p xs)
  instructs ks (Let t p xs rest) c h (Anew most b r e lt) asked = absurd (cc e)
  instructs ks (If p xs y n rest) c h Usual asked =
      if_matches plan link table sees context pages m host told fell prints_of out unit_steps total roof keep world g top ks f cs c p xs y n rest h (perform context.head world.store p (values context.globals f xs)) refl (few_operands p xs)
  instructs ks (If p xs y n rest) c h (Anew most b r e lt) asked = absurd (cc e)
  instructs ks (Match t Present x y n rest) c h Usual asked =
      match_matches plan link table sees context pages m host told fell prints_of out unit_steps total roof (16 + f.body.nodes + depth_of cs) world g top ks f cs c t x y n rest h
  instructs ks (Match t Present x y n rest) c h (Anew most b r e lt) asked = absurd (cc e)
  instructs ks (Match t (Tagged l) x y n rest) c h Usual asked =
      variant_matches plan link table sees context pages m host told fell prints_of out unit_steps total roof (16 + f.body.nodes + depth_of cs) world g top ks f cs c t l x y n rest h asked
  instructs ks (Match t (Tagged l) x y n rest) c h (Anew most b r e lt) asked = absurd (cc e)
  instructs ks (Loop b r) c h turn asked = λ levels over. loops ks b r c h turn c.left refl
  instructs ks (Label b r) c h Usual asked = λ levels over. labels ks b r c h c.left refl
  instructs ks (Label b r) c h (Anew most b' r' e lt) asked = absurd (cc e)
  instructs ks (Branch l) c h Usual asked = branches ks l c h c.left refl
  instructs ks (Branch l) c h (Anew most b r e lt) asked = absurd (cc e)
  instructs ks (Return x) c h Usual asked =
      return_matches plan link table sees context pages m host told fell prints_of out unit_steps total roof (16 + f.body.nodes + depth_of cs) world g top ks f cs c program x h
  instructs ks (Return x) c h (Anew most b r e lt) asked = absurd (cc e)
  instructs ks (Make t seen code rest) c h Usual asked =
      make_matches plan link table sees program context pages m host told fell prints_of out unit_steps total roof (16 + f.body.nodes + depth_of cs) allocates low_roof few_pages are world g top ks f cs c t seen code rest h
  instructs ks (Make t seen code rest) c h (Anew most b r e lt) asked = absurd (cc e)
  instructs ks (Call t g' xs rest) c h Usual asked =
      call_matches plan link table sees program context pages m host told fell prints_of out unit_steps total roof (16 + f.body.nodes + depth_of cs) are world g top ks f cs c t g' xs rest h
  instructs ks (Call t g' xs rest) c h (Anew most b r e lt) asked = absurd (cc e)
  instructs ks (Leave j) c h turn asked = absurd h.fits
  instructs ks (Pass t x j) c h turn asked = absurd h.fits
  instructs ks (Tabulate t n g' rest) c h turn asked = absurd h.fits
  instructs ks (Send t s g' xs hd rest) c h turn asked = absurd h.fits
  instructs ks (Wait t x hd j) c h turn asked = absurd h.fits
  instructs ks (Raise x hd) c h turn asked = absurd h.fits

  -- ---- the end of a construct is no step of either

  abbrev S : List flat.Around → Code → Did
  S ks code = instruct program context world (settle ks code).code (settle ks code).around f cs

  abbrev behind : Around → low.Code
  behind (After rest) = rest
  behind (Turning most body rest) = rest

  outward : (c : Place W) (ls : List Around) (k : Around) → c.code ≡ low.Stop → c.around ≡ k ∷ ls → places.rest_of pages m host c ≡ places.rest_of pages m host (moved pages m host c (behind k) c.left c.store c.locals ls)
  outward c ls (After r) e a = λ i. whole pages m host c.callers (finish c.type (resume pages m host (calls_of pages m host c.deep c.room) (a i) (run pages m (calls_of pages m host c.deep c.room) (e i) (record { left = c.left; store = c.store; locals = c.locals }))))
  outward c ls (Turning most body r) e a = λ i. whole pages m host c.callers (finish c.type (resume pages m host (calls_of pages m host c.deep c.room) (a i) (run pages m (calls_of pages m host c.deep c.room) (e i) (record { left = c.left; store = c.store; locals = c.locals }))))

  -- the place where the code goes on
  abbrev onward_held : (r : Code) (k : flat.Around) (ks : List flat.Around) (c : Place W) (h : IsHeld (k ∷ ks) Stop c) (code : low.Code) (ls : List Around) → code ≡ emit plan link h.here r → Fits plan link context.globals sees h.here (length f.seen) r
      → Arounds plan link context.globals sees h.here (length f.seen) c.left ks ls → IsHeld ks r (moved pages m host c code c.left c.store c.locals ls)
  onward_held r k ks c h code ls e fits a = record { here = h.here; code = e; fits = fits; frame = h.frame; around = a; callers = h.callers; heap = h.heap; names = h.names; groups = h.groups; table_is = h.table_is; results = h.results; room = h.room; deep = h.deep; within = h.within }

  ends_within : (r : Code) (ks : List flat.Around) (c : Place W) (h : IsHeld (Within r ∷ ks) Stop c) (B : Called W → Type 0) (ls : List Around) → c.around ≡ ls → Arounds plan link context.globals sees h.here (length f.seen) c.left (Within r ∷ ks) ls
      → ((c' : Place W) → IsHeld ks r c' → c'.left ≡ c.left → c'.store ≡ c.store → B (places.rest_of pages m host c')) → B (places.rest_of pages m host c)
  ends_within r ks c h B [] e a go = absurd a
  ends_within r ks c h B (Turning most body rest ∷ ls) e a go = absurd a
  ends_within r ks c h B (After rest ∷ ls) e a go = subst B (sym (outward c ls (After rest) h.code e)) (go (moved pages m host c rest c.left c.store c.locals ls) (onward_held r (Within r) ks c h rest ls a.0 a.1 a.2) refl refl)

  ends_again : (b r : Code) (ks : List flat.Around) (c : Place W) (h : IsHeld (Again b r ∷ ks) Stop c) (B : Called W → Type 0) (ls : List Around) → c.around ≡ ls → Arounds plan link context.globals sees h.here (length f.seen) c.left (Again b r ∷ ks) ls
      → ((c' : Place W) → IsHeld ks r c' → c'.left ≡ c.left → c'.store ≡ c.store → B (places.rest_of pages m host c')) → B (places.rest_of pages m host c)
  ends_again b r ks c h B [] e a go = absurd a
  ends_again b r ks c h B (After rest ∷ ls) e a go = absurd a
  ends_again b r ks c h B (Turning most body rest ∷ ls) e a go = subst B (sym (outward c ls (Turning most body rest) h.code e)) (go (moved pages m host c rest c.left c.store c.locals ls) (onward_held r (Again b r) ks c h rest ls a.2 a.4 a.5) refl refl)

  -- with the same steps left and the same store
  goes_on : (r : Code) (ks : List flat.Around) (c c' : Place W) → c'.left ≡ c.left → c'.store ≡ c.store → F c' (places.rest_of pages m host c') (S ks r) → F c (places.rest_of pages m host c') (S ks r)
  goes_on r ks c c' l s go =
      let B : ℕ → W → Type 0 = λ left w. Follows plan link table sees context pages m host told fell prints_of unit_steps total roof (16 + f.body.nodes + depth_of cs) (places.rest_of pages m host c') left top w (S ks r) in
      subst (λ left. B left c.store.world) l (subst (λ (store : Store W). B c'.left store.world) s go)

  pub settled : (ks : List flat.Around) (code : Code) (c : Place W) (h : IsHeld ks code c) (turn : Turn code c) → Asked context f (settle ks code).code → F c (R h.here code c turn) (S ks code)
  settled [] code c h turn asked = instructs [] code c h turn asked
  settled (Within r ∷ ks) Stop c h (Anew most b r' e lt) asked = absurd (cc e)
  settled (Again b r ∷ ks) Stop c h (Anew most b' r' e lt) asked = absurd (cc e)
  settled (Within r ∷ ks) Stop c h Usual asked =
      ends_within r ks c h (λ o. F c o (S ks r)) c.around refl h.around (λ c' h' l s. goes_on r ks c c' l s (settled ks r c' h' Usual asked))
  settled (Again b r ∷ ks) Stop c h Usual asked =
      ends_again b r ks c h (λ o. F c o (S ks r)) c.around refl h.around (λ c' h' l s. goes_on r ks c c' l s (settled ks r c' h' Usual asked))
  settled (k ∷ ks) code c h turn asked = instructs (k ∷ ks) code c h turn asked

pub steps_followed : (W : Type 0) → StepsAreFollowed W
steps_followed W plan link table sees program context pages m host told fell prints_of unit_steps total roof out keep allocates low_roof few_pages are world s g c top h turn asked =
    settled plan link table sees program context pages m host told fell prints_of out unit_steps total roof keep allocates low_roof few_pages are world g top s.frame s.callers s.around s.code c h turn asked
