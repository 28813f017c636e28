-- Converted code does, step by step and at the same cost, what the code before does.
use Rattle.std.proofs.Common.{◌≡◌, ℕ, zero, suc, ◌+◌, refl, sym, ap, ◌∙◌, subst, List, [], ◌∷◌, ◌++◌, length, map, Option, Some, None, Bool, true, false}
use Rattle.std.specs.Prelude.{cond, slice_get, nat_eq, nat_lt}
use Rattle.std.proofs.lemmas.List.{length-map, map-append}
use Rattle.mo_types.specs.Calls as table
use Rattle.mo_types.specs.Calls.{Open, Answered, Lost}
use Rattle.mo_values.specs.Costs.{Cost}
use Rattle.mo_values.specs.Shapes.{Bytes}
use Rattle.mo_values.specs.Views.{flag_of, natural_of}
use Rattle.core_ir.specs.declared.code.Handler.{Handler}
use Rattle.core_ir.specs.declared.code.Operand.{Operand}
use Rattle.core_ir.specs.declared.code.Operand.TheVariants.{Slot, Captured, Member, Global, Constant}
use Rattle.core_ir.specs.declared.code.Way.{Way}
use Rattle.core_ir.specs.declared.code.Way.TheVariants.{Near, Far}
use Rattle.core_ir.specs.Choices.{on_some, choose}
use Rattle.core_ir.specs.Values.{Handle, Value, members, number, handle_of, future_of, shared_of, SharedFunction, future}
use Rattle.core_ir.specs.Primitives as done
use Rattle.core_ir.specs.Primitives.{Done, Gives, Prints, Fails, perform}
use Rattle.core_ir.specs.Programs.{Group, Signature}
use Rattle.core_ir.specs.Worlds.{MadeGroup, Given, World, Context, with_store, with_group, with_request, open_now, next_call, state_now}
use Rattle.core_ir.specs.Executions.{Replies, Rejects, Waits, Traps, Breaks, Go, Ends, heavier}
use Rattle.core_ir.specs.Calls.{too_long, refusal, most_bytes, most_calls, message_cost, call_cost, Sent, Sends, Refused, TooLong, NoCall, sent, sent_to, sent_bytes, request_of, Awaited, Suspends, NoRoom, NoFuture, awaited, awaited_in, resumed_by}
use Rattle.core_ir.specs.Openings.{Opened, Inside, Otherwise, NotOne, opened}
use Rattle.core_ir.specs.Gatherings.{Gathering}
use Rattle.core_ir.specs.Code.{Code, Stop, Let, If, Match, Loop, Label, Branch, Leave, Pass, Make, Call, Tabulate, Send, Wait, Raise, Return, Body, CodeProgram, nodes_of}
use Rattle.core_ir.specs.CodeMachine.{Around, Within, Again, Frame, Caller, State, Did, value, values, put, frame_of, stuck, at, go, first_of, operated, chosen, matched, branch, onto, by_way, rejected, raise, asked, suspended, waits, settle, entered, called, caller_with, gather, handed, back, tabulated, made_in, instruct, step}
use Rattle.core_laws.specs.Uses.{picked}
use Rattle.core_laws.specs.Conversion.{convert, seen_as, convert_body, convert_group, converted}
use Rattle.core_laws.specs.Converted.{need, made_as, world_as}
use Rattle.core_laws.proofs.Seen.{SeesOperand, SeesOperands, Sees, SeesSegments, SeesBodies, SeesAround, segment_sees, body_sees, read_at}
use Rattle.core_laws.proofs.ConvertedStates.{mapped, got, filled_all, put_all_is, picked_values, around_as, seen_of, frame_as, caller_as, state_as, settle_as, nodes_same, got_group, Callers, Same, sent_as, awaited_as}

module _ (needs : List (List ℕ)) where
  module _ (world : World) where
    pub stuck_as : Same needs (stuck world) (stuck (world_as needs world))
    stuck_as = (Breaks, refl, refl)

    -- where something may be missing
    pub on_some_as : {A B : Type 0} (f : A → B) (o : Option A) (p : Option B) (k : A → Did) (l : B → Did) → p ≡ mapped f o
        → ((a : A) → o ≡ Some a → Same needs (k a) (l (f a))) → Same needs (on_some (stuck world) o k) (on_some (stuck (world_as needs world)) p l)
    on_some_as f None p k l e h = subst (λ p. Same needs (stuck world) (on_some (stuck (world_as needs world)) p l)) (sym e) stuck_as
    on_some_as f (Some a) p k l e h = subst (λ p. Same needs (k a) (on_some (stuck (world_as needs world)) p l)) (sym e) (h a refl)

    on_same : {A : Type 0} (o : Option A) (k l : A → Did) → ((a : A) → Same needs (k a) (l a)) → Same needs (on_some (stuck world) o k) (on_some (stuck (world_as needs world)) o l)
    on_same None k l h = stuck_as
    on_same (Some a) k l h = h a

    if_as : (b : Bool) (x y : Did) → Same needs x y → Same needs (cond b x (stuck world)) (cond b y (stuck (world_as needs world)))
    if_as true x y h = h
    if_as false x y h = stuck_as

  pub heavier_as : (n : ℕ) (x y : Did) → Same needs x y → Same needs (heavier n x) (heavier n y)
  heavier_as n (Go cost prints world s) y h = (h.0, h.1, ap (heavier n) (h.2), h.3, h.4, h.5, h.6)
  heavier_as n (Ends cost prints world e) y h = (h.0, ap (heavier n) (h.1), h.2)

  -- ---- calls of shared functions, and awaits

  module _ (context : Context) (world : World) where
    sent_bytes_as : (f : SharedFunction) (s : Signature) (vs : List Value) (bytes : Bytes) → sent_bytes context (world_as needs world) f s vs bytes ≡ sent_as needs (sent_bytes context world f s vs bytes)
    sent_bytes_as f s vs bytes = by (nat_lt most_bytes (length bytes))
      where
        by : (b : Bool) →
            cond b (TooLong (message_cost vs bytes)) (Sends (call_cost f.actor f.method vs bytes) (with_request (world_as needs world) (request_of context (world_as needs world) f s bytes)) (future (next_call context (world_as needs world))))
            ≡ sent_as needs (cond b (TooLong (message_cost vs bytes)) (Sends (call_cost f.actor f.method vs bytes) (with_request world (request_of context world f s bytes)) (future (next_call context world))))
        by true = refl
        by false = refl

    sent_to_as : (f : SharedFunction) (s : Signature) (vs : List Value) → sent_to context (world_as needs world) f s vs ≡ sent_as needs (sent_to context world f s vs)
    sent_to_as f s vs = room (nat_lt (open_now context world) most_calls)
      where
        spelled : (o : Option Bytes) → on_some NoCall o (sent_bytes context (world_as needs world) f s vs) ≡ sent_as needs (on_some NoCall o (sent_bytes context world f s vs))
        spelled None = refl
        spelled (Some bytes) = sent_bytes_as f s vs bytes

        room : (b : Bool) → cond b (on_some NoCall (context.message s.parameters vs) (sent_bytes context (world_as needs world) f s vs)) Refused
            ≡ sent_as needs (cond b (on_some NoCall (context.message s.parameters vs) (sent_bytes context world f s vs)) Refused)
        room true = spelled (context.message s.parameters vs)
        room false = refl

    pub same_sent : (s : Signature) (v : Value) (vs : List Value) → sent context (world_as needs world) s v vs ≡ sent_as needs (sent context world s v vs)
    same_sent s v vs = by (shared_of v)
      where
        by : (o : Option SharedFunction) → on_some NoCall o (λ f. sent_to context (world_as needs world) f s vs) ≡ sent_as needs (on_some NoCall o (λ f. sent_to context world f s vs))
        by None = refl
        by (Some f) = sent_to_as f s vs

    awaited_in_as : (nodes n : ℕ) (o : Option (table.State Given)) → awaited_in context (world_as needs world) nodes n o ≡ awaited_as needs (awaited_in context world nodes n o)
    awaited_in_as nodes n None = refl
    awaited_in_as nodes n (Some Open) = refl
    awaited_in_as nodes n (Some (Answered g)) = room (nat_lt (open_now context world) most_calls)
      where
        spelled : (o : Option Bytes) → on_some NoFuture o (resumed_by context (world_as needs world) nodes n) ≡ awaited_as needs (on_some NoFuture o (resumed_by context world nodes n))
        spelled None = refl
        spelled (Some bytes) = refl

        room : (b : Bool) → cond b (on_some NoFuture (context.message [] []) (resumed_by context (world_as needs world) nodes n)) NoRoom
            ≡ awaited_as needs (cond b (on_some NoFuture (context.message [] []) (resumed_by context world nodes n)) NoRoom)
        room true = spelled (context.message [] [])
        room false = refl
    awaited_in_as nodes n (Some Lost) = refl

    pub same_awaited : (nodes : ℕ) (v : Value) → awaited context (world_as needs world) nodes v ≡ awaited_as needs (awaited context world nodes v)
    same_awaited nodes v = by (future_of v)
      where
        by : (o : Option ℕ) → on_some NoFuture o (λ n. awaited_in context (world_as needs world) nodes n (state_now context (world_as needs world) n))
            ≡ awaited_as needs (on_some NoFuture o (λ n. awaited_in context world nodes n (state_now context world n)))
        by None = refl
        by (Some n) = awaited_in_as nodes n (state_now context world n)

  -- ---- steps within a body

  module _ (world : World) (used : List ℕ) (f : Frame) (cs cs' : List Caller) (fine : SeesSegments needs used f.body.segments) (outer : Callers needs cs cs') where
    abbrev pub cv : Code → Code
    cv = convert needs used

    abbrev pub ka : List Around → List Around
    ka = map (around_as needs used)

    abbrev pub fa : Frame
    fa = frame_as needs used f

    -- the frame with these slots, in both
    abbrev pub slots_of : List Value → Frame
    slots_of sl = record { body = f.body; group = f.group; seen = f.seen; slots = sl }

    abbrev pub slots_as : List Value → Frame
    slots_as sl = record { body = convert_body needs used f.body; group = f.group; seen = seen_of needs used f.seen; slots = sl }

    pub goes_as : (cost : Cost) (prints : List Bytes) (w : World) (c : Code) (ks : List Around) (sl : List Value) → Sees needs used c → SeesAround needs used ks
        → Same needs (Go cost prints w (at c ks (slots_of sl) cs)) (Go cost prints (world_as needs w) (at (cv c) (ka ks) (slots_as sl) cs'))
    goes_as cost prints w c ks sl hc hk = (used, cs', refl, hc, hk, fine, outer)

    operated_as : (t : ℕ) (c : Code) (ks : List Around) (d : Done) → Sees needs used c → SeesAround needs used ks
        → Same needs (operated world t c ks f cs d) (operated (world_as needs world) t (cv c) (ka ks) fa cs' d)
    operated_as t c ks (Gives cost v store) hc hk = goes_as cost [] _ c ks _ hc hk
    operated_as t c ks (Prints cost text) hc hk = goes_as cost _ _ c ks _ hc hk
    operated_as t c ks (Fails cost text) hc hk = (Traps text, refl, refl)
    operated_as t c ks done.Stuck hc hk = stuck_as world

    chosen_as : (y n c : Code) (ks : List Around) (d : Done) → Sees needs used y → Sees needs used n → Sees needs used c → SeesAround needs used ks
        → Same needs (chosen world y n c ks f cs d) (chosen (world_as needs world) (cv y) (cv n) (cv c) (ka ks) fa cs' d)
    chosen_as y n c ks (Gives cost v store) hy hn hc hk = on_same world (flag_of v) _ _ pick
      where
        pick : (b : Bool) → Same needs (Go cost [] (with_store world store) (at (choose b y n) (Within c ∷ ks) f cs))
            (Go cost [] (with_store (world_as needs world) store) (at (choose b (cv y) (cv n)) (Within (cv c) ∷ ka ks) fa cs'))
        pick true = goes_as cost [] _ y (Within c ∷ ks) _ hy (hc, hk)
        pick false = goes_as cost [] _ n (Within c ∷ ks) _ hn (hc, hk)
    chosen_as y n c ks (Prints cost text) hy hn hc hk = stuck_as world
    chosen_as y n c ks (Fails cost text) hy hn hc hk = (Traps text, refl, refl)
    chosen_as y n c ks done.Stuck hy hn hc hk = stuck_as world

    matched_as : (t : ℕ) (y n c : Code) (ks : List Around) (o : Opened) → Sees needs used y → Sees needs used n → Sees needs used c → SeesAround needs used ks
        → Same needs (matched world t y n c ks f cs o) (matched (world_as needs world) t (cv y) (cv n) (cv c) (ka ks) fa cs' o)
    matched_as t y n c ks (Inside v) hy hn hc hk = goes_as _ [] _ y (Within c ∷ ks) _ hy (hc, hk)
    matched_as t y n c ks Otherwise hy hn hc hk = goes_as _ [] _ n (Within c ∷ ks) _ hn (hc, hk)
    matched_as t y n c ks NotOne hy hn hc hk = stuck_as world

    branch_as : (l : ℕ) (ks : List Around) (sl : List Value) → SeesAround needs used ks
        → Same needs (branch world l ks (slots_of sl) cs) (branch (world_as needs world) l (ka ks) (slots_as sl) cs')
    branch_as l [] sl h = stuck_as world
    branch_as zero (Within r ∷ ks) sl h = goes_as _ [] world r ks sl (h.0) (h.1)
    branch_as zero (Again b r ∷ ks) sl h = goes_as _ [] world (Loop b r) ks sl (h.0, h.1) (h.2)
    branch_as (suc l) (Within r ∷ ks) sl h = branch_as l ks sl (h.1)
    branch_as (suc l) (Again b r ∷ ks) sl h = branch_as l ks sl (h.2)

    onto_as : (j : ℕ) (sl : List Value) → Same needs (onto world j (slots_of sl) cs) (onto (world_as needs world) j (slots_as sl) cs')
    onto_as j sl = on_some_as world cv (slice_get f.body.segments j) _ _ _ (got cv f.body.segments j) (λ c e. goes_as _ [] world c [] sl (segment_sees needs used f.body.segments j c fine e) tt)

    by_way_as : (w : Way) (ks : List Around) (sl : List Value) → SeesAround needs used ks
        → Same needs (by_way world w ks (slots_of sl) cs) (by_way (world_as needs world) w (ka ks) (slots_as sl) cs')
    by_way_as (Near l) ks sl h = branch_as l ks sl h
    by_way_as (Far j) ks sl h = onto_as j sl

    rejected_as : (v : Value) (ds ds' : List Caller) → Callers needs ds ds' → Same needs (rejected world v ds) (rejected (world_as needs world) v ds')
    rejected_as v [] [] h = (Rejects v, refl, refl)
    rejected_as v [] (d ∷ ds') h = absurd h
    rejected_as v (c ∷ ds) [] h = absurd h
    rejected_as v (c ∷ ds) (d ∷ ds') h = stuck_as world

    pub raise_as : (v : Value) (h : Option Handler) (ks : List Around) → SeesAround needs used ks
        → Same needs (raise world v h ks f cs) (raise (world_as needs world) v h (ka ks) fa cs')
    raise_as v None ks hk = rejected_as v cs cs' outer
    raise_as v (Some h) ks hk = by_way_as h.way ks _ hk

    asked_as : (t : ℕ) (h : Option Handler) (c : Code) (ks : List Around) (s : Sent) → Sees needs used c → SeesAround needs used ks
        → Same needs (asked world t h c ks f cs s) (asked (world_as needs world) t h (cv c) (ka ks) fa cs' (sent_as needs s))
    asked_as t h c ks (Sends cost w future) hc hk = goes_as cost [] w c ks _ hc hk
    asked_as t h c ks Refused hc hk = raise_as refusal h ks hk
    asked_as t h c ks (TooLong cost) hc hk = (Traps too_long, refl, refl)
    asked_as t h c ks NoCall hc hk = stuck_as world

    suspended_as : (w : World) (cost : Cost) (on : Option ℕ) (t : ℕ) (h : Option Handler) (j : ℕ) (ds ds' : List Caller) → Callers needs ds ds'
        → Same needs (suspended w cost on (record { frame = f; to = t; handler = h; segment = j }) ds) (suspended (world_as needs w) cost on (record { frame = fa; to = t; handler = h; segment = j }) ds')
    suspended_as w cost on t h j [] [] o = (Waits on (record { frame = fa; to = t; handler = h; segment = j }), refl, (used, refl, fine))
    suspended_as w cost on t h j [] (d ∷ ds') o = absurd o
    suspended_as w cost on t h j (c ∷ ds) [] o = absurd o
    suspended_as w cost on t h j (c ∷ ds) (d ∷ ds') o = stuck_as w

    waits_as : (t : ℕ) (h : Option Handler) (j : ℕ) (ks : List Around) (a : Awaited) → SeesAround needs used ks
        → Same needs (waits world t h j ks f cs a) (waits (world_as needs world) t h j (ka ks) fa cs' (awaited_as needs a))
    waits_as t h j ks (Suspends cost w on) hk = suspended_as w cost on t h j cs cs' outer
    waits_as t h j ks NoRoom hk = raise_as refusal h ks hk
    waits_as t h j ks NoFuture hk = stuck_as world

    module _ (context : Context) where
      value_as : (x : Operand) → SeesOperand needs used x → value context.globals fa (seen_as used x) ≡ value context.globals f x
      value_as (Slot x) h = refl
      value_as (Captured x) h = read_at f.seen used x h
      value_as (Member m) h = refl
      value_as (Global i) h = refl
      value_as (Constant k) h = refl

      values_as : (xs : List Operand) → SeesOperands needs used xs → values context.globals fa (map (seen_as used) xs) ≡ values context.globals f xs
      values_as [] h = refl
      values_as (x ∷ xs) h = cc (value_as x (h.0), values_as xs (h.1))

  -- ---- calls of functions; the functions of the program see what their groups see

  module _ (program : CodeProgram) (context : Context) where
    abbrev pub target : CodeProgram
    target = converted needs program

    abbrev pub Good : Type 0
    Good = (k : ℕ) (g : Group Body) → slice_get program.groups k ≡ Some g → SeesBodies needs (need needs k) g.bodies

    module _ (good : Good) where
      first_sees : (used : List ℕ) (segs : List Code) → SeesSegments needs used segs → Sees needs used (first_of segs) × (convert needs used (first_of segs) ≡ first_of (map (convert needs used) segs))
      first_sees used [] h = (tt, refl)
      first_sees used (c ∷ segs) h = (h.0, refl)

      -- a caller that belongs to one
      abbrev pub CallerAs : Caller → Caller → Type 0
      CallerAs c d = (used : List ℕ) × (d ≡ caller_as needs used c) × Sees needs used c.rest × SeesAround needs used c.around × SeesSegments needs used c.frame.body.segments

      called_as : (world : World) (v : Value) (vs : List Value) (c c' : Caller) (cs cs' : List Caller) → CallerAs c c' → Callers needs cs cs'
          → Same needs (called program context world v vs c cs) (called target context (world_as needs world) v vs c' cs')
      called_as world v vs c c' cs cs' hc outer =
          on_same world (handle_of v) _ _
          (λ h. on_some_as world (made_as needs) (slice_get world.groups h.group) _ _ _ (got (made_as needs) world.groups h.group)
          (λ made e. on_some_as world (convert_group needs (need needs made.code)) (slice_get program.groups made.code) _ _ _ (got_group needs needs program.groups made.code)
          (λ group i. bodied h made group (good made.code group i))))
        where
          bodied : (h : Handle) (made : MadeGroup) (group : Group Body) → SeesBodies needs (need needs made.code) group.bodies
              → Same needs (entered program context world h.group vs made.seen c cs group.bodies h.member)
              (entered target context (world_as needs world) h.group vs (seen_of needs (need needs made.code) made.seen) c' cs' (map (convert_body needs (need needs made.code)) group.bodies) h.member)
          bodied h made group sees =
              on_some_as world (convert_body needs (need needs made.code)) (slice_get group.bodies h.member) _ _ _ (got (convert_body needs (need needs made.code)) group.bodies h.member)
              (λ b e. if_as world (nat_eq (length vs) b.parameters) _ _ (enter b (body_sees needs (need needs made.code) group.bodies h.member b sees e)))
            where
              enter : (b : Body) → SeesSegments needs (need needs made.code) b.segments
                  → Same needs (go (1 + b.nodes) world (first_of b.segments) [] (frame_of b h.group made.seen vs) (c ∷ cs))
                  (go (1 + b.nodes) (world_as needs world) (first_of (map (convert needs (need needs made.code)) b.segments)) [] (frame_of (convert_body needs (need needs made.code) b) h.group (seen_of needs (need needs made.code) made.seen) vs) (c' ∷ cs'))
              enter b h' =
                  let x = first_sees (need needs made.code) b.segments h' in (
                    need needs made.code,
                    c' ∷ cs',
                    ap (λ x. go (1 + b.nodes) (world_as needs world) x [] (frame_of (convert_body needs (need needs made.code) b) h.group (seen_of needs (need needs made.code) made.seen) vs) (c' ∷ cs')) (sym (x.1)),
                    x.0,
                    tt,
                    h',
                    (hc.0, hc.1, hc.2, hc.3, hc.4, outer),
                  )

      -- the caller with this array in progress
      gather_as : (world : World) (used : List ℕ) (f : Frame) (cs cs' : List Caller) → SeesSegments needs used f.body.segments → Callers needs cs cs' → (v : Value) (next left : ℕ) (vs : List Value)
          (t : ℕ) (c : Code) (ks : List Around) → Sees needs used c → SeesAround needs used ks
          → Same needs (gather program context world v next left vs t c ks f cs)
          (gather target context (world_as needs world) v next left vs t (convert needs used c) (map (around_as needs used) ks) (frame_as needs used f) cs')
      gather_as world used f cs cs' fine outer v next zero vs t c ks hc hk = goes_as world used f cs cs' fine outer _ [] world c ks _ hc hk
      gather_as world used f cs cs' fine outer v next (suc left) vs t c ks hc hk =
          called_as world v (number next ∷ []) _ _ cs cs' (used, refl, hc, hk, fine) outer

      back_as : (world : World) (v : Value) (ds ds' : List Caller) → Callers needs ds ds' → Same needs (back program context world v ds) (back target context (world_as needs world) v ds')
      back_as world v [] [] h = (Replies v, refl, refl)
      back_as world v [] (d ∷ ds') h = absurd h
      back_as world v (c ∷ ds) [] h = absurd h
      back_as world v (c ∷ ds) (d ∷ ds') h =
          subst (λ d. Same needs (handed program context world v c.gathering c ds) (handed target context (world_as needs world) v d.gathering d ds')) (sym (h.1)) (hands c.gathering)
        where
          hands : (g : Option Gathering) → Same needs (handed program context world v g c ds) (handed target context (world_as needs world) v g (caller_as needs (h.0) c) ds')
          hands None = (h.0, ds', refl, h.2, h.3, h.4, h.5)
          hands (Some g) =
              heavier_as 1 _ _ (gather_as world (h.0) c.frame ds ds' (h.4) (h.5) g.function g.next g.remaining (g.done ++ v ∷ []) c.to c.rest c.around (h.2) (h.3))

      module _ (world : World) (used : List ℕ) (f : Frame) (cs cs' : List Caller) (fine : SeesSegments needs used f.body.segments) (outer : Callers needs cs cs') where
        abbrev cvt : Code → Code
        cvt = convert needs used

        abbrev kas : List Around → List Around
        kas = map (around_as needs used)

        abbrev fas : Frame
        fas = frame_as needs used f

        abbrev v_as : (x : Operand) → SeesOperand needs used x → value context.globals fas (seen_as used x) ≡ value context.globals f x
        v_as = value_as world used f cs cs' fine outer context

        abbrev vs_as : (xs : List Operand) → SeesOperands needs used xs → values context.globals fas (map (seen_as used) xs) ≡ values context.globals f xs
        vs_as = values_as world used f cs cs' fine outer context

        tabulated_as : (n v : Value) (t : ℕ) (c : Code) (ks : List Around) → Sees needs used c → SeesAround needs used ks
            → Same needs (tabulated program context world n v t c ks f cs) (tabulated target context (world_as needs world) n v t (cvt c) (kas ks) fas cs')
        tabulated_as n v t c ks hc hk = on_same world (natural_of n) _ _ (λ n. heavier_as 1 _ _ (gather_as world used f cs cs' fine outer v 0 n [] t c ks hc hk))

        made_in_as : (t : ℕ) (seen : List Operand) (k : ℕ) (c : Code) (ks : List Around) (group : Group Body) → SeesOperands needs used (picked seen (need needs k)) → Sees needs used c → SeesAround needs used ks
            → Same needs (made_in program context world t (values context.globals f seen) k c ks f cs group.bodies)
            (made_in target context (world_as needs world) t (values context.globals fas (map (seen_as used) (picked seen (need needs k)))) k (cvt c) (kas ks) fas cs' (map (convert_body needs (need needs k)) group.bodies))
        made_in_as t seen k c ks group hs hc hk =
            let vs = members (length world.groups) 0 (length group.bodies) in
            let world_is : with_group (world_as needs world) k (values context.globals fas (map (seen_as used) (picked seen (need needs k)))) ≡ world_as needs (with_group world k (values context.globals f seen)) =
            ap (with_group (world_as needs world) k) (vs_as (picked seen (need needs k)) hs ∙ picked_values context.globals f seen (need needs k))
            ∙ ap (λ gs. record { store = world.store; groups = gs; requests = world.requests }) (sym (map-append (made_as needs) world.groups (record { code = k; seen = values context.globals f seen } ∷ []))) in
            let members_are : members (length (map (made_as needs) world.groups)) 0 (length (map (convert_body needs (need needs k)) group.bodies)) ≡ vs =
            cc (length-map world.groups (made_as needs), length-map group.bodies (convert_body needs (need needs k))) in
            subst (λ x. Same needs (go (1 + nodes_of group.bodies) (with_group world k (values context.globals f seen)) c ks x cs)
            (made_in target context (world_as needs world) t (values context.globals fas (map (seen_as used) (picked seen (need needs k)))) k (cvt c) (kas ks) fas cs' (map (convert_body needs (need needs k)) group.bodies)))
            (sym (put_all_is f t vs))
            (used, cs', comes vs world_is members_are, hc, hk, fine, outer)
          where
            comes : (vs : List Value)
                → with_group (world_as needs world) k (values context.globals fas (map (seen_as used) (picked seen (need needs k)))) ≡ world_as needs (with_group world k (values context.globals f seen))
                → members (length (map (made_as needs) world.groups)) 0 (length (map (convert_body needs (need needs k)) group.bodies)) ≡ vs
                → made_in target context (world_as needs world) t (values context.globals fas (map (seen_as used) (picked seen (need needs k)))) k (cvt c) (kas ks) fas cs' (map (convert_body needs (need needs k)) group.bodies)
                ≡ go (1 + nodes_of group.bodies) (world_as needs (with_group world k (values context.globals f seen))) (cvt c) (kas ks)
                (record { body = convert_body needs used f.body; group = f.group; seen = seen_of needs used f.seen; slots = filled_all f.slots t vs }) cs'
            comes vs e m = cc (nodes_same needs (need needs k) group.bodies, e, m, put_all_is fas t vs)

        pub instruct_as : (c : Code) (ks : List Around) → Sees needs used c → SeesAround needs used ks
            → Same needs (instruct program context world c ks f cs) (instruct target context (world_as needs world) (cvt c) (kas ks) fas cs')
        instruct_as Stop ks hc hk = stuck_as world
        instruct_as (Let t p xs c) ks hc hk =
            subst (λ vs. Same needs (instruct program context world (Let t p xs c) ks f cs) (operated (world_as needs world) t (cvt c) (kas ks) fas cs' (perform context.head world.store p vs)))
            (sym (vs_as xs (hc.0))) (operated_as world used f cs cs' fine outer t c ks _ (hc.1) hk)
        instruct_as (If p xs y n c) ks hc hk =
            subst (λ vs. Same needs (instruct program context world (If p xs y n c) ks f cs) (chosen (world_as needs world) (cvt y) (cvt n) (cvt c) (kas ks) fas cs' (perform context.head world.store p vs)))
            (sym (vs_as xs (hc.0))) (chosen_as world used f cs cs' fine outer y n c ks _ (hc.1) (hc.2) (hc.3) hk)
        instruct_as (Match t k x y n c) ks hc hk =
            subst (λ v. Same needs (instruct program context world (Match t k x y n c) ks f cs) (matched (world_as needs world) t (cvt y) (cvt n) (cvt c) (kas ks) fas cs' (opened k v)))
            (sym (v_as x (hc.0))) (matched_as world used f cs cs' fine outer t y n c ks _ (hc.1) (hc.2) (hc.3) hk)
        instruct_as (Loop b c) ks hc hk = goes_as world used f cs cs' fine outer _ [] world b (Again b c ∷ ks) _ (hc.0) (hc.0, hc.1, hk)
        instruct_as (Label b c) ks hc hk = goes_as world used f cs cs' fine outer _ [] world b (Within c ∷ ks) _ (hc.0) (hc.1, hk)
        instruct_as (Branch l) ks hc hk = branch_as world used f cs cs' fine outer l ks _ hk
        instruct_as (Leave j) ks hc hk = onto_as world used f cs cs' fine outer j _
        instruct_as (Pass t x j) ks hc hk =
            subst (λ v. Same needs (instruct program context world (Pass t x j) ks f cs) (onto (world_as needs world) j (put fas t v) cs')) (sym (v_as x hc)) (onto_as world used f cs cs' fine outer j _)
        instruct_as (Make t seen k c) ks hc hk =
            on_some_as world (convert_group needs (need needs k)) (slice_get program.groups k) _ _ _ (got_group needs needs program.groups k) (λ group e. made_in_as t seen k c ks group (hc.0) (hc.1) hk)
        instruct_as (Call t g xs c) ks hc hk =
            subst (λ v. Same needs (instruct program context world (Call t g xs c) ks f cs) (called target context (world_as needs world) v (values context.globals fas (map (seen_as used) xs)) (caller_with target context t (cvt c) (kas ks) fas None) cs'))
            (sym (v_as g (hc.0)))
            (subst (λ vs. Same needs (instruct program context world (Call t g xs c) ks f cs) (called target context (world_as needs world) (value context.globals f g) vs (caller_with target context t (cvt c) (kas ks) fas None) cs'))
            (sym (vs_as xs (hc.1))) (called_as world _ _ _ _ cs cs' (used, refl, hc.2, hk, fine) outer))
        instruct_as (Tabulate t n g c) ks hc hk =
            subst (λ v. Same needs (instruct program context world (Tabulate t n g c) ks f cs) (tabulated target context (world_as needs world) v (value context.globals fas (seen_as used g)) t (cvt c) (kas ks) fas cs'))
            (sym (v_as n (hc.0)))
            (subst (λ v. Same needs (instruct program context world (Tabulate t n g c) ks f cs) (tabulated target context (world_as needs world) (value context.globals f n) v t (cvt c) (kas ks) fas cs'))
            (sym (v_as g (hc.1))) (tabulated_as (value context.globals f n) (value context.globals f g) t c ks (hc.2) hk))
        instruct_as (Send t s x xs h c) ks hc hk =
            subst (λ a. Same needs (instruct program context world (Send t s x xs h c) ks f cs) (asked (world_as needs world) t h (cvt c) (kas ks) fas cs' a))
            (sym (cc (v_as x (hc.0), vs_as xs (hc.1), same_sent context world s (value context.globals f x) (values context.globals f xs))))
            (asked_as world used f cs cs' fine outer t h c ks (sent context world s (value context.globals f x) (values context.globals f xs)) (hc.2) hk)
        instruct_as (Wait t x h j) ks hc hk =
            subst (λ a. Same needs (instruct program context world (Wait t x h j) ks f cs) (waits (world_as needs world) t h j (kas ks) fas cs' a))
            (sym (cc (v_as x hc, same_awaited context world f.body.nodes (value context.globals f x))))
            (waits_as world used f cs cs' fine outer t h j ks (awaited context world f.body.nodes (value context.globals f x)) hk)
        instruct_as (Raise x h) ks hc hk =
            subst (λ v. Same needs (instruct program context world (Raise x h) ks f cs) (raise (world_as needs world) v h (kas ks) fas cs')) (sym (v_as x hc)) (raise_as world used f cs cs' fine outer _ h ks hk)
        instruct_as (Return x) ks hc hk =
            subst (λ v. Same needs (instruct program context world (Return x) ks f cs) (back target context (world_as needs world) v cs')) (sym (v_as x hc)) (back_as world _ cs cs' outer)

      -- one step to one step
      pub step_as : (world : World) (used : List ℕ) (s : State) (cs : List Caller) → Sees needs used s.code → SeesAround needs used s.around → SeesSegments needs used s.frame.body.segments → Callers needs s.callers cs
          → Same needs (step program context world s) (step target context (world_as needs world) (state_as needs used s cs))
      step_as world used s cs hc hk hf h =
          let p = settle s.around s.code in
          let x = settle_as needs used s.around s.code hc hk in
          subst (λ x. Same needs (step program context world s) (instruct target context (world_as needs world) x.code x.around (frame_as needs used s.frame) cs)) (sym (x.0))
          (instruct_as world used s.frame s.callers cs hf h p.code p.around (x.1) (x.2))
