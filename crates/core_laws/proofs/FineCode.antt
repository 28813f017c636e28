-- What holds of all operands and of all groups that are made holds of the code of an expression.
use Rattle.std.proofs.Common.{ℕ, zero, suc, ◌+◌, List, [], ◌∷◌, ◌++◌, length, map, Option, Some, None, Bool, true, false}
use Rattle.std.specs.Prelude.{◌||◌, slice_set}
use Rattle.core_ir.specs.declared.constant.Constant.{Constant as Fixed}
use Rattle.core_ir.specs.declared.constant.Constant.TheVariants as constant
use Rattle.core_ir.specs.declared.code.Operand.{Operand}
use Rattle.core_ir.specs.declared.code.Operand.TheVariants.{Slot, Member, Global, Constant}
use Rattle.core_ir.specs.declared.code.Way.{Way}
use Rattle.core_ir.specs.declared.code.Way.TheVariants.{Near, Far}
use Rattle.core_ir.specs.Expressions as core
use Rattle.core_ir.specs.Expressions.{Exp, Constant?, Name, Do, Functions, Try, Exps, NoExp, AnExp, Goal, Operate, Choose, Bind, Throw, Await, Break, Body}
use Rattle.core_ir.specs.Code.{Code, Stop, Let, If, Match, Loop, Label, Branch, Leave, Pass, Make, Call, Tabulate, Send, Wait, Raise, Return}
use Rattle.core_laws.specs.Around.{Kind, way, target}
use Rattle.core_laws.specs.Makes.{Makes, MakesAll, MakesGoal}
use Rattle.core_laws.specs.Slots.{name_at, operand, operands, place, count, first, others, slots_from, members_from, captured_from, into, move, jump}
use Rattle.core_laws.specs.Split.{Segments, Emitted, awaits, joint, labelled, looping, looped, catching, enclosed, code_or_stop, split_exp, split_all, split_goal, split_body}

module _ (Fits : ℕ → Type 0) (Ok : Operand → Type 0) where
  abbrev pub AllOk : List Operand → Type 0
  AllOk [] = Unit {0}
  AllOk (x ∷ xs) = Ok x × AllOk xs

  abbrev pub Fine : Code → Type 0
  Fine Stop = Unit {0}
  Fine (Let t p xs c) = AllOk xs × Fine c
  Fine (If p xs y n c) = AllOk xs × Fine y × Fine n × Fine c
  Fine (Match t k x y n c) = Ok x × Fine y × Fine n × Fine c
  Fine (Loop b c) = Fine b × Fine c
  Fine (Label b c) = Fine b × Fine c
  Fine (Branch l) = Unit {0}
  Fine (Leave j) = Unit {0}
  Fine (Pass t x j) = Ok x
  Fine (Make t seen k c) = Fits k × AllOk seen × Fine c
  Fine (Call t f xs c) = Ok f × AllOk xs × Fine c
  Fine (Tabulate t n f c) = Ok n × Ok f × Fine c
  Fine (Send t s f xs h c) = Ok f × AllOk xs × Fine c
  Fine (Wait t x h j) = Ok x
  Fine (Raise x h) = Ok x
  Fine (Return x) = Ok x

  abbrev pub AllFine : List Code → Type 0
  AllFine [] = Unit {0}
  AllFine (c ∷ cs) = Fine c × AllFine cs

  abbrev Kept : Option Code → Type 0
  Kept None = Unit {0}
  Kept (Some c) = Fine c

  abbrev Segs : Segments → Type 0
  Segs [] = Unit {0}
  Segs (o ∷ s) = Kept o × Segs s

  push : (s : Segments) (o : Option Code) → Segs s → Kept o → Segs (s ++ o ∷ [])
  push [] o h i = (i, tt)
  push (x ∷ s) o h i = (h.0, push s o (h.1) i)

  set : (s : Segments) (j : ℕ) (o : Option Code) → Segs s → Kept o → Segs (slice_set s j o)
  set [] j o h i = tt
  set (x ∷ s) zero o h i = (i, h.1)
  set (x ∷ s) (suc j) o h i = (h.0, set s j o (h.1) i)

  module _ (slots : (x : ℕ) → Ok (Slot x)) (members : (m : ℕ) → Ok (Member m)) (globals : (i : ℕ) → Ok (Global i)) (constants : (k : Fixed) → Ok (Constant k)) where
    named : (ns : List Operand) (x : ℕ) → AllOk ns → Ok (name_at ns x)
    named [] x h = constants constant.Unit
    named (n ∷ ns) zero h = h.0
    named (n ∷ ns) (suc x) h = named ns x (h.1)

    operand_ok : (ns : List Operand) (e : Exp) (h : ℕ) → AllOk ns → Ok (operand ns e h)
    operand_ok ns (Constant? k) h i = constants k
    operand_ok ns (Name x) h i = named ns x i
    operand_ok ns (core.Global g) h i = globals g
    operand_ok ns (Do goal es) h i = slots h
    operand_ok ns (Functions k b) h i = slots h
    operand_ok ns (core.Loop b) h i = slots h
    operand_ok ns (core.Label b) h i = slots h
    operand_ok ns (Try a b) h i = slots h

    operands_ok : (ns : List Operand) (es : Exps) (h : ℕ) → AllOk ns → AllOk (operands ns es h)
    operands_ok ns NoExp h i = tt
    operands_ok ns (AnExp e es) h i = (operand_ok ns e h i, operands_ok ns es (suc h) i)

    first_ok : (xs : List Operand) → AllOk xs → Ok (first xs)
    first_ok [] h = slots 0
    first_ok (x ∷ xs) h = h.0

    others_ok : (xs : List Operand) → AllOk xs → AllOk (others xs)
    others_ok [] h = tt
    others_ok (x ∷ xs) h = h.1

    slots_ok : (h n : ℕ) → AllOk (slots_from h n)
    slots_ok h zero = tt
    slots_ok h (suc n) = (slots h, slots_ok (suc h) n)

    members_ok : (m n : ℕ) → AllOk (members_from m n)
    members_ok m zero = tt
    members_ok m (suc n) = (members m, members_ok (suc m) n)

    append_ok : (xs ys : List Operand) → AllOk xs → AllOk ys → AllOk (xs ++ ys)
    append_ok [] ys h i = i
    append_ok (x ∷ xs) ys h i = (h.0, append_ok xs ys (h.1) i)

    into_ok : (t : ℕ) (a : Operand) (c : Code) → Ok a → Fine c → Fine (into t a c)
    into_ok t a (Leave j) h i = h
    into_ok t a c h i = ((h, tt), i)

    move_ok : (t : Option ℕ) (a : Operand) (c : Code) → Ok a → Fine c → Fine (move t a c)
    move_ok None a c h i = i
    move_ok (Some t) a c h i = into_ok t a c h i

    jump_ok : (w : Way) → Fine (jump w)
    jump_ok (Near n) = tt
    jump_ok (Far j) = tt

    abbrev Made : Emitted → Type 0
    Made r = Fine r.code × Segs r.segments

    joint_ok : (b : Bool) (ls : List Kind) (c : Code) (s : Segments) → Fine c → Segs s → Fine (joint b ls c s).next × Fine (joint b ls c s).after × Segs (joint b ls c s).segments
    joint_ok false ls c s h i = (tt, h, i)
    joint_ok true ls c s h i = (tt, tt, push s (Some c) i h)

    labelled_ok : (b : Bool) (t : Option ℕ) (ls : List Kind) (c : Code) (s : Segments) → Fine c → Segs s → Fine (labelled b t ls c s).next × Segs (labelled b t ls c s).segments
    labelled_ok false t ls c s h i = (tt, i)
    labelled_ok true t ls c s h i = (tt, push s (Some c) i h)

    looping_ok : (b : Bool) (ls : List Kind) (s : Segments) → Segs s → Fine (looping b ls s).next × Segs (looping b ls s).segments
    looping_ok false ls s i = (tt, i)
    looping_ok true ls s i = (tt, push s None i tt)

    looped_ok : (b : Bool) (m c : Code) (j : ℕ) (s : Segments) → Fine m → Fine c → Segs s → Made (looped b m c j s)
    looped_ok false m c j s h i k = ((h, i), k)
    looped_ok true m c j s h i k = (tt, set s j (Some m) k h)

    catching_ok : (b : Bool) (h : ℕ) (ls : List Kind) (next m : Code) (s : Segments) → Fine next → Fine m → Segs s → Fine (catching b h ls next m s).next × Segs (catching b h ls next m s).segments
    catching_ok false h ls next m s f g i = (tt, i)
    catching_ok true h ls next m s f g i = (f, push s (Some m) i g)

    enclosed_ok : (b : Bool) (m c : Code) → Fine m → Fine c → Fine (enclosed b m c)
    enclosed_ok false m c h i = (h, i)
    enclosed_ok true m c h i = h

    module _ (sizes : ℕ → ℕ) where
      mutual
        exp_ok : (e : Exp) (t : Option ℕ) (h : ℕ) (ns : List Operand) (ls : List Kind) (c : Code) (s : Segments) → Makes Fits e → AllOk ns → Fine c → Segs s → Made (split_exp sizes e t h ns ls c s)
        exp_ok (Constant? k) t h ns ls c s m hn hc hs = (move_ok t (Constant k) c (constants k) hc, hs)
        exp_ok (Name x) t h ns ls c s m hn hc hs = (move_ok t (name_at ns x) c (named ns x hn) hc, hs)
        exp_ok (core.Global i) t h ns ls c s m hn hc hs = (move_ok t (Global i) c (globals i) hc, hs)
        exp_ok (Do goal es) t h ns ls c s m hn hc hs =
            let r = split_goal sizes goal (operands ns es h) t (h + count es) ns ls c s in
            let x = goal_ok goal (operands ns es h) t (h + count es) ns ls c s (m.0) (operands_ok ns es h hn) hn hc hs in
            all_ok es h ns ls r.code r.segments (m.1) hn (x.0) (x.1)
        exp_ok (Functions k b) t h ns ls c s m hn hc hs =
            let x = exp_ok b t (h + sizes k) (slots_from h (sizes k) ++ ns) ls c s (m.1) (append_ok (slots_from h (sizes k)) ns (slots_ok h (sizes k)) hn) hc hs in
            ((m.0, hn, x.0), x.1)
        exp_ok (core.Loop b) t h ns ls c s m hn hc hs =
            let q = looping (awaits b) ls s in
            let r = split_exp sizes b None h ns q.around q.next q.segments in
            let i = looping_ok (awaits b) ls s hs in
            let x = exp_ok b None h ns q.around q.next q.segments m hn (i.0) (i.1) in
            looped_ok (awaits b) r.code c (length s) r.segments (x.0) hc (x.1)
        exp_ok (core.Label b) t h ns ls c s m hn hc hs =
            let q = labelled (awaits b) t ls c s in
            let r = split_exp sizes b t h ns q.around q.next q.segments in
            let i = labelled_ok (awaits b) t ls c s hc hs in
            let x = exp_ok b t h ns q.around q.next q.segments m hn (i.0) (i.1) in
            (enclosed_ok (awaits b) r.code c (x.0) hc, x.1)
        exp_ok (Try a b) t h ns ls c s m hn hc hs =
            let w = awaits a || awaits b in
            let q = joint w ls c s in
            let r = split_exp sizes b t (suc h) (Slot h ∷ ns) q.around q.next q.segments in
            let p = catching w h ls q.next r.code r.segments in
            let u = split_exp sizes a t (suc h) ns p.around p.next p.segments in
            let i = joint_ok w ls c s hc hs in
            let x = exp_ok b t (suc h) (Slot h ∷ ns) q.around q.next q.segments (m.1) (slots h, hn) (i.0) (i.2) in
            let j = catching_ok w h ls q.next r.code r.segments (i.0) (x.0) (x.1) in
            let y = exp_ok a t (suc h) ns p.around p.next p.segments (m.0) hn (j.0) (j.1) in
            (enclosed_ok w (enclosed w u.code r.code) c (enclosed_ok w u.code r.code (y.0) (x.0)) hc, y.1)

        all_ok : (es : Exps) (h : ℕ) (ns : List Operand) (ls : List Kind) (c : Code) (s : Segments) → MakesAll Fits es → AllOk ns → Fine c → Segs s → Made (split_all sizes es h ns ls c s)
        all_ok NoExp h ns ls c s m hn hc hs = (hc, hs)
        all_ok (AnExp e es) h ns ls c s m hn hc hs =
            let r = split_all sizes es (suc h) ns ls c s in
            let x = all_ok es (suc h) ns ls c s (m.1) hn hc hs in
            exp_ok e (place e h) (suc h) ns ls r.code r.segments (m.0) hn (x.0) (x.1)

        goal_ok : (g : Goal) (xs : List Operand) (t : Option ℕ) (h : ℕ) (ns : List Operand) (ls : List Kind) (c : Code) (s : Segments) → MakesGoal Fits g → AllOk xs → AllOk ns → Fine c → Segs s → Made (split_goal sizes g xs t h ns ls c s)
        goal_ok (Operate p) xs t h ns ls c s m hx hn hc hs = ((hx, hc), hs)
        goal_ok (Choose p a b) xs t h ns ls c s m hx hn hc hs =
            let w = awaits a || awaits b in
            let q = joint w ls c s in
            let r = split_exp sizes a t h ns q.around q.next q.segments in
            let i = joint_ok w ls c s hc hs in
            let x = exp_ok a t h ns q.around q.next q.segments (m.0) hn (i.0) (i.2) in
            let y = exp_ok b t h ns q.around q.next r.segments (m.1) hn (i.0) (x.1) in
            ((hx, x.0, y.0, i.1), y.1)
        goal_ok (core.Match k a b) xs t h ns ls c s m hx hn hc hs =
            let w = awaits a || awaits b in
            let q = joint w ls c s in
            let r = split_exp sizes a t (suc h) (Slot h ∷ ns) q.around q.next q.segments in
            let i = joint_ok w ls c s hc hs in
            let x = exp_ok a t (suc h) (Slot h ∷ ns) q.around q.next q.segments (m.0) (slots h, hn) (i.0) (i.2) in
            let y = exp_ok b t (suc h) ns q.around q.next r.segments (m.1) hn (i.0) (x.1) in
            ((first_ok xs hx, x.0, y.0, i.1), y.1)
        goal_ok (Bind b) xs t h ns ls c s m hx hn hc hs = exp_ok b t h (first xs ∷ ns) ls c s m (first_ok xs hx, hn) hc hs
        goal_ok core.Call xs t h ns ls c s m hx hn hc hs = ((first_ok xs hx, others_ok xs hx, hc), hs)
        goal_ok core.Tabulate xs t h ns ls c s m hx hn hc hs = ((first_ok xs hx, first_ok (others xs) (others_ok xs hx), hc), hs)
        goal_ok (core.Send g) xs t h ns ls c s m hx hn hc hs = ((first_ok xs hx, others_ok xs hx, hc), hs)
        goal_ok Throw xs t h ns ls c s m hx hn hc hs = (first_ok xs hx, hs)
        goal_ok Await xs t h ns ls c s m hx hn hc hs = (first_ok xs hx, push s (Some c) hs hc)
        goal_ok (Break l) xs t h ns ls c s m hx hn hc hs = (move_ok (target ls l) (first xs) (jump (way ls l)) (first_ok xs hx) (jump_ok (way ls l)), hs)
        goal_ok core.Return xs t h ns ls c s m hx hn hc hs = (first_ok xs hx, hs)

      stop_ok : (s : Segments) → Segs s → AllFine (map code_or_stop s)
      stop_ok [] h = tt
      stop_ok (None ∷ s) h = (tt, stop_ok s (h.1))
      stop_ok (Some c ∷ s) h = (h.0, stop_ok s (h.1))

      -- a body of so many functions, which sees so many values
      pub body_ok : (n sees : ℕ) (f : Body) → Makes Fits f.expression → AllOk (captured_from 0 sees) → AllFine (split_body sizes n sees f).segments
      body_ok n sees f m h =
          let ns = slots_from 0 f.parameters ++ (members_from 0 n ++ captured_from 0 sees) in
          let r = split_exp sizes (Do core.Return (AnExp f.expression NoExp)) None f.parameters ns [] Stop (None ∷ []) in
          let hn = append_ok (slots_from 0 f.parameters) (members_from 0 n ++ captured_from 0 sees) (slots_ok 0 f.parameters) (append_ok (members_from 0 n) (captured_from 0 sees) (members_ok 0 n) h) in
          let x = exp_ok (Do core.Return (AnExp f.expression NoExp)) None f.parameters ns [] Stop (None ∷ []) (tt, (m, tt)) hn tt (tt, tt) in
          stop_ok (slice_set r.segments 0 (Some r.code)) (set r.segments 0 (Some r.code) (x.1) (x.0))
