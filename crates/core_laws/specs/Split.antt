-- From nested expressions to segments of structured code over slots, as a function: code is made from its end.
use Rattle.std.specs.Prelude.{ℕ, suc, ◌+◌, ◌||◌, Bool, true, false, List, [], ◌∷◌, ◌++◌, length, map, Option, Some, None, slice_set}
use Rattle.core_ir.specs.declared.code.Operand.{Operand}
use Rattle.core_ir.specs.declared.code.Operand.TheVariants.{Slot, Global, Constant}
use Rattle.core_ir.specs.Programs.{Group, Method}
use Rattle.core_ir.specs.Expressions as tree
use Rattle.core_ir.specs.Expressions.{Exp, Constant?, Name, Do, Functions, Try, Exps, NoExp, AnExp, Goal, Operate, Choose, Bind, Throw, Await, Break, Core}
pub use Rattle.core_ir.specs.Awaits.{awaits, awaits_all, awaits_goal}
pub use Rattle.core_ir.specs.Formed.{size_at}
use Rattle.core_ir.specs.FormedExpressions.{width}
use Rattle.core_ir.specs.Code as code
use Rattle.core_ir.specs.Code.{Code, Stop, Let, If, Match, Loop, Label, Branch, Leave, Pass, Make, Call, Tabulate, Send, Wait, Raise, Return, CodeProgram}
use Rattle.core_laws.specs.Around.{Kind, Other, LabelHere, LabelAt, HandlerHere, HandlerAt, way, target, handler}
use Rattle.core_laws.specs.Slots.{name_at, operands, place, count, first, others, slots_from, members_from, captured_from, slot, move, jump}

-- ---- constructs, whole or cut

-- the segments so far; one without code yet is kept free
abbrev pub Segments : Type 0
Segments = List (Option Code)

pub record Emitted : Type 0 where
  pub code : Code
  pub segments : Segments

abbrev pub emitted : Code → Segments → Emitted
emitted c segments = record { code = c; segments = segments }

-- how the parts of a construct go on, and what follows it; behind one that is cut nothing is reached
pub record Joint : Type 0 where
  pub around : List Kind
  pub next : Code
  pub after : Code
  pub segments : Segments

abbrev pub joint : Bool → List Kind → Code → Segments → Joint
joint false ls c segs = record { around = Other ∷ ls; next = Stop; after = c; segments = segs }
joint true ls c segs = record { around = ls; next = Leave (length segs); after = Leave (length segs); segments = segs ++ Some c ∷ [] }

abbrev pub labelled : Bool → Option ℕ → List Kind → Code → Segments → Joint
labelled false t ls c segs = record { around = LabelHere t ∷ ls; next = Stop; after = c; segments = segs }
labelled true t ls c segs = record { around = LabelAt (length segs) t ∷ ls; next = Leave (length segs); after = Stop; segments = segs ++ Some c ∷ [] }

abbrev pub looping : Bool → List Kind → Segments → Joint
looping false ls segs = record { around = Other ∷ ls; next = Branch 0; after = Stop; segments = segs }
looping true ls segs = record { around = ls; next = Leave (length segs); after = Stop; segments = segs ++ None ∷ [] }

-- a loop's body b, which is segment j if it is cut
abbrev pub looped : Bool → Code → Code → ℕ → Segments → Emitted
looped false b c j segs = emitted (Loop b c) segs
looped true b c j segs = emitted (Leave j) (slice_set segs j (Some b))

-- the body of a `try` whose error goes on as b
abbrev pub catching : Bool → ℕ → List Kind → Code → Code → Segments → Joint
catching false h ls next b segs = record { around = HandlerHere h ∷ Other ∷ ls; next = Branch 1; after = Stop; segments = segs }
catching true h ls next b segs = record { around = HandlerAt (length segs) h ∷ ls; next = next; after = Stop; segments = segs ++ Some b ∷ [] }

abbrev pub enclosed : Bool → Code → Code → Code
enclosed false b c = Label b c
enclosed true b c = b

abbrev pub code_or_stop : Option Code → Code
code_or_stop None = Stop
code_or_stop (Some c) = c

-- ---- expressions; sizes tells how many functions a group has

module _ (sizes : ℕ → ℕ) where
  abbrev mutual
    -- the code that computes e into slot t, and goes on as c
    pub split_exp : Exp → Option ℕ → ℕ → List Operand → List Kind → Code → Segments → Emitted
    split_exp (Constant? k) t h names ls c segs = emitted (move t (Constant k) c) segs
    split_exp (Name x) t h names ls c segs = emitted (move t (name_at names x) c) segs
    split_exp (tree.Global i) t h names ls c segs = emitted (move t (Global i) c) segs
    split_exp (Do goal es) t h names ls c segs =
        let r = split_goal goal (operands names es h) t (h + count es) names ls c segs in
        split_all es h names ls r.code r.segments
    split_exp (Functions k b) t h names ls c segs =
        let r = split_exp b t (h + sizes k) (slots_from h (sizes k) ++ names) ls c segs in
        emitted (Make h names k r.code) r.segments
    split_exp (tree.Loop b) t h names ls c segs =
        let q = looping (awaits b) ls segs in
        let r = split_exp b None h names q.around q.next q.segments in
        looped (awaits b) r.code c (length segs) r.segments
    split_exp (tree.Label b) t h names ls c segs =
        let q = labelled (awaits b) t ls c segs in
        let r = split_exp b t h names q.around q.next q.segments in
        emitted (enclosed (awaits b) r.code c) r.segments
    split_exp (Try a b) t h names ls c segs =
        let q = joint (awaits a || awaits b) ls c segs in
        let r = split_exp b t (suc h) (Slot h ∷ names) q.around q.next q.segments in
        let p = catching (awaits a || awaits b) h ls q.next r.code r.segments in
        let u = split_exp a t (suc h) names p.around p.next p.segments in
        emitted (enclosed (awaits a || awaits b) (enclosed (awaits a || awaits b) u.code r.code) c) u.segments

    -- each argument into its own slot
    pub split_all : Exps → ℕ → List Operand → List Kind → Code → Segments → Emitted
    split_all NoExp h names ls c segs = emitted c segs
    split_all (AnExp e es) h names ls c segs =
        let r = split_all es (suc h) names ls c segs in
        split_exp e (place e h) (suc h) names ls r.code r.segments

    pub split_goal : Goal → List Operand → Option ℕ → ℕ → List Operand → List Kind → Code → Segments → Emitted
    split_goal (Operate p) xs t h names ls c segs = emitted (Let (slot t h) p xs c) segs
    split_goal (Choose p a b) xs t h names ls c segs =
        let q = joint (awaits a || awaits b) ls c segs in
        let r = split_exp a t h names q.around q.next q.segments in
        let u = split_exp b t h names q.around q.next r.segments in
        emitted (If p xs r.code u.code q.after) u.segments
    split_goal (tree.Match k a b) xs t h names ls c segs =
        let q = joint (awaits a || awaits b) ls c segs in
        let r = split_exp a t (suc h) (Slot h ∷ names) q.around q.next q.segments in
        let u = split_exp b t (suc h) names q.around q.next r.segments in
        emitted (Match h k (first xs) r.code u.code q.after) u.segments
    split_goal (Bind b) xs t h names ls c segs = split_exp b t h (first xs ∷ names) ls c segs
    split_goal tree.Call xs t h names ls c segs = emitted (Call (slot t h) (first xs) (others xs) c) segs
    split_goal tree.Tabulate xs t h names ls c segs = emitted (Tabulate (slot t h) (first xs) (first (others xs)) c) segs
    split_goal (tree.Send s) xs t h names ls c segs = emitted (Send (slot t h) s (first xs) (others xs) (handler ls) c) segs
    split_goal Throw xs t h names ls c segs = emitted (Raise (first xs) (handler ls)) segs
    split_goal Await xs t h names ls c segs = emitted (Wait (slot t h) (first xs) (handler ls) (length segs)) (segs ++ Some c ∷ [])
    split_goal (Break l) xs t h names ls c segs = emitted (move (target ls l) (first xs) (jump (way ls l))) segs
    split_goal tree.Return xs t h names ls c segs = emitted (Return (first xs)) segs

  -- ---- bodies

  -- In a group of so many functions, which sees so many values. Its slots are its parameters, one for each value that stands ready
  -- besides, and one for its own value.
  abbrev pub split_body : ℕ → ℕ → tree.Body → code.Body
  split_body n sees f =
      let r = split_exp (Do tree.Return (AnExp f.expression NoExp)) None f.parameters
      (slots_from 0 f.parameters ++ (members_from 0 n ++ captured_from 0 sees)) [] Stop (None ∷ []) in
      let segments = map code_or_stop (slice_set r.segments 0 (Some r.code)) in
      record { parameters = f.parameters; slots = suc (f.parameters + width sizes f.expression); nodes = f.nodes; segments = segments }

  abbrev pub split_group : Group tree.Body → Group code.Body
  split_group g = record { sees = g.sees; bodies = map (split_body (length g.bodies) g.sees) g.bodies }

  abbrev pub split_method : Method tree.Body → Method code.Body
  split_method m = record { name = m.name; query = m.query; signature = m.signature; body = split_body 0 0 m.body }

abbrev pub split_program : Core → CodeProgram
split_program p = record {
  head = p.head;
  groups = map (split_group (size_at p.groups)) p.groups;
  methods = map (split_method (size_at p.groups)) p.methods;
  stable = p.stable;
  save = split_body (size_at p.groups) 0 0 p.save;
  start = split_body (size_at p.groups) 0 0 p.start;
}
