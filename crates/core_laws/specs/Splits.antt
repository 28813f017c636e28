-- What it is that code computes an expression. Which number a segment has, and where its code was made, is left open.
use Rattle.std.specs.Prelude.{◌≡◌, ℕ, suc, ◌+◌, ◌⊎◌, List, [], ◌∷◌, ◌++◌, length, Option, Some, None, slice_get}
use Rattle.core_ir.specs.declared.code.Operand.{Operand}
use Rattle.core_ir.specs.declared.code.Operand.TheVariants.{Slot, Global, Constant}
use Rattle.core_ir.specs.Programs.{Group, Method}
use Rattle.core_ir.specs.Expressions as tree
use Rattle.core_ir.specs.Code as code
use Rattle.core_ir.specs.Expressions.{Exp, Constant?, Name, Do, Functions, Try, Exps, NoExp, AnExp, Goal, Operate, Choose, Bind, Throw, Await, Break, Core}
use Rattle.core_ir.specs.Code.{Code, Stop, Let, If, Match, Loop, Label, Branch, Leave, Make, Call, Tabulate, Send, Wait, Raise, Return, CodeProgram}
use Rattle.core_ir.specs.CodeMachine.{first_of}
use Rattle.core_laws.specs.Around.{Kind, Other, LabelHere, LabelAt, HandlerHere, HandlerAt, way, target, handler, AllFar}
use Rattle.core_laws.specs.Slots.{name_at, operands, place, count, first, others, slots_from, members_from, captured_from, slot, move, jump}

-- sizes tells how many functions a group has, and segments are those of the body
module _ (sizes : ℕ → ℕ) (segments : List Code) where
  -- c stands as segment j
  abbrev pub Is : ℕ → Code → Type 0
  Is j c = slice_get segments j ≡ Some c

  -- where the code leaves at once, that segment is there
  abbrev pub Here : Code → Type 0
  Here (Leave j) = (c : Code) × Is j c
  Here _ = Unit {0}

  abbrev mutual
    -- d computes e into slot t, and goes on as c; names are the operands of the names in scope, and slots from h on are free
    pub Splits : Exp → Option ℕ → ℕ → List Operand → List Kind → Code → Code → Type 0
    Splits (Constant? k) t h names ls c d = (d ≡ move t (Constant k) c) × Here c
    Splits (Name x) t h names ls c d = (d ≡ move t (name_at names x) c) × Here c
    Splits (tree.Global i) t h names ls c d = (d ≡ move t (Global i) c) × Here c
    Splits (Do goal es) t h names ls c d =
        (m : Code) × SplitsGoal goal (operands names es h) t (h + count es) names ls c m × SplitsAll es h names ls m d
    Splits (Functions k b) t h names ls c d =
        (m : Code) × Splits b t (h + sizes k) (slots_from h (sizes k) ++ names) ls c m × (d ≡ Make h names k m)
    Splits (tree.Loop b) t h names ls c d =
        (record { m : Code; body : Splits b None h names (Other ∷ ls) (Branch 0) m; is : d ≡ Loop m c })
        ⊎ (record { j : ℕ; m : Code; far : AllFar ls; here : Is j m; body : Splits b None h names ls (Leave j) m; is : d ≡ Leave j })
    Splits (tree.Label b) t h names ls c d =
        (record { m : Code; body : Splits b t h names (LabelHere t ∷ ls) Stop m; is : d ≡ Label m c })
        ⊎ (record { j : ℕ; far : AllFar ls; here : Is j c; body : Splits b t h names (LabelAt j t ∷ ls) (Leave j) d })
    Splits (Try a b) t h names ls c d =
        (record {
          m : Code;
          n : Code;
          body : Splits a t (suc h) names (HandlerHere h ∷ Other ∷ ls) (Branch 1) m;
          caught : Splits b t (suc h) (Slot h ∷ names) (Other ∷ ls) Stop n;
          is : d ≡ Label (Label m n) c;
        })
        ⊎ (record {
          j : ℕ;
          i : ℕ;
          n : Code;
          far : AllFar ls;
          here : Is j c;
          there : Is i n;
          body : Splits a t (suc h) names (HandlerAt i h ∷ ls) (Leave j) d;
          caught : Splits b t (suc h) (Slot h ∷ names) ls (Leave j) n;
        })

    -- each argument into its own slot
    pub SplitsAll : Exps → ℕ → List Operand → List Kind → Code → Code → Type 0
    SplitsAll NoExp h names ls c d = d ≡ c
    SplitsAll (AnExp e es) h names ls c d = (m : Code) × SplitsAll es (suc h) names ls c m × Splits e (place e h) (suc h) names ls m d

    -- the goal with these operands
    pub SplitsGoal : Goal → List Operand → Option ℕ → ℕ → List Operand → List Kind → Code → Code → Type 0
    SplitsGoal (Operate p) xs t h names ls c d = d ≡ Let (slot t h) p xs c
    SplitsGoal (Choose p a b) xs t h names ls c d =
        (record { m : Code; n : Code; yes : Splits a t h names (Other ∷ ls) Stop m; no : Splits b t h names (Other ∷ ls) Stop n; is : d ≡ If p xs m n c })
        ⊎ (record {
          j : ℕ;
          m : Code;
          n : Code;
          far : AllFar ls;
          here : Is j c;
          yes : Splits a t h names ls (Leave j) m;
          no : Splits b t h names ls (Leave j) n;
          is : d ≡ If p xs m n (Leave j);
        })
    SplitsGoal (tree.Match k a b) xs t h names ls c d =
        (record {
          m : Code;
          n : Code;
          yes : Splits a t (suc h) (Slot h ∷ names) (Other ∷ ls) Stop m;
          no : Splits b t (suc h) names (Other ∷ ls) Stop n;
          is : d ≡ Match h k (first xs) m n c;
        })
        ⊎ (record {
          j : ℕ;
          m : Code;
          n : Code;
          far : AllFar ls;
          here : Is j c;
          yes : Splits a t (suc h) (Slot h ∷ names) ls (Leave j) m;
          no : Splits b t (suc h) names ls (Leave j) n;
          is : d ≡ Match h k (first xs) m n (Leave j);
        })
    SplitsGoal (Bind b) xs t h names ls c d = Splits b t h (first xs ∷ names) ls c d
    SplitsGoal tree.Call xs t h names ls c d = d ≡ Call (slot t h) (first xs) (others xs) c
    SplitsGoal tree.Tabulate xs t h names ls c d = d ≡ Tabulate (slot t h) (first xs) (first (others xs)) c
    SplitsGoal (tree.Send s) xs t h names ls c d = d ≡ Send (slot t h) s (first xs) (others xs) (handler ls) c
    SplitsGoal Throw xs t h names ls c d = d ≡ Raise (first xs) (handler ls)
    SplitsGoal Await xs t h names ls c d = record { j : ℕ; far : AllFar ls; here : Is j c; is : d ≡ Wait (slot t h) (first xs) (handler ls) j }
    SplitsGoal (Break l) xs t h names ls c d = (d ≡ move (target ls l) (first xs) (jump (way ls l))) × Here (jump (way ls l))
    SplitsGoal tree.Return xs t h names ls c d = d ≡ Return (first xs)

module _ (sizes : ℕ → ℕ) where
  -- a body in a group of so many functions, which sees so many values
  abbrev pub SplitsBody : ℕ → ℕ → tree.Body → code.Body → Type 0
  SplitsBody n sees f g = record {
    parameters : g.parameters ≡ f.parameters;
    nodes : g.nodes ≡ f.nodes;
    body : Splits sizes g.segments (Do tree.Return (AnExp f.expression NoExp)) None f.parameters
        (slots_from 0 f.parameters ++ (members_from 0 n ++ captured_from 0 sees)) [] Stop (first_of g.segments);
  }

  abbrev pub SplitsGroup : Group tree.Body → Group code.Body → Type 0
  SplitsGroup g h = record {
    same : length h.bodies ≡ length g.bodies;
    nodes : code.nodes_of h.bodies ≡ tree.nodes_of g.bodies;
    bodies : (m : ℕ) (f : tree.Body) → slice_get g.bodies m ≡ Some f → (x : code.Body) × (slice_get h.bodies m ≡ Some x) × SplitsBody (length g.bodies) g.sees f x;
  }

  abbrev pub SplitsMethod : Method tree.Body → Method code.Body → Type 0
  SplitsMethod m n = record { name : n.name ≡ m.name; query : n.query ≡ m.query; signature : n.signature ≡ m.signature; body : SplitsBody 0 0 m.body n.body }

  -- what the pass has to make of a program
  abbrev pub SplitsProgram : Core → CodeProgram → Type 0
  SplitsProgram p q = record {
    head : q.head ≡ p.head;
    stable : q.stable ≡ p.stable;
    sizes : (k : ℕ) (g : Group tree.Body) → slice_get p.groups k ≡ Some g → sizes k ≡ length g.bodies;
    groups : (k : ℕ) (g : Group tree.Body) → slice_get p.groups k ≡ Some g → (x : Group code.Body) × (slice_get q.groups k ≡ Some x) × SplitsGroup g x;
    methods : (k : ℕ) (m : Method tree.Body) → slice_get p.methods k ≡ Some m → (x : Method code.Body) × (slice_get q.methods k ≡ Some x) × SplitsMethod m x;
    as_many : length q.methods ≡ length p.methods;
    save : SplitsBody 0 0 p.save q.save;
    start : SplitsBody 0 0 p.start q.start;
  }
