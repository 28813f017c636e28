-- Steps of the machine that leave the world as it is, and what names stand for.
use Rattle.std.proofs.Common.{◌≡◌, ℕ, suc, ◌+◌, ◌-◌, ◌≤◌, List, [], ◌∷◌, ◌++◌, length, Some, slice_get, refl, sym, ap, subst, arith}
use Rattle.mo_values.specs.Costs.{weighing}
use Rattle.core_ir.specs.Choices.{on_some}
use Rattle.core_ir.specs.Values.{Value}
use Rattle.core_ir.specs.Worlds.{World, Context}
use Rattle.core_ir.specs.Executions.{Go}
use Rattle.core_ir.specs.Expressions.{Exp, Do, NoExp, Goal, Core}
use Rattle.core_ir.specs.CoreMachine.{Frame, Arguments, Looping, Labelled, Trying, Caller, Join, Focus, Eval, Give, Did, focused, act, at, move, stuck, depth_of}
use Rattle.elaboration.specs.Scopes.{one, name}
use Rattle.elaboration.specs.Checks.{Check, Source, Named, Part, value_of, around, around_all}
use Rattle.elaboration.specs.Meeting.{Reads, ReadEach, Extends, Joins, Comes, There, Goes, Gives, Stands}

-- ---- lists

pub assoc : {A : Type 0} (xs ys zs : List A) → (xs ++ ys) ++ zs ≡ xs ++ (ys ++ zs)
assoc [] ys zs = refl
assoc (x ∷ xs) ys zs = ap (λ r. x ∷ r) (assoc xs ys zs)

pub split : (cs ds : List Check) (fails next : Exp) → around_all (cs ++ ds) fails next ≡ around_all cs fails (around_all ds fails next)
split [] ds fails next = refl
split (c ∷ cs) ds fails next = ap (around c fails) (split cs ds fails next)

pub joins_both : (js is : List Frame) → Joins js → Joins is → Joins (js ++ is)
joins_both [] is a b = b
joins_both (Join ∷ js) is a b = joins_both js is a b
joins_both (Arguments g d r e ∷ js) is a b = absurd a
joins_both (Looping e f ∷ js) is a b = absurd a
joins_both (Labelled ∷ js) is a b = absurd a
joins_both (Trying e f ∷ js) is a b = absurd a
joins_both (Caller n g ∷ js) is a b = absurd a

-- ---- names

pub reads_new : (env : List Value) (w : Value) → Reads (w ∷ env) (length env) w
reads_new env w =
    let z : suc (length env) - suc (length env) ≡ 0 = omega arith in
    (omega arith, subst (λ i. slice_get (w ∷ env) i ≡ Some w) (sym z) refl)

pub reads_more : (env : List Value) (x : Value) → Extends env (x ∷ env)
reads_more env x level w r =
    let z : suc (length env) - suc level ≡ suc (length env - suc level) = omega (arith, r.0) in
    (omega (arith, r.0), subst (λ i. slice_get (x ∷ env) i ≡ Some w) (sym z) (r.1))

pub each_more : (env env' : List Value) → Extends env env' → (ls : List ℕ) (ws : List Value) → ReadEach env ls ws → ReadEach env' ls ws
each_more env env' x [] [] r = tt
each_more env env' x [] (w ∷ ws) r = absurd r
each_more env env' x (l ∷ ls) [] r = absurd r
each_more env env' x (l ∷ ls) (w ∷ ws) r = (x l w (r.0), each_more env env' x ls ws (r.1))

pub each_and : (env : List Value) (ls ms : List ℕ) (ws us : List Value) → ReadEach env ls ws → ReadEach env ms us → ReadEach env (ls ++ ms) (ws ++ us)
each_and env [] ms [] us a b = b
each_and env [] ms (w ∷ ws) us a b = absurd a
each_and env (l ∷ ls) ms [] us a b = absurd a
each_and env (l ∷ ls) ms (w ∷ ws) us a b = (a.0, each_and env ls ms ws us (a.1) b)

-- several, one after another, the first one the nearest
abbrev pub ReadDown : List Value → ℕ → List Value → Type 0
ReadDown env level [] = Unit {0}
ReadDown env level (w ∷ ws) = Reads env level w × ReadDown env (level - 1) ws

pub down_more : (env env' : List Value) → Extends env env' → (level : ℕ) (ws : List Value) → ReadDown env level ws → ReadDown env' level ws
down_more env env' x level [] r = tt
down_more env env' x level (w ∷ ws) r = (x level w (r.0), down_more env env' x (level - 1) ws (r.1))

-- ---- steps

abbrev pub cost_of : Source → ℕ
cost_of (Named level) = 0
cost_of (Part e) = 1

module _ (program : Core) (context : Context) (nodes : ℕ) (world : World) where
  abbrev C : ℕ → Focus → List Frame → Focus → List Frame → Type 0
  C = Comes program context nodes world

  abbrev pub to : ℕ → Focus → List Frame → Did
  to w f k = Go (weighing w) [] world (at program context nodes f k)

  pub weaker : (m n : ℕ) (f : Focus) (k : List Frame) (g : Focus) (l : List Frame) → m ≤ n → C m f k g l → C n f k g l
  weaker m n f k g l h (There i e j) = There n e j
  weaker m n f k g l h (Goes i w r e j f' k' e' j' eq deep le c) = Goes n w r e j f' k' e' j' eq deep (omega (arith, h, le)) c

  pub seq : (m n : ℕ) (f : Focus) (k : List Frame) (g : Focus) (l : List Frame) (h : Focus) (j : List Frame) → C m f k g l → C n g l h j → C (m + n) f k h j
  seq m n f k g l h j (There i e o) d = weaker n (m + n) e o h j (omega arith) d
  seq m n f k g l h j (Goes i w r e o f' k' e' o' eq deep le c) d = Goes (m + n) w (r + n) e o f' k' h j eq deep (omega (arith, le)) (seq r n f' k' e' o' h j c d)

  pub step : (w n : ℕ) (f : Focus) (k : List Frame) (f' : Focus) (k' : List Frame) → depth_of k ≡ depth_of k' → (g : Focus) (l : List Frame)
      → focused program context nodes world f k ≡ to w f' k' → C n f' k' g l → C (w + n) f k g l
  step w n f k f' k' deep g l eq c = Goes (w + n) w n f k f' k' g l eq deep (omega arith) c

  pub name_gives : (env : List Value) (level : ℕ) (w : Value) → Reads env level w → Gives program context nodes world 0 env (name (length env) level) w
  name_gives env level w r k =
      Goes 0 0 0 (Eval (name (length env) level) env) k (Give w) k (Give w) k
      (ap (λ o. on_some (stuck program context nodes world) o (λ v. move program context nodes world (Give v) k)) (r.1)) refl (omega arith) (There 0 (Give w) k)

  pub source_gives : (v : Source) (env : List Value) (w : Value) → Stands program context nodes world env v w → Gives program context nodes world (cost_of v) env (value_of v (length env)) w
  source_gives (Named level) env w s = name_gives env level w s
  source_gives (Part e) env w s = s

  -- what is done with one value
  pub on_one : (n m : ℕ) (goal : Goal) (e : Exp) (env : List Value) (w : Value) (k : List Frame) (f' : Focus) (k' : List Frame) → depth_of k ≡ depth_of k'
      → Gives program context nodes world n env e w → act program context nodes world goal (w ∷ []) env k ≡ to m f' k' → C (n + m) (Eval (Do goal (one e)) env) k f' k'
  on_one n m goal e env w k f' k' deep g eq =
      weaker (0 + (n + (m + 0))) (n + m) (Eval (Do goal (one e)) env) k f' k' (omega arith)
      (step 0 (n + (m + 0)) (Eval (Do goal (one e)) env) k (Eval e env) (Arguments goal [] NoExp env ∷ k) refl f' k' refl
      (seq n (m + 0) (Eval e env) (Arguments goal [] NoExp env ∷ k) (Give w) (Arguments goal [] NoExp env ∷ k) f' k' (g (Arguments goal [] NoExp env ∷ k))
      (step m 0 (Give w) (Arguments goal [] NoExp env ∷ k) f' k' deep f' k' eq (There 0 f' k'))))

  -- ends of branches are left
  pub pop : (js : List Frame) (v : Value) (k : List Frame) → Joins js → C 0 (Give v) (js ++ k) (Give v) k
  pop [] v k h = There 0 (Give v) k
  pop (Join ∷ js) v k h = Goes 0 0 0 (Give v) (Join ∷ (js ++ k)) (Give v) (js ++ k) (Give v) k refl refl (omega arith) (pop js v k h)
  pop (Arguments g d r e ∷ js) v k h = absurd h
  pop (Looping e f ∷ js) v k h = absurd h
  pop (Labelled ∷ js) v k h = absurd h
  pop (Trying e f ∷ js) v k h = absurd h
  pop (Caller n g ∷ js) v k h = absurd h
