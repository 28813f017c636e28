-- Arguments, and the bodies that are entered.
use Rattle.std.proofs.Common.{◌≡◌, ℕ, zero, suc, ◌+◌, ◌<◌, ◌≤◌, inl, inr, refl, sym, ap, ◌∙◌, subst, List, [], ◌∷◌, ◌++◌, length, replicate, Some, None, arith as arithmetic}
use Rattle.std.proofs.lemmas.List.{map-append}
use Rattle.mo_values.specs.Shapes.{unit}
use Rattle.core_ir.specs.declared.constant.Constant.TheVariants as constant
use Rattle.core_ir.specs.declared.code.Operand.{Operand}
use Rattle.core_ir.specs.declared.code.Operand.TheVariants.{Slot, Captured, Member, Global, Constant}
use Rattle.core_ir.specs.Choices.{nth}
use Rattle.core_ir.specs.Values.{Value, members}
use Rattle.core_ir.specs.Worlds.{Context}
use Rattle.core_ir.specs.Expressions as exp
use Rattle.core_ir.specs.Expressions.{Exp, Constant?, Name, Do, Exps, NoExp, AnExp, Goal, Core}
use Rattle.core_ir.specs.CoreMachine as core
use Rattle.core_ir.specs.CoreMachine.{Arguments, Looping, Labelled, Trying, Join, Eval, Give}
use Rattle.core_ir.specs.Code as instr
use Rattle.core_ir.specs.Code.{Code, Stop, Let, If, Match, Loop, Label, Branch, Leave, Pass, Make, Call, Tabulate, Send, Wait, Raise, Return, CodeProgram}
use Rattle.core_ir.specs.CodeMachine as code
use Rattle.core_ir.specs.CodeMachine.{Around, Within, Again, Place, settle, value, values, put, branch, onto, by_way, raise}
use Rattle.core_laws.specs.Slots.{operand, place, slots_from, members_from, captured_from}
use Rattle.core_laws.specs.Splits.{Splits, SplitsBody}
use Rattle.core_laws.proofs.Continuations.{Dest, To, Via, At, Apart, Below, ApartL, BelowL, Clear, Cont, apart_all}
use Rattle.core_laws.proofs.Unwinding.{need, on_leave, on_trying, below_all}
use Rattle.core_laws.proofs.Related.{Aim, Rel}

module _ (sizes : ℕ → ℕ) (context : Context) (nodes : ℕ) (source : Core) (program : CodeProgram) where
  nth_below : (h : ℕ) (ns : List Operand) (x : ℕ) → BelowL h ns → Below h (nth (Constant constant.Unit) ns x)
  nth_below h [] x b = tt
  nth_below h (n ∷ ns) zero b = b.0
  nth_below h (n ∷ ns) (suc x) b = nth_below h ns x (b.1)

  nth_apart : (u : ℕ) (ns : List Operand) (x : ℕ) → ApartL u ns → Apart u (nth (Constant constant.Unit) ns x)
  nth_apart u [] x b = tt
  nth_apart u (n ∷ ns) zero b = b.0
  nth_apart u (n ∷ ns) (suc x) b = nth_apart u ns x (b.1)

  pub more : (h h' : ℕ) (a : Operand) → h ≤ h' → Below h a → Below h' a
  more h h' (Slot x) l b = omega (arithmetic, l, b)
  more h h' (Captured x) l b = tt
  more h h' (Member m) l b = tt
  more h h' (Global i) l b = tt
  more h h' (Constant k) l b = tt

  -- where an argument goes, whose operand may read slot h
  abbrev pub Arg : Exp → ℕ → List Operand → List core.Frame → Code → Type 0
  Arg e h ns k c =
      record { D : Dest; aim : Aim sizes context nodes source program e (place e h) ns D; at : At D (operand ns e h); free : need sizes context nodes source e (place e h) k c ≡ 0; mine : (u : ℕ) → D ≡ To (Some u) → u ≡ h; clear : Clear sizes context.globals nodes (place e h) (suc h) ns; small : Below (suc h) (operand ns e h) }

  leave_zero : (c : Code) (n : ℕ) → n ≡ 0 → on_leave sizes context nodes source c n ≡ 0
  leave_zero (Leave j) n e = refl
  leave_zero c n e = e

  trying_zero : (k : List core.Frame) (n : ℕ) → n ≡ 0 → on_trying sizes context nodes source k n ≡ 0
  trying_zero (Trying b env ∷ k) n e = refl
  trying_zero k n e = e

  none_some : {A : Type 0} (u : ℕ) → None ≡ Some u → A
  none_some u e = absurd (let z : None ≡ Some u = e in cc)

  via_to : {A : Type 0} (a : Operand) (u : ℕ) → Via a ≡ To (Some u) → A
  via_to a u e = absurd (let z : Via a ≡ To (Some u) = e in cc)

  to_inj : (h u : ℕ) → To (Some h) ≡ To (Some u) → u ≡ h
  to_inj h u e = cc

  some_num : (h u : ℕ) → Some h ≡ Some u → u ≡ h
  some_num h u e = cc

  arg_slot : (h : ℕ) (ns : List Operand) (base : ℕ) → base ≤ h → BelowL base ns → Clear sizes context.globals nodes (Some h) (suc h) ns
  arg_slot h ns base l b = λ u e. let i = some_num h u e in (omega (arithmetic, i), apart_all base u ns (omega (arithmetic, i, l)) b)

  pub arg : (e : Exp) (h base : ℕ) (ns : List Operand) (k : List core.Frame) (c : Code) → base ≤ h → BelowL base ns → Arg e h ns k c
  arg (Constant? l) h base ns k c le b =
      record { D = Via (Constant l); aim = inr (refl, tt, refl); at = refl; free = refl; mine = λ u e. via_to _ u e; clear = λ u e. none_some u e; small = tt }
  arg (Name x) h base ns k c le b =
      record { D = Via (nth (Constant constant.Unit) ns x); aim = inr (refl, tt, refl); at = refl; free = refl; mine = λ u e. via_to _ u e; clear = λ u e. none_some u e; small = more base (suc h) (nth (Constant constant.Unit) ns x) (omega (arithmetic, le)) (nth_below base ns x b) }
  arg (exp.Global i) h base ns k c le b =
      record { D = Via (Global i); aim = inr (refl, tt, refl); at = refl; free = refl; mine = λ u e. via_to _ u e; clear = λ u e. none_some u e; small = tt }
  arg e h base ns k c le b =
      record { D = To (Some h); aim = inl refl; at = refl; free = leave_zero c _ (trying_zero k 0 refl); mine = λ u e. to_inj h u e; clear = arg_slot h ns base le b; small = omega arithmetic }

  -- an argument's operand is not the slot of the result
  pub arg_apart : (e : Exp) (h base u : ℕ) (ns : List Operand) → base ≤ h → u < base → ApartL u ns → Apart u (operand ns e h)
  arg_apart (Constant? l) h base u ns le a b = tt
  arg_apart (Name x) h base u ns le a b = nth_apart u ns x b
  arg_apart (exp.Global i) h base u ns le a b = tt
  arg_apart e h base u ns le a b = λ i. omega (arithmetic, i, le, a)

  -- the names of a body
  pub values_append : (f : code.Frame) (xs ys : List Operand) → values context.globals f (xs ++ ys) ≡ values context.globals f xs ++ values context.globals f ys
  values_append f xs ys = map-append (value context.globals f) xs ys

  abbrev of_slots : instr.Body → ℕ → List Value → List Value → code.Frame
  of_slots fun g seen sl = record { body = fun; group = g; seen = seen; slots = sl }

  slots_shift : (fun : instr.Body) (g : ℕ) (seen sl : List Value) (x : Value) (h n : ℕ) → values context.globals (of_slots fun g seen (x ∷ sl)) (slots_from (suc h) n) ≡ values context.globals (of_slots fun g seen sl) (slots_from h n)
  slots_shift fun g seen sl x h zero = refl
  slots_shift fun g seen sl x h (suc n) = ap (λ l. nth unit sl h ∷ l) (slots_shift fun g seen sl x (suc h) n)

  slots_read : (fun : instr.Body) (g : ℕ) (seen : List Value) (vs more : List Value) → values context.globals (of_slots fun g seen (vs ++ more)) (slots_from 0 (length vs)) ≡ vs
  slots_read fun g seen [] more = refl
  slots_read fun g seen (v ∷ vs) more = ap (λ l. v ∷ l) (slots_shift fun g seen (vs ++ more) v 0 (length vs) ∙ slots_read fun g seen vs more)

  members_read : (f : code.Frame) (h n : ℕ) → values context.globals f (members_from h n) ≡ members f.group h n
  members_read f h zero = refl
  members_read f h (suc n) = ap (λ l. value context.globals f (Member h) ∷ l) (members_read f (suc h) n)

  captured_shift : (fun : instr.Body) (g : ℕ) (seen sl : List Value) (x : Value) (h n : ℕ) → values context.globals (of_slots fun g (x ∷ seen) sl) (captured_from (suc h) n) ≡ values context.globals (of_slots fun g seen sl) (captured_from h n)
  captured_shift fun g seen sl x h zero = refl
  captured_shift fun g seen sl x h (suc n) = ap (λ l. nth unit seen h ∷ l) (captured_shift fun g seen sl x (suc h) n)

  captured_read : (fun : instr.Body) (g : ℕ) (seen sl : List Value) → values context.globals (of_slots fun g seen sl) (captured_from 0 (length seen)) ≡ seen
  captured_read fun g [] sl = refl
  captured_read fun g (v ∷ seen) sl = ap (λ l. v ∷ l) (captured_shift fun g seen sl v 0 (length seen) ∙ captured_read fun g seen sl)

  pub below_append : (h : ℕ) (xs ys : List Operand) → BelowL h xs → BelowL h ys → BelowL h (xs ++ ys)
  below_append h [] ys a b = b
  below_append h (x ∷ xs) ys a b = (a.0, below_append h xs ys (a.1) b)

  pub slots_below : (h n : ℕ) (x : ℕ) → x + n ≤ h → BelowL h (slots_from x n)
  slots_below h zero x l = tt
  slots_below h (suc n) x l = (omega (arithmetic, l), slots_below h n (suc x) (omega (arithmetic, l)))

  members_below : (h x n : ℕ) → BelowL h (members_from x n)
  members_below h x zero = tt
  members_below h x (suc n) = (tt, members_below h (suc x) n)

  captured_below : (h x n : ℕ) → BelowL h (captured_from x n)
  captured_below h x zero = tt
  captured_below h x (suc n) = (tt, captured_below h (suc x) n)

  -- the machines enter a body
  pub body_rel : (f : exp.Body) (x : instr.Body) (n seen : ℕ) → SplitsBody sizes n seen f x → (g : ℕ) (vs env : List Value) → length vs ≡ f.parameters → length env ≡ seen → (k : List core.Frame) (cs : List code.Caller) (p q : ℕ) → ((D : Dest) (o : Operand) → At D o → Cont sizes context.globals nodes k D (suc f.parameters) [] (Return o) [] (code.frame_of x g env vs) cs q) → q + 1 ≤ p → Rel sizes context nodes source program p 0 (core.at source context nodes (Eval f.expression (vs ++ (members g 0 n ++ env))) k) (code.at (code.first_of x.segments) [] (code.frame_of x g env vs) cs)
  body_rel f x n seen sp g vs env lv le k cs p q ct e =
      let ns = slots_from 0 f.parameters ++ (members_from 0 n ++ captured_from 0 seen) in
      let b : BelowL f.parameters ns = below_append f.parameters (slots_from 0 f.parameters) _ (slots_below f.parameters f.parameters 0 (omega arithmetic)) (below_append f.parameters (members_from 0 n) (captured_from 0 seen) (members_below f.parameters 0 n) (captured_below f.parameters 0 seen)) in
      let a = arg f.expression f.parameters f.parameters ns k (Return (operand ns f.expression f.parameters)) (omega arithmetic) b in
      let y = sp.body in
      let l : (y.2).0 ≡ Return (operand ns f.expression f.parameters) = (y.2).1 ∙ y.1 in
      let fr = code.frame_of x g env vs in
      let free = a.free in
      (refl, record { t = place f.expression f.parameters; D = a.D; h = suc f.parameters; ns = ns; ls = []; c = Return (operand ns f.expression f.parameters); d = code.first_of x.segments; ks = []; q = q; splits = subst (λ c. Splits sizes x.segments f.expression (place f.expression f.parameters) (suc f.parameters) ns [] c (code.first_of x.segments)) l ((y.2).2); cont = ct a.D (operand ns f.expression f.parameters) a.at; scope = values_append fr (slots_from 0 f.parameters) _ ∙ (let s1 : values context.globals fr (slots_from 0 f.parameters) ≡ vs = ap (λ n. values context.globals fr (slots_from 0 n)) (sym lv) ∙ slots_read x g env vs (replicate x.slots unit) in let s2 : values context.globals fr (members_from 0 n ++ captured_from 0 seen) ≡ members g 0 n ++ env = values_append fr (members_from 0 n) (captured_from 0 seen) ∙ (let s3 = members_read fr 0 n in let s4 : values context.globals fr (captured_from 0 seen) ≡ env = ap (λ n. values context.globals fr (captured_from 0 n)) (sym le) ∙ captured_read x g env fr.slots in cc (s3, s4)) in cc (s1, s2)); below = below_all sizes context nodes source f.parameters (suc f.parameters) ns (omega arithmetic) b; clear = a.clear; aim = a.aim; pos = inl (refl, refl); enough = omega (arithmetic, e, free) })
