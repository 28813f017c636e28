-- Expressions nest less than a number by their parts.
use Rattle.std.proofs.Common.{◌≡◌, ◌≤◌, ◌<◌, ℕ, suc, ◌+◌, Bool, true, false, sym, subst, arith}
use Rattle.std.specs.Prelude.{max, cond}
use Rattle.mo_values.specs.declared.operation.Operation.{Operation}
use Rattle.typed_tree.specs.declared.action.Action.{Action}
use Rattle.typed_tree.specs.Language.{Value, Exp, Exps, Cases, Val, Name, Do, If, Switch, Label, While, Repeat, For, Try, Update, NoExp, AnExp, NoCase, ACase}
use Rattle.typed_tree.specs.Patterns.{Pat}
use Rattle.typed_tree.specs.View.{endless}
use Rattle.nesting.specs.Shapes.{tests, least, is_true, is_one, nest, nest_all, nest_cases, pile, pile_all, pile_cases, IsPlain, IsWritten, ShapedAll, ShapedCases, Fine}

-- operands and cases that nest no more than this
pub record Few (k : ℕ) (es : Exps) : Type 0 where
  pub few : nest_all es ≤ k
  pub light : pile_all 1 1 es ≤ k
  pub shaped : ShapedAll es

pub record CasesFew (k : ℕ) (cases : Cases) : Type 0 where
  pub few : nest_cases cases ≤ k
  pub light : pile_cases 1 1 cases ≤ k
  pub shaped : ShapedCases cases

pub is_fine : (k : ℕ) (x y : Exp) → x ≡ y → Fine k y → Fine k x
is_fine k x y q h = subst (λ e. Fine k e) (sym q) h

pub weaken : (k l : ℕ) (e : Exp) → k ≤ l → Fine k e → Fine l e
weaken k l e m h = record { few = let x : nest e < k = h.few in omega (arith, m, x); light = let x : pile 1 1 e < k = h.light in omega (arith, m, x); shaped = h.shaped }

pub value_fine : (v : Value) → IsPlain v → Fine 1 (Val v)
value_fine v h = record { few = omega arith; light = omega arith; shaped = h }

pub name_fine : (x : ℕ) → Fine 1 (Name x)
name_fine x = record { few = omega arith; light = omega arith; shaped = tt }

-- ---- actions

pub none_fine : (a : Action) → IsWritten a → least a ≡ 0 → Fine 1 (Do a NoExp)
none_fine a w l = record { few = omega (arith, l); light = omega (arith, l); shaped = (w, tt) }

pub do_fine : (a : Action) (es : Exps) (k : ℕ) → IsWritten a → least a ≡ 0 → Few k es → Fine (suc k) (Do a es)
do_fine a es k w l h = record { few = let x : nest_all es ≤ k = h.few in omega (arith, l, x); light = let x : pile_all 1 1 es ≤ k = h.light in omega (arith, l, x); shaped = (w, h.shaped) }

pub one_fine : (a : Action) (e : Exp) (k : ℕ) → IsWritten a → least a ≡ 0 → Fine k e → Fine k (Do a (AnExp e NoExp))
one_fine a e k w l h = record { few = let x : nest e < k = h.few in omega (arith, l, x); light = let x : pile 1 1 e < k = h.light in omega (arith, l, x); shaped = (w, (h.shaped, tt)) }

-- of an `await` or an `!`
pub deep_fine : (a : Action) (e : Exp) (k : ℕ) → IsWritten a → least a ≤ 1 → Fine k e → Fine (suc k) (Do a (AnExp e NoExp))
deep_fine a e k w l h = record { few = let x : nest e < k = h.few in omega (arith, l, x); light = let x : pile 1 1 e < k = h.light in omega (arith, l, x); shaped = (w, (h.shaped, tt)) }

pub two_fine : (a : Action) (x y : Exp) (k l : ℕ) → IsWritten a → least a ≡ 0 → Fine k x → Fine l y → Fine (k + l) (Do a (AnExp x (AnExp y NoExp)))
two_fine a x y k l w z h i = record {
  few = let u : nest x < k = h.few in let v : nest y < l = i.few in omega (arith, z, u, v);
  light = let u : pile 1 1 x < k = h.light in let v : pile 1 1 y < l = i.light in omega (arith, z, u, v);
  shaped = (w, (h.shaped, (i.shaped, tt)));
}

pub three_fine : (a : Action) (x y z : Exp) (k l m : ℕ) → IsWritten a → least a ≡ 0 → Fine k x → Fine l y → Fine m z → Fine (k + l + m) (Do a (AnExp x (AnExp y (AnExp z NoExp))))
three_fine a x y z k l m w r h i j = record {
  few = let u : nest x < k = h.few in let v : nest y < l = i.few in let t : nest z < m = j.few in omega (arith, r, u, v, t);
  light = let u : pile 1 1 x < k = h.light in let v : pile 1 1 y < l = i.light in let t : pile 1 1 z < m = j.light in omega (arith, r, u, v, t);
  shaped = (w, (h.shaped, (i.shaped, (j.shaped, tt))));
}

pub no_operands : Few 0 NoExp
no_operands = record { few = omega arith; light = omega arith; shaped = tt }

pub more_operands : (e : Exp) (es : Exps) (k l : ℕ) → Fine k e → Few l es → Few (k + l) (AnExp e es)
more_operands e es k l h i = record {
  few = let x : nest e < k = h.few in let y : nest_all es ≤ l = i.few in omega (arith, x, y);
  light = let x : pile 1 1 e < k = h.light in let y : pile_all 1 1 es ≤ l = i.light in omega (arith, x, y);
  shaped = (h.shaped, i.shaped);
}

-- ---- choices

pub if_fine : (c a b : Exp) (k l m : ℕ) → Fine k c → Fine l a → Fine m b → Fine (k + l + m) (If c a b)
if_fine c a b k l m h i j = record {
  few = let x : nest c < k = h.few in let y : nest a < l = i.few in let z : nest b < m = j.few in omega (arith, x, y, z);
  light = let x : pile 1 1 c < k = h.light in let y : pile 1 1 a < l = i.light in let z : pile 1 1 b < m = j.light in omega (arith, x, y, z);
  shaped = (h.shaped, i.shaped, j.shaped);
}

pub no_cases : CasesFew 0 NoCase
no_cases = record { few = omega arith; light = omega arith; shaped = tt }

pub more_cases : (p : Pat) (e : Exp) (cases : Cases) (m k l : ℕ) → tests p ≤ m → Fine k e → CasesFew l cases → CasesFew (m + k + l) (ACase p e cases)
more_cases p e cases m k l t h i = record {
  few = let x : nest e < k = h.few in let y : nest_cases cases ≤ l = i.few in omega (arith, t, x, y);
  light = let x : pile 1 1 e < k = h.light in let y : pile_cases 1 1 cases ≤ l = i.light in omega (arith, t, x, y);
  shaped = (h.shaped, i.shaped);
}

labelled_few : (b : Bool) (n : ℕ) → cond b n (suc n) ≤ suc n
labelled_few true n = omega arith
labelled_few false n = omega arith

pub switch_fine : (e : Exp) (cases : Cases) (k l : ℕ) → Fine k e → CasesFew l cases → Fine (suc (k + l)) (Switch e cases)
switch_fine e cases k l h i = record {
  few =
      let x : nest e < k = h.few in
      let y : nest_cases cases ≤ l = i.few in
      let z : cond (is_one cases) (nest_cases cases) (suc (nest_cases cases)) ≤ suc (nest_cases cases) = labelled_few (is_one cases) (nest_cases cases) in
      omega (arith, x, y, z);
  light =
      let x : pile 1 1 e < k = h.light in
      let y : pile_cases 1 1 cases ≤ l = i.light in
      omega (arith, x, y);
  shaped = (h.shaped, i.shaped);
}

pub try_fine : (a : Exp) (p : Pat) (b : Exp) (k m l : ℕ) → Fine k a → tests p ≤ m → Fine l b → Fine (suc (k + m + l)) (Try a p b)
try_fine a p b k m l h t i = record {
  few = let x : nest a < k = h.few in let y : nest b < l = i.few in omega (arith, x, y, t);
  light = let x : pile 1 1 a < k = h.light in let y : pile 1 1 b < l = i.light in omega (arith, x, y, t);
  shaped = (h.shaped, i.shaped);
}

pub update_fine : (o : Operation) (e f : Exp) (k l : ℕ) → Fine k e → Fine l f → Fine (k + l) (Update o e f)
update_fine o e f k l h i = record {
  few = let x : nest e < k = h.few in let y : nest f < l = i.few in omega (arith, x, y);
  light = let x : pile 1 1 e < k = h.light in let y : pile 1 1 f < l = i.light in omega (arith, x, y);
  shaped = (h.shaped, i.shaped);
}

-- ---- labels and loops

pub label_fine : (e : Exp) (k : ℕ) → Fine k e → Fine (suc k) (Label e)
label_fine e k h = record { few = let x : nest e < k = h.few in omega (arith, x); light = let x : pile 1 1 e < k = h.light in omega (arith, x); shaped = h.shaped }

turns_few : (b : Bool) (c n : ℕ) → cond b n (suc (max 1 (max c n))) ≤ suc (max 1 (max c n))
turns_few true c n = omega arith
turns_few false c n = omega arith

pub while_few : (c b : Exp) → nest (While c b) ≤ suc (max 1 (max (nest c) (nest b)))
while_few c b = turns_few (is_true c) (nest c) (nest b)

pub while_fine : (c b : Exp) (k l : ℕ) → Fine k c → Fine l b → Fine (suc (k + l)) (While c b)
while_fine c b k l h i = record {
  few = let x : nest c < k = h.few in let y : nest b < l = i.few in let z : nest (While c b) ≤ suc (max 1 (max (nest c) (nest b))) = while_few c b in omega (arith, x, y, z);
  light = let x : pile 1 1 c < k = h.light in let y : pile 1 1 b < l = i.light in omega (arith, x, y);
  shaped = (h.shaped, i.shaped);
}

-- with a label that `continue` leaves
pub label_while : (c b : Exp) (k l : ℕ) → Fine k c → Fine l b → Fine (suc (suc (k + l))) (Label (While c (Label b)))
label_while c b k l h i = record {
  few = let x : nest c < k = h.few in let y : nest b < l = i.few in let z : nest (While c (Label b)) ≤ suc (max 1 (max (nest c) (suc (nest b)))) = while_few c (Label b) in omega (arith, x, y, z);
  light = let x : pile 1 1 c < k = h.light in let y : pile 1 1 b < l = i.light in omega (arith, x, y);
  shaped = (h.shaped, i.shaped);
}

-- behind a loop without a condition stands one more case
pub endless_fine : (b : Exp) (k : ℕ) → Fine k b → Fine (suc k) (endless b)
endless_fine b k h = record {
  few = let x : nest b < k = h.few in omega (arith, x);
  light = let x : pile 1 1 b < k = h.light in omega (arith, x);
  shaped = ((tt, h.shaped), ((tt, tt), tt));
}

pub label_endless : (b : Exp) (k : ℕ) → Fine k b → Fine (suc (suc k)) (Label (endless (Label b)))
label_endless b k h = record {
  few = let x : nest b < k = h.few in omega (arith, x);
  light = let x : pile 1 1 b < k = h.light in omega (arith, x);
  shaped = ((tt, h.shaped), ((tt, tt), tt));
}

pub repeat_fine : (b c : Exp) (k l : ℕ) → Fine k b → Fine l c → Fine (suc (k + l)) (Repeat b c)
repeat_fine b c k l h i = record { few = let x : nest b < k = h.few in let y : nest c < l = i.few in omega (arith, x, y); light = let x : pile 1 1 b < k = h.light in let y : pile 1 1 c < l = i.light in omega (arith, x, y); shaped = (h.shaped, i.shaped) }

pub label_repeat : (b c : Exp) (k l : ℕ) → Fine k b → Fine l c → Fine (suc (suc (k + l))) (Label (Repeat (Label b) c))
label_repeat b c k l h i = record {
  few = let x : nest b < k = h.few in let y : nest c < l = i.few in omega (arith, x, y);
  light = let x : pile 1 1 b < k = h.light in let y : pile 1 1 c < l = i.light in omega (arith, x, y);
  shaped = (h.shaped, i.shaped);
}

pub for_fine : (p : Pat) (e b : Exp) (m k l : ℕ) → tests p ≤ m → Fine k e → Fine l b → Fine (suc (m + k + l)) (For p e b)
for_fine p e b m k l t h i = record { few = let x : nest e < k = h.few in let y : nest b < l = i.few in omega (arith, t, x, y); light = let x : pile 1 1 e < k = h.light in let y : pile 1 1 b < l = i.light in omega (arith, t, x, y); shaped = (h.shaped, i.shaped) }

pub label_for : (p : Pat) (e b : Exp) (m k l : ℕ) → tests p ≤ m → Fine k e → Fine l b → Fine (suc (suc (m + k + l))) (Label (For p e (Label b)))
label_for p e b m k l t h i = record {
  few = let x : nest e < k = h.few in let y : nest b < l = i.few in omega (arith, t, x, y);
  light = let x : pile 1 1 e < k = h.light in let y : pile 1 1 b < l = i.light in omega (arith, t, x, y);
  shaped = (h.shaped, i.shaped);
}
