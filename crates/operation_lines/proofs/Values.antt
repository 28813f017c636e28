-- What primitives see of their operands, and the words that stand for these.
use Rattle.std.proofs.Common.{◌≡◌, ℕ, zero, suc, ◌<◌, ◌^◌, List, Bool, true, false, ◌&&◌, cond, Option, Some, None, Result, Ok, Err, ℤ, pos, negsuc, refl, ap, subst, arith}
use Rattle.std.specs.Prelude.{int_le, int_div, int_rem}
use Rattle.std.specs.Int.{int_pow}
use Rattle.std.specs.Str.{is_utf8}
use Rattle.std.proofs.lemmas.Int.{ints}
use Rattle.mo_num.specs.declared.kind.Kind.{Kind}
use Rattle.mo_num.specs.declared.operator.NumTrap.{NumTrap}
use Rattle.mo_num.specs.declared.operator.NumTrap.TheVariants.{Overflow}
use Rattle.mo_num.specs.declared.operator.Operator.{Operator}
use Rattle.mo_num.specs.declared.operator.Operator.TheVariants as operator
use Rattle.mo_num.specs.Kinds.{least, greatest, InRange}
use Rattle.mo_num.specs.Arith.{Arith, within, below, divided}
use Rattle.mo_num.proofs.Ranges.{in_bounds}
use Rattle.mo_types.specs.declared.datum.Datum.{Datum}
use Rattle.mo_types.specs.declared.datum.Datum.TheVariants as part
use Rattle.mo_types.specs.declared.node.Node.TheVariants as node
use Rattle.mo_values.specs.declared.operation.Scalar.{Scalar}
use Rattle.mo_values.specs.Messages.{only_if}
use Rattle.mo_values.specs.Parts.{is_in_range, is_leaf_of}
use Rattle.mo_values.specs.Shapes.{Leaf, Present, Tuple, Array, Object, Tag, Error, Cell, Future, Bytes, Shapes, Made, Function, NoShape, AShape, leaf, listed}
use Rattle.mo_values.specs.Views as views
use Rattle.mo_values.specs.Views.{Answer, given, number_in, flag_in, text_in, leaf_if, leaf_of, number_of, flag_of, text_of, tuple_of, scalar_of, scalar_type}
use Rattle.core_ir.specs.Values.{Handle, Value, cell, cell_of}
use Rattle.wasm_tree.specs.Numeric.{flag}
use Rattle.wasm_tree.specs.Exec.{bits64}
use Rattle.heap_layout.specs.Ghosts.{Ghost}
use Rattle.heap_layout.specs.Means.{Means, Rep}

-- ---- results are values of their kinds

pub within_in : (k : Kind) (t : NumTrap) (z n : ℤ) → within k t z ≡ Ok n → InRange k n
within_in k t z n e = by (int_le (least k) z) refl (int_le z (greatest k)) refl e
  where
    by : (s : Bool) → int_le (least k) z ≡ s → (u : Bool) → int_le z (greatest k) ≡ u → cond {A = Result ℤ NumTrap} (s && u) (Ok z) (Err t) ≡ Ok n → InRange k n
    by true p true q e = let same : z ≡ n = cc in subst (InRange k) same (omega (arith, ints, p), omega (arith, ints, q))
    by true p false q e = absurd (cc e)
    by false p u q e = absurd (cc e)

divided_in : (b : ℤ) (k : Kind) (z n : ℤ) → divided b (within k Overflow z) ≡ Ok n → InRange k n
divided_in (pos zero) k z n e = absurd (cc e)
divided_in (pos (suc b)) k z n e = within_in k Overflow z n e
divided_in (negsuc b) k z n e = within_in k Overflow z n e

pub arith_in : (o : Operator) (k : Kind) (a b n : ℤ) → Arith o k a b ≡ Ok n → InRange k n
arith_in operator.Add k a b n e = within_in k Overflow _ n e
arith_in operator.Sub k a b n e = within_in k (below k) _ n e
arith_in operator.Mul k a b n e = within_in k Overflow _ n e
arith_in operator.Div k a b n e = divided_in b k (int_div a b) n e
arith_in operator.Rem k a b n e = divided_in b k (int_rem a b) n e
arith_in operator.Pow k a (pos b) n e = within_in k Overflow (int_pow a b) n e
arith_in operator.Pow k a (negsuc b) n e = absurd (cc e)

pub range_small : (k : Kind) (n : ℤ) → InRange k n → bits64 n < 2 ^ 64
range_small k (pos n) r = let b = in_bounds k (pos n) r in let hi = b.1 in omega (arith, ints, hi)
range_small k (negsuc n) r = omega arith

pub in_range_of : (k : Kind) (n : ℤ) → is_in_range k n ≡ true → InRange k n
in_range_of k n e = by (int_le (least k) n) refl (int_le n (greatest k)) refl e
  where
    by : (s : Bool) → int_le (least k) n ≡ s → (u : Bool) → int_le n (greatest k) ≡ u → (s && u) ≡ true → InRange k n
    by true p true q e = (omega (arith, ints, p), omega (arith, ints, q))
    by true p false q e = absurd (cc e)
    by false p u q e = absurd (cc e)

-- ---- what is seen of a value, where something is

module _ (B : Answer Handle → Type 0) (otherwise : B views.Stuck) where
  -- a value without parts
  pub by_scalar : (s : Scalar) (v : Value) (F : Datum → Answer Handle) → ((p : Datum) → v ≡ leaf p → is_leaf_of (scalar_type s) p ≡ true → B (F p)) → B (given (scalar_of s v) F)
  by_scalar s (Made (Leaf p) NoShape) F then = by (is_leaf_of (scalar_type s) p) refl
    where
      by : (t : Bool) → is_leaf_of (scalar_type s) p ≡ t → B (given (only_if t p) F)
      by true e = then p refl e
      by false e = otherwise
  by_scalar s (Made (Leaf p) (AShape v vs)) F then = otherwise
  by_scalar s (Made Present vs) F then = otherwise
  by_scalar s (Made Tuple vs) F then = otherwise
  by_scalar s (Made Array vs) F then = otherwise
  by_scalar s (Made (Object ls) vs) F then = otherwise
  by_scalar s (Made (Tag l) vs) F then = otherwise
  by_scalar s (Made (Error c t) vs) F then = otherwise
  by_scalar s (Made (Cell n) vs) F then = otherwise
  by_scalar s (Made (Future n) vs) F then = otherwise
  by_scalar s (Function f) F then = otherwise

  number_leaf : (k : Kind) (p : Datum) (F : ℤ → Answer Handle) → ((n : ℤ) → p ≡ part.Number n → InRange k n → B (F n)) → B (given (number_in (leaf_if (node.Number k) (Some p))) F)
  number_leaf k (part.Number n) F then = by (is_in_range k n) refl
    where
      by : (t : Bool) → is_in_range k n ≡ t → B (given (number_in (only_if t (part.Number n))) F)
      by true e = then n refl (in_range_of k n e)
      by false e = otherwise
  number_leaf k part.Null F then = otherwise
  number_leaf k (part.Flag b) F then = otherwise
  number_leaf k (part.Char c) F then = otherwise
  number_leaf k (part.Text t) F then = otherwise
  number_leaf k (part.Blob t) F then = otherwise
  number_leaf k (part.Principal t) F then = otherwise
  number_leaf k (part.Actor t) F then = otherwise
  number_leaf k (part.Method t n) F then = otherwise
  number_leaf k part.Present F then = otherwise
  number_leaf k (part.Many n) F then = otherwise
  number_leaf k (part.Record n) F then = otherwise
  number_leaf k (part.Tag n) F then = otherwise

  pub by_number : (k : Kind) (v : Value) (F : ℤ → Answer Handle) → ((n : ℤ) → v ≡ leaf (part.Number n) → InRange k n → B (F n)) → B (given (number_of k v) F)
  by_number k (Made (Leaf p) NoShape) F then = number_leaf k p F (λ n e r. then n (ap (λ p. Made (Leaf p) NoShape) e) r)
  by_number k (Made (Leaf p) (AShape v vs)) F then = otherwise
  by_number k (Made Present vs) F then = otherwise
  by_number k (Made Tuple vs) F then = otherwise
  by_number k (Made Array vs) F then = otherwise
  by_number k (Made (Object ls) vs) F then = otherwise
  by_number k (Made (Tag l) vs) F then = otherwise
  by_number k (Made (Error c t) vs) F then = otherwise
  by_number k (Made (Cell n) vs) F then = otherwise
  by_number k (Made (Future n) vs) F then = otherwise
  by_number k (Function f) F then = otherwise

  flag_leaf : (p : Datum) (F : Bool → Answer Handle) → ((b : Bool) → p ≡ part.Flag b → B (F b)) → B (given (flag_in (leaf_if node.Bool (Some p))) F)
  flag_leaf (part.Flag b) F then = then b refl
  flag_leaf (part.Number n) F then = otherwise
  flag_leaf part.Null F then = otherwise
  flag_leaf (part.Char c) F then = otherwise
  flag_leaf (part.Text t) F then = otherwise
  flag_leaf (part.Blob t) F then = otherwise
  flag_leaf (part.Principal t) F then = otherwise
  flag_leaf (part.Actor t) F then = otherwise
  flag_leaf (part.Method t n) F then = otherwise
  flag_leaf part.Present F then = otherwise
  flag_leaf (part.Many n) F then = otherwise
  flag_leaf (part.Record n) F then = otherwise
  flag_leaf (part.Tag n) F then = otherwise

  pub by_flag : (v : Value) (F : Bool → Answer Handle) → ((b : Bool) → v ≡ leaf (part.Flag b) → B (F b)) → B (given (flag_of v) F)
  by_flag (Made (Leaf p) NoShape) F then = flag_leaf p F (λ b e. then b (ap (λ p. Made (Leaf p) NoShape) e))
  by_flag (Made (Leaf p) (AShape v vs)) F then = otherwise
  by_flag (Made Present vs) F then = otherwise
  by_flag (Made Tuple vs) F then = otherwise
  by_flag (Made Array vs) F then = otherwise
  by_flag (Made (Object ls) vs) F then = otherwise
  by_flag (Made (Tag l) vs) F then = otherwise
  by_flag (Made (Error c t) vs) F then = otherwise
  by_flag (Made (Cell n) vs) F then = otherwise
  by_flag (Made (Future n) vs) F then = otherwise
  by_flag (Function f) F then = otherwise

-- ---- what may be seen of a value

module _ (B : Option Bytes → Type 0) (none : B None) where
  text_leaf : (p : Datum) → ((t : Bytes) → p ≡ part.Text t → B (Some t)) → B (text_in (leaf_if node.Text (Some p)))
  text_leaf (part.Text t) some = by (is_utf8 t)
    where
      by : (u : Bool) → B (text_in (only_if u (part.Text t)))
      by true = some t refl
      by false = none
  text_leaf part.Null some = none
  text_leaf (part.Flag b) some = none
  text_leaf (part.Number n) some = none
  text_leaf (part.Char c) some = none
  text_leaf (part.Blob t) some = none
  text_leaf (part.Principal t) some = none
  text_leaf (part.Actor t) some = none
  text_leaf (part.Method t n) some = none
  text_leaf part.Present some = none
  text_leaf (part.Many n) some = none
  text_leaf (part.Record n) some = none
  text_leaf (part.Tag n) some = none

  pub by_text : (v : Value) → ((t : Bytes) → v ≡ leaf (part.Text t) → B (Some t)) → B (text_of v)
  by_text (Made (Leaf p) NoShape) some = text_leaf p (λ t e. some t (ap (λ p. Made (Leaf p) NoShape) e))
  by_text (Made (Leaf p) (AShape v vs)) some = none
  by_text (Made Present vs) some = none
  by_text (Made Tuple vs) some = none
  by_text (Made Array vs) some = none
  by_text (Made (Object ls) vs) some = none
  by_text (Made (Tag l) vs) some = none
  by_text (Made (Error c t) vs) some = none
  by_text (Made (Cell n) vs) some = none
  by_text (Made (Future n) vs) some = none
  by_text (Function f) some = none

pub by_leaf : (B : Option Datum → Type 0) → B None → (v : Value) → ((p : Datum) → v ≡ leaf p → B (Some p)) → B (leaf_of v)
by_leaf B none (Made (Leaf p) NoShape) some = some p refl
by_leaf B none (Made (Leaf p) (AShape v vs)) some = none
by_leaf B none (Made Present vs) some = none
by_leaf B none (Made Tuple vs) some = none
by_leaf B none (Made Array vs) some = none
by_leaf B none (Made (Object ls) vs) some = none
by_leaf B none (Made (Tag l) vs) some = none
by_leaf B none (Made (Error c t) vs) some = none
by_leaf B none (Made (Cell n) vs) some = none
by_leaf B none (Made (Future n) vs) some = none
by_leaf B none (Function f) some = none

pub by_cell : (B : Option ℕ → Type 0) → B None → (v : Value) → ((n : ℕ) → v ≡ cell n → B (Some n)) → B (cell_of v)
by_cell B none (Made (Cell n) NoShape) some = some n refl
by_cell B none (Made (Cell n) (AShape v vs)) some = none
by_cell B none (Made (Leaf p) vs) some = none
by_cell B none (Made Present vs) some = none
by_cell B none (Made Tuple vs) some = none
by_cell B none (Made Array vs) some = none
by_cell B none (Made (Object ls) vs) some = none
by_cell B none (Made (Tag l) vs) some = none
by_cell B none (Made (Error c t) vs) some = none
by_cell B none (Made (Future n) vs) some = none
by_cell B none (Function f) some = none

pub by_tuple : (B : Option (List Value) → Type 0) → B None → (v : Value) → ((inside : Shapes Handle) → v ≡ Made Tuple inside → B (Some (listed inside))) → B (tuple_of v)
by_tuple B none (Made Tuple inside) some = some inside refl
by_tuple B none (Made (Leaf p) vs) some = none
by_tuple B none (Made Present vs) some = none
by_tuple B none (Made Array vs) some = none
by_tuple B none (Made (Object ls) vs) some = none
by_tuple B none (Made (Tag l) vs) some = none
by_tuple B none (Made (Error c t) vs) some = none
by_tuple B none (Made (Cell n) vs) some = none
by_tuple B none (Made (Future n) vs) some = none
by_tuple B none (Function f) some = none

-- ---- words of operands

-- the word of a number
pub number_word : (g : Ghost) (memory : List ℕ) (x : ℕ) (v : Value) (a : ℤ) → Rep g memory x v → v ≡ leaf (part.Number a) → x ≡ bits64 a
number_word g memory x v a r e = let m : Means g memory x (leaf (part.Number a)) = subst (λ v. Means g memory x v) e r.means in m

-- of a truth value
pub flag_word : (g : Ghost) (memory : List ℕ) (x : ℕ) (v : Value) (b : Bool) → Rep g memory x v → v ≡ leaf (part.Flag b) → x ≡ flag b
flag_word g memory x v b r e = let m : Means g memory x (leaf (part.Flag b)) = subst (λ v. Means g memory x v) e r.means in m
