-- A value goes into a message where its outermost part and the values inside it do.
use Rattle.std.proofs.Common.{◌≡◌, ◌+◌, ◌≤◌, List, [], ◌∷◌, ◌++◌, Bool, true, false, ◌&&◌, Option, Some, None, refl, sym, ap, ◌∙◌, arith}
use Rattle.std.specs.Prelude.{is_some}
use Rattle.std.proofs.Common.{append_assoc}
use Rattle.mo_types.specs.declared.datum.Datum.{Datum}
use Rattle.mo_types.specs.declared.node.Node.{Node}
use Rattle.mo_types.specs.declared.node.Node.TheVariants as node
use Rattle.mo_types.specs.Values as message
use Rattle.mo_types.specs.Heads.{is_any}
use Rattle.mo_values.specs.Messages.{count, part_at, types_inside, message_of, function_at, both, plain_at, plain_each}
use Rattle.mo_values.specs.Shapes.{Head, Shapes, Made, Function, NoShape, AShape, size_all}
use Rattle.arena_messages.specs.Inside.{At, at, asked, total}
use Rattle.arena_messages.specs.Goes.{goes, all_go, parts, all_parts}

-- ---- tests

pub and_assoc : (a b c : Bool) → ((a && b) && c) ≡ (a && (b && c))
and_assoc true b c = refl
and_assoc false b c = refl

pub and_swap : (a b : Bool) → (a && b) ≡ (b && a)
and_swap true true = refl
and_swap true false = refl
and_swap false true = refl
and_swap false false = refl

pub and_true : (a b : Bool) → (a && b) ≡ true → (a ≡ true) × (b ≡ true)
and_true true b e = (refl, e)
and_true false b e = cc

pub both_some : {V : Type 0} (o : Option V) (r : Option (List V)) → is_some (both o r) ≡ (is_some o && is_some r)
both_some None r = refl
both_some (Some v) None = refl
both_some (Some v) (Some vs) = refl

module _ {A : Type 0} where
  message_some : (n : Node A) (h : Head) (o : Option Datum) (r : Option (List message.Values)) → is_some (message_of n h o r) ≡ (is_some o && is_some r)
  message_some n h None r = refl
  message_some n h (Some p) None = refl
  message_some n h (Some p) (Some vs) = refl

  pub any_goes : (n : Node A) → is_some (function_at n) ≡ is_any n
  any_goes node.Any = refl
  any_goes _ = refl

module _ {A F : Type 0} where
  pub asked_size : (ts : List (Option A)) (vs : Shapes F) → total (asked ts vs) ≤ size_all vs
  asked_size [] vs = omega arith
  asked_size (t ∷ ts) NoShape = omega arith
  asked_size (None ∷ ts) (AShape v vs) = omega (arith, asked_size ts vs)
  asked_size (Some t ∷ ts) (AShape v vs) = omega (arith, asked_size ts vs)

  pub total_append : (xs ys : List (At A F)) → total (xs ++ ys) ≡ total xs + total ys
  total_append [] ys = omega arith
  total_append (x ∷ xs) ys = omega (arith, total_append xs ys)

module _ {A F : Type 0} (head : A → Node A) where
  pub each_goes : (ts : List (Option A)) (vs : Shapes F) → is_some (plain_each head ts vs) ≡ all_go head (asked ts vs)
  each_goes [] vs = refl
  each_goes (t ∷ ts) NoShape = refl
  each_goes (None ∷ ts) (AShape v vs) = both_some (Some message.Nil) (plain_each head ts vs) ∙ each_goes ts vs
  each_goes (Some t ∷ ts) (AShape v vs) = both_some (plain_at head (Some t) v) (plain_each head ts vs) ∙ ap (λ b. goes head (at t v) && b) (each_goes ts vs)

  pub made_goes : (t : A) (h : Head) (vs : Shapes F)
      → goes head (at t (Made h vs)) ≡ (is_some (part_at (head t) h (count vs)) && all_go head (asked (types_inside (head t) h (count vs)) vs))
  made_goes t h vs =
      message_some (head t) h (part_at (head t) h (count vs)) (plain_each head (types_inside (head t) h (count vs)) vs)
      ∙ ap (λ b. is_some (part_at (head t) h (count vs)) && b) (each_goes (types_inside (head t) h (count vs)) vs)

  pub function_goes : (t : A) (f : F) → goes head (at t (Function f)) ≡ is_any (head t)
  function_goes t f = any_goes (head t)

  pub all_append : (xs ys : List (At A F)) → all_go head (xs ++ ys) ≡ (all_go head xs && all_go head ys)
  all_append [] ys = refl
  all_append (x ∷ xs) ys = ap (λ b. goes head x && b) (all_append xs ys) ∙ sym (and_assoc (goes head x) (all_go head xs) (all_go head ys))

  pub parts_append : (xs ys : List (At A F)) → all_parts head (xs ++ ys) ≡ all_parts head xs ++ all_parts head ys
  parts_append [] ys = refl
  parts_append (x ∷ xs) ys = ap (λ l. parts head x ++ l) (parts_append xs ys) ∙ sym (append_assoc (parts head x) (all_parts head xs) (all_parts head ys))
