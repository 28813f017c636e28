-- The parts of a value are its outermost one and then those of the values inside it.
use Rattle.std.proofs.Common.{◌≡◌, ℕ, List, [], ◌∷◌, ◌++◌, true, Option, Some, None, refl, ap, ◌∙◌}
use Rattle.std.specs.Prelude.{is_some}
use Rattle.std.proofs.lemmas.List.{append-nil}
use Rattle.mo_types.specs.declared.datum.Datum.{Datum}
use Rattle.mo_types.specs.declared.node.Node.{Node}
use Rattle.mo_types.specs.declared.node.Node.TheVariants as node
use Rattle.mo_types.specs.Values as message
use Rattle.mo_types.specs.Values.{flat, by_label}
use Rattle.mo_values.specs.Messages.{count, value_or_none, part_at, types_inside, inside_at, message_of, plain_each}
use Rattle.mo_values.specs.Shapes.{Head, Object, Shapes, Made}
use Rattle.arena_messages.specs.Inside.{at, in_order}
use Rattle.arena_messages.specs.Goes.{goes, parts, all_parts}
use Rattle.arena_messages.proofs.Labelled.{each_parts, field_parts}

module _ {A F : Type 0} (head : A → Node A) where
  inside_parts : (n : Node A) (h : Head) (k : ℕ) (vs : Shapes F) (ms : List message.Values) → plain_each head (types_inside n h k) vs ≡ Some ms → flat (inside_at n h ms) ≡ all_parts head (in_order n h k vs)
  inside_parts (node.Object fs) (Object ls) k vs ms e = field_parts head fs ls vs ms e (by_label fs)
  inside_parts n h k vs ms e = each_parts head (types_inside n h k) vs ms e

  made_parts : (n : Node A) (h : Head) (k : ℕ) (vs : Shapes F) (o : Option Datum) (r : Option (List message.Values)) (p : Datum)
      → plain_each head (types_inside n h k) vs ≡ r → o ≡ Some p → is_some (message_of n h o r) ≡ true → flat (value_or_none (message_of n h o r)) ≡ p ∷ all_parts head (in_order n h k vs)
  made_parts n h k vs None r p e f g = cc
  made_parts n h k vs (Some q) None p e f g = cc
  made_parts n h k vs (Some q) (Some ms) p e f g =
      let same : q ≡ p = cc in
      ap (λ (x : Datum). x ∷ flat (inside_at n h ms) ++ []) same ∙ ap (λ (l : List Datum). p ∷ l) (append-nil (flat (inside_at n h ms)) ∙ inside_parts n h k vs ms e)

  pub parts_of_made : (t : A) (h : Head) (vs : Shapes F) (p : Datum) → part_at (head t) h (count vs) ≡ Some p → goes head (at t (Made h vs)) ≡ true
      → parts head (at t (Made h vs)) ≡ p ∷ all_parts head (in_order (head t) h (count vs) vs)
  parts_of_made t h vs p e g = made_parts (head t) h (count vs) vs (part_at (head t) h (count vs)) (plain_each head (types_inside (head t) h (count vs)) vs) p refl e g
