-- The part that is all of a value.
use Rattle.std.proofs.Common.{◌≡◌, ℕ, Bool, true, false, ◌&&◌, Some, Result, Ok, Err, nat_eq, refl}
use Rattle.std.specs.Prelude.{IfOk, is_some}
use Rattle.mo_types.specs.declared.datum.Datum.{Datum}
use Rattle.mo_types.specs.declared.node.Node.{Node}
use Rattle.mo_types.specs.declared.node.Node.TheVariants as node
use Rattle.mo_types.specs.Heads.{is_any}
use Rattle.mo_values.specs.Messages.{only_if, part_at}
use Rattle.mo_values.specs.Parts.{is_leaf_of}
use Rattle.mo_values.specs.Shapes.{Leaf}

only_some : (b : Bool) (p : Datum) → is_some (only_if b p) ≡ true → only_if b p ≡ Some p
only_some true p e = refl
only_some false p e = absurd (let f : false ≡ true = e in cc)

pub leaf_part : {A : Type 0} (n : Node A) (k : ℕ) (p : Datum) → is_any n ≡ false → is_some (part_at n (Leaf p) k) ≡ true → part_at n (Leaf p) k ≡ Some p
leaf_part node.Any k p other e = absurd (let f : true ≡ false = other in cc)
leaf_part n k p other e = only_some (nat_eq k 0 && is_leaf_of n p) p e

pub then_ok : {A E : Type 0} (P Q : A → Type 0) (r : Result A E) → IfOk r P → ((a : A) → P a → Q a) → IfOk r Q
then_ok P Q (Ok a) p f = f a p
then_ok P Q (Err e) p f = tt
