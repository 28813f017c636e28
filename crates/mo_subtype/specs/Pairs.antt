-- Pairs of types, and how they are compared and hashed.
use Rattle.std.proofs.Common.{◌≡◌, ℕ, Bool, true, false, ◌&&◌, List, ◌++◌, refl, ap, ◌∙◌}
use Rattle.std.specs.Bool.{Decides}
use Rattle.std.specs.Hash as fed
use Rattle.mo_types.specs.declared.node.TypeId.{TypeId}
use Rattle.mo_types.specs.Layout.{same_id}
use Rattle.mo_types.specs.Same.{id_decides}
use Rattle.mo_subtype.specs.declared.pairs.Pair.{Pair}

abbrev pub same_pair : Pair TypeId → Pair TypeId → Bool
same_pair p q = same_id p.low q.low && same_id p.high q.high

abbrev pub fed_pair : Pair TypeId → List (List ℕ)
fed_pair p = fed.u32 p.low.index ++ fed.u32 p.high.index

abbrev pair_of : TypeId → TypeId → Pair TypeId
pair_of a b = record { low = a; high = b }

and_true : (b c : Bool) → b ≡ true → c ≡ true → b && c ≡ true
and_true true c e f = f
and_true false c e f = e

and_first : (b c : Bool) → b && c ≡ true → b ≡ true
and_first true c h = refl
and_first false c h = h

and_second : (b c : Bool) → b && c ≡ true → c ≡ true
and_second true c h = h
and_second false c h = cc

pub pair_decides : (p q : Pair TypeId) → Decides (same_pair p q) (p ≡ q)
pair_decides p q = (to, from) where
  to : same_pair p q ≡ true → p ≡ q
  to h =
      let a : p.low ≡ q.low = (id_decides p.low q.low).0 (and_first (same_id p.low q.low) (same_id p.high q.high) h) in
      let b : p.high ≡ q.high = (id_decides p.high q.high).0 (and_second (same_id p.low q.low) (same_id p.high q.high) h) in
      ap (λ x. pair_of x p.high) a ∙ ap (λ x. pair_of q.low x) b

  from : p ≡ q → same_pair p q ≡ true
  from h = and_true (same_id p.low q.low) (same_id p.high q.high) ((id_decides p.low q.low).1 (ap (λ (x : Pair TypeId). x.low) h)) ((id_decides p.high q.high).1 (ap (λ (x : Pair TypeId). x.high) h))
