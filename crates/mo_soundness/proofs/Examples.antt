-- The small expression is typed, and the graph is lawful.
use Rattle.std.proofs.Common.{◌≡◌, inl, ℕ, zero, suc, [], ◌∷◌, refl, arith, pos}
use Rattle.std.proofs.lemmas.Int.{ints}
use Rattle.mo_num.specs.Kinds.{InRange}
use Rattle.mo_num.specs.declared.kind.Kind.TheVariants as kind
use Rattle.mo_types.specs.declared.node.Node.TheVariants as node
use Rattle.mo_types.specs.declared.node.Sort.TheVariants as sort
use Rattle.mo_types.specs.declared.node.TypeId.{TypeId}
use Rattle.mo_types.specs.Sub.{IsSubtype}
use Rattle.subtype_laws.specs.Labels.{OwnLabels}
use Rattle.typed_tree.specs.Wants.{Of}
use Rattle.mo_soundness.specs.Circle.{at}
use Rattle.mo_soundness.specs.Examples.{basic_head, nat, no_calls, sum}
use Rattle.mo_soundness.specs.Keeps.{closed}
use Rattle.mo_soundness.specs.Lawful.{IsLawful}
use Rattle.mo_soundness.specs.Running.{Typed}
use Rattle.mo_soundness.specs.Worlds.{plain_world}
use Rattle.mo_soundness.proofs.Wanted.{reflexive}

own : (i : ℕ) → OwnLabels (basic_head (at i))
own zero = tt
own (suc zero) = tt
own (suc (suc zero)) = tt
own (suc (suc (suc i))) = tt

no_variable : (i : ℕ) (b : TypeId) (n : ℕ) → basic_head (at i) ≡ node.Variable n b → ⊥
no_variable zero b n e = cc
no_variable (suc zero) b n e = cc
no_variable (suc (suc zero)) b n e = cc
no_variable (suc (suc (suc i))) b n e = cc

pub basic_lawful : IsLawful basic_head
basic_lawful = record {
  own = λ t. own t.index;
  one = λ t u b c n e f. absurd (no_variable t.index b n e);
  flag = at 0;
  is_flag = refl;
  unit = at 1;
  is_unit = refl;
  natural = at 2;
  is_natural = refl;
}

one_nat : InRange kind.Nat (pos 1)
one_nat = (omega (arith, ints), omega (arith, ints))

nat_self : IsSubtype basic_head nat nat
nat_self = reflexive basic_head basic_lawful nat

pub sum_typed : Typed (plain_world basic_head) no_calls [] (closed []) sum (Of nat)
sum_typed = (
  Of nat,
  ((tt, one_nat), tt),
  (Of nat ∷ [], (nat, nat_self, refl), inl (Of nat ∷ Of nat ∷ [], inl (sort.Local, Of nat, (nat, refl, refl, refl), nat_self), ((Of nat, refl, nat_self), (((tt, one_nat), tt), tt))), tt),
)
