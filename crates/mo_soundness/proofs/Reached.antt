-- What a typed expression comes to is typed.
use Rattle.std.proofs.Common.{◌≡◌, List, [], ◌++◌, None, ap, ◌∙◌, subst, append_assoc}
use Rattle.mo_types.specs.declared.node.Node.{Node}
use Rattle.mo_types.specs.declared.node.TypeId.{TypeId}
use Rattle.mo_values.specs.Costs.{Cost}
use Rattle.mo_values.specs.Shapes.{Bytes}
use Rattle.typed_tree.specs.Language.{Exp, Val}
use Rattle.typed_tree.specs.Wants.{Want}
use Rattle.mo_meaning.specs.Acts.{Store, Goes, Prints, Stuck}
use Rattle.mo_meaning.specs.Reduce.{reduce}
use Rattle.mo_soundness.specs.Keeps.{IsLonger, IsNoValue, Keeps, closed}
use Rattle.mo_soundness.specs.Lawful.{IsLawful}
use Rattle.mo_soundness.specs.Reached.{Reaches, Here, On, Printing}
use Rattle.mo_soundness.specs.Running.{AnswerTypes, StoreTyped, Typed}
use Rattle.mo_soundness.specs.Worlds.{World}
use Rattle.mo_soundness.proofs.Members.{members_keep}
use Rattle.mo_soundness.proofs.More.{longer_self}
use Rattle.mo_soundness.proofs.Steps.{keeps}

longer : (a b c : List TypeId) → IsLonger a b → IsLonger b c → IsLonger a c
longer a b c p q = (p.0 ++ q.0, q.1 ∙ ap (λ x. x ++ q.0) p.1 ∙ append_assoc a p.0 q.0)

goes_none : (head : TypeId → Node TypeId) (store next : Store) (e f : Exp) (cost : Cost) → reduce head None store e ≡ Goes cost next f → IsNoValue e
goes_none head store next (Val v) f cost q = absurd (let z : Stuck ≡ Goes cost next f = q in cc)
goes_none head store next e f cost q = tt

prints_none : (head : TypeId → Node TypeId) (store : Store) (e f : Exp) (cost : Cost) (text : Bytes) → reduce head None store e ≡ Prints cost text f → IsNoValue e
prints_none head store (Val v) f cost text q = absurd (let z : Stuck ≡ Prints cost text f = q in cc)
prints_none head store e f cost text q = tt

module _ (world : World) (lawful : IsLawful world.head) (answers : AnswerTypes) (w : Want TypeId) where
  kept : (kinds : List TypeId) (store : Store) (e : Exp) → IsNoValue e → StoreTyped world answers kinds store kinds → Typed world answers kinds (closed []) e w → Keeps world answers kinds [] w (reduce world.meant None store e)
  kept kinds store e n s h = keeps world lawful answers kinds (members_keep world lawful answers kinds) None store s e [] w n h tt

  pub reached : (kinds : List TypeId) (store last : Store) (e g : Exp) → StoreTyped world answers kinds store kinds → Typed world answers kinds (closed []) e w → Reaches world.meant store e last g
      → (more : List TypeId) × IsLonger kinds more × StoreTyped world answers more last more × Typed world answers more (closed []) g w
  reached kinds store last e g s h Here = (kinds, longer_self kinds, s, h)
  reached kinds store last e g s h (On {next = next} {f = f} {cost = cost} q r) =
      let k = subst (λ a. Keeps world answers kinds [] w a) q (kept kinds store e (goes_none world.meant store next e f cost q) s h) in
      let l = reached k.0 next last f g k.2 k.3 r in
      (l.0, longer kinds k.0 l.0 k.1 l.1, l.2, l.3)
  reached kinds store last e g s h (Printing {f = f} {cost = cost} {text = text} q r) =
      let k = subst (λ a. Keeps world answers kinds [] w a) q (kept kinds store e (prints_none world.meant store e f cost text q) s h) in
      reached kinds store last f g s k.1 r
