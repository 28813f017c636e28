-- A typed expression goes on: its reduction is neither stuck nor, outside all labels, a jump.
use Rattle.std.proofs.Common.{◌≡◌, ◌≢◌, ℕ, List, [], None, Some, subst}
use Rattle.mo_types.specs.declared.node.TypeId.{TypeId}
use Rattle.typed_tree.specs.Language.{Exp, Value}
use Rattle.typed_tree.specs.Wants.{Want}
use Rattle.mo_meaning.specs.Acts.{Store, Leaves, Stuck}
use Rattle.mo_meaning.specs.Reduce.{reduce}
use Rattle.mo_soundness.specs.Keeps.{IsNoValue, Keeps, closed}
use Rattle.mo_soundness.specs.Lawful.{IsLawful}
use Rattle.mo_soundness.specs.Running.{AnswerTypes, StoreTyped, Typed}
use Rattle.mo_soundness.specs.Worlds.{World}
use Rattle.mo_soundness.proofs.Members.{members_keep}
use Rattle.mo_soundness.proofs.Steps.{keeps}

module _ (world : World) (lawful : IsLawful world.head) (answers : AnswerTypes) (kinds : List TypeId) (w : Want TypeId) (store : Store) (e : Exp) (n : IsNoValue e) (s : StoreTyped world answers kinds store kinds) (h : Typed world answers kinds (closed []) e w) where
  kept : Keeps world answers kinds [] w (reduce world.meant None store e)
  kept = keeps world lawful answers kinds (members_keep world lawful answers kinds) None store s e [] w n h tt

  pub no_stuck : reduce world.meant None store e ≢ Stuck
  no_stuck q = subst (λ a. Keeps world answers kinds [] w a) q kept

  pub no_jump : (label : ℕ) (v : Value) → reduce world.meant None store e ≢ Leaves label v
  no_jump label v q = let k = subst (λ a. Keeps world answers kinds [] w a) q kept in absurd (let z : None ≡ Some k.0 = k.1 in cc)
