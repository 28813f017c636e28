use Rattle.std.proofs.Common.{◌≡◌, ◌∙◌, ◌++◌, ◌∷◌, [], ◌+◌, ◌-◌, ◌*◌, suc, ap, sym, drop, pos, Some, length, map, take, subst, arith, List, ℕ, refl}
use Rattle.core_ir.specs.declared.code.Operand.{Operand}
use Rattle.low_ir.specs.Flat.{flat}
use Rattle.low_ir.specs.Tree.{Code}
use Rattle.flat_emission.specs.Emission as emission
use Rattle.body_lists.specs.Known.{here_of, link_of, plan_of}
use Rattle.wasm_tree.specs.declared.op.StoreKind.TheVariants as store
use Rattle.low_ir.specs.declared.op.Operand.TheVariants.{Local}
use Rattle.low_ir.specs.Tree.{Store}
use Rattle.body_lists.proofs.code.push_capture.Goals as goal

pub returns : goal.returns
returns c = λ rest. c.in_ok-push_captured.ensures rest ∙ c.in_ok-push_fetch.ensures (Store store.I64 (Local (emission.first_word (here_of c.args.here))) (8 * c.args.word) (emission.place (plan_of c.args.known.now) (link_of c.args.known.now) (here_of c.args.here) 0 c.args.operand.now) rest)
