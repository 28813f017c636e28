use Rattle.built_in_members.proofs.Interned.{wrote}
use Rattle.built_in_members.proofs.writing.write.Goals as goal

pub returns : goal.returns
returns c = λ u e. wrote c.args.types.now c.intern.new.self c.args.form c.intern.result c.intern.ensures.kept c.intern.ensures.goes c.intern.ensures.stands c.intern.ensures.made u e
