use Rattle.std.proofs.Common.{◌∙◌, ◌++◌, ◌∷◌, [], ap}
use Rattle.candid_write.proofs.Refs.{ref_code, ref_place}
use Rattle.candid_write.proofs.Adds.{ok_then}
use Rattle.candid_write.proofs.Closing.{known_if}
use Rattle.candid_write.proofs.header.put_ref.Goals as goal

pub returns-in-Some : goal.returns-in-Some
returns-in-Some c = ok_then c.push.result c.push.ensures.ok (λ e. ref_code c.args.table.now c.args.number c.in-Some.simple c.args.out.now c.push.new.self c.in-Some.ensures (e ∙ ap (λ z. c.args.out.now ++ z ∷ []) c.code.ensures))

pub place_of-requires-clause-known : goal.place_of-requires-clause-known
place_of-requires-clause-known c = known_if c.args.table.now c.args.number c.requires.placed c.in-None.ensures

pub returns-in-None : goal.returns-in-None
returns-in-None c = ok_then c.put_place.result c.put_place.ensures (λ e. ref_place c.args.table.now c.args.number c.place_of.result c.args.out.now c.put_place.new.out c.in-None.ensures c.place_of.ensures e)
