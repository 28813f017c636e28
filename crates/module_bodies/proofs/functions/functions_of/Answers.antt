use Rattle.std.proofs.Common.{◌∙◌}
use Rattle.module_bodies.proofs.Listing.{in_module}
use Rattle.module_bodies.proofs.functions.functions_of.Goals as goal

pub returns : goal.returns
returns c = λ more own h. c.in_ok-list.ensures ∙ in_module c.args.program.now more own c.args.known.now h
