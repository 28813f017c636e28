use Rattle.kernel_principals.proofs.Texts.{bytes_back}
use Rattle.kernel_principals.proofs.principals.principal.Goals as goal

pub returns-in-Some : goal.returns-in-Some
returns-in-Some c = bytes_back c.in-Some.read c.args.text.now c.in-Some.ensures.0 c.in-Some.ensures.1
