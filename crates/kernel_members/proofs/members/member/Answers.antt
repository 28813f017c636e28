use Rattle.kernel_members.proofs.Accessed.{member_made}
use Rattle.kernel_members.proofs.Heads.{access_is}
use Rattle.kernel_members.proofs.members.member.Goals as goal

pub returns : goal.returns
returns c =
    member_made c.args.types.now c.args.kind c.accessed.result c.args.of c.args.name.now c.access_at-access.result c.args.a
    (access_is c.args.types.now c.args.of c.in_ok-head.head.now c.in_ok-head.ensures c.args.name.now c.access_at-access.result c.access_at-access.ensures) c.accessed.ensures
