use Rattle.std.proofs.Common.{refl, ◌++◌, [], ◌∷◌, None, Err, sym, subst}
use Rattle.ic0_world.specs.Act as act
use Rattle.ic0_world.specs.Act.{Does}
use Rattle.ic0_world.proofs.Ranges.{within, outside}
use Rattle.ic0_world.proofs.world.World.act.Goals as goal

pub returns-in-Some : goal.returns-in-Some
returns-in-Some c = record {
  does =
      subst (λ f. Does (act.act f c.args.args.now c.args.memory.now.bytes c.args.self.now) c.append_reply.result c.args.memory.now.bytes c.append_reply.new.self) (sym c.in-MsgReplyDataAppend.is)
      (within (act.at32 c.args.args.now 0) (act.at32 c.args.args.now 1) c.args.memory.now.bytes c.in-Some.more.now c.args.self.now (λ more. act.append_reply more c.args.memory.now.bytes c.args.self.now) c.append_reply.result c.args.memory.now.bytes c.append_reply.new.self (c.in-Some.ensures) (c.append_reply.ensures c.args.memory.now.bytes));
  unchanged = λ h. refl;
  size = refl;
  kept = refl;
  limit = refl;
}

pub returns-in-None : goal.returns-in-None
returns-in-None c = record {
  does =
      subst (λ f. Does (act.act f c.args.args.now c.args.memory.now.bytes c.args.self.now) (Err c.misuse.result) c.args.memory.now.bytes c.misuse.new.self) (sym c.in-MsgReplyDataAppend.is)
      (outside (act.at32 c.args.args.now 0) (act.at32 c.args.args.now 1) c.args.memory.now.bytes c.args.self.now (λ more. act.append_reply more c.args.memory.now.bytes c.args.self.now) (Err c.misuse.result) c.args.memory.now.bytes c.misuse.new.self (c.in-None.ensures) (c.misuse.ensures c.args.memory.now.bytes));
  unchanged = λ h. refl;
  size = refl;
  kept = refl;
  limit = refl;
}

pub returns-in-Some-range_at : goal.returns-in-Some-range_at
returns-in-Some-range_at c = record {
  does =
      subst (λ f. Does (act.act f c.args.args.now c.args.memory.now.bytes c.args.self.now) c.reject.result c.args.memory.now.bytes c.reject.new.self) (sym c.in-MsgReject.is)
      (within (act.at32 c.args.args.now 0) (act.at32 c.args.args.now 1) c.args.memory.now.bytes c.in-Some-range_at.text.now c.args.self.now (λ text. act.rejects text c.args.memory.now.bytes c.args.self.now) c.reject.result c.args.memory.now.bytes c.reject.new.self (c.in-Some-range_at.ensures) (c.reject.ensures c.args.memory.now.bytes));
  unchanged = λ h. refl;
  size = refl;
  kept = refl;
  limit = refl;
}

pub returns-in-None-range_at : goal.returns-in-None-range_at
returns-in-None-range_at c = record {
  does =
      subst (λ f. Does (act.act f c.args.args.now c.args.memory.now.bytes c.args.self.now) (Err c.misuse-in-None-range_at.result) c.args.memory.now.bytes c.misuse-in-None-range_at.new.self) (sym c.in-MsgReject.is)
      (outside (act.at32 c.args.args.now 0) (act.at32 c.args.args.now 1) c.args.memory.now.bytes c.args.self.now (λ text. act.rejects text c.args.memory.now.bytes c.args.self.now) (Err c.misuse-in-None-range_at.result) c.args.memory.now.bytes c.misuse-in-None-range_at.new.self (c.in-None-range_at.ensures) (c.misuse-in-None-range_at.ensures c.args.memory.now.bytes));
  unchanged = λ h. refl;
  size = refl;
  kept = refl;
  limit = refl;
}

pub returns-in-MsgReply : goal.returns-in-MsgReply
returns-in-MsgReply c = record {
  does =
      subst (λ f. Does (act.act f c.args.args.now c.args.memory.now.bytes c.args.self.now) c.reply.result c.args.memory.now.bytes c.reply.new.self) (sym c.in-MsgReply.is) (c.reply.ensures c.args.memory.now.bytes);
  unchanged = λ h. refl;
  size = refl;
  kept = refl;
  limit = refl;
}

pub returns-in-CallOnCleanup : goal.returns-in-CallOnCleanup
returns-in-CallOnCleanup c = record {
  does =
      subst (λ f. Does (act.act f c.args.args.now c.args.memory.now.bytes c.args.self.now) c.set_cleanup.result c.args.memory.now.bytes c.set_cleanup.new.self) (sym c.in-CallOnCleanup.is)
      (subst (λ callback. Does (act.with_prepared c.args.self.now (λ call. act.set_cleanup callback call c.args.memory.now.bytes c.args.self.now)) c.set_cleanup.result c.args.memory.now.bytes c.set_cleanup.new.self) c.callback_at.ensures (c.set_cleanup.ensures c.args.memory.now.bytes));
  unchanged = λ h. refl;
  size = refl;
  kept = refl;
  limit = refl;
}

pub returns-in-Some-range_at-2 : goal.returns-in-Some-range_at-2
returns-in-Some-range_at-2 c = record {
  does =
      subst (λ f. Does (act.act f c.args.args.now c.args.memory.now.bytes c.args.self.now) c.append_argument.result c.args.memory.now.bytes c.append_argument.new.self) (sym c.in-CallDataAppend.is)
      (within (act.at32 c.args.args.now 0) (act.at32 c.args.args.now 1) c.args.memory.now.bytes c.in-Some-range_at-2.more.now c.args.self.now (λ more. act.with_prepared c.args.self.now (λ call. act.append_argument more call c.args.memory.now.bytes c.args.self.now)) c.append_argument.result c.args.memory.now.bytes c.append_argument.new.self (c.in-Some-range_at-2.ensures) (c.append_argument.ensures c.args.memory.now.bytes));
  unchanged = λ h. refl;
  size = refl;
  kept = refl;
  limit = refl;
}

pub returns-in-None-range_at-2 : goal.returns-in-None-range_at-2
returns-in-None-range_at-2 c = record {
  does =
      subst (λ f. Does (act.act f c.args.args.now c.args.memory.now.bytes c.args.self.now) (Err c.misuse-in-None-range_at-2.result) c.args.memory.now.bytes c.misuse-in-None-range_at-2.new.self) (sym c.in-CallDataAppend.is)
      (outside (act.at32 c.args.args.now 0) (act.at32 c.args.args.now 1) c.args.memory.now.bytes c.args.self.now (λ more. act.with_prepared c.args.self.now (λ call. act.append_argument more call c.args.memory.now.bytes c.args.self.now)) (Err c.misuse-in-None-range_at-2.result) c.args.memory.now.bytes c.misuse-in-None-range_at-2.new.self (c.in-None-range_at-2.ensures) (c.misuse-in-None-range_at-2.ensures c.args.memory.now.bytes));
  unchanged = λ h. refl;
  size = refl;
  kept = refl;
  limit = refl;
}

pub returns-in-CallPerform : goal.returns-in-CallPerform
returns-in-CallPerform c = record {
  does =
      subst (λ f. Does (act.act f c.args.args.now c.args.memory.now.bytes c.args.self.now) c.perform.result c.args.memory.now.bytes c.perform.new.self) (sym c.in-CallPerform.is) (c.perform.ensures c.args.memory.now.bytes);
  unchanged = λ h. refl;
  size = refl;
  kept = refl;
  limit = refl;
}

pub returns-in-Some-range64_at : goal.returns-in-Some-range64_at
returns-in-Some-range64_at c = record {
  does =
      subst (λ f. Does (act.act f c.args.args.now c.args.memory.now.bytes c.args.self.now) c.write_stable.result c.args.memory.now.bytes c.write_stable.new.self) (sym c.in-StableWrite.is)
      (within (act.at64 c.args.args.now 1) (act.at64 c.args.args.now 2) c.args.memory.now.bytes c.in-Some-range64_at.these.now c.args.self.now (λ these. act.write_stable (act.at64 c.args.args.now 0) these c.args.memory.now.bytes c.args.self.now) c.write_stable.result c.args.memory.now.bytes c.write_stable.new.self (c.in-Some-range64_at.ensures) (subst (λ offset. Does (act.write_stable offset c.in-Some-range64_at.these.now c.args.memory.now.bytes c.args.self.now) c.write_stable.result c.args.memory.now.bytes c.write_stable.new.self) c.at64-in-Some-range64_at.ensures (c.write_stable.ensures c.args.memory.now.bytes)));
  unchanged = λ h. refl;
  size = refl;
  kept = refl;
  limit = refl;
}

pub returns-in-None-range64_at : goal.returns-in-None-range64_at
returns-in-None-range64_at c = record {
  does =
      subst (λ f. Does (act.act f c.args.args.now c.args.memory.now.bytes c.args.self.now) (Err c.misuse-in-None-range64_at.result) c.args.memory.now.bytes c.misuse-in-None-range64_at.new.self) (sym c.in-StableWrite.is)
      (outside (act.at64 c.args.args.now 1) (act.at64 c.args.args.now 2) c.args.memory.now.bytes c.args.self.now (λ these. act.write_stable (act.at64 c.args.args.now 0) these c.args.memory.now.bytes c.args.self.now) (Err c.misuse-in-None-range64_at.result) c.args.memory.now.bytes c.misuse-in-None-range64_at.new.self (c.in-None-range64_at.ensures) (c.misuse-in-None-range64_at.ensures c.args.memory.now.bytes));
  unchanged = λ h. refl;
  size = refl;
  kept = refl;
  limit = refl;
}

pub returns-in-None-range_at-3 : goal.returns-in-None-range_at-3
returns-in-None-range_at-3 c = record {
  does =
      subst (λ f. Does (act.act f c.args.args.now c.args.memory.now.bytes c.args.self.now) (Err c.misuse-in-None-range_at-3.result) c.args.memory.now.bytes c.misuse-in-None-range_at-3.new.self) (sym c.in-DebugPrint.is)
      (outside (act.at32 c.args.args.now 0) (act.at32 c.args.args.now 1) c.args.memory.now.bytes c.args.self.now (λ text. act.Gives None c.args.memory.now.bytes (record c.args.self.now { prints = c.args.self.now.prints ++ text ∷ [] })) (Err c.misuse-in-None-range_at-3.result) c.args.memory.now.bytes c.misuse-in-None-range_at-3.new.self (c.in-None-range_at-3.ensures) (c.misuse-in-None-range_at-3.ensures c.args.memory.now.bytes));
  unchanged = λ h. refl;
  size = refl;
  kept = refl;
  limit = refl;
}

pub returns-in-None-range_at-4 : goal.returns-in-None-range_at-4
returns-in-None-range_at-4 c = record {
  does =
      subst (λ f. Does (act.act f c.args.args.now c.args.memory.now.bytes c.args.self.now) (Err c.misuse-in-None-range_at-4.result) c.args.memory.now.bytes c.misuse-in-None-range_at-4.new.self) (sym c.in-Trap.is)
      (outside (act.at32 c.args.args.now 0) (act.at32 c.args.args.now 1) c.args.memory.now.bytes c.args.self.now (λ text. act.trapped_with text c.args.self.now) (Err c.misuse-in-None-range_at-4.result) c.args.memory.now.bytes c.misuse-in-None-range_at-4.new.self (c.in-None-range_at-4.ensures) (c.misuse-in-None-range_at-4.ensures c.args.memory.now.bytes));
  unchanged = λ h. refl;
  size = refl;
  kept = refl;
  limit = refl;
}
