use Rattle.std.proofs.Common.{string_bytes, Global, arith}
use Rattle.mo_words.proofs.Files.{are_files, files_are}
use Rattle.mo_words.proofs.command.are_files.Goals as goal

pub returns : goal.returns
returns c = (
  λ h. are_files (string_bytes {Z = Global}) c.args.files.now (grind arith) (omega arith) (c.are_named.ensures.0 h),
  λ h. c.are_named.ensures.1 (files_are (string_bytes {Z = Global}) c.args.files.now h).2,
)
